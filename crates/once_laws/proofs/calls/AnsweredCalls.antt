-- What holds of each call that the plain server answers, by its mark and its answers, holds of each
-- call that a run's connections served.
use Rattle.std.proofs.Common.{◌≡◌, refl, sym, ap, subst, ◌∙◌, Bool, true, false, ℕ, suc, ◌&&◌, ◌||◌, List, [], ◌∷◌, map, Option, Some, None, ◌⊎◌, inl, inr, if◌then◌else◌}
use Rattle.std.specs.Prelude.{◌==◌, is_some, is_none, length, slice_get}
use Rattle.std.specs.List.{list_all}
use Rattle.std.specs.Option.{option_map_or}
use Rattle.std.proofs.lemmas.Bool.{and_parts, and_from, or_cases}
use Rattle.std.proofs.lemmas.List.{nil_from_length}
use Rattle.std.proofs.lemmas.List.Folds.{list_all-append}
use Rattle.svc_values.specs.declared.answer.Answer.{Answer}
use Rattle.svc_values.specs.declared.call.Call.{Call}
use Rattle.svc_values.specs.declared.draw.Draw.{Draw}
use Rattle.svc_values.specs.declared.entry.Ltxid.{Ltxid}
use Rattle.svc_values.specs.declared.entry.SessionId.{SessionId}
use Rattle.svc_values.specs.declared.frame.Up.{Up}
use Rattle.svc_values.specs.declared.frame.Up.TheVariants as up
use Rattle.svc_values.specs.declared.frame.Down.{Down}
use Rattle.svc_values.specs.declared.frame.Down.TheVariants as down
use Rattle.svc_values.specs.meaning.Identifiers.{same_session, session_of}
use Rattle.svc_values.specs.meaning.Same.{same_answers, same_bool, same_call}
use Rattle.svc_values.specs.SameLaws.{same_answers_decide, same_bool_decides, same_call_decides}
use Rattle.outage_schedule.specs.declared.item.Item.{Item}
use Rattle.outage_schedule.specs.declared.item.Item.TheVariants as item
use Rattle.server_model.specs.meaning.Base.{Base}
use Rattle.server_model.specs.Core.{Core}
use Rattle.server_model.specs.meaning.Outcomes.{Telling, Says, Stopped, telling_of}
use Rattle.server_model.specs.Runs.{Happened, Served, Asked, Server, Moves, Makes, Answers, Halts, Loses, AnswersAsk, HaltsInAsk, Reaps, Falls, Opens, StopsOpening, Runs, Start, Then}
use Rattle.server_model.specs.Serve.{Calls, Serve, Connects, Begins, Ends, Closes, Asks, Runs as Serves, Refuses}
use Rattle.server_model.specs.Sessions.{Sess}
use Rattle.world_model.specs.records.Basic.{first_is_connect, is_named}
use Rattle.world_model.specs.meaning.Crashing.{is_crashed_item}
use Rattle.world_model.specs.meaning.Frames.{Handled}
use Rattle.world_model.specs.Orderly.{Orderly}
use Rattle.world_model.specs.meaning.Links.{Link}
use Rattle.world_model.specs.Parts.{implies}
use Rattle.world_model.specs.RunLaws.{RunsAreOrderly}
use Rattle.invariant_laws.specs.SameLaws.{HoldsAtEnds, HoldsInRuns, RunsServe}
use Rattle.world_model.specs.meaning.Serving.{is_item_of, reply_of, identifier}
use Rattle.invariant_laws.specs.SessionHistory.{served_in, told_with, told_of}
use Rattle.world_model.specs.Traced.{Traced}
use Rattle.world_model.specs.records.Wire.{is_handled, counted_with, handled_from, same_replies}
use Rattle.world_model.proofs.Offered.{at_link, implied, by_index, reached_coupled, finishing_reached, eq_from}
use Rattle.invariant_laws.proofs.Offered.{served_pass}

-- of a call that was answered
abbrev pub tells : (Bool → Call → List Answer → Bool) → Up → Telling → Bool
tells holds (up.Call replay kept called) (Says (down.Reply answers draws x)) = holds replay called answers
tells holds _ _ = true

abbrev pub CallsTell : (Bool → Call → List Answer → Bool) → Type 0
CallsTell holds =
    (core : Core) (sess : Sess) (replay : Bool) (kept : List Draw) (now : ℕ) (called : Call) (after : Core) (t : Sess) (told : Telling) → Calls core sess replay kept now called after t told → tells holds (up.Call replay kept called) told ≡ true

-- of the item of one
abbrev pub told_by_item : (Bool → Call → List Answer → Bool) → Item → Bool
told_by_item holds (item.Call marked called answers draws) = holds marked called answers
told_by_item holds _ = true

abbrev pub of_links : (Item → Bool) → Traced → Bool
of_links test t = list_all (served_pass test) t.machine.links

pub crashed_not : {A : Type 0} (frame : Up) (marked : Bool) (called : Call) (answers : List Answer) (draws : List Draw) → is_crashed_item frame (item.Call marked called answers draws) ≡ true → A
crashed_not (up.Call replay kept sent) marked called answers draws is = absurd (let none : ⊥ = cc in none)
crashed_not (up.Outcome x) marked called answers draws is = absurd (let none : ⊥ = cc in none)
crashed_not frame marked called answers draws is = absurd (let none : ⊥ = cc in none)

module _ (holds : Bool → Call → List Answer → Bool) (calls_tell : CallsTell holds) where
  -- ONE FRAME -------------------------------------------------------------------------------------

  stopped_tells : (frame : Up) → tells holds frame Stopped ≡ true
  stopped_tells (up.Call replay kept called) = refl
  stopped_tells frame = refl

  refused_tells : (frame : Up) (cause : ℕ) → tells holds frame (Says (down.Refused cause)) ≡ true
  refused_tells (up.Call replay kept called) cause = refl
  refused_tells frame cause = refl

  serve_tells : (core : Core) (sess : Sess) (now : ℕ) (frame : Up) (after : Core) (t : Sess) (told : Telling) → Serve core sess now frame after t told → tells holds frame told ≡ true
  serve_tells core sess now _ _ _ _ (Connects life) = refl
  serve_tells core sess now _ _ _ _ (Begins settings serving) = refl
  serve_tells core sess now _ _ _ _ (Ends serving) = refl
  serve_tells core sess now _ _ _ _ (Closes serving) = refl
  serve_tells core sess now _ _ _ _ (Asks x after told serving asked) = refl
  serve_tells core sess now _ _ _ _ (Serves replay kept called after t told begun calls) = calls_tell core sess replay kept now called after t told calls
  serve_tells core sess now _ _ _ _ (Refuses frame out) = refused_tells frame 2

  -- HISTORIES -------------------------------------------------------------------------------------

  abbrev told_rightly : Happened → Bool
  told_rightly (Served session now frame told) = tells holds frame told
  told_rightly (Asked x told) = true

  one_told : (frame : Up) (told : Telling) → tells holds frame told ≡ true → (tells holds frame told && true) ≡ true
  one_told frame told is = and_from (tells holds frame told) true is refl

  moves_tell : (server after : Server) (more : List Happened) → Moves server more after → list_all told_rightly more ≡ true
  moves_tell server _ _ (Makes on) = refl
  moves_tell server _ _ (Answers old new now frame core told after on serve answered turns) = one_told frame told (serve_tells server.core old now frame core new told serve)
  moves_tell server _ _ (Halts old new now frame core told after running serve turns) = one_told frame Stopped (stopped_tells frame)
  moves_tell server _ _ (Loses old now frame after halted turns) = one_told frame Stopped (stopped_tells frame)
  moves_tell server _ _ (AnswersAsk x core frame on asks) = refl
  moves_tell server _ _ (HaltsInAsk x core told running asks) = refl
  moves_tell server _ _ (Reaps front back sess split) = refl
  moves_tell server _ _ Falls = refl
  moves_tell server _ _ (Opens below off may) = refl
  moves_tell server _ _ (StopsOpening below core off may same) = refl

  history_tells : (base : Base) (history : List Happened) (server : Server) → Runs base history server → list_all told_rightly history ≡ true
  history_tells base _ _ Start = refl
  history_tells base _ _ (Then history more server after runs moves) =
      list_all-append told_rightly history more ∙ and_from (list_all told_rightly history) (list_all told_rightly more) (history_tells base history server runs) (moves_tell server after more moves)

  -- what it has of one session
  abbrev pair_tells : Up × Telling → Bool
  pair_tells pair = tells holds pair.0 pair.1

  session_tells : (history : List Happened) (session : SessionId) → list_all told_rightly history ≡ true → list_all pair_tells (served_in history session) ≡ true
  session_tells [] session all = refl
  session_tells (Asked x told ∷ history) session all = session_tells history session all
  session_tells (Served other now frame told ∷ history) session all = by (same_session other session) (session_tells history session parts.1)
    where
      parts : (tells holds frame told ≡ true) × (list_all told_rightly history ≡ true)
      parts = and_parts (tells holds frame told) (list_all told_rightly history) all

      by : (test : Bool) → list_all pair_tells (served_in history session) ≡ true → list_all pair_tells (if test then (frame, told) ∷ served_in history session else served_in history session) ≡ true
      by true rest = and_from (tells holds frame told) (list_all pair_tells (served_in history session)) parts.0 rest
      by false rest = rest

  -- CONNECTIONS -----------------------------------------------------------------------------------

  -- the item of a call, by what its reply tells
  call_tells : (frame : Up) (reply : Option Down) (marked : Bool) (called : Call) (answers : List Answer) (draws : List Draw) (x : Ltxid) → is_item_of frame (item.Call marked called answers draws) ≡ true → same_replies reply (Some (down.Reply answers draws x)) ≡ true
      → tells holds frame (telling_of reply) ≡ true → holds marked called answers ≡ true
  call_tells (up.Call replay kept sent) (Some (down.Reply a d y)) marked called answers draws x is same told =
      let parts = and_parts (same_bool marked replay) (same_call called sent) is in
      let mark : replay ≡ marked = sym ((same_bool_decides marked replay).0 parts.0) in
      let call_is : called ≡ sent = (same_call_decides called sent).0 parts.1 in
      let answers_are : a ≡ answers = (same_answers_decide a answers).0 (and_parts (same_answers a answers) _ same).0 in
      subst (λ (m : Bool). holds m called answers ≡ true) mark (subst (λ (c : Call). holds replay c answers ≡ true) (sym call_is) (subst (λ (l : List Answer). holds replay sent l ≡ true) answers_are told))
  call_tells (up.Call replay kept sent) None marked called answers draws x is same told = absurd (let none : ⊥ = cc in none)
  call_tells (up.Call replay kept sent) (Some reply) marked called answers draws x is same told = absurd (let none : ⊥ = cc in none)
  call_tells frame reply marked called answers draws x is same told = absurd (let none : ⊥ = cc in none)

  handled_tells : (commits : ℕ) (one : Handled) → is_handled commits one ≡ true → tells holds one.sent.frame (told_with one.served.item one.reply) ≡ true → told_by_item holds one.served.item ≡ true
  handled_tells commits one handled told = by one.served.item handled told
    where
      by : (it : Item) → ((is_item_of one.sent.frame it && same_replies one.reply (reply_of one.served.session commits it)) || (is_crashed_item one.sent.frame it && is_none one.reply)) ≡ true → tells holds one.sent.frame (told_with it one.reply) ≡ true
          → told_by_item holds it ≡ true
      by (item.Call marked called answers draws) is so = cases (or_cases (is_item_of one.sent.frame (item.Call marked called answers draws) && same_replies one.reply (reply_of one.served.session commits (item.Call marked called answers draws))) (is_crashed_item one.sent.frame (item.Call marked called answers draws) && is_none one.reply) is)
        where
          cases : ((is_item_of one.sent.frame (item.Call marked called answers draws) && same_replies one.reply (reply_of one.served.session commits (item.Call marked called answers draws))) ≡ true) ⊎ ((is_crashed_item one.sent.frame (item.Call marked called answers draws) && is_none one.reply) ≡ true) → holds marked called answers ≡ true
          cases (inl here) =
              let parts = and_parts (is_item_of one.sent.frame (item.Call marked called answers draws)) (same_replies one.reply (reply_of one.served.session commits (item.Call marked called answers draws))) here in
              call_tells one.sent.frame one.reply marked called answers draws (identifier one.served.session commits) parts.0 parts.1 so
          cases (inr here) = crashed_not one.sent.frame marked called answers draws (and_parts (is_crashed_item one.sent.frame (item.Call marked called answers draws)) (is_none one.reply) here).0
      by it is so = refl

  module _ (test : Item → Bool) (items_hold : (it : Item) → told_by_item holds it ≡ true → test it ≡ true) where
    all_tell : (commits : ℕ) (served : List Handled) → handled_from commits served ≡ true → list_all pair_tells (map told_of served) ≡ true → list_all (λ (one : Handled). test one.served.item) served ≡ true
    all_tell commits [] handled told = refl
    all_tell commits (one ∷ served) handled told =
        let now : ℕ = counted_with commits one.served.item in
        let parts = and_parts (is_handled now one) (handled_from now served) handled in
        let both = and_parts (tells holds one.sent.frame (told_with one.served.item one.reply)) (list_all pair_tells (map told_of served)) told in
        and_from (test one.served.item) (list_all (λ (h : Handled). test h.served.item) served) (items_hold one.served.item (handled_tells now one parts.0 both.0)) (all_tell now served parts.1 both.1)

    -- one without a session served nothing
    unnamed_none : (link : Link) → is_named link ≡ true → link.session ≡ None → link.served ≡ []
    unnamed_none link named none =
        let one = and_parts (same_bool (is_some link.session) (first_is_connect link.served)) (implies (is_none link.session) (length link.served == 0) && (list_all (λ h. option_map_or (same_session h.served.session) link.session false) link.served && option_map_or (λ x. option_map_or (same_session (session_of x)) link.session false) link.held true)) named in
        let two = and_parts (implies (is_none link.session) (length link.served == 0)) (list_all (λ h. option_map_or (same_session h.served.session) link.session false) link.served && option_map_or (λ x. option_map_or (same_session (session_of x)) link.session false) link.held true) one.1 in
        nil_from_length link.served (eq_from (length link.served) 0 (implied (is_none link.session) (length link.served == 0) (ap is_none none) two.0))

    pub runs_hold : RunsAreOrderly → RunsServe → HoldsInRuns (of_links test)
    runs_hold orderly serve document events notes items seen t requests reached = by_index (served_pass test) t.machine.links (λ index link there. by index link there link.session refl)
      where
        inv : Orderly t
        inv = orderly document events notes items seen t requests reached

        whole : list_all told_rightly seen.history ≡ true
        whole = let coupled = reached_coupled document events notes items seen t reached in history_tells seen.start seen.history coupled.history.server coupled.history.runs

        by : (index : ℕ) (link : Link) → slice_get t.machine.links index ≡ Some link → (session : Option SessionId) → link.session ≡ session → served_pass test link ≡ true
        by index link there None is = ap (list_all (λ (one : Handled). test one.served.item)) (unnamed_none link (at_link is_named t.machine.links (suc index) link inv.basic.named there) is)
        by index link there (Some session) is =
            all_tell 0 link.served (at_link (λ l. handled_from 0 l.served) t.machine.links (suc index) link inv.wire.handled there)
            (ap (list_all pair_tells) (sym (serve document events notes items seen t requests reached (suc index) link session there is)) ∙ session_tells seen.history session whole)

    pub whole_runs_hold : RunsAreOrderly → RunsServe → HoldsAtEnds (of_links test)
    whole_runs_hold orderly serve document notes items seen t requests run =
        let so = finishing_reached document run.place notes items seen t run.finishing in runs_hold orderly serve document so.0 notes items seen t requests so.1
