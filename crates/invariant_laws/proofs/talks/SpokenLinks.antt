-- The connection on which a request speaks, where it was there before: nothing is out on it but
-- what is said there now, with a call without the mark or with none.
use Rattle.std.proofs.Common.{◌≡◌, refl, sym, ap, subst, ◌∙◌, Bool, true, false, ℕ, ◌+◌, ◌&&◌, ◌||◌, cond, filter, length, List, [], ◌∷◌, ◌++◌, map, Option, Some, None, append-nil, arith}
use Rattle.std.specs.Prelude.{◌==◌, unwrap_or}
use Rattle.std.specs.List.{list_any, last_or}
use Rattle.std.specs.Option.{option_map_or}
use Rattle.std.proofs.lemmas.Bool.{and_parts, or_parts}
use Rattle.std.proofs.lemmas.List.Elements.{filter-append}
use Rattle.std.proofs.lemmas.List.Folds.{list_any-append}
use Rattle.std.proofs.lemmas.List.Sums.{length-filter}
use Rattle.svc_values.specs.declared.call.Call.{Call}
use Rattle.svc_values.specs.declared.frame.Up.{Up}
use Rattle.svc_values.specs.declared.frame.Up.TheVariants as up
use Rattle.svc_values.specs.declared.value.Value.{Value}
use Rattle.pool_core.specs.declared.answers.Back.{Back}
use Rattle.pool_core.specs.declared.answers.Back.TheVariants as back
use Rattle.pool_core.specs.meaning.Slots.{give_back_answer}
use Rattle.client_model.specs.declared.act.Hold.{Hold}
use Rattle.client_model.specs.declared.act.Hold.TheVariants as hold
use Rattle.client_model.specs.declared.input.Input.{Input}
use Rattle.client_model.specs.declared.input.Input.TheVariants.{Opened, Took}
use Rattle.world_model.specs.meaning.Acting.{closing, sent_by, call_in}
use Rattle.world_model.specs.meaning.Clients.{Doing, Step}
use Rattle.world_model.specs.records.Conversing.{connected}
use Rattle.world_model.specs.meaning.Frames.{Owner, Sent}
use Rattle.world_model.specs.records.Hold.{is_idle}
use Rattle.world_model.specs.Orderly.{Orderly}
use Rattle.world_model.specs.meaning.Links.{Link, link_at, sends, takes}
use Rattle.world_model.specs.meaning.Machines.{Machine}
use Rattle.invariant_laws.specs.Once.{are_apart, has_commit_out}
use Rattle.world_model.specs.Parts.{is_rep, count_reps, is_commit_call, is_unmarked_frame}
use Rattle.world_model.specs.Traced.{Traced}
use Rattle.world_model.proofs.Offered.{HasStepped, HeardOn, OfNone, OfIdle, OfNew, OfReply, OfEnded, is_frame, sends_alike, at_event, held_now, last_behind, reps_more, idle_none, taken_none, moves_next_number as next_number, opening, said_mine, lent_idle, first_step, first_doing, eq_from, not_both}
use Rattle.invariant_laws.proofs.sendings.Fates.{call_frames}
use Rattle.invariant_laws.proofs.sendings.FateSteps.{no_connection, Taking, on, out}
use Rattle.invariant_laws.proofs.sendings.FateTaken.{plain_none}
use Rattle.invariant_laws.proofs.talks.Placing.{IsLent, lent_at, said as spoken_frames}

-- FRAMES ------------------------------------------------------------------------------------------

-- where the last one that is answered is a call with a commit, and there is none among these, none
-- of these is answered
none_answered : (found : Option Sent) (frames : List Sent) (last : Sent) → last_or found (filter is_rep frames) ≡ Some last → is_commit_call last ≡ true → list_any is_commit_call frames ≡ false → filter is_rep frames ≡ []
none_answered found [] last is commits none = refl
none_answered found (first ∷ frames) last is commits none = by (is_rep first) is (λ now. none_answered (Some first) frames last now commits parts.1) (λ now. none_answered found frames last now commits parts.1)
  where
    parts : (is_commit_call first ≡ false) × (list_any is_commit_call frames ≡ false)
    parts = or_parts (is_commit_call first) (list_any is_commit_call frames) none

    by : (rep : Bool) → last_or found (cond rep (first ∷ filter is_rep frames) (filter is_rep frames)) ≡ Some last → (last_or (Some first) (filter is_rep frames) ≡ Some last → filter is_rep frames ≡ [])
        → (last_or found (filter is_rep frames) ≡ Some last → filter is_rep frames ≡ []) → cond rep (first ∷ filter is_rep frames) (filter is_rep frames) ≡ []
    by false is with_it without = without is
    by true is with_it without =
        let both : Some first ≡ Some last = sym (ap (last_or (Some first)) (with_it is)) ∙ is in
        let same : first ≡ last = cc in
        absurd (not_both (is_commit_call first) (ap is_commit_call same ∙ commits) parts.0)

-- no such call is out where nothing was out before
pub none_out : (frames : List Sent) (link : Link) (event : ℕ) → count_reps link.sent ≡ length link.taken → list_any is_commit_call frames ≡ false → has_commit_out (sends event frames link) ≡ true → ⊥
none_out frames link event level none = sends_alike (λ (l : Link). has_commit_out l ≡ true → ⊥) event frames link never never
  where
    by : (last : Option Sent) → last_or None (filter is_rep (link.sent ++ frames)) ≡ last → option_map_or is_commit_call last false ≡ true → (count_reps (link.sent ++ frames) == length link.taken + 1) ≡ true → ⊥
    by None is commits out = let nothing : ⊥ = cc in nothing
    by (Some last) is commits out =
        let split : last_or (last_or None (filter is_rep link.sent)) (filter is_rep frames) ≡ Some last = sym (ap (last_or None) (filter-append is_rep link.sent frames) ∙ last_behind None (filter is_rep link.sent) (filter is_rep frames)) ∙ is in
        let silent : filter is_rep frames ≡ [] = none_answered (last_or None (filter is_rep link.sent)) frames last split commits none in
        let few : count_reps frames ≡ 0 = sym (length-filter is_rep frames) ∙ ap length silent in
        let sum : count_reps (link.sent ++ frames) ≡ count_reps link.sent + count_reps frames = reps_more link.sent frames in
        let ahead : count_reps (link.sent ++ frames) ≡ length link.taken + 1 = eq_from (count_reps (link.sent ++ frames)) (length link.taken + 1) out in
        let nothing : ⊥ = omega (arith, few, sum, ahead, level) in
        nothing

    never : ((count_reps (link.sent ++ frames) == length link.taken + 1) && option_map_or is_commit_call (last_or None (filter is_rep (link.sent ++ frames))) false) ≡ true → ⊥
    never here =
        let parts = and_parts (count_reps (link.sent ++ frames) == length link.taken + 1) (option_map_or is_commit_call (last_or None (filter is_rep (link.sent ++ frames))) false) here in
        by (last_or None (filter is_rep (link.sent ++ frames))) refl parts.1 parts.0

module _ (owner : Owner) (place : ℕ) where
  no_calls : (send : List Up) → list_any is_unmarked_frame send ≡ false → list_any is_commit_call (map (sent_by owner place) send) ≡ false
  no_calls [] none = refl
  no_calls (up.Call false kept call ∷ send) none = absurd (let never : ⊥ = cc in never)
  no_calls (up.Call true kept call ∷ send) none = no_calls send none
  no_calls (up.Connect ∷ send) none = no_calls send none
  no_calls (up.Begin settings ∷ send) none = no_calls send none
  no_calls (up.Outcome x ∷ send) none = no_calls send none
  no_calls (up.End ∷ send) none = no_calls send none
  no_calls (up.Close ∷ send) none = no_calls send none

  closes_only : (held : Hold) (how : Back) → list_any is_commit_call (map (sent_by owner place) (closing held how)) ≡ false
  closes_only hold.Keep how = refl
  closes_only hold.Drop how = refl
  closes_only hold.GiveBack back.Closed = refl
  closes_only hold.GiveBack back.Idle = refl

-- A STEP ------------------------------------------------------------------------------------------

module _ (t : Traced) (inv : Orderly t) (apart : are_apart t ≡ true) (new : Traced) (who : ℕ) (step : HasStepped t.setting (at_event t.machine) who new.machine) where
  abbrev m : Machine
  m = at_event t.machine

  abbrev mine : Owner
  mine = record { client = who; place = length step.client.past }

  abbrev one : Step
  one = first_step t.setting m inv.script.talks who new.machine step

  abbrev place_now : ℕ
  place_now = call_in (first_doing t.setting m inv.script.talks who new.machine step).talk.phase

  abbrev said_now : List Sent
  said_now = spoken_frames t.setting m who new.machine step

  -- nothing is out on it but what is said now
  pub record Spoke (connection : ℕ) : Type 0 where
    pub link : Link
    pub none : count_reps link.sent ≡ length link.taken
    pub after : link_at new.machine.links connection ≡ Some (sends m.event said_now link)

  pub spoke : (number : ℕ) → step.connection ≡ Some number → (step.input ≡ Opened (next_number m) → ⊥) → Spoke number
  spoke number has old = by step.before.connection step.input step.after refl refl step.heard_on
    where
      away : {A : Type 0} → step.connection ≡ None → A
      away none = absurd (let never : None ≡ Some number = sym none ∙ has in let nothing : ⊥ = cc in nothing)

      at_number : (connection : ℕ) → step.connection ≡ Some connection → Spoke connection → Spoke number
      at_number connection on_it here =
          let both : Some connection ≡ Some number = sym on_it ∙ has in
          let same : connection ≡ number = cc in
          subst Spoke same here

      by : {kept : Hold} (had : Option ℕ) (input : Input) (after : Doing) → step.before.connection ≡ had → step.input ≡ input → HeardOn t.setting m new.machine who (first_doing t.setting m inv.script.talks who new.machine step) kept said_now after had input → Spoke number
      by _ _ after was is (OfNone had input none plain same) =
          away (sym step.connects ∙ (ap (λ (c : Option ℕ). connected c step.input) (no_connection t inv apart new who step (ap is_frame is ∙ plain)) ∙ (ap (connected None) is ∙ plain_none input none plain)))
      by _ _ after was is (OfIdle had connection x answer same) =
          let lent : IsLent t.setting m who new.machine step connection x = lent_at t.setting m who new.machine step connection x is in
          let idle : is_idle lent.link ≡ true = lent_idle m.pool who connection m.links lent.link answer (held_now t inv).idle lent.there in
          at_number connection (sym step.connects ∙ ap (connected step.before.connection) is) (record { link = lent.link; none = idle_none lent.link idle; after = lent.next })
      by _ _ after was is (OfNew had same) = absurd (old is)
      by _ _ after was is (OfReply had connection link reply later some there down_is next back) =
          let taking : Taking t inv apart new who step =
          record { connection = connection; link = link; reply = reply; later = later; has = was ∙ some; there = there; down_is = down_is; heard = is; after = next } in
          at_number connection (on t inv apart new who step taking)
          (record { link = takes (Took reply.frame link.is_open) reply later link; none = taken_none link reply (out t inv apart new who step taking).out; after = next })
      by _ _ after was is (OfEnded had connection link some there shut next same) = away (sym step.connects ∙ ap (connected step.before.connection) is)

  -- with a call
  pub said_call : (begun : Bool) (settings : List (List ℕ × Value)) (call : Call) → one.done.act.send ≡ opening begun settings ++ up.Call false [] call ∷ [] → one.done.act.hold ≡ hold.Keep → said_now ≡ call_frames mine place_now begun settings call
  said_call begun settings call sends_it keeps =
      said_mine t.setting m inv.script.talks who new.machine step
      ∙ (ap (λ (h : Hold). map (sent_by mine place_now) one.done.act.send ++ map (sent_by mine place_now) (closing h (give_back_answer step.pool (unwrap_or step.connection 0)))) keeps
      ∙ (append-nil (map (sent_by mine place_now) one.done.act.send) ∙ ap (map (sent_by mine place_now)) sends_it))

  -- with none
  pub said_none : list_any is_unmarked_frame one.done.act.send ≡ false → list_any is_commit_call said_now ≡ false
  said_none silent =
      ap (list_any is_commit_call) (said_mine t.setting m inv.script.talks who new.machine step)
      ∙ (list_any-append is_commit_call (map (sent_by mine place_now) one.done.act.send) (map (sent_by mine place_now) (closing one.done.act.hold (give_back_answer step.pool (unwrap_or step.connection 0))))
      ∙ (ap (λ (test : Bool). test || list_any is_commit_call (map (sent_by mine place_now) (closing one.done.act.hold (give_back_answer step.pool (unwrap_or step.connection 0))))) (no_calls mine place_now one.done.act.send silent)
      ∙ closes_only mine place_now one.done.act.hold (give_back_answer step.pool (unwrap_or step.connection 0))))
