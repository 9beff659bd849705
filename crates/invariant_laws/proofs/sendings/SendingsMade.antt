-- The sendings that a step makes: on the connection on which the request speaks, under the
-- identifier that is held there then.
use Rattle.std.proofs.Common.{◌≡◌, refl, sym, ap, subst, ◌∙◌, Bool, true, false, ℕ, ◌&&◌, ◌||◌, filter, flat_map, fold, length, List, [], ◌∷◌, Option, Some, None, ◌⊎◌, inl, inr, if◌then◌else◌}
use Rattle.std.specs.Prelude.{not}
use Rattle.std.specs.List.{list_all, list_any}
use Rattle.std.specs.Option.{option_or, option_map_or}
use Rattle.std.proofs.lemmas.Bool.{and_parts, and_from}
use Rattle.std.proofs.lemmas.List.Folds.{list_all-append}
use Rattle.svc_values.specs.declared.answer.Answer.{Answer}
use Rattle.svc_values.specs.declared.call.Call.{Call}
use Rattle.svc_values.specs.declared.entry.Ltxid.{Ltxid}
use Rattle.svc_values.specs.declared.frame.Down.{Down}
use Rattle.svc_values.specs.declared.frame.Down.TheVariants as down
use Rattle.svc_values.specs.declared.frame.Up.{Up}
use Rattle.svc_values.specs.declared.frame.Up.TheVariants as up
use Rattle.svc_values.specs.SameLaws.{same_ltxid_decides}
use Rattle.client_model.specs.declared.act.Hold.{Hold}
use Rattle.client_model.specs.declared.act.Shown.{Shown}
use Rattle.client_model.specs.declared.input.Input.{Input}
use Rattle.client_model.specs.declared.input.Input.TheVariants.{Start, Waiting, Lent, Opened, TryFailed, Took, Gone}
use Rattle.client_model.specs.meaning.States.{Asking}
use Rattle.client_model.specs.meaning.Talk.{talk_step, waits_from}
use Rattle.client_model.specs.meaning.Terms.{Talk, Phase, Asked}
use Rattle.world_model.specs.meaning.Clients.{Step, Doing}
use Rattle.world_model.specs.records.Conversing.{connected, first_talk}
use Rattle.world_model.specs.meaning.Frames.{Owner, Sent}
use Rattle.world_model.specs.records.Hold.{goes_by, same_held, is_by_held}
use Rattle.world_model.specs.Orderly.{Orderly}
use Rattle.world_model.specs.meaning.Links.{Link, link_at, sends, takes, told_by}
use Rattle.world_model.specs.meaning.Machines.{Machine}
use Rattle.world_model.specs.Parts.{Sending, Scan, answered, sent_on, is_unmarked_frame}
use Rattle.world_model.specs.Traced.{Traced}
use Rattle.world_model.specs.Words.{brought}
use Rattle.world_model.proofs.Offered.{HasStepped, HeardOn, OfNone, OfIdle, OfNew, OfReply, OfEnded, is_frame, at_event, sends_held, scan_by, first_step, before_talks}
use Rattle.invariant_laws.proofs.losses.LostSteps.{before_so}
use Rattle.invariant_laws.proofs.talks.Placing.{IsLent, lent_at, said}
use Rattle.invariant_laws.proofs.talks.TalkAsked.{asks_so, scan_asks, call_told, waited_none, tried_none}

-- LISTS -------------------------------------------------------------------------------------------

pub flat_all : {A B : Type 0} (test : B → Bool) (parts : A → List B) (xs : List A) → list_all test (flat_map parts xs) ≡ list_all (λ x. list_all test (parts x)) xs
flat_all test parts [] = refl
flat_all test parts (x ∷ xs) = list_all-append test (parts x) (flat_map parts xs) ∙ ap (λ (rest : Bool). list_all test (parts x) && rest) (flat_all test parts xs)

-- a test of those of a kind
pub chosen_from : {A : Type 0} (kind test : A → Bool) (xs : List A) → list_all test (filter kind xs) ≡ true → list_all (λ x. not (kind x) || test x) xs ≡ true
chosen_from kind test [] all = refl
chosen_from kind test (x ∷ xs) all = by (kind x) all (chosen_from kind test xs)
  where
    by : (is : Bool) → list_all test (if is then x ∷ filter kind xs else filter kind xs) ≡ true → (list_all test (filter kind xs) ≡ true → list_all (λ y. not (kind y) || test y) xs ≡ true)
        → ((not is || test x) && list_all (λ y. not (kind y) || test y) xs) ≡ true
    by true all later = let parts = and_parts (test x) (list_all test (filter kind xs)) all in and_from (test x) (list_all (λ y. not (kind y) || test y) xs) parts.0 (later parts.1)
    by false all later = later all

pub chosen_to : {A : Type 0} (kind test : A → Bool) (xs : List A) → list_all (λ x. not (kind x) || test x) xs ≡ true → list_all test (filter kind xs) ≡ true
chosen_to kind test [] all = refl
chosen_to kind test (x ∷ xs) all = by (kind x) (and_parts (not (kind x) || test x) (list_all (λ y. not (kind y) || test y) xs) all).0 (chosen_to kind test xs (and_parts (not (kind x) || test x) (list_all (λ y. not (kind y) || test y) xs) all).1)
  where
    by : (is : Bool) → (not is || test x) ≡ true → list_all test (filter kind xs) ≡ true → list_all test (if is then x ∷ filter kind xs else filter kind xs) ≡ true
    by true here later = and_from (test x) (list_all test (filter kind xs)) here later
    by false here later = later

-- SENDINGS ----------------------------------------------------------------------------------------

-- the sending of a call
abbrev pub made : Scan → Call → Ltxid → Sending
made scan call x = record { owner = scan.owner; connection = scan.connection; ltxid = x; at = scan.shown; call = call; taken = None }

module _ (test : Sending → Bool) where
  pub answered_all : ((sending : Sending) (answers : List Answer) → test sending ≡ true → test (record sending { taken = Some answers }) ≡ true)
      → (input : Input) (shown : Option Shown) (sendings : List Sending) → list_all test sendings ≡ true → list_all test (answered input shown sendings) ≡ true
  answered_all keeps (Took (down.Reply answers draws x) alive) (Some shown) [] all = all
  answered_all keeps (Took (down.Reply answers draws x) alive) (Some shown) (sending ∷ earlier) all =
      let parts = and_parts (test sending) (list_all test earlier) all in and_from (test (record sending { taken = Some answers })) (list_all test earlier) (keeps sending answers parts.0) parts.1
  answered_all keeps (Took (down.Reply answers draws x) alive) None sendings all = all
  answered_all keeps (Took (down.Hello x) alive) shown sendings all = all
  answered_all keeps (Took (down.OutcomeIs committed completed) alive) shown sendings all = all
  answered_all keeps (Took (down.OutcomeRefused ahead horizon) alive) shown sendings all = all
  answered_all keeps (Took down.Blocked alive) shown sendings all = all
  answered_all keeps (Took (down.Refused cause) alive) shown sendings all = all
  answered_all keeps Start shown sendings all = all
  answered_all keeps Waiting shown sendings all = all
  answered_all keeps (Lent connection ltxid) shown sendings all = all
  answered_all keeps (Opened connection) shown sendings all = all
  answered_all keeps TryFailed shown sendings all = all
  answered_all keeps (Gone event) shown sendings all = all

  -- of the frames of a step
  pub frames_all : (scan : Scan) (frames : List Up) (sendings : List Sending) → (list_any is_unmarked_frame frames ≡ true → (call : Call) (x : Ltxid) → scan.held ≡ Some x → test (made scan call x) ≡ true) → list_all test sendings ≡ true
      → list_all test (fold (sent_on scan) sendings frames) ≡ true
  frames_all scan [] sendings new all = all
  frames_all scan (up.Call false kept call ∷ frames) sendings new all = frames_all scan frames (sent_on scan sendings (up.Call false kept call)) (λ any. new refl) (by scan.held refl)
    where
      by : (held : Option Ltxid) → scan.held ≡ held → list_all test (option_map_or (λ x. made scan call x ∷ sendings) held sendings) ≡ true
      by None is = all
      by (Some x) is = and_from (test (made scan call x)) (list_all test sendings) (new refl call x is) all
  frames_all scan (up.Call true kept call ∷ frames) sendings new all = frames_all scan frames sendings new all
  frames_all scan (up.Connect ∷ frames) sendings new all = frames_all scan frames sendings new all
  frames_all scan (up.Begin settings ∷ frames) sendings new all = frames_all scan frames sendings new all
  frames_all scan (up.Outcome x ∷ frames) sendings new all = frames_all scan frames sendings new all
  frames_all scan (up.End ∷ frames) sendings new all = frames_all scan frames sendings new all
  frames_all scan (up.Close ∷ frames) sendings new all = frames_all scan frames sendings new all

-- WHERE IT SPEAKS ---------------------------------------------------------------------------------

pub held_same : (a b : Option Ltxid) → same_held a b ≡ true → a ≡ b
held_same None None same = refl
held_same (Some x) (Some y) same = ap Some ((same_ltxid_decides x y).0 same)
held_same None (Some y) same = absurd (let none : ⊥ = cc in none)
held_same (Some x) None same = absurd (let none : ⊥ = cc in none)

module _ (t : Traced) (inv : Orderly t) (who : ℕ) (n : Machine) (step : HasStepped t.setting (at_event t.machine) who n) where
  abbrev m : Machine
  m = at_event t.machine

  abbrev mine : Owner
  mine = record { client = who; place = length step.client.past }

  abbrev scan_before : Scan
  scan_before = scan_by mine step.before.steps

  abbrev one : Step
  one = first_step t.setting m inv.script.talks who n step

  asked_before : asks_so scan_before.held step.before.talk.phase ≡ true
  asked_before =
      let so = before_talks t.setting m inv.script.talks who n step in
      subst (λ (p : Phase). asks_so scan_before.held p ≡ true) (ap (λ (talk : Talk). talk.phase) so.stands)
      (scan_asks t.setting.terms (first_talk step.before.request) (scan_by mine []) step.before.steps so.converses.acts refl)

  -- the connection on which a call is sent, and what is held there behind the step
  pub record Speaks : Type 0 where
    pub connection : ℕ
    pub has : step.connection ≡ Some connection
    pub next : Link
    pub there : link_at n.links connection ≡ Some next
    pub held : next.held ≡ option_or (told_by step.input) scan_before.held

  asks_held : (connection : ℕ) (link : Link) (asking : Asking) → step.before.connection ≡ Some connection → link_at m.links connection ≡ Some link → step.before.talk.phase ≡ Asked asking → link.held ≡ scan_before.held
  asks_held connection link asking has there is =
      let by_it = before_so t inv who n step (is_by_held t) inv.hold.by_held (λ request. refl) in
      let on : option_map_or (λ l. same_held (goes_by step.before.talk.phase) l.held) (link_at m.links connection) false ≡ true =
      subst (λ (c : Option ℕ). option_map_or (λ k. option_map_or (λ l. same_held (goes_by step.before.talk.phase) l.held) (link_at m.links k) false) c true ≡ true) has by_it in
      let here : same_held (goes_by step.before.talk.phase) link.held ≡ true = subst (λ (l : Option Link). option_map_or (λ l. same_held (goes_by step.before.talk.phase) l.held) l false ≡ true) there on in
      let first : Some asking.fresh ≡ link.held = held_same (Some asking.fresh) link.held (subst (λ (p : Phase). same_held (goes_by p) link.held ≡ true) is here) in
      let second : scan_before.held ≡ Some asking.fresh = held_same scan_before.held (Some asking.fresh) (subst (λ (p : Phase). asks_so scan_before.held p ≡ true) is asked_before) in
      sym (second ∙ first)

  pub speaks : list_any is_unmarked_frame one.done.act.send ≡ true → Speaks
  speaks calls = by step.before.connection step.input step.after refl refl step.heard_on
    where
      calls_at : (input : Input) → step.input ≡ input → list_any is_unmarked_frame (talk_step t.setting.terms step.before.talk input m.tick).1.send ≡ true
      calls_at input is = subst (λ (i : Input). list_any is_unmarked_frame (talk_step t.setting.terms step.before.talk i m.tick).1.send ≡ true) is calls

      none_other : (input : Input) → brought input ≡ None → is_frame input ≡ false → list_any is_unmarked_frame (talk_step t.setting.terms step.before.talk input m.tick).1.send ≡ true → ⊥
      none_other Start none frame is = let never : ⊥ = cc in never
      none_other Waiting none frame is = waited_none t.setting.terms step.before.talk (waits_from step.before.talk.phase m.tick) m.tick is
      none_other TryFailed none frame is = tried_none t.setting.terms step.before.talk m.tick is
      none_other (Lent connection x) none frame is = let never : ⊥ = cc in never
      none_other (Opened connection) none frame is = let never : ⊥ = cc in never
      none_other (Took reply alive) none frame is = let never : ⊥ = cc in never
      none_other (Gone event) none frame is = let never : ⊥ = cc in never

      told_or_asked : (frame : Down) (alive : Bool) (connection : ℕ) (link : Link) → step.input ≡ Took frame alive → step.before.connection ≡ Some connection → link_at m.links connection ≡ Some link
          → option_or (told_by (Took frame alive)) link.held ≡ option_or (told_by (Took frame alive)) scan_before.held
      told_or_asked frame alive connection link is has there = cases (call_told t.setting.terms step.before.talk step.before.talk.phase frame alive m.tick (calls_at (Took frame alive) is))
        where
          cases : ((x : Ltxid) × (told_by (Took frame alive) ≡ Some x)) ⊎ ((asking : Asking) × (step.before.talk.phase ≡ Asked asking))
              → option_or (told_by (Took frame alive)) link.held ≡ option_or (told_by (Took frame alive)) scan_before.held
          cases (inl told) = ap (λ (found : Option Ltxid). option_or found link.held) told.1 ∙ sym (ap (λ (found : Option Ltxid). option_or found scan_before.held) told.1)
          cases (inr asked) = ap (option_or (told_by (Took frame alive))) (asks_held connection link asked.0 has there asked.1)

      by : {first : Doing} {kept : Hold} {said : List Sent} (had : Option ℕ) (input : Input) (after : Doing) → step.before.connection ≡ had → step.input ≡ input → HeardOn t.setting m n who first kept said after had input → Speaks
      by _ _ after was heard (OfNone had input none frame same) = absurd (none_other input none frame (calls_at input heard))
      by _ _ after was heard (OfIdle had connection x answer same) =
          let lent : IsLent t.setting m who n step connection x = lent_at t.setting m who n step connection x heard in
          record {
            connection = connection;
            has = sym step.connects ∙ ap (connected step.before.connection) heard;
            next = sends m.event (said t.setting m who n step) lent.link;
            there = lent.next;
            held = sends_held m.event (said t.setting m who n step) lent.link ∙ (lent.held ∙ sym (ap (λ (input : Input). option_or (told_by input) scan_before.held) heard));
          }
      by _ _ after was heard (OfNew had same) = absurd (let never : false ≡ true = calls_at _ heard in let none : ⊥ = cc in none)
      by {said = said} _ _ after was heard (OfReply had connection link reply left some there down next back) =
          record {
            connection = connection;
            has = sym step.connects ∙ (ap (connected step.before.connection) heard ∙ (was ∙ some));
            next = sends m.event said (takes (Took reply.frame link.is_open) reply left link);
            there = next;
            held = sends_held m.event said (takes (Took reply.frame link.is_open) reply left link)
                ∙ (told_or_asked reply.frame link.is_open connection link heard (was ∙ some) there ∙ sym (ap (λ (input : Input). option_or (told_by input) scan_before.held) heard));
          }
      by _ _ after was heard (OfEnded had connection link some there shut next same) = absurd (let never : false ≡ true = calls_at _ heard in let none : ⊥ = cc in none)
