-- An outcome that says committed and completed is of a sending with a commit that is open or
-- committed, and stays so.
use Rattle.std.proofs.Common.{◌≡◌, refl, sym, ap, subst, ◌∙◌, Bool, true, false, ℕ, ◌&&◌, filter, fold, length, List, [], ◌∷◌, Option, Some, None, ◌⊎◌, inl, inr, if◌then◌else◌}
use Rattle.std.specs.Prelude.{◌==◌, not, is_none, is_some}
use Rattle.std.specs.List.{list_all, list_any, last_or}
use Rattle.std.specs.Option.{option_map_or}
use Rattle.std.proofs.lemmas.Bool.{and_parts, and_from, or_cases, or_right, not-true}
use Rattle.svc_values.specs.declared.answer.Answer.{Answer}
use Rattle.svc_values.specs.declared.entry.Ltxid.{Ltxid}
use Rattle.svc_values.specs.declared.frame.Down.TheVariants as down
use Rattle.svc_values.specs.declared.frame.Up.{Up}
use Rattle.svc_values.specs.meaning.Calls.{has_commit}
use Rattle.svc_values.specs.meaning.Endings.{ends_committed}
use Rattle.svc_values.specs.meaning.Identifiers.{same_ltxid}
use Rattle.svc_values.specs.meaning.Same.{same_bool}
use Rattle.svc_values.specs.SameLaws.{same_ltxid_decides}
use Rattle.outage_schedule.specs.declared.request.Outcome.{Outcome}
use Rattle.client_model.specs.declared.act.Hold.{Hold}
use Rattle.client_model.specs.declared.act.Shown.{Shown}
use Rattle.client_model.specs.declared.input.Input.{Input}
use Rattle.client_model.specs.declared.input.Input.TheVariants.{Start, Waiting, Lent, Opened, TryFailed, Took, Gone}
use Rattle.client_model.specs.meaning.States.{Asking, Living}
use Rattle.client_model.specs.meaning.Talk.{talk_step}
use Rattle.client_model.specs.meaning.Terms.{Phase, Asked, Running}
use Rattle.world_model.specs.meaning.Clients.{Step}
use Rattle.world_model.specs.meaning.Frames.{Owner}
use Rattle.world_model.specs.records.Hold.{holds_connection, is_held}
use Rattle.invariant_laws.specs.Invariant.{Invariant}
use Rattle.world_model.specs.Orderly.{Orderly}
use Rattle.world_model.specs.meaning.Links.{Link, link_at}
use Rattle.invariant_laws.specs.Lost.{goes_unasked, outcome_on}
use Rattle.world_model.specs.meaning.Machines.{Machine}
use Rattle.world_model.specs.Parts.{Sending, Scan, answered, with_taken, sent_on, sendings_of, commit_sendings, implies}
use Rattle.world_model.specs.Traced.{Traced, Course, course_now, courses_of}
use Rattle.invariant_laws.proofs.losses.AskedSendings.{each_flat, unfiltered, sent_one}
use Rattle.world_model.proofs.Offered.{HasStepped, at_event, implied, any_goes, any_with, scan_by, heard_scan, after_sendings, first_step, eq_from, none_is, some_same}
use Rattle.invariant_laws.proofs.sendings.CommittedSendings.{is_unanswered}
use Rattle.invariant_laws.proofs.sendings.FateSteps.{IsFated, Says, Silent, CallsOne, fated, fated_from, says_at, silent_fold, called_fold}
use Rattle.invariant_laws.proofs.sendings.FateTops.{last_open, scan_on}
use Rattle.invariant_laws.proofs.losses.LostSteps.{before_so}
use Rattle.invariant_laws.proofs.sendings.SendingsMade.{made}
use Rattle.invariant_laws.proofs.talks.TalkShows.{ShowsBy, ByReply, ByOutcome, taken_shows}
use Rattle.invariant_laws.proofs.talks.TalkTop.{top_open}
use Rattle.invariant_laws.proofs.entries.TriedApart.{commits, is_under}

-- with a commit, open or committed, under this identifier
abbrev pub may_be : Ltxid → Sending → Bool
may_be x sending = is_under x sending && commits sending

abbrev pub told_by : List Sending → Outcome → Bool
told_by sendings outcome = outcome.committed && (outcome.completed && list_any (may_be outcome.ltxid) sendings)

abbrev pub completed_sent : Course → Bool
completed_sent course = list_any (told_by (sendings_of course)) course.report.outcomes

-- LISTS -------------------------------------------------------------------------------------------

last_some : {A : Type 0} (x : A) (xs : List A) → is_none (last_or (Some x) xs) ≡ false
last_some x [] = refl
last_some x (y ∷ xs) = last_some y xs

-- where none is last, none passes
pub none_passes : {A : Type 0} (p : A → Bool) (xs : List A) → is_none (last_or None (filter p xs)) ≡ true → list_all (λ x. not (p x)) xs ≡ true
none_passes p [] none = refl
none_passes p (x ∷ xs) none = by (p x) none (λ later. none_passes p xs later)
  where
    by : (test : Bool) → is_none (last_or None (if test then x ∷ filter p xs else filter p xs)) ≡ true → (is_none (last_or None (filter p xs)) ≡ true → list_all (λ y. not (p y)) xs ≡ true) → (not test && list_all (λ y. not (p y)) xs) ≡ true
    by true none again = absurd (let never : false ≡ true = sym (last_some x (filter p xs)) ∙ none in let nothing : ⊥ = cc in nothing)
    by false none again = again none

-- A STEP ------------------------------------------------------------------------------------------

module _ (t : Traced) (whole : Invariant t) (who : ℕ) (n : Machine) (step : HasStepped t.setting (at_event t.machine) who n) where
  inv : Orderly t
  inv = whole.orderly

  abbrev m : Machine
  m = at_event t.machine

  abbrev mine : Owner
  mine = record { client = who; place = length step.client.past }

  abbrev before : Course
  before = course_now t.setting who (length step.client.past) step.before

  abbrev one : Step
  one = first_step t.setting m whole.orderly.script.talks who n step

  abbrev sendings : List Sending
  sendings = (scan_by mine step.before.steps).sendings

  abbrev scan_now : Scan
  scan_now = heard_scan t.setting m whole.orderly.script.talks who n step

  all_fated : list_all (λ (s : Sending). implies (has_commit s.call) (fated t.machine.links s)) sendings ≡ true
  all_fated =
      unfiltered (fated t.machine.links) commits sendings
      (before_so t whole.orderly who n step (λ course. list_all (fated t.machine.links) (commit_sendings course)) (each_flat (fated t.machine.links) commit_sendings (courses_of t) whole.once.fates) (λ request. refl))

  -- what the last sending is under was told by no outcome
  top_unasked : (state : Living) → step.before.talk.phase ≡ Running state → (top : Sending) (rest : List Sending) → sendings ≡ top ∷ rest → has_commit top.call ≡ true → list_all (λ (o : Outcome). not (same_ltxid o.ltxid top.ltxid)) before.report.outcomes ≡ true
  top_unasked state runs top rest are commit = by step.before.connection refl (and_parts (same_bool (is_some step.before.connection) (holds_connection step.before.talk.phase)) _ held).0 unasked
    where
      held : is_held t before ≡ true
      held = before_so t whole.orderly who n step (is_held t) whole.orderly.hold.held (λ request. refl)

      unasked : goes_unasked t before ≡ true
      unasked = before_so t whole.orderly who n step (goes_unasked t) whole.lost.unasked (λ request. refl)

      open_top : ((top.connection == (scan_by mine step.before.steps).connection) && is_none top.taken) ≡ true
      open_top = subst (λ (list : List Sending). top_open (scan_by mine step.before.steps).connection list ≡ true) are (last_open t whole.orderly who n step state runs)

      top_fated : fated t.machine.links top ≡ true
      top_fated = implied (has_commit top.call) (fated t.machine.links top) commit (and_parts _ _ (subst (λ (list : List Sending). list_all (λ (s : Sending). implies (has_commit s.call) (fated t.machine.links s)) list ≡ true) are all_fated)).0

      on : (number : ℕ) (link : Link) → step.before.connection ≡ Some number → link_at t.machine.links number ≡ Some link → is_none (outcome_on before link.held) ≡ true → list_all (λ (o : Outcome). not (same_ltxid o.ltxid top.ltxid)) before.report.outcomes ≡ true
      on number link has there none =
          let parts = and_parts (top.connection == (scan_by mine step.before.steps).connection) (is_none top.taken) open_top in
          let at : IsFated t.machine.links top = fated_from t.machine.links top top_fated in
          let number_is : top.connection ≡ number = eq_from top.connection (scan_by mine step.before.steps).connection parts.0 ∙ scan_on t whole.orderly who n step state runs number has link there in
          let same : at.link ≡ link = some_same (link_at t.machine.links number) at.link link (subst (λ (k : ℕ). link_at t.machine.links k ≡ Some at.link) number_is at.there) there in
          let holds : link.held ≡ Some top.ltxid = ap (λ (l : Link). l.held) (sym same) ∙ (at.fate.waits (none_is top.taken parts.1)).held in
          none_passes (λ (o : Outcome). same_ltxid o.ltxid top.ltxid) before.report.outcomes (subst (λ (x : Option Ltxid). is_none (outcome_on before x) ≡ true) holds none)

      at_number : (number : ℕ) (found : Option Link) → step.before.connection ≡ Some number → link_at t.machine.links number ≡ found → option_map_or (λ link. is_none (outcome_on before link.held)) found false ≡ true
          → list_all (λ (o : Outcome). not (same_ltxid o.ltxid top.ltxid)) before.report.outcomes ≡ true
      at_number number None has there none = absurd (let never : ⊥ = cc in never)
      at_number number (Some link) has there none = on number link has there none

      by : (found : Option ℕ) → step.before.connection ≡ found → same_bool (is_some found) (holds_connection step.before.talk.phase) ≡ true
          → option_map_or (λ number. option_map_or (λ link. is_none (outcome_on before link.held)) (link_at t.machine.links number) false) found true ≡ true → list_all (λ (o : Outcome). not (same_ltxid o.ltxid top.ltxid)) before.report.outcomes ≡ true
      by None has holds none = absurd (let never : same_bool false true ≡ true = subst (λ (p : Phase). same_bool false (holds_connection p) ≡ true) runs holds in let nothing : ⊥ = cc in nothing)
      by (Some number) has holds none = at_number number (link_at t.machine.links number) has refl none

  -- where the last one is answered
  answered_top : (top : Sending) (rest : List Sending) (answers : List Answer) (outcome : Outcome) → (same_ltxid outcome.ltxid top.ltxid ≡ false) ⊎ (has_commit top.call ≡ false) → told_by (top ∷ rest) outcome ≡ true
      → told_by (record top { taken = Some answers } ∷ rest) outcome ≡ true
  answered_top top rest answers outcome differs here =
      let first = and_parts outcome.committed (outcome.completed && list_any (may_be outcome.ltxid) (top ∷ rest)) here in
      let second = and_parts outcome.completed (list_any (may_be outcome.ltxid) (top ∷ rest)) first.1 in
      and_from outcome.committed (outcome.completed && list_any (may_be outcome.ltxid) (record top { taken = Some answers } ∷ rest)) first.0
      (and_from outcome.completed (list_any (may_be outcome.ltxid) (record top { taken = Some answers } ∷ rest)) second.0
      (or_right (may_be outcome.ltxid (record top { taken = Some answers })) (list_any (may_be outcome.ltxid) rest) (by differs (or_cases (may_be outcome.ltxid top) (list_any (may_be outcome.ltxid) rest) second.1))))
    where
      by : (same_ltxid outcome.ltxid top.ltxid ≡ false) ⊎ (has_commit top.call ≡ false) → (may_be outcome.ltxid top ≡ true) ⊎ (list_any (may_be outcome.ltxid) rest ≡ true) → list_any (may_be outcome.ltxid) rest ≡ true
      by other (inr later) = later
      by (inl other) (inl mine) =
          let parts = and_parts (is_under outcome.ltxid top) (has_commit top.call) mine in
          let same : same_ltxid outcome.ltxid top.ltxid ≡ true = (and_parts _ (same_ltxid outcome.ltxid top.ltxid) parts.0).1 in
          absurd (let never : true ≡ false = sym same ∙ other in let none : ⊥ = cc in none)
      by (inr other) (inl mine) =
          let commit : has_commit top.call ≡ true = (and_parts (is_under outcome.ltxid top) (has_commit top.call) mine).1 in
          absurd (let never : true ≡ false = sym commit ∙ other in let none : ⊥ = cc in none)

  heard_still : list_any (told_by sendings) before.report.outcomes ≡ true → list_any (told_by scan_now.sendings) before.report.outcomes ≡ true
  heard_still here = by step.input one.done.act.shown refl refl
    where
      last_now : (answers : List Answer) (state : Living) → step.before.talk.phase ≡ Running state → (list : List Sending) → sendings ≡ list → list_any (told_by (with_taken answers list)) before.report.outcomes ≡ true
      last_now answers state runs [] are = subst (λ (list : List Sending). list_any (told_by list) before.report.outcomes ≡ true) are here
      last_now answers state runs (top ∷ rest) are = cases (has_commit top.call) refl
        where
          any : list_any (told_by (top ∷ rest)) before.report.outcomes ≡ true
          any = subst (λ (list : List Sending). list_any (told_by list) before.report.outcomes ≡ true) are here

          cases : (commit : Bool) → has_commit top.call ≡ commit → list_any (told_by (record top { taken = Some answers } ∷ rest)) before.report.outcomes ≡ true
          cases false is = any_goes (told_by (top ∷ rest)) (told_by (record top { taken = Some answers } ∷ rest)) (λ outcome so. answered_top top rest answers outcome (inr is) so) before.report.outcomes any
          cases true is =
              any_with (told_by (top ∷ rest)) (λ (o : Outcome). not (same_ltxid o.ltxid top.ltxid)) (told_by (record top { taken = Some answers } ∷ rest)) before.report.outcomes
              (λ outcome so other. answered_top top rest answers outcome (inl (not-true (same_ltxid outcome.ltxid top.ltxid) other)) so) any (top_unasked state runs top rest are is)

      by : (input : Input) (shown : Option Shown) → step.input ≡ input → one.done.act.shown ≡ shown → list_any (told_by (answered input shown sendings)) before.report.outcomes ≡ true
      by (Took (down.Reply answers draws x) alive) (Some shown) is some =
          pick (taken_shows t.setting.terms step.before.talk step.before.talk.phase (down.Reply answers draws x) alive m.tick shown (sym (ap (λ (input : Input). (talk_step t.setting.terms step.before.talk input m.tick).1.shown) is) ∙ some))
        where
          pick : ShowsBy step.before.talk.phase (down.Reply answers draws x) shown → list_any (told_by (with_taken answers sendings)) before.report.outcomes ≡ true
          pick (ByReply state runs same) = last_now answers state runs sendings refl
          pick (ByOutcome asking is_asked same committed) = absurd (let none : ⊥ = cc in none)
      by (Took (down.Reply answers draws x) alive) None is none = here
      by (Took (down.Hello x) alive) shown is some = here
      by (Took (down.OutcomeIs a b) alive) shown is some = here
      by (Took (down.OutcomeRefused a b) alive) shown is some = here
      by (Took down.Blocked alive) shown is some = here
      by (Took (down.Refused cause) alive) shown is some = here
      by Start shown is some = here
      by Waiting shown is some = here
      by (Lent connection x) shown is some = here
      by (Opened connection) shown is some = here
      by TryFailed shown is some = here
      by (Gone event) shown is some = here

  -- what is sent is put before them
  sent_still : (x : Ltxid) → list_any (may_be x) scan_now.sendings ≡ true → list_any (may_be x) (scan_by mine step.after.steps).sendings ≡ true
  sent_still x any =
      subst (λ (list : List Sending). list_any (may_be x) list ≡ true) (sym (after_sendings t.setting m whole.orderly.script.talks who n step)) (by one.done.act.send one.done.act.hold (says_at t.setting.terms step.before.talk step.input m.tick))
    where
      by : (send : List Up) (held : Hold) → Says send held → list_any (may_be x) (fold (sent_on scan_now) scan_now.sendings send) ≡ true
      by _ _ (Silent send held none) = subst (λ (list : List Sending). list_any (may_be x) list ≡ true) (sym (silent_fold scan_now send scan_now.sendings none)) any
      by _ _ (CallsOne begun settings call) = subst (λ (list : List Sending). list_any (may_be x) list ≡ true) (sym (called_fold scan_now begun settings call scan_now.sendings)) (found scan_now.held)
        where
          found : (held : Option Ltxid) → list_any (may_be x) (option_map_or (λ y. made scan_now call y ∷ scan_now.sendings) held scan_now.sendings) ≡ true
          found None = any
          found (Some y) = or_right (may_be x (made scan_now call y)) (list_any (may_be x) scan_now.sendings) any

  pub completed_still : list_any (told_by sendings) before.report.outcomes ≡ true → list_any (told_by (scan_by mine step.after.steps).sendings) before.report.outcomes ≡ true
  completed_still here =
      any_goes (told_by scan_now.sendings) (told_by (scan_by mine step.after.steps).sendings)
      (λ outcome so.
      let first = and_parts outcome.committed (outcome.completed && list_any (may_be outcome.ltxid) scan_now.sendings) so in
      let second = and_parts outcome.completed (list_any (may_be outcome.ltxid) scan_now.sendings) first.1 in
      and_from outcome.committed (outcome.completed && list_any (may_be outcome.ltxid) (scan_by mine step.after.steps).sendings) first.0
      (and_from outcome.completed (list_any (may_be outcome.ltxid) (scan_by mine step.after.steps).sendings) second.0 (sent_still outcome.ltxid second.1))) before.report.outcomes (heard_still here)

  -- the outcome that is taken now
  pub completed_new : (asking : Asking) (alive : Bool) → step.input ≡ Took (down.OutcomeIs true true) alive → step.before.talk.phase ≡ Asked asking → list_any (may_be asking.ltxid) (scan_by mine step.after.steps).sendings ≡ true
  completed_new asking alive input phase =
      sent_still asking.ltxid
      (subst (λ (i : Input). list_any (may_be asking.ltxid) (answered i one.done.act.shown sendings) ≡ true) (sym input)
      (any_goes (is_unanswered asking.ltxid (length before.report.calls)) (may_be asking.ltxid) open_one sendings (sent_one t whole who n step asking true alive input phase)))
    where
      open_one : (s : Sending) → is_unanswered asking.ltxid (length before.report.calls) s ≡ true → may_be asking.ltxid s ≡ true
      open_one s here =
          let first = and_parts (same_ltxid s.ltxid asking.ltxid) ((s.at == length before.report.calls) && (has_commit s.call && is_none s.taken)) here in
          let second = and_parts (s.at == length before.report.calls) (has_commit s.call && is_none s.taken) first.1 in
          let third = and_parts (has_commit s.call) (is_none s.taken) second.1 in
          and_from (is_under asking.ltxid s) (has_commit s.call)
          (and_from (option_map_or ends_committed s.taken true) (same_ltxid asking.ltxid s.ltxid) (ap (λ (taken : Option (List Answer)). option_map_or ends_committed taken true) (none_is s.taken third.1)) ((same_ltxid_decides asking.ltxid s.ltxid).1 (sym ((same_ltxid_decides s.ltxid asking.ltxid).0 first.0)))) third.0
