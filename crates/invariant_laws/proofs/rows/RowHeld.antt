-- On each connection that a request held its calls are in a row behind its step, whatever it hears.
use Rattle.std.proofs.Common.{◌≡◌, refl, sym, ap, subst, ◌∙◌, Bool, true, false, ℕ, ◌+◌, length, List, [], ◌∷◌, map, Option, Some, None}
use Rattle.std.specs.Prelude.{◌==◌, option_map}
use Rattle.std.specs.List.{list_all, cons_option}
use Rattle.std.specs.Option.{option_map_or}
use Rattle.std.proofs.lemmas.Bool.{and_parts, and_from}
use Rattle.svc_values.specs.declared.entry.Ltxid.{Ltxid}
use Rattle.client_model.specs.declared.input.Input.{Input}
use Rattle.client_model.specs.declared.input.Input.TheVariants.{Start, Waiting, Lent, Opened, TryFailed, Took, Gone}
use Rattle.client_model.specs.declared.input.Wants.{Wants}
use Rattle.client_model.specs.declared.input.Wants.TheVariants as wants
use Rattle.client_model.specs.Conversation.{is_wanted}
use Rattle.client_model.specs.meaning.States.{Asking}
use Rattle.client_model.specs.meaning.Talk.{talk_step}
use Rattle.client_model.specs.meaning.Terms.{Phase, Idle, Unbegun, Queued, Seeking, Greeting, Asked, Running, Replaying}
use Rattle.run_clauses.specs.meaning.Reports.{shown_call}
use Rattle.world_model.specs.records.Conversing.{AllTalk, connected}
use Rattle.world_model.specs.meaning.Frames.{Owner, Sent}
use Rattle.world_model.specs.records.Hold.{holds_connection, is_awaited}
use Rattle.world_model.specs.meaning.Links.{Link, link_at}
use Rattle.world_model.specs.meaning.Machines.{Machine}
use Rattle.world_model.specs.records.Script.{recorded_from}
use Rattle.world_model.specs.meaning.Settings.{Setting}
use Rattle.invariant_laws.specs.Shown.{is_current, is_row}
use Rattle.world_model.specs.Traced.{Course, course_now}
use Rattle.world_model.specs.Words.{brought, held_in}
use Rattle.world_model.proofs.Offered.{append_all, HasStepped, Brings, NoneNew, IdleOne, NewOne, moves_next_number as next_number, sent_so, sent_on_held, after_held, sents_at, sents_pass, PassesAt, passes_from, grown_at, new_at, link_sents, sent_lists, account_now, first_step, first_doing, holds_frame, eq_from, eq_to}
use Rattle.invariant_laws.proofs.rows.RowCourses.{row_test, OnIt}
use Rattle.invariant_laws.proofs.rows.RowKept.{near_at, own_new, other_new, stays, wanted}
use Rattle.invariant_laws.proofs.rows.RowLast.{row_of}
use Rattle.invariant_laws.proofs.rows.RowMine.{taken_new}
use Rattle.invariant_laws.proofs.rows.RowSteps.{RowFacts}
use Rattle.invariant_laws.proofs.rows.Rows.{no_row}
use Rattle.invariant_laws.proofs.talks.TalkRows.{RowStep, Silent, lent_row}

both_all : {A : Type 0} (a b next : A → Bool) (xs : List A) → ((x : A) → a x ≡ true → b x ≡ true → next x ≡ true) → list_all a xs ≡ true → list_all b xs ≡ true → list_all next xs ≡ true
both_all a b next [] keeps one other = refl
both_all a b next (x ∷ xs) keeps one other =
    let first = and_parts (a x) (list_all a xs) one in
    let second = and_parts (b x) (list_all b xs) other in and_from (next x) (list_all next xs) (keeps x first.0 second.0) (both_all a b next xs keeps first.1 second.1)

awaited_holds : (phase : Phase) (last : Sent) → is_awaited phase last ≡ true → holds_connection phase ≡ true
awaited_holds (Greeting lost) last is = refl
awaited_holds (Asked asking) last is = refl
awaited_holds (Running state) last is = refl
awaited_holds (Replaying state) last is = refl
awaited_holds Idle last is = absurd (let none : ⊥ = cc in none)
awaited_holds Unbegun last is = absurd (let none : ⊥ = cc in none)
awaited_holds (Queued from) last is = absurd (let none : ⊥ = cc in none)
awaited_holds (Seeking lost) last is = absurd (let none : ⊥ = cc in none)

module _ (setting : Setting) (m : Machine) (talks : AllTalk setting.terms m.clients) (number : ℕ) (n : Machine) (step : HasStepped setting m number n)
    (kept : (asking : Asking) → step.before.talk.phase ≡ Asked asking → asking.track.why ≡ None
    → length asking.track.recorder.calls + recorded_from (map shown_call (account_now setting.terms step.before).shown) ≡ asking.track.call)
    (d : Course) (report : d.report.calls ≡ map shown_call (account_now setting.terms (first_doing setting m talks number n step)).shown) (request : d.request.calls ≡ step.before.request.calls)
    (on : (connection : ℕ) → step.before.connection ≡ Some connection → OnIt m.links (record { client = number; place = length step.client.past }) step.before.connection step.before.talk.phase)
    (strange : (connection : ℕ) (link : Link) (ltxid : Ltxid) → step.input ≡ Lent connection ltxid → link_at m.links connection ≡ Some link → row_of (record { client = number; place = length step.client.past }) link.sent ≡ [])
    (left : (at : ℕ) → d.connection ≡ Some at → step.connection ≡ Some at) where
  abbrev mine : Owner
  mine = record { client = number; place = length step.client.past }

  abbrev before_course : Course
  before_course = course_now setting number (length step.client.past) step.before

  abbrev passes : ℕ → Bool
  passes at = sents_pass (λ s. is_row d (is_current d at) (row_of mine s)) (sent_lists n.links) at

  -- A CONNECTION THAT IT IS GIVEN -----------------------------------------------------------------

  abbrev greets_by : Input → Type 0
  greets_by input =
      RowStep (Greeting None) (talk_step setting.terms step.before.talk input m.tick).0.phase (talk_step setting.terms step.before.talk input m.tick).1.shown (talk_step setting.terms step.before.talk input m.tick).1.send

  none_known : (calls : List Sent) → calls ≡ [] → RowFacts setting m talks number n step (Greeting None) calls
  none_known calls none = record {
    greets = λ lost is. none;
    asks = λ asking is. absurd (let never : ⊥ = cc in never);
    runs = λ state is. absurd (let never : ⊥ = cc in never);
    repeats = λ state is. absurd (let never : ⊥ = cc in never);
  }

  given_new : (at : ℕ) (sents : List Sent) → sents_at step.lists at ≡ Some sents → step.connection ≡ Some at → row_of mine sents ≡ [] → greets_by step.input → passes at ≡ true
  given_new at sents there has none rowed =
      subst (λ (lists : List (List Sent)). sents_pass (λ s. is_row d (is_current d at) (row_of mine s)) lists at ≡ true) (sym step.sent_are)
      (own_new setting m talks number n step kept d report request at sents (Greeting None) (first_step setting m talks number n step).done.act.send there has refl rowed (none_known (row_of mine sents) none)
      (subst (λ (calls : List Sent). is_row d true calls ≡ true) (sym none) (no_row d true)))

  lent_sents : (connection : ℕ) (link : Link) → link_at m.links connection ≡ Some link → sents_at (sent_lists m.links) connection ≡ Some link.sent
  lent_sents connection link there = link_sents m.links connection ∙ ap (λ (found : Option Link). option_map (λ (one : Link). one.sent) found) there

  brought_new : (input : Input) → step.input ≡ input → Brings m step.lists input → (at : ℕ) → brought input ≡ Some at → passes at ≡ true
  brought_new _ is (NoneNew input none) at has = absurd (let e : Some at ≡ None = sym has ∙ none in let never : ⊥ = cc in never)
  brought_new _ is (IdleOne connection ltxid link there) at has =
      let same : connection ≡ at = cc in
      subst (λ (k : ℕ). passes k ≡ true) same
      (given_new connection link.sent (grown_at (sent_lists m.links) step.lists connection link.sent step.grows (lent_sents connection link there)) (sym step.connects ∙ ap (connected step.before.connection) is)
      (strange connection link ltxid is there) (subst greets_by (sym is) (lent_row setting.terms step.before.talk ltxid m.tick)))
  brought_new _ is (NewOne more) at has =
      let same : next_number m ≡ at = cc in
      subst (λ (k : ℕ). passes k ≡ true) same
      (given_new (next_number m) [] (ap (λ (lists : List (List Sent)). sents_at lists (next_number m)) more ∙ new_at m.links (next_number m) refl) (sym step.connects ∙ ap (connected step.before.connection) is) refl
      (subst greets_by (sym is) (Silent _ refl)))

  -- ONE THAT IT HELD BEFORE -----------------------------------------------------------------------

  -- it says nothing there
  elsewhere_new : (at : ℕ) → (step.connection ≡ Some at → ⊥) → sents_pass (row_test before_course at) (sent_lists m.links) at ≡ true → sent_so mine step.before.steps (sent_lists m.links) at ≡ true → passes at ≡ true
  elsewhere_new at elsewhere row sends =
      let old : PassesAt (row_test before_course at) (sent_lists m.links) at = passes_from (row_test before_course at) (sent_lists m.links) at row in
      subst (λ (lists : List (List Sent)). sents_pass (λ s. is_row d (is_current d at) (row_of mine s)) lists at ≡ true) (sym step.sent_are)
      (other_new setting m talks number n step kept d report request at old.sents (grown_at (sent_lists m.links) step.lists at old.sents step.grows old.there) elsewhere
      (stays setting m talks number n step kept d report request (is_current before_course at) (is_current d at) (row_of mine old.sents) (near_at setting m talks number n step at old.sents sends old.there)
      (λ is. absurd (never d.connection refl is)) (λ is none. absurd (never d.connection refl is)) old.passes))
    where
      never : (connection : Option ℕ) → d.connection ≡ connection → option_map_or (λ other. other == at) connection false ≡ true → ⊥
      never None has is = let none : ⊥ = cc in none
      never (Some other) has is = elsewhere (left at (has ∙ ap Some (eq_from other at is)))

  -- with a connection it hears a frame, or its loss
  frame_wanted : (at : ℕ) → step.before.connection ≡ Some at → is_wanted wants.Frame step.input ≡ true
  frame_wanted at has =
      let it = on at has in
      subst (λ (w : Wants). is_wanted w step.input ≡ true) (holds_frame setting.terms step.before.talk step.before.talk.phase m.tick (awaited_holds step.before.talk.phase it.last it.awaited)) (wanted setting m talks number n step)

  wanted_by : (at : ℕ) (input : Input) → step.input ≡ input → connected step.before.connection input ≡ step.before.connection → step.connection ≡ Some at → is_wanted wants.Frame input ≡ true
  wanted_by at input is same has =
      let held : step.before.connection ≡ Some at = sym same ∙ (ap (connected step.before.connection) (sym is) ∙ (step.connects ∙ has)) in
      subst (λ (i : Input). is_wanted wants.Frame i ≡ true) is (frame_wanted at held)

  speaks_new : (input : Input) → step.input ≡ input → (at : ℕ) → step.connection ≡ Some at → sents_pass (row_test before_course at) (sent_lists m.links) at ≡ true → sent_so mine step.before.steps (sent_lists m.links) at ≡ true → passes at ≡ true
  speaks_new (Took frame alive) is at has row sends = taken_new setting m talks number n step kept d report request on frame alive is at has row sends
  speaks_new (Lent connection ltxid) is at has row sends =
      brought_new step.input refl step.brings at (ap brought is ∙ (ap (connected step.before.connection) (sym is) ∙ (step.connects ∙ has)))
  speaks_new (Opened connection) is at has row sends = brought_new step.input refl step.brings at (ap brought is ∙ (ap (connected step.before.connection) (sym is) ∙ (step.connects ∙ has)))
  speaks_new (Gone event) is at has row sends = absurd (let e : None ≡ Some at = ap (connected step.before.connection) (sym is) ∙ (step.connects ∙ has) in let never : ⊥ = cc in never)
  speaks_new Start is at has row sends = absurd (let e : is_wanted wants.Frame Start ≡ true = wanted_by at Start is refl has in let never : ⊥ = cc in never)
  speaks_new Waiting is at has row sends = absurd (let e : is_wanted wants.Frame Waiting ≡ true = wanted_by at Waiting is refl has in let never : ⊥ = cc in never)
  speaks_new TryFailed is at has row sends = absurd (let e : is_wanted wants.Frame TryFailed ≡ true = wanted_by at TryFailed is refl has in let never : ⊥ = cc in never)

  held_new : (at : ℕ) → sents_pass (row_test before_course at) (sent_lists m.links) at ≡ true → sent_so mine step.before.steps (sent_lists m.links) at ≡ true → passes at ≡ true
  held_new at row sends = by step.connection refl
    where
      either : (other : ℕ) → step.connection ≡ Some other → (same : Bool) → (other == at) ≡ same → passes at ≡ true
      either other is true same = speaks_new step.input refl at (is ∙ ap Some (eq_from other at same)) row sends
      either other is false differs =
          elsewhere_new at
          (λ has. let e : Some other ≡ Some at = sym is ∙ has in let same : other ≡ at = cc in let yes_is : (other == at) ≡ true = eq_to other at same in let never : ⊥ = cc in never) row sends

      by : (connection : Option ℕ) → step.connection ≡ connection → passes at ≡ true
      by None is = elsewhere_new at (λ has. let e : None ≡ Some at = sym is ∙ has in let never : ⊥ = cc in never) row sends
      by (Some other) is = either other is (other == at) refl

  brought_all : (found : Option ℕ) → brought step.input ≡ found → list_all passes (cons_option found []) ≡ true
  brought_all None is = refl
  brought_all (Some at) is = and_from (passes at) true (brought_new step.input refl step.brings at is) refl

  -- on all that it held
  pub mine_rows : list_all (λ at. sents_pass (row_test before_course at) (sent_lists m.links) at) (held_in step.before.steps) ≡ true → sent_on_held mine step.before.steps (sent_lists m.links) ≡ true
      → list_all passes (held_in step.after.steps) ≡ true
  mine_rows rows sends =
      subst (λ (numbers : List ℕ). list_all passes numbers ≡ true) (sym (after_held setting m talks number n step))
      (append_all passes (held_in step.before.steps) (cons_option (brought step.input) [])
      (both_all (λ at. sents_pass (row_test before_course at) (sent_lists m.links) at) (sent_so mine step.before.steps (sent_lists m.links)) passes (held_in step.before.steps) held_new rows sends) (brought_all (brought step.input) refl))
