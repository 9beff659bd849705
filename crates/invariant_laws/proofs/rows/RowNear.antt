-- No call without the mark is of an index beyond the calls that were shown.
use Rattle.std.proofs.Common.{◌≡◌, refl, ap, ◌∙◌, Bool, true, false, ℕ, ◌+◌, ◌≤◌, ◌&&◌, ◌||◌, cond, fold, filter, length, List, [], ◌∷◌, Option, Some, None, arith}
use Rattle.std.specs.Prelude.{◌==◌, nat_le, is_some, if◌then◌else◌}
use Rattle.std.specs.List.{list_all}
use Rattle.std.specs.Option.{option_or, option_map_or}
use Rattle.std.specs.Cmp.Lexicographic.{pointwise}
use Rattle.std.proofs.lemmas.Bool.{and_parts, and_from}
use Rattle.svc_values.specs.declared.answer.Answer.{Answer}
use Rattle.svc_values.specs.declared.frame.Up.{Up}
use Rattle.svc_values.specs.declared.frame.Up.TheVariants as up
use Rattle.svc_values.specs.declared.frame.Down.TheVariants as down
use Rattle.outage_schedule.specs.declared.request.ShownCall.{ShownCall}
use Rattle.client_model.specs.declared.act.Shown.{Shown}
use Rattle.client_model.specs.declared.input.Input.{Input}
use Rattle.client_model.specs.declared.input.Input.TheVariants.{Start, Waiting, Lent, Opened, TryFailed, Took, Gone}
use Rattle.world_model.specs.meaning.Clients.{Step}
use Rattle.world_model.specs.meaning.Frames.{Owner, Sent}
use Rattle.world_model.specs.meaning.Links.{told_by}
use Rattle.world_model.specs.Parts.{Sending, Scan, scanned, is_unmarked, is_unmarked_frame, with_taken, answered, sent_on}
use Rattle.world_model.specs.Sames.{owned_by}
use Rattle.world_model.specs.records.Script.{is_call_of, is_sending_of, reverse_onto}
use Rattle.invariant_laws.specs.Shown.{is_call, is_marked}
use Rattle.world_model.specs.Words.{brought}
use Rattle.world_model.proofs.Offered.{weaker_all, calls_of, on_of, agrees, eq_from, le_from, le_to}
use Rattle.invariant_laws.proofs.rows.RowLast.{row_of}
use Rattle.invariant_laws.proofs.rows.Rows.{is_near}

-- SENDINGS ----------------------------------------------------------------------------------------

abbrev below : ℕ → List Sending → Bool
below shown sendings = list_all (λ (sending : Sending). nat_le sending.at shown) sendings

below_more : (a b : ℕ) (sendings : List Sending) → a ≤ b → below a sendings ≡ true → below b sendings ≡ true
below_more a b sendings least all =
    weaker_all (λ (sending : Sending). nat_le sending.at a) (λ (sending : Sending). nat_le sending.at b) sendings (λ sending here. le_to sending.at b (let is : sending.at ≤ a = le_from sending.at a here in omega arith)) all

taken_below : (shown : ℕ) (answers : List Answer) (sendings : List Sending) → below shown sendings ≡ true → below shown (with_taken answers sendings) ≡ true
taken_below shown answers [] all = all
taken_below shown answers (sending ∷ earlier) all = all

answered_below : (n : ℕ) (input : Input) (shown : Option Shown) (sendings : List Sending) → below n sendings ≡ true → below n (answered input shown sendings) ≡ true
answered_below n (Took (down.Reply answers draws x) alive) (Some shown) sendings all = taken_below n answers sendings all
answered_below n (Took (down.Reply answers draws x) alive) None sendings all = all
answered_below n (Took (down.Hello x) alive) shown sendings all = all
answered_below n (Took (down.OutcomeIs committed completed) alive) shown sendings all = all
answered_below n (Took (down.OutcomeRefused ahead horizon) alive) shown sendings all = all
answered_below n (Took down.Blocked alive) shown sendings all = all
answered_below n (Took (down.Refused cause) alive) shown sendings all = all
answered_below n Start shown sendings all = all
answered_below n Waiting shown sendings all = all
answered_below n (Lent connection ltxid) shown sendings all = all
answered_below n (Opened connection) shown sendings all = all
answered_below n TryFailed shown sendings all = all
answered_below n (Gone event) shown sendings all = all

sent_below : (scan : Scan) (sendings : List Sending) (frame : Up) → below scan.shown sendings ≡ true → below scan.shown (sent_on scan sendings frame) ≡ true
sent_below scan sendings (up.Call false kept call) all = by scan.held
  where
    by : (held : Option _) → below scan.shown (option_map_or (λ x. record { owner = scan.owner; connection = scan.connection; ltxid = x; at = scan.shown; call = call; taken = None } ∷ sendings) held sendings) ≡ true
    by None = all
    by (Some x) = and_from (nat_le scan.shown scan.shown) (below scan.shown sendings) (le_to scan.shown scan.shown (omega arith)) all
sent_below scan sendings (up.Call true kept call) all = all
sent_below scan sendings up.Connect all = all
sent_below scan sendings (up.Begin settings) all = all
sent_below scan sendings (up.Outcome x) all = all
sent_below scan sendings up.End all = all
sent_below scan sendings up.Close all = all

frames_below : (scan : Scan) (frames : List Up) (sendings : List Sending) → below scan.shown sendings ≡ true → below scan.shown (fold (sent_on scan) sendings frames) ≡ true
frames_below scan [] sendings all = all
frames_below scan (frame ∷ frames) sendings all = frames_below scan frames (sent_on scan sendings frame) (sent_below scan sendings frame all)

-- each is at a place up to the calls that were shown
pub scan_below : (scan : Scan) (steps : List Step) → below scan.shown scan.sendings ≡ true → below (fold scanned scan steps).shown (fold scanned scan steps).sendings ≡ true
scan_below scan [] all = all
scan_below scan (step ∷ steps) all =
    let more : ℕ = scan.shown + cond (is_some step.done.act.shown) 1 0 in
    let now : Scan = record {
      owner = scan.owner;
      connection = option_map_or (λ one. one) (brought step.done.input) scan.connection;
      held = option_or (told_by step.done.input) scan.held;
      shown = more;
      sendings = answered step.done.input step.done.act.shown scan.sendings;
    } in
    let least : scan.shown ≤ more = omega arith in
    scan_below (scanned scan step) steps
    (frames_below now step.done.act.send now.sendings (answered_below more step.done.input step.done.act.shown scan.sendings (below_more scan.shown more scan.sendings least all)))

pub on_below : (n number : ℕ) (sendings done : List Sending) → below n sendings ≡ true → below n done ≡ true → below n (reverse_onto (filter (λ (s : Sending). s.connection == number) sendings) done) ≡ true
on_below n number [] done all so_far = so_far
on_below n number (sending ∷ sendings) done all so_far =
    let parts = and_parts (nat_le sending.at n) (below n sendings) all in
    by (sending.connection == number) (on_below n number sendings (sending ∷ done) parts.1 (and_from (nat_le sending.at n) (below n done) parts.0 so_far)) (on_below n number sendings done parts.1 so_far)
  where
    by : (here : Bool) → below n (reverse_onto (filter (λ (s : Sending). s.connection == number) sendings) (sending ∷ done)) ≡ true → below n (reverse_onto (filter (λ (s : Sending). s.connection == number) sendings) done) ≡ true
        → below n (reverse_onto (if here then sending ∷ filter (λ (s : Sending). s.connection == number) sendings else filter (λ (s : Sending). s.connection == number) sendings) done) ≡ true
    by true mine other = mine
    by false mine other = other

-- CALLS -------------------------------------------------------------------------------------------

pub pair_below : (n : ℕ) (calls : List Sent) (sendings : List Sending) → pointwise is_sending_of calls sendings ≡ true → below n sendings ≡ true → list_all (λ (sent : Sent). nat_le sent.call n) calls ≡ true
pair_below n [] sendings same all = refl
pair_below n (sent ∷ calls) [] same all = absurd (let none : ⊥ = cc in none)
pair_below n (sent ∷ calls) (sending ∷ sendings) same all =
    let one = and_parts (is_sending_of sent sending) (pointwise is_sending_of calls sendings) same in
    let two = and_parts (nat_le sending.at n) (below n sendings) all in
    let at : sent.call ≡ sending.at = eq_from sent.call sending.at (and_parts (sent.call == sending.at) (is_call_of sending.call sent.frame) one.0).0 in
    and_from (nat_le sent.call n) (list_all (λ (s : Sent). nat_le s.call n) calls) (ap (λ (k : ℕ). nat_le k n) at ∙ two.0) (pair_below n calls sendings one.1 two.1)

-- of a frame
near_frame : (shown : List ShownCall) (sent : Sent) (frame : Up) (mine : Bool) → (mine && is_call frame) ≡ true → ((mine && is_unmarked_frame frame) ≡ true → nat_le sent.call (length shown) ≡ true) → (is_marked frame || nat_le sent.call (length shown)) ≡ true
near_frame shown sent (up.Call true kept call) mine is near = refl
near_frame shown sent (up.Call false kept call) mine is near = near is
near_frame shown sent up.Connect true is near = absurd (let none : ⊥ = cc in none)
near_frame shown sent (up.Begin settings) true is near = absurd (let none : ⊥ = cc in none)
near_frame shown sent (up.Outcome x) true is near = absurd (let none : ⊥ = cc in none)
near_frame shown sent up.End true is near = absurd (let none : ⊥ = cc in none)
near_frame shown sent up.Close true is near = absurd (let none : ⊥ = cc in none)
near_frame shown sent frame false is near = absurd (let none : ⊥ = cc in none)

pub near_from : (owner : Owner) (shown : List ShownCall) (sents : List Sent) → list_all (λ (sent : Sent). nat_le sent.call (length shown)) (calls_of owner sents) ≡ true → list_all (is_near shown) (row_of owner sents) ≡ true
near_from owner shown [] all = refl
near_from owner shown (sent ∷ sents) all =
    by (owned_by owner sent && is_call sent.frame) refl (near_from owner shown sents (parts (owned_by owner sent && is_unmarked sent) all).1) (λ is. (parts (owned_by owner sent && is_unmarked sent) all).0 is)
  where
    parts : (test : Bool) → list_all (λ (s : Sent). nat_le s.call (length shown)) (if test then sent ∷ calls_of owner sents else calls_of owner sents) ≡ true
        → (test ≡ true → nat_le sent.call (length shown) ≡ true) × (list_all (λ (s : Sent). nat_le s.call (length shown)) (calls_of owner sents) ≡ true)
    parts true all = let both = and_parts (nat_le sent.call (length shown)) (list_all (λ (s : Sent). nat_le s.call (length shown)) (calls_of owner sents)) all in ((λ is. both.0), both.1)
    parts false all = ((λ is. absurd (let none : ⊥ = cc in none)), all)

    by : (test : Bool) → (owned_by owner sent && is_call sent.frame) ≡ test → list_all (is_near shown) (row_of owner sents) ≡ true → ((owned_by owner sent && is_unmarked sent) ≡ true → nat_le sent.call (length shown) ≡ true)
        → list_all (is_near shown) (if test then sent ∷ row_of owner sents else row_of owner sents) ≡ true
    by true is later near = and_from (is_near shown sent) (list_all (is_near shown) (row_of owner sents)) (near_frame shown sent sent.frame (owned_by owner sent) is near) later
    by false is later near = later

-- on a connection on which a request's calls agree with its sendings
pub agrees_near : (owner : Owner) (number : ℕ) (sents : List Sent) (scan : Scan) (steps : List Step) (shown : List ShownCall) → below scan.shown scan.sendings ≡ true → (fold scanned scan steps).shown ≤ length shown
    → agrees owner number sents (fold scanned scan steps).sendings ≡ true → list_all (is_near shown) (row_of owner sents) ≡ true
agrees_near owner number sents scan steps shown first most same =
    let now : Scan = fold scanned scan steps in
    near_from owner shown sents
    (pair_below (length shown) (calls_of owner sents) (on_of number now.sendings) same
    (on_below (length shown) number now.sendings [] (below_more now.shown (length shown) now.sendings most (scan_below scan steps first)) refl))
