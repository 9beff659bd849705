-- The rounds of the client that steps.
use Rattle.std.proofs.Common.{◌≡◌, refl, sym, ap, subst, ◌∙◌, Bool, true, false, ℕ, suc, zero, ◌+◌, ◌-◌, ◌*◌, ◌≤◌, ◌&&◌, ◌||◌, length, List, [], ◌∷◌, ◌++◌, Option, Some, None, if◌then◌else◌, arith, ◌⊎◌, inl, inr}
use Rattle.std.specs.Prelude.{◌==◌, not, nat_le, nat_lt, slice_get, option_map, option_and_then}
use Rattle.std.specs.List.{list_any}
use Rattle.std.specs.Option.{option_or, option_map_or}
use Rattle.std.specs.Cmp.Lexicographic.{pointwise}
use Rattle.std.proofs.lemmas.Bool.{and_parts}
use Rattle.std.proofs.lemmas.Bool.Decides.{nat_tests}
use Rattle.std.proofs.lemmas.List.{map-append}
use Rattle.svc_values.specs.declared.call.Call.{Call}
use Rattle.svc_values.specs.meaning.Same.{same_call, same_calls}
use Rattle.request_bounds.specs.meaning.Limits.{has_waited}
use Rattle.outage_schedule.specs.declared.document.Request.{Request}
use Rattle.outage_schedule.specs.declared.request.RequestReport.{RequestReport}
use Rattle.run_clauses.specs.meaning.Copies.{copies_of, next_of, next_place}
use Rattle.client_model.specs.declared.act.Hold.{Hold}
use Rattle.client_model.specs.declared.act.Hold.TheVariants as hold
use Rattle.client_model.specs.declared.input.Wants.TheVariants as wants
use Rattle.client_model.specs.meaning.Terms.{Terms, Talk, Phase, Idle, Unbegun, Queued, Seeking, Greeting, Asked, Running, Replaying}
use Rattle.client_model.specs.meaning.States.{Losing}
use Rattle.client_model.specs.meaning.Talk.{wants_in}
use Rattle.world_model.specs.meaning.Settings.{Setting}
use Rattle.world_model.specs.meaning.Clients.{Doing, Past, Client, reports_of, script_at, begun, after_hold, past_of}
use Rattle.world_model.specs.meaning.Machines.{Machine}
use Rattle.world_model.specs.records.Script.{same_request}
use Rattle.world_model.specs.RoundsLeft.{try_wait, awaits_tick, replays_left, attempt, rounds_by, talk_rounds}
use Rattle.world_model.specs.Remaining.{once_if, calls_in, rounds_of_one, all_left, requests_left, on_open, may_serve, doing_rounds, rounds_with, client_rounds}
use Rattle.world_model.proofs.finish.CopiesLeft.{is_left, fewer_left, next_left}
use Rattle.world_model.proofs.finish.ClientRounds.{once_most}
use Rattle.world_model.proofs.finish.FinishLinks.{times_less}

-- SCRIPTS -----------------------------------------------------------------------------------------

same_long : (a b : List Call) → same_calls a b ≡ true → length a ≡ length b
same_long [] [] same = refl
same_long [] (y ∷ ys) same = absurd (let none : ⊥ = cc in none)
same_long (x ∷ xs) [] same = absurd (let none : ⊥ = cc in none)
same_long (x ∷ xs) (y ∷ ys) same = let rest : length xs ≡ length ys = same_long xs ys (and_parts (same_call x y) (pointwise same_call xs ys) same).1 in omega arith

some_calls : (script : List Request) (place : ℕ) (request : Request) → slice_get script place ≡ Some request → length request.calls ≤ calls_in script
some_calls [] place request is = absurd (let none : ⊥ = cc in none)
some_calls (first ∷ script) zero request is = let same : length first.calls ≡ length request.calls = ap (λ (r : Request). length r.calls) (let here : first ≡ request = cc in here) in omega arith
some_calls (first ∷ script) (suc place) request is = let rest : length request.calls ≤ calls_in script = some_calls script place request is in omega arith

-- what is known of a request that follows these reports
pub record Follows (script : List Request) (past : List Past) (request : Request) : Type 0 where
  pub left : list_any is_left (copies_of script (reports_of past)) ≡ true
  pub calls : length request.calls ≤ calls_in script

pub follows_by : (script : List Request) (past : List Past) (request : Request) → same_request (Some request) (next_of script (reports_of past)) ≡ true → Follows script past request
follows_by script past request same = by (next_of script (reports_of past)) refl same
  where
    at_place : (place : Option ℕ) (found : Request) → option_and_then (slice_get script) place ≡ Some found → length found.calls ≤ calls_in script
    at_place None found is = absurd (let none : ⊥ = cc in none)
    at_place (Some place) found is = some_calls script place found is

    by : (found : Option Request) → next_of script (reports_of past) ≡ found → same_request (Some request) found ≡ true → Follows script past request
    by None is same = absurd (let none : ⊥ = cc in none)
    by (Some found) is same =
        let few : length found.calls ≤ calls_in script = at_place (next_place script (reports_of past)) found is in
        let long : length request.calls ≡ length found.calls = same_long request.calls found.calls (and_parts (same_calls request.calls found.calls) (request.again == found.again) same).0 in
        record { left = next_left script (reports_of past) found is; calls = omega arith }

past_left : (script : List Request) (past : List Past) (one : Past) → list_any is_left (copies_of script (reports_of past)) ≡ true → requests_left script (past ++ one ∷ []) + 1 ≤ requests_left script past
past_left script past one left =
    let same : reports_of (past ++ one ∷ []) ≡ reports_of past ++ one.report ∷ [] = map-append (λ (p : Past). p.report) past (one ∷ []) in
    subst (λ (reports : List RequestReport). all_left (copies_of script reports) + 1 ≤ requests_left script past) (sym same) (fewer_left script (reports_of past) one.report left)

-- WHERE IT STOOD ----------------------------------------------------------------------------------

one_less : (a size : ℕ) → 1 ≤ a → (a - 1) * size + size ≡ a * size
one_less a size some = let split : a ≡ (a - 1) + 1 = omega arith in ap (λ (n : ℕ). n) (plus (a - 1)) ∙ ap (λ (n : ℕ). n * size) (sym split)
  where
    plus : (b : ℕ) → b * size + size ≡ (b + 1) * size
    plus b = omega arith

module _ (setting : Setting) (m : Machine) (stepped : Bool) (script : List Request) where
  begun_rounds : (event tick : ℕ) (request : Request) (left : ℕ) → 1 ≤ left → length request.calls ≤ calls_in script
      → (left - 1) * rounds_of_one setting.terms script + (talk_rounds setting.terms tick true (begun setting.terms event tick request).talk + 1) ≤ left * rounds_of_one setting.terms script
  begun_rounds event tick request left some few =
      let split : (left - 1) * rounds_of_one setting.terms script + rounds_of_one setting.terms script ≡ left * rounds_of_one setting.terms script = one_less left (rounds_of_one setting.terms script) some in
      let none : replays_left setting.terms (Queued None) ≡ setting.terms.limits.replays = unstarted in
      let more : (length request.calls + replays_left setting.terms (Queued None)) * attempt setting.terms ≤ (calls_in script + setting.terms.limits.replays) * attempt setting.terms =
      times_less (length request.calls + replays_left setting.terms (Queued None)) (calls_in script + setting.terms.limits.replays) (attempt setting.terms) (omega (arith, none)) in
      omega (arith, split, more)
    where
      unstarted : replays_left setting.terms (Queued None) ≡ setting.terms.limits.replays
      unstarted = omega arith

  -- the request that steps, old or new, has so many rounds of its client's
  pub old_least : (event : ℕ) (past : List Past) (now : Option Doing) (next : Option Request) (doing : Doing) → option_or now (option_map (begun setting.terms event m.tick) next) ≡ Some doing
      → same_request (option_map_or (λ (d : Doing). Some d.request) now next) (next_of script (reports_of past)) ≡ true
      → (requests_left script past - 1) * rounds_of_one setting.terms script + talk_rounds setting.terms m.tick (on_open m.links doing.connection) doing.talk ≤ rounds_with setting m stepped script (requests_left script past) now next
  old_least event past (Some one) next doing is follows =
      let same : one ≡ doing = cc in
      subst (λ (d : Doing). (requests_left script past - 1) * rounds_of_one setting.terms script + talk_rounds setting.terms m.tick (on_open m.links d.connection) d.talk ≤ rounds_with setting m stepped script (requests_left script past) (Some one) next) same (omega arith)
  old_least event past None (Some request) doing is follows =
      let same : begun setting.terms event m.tick request ≡ doing = cc in
      let known : Follows script past request = follows_by script past request follows in
      let below : (requests_left script past - 1) * rounds_of_one setting.terms script + (talk_rounds setting.terms m.tick true (begun setting.terms event m.tick request).talk + 1) ≤ requests_left script past * rounds_of_one setting.terms script =
      begun_rounds event m.tick request (requests_left script past) (at_least past known.left) known.calls in
      subst (λ (d : Doing). (requests_left script past - 1) * rounds_of_one setting.terms script + talk_rounds setting.terms m.tick (on_open m.links d.connection) d.talk ≤ rounds_with setting m stepped script (requests_left script past) None (Some request)) same (omega arith)
    where
      at_least : (before : List Past) → list_any is_left (copies_of script (reports_of before)) ≡ true → 1 ≤ requests_left script before
      at_least before left = let fewer : requests_left script (before ++ past_of setting.terms (begun setting.terms event m.tick request) ∷ []) + 1 ≤ requests_left script before = past_left script before (past_of setting.terms (begun setting.terms event m.tick request)) left in omega arith
  old_least event past None None doing is follows = absurd (let none : ⊥ = cc in none)

-- WHERE IT STANDS ---------------------------------------------------------------------------------

-- It goes on with fewer rounds, or is over.
pub new_most : (setting : Setting) (n : Machine) (who : ℕ) (client : Client) (doing : Doing) (held : Hold) (rounds : ℕ) → 1 ≤ rounds → list_any is_left (copies_of (script_at setting who) (reports_of client.past)) ≡ true
    → (held ≡ hold.Keep → doing_rounds setting n true doing ≤ rounds)
    → client_rounds setting n true (script_at setting who) (after_hold setting who client doing held) ≤ (requests_left (script_at setting who) client.past - 1) * rounds_of_one setting.terms (script_at setting who) + rounds
new_most setting n who client doing held rounds some left keeps = by held keeps
  where
    script : List Request
    script = script_at setting who

    size : ℕ
    size = rounds_of_one setting.terms script

    later : List Past
    later = client.past ++ past_of setting.terms doing ∷ []

    over : (next : Option Request) → rounds_with setting n true script (requests_left script later) None next ≤ (requests_left script client.past - 1) * size + rounds
    over None = omega arith
    over (Some request) =
        let fewer : requests_left script later + 1 ≤ requests_left script client.past = past_left script client.past (past_of setting.terms doing) left in
        let times : requests_left script later * size ≤ (requests_left script client.past - 1) * size = times_less (requests_left script later) (requests_left script client.past - 1) size (omega arith) in
        omega (arith, times, some)

    by : (held : Hold) → (held ≡ hold.Keep → doing_rounds setting n true doing ≤ rounds) → client_rounds setting n true script (after_hold setting who client doing held) ≤ (requests_left script client.past - 1) * size + rounds
    by hold.Keep keeps = let less : doing_rounds setting n true doing ≤ rounds = keeps refl in omega arith
    by hold.GiveBack keeps = over (next_of script (reports_of later))
    by hold.Drop keeps = over (next_of script (reports_of later))

-- one round less for its talk, and the tick
pub doing_most : (setting : Setting) (n : Machine) (doing : Doing) (rounds : ℕ) → talk_rounds setting.terms n.tick (on_open n.links doing.connection) doing.talk + 1 ≤ rounds → doing_rounds setting n true doing ≤ rounds
doing_most setting n doing rounds less =
    let one : once_if (not (awaits_tick setting.terms n.tick doing.talk doing.talk.phase) && (true || may_serve n.links doing.connection)) ≤ 1 = once_most (not (awaits_tick setting.terms n.tick doing.talk doing.talk.phase) && true) in
    omega arith

-- PHASES ------------------------------------------------------------------------------------------

pub slot_phase : (terms : Terms) (talk : Talk) (phase : Phase) (now : ℕ) → wants_in terms talk phase now ≡ wants.Slot → (from : Option ℕ) × (phase ≡ Queued from)
slot_phase terms talk (Queued from) now is = (from, refl)
slot_phase terms talk (Seeking lost) now is = by (has_waited talk.last_try now terms.limits.delay) is
  where
    by : (waited : Bool) → (if waited then wants.Try else wants.Early) ≡ wants.Slot → (from : Option ℕ) × (Seeking lost ≡ Queued from)
    by true is = absurd (let none : ⊥ = cc in none)
    by false is = absurd (let none : ⊥ = cc in none)
slot_phase terms talk phase now is = absurd (let none : ⊥ = cc in none)

-- it has a slot, and no connection
pub seeking_phase : (terms : Terms) (talk : Talk) (phase : Phase) (now : ℕ) → ((wants_in terms talk phase now ≡ wants.Try) ⊎ (wants_in terms talk phase now ≡ wants.Early)) → (lost : Option Losing) × (phase ≡ Seeking lost)
seeking_phase terms talk (Seeking lost) now is = (lost, refl)
seeking_phase terms talk Idle now (inl is) = absurd (let none : ⊥ = cc in none)
seeking_phase terms talk Idle now (inr is) = absurd (let none : ⊥ = cc in none)
seeking_phase terms talk Unbegun now (inl is) = absurd (let none : ⊥ = cc in none)
seeking_phase terms talk Unbegun now (inr is) = absurd (let none : ⊥ = cc in none)
seeking_phase terms talk (Queued from) now (inl is) = absurd (let none : ⊥ = cc in none)
seeking_phase terms talk (Queued from) now (inr is) = absurd (let none : ⊥ = cc in none)
seeking_phase terms talk (Greeting lost) now (inl is) = absurd (let none : ⊥ = cc in none)
seeking_phase terms talk (Greeting lost) now (inr is) = absurd (let none : ⊥ = cc in none)
seeking_phase terms talk (Asked asking) now (inl is) = absurd (let none : ⊥ = cc in none)
seeking_phase terms talk (Asked asking) now (inr is) = absurd (let none : ⊥ = cc in none)
seeking_phase terms talk (Running state) now (inl is) = absurd (let none : ⊥ = cc in none)
seeking_phase terms talk (Running state) now (inr is) = absurd (let none : ⊥ = cc in none)
seeking_phase terms talk (Replaying state) now (inl is) = absurd (let none : ⊥ = cc in none)
seeking_phase terms talk (Replaying state) now (inr is) = absurd (let none : ⊥ = cc in none)

pub early_waits : (terms : Terms) (talk : Talk) (lost : Option Losing) (now : ℕ) → wants_in terms talk (Seeking lost) now ≡ wants.Early → nat_lt 0 (try_wait terms now talk.last_try) ≡ true
early_waits terms talk lost now is = by talk.last_try is
  where
    waited : (last : ℕ) (test : Bool) → nat_le terms.limits.delay (now - last) ≡ test → (if test then wants.Try else wants.Early) ≡ wants.Early → nat_lt 0 (terms.limits.delay - (now - last)) ≡ true
    waited last true short is = absurd (let none : ⊥ = cc in none)
    waited last false short is = grind (arith, nat_tests)

    by : (last : Option ℕ) → (if has_waited last now terms.limits.delay then wants.Try else wants.Early) ≡ wants.Early → nat_lt 0 (try_wait terms now last) ≡ true
    by None is = absurd (let none : ⊥ = cc in none)
    by (Some last) is = waited last (nat_le terms.limits.delay (now - last)) refl is

-- A try that opens a connection leaves a round less.
pub opened_seeking : (terms : Terms) (now : ℕ) (a : Bool) (last : Option ℕ) (left : ℕ) (lost : Option Losing) → rounds_by terms now true last left (Greeting lost) + 1 ≤ rounds_by terms now a last left (Seeking lost)
opened_seeking terms now a last left None = omega arith
opened_seeking terms now a last left (Some lost) = omega arith

pub opened_queued : (terms : Terms) (now : ℕ) (a : Bool) (last : Option ℕ) (left : ℕ) (from : Option ℕ) → rounds_by terms now true last left (Greeting None) + 1 ≤ rounds_by terms now a last left (Queued from)
opened_queued terms now a last left from = omega arith

-- each phase of a request that can step has a round at least
pub some_rounds : (terms : Terms) (now : ℕ) (a : Bool) (last : Option ℕ) (left : ℕ) (phase : Phase) → (phase ≡ Idle → ⊥) → 1 ≤ rounds_by terms now a last left phase
some_rounds terms now a last left Idle other = absurd (other refl)
some_rounds terms now a last left Unbegun other = omega arith
some_rounds terms now a last left (Queued from) other = omega arith
some_rounds terms now a last left (Seeking None) other = omega arith
some_rounds terms now a last left (Seeking (Some lost)) other = omega arith
some_rounds terms now true last left (Greeting None) other = omega arith
some_rounds terms now false last left (Greeting None) other = omega arith
some_rounds terms now true last left (Greeting (Some lost)) other = omega arith
some_rounds terms now false last left (Greeting (Some lost)) other = omega arith
some_rounds terms now true last left (Asked asking) other = omega arith
some_rounds terms now false last left (Asked asking) other = omega arith
some_rounds terms now a last left (Running state) other = omega arith
some_rounds terms now a last left (Replaying state) other = omega arith
