-- Of a transaction that a connection stored: no call before its commit was shown as its end,
-- whether it was sent on that connection with the mark or without.
use Rattle.std.proofs.Common.{◌≡◌, refl, sym, ap, subst, ◌∙◌, arith, Bool, true, false, ℕ, suc, zero, ◌+◌, ◌<◌, ◌≤◌, ◌&&◌, ◌||◌, cond, filter, List, [], ◌∷◌, Some, ◌⊎◌, inl, inr, if◌then◌else◌}
use Rattle.std.specs.Prelude.{◌==◌, is_none, not, slice_get}
use Rattle.std.specs.List.{list_all}
use Rattle.std.proofs.lemmas.Bool.{and_parts, and_from, or_cases, not-true}
use Rattle.svc_values.specs.declared.answer.Answer.{Answer}
use Rattle.svc_values.specs.declared.call.Call.{Call}
use Rattle.svc_values.specs.declared.draw.Draw.{Draw}
use Rattle.svc_values.specs.declared.frame.Up.{Up}
use Rattle.svc_values.specs.declared.frame.Up.TheVariants as up
use Rattle.svc_values.specs.meaning.Endings.{ends_committed}
use Rattle.outage_schedule.specs.declared.item.Item.{Item}
use Rattle.outage_schedule.specs.declared.item.Item.TheVariants as item
use Rattle.server_model.specs.meaning.Walk.{ends}
use Rattle.world_model.specs.records.Basic.{is_stopped, ends_life, none_behind}
use Rattle.world_model.specs.meaning.Crashing.{is_crashed_item}
use Rattle.world_model.specs.meaning.Frames.{Sent, Handled}
use Rattle.world_model.specs.Parts.{is_unmarked, is_unmarked_frame}
use Rattle.world_model.specs.meaning.Serving.{is_item_of, is_last, reply_of}
use Rattle.invariant_laws.specs.Shown.{is_call, is_marked, in_row, has_unmarked, first_unmarked}
use Rattle.world_model.specs.Traced.{Course}
use Rattle.world_model.specs.records.Wire.{is_handled, same_replies}
use Rattle.once_laws.proofs.values.StoredCommits.{leaves_open}
use Rattle.world_model.proofs.Offered.{eq_from, not_both}

-- MARKS -------------------------------------------------------------------------------------------

pub call_marked : (frame : Up) → is_call frame ≡ true → is_unmarked_frame frame ≡ false → is_marked frame ≡ true
call_marked (up.Call true kept call) is plain = refl
call_marked (up.Call false kept call) is plain = absurd (let none : ⊥ = cc in none)
call_marked frame is plain = absurd (let none : ⊥ = cc in none)

pub marked_plain : (frame : Up) → is_marked frame ≡ true → is_unmarked_frame frame ≡ false
marked_plain (up.Call true kept call) is = refl
marked_plain (up.Call false kept call) is = absurd (let none : ⊥ = cc in none)
marked_plain frame is = absurd (let none : ⊥ = cc in none)

module _ (course : Course) where
  -- the first one without the mark is from the start on
  least_unmarked : (start : ℕ) (calls : List Sent) → in_row start calls ≡ true → has_unmarked calls ≡ true → list_all (λ sent. is_call sent.frame) calls ≡ true → start ≤ first_unmarked course calls
  least_unmarked start [] row some called = absurd (let none : ⊥ = cc in none)
  least_unmarked start (first ∷ others) row some called = by (is_marked first.frame) refl (λ more. least_unmarked (start + 1) others parts.1 more both.1)
    where
      parts : ((first.call == start) ≡ true) × (in_row (start + 1) others ≡ true)
      parts = and_parts (first.call == start) (in_row (start + 1) others) row

      both : (is_call first.frame ≡ true) × (list_all (λ sent. is_call sent.frame) others ≡ true)
      both = and_parts (is_call first.frame) (list_all (λ sent. is_call sent.frame) others) called

      by : (marked : Bool) → is_marked first.frame ≡ marked → (has_unmarked others ≡ true → start + 1 ≤ first_unmarked course others) → start ≤ (if marked then first_unmarked course others else first.call)
      by true is later =
          let plain : is_unmarked first ≡ false = marked_plain first.frame is in
          let rest = later (sym (ap (λ (b : Bool). b || has_unmarked others) plain) ∙ some) in
          omega (arith, rest)
      by false is later = let here = eq_from first.call start parts.0 in omega (arith, here)

  -- and behind those with the mark that come first
  pub unmarked_above : (start : ℕ) (calls : List Sent) → in_row start calls ≡ true → has_unmarked calls ≡ true → list_all (λ sent. is_call sent.frame) calls ≡ true → (place : ℕ) (sent : Sent) → slice_get calls place ≡ Some sent
      → ((other : ℕ) (one : Sent) → other ≤ place → slice_get calls other ≡ Some one → is_marked one.frame ≡ true) → start + place < first_unmarked course calls
  unmarked_above start [] row some called place sent at marks = absurd (let none : ⊥ = cc in none)
  unmarked_above start (first ∷ others) row some called place sent at marks =
      by place at (λ n found more. unmarked_above (start + 1) others parts.1 more both.1 n sent found) marks
    where
      parts : ((first.call == start) ≡ true) × (in_row (start + 1) others ≡ true)
      parts = and_parts (first.call == start) (in_row (start + 1) others) row

      both : (is_call first.frame ≡ true) × (list_all (λ s. is_call s.frame) others ≡ true)
      both = and_parts (is_call first.frame) (list_all (λ s. is_call s.frame) others) called

      rest_some : is_marked first.frame ≡ true → has_unmarked others ≡ true
      rest_some is = let plain : is_unmarked first ≡ false = marked_plain first.frame is in sym (ap (λ (b : Bool). b || has_unmarked others) plain) ∙ some

      next_is : is_marked first.frame ≡ true → first_unmarked course (first ∷ others) ≡ first_unmarked course others
      next_is is = ap (λ (b : Bool). if b then first_unmarked course others else first.call) is

      by : (n : ℕ) → slice_get (first ∷ others) n ≡ Some sent
          → ((m : ℕ) → slice_get others m ≡ Some sent → has_unmarked others ≡ true → ((other : ℕ) (one : Sent) → other ≤ m → slice_get others other ≡ Some one → is_marked one.frame ≡ true) → (start + 1) + m < first_unmarked course others)
          → ((other : ℕ) (one : Sent) → other ≤ n → slice_get (first ∷ others) other ≡ Some one → is_marked one.frame ≡ true) → start + n < first_unmarked course (first ∷ others)
      by zero at later marks =
          let first_is = marks 0 first (omega arith) refl in
          let least = least_unmarked (start + 1) others parts.1 (rest_some first_is) both.1 in
          let same = next_is first_is in
          omega (arith, least, same)
      by (suc n) at later marks =
          let first_is = marks 0 first (omega arith) refl in
          let rest = later n at (rest_some first_is) (λ other one most found. marks (suc other) one (omega (arith, most)) found) in
          let same = next_is first_is in
          omega (arith, rest, same)

pub kept_calls : (keep : Sent → Bool) → ((sent : Sent) → keep sent ≡ true → is_call sent.frame ≡ true) → (sents : List Sent) → list_all (λ sent. is_call sent.frame) (filter keep sents) ≡ true
kept_calls keep called [] = refl
kept_calls keep called (sent ∷ sents) = by (keep sent) refl (kept_calls keep called sents)
  where
    by : (test : Bool) → keep sent ≡ test → list_all (λ s. is_call s.frame) (filter keep sents) ≡ true → list_all (λ s. is_call s.frame) (cond test (sent ∷ filter keep sents) (filter keep sents)) ≡ true
    by true is rest = and_from (is_call sent.frame) (list_all (λ s. is_call s.frame) (filter keep sents)) (called sent is) rest
    by false is rest = rest

-- ITEMS -------------------------------------------------------------------------------------------

-- a call that was served and left its transaction open
pub record OpenCall (one : Handled) : Type 0 where
  pub marked : Bool
  pub called : Call
  pub answers : List Answer
  pub draws : List Draw
  pub is : one.served.item ≡ item.Call marked called answers draws
  pub of : is_item_of one.sent.frame (item.Call marked called answers draws) ≡ true
  pub goes_on : ends answers ≡ false

pub open_call : (n : ℕ) (one : Handled) → is_handled n one ≡ true → is_call one.sent.frame ≡ true → leaves_open one.served.item ≡ true → ends_life one ≡ false → OpenCall one
open_call n one handled call open_so lives = by one.served.item refl open_so
  where
    halted : (it : Item) → one.served.item ≡ it → is_crashed_item one.sent.frame it ≡ true → leaves_open it ≡ true → (frame : Up) → one.sent.frame ≡ frame → is_call frame ≡ true → OpenCall one
    halted it is crashed opens (up.Call replay kept called) same call_so = on it (subst (λ (f : Up). is_crashed_item f it ≡ true) same crashed) opens
      where
        on : (other : Item) → is_crashed_item (up.Call replay kept called) other ≡ true → leaves_open other ≡ true → OpenCall one
        on (item.CrashedCall marked asked) crashed opens = absurd (let none : ⊥ = cc in none)
        on other crashed opens = absurd (let none : ⊥ = cc in none)
    halted it is crashed opens frame same call_so = absurd (let none : ⊥ = cc in none)

    of_frame : (it : Item) → one.served.item ≡ it → (frame : Up) → is_call frame ≡ true → is_item_of frame it ≡ true → one.sent.frame ≡ frame → leaves_open it ≡ true → OpenCall one
    of_frame (item.Call marked called answers draws) is frame call_so fits same opens =
        let parts = and_parts (not (ends_committed answers)) (not (ends answers)) opens in
        record { marked = marked; called = called; answers = answers; draws = draws; is = is; of = subst (λ (f : Up). is_item_of f (item.Call marked called answers draws) ≡ true) (sym same) fits; goes_on = not-true (ends answers) parts.1 }
    of_frame (item.Blocked called) is frame call_so fits same opens = absurd (not_both (ends_life one) (ap (λ (it : Item). is_last it || is_stopped it) is) lives)
    of_frame it is (up.Call replay kept sent) call_so fits same opens = absurd (let none : ⊥ = cc in none)
    of_frame it is frame call_so fits same opens = absurd (let none : ⊥ = cc in none)

    by : (it : Item) → one.served.item ≡ it → leaves_open it ≡ true → OpenCall one
    by it is opens = cases (or_cases (is_item_of one.sent.frame one.served.item && same_replies one.reply (reply_of one.served.session n one.served.item)) (is_crashed_item one.sent.frame one.served.item && is_none one.reply) handled)
      where
        cases : ((is_item_of one.sent.frame one.served.item && same_replies one.reply (reply_of one.served.session n one.served.item)) ≡ true) ⊎ ((is_crashed_item one.sent.frame one.served.item && is_none one.reply) ≡ true) → OpenCall one
        cases (inl so) =
            of_frame it is one.sent.frame call (subst (λ (i : Item). is_item_of one.sent.frame i ≡ true) is (and_parts (is_item_of one.sent.frame one.served.item) (same_replies one.reply (reply_of one.served.session n one.served.item)) so).0) refl opens
        cases (inr so) =
            halted it is (subst (λ (i : Item). is_crashed_item one.sent.frame i ≡ true) is (and_parts (is_crashed_item one.sent.frame one.served.item) (is_none one.reply) so).0) opens one.sent.frame refl call

-- what is served behind another did not end its life
pub lives_before : (served : List Handled) (place last : ℕ) (one end : Handled) → none_behind served ≡ true → place < last → slice_get served place ≡ Some one → slice_get served last ≡ Some end → ends_life one ≡ false
lives_before [] place last one end alone less at there = absurd (let none : ⊥ = cc in none)
lives_before (first ∷ []) place zero one end alone less at there = absurd (let none : ⊥ = omega (arith, less) in none)
lives_before (first ∷ []) place (suc last) one end alone less at there = absurd (let none : ⊥ = cc in none)
lives_before (first ∷ next ∷ others) place zero one end alone less at there = absurd (let none : ⊥ = omega (arith, less) in none)
lives_before (first ∷ next ∷ others) zero (suc last) one end alone less at there =
    let same : first ≡ one = cc in ap ends_life (sym same) ∙ not-true (ends_life first) (and_parts (not (ends_life first)) (none_behind (next ∷ others)) alone).0
lives_before (first ∷ next ∷ others) (suc place) (suc last) one end alone less at there =
    lives_before (next ∷ others) place last one end (and_parts (not (ends_life first)) (none_behind (next ∷ others)) alone).1 (omega (arith, less)) at there
