-- A replay that is done was given the digests that were recorded.
use Rattle.std.proofs.Common.{◌≡◌, ℕ, ◌+◌, ◌==◌, Bool, true, false, List, [], ◌∷◌, suc, map, length, drop, Option, Some, None, if◌then◌else◌, refl, sym, ap, ◌∙◌, subst, arith, add-one, drop-cons}
use Rattle.std.specs.Str.{bytes_eq}
use Rattle.std.specs.List.{slice_get}
use Rattle.std.proofs.lemmas.List.{drop_all}
use Rattle.std.proofs.lemmas.Option.{slice_get_within, get_or_from_slice_get}
use Rattle.std.proofs.lemmas.Slice.Eq.{bytes_eq-Decides}
use Rattle.call_recorder.specs.declared.recorded.Recorded.{Recorded}
use Rattle.client_model.specs.meaning.States.{Repeating, next_of}
use Rattle.client_model.specs.meaning.Told.{repeated}
use Rattle.client_model.specs.meaning.Verifying.{verified_more}
use Rattle.replay_core.specs.Verifying.{is_done, verify_next, verify_if, VerifiesAll}

-- the digests of the calls from this place on
abbrev digests_from : ℕ → List Recorded → List (List ℕ)
digests_from at calls = map (λ one. one.seen.digest) (drop at calls)

digests_from-end : (at : ℕ) (calls : List Recorded) → (at == length calls) ≡ true → [] ≡ digests_from at calls
digests_from-end at calls is_end =
    let e : drop at calls ≡ [] = drop_all at calls (grind arith) in
    ap (map (λ one. one.seen.digest)) (sym e)

digests_from-cons : (at : ℕ) (calls : List Recorded) (one : Recorded) → slice_get calls at ≡ Some one → one.seen.digest ∷ digests_from (at + 1) calls ≡ digests_from at calls
digests_from-cons at calls one is_one =
    let e : drop at calls ≡ one ∷ drop (at + 1) calls =
    rw add-one (drop-cons calls at one (slice_get_within calls at one is_one)
    ∙ ap (λ first. first ∷ drop (suc at) calls) (get_or_from_slice_get calls at one one is_one))
    in ap (map (λ each. each.seen.digest)) (sym e)

-- a replay that was refused stays refused
refused_stays : (digests : List (List ℕ)) (last : Repeating) → verify_if None digests ≡ Some last → ⊥
refused_stays [] last is = let none : ⊥ = cc in none
refused_stays (now ∷ digests) last is = let none : ⊥ = cc in none

-- what is left after the next call decides
module _ (state : Repeating) (now : List ℕ) (digests : List (List ℕ)) (last : Repeating)
    (later : verify_if (Some (verified_more state)) digests ≡ Some last → digests ≡ digests_from (state.verified + 1) state.track.recorder.calls) where
  if_same : (one : Recorded) → next_of state ≡ Some one → (same : Bool) → bytes_eq one.seen.digest now ≡ same
      → verify_if (if same then Some (verified_more state) else None) digests ≡ Some last
      → now ∷ digests ≡ digests_from state.verified state.track.recorder.calls
  if_same one is_one false compared is = absurd (refused_stays digests last is)
  if_same one is_one true compared is =
      let same : one.seen.digest ≡ now = (bytes_eq-Decides one.seen.digest now).0 compared in
      ap (λ first. first ∷ digests) (sym same)
      ∙ ap (λ rest. one.seen.digest ∷ rest) (later is)
      ∙ digests_from-cons state.verified state.track.recorder.calls one is_one

  from_next : (found : Option Recorded) → next_of state ≡ found → verify_if (verify_next found state now) digests ≡ Some last
      → now ∷ digests ≡ digests_from state.verified state.track.recorder.calls
  from_next None is_found is = absurd (refused_stays digests last is)
  from_next (Some one) is_found is = if_same one is_found (bytes_eq one.seen.digest now) refl is

-- the digests of a replay that comes to its end are those of the calls that were not verified yet
from_here : (state : Repeating) (digests : List (List ℕ)) (last : Repeating) → verify_if (Some state) digests ≡ Some last → is_done last ≡ true
    → digests ≡ digests_from state.verified state.track.recorder.calls
from_here state [] last is done =
    let e : last ≡ state = cc in
    digests_from-end state.verified state.track.recorder.calls (subst (λ (s : Repeating). is_done s ≡ true) e done)
from_here state (now ∷ digests) last is done =
    from_next state now digests last (λ more. from_here (verified_more state) digests last more done) (next_of state) refl is

pub replays_all : VerifiesAll
replays_all asked digests last is done = from_here (repeated asked) digests last is done
