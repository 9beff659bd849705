-- An entry is a stretch of a script exactly where it stands at a place of it.
use Rattle.std.proofs.Common.{◌≡◌, refl, ap, ◌∙◌, true, ℕ, zero, suc, drop, length, map, take, List, [], ◌∷◌, ◌⊎◌, inl, inr}
use Rattle.std.proofs.lemmas.Bool.{and_parts, and_from, or_cases, or_left, or_right}
use Rattle.svc_values.specs.declared.call.Call.{Call}
use Rattle.svc_values.specs.declared.entry.Entry.{Entry}
use Rattle.svc_values.specs.declared.entry.Piece.{Piece}
use Rattle.svc_values.specs.meaning.Same.{same_call}
use Rattle.svc_values.specs.SameLaws.{same_call_decides}
use Rattle.svc_values.specs.meaning.SettingsList.{NamedValues, same_settings, with_set, with_sets}
use Rattle.script_clauses.specs.meaning.Scripted.{begins_with, is_stretch, stands_first}
use Rattle.script_clauses.specs.Places.{StandsAt, StretchesHavePlaces}

-- pieces whose calls are a front of the script
pub fronts : (n : ℕ) (script : List Call) (pieces : List Piece) → map (λ (piece : Piece). piece.call) pieces ≡ take n script → begins_with script pieces ≡ true
fronts n script [] is = refl
fronts zero script (piece ∷ pieces) is = absurd (let none : ⊥ = cc in none)
fronts (suc n) [] (piece ∷ pieces) is = absurd (let none : ⊥ = cc in none)
fronts (suc n) (call ∷ script) (piece ∷ pieces) is =
    let first : piece.call ≡ call = cc in
    let rest : map (λ (one : Piece). one.call) pieces ≡ take n script = cc in
    and_from (same_call piece.call call) (begins_with script pieces) ((same_call_decides piece.call call).1 first) (fronts n script pieces rest)

-- and the other way round
front_of : (script : List Call) (pieces : List Piece) → begins_with script pieces ≡ true → map (λ (piece : Piece). piece.call) pieces ≡ take (length pieces) script
front_of script [] begins = refl
front_of [] (piece ∷ pieces) begins = absurd (let none : ⊥ = cc in none)
front_of (call ∷ script) (piece ∷ pieces) begins =
    let parts = and_parts (same_call piece.call call) (begins_with script pieces) begins in
    ap (λ (one : Call). one ∷ map (λ (other : Piece). other.call) pieces) ((same_call_decides piece.call call).0 parts.0) ∙ ap (λ (calls : List Call). call ∷ calls) (front_of script pieces parts.1)

-- an entry that stands at a place of the script is a stretch of it
pub stretch_at : (from : ℕ) (settings : NamedValues) (script : List Call) (entry : Entry) → begins_with (drop from script) entry.pieces ≡ true → same_settings entry.settings (with_sets settings (take from script)) ≡ true → is_stretch settings script entry ≡ true
stretch_at zero settings [] entry begins same = and_from (begins_with [] entry.pieces) (same_settings entry.settings settings) begins same
stretch_at zero settings (call ∷ script) entry begins same =
    or_left (stands_first settings (call ∷ script) entry) (is_stretch (with_set settings call) script entry)
    (and_from (begins_with (call ∷ script) entry.pieces) (same_settings entry.settings settings) begins same)
stretch_at (suc from) settings [] entry begins same = and_from (begins_with [] entry.pieces) (same_settings entry.settings settings) begins same
stretch_at (suc from) settings (call ∷ script) entry begins same =
    or_right (stands_first settings (call ∷ script) entry) (is_stretch (with_set settings call) script entry) (stretch_at from (with_set settings call) script entry begins same)

-- where the script begins so
place_first : (settings : NamedValues) (script : List Call) (entry : Entry) → stands_first settings script entry ≡ true → (from : ℕ) × StandsAt settings script entry from
place_first settings script entry first =
    let parts = and_parts (begins_with script entry.pieces) (same_settings entry.settings settings) first in
    (0, record { calls = front_of script entry.pieces parts.0; starts = parts.1 })

place_of : (settings : NamedValues) (script : List Call) (entry : Entry) → is_stretch settings script entry ≡ true → (from : ℕ) × StandsAt settings script entry from
place_of settings [] entry is = place_first settings [] entry is
place_of settings (call ∷ script) entry is =
    by (or_cases (stands_first settings (call ∷ script) entry) (is_stretch (with_set settings call) script entry) is) (place_of (with_set settings call) script entry)
  where
    by : (stands_first settings (call ∷ script) entry ≡ true) ⊎ (is_stretch (with_set settings call) script entry ≡ true)
        → (is_stretch (with_set settings call) script entry ≡ true → (from : ℕ) × StandsAt (with_set settings call) script entry from) → (from : ℕ) × StandsAt settings (call ∷ script) entry from
    by (inl first) again = place_first settings (call ∷ script) entry first
    by (inr later) again = let found = again later in (suc found.0, record { calls = found.1.calls; starts = found.1.starts })

pub have_places : StretchesHavePlaces
have_places settings script entry =
    (place_of settings script entry, λ found. stretch_at found.0 settings script entry (fronts (length entry.pieces) (drop found.0 script) entry.pieces found.1.calls) found.1.starts)
