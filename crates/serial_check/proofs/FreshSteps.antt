-- One draw, one piece and one entry more, behind those before.
use Rattle.std.proofs.Common.{◌≡◌, ℕ, ◌+◌, ◌<◌, ◌≤◌, Bool, true, false, None, List, [], ◌∷◌, ◌++◌, length, get_or, take, drop, Option, sym, ap, ◌∙◌, subst, append_assoc, append-nil}
use Rattle.std.specs.Prelude.{if◌then◌else◌}
use Rattle.std.specs.List.{flat_map}
use Rattle.std.proofs.lemmas.List.{drop_all, take_all}
use Rattle.std.proofs.lemmas.List.Concat.{flat_map-append}
use Rattle.svc_values.specs.declared.draw.Draw.{Draw}
use Rattle.svc_values.specs.declared.entry.Entry.{Entry}
use Rattle.svc_values.specs.declared.entry.Piece.{Piece}
use Rattle.server_model.specs.meaning.Fresh.{draws_in, draws_of}
use Rattle.serial_check.specs.declared.fresh.Single.{Single}
use Rattle.serial_check.specs.meaning.Places.{piece_at, is_drawn_before, draws_again, or_next, fresh_pieces, or_later, fresh_entries}
use Rattle.serial_check.specs.Given.{Keeps}
use Rattle.serial_check.proofs.Lists.{left_is, front_is}
use Rattle.serial_check.proofs.FreshPlaces.{again_same, moved}

-- ---- draws

pub draws_begin : (kept : List Single) (before draws : List Draw) → Keeps kept before
    → Keeps kept (before ++ take 0 draws) × (draws_again before draws ≡ draws_again (before ++ take 0 draws) (drop 0 draws))
draws_begin kept before draws keeps = (subst (Keeps kept) (sym (append-nil before)) keeps, ap (λ l. draws_again l draws) (sym (append-nil before)))

module _ (before draws : List Draw) (i : ℕ) (one : Draw) (within : i < length draws) (is : one ≡ get_or draws i one) where
  pub draws_front : (before ++ take i draws) ++ one ∷ [] ≡ before ++ take (i + 1) draws
  draws_front = append_assoc before (take i draws) (one ∷ []) ∙ ap (λ l. before ++ l) (front_is draws i one within is)

  pub draws_on : (again : Bool) → again ≡ is_drawn_before (before ++ take i draws) one
      → draws_again (before ++ take i draws) (drop i draws) ≡ (if again then true else draws_again (before ++ take (i + 1) draws) (drop (i + 1) draws))
  draws_on again told =
      ap (draws_again (before ++ take i draws)) (left_is draws i one within is)
      ∙ ap (λ t. if t then true else draws_again (one ∷ before ++ take i draws) (drop (i + 1) draws)) (sym told)
      ∙ ap (λ t. if again then true else t)
      (ap (λ l. draws_again (one ∷ l) (drop (i + 1) draws)) (sym (append-nil (before ++ take i draws)))
      ∙ again_same (one ∷ (before ++ take i draws) ++ []) ((before ++ take i draws) ++ one ∷ []) (drop (i + 1) draws) (moved one (before ++ take i draws) [])
      ∙ ap (λ l. draws_again l (drop (i + 1) draws)) draws_front)

pub no_draw_left : (before draws : List Draw) (i : ℕ) → length draws ≤ i → draws_again (before ++ take i draws) (drop i draws) ≡ false
no_draw_left before draws i over = ap (draws_again (before ++ take i draws)) (drop_all i draws over)

-- ---- pieces

pub pieces_begin : (kept : List Single) (before : List Draw) (n : ℕ) (pieces : List Piece) → Keeps kept before
    → Keeps kept (before ++ flat_map draws_in (take 0 pieces)) × (fresh_pieces before n 0 pieces ≡ fresh_pieces (before ++ flat_map draws_in (take 0 pieces)) n 0 (drop 0 pieces))
pieces_begin kept before n pieces keeps = (subst (Keeps kept) (sym (append-nil before)) keeps, ap (λ l. fresh_pieces l n 0 pieces) (sym (append-nil before)))

module _ (before : List Draw) (n : ℕ) (pieces : List Piece) (p : ℕ) (piece : Piece) (within : p < length pieces) (is : piece ≡ get_or pieces p piece) where
  pub pieces_front : (before ++ flat_map draws_in (take p pieces)) ++ piece.draws ≡ before ++ flat_map draws_in (take (p + 1) pieces)
  pieces_front =
      append_assoc before (flat_map draws_in (take p pieces)) piece.draws
      ∙ ap (λ l. before ++ (flat_map draws_in (take p pieces) ++ l)) (sym (append-nil piece.draws))
      ∙ ap (λ l. before ++ l) (sym (flat_map-append draws_in (take p pieces) (piece ∷ [])))
      ∙ ap (λ l. before ++ flat_map draws_in l) (front_is pieces p piece within is)

  pub pieces_on : (again : Bool) → again ≡ draws_again (before ++ flat_map draws_in (take p pieces)) piece.draws
      → fresh_pieces (before ++ flat_map draws_in (take p pieces)) n p (drop p pieces)
      ≡ or_next again (piece_at n p) (fresh_pieces (before ++ flat_map draws_in (take (p + 1) pieces)) n (p + 1) (drop (p + 1) pieces))
  pieces_on again told =
      ap (fresh_pieces (before ++ flat_map draws_in (take p pieces)) n p) (left_is pieces p piece within is)
      ∙ ap (λ t. or_next t (piece_at n p) (fresh_pieces ((before ++ flat_map draws_in (take p pieces)) ++ piece.draws) n (p + 1) (drop (p + 1) pieces))) (sym told)
      ∙ ap (λ l. or_next again (piece_at n p) (fresh_pieces l n (p + 1) (drop (p + 1) pieces))) pieces_front

pub no_piece_left : (before : List Draw) (n : ℕ) (pieces : List Piece) (p : ℕ) → length pieces ≤ p
    → (fresh_pieces (before ++ flat_map draws_in (take p pieces)) n p (drop p pieces) ≡ None) × (before ++ flat_map draws_in (take p pieces) ≡ before ++ flat_map draws_in pieces)
no_piece_left before n pieces p over = (
  ap (fresh_pieces (before ++ flat_map draws_in (take p pieces)) n p) (drop_all p pieces over),
  ap (λ l. before ++ flat_map draws_in l) (take_all p pieces over),
)

-- ---- entries

module _ (entries : List Entry) (n : ℕ) (entry : Entry) (within : n < length entries) (is : entry ≡ get_or entries n entry) where
  pub entries_front : flat_map draws_of (take n entries) ++ draws_of entry ≡ flat_map draws_of (take (n + 1) entries)
  entries_front =
      ap (λ l. flat_map draws_of (take n entries) ++ l) (sym (append-nil (draws_of entry)))
      ∙ sym (flat_map-append draws_of (take n entries) (entry ∷ []))
      ∙ ap (flat_map draws_of) (front_is entries n entry within is)

  pub entries_on : (place : Option (List ℕ)) → place ≡ fresh_pieces (flat_map draws_of (take n entries)) n 0 entry.pieces
      → fresh_entries (flat_map draws_of (take n entries)) n (drop n entries) ≡ or_later place (fresh_entries (flat_map draws_of (take (n + 1) entries)) (n + 1) (drop (n + 1) entries))
  entries_on place told =
      ap (fresh_entries (flat_map draws_of (take n entries)) n) (left_is entries n entry within is)
      ∙ ap (λ o. or_later o (fresh_entries (flat_map draws_of (take n entries) ++ draws_of entry) (n + 1) (drop (n + 1) entries))) (sym told)
      ∙ ap (λ l. or_later place (fresh_entries l (n + 1) (drop (n + 1) entries))) entries_front
