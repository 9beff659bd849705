-- The pieces of an entry, one after the other.
use Rattle.std.proofs.Common.{◌≡◌, ℕ, ◌+◌, ◌<◌, ◌≤◌, ◌==◌, Bool, true, false, List, [], ◌∷◌, length, get_or, drop, Option, Some, None, refl, sym, ap, ◌∙◌, subst, arith, length-drop}
use Rattle.std.specs.Prelude.{IsTrue}
use Rattle.std.proofs.lemmas.Bool.Decides.{nat_tests}
use Rattle.std.proofs.lemmas.List.{drop_all}
use Rattle.svc_values.specs.declared.schema.Shape.{Shape}
use Rattle.svc_values.specs.declared.entry.Piece.{Piece}
use Rattle.svc_values.specs.declared.entry.Write.{Write}
use Rattle.svc_values.specs.declared.tables.PlainRow.{PlainRow}
use Rattle.svc_values.specs.meaning.Fitting.{writes_fit}
use Rattle.svc_values.specs.meaning.SettingsList.{NamedValues}
use Rattle.svc_values.specs.meaning.Tables.{with_writes}
use Rattle.stmt_meaning.specs.meaning.Meaning.{Meant}
use Rattle.stmt_meaning.specs.meaning.SerialTest.{replayed}
use Rattle.table_store.specs.Stored.{Stored}
use Rattle.serial_check.specs.declared.transaction.Ended.TheVariants as ended
use Rattle.serial_check.specs.meaning.Places.{Course, Goes, Fails, entry_at, piece_at, and_then, pieces_course}
use Rattle.serial_check.specs.Replaying.{HasReplayed, HasCourse, next_piece}
use Rattle.serial_check.proofs.Lists.{left_is, one_there}

-- ---- pieces

abbrev pub is_end : List Piece → Bool
is_end [] = true
is_end (piece ∷ more) = false

-- the pieces that are left, where there was one
abbrev pub course_left : Shape → List PlainRow → NamedValues → ℕ → ℕ → List Piece → Course
course_left made before settings n p [] = Goes before
course_left made before settings n p (piece ∷ more) =
    and_then (piece_at n p) (next_piece made before settings piece (is_end more)) (λ meant. course_left made meant.tables meant.settings n (p + 1) more)

then_same : (place : List ℕ) (meant : Option Meant) (f g : Meant → Course) → ((m : Meant) → f m ≡ g m) → and_then place meant f ≡ and_then place meant g
then_same place None f g same = refl
then_same place (Some m) f g same = same m

pub course_is : (made : Shape) (before : List PlainRow) (settings : NamedValues) (n p : ℕ) (piece : Piece) (more : List Piece)
    → pieces_course made before settings n p (piece ∷ more) ≡ course_left made before settings n p (piece ∷ more)
course_is made before settings n p piece [] = refl
course_is made before settings n p piece (next ∷ more) =
    then_same (piece_at n p) (next_piece made before settings piece false)
    (λ meant. pieces_course made meant.tables meant.settings n (p + 1) (next ∷ more)) (λ meant. course_left made meant.tables meant.settings n (p + 1) (next ∷ more))
    (λ m. course_is made m.tables m.settings n (p + 1) next more)

pub course_begins : (made : Shape) (before : List PlainRow) (settings : NamedValues) (n : ℕ) (pieces : List Piece) → (length pieces == 0) ≡ false
    → pieces_course made before settings n 0 pieces ≡ course_left made before settings n 0 (drop 0 pieces)
course_begins made before settings n [] some = cc
course_begins made before settings n (piece ∷ more) some = course_is made before settings n 0 piece more

pub no_piece : (made : Shape) (before : List PlainRow) (settings : NamedValues) (n : ℕ) (pieces : List Piece) → (length pieces == 0) ≡ true
    → pieces_course made before settings n 0 pieces ≡ Fails (entry_at n)
no_piece made before settings n [] none = refl
no_piece made before settings n (piece ∷ more) none = absurd (let clash : ◌≡◌ {A = Bool} true false = sym none ∙ one_there piece more in cc)

end_is : (more : List Piece) → is_end more ≡ (length more == 0)
end_is [] = refl
end_is (piece ∷ more) = sym (one_there piece more)

-- the last piece has its place just ahead of the number of pieces
last_is : (pieces : List Piece) (p : ℕ) → p < length pieces → is_end (drop (p + 1) pieces) ≡ (p + 1 == length pieces)
last_is pieces p within =
    end_is (drop (p + 1) pieces) ∙ ap (λ n. n == 0) (length-drop (p + 1) pieces) ∙ grind (arith, nat_tests)

module _ (committed : List PlainRow) (writes : List Write) (settings : NamedValues) where
  -- what comes behind a piece that stands
  pub stood : (place : List ℕ) (meant : Option Meant) (next : List PlainRow → NamedValues → Course) → HasReplayed committed writes settings meant true
      → and_then place meant (λ m. next m.tables m.settings) ≡ next (with_writes committed writes) settings
  stood place None next e = absurd (let clash : ◌≡◌ {A = Bool} true false = e in cc)
  stood place (Some m) next (replays, (tables, kept)) = ap (λ t. next t m.settings) tables ∙ ap (next (with_writes committed writes)) kept

  pub fell : (place : List ℕ) (meant : Option Meant) (next : Meant → Course) → HasReplayed committed writes settings meant false → and_then place meant next ≡ Fails place
  fell place None next e = refl
  fell place (Some m) next (replays, rest) = absurd (let clash : ◌≡◌ {A = Bool} false true = replays in cc)

module _ (made : Shape) (before : List PlainRow) (settings : NamedValues) (n : ℕ) (pieces : List Piece) (p : ℕ) (piece : Piece) (within : p < length pieces) (is : piece ≡ get_or pieces p piece) (is_last : Bool) (last : is_last ≡ (p + 1 == length pieces)) where
  here : course_left made before settings n p (drop p pieces)
      ≡ and_then (piece_at n p) (next_piece made before settings piece is_last) (λ meant. course_left made meant.tables meant.settings n (p + 1) (drop (p + 1) pieces))
  here =
      ap (course_left made before settings n p) (left_is pieces p piece within is)
      ∙ ap (λ b. and_then (piece_at n p) (next_piece made before settings piece b) (λ meant. course_left made meant.tables meant.settings n (p + 1) (drop (p + 1) pieces))) (last_is pieces p within ∙ sym last)

  pub piece_stood : (committed : List PlainRow) (writes : List Write) (after : NamedValues) → HasReplayed committed writes after (next_piece made before settings piece is_last) true
      → course_left made before settings n p (drop p pieces) ≡ course_left made (with_writes committed writes) after n (p + 1) (drop (p + 1) pieces)
  piece_stood committed writes after replayed =
      here ∙ stood committed writes after (piece_at n p) (next_piece made before settings piece is_last) (λ t s. course_left made t s n (p + 1) (drop (p + 1) pieces)) replayed

  pub piece_fell : (committed : List PlainRow) (writes : List Write) (after : NamedValues) → HasReplayed committed writes after (next_piece made before settings piece is_last) false
      → course_left made before settings n p (drop p pieces) ≡ Fails (piece_at n p)
  piece_fell committed writes after replayed =
      here ∙ fell committed writes after (piece_at n p) (next_piece made before settings piece is_last) (λ meant. course_left made meant.tables meant.settings n (p + 1) (drop (p + 1) pieces)) replayed

pub all_stood : (made : Shape) (before : List PlainRow) (settings : NamedValues) (n : ℕ) (pieces : List Piece) (p : ℕ) → length pieces ≤ p → course_left made before settings n p (drop p pieces) ≡ Goes before
all_stood made before settings n pieces p over = ap (course_left made before settings n p) (drop_all p pieces over)

-- what an entry's course says of how it ended
pub ended_whole : (committed : Stored) (course : Course) (writes : List Write) → course ≡ Goes (with_writes committed.rows writes) → IsTrue (writes_fit committed.schemas writes) → HasCourse committed course (ended.Whole writes)
ended_whole committed course writes is fits = subst (λ (c : Course). HasCourse committed c (ended.Whole writes)) (sym is) (refl, fits)

pub ended_failed : (committed : Stored) (course : Course) (place found : List ℕ) → course ≡ Fails place → found ≡ place → HasCourse committed course (ended.Failed found)
ended_failed committed course place found is same = subst (λ (c : Course). HasCourse committed c (ended.Failed found)) (sym is) same
