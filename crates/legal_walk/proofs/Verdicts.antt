-- Answers with another last one, and whether a place that was read differs.
use Rattle.std.proofs.Common.{◌≡◌, ℕ, zero, suc, Bool, true, false, ◌||◌, List, [], ◌∷◌, ◌++◌, length, refl, sym, ap, ◌∙◌, arith, Bor}
use Rattle.std.proofs.lemmas.List.Elements.{All-head, All-tail}
use Rattle.std.proofs.lemmas.Bool.{false≢true}
use Rattle.std.specs.Prelude.{Option, Some, None, is_some, not, option_to_list, MatchOption}
use Rattle.std.specs.List.{Contains}
use Rattle.std.specs.Option.{option_copied}
use Rattle.svc_values.specs.declared.answer.Answer.{Answer}
use Rattle.svc_values.specs.declared.tables.Place.{Place}
use Rattle.svc_values.specs.declared.tables.PlainRow.{PlainRow}
use Rattle.svc_values.specs.meaning.Same.{same_rows}
use Rattle.svc_values.specs.meaning.Tables.{rows_at}
use Rattle.svc_values.specs.SameLaws.{same_rows_decide}
use Rattle.stmt_meaning.specs.meaning.Reads.{Read}
use Rattle.stmt_meaning.specs.Reads.{HasChanged, IsConflict, ReadsStand}
use Rattle.server_model.specs.meaning.Legal.{differs, ending_with}

-- ---- another last answer

ending_with-last : (before : List Answer) (old last : Answer) → ending_with (before ++ old ∷ []) last ≡ before ++ last ∷ []
ending_with-last [] old last = refl
ending_with-last (first ∷ []) old last = refl
ending_with-last (first ∷ next ∷ more) old last = ap (λ l. first ∷ l) (ending_with-last (next ∷ more) old last)

pub put_last : (answers before : List Answer) (popped : Option Answer) (last : Answer) → answers ≡ before ++ option_to_list popped → is_some popped ≡ true → before ++ last ∷ [] ≡ ending_with answers last
put_last answers before None last was some = absurd (false≢true some)
put_last answers before (Some old) last was some = sym (ap (λ (l : List Answer). ending_with l last) was ∙ ending_with-last before old last)

-- there was none
pub none_last : (answers before : List Answer) (last : Answer) → length answers ≡ 0 → length before ≡ 0 → before ≡ ending_with answers last
none_last [] [] last none empty = refl
none_last [] (first ∷ more) last none empty = absurd (let no : ⊥ = cc in no)
none_last (first ∷ answers) before last none empty = absurd (let no : ⊥ = cc in no)

pub none_popped : (n m : ℕ) (Q : Answer → Type 0) (popped : Option Answer) → is_some popped ≡ false → MatchOption popped ((n ≡ 0) × (m ≡ 0)) Q → (n ≡ 0) × (m ≡ 0)
none_popped n m Q (Some old) none is = absurd (false≢true (sym none))
none_popped n m Q None none is = is

-- ---- a place that differs

abbrev has_other : List PlainRow → Read → Bool
has_other now read = not (same_rows read.found (rows_at now read.at))

same_here : (now : List PlainRow) (read : Read) → rows_at now read.at ≡ read.found → has_other now read ≡ false
same_here now read is = ap not ((same_rows_decide read.found (rows_at now read.at)).1 (sym is))

other_here : (now : List PlainRow) (read : Read) → HasChanged now read → has_other now read ≡ true
other_here now read changed = by (same_rows read.found (rows_at now read.at)) refl
  where
    by : (b : Bool) → same_rows read.found (rows_at now read.at) ≡ b → not b ≡ true
    by true same = absurd (changed (sym ((same_rows_decide read.found (rows_at now read.at)).0 same)))
    by false same = refl

pub all_same : (now : List PlainRow) (reads : List Read) → ReadsStand reads now → differs now reads ≡ false
all_same now [] stand = refl
all_same now (read ∷ reads) stand =
    ap (λ b. b || differs now reads) (same_here now read (All-head (λ (r : Read). rows_at now r.at ≡ r.found) read reads stand))
    ∙ all_same now reads (All-tail (λ (r : Read). rows_at now r.at ≡ r.found) read reads stand)

or_true : (a : Bool) → (a || true) ≡ true
or_true true = refl
or_true false = refl

some_other : (now : List PlainRow) (reads : List Read) (read : Read) → Contains reads read → HasChanged now read → differs now reads ≡ true
some_other now [] read (k, lt, e) changed = absurd (omega arith)
some_other now (first ∷ reads) read (zero, lt, e) changed = ap (λ b. b || differs now reads) (ap (has_other now) e ∙ other_here now read changed)
some_other now (first ∷ reads) read (suc k, lt, e) changed = ap (λ b. has_other now first || b) (some_other now reads read (k, omega arith, e) changed) ∙ or_true (has_other now first)

pub conflict_is : (found : Option (Bor Place)) (now : List PlainRow) (reads : List Read) → IsConflict reads now (option_copied found) → is_some found ≡ differs now reads
conflict_is None now reads stand = sym (all_same now reads stand)
conflict_is (Some at) now reads (read, (there, (is, changed))) = sym (some_other now reads read there changed)
