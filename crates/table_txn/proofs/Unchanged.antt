-- Readings of places that have what they had.
use Rattle.std.proofs.Common.{◌≡◌, ◌⊎◌, inl, inr, true, false, not, cond, List, refl, sym, ap, ◌∙◌, subst}
use Rattle.std.specs.Prelude.{Option, Some, None, Result, Ok, Err, IfSome, IfOk, OnOk, option_map, ◌||◌}
use Rattle.std.specs.BTreeMap.{BTreeMap, Updates, insert_entry}
use Rattle.std.proofs.lemmas.Bool.{cases_Bool}
use Rattle.svc_values.specs.declared.answer.Answer.{Answer}
use Rattle.svc_values.specs.declared.tables.PlainRow.{PlainRow}
use Rattle.svc_values.specs.declared.tables.Place.{Place}
use Rattle.svc_values.specs.meaning.Tables.{rows_at}
use Rattle.svc_values.specs.meaning.Same.{same_rows}
use Rattle.svc_values.specs.Same.{same_place}
use Rattle.svc_values.specs.Tables.{place_cmp}
use Rattle.stmt_meaning.specs.declared.plan.Plan.{Plan}
use Rattle.stmt_meaning.specs.meaning.Plans.{place_of}
use Rattle.table_store.specs.Stored.{Stored}
use Rattle.table_txn.specs.declared.readings.ReadPlace.{ReadPlace}
use Rattle.table_txn.specs.Readings.{Reading, reading_of, read_more, HasReadIfAny, HasStood, IsUnchangedAt, StayUnchanged, has_changed}
use Rattle.table_txn.specs.declared.found.Found.{Found}
use Rattle.table_txn.specs.Found.{is_for, found_rows, reading, are_for, HasBefore, IsRead}
use Rattle.table_txn.specs.InnerSteps.{HasWritten}
use Rattle.table_txn.specs.Transactions.{Transaction}
use Rattle.table_txn.proofs.Same.{same_place_decides, same_rows_decide}
use Rattle.table_txn.proofs.ReadingLaws.{or_none}
use Rattle.table_txn.proofs.FoundLaws.{looked_up, reading_of-lookup, has_read, insert_fits}

abbrev IsWhole : List PlainRow → Place → Reading → Type 0
IsWhole now at one = (one.is_torn ≡ false) × (one.found ≡ rows_at now at)

-- another read of it finds the same
not_torn : (now : List PlainRow) (at : Place) (one : Reading) → IsWhole now at one → (one.is_torn || not (same_rows one.found (rows_at now at))) ≡ false
not_torn now at one is = or_none one.is_torn (not (same_rows one.found (rows_at now at))) is.0 (ap not ((same_rows_decide one.found (rows_at now at)).1 is.1))

fresh : (now : List PlainRow) (at : Place) (before : Option Reading) → IfSome before (IsWhole now at) → IsWhole now at (read_more before at (rows_at now at))
fresh now at None is = (refl, refl)
fresh now at (Some one) is = (not_torn now at one is, is.1)

-- what had what it had has it after one more read
pub stay_unchanged : (now : List PlainRow) (old new : List Reading) (at : Option Place) → HasReadIfAny now old at new → StayUnchanged now old new
stay_unchanged now old new None same q is = subst (λ l. IsUnchangedAt now l q) (sym same) is
stay_unchanged now old new (Some at) has q is = by_place (cases_Bool (same_place at q))
  where
    made : Place → Reading
    made p = read_more (reading_of old p) p (rows_at now p)

    by_place : (same_place at q ≡ true) ⊎ (same_place at q ≡ false) → IfSome (reading_of new q) (IsWhole now q)
    by_place (inl here) =
        let same : q ≡ at = sym ((same_place_decides at q).0 here) in
        subst (λ o. IfSome o (IsWhole now q)) (sym (has q ∙ ap (λ b. cond b (Some (made at)) (reading_of old q)) here))
        (subst (λ p. IsWhole now q (made p)) same (fresh now q (reading_of old q) is))
    by_place (inr apart) = subst (λ o. IfSome o (IsWhole now q)) (sym (has q ∙ ap (λ b. cond b (Some (made at)) (reading_of old q)) apart)) is

-- a place that was not read, or has what it had, has the same reading after one more
pub read_as_before : (old new : BTreeMap Place ReadPlace) (at : Place) (one : ReadPlace) (what : Found) → are_for old.entries ≡ true → is_for at what ≡ true → HasBefore what at old.entries
    → one ≡ record { found = what; is_torn = false } → Updates place_cmp old new at (Some one) → new.entries ≡ insert_entry place_cmp old.entries at one → IsRead old.entries at what new.entries
read_as_before old new at one what all kind before is updated put = record {
  has = has_read old.entries new.entries at one what updated.0
      (ap (λ (n : ReadPlace). Some (reading (at, n))) is
      ∙ same_again (looked_up old.entries at) (subst (λ o. IfSome o IsAsFound) (reading_of-lookup old.entries at) before)
      ∙ sym (ap (λ o. Some (read_more o at rows)) (reading_of-lookup old.entries at)));
  kinds = ap are_for put ∙ insert_fits old.entries at one all (ap (λ (n : ReadPlace). is_for at n.found) is ∙ kind);
}
  where
    rows : List PlainRow
    rows = found_rows at what

    IsAsFound : Reading → Type 0
    IsAsFound one = (one.is_torn ≡ false) × (one.found ≡ rows)

    same_again : (o : Option ReadPlace) → IfSome (option_map (λ n. reading (at, n)) o) IsAsFound → Some (reading (at, record { found = what; is_torn = false })) ≡ Some (read_more (option_map (λ n. reading (at, n)) o) at rows)
    same_again None is = refl
    same_again (Some n) is =
        let torn : (n.is_torn || not (same_rows (found_rows at n.found) rows)) ≡ false = or_none n.is_torn (not (same_rows (found_rows at n.found) rows)) is.0 (ap not ((same_rows_decide (found_rows at n.found) rows).1 is.1)) in
        let same : reading (at, record { found = what; is_torn = false }) ≡ read_more (Some (reading (at, n))) at rows = λ i. record { at = at; found = sym is.1 i; is_torn = sym torn i } in
        ap Some same

-- a reading whose place has what it had has not changed
pub stood : (now : List PlainRow) (one : Reading) → HasStood now one → has_changed now one ≡ false
stood now one is = not_torn now one.at one is

-- a plan whose place was read, and then done
pub worked_unchanged : {E : Type 0} (tables : Stored) (old between new : Transaction) (plan : Plan) (result : Result Answer E) → HasReadIfAny tables.rows old.readings (place_of plan) between.readings
    → IfOk result (λ answer. HasWritten tables between plan answer new) → OnOk result (StayUnchanged tables.rows old.readings new.readings)
worked_unchanged tables old between new plan (Ok answer) read written =
    subst (StayUnchanged tables.rows old.readings) (sym written.same_readings) (stay_unchanged tables.rows old.readings between.readings (place_of plan) read)
worked_unchanged tables old between new plan (Err e) read written = tt
