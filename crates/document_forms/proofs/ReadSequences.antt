-- What sequences that were read keep to.
use Rattle.std.proofs.Common.{◌≡◌, ◌≤◌, ℕ, ℤ, pos, List, [], ◌∷◌, length, Bool, true, false, Result, Ok, codes, refl, sym, ap, ◌∙◌, subst, arith}
use Rattle.std.specs.List.{list_all}
use Rattle.std.specs.Str.{bytes_eq}
use Rattle.serde_json.specs.Data.{Data}
use Rattle.json_form.specs.meaning.Faults.{Fault, ◌>>=◌, within}
use Rattle.json_form.specs.meaning.Pointers.{escaped}
use Rattle.json_form.specs.meaning.Values.{whole_of, bool_of}
use Rattle.json_form.specs.meaning.Objects.{Named, object_with, required, optional}
use Rattle.json_form.specs.meaning.Arrays.{distinct}
use Rattle.json_form.specs.Arrays.{have_distinct_keys}
use Rattle.outage_schedule.specs.declared.document.DocTable.{DocTable}
use Rattle.outage_schedule.specs.declared.document.DocSequence.{DocSequence}
use Rattle.call_forms.specs.meaning.Values.{name_of, new_name}
use Rattle.document_forms.specs.meaning.Tables.{table_of, tables_of, start_of, sequence_of, sequences_of}
use Rattle.document_forms.specs.Keeping.{is_table, is_sequence}
use Rattle.json_form.proofs.Offered.{after, ok_is, within_ok, each_long, read_array, new_key}
use Rattle.json_form.proofs.Offered.{distinct_read, distinct_all}
use Rattle.document_forms.proofs.ReadNumbers.{whole_read}
use Rattle.document_forms.proofs.ReadTables.{table_read}

start_read : (d : Data) (name : List ℕ) (start : ℤ) (keep : Bool) → start_of d ≡ Ok start → is_sequence (record { name = name; start = start; keep = keep }) ≡ true
start_read d name start keep h =
    let a = after (whole_of 0 1000000000 d) (λ n. Ok (pos n)) start h in
    let within = whole_read 0 1000000000 d a.0 a.1 in
    ap (λ z. is_sequence (record { name = name; start = z; keep = keep })) (sym (ok_is (pos a.0) start a.2)) ∙ within

abbrev with_keep : Named → List ℕ → ℤ → Result DocSequence Fault
with_keep ms n s = optional (codes "keep") false bool_of ms >>= λ keep. Ok (record { name = n; start = s; keep = keep })

abbrev with_start : Named → Data → List ℕ → Result DocSequence Fault
with_start ms start n = within (codes "start") (start_of start) >>= with_keep ms n

abbrev with_name : (List ℕ → Bool) → Named → Data → Data → Result DocSequence Fault
with_name taken ms name start = within (codes "name") (new_name taken name) >>= with_start ms start

abbrev from_name : (List ℕ → Bool) → Named → Data → Result DocSequence Fault
from_name taken ms name = required (codes "start") ms >>= with_name taken ms name

record ReadSequence (taken : List ℕ → Bool) (sequence : DocSequence) : Type 0 where
  new : taken sequence.name ≡ false
  keeps : is_sequence sequence ≡ true

sequence_read : (taken : List ℕ → Bool) (d : Data) (sequence : DocSequence) → sequence_of taken d ≡ Ok sequence → ReadSequence taken sequence
unfolding sequence_of
sequence_read taken d sequence h =
    let a = after (object_with (codes "name" ∷ codes "start" ∷ codes "keep" ∷ []) d) (λ ms. required (codes "name") ms >>= from_name taken ms) sequence h in
    let ms = a.0 in
    let b = after (required (codes "name") ms) (from_name taken ms) sequence a.2 in
    let c = after (required (codes "start") ms) (with_name taken ms b.0) sequence b.2 in
    let n = after (within (codes "name") (new_name taken b.0)) (with_start ms c.0) sequence c.2 in
    let s = after (within (codes "start") (start_of c.0)) (with_keep ms n.0) sequence n.2 in
    let k = after (optional (codes "keep") false bool_of ms) (λ keep. Ok (record { name = n.0; start = s.0; keep = keep })) sequence s.2 in
    let new = new_key (name_of b.0) taken n.0 (within_ok (escaped (codes "name")) (new_name taken b.0) n.0 n.1) in
    let keeps = start_read c.0 n.0 s.0 k.0 (within_ok (escaped (codes "start")) (start_of c.0) s.0 s.1) in
    let made : DocSequence = record { name = n.0; start = s.0; keep = k.0 } in
    subst (ReadSequence taken) {x = made} (ok_is made sequence k.2) (record { new = new; keeps = keeps })

pub record AreTables (tables : List DocTable) : Type 0 where
  pub all : list_all is_table tables ≡ true
  pub apart : have_distinct_keys bytes_eq (λ table. table.name) tables ≡ true
  pub few : length tables ≤ 32

pub tables_read : (d : Data) (tables : List DocTable) → tables_of d ≡ Ok tables → AreTables tables
tables_read d tables h =
    let a = read_array 0 32 (distinct bytes_eq (λ table. table.name) table_of) d tables h in
    let long = each_long _ [] a.items tables a.gave in
    let few = a.few in record {
      all = distinct_all bytes_eq (λ table. table.name) is_table table_of (λ taken inner table one. (table_read taken inner table one).keeps) a.items tables a.gave;
      apart = distinct_read bytes_eq (λ table. table.name) table_of (λ taken inner table one. (table_read taken inner table one).new) a.items tables a.gave;
      few = omega (arith, long, few);
    }

pub no_tables : AreTables []
no_tables = record { all = refl; apart = refl; few = omega arith }

pub record AreSequences (sequences : List DocSequence) : Type 0 where
  pub all : list_all is_sequence sequences ≡ true
  pub apart : have_distinct_keys bytes_eq (λ sequence. sequence.name) sequences ≡ true
  pub few : length sequences ≤ 32

pub sequences_read : (d : Data) (sequences : List DocSequence) → sequences_of d ≡ Ok sequences → AreSequences sequences
sequences_read d sequences h =
    let a = read_array 0 32 (distinct bytes_eq (λ sequence. sequence.name) sequence_of) d sequences h in
    let long = each_long _ [] a.items sequences a.gave in
    let few = a.few in record {
      all = distinct_all bytes_eq (λ sequence. sequence.name) is_sequence sequence_of (λ taken inner sequence one. (sequence_read taken inner sequence one).keeps) a.items sequences a.gave;
      apart = distinct_read bytes_eq (λ sequence. sequence.name) sequence_of (λ taken inner sequence one. (sequence_read taken inner sequence one).new) a.items sequences a.gave;
      few = omega (arith, long, few);
    }

pub no_sequences : AreSequences []
no_sequences = record { all = refl; apart = refl; few = omega arith }
