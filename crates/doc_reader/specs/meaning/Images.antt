-- How the image of a store stands in a document: as a text of hexadecimal digits.
use Rattle.std.specs.Prelude.{ℕ, pos, List, Bool, false, ◌&&◌, int_le, Option, Some, Result, Ok, Err, ⊤, if◌then◌else◌}
use Rattle.std.specs.List.{list_all}
use Rattle.serde_json.specs.Data.{Data}
use Rattle.json_form.specs.declared.fault.DocCode.TheVariants.{Rule, BadImage}
use Rattle.json_form.specs.meaning.Faults.{Fault, ◌>>=◌, here}
use Rattle.json_form.specs.meaning.Values.{text_of}
use Rattle.json_form.specs.meaning.Texts.{octets_in}
use Rattle.commit_log.specs.declared.journal.Journal.{Journal}
use Rattle.commit_log.specs.declared.journal.Reservation.{Reservation}
use Rattle.commit_log.specs.meaning.Journals.{journal_of}
use Rattle.document_forms.specs.meaning.Numbers.{is_count, is_small_ltxid}

-- there is no other word of what the store begins with
abbrev pub if_alone : Bool → Result ⊤ Fault
if_alone alone = if alone then Ok tt else Err (here Rule)

abbrev pub is_small_reservation : Reservation → Bool
is_small_reservation reservation = int_le reservation.upto (pos 4611686018427387904)

-- A journal leaves room for a run: no part of an identifier, no incarnation and no reservation is
-- past 2^62, which is half of what a store may come to.
unfoldable pub leaves_room : Journal → Bool
leaves_room journal =
    is_count journal.incarnation && (list_all (λ entry. is_small_ltxid entry.ltxid) journal.entries
    && (list_all is_small_ltxid journal.blocked
    && list_all is_small_reservation journal.reserved))

-- what a read of the bytes gives is the journal of a store that a run may begin with
abbrev pub is_store : Result Journal ℕ → Bool
is_store (Ok journal) = leaves_room journal
is_store (Err place) = false

abbrev pub if_store : Result Journal ℕ → Result ⊤ Fault
if_store read = if is_store read then Ok tt else Err (here BadImage)

-- a text of pairs of digits, which stands without tables and sequences, and spells the bytes of a
-- store
unfoldable pub image_of : Bool → Data → Result (Option (List ℕ)) Fault
image_of alone d =
    text_of d >>= λ text. if_alone alone >>= λ _. octets_in text >>= λ bytes.
    if_store (journal_of bytes) >>= λ _. Ok (Some bytes)
