-- A report whose clients, entries, notes, served items and tables are read one after the other.
use Rattle.std.specs.Prelude.{◌≡◌, ℕ, ◌^◌, ◌-◌, Bool, List, [], ◌∷◌, if◌then◌else◌, Option, Some, None, option_map, Result, Ok, codes}
use Rattle.json.specs.Token.{Token}
use Rattle.serde_json.specs.Data.{Data}
use Rattle.json_form.specs.meaning.Faults.{Fault, ◌>>=◌}
use Rattle.json_form.specs.meaning.Values.{whole_of}
use Rattle.json_form.specs.meaning.Objects.{Named, is_among, optional, member_in}
use Rattle.json_form.specs.Objects.{members_at, putting}
use Rattle.json_form.specs.Streams.{value_ahead}
use Rattle.outage_schedule.specs.declared.note.Note.{Note}
use Rattle.report_reader.specs.declared.streamed.Ahead.{Ahead}
use Rattle.report_reader.specs.declared.streamed.Others.{Others}
use Rattle.answer_forms.specs.meaning.Parts.{identifiers_in}
use Rattle.entry_forms.specs.meaning.Requests.{clients_in}
use Rattle.note_forms.specs.meaning.Notes.{notes_in}
use Rattle.note_forms.specs.meaning.Items.{served_in}
use Rattle.entry_forms.specs.meaning.Entries.{entries_in, tables_in}
use Rattle.report_reader.specs.meaning.Reports.{alerts_in, image_name, image_in}

-- the members whose values are held until the last member was passed
abbrev pub held_members : Bool → List (List ℕ)
held_members print = codes "alerts" ∷ codes "blocked" ∷ codes "forgotten" ∷ image_name print

-- what stands at these names alone
unfoldable pub only : List (List ℕ) → Named → Named
only names ms name = if is_among names name then ms name else None

-- alert lines, blocked identifiers, the horizon, and the disk's bytes
unfoldable pub others_in : Bool → Named → Result Others Fault
others_in print ms =
    member_in (codes "alerts") alerts_in ms >>= λ alerts. member_in (codes "blocked") identifiers_in
    ms >>= λ blocked.
    optional (codes "forgotten") 0 (whole_of 1 (2 ^ 64 - 1)) ms >>= λ forgotten. image_in
    print ms >>= λ image.
    Ok (record { alerts = alerts; blocked = blocked; forgotten = forgotten; image = image })

-- the notes that were read so far
abbrev pub noted : Option (List Note) → List Note
noted None = []
noted (Some notes) = notes

-- what was found is what the member with this name is read as, if it is there
abbrev pub IsFound : {A : Type 0} → List ℕ → (Data → Result A Fault) → Option A → Named → Type 0
IsFound name read found ms = option_map read (ms name) ≡ option_map (λ x. Ok x) found

-- what was read is what these members are read as, the items beside the notes that were read, and
-- the others are held
pub record AreRead (print : Bool) (ahead : Ahead) (ms : Named) : Type 0 where
  pub clients : IsFound (codes "clients") clients_in ahead.clients ms
  pub entries : IsFound (codes "entries") entries_in ahead.entries ms
  pub notes : IsFound (codes "notes") notes_in ahead.notes ms
  pub served : IsFound (codes "served") (served_in (noted ahead.notes)) ahead.served ms
  pub tables : IsFound (codes "tables") tables_in ahead.tables ms
  pub others : members_at ahead.others ≡ only (held_members print) ms

-- the tokens begin with a value, and once it was passed it is read with the members before as the
-- one at this name
abbrev pub Passes : Bool → ℕ → List ℕ → Ahead → List Token → Ahead → List Token → Type 0
Passes print depth name old ts new rest =
    (d : Data) × (value_ahead depth ts ≡ Some (d, rest))
    × ((ms : Named) → AreRead print old ms → AreRead print new (putting name d ms))
