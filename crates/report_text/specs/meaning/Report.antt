-- The whole report as JSON.
use Rattle.std.specs.Prelude.{ℕ, ◌==◌, List, [], ◌∷◌, ◌++◌, if◌then◌else◌, Option, Some, None, codes}
use Rattle.serde_json.specs.Data.{Data}
use Rattle.json_form.specs.meaning.Writing.{text, whole, list_by, members}
use Rattle.outage_schedule.specs.declared.report.Report.{Report}
use Rattle.report_text.specs.meaning.Values.{digits, identifier_value}
use Rattle.report_text.specs.meaning.Entries.{entry_value, table_value}
use Rattle.report_text.specs.meaning.Requests.{request_value}
use Rattle.report_text.specs.meaning.Notes.{note_value}
use Rattle.report_text.specs.meaning.Items.{served_value}

-- the horizon of forgotten outcomes, where there is one
abbrev pub forgotten_member : ℕ → List (List ℕ × Data)
forgotten_member horizon = if horizon == 0 then [] else (codes "forgotten", whole horizon) ∷ []

-- the disk's bytes at the end, where they are asked for
abbrev pub image_member : Option (List ℕ) → List (List ℕ × Data)
image_member None = []
image_member (Some bytes) = (codes "image", digits bytes) ∷ []

-- the members in order of their names' bytes
unfoldable pub report_value : Report → Data
report_value report = members (
    (codes "alerts", list_by text report.alerts)
    ∷ (codes "blocked", list_by identifier_value report.blocked)
    ∷ (codes "clients", list_by (list_by request_value) report.clients)
    ∷ (codes "entries", list_by entry_value report.entries)
    ∷ (forgotten_member report.forgotten ++ (image_member report.image ++ (
    (codes "notes", list_by note_value report.notes)
    ∷ (codes "served", list_by served_value report.served)
    ∷ (codes "tables", list_by table_value report.tables)
    ∷ []))))
