use Rattle.std.proofs.Common.{◌≡◌, Some, Ok, ap, ◌∙◌, rules, option_map, codes, sym}
use Rattle.json_form.specs.meaning.Objects.{named}
use Rattle.json_form.specs.Objects.{members_at}
use Rattle.entry_forms.specs.meaning.Requests.{clients_in}
use Rattle.note_forms.specs.meaning.Notes.{notes_in}
use Rattle.note_forms.specs.meaning.Items.{served_in}
use Rattle.entry_forms.specs.meaning.Entries.{entries_in, tables_in}
use Rattle.report_reader.specs.Ahead.{others_in, noted}
use Rattle.report_reader.proofs.OneByOne.{found_as}
use Rattle.report_reader.proofs.Joined.{report_joined}
use Rattle.report_reader.proofs.streamed.joined.Goals as goal

pub returns : goal.returns
returns c =
    let a = c.args.ahead in
    let clients : a.clients ≡ Some c.in_ok-clients.field-0 = search rules in
    let entries : a.entries ≡ Some c.in_ok-entries.field-0 = search rules in
    let notes : a.notes ≡ Some c.in_ok-notes.field-0 = search rules in
    let served : a.served ≡ Some c.in_ok-served.field-0 = search rules in
    let tables : a.tables ≡ Some c.in_ok-tables.field-0 = search rules in
    let others : others_in c.args.print (members_at a.others) ≡ Ok c.in_ok-alerts.field-0 = search rules in
    λ ms all are.
    report_joined c.args.print ms c.in_ok-clients.field-0 c.in_ok-entries.field-0 c.in_ok-notes.field-0 c.in_ok-served.field-0 c.in_ok-tables.field-0 c.in_ok-alerts.field-0 all
    (found_as (codes "clients") clients_in (named ms) clients are.clients) (found_as (codes "entries") entries_in (named ms) entries are.entries) (found_as (codes "notes") notes_in (named ms) notes are.notes)
    (ap (λ o. option_map (served_in (noted o)) (named ms (codes "served"))) (sym notes) ∙ found_as (codes "served") (served_in (noted a.notes)) (named ms) served are.served)
    (found_as (codes "tables") tables_in (named ms) tables are.tables) (ap (others_in c.args.print) (sym are.others) ∙ others)
