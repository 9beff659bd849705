use Rattle.std.proofs.Common.{List, [], ◌∷◌, ◌==◌, ◌++◌, codes, ap, ◌∙◌}
use Rattle.json.specs.Token.{Token, end_object, key}
use Rattle.json_form.specs.Tokens.{tokens_of}
use Rattle.json_form.specs.meaning.Writing.{list_by, text}
use Rattle.report_text.specs.Tokens.{named}
use Rattle.report_text.specs.meaning.Report.{forgotten_member, image_member, report_value}
use Rattle.report_text.specs.meaning.Values.{identifier_value}
use Rattle.report_text.specs.meaning.Entries.{entry_value, table_value}
use Rattle.report_text.specs.meaning.Requests.{request_value}
use Rattle.report_text.specs.meaning.Notes.{note_value}
use Rattle.report_text.specs.meaning.Items.{served_value}
use Rattle.report_text.proofs.PartsWritten.{ahead, on_ok, all_named}
use Rattle.report_text.proofs.report.report_written.Goals as goal

pub returns : goal.returns
unfolding report_value
returns c =
    let r = c.args.report.now in
    let end : List Token = end_object ∷ [] in
    let tables : List Token = key (codes "tables") ∷ (tokens_of (list_by table_value r.tables) ++ end) in
    let served : List Token = key (codes "served") ∷ (tokens_of (list_by served_value r.served) ++ tables) in
    let notes : List Token = key (codes "notes") ∷ (tokens_of (list_by note_value r.notes) ++ served) in
    let image : List Token = named (image_member r.image) ++ notes in
    let forgotten : List Token = named (forgotten_member r.forgotten) ++ image in
    let entries : List Token = key (codes "entries") ∷ (tokens_of (list_by entry_value r.entries) ++ forgotten) in
    let clients : List Token = key (codes "clients") ∷ (tokens_of (list_by (list_by request_value) r.clients) ++ entries) in
    let blocked : List Token = key (codes "blocked") ∷ (tokens_of (list_by identifier_value r.blocked) ++ clients) in
    let alerts : List Token = key (codes "alerts") ∷ (tokens_of (list_by text r.alerts) ++ blocked) in
    let whole = all_named (list_by text r.alerts) (list_by identifier_value r.blocked) (list_by (list_by request_value) r.clients) (list_by entry_value r.entries) (list_by note_value r.notes) (list_by served_value r.served) (list_by table_value r.tables) r.forgotten (r.forgotten == 0) r.image in
    on_ok c.end_object.result (λ last. last ∙ ahead _ _ end c.in_ok-list_member-7.ensures ∙ ahead _ _ tables c.in_ok-list_member-6.ensures ∙ ahead _ _ served c.in_ok-list_member-5.ensures ∙ ahead _ _ notes c.in_ok-image_written.ensures ∙ ahead _ _ image c.in_ok-forgotten_written.ensures
    ∙ ahead _ _ forgotten c.in_ok-list_member-4.ensures ∙ ahead _ _ entries c.in_ok-list_member-3.ensures ∙ ahead _ _ clients c.in_ok-list_member-2.ensures ∙ ahead _ _ blocked c.in_ok-list_member.ensures ∙ ahead _ _ alerts c.in_ok-begin_object.ensures
    ∙ ap (λ (ts : List Token). c.args.out.now ++ ts) whole) c.end_object.ensures
