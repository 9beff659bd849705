use Rattle.std.proofs.Common.{◌≡◌, Some, ap, ◌∙◌}
use Rattle.json.specs.Json.{parse_map}
use Rattle.serde_json.specs.Data.{object}
use Rattle.json_form.specs.Streams.{value_ahead}
use Rattle.report_reader.specs.meaning.Reports.{as_bad, report_of}
use Rattle.call_forms.proofs.Offered.{of_each}
use Rattle.report_reader.proofs.ReadReports.{report_read}
use Rattle.report_reader.proofs.streamed.report_ahead.Goals as goal

pub returns-clause-read : goal.returns-clause-read
returns-clause-read c =
    let x = c.in_ok-ahead.ensures.read in
    let begins : value_ahead c.args.depth c.args.tokens.now ≡ Some (object x.0, c.members_ahead.new.tokens) = c.in_ok-inside.ensures.object.1 ∙ ap (parse_map object) x.1 in
    of_each _ _ c.joined.result
    (λ report told. ap (parse_map (report_of c.args.document.now)) begins ∙ ap (λ r. Some (as_bad r, c.members_ahead.new.tokens)) (told x.0 x.2 x.3)) c.joined.ensures

pub returns-clause-told : goal.returns-clause-told
returns-clause-told c =
    let x = c.in_ok-ahead.ensures.read in
    of_each _ _ c.joined.result (λ report told. report_read c.args.document.now (object x.0) report (ap as_bad (told x.0 x.2 x.3))) c.joined.ensures
