use Rattle.std.proofs.Common.{codes}
use Rattle.serde_json.specs.Data.{no_members, put}
use Rattle.json_form.specs.Streams.{value_ahead}
use Rattle.json_form.proofs.Offered.{begun}
use Rattle.doc_reader.specs.meaning.Documents.{document_of}
use Rattle.report_reader.specs.meaning.Reports.{report_of}
use Rattle.report_check.proofs.Passed.{two_passed, pair_passed}
use Rattle.report_check.proofs.pair.pair_ahead.Goals as goal

pub returns-clause-read : goal.returns-clause-read
returns-clause-read c =
    let document = c.in_ok-document.document in
    let report = c.in_ok-report.report in
    let first = c.in_ok-document.ensures in
    let second = c.in_ok-report.ensures in
    let d = begun document_of (value_ahead c.args.depth c.pass_name.new.tokens) document c.document_ahead.new.tokens first.read in
    let e = begun (report_of document) (value_ahead c.args.depth c.pass_name-2.new.tokens) report c.report_ahead.new.tokens second.read in
    let passed = two_passed c.args.depth (codes "document") (codes "report") d.0 e.0 c.args.tokens.now c.pass_name.new.tokens c.document_ahead.new.tokens c.pass_name-2.new.tokens c.report_ahead.new.tokens
    c.in_ok-pass_name.ensures d.1 first.shorter c.in_ok-pass_name-2.ensures e.1 second.shorter c.in_ok-pass_end.ensures in
    (put (codes "report") e.0 (put (codes "document") d.0 no_members), passed, pair_passed d.0 e.0 document report d.2 e.2)
