use Rattle.std.proofs.Common.{◌≡◌, [], Some, sym, ap, ◌∙◌, rules}
use Rattle.json.specs.Json.{parse_map}
use Rattle.json.specs.Lex.{tokens}
use Rattle.serde_json.specs.Data.{object}
use Rattle.json_form.specs.Streams.{value_ahead}
use Rattle.json_form.proofs.Offered.{whole_read}
use Rattle.report_check.proofs.Passed.{if_there}
use Rattle.report_check.proofs.pair.text_ahead.Goals as goal

pub returns-clause-read : goal.returns-clause-read
returns-clause-read c =
    let starts : c.in_ok-tokens.tokens ≡ tokens c.args.text.now = search rules in
    if_there _ _ c.pair_ahead.result
    (λ pair x.
    let all : value_ahead 127 (tokens c.args.text.now) ≡ Some (object x.0, []) = ap (value_ahead 127) (sym starts) ∙ c.in_ok-inside.ensures.object.1 ∙ ap (parse_map object) x.1 in
    (object x.0, whole_read c.args.text.now (object x.0) all, x.2)) c.pair_ahead.ensures.read
