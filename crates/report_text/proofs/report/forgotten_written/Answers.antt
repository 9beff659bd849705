use Rattle.std.proofs.Common.{rules, ◌≡◌, ◌∷◌, [], codes, ◌∙◌}
use Rattle.json_form.specs.Tokens.{tokens_of}
use Rattle.json_form.specs.meaning.Writing.{whole}
use Rattle.report_text.specs.meaning.Report.{forgotten_member}
use Rattle.report_text.proofs.PartsWritten.{ahead, on_ok}
use Rattle.report_text.proofs.report.forgotten_written.Goals as goal

pub returns : goal.returns
returns c =
    let there : forgotten_member c.args.horizon ≡ (codes "forgotten", whole c.args.horizon) ∷ [] = search rules in
    rw there (on_ok c.whole.result (λ last. last ∙ ahead _ _ (tokens_of (whole c.args.horizon)) c.in_ok-name.ensures) c.whole.ensures)
