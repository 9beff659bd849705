use Rattle.std.proofs.Common.{◌≡◌, ◌∙◌, ◌==◌, Bool, sym, subst}
use Rattle.std.specs.Prelude.{IfOk}
use Rattle.image_check.proofs.ImageLines.{grown_not, horizon_not, tables_left}
use Rattle.image_check.proofs.image.is_after.Goals as goal

pub returns-then-not-has_horizon : goal.returns-then-not-has_horizon
returns-then-not-has_horizon c =
    let journal = c.args.journal in
    let report = c.args.report.now in
    sym (horizon_not c.args.before.now report journal (journal.horizon == report.forgotten) (sym c.has_horizon.ensures ∙ c.if-not-has_horizon.true))

pub returns-then-not-is_grown : goal.returns-then-not-is_grown
returns-then-not-is_grown c =
    let journal = c.args.journal in
    let report = c.args.report.now in
    sym (grown_not c.args.before.now report journal (journal.horizon == report.forgotten) (sym c.is_grown.ensures ∙ c.if-not-is_grown.true))

pub returns : goal.returns
returns c =
    let journal = c.args.journal in
    let report = c.args.report.now in
    let left = tables_left c.args.before.now report journal (journal.horizon == report.forgotten) (sym c.is_grown.ensures ∙ c.if-not-is_grown.false) (sym c.has_horizon.ensures ∙ c.if-not-has_horizon.false) in
    subst (λ (b : Bool). IfOk c.has_tables.result (λ has. has ≡ b)) left c.has_tables.ensures
