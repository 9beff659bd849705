use Rattle.std.proofs.Common.{ap, ◌∙◌}
use Rattle.stmt_meaning.specs.InnerScans.{is_settled}
use Rattle.stmt_meaning.proofs.ScanLaws.{settled}
use Rattle.stmt_meaning.proofs.scan.Scan.is_settled.Goals as goal

pub returns-in-Select-clause-settled : goal.returns-in-Select-clause-settled
returns-in-Select-clause-settled c = λ h rows. settled c.args.self.now (ap is_settled c.in-Select.is ∙ h) rows
