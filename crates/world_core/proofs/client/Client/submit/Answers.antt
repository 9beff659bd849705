use Rattle.std.proofs.Common.{refl, sym}
use Rattle.world_core.proofs.client.Client.submit.Goals as goal

pub returns-clause-draft : goal.returns-clause-draft
returns-clause-draft g c = λ terms. (refl, c.new.ensures terms c.args.request.now (sym c.len.ensures))
