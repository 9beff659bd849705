use Rattle.std.proofs.Common.{ap, ◌∙◌}
use Rattle.legal_walk.specs.Going.{begins_with}
use Rattle.legal_walk.specs.Items.{settings_in}
use Rattle.legal_walk.proofs.Stepping.{begun_so}
use Rattle.legal_walk.proofs.walker.Walker.begin.Goals as goal

pub returns : goal.returns
returns c = λ base walk walks.
    begun_so base walk c.args.self.now c.args.session.now (settings_in c.args.settings) c.new.result c.put.new.self (c.new.ensures ∙ ap begins_with c.in_ok-settings.ensures) c.in_ok-put.ensures walks
