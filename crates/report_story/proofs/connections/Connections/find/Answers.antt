use Rattle.std.proofs.Common.{◌∙◌, sym, ap}
use Rattle.report_story.specs.Placing.{is_which, older_at}
use Rattle.report_story.proofs.Placed.{found_first, found_none}
use Rattle.report_story.proofs.connections.Connections.find.Goals as goal

pub returns-in-Some : goal.returns-in-Some
returns-in-Some c =
    c.line_at.ensures ∙ ap (older_at c.in-Some.place) c.self.view_is ∙ sym (found_first (is_which c.args.which) c.args.self.now c.in-Some.place (sym c.place.ensures ∙ c.in-Some.is))

pub returns-in-None : goal.returns-in-None
returns-in-None c = sym (found_none (is_which c.args.which) c.args.self.now (sym c.place.ensures ∙ c.in-None.is))
