use Rattle.std.proofs.Common.{◌∙◌, sym, ap, subst, List}
use Rattle.shown_clauses.specs.meaning.Links.{Link}
use Rattle.report_story.specs.Placing.{is_which, changed_at, IsSingle}
use Rattle.report_story.proofs.Placed.{changed_one, unchanged, single_noted}
use Rattle.report_story.proofs.connections.Connections.change.Goals as goal

pub returns-in_default : goal.returns-in_default
returns-in_default g c = sym (unchanged (is_which c.args.which) (g.C.Change.change c.args.change.now) c.args.self.now (sym c.in_default.ensures))

pub returns : goal.returns
returns g c =
    let change = g.C.Change.change c.args.change.now in
    let inside = c.self.inside in
    let P : List Link → Type 0 = IsSingle (is_which c.args.which) in
    let single = subst P c.self.view_is (single_noted inside.numbers inside.sessions inside.twice inside.lines.items c.self.invariant c.args.which c.if-self.false) in
    c.in_ok-change_at.ensures.is ∙ ap (changed_at change c.in-Some.place) c.self.view_is
    ∙ sym (changed_one (is_which c.args.which) change c.args.self.now c.in-Some.place single (sym c.place.ensures ∙ c.in-Some.is))
