use Rattle.std.proofs.Common.{sym, ap, subst, length, List, map}
use Rattle.std.proofs.lemmas.List.{length-map}
use Rattle.report_story.specs.Placing.{Identity, identity_of, IsIndexed}
use Rattle.report_story.proofs.Placed.{indexed_more}
use Rattle.report_story.proofs.connections.Connections.put.Goals as goal

pub invariant_of-self : goal.invariant_of-self
invariant_of-self c =
    let inside = c.self.inside in
    let new = c.put_in.new in
    let P : List Identity → Type 0 = IsIndexed new.numbers new.sessions c.comes_twice-twice.result in
    subst P (sym (ap (map identity_of) c.in-Ok.ensures.lines))
    (indexed_more inside.numbers inside.sessions inside.twice (map identity_of inside.lines.items) c.self.invariant (identity_of c.args.line) c.comes_twice-twice.result (length inside.lines.items) new.numbers new.sessions
    c.comes_twice-twice.ensures c.in-Ok.ensures.numbers c.in-Ok.ensures.sessions (sym (length-map inside.lines.items identity_of)))
