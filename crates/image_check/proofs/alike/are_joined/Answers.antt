use Rattle.std.proofs.Common.{◌∙◌, sym}
use Rattle.image_check.proofs.Joined.{joined_not, joined_other, joined_same}
use Rattle.image_check.proofs.alike.are_joined.Goals as goal

pub returns-then-all-first : goal.returns-then-all-first
returns-then-all-first g c = sym (joined_not g.T.Alike.same c.args.all.now c.args.first.now c.args.more.now c.if-all-first.true)

pub returns-then-not-are_like : goal.returns-then-not-are_like
returns-then-not-are_like g c =
    sym (joined_other g.T.Alike.same c.args.all.now c.args.first.now c.args.more.now c.if-all-first.false c.front.result.now c.front.ensures (sym c.are_like.ensures ∙ c.if-not-are_like.true))

pub returns : goal.returns
returns g c =
    c.are_like-2.ensures
    ∙ joined_same g.T.Alike.same c.args.all.now c.args.first.now c.args.more.now c.if-all-first.false c.front.result.now c.front.ensures (sym c.are_like.ensures ∙ c.if-not-are_like.false) c.behind.result.now c.behind.ensures
