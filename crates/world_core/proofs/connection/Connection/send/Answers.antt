use Rattle.std.proofs.Common.{sym, ◌∙◌, subst}
use Rattle.world_core.specs.Linked.{IsLink}
use Rattle.world_core.proofs.Linking.{sending_is_link, sends_by}
use Rattle.world_core.proofs.connection.Connection.send.Goals as goal

pub returns-then-has_close : goal.returns-then-has_close
returns-then-has_close c = λ link sent same is.
    let sending = sending_is_link c.args.self.now c.push_up.new.wire c.args.frames.now c.requires.open_for c.requires.made c.in_ok-push_up.ensures.fitting c.in_ok-push_up.ensures.bytes link sent same is in
    subst (IsLink c.end.new.self) (sends_by c.args.event c.args.frames.now _ (sym c.has_close.ensures ∙ c.if-has_close.true) link sent same) (c.end.ensures.link _ sending)

pub returns-else-has_close : goal.returns-else-has_close
returns-else-has_close c = λ link sent same is.
    let sending = sending_is_link c.args.self.now c.push_up.new.wire c.args.frames.now c.requires.open_for c.requires.made c.in_ok-push_up.ensures.fitting c.in_ok-push_up.ensures.bytes link sent same is in
    subst (IsLink _) (sends_by c.args.event c.args.frames.now _ (sym c.has_close.ensures ∙ c.if-has_close.false) link sent same) sending
