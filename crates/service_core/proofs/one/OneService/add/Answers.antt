use Rattle.std.proofs.Common.{◌∙◌, true, false, ap, subst}
use Rattle.std.specs.Prelude.{not}
use Rattle.server_model.specs.ServiceCalls.{Connected}
use Rattle.service_calls.specs.Kept.{Goes}
use Rattle.service_core.specs.Seeing.{SeesIn}
use Rattle.service_core.specs.Within.{Within}
use Rattle.service_core.proofs.Standing.{with_held, connects, connects_soundly, refuses_connection}
use Rattle.service_core.proofs.one.OneService.add.Goals as goal

pub returns-then-is_none-clause-connected : goal.returns-then-is_none-clause-connected
returns-then-is_none-clause-connected g c =
    let old : Within = record { grants = c.self.inside.grants; disk = g.D.Disk.state c.self.inside.disk; core = c.self.inside.core; held = c.self.inside.held; notes = c.self.inside.notes } in
    let live = ap (λ (w : Within). w.notes.is_spent) c.self.view_is ∙ c.requires.live in
    subst (λ (w : Within). Goes (SeesIn w) (SeesIn (with_held old old.held)) (λ before new. Connected before c.args.connection false new)) {x = old} c.self.view_is
    (refuses_connection old c.args.connection live (c.is_none.ensures ∙ ap not c.if-is_none.true) (c.self.invariant.kept live))

pub invariant_of-self-in-Ok : goal.invariant_of-self-in-Ok
invariant_of-self-in-Ok g c = record {
  kept = λ live.
      let old : Within = record { grants = c.self.inside.grants; disk = g.D.Disk.state c.self.inside.disk; core = c.self.inside.core; held = c.self.inside.held; notes = c.self.inside.notes } in
      connects_soundly old c.put.new.self c.args.connection c.if-is_none.ensures c.in-Ok.ensures (c.self.invariant.kept live);
  at_rest = c.self.invariant.at_rest;
}

pub returns-in-Ok-clause-connected : goal.returns-in-Ok-clause-connected
returns-in-Ok-clause-connected g c =
    let old : Within = record { grants = c.self.inside.grants; disk = g.D.Disk.state c.self.inside.disk; core = c.self.inside.core; held = c.self.inside.held; notes = c.self.inside.notes } in
    let live = ap (λ (w : Within). w.notes.is_spent) c.self.view_is ∙ c.requires.live in
    subst (λ (w : Within). Goes (SeesIn w) (SeesIn (with_held old c.put.new.self)) (λ before new. Connected before c.args.connection true new)) {x = old} c.self.view_is
    (connects old c.put.new.self c.args.connection live c.if-is_none.ensures c.in-Ok.ensures (c.self.invariant.kept live))
