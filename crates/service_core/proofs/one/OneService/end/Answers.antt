use Rattle.std.proofs.Common.{◌∙◌, ap, subst}
use Rattle.server_model.specs.ServiceCalls.{Reaped}
use Rattle.service_calls.specs.Kept.{Goes}
use Rattle.service_core.specs.Seeing.{SeesIn}
use Rattle.service_core.specs.Within.{Within}
use Rattle.service_core.proofs.Standing.{with_held, reaps, reaps_soundly}
use Rattle.service_core.proofs.one.OneService.end.Goals as goal

pub invariant_of-self : goal.invariant_of-self
invariant_of-self g c = record {
  kept = λ live.
      let old : Within = record { grants = c.self.inside.grants; disk = g.D.Disk.state c.self.inside.disk; core = c.self.inside.core; held = c.self.inside.held; notes = c.self.inside.notes } in
      reaps_soundly old c.end.new.self c.args.connection c.end.ensures.gone c.end.ensures.same (c.self.invariant.kept live);
  at_rest = c.self.invariant.at_rest;
}

pub returns-clause-reaped : goal.returns-clause-reaped
returns-clause-reaped g c =
    let old : Within = record { grants = c.self.inside.grants; disk = g.D.Disk.state c.self.inside.disk; core = c.self.inside.core; held = c.self.inside.held; notes = c.self.inside.notes } in
    let live = ap (λ (w : Within). w.notes.is_spent) c.self.view_is ∙ c.requires.live in
    subst (λ (w : Within). Goes (SeesIn w) (SeesIn (with_held old c.end.new.self)) (λ before new. Reaped before c.args.connection new)) {x = old} c.self.view_is
    (reaps old c.end.new.self c.args.connection live c.end.ensures.gone c.end.ensures.same (c.self.invariant.kept live))
