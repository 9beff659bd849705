use Rattle.std.proofs.Common.{false, sym, subst}
use Rattle.service_core.specs.Held.{Held}
use Rattle.server_session.specs.declared.shared.Core.{Core}
use Rattle.service_core.specs.Sound.{IsDown, IsSound}
use Rattle.service_core.specs.Within.{Within}
use Rattle.service_core.specs.declared.resting.Resting.{Resting}
use Rattle.service_core.specs.Keeping.{RestsBy}
use Rattle.service_core.proofs.Rested.{goes_to_rest}
use Rattle.std.specs.Prelude.{Option, None, IfSome}
use Rattle.service_core.proofs.Second.{halted_soundly}
use Rattle.service_core.proofs.one.OneService.unanswer.Goals as goal

pub invariant_of-self : goal.invariant_of-self
invariant_of-self g c = record {
  kept = λ live.
      let old : Within = record { grants = c.self.inside.grants; disk = g.D.Disk.state c.self.inside.disk; core = c.self.inside.core; held = c.self.inside.held; notes = c.self.inside.notes } in
      subst (λ (o : Option Core). IsSound old.grants old.disk o c.clear.new.self (record old.notes { is_settled = false })) {x = None} (sym c.put_to_rest.ensures.down)
      (subst (λ (h : Held). IsDown old.disk h (record old.notes { is_settled = false })) (sym c.clear.ensures) (halted_soundly old (c.self.invariant.kept live) (g.met.D.Disk.reads_now c.self.inside.disk)));
  at_rest = λ live down.
      let old : Within = record { grants = c.self.inside.grants; disk = g.D.Disk.state c.self.inside.disk; core = c.self.inside.core; held = c.self.inside.held; notes = c.self.inside.notes } in
      subst (λ (o : Option Resting). IfSome o (RestsBy old.grants old.disk)) (sym c.put_to_rest.ensures.rests)
      (goes_to_rest old.grants old.disk old.disk old.core old.held old.notes c.self.inside.resting (c.self.invariant.kept live) (c.self.invariant.at_rest live) (λ image left. left));
}
