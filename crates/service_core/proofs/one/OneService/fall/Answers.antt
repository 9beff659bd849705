use Rattle.std.proofs.Common.{◌∙◌, ℕ, List, Option, sym, ap, subst}
use Rattle.disk_model.specs.Moment.{MayLeave}
use Rattle.std.specs.Prelude.{None, IfSome}
use Rattle.server_model.specs.ServiceCalls.{Crashed}
use Rattle.server_session.specs.declared.shared.Core.{Core}
use Rattle.service_calls.specs.Kept.{Goes}
use Rattle.service_core.specs.Held.{Held}
use Rattle.service_core.specs.declared.resting.Resting.{Resting}
use Rattle.service_core.specs.Keeping.{RestsBy}
use Rattle.service_core.specs.Seeing.{SeesIn}
use Rattle.service_core.specs.Sound.{IsSound}
use Rattle.service_core.specs.Within.{Within}
use Rattle.service_core.proofs.Falling.{IsFallen, fallen, fallen_from, falls_soundly, crashes}
use Rattle.service_core.proofs.Rested.{goes_to_rest}
use Rattle.service_core.proofs.one.OneService.fall.Goals as goal

pub invariant_of-self : goal.invariant_of-self
invariant_of-self g c = record {
  kept = λ live.
      let old : Within = record { grants = c.self.inside.grants; disk = g.D.Disk.state c.self.inside.disk; core = c.self.inside.core; held = c.self.inside.held; notes = c.self.inside.notes } in
      let end = g.D.Disk.state c.crash.new.self in
      let fall : IsFallen old.disk end =
      record { left = c.crash.ensures.left; durable = c.crash.ensures.durable; reads_now = g.met.D.Disk.reads_now c.crash.new.self; stop = c.crash.ensures.no_stop; faults = c.crash.ensures.faults; quiet = c.crash.ensures.quiet } in
      subst (λ (o : Option Core). IsSound old.grants end o c.clear.new.self (fallen old.notes c.args.pick)) {x = None} (sym c.put_to_rest.ensures.down)
      (subst (λ (h : Held). IsSound old.grants end None h (fallen old.notes c.args.pick)) (sym c.clear.ensures) (falls_soundly old end c.args.pick (c.self.invariant.kept live) fall));
  at_rest = λ live down.
      let old : Within = record { grants = c.self.inside.grants; disk = g.D.Disk.state c.self.inside.disk; core = c.self.inside.core; held = c.self.inside.held; notes = c.self.inside.notes } in
      let end = g.D.Disk.state c.crash.new.self in
      subst (λ (o : Option Resting). IfSome o (RestsBy old.grants end)) (sym c.put_to_rest.ensures.rests)
      (goes_to_rest old.grants old.disk end old.core old.held old.notes c.self.inside.resting (c.self.invariant.kept live) (c.self.invariant.at_rest live)
      (λ image left. subst (λ (i : List ℕ). MayLeave old.disk.now i) (sym (c.crash.ensures.durable image left)) c.crash.ensures.left));
}

pub returns-clause-crashed : goal.returns-clause-crashed
returns-clause-crashed g c =
    let old : Within = record { grants = c.self.inside.grants; disk = g.D.Disk.state c.self.inside.disk; core = c.self.inside.core; held = c.self.inside.held; notes = c.self.inside.notes } in
    let end = g.D.Disk.state c.crash.new.self in
    let fall : IsFallen old.disk end =
    record { left = c.crash.ensures.left; durable = c.crash.ensures.durable; reads_now = g.met.D.Disk.reads_now c.crash.new.self; stop = c.crash.ensures.no_stop; faults = c.crash.ensures.faults; quiet = c.crash.ensures.quiet } in
    let live = ap (λ (w : Within). w.notes.is_spent) c.self.view_is ∙ c.requires.live in
    subst (λ (w : Within). Goes (SeesIn w) (SeesIn (record (fallen_from old end c.args.pick) { core = c.put_to_rest.new.core; held = c.clear.new.self })) (λ before after. Crashed before c.args.pick after)) {x = old} c.self.view_is
    (subst (λ (o : Option Core). Goes (SeesIn old) (SeesIn (record (fallen_from old end c.args.pick) { core = o; held = c.clear.new.self })) (λ before after. Crashed before c.args.pick after)) {x = None} (sym c.put_to_rest.ensures.down)
    (subst (λ (h : Held). Goes (SeesIn old) (SeesIn (record (fallen_from old end c.args.pick) { held = h })) (λ before after. Crashed before c.args.pick after)) (sym c.clear.ensures)
    (crashes old end c.args.pick live (c.self.invariant.kept live) fall)))
