use Rattle.std.proofs.Common.{◌≡◌, ◌∙◌, sym, ap, subst}
use Rattle.disk_model.specs.Disk.{DiskState}
use Rattle.server_model.specs.ServiceCalls.{with_stop}
use Rattle.service_calls.specs.Kept.{Goes}
use Rattle.service_core.specs.Seeing.{SeesIn, called}
use Rattle.service_core.specs.Sound.{IsSoundWithin}
use Rattle.service_core.specs.Within.{Within}
use Rattle.service_core.proofs.Standing.{sets_stop, stops_soundly}
use Rattle.service_core.proofs.Rested.{still_rests}
use Rattle.service_core.proofs.one.OneService.set_stop.Goals as goal

pub invariant_of-self : goal.invariant_of-self
invariant_of-self g c = record {
  kept = λ live.
      let old : Within = record { grants = c.self.inside.grants; disk = g.D.Disk.state c.self.inside.disk; core = c.self.inside.core; held = c.self.inside.held; notes = c.self.inside.notes } in
      subst (λ (d : DiskState). IsSoundWithin (record old { disk = d; notes = called old.notes })) {x = record old.disk { stop = c.args.calls }} (sym {b = record old.disk { stop = c.args.calls }} c.stop_after.ensures) (stops_soundly old c.args.calls (c.self.invariant.kept live));
  at_rest = λ live down. still_rests c.self.inside.grants (g.D.Disk.state c.self.inside.disk) (g.D.Disk.state c.stop_after.new.self) c.self.inside.resting (let same : (g.D.Disk.state c.stop_after.new.self).now ≡ (g.D.Disk.state c.self.inside.disk).now = ap (λ (d : DiskState). d.now) c.stop_after.ensures in same) (c.self.invariant.at_rest live down);
}

pub returns-clause-stop : goal.returns-clause-stop
returns-clause-stop g c =
    let old : Within = record { grants = c.self.inside.grants; disk = g.D.Disk.state c.self.inside.disk; core = c.self.inside.core; held = c.self.inside.held; notes = c.self.inside.notes } in
    let live = ap (λ (w : Within). w.notes.is_spent) c.self.view_is ∙ c.requires.live in
    subst (λ (w : Within). Goes (SeesIn w) (SeesIn (record old { disk = g.D.Disk.state c.stop_after.new.self; notes = called old.notes })) (λ before new. new ≡ with_stop before c.args.calls)) {x = old} c.self.view_is
    (subst (λ (d : DiskState). Goes (SeesIn old) (SeesIn (record old { disk = d; notes = called old.notes })) (λ before new. new ≡ with_stop before c.args.calls)) {x = record old.disk { stop = c.args.calls }} (sym {b = record old.disk { stop = c.args.calls }} c.stop_after.ensures)
    (sets_stop old c.args.calls live (c.self.invariant.kept live)))
