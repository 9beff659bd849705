use Rattle.std.proofs.Common.{◌≡◌, ◌∙◌, ◌≤◌, sym, ap, subst}
use Rattle.disk_model.specs.Disk.{DiskState}
use Rattle.service_core.specs.Shipping.{halted}
use Rattle.service_core.specs.Sound.{IsSoundWithin}
use Rattle.service_core.specs.Within.{Within}
use Rattle.service_core.proofs.Second.{crashes_few, taken_soundly}
use Rattle.service_core.proofs.one.OneService.take_over.Goals as goal

pub invariant_of-self : goal.invariant_of-self
invariant_of-self g c = record {
  kept = λ live.
      let old = c.args.self.now in
      let held : Within = record { grants = c.self.inside.grants; disk = g.D.Disk.state c.self.inside.disk; core = c.self.inside.core; held = c.self.inside.held; notes = c.self.inside.notes } in
      let same : held ≡ halted old = c.self.view_is ∙ c.unanswer.ensures in
      let crashes : old.notes.crashes ≤ old.notes.calls = subst (λ (w : Within). w.notes.crashes ≤ w.notes.calls) {x = held} same (crashes_few held (c.self.invariant.kept live)) in
      let disk : g.D.Disk.state c.replace.new.dest ≡ g.D.Disk.state c.args.disk = ap g.D.Disk.state c.replace.ensures.after in
      subst (λ (w : Within). IsSoundWithin (record w { disk = g.D.Disk.state c.replace.new.dest })) {x = halted old} (sym {a = held} same)
      (subst (λ (d : DiskState). IsSoundWithin (record (halted old) { disk = d })) (sym disk)
      (taken_soundly old (g.D.Disk.state c.args.disk) c.requires.journals.0 c.requires.journals.1 c.requires.room crashes (g.met.D.Disk.reads_now c.args.disk)));
  at_rest = λ live down. tt;
}
