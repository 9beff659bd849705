use Rattle.std.proofs.Common.{◌∙◌, ◌<◌, ◌+◌, false, sym, ap, subst, arith}
use Rattle.std.specs.Prelude.{Err}
use Rattle.disk_model.specs.Disk.{DiskState}
use Rattle.redo_store.proofs.Offered.{few_behind}
use Rattle.service_core.specs.Held.{Held}
use Rattle.service_core.specs.Seeing.{bytes_in}
use Rattle.service_core.specs.Shipping.{StandsAt, read_once}
use Rattle.server_session.specs.declared.shared.Core.{Core}
use Rattle.service_core.specs.Sound.{IsDown, IsSound, IsSoundWithin}
use Rattle.service_core.specs.Within.{Within}
use Rattle.service_core.specs.declared.resting.Resting.{Resting}
use Rattle.service_core.specs.Keeping.{RestsBy}
use Rattle.disk_model.specs.Moment.{DiskMoment, MayLeave}
use Rattle.std.specs.Prelude.{Option, None, IfSome}
use Rattle.service_core.proofs.Read.{answered_same}
use Rattle.service_core.proofs.Second.{failed_soundly, read_soundly, reads_whole}
use Rattle.service_core.proofs.Rested.{goes_to_rest, still_rests}
use Rattle.service_core.proofs.one.OneService.records_from.Goals as goal

pub behind-requires : goal.behind-requires
behind-requires g c =
    let stands = c.requires.stands in
    omega (arith, stands.counted, few_behind c.args.place stands.records _ stands.stands)

pub invariant_of-self : goal.invariant_of-self
invariant_of-self g c = record {
  kept = λ live.
      let old : Within = record { grants = c.self.inside.grants; disk = g.D.Disk.state c.self.inside.disk; core = c.self.inside.core; held = c.self.inside.held; notes = c.self.inside.notes } in
      let end = g.D.Disk.state c.rest.new.disk in
      let once = subst (λ (w : Within). w.notes.reads < w.notes.calls) (sym c.self.view_is) c.requires.once in
      subst (λ (d : DiskState). IsSoundWithin (record (read_once old) { disk = d })) (sym (answered_same c.in-Ok.payloads _ old.disk end c.in-Ok.ensures.only_reads)) (read_soundly old once (c.self.invariant.kept live));
  at_rest = λ live down. still_rests c.self.inside.grants (g.D.Disk.state c.self.inside.disk) (g.D.Disk.state c.rest.new.disk) c.self.inside.resting (c.in-Ok.ensures.only_reads.same.now) (c.self.invariant.at_rest live down);
}

pub invariant_of-self-in-Err-Stopped : goal.invariant_of-self-in-Err-Stopped
invariant_of-self-in-Err-Stopped g c = record {
  kept = λ live.
      let old : Within = record { grants = c.self.inside.grants; disk = g.D.Disk.state c.self.inside.disk; core = c.self.inside.core; held = c.self.inside.held; notes = c.self.inside.notes } in
      let end = g.D.Disk.state c.rest.new.disk in
      let once = subst (λ (w : Within). w.notes.reads < w.notes.calls) (sym c.self.view_is) c.requires.once in
      subst (λ (o : Option Core). IsSound old.grants end o c.clear.new.self (record old.notes { is_settled = false; reads = old.notes.reads + 1 })) {x = None} (sym c.put_to_rest.ensures.down)
      (subst (λ (h : Held). IsDown end h (record old.notes { is_settled = false; reads = old.notes.reads + 1 })) (sym c.clear.ensures)
      (failed_soundly old end once (c.self.invariant.kept live) _ (ap Err c.in-Err-Stopped.field-0-is) c.in-Err-Stopped.ensures.only_reads (g.met.D.Disk.reads_now c.rest.new.disk)));
  at_rest = λ live down.
      let old : Within = record { grants = c.self.inside.grants; disk = g.D.Disk.state c.self.inside.disk; core = c.self.inside.core; held = c.self.inside.held; notes = c.self.inside.notes } in
      let end = g.D.Disk.state c.rest.new.disk in
      subst (λ (o : Option Resting). IfSome o (RestsBy old.grants end)) (sym c.put_to_rest.ensures.rests)
      (goes_to_rest old.grants old.disk end old.core old.held old.notes c.self.inside.resting (c.self.invariant.kept live) (c.self.invariant.at_rest live)
      (λ image left. subst (λ (m : DiskMoment). MayLeave m image) c.in-Err-Stopped.ensures.only_reads.same.now left));
}

pub unreachable-requires : goal.unreachable-requires
unreachable-requires g c =
    let old : Within = record { grants = c.self.inside.grants; disk = g.D.Disk.state c.self.inside.disk; core = c.self.inside.core; held = c.self.inside.held; notes = c.self.inside.notes } in
    let live = ap (λ (w : Within). w.notes.is_spent) c.self.view_is ∙ c.requires.live in
    let stands = subst (λ (w : Within). StandsAt c.args.from c.args.place (bytes_in w)) (sym c.self.view_is) c.requires.stands in
    let read = c.behind.ensures.read old.disk.now.seen stands.records stands.stands stands.counted in
    reads_whole old (c.self.invariant.kept live) (g.met.D.Disk.reads_now c.self.inside.disk) c.in-Err-Damaged.field-0-0 (c.in-Err-Damaged.ensures.damaged c.in-Err-Damaged.field-0-0 (ap Err c.in-Err-Damaged.field-0-is) stands.records read)
