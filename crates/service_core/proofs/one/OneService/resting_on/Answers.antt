use Rattle.std.proofs.Common.{sym, subst}
use Rattle.server_model.specs.Seen.{IsNew}
use Rattle.service_core.specs.Held.{Held}
use Rattle.service_core.specs.Seeing.{SeesIn}
use Rattle.service_core.specs.Sound.{IsDown}
use Rattle.service_core.specs.Starting.{first_notes, made_on, base_of, seen_new}
use Rattle.service_core.specs.Within.{Within}
use Rattle.service_core.proofs.Beginning.{base_sound}
use Rattle.service_core.proofs.Made.{made_soundly, made_seen, made_new}
use Rattle.service_core.proofs.one.OneService.resting_on.Goals as goal

pub invariant_of-result-2 : goal.invariant_of-result-2
invariant_of-result-2 g c = record {
  kept = λ live.
      let disk = g.D.Disk.state c.args.disk in
      subst (λ (h : Held). IsDown disk h first_notes) (sym c.new.ensures) (made_soundly disk c.args.grants c.requires.begins (g.met.D.Disk.reads_now c.args.disk));
  at_rest = λ live down. c.requires.resting;
}

pub returns-clause-seen : goal.returns-clause-seen
returns-clause-seen g c journal reads =
    let disk = g.D.Disk.state c.args.disk in
    let start = base_of journal c.args.grants in
    subst (λ (h : Held). let made : Within = record (made_on disk c.args.grants) { held = h } in SeesIn made (seen_new made start) × IsNew (seen_new made start)) (sym c.new.ensures)
    (made_seen disk c.args.grants journal c.requires.begins (g.met.D.Disk.reads_now c.args.disk) reads, made_new disk c.args.grants journal c.requires.begins reads)

pub returns-clause-sound : goal.returns-clause-sound
returns-clause-sound g c journal reads = base_sound (g.D.Disk.state c.args.disk).now.seen journal c.args.grants (c.keeps_journal.ensures.keeps (g.D.Disk.state c.args.disk).now.seen journal reads)
