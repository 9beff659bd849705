-- A second store that is walked to its end, as its service is opened.
use Rattle.std.proofs.Common.{◌≡◌, ◌∙◌, ◌+◌, ℕ, sym, ap, subst, List, [], ◌∷◌, ◌++◌, append-nil, arith}
use Rattle.std.specs.Prelude.{Option, Ok}
use Rattle.disk_model.specs.Moment.{DiskMoment, MayLeave}
use Rattle.disk_model.specs.Disk.{DiskState, IsSettled, OnlyReads}
use Rattle.service_core.specs.Shipping.{halted}
use Rattle.service_core.specs.Unanswered.{LiesBetween}
use Rattle.service_core.specs.Within.{Within}
use Rattle.standby_ship.specs.Lagging.{Lags, lacked_in}
use Rattle.standby_ship.specs.Shipped.{HasBroken}
use Rattle.standby_ship.specs.Twins.{Second}
use Rattle.standby_ship.proofs.Lacking.{more_faults}

-- its disk failed in it, under the stop that the first disk has
pub breaks_walking : (primary new : Within) (before after : Second) (stop : Option ℕ) (Fault : Type 0) → Fault → Lags primary before → IsSettled before.disk → stop ≡ primary.disk.stop → OnlyReads Fault (record before.disk { stop = stop }) after.disk
    → MayLeave after.disk.now after.disk.now.seen → new ≡ halted primary → HasBroken (lacked_in primary before + 1) primary new before after
breaks_walking primary new before after stop Fault fault lags settled same_stop reads reads_now is_new =
    let front = lags.front in
    let faults : after.disk.faults ≡ before.disk.faults + 1 = more_faults before.disk.faults after.disk.faults primary.notes.calls primary.notes.reads lags.room.0 lags.room.1 lags.few (reads.cause.counted fault) in
    let same : new.disk ≡ primary.disk = ap (λ (w : Within). w.disk) is_new in
    record {
      reads = primary.notes.reads;
      down = is_new ∙ ap (λ (d : DiskState). record (halted primary) { disk = d }) (sym same);
      more_reads = omega arith;
      some = omega arith;
      bytes = ap (λ (d : DiskState). d.now) same;
      stop = ap (λ (d : DiskState). d.stop) same;
      between = λ image left.
          let here : image ≡ before.disk.now.seen = settled image (subst (λ (m : DiskMoment). MayLeave m image) reads.same.now left) in
          subst (λ (i : List ℕ). LiesBetween before.disk.now.seen i primary.disk.now.seen) (sym here) (record {
            records = front.base ∷ front.some;
            some = [];
            more = front.more;
            old_is = front.image_is;
            image_is = front.image_is ∙ ap (λ (l : List (List ℕ)). Ok l) (sym (append-nil (front.base ∷ front.some)));
            new_is = front.whole_is ∙ ap (λ (l : List (List ℕ)). Ok (l ++ front.more)) (sym (append-nil (front.base ∷ front.some)));
          });
      reads_now = reads_now;
      rose = omega (arith, faults, ap (λ (d : DiskState). d.faults) same);
      faults = (omega (arith, ap (λ (d : DiskState). d.faults) same), omega (arith, faults));
      reached = λ _ quiet. (0, (sym same_stop ∙ sym reads.stop ∙ reads.cause.at_stop quiet fault, omega arith));
      quiet = (ap (λ (d : DiskState). d.quiet) same, reads.cause.still_quiet);
    }
