-- Records that are added, one call after the other.
use Rattle.std.proofs.Common.{◌≡◌, ◌≤◌, ◌+◌, ◌*◌, inl, inr, ℕ, zero, suc, List, [], ◌∷◌, ◌++◌, length, take, refl, sym, ◌∙◌, ap, subst, arith, append_assoc, length-append}
use Rattle.std.specs.Prelude.{Bool, IsTrue, Option, Some, None, Ok, Err}
use Rattle.disk_model.specs.Disk.{DiskState, Meanwhile, IsSettled, Lowered, LoweredByLess, with_fault}
use Rattle.disk_model.proofs.Offered.{stays, crash_now, lowered_then, lowered_by_less_then}
use Rattle.redo_store.specs.declared.fault.RedoFault.TheVariants as fault
use Rattle.commit_log.specs.declared.log.Log.{Log}
use Rattle.commit_log.specs.declared.records.Record.{Record}
use Rattle.commit_log.specs.Adds.{Adds}
use Rattle.commit_log.specs.Growth.{HasAdded, IsGrown}
use Rattle.commit_log.specs.Logs.{CanLog}
use Rattle.commit_log.proofs.Offered.{adds_on, grown_then, grows_by_none, has_itself}
use Rattle.server_session.specs.Adding.{HasGained, IsLeftOf, HasHalted}

lowered_none : (stop : Option ℕ) → Lowered 0 stop stop
lowered_none None = tt
lowered_none (Some left) = omega arith

-- no record is added
pub gained_none : (disk : DiskState) → HasGained [] disk disk
gained_none disk = record {
  added = has_itself disk.now.seen;
  moments = stays disk disk (IsGrown disk.now.seen []) (record { past = refl; now = refl });
  stop = lowered_none disk.stop;
  faults = refl;
  quiet = refl;
  pick = refl;
}

four_times : (records more : List Record) → 4 * length records + 4 * length more ≡ 4 * length (records ++ more)
four_times records more = omega (arith, length-append records more)

-- some records, and then others
pub gained_then : (a b c : DiskState) (records more : List Record) → HasGained records a b → HasGained more b c → HasGained (records ++ more) a c
gained_then a b c records more first second = record {
  added = adds_on a.now.seen records b.now.seen more c.now.seen first.added second.added;
  moments = grown_then a b c a.now.seen records more first.moments first.added second.moments;
  stop = subst (λ n. Lowered n a.stop c.stop) (four_times records more) (lowered_then (4 * length records) (4 * length more) a.stop b.stop c.stop first.stop second.stop);
  faults = second.faults ∙ first.faults;
  quiet = second.quiet ∙ first.quiet;
  pick = second.pick ∙ first.pick;
}

one_of : (old : List ℕ) (records more : List Record) (last : Record) (between image : List ℕ) → HasAdded old records between → IsLeftOf between more last image → IsLeftOf old (records ++ more) last image
one_of old records more last between image added (inl none) = inl (adds_on old records between more image added none)
one_of old records more last between image added (inr one) =
    inr (subst (λ (l : List Record). HasAdded old l image) (sym (append_assoc records more (last ∷ []))) (adds_on old records between (more ++ last ∷ []) image added one))

four_behind : (records more : List Record) → 4 * length records + (4 * length more + 4) ≡ 4 * length (records ++ more) + 4
four_behind records more = omega (arith, length-append records more)

-- records, and then a stop behind others
pub halted_then : (a b c : DiskState) (records more : List Record) (last : Record) → HasGained records a b → HasHalted more last b c → HasHalted (records ++ more) last a c
halted_then a b c records more last first second = record {
  left = λ image left. one_of a.now.seen records more last b.now.seen image first.added (second.left image left);
  moments = subst (λ (l : List Record). Meanwhile a c (IsGrown a.now.seen l)) (sym (append_assoc records more (last ∷ []))) (grown_then a b c a.now.seen records (more ++ last ∷ []) first.moments first.added second.moments);
  stop = subst (λ n. LoweredByLess n a.stop c.stop) (four_behind records more) (lowered_by_less_then (4 * length records) (4 * length more + 4) a.stop b.stop c.stop first.stop second.stop);
  faults = second.faults ∙ ap with_fault first.faults;
  reached = λ quiet. second.reached (subst (λ (q : Bool). IsTrue q) (sym first.quiet) quiet);
  quiet = second.quiet ∙ first.quiet;
  pick = second.pick ∙ first.pick;
}

-- ---- one record

left_by : (old : List ℕ) (last : Record) (image : List ℕ) (count : ℕ) → count ≤ 1 → HasAdded old (take count (last ∷ [])) image → IsLeftOf old [] last image
left_by old last image zero le has = inl has
left_by old last image (suc zero) le has = inr has
left_by old last image (suc (suc count)) le has = absurd (omega (arith, le))

settled_of : (log : Log) (disk : DiskState) → CanLog log disk → IsSettled disk
settled_of log disk ready = ready.append.settled

-- none of it, or all
pub grown_left : (old : List ℕ) (one : Record) (image : List ℕ) → IsGrown old (one ∷ []) image → IsLeftOf old [] one image
grown_left old one image grown = left_by old one image grown.count grown.within grown.has

pub gained_one : (log : Log) (old new : DiskState) (one : Record) → Adds (Ok tt) log old new one → HasGained (one ∷ []) old new
gained_one log old new one adds = record {
  added = adds.added;
  moments = adds.any_moment;
  stop = adds.stop;
  faults = adds.cause.uncounted (λ e. cc);
  quiet = adds.cause.still_quiet;
  pick = adds.cause.same_pick;
}

pub halted_one : (before log : Log) (old new : DiskState) (one : Record) → CanLog before old → Adds (Err fault.Stopped) log old new one → HasHalted [] one old new
halted_one before log old new one ready adds = record {
  left = λ image left.
      grown_left old.now.seen one image
      (crash_now old new (IsGrown old.now.seen (one ∷ [])) adds.any_moment
      (λ i now. grows_by_none old.now.seen (one ∷ []) i (subst (λ (bytes : List ℕ). HasAdded old.now.seen [] bytes) (sym (settled_of before old ready i now)) (has_itself old.now.seen))) image left);
  moments = adds.any_moment;
  stop = adds.stop;
  faults = adds.cause.counted refl;
  reached = λ quiet. adds.cause.at_stop quiet refl;
  quiet = adds.cause.still_quiet;
  pick = adds.cause.same_pick;
}
