-- Faults and stops: what a call's word on its disk says of what is seen of a service.
use Rattle.std.proofs.Common.{◌≡◌, ◌≢◌, ◌∙◌, ◌+◌, ◌-◌, ◌<◌, ◌≤◌, ◌^◌, ℕ, refl, sym, arith}
use Rattle.std.proofs.Math.Nat.{min-eq_left, min-le_left}
use Rattle.std.specs.Prelude.{Option, Some, None, Result, Err, IsErrOf}
use Rattle.disk_model.specs.Disk.{Caused, DiskState, OnlyReads, Lowered, LoweredByLess, with_fault}
use Rattle.service_core.specs.declared.notes.Notes.{Notes}
use Rattle.service_core.specs.Sound.{HasFaultRoom}

-- Where a count leaves room, each fault is one more.
pub one_more : (old new : ℕ) (notes : Notes) → HasFaultRoom old notes → notes.calls < 2 ^ 48 → new ≡ with_fault old → new ≡ old + 1
one_more old new notes room few is = is ∙ min-eq_left (omega (arith, room.0, room.1, few))

pub rises : (old new : ℕ) (notes : Notes) → HasFaultRoom old notes → notes.calls < 2 ^ 48 → new ≡ with_fault old → old < new
rises old new notes room few is = omega (arith, one_more old new notes room few is)

pub never_falls : (old new : ℕ) (notes : Notes) → HasFaultRoom old notes → notes.calls < 2 ^ 48 → new ≡ with_fault old → old ≤ new
never_falls old new notes room few is = omega (arith, one_more old new notes room few is)

-- it leaves room one call later
pub still_counted : (old new : ℕ) (notes later : Notes) → HasFaultRoom old notes → new ≡ with_fault old → later.calls ≡ notes.calls + 1 → later.reads ≡ notes.reads → HasFaultRoom new later
still_counted old new notes later room is calls reads = (omega (arith, room.0, is, calls, reads, min-le_left (old + 1) (2 ^ 64 - 1)), omega (arith, room.1, calls, reads))

-- and so does a call without a fault
pub still_room : (old new : ℕ) (notes later : Notes) → HasFaultRoom old notes → new ≡ old → notes.calls ≤ later.calls → later.reads ≡ notes.reads → HasFaultRoom new later
still_room old new notes later room is calls reads = (omega (arith, room.0, is, calls, reads), omega (arith, room.1, calls, reads))

-- no stop, no stop
pub still_none : (n : ℕ) (before after : Option ℕ) → Lowered n before after → before ≡ None → after ≡ None
still_none n None None lowered none = refl
still_none n None (Some left) lowered none = absurd lowered
still_none n (Some left) after lowered none = absurd (cc)

pub still_none_by_less : (n : ℕ) (before after : Option ℕ) → LoweredByLess n before after → before ≡ None → after ≡ None
still_none_by_less n None None lowered none = refl
still_none_by_less n None (Some left) lowered none = absurd lowered
still_none_by_less n (Some left) after lowered none = absurd (cc)

pub none_before : (n : ℕ) (before after : Option ℕ) → LoweredByLess n before after → after ≡ Some 0 → before ≢ None
none_before n None None lowered reached none = absurd (cc)
none_before n None (Some left) lowered reached none = absurd lowered
none_before n (Some left) after lowered reached none = absurd (cc)

-- a call that only read, and was answered, left its disk as it was
pub read_same : (fault : Type 0) (old new : DiskState) → OnlyReads fault old new → (fault → ⊥) → new ≡ old
read_same fault old new reads none = λ i. record {
  past = reads.same.past i;
  now = reads.same.now i;
  faults = reads.cause.uncounted none i;
  stop = reads.stop i;
  quiet = reads.cause.still_quiet i;
  pick = reads.cause.same_pick i;
}

-- a call that found no memory counted no fault
pub none_counted : {A E : Type 0} (told lack stopped : E) (old new : DiskState) → told ≡ lack → lack ≢ stopped → Caused (IsErrOf {T = A} {E = E} (Err told) stopped) old new → new.faults ≡ old.faults
none_counted {A} {E} told lack stopped old new is_lack other cause =
    cause.uncounted (λ answers. other (sym is_lack ∙ (let same : ◌≡◌ {A = Result A E} (Err told) (Err stopped) = answers in cc)))
