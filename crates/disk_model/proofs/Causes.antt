-- How the stop, and the causes of faults, go on from call to call.
use Rattle.std.proofs.Common.{◌≡◌, refl, ℕ, ◌+◌, ◌-◌, ◌^◌, ◌≤◌, min, Option, Some, None, sym, ◌∙◌, subst, arith}
use Rattle.std.specs.Prelude.{IsTrue, IsErrOf, Result, Ok, Err}
use Rattle.disk_model.specs.Disk.{DiskState, Allows, Lowered, LoweredByLess, Lowers, Caused, OnlyReads}

-- ---- the stop

pub lowered_then : (a b : ℕ) (x y z : Option ℕ) → Lowered a x y → Lowered b y z → Lowered (a + b) x z
lowered_then a b None None None first second = tt
lowered_then a b (Some x) (Some y) (Some z) first second = omega (arith, first, second)
lowered_then a b None None (Some z) first second = absurd second
lowered_then a b None (Some y) z first second = absurd first
lowered_then a b (Some x) None z first second = absurd first
lowered_then a b (Some x) (Some y) None first second = absurd second

-- its first part succeeds, and the second doesn't
pub lowered_by_less_then : (a b : ℕ) (x y z : Option ℕ) → Lowered a x y → LoweredByLess b y z → LoweredByLess (a + b) x z
lowered_by_less_then a b None None None first second = tt
lowered_by_less_then a b (Some x) (Some y) (Some z) first second = (omega (arith, first, second.0), omega (arith, first, second.1))
lowered_by_less_then a b None None (Some z) first second = absurd second
lowered_by_less_then a b None (Some y) z first second = absurd first
lowered_by_less_then a b (Some x) None z first second = absurd first
lowered_by_less_then a b (Some x) (Some y) None first second = absurd second

-- it ends in its first part
pub lowered_by_less : (a b : ℕ) (x y : Option ℕ) → a ≤ b → LoweredByLess a x y → LoweredByLess b x y
lowered_by_less a b None None le first = tt
lowered_by_less a b (Some x) (Some y) le first = (first.0, omega (arith, le, first.1))
lowered_by_less a b None (Some y) le first = absurd first
lowered_by_less a b (Some x) None le first = absurd first

-- its first part succeeds, and it ends as the second does
pub lowers_then : {T E : Type 0} (a b : ℕ) (result : Result T E) (x y z : Option ℕ) → Lowered a x y → Lowers b result y z → Lowers (a + b) result x z
lowers_then a b (Ok value) x y z first second = lowered_then a b x y z first second
lowers_then a b (Err error) x y z first second = lowered_by_less_then a b x y z first second

-- nothing is written
pub lowered_by_none : (n : ℕ) (x : Option ℕ) → 1 ≤ n → LoweredByLess n x x
lowered_by_none n None le = tt
lowered_by_none n (Some x) le = (omega arith, omega (arith, le))

-- ---- faults

-- a fault of the caller's that is exactly the callee's
pub caused_for : (F G : Type 0) (s t : DiskState) → (F → G) → (G → F) → Caused F s t → Caused G s t
caused_for F G s t to from c = record {
  counted = λ g. c.counted (from g);
  uncounted = λ none. c.uncounted (λ f. none (to f));
  at_stop = λ q g. c.at_stop q (from g);
  still_quiet = c.still_quiet;
  same_pick = c.same_pick;
}

-- its first part has no fault, and it goes on
pub caused_then : (F G : Type 0) (s t u : DiskState) → (F → ⊥) → Caused F s t → Caused G t u → Caused G s u
caused_then F G s t u none first second =
    let same : t.faults ≡ s.faults = first.uncounted none in
    record {
      counted = λ g. subst (λ n. u.faults ≡ min (n + 1) (2 ^ 64 - 1)) same (second.counted g);
      uncounted = λ no_fault. second.uncounted no_fault ∙ same;
      at_stop = λ q g. second.at_stop (subst (λ v. IsTrue v) (sym first.still_quiet) q) g;
      still_quiet = second.still_quiet ∙ first.still_quiet;
      same_pick = second.same_pick ∙ first.same_pick;
    }

-- nothing is called
pub caused_by_none : (F : Type 0) (s : DiskState) → (F → ⊥) → Caused F s s
caused_by_none F s none = record {
  counted = λ f. absurd (none f);
  uncounted = λ no_fault. refl;
  at_stop = λ q f. absurd (none f);
  still_quiet = refl;
  same_pick = refl;
}

-- ---- reads

-- nothing is read
pub no_read : (F : Type 0) (s : DiskState) → (F → ⊥) → OnlyReads F s s
no_read F s none = record { same = record { past = refl; now = refl }; stop = refl; cause = caused_by_none F s none }

-- a fault of the caller's that is exactly the disk's
pub reads_for : (F G : Type 0) (s t : DiskState) → (F → G) → (G → F) → OnlyReads F s t → OnlyReads G s t
reads_for F G s t to from r = record { same = r.same; stop = r.stop; cause = caused_for F G s t to from r.cause }

-- one read after another
pub reads_then : (F G : Type 0) (s t u : DiskState) → (F → ⊥) → OnlyReads F s t → OnlyReads G t u → OnlyReads G s u
reads_then F G s t u none first second = record {
  same = record { past = second.same.past ∙ first.same.past; now = second.same.now ∙ first.same.now };
  stop = second.stop ∙ first.stop;
  cause = caused_then F G s t u none first.cause second.cause;
}

-- ---- a quiet disk

not_both : (n : ℕ) (x y : Option ℕ) → LoweredByLess n x y → y ≡ Some 0 → Allows n x → ⊥
not_both n None None low e allows = cc
not_both n (Some x) (Some y) low e allows = let zero : y ≡ 0 = cc in omega (arith, zero, low.1, allows)
not_both n None (Some y) low e allows = absurd low
not_both n (Some x) None low e allows = absurd low

pub quiet_has_none : {T E : Type 0} (n : ℕ) (result : Result T E) (fault : E) (old new : DiskState)
    → Lowers n result old.stop new.stop → Caused (IsErrOf result fault) old new
    → IsTrue old.quiet → Allows n old.stop → IsErrOf result fault → ⊥
quiet_has_none n (Ok value) fault old new low c quiet allows is = cc
quiet_has_none n (Err error) fault old new low c quiet allows is = not_both n old.stop new.stop low (c.at_stop quiet is) allows
