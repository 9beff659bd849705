-- How what a crash may have left goes on from call to call.
use Rattle.std.proofs.Common.{◌≡◌, ◌⊎◌, ℕ, ◌≤◌, List, [], ◌∷◌, ◌++◌, length, drop, inl, inr, ⊎_elim, refl, sym, ◌∙◌, ap, subst, arith, append_assoc, length-append}
use Rattle.std.proofs.lemmas.List.{drop_at, append-nil, drop-append-le, length_push}
use Rattle.disk_model.specs.Moment.{DiskMoment, MayLeave, AnyMayLeave}
use Rattle.disk_model.specs.Disk.{DiskState, Meanwhile, SameBytes, LeftSince, history, moment}
use Rattle.disk_model.specs.Laws.{LeavesSince, LeavesNow}

any_of : (a b : List DiskMoment) (image : List ℕ) → AnyMayLeave (a ++ b) image → AnyMayLeave a image ⊎ AnyMayLeave b image
any_of [] b image left = inr left
any_of (m ∷ a) b image (inl here) = inl (inl here)
any_of (m ∷ a) b image (inr there) = ⊎_elim (λ l. inl (inr l)) (λ r. inr r) (any_of a b image there)

-- a call that leaves the bytes alone
pub stays : (old new : DiskState) (P : List ℕ → Type 0) → SameBytes old new → Meanwhile old new P
stays old new P same = record {
  added = [];
  grows = ap (λ (l : List DiskMoment). l ++ new.now ∷ []) same.past ∙ ap (λ (m : DiskMoment). old.past ++ m ∷ []) same.now ∙ sym (append-nil (history old));
  each = λ image left. absurd left;
}

-- one run after another
pub then : (a b c : DiskState) (P : List ℕ → Type 0) → Meanwhile a b P → Meanwhile b c P → Meanwhile a c P
then a b c P first second = record {
  added = first.added ++ second.added;
  grows = second.grows ∙ ap (λ (l : List DiskMoment). l ++ second.added) first.grows ∙ append_assoc (history a) first.added second.added;
  each = λ image left. ⊎_elim (first.each image) (second.each image) (any_of first.added second.added image left);
}

pub weaker : (old new : DiskState) (P Q : List ℕ → Type 0) → Meanwhile old new P → ((image : List ℕ) → P image → Q image) → Meanwhile old new Q
weaker old new P Q run wider = record { added = run.added; grows = run.grows; each = λ image left. wider image (run.each image left) }

from_here : (past added : List DiskMoment) (now : DiskMoment) (n : ℕ) → n ≡ length past → drop n ((past ++ now ∷ []) ++ added) ≡ now ∷ added
from_here past added now n e =
    ap (λ (l : List DiskMoment). drop n l) (append_assoc past (now ∷ []) added) ∙ drop_at past (now ∷ added) n (sym e)

-- what a crash since old may have left
pub leaves_since : LeavesSince
leaves_since old new added grows image left =
    let e : drop (length old.past) (history new) ≡ old.now ∷ added = ap (λ (l : List DiskMoment). drop (length old.past) l) grows ∙ from_here old.past added old.now (length old.past) refl in
    subst (λ (l : List DiskMoment). AnyMayLeave l image) e left

-- a crash since the start of a run leaves what it may have left then, or what has P
pub since : (old new : DiskState) (P : List ℕ → Type 0) → Meanwhile old new P → ((image : List ℕ) → MayLeave old.now image → P image) → (image : List ℕ) → LeftSince new (moment old) image → P image
since old new P run first image left = ⊎_elim (first image) (run.each image) (leaves_since old new run.added run.grows image left)

any_last : (a : List DiskMoment) (m : DiskMoment) (image : List ℕ) → MayLeave m image → AnyMayLeave (a ++ m ∷ []) image
any_last [] m image left = inl left
any_last (x ∷ a) m image left = inr (any_last a m image left)

any_drop : (n : ℕ) (past : List DiskMoment) (now : DiskMoment) (image : List ℕ) → n ≤ length past → MayLeave now image → AnyMayLeave (drop n (past ++ now ∷ [])) image
any_drop n past now image le left = rw (drop-append-le n past (now ∷ [])) (any_last (drop n past) now image left)

-- what a crash now may leave, it may have left since any moment
pub counts_now : (s : DiskState) (t : ℕ) (image : List ℕ) → t ≤ moment s → MayLeave s.now image → LeftSince s t image
counts_now s t image le left = any_drop t s.past s.now image le left

length_grows : (a b added : List DiskMoment) (x y : DiskMoment) → b ++ y ∷ [] ≡ (a ++ x ∷ []) ++ added → length a ≤ length b
length_grows a b added x y e =
    omega (arith, simp (length-append, length_push) at (ap length e))

-- what a crash now may leave
pub leaves_now : LeavesNow
leaves_now old new added grows image left =
    leaves_since old new added grows image (counts_now new (moment old) image (length_grows old.past new.past added old.now new.now grows) left)

-- a crash now, after the run
pub crash_now : (old new : DiskState) (P : List ℕ → Type 0) → Meanwhile old new P → ((image : List ℕ) → MayLeave old.now image → P image) → (image : List ℕ) → MayLeave new.now image → P image
crash_now old new P run first image left = ⊎_elim (first image) (run.each image) (leaves_now old new run.added run.grows image left)

-- one moment more
pub one_more : (s t : DiskState) → t.past ≡ s.past ++ s.now ∷ [] → Meanwhile s t (MayLeave t.now)
one_more s t e = record {
  added = t.now ∷ [];
  grows = ap (λ (l : List DiskMoment). l ++ t.now ∷ []) e;
  each = λ image left. ⊎_elim (λ here. here) (λ none. absurd none) left;
}
