use Rattle.std.proofs.Common.{◌≡◌, ◌⊎◌, ℕ, ◌%◌, List, inl, inr, ⊎_elim, refl, sym, ◌∙◌, subst, arith, Vec, Global}
use Rattle.std.proofs.lemmas.Bool.{cases_eq}
use Rattle.disk_model.specs.Moment.{DiskMoment, MayLeave}
use Rattle.disk_model.specs.Log.{now_of}
use Rattle.disk_model.specs.InnerKept.{reads_now_of}
use Rattle.disk_model.specs.Picks.{IsHalfNew, IsOnes}
use Rattle.disk_model.proofs.crash.tear.Goals as goal
use Rattle.disk_model.proofs.crash.tear.Goals.{in-0, in-1, in-2, in_default}

synced_left : (m : DiskMoment) → MayLeave m m.seen → MayLeave m m.synced
synced_left m reads = record { no_shorter = omega arith; no_longer = reads.no_shorter; same = λ k lt out. refl }

ones_left : (m : DiskMoment) (image : List ℕ) → MayLeave m m.seen → IsOnes m image → MayLeave m image
ones_left m image reads p = record {
  no_shorter = omega (arith, p.long, reads.no_shorter);
  no_longer = omega (arith, p.long);
  same = λ k lt out. p.same k out ∙ reads.same k lt out;
}

odd_or_even : (k : ℕ) → (k % 2 ≡ 1) ⊎ (k % 2 ≡ 0)
odd_or_even k = ⊎_elim (λ e. inl e) (λ ne. inr (omega (arith, ne))) (cases_eq (k % 2) 1)

half_left : (m : DiskMoment) (image : List ℕ) → MayLeave m m.seen → IsHalfNew m image → MayLeave m image
half_left m image reads p = record {
  no_shorter = omega (arith, p.long, reads.no_shorter);
  no_longer = omega (arith, p.long);
  same = λ k lt out. ⊎_elim (λ o. p.odd k o (omega (arith, lt, reads.no_shorter))) (λ e. p.even k e ∙ reads.same k lt out) (odd_or_even k);
}

pub returns-clause-left : goal.returns-clause-left
returns-clause-left c =
    let m = now_of c.args.log.now.items c.args.bytes.now.items in
    let reads = reads_now_of c.args.log.now.items c.args.bytes.now.items c.requires.fits in
    let at = λ (v : Vec ℕ Global) (e : c.match-pick.bytes ≡ v) (l : MayLeave m v.items). subst (λ (v : Vec ℕ Global). MayLeave m v.items) (sym e) l in
    elim c.match-pick.branch [
      | in-0 w ↦ at _ w.bytes-is reads
      | in-1 w ↦ at _ w.bytes-is (subst (λ (l : List ℕ). MayLeave m l) (sym w.back_to_sync.ensures) (synced_left m reads))
      | in-2 w ↦ at _ w.bytes-is (half_left m _ reads w.half_back.ensures)
      | in_default w ↦ at _ w.bytes-is (ones_left m _ reads w.all_ones.ensures)
    ]
