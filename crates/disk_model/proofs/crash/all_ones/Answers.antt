use Rattle.std.proofs.Common.{◌≡◌, ℕ, ◌+◌, [], ◌∷◌, List, inl, inr, ⊎_elim, sym, ◌∙◌, ap, subst, arith}
use Rattle.std.proofs.lemmas.Bool.{cases_lt}
use Rattle.disk_model.specs.Moment.{InRanges}
use Rattle.disk_model.specs.Log.{ranges_of}
use Rattle.disk_model.proofs.Past.{ranges_push, ranges_snoc, unwind}
use Rattle.disk_model.proofs.crash.all_ones.Goals as goal

pub fill_ones-requires : goal.fill_ones-requires
fill_ones-requires c =
    let v = c.loop-write.invariant in
    let s = unwind c.args.log.now.items c.args.bytes.now.items c.loop-write.log.items c.pop.new.self.items c.in-Some.write c.in-Some.ensures.items c.if-write.false v.unwound in
    omega (arith, s.0.within, v.unwound.shorter, v.long)

pub loop-write-preserved : goal.loop-write-preserved
loop-write-preserved c =
    let w = c.in-Some.write in
    let v = c.loop-write.invariant in
    let s = unwind c.args.log.now.items c.args.bytes.now.items c.loop-write.log.items c.pop.new.self.items w c.in-Some.ensures.items c.if-write.false v.unwound in
    let f = c.fill_ones.ensures in
    let e : ranges_of [] c.loop-write.log.items ≡ (w.at, w.len) ∷ ranges_of [] c.pop.new.self.items = ap (ranges_of []) c.in-Some.ensures.items ∙ ranges_push w c.if-write.false c.pop.new.self.items [] in
    let within = λ (k : ℕ) (h : InRanges ((w.at, w.len) ∷ ranges_of [] c.pop.new.self.items) k). v.subset k (subst (λ (r : List (ℕ × ℕ)). InRanges r k) (sym e) h) in
    record {
      unwound = s.1;
      long = f.long ∙ v.long;
      subset = λ k h. within k (inr h);
      written = λ k h. ⊎_elim
          (λ is. inl (⊎_elim
          (λ below. f.outside k (λ h. omega (arith, h.0, below)) ∙ is)
          (λ ge. ⊎_elim (λ inside. f.inside k ge inside) (λ above. f.outside k (λ h. omega (arith, h.1, above)) ∙ is) (cases_lt k (w.at + w.len)))
          (cases_lt k w.at)))
          (λ left. ⊎_elim (λ here. inl (f.inside k here.0 here.1)) (λ more. inr more) (subst (λ (r : List (ℕ × ℕ)). InRanges r k) e left))
          (v.written k h);
      same = λ k out. f.outside k (λ h. out (within k (inl h))) ∙ v.same k out;
    }

pub returns-then-write : goal.returns-then-write
returns-then-write c =
    let v = c.loop-write.invariant in
    let none : ranges_of [] c.loop-write.log.items ≡ [] = ap (ranges_of []) c.in-Some.ensures.items ∙ ranges_snoc c.in-Some.write c.if-write.true c.pop.new.self.items [] in
    record {
      long = v.long;
      written = λ k h. ⊎_elim (λ is. is) (λ left. absurd (subst (λ (r : List (ℕ × ℕ)). InRanges r k) none left)) (v.written k h);
      same = v.same;
    }
