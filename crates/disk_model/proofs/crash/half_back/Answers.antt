use Rattle.std.proofs.Common.{◌≡◌, ◌⊎◌, ℕ, ◌+◌, ◌%◌, ◌<◌, ◌≤◌, List, length, get_or, inl, inr, ⊎_elim, refl, sym, ◌∙◌, ap, arith}
use Rattle.std.proofs.lemmas.Bool.{cases_lt}
use Rattle.disk_model.proofs.Past.{unwind, unwound_start, unwound_end}
use Rattle.disk_model.proofs.Halves.{bytes_before_inside, bytes_before_outside}
use Rattle.disk_model.proofs.crash.half_back.Goals as goal

pub undo_odd-requires : goal.undo_odd-requires
undo_odd-requires c =
    let v = c.loop-write.invariant in
    let s = unwind c.args.log.now.items c.args.bytes.now.items c.loop-write.log.items c.pop.new.self.items c.in-Some.write c.in-Some.ensures.items c.if-write.false v.unwound in
    omega (arith, s.0.within, v.unwound.shorter, v.long)

pub loop-write-preserved : goal.loop-write-preserved
unfolding unwind
loop-write-preserved c =
    let w = c.in-Some.write in
    let v = c.loop-write.invariant in
    let s = unwind c.args.log.now.items c.args.bytes.now.items c.loop-write.log.items c.pop.new.self.items w c.in-Some.ensures.items c.if-write.false v.unwound in
    let f = c.undo_odd.ensures in
    let outside = λ (k : ℕ) (o : k % 2 ≡ 1) (lt : k < length c.args.bytes.now.items) (out : (k < w.at) ⊎ (w.at + w.len ≤ k)).
    f.outside k (λ h. ⊎_elim (λ below. omega (arith, h.0, below)) (λ above. omega (arith, h.1, above)) out) ∙ v.odd k o lt ∙ bytes_before_outside w v.unwound.after s.0 k out in
    record {
      unwound = s.1;
      long = f.long ∙ v.long;
      odd = λ k o lt. ⊎_elim
          (λ below. outside k o lt (inl below))
          (λ ge. ⊎_elim (λ inside. f.inside k ge inside o ∙ sym (bytes_before_inside w v.unwound.after s.0 k ge inside)) (λ above. outside k o lt (inr above)) (cases_lt k (w.at + w.len)))
          (cases_lt k w.at);
      even = λ k e. f.outside k (λ h. omega (arith, e, h.2)) ∙ v.even k e;
    }

pub loop-write-init : goal.loop-write-init
unfolding unwound_start
loop-write-init c = record {
  unwound = unwound_start c.args.log.now.items c.args.bytes.now.items c.requires;
  long = refl;
  odd = λ k o lt. refl;
  even = λ k e. refl;
}

pub returns-then-write : goal.returns-then-write
returns-then-write c =
    let v = c.loop-write.invariant in
    let e = unwound_end c.args.log.now.items c.args.bytes.now.items c.loop-write.log.items c.pop.new.self.items c.in-Some.write c.in-Some.ensures.items c.if-write.true v.unwound in
    record { long = v.long; odd = λ k o lt. v.odd k o lt ∙ ap (λ (l : List ℕ). get_or l k 0) e; even = v.even }
