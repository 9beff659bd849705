use Rattle.std.proofs.Common.{◌≡◌, ◌+◌, ℕ, suc, [], ◌∷◌, drop, drop-cons, get_or, refl, sym, ap, ◌∙◌, subst, add-one}
use Rattle.world_model.specs.meaning.Links.{changed, sends}
use Rattle.world_model.specs.meaning.Outside.{closed_by_drain}
use Rattle.world_core.specs.Underway.{AreClosable, all_closed}
use Rattle.world_core.proofs.Draining.{still_closable, one_closed}
use Rattle.world_core.proofs.traffic.Traffic.close.Goals as goal

pub loop-number-preserved : goal.loop-number-preserved
loop-number-preserved c =
    let at = c.loop-number.number-index in
    let numbers = c.args.numbers.now in
    let number = get_or numbers at 0 in
    let rest = drop (suc at) numbers in
    let split : drop at numbers ≡ number ∷ rest = drop-cons numbers at 0 c.loop-number-test.true in
    let next : drop (at + 1) numbers ≡ rest = ap (λ (k : ℕ). drop k numbers) (add-one at) in
    let left : AreClosable c.loop-number.self.connections.all.items (number ∷ rest) = subst (AreClosable c.loop-number.self.connections.all.items) split c.loop-number.invariant.closable in
    record {
      pool = c.loop-number.invariant.pool;
      closable = subst (AreClosable c.send.new.self.all.items) (sym next) (still_closable c.loop-number.self.connections.all.items c.send.new.self.all.items number rest c.in_ok-send.ensures.others left.1.0 left.1.1);
      underway = λ m is.
          let before = c.loop-number.invariant.underway m is in (
            changed (sends m.event (closed_by_drain ∷ [])) before.0 number,
            (
              one_closed c.loop-number.self m before.0 number c.send.new.self before.1.0 (c.in_ok-send.ensures.sent before.0 (closed_by_drain ∷ []) refl before.1.0.links),
              ap (all_closed m.event (changed (sends m.event (closed_by_drain ∷ [])) before.0 number)) next ∙ sym (ap (all_closed m.event before.0) split) ∙ before.1.1,
            ),
          );
    }
