use Rattle.std.proofs.Common.{refl, sym, ap, subst, ◌∙◌}
use Rattle.std.specs.Prelude.{IsTrue}
use Rattle.redo_store.specs.Records.{record_count}
use Rattle.redo_store.specs.Store.{IsStore}
use Rattle.redo_store.proofs.Walking.{walk_ended}
use Rattle.redo_store.proofs.walk.Walk.finish.Goals as goal

pub returns-clause-ready : goal.returns-clause-ready
returns-clause-ready c disk done read all settled = record {
  live = subst (λ b. IsTrue b) (sym c.behind.ensures.live) refl;
  store = subst (λ n. IsStore n disk.now.seen) (sym c.behind.ensures.tail) (walk_ended disk.now.seen c.args.self.place done read.stands all);
  counted = c.behind.ensures.count ∙ read.counted ∙ sym (ap record_count all);
  settled = settled;
}
