use Rattle.std.proofs.Common.{Some, sym, ap, subst, ◌∙◌, cond}
use Rattle.table_txn.specs.Knowing.{is_known}
use Rattle.table_txn.specs.Readings.{first_changed, AreApart, StandWhere}
use Rattle.table_txn.specs.Found.{readings_of, are_for}
use Rattle.table_txn.proofs.FoundLaws.{EachStood, changed_here, first_fits, rest_fits, entries_apart, each_stood}
use Rattle.table_txn.proofs.readings.Readings.first_changed.Goals as goal

pub loop-at-init : goal.loop-at-init
loop-at-init c =
    let rows = c.args.tables.now.rows in
    let gives = c.into_iter-at-iterator.ensures.into_iter_gives in
    record {
      rest = ap (λ l. first_changed rows (readings_of l)) gives.0 ∙ ap (first_changed rows) c.self.view_is;
      are_for = ap are_for gives.0 ∙ c.self.invariant;
      stood = subst (EachStood (is_known c.args.known) rows) (sym gives.0)
          (each_stood (is_known c.args.known) rows c.self.inside.places.entries gives.6 (subst (StandWhere (is_known c.args.known) rows) (sym c.self.view_is) c.requires));
    }

pub has_changed_at-requires : goal.has_changed_at-requires
has_changed_at-requires c = record {
  kind = first_fits c.loop-at.at-iterator c.next.new.self c.in-Some.at.now c.in-Some.there.now c.in-Some.ensures.steps c.loop-at.invariant.are_for;
  stands = (subst (EachStood (is_known c.args.known) c.args.tables.now.rows) c.in-Some.ensures.steps c.loop-at.invariant.stood).0;
}

pub returns-then-has_changed_at-clause-first : goal.returns-then-has_changed_at-clause-first
returns-then-has_changed_at-clause-first c =
    let rows = c.args.tables.now.rows in
    let step = changed_here rows c.loop-at.at-iterator c.next.new.self c.in-Some.at.now c.in-Some.there.now c.in-Some.ensures.steps c.has_changed_at.result c.has_changed_at.ensures in
    sym (sym c.loop-at.invariant.rest ∙ step ∙ ap (λ b. cond b (Some c.in-Some.at.now) (first_changed rows (readings_of c.next.new.self))) c.if-has_changed_at.true)

pub loop-at-preserved : goal.loop-at-preserved
loop-at-preserved c =
    let rows = c.args.tables.now.rows in
    let step = changed_here rows c.loop-at.at-iterator c.next.new.self c.in-Some.at.now c.in-Some.there.now c.in-Some.ensures.steps c.has_changed_at.result c.has_changed_at.ensures in
    record {
      rest = sym (step ∙ ap (λ b. cond b (Some c.in-Some.at.now) (first_changed rows (readings_of c.next.new.self))) c.if-has_changed_at.false) ∙ c.loop-at.invariant.rest;
      are_for = rest_fits c.loop-at.at-iterator c.next.new.self c.in-Some.at.now c.in-Some.there.now c.in-Some.ensures.steps c.loop-at.invariant.are_for;
      stood = (subst (EachStood (is_known c.args.known) c.args.tables.now.rows) c.in-Some.ensures.steps c.loop-at.invariant.stood).1;
    }

pub returns-then-has_changed_at-clause-apart : goal.returns-then-has_changed_at-clause-apart
returns-then-has_changed_at-clause-apart c = subst AreApart c.self.view_is (entries_apart c.self.inside.places.entries c.into_iter-at-iterator.ensures.into_iter_gives.6)

pub returns-clause-apart : goal.returns-clause-apart
returns-clause-apart c = subst AreApart c.self.view_is (entries_apart c.self.inside.places.entries c.into_iter-at-iterator.ensures.into_iter_gives.6)
