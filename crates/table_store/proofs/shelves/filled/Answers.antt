use Rattle.std.proofs.Common.{rules, ◌≡◌, [], ◌∷◌, ◌++◌, ap, sym, subst, ◌∙◌}
use Rattle.std.proofs.lemmas.List.{append-nil, nil_from_length}
use Rattle.svc_values.specs.meaning.Tables.{in_order}
use Rattle.table_store.specs.Given.{plain, plain_given}
use Rattle.table_store.specs.Stored.{AreApart}
use Rattle.table_store.proofs.Filled.{none_yet, table_more, filled_with, split_next}
use Rattle.table_store.proofs.shelves.filled.Goals as goal

pub loop-one-init : goal.loop-one-init
loop-one-init c = ([], (ap plain c.into_iter-one-iterator.ensures.into_iter_gives.0, none_yet c.new-shelves.result.entries c.new-shelves.ensures.empty))

pub loop-one-preserved : goal.loop-one-preserved
loop-one-preserved c =
    let so_far = c.loop-one.invariant in
    let before = so_far.0 in
    let one = c.in-Some.one in
    let rest = c.next.new.self.rest.items in
    let next : c.loop-one.one-iterator.rest.items ≡ one ∷ rest = search rules in
    let given = plain_given one.table one.rows.items in
    let split = split_next before (plain c.args.tables.items) c.loop-one.one-iterator.rest.items rest one so_far.1.0 next in (
      before ++ given,
      (
        split,
        (
          c.in_ok-put_all.ensures.shelved,
          table_more c.loop-one.shelves.entries c.put_all.new.shelves.entries one.table one.rows.items before (plain rest)
              (subst AreApart (sym (so_far.1.0) ∙ ap (λ l. before ++ plain l) next) c.requires) c.in_ok-put_all.ensures.ok so_far.1.1.1,
        ),
      ),
    )

pub returns-clause-rows : goal.returns-clause-rows
returns-clause-rows c =
    let so_far = c.loop-one.invariant in
    let left = c.loop-one.one-iterator.rest in
    let none : left.items ≡ [] = nil_from_length left.items (sym left.ok.0 ∙ c.in-None.ensures.steps.0) in
    let all : so_far.0 ≡ plain c.args.tables.items = sym (append-nil so_far.0) ∙ ap (λ l. so_far.0 ++ plain l) (sym none) ∙ so_far.1.0 in
    filled_with c.loop-one.shelves.entries so_far.0 so_far.1.1.0 (subst AreApart (sym all) c.requires) so_far.1.1.1 ∙ ap in_order all
