use Rattle.std.proofs.Common.{◌∙◌, ◌++◌, List, map, ap, sym, append-nil, arith}
use Rattle.std.proofs.lemmas.List.{map-append}
use Rattle.shown_clauses.specs.meaning.Showings.{Shown}
use Rattle.whole_check.specs.declared.shown.ShownAt.{ShownAt}
use Rattle.whole_check.specs.Views.{shown_as}
use Rattle.whole_check.proofs.TriedLists.{shown_from, shown_first, shown_next, shown_over, next_over}
use Rattle.whole_check.proofs.shown.shown_by.Goals as goal

pub loop-at-init : goal.loop-at-init
loop-at-init c =
    let replies = map (λ one. one.now) c.args.showings.now in
    record {
      rest = ap (λ (all : List ShownAt). map shown_as all ++ shown_from c.args.script.now c.as_slice-lists.result.now c.as_slice-calls.result.now replies 0 0) c.new-all.ensures.items
          ∙ shown_first c.args.script.now c.args.copy.now replies _ _ c.as_slice-lists.ensures c.as_slice-calls.ensures;
      within = omega arith;
    }

pub loop-at-preserved : goal.loop-at-preserved
loop-at-preserved c =
    let script = c.args.script.now in
    let lists = c.as_slice-lists.result.now in
    let calls = c.as_slice-calls.result.now in
    let call = c.in-Some.call.now in
    let there = c.in-Some.ensures.lookup.3 in
    let one = c.in-Some-get.showing.now in
    let among = c.in-Some-get.ensures.lookup.3 in
    let shown = c.index-calls-at.result in
    let all = c.loop-at.all.items in
    record {
      rest = shown_next (λ one. one.now) script lists calls c.args.showings.now c.loop-at.over c.over_behind-over.result c.loop-at.at call shown one c.list_at-tried.result.now
          (map shown_as all) (map shown_as c.push.new.self.items) _ c.loop-at-test.true c.index-calls-at.is there.0 (there.1 call) among.0 (among.1 one)
          c.list_at-tried.ensures c.over_behind-over.ensures (ap (map shown_as) c.in_ok-push.ensures.items ∙ map-append shown_as all _) c.loop-at.invariant.rest;
      within = next_over shown c.loop-at.over c.over_behind-over.result c.loop-at.at c.loop-at.invariant.within c.over_behind-over.ensures;
    }

pub returns : goal.returns
returns c =
    let replies = map (λ one. one.now) c.args.showings.now in
    sym (append-nil (map shown_as c.loop-at.all.items))
    ∙ (ap (λ (rest : List Shown). map shown_as c.loop-at.all.items ++ rest) (sym (shown_over c.args.script.now c.as_slice-lists.result.now c.as_slice-calls.result.now replies c.loop-at.over c.loop-at.at c.loop-at-test.false))
    ∙ c.loop-at.invariant.rest)
