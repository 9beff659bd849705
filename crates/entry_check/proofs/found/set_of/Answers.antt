use Rattle.std.proofs.Common.{◌+◌, List, drop, sym, ap, ◌∙◌}
use Rattle.svc_values.specs.declared.entry.Ltxid.{Ltxid}
use Rattle.run_clauses.specs.meaning.Tried.{holds}
use Rattle.entry_check.specs.Ids.{ids_in}
use Rattle.entry_check.proofs.Sets.{differ_from, differ_on, differ_at_first}
use Rattle.entry_check.proofs.Gathered.{first_left, met_more}
use Rattle.entry_check.proofs.found.set_of.Goals as goal

pub loop-one-init : goal.loop-one-init
loop-one-init c = record {
  rest = ap (λ (ids : List Ltxid). differ_from (holds ids) (ids_in c.args.all.now)) c.new-ids.ensures ∙ differ_at_first (ids_in c.args.all.now);
  met = λ x. ap (λ (ids : List Ltxid). holds ids x) c.new-ids.ensures;
}

pub loop-one-preserved : goal.loop-one-preserved
loop-one-preserved c =
    let all = c.args.all.now in
    let i = c.loop-one.one-index in
    let rest = ids_in (drop (i + 1) all) in
    let old = c.loop-one.ids in
    let added = c.in_ok-add.ensures.held in
    record {
      rest = sym (differ_on old c.add.new.self _ rest (sym c.has.ensures.held ∙ c.if-has.false) added)
          ∙ ap (differ_from (holds old)) (sym (first_left all i _ c.loop-one-test.true))
          ∙ c.loop-one.invariant.rest;
      met = met_more all i _ old c.add.new.self c.loop-one-test.true added c.loop-one.invariant.met;
    }
