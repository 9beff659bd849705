use Rattle.std.proofs.Common.{ℕ, ◌+◌, List, [], Bor, map, drop, sym, ◌∙◌}
use Rattle.std.proofs.lemmas.List.{at_drop_more}
use Rattle.json_form.specs.declared.fault.DocCode.TheVariants.{Missing}
use Rattle.json_form.specs.Objects.{members_at}
use Rattle.json_form.specs.meaning.Objects.{all_there}
use Rattle.json_form.proofs.Failures.{Fails-under}
use Rattle.json_form.proofs.There.{there_step, there_stop}
use Rattle.json_form.proofs.object.Members.require.Goals as goal

pub loop-name-preserved : goal.loop-name-preserved
loop-name-preserved c =
    let names = c.args.names.now in
    let ms = members_at c.args.self.now in
    let next = at_drop_more (λ (rest : List (Bor (List ℕ))). all_there (map (λ n. n.now) rest) ms) names c.loop-name.name-index _ c.loop-name-test.true in
    let there = sym c.has.ensures ∙ c.if-not-has.false in
    sym (next ∙ there_step _ (map (λ n. n.now) (drop (c.loop-name.name-index + 1) names)) ms there) ∙ c.loop-name.invariant

pub returns-then-not-has : goal.returns-then-not-has
returns-then-not-has c =
    let names = c.args.names.now in
    let ms = members_at c.args.self.now in
    let next = at_drop_more (λ (rest : List (Bor (List ℕ))). all_there (map (λ n. n.now) rest) ms) names c.loop-name.name-index _ c.loop-name-test.true in
    let gone = sym c.has.ensures ∙ c.if-not-has.true in
    Fails-under _ Missing [] c.at_member.result _ c.at_member.ensures
    (sym c.loop-name.invariant ∙ next ∙ there_stop _ (map (λ n. n.now) (drop (c.loop-name.name-index + 1) names)) ms gone)
