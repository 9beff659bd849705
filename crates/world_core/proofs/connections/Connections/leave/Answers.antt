use Rattle.std.proofs.Common.{◌+◌, ◌≤◌, ℕ, suc, List, drop, fold, length, refl, sym, ap, ◌∙◌, add-one, arith}
use Rattle.std.specs.Prelude.{if◌then◌else◌}
use Rattle.pool_core.specs.meaning.Slots.{Slots, after_gone}
use Rattle.world_model.specs.meaning.Links.{Link, open_from}
use Rattle.world_core.proofs.Ages.{open_behind}
use Rattle.world_core.proofs.Standing.{same_length}
use Rattle.world_core.proofs.Underway.{rest_at, leave_one, none_left}
use Rattle.world_core.proofs.connections.Connections.leave.Goals as goal

pub loop-at-init : goal.loop-at-init
loop-at-init c = λ links stands. ap (λ (numbers : List ℕ). fold after_gone c.args.pool.now numbers) (sym (open_behind c.args.self.now.fallen 1 links stands.fallen))

pub loop-at-preserved : goal.loop-at-preserved
loop-at-preserved c = λ links stands.
    let at = c.loop-at.at in
    let number = at + 1 in
    let there = rest_at c.args.self.now.all.items links at c.index.result.now stands.are (omega (arith, c.loop-at-test.true, c.len-at-end.ensures)) c.index.ensures in
    ap (λ (pool : Slots). fold after_gone pool (open_from (number + 1) (drop number links))) (c.leave.ensures there.0 there.2)
    ∙ ap (λ (n : ℕ). fold after_gone (if there.0.is_open then after_gone c.loop-at.pool number else c.loop-at.pool) (open_from (number + 1) (drop n links))) (add-one at)
    ∙ leave_one c.loop-at.pool number there.0.is_open there.0 (drop (suc at) links) refl
    ∙ ap (λ (rest : List Link). fold after_gone c.loop-at.pool (open_from number rest)) (sym there.1)
    ∙ c.loop-at.invariant links stands

pub returns : goal.returns
returns c = λ links stands.
    let within : length links ≤ c.loop-at.at = omega (arith, same_length c.args.self.now.all.items links stands.are, c.len-at-end.ensures, c.loop-at-test.false) in
    ap (λ (rest : List Link). fold after_gone c.loop-at.pool (open_from (c.loop-at.at + 1) rest)) (sym (none_left links c.loop-at.at within)) ∙ c.loop-at.invariant links stands
