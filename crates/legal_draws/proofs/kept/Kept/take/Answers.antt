use Rattle.std.proofs.Common.{◌≡◌, ℕ, Bor, List, get_or, ap, ap₂, sym, ◌∙◌}
use Rattle.std.specs.Prelude.{Option, Some, None, position, remove}
use Rattle.std.specs.Option.{option_copied}
use Rattle.svc_values.specs.declared.draw.Draw.{Draw}
use Rattle.server_model.specs.meaning.NewValues.{Kept, New, left_by, of_one_kind, origin_of}
use Rattle.legal_draws.specs.Origins.{origin_with}
use Rattle.legal_draws.proofs.Firsts.{draws_at, origin_none, origin_some}
use Rattle.legal_draws.proofs.kept.Kept.take.Goals as goal

-- where the draws behind a reference are the kept ones, and none of them is of the kind
new_by : (given : Draw) (kept : List Draw) (draws seen : List (Bor Draw)) → draws_at draws ≡ kept → seen ≡ draws → None ≡ position (λ (one : Bor Draw). of_one_kind one.now given) seen → origin_of given kept ≡ New
new_by given kept draws seen view same none =
    ap (origin_of given) (sym view)
    ∙ origin_none given draws (ap (position (λ (one : Bor Draw). of_one_kind one.now given)) (sym same) ∙ sym none)

-- and where this one is the first
kept_by : (given : Draw) (kept : List Draw) (draws seen left : List (Bor Draw)) (i : ℕ) (first : Bor Draw) → draws_at draws ≡ kept → seen ≡ draws → Some i ≡ position (λ (one : Bor Draw). of_one_kind one.now given) seen
    → first ≡ get_or draws i first → left ≡ remove draws i → origin_of given kept ≡ Kept first.now (draws_at left)
kept_by given kept draws seen left i first view same some item rest =
    ap (origin_of given) (sym view)
    ∙ origin_some given draws i first (ap (position (λ (one : Bor Draw). of_one_kind one.now given)) (sym same) ∙ sym some)
    ∙ ap₂ Kept (ap (λ (one : Bor Draw). one.now) (sym item)) (ap draws_at (sym rest))

pub returns-in_err-at-clause-taken : goal.returns-in_err-at-clause-taken
returns-in_err-at-clause-taken c =
    new_by c.args.given.now c.args.self.now c.self.inside.draws.items c.as_slice.result.now c.self.view_is c.as_slice.ensures.value c.in_err-at.ensures.place
    ∙ sym (ap (λ (first : Option (Bor Draw)). origin_with (option_copied first) c.args.self.now) c.from_residual.ensures)

pub returns-in_err-at-clause-left : goal.returns-in_err-at-clause-left
returns-in_err-at-clause-left c =
    sym (ap (λ origin. left_by origin c.args.self.now) (new_by c.args.given.now c.args.self.now c.self.inside.draws.items c.as_slice.result.now c.self.view_is c.as_slice.ensures.value c.in_err-at.ensures.place))

pub returns-clause-taken : goal.returns-clause-taken
returns-clause-taken c =
    kept_by c.args.given.now c.args.self.now c.self.inside.draws.items c.as_slice.result.now c.remove.new.self.items c.in_ok-at.at c.remove.result c.self.view_is c.as_slice.ensures.value c.in_ok-at.ensures.place
    c.remove.ensures.value c.remove.ensures.items

pub returns-clause-left : goal.returns-clause-left
returns-clause-left c =
    sym (ap (λ origin. left_by origin c.args.self.now)
    (kept_by c.args.given.now c.args.self.now c.self.inside.draws.items c.as_slice.result.now c.remove.new.self.items c.in_ok-at.at c.remove.result c.self.view_is c.as_slice.ensures.value c.in_ok-at.ensures.place
    c.remove.ensures.value c.remove.ensures.items))
