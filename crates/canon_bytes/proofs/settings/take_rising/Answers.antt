use Rattle.std.proofs.Common.{◌≡◌, ◌∷◌, [], ◌-◌, ◌+◌, suc, ℕ, sym, ap, ◌∙◌, arith, length-append}
use Rattle.std.proofs.lemmas.Result.{err_from_is_err_and}
use Rattle.svc_values.proofs.Offered.{AreSettings-last}
use Rattle.canon_bytes.specs.meaning.SettingsBytes.{spell_setting}
use Rattle.canon_bytes.specs.SettingsBytes.{FitsSetting}
use Rattle.canon_bytes.proofs.Loop.{AllByRecursion-push, spelled-push}
use Rattle.canon_bytes.proofs.SettingsLoop.{continued, continued-next, continued-fault, continued-last}
use Rattle.canon_bytes.proofs.settings.take_rising.Goals as goal

pub returns-in_err-name-clause-exact : goal.returns-in_err-name-clause-exact
returns-in_err-name-clause-exact c =
    let p = err_from_is_err_and c.from_residual.result c.from_residual.ensures.1 in
    let one_more : c.args.count - c.loop.counter ≡ suc (c.args.count - (c.loop.counter + 1)) = omega (arith, c.loop-test.true) in
    let i = c.loop.invariant.0 in
    rw (p.1, p.2, ← i, one_more) (continued-fault c.in_err-name.field-0.0 c.loop.settings (c.args.count - (c.loop.counter + 1)) c.loop.rest.now c.in_err-name.ensures.exact)

pub loop-preserved : goal.loop-preserved
loop-preserved c =
    let front = c.loop.settings in
    let name = c.in_ok-name.name in
    let value = c.in_ok-name.value in
    let i = c.loop.invariant in
    let one_more : c.args.count - c.loop.counter ≡ suc (c.args.count - (c.loop.counter + 1)) = omega (arith, c.loop-test.true) in
    let next = continued-next front (c.args.count - (c.loop.counter + 1)) c.loop.rest.now name value c.in_ok-name.after.now c.in_ok-name.ensures.exact in
    rw c.in_ok-put_last.ensures.ok (
      sym next ∙ ap (λ (n : ℕ). continued front n c.loop.rest.now) (sym one_more) ∙ i.0,
      spelled-push spell_setting c.args.bytes.now front (name, value) c.loop.rest.now c.in_ok-name.after.now i.1 c.in_ok-name.ensures.found,
      AllByRecursion-push FitsSetting front (name, value) i.2 c.in_ok-name.ensures.fitting,
      omega (arith, i.3, length-append front ((name, value) ∷ [])),
      omega (arith, c.loop-test.true),
      AreSettings-last front name value i.5 c.in_ok-name.ensures.above,
    )

pub returns-clause-exact : goal.returns-clause-exact
returns-clause-exact c =
    let none : c.args.count - c.loop.counter ≡ 0 = omega (arith, c.loop-test.false) in
    sym c.loop.invariant.0 ∙ ap (λ (n : ℕ). continued c.loop.settings n c.loop.rest.now) none ∙ continued-last c.loop.settings c.loop.rest.now
