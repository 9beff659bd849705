use Rattle.std.proofs.Common.{◌∙◌, ◌&&◌, ◌+◌, ◌<◌, length, sym, ap, drop, arith}
use Rattle.svc_values.specs.meaning.Same.{same_call, same_calls}
use Rattle.entry_check.proofs.Compared.{other_is, same_is}
use Rattle.entry_check.proofs.Pieces.{calls_of, calls_on}
use Rattle.entry_check.proofs.known.has_calls.Goals as goal

pub returns-then-ne : goal.returns-then-ne
returns-then-ne c =
    let pieces = c.args.pieces.now in
    let calls = c.args.calls.now in
    let i = c.loop-at.at in
    let piece = c.index-pieces-at.result in
    let call = c.index-calls-at.result in
    let within : i < length calls = omega arith in
    let other = other_is piece.call call _ same_call c.tests_equality.ensures.calls (sym c.ne.ensures ∙ c.if-ne.true) in
    sym (calls_on pieces calls i piece call c.loop-at-test.true c.index-pieces-at.is within c.index-calls-at.is
    ∙ ap (λ b. b && same_calls (calls_of (drop (i + 1) pieces)) (drop (i + 1) calls)) other)
    ∙ c.loop-at.invariant

pub loop-at-preserved : goal.loop-at-preserved
loop-at-preserved c =
    let pieces = c.args.pieces.now in
    let calls = c.args.calls.now in
    let i = c.loop-at.at in
    let piece = c.index-pieces-at.result in
    let call = c.index-calls-at.result in
    let within : i < length calls = omega arith in
    let same = same_is piece.call call _ same_call c.tests_equality.ensures.calls (sym c.ne.ensures ∙ c.if-ne.false) in
    sym (calls_on pieces calls i piece call c.loop-at-test.true c.index-pieces-at.is within c.index-calls-at.is
    ∙ ap (λ b. b && same_calls (calls_of (drop (i + 1) pieces)) (drop (i + 1) calls)) same)
    ∙ c.loop-at.invariant
