use Rattle.std.proofs.Common.{◌≡◌, length, ap, sym, ◌∙◌, arith, refl}
use Rattle.std.specs.Option.{option_copied}
use Rattle.std.specs.Prelude.{slice_get, None}
use Rattle.std.proofs.lemmas.Result.{err_from_is_err_and}
use Rattle.svc_values.specs.meaning.Calls.{operands_of}
use Rattle.stmt_meaning.proofs.Values.{begins, goes_on, fails, lacks, all_read}
use Rattle.stmt_meaning.proofs.reading.values_of.Goals as goal

pub loop-operand-init : goal.loop-operand-init
loop-operand-init g c = record {
  so_far = begins g.F.DrawFrom.drew (g.F.DrawFrom.names c.args.source.now) c.args.settings.now (operands_of c.args.statement.now) c.args.source.now c.args.drawn.now.items c.new-values.result.items c.args.source.now c.args.drawn.now.items c.new-values.ensures.items refl refl;
  few = omega arith;
  names = refl;
  ready = c.requires;
}

pub returns-in_err-value_of-clause-read : goal.returns-in_err-value_of-clause-read
returns-in_err-value_of-clause-read g c =
    let p = err_from_is_err_and c.from_residual.result c.from_residual.ensures.1 in
    let values = c.loop-operand.values.items in
    let operands = operands_of c.args.statement.now in
    let n : c.len.result ≡ length values = omega (arith, c.loop-operand.values.ok.0) in
    let here = sym (ap (slice_get operands) n) ∙ sym c.in-Some.ensures.operand in
    rw (p.1, p.2) (fails g.F.DrawFrom.drew (g.F.DrawFrom.names c.args.source.now) c.args.settings.now operands c.args.source.now c.args.drawn.now.items values c.loop-operand.source c.loop-operand.drawn.items c.loop-operand.invariant.so_far
    c.in-Some.operand.now here (g.F.DrawFrom.names c.loop-operand.source) c.loop-operand.invariant.names c.value_of.new.source c.value_of.new.drawn.items c.in_err-value_of.field-0.0 c.in_err-value_of.ensures.read)

pub loop-operand-preserved : goal.loop-operand-preserved
loop-operand-preserved g c =
    let values = c.loop-operand.values.items in
    let operands = operands_of c.args.statement.now in
    let n : c.len.result ≡ length values = omega (arith, c.loop-operand.values.ok.0) in
    let here = sym (ap (slice_get operands) n) ∙ sym c.in-Some.ensures.operand in
    record {
      so_far = goes_on g.F.DrawFrom.drew (g.F.DrawFrom.names c.args.source.now) c.args.settings.now operands c.args.source.now c.args.drawn.now.items values c.loop-operand.source c.loop-operand.drawn.items c.loop-operand.invariant.so_far
          c.in-Some.operand.now here (g.F.DrawFrom.names c.loop-operand.source) c.loop-operand.invariant.names c.value_of.new.source c.value_of.new.drawn.items c.in_ok-value_of.field-0 c.push.new.self.items c.in_ok-push.ensures.items c.in_ok-value_of.ensures.read;
      few = omega (arith, c.in-Some.ensures.within refl, c.in_ok-push.ensures.len);
      names = c.in_ok-value_of.ensures.names ∙ c.loop-operand.invariant.names;
      ready = c.in_ok-value_of.ensures.ready;
    }

pub returns-in_err-push-clause-read : goal.returns-in_err-push-clause-read
returns-in_err-push-clause-read g c =
    let p = err_from_is_err_and c.from_residual-in_err-push.result c.from_residual-in_err-push.ensures.1 in
    let values = c.loop-operand.values.items in
    let operands = operands_of c.args.statement.now in
    let n : c.len.result ≡ length values = omega (arith, c.loop-operand.values.ok.0) in
    let here = sym (ap (slice_get operands) n) ∙ sym c.in-Some.ensures.operand in
    rw (p.1, p.2) (lacks g.F.DrawFrom.drew (g.F.DrawFrom.names c.args.source.now) c.args.settings.now operands c.args.source.now c.args.drawn.now.items values c.loop-operand.source c.loop-operand.drawn.items c.loop-operand.invariant.so_far
    c.in-Some.operand.now here (g.F.DrawFrom.names c.loop-operand.source) c.loop-operand.invariant.names c.value_of.new.source c.value_of.new.drawn.items c.in_ok-value_of.field-0 c.in_ok-value_of.ensures.read)

pub returns-clause-read : goal.returns-clause-read
returns-clause-read g c =
    let values = c.loop-operand.values.items in
    let operands = operands_of c.args.statement.now in
    let n : c.len.result ≡ length values = omega (arith, c.loop-operand.values.ok.0) in
    let none = ap option_copied c.in_default.is in
    let past : slice_get operands (length values) ≡ None = sym (ap (slice_get operands) n) ∙ sym c.operand_at.ensures.operand ∙ none in
    rw c.from_vec.ensures (all_read g.F.DrawFrom.drew (g.F.DrawFrom.names c.args.source.now) c.args.settings.now operands c.args.source.now c.args.drawn.now.items values c.loop-operand.source c.loop-operand.drawn.items c.loop-operand.invariant.so_far past)
