use Rattle.std.proofs.lemmas.Result.{err_from_is_err_and}
use Rattle.stmt_meaning.specs.meaning.Operands.{wanted, value_of}
use Rattle.stmt_meaning.proofs.Asking.{enough_taken}
use Rattle.stmt_meaning.proofs.Drawn.{lacking_at_once}
use Rattle.stmt_meaning.proofs.reading.value_of.Goals as goal

pub returns-in_err-copy-in-Lit-clause-read : goal.returns-in_err-copy-in-Lit-clause-read
returns-in_err-copy-in-Lit-clause-read g c =
    let p = err_from_is_err_and c.from_residual.result c.from_residual.ensures.1 in
    let names = g.F.DrawFrom.names c.args.source.now in
    rw (p.1, p.2) (lacking_at_once g.F.DrawFrom.drew (λ given. value_of names c.args.settings.now c.args.operand.now given) c.args.source.now (enough_taken (wanted names c.args.settings.now c.args.operand.now)))

pub returns-in_err-copy-in-Some-clause-read : goal.returns-in_err-copy-in-Some-clause-read
returns-in_err-copy-in-Some-clause-read g c =
    let p = err_from_is_err_and c.from_residual-in_err-copy-in-Some.result c.from_residual-in_err-copy-in-Some.ensures.1 in
    let names = g.F.DrawFrom.names c.args.source.now in
    rw (p.1, p.2) (lacking_at_once g.F.DrawFrom.drew (λ given. value_of names c.args.settings.now c.args.operand.now given) c.args.source.now (enough_taken (wanted names c.args.settings.now c.args.operand.now)))
