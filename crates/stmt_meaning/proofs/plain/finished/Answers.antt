use Rattle.std.proofs.Common.{◌≡◌, Bool, arith, length, subst}
use Rattle.stmt_meaning.specs.InnerAnswers.{DidAll}
use Rattle.stmt_meaning.proofs.Working.{work_refused, work_done}
use Rattle.stmt_meaning.proofs.plain.finished.Goals as goal

pub returns-then-is_refused : goal.returns-then-is_refused
returns-then-is_refused c all draws did =
    let w = c.args.worked in
    let used : c.len-used.result ≡ length w.drawn.items = omega (arith, w.drawn.ok.0) in
    work_refused c.args.tables.now c.args.settings.now c.args.commit all draws w.answers.items w.rows.items (length w.drawn.items) (subst (λ (b : Bool). DidAll all c.args.tables.now draws w.answers.items w.rows.items (length w.drawn.items) b) c.if-is_refused.true did) _ c.from_vec.ensures c.in_ok-copy.ensures c.in_ok-settings.ensures used

pub returns : goal.returns
returns c all draws did =
    let w = c.args.worked in
    let used : c.len-used.result ≡ length w.drawn.items = omega (arith, w.drawn.ok.0) in
    work_done c.args.tables.now c.args.settings.now c.args.commit all draws w.answers.items w.rows.items (length w.drawn.items) (subst (λ (b : Bool). DidAll all c.args.tables.now draws w.answers.items w.rows.items (length w.drawn.items) b) c.if-is_refused.false did) _ c.in_ok-with_commit.ensures c.from_vec-2.ensures c.in_ok-settings.ensures used
