use Rattle.std.proofs.Common.{sym, ap, ◌∙◌}
use Rattle.svc_values.specs.meaning.Endings.{ends_committed}
use Rattle.legal_walk.proofs.Trying.{fails_through, is_false}
use Rattle.legal_walk.proofs.attempt.AttemptTrial.fails_behind.Goals as goal

pub returns-in-Some : goal.returns-in-Some
returns-in-Some c = λ refused.
    let attempt = c.args.self.now in
    let answers = c.in-Some.answers in
    fails_through attempt.tables.now attempt.names.now attempt.going.now attempt.call.now c.args.draws.now c.in_ok-whole.whole c.in_ok-going.going c.run.new.self c.in_ok-answers.field-0 answers
    c.in_ok-going.ensures
    c.in-Some.is
    c.in_ok-answers.ensures
    (sym (c.ends_committed.ensures ∙ ap ends_committed c.as_slice.ensures) ∙ is_false c.ends_committed.result refused)
