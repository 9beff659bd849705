use Rattle.call_forms.proofs.statement.ChangeReaderReaderChangeWord.ahead.Goals as goal

pub returns-clause-begins : goal.returns-clause-begins
returns-clause-begins c = c.in_ok-word.ensures.begins c.args._depth
