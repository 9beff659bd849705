use Rattle.call_forms.proofs.statement.TestReaderReaderTest.ahead.Goals as goal

pub returns-clause-begins : goal.returns-clause-begins
returns-clause-begins c = c.in_ok-test.ensures.begins c.args._depth
