use Rattle.std.proofs.Common.{rules}
use Rattle.answer_forms.specs.meaning.Parts.{number_in, identifier_in}
use Rattle.answer_forms.proofs.ArraysAhead.{three_joined}
use Rattle.answer_forms.proofs.part.LtxidReaderReaderLtxid.ahead.Goals as goal

pub returns-clause-begins : goal.returns-clause-begins
unfolding identifier_in
returns-clause-begins c = three_joined number_in number_in number_in (λ incarnation session number. record { incarnation = incarnation; session = session; number = number }) c.args.depth c.in_ok-inside.inside c.args.tokens.now c.array_begins.new.tokens c.ahead.new.tokens c.ahead-2.new.tokens c.last_ahead.new.tokens c.in_ok-incarnation.incarnation c.in_ok-session.session c.in_ok-number.number c.in_ok-inside.ensures.array (search rules) (search rules) (search rules)
