use Rattle.std.proofs.Common.{rules}
use Rattle.answer_forms.specs.meaning.Parts.{identifier_in}
use Rattle.answer_forms.specs.meaning.Answers.{answers_in}
use Rattle.answer_forms.specs.meaning.Draws.{draws_in}
use Rattle.entry_forms.specs.meaning.Requests.{shown_in}
use Rattle.answer_forms.proofs.Offered.{three_joined}
use Rattle.entry_forms.proofs.request.ShownReaderReaderShownCall.ahead.Goals as goal

pub returns-clause-begins : goal.returns-clause-begins
unfolding shown_in
returns-clause-begins c = three_joined answers_in draws_in identifier_in (λ answers draws x. record { answers = answers; draws = draws; ltxid = x }) c.args.depth c.in_ok-inside.inside c.args.tokens.now c.array_begins.new.tokens c.ahead.new.tokens c.ahead-2.new.tokens c.last_ahead.new.tokens c.in_ok-answers.answers c.in_ok-draws.draws c.in_ok-ltxid.ltxid c.in_ok-inside.ensures.array (search rules) (search rules) (search rules)
