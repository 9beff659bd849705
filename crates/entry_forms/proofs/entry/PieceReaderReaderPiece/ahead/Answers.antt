use Rattle.std.proofs.Common.{rules}
use Rattle.answer_forms.specs.meaning.Parts.{call_in}
use Rattle.answer_forms.specs.meaning.Answers.{answers_in}
use Rattle.answer_forms.specs.meaning.Draws.{draws_in}
use Rattle.entry_forms.specs.meaning.Entries.{piece_in}
use Rattle.answer_forms.proofs.Offered.{three_joined}
use Rattle.entry_forms.proofs.entry.PieceReaderReaderPiece.ahead.Goals as goal

pub returns-clause-begins : goal.returns-clause-begins
unfolding piece_in
returns-clause-begins c = three_joined call_in answers_in draws_in (λ call answers draws. record { call = call; answers = answers; draws = draws }) c.args.depth c.in_ok-inside.inside c.args.tokens.now c.array_begins.new.tokens c.ahead.new.tokens c.ahead-2.new.tokens c.last_ahead.new.tokens c.in_ok-call.call c.in_ok-answers.answers c.in_ok-draws.draws c.in_ok-inside.ensures.array (search rules) (search rules) (search rules)
