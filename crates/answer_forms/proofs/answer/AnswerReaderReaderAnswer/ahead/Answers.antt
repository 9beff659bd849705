use Rattle.std.proofs.Common.{◌≡◌, ◌∷◌, Ok, ap, ◌∙◌, arith, rules}
use Rattle.json.specs.Token.{Token}
use Rattle.json.specs.Reads.{token_of}
use Rattle.json_form.specs.meaning.Texts.{chosen}
use Rattle.answer_forms.specs.meaning.Answers.{answer_words, answer_of}
use Rattle.answer_forms.proofs.AnswersAhead.{word_begins}
use Rattle.answer_forms.proofs.answer.AnswerReaderReaderAnswer.ahead.Goals as goal

pub returns-in_ok-word-in-String-clause-begins : goal.returns-in_ok-word-in-String-clause-begins
returns-in_ok-word-in-String-clause-begins c =
    let first : c.args.tokens.now ≡ token_of c.in_ok-text.field-0 ∷ c.next.new.self = grind arith in
    let is : c.args.tokens.now ≡ Token.string c.in-String.text.now ∷ c.next.new.self = first ∙ ap (λ k. token_of k ∷ c.next.new.self) c.in-String.is in
    let word : chosen answer_words c.in-String.text.now ≡ Ok c.in_ok-word-in-String.word = search rules in
    let made : c.answer_of.result ≡ answer_of c.in_ok-word-in-String.word = search rules in
    rw (is, made) (word_begins c.args.depth c.in-String.text.now c.next.new.self c.in_ok-word-in-String.word word)

pub returns-in-BeginObject-clause-begins : goal.returns-in-BeginObject-clause-begins
returns-in-BeginObject-clause-begins c =
    let first : c.args.tokens.now ≡ token_of c.in_ok-text.field-0 ∷ c.next.new.self = grind arith in
    let is : c.args.tokens.now ≡ Token.begin_object ∷ c.next.new.self = first ∙ ap (λ k. token_of k ∷ c.next.new.self) c.in-BeginObject.is in
    rw is c.member_ahead.ensures.begins
