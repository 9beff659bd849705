use Rattle.std.proofs.Common.{◌≡◌, Some, Ok, subst, codes, arith, rules}
use Rattle.json.specs.Json.{after_end_array}
use Rattle.json_form.specs.Streams.{IsLastItem}
use Rattle.serde_json.specs.View.{view}
use Rattle.json_form.specs.meaning.Texts.{word_of}
use Rattle.answer_forms.specs.meaning.Parts.{number_in}
use Rattle.note_forms.specs.meaning.Notes.{just}
use Rattle.note_forms.proofs.NotesAhead.{cut_ends, cut_reached}
use Rattle.note_forms.proofs.note_ahead.cut_ahead.Goals as goal

pub returns-then-take_end_array-clause-ends : goal.returns-then-take_end_array-clause-ends
returns-then-take_end_array-clause-ends c =
    let closed : after_end_array c.value_from.new.tokens ≡ Some c.take_end_array.new.self = grind arith in
    let none : word_of (just (codes "none")) (view c.in_ok-third.third) ≡ Ok c.in_ok-ok.field-0 = search rules in
    cut_ends c.args.depth c.args.tokens.now c.ahead.new.tokens c.value_from.new.tokens c.take_end_array.new.self c.in_ok-connection.connection c.in_ok-ok.field-0 (view c.in_ok-third.third) (search rules) (search rules) closed none

pub returns-clause-ends : goal.returns-clause-ends
returns-clause-ends c =
    let same : c.take_end_array.new.self ≡ c.value_from.new.tokens = grind arith in
    let last : IsLastItem number_in c.args.depth c.value_from.new.tokens c.in_ok-down.down c.last_ahead.new.tokens = subst (λ ts. IsLastItem number_in c.args.depth ts c.in_ok-down.down c.last_ahead.new.tokens) same (search rules) in
    let up : number_in (view c.in_ok-third.third) ≡ Ok c.in_ok-up.up = search rules in
    cut_reached c.args.depth c.args.tokens.now c.ahead.new.tokens c.value_from.new.tokens c.last_ahead.new.tokens c.in_ok-connection.connection c.in_ok-up.up c.in_ok-down.down (view c.in_ok-third.third) (search rules) (search rules) up last
