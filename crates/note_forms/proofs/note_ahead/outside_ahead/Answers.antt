use Rattle.std.proofs.Common.{◌≡◌, Some, Ok, subst, codes, arith, rules}
use Rattle.json.specs.Json.{after_end_array}
use Rattle.json_form.specs.Streams.{IsLastItem}
use Rattle.serde_json.specs.View.{view}
use Rattle.json_form.specs.meaning.Texts.{word_of}
use Rattle.answer_forms.specs.meaning.Parts.{identifier_in}
use Rattle.note_forms.specs.meaning.Notes.{just, runs_in}
use Rattle.note_forms.proofs.NotesAhead.{outside_ends, outside_runs}
use Rattle.note_forms.proofs.note_ahead.outside_ahead.Goals as goal

pub returns-then-take_end_array-clause-ends : goal.returns-then-take_end_array-clause-ends
returns-then-take_end_array-clause-ends c =
    let closed : after_end_array c.value_from.new.tokens ≡ Some c.take_end_array.new.self = grind arith in
    let down : word_of (just (codes "down")) (view c.in_ok-second.second) ≡ Ok c.in_ok-ok.field-0 = search rules in
    outside_ends c.args.depth c.args.tokens.now c.value_from.new.tokens c.take_end_array.new.self c.in_ok-ok.field-0 (view c.in_ok-second.second) (search rules) closed down

pub returns-clause-ends : goal.returns-clause-ends
returns-clause-ends c =
    let same : c.take_end_array.new.self ≡ c.value_from.new.tokens = grind arith in
    let last : IsLastItem runs_in c.args.depth c.value_from.new.tokens c.in_ok-runs.runs c.last_ahead.new.tokens = subst (λ ts. IsLastItem runs_in c.args.depth ts c.in_ok-runs.runs c.last_ahead.new.tokens) same (search rules) in
    let known : identifier_in (view c.in_ok-second.second) ≡ Ok c.in_ok-ltxid.ltxid = search rules in
    outside_runs c.args.depth c.args.tokens.now c.value_from.new.tokens c.last_ahead.new.tokens c.in_ok-ltxid.ltxid c.in_ok-runs.runs (view c.in_ok-second.second) (search rules) known last
