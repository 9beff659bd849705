use Rattle.std.proofs.Common.{◌≡◌, Some, subst, codes, arith, rules}
use Rattle.json.specs.Json.{after_end_array}
use Rattle.json_form.specs.Streams.{IsLastItem}
use Rattle.json_form.specs.meaning.Texts.{word_of}
use Rattle.note_forms.specs.meaning.Notes.{just}
use Rattle.note_forms.proofs.NotesAhead.{crash_ends, crash_down}
use Rattle.note_forms.proofs.note_ahead.crash_ahead.Goals as goal

pub returns-then-take_end_array-clause-ends : goal.returns-then-take_end_array-clause-ends
returns-then-take_end_array-clause-ends c =
    let closed : after_end_array c.ahead.new.tokens ≡ Some c.take_end_array.new.self = grind arith in
    crash_ends c.args.depth c.args.tokens.now c.ahead.new.tokens c.take_end_array.new.self c.in_ok-connection.connection (search rules) closed

pub returns-clause-ends : goal.returns-clause-ends
returns-clause-ends c =
    let same : c.take_end_array.new.self ≡ c.ahead.new.tokens = grind arith in
    let last : IsLastItem (word_of (just (codes "down"))) c.args.depth c.ahead.new.tokens c.in_ok-down.down c.last_ahead.new.tokens = subst (λ ts. IsLastItem (word_of (just (codes "down"))) c.args.depth ts c.in_ok-down.down c.last_ahead.new.tokens) same (search rules) in
    crash_down c.args.depth c.args.tokens.now c.ahead.new.tokens c.last_ahead.new.tokens c.in_ok-connection.connection c.in_ok-down.down (search rules) last
