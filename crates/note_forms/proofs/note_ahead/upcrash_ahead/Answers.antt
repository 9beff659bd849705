use Rattle.std.proofs.Common.{◌≡◌, false, Some, Ok, subst, codes, arith, rules}
use Rattle.json.specs.Json.{after_end_array}
use Rattle.serde_json.specs.Data.{Data, Items, no_items, item, array}
use Rattle.outage_schedule.specs.declared.note.Note.TheVariants as note
use Rattle.json_form.specs.Streams.{IsLastItem}
use Rattle.json_form.specs.meaning.Texts.{word_of}
use Rattle.json_form.proofs.Offered.{bracket_ahead}
use Rattle.note_forms.specs.meaning.Notes.{just, upcrash_in}
use Rattle.note_forms.proofs.NotesAhead.{last_one, upcrash_bare, upcrash_none}
use Rattle.note_forms.proofs.note_ahead.upcrash_ahead.Goals as goal

pub returns-then-take_end_array-clause-ends : goal.returns-then-take_end_array-clause-ends
returns-then-take_end_array-clause-ends c =
    let closed : after_end_array c.args.tokens.now ≡ Some c.take_end_array.new.self = grind arith in
    (no_items, bracket_ahead c.args.depth c.args.tokens.now c.take_end_array.new.self closed, upcrash_bare)

pub returns-clause-ends : goal.returns-clause-ends
returns-clause-ends c =
    let same : c.take_end_array.new.self ≡ c.args.tokens.now = grind arith in
    let last : IsLastItem (word_of (just (codes "none"))) c.args.depth c.args.tokens.now c.in_ok-last_ahead.field-0 c.last_ahead.new.tokens = subst (λ ts. IsLastItem (word_of (just (codes "none"))) c.args.depth ts c.in_ok-last_ahead.field-0 c.last_ahead.new.tokens) same (search rules) in
    last_one (λ (ds : Items). (word : Data) → upcrash_in (array (item word ds)) ≡ Ok (note.UpCrash false)) (word_of (just (codes "none"))) c.args.depth c.args.tokens.now c.last_ahead.new.tokens c.in_ok-last_ahead.field-0 (λ d h word. upcrash_none word d c.in_ok-last_ahead.field-0 h) last
