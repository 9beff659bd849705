use Rattle.std.proofs.Common.{◌≡◌, Ok, codes, sym, ap, ◌∙◌, rules}
use Rattle.serde_json.specs.Data.{array, string}
use Rattle.serde_json.specs.View.{view}
use Rattle.serde_json.specs.declared.value.Value.{Array}
use Rattle.serde_json.proofs.Views.{view-Array}
use Rattle.call_forms.proofs.Offered.{of_each}
use Rattle.note_forms.specs.meaning.Items.{one_served}
use Rattle.note_forms.proofs.ServedAhead.{call_word}
use Rattle.note_forms.proofs.items_ahead.worded_ahead.Goals as goal

pub returns-then-eq-clause-ends : goal.returns-then-eq-clause-ends
returns-then-eq-clause-ends c =
    let same : c.args.word.now ≡ codes "call" = search rules in
    rw same (of_each _ _ c.answered_ahead.result (λ one left. (left.0, left.1, call_word c.args.reader.now.notes.now c.args.reader.now.last (string (codes "call")) left.0 one left.2)) c.answered_ahead.ensures.ends)

pub returns-clause-ends : goal.returns-clause-ends
returns-clause-ends c =
    let read = one_served c.args.reader.now.notes.now c.args.reader.now.last in
    let seen = c.in_ok-values.ensures.read in
    let gives : read (view (Array c.in_ok-values.values)) ≡ Ok c.in_ok-one.one = search rules in
    (seen.0, seen.1, ap (λ ds. read (array ds)) seen.2 ∙ ap read (sym (view-Array c.in_ok-values.values)) ∙ gives)
