use Rattle.std.proofs.Common.{◌≡◌, ◌+◌, ◌++◌, ◌∙◌, ◌<◌, refl, ap, sym, arith, List, drop, length, subst}
use Rattle.std.specs.Prelude.{slice_get, Some, All}
use Rattle.std.specs.Option.{option_to_list}
use Rattle.std.proofs.lemmas.Option.{slice_get_read}
use Rattle.std.proofs.lemmas.List.Elements.{All-append}
use Rattle.outage_schedule.specs.declared.note.Note.{Note}
use Rattle.run_clauses.specs.meaning.Moments.{moments_of_notes}
use Rattle.report_moments.specs.declared.moments.Moment.{Moment}
use Rattle.report_moments.specs.Views.{moments_as}
use Rattle.report_moments.specs.Places.{IsPlaced}
use Rattle.report_moments.proofs.Lists.{left_is}
use Rattle.report_moments.proofs.Merging.{notes_on}
use Rattle.report_moments.proofs.Placed.{told_placed}
use Rattle.report_moments.proofs.moments.moments_of_notes.Goals as goal

pub loop-at-preserved : goal.loop-at-preserved
loop-at-preserved c =
    let report = c.args.report.now in
    let notes = c.as_slice-notes.result.now in
    let i = c.loop-at.at in
    let note = c.index-notes-at.result in
    let before = c.loop-at.all.items in
    let told = c.moment_of_note.result in
    let within : i < length notes = omega arith in
    let put : c.push_some.new.all.items ≡ before ++ option_to_list told = c.in_ok-push_some.ensures in
    let here : slice_get notes i ≡ Some note = slice_get_read notes (length notes) i note refl within c.index-notes-at.is in
    let there : slice_get report.notes i ≡ Some note = sym (ap (λ (l : List Note). slice_get l i) c.as_slice-notes.ensures) ∙ here in
    let P : List Moment → Type 0 = All (IsPlaced report) in
    record {
      told =
          ap (λ (l : List Moment). moments_as l ++ moments_of_notes (i + 1 + 1) (drop (i + 1) notes)) put
          ∙ notes_on before told (i + 1) note (drop (i + 1) notes) c.moment_of_note.ensures.told
          ∙ ap (λ (l : List Note). moments_as before ++ moments_of_notes (i + 1) l) (sym (left_is notes i note within c.index-notes-at.is))
          ∙ c.loop-at.invariant.told;
      placed = subst P (sym put) (All-append (IsPlaced report) before (option_to_list told) c.loop-at.invariant.placed (told_placed report i note told there c.moment_of_note.ensures.told c.moment_of_note.ensures.event c.moment_of_note.ensures.place));
    }
