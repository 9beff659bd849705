-- Moments at their places.
use Rattle.std.proofs.Common.{◌≡◌, ℕ, ◌+◌, [], ◌∷◌, arith, sym, subst}
use Rattle.std.specs.Prelude.{Option, Some, None, IfSome, IsSomeAnd, All, slice_get}
use Rattle.std.specs.Option.{option_to_list}
use Rattle.std.proofs.lemmas.List.Elements.{All-push}
use Rattle.outage_schedule.specs.declared.note.Note.{Note}
use Rattle.outage_schedule.specs.declared.item.Served.{Served}
use Rattle.outage_schedule.specs.declared.report.Report.{Report}
use Rattle.run_clauses.specs.meaning.Moments.{moment_of_note, moment_of_item}
use Rattle.report_moments.specs.declared.moments.At.{At}
use Rattle.report_moments.specs.declared.moments.At.TheVariants as at
use Rattle.report_moments.specs.declared.moments.Moment.{Moment}
use Rattle.report_moments.specs.Views.{moment_as, moments_as}
use Rattle.report_moments.specs.Places.{StandsAt, IsPlaced}

pub note_placed : (report : Report) (number : ℕ) (note : Note) (moment : Moment) → slice_get report.notes number ≡ Some note → moment_as moment ∷ [] ≡ moment_of_note (number + 1) note
    → moment.event ≡ number + 1 → moment.at ≡ at.Note number → IsPlaced report moment
note_placed report number note moment there told event place =
    let P : At → Type 0 = StandsAt report (moment_as moment) in
    let Tells : Option Note → Type 0 = λ found. IsSomeAnd found (λ note. moment_of_note (number + 1) note ≡ moment_as moment ∷ []) in
    subst P (sym place) (event, subst Tells (sym there) (sym told))

pub item_placed : (report : Report) (number : ℕ) (one : Served) (moment : Moment) → slice_get report.served number ≡ Some one → moment_as moment ≡ moment_of_item one → moment.at ≡ at.Served number
    → IsPlaced report moment
item_placed report number one moment there told place =
    let P : At → Type 0 = StandsAt report (moment_as moment) in
    let Tells : Option Served → Type 0 = λ found. IsSomeAnd found (λ one. moment_of_item one ≡ moment_as moment) in
    subst P (sym place) (subst Tells (sym there) (sym told))

one_only : {A : Type 0} (P : A → Type 0) (one : A) → P one → All P (one ∷ [])
one_only P one is = All-push P [] one (λ k d within. absurd (omega arith)) is

-- what the note of a place tells, if it tells anything
pub told_placed : (report : Report) (number : ℕ) (note : Note) (told : Option Moment) → slice_get report.notes number ≡ Some note → moments_as (option_to_list told) ≡ moment_of_note (number + 1) note
    → IfSome told (λ moment. moment.event ≡ number + 1) → IfSome told (λ moment. moment.at ≡ at.Note number) → All (IsPlaced report) (option_to_list told)
told_placed report number note None there is event place = λ k d within. absurd (omega arith)
told_placed report number note (Some moment) there is event place = one_only (IsPlaced report) moment (note_placed report number note moment there is event place)
