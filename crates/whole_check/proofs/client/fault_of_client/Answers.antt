use Rattle.std.proofs.Common.{◌≡◌, ◌∙◌, ◌+◌, Bool, List, sym, ap, map, subst, option_map}
use Rattle.std.specs.Prelude.{◌&&◌, ◌==◌, is_none, IfOk}
use Rattle.std.specs.List.{filter, list_all}
use Rattle.std.specs.List.Sorted.{IsPermutation}
use Rattle.entry_events.specs.Numbering.{up_to}
use Rattle.shown_clauses.specs.meaning.Links.{Turn}
use Rattle.shown_clauses.specs.meaning.Turns.{has_request, turns_of}
use Rattle.shown_clauses.specs.meaning.Parts.{parts_of, left_of}
use Rattle.report_parts.specs.PartViews.{part_as}
use Rattle.report_parts.specs.SubmissionViews.{submission_as}
use Rattle.report_story.specs.declared.steps.Step.{Step as StepAt}
use Rattle.report_story.specs.Views.{step_as}
use Rattle.report_parts.proofs.Offered.{steps_mapped}
use Rattle.whole_check.specs.declared.owned.OwnedAt.{OwnedAt}
use Rattle.whole_check.specs.Judging.{is_part_right}
use Rattle.whole_check.specs.Views.{owned_as}
use Rattle.whole_check.proofs.Permuted.{client_is}
use Rattle.whole_check.proofs.client.fault_of_client.Goals as goal

pub returns-in-Some : goal.returns-in-Some
returns-in-Some c =
    let numbers = up_to c.args.told.now.numbers in
    let number = c.args.client + 1 in
    let submissions = map submission_as c.args.submissions.now in
    let mine = map step_as c.in_ok-mine.mine.items in
    let owned = map owned_as c.in_ok-owned.owned.items in
    let left = option_map step_as c.left_of-left.result in
    let mine_is =
    ap (map step_as) (c.in_ok-mine.ensures ∙ ap (λ (steps : List StepAt). filter (λ (step : StepAt). step.client == number) steps) c.as_slice.ensures.value)
    ∙ steps_mapped number c.args.told.now.story.steps.items in
    let same = subst (λ (turns : List Turn). IsPermutation (turns_of number turns) owned) c.as_slice-2.ensures.value c.in_ok-owned.ensures.same in
    let left_is = c.left_of-left.ensures ∙ ap (λ (steps : List StepAt). left_of submissions (map step_as steps)) c.as_slice-3.ensures.value in
    let is = client_is numbers (map step_as c.args.told.now.story.steps.items) c.args.told.now.story.turns.items number submissions mine owned left mine_is same left_is in
    let wrong = c.in-Some.ensures ∙ ap (λ (all : List OwnedAt). list_all (has_request left) (map owned_as all)) c.as_slice-4.ensures.value in
    ap (λ b. b && list_all (is_part_right numbers owned) (parts_of submissions mine)) wrong ∙ sym is

pub returns : goal.returns
returns c =
    let numbers = up_to c.args.told.now.numbers in
    let number = c.args.client + 1 in
    let submissions = map submission_as c.args.submissions.now in
    let mine = map step_as c.in_ok-mine.mine.items in
    let owned = map owned_as c.in_ok-owned.owned.items in
    let left = option_map step_as c.left_of-left.result in
    let mine_is =
    ap (map step_as) (c.in_ok-mine.ensures ∙ ap (λ (steps : List StepAt). filter (λ (step : StepAt). step.client == number) steps) c.as_slice.ensures.value)
    ∙ steps_mapped number c.args.told.now.story.steps.items in
    let same = subst (λ (turns : List Turn). IsPermutation (turns_of number turns) owned) c.as_slice-2.ensures.value c.in_ok-owned.ensures.same in
    let left_is = c.left_of-left.ensures ∙ ap (λ (steps : List StepAt). left_of submissions (map step_as steps)) c.as_slice-3.ensures.value in
    let is = client_is numbers (map step_as c.args.told.now.story.steps.items) c.args.told.now.story.turns.items number submissions mine owned left mine_is same left_is in
    let right = c.in_default.ensures ∙ ap (λ (all : List OwnedAt). list_all (has_request left) (map owned_as all)) c.as_slice-4.ensures.value in
    let parts =
    ap (map part_as) c.as_slice-7.ensures.value
    ∙ (c.in_ok-parts.ensures ∙ ap (λ (steps : List StepAt). parts_of submissions (map step_as steps)) c.as_slice-5.ensures.value) in
    let all =
    (λ i. list_all (is_part_right numbers (map owned_as (c.as_slice-6.ensures.value i))) (parts i))
    ∙ (ap (λ b. b && list_all (is_part_right numbers owned) (parts_of submissions mine)) right ∙ sym is) in
    subst (λ (b : Bool). IfOk c.fault_of_parts.result (λ place. is_none place ≡ b)) all c.fault_of_parts.ensures
