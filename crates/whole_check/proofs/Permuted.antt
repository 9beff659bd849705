-- The lines on turns ask nothing of their order.
use Rattle.std.proofs.Common.{◌≡◌, refl, sym, ap, ◌∙◌, ℕ, Bool, List, not, Option, Some, None}
use Rattle.std.specs.Prelude.{◌&&◌, ◌||◌, nat_le}
use Rattle.std.specs.List.{list_all, last_or}
use Rattle.std.specs.List.Sorted.{IsPermutation}
use Rattle.svc_values.specs.declared.entry.SessionId.{SessionId}
use Rattle.shown_clauses.specs.meaning.Fronts.{first_item}
use Rattle.shown_clauses.specs.meaning.Links.{Turn}
use Rattle.shown_clauses.specs.meaning.Steps.{Step, steps_of}
use Rattle.shown_clauses.specs.meaning.Submissions.{Submission}
use Rattle.shown_clauses.specs.meaning.Parts.{Part, parts_of, left_of, has_its_sessions}
use Rattle.shown_clauses.specs.meaning.Turns.{Owned, is_turn_right, owned_in, turns_of, has_request}
use Rattle.whole_check.specs.Judging.{are_calls_right, is_part_right, is_client_right}
use Rattle.whole_check.proofs.Alls.{all_permuted, all_filtered}

abbrev right_in : Submission → Owned → Bool
right_in submission one = is_turn_right submission one.turn

in_same : (submission : Submission) (first last : Option Step) (a b : List Owned) → IsPermutation a b → list_all (right_in submission) (owned_in first last a) ≡ list_all (right_in submission) (owned_in first last b)
in_same submission (Some first) (Some last) a b same =
    all_filtered (right_in submission) (λ one. nat_le first.event one.event && nat_le one.event last.event) a
    ∙ (all_permuted (λ (one : Owned). not (nat_le first.event one.event && nat_le one.event last.event) || right_in submission one) a b same
    ∙ sym (all_filtered (right_in submission) (λ one. nat_le first.event one.event && nat_le one.event last.event) b))
in_same submission (Some first) None a b same = refl
in_same submission None last a b same = refl

pub part_same : (numbers : SessionId → ℕ → ℕ) (a b : List Owned) → IsPermutation a b → (part : Part) → is_part_right numbers a part ≡ is_part_right numbers b part
part_same numbers a b same part =
    ap (λ t. has_its_sessions part && (are_calls_right numbers part && t)) (in_same part.submission (first_item part.steps) (last_or None part.steps) a b same)

-- the lines of a client, with its turns in another order
pub client_is : (numbers : SessionId → ℕ → ℕ) (steps : List Step) (turns : List Turn) (client : ℕ) (submissions : List Submission) (mine : List Step) (owned : List Owned) (left : Option Step)
    → mine ≡ steps_of client steps → IsPermutation (turns_of client turns) owned → left ≡ left_of submissions mine
    → is_client_right numbers steps turns client submissions ≡ (list_all (has_request left) owned && list_all (is_part_right numbers owned) (parts_of submissions mine))
client_is numbers steps turns client submissions mine owned left mine_is same left_is =
    (λ i. list_all (has_request (left_of submissions (sym mine_is i))) (turns_of client turns) && list_all (is_part_right numbers (turns_of client turns)) (parts_of submissions (sym mine_is i)))
    ∙ ((λ i. list_all (has_request (sym left_is i)) (turns_of client turns) && list_all (λ (part : Part). part_same numbers (turns_of client turns) owned same part i) (parts_of submissions mine))
    ∙ ap (λ t. t && list_all (is_part_right numbers owned) (parts_of submissions mine)) (all_permuted (has_request left) (turns_of client turns) owned same))
