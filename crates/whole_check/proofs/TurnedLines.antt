-- The lines ask nothing of the order of turns.
use Rattle.std.proofs.Common.{◌≡◌, refl, sym, ap, ◌∙◌, subst, ℕ, ◌+◌, length, reverse, append-nil, append_assoc, List, [], ◌∷◌, ◌++◌, Option, Some, None}
use Rattle.std.specs.Prelude.{◌&&◌}
use Rattle.std.specs.List.Sorted.{IsPermutation}
use Rattle.std.proofs.lemmas.List.{reverse-append}
use Rattle.std.proofs.lemmas.List.Sorted.{IsPermutation-reverse}
use Rattle.svc_values.specs.declared.entry.SessionId.{SessionId}
use Rattle.shown_clauses.specs.meaning.Links.{Turn}
use Rattle.shown_clauses.specs.meaning.Steps.{Step, steps_of}
use Rattle.shown_clauses.specs.meaning.Submissions.{Submission}
use Rattle.shown_clauses.specs.meaning.Parts.{left_of}
use Rattle.shown_clauses.specs.meaning.Turns.{Owned, owned_by, turns_of, has_client}
use Rattle.shown_clauses.specs.meaning.Whole.{are_taken}
use Rattle.whole_check.specs.Judging.{is_client_right, are_clients_right, is_told_right}
use Rattle.whole_check.proofs.Alls.{all_permuted}
use Rattle.whole_check.proofs.Permuted.{client_is}

-- one turn, as a list
abbrev as_list : Option Owned → List Owned
as_list None = []
as_list (Some one) = one ∷ []

of_more : (client : ℕ) (turn : Turn) (turns : List Turn) → turns_of client (turn ∷ turns) ≡ as_list (owned_by client turn) ++ turns_of client turns
of_more client turn turns = by (owned_by client turn) refl
  where
    by : (o : Option Owned) → owned_by client turn ≡ o → turns_of client (turn ∷ turns) ≡ as_list o ++ turns_of client turns
    by None is = rw is refl
    by (Some one) is = rw is refl

of_both : (client : ℕ) (a b : List Turn) → turns_of client (a ++ b) ≡ turns_of client a ++ turns_of client b
of_both client [] b = refl
of_both client (turn ∷ a) b =
    of_more client turn (a ++ b)
    ∙ (ap (λ (rest : List Owned). as_list (owned_by client turn) ++ rest) (of_both client a b)
    ∙ (sym (append_assoc (as_list (owned_by client turn)) (turns_of client a) (turns_of client b))
    ∙ ap (λ (front : List Owned). front ++ turns_of client b) (sym (of_more client turn a))))

list_reversed : (o : Option Owned) → reverse (as_list o) ≡ as_list o
list_reversed None = refl
list_reversed (Some one) = refl

of_reversed : (client : ℕ) (turns : List Turn) → turns_of client (reverse turns) ≡ reverse (turns_of client turns)
of_reversed client [] = refl
of_reversed client (turn ∷ turns) =
    ap (turns_of client) (reverse-append (turn ∷ []) turns)
    ∙ (of_both client (reverse turns) (turn ∷ [])
    ∙ ((λ i. of_reversed client turns i ++ (of_more client turn [] ∙ append-nil (as_list (owned_by client turn))) i)
    ∙ (ap (λ (last : List Owned). reverse (turns_of client turns) ++ last) (sym (list_reversed (owned_by client turn)))
    ∙ (sym (reverse-append (as_list (owned_by client turn)) (turns_of client turns))
    ∙ ap reverse (sym (of_more client turn turns))))))

of_permuted : (client : ℕ) (turns : List Turn) → IsPermutation (turns_of client turns) (turns_of client (reverse turns))
of_permuted client turns = subst (λ (owned : List Owned). IsPermutation (turns_of client turns) owned) (sym (of_reversed client turns)) (IsPermutation-reverse (turns_of client turns))

client_reversed : (numbers : SessionId → ℕ → ℕ) (steps : List Step) (turns : List Turn) (client : ℕ) (submissions : List Submission)
    → is_client_right numbers steps turns client submissions ≡ is_client_right numbers steps (reverse turns) client submissions
client_reversed numbers steps turns client submissions =
    client_is numbers steps turns client submissions (steps_of client steps) (turns_of client (reverse turns)) (left_of submissions (steps_of client steps)) refl (of_permuted client turns) refl

clients_reversed : (numbers : SessionId → ℕ → ℕ) (steps : List Step) (turns : List Turn) (lists : List (List Submission)) (client : ℕ)
    → are_clients_right numbers steps turns client lists ≡ are_clients_right numbers steps (reverse turns) client lists
clients_reversed numbers steps turns [] client = refl
clients_reversed numbers steps turns (submissions ∷ lists) client = λ i. client_reversed numbers steps turns client submissions i && clients_reversed numbers steps turns lists (client + 1) i

pub told_reversed : (numbers : SessionId → ℕ → ℕ) (steps : List Step) (turns : List Turn) (lists : List (List Submission)) → is_told_right numbers steps turns lists ≡ is_told_right numbers steps (reverse turns) lists
told_reversed numbers steps turns lists =
    λ i. are_taken steps && (all_permuted (has_client (length lists)) turns (reverse turns) (IsPermutation-reverse turns) i && clients_reversed numbers steps turns lists 1 i)
