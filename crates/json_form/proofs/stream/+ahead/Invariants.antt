use Rattle.std.proofs.Common.{◌≡◌, ℕ, ◌+◌, ◌*◌, ◌≤◌, length}
use Rattle.json.specs.Json.{items, members, value, parse_map}
use Rattle.serde_json.specs.Data.{no_members}
use Rattle.serde_json.specs.Read.{of_items, of_members, converted}
use Rattle.serde_json.specs.View.{members_view}
use Rattle.json_form.proofs.Ahead.{items_before}
use Rattle.json_form.proofs.stream.+ahead.Given as goal

abbrev pub decreases-value_from : goal.decreases-value_from
decreases-value_from l = 3 * l.depth + 1

abbrev pub decreases-object_from : goal.decreases-object_from
decreases-object_from l = 3 * l.depth

abbrev pub decreases-items_from : goal.decreases-items_from
decreases-items_from l = 3 * l.depth + 2

abbrev pub decreases-members_from : goal.decreases-members_from
decreases-members_from l = 3 * l.depth + 2

abbrev pub invariant-items_from-items : goal.invariant-items_from-items
invariant-items_from-items l =
    (n : ℕ) × (length l.tokens ≤ n)
    × (converted of_items (items (value l.depth) (length l.initial.tokens) l.initial.tokens) ≡ parse_map (items_before l.found.items) (converted of_items (items (value l.depth) n l.tokens)))
    × (length l.tokens ≤ length l.initial.tokens)

abbrev pub decreases-items_from-items : goal.decreases-items_from-items
decreases-items_from-items l = length l.tokens

abbrev pub invariant-members_from-members : goal.invariant-members_from-members
invariant-members_from-members l =
    (n : ℕ) × (length l.tokens ≤ n)
    × (converted (λ ms. of_members ms no_members) (members (value l.depth) (length l.initial.tokens) l.initial.tokens) ≡ converted (λ ms. of_members ms (members_view l.found.entries)) (members (value l.depth) n l.tokens))
    × (length l.tokens ≤ length l.initial.tokens)

abbrev pub decreases-members_from-members : goal.decreases-members_from-members
decreases-members_from-members l = length l.tokens
