-- What a map that is ordered by `cmp` has at a key.
use Rattle.std.proofs.Common.{◌≡◌, List, cond, subst, ap, ◌∙◌}
use Rattle.std.specs.Prelude.{Option}
use Rattle.std.specs.BTreeMap.{is_at}
use Rattle.std.specs.Map.{lookup}
use Rattle.std.specs.declared.cmp.Ordering.{Ordering}
use Rattle.std.specs.Ordering.{is_eq}
use Rattle.svc_values.specs.declared.value.Value.{Value}
use Rattle.svc_values.specs.contracts.value.ValueOrd.TheImpl.{cmp-value}
use Rattle.svc_values.specs.meaning.Order.{value_cmp}
use Rattle.svc_values.proofs.Offered.{cmp_is}
use Rattle.table_store.specs.Rows.{Keyed, keyed_of}

-- after a change
pub keyed_changed : (new map old : Keyed) (key : Value) (row : Option (List Value)) (q : Value) → map ≡ old
    → lookup (is_at (cmp-value.it q)) new ≡ cond (is_at (cmp-value.it key) q) row (lookup (is_at (cmp-value.it q)) map)
    → keyed_of new q ≡ cond (is_eq (value_cmp key q)) row (keyed_of old q)
keyed_changed new map old key row q same changed =
    subst (λ (f : Value → Value → Ordering). lookup (is_at (f q)) new ≡ cond (is_at (f key) q) row (lookup (is_at (f q)) map)) cmp_is changed
    ∙ ap (λ (s : Keyed). cond (is_eq (value_cmp key q)) row (keyed_of s q)) same
