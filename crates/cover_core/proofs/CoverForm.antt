-- The counts are of the form that is read back from their text.
use Rattle.std.proofs.Common.{ℕ, suc, List, refl}
use Rattle.serde_json.specs.Read.{max_depth}
use Rattle.json_form.specs.Forms.{IsForm}
use Rattle.json_form.specs.meaning.Writing.{list_by}
use Rattle.json_form.proofs.Offered.{items_form}
use Rattle.shown_clauses.specs.meaning.Cover.{Counts}
use Rattle.cover_core.specs.meaning.Text.{counts_value, cover_value}

counts_form : (deep : ℕ) (one : Counts) → IsForm (suc deep) (counts_value one)
unfolding counts_value
counts_form deep one = (refl, (tt, (tt, tt)))

pub cover_form : (all : List (List Counts)) → IsForm max_depth (cover_value all)
unfolding cover_value
cover_form all = (refl, (items_form 125 (list_by counts_value) (λ own. items_form 124 counts_value (counts_form 123) own) all, tt))
