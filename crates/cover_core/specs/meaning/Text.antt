-- The counts as JSON: {"clients":[[{"calls":4,"protected":2}]]}.
use Rattle.std.specs.Prelude.{List, [], ◌∷◌, codes}
use Rattle.serde_json.specs.Data.{Data}
use Rattle.json_form.specs.meaning.Writing.{whole, list_by, members}
use Rattle.shown_clauses.specs.meaning.Cover.{Counts}

unfoldable pub counts_value : Counts → Data
counts_value one =
    members ((codes "calls", whole one.calls) ∷ (codes "protected", whole one.protected) ∷ [])

-- for each client, one for each report
unfoldable pub cover_value : List (List Counts) → Data
cover_value all = members ((codes "clients", list_by (list_by counts_value) all) ∷ [])
