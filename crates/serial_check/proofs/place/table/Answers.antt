use Rattle.std.proofs.Common.{List, ℕ, [], ◌∷◌, ◌++◌, codes, decimal, refl, sym, ap, ◌∙◌, subst, append-nil}
use Rattle.std.proofs.lemmas.Result.{IfOk-weaker}
use Rattle.serial_check.specs.Pointing.{IsAt}
use Rattle.serial_check.proofs.Named.{tables_named}
use Rattle.serial_check.proofs.place.table.Goals as goal

pub returns : goal.returns
returns c =
    let here : IsAt [] c.here-here.result = subst (IsAt []) (sym c.here-here.ensures) refl in
    let n = decimal c.args.n in
    IfOk-weaker c.place_of.result _ _
    (λ found is. is ∙ (ap (λ (l : List ℕ). 47 ∷ l ++ (47 ∷ n ++ [])) tables_named ∙ ap (λ (l : List ℕ). codes "/tables/" ++ l) (append-nil n)))
    (c.place_of.ensures _ (c.in_list.ensures [] here))
