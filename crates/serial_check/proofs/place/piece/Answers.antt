use Rattle.std.proofs.Common.{List, ℕ, [], ◌∷◌, ◌++◌, codes, decimal, refl, sym, ap, ◌∙◌, subst, append-nil, append_assoc}
use Rattle.std.proofs.lemmas.Result.{IfOk-weaker}
use Rattle.json_form.specs.meaning.Pointers.{escaped}
use Rattle.serial_check.specs.Pointing.{IsAt}
use Rattle.serial_check.proofs.Named.{entries_named, pieces_named}
use Rattle.serial_check.proofs.place.piece.Goals as goal

pub returns : goal.returns
returns c =
    let here : IsAt [] c.here-here.result = subst (IsAt []) (sym c.here-here.ensures) refl in
    let n = decimal c.args.n in
    let p = decimal c.args.p in
    IfOk-weaker c.place_of.result _ _
    (λ found is.
    is
    ∙ (ap (λ (l : List ℕ). 47 ∷ l ++ (47 ∷ n ++ (47 ∷ escaped (codes "pieces") ++ (47 ∷ p ++ [])))) entries_named
    ∙ (ap (λ (l : List ℕ). codes "/entries/" ++ (n ++ (47 ∷ l ++ (47 ∷ p ++ [])))) pieces_named
    ∙ (ap (λ (l : List ℕ). codes "/entries/" ++ (n ++ (codes "/pieces/" ++ l))) (append-nil p) ∙ sym (append_assoc (codes "/entries/") n (codes "/pieces/" ++ p))))))
    (c.place_of.ensures _ (c.in_list.ensures _ (c.in_list-piece.ensures [] here)))
