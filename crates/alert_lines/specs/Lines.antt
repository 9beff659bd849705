-- Which first ones of the alerts the lines so far may be.
use Rattle.std.specs.Prelude.{◌≡◌, ℕ, Bool, true, false, List, [], ◌∷◌, ◌++◌, map}
use Rattle.std.specs.List.{list_any}
use Rattle.server_model.specs.meaning.Legal.{Line, lines_stand}

-- all first parts of a list, from none to the whole of it
abbrev pub fronts : {A : Type 0} → List A → List (List A)
fronts [] = [] ∷ []
fronts (a ∷ all) = [] ∷ map (λ front. a ∷ front) (fronts all)

-- for each front of the alerts, whether the lines make it
abbrev pub standing_of : List Line → List (List ℕ) → List Bool
standing_of lines alerts = map (lines_stand lines) (fronts alerts)

-- the lines make some front of the alerts
abbrev pub may_go_on : List Line → List (List ℕ) → Bool
may_go_on lines alerts = list_any (lines_stand lines) (fronts alerts)

-- where lines make no front of the alerts, no lines with more behind them make the alerts
abbrev pub NoneGoesOn : Type 0
NoneGoesOn = (lines more : List Line) (alerts : List (List ℕ)) → may_go_on lines alerts ≡ false
    → lines_stand (lines ++ more) alerts ≡ false

-- and where they make one, some lines behind them make the alerts
abbrev pub SomeGoOn : Type 0
SomeGoOn = (lines : List Line) (alerts : List (List ℕ)) → may_go_on lines alerts ≡ true
    → (more : List Line) × (lines_stand (lines ++ more) alerts ≡ true)
