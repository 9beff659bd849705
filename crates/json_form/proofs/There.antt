-- Going through the names of members that have to be there.
use Rattle.std.proofs.Common.{◌≡◌, ℕ, List, ◌∷◌, true, false, Option, Some, None, is_some, Result, Err, refl}
use Rattle.std.specs.Prelude.{⊤}
use Rattle.serde_json.specs.Data.{Data}
use Rattle.json_form.specs.declared.fault.DocCode.TheVariants.{Missing}
use Rattle.json_form.specs.meaning.Faults.{Fault, ◌>>=◌, here, under}
use Rattle.json_form.specs.meaning.Pointers.{escaped}
use Rattle.json_form.specs.meaning.Objects.{Named, has, present, required, all_there}

present_there : (name : List ℕ) (o : Option Data) (rest : Result ⊤ Fault) → is_some o ≡ true → (present name o >>= λ _. rest) ≡ rest
present_there name None rest there = absurd (cc)
present_there name (Some d) rest there = refl

present_gone : (name : List ℕ) (o : Option Data) (rest : Result ⊤ Fault) → is_some o ≡ false → (present name o >>= λ _. rest) ≡ Err (under (escaped name) (here Missing))
present_gone name None rest gone = refl
present_gone name (Some d) rest gone = absurd (cc)

-- a member that is there leaves the others to be looked for
pub there_step : (name : List ℕ) (names : List (List ℕ)) (ms : Named) → has name ms ≡ true → all_there (name ∷ names) ms ≡ all_there names ms
unfolding has required
there_step name names ms there = present_there name (ms name) (all_there names ms) there

-- one that is not there is the fault
pub there_stop : (name : List ℕ) (names : List (List ℕ)) (ms : Named) → has name ms ≡ false → all_there (name ∷ names) ms ≡ Err (under (escaped name) (here Missing))
unfolding has required
there_stop name names ms gone = present_gone name (ms name) (all_there names ms) gone
