-- Members of an object that are read one after the other.
use Rattle.std.proofs.Common.{◌≡◌, ℕ, List, true, false, Option, Some, None, option_map, Result, Ok, refl, ap}
use Rattle.std.specs.Prelude.{⊤, is_some}
use Rattle.std.specs.Option.{unwrap_or}
use Rattle.std.specs.Str.{bytes_eq}
use Rattle.serde_json.specs.Data.{Data, Members, object}
use Rattle.json_form.specs.meaning.Faults.{Fault, ◌>>=◌, within}
use Rattle.json_form.specs.meaning.Objects.{Named, named, known, object_with, required, read_or}
use Rattle.json_form.specs.Objects.{putting}
use Rattle.json_form.proofs.Offered.{given}

pub at_this : (name : List ℕ) (d : Data) (ms : Named) → bytes_eq name name ≡ true → putting name d ms name ≡ Some d
unfolding putting
at_this name d ms same = rw same refl

pub at_other : (q name : List ℕ) (d : Data) (ms : Named) → bytes_eq q name ≡ false → putting name d ms q ≡ ms q
unfolding putting
at_other q name d ms apart = rw apart refl

-- what reads nothing had nothing to read
pub none_there : {A B : Type 0} (f : A → B) (o : Option A) → option_map f o ≡ None → o ≡ None
none_there f None e = refl
none_there f (Some x) e = absurd (cc)

pub none_left : {A : Type 0} (o : Option A) → is_some o ≡ false → o ≡ None
none_left None h = refl
none_left (Some x) h = absurd (cc)

-- what was read was there
pub one_there : {A B : Type 0} (f : A → Result B Fault) (o : Option A) (x : B) → option_map f o ≡ Some (Ok x) → (d : A) × (o ≡ Some d) × (f d ≡ Ok x)
one_there f None x e = absurd (cc)
one_there f (Some d) x e = (d, refl, cc)

-- what a member that may be missing is read as that was read, or was not there
pub may_be_there : {A : Type 0} (name : List ℕ) (otherwise : A) (f : Data → Result A Fault) (o : Option Data) (x : Option A) → option_map f o ≡ option_map given x → read_or name otherwise f o ≡ Ok (unwrap_or x otherwise)
may_be_there name otherwise f None None e = refl
may_be_there name otherwise f None (Some z) e = absurd (cc)
may_be_there name otherwise f (Some d) None e = absurd (cc)
may_be_there name otherwise f (Some d) (Some z) e = let read : f d ≡ Ok z = cc in ap (within name) read

-- ---- the object whose members were passed

pub members_there : (names : List (List ℕ)) (ms : Members) → known names ms ≡ Ok tt → object_with names (object ms) ≡ Ok (named ms)
members_there names ms all = ap (λ (r : Result ⊤ Fault). r >>= λ _. Ok (named ms)) all

pub required_there : (name : List ℕ) (ms : Named) (d : Data) → ms name ≡ Some d → required name ms ≡ Ok d
unfolding required
required_there name ms d e = rw e refl
