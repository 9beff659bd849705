-- Steps of a reading, one after the other.
use Rattle.std.proofs.Common.{◌≡◌, ℕ, List, false, Result, Ok, refl, sym, ap, subst, ◌∙◌}
use Rattle.std.specs.Str.{bytes_eq}
use Rattle.serde_json.specs.Data.{Data}
use Rattle.json_form.specs.declared.fault.DocFault.{DocFault}
use Rattle.json_form.specs.declared.fault.DocFault.TheVariants.{NoMemory, At}
use Rattle.json_form.specs.meaning.Faults.{Fault, ◌>>=◌}
use Rattle.json_form.specs.Faults.{Fails}
use Rattle.json_form.specs.meaning.Objects.{Named, optional}
use Rattle.json_form.specs.Objects.{without}

pub fails_first : {A B : Type 0} (e : DocFault) (r : Result A Fault) (next : A → Result B Fault) → Fails e r → Fails e (r >>= next)
fails_first NoMemory r next h = tt
fails_first (At c p) r next h = ap (λ (q : Result _ Fault). q >>= next) h

pub fails_after : {A B : Type 0} (e : DocFault) (r : Result A Fault) (x : A) (next : A → Result B Fault) → r ≡ Ok x → Fails e (next x) → Fails e (r >>= next)
fails_after e r x next h f = subst (λ (q : Result _ Fault). Fails e (q >>= next)) (sym h) f

pub gives_after : {A B : Type 0} (r : Result A Fault) (x : A) (next : A → Result B Fault) (y : B) → r ≡ Ok x → next x ≡ Ok y → (r >>= next) ≡ Ok y
gives_after r x next y h k = ap (λ (q : Result _ Fault). q >>= next) h ∙ k

pub optional_apart : {A : Type 0} (name other : List ℕ) (otherwise : A) (read : Data → Result A Fault) (ms : Named) → bytes_eq name other ≡ false → optional name otherwise read (without other ms) ≡ optional name otherwise read ms
unfolding optional without
optional_apart name other otherwise read ms apart = rw apart refl

pub at_apart : (name other : List ℕ) (ms : Named) → bytes_eq name other ≡ false → without other ms name ≡ ms name
unfolding without
at_apart name other ms apart = rw apart refl
