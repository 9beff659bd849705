-- What is said of an answer, where it was a stop.
use Rattle.std.proofs.Common.{◌≡◌, subst}
use Rattle.std.specs.Prelude.{Result, Ok, Err, IsErrOf}
use Rattle.server_model.specs.declared.fault.ServeFault.{ServeFault}
use Rattle.server_model.specs.declared.fault.ServeFault.TheVariants as fault
use Rattle.service_calls.specs.Answers.{Ends}

pub at_stop : {A : Type 0} (told : ServeFault) → told ≡ fault.Stopped → (Done : A → Type 0) (Halted : Type 0) → Ends {A = A} (Err told) Done Halted → Halted
at_stop {A} told is Done Halted ends = subst (λ (other : ServeFault). Ends {A = A} (Err other) Done Halted) is ends

-- an answer is none
pub no_fault : {A E : Type 0} {answer : A} {error : E} → IsErrOf (Ok answer) error → ⊥
no_fault {A} {E} {answer} {error} is = let e : ◌≡◌ {A = Result A E} (Ok answer) (Err error) = is in cc
