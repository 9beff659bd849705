-- A fault under a step is what the reading gives there.
use Rattle.std.proofs.Common.{◌≡◌, ℕ, List, Result, Err, ap, sym, ◌∙◌}
use Rattle.json_form.specs.declared.fault.DocCode.{DocCode}
use Rattle.json_form.specs.declared.fault.DocFault.{DocFault}
use Rattle.json_form.specs.declared.fault.DocFault.TheVariants.{NoMemory, At}
use Rattle.json_form.specs.meaning.Faults.{Fault, under}
use Rattle.json_form.specs.Faults.{Fails, IsUnder}

pub Fails-under : {A : Type 0} (step : List ℕ) (code : DocCode) (path : List ℕ) (e : DocFault) (read : Result A Fault) → IsUnder step (At code path) e → read ≡ Err (under step (record { code = code; path = path })) → Fails e read
Fails-under step code path NoMemory read is gives = tt
Fails-under step code path (At d q) read is gives =
    gives ∙ ap (λ (p : List ℕ). Err (record { code = code; path = p })) (sym is.1) ∙ ap (λ (c : DocCode). Err (record { code = c; path = q })) (sym is.0)
