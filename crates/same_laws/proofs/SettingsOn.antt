-- The settings before a call of a request, changed by each `set` of so many calls from there on,
-- are those behind these calls.
use Rattle.std.proofs.Common.{◌≡◌, refl, sym, ap, ◌∙◌, ℕ, zero, suc, ◌+◌, List, [], ◌∷◌, ◌++◌, take, drop, arith}
use Rattle.std.proofs.lemmas.List.Sums.{fold-append}
use Rattle.svc_values.specs.declared.call.Call.{Call}
use Rattle.svc_values.specs.meaning.SettingsList.{with_set, with_sets}
use Rattle.invariant_laws.specs.SameLaws.{SettingsGoOn}

take_none : (n : ℕ) → take {A = Call} n [] ≡ []
take_none zero = refl
take_none (suc n) = refl

pub take_on : (first more : ℕ) (calls : List Call) → take (first + more) calls ≡ take first calls ++ take more (drop first calls)
take_on zero more calls = let same : zero + more ≡ more = omega arith in ap (λ (n : ℕ). take n calls) same
take_on (suc first) more [] = take_none (suc first + more) ∙ sym (take_none more)
take_on (suc first) more (call ∷ calls) =
    let next : suc first + more ≡ suc (first + more) = omega arith in ap (λ (n : ℕ). take n (call ∷ calls)) next ∙ ap (λ (rest : List Call). call ∷ rest) (take_on first more calls)

pub settings_go_on : SettingsGoOn
settings_go_on request first more = sym (ap (with_sets request.settings) (take_on first more request.calls) ∙ fold-append with_set request.settings (take first request.calls) (take more (drop first request.calls)))
