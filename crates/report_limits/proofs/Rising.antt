-- Names that are sorted rise one above the other.
use Rattle.std.proofs.Common.{◌≡◌, true, List, [], ◌∷◌, ℕ, Some, None, refl, ap}
use Rattle.std.specs.Ordering.{nat_cmp, is_lt}
use Rattle.std.specs.Cmp.Lexicographic.{slice_cmp}
use Rattle.std.specs.List.{AllByRecursion}
use Rattle.std.specs.List.Sorted.{IsStrictlySortedBy}
use Rattle.std.specs.Map.{keys_of}
use Rattle.std.specs.declared.cmp.Ordering.TheVariants.{Less}
use Rattle.json_form.proofs.Offered.{both_true}
use Rattle.svc_values.specs.meaning.SettingsList.{NamedValues, rises}
use Rattle.svc_values.specs.SettingsList.{AreSettings}
use Rattle.told_reports.specs.meaning.Settings.{names_rise}

rise_above : (name : List ℕ) (settings : NamedValues) → AllByRecursion (λ other. slice_cmp nat_cmp name other ≡ Less) (keys_of settings) → AreSettings settings
    → names_rise (Some name) settings ≡ true
unfolding IsStrictlySortedBy
rise_above name [] above sorted = refl
rise_above name (pair ∷ settings) above sorted =
    both_true (rises (Some name) pair.0) (names_rise (Some pair.0) settings) (ap is_lt above.0) (rise_above pair.0 settings sorted.0 sorted.1)

pub settings_rise : (settings : NamedValues) → AreSettings settings → names_rise None settings ≡ true
unfolding IsStrictlySortedBy
settings_rise [] sorted = refl
settings_rise (pair ∷ settings) sorted = rise_above pair.0 settings sorted.0 sorted.1
