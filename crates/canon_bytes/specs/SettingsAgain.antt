-- What was written is read again, whatever follows: settings.
use Rattle.std.proofs.Common.{◌≡◌, ℕ, suc, true, List, [], ◌∷◌, ◌++◌, length, Ok, refl, ap, ◌∙◌, append_assoc}
use Rattle.std.specs.Prelude.{Option, Some, None}
use Rattle.std.specs.Ordering.{nat_cmp, is_lt}
use Rattle.std.specs.declared.cmp.Ordering.TheVariants.{Less}
use Rattle.std.specs.Cmp.Lexicographic.{slice_cmp}
use Rattle.std.specs.List.{flat_map, AllByRecursion}
use Rattle.std.specs.List.Sorted.{IsStrictlySortedBy}
use Rattle.std.specs.Map.{keys_of}
use Rattle.svc_values.specs.declared.value.Value.{Value}
use Rattle.svc_values.specs.meaning.SettingsList.{NamedValues, rises}
use Rattle.svc_values.specs.SettingsList.{AreSettings}
use Rattle.canon_bytes.specs.meaning.Numbers.{spell_u64}
use Rattle.canon_bytes.specs.meaning.Lists.{spell_list}
use Rattle.canon_bytes.specs.meaning.SettingsBytes.{spell_setting, spell_settings, setting_at, settings_behind, settings_at}
use Rattle.canon_bytes.specs.SettingsBytes.{FitsSetting, FitsSettings}
use Rattle.canon_bytes.specs.Again.{u64_again, name_again}
use Rattle.canon_bytes.specs.ValuesAgain.{value_again}

-- the names are above the one before them, if there is one
abbrev GoOnFrom : Option (List ℕ) → NamedValues → Type 0
GoOnFrom None settings = Unit {0}
GoOnFrom (Some before) settings = AllByRecursion (λ name. slice_cmp nat_cmp before name ≡ Less)
    (keys_of settings)

first_rises : (before : Option (List ℕ)) (setting : List ℕ × Value) (settings : NamedValues)
    → GoOnFrom before (setting ∷ settings) → rises before setting.0 ≡ true
first_rises None setting settings go = refl
first_rises (Some before) setting settings go = ap is_lt go.0

setting_again : (before : Option (List ℕ)) (setting : List ℕ × Value) (rest : List ℕ)
    → FitsSetting setting → rises before setting.0 ≡ true
    → setting_at before (spell_setting setting ++ rest) ≡ Ok (setting, rest)
unfolding setting_at
setting_again before setting rest fits rising =
    simp append_assoc (rw (name_again setting.0 _ fits.0, rising, value_again setting.1 rest fits.1)
    refl)

settings_behind_again : (before : Option (List ℕ)) (settings : NamedValues) (rest : List ℕ)
    → GoOnFrom before settings → AreSettings settings → AllByRecursion FitsSetting settings
    → settings_behind before (length settings) (flat_map spell_setting settings ++ rest) ≡ Ok
    (settings, rest)
unfolding settings_behind IsStrictlySortedBy
settings_behind_again before [] rest go rising all = refl
settings_behind_again before (setting ∷ settings) rest go rising all =
    let regrouped : flat_map spell_setting (setting ∷ settings) ++ rest ≡ spell_setting setting
    ++ (flat_map spell_setting settings ++ rest) =
    append_assoc (spell_setting setting) (flat_map spell_setting settings) rest in
    ap (settings_behind before (suc (length settings))) regrouped ∙ rw (
      setting_again before setting (flat_map spell_setting settings ++ rest) all.0
          (first_rises before setting settings go),
      settings_behind_again (Some setting.0) settings rest rising.0 rising.1 all.1,
    ) refl

pub settings_again : (settings : NamedValues) (rest : List ℕ) → FitsSettings settings
    → settings_at (spell_settings settings ++ rest) ≡ Ok (settings, rest)
unfolding settings_at spell_list
settings_again settings rest fits =
    rw (
      append_assoc (spell_u64 (length settings)) (flat_map spell_setting settings) rest,
      u64_again (length settings) (flat_map spell_setting settings ++ rest) fits.1.0,
    )
    (settings_behind_again None settings rest tt fits.0 fits.1.1)
