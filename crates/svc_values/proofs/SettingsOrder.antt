-- Names that rise, and entries that are put last.
use Rattle.std.proofs.Common.{◌≡◌, ℕ, suc, ◌-◌, List, [], ◌∷◌, ◌++◌, length, ap, refl, sym, ◌∙◌, true, arith}
use Rattle.std.specs.Prelude.{Option, Some, None, slice_get}
use Rattle.std.specs.Ordering.{nat_cmp, is_lt, ordering_reverse, match_ordering}
use Rattle.std.specs.declared.cmp.Ordering.{Ordering}
use Rattle.std.specs.declared.cmp.Ordering.TheVariants.{Less, Equal, Greater}
use Rattle.std.specs.Cmp.Lexicographic.{slice_cmp}
use Rattle.std.specs.Map.{keys_of}
use Rattle.std.specs.List.{AllByRecursion, last_or}
use Rattle.std.specs.List.Sorted.{IsStrictlySortedBy}
use Rattle.std.proofs.lemmas.Cmp.{nat_list_cmp_total}
use Rattle.svc_values.specs.declared.value.Value.{Value}
use Rattle.svc_values.specs.meaning.SettingsList.{NamedValues, put_setting, rises, last_name}
use Rattle.svc_values.specs.SettingsList.{AreSettings, AllBelow}

above_from_below : (a b : List ℕ) → slice_cmp nat_cmp a b ≡ Less → slice_cmp nat_cmp b a ≡ Greater
above_from_below a b h = nat_list_cmp_total.antisymm b a ∙ ap ordering_reverse h

-- an entry goes last where every name is below its own
pub put_setting-last : (settings : NamedValues) (name : List ℕ) (value : Value) → AllBelow settings name → put_setting settings name value ≡ settings ++ (name, value) ∷ []
put_setting-last [] name value below = refl
put_setting-last (e ∷ es) name value below =
    ap (λ o. match_ordering o ((name, value) ∷ e ∷ es) ((e.0, value) ∷ es) (e ∷ put_setting es name value)) (above_from_below e.0 name below.0)
    ∙ ap (λ rest. e ∷ rest) (put_setting-last es name value below.1)

-- in rising settings every name is below those after it
pub AllBelow-inside : (settings rest : NamedValues) (name : List ℕ) (value : Value) → AreSettings (settings ++ (name, value) ∷ rest) → AllBelow settings name
unfolding IsStrictlySortedBy
AllBelow-inside [] rest name value h = tt
AllBelow-inside (e ∷ es) rest name value h = (reached es h.0, AllBelow-inside es rest name value h.1)
  where
    reached : (fs : NamedValues) → AllByRecursion (λ k. slice_cmp nat_cmp e.0 k ≡ Less) (keys_of (fs ++ (name, value) ∷ rest)) → slice_cmp nat_cmp e.0 name ≡ Less
    reached [] a = a.0
    reached (f ∷ fs) a = reached fs a.1

-- an entry with a higher name keeps the names rising
pub AreSettings-last : (settings : NamedValues) (name : List ℕ) (value : Value) → AreSettings settings → AllBelow settings name → AreSettings (settings ++ (name, value) ∷ [])
unfolding IsStrictlySortedBy
AreSettings-last [] name value h below = (tt, tt)
AreSettings-last (e ∷ es) name value h below = (added es h.0, AreSettings-last es name value h.1 below.1)
  where
    added : (fs : NamedValues) → AllByRecursion (λ k. slice_cmp nat_cmp e.0 k ≡ Less) (keys_of fs) → AllByRecursion (λ k. slice_cmp nat_cmp e.0 k ≡ Less) (keys_of (fs ++ (name, value) ∷ []))
    added [] a = (below.0, tt)
    added (f ∷ fs) a = (a.0, added fs a.1)

last_or-last : (before : Option (List ℕ)) (settings : NamedValues) (name : List ℕ) (value : Value) → last_or before (keys_of (settings ++ (name, value) ∷ [])) ≡ Some name
last_or-last before [] name value = refl
last_or-last before (e ∷ es) name value = last_or-last (Some e.0) es name value

-- the name that was put last is the last one
pub last_name-last : (settings : NamedValues) (name : List ℕ) (value : Value) → last_name (settings ++ (name, value) ∷ []) ≡ Some name
last_name-last settings name value = last_or-last None settings name value

less_from_is_lt : (o : Ordering) → is_lt o ≡ true → o ≡ Less
less_from_is_lt Less h = refl
less_from_is_lt Equal h = cc
less_from_is_lt Greater h = cc

-- a name above the last one is above every name
pub AllBelow-from_last : (settings : NamedValues) (name : List ℕ) → AreSettings settings → rises (last_name settings) name ≡ true → AllBelow settings name
unfolding IsStrictlySortedBy
AllBelow-from_last [] name h r = tt
AllBelow-from_last (e ∷ es) name h r = climbs e es h r
  where
    climbs : (e : List ℕ × Value) (es : NamedValues) → AreSettings (e ∷ es) → rises (last_or (Some e.0) (keys_of es)) name ≡ true → AllBelow (e ∷ es) name
    climbs e [] h r = (less_from_is_lt (slice_cmp nat_cmp e.0 name) r, tt)
    climbs e (f ∷ fs) h r = let others = climbs f fs h.1 r in (nat_list_cmp_total.trans e.0 f.0 name h.0.0 others.0, others)

-- and the other way
pub rises-from_AllBelow : (settings : NamedValues) (name : List ℕ) → AllBelow settings name → rises (last_name settings) name ≡ true
rises-from_AllBelow [] name below = refl
rises-from_AllBelow (e ∷ es) name below = ends e es below
  where
    ends : (e : List ℕ × Value) (es : NamedValues) → AllBelow (e ∷ es) name → rises (last_or (Some e.0) (keys_of es)) name ≡ true
    ends e [] below = ap is_lt below.0
    ends e (f ∷ fs) below = ends f fs below.1

last_or-at_end : (before : Option (List ℕ)) (settings : NamedValues) (name : List ℕ) (value : Value) → slice_get settings (length settings - 1) ≡ Some (name, value) → last_or before (keys_of settings) ≡ Some name
last_or-at_end before [] name value h = cc
last_or-at_end before (e ∷ []) name value h = let same : ◌≡◌ {A = List ℕ × Value} e (name, value) = cc in ap (λ x. Some x.0) same
last_or-at_end before (e ∷ f ∷ es) name value h =
    let here : length (e ∷ f ∷ es) - 1 ≡ suc (length es) = omega arith in
    let further_on : length (f ∷ es) - 1 ≡ length es = omega arith in
    let further : slice_get (f ∷ es) (length (f ∷ es) - 1) ≡ Some (name, value) = ap (λ i. slice_get (f ∷ es) i) further_on ∙ (sym (ap (λ i. slice_get (e ∷ f ∷ es) i) here) ∙ h) in
    last_or-at_end (Some e.0) (f ∷ es) name value further

-- the entry at the last place has the last name
pub last_name-at_end : (settings : NamedValues) (name : List ℕ) (value : Value) → slice_get settings (length settings - 1) ≡ Some (name, value) → last_name settings ≡ Some name
last_name-at_end settings name value h = last_or-at_end None settings name value h
