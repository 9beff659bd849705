-- What is left once a member or an item was taken out.
use Rattle.std.proofs.Common.{◌≡◌, ℕ, zero, suc, ◌<◌, List, [], ◌∷◌, length, Bool, true, false, cond, Option, Some, None, option_map, eqb, bytes_eq, nat_cmp, string_bytes, true≢false, refl, sym, ap, ◌∙◌, arith, rules, Result}
use Rattle.std.proofs.Math.Path.{fun_ext}
use Rattle.std.proofs.Math.ListN.{set}
use Rattle.std.proofs.lemmas.Bool.{eqb-true, eq-eqb}
use Rattle.std.proofs.lemmas.Slice.Eq.{bytes_eq-Decides}
use Rattle.std.proofs.lemmas.Map.Text.{is_eq-slice_cmp}
use Rattle.std.specs.BTreeMap.{is_at}
use Rattle.std.specs.Ordering.{match_ordering}
use Rattle.std.specs.Cmp.Lexicographic.{slice_cmp}
use Rattle.std.specs.Map.{lookup, remove_entry}
use Rattle.serde_json.specs.Data.{Data, null}
use Rattle.serde_json.specs.Find.{get_member, get_item}
use Rattle.serde_json.specs.View.{view, items_view, members_view}
use Rattle.serde_json.specs.declared.value.Value.{Value, Null, the_lemmas}
use Rattle.serde_json.proofs.Views.{Entry, view-lookup, member_later}
use Rattle.json_form.specs.meaning.Faults.{Fault}
use Rattle.json_form.specs.meaning.Objects.{Named, named, has, required, optional, member_in}
use Rattle.json_form.specs.Objects.{without}
use Rattle.json_form.specs.meaning.Arrays.{Placed, placed, part}
use Rattle.json_form.specs.Arrays.{taken_at}

-- the entry of a name
abbrev at_name : List ℕ → Entry → Bool
at_name name e = is_at (λ k. slice_cmp nat_cmp name (string_bytes k)) e.0

others_by : (name q : List ℕ) (e : Entry) (es left : List Entry) (b : Bool) → at_name name e ≡ b → (q ≡ name → ⊥) → get_member q (members_view left) ≡ get_member q (members_view es)
    → get_member q (members_view (cond b es (e ∷ left))) ≡ get_member q (members_view (e ∷ es))
others_by name q e es left true here apart later =
    let same : name ≡ string_bytes e.0 = (bytes_eq-Decides name (string_bytes e.0)).0 (sym (is_eq-slice_cmp name (string_bytes e.0)) ∙ here) in
    sym (member_later q e es (λ h. apart (h ∙ sym same)))
others_by name q e es left false here apart later =
    ap (λ (r : Option Data). match_ordering (slice_cmp nat_cmp q (string_bytes e.0)) r (Some (view e.1)) r) later

others : (name q : List ℕ) (es : List Entry) → (q ≡ name → ⊥) → get_member q (members_view (remove_entry (is_at (λ k. slice_cmp nat_cmp name (string_bytes k))) es)) ≡ get_member q (members_view es)
others name q [] apart = refl
others name q (e ∷ es) apart = others_by name q e es _ (at_name name e) refl apart (others name q es apart)

left_by : (name q : List ℕ) (before left : Option Data) (b : Bool) → bytes_eq q name ≡ b → (q ≡ name → left ≡ None) → ((q ≡ name → ⊥) → left ≡ before) → left ≡ cond b None before
left_by name q before left true e at other = at ((bytes_eq-Decides q name).0 e)
left_by name q before left false e at other = other (λ h. true≢false (sym ((bytes_eq-Decides q name).1 h) ∙ e))

-- a map without the entry of a name has nothing at this name, and the same at all others
pub member_taken : (name : List ℕ) (old new : List Entry) → new ≡ remove_entry (is_at (λ k. slice_cmp nat_cmp name (string_bytes k))) old → lookup (is_at (λ k. slice_cmp nat_cmp name (string_bytes k))) new ≡ None
    → named (members_view new) ≡ without name (named (members_view old))
unfolding without
member_taken name old new removed gone =
    fun_ext (λ q. left_by name q (get_member q (members_view old)) (get_member q (members_view new)) _ refl
    (λ h. ap (λ (k : List ℕ). get_member k (members_view new)) h ∙ sym (view-lookup name new) ∙ ap (option_map view) gone)
    (λ apart. ap (λ (es : List Entry). get_member q (members_view es)) removed ∙ others name q old apart))

view_Null : view Null ≡ null
view_Null = search (rules, the_lemmas)

at_this : (vs : List Value) (at : ℕ) (v : Value) → at < length vs → get_item at (items_view (set vs at v)) ≡ Some (view v)
at_this [] at v lt = absurd (omega (arith, lt))
at_this (w ∷ vs) zero v lt = refl
at_this (w ∷ vs) (suc at) v lt = at_this vs at v (omega (arith, lt))

at_others : (vs : List Value) (at q : ℕ) (v : Value) → (q ≡ at → ⊥) → get_item q (items_view (set vs at v)) ≡ get_item q (items_view vs)
at_others [] at q v apart = refl
at_others (w ∷ vs) zero zero v apart = absurd (apart refl)
at_others (w ∷ vs) zero (suc q) v apart = refl
at_others (w ∷ vs) (suc at) zero v apart = refl
at_others (w ∷ vs) (suc at) (suc q) v apart = at_others vs at q v (λ h. apart (ap suc h))

at_each : (q at : ℕ) (before left this : Option Data) (b : Bool) → eqb q at ≡ b → (q ≡ at → left ≡ this) → ((q ≡ at → ⊥) → left ≡ before) → left ≡ cond b this before
at_each q at before left this true e here other = here (eqb-true q at e)
at_each q at before left this false e here other = other (λ h. true≢false (sym (eq-eqb q at h) ∙ e))

-- items of which one was taken out have null there, and the same at all other positions
pub item_taken : (vs : List Value) (at : ℕ) → at < length vs → placed (items_view (set vs at Null)) ≡ taken_at at (placed (items_view vs))
unfolding taken_at
item_taken vs at lt =
    fun_ext (λ q. at_each q at (get_item q (items_view vs)) (get_item q (items_view (set vs at Null))) (Some null) _ refl
    (λ h. ap (λ i. get_item i (items_view (set vs at Null))) h ∙ at_this vs at Null lt ∙ ap Some view_Null)
    (λ apart. at_others vs at q Null apart))

-- what is taken out changes nothing for the others
pub has_after : (name other : List ℕ) (ms : Named) → bytes_eq name other ≡ false → has name (without other ms) ≡ has name ms
unfolding has without
has_after name other ms apart = rw apart refl

pub required_after : (name other : List ℕ) (ms : Named) → bytes_eq name other ≡ false → required name (without other ms) ≡ required name ms
unfolding required without
required_after name other ms apart = rw apart refl

pub member_after : {A : Type 0} (name other : List ℕ) (read : Data → Result A Fault) (ms : Named) → bytes_eq name other ≡ false → member_in name read (without other ms) ≡ member_in name read ms
unfolding member_in
member_after name other read ms apart = rw (required_after name other ms apart) refl

pub optional_after : {A : Type 0} (name other : List ℕ) (otherwise : A) (read : Data → Result A Fault) (ms : Named) → bytes_eq name other ≡ false → optional name otherwise read (without other ms) ≡ optional name otherwise read ms
unfolding optional without
optional_after name other otherwise read ms apart = rw apart refl

pub part_after : {A : Type 0} (i at : ℕ) (read : Data → Result A Fault) (ds : Placed) → eqb i at ≡ false → part i read (taken_at at ds) ≡ part i read ds
unfolding part taken_at
part_after i at read ds apart = rw apart refl
