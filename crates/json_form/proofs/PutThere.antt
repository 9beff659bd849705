-- What stands in an object once a member was put there.
use Rattle.std.proofs.Common.{◌≡◌, ℕ, List, Bool, true, false, cond, Option, Some, None, String, Global, string_bytes, string_cmp, bytes_eq, nat_cmp, Ordering, Less, Equal, Greater, Ok, true≢false, refl, sym, ap, ◌∙◌}
use Rattle.std.proofs.Math.Path.{fun_ext}
use Rattle.std.proofs.lemmas.Slice.Eq.{bytes_eq-Decides}
use Rattle.std.specs.BTreeMap.{insert_entry}
use Rattle.std.specs.Cmp.Lexicographic.{slice_cmp}
use Rattle.std.specs.Ordering.{match_ordering}
use Rattle.serde_json.specs.Data.{Data, Members, no_members, member, put}
use Rattle.serde_json.specs.Find.{get_member}
use Rattle.serde_json.specs.View.{view, members_view}
use Rattle.serde_json.specs.declared.value.Value.{Value}
use Rattle.serde_json.proofs.Views.{Entry, members_view-insert_entry, get_member-put, get_member-put_other}
use Rattle.json_form.specs.declared.fault.DocCode.TheVariants.{Unknown}
use Rattle.json_form.specs.meaning.Faults.{here, under}
use Rattle.json_form.specs.meaning.Pointers.{escaped}
use Rattle.json_form.specs.meaning.Objects.{Named, named, is_among, known}
use Rattle.json_form.specs.Objects.{without, putting}
use Rattle.json_form.proofs.Readings.{passed}

put_by : (name q : List ℕ) (d : Data) (before after : Option Data) (b : Bool) → bytes_eq q name ≡ b → (q ≡ name → after ≡ Some d) → ((q ≡ name → ⊥) → after ≡ before) → after ≡ cond b (Some d) before
put_by name q d before after true e at other = at ((bytes_eq-Decides q name).0 e)
put_by name q d before after false e at other = other (λ h. true≢false (sym ((bytes_eq-Decides q name).1 h) ∙ e))

-- what was put at a name stands there, and the same at all others
pub named_put : (name : List ℕ) (d : Data) (ms : Members) → named (put name d ms) ≡ putting name d (named ms)
unfolding putting
named_put name d ms =
    fun_ext (λ q. put_by name q d (get_member q ms) (get_member q (put name d ms)) _ refl (λ h. ap (λ (k : List ℕ). get_member k (put name d ms)) h ∙ get_member-put name d ms) (get_member-put_other q name d ms))

-- the same of a map
pub named_inserted : (name : String Global) (v : Value) (old new : List Entry) → new ≡ insert_entry string_cmp old name v → named (members_view new) ≡ putting (string_bytes name) (view v) (named (members_view old))
named_inserted name v old new inserted =
    ap (λ (es : List Entry). named (members_view es)) inserted ∙ ap named (members_view-insert_entry old name v) ∙ named_put (string_bytes name) (view v) (members_view old)

-- ---- with a member taken out

gone : (name q : List ℕ) (d : Data) (before : Option Data) (b : Bool) → cond b None (cond b (Some d) before) ≡ cond b None before
gone name q d before true = refl
gone name q d before false = refl

-- a member that is taken out may have been put there
pub without_put : (name : List ℕ) (d : Data) (ms : Named) → without name (putting name d ms) ≡ without name ms
unfolding without putting
without_put name d ms = fun_ext (λ q. gone name q d (ms q) (bytes_eq q name))

apart_by : (name other q : List ℕ) (d : Data) (before : Option Data) (b : Bool) → bytes_eq name other ≡ false → bytes_eq q name ≡ b → cond (bytes_eq q other) None (cond b (Some d) before) ≡ cond b (Some d) (cond (bytes_eq q other) None before)
apart_by name other q d before true apart at =
    let none : bytes_eq q other ≡ false = ap (λ (k : List ℕ). bytes_eq k other) ((bytes_eq-Decides q name).0 at) ∙ apart in
    ap (λ b. cond b None (Some d)) none
apart_by name other q d before false apart at = refl

-- a member that is put there stays where another one is taken out
pub without_other : (name other : List ℕ) (d : Data) (ms : Named) → bytes_eq name other ≡ false → without other (putting name d ms) ≡ putting name d (without other ms)
unfolding without putting
without_other name other d ms apart = fun_ext (λ q. apart_by name other q d (ms q) (bytes_eq q name) apart refl)

-- ---- members that are known

known_put_at : (o : Ordering) (names : List (List ℕ)) (k l : List ℕ) (d e : Data) (ms : Members) → slice_cmp nat_cmp k l ≡ o → is_among names k ≡ true → is_among names l ≡ true → known names ms ≡ Ok tt → known names (put k d ms) ≡ Ok tt
    → known names (match_ordering o (member k d (member l e ms)) (member l d ms) (member l e (put k d ms))) ≡ Ok tt
known_put_at Less names k l d e ms is one this rest more = rw (one, this) rest
known_put_at Equal names k l d e ms is one this rest more = rw this rest
known_put_at Greater names k l d e ms is one this rest more = rw this more

-- members that are known still are with another one that is
pub known_put : (names : List (List ℕ)) (k : List ℕ) (d : Data) (ms : Members) → is_among names k ≡ true → known names ms ≡ Ok tt → known names (put k d ms) ≡ Ok tt
known_put names k d no_members one all = rw one refl
known_put names k d (member l e ms) one all =
    let first = passed (is_among names l) (known names ms) (under (escaped l) (here Unknown)) tt all in
    known_put_at _ names k l d e ms refl one first.0 first.1 (known_put names k d ms one first.1)
