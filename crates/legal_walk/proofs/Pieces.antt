-- The last piece of the entry that comes next.
use Rattle.std.proofs.Common.{◌≡◌, suc, ◌-◌, Bool, true, false, ◌&&◌, cond, List, [], ◌∷◌, length, refl, sym, ap, ◌∙◌, arith}
use Rattle.std.specs.Prelude.{Option, Some, None, slice_get, not}
use Rattle.std.specs.List.{last_or}
use Rattle.svc_values.specs.declared.call.Call.{Call}
use Rattle.svc_values.specs.declared.entry.Entry.{Entry}
use Rattle.svc_values.specs.declared.entry.Ltxid.{Ltxid}
use Rattle.svc_values.specs.declared.entry.SessionId.{SessionId}
use Rattle.svc_values.specs.meaning.Calls.{has_commit}
use Rattle.svc_values.specs.meaning.Identifiers.{same_ltxid}
use Rattle.server_model.specs.meaning.Walk.{Walk, next_of, stands}
use Rattle.legal_walk.specs.Items.{standing}
use Rattle.legal_walk.specs.Stored.{first_of}

get_at_end : {A : Type 0} (a : A) (more : List A) (before : Option A) → slice_get (a ∷ more) (length more) ≡ last_or before (a ∷ more)
get_at_end a [] before = refl
get_at_end a (b ∷ more) before = get_at_end b more (Some a)

-- the last one stands at the last place
pub last_at : {A : Type 0} (all : List A) → slice_get all (length all - 1) ≡ last_or None all
last_at [] = refl
last_at (a ∷ more) = let here : suc (length more) - 1 ≡ length more = omega arith in ap (λ i. slice_get (a ∷ more) i) here ∙ get_at_end a more None

-- ---- what stands of a stopped call

first_stands : (x : Ltxid) (left : List Entry) (entry : Entry) → Some entry ≡ first_of left → stands x left ≡ cond (same_ltxid entry.ltxid x) (last_or None entry.pieces) None
first_stands x [] entry is = absurd (let clash : ◌≡◌ {A = Option Entry} (Some entry) None = is in cc)
first_stands x (first ∷ more) entry is =
    let one : first ≡ entry = let same : ◌≡◌ {A = Option Entry} (Some entry) (Some first) = is in cc in
    ap (λ (e : Entry). cond (same_ltxid e.ltxid x) (last_or None e.pieces) None) one

pub standing_is : (walk : Walk) (session : SessionId) (replay : Bool) (called : Call) (next : Ltxid) (left : List Entry) (entry : Entry) (same commits : Bool) → walk.left ≡ left → next ≡ next_of walk session → Some entry ≡ first_of left
    → commits ≡ has_commit called → commits ≡ true → replay ≡ false → same ≡ same_ltxid entry.ltxid next → cond same (last_or None entry.pieces) None ≡ standing walk session replay called
standing_is walk session replay called next left entry same commits stands_left comes first told commit unmarked is =
    ap (λ (b : Bool). cond b (last_or None entry.pieces) None) (is ∙ ap (same_ltxid entry.ltxid) comes)
    ∙ sym (ap (λ (b : Bool). cond (b && not replay) (stands (next_of walk session) walk.left) None) (sym told ∙ commit)
    ∙ (ap (λ (b : Bool). cond (not b) (stands (next_of walk session) walk.left) None) unmarked
    ∙ (ap (stands (next_of walk session)) stands_left ∙ first_stands (next_of walk session) left entry first)))
