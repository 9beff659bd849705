-- Lists of identifiers that differ, and the sets that they are.
use Rattle.std.proofs.Common.{◌≡◌, List, [], ◌∷◌, ◌++◌, Bool, true, false, not, ◌&&◌, ◌||◌, refl, sym, ap, ◌∙◌}
use Rattle.std.proofs.Math.Path.{fun_ext}
use Rattle.std.specs.List.{list_any}
use Rattle.std.proofs.lemmas.List.Folds.{list_any-append}
use Rattle.svc_values.specs.declared.entry.Ltxid.{Ltxid}
use Rattle.svc_values.specs.meaning.Identifiers.{same_ltxid}
use Rattle.svc_values.specs.SameLaws.{same_ltxid_decides}
use Rattle.run_clauses.specs.meaning.Tried.{holds, ids_differ}
use Rattle.identifier_sets.proofs.Offered.{same_symm}

pub same_self : (x : Ltxid) → same_ltxid x x ≡ true
same_self x = (same_ltxid_decides x x).1 refl

pub are_one : (x y : Ltxid) → same_ltxid x y ≡ true → x ≡ y
are_one x y = (same_ltxid_decides x y).0

-- ---- identifiers that differ from those met before

-- of these identifiers none was met before, and no two are one
abbrev pub differ_from : (Ltxid → Bool) → List Ltxid → Bool
differ_from met [] = true
differ_from met (x ∷ ids) = not (met x) && differ_from (λ k. met k || same_ltxid x k) ids

or_apart : (a b c d : Bool) → ((a || b) || (c || d)) ≡ ((a || c) || (b || d))
or_apart true b c d = refl
or_apart false true true d = refl
or_apart false true false d = refl
or_apart false false c d = refl

any_or : (p q : Ltxid → Bool) (ids : List Ltxid) → list_any (λ k. p k || q k) ids ≡ (list_any p ids || list_any q ids)
any_or p q [] = refl
any_or p q (x ∷ ids) = ap (λ b. (p x || q x) || b) (any_or p q ids) ∙ or_apart (p x) (q x) (list_any p ids) (list_any q ids)

not_apart : (a b c d : Bool) → (not a && (not (b || c) && d)) ≡ (not (a || b) && (not c && d))
not_apart true b c d = refl
not_apart false true c d = refl
not_apart false false c d = refl

pub differ_split : (met : Ltxid → Bool) (ids : List Ltxid) → differ_from met ids ≡ (not (list_any met ids) && ids_differ ids)
differ_split met [] = refl
differ_split met (x ∷ ids) =
    ap (λ b. not (met x) && b) (differ_split (λ k. met k || same_ltxid x k) ids ∙ ap (λ b. not b && ids_differ ids) (any_or met (same_ltxid x) ids))
    ∙ not_apart (met x) (list_any met ids) (holds ids x) (ids_differ ids)

none_met : (ids : List Ltxid) → list_any (λ k. false) ids ≡ false
none_met [] = refl
none_met (x ∷ ids) = none_met ids

-- none was met at first
pub differ_at_first : (ids : List Ltxid) → differ_from (holds []) ids ≡ ids_differ ids
differ_at_first ids = differ_split (λ k. false) ids ∙ ap (λ b. not b && ids_differ ids) (none_met ids)

-- an identifier that was not met yet, and was from then on
pub differ_on : (old new : List Ltxid) (x : Ltxid) (ids : List Ltxid) → holds old x ≡ false → ((k : Ltxid) → holds new k ≡ (holds old k || same_ltxid k x))
    → differ_from (holds old) (x ∷ ids) ≡ differ_from (holds new) ids
differ_on old new x ids fresh added =
    let here : (k : Ltxid) → (holds old k || same_ltxid x k) ≡ holds new k = λ k. ap (λ b. holds old k || b) (same_symm x k) ∙ sym (added k) in
    ap (λ b. not b && differ_from (λ k. holds old k || same_ltxid x k) ids) fresh
    ∙ ap (λ (met : Ltxid → Bool). differ_from met ids) (fun_ext here)

-- one that was met before
pub differ_no_more : (old : List Ltxid) (x : Ltxid) (ids : List Ltxid) → holds old x ≡ true → differ_from (holds old) (x ∷ ids) ≡ false
differ_no_more old x ids met = ap (λ b. not b && differ_from (λ k. holds old k || same_ltxid x k) ids) met

-- ---- lists one after the other

pub holds-append : (a b : List Ltxid) (x : Ltxid) → holds (a ++ b) x ≡ (holds a x || holds b x)
holds-append a b x = list_any-append (same_ltxid x) a b

or-false : (b : Bool) → (b || false) ≡ b
or-false true = refl
or-false false = refl

pub holds-push : (a : List Ltxid) (y x : Ltxid) → holds (a ++ y ∷ []) x ≡ (holds a x || same_ltxid x y)
holds-push a y x = holds-append a (y ∷ []) x ∙ ap (λ b. holds a x || b) (or-false (same_ltxid x y))

-- the two lists have an identifier in common
abbrev pub meet : List Ltxid → List Ltxid → Bool
meet a b = list_any (holds b) a

split_not : (h m r d : Bool) → (not (h || m) && (not r && d)) ≡ (not (m || r) && (not h && d))
split_not true true r d = refl
split_not true false true d = refl
split_not true false false d = refl
split_not false true r d = refl
split_not false false r d = refl

pub differ-append : (a b : List Ltxid) → ids_differ (a ++ b) ≡ (not (meet a b) && (ids_differ a && ids_differ b))
differ-append [] b = refl
differ-append (x ∷ a) b =
    ap (λ h. not h && ids_differ (a ++ b)) (holds-append a b x)
    ∙ ap (λ d. not (holds a x || holds b x) && d) (differ-append a b)
    ∙ regroup (holds a x) (holds b x) (meet a b) (ids_differ a) (ids_differ b)
  where
    regroup : (h k m d e : Bool) → (not (h || k) && (not m && (d && e))) ≡ (not (k || m) && ((not h && d) && e))
    regroup true true m d e = refl
    regroup true false true d e = refl
    regroup true false false d e = refl
    regroup false true m d e = refl
    regroup false false m d e = refl
