-- Entries and their marks, found one by one.
use Rattle.std.proofs.Common.{◌≡◌, ℕ, List, [], ◌∷◌, ◌++◌, Bool, true, false, cond, refl, sym, ap, ◌∙◌}
use Rattle.std.specs.Prelude.{Option, Some, None, is_some}
use Rattle.svc_values.specs.Keys.{value_of}
use Rattle.svc_values.specs.declared.entry.Ltxid.{Ltxid}
use Rattle.svc_values.specs.declared.entry.Entry.{Entry}
use Rattle.svc_values.specs.meaning.Identifiers.{same_ltxid}
use Rattle.svc_values.specs.SameLaws.{same_ltxid_decides}
use Rattle.run_clauses.specs.meaning.Outcomes.{completed_of}
use Rattle.identifier_sets.specs.Keys.{key_of, same_key}
use Rattle.identifier_sets.proofs.Offered.{same_symm}
use Rattle.stored_check.specs.Keys.{mark_of, or_else, first_of}

-- ---- one entry

pub or_none : {A : Type 0} (a : Option A) → or_else a None ≡ a
or_none None = refl
or_none (Some a) = refl

pub or_apart : {A : Type 0} (a b c : Option A) → or_else (or_else a b) c ≡ or_else a (or_else b c)
or_apart None b c = refl
or_apart (Some a) b c = refl

pub completed_more : (entry : Entry) (entries : List Entry) (x : Ltxid) → completed_of (entry ∷ entries) x ≡ or_else (cond (same_ltxid entry.ltxid x) (Some entry.completed) None) (completed_of entries x)
completed_more entry entries x = by (same_ltxid entry.ltxid x) refl
  where
    by : (b : Bool) → same_ltxid entry.ltxid x ≡ b → completed_of (entry ∷ entries) x ≡ or_else (cond (same_ltxid entry.ltxid x) (Some entry.completed) None) (completed_of entries x)
    by true is = rw is refl
    by false is = rw is refl

pub completed-append : (a b : List Entry) (x : Ltxid) → completed_of (a ++ b) x ≡ or_else (completed_of a x) (completed_of b x)
completed-append [] b x = refl
completed-append (entry ∷ a) b x =
    completed_more entry (a ++ b) x
    ∙ ap (or_else (cond (same_ltxid entry.ltxid x) (Some entry.completed) None)) (completed-append a b x)
    ∙ sym (or_apart (cond (same_ltxid entry.ltxid x) (Some entry.completed) None) (completed_of a x) (completed_of b x))
    ∙ sym (ap (λ o. or_else o (completed_of b x)) (completed_more entry a x))

-- ---- a mark that is put, and one that is there

some_first : (mark other : Option Bool) → is_some mark ≡ true → mark ≡ or_else mark other
some_first (Some a) other is = refl
some_first None other is = let none : ◌≡◌ {A = Bool} false true = is in cc

-- the key is there: nothing changes
pub kept_first : (marks : List ((ℕ × ℕ × ℕ) × Bool)) (entry : Entry) → is_some (mark_of marks entry.ltxid) ≡ true → (x : Ltxid) → mark_of marks x ≡ first_of (mark_of marks x) entry x
kept_first marks entry there x = by (same_ltxid entry.ltxid x) refl
  where
    by : (b : Bool) → same_ltxid entry.ltxid x ≡ b → mark_of marks x ≡ first_of (mark_of marks x) entry x
    by true is =
        let one = (same_ltxid_decides entry.ltxid x).0 is in
        some_first (mark_of marks x) (cond (same_ltxid entry.ltxid x) (Some entry.completed) None) (sym (ap (λ y. is_some (mark_of marks y)) one) ∙ there)
    by false is = sym (ap (λ b. or_else (mark_of marks x) (cond b (Some entry.completed) None)) is ∙ or_none (mark_of marks x))

none_there : (mark : Option Bool) → is_some mark ≡ false → mark ≡ None
none_there None is = refl
none_there (Some a) is = let none : ◌≡◌ {A = Bool} true false = is in cc

-- the key is not there: it is put
pub put_first : (old new : List ((ℕ × ℕ × ℕ) × Bool)) (entry : Entry) → is_some (mark_of old entry.ltxid) ≡ false
    → ((k : ℕ × ℕ × ℕ) → value_of same_key new k ≡ cond (same_key k (key_of entry.ltxid)) (Some entry.completed) (value_of same_key old k))
    → (x : Ltxid) → mark_of new x ≡ first_of (mark_of old x) entry x
put_first old new entry none put x =
    put (key_of x) ∙ ap (λ b. cond b (Some entry.completed) (mark_of old x)) (same_symm x entry.ltxid) ∙ by (same_ltxid entry.ltxid x) refl
  where
    by : (b : Bool) → same_ltxid entry.ltxid x ≡ b → cond (same_ltxid entry.ltxid x) (Some entry.completed) (mark_of old x) ≡ first_of (mark_of old x) entry x
    by true is =
        let one = (same_ltxid_decides entry.ltxid x).0 is in
        let gone = none_there (mark_of old x) (sym (ap (λ y. is_some (mark_of old y)) one) ∙ none) in
        rw is (sym (ap (λ o. or_else o (Some entry.completed)) gone))
    by false is = rw is (sym (or_none (mark_of old x)))

-- one entry more
pub more_first : (old new : Option Bool) (entry : Entry) (all rest : List Entry) → all ≡ entry ∷ rest → (x : Ltxid) → new ≡ first_of old entry x → or_else new (completed_of rest x) ≡ or_else old (completed_of all x)
more_first old new entry all rest left x is =
    ap (λ o. or_else o (completed_of rest x)) is
    ∙ or_apart old (cond (same_ltxid entry.ltxid x) (Some entry.completed) None) (completed_of rest x)
    ∙ ap (or_else old) (sym (completed_more entry rest x))
    ∙ sym (ap (λ (l : List Entry). or_else old (completed_of l x)) left)
