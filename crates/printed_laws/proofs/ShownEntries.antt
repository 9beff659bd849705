-- Lists of entries whose writes are left out.
use Rattle.std.proofs.Common.{◌≡◌, suc, ◌&&◌, ◌||◌, Bool, true, false, cond, List, [], ◌∷◌, ◌++◌, map, length, filter, Option, Some, option_map, refl, sym, ap, ap₂, ◌∙◌}
use Rattle.std.specs.List.{list_all, list_any}
use Rattle.std.specs.Prelude.{find}
use Rattle.svc_values.specs.declared.entry.Ltxid.{Ltxid}
use Rattle.svc_values.specs.declared.entry.Entry.{Entry}
use Rattle.svc_values.specs.meaning.Identifiers.{same_ltxid}
use Rattle.run_clauses.specs.meaning.Outcomes.{completed_of}
use Rattle.run_clauses.specs.meaning.Once.{entries_in, count_in}
use Rattle.run_clauses.specs.meaning.Tried.{holds}
use Rattle.report_text.specs.Laws.{shown_entry}

pub both : (a b c d : Bool) → a ≡ b → c ≡ d → (a && c) ≡ (b && d)
both a b c d first second = ap₂ (λ (x y : Bool). x && y) first second

pub all_shown : (test : Entry → Bool) → ((e : Entry) → test (shown_entry e) ≡ test e) → (es : List Entry) → list_all test (map shown_entry es) ≡ list_all test es
all_shown test same [] = refl
all_shown test same (e ∷ es) = ap₂ (λ (a b : Bool). a && b) (same e) (all_shown test same es)

pub any_shown : (test : Entry → Bool) → ((e : Entry) → test (shown_entry e) ≡ test e) → (es : List Entry) → list_any test (map shown_entry es) ≡ list_any test es
any_shown test same [] = refl
any_shown test same (e ∷ es) = ap₂ (λ (a b : Bool). a || b) (same e) (any_shown test same es)

pub length_shown : (es : List Entry) → length (map shown_entry es) ≡ length es
length_shown [] = refl
length_shown (e ∷ es) = ap suc (length_shown es)

pub append_shown : (xs ys : List Entry) → map shown_entry (xs ++ ys) ≡ map shown_entry xs ++ map shown_entry ys
append_shown [] ys = refl
append_shown (x ∷ xs) ys = ap (λ (l : List Entry). shown_entry x ∷ l) (append_shown xs ys)

pub shown_twice : (es : List Entry) → map shown_entry (map shown_entry es) ≡ map shown_entry es
shown_twice [] = refl
shown_twice (e ∷ es) = ap (λ (l : List Entry). shown_entry e ∷ l) (shown_twice es)

kept_shown : (b : Bool) (e : Entry) (xs ys : List Entry) → xs ≡ map shown_entry ys → cond b (shown_entry e ∷ xs) xs ≡ map shown_entry (cond b (e ∷ ys) ys)
kept_shown true e xs ys same = ap (λ (l : List Entry). shown_entry e ∷ l) same
kept_shown false e xs ys same = same

pub filter_shown : (test : Entry → Bool) → ((e : Entry) → test (shown_entry e) ≡ test e) → (es : List Entry) → filter test (map shown_entry es) ≡ map shown_entry (filter test es)
filter_shown test same [] = refl
filter_shown test same (e ∷ es) =
    ap (λ (b : Bool). cond b (shown_entry e ∷ filter test (map shown_entry es)) (filter test (map shown_entry es))) (same e)
    ∙ kept_shown (test e) e (filter test (map shown_entry es)) (filter test es) (filter_shown test same es)

pub filter_long : (test : Entry → Bool) → ((e : Entry) → test (shown_entry e) ≡ test e) → (es : List Entry) → length (filter test (map shown_entry es)) ≡ length (filter test es)
filter_long test same es = ap (λ (l : List Entry). length l) (filter_shown test same es) ∙ length_shown (filter test es)

-- what does not look at writes does not where others stand before them
pub behind_shown : {A : Type 0} (told : List Entry → A) → ((es : List Entry) → told (map shown_entry es) ≡ told es) → (before es : List Entry)
    → told (before ++ map shown_entry es) ≡ told (before ++ es)
behind_shown told same before es =
    sym (same (before ++ map shown_entry es))
    ∙ ap told (append_shown before (map shown_entry es) ∙ ap (λ (l : List Entry). map shown_entry before ++ l) (shown_twice es) ∙ sym (append_shown before es))
    ∙ same (before ++ es)

-- ---- by their identifiers

pub in_shown : (es : List Entry) (ids : List Ltxid) → entries_in (map shown_entry es) ids ≡ map shown_entry (entries_in es ids)
in_shown es ids = filter_shown (λ e. holds ids e.ltxid) (λ e. refl) es

pub count_shown : (es : List Entry) (ids : List Ltxid) → count_in (map shown_entry es) ids ≡ count_in es ids
count_shown es ids = filter_long (λ e. holds ids e.ltxid) (λ e. refl) es

found_shown : (b : Bool) (e : Entry) (x y : Option Entry) → option_map (λ (e : Entry). e.completed) x ≡ option_map (λ (e : Entry). e.completed) y
    → option_map (λ (e : Entry). e.completed) (cond b (Some (shown_entry e)) x) ≡ option_map (λ (e : Entry). e.completed) (cond b (Some e) y)
found_shown true e x y same = refl
found_shown false e x y same = same

pub completed_shown : (es : List Entry) (x : Ltxid) → completed_of (map shown_entry es) x ≡ completed_of es x
completed_shown [] x = refl
completed_shown (e ∷ es) x =
    found_shown (same_ltxid e.ltxid x) e (find (λ (entry : Entry). same_ltxid entry.ltxid x) (map shown_entry es)) (find (λ (entry : Entry). same_ltxid entry.ltxid x) es) (completed_shown es x)
