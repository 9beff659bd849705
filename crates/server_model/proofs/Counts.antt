-- How often each session commits, with one commit more.
use Rattle.std.specs.Prelude.{◌≡◌, ◌+◌, ◌==◌, ◌<◌, ◌≤◌, ℕ, Bool, true, false, not, IsTrue, List, [], ◌∷◌, ◌++◌, map, length, if◌then◌else◌}
use Rattle.std.proofs.Common.{refl, sym, ◌∙◌, ap, arith, length-append, append-nil, append_assoc}
use Rattle.std.proofs.lemmas.List.{map-append}
use Rattle.std.proofs.lemmas.List.Elements.{filter-append}
use Rattle.std.proofs.lemmas.Bool.Decides.{nat_tests}
use Rattle.svc_values.specs.declared.entry.Ltxid.{Ltxid}
use Rattle.svc_values.specs.declared.entry.Entry.{Entry}
use Rattle.svc_values.specs.meaning.Identifiers.{is_of}
use Rattle.ltxid_book.specs.meaning.Journal.{Committed, commits_of, is_blocked, next_ltxid, state_of, committed_of}
use Rattle.ltxid_book.proofs.Offered.{May}
use Rattle.server_model.specs.Laws.{AreNumbered}

abbrev pub count : List Committed → ℕ → ℕ → ℕ
count commits incarnation session = length (commits_of commits incarnation session)

one_if : (c : Committed) (b : Bool) → length (if b then c ∷ [] else []) ≡ (if b then 1 else 0)
one_if c true = refl
one_if c false = refl

-- a commit more counts for its own session
pub count-push : (commits : List Committed) (c : Committed) (incarnation session : ℕ) (own : Bool) → is_of c.ltxid incarnation session ≡ own → count (commits ++ c ∷ []) incarnation session ≡ count commits incarnation session + (if own then 1 else 0)
count-push commits c incarnation session own is =
    ap length (filter-append (λ d. is_of d.ltxid incarnation session) commits (c ∷ []))
    ∙ length-append (commits_of commits incarnation session) (commits_of (c ∷ []) incarnation session)
    ∙ ap (λ n. count commits incarnation session + n) (ap (λ b. length (if b then c ∷ [] else [])) is ∙ one_if c own)

pub count-other : (commits : List Committed) (c : Committed) (incarnation session : ℕ) → is_of c.ltxid incarnation session ≡ false → count (commits ++ c ∷ []) incarnation session ≡ count commits incarnation session
count-other commits c incarnation session other = count-push commits c incarnation session false other ∙ (let e : count commits incarnation session + 0 ≡ count commits incarnation session = omega arith in e)

pub count-own : (commits : List Committed) (c : Committed) (incarnation session : ℕ) → is_of c.ltxid incarnation session ≡ true → count (commits ++ c ∷ []) incarnation session ≡ count commits incarnation session + 1
count-own commits c incarnation session own = count-push commits c incarnation session true own

pub count-append : (commits more : List Committed) (incarnation session : ℕ) → count (commits ++ more) incarnation session ≡ count commits incarnation session + count more incarnation session
count-append commits more incarnation session = ap length (filter-append (λ d. is_of d.ltxid incarnation session) commits more) ∙ length-append (commits_of commits incarnation session) (commits_of more incarnation session)

pub is_of-self : (x : Ltxid) → is_of x x.incarnation x.session ≡ true
is_of-self x = grind (arith, nat_tests)

pub is_of-other : (x : Ltxid) (incarnation session : ℕ) → (session == x.session) ≡ false → is_of x incarnation session ≡ false
is_of-other x incarnation session other = grind (arith, nat_tests)

pub is_of-later : (x : Ltxid) (incarnation session : ℕ) → x.incarnation < incarnation → is_of x incarnation session ≡ false
is_of-later x incarnation session below = grind (arith, nat_tests)

pub is_of-above : (x : Ltxid) (incarnation session n : ℕ) → x.session ≤ n → n < session → is_of x incarnation session ≡ false
is_of-above x incarnation session n within above = grind (arith, nat_tests)

not-true : (b : Bool) → not b ≡ true → b ≡ false
not-true true is = let none : ⊥ = cc in absurd none
not-true false is = refl

-- a session's next identifier that is not blocked may commit
pub may-commit : (commits : List Committed) (blocks : List Ltxid) (x : Ltxid) → x.number ≡ count commits x.incarnation x.session → IsTrue (not (is_blocked blocks x)) → May x (state_of commits blocks x.incarnation x.session)
may-commit commits blocks x number free = record {
  number_is = number;
  free = ap (λ (n : ℕ). is_blocked blocks (record { incarnation = x.incarnation; session = x.session; number = n })) (sym number) ∙ not-true (is_blocked blocks x) free;
}

-- ---- entries in order

pub next-is : (commits : List Committed) (x : Ltxid) → x.number ≡ count commits x.incarnation x.session → x ≡ next_ltxid commits x.incarnation x.session
next-is commits x number = λ i. record { incarnation = x.incarnation; session = x.session; number = number i }

pub AreNumbered-more : (before entries : List Entry) (entry : Entry) → AreNumbered before entries → entry.ltxid.number ≡ count (map committed_of (before ++ entries)) entry.ltxid.incarnation entry.ltxid.session → AreNumbered before (entries ++ entry ∷ [])
AreNumbered-more before [] entry order number =
    (next-is (map committed_of before) entry.ltxid (number ∙ ap (λ e. count (map committed_of e) entry.ltxid.incarnation entry.ltxid.session) (append-nil before)), tt)
AreNumbered-more before (first ∷ entries) entry order number =
    (order.0, AreNumbered-more (before ++ first ∷ []) entries entry order.1 (number ∙ ap (λ e. count (map committed_of e) entry.ltxid.incarnation entry.ltxid.session) (sym (append_assoc before (first ∷ []) entries))))

-- an entry more, as commits
pub commits-more : (before entries : List Entry) (entry : Entry) → map committed_of (before ++ (entries ++ entry ∷ [])) ≡ map committed_of (before ++ entries) ++ committed_of entry ∷ []
commits-more before entries entry = ap (map committed_of) (sym (append_assoc before entries (entry ∷ []))) ∙ map-append committed_of (before ++ entries) (entry ∷ [])

-- a session with a number above each session of its incarnation has no commit
pub data Within (incarnation most : ℕ) (entry : Entry) : Type 0 where
  Earlier : entry.ltxid.incarnation < incarnation → Within incarnation most entry
  Among : entry.ltxid.incarnation ≡ incarnation → entry.ltxid.session ≤ most → Within incarnation most entry

abbrev pub AllWithin : ℕ → ℕ → List Entry → Type 0
AllWithin incarnation most [] = Unit {0}
AllWithin incarnation most (entry ∷ entries) = Within incarnation most entry × AllWithin incarnation most entries

within-other : (incarnation most : ℕ) (entry : Entry) → Within incarnation most entry → is_of entry.ltxid incarnation (most + 1) ≡ false
within-other incarnation most entry (Earlier below) = is_of-later entry.ltxid incarnation (most + 1) below
within-other incarnation most entry (Among same within) = is_of-above entry.ltxid incarnation (most + 1) most within (omega arith)

first-other : (c : Committed) (commits : List Committed) (incarnation session : ℕ) → is_of c.ltxid incarnation session ≡ false → count (c ∷ commits) incarnation session ≡ count commits incarnation session
first-other c commits incarnation session other = ap (λ b. length (if b then c ∷ commits_of commits incarnation session else commits_of commits incarnation session)) other

pub none-yet : (incarnation most : ℕ) (entries : List Entry) → AllWithin incarnation most entries → count (map committed_of entries) incarnation (most + 1) ≡ 0
none-yet incarnation most [] within = refl
none-yet incarnation most (entry ∷ entries) within = first-other (committed_of entry) (map committed_of entries) incarnation (most + 1) (within-other incarnation most entry within.0) ∙ none-yet incarnation most entries within.1

pub AllWithin-wider : (incarnation most : ℕ) (entries : List Entry) → AllWithin incarnation most entries → AllWithin incarnation (most + 1) entries
AllWithin-wider incarnation most [] within = tt
AllWithin-wider incarnation most (entry ∷ entries) within = (wider within.0, AllWithin-wider incarnation most entries within.1)
  where
    wider : Within incarnation most entry → Within incarnation (most + 1) entry
    wider (Earlier below) = Earlier below
    wider (Among same within) = Among same (omega arith)

pub AllWithin-more : (incarnation most : ℕ) (entries : List Entry) (entry : Entry) → AllWithin incarnation most entries → Within incarnation most entry → AllWithin incarnation most (entries ++ entry ∷ [])
AllWithin-more incarnation most [] entry within here = (here, tt)
AllWithin-more incarnation most (first ∷ entries) entry within here = (within.0, AllWithin-more incarnation most entries entry within.1 here)

-- none is of a later incarnation
abbrev pub AllUpTo : ℕ → List Entry → Type 0
AllUpTo incarnation [] = Unit {0}
AllUpTo incarnation (entry ∷ entries) = (entry.ltxid.incarnation ≤ incarnation) × AllUpTo incarnation entries

pub within-up_to : (incarnation most : ℕ) (entries : List Entry) → AllWithin incarnation most entries → AllUpTo incarnation entries
within-up_to incarnation most [] within = tt
within-up_to incarnation most (entry ∷ entries) within = (up_to within.0, within-up_to incarnation most entries within.1)
  where
    up_to : Within incarnation most entry → entry.ltxid.incarnation ≤ incarnation
    up_to (Earlier below) = omega arith
    up_to (Among same within) = omega arith

pub up_to-within : (incarnation most : ℕ) (entries : List Entry) → AllUpTo incarnation entries → AllWithin (incarnation + 1) most entries
up_to-within incarnation most [] up_to = tt
up_to-within incarnation most (entry ∷ entries) up_to = (Earlier (omega arith), up_to-within incarnation most entries up_to.1)

pub up_to-next : (incarnation : ℕ) (entries : List Entry) → AllUpTo incarnation entries → AllUpTo (incarnation + 1) entries
up_to-next incarnation [] up_to = tt
up_to-next incarnation (entry ∷ entries) up_to = (omega arith, up_to-next incarnation entries up_to.1)
