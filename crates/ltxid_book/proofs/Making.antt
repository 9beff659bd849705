-- A book that is made from a journal, commit by commit and then block by block.
use Rattle.std.proofs.Common.{◌≡◌, ◌≤◌, ℕ, ◌+◌, ◌==◌, ◌&&◌, ◌||◌, Bool, true, false, List, [], ◌∷◌, ◌++◌, length, filter, if◌then◌else◌, refl, sym, ap, ◌∙◌, arith, length-append}
use Rattle.std.specs.Prelude.{nat_lt}
use Rattle.std.proofs.Math.Bool.{or-true, or-false}
use Rattle.svc_values.specs.declared.entry.Ltxid.{Ltxid}
use Rattle.svc_values.specs.meaning.Identifiers.{is_of, same_ltxid}
use Rattle.ltxid_book.specs.declared.State.{State}
use Rattle.ltxid_book.specs.meaning.Sessions.{untouched}
use Rattle.ltxid_book.specs.Sessions.{with_state}
use Rattle.ltxid_book.specs.meaning.Journal.{Committed, commits_of, last_completed, is_blocked, next_ltxid, state_of, book_of}
use Rattle.ltxid_book.specs.InnerMaking.{counted, marked}
use Rattle.ltxid_book.proofs.Known.{known_with, known_alike, known_step, apart}
use Rattle.ltxid_book.proofs.Journal.{parts_of, state_parts, is_blocked-push, commits_of-same, commits_of-push, last_completed-push}

one_or_none : (b : Bool) (c : Committed) (l : List Committed) (n : ℕ) → length l ≤ n → length (if b then c ∷ l else l) ≤ n + 1
one_or_none true c l n le = omega (arith, le)
one_or_none false c l n le = omega (arith, le)

few : (p : Committed → Bool) (commits : List Committed) → length (filter p commits) ≤ length commits
few p [] = omega arith
few p (c ∷ commits) = let one = one_or_none (p c) c (filter p commits) (length commits) (few p commits) in omega (arith, one)

-- so many commits of a session are counted in a number
pub few_commits : (commits : List Committed) (incarnation session : ℕ) → length (commits_of commits incarnation session) ≤ length commits
few_commits commits incarnation session = few (λ c. is_of c.ltxid incarnation session) commits

count_states : (commits : List Committed) (c : Committed) (incarnation session : ℕ) (own : Bool) → is_of c.ltxid incarnation session ≡ own
    → state_of (commits ++ c ∷ []) [] incarnation session ≡ (let state = state_of commits [] c.ltxid.incarnation c.ltxid.session in if own then record state { next = state.next + 1; completed = c.completed } else state_of commits [] incarnation session)
count_states commits c incarnation session true own =
    let same = commits_of-same commits c.ltxid incarnation session (parts_of c.ltxid incarnation session own) in
    let more = commits_of-push commits c incarnation session true own in
    let state = state_of commits [] c.ltxid.incarnation c.ltxid.session in
    state_parts (state_of (commits ++ c ∷ []) [] incarnation session) (record state { next = state.next + 1; completed = c.completed })
    (ap length more ∙ length-append (commits_of commits incarnation session) (c ∷ []) ∙ ap (λ n. n + 1) (sym (ap length same)))
    refl
    (ap last_completed more ∙ last_completed-push (commits_of commits incarnation session) c)
count_states commits c incarnation session false other =
    ap (λ (l : List Committed). let state : State = record { next = length l; blocked = false; completed = last_completed l } in state)
    (commits_of-push commits c incarnation session false other)

pub counted_on : (horizon : ℕ) (commits : List Committed) (c : Committed) → counted (book_of horizon commits []) c ≡ book_of horizon (commits ++ c ∷ []) []
counted_on horizon commits c =
    known_step horizon (state_of commits []) (state_of (commits ++ c ∷ []) []) c.ltxid (λ (state : State). let one : State = record state { next = state.next + 1; completed = c.completed } in one)
    (λ incarnation session. count_states commits c incarnation session (is_of c.ltxid incarnation session) refl)

mark_states : (commits : List Committed) (blocks : List Ltxid) (x : Ltxid) (incarnation session : ℕ) (own : Bool) → is_of x incarnation session ≡ own
    → state_of commits (blocks ++ x ∷ []) incarnation session ≡ (let state = state_of commits blocks x.incarnation x.session in if own then record state { blocked = state.blocked || (x.number == state.next) } else state_of commits blocks incarnation session)
mark_states commits blocks x incarnation session true own =
    let same = commits_of-same commits x incarnation session (parts_of x incarnation session own) in
    let parts = parts_of x incarnation session own in
    let state = state_of commits blocks x.incarnation x.session in
    let next = next_ltxid commits incarnation session in
    state_parts (state_of commits (blocks ++ x ∷ []) incarnation session) (record state { blocked = state.blocked || (x.number == state.next) })
    (sym (ap length same))
    (is_blocked-push blocks x next (same_ltxid x next) refl
    ∙ ap (λ b. is_blocked blocks next || (b && (x.number == length (commits_of commits incarnation session)))) own
    ∙ sym (λ i. is_blocked blocks (next_ltxid commits (parts.incarnation_is i) (parts.session_is i)) || (x.number == length (commits_of commits (parts.incarnation_is i) (parts.session_is i)))))
    (sym (ap last_completed same))
mark_states commits blocks x incarnation session false other =
    state_parts (state_of commits (blocks ++ x ∷ []) incarnation session) (state_of commits blocks incarnation session) refl
    (is_blocked-push blocks x (next_ltxid commits incarnation session) false (ap (λ b. b && (x.number == length (commits_of commits incarnation session))) other) ∙ or-false _)
    refl

same_still : (commits : List Committed) (blocks : List Ltxid) (x : Ltxid) (incarnation session : ℕ) (own : Bool) → is_of x incarnation session ≡ own
    → (if own then state_of commits blocks x.incarnation x.session else state_of commits blocks incarnation session) ≡ state_of commits blocks incarnation session
same_still commits blocks x incarnation session true own = let parts = parts_of x incarnation session own in λ i. state_of commits blocks (parts.incarnation_is i) (parts.session_is i)
same_still commits blocks x incarnation session false other = refl

pub marked_on : (horizon : ℕ) (commits : List Committed) (blocks : List Ltxid) (x : Ltxid) → marked (book_of horizon commits blocks) x ≡ book_of horizon commits (blocks ++ x ∷ [])
marked_on horizon commits blocks x = by (nat_lt x.incarnation horizon) refl
  where
    all : (incarnation session : ℕ) (test : Bool) → (x.number == length (commits_of commits x.incarnation x.session)) ≡ test
        → state_of commits (blocks ++ x ∷ []) incarnation session ≡ (let state = state_of commits blocks x.incarnation x.session in if is_of x incarnation session then record state { blocked = state.blocked || test } else state_of commits blocks incarnation session)
    all incarnation session test is =
        let state = state_of commits blocks x.incarnation x.session in
        mark_states commits blocks x incarnation session (is_of x incarnation session) refl
        ∙ ap (λ b. let one : State = record state { blocked = state.blocked || b } in if is_of x incarnation session then one else state_of commits blocks incarnation session) is

    next_is : nat_lt x.incarnation horizon ≡ false → (test : Bool) → (x.number == length (commits_of commits x.incarnation x.session)) ≡ test
        → (let state = state_of commits blocks x.incarnation x.session in if test then with_state (book_of horizon commits blocks) x (record state { blocked = true }) else book_of horizon commits blocks) ≡ book_of horizon commits (blocks ++ x ∷ [])
    next_is known true is =
        let state = state_of commits blocks x.incarnation x.session in
        let blocked : State = record state { blocked = true } in
        sym (known_with horizon (state_of commits blocks) (state_of commits (blocks ++ x ∷ [])) x blocked known (λ incarnation session.
        all incarnation session true is
        ∙ ap (λ b. let one : State = record state { blocked = b } in if is_of x incarnation session then one else state_of commits blocks incarnation session) (or-true state.blocked)))
    next_is known false is =
        let state = state_of commits blocks x.incarnation x.session in
        known_alike horizon (state_of commits blocks) (state_of commits (blocks ++ x ∷ [])) (λ incarnation session here. sym (
        all incarnation session false is
        ∙ ap (λ b. let one : State = record state { blocked = b } in if is_of x incarnation session then one else state_of commits blocks incarnation session) (or-false state.blocked)
        ∙ same_still commits blocks x incarnation session (is_of x incarnation session) refl))

    by : (below : Bool) → nat_lt x.incarnation horizon ≡ below
        → (let state = if below then untouched else state_of commits blocks x.incarnation x.session in
        if below then book_of horizon commits blocks else (if x.number == state.next then with_state (book_of horizon commits blocks) x (record state { blocked = true }) else book_of horizon commits blocks)) ≡ book_of horizon commits (blocks ++ x ∷ [])
    by true lost = known_alike horizon (state_of commits blocks) (state_of commits (blocks ++ x ∷ [])) (λ incarnation session known. sym (
        mark_states commits blocks x incarnation session false (apart x horizon incarnation session lost known)))
    by false known = next_is known (x.number == length (commits_of commits x.incarnation x.session)) refl

-- a number of commits is no more than that of all of them
pub next_few : (horizon : ℕ) (commits : List Committed) (incarnation session : ℕ) → ((book_of horizon commits []).state incarnation session).next ≤ length commits
next_few horizon commits incarnation session = by (nat_lt incarnation horizon)
  where
    by : (below : Bool) → (if below then untouched else state_of commits [] incarnation session).next ≤ length commits
    by true = omega arith
    by false = few_commits commits incarnation session
