-- The entries of each session are numbered in order: those of an image, and behind them what a
-- service gained.
use Rattle.std.proofs.Common.{◌≡◌, refl, sym, ap, subst, ◌∙◌, Bool, true, false, ℕ, zero, suc, ◌+◌, ◌<◌, cond, length, List, [], ◌∷◌, ◌++◌, map, filter, ◌⊎◌, inl, inr, arith}
use Rattle.std.specs.Prelude.{◌==◌, not, nat_lt}
use Rattle.std.specs.List.{list_all, list_any, range_with_len}
use Rattle.std.proofs.lemmas.List.{append-nil, append_assoc, map-append, length-map}
use Rattle.std.proofs.lemmas.Bool.{and_parts, and_from, or_cases}
use Rattle.std.proofs.lemmas.List.Elements.{filter-append}
use Rattle.std.proofs.lemmas.List.Sums.{sum_by-cons, sum_by_push}
use Rattle.svc_values.specs.declared.entry.Ltxid.{Ltxid}
use Rattle.svc_values.specs.declared.entry.Entry.{Entry}
use Rattle.svc_values.specs.declared.entry.SessionId.{SessionId}
use Rattle.svc_values.specs.meaning.Identifiers.{is_of_session, session_of, same_ltxid, ltxid_of}
use Rattle.svc_values.specs.SameLaws.{same_ltxid_decides}
use Rattle.ltxid_book.specs.meaning.Journal.{Committed, committed_of, commits_of}
use Rattle.commit_log.specs.Keeping.{ltxids_of}
use Rattle.server_model.specs.Laws.{AreNumbered}
use Rattle.run_clauses.specs.meaning.EntryEvents.{entries_of}
use Rattle.run_clauses.specs.meaning.Tried.{holds}
use Rattle.world_model.specs.records.Number.{numbered_after}
use Rattle.world_model.proofs.number.Blocks.{commits_count}
use Rattle.world_model.proofs.hold.Held.{counted_self}
use Rattle.world_model.proofs.events.Tests.{eq_from, eq_to, lt_from, lt_to, session_self}

-- COUNTS ------------------------------------------------------------------------------------------

pub entries_cons : (entry : Entry) (entries : List Entry) (session : SessionId) → entries_of (entry ∷ entries) session ≡ cond (is_of_session session entry.ltxid) 1 0 + entries_of entries session
entries_cons entry entries session = sum_by-cons (λ (one : Entry). cond (is_of_session session one.ltxid) 1 0) entry entries

pub entries_push : (entries : List Entry) (entry : Entry) (session : SessionId) → entries_of (entries ++ entry ∷ []) session ≡ entries_of entries session + cond (is_of_session session entry.ltxid) 1 0
entries_push entries entry session = sum_by_push (λ (one : Entry). cond (is_of_session session one.ltxid) 1 0) entries entry

-- as many of each session
abbrev SameCounts : List Entry → List Entry → Type 0
SameCounts a b = (session : SessionId) → entries_of a session ≡ entries_of b session

counts_pushed : (a b : List Entry) (entry : Entry) → SameCounts a b → SameCounts (entry ∷ a) (b ++ entry ∷ [])
counts_pushed a b entry same session =
    let one : entries_of (entry ∷ a) session ≡ cond (is_of_session session entry.ltxid) 1 0 + entries_of a session = entries_cons entry a session in
    let other : entries_of (b ++ entry ∷ []) session ≡ entries_of b session + cond (is_of_session session entry.ltxid) 1 0 = entries_push b entry session in
    let here : entries_of a session ≡ entries_of b session = same session in
    omega arith

-- NUMBERS -----------------------------------------------------------------------------------------

next_is : (before entries : List Entry) (entry : Entry) → entry.ltxid.number ≡ entries_of before (session_of entry.ltxid) → numbered_after (entry ∷ before) entries ≡ true → numbered_after before (entry ∷ entries) ≡ true
next_is before entries entry same later =
    and_from (entry.ltxid.number == entries_of before (session_of entry.ltxid)) (numbered_after (entry ∷ before) entries) (eq_to entry.ltxid.number (entries_of before (session_of entry.ltxid)) same) later

pub numbered_parts : (before entries : List Entry) (entry : Entry) → numbered_after before (entry ∷ entries) ≡ true → (entry.ltxid.number ≡ entries_of before (session_of entry.ltxid)) × (numbered_after (entry ∷ before) entries ≡ true)
numbered_parts before entries entry here =
    let parts = and_parts (entry.ltxid.number == entries_of before (session_of entry.ltxid)) (numbered_after (entry ∷ before) entries) here in
    (eq_from entry.ltxid.number (entries_of before (session_of entry.ltxid)) parts.0, parts.1)

-- what a service gained
gained_numbered : (before base gained : List Entry) → SameCounts before base → AreNumbered base gained → numbered_after before gained ≡ true
gained_numbered before base [] same are = refl
gained_numbered before base (entry ∷ gained) same are =
    next_is before gained entry (ap (λ (x : Ltxid). x.number) are.0 ∙ (commits_count entry.ltxid base ∙ sym (same (session_of entry.ltxid))))
    (gained_numbered (entry ∷ before) (base ++ entry ∷ []) gained (counts_pushed before base entry same) are.1)

numbered_front : (before xs ys : List Entry) → numbered_after before (xs ++ ys) ≡ true → numbered_after before xs ≡ true
numbered_front before [] ys here = refl
numbered_front before (x ∷ xs) ys here = let parts = numbered_parts before (xs ++ ys) x here in next_is before xs x parts.0 (numbered_front (x ∷ before) xs ys parts.1)

numbered_join : (before done xs gained : List Entry) → SameCounts before done → numbered_after before xs ≡ true → AreNumbered (done ++ xs) gained → numbered_after before (xs ++ gained) ≡ true
numbered_join before done [] gained same here are = gained_numbered before done gained same (subst (λ (base : List Entry). AreNumbered base gained) (append-nil done) are)
numbered_join before done (x ∷ xs) gained same here are =
    let parts = numbered_parts before xs x here in
    next_is before (xs ++ gained) x parts.0
    (numbered_join (x ∷ before) (done ++ x ∷ []) xs gained (counts_pushed before done x same) parts.1 (subst (λ (base : List Entry). AreNumbered base gained) (sym (append_assoc done (x ∷ []) xs)) are))

-- entries of a store behind those of its start
pub numbered_on : (start gained more : List Entry) → numbered_after [] (start ++ gained) ≡ true → AreNumbered start more → numbered_after [] (start ++ more) ≡ true
numbered_on start gained more here are = numbered_join [] [] start more (λ session. refl) (numbered_front [] start gained here) are

-- AN IMAGE ----------------------------------------------------------------------------------------

nth_range : {A : Type 0} (g : ℕ → A) (start n : ℕ) (xs ys : List A) (a : A) → xs ++ a ∷ ys ≡ map g (range_with_len start n) → a ≡ g (start + length xs)
nth_range g start zero [] ys a is = absurd (let none : ⊥ = cc in none)
nth_range g start zero (x ∷ xs) ys a is = absurd (let none : ⊥ = cc in none)
nth_range g start (suc n) [] ys a is = let first : a ≡ g start = cc in let same : start ≡ start + 0 = omega arith in first ∙ ap g same
nth_range g start (suc n) (x ∷ xs) ys a is =
    let rest : xs ++ a ∷ ys ≡ map g (range_with_len (start + 1) n) = cc in
    let same : (start + 1) + length xs ≡ start + length (x ∷ xs) = omega arith in
    nth_range g (start + 1) n xs ys a rest ∙ ap g same

kept_self : (one : Committed) (ones : List Committed) (test : Bool) → test ≡ true → cond test (one ∷ ones) ones ≡ one ∷ ones
kept_self one ones true is = refl
kept_self one ones false is = absurd (let none : ⊥ = cc in none)

split_at : (done rest : List Entry) (entry : Entry) → ltxids_of (done ++ entry ∷ rest) (session_of entry.ltxid) ≡ ltxids_of done (session_of entry.ltxid) ++ entry.ltxid ∷ ltxids_of rest (session_of entry.ltxid)
split_at done rest entry =
    let mine : Committed → Bool = λ c. is_of_session (session_of entry.ltxid) c.ltxid in
    let name : Committed → Ltxid = λ c. c.ltxid in
    ap (λ (all : List Committed). map name (filter mine all)) (map-append committed_of done (entry ∷ rest))
    ∙ (ap (map name) (filter-append mine (map committed_of done) (committed_of entry ∷ map committed_of rest))
    ∙ (ap (λ (all : List Committed). map name (filter mine (map committed_of done) ++ all)) (kept_self (committed_of entry) (filter mine (map committed_of rest)) (mine (committed_of entry)) (session_self (session_of entry.ltxid)))
    ∙ map-append name (filter mine (map committed_of done)) (committed_of entry ∷ filter mine (map committed_of rest))))

count_names : (entries : List Entry) (x : Ltxid) → length (ltxids_of entries (session_of x)) ≡ entries_of entries (session_of x)
count_names entries x = length-map (commits_of (map committed_of entries) x.incarnation x.session) (λ (c : Committed). c.ltxid) ∙ commits_count x entries

numbered_by : (done before rest : List Entry) → SameCounts before done → ((session : SessionId) → ltxids_of (done ++ rest) session ≡ map (ltxid_of session) (range_with_len 0 (length (ltxids_of (done ++ rest) session)))) → numbered_after before rest ≡ true
numbered_by done before [] same counted = refl
numbered_by done before (entry ∷ rest) same counted =
    let session : SessionId = session_of entry.ltxid in
    let at : entry.ltxid ≡ ltxid_of session (0 + length (ltxids_of done session)) =
    nth_range (ltxid_of session) 0 (length (ltxids_of (done ++ entry ∷ rest) session)) (ltxids_of done session) (ltxids_of rest session) entry.ltxid (sym (split_at done rest entry) ∙ counted session) in
    let number : entry.ltxid.number ≡ 0 + length (ltxids_of done session) = ap (λ (x : Ltxid). x.number) at in
    let count : length (ltxids_of done session) ≡ entries_of done session = count_names done entry.ltxid in
    let here : entries_of before session ≡ entries_of done session = same session in
    let is : entry.ltxid.number ≡ entries_of before session = omega arith in
    next_is before rest entry is
    (numbered_by (done ++ entry ∷ []) (entry ∷ before) rest (counts_pushed before done entry same)
    (subst (λ (all : List Entry). (s : SessionId) → ltxids_of all s ≡ map (ltxid_of s) (range_with_len 0 (length (ltxids_of all s)))) (sym (append_assoc done (entry ∷ []) rest)) counted))

pub image_numbered : (entries : List Entry) → ((session : SessionId) → ltxids_of entries session ≡ map (ltxid_of session) (range_with_len 0 (length (ltxids_of entries session)))) → numbered_after [] entries ≡ true
image_numbered entries counted = numbered_by [] [] entries (λ session. refl) counted

-- NO BLOCKED ONE ----------------------------------------------------------------------------------

-- the number of an entry is below the count of its session's entries
below_count : (before entries : List Entry) → numbered_after before entries ≡ true → (total : SessionId → ℕ) → ((session : SessionId) → total session ≡ entries_of before session + entries_of entries session)
    → list_all (λ entry. nat_lt entry.ltxid.number (total (session_of entry.ltxid))) entries ≡ true
below_count before [] here total sum = refl
below_count before (entry ∷ entries) here total sum =
    let parts = numbered_parts before entries entry here in
    let session : SessionId = session_of entry.ltxid in
    let number : entry.ltxid.number ≡ entries_of before session = parts.0 in
    let all : total session ≡ entries_of before session + entries_of (entry ∷ entries) session = sum session in
    let split : entries_of (entry ∷ entries) session ≡ entries_of entries session + 1 = entries_cons entry entries session ∙ counted_self (is_of_session session entry.ltxid) (entries_of entries session) (session_self session) in
    and_from (nat_lt entry.ltxid.number (total session)) (list_all (λ one. nat_lt one.ltxid.number (total (session_of one.ltxid))) entries) (lt_to entry.ltxid.number (total session) (omega arith))
    (below_count (entry ∷ before) entries parts.1 total
    (λ other.
    let whole : total other ≡ entries_of before other + entries_of (entry ∷ entries) other = sum other in
    let first : entries_of (entry ∷ entries) other ≡ cond (is_of_session other entry.ltxid) 1 0 + entries_of entries other = entries_cons entry entries other in
    let second : entries_of (entry ∷ before) other ≡ cond (is_of_session other entry.ltxid) 1 0 + entries_of before other = entries_cons entry before other in
    omega arith))

pub all_below : (entries : List Entry) → numbered_after [] entries ≡ true → list_all (λ entry. nat_lt entry.ltxid.number (entries_of entries (session_of entry.ltxid))) entries ≡ true
all_below entries here = below_count [] entries here (entries_of entries) (λ session. let same : entries_of entries session ≡ 0 + entries_of entries session = omega arith in same)

held_next : (entries : List Entry) (blocked : List Ltxid) (x : Ltxid) → list_all (λ one. one.number == entries_of entries (session_of one)) blocked ≡ true → holds blocked x ≡ true → x.number ≡ entries_of entries (session_of x)
held_next entries [] x next is = absurd (let none : ⊥ = cc in none)
held_next entries (one ∷ blocked) x next is = by (or_cases (same_ltxid x one) (list_any (same_ltxid x) blocked) is) (held_next entries blocked x parts.1)
  where
    parts : ((one.number == entries_of entries (session_of one)) ≡ true) × (list_all (λ y. y.number == entries_of entries (session_of y)) blocked ≡ true)
    parts = and_parts (one.number == entries_of entries (session_of one)) (list_all (λ y. y.number == entries_of entries (session_of y)) blocked) next

    by : (same_ltxid x one ≡ true) ⊎ (list_any (same_ltxid x) blocked ≡ true) → (holds blocked x ≡ true → x.number ≡ entries_of entries (session_of x)) → x.number ≡ entries_of entries (session_of x)
    by (inl same) again = subst (λ (y : Ltxid). y.number ≡ entries_of entries (session_of y)) (sym ((same_ltxid_decides x one).0 same)) (eq_from one.number (entries_of entries (session_of one)) parts.0)
    by (inr later) again = again later

pub none_held : (entries all : List Entry) (blocked : List Ltxid) → list_all (λ one. one.number == entries_of all (session_of one)) blocked ≡ true → list_all (λ entry. nat_lt entry.ltxid.number (entries_of all (session_of entry.ltxid))) entries ≡ true
    → list_all (λ entry. not (holds blocked entry.ltxid)) entries ≡ true
none_held [] all blocked next below = refl
none_held (entry ∷ entries) all blocked next below =
    let parts = and_parts (nat_lt entry.ltxid.number (entries_of all (session_of entry.ltxid))) (list_all (λ one. nat_lt one.ltxid.number (entries_of all (session_of one.ltxid))) entries) below in
    let under : entry.ltxid.number < entries_of all (session_of entry.ltxid) = lt_from entry.ltxid.number (entries_of all (session_of entry.ltxid)) parts.0 in
    and_from (not (holds blocked entry.ltxid)) (list_all (λ one. not (holds blocked one.ltxid)) entries)
    (by (holds blocked entry.ltxid) refl under) (none_held entries all blocked next parts.1)
  where
    by : (held : Bool) → holds blocked entry.ltxid ≡ held → entry.ltxid.number < entries_of all (session_of entry.ltxid) → not held ≡ true
    by true is under = let same : entry.ltxid.number ≡ entries_of all (session_of entry.ltxid) = held_next all blocked entry.ltxid next is in absurd (let never : ⊥ = omega arith in never)
    by false is under = refl
