-- Entries that come from what one session did, and sessions that are apart.
use Rattle.std.proofs.Common.{◌≡◌, ◌<◌, ◌≤◌, ℕ, zero, suc, ◌+◌, ◌==◌, Bool, true, false, List, [], ◌∷◌, ◌++◌, Option, Some, None, refl, sym, ap, ◌∙◌, arith}
use Rattle.std.specs.Prelude.{not, ◌&&◌, ◌||◌, All, cond, filter_map, nat_lt, nat_le, slice_get, if◌then◌else◌}
use Rattle.std.specs.List.{list_all, list_any, cons_option}
use Rattle.std.specs.Option.{option_map_or}
use Rattle.std.proofs.lemmas.Bool.{lt-leb, eqb-true}
use Rattle.std.proofs.lemmas.Bool.Decides.{nat_tests}
use Rattle.std.proofs.lemmas.List.Sums.{sum_by-cons, sum_by-append}
use Rattle.std.proofs.lemmas.List.Elements.{All-head, All-tail, All-contains}
use Rattle.svc_values.specs.declared.entry.Entry.{Entry}
use Rattle.svc_values.specs.declared.entry.SessionId.{SessionId}
use Rattle.svc_values.specs.declared.frame.Up.TheVariants as up
use Rattle.svc_values.specs.declared.frame.Down.TheVariants as down
use Rattle.svc_values.specs.meaning.Identifiers.{same_session, session_of}
use Rattle.svc_values.specs.Laws.{AreExact}
use Rattle.server_model.specs.Laws.{CommitsAs}
use Rattle.server_model.specs.meaning.Outcomes.{Silent, Says, Stopped}
use Rattle.server_model.specs.Runs.{Happened, Served, Asked}
use Rattle.server_model.specs.ServiceCalls.{CameFrom, IsOf}
use Rattle.world_model.specs.records.Basic.{sessions_of, is_made, are_made, living_now, sessions_differ as sessions_differ_in}
use Rattle.world_model.specs.Coupled.{entries_in, living_of}
use Rattle.world_model.specs.meaning.Links.{Link, link_at}
use Rattle.world_model.specs.meaning.Machines.{next_session}
use Rattle.world_model.specs.Parts.{implies}
use Rattle.world_model.specs.Sames.{all_with, each_pair}
use Rattle.world_model.specs.Traced.{Traced}

-- COUNTED -----------------------------------------------------------------------------------------

abbrev pub counts : SessionId → Entry → ℕ
counts session entry = cond (same_session (session_of entry.ltxid) session) 1 0

entries_more : (old more : List Entry) (session : SessionId) → entries_in (old ++ more) session ≡ entries_in old session + entries_in more session
entries_more old more session = sum_by-append (counts session) old more

-- each is of this session
abbrev pub AreOf : SessionId → List Entry → Type 0
AreOf session [] = Unit {0}
AreOf session (entry ∷ entries) = (session ≡ session_of entry.ltxid) × AreOf session entries

pub sessions_differ : AreExact → (a b : SessionId) → (a ≡ b → ⊥) → same_session a b ≡ false
sessions_differ exact a b apart = by (same_session a b) refl
  where
    by : (told : Bool) → same_session a b ≡ told → same_session a b ≡ false
    by true told = absurd (apart ((exact.sessions a b).0 told))
    by false told = told

none_of : AreExact → (session other : SessionId) (more : List Entry) → AreOf session more → (other ≡ session → ⊥) → entries_in more other ≡ 0
none_of exact session other [] are apart = refl
none_of exact session other (entry ∷ more) are apart =
    let none : counts other entry ≡ 0 = ap (λ b. cond b 1 0) (sessions_differ exact (session_of entry.ltxid) other (λ same. apart (sym same ∙ sym are.0))) in
    let rest : entries_in more other ≡ 0 = none_of exact session other more are.1 apart in
    sum_by-cons (counts other) entry more ∙ ap (λ (n : ℕ). n + entries_in more other) none ∙ ap (λ (n : ℕ). 0 + n) rest

pub none_more : (n : ℕ) → n + 0 ≡ n
none_more n = omega arith

-- other sessions have no more than before
pub others_counted : AreExact → (session other : SessionId) (old more : List Entry) → AreOf session more → (other ≡ session → ⊥) → entries_in (old ++ more) other ≡ entries_in old other
others_counted exact session other old more are apart =
    entries_more old more other ∙ ap (λ (n : ℕ). entries_in old other + n) (none_of exact session other more are apart) ∙ none_more (entries_in old other)

-- one entry more of this session
pub one_of : AreExact → (session : SessionId) (old : List Entry) (entry : Entry) → session ≡ session_of entry.ltxid → entries_in (old ++ entry ∷ []) session ≡ entries_in old session + 1
one_of exact session old entry own =
    let here : counts session entry ≡ 1 = ap (λ b. cond b 1 0) ((exact.sessions (session_of entry.ltxid) session).1 (sym own)) in
    let one : entries_in (entry ∷ []) session ≡ 1 = sum_by-cons (counts session) entry [] ∙ ap (λ (n : ℕ). n + 0) here in
    entries_more old (entry ∷ []) session ∙ ap (λ (n : ℕ). entries_in old session + n) one

-- COME FROM ---------------------------------------------------------------------------------------

committed_of : (session : SessionId) (entry : Entry) (one : Happened) → IsOf session one → CommitsAs entry one → session ≡ session_of entry.ltxid
committed_of session entry (Served other now (up.Call replay kept called) (Says (down.Reply answers draws x))) of commits = sym of ∙ commits.0
committed_of session entry (Served other now (up.Call replay kept called) Stopped) of commits = sym of ∙ commits.0
committed_of session entry (Served other now (up.Call replay kept called) Silent) of commits = absurd commits
committed_of session entry (Served other now (up.Call replay kept called) (Says (down.Hello x))) of commits = absurd commits
committed_of session entry (Served other now (up.Call replay kept called) (Says (down.OutcomeIs committed completed))) of commits = absurd commits
committed_of session entry (Served other now (up.Call replay kept called) (Says (down.OutcomeRefused ahead next))) of commits = absurd commits
committed_of session entry (Served other now (up.Call replay kept called) (Says down.Blocked)) of commits = absurd commits
committed_of session entry (Served other now (up.Call replay kept called) (Says (down.Refused cause))) of commits = absurd commits
committed_of session entry (Served other now up.Connect told) of commits = absurd commits
committed_of session entry (Served other now (up.Begin settings) told) of commits = absurd commits
committed_of session entry (Served other now (up.Outcome x) told) of commits = absurd commits
committed_of session entry (Served other now up.End told) of commits = absurd commits
committed_of session entry (Served other now up.Close told) of commits = absurd commits
committed_of session entry (Asked x told) of commits = absurd of

-- what came from what a session did is of the session
pub came_of : (session : SessionId) (happened : List Happened) (more : List Entry) → All (IsOf session) happened → All (CameFrom happened) more → AreOf session more
came_of session happened [] all came = tt
came_of session happened (entry ∷ more) all came =
    let from = All-head (CameFrom happened) entry more came in
    (committed_of session entry from.0 (All-contains (IsOf session) happened from.0 all from.1.0) from.1.1, came_of session happened more all (All-tail (CameFrom happened) entry more came))

-- THE NEXT SESSION --------------------------------------------------------------------------------

pub both : (a b : Bool) → (a && b) ≡ true → (a ≡ true) × (b ≡ true)
both true b e = (refl, e)
both false b e = absurd (let nothing : ⊥ = cc in nothing)

some_named : (a b : SessionId) → ◌≡◌ {A = Option SessionId} (Some a) (Some b) → a ≡ b
some_named a b e = cc

passes_first : (test : SessionId → Bool) (known : Option SessionId) (later : List SessionId) (session : SessionId) → list_all test (cons_option known later) ≡ true → known ≡ Some session → test session ≡ true
passes_first test None later session all named = absurd (let nothing : ⊥ = cc in nothing)
passes_first test (Some one) later session all named = ap test (sym (some_named one session named)) ∙ (both (test one) (list_all test later) all).0

passes_rest : (test : SessionId → Bool) (known : Option SessionId) (later : List SessionId) → list_all test (cons_option known later) ≡ true → list_all test later ≡ true
passes_rest test None later all = all
passes_rest test (Some one) later all = (both (test one) (list_all test later) all).1

same_link : (a b : Link) → ◌≡◌ {A = Option Link} (Some a) (Some b) → a ≡ b
same_link a b e = cc

abbrev named : List Link → List SessionId
named links = filter_map (λ link. link.session) links

passes_at : (test : SessionId → Bool) (links : List Link) (index : ℕ) (link : Link) (session : SessionId) → list_all test (named links) ≡ true → slice_get links index ≡ Some link → link.session ≡ Some session → test session ≡ true
passes_at test [] index link session all there is = absurd (let nothing : ⊥ = cc in nothing)
passes_at test (one ∷ links) zero link session all there is = passes_first test one.session (named links) session all (ap (λ (l : Link). l.session) (same_link one link there) ∙ is)
passes_at test (one ∷ links) (suc index) link session all there is = passes_at test links index link session (passes_rest test one.session (named links) all) there is

pub passes : (test : SessionId → Bool) (links : List Link) (number : ℕ) (link : Link) (session : SessionId) → list_all test (named links) ≡ true → link_at links number ≡ Some link → link.session ≡ Some session → test session ≡ true
passes test links zero link session all there is = absurd (let nothing : ⊥ = cc in nothing)
passes test links (suc index) link session all there is = passes_at test links index link session all there is

neither : (a b c d : Bool) → b ≡ false → d ≡ false → (a && (b || (c && d))) ≡ false
neither true b true d p q = rw (p, q) refl
neither true b false d p q = rw p refl
neither false b c d p q = refl

pub unmade : (t : Traced) → is_made t (next_session t.machine.server) ≡ false
unmade t =
    let incarnation = t.machine.server.incarnation in
    let sessions = t.machine.server.sessions in
    neither (nat_lt 0 (sessions + 1)) (nat_lt incarnation incarnation) (incarnation == incarnation) (nat_le (sessions + 1) sessions) (lt-leb (suc incarnation) incarnation (omega arith)) (lt-leb (sessions + 1) sessions (omega arith))

living_session : (link : Link) (living : Bool) (session : SessionId) → (if living then Some link.session else None) ≡ Some (Some session) → link.session ≡ Some session
living_session link true session e = some_known link.session (Some session) e
  where
    some_known : (a b : Option SessionId) → ◌≡◌ {A = Option (Option SessionId)} (Some a) (Some b) → a ≡ b
    some_known a b e = cc
living_session link false session e = absurd (let nothing : ⊥ = cc in nothing)

-- no connection has the session that is made next
pub next_apart : (t : Traced) → are_made t ≡ true → (number : ℕ) (link : Link) → link_at t.machine.links number ≡ Some link → living_of (Some link) ≡ Some (Some (next_session t.machine.server)) → ⊥
next_apart t made number link there living =
    let session = next_session t.machine.server in
    let is : is_made t session ≡ true = passes (is_made t) t.machine.links number link session (both (list_all (is_made t) (sessions_of t)) (list_all (is_made t) t.outside) made).0 there (living_session link link.is_living session living) in
    let clash : true ≡ false = sym is ∙ unmade t in
    cc

-- SESSIONS THAT LIVE ------------------------------------------------------------------------------

pub all_at : (test : Link → Bool) (links : List Link) (index : ℕ) (link : Link) → list_all test links ≡ true → slice_get links index ≡ Some link → test link ≡ true
all_at test [] index link all there = absurd (let nothing : ⊥ = cc in nothing)
all_at test (one ∷ links) zero link all there = ap test (sym (same_link one link there)) ∙ (both (test one) (list_all test links) all).0
all_at test (one ∷ links) (suc index) link all there = all_at test links index link (both (test one) (list_all test links) all).1 there

pub all_there : (test : Link → Bool) (links : List Link) (number : ℕ) (link : Link) → list_all test links ≡ true → link_at links number ≡ Some link → test link ≡ true
all_there test links zero link all there = absurd (let nothing : ⊥ = cc in nothing)
all_there test links (suc index) link all there = all_at test links index link all there

-- the session of a connection that lives is of this incarnation
abbrev is_now : ℕ → Link → Bool
is_now incarnation link = option_map_or (λ session. implies link.is_living (session.incarnation == incarnation)) link.session true

now_by : (incarnation : ℕ) (living : Bool) (known : Option SessionId) (session : SessionId) → living ≡ true → known ≡ Some session → option_map_or (λ one. implies living (one.incarnation == incarnation)) known true ≡ true → session.incarnation ≡ incarnation
now_by incarnation living None session lives is now = absurd (let nothing : ⊥ = cc in nothing)
now_by incarnation false (Some one) session lives is now = absurd (let nothing : ⊥ = cc in nothing)
now_by incarnation true (Some one) session lives is now = ap (λ (s : SessionId). s.incarnation) (sym (some_named one session is)) ∙ eqb-true one.incarnation incarnation now

pub living_is_now : (t : Traced) → living_now t ≡ true → (number : ℕ) (link : Link) (session : SessionId) → link_at t.machine.links number ≡ Some link → link.is_living ≡ true → link.session ≡ Some session → session.incarnation ≡ t.machine.server.incarnation
living_is_now t now number link session there lives is =
    now_by t.machine.server.incarnation link.is_living link.session session lives is (all_there (is_now t.machine.server.incarnation) t.machine.links number link now there)

made_at_most : (t : Traced) (session : SessionId) → is_made t session ≡ true → session.incarnation ≡ t.machine.server.incarnation → session.session ≤ t.machine.server.sessions
made_at_most t session made same = by (nat_lt session.incarnation t.machine.server.incarnation) refl (both (nat_lt 0 session.session) (nat_lt session.incarnation t.machine.server.incarnation || ((session.incarnation == t.machine.server.incarnation) && nat_le session.session t.machine.server.sessions)) made).1
  where
    by : (less : Bool) → nat_lt session.incarnation t.machine.server.incarnation ≡ less → (less || ((session.incarnation == t.machine.server.incarnation) && nat_le session.session t.machine.server.sessions)) ≡ true → session.session ≤ t.machine.server.sessions
    by true told is = absurd (let below : session.incarnation < t.machine.server.incarnation = grind (arith, nat_tests, told) in let nothing : ⊥ = omega (arith, below, same) in nothing)
    by false told is = let most = (both (session.incarnation == t.machine.server.incarnation) (nat_le session.session t.machine.server.sessions) is).1 in grind (arith, nat_tests, most)

-- the session of a connection that lives was made in this incarnation
pub session_made : (t : Traced) (number : ℕ) (link : Link) (session : SessionId) → are_made t ≡ true → living_now t ≡ true → link_at t.machine.links number ≡ Some link → link.is_living ≡ true → link.session ≡ Some session
    → (session.incarnation ≡ t.machine.server.incarnation) × (session.session ≤ t.machine.server.sessions)
session_made t number link session made now there lives is =
    let same = living_is_now t now number link session there lives is in
    let was : is_made t session ≡ true = passes (is_made t) t.machine.links number link session (both (list_all (is_made t) (sessions_of t)) (list_all (is_made t) t.outside) made).0 there is in
    (same, made_at_most t session was same)

-- NO TWO ARE ONE ----------------------------------------------------------------------------------

abbrev are_two : SessionId → SessionId → Bool
are_two a b = not (same_session a b)

all_later : (test : SessionId → Bool) (later : List SessionId) → all_with test later ≡ true → list_all test later ≡ true
all_later test [] all = refl
all_later test (one ∷ later) all = let parts = both (test one) (all_with test later) all in rw (parts.0, all_later test later parts.1) refl

pair_first : (known : Option SessionId) (later : List SessionId) (session : SessionId) → each_pair are_two (cons_option known later) ≡ true → known ≡ Some session → list_all (are_two session) later ≡ true
pair_first None later session pairs is = absurd (let nothing : ⊥ = cc in nothing)
pair_first (Some one) later session pairs is = ap (λ s. list_all (are_two s) later) (sym (some_named one session is)) ∙ all_later (are_two one) later (both (all_with (are_two one) later) (each_pair are_two later) pairs).0

pair_rest : (known : Option SessionId) (later : List SessionId) → each_pair are_two (cons_option known later) ≡ true → each_pair are_two later ≡ true
pair_rest None later pairs = pairs
pair_rest (Some one) later pairs = (both (all_with (are_two one) later) (each_pair are_two later) pairs).1

not_itself : AreExact → (session : SessionId) → are_two session session ≡ true → ⊥
not_itself exact session told = let clash : true ≡ false = sym told ∙ ap not ((exact.sessions session session).1 refl) in cc

two_at : AreExact → (links : List Link) (a b : ℕ) (one other : Link) (session : SessionId) → each_pair are_two (named links) ≡ true → slice_get links a ≡ Some one → slice_get links b ≡ Some other → one.session ≡ Some session → other.session ≡ Some session → (a ≡ b → ⊥) → ⊥
two_at exact [] a b one other session pairs first second is also apart = let nothing : ⊥ = cc in nothing
two_at exact (link ∷ links) zero zero one other session pairs first second is also apart = apart refl
two_at exact (link ∷ links) zero (suc b) one other session pairs first second is also apart =
    not_itself exact session (passes_at (are_two session) links b other session (pair_first link.session (named links) session pairs (ap (λ (l : Link). l.session) (same_link link one first) ∙ is)) second also)
two_at exact (link ∷ links) (suc a) zero one other session pairs first second is also apart =
    not_itself exact session (passes_at (are_two session) links a one session (pair_first link.session (named links) session pairs (ap (λ (l : Link). l.session) (same_link link other second) ∙ also)) first is)
two_at exact (link ∷ links) (suc a) (suc b) one other session pairs first second is also apart =
    two_at exact links a b one other session (pair_rest link.session (named links) pairs) first second is also (λ same. apart (ap suc same))

two_there : AreExact → (links : List Link) (a b : ℕ) (one other : Link) (session : SessionId) → each_pair are_two (named links) ≡ true → link_at links a ≡ Some one → link_at links b ≡ Some other → one.session ≡ Some session → other.session ≡ Some session → (a ≡ b → ⊥) → ⊥
two_there exact links zero b one other session pairs first second is also apart = let nothing : ⊥ = cc in nothing
two_there exact links (suc a) zero one other session pairs first second is also apart = let nothing : ⊥ = cc in nothing
two_there exact links (suc a) (suc b) one other session pairs first second is also apart = two_at exact links a b one other session pairs first second is also (λ same. apart (ap suc same))

-- no two connections have one session
pub sessions_apart : AreExact → (t : Traced) → sessions_differ_in t ≡ true → (a b : ℕ) (one other : Link) (session : SessionId) → link_at t.machine.links a ≡ Some one → link_at t.machine.links b ≡ Some other → one.session ≡ Some session
    → living_of (Some other) ≡ Some (Some session) → (a ≡ b → ⊥) → ⊥
sessions_apart exact t differ a b one other session first second is living apart =
    two_there exact t.machine.links a b one other session (both (each_pair are_two (sessions_of t)) (list_all (λ s. not (list_any (same_session s) t.outside)) (sessions_of t)) differ).0 first second is (living_session other other.is_living session living) apart
