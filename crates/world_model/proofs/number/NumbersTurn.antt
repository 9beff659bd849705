-- Behind an event each connection's session is as far ahead of what is held as what is out
-- explains.
use Rattle.std.proofs.Common.{◌≡◌, refl, sym, ap, ◌∙◌, Bool, true, false, ℕ, suc, ◌+◌, ◌<◌, ◌&&◌, cond, List, [], ◌∷◌, Option, Some, None, ◌⊎◌, inl, inr, arith, if◌then◌else◌}
use Rattle.std.specs.Prelude.{◌==◌, ◌||◌, nat_lt, nat_le, slice_get}
use Rattle.std.specs.List.{list_all}
use Rattle.std.proofs.lemmas.Bool.{and_parts, and_from, or_cases}
use Rattle.svc_values.specs.declared.entry.Entry.{Entry}
use Rattle.svc_values.specs.declared.entry.SessionId.{SessionId}
use Rattle.svc_values.specs.meaning.Identifiers.{session_of, is_of_session}
use Rattle.outage_schedule.specs.declared.item.Served.{Served}
use Rattle.outage_schedule.specs.declared.note.FrameName.{FrameName}
use Rattle.run_clauses.specs.meaning.EntryEvents.{entries_of}
use Rattle.world_model.specs.meaning.Links.{Link, link_at}
use Rattle.world_model.specs.meaning.Machines.{Server, Machine, next_session}
use Rattle.world_model.specs.meaning.Settings.{Setting}
use Rattle.world_model.specs.meaning.Matching.{Noted, ServedOn, Crashed}
use Rattle.world_model.specs.meaning.Noting.{only_if, same_name, name_of}
use Rattle.world_model.specs.meaning.Serving.{Front, front_at, is_of_front, is_ordinary, is_item_of, serves, after_served}
use Rattle.world_model.specs.meaning.Crashing.{is_stopped, is_over, falls, serves_last, after_stopped}
use Rattle.world_model.specs.meaning.Walking.{by_kind}
use Rattle.world_model.proofs.number.Gaining.{made_before}
use Rattle.world_model.proofs.number.GainedQuiet.{serves_at}
use Rattle.world_model.proofs.events.Happened.{left_or}
use Rattle.world_model.proofs.events.Items.{reaches, reaches_if, mapped}
use Rattle.world_model.proofs.number.Numbered.{entries_cons}
use Rattle.world_model.proofs.events.Tests.{lt_from, same_session_is}

-- THE FRAME THAT IS SERVED ------------------------------------------------------------------------

-- the front is of its connection's session, and its item is the one that is taken
pub record FrontServed (m : Machine) (front : Front) (served : Served) (rest left : List Served) : Type 0 where
  pub of_front : is_of_front m front served ≡ true
  pub left_is : rest ≡ left

serves_met : (m n : Machine) (number : ℕ) (frame : Option FrameName) (front : Front) (served : Served) (rest left : List Served) → serves m number frame (served ∷ rest) (Some front) ≡ Some (n, left) → FrontServed m front served rest left
serves_met m n number None front served rest left e = absurd (let none : ⊥ = cc in none)
serves_met m n number (Some name) front served rest left e = by (same_name name (name_of front.first.frame) && is_ordinary m front served) refl e
  where
    by : (test : Bool) → (same_name name (name_of front.first.frame) && is_ordinary m front served) ≡ test → reaches_if test (after_served m number front served) rest ≡ Some (n, left) → FrontServed m front served rest left
    by true met e =
        record { of_front = (and_parts (is_of_front m front served) (is_item_of front.first.frame served.item) (and_parts (same_name name (name_of front.first.frame)) (is_ordinary m front served) met).1).0; left_is = ap (left_or rest) e }
    by false met e = absurd (let none : ⊥ = cc in none)

last_met : (m n : Machine) (number after : ℕ) (failover : Bool) (front : Front) (served : Served) (rest left : List Served) → mapped (falls failover) (serves_last m number after (served ∷ rest) (Some front)) ≡ Some (n, left) → FrontServed m front served rest left
last_met m n number after failover front served rest left e = by (is_stopped m after front served) (is_over m after front served) refl refl e
  where
    by : (stopped over : Bool) → is_stopped m after front served ≡ stopped → is_over m after front served ≡ over
        → mapped (falls failover) (if stopped then reaches (after_stopped m number front served) rest else reaches_if over (after_served m number front served) rest) ≡ Some (n, left) → FrontServed m front served rest left
    by true over is so e = record { of_front = (and_parts (is_of_front m front served) _ is).0; left_is = ap (left_or rest) e }
    by false true is so e = record { of_front = (and_parts (is_of_front m front served) (is_item_of front.first.frame served.item) (and_parts (is_ordinary m front served) _ so).0).0; left_is = ap (left_or rest) e }
    by false false is so e = absurd (let none : ⊥ = cc in none)

crash_met : (m n : Machine) (number after : ℕ) (failover is_up down : Bool) (front : Front) (served : Served) (rest left : List Served) → is_up ≡ true
    → (if is_up then (if down then None else mapped (falls failover) (serves_last m number after (served ∷ rest) (Some front))) else only_if down (m, served ∷ rest)) ≡ Some (n, left) → FrontServed m front served rest left
crash_met m n number after failover true true front served rest left up e = absurd (let none : ⊥ = cc in none)
crash_met m n number after failover true false front served rest left up e = last_met m n number after failover front served rest left e
crash_met m n number after failover false down front served rest left up e = absurd (let none : ⊥ = cc in none)

pub front_follows : (setting : Setting) (m n : Machine) (items left : List Served) (kind : Noted) → by_kind setting m items kind ≡ Some (n, left) → m.server.is_up ≡ true → (at : ℕ) → serves_at kind ≡ Some at → (front : Front) (served : Served) (rest : List Served)
    → front_at m.links at ≡ Some front → items ≡ served ∷ rest → FrontServed m front served rest left
front_follows setting m n items left (ServedOn number frame) e up at serves_so front served rest is same =
    let number_is : number ≡ at = cc in
    serves_met m n number frame front served rest left
    (sym (ap (λ (all : List Served). serves m number frame all (front_at m.links number)) same ∙ ap (serves m number frame (served ∷ rest)) (ap (front_at m.links) number_is ∙ is)) ∙ e)
front_follows setting m n items left (Crashed number after failover down) e up at serves_so front served rest is same =
    let number_is : number ≡ at = cc in
    crash_met m n number after failover m.server.is_up down front served rest left up
    (sym (ap (λ (all : List Served). if m.server.is_up then (if down then None else mapped (falls failover) (serves_last m number after all (front_at m.links number))) else only_if down (m, all)) same
    ∙ ap (λ (f : Option Front). if m.server.is_up then (if down then None else mapped (falls failover) (serves_last m number after (served ∷ rest) f)) else only_if down (m, served ∷ rest)) (ap (front_at m.links) number_is ∙ is)) ∙ e)
front_follows setting m n items left kind e up at serves_so front served rest is same = absurd (let none : ⊥ = cc in none)

-- EACH CONNECTION ---------------------------------------------------------------------------------

pub by_index : {A : Type 0} (test : A → Bool) (xs : List A) → ((index : ℕ) (x : A) → slice_get xs index ≡ Some x → test x ≡ true) → list_all test xs ≡ true
by_index test [] each = refl
by_index test (x ∷ xs) each = and_from (test x) (list_all test xs) (each 0 x refl) (by_index test xs (λ index one is. each (suc index) one is))

pub by_number : (test : Link → Bool) (links : List Link) → ((number : ℕ) (link : Link) → link_at links number ≡ Some link → test link ≡ true) → list_all test links ≡ true
by_number test links each = by_index test links (λ index link is. each (suc index) link is)

-- it is of an incarnation before this one, or was made by this server
abbrev pub is_known_in : Server → SessionId → Bool
is_known_in server session = nat_lt session.incarnation server.incarnation || (nat_lt 0 session.session && (nat_lt session.incarnation server.incarnation || ((session.incarnation == server.incarnation) && nat_le session.session server.sessions)))

-- such a session is not the one that is made next
pub known_before : (server : Server) (session : SessionId) → is_known_in server session ≡ true → session ≡ next_session server → ⊥
known_before server session known same =
    by (or_cases (nat_lt session.incarnation server.incarnation) (nat_lt 0 session.session && (nat_lt session.incarnation server.incarnation || ((session.incarnation == server.incarnation) && nat_le session.session server.sessions))) known)
  where
    incarnation : session.incarnation ≡ server.incarnation
    incarnation = ap (λ (s : SessionId). s.incarnation) same

    by : (nat_lt session.incarnation server.incarnation ≡ true) ⊎ ((nat_lt 0 session.session && (nat_lt session.incarnation server.incarnation || ((session.incarnation == server.incarnation) && nat_le session.session server.sessions))) ≡ true) → ⊥
    by (inl below) = let less : session.incarnation < server.incarnation = lt_from session.incarnation server.incarnation below in let never : ⊥ = omega (arith, incarnation) in never
    by (inr made) = made_before server session made same

pub none_of_session : (server : Server) (entries : List Entry) → list_all (λ entry. is_known_in server (session_of entry.ltxid)) entries ≡ true → entries_of entries (next_session server) ≡ 0
none_of_session server [] all = refl
none_of_session server (entry ∷ entries) all =
    let parts = and_parts (is_known_in server (session_of entry.ltxid)) (list_all (λ one. is_known_in server (session_of one.ltxid)) entries) all in
    entries_cons entry entries (next_session server) ∙ by (is_of_session (next_session server) entry.ltxid) refl parts.0 (none_of_session server entries parts.1)
  where
    by : (test : Bool) → is_of_session (next_session server) entry.ltxid ≡ test → is_known_in server (session_of entry.ltxid) ≡ true → entries_of entries (next_session server) ≡ 0 → cond test 1 0 + entries_of entries (next_session server) ≡ 0
    by true is known none = absurd (known_before server (session_of entry.ltxid) known (same_session_is (session_of entry.ltxid) (next_session server) is))
    by false is known none = let zero_is : 0 + entries_of entries (next_session server) ≡ 0 = omega (arith, none) in zero_is
