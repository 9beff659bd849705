-- A frame that is served in order, at the machine and at the service.
use Rattle.std.proofs.Common.{◌≡◌, ◌≤◌, arith, ℕ, zero, suc, ◌+◌, ◌==◌, Bool, true, false, List, [], ◌∷◌, ◌++◌, Option, Some, None, refl, sym, ap, ◌∙◌, subst, eq-eqb, inl, inr}
use Rattle.std.proofs.lemmas.Bool.Decides.{eqb_tells}
use Rattle.std.proofs.lemmas.List.{append-nil}
use Rattle.std.proofs.lemmas.List.Elements.{All-nil, All-cons}
use Rattle.std.specs.Prelude.{◌⊎◌, ◌&&◌, not, cond, slice_set, if◌then◌else◌}
use Rattle.std.specs.Option.{option_map_or}
use Rattle.svc_values.specs.declared.entry.SessionId.{SessionId}
use Rattle.svc_values.specs.declared.frame.Up.{Up}
use Rattle.svc_values.specs.declared.frame.Down.{Down}
use Rattle.svc_values.specs.Laws.{AreExact}
use Rattle.outage_schedule.specs.declared.event.Event.TheVariants as event
use Rattle.outage_schedule.specs.declared.note.Note.TheVariants as note
use Rattle.outage_schedule.specs.declared.item.Item.{Item}
use Rattle.outage_schedule.specs.declared.item.Served.{Served}
use Rattle.server_model.specs.Laws.{stops_last}
use Rattle.server_model.specs.meaning.Outcomes.{Telling, telling_of}
use Rattle.server_model.specs.Runs.{Happened, Served as ServedFrame}
use Rattle.server_model.specs.Sessions.{Life}
use Rattle.server_model.specs.ToldRight.{life_after, life_behind}
use Rattle.server_model.specs.Seen.{Connections, Seen, IsHistory, with_connection, without_connection}
use Rattle.server_model.specs.ServiceCalls.{IsOf, SessionOf}
use Rattle.world_model.specs.meaning.Links.{Link, link_at, with_link, changed, ends}
use Rattle.world_model.specs.meaning.Machines.{Server, Machine, next_session}
use Rattle.world_model.specs.meaning.Noting.{only_if, name_of, same_name}
use Rattle.world_model.specs.meaning.Serving.{Front, front_at, is_item_of, is_served_by, serves, follow_serve, is_last, is_blocked, is_commit, commits_after, after_front, handled, reply_of, after_served, server_after, pool_after}
use Rattle.world_model.specs.records.Basic.{sessions_differ, are_made}
use Rattle.world_model.specs.Traced.{Traced}
use Rattle.world_model.specs.meaning.Walking.{follow}
use Rattle.world_model.specs.ServiceDid.{front_served}
use Rattle.world_model.specs.Coupled.{living_of, HasStored, entries_in, life_by, life_of, HasLived, IsLater, SameServer, Coupled}
use Rattle.world_model.specs.OrderlyLaws.{OrderlyIsKept}
use Rattle.world_model.specs.OneEvent.{OneEvent}
use Rattle.world_core.specs.declared.traffic.Traffic.{Traffic}
use Rattle.world_core.specs.Answering.{served_item}
use Rattle.world_core.proofs.frames.InOrder.{ServedWith, commits_in}
use Rattle.world_core.specs.Underway.{IsUnderway, answered_link}
use Rattle.world_core.specs.Making.{IsReady, IsAt, Made}
use Rattle.world_core.proofs.Coupling.{View, view, living_in, living_view, begun, one_call, made}
use Rattle.world_core.proofs.frames.Added.{entry_added}
use Rattle.world_core.proofs.frames.Blocking.{known_blocks, known_served}
use Rattle.world_core.proofs.frames.Living.{life_served, life_apart, life_more, still_lived}
use Rattle.world_core.proofs.frames.Counting.{counted_behind}
use Rattle.world_core.proofs.frames.Fronts.{front_there}
use Rattle.world_core.proofs.frames.Ordered.{ServesInOrder}
use Rattle.world_core.proofs.Opening.{any_server}
use Rattle.world_core.proofs.frames.Sessions.{some_known, session_after, which, session_from, answered_last}
use Rattle.world_core.proofs.frames.Stops.{stops_behind}
use Rattle.world_core.proofs.frames.Storing.{others_counted, came_of, next_apart, session_made, sessions_apart}
use Rattle.world_core.proofs.Reaping.{link_same, link_other}
use Rattle.world_core.proofs.frames.Written.{names_same, reads, Which, ServedBy, served_by, stays_up}

-- ONE CONNECTION, CHANGED TWICE -------------------------------------------------------------------

set_twice : {A : Type 0} (all : List A) (index : ℕ) (a b : A) → slice_set (slice_set all index a) index b ≡ slice_set all index b
set_twice [] index a b = refl
set_twice (one ∷ all) zero a b = refl
set_twice (one ∷ all) (suc index) a b = ap (λ rest. one ∷ rest) (set_twice all index a b)

pub with_twice : (links : List Link) (number : ℕ) (a b : Link) → with_link (with_link links number a) number b ≡ with_link links number b
with_twice links zero a b = refl
with_twice links (suc index) a b = set_twice links index a b

pub ends_there : (links : List Link) (number event : ℕ) (old after : Link) → link_at links number ≡ Some old → changed (ends event) (with_link links number after) number ≡ with_link links number (ends event after)
ends_there links number event old after there =
    ap (λ found. option_map_or (λ link. with_link (with_link links number after) number (ends event link)) found (with_link links number after)) (link_same links number old after there) ∙ with_twice links number after (ends event after)

-- WHAT THE SERVICE KNOWS OF IT --------------------------------------------------------------------

view_ends : (event : ℕ) (link : Link) → view (ends event link) ≡ view link
view_ends event link = elim link.is_open as (λ b. view (if b then record link { is_open = false; ended = Some event } else link) ≡ view link) [ true ↦ refl | false ↦ refl ]

view_if : (event : ℕ) (link : Link) (b : Bool) → view (if b then ends event link else link) ≡ view link
view_if event link true = view_ends event link
view_if event link false = refl

abbrev view_behind : Front → Served → View
view_behind front served = record { is_living = not (is_last served.item); session = Some served.session; commits = commits_after front.link served.item; life = life_behind front.first.frame (life_of front.link.served) }

view_answered : (event : ℕ) (front : Front) (served : Served) (reply : Option Down) → view (answered_link event front served reply) ≡ view_behind front served
view_answered event front served reply =
    view_if event (after_front front served reply) (is_blocked served.item)
    ∙ ap (λ life. record { is_living = not (is_last served.item); session = Some served.session; commits = commits_after front.link served.item; life = life }) (life_more front.link.served (record { sent = front.first; served = served; reply = reply }))

-- COUPLED AGAIN -----------------------------------------------------------------------------------

-- the one that serves the frame, and its item
abbrev pub item_now : Machine → Front → SessionId → Option Down → Served
item_now m front session reply = record { event = m.event + 1; session = session; item = served_item front.first.frame reply }

up_false : {A : Type 0} (b : Bool) → b ≡ true → b ≡ false → A
up_false b t f = absurd (let same : true ≡ false = sym t ∙ f in let nothing : ⊥ = cc in nothing)

server_behind : (server : Server) (old new : Seen) (number now : ℕ) (frame : Up) (reply : Option Down) (one : Item) → SameServer server old → server.is_up ≡ true → (did : ServedWith old number now frame reply new) → new.state.is_up ≡ true
    → (server_after server one).sessions ≡ new.state.sessions → SameServer (server_after server one) new
server_behind server old new number now frame reply one same up did up_later sessions =
    let stays = stays_up server one in
    let opened = same.opened (sym same.is_up ∙ up) in
    record {
      is_up = stays.is_up ∙ up ∙ sym up_later;
      per_record = stays.per_record ∙ same.per_record ∙ sym did.keeps.per_record;
      opened = λ is. (stays.incarnation ∙ opened.0 ∙ sym did.adds.gains.incarnation, (sessions, stays.stopped ∙ opened.1.1));
      closed = λ down. up_false new.state.is_up up_later down;
    }

abbrev LivingBehind : Seen → ℕ → SessionId → Item → Seen → Type 0
LivingBehind old number session one new = (other : ℕ) → new.state.living other ≡ (if is_last one then without_connection number old.state.living else with_connection number (Some session) old.state.living) other

living_here : (number other : ℕ) (session : SessionId) (last : Bool) (commits : ℕ) (life : Life) (old : ℕ → Option (Option SessionId)) → (other == number) ≡ true
    → (if last then without_connection number old else with_connection number (Some session) old) other ≡ living_in (Some (record { is_living = not last; session = Some session; commits = commits; life = life }))
living_here number other session true commits life old told = rw told refl
living_here number other session false commits life old told = rw told refl

living_there : (number other : ℕ) (session : SessionId) (last : Bool) (old : ℕ → Option (Option SessionId)) → (other == number) ≡ false
    → (if last then without_connection number old else with_connection number (Some session) old) other ≡ old other
living_there number other session true old told = rw told refl
living_there number other session false old told = rw told refl

living_behind : (old new : Seen) (links : List Link) (number : ℕ) (front : Front) (served : Served) (after : Link) → ((other : ℕ) → old.state.living other ≡ living_of (link_at links other)) → LivingBehind old number served.session served.item new
    → link_at links number ≡ Some front.link → view after ≡ view_behind front served → (other : ℕ) → new.state.living other ≡ living_of (link_at (with_link links number after) other)
living_behind old new links number front served after coupled living there looks other = by (eqb_tells other number)
  where
    by : (((other == number) ≡ true) × (other ≡ number)) ⊎ (((other == number) ≡ false) × (other ≡ number → ⊥)) → new.state.living other ≡ living_of (link_at (with_link links number after) other)
    by (inl (told, same)) =
        living other ∙ living_here number other served.session (is_last served.item) (commits_after front.link served.item) (life_behind front.first.frame (life_of front.link.served)) old.state.living told ∙ ap (λ v. living_in (Some v)) (sym looks) ∙ sym (living_view (Some after))
        ∙ ap living_of (sym (link_same links number front.link after there)) ∙ ap (λ n. living_of (link_at (with_link links number after) n)) (sym same)
    by (inr (told, apart)) = living other ∙ living_there number other served.session (is_last served.item) old.state.living told ∙ coupled other ∙ ap living_of (sym (link_other links number other after apart))

abbrev StoredBehind : Seen → Option View → Type 0
StoredBehind new None = Unit {0}
StoredBehind new (Some one) = HasStored new.state.store.entries (living_in (Some one)) one.commits

has_here : (new : Seen) (session : SessionId) (last : Bool) (commits : ℕ) (life : Life) → entries_in new.state.store.entries session ≡ commits
    → HasStored new.state.store.entries (living_in (Some (record { is_living = not last; session = Some session; commits = commits; life = life }))) commits
has_here new session true commits life counted = tt
has_here new session false commits life counted = counted

has_there : (old new : Seen) (session : SessionId) (living : Option (Option SessionId)) (commits : ℕ) → (living ≡ Some (Some session) → ⊥) → ((other : SessionId) → (other ≡ session → ⊥) → entries_in new.state.store.entries other ≡ entries_in old.state.store.entries other)
    → HasStored old.state.store.entries living commits → HasStored new.state.store.entries living commits
has_there old new session None commits apart others has = tt
has_there old new session (Some None) commits apart others has = has
has_there old new session (Some (Some other)) commits apart others has = others other (λ same. apart (ap (λ s. Some (Some s)) same)) ∙ has

pub some_link : (a b : Link) → ◌≡◌ {A = Option Link} (Some a) (Some b) → a ≡ b
some_link a b e = cc

stored_behind : (old new : Seen) (t : Traced) (number : ℕ) (front : Front) (served : Served) (reply : Option Down) (after : Link) → ((other : SessionId) → (other ≡ served.session → ⊥) → entries_in new.state.store.entries other ≡ entries_in old.state.store.entries other)
    → ((other : ℕ) → (other ≡ number → ⊥) → old.state.living other ≡ Some (Some served.session) → ⊥) → Coupled old t → entries_in new.state.store.entries served.session ≡ front.link.commits + cond (commits_in reply) 1 0
    → is_commit served.item ≡ commits_in reply → link_at t.machine.links number ≡ Some front.link → view after ≡ view_behind front served
    → (other : ℕ) (link : Link) → link_at (with_link t.machine.links number after) other ≡ Some link → HasStored new.state.store.entries (living_of (Some link)) link.commits
stored_behind old new t number front served reply after others aparts coupled counts commits there looks other link found = by (eqb_tells other number)
  where
    by : (((other == number) ≡ true) × (other ≡ number)) ⊎ (((other == number) ≡ false) × (other ≡ number → ⊥)) → HasStored new.state.store.entries (living_of (Some link)) link.commits
    by (inl (told, same)) =
        let is : after ≡ link = some_link after link (sym (link_same t.machine.links number front.link after there) ∙ ap (λ n. link_at (with_link t.machine.links number after) n) (sym same) ∙ found) in
        let counted = counts ∙ ap (λ b. front.link.commits + cond b 1 0) (sym commits) in
        subst (λ v. HasStored new.state.store.entries (living_in (Some v)) v.commits) (sym looks ∙ ap view is) (has_here new served.session (is_last served.item) (commits_after front.link served.item) (life_behind front.first.frame (life_of front.link.served)) counted)
    by (inr (told, apart)) =
        let at = sym (link_other t.machine.links number other after apart) ∙ found in
        has_there old new served.session (living_of (Some link)) link.commits (λ same. aparts other apart (coupled.living other ∙ ap living_of at ∙ same)) others (coupled.stored other link at)

-- WHERE SESSIONS ARE IN THEIR LIVES ---------------------------------------------------------------

lived_here : (history : List Happened) (session : SessionId) (last : Bool) (commits : ℕ) (life : Life) → (last ≡ false → life_by history session ≡ life) → HasLived history (living_in (Some (record { is_living = not last; session = Some session; commits = commits; life = life }))) life
lived_here history session true commits life lived = tt
lived_here history session false commits life lived = lived refl

lived_behind : AreExact → (old new : Seen) (t : Traced) (number now : ℕ) (front : Front) (served : Served) (told : Telling) (after : Link) → new.history ≡ old.history ++ ServedFrame served.session now front.first.frame told ∷ []
    → ((other : ℕ) → (other ≡ number → ⊥) → old.state.living other ≡ Some (Some served.session) → ⊥) → Coupled old t → life_by old.history served.session ≡ life_of front.link.served
    → ((life : Life) → is_last served.item ≡ false → life_after front.first.frame told life ≡ life_behind front.first.frame life) → link_at t.machine.links number ≡ Some front.link → view after ≡ view_behind front served
    → (other : ℕ) (link : Link) → link_at (with_link t.machine.links number after) other ≡ Some link → HasLived new.history (living_of (Some link)) (life_of link.served)
lived_behind exact old new t number now front served told after added aparts coupled lived goes_on there looks other link found = by (eqb_tells other number)
  where
    by : (((other == number) ≡ true) × (other ≡ number)) ⊎ (((other == number) ≡ false) × (other ≡ number → ⊥)) → HasLived new.history (living_of (Some link)) (life_of link.served)
    by (inl (told_is, same)) =
        let is : after ≡ link = some_link after link (sym (link_same t.machine.links number front.link after there) ∙ ap (λ n. link_at (with_link t.machine.links number after) n) (sym same) ∙ found) in
        let life = life_behind front.first.frame (life_of front.link.served) in
        let now_is : is_last served.item ≡ false → life_by new.history served.session ≡ life = λ on.
        ap (λ h. life_by h served.session) added ∙ life_served exact old.history served.session now front.first.frame told ∙ goes_on (life_by old.history served.session) on ∙ ap (life_behind front.first.frame) lived in
        subst (λ v. HasLived new.history (living_in (Some v)) v.life) (sym looks ∙ ap view is) (lived_here new.history served.session (is_last served.item) (commits_after front.link served.item) life now_is)
    by (inr (told_is, apart)) =
        let at = sym (link_other t.machine.links number other after apart) ∙ found in
        still_lived old.history new.history (living_of (Some link)) (life_of link.served)
        (λ session living. ap (λ h. life_by h session) added
        ∙ life_apart exact old.history (ServedFrame served.session now front.first.frame told ∷ []) session ((λ same. aparts other apart (coupled.living other ∙ ap living_of at ∙ living ∙ ap (λ s. Some (Some s)) (sym same))), tt)) (coupled.lives other link at)

-- the next one was made, or none
later_by : (server after : Server) (known : Option SessionId) (session other : SessionId) (sessions : ℕ) → after.incarnation ≡ server.incarnation → after.is_up ≡ server.is_up → after.sessions ≡ sessions → Which server known session sessions → IsLater after other → IsLater server other
later_by server after known session other sessions same up count which (inl later) = inl (omega (arith, same, later))
later_by server after known session other sessions same up count (inl (named, all)) (inr (on, (of, later))) = inr (sym up ∙ on, (of ∙ same, omega (arith, count, all, later)))
later_by server after known session other sessions same up count (inr (unnamed, (next, all))) (inr (on, (of, later))) = inr (sym up ∙ on, (of ∙ same, omega (arith, count, all, later)))

-- it is not the session that serves
not_later : (server after : Server) (known : Option SessionId) (session other : SessionId) (sessions : ℕ) → after.incarnation ≡ server.incarnation → after.sessions ≡ sessions → Which server known session sessions
    → (known ≡ Some session → (session.incarnation ≡ server.incarnation) × (session.session ≤ server.sessions)) → IsLater after other → session ≡ other → ⊥
not_later server after known session other sessions same count (inl (named, all)) made (inl later) is =
    let was = (made named).0 in
    let one : session.incarnation ≡ other.incarnation = ap (λ (s : SessionId). s.incarnation) is in
    omega (arith, same, later, was, one)
not_later server after known session other sessions same count (inl (named, all)) made (inr (on, (of, later))) is =
    let was = (made named).1 in
    let one : session.session ≡ other.session = ap (λ (s : SessionId). s.session) is in
    omega (arith, count, all, later, was, one)
not_later server after known session other sessions same count (inr (unnamed, (next, all))) made (inl later) is =
    let was : session.incarnation ≡ server.incarnation = ap (λ (s : SessionId). s.incarnation) next in
    let one : session.incarnation ≡ other.incarnation = ap (λ (s : SessionId). s.incarnation) is in
    omega (arith, same, later, was, one)
not_later server after known session other sessions same count (inr (unnamed, (next, all))) made (inr (on, (of, later))) is =
    let was : session.session ≡ server.sessions + 1 = ap (λ (s : SessionId). s.session) next in
    let one : session.session ≡ other.session = ap (λ (s : SessionId). s.session) is in
    omega (arith, count, all, later, was, one)

-- the state behind the frame
abbrev traced_behind : Traced → Machine → Seen → Traced
traced_behind t m new = record t { machine = m; entries = new.state.store.entries; blocked = new.state.store.blocked }

-- SERVED ------------------------------------------------------------------------------------------

abbrev pub GoesTo : ℕ → (Seen → Type 0) → Seen → Traced → ℕ → Up → Served → Traffic → Type 0
GoesTo below sees_later seen t number frame served after = Made below seen t sees_later after (event.Serve number) (note.Serve number (Some (name_of frame))) (served ∷ [])

all_true : (a b c d : Bool) → a ≡ true → b ≡ true → c ≡ true → d ≡ true → (a && ((b && c) && d)) ≡ true
all_true a b c d p q r s = rw (p, q, r, s) refl

-- no other connection has it
living_found : (found : Option Link) (session : SessionId) → living_of found ≡ Some (Some session) → (link : Link) × (found ≡ Some link)
living_found None session living = absurd (let nothing : ⊥ = cc in nothing)
living_found (Some link) session living = (link, refl)

session_alone : AreExact → (seen : Seen) (t : Traced) (number : ℕ) (front : Front) (session : SessionId) (sessions : ℕ) → Coupled seen t → seen.state.is_up ≡ true → sessions_differ t ≡ true → are_made t ≡ true → front_at t.machine.links number ≡ Some front
    → SessionOf seen number session sessions → (other : ℕ) → (other ≡ number → ⊥) → seen.state.living other ≡ Some (Some session) → ⊥
session_alone exact seen t number front session sessions coupled up differ made there (inl (named, count)) other apart lives =
    let at = front_there t.machine.links number front there in
    let living : seen.state.living number ≡ Some front.link.session = coupled.living number ∙ ap living_of at.0 ∙ ap (λ b. if b then Some front.link.session else None) at.1 in
    let has : living_of (link_at t.machine.links other) ≡ Some (Some session) = sym (coupled.living other) ∙ lives in
    let one = living_found (link_at t.machine.links other) session has in
    sessions_apart exact t differ number other front.link one.0 session at.0 one.1 (some_known front.link.session (Some session) (sym living ∙ named)) (ap living_of (sym one.1) ∙ has) (λ same. apart (sym same))
session_alone exact seen t number front session sessions coupled up differ made there (inr (unnamed, next, count)) other apart lives =
    let opened = coupled.server.opened up in
    let same : session ≡ next_session t.machine.server = next ∙ ap (λ i. session_after i seen.state.sessions) (sym opened.0) ∙ ap (λ n. session_after t.machine.server.incarnation n) (sym opened.1.0) in
    let has : living_of (link_at t.machine.links other) ≡ Some (Some session) = sym (coupled.living other) ∙ lives in
    let one = living_found (link_at t.machine.links other) session has in
    next_apart t made other one.0 one.1 (ap living_of (sym one.1) ∙ has ∙ ap (λ s. Some (Some s)) same)

-- no other session has stored anything
frame_others : AreExact → (old new : Seen) (number now : ℕ) (frame : Up) (reply : Option Down) (did : ServedWith old number now frame reply new) → (other : SessionId) → (other ≡ did.session → ⊥) → entries_in new.state.store.entries other ≡ entries_in old.state.store.entries other
frame_others exact old new number now frame reply did other apart =
    let one = ServedFrame did.session now frame (telling_of reply) in
    let gains = did.adds.gains in
    ap (λ e. entries_in e other) gains.entries
    ∙ others_counted exact did.session other old.state.store.entries gains.more_entries (came_of did.session (one ∷ []) gains.more_entries (All-cons (IsOf did.session) one [] refl (All-nil (IsOf did.session))) gains.own) apart

-- the session that serves it, and what is written down of it
pub served_so : AreExact → (seen new : Seen) (t : Traced) (number : ℕ) (front : Front) (reply : Option Down) → Coupled seen t → front_at t.machine.links number ≡ Some front → ServesInOrder seen t number front
    → IsHistory new → (did : ServedWith seen number t.machine.tick front.first.frame reply new) → ServedBy t.machine.server front.link front.first.frame reply did.session new.state.sessions
served_so exact seen new t number front reply coupled there ordered history did =
    let answered = ordered.answered reply new history did in
    let at = front_there t.machine.links number front there in
    let up : seen.state.is_up ≡ true = sym coupled.server.is_up ∙ ordered.is_up in
    let living : seen.state.living number ≡ Some front.link.session = coupled.living number ∙ ap living_of at.0 ∙ ap (λ b. if b then Some front.link.session else None) at.1 in
    let known = which t.machine.server seen front.link.session did.session number new.state.sessions coupled.server up living did.of_connection in
    served_by exact t.machine.server front.link front.link.commits did.session front.first.frame reply answered new.state.sessions known ordered.is_first

pub serves_front : OrderlyIsKept → (sees sees_later : Seen → Type 0) (below : ℕ) (seen new : Seen) (t : Traced) (number : ℕ) (front : Front) (reply : Option Down) (before after : Traffic) → AreExact → IsAt sees before seen t → front_at t.machine.links number ≡ Some front → ServesInOrder seen t number front
    → IsHistory new → sees_later new → IsReady new.state → (did : ServedWith seen number t.machine.tick front.first.frame reply new)
    → IsUnderway after (record (begun t.machine) { links = with_link t.machine.links number (answered_link (t.machine.event + 1) front (item_now t.machine front did.session reply) reply); pool = pool_after t.machine.pool number (served_item front.first.frame reply) })
    → GoesTo below sees_later seen t number front.first.frame (item_now t.machine front did.session reply) after
serves_front kept sees sees_later below seen new t number front reply before after exact is there ordered history sees_new ready did underway =
    let coupled = is.coupled in
    let m = begun t.machine in
    let session = did.session in
    let frame = front.first.frame in
    let served = item_now t.machine front session reply in
    let answered = ordered.answered reply new history did in
    let at = front_there t.machine.links number front there in
    let from_here = session_from seen t number front session new.state.sessions coupled (sym coupled.server.is_up ∙ ordered.is_up) ordered.now there did.of_connection in
    let aparts = session_alone exact seen t number front session new.state.sessions coupled (sym coupled.server.is_up ∙ ordered.is_up) ordered.apart ordered.made there did.of_connection in
    let others = frame_others exact seen new number t.machine.tick frame reply did in
    let up = sym coupled.server.is_up ∙ ordered.is_up in
    let living : seen.state.living number ≡ Some front.link.session = coupled.living number ∙ ap living_of at.0 ∙ ap (λ b. if b then Some front.link.session else None) at.1 in
    let known = which t.machine.server seen front.link.session session number new.state.sessions coupled.server up living did.of_connection in
    let counted = counted_behind exact seen t number front.link session new.state.sessions coupled at.0 at.1 is.orderly.number.known new t.machine.tick frame reply known did refl (entry_added session front.link.commits frame reply seen.state.store new.state.store answered did.stored) in
    let read = reads exact session number front.link.commits frame reply answered in
    let by = served_so exact seen new t number front reply coupled there ordered history did in
    let link = handled m.event front served in
    let same_handled : answered_link m.event front served reply ≡ link = ap (λ r. answered_link m.event front served r) (sym read.replies) in
    let machine = after_served m number front served in
    let looks : view link ≡ view_behind front served = view_answered m.event front served (reply_of session (commits_after front.link served.item) served.item) in
    let later = traced_behind t machine new in
    let test = all_true (same_name (name_of frame) (name_of frame)) (served.event == m.event) (is_served_by m.server front.link frame session) (is_item_of frame served.item) (names_same frame) (eq-eqb m.event m.event refl) by.is_served read.is_item in
    let ordinary : serves m number (Some (name_of frame)) (served ∷ []) (Some front) ≡ Some (machine, []) = ap (λ b. only_if {A = Machine × List Served} b (machine, [])) test in
    let followed : follow_serve m number (Some (name_of frame)) (served ∷ []) ≡ Some (machine, []) = ap (λ found. serves m number (Some (name_of frame)) (served ∷ []) found) there ∙ ordinary in
    let follows : follow t.setting t.machine (event.Serve number) (note.Serve number (Some (name_of frame))) (served ∷ []) ≡ Some (machine, []) = rw (eq-eqb number number refl, followed) refl in
    let coupled_later : Coupled new later = record {
      history = history;
      sound = rw did.keeps.start coupled.sound;
      stops = ap stops_last did.history ∙ stops_behind seen (ServedFrame session t.machine.tick frame (telling_of reply) ∷ []) coupled.sound coupled.history (sym coupled.server.is_up ∙ ordered.is_up) coupled.stops (answered_last session t.machine.tick frame reply) (from_here, tt);
      server = server_behind t.machine.server seen new number t.machine.tick frame reply served.item coupled.server ordered.is_up did (did.is_up ∙ read.is_up) by.sessions_are;
      living = living_behind seen new t.machine.links number front served link coupled.living (λ other. did.living other ∙ ap (λ (living : Connections). living other) (read.living seen.state.living)) at.0 looks;
      stored = stored_behind seen new t number front served reply link others aparts coupled counted read.commits_so at.0 looks;
      lives = lived_behind exact seen new t number t.machine.tick front served (telling_of reply) link did.history aparts coupled (ordered.lived reply new history did) read.goes_on at.0 looks;
      later = λ other is_later.
          let stays = stays_up t.machine.server served.item in
          let apart = not_later t.machine.server (server_after t.machine.server served.item) front.link.session session other new.state.sessions stays.incarnation by.sessions_are known (λ is_named. session_made t number front.link session ordered.made ordered.now at.0 at.1 is_named) is_later in
          ap (λ h. life_by h other) did.history ∙ life_apart exact seen.history (ServedFrame session t.machine.tick frame (telling_of reply) ∷ []) other (apart, tt)
          ∙ coupled.later other (later_by t.machine.server (server_after t.machine.server served.item) front.link.session session other new.state.sessions stays.incarnation stays.is_up by.sessions_are known is_later);
      entries = refl;
      blocked = refl;
      image = rw did.keeps.start coupled.image;
      blocks = known_served exact session front.link.commits frame reply t.machine.server t.machine.tick seen.state.store new.state.store answered did.adds.gains did.blocks (known_blocks seen t coupled);
    } in
    let one : OneEvent seen t (event.Serve number) (note.Serve number (Some (name_of frame))) (served ∷ []) [] new later = record {
      follows = follows;
      happened = ServedFrame session t.machine.tick frame (telling_of reply) ∷ [];
      did = ap (λ (told : Telling). ServedFrame session t.machine.tick frame told ∷ []) (sym read.tells) ∙ ap (λ found. front_served t.machine.tick found (served ∷ [])) (sym there);
      told = (did.outcome, tt);
      history = did.history;
      start = did.keeps.start;
      rises = let same_opening = did.adds.gains.incarnation in omega (arith, same_opening);
      crashes = did.keeps.crashes.0;
      coupled_before = coupled;
      coupled_after = coupled_later;
      more_entries = did.adds.gains.more_entries;
      entries = did.adds.gains.entries ∙ ap (λ e. e ++ did.adds.gains.more_entries) (sym coupled.entries);
      own = did.adds.gains.own;
      more_blocked = did.adds.gains.more_blocked;
      blocked = did.adds.gains.blocked ∙ ap (λ e. e ++ did.adds.gains.more_blocked) (sym coupled.blocked);
      asked = did.adds.gains.asked;
      setting = refl;
      image = refl;
      outside = sym (append-nil t.outside);
      outside_draws = sym (append-nil t.outside_draws);
    } in
    made kept sees sees_later before after below (event.Serve number) (note.Serve number (Some (name_of frame))) (served ∷ []) seen new t later is one did.adds.gains.horizon sees_new ready (one_call seen.state.calls new.state.calls did.keeps.calls)
    (any_server after (record m { links = with_link t.machine.links number link; pool = pool_after t.machine.pool number served.item }) (server_after t.machine.server served.item)
    (subst (λ (l : Link). IsUnderway after (record m { links = with_link t.machine.links number l; pool = pool_after t.machine.pool number served.item })) same_handled underway))
