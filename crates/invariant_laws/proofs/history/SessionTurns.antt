-- What an event adds to the history, and what becomes of the frames that each connection served: a
-- frame is served on one of them, or none.
use Rattle.std.proofs.Common.{◌≡◌, ◌≢◌, refl, sym, ap, subst, ◌∙◌, Bool, true, false, ℕ, ◌+◌, ◌&&◌, List, [], ◌∷◌, ◌++◌, map, Option, Some, None, ◌⊎◌, inl, inr, if◌then◌else◌}
use Rattle.std.proofs.lemmas.Bool.{and_parts}
use Rattle.svc_values.specs.declared.entry.SessionId.{SessionId}
use Rattle.svc_values.specs.declared.frame.Down.{Down}
use Rattle.svc_values.specs.declared.frame.Up.{Up}
use Rattle.svc_values.specs.declared.frame.Up.TheVariants as up
use Rattle.svc_values.specs.meaning.Identifiers.{same_session}
use Rattle.client_model.specs.declared.input.Input.TheVariants.{Took}
use Rattle.outage_schedule.specs.declared.event.Event.{Event}
use Rattle.outage_schedule.specs.declared.event.Event.TheVariants as event
use Rattle.outage_schedule.specs.declared.item.Item.{Item}
use Rattle.outage_schedule.specs.declared.item.Item.TheVariants as item
use Rattle.outage_schedule.specs.declared.item.Served.{Served}
use Rattle.outage_schedule.specs.declared.note.FrameName.{FrameName}
use Rattle.outage_schedule.specs.declared.note.Note.{Note}
use Rattle.outage_schedule.specs.declared.note.Note.TheVariants as note
use Rattle.server_model.specs.Runs.{Happened, Served as ServedFrame}
use Rattle.server_model.specs.Seen.{Seen}
use Rattle.server_model.specs.meaning.ServiceCalls.{is_failover}
use Rattle.service_calls.specs.Answers.{runs_of}
use Rattle.world_model.specs.meaning.Acting.{sent_by}
use Rattle.world_model.specs.meaning.Crashing.{is_crashed_item, is_stopped, is_over, serves_last, after_stopped, falls, crashes, fallen_link}
use Rattle.world_model.specs.Orderly.{Orderly}
use Rattle.world_model.specs.meaning.Links.{Link, new_link, link_at, with_link, ends, takes}
use Rattle.world_model.specs.meaning.Machines.{Machine, next_session}
use Rattle.world_model.specs.meaning.Matching.{Noted, Went, ServedOn, CutOff, Reaped, Crashed, Opened, OpeningStopped, Ticked, RanOutside, Asked, Drained, matched}
use Rattle.world_model.specs.meaning.Noting.{only_if, same_name, name_of}
use Rattle.world_model.specs.OneEvent.{OneEvent, session_outside}
use Rattle.world_model.specs.meaning.ServiceDid.{item_telling, front_telling}
use Rattle.world_model.specs.ServiceDid.{ServiceDid, front_served}
use Rattle.world_model.specs.meaning.Serving.{Front, front_at, is_of_front, is_ordinary, is_item_of, reply_of, commits_after, is_blocked, after_front, handled, serves, after_served}
use Rattle.invariant_laws.specs.SessionHistory.{served_in, told_with}
use Rattle.world_model.specs.Traced.{Traced}
use Rattle.world_model.proofs.Offered.{front_is, sends_alike, cut_case, ends_case, fallen_case, if_by, outside_next, serves_at, Followed, follow_happens, at_event, held_now, reaches, reaches_if, mapped, only_is, pair_is, reached_is, with_others, with_own, only_met, same_session_is, session_self, not_both, Turns, Stays, TurningIsSaid as IsSaid, IsTaken, IsServed, IsCut, IsReaped, HasFallen, WasStopped, WasServed, ComesFrom, IsNew, IsOld, all_turn, either, some_same, fallen_at}
use Rattle.invariant_laws.proofs.history.SessionLists.{none_other}
use Rattle.invariant_laws.proofs.losses.ShutStays.{mapped_at}
use Rattle.std.specs.Prelude.{option_and_then}
use Rattle.world_model.specs.meaning.Settings.{Setting}
use Rattle.world_model.specs.meaning.Walking.{by_kind}

-- the note is one of this event
pub noted_kind : (setting : Setting) (m n : Machine) (items left : List Served) (test : Bool) (kind : Noted) → option_and_then (by_kind setting m items) (only_if test kind) ≡ Some (n, left) → by_kind setting m items kind ≡ Some (n, left)
noted_kind setting m n items left true kind e = e
noted_kind setting m n items left false kind e = absurd (let none : ⊥ = cc in none)

-- ONE CONNECTION ----------------------------------------------------------------------------------

-- the same was served, by the same session
pub record IsAlike (a b : Link) : Type 0 where
  pub served : b.served ≡ a.served
  pub session : b.session ≡ a.session

-- the frame that stood first was served too, with what was told
pub record IsMore (front : Front) (served : Served) (b : Link) : Type 0 where
  pub reply : Option Down
  pub session : b.session ≡ Some served.session
  pub more : b.served ≡ front.link.served ++ record { sent = front.first; served = served; reply = reply } ∷ []
  pub told : front_telling front served ≡ told_with served.item reply

ordinary_told : (session : SessionId) (commits : ℕ) (one : Item) → item_telling session commits one ≡ told_with one (reply_of session commits one)
ordinary_told session commits (item.CrashedCall marked call) = refl
ordinary_told session commits (item.CrashedOutcome asked) = refl
ordinary_told session commits one = refl

crashed_told : (session : SessionId) (commits : ℕ) (frame : Up) (one : Item) → is_crashed_item frame one ≡ true → item_telling session commits one ≡ told_with one None
crashed_told session commits (up.Call replay kept call) (item.CrashedCall marked served) is = refl
crashed_told session commits (up.Outcome x) (item.CrashedOutcome asked) is = refl
crashed_told session commits frame one is = absurd (let none : ⊥ = cc in none)

front_more : (front : Front) (served : Served) (reply : Option Down) → front_telling front served ≡ told_with served.item reply → IsMore front served (after_front front served reply)
front_more front served reply told = record { reply = reply; session = refl; more = refl; told = told }

handled_more : (event : ℕ) (front : Front) (served : Served) → IsMore front served (handled event front served)
handled_more event front served =
    let reply : Option Down = reply_of served.session (commits_after front.link served.item) served.item in
    let told : front_telling front served ≡ told_with served.item reply = ordinary_told served.session (commits_after front.link served.item) served.item in
    if_by (IsMore front served) (is_blocked served.item) (ends event (after_front front served reply)) (after_front front served reply)
    (λ is. ends_case (IsMore front served) event (after_front front served reply) (λ opens. record { reply = reply; session = refl; more = refl; told = told }) (λ closed. front_more front served reply told))
    (λ is. front_more front served reply told)

fallen_more : (event : ℕ) (front : Front) (served : Served) (link : Link) → IsMore front served link → IsMore front served (fallen_link event link)
fallen_more event front served link is =
    fallen_case (IsMore front served) event link (λ opens. record { reply = is.reply; session = is.session; more = is.more; told = is.told }) (λ closed. record { reply = is.reply; session = is.session; more = is.more; told = is.told })

fallen_alike : (event : ℕ) (was link : Link) → IsAlike was link → IsAlike was (fallen_link event link)
fallen_alike event was link is = fallen_case (IsAlike was) event link (λ opens. record { served = is.served; session = is.session }) (λ closed. record { served = is.served; session = is.session })

-- WHERE A FRAME IS SERVED -------------------------------------------------------------------------

pub data ComesOf (links : List Link) (number : ℕ) (front : Front) (served : Served) (at : ℕ) (link : Link) : Type 0 where
  AtFront : at ≡ number → IsMore front served link → ComesOf links number front served at link
  Elsewhere : at ≢ number → (was : Link) → link_at links at ≡ Some was → IsAlike was link → ComesOf links number front served at link

-- it is served on the connection of this number, and the others are as before
pub record FrontTurned (links : List Link) (number : ℕ) (front : Front) (served : Served) (later : List Link) : Type 0 where
  pub there : (link : Link) × ((link_at later number ≡ Some link) × (link.session ≡ Some served.session))
  pub all : (at : ℕ) (link : Link) → link_at later at ≡ Some link → ComesOf links number front served at link

with_turned : (links : List Link) (number : ℕ) (front : Front) (served : Served) (new : Link) → link_at links number ≡ Some front.link → IsMore front served new → FrontTurned links number front served (with_link links number new)
with_turned links number front served new there more = record {
  there = (new, (with_own links number front.link new there, more.session));
  all = λ at link is. by at link is (either at number);
}
  where
    by : (at : ℕ) (link : Link) → link_at (with_link links number new) at ≡ Some link → (at ≡ number) ⊎ (at ≢ number) → ComesOf links number front served at link
    by at link is (inl same) =
        let own : link_at (with_link links number new) at ≡ Some new = ap (link_at (with_link links number new)) same ∙ with_own links number front.link new there in
        AtFront same (subst (IsMore front served) (some_same (link_at (with_link links number new) at) new link own is) more)
    by at link is (inr differ) = Elsewhere differ link (sym (with_others links number at new differ) ∙ is) (record { served = refl; session = refl })

fall_turned : (event : ℕ) (links : List Link) (number : ℕ) (front : Front) (served : Served) (later : List Link) → FrontTurned links number front served later → FrontTurned links number front served (map (fallen_link event) later)
fall_turned event links number front served later turned = record {
  there =
      let one = turned.there in
      (fallen_link event one.0, (mapped_at (fallen_link event) later number one.0 one.1.0, fallen_case (λ l. l.session ≡ Some served.session) event one.0 (λ opens. one.1.1) (λ closed. one.1.1)));
  all = λ at link is. let back = fallen_at (fallen_link event) later at link is in subst (ComesOf links number front served at) (sym back.1.1) (by at back.0 (turned.all at back.0 back.1.0));
}
  where
    by : (at : ℕ) (link : Link) → ComesOf links number front served at link → ComesOf links number front served at (fallen_link event link)
    by at link (AtFront same more) = AtFront same (fallen_more event front served link more)
    by at link (Elsewhere differ was there alike) = Elsewhere differ was there (fallen_alike event was link alike)

-- WHERE NONE IS -----------------------------------------------------------------------------------

-- the connection has no name yet, or is as before
pub data Alone (links : List Link) (at : ℕ) (link : Link) : Type 0 where
  Unnamed : link.session ≡ None → Alone links at link
  Alike : (was : Link) → link_at links at ≡ Some was → IsAlike was link → Alone links at link

abbrev pub AllAlone : List Link → List Link → Type 0
AllAlone links later = (at : ℕ) (link : Link) → link_at later at ≡ Some link → Alone links at link

same_alone : (links : List Link) → AllAlone links links
same_alone links at link is = Alike link is (record { served = refl; session = refl })

fall_alone : (event : ℕ) (links : List Link) → AllAlone links (map (fallen_link event) links)
fall_alone event links at link is =
    let back = fallen_at (fallen_link event) links at link is in
    Alike back.0 back.1.0 (subst (IsAlike back.0) (sym back.1.1) (fallen_alike event back.0 back.0 (record { served = refl; session = refl })))

-- what happened has nothing of a session, but of one that was made outside
abbrev pub HasNone : Traced → Note → List Happened → Type 0
HasNone old note happened = (session : SessionId) → (served_in happened session ≡ []) ⊎ ((session ≡ next_session old.machine.server) × (session_outside old note ≡ session ∷ []))

none_has : (old : Traced) (note : Note) (happened : List Happened) → happened ≡ [] → HasNone old note happened
none_has old note happened is session = inl (ap (λ (all : List Happened). served_in all session) is)

-- AN EVENT ----------------------------------------------------------------------------------------

pub data Adds (old : Traced) (note : Note) (later : List Link) (happened : List Happened) : Type 0 where
  AddsFrame : (number : ℕ) (front : Front) (served : Served) → front_at old.machine.links number ≡ Some front → is_of_front (at_event old.machine) front served ≡ true
      → happened ≡ ServedFrame served.session old.machine.tick front.first.frame (front_telling front served) ∷ [] → FrontTurned old.machine.links number front served later → Adds old note later happened
  AddsNone : HasNone old note happened → AllAlone old.machine.links later → Adds old note later happened

module _ (old : Traced) (note : Note) (happened : List Happened) where
  abbrev m : Machine
  m = at_event old.machine

  abbrev links : List Link
  links = old.machine.links

  same_adds : (n : Machine) → m ≡ n → happened ≡ [] → Adds old note n.links happened
  same_adds n same none = AddsNone (none_has old note happened none) (subst (λ (a : Machine). AllAlone links a.links) same (same_alone links))

  serve_adds : (n : Machine) (number : ℕ) (frame : Option FrameName) (items left : List Served) (front : Option Front) → front_at links number ≡ front → serves m number frame items front ≡ Some (n, left)
      → happened ≡ front_served old.machine.tick front items → Adds old note n.links happened
  serve_adds n number None items left None at e is = same_adds n (reached_is m n items left e) is
  serve_adds n number None items left (Some front) at e is = absurd (let none : ⊥ = cc in none)
  serve_adds n number (Some name) [] left None at e is = absurd (let none : ⊥ = cc in none)
  serve_adds n number (Some name) (served ∷ items) left None at e is = absurd (let none : ⊥ = cc in none)
  serve_adds n number (Some name) [] left (Some front) at e is = absurd (let none : ⊥ = cc in none)
  serve_adds n number (Some name) (served ∷ items) left (Some front) at e is =
      let test : Bool = same_name name (name_of front.first.frame) && is_ordinary m front served in
      let met = and_parts (same_name name (name_of front.first.frame)) (is_ordinary m front served) (only_met test (after_served m number front served, items) (n, left) e) in
      let turned = with_turned links number front served (handled m.event front served) (front_is links number front at).there (handled_more m.event front served) in
      AddsFrame number front served at (and_parts (is_of_front m front served) (is_item_of front.first.frame served.item) met.1).0 is
      (subst (λ (a : Machine). FrontTurned links number front served a.links) (pair_is test (after_served m number front served) n items left e) turned)

  last_adds : (n : Machine) (number after : ℕ) (failover : Bool) (items left : List Served) (front : Option Front) → front_at links number ≡ front → mapped (falls failover) (serves_last m number after items front) ≡ Some (n, left)
      → happened ≡ front_served old.machine.tick front items → Adds old note n.links happened
  last_adds n number after failover items left None at e is =
      AddsNone (none_has old note happened is) (subst (λ (a : Machine). AllAlone links a.links) (reached_is (falls failover m) n items left e) (fall_alone m.event links))
  last_adds n number after failover [] left (Some front) at e is = absurd (let none : ⊥ = cc in none)
  last_adds n number after failover (served ∷ items) left (Some front) at e is = by (is_stopped m after front served) (is_over m after front served) refl refl e
    where
      by : (stopped over : Bool) → is_stopped m after front served ≡ stopped → is_over m after front served ≡ over
          → mapped (falls failover) (if stopped then reaches (after_stopped m number front served) items else reaches_if over (after_served m number front served) items) ≡ Some (n, left) → Adds old note n.links happened
      by true over stops so e =
          let parts = and_parts (is_of_front m front served) _ stops in
          let crashed = (and_parts (is_crashed_item front.first.frame served.item) _ parts.1).0 in
          let more = front_more front served None (crashed_told served.session (commits_after front.link served.item) front.first.frame served.item crashed) in
          let turned = with_turned links number front served (after_front front served None) (front_is links number front at).there more in
          AddsFrame number front served at parts.0 is
          (subst (λ (a : Machine). FrontTurned links number front served a.links) (reached_is (falls failover (after_stopped m number front served)) n items left e)
          (fall_turned m.event links number front served (with_link links number (after_front front served None)) turned))
      by false true stops so e =
          let parts = and_parts (is_of_front m front served) (is_item_of front.first.frame served.item) (and_parts (is_ordinary m front served) _ so).0 in
          let turned = with_turned links number front served (handled m.event front served) (front_is links number front at).there (handled_more m.event front served) in
          AddsFrame number front served at parts.0 is
          (subst (λ (a : Machine). FrontTurned links number front served a.links) (reached_is (falls failover (after_served m number front served)) n items left e)
          (fall_turned m.event links number front served (with_link links number (handled m.event front served)) turned))
      by false false stops so e = absurd (let none : ⊥ = cc in none)

  crash_adds : (n : Machine) (number after : ℕ) (failover is_up down : Bool) (items left : List Served)
      → (if is_up then (if down then None else crashes m number after failover items) else reaches_if down m items) ≡ Some (n, left)
      → happened ≡ (if is_up then front_served old.machine.tick (front_at links number) items else []) → Adds old note n.links happened
  crash_adds n number after failover true true items left e is = absurd (let none : ⊥ = cc in none)
  crash_adds n number after failover true false items left e is = last_adds n number after failover items left (front_at links number) refl e is
  crash_adds n number after failover false down items left e is = same_adds n (pair_is down m n items left e) is

-- an event that serves no frame
abbrev serves_frame : Event → Bool
serves_frame (event.Serve connection) = true
serves_frame (event.Crash connection after pick) = true
serves_frame _ = false

others_none : (old : Traced) (event : Event) (note : Note) (items : List Served) (happened : List Happened) → serves_frame event ≡ false → ServiceDid old.machine event note items happened → HasNone old note happened
others_none old (event.Serve connection) note items happened none did session = absurd (let never : ⊥ = cc in never)
others_none old (event.Crash connection after pick) note items happened none did session = absurd (let never : ⊥ = cc in never)
others_none old (event.Outside calls) (note.Outside (Some ran)) items happened none (runs, (is, are)) session = by (same_session next session) refl
  where
    next : SessionId
    next = next_session old.machine.server

    by : (test : Bool) → same_session next session ≡ test → (served_in happened session ≡ []) ⊎ ((session ≡ next) × (next ∷ [] ≡ session ∷ []))
    by true same = let one = same_session_is next session same in inr (sym one, ap (λ (s : SessionId). s ∷ []) one)
    by false apart =
        inl (none_other next session happened (outside_next old.machine.server old.machine.tick calls (runs_of ran) happened runs is are)
        (λ same. not_both (same_session next session) (subst (λ (s : SessionId). same_session next s ≡ true) same (session_self next)) apart))
others_none old (event.Ask x) (note.Ask named (Some told)) items happened none did session = inl (ap (λ (all : List Happened). served_in all session) did)
others_none old event note items happened none did session = inl (ap (λ (all : List Happened). served_in all session) did)

other_kind : (kind one : Noted) (test : Bool) → serves_at one ≡ None → only_if test one ≡ Some kind → serves_at kind ≡ None
other_kind kind one test none is = ap serves_at (sym (only_is test one kind is)) ∙ none

others_kind : (event : Event) (note : Note) (kind : Noted) → serves_frame event ≡ false → matched event note ≡ Some kind → serves_at kind ≡ None
others_kind (event.Serve connection) note kind none is = absurd (let never : ⊥ = cc in never)
others_kind (event.Crash connection after pick) note kind none is = absurd (let never : ⊥ = cc in never)
others_kind (event.Go client) (note.Go named did) kind none is = other_kind kind (Went client did) _ refl is
others_kind (event.Cut connection up down) (note.Cut named reached) kind none is = other_kind kind (CutOff connection up down reached) _ refl is
others_kind (event.Reap connection) (note.Reap named reaped) kind none is = other_kind kind (Reaped connection reaped) _ refl is
others_kind event.Up (note.Up incarnation) kind none is = other_kind kind (Opened incarnation) true refl is
others_kind (event.UpCrash after pick) (note.UpCrash made) kind none is = other_kind kind (OpeningStopped made) true refl is
others_kind event.Tick note.Tick kind none is = other_kind kind Ticked true refl is
others_kind (event.Outside calls) (note.Outside ran) kind none is = other_kind kind (RanOutside ran) true refl is
others_kind (event.Ask x) (note.Ask named told) kind none is = other_kind kind (Asked x told) _ refl is
others_kind event.Drain (note.Drain closed) kind none is = other_kind kind (Drained closed) true refl is
others_kind event note kind none is = absurd (let never : ⊥ = cc in never)

turn_alike : (m : Machine) (items left : List Served) (kind : Noted) (number : ℕ) (link next : Link) → Turns m items left kind number link next → serves_at kind ≡ None → IsAlike link next
turn_alike m items left kind number link _ (Stays _) none = record { served = refl; session = refl }
turn_alike m items left kind number link _ (IsSaid frames _ idle) none = sends_alike (IsAlike link) m.event frames link (record { served = refl; session = refl }) (record { served = refl; session = refl })
turn_alike m items left kind number link _ (IsTaken frames reply later _ out down) none =
    sends_alike (IsAlike link) m.event frames (takes (Took reply.frame link.is_open) reply later link) (record { served = refl; session = refl }) (record { served = refl; session = refl })
turn_alike m items left kind number link _ (IsCut ups downs _ opens) none = cut_case (IsAlike link) m.event ups downs link opens (record { served = refl; session = refl })
turn_alike m items left kind number link _ (IsReaped other reaped _ is) none = record { served = refl; session = refl }
turn_alike m items left kind number _ _ (IsServed frame front served is at ordinary same) none = absurd (let never : Some number ≡ None = sym (ap serves_at is) ∙ none in let no : ⊥ = cc in no)
turn_alike m items left kind number link _ (HasFallen other after failover down _ is apart) none = absurd (let never : Some other ≡ None = sym (ap serves_at is) ∙ none in let no : ⊥ = cc in no)
turn_alike m items left kind number _ _ (WasStopped after failover down front served is at stopped same) none = absurd (let never : Some number ≡ None = sym (ap serves_at is) ∙ none in let no : ⊥ = cc in no)
turn_alike m items left kind number _ _ (WasServed after failover down front served is at over same) none = absurd (let never : Some number ≡ None = sym (ap serves_at is) ∙ none in let no : ⊥ = cc in no)

module _ (before after : Seen) (old new : Traced) (event : Event) (note : Note) (items left : List Served) (one : OneEvent before old event note items left after new) (inv : Orderly old) where
  abbrev followed : Followed old.setting old.machine event note items left new.machine
  followed = follow_happens old.setting old.machine event note items left new.machine one.follows

  turned_alone : serves_at followed.kind ≡ None → AllAlone old.machine.links new.machine.links
  turned_alone none at link here = by (all_turn old.setting (at_event old.machine) (held_now old inv) items left followed.kind new.machine followed.happens at link here)
    where
      by : ComesFrom (at_event old.machine) items left followed.kind at link → Alone old.machine.links at link
      by (IsNew owner same) =
          Unnamed (ap (λ (l : Link). l.session) same ∙ sends_alike (λ l. l.session ≡ None) (old.machine.event + 1) (sent_by owner 0 up.Connect ∷ []) new_link refl refl)
      by (IsOld was there turn) = Alike was there (turn_alike (at_event old.machine) items left followed.kind at was link turn none)

  others_add : serves_frame event ≡ false → Adds old note new.machine.links one.happened
  others_add none = AddsNone (others_none old event note items one.happened none one.did) (turned_alone (others_kind event note followed.kind none followed.is_kind))

pub event_adds : (before after : Seen) (old new : Traced) (event : Event) (note : Note) (items left : List Served) (one : OneEvent before old event note items left after new) → Orderly old → Adds old note new.machine.links one.happened
event_adds before after old new (event.Serve connection) (note.Serve named frame) items left one inv =
    serve_adds old (note.Serve named frame) one.happened new.machine connection frame items left (front_at old.machine.links connection) refl
    (noted_kind old.setting (at_event old.machine) new.machine items left _ (ServedOn connection frame) one.follows) one.did
event_adds before after old new (event.Crash connection pick after_so) (note.Crash named down) items left one inv =
    crash_adds old (note.Crash named down) one.happened new.machine connection pick (is_failover after_so) old.machine.server.is_up down items left
    (noted_kind old.setting (at_event old.machine) new.machine items left _ (Crashed connection pick (is_failover after_so) down) one.follows) one.did
event_adds before after old new (event.Serve connection) note items left one inv = absurd (let follows = one.follows in let never : ⊥ = cc in never)
event_adds before after old new (event.Crash connection pick after_so) note items left one inv = absurd (let follows = one.follows in let never : ⊥ = cc in never)
event_adds before after old new event note items left one inv = others_add before after old new event note items left one inv refl
