-- How the sessions grow in an event, and that it has one item at most.
use Rattle.std.proofs.Common.{◌≡◌, refl, sym, ap, subst, ◌∙◌, Bool, true, false, ℕ, suc, zero, ◌+◌, List, [], ◌∷◌, ◌++◌, map, Some, None, if◌then◌else◌}
use Rattle.std.proofs.lemmas.List.{map-append}
use Rattle.svc_values.specs.declared.entry.SessionId.{SessionId}
use Rattle.svc_values.specs.declared.entry.Ltxid.{Ltxid}
use Rattle.svc_values.specs.declared.frame.Up.{Up}
use Rattle.svc_values.specs.declared.frame.Up.TheVariants as up
use Rattle.outage_schedule.specs.declared.note.AskResult.{AskResult}
use Rattle.outage_schedule.specs.declared.item.Item.{Item}
use Rattle.outage_schedule.specs.declared.item.Item.TheVariants as item
use Rattle.outage_schedule.specs.declared.item.Served.{Served}
use Rattle.run_clauses.specs.meaning.Outcomes.{is_uncommitted}
use Rattle.world_model.specs.meaning.Frames.{Handled}
use Rattle.world_model.specs.meaning.Links.{Link, with_link}
use Rattle.world_model.specs.meaning.Machines.{Server, Machine, next_session}
use Rattle.world_model.specs.meaning.Matching.{Noted, RanOutside}
use Rattle.world_model.specs.meaning.Serving.{Front, is_of_front, is_served_by, server_after, handled, after_front}
use Rattle.world_model.specs.meaning.Crashing.{with_doubt}
use Rattle.world_model.specs.meaning.Outside.{after_asked}
use Rattle.world_model.specs.records.Basic.{is_named, is_connect, item_events}
use Rattle.world_model.specs.records.Hold as hold
use Rattle.world_model.proofs.events.Tests.{same_session_is}
use Rattle.world_model.proofs.hold.Inserted.{Inserted, found_set, found_same, flat_set}
use Rattle.world_model.proofs.basic.Census.{Census, next_of, Grows, Stands, Connects, Outside}
use Rattle.world_model.proofs.wire.Fronts.{connect_first}
use Rattle.world_model.proofs.basic.Ends.{handled_alike}
use Rattle.world_model.proofs.basic.LinkNamed.{named_test, unnamed, other_session}
use Rattle.world_model.proofs.basic.NamesKept.{is_wired, wired_sent, wired_right, serving}
use Rattle.world_model.proofs.basic.SessionViews.{session_of_link, sessions_in, events_in}
use Rattle.world_model.proofs.events.AllLinks.{IsFront}

-- COUNTS OF THE SERVER ----------------------------------------------------------------------------

connect_counts : (server : Server) (one : Item) → is_connect one ≡ true → (server_after server one).sessions ≡ server.sessions + 1
connect_counts server item.Connect is = refl
connect_counts server one is = absurd (let never : ⊥ = cc in never)

if_sessions : (a b : Server) (test : Bool) (sessions : ℕ) → a.sessions ≡ sessions → b.sessions ≡ sessions → (if test then a else b).sessions ≡ sessions
if_sessions a b true sessions one other = one
if_sessions a b false sessions one other = other

pub other_counts : (server : Server) (one : Item) → is_connect one ≡ false → (server_after server one).sessions ≡ server.sessions
other_counts server item.Connect is = absurd (let never : ⊥ = cc in never)
other_counts server (item.Outcome asked result) is = if_sessions (record server { blocked = asked ∷ server.blocked }) server (is_uncommitted result) server.sessions refl refl
other_counts server one is = refl

pub doubt_counts : (server : Server) (one : Item) → (with_doubt server one).sessions ≡ server.sessions
doubt_counts server (item.CrashedOutcome asked) = refl
doubt_counts server one = refl

pub asked_counts : (server : Server) (ltxid : Ltxid) (result : AskResult) → (after_asked server ltxid result).sessions ≡ server.sessions
asked_counts server ltxid result = if_sessions (record server { blocked = ltxid ∷ server.blocked }) server (is_uncommitted result) server.sessions refl refl

if_incarnation : (a b : Server) (test : Bool) (incarnation : ℕ) → a.incarnation ≡ incarnation → b.incarnation ≡ incarnation → (if test then a else b).incarnation ≡ incarnation
if_incarnation a b true incarnation one other = one
if_incarnation a b false incarnation one other = other

pub served_incarnation : (server : Server) (one : Item) → (server_after server one).incarnation ≡ server.incarnation
served_incarnation server (item.Outcome asked result) = if_incarnation (record server { blocked = asked ∷ server.blocked }) server (is_uncommitted result) server.incarnation refl refl
served_incarnation server one = refl

pub doubt_incarnation : (server : Server) (one : Item) → (with_doubt server one).incarnation ≡ server.incarnation
doubt_incarnation server (item.CrashedOutcome asked) = refl
doubt_incarnation server one = refl

pub asked_incarnation : (server : Server) (ltxid : Ltxid) (result : AskResult) → (after_asked server ltxid result).incarnation ≡ server.incarnation
asked_incarnation server ltxid result = if_incarnation (record server { blocked = ltxid ∷ server.blocked }) server (is_uncommitted result) server.incarnation refl refl

-- A FRAME THAT IS SERVED --------------------------------------------------------------------------

-- the connection behind it
pub record IsServed (front : Front) (served : Served) (next : Link) : Type 0 where
  pub session : next.session ≡ Some served.session
  pub events : item_events next ≡ item_events front.link ++ served.event ∷ []

one_more : (front : Front) (one : Handled) → map (λ (h : Handled). h.served.event) (front.link.served ++ one ∷ []) ≡ item_events front.link ++ one.served.event ∷ []
one_more front one = map-append (λ (h : Handled). h.served.event) front.link.served (one ∷ [])

pub handled_is : (event : ℕ) (front : Front) (served : Served) → IsServed front served (handled event front served)
handled_is event front served =
    handled_alike (IsServed front served) event front served (λ reply. record { session = refl; events = one_more front (record { sent = front.first; served = served; reply = reply }) })
    (λ reply. record { session = refl; events = one_more front (record { sent = front.first; served = served; reply = reply }) })

pub stopped_is : (front : Front) (served : Served) → IsServed front served (after_front front served None)
stopped_is front served = record { session = refl; events = one_more front (record { sent = front.first; served = served; reply = None }) }

pub connect_session : (server : Server) (link : Link) (frame : Up) (session : SessionId) → hold.is_connect frame ≡ true → is_served_by server link frame session ≡ true → session ≡ next_session server
connect_session server link up.Connect session is by = same_session_is session (next_session server) by
connect_session server link frame session is by = absurd (let never : ⊥ = cc in never)

join_sessions : (m : Machine) (number : ℕ) (front : Front) (served : Served) (next : Link) → IsServed front served next → hold.is_connect front.first.frame ≡ true → IsFront m.links number front
    → is_of_front m front served ≡ true → is_wired front.link ≡ true → is_named front.link ≡ true → Inserted (next_session m.server) (sessions_in m.links) (sessions_in (with_link m.links number next))
join_sessions m zero front served next is connect at of wired named = absurd (let there = at.there in let never : ⊥ = cc in never)
join_sessions m (suc index) front served next is connect at of wired named =
    let first = connect_first front.link front.first front.later (wired_sent front.link wired) (wired_right front.link wired) at.up connect in
    let none : front.link.session ≡ None = unnamed front.link.session front.link.held (subst (λ (handled : List Handled). named_test front.link.session handled front.link.held ≡ true) first named) in
    let same : served.session ≡ next_session m.server = connect_session m.server front.link front.first.frame served.session connect (serving m front served of) in
    found_set session_of_link (next_session m.server) m.links index front.link next at.there none (is.session ∙ ap Some same)

same_sessions : (m : Machine) (number : ℕ) (front : Front) (served : Served) (next : Link) → IsServed front served next → hold.is_connect front.first.frame ≡ false → IsFront m.links number front
    → is_of_front m front served ≡ true → sessions_in (with_link m.links number next) ≡ sessions_in m.links
same_sessions m zero front served next is other at of = refl
same_sessions m (suc index) front served next is other at of =
    found_same session_of_link m.links index front.link next at.there (is.session ∙ sym (other_session m.server front.link front.first.frame served.session other (serving m front served of)))

pub more_events : (m : Machine) (number : ℕ) (front : Front) (served : Served) (next : Link) → IsServed front served next → IsFront m.links number front
    → Inserted served.event (events_in m.links) (events_in (with_link m.links number next))
more_events m zero front served next is at = absurd (let there = at.there in let never : ⊥ = cc in never)
more_events m (suc index) front served next is at = flat_set item_events served.event m.links index front.link next at.there is.events

-- CENSUS ------------------------------------------------------------------------------------------

abbrev pub census : Machine → List SessionId → Census
census m outside = record { incarnation = m.server.incarnation; count = m.server.sessions; here = sessions_in m.links; outside = outside }

-- the session that was made outside, if one was
abbrev pub made_by : Server → Noted → List SessionId
made_by server (RanOutside (Some ran)) = next_session server ∷ []
made_by server _ = []

pub stands_by : (a b : Census) → b.incarnation ≡ a.incarnation → b.count ≡ a.count → b.here ≡ a.here → b.outside ≡ a.outside → Grows a b
stands_by a b incarnation count here outside =
    let same : b ≡ a = λ i. record { incarnation = incarnation i; count = count i; here = here i; outside = outside i } in
    subst (Grows a) (sym same) Stands

connects_by : (a b : Census) → b.incarnation ≡ a.incarnation → b.count ≡ a.count + 1 → Inserted (next_of a) a.here b.here → b.outside ≡ a.outside → Grows a b
connects_by a b incarnation count more outside =
    let same : b ≡ record a { count = a.count + 1; here = b.here } = λ i. record { incarnation = incarnation i; count = count i; here = b.here; outside = outside i } in
    subst (Grows a) (sym same) (Connects b.here more)

pub outside_by : (a b : Census) → b.incarnation ≡ a.incarnation → b.count ≡ a.count + 1 → b.here ≡ a.here → b.outside ≡ a.outside ++ next_of a ∷ [] → Grows a b
outside_by a b incarnation count here outside =
    let same : b ≡ record a { count = a.count + 1; outside = a.outside ++ next_of a ∷ [] } = λ i. record { incarnation = incarnation i; count = count i; here = here i; outside = outside i } in
    subst (Grows a) (sym same) Outside

pub served_grows : (m n : Machine) (outside later : List SessionId) (number : ℕ) (front : Front) (served : Served) (next : Link) (connect : Bool) → hold.is_connect front.first.frame ≡ connect → IsServed front served next
    → is_connect served.item ≡ hold.is_connect front.first.frame → IsFront m.links number front → is_of_front m front served ≡ true → is_wired front.link ≡ true → is_named front.link ≡ true → later ≡ outside
    → sessions_in n.links ≡ sessions_in (with_link m.links number next) → n.server.incarnation ≡ m.server.incarnation → n.server.sessions ≡ (server_after m.server served.item).sessions
    → Grows (census m outside) (census n later)
served_grows m n outside later number front served next true connect is same at of wired named none here incarnation count =
    connects_by (census m outside) (census n later) incarnation (count ∙ connect_counts m.server served.item (same ∙ connect))
    (subst (λ (sessions : List SessionId). Inserted (next_session m.server) (sessions_in m.links) sessions) (sym here) (join_sessions m number front served next is connect at of wired named)) none
served_grows m n outside later number front served next false connect is same at of wired named none here incarnation count =
    stands_by (census m outside) (census n later) incarnation (count ∙ other_counts m.server served.item (same ∙ connect)) (here ∙ same_sessions m number front served next is connect at of) none
