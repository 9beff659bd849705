-- Each call with the mark that is served was sent by a request on a connection that it held, and
-- the turn that is told of its session has as many calls with the mark as were sent before it.
use Rattle.std.proofs.Common.{◌≡◌, refl, sym, ap, subst, ◌∙◌, Bool, true, false, ℕ, zero, suc, ◌+◌, ◌&&◌, ◌||◌, length, filter, List, [], ◌∷◌, ◌++◌, map, Option, Some, None, option_map, arith}
use Rattle.std.specs.Prelude.{◌==◌, IsTrue, is_some, slice_get}
use Rattle.std.specs.List.{list_all, list_any}
use Rattle.std.specs.Option.{option_map_or}
use Rattle.std.proofs.lemmas.Bool.{and_parts}
use Rattle.svc_values.specs.declared.draw.Draw.{Draw}
use Rattle.svc_values.specs.declared.entry.SessionId.{SessionId}
use Rattle.svc_values.specs.declared.frame.Up.{Up}
use Rattle.svc_values.specs.declared.frame.Up.TheVariants as up
use Rattle.svc_values.specs.meaning.Identifiers.{same_session}
use Rattle.svc_values.specs.meaning.Same.{same_call, same_draws}
use Rattle.svc_values.specs.SameLaws.{same_call_decides, same_draws_decide, same_session_decides}
use Rattle.outage_schedule.specs.declared.document.Document.{Document}
use Rattle.outage_schedule.specs.declared.item.Served.{Served}
use Rattle.shown_clauses.specs.meaning.Links.{Acquired, Link as SeenLink, Marked, Turn, link_of, link_of_session}
use Rattle.shown_clauses.specs.meaning.Turns.{is_marked}
use Rattle.world_model.specs.meaning.Clients.{Client}
use Rattle.world_model.specs.meaning.Frames.{Owner, Sent}
use Rattle.invariant_laws.specs.Invariant.{Invariant}
use Rattle.invariant_laws.specs.KeptLaws.{RunsKeepInvariant}
use Rattle.world_model.specs.meaning.Links.{Link, link_at}
use Rattle.world_model.specs.records.Ready.{all_requests_right}
use Rattle.invariant_laws.specs.SameLaws.{HoldsInRuns}
use Rattle.world_model.specs.Sames.{is_front, is_of, owned_by, same_owner, same_sent, same_up}
use Rattle.world_model.specs.records.Script.{is_held_by, owned_rightly}
use Rattle.world_model.specs.meaning.Serving.{is_item_of, is_of_front, is_served_by}
use Rattle.invariant_laws.specs.Shown.{is_marked as is_marked_frame}
use Rattle.world_model.specs.Traced.{Course, courses_of}
use Rattle.world_model.specs.records.Wire.{New, handled_from, is_right, is_sent_front, stage_of, up_of}
use Rattle.world_model.specs.Words.{held_in}
use Rattle.shown_laws.specs.ConnectionLaws.{AreTold, RunsTellConnections}
use Rattle.shown_laws.specs.Connections.{TellsAt, NoLink, Unnamed, Named}
use Rattle.shown_laws.specs.Telling.{seen_told}
use Rattle.shown_laws.specs.TurnOwners.{Begun, HasBegun, IsStepOf, NotBegun, RunsTellOwners, served_begin, told_begin}
use Rattle.shown_laws.specs.TurnsServed.{RunsTellTurns, calls_served, calls_told, served_in}
use Rattle.shown_laws.specs.Unblocked.{serve_unblocked, serves_unblocked}
use Rattle.shown_laws.proofs.Offered.{IsFront, at_link, front_is}
use Rattle.legal_laws.specs.MarksTold.{ServesMarked, end_of}
use Rattle.legal_laws.specs.Points.{Point, IsPoint}
use Rattle.legal_laws.specs.ReplaysTold.{IsSentBy, TellsPlace, IsAcquired, IsPlaced, ReplaysArePlaced, ReportsShowReplays, ReportsTellReplays}
use Rattle.legal_laws.proofs.MarksBrought.{one_of, there_in}
use Rattle.legal_laws.proofs.ReplaysServed.{StandsBehind, owner_is, stands_behind}

-- LISTS -------------------------------------------------------------------------------------------

any_at : {A : Type 0} (test : A → Bool) (xs : List A) → list_any test xs ≡ true → (index : ℕ) × ((x : A) × ((slice_get xs index ≡ Some x) × (test x ≡ true)))
any_at test [] is = absurd (let no : ⊥ = cc in no)
any_at test (x ∷ xs) is = by (test x) refl is (any_at test xs)
  where
    by : (met : Bool) → test x ≡ met → (met || list_any test xs) ≡ true → (list_any test xs ≡ true → (index : ℕ) × ((y : _) × ((slice_get xs index ≡ Some y) × (test y ≡ true))))
        → (index : ℕ) × ((y : _) × ((slice_get (x ∷ xs) index ≡ Some y) × (test y ≡ true)))
    by true met is again = (zero, (x, (refl, met)))
    by false met is again = let later = again is in (suc later.0, (later.1.0, later.1.1))

-- WHOSE IT IS -------------------------------------------------------------------------------------

-- each frame with an owner on the connection of a number
owned_at : (courses : List Course) (from : ℕ) (links : List Link) (index : ℕ) (link : Link) → owned_rightly courses from links ≡ true → slice_get links index ≡ Some link
    → list_all (λ sent. option_map_or (is_held_by courses (from + index)) sent.owner true) link.sent ≡ true
owned_at courses from [] index link all is = absurd (let no : ⊥ = cc in no)
owned_at courses from (first ∷ links) zero link all is =
    let same : first ≡ link = cc in
    let here : from ≡ from + 0 = omega arith in
    subst (λ (n : ℕ). list_all (λ (sent : Sent). option_map_or (is_held_by courses n) sent.owner true) link.sent ≡ true) here
    (subst (λ (l : Link). list_all (λ (sent : Sent). option_map_or (is_held_by courses from) sent.owner true) l.sent ≡ true) same
    (and_parts (list_all (λ (sent : Sent). option_map_or (is_held_by courses from) sent.owner true) first.sent) (owned_rightly courses (from + 1) links) all).0)
owned_at courses from (first ∷ links) (suc index) link all is =
    let on : (from + 1) + index ≡ from + suc index = omega arith in
    subst (λ (n : ℕ). list_all (λ (sent : Sent). option_map_or (is_held_by courses n) sent.owner true) link.sent ≡ true) on
    (owned_at courses (from + 1) links index link (and_parts (list_all (λ (sent : Sent). option_map_or (is_held_by courses from) sent.owner true) first.sent) (owned_rightly courses (from + 1) links) all).1 is)

owned_on : (courses : List Course) (links : List Link) (number : ℕ) (link : Link) → owned_rightly courses 1 links ≡ true → link_at links number ≡ Some link → list_all (λ sent. option_map_or (is_held_by courses number) sent.owner true) link.sent ≡ true
owned_on courses links zero link all is = absurd (let no : ⊥ = cc in no)
owned_on courses links (suc index) link all is =
    let same : 1 + index ≡ suc index = omega arith in
    subst (λ (n : ℕ). list_all (λ (sent : Sent). option_map_or (is_held_by courses n) sent.owner true) link.sent ≡ true) same (owned_at courses 1 links index link all is)

-- the course of an owner
record IsOwners (courses : List Course) (number : ℕ) (sent : Sent) : Type 0 where
  place : ℕ
  course : Course
  at : slice_get courses place ≡ Some course
  held : list_any (λ other. other == number) (held_in course.steps) ≡ true
  owned : owned_by course.owner sent ≡ true
  own : sent.owner ≡ Some course.owner

owners : (courses : List Course) (number : ℕ) (sent : Sent) (found : Option Owner) → sent.owner ≡ found → is_some found ≡ true → option_map_or (is_held_by courses number) found true ≡ true → IsOwners courses number sent
owners courses number sent None own is held = absurd (let no : ⊥ = cc in no)
owners courses number sent (Some owner) own is held =
    let at = any_at (λ (course : Course). same_owner course.owner owner && list_any (λ (other : ℕ). other == number) (held_in course.steps)) courses held in
    let both = and_parts (same_owner at.1.0.owner owner) (list_any (λ (other : ℕ). other == number) (held_in at.1.0.steps)) at.1.1.1 in
    record { place = at.0; course = at.1.0; at = at.1.1.0; held = both.1; owned = ap (is_of at.1.0.owner) own ∙ both.0; own = own ∙ ap Some (sym (owner_is at.1.0.owner owner both.0)) }

-- two calls that are the same
same_marked : (a b : Up) → same_up a b ≡ true → is_marked_frame a ≡ true → b ≡ a
same_marked (up.Call true kept call) (up.Call true others other) same is =
    let both = and_parts (same_draws kept others) (same_call call other) same in
    ap (λ (draws : List Draw). up.Call true draws other) (sym ((same_draws_decide kept others).0 both.0)) ∙ ap (up.Call true kept) (sym ((same_call_decides call other).0 both.1))
same_marked a b same is = absurd (let no : ⊥ = cc in no)

-- ITS SESSION -------------------------------------------------------------------------------------

has_name : (found : Option SessionId) (session : SessionId) → option_map_or (same_session session) found false ≡ true → found ≡ Some session
has_name None session is = absurd (let no : ⊥ = cc in no)
has_name (Some other) session is = ap Some (sym ((same_session_decides session other).0 is))

-- what is told of a connection whose session has this name
record IsTold (found : Option SeenLink) (session : SessionId) : Type 0 where
  one : SeenLink
  is : found ≡ Some one
  named : one.session ≡ session

told_one : (number : ℕ) (own : Option Link) (found : Option SeenLink) (link : Link) (session : SessionId) → TellsAt number own found → own ≡ Some link → link.session ≡ Some session → IsTold found session
told_one number _ _ link session NoLink is named = absurd (let no : ⊥ = cc in no)
told_one number _ _ link session (Unnamed other here) is named = let same : other ≡ link = cc in let none : Some session ≡ None = sym named ∙ (ap (λ (l : Link). l.session) (sym same) ∙ here.session) in absurd (let no : ⊥ = cc in no)
told_one number _ _ link session (Named other one here) is named =
    let same : other ≡ link = cc in
    let both : Some one.session ≡ Some session = sym here.session ∙ (ap (λ (l : Link). l.session) same ∙ named) in
    record { one = one; is = refl; named = cc }

-- ITS TURN ----------------------------------------------------------------------------------------

-- a turn with these calls
record HasTurn (found : Option Turn) (calls : List Marked) : Type 0 where
  turn : Turn
  has : found ≡ Some turn
  are : turn.calls ≡ calls

has_turn : (found : Option Turn) (calls : List Marked) → option_map (λ turn. turn.calls) found ≡ Some calls → HasTurn found calls
has_turn None calls is = absurd (let no : ⊥ = cc in no)
has_turn (Some turn) calls is = record { turn = turn; has = refl; are = cc }

-- its session was acquired by a step of who sent the Begin
begun_own : (clients : List Client) (told : Option (Option Acquired)) (served : Option (Option Owner)) (turn : Turn) (owner : Owner) → Begun clients told served → told ≡ Some turn.acquired → served ≡ Some (Some owner) → IsAcquired clients turn owner
begun_own clients _ _ turn owner NotBegun told is = absurd (let no : ⊥ = cc in no)
begun_own clients _ _ turn owner (HasBegun other acquired step) told is =
    let acquires : turn.acquired ≡ Some acquired = cc in
    let same : other ≡ owner = cc in
    record { acquired = acquired; acquires = acquires; did = subst (λ (o : Owner). IsStepOf clients o acquired) same step }

-- A POINT -----------------------------------------------------------------------------------------

module _ (document : Document) (last : Point) (calls : IsTrue (all_requests_right document)) (keeps : RunsKeepInvariant) (unblocked : HoldsInRuns serve_unblocked) (connections : RunsTellConnections) (turns : RunsTellTurns) (owners_told : RunsTellOwners) where
  module _ (p : Point) (served : Served) (kept : List Draw) (here : IsPoint document p) (serves : ServesMarked document last p served kept) where
    inv : Invariant p.t
    inv = keeps document p.events p.notes p.items p.seen p.t calls here

    abbrev links : List Link
    links = p.t.machine.links

    abbrev first : Sent
    first = serves.front.first

    marked : is_marked_frame first.frame ≡ true
    marked = ap is_marked_frame serves.brings

    front : IsFront links serves.number serves.front
    front = front_is links serves.number serves.front serves.there

    behind : StandsBehind first serves.front.link.sent 0 (served_begin serves.front.link.served) (calls_served serves.front.link.served)
    behind =
        let link : Link = serves.front.link in
        let sents : is_front same_sent (up_of link) link.sent ≡ true =
        (and_parts (is_front same_sent (up_of link) link.sent) _ (at_link is_sent_front links serves.number link inv.orderly.wire.sent front.there)).0 in
        stands_behind link.served first serves.front.later link.sent 0 New 0 None None marked (at_link (λ (l : Link). handled_from 0 l.served) links serves.number link inv.orderly.wire.handled front.there)
        (at_link serves_unblocked links serves.number link (unblocked document p.events p.notes p.items p.seen p.t calls here) front.there)
        (subst (λ (ups : List Sent). is_front same_sent (map (λ one. one.sent) link.served ++ ups) link.sent ≡ true) front.up sents)
        (at_link (λ (l : Link). is_right (stage_of l)) links serves.number link inv.orderly.wire.grammar front.there) refl

    course : IsOwners (courses_of p.t) serves.number behind.sent
    course =
        owners (courses_of p.t) serves.number behind.sent behind.sent.owner refl behind.owned
        (one_of (λ (sent : Sent). option_map_or (is_held_by (courses_of p.t) serves.number) sent.owner true) serves.front.link.sent (length behind.front) behind.sent
        (owned_on (courses_of p.t) links serves.number serves.front.link inv.orderly.script.owned front.there) (ap (λ (sents : List Sent). slice_get sents (length behind.front)) behind.among ∙ there_in behind.front behind.sent behind.rest))

    abbrev by : IsSentBy p serves.number first
    by = record {
      place = course.place;
      course = course.course;
      at = course.at;
      held = course.held;
      link = serves.front.link;
      there = front.there;
      front = behind.front;
      sent = behind.sent;
      rest = behind.rest;
      among = behind.among;
      same = same_marked first.frame behind.sent.frame behind.same marked;
      owned = course.owned;
    }

    session : serves.front.link.session ≡ Some served.session
    session =
        let fronts = and_parts (is_of_front (record p.t.machine { event = p.t.machine.event + 1 }) serves.front served) (is_item_of first.frame served.item) serves.ordinary in
        let one = (and_parts (served.event == p.t.machine.event + 1) (is_served_by p.t.machine.server serves.front.link first.frame served.session) fronts.0).1 in
        has_name serves.front.link.session served.session (subst (λ (frame : Up). is_served_by p.t.machine.server serves.front.link frame served.session ≡ true) serves.brings one)

    tells : AreTold p.notes p.items p.t
    tells = connections document p.events p.notes p.items p.seen p.t calls here

    told : IsTold (link_of serves.number (seen_told p.notes p.items).links) served.session
    told = told_one serves.number (link_at links serves.number) (link_of serves.number (seen_told p.notes p.items).links) serves.front.link served.session (tells.links.at serves.number) front.there session

    turn : HasTurn told.one.turn behind.marks.all
    turn =
        has_turn told.one.turn behind.marks.all
        (sym (ap (λ (found : Option SeenLink). option_map_or calls_told found None) told.is)
        ∙ (turns document p.events p.notes p.items p.seen p.t calls here serves.number ∙ (ap (λ (found : Option Link). calls_served (served_in found)) front.there ∙ behind.marks.are)))

    abbrev placed : TellsPlace p served behind.front
    placed = record {
      one = told.one;
      found = ap (λ (s : SessionId). link_of_session s (seen_told p.notes p.items).links) (sym told.named) ∙ tells.sessions serves.number told.one told.is;
      turn = turn.turn;
      has = turn.has;
      as_many =
          let many : length behind.front ≡ length (filter is_marked behind.marks.all) + 3 = let sum = behind.marks.many in omega (arith, sum) in
          many ∙ ap (λ (list : List Marked). length (filter is_marked list) + 3) (sym turn.are);
    }

    -- the last Begin that was served is of this request
    begun : served_begin (served_in (link_at links serves.number)) ≡ Some (Some course.course.owner)
    begun = ap (λ (found : Option Link). served_begin (served_in found)) front.there ∙ (behind.begins ∙ ap Some course.own)

    acquirer : IsAcquired p.t.machine.clients turn.turn course.course.owner
    acquirer =
        begun_own p.t.machine.clients (told_begin serves.number (seen_told p.notes p.items).links) (served_begin (served_in (link_at links serves.number))) turn.turn course.course.owner
        ((owners_told document p.events p.notes p.items p.seen p.t calls here).current serves.number)
        (ap (λ (found : Option SeenLink). option_map_or (λ (one : SeenLink). option_map (λ (x : Turn). x.acquired) one.turn) found None) told.is ∙ ap (option_map (λ (x : Turn). x.acquired)) turn.has) begun

    pub is_placed : IsPlaced p served serves.number serves.front.first
    is_placed = record { by = by; place = placed; told = told.is; acquirer = acquirer }

pub replays_placed : RunsKeepInvariant → HoldsInRuns serve_unblocked → RunsTellConnections → RunsTellTurns → RunsTellOwners → ReplaysArePlaced
replays_placed keeps unblocked connections turns owners_told document last calls p served kept here serves = is_placed document last calls keeps unblocked connections turns owners_told p served kept here serves

-- A REPORT ----------------------------------------------------------------------------------------

-- with the request that is told of the turn
pub replays_joined : ReplaysArePlaced → ReportsShowReplays → ReportsTellReplays
replays_joined placed shows document report seen t server events calls is p served kept here serves =
    let one : IsPlaced p served serves.number serves.front.first = placed document (end_of events report seen t) calls p served kept here serves in
    record { by = one.by; tells = record { place = one.place; shows = shows document report seen t server events calls is p served kept here serves one } }
