-- Where a request takes an outcome, the connection that it lost is told.
use Rattle.std.proofs.Common.{◌≡◌, ◌<◌, refl, sym, ap, subst, ◌∙◌, Bool, true, false, ℕ, length, List, [], ◌∷◌, Option, Some, None, option_and_then, ◌⊎◌, inl, inr}
use Rattle.std.specs.Prelude.{◌==◌, is_some, is_none}
use Rattle.std.specs.List.{list_all, list_any}
use Rattle.std.specs.Option.{option_map_or}
use Rattle.std.proofs.lemmas.Bool.{and_parts, or_cases, or_left, or_right}
use Rattle.svc_values.specs.declared.entry.Ltxid.{Ltxid}
use Rattle.svc_values.specs.declared.entry.SessionId.{SessionId}
use Rattle.svc_values.specs.declared.frame.Up.{Up}
use Rattle.svc_values.specs.declared.frame.Up.TheVariants as up
use Rattle.svc_values.specs.declared.frame.Down.{Down}
use Rattle.svc_values.specs.meaning.Identifiers.{same_ltxid, same_session, session_of}
use Rattle.svc_values.specs.meaning.Same.{same_bool}
use Rattle.svc_values.specs.SameLaws.{same_ltxid_decides, same_session_decides}
use Rattle.client_model.specs.meaning.Terms.{Phase, Greeting, Asked, Running, Replaying}
use Rattle.outage_schedule.specs.declared.item.Item.{Item}
use Rattle.outage_schedule.specs.declared.item.Item.TheVariants as item
use Rattle.outage_schedule.specs.declared.item.Served.{Served}
use Rattle.outage_schedule.specs.declared.note.AskResult.{AskResult}
use Rattle.shown_clauses.specs.meaning.Links.{Link as Seen, link_of, link_of_session}
use Rattle.shown_clauses.specs.meaning.Steps.{asked_of}
use Rattle.world_model.specs.records.Basic.{first_is_connect, is_named}
use Rattle.world_model.specs.meaning.Frames.{Owner, Sent, Reply}
use Rattle.world_model.specs.records.Hold.{is_awaited, same_held}
use Rattle.world_model.specs.meaning.Links.{Link, link_at}
use Rattle.invariant_laws.specs.Lost.{same_event, is_wanted, lost_links, is_asked_for, wants_lost}
use Rattle.world_model.specs.records.Number.{last_told, is_told as is_heard}
use Rattle.world_model.specs.Parts.{is_closed, implies}
use Rattle.world_model.specs.Sames.{same_owners, same_up}
use Rattle.world_model.specs.meaning.Serving.{is_item_of}
use Rattle.world_model.specs.Traced.{Traced, Course}
use Rattle.world_model.specs.Wanted.{Wanted, wanted_in}
use Rattle.shown_laws.specs.ClientSteps.{TellsReply, TellsLost, LostTold, NoneAsked, WasAsked}
use Rattle.shown_laws.specs.Connections.{TellsEnd, IsOpen, HasEnded, WasClosed, NeverHeard, FoundBySession}
use Rattle.shown_laws.proofs.links.ConnectionsTold.{AllTold, told_at}
use Rattle.shown_laws.proofs.events.Lookups.{eq_from, eq_to}
use Rattle.shown_laws.proofs.links.SessionsApart.{at_link}

-- WHAT IS ASKED -----------------------------------------------------------------------------------

-- the outcome that is awaited is of the identifier that is asked
awaits_outcome : (phase : Phase) (frame last : Up) (sent : Sent) (x : Ltxid) (result : AskResult) → is_item_of frame (item.Outcome x result) ≡ true → same_up frame last ≡ true → is_awaited phase (record sent { frame = last }) ≡ true
    → (wanted : Wanted) × ((wanted_in phase ≡ Some wanted) × (x ≡ wanted.ltxid))
awaits_outcome (Asked asking) (up.Outcome y) (up.Outcome z) sent x result is same awaited =
    let one : x ≡ y = (same_ltxid_decides x y).0 is in
    let two : y ≡ z = (same_ltxid_decides y z).0 same in
    let three : asking.ltxid ≡ z = (same_ltxid_decides asking.ltxid z).0 awaited in
    (record { ltxid = asking.ltxid; event = asking.event }, (refl, one ∙ (two ∙ sym three)))
awaits_outcome phase up.Connect last sent x result is same awaited = absurd (let none : ⊥ = cc in none)
awaits_outcome phase (up.Begin settings) last sent x result is same awaited = absurd (let none : ⊥ = cc in none)
awaits_outcome phase (up.Call replay kept call) last sent x result is same awaited = absurd (let none : ⊥ = cc in none)
awaits_outcome phase up.End last sent x result is same awaited = absurd (let none : ⊥ = cc in none)
awaits_outcome phase up.Close last sent x result is same awaited = absurd (let none : ⊥ = cc in none)
awaits_outcome (Greeting lost) (up.Outcome y) (up.Outcome z) sent x result is same awaited = absurd (let none : ⊥ = cc in none)
awaits_outcome (Running state) (up.Outcome y) (up.Outcome z) sent x result is same awaited = absurd (let none : ⊥ = cc in none)
awaits_outcome (Replaying state) (up.Outcome y) (up.Outcome z) sent x result is same awaited = absurd (let none : ⊥ = cc in none)
awaits_outcome phase (up.Outcome y) last sent x result is same awaited = absurd (let none : ⊥ = cc in none)

-- one of a list that meets a test
any_met : (test : ℕ → Bool) (numbers : List ℕ) → list_any test numbers ≡ true → (number : ℕ) × ((list_any (λ other. other == number) numbers ≡ true) × (test number ≡ true))
any_met test [] any = absurd (let none : ⊥ = cc in none)
any_met test (one ∷ numbers) any = by (or_cases (test one) (list_any test numbers) any) (any_met test numbers)
  where
    by : (test one ≡ true) ⊎ (list_any test numbers ≡ true) → (list_any test numbers ≡ true → (number : ℕ) × ((list_any (λ other. other == number) numbers ≡ true) × (test number ≡ true)))
        → (number : ℕ) × ((list_any (λ other. other == number) (one ∷ numbers) ≡ true) × (test number ≡ true))
    by (inl here) rest = (one, (or_left (one == one) (list_any (λ other. other == one) numbers) (eq_to one one refl), here))
    by (inr there) rest = let found = rest there in (found.0, (or_right (one == found.0) (list_any (λ other. other == found.0) numbers) found.1.0, found.1.1))

-- its session has the name in the identifier that is held
pub held_session : (link : Link) (x : Ltxid) → is_named link ≡ true → link.held ≡ Some x → link.session ≡ Some (session_of x)
held_session link x named held = by link.session (subst (λ (h : Option Ltxid). option_map_or (λ y. option_map_or (same_session (session_of y)) link.session false) h true ≡ true) held last)
  where
    by : (found : Option SessionId) → option_map_or (same_session (session_of x)) found false ≡ true → found ≡ Some (session_of x)
    by None is = absurd (let none : ⊥ = cc in none)
    by (Some session) is = ap Some (sym ((same_session_decides (session_of x) session).0 is))

    last : option_map_or (λ y. option_map_or (same_session (session_of y)) link.session false) link.held true ≡ true
    last =
        let one = and_parts (same_bool (is_some link.session) (first_is_connect link.served)) _ named in
        let two = and_parts (implies (is_none link.session) (length link.served == 0)) _ one.1 in
        (and_parts (list_all (λ other. option_map_or (same_session other.served.session) link.session false) link.served) _ two.1).1

-- the event that ended a connection on which a reply was taken is told, unless it was closed
ended_is : (link : Link) (told event : ℕ) (x : Ltxid) → TellsEnd link told → same_event link.ended event ≡ true → is_closed link ≡ false → is_heard link ≡ true → link.held ≡ Some x → (told ≡ event) × (0 < told)
ended_is link _ event x (IsOpen opens none never) same unclosed heard held =
    let met : same_event None event ≡ true = subst (λ (ended : Option ℕ). same_event ended event ≡ true) none same in
    absurd (let no : ⊥ = cc in no)
ended_is link told event x (HasEnded _ some shut at never) same unclosed heard held = (eq_from told event (subst (λ (ended : Option ℕ). same_event ended event ≡ true) at same), some)
ended_is link _ event x (WasClosed before shut closed) same unclosed heard held = absurd (let no : ⊥ = cc in no)
ended_is link _ event x (NeverHeard before shut none empty) same unclosed heard held =
    let one : same_held (last_told []) link.held ≡ true = subst (λ (taken : List Reply). same_held (last_told taken) link.held ≡ true) none heard in
    let two : same_held None (Some x) ≡ true = subst (λ (h : Option Ltxid). same_held None h ≡ true) held one in
    absurd (let no : ⊥ = cc in no)

-- WHAT WAS LOST -----------------------------------------------------------------------------------

module _ (t : Traced) (course : Course) (told : List Seen) (all : AllTold t.machine.links told) (found : FoundBySession told) (named : list_all is_named t.machine.links ≡ true) (lost : wants_lost t course ≡ true) (heard : list_all is_heard t.machine.links ≡ true)
    (unclosed : (number : ℕ) (link : Link) → list_any (λ other. other == number) (lost_links course) ≡ true → link_at t.machine.links number ≡ Some link → is_closed link ≡ false) where
  tells_lost : (x : Ltxid) (wanted : Wanted) → wanted_in course.phase ≡ Some wanted → x ≡ wanted.ltxid → TellsLost t course x (link_of_session (session_of x) told)
  tells_lost x wanted wants same = at_number (any_met _ (lost_links course) asked)
    where
      asked : is_asked_for t course wanted ≡ true
      asked = subst (λ (w : Option Wanted). option_map_or (is_asked_for t course) w true ≡ true) wants lost

      on_link : (number : ℕ) → list_any (λ other. other == number) (lost_links course) ≡ true → (link : Link) → link_at t.machine.links number ≡ Some link → is_wanted link wanted ≡ true → TellsLost t course x (link_of_session (session_of x) told)
      on_link number among link there is = by link.held refl (and_parts (option_map_or (same_ltxid wanted.ltxid) link.held false) (same_event link.ended wanted.event) is).0
        where
          with_held : (y : Ltxid) → link.held ≡ Some y → wanted.ltxid ≡ y → TellsLost t course x (link_of_session (session_of x) told)
          with_held y held equal =
              told_at (λ one. link_of number told ≡ one → TellsLost t course x (link_of_session (session_of x) told)) number (link_at t.machine.links number) (link_of number told) link (all number) there
              (λ here none. absurd (let both : None ≡ Some (session_of y) = sym here.session ∙ session in let no : ⊥ = cc in no))
              (λ seen here is_told. record {
                wanted = wanted;
                wants = wants;
                same = (same_ltxid_decides x wanted.ltxid).1 same;
                number = number;
                among = among;
                link = link;
                there = there;
                is_its = is;
                seen = seen;
                found = ap (λ (s : SessionId). link_of_session s told) (its seen here.session) ∙ found number seen is_told;
                tells = here;
                ended = (ended_is link seen.ended wanted.event y here.end (and_parts (option_map_or (same_ltxid wanted.ltxid) link.held false) (same_event link.ended wanted.event) is).1 (unclosed number link among there)
                    (at_link is_heard t.machine.links number link heard there) held).0;
                some = (ended_is link seen.ended wanted.event y here.end (and_parts (option_map_or (same_ltxid wanted.ltxid) link.held false) (same_event link.ended wanted.event) is).1 (unclosed number link among there)
                    (at_link is_heard t.machine.links number link heard there) held).1;
              }) refl
            where
              session : link.session ≡ Some (session_of y)
              session = held_session link y (at_link is_named t.machine.links number link named there) held

              its : (seen : Seen) → link.session ≡ Some seen.session → session_of x ≡ seen.session
              its seen here =
                  let both : Some (session_of y) ≡ Some seen.session = sym session ∙ here in
                  let one : session_of y ≡ seen.session = cc in
                  ap session_of (same ∙ equal) ∙ one

          by : (held : Option Ltxid) → link.held ≡ held → option_map_or (same_ltxid wanted.ltxid) held false ≡ true → TellsLost t course x (link_of_session (session_of x) told)
          by None held met = absurd (let no : ⊥ = cc in no)
          by (Some y) held met = with_held y held ((same_ltxid_decides wanted.ltxid y).0 met)

      at_number : (number : ℕ) × ((list_any (λ other. other == number) (lost_links course) ≡ true) × (option_map_or (λ link. is_wanted link wanted) (link_at t.machine.links number) false ≡ true)) → TellsLost t course x (link_of_session (session_of x) told)
      at_number one = by (link_at t.machine.links one.0) refl one.1.1
        where
          by : (here : Option Link) → link_at t.machine.links one.0 ≡ here → option_map_or (λ link. is_wanted link wanted) here false ≡ true → TellsLost t course x (link_of_session (session_of x) told)
          by None there is = absurd (let no : ⊥ = cc in no)
          by (Some link) there is = on_link one.0 one.1.0 link there is

  -- The connection whose outcome is taken is told by the session of the identifier that is asked.
  pub lost_told : (owner : Owner) (link : Link) (frame : Down) (served : Served) → TellsReply owner course.phase link frame served
      → LostTold t course (option_and_then (λ x. link_of_session (session_of x) told) (asked_of served.item)) (asked_of served.item)
  lost_told owner link frame served reply = by served.item reply.is_its
    where
      alike : same_up reply.one.sent.frame reply.sent.frame ≡ true
      alike = (and_parts (reply.one.sent.call == reply.sent.call) (same_up reply.one.sent.frame reply.sent.frame) (and_parts (same_owners reply.one.sent.owner reply.sent.owner) _ reply.same).1).1

      by : (one : Item) → is_item_of reply.one.sent.frame one ≡ true → LostTold t course (option_and_then (λ x. link_of_session (session_of x) told) (asked_of one)) (asked_of one)
      by (item.Outcome x result) is =
          let asks = awaits_outcome course.phase reply.one.sent.frame reply.sent.frame reply.sent x result is alike reply.awaited in
          WasAsked x (tells_lost x asks.0 asks.1.0 asks.1.1)
      by item.Connect is = NoneAsked refl
      by (item.Begin settings) is = NoneAsked refl
      by (item.Call marked call answers draws) is = NoneAsked refl
      by (item.Blocked call) is = NoneAsked refl
      by item.End is = NoneAsked refl
      by item.Close is = NoneAsked refl
      by (item.Refused cause) is = NoneAsked refl
      by (item.CrashedCall marked call) is = NoneAsked refl
      by (item.CrashedOutcome x) is = NoneAsked refl
