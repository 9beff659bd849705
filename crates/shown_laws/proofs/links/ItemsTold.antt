-- What is told of a connection at an event that serves a frame on it.
use Rattle.std.proofs.Common.{◌≡◌, ◌≢◌, refl, sym, ap, subst, ◌∙◌, append-nil, Bool, true, false, ℕ, ◌<◌, List, [], ◌∷◌, ◌++◌, Option, Some, None, option_map, option_and_then, ◌⊎◌, inl, inr, if◌then◌else◌}
use Rattle.std.specs.Option.{option_map_or}
use Rattle.svc_values.specs.declared.entry.SessionId.{SessionId}
use Rattle.svc_values.specs.declared.frame.Down.{Down}
use Rattle.svc_values.specs.declared.frame.Up.{Up}
use Rattle.svc_values.specs.declared.frame.Up.TheVariants as up
use Rattle.svc_values.specs.meaning.Identifiers.{same_session}
use Rattle.svc_values.specs.SameLaws.{same_session_decides}
use Rattle.outage_schedule.specs.declared.item.Item.{Item}
use Rattle.outage_schedule.specs.declared.item.Item.TheVariants as item
use Rattle.outage_schedule.specs.declared.item.Served.{Served}
use Rattle.shown_clauses.specs.meaning.Fronts.{changed_if, with_changed}
use Rattle.shown_clauses.specs.meaning.Links.{Link as Seen, has_session, link_of, new_link, add_reply, connected, served_on, is_connect, end_link, end_session}
use Rattle.invariant_laws.specs.Begins.{is_begin_frame}
use Rattle.world_model.specs.meaning.Crashing.{is_crashed_item}
use Rattle.world_model.specs.meaning.Frames.{Sent}
use Rattle.world_model.specs.records.Hold.{is_connect as is_connect_frame}
use Rattle.world_model.specs.meaning.Links.{Link, link_at, with_link, ends}
use Rattle.world_model.specs.meaning.Machines.{Server}
use Rattle.invariant_laws.specs.Same.{is_begin}
use Rattle.world_model.specs.meaning.Serving.{Front, first_of, front_of, front_at, is_served_by, is_item_of, is_blocked, reply_of, after_front}
use Rattle.shown_laws.specs.Connections.{answers_of, TellsReplies, TellsLink, IsUnnamed, TellsAt, NoLink, Unnamed, Named}
use Rattle.shown_laws.proofs.links.ConnectionsTold.{AllTold, told_at, one_changes, one_turns}
use Rattle.shown_laws.proofs.links.EndsTold.{ended_end, front_end}
use Rattle.shown_laws.proofs.events.Lookups.{either, with_own, with_other}
use Rattle.shown_laws.proofs.links.RepliesTold.{ends_case, quiet_replies, answered_replies, ended_replies}
use Rattle.shown_laws.proofs.links.SeenLists.{link_changed, new_own, new_others}

-- THE FRAME ---------------------------------------------------------------------------------------

-- the connection of a frame that may be served now
pub record IsFront (links : List Link) (number : ℕ) (front : Front) : Type 0 where
  pub there : link_at links number ≡ Some front.link
  pub living : front.link.is_living ≡ true
  pub up : front.link.up ≡ front.first ∷ front.later

first_is : (links : List Link) (number : ℕ) (link : Link) (ups : List Sent) (front : Front) → link_at links number ≡ Some link → link.is_living ≡ true → link.up ≡ ups → first_of link ups ≡ Some front → IsFront links number front
first_is links number link [] front there living same is = absurd (let none : ⊥ = cc in none)
first_is links number link (first ∷ later) front there living same is =
    let at : record { link = link; first = first; later = later } ≡ front = cc in
    subst (IsFront links number) at (record { there = there; living = living; up = same })

pub front_is : (links : List Link) (number : ℕ) (front : Front) → front_at links number ≡ Some front → IsFront links number front
front_is links number front is = by (link_at links number) refl is
  where
    lives : (link : Link) (test : Bool) → link_at links number ≡ Some link → link.is_living ≡ test → (if test then first_of link link.up else None) ≡ Some front → IsFront links number front
    lives link true there living is = first_is links number link link.up front there living refl is
    lives link false there living is = absurd (let none : ⊥ = cc in none)

    by : (found : Option Link) → link_at links number ≡ found → option_and_then front_of found ≡ Some front → IsFront links number front
    by None there is = absurd (let none : ⊥ = cc in none)
    by (Some link) there is = lives link link.is_living there refl is

-- WHOSE IT IS -------------------------------------------------------------------------------------

-- A Connect gives the session its name, and each other frame is served by the session that has one.
pub data NamesSession (front : Front) (served : Served) : Type 0 where
  GivesName : is_connect served.item ≡ true → front.link.session ≡ None → NamesSession front served
  HasName : is_connect served.item ≡ false → front.link.session ≡ Some served.session → NamesSession front served

has_name : (found : Option SessionId) (session : SessionId) → option_map_or (same_session session) found false ≡ true → found ≡ Some session
has_name None session is = absurd (let none : ⊥ = cc in none)
has_name (Some other) session is = ap Some (sym ((same_session_decides session other).0 is))

-- by the frame that it is the item of
pub names_session : (server : Server) (front : Front) (served : Served) → (is_connect_frame front.first.frame ≡ true → front.link.session ≡ None) → is_served_by server front.link front.first.frame served.session ≡ true
    → is_connect served.item ≡ is_connect_frame front.first.frame → NamesSession front served
names_session server front served fresh by_session same = by front.first.frame fresh by_session same
  where
    by : (frame : Up) → (is_connect_frame frame ≡ true → front.link.session ≡ None) → is_served_by server front.link frame served.session ≡ true → is_connect served.item ≡ is_connect_frame frame → NamesSession front served
    by up.Connect fresh is same = GivesName same (fresh refl)
    by (up.Begin settings) fresh is same = HasName same (has_name front.link.session served.session is)
    by (up.Call replay kept call) fresh is same = HasName same (has_name front.link.session served.session is)
    by (up.Outcome x) fresh is same = HasName same (has_name front.link.session served.session is)
    by up.End fresh is same = HasName same (has_name front.link.session served.session is)
    by up.Close fresh is same = HasName same (has_name front.link.session served.session is)

-- an item connects, or begins, where its frame does
pub item_kinds : (frame : Up) (one : Item) → is_item_of frame one ≡ true → (is_connect one ≡ is_connect_frame frame) × (is_begin_frame frame ≡ is_begin one)
item_kinds up.Connect item.Connect is = (refl, refl)
item_kinds (up.Begin settings) (item.Begin begun) is = (refl, refl)
item_kinds (up.Call replay kept call) (item.Call marked served answers draws) is = (refl, refl)
item_kinds (up.Call replay kept call) (item.Blocked served) is = (refl, refl)
item_kinds (up.Outcome x) (item.Outcome asked result) is = (refl, refl)
item_kinds up.End item.End is = (refl, refl)
item_kinds up.Close item.Close is = (refl, refl)
item_kinds frame one is = absurd (let none : ⊥ = cc in none)

pub stopped_kinds : (frame : Up) (one : Item) → is_crashed_item frame one ≡ true → (is_connect one ≡ is_connect_frame frame) × (is_begin_frame frame ≡ is_begin one)
stopped_kinds (up.Call replay kept call) (item.CrashedCall marked served) is = (refl, refl)
stopped_kinds (up.Outcome x) (item.CrashedOutcome asked) is = (refl, refl)
stopped_kinds frame one is = absurd (let none : ⊥ = cc in none)

not_refused : (frame : Up) (cause : ℕ) → is_item_of frame (item.Refused cause) ≡ true → ⊥
not_refused up.Connect cause is = let none : ⊥ = cc in none
not_refused (up.Begin settings) cause is = let none : ⊥ = cc in none
not_refused (up.Call replay kept call) cause is = let none : ⊥ = cc in none
not_refused (up.Outcome x) cause is = let none : ⊥ = cc in none
not_refused up.End cause is = let none : ⊥ = cc in none
not_refused up.Close cause is = let none : ⊥ = cc in none

-- two numbers of connections of one session are one
abbrev pub AreApart : List Link → Type 0
AreApart links = (number other : ℕ) (a b : Link) (session : SessionId) → link_at links number ≡ Some a → link_at links other ≡ Some b → a.session ≡ Some session → b.session ≡ Some session → number ≡ other

-- SERVING -----------------------------------------------------------------------------------------

module _ (number : ℕ) (front : Front) (served : Served) (links : List Link) (told : List Seen) (all : AllTold links told) (at : IsFront links number front) (names : NamesSession front served) where
  abbrev pub next : Option Down → Link
  next reply = after_front front served reply

  abbrev pub with_next : Option Down → List Link
  with_next reply = with_link links number (next reply)

  -- the session of a frame that is no Connect
  own_session : is_connect served.item ≡ false → front.link.session ≡ Some served.session
  own_session other = by names
    where
      by : NamesSession front served → front.link.session ≡ Some served.session
      by (GivesName gives none) = absurd (let no : ⊥ = cc in no)
      by (HasName has is) = is

  no_session : is_connect served.item ≡ true → front.link.session ≡ None
  no_session greets = by names
    where
      by : NamesSession front served → front.link.session ≡ None
      by (GivesName gives none) = none
      by (HasName has is) = absurd (let no : ⊥ = cc in no)

  own_next : (reply : Option Down) → link_at (with_next reply) number ≡ Some (next reply)
  own_next reply = with_own links number front.link (next reply) at.there

  -- what is told of the connection, where its session has a name
  pub by_named : (P : Option Seen → Type 0) → is_connect served.item ≡ false → ((seen : Seen) → TellsLink number front.link seen → served.session ≡ seen.session → P (Some seen)) → P (link_of number told)
  by_named P other named =
      told_at P number (link_at links number) (link_of number told) front.link (all number) at.there
      (λ here. absurd (let no : ⊥ = none_some here in no))
      (λ seen here. named seen here (same_some seen here))
    where
      none_some : IsUnnamed front.link → ⊥
      none_some here = let same : None ≡ Some served.session = sym here.session ∙ own_session other in let no : ⊥ = cc in no

      same_some : (seen : Seen) → TellsLink number front.link seen → served.session ≡ seen.session
      same_some seen here = let same : Some served.session ≡ Some seen.session = sym (own_session other) ∙ here.session in let is : served.session ≡ seen.session = cc in is

  -- A frame that is not answered is told as no reply.
  quiet_told : is_connect served.item ≡ false → AllTold (with_next None) told
  quiet_told other =
      one_turns links (with_next None) told number all (λ k differ. with_other links number k (next None) differ)
      (subst (λ (l : Option Link). TellsAt number l (link_of number told)) (sym (own_next None))
      (by_named (TellsAt number (Some (next None))) other (λ seen here same. Named (next None) seen (record {
        connection = here.connection;
        session = ap Some same;
        replies = quiet_replies front served seen.replies here.replies at.living;
        end = front_end seen.ended front served None here.end;
      }))))

  -- with a reply more
  abbrev replied : Seen → Seen
  replied seen = record seen { replies = seen.replies ++ served ∷ [] }

  -- One that is answered is told as a reply.
  answered_told : (frame : Down) → is_connect served.item ≡ false → AllTold (with_next (Some frame)) (add_reply number served told)
  answered_told frame other =
      one_changes links (with_next (Some frame)) told number replied (λ seen. refl) all (λ k differ. with_other links number k (next (Some frame)) differ)
      (subst (λ (l : Option Link). TellsAt number l (option_map replied (link_of number told))) (sym (own_next (Some frame)))
      (by_named (λ one. TellsAt number (Some (next (Some frame))) (option_map replied one)) other
      (λ seen here same. Named (next (Some frame)) (replied seen) (record {
        connection = here.connection;
        session = ap Some same;
        replies = answered_replies front served frame seen.replies here.replies at.living;
        end = front_end seen.ended front served (Some frame) here.end;
      }))))

  -- nothing was told of its replies
  pub unnamed_replies : IsUnnamed front.link → TellsReplies front.link []
  unnamed_replies here = record {
    gone = [];
    waiting = [];
    stopped = [];
    lost = [];
    given = ap answers_of here.served;
    taken = sym here.taken;
    items = refl;
    down = sym (append-nil front.link.down ∙ here.down);
    all_down = λ opens. refl;
    none_stopped = λ lives. refl;
  }

  pub by_unnamed : (P : Option Seen → Type 0) → is_connect served.item ≡ true → (IsUnnamed front.link → P None) → P (link_of number told)
  by_unnamed P greets unnamed =
      told_at P number (link_at links number) (link_of number told) front.link (all number) at.there unnamed
      (λ seen here. absurd (let no : ⊥ = some_none seen here in no))
    where
      some_none : (seen : Seen) → TellsLink number front.link seen → ⊥
      some_none seen here = let same : None ≡ Some seen.session = sym (no_session greets) ∙ here.session in let no : ⊥ = cc in no

  -- The connection is told from its Connect on.
  greeted_told : (frame : Down) → is_connect served.item ≡ true → AllTold (with_next (Some frame)) (connected number served (link_of number told) told)
  greeted_told frame greets = by_unnamed (λ one. AllTold (with_next (Some frame)) (connected number served one told)) greets made
    where
      new : Seen
      new = new_link number served.session (served ∷ [])

      made : IsUnnamed front.link → AllTold (with_next (Some frame)) (new_link number served.session (served ∷ []) ∷ told)
      made here other = by (either other number)
        where
          by : (other ≡ number) ⊎ (other ≢ number) → TellsAt other (link_at (with_next (Some frame)) other) (link_of other (new_link number served.session (served ∷ []) ∷ told))
          by (inl same) =
              subst (λ (k : ℕ). TellsAt k (link_at (with_next (Some frame)) k) (link_of k (new_link number served.session (served ∷ []) ∷ told))) (sym same)
              (subst (TellsAt number (link_at (with_next (Some frame)) number)) (sym (new_own number (new_link number served.session (served ∷ [])) told refl))
              (subst (λ (l : Option Link). TellsAt number l (Some (new_link number served.session (served ∷ [])))) (sym (own_next (Some frame)))
              (Named (next (Some frame)) (new_link number served.session (served ∷ [])) (record {
                connection = refl;
                session = refl;
                replies = answered_replies front served frame [] (unnamed_replies here) at.living;
                end = front_end 0 front served (Some frame) here.end;
              }))))
          by (inr differ) =
              subst (λ (l : Option Link). TellsAt other l (link_of other (new_link number served.session (served ∷ []) ∷ told))) (sym (with_other links number other (next (Some frame)) differ))
              (subst (TellsAt other (link_at links other)) (sym (new_others other (new_link number served.session (served ∷ [])) told differ)) (all other))

  -- What the item is told as, by its kind.
  pub linked_told : (commits : ℕ) → is_item_of front.first.frame served.item ≡ true → AllTold (with_next (reply_of served.session commits served.item)) (served_on number served served.item told)
  linked_told commits its = by served.item its (λ other. quiet_told other) (λ frame other. answered_told frame other) (λ frame greets. greeted_told frame greets)
    where
      by : (one : Item) → is_item_of front.first.frame one ≡ true → (is_connect one ≡ false → AllTold (with_next None) told) → ((frame : Down) → is_connect one ≡ false → AllTold (with_next (Some frame)) (add_reply number served told))
          → ((frame : Down) → is_connect one ≡ true → AllTold (with_next (Some frame)) (connected number served (link_of number told) told)) → AllTold (with_next (reply_of served.session commits one)) (served_on number served one told)
      by item.Connect its quiet answered greeted = greeted _ refl
      by (item.Begin settings) its quiet answered greeted = quiet refl
      by (item.Call marked call answers draws) its quiet answered greeted = answered _ refl
      by (item.Blocked call) its quiet answered greeted = answered _ refl
      by (item.Outcome x result) its quiet answered greeted = answered _ refl
      by item.End its quiet answered greeted = quiet refl
      by item.Close its quiet answered greeted = quiet refl
      by (item.Refused cause) its quiet answered greeted = absurd (not_refused front.first.frame cause its)
      by (item.CrashedCall marked call) its quiet answered greeted = quiet refl
      by (item.CrashedOutcome x) its quiet answered greeted = quiet refl

  -- BLOCKED ---------------------------------------------------------------------------------------

  module _ (event : ℕ) (some : 0 < event) (apart : AreApart links) where
    abbrev blocked_next : Option Down → Link
    blocked_next reply = ends event (next reply)

    ended_named : (reply : Option Down) (seen : Seen) → TellsLink number (next reply) seen → TellsLink number (blocked_next reply) (end_link event seen)
    ended_named reply seen here = record {
      connection = here.connection;
      session = ends_case (λ one. one.session ≡ Some seen.session) event (next reply) (λ opens. here.session) (λ shut. here.session);
      replies = ended_replies event (next reply) seen.replies here.replies;
      end = ended_end event seen.ended (next reply) some here.end;
    }

    -- the connection of the session is ended
    own_ended : (reply : Option Down) (one : Option Seen) → TellsAt number (Some (next reply)) one → TellsAt number (Some (blocked_next reply)) (option_map (λ seen. changed_if (has_session served.session seen) (end_link event) seen) one)
    own_ended reply one is =
        told_at (λ other. TellsAt number (Some (blocked_next reply)) (option_map (λ seen. changed_if (has_session served.session seen) (end_link event) seen) other)) number (Some (next reply)) one (next reply) is refl
        (λ here. absurd (let same : Some served.session ≡ None = here.session in let no : ⊥ = cc in no))
        (λ seen here. by seen here (has_session served.session seen) (mine seen here.session))
      where
        mine : (seen : Seen) → Some served.session ≡ Some seen.session → has_session served.session seen ≡ true
        mine seen same = let is : seen.session ≡ served.session = cc in (same_session_decides seen.session served.session).1 is

        by : (seen : Seen) → TellsLink number (next reply) seen → (test : Bool) → test ≡ true → TellsAt number (Some (blocked_next reply)) (Some (changed_if test (end_link event) seen))
        by seen here true met = Named (blocked_next reply) (end_link event seen) (ended_named reply seen here)
        by seen here false met = absurd (let no : ⊥ = cc in no)

    -- and no other, since sessions differ
    other_ended : (other : ℕ) → other ≢ number → front.link.session ≡ Some served.session → (found : Option Link) (one : Option Seen) → link_at links other ≡ found → TellsAt other found one
        → TellsAt other found (option_map (λ seen. changed_if (has_session served.session seen) (end_link event) seen) one)
    other_ended other differ own _ _ there NoLink = NoLink
    other_ended other differ own _ _ there (Unnamed link here) = Unnamed link here
    other_ended other differ own _ _ there (Named link seen here) = by (has_session served.session seen) refl
      where
        by : (test : Bool) → has_session served.session seen ≡ test → TellsAt other (Some link) (Some (changed_if test (end_link event) seen))
        by true met =
            let same : seen.session ≡ served.session = (same_session_decides seen.session served.session).0 met in
            absurd (differ (apart other number link front.link served.session there at.there (here.session ∙ ap Some same) own))
        by false met = Named link seen here

    blocked_told : (reply : Option Down) (now : List Seen) → front.link.session ≡ Some served.session → AllTold (with_next reply) now
        → AllTold (with_link links number (blocked_next reply)) (with_changed (has_session served.session) (end_link event) now)
    blocked_told reply now own before other =
        subst (TellsAt other (link_at (with_link links number (blocked_next reply)) other)) (sym (link_changed other (has_session served.session) (end_link event) (λ seen. refl) now)) (by (either other number))
      where
        ended : Option Seen → Option Seen
        ended one = option_map (λ seen. changed_if (has_session served.session seen) (end_link event) seen) one

        mine : TellsAt number (link_at (with_link links number (blocked_next reply)) number) (option_map (λ seen. changed_if (has_session served.session seen) (end_link event) seen) (link_of number now))
        mine =
            subst (λ (l : Option Link). TellsAt number l (option_map (λ seen. changed_if (has_session served.session seen) (end_link event) seen) (link_of number now))) (sym (with_own links number front.link (blocked_next reply) at.there))
            (own_ended reply (link_of number now) (subst (λ (l : Option Link). TellsAt number l (link_of number now)) (own_next reply) (before number)))

        by : (other ≡ number) ⊎ (other ≢ number) → TellsAt other (link_at (with_link links number (blocked_next reply)) other) (option_map (λ seen. changed_if (has_session served.session seen) (end_link event) seen) (link_of other now))
        by (inl same) = subst (λ (k : ℕ). TellsAt k (link_at (with_link links number (blocked_next reply)) k) (option_map (λ seen. changed_if (has_session served.session seen) (end_link event) seen) (link_of k now))) (sym same) mine
        by (inr differ) =
            subst (λ (l : Option Link). TellsAt other l (option_map (λ seen. changed_if (has_session served.session seen) (end_link event) seen) (link_of other now))) (sym (with_other links number other (blocked_next reply) differ))
            (other_ended other differ own (link_at links other) (link_of other now) refl (subst (λ (l : Option Link). TellsAt other l (link_of other now)) (with_other links number other (next reply) differ) (before other)))

    -- Blocked is told as an end.
    pub ends_told : (reply : Option Down) (now : List Seen) → is_item_of front.first.frame served.item ≡ true → AllTold (with_next reply) now
        → AllTold (with_link links number (if is_blocked served.item then ends event (next reply) else next reply)) (end_session event served.session served.item now)
    ends_told reply now its before = by served.item its (λ other own. blocked_told reply now (own_session other) own)
      where
        by : (one : Item) → is_item_of front.first.frame one ≡ true → (is_connect one ≡ false → AllTold (with_next reply) now → AllTold (with_link links number (blocked_next reply)) (with_changed (has_session served.session) (end_link event) now))
            → AllTold (with_link links number (if is_blocked one then ends event (next reply) else next reply)) (end_session event served.session one now)
        by item.Connect its blocked = before
        by (item.Begin settings) its blocked = before
        by (item.Call marked call answers draws) its blocked = before
        by (item.Blocked call) its blocked = blocked refl before
        by (item.Outcome x result) its blocked = before
        by item.End its blocked = before
        by item.Close its blocked = before
        by (item.Refused cause) its blocked = absurd (not_refused front.first.frame cause its)
        by (item.CrashedCall marked call) its blocked = before
        by (item.CrashedOutcome x) its blocked = before
