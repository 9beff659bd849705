-- What is told of connections at each event.
use Rattle.std.proofs.Common.{◌≡◌, ◌≢◌, refl, sym, ap, subst, ◌∙◌, Bool, true, false, ℕ, ◌+◌, ◌<◌, ◌&&◌, List, [], ◌∷◌, map, fold, Option, Some, None, option_map, option_and_then, inl}
use Rattle.std.specs.Prelude.{◌==◌, nat_lt, ◌*◌}
use Rattle.std.proofs.lemmas.Bool.{and_parts, or_parts}
use Rattle.svc_values.specs.meaning.Calls.{sequences_in}
use Rattle.svc_values.specs.declared.frame.Down.{Down}
use Rattle.pool_core.specs.meaning.Slots.{is_among}
use Rattle.outage_schedule.specs.declared.item.Served.{Served}
use Rattle.outage_schedule.specs.declared.note.Note.{Note}
use Rattle.outage_schedule.specs.declared.note.Note.TheVariants as note
use Rattle.shown_clauses.specs.meaning.Links.{Link as Seen, Seen as AllSeen, link_of, served_on, stopped_on, in_turn, end_link, end_session, after_happening}
use Rattle.world_model.specs.meaning.Crashing.{is_crashed_item, is_stopped, fallen_link}
use Rattle.world_model.specs.meaning.Cutting.{open_at, reaped_link}
use Rattle.world_model.specs.records.Hold.{is_connect}
use Rattle.world_model.specs.meaning.Links.{Link, link_at, with_link, changed, sends}
use Rattle.world_model.specs.meaning.Machines.{Machine}
use Rattle.world_model.specs.meaning.Noting.{only_if}
use Rattle.world_model.specs.meaning.Outside.{closed_by_drain}
use Rattle.world_model.specs.meaning.Serving.{Front, front_at, is_served_by, is_item_of, is_of_front, is_ordinary, reply_of, commits_after, after_front, handled}
use Rattle.world_model.specs.meaning.Settings.{Setting}
use Rattle.world_model.proofs.Offered.{AreOpenOnce}
use Rattle.shown_laws.specs.Connections.{TellsAt, NoLink, Unnamed, Named}
use Rattle.shown_laws.proofs.links.ConnectionsTold.{AllTold, one_turns, sends_told, cuts_told, falls_told}
use Rattle.shown_laws.proofs.links.CrashesTold.{fallen_handled, crash_told}
use Rattle.shown_laws.proofs.links.EndsTold.{still_end}
use Rattle.shown_laws.proofs.events.Following.{Does, Goes, ServesNone, Serves, CutsNone, Cuts, ReapsNone, Reaps, IsDown, Crashes, CrashStops, CrashServes, Ticks, Drains, IsServers, only_met, only_is}
use Rattle.shown_laws.proofs.links.GoesTold.{Speaks, goes_told}
use Rattle.shown_laws.proofs.events.GoNotes.{follow_goes}
use Rattle.shown_laws.proofs.links.ItemsTold.{IsFront, front_is, NamesSession, names_session, item_kinds, stopped_kinds, AreApart, linked_told, ends_told, with_next}
use Rattle.shown_laws.proofs.events.Lookups.{changed_own, changed_other, eq_to}
use Rattle.shown_laws.proofs.links.TurnsTold.{in_turn_told}

-- what holds where an event begins
pub record Stands (m : Machine) : Type 0 where
  pub speaks : Speaks m
  pub apart : AreApart m.links
  pub idle : AreOpenOnce m.links m.pool.idle
  -- a Connect is served before the session has its name
  pub fresh : (number : ℕ) (front : Front) → front_at m.links number ≡ Some front → is_connect front.first.frame ≡ true → front.link.session ≡ None
  -- one that was cut is not open
  pub cut : (number : ℕ) (link : Link) → link_at m.links number ≡ Some link → link.is_cut ≡ true → link.is_open ≡ false

-- REAPS -------------------------------------------------------------------------------------------

reaped_at : (number : ℕ) (found : Option Link) (one : Option Seen) → TellsAt number found one → TellsAt number (option_map reaped_link found) one
reaped_at number _ _ NoLink = NoLink
reaped_at number _ _ (Unnamed link here) = Unnamed (reaped_link link) (record { session = here.session; served = here.served; taken = here.taken; down = here.down; end = still_end 0 link (reaped_link link) refl refl refl refl (λ shut empty. empty) here.end })
reaped_at number _ _ (Named link seen here) =
    Named (reaped_link link) seen (record {
      connection = here.connection;
      session = here.session;
      replies = record {
        gone = here.replies.gone;
        waiting = here.replies.waiting;
        stopped = here.replies.stopped;
        lost = here.replies.lost;
        given = here.replies.given;
        taken = here.replies.taken;
        items = here.replies.items;
        down = here.replies.down;
        all_down = here.replies.all_down;
        none_stopped = λ never. absurd (let none : ⊥ = cc in none);
      };
      end = still_end seen.ended link (reaped_link link) refl refl refl refl (λ shut empty. empty) here.end;
    })

reaps_told : (number : ℕ) (links : List Link) (told : List Seen) → AllTold links told → AllTold (changed reaped_link links number) told
reaps_told number links told all =
    one_turns links (changed reaped_link links number) told number all (λ other differ. changed_other reaped_link links number other differ)
    (subst (λ (l : Option Link). TellsAt number l (link_of number told)) (sym (changed_own reaped_link links number)) (reaped_at number (link_at links number) (link_of number told) (all number)))

-- DRAINS ------------------------------------------------------------------------------------------

-- one that does not stand there is another
pub not_among : (number other : ℕ) (numbers : List ℕ) → is_among number (other ∷ numbers) ≡ false → (number ≢ other) × (is_among number numbers ≡ false)
not_among number other numbers none =
    let parts = or_parts (other == number) (is_among number numbers) none in
    ((λ same. let yes : (other == number) ≡ true = eq_to other number (sym same) in let no : ⊥ = cc in no), parts.1)

-- where others change, these are open still
still_open : (links news : List Link) (number : ℕ) (numbers : List ℕ) → ((other : ℕ) → other ≢ number → link_at news other ≡ link_at links other) → is_among number numbers ≡ false → AreOpenOnce links numbers → AreOpenOnce news numbers
still_open links news number [] same among all = tt
still_open links news number (other ∷ numbers) same among all =
    let parts = not_among number other numbers among in
    ((λ link there. all.0 link (sym (same other (λ is. parts.0 (sym is))) ∙ there)), (all.1.0, still_open links news number numbers same parts.1 all.1.1))

-- A Close that is sent on idle connections is not told.
drains_told : (event : ℕ) (numbers : List ℕ) (links : List Link) (told : List Seen) → AreOpenOnce links numbers → AllTold links told → AllTold (fold (changed (sends event (closed_by_drain ∷ []))) links numbers) told
drains_told event [] links told idle all = all
drains_told event (number ∷ numbers) links told idle all =
    drains_told event numbers (changed (sends event (closed_by_drain ∷ [])) links number) told
    (still_open links (changed (sends event (closed_by_drain ∷ [])) links number) number numbers (λ other differ. changed_other (sends event (closed_by_drain ∷ [])) links number other differ) idle.1.0 idle.1.1)
    (sends_told event (closed_by_drain ∷ []) links told number all (λ link there. inl (idle.0 link there)))

-- CUTS --------------------------------------------------------------------------------------------

pub open_is : (links : List Link) (number : ℕ) (link : Link) → open_at links number ≡ Some link → (link_at links number ≡ Some link) × (link.is_open ≡ true)
open_is links number link is = by (link_at links number) refl is
  where
    by : (found : Option Link) → link_at links number ≡ found → option_and_then (λ (one : Link). only_if one.is_open one) found ≡ Some link → (link_at links number ≡ Some link) × (link.is_open ≡ true)
    by None there is = absurd (let none : ⊥ = cc in none)
    by (Some one) there is =
        let same : one ≡ link = only_is one.is_open one link is in
        (there ∙ ap Some same, ap (λ (l : Link). l.is_open) (sym same) ∙ only_met one.is_open one link is)

-- EVENTS ------------------------------------------------------------------------------------------

module _ (setting : Setting) (m : Machine) (stands : Stands m) (some : 0 < m.event) (seen : AllSeen) (all : AllTold m.links seen.links) where
  pub names_ordinary : (number : ℕ) (front : Front) (served : Served) → front_at m.links number ≡ Some front → is_ordinary m front served ≡ true → (is_item_of front.first.frame served.item ≡ true) × NamesSession front served
  names_ordinary number front served at ordinary =
      let parts = and_parts (is_of_front m front served) (is_item_of front.first.frame served.item) ordinary in
      let mine = and_parts (served.event == m.event) (is_served_by m.server front.link front.first.frame served.session) parts.0 in
      (parts.1, names_session m.server front served (stands.fresh number front at) mine.1 (item_kinds front.first.frame served.item parts.1).0)

  pub names_stopped : (number after : ℕ) (front : Front) (served : Served) → front_at m.links number ≡ Some front → is_stopped m after front served ≡ true → NamesSession front served
  names_stopped number after front served at stopped =
      let within : Bool = nat_lt after (m.server.per_record * (1 + sequences_in front.first.frame)) in
      let parts = and_parts (is_of_front m front served) (is_crashed_item front.first.frame served.item && nat_lt after (m.server.per_record * (1 + sequences_in front.first.frame))) stopped in
      let mine = and_parts (served.event == m.event) (is_served_by m.server front.link front.first.frame served.session) parts.0 in
      names_session m.server front served (stands.fresh number front at) mine.1
      (stopped_kinds front.first.frame served.item (and_parts (is_crashed_item front.first.frame served.item) (nat_lt after (m.server.per_record * (1 + sequences_in front.first.frame))) parts.1).0).0

  serves_told : (number : ℕ) (front : Front) (served : Served) → front_at m.links number ≡ Some front → is_ordinary m front served ≡ true
      → AllTold (with_link m.links number (handled m.event front served)) (end_session m.event served.session served.item (in_turn served.session served.item (served_on number served served.item seen.links)))
  serves_told number front served at ordinary =
      let its = names_ordinary number front served at ordinary in
      let on : IsFront m.links number front = front_is m.links number front at in
      let commits : ℕ = commits_after front.link served.item in
      ends_told number front served m.links seen.links all on its.1 m.event some stands.apart (reply_of served.session (commits_after front.link served.item) served.item) (in_turn served.session served.item (served_on number served served.item seen.links)) its.0
      (in_turn_told served.session served.item (with_next number front served m.links seen.links all on its.1 (reply_of served.session (commits_after front.link served.item) served.item)) (served_on number served served.item seen.links)
      (linked_told number front served m.links seen.links all on its.1 (commits_after front.link served.item) its.0))

  crash_last : (number : ℕ) (front : Front) (served : Served) (reply : Option Down) (end : Link) → front_at m.links number ≡ Some front → NamesSession front served → fallen_link m.event end ≡ fallen_link m.event (after_front front served reply)
      → AllTold (map (fallen_link m.event) (with_link m.links number end)) (map (end_link m.event) (end_session m.event served.session served.item (in_turn served.session served.item (stopped_on number served served.item seen.links))))
  crash_last number front served reply end at names same =
      let on : IsFront m.links number front = front_is m.links number front at in
      crash_told number m.event front served m.links seen.links all on names some (stands.cut number front.link on.there) reply end same

  -- Whatever an event does to connections is told by its note and its items.
  pub does_told : (tick : ℕ) (one : Note) (items : List Served) (n : Machine) → Does setting m one items n → AllTold n.links (after_happening seen (record { event = m.event; tick = tick; noted = one; items = items })).links
  does_told tick _ _ _ (Goes client did n goes) = goes_told setting m client did n seen.links stands.speaks all (follow_goes setting m client did n goes)
  does_told tick _ _ _ (ServesNone connection) = all
  does_told tick _ _ _ (Serves connection name front served at ordinary) = serves_told connection front served at ordinary
  does_told tick _ _ _ (CutsNone connection) = all
  does_told tick _ _ _ (Cuts connection up down reached link at) =
      let is = open_is m.links connection link at in
      cuts_told m.event up down connection m.links seen.links link some all is.0 is.1
  does_told tick _ _ _ (ReapsNone connection) = all
  does_told tick _ _ _ (Reaps connection) = reaps_told connection m.links seen.links all
  does_told tick _ _ _ (IsDown connection) = all
  does_told tick _ _ _ (Crashes connection failover) = falls_told m.event m.links seen.links some all
  does_told tick _ _ _ (CrashStops connection after failover front served at stopped) =
      crash_last connection front served None (after_front front served None) at (names_stopped connection after front served at stopped) refl
  does_told tick _ _ _ (CrashServes connection failover front served at ordinary) =
      crash_last connection front served (reply_of served.session (commits_after front.link served.item) served.item) (handled m.event front served) at (names_ordinary connection front served at ordinary).1 (fallen_handled m.event front served)
  does_told tick _ _ _ Ticks = all
  does_told tick _ _ _ (Drains closed) = drains_told m.event m.pool.idle m.links seen.links stands.idle all
  does_told tick _ _ _ (IsServers (note.Up incarnation) server is) = all
  does_told tick _ _ _ (IsServers (note.UpCrash made) server is) = all
  does_told tick _ _ _ (IsServers (note.Outside ran) server is) = all
  does_told tick _ _ _ (IsServers (note.Ask x told) server is) = all
  does_told tick _ _ _ (IsServers one server is) = absurd (let none : ⊥ = cc in none)
