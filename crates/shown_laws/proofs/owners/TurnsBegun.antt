-- The last Begin of each connection is of the request by whose step its session was acquired
-- before, event by event.
use Rattle.std.proofs.Common.{◌≡◌, ◌≢◌, refl, sym, ap, subst, ◌∙◌, Bool, true, false, ℕ, suc, ◌+◌, ◌<◌, ◌&&◌, length, List, [], ◌∷◌, ◌++◌, map, Option, Some, None, option_map, ◌⊎◌, inl, inr, if◌then◌else◌, arith}
use Rattle.std.specs.Prelude.{◌==◌, ◌*◌, is_some, is_none, nat_lt}
use Rattle.std.specs.List.{list_all}
use Rattle.std.specs.Option.{option_map_or}
use Rattle.std.proofs.lemmas.Bool.{and_parts}
use Rattle.std.proofs.lemmas.List.{map-append}
use Rattle.std.proofs.lemmas.List.Sums.{fold-append}
use Rattle.svc_values.specs.declared.entry.Ltxid.{Ltxid}
use Rattle.svc_values.specs.declared.entry.SessionId.{SessionId}
use Rattle.svc_values.specs.declared.frame.Down.{Down}
use Rattle.svc_values.specs.declared.frame.Up.{Up}
use Rattle.svc_values.specs.declared.frame.Up.TheVariants as up
use Rattle.svc_values.specs.meaning.Calls.{sequences_in}
use Rattle.svc_values.specs.meaning.Identifiers.{same_session}
use Rattle.svc_values.specs.meaning.Same.{same_bool}
use Rattle.svc_values.specs.SameLaws.{same_session_decides}
use Rattle.svc_values.specs.declared.value.Value.{Value}
use Rattle.outage_schedule.specs.declared.item.Item.{Item}
use Rattle.outage_schedule.specs.declared.item.Item.TheVariants as item
use Rattle.outage_schedule.specs.declared.item.Served.{Served}
use Rattle.outage_schedule.specs.declared.note.Note.{Note}
use Rattle.outage_schedule.specs.declared.note.Note.TheVariants as note
use Rattle.shown_clauses.specs.meaning.Links.{Acquired, Link as Seen, Seen as AllSeen, link_of, is_connect, served_on, stopped_on, in_turn, end_link, end_session, after_happening}
use Rattle.world_model.specs.records.Basic.{first_is_connect, is_named}
use Rattle.invariant_laws.specs.Begins.{is_begin_frame}
use Rattle.world_model.specs.meaning.Clients.{Client}
use Rattle.world_model.specs.meaning.Crashing.{is_crashed_item, is_stopped, fallen_link}
use Rattle.world_model.specs.meaning.Cutting.{cut_link, reaped_link}
use Rattle.world_model.specs.meaning.Frames.{Owner, Sent, Handled}
use Rattle.world_model.specs.meaning.Links.{Link, link_at, with_link}
use Rattle.world_model.specs.meaning.Machines.{Machine}
use Rattle.world_model.specs.Parts.{implies}
use Rattle.invariant_laws.specs.Same.{is_begin}
use Rattle.world_model.specs.Sames.{is_front, same_owners, same_sent}
use Rattle.world_model.specs.meaning.Serving.{Front, is_of_front, is_blocked, reply_of, commits_after, after_front, handled}
use Rattle.world_model.specs.meaning.Settings.{Setting}
use Rattle.invariant_laws.specs.UnservedBegins.{last_owner, is_of_last, begins_of_last}
use Rattle.world_model.specs.records.Wire.{is_fresh, is_sent_front, nothing_cut, up_of}
use Rattle.shown_laws.specs.AcquiredTold.{told_acquired}
use Rattle.shown_laws.specs.Connections.{TellsAt, NoLink, Unnamed, Named}
use Rattle.shown_laws.specs.TurnOwners.{Said, said_of, said_at, Tied, Unopened, Unheard, Heard, begun_by, sent_begin, served_begin, told_begin, Begun, NotBegun, HasBegun}
use Rattle.shown_laws.specs.TurnsServed.{served_in}
use Rattle.shown_laws.proofs.owners.BeginsTold.{starts, starts_end, gone_begin, other_begin, other_stopped, begun_on, now_begun}
use Rattle.shown_laws.proofs.links.ConnectionsTold.{AllTold}
use Rattle.shown_laws.proofs.links.EventsTold.{Stands, names_ordinary, names_stopped, open_is}
use Rattle.shown_laws.proofs.events.Following.{Does, Goes, ServesNone, Serves, CutsNone, Cuts, ReapsNone, Reaps, IsDown, Crashes, CrashStops, CrashServes, Ticks, Drains, IsServers}
use Rattle.shown_laws.proofs.events.GoNotes.{follow_goes}
use Rattle.shown_laws.proofs.links.ItemsTold.{IsFront, front_is, NamesSession, GivesName, HasName, AreApart, item_kinds, stopped_kinds}
use Rattle.shown_laws.proofs.events.Lookups.{either, eq_from, with_own, with_other}
use Rattle.shown_laws.proofs.links.ServedStays.{SameServed, all_at, one_changed, with_one, each_changed, cut_served, fallen_served, reaped_served, drained_served, goes_served}
use Rattle.shown_laws.proofs.steps.StepsOwned.{Stay}
use Rattle.shown_laws.proofs.owners.TurnSent.{owners_are}
use Rattle.shown_laws.proofs.owners.TurnsHappen.{blocked_served}
use Rattle.shown_laws.proofs.links.WordsKept.{all_ended, one_ended}

-- BEGINS ------------------------------------------------------------------------------------------

abbrev pub AllBegun : List Client → List Link → List Seen → Type 0
AllBegun clients links told = (number : ℕ) → Begun clients (told_begin number told) (served_begin (all_at number links))

pub begun_still : (clients news : List Client) → Stay clients news → (acquired : Option (Option Acquired)) (owner : Option (Option Owner)) → Begun clients acquired owner → Begun news acquired owner
begun_still clients news stay _ _ NotBegun = NotBegun
begun_still clients news stay _ _ (HasBegun owner acquired is) = HasBegun owner acquired (stay owner acquired is)

-- one frame more that was served
begin_more : (served : List Handled) (one : Handled) → served_begin (served ++ one ∷ []) ≡ begun_by (served_begin served) one.sent.owner one.sent.frame
begin_more served one =
    ap sent_begin (map-append (λ (o : Handled). o.sent) served (one ∷ []))
    ∙ fold-append (λ found (sent : Sent). begun_by found sent.owner sent.frame) None (map (λ (o : Handled). o.sent) served) (one.sent ∷ [])

begun_same : (found : Option (Option Owner)) (owner : Option Owner) (frame : Up) → is_begin_frame frame ≡ false → begun_by found owner frame ≡ found
begun_same found owner (up.Begin settings) is = absurd (let none : ⊥ = cc in none)
begun_same found owner up.Connect is = refl
begun_same found owner (up.Call replay kept call) is = refl
begun_same found owner (up.Outcome x) is = refl
begun_same found owner up.End is = refl
begun_same found owner up.Close is = refl

begun_new : (found : Option (Option Owner)) (owner : Option Owner) (frame : Up) → is_begin_frame frame ≡ true → begun_by found owner frame ≡ Some owner
begun_new found owner (up.Begin settings) is = refl
begun_new found owner up.Connect is = absurd (let none : ⊥ = cc in none)
begun_new found owner (up.Call replay kept call) is = absurd (let none : ⊥ = cc in none)
begun_new found owner (up.Outcome x) is = absurd (let none : ⊥ = cc in none)
begun_new found owner up.End is = absurd (let none : ⊥ = cc in none)
begun_new found owner up.Close is = absurd (let none : ⊥ = cc in none)

not_both : (one : Item) → is_begin one ≡ true → is_connect one ≡ true → ⊥
not_both (item.Begin settings) is greets = let none : ⊥ = cc in none
not_both one is greets = let none : ⊥ = cc in none

-- A BEGIN THAT MAY BE SERVED ----------------------------------------------------------------------

none_left : (test : Bool) → (test && false) ≡ true → ⊥
none_left true is = let none : ⊥ = cc in none
none_left false is = let none : ⊥ = cc in none

-- behind Connect it is the second frame at least
two_sent : (served : List Handled) (first : Sent) (later sents : List Sent) → first_is_connect served ≡ true → is_front same_sent (map (λ one. one.sent) served ++ first ∷ later) sents ≡ true → (length sents == 1) ≡ true → ⊥
two_sent [] first later sents named front one = let none : ⊥ = cc in none
two_sent (a ∷ served) first later [] named front one = let none : ⊥ = cc in none
two_sent (a ∷ []) first later (s ∷ []) named front one = none_left (same_sent a.sent s) front
two_sent (a ∷ b ∷ served) first later (s ∷ []) named front one = none_left (same_sent a.sent s) front
two_sent (a ∷ served) first later (s ∷ u ∷ sents) named front one = let more : suc (suc (length sents)) ≡ 1 = eq_from (suc (suc (length sents))) 1 one in let none : ⊥ = omega (arith, more) in none

named_first : (link : Link) (session : SessionId) → is_named link ≡ true → link.session ≡ Some session → first_is_connect link.served ≡ true
named_first link session named is = by (first_is_connect link.served) (subst (λ (s : Option SessionId). same_bool (is_some s) (first_is_connect link.served) ≡ true) is (and_parts (same_bool (is_some link.session) (first_is_connect link.served)) _ named).0)
  where
    by : (test : Bool) → same_bool true test ≡ true → test ≡ true
    by true same = refl
    by false same = absurd (let none : ⊥ = cc in none)

unheard_one : (held : Option Ltxid) (long : Bool) → held ≡ None → implies (is_none held) long ≡ true → long ≡ true
unheard_one None long none is = is
unheard_one (Some x) long none is = absurd (let never : ⊥ = cc in never)

-- What is known of connections when an event begins.
pub record IsKnown (links : List Link) : Type 0 where
  pub sent : (number : ℕ) (link : Link) → link_at links number ≡ Some link → is_sent_front link ≡ true
  pub fresh : (number : ℕ) (link : Link) → link_at links number ≡ Some link → is_fresh link ≡ true
  pub named : (number : ℕ) (link : Link) → link_at links number ≡ Some link → is_named link ≡ true
  pub last : (number : ℕ) (link : Link) → link_at links number ≡ Some link → begins_of_last link ≡ true

module _ (clients : List Client) (links : List Link) (told : List Seen) (known : IsKnown links) (tied : (number : ℕ) → Tied clients (said_at number links) (told_acquired number told)) (number : ℕ) (front : Front) (at : IsFront links number front) where
  -- its owner is the one that sent last
  of_last : is_begin_frame front.first.frame ≡ true → front.first.owner ≡ last_owner front.link.sent
  of_last is =
      let all : list_all (is_of_last (last_owner front.link.sent)) (front.first ∷ front.later) ≡ true =
      subst (λ (ups : List Sent). list_all (is_of_last (last_owner front.link.sent)) ups ≡ true) at.up (known.last number front.link at.there) in
      let first : implies (is_begin_frame front.first.frame) (same_owners front.first.owner (last_owner front.link.sent)) ≡ true =
      (and_parts (is_of_last (last_owner front.link.sent) front.first) (list_all (is_of_last (last_owner front.link.sent)) front.later) all).0 in
      owners_are front.first.owner (last_owner front.link.sent) (subst (λ (test : Bool). implies test (same_owners front.first.owner (last_owner front.link.sent)) ≡ true) is first)

  heard : (session : SessionId) → front.link.session ≡ Some session → front.link.held ≡ None → ⊥
  heard session has none =
      two_sent front.link.served front.first front.later front.link.sent (named_first front.link session (known.named number front.link at.there) has)
      (subst (λ (ups : List Sent). is_front same_sent (map (λ one. one.sent) front.link.served ++ ups) front.link.sent ≡ true) at.up
      (and_parts (is_front same_sent (up_of front.link) front.link.sent) (implies (nothing_cut front.link) (length (up_of front.link) == length front.link.sent)) (known.sent number front.link at.there)).0)
      (unheard_one front.link.held (length front.link.sent == 1) none (known.fresh number front.link at.there))

  -- So it is of the request by whose step the session was acquired.
  begins_own : (session : SessionId) → front.link.session ≡ Some session → is_begin_frame front.first.frame ≡ true → Begun clients (Some (told_acquired number told)) (Some front.first.owner)
  begins_own session has is = by (said_at number links) (told_acquired number told) (ap (option_map said_of) at.there) (tied number)
    where
      by : (said : Option Said) (found : Option Acquired) → said ≡ Some (said_of front.link) → Tied clients said found → Begun clients (Some found) (Some front.first.owner)
      by _ _ same Unopened = absurd (let none : ⊥ = cc in none)
      by _ _ same (Unheard said none) = absurd (heard session has (let it : said ≡ said_of front.link = cc in ap (λ (s : Said). s.held) (sym it) ∙ none))
      by _ _ same (Heard said owner acquired last did) =
          let it : said ≡ said_of front.link = cc in
          let mine : front.first.owner ≡ Some owner = of_last is ∙ (ap (λ (s : Said). s.last) (sym it) ∙ last) in
          subst (λ (o : Option Owner). Begun clients (Some (Some acquired)) (Some o)) (sym mine) (HasBegun owner acquired did)

-- SERVING -----------------------------------------------------------------------------------------

module _ (clients : List Client) (links : List Link) (told : List Seen) (known : IsKnown links) (tied : (number : ℕ) → Tied clients (said_at number links) (told_acquired number told)) (begun : AllBegun clients links told) (all : AllTold links told) (apart : AreApart links) (number : ℕ)
    (front : Front) (served : Served) (at : IsFront links number front) (names : NamesSession front served) (end : Link) (reply : Option Down) (same : end.served ≡ (after_front front served reply).served) where
  own_begin : served_begin (all_at number (with_link links number end)) ≡ begun_by (served_begin (all_at number links)) front.first.owner front.first.frame
  own_begin =
      ap (λ (found : Option Link). served_begin (served_in found)) (with_own links number front.link end at.there)
      ∙ (ap served_begin same
      ∙ (begin_more front.link.served (record { sent = front.first; served = served; reply = reply })
      ∙ ap (λ (found : Option Link). begun_by (served_begin (served_in found)) front.first.owner front.first.frame) (sym at.there)))

  other_served : (other : ℕ) → other ≢ number → served_begin (all_at other (with_link links number end)) ≡ served_begin (all_at other links)
  other_served other differ = ap (λ (found : Option Link). served_begin (served_in found)) (with_other links number other end differ)

  -- a frame that is no Begin
  plain_begun : (now : List Seen) → is_begin_frame front.first.frame ≡ false → ((other : ℕ) → told_begin other now ≡ told_begin other told) → AllBegun clients (with_link links number end) now
  plain_begun now plain still other =
      subst (λ (found : Option (Option Acquired)). Begun clients found (served_begin (all_at other (with_link links number end)))) (sym (still other))
      (subst (λ (owner : Option (Option Owner)). Begun clients (told_begin other told) owner) (sym (by (either other number))) (begun other))
    where
      by : (other ≡ number) ⊎ (other ≢ number) → served_begin (all_at other (with_link links number end)) ≡ served_begin (all_at other links)
      by (inl is) =
          ap (λ (k : ℕ). served_begin (all_at k (with_link links number end))) is
          ∙ (own_begin ∙ (begun_same (served_begin (all_at number links)) front.first.owner front.first.frame plain ∙ ap (λ (k : ℕ). served_begin (all_at k links)) (sym is)))
      by (inr differ) = other_served other differ

  -- a Begin takes the acquisition of its connection
  own_told : (found : Option Link) (one : Option Seen) → TellsAt number found one → found ≡ Some front.link → front.link.session ≡ Some served.session → option_map_or (begun_on served.session) one None ≡ Some (option_map_or (λ (o : Seen). o.acquired) one None)
  own_told _ _ NoLink is own = absurd (let none : ⊥ = cc in none)
  own_told _ _ (Unnamed link here) is own =
      let it : link ≡ front.link = cc in
      absurd (let both : Some served.session ≡ None = sym own ∙ (ap (λ (l : Link). l.session) (sym it) ∙ here.session) in let none : ⊥ = cc in none)
  own_told _ _ (Named link one here) is own =
      let it : link ≡ front.link = cc in
      let both : Some one.session ≡ Some served.session = sym here.session ∙ (ap (λ (l : Link). l.session) it ∙ own) in
      let session : one.session ≡ served.session = cc in
      ap (λ (test : Bool). if test then Some one.acquired else starts one) ((same_session_decides one.session served.session).1 session)

  other_told : (other : ℕ) → other ≢ number → (found : Option Link) (one : Option Seen) → link_at links other ≡ found → TellsAt other found one → front.link.session ≡ Some served.session → option_map_or (begun_on served.session) one None ≡ option_map_or starts one None
  other_told other differ _ _ there NoLink own = refl
  other_told other differ _ _ there (Unnamed link here) own = refl
  other_told other differ _ _ there (Named link one here) own = by (same_session one.session served.session) refl
    where
      by : (met : Bool) → same_session one.session served.session ≡ met → (if met then Some one.acquired else starts one) ≡ starts one
      by true is =
          let session : one.session ≡ served.session = (same_session_decides one.session served.session).0 is in
          absurd (differ (apart other number link front.link served.session there at.there (here.session ∙ ap Some session) own))
      by false is = refl

  begin_begun : (now : List Seen) → is_begin_frame front.first.frame ≡ true → front.link.session ≡ Some served.session → ((other : ℕ) → told_begin other now ≡ option_map_or (begun_on served.session) (link_of other told) None)
      → AllBegun clients (with_link links number end) now
  begin_begun now is own turns other = by (either other number)
    where
      by : (other ≡ number) ⊎ (other ≢ number) → Begun clients (told_begin other now) (served_begin (all_at other (with_link links number end)))
      by (inl here) =
          subst (λ (k : ℕ). Begun clients (told_begin k now) (served_begin (all_at k (with_link links number end)))) (sym here)
          (subst (λ (found : Option (Option Acquired)). Begun clients found (served_begin (all_at number (with_link links number end)))) (sym (turns number ∙ own_told (link_at links number) (link_of number told) (all number) at.there own))
          (subst (λ (owner : Option (Option Owner)). Begun clients (Some (told_acquired number told)) owner) (sym (own_begin ∙ begun_new (served_begin (all_at number links)) front.first.owner front.first.frame is))
          (begins_own clients links told known tied number front at served.session own is)))
      by (inr differ) =
          subst (λ (found : Option (Option Acquired)). Begun clients found (served_begin (all_at other (with_link links number end)))) (sym (turns other ∙ other_told other differ (link_at links other) (link_of other told) refl (all other) own))
          (subst (λ (owner : Option (Option Owner)). Begun clients (told_begin other told) owner) (sym (other_served other differ)) (begun other))

  has_name : is_begin served.item ≡ true → NamesSession front served → front.link.session ≡ Some served.session
  has_name is (HasName other own) = own
  has_name is (GivesName greets none) = absurd (not_both served.item is greets)

  -- by a word for what is told of the item before its turn, which a Begin leaves
  item_begun : (event : ℕ) (on : Item → List Seen) → ((settings : List (List ℕ × Value)) → on (item.Begin settings) ≡ told)
      → (is_begin served.item ≡ false → (other : ℕ) → told_begin other (end_session event served.session served.item (in_turn served.session served.item (on served.item))) ≡ told_begin other told)
      → is_begin_frame front.first.frame ≡ is_begin served.item → AllBegun clients (with_link links number end) (end_session event served.session served.item (in_turn served.session served.item (on served.item)))
  item_begun event on begins keeps alike = by (is_begin served.item) refl
    where
      turned : (one : Item) → is_begin one ≡ true → (other : ℕ) → told_begin other (end_session event served.session one (in_turn served.session one (on one))) ≡ option_map_or (begun_on served.session) (link_of other told) None
      turned (item.Begin settings) is other = ap (λ (now : List Seen). told_begin other (in_turn served.session (item.Begin settings) now)) (begins settings) ∙ now_begun other served.session told
      turned one is other = absurd (let none : ⊥ = cc in none)

      by : (test : Bool) → is_begin served.item ≡ test → AllBegun clients (with_link links number end) (end_session event served.session served.item (in_turn served.session served.item (on served.item)))
      by true is = begin_begun _ (alike ∙ is) (has_name is names) (turned served.item is)
      by false is = plain_begun _ (alike ∙ is) (keeps is)

  pub serving_begun : (event : ℕ) → is_begin_frame front.first.frame ≡ is_begin served.item → AllBegun clients (with_link links number end) (end_session event served.session served.item (in_turn served.session served.item (served_on number served served.item told)))
  serving_begun event = item_begun event (λ one. served_on number served one told) (λ settings. refl) (λ is other. other_begin other event number served told is)

  pub stopping_begun : (event : ℕ) → is_begin_frame front.first.frame ≡ is_begin served.item → AllBegun clients (with_link links number end) (end_session event served.session served.item (in_turn served.session served.item (stopped_on number served served.item told)))
  stopping_begun event = item_begun event (λ one. stopped_on number served one told) (λ settings. refl) (λ is other. other_stopped other event number served told is)

-- EVENTS ------------------------------------------------------------------------------------------

module _ (setting : Setting) (m : Machine) (stands : Stands m) (some : 0 < m.event) (seen : AllSeen) (all : AllTold m.links seen.links) (known : IsKnown m.links) (tied : (number : ℕ) → Tied m.clients (said_at number m.links) (told_acquired number seen.links))
    (begun : AllBegun m.clients m.links seen.links) where
  rests : (told : List Seen) (links : List Link) → ((number : ℕ) → told_begin number told ≡ told_begin number seen.links) → SameServed m.links links → AllBegun m.clients links told
  rests told links still same number =
      subst (λ (found : Option (Option Acquired)). Begun m.clients found (served_begin (all_at number links))) (sym (still number))
      (subst (λ (served : List Handled). Begun m.clients (told_begin number seen.links) (served_begin served)) (sym (same number)) (begun number))

  -- where all fall
  fallen : (told : List Seen) (links : List Link) → AllBegun m.clients links told → AllBegun m.clients (map (fallen_link m.event) links) (map (end_link m.event) told)
  fallen told links is number =
      subst (λ (found : Option (Option Acquired)). Begun m.clients found (served_begin (all_at number (map (fallen_link m.event) links)))) (sym (all_ended starts starts_end number m.event told))
      (subst (λ (served : List Handled). Begun m.clients (told_begin number told) (served_begin served)) (sym (each_changed (fallen_link m.event) (fallen_served m.event) links number)) (is number))

  abbrev answered : Front → Served → Option Down
  answered front served = reply_of served.session (commits_after front.link served.item) served.item

  stopped_alike : (after : ℕ) (front : Front) (served : Served) → is_stopped m after front served ≡ true → is_begin_frame front.first.frame ≡ is_begin served.item
  stopped_alike after front served stopped =
      let parts = and_parts (is_of_front m front served) (is_crashed_item front.first.frame served.item && nat_lt after (m.server.per_record * (1 + sequences_in front.first.frame))) stopped in
      (stopped_kinds front.first.frame served.item (and_parts (is_crashed_item front.first.frame served.item) (nat_lt after (m.server.per_record * (1 + sequences_in front.first.frame))) parts.1).0).1

  pub does_begun : (tick : ℕ) (one : Note) (items : List Served) (n : Machine) → Does setting m one items n → AllBegun m.clients n.links (after_happening seen (record { event = m.event; tick = tick; noted = one; items = items })).links
  does_begun tick _ _ _ (Goes client did n goes) = rests _ n.links (λ k. gone_begin k client m.event did seen.links) (goes_served setting m client did n (follow_goes setting m client did n goes))
  does_begun tick _ _ _ (ServesNone connection) = begun
  does_begun tick _ _ _ (Serves connection name front served at ordinary) =
      let its = names_ordinary setting m stands some seen all connection front served at ordinary in
      serving_begun m.clients m.links seen.links known tied begun all stands.apart connection front served (front_is m.links connection front at) its.1 (handled m.event front served) (answered front served)
      (blocked_served m.event front served (answered front served) (is_blocked served.item)) m.event (item_kinds front.first.frame served.item its.0).1
  does_begun tick _ _ _ (CutsNone connection) = begun
  does_begun tick _ _ _ (Cuts connection up down reached link at) =
      rests _ (with_link m.links connection (cut_link m.event up down link)) (λ k. one_ended starts starts_end k connection m.event seen.links)
      (with_one m.links connection link (cut_link m.event up down link) (open_is m.links connection link at).0 (cut_served m.event up down link))
  does_begun tick _ _ _ (ReapsNone connection) = begun
  does_begun tick _ _ _ (Reaps connection) = rests _ _ (λ k. refl) (one_changed reaped_link reaped_served m.links connection)
  does_begun tick _ _ _ (IsDown connection) = begun
  does_begun tick _ _ _ (Crashes connection failover) = fallen seen.links m.links begun
  does_begun tick _ _ _ (CrashStops connection after failover front served at stopped) =
      fallen _ (with_link m.links connection (after_front front served None))
      (stopping_begun m.clients m.links seen.links known tied begun all stands.apart connection front served (front_is m.links connection front at)
      (names_stopped setting m stands some seen all connection after front served at stopped) (after_front front served None) None refl m.event (stopped_alike after front served stopped))
  does_begun tick _ _ _ (CrashServes connection failover front served at ordinary) =
      let its = names_ordinary setting m stands some seen all connection front served at ordinary in
      fallen _ (with_link m.links connection (handled m.event front served))
      (stopping_begun m.clients m.links seen.links known tied begun all stands.apart connection front served (front_is m.links connection front at) its.1 (handled m.event front served) (answered front served)
      (blocked_served m.event front served (answered front served) (is_blocked served.item)) m.event (item_kinds front.first.frame served.item its.0).1)
  does_begun tick _ _ _ Ticks = begun
  does_begun tick _ _ _ (Drains closed) = rests seen.links _ (λ k. refl) (drained_served m.event m.pool.idle m.links)
  does_begun tick _ _ _ (IsServers (note.Up incarnation) server is) = begun
  does_begun tick _ _ _ (IsServers (note.UpCrash made) server is) = begun
  does_begun tick _ _ _ (IsServers (note.Outside ran) server is) = begun
  does_begun tick _ _ _ (IsServers (note.Ask x told) server is) = begun
  does_begun tick _ _ _ (IsServers one server is) = absurd (let none : ⊥ = cc in none)
