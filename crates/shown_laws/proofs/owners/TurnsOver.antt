-- Each turn that is told as over has the calls that a session had served since a Begin when it
-- served the next one, event by event.
use Rattle.std.proofs.Common.{◌≡◌, ◌≢◌, refl, sym, ap, subst, ◌∙◌, false, ℕ, ◌<◌, List, [], ◌∷◌, ◌++◌, map, Option, Some, None, ◌⊎◌, inl, inr}
use Rattle.std.specs.Option.{option_map_or}
use Rattle.std.proofs.lemmas.List.{append-nil, append_assoc}
use Rattle.svc_values.specs.declared.entry.SessionId.{SessionId}
use Rattle.svc_values.specs.declared.frame.Down.{Down}
use Rattle.svc_values.specs.declared.value.Value.{Value}
use Rattle.outage_schedule.specs.declared.item.Item.{Item}
use Rattle.outage_schedule.specs.declared.item.Item.TheVariants as item
use Rattle.outage_schedule.specs.declared.item.Served.{Served}
use Rattle.outage_schedule.specs.declared.note.Note.{Note}
use Rattle.outage_schedule.specs.declared.note.Note.TheVariants as note
use Rattle.shown_clauses.specs.meaning.Links.{Link as Seen, Turn, Seen as AllSeen, link_of, link_of_session, is_connect, served_on, stopped_on, over_on, over_by, after_happening}
use Rattle.world_model.specs.meaning.Crashing.{fallen_link}
use Rattle.world_model.specs.meaning.Cutting.{cut_link, reaped_link}
use Rattle.world_model.specs.meaning.Frames.{Handled}
use Rattle.world_model.specs.meaning.Links.{Link, link_at, with_link}
use Rattle.world_model.specs.meaning.Machines.{Machine}
use Rattle.world_model.specs.meaning.Serving.{Front, is_blocked, reply_of, commits_after, after_front, handled}
use Rattle.world_model.specs.meaning.Settings.{Setting}
use Rattle.shown_laws.specs.Connections.{TellsAt, NoLink, Unnamed, Named, FoundBySession}
use Rattle.shown_laws.specs.TurnsOver.{WereTurns, NoneOver, OneOver}
use Rattle.shown_laws.specs.TurnsServed.{calls_served, calls_told, served_in, TellsTurns}
use Rattle.shown_laws.proofs.links.ConnectionsTold.{AllTold}
use Rattle.shown_laws.proofs.links.EventsTold.{Stands, names_ordinary, names_stopped, open_is}
use Rattle.shown_laws.proofs.events.Following.{Does, Goes, ServesNone, Serves, CutsNone, Cuts, ReapsNone, Reaps, IsDown, Crashes, CrashStops, CrashServes, Ticks, Drains, IsServers}
use Rattle.shown_laws.proofs.events.GoNotes.{follow_goes}
use Rattle.shown_laws.proofs.links.ItemsTold.{IsFront, front_is, NamesSession, GivesName, HasName}
use Rattle.shown_laws.proofs.events.Lookups.{either, with_own, with_other}
use Rattle.shown_laws.proofs.links.ServedStays.{SameServed, all_at, one_changed, with_one, each_changed, cut_served, fallen_served, reaped_served, drained_served, goes_served}
use Rattle.shown_laws.proofs.owners.TurnsHappen.{blocked_served}

-- WHAT WAS SERVED GROWS ---------------------------------------------------------------------------

record GrowsAt (links news : List Link) (number : ℕ) : Type 0 where
  more : List Handled
  is : all_at number news ≡ all_at number links ++ more

abbrev Grows : List Link → List Link → Type 0
Grows links news = (number : ℕ) → GrowsAt links news number

grows_same : (links news : List Link) → SameServed links news → Grows links news
grows_same links news same number = record { more = []; is = same number ∙ sym (append-nil (all_at number links)) }

-- what was a turn is one still
were_still : (Old New : Turn → List Handled → Type 0) → ((turn : Turn) (before : List Handled) → Old turn before → New turn before) → (links news : List Link) (over : List Turn) → Grows links news → WereTurns Old links over → WereTurns New news over
were_still Old New still links news _ grow NoneOver = NoneOver
were_still Old New still links news _ grow (OneOver turn more was beside rest) =
    let here : GrowsAt links news was.number = grow was.number in
    OneOver turn more
    (record {
      number = was.number;
      before = was.before;
      later = was.later ++ here.more;
      served = here.is ∙ (ap (λ (served : List Handled). served ++ here.more) was.served ∙ append_assoc was.before was.later here.more);
      calls = was.calls;
    })
    (still turn was.before beside) (were_still Old New still links news more grow rest)

both_were : (Beside : Turn → List Handled → Type 0) (links : List Link) (some others : List Turn) → WereTurns Beside links some → WereTurns Beside links others → WereTurns Beside links (some ++ others)
both_were Beside links _ others NoneOver last = last
both_were Beside links _ others (OneOver turn more was beside rest) last = OneOver turn (more ++ others) was beside (both_were Beside links more others rest last)

-- SERVING -----------------------------------------------------------------------------------------

module _ (Beside : Turn → List Handled → Type 0) (number : ℕ) (front : Front) (served : Served) (links : List Link) (told : List Seen) (all : AllTold links told) (at : IsFront links number front) (found : FoundBySession told) (turns : TellsTurns links told)
    (beside : (one : Seen) (turn : Turn) → link_of number told ≡ Some one → one.turn ≡ Some turn → Beside turn (all_at number links)) (end : Link) (reply : Option Down) (same : end.served ≡ (after_front front served reply).served) where
  abbrev one : Handled
  one = record { sent = front.first; served = served; reply = reply }

  own_served : all_at number (with_link links number end) ≡ front.link.served ++ one ∷ []
  own_served = ap served_in (with_own links number front.link end at.there) ∙ same

  grows : Grows links (with_link links number end)
  grows other = by (either other number)
    where
      by : (other ≡ number) ⊎ (other ≢ number) → GrowsAt links (with_link links number end) other
      by (inl is) =
          record {
            more = record { sent = front.first; served = served; reply = reply } ∷ [];
            is =
                ap (λ (n : ℕ). all_at n (with_link links number end)) is
                ∙ (own_served ∙ ap (λ (before : List Handled). before ++ record { sent = front.first; served = served; reply = reply } ∷ []) (ap served_in (sym at.there) ∙ ap (λ (n : ℕ). all_at n links) (sym is)));
          }
      by (inr differ) = record { more = []; is = ap served_in (with_other links number other end differ) ∙ sym (append-nil (all_at other links)) }

  -- the turn that a Begin ends
  own_turn : (seen : Seen) → link_of number told ≡ Some seen → (turn : Option Turn) → seen.turn ≡ turn → WereTurns Beside (with_link links number end) (option_map_or (λ t. t ∷ []) turn [])
  own_turn seen is None has = NoneOver
  own_turn seen is (Some turn) has =
      OneOver turn [] (record {
        number = number;
        before = front.link.served;
        later = record { sent = front.first; served = served; reply = reply } ∷ [];
        served = own_served;
        calls =
            ap (λ (l : Option Link). calls_served (served_in l)) (sym at.there)
            ∙ (sym (turns number)
            ∙ (ap (λ (s : Option Seen). option_map_or calls_told s None) is ∙ ap (λ (t : Option Turn). calls_told (record seen { turn = t })) has));
      }) (subst (Beside turn) (ap served_in at.there) (beside seen turn is has)) NoneOver

  own_over : (there : Option Link) (seen : Option Seen) → TellsAt number there seen → there ≡ Some front.link → link_of number told ≡ seen → front.link.session ≡ Some served.session → WereTurns Beside (with_link links number end) (over_on (link_of_session served.session told))
  own_over _ _ NoLink is here own = absurd (let none : ⊥ = cc in none)
  own_over _ _ (Unnamed link tells) is here own =
      let it : link ≡ front.link = cc in
      absurd (let both : Some served.session ≡ None = sym own ∙ (ap (λ (l : Link). l.session) (sym it) ∙ tells.session) in let none : ⊥ = cc in none)
  own_over _ _ (Named link seen tells) is here own =
      let it : link ≡ front.link = cc in
      let both : Some seen.session ≡ Some served.session = sym tells.session ∙ (ap (λ (l : Link). l.session) it ∙ own) in
      let session : seen.session ≡ served.session = cc in
      let by_session : link_of_session served.session told ≡ Some seen = ap (λ (s : SessionId). link_of_session s told) (sym session) ∙ found number seen here in
      subst (λ (s : Option Seen). WereTurns Beside (with_link links number end) (over_on s)) (sym by_session) (own_turn seen here seen.turn refl)

  has_session : NamesSession front served → is_connect served.item ≡ false → front.link.session ≡ Some served.session
  has_session (GivesName gives none) other = absurd (let no : ⊥ = cc in no)
  has_session (HasName has own) other = own

  abbrev begins : Type 0
  begins = WereTurns Beside (with_link links number end) (over_on (link_of_session served.session told))

  begun : NamesSession front served → is_connect served.item ≡ false → begins
  begun names other = own_over (link_at links number) (link_of number told) (all number) at.there refl (has_session names other)

  -- by a word for what is told of the item before its turn, which a Begin leaves
  item_over : (on : Item → List Seen) → ((settings : List (List ℕ × Value)) → on (item.Begin settings) ≡ told) → NamesSession front served → WereTurns Beside (with_link links number end) (over_by served.session served.item (on served.item))
  item_over on same_told names = by served.item (begun names)
    where
      by : (one : Item) → (is_connect one ≡ false → begins) → WereTurns Beside (with_link links number end) (over_by served.session one (on one))
      by (item.Begin settings) begun = subst (λ (now : List Seen). WereTurns Beside (with_link links number end) (over_on (link_of_session served.session now))) (sym (same_told settings)) (begun refl)
      by _ begun = NoneOver

  served_over : NamesSession front served → WereTurns Beside (with_link links number end) (over_by served.session served.item (served_on number served served.item told))
  served_over = item_over (λ one. served_on number served one told) (λ settings. refl)

  stopped_over : NamesSession front served → WereTurns Beside (with_link links number end) (over_by served.session served.item (stopped_on number served served.item told))
  stopped_over = item_over (λ one. stopped_on number served one told) (λ settings. refl)

-- EVENTS ------------------------------------------------------------------------------------------

module _ (Old New : Turn → List Handled → Type 0) (still : (turn : Turn) (before : List Handled) → Old turn before → New turn before) (setting : Setting) (m : Machine) (stands : Stands m) (some : 0 < m.event) (seen : AllSeen) (all : AllTold m.links seen.links)
    (found : FoundBySession seen.links) (turns : TellsTurns m.links seen.links) (current : (number : ℕ) (one : Seen) (turn : Turn) → link_of number seen.links ≡ Some one → one.turn ≡ Some turn → Old turn (all_at number m.links)) (over : WereTurns Old m.links seen.over) where
  rests : (links : List Link) → SameServed m.links links → WereTurns New links seen.over
  rests links same = were_still Old New still m.links links seen.over (grows_same m.links links same) over

  -- where nothing changes
  kept : WereTurns New m.links seen.over
  kept = rests m.links (λ number. refl)

  -- what holds beside the turn that a connection has
  now : (number : ℕ) (one : Seen) (turn : Turn) → link_of number seen.links ≡ Some one → one.turn ≡ Some turn → New turn (all_at number m.links)
  now number one turn is has = still turn (all_at number m.links) (current number one turn is has)

  -- the turn that an item ends stands before the others
  ended : (number : ℕ) (front : Front) (served : Served) (at : IsFront m.links number front) (end : Link) (reply : Option Down) → end.served ≡ (after_front front served reply).served → (last : List Turn)
      → WereTurns New (with_link m.links number end) last → WereTurns New (with_link m.links number end) (last ++ seen.over)
  ended number front served at end reply same last were =
      both_were New (with_link m.links number end) last seen.over were
      (were_still Old New still m.links (with_link m.links number end) seen.over (grows New number front served m.links seen.links all at found turns (now number) end reply same) over)

  fallen : (links : List Link) (last : List Turn) → WereTurns New links last → WereTurns New (map (fallen_link m.event) links) last
  fallen links last were = were_still New New (λ turn before is. is) links (map (fallen_link m.event) links) last (grows_same links (map (fallen_link m.event) links) (each_changed (fallen_link m.event) (fallen_served m.event) links)) were

  abbrev answered : Front → Served → Option Down
  answered front served = reply_of served.session (commits_after front.link served.item) served.item

  pub does_over : (tick : ℕ) (one : Note) (items : List Served) (n : Machine) → Does setting m one items n → WereTurns New n.links (after_happening seen (record { event = m.event; tick = tick; noted = one; items = items })).over
  does_over tick _ _ _ (Goes client did n goes) = rests n.links (goes_served setting m client did n (follow_goes setting m client did n goes))
  does_over tick _ _ _ (ServesNone connection) = kept
  does_over tick _ _ _ (Serves connection name front served at ordinary) =
      let on : IsFront m.links connection front = front_is m.links connection front at in
      let same : (handled m.event front served).served ≡ (after_front front served (answered front served)).served = blocked_served m.event front served (answered front served) (is_blocked served.item) in
      ended connection front served on (handled m.event front served) (answered front served) same (over_by served.session served.item (served_on connection served served.item seen.links))
      (served_over New connection front served m.links seen.links all on found turns (now connection) (handled m.event front served) (answered front served) same (names_ordinary setting m stands some seen all connection front served at ordinary).1)
  does_over tick _ _ _ (CutsNone connection) = kept
  does_over tick _ _ _ (Cuts connection up down reached link at) =
      rests (with_link m.links connection (cut_link m.event up down link)) (with_one m.links connection link (cut_link m.event up down link) (open_is m.links connection link at).0 (cut_served m.event up down link))
  does_over tick _ _ _ (ReapsNone connection) = kept
  does_over tick _ _ _ (Reaps connection) = rests _ (one_changed reaped_link reaped_served m.links connection)
  does_over tick _ _ _ (IsDown connection) = kept
  does_over tick _ _ _ (Crashes connection failover) = fallen m.links seen.over kept
  does_over tick _ _ _ (CrashStops connection after failover front served at stopped) =
      let on : IsFront m.links connection front = front_is m.links connection front at in
      let end : Link = after_front front served None in
      fallen (with_link m.links connection end) (over_by served.session served.item (stopped_on connection served served.item seen.links) ++ seen.over)
      (ended connection front served on end None refl (over_by served.session served.item (stopped_on connection served served.item seen.links))
      (stopped_over New connection front served m.links seen.links all on found turns (now connection) end None refl (names_stopped setting m stands some seen all connection after front served at stopped)))
  does_over tick _ _ _ (CrashServes connection failover front served at ordinary) =
      let on : IsFront m.links connection front = front_is m.links connection front at in
      let end : Link = handled m.event front served in
      let same : (handled m.event front served).served ≡ (after_front front served (answered front served)).served = blocked_served m.event front served (answered front served) (is_blocked served.item) in
      fallen (with_link m.links connection end) (over_by served.session served.item (stopped_on connection served served.item seen.links) ++ seen.over)
      (ended connection front served on end (answered front served) same (over_by served.session served.item (stopped_on connection served served.item seen.links))
      (stopped_over New connection front served m.links seen.links all on found turns (now connection) end (answered front served) same (names_ordinary setting m stands some seen all connection front served at ordinary).1))
  does_over tick _ _ _ Ticks = kept
  does_over tick _ _ _ (Drains closed) = rests _ (drained_served m.event m.pool.idle m.links)
  does_over tick _ _ _ (IsServers (note.Up incarnation) server is) = kept
  does_over tick _ _ _ (IsServers (note.UpCrash made) server is) = kept
  does_over tick _ _ _ (IsServers (note.Outside ran) server is) = kept
  does_over tick _ _ _ (IsServers (note.Ask x told) server is) = kept
  does_over tick _ _ _ (IsServers one server is) = absurd (let none : ⊥ = cc in none)
