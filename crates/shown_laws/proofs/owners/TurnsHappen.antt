-- The calls that are told of the turn of each connection are those that its session served since
-- its last Begin, event by event.
use Rattle.std.proofs.Common.{◌≡◌, ◌≢◌, refl, sym, ap, ◌∙◌, Bool, true, false, ℕ, ◌<◌, List, [], ◌∷◌, ◌++◌, map, fold, Option, Some, None, option_map, ◌⊎◌, inl, inr, if◌then◌else◌}
use Rattle.std.specs.Option.{option_map_or}
use Rattle.svc_values.specs.declared.entry.SessionId.{SessionId}
use Rattle.svc_values.specs.declared.frame.Down.{Down}
use Rattle.svc_values.specs.meaning.Identifiers.{same_session}
use Rattle.svc_values.specs.SameLaws.{same_session_decides}
use Rattle.outage_schedule.specs.declared.item.Item.{Item}
use Rattle.outage_schedule.specs.declared.item.Item.TheVariants as item
use Rattle.outage_schedule.specs.declared.item.Served.{Served}
use Rattle.outage_schedule.specs.declared.note.Note.{Note}
use Rattle.outage_schedule.specs.declared.note.Note.TheVariants as note
use Rattle.shown_clauses.specs.meaning.Links.{Link as Seen, Marked, Seen as AllSeen, link_of, is_connect, served_on, stopped_on, in_turn, end_link, end_session, after_happening}
use Rattle.world_model.specs.meaning.Crashing.{fallen_link}
use Rattle.world_model.specs.meaning.Cutting.{cut_link, reaped_link}
use Rattle.world_model.specs.meaning.Frames.{Handled}
use Rattle.world_model.specs.meaning.Links.{Link, link_at, with_link, ends}
use Rattle.world_model.specs.meaning.Machines.{Machine}
use Rattle.world_model.specs.meaning.Serving.{Front, is_blocked, reply_of, commits_after, after_front, handled}
use Rattle.world_model.specs.meaning.Settings.{Setting}
use Rattle.shown_laws.specs.Connections.{TellsAt, NoLink, Unnamed, Named}
use Rattle.shown_laws.specs.TurnsServed.{calls_after, calls_served, calls_told, served_at, served_in, told_at, TellsTurns}
use Rattle.shown_laws.proofs.links.ConnectionsTold.{AllTold}
use Rattle.shown_laws.proofs.links.EventsTold.{Stands, names_ordinary, names_stopped, open_is}
use Rattle.shown_laws.proofs.events.Following.{Does, Goes, ServesNone, Serves, CutsNone, Cuts, ReapsNone, Reaps, IsDown, Crashes, CrashStops, CrashServes, Ticks, Drains, IsServers}
use Rattle.shown_laws.proofs.events.GoNotes.{follow_goes}
use Rattle.shown_laws.proofs.links.ItemsTold.{IsFront, front_is, NamesSession, GivesName, HasName, AreApart}
use Rattle.shown_laws.proofs.events.Lookups.{either, with_own, with_other}
use Rattle.shown_laws.proofs.links.ServedStays.{SameServed, one_changed, with_one, each_changed, ends_served, cut_served, fallen_served, reaped_served, drained_served, goes_served}
use Rattle.shown_laws.proofs.owners.TurnBriefs.{Brief, brief, brief_of, brief_in, brief_at, calls_at, brief_ends, gone_brief, turned, turned_at, with_item}
use Rattle.shown_laws.proofs.links.WordsKept.{one_ended, all_ended, session_ended, served_kept, stopped_kept, connected_kept, crashed_kept}

abbrev calls_in : Option Link → Option (List Marked)
calls_in found = calls_served (served_in found)

abbrev calls_by : Option Brief → Option (List Marked)
calls_by found = option_map_or (λ one. one.calls) found None

-- where nothing is told of turns, and nothing was served
still : (number : ℕ) (a b : List Seen) → brief_at number b ≡ brief_at number a → told_at number b ≡ told_at number a
still number a b same = calls_at number b ∙ (ap calls_by same ∙ sym (calls_at number a))

-- SERVING -----------------------------------------------------------------------------------------

served_more : (served : List Handled) (one : Handled) → calls_served (served ++ one ∷ []) ≡ calls_after (calls_served served) one.served.item
served_more served one = fold_more served None
  where
    fold_more : (served : List Handled) (calls : Option (List Marked)) → fold (λ c (o : Handled). calls_after c o.served.item) calls (served ++ one ∷ []) ≡ calls_after (fold (λ c (o : Handled). calls_after c o.served.item) calls served) one.served.item
    fold_more [] calls = refl
    fold_more (first ∷ more) calls = fold_more more (calls_after calls first.served.item)

-- an item but Connect's, of the session of this connection
module _ (number : ℕ) (front : Front) (served : Served) (links : List Link) (told : List Seen) (all : AllTold links told) (at : IsFront links number front) (apart : AreApart links) (turns : TellsTurns links told) where
  own_after : (end : Link) (reply : Option Down) → end.served ≡ (after_front front served reply).served → calls_served end.served ≡ calls_after (calls_served front.link.served) served.item
  own_after end reply same = ap calls_served same ∙ served_more front.link.served (record { sent = front.first; served = served; reply = reply })

  served_own : (end : Link) (reply : Option Down) → end.served ≡ (after_front front served reply).served → served_at number (with_link links number end) ≡ calls_after (served_at number links) served.item
  served_own end reply same =
      ap calls_in (with_own links number front.link end at.there)
      ∙ (own_after end reply same ∙ ap (λ (calls : Option (List Marked)). calls_after calls served.item) (ap calls_in (sym at.there)))

  served_others : (end : Link) (other : ℕ) → other ≢ number → served_at other (with_link links number end) ≡ served_at other links
  served_others end other differ = ap calls_in (with_other links number other end differ)

  -- CONNECT ---------------------------------------------------------------------------------------

  greets_served : (end : Link) (reply : Option Down) → end.served ≡ (after_front front served reply).served → is_connect served.item ≡ true → (other : ℕ) → served_at other (with_link links number end) ≡ served_at other links
  greets_served end reply same greets other = by (either other number)
    where
      unchanged : (one : Item) → is_connect one ≡ true → (calls : Option (List Marked)) → calls_after calls one ≡ calls
      unchanged item.Connect is calls = refl
      unchanged one is calls = absurd (let none : ⊥ = cc in none)

      by : (other ≡ number) ⊎ (other ≢ number) → served_at other (with_link links number end) ≡ served_at other links
      by (inl is) =
          ap (λ (n : ℕ). served_at n (with_link links number end)) is
          ∙ (served_own end reply same ∙ (unchanged served.item greets (served_at number links) ∙ ap (λ (n : ℕ). served_at n links) (sym is)))
      by (inr differ) = served_others end other differ

  -- ANOTHER ITEM ----------------------------------------------------------------------------------

  -- what is told of its session alone takes the item
  own_turned : (found : Option Link) (one : Option Seen) → TellsAt number found one → found ≡ Some front.link → front.link.session ≡ Some served.session
      → calls_by (option_map (turned served.session served.item) (brief_in one)) ≡ calls_after (option_map_or calls_told one None) served.item
  own_turned _ _ NoLink is own = absurd (let none : ⊥ = cc in none)
  own_turned _ _ (Unnamed link here) is own =
      let same : link ≡ front.link = cc in
      absurd (let both : Some served.session ≡ None = sym own ∙ (ap (λ (l : Link). l.session) (sym same) ∙ here.session) in let none : ⊥ = cc in none)
  own_turned _ _ (Named link seen here) is own =
      let same : link ≡ front.link = cc in
      let both : Some seen.session ≡ Some served.session = sym here.session ∙ (ap (λ (l : Link). l.session) same ∙ own) in
      let session : seen.session ≡ served.session = cc in
      by (same_session seen.session served.session) ((same_session_decides seen.session served.session).1 session)
    where
      by : (met : Bool) → met ≡ true → (if met then with_item served.item (brief_of seen) else brief_of seen).calls ≡ calls_after (calls_told seen) served.item
      by true is = refl
      by false is = absurd (let none : ⊥ = cc in none)

  other_turned : (other : ℕ) → other ≢ number → (found : Option Link) (one : Option Seen) → link_at links other ≡ found → TellsAt other found one → front.link.session ≡ Some served.session
      → calls_by (option_map (turned served.session served.item) (brief_in one)) ≡ option_map_or calls_told one None
  other_turned other differ _ _ there NoLink own = refl
  other_turned other differ _ _ there (Unnamed link here) own = refl
  other_turned other differ _ _ there (Named link seen here) own = by (same_session seen.session served.session) refl
    where
      by : (met : Bool) → same_session seen.session served.session ≡ met → (if met then with_item served.item (brief_of seen) else brief_of seen).calls ≡ calls_told seen
      by true is =
          let same : seen.session ≡ served.session = (same_session_decides seen.session served.session).0 is in
          absurd (differ (apart other number link front.link served.session there at.there (here.session ∙ ap Some same) own))
      by false is = refl

  takes_item : (end : Link) (reply : Option Down) (now : List Seen) → end.served ≡ (after_front front served reply).served → front.link.session ≡ Some served.session
      → ((other : ℕ) → brief_at other now ≡ option_map (turned served.session served.item) (brief_at other told)) → TellsTurns (with_link links number end) now
  takes_item end reply now same own takes other = calls_at other now ∙ (ap calls_by (takes other) ∙ by (either other number))
    where
      by : (other ≡ number) ⊎ (other ≢ number) → calls_by (option_map (turned served.session served.item) (brief_at other told)) ≡ served_at other (with_link links number end)
      by (inl is) =
          ap (λ (n : ℕ). calls_by (option_map (turned served.session served.item) (brief_at n told))) is
          ∙ (own_turned (link_at links number) (link_of number told) (all number) at.there own
          ∙ (ap (λ (calls : Option (List Marked)). calls_after calls served.item) (turns number)
          ∙ (sym (served_own end reply same) ∙ ap (λ (n : ℕ). served_at n (with_link links number end)) (sym is))))
      by (inr differ) =
          other_turned other differ (link_at links other) (link_of other told) refl (all other) own
          ∙ (turns other ∙ sym (served_others end other differ))

  -- BOTH ------------------------------------------------------------------------------------------

  turn_of_item : (session : SessionId) (one : Item) (other : ℕ) (event : ℕ) (now : List Seen) → brief_at other now ≡ brief_at other told
      → brief_at other (end_session event session one (in_turn session one now)) ≡ option_map (turned session one) (brief_at other told)
  turn_of_item session one other event now same = session_ended brief brief_ends other event session one (in_turn session one now) ∙ (turned_at other session one now ∙ ap (option_map (turned session one)) same)

  -- by a word for what is told of the item before its turn, which tells nothing of turns
  item_turns : (event : ℕ) (end : Link) (reply : Option Down) (on : Item → List Seen) → ((other : ℕ) → is_connect served.item ≡ false → brief_at other (on served.item) ≡ brief_at other told) → ((other : ℕ) → told_at other (on item.Connect) ≡ told_at other told)
      → NamesSession front served → end.served ≡ (after_front front served reply).served → TellsTurns (with_link links number end) (end_session event served.session served.item (in_turn served.session served.item (on served.item)))
  item_turns event end reply on keeps connects (HasName other own) same k =
      takes_item end reply (end_session event served.session served.item (in_turn served.session served.item (on served.item))) same own
      (λ at_one. turn_of_item served.session served.item at_one event (on served.item) (keeps at_one other)) k
  item_turns event end reply on keeps connects (GivesName greets none) same k = by served.item greets ∙ (turns k ∙ sym (greets_served end reply same greets k))
    where
      by : (one : Item) → is_connect one ≡ true → told_at k (end_session event served.session one (in_turn served.session one (on one))) ≡ told_at k told
      by item.Connect is = connects k
      by one is = absurd (let none : ⊥ = cc in none)

  pub serving_turns : (event : ℕ) (end : Link) (reply : Option Down) → NamesSession front served → end.served ≡ (after_front front served reply).served
      → TellsTurns (with_link links number end) (end_session event served.session served.item (in_turn served.session served.item (served_on number served served.item told)))
  serving_turns event end reply =
      item_turns event end reply (λ one. served_on number served one told) (λ other plain. served_kept brief (λ reply link. refl) other number served served.item told plain) (λ other. connected_kept calls_told (λ reply link. refl) (λ at_one session replies. refl) other number served told)

  pub stopping_turns : (event : ℕ) (end : Link) (reply : Option Down) → NamesSession front served → end.served ≡ (after_front front served reply).served
      → TellsTurns (with_link links number end) (end_session event served.session served.item (in_turn served.session served.item (stopped_on number served served.item told)))
  stopping_turns event end reply =
      item_turns event end reply (λ one. stopped_on number served one told) (λ other plain. stopped_kept brief other number served served.item told plain) (λ other. crashed_kept calls_told (λ at_one session replies. refl) other number served told)

-- EVENTS ------------------------------------------------------------------------------------------

pub blocked_served : (event : ℕ) (front : Front) (served : Served) (reply : Option Down) (blocked : Bool) → (if blocked then ends event (after_front front served reply) else after_front front served reply).served ≡ (after_front front served reply).served
blocked_served event front served reply true = ends_served event (after_front front served reply)
blocked_served event front served reply false = refl

module _ (setting : Setting) (m : Machine) (stands : Stands m) (some : 0 < m.event) (seen : AllSeen) (all : AllTold m.links seen.links) (turns : TellsTurns m.links seen.links) where
  -- where nothing is served
  rests : (told : List Seen) (links : List Link) → ((number : ℕ) → brief_at number told ≡ brief_at number seen.links) → SameServed m.links links → TellsTurns links told
  rests told links same stays number = still number seen.links told (same number) ∙ (turns number ∙ ap calls_served (sym (stays number)))

  abbrev replied : Front → Served → Option Down
  replied front served = reply_of served.session (commits_after front.link served.item) served.item

  -- where all fall
  fallen : (told : List Seen) (links : List Link) → TellsTurns links told → TellsTurns (map (fallen_link m.event) links) (map (end_link m.event) told)
  fallen told links before number =
      still number told (map (end_link m.event) told) (all_ended brief brief_ends number m.event told)
      ∙ (before number ∙ ap calls_served (sym (each_changed (fallen_link m.event) (fallen_served m.event) links number)))

  pub does_turns : (tick : ℕ) (one : Note) (items : List Served) (n : Machine) → Does setting m one items n → TellsTurns n.links (after_happening seen (record { event = m.event; tick = tick; noted = one; items = items })).links
  does_turns tick _ _ _ (Goes client did n goes) = rests _ n.links (λ k. gone_brief k client m.event did seen.links) (goes_served setting m client did n (follow_goes setting m client did n goes))
  does_turns tick _ _ _ (ServesNone connection) = turns
  does_turns tick _ _ _ (Serves connection name front served at ordinary) =
      serving_turns connection front served m.links seen.links all (front_is m.links connection front at) stands.apart turns m.event (handled m.event front served) (replied front served)
      (names_ordinary setting m stands some seen all connection front served at ordinary).1 (blocked_served m.event front served (replied front served) (is_blocked served.item))
  does_turns tick _ _ _ (CutsNone connection) = turns
  does_turns tick _ _ _ (Cuts connection up down reached link at) =
      rests _ (with_link m.links connection (cut_link m.event up down link)) (λ k. one_ended brief brief_ends k connection m.event seen.links)
      (with_one m.links connection link (cut_link m.event up down link) (open_is m.links connection link at).0 (cut_served m.event up down link))
  does_turns tick _ _ _ (ReapsNone connection) = turns
  does_turns tick _ _ _ (Reaps connection) = rests _ _ (λ k. refl) (one_changed reaped_link reaped_served m.links connection)
  does_turns tick _ _ _ (IsDown connection) = turns
  does_turns tick _ _ _ (Crashes connection failover) = fallen seen.links m.links turns
  does_turns tick _ _ _ (CrashStops connection after failover front served at stopped) =
      fallen _ (with_link m.links connection (after_front front served None))
      (stopping_turns connection front served m.links seen.links all (front_is m.links connection front at) stands.apart turns m.event (after_front front served None) None
      (names_stopped setting m stands some seen all connection after front served at stopped) refl)
  does_turns tick _ _ _ (CrashServes connection failover front served at ordinary) =
      fallen _ (with_link m.links connection (handled m.event front served))
      (stopping_turns connection front served m.links seen.links all (front_is m.links connection front at) stands.apart turns m.event (handled m.event front served) (replied front served)
      (names_ordinary setting m stands some seen all connection front served at ordinary).1 (blocked_served m.event front served (replied front served) (is_blocked served.item)))
  does_turns tick _ _ _ Ticks = turns
  does_turns tick _ _ _ (Drains closed) = rests seen.links _ (λ k. refl) (drained_served m.event m.pool.idle m.links)
  does_turns tick _ _ _ (IsServers (note.Up incarnation) server is) = turns
  does_turns tick _ _ _ (IsServers (note.UpCrash made) server is) = turns
  does_turns tick _ _ _ (IsServers (note.Outside ran) server is) = turns
  does_turns tick _ _ _ (IsServers (note.Ask x told) server is) = turns
  does_turns tick _ _ _ (IsServers one server is) = absurd (let none : ⊥ = cc in none)
