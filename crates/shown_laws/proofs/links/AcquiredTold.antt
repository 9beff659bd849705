-- The session of each connection that is told was acquired by the last step before that was lent
-- it, or took its Hello.
use Rattle.std.proofs.Common.{◌≡◌, ◌≢◌, refl, sym, ap, ◌∙◌, Bool, true, false, ℕ, ◌&&◌, List, [], ◌∷◌, map, fold, Option, Some, None, option_map, option_and_then, ◌⊎◌, inl, inr, if◌then◌else◌}
use Rattle.std.specs.Prelude.{◌==◌, is_some}
use Rattle.std.specs.Option.{option_map_or, option_or}
use Rattle.std.proofs.lemmas.List.Sums.{fold-append}
use Rattle.svc_values.specs.declared.entry.SessionId.{SessionId}
use Rattle.outage_schedule.specs.declared.item.Item.{Item}
use Rattle.outage_schedule.specs.declared.item.Item.TheVariants as item
use Rattle.outage_schedule.specs.declared.item.Served.{Served}
use Rattle.outage_schedule.specs.declared.note.GoNote.{GoNote}
use Rattle.outage_schedule.specs.declared.note.GoNote.TheVariants as go
use Rattle.outage_schedule.specs.declared.note.Note.{Note}
use Rattle.outage_schedule.specs.declared.note.Note.TheVariants as note
use Rattle.shown_clauses.specs.meaning.Fronts.{with_changed, first_item}
use Rattle.shown_clauses.specs.meaning.Happenings.{Happening, happenings_from}
use Rattle.shown_clauses.specs.meaning.Links.{Acquired, Link, Seen, nothing_seen, has_session, is_hello, is_link, link_of, linked, end_link, end_session, in_turn, turn_begun, call_served, acquire, acquire_if, take_reply, after_item, after_go, after_happening}
use Rattle.shown_clauses.specs.meaning.Steps.{Step, greeted, step_at, steps_at, steps_from}
use Rattle.shown_laws.specs.AcquiredTold.{acquired_by, acquired_after, told_acquired, StepsAcquire}
use Rattle.shown_laws.specs.Telling.{seen_after}
use Rattle.shown_laws.proofs.links.ConnectionsTold.{takes_kept}
use Rattle.shown_laws.proofs.events.Lookups.{either, eq_from, eq_to}
use Rattle.shown_laws.proofs.links.SeenLists.{own_changed, others_stay}
use Rattle.shown_laws.proofs.links.WordsKept.{KeptByEnds, some_kept, one_ended, all_ended, session_ended, items_served, items_stopped}

-- what a step asks of a connection, and by whom this was acquired
record Brief : Type 0 where
  session : SessionId
  replies : List Served
  acquired : Option Acquired

abbrev brief_of : Link → Brief
brief_of one = record { session = one.session; replies = one.replies; acquired = one.acquired }

abbrev brief : Link → Option Brief
brief one = Some (brief_of one)

abbrev brief_in : Option Link → Option Brief
brief_in found = option_map_or brief found None

abbrev brief_at : ℕ → List Link → Option Brief
brief_at number links = brief_in (link_of number links)

-- by whom alone
abbrev acquirer : Link → Option Acquired
acquirer one = one.acquired

abbrev by_brief : Option Brief → Option Acquired
by_brief found = option_map_or (λ one. one.acquired) found None

told_brief : (number : ℕ) (links : List Link) → told_acquired number links ≡ by_brief (brief_at number links)
told_brief number links = by (link_of number links)
  where
    by : (found : Option Link) → option_map_or (λ one. one.acquired) found None ≡ by_brief (brief_in found)
    by None = refl
    by (Some one) = refl

same_told : (number : ℕ) (a b : List Link) → brief_at number b ≡ brief_at number a → told_acquired number b ≡ told_acquired number a
same_told number a b same = told_brief number b ∙ (ap by_brief same ∙ sym (told_brief number a))

-- WHAT KEEPS IT -----------------------------------------------------------------------------------

turn_kept : (number : ℕ) (session : SessionId) (one : Item) (links : List Link) → brief_at number (in_turn session one links) ≡ brief_at number links
turn_kept number session (item.Begin settings) links = some_kept brief number (has_session session) turn_begun (λ l. refl) (λ l. refl) links
turn_kept number session (item.Call replay call answers draws) links = some_kept brief number (has_session session) (call_served replay call) (λ l. refl) (λ l. refl) links
turn_kept number session (item.Blocked call) links = some_kept brief number (has_session session) (call_served false call) (λ l. refl) (λ l. refl) links
turn_kept number session (item.CrashedCall replay call) links = some_kept brief number (has_session session) (call_served replay call) (λ l. refl) (λ l. refl) links
turn_kept number session _ links = refl

brief_ends : KeptByEnds brief
brief_ends event one = refl

-- no item changes by whom a connection was acquired, and a new one was acquired by nobody
pub linked_kept : (number : ℕ) (noted : Note) (links : List Link) (one : Served) → told_acquired number (linked noted links one) ≡ told_acquired number links
linked_kept number (note.Serve connection (Some frame)) links one = items_served acquirer (λ reply link. refl) (λ other session replies. refl) number connection one one.item links
linked_kept number (note.Crash connection false) links one = items_stopped acquirer (λ other session replies. refl) number connection one one.item links
linked_kept number noted links one = refl

pub item_kept : (number event : ℕ) (noted : Note) (seen : Seen) (one : Served) → told_acquired number (after_item event noted seen one).links ≡ told_acquired number seen.links
item_kept number event noted seen one =
    let links : List Link = linked noted seen.links one in
    same_told number links (end_session event one.session one.item (in_turn one.session one.item links)) (session_ended brief brief_ends number event one.session one.item (in_turn one.session one.item links) ∙ turn_kept number one.session one.item links)
    ∙ linked_kept number noted seen.links one

items_kept : (number event : ℕ) (noted : Note) (seen : Seen) (items : List Served) → told_acquired number (fold (after_item event noted) seen items).links ≡ told_acquired number seen.links
items_kept number event noted seen [] = refl
items_kept number event noted seen (one ∷ items) = items_kept number event noted (after_item event noted seen one) items ∙ item_kept number event noted seen one

-- A STEP ------------------------------------------------------------------------------------------

-- the items of a step, if it had some, change nothing that it asks for
go_items : (number event client : ℕ) (did : GoNote) (seen : Seen) (items : List Served) → brief_at number (fold (after_item event (note.Go client did)) seen items).links ≡ brief_at number seen.links
go_items number event client did seen [] = refl
go_items number event client did seen (one ∷ items) =
    go_items number event client did (after_item event (note.Go client did) seen one) items
    ∙ (session_ended brief brief_ends number event one.session one.item (in_turn one.session one.item seen.links) ∙ turn_kept number one.session one.item seen.links)

module _ (number event tick client : ℕ) (seen : Seen) (items : List Served) (links : List Link) (same : (other : ℕ) → brief_at other links ≡ brief_at other seen.links) where
  abbrev step : GoNote → Step
  step did = step_at seen.links (record { event = event; tick = tick; noted = note.Go client did; items = items }) client did

  abbrev Goes : GoNote → Type 0
  Goes did = told_acquired number (after_go client event did links) ≡ acquired_after number (told_acquired number seen.links) (step did ∷ [])

  before : told_acquired number links ≡ told_acquired number seen.links
  before = same_told number seen.links links (same number)

  off : (test : Bool) (some : Bool) (found : Option Acquired) → test ≡ false → found ≡ option_or (if test && some then Some (record { client = client; event = event }) else None) found
  off true some found is = absurd (let none : ⊥ = cc in none)
  off false some found is = refl

  on : (test : Bool) (some : Bool) (found : Option Acquired) → test ≡ true → (if some then Some (record { client = client; event = event }) else found) ≡ option_or (if test && some then Some (record { client = client; event = event }) else None) found
  on true true found is = refl
  on true false found is = refl
  on false some found is = absurd (let none : ⊥ = cc in none)

  other_off : (connection : ℕ) → number ≢ connection → (connection == number) ≡ false
  other_off connection differ = by (connection == number) refl
    where
      by : (test : Bool) → (connection == number) ≡ test → test ≡ false
      by true is = absurd (differ (sym (eq_from connection number is)))
      by false is = refl

  lent : (connection : ℕ) → Goes (go.Lent connection)
  lent connection = by (either number connection)
    where
      own : (now was : Option Link) → brief_in now ≡ brief_in was
          → option_map_or (λ l. l.acquired) (option_map (acquire client event) now) None ≡ (if is_some (option_map (λ (l : Link). l.session) was) then Some (record { client = client; event = event }) else option_map_or (λ l. l.acquired) was None)
      own None None is = refl
      own (Some now) (Some was) is = refl
      own None (Some was) is = absurd (let none : ⊥ = cc in none)
      own (Some now) None is = absurd (let none : ⊥ = cc in none)

      by : (number ≡ connection) ⊎ (number ≢ connection) → Goes (go.Lent connection)
      by (inl here) =
          ap (λ (n : ℕ). told_acquired n (with_changed (is_link connection) (acquire client event) links)) here
          ∙ (ap (λ (found : Option Link). option_map_or (λ l. l.acquired) found None) (own_changed connection (acquire client event) (λ l. refl) links)
          ∙ (own (link_of connection links) (link_of connection seen.links) (same connection)
          ∙ (ap (λ (n : ℕ). if is_some (step (go.Lent connection)).session then Some (record { client = client; event = event }) else told_acquired n seen.links) (sym here)
          ∙ on (connection == number) (is_some (step (go.Lent connection)).session) (told_acquired number seen.links) (eq_to connection number (sym here)))))
      by (inr differ) =
          ap (λ (found : Option Link). option_map_or (λ l. l.acquired) found None) (others_stay connection number (acquire client event) (λ l. refl) differ links)
          ∙ (before ∙ off (connection == number) (is_some (step (go.Lent connection)).session) (told_acquired number seen.links) (other_off connection differ))

  took : (connection sent : ℕ) → Goes (go.Took connection sent)
  took connection sent = by (either number connection)
    where
      hello : (reply : Option Served) → is_some (greeted (is_hello reply) reply) ≡ is_hello reply
      hello None = refl
      hello (Some one) = at (is_hello (Some one))
        where
          at : (test : Bool) → is_some (greeted test (Some one)) ≡ test
          at true = refl
          at false = refl

      acquired_if : (test : Bool) (one : Link) → (acquire_if test client event one).acquired ≡ (if test then Some (record { client = client; event = event }) else one.acquired)
      acquired_if true one = refl
      acquired_if false one = refl

      own : (now was : Option Link) → brief_in now ≡ brief_in was
          → option_map_or (λ l. l.acquired) (option_map (take_reply client event) now) None
          ≡ (if is_hello (option_and_then (λ (l : Link). first_item l.replies) was) then Some (record { client = client; event = event }) else option_map_or (λ l. l.acquired) was None)
      own None None is = refl
      own (Some now) (Some was) is =
          let whole : brief_of now ≡ brief_of was = cc in
          acquired_if (is_hello (first_item now.replies)) _
          ∙ (ap (λ (replies : List Served). if is_hello (first_item replies) then Some (record { client = client; event = event }) else now.acquired) (ap (λ (b : Brief). b.replies) whole)
          ∙ ap (λ (found : Option Acquired). if is_hello (first_item was.replies) then Some (record { client = client; event = event }) else found) (ap (λ (b : Brief). b.acquired) whole))
      own None (Some was) is = absurd (let none : ⊥ = cc in none)
      own (Some now) None is = absurd (let none : ⊥ = cc in none)

      by : (number ≡ connection) ⊎ (number ≢ connection) → Goes (go.Took connection sent)
      by (inl here) =
          ap (λ (n : ℕ). told_acquired n (with_changed (is_link connection) (take_reply client event) links)) here
          ∙ (ap (λ (found : Option Link). option_map_or (λ l. l.acquired) found None) (own_changed connection (take_reply client event) (takes_kept client event) links)
          ∙ (own (link_of connection links) (link_of connection seen.links) (same connection)
          ∙ (ap (λ (test : Bool). if test then Some (record { client = client; event = event }) else told_acquired connection seen.links) (sym (hello (step (go.Took connection sent)).taken))
          ∙ (ap (λ (n : ℕ). if is_some (step (go.Took connection sent)).session then Some (record { client = client; event = event }) else told_acquired n seen.links) (sym here)
          ∙ on (connection == number) (is_some (step (go.Took connection sent)).session) (told_acquired number seen.links) (eq_to connection number (sym here))))))
      by (inr differ) =
          ap (λ (found : Option Link). option_map_or (λ l. l.acquired) found None) (others_stay connection number (take_reply client event) (takes_kept client event) differ links)
          ∙ (before ∙ off (connection == number) (is_some (step (go.Took connection sent)).session) (told_acquired number seen.links) (other_off connection differ))

  goes : (did : GoNote) → told_acquired number (after_go client event did links) ≡ acquired_after number (told_acquired number seen.links) (steps_at seen (record { event = event; tick = tick; noted = note.Go client did; items = items }) (note.Go client did))
  goes (go.Lent connection) = lent connection
  goes (go.Took connection sent) = took connection sent
  goes go.Idle = before
  goes go.Early = before
  goes go.NoFrame = before
  goes go.Wait = before
  goes go.Down = before
  goes (go.Open connection) = before
  goes (go.Lost connection) = before

-- EVENTS ------------------------------------------------------------------------------------------

pub happens : (number : ℕ) (seen : Seen) (event tick : ℕ) (noted : Note) (items : List Served)
    → told_acquired number (after_happening seen (record { event = event; tick = tick; noted = noted; items = items })).links ≡ acquired_after number (told_acquired number seen.links) (steps_at seen (record { event = event; tick = tick; noted = noted; items = items }) noted)
happens number seen event tick (note.Go client did) items =
    goes number event tick client seen items (fold (after_item event (note.Go client did)) seen items).links (λ other. go_items other event client did seen items) did
happens number seen event tick (note.Cut connection (Some reached)) items =
    let links : List Link = (fold (after_item event (note.Cut connection (Some reached))) seen items).links in
    same_told number links (with_changed (is_link connection) (end_link event) links) (one_ended brief brief_ends number connection event links) ∙ items_kept number event (note.Cut connection (Some reached)) seen items
happens number seen event tick (note.Crash connection false) items =
    let links : List Link = (fold (after_item event (note.Crash connection false)) seen items).links in
    same_told number links (map (end_link event) links) (all_ended brief brief_ends number event links) ∙ items_kept number event (note.Crash connection false) seen items
happens number seen event tick noted items = items_kept number event noted seen items

all_happen : (number : ℕ) (seen : Seen) (happenings : List Happening) → told_acquired number (seen_after seen happenings).links ≡ acquired_after number (told_acquired number seen.links) (steps_from seen happenings)
all_happen number seen [] = refl
all_happen number seen (one ∷ more) =
    all_happen number (after_happening seen one) more
    ∙ (ap (λ (found : Option Acquired). acquired_after number found (steps_from (after_happening seen one) more)) (happens number seen one.event one.tick one.noted one.items)
    ∙ sym (fold-append (λ found step. option_or (acquired_by number step) found) (told_acquired number seen.links) (steps_at seen one one.noted) (steps_from (after_happening seen one) more)))

pub steps_acquire : StepsAcquire
steps_acquire notes items number = all_happen number nothing_seen (happenings_from 1 0 notes items)
