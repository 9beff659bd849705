-- The turn that is told of a connection was acquired by a step on it, which is told.
use Rattle.std.proofs.Common.{◌≡◌, refl, sym, ap, subst, ◌∙◌, append_assoc, Bool, true, false, ℕ, List, [], ◌∷◌, ◌++◌, fold, Option, Some, None, option_map, ◌⊎◌, inl, inr}
use Rattle.std.specs.Option.{option_map_or, option_or}
use Rattle.svc_values.specs.declared.call.Call.{Call}
use Rattle.svc_values.specs.declared.entry.SessionId.{SessionId}
use Rattle.outage_schedule.specs.declared.item.Item.{Item}
use Rattle.outage_schedule.specs.declared.item.Item.TheVariants as item
use Rattle.outage_schedule.specs.declared.item.Served.{Served}
use Rattle.outage_schedule.specs.declared.note.Note.{Note}
use Rattle.outage_schedule.specs.declared.note.Note.TheVariants as note
use Rattle.shown_clauses.specs.meaning.Fronts.{changed_if, with_changed, first_item}
use Rattle.shown_clauses.specs.meaning.Happenings.{Happening}
use Rattle.shown_clauses.specs.meaning.Links.{Acquired, Link, Turn, Seen, nothing_seen, has_session, is_hello, link_of, linked, end_session, in_turn, turn_begun, call_served, acquire_if, take_reply, after_item, after_note, after_happening}
use Rattle.shown_clauses.specs.meaning.Steps.{Step, steps_at, steps_from}
use Rattle.shown_laws.specs.AcquiredTold.{acquired_by, acquired_after, told_acquired}
use Rattle.shown_laws.specs.Telling.{seen_after, events_told, seen_told, steps_told}
use Rattle.shown_laws.proofs.links.AcquiredTold.{linked_kept, item_kept, happens}
use Rattle.shown_laws.proofs.links.SeenLists.{link_changed}
use Rattle.shown_laws.proofs.steps.StepsAmong.{IsAmong, among_front, among_behind}
use Rattle.shown_laws.proofs.links.WordsKept.{word_at, KeepsWord, some_kept, one_ended, all_ended, session_ended, gone_kept, items_served, items_stopped}

-- a step that is told acquired the session of this connection so
pub record HeardBy (number : ℕ) (acquired : Acquired) (steps : List Step) : Type 0 where
  pub step : Step
  pub among : IsAmong step steps
  pub by : acquired_by number step ≡ Some acquired

abbrev Heard : ℕ → List Step → Option Acquired → Type 0
Heard number steps found = (acquired : Acquired) → found ≡ Some acquired → HeardBy number acquired steps

pub still_heard : (number : ℕ) (acquired : Acquired) (steps more : List Step) → HeardBy number acquired steps → HeardBy number acquired (steps ++ more)
still_heard number acquired steps more one = record { step = one.step; among = among_front one.step steps more one.among; by = one.by }

heard_longer : (number : ℕ) (steps more : List Step) (found : Option Acquired) → Heard number steps found → Heard number (steps ++ more) found
heard_longer number steps more found heard acquired is = still_heard number acquired steps more (heard acquired is)

after_heard : (number : ℕ) (before : Option Acquired) (steps : List Step) (acquired : Acquired) → acquired_after number before steps ≡ Some acquired → (before ≡ Some acquired) ⊎ HeardBy number acquired steps
after_heard number before [] acquired is = inl is
after_heard number before (step ∷ steps) acquired is = by (after_heard number (option_or (acquired_by number step) before) steps acquired is)
  where
    here : (found : Option Acquired) → acquired_by number step ≡ found → option_or found before ≡ Some acquired → (before ≡ Some acquired) ⊎ HeardBy number acquired (step ∷ steps)
    here None same now = inl now
    here (Some one) same now = inr (record { step = step; among = inl refl; by = same ∙ now })

    by : (option_or (acquired_by number step) before ≡ Some acquired) ⊎ HeardBy number acquired steps → (before ≡ Some acquired) ⊎ HeardBy number acquired (step ∷ steps)
    by (inl now) = here (acquired_by number step) refl now
    by (inr later) = inr (record { step = later.step; among = inr later.among; by = later.by })

-- WHAT IS READ OF A TURN --------------------------------------------------------------------------

abbrev acquirer_of : Link → Option Acquired
acquirer_of one = option_map_or (λ turn. turn.acquired) one.turn None

abbrev turn_at : ℕ → List Link → Option Acquired
turn_at number links = word_at acquirer_of number links

calls_keep : (replay : Bool) (call : Call) → KeepsWord acquirer_of (call_served replay call)
calls_keep replay call one = by one.turn
  where
    by : (turn : Option Turn) → acquirer_of (call_served replay call (record one { turn = turn })) ≡ acquirer_of (record one { turn = turn })
    by None = refl
    by (Some turn) = refl

takes_keep : (client event : ℕ) → KeepsWord acquirer_of (take_reply client event)
takes_keep client event one = by (is_hello (first_item one.replies)) _ refl
  where
    by : (hello : Bool) (taken : Link) → acquirer_of taken ≡ acquirer_of one → acquirer_of (acquire_if hello client event taken) ≡ acquirer_of one
    by true taken same = same
    by false taken same = same

-- It stays, or the last acquisition of the session is that of its turn.
abbrev Turns : ℕ → List Link → List Link → Type 0
Turns number links after = (turn_at number after ≡ turn_at number links) ⊎ (turn_at number after ≡ told_acquired number links)

begun_turns : (number : ℕ) (session : SessionId) (links : List Link) → Turns number links (with_changed (has_session session) turn_begun links)
begun_turns number session links = subst Now (sym (link_changed number (has_session session) turn_begun (λ l. refl) links)) (by (link_of number links))
  where
    Now : Option Link → Type 0
    Now found = (option_map_or acquirer_of found None ≡ turn_at number links) ⊎ (option_map_or acquirer_of found None ≡ told_acquired number links)

    by : (found : Option Link) → (option_map_or acquirer_of (option_map (λ one. changed_if (has_session session one) turn_begun one) found) None ≡ option_map_or acquirer_of found None)
        ⊎ (option_map_or acquirer_of (option_map (λ one. changed_if (has_session session one) turn_begun one) found) None ≡ option_map_or (λ one. one.acquired) found None)
    by None = inl refl
    by (Some one) = met (has_session session one)
      where
        met : (test : Bool) → (acquirer_of (changed_if test turn_begun one) ≡ acquirer_of one) ⊎ (acquirer_of (changed_if test turn_begun one) ≡ one.acquired)
        met true = inr refl
        met false = inl refl

item_turns : (number : ℕ) (session : SessionId) (one : Item) (links : List Link) → Turns number links (in_turn session one links)
item_turns number session (item.Begin settings) links = begun_turns number session links
item_turns number session (item.Call replay call answers draws) links = inl (some_kept acquirer_of number (has_session session) (call_served replay call) (λ l. refl) (calls_keep replay call) links)
item_turns number session (item.Blocked call) links = inl (some_kept acquirer_of number (has_session session) (call_served false call) (λ l. refl) (calls_keep false call) links)
item_turns number session (item.CrashedCall replay call) links = inl (some_kept acquirer_of number (has_session session) (call_served replay call) (λ l. refl) (calls_keep replay call) links)
item_turns number session _ links = inl refl

linked_turn : (number : ℕ) (noted : Note) (links : List Link) (one : Served) → turn_at number (linked noted links one) ≡ turn_at number links
linked_turn number (note.Serve connection (Some frame)) links one = items_served acquirer_of (λ reply link. refl) (λ other session replies. refl) number connection one one.item links
linked_turn number (note.Crash connection false) links one = items_stopped acquirer_of (λ other session replies. refl) number connection one one.item links
linked_turn number noted links one = refl

after_turns : (number event : ℕ) (noted : Note) (seen : Seen) (one : Served) → Turns number seen.links (after_item event noted seen one).links
after_turns number event noted seen one = by (item_turns number one.session one.item links)
  where
    links : List Link
    links = linked noted seen.links one

    ended : turn_at number (end_session event one.session one.item (in_turn one.session one.item links)) ≡ turn_at number (in_turn one.session one.item links)
    ended = session_ended acquirer_of (λ e l. refl) number event one.session one.item (in_turn one.session one.item links)

    by : Turns number links (in_turn one.session one.item links) → Turns number seen.links (after_item event noted seen one).links
    by (inl same) = inl (ended ∙ (same ∙ linked_turn number noted seen.links one))
    by (inr new) = inr (ended ∙ (new ∙ linked_kept number noted seen.links one))

items_turn : (number event : ℕ) (noted : Note) (seen : Seen) (items : List Served) → Turns number seen.links (fold (after_item event noted) seen items).links
items_turn number event noted seen [] = inl refl
items_turn number event noted seen (one ∷ items) = by (items_turn number event noted (after_item event noted seen one) items) (after_turns number event noted seen one)
  where
    last : List Link
    last = (fold (after_item event noted) (after_item event noted seen one) items).links

    by : Turns number (after_item event noted seen one).links last → Turns number seen.links (after_item event noted seen one).links → Turns number seen.links last
    by (inl same) (inl before) = inl (same ∙ before)
    by (inl same) (inr before) = inr (same ∙ before)
    by (inr new) first = inr (new ∙ item_kept number event noted seen one)

-- the note changes no turn
note_turn : (number event : ℕ) (noted : Note) (links : List Link) → turn_at number (after_note event noted links) ≡ turn_at number links
note_turn number event (note.Go client did) links = gone_kept acquirer_of (λ c e l. refl) takes_keep number client event did links
note_turn number event (note.Cut connection (Some reached)) links = one_ended acquirer_of (λ e l. refl) number connection event links
note_turn number event (note.Crash connection false) links = all_ended acquirer_of (λ e l. refl) number event links
note_turn number event _ links = refl

-- EVENTS ------------------------------------------------------------------------------------------

event_turns : (number : ℕ) (seen : Seen) (one : Happening) → Turns number seen.links (after_happening seen one).links
event_turns number seen one = by (items_turn number one.event one.noted seen one.items)
  where
    links : List Link
    links = (fold (after_item one.event one.noted) seen one.items).links

    by : Turns number seen.links links → Turns number seen.links (after_note one.event one.noted links)
    by (inl same) = inl (note_turn number one.event one.noted links ∙ same)
    by (inr new) = inr (note_turn number one.event one.noted links ∙ new)

all_heard : (number : ℕ) (before : List Step) (seen : Seen) (happenings : List Happening) → Heard number before (told_acquired number seen.links) → Heard number before (turn_at number seen.links)
    → Heard number (before ++ steps_from seen happenings) (turn_at number (seen_after seen happenings).links)
all_heard number before seen [] last turn = heard_longer number before [] (turn_at number seen.links) turn
all_heard number before seen (one ∷ more) last turn =
    subst (λ (steps : List Step). Heard number steps (turn_at number (seen_after (after_happening seen one) more).links)) (append_assoc before now (steps_from (after_happening seen one) more))
    (all_heard number (before ++ now) (after_happening seen one) more last_now (turn_now (event_turns number seen one)))
  where
    now : List Step
    now = steps_at seen one one.noted

    last_now : Heard number (before ++ now) (told_acquired number (after_happening seen one).links)
    last_now acquired is = by (after_heard number (told_acquired number seen.links) now acquired (sym (happens number seen one.event one.tick one.noted one.items) ∙ is))
      where
        by : (told_acquired number seen.links ≡ Some acquired) ⊎ HeardBy number acquired now → HeardBy number acquired (before ++ now)
        by (inl was) = heard_longer number before now (told_acquired number seen.links) last acquired was
        by (inr new) = record { step = new.step; among = among_behind new.step before now new.among; by = new.by }

    turn_now : Turns number seen.links (after_happening seen one).links → Heard number (before ++ now) (turn_at number (after_happening seen one).links)
    turn_now (inl same) acquired is = heard_longer number before now (turn_at number seen.links) turn acquired (sym same ∙ is)
    turn_now (inr new) acquired is = heard_longer number before now (told_acquired number seen.links) last acquired (sym new ∙ is)

-- So it is of the turn that is told of a connection.
pub turn_heard : (notes : List Note) (items : List Served) (number : ℕ) (one : Link) (turn : Turn) (acquired : Acquired) → link_of number (seen_told notes items).links ≡ Some one → one.turn ≡ Some turn → turn.acquired ≡ Some acquired
    → HeardBy number acquired (steps_told notes items)
turn_heard notes items number one turn acquired found has is =
    all_heard number [] nothing_seen (events_told notes items) (λ a none. absurd (let never : ⊥ = cc in never)) (λ a none. absurd (let never : ⊥ = cc in never)) acquired
    (ap (λ (l : Option Link). option_map_or acquirer_of l None) found ∙ (ap (λ (t : Option Turn). option_map_or (λ (x : Turn). x.acquired) t None) has ∙ is))
