-- The acquisition that is told of the last Begin of each connection: an item but a Begin changes
-- none, and a Begin takes that of its connection.
use Rattle.std.proofs.Common.{◌≡◌, refl, ap, ◌∙◌, Bool, true, false, ℕ, List, Option, Some, None, option_map, if◌then◌else◌}
use Rattle.std.specs.Option.{option_map_or}
use Rattle.svc_values.specs.declared.call.Call.{Call}
use Rattle.svc_values.specs.declared.entry.SessionId.{SessionId}
use Rattle.svc_values.specs.meaning.Identifiers.{same_session}
use Rattle.outage_schedule.specs.declared.item.Item.{Item}
use Rattle.outage_schedule.specs.declared.item.Item.TheVariants as item
use Rattle.outage_schedule.specs.declared.item.Served.{Served}
use Rattle.outage_schedule.specs.declared.note.GoNote.{GoNote}
use Rattle.shown_clauses.specs.meaning.Fronts.{changed_if, with_changed, first_item}
use Rattle.shown_clauses.specs.meaning.Links.{Acquired, Link as Seen, Turn, has_session, link_of, served_on, stopped_on, end_session, in_turn, turn_begun, call_served, acquire_if, is_hello, after_go}
use Rattle.invariant_laws.specs.Same.{is_begin}
use Rattle.shown_laws.specs.TurnOwners.{told_begin}
use Rattle.shown_laws.proofs.links.SeenLists.{link_changed}
use Rattle.shown_laws.proofs.links.WordsKept.{KeepsWord, KeptByEnds, some_kept, session_ended, gone_kept, items_served, items_stopped}

abbrev pub starts : Seen → Option (Option Acquired)
starts one = option_map (λ turn. turn.acquired) one.turn

-- WHAT KEEPS IT -----------------------------------------------------------------------------------

pub starts_end : KeptByEnds starts
starts_end event one = refl

if_acquired : (test : Bool) (client event : ℕ) (one : Seen) → starts (acquire_if test client event one) ≡ starts one
if_acquired true client event one = refl
if_acquired false client event one = refl

-- a step of a client begins no turn
pub gone_begin : (number client event : ℕ) (did : GoNote) (told : List Seen) → told_begin number (after_go client event did told) ≡ told_begin number told
gone_begin = gone_kept starts (λ client event one. refl) (λ client event one. if_acquired (is_hello (first_item one.replies)) client event _)

-- ITEMS -------------------------------------------------------------------------------------------

call_start : (replay : Bool) (call : Call) → KeepsWord starts (call_served replay call)
call_start replay call link = by link.turn
  where
    by : (turn : Option Turn) → starts (call_served replay call (record link { turn = turn })) ≡ starts (record link { turn = turn })
    by None = refl
    by (Some turn) = refl

turn_begin : (number : ℕ) (session : SessionId) (one : Item) (told : List Seen) → is_begin one ≡ false → told_begin number (in_turn session one told) ≡ told_begin number told
turn_begin number session (item.Begin settings) told is = absurd (let none : ⊥ = cc in none)
turn_begin number session (item.Call replay call answers draws) told is = some_kept starts number (has_session session) (call_served replay call) (λ link. refl) (call_start replay call) told
turn_begin number session (item.Blocked call) told is = some_kept starts number (has_session session) (call_served false call) (λ link. refl) (call_start false call) told
turn_begin number session (item.CrashedCall replay call) told is = some_kept starts number (has_session session) (call_served replay call) (λ link. refl) (call_start replay call) told
turn_begin number session _ told is = refl

-- all that an item but a Begin does
pub other_begin : (number event connection : ℕ) (one : Served) (told : List Seen) → is_begin one.item ≡ false → told_begin number (end_session event one.session one.item (in_turn one.session one.item (served_on connection one one.item told))) ≡ told_begin number told
other_begin number event connection one told is =
    session_ended starts starts_end number event one.session one.item (in_turn one.session one.item (served_on connection one one.item told))
    ∙ (turn_begin number one.session one.item (served_on connection one one.item told) is ∙ items_served starts (λ reply link. refl) (λ other session replies. refl) number connection one one.item told)

pub other_stopped : (number event connection : ℕ) (one : Served) (told : List Seen) → is_begin one.item ≡ false → told_begin number (end_session event one.session one.item (in_turn one.session one.item (stopped_on connection one one.item told))) ≡ told_begin number told
other_stopped number event connection one told is =
    session_ended starts starts_end number event one.session one.item (in_turn one.session one.item (stopped_on connection one one.item told))
    ∙ (turn_begin number one.session one.item (stopped_on connection one one.item told) is ∙ items_stopped starts (λ other session replies. refl) number connection one one.item told)

-- A BEGIN -----------------------------------------------------------------------------------------

abbrev pub begun_on : SessionId → Seen → Option (Option Acquired)
begun_on session one = if same_session one.session session then Some one.acquired else starts one

pub now_begun : (number : ℕ) (session : SessionId) (told : List Seen) → told_begin number (with_changed (has_session session) turn_begun told) ≡ option_map_or (begun_on session) (link_of number told) None
now_begun number session told = ap (λ (found : Option Seen). option_map_or starts found None) (link_changed number (has_session session) turn_begun (λ one. refl) told) ∙ by (link_of number told)
  where
    by : (found : Option Seen) → option_map_or starts (option_map (λ one. changed_if (has_session session one) turn_begun one) found) None ≡ option_map_or (begun_on session) found None
    by None = refl
    by (Some one) = met (same_session one.session session)
      where
        met : (test : Bool) → starts (changed_if test turn_begun one) ≡ (if test then Some one.acquired else starts one)
        met true = refl
        met false = refl
