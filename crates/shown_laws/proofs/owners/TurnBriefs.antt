-- Of each connection that is told, its session and the calls of its turn: what an item, a note and
-- an end change of these.
use Rattle.std.proofs.Common.{◌≡◌, refl, sym, ap, ◌∙◌, Bool, true, false, ℕ, List, Option, Some, None, option_map, if◌then◌else◌}
use Rattle.std.specs.Option.{option_map_or}
use Rattle.svc_values.specs.declared.call.Call.{Call}
use Rattle.svc_values.specs.declared.entry.SessionId.{SessionId}
use Rattle.svc_values.specs.meaning.Identifiers.{same_session}
use Rattle.outage_schedule.specs.declared.item.Item.{Item}
use Rattle.outage_schedule.specs.declared.item.Item.TheVariants as item
use Rattle.outage_schedule.specs.declared.note.GoNote.{GoNote}
use Rattle.shown_clauses.specs.meaning.Fronts.{changed_if, first_item}
use Rattle.shown_clauses.specs.meaning.Links.{Link as Seen, Turn, Marked, has_session, link_of, in_turn, turn_begun, call_served, acquire_if, is_hello, after_go}
use Rattle.shown_laws.specs.TurnsServed.{calls_after, calls_told, told_at}
use Rattle.shown_laws.proofs.links.SeenLists.{link_changed}
use Rattle.shown_laws.proofs.links.WordsKept.{KeptByEnds, gone_kept}

-- a session, and the calls of its turn
pub record Brief : Type 0 where
  pub session : SessionId
  pub calls : Option (List Marked)

abbrev pub brief_of : Seen → Brief
brief_of one = record { session = one.session; calls = calls_told one }

abbrev pub brief : Seen → Option Brief
brief one = Some (brief_of one)

abbrev pub brief_in : Option Seen → Option Brief
brief_in found = option_map_or brief found None

abbrev pub brief_at : ℕ → List Seen → Option Brief
brief_at number told = brief_in (link_of number told)

pub calls_at : (number : ℕ) (told : List Seen) → told_at number told ≡ option_map_or (λ one. one.calls) (brief_at number told) None
calls_at number told = by (link_of number told)
  where
    by : (found : Option Seen) → option_map_or calls_told found None ≡ option_map_or (λ one. one.calls) (brief_in found) None
    by None = refl
    by (Some one) = refl

-- WHAT CHANGES NOTHING ----------------------------------------------------------------------------

pub brief_ends : KeptByEnds brief
brief_ends event one = refl

-- a step of a client changes only who acquired it, and the replies
if_acquired : (test : Bool) (client event : ℕ) (one : Seen) → brief (acquire_if test client event one) ≡ brief one
if_acquired true client event one = refl
if_acquired false client event one = refl

pub gone_brief : (number client event : ℕ) (did : GoNote) (told : List Seen) → brief_at number (after_go client event did told) ≡ brief_at number told
gone_brief = gone_kept brief (λ client event one. refl) (λ client event one. if_acquired (is_hello (first_item one.replies)) client event _)

-- TURNS -------------------------------------------------------------------------------------------

abbrev pub with_item : Item → Brief → Brief
with_item one before = record { session = before.session; calls = calls_after before.calls one }

abbrev pub turned : SessionId → Item → Brief → Brief
turned session one before = if same_session before.session session then with_item one before else before

begun_or : (session : SessionId) (one : Item) (change : Seen → Seen) → ((link : Seen) → brief_of (change link) ≡ record { session = link.session; calls = calls_after (calls_told link) one }) → (found : Option Seen)
    → brief_in (option_map (λ link. changed_if (has_session session link) change link) found) ≡ option_map (turned session one) (brief_in found)
begun_or session one change does None = refl
begun_or session one change does (Some link) = by (same_session link.session session)
  where
    by : (met : Bool) → ◌≡◌ {A = Option Brief} (Some (brief_of (changed_if met change link))) (Some (if met then record { session = link.session; calls = calls_after (calls_told link) one } else brief_of link))
    by true = ap Some (does link)
    by false = refl

call_brief : (replay : Bool) (call : Call) (link : Seen) → brief_of (call_served replay call link) ≡ record { session = link.session; calls = calls_after (calls_told link) (item.CrashedCall replay call) }
call_brief replay call link = ap (λ (calls : Option (List Marked)). record { session = link.session; calls = calls }) (by link.turn)
  where
    by : (turn : Option Turn) → calls_told (call_served replay call (record link { turn = turn })) ≡ calls_after (calls_told (record link { turn = turn })) (item.CrashedCall replay call)
    by None = refl
    by (Some turn) = refl

unturned : (session : SessionId) (one : Item) → ((calls : Option (List Marked)) → calls_after calls one ≡ calls) → (found : Option Brief) → found ≡ option_map (turned session one) found
unturned session one keeps None = refl
unturned session one keeps (Some before) = ap Some (by (same_session before.session session))
  where
    by : (met : Bool) → before ≡ (if met then record { session = before.session; calls = calls_after before.calls one } else before)
    by true = ap (λ (calls : Option (List Marked)). record { session = before.session; calls = calls }) (sym (keeps before.calls))
    by false = refl

pub turned_at : (number : ℕ) (session : SessionId) (one : Item) (told : List Seen) → brief_at number (in_turn session one told) ≡ option_map (turned session one) (brief_at number told)
turned_at number session (item.Begin settings) told =
    ap brief_in (link_changed number (has_session session) turn_begun (λ link. refl) told) ∙ begun_or session (item.Begin settings) turn_begun (λ link. refl) (link_of number told)
turned_at number session (item.Call replay call answers draws) told =
    ap brief_in (link_changed number (has_session session) (call_served replay call) (λ link. refl) told) ∙ begun_or session (item.Call replay call answers draws) (call_served replay call) (call_brief replay call) (link_of number told)
turned_at number session (item.Blocked call) told =
    ap brief_in (link_changed number (has_session session) (call_served false call) (λ link. refl) told) ∙ begun_or session (item.Blocked call) (call_served false call) (call_brief false call) (link_of number told)
turned_at number session (item.CrashedCall replay call) told =
    ap brief_in (link_changed number (has_session session) (call_served replay call) (λ link. refl) told) ∙ begun_or session (item.CrashedCall replay call) (call_served replay call) (call_brief replay call) (link_of number told)
turned_at number session item.Connect told = unturned session item.Connect (λ calls. refl) (brief_at number told)
turned_at number session (item.Outcome x result) told = unturned session (item.Outcome x result) (λ calls. refl) (brief_at number told)
turned_at number session item.End told = unturned session item.End (λ calls. refl) (brief_at number told)
turned_at number session item.Close told = unturned session item.Close (λ calls. refl) (brief_at number told)
turned_at number session (item.Refused cause) told = unturned session (item.Refused cause) (λ calls. refl) (brief_at number told)
turned_at number session (item.CrashedOutcome x) told = unturned session (item.CrashedOutcome x) (λ calls. refl) (brief_at number told)
