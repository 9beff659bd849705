-- What is left out changes nothing of what is kept.
use Rattle.std.proofs.Common.{◌≡◌, refl, sym, ap, ◌∙◌, Bool, true, false, ℕ, List, [], ◌∷◌, ◌++◌, map, Option, Some, None, option_map}
use Rattle.std.specs.Prelude.{option_and_then, flat_map}
use Rattle.svc_values.specs.declared.call.Call.{Call}
use Rattle.svc_values.specs.declared.entry.SessionId.{SessionId}
use Rattle.outage_schedule.specs.declared.item.Item.{Item}
use Rattle.outage_schedule.specs.declared.item.Item.TheVariants as item
use Rattle.outage_schedule.specs.declared.item.Served.{Served}
use Rattle.outage_schedule.specs.declared.note.GoNote.{GoNote}
use Rattle.outage_schedule.specs.declared.note.GoNote.TheVariants as go
use Rattle.outage_schedule.specs.declared.note.Note.{Note}
use Rattle.outage_schedule.specs.declared.note.Note.TheVariants as note
use Rattle.shown_clauses.specs.meaning.Fronts.{changed_if, with_changed, first_from, first_of, first_item, rest_items}
use Rattle.shown_clauses.specs.meaning.Happenings.{Happening}
use Rattle.shown_clauses.specs.meaning.Links.{Link, Seen, Turn, is_link, has_session, link_of, link_of_session, add_reply, connected, served_on, stopped_connected, stopped_on, end_link, end_session, call_served, turn_begun, in_turn, turn_of, over_on, over_by, linked, after_item, acquire, is_hello, acquire_if, take_reply, after_go, after_note}
use Rattle.shown_clauses.specs.meaning.Steps.{Step, reply_at, session_at, step_at, steps_at}
use Rattle.report_story.specs.Plain.{plain_link, plain_seen, plain_step, plain_item, plain_note, step_by, steps_by}

-- ---- lists of connections

changed_plain : (test : Link → Bool) (change : Link → Link) → ((x : Link) → test (plain_link x) ≡ test x) → ((x : Link) → plain_link (change x) ≡ change (plain_link x))
    → (links : List Link) → map plain_link (with_changed test change links) ≡ with_changed test change (map plain_link links)
changed_plain test change tests changes [] = refl
changed_plain test change tests changes (x ∷ links) =
    λ i. (by (test x) ∙ ap (λ b. changed_if b change (plain_link x)) (sym (tests x))) i ∷ changed_plain test change tests changes links i
  where
    by : (b : Bool) → plain_link (changed_if b change x) ≡ changed_if b change (plain_link x)
    by true = changes x
    by false = refl

ended_plain : (test : Link → Bool) (event : ℕ) (links : List Link) → map plain_link (with_changed test (end_link event) links) ≡ map plain_link links
ended_plain test event [] = refl
ended_plain test event (x ∷ links) = λ i. by (test x) i ∷ ended_plain test event links i
  where
    by : (b : Bool) → plain_link (changed_if b (end_link event) x) ≡ plain_link x
    by true = refl
    by false = refl

all_ended_plain : (event : ℕ) (links : List Link) → map plain_link (map (end_link event) links) ≡ map plain_link links
all_ended_plain event [] = refl
all_ended_plain event (x ∷ links) = ap (λ (rest : List Link). plain_link x ∷ rest) (all_ended_plain event links)

first_from_plain : (test : Link → Bool) → ((x : Link) → test (plain_link x) ≡ test x) → (b : Bool) (x : Link) (links : List Link)
    → first_from test b (plain_link x) (map plain_link links) ≡ option_map plain_link (first_from test b x links)
first_from_plain test tests true x links = refl
first_from_plain test tests false x [] = refl
first_from_plain test tests false x (y ∷ links) =
    ap (λ b. first_from test b (plain_link y) (map plain_link links)) (tests y) ∙ first_from_plain test tests (test y) y links

first_plain : (test : Link → Bool) → ((x : Link) → test (plain_link x) ≡ test x) → (links : List Link) → first_of test (map plain_link links) ≡ option_map plain_link (first_of test links)
first_plain test tests [] = refl
first_plain test tests (x ∷ links) = ap (λ b. first_from test b (plain_link x) (map plain_link links)) (tests x) ∙ first_from_plain test tests (test x) x links

pub link_plain : (connection : ℕ) (links : List Link) → link_of connection (map plain_link links) ≡ option_map plain_link (link_of connection links)
link_plain connection links = first_plain (is_link connection) (λ x. refl) links

pub session_plain : (session : SessionId) (links : List Link) → link_of_session session (map plain_link links) ≡ option_map plain_link (link_of_session session links)
session_plain session links = first_plain (has_session session) (λ x. refl) links

-- ---- an item

reply_plain : (connection : ℕ) (one : Served) (links : List Link) → map plain_link (add_reply connection one links) ≡ add_reply connection one (map plain_link links)
reply_plain connection one links = changed_plain (is_link connection) (λ link. record link { replies = link.replies ++ one ∷ [] }) (λ x. refl) (λ x. refl) links

connect_plain : (connection : ℕ) (one : Served) (links : List Link) → map plain_link (connected connection one (link_of connection links) links) ≡ connected connection one (link_of connection (map plain_link links)) (map plain_link links)
connect_plain connection one links = by (link_of connection links) ∙ ap (λ found. connected connection one found (map plain_link links)) (sym (link_plain connection links))
  where
    by : (found : Option Link) → map plain_link (connected connection one found links) ≡ connected connection one (option_map plain_link found) (map plain_link links)
    by None = refl
    by (Some link) = reply_plain connection one links

stop_plain : (connection : ℕ) (one : Served) (links : List Link) → map plain_link (stopped_connected connection one (link_of connection links) links) ≡ stopped_connected connection one (link_of connection (map plain_link links)) (map plain_link links)
stop_plain connection one links = by (link_of connection links) ∙ ap (λ found. stopped_connected connection one found (map plain_link links)) (sym (link_plain connection links))
  where
    by : (found : Option Link) → map plain_link (stopped_connected connection one found links) ≡ stopped_connected connection one (option_map plain_link found) (map plain_link links)
    by None = refl
    by (Some link) = refl

served_plain : (connection : ℕ) (one : Served) (it : Item) (links : List Link) → map plain_link (served_on connection one it links) ≡ served_on connection one it (map plain_link links)
served_plain connection one item.Connect links = connect_plain connection one links
served_plain connection one (item.Call replay call answers draws) links = reply_plain connection one links
served_plain connection one (item.Blocked call) links = reply_plain connection one links
served_plain connection one (item.Outcome x result) links = reply_plain connection one links
served_plain connection one (item.Refused cause) links = reply_plain connection one links
served_plain connection one _ links = refl

stopped_plain : (connection : ℕ) (one : Served) (it : Item) (links : List Link) → map plain_link (stopped_on connection one it links) ≡ stopped_on connection one it (map plain_link links)
stopped_plain connection one item.Connect links = stop_plain connection one links
stopped_plain connection one _ links = refl

linked_plain : (noted : Note) (links : List Link) (one : Served) → map plain_link (linked noted links one) ≡ linked noted (map plain_link links) one
linked_plain (note.Serve connection (Some frame)) links one = served_plain connection one one.item links
linked_plain (note.Crash connection false) links one = stopped_plain connection one one.item links
linked_plain noted links one = refl

called_plain : (replay : Bool) (call : Call) (link : Link) → plain_link (call_served replay call link) ≡ call_served replay call (plain_link link)
called_plain replay call link = refl

turn_plain : (session : SessionId) (it : Item) (links : List Link) → map plain_link (in_turn session it links) ≡ in_turn session it (map plain_link links)
turn_plain session (item.Begin settings) links = changed_plain (has_session session) turn_begun (λ x. refl) (λ x. refl) links
turn_plain session (item.Call replay call answers draws) links = changed_plain (has_session session) (call_served replay call) (λ x. refl) (called_plain replay call) links
turn_plain session (item.Blocked call) links = changed_plain (has_session session) (call_served false call) (λ x. refl) (called_plain false call) links
turn_plain session (item.CrashedCall replay call) links = changed_plain (has_session session) (call_served replay call) (λ x. refl) (called_plain replay call) links
turn_plain session _ links = refl

over_on_plain : (found : Option Link) → over_on (option_map plain_link found) ≡ over_on found
over_on_plain None = refl
over_on_plain (Some link) = refl

over_plain : (session : SessionId) (it : Item) (links : List Link) → over_by session it (map plain_link links) ≡ over_by session it links
over_plain session (item.Begin settings) links = ap over_on (session_plain session links) ∙ over_on_plain (link_of_session session links)
over_plain session _ links = refl

end_plain : (event : ℕ) (session : SessionId) (it : Item) (links : List Link) → map plain_link (end_session event session it links) ≡ map plain_link links
end_plain event session (item.Blocked call) links = ended_plain (has_session session) event links
end_plain event session (item.Refused cause) links = ended_plain (has_session session) event links
end_plain event session _ links = refl

pub item_plain : (event : ℕ) (noted : Note) (seen : Seen) (one : Served) → plain_seen (after_item event noted seen one) ≡ plain_item noted (plain_seen seen) one
item_plain event noted seen one = λ i. record { links = links i; over = over i ++ seen.over }
  where
    now : List Link
    now = linked noted seen.links one

    same : map plain_link now ≡ linked noted (map plain_link seen.links) one
    same = linked_plain noted seen.links one

    links : map plain_link (end_session event one.session one.item (in_turn one.session one.item now)) ≡ in_turn one.session one.item (linked noted (map plain_link seen.links) one)
    links = end_plain event one.session one.item (in_turn one.session one.item now) ∙ (turn_plain one.session one.item now ∙ ap (in_turn one.session one.item) same)

    over : over_by one.session one.item now ≡ over_by one.session one.item (linked noted (map plain_link seen.links) one)
    over = sym (over_plain one.session one.item now) ∙ ap (over_by one.session one.item) same

-- ---- a note

take_plain : (client event : ℕ) (link : Link) → plain_link (take_reply client event link) ≡ take_reply client event (plain_link link)
take_plain client event link = by (is_hello (first_item link.replies)) (record link { replies = rest_items link.replies })
  where
    by : (hello : Bool) (taken : Link) → plain_link (acquire_if hello client event taken) ≡ acquire_if hello client event (plain_link taken)
    by true taken = refl
    by false taken = refl

go_plain : (client event : ℕ) (did : GoNote) (links : List Link) → map plain_link (after_go client event did links) ≡ after_go client event did (map plain_link links)
go_plain client event (go.Lent connection) links = changed_plain (is_link connection) (acquire client event) (λ x. refl) (λ x. refl) links
go_plain client event (go.Took connection sent) links = changed_plain (is_link connection) (take_reply client event) (λ x. refl) (take_plain client event) links
go_plain client event _ links = refl

pub note_plain : (event : ℕ) (noted : Note) (links : List Link) → map plain_link (after_note event noted links) ≡ plain_note event noted (map plain_link links)
note_plain event (note.Go client did) links = go_plain client event did links
note_plain event (note.Cut connection (Some reached)) links = ended_plain (is_link connection) event links
note_plain event (note.Crash connection false) links = all_ended_plain event links
note_plain event noted links = refl

-- ---- a step

reply_at_plain : (links : List Link) (did : GoNote) → reply_at (map plain_link links) did ≡ reply_at links did
reply_at_plain links (go.Took connection sent) = ap (option_and_then (λ link. first_item link.replies)) (link_plain connection links) ∙ by (link_of connection links)
  where
    by : (found : Option Link) → option_and_then (λ (link : Link). first_item link.replies) (option_map plain_link found) ≡ option_and_then (λ (link : Link). first_item link.replies) found
    by None = refl
    by (Some link) = refl
reply_at_plain links _ = refl

session_at_plain : (links : List Link) (did : GoNote) (reply : Option Served) → session_at (map plain_link links) did reply ≡ session_at links did reply
session_at_plain links (go.Lent connection) reply = ap (option_map (λ link. link.session)) (link_plain connection links) ∙ by (link_of connection links)
  where
    by : (found : Option Link) → option_map (λ (link : Link). link.session) (option_map plain_link found) ≡ option_map (λ (link : Link). link.session) found
    by None = refl
    by (Some link) = refl
session_at_plain links _ reply = refl

step_plain : (links : List Link) (one : Happening) (client : ℕ) (did : GoNote) → plain_step (step_at links one client did) ≡ step_by (map plain_link links) one.event client did
step_plain links one client did =
    let reply = sym (reply_at_plain links did) in
    λ i. record {
      event = one.event;
      tick = 0;
      client = client;
      did = did;
      taken = reply i;
      session = (sym (session_at_plain links did (reply_at links did)) ∙ ap (session_at (map plain_link links) did) reply) i;
      lost = None;
    }

pub steps_plain : (seen : Seen) (one : Happening) (noted : Note) → map plain_step (steps_at seen one noted) ≡ steps_by (map plain_link seen.links) one.event noted
steps_plain seen one (note.Go client go.Idle) = refl
steps_plain seen one (note.Go client go.Wait) = ap (λ (step : Step). step ∷ []) (step_plain seen.links one client go.Wait)
steps_plain seen one (note.Go client go.NoFrame) = ap (λ (step : Step). step ∷ []) (step_plain seen.links one client go.NoFrame)
steps_plain seen one (note.Go client go.Early) = ap (λ (step : Step). step ∷ []) (step_plain seen.links one client go.Early)
steps_plain seen one (note.Go client go.Down) = ap (λ (step : Step). step ∷ []) (step_plain seen.links one client go.Down)
steps_plain seen one (note.Go client (go.Open connection)) = ap (λ (step : Step). step ∷ []) (step_plain seen.links one client (go.Open connection))
steps_plain seen one (note.Go client (go.Lent connection)) = ap (λ (step : Step). step ∷ []) (step_plain seen.links one client (go.Lent connection))
steps_plain seen one (note.Go client (go.Took connection sent)) = ap (λ (step : Step). step ∷ []) (step_plain seen.links one client (go.Took connection sent))
steps_plain seen one (note.Go client (go.Lost connection)) = ap (λ (step : Step). step ∷ []) (step_plain seen.links one client (go.Lost connection))
steps_plain seen one _ = refl

-- ---- turns

links_turns_plain : (links : List Link) → flat_map turn_of (map plain_link links) ≡ flat_map turn_of links
links_turns_plain [] = refl
links_turns_plain (link ∷ links) = ap (λ (rest : List Turn). turn_of link ++ rest) (links_turns_plain links)

pub turns_plain : (links : List Link) (over : List Turn) → flat_map turn_of (map plain_link links) ++ over ≡ flat_map turn_of links ++ over
turns_plain links over = ap (λ (turns : List Turn). turns ++ over) (links_turns_plain links)
