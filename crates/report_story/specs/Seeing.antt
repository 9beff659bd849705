-- What an item changes in what was seen, one part after the other.
use Rattle.std.specs.Prelude.{◌≡◌, ℕ, Bool, List, [], ◌∷◌, ◌++◌, Option, Some, None}
use Rattle.svc_values.specs.declared.call.Call.{Call}
use Rattle.svc_values.specs.declared.entry.SessionId.{SessionId}
use Rattle.outage_schedule.specs.declared.item.Item.{Item}
use Rattle.shown_clauses.specs.meaning.Fronts.{with_changed}
use Rattle.shown_clauses.specs.meaning.Links.{Link, Seen, new_link, has_session, link_of_session, turn_begun, call_served, in_turn, over_on, over_by}

abbrev pub with_links : Seen → List Link → Seen
with_links seen links = record { links = links; over = seen.over }

-- a Connect that a crash stopped
abbrev pub connect_stopped : ℕ → SessionId → Option Link → List Link → List Link
connect_stopped connection session None links = new_link connection session [] ∷ links
connect_stopped connection session (Some link) links = links

-- a `begin`, and a call of the session
abbrev pub begun_on : SessionId → Seen → Seen
begun_on session seen =
    record {
      links = with_changed (has_session session) turn_begun seen.links;
      over = over_on (link_of_session session seen.links) ++ seen.over;
    }

abbrev pub called_on : SessionId → Bool → Call → Seen → Seen
called_on session replay call seen = with_links seen
    (with_changed (has_session session) (call_served replay call) seen.links)

-- an item, by its session
abbrev pub turned : SessionId → Item → Seen → Seen
turned session one seen = record {
  links = in_turn session one seen.links;
  over = over_by session one seen.links ++ seen.over;
}

-- ---- the turn that another one follows

-- The turn of the session's newest connection is over. What a `begin` makes of the connections is
-- the same as before.
pub record IsTurnOver (session : SessionId) (old : Seen) (new : Seen) : Type 0 where
  pub over : new.over ≡ over_on (link_of_session session old.links) ++ old.over
  pub links : with_changed (has_session session) turn_begun new.links ≡ with_changed
      (has_session session) turn_begun old.links
