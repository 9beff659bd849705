-- `crash` and `failover`: a `serve` that may be stopped, and then the server is down.
use Rattle.std.specs.Prelude.{ℕ, ◌+◌, ◌*◌, ◌&&◌, ◌||◌, Bool, true, false, not, nat_lt, nat_le, List, [], ◌∷◌, map, fold, Option, Some, None, option_map, if◌then◌else◌}
use Rattle.svc_values.specs.declared.call.Call.TheVariants as call
use Rattle.svc_values.specs.declared.frame.Up.{Up}
use Rattle.svc_values.specs.declared.frame.Up.TheVariants as up
use Rattle.svc_values.specs.meaning.Calls.{sequences_in}
use Rattle.svc_values.specs.meaning.Identifiers.{same_ltxid}
use Rattle.ltxid_book.specs.meaning.Journal.{is_blocked}
use Rattle.pool_core.specs.meaning.Slots.{after_gone}
use Rattle.outage_schedule.specs.declared.item.Item.{Item}
use Rattle.outage_schedule.specs.declared.item.Item.TheVariants as item
use Rattle.outage_schedule.specs.declared.item.Served.{Served}
use Rattle.svc_values.specs.meaning.Same.{same_bool, same_call}
use Rattle.run_clauses.specs.meaning.Outcomes.{is_uncommitted}
use Rattle.world_model.specs.meaning.Links.{Link, with_link, ends, open_from}
use Rattle.world_model.specs.meaning.Machines.{Server, Machine}
use Rattle.world_model.specs.meaning.Noting.{only_if}
use Rattle.world_model.specs.meaning.Serving.{Front, front_at, is_of_front, is_ordinary, is_commit, after_front, after_served}

-- STOPPED, OR NOT ---------------------------------------------------------------------------------

-- the frame was stopped before its reply
abbrev pub is_crashed_item : Up → Item → Bool
is_crashed_item (up.Call replay kept call) (item.CrashedCall marked served) =
    same_bool marked replay && same_call served call
is_crashed_item (up.Outcome ltxid) (item.CrashedOutcome asked) = same_ltxid asked ltxid
is_crashed_item _ _ = false

-- It can be stopped only within so many device calls: one record, and one for each sequence
-- operand.
abbrev pub is_stopped : Machine → ℕ → Front → Served → Bool
is_stopped m after front served =
    is_of_front m front served && (is_crashed_item front.first.frame served.item
    && nat_lt after (m.server.per_record * (1 + sequences_in front.first.frame)))

abbrev pub is_alert : Item → Bool
is_alert (item.Call marked (call.Alter line) answers draws) = true
is_alert _ = false

-- an identifier that was not blocked, and that no crashed item carries
abbrev pub is_new_block : Server → Item → Bool
is_new_block server (item.Outcome asked result) =
    is_uncommitted result && not (is_blocked server.blocked asked
    || is_blocked server.doubtful asked)
is_new_block server _ = false

-- an entry, an alert line or a block was added
abbrev pub has_stored : Server → Item → Bool
has_stored server one = is_commit one || (is_alert one || is_new_block server one)

-- The frame was served before the stop: what it added took one record.
abbrev pub is_over : Machine → ℕ → Front → Served → Bool
is_over m after front served = is_ordinary m front served
    && (not (has_stored m.server served.item) || nat_le m.server.per_record after)

-- AFTERWARDS --------------------------------------------------------------------------------------

abbrev pub with_doubt : Server → Item → Server
with_doubt server (item.CrashedOutcome asked) = record server { doubtful = asked ∷ server.doubtful }
with_doubt server _ = server

abbrev pub after_stopped : Machine → ℕ → Front → Served → Machine
after_stopped m number front served = record m {
  links =
      with_link m.links number (after_front front served None);
  server =
      with_doubt m.server served.item;
}

-- no connection is open, no session lives, and nothing is on its way but the replies that a cut let
-- arrive before
abbrev pub fallen_link : ℕ → Link → Link
fallen_link event link = record (ends event link) {
  is_living = false;
  up = [];
  down =
      if link.is_cut then link.down else [];
}

-- after a failover there is one store
abbrev pub fallen_server : Bool → Server → Server
fallen_server failover server = record server {
  is_up = false;
  per_record =
      if failover then 4 else server.per_record;
}

-- each connection that was open leaves the pool, if it was idle
abbrev pub falls : Bool → Machine → Machine
falls failover m = record m {
  server = fallen_server failover m.server;
  links = map (fallen_link m.event) m.links;
  pool = fold after_gone m.pool (open_from 1 m.links);
}

-- the one item of the frame that stands first, and none where none does
abbrev pub serves_last : Machine → ℕ → ℕ → List Served → Option Front
    → Option (Machine × List Served)
serves_last m number after items None = Some (m, items)
serves_last m number after [] (Some front) = None
serves_last m number after (served ∷ items) (Some front) =
    if is_stopped m after front served then Some (after_stopped m number front served, items)
    else only_if (is_over m after front served) (after_served m number front served, items)

abbrev pub crashes : Machine → ℕ → ℕ → Bool → List Served → Option (Machine × List Served)
crashes m number after failover items = option_map (λ next. (falls failover next.0, next.1))
    (serves_last m number after items (front_at m.links number))

-- The note says down exactly where the server is down, and then nothing happens.
abbrev pub follow_crash : Machine → ℕ → ℕ → Bool → Bool → List Served
    → Option (Machine × List Served)
follow_crash m number after failover down items =
    if m.server.is_up then (if down then None else crashes m number after failover items) else
    only_if down (m, items)
