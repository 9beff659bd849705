-- The calls of connections that entries are of: those of transactions that were stored, and that
-- none of them is stored twice.
use Rattle.std.specs.Prelude.{◌==◌, ◌&&◌, Bool, true, false, not, List, [], ◌∷◌, map, flat_map, Option, if◌then◌else◌}
use Rattle.std.specs.Option.{option_map_or}
use Rattle.svc_values.specs.declared.draw.Draw.{Draw}
use Rattle.svc_values.specs.declared.entry.Ltxid.{Ltxid}
use Rattle.svc_values.specs.meaning.Endings.{ends_committed}
use Rattle.outage_schedule.specs.declared.item.Item.{Item as ItemTold}
use Rattle.outage_schedule.specs.declared.item.Item.TheVariants as item
use Rattle.server_model.specs.meaning.Walk.{ends}
use Rattle.world_model.specs.meaning.Frames.{Handled}
use Rattle.world_model.specs.meaning.Links.{Link}
use Rattle.invariant_laws.specs.Once.{stopped_draws}
use Rattle.world_model.specs.Parts.{has_entry}
use Rattle.world_model.specs.Sames.{each_pair, same_owners}
use Rattle.world_model.specs.Traced.{Traced}

-- the transaction that is open before this item is stored, where it is so behind it; of one that
-- was stopped by its entry
abbrev pub goes : Bool → ItemTold → Bool → Bool
goes stood (item.Begin settings) later = false
goes stood (item.Call marked called answers draws) later =
    if ends_committed answers then true else (if ends answers then false else later)
goes stood (item.CrashedCall marked called) later = stood
goes stood _ later = later

abbrev pub is_stored_next : Bool → List Handled → Bool
is_stored_next stood [] = false
is_stored_next stood (one ∷ others) = goes stood one.served.item (is_stored_next stood others)

abbrev pub is_call : ItemTold → Bool
is_call (item.Call marked called answers draws) = true
is_call (item.CrashedCall marked called) = true
is_call _ = false

-- the calls of transactions that were stored
abbrev pub stored_of : Bool → List Handled → List Handled
stored_of stood [] = []
stored_of stood (one ∷ others) = if is_call one.served.item
    && is_stored_next stood (one ∷ others) then one ∷ stored_of stood others else stored_of
    stood others

-- what a call was given; one that was stopped these
abbrev pub given_in : List Draw → ItemTold → List Draw
given_in stopped (item.Call marked called answers draws) = draws
given_in stopped (item.CrashedCall marked called) = stopped
given_in stopped _ = []

abbrev pub given_to : List Draw → Handled → List Draw
given_to stopped one = given_in stopped one.served.item

-- an entry has the identifier that is held
abbrev pub stood_in : Traced → Option Ltxid → Bool
stood_in t held = option_map_or (has_entry t.entries) held false

-- a call of a connection that is of a transaction that was stored, with what it was given
pub record StoredCall : Type 0 where
  pub one : Handled
  pub draws : List Draw

abbrev pub stored_call : List Draw → Handled → StoredCall
stored_call stopped one = record { one = one; draws = given_to stopped one }

abbrev pub are_apart : StoredCall → StoredCall → Bool
are_apart a b = not (same_owners a.one.sent.owner b.one.sent.owner
    && (a.one.sent.call == b.one.sent.call))

abbrev pub stored_on : Traced → Link → List StoredCall
stored_on t link = map (stored_call (stopped_draws t link.held))
    (stored_of (stood_in t link.held) link.served)

-- the calls of connections that are of transactions that were stored
abbrev pub stored_calls : Traced → List StoredCall
stored_calls t = flat_map (stored_on t) t.machine.links

-- No two of them are one call of one request.
abbrev pub are_stored_once : Traced → Bool
are_stored_once t = each_pair are_apart (stored_calls t)
