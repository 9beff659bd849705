-- How much of the finish is left: a number that falls with each of its events.
use Rattle.std.specs.Prelude.{ℕ, ◌+◌, ◌-◌, ◌*◌, ◌&&◌, ◌||◌, Bool, true, false, not, nat_le, List, [], ◌∷◌, length, Option, Some, None, is_some, option_and_then, if◌then◌else◌}
use Rattle.std.specs.List.{list_any}
use Rattle.std.specs.Option.{option_map_or}
use Rattle.client_model.specs.meaning.Terms.{Terms}
use Rattle.outage_schedule.specs.declared.document.Request.{Request}
use Rattle.run_clauses.specs.meaning.Copies.{Copies, is_over, copies_of}
use Rattle.world_model.specs.meaning.Settings.{Setting}
use Rattle.world_model.specs.meaning.Links.{Link, link_at, is_orphan}
use Rattle.world_model.specs.meaning.Clients.{Doing, Past, Client, reports_of, script_at, is_unfinished}
use Rattle.world_model.specs.meaning.Machines.{Machine}
use Rattle.world_model.specs.meaning.Serving.{front_at}
use Rattle.world_model.specs.meaning.Finishing.{Place, AtClients, AtLinks}
use Rattle.world_model.specs.RoundsLeft.{attempt, awaits_tick, talk_rounds}

-- one, where it is so
abbrev pub once_if : Bool → ℕ
once_if true = 1
once_if false = 0

-- OF A SCRIPT -------------------------------------------------------------------------------------

abbrev pub calls_in : List Request → ℕ
calls_in [] = 0
calls_in (request ∷ script) = length request.calls + calls_in script

-- the most rounds of one request of the script
abbrev pub rounds_of_one : Terms → List Request → ℕ
rounds_of_one terms script = (calls_in script + terms.limits.replays) * attempt terms
    + (terms.limits.delay + (terms.limits.wait + 8))

-- how many copies of a request may still be submitted
abbrev pub copies_left : Copies → ℕ
copies_left copies = if is_over copies then 0 else copies.request.again + 1 - length copies.reports

abbrev pub all_left : List Copies → ℕ
all_left [] = 0
all_left (copies ∷ others) = copies_left copies + all_left others

-- how many requests of a script may still be submitted, with these over: the one in course is among
-- them
abbrev pub requests_left : List Request → List Past → ℕ
requests_left script past = all_left (copies_of script (reports_of past))

-- OF A CLIENT -------------------------------------------------------------------------------------

-- The connection of a request is open, or it has none.
abbrev pub on_open : List Link → Option ℕ → Bool
on_open links connection = option_map_or (λ link. link.is_open)
    (option_and_then (link_at links) connection) true

-- a frame on it may be served
abbrev pub may_serve : List Link → Option ℕ → Bool
may_serve links connection = is_some (option_and_then (front_at links) connection)

-- A request that has taken its step of this round, or cannot take one before a frame is served,
-- takes its next one behind the tick. Where it awaits ticks, that one is counted among them.
abbrev pub doing_rounds : Setting → Machine → Bool → Doing → ℕ
doing_rounds setting m stepped doing =
    talk_rounds setting.terms m.tick (on_open m.links doing.connection) doing.talk
    + once_if (not (awaits_tick setting.terms m.tick doing.talk doing.talk.phase)
    && (stepped || may_serve m.links doing.connection))

abbrev pub rounds_with : Setting → Machine → Bool → List Request → ℕ → Option Doing → Option Request
    → ℕ
rounds_with setting m stepped script left None None = 0
rounds_with setting m stepped script left None (Some next) =
    left * rounds_of_one setting.terms script + once_if stepped
rounds_with setting m stepped script left (Some doing) next =
    (left - 1) * rounds_of_one setting.terms script + doing_rounds setting m stepped doing

-- how many rounds a client may still take
abbrev pub client_rounds : Setting → Machine → Bool → List Request → Client → ℕ
client_rounds setting m stepped script client =
    rounds_with setting m stepped script (requests_left script client.past) client.now client.next

-- OF ALL ------------------------------------------------------------------------------------------

-- the step of this client in the round is done
abbrev pub has_stepped : Place → ℕ → Bool
has_stepped (AtClients last) number = nat_le number last
has_stepped AtLinks number = true
has_stepped _ number = false

abbrev pub rounds_from : Setting → Machine → Place → ℕ → List Client → ℕ
rounds_from setting m place number [] = 0
rounds_from setting m place number (client ∷ clients) =
    client_rounds setting m (has_stepped place number) (script_at setting number) client
    + rounds_from setting m place (number + 1) clients

-- what is left on the connections: frames that were sent, and orphans
abbrev pub link_work : Link → ℕ
link_work link = length link.up + once_if (is_orphan link)

abbrev pub links_work : List Link → ℕ
links_work [] = 0
links_work (link ∷ links) = link_work link + links_work links

-- What is left of the round beside the frames that were sent: a step of each client, which sends
-- two frames at most, and the tick.
abbrev pub round_work : Machine → Place → ℕ
round_work m (AtClients last) = 3 * (length m.clients - last) + 2
round_work m AtLinks = 1
round_work m _ = if list_any is_unfinished m.clients then 3 * length m.clients + 3 else 0

-- the rounds that are left, each with all that may be in it, and the rest of this one
abbrev pub remaining : Setting → Machine → Place → ℕ
remaining setting m place =
    rounds_from setting m place 1 m.clients * (3 * length m.clients + 4)
    + (round_work m place + (links_work m.links + once_if (not m.server.is_up)))
