-- `go`: one step of a client.
use Rattle.std.specs.Prelude.{ℕ, ◌+◌, Bool, true, false, List, [], ◌∷◌, ◌++◌, length, Option, Some, None, option_and_then, if◌then◌else◌}
use Rattle.svc_values.specs.declared.entry.Ltxid.{Ltxid}
use Rattle.pool_core.specs.declared.answers.Take.{Take}
use Rattle.pool_core.specs.declared.answers.Take.TheVariants as take
use Rattle.pool_core.specs.meaning.Slots.{take_answer, after_take, after_opened}
use Rattle.client_model.specs.declared.input.Input.{Input}
use Rattle.client_model.specs.declared.input.Input.TheVariants.{Waiting, Lent, Opened, TryFailed, Took}
use Rattle.client_model.specs.declared.input.Wants.{Wants}
use Rattle.client_model.specs.declared.input.Wants.TheVariants as wants
use Rattle.client_model.specs.meaning.Talk.{wants_of}
use Rattle.outage_schedule.specs.declared.note.GoNote.{GoNote}
use Rattle.outage_schedule.specs.declared.note.GoNote.TheVariants as go
use Rattle.world_model.specs.meaning.Settings.{Setting}
use Rattle.world_model.specs.meaning.Frames.{Reply}
use Rattle.world_model.specs.meaning.Links.{Link, new_link, link_at, with_link, takes}
use Rattle.world_model.specs.meaning.Clients.{Doing, client_at, doing_of, doing_at}
use Rattle.world_model.specs.meaning.Machines.{Machine}
use Rattle.world_model.specs.meaning.Acting.{frames_of, act_at, steps, loses}
use Rattle.world_model.specs.meaning.Noting.{only_if, same_did}

-- the note is this one, and the state this one then
abbrev pub noted : GoNote → GoNote → Machine → Option Machine
noted did expected m = only_if (same_did did expected) m

-- TRIES -------------------------------------------------------------------------------------------

-- The next connection is opened where the server is up, and else the try fails.
abbrev pub tries_while : Setting → Machine → ℕ → GoNote → Doing → Bool → Option Machine
tries_while setting m client did doing true =
    let number : ℕ = length m.links + 1 in
    noted did (go.Open number)
    (steps setting (record m {
      links = m.links ++ new_link ∷ [];
      pool =
          after_opened m.pool number;
    }) client (record doing { connection = Some number }) true
    (Opened number))
tries_while setting m client did doing false =
    noted did go.Down (steps setting m client doing true TryFailed)

abbrev pub tries : Setting → Machine → ℕ → GoNote → Doing → Option Machine
tries setting m client did doing = tries_while setting m client did doing m.server.is_up

-- SLOTS -------------------------------------------------------------------------------------------

-- the idle connection is lent, whose session has this identifier
abbrev pub lends : Setting → Machine → ℕ → GoNote → Doing → ℕ → Option Ltxid → Option Machine
lends setting m client did doing number None = None
lends setting m client did doing number (Some ltxid) =
    noted did (go.Lent number) (steps setting m client (record doing { connection = Some number })
    true (Lent number ltxid))

-- by the answer of the pool
abbrev pub takes_slot : Setting → Machine → ℕ → GoNote → Doing → Take → Option Machine
takes_slot setting m client did doing take.Waiting =
    noted did go.Wait (steps setting m client doing false Waiting)
takes_slot setting m client did doing (take.Lent number) =
    lends setting m client did doing number
    (option_and_then (λ link. link.held) (link_at m.links number))
takes_slot setting m client did doing take.Open = tries setting m client did doing

abbrev pub asks_pool : Setting → Machine → ℕ → GoNote → Doing → Option Machine
asks_pool setting m client did doing = takes_slot setting
    (record m { pool = after_take m.pool client }) client did doing (take_answer m.pool client)

-- FRAMES ------------------------------------------------------------------------------------------

-- Where the connection has ended and the request goes on, it is lost at once.
abbrev pub lost_at_once : Setting → Machine → ℕ → Option ℕ → Option Doing → Machine
lost_at_once setting m client ended None = m
lost_at_once setting m client ended (Some doing) = loses setting m client doing ended

abbrev pub unless_open : Setting → Machine → ℕ → Link → Machine
unless_open setting m client link = if link.is_open then m else
    lost_at_once setting m client link.ended (doing_at m.clients client)

-- the first reply is taken, and the note says how many frames are sent
abbrev pub takes_reply : Setting → Machine → ℕ → GoNote → Doing → ℕ → Link → Reply → List Reply
    → Option Machine
takes_reply setting m client did doing number link reply left =
    let input : Input = Took reply.frame link.is_open in
    let taking : Machine = record m {
      links =
          with_link m.links number (takes input reply left link);
    } in
    noted did (go.Took number (length (frames_of m.pool number (act_at setting m doing input))))
    (unless_open setting (steps setting taking client doing true input) client link)

-- without a whole frame
abbrev pub finds_none : Setting → Machine → ℕ → GoNote → Doing → ℕ → Link → Option Machine
finds_none setting m client did doing number link =
    if link.is_open then noted did go.NoFrame m else
    noted did (go.Lost number) (loses setting m client doing link.ended)

abbrev pub looks : Setting → Machine → ℕ → GoNote → Doing → ℕ → Link → List Reply → Option Machine
looks setting m client did doing number link [] = finds_none setting m client did doing number link
looks setting m client did doing number link (reply ∷ left) =
    takes_reply setting m client did doing number link reply left

abbrev pub looks_at : Setting → Machine → ℕ → GoNote → Doing → ℕ → Option Machine
looks_at setting m client did doing number =
    option_and_then (λ link. looks setting m client did doing number link link.down)
    (link_at m.links number)

-- STEPS -------------------------------------------------------------------------------------------

-- by what the request wants
abbrev pub goes_by : Setting → Machine → ℕ → GoNote → Doing → Wants → Option Machine
goes_by setting m client did doing wants.Slot = asks_pool setting m client did doing
goes_by setting m client did doing wants.Try = tries setting m client did doing
goes_by setting m client did doing wants.Early = noted did go.Early m
goes_by setting m client did doing wants.Frame =
    option_and_then (looks_at setting m client did doing) doing.connection
goes_by setting m client did doing _ = None

-- without a request the client is finished
abbrev pub goes : Setting → Machine → ℕ → GoNote → Option Doing → Option Machine
goes setting m client did None = noted did go.Idle m
goes setting m client did (Some doing) =
    goes_by setting m client did doing (wants_of setting.terms doing.talk m.tick)

abbrev pub follow_go : Setting → Machine → ℕ → GoNote → Option Machine
follow_go setting m number did = option_and_then
    (λ client. goes setting m number did (doing_of setting.terms m.event m.tick client))
    (client_at m.clients number)
