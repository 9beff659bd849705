-- What is read off a connection, and off the steps of a request.
use Rattle.std.specs.Prelude.{ℕ, ◌+◌, ◌==◌, ◌||◌, Bool, true, false, not, cond, List, [], ◌∷◌, length, filter, fold, count_by, Option, Some, None, is_some}
use Rattle.std.specs.List.{list_any, last_or}
use Rattle.std.specs.Option.{option_or, option_map_or}
use Rattle.svc_values.specs.declared.answer.Answer.{Answer}
use Rattle.svc_values.specs.declared.call.Call.{Call}
use Rattle.svc_values.specs.declared.entry.Ltxid.{Ltxid}
use Rattle.svc_values.specs.declared.entry.Entry.{Entry}
use Rattle.svc_values.specs.declared.frame.Up.{Up}
use Rattle.svc_values.specs.declared.frame.Up.TheVariants as up
use Rattle.svc_values.specs.declared.frame.Down.TheVariants as down
use Rattle.svc_values.specs.meaning.Calls.{has_commit}
use Rattle.svc_values.specs.meaning.Identifiers.{same_ltxid}
use Rattle.client_model.specs.declared.input.Input.{Input}
use Rattle.client_model.specs.declared.input.Input.TheVariants.{Took}
use Rattle.client_model.specs.declared.act.Shown.{Shown}
use Rattle.run_clauses.specs.meaning.EntryEvents.{entries_of}
use Rattle.world_model.specs.meaning.Frames.{Owner, Sent, Handled}
use Rattle.world_model.specs.meaning.Links.{Link, is_close, told_by}
use Rattle.world_model.specs.meaning.Clients.{Step}
use Rattle.world_model.specs.Words.{brought}
use Rattle.world_model.specs.Traced.{Traced, Course}

-- CONNECTIONS -------------------------------------------------------------------------------------

-- `rep`: the frame is answered
abbrev pub is_answered : Up → Bool
is_answered up.Connect = true
is_answered (up.Call replay kept call) = true
is_answered (up.Outcome x) = true
is_answered _ = false

abbrev pub is_rep : Sent → Bool
is_rep sent = is_answered sent.frame

abbrev pub is_commit_frame : Up → Bool
is_commit_frame (up.Call false kept call) = has_commit call
is_commit_frame _ = false

-- an unmarked call with a commit
abbrev pub is_commit_call : Sent → Bool
is_commit_call sent = is_commit_frame sent.frame

abbrev pub is_unmarked_frame : Up → Bool
is_unmarked_frame (up.Call false kept call) = true
is_unmarked_frame _ = false

abbrev pub is_unmarked : Sent → Bool
is_unmarked sent = is_unmarked_frame sent.frame

-- a frame is out: it is answered, and its reply was not taken
abbrev pub count_reps : List Sent → ℕ
count_reps sent = count_by is_rep sent

abbrev pub is_out : Link → Bool
is_out link = count_reps link.sent == length link.taken + 1

-- the answered frame that was sent last
abbrev pub out_frame : Link → Option Sent
out_frame link = last_or None (filter is_rep link.sent)

-- the answered frames that were served
abbrev pub served_reps : Link → List Handled
served_reps link = filter (λ one. is_rep one.sent) link.served

-- Close was sent on it
abbrev pub is_closed : Link → Bool
is_closed link = list_any (λ sent. is_close sent.frame) link.sent

-- n(k): the number of J's entries of the session; and h(k)
abbrev pub number_of : List Entry → Link → ℕ
number_of entries link = option_map_or (entries_of entries) link.session 0

abbrev pub held_number : Link → ℕ
held_number link = option_map_or (λ x. x.number) link.held 0

abbrev pub has_entry : List Entry → Ltxid → Bool
has_entry entries x = list_any (λ entry. same_ltxid x entry.ltxid) entries

abbrev pub implies : Bool → Bool → Bool
implies a b = not a || b

-- connections, each with its number
pub record Numbered : Type 0 where
  pub number : ℕ
  pub link : Link

abbrev pub numbered_from : ℕ → List Link → List Numbered
numbered_from number [] = []
numbered_from number (link ∷ links) = record {
  number = number;
  link = link;
} ∷ numbered_from (number + 1) links

abbrev pub links_of : Traced → List Numbered
links_of t = numbered_from 1 t.machine.links

-- STEPS -------------------------------------------------------------------------------------------

-- A call that was sent without the mark: on which connection, under which identifier, the place of
-- the call in its request, and the answers that were taken.
pub record Sending : Type 0 where
  pub owner : Owner
  pub connection : ℕ
  pub ltxid : Ltxid
  pub at : ℕ
  pub call : Call
  pub taken : Option (List Answer)

-- what the steps so far tell: the connection, the identifier held on it, the calls shown, and the
-- sendings, the last one first
pub record Scan : Type 0 where
  pub owner : Owner
  pub connection : ℕ
  pub held : Option Ltxid
  pub shown : ℕ
  pub sendings : List Sending

abbrev pub with_taken : List Answer → List Sending → List Sending
with_taken answers [] = []
with_taken answers (sending ∷ earlier) = record sending { taken = Some answers } ∷ earlier

abbrev pub answered : Input → Option Shown → List Sending → List Sending
answered (Took (down.Reply answers draws x) alive) (Some shown) sendings =
    with_taken answers sendings
answered _ _ sendings = sendings

abbrev pub sent_on : Scan → List Sending → Up → List Sending
sent_on scan sendings (up.Call false kept call) = option_map_or (λ x. record {
  owner = scan.owner;
  connection = scan.connection;
  ltxid = x;
  at = scan.shown;
  call = call;
  taken = None;
} ∷ sendings) scan.held sendings
sent_on scan sendings _ = sendings

abbrev pub scanned : Scan → Step → Scan
scanned scan step =
    let now : Scan = record {
      owner = scan.owner;
      connection = option_map_or (λ number. number) (brought step.done.input) scan.connection;
      held = option_or (told_by step.done.input) scan.held;
      shown = scan.shown + cond (is_some step.done.act.shown) 1 0;
      sendings = answered step.done.input step.done.act.shown scan.sendings;
    } in
    record now { sendings = fold (sent_on now) now.sendings step.done.act.send }

abbrev pub scan_of : Course → Scan
scan_of course = fold scanned (record {
  owner = course.owner;
  connection = 0;
  held = None;
  shown = 0;
  sendings = [];
}) course.steps

-- the last one first
abbrev pub sendings_of : Course → List Sending
sendings_of course = (scan_of course).sendings

-- those that have a commit
abbrev pub commit_sendings : Course → List Sending
commit_sendings course = filter (λ sending. has_commit sending.call) (sendings_of course)
