-- What is counted over a whole document: calls, and different names of settings.
use Rattle.std.specs.Prelude.{ℕ, ◌&&◌, List, [], ◌∷◌, ◌++◌, map, length, nat_le, Bool, Result, Ok, Err, if◌then◌else◌}
use Rattle.std.specs.List.{flat_map}
use Rattle.json_form.specs.declared.fault.DocCode.TheVariants.{Limit}
use Rattle.json_form.specs.meaning.Faults.{Fault, here}
use Rattle.svc_values.specs.declared.call.Call.{Call}
use Rattle.svc_values.specs.declared.call.Call.TheVariants as call
use Rattle.svc_values.specs.declared.statement.Operand.{Operand}
use Rattle.svc_values.specs.declared.statement.Operand.TheVariants as operand
use Rattle.svc_values.specs.declared.statement.Statement.{Statement}
use Rattle.svc_values.specs.meaning.Calls.{operands_of}
use Rattle.svc_values.specs.meaning.Names.{is_name_of}
use Rattle.outage_schedule.specs.declared.document.Request.{Request}
use Rattle.outage_schedule.specs.declared.document.Client.{Client}
use Rattle.outage_schedule.specs.declared.document.Document.{Document}
use Rattle.outage_schedule.specs.declared.event.Event.{Event}
use Rattle.outage_schedule.specs.declared.event.Event.TheVariants as event

-- the calls of a request, of a client's requests and of an event
abbrev pub calls_in_request : Request → List Call
calls_in_request request = request.calls

abbrev pub calls_in_client : Client → List Call
calls_in_client client = flat_map calls_in_request client.requests

abbrev pub calls_in_event : Event → List Call
calls_in_event (event.Outside calls) = calls
calls_in_event _ = []

-- all calls of a document
abbrev pub calls_in : Document → List Call
calls_in document = flat_map calls_in_client document.clients
    ++ flat_map calls_in_event document.schedule

-- the names of settings that stand in an operand, in a statement and in a call
abbrev pub names_in_operand : Operand → List (List ℕ)
names_in_operand (operand.Var name) = name ∷ []
names_in_operand _ = []

unfoldable pub names_in_statement : Statement → List (List ℕ)
names_in_statement statement = flat_map names_in_operand (operands_of statement)

abbrev pub names_in_call : Call → List (List ℕ)
names_in_call (call.Work statements commit) = flat_map names_in_statement statements
names_in_call (call.Set name x) = name ∷ []
names_in_call _ = []

abbrev pub names_in_request : Request → List (List ℕ)
names_in_request request = map (λ pair. pair.0) request.settings
    ++ flat_map names_in_call request.calls

abbrev pub names_in_client : Client → List (List ℕ)
names_in_client client = flat_map names_in_request client.requests

abbrev pub names_in_event : Event → List (List ℕ)
names_in_event one = flat_map names_in_call (calls_in_event one)

-- all names of settings that stand in a document
abbrev pub names_in : Document → List (List ℕ)
names_in document = flat_map names_in_client document.clients
    ++ flat_map names_in_event document.schedule

-- these names, and each of the others once that is not among those before it
abbrev pub with_others : List (List ℕ) → List (List ℕ) → List (List ℕ)
with_others before [] = before
with_others before (name ∷ names) = with_others (if is_name_of before name then before else before
    ++ name ∷ []) names

-- each name once
abbrev pub different : List (List ℕ) → List (List ℕ)
different names = with_others [] names

abbrev pub has_few_calls : Document → Bool
has_few_calls document = nat_le (length (calls_in document)) 2048

abbrev pub has_few_names : Document → Bool
has_few_names document = nat_le (length (different (names_in document))) 16

-- at most 2,048 calls, and at most 16 different names of settings
abbrev pub is_small : Document → Bool
is_small document = has_few_calls document && has_few_names document

abbrev pub if_small : Document → Result Document Fault
if_small document = if is_small document then Ok document else Err (here Limit)
