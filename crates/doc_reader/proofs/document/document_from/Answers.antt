use Rattle.std.proofs.Common.{sym, subst, Result}
use Rattle.std.specs.Prelude.{option_map}
use Rattle.serde_json.specs.View.{view}
use Rattle.json_form.specs.meaning.Faults.{Fault}
use Rattle.json_form.specs.Faults.{Gives}
use Rattle.json_form.specs.Objects.{members_at}
use Rattle.outage_schedule.specs.declared.document.Document.{Document}
use Rattle.doc_reader.proofs.Parts.{rest_given}
use Rattle.doc_reader.proofs.ReadDocuments.{of_value}
use Rattle.doc_reader.proofs.document.document_from.Goals as goal

pub returns-clause-read : goal.returns-clause-read
returns-clause-read c =
    subst (λ (read : Result Document Fault). Gives c.rest_from.result read)
    (sym (rest_given (view c.args.value) (members_at c.in_ok-members.members) (members_at c.required.new.self) (members_at c.begin_from.new.members) (view c.in_ok-clients.clients) c.in_ok-begin.begin (option_map view c.take-schedule.result)
    c.in_ok-members.ensures c.in_ok-clients.ensures.read c.in_ok-clients.ensures.left c.in_ok-begin.ensures.read c.in_ok-begin.ensures.left c.take-schedule.ensures.taken))
    c.rest_from.ensures

pub returns-clause-document : goal.returns-clause-document
returns-clause-document c = of_value (view c.args.value) c.rest_from.result (returns-clause-read c)
