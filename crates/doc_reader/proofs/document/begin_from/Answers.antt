use Rattle.std.proofs.lemmas.Result.{err_from_is_err_and}
use Rattle.std.proofs.Common.{◌≡◌, codes, subst}
use Rattle.json_form.specs.meaning.Objects.{optional}
use Rattle.json_form.specs.Objects.{members_at}
use Rattle.json_form.proofs.Offered.{given}
use Rattle.outage_schedule.specs.declared.document.ServiceOf.{ServiceOf}
use Rattle.document_forms.specs.meaning.Service.{service_of}
use Rattle.doc_reader.proofs.Parts.{begin_given, begin_fails, begin_left}
use Rattle.doc_reader.proofs.document.begin_from.Goals as goal

pub returns-in_err-print_image-clause-read : goal.returns-in_err-print_image-clause-read
returns-in_err-print_image-clause-read c =
    let read = subst (λ (usual : ServiceOf). optional (codes "service") usual service_of (members_at c.args.members.now) ≡ given c.in_ok-service.service) c.usual_service.ensures c.in_ok-service.ensures.read in
    let p = err_from_is_err_and c.from_residual-in_err-print_image.result c.from_residual-in_err-print_image.ensures.1 in
    rw (p.1, p.2) (begin_fails (members_at c.args.members.now) (members_at c.optional.new.self) (members_at c.store_from.new.members) c.in_ok-service.service c.in_ok-store.store c.in_err-print_image.field-0.0
    c.in_ok-service.ensures.left c.in_ok-store.ensures.left read c.in_ok-store.ensures.read c.in_err-print_image.ensures.read)

pub returns-clause-read : goal.returns-clause-read
returns-clause-read c =
    let read = subst (λ (usual : ServiceOf). optional (codes "service") usual service_of (members_at c.args.members.now) ≡ given c.in_ok-service.service) c.usual_service.ensures c.in_ok-service.ensures.read in
    begin_given (members_at c.args.members.now) (members_at c.optional.new.self) (members_at c.store_from.new.members) c.in_ok-service.service c.in_ok-store.store c.in_ok-print_image.print_image
    c.in_ok-service.ensures.left c.in_ok-store.ensures.left read c.in_ok-store.ensures.read c.in_ok-print_image.ensures.read

pub returns-clause-left : goal.returns-clause-left
returns-clause-left c =
    begin_left (members_at c.args.members.now) (members_at c.optional.new.self) (members_at c.store_from.new.members) (members_at c.optional-2.new.self) c.in_ok-service.ensures.left c.in_ok-store.ensures.left c.in_ok-print_image.ensures.left
