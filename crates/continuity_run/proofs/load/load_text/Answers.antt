use Rattle.std.proofs.Common.{subst, sym}
use Rattle.std.proofs.lemmas.Result.{IfOk-weaker}
use Rattle.outage_schedule.specs.declared.document.Document.{Document}
use Rattle.doc_reader.specs.Keeping.{IsDocument}
use Rattle.continuity_run.proofs.Loading.{load_told}
use Rattle.continuity_run.specs.meaning.Load.{IsLined}
use Rattle.continuity_run.proofs.load.load_text.Goals as goal

pub line_text-requires : goal.line_text-requires
line_text-requires c = record { document = subst IsDocument (sym c.in_ok-document.ensures.made) c.in_ok-document.ensures.kept }

pub returns : goal.returns
returns c =
    IfOk-weaker c.line_text.result _ _
    (λ text told.
    load_told c.loads_keep_total.ensures c.args.seed c.args.clients c.args.requests text.items
    (subst (λ (document : Document). IsLined document text.items) c.in_ok-document.ensures.made told))
    c.line_text.ensures
