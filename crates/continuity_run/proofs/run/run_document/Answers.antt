use Rattle.std.proofs.Common.{◌≡◌, ◌∙◌, List, sym, ap, subst, Ok}
use Rattle.disk_model.specs.Disk.{DiskState}
use Rattle.disk_model.specs.Mem.{mem_state}
use Rattle.redo_store.specs.meaning.Records.{records_of}
use Rattle.table_store.specs.declared.shelves.IndexOf.{IndexOf}
use Rattle.commit_log.specs.meaning.Journals.{journal_of}
use Rattle.run_clauses.specs.meaning.Before.{journal_before}
use Rattle.service_core.specs.Indexed.{FitBase}
use Rattle.service_core.specs.Seeing.{SeesIn, bytes_in}
use Rattle.service_core.specs.Within.{Within}
use Rattle.standby_ship.specs.Seeing.{SeesPair, bytes_in as bytes_in_pair}
use Rattle.standby_ship.specs.Twins.{Twin}
use Rattle.world_model.specs.meaning.Settings.{rules_of}
use Rattle.before_run.specs.Indexes.{indexes_of}
use Rattle.continuity_run.specs.Runs.{IsRunOf}
use Rattle.continuity_run.proofs.Beginning.{can_begin, copy_can_begin, run_begins, pair_begins}
use Rattle.continuity_run.proofs.Documents.{are_limits, may_try}
use Rattle.continuity_run.proofs.Ending.{one_ends, pair_ends}
use Rattle.continuity_run.proofs.Headlines.{headline_of}
use Rattle.continuity_run.proofs.Indexing.{indexes_fit}
use Rattle.continuity_run.proofs.run.run_document.Goals as goal

-- TWO STORES --------------------------------------------------------------------------------------

pub known-requires-clause-primary : goal.known-requires-clause-primary
known-requires-clause-primary c = can_begin c.args.document c.requires.document c.in_ok-disk.field-0 c.in_ok-disk.ensures

pub known-requires-clause-second : goal.known-requires-clause-second
known-requires-clause-second c =
    copy_can_begin c.args.document c.requires.document c.in_ok-disk.field-0 c.in_ok-disk.ensures c.in_ok-second.second c.bytes.result.now c.in_ok-second.ensures.state c.bytes.ensures c.in_ok-second.ensures.settled

pub known-requires-clause-same : goal.known-requires-clause-same
known-requires-clause-same c = ap (λ (disk : DiskState). records_of disk.now.seen) c.in_ok-second.ensures.state ∙ ap records_of c.bytes.ensures

pub known-requires-clause-indexes : goal.known-requires-clause-indexes
known-requires-clause-indexes c =
    subst (λ (indexes : List IndexOf). FitBase indexes (mem_state c.in_ok-disk.field-0.disk).now.seen) (sym (c.in_ok-indexes.ensures ∙ ap indexes_of c.as_slice.ensures)) (indexes_fit c.args.document c.requires.document c.in_ok-disk.field-0 c.in_ok-disk.ensures)

pub run_over-requires : goal.run_over-requires
run_over-requires c = record {
  begins = (
    c.args.document,
    pair_begins c.args.document c.requires.document c.in_ok-disk.field-0 c.in_ok-disk.ensures c.as_slice-then-of.result.now c.as_slice-then-of-2.result.now c.grants_of-grants.result c.in_ok-second.second c.bytes.result.now c.in_ok-service.service
        c.if-of.true c.as_slice-then-of.ensures c.as_slice-then-of-2.ensures c.grants_of-grants.ensures c.in_ok-second.ensures.state c.in_ok-service.ensures.made c.in_ok-service.ensures.sound c.in_ok-service.ensures.seen,
  );
}

pub returns-then-of-clause-report : goal.returns-then-of-clause-report
returns-then-of-clause-report c =
    let begun : IsRunOf (SeesPair c.in_ok-service.service) (rules_of c.args.document.service.failover c.args.document.service.consistency) c.args.document.service c.as_slice-then-of.result.now c.as_slice-then-of-2.result.now c.in_ok-disk.field-0.found.is_opened c.args.document =
    pair_begins c.args.document c.requires.document c.in_ok-disk.field-0 c.in_ok-disk.ensures c.as_slice-then-of.result.now c.as_slice-then-of-2.result.now c.grants_of-grants.result c.in_ok-second.second c.bytes.result.now c.in_ok-service.service
    c.if-of.true c.as_slice-then-of.ensures c.as_slice-then-of-2.ensures c.grants_of-grants.ensures c.in_ok-second.ensures.state c.in_ok-service.ensures.made c.in_ok-service.ensures.sound c.in_ok-service.ensures.seen in
    let reads : journal_of (bytes_in_pair c.in_ok-service.service) ≡ Ok (journal_before c.args.document) = ap (λ (pair : Twin). journal_of (bytes_in_pair pair)) c.in_ok-service.ensures.made ∙ c.in_ok-disk.ensures.reads in
    headline_of SeesPair bytes_in_pair pair_ends (bytes_in_pair c.in_ok-service.service) c.args.document c.in_ok-disk.field-0.before c.in_ok-report.report (c.in_ok-report.ensures c.args.document begun) c.in_ok-disk.ensures.counts reads
    c.runs_hold.ensures (are_limits c.args.document c.requires.document).have_calls (may_try c.args.document c.requires.document)

pub known-requires-clause-found : goal.known-requires-clause-found
known-requires-clause-found c = c.in_ok-disk.ensures.found

-- ONE STORE ---------------------------------------------------------------------------------------

pub known-requires-2-clause-begins : goal.known-requires-2-clause-begins
known-requires-2-clause-begins c = can_begin c.args.document c.requires.document c.in_ok-disk.field-0 c.in_ok-disk.ensures

pub known-requires-2-clause-indexes : goal.known-requires-2-clause-indexes
known-requires-2-clause-indexes c =
    subst (λ (indexes : List IndexOf). FitBase indexes (mem_state c.in_ok-disk.field-0.disk).now.seen) (sym (c.in_ok-indexes.ensures ∙ ap indexes_of c.as_slice.ensures)) (indexes_fit c.args.document c.requires.document c.in_ok-disk.field-0 c.in_ok-disk.ensures)

pub run_over-requires-2 : goal.run_over-requires-2
run_over-requires-2 c = record {
  begins = (
    c.args.document,
    run_begins c.args.document c.requires.document c.in_ok-disk.field-0 c.in_ok-disk.ensures c.as_slice-2.result.now c.as_slice-3.result.now c.grants_of-grants.result c.in_ok-service-2.service
        c.if-of.false c.as_slice-2.ensures c.as_slice-3.ensures c.grants_of-grants.ensures c.in_ok-service-2.ensures.made c.in_ok-service-2.ensures.sound c.in_ok-service-2.ensures.seen,
  );
}

pub returns-clause-report : goal.returns-clause-report
returns-clause-report c =
    let begun : IsRunOf (SeesIn c.in_ok-service-2.service) (rules_of c.args.document.service.failover c.args.document.service.consistency) c.args.document.service c.as_slice-2.result.now c.as_slice-3.result.now c.in_ok-disk.field-0.found.is_opened c.args.document =
    run_begins c.args.document c.requires.document c.in_ok-disk.field-0 c.in_ok-disk.ensures c.as_slice-2.result.now c.as_slice-3.result.now c.grants_of-grants.result c.in_ok-service-2.service
    c.if-of.false c.as_slice-2.ensures c.as_slice-3.ensures c.grants_of-grants.ensures c.in_ok-service-2.ensures.made c.in_ok-service-2.ensures.sound c.in_ok-service-2.ensures.seen in
    let reads : journal_of (bytes_in c.in_ok-service-2.service) ≡ Ok (journal_before c.args.document) = ap (λ (service : Within). journal_of (bytes_in service)) c.in_ok-service-2.ensures.made ∙ c.in_ok-disk.ensures.reads in
    headline_of SeesIn bytes_in one_ends (bytes_in c.in_ok-service-2.service) c.args.document c.in_ok-disk.field-0.before c.in_ok-report-2.report (c.in_ok-report-2.ensures c.args.document begun) c.in_ok-disk.ensures.counts reads
    c.runs_hold.ensures (are_limits c.args.document c.requires.document).have_calls (may_try c.args.document c.requires.document)

pub known-requires-2-clause-found : goal.known-requires-2-clause-found
known-requires-2-clause-found c = c.in_ok-disk.ensures.found
