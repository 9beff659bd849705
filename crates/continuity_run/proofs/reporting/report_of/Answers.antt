use Rattle.std.proofs.Common.{◌∙◌, sym, ap, rules}
use Rattle.commit_log.specs.meaning.Journals.{journal_of}
use Rattle.continuity_run.proofs.ReadOff.{tables_printed}
use Rattle.continuity_run.proofs.reporting.report_of.Goals as goal

pub returns : goal.returns
returns g c =
    let read = c.in_ok-recorded.ensures in
    record {
      journal = read.journal;
      reads = ap journal_of (sym c.in_ok-image.ensures.unwritten) ∙ read.reads;
      entries = search rules;
      blocked = search rules;
      alerts = search rules;
      forgotten = search rules;
      tables = tables_printed read.journal c.in_ok-recorded.field-0.tables c.in_ok-report_tables.field-0 read.schemas read.rows c.in_ok-report_tables.ensures;
      image = c.in_ok-image.ensures.image;
      notes = search rules;
      served = search rules;
      clients = search rules;
    }
