use Rattle.run_laws.proofs.EntriesCounted.{runs_count_entries, finishes_count_entries}
use Rattle.run_laws.proofs.stored_laws.entries_are_counted.Goals as goal

pub returns : goal.returns
returns c = record {
  reached = runs_count_entries c.keeps_journal.ensures.keeps c.runs_number.ensures.numbers c.runs_are_orderly.ensures;
  finishing = finishes_count_entries c.keeps_journal.ensures.keeps c.runs_number.ensures.numbers c.runs_are_orderly.ensures;
}
