use Rattle.std.proofs.Common.{List, sym, subst}
use Rattle.std.specs.Prelude.{IsTrue}
use Rattle.std.specs.List.{list_all}
use Rattle.commit_log.specs.declared.base.BaseSequence.{BaseSequence}
use Rattle.commit_log.specs.meaning.Bases.{is_sequence}
use Rattle.journal_tables.proofs.Offered.{sequences_begin}
use Rattle.legal_check.proofs.sequences.sequences_of.Goals as goal

pub sequences_in-requires : goal.sequences_in-requires
sequences_in-requires c =
    subst (λ (sequences : List BaseSequence). IsTrue (list_all is_sequence sequences)) (sym c.as_slice.ensures.items) (sequences_begin c.args.journal.now.base c.requires)
