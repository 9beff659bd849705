use Rattle.std.proofs.Common.{sym, subst, List}
use Rattle.std.specs.Prelude.{IsTrue}
use Rattle.std.specs.List.{list_all}
use Rattle.mutable_values.specs.declared.source.SeqState.{SeqState}
use Rattle.mutable_values.specs.Sources.{are_sequences}
use Rattle.commit_log.specs.declared.base.BaseSequence.{BaseSequence}
use Rattle.commit_log.specs.meaning.Bases.{is_sequence}
use Rattle.journal_tables.proofs.Offered.{sequences_begin}
use Rattle.service_core.proofs.GoingOn.{source_is, made_is}
use Rattle.service_core.proofs.opening.source_of.Goals as goal

pub sequences_of-requires-clause-begin : goal.sequences_of-requires-clause-begin
sequences_of-requires-clause-begin c =
    subst (λ (l : List BaseSequence). IsTrue (list_all is_sequence l)) (sym c.as_slice.ensures.items) (sequences_begin c.args.journal.now.base c.requires.base)

pub new-requires : goal.new-requires
new-requires c =
    subst (λ (l : List SeqState). IsTrue (are_sequences l)) (sym (made_is c.args.journal.now c.as_slice.result.now c.in_ok-sequences.sequences.items c.in_ok-sequences.ensures c.as_slice.ensures.items)) (source_is c.args.journal.now c.requires.base)
