use Rattle.std.proofs.Common.{◌≡◌, take, drop, map}
use Rattle.std.specs.Prelude.{IsTrue}
use Rattle.std.specs.List.{list_all}
use Rattle.commit_log.specs.meaning.Bases.{is_sequence}
use Rattle.service_core.specs.InnerOpening.{ends_low, state_of}
use Rattle.service_core.proofs.opening.sequences_of.Given as goal

abbrev pub invariant-loop-sequence : goal.invariant-loop-sequence
invariant-loop-sequence l = record {
  so_far : l.made.items ≡ map (state_of l.journal) (take l.sequence-index l.sequences);
  begin : IsTrue (list_all is_sequence (drop l.sequence-index l.sequences));
  end : IsTrue (list_all (ends_low l.journal) (drop l.sequence-index l.sequences));
}
