use Rattle.std.proofs.Common.{◌≡◌, [], take, drop, map}
use Rattle.std.specs.Prelude.{IsTrue}
use Rattle.std.specs.List.{list_all}
use Rattle.commit_log.specs.meaning.Bases.{is_sequence}
use Rattle.commit_log.specs.meaning.Rules.{end_of}
use Rattle.commit_log.proofs.ends.first_ends.Given as goal

abbrev pub invariant-loop-sequence : goal.invariant-loop-sequence
invariant-loop-sequence l = record {
  ends : l.ends.items ≡ map (end_of []) (take l.sequence-index l.sequences);
  rest : IsTrue (list_all is_sequence (drop l.sequence-index l.sequences));
}
