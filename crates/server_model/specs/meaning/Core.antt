-- What the sessions of a service share: its store and its source of values.
use Rattle.std.specs.Prelude.{pos, ◌+ℤ◌}
use Rattle.mutable_values.specs.declared.source.SeqState.{SeqState}
use Rattle.server_model.specs.meaning.Base.{Sequence}

abbrev pub sequence_at : Sequence → SeqState
sequence_at sequence = record {
  name = sequence.name;
  next = sequence.upto +ℤ pos 1;
  upto = sequence.upto;
  keep = sequence.keep;
}
