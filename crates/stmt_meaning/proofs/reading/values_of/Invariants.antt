use Rattle.std.proofs.Common.{◌≡◌, ◌≤◌, ◌-◌, vec_len}
use Rattle.svc_values.specs.meaning.Calls.{operands_of}
use Rattle.stmt_meaning.proofs.Values.{SoFar}
use Rattle.stmt_meaning.proofs.reading.values_of.Given as goal

abbrev pub invariant-loop-operand : goal.invariant-loop-operand
invariant-loop-operand g l = record {
  so_far : SoFar g.F.DrawFrom.drew (g.F.DrawFrom.names l.fn.source) l.settings (operands_of l.statement) l.fn.source l.fn.drawn.items l.values.items l.source l.drawn.items;
  few : vec_len l.values ≤ 8;
  names : g.F.DrawFrom.names l.source ≡ g.F.DrawFrom.names l.fn.source;
  ready : g.F.DrawFrom.is_ready l.source;
}

abbrev pub decreases-loop-operand : goal.decreases-loop-operand
decreases-loop-operand g l = 8 - vec_len l.values
