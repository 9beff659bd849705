use Rattle.std.proofs.Common.{◌≡◌, ◌++◌, reverse, vec_len}
use Rattle.std.specs.Prelude.{flat_map}
use Rattle.shown_clauses.specs.meaning.Links.{turn_of}
use Rattle.report_story.proofs.seen.Seen.into_turns.Given as goal

abbrev pub invariant-loop-line : goal.invariant-loop-line
invariant-loop-line l = flat_map turn_of l.lines.items ++ reverse l.turns.items ≡ flat_map turn_of l.initial.lines.items ++ reverse l.initial.turns.items

abbrev pub decreases-loop-line : goal.decreases-loop-line
decreases-loop-line l = vec_len l.lines
