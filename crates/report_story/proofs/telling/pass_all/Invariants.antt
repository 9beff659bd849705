use Rattle.std.proofs.Common.{◌≡◌, ◌+◌, drop, fold}
use Rattle.report_story.specs.Passing.{begun_with, pass}
use Rattle.report_story.proofs.telling.pass_all.Given as goal

abbrev pub invariant-loop-note : goal.invariant-loop-note
invariant-loop-note l = record {
  rest : fold pass l.passing (drop l.note-index l.notes) ≡ fold pass (begun_with l.items) l.notes;
  event : l.passing.event ≡ l.note-index + 1;
}
