use Rattle.std.proofs.Common.{◌≡◌, ◌≤◌, ℕ, length, Ok}
use Rattle.json.specs.Json.{value, members}
use Rattle.serde_json.specs.Data.{Members}
use Rattle.serde_json.specs.Read.{of_members, converted}
use Rattle.json_form.specs.meaning.Objects.{named, known}
use Rattle.json_form.specs.Streams.{members_ahead}
use Rattle.report_reader.specs.meaning.Reports.{report_members}
use Rattle.report_reader.specs.Ahead.{AreRead}
use Rattle.report_reader.proofs.streamed.members_ahead.Given as goal

abbrev pub invariant-members : goal.invariant-members
invariant-members l = record {
  turns : ℕ;
  enough : length l.tokens ≤ turns;
  passed : Members;
  so_far : members_ahead l.depth l.initial.tokens ≡ converted (λ ms. of_members ms passed) (members (value l.depth) turns l.tokens);
  all_known : known (report_members l.print) passed ≡ Ok tt;
  are_read : AreRead l.print l.ahead (named passed);
  shorter : length l.tokens ≤ length l.initial.tokens;
}

abbrev pub decreases-members : goal.decreases-members
decreases-members l = length l.tokens
