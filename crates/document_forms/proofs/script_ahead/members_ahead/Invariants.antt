use Rattle.std.proofs.Common.{◌≡◌, ℕ, ◌≤◌, length, Ok}
use Rattle.json.specs.Json.{members, value}
use Rattle.serde_json.specs.Data.{Members}
use Rattle.serde_json.specs.Read.{of_members, converted}
use Rattle.json_form.specs.meaning.Objects.{named, known}
use Rattle.json_form.specs.Streams.{members_ahead}
use Rattle.document_forms.specs.RequestsAhead.{request_members, IsRequestRead}
use Rattle.document_forms.proofs.script_ahead.members_ahead.Given as goal

abbrev pub invariant-members : goal.invariant-members
invariant-members l = record {
  turns : ℕ;
  enough : length l.tokens ≤ turns;
  passed : Members;
  so_far : members_ahead l.depth l.initial.tokens ≡ converted (λ ms. of_members ms passed) (members (value l.depth) turns l.tokens);
  all_known : known request_members passed ≡ Ok tt;
  is_read : IsRequestRead l.ahead (named passed);
  shorter : length l.tokens ≤ length l.initial.tokens;
}

abbrev pub decreases-members : goal.decreases-members
decreases-members l = length l.tokens
