use Rattle.std.proofs.Common.{◌≡◌, ℕ, ◌≤◌, length, Ok}
use Rattle.std.specs.Str.{bytes_eq}
use Rattle.json.specs.Json.{members, value}
use Rattle.serde_json.specs.Data.{Members}
use Rattle.serde_json.specs.Read.{of_members, converted}
use Rattle.json_form.specs.meaning.Arrays.{is_key}
use Rattle.json_form.specs.meaning.Objects.{named, known}
use Rattle.json_form.specs.Streams.{members_ahead}
use Rattle.document_forms.specs.meaning.Tables.{table_members}
use Rattle.document_forms.specs.TablesAhead.{IsTableRead}
use Rattle.document_forms.proofs.table_ahead.members_ahead.Given as goal

abbrev pub invariant-members : goal.invariant-members
invariant-members l = record {
  turns : ℕ;
  enough : length l.tokens ≤ turns;
  passed : Members;
  so_far : members_ahead l.depth l.initial.tokens ≡ converted (λ ms. of_members ms passed) (members (value l.depth) turns l.tokens);
  all_known : known table_members passed ≡ Ok tt;
  is_read : IsTableRead (is_key bytes_eq l.taken) l.ahead (named passed);
  shorter : length l.tokens ≤ length l.initial.tokens;
}

abbrev pub decreases-members : goal.decreases-members
decreases-members l = length l.tokens
