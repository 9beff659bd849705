use Rattle.std.proofs.Common.{◌≡◌, ◌++◌, map, drop}
use Rattle.std.specs.Prelude.{◌&&◌}
use Rattle.std.specs.List.{flat_map, list_all}
use Rattle.run_clauses.specs.meaning.Copies.{are_in_script_order, copies_by_client}
use Rattle.shown_clauses.specs.meaning.Submissions.{submissions_of}
use Rattle.whole_check.specs.Views.{submissions_as}
use Rattle.whole_check.proofs.script.submissions_by_client.Given as goal

abbrev pub invariant-loop-at : goal.invariant-loop-at
invariant-loop-at l = record {
  all : map submissions_as l.all.items ++ map (flat_map submissions_of) (copies_by_client (drop l.at l.clients) (drop l.at l.transcripts)) ≡ map (flat_map submissions_of) (copies_by_client l.clients l.transcripts);
  order : (list_all (λ one. one.is_in_order) l.all.items && are_in_script_order (drop l.at l.clients) (drop l.at l.transcripts)) ≡ are_in_script_order l.clients l.transcripts;
}
