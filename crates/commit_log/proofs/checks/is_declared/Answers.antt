use Rattle.std.proofs.Common.{◌≡◌, true, length, arith}
use Rattle.std.specs.Prelude.{nat_le}
use Rattle.std.proofs.lemmas.Bool.Decides.{nat_tests}
use Rattle.commit_log.proofs.Differing.{columns_differ}
use Rattle.commit_log.proofs.checks.is_declared.Goals as goal

pub returns-then-not-is_empty : goal.returns-then-not-is_empty
returns-then-not-is_empty c =
    let columns = c.args.schema.now.columns in
    let some : nat_le 1 (length columns) ≡ true = grind (arith, nat_tests) in
    let differ = columns_differ columns in
    rw (some, differ, ← c.as_slice.ensures.items) c.are_distinct.ensures
