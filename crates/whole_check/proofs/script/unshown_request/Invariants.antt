use Rattle.std.proofs.Common.{◌≡◌, map, drop}
use Rattle.std.specs.List.{list_all}
use Rattle.whole_check.specs.Judging.{shows_own}
use Rattle.whole_check.specs.Views.{submissions_as}
use Rattle.whole_check.proofs.script.unshown_request.Given as goal

abbrev pub invariant-loop-client : goal.invariant-loop-client
invariant-loop-client l = list_all (list_all shows_own) (map submissions_as (drop l.client l.all)) ≡ list_all (list_all shows_own) (map submissions_as l.all)
