use Rattle.std.proofs.Common.{◌≡◌, ◌||◌, drop}
use Rattle.std.specs.List.{list_all}
use Rattle.run_clauses.specs.meaning.Sessions.{is_foreign}
use Rattle.run_clauses.specs.meaning.Tried.{holds}
use Rattle.entry_check.specs.Ids.{ids_in}
use Rattle.entry_check.proofs.once.first_untried.Given as goal

abbrev pub invariant-loop-one : goal.invariant-loop-one
invariant-loop-one l =
    list_all (λ x. is_foreign l.outside x || holds l.tried x) (ids_in (drop l.one-index l.all)) ≡ list_all (λ x. is_foreign l.outside x || holds l.tried x) (ids_in l.all)
