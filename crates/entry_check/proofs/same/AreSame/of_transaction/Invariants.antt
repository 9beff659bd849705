use Rattle.std.proofs.Common.{◌≡◌, [], ◌∷◌, drop}
use Rattle.std.specs.List.{list_all}
use Rattle.run_clauses.specs.meaning.Once.{entries_in}
use Rattle.run_clauses.specs.meaning.Same.{is_same}
use Rattle.entry_check.specs.InnerGranting.{keeps}
use Rattle.entry_check.proofs.same.AreSame.of_transaction.Given as goal

abbrev pub invariant-loop-ltxid : goal.invariant-loop-ltxid
invariant-loop-ltxid l =
    let tests = is_same (keeps l.self.granting.kinds l.self.granting.sequences.now) l.known.settings.now l.known.calls.now l.known.shown.now in
    list_all (λ x. list_all tests (entries_in l.self.stored (x ∷ []))) (drop l.ltxid-index l.ids) ≡ list_all tests (entries_in l.self.stored l.ids)
