use Rattle.std.proofs.Common.{◌≡◌, IsTrue, drop}
use Rattle.std.specs.List.{list_all}
use Rattle.svc_values.specs.meaning.Calls.{is_made}
use Rattle.auto_bounds.specs.Covered.{nothing_covered}
use Rattle.cover_core.specs.Coverings.{covered}
use Rattle.cover_core.proofs.counts.protected_by.Given as goal

-- what is covered so far, and then over what is left, is what is covered over all
abbrev pub invariant-loop-place : goal.invariant-loop-place
invariant-loop-place g l =
    let rules = g.R.BoundRule.rules l.fn.rule in
    record {
      rule : l.coverage.rule ≡ l.fn.rule;
      shown : l.coverage.shown ≡ l.place;
      so_far : covered rules l.coverage (drop l.place l.calls) (drop l.place l.shown) ≡ covered rules (nothing_covered l.fn.rule l.limit) l.calls l.shown;
      made : IsTrue (list_all is_made (drop l.place l.calls));
    }
