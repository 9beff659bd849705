use Rattle.std.proofs.Common.{◌≡◌, take, drop}
use Rattle.svc_values.specs.declared.entry.Ltxid.{Ltxid}
use Rattle.run_clauses.specs.meaning.Tried.{holds, ids_differ}
use Rattle.entry_check.specs.Ids.{ids_in}
use Rattle.entry_check.proofs.Sets.{differ_from}
use Rattle.entry_check.proofs.found.set_of.Given as goal

abbrev pub invariant-loop-one : goal.invariant-loop-one
invariant-loop-one l = record {
  rest : differ_from (holds l.ids) (ids_in (drop l.one-index l.all)) ≡ ids_differ (ids_in l.all);
  met : (x : Ltxid) → holds l.ids x ≡ holds (ids_in (take l.one-index l.all)) x;
}
