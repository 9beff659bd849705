use Rattle.std.proofs.Common.{◌≡◌, drop}
use Rattle.svc_values.specs.meaning.SettingsList.{with_sets}
use Rattle.entry_check.proofs.same.put_sets.Given as goal

abbrev pub invariant-loop-call : goal.invariant-loop-call
invariant-loop-call l = with_sets l.settings (drop l.call-index l.calls) ≡ with_sets l.fn.settings l.calls
