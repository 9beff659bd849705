use Rattle.std.proofs.Common.{◌≡◌, fold, []}
use Rattle.svc_values.specs.meaning.SettingsList.{put_setting}
use Rattle.document_forms.proofs.script.by_name.Given as goal

abbrev pub invariant-loop-name : goal.invariant-loop-name
invariant-loop-name l =
    fold (λ settings pair. put_setting settings pair.0 pair.1) l.settings l.name-iterator.rest.items ≡ fold (λ settings pair. put_setting settings pair.0 pair.1) [] l.fn.pairs.items
