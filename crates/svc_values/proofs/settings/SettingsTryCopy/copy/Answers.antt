use Rattle.svc_values.proofs.SettingsOrder.{AllBelow-inside}
use Rattle.svc_values.proofs.settings.SettingsTryCopy.copy.Goals as goal

pub put_last-requires : goal.put_last-requires
put_last-requires c =
    rw c.copied.ensures
    (AllBelow-inside c.loop-name.copied c.next.new.self c.in-Some.name.now c.in-Some.value.now
    (rw (← c.in-Some.ensures.steps, c.loop-name.invariant.0) c.loop-name.invariant.1))
