use Rattle.svc_values.proofs.SettingsOrder.{put_setting-last}
use Rattle.svc_values.proofs.settings.Settings.put_last.Goals as goal

pub returns-clause-ok : goal.returns-clause-ok
returns-clause-ok c = rw (← put_setting-last c.args.self.now c.args.name c.args.value c.requires) c.put.ensures.ok
