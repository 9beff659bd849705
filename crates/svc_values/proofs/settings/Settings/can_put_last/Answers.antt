use Rattle.std.proofs.Common.{◌≡◌, ◌∙◌, ap, sym, subst}
use Rattle.std.specs.Prelude.{Some}
use Rattle.svc_values.specs.meaning.SettingsList.{rises, last_name}
use Rattle.svc_values.specs.SettingsList.{AreSettings}
use Rattle.svc_values.proofs.SettingsOrder.{last_name-at_end, AllBelow-from_last, rises-from_AllBelow}
use Rattle.svc_values.proofs.settings.Settings.can_put_last.Goals as goal

pub returns-in-Some-clause-last : goal.returns-in-Some-clause-last
returns-in-Some-clause-last c =
    let e : last_name c.args.self.now ≡ Some c.in-Some.last.now = ap last_name (sym c.self.view_is) ∙ last_name-at_end c.self.inside.map.entries c.in-Some.last.now c.in-Some.field-0-1.now c.in-Some.ensures.last in
    c.lt.ensures ∙ sym (ap (λ o. rises o c.args.name.now) e)

pub returns-in-Some-clause-all : goal.returns-in-Some-clause-all
returns-in-Some-clause-all c =
    let rising : AreSettings c.args.self.now = subst AreSettings c.self.view_is c.self.invariant in
    let last = returns-in-Some-clause-last c in
    (λ above. AllBelow-from_last c.args.self.now c.args.name.now rising (sym last ∙ above), λ below. last ∙ rises-from_AllBelow c.args.self.now c.args.name.now below)
