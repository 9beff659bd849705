use Rattle.std.proofs.Common.{◌<◌, ◌^◌, refl, sym, ap, subst, [], length}
use Rattle.std.specs.Prelude.{OnOk}
use Rattle.outage_schedule.specs.declared.event.Event.{Event}
use Rattle.world_core.specs.CutBytes.{CutsFirst}
use Rattle.world_core.proofs.Offered.{is_cut, never_cuts}
use Rattle.world_run.specs.Running.{Leads, Parts}
use Rattle.world_run.proofs.Onward.{few_events, if_made, is_somewhere, may_forget, not_go, standing_in}
use Rattle.service_calls.specs.Kept.{HaveOneBase}
use Rattle.world_run.proofs.world.World.make.Goals as goal

pub make-requires : goal.make-requires
make-requires g c =
    let there = standing_in _ _ g.S.Service.sees (λ rule. g.R.BoundRule.rules rule) c.args.scripts.now _ _ c.self.view_is c.requires.there in
    record {
      events = few_events _ _ g.S.Service.sees (λ rule. g.R.BoundRule.rules rule) c.args.scripts.now _ there (subst (λ parts. length parts.notes < 2 ^ 45) (sym c.self.view_is) c.requires.events);
      there = is_somewhere _ _ g.S.Service.sees (λ rule. g.R.BoundRule.rules rule) c.args.scripts.now _ there;
      may = may_forget _ _ g.S.Service.sees (λ rule. g.R.BoundRule.rules rule) c.args.scripts.now _ _ c.wanted-horizon.result there (λ seen sees. (g.met.S.Service.honest c.self.inside.ground.service seen sees).state_is) c.wanted-horizon.ensures;
      allowed = (length c.args.scripts.now, c.requires.allowed);
      other = not_go c.args.event.now c.in_default.not-Go;
    }

pub returns-in_default-clause-led : goal.returns-in_default-clause-led
returns-in_default-clause-led g c = if_made _ _ g.S.Service.sees (λ rule. g.R.BoundRule.rules rule) c.args.scripts.now _ _ _ c.args.event.now c.wanted-horizon.result c.self.view_is c.clients_stay.ensures (not_go c.args.event.now c.in_default.not-Go) c.wanted-horizon.ensures c.make.result c.make.ensures.made refl (refl, refl, refl)

pub returns-clause-led : goal.returns-clause-led
returns-clause-led g c =
    subst (λ (event : Event). Leads _ _ g.S.Service.sees (λ rule. g.R.BoundRule.rules rule) c.args.scripts.now event c.in_ok-note.note [] c.args.self.now c.go.new.self) (sym c.in-Go.is) c.in_ok-note.ensures.led

pub returns-in_default-clause-bytes : goal.returns-in_default-clause-bytes
returns-in_default-clause-bytes g c = subst (λ (parts : Parts g.row.S.Denot g.row.R.Denot). OnOk c.make.result (CutsFirst c.args.event.now parts.traffic c.make.new.self.traffic)) c.self.view_is c.make.ensures.bytes

-- a step of a client is no cut
pub returns-clause-bytes : goal.returns-clause-bytes
returns-clause-bytes g c = never_cuts c.args.event.now _ _ (ap is_cut c.in-Go.is)

pub returns-in_default-clause-base : goal.returns-in_default-clause-base
returns-in_default-clause-base g c = subst (λ (parts : Parts g.row.S.Denot g.row.R.Denot). OnOk c.make.result (HaveOneBase (g.S.Service.bytes parts.service) (g.S.Service.bytes c.make.new.self.service))) c.self.view_is c.make.ensures.base
