use Rattle.std.proofs.Common.{sym, ap, subst, ◌∙◌, []}
use Rattle.std.specs.Prelude.{IfOk, option_to_list}
use Rattle.outage_schedule.specs.declared.event.Event.{Event}
use Rattle.outage_schedule.specs.declared.event.Event.TheVariants as event
use Rattle.world_core.specs.Making.{MakesBelow}
use Rattle.world_core.specs.CutBytes.{CutsFirst}
use Rattle.world_core.proofs.frames.FirstBytes.{is_cut, others_cut, never_cuts}
use Rattle.world_core.proofs.Standing.{if_ok}
use Rattle.world_core.proofs.ground.Ground.make.Goals as goal

pub returns-in-Serve-clause-made : goal.returns-in-Serve-clause-made
returns-in-Serve-clause-made g c = subst (λ (made : Event). IfOk c.serve.result (λ did. MakesBelow c.args.horizon (g.S.Service.sees c.args.self.now.service) c.args.self.now.traffic (g.S.Service.sees c.serve.new.self.service) c.serve.new.self.traffic made did.0 (option_to_list did.1))) (sym c.in-Serve.is) (if_ok c.serve.result (λ did makes. makes c.args.horizon) c.serve.ensures.made)

pub returns-in-Crash-clause-made : goal.returns-in-Crash-clause-made
returns-in-Crash-clause-made g c = subst (λ (made : Event). IfOk c.crash.result (λ did. MakesBelow c.args.horizon (g.S.Service.sees c.args.self.now.service) c.args.self.now.traffic (g.S.Service.sees c.crash.new.self.service) c.crash.new.self.traffic made did.0 (option_to_list did.1))) (sym c.in-Crash.is) (if_ok c.crash.result (λ did makes. makes c.args.horizon) c.crash.ensures.made)

pub returns-in-Cut-clause-made : goal.returns-in-Cut-clause-made
returns-in-Cut-clause-made g c = subst (λ (made : Event). MakesBelow c.args.horizon (g.S.Service.sees c.args.self.now.service) c.args.self.now.traffic (g.S.Service.sees c.cut.new.self.service) c.cut.new.self.traffic made c.cut.result []) (sym c.in-Cut.is) (c.cut.ensures.made c.args.horizon)

pub returns-in-Reap-clause-made : goal.returns-in-Reap-clause-made
returns-in-Reap-clause-made g c = subst (λ (made : Event). MakesBelow c.args.horizon (g.S.Service.sees c.args.self.now.service) c.args.self.now.traffic (g.S.Service.sees c.reap.new.self.service) c.reap.new.self.traffic made c.reap.result []) (sym c.in-Reap.is) (c.reap.ensures.made c.args.horizon)

pub returns-in-Tick-clause-made : goal.returns-in-Tick-clause-made
returns-in-Tick-clause-made g c = subst (λ (made : Event). MakesBelow c.args.horizon (g.S.Service.sees c.args.self.now.service) c.args.self.now.traffic (g.S.Service.sees c.tick.new.self.service) c.tick.new.self.traffic made c.tick.result []) (sym c.in-Tick.is) (c.tick.ensures.made c.args.horizon)

pub returns-in_ok-up-in-Up-clause-made : goal.returns-in_ok-up-in-Up-clause-made
returns-in_ok-up-in-Up-clause-made g c = subst (λ (made : Event). MakesBelow c.args.horizon (g.S.Service.sees c.args.self.now.service) c.args.self.now.traffic (g.S.Service.sees c.up.new.self.service) c.up.new.self.traffic made c.in_ok-up-in-Up.field-0 []) (sym c.in-Up.is) c.in_ok-up-in-Up.ensures.made

pub returns-in_ok-up_crash-in-UpCrash-clause-made : goal.returns-in_ok-up_crash-in-UpCrash-clause-made
returns-in_ok-up_crash-in-UpCrash-clause-made g c = subst (λ (made : Event). MakesBelow c.args.horizon (g.S.Service.sees c.args.self.now.service) c.args.self.now.traffic (g.S.Service.sees c.up_crash.new.self.service) c.up_crash.new.self.traffic made c.in_ok-up_crash-in-UpCrash.field-0 []) (sym c.in-UpCrash.is) c.in_ok-up_crash-in-UpCrash.ensures.made

pub returns-in_ok-outside-in-Outside-clause-made : goal.returns-in_ok-outside-in-Outside-clause-made
returns-in_ok-outside-in-Outside-clause-made g c = subst (λ (made : Event). MakesBelow c.args.horizon (g.S.Service.sees c.args.self.now.service) c.args.self.now.traffic (g.S.Service.sees c.outside.new.self.service) c.outside.new.self.traffic made c.in_ok-outside-in-Outside.field-0 []) (ap event.Outside c.as_slice.ensures ∙ sym c.in-Outside.is) (c.in_ok-outside-in-Outside.ensures.made c.args.horizon)

pub returns-in_ok-ask-in-Ask-clause-made : goal.returns-in_ok-ask-in-Ask-clause-made
returns-in_ok-ask-in-Ask-clause-made g c = subst (λ (made : Event). MakesBelow c.args.horizon (g.S.Service.sees c.args.self.now.service) c.args.self.now.traffic (g.S.Service.sees c.ask.new.self.service) c.ask.new.self.traffic made c.in_ok-ask-in-Ask.field-0 []) (sym c.in-Ask.is) (c.in_ok-ask-in-Ask.ensures.made c.args.horizon)

pub returns-in_ok-drain-in-Drain-clause-made : goal.returns-in_ok-drain-in-Drain-clause-made
returns-in_ok-drain-in-Drain-clause-made g c = subst (λ (made : Event). MakesBelow c.args.horizon (g.S.Service.sees c.args.self.now.service) c.args.self.now.traffic (g.S.Service.sees c.drain.new.self.service) c.drain.new.self.traffic made c.in_ok-drain-in-Drain.field-0 []) (sym c.in-Drain.is) (c.in_ok-drain-in-Drain.ensures.made c.args.horizon)

-- A CUT, AND THE OTHERS ---------------------------------------------------------------------------

pub returns-in-Cut-clause-bytes : goal.returns-in-Cut-clause-bytes
returns-in-Cut-clause-bytes g c = subst (λ (made : Event). CutsFirst made c.args.self.now.traffic c.cut.new.self.traffic) (sym c.in-Cut.is) c.cut.ensures.bytes

pub returns-in-Serve-clause-bytes : goal.returns-in-Serve-clause-bytes
returns-in-Serve-clause-bytes g c = others_cut c.serve.result c.args.event.now _ _ (ap is_cut c.in-Serve.is)

pub returns-in-Crash-clause-bytes : goal.returns-in-Crash-clause-bytes
returns-in-Crash-clause-bytes g c = others_cut c.crash.result c.args.event.now _ _ (ap is_cut c.in-Crash.is)

pub returns-in-Reap-clause-bytes : goal.returns-in-Reap-clause-bytes
returns-in-Reap-clause-bytes g c = never_cuts c.args.event.now _ _ (ap is_cut c.in-Reap.is)

pub returns-in-Tick-clause-bytes : goal.returns-in-Tick-clause-bytes
returns-in-Tick-clause-bytes g c = never_cuts c.args.event.now _ _ (ap is_cut c.in-Tick.is)

pub returns-in_ok-up-in-Up-clause-bytes : goal.returns-in_ok-up-in-Up-clause-bytes
returns-in_ok-up-in-Up-clause-bytes g c = never_cuts c.args.event.now _ _ (ap is_cut c.in-Up.is)

pub returns-in_ok-up_crash-in-UpCrash-clause-bytes : goal.returns-in_ok-up_crash-in-UpCrash-clause-bytes
returns-in_ok-up_crash-in-UpCrash-clause-bytes g c = never_cuts c.args.event.now _ _ (ap is_cut c.in-UpCrash.is)

pub returns-in_ok-outside-in-Outside-clause-bytes : goal.returns-in_ok-outside-in-Outside-clause-bytes
returns-in_ok-outside-in-Outside-clause-bytes g c = never_cuts c.args.event.now _ _ (ap is_cut c.in-Outside.is)

pub returns-in_ok-ask-in-Ask-clause-bytes : goal.returns-in_ok-ask-in-Ask-clause-bytes
returns-in_ok-ask-in-Ask-clause-bytes g c = never_cuts c.args.event.now _ _ (ap is_cut c.in-Ask.is)

pub returns-in_ok-drain-in-Drain-clause-bytes : goal.returns-in_ok-drain-in-Drain-clause-bytes
returns-in_ok-drain-in-Drain-clause-bytes g c = never_cuts c.args.event.now _ _ (ap is_cut c.in-Drain.is)
