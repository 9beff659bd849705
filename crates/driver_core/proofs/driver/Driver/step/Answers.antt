use Rattle.std.proofs.Common.{Bool, rules, ap, ◌∙◌}
use Rattle.client_model.specs.meaning.Terms.{Terms}
use Rattle.client_model.specs.meaning.Talk.{talk_step}
use Rattle.driver_core.specs.declared.phase.Phase.{Phase}
use Rattle.driver_core.specs.declared.request.Request.{Request}
use Rattle.driver_core.specs.Driving.{terms_of, loses_next}
use Rattle.driver_core.specs.Talking.{phase_of, talk_of, rest_of, step_in}
use Rattle.driver_core.proofs.Resting.{Kept, gone_next_so}
use Rattle.driver_core.proofs.Keeping.{driver_kept}
use Rattle.driver_core.proofs.driver.Driver.step.Goals as goal

pub invariant_of-self-2 : goal.invariant_of-self-2
invariant_of-self-2 g c =
    let terms : Terms = terms_of (g.R.BoundRule.rules c.self.inside.terms.rule) c.self.inside.terms.limits c.self.inside.terms.recorded in
    let kept : Kept terms c.args.now (step_in (rest_of c.step.new.request) c.in_ok-phase.field-0) =
    driver_kept g.R.BoundRule.rules _ c.args.self.now c.args.input c.args.now _ c.self.view_is c.self.invariant c.requires.past c.requires.wanted c.requires.ltxids
    (c.in_ok-phase.ensures
    ∙ ap (λ (x : Request). talk_step terms (talk_of x (phase_of c.replace-phase.result)) c.args.input c.args.now) c.replace-request.ensures.value
    ∙ ap (λ (x : Phase). talk_step terms (talk_of c.self.inside.request (phase_of x)) c.args.input c.args.now) c.replace-phase.ensures.value) in
    kept.sound

pub returns : goal.returns
returns g c =
    let terms : Terms = terms_of (g.R.BoundRule.rules c.self.inside.terms.rule) c.self.inside.terms.limits c.self.inside.terms.recorded in
    let kept : Kept terms c.args.now (step_in (rest_of c.step.new.request) c.in_ok-phase.field-0) =
    driver_kept g.R.BoundRule.rules _ c.args.self.now c.args.input c.args.now _ c.self.view_is c.self.invariant c.requires.past c.requires.wanted c.requires.ltxids
    (c.in_ok-phase.ensures
    ∙ ap (λ (x : Request). talk_step terms (talk_of x (phase_of c.replace-phase.result)) c.args.input c.args.now) c.replace-request.ensures.value
    ∙ ap (λ (x : Phase). talk_step terms (talk_of c.self.inside.request (phase_of x)) c.args.input c.args.now) c.replace-phase.ensures.value) in
    let hold = c.in_ok-phase.field-0.act.hold in
    let gone = ap (λ (b : Bool). loses_next b hold) c.tells_end-ends.ensures ∙ gone_next_so c.args.input hold in
    record { act = search rules; after = search (rules, gone); past = kept.past; made = kept.made }
