use Rattle.client_model.specs.meaning.Terms.{Terms}
use Rattle.driver_core.specs.Driving.{terms_of}
use Rattle.driver_core.specs.Talking.{phase_of, talk_of, rest_of}
use Rattle.driver_core.proofs.Elsewhere.{told_as, running_takes, replaying_takes, hello_elsewhere, outcome_elsewhere, refusal_elsewhere, reply_elsewhere, refused_takes}
use Rattle.driver_core.proofs.terms.Terms.take.Goals as goal

pub returns-in-Running : goal.returns-in-Running
returns-in-Running g c =
    let terms : Terms = terms_of (g.R.BoundRule.rules c.args.self.now.rule) c.args.self.now.limits c.args.self.now.recorded in
    told_as c.on_reply.result (rest_of c.on_reply.new.request) _ _
    (running_takes terms c.args.request.now c.args.here.alive c.args.here.now c.args.phase c.in-Running.live c.args.frame c.in-Reply.answers c.in-Reply.draws c.in-Reply.ltxid c.in-Running.is c.in-Reply.is)
    c.on_reply.ensures

pub returns-in-Replaying : goal.returns-in-Replaying
returns-in-Replaying g c =
    let terms : Terms = terms_of (g.R.BoundRule.rules c.args.self.now.rule) c.args.self.now.limits c.args.self.now.recorded in
    told_as c.on_repeated.result (rest_of c.args.request.now) _ _
    (replaying_takes terms c.args.request.now c.args.here.alive c.args.here.now c.args.phase c.in-Replaying.replaying c.args.frame c.in-Reply.answers c.in-Reply.draws c.in-Reply.ltxid c.in-Replaying.is c.in-Reply.is)
    (c.on_repeated.ensures c.in-Reply.draws c.in-Reply.ltxid)

pub returns-in-Hello : goal.returns-in-Hello
returns-in-Hello g c =
    let terms : Terms = terms_of (g.R.BoundRule.rules c.args.self.now.rule) c.args.self.now.limits c.args.self.now.recorded in
    told_as c.bad_peer.result (rest_of c.args.request.now) _ _
    (hello_elsewhere terms c.args.request.now c.args.here.alive c.args.here.now c.args.phase c.args.frame c.in-Hello.ltxid c.in_default.not-Greeting c.in-Hello.is)
    (c.bad_peer.ensures (rest_of c.args.request.now) c.args.frame c.tag_of-tag.ensures)

pub returns-in-OutcomeIs : goal.returns-in-OutcomeIs
returns-in-OutcomeIs g c =
    let terms : Terms = terms_of (g.R.BoundRule.rules c.args.self.now.rule) c.args.self.now.limits c.args.self.now.recorded in
    told_as c.bad_peer-in_default-phase.result (rest_of c.args.request.now) _ _
    (outcome_elsewhere terms c.args.request.now c.args.here.alive c.args.here.now c.args.phase c.args.frame c.in-OutcomeIs.committed c.in-OutcomeIs.completed c.in_default-phase.not-Asked c.in-OutcomeIs.is)
    (c.bad_peer-in_default-phase.ensures (rest_of c.args.request.now) c.args.frame c.tag_of-tag.ensures)

pub returns-in-OutcomeRefused : goal.returns-in-OutcomeRefused
returns-in-OutcomeRefused g c =
    let terms : Terms = terms_of (g.R.BoundRule.rules c.args.self.now.rule) c.args.self.now.limits c.args.self.now.recorded in
    told_as c.bad_peer-in_default-phase-2.result (rest_of c.args.request.now) _ _
    (refusal_elsewhere terms c.args.request.now c.args.here.alive c.args.here.now c.args.phase c.args.frame c.in-OutcomeRefused.ahead c.in-OutcomeRefused.next c.in_default-phase-2.not-Asked c.in-OutcomeRefused.is)
    (c.bad_peer-in_default-phase-2.ensures (rest_of c.args.request.now) c.args.frame c.tag_of-tag.ensures)

pub returns : goal.returns
returns g c =
    let terms : Terms = terms_of (g.R.BoundRule.rules c.args.self.now.rule) c.args.self.now.limits c.args.self.now.recorded in
    told_as c.bad_peer-in_default-phase-3.result (rest_of c.args.request.now) _ _
    (reply_elsewhere terms c.args.request.now c.args.here.alive c.args.here.now c.args.phase c.args.frame c.in-Reply.answers c.in-Reply.draws c.in-Reply.ltxid c.in_default-phase-3.not-Running c.in_default-phase-3.not-Replaying c.in-Reply.is)
    (c.bad_peer-in_default-phase-3.ensures (rest_of c.args.request.now) c.args.frame c.tag_of-tag.ensures)

pub returns-in-Asked-phase : goal.returns-in-Asked-phase
returns-in-Asked-phase g c =
    let terms : Terms = terms_of (g.R.BoundRule.rules c.args.self.now.rule) c.args.self.now.limits c.args.self.now.recorded in
    told_as c.on_refused.result (talk_of c.args.request.now (phase_of c.args.phase)) _ _
    (refused_takes terms c.args.request.now c.args.here.alive c.args.here.now c.args.phase c.in-Asked-phase.asked c.args.frame c.in-Asked-phase.is)
    (c.on_refused.ensures terms (talk_of c.args.request.now (phase_of c.args.phase)) c.args.frame c.in-OutcomeRefused.next c.tag_of-tag.ensures c.in-OutcomeRefused.is)
