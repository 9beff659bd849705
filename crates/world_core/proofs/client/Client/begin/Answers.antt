use Rattle.std.proofs.Common.{◌≡◌, false, Option, Some, refl, sym, ap, ◌∙◌, subst}
use Rattle.std.specs.Prelude.{is_some}
use Rattle.transcript_core.specs.declared.next_request.NextRequest.{NextRequest}
use Rattle.transcript_core.specs.Following.{IsNext}
use Rattle.world_core.specs.declared.client.Course.{Course}
use Rattle.world_core.specs.Coursing.{IsFit}
use Rattle.world_core.proofs.steps.Beginning.{one_of, first_doing, submitted, begins_so}
use Rattle.world_core.proofs.client.Client.begin.Goals as goal

pub submit-requires-clause-fit : goal.submit-requires-clause-fit
submit-requires-clause-fit g c = one_of IsFit c.args.script.now c.self.inside.next.place c.in-Some.request.now c.requires.fit c.in-Some.ensures.at_place

pub returns : goal.returns
returns g c = λ setting number event client same is.
    let request = c.in-Some.request.now in
    let next : c.self.inside.next ≡ c.args.self.now.next = cc in
    let course : c.args.self.now.course ≡ c.self.inside.course = cc in
    let none : is_some c.args.self.now.course ≡ false = ap (λ (o : Option Course). is_some o) course ∙ sym c.is_some.ensures ∙ c.if-is_some.false in
    let handed =
    submitted _ (λ rule. g.R.BoundRule.rules rule) setting number event c.args.tick c.args.self.now c.submit.new.self c.hear.new.self client request
    record { driver = c.in_ok-submit.ensures.driver; next = c.in_ok-submit.ensures.next; past = c.in_ok-submit.ensures.past; course = c.in_ok-submit.ensures.course; draft = c.in_ok-submit.ensures.draft }
    is
    in
    begins_so _ (λ rule. g.R.BoundRule.rules rule) setting number event c.args.tick c.args.self.now c.submit.new.self c.hear.new.self client request c.args.script.now c.in_ok-hear.field-0.send.items c.in_ok-hear.field-0.hold same none is
    (λ reports follows. c.in-Some.ensures.next reports (subst (λ (n : NextRequest). IsNext c.args.script.now reports n) (sym next) follows))
    (c.in_ok-hear.ensures.heard setting number event false (record client { now = Some (first_doing request) }) (first_doing request) same refl handed)
