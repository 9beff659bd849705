use Rattle.std.proofs.Common.{true, refl, sym, subst}
use Rattle.plain_items.specs.declared.item.Thing.{Thing}
use Rattle.plain_items.specs.Views.{thing_as}
use Rattle.shown_clauses.specs.meaning.Things.{outcome_of}
use Rattle.server_model.specs.meaning.Walk.{if_uncommitted, stopped, with_perhaps}
use Rattle.legal_walk.specs.Moving.{passed}
use Rattle.legal_walk.proofs.Stepping.{Does, moved, stops, told_sessions}
use Rattle.legal_walk.proofs.walker.Walker.does.Goals as goal

pub returns-in_ok-begin-in-Began : goal.returns-in_ok-begin-in-Began
returns-in_ok-begin-in-Began c = λ base walk walks.
    subst (λ (t : Thing). Does base walk c.args.now c.args.session.now (thing_as t) true c.begin.new.self) (sym c.in-Began.is) (refl, λ holds. c.in_ok-begin-in-Began.ensures base walk walks)

pub returns-in_ok-pass-in-MetBlock : goal.returns-in_ok-pass-in-MetBlock
returns-in_ok-pass-in-MetBlock c = λ base walk walks.
    let old = c.args.self.now in
    let called = c.in-MetBlock.call.now in
    let new = c.pass.new.self in
    let may = c.in_ok-may-in-MetBlock.may in
    subst (λ (t : Thing). Does base walk c.args.now c.args.session.now (thing_as t) may (record old { service = new })) (sym c.in-MetBlock.is)
    (c.in_ok-may-in-MetBlock.ensures base walk walks, λ holds. moved base walk old (λ w. passed w called) new c.in_ok-pass-in-MetBlock.ensures refl walks)

pub returns-in_ok-tell-in-ToldOutcome : goal.returns-in_ok-tell-in-ToldOutcome
returns-in_ok-tell-in-ToldOutcome c = λ base walk walks.
    let old = c.args.self.now in
    let x = c.in-ToldOutcome.ltxid in
    let told = outcome_of c.in-ToldOutcome.told in
    let new = c.tell.new.self in
    subst (λ (t : Thing). Does base walk c.args.now c.args.session.now (thing_as t) true (record old { service = new })) (sym c.in-ToldOutcome.is)
    (refl, λ holds. moved base walk old (λ w. if_uncommitted w x told) new c.in_ok-tell-in-ToldOutcome.ensures (told_sessions walk x told) walks)

pub returns-in_ok-holds-in-CallStopped : goal.returns-in_ok-holds-in-CallStopped
returns-in_ok-holds-in-CallStopped c = λ base walk walks.
    let holds = c.in_ok-holds-in-CallStopped.holds in
    let between = c.serve_stopped.new.self in
    let new = c.stop.new.self in
    subst (λ (t : Thing). Does base walk c.args.now c.args.session.now (thing_as t) holds (record between { service = new })) (sym c.in-CallStopped.is)
    (stops base walk c.args.now c.args.session.now c.in-CallStopped.replay c.in-CallStopped.call.now holds between new (c.in_ok-holds-in-CallStopped.ensures base walk walks) c.stop.ensures)

pub returns-in_ok-stop_question-in-OutcomeStopped : goal.returns-in_ok-stop_question-in-OutcomeStopped
returns-in_ok-stop_question-in-OutcomeStopped c = λ base walk walks.
    let old = c.args.self.now in
    let x = c.in-OutcomeStopped.ltxid in
    let new = c.stop_question.new.self in
    subst (λ (t : Thing). Does base walk c.args.now c.args.session.now (thing_as t) true (record old { service = new })) (sym c.in-OutcomeStopped.is)
    (refl, λ holds. moved base walk old (λ w. stopped (with_perhaps w x)) new c.in_ok-stop_question-in-OutcomeStopped.ensures refl walks)
