use Rattle.std.proofs.Common.{sym, ◌∙◌}
use Rattle.std.proofs.lemmas.Result.{IfOk-weaker}
use Rattle.plain_items.specs.Views.{thing_as}
use Rattle.legal_walk.specs.Moving.{entered_at}
use Rattle.legal_walk.proofs.Stepping.{enters_so, enters_not, enters_does}
use Rattle.legal_walk.proofs.walker.Walker.enters.Goals as goal

pub returns-then-not-is_of_now : goal.returns-then-not-is_of_now
returns-then-not-is_of_now c = λ base walk walks.
    let old = c.args.self.now in
    let session = c.args.session.now in
    let new = c.enter.new.self in
    let here = enters_so base walk old session new c.in_ok-enter.ensures walks in
    enters_not base walk old session new c.in_ok-enter.ensures walks c.args.now (thing_as c.args.thing.now) (record old { service = new }) (sym c.if-not-is_of_now.true ∙ c.is_of_now.ensures base (entered_at walk session) here.beside)

pub does-requires : goal.does-requires
does-requires c =
    let old = c.args.self.now in
    let session = c.args.session.now in
    (c.requires.0, (entered_at c.requires.1.0 session, enters_so c.requires.0 c.requires.1.0 old session c.enter.new.self c.in_ok-enter.ensures c.requires.1.1))

pub returns : goal.returns
returns c =
    IfOk-weaker c.does.result _ _
    (λ holds step base walk walks.
    let old = c.args.self.now in
    let session = c.args.session.now in
    let new = c.enter.new.self in
    let here = enters_so base walk old session new c.in_ok-enter.ensures walks in
    enters_does base walk old session new c.in_ok-enter.ensures walks c.args.now (thing_as c.args.thing.now) holds c.does.new.self
    (sym c.if-not-is_of_now.false ∙ c.is_of_now.ensures base (entered_at walk session) here.beside) (step base (entered_at walk session) here))
    c.does.ensures
