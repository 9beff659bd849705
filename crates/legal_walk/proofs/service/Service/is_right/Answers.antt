use Rattle.std.proofs.Common.{◌∙◌, sym}
use Rattle.server_model.specs.meaning.Legal.{answers_hold, is_free, stores}
use Rattle.legal_walk.specs.Moving.{performed_as}
use Rattle.legal_walk.proofs.Judged.{told_is, free_is, stores_is, second_false, third_left}
use Rattle.legal_walk.proofs.service.Service.is_right.Goals as goal

pub returns-then-not-is_free : goal.returns-then-not-is_free
returns-then-not-is_free c = λ base walk meant beside is goes.
    let p = performed_as c.args.performed.now in
    let comes = c.next_of-next.ensures base walk beside in
    second_false (answers_hold walk p meant) (is_free walk p) (stores walk p meant)
    (sym c.if-not-is_free.true ∙ (c.is_free.ensures ∙ free_is c.args.self.now p c.args.ongoing.now c.args.answers base walk meant beside is goes c.next_of-next.result comes))

pub returns : goal.returns
returns c = λ base walk meant beside is goes.
    let p = performed_as c.args.performed.now in
    let service = c.args.self.now in
    let one = c.args.ongoing.now in
    let comes = c.next_of-next.ensures base walk beside in
    third_left (answers_hold walk p meant) (is_free walk p) (stores walk p meant) c.stores.result
    (sym c.if-not-branch.false ∙ told_is service p one c.args.answers base walk meant beside is goes c.in_ok-is_told_so.field-0 c.in_ok-is_told_so.ensures)
    (sym c.if-not-is_free.false ∙ (c.is_free.ensures ∙ free_is service p one c.args.answers base walk meant beside is goes c.next_of-next.result comes))
    (c.stores.ensures ∙ stores_is service p one c.args.answers base walk meant beside is goes c.next_of-next.result comes)
