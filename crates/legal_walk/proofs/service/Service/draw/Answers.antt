use Rattle.std.proofs.Common.{◌≡◌, List, refl, ap, ◌∙◌}
use Rattle.server_model.specs.meaning.Base.{Sequence}
use Rattle.legal_walk.specs.Moving.{performed_as}
use Rattle.legal_walk.proofs.Drawing.{kept_under, draws_are, drawn_beside}
use Rattle.legal_walk.proofs.service.Service.draw.Goals as goal

pub returns : goal.returns
returns c =
    let service = c.args.self.now in
    let p = performed_as c.args.performed.now in
    let kept = c.in_ok-kept.kept in
    let is : kept ≡ kept_under service.grants service.sequences.items p.replay p.kept = c.in_ok-kept.ensures ∙ ap (λ (l : List Sequence). kept_under service.grants l p.replay p.kept) c.as_slice.ensures.value in
    record {
      holds = λ base walk beside. draws_are service p kept is base walk beside c.in_ok-are_right.are_right c.in_ok-are_right.ensures.right;
      moves = λ base walk beside. drawn_beside service p kept is base walk beside c.draw.new.self c.in_ok-are_right.ensures.after;
      tables = refl;
      changes = refl;
    }
