use Rattle.std.proofs.Common.{◌≡◌, ◌∙◌, sym, ap}
use Rattle.world_model.specs.meaning.Links.{Link}
use Rattle.world_core.proofs.Standing.{found_at, no_link, none_there}
use Rattle.world_core.proofs.frames.Serving.{some_link}
use Rattle.world_core.proofs.connections.Connections.ended.Goals as goal

pub returns-in_err-at : goal.returns-in_err-at
returns-in_err-at c = λ links link there stands. none_there links c.args.number link (no_link c.args.self.now.all.items links c.args.number c.in_err-at.ensures stands.are) there

pub returns : goal.returns
returns c = λ links link there stands.
    let found = found_at c.args.self.now.all.items c.args.number c.in_ok-at.at c.index.result.now c.in_ok-at.ensures c.index.ensures links stands.are in
    let same : found.0 ≡ link = some_link found.0 link (sym found.1 ∙ there) in
    (sym found.2.ended ∙ ap (λ (l : Link). l.ended) same, sym (ap (λ (l : Link). l.is_open) same) ∙ found.2.is_open)
