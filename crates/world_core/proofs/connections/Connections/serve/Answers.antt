use Rattle.std.proofs.Common.{◌∙◌, arith, ap, not}
use Rattle.world_model.specs.meaning.Links.{Link}
use Rattle.world_model.specs.meaning.Serving.{after_front}
use Rattle.world_core.proofs.Ages.{living_with, living_without}
use Rattle.world_core.proofs.Standing.{stand_served, is_there, no_link, none_there}
use Rattle.world_core.proofs.connections.Connections.serve.Goals as goal

pub returns-in_default : goal.returns-in_default
returns-in_default c = λ links front served session last there stands. none_there links c.args.number _ (no_link c.args.self.now.all.items links c.args.number c.in_default.ensures stands.are) there

pub returns-then-is_last : goal.returns-then-is_last
returns-then-is_last c = λ links front served session last there stands.
    let held = c.args.self.now in
    let old : Link = record front.link { up = front.later } in
    let new : Link = after_front front served c.args.reply.now in
    let was = is_there held.all.items c.args.number c.in-Some.at c.index_mut.result.now c.in-Some.ensures c.index_mut.ensures.value links old stands.are there in
    stand_served held c.args.number c.in-Some.at c.index_mut.result.now c.serve.new.self c.in-Some.ensures c.index_mut.ensures.value c.min-self.result c.remove.new.self (grind (arith, c.min-self.ensures)) (grind (arith, c.min-self.ensures)) links new stands
    (c.in_ok-serve.ensures front served session last was)
    (living_without held.living c.remove.new.self links c.args.number old new there (ap not (last ∙ c.if-is_last.true)) c.remove.ensures.updates stands.living)

pub returns-in_ok-insert : goal.returns-in_ok-insert
returns-in_ok-insert c = λ links front served session last there stands.
    let held = c.args.self.now in
    let old : Link = record front.link { up = front.later } in
    let new : Link = after_front front served c.args.reply.now in
    let was = is_there held.all.items c.args.number c.in-Some.at c.index_mut.result.now c.in-Some.ensures c.index_mut.ensures.value links old stands.are there in
    stand_served held c.args.number c.in-Some.at c.index_mut.result.now c.serve.new.self c.in-Some.ensures c.index_mut.ensures.value c.min-self.result c.insert.new.self (grind (arith, c.min-self.ensures)) (grind (arith, c.min-self.ensures)) links new stands
    (c.in_ok-serve.ensures front served session last was)
    (living_with held.living c.insert.new.self links c.args.number old new there c.in_ok-insert.ensures.updates stands.living)
