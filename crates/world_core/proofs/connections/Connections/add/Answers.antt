use Rattle.std.proofs.Common.{◌≡◌, ◌+◌, length, arith, length-append, refl}
use Rattle.world_core.proofs.Standing.{stand_more}
use Rattle.world_core.proofs.Places.{open_last}
use Rattle.world_core.proofs.connections.Connections.add.Goals as goal

pub returns-clause-added : goal.returns-clause-added
returns-clause-added c =
    let next : c.len-opened.result ≡ length c.args.self.now.all.items + 1 = grind (arith, c.len-opened.ensures, c.in_ok-push.ensures.items, length-append) in
    stand_more c.args.self.now _ c.new.result c.len-opened.result c.in_ok-push.ensures.items refl next c.in_ok-insert.ensures.updates c.new.ensures

pub returns-clause-is_open : goal.returns-clause-is_open
returns-clause-is_open c =
    let next : c.len-opened.result ≡ length c.args.self.now.all.items + 1 = grind (arith, c.len-opened.ensures, c.in_ok-push.ensures.items, length-append) in
    open_last c.args.self.now.all.items c.push.new.self.items c.new.result c.len-opened.result c.in_ok-push.ensures.items c.new.ensures next
