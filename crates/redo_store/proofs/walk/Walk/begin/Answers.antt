use Rattle.std.proofs.Common.{◌≡◌, refl, rules}
use Rattle.redo_store.proofs.Walking.{not_magic, not_magic_whole, walk_start}
use Rattle.redo_store.proofs.walk.Walk.begin.Goals as goal

pub returns-in_err-check_magic-clause-damaged : goal.returns-in_err-check_magic-clause-damaged
returns-in_err-check_magic-clause-damaged g c at is =
    let seen = (g.D.Disk.state c.args.disk.now).now.seen in
    let here = c.in_err-check_magic.ensures.damaged at (search rules) in
    let zero_is : at ≡ 0 = here.0 in
    (zero_is, not_magic seen here.1, not_magic_whole seen here.1)

pub returns-clause-begun : goal.returns-clause-begun
returns-clause-begun g c = record { stands = walk_start (g.D.Disk.state c.args.disk.now).now.seen c.in_ok-check_magic.ensures.magic; counted = refl }
