use Rattle.std.proofs.Common.{◌≡◌, ℤ, to_z, of_z, w64, rules, sym, ap, subst, ◌∙◌}
use Rattle.std.proofs.lemmas.Int.{to_z-of_z}
use Rattle.std.proofs.lemmas.Result.{err_from_is_err_and}
use Rattle.commit_log.specs.declared.records.Record.TheVariants as kept
use Rattle.commit_log.specs.Adds.{Adds, MayAdd}
use Rattle.mutable_values.specs.Sources.{reserved_to}
use Rattle.server_session.specs.Dealing.{reservation_of}
use Rattle.server_session.proofs.Dealing.{reserve_fault, reserve_done}
use Rattle.server_session.proofs.Reserving.{may_be_reserved}
use Rattle.server_session.proofs.desk.reserve.Goals as goal

pub reserve-requires-clause-may : goal.reserve-requires-clause-may
reserve-requires-clause-may g c =
    let same : to_z w64 (of_z w64 c.args.upto) ≡ c.args.upto = to_z-of_z w64 c.args.upto (search rules) in
    let ready = c.requires.prepared in
    let disk = g.D.Disk.state c.args.disk.now in
    subst (λ (z : ℤ). MayAdd disk (kept.Reserved (reservation_of c.args.name.now z))) (sym same)
    (may_be_reserved c.args.source.now c.args.name.now c.args.upto disk ready.journal ready.reads ready.source c.requires.may)

pub returns-in_err-stored : goal.returns-in_err-stored
returns-in_err-stored g c =
    let same : to_z w64 (of_z w64 c.args.upto) ≡ c.args.upto = to_z-of_z w64 c.args.upto (search rules) in
    let state = g.D.Disk.state in
    let adds = subst (λ (z : ℤ). Adds c.reserve.result c.reserve.new.self (state c.args.disk.now) (state c.reserve.new.disk) (kept.Reserved (reservation_of c.args.name.now z))) same c.reserve.ensures in
    let p = err_from_is_err_and c.from_residual.result c.from_residual.ensures.1 in
    rw (p.1, p.2) (reserve_fault c.args.source.now c.args.name.now c.args.upto c.args.log.now c.reserve.new.self (state c.args.disk.now) (state c.reserve.new.disk) c.requires.prepared c.reserve.result _ (sym c.in_err-stored.was ∙ c.stored.ensures) adds)

pub returns : goal.returns
returns g c =
    let same : to_z w64 (of_z w64 c.args.upto) ≡ c.args.upto = to_z-of_z w64 c.args.upto (search rules) in
    let state = g.D.Disk.state in
    let adds = subst (λ (z : ℤ). Adds c.reserve.result c.reserve.new.self (state c.args.disk.now) (state c.reserve.new.disk) (kept.Reserved (reservation_of c.args.name.now z))) same c.reserve.ensures in
    reserve_done c.args.source.now c.args.name.now c.args.upto c.args.log.now c.reserve.new.self (state c.args.disk.now) (state c.reserve.new.disk) c.requires.prepared c.reserve.result c.reserved.new.self (sym c.in_ok-stored.was ∙ c.stored.ensures) adds
    (c.reserved.ensures ∙ ap (reserved_to c.args.source.now c.args.name.now) same) c.requires.may
