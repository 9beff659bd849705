use Rattle.std.proofs.Common.{◌≡◌, ℕ, ℤ, true, List, to_z, of_z, w64, rules, sym, subst, ◌∙◌}
use Rattle.std.specs.Prelude.{IsTrue, Err}
use Rattle.std.proofs.lemmas.Int.{to_z-of_z}
use Rattle.std.proofs.lemmas.Result.{err_from_is_err_and}
use Rattle.svc_values.specs.Draws.{is_there}
use Rattle.mutable_values.specs.declared.source.Drawn.TheVariants as drawn
use Rattle.mutable_values.specs.Sources.{may_reserve}
use Rattle.server_session.specs.Dealing.{HasReserved, Reserves}
use Rattle.server_session.proofs.Drawing.{told_as, answered_value, answered_unreserved, answered_lacked_behind, answered_reserved, may_between, names_reserved, never_again, prepared_between}
use Rattle.server_session.proofs.desk.draw_value.Goals as goal

pub returns-in-Value : goal.returns-in-Value
returns-in-Value g c =
    let disk = g.D.Disk.state c.args.disk.now in
    let prepared = c.requires.ready (sym c.is_live.ensures ∙ c.if-not-is_live.false) in
    let told = told_as c.args.source.now c.args.kept.now c.args.kind.now c.args.now c.in_ok-draw.field-0 (drawn.Value c.in-Value.draw) c.ask.new.source c.ask.new.kept c.in_ok-draw.ensures.asked c.in-Value.is in
    let h = answered_value c.args.now c.args.kind.now c.args.source.now c.args.kept.now c.args.log.now disk c.in-Value.draw c.ask.new.source c.ask.new.kept prepared c.in_ok-draw.ensures.room told in
    record { drawn = h.drawn; names = h.names; ready = h.ready }

pub reserve-requires : goal.reserve-requires
reserve-requires g c =
    let disk = g.D.Disk.state c.args.disk.now in
    let prepared = c.requires.ready (sym c.is_live.ensures ∙ c.if-not-is_live.false) in
    let told = told_as c.args.source.now c.args.kept.now c.args.kind.now c.args.now c.in_ok-draw.field-0 (drawn.Reserve c.in-Reserve.name c.in-Reserve.upto) c.ask.new.source c.ask.new.kept c.in_ok-draw.ensures.asked c.in-Reserve.is in
    let same : to_z w64 (of_z w64 c.in-Reserve.upto) ≡ c.in-Reserve.upto = to_z-of_z w64 c.in-Reserve.upto (search rules) in
    record {
      prepared = prepared_between c.args.now c.args.kind.now c.args.source.now c.args.kept.now c.args.log.now disk c.in-Reserve.name c.in-Reserve.upto c.ask.new.source c.ask.new.kept prepared told;
      may = subst (λ (z : ℤ). IsTrue (may_reserve c.ask.new.source c.in-Reserve.name z)) (sym same)
          (may_between c.args.now c.args.kind.now c.args.source.now c.args.kept.now c.args.log.now disk c.in-Reserve.name c.in-Reserve.upto c.ask.new.source c.ask.new.kept prepared told);
    }

pub returns-in_err-reserve-in-Reserve : goal.returns-in_err-reserve-in-Reserve
returns-in_err-reserve-in-Reserve g c =
    let state = g.D.Disk.state in
    let disk = state c.args.disk.now in
    let prepared = c.requires.ready (sym c.is_live.ensures ∙ c.if-not-is_live.false) in
    let told = told_as c.args.source.now c.args.kept.now c.args.kind.now c.args.now c.in_ok-draw.field-0 (drawn.Reserve c.in-Reserve.name c.in-Reserve.upto) c.ask.new.source c.ask.new.kept c.in_ok-draw.ensures.asked c.in-Reserve.is in
    let same : to_z w64 (of_z w64 c.in-Reserve.upto) ≡ c.in-Reserve.upto = to_z-of_z w64 c.in-Reserve.upto (search rules) in
    let reserves = subst (λ (z : ℤ). Reserves c.in-Reserve.name z (Err c.in_err-reserve-in-Reserve.field-0.0) c.ask.new.source disk c.reserve.new.source c.reserve.new.log (state c.reserve.new.disk)) same c.in_err-reserve-in-Reserve.ensures in
    let h = answered_unreserved c.args.now c.args.kind.now c.args.source.now c.args.kept.now c.args.log.now disk c.in-Reserve.name c.in-Reserve.upto c.ask.new.source c.ask.new.kept prepared told
    c.in_err-reserve-in-Reserve.field-0.0 c.reserve.new.source c.reserve.new.log (state c.reserve.new.disk) reserves in
    let p = err_from_is_err_and c.from_residual-in_err-reserve-in-Reserve.result c.from_residual-in_err-reserve-in-Reserve.ensures.1 in
    rw (p.1, p.2) (record { drawn = h.drawn; names = h.names; ready = h.ready })

pub ask-requires-in-Reserve : goal.ask-requires-in-Reserve
ask-requires-in-Reserve g c =
    let state = g.D.Disk.state in
    let disk = state c.args.disk.now in
    let prepared = c.requires.ready (sym c.is_live.ensures ∙ c.if-not-is_live.false) in
    let told = told_as c.args.source.now c.args.kept.now c.args.kind.now c.args.now c.in_ok-draw.field-0 (drawn.Reserve c.in-Reserve.name c.in-Reserve.upto) c.ask.new.source c.ask.new.kept c.in_ok-draw.ensures.asked c.in-Reserve.is in
    let same : to_z w64 (of_z w64 c.in-Reserve.upto) ≡ c.in-Reserve.upto = to_z-of_z w64 c.in-Reserve.upto (search rules) in
    let reserved = subst (λ (z : ℤ). HasReserved c.in-Reserve.name z c.ask.new.source disk c.reserve.new.source c.reserve.new.log (state c.reserve.new.disk)) same c.in_ok-reserve-in-Reserve.ensures in
    subst (λ (names : List (List ℕ)). is_there names c.args.kind.now ≡ true)
    (sym (names_reserved c.args.now c.args.kind.now c.args.source.now c.args.kept.now c.args.log.now disk c.in-Reserve.name c.in-Reserve.upto c.ask.new.source c.ask.new.kept prepared told
    c.reserve.new.source c.reserve.new.log (state c.reserve.new.disk) reserved)) c.requires.there

pub returns-in_err-draw-in-Reserve-clause-names : goal.returns-in_err-draw-in-Reserve-clause-names
returns-in_err-draw-in-Reserve-clause-names g c =
    let state = g.D.Disk.state in
    let disk = state c.args.disk.now in
    let prepared = c.requires.ready (sym c.is_live.ensures ∙ c.if-not-is_live.false) in
    let told = told_as c.args.source.now c.args.kept.now c.args.kind.now c.args.now c.in_ok-draw.field-0 (drawn.Reserve c.in-Reserve.name c.in-Reserve.upto) c.ask.new.source c.ask.new.kept c.in_ok-draw.ensures.asked c.in-Reserve.is in
    let same : to_z w64 (of_z w64 c.in-Reserve.upto) ≡ c.in-Reserve.upto = to_z-of_z w64 c.in-Reserve.upto (search rules) in
    let reserved = subst (λ (z : ℤ). HasReserved c.in-Reserve.name z c.ask.new.source disk c.reserve.new.source c.reserve.new.log (state c.reserve.new.disk)) same c.in_ok-reserve-in-Reserve.ensures in
    (answered_lacked_behind c.args.now c.args.kind.now c.args.source.now c.args.kept.now c.args.log.now disk c.in-Reserve.name c.in-Reserve.upto c.ask.new.source c.ask.new.kept prepared told
    c.reserve.new.source c.reserve.new.log (state c.reserve.new.disk) reserved c.ask-in-Reserve.new.source c.ask-in-Reserve.new.kept c.in_err-draw-in-Reserve.ensures.source).names

pub returns-in-Value-2 : goal.returns-in-Value-2
returns-in-Value-2 g c =
    let state = g.D.Disk.state in
    let disk = state c.args.disk.now in
    let prepared = c.requires.ready (sym c.is_live.ensures ∙ c.if-not-is_live.false) in
    let told = told_as c.args.source.now c.args.kept.now c.args.kind.now c.args.now c.in_ok-draw.field-0 (drawn.Reserve c.in-Reserve.name c.in-Reserve.upto) c.ask.new.source c.ask.new.kept c.in_ok-draw.ensures.asked c.in-Reserve.is in
    let same : to_z w64 (of_z w64 c.in-Reserve.upto) ≡ c.in-Reserve.upto = to_z-of_z w64 c.in-Reserve.upto (search rules) in
    let reserved = subst (λ (z : ℤ). HasReserved c.in-Reserve.name z c.ask.new.source disk c.reserve.new.source c.reserve.new.log (state c.reserve.new.disk)) same c.in_ok-reserve-in-Reserve.ensures in
    let again = told_as c.reserve.new.source c.ask.new.kept c.args.kind.now c.args.now c.in_ok-draw-in-Reserve.field-0 (drawn.Value c.in-Value-2.draw) c.ask-in-Reserve.new.source c.ask-in-Reserve.new.kept c.in_ok-draw-in-Reserve.ensures.asked c.in-Value-2.is in
    let h = answered_reserved c.args.now c.args.kind.now c.args.source.now c.args.kept.now c.args.log.now disk c.in-Reserve.name c.in-Reserve.upto c.ask.new.source c.ask.new.kept prepared told
    c.reserve.new.source c.reserve.new.log (state c.reserve.new.disk) reserved c.in-Value-2.draw c.ask-in-Reserve.new.source c.ask-in-Reserve.new.kept c.in_ok-draw.ensures.room again in
    record { drawn = h.drawn; names = h.names; ready = h.ready }

pub unreachable-requires : goal.unreachable-requires
unreachable-requires g c =
    let state = g.D.Disk.state in
    let disk = state c.args.disk.now in
    let prepared = c.requires.ready (sym c.is_live.ensures ∙ c.if-not-is_live.false) in
    let told = told_as c.args.source.now c.args.kept.now c.args.kind.now c.args.now c.in_ok-draw.field-0 (drawn.Reserve c.in-Reserve.name c.in-Reserve.upto) c.ask.new.source c.ask.new.kept c.in_ok-draw.ensures.asked c.in-Reserve.is in
    let same : to_z w64 (of_z w64 c.in-Reserve.upto) ≡ c.in-Reserve.upto = to_z-of_z w64 c.in-Reserve.upto (search rules) in
    let reserved = subst (λ (z : ℤ). HasReserved c.in-Reserve.name z c.ask.new.source disk c.reserve.new.source c.reserve.new.log (state c.reserve.new.disk)) same c.in_ok-reserve-in-Reserve.ensures in
    let again = told_as c.reserve.new.source c.ask.new.kept c.args.kind.now c.args.now c.in_ok-draw-in-Reserve.field-0 (drawn.Reserve c.in-Reserve-2.name c.in-Reserve-2.upto) c.ask-in-Reserve.new.source c.ask-in-Reserve.new.kept c.in_ok-draw-in-Reserve.ensures.asked c.in-Reserve-2.is in
    never_again c.args.now c.args.kind.now c.args.source.now c.args.kept.now c.args.log.now disk c.in-Reserve.name c.in-Reserve.upto c.ask.new.source c.ask.new.kept prepared told
    c.reserve.new.source c.reserve.new.log (state c.reserve.new.disk) reserved c.in-Reserve-2.name c.in-Reserve-2.upto c.ask-in-Reserve.new.source c.ask-in-Reserve.new.kept again
