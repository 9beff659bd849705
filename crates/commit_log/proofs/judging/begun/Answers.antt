use Rattle.std.proofs.Common.{◌≡◌, ℕ, [], ◌∷◌, ◌++◌, refl, sym, ap, ◌∙◌, rules, None}
use Rattle.std.specs.Prelude.{Ok, Err}
use Rattle.redo_store.specs.meaning.Records.{records_of, whole_records}
use Rattle.redo_store.specs.Walk.{HasRead}
use Rattle.commit_log.specs.meaning.Rules.{Empty}
use Rattle.commit_log.specs.meaning.Journals.{journal_in, after_payload}
use Rattle.commit_log.proofs.Steps.{so_far_by_records, damaged_gate, damaged_record}
use Rattle.commit_log.proofs.Misfits.{placed, when_none, when_some}
use Rattle.commit_log.proofs.judging.begun.Goals as goal

pub returns-in_err-payload-clause-damaged : goal.returns-in_err-payload-clause-damaged
returns-in_err-payload-clause-damaged g c place is =
    let seen = (g.D.Disk.state c.args.disk.now).now.seen in
    let here = c.in_err-payload.ensures.damage place (search rules) [] c.requires in
    ap journal_in (damaged_gate seen [] Empty place refl here.1 here.0)

pub returns-in_default-clause-damaged : goal.returns-in_default-clause-damaged
returns-in_default-clause-damaged g c place is =
    let seen = (g.D.Disk.state c.args.disk.now).now.seen in
    let end = when_none c.in_ok-payload.field-0 ((records_of seen ≡ Ok []) × (whole_records seen ≡ [])) c.in_default.is (c.in_ok-payload.ensures.end [] c.requires) in
    let told : c.place-place.result ≡ place = cc in
    let eight : 8 ≡ place = sym c.requires.stands.at_place ∙ sym c.place-place.ensures ∙ told in
    ap journal_in (so_far_by_records seen [] end.0) ∙ ap (λ (n : ℕ). Err n) eight

pub returns-clause-damaged : goal.returns-clause-damaged
returns-clause-damaged g c place is =
    let seen = (g.D.Disk.state c.args.disk.now).now.seen in
    let payload = c.in-Some.payload in
    let walk = c.next.new.self in
    let told : c.at.result ≡ _ = cc in
    let at = placed c.in-Err.misfit c.at.result c.place-place.result place c.at.ensures.no_memory c.at.ensures.misplaced told in
    let read : HasRead walk ([] ++ payload.items ∷ []) seen = when_some c.in_ok-payload.field-0 payload (λ p. HasRead walk ([] ++ p.items ∷ []) seen) c.in-Some.is (c.in_ok-payload.ensures.«record» [] c.requires) in
    let misplaced : after_payload Empty payload.items ≡ None = ap (after_payload Empty) (sym c.deref.ensures.value) ∙ c.begin.ensures.misplaced (c.in-Err.is ∙ ap (λ m. Err m) at.0) in
    ap journal_in (damaged_record seen [] payload.items walk Empty place refl read misplaced (sym at.1 ∙ c.place-place.ensures ∙ c.requires.stands.at_place))
