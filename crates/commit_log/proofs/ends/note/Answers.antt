use Rattle.std.proofs.Common.{rules, ◌≡◌, [], ◌∷◌, ◌++◌, get_or, ℤ, pos, to_z, of_z, w64, sym, ap, ◌∙◌}
use Rattle.std.specs.Prelude.{if◌then◌else◌}
use Rattle.std.specs.Str.{bytes_eq}
use Rattle.std.proofs.Math.ListN.{length-set}
use Rattle.std.proofs.lemmas.Int.{to_z-of_z}
use Rattle.commit_log.specs.meaning.Rules.{end_of}
use Rattle.commit_log.proofs.Reserving.{end_more, mapped_on}
use Rattle.commit_log.proofs.ends.note.Goals as goal

pub loop-place-preserved : goal.loop-place-preserved
loop-place-preserved c =
    let sequences = c.args.sequences.now in
    let sequence = c.index-sequences-place.result in
    let ends = c.loop-place.ends in
    let i = c.loop-place.place in
    let reservation = c.args.reservation.now in
    let end = c.end_after.result in
    let same : to_z w64 (of_z w64 end) ≡ end = to_z-of_z w64 end (search rules) in
    let read : to_z w64 (of_z w64 (get_or ends i (pos 0))) ≡ get_or ends i (pos 0) = to_z-of_z w64 (get_or ends i (pos 0)) (search rules) in
    record {
      long = length-set ends i (to_z w64 (of_z w64 end)) ∙ c.loop-place.invariant.long;
      so_far = λ reservations is.
          mapped_on (end_of reservations) (end_of (reservations ++ reservation ∷ [])) sequences ends i sequence (pos 0) (to_z w64 (of_z w64 end)) c.loop-place-test.true c.index-sequences-place.is (c.loop-place.invariant.so_far reservations is)
          (λ here. same ∙ c.end_after.ensures ∙ ap (λ (e : ℤ). if bytes_eq reservation.name sequence.name then reservation.upto else e) (read ∙ here) ∙ sym (end_more reservations reservation sequence));
    }
