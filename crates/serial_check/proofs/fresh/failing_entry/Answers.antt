use Rattle.std.proofs.Common.{◌≡◌, ◌+◌, Bool, true, false, List, ℕ, ◌++◌, take, drop, Option, Some, None, is_some, refl, ap, ◌∙◌, subst}
use Rattle.std.specs.List.{flat_map}
use Rattle.svc_values.specs.declared.entry.Piece.{Piece}
use Rattle.server_model.specs.meaning.Fresh.{draws_in, draws_of}
use Rattle.serial_check.specs.meaning.Places.{fresh_pieces, or_later, fresh_entries}
use Rattle.serial_check.specs.Given.{Keeps}
use Rattle.serial_check.proofs.FreshSteps.{entries_front, entries_on}
use Rattle.serial_check.proofs.fresh.failing_entry.Goals as goal

none_if : (place : Option (List ℕ)) → false ≡ is_some place → place ≡ None
none_if None same = refl
none_if (Some place) same = absurd (let clash : ◌≡◌ {A = Bool} false true = same in cc)

pub loop-n-preserved : goal.loop-n-preserved
loop-n-preserved c =
    let entries = c.args.entries.now in
    let n = c.loop-n.n in
    let entry = c.index-entries-n.result in
    let earlier = flat_map draws_of (take n entries) in
    let told = c.in_ok-place.ensures earlier c.loop-n.invariant.kept in
    let none = none_if c.in_ok-place.place c.if-is_some.ensures in
    let kept = subst (λ (l : List Piece). Keeps c.failing_piece.new.kept (earlier ++ flat_map draws_in l)) c.as_slice.ensures (told.1 none) in
    let on = entries_on entries n entry c.loop-n-test.true c.index-entries-n.is c.in_ok-place.place (told.0 ∙ ap (fresh_pieces earlier n 0) c.as_slice.ensures) in
    record {
      kept = subst (Keeps c.failing_piece.new.kept) (entries_front entries n entry c.loop-n-test.true c.index-entries-n.is) kept;
      so_far = c.loop-n.invariant.so_far
          ∙ (on ∙ ap (λ (place : Option (List ℕ)). or_later place (fresh_entries (flat_map draws_of (take (n + 1) entries)) (n + 1) (drop (n + 1) entries))) none);
    }
