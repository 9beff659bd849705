-- The draws of a call, beside a walk.
use Rattle.std.proofs.Common.{◌≡◌, Bool, List, [], cond, filter, map, sym, ap, ◌∙◌}
use Rattle.std.specs.Prelude.{is_some}
use Rattle.svc_values.specs.declared.draw.Draw.{Draw}
use Rattle.mutable_values.specs.declared.grants.Grants.{Grants}
use Rattle.mutable_values.specs.meaning.Granting.{is_granted}
use Rattle.server_model.specs.meaning.Base.{Base, Sequence}
use Rattle.server_model.specs.meaning.Core.{sequence_at}
use Rattle.server_model.specs.meaning.Legal.{draws_hold}
use Rattle.server_model.specs.meaning.NewValues.{Numbers, drawn_by, kept_by}
use Rattle.server_model.specs.meaning.Walk.{Walk, Performed, or_same, with_numbers}
use Rattle.legal_walk.specs.declared.service.Service.{Service}
use Rattle.legal_walk.specs.Beside.{Beside}

-- those that are kept, by these grants and sequences
abbrev pub kept_under : Grants → List Sequence → Bool → List Draw → List Draw
kept_under grants sequences replay kept = cond replay (filter (is_granted grants (map sequence_at sequences)) kept) []

module _ (service : Service) (p : Performed) (kept : List Draw) (is : kept ≡ kept_under service.grants service.sequences.items p.replay p.kept) (base : Base) (walk : Walk) (beside : Beside base walk service) where
  drawn_is : drawn_by p.now kept p.draws service.numbers ≡ drawn_by p.now (kept_by base p.replay p.kept) p.draws walk.numbers
  drawn_is =
      let here : kept ≡ kept_by base p.replay p.kept =
      is ∙ ap (λ (g : Grants). kept_under g service.sequences.items p.replay p.kept) (sym beside.grants) ∙ ap (λ (l : List Sequence). kept_under base.grants l p.replay p.kept) (sym beside.sequences) in
      ap (λ l. drawn_by p.now l p.draws service.numbers) here ∙ ap (drawn_by p.now (kept_by base p.replay p.kept) p.draws) (sym beside.numbers)

  pub draws_are : (right : Bool) → right ≡ is_some (drawn_by p.now kept p.draws service.numbers) → right ≡ draws_hold base walk p
  draws_are right is_right = is_right ∙ ap is_some drawn_is

  pub drawn_beside : (new : Numbers) → new ≡ or_same service.numbers (drawn_by p.now kept p.draws service.numbers) → Beside base (with_numbers base walk p) (record service { numbers = new })
  drawn_beside new after = record {
    shape = beside.shape;
    sequences = beside.sequences;
    grants = beside.grants;
    committed = beside.committed;
    stored = beside.stored;
    left = beside.left;
    blocked = beside.blocked;
    perhaps = beside.perhaps;
    numbers = sym (after ∙ ap (or_same service.numbers) drawn_is ∙ ap (λ (n : Numbers). or_same n (drawn_by p.now (kept_by base p.replay p.kept) p.draws walk.numbers)) (sym beside.numbers));
    over = beside.over;
  }
