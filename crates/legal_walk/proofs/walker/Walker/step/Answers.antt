use Rattle.std.proofs.Common.{◌≡◌, true, refl, sym, subst}
use Rattle.std.specs.Prelude.{IsTrue}
use Rattle.plain_items.specs.declared.item.Item.{Item}
use Rattle.plain_items.specs.Views.{item_as}
use Rattle.shown_clauses.specs.meaning.Things.{outcome_of}
use Rattle.server_model.specs.meaning.Walk.{if_uncommitted}
use Rattle.legal_walk.specs.Items.{after_item, item_holds_here}
use Rattle.legal_walk.specs.Walks.{Walks}
use Rattle.legal_walk.proofs.Stepping.{moved, told_sessions}
use Rattle.legal_walk.proofs.walker.Walker.step.Goals as goal

pub returns-in_ok-tell-in-AskTold : goal.returns-in_ok-tell-in-AskTold
returns-in_ok-tell-in-AskTold c = λ base walk walks.
    let old = c.args.self.now in
    let x = c.in-AskTold.ltxid in
    let told = outcome_of c.in-AskTold.told in
    let new = c.tell.new.self in
    subst (λ (i : Item). (true ≡ item_holds_here base walk (item_as i)) × (IsTrue true → Walks base (after_item base walk (item_as i)) (record old { service = new }))) (sym c.in-AskTold.is)
    (refl, λ holds. moved base walk old (λ w. if_uncommitted w x told) new c.in_ok-tell-in-AskTold.ensures (told_sessions walk x told) walks)
