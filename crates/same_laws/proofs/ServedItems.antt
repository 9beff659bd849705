-- Each item that a connection served is among those of the run: what holds of all items so far
-- holds of each connection's.
use Rattle.std.proofs.Common.{◌≡◌, refl, sym, ap, ◌∙◌, Bool, true, ℕ, List, [], ◌∷◌, Some}
use Rattle.std.specs.List.{list_all}
use Rattle.std.proofs.lemmas.Bool.{and_parts}
use Rattle.std.proofs.lemmas.List.Folds.{list_all-append}
use Rattle.outage_schedule.specs.declared.document.Document.{Document}
use Rattle.outage_schedule.specs.declared.event.Event.{Event}
use Rattle.outage_schedule.specs.declared.item.Served.{Served}
use Rattle.outage_schedule.specs.declared.note.Note.{Note}
use Rattle.server_model.specs.Seen.{Seen}
use Rattle.world_model.specs.meaning.Frames.{Handled}
use Rattle.world_model.specs.Orderly.{Orderly}
use Rattle.world_model.specs.meaning.Links.{Link, link_at}
use Rattle.world_model.specs.OneEvent.{OneEvent}
use Rattle.world_model.specs.Reached.{Reached, Begins, GoesOn}
use Rattle.world_model.specs.records.Ready.{all_requests_right}
use Rattle.world_model.specs.RunLaws.{RunsAreOrderly}
use Rattle.world_model.specs.Traced.{Traced}
use Rattle.world_model.proofs.Offered.{at_link, append_all, one_all, Followed, follow_happens, at_event, held_now, by_number, all_turn}
use Rattle.same_laws.proofs.ServingTurns.{Serving, NothingYet, AsMuch, OneMore, comes_serving}

module _ (test : Served → Bool) where
  abbrev pub items_pass : Link → Bool
  items_pass link = list_all (λ one. test one.served) link.served

  event_pass : (before after : Seen) (old new : Traced) (event : Event) (note : Note) (items : List Served) (one : OneEvent before old event note items [] after new) → Orderly old
      → list_all items_pass old.machine.links ≡ true → list_all test items ≡ true → list_all items_pass new.machine.links ≡ true
  event_pass before after old new event note items one inv was pass = by_number items_pass new.machine.links link_pass
    where
      followed : Followed old.setting old.machine event note items [] new.machine
      followed = follow_happens old.setting old.machine event note items [] new.machine one.follows

      link_pass : (number : ℕ) (link : Link) → link_at new.machine.links number ≡ Some link → items_pass link ≡ true
      link_pass number link here = by (comes_serving (at_event old.machine) items [] followed.kind number link (all_turn old.setting (at_event old.machine) (held_now old inv) items [] followed.kind new.machine followed.happens number link here))
        where
          by : Serving old.machine.links items [] number link → items_pass link ≡ true
          by (NothingYet none) = ap (list_all (λ (one : Handled). test one.served)) none
          by (AsMuch old_link there served) = ap (list_all (λ (one : Handled). test one.served)) served ∙ at_link items_pass old.machine.links number old_link was there
          by (OneMore old_link there it item served sent) =
              ap (list_all (λ (one : Handled). test one.served)) served
              ∙ append_all (λ (one : Handled). test one.served) old_link.served (it ∷ []) (at_link items_pass old.machine.links number old_link was there)
              (one_all (λ (one : Handled). test one.served) it (and_parts (test it.served) true (sym (ap (list_all test) item) ∙ pass)).0)

  pub reached_pass : RunsAreOrderly → (document : Document) (events : List Event) (notes : List Note) (items : List Served) (seen : Seen) (t : Traced) → all_requests_right document ≡ true → Reached document events notes items seen t
      → list_all test items ≡ true → list_all items_pass t.machine.links ≡ true
  reached_pass orderly document _ _ _ _ _ calls (Begins seen start history horizon coupled) pass = refl
  reached_pass orderly document _ _ _ _ _ calls (GoesOn events notes items more before after old new event note reached one forgets) pass =
      let parts = and_parts (list_all test items) (list_all test more) (sym (list_all-append test items more) ∙ pass) in
      event_pass before after old new event note more one (orderly document events notes items before old calls reached) (reached_pass orderly document events notes items before old calls reached parts.0) parts.1
