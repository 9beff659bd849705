-- Of Number: how far each session is ahead of what is held, at the start and behind each event.
use Rattle.std.proofs.Common.{◌≡◌, refl, Bool, true, false, ◌+◌, ◌&&◌}
use Rattle.std.specs.Prelude.{not, nat_le}
use Rattle.std.specs.List.{list_any}
use Rattle.std.proofs.lemmas.Bool.{and_from, not_from_false}
use Rattle.server_model.specs.Laws.{EntryNumbers}
use Rattle.world_model.specs.OrderlyLaws.{IsKept}
use Rattle.world_model.specs.meaning.Links.{Link}
use Rattle.world_model.specs.records.Number.{cond_held, is_near, are_near, is_counted, are_counted, is_ahead, ahead_rightly, are_ahead, last_served_made}
use Rattle.world_model.specs.Parts.{is_out, is_commit_call, number_of, held_number, implies}
use Rattle.world_model.specs.Traced.{Traced}
use Rattle.world_model.proofs.number.LinkCounts.{Right}
use Rattle.world_model.proofs.number.NumbersEvent.{right_now}
use Rattle.world_model.proofs.number.NumbersTurn.{by_number}
use Rattle.world_model.proofs.events.Tests.{eq_from, le_to}

near_to : (t : Traced) (link : Link) → Right (number_of t.entries link) link → is_near t link ≡ true
near_to t link right =
    and_from (nat_le (held_number link) (number_of t.entries link)) (nat_le (number_of t.entries link) (held_number link + cond_held link)) (le_to (held_number link) (number_of t.entries link) right.least)
    (le_to (number_of t.entries link) (held_number link + cond_held link) right.most)

ahead_to : (t : Traced) (link : Link) → Right (number_of t.entries link) link → ahead_rightly t link ≡ true
ahead_to t link right = by (is_ahead t link) refl
  where
    by : (test : Bool) → is_ahead t link ≡ test → implies test (is_out link && (last_served_made link && not (list_any is_commit_call link.up))) ≡ true
    by false is = refl
    by true is =
        let all = right.ahead (eq_from (number_of t.entries link) (held_number link + 1) is) in
        and_from (is_out link) (last_served_made link && not (list_any is_commit_call link.up)) all.0 (and_from (last_served_made link) (not (list_any is_commit_call link.up)) all.1 (not_from_false (list_any is_commit_call link.up) all.2))

module _ (numbers : EntryNumbers) where
  pub near_law : IsKept are_near
  near_law = record {
    at_start = λ document. refl;
    at_event = λ before after old new event note items left one inv.
        by_number (is_near new) new.machine.links (λ number link here. near_to new link (right_now before after old new event note items left one inv numbers number link here));
  }

  pub counted_law : IsKept are_counted
  counted_law = record {
    at_start = λ document. refl;
    at_event = λ before after old new event note items left one inv.
        by_number (is_counted new) new.machine.links (λ number link here. (right_now before after old new event note items left one inv numbers number link here).counted);
  }

  pub ahead_law : IsKept are_ahead
  ahead_law = record {
    at_start = λ document. refl;
    at_event = λ before after old new event note items left one inv.
        by_number (ahead_rightly new) new.machine.links (λ number link here. ahead_to new link (right_now before after old new event note items left one inv numbers number link here));
  }
