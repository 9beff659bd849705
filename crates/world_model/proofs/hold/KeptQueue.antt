-- Of Hold, that on the queue, at the start and behind each event.
use Rattle.std.proofs.Common.{◌≡◌, refl, sym, ◌∙◌, Bool, true, ℕ, ◌+◌, ◌&&◌, List, [], ◌∷◌, map, cond, count_by, Some, arith}
use Rattle.std.specs.Prelude.{nat_le}
use Rattle.std.specs.List.{list_all}
use Rattle.std.proofs.lemmas.Bool.{and_parts}
use Rattle.std.proofs.lemmas.List.Sums.{sum_by-cons}
use Rattle.outage_schedule.specs.declared.document.Client.{Client as Scripted}
use Rattle.world_model.specs.meaning.Clients.{Step, Doing, Client, client_at, resting}
use Rattle.world_model.specs.Traced.{Traced}
use Rattle.world_model.specs.records.Basic.{steps_rise, have_risen}
use Rattle.world_model.specs.Sames.{rise}
use Rattle.world_model.specs.Reached.{traced_start}
use Rattle.world_model.specs.OrderlyLaws.{IsKept}
use Rattle.world_model.specs.records.Hold.{are_queued}
use Rattle.world_model.proofs.events.Tests.{le_from, le_to}
use Rattle.world_model.proofs.events.AllLists.{weaker_all}
use Rattle.world_model.proofs.events.Happened.{Followed, follow_happens, at_event}
use Rattle.world_model.proofs.hold.Held.{doing_course}
use Rattle.world_model.proofs.finish.Counts.{goes_so}
use Rattle.world_model.proofs.hold.QueueKept.{queued}
use Rattle.world_model.proofs.hold.QueueCourses.{queue_from, queue_to}
use Rattle.world_model.proofs.hold.QueueAll.{happens_queue}

-- without a request in course none waits
none_queued : (clients : List Scripted) → count_by (goes_so queued) (map (λ client. resting client.requests []) clients) ≡ 0
none_queued [] = refl
none_queued (client ∷ clients) =
    sum_by-cons (λ (one : Client). cond (goes_so queued one) 1 0) (resting client.requests []) (map (λ one. resting one.requests []) clients) ∙ (zero_plus (count_by (goes_so queued) (map (λ one. resting one.requests []) clients)) ∙ none_queued clients)
  where
    zero_plus : (n : ℕ) → 0 + n ≡ n
    zero_plus n = omega arith

-- the steps of each request are of events so far
steps_early : (t : Traced) → have_risen t ≡ true → (number : ℕ) (client : Client) (doing : Doing) → client_at t.machine.clients number ≡ Some client → client.now ≡ Some doing
    → list_all (λ step. nat_le step.event (t.machine.event + 1)) doing.steps ≡ true
steps_early t risen number client doing here now =
    weaker_all so_far (λ step. nat_le step.event (t.machine.event + 1)) doing.steps
    (λ step is. let below = le_from step.event t.machine.event (and_parts (nat_le step.event t.machine.event) (nat_le step.done.now t.machine.tick) is).0 in le_to step.event (t.machine.event + 1) (omega arith))
    (and_parts (list_all so_far doing.steps) (rise (map (λ step. step.event) doing.steps) && rise (map (λ step. step.done.now) doing.steps)) (doing_course (steps_rise t) t number client doing risen here now)).0
  where
    so_far : Step → Bool
    so_far step = nat_le step.event t.machine.event && nat_le step.done.now t.machine.tick

pub queue_law : IsKept are_queued
queue_law = record {
  at_start = λ document. queue_to (traced_start document) (record { rises = refl; once = refl; apart_is = refl; count = sym (none_queued document.clients) });
  at_event = λ before after old new event note items left one inv.
      let by : Followed old.setting old.machine event note items left new.machine = follow_happens old.setting old.machine event note items left new.machine one.follows in
      queue_to new (happens_queue old.setting (at_event old.machine) (queue_from old inv.hold.queue) (steps_early old inv.basic.steps) items left by.kind new.machine by.happens);
}
