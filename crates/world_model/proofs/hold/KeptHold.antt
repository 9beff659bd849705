-- Of Hold, test by test, at the start and behind each event.
use Rattle.std.proofs.Common.{◌≡◌, refl, true, length, ℕ, ◌+◌, Some, List, [], ◌∷◌, map, sym, subst, ◌∙◌, cond, count_by, arith, ◌&&◌}
use Rattle.std.specs.List.{list_all}
use Rattle.outage_schedule.specs.declared.document.Client.{Client as Scripted}
use Rattle.outage_schedule.specs.declared.document.Document.{Document}
use Rattle.world_model.specs.meaning.Settings.{Setting, setting_of}
use Rattle.world_model.specs.meaning.Clients.{Client, Doing, client_at, resting}
use Rattle.world_model.proofs.script.ClientsReady.{waits_unbegun}
use Rattle.world_model.proofs.events.Tests.{le_to}
use Rattle.std.proofs.lemmas.Bool.{and_from}
use Rattle.std.proofs.lemmas.List.Sums.{sum_by-cons}
use Rattle.std.specs.Prelude.{◌==◌, nat_le}
use Rattle.world_model.specs.Traced.{courses_of_clients}
use Rattle.world_model.specs.Reached.{traced_start}
use Rattle.world_model.specs.OrderlyLaws.{IsKept}
use Rattle.world_model.specs.records.Hold.{are_had, is_held, are_held, are_idle, slots_held, are_opened, is_by_held, are_by_held}
use Rattle.server_model.specs.Seen.{Seen}
use Rattle.outage_schedule.specs.declared.event.Event.{Event}
use Rattle.outage_schedule.specs.declared.note.Note.{Note}
use Rattle.outage_schedule.specs.declared.item.Served.{Served}
use Rattle.world_model.specs.Traced.{Traced}
use Rattle.world_model.specs.Orderly.{Orderly}
use Rattle.world_model.specs.OneEvent.{OneEvent}
use Rattle.world_model.proofs.events.Happened.{Followed, follow_happens, at_event}
use Rattle.client_model.specs.declared.input.Wants.TheVariants as wants
use Rattle.world_model.proofs.wire.SentLinks.{IsHeld, slot_waits}
use Rattle.world_model.proofs.script.Strangers.{frame_now}
use Rattle.world_model.proofs.basic.BasicSessions.{all_wired}
use Rattle.world_model.proofs.wire.LinkOut.{awaits_out}
use Rattle.world_model.proofs.wire.LinkStage.{ready_left}
use Rattle.world_model.proofs.hold.IdleAll.{happens_rest}
use Rattle.world_model.specs.meaning.Frames.{Owner}
use Rattle.world_model.proofs.events.Courses.{all_courses_by, held_busy}
use Rattle.world_model.proofs.hold.Held.{held_now}
use Rattle.world_model.proofs.hold.HeldAgain.{again_now}
use Rattle.world_model.proofs.hold.HeldEvents.{Stands}
use Rattle.world_model.proofs.hold.HeldAll.{held_after}
use Rattle.world_model.proofs.wire.KeptWire.{all_orderly}
use Rattle.world_model.proofs.hold.SlotsLent.{holds_slot_now, slots_count}
use Rattle.world_model.proofs.hold.SlotsAll.{happens_lent}
use Rattle.world_model.proofs.hold.HadKept.{had_all}
use Rattle.world_model.proofs.hold.HadAll.{had_after}
use Rattle.world_model.proofs.hold.PoolOpened.{happens_opened, opened_kept}

pub opened_law : IsKept are_opened
opened_law = record {
  at_start = λ document. refl;
  at_event = λ before after old new event note items left one inv.
      let by : Followed old.setting old.machine event note items left new.machine = follow_happens old.setting old.machine event note items left new.machine one.follows in
      opened_kept (at_event old.machine) new.machine (happens_opened old.setting (at_event old.machine) items left by.kind new.machine by.happens) inv.hold.opened;
}

-- without a client none holds a connection
none_held : (document : Document) (setting : Setting) (number : ℕ) (clients : List Scripted) → list_all (is_held (traced_start document)) (courses_of_clients setting number (map (λ client. resting client.requests []) clients)) ≡ true
none_held document setting number [] = refl
none_held document setting number (client ∷ clients) = none_held document setting (number + 1) clients

-- of each request, that it has its connection and goes by what is held there
held_both : (before after : Seen) (old new : Traced) (event : Event) (note : Note) (items left : List Served) → OneEvent before old event note items left after new → Orderly old
    → (number : ℕ) (client : Client) (doing : Doing) → client_at new.machine.clients number ≡ Some client → client.now ≡ Some doing → Stands new.machine.links (record { client = number; place = length client.past }) doing
held_both before after old new event note items left one inv =
    let by : Followed old.setting old.machine event note items left new.machine = follow_happens old.setting old.machine event note items left new.machine one.follows in
    held_after old inv.hold.had inv.hold.held (held_now old inv).idle (all_orderly old.machine.links inv.wire.sent inv.wire.replies inv.wire.handled inv.basic.life) inv.basic.ended inv.hold.by_held (again_now old inv)
    items left by.kind new.machine by.happens

pub held_law : IsKept are_held
held_law = record {
  at_start = λ document. none_held document (setting_of document) 1 document.clients;
  at_event = λ before after old new event note items left one inv.
      all_courses_by (is_held new) new (λ client place past. refl) (λ number client doing here now. (held_both before after old new event note items left one inv number client doing here now).0);
}

-- without a client none goes by an identifier
none_by : (document : Document) (setting : Setting) (number : ℕ) (clients : List Scripted) → list_all (is_by_held (traced_start document)) (courses_of_clients setting number (map (λ client. resting client.requests []) clients)) ≡ true
none_by document setting number [] = refl
none_by document setting number (client ∷ clients) = none_by document setting (number + 1) clients

pub by_held_law : IsKept are_by_held
by_held_law = record {
  at_start = λ document. none_by document (setting_of document) 1 document.clients;
  at_event = λ before after old new event note items left one inv.
      all_courses_by (is_by_held new) new (λ client place past. refl) (λ number client doing here now. (held_both before after old new event note items left one inv number client doing here now).1);
}

pub idle_law : IsKept are_idle
idle_law = record {
  at_start = λ document. refl;
  at_event = λ before after old new event note items left one inv.
      let by : Followed old.setting old.machine event note items left new.machine = follow_happens old.setting old.machine event note items left new.machine one.follows in
      let known : IsHeld old.setting (at_event old.machine) = held_now old inv in
      happens_rest old.setting (at_event old.machine) inv.hold.idle known.apart (all_wired old.machine.links inv.wire.sent inv.wire.grammar inv.wire.replies inv.wire.handled) inv.wire.fresh
      (λ number doing connection link is has there.
      let owner : Owner = record { client = number; place = length is.client.past } in
      awaits_out owner doing.talk.phase link (known.out number is.client doing connection link is.here (frame_now old.setting (at_event old.machine) number doing is) has there))
      (λ number doing connection link is has there. held_busy old connection link number is.client doing inv.hold.had there is.here (frame_now old.setting (at_event old.machine) number doing is) has)
      (λ number doing is.
      ready_left old.setting.terms doing (known.ready number doing wants.Slot is) (waits_unbegun doing.talk.phase (slot_waits old.setting.terms doing.talk doing.talk.phase old.machine.tick is.wants)))
      items left by.kind new.machine by.happens;
}

pub had_law : IsKept are_had
had_law = record {
  at_start = λ document. refl;
  at_event = λ before after old new event note items left one inv.
      let by : Followed old.setting old.machine event note items left new.machine = follow_happens old.setting old.machine event note items left new.machine one.follows in
      let known : IsHeld old.setting (at_event old.machine) = held_now old inv in
      had_all new
      (had_after old inv.hold.had inv.hold.held known.idle (all_orderly old.machine.links inv.wire.sent inv.wire.replies inv.wire.handled inv.basic.life) inv.basic.ended
      (λ number doing is.
      ready_left old.setting.terms doing (known.ready number doing wants.Slot is) (waits_unbegun doing.talk.phase (slot_waits old.setting.terms doing.talk doing.talk.phase old.machine.tick is.wants)))
      items left by.kind new.machine by.happens (idle_law.at_event before after old new event note items left one inv));
}

-- without a request in course no slot is held
none_lent : (clients : List Scripted) → count_by holds_slot_now (map (λ client. resting client.requests []) clients) ≡ 0
none_lent [] = refl
none_lent (client ∷ clients) =
    sum_by-cons (λ (one : Client). cond (holds_slot_now one) 1 0) (resting client.requests []) (map (λ one. resting one.requests []) clients) ∙ (zero_plus (count_by holds_slot_now (map (λ one. resting one.requests []) clients)) ∙ none_lent clients)
  where
    zero_plus : (n : ℕ) → 0 + n ≡ n
    zero_plus n = omega arith

pub lent_law : IsKept slots_held
lent_law = record {
  at_start = λ document.
      let clients : List Client = map (λ client. resting client.requests []) document.clients in
      subst (λ (n : ℕ). ((0 == n) && nat_le 0 document.service.pool.max) ≡ true) (sym (slots_count (setting_of document) 1 clients ∙ none_lent document.clients))
      (and_from true (nat_le 0 document.service.pool.max) refl (le_to 0 document.service.pool.max (omega arith)));
  at_event = λ before after old new event note items left one inv.
      let by : Followed old.setting old.machine event note items left new.machine = follow_happens old.setting old.machine event note items left new.machine one.follows in
      subst (λ (n : ℕ). ((new.machine.pool.lent == n) && nat_le new.machine.pool.lent new.machine.pool.max) ≡ true) (sym (slots_count new.setting 1 new.machine.clients))
      (happens_lent old.setting (at_event old.machine)
      (subst (λ (n : ℕ). ((old.machine.pool.lent == n) && nat_le old.machine.pool.lent old.machine.pool.max) ≡ true) (slots_count old.setting 1 old.machine.clients) inv.hold.lent) items left by.kind new.machine by.happens);
}
