-- The tests of Basic that speak of the sessions of all connections, at the start and behind each
-- event.
use Rattle.std.proofs.Common.{◌≡◌, refl, sym, ap, ◌∙◌, Bool, true, ◌++◌, List, [], Some, None}
use Rattle.std.specs.List.{list_all}
use Rattle.svc_values.specs.declared.entry.SessionId.{SessionId}
use Rattle.server_model.specs.Seen.{Seen}
use Rattle.outage_schedule.specs.declared.event.Event.{Event}
use Rattle.outage_schedule.specs.declared.event.Event.TheVariants as event
use Rattle.outage_schedule.specs.declared.note.Note.{Note}
use Rattle.outage_schedule.specs.declared.note.Note.TheVariants as note
use Rattle.outage_schedule.specs.declared.item.Served.{Served}
use Rattle.world_model.specs.meaning.Noting.{only_if}
use Rattle.world_model.specs.meaning.Matching.{Noted, Went, ServedOn, CutOff, Reaped, Opened, OpeningStopped, Ticked, RanOutside, Asked, Drained, matched}
use Rattle.world_model.specs.Traced.{Traced}
use Rattle.world_model.specs.Orderly.{Orderly}
use Rattle.world_model.specs.OneEvent.{OneEvent, session_outside}
use Rattle.world_model.specs.records.Basic.{items_differ, sessions_differ, are_made, are_counted, are_named}
use Rattle.world_model.specs.OrderlyLaws.{IsKept}
use Rattle.world_model.proofs.events.Kept.{only_is}
use Rattle.world_model.proofs.events.Happened.{Followed, follow_happens}
use Rattle.world_model.proofs.basic.Census.{IsRight}
use Rattle.world_model.proofs.basic.NamesKept.{is_wired}
use Rattle.world_model.proofs.basic.SessionsGrow.{census, made_by}
use Rattle.world_model.proofs.basic.BasicSessions.{all_wired, named_kept, census_kept, one_item_kept}

-- another note than that of a run outside
made_none : (t : Traced) (kind : Noted) (test : Bool) (one : Noted) → made_by t.machine.server one ≡ [] → only_if test one ≡ Some kind → [] ≡ made_by t.machine.server kind
made_none t kind test one none is = sym (ap (made_by t.machine.server) (sym (only_is test one kind is)) ∙ none)

-- the session that the note tells of is that of its kind
pub outside_is : (t : Traced) (event : Event) (note : Note) (kind : Noted) → matched event note ≡ Some kind → session_outside t note ≡ made_by t.machine.server kind
outside_is t (event.Go client) (note.Go named did) kind is = made_none t kind _ (Went client did) refl is
outside_is t (event.Serve connection) (note.Serve named frame) kind is = made_none t kind _ (ServedOn connection frame) refl is
outside_is t (event.Cut connection up down) (note.Cut named reached) kind is = made_none t kind _ (CutOff connection up down reached) refl is
outside_is t (event.Reap connection) (note.Reap named reaped) kind is = made_none t kind _ (Reaped connection reaped) refl is
outside_is t (event.Crash connection after pick) (note.Crash named down) kind is = made_none t kind _ _ refl is
outside_is t event.Up (note.Up incarnation) kind is = made_none t kind true (Opened incarnation) refl is
outside_is t (event.UpCrash after pick) (note.UpCrash made) kind is = made_none t kind true (OpeningStopped made) refl is
outside_is t event.Tick note.Tick kind is = made_none t kind true Ticked refl is
outside_is t (event.Outside calls) (note.Outside None) kind is = made_none t kind true (RanOutside None) refl is
outside_is t (event.Outside calls) (note.Outside (Some ran)) kind is = ap (made_by t.machine.server) (only_is true (RanOutside (Some ran)) kind is)
outside_is t (event.Ask ltxid) (note.Ask named told) kind is = made_none t kind _ (Asked ltxid told) refl is
outside_is t event.Drain (note.Drain closed) kind is = made_none t kind true (Drained closed) refl is
outside_is t event note kind is = absurd (let never : ⊥ = cc in never)

wired : (t : Traced) → Orderly t → list_all is_wired t.machine.links ≡ true
wired t inv = all_wired t.machine.links inv.wire.sent inv.wire.grammar inv.wire.replies inv.wire.handled

pub right : (before after : Seen) (old new : Traced) (event : Event) (note : Note) (items left : List Served) → OneEvent before old event note items left after new
    → Orderly old → IsRight (census new.machine new.outside)
right before after old new event note items left one inv =
    let by : Followed old.setting old.machine event note items left new.machine = follow_happens old.setting old.machine event note items left new.machine one.follows in
    census_kept old.setting old.machine items left by.kind new.machine by.happens old.outside new.outside (wired old inv) inv.basic.named
    (one.outside ∙ ap (λ (more : List SessionId). old.outside ++ more) (outside_is old event note by.kind by.is_kind))
    (record { apart = inv.basic.apart; made = inv.basic.made; counted = inv.basic.counted })

pub apart_law : IsKept sessions_differ
apart_law = record {
  at_start = λ document. refl;
  at_event = λ before after old new event note items left one inv. (right before after old new event note items left one inv).apart;
}

pub made_law : IsKept are_made
made_law = record {
  at_start = λ document. refl;
  at_event = λ before after old new event note items left one inv. (right before after old new event note items left one inv).made;
}

pub counted_law : IsKept are_counted
counted_law = record {
  at_start = λ document. refl;
  at_event = λ before after old new event note items left one inv. (right before after old new event note items left one inv).counted;
}

pub named_law : IsKept are_named
named_law = record {
  at_start = λ document. refl;
  at_event = λ before after old new event note items left one inv.
      let by : Followed old.setting old.machine event note items left new.machine = follow_happens old.setting old.machine event note items left new.machine one.follows in
      named_kept old.setting old.machine items left by.kind new.machine by.happens (wired old inv) inv.basic.named;
}

pub one_item_law : IsKept items_differ
one_item_law = record {
  at_start = λ document. refl;
  at_event = λ before after old new event note items left one inv.
      let by : Followed old.setting old.machine event note items left new.machine = follow_happens old.setting old.machine event note items left new.machine one.follows in
      one_item_kept old.setting old.machine items left by.kind new.machine by.happens inv.basic.items inv.basic.one_item;
}
