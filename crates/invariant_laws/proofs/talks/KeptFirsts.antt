-- Each Begin that was sent on a connection is of a request that sent no call there before: at the
-- start and behind each event.
use Rattle.std.proofs.Common.{◌≡◌, refl, sym, ap, subst, ◌∙◌, append-nil, append_assoc, Bool, true, false, ℕ, ◌&&◌, List, [], ◌∷◌, ◌++◌, map, Option, Some, None, if◌then◌else◌}
use Rattle.std.specs.Prelude.{not}
use Rattle.std.specs.List.{list_all, last_or}
use Rattle.std.specs.Option.{option_map_or}
use Rattle.std.proofs.lemmas.Bool.{and_parts, and_from}
use Rattle.svc_values.specs.declared.draw.Draw.{Draw}
use Rattle.svc_values.specs.declared.call.Call.{Call}
use Rattle.svc_values.specs.declared.frame.Up.{Up}
use Rattle.svc_values.specs.declared.frame.Up.TheVariants as up
use Rattle.svc_values.specs.declared.value.Value.{Value}
use Rattle.pool_core.specs.declared.answers.Back.{Back}
use Rattle.pool_core.specs.declared.answers.Back.TheVariants as back
use Rattle.pool_core.specs.meaning.Slots.{give_back_answer}
use Rattle.client_model.specs.declared.act.Hold.{Hold}
use Rattle.client_model.specs.declared.act.Hold.TheVariants.{GiveBack, Drop}
use Rattle.client_model.specs.declared.input.Input.TheVariants.{Took}
use Rattle.client_model.specs.meaning.Talk.{Step, if_alive, on_hello, takes as taken_by}
use Rattle.client_model.specs.meaning.Terms.{Phase, Greeting, Asked, Running, Replaying}
use Rattle.outage_schedule.specs.declared.event.Event.{Event}
use Rattle.outage_schedule.specs.declared.item.Served.{Served}
use Rattle.outage_schedule.specs.declared.note.Note.{Note}
use Rattle.server_model.specs.Seen.{Seen}
use Rattle.world_model.specs.meaning.Acting.{closing, sent_by, call_in}
use Rattle.invariant_laws.specs.FirstBegins.{is_call_by, begins_new, begin_new, begins_once, begin_once}
use Rattle.world_model.specs.meaning.Frames.{Owner, Sent}
use Rattle.world_model.specs.records.Hold.{is_awaited}
use Rattle.world_model.specs.Orderly.{Orderly}
use Rattle.world_model.specs.meaning.Links.{Link, new_link, sends, takes}
use Rattle.world_model.specs.meaning.Machines.{Machine}
use Rattle.world_model.specs.OneEvent.{OneEvent}
use Rattle.world_model.specs.meaning.Outside.{closed_by_drain}
use Rattle.world_model.specs.Parts.{is_answered, is_out}
use Rattle.world_model.specs.Reached.{Begins as BeginsRun, GoesOn}
use Rattle.world_model.specs.RunLaws.{RunsAreOrderly}
use Rattle.invariant_laws.specs.SameLaws.{HoldsAtEnds, HoldsInRuns}
use Rattle.world_model.specs.Sames.{is_of, owned_by, same_owners}
use Rattle.world_model.specs.meaning.Serving.{after_front}
use Rattle.world_model.specs.meaning.Settings.{Setting}
use Rattle.invariant_laws.specs.Shown.{is_call}
use Rattle.world_model.specs.Traced.{Traced}
use Rattle.world_model.proofs.Offered.{KeepsServed, weaker_all, handled_alike, cut_case, fallen_case, Followed, follow_happens, at_event, held_now, keeps_grammar, finishing_reached, Spoken, Quiet, SayingFails as Fails, Ends, SayingAsks as Asks, Calls, Marks, begun_in, has_next, is_hushed, opening, said, said_lent, awaits, spoken_by, KeepsSent, sent_keep, sends_more}
use Rattle.invariant_laws.proofs.rows.RowCourses.{ask_opens, connect_opens}
use Rattle.invariant_laws.proofs.rows.RowLast.{is_opening, opening_none, row_of}

-- FRAMES ------------------------------------------------------------------------------------------

new_more : (before xs ys : List Sent) → begin_new before xs ≡ true → begin_new (before ++ xs) ys ≡ true → begin_new before (xs ++ ys) ≡ true
new_more before [] ys so more = subst (λ (sents : List Sent). begin_new sents ys ≡ true) (append-nil before) more
new_more before (x ∷ xs) ys so more =
    let parts = and_parts (begins_new before x x.frame) (begin_new (before ++ x ∷ []) xs) so in
    and_from (begins_new before x x.frame) (begin_new (before ++ x ∷ []) (xs ++ ys)) parts.0
    (new_more (before ++ x ∷ []) xs ys parts.1 (subst (λ (sents : List Sent). begin_new sents ys ≡ true) (sym (append_assoc before (x ∷ []) xs)) more))

-- the request sent no call among these
abbrev calls_none : Owner → List Sent → Bool
calls_none owner sents = list_all (λ one. not (is_call_by (Some owner) one)) sents

same_test : (owner : Owner) (one : Option Owner) → same_owners (Some owner) one ≡ is_of owner one
same_test owner None = refl
same_test owner (Some other) = refl

strange_none : (owner : Owner) (sents : List Sent) → list_all (λ sent. not (owned_by owner sent)) sents ≡ true → calls_none owner sents ≡ true
strange_none owner sents strange =
    weaker_all (λ (sent : Sent). not (owned_by owner sent)) (λ (sent : Sent). not (is_call_by (Some owner) sent)) sents
    (λ sent is. ap (λ (test : Bool). not (test && is_call sent.frame)) (same_test owner sent.owner) ∙ by (owned_by owner sent) (is_call sent.frame) is) strange
  where
    by : (mine call : Bool) → not mine ≡ true → not (mine && call) ≡ true
    by true call is = absurd (let none : ⊥ = cc in none)
    by false call is = refl

row_none : (owner : Owner) (sents : List Sent) → row_of owner sents ≡ [] → calls_none owner sents ≡ true
row_none owner [] none = refl
row_none owner (sent ∷ sents) none = by (owned_by owner sent && is_call sent.frame) refl none (row_none owner sents)
  where
    by : (test : Bool) → (owned_by owner sent && is_call sent.frame) ≡ test → (if test then sent ∷ row_of owner sents else row_of owner sents) ≡ [] → (row_of owner sents ≡ [] → calls_none owner sents ≡ true)
        → calls_none owner (sent ∷ sents) ≡ true
    by true is none rest = absurd (let never : ⊥ = cc in never)
    by false is none rest =
        and_from (not (is_call_by (Some owner) sent)) (calls_none owner sents) (ap (λ (test : Bool). not (test && is_call sent.frame)) (same_test owner sent.owner) ∙ ap not is) (rest none)

-- WHAT IS SAID ------------------------------------------------------------------------------------

module _ (owner : Owner) (index : ℕ) (sents : List Sent) where
  call_new : (begun mark : Bool) (settings : List (List ℕ × Value)) (kept : List Draw) (call : Call) → (begun ≡ false → calls_none owner sents ≡ true)
      → begin_new sents (map (sent_by owner index) ((opening begun settings ++ up.Call mark kept call ∷ []) ++ [])) ≡ true
  call_new true mark settings kept call none = refl
  call_new false mark settings kept call none = and_from (calls_none owner sents) true (none refl) refl

  said_new : (how : Back) (before : Phase) (left alive hushed : Bool) (phase : Phase) (send : List Up) (held : Hold) → Spoken before left alive hushed phase send held → (begun_in before ≡ false → calls_none owner sents ≡ true)
      → begin_new sents (map (sent_by owner index) (send ++ closing held how)) ≡ true
  said_new how before left alive hushed _ _ _ (Quiet phase silent out) none = refl
  said_new how before left alive hushed _ _ _ Fails none = by alive
    where
      by : (opens : Bool) → begin_new sents (map (sent_by owner index) (if_alive opens (up.Close ∷ []) ++ [])) ≡ true
      by true = refl
      by false = refl
  said_new how before left alive hushed _ _ _ (Ends may) none = by alive how
    where
      by : (opens : Bool) (how : Back) → begin_new sents (map (sent_by owner index) (if_alive opens (up.End ∷ []) ++ closing (if opens then GiveBack else Drop) how)) ≡ true
      by true back.Closed = refl
      by true how = refl
      by false how = refl
  said_new how before left alive hushed _ _ _ (Asks opens may asking) none = refl
  said_new how before left alive hushed _ _ _ (Calls opens settings call state) none = call_new (begun_in before) false settings [] call none
  said_new how before left alive hushed _ _ _ (Marks opens may settings one state next plain) none = call_new (begun_in before) true settings one.draws one.call none

new_sends : (event : ℕ) (frames : List Sent) (link : Link) → begin_new link.sent frames ≡ true → begins_once link ≡ true → begins_once (sends event frames link) ≡ true
new_sends event frames link more here = ap (begin_new []) (sends_more event frames link) ∙ new_more [] link.sent frames here more

-- where no Begin was sent for it, the request waits for a Hello or an outcome
awaits_none : (owner : Owner) (phase : Phase) (link : Link) → keeps_grammar link ≡ true → awaits owner phase link ≡ true → begun_in phase ≡ false → calls_none owner link.sent ≡ true
awaits_none owner phase link right out before = by (last_or None link.sent) refl (and_parts (is_out link) (option_map_or (λ sent. is_answered sent.frame && (owned_by owner sent && is_awaited phase sent)) (last_or None link.sent) false) out).1
  where
    opens : (phase : Phase) (sent : Sent) → begun_in phase ≡ false → is_awaited phase sent ≡ true → is_opening sent.frame ≡ true
    opens (Greeting lost) sent before is = connect_opens sent.frame is
    opens (Asked asking) sent before is = ask_opens asking.ltxid sent.frame is
    opens (Running state) sent before is = absurd (let none : ⊥ = cc in none)
    opens (Replaying state) sent before is = absurd (let none : ⊥ = cc in none)
    opens phase sent before is = absurd (let none : ⊥ = cc in none)

    by : (found : Option Sent) → last_or None link.sent ≡ found → option_map_or (λ sent. is_answered sent.frame && (owned_by owner sent && is_awaited phase sent)) found false ≡ true → calls_none owner link.sent ≡ true
    by None is passes = absurd (let none : ⊥ = cc in none)
    by (Some last) is passes =
        let one = and_parts (is_answered last.frame) (owned_by owner last && is_awaited phase last) passes in
        let two = and_parts (owned_by owner last) (is_awaited phase last) one.1 in
        row_none owner link.sent (opening_none owner link last is (opens phase last before two.1) right)

-- EVENTS ------------------------------------------------------------------------------------------

new_served : (m : Machine) → KeepsServed m keeps_grammar begins_once
new_served m = record {
  at_serves = λ number front served at ordinary old here. handled_alike (λ one. begins_once one ≡ true) m.event front served (λ reply. here) (λ reply. here);
  at_stops = λ number after front served at stopped old here. fallen_case (λ one. begins_once one ≡ true) m.event (after_front front served None) (λ opens. here) (λ closed. here);
  at_cuts = λ up down link opens here. cut_case (λ one. begins_once one ≡ true) m.event up down link opens here;
  at_reaps = λ link orphan here. here;
  at_falls = λ link here. fallen_case (λ one. begins_once one ≡ true) m.event link (λ opens. here) (λ closed. here);
}

new_keeps : (setting : Setting) (m : Machine) → KeepsSent setting m keeps_grammar begins_once
new_keeps setting m = record {
  at_opens = λ owner runs. new_sends m.event (sent_by owner 0 up.Connect ∷ []) new_link refl refl;
  at_lends = λ owner doing ltxid pool number link ready waits strange idle old here.
      let step : Step = on_hello setting.terms doing.talk None ltxid true m.tick in
      new_sends m.event (spoken_by owner pool number step) link
      (said_new owner (call_in step.0.phase) link.sent (give_back_answer pool number) (Greeting None) (has_next doing.talk) true false step.0.phase step.1.send step.1.hold (said_lent setting.terms doing.talk ltxid m.tick)
      (λ none. strange_none owner link.sent strange)) here;
  at_takes = λ owner doing pool number link reply left ready out down old here.
      let step : Step = taken_by setting.terms doing.talk doing.talk.phase reply.frame link.is_open m.tick in
      new_sends m.event (spoken_by owner pool number step) (takes (Took reply.frame link.is_open) reply left link)
      (said_new owner (call_in step.0.phase) link.sent (give_back_answer pool number) doing.talk.phase (has_next doing.talk) link.is_open (is_hushed reply.frame) step.0.phase step.1.send step.1.hold
      (said setting.terms doing.talk doing.talk.phase reply.frame link.is_open m.tick refl) (λ none. awaits_none owner doing.talk.phase link old out none)) here;
  at_drains = λ link idle old here. new_sends m.event (closed_by_drain ∷ []) link refl here;
  served = new_served m;
}

event_new : (before after : Seen) (old new : Traced) (event : Event) (note : Note) (items left : List Served) → OneEvent before old event note items left after new → Orderly old → begin_once old ≡ true → begin_once new ≡ true
event_new before after old new event note items left one inv was =
    let by : Followed old.setting old.machine event note items left new.machine = follow_happens old.setting old.machine event note items left new.machine one.follows in
    sent_keep old.setting (at_event old.machine) keeps_grammar begins_once (new_keeps old.setting (at_event old.machine)) (held_now old inv) inv.wire.grammar was items left by.kind new.machine by.happens

pub runs_begin_once : RunsAreOrderly → HoldsInRuns begin_once
runs_begin_once orderly document _ _ _ _ _ calls (BeginsRun seen start history horizon coupled) = refl
runs_begin_once orderly document _ _ _ _ _ calls (GoesOn events notes items more before after old new event note reached one forgets) =
    event_new before after old new event note more [] one (orderly document events notes items before old calls reached) (runs_begin_once orderly document events notes items before old calls reached)

pub whole_runs_begin_once : RunsAreOrderly → HoldsAtEnds begin_once
whole_runs_begin_once orderly document notes items seen t calls run =
    let so = finishing_reached document run.place notes items seen t run.finishing in runs_begin_once orderly document so.0 notes items seen t calls so.1
