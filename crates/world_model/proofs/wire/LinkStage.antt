-- Of each connection: what was sent keeps to the grammar.
use Rattle.std.proofs.Common.{◌≡◌, refl, sym, ap, subst, ◌∙◌, Bool, true, false, ℕ, ◌&&◌, length, List, [], ◌∷◌, ◌++◌, fold, Option, Some, None}
use Rattle.std.specs.Prelude.{◌==◌, not, is_some, is_none, slice_get}
use Rattle.std.specs.List.{last_or}
use Rattle.std.specs.Option.{option_map_or}
use Rattle.std.proofs.lemmas.Bool.{and_parts, not-true}
use Rattle.std.proofs.lemmas.List.Sums.{fold-append}
use Rattle.svc_values.specs.declared.value.Value.{Value}
use Rattle.svc_values.specs.declared.call.Call.{Call}
use Rattle.svc_values.specs.declared.entry.Ltxid.{Ltxid}
use Rattle.svc_values.specs.declared.frame.Up.{Up}
use Rattle.svc_values.specs.declared.frame.Up.TheVariants as up
use Rattle.pool_core.specs.meaning.Slots.{Slots, give_back_answer}
use Rattle.request_bounds.specs.declared.rule.Why.{Why}
use Rattle.client_model.specs.meaning.States.{Living}
use Rattle.client_model.specs.declared.input.Input.TheVariants.{Took}
use Rattle.client_model.specs.meaning.Terms.{Terms, Talk, Phase, Asked, Replaying, unsubmitted}
use Rattle.client_model.specs.meaning.Talk.{Step, begin_of, sends_or_ends, next_call, on_hello, takes as taken_by}
use Rattle.world_model.specs.meaning.Settings.{Setting}
use Rattle.world_model.specs.meaning.Frames.{Owner, Sent, Reply}
use Rattle.world_model.specs.meaning.Links.{Link, new_link, sends, takes}
use Rattle.world_model.specs.meaning.Clients.{Doing}
use Rattle.world_model.specs.meaning.Acting.{sent_by, call_in}
use Rattle.world_model.specs.meaning.Machines.{Machine}
use Rattle.world_model.specs.meaning.Serving.{after_front}
use Rattle.world_model.specs.meaning.Outside.{closed_by_drain}
use Rattle.world_model.specs.Words.{held_in}
use Rattle.world_model.specs.records.Hold.{is_idle, is_end, is_awaited}
use Rattle.world_model.specs.Parts.{is_answered, is_out, count_reps, implies}
use Rattle.world_model.specs.records.Ready.{alters_none, forgets_commits, repeats_rightly, is_waiting, is_unbegun, records_rightly, is_ready}
use Rattle.world_model.specs.Sames.{same_owner, same_owners, is_of, owned_by}
use Rattle.world_model.specs.records.Wire.{Stage, New, Begun, Rested, stage_if, stage_of, is_right}
use Rattle.world_model.proofs.script.ClientsReady.{waits_unbegun}
use Rattle.world_model.proofs.wire.SameSelf.{owner_self}
use Rattle.world_model.proofs.wire.Fronts.{moved}
use Rattle.world_model.proofs.basic.Ends.{sends_alike, handled_alike, cut_case, fallen_case}
use Rattle.world_model.proofs.basic.LinkLives.{no_test, implied}
use Rattle.world_model.proofs.wire.Saying.{has_next, said, repeats_in, is_hushed}
use Rattle.world_model.proofs.events.AllLinks.{KeepsServed}
use Rattle.world_model.proofs.wire.SentLinks.{spoken_by, awaits, is_strange, KeepsSent}
use Rattle.world_model.proofs.script.Strangers.{same_owner_is, owned_is}
use Rattle.world_model.proofs.wire.Stages.{behind, is_begin, stage_is, last_all, stage_in, awaited_leads, awaited_on, answered_other, fits, said_right}

abbrev pub keeps_grammar : Link → Bool
keeps_grammar link = is_right (stage_of link)

-- frames that go on rightly from where the connection stands
sends_right : (event : ℕ) (frames : List Sent) (link : Link) (stage : Stage) → stage_of link ≡ stage → is_right (fold moved stage frames) ≡ true → keeps_grammar (sends event frames link) ≡ true
sends_right event frames link stage is right =
    let here : is_right (fold moved New (link.sent ++ frames)) ≡ true =
    ap is_right (fold-append moved New link.sent frames) ∙ (ap (λ (one : Stage). is_right (fold moved one frames)) is ∙ right) in
    sends_alike (λ one. keeps_grammar one ≡ true) event frames link here here

-- THE LAST FRAME ----------------------------------------------------------------------------------

record LastIs (link : Link) (test : Sent → Bool) : Type 0 where
  pub last : Sent
  pub is_last : last_or None link.sent ≡ Some last
  pub passes : test last ≡ true

last_found : (link : Link) (test : Sent → Bool) (found : Option Sent) → last_or None link.sent ≡ found → option_map_or test found false ≡ true → LastIs link test
last_found link test None is passes = absurd (let none : ⊥ = cc in none)
last_found link test (Some last) is passes = record { last = last; is_last = is; passes = passes }

idle_last : (link : Link) → is_idle link ≡ true → LastIs link (λ sent. is_end sent.frame)
idle_last link idle =
    let one = and_parts link.is_open _ idle in
    let two = and_parts (is_some link.held) _ one.1 in
    let three = and_parts (count_reps link.sent == length link.taken) (option_map_or (λ sent. is_end sent.frame) (last_or None link.sent) false) two.1 in
    last_found link (λ sent. is_end sent.frame) (last_or None link.sent) refl three.1

end_rests : (frame : Up) (owner : Option Owner) → is_end frame ≡ true → behind frame owner ≡ Rested owner
end_rests up.End owner is = refl
end_rests frame owner is = absurd (let none : ⊥ = cc in none)

end_other : (frame : Up) → is_end frame ≡ true → is_begin frame ≡ false
end_other up.End is = refl
end_other frame is = absurd (let none : ⊥ = cc in none)

idle_stage : (link : Link) (found : LastIs link (λ sent. is_end sent.frame)) → keeps_grammar link ≡ true → stage_of link ≡ Rested found.last.owner
idle_stage link found right = stage_is link found.last found.is_last (end_other found.last.frame found.passes) right ∙ end_rests found.last.frame found.last.owner found.passes

-- LENT --------------------------------------------------------------------------------------------

other_owner : (owner : Owner) (found : Option Owner) → is_of owner found ≡ false → same_owners found (Some owner) ≡ false
other_owner owner None is = refl
other_owner owner (Some other) is = by (same_owner other owner) refl
  where
    by : (same : Bool) → same_owner other owner ≡ same → same ≡ false
    by false here = refl
    by true here =
        let mine : same_owner owner other ≡ true = subst (λ (one : Owner). same_owner owner one ≡ true) (sym (same_owner_is other owner here)) (owner_self owner) in
        absurd (let none : ⊥ = cc in none)

-- Begin, and the first call
lent_right : (owner : Owner) (call : ℕ) (found : Option Owner) (settings : List (List ℕ × Value)) (one : Call) → is_of owner found ≡ false
    → is_right (fold moved (Rested found) (sent_by owner call (up.Begin settings) ∷ sent_by owner call (up.Call false [] one) ∷ [])) ≡ true
lent_right owner call found settings one strange =
    fits owner call (Rested found) (Begun (Some owner)) (up.Begin settings) (sent_by owner call (up.Call false [] one) ∷ [])
    (ap (λ (test : Bool). stage_if (not test) (Begun (Some owner))) (other_owner owner found strange))
    (fits owner call (Begun (Some owner)) (Begun (Some owner)) (up.Call false [] one) [] (ap (λ (test : Bool). stage_if test (Begun (Some owner))) (owner_self owner)) refl)

next_right : (terms : Terms) (owner : Owner) (talk : Talk) (state : Living) (pool : Slots) (number now : ℕ) (found : Option Owner) (next : Option Call) → is_some next ≡ true → is_of owner found ≡ false
    → is_right (fold moved (Rested found) (spoken_by owner pool number (sends_or_ends terms talk state true (begin_of talk ∷ []) None now next))) ≡ true
next_right terms owner talk state pool number now found None some strange = absurd (let none : ⊥ = cc in none)
next_right terms owner talk state pool number now found (Some call) some strange = lent_right owner state.track.call found talk.settings call strange

pub left_some : (calls : List Call) → not (length calls == 0) ≡ true → is_some (slice_get calls 0) ≡ true
left_some [] is = absurd (let none : ⊥ = cc in none)
left_some (call ∷ calls) is = refl

pub ready_left : (terms : Terms) (doing : Doing) → is_ready terms doing ≡ true → is_unbegun doing.talk.phase ≡ true → has_next doing.talk ≡ true
ready_left terms doing ready new =
    let one = and_parts (implies (is_unbegun doing.talk.phase) (not (length doing.talk.left == 0))) (implies (is_waiting doing.talk.phase) (length (held_in doing.steps) == 0) && records_rightly terms doing.talk doing.talk.phase) ready in
    left_some doing.talk.left (implied (is_unbegun doing.talk.phase) (not (length doing.talk.left == 0)) new one.0)

recorded_in : (terms : Terms) (talk : Talk) (phase : Phase) → records_rightly terms talk phase ≡ true → repeats_in phase ≡ true
recorded_in terms talk (Replaying state) here = (and_parts (alters_none state.track.recorder.calls) (forgets_commits terms) here).0
recorded_in terms talk (Asked asking) here = by asking.track.why here
  where
    by : (why : Option Why) → implies (is_none why) (repeats_rightly terms asking.track) ≡ true → implies (is_none why) (alters_none asking.track.recorder.calls) ≡ true
    by None is = (and_parts (alters_none asking.track.recorder.calls) (forgets_commits terms) is).0
    by (Some why) is = refl
recorded_in terms talk phase here = refl

ready_records : (terms : Terms) (doing : Doing) → is_ready terms doing ≡ true → repeats_in doing.talk.phase ≡ true
ready_records terms doing ready =
    let one = and_parts (implies (is_unbegun doing.talk.phase) (not (length doing.talk.left == 0))) (implies (is_waiting doing.talk.phase) (length (held_in doing.steps) == 0) && records_rightly terms doing.talk doing.talk.phase) ready in
    recorded_in terms doing.talk doing.talk.phase (and_parts (implies (is_waiting doing.talk.phase) (length (held_in doing.steps) == 0)) (records_rightly terms doing.talk doing.talk.phase) one.1).1

lends_right : (setting : Setting) (m : Machine) (owner : Owner) (doing : Doing) (ltxid : Ltxid) (pool : Slots) (number : ℕ) (link : Link) → is_ready setting.terms doing ≡ true → is_waiting doing.talk.phase ≡ true → is_strange owner link ≡ true
    → is_idle link ≡ true → keeps_grammar link ≡ true → keeps_grammar (sends m.event (spoken_by owner pool number (on_hello setting.terms doing.talk None ltxid true m.tick)) link) ≡ true
lends_right setting m owner doing ltxid pool number link ready waits strange idle here =
    let found = idle_last link idle in
    let other : is_of owner found.last.owner ≡ false = not-true (is_of owner found.last.owner) (last_all (λ (sent : Sent). not (owned_by owner sent)) link.sent found.last found.is_last strange) in
    sends_right m.event (spoken_by owner pool number (on_hello setting.terms doing.talk None ltxid true m.tick)) link (Rested found.last.owner) (idle_stage link found here)
    (next_right setting.terms owner doing.talk (record { track = unsubmitted setting.terms; ltxid = ltxid }) pool number m.tick found.last.owner (next_call doing.talk) (ready_left setting.terms doing ready (waits_unbegun doing.talk.phase waits)) other)

-- TAKEN -------------------------------------------------------------------------------------------

takes_right : (setting : Setting) (m : Machine) (owner : Owner) (doing : Doing) (pool : Slots) (number : ℕ) (link : Link) (reply : Reply) (left : List Reply) → is_ready setting.terms doing ≡ true → awaits owner doing.talk.phase link ≡ true
    → keeps_grammar link ≡ true
    → keeps_grammar (sends m.event (spoken_by owner pool number (taken_by setting.terms doing.talk doing.talk.phase reply.frame link.is_open m.tick)) (takes (Took reply.frame link.is_open) reply left link)) ≡ true
takes_right setting m owner doing pool number link reply left ready out here =
    let phase : Phase = doing.talk.phase in
    let test : Sent → Bool = λ sent. is_answered sent.frame && (owned_by owner sent && is_awaited phase sent) in
    let found = last_found link test (last_or None link.sent) refl (and_parts (is_out link) (option_map_or test (last_or None link.sent) false) out).1 in
    let one = and_parts (is_answered found.last.frame) (owned_by owner found.last && is_awaited phase found.last) found.passes in
    let two = and_parts (owned_by owner found.last) (is_awaited phase found.last) one.1 in
    let stage : stage_of link ≡ stage_in owner phase =
    stage_is link found.last found.is_last (answered_other found.last.frame one.0) here
    ∙ (ap (λ (one : Option Owner). behind found.last.frame one) (owned_is owner found.last two.0) ∙ awaited_leads owner phase found.last two.1) in
    let step : Step = taken_by setting.terms doing.talk phase reply.frame link.is_open m.tick in
    sends_right m.event (spoken_by owner pool number step) (takes (Took reply.frame link.is_open) reply left link) (stage_in owner phase) stage
    (said_right owner (call_in step.0.phase) phase (has_next doing.talk) link.is_open (is_hushed reply.frame) step.0.phase step.1.send step.1.hold (give_back_answer pool number) (said setting.terms doing.talk phase reply.frame link.is_open m.tick refl)
    (awaited_on phase found.last two.1) (ready_left setting.terms doing ready) (ready_records setting.terms doing ready))

-- BY EVENTS ---------------------------------------------------------------------------------------

grammar_served : (m : Machine) → KeepsServed m no_test keeps_grammar
grammar_served m = record {
  at_serves = λ number front served at ordinary old here. handled_alike (λ one. keeps_grammar one ≡ true) m.event front served (λ reply. here) (λ reply. here);
  at_stops = λ number after front served at stopped old here. fallen_case (λ one. keeps_grammar one ≡ true) m.event (after_front front served None) (λ opens. here) (λ closed. here);
  at_cuts = λ up down link opens here. cut_case (λ one. keeps_grammar one ≡ true) m.event up down link opens here;
  at_reaps = λ link orphan here. here;
  at_falls = λ link here. fallen_case (λ one. keeps_grammar one ≡ true) m.event link (λ opens. here) (λ closed. here);
}

pub grammar_keeps : (setting : Setting) (m : Machine) → KeepsSent setting m no_test keeps_grammar
grammar_keeps setting m = record {
  at_opens = λ owner runs. sends_right m.event (sent_by owner 0 up.Connect ∷ []) new_link New refl refl;
  at_lends = λ owner doing ltxid pool number link ready waits strange idle old here. lends_right setting m owner doing ltxid pool number link ready waits strange idle here;
  at_takes = λ owner doing pool number link reply left ready out down old here. takes_right setting m owner doing pool number link reply left ready out here;
  at_drains = λ link idle old here. let found = idle_last link idle in sends_right m.event (closed_by_drain ∷ []) link (Rested found.last.owner) (idle_stage link found here) refl;
  served = grammar_served m;
}
