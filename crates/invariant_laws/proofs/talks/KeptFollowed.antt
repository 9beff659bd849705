-- Each Begin that was sent on a connection is followed at once by a call of its request, of the
-- index that it has: at the start and behind each event.
use Rattle.std.proofs.Common.{◌≡◌, refl, ap, ◌∙◌, Bool, true, false, ℕ, ◌&&◌, List, [], ◌∷◌, ◌++◌, map, Option, Some, None, if◌then◌else◌}
use Rattle.std.specs.Prelude.{◌==◌}
use Rattle.std.specs.Option.{option_map_or}
use Rattle.std.proofs.lemmas.Bool.{and_parts, and_from}
use Rattle.svc_values.specs.declared.call.Call.{Call}
use Rattle.svc_values.specs.declared.draw.Draw.{Draw}
use Rattle.svc_values.specs.declared.frame.Up.{Up}
use Rattle.svc_values.specs.declared.frame.Up.TheVariants as up
use Rattle.svc_values.specs.declared.value.Value.{Value}
use Rattle.pool_core.specs.declared.answers.Back.{Back}
use Rattle.pool_core.specs.declared.answers.Back.TheVariants as back
use Rattle.pool_core.specs.meaning.Slots.{give_back_answer}
use Rattle.client_model.specs.declared.act.Hold.{Hold}
use Rattle.client_model.specs.declared.act.Hold.TheVariants.{GiveBack, Drop}
use Rattle.client_model.specs.declared.input.Input.TheVariants.{Took}
use Rattle.client_model.specs.meaning.Talk.{Step, if_alive, on_hello, takes as taken_by}
use Rattle.client_model.specs.meaning.Terms.{Phase, Greeting}
use Rattle.world_model.specs.meaning.Acting.{closing, sent_by, call_in}
use Rattle.invariant_laws.specs.Begins.{are_followed, begin_in, begins_followed, follows_begin, followed_at_once}
use Rattle.world_model.specs.meaning.Frames.{Owner, Sent}
use Rattle.invariant_laws.specs.KeptLaws.{StaysTrue}
use Rattle.world_model.specs.meaning.Links.{Link, new_link, sends, takes}
use Rattle.world_model.specs.meaning.Machines.{Machine}
use Rattle.world_model.specs.meaning.Outside.{closed_by_drain}
use Rattle.world_model.specs.Sames.{same_owners}
use Rattle.world_model.specs.meaning.Serving.{after_front}
use Rattle.world_model.specs.meaning.Settings.{Setting}
use Rattle.world_model.proofs.Offered.{KeepsServed, every_all, handled_alike, cut_case, fallen_case, Followed, follow_happens, at_event, held_now, no_test, owner_self, Spoken, Quiet, SayingFails as Fails, Ends, SayingAsks as Asks, Calls, Marks, begun_in, has_next, is_hushed, opening, said, said_lent, spoken_by, KeepsSent, sent_keep, sends_more, eq_to}

-- FRAMES ------------------------------------------------------------------------------------------

followed_more : (begin : Option Sent) (xs ys : List Sent) → followed_at_once begin xs ≡ true → followed_at_once None ys ≡ true → followed_at_once begin (xs ++ ys) ≡ true
followed_more None [] ys so more = more
followed_more (Some begin) [] ys so more = absurd (let none : ⊥ = cc in none)
followed_more begin (x ∷ xs) ys so more =
    let parts = and_parts (option_map_or (λ one. follows_begin one x) begin true) (followed_at_once (begin_in x) xs) so in
    and_from (option_map_or (λ one. follows_begin one x) begin true) (followed_at_once (begin_in x) (xs ++ ys)) parts.0 (followed_more (begin_in x) xs ys parts.1 more)

-- with a call behind, of whichever mark
call_followed : (owner : Owner) (index : ℕ) (begun mark : Bool) (settings : List (List ℕ × Value)) (kept : List Draw) (call : Call)
    → followed_at_once None (map (sent_by owner index) ((opening begun settings ++ up.Call mark kept call ∷ []) ++ [])) ≡ true
call_followed owner index true mark settings kept call = refl
call_followed owner index false mark settings kept call =
    and_from ((index == index) && same_owners (Some owner) (Some owner)) true (and_from (index == index) (same_owners (Some owner) (Some owner)) (eq_to index index refl) (owner_self owner)) refl

said_followed : (owner : Owner) (index : ℕ) (how : Back) (before : Phase) (left alive hushed : Bool) (phase : Phase) (send : List Up) (held : Hold) → Spoken before left alive hushed phase send held
    → followed_at_once None (map (sent_by owner index) (send ++ closing held how)) ≡ true
said_followed owner index how before left alive hushed _ _ _ (Quiet phase silent out) = refl
said_followed owner index how before left alive hushed _ _ _ Fails = by alive
  where
    by : (opens : Bool) → followed_at_once None (map (sent_by owner index) (if_alive opens (up.Close ∷ []) ++ [])) ≡ true
    by true = refl
    by false = refl
said_followed owner index how before left alive hushed _ _ _ (Ends may) = by alive how
  where
    by : (opens : Bool) (how : Back) → followed_at_once None (map (sent_by owner index) (if_alive opens (up.End ∷ []) ++ closing (if opens then GiveBack else Drop) how)) ≡ true
    by true back.Closed = refl
    by true how = refl
    by false how = refl
said_followed owner index how before left alive hushed _ _ _ (Asks opens may asking) = refl
said_followed owner index how before left alive hushed _ _ _ (Calls opens settings call state) = call_followed owner index (begun_in before) false settings [] call
said_followed owner index how before left alive hushed _ _ _ (Marks opens may settings one state next plain) = call_followed owner index (begun_in before) true settings one.draws one.call

followed_sends : (event : ℕ) (frames : List Sent) (link : Link) → followed_at_once None frames ≡ true → begins_followed link ≡ true → begins_followed (sends event frames link) ≡ true
followed_sends event frames link more here = ap (followed_at_once None) (sends_more event frames link) ∙ followed_more None link.sent frames here more

-- EVENTS ------------------------------------------------------------------------------------------

followed_served : (m : Machine) → KeepsServed m no_test begins_followed
followed_served m = record {
  at_serves = λ number front served at ordinary old here. handled_alike (λ one. begins_followed one ≡ true) m.event front served (λ reply. here) (λ reply. here);
  at_stops = λ number after front served at stopped old here. fallen_case (λ one. begins_followed one ≡ true) m.event (after_front front served None) (λ opens. here) (λ closed. here);
  at_cuts = λ up down link opens here. cut_case (λ one. begins_followed one ≡ true) m.event up down link opens here;
  at_reaps = λ link orphan here. here;
  at_falls = λ link here. fallen_case (λ one. begins_followed one ≡ true) m.event link (λ opens. here) (λ closed. here);
}

followed_keeps : (setting : Setting) (m : Machine) → KeepsSent setting m no_test begins_followed
followed_keeps setting m = record {
  at_opens = λ owner runs. followed_sends m.event (sent_by owner 0 up.Connect ∷ []) new_link refl refl;
  at_lends = λ owner doing ltxid pool number link ready waits strange idle old here.
      let step : Step = on_hello setting.terms doing.talk None ltxid true m.tick in
      followed_sends m.event (spoken_by owner pool number step) link
      (said_followed owner (call_in step.0.phase) (give_back_answer pool number) (Greeting None) (has_next doing.talk) true false step.0.phase step.1.send step.1.hold (said_lent setting.terms doing.talk ltxid m.tick)) here;
  at_takes = λ owner doing pool number link reply left ready out down old here.
      let step : Step = taken_by setting.terms doing.talk doing.talk.phase reply.frame link.is_open m.tick in
      followed_sends m.event (spoken_by owner pool number step) (takes (Took reply.frame link.is_open) reply left link)
      (said_followed owner (call_in step.0.phase) (give_back_answer pool number) doing.talk.phase (has_next doing.talk) link.is_open (is_hushed reply.frame) step.0.phase step.1.send step.1.hold
      (said setting.terms doing.talk doing.talk.phase reply.frame link.is_open m.tick refl)) here;
  at_drains = λ link idle old here. followed_sends m.event (closed_by_drain ∷ []) link refl here;
  served = followed_served m;
}

pub followed_law : StaysTrue are_followed
followed_law = record {
  at_start = λ document. refl;
  at_event = λ before after old new event note items left one inv followed.
      let by : Followed old.setting old.machine event note items left new.machine = follow_happens old.setting old.machine event note items left new.machine one.follows in
      sent_keep old.setting (at_event old.machine) no_test begins_followed (followed_keeps old.setting (at_event old.machine)) (held_now old inv) (every_all no_test old.machine.links (λ link. refl)) followed
      items left by.kind new.machine by.happens;
}
