-- What a request lost, where it takes a step: nothing more, or the connection that it had.
use Rattle.std.proofs.Common.{◌≡◌, refl, sym, ap, subst, ◌∙◌, Bool, true, false, ℕ, ◌||◌, length, List, [], ◌∷◌, ◌++◌, Option, Some, None}
use Rattle.std.specs.Prelude.{◌==◌, slice_get, not, is_some, option_map, option_and_then}
use Rattle.std.specs.List.{list_all, last_or, cons_option}
use Rattle.std.specs.Option.{option_or}
use Rattle.std.proofs.lemmas.Bool.{and_parts}
use Rattle.std.proofs.lemmas.List.{append-nil, map-append}
use Rattle.svc_values.specs.meaning.Same.{same_bool}
use Rattle.outage_schedule.specs.declared.document.Request.{Request}
use Rattle.run_clauses.specs.meaning.Reports.{failure_of, failed_in}
use Rattle.svc_values.specs.declared.call.Call.{Call}
use Rattle.svc_values.specs.declared.entry.Ltxid.{Ltxid}
use Rattle.svc_values.specs.declared.frame.Down.{Down}
use Rattle.client_model.specs.declared.act.Act.{Act}
use Rattle.client_model.specs.declared.act.Failed.{Failed}
use Rattle.client_model.specs.declared.act.Failed.TheVariants as failed
use Rattle.client_model.specs.declared.act.Hold.{Hold}
use Rattle.client_model.specs.declared.act.Hold.TheVariants as hold
use Rattle.client_model.specs.declared.input.Input.{Input}
use Rattle.client_model.specs.declared.input.Input.TheVariants.{Start, Waiting, Lent, Opened, TryFailed, Took, Gone}
use Rattle.client_model.specs.declared.input.Wants.{Wants}
use Rattle.client_model.specs.declared.input.Wants.TheVariants as wants
use Rattle.client_model.specs.meaning.Conversation.{Done}
use Rattle.client_model.specs.Conversation.{is_wanted, is_gone}
use Rattle.client_model.specs.meaning.States.{Asking}
use Rattle.client_model.specs.meaning.Talk.{wants_of, talk_step, sends_or_ends, begin_of}
use Rattle.client_model.specs.meaning.Terms.{Phase, Unbegun, Queued, unsubmitted}
use Rattle.world_model.specs.meaning.Frames.{Sent, Reply}
use Rattle.world_model.specs.meaning.Links.{Link, link_at, sends, takes}
use Rattle.world_model.specs.meaning.Clients.{Step, Doing, begun, past_of}
use Rattle.world_model.specs.records.Conversing.{Talks, connected}
use Rattle.world_model.specs.records.Hold.{holds_connection, is_held}
use Rattle.world_model.specs.Orderly.{Orderly}
use Rattle.invariant_laws.specs.Lost.{lost_all, lost_links}
use Rattle.world_model.specs.meaning.Machines.{Machine}
use Rattle.world_model.specs.Parts.{implies}
use Rattle.world_model.specs.records.Ready.{is_waiting, is_unbegun}
use Rattle.world_model.specs.Traced.{Traced, Course, course_now, course_over, courses_of}
use Rattle.world_model.specs.Words.{brought, held_in, dones_of}
use Rattle.world_model.proofs.Offered.{HasStepped, GoesOn, AtOnce, LostToo, HeardOn, OfNone, OfIdle, OfNew, OfReply, OfEnded, Behind, AsFirst, LostBehind, is_frame, sends_alike, last_pushed, at_event, doing_course, same_none, slot_holds_none, implied, IsDoing, moves_next_number as next_number, after_held, slot_wanted, slot_waits, first_step, first_doing, before_talks, doing_ready, waiting_none, frame_holds}
use Rattle.invariant_laws.proofs.losses.LostLists.{lost_of, LostMore, NoneLost, brings_more, loses_more, has_last_held}
use Rattle.invariant_laws.proofs.talks.TalkFails.{taken_fails, tried_fails, no_hello, lets_may, may_fail, told_to}

-- WHAT IS WANTED ----------------------------------------------------------------------------------

frame_wanted : (wanted : Wants) (input : Input) → is_frame input ≡ true → is_wanted wanted input ≡ true → wanted ≡ wants.Frame
frame_wanted wants.Frame input frame is = refl
frame_wanted wanted (Took frame alive) so is = absurd (let none : ⊥ = cc in none)
frame_wanted wanted (Gone event) so is = absurd (let none : ⊥ = cc in none)
frame_wanted wanted input so is = absurd (let none : ⊥ = cc in none)

-- an input that is of no connection is not wanted where a frame is
abbrev is_other : Input → Bool
is_other Start = false
is_other (Took frame alive) = false
is_other (Gone event) = false
is_other _ = true

slots_wanted : (wanted : Wants) (input : Input) → is_other input ≡ true → is_wanted wanted input ≡ true → wanted ≡ wants.Frame → ⊥
slots_wanted wants.Frame Waiting so is same = let none : ⊥ = cc in none
slots_wanted wants.Frame (Lent connection ltxid) so is same = let none : ⊥ = cc in none
slots_wanted wants.Frame (Opened connection) so is same = let none : ⊥ = cc in none
slots_wanted wants.Frame TryFailed so is same = let none : ⊥ = cc in none
slots_wanted wants.Frame input so is same = let none : ⊥ = cc in none
slots_wanted wanted input so is same = let none : ⊥ = cc in none

waiting_wanted : (wanted : Wants) → is_wanted wanted Waiting ≡ true → wanted ≡ wants.Slot
waiting_wanted wants.Slot is = refl
waiting_wanted wanted is = absurd (let none : ⊥ = cc in none)

some_from : (found : Option ℕ) (holds : Bool) → same_bool (is_some found) holds ≡ true → holds ≡ true → is_some found ≡ true
some_from (Some number) holds same is = refl
some_from None true same is = absurd (let none : ⊥ = cc in none)
some_from None false same is = absurd (let none : ⊥ = cc in none)

-- it did not fail by tries
not_all : (failure : Option Failed) (told : Option Asking) → may_fail failure told ≡ true → lost_all (option_and_then failure_of failure) ≡ false
not_all None told may = refl
not_all (Some (failed.Disabled reason event)) told may = refl
not_all (Some (failed.Replays limit event)) told may = refl
not_all (Some (failed.Incomplete x)) told may = refl
not_all (Some (failed.Retries tries)) told may = absurd (let none : ⊥ = cc in none)
not_all (Some (failed.PoolWait first now)) told may = refl
not_all (Some (failed.Mismatch call seen now)) told may = refl
not_all (Some (failed.ReplayTimeout first ready)) told may = refl
not_all (Some (failed.Unknown x)) told may = refl
not_all (Some (failed.BadPeer tag)) told may = refl

module _ (t : Traced) (inv : Orderly t) (number : ℕ) (n : Machine) (step : HasStepped t.setting (at_event t.machine) number n) where
  abbrev now : Machine
  now = at_event t.machine

  abbrev place : ℕ
  place = length step.client.past

  -- THE REQUEST BEFORE ITS STEP -------------------------------------------------------------------

  pub is_doing : IsDoing t.setting now number step.before (wants_of t.setting.terms step.before.talk now.tick)
  is_doing = record { client = step.client; here = step.here; does = step.does; wants = refl }

  -- what holds of each request, and of one that begins
  pub before_so : (test : Course → Bool) → list_all test (courses_of t) ≡ true → ((request : Request) → test (course_now t.setting number place (begun t.setting.terms now.event now.tick request)) ≡ true)
      → test (course_now t.setting number place step.before) ≡ true
  before_so test all begins = by step.client.now refl step.client.next step.does
    where
      by : (found : Option Doing) → step.client.now ≡ found → (next : Option Request) → option_or found (option_map (begun t.setting.terms now.event now.tick) next) ≡ Some step.before → test (course_now t.setting number place step.before) ≡ true
      by (Some one) is next does =
          let same : one ≡ step.before = cc in
          doing_course test t number step.client step.before all step.here (is ∙ ap Some same)
      by None is (Some request) does =
          let same : begun t.setting.terms now.event now.tick request ≡ step.before = cc in
          subst (λ (doing : Doing). test (course_now t.setting number place doing) ≡ true) same (begins request)
      by None is None does = absurd (let none : ⊥ = cc in none)

  -- one with a connection is in course already
  pub in_course : (connection : ℕ) → step.before.connection ≡ Some connection → step.client.now ≡ Some step.before
  in_course connection has = by step.client.now refl step.client.next step.does
    where
      by : (found : Option Doing) → step.client.now ≡ found → (next : Option Request) → option_or found (option_map (begun t.setting.terms now.event now.tick) next) ≡ Some step.before → step.client.now ≡ Some step.before
      by (Some doing) is next does = is ∙ does
      by None is (Some request) does =
          let same : begun t.setting.terms now.event now.tick request ≡ step.before = cc in
          absurd (let never : None ≡ Some connection = ap (λ (doing : Doing). doing.connection) same ∙ has in let none : ⊥ = cc in none)
      by None is None does = absurd (let none : ⊥ = cc in none)

  holds : same_bool (is_some step.before.connection) (holds_connection step.before.talk.phase) ≡ true
  holds = (and_parts (same_bool (is_some step.before.connection) (holds_connection step.before.talk.phase)) _ (before_so (is_held t) inv.hold.held (λ request. refl))).0

  pub wanted : is_wanted (wants_of t.setting.terms step.before.talk now.tick) step.input ≡ true
  wanted = (and_parts (is_wanted (wants_of t.setting.terms step.before.talk now.tick) step.input) (is_gone step.input || not false) step.may).0

  wanted_at : (input : Input) → step.input ≡ input → is_wanted (wants_of t.setting.terms step.before.talk now.tick) input ≡ true
  wanted_at input is = subst (λ (i : Input). is_wanted (wants_of t.setting.terms step.before.talk now.tick) i ≡ true) is wanted

  -- it has a connection where a frame comes, and none where another input does
  pub has_one : is_frame step.input ≡ true → is_some step.before.connection ≡ true
  has_one frame =
      some_from step.before.connection (holds_connection step.before.talk.phase) holds
      (frame_holds t.setting.terms step.before.talk step.before.talk.phase now.tick (frame_wanted (wants_of t.setting.terms step.before.talk now.tick) step.input frame wanted))

  pub has_none : is_other step.input ≡ true → step.before.connection ≡ None
  has_none other =
      same_none step.before.connection (holds_connection step.before.talk.phase) holds
      (slot_holds_none t.setting.terms step.before.talk step.before.talk.phase now.tick (wants_of t.setting.terms step.before.talk now.tick) refl
      (slots_wanted (wants_of t.setting.terms step.before.talk now.tick) step.input other wanted))

  -- one that waits held none
  pub held_none : step.input ≡ Waiting → held_in step.before.steps ≡ []
  held_none is =
      let slot : wants_of t.setting.terms step.before.talk now.tick ≡ wants.Slot = waiting_wanted (wants_of t.setting.terms step.before.talk now.tick) (wanted_at Waiting is) in
      waiting_none t.setting.terms step.before (doing_ready t.setting now number step.before _ inv.script.ready is_doing)
      (slot_waits t.setting.terms step.before.talk step.before.talk.phase now.tick slot)

  pub last_is : (connection : ℕ) → step.before.connection ≡ Some connection → last_or None (held_in step.before.steps) ≡ Some connection
  last_is connection is =
      let talks : Talks t.setting.terms false step.before = before_talks t.setting now inv.script.talks number n step in
      has_last_held step.before.steps connection (talks.has ∙ is)

  -- BEHIND IT -------------------------------------------------------------------------------------

  abbrev held : List ℕ
  held = held_in step.before.steps

  abbrev had : Option ℕ
  had = step.before.connection

  held_after : held_in step.after.steps ≡ held ++ cons_option (brought step.input) []
  held_after = after_held t.setting now inv.script.talks number n step

  -- where it brings none
  pub same_held : brought step.input ≡ None → held_in step.after.steps ≡ held
  same_held none = held_after ∙ (ap (λ (found : Option ℕ). held ++ cons_option found []) none ∙ append-nil held)

  one_held : (connection : ℕ) → brought step.input ≡ Some connection → held_in step.after.steps ≡ held ++ connection ∷ []
  one_held connection some = held_after ∙ ap (λ (found : Option ℕ). held ++ cons_option found []) some

  module _ (left : ℕ → Type 0) where
    abbrev LostNow : Bool → Type 0
    LostNow has = LostMore left had (lost_of (is_some had) held) (lost_of has (held_in step.after.steps))

    stays_so : (has : Bool) → brought step.input ≡ None → has ≡ is_some had → LostNow has
    stays_so has none same = subst (LostMore left had (lost_of (is_some had) held)) (sym (ap (lost_of has) (same_held none) ∙ ap (λ (test : Bool). lost_of test held) same)) NoneLost

    brings_so : (has : Bool) (connection : ℕ) → brought step.input ≡ Some connection → had ≡ None → has ≡ true → LostNow has
    brings_so has connection some none is =
        subst (λ (found : Option ℕ). LostMore left found (lost_of (is_some found) held) (lost_of has (held_in step.after.steps))) (sym none)
        (subst (LostMore left None held) (sym (ap (lost_of has) (one_held connection some) ∙ ap (λ (test : Bool). lost_of test (held ++ connection ∷ [])) is)) (brings_more left held connection))

    loses_so : (has : Bool) (connection : ℕ) → brought step.input ≡ None → had ≡ Some connection → has ≡ false → left connection → LostNow has
    loses_so has connection none some is lost =
        subst (λ (found : Option ℕ). LostMore left found (lost_of (is_some found) held) (lost_of has (held_in step.after.steps))) (sym some)
        (subst (LostMore left (Some connection) (lost_of true held)) (sym (ap (lost_of has) (same_held none) ∙ ap (λ (test : Bool). lost_of test held) is)) (loses_more left held connection (last_is connection some) lost))

    empty_so : (has : Bool) → brought step.input ≡ None → held ≡ [] → LostNow has
    empty_so has none nil =
        subst (LostMore left had (lost_of (is_some had) held)) (sym (ap (lost_of has) (same_held none) ∙ (ap (lost_of has) nil ∙ (nils has ∙ sym (ap (lost_of (is_some had)) nil ∙ nils (is_some had)))))) NoneLost
      where
        nils : (test : Bool) → lost_of test [] ≡ []
        nils true = refl
        nils false = refl

  abbrev first : Doing
  first = first_doing t.setting now inv.script.talks number n step

  abbrev one : Step
  one = first_step t.setting now inv.script.talks number n step

  pub connection_is : step.after ≡ first → step.after.connection ≡ connected had step.input
  connection_is same = ap (λ (doing : Doing). doing.connection) same ∙ sym step.connects

  -- it has none then, and the one that it had is not open
  pub record IsLeft (connection : ℕ) : Type 0 where
    pub next : Link
    pub there : link_at n.links connection ≡ Some next
    pub shut : next.is_open ≡ false
    pub none : step.after.connection ≡ None

  -- a request that goes on
  pub kept_lost : LostMore IsLeft had (lost_links (course_now t.setting number place step.before)) (lost_links (course_now t.setting number place step.after))
  kept_lost = by had step.input step.after refl refl refl step.heard_on
    where
      plain : (input : Input) → brought input ≡ None → is_frame input ≡ false → connected had input ≡ had
      plain Start none frame = refl
      plain Waiting none frame = refl
      plain (Lent connection ltxid) none frame = absurd (let never : ⊥ = cc in never)
      plain (Opened connection) none frame = absurd (let never : ⊥ = cc in never)
      plain TryFailed none frame = refl
      plain (Took frame alive) none so = absurd (let never : ⊥ = cc in never)
      plain (Gone event) none so = absurd (let never : ⊥ = cc in never)

      behind : (opens : Bool) (ended : Option ℕ) (connection : ℕ) (frame : Down) (alive : Bool) (after : Doing) → step.input ≡ Took frame alive → had ≡ Some connection → step.after ≡ after
          → (opens ≡ false → (next : Link) × ((link_at n.links connection ≡ Some next) × (next.is_open ≡ false))) → Behind t.setting first one.done.act.hold opens ended after
          → LostNow IsLeft (is_some step.after.connection)
      behind opens ended connection frame alive _ is has equal next (AsFirst not_lost) =
          stays_so IsLeft (is_some step.after.connection) (ap brought is) (ap is_some (connection_is equal ∙ ap (connected had) is))
      behind opens ended connection frame alive _ is has equal next (LostBehind event tick shut keep) =
          let there = next shut in
          let none : step.after.connection ≡ None = ap (λ (doing : Doing). doing.connection) equal in
          loses_so IsLeft (is_some step.after.connection) connection (ap brought is) has (ap is_some none) (record { next = there.0; there = there.1.0; shut = there.1.1; none = none })

      shut_behind : (frames : List Sent) (reply : Reply) (left : List Reply) (link : Link) → link.is_open ≡ false → (sends now.event frames (takes (Took reply.frame link.is_open) reply left link)).is_open ≡ false
      shut_behind frames reply left link shut = sends_alike (λ (next : Link). next.is_open ≡ false) now.event frames (takes (Took reply.frame link.is_open) reply left link) refl shut

      by : {said : List Sent} (had_one : Option ℕ) (input : Input) (after : Doing) → had ≡ had_one → step.input ≡ input → step.after ≡ after → HeardOn t.setting now n number first one.done.act.hold said after had_one input
          → LostNow IsLeft (is_some step.after.connection)
      by _ _ after has is equal (OfNone had_one input none frame same) =
          stays_so IsLeft (is_some step.after.connection) (ap brought is ∙ none) (ap is_some (connection_is (equal ∙ same) ∙ (ap (connected had) is ∙ plain input none frame)))
      by _ _ after has is equal (OfIdle had_one connection ltxid answer same) =
          brings_so IsLeft (is_some step.after.connection) connection (ap brought is) (has_none (ap is_other is)) (ap is_some (connection_is (equal ∙ same) ∙ ap (connected had) is))
      by _ _ after has is equal (OfNew had_one same) =
          brings_so IsLeft (is_some step.after.connection) (next_number now) (ap brought is) (has_none (ap is_other is)) (ap is_some (connection_is (equal ∙ same) ∙ ap (connected had) is))
      by {said} _ _ after has is equal (OfReply had_one connection link reply left some there down next back) =
          behind link.is_open link.ended connection reply.frame link.is_open after is (has ∙ some) equal
          (λ shut. (sends now.event said (takes (Took reply.frame link.is_open) reply left link), (next, shut_behind said reply left link shut))) back
      by _ _ after has is equal (OfEnded had_one connection link some there shut next same) =
          let none : step.after.connection ≡ None = connection_is (equal ∙ same) ∙ ap (connected had) is in
          loses_so IsLeft (is_some step.after.connection) connection (ap brought is) (has ∙ some) (ap is_some none) (record { next = link; there = next; shut = shut; none = none })

  -- ONE THAT IS OVER ------------------------------------------------------------------------------

  lets_first : (after : Doing) (kept : Hold) → (kept ≡ hold.Keep → ⊥) → GoesOn t.setting first one.done.act.hold after kept → (after ≡ first) × (kept ≡ one.done.act.hold)
  lets_first _ _ lets AtOnce = (refl, refl)
  lets_first _ _ lets (LostToo event tick ended is) = absurd (lets refl)

  -- its last step is that of the event
  pub over_first : (step.held ≡ hold.Keep → ⊥) → step.after ≡ first
  over_first lets = (lets_first step.after step.held lets step.goes_on).0

  pub over_lets : (step.held ≡ hold.Keep → ⊥) → one.done.act.hold ≡ hold.Keep → ⊥
  over_lets lets keep = lets ((lets_first step.after step.held lets step.goes_on).1 ∙ keep)

  pub over_failed : (step.held ≡ hold.Keep → ⊥) → failed_in (dones_of step.after.steps) ≡ one.done.act.failed
  over_failed lets =
      ap (λ (doing : Doing). failed_in (dones_of doing.steps)) (over_first lets)
      ∙ ap (λ (last : Option Done). option_and_then (λ (done : Done). done.act.failed) last)
      (ap (λ (dones : List Done). last_or None dones) (map-append (λ (s : Step). s.done) step.before.steps (one ∷ [])) ∙ last_pushed None (dones_of step.before.steps) one.done)

  -- what the client does at an input
  abbrev pub act_on : Input → Act
  act_on input = (talk_step t.setting.terms step.before.talk input now.tick).1

  -- it has its last connection, or did not fail by tries
  abbrev pub has_still : Bool
  has_still = not (lost_all (option_and_then failure_of (failed_in (dones_of step.after.steps))))

  has_is : (failure : Option Failed) → failed_in (dones_of step.after.steps) ≡ failure → has_still ≡ not (lost_all (option_and_then failure_of failure))
  has_is failure is = ap (λ (found : Option Failed). not (lost_all (option_and_then failure_of found))) is

  -- one whose last try failed lost its last connection too
  pub tried_has : step.input ≡ TryFailed → (step.held ≡ hold.Keep → ⊥) → has_still ≡ false
  tried_has is lets =
      has_is (act_on TryFailed).failed (over_failed lets ∙ ap (λ (i : Input). (act_on i).failed) is)
      ∙ ap (λ (failure : Option Failed). not (lost_all (option_and_then failure_of failure)))
      (tried_fails t.setting.terms step.before.talk now.tick (λ keep. over_lets lets (ap (λ (i : Input). (act_on i).hold) is ∙ keep)))

  -- a request that is lent a connection goes on
  pub lent_keeps : (connection : ℕ) (x : Ltxid) → step.input ≡ Lent connection x → one.done.act.hold ≡ hold.Keep
  lent_keeps connection x is = ap (λ (i : Input). (act_on i).hold) is ∙ by step.before.talk.left refl
    where
      slot : wants_of t.setting.terms step.before.talk now.tick ≡ wants.Slot
      slot = slot_wanted (wants_of t.setting.terms step.before.talk now.tick) connection x (wanted_at (Lent connection x) is)

      begins : (phase : Phase) → is_waiting phase ≡ true → is_unbegun phase ≡ true
      begins Unbegun waits = refl
      begins (Queued from) waits = refl
      begins phase waits = absurd (let none : ⊥ = cc in none)

      some_left : not (length step.before.talk.left == 0) ≡ true
      some_left =
          implied (is_unbegun step.before.talk.phase) (not (length step.before.talk.left == 0)) (begins step.before.talk.phase (slot_waits t.setting.terms step.before.talk step.before.talk.phase now.tick slot))
          (and_parts (implies (is_unbegun step.before.talk.phase) (not (length step.before.talk.left == 0))) _ (doing_ready t.setting now number step.before _ inv.script.ready is_doing)).0

      by : (calls : List Call) → step.before.talk.left ≡ calls → (act_on (Lent connection x)).hold ≡ hold.Keep
      by [] none = absurd (let never : false ≡ true = subst (λ (calls : List Call). not (length calls == 0) ≡ true) none some_left in let nothing : ⊥ = cc in nothing)
      by (call ∷ calls) some =
          ap (λ (next : Option Call). (sends_or_ends t.setting.terms step.before.talk (record { track = unsubmitted t.setting.terms; ltxid = x }) true (begin_of step.before.talk ∷ []) None now.tick next).1.hold)
          (ap (λ (all : List Call). slice_get all 0) some)

  pub over_lost : (step.held ≡ hold.Keep → ⊥) → LostMore (λ (connection : ℕ). ⊥) had (lost_links (course_now t.setting number place step.before)) (lost_links (course_over number place (past_of t.setting.terms step.after)))
  over_lost lets = by step.input refl (over_lets lets) (over_failed lets)
    where
      by : (input : Input) → step.input ≡ input → ((act_on step.input).hold ≡ hold.Keep → ⊥) → failed_in (dones_of step.after.steps) ≡ (act_on step.input).failed → LostNow (λ (connection : ℕ). ⊥) has_still
      by Start is lets_go failed_is = absurd (lets_go (ap (λ (i : Input). (act_on i).hold) is))
      by Waiting is lets_go failed_is = empty_so (λ (connection : ℕ). ⊥) has_still (ap brought is) (held_none is)
      by (Lent connection ltxid) is lets_go failed_is =
          brings_so (λ (connection : ℕ). ⊥) has_still connection (ap brought is) (has_none (ap is_other is))
          (has_is (act_on (Lent connection ltxid)).failed (failed_is ∙ ap (λ (i : Input). (act_on i).failed) is)
          ∙ ap not (not_all (act_on (Lent connection ltxid)).failed None (lets_may (act_on (Lent connection ltxid)).hold (act_on (Lent connection ltxid)).failed None (no_hello None t.setting.terms step.before.talk None ltxid true now.tick))))
      by (Opened connection) is lets_go failed_is = absurd (lets_go (ap (λ (i : Input). (act_on i).hold) is))
      by TryFailed is lets_go failed_is =
          stays_so (λ (connection : ℕ). ⊥) has_still (ap brought is) (tried_has is lets ∙ sym (ap is_some (has_none (ap is_other is))))
      by (Took frame alive) is lets_go failed_is =
          let act : Act = act_on (Took frame alive) in
          stays_so (λ (connection : ℕ). ⊥) has_still (ap brought is)
          (has_is act.failed (failed_is ∙ ap (λ (i : Input). (act_on i).failed) is)
          ∙ (ap not (not_all act.failed (told_to step.before.talk.phase frame)
          (lets_may act.hold act.failed (told_to step.before.talk.phase frame) (taken_fails t.setting.terms step.before.talk step.before.talk.phase frame alive now.tick))) ∙ sym (has_one (ap is_frame is))))
      by (Gone event) is lets_go failed_is = absurd (lets_go (ap (λ (i : Input). (act_on i).hold) is))
