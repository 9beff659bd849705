-- Where a client steps: what it sends, which fates of sendings stay, and what is known where a
-- reply is taken.
use Rattle.std.proofs.Common.{◌≡◌, ◌≢◌, refl, sym, ap, subst, ◌∙◌, Bool, true, false, ℕ, ◌≤◌, ◌&&◌, ◌||◌, fold, length, List, [], ◌∷◌, ◌++◌, Option, Some, None, ◌⊎◌, inl, inr}
use Rattle.std.specs.Prelude.{◌==◌, not, is_some}
use Rattle.std.specs.List.{list_all, list_any}
use Rattle.std.specs.Option.{option_map_or}
use Rattle.std.proofs.lemmas.Bool.{and_parts}
use Rattle.svc_values.specs.declared.answer.Answer.{Answer}
use Rattle.svc_values.specs.declared.call.Call.{Call}
use Rattle.svc_values.specs.declared.frame.Up.{Up}
use Rattle.svc_values.specs.declared.frame.Up.TheVariants as up
use Rattle.svc_values.specs.declared.value.Value.{Value}
use Rattle.svc_values.specs.meaning.Calls.{has_commit}
use Rattle.svc_values.specs.meaning.Same.{same_bool}
use Rattle.client_model.specs.declared.act.Hold.{Hold}
use Rattle.client_model.specs.declared.act.Hold.TheVariants.{Keep, GiveBack, Drop}
use Rattle.client_model.specs.declared.input.Input.{Input}
use Rattle.client_model.specs.declared.input.Input.TheVariants.{Start, Waiting, Lent, Opened, TryFailed, Took, Gone}
use Rattle.client_model.specs.declared.input.Wants.{Wants}
use Rattle.client_model.specs.declared.input.Wants.TheVariants as wants
use Rattle.client_model.specs.Conversation.{is_wanted, is_gone}
use Rattle.client_model.specs.meaning.Talk.{Step as Talking, wants_of, talk_step, takes as taken_by, on_hello, waits_from}
use Rattle.client_model.specs.meaning.Terms.{Terms, Talk, Phase, Greeting}
use Rattle.world_model.specs.meaning.Acting.{call_in}
use Rattle.world_model.specs.meaning.Clients.{Step}
use Rattle.world_model.specs.records.Conversing.{connected}
use Rattle.world_model.specs.meaning.Frames.{Owner, Sent, Reply}
use Rattle.world_model.specs.records.Hold.{is_held, holds_connection}
use Rattle.world_model.specs.Orderly.{Orderly}
use Rattle.world_model.specs.meaning.Links.{Link, link_at, sends, takes}
use Rattle.world_model.specs.meaning.Machines.{Machine}
use Rattle.invariant_laws.specs.Once.{has_fate, are_apart, is_frame_of}
use Rattle.world_model.specs.Parts.{Sending, Scan, sent_on, is_commit_call, is_unmarked_frame, held_number}
use Rattle.world_model.specs.Sames.{owned_by}
use Rattle.world_model.specs.Traced.{Traced, course_now}
use Rattle.world_model.proofs.Offered.{HasStepped, is_frame, at_event, held_now, known_of, Known, implied, same_none, slot_holds_none, Spoken, Quiet, SayingFails as Fails, Ends, SayingAsks as Asks, Calls, Marks, begun_in, opening, has_next, is_hushed, said, said_lent, sends_at, scan_by, heard_scan, first_step, first_doing, some_same, either}
use Rattle.invariant_laws.proofs.sendings.Fates.{Fate, Waits, fate_from, fate_to, taken_fate}
use Rattle.invariant_laws.proofs.sendings.FateLinks.{OutOf, out_of, owned_same, next_rises}
use Rattle.invariant_laws.proofs.talks.TalkAsked.{waited_none, tried_none}
use Rattle.invariant_laws.proofs.losses.LostSteps.{before_so, in_course}
use Rattle.invariant_laws.proofs.talks.Placing.{others_at, said as spoken_frames}
use Rattle.invariant_laws.proofs.sendings.SendingsMade.{made}

-- WHERE IT IS -------------------------------------------------------------------------------------

-- its connection is there, and tells what became of it
pub record IsFated (links : List Link) (sending : Sending) : Type 0 where
  pub link : Link
  pub there : link_at links sending.connection ≡ Some link
  pub fate : Fate sending link

abbrev pub fated : List Link → Sending → Bool
fated links sending = option_map_or (has_fate sending) (link_at links sending.connection) false

pub fated_from : (links : List Link) (sending : Sending) → fated links sending ≡ true → IsFated links sending
fated_from links sending here = by (link_at links sending.connection) refl here
  where
    by : (found : Option Link) → link_at links sending.connection ≡ found → option_map_or (has_fate sending) found false ≡ true → IsFated links sending
    by None there here = absurd (let none : ⊥ = cc in none)
    by (Some link) there here = record { link = link; there = there; fate = fate_from sending link here }

pub fated_to : (links : List Link) (sending : Sending) (link : Link) → link_at links sending.connection ≡ Some link → Fate sending link → fated links sending ≡ true
fated_to links sending link there fate = ap (λ (found : Option Link). option_map_or (has_fate sending) found false) there ∙ fate_to sending link fate

-- STEPS -------------------------------------------------------------------------------------------

-- what a step sends: no call without the mark, or one
pub data Says : List Up → Hold → Type 0 where
  Silent : (send : List Up) (held : Hold) → list_any is_unmarked_frame send ≡ false → Says send held
  CallsOne : (begun : Bool) (settings : List (List ℕ × Value)) (call : Call) → Says (opening begun settings ++ up.Call false [] call ∷ []) Keep

says_spoken : (before : Phase) (left alive hushed : Bool) (phase : Phase) (send : List Up) (held : Hold) → Spoken before left alive hushed phase send held → Says send held
says_spoken before left alive hushed phase _ _ (Quiet _ hush stays) = Silent [] Keep refl
says_spoken before left true hushed _ _ _ Fails = Silent (up.Close ∷ []) Drop refl
says_spoken before left false hushed _ _ _ Fails = Silent [] Drop refl
says_spoken before left true hushed _ _ _ (Ends may) = Silent (up.End ∷ []) GiveBack refl
says_spoken before left false hushed _ _ _ (Ends may) = Silent [] Drop refl
says_spoken before left alive hushed _ _ _ (Asks opens may asking) = Silent (up.Outcome asking.ltxid ∷ []) Keep refl
says_spoken before left alive hushed _ _ _ (Calls opens settings call state) = CallsOne (begun_in before) settings call
says_spoken before left alive hushed _ _ _ (Marks opens may settings one state next plain) = marked (begun_in before)
  where
    marked : (begun : Bool) → Says (opening begun settings ++ up.Call true one.draws one.call ∷ []) Keep
    marked true = Silent (up.Call true one.draws one.call ∷ []) Keep refl
    marked false = Silent (up.Begin settings ∷ up.Call true one.draws one.call ∷ []) Keep refl

silent_by : (send : List Up) (held : Hold) → (list_any is_unmarked_frame send ≡ true → ⊥) → Says send held
silent_by send held never = Silent send held (by (list_any is_unmarked_frame send) refl)
  where
    by : (test : Bool) → list_any is_unmarked_frame send ≡ test → test ≡ false
    by true is = absurd (never is)
    by false is = refl

pub says_at : (terms : Terms) (talk : Talk) (input : Input) (now : ℕ) → Says (talk_step terms talk input now).1.send (talk_step terms talk input now).1.hold
says_at terms talk Start now = Silent [] Keep refl
says_at terms talk Waiting now = silent_by _ _ (waited_none terms talk (waits_from talk.phase now) now)
says_at terms talk (Lent connection x) now =
    let step : Talking = on_hello terms talk None x true now in says_spoken (Greeting None) (has_next talk) true false step.0.phase step.1.send step.1.hold (said_lent terms talk x now)
says_at terms talk (Opened connection) now = Silent (up.Connect ∷ []) Keep refl
says_at terms talk TryFailed now = silent_by _ _ (tried_none terms talk now)
says_at terms talk (Took frame alive) now =
    let step : Talking = taken_by terms talk talk.phase frame alive now in
    says_spoken talk.phase (has_next talk) alive (is_hushed frame) step.0.phase step.1.send step.1.hold (said terms talk talk.phase frame alive now refl)
says_at terms talk (Gone event) now = Silent [] Keep refl

-- the sendings of the frames
pub silent_fold : (scan : Scan) (frames : List Up) (sendings : List Sending) → list_any is_unmarked_frame frames ≡ false → fold (sent_on scan) sendings frames ≡ sendings
silent_fold scan [] sendings none = refl
silent_fold scan (up.Call false kept call ∷ frames) sendings none = absurd (let never : ⊥ = cc in never)
silent_fold scan (up.Call true kept call ∷ frames) sendings none = silent_fold scan frames sendings none
silent_fold scan (up.Connect ∷ frames) sendings none = silent_fold scan frames sendings none
silent_fold scan (up.Begin settings ∷ frames) sendings none = silent_fold scan frames sendings none
silent_fold scan (up.Outcome x ∷ frames) sendings none = silent_fold scan frames sendings none
silent_fold scan (up.End ∷ frames) sendings none = silent_fold scan frames sendings none
silent_fold scan (up.Close ∷ frames) sendings none = silent_fold scan frames sendings none

pub called_fold : (scan : Scan) (begun : Bool) (settings : List (List ℕ × Value)) (call : Call) (sendings : List Sending)
    → fold (sent_on scan) sendings (opening begun settings ++ up.Call false [] call ∷ []) ≡ option_map_or (λ x. made scan call x ∷ sendings) scan.held sendings
called_fold scan true settings call sendings = refl
called_fold scan false settings call sendings = refl

pub called_at : (scan : Scan) (place : ℕ) (begun : Bool) (settings : List (List ℕ × Value)) (call : Call) → list_all (sends_at scan place) (opening begun settings ++ up.Call false [] call ∷ []) ≡ true → (place == scan.shown) ≡ true
called_at scan place true settings call all = (and_parts (is_some scan.held) (place == scan.shown) (and_parts (is_some scan.held && (place == scan.shown)) true all).0).1
called_at scan place false settings call all = (and_parts (is_some scan.held) (place == scan.shown) (and_parts (is_some scan.held && (place == scan.shown)) true all).0).1

pub has_call : (begun : Bool) (settings : List (List ℕ × Value)) (call : Call) → list_any is_unmarked_frame (opening begun settings ++ up.Call false [] call ∷ []) ≡ true
has_call true settings call = refl
has_call false settings call = refl

not_frame : (wanted : Wants) (input : Input) → is_frame input ≡ false → is_wanted wanted input ≡ true → wanted ≡ wants.Frame → ⊥
not_frame wants.Frame (Took frame alive) plain is same = let none : ⊥ = cc in none
not_frame wants.Frame (Gone event) plain is same = let none : ⊥ = cc in none
not_frame wants.Frame input plain is same = let none : ⊥ = cc in none
not_frame wanted input plain is same = let none : ⊥ = cc in none

abbrev pub committing : (Sending → Bool) → Sending → Bool
committing test sending = not (has_commit sending.call) || test sending

pub committing_by : (test : Sending → Bool) (sending : Sending) → (has_commit sending.call ≡ true → test sending ≡ true) → committing test sending ≡ true
committing_by test sending here = by (has_commit sending.call) here
  where
    by : (commits : Bool) → (commits ≡ true → test sending ≡ true) → (not commits || test sending) ≡ true
    by true so = so refl
    by false so = refl

pub committing_from : (test : Sending → Bool) (sending : Sending) → committing test sending ≡ true → has_commit sending.call ≡ true → test sending ≡ true
committing_from test sending here commits = implied (has_commit sending.call) (test sending) commits here

module _ (t : Traced) (inv : Orderly t) (apart : are_apart t ≡ true) (new : Traced) (who : ℕ) (step : HasStepped t.setting (at_event t.machine) who new.machine) where
  abbrev pub m : Machine
  m = at_event t.machine

  abbrev pub mine : Owner
  mine = record { client = who; place = length step.client.past }

  abbrev pub one : Step
  one = first_step t.setting m inv.script.talks who new.machine step

  abbrev pub scan_before : Scan
  scan_before = scan_by mine step.before.steps

  abbrev pub scan_now : Scan
  scan_now = heard_scan t.setting m inv.script.talks who new.machine step

  abbrev pub place_now : ℕ
  place_now = call_in (first_doing t.setting m inv.script.talks who new.machine step).talk.phase

  abbrev pub said_now : List Sent
  said_now = spoken_frames t.setting m who new.machine step

  abbrev pub old_fated : Sending → Bool
  old_fated = fated t.machine.links

  abbrev pub new_fated : Sending → Bool
  new_fated = fated new.machine.links

  pub no_connection : is_frame step.input ≡ false → step.before.connection ≡ None
  no_connection plain =
      let so : is_held t (course_now t.setting who (length step.client.past) step.before) ≡ true = before_so t inv who new.machine step (is_held t) inv.hold.held (λ request. refl) in
      same_none step.before.connection (holds_connection step.before.talk.phase) (and_parts (same_bool (is_some step.before.connection) (holds_connection step.before.talk.phase)) _ so).0
      (slot_holds_none t.setting.terms step.before.talk step.before.talk.phase m.tick (wants_of t.setting.terms step.before.talk m.tick) refl
      (not_frame (wants_of t.setting.terms step.before.talk m.tick) step.input plain (and_parts (is_wanted (wants_of t.setting.terms step.before.talk m.tick) step.input) (is_gone step.input || not false) step.may).0))

  pub elsewhere : (sending : Sending) → (step.connection ≡ Some sending.connection → ⊥) → old_fated sending ≡ true → new_fated sending ≡ true
  elsewhere sending away here =
      let at = fated_from t.machine.links sending here in
      fated_to new.machine.links sending at.link (others_at t.setting m who new.machine step sending.connection at.link at.there away) at.fate

  -- a connection becomes another one, and the fates on it stay
  pub stays_at : (connection : ℕ) (link next : Link) → step.connection ≡ Some connection → link_at m.links connection ≡ Some link → link_at new.machine.links connection ≡ Some next → (sending : Sending) → (Fate sending link → Fate sending next) → old_fated sending ≡ true
      → new_fated sending ≡ true
  stays_at connection link next has there after sending keeps here = by (either sending.connection connection)
    where
      at : IsFated t.machine.links sending
      at = fated_from t.machine.links sending here

      by : (sending.connection ≡ connection) ⊎ (sending.connection ≢ connection) → new_fated sending ≡ true
      by (inl same) =
          let found : at.link ≡ link = some_same (link_at m.links connection) at.link link (subst (λ (k : ℕ). link_at m.links k ≡ Some at.link) same at.there) there in
          fated_to new.machine.links sending next (ap (link_at new.machine.links) same ∙ after) (keeps (subst (Fate sending) found at.fate))
      by (inr other) = elsewhere sending (λ on. other (let both : Some sending.connection ≡ Some connection = sym on ∙ has in let same : sending.connection ≡ connection = cc in same)) here

  pub none_at : (sending : Sending) → step.connection ≡ None → old_fated sending ≡ true → new_fated sending ≡ true
  none_at sending none here = elsewhere sending (λ on. let never : None ≡ Some sending.connection = sym none ∙ on in let nothing : ⊥ = cc in nothing) here

  -- WHERE A REPLY IS TAKEN ------------------------------------------------------------------------

  pub record Taking : Type 0 where
    pub connection : ℕ
    pub link : Link
    pub reply : Reply
    pub later : List Reply
    pub has : step.before.connection ≡ Some connection
    pub there : link_at m.links connection ≡ Some link
    pub down_is : link.down ≡ reply ∷ later
    pub heard : step.input ≡ Took reply.frame link.is_open
    pub after : link_at new.machine.links connection ≡ Some (sends m.event said_now (takes (Took reply.frame link.is_open) reply later link))

  module _ (taking : Taking) where
    abbrev pub link : Link
    link = taking.link

    abbrev pub next : Link
    next = sends m.event said_now (takes (Took taking.reply.frame link.is_open) taking.reply taking.later link)

    pub on : step.connection ≡ Some taking.connection
    on = sym step.connects ∙ (ap (connected step.before.connection) taking.heard ∙ taking.has)

    pub known : Known link
    known = known_of t inv taking.connection link taking.there

    pub out : OutOf mine step.before.talk.phase link
    out = out_of mine step.before.talk.phase link ((held_now t inv).out who step.client step.before taking.connection link step.here (in_course t inv who new.machine step taking.connection taking.has) taking.has taking.there)

    rises : held_number link ≤ held_number next
    rises = next_rises link taking.reply taking.later known taking.down_is m.event said_now

    abbrev told_fate : (sending : Sending) (answers : List Answer) → sending.taken ≡ Some answers → Fate sending link → Fate sending next
    told_fate sending answers taken fate = taken_fate sending answers link next taken rises fate

    -- one that waits is what is out
    pub waits_out : (sending : Sending) → Waits sending link → is_frame_of sending out.sent ≡ true
    waits_out sending waits =
        let both : Some waits.frame ≡ Some out.sent = sym waits.last ∙ out.frame in
        let same : waits.frame ≡ out.sent = cc in
        subst (λ (sent : Sent). is_frame_of sending sent ≡ true) same waits.is

    pub waits_commits : (sending : Sending) → Waits sending link → is_commit_call out.sent ≡ true
    waits_commits sending waits = (and_parts (is_commit_call out.sent) (owned_by sending.owner out.sent && (out.sent.call == sending.at)) (waits_out sending waits)).0

    waits_mine : (sending : Sending) → Waits sending link → sending.owner ≡ mine
    waits_mine sending waits =
        owned_same sending.owner mine out.sent (and_parts (owned_by sending.owner out.sent) (out.sent.call == sending.at) (and_parts (is_commit_call out.sent) (owned_by sending.owner out.sent && (out.sent.call == sending.at)) (waits_out sending waits)).1).0 out.own

    pub fate_by : (sending : Sending) → (sending.taken ≡ None → Fate sending link → Fate sending next) → Fate sending link → Fate sending next
    fate_by sending untaken fate = by sending.taken refl
      where
        by : (taken : Option (List Answer)) → sending.taken ≡ taken → Fate sending next
        by None is = untaken is fate
        by (Some answers) is = told_fate sending answers is fate

    pub taking_others : (sending : Sending) → (sending.owner ≡ mine → ⊥) → old_fated sending ≡ true → new_fated sending ≡ true
    taking_others sending strange here =
        stays_at taking.connection link next on taking.there taking.after sending (fate_by sending (λ none fate. absurd (strange (waits_mine sending (fate.waits none))))) here
