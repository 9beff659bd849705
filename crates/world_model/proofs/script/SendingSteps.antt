-- Where a client steps, its sendings are the unmarked calls that it sent, on each connection that
-- it held.
use Rattle.std.proofs.Common.{◌≡◌, refl, sym, ap, subst, ◌∙◌, Bool, true, false, ℕ, ◌+◌, ◌&&◌, cond, fold, length, append_assoc, List, [], ◌∷◌, ◌++◌, map, Option, Some, None}
use Rattle.std.specs.Prelude.{◌==◌, is_some, unwrap_or}
use Rattle.std.specs.List.{list_all, list_any, cons_option}
use Rattle.std.specs.Option.{option_or, option_map_or}
use Rattle.std.specs.Cmp.Lexicographic.{pointwise}
use Rattle.std.proofs.lemmas.Bool.{and_parts, and_from}
use Rattle.std.proofs.lemmas.List.{append-nil, map-append}
use Rattle.std.proofs.lemmas.List.Elements.{filter_map-append}
use Rattle.std.proofs.lemmas.List.Sums.{fold-append}
use Rattle.svc_values.specs.declared.frame.Up.{Up}
use Rattle.svc_values.specs.declared.frame.Up.TheVariants as up
use Rattle.pool_core.specs.meaning.Slots.{give_back_answer}
use Rattle.client_model.specs.declared.act.Hold.{Hold}
use Rattle.client_model.specs.declared.input.Input.TheVariants.{Lent}
use Rattle.client_model.specs.declared.input.Wants.{Wants}
use Rattle.client_model.specs.declared.input.Wants.TheVariants as wants
use Rattle.client_model.specs.Conversation.{is_wanted}
use Rattle.client_model.specs.meaning.Terms.{Talk, Phase, Idle, Unbegun, Queued, Seeking, Greeting, Asked, Running, Replaying}
use Rattle.world_model.specs.meaning.Acting.{closing, frames_of, sent_by, call_in, owner_at}
use Rattle.world_model.specs.meaning.Clients.{Step, Doing}
use Rattle.world_model.specs.records.Conversing.{AllTalk, connection_after, first_talk}
use Rattle.world_model.specs.meaning.Frames.{Owner, Sent}
use Rattle.world_model.specs.meaning.Links.{Link, link_at, told_by}
use Rattle.world_model.specs.meaning.Machines.{Machine}
use Rattle.world_model.specs.Parts.{Sending, Scan, scanned, answered, sent_on}
use Rattle.world_model.specs.records.Script.{is_sending_of}
use Rattle.world_model.specs.meaning.Settings.{Setting}
use Rattle.world_model.specs.Traced.{Course}
use Rattle.world_model.specs.Words.{brought, held_in}
use Rattle.world_model.proofs.events.AllLists.{weaker_all}
use Rattle.world_model.proofs.events.ClientSteps.{HasStepped, GoesOn, AtOnce, LostToo}
use Rattle.world_model.proofs.script.Sendings.{calls_of, on_of, agrees, answered_agrees, sends_at, frames_agree, closing_agrees, all_elsewhere}
use Rattle.world_model.proofs.wire.SentAt.{sents_at, sents_pass, link_passes, passes_to, spoken_own, spoken_others, never_sent}
use Rattle.world_model.proofs.wire.SentLists.{sent_lists, spoken}
use Rattle.world_model.proofs.events.StepFacts.{first_step, first_doing, step_owner, first_talks_on}
use Rattle.world_model.proofs.script.TalkFrames.{is_running, frame_fits, send_fits}
use Rattle.world_model.proofs.script.TalkTold.{IsAt, scan_steps, scan_leads}
use Rattle.world_model.proofs.events.Tests.{eq_from, eq_to}

-- THE TEST ----------------------------------------------------------------------------------------

abbrev no_scan : Owner → Scan
no_scan owner = record { owner = owner; connection = 0; held = None; shown = 0; sendings = [] }

-- the scan of these steps
abbrev pub scan_by : Owner → List Step → Scan
scan_by owner steps = fold scanned (no_scan owner) steps

-- on the connection of a number
abbrev pub sent_so : Owner → List Step → List (List Sent) → ℕ → Bool
sent_so owner steps lists number = sents_pass (λ sents. agrees owner number sents (scan_by owner steps).sendings) lists number

abbrev pub sent_on_held : Owner → List Step → List (List Sent) → Bool
sent_on_held owner steps lists = list_all (sent_so owner steps lists) (held_in steps)

pub by_lists : (links : List Link) (owner : Owner) (steps : List Step) (numbers : List ℕ)
    → list_all (λ number. option_map_or (λ (link : Link). agrees owner number link.sent (scan_by owner steps).sendings) (link_at links number) false) numbers ≡ list_all (sent_so owner steps (sent_lists links)) numbers
by_lists links owner steps [] = refl
by_lists links owner steps (number ∷ numbers) =
    ap (λ (test : Bool). test && list_all (λ number. option_map_or (λ (link : Link). agrees owner number link.sent (scan_by owner steps).sendings) (link_at links number) false) numbers)
    (link_passes (λ sents. agrees owner number sents (scan_by owner steps).sendings) links number)
    ∙ ap (λ (rest : Bool). sent_so owner steps (sent_lists links) number && rest) (by_lists links owner steps numbers)

-- of a request
abbrev pub course_sent : List Link → Course → Bool
course_sent links course = list_all (λ number. option_map_or (λ (link : Link). agrees course.owner number link.sent (scan_by course.owner course.steps).sendings) (link_at links number) false) (held_in course.steps)

-- A STEP ------------------------------------------------------------------------------------------

pub slot_wanted : (wanted : Wants) (connection : ℕ) (ltxid : _) → is_wanted wanted (Lent connection ltxid) ≡ true → wanted ≡ wants.Slot
slot_wanted wants.Slot connection ltxid is = refl
slot_wanted wants.Idle connection ltxid is = absurd (let none : ⊥ = cc in none)
slot_wanted wants.Request connection ltxid is = absurd (let none : ⊥ = cc in none)
slot_wanted wants.Try connection ltxid is = absurd (let none : ⊥ = cc in none)
slot_wanted wants.Early connection ltxid is = absurd (let none : ⊥ = cc in none)
slot_wanted wants.Frame connection ltxid is = absurd (let none : ⊥ = cc in none)

module _ (setting : Setting) (m : Machine) (talks : AllTalk setting.terms m.clients) (number : ℕ) (n : Machine) (step : HasStepped setting m number n) where
  abbrev mine : Owner
  mine = record { client = number; place = length step.client.past }

  abbrev one : Step
  one = first_step setting m talks number n step

  abbrev first : Doing
  first = first_doing setting m talks number n step

  abbrev phase : Phase
  phase = first.talk.phase

  abbrev before_scan : Scan
  before_scan = scan_by mine step.before.steps

  -- behind the input, before its frames
  abbrev pub heard_scan : Scan
  heard_scan = record {
    owner = before_scan.owner;
    connection = option_map_or (λ connection. connection) (brought step.input) before_scan.connection;
    held = option_or (told_by step.input) before_scan.held;
    shown = before_scan.shown + cond (is_some one.done.act.shown) 1 0;
    sendings = answered step.input one.done.act.shown before_scan.sendings;
  }

  abbrev new_sendings : List Sending
  new_sendings = fold (sent_on heard_scan) heard_scan.sendings one.done.act.send

  first_scan : scan_by mine first.steps ≡ scanned before_scan one
  first_scan = fold-append scanned (no_scan mine) step.before.steps (one ∷ [])

  at_first : IsAt (scan_by mine first.steps) phase
  at_first =
      let so = first_talks_on setting m talks number n step in
      subst (λ (p : Phase). IsAt (scan_by mine first.steps) p) (ap (λ (talk : Talk). talk.phase) so.stands)
      (scan_steps setting.terms (first_talk first.request) false (no_scan mine) first.steps so.converses.acts so.converses.may (record { shown = refl; held = refl }))

  at_heard : IsAt (scanned before_scan one) phase
  at_heard = subst (λ (scan : Scan). IsAt scan phase) first_scan at_first

  -- behind the loss too the sendings are the same
  pub after_sendings : (scan_by mine step.after.steps).sendings ≡ new_sendings
  after_sendings = by step.goes_on ∙ ap (λ (scan : Scan). scan.sendings) first_scan
    where
      by : {after : Doing} {kept : Hold} → GoesOn setting first one.done.act.hold after kept → (scan_by mine after.steps).sendings ≡ (scan_by mine first.steps).sendings
      by AtOnce = refl
      by (LostToo event tick ended is) = ap (λ (scan : Scan). scan.sendings) (fold-append scanned (no_scan mine) first.steps (_ ∷ []))

  pub after_held : held_in step.after.steps ≡ held_in step.before.steps ++ cons_option (brought step.input) []
  after_held = by step.goes_on ∙ filter_map-append (λ (s : Step). brought s.done.input) step.before.steps (one ∷ [])
    where
      by : {after : Doing} {kept : Hold} → GoesOn setting first one.done.act.hold after kept → held_in after.steps ≡ held_in first.steps
      by AtOnce = refl
      by (LostToo event tick ended is) = filter_map-append (λ (s : Step). brought s.done.input) first.steps (_ ∷ []) ∙ append-nil (held_in first.steps)

  -- a call without the mark is at its place
  fits_place : (frame : Up) → frame_fits phase frame ≡ true → sends_at heard_scan (call_in phase) frame ≡ true
  fits_place (up.Call false kept call) fits = by phase at_heard (and_parts (length kept == 0) (is_running phase) fits).1
    where
      by : (p : Phase) → IsAt (scanned before_scan one) p → is_running p ≡ true → (is_some heard_scan.held && (call_in p == heard_scan.shown)) ≡ true
      by (Running state) at running = and_from (is_some heard_scan.held) (state.track.call == heard_scan.shown) at.held at.shown
      by Idle at running = absurd (let none : ⊥ = cc in none)
      by Unbegun at running = absurd (let none : ⊥ = cc in none)
      by (Queued from) at running = absurd (let none : ⊥ = cc in none)
      by (Seeking lost) at running = absurd (let none : ⊥ = cc in none)
      by (Greeting lost) at running = absurd (let none : ⊥ = cc in none)
      by (Asked asking) at running = absurd (let none : ⊥ = cc in none)
      by (Replaying state) at running = absurd (let none : ⊥ = cc in none)
  fits_place (up.Call true kept call) fits = refl
  fits_place up.Connect fits = refl
  fits_place (up.Begin settings) fits = refl
  fits_place (up.Outcome x) fits = refl
  fits_place up.End fits = refl
  fits_place up.Close fits = refl

  pub places : list_all (sends_at heard_scan (call_in phase)) one.done.act.send ≡ true
  places = weaker_all (frame_fits phase) (sends_at heard_scan (call_in phase)) one.done.act.send fits_place (send_fits setting.terms step.before.talk step.input m.tick)

  -- the scan is on the connection on which it speaks
  pub leads : (connection : ℕ) → step.connection ≡ Some connection → heard_scan.connection ≡ connection
  leads connection is =
      let left : connection_after first.steps ≡ Some connection = (first_talks_on setting m talks number n step).has ∙ is in
      ap (λ (scan : Scan). scan.connection) (sym first_scan) ∙ scan_leads None (no_scan mine) first.steps (λ other never. absurd (let none : ⊥ = cc in none)) connection left

  abbrev said : List Sent
  said = map (sent_by (owner_at m number) (call_in phase)) (frames_of step.pool (unwrap_or step.connection 0) one.done.act)

  pub said_mine : said ≡ map (sent_by mine (call_in phase)) one.done.act.send ++ map (sent_by mine (call_in phase)) (closing one.done.act.hold (give_back_answer step.pool (unwrap_or step.connection 0)))
  said_mine =
      ap (λ (owner : Owner). map (sent_by owner (call_in phase)) (frames_of step.pool (unwrap_or step.connection 0) one.done.act)) (step_owner setting m talks number n step)
      ∙ map-append (sent_by mine (call_in phase)) one.done.act.send (closing one.done.act.hold (give_back_answer step.pool (unwrap_or step.connection 0)))

  -- ONE CONNECTION --------------------------------------------------------------------------------

  abbrev new_lists : List (List Sent)
  new_lists = spoken step.lists (unwrap_or step.connection 0) said

  -- where it was so before
  pub goes_so : (at : ℕ) (sents : List Sent) → sents_at step.lists at ≡ Some sents → agrees mine at sents before_scan.sendings ≡ true → sents_pass (λ s. agrees mine at s new_sendings) new_lists at ≡ true
  goes_so at sents there here = by step.connection refl
    where
      heard_so : agrees mine at sents heard_scan.sendings ≡ true
      heard_so = answered_agrees mine at sents step.input one.done.act.shown before_scan.sendings here

      own : (connection : ℕ) → step.connection ≡ Some connection → connection ≡ at → sents_pass (λ s. agrees mine at s new_sendings) (spoken step.lists connection said) at ≡ true
      own connection is same =
          let place : (heard_scan.connection == at) ≡ true = eq_to heard_scan.connection at (leads connection is ∙ same) in
          let sends : agrees mine at (sents ++ map (sent_by mine (call_in phase)) one.done.act.send) new_sendings ≡ true = frames_agree mine at (call_in phase) heard_scan one.done.act.send sents heard_scan.sendings place places heard_so in
          let closes = closing_agrees mine at (call_in phase) heard_scan one.done.act.hold (give_back_answer step.pool (unwrap_or step.connection 0)) (sents ++ map (sent_by mine (call_in phase)) one.done.act.send) new_sendings sends in
          let all : agrees mine at (sents ++ said) new_sendings ≡ true =
          subst (λ (s : List Sent). agrees mine at s new_sendings ≡ true)
          (append_assoc sents (map (sent_by mine (call_in phase)) one.done.act.send) (map (sent_by mine (call_in phase)) (closing one.done.act.hold (give_back_answer step.pool (unwrap_or step.connection 0))))
          ∙ ap (λ (more : List Sent). sents ++ more) (sym said_mine)) closes in
          passes_to (λ s. agrees mine at s new_sendings) (spoken step.lists connection said) at (sents ++ said)
          (subst (λ (k : ℕ). sents_at (spoken step.lists k said) at ≡ Some (sents ++ said)) (sym same) (spoken_own step.lists at said sents there)) all

      other : (connection : ℕ) → step.connection ≡ Some connection → (connection == at) ≡ false → sents_pass (λ s. agrees mine at s new_sendings) (spoken step.lists connection said) at ≡ true
      other connection is differs =
          let place : (heard_scan.connection == at) ≡ false = ap (λ (k : ℕ). k == at) (leads connection is) ∙ differs in
          passes_to (λ s. agrees mine at s new_sendings) (spoken step.lists connection said) at sents
          (spoken_others step.lists connection at said (λ same. let yes_is : (connection == at) ≡ true = eq_to connection at (sym same) in let never : ⊥ = cc in never) ∙ there)
          (subst (λ (on : List Sending). pointwise is_sending_of (calls_of mine sents) on ≡ true) (sym (all_elsewhere mine at (call_in phase) heard_scan one.done.act.send heard_scan.sendings place)) heard_so)

      silent : step.connection ≡ None → sents_pass (λ s. agrees mine at s new_sendings) step.lists at ≡ true
      silent none =
          passes_to (λ s. agrees mine at s new_sendings) step.lists at sents there
          (subst (λ (send : List Up). agrees mine at sents (fold (sent_on heard_scan) heard_scan.sendings send) ≡ true) (sym (step.silent none)) heard_so)

      either : (connection : ℕ) → step.connection ≡ Some connection → (test : Bool) → (connection == at) ≡ test → sents_pass (λ s. agrees mine at s new_sendings) (spoken step.lists connection said) at ≡ true
      either connection is true same = own connection is (eq_from connection at same)
      either connection is false differs = other connection is differs

      by : (connection : Option ℕ) → step.connection ≡ connection → sents_pass (λ s. agrees mine at s new_sendings) (spoken step.lists (unwrap_or connection 0) said) at ≡ true
      by None is = silent is
      by (Some connection) is = either connection is (connection == at) refl

  -- one that it never held before
  pub fresh_so : (at : ℕ) (sents : List Sent) → sents_at step.lists at ≡ Some sents → calls_of mine sents ≡ [] → list_any (λ other. other == at) (held_in step.before.steps) ≡ false → (0 == at) ≡ false
      → sents_pass (λ s. agrees mine at s new_sendings) new_lists at ≡ true
  fresh_so at sents there none never positive =
      goes_so at sents there
      (subst (λ (calls : List Sent). pointwise is_sending_of calls (on_of at before_scan.sendings) ≡ true) (sym none)
      (subst (λ (on : List Sending). pointwise is_sending_of [] on ≡ true) (sym (never_sent at (no_scan mine) step.before.steps never positive refl)) refl))
