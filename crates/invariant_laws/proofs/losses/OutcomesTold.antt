-- The outcomes that a request took, where it takes a step: as before, or one more, of the
-- identifier that it asked.
use Rattle.std.proofs.Common.{◌≡◌, refl, sym, ap, ◌∙◌, Bool, true, false, ℕ, length, List, [], ◌∷◌, ◌++◌, map, fold, Option, Some, None}
use Rattle.std.specs.Prelude.{slice_get}
use Rattle.std.proofs.lemmas.List.{append-nil, map-append}
use Rattle.std.proofs.lemmas.List.Sums.{fold-append}
use Rattle.svc_values.specs.declared.answer.Answer.{Answer}
use Rattle.svc_values.specs.declared.call.Call.{Call}
use Rattle.svc_values.specs.declared.entry.Ltxid.{Ltxid}
use Rattle.svc_values.specs.declared.frame.Up.{Up}
use Rattle.svc_values.specs.declared.frame.Up.TheVariants as up
use Rattle.svc_values.specs.declared.frame.Down.TheVariants as down
use Rattle.outage_schedule.specs.declared.request.Outcome.{Outcome}
use Rattle.run_clauses.specs.meaning.Reports.{told_outcome, report_of}
use Rattle.client_model.specs.declared.act.Hold.{Hold}
use Rattle.client_model.specs.declared.act.Shown.{Shown}
use Rattle.client_model.specs.declared.input.Input.{Input}
use Rattle.client_model.specs.declared.input.Input.TheVariants.{Start, Waiting, Lent, Opened, TryFailed, Took, Gone}
use Rattle.client_model.specs.meaning.Account.{Account, Outcome as Heard, unheard, begins, sends, shows, shows_found, hears, hears_outcome, hears_reply, before_sends, after_step, account_of}
use Rattle.client_model.specs.meaning.Conversation.{Done}
use Rattle.client_model.specs.meaning.Terms.{Terms, Phase, Idle, Unbegun, Queued, Seeking, Greeting, Asked, Running, Replaying}
use Rattle.client_model.proofs.Offered.{Fits}
use Rattle.world_model.specs.meaning.Clients.{Step, Doing}
use Rattle.world_model.specs.meaning.Frames.{Sent}
use Rattle.world_model.specs.Orderly.{Orderly}
use Rattle.world_model.specs.meaning.Links.{Link}
use Rattle.world_model.specs.meaning.Machines.{Machine}
use Rattle.world_model.specs.Traced.{Traced}
use Rattle.world_model.specs.records.Wire.{is_reply_front, handled_from, is_answered_in_order}
use Rattle.world_model.specs.Words.{dones_of}
use Rattle.world_model.proofs.Offered.{at_link, HasStepped, GoesOn, AtOnce, LostToo, HeardOn, OfNone, OfIdle, OfNew, OfReply, OfEnded, at_event, held_now, account_now, FitsNow, talks_fit, first_step, first_doing, before_talks}
use Rattle.invariant_laws.proofs.losses.LostSteps.{in_course}
use Rattle.invariant_laws.proofs.losses.ReplyFits.{is_expected, reply_fits}

-- ONE STEP ----------------------------------------------------------------------------------------

sends_same : (terms : Terms) (now : ℕ) (a : Account) (frame : Up) → (sends terms now a frame).outcomes ≡ a.outcomes
sends_same terms now a (up.Begin settings) = by a.begun
  where
    by : (begun : Bool) → (begins a begun).outcomes ≡ a.outcomes
    by true = refl
    by false = refl
sends_same terms now a (up.Call true kept call) = refl
sends_same terms now a (up.Call false kept call) = refl
sends_same terms now a up.Connect = refl
sends_same terms now a (up.Outcome x) = refl
sends_same terms now a up.End = refl
sends_same terms now a up.Close = refl

all_same : (terms : Terms) (now : ℕ) (frames : List Up) (a : Account) → (fold (sends terms now) a frames).outcomes ≡ a.outcomes
all_same terms now [] a = refl
all_same terms now (frame ∷ frames) a = all_same terms now frames (sends terms now a frame) ∙ sends_same terms now a frame

shows_same : (terms : Terms) (calls : List Call) (a : Account) (shown : Option Shown) → (shows terms calls a shown).outcomes ≡ a.outcomes
shows_same terms calls a None = refl
shows_same terms calls a (Some shown) = by (slice_get calls (length a.shown))
  where
    by : (found : Option Call) → (shows_found terms a shown found).outcomes ≡ a.outcomes
    by None = refl
    by (Some call) = refl

step_same : (terms : Terms) (calls : List Call) (a : Account) (done : Done) → (after_step terms calls a done).outcomes ≡ (hears terms a done.input done.now done.act.shown).outcomes
step_same terms calls a done =
    all_same terms done.now done.act.send (before_sends terms calls a done) ∙ shows_same terms calls (hears terms a done.input done.now done.act.shown) done.act.shown

-- WHAT IS TOLD ------------------------------------------------------------------------------------

-- the outcome that a frame tells in a phase
abbrev pub told_in : Bool → Bool → Phase → List Heard
told_in committed completed (Asked asking) = record { ltxid = asking.ltxid; committed = committed; completed = completed } ∷ []
told_in committed completed _ = []

abbrev pub told_heard : Input → Phase → List Heard
told_heard (Took (down.OutcomeIs committed completed) alive) phase = told_in committed completed phase
told_heard _ phase = []

-- and as it is reported
abbrev pub told_more : Input → Phase → List Outcome
told_more input phase = map told_outcome (told_heard input phase)

-- a frame fits the phase
abbrev pub fits_input : Phase → Input → Bool
fits_input phase (Took frame alive) = is_expected phase frame
fits_input phase _ = true

outcome_told : (terms : Terms) (calls : List Call) (a : Account) (gone : Bool) (phase : Phase) (committed completed : Bool) → Fits terms calls a gone phase → is_expected phase (down.OutcomeIs committed completed) ≡ true
    → (hears_outcome a committed completed a.last).outcomes ≡ a.outcomes ++ told_in committed completed phase
outcome_told terms calls a gone (Asked asking) committed completed fits expected =
    ap (λ (last : Option Up). (hears_outcome a committed completed last).outcomes) fits.1.last
outcome_told terms calls a gone Idle committed completed fits expected = absurd (let none : ⊥ = cc in none)
outcome_told terms calls a gone Unbegun committed completed fits expected = absurd (let none : ⊥ = cc in none)
outcome_told terms calls a gone (Queued from) committed completed fits expected = absurd (let none : ⊥ = cc in none)
outcome_told terms calls a gone (Seeking lost) committed completed fits expected = absurd (let none : ⊥ = cc in none)
outcome_told terms calls a gone (Greeting lost) committed completed fits expected = absurd (let none : ⊥ = cc in none)
outcome_told terms calls a gone (Running state) committed completed fits expected = absurd (let none : ⊥ = cc in none)
outcome_told terms calls a gone (Replaying state) committed completed fits expected = absurd (let none : ⊥ = cc in none)

reply_told : (terms : Terms) (a : Account) (given : List Answer) (x : Ltxid) (shown : Option Shown) → (hears_reply terms a given x shown).outcomes ≡ a.outcomes
reply_told terms a given x None = refl
reply_told terms a given x (Some one) = refl

hears_told : (terms : Terms) (calls : List Call) (a : Account) (gone : Bool) (phase : Phase) (input : Input) (now : ℕ) (shown : Option Shown) → Fits terms calls a gone phase → fits_input phase input ≡ true
    → (hears terms a input now shown).outcomes ≡ a.outcomes ++ told_heard input phase
hears_told terms calls a gone phase Start now shown fits expected = sym (append-nil a.outcomes)
hears_told terms calls a gone phase Waiting now shown fits expected = sym (append-nil a.outcomes)
hears_told terms calls a gone phase (Lent connection x) now shown fits expected = sym (append-nil a.outcomes)
hears_told terms calls a gone phase (Opened connection) now shown fits expected = sym (append-nil a.outcomes)
hears_told terms calls a gone phase TryFailed now shown fits expected = sym (append-nil a.outcomes)
hears_told terms calls a gone phase (Gone event) now shown fits expected = sym (append-nil a.outcomes)
hears_told terms calls a gone phase (Took (down.OutcomeIs committed completed) alive) now shown fits expected = outcome_told terms calls a gone phase committed completed fits expected
hears_told terms calls a gone phase (Took (down.Reply given draws x) alive) now shown fits expected = reply_told terms a given x shown ∙ sym (append-nil a.outcomes)
hears_told terms calls a gone phase (Took (down.Hello x) alive) now shown fits expected = sym (append-nil a.outcomes)
hears_told terms calls a gone phase (Took (down.OutcomeRefused ahead horizon) alive) now shown fits expected = sym (append-nil a.outcomes)
hears_told terms calls a gone phase (Took down.Blocked alive) now shown fits expected = sym (append-nil a.outcomes)
hears_told terms calls a gone phase (Took (down.Refused cause) alive) now shown fits expected = sym (append-nil a.outcomes)

-- A STEP ------------------------------------------------------------------------------------------

module _ (t : Traced) (inv : Orderly t) (number : ℕ) (n : Machine) (step : HasStepped t.setting (at_event t.machine) number n) where
  abbrev now : Machine
  now = at_event t.machine

  abbrev terms : Terms
  terms = t.setting.terms

  abbrev one : Step
  one = first_step t.setting now inv.script.talks number n step

  abbrev first : Doing
  first = first_doing t.setting now inv.script.talks number n step

  abbrev calls : List Call
  calls = step.before.request.calls

  abbrev phase : Phase
  phase = step.before.talk.phase

  first_account : account_now terms first ≡ after_step terms calls (account_now terms step.before) one.done
  first_account =
      ap (λ (dones : List Done). account_of terms calls dones) (map-append (λ (s : Step). s.done) step.before.steps (one ∷ []))
      ∙ fold-append (after_step terms calls) unheard (dones_of step.before.steps) (one.done ∷ [])

  behind_outcomes : (after : Doing) (kept : Hold) → GoesOn t.setting first one.done.act.hold after kept → (account_now terms after).outcomes ≡ (account_now terms first).outcomes
  behind_outcomes _ kept AtOnce = refl
  behind_outcomes _ kept (LostToo event tick ended is) =
      ap (λ (dones : List Done). (account_of terms calls dones).outcomes) (map-append (λ (s : Step). s.done) first.steps (_ ∷ []))
      ∙ ap (λ (a : Account). a.outcomes) (fold-append (after_step terms calls) unheard (dones_of first.steps) (_ ∷ []))

  -- the frame that is taken fits the phase
  pub input_fits : fits_input phase step.input ≡ true
  input_fits = by step.before.connection step.input step.after refl step.heard_on
    where
      by : {said : List Sent} (had : Option ℕ) (input : Input) (after : Doing) → step.before.connection ≡ had → HeardOn t.setting now n number first one.done.act.hold said after had input → fits_input phase input ≡ true
      by _ _ after same (OfNone had Start none frame as_first) = refl
      by _ _ after same (OfNone had Waiting none frame as_first) = refl
      by _ _ after same (OfNone had (Lent connection x) none frame as_first) = refl
      by _ _ after same (OfNone had (Opened connection) none frame as_first) = refl
      by _ _ after same (OfNone had TryFailed none frame as_first) = refl
      by _ _ after same (OfNone had (Took frame alive) none so as_first) = absurd (let never : ⊥ = cc in never)
      by _ _ after same (OfNone had (Gone event) none so as_first) = refl
      by _ _ after same (OfIdle had connection x answer as_first) = refl
      by _ _ after same (OfNew had as_first) = refl
      by _ _ after same (OfEnded had connection link has there shut next as_first) = refl
      by _ _ after same (OfReply had connection link reply left has there down next back) =
          let links : List Link = t.machine.links in
          let mine : step.before.connection ≡ Some connection = same ∙ has in
          reply_fits (record { client = number; place = length step.client.past }) phase link reply left
          ((held_now t inv).out number step.client step.before connection link step.here (in_course t inv number n step connection mine) mine there) down
          (at_link is_reply_front links connection link inv.wire.replies there) (at_link (λ l. handled_from 0 l.served) links connection link inv.wire.handled there)
          (at_link is_answered_in_order links connection link inv.wire.in_order there)

  -- its outcomes then
  pub outcomes_are : (report_of terms step.after.request (dones_of step.after.steps)).outcomes ≡ (report_of terms step.before.request (dones_of step.before.steps)).outcomes ++ told_more step.input phase
  outcomes_are =
      let known : FitsNow terms step.before = talks_fit terms false step.before (before_talks t.setting now inv.script.talks number n step) in
      ap (map told_outcome)
      (behind_outcomes step.after step.held step.goes_on
      ∙ (ap (λ (a : Account). a.outcomes) first_account
      ∙ (step_same terms calls (account_now terms step.before) one.done
      ∙ hears_told terms calls (account_now terms step.before) known.gone phase step.input now.tick one.done.act.shown known.fits input_fits)))
      ∙ map-append told_outcome (account_now terms step.before).outcomes (told_heard step.input phase)
