-- What is known of a client that steps: its conversation, and where it stands behind its input.
use Rattle.std.proofs.Common.{◌≡◌, refl, sym, ap, subst, ◌∙◌, Bool, false, ℕ, fold, length, List, ◌++◌, Option}
use Rattle.std.specs.Option.{option_map_or}
use Rattle.std.proofs.lemmas.List.{map-append}
use Rattle.std.proofs.lemmas.List.Sums.{fold-append}
use Rattle.svc_values.specs.declared.call.Call.{Call}
use Rattle.outage_schedule.specs.declared.document.Request.{Request}
use Rattle.client_model.specs.meaning.Account.{Account, account_of, unheard, after_step}
use Rattle.client_model.specs.meaning.Conversation.{Done}
use Rattle.client_model.specs.Conversation.{is_gone_next, talk_after}
use Rattle.client_model.specs.meaning.Terms.{Terms, Talk, Phase}
use Rattle.client_model.proofs.Offered.{Fits, first_talks, last_fits}
use Rattle.world_model.specs.meaning.Settings.{Setting}
use Rattle.world_model.specs.meaning.Acting.{owner_at}
use Rattle.world_model.specs.meaning.Clients.{Step, Doing, Client, heard, step_at}
use Rattle.world_model.specs.records.Conversing.{AllTalk, Talks, inputs_of, first_talk}
use Rattle.world_model.specs.meaning.Machines.{Machine}
use Rattle.world_model.specs.Words.{dones_of}
use Rattle.world_model.proofs.events.ClientSteps.{HasStepped, same_request_after}
use Rattle.world_model.proofs.events.CoursesGrow.{HasMore, more_after}
use Rattle.world_model.proofs.script.Recalling.{ShownMore, folds_more}
use Rattle.world_model.proofs.script.Talking.{talk_hears}
use Rattle.world_model.proofs.script.TalksKept.{talks_at, does_talk}

-- the account of a request's steps
abbrev pub account_now : Terms → Doing → Account
account_now terms doing = account_of terms doing.request.calls (dones_of doing.steps)

-- where it stands fits its account
pub record FitsNow (terms : Terms) (doing : Doing) : Type 0 where
  pub gone : Bool
  pub fits : Fits terms doing.request.calls (account_now terms doing) gone doing.talk.phase

pub talks_fit : (terms : Terms) (due : Bool) (doing : Doing) → Talks terms due doing → FitsNow terms doing
talks_fit terms due doing talks =
    let talk : Talk = first_talk doing.request in
    let last = last_fits terms doing.request.settings doing.request.calls (inputs_of doing.steps) unheard false talk (λ e. first_talks terms doing.request.settings doing.request.calls) refl talks.converses.may in
    record {
      gone = last.0;
      fits = subst (λ (phase : Phase). Fits terms doing.request.calls (account_now terms doing) last.0 phase) (ap (λ (t : Talk). t.phase) talks.stands)
          (subst (λ (dones : List Done). Fits terms doing.request.calls (account_of terms doing.request.calls dones) last.0 (talk_after terms talk (inputs_of doing.steps)).phase) (sym talks.converses.acts) last.1);
    }

-- SHOWN CALLS STAY --------------------------------------------------------------------------------

-- of a request that took further steps
pub shown_later : (terms : Terms) (doing later : Doing) → later.request ≡ doing.request → HasMore doing.steps later.steps → ShownMore terms doing.request.calls (account_now terms doing) (account_now terms later)
shown_later terms doing later request further =
    let calls : List Call = doing.request.calls in
    let folds : ShownMore terms calls (account_now terms doing) (fold (after_step terms calls) (account_now terms doing) (dones_of further.more)) = folds_more terms calls (dones_of further.more) (account_now terms doing) in
    let dones : dones_of later.steps ≡ dones_of doing.steps ++ dones_of further.more = ap dones_of further.are ∙ map-append (λ (step : Step). step.done) doing.steps further.more in
    let same : account_now terms later ≡ fold (after_step terms calls) (account_now terms doing) (dones_of further.more) =
    ap (λ (r : Request). account_of terms r.calls (dones_of later.steps)) request
    ∙ (ap (λ (d : List Done). account_of terms calls d) dones ∙ fold-append (after_step terms calls) unheard (dones_of doing.steps) (dones_of further.more)) in
    record { more = folds.more; are = ap (λ (a : Account). a.shown) same ∙ folds.are }

-- A STEP ------------------------------------------------------------------------------------------

module _ (setting : Setting) (m : Machine) (talks : AllTalk setting.terms m.clients) (number : ℕ) (n : Machine) (step : HasStepped setting m number n) where
  -- its step, and where it stands behind it
  abbrev pub first_step : Step
  first_step = step_at setting.terms m.event m.tick (record step.before { connection = step.connection }) step.input

  abbrev pub first_doing : Doing
  first_doing = heard setting.terms m.event m.tick (record step.before { connection = step.connection }) step.input

  pub step_owner : owner_at m number ≡ record { client = number; place = length step.client.past }
  step_owner = ap (λ (found : Option Client). record { client = number; place = option_map_or (λ (one : Client). length one.past) found 0 }) step.here

  pub before_talks : Talks setting.terms false step.before
  before_talks = does_talk setting.terms m.event m.tick step.client.now step.client.next step.before step.does (talks_at setting.terms m.clients number step.client talks step.here).1

  pub first_talks_on : Talks setting.terms (is_gone_next step.input first_step.done.act.hold) first_doing
  first_talks_on = talk_hears setting.terms false m.event m.tick (record step.before { connection = step.connection }) step.before.connection step.input before_talks step.connects step.may

  pub first_fits : FitsNow setting.terms first_doing
  first_fits = talks_fit setting.terms (is_gone_next step.input first_step.done.act.hold) first_doing first_talks_on

  pub request_after : step.after.request ≡ step.before.request
  request_after = same_request_after setting first_doing step.after first_step.done.act.hold step.held step.goes_on

  -- the loss may be heard behind it
  pub behind_first : HasMore first_doing.steps step.after.steps
  behind_first = more_after setting first_doing step.after first_step.done.act.hold step.held step.goes_on
