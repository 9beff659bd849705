-- What a request was shown, and the outcomes that it took, are those that its steps tell, in order.
use Rattle.std.proofs.Common.{◌≡◌, refl, sym, ap, subst, ◌∙◌, append-nil, append_assoc, Bool, true, false, ℕ, List, [], ◌∷◌, ◌++◌, map, Option, Some, None, option_to_list}
use Rattle.std.specs.Prelude.{filter_map, fold, slice_get}
use Rattle.std.proofs.lemmas.List.{map-append}
use Rattle.std.proofs.lemmas.List.Elements.{filter_map-append}
use Rattle.std.proofs.lemmas.List.Sums.{fold-append}
use Rattle.svc_values.specs.declared.call.Call.{Call}
use Rattle.svc_values.specs.declared.entry.Ltxid.{Ltxid}
use Rattle.client_model.proofs.Offered.{Fits, IsTalk, Holds, first_talks, last_fits, last_talks, next_left}
use Rattle.client_model.specs.declared.track.Track.{Track}
use Rattle.client_model.specs.meaning.Account.{Account, Outcome as Heard, unheard, after_step, account_of}
use Rattle.client_model.specs.Conversation.{steps_of, talk_after}
use Rattle.client_model.specs.declared.act.Shown.{Shown}
use Rattle.client_model.specs.meaning.Terms.{Terms, Talk, Phase, Idle, Queued, Asked, Running}
use Rattle.outage_schedule.specs.declared.document.Request.{Request}
use Rattle.outage_schedule.specs.declared.item.Served.{Served}
use Rattle.outage_schedule.specs.declared.request.Outcome.{Outcome}
use Rattle.run_clauses.specs.meaning.Reports.{told_outcome}
use Rattle.shown_clauses.specs.meaning.Showings.{showing_at, outcome_at, showings}
use Rattle.shown_clauses.specs.meaning.Steps.{Step as StepTold}
use Rattle.world_model.specs.meaning.Clients.{Step, Doing, Client}
use Rattle.world_model.specs.records.Conversing.{IsTalking, Talks, inputs_of, first_talk}
use Rattle.world_model.specs.meaning.Settings.{Setting}
use Rattle.world_model.specs.Traced.{Traced}
use Rattle.world_model.specs.Words.{dones_of}
use Rattle.shown_laws.specs.ShowingsTold.{AreShownBy, NoneShown, OneShown}
use Rattle.shown_laws.specs.Tellings.{Telling, steps_in_tellings, Begins, WasThere, BeginsNow, TellsStep, TellsRequest, NoneYet, OneMore}
use Rattle.shown_laws.proofs.steps.BeforeSession.{talks_at}
use Rattle.shown_laws.proofs.steps.SessionsReached.{as_list}
use Rattle.shown_laws.proofs.shown.StepsAdd.{may_show, NextCall, Known, Adds, kind_adds}

-- WHAT IS KNOWN -----------------------------------------------------------------------------------

abbrev pub is_idle : Phase → Bool
is_idle Idle = true
is_idle _ = false

is_not_idle : (phase : Phase) → may_show phase ≡ true → is_idle phase ≡ false
is_not_idle (Asked state) shows = refl
is_not_idle (Running state) shows = refl
is_not_idle _ shows = absurd (let none : ⊥ = cc in none)

module _ (terms : Terms) (due : Bool) (doing : Doing) (talks : Talks terms due doing) where
  abbrev heard : Account
  heard = account_of terms doing.request.calls (dones_of doing.steps)

  same_heard : account_of terms doing.request.calls (steps_of terms (first_talk doing.request) (inputs_of doing.steps)) ≡ heard
  same_heard = ap (account_of terms doing.request.calls) (sym talks.converses.acts)

  pub fits : (gone : Bool) × Fits terms doing.request.calls heard gone doing.talk.phase
  fits =
      let last = last_fits terms doing.request.settings doing.request.calls (inputs_of doing.steps) unheard false (first_talk doing.request) (λ none. first_talks terms doing.request.settings doing.request.calls) refl talks.converses.may in (
        last.0,
        subst (λ (talk : Talk). Fits terms doing.request.calls heard last.0 talk.phase) talks.stands
            (subst (λ (a : Account). Fits terms doing.request.calls a last.0 (talk_after terms (first_talk doing.request) (inputs_of doing.steps)).phase) same_heard last.1),
      )

  stays : may_show doing.talk.phase ≡ true → IsTalk terms doing.request.settings doing.request.calls heard doing.talk
  stays shows =
      subst (λ (talk : Talk). IsTalk terms doing.request.settings doing.request.calls heard talk) talks.stands
      (subst (λ (a : Account). IsTalk terms doing.request.settings doing.request.calls a (talk_after terms (first_talk doing.request) (inputs_of doing.steps))) same_heard
      (last_talks terms doing.request.settings doing.request.calls (inputs_of doing.steps) unheard false (first_talk doing.request) (λ none. first_talks terms doing.request.settings doing.request.calls) refl talks.converses.may
      (is_not_idle (talk_after terms (first_talk doing.request) (inputs_of doing.steps)).phase (ap (λ (talk : Talk). may_show talk.phase) talks.stands ∙ shows))))

  next_of_track : (track : Track) (x : Ltxid) (event : Option ℕ) → may_show doing.talk.phase ≡ true → Holds terms doing.request.calls heard track x event → NextCall doing.request.calls heard.shown doing.talk
  next_of_track track x event shows holds = record {
    call = holds.left.one;
    next = sym (next_left terms doing.request.settings doing.request.calls heard doing.talk track (stays shows) holds.tracked) ∙ holds.left.is;
    there = ap (slice_get doing.request.calls) (sym holds.tracked.call) ∙ holds.left.is;
  }

  pub heard_known : Known doing.request.calls heard.shown heard.last doing.talk
  heard_known = record { left = λ shows. by doing.talk.phase refl fits.1 shows; asked = λ state is. (subst (λ (phase : Phase). Fits terms doing.request.calls heard fits.0 phase) is fits.1).1.last }
    where
      by : (phase : Phase) → doing.talk.phase ≡ phase → Fits terms doing.request.calls heard fits.0 phase → may_show phase ≡ true → NextCall doing.request.calls heard.shown doing.talk
      by (Asked state) is its shows = next_of_track state.track state.ltxid (Some state.event) (ap may_show is) its.0
      by (Running state) is its shows = next_of_track state.track state.ltxid None (ap may_show is) its.0
      by _ is its shows = absurd (let none : ⊥ = cc in none)

-- STEPS OF A REQUEST ------------------------------------------------------------------------------

-- the request that the client is at, where it begins or was there before
doing_known : (t : Traced) (own : Client) (doing : Doing) (steps began : List Step) → Begins t own doing steps began → IsTalking t.setting.terms own.now
    → Known doing.request.calls (account_of t.setting.terms doing.request.calls (dones_of doing.steps)).shown (account_of t.setting.terms doing.request.calls (dones_of doing.steps)).last doing.talk
doing_known t own doing _ _ (WasThere now) talks = heard_known t.setting.terms false doing (subst (IsTalking t.setting.terms) now talks)
doing_known t own doing _ _ (BeginsNow request now next is) talks =
    let waits : doing.talk.phase ≡ Queued None = ap (λ (one : Doing). one.talk.phase) is in
    record {
      left = λ shows. let none : false ≡ true = sym (ap may_show waits) ∙ shows in absurd (let never : ⊥ = cc in never);
      asked = λ state asks. let none : Queued None ≡ Asked state = sym waits ∙ asks in absurd (let never : ⊥ = cc in never);
    }

pub all_steps : (t : Traced) (own : Client) (doing : Doing) (steps began : List Step) → Begins t own doing steps began → doing.steps ≡ steps ++ began
all_steps t own doing _ _ (WasThere now) = sym (append-nil doing.steps)
all_steps t own doing _ _ (BeginsNow request now next is) = ap (λ (one : Doing). one.steps) is

-- Its Start shows nothing.
pub record IsSilent (a b : Account) : Type 0 where
  pub shown : b.shown ≡ a.shown
  pub outcomes : b.outcomes ≡ a.outcomes

began_silent : (terms : Terms) (calls : List Call) (t : Traced) (own : Client) (doing : Doing) (steps began : List Step) → Begins t own doing steps began
    → IsSilent (account_of terms calls (dones_of steps)) (account_of terms calls (dones_of (steps ++ began)))
began_silent terms calls t own doing _ _ (WasThere now) =
    let same : account_of terms calls (dones_of (doing.steps ++ [])) ≡ account_of terms calls (dones_of doing.steps) = ap (λ (l : List Step). account_of terms calls (dones_of l)) (append-nil doing.steps) in
    record { shown = ap (λ (a : Account). a.shown) same; outcomes = ap (λ (a : Account). a.outcomes) same }
began_silent terms calls t own doing _ _ (BeginsNow request now next is) = record { shown = refl; outcomes = refl }

adds_from : (a b c : Account) (step : StepTold) → IsSilent a b → Adds b c step → Adds a c step
adds_from a b c step silent adds = record {
  shown = adds.shown;
  shown_are = adds.shown_are ∙ ap (λ (l : List Shown). l ++ adds.shown) silent.shown;
  by_them = adds.by_them;
  outcomes = adds.outcomes;
  outcomes_are = adds.outcomes_are ∙ ap (λ (l : List Heard). l ++ adds.outcomes) silent.outcomes;
  told = adds.told;
}

-- what the account gains by a step that is told
own_adds : (setting : Setting) (client place : ℕ) (request : Request) (steps : List Step) (one : Telling) (tells : TellsStep setting client place request steps one)
    → Adds (account_of setting.terms tells.doing.request.calls (dones_of steps)) (account_of setting.terms tells.doing.request.calls (dones_of (steps ++ one.acts))) one.step
own_adds setting client place request steps one tells =
    subst (λ (b : Account). Adds (account_of setting.terms calls (dones_of steps)) b one.step) (sym behind)
    (adds_from (account_of setting.terms calls (dones_of steps)) before (fold (after_step setting.terms calls) before (dones_of tells.acts)) one.step (began_silent setting.terms calls tells.t tells.own tells.doing steps tells.began tells.begins)
    (kind_adds tells.t client place tells.doing one.step setting.terms calls before known tells.acts tells.kind))
  where
    calls : List Call
    calls = tells.doing.request.calls

    before : Account
    before = account_of setting.terms calls (dones_of (steps ++ tells.began))

    behind : account_of setting.terms calls (dones_of (steps ++ one.acts)) ≡ fold (after_step setting.terms calls) before (dones_of tells.acts)
    behind =
        ap (λ (l : List Step). account_of setting.terms calls (dones_of l)) (ap (λ (l : List Step). steps ++ l) tells.all ∙ sym (append_assoc steps tells.began tells.acts))
        ∙ (ap (account_of setting.terms calls) (map-append (λ (step : Step). step.done) (steps ++ tells.began) tells.acts)
        ∙ fold-append (after_step setting.terms calls) unheard (dones_of (steps ++ tells.began)) (dones_of tells.acts))

    KnownBehind : Setting → List Step → Type 0
    KnownBehind made all = Known calls (account_of made.terms calls (dones_of all)).shown (account_of made.terms calls (dones_of all)).last tells.doing.talk

    known : Known calls before.shown before.last tells.doing.talk
    known =
        subst (λ (made : Setting). KnownBehind made (steps ++ tells.began)) tells.of_run
        (subst (KnownBehind tells.t.setting) (all_steps tells.t tells.own tells.doing steps tells.began tells.begins)
        (doing_known tells.t tells.own tells.doing steps tells.began tells.begins (talks_at tells.t.setting.terms tells.t.machine.clients client tells.own tells.inv.orderly.script.talks tells.here).1))

pub step_adds : (setting : Setting) (client place : ℕ) (request : Request) (steps : List Step) (one : Telling) → TellsStep setting client place request steps one
    → Adds (account_of setting.terms request.calls (dones_of steps)) (account_of setting.terms request.calls (dones_of (steps ++ one.acts))) one.step
step_adds setting client place request steps one tells =
    subst (λ (r : Request). Adds (account_of setting.terms r.calls (dones_of steps)) (account_of setting.terms r.calls (dones_of (steps ++ one.acts))) one.step) tells.same (own_adds setting client place request steps one tells)

-- ALL STEPS ---------------------------------------------------------------------------------------

shown_append : (xs more : List Shown) (ys items : List Served) → AreShownBy xs ys → AreShownBy more items → AreShownBy (xs ++ more) (ys ++ items)
shown_append _ more _ items NoneShown rest = rest
shown_append _ more _ items (OneShown shown served others after is so) rest = OneShown shown served (others ++ more) (after ++ items) is (shown_append others more after items so rest)

-- what is told of the steps, as the account has it
pub record IsAccounted (a : Account) (steps : List StepTold) : Type 0 where
  pub shown : AreShownBy a.shown (showings steps)
  pub outcomes : map told_outcome a.outcomes ≡ filter_map outcome_at steps

accounted_more : (a b : Account) (steps : List StepTold) (one : StepTold) → IsAccounted a steps → Adds a b one → IsAccounted b (steps ++ one ∷ [])
accounted_more a b steps one is adds = record {
  shown = subst (λ (l : List Shown). AreShownBy l (showings (steps ++ one ∷ []))) (sym adds.shown_are)
      (subst (AreShownBy (a.shown ++ adds.shown)) (sym (filter_map-append showing_at steps (one ∷ []) ∙ ap (λ (l : List Served). showings steps ++ l) (as_list (showing_at one))))
      (shown_append a.shown adds.shown (showings steps) (option_to_list (showing_at one)) is.shown adds.by_them));
  outcomes = ap (map told_outcome) adds.outcomes_are
      ∙ (map-append told_outcome a.outcomes adds.outcomes
      ∙ (ap (λ (l : List Outcome). l ++ map told_outcome adds.outcomes) is.outcomes
      ∙ (ap (λ (l : List Outcome). filter_map outcome_at steps ++ l) (adds.told ∙ sym (as_list (outcome_at one)))
      ∙ sym (filter_map-append outcome_at steps (one ∷ [])))));
}

pub request_accounted : (setting : Setting) (client place : ℕ) (request : Request) (tellings : List Telling) (steps : List Step) → TellsRequest setting client place request tellings steps
    → IsAccounted (account_of setting.terms request.calls (dones_of steps)) (steps_in_tellings tellings)
request_accounted setting client place request _ _ NoneYet = record { shown = NoneShown; outcomes = refl }
request_accounted setting client place request _ _ (OneMore tellings steps one before tells) =
    subst (IsAccounted (account_of setting.terms request.calls (dones_of (steps ++ one.acts)))) (sym (map-append (λ (x : Telling). x.step) tellings (one ∷ [])))
    (accounted_more (account_of setting.terms request.calls (dones_of steps)) (account_of setting.terms request.calls (dones_of (steps ++ one.acts))) (steps_in_tellings tellings) one.step
    (request_accounted setting client place request tellings steps before) (step_adds setting client place request steps one tells))
