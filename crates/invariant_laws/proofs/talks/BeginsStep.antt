-- Where a client steps and sends Begin, that carries the request's settings changed by each `set`
-- before the call that follows it.
use Rattle.std.proofs.Common.{◌≡◌, refl, sym, ap, subst, ◌∙◌, Bool, true, false, ℕ, zero, suc, ◌+◌, ◌-◌, ◌≤◌, ◌&&◌, ◌||◌, length, List, [], ◌∷◌, ◌++◌, take, Option, Some, None, ◌⊎◌, inl, inr, if◌then◌else◌, arith}
use Rattle.std.specs.Prelude.{not, is_none, is_some, slice_get}
use Rattle.std.specs.List.{list_all, list_any}
use Rattle.std.proofs.lemmas.Bool.{and_parts, and_from, or_parts}
use Rattle.std.proofs.lemmas.List.{map-append}
use Rattle.svc_values.specs.declared.answer.Answer.{Answer}
use Rattle.svc_values.specs.declared.answer.Answer.TheVariants as answer
use Rattle.svc_values.specs.declared.call.Call.{Call}
use Rattle.svc_values.specs.declared.call.Call.TheVariants as call
use Rattle.svc_values.specs.declared.entry.Ltxid.{Ltxid}
use Rattle.svc_values.specs.declared.frame.Up.{Up}
use Rattle.svc_values.specs.declared.frame.Up.TheVariants as up
use Rattle.svc_values.specs.declared.value.Value.{Value}
use Rattle.svc_values.specs.meaning.SettingsList.{NamedValues, with_set, with_sets}
use Rattle.request_bounds.specs.declared.rule.After.{After}
use Rattle.request_bounds.specs.declared.rule.After.TheVariants as after
use Rattle.request_bounds.specs.declared.rule.Why.{Why}
use Rattle.request_bounds.specs.declared.rule.Why.TheVariants as why
use Rattle.request_bounds.specs.meaning.Limits.{has_waited}
use Rattle.request_bounds.specs.meaning.Replies.{ends_decided}
use Rattle.request_bounds.specs.meaning.Rules.{Rules}
use Rattle.outage_schedule.specs.declared.document.Consistency.{Consistency}
use Rattle.outage_schedule.specs.declared.document.Consistency.TheVariants as consistency
use Rattle.outage_schedule.specs.declared.document.Failover.{Failover}
use Rattle.outage_schedule.specs.declared.document.Failover.TheVariants as failover
use Rattle.outage_schedule.specs.declared.document.Request.{Request}
use Rattle.client_model.specs.meaning.Account.{Account, unheard, hears, shows, shows_found, purged_after, before_sends}
use Rattle.client_model.specs.meaning.Conversation.{Done}
use Rattle.client_model.specs.Conversation.{is_gone, is_wanted}
use Rattle.client_model.specs.declared.act.Shown.{Shown}
use Rattle.client_model.specs.declared.input.Input.{Input}
use Rattle.client_model.specs.declared.input.Input.TheVariants.{Lent}
use Rattle.client_model.specs.declared.input.Wants.TheVariants as wants
use Rattle.client_model.specs.Laws.{EachStep, BegunWith, settings_known}
use Rattle.client_model.specs.meaning.States.{Living, Asking}
use Rattle.client_model.specs.meaning.Talk.{is_set, talk_step, wants_in, wants_of}
use Rattle.client_model.specs.meaning.Terms.{Terms, Talk, Phase, Idle, Unbegun, Queued, Seeking, Greeting, Asked, Running, Replaying}
use Rattle.client_model.proofs.Offered.{Fits, begins_known}
use Rattle.world_model.specs.meaning.Acting.{call_in}
use Rattle.invariant_laws.specs.Begins.{settings_before, carries_settings}
use Rattle.world_model.specs.meaning.Clients.{Step, Doing}
use Rattle.world_model.specs.records.Conversing.{AllTalk, Talks, inputs_of}
use Rattle.world_model.specs.meaning.Machines.{Machine}
use Rattle.world_model.specs.Parts.{implies}
use Rattle.world_model.specs.meaning.Settings.{Setting, rules_of}
use Rattle.world_model.specs.Words.{dones_of}
use Rattle.world_model.proofs.Offered.{HasStepped, account_now, FitsNow, talks_fit, first_step, first_doing, before_talks, first_talks_on, first_fits}
use Rattle.invariant_laws.proofs.rows.PurgedCalls.{is_purge, hears_beside, all_purged, never_purged}
use Rattle.invariant_laws.proofs.history.RanSettings.{settings_decide}
use Rattle.invariant_laws.proofs.rows.RowSteps.{each_last}
use Rattle.invariant_laws.proofs.talks.TalkOpens.{Opening, NoBegin, First, Behind, Again, heard_in, no_begins, step_opens}
use Rattle.invariant_laws.proofs.talks.TalkSets.{is_plain, asks_plain}

-- RULES -------------------------------------------------------------------------------------------

-- A rule keeps settings, and a decided reply purges; or nothing is purged; or each `set` that is
-- submitted is a reason against a replay.
pub data IsRule (rules : Rules) : Type 0 where
  Keeps : rules.keeps ≡ true → rules.reply (answer.Committed ∷ []) ≡ after.Purge → IsRule rules
  Never : rules.keeps ≡ false → ((answers : List Answer) → is_purge (rules.reply answers) ≡ false) → IsRule rules
  Refuses : rules.keeps ≡ false → ((name : List ℕ) (x : Value) (index : ℕ) → is_some (rules.submit (call.Set name x) index) ≡ true) → IsRule rules

pub rule_of : (mode : Failover) (consistent : Consistency) → IsRule (rules_of mode consistent)
rule_of failover.Off consistent = Never refl (λ answers. refl)
rule_of failover.Auto consistent = Keeps refl refl
rule_of failover.Transaction consistency.Static = Refuses refl (λ name x index. refl)
rule_of failover.Transaction consistency.Dynamic = Never refl (λ answers. by (ends_decided answers))
  where
    by : (decided : Bool) → is_purge (if decided then after.Stop why.AfterCommit else after.Record) ≡ false
    by true = refl
    by false = refl

-- LISTS -------------------------------------------------------------------------------------------

-- calls without a `set` change nothing
plain_call : (settings : NamedValues) (one : Call) → is_set one ≡ false → with_set settings one ≡ settings
plain_call settings (call.Set name x) is = absurd (let none : ⊥ = cc in none)
plain_call settings one is = refl

no_sets : (settings : NamedValues) (calls : List Call) → list_any is_set calls ≡ false → with_sets settings calls ≡ settings
no_sets settings [] none = refl
no_sets settings (one ∷ calls) none =
    let parts = or_parts (is_set one) (list_any is_set calls) none in
    ap (λ (now : NamedValues). with_sets now calls) (plain_call settings one parts.0) ∙ no_sets settings calls parts.1

fewer : {A : Type 0} (test : A → Bool) (xs : List A) (few many : ℕ) → few ≤ many → list_any test (take many xs) ≡ false → list_any test (take few xs) ≡ false
fewer test xs zero many less none = refl
fewer test [] (suc few) many less none = refl
fewer test (x ∷ xs) (suc few) zero less none = absurd (omega (arith, less))
fewer test (x ∷ xs) (suc few) (suc many) less none =
    let parts = or_parts (test x) (list_any test (take many xs)) none in
    ap (λ (one : Bool). one || list_any test (take few xs)) parts.0 ∙ fewer test xs few many (omega (arith, less)) parts.1

-- what each Begin of these carries
begun_all : (request : Request) (known : NamedValues) (index : ℕ) (frames : List Up) → BegunWith known frames → (no_begins frames ≡ true) ⊎ (known ≡ settings_before request index) → list_all (carries_settings request index) frames ≡ true
begun_all request known index [] begun so = refl
begun_all request known index (up.Begin settings ∷ frames) begun (inl none) = absurd (let never : ⊥ = cc in never)
begun_all request known index (up.Begin settings ∷ frames) begun (inr same) =
    and_from (carries_settings request index (up.Begin settings)) (list_all (carries_settings request index) frames) ((settings_decide settings (settings_before request index)).1 (begun.0 ∙ same)) (begun_all request known index frames begun.1 (inr same))
begun_all request known index (up.Connect ∷ frames) begun so = begun_all request known index frames begun so
begun_all request known index (up.Call replay kept one ∷ frames) begun so = begun_all request known index frames begun so
begun_all request known index (up.Outcome x ∷ frames) begun so = begun_all request known index frames begun so
begun_all request known index (up.End ∷ frames) begun so = begun_all request known index frames begun so
begun_all request known index (up.Close ∷ frames) begun so = begun_all request known index frames begun so

-- WHO IS LENT A CONNECTION ------------------------------------------------------------------------

lent_queued : (terms : Terms) (talk : Talk) (now connection : ℕ) (ltxid : Ltxid) (phase : Phase) → is_wanted (wants_in terms talk phase now) (Lent connection ltxid) ≡ true → (from : Option ℕ) × (phase ≡ Queued from)
lent_queued terms talk now connection ltxid (Queued from) wanted = (from, refl)
lent_queued terms talk now connection ltxid (Seeking lost) wanted = absurd (by (has_waited talk.last_try now terms.limits.delay) wanted)
  where
    by : (waited : Bool) → is_wanted (if waited then wants.Try else wants.Early) (Lent connection ltxid) ≡ true → ⊥
    by true is = let none : ⊥ = cc in none
    by false is = let none : ⊥ = cc in none
lent_queued terms talk now connection ltxid Idle wanted = absurd (let none : ⊥ = cc in none)
lent_queued terms talk now connection ltxid Unbegun wanted = absurd (let none : ⊥ = cc in none)
lent_queued terms talk now connection ltxid (Greeting lost) wanted = absurd (let none : ⊥ = cc in none)
lent_queued terms talk now connection ltxid (Asked asking) wanted = absurd (let none : ⊥ = cc in none)
lent_queued terms talk now connection ltxid (Running state) wanted = absurd (let none : ⊥ = cc in none)
lent_queued terms talk now connection ltxid (Replaying state) wanted = absurd (let none : ⊥ = cc in none)

-- no reason stands, and no `set` was shown
abbrev implies_none : {A : Type 0} → Option A → Bool → Bool
implies_none reason shown = implies (is_none reason) (not shown)

-- A STEP ------------------------------------------------------------------------------------------

module _ (setting : Setting) (m : Machine) (talks : AllTalk setting.terms m.clients) (number : ℕ) (n : Machine) (step : HasStepped setting m number n) (rule : IsRule setting.terms.rules) where
  abbrev terms : Terms
  terms = setting.terms

  abbrev request : Request
  request = step.before.request

  abbrev one : Step
  one = first_step setting m talks number n step

  abbrev first : Doing
  first = first_doing setting m talks number n step

  abbrev before : Account
  before = account_now terms step.before

  abbrev heard : Account
  heard = before_sends terms request.calls before one.done

  abbrev known : NamedValues
  known = settings_known terms request.settings request.calls heard

  abbrev index : ℕ
  index = call_in first.talk.phase

  begun : BegunWith known one.done.act.send
  begun =
      let so = first_talks_on setting m talks number n step in
      let dones : dones_of first.steps ≡ dones_of step.before.steps ++ one.done ∷ [] = map-append (λ (s : Step). s.done) step.before.steps (one ∷ []) in
      let each : EachStep (λ a done. BegunWith (settings_known terms request.settings request.calls a) done.act.send) terms request.calls unheard (dones_of step.before.steps ++ one.done ∷ []) =
      subst (λ (d : List Done). EachStep (λ a done. BegunWith (settings_known terms request.settings request.calls a) done.act.send) terms request.calls unheard d) (sym so.converses.acts ∙ dones)
      (begins_known terms request.settings request.calls (inputs_of first.steps) so.converses.may) in
      each_last (λ a done. BegunWith (settings_known terms request.settings request.calls a) done.act.send) terms request.calls unheard (dones_of step.before.steps) one.done each

  before_fits : FitsNow terms step.before
  before_fits = talks_fit terms false step.before (before_talks setting m talks number n step)

  fits_before : (phase : Phase) → step.before.talk.phase ≡ phase → Fits terms request.calls before before_fits.gone phase
  fits_before phase is = subst (λ (p : Phase). Fits terms request.calls before before_fits.gone p) is before_fits.fits

  fits_first : (phase : Phase) → first.talk.phase ≡ phase → Fits terms request.calls (account_now terms first) (first_fits setting m talks number n step).gone phase
  fits_first phase is = subst (λ (p : Phase). Fits terms request.calls (account_now terms first) (first_fits setting m talks number n step).gone p) is (first_fits setting m talks number n step).fits

  -- what is known, where so many calls were purged
  kept_known : terms.rules.keeps ≡ true → heard.purged ≡ index → known ≡ settings_before request index
  kept_known keeps many = ap (λ (test : Bool). if test then with_sets request.settings (take heard.purged request.calls) else request.settings) keeps ∙ ap (λ (k : ℕ). with_sets request.settings (take k request.calls)) many

  plain_known : terms.rules.keeps ≡ false → list_any is_set (take index request.calls) ≡ false → known ≡ settings_before request index
  plain_known unkept none =
      ap (λ (test : Bool). if test then with_sets request.settings (take heard.purged request.calls) else request.settings) unkept ∙ sym (no_sets request.settings (take index request.calls) none)

  -- where nothing is shown, nothing is purged
  heard_none : one.done.act.shown ≡ None → heard.purged ≡ before.purged
  heard_none is =
      ap (λ (shown : Option Shown). (shows terms request.calls (hears terms before one.done.input one.done.now one.done.act.shown) shown).purged) is ∙ (hears_beside terms before one.done.input one.done.now one.done.act.shown).purged

  by_rule : {A : Type 0} → (terms.rules.keeps ≡ true → terms.rules.reply (answer.Committed ∷ []) ≡ after.Purge → A) → (terms.rules.keeps ≡ false → A) → A
  by_rule {A} kept unkept = by rule
    where
      by : IsRule terms.rules → A
      by (Keeps keeps purges) = kept keeps purges
      by (Never keeps never) = unkept keeps
      by (Refuses keeps refuses) = unkept keeps

  -- THE FIRST ONE ---------------------------------------------------------------------------------

  fresh_by : (input : Input) → step.input ≡ input → heard_in step.before.talk.phase input ≡ Greeting None → before.purged ≡ 0
  fresh_by (Lent connection ltxid) is same =
      let wanted = (and_parts (is_wanted (wants_of terms step.before.talk m.tick) (Lent connection ltxid)) (is_gone (Lent connection ltxid) || not false)
      (subst (λ (input : Input). (is_wanted (wants_of terms step.before.talk m.tick) input && (is_gone input || not false)) ≡ true) is step.may)).0 in
      let queued = lent_queued terms step.before.talk m.tick connection ltxid step.before.talk.phase wanted in
      (fits_before (Queued queued.0) queued.1).0.purged
  fresh_by input is same = (fits_before (Greeting None) same).0.purged

  first_known : heard_in step.before.talk.phase step.input ≡ Greeting None → index ≡ 0 → one.done.act.shown ≡ None → known ≡ settings_before request index
  first_known greets is none =
      by_rule (λ keeps purges. kept_known keeps (heard_none none ∙ fresh_by step.input refl greets ∙ sym is)) (λ unkept. plain_known unkept (ap (λ (k : ℕ). list_any is_set (take k request.calls)) is))

  -- BEHIND AN OUTCOME -----------------------------------------------------------------------------

  pub asked_by : (asking : Asking) (input : Input) → heard_in step.before.talk.phase input ≡ Asked asking → step.before.talk.phase ≡ Asked asking
  asked_by asking (Lent connection ltxid) same = absurd (let none : ⊥ = cc in none)
  asked_by asking input same = same

  module _ (asking : Asking) (asked : step.before.talk.phase ≡ Asked asking) where
    pub call_is : asking.track.call ≡ length before.shown
    call_is = (fits_before (Asked asking) asked).0.tracked.call

    pub lost_call : (call : Call) × (slice_get request.calls (length before.shown) ≡ Some call)
    lost_call = let left = (fits_before (Asked asking) asked).0.left in (left.one, ap (slice_get request.calls) (sym call_is) ∙ left.is)

    -- a call that it showed
    purged_now : (shown : Shown) → one.done.act.shown ≡ Some shown → shown.answers ≡ answer.Committed ∷ [] → terms.rules.reply (answer.Committed ∷ []) ≡ after.Purge → heard.purged ≡ length before.shown + 1
    purged_now shown is committed purges =
        let a : Account = hears terms before one.done.input one.done.now one.done.act.shown in
        let same : a.shown ≡ before.shown = (hears_beside terms before one.done.input one.done.now one.done.act.shown).shown in
        ap (λ (some : Option Shown). (shows terms request.calls a some).purged) is
        ∙ ap (λ (found : Option Call). (shows_found terms a shown found).purged) (ap (λ (all : List Shown). slice_get request.calls (length all)) same ∙ lost_call.1)
        ∙ ap (λ (reply : After). purged_after a.purged (length a.shown) reply) (ap terms.rules.reply committed ∙ purges)
        ∙ ap (λ (all : List Shown). length all + 1) same

    behind_known : (next : Living) (shown : Shown) → first.talk.phase ≡ Running next → next.track.call ≡ asking.track.call + 1 → (next.track.set_shown && not terms.rules.keeps) ≡ false → one.done.act.shown ≡ Some shown
        → shown.answers ≡ answer.Committed ∷ [] → known ≡ settings_before request index
    behind_known next shown runs more lost shows committed =
        by_rule (λ keeps purges. kept_known keeps (purged_now shown shows committed purges ∙ (let same : length before.shown + 1 ≡ next.track.call = omega (arith, more, call_is) in same) ∙ sym at))
        (λ unkept. plain_known unkept (none unkept))
      where
        at : index ≡ next.track.call
        at = ap call_in runs

        kept_false : (set keeps : Bool) → keeps ≡ false → (set && not keeps) ≡ false → set ≡ false
        kept_false true false unkept is = absurd (let never : ⊥ = cc in never)
        kept_false true true unkept is = absurd (let never : ⊥ = cc in never)
        kept_false false keeps unkept is = refl

        none : terms.rules.keeps ≡ false → list_any is_set (take index request.calls) ≡ false
        none unkept =
            let tracked = (fits_first (Running next) runs).0.tracked in
            ap (λ (k : ℕ). list_any is_set (take k request.calls)) (at ∙ tracked.call) ∙ sym tracked.set_shown ∙ kept_false next.track.set_shown terms.rules.keeps unkept lost

    -- WHERE CALLS ARE REPEATED --------------------------------------------------------------------

    module _ (free : asking.track.why ≡ None) (at : index ≡ asking.track.call - length asking.track.recorder.calls) where
      purged_before : before.purged ≡ index
      purged_before =
          let count : length before.since_purge + before.purged ≡ length before.shown = all_purged terms request.calls (dones_of step.before.steps) in
          let long : length asking.track.recorder.calls ≡ length before.since_purge = ap length ((fits_before (Asked asking) asked).0.tracked.recorded free) in
          omega (arith, count, long, call_is, at)

      set_false : (track_set : Bool) → implies_none asking.track.why track_set ≡ true → track_set ≡ false
      set_false set plain = by asking.track.why free set plain
        where
          by : (reason : Option Why) → reason ≡ None → (shown : Bool) → implies_none reason shown ≡ true → shown ≡ false
          by None is true plain = absurd (let none : ⊥ = cc in none)
          by None is false plain = refl
          by (Some reason) is shown plain = absurd (let none : ⊥ = cc in none)

      again_known : one.done.act.shown ≡ None → known ≡ settings_before request index
      again_known none = by rule
        where
          by : IsRule terms.rules → known ≡ settings_before request index
          by (Keeps keeps purges) = kept_known keeps (heard_none none ∙ purged_before)
          by (Never unkept never) =
              plain_known unkept (ap (λ (k : ℕ). list_any is_set (take k request.calls)) (sym purged_before ∙ never_purged terms never request.calls (dones_of step.before.steps)))
          by (Refuses unkept refuses) =
              let so : Talks terms false step.before = before_talks setting m talks number n step in
              let plain : is_plain asking.track ≡ true = asks_plain terms refuses unkept request.settings request.calls (inputs_of step.before.steps) asking so.converses.may (ap (λ (talk : Talk). talk.phase) so.stands ∙ asked) in
              let shown : list_any is_set (take (length before.shown) request.calls) ≡ false = sym (fits_before (Asked asking) asked).0.tracked.set_shown ∙ set_false asking.track.set_shown plain in
              plain_known unkept (fewer is_set request.calls index (length before.shown) (omega (arith, at, call_is)) shown)

  -- ITS FRAMES ------------------------------------------------------------------------------------

  pub begins_rightly : list_all (carries_settings request index) one.done.act.send ≡ true
  begins_rightly = begun_all request known index one.done.act.send begun (by (step_opens terms step.before.talk step.input m.tick))
    where
      by : Opening terms.rules.keeps (heard_in step.before.talk.phase step.input) (talk_step terms step.before.talk step.input m.tick) → (no_begins one.done.act.send ≡ true) ⊎ (known ≡ settings_before request index)
      by (NoBegin none) = inl none
      by (First greets at none) = inr (first_known greets at none)
      by (Behind asking next shown asks runs more lost shows committed) = inr (behind_known asking (asked_by asking step.input asks) next shown runs more lost shows committed)
      by (Again asking asks free at none) = inr (again_known asking (asked_by asking step.input asks) free at none)
