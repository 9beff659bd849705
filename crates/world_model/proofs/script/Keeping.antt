-- What a request keeps is what its steps told, in runs of documents.
use Rattle.std.proofs.Common.{◌≡◌, refl, sym, ap, subst, ◌∙◌, Bool, true, false, ℕ, suc, ◌+◌, ◌≤◌, cond, fold, length, length-append, List, [], ◌∷◌, ◌++◌, map, Option, Some, None, if◌then◌else◌, arith}
use Rattle.std.specs.Prelude.{nat_le, slice_get, is_some}
use Rattle.std.specs.Option.{option_or}
use Rattle.std.proofs.lemmas.Bool.Decides.{nat_tests}
use Rattle.std.proofs.lemmas.List.{map-append, length-map}
use Rattle.svc_values.specs.declared.answer.Answer.{Answer}
use Rattle.svc_values.specs.declared.call.Call.{Call}
use Rattle.svc_values.specs.declared.frame.Up.{Up}
use Rattle.svc_values.specs.declared.frame.Up.TheVariants as up
use Rattle.svc_values.specs.declared.frame.Down.TheVariants as down
use Rattle.call_recorder.specs.declared.recorded.Recorded.{Recorded}
use Rattle.outage_schedule.specs.declared.document.Failover.{Failover}
use Rattle.outage_schedule.specs.declared.document.Failover.TheVariants as failover
use Rattle.outage_schedule.specs.declared.document.Consistency.{Consistency}
use Rattle.outage_schedule.specs.declared.document.Consistency.TheVariants as consistency
use Rattle.outage_schedule.specs.declared.request.ShownCall.{ShownCall}
use Rattle.request_bounds.specs.meaning.Replies.{ends_decided}
use Rattle.request_bounds.specs.meaning.Rules.{Rules}
use Rattle.request_bounds.specs.declared.rule.After.{After}
use Rattle.request_bounds.specs.declared.rule.After.TheVariants as after
use Rattle.request_bounds.specs.declared.rule.Why.{Why}
use Rattle.request_bounds.specs.declared.rule.Why.TheVariants as why
use Rattle.client_model.specs.declared.act.Shown.{Shown}
use Rattle.client_model.specs.declared.input.Input.{Input}
use Rattle.client_model.specs.declared.input.Input.TheVariants.{Start, Waiting, Lent, Opened, TryFailed, Took, Gone}
use Rattle.client_model.specs.declared.track.Track.{Track}
use Rattle.client_model.specs.meaning.Account.{Account, unheard, hears, hears_outcome, hears_reply, shows, shows_found, since_after, purged_after, reply_reason, begins, sends, before_sends, after_step, account_of}
use Rattle.client_model.specs.meaning.Conversation.{Done}
use Rattle.client_model.specs.meaning.Talk.{with_reply, with_recorded, recorded_as}
use Rattle.client_model.specs.meaning.Terms.{Terms}
use Rattle.run_clauses.specs.meaning.Reports.{shown_call}
use Rattle.world_model.specs.records.Script.{behind_decided, recorded_from}
use Rattle.world_model.specs.meaning.Settings.{rules_of}
use Rattle.world_model.proofs.events.Tests.{le_to}
use Rattle.world_model.proofs.script.TalkTracks.{IsOfTracks}

-- RULES -------------------------------------------------------------------------------------------

-- Each call is a reason against a replay; or where a transaction was decided recording begins anew,
-- or no replay comes behind it.
pub data IsRuled (rules : Rules) : Type 0 where
  Never : ((call : Call) (index : ℕ) → is_some (rules.submit call index) ≡ true) → IsRuled rules
  Purges : ((answers : List Answer) → rules.reply answers ≡ (if ends_decided answers then after.Purge else after.Record)) → IsRuled rules
  Stops : (reason : Why) → ((answers : List Answer) → rules.reply answers ≡ (if ends_decided answers then after.Stop reason else after.Record)) → IsRuled rules

pub ruled : (mode : Failover) (settings : Consistency) → IsRuled (rules_of mode settings)
ruled failover.Transaction consistency.Dynamic = Stops why.AfterCommit (λ answers. refl)
ruled failover.Transaction consistency.Static = Purges (λ answers. refl)
ruled failover.Off settings = Never (λ call index. refl)
ruled failover.Auto settings = Purges (λ answers. refl)

-- TRACKS ------------------------------------------------------------------------------------------

more_below : (a b : ℕ) → nat_le a b ≡ false → nat_le (b + 1) a ≡ true
more_below a b is = grind (arith, nat_tests)

recorded_replays : (terms : Terms) (track : Track) (one : Recorded) (reason : Option Why) → (with_recorded terms track one reason).replays ≡ track.replays
recorded_replays terms track one (Some reason) = refl
recorded_replays terms track one None = by (nat_le terms.recorded (length track.recorder.calls))
  where
    by : (full : Bool) → (if full then record track { why = Some (why.Full terms.recorded) } else record track { recorder = record track.recorder { calls = track.recorder.calls ++ one ∷ [] } }).replays ≡ track.replays
    by true = refl
    by false = refl

replied_replays : (terms : Terms) (track : Track) (one : Recorded) (reply : After) → (with_reply terms track one reply).replays ≡ track.replays
replied_replays terms track one after.Record = recorded_replays terms track one track.why
replied_replays terms track one after.Purge = refl
replied_replays terms track one (after.Stop reason) = refl

-- no more replays were started than may be
pub few_so : (terms : Terms) → IsOfTracks terms (λ (track : Track). nat_le track.replays terms.limits.replays)
few_so terms = record {
  first = λ call now. le_to 0 terms.limits.replays (let least : 0 ≤ terms.limits.replays = omega arith in least);
  submits = λ track call now here. here;
  shows = λ track call answers draws here.
      subst (λ (n : ℕ). nat_le n terms.limits.replays ≡ true) (sym (replied_replays terms track (recorded_as terms call answers draws) (terms.rules.reply answers))) here;
  again = λ track here few. more_below terms.limits.replays track.replays few;
}

first_some : {A : Type 0} (one other : Option A) → is_some one ≡ true → is_some (option_or one other) ≡ true
first_some (Some x) other is = refl
first_some None other is = absurd (let none : ⊥ = cc in none)

pub second_some : {A : Type 0} (one other : Option A) → is_some other ≡ true → is_some (option_or one other) ≡ true
second_some (Some x) other is = refl
second_some None other is = is

recorded_some : (terms : Terms) (track : Track) (one : Recorded) (reason : Option Why) → track.why ≡ reason → is_some reason ≡ true → is_some (with_recorded terms track one reason).why ≡ true
recorded_some terms track one (Some reason) is some = ap is_some is
recorded_some terms track one None is some = absurd (let none : ⊥ = cc in none)

replied_some : (terms : Terms) (track : Track) (one : Recorded) (reply : After) → is_some track.why ≡ true → is_some (with_reply terms track one reply).why ≡ true
replied_some terms track one after.Record here = recorded_some terms track one track.why refl here
replied_some terms track one after.Purge here = here
replied_some terms track one (after.Stop reason) here = first_some track.why (Some reason) here

-- where each call is a reason, one stands
pub stands_so : (terms : Terms) → ((call : Call) (index : ℕ) → is_some (terms.rules.submit call index) ≡ true) → IsOfTracks terms (λ (track : Track). is_some track.why)
stands_so terms never = record {
  first = λ call now. never call 0;
  submits = λ track call now here. first_some track.why (terms.rules.submit call track.call) here;
  shows = λ track call answers draws here. replied_some terms track (recorded_as terms call answers draws) (terms.rules.reply answers) here;
  again = λ track here few. here;
}

-- ACCOUNTS ----------------------------------------------------------------------------------------

-- where no reason stands, the calls since the last purge are those behind the last decided one
abbrev pub Counts : Account → Type 0
Counts account = account.reason ≡ None → length account.since_purge + recorded_from (map shown_call account.shown) ≡ length account.shown

-- of what is shown, recorded and told against a replay
pub record IsSame (a b : Account) : Type 0 where
  pub shown : b.shown ≡ a.shown
  pub since : b.since_purge ≡ a.since_purge
  pub reason : b.reason ≡ a.reason

same_counts : (a b : Account) → IsSame a b → Counts a → Counts b
same_counts a b same counts none =
    ap (λ (since : List Recorded). length since + recorded_from (map shown_call b.shown)) same.since
    ∙ (ap (λ (shown : List Shown). length a.since_purge + recorded_from (map shown_call shown)) same.shown
    ∙ (counts (sym same.reason ∙ none) ∙ ap (λ (shown : List Shown). length shown) (sym same.shown)))

outcome_same : (a : Account) (committed completed : Bool) (last : Option Up) → IsSame a (hears_outcome a committed completed last)
outcome_same a committed completed (Some (up.Outcome asked)) = record { shown = refl; since = refl; reason = refl }
outcome_same a committed completed other = record { shown = refl; since = refl; reason = refl }

reply_same : (terms : Terms) (a : Account) (answers : List Answer) (ltxid : _) (shown : Option Shown) → IsSame a (hears_reply terms a answers ltxid shown)
reply_same terms a answers ltxid None = record { shown = refl; since = refl; reason = refl }
reply_same terms a answers ltxid (Some shown) = record { shown = refl; since = refl; reason = refl }

pub hears_same : (terms : Terms) (a : Account) (input : Input) (now : ℕ) (shown : Option Shown) → IsSame a (hears terms a input now shown)
hears_same terms a Start now shown = record { shown = refl; since = refl; reason = refl }
hears_same terms a Waiting now shown = record { shown = refl; since = refl; reason = refl }
hears_same terms a (Lent connection ltxid) now shown = record { shown = refl; since = refl; reason = refl }
hears_same terms a (Opened connection) now shown = record { shown = refl; since = refl; reason = refl }
hears_same terms a TryFailed now shown = record { shown = refl; since = refl; reason = refl }
hears_same terms a (Took (down.Hello ltxid) alive) now shown = record { shown = refl; since = refl; reason = refl }
hears_same terms a (Took (down.Reply answers draws ltxid) alive) now shown = reply_same terms a answers ltxid shown
hears_same terms a (Took (down.OutcomeIs committed completed) alive) now shown = outcome_same a committed completed a.last
hears_same terms a (Took frame alive) now shown = record { shown = refl; since = refl; reason = refl }
hears_same terms a (Gone event) now shown = record { shown = refl; since = refl; reason = refl }

first_none : {A : Type 0} (one other : Option A) → option_or one other ≡ None → one ≡ None
first_none None other is = refl
first_none (Some x) other is = absurd (let none : ⊥ = cc in none)

second_none : {A : Type 0} (one other : Option A) → option_or one other ≡ None → other ≡ None
second_none None other is = is
second_none (Some x) other is = absurd (let none : ⊥ = cc in none)

pub begins_same : (a : Account) (begun : Bool) → IsSame a (begins a begun)
begins_same a true = record { shown = refl; since = refl; reason = refl }
begins_same a false = record { shown = refl; since = refl; reason = refl }

sends_counts : (terms : Terms) (now : ℕ) (a : Account) (frame : Up) → Counts a → Counts (sends terms now a frame)
sends_counts terms now a (up.Begin settings) counts = same_counts a (begins a a.begun) (begins_same a a.begun) counts
sends_counts terms now a (up.Call false kept call) counts = λ none. counts (first_none a.reason (terms.rules.submit call (length a.shown)) none)
sends_counts terms now a frame counts = counts

all_sent : (terms : Terms) (now : ℕ) (frames : List Up) (a : Account) → Counts a → Counts (fold (sends terms now) a frames)
all_sent terms now [] a counts = counts
all_sent terms now (frame ∷ frames) a counts = all_sent terms now frames (sends terms now a frame) (sends_counts terms now a frame counts)

-- the index behind the last decided call, with one call more
pub behind_more : (found index : ℕ) (shown : List ShownCall) (one : ShownCall) → behind_decided found index (shown ++ one ∷ []) ≡ cond (ends_decided one.answers) (index + length shown + 1) (behind_decided found index shown)
behind_more found index [] one = let plain : index + 1 ≡ index + 0 + 1 = omega arith in ap (λ (n : ℕ). cond (ends_decided one.answers) n found) plain
behind_more found index (first ∷ shown) one =
    let next : ℕ = cond (ends_decided first.answers) (index + 1) found in
    let plain : (index + 1) + length shown + 1 ≡ index + suc (length shown) + 1 = omega arith in
    behind_more next (index + 1) shown one ∙ ap (λ (n : ℕ). cond (ends_decided one.answers) n (behind_decided next (index + 1) shown)) plain

module _ (terms : Terms) (a : Account) (shown : Shown) (call : Call) where
  -- the call is shown, and the rule makes this of its reply
  abbrev shown_by : After → Account
  shown_by reply = record a {
    shown = a.shown ++ shown ∷ [];
    since_purge = since_after a.since_purge (recorded_as terms call shown.answers shown.draws) reply;
    purged = purged_after a.purged (length a.shown) reply;
    reason = option_or a.reason (reply_reason terms (length a.since_purge) reply);
  }

  behind_shown : recorded_from (map shown_call (a.shown ++ shown ∷ [])) ≡ cond (ends_decided shown.answers) (length a.shown + 1) (recorded_from (map shown_call a.shown))
  behind_shown =
      let plain : 0 + length (map shown_call a.shown) + 1 ≡ length a.shown + 1 = let long : length (map shown_call a.shown) ≡ length a.shown = length-map a.shown shown_call in omega arith in
      ap recorded_from (map-append shown_call a.shown (shown ∷ []))
      ∙ (behind_more 0 0 (map shown_call a.shown) (shown_call shown) ∙ ap (λ (n : ℕ). cond (ends_decided shown.answers) n (recorded_from (map shown_call a.shown))) plain)

  recorded_counts : ends_decided shown.answers ≡ false → Counts a → Counts (shown_by after.Record)
  recorded_counts goes counts none =
      let before : length a.since_purge + recorded_from (map shown_call a.shown) ≡ length a.shown = counts (first_none a.reason (reply_reason terms (length a.since_purge) after.Record) none) in
      let behind : recorded_from (map shown_call (a.shown ++ shown ∷ [])) ≡ recorded_from (map shown_call a.shown) =
      behind_shown ∙ ap (λ (test : Bool). cond test (length a.shown + 1) (recorded_from (map shown_call a.shown))) goes in
      let long : length (a.shown ++ shown ∷ []) ≡ length a.shown + 1 = length-append a.shown (shown ∷ []) in
      let more : length (a.since_purge ++ recorded_as terms call shown.answers shown.draws ∷ []) ≡ length a.since_purge + 1 = length-append a.since_purge (recorded_as terms call shown.answers shown.draws ∷ []) in
      omega arith

  purged_counts : ends_decided shown.answers ≡ true → Counts (shown_by after.Purge)
  purged_counts over none =
      let behind : recorded_from (map shown_call (a.shown ++ shown ∷ [])) ≡ length a.shown + 1 =
      behind_shown ∙ ap (λ (test : Bool). cond test (length a.shown + 1) (recorded_from (map shown_call a.shown))) over in
      let long : length (a.shown ++ shown ∷ []) ≡ length a.shown + 1 = length-append a.shown (shown ∷ []) in
      omega arith

  stopped_counts : (reason : Why) → Counts (shown_by (after.Stop reason))
  stopped_counts reason none = absurd (let never : Some reason ≡ None = second_none a.reason (Some reason) none in let no_reason : ⊥ = cc in no_reason)

  purges_by : (over : Bool) → ends_decided shown.answers ≡ over → Counts a → Counts (shown_by (if over then after.Purge else after.Record))
  purges_by true is counts = purged_counts is
  purges_by false is counts = recorded_counts is counts

  stops_by : (reason : Why) (over : Bool) → ends_decided shown.answers ≡ over → Counts a → Counts (shown_by (if over then after.Stop reason else after.Record))
  stops_by reason true is counts = stopped_counts reason
  stops_by reason false is counts = recorded_counts is counts

module _ (terms : Terms) (calls : List Call) (shown_counts : (a : Account) (shown : Shown) (call : Call) → Counts a → Counts (shown_by terms a shown call (terms.rules.reply shown.answers))) where
  found_counts : (a : Account) (shown : Shown) (call : Option Call) → Counts a → Counts (shows_found terms a shown call)
  found_counts a shown None counts = counts
  found_counts a shown (Some call) counts = shown_counts a shown call counts

  shows_counts : (a : Account) (shown : Option Shown) → Counts a → Counts (shows terms calls a shown)
  shows_counts a None counts = counts
  shows_counts a (Some shown) counts = found_counts a shown (slice_get calls (length a.shown)) counts

  step_counts : (a : Account) (done : Done) → Counts a → Counts (after_step terms calls a done)
  step_counts a done counts =
      all_sent terms done.now done.act.send (before_sends terms calls a done)
      (shows_counts (hears terms a done.input done.now done.act.shown) done.act.shown (same_counts a (hears terms a done.input done.now done.act.shown) (hears_same terms a done.input done.now done.act.shown) counts))

  all_count : (steps : List Done) (a : Account) → Counts a → Counts (fold (after_step terms calls) a steps)
  all_count [] a counts = counts
  all_count (done ∷ steps) a counts = all_count steps (after_step terms calls a done) (step_counts a done counts)

-- where recording begins anew, or ends, at each decided call
pub counts_purging : (terms : Terms) (calls : List Call) (steps : List Done) → ((answers : List Answer) → terms.rules.reply answers ≡ (if ends_decided answers then after.Purge else after.Record)) → Counts (account_of terms calls steps)
counts_purging terms calls steps rule =
    all_count terms calls (λ a shown call counts. subst (λ (reply : After). Counts (shown_by terms a shown call reply)) (sym (rule shown.answers)) (purges_by terms a shown call (ends_decided shown.answers) refl counts))
    steps unheard (λ none. refl)

pub counts_stopping : (terms : Terms) (calls : List Call) (steps : List Done) (reason : Why) → ((answers : List Answer) → terms.rules.reply answers ≡ (if ends_decided answers then after.Stop reason else after.Record))
    → Counts (account_of terms calls steps)
counts_stopping terms calls steps reason rule =
    all_count terms calls (λ a shown call counts. subst (λ (reply : After). Counts (shown_by terms a shown call reply)) (sym (rule shown.answers)) (stops_by terms a shown call reason (ends_decided shown.answers) refl counts))
    steps unheard (λ none. refl)
