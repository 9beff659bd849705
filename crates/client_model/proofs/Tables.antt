-- The reason that the steps tell is the earliest of the table.
use Rattle.std.proofs.Common.{◌≡◌, inl, inr, ℕ, ◌+◌, Bool, true, false, List, [], ◌∷◌, ◌++◌, length, Option, Some, None, if◌then◌else◌, refl, sym, ap, subst, ◌∙◌, arith, nat_le}
use Rattle.std.specs.Prelude.{fold, IsSome}
use Rattle.std.specs.Option.{option_or}
use Rattle.svc_values.specs.declared.value.Value.{Value}
use Rattle.svc_values.specs.declared.answer.Answer.{Answer}
use Rattle.svc_values.specs.declared.call.Call.{Call}
use Rattle.svc_values.specs.declared.call.Call.TheVariants as call
use Rattle.svc_values.specs.declared.entry.Ltxid.{Ltxid}
use Rattle.svc_values.specs.declared.frame.Up.{Up}
use Rattle.svc_values.specs.declared.frame.Up.TheVariants as up
use Rattle.svc_values.specs.declared.frame.Down.TheVariants as down
use Rattle.request_bounds.specs.declared.rule.Why.{Why}
use Rattle.request_bounds.specs.declared.rule.Why.TheVariants as why
use Rattle.request_bounds.specs.declared.rule.After.{After}
use Rattle.request_bounds.specs.declared.rule.After.TheVariants as after
use Rattle.request_bounds.specs.meaning.Replies.{ends_decided}
use Rattle.request_bounds.specs.meaning.Rules.{Rules}
use Rattle.call_recorder.specs.declared.recorded.Recorded.{Recorded}
use Rattle.client_model.specs.declared.input.Input.{Input}
use Rattle.client_model.specs.declared.input.Input.TheVariants.{Start, Waiting, Lent, Opened, TryFailed, Took, Gone}
use Rattle.client_model.specs.declared.act.Shown.{Shown}
use Rattle.client_model.specs.meaning.Terms.{Terms, Talk, requested}
use Rattle.client_model.specs.meaning.Talk.{Step, recorded_as, talk_step}
use Rattle.client_model.specs.meaning.Conversation.{Timed, done_at}
use Rattle.client_model.specs.Conversation.{steps_of, is_gone_next, MayCome}
use Rattle.client_model.specs.meaning.Account.{Account, unheard, hears, hears_outcome, hears_reply, begins, sends, shows, shows_call, reply_reason, since_after, after_step}
use Rattle.client_model.specs.Reasons.{Kind, NoReplay, Dynamic, Static, Auto, rules_of, Event, submissions, showing, events_from, submit_reason, show_reason, reason_from}
use Rattle.client_model.specs.Laws.{HasTablesReason}
use Rattle.client_model.proofs.Fits.{Fits, IsTalk, is_idle}
use Rattle.client_model.proofs.Showing.{length-last}
use Rattle.client_model.proofs.Stepped.{Stepped}
use Rattle.client_model.proofs.Steps.{step_stepped, heard_is, next_fits, next_talks, first_talks}

or_assoc : {T : Type 0} (a b c : Option T) → option_or (option_or a b) c ≡ option_or a (option_or b c)
or_assoc None b c = refl
or_assoc (Some x) b c = refl

-- each rule gives the table's reason for a submission
submit_same : (kind : Kind) (one : Call) (index : ℕ) → (rules_of kind).submit one index ≡ submit_reason kind one index
submit_same NoReplay one index = refl
submit_same Dynamic (call.Work statements commit) index = refl
submit_same Dynamic (call.Set name value) index = refl
submit_same Dynamic (call.Alter line) index = refl
submit_same Dynamic call.Disable index = refl
submit_same Dynamic call.Rollback index = refl
submit_same Static (call.Work statements commit) index = refl
submit_same Static (call.Set name value) index = refl
submit_same Static (call.Alter line) index = refl
submit_same Static call.Disable index = refl
submit_same Static call.Rollback index = refl
submit_same Auto (call.Work statements commit) index = refl
submit_same Auto (call.Set name value) index = refl
submit_same Auto (call.Alter line) index = refl
submit_same Auto call.Disable index = refl
submit_same Auto call.Rollback index = refl

-- what an input leaves of the account
record Same (a b : Account) : Type 0 where
  shown : b.shown ≡ a.shown
  since : b.since_purge ≡ a.since_purge
  reason : b.reason ≡ a.reason
  begun : b.begun ≡ a.begun
  first : b.first ≡ a.first

hears_reply-same : (terms : Terms) (a : Account) (answers : List Answer) (ltxid : Ltxid) (shown : Option Shown) → Same a (hears_reply terms a answers ltxid shown)
hears_reply-same terms a answers ltxid None = record { shown = refl; since = refl; reason = refl; begun = refl; first = refl }
hears_reply-same terms a answers ltxid (Some one) = record { shown = refl; since = refl; reason = refl; begun = refl; first = refl }

hears_outcome-same : (a : Account) (committed completed : Bool) (last : Option Up) → Same a (hears_outcome a committed completed last)
hears_outcome-same a committed completed None = record { shown = refl; since = refl; reason = refl; begun = refl; first = refl }
hears_outcome-same a committed completed (Some up.Connect) = record { shown = refl; since = refl; reason = refl; begun = refl; first = refl }
hears_outcome-same a committed completed (Some (up.Begin settings)) = record { shown = refl; since = refl; reason = refl; begun = refl; first = refl }
hears_outcome-same a committed completed (Some (up.Call mark kept one)) = record { shown = refl; since = refl; reason = refl; begun = refl; first = refl }
hears_outcome-same a committed completed (Some (up.Outcome ltxid)) = record { shown = refl; since = refl; reason = refl; begun = refl; first = refl }
hears_outcome-same a committed completed (Some up.End) = record { shown = refl; since = refl; reason = refl; begun = refl; first = refl }
hears_outcome-same a committed completed (Some up.Close) = record { shown = refl; since = refl; reason = refl; begun = refl; first = refl }

hears-same : (terms : Terms) (a : Account) (input : Input) (now : ℕ) (shown : Option Shown) → Same a (hears terms a input now shown)
hears-same terms a Start now shown = record { shown = refl; since = refl; reason = refl; begun = refl; first = refl }
hears-same terms a Waiting now shown = record { shown = refl; since = refl; reason = refl; begun = refl; first = refl }
hears-same terms a (Lent connection ltxid) now shown = record { shown = refl; since = refl; reason = refl; begun = refl; first = refl }
hears-same terms a (Opened connection) now shown = record { shown = refl; since = refl; reason = refl; begun = refl; first = refl }
hears-same terms a TryFailed now shown = record { shown = refl; since = refl; reason = refl; begun = refl; first = refl }
hears-same terms a (Gone event) now shown = record { shown = refl; since = refl; reason = refl; begun = refl; first = refl }
hears-same terms a (Took (down.Hello ltxid) alive) now shown = record { shown = refl; since = refl; reason = refl; begun = refl; first = refl }
hears-same terms a (Took (down.Reply answers draws ltxid) alive) now shown = hears_reply-same terms a answers ltxid shown
hears-same terms a (Took (down.OutcomeIs committed completed) alive) now shown = hears_outcome-same a committed completed a.last
hears-same terms a (Took (down.OutcomeRefused ahead next) alive) now shown = record { shown = refl; since = refl; reason = refl; begun = refl; first = refl }
hears-same terms a (Took down.Blocked alive) now shown = record { shown = refl; since = refl; reason = refl; begun = refl; first = refl }
hears-same terms a (Took (down.Refused cause) alive) now shown = record { shown = refl; since = refl; reason = refl; begun = refl; first = refl }

module _ (kind : Kind) (terms : Terms) (ruled : terms.rules ≡ rules_of kind) where
  -- what frames leave of the account
  record Kept (a b : Account) : Type 0 where
    shown : b.shown ≡ a.shown
    since : b.since_purge ≡ a.since_purge

  sends-kept : (now : ℕ) (a : Account) (frame : Up) → Kept a (sends terms now a frame)
  sends-kept now a up.Connect = record { shown = refl; since = refl }
  sends-kept now a (up.Begin settings) = by a.begun
    where
      by : (b : Bool) → Kept a (record (begins a b) { last = Some (up.Begin settings) })
      by true = record { shown = refl; since = refl }
      by false = record { shown = refl; since = refl }
  sends-kept now a (up.Call true kept one) = record { shown = refl; since = refl }
  sends-kept now a (up.Call false kept one) = record { shown = refl; since = refl }
  sends-kept now a (up.Outcome ltxid) = record { shown = refl; since = refl }
  sends-kept now a up.End = record { shown = refl; since = refl }
  sends-kept now a up.Close = record { shown = refl; since = refl }

  begin-reason : (a : Account) (b : Bool) (last : Option Up) → (λ (c : Account). c.reason) (record (begins a b) { last = last }) ≡ a.reason
  begin-reason a true last = refl
  begin-reason a false last = refl

  all-kept : (now : ℕ) (frames : List Up) (a : Account) → Kept a (fold (sends terms now) a frames)
  all-kept now [] a = record { shown = refl; since = refl }
  all-kept now (frame ∷ frames) a =
      let k : Kept a (sends terms now a frame) = sends-kept now a frame in
      let l : Kept (sends terms now a frame) (fold (sends terms now) (sends terms now a frame) frames) = all-kept now frames (sends terms now a frame) in
      record { shown = l.shown ∙ k.shown; since = l.since ∙ k.since }

  -- the reason from the frames of a step on
  sent-reason : (now limit since : ℕ) (frames : List Up) (a : Account) (index : ℕ) (rest : List Event) → length a.shown ≡ index
      → option_or a.reason (reason_from kind limit since (submissions index frames ++ rest)) ≡ option_or (fold (sends terms now) a frames).reason (reason_from kind limit since rest)
  sent-reason now limit since [] a index rest e = refl
  sent-reason now limit since (up.Connect ∷ frames) a index rest e = sent-reason now limit since frames (sends terms now a up.Connect) index rest e
  sent-reason now limit since (up.Begin settings ∷ frames) a index rest e =
      ap (λ o. option_or o (reason_from kind limit since (submissions index frames ++ rest))) (sym (begin-reason a a.begun (Some (up.Begin settings))))
      ∙ sent-reason now limit since frames (sends terms now a (up.Begin settings)) index rest (ap length (sends-kept now a (up.Begin settings)).shown ∙ e)
  sent-reason now limit since (up.Call true kept one ∷ frames) a index rest e = sent-reason now limit since frames (sends terms now a (up.Call true kept one)) index rest e
  sent-reason now limit since (up.Call false kept one ∷ frames) a index rest e =
      let same : terms.rules.submit one (length a.shown) ≡ submit_reason kind one index =
      ap (λ (r : Rules). r.submit one (length a.shown)) ruled ∙ submit_same kind one (length a.shown) ∙ ap (submit_reason kind one) e in
      sym (or_assoc a.reason (submit_reason kind one index) (reason_from kind limit since (submissions index frames ++ rest)))
      ∙ ap (λ o. option_or (option_or a.reason o) (reason_from kind limit since (submissions index frames ++ rest))) (sym same)
      ∙ sent-reason now limit since frames (sends terms now a (up.Call false kept one)) index rest e
  sent-reason now limit since (up.Outcome ltxid ∷ frames) a index rest e = sent-reason now limit since frames (sends terms now a (up.Outcome ltxid)) index rest e
  sent-reason now limit since (up.End ∷ frames) a index rest e = sent-reason now limit since frames (sends terms now a up.End) index rest e
  sent-reason now limit since (up.Close ∷ frames) a index rest e = sent-reason now limit since frames (sends terms now a up.Close) index rest e

  -- a reason stays
  stays : (now : ℕ) (frames : List Up) (a : Account) → (fold (sends terms now) a frames).reason ≡ None → a.reason ≡ None
  stays now [] a none = none
  stays now (up.Connect ∷ frames) a none = stays now frames (sends terms now a up.Connect) none
  stays now (up.Begin settings ∷ frames) a none = sym (begin-reason a a.begun (Some (up.Begin settings))) ∙ stays now frames (sends terms now a (up.Begin settings)) none
  stays now (up.Call true kept one ∷ frames) a none = stays now frames (sends terms now a (up.Call true kept one)) none
  stays now (up.Call false kept one ∷ frames) a none = first_none a.reason (terms.rules.submit one (length a.shown)) (stays now frames (sends terms now a (up.Call false kept one)) none)
    where
      first_none : (x y : Option Why) → option_or x y ≡ None → x ≡ None
      first_none None y e = refl
      first_none (Some w) y e = e
  stays now (up.Outcome ltxid ∷ frames) a none = stays now frames (sends terms now a (up.Outcome ltxid)) none
  stays now (up.End ∷ frames) a none = stays now frames (sends terms now a up.End) none
  stays now (up.Close ∷ frames) a none = stays now frames (sends terms now a up.Close) none

-- the reason that a showing gives, and what is counted then, by the kind
record ShowsSame (kind : Kind) (limit since : ℕ) (answers : List Answer) (reason : Option Why) (past : ℕ) : Type 0 where
  reason_is : reason ≡ show_reason kind limit since answers
  past_is : reason ≡ None → past ≡ (if ends_decided answers then 0 else since + 1)

module _ (terms : Terms) (since : List Recorded) (one : Recorded) (answers : List Answer) where
  dynamic_shows : (b : Bool) → ends_decided answers ≡ b
      → ShowsSame Dynamic terms.recorded (length since) answers
      (reply_reason terms (length since) (if b then after.Stop why.AfterCommit else after.Record)) (length (since_after since one (if b then after.Stop why.AfterCommit else after.Record)))
  dynamic_shows true e = record {
    reason_is = sym (ap (λ (d : Bool). let o : Option Why = if d then Some why.AfterCommit else (if nat_le terms.recorded (length since) then Some (why.Full terms.recorded) else None) in o) e);
    past_is = λ none. absurd (let no : ⊥ = cc in no);
  }
  dynamic_shows false e = record {
    reason_is = sym (ap (λ (d : Bool). let o : Option Why = if d then Some why.AfterCommit else (if nat_le terms.recorded (length since) then Some (why.Full terms.recorded) else None) in o) e);
    past_is = λ none. length-last since one ∙ sym (ap (λ (d : Bool). if d then 0 else length since + 1) e);
  }

  static_shows : (b : Bool) → ends_decided answers ≡ b
      → ShowsSame Static terms.recorded (length since) answers
      (reply_reason terms (length since) (if b then after.Purge else after.Record)) (length (since_after since one (if b then after.Purge else after.Record)))
  static_shows true e = record {
    reason_is = sym (ap (λ (d : Bool). let o : Option Why = if d then None else (if nat_le terms.recorded (length since) then Some (why.Full terms.recorded) else None) in o) e);
    past_is = λ none. sym (ap (λ (d : Bool). if d then 0 else length since + 1) e);
  }
  static_shows false e = record {
    reason_is = sym (ap (λ (d : Bool). let o : Option Why = if d then None else (if nat_le terms.recorded (length since) then Some (why.Full terms.recorded) else None) in o) e);
    past_is = λ none. length-last since one ∙ sym (ap (λ (d : Bool). if d then 0 else length since + 1) e);
  }

  -- settings that are kept purge at the same answers
  auto_shows : (b : Bool) → ends_decided answers ≡ b
      → ShowsSame Auto terms.recorded (length since) answers
      (reply_reason terms (length since) (if b then after.Purge else after.Record)) (length (since_after since one (if b then after.Purge else after.Record)))
  auto_shows b e = let s : ShowsSame Static terms.recorded (length since) answers (reply_reason terms (length since) (if b then after.Purge else after.Record)) (length (since_after since one (if b then after.Purge else after.Record))) = static_shows b e in
      record { reason_is = s.reason_is; past_is = s.past_is }

-- without replay the reason stands from the first call on, which is sent with the first Begin
abbrev StandsOff : Kind → Account → Type 0
StandsOff NoReplay a = a.reason ≡ None → (a.first ≡ None) × (a.begun ≡ true → ⊥)
StandsOff Dynamic a = Unit {0}
StandsOff Static a = Unit {0}
StandsOff Auto a = Unit {0}

shows_same : (kind : Kind) (terms : Terms) (a : Account) (one : Recorded) (answers : List Answer) → StandsOff kind a → a.begun ≡ true → a.reason ≡ None
    → ShowsSame kind terms.recorded (length a.since_purge) answers
    (reply_reason terms (length a.since_purge) ((rules_of kind).reply answers)) (length (since_after a.since_purge one ((rules_of kind).reply answers)))
shows_same NoReplay terms a one answers off begun none = absurd ((off none).1 begun)
shows_same Dynamic terms a one answers off begun none = dynamic_shows terms a.since_purge one answers (ends_decided answers) refl
shows_same Static terms a one answers off begun none = static_shows terms a.since_purge one answers (ends_decided answers) refl
shows_same Auto terms a one answers off begun none = auto_shows terms a.since_purge one answers (ends_decided answers) refl

-- what is kept of an account, `since` being the calls shown since the last one that was decided
record Counts (kind : Kind) (a : Account) (since : ℕ) : Type 0 where
  counted : a.reason ≡ None → length a.since_purge ≡ since
  off : StandsOff kind a

-- one step: the events of its showing and of its frames
record Moves (kind : Kind) (limit : ℕ) (a : Account) (since : ℕ) (b : Account) (shown : Option Shown) (send : List Up) : Type 0 where
  past : ℕ
  counts : Counts kind b past
  reason : (rest : List Event) → option_or a.reason (reason_from kind limit since (showing shown ++ submissions (length a.shown + length (showing shown)) send ++ rest)) ≡ option_or b.reason (reason_from kind limit past rest)
  count : length b.shown ≡ length a.shown + length (showing shown)

either_reason : (r rr sr rest : Option Why) → (r ≡ None → rr ≡ sr) → option_or r (option_or sr rest) ≡ option_or (option_or r rr) rest
either_reason None rr sr rest e = ap (λ o. option_or o rest) (sym (e refl))
either_reason (Some w) rr sr rest e = refl

both_none : (r rr : Option Why) → option_or r rr ≡ None → (r ≡ None) × (rr ≡ None)
both_none None rr e = (refl, e)
both_none (Some w) rr e = absurd (let no : ⊥ = cc in no)

or_none : (r : Option Why) → r ≡ option_or r None
or_none None = refl
or_none (Some w) = refl

module _ (kind : Kind) (terms : Terms) (ruled : terms.rules ≡ rules_of kind) where
  -- without replay no call was sent where no reason stands
  none_sent : (now : ℕ) (frames : List Up) (a : Account) → kind ≡ NoReplay → (fold (sends terms now) a frames).reason ≡ None → (fold (sends terms now) a frames).first ≡ a.first
  none_sent now [] a is none = refl
  none_sent now (up.Connect ∷ frames) a is none = none_sent now frames (sends terms now a up.Connect) is none
  none_sent now (up.Begin settings ∷ frames) a is none = none_sent now frames (sends terms now a (up.Begin settings)) is none ∙ by a.begun
    where
      by : (b : Bool) → (λ (c : Account). c.first) (record (begins a b) { last = Some (up.Begin settings) }) ≡ a.first
      by true = refl
      by false = refl
  none_sent now (up.Call true kept one ∷ frames) a is none = none_sent now frames (sends terms now a (up.Call true kept one)) is none
  none_sent now (up.Call false kept one ∷ frames) a is none =
      let left : option_or a.reason (terms.rules.submit one (length a.shown)) ≡ None = stays kind terms ruled now frames (sends terms now a (up.Call false kept one)) none in
      let never : terms.rules.submit one (length a.shown) ≡ None = (both_none a.reason (terms.rules.submit one (length a.shown)) left).1 in
      let off : terms.rules.submit one (length a.shown) ≡ Some why.Off = ap (λ (r : Rules). r.submit one (length a.shown)) (ruled ∙ ap rules_of is) in
      absurd (let no : ⊥ = cc in no)
  none_sent now (up.Outcome ltxid ∷ frames) a is none = none_sent now frames (sends terms now a (up.Outcome ltxid)) is none
  none_sent now (up.End ∷ frames) a is none = none_sent now frames (sends terms now a up.End) is none
  none_sent now (up.Close ∷ frames) a is none = none_sent now frames (sends terms now a up.Close) is none

  module _ (settings : List (List ℕ × Value)) (calls : List Call) where
    module _ (a : Account) (since : ℕ) (input : Input) (now : ℕ) (step : Step) (s : Stepped terms settings calls a input now step) where
      -- nothing was shown
      module _ (unshown : s.shown ≡ None) where
        quiet_same : Same a s.heard
        quiet_same = subst (λ (h : Account). Same a h) (ap (λ (o : Option Shown). shows terms calls (hears terms a input now o) o) (sym unshown) ∙ s.is_heard) (hears-same terms a input now None)

        unshown_off : (k : Kind) → kind ≡ k → StandsOff k a → StandsOff k (fold (sends terms now) s.heard step.1.send)
        unshown_off NoReplay is off = λ none.
            let h : s.heard.reason ≡ None = stays kind terms ruled now step.1.send s.heard none in
            let before : (a.first ≡ None) × (a.begun ≡ true → ⊥) = off (sym quiet_same.reason ∙ h) in
            let first : (fold (sends terms now) s.heard step.1.send).first ≡ None = none_sent now step.1.send s.heard is none ∙ quiet_same.first ∙ before.0 in
            (first, λ begun. elim (s.good.begins begun) as (λ u. ⊥) [ inl b ↦ before.1 (sym quiet_same.begun ∙ b) | inr f ↦ (let f2 : IsSome {T = ℕ} None = subst (λ (o : Option ℕ). IsSome o) first f in let no : ⊥ = cc in no) ])
        unshown_off Dynamic is off = tt
        unshown_off Static is off = tt
        unshown_off Auto is off = tt

        unshown_moves : Counts kind a since → Moves kind terms.recorded a since (fold (sends terms now) s.heard step.1.send) None step.1.send
        unshown_moves c =
            let k : Kept kind terms ruled s.heard (fold (sends terms now) s.heard step.1.send) = all-kept kind terms ruled now step.1.send s.heard in
            record {
              past = since;
              counts = record {
                counted = λ none. ap length (k.since ∙ quiet_same.since) ∙ c.counted (sym quiet_same.reason ∙ stays kind terms ruled now step.1.send s.heard none);
                off = unshown_off kind refl c.off;
              };
              reason = λ rest. ap (λ o. option_or o (reason_from kind terms.recorded since (submissions (length a.shown + 0) step.1.send ++ rest))) (sym quiet_same.reason)
                  ∙ sent-reason kind terms ruled now terms.recorded since step.1.send s.heard (length a.shown + 0) rest (let e : length s.heard.shown ≡ length a.shown = ap length quiet_same.shown in omega arith);
              count = let e : length (fold (sends terms now) s.heard step.1.send).shown ≡ length a.shown = ap length (k.shown ∙ quiet_same.shown) in omega arith;
            }

      -- a call was shown
      module _ (one : Shown) (call : Call) (begun : a.begun ≡ true) where
        abbrev asked : Account
        asked = hears terms a input now (Some one)

        abbrev heard : Account
        heard = shows_call terms asked one call

        same : Same a asked
        same = hears-same terms a input now (Some one)

        abbrev taken : Recorded
        taken = recorded_as terms call one.answers one.draws

        reply_is : terms.rules.reply one.answers ≡ (rules_of kind).reply one.answers
        reply_is = ap (λ (r : Rules). r.reply one.answers) ruled

        -- what the account and the table say of the showing, where no reason stood
        told : Counts kind a since → a.reason ≡ None
            → ShowsSame kind terms.recorded since one.answers (reply_reason terms (length asked.since_purge) (terms.rules.reply one.answers)) (length (since_after asked.since_purge taken (terms.rules.reply one.answers)))
        told c none =
            subst (λ (n : ℕ). ShowsSame kind terms.recorded n one.answers (reply_reason terms (length asked.since_purge) (terms.rules.reply one.answers)) (length (since_after asked.since_purge taken (terms.rules.reply one.answers)))) (c.counted none)
            (subst (λ (l : List Recorded). ShowsSame kind terms.recorded (length a.since_purge) one.answers (reply_reason terms (length l) (terms.rules.reply one.answers)) (length (since_after l taken (terms.rules.reply one.answers)))) (sym same.since)
            (subst (λ (r : After). ShowsSame kind terms.recorded (length a.since_purge) one.answers (reply_reason terms (length a.since_purge) r) (length (since_after a.since_purge taken r))) (sym reply_is)
            (shows_same kind terms a taken one.answers c.off begun none)))

        abbrev now_reason : Option Why
        now_reason = reply_reason terms (length asked.since_purge) (terms.rules.reply one.answers)

        shown_off : (k : Kind) → StandsOff k a → StandsOff k (fold (sends terms now) heard step.1.send)
        shown_off NoReplay off = λ none.
            let h : option_or asked.reason now_reason ≡ None = stays kind terms ruled now step.1.send heard none in
            absurd ((off (sym same.reason ∙ (both_none asked.reason now_reason h).0)).1 begun)
        shown_off Dynamic off = tt
        shown_off Static off = tt
        shown_off Auto off = tt

        shown_moves : Counts kind a since → Moves kind terms.recorded a since (fold (sends terms now) heard step.1.send) (Some one) step.1.send
        shown_moves c =
            let k : Kept kind terms ruled heard (fold (sends terms now) heard step.1.send) = all-kept kind terms ruled now step.1.send heard in
            let past : ℕ = if ends_decided one.answers then 0 else since + 1 in
            let many : length heard.shown ≡ length a.shown + 1 = length-last asked.shown one ∙ ap (λ l. length l + 1) same.shown in
            record {
              past = past;
              counts = record {
                counted = λ none.
                    let h : option_or asked.reason now_reason ≡ None = stays kind terms ruled now step.1.send heard none in
                    let b : (asked.reason ≡ None) × (now_reason ≡ None) = both_none asked.reason now_reason h in
                    ap length k.since ∙ (told c (sym same.reason ∙ b.0)).past_is b.1;
                off = shown_off kind c.off;
              };
              reason = λ rest.
                  either_reason a.reason now_reason (show_reason kind terms.recorded since one.answers) (reason_from kind terms.recorded past (submissions (length a.shown + 1) step.1.send ++ rest)) (λ none. (told c none).reason_is)
                  ∙ ap (λ o. option_or (option_or o now_reason) (reason_from kind terms.recorded past (submissions (length a.shown + 1) step.1.send ++ rest))) (sym same.reason)
                  ∙ sent-reason kind terms ruled now terms.recorded past step.1.send heard (length a.shown + 1) rest many;
              count = ap length k.shown ∙ many;
            }

      moves_by : (found : Option Shown) → s.shown ≡ found → Counts kind a since → Moves kind terms.recorded a since (fold (sends terms now) s.heard step.1.send) found step.1.send
      moves_by None is c = unshown_moves is c
      moves_by (Some one) is c =
          let w : (a.begun ≡ true) × ((call : Call) × (s.heard ≡ shows_call terms (hears terms a input now (Some one)) one call)) = s.as_shown one is in
          subst (λ (h : Account). Moves kind terms.recorded a since (fold (sends terms now) h step.1.send) (Some one) step.1.send) (sym w.1.1) (shown_moves one w.1.0 w.0 c)

      moves : Counts kind a since → Moves kind terms.recorded a since (after_step terms calls a (record { input = input; now = now; act = step.1 })) step.1.shown step.1.send
      moves c =
          subst (λ (h : Account). Moves kind terms.recorded a since (fold (sends terms now) h step.1.send) step.1.shown step.1.send) (sym (heard_is terms settings calls a input now step s))
          (subst (λ (o : Option Shown). Moves kind terms.recorded a since (fold (sends terms now) s.heard step.1.send) o step.1.send) (sym s.good.shows) (moves_by s.shown refl c))

    tables : (inputs : List Timed) (a : Account) (gone : Bool) (talk : Talk) (since : ℕ) → (is_idle talk.phase ≡ false → IsTalk terms settings calls a talk) → Fits terms calls a gone talk.phase
        → MayCome terms talk gone inputs → Counts kind a since
        → (fold (after_step terms calls) a (steps_of terms talk inputs)).reason ≡ option_or a.reason (reason_from kind terms.recorded since (events_from (length a.shown) (steps_of terms talk inputs)))
    tables [] a gone talk since talks fits may c = or_none a.reason
    tables (one ∷ inputs) a gone talk since talks fits may c =
        let step : Step = talk_step terms talk one.0 one.1 in
        let s : Stepped terms settings calls a one.0 one.1 step = step_stepped terms settings calls a gone one.1 talk talks one.0 fits may.0 in
        let b : Account = after_step terms calls a (done_at terms talk one) in
        let m : Moves kind terms.recorded a since b step.1.shown step.1.send = moves a since one.0 one.1 step s c in
        tables inputs b (is_gone_next one.0 step.1.hold) step.0 m.past (next_talks terms settings calls a one.0 one.1 step s) (next_fits terms settings calls a one.0 one.1 step s) may.1 m.counts
        ∙ ap (λ n. option_or b.reason (reason_from kind terms.recorded m.past (events_from n (steps_of terms step.0 inputs)))) m.count
        ∙ sym (m.reason (events_from (length a.shown + length (showing step.1.shown)) (steps_of terms step.0 inputs)))

    first_off : (k : Kind) → StandsOff k unheard
    first_off NoReplay = λ none. (refl, λ b. let no : ⊥ = cc in no)
    first_off Dynamic = tt
    first_off Static = tt
    first_off Auto = tt

pub has_tables_reason : HasTablesReason
has_tables_reason kind terms settings calls inputs ruled may =
    tables kind terms ruled settings calls inputs unheard false (requested settings calls) 0 (λ e. first_talks terms settings calls) refl may
    (record { counted = λ none. refl; off = first_off kind terms ruled settings calls kind })
