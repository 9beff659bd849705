-- A call that is shown: the track follows what the steps tell.
use Rattle.std.proofs.Common.{◌≡◌, ℕ, zero, suc, ◌+◌, ◌≤◌, ◌||◌, Bool, true, false, List, [], ◌∷◌, ◌++◌, length, map, take, Option, Some, None, if◌then◌else◌, refl, sym, ap, subst, ◌∙◌, arith, length-append, append_assoc, append-nil, nat_le}
use Rattle.std.specs.Prelude.{slice_get}
use Rattle.std.specs.List.{list_any}
use Rattle.std.specs.Option.{option_or}
use Rattle.std.proofs.Math.Bool.{or-false}
use Rattle.svc_values.specs.declared.call.Call.{Call}
use Rattle.request_bounds.specs.declared.rule.Why.{Why}
use Rattle.request_bounds.specs.declared.rule.Why.TheVariants as why
use Rattle.request_bounds.specs.declared.rule.After.{After}
use Rattle.request_bounds.specs.declared.rule.After.TheVariants as after
use Rattle.call_recorder.specs.declared.recorded.Recorded.{Recorded}
use Rattle.client_model.specs.declared.track.Track.{Track}
use Rattle.client_model.specs.declared.act.Shown.{Shown}
use Rattle.client_model.specs.meaning.Terms.{Terms}
use Rattle.client_model.specs.meaning.Talk.{is_set, recorded_as, with_recorded, with_reply, with_counted, with_shown}
use Rattle.client_model.specs.meaning.Account.{Account, reply_reason, since_after, purged_after, shows_call}
use Rattle.client_model.proofs.Fits.{Recalls, Tracked}

-- whether one of the calls is a set, with one call more
pub any_set-more : (calls : List Call) (n : ℕ) (call : Call) → slice_get calls n ≡ Some call → list_any is_set (take (suc n) calls) ≡ (list_any is_set (take n calls) || is_set call)
any_set-more [] n call e = absurd (let none : ⊥ = cc in none)
any_set-more (first ∷ calls) zero call e = let same : first ≡ call = cc in or-false (is_set first) ∙ ap is_set same
any_set-more (first ∷ calls) (suc n) call e = ap (λ b. is_set first || b) (any_set-more calls n call e) ∙ or_assoc (is_set first) (list_any is_set (take n calls)) (is_set call)
  where
    or_assoc : (a b c : Bool) → (a || (b || c)) ≡ ((a || b) || c)
    or_assoc true b c = refl
    or_assoc false b c = refl

pub length-last : {X : Type 0} (xs : List X) (x : X) → length (xs ++ x ∷ []) ≡ length xs + 1
length-last xs x = length-append xs (x ∷ [])

pub map-last : {X Y : Type 0} (f : X → Y) (xs : List X) (x : X) → map f (xs ++ x ∷ []) ≡ map f xs ++ f x ∷ []
map-last f [] x = refl
map-last f (y ∷ xs) x = ap (λ l. f y ∷ l) (map-last f xs x)

module _ (terms : Terms) (calls : List Call) where
  -- what a rule's answer makes of an account, and of a track
  abbrev pub shows_by : Account → Shown → Call → After → Account
  shows_by a shown call r = record a {
    shown = a.shown ++ shown ∷ [];
    since_purge = since_after a.since_purge (recorded_as terms call shown.answers shown.draws) r;
    purged = purged_after a.purged (length a.shown) r;
    reason = option_or a.reason (reply_reason terms (length a.since_purge) r);
  }

  recalls_by : (a : Account) (shown : Shown) (call : Call) (r : After) → Recalls terms a → Recalls terms (shows_by a shown call r)
  recalls_by a shown call after.Purge c = record { before = a.shown ++ shown ∷ []; since = []; shown = sym (append-nil (a.shown ++ shown ∷ [])); digests = refl }
  recalls_by a shown call after.Record c = record {
    before = c.before;
    since = c.since ++ shown ∷ [];
    shown = ap (λ l. l ++ shown ∷ []) c.shown ∙ append_assoc c.before c.since (shown ∷ []);
    digests = map-last (λ one. one.seen.digest) a.since_purge (recorded_as terms call shown.answers shown.draws)
        ∙ ap (λ l. l ++ terms.digest shown.answers ∷ []) c.digests ∙ sym (map-last (λ one. terms.digest one.answers) c.since shown);
  }
  recalls_by a shown call (after.Stop w) c = record {
    before = c.before;
    since = c.since ++ shown ∷ [];
    shown = ap (λ l. l ++ shown ∷ []) c.shown ∙ append_assoc c.before c.since (shown ∷ []);
    digests = map-last (λ one. one.seen.digest) a.since_purge (recorded_as terms call shown.answers shown.draws)
        ∙ ap (λ l. l ++ terms.digest shown.answers ∷ []) c.digests ∙ sym (map-last (λ one. terms.digest one.answers) c.since shown);
  }

  -- `k` and `m` are the tracks before and after the rule's answer
  module _ (a : Account) (k : Track) (shown : Shown) (call : Call) (t : Tracked terms calls a k) (is : slice_get calls k.call ≡ Some call) where
    counted_by : (r : After) (m : Track)
        → m.call ≡ k.call → m.replays ≡ k.replays → m.first ≡ k.first → m.set_shown ≡ k.set_shown
        → m.why ≡ option_or a.reason (reply_reason terms (length a.since_purge) r)
        → (m.why ≡ None → m.recorder.calls ≡ since_after a.since_purge (recorded_as terms call shown.answers shown.draws) r)
        → length m.recorder.calls ≤ k.call + 1
        → Tracked terms calls (shows_by a shown call r) (with_counted m call)
    counted_by r m e-call e-replays e-first e-set e-why e-recorded within = record {
      call = ap (λ n. n + 1) (e-call ∙ t.call) ∙ sym (length-last a.shown shown);
      why = e-why;
      recorded = e-recorded;
      within = let e : m.call ≡ k.call = e-call in omega arith;
      replays = e-replays ∙ t.replays;
      few = let e : m.replays ≡ k.replays = e-replays in let f : k.replays ≤ terms.limits.replays = t.few in omega arith;
      first = e-first ∙ t.first;
      set_shown = ap (λ b. b || is_set call) (e-set ∙ t.set_shown)
          ∙ sym (any_set-more calls (length a.shown) call (subst (λ n. slice_get calls n ≡ Some call) t.call is))
          ∙ ap (λ n. list_any is_set (take n calls)) (let e : suc (length a.shown) ≡ length (a.shown ++ shown ∷ []) = omega (arith, length-last a.shown shown) in e);
      recalls = recalls_by a shown call r t.recalls;
    }

    abbrev one : Recorded
    one = recorded_as terms call shown.answers shown.draws

    record_full : (full : Bool) → nat_le terms.recorded (length k.recorder.calls) ≡ full → k.why ≡ None
        → Tracked terms calls (shows_by a shown call after.Record)
        (with_counted (if full then record k { why = Some (why.Full terms.recorded) } else record k { recorder = record k.recorder { calls = k.recorder.calls ++ one ∷ [] } }) call)
    record_full full e none = by full e
      where
        since : length k.recorder.calls ≡ length a.since_purge
        since = ap length (t.recorded none)

        reason : a.reason ≡ None
        reason = sym t.why ∙ none

        by : (full : Bool) → nat_le terms.recorded (length k.recorder.calls) ≡ full
            → Tracked terms calls (shows_by a shown call after.Record)
            (with_counted (if full then record k { why = Some (why.Full terms.recorded) } else record k { recorder = record k.recorder { calls = k.recorder.calls ++ one ∷ [] } }) call)
        by true e = counted_by after.Record (record k { why = Some (why.Full terms.recorded) }) refl refl refl refl
            (let f : nat_le terms.recorded (length a.since_purge) ≡ true = subst (λ n. nat_le terms.recorded n ≡ true) since e in
            sym (ap (λ (o : Option Why). option_or o (reply_reason terms (length a.since_purge) after.Record)) reason
            ∙ ap (λ (b : Bool). let o : Option Why = if b then Some (why.Full terms.recorded) else None in o) f))
            (λ never. absurd (let none : ⊥ = cc in none))
            (let w : length k.recorder.calls ≤ k.call = t.within in omega arith)
        by false e = counted_by after.Record (record k { recorder = record k.recorder { calls = k.recorder.calls ++ one ∷ [] } }) refl refl refl refl
            (let f : nat_le terms.recorded (length a.since_purge) ≡ false = subst (λ n. nat_le terms.recorded n ≡ false) since e in
            none ∙ sym (ap (λ (o : Option Why). option_or o (reply_reason terms (length a.since_purge) after.Record)) reason
            ∙ ap (λ (b : Bool). let o : Option Why = if b then Some (why.Full terms.recorded) else None in o) f))
            (λ never. ap (λ l. l ++ one ∷ []) (t.recorded none))
            (let w : length k.recorder.calls ≤ k.call = t.within in omega (arith, length-last k.recorder.calls one))

    record_by : (w : Option Why) → k.why ≡ w → Tracked terms calls (shows_by a shown call after.Record) (with_counted (with_recorded terms k one w) call)
    record_by (Some w) e = counted_by after.Record k refl refl refl refl
        (let r : a.reason ≡ Some w = sym t.why ∙ e in e ∙ sym (ap (λ (o : Option Why). option_or o (reply_reason terms (length a.since_purge) after.Record)) r))
        (λ none. absurd (let none : ⊥ = cc in none))
        (let w : length k.recorder.calls ≤ k.call = t.within in omega arith)
    record_by None e = record_full (nat_le terms.recorded (length k.recorder.calls)) refl e

    option_or-itself : (o : Option Why) → o ≡ option_or o None
    option_or-itself None = refl
    option_or-itself (Some w) = refl

    not_none : (o : Option Why) (w : Why) → option_or o (Some w) ≡ None → ⊥
    not_none None w e = let none : ⊥ = cc in none
    not_none (Some v) w e = let none : ⊥ = cc in none

    reply_by : (r : After) → Tracked terms calls (shows_by a shown call r) (with_counted (with_reply terms k one r) call)
    reply_by after.Record = record_by k.why refl
    reply_by after.Purge = counted_by after.Purge (record k { recorder = record k.recorder { calls = [] } }) refl refl refl refl
        (t.why ∙ option_or-itself a.reason) (λ none. refl) (let z : 0 ≤ k.call + 1 = omega arith in z)
    reply_by (after.Stop w) = counted_by (after.Stop w) (record k { why = option_or k.why (Some w) }) refl refl refl refl
        (ap (λ (o : Option Why). option_or o (Some w)) t.why) (λ none. absurd (not_none k.why w none))
        (let w : length k.recorder.calls ≤ k.call = t.within in omega arith)

    pub shown_tracked : Tracked terms calls (shows_call terms a shown call) (with_shown terms k call shown.answers shown.draws)
    shown_tracked = reply_by (terms.rules.reply shown.answers)
