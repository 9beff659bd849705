-- What is recorded of a call is what was shown of it.
use Rattle.std.proofs.Common.{◌≡◌, refl, sym, ap, subst, ◌∙◌, false, ℕ, suc, zero, ◌+◌, fold, length, length-append, append_assoc, List, [], ◌∷◌, ◌++◌, Option, Some, None, arith}
use Rattle.std.specs.Prelude.{slice_get}
use Rattle.std.proofs.lemmas.List.{append-nil}
use Rattle.svc_values.specs.declared.call.Call.{Call}
use Rattle.svc_values.specs.declared.frame.Up.{Up}
use Rattle.svc_values.specs.declared.frame.Up.TheVariants as up
use Rattle.call_recorder.specs.declared.recorded.Recorded.{Recorded}
use Rattle.request_bounds.specs.declared.rule.After.{After}
use Rattle.request_bounds.specs.declared.rule.After.TheVariants as after
use Rattle.client_model.specs.declared.act.Shown.{Shown}
use Rattle.client_model.specs.meaning.Account.{Account, unheard, hears, shows, shows_found, shows_call, since_after, sends, before_sends, after_step, account_of}
use Rattle.client_model.specs.meaning.Conversation.{Done}
use Rattle.client_model.specs.meaning.Talk.{recorded_as}
use Rattle.client_model.specs.meaning.Terms.{Terms}
use Rattle.world_model.proofs.script.Keeping.{hears_same, begins_same}

-- the call of this index, as it was shown
pub record Recalled (shown : List Shown) (calls : List Call) (index : ℕ) (recorded : Recorded) : Type 0 where
  pub one : Shown
  pub is : slice_get shown index ≡ Some one
  pub draws : one.draws ≡ recorded.draws
  pub call : slice_get calls index ≡ Some recorded.call

-- the calls since the last purge are the last ones that were shown
pub record Recalls (calls : List Call) (account : Account) : Type 0 where
  pub before : ℕ
  pub long : before + length account.since_purge ≡ length account.shown
  pub each : (index : ℕ) (recorded : Recorded) → slice_get account.since_purge index ≡ Some recorded → Recalled account.shown calls (before + index) recorded

-- LISTS -------------------------------------------------------------------------------------------

pub get_further : {A : Type 0} (xs more : List A) (index : ℕ) (x : A) → slice_get xs index ≡ Some x → slice_get (xs ++ more) index ≡ Some x
get_further [] more index x is = absurd (let none : ⊥ = cc in none)
get_further (y ∷ ys) more zero x is = is
get_further (y ∷ ys) more (suc index) x is = get_further ys more index x is

pub get_last : {A : Type 0} (xs : List A) (x : A) → slice_get (xs ++ x ∷ []) (length xs) ≡ Some x
get_last [] x = refl
get_last (y ∷ ys) x = get_last ys x

-- one of the list, or the one behind it
data Found {A : Type 0} (xs : List A) (x : A) (index : ℕ) (found : A) : Type 0 where
  Before : slice_get xs index ≡ Some found → Found xs x index found
  Last : index ≡ length xs → found ≡ x → Found xs x index found

found_in : {A : Type 0} (xs : List A) (x : A) (index : ℕ) (found : A) → slice_get (xs ++ x ∷ []) index ≡ Some found → Found xs x index found
found_in [] x zero found is = Last refl (let same : found ≡ x = cc in same)
found_in [] x (suc index) found is = absurd (let none : ⊥ = cc in none)
found_in (y ∷ ys) x zero found is = Before is
found_in (y ∷ ys) x (suc index) found is = by (found_in ys x index found is)
  where
    by : Found ys x index found → Found (y ∷ ys) x (suc index) found
    by (Before at) = Before at
    by (Last at same) = Last (ap suc at) same

-- ACCOUNTS ----------------------------------------------------------------------------------------

-- of the same calls
same_recalls : (calls : List Call) (a b : Account) → b.shown ≡ a.shown → b.since_purge ≡ a.since_purge → Recalls calls a → Recalls calls b
same_recalls calls a b shown since recalls = record {
  before = recalls.before;
  long = ap (λ (s : List Recorded). recalls.before + length s) since ∙ (recalls.long ∙ ap (λ (s : List Shown). length s) (sym shown));
  each = λ index one is.
      subst (λ (s : List Shown). Recalled s calls (recalls.before + index) one) (sym shown) (recalls.each index one (ap (λ (s : List Recorded). slice_get s index) (sym since) ∙ is));
}

module _ (terms : Terms) (calls : List Call) where
  still_recalled : (shown : List Shown) (one : Shown) (index : ℕ) (recorded : Recorded) → Recalled shown calls index recorded → Recalled (shown ++ one ∷ []) calls index recorded
  still_recalled shown one index recorded recalled = record { one = recalled.one; is = get_further shown (one ∷ []) index recalled.one recalled.is; draws = recalled.draws; call = recalled.call }

  module _ (a : Account) (shown : Shown) (call : Call) (at : slice_get calls (length a.shown) ≡ Some call) (recalls : Recalls calls a) where
    abbrev entry : Recorded
    entry = recorded_as terms call shown.answers shown.draws

    last_recalled : (index : ℕ) → index ≡ length a.since_purge → Recalled (a.shown ++ shown ∷ []) calls (recalls.before + index) entry
    last_recalled index is =
        let sum : recalls.before + length a.since_purge ≡ length a.shown = recalls.long in
        let place : length a.shown ≡ recalls.before + index = omega arith in
        subst (λ (k : ℕ). Recalled (a.shown ++ shown ∷ []) calls k entry) place (record { one = shown; is = get_last a.shown shown; draws = refl; call = at })

    noted_recalls : (b : Account) → b.shown ≡ a.shown ++ shown ∷ [] → b.since_purge ≡ a.since_purge ++ entry ∷ [] → Recalls calls b
    noted_recalls b shown_is since = record {
      before = recalls.before;
      long =
          let sum : recalls.before + length a.since_purge ≡ length a.shown = recalls.long in
          let one : length b.since_purge ≡ length a.since_purge + 1 = ap (λ (s : List Recorded). length s) since ∙ length-append a.since_purge (entry ∷ []) in
          let two : length b.shown ≡ length a.shown + 1 = ap (λ (s : List Shown). length s) shown_is ∙ length-append a.shown (shown ∷ []) in
          omega arith;
      each = λ index one is.
          subst (λ (s : List Shown). Recalled s calls (recalls.before + index) one) (sym shown_is)
          (by index one (found_in a.since_purge entry index one (ap (λ (s : List Recorded). slice_get s index) (sym since) ∙ is)));
    }
      where
        by : (index : ℕ) (one : Recorded) → Found a.since_purge entry index one → Recalled (a.shown ++ shown ∷ []) calls (recalls.before + index) one
        by index one (Before is) = still_recalled a.shown shown (recalls.before + index) one (recalls.each index one is)
        by index one (Last is same) = subst (λ (r : Recorded). Recalled (a.shown ++ shown ∷ []) calls (recalls.before + index) r) (sym same) (last_recalled index is)

    purged_recalls : (b : Account) → b.shown ≡ a.shown ++ shown ∷ [] → b.since_purge ≡ [] → Recalls calls b
    purged_recalls b shown_is since = record {
      before = length b.shown;
      long = ap (λ (s : List Recorded). length b.shown + length s) since ∙ (let plain : length b.shown + 0 ≡ length b.shown = omega arith in plain);
      each = λ index one is. absurd (let none : slice_get [] index ≡ Some one = ap (λ (s : List Recorded). slice_get s index) (sym since) ∙ is in let never : ⊥ = cc in never);
    }

    by_rule : (reply : After) (b : Account) → b.shown ≡ a.shown ++ shown ∷ [] → b.since_purge ≡ since_after a.since_purge entry reply → Recalls calls b
    by_rule after.Purge b shown_is since = purged_recalls b shown_is since
    by_rule after.Record b shown_is since = noted_recalls b shown_is since
    by_rule (after.Stop reason) b shown_is since = noted_recalls b shown_is since

  found_recalls : (a : Account) (shown : Shown) (call : Option Call) → slice_get calls (length a.shown) ≡ call → Recalls calls a → Recalls calls (shows_found terms a shown call)
  found_recalls a shown None at recalls = recalls
  found_recalls a shown (Some call) at recalls = by_rule a shown call at recalls (terms.rules.reply shown.answers) (shows_call terms a shown call) refl refl

  shows_recalls : (a : Account) (shown : Option Shown) → Recalls calls a → Recalls calls (shows terms calls a shown)
  shows_recalls a None recalls = recalls
  shows_recalls a (Some shown) recalls = found_recalls a shown (slice_get calls (length a.shown)) refl recalls

  sends_recalls : (now : ℕ) (a : Account) (frame : Up) → Recalls calls a → Recalls calls (sends terms now a frame)
  sends_recalls now a (up.Begin settings) recalls = let same = begins_same a a.begun in same_recalls calls a (sends terms now a (up.Begin settings)) same.shown same.since recalls
  sends_recalls now a (up.Call false kept call) recalls = same_recalls calls a (sends terms now a (up.Call false kept call)) refl refl recalls
  sends_recalls now a frame recalls = same_recalls calls a (sends terms now a frame) refl refl recalls

  all_recalls : (now : ℕ) (frames : List Up) (a : Account) → Recalls calls a → Recalls calls (fold (sends terms now) a frames)
  all_recalls now [] a recalls = recalls
  all_recalls now (frame ∷ frames) a recalls = all_recalls now frames (sends terms now a frame) (sends_recalls now a frame recalls)

  step_recalls : (a : Account) (done : Done) → Recalls calls a → Recalls calls (after_step terms calls a done)
  step_recalls a done recalls =
      let heard : Account = hears terms a done.input done.now done.act.shown in
      let same = hears_same terms a done.input done.now done.act.shown in
      all_recalls done.now done.act.send (before_sends terms calls a done) (shows_recalls heard done.act.shown (same_recalls calls a heard same.shown same.since recalls))

  folds_recall : (steps : List Done) (a : Account) → Recalls calls a → Recalls calls (fold (after_step terms calls) a steps)
  folds_recall [] a recalls = recalls
  folds_recall (done ∷ steps) a recalls = folds_recall steps (after_step terms calls a done) (step_recalls a done recalls)

  -- of the account of any steps
  pub account_recalls : (steps : List Done) → Recalls calls (account_of terms calls steps)
  account_recalls steps = folds_recall steps unheard (record { before = 0; long = refl; each = λ index one is. absurd (let never : ⊥ = cc in never) })

  -- SHOWN CALLS STAY ------------------------------------------------------------------------------

  -- the calls that were shown, and more
  pub record ShownMore (a b : Account) : Type 0 where
    pub more : List Shown
    pub are : b.shown ≡ a.shown ++ more

  no_more : (a b : Account) → b.shown ≡ a.shown → ShownMore a b
  no_more a b same = record { more = []; are = same ∙ sym (append-nil a.shown) }

  more_later : (a b c : Account) → ShownMore a b → ShownMore b c → ShownMore a c
  more_later a b c one two = record { more = one.more ++ two.more; are = two.are ∙ (ap (λ (s : List Shown). s ++ two.more) one.are ∙ append_assoc a.shown one.more two.more) }

  found_more : (a : Account) (shown : Shown) (call : Option Call) → ShownMore a (shows_found terms a shown call)
  found_more a shown None = no_more a a refl
  found_more a shown (Some call) = record { more = shown ∷ []; are = refl }

  shows_more : (a : Account) (shown : Option Shown) → ShownMore a (shows terms calls a shown)
  shows_more a None = no_more a a refl
  shows_more a (Some shown) = found_more a shown (slice_get calls (length a.shown))

  sends_more : (now : ℕ) (a : Account) (frame : Up) → (sends terms now a frame).shown ≡ a.shown
  sends_more now a (up.Begin settings) = (begins_same a a.begun).shown
  sends_more now a (up.Call false kept call) = refl
  sends_more now a frame = refl

  pub all_more : (now : ℕ) (frames : List Up) (a : Account) → (fold (sends terms now) a frames).shown ≡ a.shown
  all_more now [] a = refl
  all_more now (frame ∷ frames) a = all_more now frames (sends terms now a frame) ∙ sends_more now a frame

  step_more : (a : Account) (done : Done) → ShownMore a (after_step terms calls a done)
  step_more a done =
      let heard : Account = hears terms a done.input done.now done.act.shown in
      more_later a heard (after_step terms calls a done) (no_more a heard (hears_same terms a done.input done.now done.act.shown).shown)
      (more_later heard (before_sends terms calls a done) (after_step terms calls a done) (shows_more heard done.act.shown)
      (no_more (before_sends terms calls a done) (after_step terms calls a done) (all_more done.now done.act.send (before_sends terms calls a done))))

  pub folds_more : (steps : List Done) (a : Account) → ShownMore a (fold (after_step terms calls) a steps)
  folds_more [] a = no_more a a refl
  folds_more (done ∷ steps) a = more_later a (after_step terms calls a done) (fold (after_step terms calls) a (done ∷ steps)) (step_more a done) (folds_more steps (after_step terms calls a done))
