-- The calls that are left, and the settings that are known, as calls are shown.
use Rattle.std.proofs.Common.{◌≡◌, ℕ, zero, suc, ◌+◌, Bool, true, false, List, [], ◌∷◌, ◌++◌, length, take, drop, Some, if◌then◌else◌, refl, sym, ap, ◌∙◌, arith}
use Rattle.std.specs.Prelude.{slice_get}
use Rattle.std.proofs.lemmas.List.Sums.{fold-append}
use Rattle.svc_values.specs.declared.value.Value.{Value}
use Rattle.svc_values.specs.declared.call.Call.{Call}
use Rattle.svc_values.specs.declared.call.Call.TheVariants as call
use Rattle.svc_values.specs.meaning.SettingsList.{put_setting, with_set, with_sets}
use Rattle.request_bounds.specs.declared.rule.After.{After}
use Rattle.request_bounds.specs.declared.rule.After.TheVariants as after
use Rattle.client_model.specs.declared.act.Shown.{Shown}
use Rattle.client_model.specs.meaning.Terms.{Terms, Talk}
use Rattle.client_model.specs.meaning.Talk.{set_by, sets_by, settled, settled_by, waits_after, next_call, talk_shown}
use Rattle.client_model.specs.declared.track.Track.{Track}
use Rattle.client_model.specs.meaning.Account.{Account, purged_after, shows_call}
use Rattle.client_model.proofs.Fits.{Tracked, IsTalk}
use Rattle.client_model.proofs.Showing.{length-last}

-- the first behind a front
first-drop : {X : Type 0} (xs : List X) (n : ℕ) → slice_get (drop n xs) 0 ≡ slice_get xs n
first-drop [] zero = refl
first-drop [] (suc n) = refl
first-drop (x ∷ xs) zero = refl
first-drop (x ∷ xs) (suc n) = first-drop xs n

drop-more : {X : Type 0} (xs : List X) (n : ℕ) → drop 1 (drop n xs) ≡ drop (suc n) xs
drop-more [] zero = refl
drop-more [] (suc n) = refl
drop-more (x ∷ xs) zero = refl
drop-more (x ∷ xs) (suc n) = drop-more xs n

-- one more of a list
pub take-next : {X : Type 0} (xs : List X) (n : ℕ) (x : X) → slice_get xs n ≡ Some x → take (suc n) xs ≡ take n xs ++ x ∷ []
take-next [] n x e = absurd (let none : ⊥ = cc in none)
take-next (y ∷ xs) zero x e = let same : y ≡ x = cc in ap (λ z. z ∷ []) same
take-next (y ∷ xs) (suc n) x e = ap (λ l. y ∷ l) (take-next xs n x e)

-- a call puts what it sets
put_by : (settings : List (List ℕ × Value)) (one : Call) → settled settings (set_by one) ≡ with_set settings one
put_by settings (call.Work statements commit) = refl
put_by settings (call.Set name value) = refl
put_by settings (call.Alter line) = refl
put_by settings call.Disable = refl
put_by settings call.Rollback = refl

-- with one call more
sets_more : (settings known sets : List (List ℕ × Value)) (calls : List Call) (n : ℕ) (one : Call) → slice_get calls n ≡ Some one
    → settled known sets ≡ with_sets settings (take n calls) → settled known (sets ++ set_by one) ≡ with_sets settings (take (suc n) calls)
sets_more settings known sets calls n one is so_far =
    fold-append (λ all each. put_setting all each.0 each.1) known sets (set_by one)
    ∙ ap (λ all. settled all (set_by one)) so_far
    ∙ put_by (with_sets settings (take n calls)) one
    ∙ sym (fold-append with_set settings (take n calls) (one ∷ []))
    ∙ ap (with_sets settings) (sym (take-next calls n one is))

module _ (terms : Terms) (settings : List (List ℕ × Value)) (calls : List Call) where
  -- the next call is the one behind those shown
  pub next_left : (a : Account) (talk : Talk) (k : Track) → IsTalk terms settings calls a talk → Tracked terms calls a k → slice_get calls k.call ≡ next_call talk
  next_left a talk k talks t = ap (slice_get calls) t.call ∙ sym (first-drop calls (length a.shown)) ∙ ap (λ l. slice_get l 0) (sym talks.left_are)

  module _ (a : Account) (talk : Talk) (shown : Shown) (one : Call) (talks : IsTalk terms settings calls a talk) (is : slice_get calls (length a.shown) ≡ Some one) where
    abbrev sets : List (List ℕ × Value)
    sets = sets_by terms.rules.keeps talk.sets one

    many : suc (length a.shown) ≡ length (a.shown ++ shown ∷ [])
    many = let e : suc (length a.shown) ≡ length (a.shown ++ shown ∷ []) = omega (arith, length-last a.shown shown) in e

    -- what is set with this call
    with_set_by : (keeps : Bool) → settled talk.settings talk.sets ≡ (if keeps then with_sets settings (take (length a.shown) calls) else settings)
        → settled talk.settings (if keeps then talk.sets ++ set_by one else talk.sets) ≡ (if keeps then with_sets settings (take (suc (length a.shown)) calls) else settings)
    with_set_by true e = sets_more settings talk.settings talk.sets calls (length a.shown) one is e
    with_set_by false e = e

    settled_here : settled talk.settings sets ≡ (if terms.rules.keeps then with_sets settings (take (suc (length a.shown)) calls) else settings)
    settled_here = with_set_by terms.rules.keeps talks.sets_are

    left_here : drop 1 talk.left ≡ drop (length (a.shown ++ shown ∷ [])) calls
    left_here = ap (drop 1) talks.left_are ∙ drop-more calls (length a.shown) ∙ ap (λ n. drop n calls) many

    shown_by : (r : After) → IsTalk terms settings calls (record (shows_call terms a shown one) { purged = purged_after a.purged (length a.shown) r }) (record talk { settings = settled_by r talk.settings sets; sets = waits_after r sets; left = drop 1 talk.left })
    shown_by after.Record = record {
      settings_are = talks.settings_are;
      sets_are = settled_here ∙ ap (λ n. if terms.rules.keeps then with_sets settings (take n calls) else settings) many;
      left_are = left_here;
      tries_are = talks.tries_are;
      few_tries = talks.few_tries;
    }
    shown_by (after.Stop reason) = record {
      settings_are = talks.settings_are;
      sets_are = settled_here ∙ ap (λ n. if terms.rules.keeps then with_sets settings (take n calls) else settings) many;
      left_are = left_here;
      tries_are = talks.tries_are;
      few_tries = talks.few_tries;
    }
    shown_by after.Purge = record {
      settings_are = settled_here ∙ ap (λ n. if terms.rules.keeps then with_sets settings (take n calls) else settings) (let e : suc (length a.shown) ≡ length a.shown + 1 = omega arith in e);
      sets_are = settled_here ∙ ap (λ n. if terms.rules.keeps then with_sets settings (take n calls) else settings) many;
      left_are = left_here;
      tries_are = talks.tries_are;
      few_tries = talks.few_tries;
    }

    -- the talk behind a call that was shown
    pub shown_talk : IsTalk terms settings calls (shows_call terms a shown one) (talk_shown terms talk one shown.answers)
    shown_talk = shown_by (terms.rules.reply shown.answers)
