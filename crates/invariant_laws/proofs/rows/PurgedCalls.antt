-- The calls shown since the last purge, and those before it, are all that were shown; under a rule
-- that never purges there are none before.
use Rattle.std.proofs.Common.{◌≡◌, refl, sym, ap, ◌∙◌, Bool, true, false, ℕ, ◌+◌, List, [], ◌∷◌, ◌++◌, length, fold, Option, Some, None, arith}
use Rattle.std.specs.Prelude.{slice_get}
use Rattle.std.proofs.lemmas.List.{length_push}
use Rattle.svc_values.specs.declared.answer.Answer.{Answer}
use Rattle.svc_values.specs.declared.call.Call.{Call}
use Rattle.svc_values.specs.declared.entry.Ltxid.{Ltxid}
use Rattle.svc_values.specs.declared.frame.Down.TheVariants as down
use Rattle.svc_values.specs.declared.frame.Up.{Up}
use Rattle.svc_values.specs.declared.frame.Up.TheVariants as up
use Rattle.request_bounds.specs.declared.rule.After.{After}
use Rattle.request_bounds.specs.declared.rule.After.TheVariants as after
use Rattle.call_recorder.specs.declared.recorded.Recorded.{Recorded}
use Rattle.client_model.specs.meaning.Account.{Account, unheard, hears, hears_outcome, hears_reply, shows, shows_found, since_after, purged_after, begins, sends, before_sends, after_step, account_of}
use Rattle.client_model.specs.meaning.Conversation.{Done}
use Rattle.client_model.specs.declared.act.Shown.{Shown}
use Rattle.client_model.specs.declared.input.Input.{Input}
use Rattle.client_model.specs.declared.input.Input.TheVariants.{Start, Waiting, Lent, Opened, TryFailed, Took, Gone}
use Rattle.client_model.specs.meaning.Terms.{Terms}

-- what an input, or a frame that is sent, leaves
pub record IsBeside (a b : Account) : Type 0 where
  pub shown : b.shown ≡ a.shown
  pub since : b.since_purge ≡ a.since_purge
  pub purged : b.purged ≡ a.purged

outcome_beside : (a : Account) (committed completed : Bool) (last : Option Up) → IsBeside a (hears_outcome a committed completed last)
outcome_beside a committed completed (Some (up.Outcome x)) = record { shown = refl; since = refl; purged = refl }
outcome_beside a committed completed last = record { shown = refl; since = refl; purged = refl }

reply_beside : (terms : Terms) (a : Account) (answers : List Answer) (ltxid : Ltxid) (shown : Option Shown) → IsBeside a (hears_reply terms a answers ltxid shown)
reply_beside terms a answers ltxid None = record { shown = refl; since = refl; purged = refl }
reply_beside terms a answers ltxid (Some shown) = record { shown = refl; since = refl; purged = refl }

pub hears_beside : (terms : Terms) (a : Account) (input : Input) (now : ℕ) (shown : Option Shown) → IsBeside a (hears terms a input now shown)
hears_beside terms a Start now shown = record { shown = refl; since = refl; purged = refl }
hears_beside terms a Waiting now shown = record { shown = refl; since = refl; purged = refl }
hears_beside terms a (Lent connection ltxid) now shown = record { shown = refl; since = refl; purged = refl }
hears_beside terms a (Opened connection) now shown = record { shown = refl; since = refl; purged = refl }
hears_beside terms a TryFailed now shown = record { shown = refl; since = refl; purged = refl }
hears_beside terms a (Took (down.Hello ltxid) alive) now shown = record { shown = refl; since = refl; purged = refl }
hears_beside terms a (Took (down.Reply answers draws ltxid) alive) now shown = reply_beside terms a answers ltxid shown
hears_beside terms a (Took (down.OutcomeIs committed completed) alive) now shown = outcome_beside a committed completed a.last
hears_beside terms a (Took frame alive) now shown = record { shown = refl; since = refl; purged = refl }
hears_beside terms a (Gone event) now shown = record { shown = refl; since = refl; purged = refl }

begins_beside : (a : Account) (begun : Bool) → IsBeside a (begins a begun)
begins_beside a true = record { shown = refl; since = refl; purged = refl }
begins_beside a false = record { shown = refl; since = refl; purged = refl }

sends_beside : (terms : Terms) (now : ℕ) (a : Account) (frame : Up) → IsBeside a (sends terms now a frame)
sends_beside terms now a (up.Begin settings) = let so = begins_beside a a.begun in record { shown = so.shown; since = so.since; purged = so.purged }
sends_beside terms now a (up.Call false kept call) = record { shown = refl; since = refl; purged = refl }
sends_beside terms now a frame = record { shown = refl; since = refl; purged = refl }

-- ALL THAT WERE SHOWN -----------------------------------------------------------------------------

abbrev pub Purged : Account → Type 0
Purged a = length a.since_purge + a.purged ≡ length a.shown

beside_purged : (a b : Account) → IsBeside a b → Purged a → Purged b
beside_purged a b so purged = ap (λ (since : List Recorded). length since + b.purged) so.since ∙ ap (λ (n : ℕ). length a.since_purge + n) so.purged ∙ purged ∙ ap length (sym so.shown)

one_purged : (a : Account) (one : Recorded) (shown : Shown) (reply : After) → Purged a → length (since_after a.since_purge one reply) + purged_after a.purged (length a.shown) reply ≡ length (a.shown ++ shown ∷ [])
one_purged a one shown after.Purge purged = let long : length (a.shown ++ shown ∷ []) ≡ length a.shown + 1 = length_push a.shown shown in omega (arith, long)
one_purged a one shown after.Record purged =
    let long : length (a.shown ++ shown ∷ []) ≡ length a.shown + 1 = length_push a.shown shown in
    let more : length (a.since_purge ++ one ∷ []) ≡ length a.since_purge + 1 = length_push a.since_purge one in
    omega (arith, long, more, purged)
one_purged a one shown (after.Stop reason) purged =
    let long : length (a.shown ++ shown ∷ []) ≡ length a.shown + 1 = length_push a.shown shown in
    let more : length (a.since_purge ++ one ∷ []) ≡ length a.since_purge + 1 = length_push a.since_purge one in
    omega (arith, long, more, purged)

found_purged : (terms : Terms) (a : Account) (shown : Shown) (call : Option Call) → Purged a → Purged (shows_found terms a shown call)
found_purged terms a shown None purged = purged
found_purged terms a shown (Some call) purged = one_purged a _ shown (terms.rules.reply shown.answers) purged

shows_purged : (terms : Terms) (calls : List Call) (a : Account) (shown : Option Shown) → Purged a → Purged (shows terms calls a shown)
shows_purged terms calls a None purged = purged
shows_purged terms calls a (Some shown) purged = found_purged terms a shown (slice_get calls (length a.shown)) purged

sent_purged : (terms : Terms) (now : ℕ) (frames : List Up) (a : Account) → Purged a → Purged (fold (sends terms now) a frames)
sent_purged terms now [] a purged = purged
sent_purged terms now (frame ∷ frames) a purged = sent_purged terms now frames (sends terms now a frame) (beside_purged a (sends terms now a frame) (sends_beside terms now a frame) purged)

step_purged : (terms : Terms) (calls : List Call) (a : Account) (done : Done) → Purged a → Purged (after_step terms calls a done)
step_purged terms calls a done purged =
    sent_purged terms done.now done.act.send (before_sends terms calls a done)
    (shows_purged terms calls (hears terms a done.input done.now done.act.shown) done.act.shown (beside_purged a (hears terms a done.input done.now done.act.shown) (hears_beside terms a done.input done.now done.act.shown) purged))

steps_purged : (terms : Terms) (calls : List Call) (dones : List Done) (a : Account) → Purged a → Purged (fold (after_step terms calls) a dones)
steps_purged terms calls [] a purged = purged
steps_purged terms calls (done ∷ dones) a purged = steps_purged terms calls dones (after_step terms calls a done) (step_purged terms calls a done purged)

pub all_purged : (terms : Terms) (calls : List Call) (dones : List Done) → Purged (account_of terms calls dones)
all_purged terms calls dones = steps_purged terms calls dones unheard refl

-- NO PURGE ----------------------------------------------------------------------------------------

abbrev pub is_purge : After → Bool
is_purge after.Purge = true
is_purge _ = false

module _ (terms : Terms) (never : (answers : List Answer) → is_purge (terms.rules.reply answers) ≡ false) (calls : List Call) where
  none_purged : (purged shown : ℕ) (reply : After) → is_purge reply ≡ false → purged_after purged shown reply ≡ purged
  none_purged purged shown after.Record is = refl
  none_purged purged shown (after.Stop reason) is = refl
  none_purged purged shown after.Purge is = absurd (let none : ⊥ = cc in none)

  found_none : (a : Account) (shown : Shown) (call : Option Call) → a.purged ≡ 0 → (shows_found terms a shown call).purged ≡ 0
  found_none a shown None none = none
  found_none a shown (Some call) none = none_purged a.purged (length a.shown) (terms.rules.reply shown.answers) (never shown.answers) ∙ none

  shows_none : (a : Account) (shown : Option Shown) → a.purged ≡ 0 → (shows terms calls a shown).purged ≡ 0
  shows_none a None none = none
  shows_none a (Some shown) none = found_none a shown (slice_get calls (length a.shown)) none

  sent_none : (now : ℕ) (frames : List Up) (a : Account) → a.purged ≡ 0 → (fold (sends terms now) a frames).purged ≡ 0
  sent_none now [] a none = none
  sent_none now (frame ∷ frames) a none = sent_none now frames (sends terms now a frame) ((sends_beside terms now a frame).purged ∙ none)

  steps_none : (dones : List Done) (a : Account) → a.purged ≡ 0 → (fold (after_step terms calls) a dones).purged ≡ 0
  steps_none [] a none = none
  steps_none (done ∷ dones) a none =
      steps_none dones (after_step terms calls a done)
      (sent_none done.now done.act.send (before_sends terms calls a done)
      (shows_none (hears terms a done.input done.now done.act.shown) done.act.shown ((hears_beside terms a done.input done.now done.act.shown).purged ∙ none)))

  pub never_purged : (dones : List Done) → (account_of terms calls dones).purged ≡ 0
  never_purged dones = steps_none dones unheard refl
