-- The calls that are recorded since the last purge are those of the request, in a row.
use Rattle.std.proofs.Common.{◌≡◌, refl, sym, ap, subst, ◌∙◌, Bool, true, false, ℕ, ◌+◌, length, List, [], ◌∷◌, ◌++◌, Option, Some, None, ◌⊎◌, inl, inr, arith}
use Rattle.std.specs.Prelude.{fold, slice_get}
use Rattle.std.proofs.lemmas.List.{length_push}
use Rattle.svc_values.specs.declared.call.Call.{Call}
use Rattle.svc_values.specs.declared.frame.Down.TheVariants as down
use Rattle.svc_values.specs.declared.frame.Up.{Up}
use Rattle.svc_values.specs.declared.frame.Up.TheVariants as up
use Rattle.call_recorder.specs.declared.recorded.Recorded.{Recorded}
use Rattle.request_bounds.specs.declared.rule.After.{After}
use Rattle.request_bounds.specs.declared.rule.After.TheVariants as after
use Rattle.client_model.specs.declared.act.Shown.{Shown}
use Rattle.client_model.specs.declared.input.Input.{Input}
use Rattle.client_model.specs.declared.input.Input.TheVariants.{Start, Waiting, Lent, Opened, TryFailed, Took, Gone}
use Rattle.client_model.specs.meaning.Account.{Account, unheard, hears, hears_outcome, since_after, purged_after, shows, shows_found, begins, sends, before_sends, after_step, account_of}
use Rattle.client_model.specs.meaning.Conversation.{Done}
use Rattle.client_model.specs.meaning.Talk.{recorded_as}
use Rattle.client_model.specs.meaning.Terms.{Terms}
use Rattle.shown_laws.proofs.events.Places.{get_push}

-- each at its place behind the last purge, up to the calls that were shown
pub record InRow (calls : List Call) (since : List Recorded) (purged shown : ℕ) : Type 0 where
  pub at : (place : ℕ) (one : Recorded) → slice_get since place ≡ Some one → slice_get calls (purged + place) ≡ Some one.call
  pub long : purged + length since ≡ shown

abbrev pub RowOf : List Call → Account → Type 0
RowOf calls a = InRow calls a.since_purge a.purged (length a.shown)

row_more : (calls : List Call) (since : List Recorded) (purged shown : ℕ) (one : Recorded) → InRow calls since purged shown → slice_get calls shown ≡ Some one.call → InRow calls (since ++ one ∷ []) purged (shown + 1)
row_more calls since purged shown one row here = record {
  at = λ place other is. by place other (get_push since one other place is);
  long = let more : length (since ++ one ∷ []) ≡ length since + 1 = length_push since one in let was : purged + length since ≡ shown = row.long in omega (arith, more, was);
}
  where
    by : (place : ℕ) (other : Recorded) → (slice_get since place ≡ Some other) ⊎ ((place ≡ length since) × (one ≡ other)) → slice_get calls (purged + place) ≡ Some other.call
    by place other (inl there) = row.at place other there
    by place other (inr last) = ap (λ (n : ℕ). slice_get calls (purged + n)) last.0 ∙ (ap (slice_get calls) row.long ∙ (here ∙ ap (λ (r : Recorded). Some r.call) last.1))

row_none : (calls : List Call) (shown : ℕ) → InRow calls [] shown shown
row_none calls shown = record { at = λ place one is. absurd (let none : ⊥ = cc in none); long = let same : shown + 0 ≡ shown = omega arith in same }

module _ (terms : Terms) (calls : List Call) where
  row_after : (a : Account) (one : Recorded) (what : After) → RowOf calls a → slice_get calls (length a.shown) ≡ Some one.call
      → InRow calls (since_after a.since_purge one what) (purged_after a.purged (length a.shown) what) (length a.shown + 1)
  row_after a one after.Purge row here = row_none calls (length a.shown + 1)
  row_after a one after.Record row here = row_more calls a.since_purge a.purged (length a.shown) one row here
  row_after a one (after.Stop reason) row here = row_more calls a.since_purge a.purged (length a.shown) one row here

  shows_row : (a : Account) (shown : Option Shown) → RowOf calls a → RowOf calls (shows terms calls a shown)
  shows_row a None row = row
  shows_row a (Some one) row = by (slice_get calls (length a.shown)) refl
    where
      by : (found : Option Call) → slice_get calls (length a.shown) ≡ found → RowOf calls (shows_found terms a one found)
      by None here = row
      by (Some call) here =
          subst (InRow calls (since_after a.since_purge (recorded_as terms call one.answers one.draws) (terms.rules.reply one.answers)) (purged_after a.purged (length a.shown) (terms.rules.reply one.answers))) (sym (length_push a.shown one))
          (row_after a (recorded_as terms call one.answers one.draws) (terms.rules.reply one.answers) row here)

  outcome_row : (a : Account) (committed completed : Bool) (last : Option Up) → RowOf calls a → RowOf calls (hears_outcome a committed completed last)
  outcome_row a committed completed None row = row
  outcome_row a committed completed (Some (up.Outcome x)) row = row
  outcome_row a committed completed (Some up.Connect) row = row
  outcome_row a committed completed (Some (up.Begin settings)) row = row
  outcome_row a committed completed (Some (up.Call mark kept call)) row = row
  outcome_row a committed completed (Some up.End) row = row
  outcome_row a committed completed (Some up.Close) row = row

  hears_row : (a : Account) (input : Input) (now : ℕ) (shown : Option Shown) → RowOf calls a → RowOf calls (hears terms a input now shown)
  hears_row a Start now shown row = row
  hears_row a Waiting now shown row = row
  hears_row a (Lent connection x) now shown row = row
  hears_row a (Opened connection) now shown row = row
  hears_row a TryFailed now shown row = row
  hears_row a (Took (down.Hello x) alive) now shown row = row
  hears_row a (Took (down.OutcomeIs committed completed) alive) now shown row = outcome_row a committed completed a.last row
  hears_row a (Took (down.OutcomeRefused why next) alive) now shown row = row
  hears_row a (Took (down.Reply answers draws x) alive) now None row = row
  hears_row a (Took (down.Reply answers draws x) alive) now (Some one) row = row
  hears_row a (Took down.Blocked alive) now shown row = row
  hears_row a (Took (down.Refused cause) alive) now shown row = row
  hears_row a (Gone event) now shown row = row

  begins_row : (a : Account) (begun : Bool) → RowOf calls a → RowOf calls (begins a begun)
  begins_row a true row = row
  begins_row a false row = row

  send_row : (now : ℕ) (a : Account) (frame : Up) → RowOf calls a → RowOf calls (sends terms now a frame)
  send_row now a up.Connect row = row
  send_row now a (up.Begin settings) row = begins_row a a.begun row
  send_row now a (up.Call true kept call) row = row
  send_row now a (up.Call false kept call) row = row
  send_row now a (up.Outcome x) row = row
  send_row now a up.End row = row
  send_row now a up.Close row = row

  sends_row : (now : ℕ) (frames : List Up) (a : Account) → RowOf calls a → RowOf calls (fold (sends terms now) a frames)
  sends_row now [] a row = row
  sends_row now (frame ∷ frames) a row = sends_row now frames (sends terms now a frame) (send_row now a frame row)

  after_row : (a : Account) (done : Done) → RowOf calls a → RowOf calls (after_step terms calls a done)
  after_row a done row =
      sends_row done.now done.act.send (before_sends terms calls a done) (shows_row (hears terms a done.input done.now done.act.shown) done.act.shown (hears_row a done.input done.now done.act.shown row))

  rows_behind : (dones : List Done) (a : Account) → RowOf calls a → RowOf calls (fold (after_step terms calls) a dones)
  rows_behind [] a row = row
  rows_behind (done ∷ dones) a row = rows_behind dones (after_step terms calls a done) (after_row a done row)

  -- Whatever a request did, the calls that are recorded are its own.
  pub account_row : (dones : List Done) → RowOf calls (account_of terms calls dones)
  account_row dones = rows_behind dones unheard (row_none calls 0)
