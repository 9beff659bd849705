-- What an account tells of calls that were shown and of outcomes can be read off the steps.
use Rattle.std.proofs.Common.{◌≡◌, refl, sym, ap, ◌∙◌, append-nil, Bool, true, false, ℕ, length, List, [], ◌∷◌, ◌++◌, Option, Some, None}
use Rattle.std.specs.Prelude.{fold, slice_get}
use Rattle.svc_values.specs.declared.answer.Answer.{Answer}
use Rattle.svc_values.specs.declared.call.Call.{Call}
use Rattle.svc_values.specs.declared.entry.Ltxid.{Ltxid}
use Rattle.svc_values.specs.declared.frame.Down.TheVariants as down
use Rattle.svc_values.specs.declared.frame.Up.{Up}
use Rattle.svc_values.specs.declared.frame.Up.TheVariants as up
use Rattle.client_model.specs.meaning.Account.{Account, Outcome, hears, hears_outcome, hears_reply, shows, shows_found, sends, begins, before_sends, after_step}
use Rattle.client_model.specs.meaning.Conversation.{Done}
use Rattle.client_model.specs.meaning.Terms.{Terms}
use Rattle.client_model.specs.declared.act.Shown.{Shown}
use Rattle.client_model.specs.declared.input.Input.{Input}
use Rattle.client_model.specs.declared.input.Input.TheVariants.{Waiting, Lent, Opened, TryFailed, Took, Gone}

-- the outcome that an input tells
abbrev pub told_of_asked : Bool → Bool → Option Up → List Outcome
told_of_asked committed completed (Some (up.Outcome asked)) = record { ltxid = asked; committed = committed; completed = completed } ∷ []
told_of_asked committed completed _ = []

abbrev pub new_outcomes : Input → Option Up → List Outcome
new_outcomes (Took (down.OutcomeIs committed completed) alive) last = told_of_asked committed completed last
new_outcomes _ last = []

-- the call that is shown, where one is left
abbrev pub shown_found : Shown → Option Call → List Shown
shown_found shown None = []
shown_found shown (Some call) = shown ∷ []

abbrev pub new_shown : List Call → List Shown → Option Shown → List Shown
new_shown calls before None = []
new_shown calls before (Some shown) = shown_found shown (slice_get calls (length before))

module _ (terms : Terms) (calls : List Call) where
  -- SENDING ---------------------------------------------------------------------------------------

  begin_shown : (a : Account) (test : Bool) → (begins a test).shown ≡ a.shown
  begin_shown a true = refl
  begin_shown a false = refl

  begin_outcomes : (a : Account) (test : Bool) → (begins a test).outcomes ≡ a.outcomes
  begin_outcomes a true = refl
  begin_outcomes a false = refl

  one_shown : (now : ℕ) (a : Account) (frame : Up) → (sends terms now a frame).shown ≡ a.shown
  one_shown now a (up.Begin settings) = begin_shown a a.begun
  one_shown now a (up.Call false kept call) = refl
  one_shown now a (up.Call true kept call) = refl
  one_shown now a _ = refl

  one_outcomes : (now : ℕ) (a : Account) (frame : Up) → (sends terms now a frame).outcomes ≡ a.outcomes
  one_outcomes now a (up.Begin settings) = begin_outcomes a a.begun
  one_outcomes now a (up.Call false kept call) = refl
  one_outcomes now a (up.Call true kept call) = refl
  one_outcomes now a _ = refl

  sent_shown : (now : ℕ) (frames : List Up) (a : Account) → (fold (sends terms now) a frames).shown ≡ a.shown
  sent_shown now [] a = refl
  sent_shown now (frame ∷ frames) a = sent_shown now frames (sends terms now a frame) ∙ one_shown now a frame

  sent_outcomes : (now : ℕ) (frames : List Up) (a : Account) → (fold (sends terms now) a frames).outcomes ≡ a.outcomes
  sent_outcomes now [] a = refl
  sent_outcomes now (frame ∷ frames) a = sent_outcomes now frames (sends terms now a frame) ∙ one_outcomes now a frame

  -- HEARING ---------------------------------------------------------------------------------------

  pub record Hears (a b : Account) (outcomes : List Outcome) : Type 0 where
    pub shown : b.shown ≡ a.shown
    pub outcomes_are : b.outcomes ≡ a.outcomes ++ outcomes

  hears_asked : (a : Account) (committed completed : Bool) (last : Option Up) → Hears a (hears_outcome a committed completed last) (told_of_asked committed completed last)
  hears_asked a committed completed None = record { shown = refl; outcomes_are = sym (append-nil a.outcomes) }
  hears_asked a committed completed (Some (up.Outcome asked)) = record { shown = refl; outcomes_are = refl }
  hears_asked a committed completed (Some _) = record { shown = refl; outcomes_are = sym (append-nil a.outcomes) }

  hears_answer : (a : Account) (answers : List Answer) (ltxid : Ltxid) (shown : Option Shown) → Hears a (hears_reply terms a answers ltxid shown) []
  hears_answer a answers ltxid None = record { shown = refl; outcomes_are = sym (append-nil a.outcomes) }
  hears_answer a answers ltxid (Some shown) = record { shown = refl; outcomes_are = sym (append-nil a.outcomes) }

  hears_input : (a : Account) (input : Input) (now : ℕ) (shown : Option Shown) → Hears a (hears terms a input now shown) (new_outcomes input a.last)
  hears_input a (Took (down.OutcomeIs committed completed) alive) now shown = hears_asked a committed completed a.last
  hears_input a (Took (down.Reply answers draws ltxid) alive) now shown = hears_answer a answers ltxid shown
  hears_input a Waiting now shown = record { shown = refl; outcomes_are = sym (append-nil a.outcomes) }
  hears_input a TryFailed now shown = record { shown = refl; outcomes_are = sym (append-nil a.outcomes) }
  hears_input a (Opened connection) now shown = record { shown = refl; outcomes_are = sym (append-nil a.outcomes) }
  hears_input a (Lent connection ltxid) now shown = record { shown = refl; outcomes_are = sym (append-nil a.outcomes) }
  hears_input a (Took (down.Hello ltxid) alive) now shown = record { shown = refl; outcomes_are = sym (append-nil a.outcomes) }
  hears_input a (Gone event) now shown = record { shown = refl; outcomes_are = sym (append-nil a.outcomes) }
  hears_input a _ now shown = record { shown = refl; outcomes_are = sym (append-nil a.outcomes) }

  -- SHOWING ---------------------------------------------------------------------------------------

  pub record Shows (a b : Account) (shown : List Shown) : Type 0 where
    pub shown_are : b.shown ≡ a.shown ++ shown
    pub outcomes : b.outcomes ≡ a.outcomes

  found_shows : (a : Account) (shown : Shown) (found : Option Call) → Shows a (shows_found terms a shown found) (shown_found shown found)
  found_shows a shown None = record { shown_are = sym (append-nil a.shown); outcomes = refl }
  found_shows a shown (Some call) = record { shown_are = refl; outcomes = refl }

  shows_it : (a : Account) (shown : Option Shown) → Shows a (shows terms calls a shown) (new_shown calls a.shown shown)
  shows_it a None = record { shown_are = sym (append-nil a.shown); outcomes = refl }
  shows_it a (Some shown) = found_shows a shown (slice_get calls (length a.shown))

  -- ONE STEP --------------------------------------------------------------------------------------

  pub record Reads (a b : Account) (done : Done) : Type 0 where
    pub shown : b.shown ≡ a.shown ++ new_shown calls a.shown done.act.shown
    pub outcomes : b.outcomes ≡ a.outcomes ++ new_outcomes done.input a.last

  pub step_reads : (a : Account) (done : Done) → Reads a (after_step terms calls a done) done
  step_reads a done = record {
    shown = sent_shown done.now done.act.send before ∙ (showing.shown_are ∙ ap (λ (l : List Shown). l ++ new_shown calls l done.act.shown) hearing.shown);
    outcomes = sent_outcomes done.now done.act.send before ∙ (showing.outcomes ∙ hearing.outcomes_are);
  }
    where
      heard : Account
      heard = hears terms a done.input done.now done.act.shown

      before : Account
      before = before_sends terms calls a done

      hearing : Hears a heard (new_outcomes done.input a.last)
      hearing = hears_input a done.input done.now done.act.shown

      showing : Shows heard before (new_shown calls heard.shown done.act.shown)
      showing = shows_it heard done.act.shown
