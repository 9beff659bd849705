-- Each call of a report has the identifier of the item that showed it.
use Rattle.std.proofs.Common.{◌≡◌, refl, sym, ap, subst, ◌∙◌, append-nil, append_assoc, Bool, true, false, ℕ, ◌+◌, length, List, [], ◌∷◌, ◌++◌, map, Option, Some, None, option_to_list}
use Rattle.std.specs.Prelude.{fold, slice_get, option_and_then}
use Rattle.std.specs.List.{list_all}
use Rattle.std.specs.Option.{option_map_or}
use Rattle.std.proofs.lemmas.Bool.{and_parts, and_from}
use Rattle.std.proofs.lemmas.List.{append_cancel_left, map-append}
use Rattle.std.proofs.lemmas.List.Elements.{filter_map-append}
use Rattle.std.proofs.lemmas.List.Folds.{list_all-append}
use Rattle.std.proofs.lemmas.List.Sums.{fold-append}
use Rattle.svc_values.specs.declared.call.Call.{Call}
use Rattle.svc_values.specs.declared.entry.Ltxid.{Ltxid}
use Rattle.svc_values.specs.meaning.Identifiers.{same_ltxid}
use Rattle.client_model.specs.meaning.Account.{Account, unheard, after_step, account_of}
use Rattle.client_model.specs.meaning.Conversation.{Done}
use Rattle.client_model.specs.meaning.Terms.{Terms}
use Rattle.client_model.specs.declared.act.Shown.{Shown}
use Rattle.outage_schedule.specs.declared.document.Document.{Document}
use Rattle.outage_schedule.specs.declared.document.Request.{Request}
use Rattle.outage_schedule.specs.declared.item.Served.{Served}
use Rattle.outage_schedule.specs.declared.report.Report.{Report}
use Rattle.outage_schedule.specs.declared.request.ShownCall.{ShownCall}
use Rattle.run_clauses.specs.meaning.Before.{journal_before}
use Rattle.run_clauses.specs.meaning.EntryEvents.{stored_entries}
use Rattle.run_clauses.specs.meaning.Reports.{shown_call}
use Rattle.shown_clauses.specs.meaning.Parts.{Part, parts_of}
use Rattle.shown_clauses.specs.meaning.Showings.{showing_at, showing_of, is_showing, showings, shown_with, tried_by_call, has_identifier, have_identifiers}
use Rattle.shown_clauses.specs.meaning.Steps.{steps_of}
use Rattle.world_model.specs.meaning.Clients.{Step, Past}
use Rattle.world_model.specs.records.Conversing.{AreThrough}
use Rattle.world_model.specs.meaning.Settings.{Setting}
use Rattle.world_model.specs.Words.{dones_of}
use Rattle.shown_laws.specs.Identified.{identifier_by, shows_under, is_identified, TellsIdentified, CallsAreIdentified, IdentifiersAreStored}
use Rattle.shown_laws.specs.PartsTold.{ArePartsOf, NoParts, OnePart}
use Rattle.shown_laws.specs.Submitted.{submission_of}
use Rattle.shown_laws.specs.ShowingsTold.{AreShownBy, NoneShown, OneShown}
use Rattle.shown_laws.specs.Telling.{steps_told}
use Rattle.shown_laws.specs.Tellings.{Telling, steps_in_tellings, TellsRequest, NoneYet, OneMore, TellsPast, OnePast}
use Rattle.shown_laws.proofs.shown.AccountRead.{new_shown, shown_found, step_reads}
use Rattle.shown_laws.proofs.steps.BeforeSession.{talks_at}
use Rattle.shown_laws.proofs.shown.PartsHold.{IsTold, FinishesStand}
use Rattle.shown_laws.proofs.steps.PartsSplit.{part_gives}
use Rattle.shown_laws.proofs.shown.PartsTold.{parts_told}
use Rattle.shown_laws.proofs.shown.RequestsAdd.{step_adds}
use Rattle.shown_laws.proofs.steps.SessionsReached.{as_list}
use Rattle.shown_laws.proofs.shown.ShowingsHold.{quiet_shows, calls_listed}
use Rattle.shown_laws.proofs.shown.ShownUnder.{is_under}
use Rattle.shown_laws.proofs.shown.StepsAdd.{Adds}

-- WHAT AN ACCOUNT GAINS ---------------------------------------------------------------------------

-- the calls that it has more were shown under this identifier
record Gains (x : Ltxid) (a b : Account) : Type 0 where
  pub more : List Shown
  pub are : b.shown ≡ a.shown ++ more
  pub under : list_all (λ shown. same_ltxid shown.ltxid x) more ≡ true

gains_none : (x : Ltxid) (a b : Account) → b.shown ≡ a.shown → Gains x a b
gains_none x a b same = record { more = []; are = same ∙ sym (append-nil a.shown); under = refl }

gains_then : (x : Ltxid) (a b c : Account) → Gains x a b → Gains x b c → Gains x a c
gains_then x a b c one other = record {
  more = one.more ++ other.more;
  are = other.are ∙ (ap (λ (l : List Shown). l ++ other.more) one.are ∙ append_assoc a.shown one.more other.more);
  under = list_all-append (λ (shown : Shown). same_ltxid shown.ltxid x) one.more other.more ∙ and_from (list_all (λ (shown : Shown). same_ltxid shown.ltxid x) one.more) (list_all (λ (shown : Shown). same_ltxid shown.ltxid x) other.more) one.under other.under;
}

module _ (terms : Terms) (calls : List Call) (x : Ltxid) where
  new_under : (shown : List Shown) (found : Option Shown) → is_under x found ≡ true → list_all (λ one. same_ltxid one.ltxid x) (new_shown calls shown found) ≡ true
  new_under shown None under = refl
  new_under shown (Some one) under = by (slice_get calls (length shown))
    where
      by : (call : Option Call) → list_all (λ other. same_ltxid other.ltxid x) (shown_found one call) ≡ true
      by None = refl
      by (Some call) = and_from (same_ltxid one.ltxid x) true under refl

  done_gains : (a : Account) (done : Done) → is_under x done.act.shown ≡ true → Gains x a (after_step terms calls a done)
  done_gains a done under = record { more = new_shown calls a.shown done.act.shown; are = (step_reads terms calls a done).shown; under = new_under a.shown done.act.shown under }

  steps_gain : (a : Account) (steps : List Step) → list_all (shows_under x) steps ≡ true → Gains x a (fold (after_step terms calls) a (dones_of steps))
  steps_gain a [] all = gains_none x a a refl
  steps_gain a (step ∷ steps) all =
      let parts = and_parts (shows_under x step) (list_all (shows_under x) steps) all in
      let next : Account = after_step terms calls a step.done in
      gains_then x a next (fold (after_step terms calls) next (dones_of steps)) (done_gains a step.done parts.0) (steps_gain next steps parts.1)

  acts_gain : (steps acts : List Step) → list_all (shows_under x) acts ≡ true → Gains x (account_of terms calls (dones_of steps)) (account_of terms calls (dones_of (steps ++ acts)))
  acts_gain steps acts all =
      subst (Gains x (account_of terms calls (dones_of steps))) (sym (ap (account_of terms calls) (map-append (λ (step : Step). step.done) steps acts) ∙ fold-append (after_step terms calls) unheard (dones_of steps) (dones_of acts)))
      (steps_gain (account_of terms calls (dones_of steps)) acts all)

-- SHOWINGS ----------------------------------------------------------------------------------------

-- each of these calls is under the identifier of the item beside it
data AreUnder (name : Served → Ltxid) : List Shown → List Served → Type 0 where
  NoneUnder : AreUnder name [] []
  OneUnder : (shown : Shown) (served : Served) (more : List Shown) (items : List Served) → same_ltxid shown.ltxid (name served) ≡ true → AreUnder name more items → AreUnder name (shown ∷ more) (served ∷ items)

under_append : (name : Served → Ltxid) (xs more : List Shown) (ys items : List Served) → AreUnder name xs ys → AreUnder name more items → AreUnder name (xs ++ more) (ys ++ items)
under_append name _ more _ items NoneUnder rest = rest
under_append name _ more _ items (OneUnder shown served others after is so) rest = OneUnder shown served (others ++ more) (after ++ items) is (under_append name others more after items so rest)

-- what an item shows is under its identifier
module _ (name : Served → Ltxid) where
  one_under : (shown : List Shown) (found : Option Served) → AreShownBy shown (option_to_list found) → ((served : Served) → found ≡ Some served → list_all (λ one. same_ltxid one.ltxid (name served)) shown ≡ true) → AreUnder name shown (option_to_list found)
  one_under _ None NoneShown under = NoneUnder
  one_under _ (Some served) (OneShown shown _ _ _ is NoneShown) under = OneUnder shown served [] [] (and_parts (same_ltxid shown.ltxid (name served)) true (under served refl)).0 NoneUnder

showing_taken : (taken : Option Served) (served : Served) → option_and_then (λ one. showing_of (is_showing one) one) taken ≡ Some served → taken ≡ Some served
showing_taken None served is = absurd (let none : ⊥ = cc in none)
showing_taken (Some one) served is = by (is_showing one) is
  where
    by : (test : Bool) → showing_of test one ≡ Some served → Some one ≡ Some served
    by true is = is
    by false is = absurd (let none : ⊥ = cc in none)

module _ (document : Document) (report : Report) where
  step_under : (setting : Setting) (client place : ℕ) (request : Request) (steps : List Step) (one : Telling) → is_identified document report one ≡ true
      → (adds : Adds (account_of setting.terms request.calls (dones_of steps)) (account_of setting.terms request.calls (dones_of (steps ++ one.acts))) one.step) → AreUnder (identifier_by document report) adds.shown (option_to_list (showing_at one.step))
  step_under setting client place request steps one identified adds =
      one_under (identifier_by document report) adds.shown (showing_at one.step) adds.by_them
      (λ served is.
      let acts : list_all (shows_under (identifier_by document report served)) one.acts ≡ true =
      subst (λ (taken : Option Served). option_map_or (λ s. list_all (shows_under (identifier_by document report s)) one.acts) taken true ≡ true) (showing_taken one.step.taken served is) identified in
      let gains : Gains (identifier_by document report served) (account_of setting.terms request.calls (dones_of steps)) (account_of setting.terms request.calls (dones_of (steps ++ one.acts))) =
      acts_gain setting.terms request.calls (identifier_by document report served) steps one.acts acts in
      subst (λ (l : List Shown). list_all (λ (shown : Shown). same_ltxid shown.ltxid (identifier_by document report served)) l ≡ true)
      (append_cancel_left (account_of setting.terms request.calls (dones_of steps)).shown gains.more adds.shown (sym gains.are ∙ adds.shown_are)) gains.under)

  -- all steps of a request
  request_under : (setting : Setting) (client place : ℕ) (request : Request) (tellings : List Telling) (steps : List Step) → TellsRequest setting client place request tellings steps → list_all (is_identified document report) tellings ≡ true
      → AreUnder (identifier_by document report) (account_of setting.terms request.calls (dones_of steps)).shown (showings (steps_in_tellings tellings))
  request_under setting client place request _ _ NoneYet all = NoneUnder
  request_under setting client place request _ _ (OneMore tellings steps one before tells) all =
      let parts = and_parts (list_all (is_identified document report) tellings) (list_all (is_identified document report) (one ∷ [])) (sym (list_all-append (is_identified document report) tellings (one ∷ [])) ∙ all) in
      let adds = step_adds setting client place request steps one tells in
      subst (AreUnder (identifier_by document report) (account_of setting.terms request.calls (dones_of (steps ++ one.acts))).shown)
      (sym (ap showings (map-append (λ (x : Telling). x.step) tellings (one ∷ [])) ∙ (filter_map-append showing_at (steps_in_tellings tellings) (one.step ∷ []) ∙ ap (λ (l : List Served). showings (steps_in_tellings tellings) ++ l) (as_list (showing_at one.step)))))
      (subst (λ (l : List Shown). AreUnder (identifier_by document report) l (showings (steps_in_tellings tellings) ++ option_to_list (showing_at one.step))) (sym adds.shown_are)
      (under_append (identifier_by document report) (account_of setting.terms request.calls (dones_of steps)).shown adds.shown (showings (steps_in_tellings tellings)) (option_to_list (showing_at one.step))
      (request_under setting client place request tellings steps before parts.0)
      (step_under setting client place request steps one (and_parts (is_identified document report one) true parts.1).0 adds)))

  -- PARTS -----------------------------------------------------------------------------------------

  with_identifiers : (calls : List Call) (tried : List (List Ltxid)) (shown : List Shown) (items : List Served) → AreUnder (identifier_by document report) shown items
      → list_all (has_identifier (journal_before document).entries (stored_entries report)) (shown_with calls tried (map shown_call shown) items) ≡ true
  with_identifiers [] tried shown items are = refl
  with_identifiers (call ∷ calls) [] shown items are = refl
  with_identifiers (call ∷ calls) (ids ∷ tried) _ _ NoneUnder = refl
  with_identifiers (call ∷ calls) (ids ∷ tried) _ _ (OneUnder shown served more items is rest) =
      and_from (same_ltxid shown.ltxid (identifier_by document report served)) (list_all (has_identifier (journal_before document).entries (stored_entries report)) (shown_with calls tried (map shown_call more) items)) is
      (with_identifiers calls tried more items rest)

  part_identified : (setting : Setting) (client place : ℕ) (one : Past) (tellings : List Telling) (part : Part) → IsTold setting client place one tellings part → list_all (is_identified document report) tellings ≡ true
      → have_identifiers (journal_before document).entries (stored_entries report) part ≡ true
  part_identified setting client place one tellings part told all =
      subst (λ (calls : List ShownCall). list_all (has_identifier (journal_before document).entries (stored_entries report)) (shown_with part.submission.request.calls (tried_by_call part.submission.copy) calls (showings part.steps)) ≡ true)
      (sym (calls_listed setting client place one tellings part told))
      (with_identifiers part.submission.request.calls (tried_by_call part.submission.copy) (account_of setting.terms one.request.calls (dones_of one.steps)).shown (showings part.steps)
      (subst (AreUnder (identifier_by document report) (account_of setting.terms one.request.calls (dones_of one.steps)).shown) (sym (part_gives showing_at quiet_shows (steps_in_tellings tellings) part told.parts))
      (request_under setting client place one.request tellings one.steps told.tells all)))

  parts_identified : (setting : Setting) (client place : ℕ) (past : List Past) (told : List (List Telling)) (parts : List Part) → AreThrough setting.terms past → TellsPast setting client place past told → ArePartsOf past told parts
      → list_all (list_all (is_identified document report)) told ≡ true → list_all (have_identifiers (journal_before document).entries (stored_entries report)) parts ≡ true
  parts_identified setting client place _ _ _ through tells NoParts all = refl
  parts_identified setting client _ _ _ _ through (OnePast place _ _ _ _ here after) (OnePart one past tellings more part parts is its rest) all =
      let both = and_parts (list_all (is_identified document report) tellings) (list_all (list_all (is_identified document report)) more) all in
      and_from (have_identifiers (journal_before document).entries (stored_entries report) part) (list_all (have_identifiers (journal_before document).entries (stored_entries report)) parts)
      (part_identified setting client place one tellings part (record { through = through.0; tells = here; is = is; parts = its }) both.0)
      (parts_identified setting client (place + 1) past more parts through.1 after rest both.1)

-- Each line of identifiers.
pub identifiers_stored : FinishesStand → CallsAreIdentified → IdentifiersAreStored
identifiers_stored stands identify document report seen t server client own right is here rests =
    parts_identified document report t.setting client 0 own.past told.tells.past (parts_of (map submission_of own.past) (steps_of client (steps_told report.notes report.served))) through told.tells.tells_past
    (parts_told t.setting client own (steps_of client (steps_told report.notes report.served)) through rests told.tells) told.past
  where
    told : TellsIdentified t.setting (is_identified document report) client own (steps_of client (steps_told report.notes report.served))
    told = identify document report seen t server client own right is here

    through : AreThrough t.setting.terms own.past
    through = (talks_at t.setting.terms t.machine.clients client own (stands document is.run.place report.notes report.served seen t right is.run.finishing).orderly.script.talks here).0
