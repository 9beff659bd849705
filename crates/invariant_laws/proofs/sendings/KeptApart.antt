-- Of Once: two sendings under one identifier are on one connection, and at most one of them is open
-- or committed, at the start and behind each event.
use Rattle.std.proofs.Common.{◌≡◌, refl, sym, ap, subst, ◌∙◌, Bool, true, false, ℕ, ◌+◌, ◌&&◌, ◌||◌, cond, filter, flat_map, fold, length, List, [], ◌∷◌, Some, None}
use Rattle.std.specs.Prelude.{◌==◌, is_some}
use Rattle.std.specs.List.{list_all, list_any}
use Rattle.std.proofs.lemmas.Bool.{and_parts, and_from, or_right}
use Rattle.std.proofs.lemmas.List.Folds.{list_all-append}
use Rattle.svc_values.specs.declared.entry.Ltxid.{Ltxid}
use Rattle.svc_values.specs.meaning.Calls.{has_commit}
use Rattle.world_model.specs.meaning.Clients.{Step}
use Rattle.world_model.specs.meaning.Frames.{Owner}
use Rattle.world_model.specs.Orderly.{Orderly}
use Rattle.world_model.specs.meaning.Machines.{Machine}
use Rattle.world_model.specs.Sames.{all_with, each_pair}
use Rattle.world_model.proofs.Offered.{HasStepped, at_event, scan_by, heard_scan, first_step, eq_from, some_same, weaker_all, leads, or_second, Followed, follow_happens, basic_is_kept}
use Rattle.world_model.specs.records.Basic.{sessions_differ}
use Rattle.world_model.specs.meaning.Links.{Link, link_at}
use Rattle.invariant_laws.specs.Once.{is_on_link, share, are_apart}
use Rattle.world_model.specs.Parts.{Sending, Scan}
use Rattle.world_model.specs.Traced.{Traced}
use Rattle.invariant_laws.proofs.sendings.FateSteps.{IsFated, fated, fated_from}
use Rattle.invariant_laws.proofs.sendings.Fates.{Waits}
use Rattle.invariant_laws.proofs.talks.InPlace.{InPlace, Here, There}
use Rattle.svc_values.specs.declared.call.Call.{Call}
use Rattle.world_model.specs.meaning.Frames.{Sent}
use Rattle.world_model.specs.Parts.{sent_on, out_frame, is_commit_call, is_unmarked_frame}
use Rattle.world_model.specs.Sames.{owned_by}
use Rattle.invariant_laws.proofs.sendings.ApartSteps.{AnsweredAs, NoneNow, LastNow, PushedAs, NoMore, OneMade, pushed_as, made_calls, commits, made_shares, share_turned, with_answered, each_answered, answered_as, none_waits}
use Rattle.invariant_laws.proofs.sendings.FateTops.{all_with_is}
use Rattle.invariant_laws.proofs.losses.LostKept.{both_all}
use Rattle.invariant_laws.proofs.sendings.SendingsMade.{made, Speaks, speaks}
use Rattle.std.proofs.Common.{map}
use Rattle.outage_schedule.specs.declared.document.Client.{Client as Scripted}
use Rattle.world_model.specs.meaning.Clients.{Client, resting}
use Rattle.invariant_laws.specs.KeptLaws.{IsKeptOfAll}
use Rattle.invariant_laws.specs.Once.{all_sendings}
use Rattle.world_model.specs.Parts.{commit_sendings}
use Rattle.world_model.specs.meaning.Settings.{Setting, setting_of}
use Rattle.world_model.specs.Traced.{courses_of_clients}
use Rattle.invariant_laws.proofs.talks.InPlace.{Others, AllBack, OneMore, pairs_in}
use Rattle.invariant_laws.proofs.sendings.KeptFates.{fates_law}
use Rattle.invariant_laws.proofs.sendings.KeptOnLinks.{links_law}
use Rattle.invariant_laws.proofs.talks.Placing.{Moving, Quietly, Stepping, moving}
use Rattle.invariant_laws.proofs.sendings.SendingsPlaced.{in_place}

module _ (t : Traced) (inv : Orderly t) (apart : are_apart t ≡ true) (new : Traced) (differ : sessions_differ new ≡ true) (who : ℕ) (step : HasStepped t.setting (at_event t.machine) who new.machine) where
  abbrev m : Machine
  m = at_event t.machine

  abbrev mine : Owner
  mine = record { client = who; place = length step.client.past }

  abbrev one : Step
  one = first_step t.setting m inv.script.talks who new.machine step

  abbrev sendings : List Sending
  sendings = (scan_by mine step.before.steps).sendings

  abbrev scan_now : Scan
  scan_now = heard_scan t.setting m inv.script.talks who new.machine step

  abbrev before_so_old : Sending → Bool
  before_so_old sending = is_some sending.taken || fated t.machine.links sending

  abbrev now_so : Sending → Bool
  now_so sending = fated new.machine.links sending && is_on_link new sending

  abbrev ok : Sending → Bool
  ok sending = before_so_old sending && now_so sending

  -- one that is made shares its identifier with none of these
  made_vs : list_any is_unmarked_frame one.done.act.send ≡ true → (call : Call) (x : Ltxid) → now_so (made scan_now call x) ≡ true → (other : Sending) → ok other ≡ true → share (made scan_now call x) other ≡ true
  made_vs calls call x mine_so other okay =
      made_shares new differ (made scan_now call x) other mine_parts.1 now_parts.1 mine_parts.0 now_parts.0 refl alone
    where
      mine_parts : (fated new.machine.links (made scan_now call x) ≡ true) × (is_on_link new (made scan_now call x) ≡ true)
      mine_parts = and_parts (fated new.machine.links (made scan_now call x)) (is_on_link new (made scan_now call x)) mine_so

      both : (before_so_old other ≡ true) × (now_so other ≡ true)
      both = and_parts (before_so_old other) (now_so other) okay

      now_parts : (fated new.machine.links other ≡ true) × (is_on_link new other ≡ true)
      now_parts = and_parts (fated new.machine.links other) (is_on_link new other) both.1

      old_fated : other.taken ≡ None → fated t.machine.links other ≡ true
      old_fated none = or_second (is_some other.taken) (fated t.machine.links other) (ap is_some none) both.0

      alone : scan_now.connection ≡ other.connection → other.taken ≡ None → (link : Link) → link_at new.machine.links other.connection ≡ Some link → Waits other link → ⊥
      alone same none link there waits =
          none_waits t inv apart new who step calls other (old_fated none) none (spoke.has ∙ ap Some (sym (leads t.setting m inv.script.talks who new.machine step spoke.connection spoke.has) ∙ same)) place
        where
          spoke : Speaks t inv who new.machine step
          spoke = speaks t inv who new.machine step calls

          at : IsFated new.machine.links (made scan_now call x)
          at = fated_from new.machine.links (made scan_now call x) mine_parts.0

          its : Waits (made scan_now call x) at.link
          its = at.fate.waits refl

          one_link : at.link ≡ link
          one_link = some_same (link_at new.machine.links other.connection) at.link link (subst (λ (k : ℕ). link_at new.machine.links k ≡ Some at.link) same at.there) there

          place : other.at ≡ scan_now.shown
          place =
              let frames : Some its.frame ≡ Some waits.frame = sym its.last ∙ (ap out_frame one_link ∙ waits.last) in
              let frame : its.frame ≡ waits.frame = cc in
              let first : its.frame.call ≡ scan_now.shown = eq_from its.frame.call scan_now.shown (and_parts (owned_by scan_now.owner its.frame) (its.frame.call == scan_now.shown) (and_parts (is_commit_call its.frame) (owned_by scan_now.owner its.frame && (its.frame.call == scan_now.shown)) its.is).1).1 in
              let second : waits.frame.call ≡ other.at = eq_from waits.frame.call other.at (and_parts (owned_by other.owner waits.frame) (waits.frame.call == other.at) (and_parts (is_commit_call waits.frame) (owned_by other.owner waits.frame && (waits.frame.call == other.at)) waits.is).1).1 in
              sym second ∙ (ap (λ (s : Sent). s.call) (sym frame) ∙ first)

  -- those before, where they are answered
  pub answered_old : (old list : List Sending) → AnsweredAs old list → list_all (fated t.machine.links) (filter commits old) ≡ true → list_all before_so_old (filter commits list) ≡ true
  answered_old _ _ (NoneNow list) all = weaker_all (fated t.machine.links) before_so_old (filter commits list) (λ sending here. or_right (is_some sending.taken) (fated t.machine.links sending) here) all
  answered_old _ _ (LastNow top rest answers none) all = by (has_commit top.call) all
    where
      rest_so : list_all (fated t.machine.links) (filter commits rest) ≡ true → list_all before_so_old (filter commits rest) ≡ true
      rest_so here = weaker_all (fated t.machine.links) before_so_old (filter commits rest) (λ sending so. or_right (is_some sending.taken) (fated t.machine.links sending) so) here

      by : (test : Bool) → list_all (fated t.machine.links) (cond test (top ∷ filter commits rest) (filter commits rest)) ≡ true → list_all before_so_old (cond test (record top { taken = Some answers } ∷ filter commits rest) (filter commits rest)) ≡ true
      by false all = rest_so all
      by true all = rest_so (and_parts (fated t.machine.links top) (list_all (fated t.machine.links) (filter commits rest)) all).1

  fits_pushed : (list pushed : List Sending) → PushedAs t inv apart new who step list pushed → list_all now_so (filter commits pushed) ≡ true → (a : Sending) → ok a ≡ true → all_with (share a) (filter commits list) ≡ true → all_with (share a) (filter commits pushed) ≡ true
  fits_pushed list _ NoMore now a okay all = all
  fits_pushed list _ (OneMade began settings call x sends keeps under) now a okay all = by (has_commit call) now
    where
      by : (test : Bool) → list_all now_so (cond test (made scan_now call x ∷ filter commits list) (filter commits list)) ≡ true → all_with (share a) (cond test (made scan_now call x ∷ filter commits list) (filter commits list)) ≡ true
      by false now = all
      by true now =
          and_from (share a (made scan_now call x)) (all_with (share a) (filter commits list))
          (share_turned (made scan_now call x) a (made_vs (made_calls t inv apart new who step began settings call sends) call x (and_parts (now_so (made scan_now call x)) (list_all now_so (filter commits list)) now).0 a okay)) all

  pairs_pushed : (list pushed : List Sending) → PushedAs t inv apart new who step list pushed → list_all now_so (filter commits pushed) ≡ true → list_all before_so_old (filter commits list) ≡ true → each_pair share (filter commits list) ≡ true → each_pair share (filter commits pushed) ≡ true
  pairs_pushed list _ NoMore now old pairs = pairs
  pairs_pushed list _ (OneMade began settings call x sends keeps under) now old pairs = by (has_commit call) now
    where
      by : (test : Bool) → list_all now_so (cond test (made scan_now call x ∷ filter commits list) (filter commits list)) ≡ true → each_pair share (cond test (made scan_now call x ∷ filter commits list) (filter commits list)) ≡ true
      by false now = pairs
      by true now =
          let parts = and_parts (now_so (made scan_now call x)) (list_all now_so (filter commits list)) now in
          and_from (all_with (share (made scan_now call x)) (filter commits list)) (each_pair share (filter commits list))
          (all_with_is (share (made scan_now call x)) (filter commits list)
          ∙ weaker_all ok (share (made scan_now call x)) (filter commits list) (λ other okay. made_vs (made_calls t inv apart new who step began settings call sends) call x parts.0 other okay) (both_all before_so_old now_so (filter commits list) old parts.1)) pairs

  -- ALL REQUESTS ----------------------------------------------------------------------------------

  abbrev mine_old : List Sending
  mine_old = filter commits sendings

  abbrev mine_new : List Sending
  mine_new = filter commits (fold (sent_on scan_now) scan_now.sendings one.done.act.send)

  in_parts : (P Q : Sending → Bool) (a b old now : List Sending) → InPlace a b old now → list_all P old ≡ true → list_all Q now ≡ true → (list_all P a ≡ true) × (list_all Q b ≡ true)
  in_parts P Q a b _ _ (Here back) olds nows =
      ((and_parts (list_all P a) (list_all P back) (sym (list_all-append P a back) ∙ olds)).0, (and_parts (list_all Q b) (list_all Q back) (sym (list_all-append Q b back) ∙ nows)).0)
  in_parts P Q a b _ _ (There x old now is) olds nows = in_parts P Q a b old now is (and_parts (P x) (list_all P old) olds).1 (and_parts (Q x) (list_all Q now) nows).1

  pub step_apart : list_all (fated t.machine.links) (all_sendings t) ≡ true → list_all now_so (flat_map commit_sendings (courses_of_clients t.setting 1 new.machine.clients)) ≡ true
      → each_pair share (flat_map commit_sendings (courses_of_clients t.setting 1 new.machine.clients)) ≡ true
  step_apart olds nows = pairs_in share share_turned ok mine_old mine_new fits own (all_sendings t) after_all (others (all_sendings t) after_all (in_place t inv new who step) olds nows) apart
    where
      after_all : List Sending
      after_all = flat_map commit_sendings (courses_of_clients t.setting 1 new.machine.clients)

      parts : (list_all (fated t.machine.links) mine_old ≡ true) × (list_all now_so mine_new ≡ true)
      parts = in_parts (fated t.machine.links) now_so mine_old mine_new (all_sendings t) (flat_map commit_sendings (courses_of_clients t.setting 1 new.machine.clients)) (in_place t inv new who step) olds nows

      fits : (a : Sending) → ok a ≡ true → all_with (share a) mine_old ≡ true → all_with (share a) mine_new ≡ true
      fits a okay all =
          fits_pushed scan_now.sendings (fold (sent_on scan_now) scan_now.sendings one.done.act.send) (pushed_as t inv apart new who step) parts.1 a okay (with_answered a sendings scan_now.sendings (answered_as t inv apart new who step) all)

      own : each_pair share mine_old ≡ true → each_pair share mine_new ≡ true
      own pairs =
          pairs_pushed scan_now.sendings (fold (sent_on scan_now) scan_now.sendings one.done.act.send) (pushed_as t inv apart new who step) parts.1 (answered_old sendings scan_now.sendings (answered_as t inv apart new who step) parts.0)
          (each_answered sendings scan_now.sendings (answered_as t inv apart new who step) pairs)

      one_ok : (sending : Sending) → fated t.machine.links sending ≡ true → now_so sending ≡ true → ok sending ≡ true
      one_ok sending old now = and_from (before_so_old sending) (now_so sending) (or_right (is_some sending.taken) (fated t.machine.links sending) old) now

      all_ok : (list : List Sending) → list_all (fated t.machine.links) list ≡ true → list_all now_so list ≡ true → list_all ok list ≡ true
      all_ok list old now = weaker_all (λ sending. fated t.machine.links sending && now_so sending) ok list (λ sending both. let two = and_parts (fated t.machine.links sending) (now_so sending) both in one_ok sending two.0 two.1) (both_all (fated t.machine.links) now_so list old now)

      others : (old now : List Sending) → InPlace mine_old mine_new old now → list_all (fated t.machine.links) old ≡ true → list_all now_so now ≡ true → Others share share_turned ok mine_old mine_new fits own old now
      others _ _ (Here back) olds nows =
          AllBack back (all_ok back (and_parts (list_all (fated t.machine.links) mine_old) (list_all (fated t.machine.links) back) (sym (list_all-append (fated t.machine.links) mine_old back) ∙ olds)).1
          (and_parts (list_all now_so mine_new) (list_all now_so back) (sym (list_all-append now_so mine_new back) ∙ nows)).1)
      others _ _ (There x old now is) olds nows =
          let a = and_parts (fated t.machine.links x) (list_all (fated t.machine.links) old) olds in
          let b = and_parts (now_so x) (list_all now_so now) nows in
          OneMore x old now (one_ok x a.0 b.0) (others old now is a.1 b.1)

-- EVENTS ------------------------------------------------------------------------------------------

none_yet : (setting : Setting) (number : ℕ) (all : List Scripted) → flat_map commit_sendings (courses_of_clients setting number (map (λ (one : Scripted). resting one.requests []) all)) ≡ []
none_yet setting number [] = refl
none_yet setting number (scripted ∷ all) = none_yet setting (number + 1) all

by_step : (t : Traced) (inv : Orderly t) (apart : are_apart t ≡ true) (new : Traced) → sessions_differ new ≡ true → Moving t.setting (at_event t.machine) new.machine → list_all (fated t.machine.links) (all_sendings t) ≡ true
    → list_all (λ sending. fated new.machine.links sending && is_on_link new sending) (flat_map commit_sendings (courses_of_clients t.setting 1 new.machine.clients)) ≡ true → each_pair share (flat_map commit_sendings (courses_of_clients t.setting 1 new.machine.clients)) ≡ true
by_step t inv apart new differ (Quietly same stays) olds nows = subst (λ (clients : List Client). each_pair share (flat_map commit_sendings (courses_of_clients t.setting 1 clients)) ≡ true) (sym same) apart
by_step t inv apart new differ (Stepping who step) olds nows = step_apart t inv apart new differ who step olds nows

pub apart_law : IsKeptOfAll are_apart
apart_law = record {
  at_start = λ document. ap (each_pair share) (none_yet (setting_of document) 1 document.clients);
  at_event = λ before after old new event note items left one inv.
      let by : Followed old.setting old.machine event note items left new.machine = follow_happens old.setting old.machine event note items left new.machine one.follows in
      let nows : list_all (λ sending. fated new.machine.links sending && is_on_link new sending) (all_sendings new) ≡ true =
      both_all (fated new.machine.links) (is_on_link new) (all_sendings new) (fates_law.at_event before after old new event note items left one inv) (links_law.at_event before after old new event note items left one inv.orderly inv.once.links) in
      subst (λ (setting : Setting). each_pair share (flat_map commit_sendings (courses_of_clients setting 1 new.machine.clients)) ≡ true) (sym one.setting)
      (by_step old inv.orderly inv.once.apart new (basic_is_kept before after old new event note items left one inv.orderly).apart (moving old.setting (at_event old.machine) items left by.kind new.machine by.happens) inv.once.fates
      (subst (λ (setting : Setting). list_all (λ sending. fated new.machine.links sending && is_on_link new sending) (flat_map commit_sendings (courses_of_clients setting 1 new.machine.clients)) ≡ true) one.setting nows));
}
