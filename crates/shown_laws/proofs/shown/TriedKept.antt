-- A call that a request sent stays among its sendings, and where it was shown as committed its
-- identifier is in the list of its transaction.
use Rattle.std.proofs.Common.{◌≡◌, refl, sym, ap, subst, ◌∙◌, Bool, true, false, ℕ, ◌+◌, ◌<◌, ◌&&◌, cond, fold, filter, length, List, [], ◌∷◌, ◌++◌, map, Option, Some, None, is_some, ◌⊎◌, inl, inr}
use Rattle.std.specs.Prelude.{◌==◌, slice_get}
use Rattle.std.specs.List.{list_all, list_any}
use Rattle.std.specs.Option.{option_map_or, option_or}
use Rattle.std.proofs.lemmas.Bool.{and_parts, and_from, or_cases, or_left, or_right}
use Rattle.std.proofs.lemmas.List.Sums.{fold-append}
use Rattle.svc_values.specs.declared.answer.Answer.{Answer}
use Rattle.svc_values.specs.declared.entry.Ltxid.{Ltxid}
use Rattle.svc_values.specs.declared.frame.Down.TheVariants as down
use Rattle.svc_values.specs.declared.frame.Up.{Up}
use Rattle.svc_values.specs.declared.frame.Up.TheVariants as up
use Rattle.svc_values.specs.meaning.Calls.{has_commit}
use Rattle.svc_values.specs.meaning.Endings.{ends_committed}
use Rattle.svc_values.specs.meaning.Identifiers.{same_ltxid}
use Rattle.svc_values.specs.meaning.Same.{same_answers}
use Rattle.svc_values.specs.SameLaws.{same_answers_decide}
use Rattle.client_model.specs.declared.act.Shown.{Shown}
use Rattle.client_model.specs.declared.input.Input.{Input}
use Rattle.client_model.specs.declared.input.Input.TheVariants.{Start, Waiting, Lent, Opened, TryFailed, Took, Gone}
use Rattle.outage_schedule.specs.declared.request.Outcome.{Outcome}
use Rattle.outage_schedule.specs.declared.request.ShownCall.{ShownCall}
use Rattle.run_clauses.specs.Tried.{Sending as Tried, may_have_committed}
use Rattle.shown_clauses.specs.meaning.Showings.{tried_by_call}
use Rattle.world_model.specs.meaning.Clients.{Step}
use Rattle.world_model.specs.meaning.Links.{told_by}
use Rattle.invariant_laws.specs.Once.{is_known, is_untold, reverse_onto, shows_at, tells_tried, tried_one}
use Rattle.world_model.specs.Parts.{Scan, Sending, answered, commit_sendings, scanned, sendings_of, sent_on, with_taken}
use Rattle.world_model.specs.Traced.{Course}
use Rattle.world_model.specs.Words.{brought}
use Rattle.shown_laws.proofs.events.Lookups.{eq_from}
use Rattle.shown_laws.proofs.shown.TriedLists.{HasList, is_sent_at, call_tried}

-- a commit of this place, under this identifier
abbrev pub is_commit_at : ℕ → Ltxid → Sending → Bool
is_commit_at place x sending = (sending.at == place) && (same_ltxid x sending.ltxid && has_commit sending.call)

-- IT STAYS ----------------------------------------------------------------------------------------

module _ (place : ℕ) (x : Ltxid) where
  abbrev IsThere : List Sending → Type 0
  IsThere all = list_any (is_commit_at place x) all ≡ true

  taken_stays : (answers : List Answer) (all : List Sending) → IsThere all → IsThere (with_taken answers all)
  taken_stays answers [] is = is
  taken_stays answers (one ∷ all) is = is

  answered_stays : (input : Input) (shown : Option Shown) (all : List Sending) → IsThere all → IsThere (answered input shown all)
  answered_stays (Took (down.Reply answers draws y) alive) (Some shown) all is = taken_stays answers all is
  answered_stays (Took (down.Reply answers draws y) alive) None all is = is
  answered_stays (Took (down.Hello y) alive) shown all is = is
  answered_stays (Took (down.OutcomeIs committed completed) alive) shown all is = is
  answered_stays (Took (down.OutcomeRefused why next) alive) shown all is = is
  answered_stays (Took down.Blocked alive) shown all is = is
  answered_stays (Took (down.Refused cause) alive) shown all is = is
  answered_stays Start shown all is = is
  answered_stays Waiting shown all is = is
  answered_stays (Lent connection y) shown all is = is
  answered_stays (Opened connection) shown all is = is
  answered_stays TryFailed shown all is = is
  answered_stays (Gone event) shown all is = is

  sent_stays : (scan : Scan) (held : Option Ltxid) (all : List Sending) (frame : Up) → scan.held ≡ held → IsThere all → IsThere (sent_on scan all frame)
  sent_stays scan None all (up.Call false kept call) has is = subst (λ (o : Option Ltxid). IsThere (option_map_or (λ y. record { owner = scan.owner; connection = scan.connection; ltxid = y; at = scan.shown; call = call; taken = None } ∷ all) o all)) (sym has) is
  sent_stays scan (Some y) all (up.Call false kept call) has is =
      subst (λ (o : Option Ltxid). IsThere (option_map_or (λ z. record { owner = scan.owner; connection = scan.connection; ltxid = z; at = scan.shown; call = call; taken = None } ∷ all) o all)) (sym has)
      (or_right (is_commit_at place x (record { owner = scan.owner; connection = scan.connection; ltxid = y; at = scan.shown; call = call; taken = None })) (list_any (is_commit_at place x) all) is)
  sent_stays scan held all (up.Call true kept call) has is = is
  sent_stays scan held all up.Connect has is = is
  sent_stays scan held all (up.Begin settings) has is = is
  sent_stays scan held all (up.Outcome y) has is = is
  sent_stays scan held all up.End has is = is
  sent_stays scan held all up.Close has is = is

  frames_stay : (scan : Scan) (frames : List Up) (all : List Sending) → IsThere all → IsThere (fold (sent_on scan) all frames)
  frames_stay scan [] all is = is
  frames_stay scan (frame ∷ frames) all is = frames_stay scan frames (sent_on scan all frame) (sent_stays scan scan.held all frame refl is)

  -- before its frames go out
  abbrev heard_by : Scan → Step → Scan
  heard_by scan step = record {
    owner = scan.owner;
    connection = option_map_or (λ number. number) (brought step.done.input) scan.connection;
    held = option_or (told_by step.done.input) scan.held;
    shown = scan.shown + cond (is_some step.done.act.shown) 1 0;
    sendings = answered step.done.input step.done.act.shown scan.sendings;
  }

  step_stays : (scan : Scan) (step : Step) → IsThere scan.sendings → IsThere (scanned scan step).sendings
  step_stays scan step is = frames_stay (heard_by scan step) step.done.act.send (answered step.done.input step.done.act.shown scan.sendings) (answered_stays step.done.input step.done.act.shown scan.sendings is)

  steps_stay : (scan : Scan) (steps : List Step) → IsThere scan.sendings → IsThere (fold scanned scan steps).sendings
  steps_stay scan [] is = is
  steps_stay scan (step ∷ steps) is = steps_stay (scanned scan step) steps (step_stays scan step is)

  -- Behind further steps of its request it is among the sendings still.
  pub sending_stays : (scan : Scan) (steps more : List Step) → IsThere (fold scanned scan steps).sendings → IsThere (fold scanned scan (steps ++ more)).sendings
  sending_stays scan steps more is = ap (λ (s : Scan). list_any (is_commit_at place x) s.sendings) (fold-append scanned scan steps more) ∙ steps_stay (fold scanned scan steps) more is

-- ITS LIST ----------------------------------------------------------------------------------------

module _ (blocked : List Ltxid) (shown : List ShownCall) (outcomes : List Outcome) (place : ℕ) (x : Ltxid) (committed : shows_at ends_committed shown place ≡ true) where
  taken_ends : (answers : List Answer) (found : Option ShownCall) → option_map_or (λ call. same_answers answers call.answers) found false ≡ true → option_map_or (λ call. ends_committed call.answers) found false ≡ true → ends_committed answers ≡ true
  taken_ends answers None same ends = absurd (let none : ⊥ = cc in none)
  taken_ends answers (Some call) same ends = ap ends_committed ((same_answers_decide answers call.answers).0 same) ∙ ends

  may_be : (sending : Sending) (taken : Option (List Answer)) → sending.taken ≡ taken → is_commit_at place x sending ≡ true → option_map_or (λ answers. shows_at (same_answers answers) shown sending.at) taken (is_untold blocked shown outcomes sending) ≡ true
      → is_sent_at place x (tried_one sending) ≡ true
  may_be sending taken has is known =
      and_from (sending.at == place) (same_ltxid x sending.ltxid && may_have_committed (tried_one sending)) both.0
      (and_from (same_ltxid x sending.ltxid) (may_have_committed (tried_one sending)) parts.0
      (and_from (has_commit sending.call) (option_map_or ends_committed sending.taken true) parts.1 (ap (λ (o : Option (List Answer)). option_map_or ends_committed o true) has ∙ by taken known)))
    where
      both : ((sending.at == place) ≡ true) × ((same_ltxid x sending.ltxid && has_commit sending.call) ≡ true)
      both = and_parts (sending.at == place) (same_ltxid x sending.ltxid && has_commit sending.call) is

      parts : (same_ltxid x sending.ltxid ≡ true) × (has_commit sending.call ≡ true)
      parts = and_parts (same_ltxid x sending.ltxid) (has_commit sending.call) both.1

      by : (found : Option (List Answer)) → option_map_or (λ answers. shows_at (same_answers answers) shown sending.at) found (is_untold blocked shown outcomes sending) ≡ true → option_map_or ends_committed found true ≡ true
      by None told = refl
      by (Some answers) told = taken_ends answers (slice_get shown place) (subst (λ (n : ℕ). shows_at (same_answers answers) shown n ≡ true) (eq_from sending.at place both.0) told) committed

  sent_any : (all : List Sending) → list_all (is_known blocked shown outcomes) (filter (λ sending. has_commit sending.call) all) ≡ true → list_any (is_commit_at place x) all ≡ true → list_any (λ sending. is_sent_at place x (tried_one sending)) all ≡ true
  sent_any [] known any = absurd (let none : ⊥ = cc in none)
  sent_any (one ∷ all) known any = by (or_cases (is_commit_at place x one) (list_any (is_commit_at place x) all) any) (has_commit one.call) refl known (λ later. sent_any all later)
    where
      Rest : Type 0
      Rest = list_all (is_known blocked shown outcomes) (filter (λ sending. has_commit sending.call) all) ≡ true → list_any (is_commit_at place x) all ≡ true → list_any (λ sending. is_sent_at place x (tried_one sending)) all ≡ true

      by : (is_commit_at place x one ≡ true) ⊎ (list_any (is_commit_at place x) all ≡ true) → (kept : Bool) → has_commit one.call ≡ kept
          → list_all (is_known blocked shown outcomes) (cond kept (one ∷ filter (λ sending. has_commit sending.call) all) (filter (λ sending. has_commit sending.call) all)) ≡ true → Rest → list_any (λ sending. is_sent_at place x (tried_one sending)) (one ∷ all) ≡ true
      by (inl mine) true is all_known rest =
          or_left (is_sent_at place x (tried_one one)) _
          (may_be one one.taken refl mine (and_parts (is_known blocked shown outcomes one) (list_all (is_known blocked shown outcomes) (filter (λ sending. has_commit sending.call) all)) all_known).0)
      by (inl mine) false is all_known rest =
          let commits : has_commit one.call ≡ true = (and_parts (same_ltxid x one.ltxid) (has_commit one.call) (and_parts (one.at == place) (same_ltxid x one.ltxid && has_commit one.call) mine).1).1 in
          absurd (let both : false ≡ true = sym is ∙ commits in let none : ⊥ = cc in none)
      by (inr others) true is all_known rest =
          or_right (is_sent_at place x (tried_one one)) _ (rest (and_parts (is_known blocked shown outcomes one) (list_all (is_known blocked shown outcomes) (filter (λ sending. has_commit sending.call) all)) all_known).1 others)
      by (inr others) false is all_known rest = or_right (is_sent_at place x (tried_one one)) _ (rest all_known others)

reversed_any : (test : Tried → Bool) (all done : List Sending) → (list_any (λ sending. test (tried_one sending)) all ≡ true) ⊎ (list_any test (map tried_one done) ≡ true) → list_any test (map tried_one (reverse_onto all done)) ≡ true
reversed_any test [] done (inl never) = absurd (let none : ⊥ = cc in none)
reversed_any test [] done (inr is) = is
reversed_any test (one ∷ all) done either = reversed_any test all (one ∷ done) (by either)
  where
    pick : (test (tried_one one) ≡ true) ⊎ (list_any (λ sending. test (tried_one sending)) all ≡ true) → (list_any (λ sending. test (tried_one sending)) all ≡ true) ⊎ (list_any test (map tried_one (one ∷ done)) ≡ true)
    pick (inl here) = inr (or_left (test (tried_one one)) (list_any test (map tried_one done)) here)
    pick (inr later) = inl later

    by : (list_any (λ sending. test (tried_one sending)) (one ∷ all) ≡ true) ⊎ (list_any test (map tried_one done) ≡ true) → (list_any (λ sending. test (tried_one sending)) all ≡ true) ⊎ (list_any test (map tried_one (one ∷ done)) ≡ true)
    by (inl is) = pick (or_cases (test (tried_one one)) (list_any (λ sending. test (tried_one sending)) all) is)
    by (inr is) = inr (or_right (test (tried_one one)) (list_any test (map tried_one done)) is)

-- The list of a call that was shown as committed has the identifier of each commit that was sent at
-- its place.
pub commit_tried : (blocked : List Ltxid) (course : Course) (place : ℕ) (x : Ltxid) → tells_tried course ≡ true → list_all (is_known blocked course.report.calls course.report.outcomes) (commit_sendings course) ≡ true
    → place < length course.report.calls → shows_at ends_committed course.report.calls place ≡ true → list_any (is_commit_at place x) (sendings_of course) ≡ true → HasList (tried_by_call course.report) place x
commit_tried blocked course place x tried known less committed any =
    call_tried course.report (map tried_one (reverse_onto (sendings_of course) [])) place x tried less
    (reversed_any (is_sent_at place x) (sendings_of course) [] (inl (sent_any blocked course.report.calls course.report.outcomes place x committed (sendings_of course) known any)))
