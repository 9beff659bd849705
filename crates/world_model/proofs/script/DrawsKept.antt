-- A marked call carries the draws that were shown of its call, in each event of a run.
use Rattle.std.proofs.Common.{◌≡◌, refl, sym, ap, subst, Bool, true, false, ℕ, suc, zero, ◌+◌, ◌<◌, ◌&&◌, fold, length, List, [], ◌∷◌, ◌++◌, Option, Some, None, arith}
use Rattle.std.specs.Prelude.{slice_get}
use Rattle.std.specs.List.{list_all}
use Rattle.std.specs.Option.{option_map_or}
use Rattle.std.proofs.lemmas.Bool.{and_parts, and_from}
use Rattle.std.proofs.lemmas.Option.{slice_get_within}
use Rattle.svc_values.specs.declared.draw.Draw.{Draw}
use Rattle.svc_values.specs.declared.frame.Up.{Up}
use Rattle.svc_values.specs.declared.frame.Up.TheVariants as up
use Rattle.svc_values.specs.meaning.Same.{same_draws}
use Rattle.call_recorder.specs.declared.recorded.Recorded.{Recorded}
use Rattle.outage_schedule.specs.declared.request.ShownCall.{ShownCall}
use Rattle.client_model.specs.meaning.Account.{Account}
use Rattle.client_model.specs.meaning.States.{Repeating, next_of}
use Rattle.client_model.specs.meaning.Terms.{Terms, Phase, Replaying}
use Rattle.client_model.specs.meaning.Verifying.{index_of}
use Rattle.client_model.proofs.Offered.{Fits}
use Rattle.world_model.specs.meaning.Clients.{Doing}
use Rattle.world_model.specs.meaning.Frames.{Sent}
use Rattle.world_model.specs.meaning.Links.{Link}
use Rattle.world_model.specs.Parts.{implies}
use Rattle.world_model.specs.Sames.{owned_by}
use Rattle.world_model.specs.records.Script.{has_shown_draws}
use Rattle.world_model.specs.Traced.{Course}
use Rattle.world_model.specs.Words.{dones_of}
use Rattle.world_model.proofs.events.AllLists.{append_all}
use Rattle.world_model.proofs.events.ClientSteps.{Grows, AsBefore, OneMore}
use Rattle.world_model.proofs.script.Recalling.{Recalled, Recalls, account_recalls, get_further}
use Rattle.world_model.proofs.wire.SentLists.{sent_lists, spoken_at, spoken}
use Rattle.world_model.proofs.events.StepFacts.{account_now, FitsNow}

-- LISTS -------------------------------------------------------------------------------------------

module _ (test : Sent → Bool) where
  abbrev pub all_sent_so : List (List Sent) → Bool
  all_sent_so lists = list_all (list_all test) lists

  pub by_links : (links : List Link) → list_all (λ link. list_all test link.sent) links ≡ all_sent_so (sent_lists links)
  by_links [] = refl
  by_links (link ∷ links) = ap (λ (rest : Bool). list_all test link.sent && rest) (by_links links)

  said_at : (lists : List (List Sent)) (index : ℕ) (frames : List Sent) → all_sent_so lists ≡ true → list_all test frames ≡ true → all_sent_so (spoken_at lists index frames) ≡ true
  said_at [] index frames all said = all
  said_at (sent ∷ lists) zero frames all said =
      let parts = and_parts (list_all test sent) (all_sent_so lists) all in and_from (list_all test (sent ++ frames)) (all_sent_so lists) (append_all test sent frames parts.0 said) parts.1
  said_at (sent ∷ lists) (suc index) frames all said =
      let parts = and_parts (list_all test sent) (all_sent_so lists) all in and_from (list_all test sent) (all_sent_so (spoken_at lists index frames)) parts.0 (said_at lists index frames parts.1 said)

  pub said_so : (lists : List (List Sent)) (number : ℕ) (frames : List Sent) → all_sent_so lists ≡ true → list_all test frames ≡ true → all_sent_so (spoken lists number frames) ≡ true
  said_so lists zero frames all said = all
  said_so lists (suc index) frames all said = said_at lists index frames all said

  pub each_said : (frames : List Sent) (lists : List (List Sent)) (numbers : List ℕ) → list_all test frames ≡ true → all_sent_so lists ≡ true → all_sent_so (fold (λ (all : List (List Sent)) (number : ℕ). spoken all number frames) lists numbers) ≡ true
  each_said frames lists [] said all = all
  each_said frames lists (number ∷ numbers) said all = each_said frames (spoken lists number frames) numbers said (said_so lists number frames all said)

  pub grown_so : (lists later : List (List Sent)) → Grows lists later → all_sent_so lists ≡ true → all_sent_so later ≡ true
  grown_so lists _ AsBefore all = all
  grown_so lists _ OneMore all = append_all (list_all test) lists ([] ∷ []) all refl

-- DRAWS -------------------------------------------------------------------------------------------

-- of one frame
abbrev pub carries : Course → Sent → Bool
carries course sent = implies (owned_by course.owner sent) (has_shown_draws course sent.call sent.frame)

found_still : (kept : List Draw) (shown more : List ShownCall) (index : ℕ) → option_map_or (λ (one : ShownCall). same_draws kept one.draws) (slice_get shown index) false ≡ true
    → option_map_or (λ (one : ShownCall). same_draws kept one.draws) (slice_get (shown ++ more) index) false ≡ true
found_still kept shown more index here = by (slice_get shown index) refl here
  where
    by : (found : Option ShownCall) → slice_get shown index ≡ found → option_map_or (λ (one : ShownCall). same_draws kept one.draws) found false ≡ true → option_map_or (λ (one : ShownCall). same_draws kept one.draws) (slice_get (shown ++ more) index) false ≡ true
    by None is here = absurd (let never : ⊥ = cc in never)
    by (Some one) is here = subst (λ (found : Option ShownCall). option_map_or (λ (one : ShownCall). same_draws kept one.draws) found false ≡ true) (sym (get_further shown more index one is)) here

-- where more calls are shown
pub still_shown : (c d : Course) (more : List ShownCall) → d.report.calls ≡ c.report.calls ++ more → (index : ℕ) (frame : Up) → has_shown_draws c index frame ≡ true → has_shown_draws d index frame ≡ true
still_shown c d more same index (up.Call true kept call) here =
    subst (λ (shown : List ShownCall). option_map_or (λ (one : ShownCall). same_draws kept one.draws) (slice_get shown index) false ≡ true) (sym same) (found_still kept c.report.calls more index here)
still_shown c d more same index (up.Call false kept call) here = here
still_shown c d more same index frame here = refl

-- A REPLAY ----------------------------------------------------------------------------------------

-- the recorded call that is repeated next is the one that was shown at its index
pub next_recalled : (terms : Terms) (doing : Doing) (state : Repeating) (one : Recorded) → FitsNow terms doing → doing.talk.phase ≡ Replaying state → next_of state ≡ Some one
    → Recalled (account_now terms doing).shown doing.request.calls (index_of state) one
next_recalled terms doing state one now phase next =
    let account : Account = account_now terms doing in
    let fits : Fits terms doing.request.calls account now.gone (Replaying state) = subst (λ (p : Phase). Fits terms doing.request.calls account now.gone p) phase now.fits in
    let recorded : state.track.recorder.calls ≡ account.since_purge = fits.0.tracked.recorded fits.1.no_reason in
    let recalls : Recalls doing.request.calls account = account_recalls terms doing.request.calls (dones_of doing.steps) in
    let within : state.verified < length state.track.recorder.calls = slice_get_within state.track.recorder.calls state.verified one next in
    let same : length state.track.recorder.calls ≡ length account.since_purge = ap (λ (calls : List Recorded). length calls) recorded in
    let shown : state.track.call ≡ length account.shown = fits.0.tracked.call in
    let long : recalls.before + length account.since_purge ≡ length account.shown = recalls.long in
    let place : recalls.before + state.verified ≡ index_of state = omega arith in
    subst (λ (index : ℕ). Recalled account.shown doing.request.calls index one) place
    (recalls.each state.verified one (subst (λ (calls : List Recorded). slice_get calls state.verified ≡ Some one) recorded next))
