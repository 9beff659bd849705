-- Each request that is over failed with PoolWait alone, and each in course lost no session: this is
-- kept where a request takes a calm input.
use Rattle.std.proofs.Common.{◌≡◌, refl, sym, ap, ◌∙◌, Bool, true, ℕ, suc, zero, ◌&&◌, List, [], ◌∷◌, ◌++◌, map, Option, Some, None}
use Rattle.std.specs.Prelude.{option_and_then}
use Rattle.std.specs.List.{list_all, last_or}
use Rattle.std.specs.Option.{option_map_or, option_or, option_map}
use Rattle.std.proofs.lemmas.Bool.{and_parts, and_from}
use Rattle.std.proofs.lemmas.List.{map-append}
use Rattle.client_model.specs.declared.act.Failed.{Failed}
use Rattle.client_model.specs.declared.act.Failed.TheVariants as failed
use Rattle.client_model.specs.declared.act.Hold.{Hold}
use Rattle.client_model.specs.declared.act.Hold.TheVariants as hold
use Rattle.client_model.specs.meaning.Conversation.{Done}
use Rattle.client_model.specs.meaning.Terms.{Terms}
use Rattle.outage_schedule.specs.declared.document.Request.{Request}
use Rattle.outage_schedule.specs.declared.failure.Failure.{Failure}
use Rattle.run_clauses.specs.meaning.Reports.{failure_of, failed_in}
use Rattle.world_model.specs.meaning.Clients.{Step, Doing, Past, Client, client_at, with_client, begun, doing_of, after_hold, after_step, past_of, resting, script_at}
use Rattle.world_model.specs.meaning.Settings.{Setting}
use Rattle.world_model.proofs.Offered.{at_all, append_all, one_all}
use Rattle.calm_laws.specs.meaning.Calm.{has_waited}
use Rattle.calm_laws.proofs.CalmLinks.{set_all}
use Rattle.calm_laws.proofs.Talks.{is_plain, is_fair}

-- without an error, or with PoolWait
abbrev pub may_end : Option Failure → Bool
may_end None = true
may_end one = has_waited one

abbrev pub is_calm_past : Past → Bool
is_calm_past past = may_end past.report.failed

abbrev pub is_calm_doing : Doing → Bool
is_calm_doing doing = is_plain doing.talk.phase

abbrev pub is_calm_client : Client → Bool
is_calm_client client = list_all is_calm_past client.past && option_map_or is_calm_doing client.now true

-- REPORTS -----------------------------------------------------------------------------------------

last_of : {A : Type 0} (before : Option A) (front : List A) (one : A) → last_or before (front ++ one ∷ []) ≡ Some one
last_of before [] one = refl
last_of before (first ∷ front) one = last_of (Some first) front one

-- a request ends as its last step does
last_failed : (steps : List Step) (one : Step) → failed_in (map (λ step. step.done) (steps ++ one ∷ [])) ≡ one.done.act.failed
last_failed steps one =
    ap failed_in (map-append (λ (step : Step). step.done) steps (one ∷ []))
    ∙ ap (λ (last : Option Done). option_and_then (λ done. done.act.failed) last) (last_of None (map (λ (step : Step). step.done) steps) one.done)

fair_ends : (found : Option Failed) → is_fair found ≡ true → may_end (option_and_then failure_of found) ≡ true
fair_ends None fair = refl
fair_ends (Some (failed.PoolWait first now)) fair = refl
fair_ends (Some (failed.BadPeer tag)) fair = refl
fair_ends (Some other) fair = absurd (let none : ⊥ = cc in none)

past_calm : (terms : Terms) (before after : Doing) (one : Step) → after.steps ≡ before.steps ++ one ∷ [] → is_fair one.done.act.failed ≡ true → is_calm_past (past_of terms after) ≡ true
past_calm terms before after one steps fair =
    ap (λ (all : List Step). may_end (option_and_then failure_of (failed_in (map (λ (step : Step). step.done) all)))) steps
    ∙ (ap (λ (last : Option Failed). may_end (option_and_then failure_of last)) (last_failed before.steps one) ∙ fair_ends one.done.act.failed fair)

-- CLIENTS -----------------------------------------------------------------------------------------

pub client_calm : (clients : List Client) (number : ℕ) (client : Client) → list_all is_calm_client clients ≡ true → client_at clients number ≡ Some client → is_calm_client client ≡ true
client_calm clients zero client all here = absurd (let none : ⊥ = cc in none)
client_calm clients (suc index) client all here = at_all is_calm_client clients index client all here

with_calm : (clients : List Client) (number : ℕ) (client : Client) → list_all is_calm_client clients ≡ true → is_calm_client client ≡ true → list_all is_calm_client (with_client clients number client) ≡ true
with_calm clients zero client all here = all
with_calm clients (suc index) client all here = set_all is_calm_client clients index client all here

-- a request that is new has not begun to talk
pub doing_calm : (terms : Terms) (event tick : ℕ) (client : Client) (doing : Doing) → is_calm_client client ≡ true → doing_of terms event tick client ≡ Some doing → is_calm_doing doing ≡ true
doing_calm terms event tick client doing calm does = by client.now client.next (and_parts (list_all is_calm_past client.past) (option_map_or is_calm_doing client.now true) calm).1 does
  where
    by : (now : Option Doing) (next : Option Request) → option_map_or is_calm_doing now true ≡ true → option_or now (option_map (begun terms event tick) next) ≡ Some doing → is_calm_doing doing ≡ true
    by (Some one) next calm is = let same : one ≡ doing = cc in ap is_calm_doing (sym same) ∙ calm
    by None (Some request) calm is = let same : begun terms event tick request ≡ doing = cc in ap is_calm_doing (sym same)
    by None None calm is = absurd (let none : ⊥ = cc in none)

held_calm : (setting : Setting) (number : ℕ) (client : Client) (before after : Doing) (one : Step) (held : Hold) → after.steps ≡ before.steps ++ one ∷ [] → is_fair one.done.act.failed ≡ true → is_calm_doing after ≡ true → is_calm_client client ≡ true
    → is_calm_client (after_hold setting number client after held) ≡ true
held_calm setting number client before after one held steps fair plain calm = by held
  where
    past : list_all is_calm_past client.past ≡ true
    past = (and_parts (list_all is_calm_past client.past) (option_map_or is_calm_doing client.now true) calm).0

    over : is_calm_client (resting (script_at setting number) (client.past ++ past_of setting.terms after ∷ [])) ≡ true
    over =
        and_from (list_all is_calm_past (client.past ++ past_of setting.terms after ∷ [])) true
        (append_all is_calm_past client.past (past_of setting.terms after ∷ []) past (one_all is_calm_past (past_of setting.terms after) (past_calm setting.terms before after one steps fair))) refl

    by : (held : Hold) → is_calm_client (after_hold setting number client after held) ≡ true
    by hold.Keep = and_from (list_all is_calm_past client.past) (is_calm_doing after) past plain
    by hold.GiveBack = over
    by hold.Drop = over

-- The request takes one step more.
pub step_calm : (setting : Setting) (clients : List Client) (number : ℕ) (before after : Doing) (one : Step) (held : Hold) → after.steps ≡ before.steps ++ one ∷ [] → is_fair one.done.act.failed ≡ true → is_calm_doing after ≡ true
    → list_all is_calm_client clients ≡ true → list_all is_calm_client (after_step setting clients number after held) ≡ true
step_calm setting clients number before after one held steps fair plain all = by (client_at clients number) refl
  where
    by : (found : Option Client) → client_at clients number ≡ found → list_all is_calm_client (option_map_or (λ client. with_client clients number (after_hold setting number client after held)) found clients) ≡ true
    by None here = all
    by (Some client) here = with_calm clients number (after_hold setting number client after held) all (held_calm setting number client before after one held steps fair plain (client_calm clients number client all here))
