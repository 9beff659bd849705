-- How many rounds clients may still take, in documents within their limits.
use Rattle.std.proofs.Common.{◌≡◌, refl, sym, ap, subst, ◌∙◌, Bool, true, false, ℕ, suc, zero, ◌+◌, ◌-◌, ◌*◌, ◌≤◌, ◌&&◌, ◌||◌, length, length-append, drop, map, List, [], ◌∷◌, ◌++◌, Option, Some, None, if◌then◌else◌, arith}
use Rattle.std.specs.Prelude.{◌==◌, not, get_or, slice_get, flat_map, option_map}
use Rattle.std.specs.List.{list_all}
use Rattle.std.specs.Option.{option_or, option_map_or}
use Rattle.std.proofs.lemmas.Bool.{and_parts}
use Rattle.std.proofs.lemmas.Nat.{mul-le}
use Rattle.svc_values.specs.declared.call.Call.{Call}
use Rattle.outage_schedule.specs.declared.document.Client.{Client as ClientOf}
use Rattle.outage_schedule.specs.declared.document.Request.{Request}
use Rattle.outage_schedule.specs.declared.request.RequestReport.{RequestReport}
use Rattle.run_clauses.specs.meaning.Copies.{Copies, further_copies, copies_of, is_over, next_of}
use Rattle.client_model.specs.meaning.Terms.{Terms, Phase, Idle, Unbegun, Queued, Seeking, Greeting, Asked, Running, Replaying}
use Rattle.world_model.specs.meaning.Settings.{Setting}
use Rattle.world_model.specs.meaning.Clients.{Doing, Client, client_at, script_at, reports_of, begun}
use Rattle.world_model.specs.records.Conversing.{Talks, inputs_of, first_talk}
use Rattle.run_laws.specs.FinishShort.{calls_of_scripts, is_repeated_little}
use Rattle.world_model.specs.meaning.Finishing.{Place}
use Rattle.world_model.specs.Orderly.{Orderly}
use Rattle.world_model.specs.meaning.Machines.{Machine}
use Rattle.world_model.specs.records.Ready.{has_calls}
use Rattle.world_model.specs.Remaining.{once_if, calls_in, rounds_of_one, copies_left, all_left, requests_left, on_open, may_serve, doing_rounds, rounds_with, has_stepped, rounds_from}
use Rattle.world_model.specs.RoundsLeft.{try_wait, awaits_tick, replays_left, attempt, rounds_in}
use Rattle.world_model.specs.records.Script.{same_request}
use Rattle.world_model.specs.Traced.{Traced}
use Rattle.world_model.proofs.Offered.{once_most, follows_by, follows_now, rounds_at, talk_few, try_most, records_few, talks_at, does_talk, le_from}
use Rattle.run_laws.proofs.TalkLeft.{talk_leaves}

-- SCRIPTS -----------------------------------------------------------------------------------------

-- each request has a call, and is repeated four times at most
abbrev pub IsScript : List Request → Type 0
IsScript script = (list_all has_calls script ≡ true) × (list_all is_repeated_little script ≡ true)

some_calls : (calls : List Call) → not (length calls == 0) ≡ true → 1 ≤ length calls
some_calls [] some = absurd (let none : ⊥ = cc in none)
some_calls (call ∷ calls) some = omega arith

copies_few : (copies : Copies) → copies_left copies ≤ copies.request.again + 1
copies_few copies = by (is_over copies)
  where
    by : (over : Bool) → (if over then 0 else copies.request.again + 1 - length copies.reports) ≤ copies.request.again + 1
    by true = omega arith
    by false = omega arith

-- so many requests are left at most, of each five copies
all_few : (script : List Request) (reports : List RequestReport) → IsScript script → all_left (copies_of script reports) ≤ 5 * calls_in script
all_few [] reports is = omega arith
all_few (request ∷ script) reports is = by reports (λ others. all_few script others ((and_parts (has_calls request) (list_all has_calls script) is.0).1, (and_parts (is_repeated_little request) (list_all is_repeated_little script) is.1).1))
  where
    calls : 1 ≤ length request.calls
    calls = some_calls request.calls (and_parts (has_calls request) (list_all has_calls script) is.0).0

    again : request.again ≤ 4
    again = le_from request.again 4 (and_parts (is_repeated_little request) (list_all is_repeated_little script) is.1).0

    with_first : (mine rest : List RequestReport) → all_left (copies_of script rest) ≤ 5 * calls_in script → copies_left (record { request = request; reports = mine }) + all_left (copies_of script rest) ≤ 5 * calls_in (request ∷ script)
    with_first mine rest few =
        let first : copies_left (record { request = request; reports = mine }) ≤ request.again + 1 = copies_few (record { request = request; reports = mine }) in
        let some = calls in
        let most = again in
        omega (arith, first, few, some, most)

    by : (reports : List RequestReport) → ((others : List RequestReport) → all_left (copies_of script others) ≤ 5 * calls_in script) → all_left (copies_of (request ∷ script) reports) ≤ 5 * calls_in (request ∷ script)
    by [] later = with_first [] [] (later [])
    by (report ∷ more) later = with_first (report ∷ (further_copies request.again report more).0) (further_copies request.again report more).1 (later (further_copies request.again report more).1)

-- all calls of these scripts
abbrev pub all_calls : List (List Request) → ℕ
all_calls [] = 0
all_calls (script ∷ scripts) = calls_in script + all_calls scripts

calls_count : (script : List Request) → length (flat_map (λ request. request.calls) script) ≡ calls_in script
calls_count [] = refl
calls_count (request ∷ script) =
    let split : length (request.calls ++ flat_map (λ one. one.calls) script) ≡ length request.calls + length (flat_map (λ one. one.calls) script) = length-append request.calls (flat_map (λ one. one.calls) script) in
    let rest : length (flat_map (λ one. one.calls) script) ≡ calls_in script = calls_count script in
    omega (arith, split, rest)

pub scripts_count : (clients : List ClientOf) → length (calls_of_scripts clients) ≡ all_calls (map (λ client. client.requests) clients)
scripts_count [] = refl
scripts_count (client ∷ clients) =
    let split : length (flat_map (λ one. one.calls) client.requests ++ calls_of_scripts clients) ≡ length (flat_map (λ one. one.calls) client.requests) + length (calls_of_scripts clients) =
    length-append (flat_map (λ one. one.calls) client.requests) (calls_of_scripts clients) in
    let first : length (flat_map (λ one. one.calls) client.requests) ≡ calls_in client.requests = calls_count client.requests in
    let rest : length (calls_of_scripts clients) ≡ all_calls (map (λ one. one.requests) clients) = scripts_count clients in
    omega (arith, split, first, rest)

-- one script, and those behind it
one_more : (scripts : List (List Request)) (index : ℕ) → all_calls (drop index scripts) ≡ calls_in (get_or scripts index []) + all_calls (drop (suc index) scripts)
one_more [] zero = refl
one_more [] (suc index) = refl
one_more (script ∷ scripts) zero = refl
one_more (script ∷ scripts) (suc index) = one_more scripts index

some_of_all : (scripts : List (List Request)) (index : ℕ) → calls_in (get_or scripts index []) ≤ all_calls scripts
some_of_all [] index = omega arith
some_of_all (script ∷ scripts) zero = omega arith
some_of_all (script ∷ scripts) (suc index) = let rest : calls_in (get_or scripts index []) ≤ all_calls scripts = some_of_all scripts index in omega (arith, rest)

script_few : (setting : Setting) (number : ℕ) → calls_in (script_at setting number) ≤ all_calls setting.scripts
script_few setting zero = omega arith
script_few setting (suc index) = some_of_all setting.scripts index

-- A REQUEST ---------------------------------------------------------------------------------------

-- the rounds in a phase, whatever it is
in_few : (terms : Terms) (now : ℕ) (opens : Bool) (last : Option ℕ) (phase : Phase) → records_few terms phase ≡ true → rounds_in terms now opens last phase ≤ terms.limits.delay + (terms.limits.delay + (terms.limits.wait + (terms.recorded + 8)))
in_few terms now opens last Idle few = omega arith
in_few terms now opens last Unbegun few = omega arith
in_few terms now opens last (Queued from) few = omega arith
in_few terms now opens last (Seeking None) few = let most : try_wait terms now last ≤ terms.limits.delay = try_most terms now last in omega (arith, most)
in_few terms now opens last (Seeking (Some lost)) few = let most : try_wait terms now last ≤ terms.limits.delay = try_most terms now last in omega (arith, most)
in_few terms now true last (Greeting None) few = omega arith
in_few terms now false last (Greeting None) few = omega arith
in_few terms now true last (Greeting (Some lost)) few = omega arith
in_few terms now false last (Greeting (Some lost)) few = omega arith
in_few terms now true last (Asked asking) few = omega arith
in_few terms now false last (Asked asking) few = omega arith
in_few terms now opens last (Running state) few = omega arith
in_few terms now opens last (Replaying state) few = let most : length state.track.recorder.calls ≤ terms.recorded = le_from (length state.track.recorder.calls) terms.recorded few in omega (arith, most)

-- the limits of the terms, and of the scripts
pub record AreShort (setting : Setting) : Type 0 where
  pub delay : setting.terms.limits.delay ≤ 1000
  pub wait : setting.terms.limits.wait ≤ 1000000
  pub replays : setting.terms.limits.replays ≤ 4
  pub recorded : setting.terms.recorded ≤ 256
  pub calls : all_calls setting.scripts ≤ 2048
  pub scripts : (number : ℕ) → IsScript (script_at setting number)

module _ (setting : Setting) (short : AreShort setting) where
  -- one request from its beginning, and one in course
  one_few : (script : List Request) → calls_in script ≤ 2048 → rounds_of_one setting.terms script ≤ 3600000
  one_few script few =
      let delay : setting.terms.limits.delay ≤ 1000 = short.delay in
      let wait : setting.terms.limits.wait ≤ 1000000 = short.wait in
      let replays : setting.terms.limits.replays ≤ 4 = short.replays in
      let recorded : setting.terms.recorded ≤ 256 = short.recorded in
      let product : (calls_in script + setting.terms.limits.replays) * attempt setting.terms ≤ 2052 * 1260 = mul-le (calls_in script + setting.terms.limits.replays) (attempt setting.terms) 2052 1260 (omega arith) (omega arith) in
      omega (arith, delay, wait, product)

  doing_few : (m : Machine) (stepped : Bool) (doing : Doing) → length doing.talk.left ≤ 2048 → records_few setting.terms doing.talk.phase ≡ true → doing_rounds setting m stepped doing ≤ 3600000
  doing_few m stepped doing few records =
      let delay : setting.terms.limits.delay ≤ 1000 = short.delay in
      let wait : setting.terms.limits.wait ≤ 1000000 = short.wait in
      let recorded : setting.terms.recorded ≤ 256 = short.recorded in
      let product : (length doing.talk.left + replays_left setting.terms doing.talk.phase) * attempt setting.terms ≤ 2052 * 1260 =
      mul-le (length doing.talk.left + replays_left setting.terms doing.talk.phase) (attempt setting.terms) 2052 1260 attempts (omega arith) in
      let phase : rounds_in setting.terms m.tick (on_open m.links doing.connection) doing.talk.last_try doing.talk.phase ≤ setting.terms.limits.delay + (setting.terms.limits.delay + (setting.terms.limits.wait + (setting.terms.recorded + 8))) =
      in_few setting.terms m.tick (on_open m.links doing.connection) doing.talk.last_try doing.talk.phase records in
      let tick : once_if (not (awaits_tick setting.terms m.tick doing.talk doing.talk.phase) && (stepped || may_serve m.links doing.connection)) ≤ 1 =
      once_most (not (awaits_tick setting.terms m.tick doing.talk doing.talk.phase) && (stepped || may_serve m.links doing.connection)) in
      omega (arith, delay, wait, recorded, product, phase, tick)
    where
      attempts : length doing.talk.left + replays_left setting.terms doing.talk.phase ≤ 2052
      attempts = let replays : setting.terms.limits.replays ≤ 4 = short.replays in omega (arith, replays, few)

-- A CLIENT ----------------------------------------------------------------------------------------

module _ (t : Traced) (inv : Orderly t) (short : AreShort t.setting) where
  -- the calls that are left to a request in course are its script's, and it records no more calls
  -- than it may
  left_few : (number : ℕ) (client : Client) (doing : Doing) → client_at t.machine.clients number ≡ Some client → client.now ≡ Some doing → (length doing.talk.left ≤ 2048) × (records_few t.setting.terms doing.talk.phase ≡ true)
  left_few number client doing here is =
      let known = follows_by (script_at t.setting number) client.past doing.request follows in
      let leaves : length doing.talk.left ≤ length doing.request.calls =
      subst (λ talk. length talk.left ≤ length doing.request.calls) talks.stands (talk_leaves t.setting.terms (first_talk doing.request) (inputs_of doing.steps)) in
      let some : calls_in (script_at t.setting number) ≤ all_calls t.setting.scripts = script_few t.setting number in
      let calls : length doing.request.calls ≤ calls_in (script_at t.setting number) = known.calls in
      let all : all_calls t.setting.scripts ≤ 2048 = short.calls in
      (omega (arith, leaves, some, calls, all), subst (λ talk. records_few t.setting.terms talk.phase ≡ true) talks.stands (talk_few t.setting.terms (first_talk doing.request) (inputs_of doing.steps) refl))
    where
      talks : Talks t.setting.terms false doing
      talks = does_talk t.setting.terms 0 0 client.now client.next doing (ap (λ (now : Option Doing). option_or now (option_map (begun t.setting.terms 0 0) client.next)) is) (talks_at t.setting.terms t.machine.clients number client inv.script.talks here).1

      follows : same_request (Some doing.request) (next_of (script_at t.setting number) (reports_of client.past)) ≡ true
      follows =
          ap (λ (now : Option Doing). same_request (option_map_or (λ (one : Doing). Some one.request) now client.next) (next_of (script_at t.setting number) (reports_of client.past))) (sym is) ∙ follows_now t inv number client here

  -- its requests, and one more for the one in course
  client_few : (place : Place) (number : ℕ) (client : Client) → client_at t.machine.clients number ≡ Some client → rounds_at t.setting t.machine place number client ≤ (5 * calls_in (script_at t.setting number) + 2) * 3600000
  client_few place number client here = by client.now client.next refl
    where
      script : List Request
      script = script_at t.setting number

      left : requests_left script client.past ≤ 5 * calls_in script
      left = all_few script (reports_of client.past) (short.scripts number)

      size : rounds_of_one t.setting.terms script ≤ 3600000
      size = one_few t.setting short script (let some : calls_in (script_at t.setting number) ≤ all_calls t.setting.scripts = script_few t.setting number in let all : all_calls t.setting.scripts ≤ 2048 = short.calls in omega (arith, some, all))

      stepped : Bool
      stepped = has_stepped place number

      by : (now : Option Doing) (next : Option Request) → client.now ≡ now → rounds_with t.setting t.machine stepped script (requests_left script client.past) now next ≤ (5 * calls_in script + 2) * 3600000
      by None None is = omega arith
      by None (Some request) is =
          let product : requests_left script client.past * rounds_of_one t.setting.terms script ≤ (5 * calls_in script) * 3600000 = mul-le (requests_left script client.past) (rounds_of_one t.setting.terms script) (5 * calls_in script) 3600000 left size in
          let one : once_if stepped ≤ 1 = once_most stepped in
          omega (arith, product, one)
      by (Some doing) next is =
          let few : requests_left script client.past - 1 ≤ 5 * calls_in script = let most = left in omega (arith, most) in
          let product : (requests_left script client.past - 1) * rounds_of_one t.setting.terms script ≤ (5 * calls_in script) * 3600000 = mul-le (requests_left script client.past - 1) (rounds_of_one t.setting.terms script) (5 * calls_in script) 3600000 few size in
          let known = left_few number client doing here is in
          let now : doing_rounds t.setting t.machine stepped doing ≤ 3600000 = doing_few t.setting short t.machine stepped doing known.0 known.1 in
          omega (arith, product, now)

-- ALL CLIENTS -------------------------------------------------------------------------------------

sum_few : (setting : Setting) (m : Machine) (place : Place) (index number : ℕ) → number ≡ suc index → (clients : List Client)
    → ((at other : ℕ) (client : Client) → other ≡ number + at → slice_get clients at ≡ Some client → rounds_at setting m place other client ≤ (5 * calls_in (script_at setting other) + 2) * 3600000)
    → rounds_from setting m place number clients ≤ (5 * all_calls (drop index setting.scripts) + 2 * length clients) * 3600000
sum_few setting m place index number same [] each = omega arith
sum_few setting m place index number same (client ∷ clients) each =
    let first : rounds_at setting m place number client ≤ (5 * calls_in (script_at setting number) + 2) * 3600000 = each 0 number client (omega arith) refl in
    let script : calls_in (script_at setting number) ≡ calls_in (get_or setting.scripts index []) = ap (λ (k : ℕ). calls_in (script_at setting k)) same in
    let split : all_calls (drop index setting.scripts) ≡ calls_in (get_or setting.scripts index []) + all_calls (drop (suc index) setting.scripts) = one_more setting.scripts index in
    let rest : rounds_from setting m place (number + 1) clients ≤ (5 * all_calls (drop (suc index) setting.scripts) + 2 * length clients) * 3600000 =
    sum_few setting m place (suc index) (number + 1) (omega (arith, same)) clients (λ at other one is there. each (suc at) other one (omega (arith, is)) there) in
    omega (arith, first, script, split, rest)

pub rounds_few : (t : Traced) → Orderly t → AreShort t.setting → (place : Place) → length t.machine.clients ≤ 64 → rounds_from t.setting t.machine place 1 t.machine.clients ≤ 37324800000
rounds_few t inv short place few =
    let sum : rounds_from t.setting t.machine place 1 t.machine.clients ≤ (5 * all_calls (drop 0 t.setting.scripts) + 2 * length t.machine.clients) * 3600000 =
    sum_few t.setting t.machine place 0 1 refl t.machine.clients (λ at other client is there. client_few t inv short place other client (ap (client_at t.machine.clients) (let same : other ≡ suc at = omega (arith, is) in same) ∙ there)) in
    let calls : all_calls t.setting.scripts ≤ 2048 = short.calls in
    omega (arith, sum, calls, few)
