-- What is left of the finish where it begins, in numbers.
use Rattle.std.proofs.Common.{◌≡◌, refl, sym, subst, ◌∙◌, Bool, true, false, ℕ, suc, zero, ◌+◌, ◌*◌, ◌≤◌, length, length-append, map, List, [], ◌∷◌, ◌++◌, if◌then◌else◌, arith}
use Rattle.std.specs.Prelude.{not, get_or}
use Rattle.std.specs.List.{list_all, list_any}
use Rattle.std.proofs.lemmas.Bool.{and_parts}
use Rattle.std.proofs.lemmas.List.{length-map}
use Rattle.std.proofs.lemmas.Nat.{mul-le}
use Rattle.outage_schedule.specs.declared.document.Client.{Client}
use Rattle.outage_schedule.specs.declared.document.Document.{Document}
use Rattle.outage_schedule.specs.declared.event.Event.{Event}
use Rattle.outage_schedule.specs.declared.item.Served.{Served}
use Rattle.outage_schedule.specs.declared.note.Note.{Note}
use Rattle.server_model.specs.Seen.{Seen}
use Rattle.world_model.specs.meaning.Clients.{script_at, is_unfinished}
use Rattle.world_model.specs.meaning.Finishing.{AtServer}
use Rattle.run_laws.specs.FinishShort.{is_repeated_little, AreLimits, FinishIsShort}
use Rattle.world_model.specs.meaning.Machines.{Machine}
use Rattle.world_model.specs.Reached.{Reached, Begins, GoesOn}
use Rattle.world_model.specs.records.Ready.{is_right_request}
use Rattle.world_model.specs.Remaining.{once_if, links_work, round_work, rounds_from}
use Rattle.world_model.specs.RunLaws.{RunsAreOrderly}
use Rattle.world_model.specs.meaning.Settings.{setting_of}
use Rattle.world_model.specs.Traced.{Traced}
use Rattle.world_model.proofs.Offered.{once_most, happens_long, at_event, Followed, follow_happens, have_calls, reached_setting}
use Rattle.run_laws.proofs.LinksShort.{AddsFew, happens_adds}
use Rattle.run_laws.proofs.RoundsShort.{IsScript, scripts_count, AreShort, rounds_few}

-- EVENTS ------------------------------------------------------------------------------------------

-- after so many events of the document's run
record IsSmall (document : Document) (count : ℕ) (m : Machine) : Type 0 where
  clients : length m.clients ≡ length document.clients
  idle : length m.pool.idle ≤ count
  work : links_work m.links ≤ 100002 * count

one_longer : (events : List Event) (event : Event) → length (events ++ event ∷ []) ≡ length events + 1
one_longer events event = length-append events (event ∷ [])

reached_small : (document : Document) (events : List Event) (notes : List Note) (items : List Served) (seen : Seen) (t : Traced) → Reached document events notes items seen t → length events ≤ 100000 → IsSmall document (length events) t.machine
reached_small document _ _ _ _ _ (Begins seen start history horizon coupled) few = record { clients = length-map document.clients _; idle = omega arith; work = omega arith }
reached_small document _ _ _ _ _ (GoesOn events notes items more before after old new event note reached one forgets) few =
    let long : length (events ++ event ∷ []) ≡ length events + 1 = one_longer events event in
    let earlier : IsSmall document (length events) old.machine = reached_small document events notes items before old reached (omega (arith, few, long)) in
    let followed : Followed old.setting old.machine event note more [] new.machine = follow_happens old.setting old.machine event note more [] new.machine one.follows in
    let adds : AddsFew (at_event old.machine) new.machine = happens_adds old.setting (at_event old.machine) more [] followed.kind new.machine followed.happens in
    let clients : length new.machine.clients ≡ length old.machine.clients = happens_long old.setting (at_event old.machine) more [] followed.kind new.machine followed.happens in
    let idle_before : length old.machine.pool.idle ≤ length events = earlier.idle in
    let work_before : links_work old.machine.links ≤ 100002 * length events = earlier.work in
    let idle : length new.machine.pool.idle ≤ length old.machine.pool.idle + 1 = adds.idle in
    let work : links_work new.machine.links ≤ links_work old.machine.links + (length old.machine.pool.idle + 2) = adds.work in
    record {
      clients = clients ∙ earlier.clients;
      idle = omega (arith, long, idle_before, idle);
      work = omega (arith, long, few, idle_before, work_before, work);
    }

-- THE DOCUMENT ------------------------------------------------------------------------------------

script_is : (clients : List Client) (index : ℕ) → list_all (λ client. list_all is_right_request client.requests) clients ≡ true → list_all (λ client. list_all is_repeated_little client.requests) clients ≡ true
    → IsScript (get_or (map (λ client. client.requests) clients) index [])
script_is [] index calls again = (refl, refl)
script_is (client ∷ clients) zero calls again = (have_calls client.requests (and_parts _ _ calls).0, (and_parts _ _ again).0)
script_is (client ∷ clients) (suc index) calls again = script_is clients index (and_parts (list_all is_right_request client.requests) _ calls).1 (and_parts (list_all is_repeated_little client.requests) _ again).1

limits_short : (document : Document) → AreLimits document → AreShort (setting_of document)
limits_short document limits = record {
  delay = limits.delay;
  wait = limits.wait;
  replays = limits.replays;
  recorded = limits.recorded;
  calls = subst (λ (count : ℕ). count ≤ 2048) (scripts_count document.clients) limits.calls;
  scripts = each;
}
  where
    each : (number : ℕ) → IsScript (script_at (setting_of document) number)
    each zero = (refl, refl)
    each (suc index) = script_is document.clients index limits.have_calls limits.again

-- ALL OF IT ---------------------------------------------------------------------------------------

round_few : (m : Machine) → round_work m AtServer ≤ 3 * length m.clients + 3
round_few m = by (list_any is_unfinished m.clients)
  where
    by : (any : Bool) → (if any then 3 * length m.clients + 3 else 0) ≤ 3 * length m.clients + 3
    by true = omega arith
    by false = omega arith

pub finish_short : RunsAreOrderly → FinishIsShort
finish_short orderly document events notes items seen t limits reached few =
    let small : IsSmall document (length events) t.machine = reached_small document events notes items seen t reached few in
    let clients_are : length t.machine.clients ≡ length document.clients = small.clients in
    let clients_few : length document.clients ≤ 64 = limits.clients in
    let clients : length t.machine.clients ≤ 64 = omega (arith, clients_are, clients_few) in
    let short : AreShort t.setting = subst AreShort (sym (reached_setting document events notes items seen t reached)) (limits_short document limits) in
    let rounds : rounds_from t.setting t.machine AtServer 1 t.machine.clients ≤ 37324800000 = rounds_few t (orderly document events notes items seen t limits.have_calls reached) short AtServer clients in
    let product : rounds_from t.setting t.machine AtServer 1 t.machine.clients * (3 * length t.machine.clients + 4) ≤ 37324800000 * 196 =
    mul-le (rounds_from t.setting t.machine AtServer 1 t.machine.clients) (3 * length t.machine.clients + 4) 37324800000 196 rounds (omega (arith, clients)) in
    let round : round_work t.machine AtServer ≤ 3 * length t.machine.clients + 3 = round_few t.machine in
    let work : links_work t.machine.links ≤ 100002 * length events = small.work in
    let server : once_if (not t.machine.server.is_up) ≤ 1 = once_most (not t.machine.server.is_up) in
    omega (arith, clients, product, round, work, few, server)
