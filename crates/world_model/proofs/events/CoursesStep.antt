-- A test of all requests where a client steps: of the others as before, and of its own as it stands
-- then.
use Rattle.std.proofs.Common.{◌≡◌, ◌≢◌, refl, sym, ap, subst, ◌∙◌, Bool, true, ℕ, suc, zero, ◌+◌, ◌<◌, ◌&&◌, length, List, [], ◌∷◌, ◌++◌, Option, Some, None, arith}
use Rattle.std.specs.Prelude.{slice_get, slice_set}
use Rattle.std.specs.List.{list_all}
use Rattle.std.proofs.lemmas.Bool.{and_parts, and_from}
use Rattle.std.proofs.lemmas.List.Folds.{list_all-append}
use Rattle.client_model.specs.declared.act.Hold.{Hold}
use Rattle.client_model.specs.declared.act.Hold.TheVariants as hold
use Rattle.world_model.specs.meaning.Settings.{Setting}
use Rattle.world_model.specs.meaning.Frames.{Owner}
use Rattle.world_model.specs.meaning.Clients.{Doing, Past, Client, client_at, with_client, after_hold, past_of}
use Rattle.world_model.specs.meaning.Machines.{Machine}
use Rattle.world_model.specs.Traced.{Course, course_over, course_now, courses_from, courses_of_clients}
use Rattle.world_model.proofs.events.AllLists.{append_all}
use Rattle.world_model.proofs.events.ClientSteps.{HasStepped}

module _ (setting : Setting) (test next : Course → Bool) (owner : Owner) (others : (course : Course) → course.owner ≢ owner → test course ≡ true → next course ≡ true) where
  abbrev all_of : (Course → Bool) → ℕ → ℕ → List Past → Option Doing → Bool
  all_of passes client place past now = list_all passes (courses_from setting client place past now)

  abbrev all_ones : (Course → Bool) → ℕ → List Client → Bool
  all_ones passes start clients = list_all passes (courses_of_clients setting start clients)

  -- of another client
  other_client : (client place : ℕ) (past : List Past) (now : Option Doing) → client ≢ owner.client → all_of test client place past now ≡ true → all_of next client place past now ≡ true
  other_client client place [] None differs all = refl
  other_client client place [] (Some doing) differs all =
      let parts = and_parts (test (course_now setting client place doing)) true all in
      and_from (next (course_now setting client place doing)) true (others (course_now setting client place doing) (λ same. differs (ap (λ (o : Owner). o.client) same)) parts.0) refl
  other_client client place (one ∷ past) now differs all =
      let parts = and_parts (test (course_over client place one)) (all_of test client (place + 1) past now) all in
      and_from (next (course_over client place one)) (all_of next client (place + 1) past now) (others (course_over client place one) (λ same. differs (ap (λ (o : Owner). o.client) same)) parts.0)
      (other_client client (place + 1) past now differs parts.1)

  other_clients : (start : ℕ) (clients : List Client) → owner.client < start → all_ones test start clients ≡ true → all_ones next start clients ≡ true
  other_clients start [] below all = refl
  other_clients start (client ∷ clients) below all =
      let further : owner.client < start + 1 = omega arith in
      let split : (all_of test start 0 client.past client.now && all_ones test (start + 1) clients) ≡ true =
      sym (list_all-append test (courses_from setting start 0 client.past client.now) (courses_of_clients setting (start + 1) clients)) ∙ all in
      let parts = and_parts (all_of test start 0 client.past client.now) (all_ones test (start + 1) clients) split in
      append_all next (courses_from setting start 0 client.past client.now) (courses_of_clients setting (start + 1) clients)
      (other_client start 0 client.past client.now (λ same. let never : ⊥ = omega arith in never) parts.0) (other_clients (start + 1) clients further parts.1)

  -- its own requests that are over, with one more course behind them
  own_now : (client place : ℕ) (past : List Past) (now : Option Doing) (after : Doing) → owner.place ≡ place + length past → all_of test client place past now ≡ true → next (course_now setting client owner.place after) ≡ true
      → all_of next client place past (Some after) ≡ true
  own_now client place [] now after same all mine =
      let here : owner.place ≡ place = omega arith in and_from (next (course_now setting client place after)) true (subst (λ (n : ℕ). next (course_now setting client n after) ≡ true) here mine) refl
  own_now client place (one ∷ past) now after same all mine =
      let further : owner.place ≡ (place + 1) + length past = omega arith in
      let below : place < owner.place = omega arith in
      let parts = and_parts (test (course_over client place one)) (all_of test client (place + 1) past now) all in
      and_from (next (course_over client place one)) (all_of next client (place + 1) past (Some after))
      (others (course_over client place one) (λ is. let place_is : place ≡ owner.place = ap (λ (o : Owner). o.place) is in let never : ⊥ = omega arith in never) parts.0) (own_now client (place + 1) past now after further parts.1 mine)

  own_over : (client place : ℕ) (past : List Past) (now : Option Doing) (last : Past) → owner.place ≡ place + length past → all_of test client place past now ≡ true → next (course_over client owner.place last) ≡ true
      → all_of next client place (past ++ last ∷ []) None ≡ true
  own_over client place [] now last same all mine =
      let here : owner.place ≡ place = omega arith in and_from (next (course_over client place last)) true (subst (λ (n : ℕ). next (course_over client n last) ≡ true) here mine) refl
  own_over client place (one ∷ past) now last same all mine =
      let further : owner.place ≡ (place + 1) + length past = omega arith in
      let below : place < owner.place = omega arith in
      let parts = and_parts (test (course_over client place one)) (all_of test client (place + 1) past now) all in
      and_from (next (course_over client place one)) (all_of next client (place + 1) (past ++ last ∷ []) None)
      (others (course_over client place one) (λ is. let place_is : place ≡ owner.place = ap (λ (o : Owner). o.place) is in let never : ⊥ = omega arith in never) parts.0) (own_over client (place + 1) past now last further parts.1 mine)

  own_set : (start : ℕ) (clients : List Client) (index : ℕ) (client after : Client) → owner.client ≡ start + index → slice_get clients index ≡ Some client
      → (all_of test owner.client 0 client.past client.now ≡ true → all_of next owner.client 0 after.past after.now ≡ true) → all_ones test start clients ≡ true → all_ones next start (slice_set clients index after) ≡ true
  own_set start [] index client after same is mine all = absurd (let none : ⊥ = cc in none)
  own_set start (first ∷ clients) zero client after same is mine all =
      let here : first ≡ client = cc in
      let at : owner.client ≡ start = omega arith in
      let below : owner.client < start + 1 = omega arith in
      let split : (all_of test start 0 first.past first.now && all_ones test (start + 1) clients) ≡ true =
      sym (list_all-append test (courses_from setting start 0 first.past first.now) (courses_of_clients setting (start + 1) clients)) ∙ all in
      let parts = and_parts (all_of test start 0 first.past first.now) (all_ones test (start + 1) clients) split in
      append_all next (courses_from setting start 0 after.past after.now) (courses_of_clients setting (start + 1) clients)
      (subst (λ (n : ℕ). all_of next n 0 after.past after.now ≡ true) at (mine (subst (λ (n : ℕ). all_of test n 0 client.past client.now ≡ true) (sym at) (subst (λ (c : Client). all_of test start 0 c.past c.now ≡ true) here parts.0))))
      (other_clients (start + 1) clients below parts.1)
  own_set start (first ∷ clients) (suc index) client after same is mine all =
      let further : owner.client ≡ (start + 1) + index = omega arith in
      let split : (all_of test start 0 first.past first.now && all_ones test (start + 1) clients) ≡ true =
      sym (list_all-append test (courses_from setting start 0 first.past first.now) (courses_of_clients setting (start + 1) clients)) ∙ all in
      let parts = and_parts (all_of test start 0 first.past first.now) (all_ones test (start + 1) clients) split in
      append_all next (courses_from setting start 0 first.past first.now) (courses_of_clients setting (start + 1) (slice_set clients index after))
      (other_client start 0 first.past first.now (λ is. let never : ⊥ = omega arith in never) parts.0) (own_set (start + 1) clients index client after further is mine parts.1)

  own_held : (number : ℕ) (client : Client) (after : Doing) (held : Hold) → owner ≡ record { client = number; place = length client.past }
      → (held ≡ hold.Keep → next (course_now setting number (length client.past) after) ≡ true) → ((held ≡ hold.Keep → ⊥) → next (course_over number (length client.past) (past_of setting.terms after)) ≡ true)
      → all_of test owner.client 0 client.past client.now ≡ true → all_of next owner.client 0 (after_hold setting number client after held).past (after_hold setting number client after held).now ≡ true
  own_held number client after held is goes ends all = by held goes ends
    where
      place : owner.place ≡ length client.past
      place = ap (λ (o : Owner). o.place) is

      client_is : owner.client ≡ number
      client_is = ap (λ (o : Owner). o.client) is

      last : owner.place ≡ 0 + length client.past
      last = let here : owner.place ≡ length client.past = place in omega arith

      now_so : next (course_now setting number (length client.past) after) ≡ true → all_of next owner.client 0 client.past (Some after) ≡ true
      now_so mine =
          own_now owner.client 0 client.past client.now after last all
          (subst (λ (n : ℕ). next (course_now setting n owner.place after) ≡ true) (sym client_is) (subst (λ (p : ℕ). next (course_now setting number p after) ≡ true) (sym place) mine))

      over_so : next (course_over number (length client.past) (past_of setting.terms after)) ≡ true → all_of next owner.client 0 (client.past ++ past_of setting.terms after ∷ []) None ≡ true
      over_so mine =
          own_over owner.client 0 client.past client.now (past_of setting.terms after) last all
          (subst (λ (n : ℕ). next (course_over n owner.place (past_of setting.terms after)) ≡ true) (sym client_is)
          (subst (λ (p : ℕ). next (course_over number p (past_of setting.terms after)) ≡ true) (sym place) mine))

      by : (held : Hold) → (held ≡ hold.Keep → next (course_now setting number (length client.past) after) ≡ true) → ((held ≡ hold.Keep → ⊥) → next (course_over number (length client.past) (past_of setting.terms after)) ≡ true)
          → all_of next owner.client 0 (after_hold setting number client after held).past (after_hold setting number client after held).now ≡ true
      by hold.Keep goes ends = now_so (goes refl)
      by hold.GiveBack goes ends = over_so (ends (λ is. let never : ⊥ = cc in never))
      by hold.Drop goes ends = over_so (ends (λ is. let never : ⊥ = cc in never))

  -- the test holds of all requests behind the step
  pub all_step : (m : Machine) (number : ℕ) (n : Machine) (step : HasStepped setting m number n) → owner ≡ record { client = number; place = length step.client.past }
      → (step.held ≡ hold.Keep → next (course_now setting number (length step.client.past) step.after) ≡ true)
      → ((step.held ≡ hold.Keep → ⊥) → next (course_over number (length step.client.past) (past_of setting.terms step.after)) ≡ true)
      → list_all test (courses_of_clients setting 1 m.clients) ≡ true → list_all next (courses_of_clients setting 1 n.clients) ≡ true
  all_step m number n step is goes ends all = subst (λ (clients : List Client). all_ones next 1 clients ≡ true) (sym step.clients_are) (by number refl)
    where
      stepped : Client
      stepped = after_hold setting number step.client step.after step.held

      by : (at : ℕ) → at ≡ number → all_ones next 1 (with_client m.clients at stepped) ≡ true
      by zero same = absurd (let here : client_at m.clients 0 ≡ Some step.client = subst (λ (k : ℕ). client_at m.clients k ≡ Some step.client) (sym same) step.here in let none : ⊥ = cc in none)
      by (suc index) same =
          let client_is : owner.client ≡ number = ap (λ (o : Owner). o.client) is in
          let at : owner.client ≡ 1 + index = omega arith in
          own_set 1 m.clients index step.client stepped at (subst (λ (k : ℕ). client_at m.clients k ≡ Some step.client) (sym same) step.here) (own_held number step.client step.after step.held is goes ends) all
