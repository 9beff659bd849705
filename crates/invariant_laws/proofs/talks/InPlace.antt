-- A list in which some items stand in place of others: that of all requests where one steps; and
-- what holds of each two items of it.
use Rattle.std.proofs.Common.{◌≡◌, refl, sym, ap, subst, ◌∙◌, Bool, true, ℕ, suc, zero, ◌+◌, ◌&&◌, flat_map, length, append_assoc, List, [], ◌∷◌, ◌++◌, Option, Some, None, arith}
use Rattle.std.specs.Prelude.{slice_get, slice_set}
use Rattle.std.specs.List.{list_all}
use Rattle.std.proofs.lemmas.Bool.{and_parts, and_from}
use Rattle.outage_schedule.specs.declared.document.Request.{Request}
use Rattle.client_model.specs.declared.act.Hold.{Hold}
use Rattle.client_model.specs.declared.act.Hold.TheVariants as hold
use Rattle.world_model.specs.meaning.Clients.{Doing, Past, Client, client_at, with_client, after_hold, past_of}
use Rattle.world_model.specs.meaning.Machines.{Machine}
use Rattle.world_model.specs.Sames.{all_with, each_pair}
use Rattle.world_model.specs.meaning.Settings.{Setting}
use Rattle.world_model.specs.Traced.{Course, course_over, course_now, courses_from, courses_of_clients}
use Rattle.world_model.proofs.Offered.{HasStepped, with_parts, with_append}

pub data InPlace {A : Type 0} (was now : List A) : List A → List A → Type 0 where
  Here : (back : List A) → InPlace was now (was ++ back) (now ++ back)
  There : (x : A) (old new : List A) → InPlace was now old new → InPlace was now (x ∷ old) (x ∷ new)

module _ {A : Type 0} (was now : List A) where
  in_front : (more old new : List A) → InPlace was now old new → InPlace was now (more ++ old) (more ++ new)
  in_front [] old new is = is
  in_front (x ∷ more) old new is = There x (more ++ old) (more ++ new) (in_front more old new is)

  in_back : (more old new : List A) → InPlace was now old new → InPlace was now (old ++ more) (new ++ more)
  in_back more _ _ (Here back) = subst (λ (list : List A). InPlace was now list ((now ++ back) ++ more)) (sym (append_assoc was back more)) (subst (λ (list : List A). InPlace was now (was ++ (back ++ more)) list) (sym (append_assoc now back more)) (Here (back ++ more)))
  in_back more _ _ (There x old new is) = There x (old ++ more) (new ++ more) (in_back more old new is)

flat_append : {A B : Type 0} (parts : A → List B) (xs ys : List A) → flat_map parts (xs ++ ys) ≡ flat_map parts xs ++ flat_map parts ys
flat_append parts [] ys = refl
flat_append parts (x ∷ xs) ys = ap (λ (rest : List _). parts x ++ rest) (flat_append parts xs ys) ∙ sym (append_assoc (parts x) (flat_map parts xs) (flat_map parts ys))

pub in_flat : {A B : Type 0} (parts : A → List B) (was now old new : List A) → InPlace was now old new → InPlace (flat_map parts was) (flat_map parts now) (flat_map parts old) (flat_map parts new)
in_flat parts was now _ _ (Here back) =
    subst (λ (list : List _). InPlace (flat_map parts was) (flat_map parts now) list (flat_map parts (now ++ back))) (sym (flat_append parts was back))
    (subst (λ (list : List _). InPlace (flat_map parts was) (flat_map parts now) (flat_map parts was ++ flat_map parts back) list) (sym (flat_append parts now back)) (Here (flat_map parts back)))
in_flat parts was now _ _ (There x old new is) = in_front (flat_map parts was) (flat_map parts now) (parts x) (flat_map parts old) (flat_map parts new) (in_flat parts was now old new is)

-- EACH TWO ----------------------------------------------------------------------------------------

-- `fits`: what stands so to the old ones stands so to the new ones
module _ {A : Type 0} (test : A → A → Bool) (turned : (a b : A) → test a b ≡ true → test b a ≡ true) (ok : A → Bool) (was now : List A) (fits : (a : A) → ok a ≡ true → all_with (test a) was ≡ true → all_with (test a) now ≡ true)
    (own : each_pair test was ≡ true → each_pair test now ≡ true) where
  all_turned : (x : A) (xs : List A) → all_with (test x) xs ≡ true → list_all (λ y. test y x) xs ≡ true
  all_turned x [] all = refl
  all_turned x (y ∷ xs) all = let both = and_parts (test x y) (all_with (test x) xs) all in and_from (test y x) (list_all (λ z. test z x) xs) (turned x y both.0) (all_turned x xs both.1)

  turned_all : (x : A) (xs : List A) → list_all (λ y. test y x) xs ≡ true → all_with (test x) xs ≡ true
  turned_all x [] all = refl
  turned_all x (y ∷ xs) all = let both = and_parts (test y x) (list_all (λ z. test z x) xs) all in and_from (test x y) (all_with (test x) xs) (turned y x both.0) (turned_all x xs both.1)

  -- each of the ones behind stands so to the new ones
  crossed : (back : List A) → list_all ok back ≡ true → list_all (λ y. all_with (test y) was) back ≡ true → list_all (λ y. all_with (test y) now) back ≡ true
  crossed [] oks all = refl
  crossed (y ∷ back) oks all =
      let one = and_parts (ok y) (list_all ok back) oks in
      let both = and_parts (all_with (test y) was) (list_all (λ z. all_with (test z) was) back) all in
      and_from (all_with (test y) now) (list_all (λ z. all_with (test z) now) back) (fits y one.0 both.0) (crossed back one.1 both.1)

  column : (xs back : List A) → each_pair test (xs ++ back) ≡ true → (each_pair test xs ≡ true) × ((each_pair test back ≡ true) × (list_all (λ y. list_all (λ x. test x y) xs) back ≡ true))
  column [] back pairs = (refl, (pairs, every back))
    where
      every : (ys : List A) → list_all (λ y. true) ys ≡ true
      every [] = refl
      every (y ∷ ys) = every ys
  column (x ∷ xs) back pairs =
      let both = and_parts (all_with (test x) (xs ++ back)) (each_pair test (xs ++ back)) pairs in
      let halves = with_parts (test x) xs back both.0 in
      let rest = column xs back both.1 in
      (and_from (all_with (test x) xs) (each_pair test xs) halves.0 rest.0, (rest.1.0, more back halves.1 rest.1.1))
    where
      more : (ys : List A) → all_with (test x) ys ≡ true → list_all (λ y. list_all (λ z. test z y) xs) ys ≡ true → list_all (λ y. test x y && list_all (λ z. test z y) xs) ys ≡ true
      more [] one other = refl
      more (y ∷ ys) one other =
          let first = and_parts (test x y) (all_with (test x) ys) one in
          let second = and_parts (list_all (λ z. test z y) xs) (list_all (λ w. list_all (λ z. test z w) xs) ys) other in
          and_from (test x y && list_all (λ z. test z y) xs) (list_all (λ w. test x w && list_all (λ z. test z w) xs) ys) (and_from (test x y) (list_all (λ z. test z y) xs) first.0 second.0) (more ys first.1 second.1)

  joined : (xs back : List A) → each_pair test xs ≡ true → each_pair test back ≡ true → list_all (λ y. all_with (test y) xs) back ≡ true → each_pair test (xs ++ back) ≡ true
  joined [] back one other all = other
  joined (x ∷ xs) back one other all =
      let both = and_parts (all_with (test x) xs) (each_pair test xs) one in
      let halves = heads back all in
      and_from (all_with (test x) (xs ++ back)) (each_pair test (xs ++ back)) (with_append (test x) xs back both.0 halves.0) (joined xs back both.1 other halves.1)
    where
      heads : (ys : List A) → list_all (λ y. all_with (test y) (x ∷ xs)) ys ≡ true → (all_with (test x) ys ≡ true) × (list_all (λ y. all_with (test y) xs) ys ≡ true)
      heads [] all = (refl, refl)
      heads (y ∷ ys) all =
          let first = and_parts (all_with (test y) (x ∷ xs)) (list_all (λ z. all_with (test z) (x ∷ xs)) ys) all in
          let parts = and_parts (test y x) (all_with (test y) xs) first.0 in
          let rest = heads ys first.1 in
          (and_from (test x y) (all_with (test x) ys) (turned y x parts.0) rest.0, and_from (all_with (test y) xs) (list_all (λ z. all_with (test z) xs) ys) parts.1 rest.1)

  columns_turned : (ys : List A) → list_all (λ y. list_all (λ x. test x y) was) ys ≡ true → list_all (λ y. all_with (test y) was) ys ≡ true
  columns_turned [] all = refl
  columns_turned (y ∷ ys) all =
      let both = and_parts (list_all (λ x. test x y) was) (list_all (λ z. list_all (λ x. test x z) was) ys) all in
      and_from (all_with (test y) was) (list_all (λ z. all_with (test z) was) ys) (turned_all y was both.0) (columns_turned ys both.1)

  with_in : (x : A) → ok x ≡ true → (old new : List A) → InPlace was now old new → all_with (test x) old ≡ true → all_with (test x) new ≡ true
  with_in x okay _ _ (Here back) all = let halves = with_parts (test x) was back all in with_append (test x) now back (fits x okay halves.0) halves.1
  with_in x okay _ _ (There y old new is) all = let both = and_parts (test x y) (all_with (test x) old) all in and_from (test x y) (all_with (test x) new) both.0 (with_in x okay old new is both.1)

  -- `oks`: of the others, which are in both
  pub data Others : List A → List A → Type 0 where
    AllBack : (back : List A) → list_all ok back ≡ true → Others (was ++ back) (now ++ back)
    OneMore : (x : A) (old new : List A) → ok x ≡ true → Others old new → Others (x ∷ old) (x ∷ new)

  place_of : (old new : List A) → Others old new → InPlace was now old new
  place_of _ _ (AllBack back oks) = Here back
  place_of _ _ (OneMore x old new okay others) = There x old new (place_of old new others)

  pub pairs_in : (old new : List A) → Others old new → each_pair test old ≡ true → each_pair test new ≡ true
  pairs_in _ _ (AllBack back oks) pairs =
      let parts = column was back pairs in joined now back (own parts.0) parts.1.0 (crossed back oks (columns_turned back parts.1.1))
  pairs_in _ _ (OneMore x old new okay others) pairs =
      let both = and_parts (all_with (test x) old) (each_pair test old) pairs in
      and_from (all_with (test x) new) (each_pair test new) (with_in x okay old new (place_of old new others) both.0) (pairs_in old new others both.1)

-- REQUESTS ----------------------------------------------------------------------------------------

module _ (setting : Setting) (client : ℕ) where
  goes_in : (place : ℕ) (past : List Past) (now : Option Doing) (after : Doing)
      → InPlace (courses_from setting client (place + length past) [] now) (course_now setting client (place + length past) after ∷ []) (courses_from setting client place past now) (courses_from setting client place past (Some after))
  goes_in place [] None after = let same : place + 0 ≡ place = omega arith in subst (λ (p : ℕ). InPlace [] (course_now setting client p after ∷ []) [] (course_now setting client place after ∷ [])) (sym same) (Here [])
  goes_in place [] (Some doing) after =
      let same : place + 0 ≡ place = omega arith in
      subst (λ (p : ℕ). InPlace (course_now setting client p doing ∷ []) (course_now setting client p after ∷ []) (course_now setting client place doing ∷ []) (course_now setting client place after ∷ [])) (sym same) (Here [])
  goes_in place (one ∷ past) now after =
      let same : place + length (one ∷ past) ≡ (place + 1) + length past = omega arith in
      There (course_over client place one) (courses_from setting client (place + 1) past now) (courses_from setting client (place + 1) past (Some after))
      (subst (λ (p : ℕ). InPlace (courses_from setting client p [] now) (course_now setting client p after ∷ []) (courses_from setting client (place + 1) past now) (courses_from setting client (place + 1) past (Some after))) (sym same) (goes_in (place + 1) past now after))

  ends_in : (place : ℕ) (past : List Past) (now : Option Doing) (last : Past)
      → InPlace (courses_from setting client (place + length past) [] now) (course_over client (place + length past) last ∷ []) (courses_from setting client place past now) (courses_from setting client place (past ++ last ∷ []) None)
  ends_in place [] None last = let same : place + 0 ≡ place = omega arith in subst (λ (p : ℕ). InPlace [] (course_over client p last ∷ []) [] (course_over client place last ∷ [])) (sym same) (Here [])
  ends_in place [] (Some doing) last =
      let same : place + 0 ≡ place = omega arith in
      subst (λ (p : ℕ). InPlace (course_now setting client p doing ∷ []) (course_over client p last ∷ []) (course_now setting client place doing ∷ []) (course_over client place last ∷ [])) (sym same) (Here [])
  ends_in place (one ∷ past) now last =
      let same : place + length (one ∷ past) ≡ (place + 1) + length past = omega arith in
      There (course_over client place one) (courses_from setting client (place + 1) past now) (courses_from setting client (place + 1) (past ++ last ∷ []) None)
      (subst (λ (p : ℕ). InPlace (courses_from setting client p [] now) (course_over client p last ∷ []) (courses_from setting client (place + 1) past now) (courses_from setting client (place + 1) (past ++ last ∷ []) None)) (sym same) (ends_in (place + 1) past now last))

-- of all clients
module _ (setting : Setting) where
  set_in : (start : ℕ) (clients : List Client) (index : ℕ) (client after : Client) (was now : List Course) → slice_get clients index ≡ Some client
      → InPlace was now (courses_from setting (start + index) 0 client.past client.now) (courses_from setting (start + index) 0 after.past after.now)
      → InPlace was now (courses_of_clients setting start clients) (courses_of_clients setting start (slice_set clients index after))
  set_in start [] index client after was now there is = absurd (let none : ⊥ = cc in none)
  set_in start (first ∷ clients) zero client after was now there is =
      let same : first ≡ client = cc in
      let at : start + 0 ≡ start = omega arith in
      in_back was now (courses_of_clients setting (start + 1) clients) (courses_from setting start 0 first.past first.now) (courses_from setting start 0 after.past after.now)
      (subst (λ (c : Client). InPlace was now (courses_from setting start 0 c.past c.now) (courses_from setting start 0 after.past after.now)) (sym same)
      (subst (λ (k : ℕ). InPlace was now (courses_from setting k 0 client.past client.now) (courses_from setting k 0 after.past after.now)) at is))
  set_in start (first ∷ clients) (suc index) client after was now there is =
      let at : start + suc index ≡ (start + 1) + index = omega arith in
      in_front was now (courses_from setting start 0 first.past first.now) (courses_of_clients setting (start + 1) clients) (courses_of_clients setting (start + 1) (slice_set clients index after))
      (set_in (start + 1) clients index client after was now there (subst (λ (k : ℕ). InPlace was now (courses_from setting k 0 client.past client.now) (courses_from setting k 0 after.past after.now)) at is))

  -- The request of a client that steps stands in place of the one that it was, if it was in course.
  pub step_in : (m : Machine) (number : ℕ) (n : Machine) (step : HasStepped setting m number n) → (course : Course) × ((course.owner ≡ record { client = number; place = length step.client.past }) × ((course.steps ≡ step.after.steps)
      × InPlace (courses_from setting number (length step.client.past) [] step.client.now) (course ∷ []) (courses_of_clients setting 1 m.clients) (courses_of_clients setting 1 n.clients)))
  step_in m number n step = by step.held refl
    where
      place : ℕ
      place = length step.client.past

      plain : 0 + place ≡ place
      plain = omega arith

      whole : (next : Client) (course : Course) → n.clients ≡ with_client m.clients number next → InPlace (courses_from setting number place [] step.client.now) (course ∷ []) (courses_from setting number 0 step.client.past step.client.now) (courses_from setting number 0 next.past next.now)
          → InPlace (courses_from setting number place [] step.client.now) (course ∷ []) (courses_of_clients setting 1 m.clients) (courses_of_clients setting 1 n.clients)
      whole next course are is = subst (λ (clients : List Client). InPlace (courses_from setting number place [] step.client.now) (course ∷ []) (courses_of_clients setting 1 m.clients) (courses_of_clients setting 1 clients)) (sym are) (at number refl)
        where
          at : (k : ℕ) → k ≡ number → InPlace (courses_from setting number place [] step.client.now) (course ∷ []) (courses_of_clients setting 1 m.clients) (courses_of_clients setting 1 (with_client m.clients k next))
          at zero same = absurd (let here : client_at m.clients 0 ≡ Some step.client = subst (λ (k : ℕ). client_at m.clients k ≡ Some step.client) (sym same) step.here in let none : ⊥ = cc in none)
          at (suc index) same =
              let number_is : number ≡ 1 + index = omega (arith, same) in
              set_in 1 m.clients index step.client next (courses_from setting number place [] step.client.now) (course ∷ []) (subst (λ (k : ℕ). client_at m.clients k ≡ Some step.client) (sym same) step.here)
              (subst (λ (k : ℕ). InPlace (courses_from setting number place [] step.client.now) (course ∷ []) (courses_from setting k 0 step.client.past step.client.now) (courses_from setting k 0 next.past next.now)) number_is is)

      goes : n.clients ≡ with_client m.clients number (record step.client { now = Some step.after }) → InPlace (courses_from setting number place [] step.client.now) (course_now setting number place step.after ∷ []) (courses_of_clients setting 1 m.clients) (courses_of_clients setting 1 n.clients)
      goes are =
          whole (record step.client { now = Some step.after }) (course_now setting number place step.after) are
          (subst (λ (p : ℕ). InPlace (courses_from setting number p [] step.client.now) (course_now setting number p step.after ∷ []) (courses_from setting number 0 step.client.past step.client.now) (courses_from setting number 0 step.client.past (Some step.after))) plain
          (goes_in setting number 0 step.client.past step.client.now step.after))

      ends : (next : Option Request) → n.clients ≡ with_client m.clients number (record { past = step.client.past ++ past_of setting.terms step.after ∷ []; next = next; now = None })
          → InPlace (courses_from setting number place [] step.client.now) (course_over number place (past_of setting.terms step.after) ∷ []) (courses_of_clients setting 1 m.clients) (courses_of_clients setting 1 n.clients)
      ends next are =
          whole (record { past = step.client.past ++ past_of setting.terms step.after ∷ []; next = next; now = None }) (course_over number place (past_of setting.terms step.after)) are
          (subst (λ (p : ℕ). InPlace (courses_from setting number p [] step.client.now) (course_over number p (past_of setting.terms step.after) ∷ []) (courses_from setting number 0 step.client.past step.client.now)
          (courses_from setting number 0 (step.client.past ++ past_of setting.terms step.after ∷ []) None)) plain
          (ends_in setting number 0 step.client.past step.client.now (past_of setting.terms step.after)))

      clients_at : (held : Hold) → step.held ≡ held → n.clients ≡ with_client m.clients number (after_hold setting number step.client step.after held)
      clients_at held is = step.clients_are ∙ ap (λ (h : Hold). with_client m.clients number (after_hold setting number step.client step.after h)) is

      by : (held : Hold) → step.held ≡ held → (course : Course) × ((course.owner ≡ record { client = number; place = length step.client.past }) × ((course.steps ≡ step.after.steps)
          × InPlace (courses_from setting number (length step.client.past) [] step.client.now) (course ∷ []) (courses_of_clients setting 1 m.clients) (courses_of_clients setting 1 n.clients)))
      by hold.Keep is = (course_now setting number place step.after, (refl, (refl, goes (clients_at hold.Keep is))))
      by hold.GiveBack is = (course_over number place (past_of setting.terms step.after), (refl, (refl, ends _ (clients_at hold.GiveBack is))))
      by hold.Drop is = (course_over number place (past_of setting.terms step.after), (refl, (refl, ends _ (clients_at hold.Drop is))))
