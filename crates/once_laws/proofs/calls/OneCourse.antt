-- No two requests of a run have one owner, so a frame is of one request.
use Rattle.std.proofs.Common.{◌≡◌, refl, sym, ap, ◌∙◌, arith, Bool, true, false, ℕ, suc, zero, ◌+◌, ◌<◌, ◌≤◌, ◌&&◌, List, [], ◌∷◌, Option, Some, None, ◌⊎◌, inl, inr}
use Rattle.std.specs.Prelude.{◌==◌, not, nat_le, slice_get}
use Rattle.std.specs.List.{list_all, list_any}
use Rattle.std.proofs.lemmas.Bool.{and_parts, and_from, or_cases, not-true}
use Rattle.world_model.specs.meaning.Clients.{Client, Doing, Past}
use Rattle.world_model.specs.meaning.Frames.{Owner}
use Rattle.world_model.specs.Sames.{all_with, each_pair, same_owner}
use Rattle.world_model.specs.records.Script.{is_held_by}
use Rattle.world_model.specs.meaning.Settings.{Setting}
use Rattle.world_model.specs.Traced.{Traced, Course, course_now, course_over, courses_from, courses_of, courses_of_clients}
use Rattle.world_model.specs.Words.{held_in}
use Rattle.world_model.proofs.Offered.{append_all, at_all, weaker_all, pair_from, owner_self, same_owner_is, eq_from, eq_to, le_from, le_to, ne_to, not_both}
use Rattle.once_laws.proofs.calls.CallRows.{less_or}
use Rattle.invariant_laws.proofs.Offered.{all_with_is}

-- LISTS -------------------------------------------------------------------------------------------

pub pair_at : {A : Type 0} (test : A → A → Bool) (xs : List A) (place later : ℕ) (x y : A) → place < later → slice_get xs place ≡ Some x → slice_get xs later ≡ Some y → each_pair test xs ≡ true → test x y ≡ true
pair_at test [] place later x y less at there pairs = absurd (let none : ⊥ = cc in none)
pair_at test (z ∷ zs) place zero x y less at there pairs = absurd (let none : ⊥ = omega (arith, less) in none)
pair_at test (z ∷ zs) zero (suc later) x y less at there pairs =
    let same : z ≡ x = cc in ap (λ one. test one y) (sym same) ∙ at_all (test z) zs later y (sym (all_with_is (test z) zs) ∙ (and_parts (all_with (test z) zs) (each_pair test zs) pairs).0) there
pair_at test (z ∷ zs) (suc place) (suc later) x y less at there pairs = pair_at test zs place later x y (omega (arith, less)) at there (and_parts (all_with (test z) zs) (each_pair test zs) pairs).1

-- where one of the list is that passes
pub any_at : {A : Type 0} (test : A → Bool) (xs : List A) → list_any test xs ≡ true → (place : ℕ) × ((x : A) × ((slice_get xs place ≡ Some x) × (test x ≡ true)))
any_at test [] is = absurd (let none : ⊥ = cc in none)
any_at {A} test (x ∷ xs) is = by (or_cases (test x) (list_any test xs) is) (λ later. any_at test xs later)
  where
    by : (test x ≡ true) ⊎ (list_any test xs ≡ true) → (list_any test xs ≡ true → (place : ℕ) × ((y : A) × ((slice_get xs place ≡ Some y) × (test y ≡ true)))) → (place : ℕ) × ((y : A) × ((slice_get (x ∷ xs) place ≡ Some y) × (test y ≡ true)))
    by (inl here) again = (zero, (x, (refl, here)))
    by (inr later) again = let found = again later in (suc found.0, (found.1.0, (found.1.1.0, found.1.1.1)))

-- OWNERS ------------------------------------------------------------------------------------------

abbrev apart : Course → Course → Bool
apart a b = not (same_owner a.owner b.owner)

never_both : (a b : Bool) → b ≡ false → not (a && b) ≡ true
never_both true b is = ap not is
never_both false b is = refl

never_first : (a b : Bool) → a ≡ false → not (a && b) ≡ true
never_first true b is = absurd (let none : ⊥ = cc in none)
never_first false b is = refl

module _ (setting : Setting) where
  abbrev of_client : ℕ → ℕ → Course → Bool
  of_client client place course = (course.owner.client == client) && nat_le place course.owner.place

  all_of : (client place : ℕ) (past : List Past) (now : Option Doing) → list_all (of_client client place) (courses_from setting client place past now) ≡ true
  all_of client place [] None = refl
  all_of client place [] (Some doing) =
      and_from (of_client client place (course_now setting client place doing)) true (and_from (client == client) (nat_le place place) (eq_to client client refl) (le_to place place (omega arith))) refl
  all_of client place (one ∷ past) now =
      and_from (of_client client place (course_over client place one)) (list_all (of_client client place) (courses_from setting client (place + 1) past now))
      (and_from (client == client) (nat_le place place) (eq_to client client refl) (le_to place place (omega arith)))
      (weaker_all (of_client client (place + 1)) (of_client client place) (courses_from setting client (place + 1) past now)
      (λ course is.
      let parts = and_parts (course.owner.client == client) (nat_le (place + 1) course.owner.place) is in
      let most = le_from (place + 1) course.owner.place parts.1 in
      and_from (course.owner.client == client) (nat_le place course.owner.place) parts.0 (le_to place course.owner.place (omega (arith, most)))) (all_of client (place + 1) past now))

  pairs_of : (client place : ℕ) (past : List Past) (now : Option Doing) → each_pair apart (courses_from setting client place past now) ≡ true
  pairs_of client place [] None = refl
  pairs_of client place [] (Some doing) = refl
  pairs_of client place (one ∷ past) now =
      let later : List Course = courses_from setting client (place + 1) past now in
      and_from (all_with (apart (course_over client place one)) later) (each_pair apart later)
      (all_with_is (apart (course_over client place one)) later
      ∙ weaker_all (of_client client (place + 1)) (apart (course_over client place one)) later
      (λ course is.
      let most = le_from (place + 1) course.owner.place (and_parts (course.owner.client == client) (nat_le (place + 1) course.owner.place) is).1 in
      never_both (client == course.owner.client) (place == course.owner.place) (ne_to place course.owner.place (omega (arith, most)))) (all_of client (place + 1) past now)) (pairs_of client (place + 1) past now)

  all_later : (start : ℕ) (clients : List Client) → list_all (λ course. nat_le start course.owner.client) (courses_of_clients setting start clients) ≡ true
  all_later start [] = refl
  all_later start (client ∷ clients) =
      append_all (λ course. nat_le start course.owner.client) (courses_from setting start 0 client.past client.now) (courses_of_clients setting (start + 1) clients)
      (weaker_all (of_client start 0) (λ course. nat_le start course.owner.client) (courses_from setting start 0 client.past client.now)
      (λ course is.
      let same = eq_from course.owner.client start (and_parts (course.owner.client == start) (nat_le 0 course.owner.place) is).0 in
      le_to start course.owner.client (omega (arith, same))) (all_of start 0 client.past client.now))
      (weaker_all (λ course. nat_le (start + 1) course.owner.client) (λ course. nat_le start course.owner.client) (courses_of_clients setting (start + 1) clients)
      (λ course is. let most = le_from (start + 1) course.owner.client is in le_to start course.owner.client (omega (arith, most))) (all_later (start + 1) clients))

  all_pairs : (start : ℕ) (clients : List Client) → each_pair apart (courses_of_clients setting start clients) ≡ true
  all_pairs start [] = refl
  all_pairs start (client ∷ clients) =
      pair_from apart (courses_from setting start 0 client.past client.now) (courses_of_clients setting (start + 1) clients) (record {
        first = pairs_of start 0 client.past client.now;
        second = all_pairs (start + 1) clients;
        across =
            weaker_all (of_client start 0) (λ one. all_with (apart one) (courses_of_clients setting (start + 1) clients)) (courses_from setting start 0 client.past client.now)
            (λ one is.
            let same = eq_from one.owner.client start (and_parts (one.owner.client == start) (nat_le 0 one.owner.place) is).0 in
            all_with_is (apart one) (courses_of_clients setting (start + 1) clients)
            ∙ weaker_all (λ course. nat_le (start + 1) course.owner.client) (apart one) (courses_of_clients setting (start + 1) clients)
            (λ course later.
            let most = le_from (start + 1) course.owner.client later in
            never_first (one.owner.client == course.owner.client) (one.owner.place == course.owner.place) (ne_to one.owner.client course.owner.client (omega (arith, same, most)))) (all_later (start + 1) clients)) (all_of start 0 client.past client.now);
      })

pub one_course : (t : Traced) (a b : ℕ) (c d : Course) → slice_get (courses_of t) a ≡ Some c → slice_get (courses_of t) b ≡ Some d → c.owner ≡ d.owner → c ≡ d
one_course t a b c d at there same = by (less_or a b) (less_or b a)
  where
    pairs : each_pair apart (courses_of t) ≡ true
    pairs = all_pairs t.setting 1 t.machine.clients

    clash : {A : Type 0} (x y : Course) → x.owner ≡ y.owner → apart x y ≡ true → A
    clash x y equal is = absurd (not_both (same_owner x.owner y.owner) (ap (same_owner x.owner) (sym equal) ∙ owner_self x.owner) (not-true (same_owner x.owner y.owner) is))

    by : (a < b) ⊎ (b ≤ a) → (b < a) ⊎ (a ≤ b) → c ≡ d
    by (inl less) other = clash c d same (pair_at apart (courses_of t) a b c d less at there pairs)
    by (inr most) (inl less) = clash d c (sym same) (pair_at apart (courses_of t) b a d c less there at pairs)
    by (inr most) (inr upto) =
        let equal : a ≡ b = omega (arith, most, upto) in
        let both : Some c ≡ Some d = sym at ∙ (ap (slice_get (courses_of t)) equal ∙ there) in
        let is : c ≡ d = cc in
        is

-- the request that had a connection
pub record HadBy (t : Traced) (number : ℕ) (owner : Owner) : Type 0 where
  pub place : ℕ
  pub course : Course
  pub at : slice_get (courses_of t) place ≡ Some course
  pub mine : course.owner ≡ owner
  pub had : list_any (λ other. other == number) (held_in course.steps) ≡ true

pub had_by : (t : Traced) (number : ℕ) (owner : Owner) → is_held_by (courses_of t) number owner ≡ true → HadBy t number owner
had_by t number owner held =
    let found = any_at (λ (course : Course). same_owner course.owner owner && list_any (λ other. other == number) (held_in course.steps)) (courses_of t) held in
    let parts = and_parts (same_owner found.1.0.owner owner) (list_any (λ other. other == number) (held_in found.1.0.steps)) found.1.1.1 in
    record { place = found.0; course = found.1.0; at = found.1.1.0; mine = same_owner_is found.1.0.owner owner parts.0; had = parts.1 }
