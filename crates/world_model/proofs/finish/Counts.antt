-- How many requests in course pass a test, counted over clients.
use Rattle.std.proofs.Common.{◌≡◌, sym, refl, ap, ◌∙◌, Bool, true, false, ℕ, suc, zero, ◌+◌, ◌≤◌, cond, List, [], ◌∷◌, count_by, Option, Some, None, arith}
use Rattle.std.specs.Prelude.{slice_get, slice_set}
use Rattle.std.specs.Option.{option_map_or}
use Rattle.std.proofs.lemmas.List.Sums.{sum_by-cons, sum_by-append}
use Rattle.world_model.specs.meaning.Settings.{Setting}
use Rattle.world_model.specs.meaning.Clients.{Past, Doing, Client, client_at, with_client}
use Rattle.world_model.specs.Traced.{Course, course_over, course_now, courses_from, courses_of_clients}

-- the request in course passes
abbrev pub going_passes : (Doing → Bool) → Option Doing → Bool
going_passes going now = option_map_or going now false

abbrev pub goes_so : (Doing → Bool) → Client → Bool
goes_so going client = going_passes going client.now

-- CLIENTS -----------------------------------------------------------------------------------------

module _ (test : Course → Bool) (going : Doing → Bool) (over : (client place : ℕ) (past : Past) → test (course_over client place past) ≡ false)
    (now_is : (setting : Setting) (client place : ℕ) (doing : Doing) → test (course_now setting client place doing) ≡ going doing) where
  from_count : (setting : Setting) (client place : ℕ) (past : List Past) (now : Option Doing) → count_by test (courses_from setting client place past now) ≡ cond (going_passes going now) 1 0
  from_count setting client place [] None = refl
  from_count setting client place [] (Some doing) =
      let split : count_by test (course_now setting client place doing ∷ []) ≡ cond (test (course_now setting client place doing)) 1 0 + count_by test [] = sum_by-cons (λ (course : Course). cond (test course) 1 0) (course_now setting client place doing) [] in
      let same : ◌≡◌ {A = ℕ} (cond (test (course_now setting client place doing)) 1 0) (cond (going doing) 1 0) = ap (λ (b : Bool). cond b 1 0) (now_is setting client place doing) in
      omega arith
  from_count setting client place (one ∷ past) now =
      let rest : count_by test (courses_from setting client (place + 1) past now) ≡ cond (going_passes going now) 1 0 = from_count setting client (place + 1) past now in
      let split : count_by test (course_over client place one ∷ courses_from setting client (place + 1) past now) ≡ cond (test (course_over client place one)) 1 0 + count_by test (courses_from setting client (place + 1) past now)
      = sum_by-cons (λ (course : Course). cond (test course) 1 0) (course_over client place one) (courses_from setting client (place + 1) past now) in
      let none : ◌≡◌ {A = ℕ} (cond (test (course_over client place one)) 1 0) 0 = ap (λ (b : Bool). cond b 1 0) (over client place one) in
      omega arith

  pub clients_count : (setting : Setting) (number : ℕ) (clients : List Client) → count_by test (courses_of_clients setting number clients) ≡ count_by (goes_so going) clients
  clients_count setting number [] = refl
  clients_count setting number (client ∷ clients) =
      sum_by-append (λ (course : Course). cond (test course) 1 0) (courses_from setting number 0 client.past client.now) (courses_of_clients setting (number + 1) clients)
      ∙ (ap (λ (n : ℕ). n + count_by test (courses_of_clients setting (number + 1) clients)) (from_count setting number 0 client.past client.now)
      ∙ (ap (λ (n : ℕ). cond (going_passes going client.now) 1 0 + n) (clients_count setting (number + 1) clients) ∙ sym (sum_by-cons (λ (one : Client). cond (goes_so going one) 1 0) client clients)))

-- ONE OF THEM -------------------------------------------------------------------------------------

-- where one goes on
set_count : {A : Type 0} (test : A → Bool) (all : List A) (index : ℕ) (one next : A) → slice_get all index ≡ Some one
    → count_by test (slice_set all index next) + cond (test one) 1 0 ≡ count_by test all + cond (test next) 1 0
set_count test [] index one next is = absurd (let none : ⊥ = cc in none)
set_count {A} test (first ∷ all) zero one next is =
    let same : first ≡ one = cc in
    let after : count_by test (next ∷ all) ≡ cond (test next) 1 0 + count_by test all = sum_by-cons (λ (x : A). cond (test x) 1 0) next all in
    let before : count_by test (first ∷ all) ≡ cond (test first) 1 0 + count_by test all = sum_by-cons (λ (x : A). cond (test x) 1 0) first all in
    let first_is : ◌≡◌ {A = ℕ} (cond (test first) 1 0) (cond (test one) 1 0) = ap (λ (x : A). cond (test x) 1 0) same in
    turned (cond (test first) 1 0) (cond (test one) 1 0) (cond (test next) 1 0) (count_by test all) (count_by test (next ∷ all)) (count_by test (first ∷ all)) after before first_is
  where
    turned : (a b c n x y : ℕ) → x ≡ c + n → y ≡ a + n → a ≡ b → x + b ≡ y + c
    turned a b c n x y after before first_is = omega arith
set_count {A} test (first ∷ all) (suc index) one next is =
    let rest = set_count test all index one next is in
    let after : count_by test (first ∷ slice_set all index next) ≡ cond (test first) 1 0 + count_by test (slice_set all index next) = sum_by-cons (λ (x : A). cond (test x) 1 0) first (slice_set all index next) in
    let before : count_by test (first ∷ all) ≡ cond (test first) 1 0 + count_by test all = sum_by-cons (λ (x : A). cond (test x) 1 0) first all in
    turned (cond (test first) 1 0) (cond (test one) 1 0) (cond (test next) 1 0) (count_by test (slice_set all index next)) (count_by test all) (count_by test (first ∷ slice_set all index next)) (count_by test (first ∷ all)) after before rest
  where
    turned : (a b c m n x y : ℕ) → x ≡ a + m → y ≡ a + n → m + b ≡ n + c → x + b ≡ y + c
    turned a b c m n x y after before rest = omega arith

pub with_count : (test : Client → Bool) (clients : List Client) (number : ℕ) (client next : Client) → client_at clients number ≡ Some client
    → count_by test (with_client clients number next) + cond (test client) 1 0 ≡ count_by test clients + cond (test next) 1 0
with_count test clients zero client next is = absurd (let none : ⊥ = cc in none)
with_count test clients (suc index) client next is = set_count test clients index client next is

-- none of them passes
pub count_none : {A : Type 0} (test : A → Bool) (all : List A) → ((index : ℕ) (one : A) → slice_get all index ≡ Some one → test one ≡ false) → count_by test all ≡ 0
count_none test [] none = refl
count_none {A} test (first ∷ all) none =
    let split : count_by test (first ∷ all) ≡ cond (test first) 1 0 + count_by test all = sum_by-cons (λ (x : A). cond (test x) 1 0) first all in
    let here : ◌≡◌ {A = ℕ} (cond (test first) 1 0) 0 = ap (λ (b : Bool). cond b 1 0) (none zero first refl) in
    let rest : count_by test all ≡ 0 = count_none test all (λ index one is. none (suc index) one is) in
    omega arith

-- one of them that passes
pub count_some : {A : Type 0} (test : A → Bool) (all : List A) (index : ℕ) (one : A) → slice_get all index ≡ Some one → test one ≡ true → 1 ≤ count_by test all
count_some test [] index one is here = absurd (let none : ⊥ = cc in none)
count_some {A} test (first ∷ all) zero one is here =
    let same : first ≡ one = cc in
    let split : count_by test (first ∷ all) ≡ cond (test first) 1 0 + count_by test all = sum_by-cons (λ (x : A). cond (test x) 1 0) first all in
    let passes : ◌≡◌ {A = ℕ} (cond (test first) 1 0) 1 = ap (λ (b : Bool). cond b 1 0) (ap test same ∙ here) in
    omega arith
count_some {A} test (first ∷ all) (suc index) one is here =
    let split : count_by test (first ∷ all) ≡ cond (test first) 1 0 + count_by test all = sum_by-cons (λ (x : A). cond (test x) 1 0) first all in
    let rest : 1 ≤ count_by test all = count_some test all index one is here in
    omega arith
