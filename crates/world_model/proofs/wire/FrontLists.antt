-- Fronts of lists: of longer lists, shortened, continued, filtered.
use Rattle.std.proofs.Common.{◌≡◌, refl, sym, ap, subst, ◌∙◌, Bool, true, false, ℕ, ◌-◌, cond, length, append_assoc, List, [], ◌∷◌, ◌++◌, map, Option, Some, if◌then◌else◌, arith}
use Rattle.std.specs.Prelude.{nat_le, filter}
use Rattle.std.specs.List.{last_or}
use Rattle.std.specs.Option.{option_map_or}
use Rattle.std.proofs.lemmas.Bool.{and_parts, and_from}
use Rattle.std.proofs.lemmas.List.{append-nil, map-append}
use Rattle.world_model.specs.meaning.Frames.{whole_front}
use Rattle.world_model.specs.Sames.{is_front}

-- BEGINNINGS --------------------------------------------------------------------------------------

-- the second list begins with the first
pub record Begins {A : Type 0} (xs zs : List A) : Type 0 where
  pub rest : List A
  pub whole : xs ++ rest ≡ zs

pub begins_behind : {A : Type 0} (xs ys zs : List A) → Begins ys zs → Begins (xs ++ ys) (xs ++ zs)
begins_behind xs ys zs b = record { rest = b.rest; whole = append_assoc xs ys b.rest ∙ ap (λ end. xs ++ end) b.whole }

pub begins_mapped : {A B : Type 0} (f : A → B) (xs zs : List A) → Begins xs zs → Begins (map f xs) (map f zs)
begins_mapped f xs zs b = record { rest = map f b.rest; whole = sym (map-append f xs b.rest) ∙ ap (map f) b.whole }

begins_if : {A : Type 0} (test : Bool) (x : A) (xs zs : List A) → Begins xs zs → Begins (if test then x ∷ xs else []) (x ∷ zs)
begins_if true x xs zs b = record { rest = b.rest; whole = ap (λ end. x ∷ end) b.whole }
begins_if false x xs zs b = record { rest = x ∷ zs; whole = refl }

-- those that lie whole in so many bytes
pub whole_begins : {A : Type 0} (size : A → ℕ) (bytes : ℕ) (xs : List A) → Begins (whole_front size bytes xs) xs
whole_begins size bytes [] = record { rest = []; whole = refl }
whole_begins size bytes (x ∷ xs) = begins_if (nat_le (size x) bytes) x (whole_front size (bytes - size x) xs) xs (whole_begins size (bytes - size x) xs)

-- these, or none
pub left_begins : {A : Type 0} (test : Bool) (xs : List A) → Begins (if test then xs else []) xs
left_begins true xs = record { rest = []; whole = append-nil xs }
left_begins false xs = record { rest = xs; whole = refl }

-- FRONTS ------------------------------------------------------------------------------------------

pub front_self : {A : Type 0} (same : A → A → Bool) → ((x : A) → same x x ≡ true) → (xs : List A) → is_front same xs xs ≡ true
front_self same self [] = refl
front_self same self (x ∷ xs) = and_from (same x x) (is_front same xs xs) (self x) (front_self same self xs)

-- the list goes on
pub front_more : {A : Type 0} (same : A → A → Bool) (xs zs ws : List A) → is_front same xs zs ≡ true → is_front same xs (zs ++ ws) ≡ true
front_more same [] zs ws is = refl
front_more same (x ∷ xs) [] ws is = absurd (let none : ⊥ = cc in none)
front_more same (x ∷ xs) (z ∷ zs) ws is =
    let parts = and_parts (same x z) (is_front same xs zs) is in and_from (same x z) (is_front same xs (zs ++ ws)) parts.0 (front_more same xs zs ws parts.1)

-- front and list go on alike, where the front is as long as the list
pub front_join : {A : Type 0} (same : A → A → Bool) (xs zs us ws : List A) → is_front same xs zs ≡ true → length xs ≡ length zs → is_front same us ws ≡ true → is_front same (xs ++ us) (zs ++ ws) ≡ true
front_join same [] [] us ws is long more = more
front_join same [] (z ∷ zs) us ws is long more = absurd (let none : ⊥ = omega arith in none)
front_join same (x ∷ xs) [] us ws is long more = absurd (let none : ⊥ = cc in none)
front_join same (x ∷ xs) (z ∷ zs) us ws is long more =
    let parts = and_parts (same x z) (is_front same xs zs) is in
    let rest : length xs ≡ length zs = omega arith in
    and_from (same x z) (is_front same (xs ++ us) (zs ++ ws)) parts.0 (front_join same xs zs us ws parts.1 rest more)

front_short : {A : Type 0} (same : A → A → Bool) (xs ys zs : List A) → is_front same (xs ++ ys) zs ≡ true → is_front same xs zs ≡ true
front_short same [] ys zs is = refl
front_short same (x ∷ xs) ys [] is = absurd (let none : ⊥ = cc in none)
front_short same (x ∷ xs) ys (z ∷ zs) is =
    let parts = and_parts (same x z) (is_front same (xs ++ ys) zs) is in and_from (same x z) (is_front same xs zs) parts.0 (front_short same xs ys zs parts.1)

-- what begins a front is one
pub front_begun : {A : Type 0} (same : A → A → Bool) (xs ys zs : List A) → Begins xs ys → is_front same ys zs ≡ true → is_front same xs zs ≡ true
front_begun {A = A} same xs ys zs b is = front_short same xs b.rest zs (subst (λ (front : List A). is_front same front zs ≡ true) (sym b.whole) is)

-- one more, where a front as long goes on so
pub front_next : {A : Type 0} (same : A → A → Bool) (xs ws zs bs : List A) (a : A) → is_front same xs zs ≡ true → is_front same (ws ++ a ∷ bs) zs ≡ true → length xs ≡ length ws
    → is_front same (xs ++ a ∷ []) zs ≡ true
front_next same [] [] [] bs a is next long = absurd (let none : ⊥ = cc in none)
front_next same [] [] (z ∷ zs) bs a is next long = and_from (same a z) true (and_parts (same a z) (is_front same bs zs) next).0 refl
front_next same [] (w ∷ ws) zs bs a is next long = absurd (let none : ⊥ = omega arith in none)
front_next same (x ∷ xs) [] zs bs a is next long = absurd (let none : ⊥ = omega arith in none)
front_next same (x ∷ xs) (w ∷ ws) [] bs a is next long = absurd (let none : ⊥ = cc in none)
front_next same (x ∷ xs) (w ∷ ws) (z ∷ zs) bs a is next long =
    let one = and_parts (same x z) (is_front same xs zs) is in
    let two = and_parts (same w z) (is_front same (ws ++ a ∷ bs) zs) next in
    let rest : length xs ≡ length ws = omega arith in
    and_from (same x z) (is_front same (xs ++ a ∷ []) zs) one.0 (front_next same xs ws zs bs a one.1 two.1 rest)

-- FILTERED ----------------------------------------------------------------------------------------

filtered_one : {A : Type 0} (same : A → A → Bool) (x z : A) (xs zs : List A) (a b : Bool) → a ≡ b → same x z ≡ true → is_front same xs zs ≡ true → is_front same (cond a (x ∷ xs) xs) (cond b (z ∷ zs) zs) ≡ true
filtered_one same x z xs zs true true is one rest = and_from (same x z) (is_front same xs zs) one rest
filtered_one same x z xs zs false false is one rest = rest
filtered_one same x z xs zs true false is one rest = absurd (let none : ⊥ = cc in none)
filtered_one same x z xs zs false true is one rest = absurd (let none : ⊥ = cc in none)

-- what passes a test that does not tell the same apart
pub front_filter : {A : Type 0} (same : A → A → Bool) (test : A → Bool) → ((x z : A) → same x z ≡ true → test x ≡ test z) → (xs zs : List A) → is_front same xs zs ≡ true
    → is_front same (filter test xs) (filter test zs) ≡ true
front_filter same test respects [] zs is = refl
front_filter same test respects (x ∷ xs) [] is = absurd (let none : ⊥ = cc in none)
front_filter same test respects (x ∷ xs) (z ∷ zs) is =
    let parts = and_parts (same x z) (is_front same xs zs) is in
    filtered_one same x z (filter test xs) (filter test zs) (test x) (test z) (respects x z parts.0) parts.0 (front_filter same test respects xs zs parts.1)

-- THE LAST ONE ------------------------------------------------------------------------------------

-- where the last one passes the test it is the last that does
pub last_kept : {A : Type 0} (test : A → Bool) (a b : Option A) (xs : List A) → (option_map_or test a false ≡ true → b ≡ a) → option_map_or test (last_or a xs) false ≡ true → last_or b (filter test xs) ≡ last_or a xs
last_kept test a b [] same is = same is
last_kept {A} test a b (one ∷ others) same is = by (test one) (λ now. last_kept test (Some one) (Some one) others (λ here. refl) now) (λ other now. last_kept test (Some one) b others other now) refl
  where
    by : (kept : Bool) → (option_map_or test (last_or (Some one) others) false ≡ true → last_or (Some one) (filter test others) ≡ last_or (Some one) others)
        → ((test one ≡ true → b ≡ Some one) → option_map_or test (last_or (Some one) others) false ≡ true → last_or b (filter test others) ≡ last_or (Some one) others) → test one ≡ kept
        → last_or b (cond kept (one ∷ filter test others) (filter test others)) ≡ last_or (Some one) others
    by true with it kept = with is
    by false with it kept = it (λ here. absurd (let none : ⊥ = cc in none)) is

pub last_pushed : {A : Type 0} (a : Option A) (xs : List A) (x : A) → last_or a (xs ++ x ∷ []) ≡ Some x
last_pushed a [] x = refl
last_pushed a (y ∷ xs) x = last_pushed (Some y) xs x

-- of two lists of one length of which one begins with the other the last ones are alike
pub last_alike : {A : Type 0} (same : A → A → Bool) (a b : Option A) (xs zs : List A) (x : A) → is_front same xs zs ≡ true → length xs ≡ length zs → ((y : A) → a ≡ Some y → (z : A) × ((b ≡ Some z) × (same y z ≡ true))) → last_or a xs ≡ Some x
    → (z : A) × ((last_or b zs ≡ Some z) × (same x z ≡ true))
last_alike same a b [] [] x front long alike is = alike x is
last_alike same a b [] (z ∷ zs) x front long alike is = absurd (let none : ⊥ = cc in none)
last_alike same a b (y ∷ xs) [] x front long alike is = absurd (let none : ⊥ = cc in none)
last_alike {A} same a b (y ∷ xs) (z ∷ zs) x front long alike is =
    let parts = and_parts (same y z) (is_front same xs zs) front in
    let rest : length xs ≡ length zs = cc in
    last_alike same (Some y) (Some z) xs zs x parts.1 rest (λ w here. let equal : y ≡ w = cc in (z, (refl, subst (λ (v : A). same v z ≡ true) equal parts.0))) is
