-- Words that are not four are no command but the one that a single word names, and what a numeral
-- is.
use Rattle.std.proofs.Common.{◌≡◌, ◌∙◌, ℕ, ◌<◌, ◌^◌, ◌&&◌, Bool, true, false, nat_lt, List, [], ◌∷◌, length, Option, Some, None, Result, Ok, Err, String, refl, sym, ap, arith, rules, if◌then◌else◌}
use Rattle.std.specs.declared.alloc.Global.{Global}
use Rattle.std.specs.Char.{is_ascii_digit}
use Rattle.std.specs.List.{list_all}
use Rattle.std.specs.Result.{OkIff, result_ok}
use Rattle.std.specs.Str.Parse.{digits_value, ParsesUnsigned}
use Rattle.std.proofs.lemmas.Bool.Decides.{nat_tests}
use Rattle.std.proofs.lemmas.Str.Parse.{IsNumeralModel, IsDigitsTest, numerals_by_value, parse_digits}
use Rattle.command_words.specs.LoadWords.{begins_as_numeral, is_numeral, number_of}
use Rattle.command_words.specs.Words.{command_of}
use Rattle.command_words.specs.InnerWords.{named_in}

pub others_named : (words : List (String Global)) → (length words ≡ 4 → ⊥) → named_in words ≡ command_of words
others_named [] other = refl
others_named (a ∷ []) other = refl
others_named (a ∷ b ∷ []) other = refl
others_named (a ∷ b ∷ c ∷ []) other = refl
others_named (a ∷ b ∷ c ∷ d ∷ []) other = absurd (other refl)
others_named (a ∷ b ∷ c ∷ d ∷ e ∷ more) other = refl

digits_test : IsDigitsTest (λ ds. list_all is_ascii_digit ds ≡ true)
digits_test = search rules

own : IsNumeralModel (λ ds. list_all is_ascii_digit ds ≡ true) (digits_value 10)
own = numerals_by_value _ digits_test

some_bytes : (digits : List ℕ) → begins_as_numeral digits ≡ true → 0 < length digits
some_bytes [] begins = let none : ⊥ = cc in absurd none
some_bytes (first ∷ rest) begins = omega arith

parts : (a b : Bool) → (a && b) ≡ true → (a ≡ true) × (b ≡ true)
parts true true h = (refl, refl)
parts true false h = cc
parts false b h = cc

chosen : (a b : Bool) (n : ℕ) → a ≡ true → b ≡ true → (if a && b then Some n else None) ≡ Some n
chosen true true n is is_too = refl
chosen true false n is is_too = let none : ⊥ = cc in absurd none
chosen false b n is is_too = let none : ⊥ = cc in absurd none

left_out : (a b : Bool) (n : ℕ) → b ≡ false → (if a && b then Some n else None) ≡ None
left_out true false n is_not = refl
left_out false b n is_not = refl
left_out true true n is_not = let none : ⊥ = cc in absurd none

by_size : (below : Bool) (n most : ℕ) → nat_lt n most ≡ below → (n < most → ⊥) → nat_lt n most ≡ false
by_size false n most is over = is
by_size true n most is over = absurd (over (grind (arith, nat_tests)))

read_by : {E : Type 0} (word : List ℕ) (read : Result ℕ E) → is_numeral word ≡ true → 0 < length word
    → OkIff read ((0 < length word) × (digits_value 10 word < 2 ^ 64)) (digits_value 10 word) → number_of word ≡ result_ok read
unfolding number_of
read_by word (Ok n) numeral some is =
    let below : nat_lt (digits_value 10 word) (2 ^ 64) ≡ true = grind (arith, nat_tests) in
    chosen (is_numeral word) _ (digits_value 10 word) numeral below ∙ ap (λ m. Some m) (sym is.1)
read_by word (Err e) numeral some is =
    left_out (is_numeral word) _ (digits_value 10 word) (by_size _ (digits_value 10 word) (2 ^ 64) refl (λ below. is (some, below)))

-- a numeral is the number that is read
pub read_so : {E : Type 0} (word : List ℕ) (read : Result ℕ E) → is_numeral word ≡ true → ParsesUnsigned 64 10 word read
    → number_of word ≡ result_ok read
unfolding is_numeral
read_so word read numeral parses =
    let both = parts (begins_as_numeral word) (list_all is_ascii_digit word) numeral in
    read_by word read numeral (some_bytes word both.0) (parse_digits own 64 word read parses both.1)

-- and what is none is no number
pub none_read : (word : List ℕ) → is_numeral word ≡ false → number_of word ≡ None
unfolding number_of
none_read word other = ap (λ is. if is && nat_lt (digits_value 10 word) (2 ^ 64) then Some (digits_value 10 word) else None) other

pub number_read : {E : Type 0} (word : List ℕ) (read : Result ℕ E) (found : Option ℕ) → found ≡ result_ok read → is_numeral word ≡ true
    → ParsesUnsigned 64 10 word read → found ≡ number_of word
number_read word read found is numeral parses = is ∙ sym (read_so word read numeral parses)

pub no_number : (word : List ℕ) → is_numeral word ≡ false → None ≡ number_of word
no_number word other = sym (none_read word other)
