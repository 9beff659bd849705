-- The words of `load`.
use Rattle.std.specs.Prelude.{ℕ, ◌≤◌, ◌^◌, ◌==◌, ◌&&◌, not, nat_lt, Bool, true, false, List, [], ◌∷◌, Option, Some, None, if◌then◌else◌, codes}
use Rattle.std.specs.Char.{is_ascii_digit}
use Rattle.std.specs.List.{list_all}
use Rattle.std.specs.Str.{bytes_eq}
use Rattle.std.specs.Str.Parse.{digits_value}
use Rattle.document_forms.specs.Numbers.{is_between}
use Rattle.command_words.specs.declared.command.Command.{Command}
use Rattle.command_words.specs.declared.command.Command.TheVariants as command

-- a byte, and no zero that others follow
abbrev pub begins_as_numeral : List ℕ → Bool
begins_as_numeral [] = false
begins_as_numeral (first ∷ []) = true
begins_as_numeral (first ∷ others) = not (first == 48)

-- decimal digits with no zero in front, but for 0 alone
unfoldable pub is_numeral : List ℕ → Bool
is_numeral digits = begins_as_numeral digits && list_all is_ascii_digit digits

-- the number of 64 bits that a word is
unfoldable pub number_of : List ℕ → Option ℕ
number_of word = if is_numeral word && nat_lt (digits_value 10 word) (2 ^ 64) then
    Some (digits_value 10 word) else None

-- 1 to 64 clients, and 1 to 10 requests of each
abbrev pub load_within : ℕ → ℕ → ℕ → Option Command
load_within seed clients requests = if is_between 1 64 clients && is_between 1 10 requests then
    Some (command.Load seed clients requests) else None

abbrev pub load_of : Option ℕ → Option ℕ → Option ℕ → Option Command
load_of (Some seed) (Some clients) (Some requests) = load_within seed clients requests
load_of _ _ _ = None

-- `load` and three numbers
abbrev pub load_in : List ℕ → List ℕ → List ℕ → List ℕ → Option Command
load_in name seed clients requests =
    if bytes_eq name (codes "load") then load_of (number_of seed) (number_of clients)
    (number_of requests) else None

-- The numbers of a load are within their limits.
pub record HasLoadNumbers (clients requests : ℕ) : Type 0 where
  pub some : 1 ≤ clients
  pub few : clients ≤ 64
  pub some_requests : 1 ≤ requests
  pub few_requests : requests ≤ 10

-- so are those of a command that has any
abbrev pub HasItsNumbers : Command → Type 0
HasItsNumbers (command.Load seed clients requests) = HasLoadNumbers clients requests
HasItsNumbers command.Run = Unit {0}
HasItsNumbers command.Cover = Unit {0}
HasItsNumbers command.Check = Unit {0}
