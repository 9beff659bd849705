-- Objects: which members stand there, and what stands at their names.
use Rattle.std.specs.Prelude.{ℕ, List, [], ◌∷◌, Bool, if◌then◌else◌, Option, Some, None, is_some, Result, Ok, Err, ⊤}
use Rattle.std.specs.List.{list_any}
use Rattle.std.specs.Str.{bytes_eq}
use Rattle.serde_json.specs.Data.{Data, Members, no_members, member}
use Rattle.serde_json.specs.Find.{get_member}
use Rattle.json_form.specs.declared.fault.DocCode.TheVariants.{Missing, Unknown}
use Rattle.json_form.specs.meaning.Faults.{Fault, ◌>>=◌, here, under, within}
use Rattle.json_form.specs.meaning.Pointers.{escaped}
use Rattle.json_form.specs.meaning.Values.{members_of}

-- a name that is one of those named
abbrev pub is_among : List (List ℕ) → List ℕ → Bool
is_among names name = list_any (λ n. bytes_eq n name) names

-- Each member is one of those named. The first other one, in order of bytes, is the fault.
abbrev pub known : List (List ℕ) → Members → Result ⊤ Fault
known names no_members = Ok tt
known names (member name d ms) = if is_among names name then known names ms else
    Err (under (escaped name) (here Unknown))

-- what stands at each name
abbrev pub Named : Type 0
Named = List ℕ → Option Data

abbrev pub named : Members → Named
named ms name = get_member name ms

-- the members of an object that has none but those named
abbrev pub object_with : List (List ℕ) → Data → Result Named Fault
object_with names d = members_of d >>= λ ms. known names ms >>= λ _. Ok (named ms)

-- there is a member with this name
unfoldable pub has : List ℕ → Named → Bool
has name ms = is_some (ms name)

-- the member with this name, if it is there
abbrev pub present : List ℕ → Option Data → Result Data Fault
present name None = Err (under (escaped name) (here Missing))
present name (Some d) = Ok d

-- a member that has to be there
unfoldable pub required : List ℕ → Named → Result Data Fault
required name ms = present name (ms name)

-- the members with these names are there; the first one that is not, in this order, is the fault
abbrev pub all_there : List (List ℕ) → Named → Result ⊤ Fault
all_there [] ms = Ok tt
all_there (name ∷ names) ms = required name ms >>= λ _. all_there names ms

-- a member that has to be there, read; a fault is placed there
unfoldable pub member_in : {A : Type 0} → List ℕ → (Data → Result A Fault) → Named → Result A Fault
member_in name read ms = required name ms >>= λ d. within name (read d)

-- what the member is read as, or what stands for it where it is missing
abbrev pub read_or : {A : Type 0} → List ℕ → A → (Data → Result A Fault) → Option Data
    → Result A Fault
read_or name otherwise read None = Ok otherwise
read_or name otherwise read (Some d) = within name (read d)

-- a member that may be missing
unfoldable pub optional : {A : Type 0} → List ℕ → A → (Data → Result A Fault) → Named
    → Result A Fault
optional name otherwise read ms = read_or name otherwise read (ms name)
