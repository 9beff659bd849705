-- The connections that a request held: the last one, and those before it, which it lost.
use Rattle.std.proofs.Common.{◌≡◌, refl, sym, ap, subst, ◌∙◌, Bool, true, false, ℕ, fold, List, [], ◌∷◌, ◌++◌, Option, Some, None, if◌then◌else◌}
use Rattle.std.specs.Prelude.{filter_map}
use Rattle.std.specs.List.{list_any, last_or, cons_option}
use Rattle.std.specs.Option.{option_or}
use Rattle.std.proofs.lemmas.List.{append-nil}
use Rattle.std.proofs.lemmas.List.Folds.{list_any-append}
use Rattle.std.proofs.lemmas.Bool.{or_left}
use Rattle.client_model.specs.declared.input.Input.{Input}
use Rattle.client_model.specs.declared.input.Input.TheVariants.{Start, Waiting, Lent, Opened, TryFailed, Took, Gone}
use Rattle.world_model.specs.meaning.Clients.{Step}
use Rattle.world_model.specs.records.Conversing.{connected, connection_after}
use Rattle.invariant_laws.specs.Lost.{without_last}
use Rattle.world_model.specs.Words.{brought, held_in}
use Rattle.world_model.proofs.Offered.{Begins}

-- THE LAST ONE ------------------------------------------------------------------------------------

pub without_pushed : (numbers : List ℕ) (number : ℕ) → without_last (numbers ++ number ∷ []) ≡ numbers
without_pushed [] number = refl
without_pushed (one ∷ []) number = refl
without_pushed (one ∷ next ∷ others) number = ap (λ (rest : List ℕ). one ∷ rest) (without_pushed (next ∷ others) number)

pub last_split : (numbers : List ℕ) (number : ℕ) → last_or None numbers ≡ Some number → numbers ≡ without_last numbers ++ number ∷ []
last_split [] number is = absurd (let none : ⊥ = cc in none)
last_split (one ∷ []) number is = let same : one ≡ number = cc in ap (λ (n : ℕ). n ∷ []) same
last_split (one ∷ next ∷ others) number is = ap (λ (rest : List ℕ). one ∷ rest) (last_split (next ∷ others) number is)

last_brought : (last found : Option ℕ) (rest : List ℕ) → last_or last (cons_option found rest) ≡ last_or (option_or found last) rest
last_brought last None rest = refl
last_brought last (Some number) rest = refl

next_last : (had last : Option ℕ) (input : Input) → ((number : ℕ) → had ≡ Some number → last ≡ Some number) → (number : ℕ) → connected had input ≡ Some number → option_or (brought input) last ≡ Some number
next_last had last Start leads number is = leads number is
next_last had last Waiting leads number is = leads number is
next_last had last (Lent connection ltxid) leads number is = is
next_last had last (Opened connection) leads number is = is
next_last had last TryFailed leads number is = leads number is
next_last had last (Took frame alive) leads number is = leads number is
next_last had last (Gone event) leads number is = absurd (let none : ⊥ = cc in none)

last_leads : (had last : Option ℕ) (steps : List Step) → ((number : ℕ) → had ≡ Some number → last ≡ Some number) → (number : ℕ) → fold (λ (one : Option ℕ) (step : Step). connected one step.done.input) had steps ≡ Some number
    → last_or last (filter_map (λ (step : Step). brought step.done.input) steps) ≡ Some number
last_leads had last [] leads number is = leads number is
last_leads had last (step ∷ steps) leads number is =
    last_brought last (brought step.done.input) (filter_map (λ (s : Step). brought s.done.input) steps)
    ∙ last_leads (connected had step.done.input) (option_or (brought step.done.input) last) steps (next_last had last step.done.input leads) number is

-- the connection that a request has is the last that it held
pub has_last_held : (steps : List Step) (number : ℕ) → connection_after steps ≡ Some number → last_or None (held_in steps) ≡ Some number
has_last_held steps number is = last_leads None None steps (λ other never. absurd (let none : ⊥ = cc in none)) number is

-- LOST --------------------------------------------------------------------------------------------

-- those that it lost, where it has its last one or not
abbrev pub lost_of : Bool → List ℕ → List ℕ
lost_of has held = if has then without_last held else held

-- in a step none is lost, or the one that the request had, which is left so
pub data LostMore (left : ℕ → Type 0) (had : Option ℕ) (before : List ℕ) : List ℕ → Type 0 where
  NoneLost : LostMore left had before before
  OneLost : (number : ℕ) → had ≡ Some number → left number → LostMore left had before (before ++ number ∷ [])

module _ (left : ℕ → Type 0) where
  pub lost_begins : (had : Option ℕ) (before after : List ℕ) → LostMore left had before after → Begins before after
  lost_begins had before _ NoneLost = record { rest = []; whole = append-nil before }
  lost_begins had before _ (OneLost number is lost) = record { rest = number ∷ []; whole = refl }

  -- one that is brought is had, and all before it are lost
  pub brings_more : (held : List ℕ) (number : ℕ) → LostMore left None held (lost_of true (held ++ number ∷ []))
  brings_more held number = subst (LostMore left None held) (sym (without_pushed held number)) NoneLost

  -- the last one is lost
  pub loses_more : (held : List ℕ) (number : ℕ) → last_or None held ≡ Some number → left number → LostMore left (Some number) (lost_of true held) (lost_of false held)
  loses_more held number is lost = subst (LostMore left (Some number) (without_last held)) (sym (last_split held number is)) (OneLost number refl lost)

-- what holds of one of those that were lost holds of one of those that are
pub more_any : (test : ℕ → Bool) (before after : List ℕ) → Begins before after → list_any test before ≡ true → list_any test after ≡ true
more_any test before after begins any =
    subst (λ (numbers : List ℕ). list_any test numbers ≡ true) begins.whole (list_any-append test before begins.rest ∙ or_left (list_any test before) (list_any test begins.rest) any)
