-- What is read beside something known.
use Rattle.std.specs.Prelude.{List}
use Rattle.answer_forms.specs.declared.beside.Beside.{Beside}
use Rattle.answer_forms.specs.declared.beside.Beside.TheVariants.{Same, Other}

-- what was read
abbrev pub told : {A : Type 0} → A → Beside A → A
told known Same = known
told known (Other x) = x

-- the items that were read
abbrev pub items_told : {A V : Type 0} → (V → List A) → List A → Beside V → List A
items_told items known Same = known
items_told items known (Other v) = items v
