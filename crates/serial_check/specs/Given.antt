-- Values that were given so far, as they are kept.
use Rattle.std.specs.Prelude.{◌≡◌, Bool, false, List, Option, Some, None}
use Rattle.svc_values.specs.declared.draw.Draw.{Draw}
use Rattle.svc_values.specs.declared.draw.Draw.TheVariants as draw
use Rattle.svc_values.specs.Keys.{is_key}
use Rattle.serial_check.specs.declared.fresh.Single.{Single}
use Rattle.serial_check.specs.declared.fresh.Single.TheVariants as single
use Rattle.serial_check.specs.meaning.Places.{is_drawn_before}
use Rattle.serial_check.specs.contracts.fresh.SinglePartialEq.TheImpl.{eq-value}

-- what of a draw may stand once
abbrev pub single_of : Draw → Option Single
single_of (draw.Seq name value) = Some (single.Seq name value)
single_of (draw.Clock tick) = None
single_of (draw.Id id) = Some (single.Id id)

-- it is among those that were kept
abbrev pub is_kept : List Single → Option Single → Bool
is_kept kept None = false
is_kept kept (Some one) = is_key eq-value.it kept one

-- the kept ones are those of these draws
abbrev pub Keeps : List Single → List Draw → Type 0
Keeps kept before = (one : Draw) → is_kept kept (single_of one) ≡ is_drawn_before before one
