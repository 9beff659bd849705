use Rattle.std.proofs.Common.{◌≡◌, Bool, true, false, not, map, refl, ap, ◌∙◌}
use Rattle.std.specs.Prelude.{Option, Some, None, is_some, is_none}
use Rattle.serial_check.specs.Printed.{print_in}
use Rattle.serial_check.proofs.SerialPlaces.{tables_none}
use Rattle.serial_check.proofs.printed.are_printed.Goals as goal

none_is : {A : Type 0} (b : Bool) (o : Option A) → is_some o ≡ not b → b ≡ is_none o
none_is true None is = refl
none_is true (Some a) is = let clash : ◌≡◌ {A = Bool} true false = is in cc
none_is false None is = let clash : ◌≡◌ {A = Bool} false true = is in cc
none_is false (Some a) is = refl

pub returns : goal.returns
returns c =
    none_is c.is_none.result c.in_ok-place.place c.is_none.ensures
    ∙ (ap is_none c.in_ok-place.ensures ∙ tables_none 0 c.args.printed.now (map (print_in c.args.tables.rows) c.args.tables.schemas))
