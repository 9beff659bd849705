use Rattle.std.proofs.Common.{◌∙◌, not, false, ap}
use Rattle.std.specs.Option.{option_map_or}
use Rattle.run_clauses.specs.meaning.Same.{is_any}
use Rattle.entry_check.proofs.SameTxns.{any_is}
use Rattle.entry_check.proofs.same.ends_with_any.Goals as goal

pub returns-in-Some : goal.returns-in-Some
returns-in-Some c = ap not c.is_empty.ensures ∙ any_is c.in-Some.ids.now ∙ ap (λ last. option_map_or is_any last false) c.in-Some.ensures
