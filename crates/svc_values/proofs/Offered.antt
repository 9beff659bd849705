-- Lemmas on this crate's words that the crates above cite.

-- the order of values is total, and values that compare as equal are one value
pub use Rattle.svc_values.specs.OrderLaws.{value_cmp_total, exact_values}
-- two places are equal in their order exactly where they are the same
pub use Rattle.svc_values.specs.OrderLaws.{place_tied}
-- the derived comparisons of values are their order and their test
pub use Rattle.svc_values.specs.OrderLaws.{cmp_is, same_is_eq}
-- a name that was put last behind lower ones keeps settings rising, and is their last name
pub use Rattle.svc_values.proofs.SettingsOrder.{AreSettings-last, last_name-last}
-- the last answer stands at the last place
pub use Rattle.svc_values.proofs.Endings.{last_answer_at}
-- how rows stand in the order of table and key
pub use Rattle.svc_values.proofs.RowOrder.{AtOne, is_at-row, is_at-own, comes_before-trans, comes_before-own, comes_before-other}
-- what writes and filters leave of tables in order
pub use Rattle.svc_values.proofs.Local.{HasNone, ComesFirst-trans, AreTables-filter, AreTables-put_row, AreTables-with_write, AreTables-with_writes, filter-put_row, rows_at-with_write, rows_at-with_writes, rows_at-written, rows_at-untouched}
-- writes in two parts
pub use Rattle.svc_values.proofs.Writes.{with_writes-append}
