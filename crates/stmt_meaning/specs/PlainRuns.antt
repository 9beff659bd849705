-- What a run of a call on plain tables gives.
use Rattle.std.specs.Prelude.{◌≡◌, ◌+◌, length, drop, List, Option, Some}
use Rattle.svc_values.specs.declared.draw.Draw.{Draw}
use Rattle.stmt_meaning.specs.declared.plain.PlainRun.{PlainRun}
use Rattle.stmt_meaning.specs.meaning.Meaning.{Meant}

-- A run of a call has what the call means, and used as many of the draws as it took.
pub record Gives (meant : Meant) (draws : List Draw) (run : PlainRun) : Type 0 where
  pub answers : run.answers ≡ meant.answers
  pub tables : run.tables ≡ meant.tables
  pub settings : run.settings ≡ meant.settings
  pub left : meant.rest ≡ drop run.used draws
  pub used : run.used + length meant.rest ≡ length draws

abbrev pub IsMeaning : Option Meant → List Draw → PlainRun → Type 0
IsMeaning meaning draws run = (meant : Meant) × ((meaning ≡ Some meant) × Gives meant draws run)
