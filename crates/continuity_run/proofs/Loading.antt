-- The line of a load tells the total that the law says.
use Rattle.std.proofs.Common.{ℕ, List}
use Rattle.load_document.specs.meaning.Loads.{loaded}
use Rattle.load_laws.specs.Loads.{LoadsKeepTotal}
use Rattle.continuity_run.specs.meaning.Load.{IsLined, IsLoaded}

pub load_told : LoadsKeepTotal → (seed clients requests : ℕ) (text : List ℕ) → IsLined (loaded seed clients requests) text → IsLoaded seed clients requests text
load_told keeps seed clients requests text told =
    let said = told.headline in
    record {
      told = told;
      as_much = keeps seed clients requests told.report (record { serial = said.serial; once_so = said.once_so; followed_so = said.followed_so; whole_so = said.whole_so; scripted_so = said.scripted_so });
    }
