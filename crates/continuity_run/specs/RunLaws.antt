-- What is proved of whole runs and of their reports, before any is made.
use Rattle.calm_laws.specs.CalmRuns.{CalmRunsAnswer}
use Rattle.legal_laws.specs.ToldLegal.{RunsAreLegalTold}
use Rattle.server_model.specs.Laws.{RunsSerial}
use Rattle.shown_laws.specs.CausedRuns.{RunsAreCaused}
use Rattle.shown_laws.specs.WholeRuns.{RunsAreWhole}
use Rattle.once_laws.specs.OnceLaws.{ReportsAreOnce}
use Rattle.legal_laws.specs.RunsJudged.{RunsAreLegal, RunsAreFreshNew, RunsAreSetAside}
use Rattle.fresh_laws.specs.RunsFresh.{RunsAreFresh}
use Rattle.same_laws.specs.RunsSame.{RunsAreSame}
use Rattle.same_laws.specs.RunsScripted.{RunsAreScripted}
use Rattle.world_model.specs.RunLaws.{RunsAreFollowed}
use Rattle.run_laws.specs.StoredLaws.{IncarnationsAreStored}
use Rattle.once_laws.specs.OnceLaws.{OutcomesAreStored}
use Rattle.run_laws.specs.StoredLaws.{AnswersAreRight, HorizonsAreTold, BlocksStayApart, BlocksAreAnswered, BlocksComeInOrder}

pub record RunsHold : Type 0 where
  pub followed : RunsAreFollowed
  pub serial : RunsSerial
  pub legal : RunsAreLegal
  pub legal_told : RunsAreLegalTold
  pub fresh_new : RunsAreFreshNew
  pub set_aside : RunsAreSetAside
  pub fresh : RunsAreFresh
  pub once : ReportsAreOnce
  pub same : RunsAreSame
  pub scripted : RunsAreScripted
  pub outcomes : OutcomesAreStored
  pub answers : AnswersAreRight
  pub horizons : HorizonsAreTold
  pub incarnations : IncarnationsAreStored
  pub apart : BlocksStayApart
  pub answered : BlocksAreAnswered
  pub ordered : BlocksComeInOrder
  pub caused : RunsAreCaused
  pub whole : RunsAreWhole
  pub calm : CalmRunsAnswer
