use Rattle.same_laws.proofs.entries.LoneStored.{runs_store_alone, whole_runs_store_alone}
use Rattle.same_laws.proofs.laws.lone_commits_are_stored.Goals as goal

pub returns : goal.returns
returns c = record { reached = runs_store_alone c.runs_serial.ensures; run = whole_runs_store_alone c.runs_serial.ensures }
