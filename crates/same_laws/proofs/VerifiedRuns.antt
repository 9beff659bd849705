-- Wherever a run has come to, a request has verified the calls behind which it went on; so where no
-- digests clash it knows their answers.
use Rattle.std.proofs.Common.{[]}
use Rattle.invariant_laws.specs.KeptLaws.{RunsKeepInvariant, WholeRunsKeepInvariant}
use Rattle.world_model.specs.Reached.{Begins, GoesOn}
use Rattle.world_model.specs.RunLaws.{RunsAreOrderly}
use Rattle.invariant_laws.specs.SameLaws.{RunsKnowAnswers, RunsKnowInsides, RunsVerify, WholeRunsKnowAnswers, WholeRunsKnowInsides, WholeRunsVerify}
use Rattle.same_laws.proofs.AnswersKnown.{all_known}
use Rattle.same_laws.proofs.KeptVerified.{verified_law}
use Rattle.once_laws.proofs.Offered.{inside_known}
use Rattle.world_model.proofs.Offered.{finishing_reached}

pub runs_verify : RunsAreOrderly → RunsVerify
runs_verify orderly document _ _ _ _ _ calls (Begins seen start history horizon coupled) = verified_law.at_start document
runs_verify orderly document _ _ _ _ _ calls (GoesOn events notes items more before after old new event note reached one forgets) =
    verified_law.at_event before after old new event note more [] one (orderly document events notes items before old calls reached) (runs_verify orderly document events notes items before old calls reached)

pub whole_runs_verify : RunsAreOrderly → WholeRunsVerify
whole_runs_verify orderly document notes items seen t calls run =
    let so = finishing_reached document run.place notes items seen t run.finishing in runs_verify orderly document so.0 notes items seen t calls so.1

pub runs_know : RunsVerify → RunsKnowAnswers
runs_know verify document events notes items seen t calls reached alike = all_known t (verify document events notes items seen t calls reached) alike

pub whole_runs_know : WholeRunsVerify → WholeRunsKnowAnswers
whole_runs_know verify document notes items seen t calls run alike = all_known t (verify document notes items seen t calls run) alike

pub runs_know_insides : RunsKeepInvariant → RunsKnowAnswers → RunsKnowInsides
runs_know_insides keeps know document events notes items seen t calls reached alike = inside_known t (keeps document events notes items seen t calls reached) (know document events notes items seen t calls reached alike)

pub whole_runs_know_insides : WholeRunsKeepInvariant → WholeRunsKnowAnswers → WholeRunsKnowInsides
whole_runs_know_insides keeps know document notes items seen t calls run alike = inside_known t (keeps document notes items seen t calls run) (know document notes items seen t calls run alike)
