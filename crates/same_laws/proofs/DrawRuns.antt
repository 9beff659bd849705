-- Wherever a run has come to, where no digests clash: entries have the granted draws that were
-- shown, and the answers of their last calls; they begin behind ends that were shown; and so they
-- are as their requests know.
use Rattle.once_laws.specs.CallEndings.{end_fittingly}
use Rattle.once_laws.specs.CommitAnswers.{commit_fittingly, store_alone}
use Rattle.invariant_laws.specs.FirstCalls.{transactions_begin}
use Rattle.invariant_laws.specs.KeptLaws.{RunsKeepInvariant}
use Rattle.once_laws.specs.Redrawn.{RepeatsRedraw}
use Rattle.invariant_laws.specs.Same.{granted_by}
use Rattle.invariant_laws.specs.SameLaws.{FollowsInvariant, HoldsInRuns, PartsMakeEntries, RunsEntriesDraw, RunsEntriesGoOn, RunsEntriesStart, RunsFollowScripts, RunsKnowAnswers, RunsKnowEntries, RunsRanLast, RunsVerify, WholeRunsEntriesDraw, WholeRunsEntriesStart, WholeRunsKnowEntries}
use Rattle.once_laws.specs.Showing.{show_replies}
use Rattle.same_laws.proofs.entries.EntryDraws.{all_answered, all_drew}
use Rattle.same_laws.proofs.entries.EntryStarts.{all_start}
use Rattle.world_model.proofs.Offered.{finishing_reached}

pub runs_draw : RunsKeepInvariant → RunsVerify → RunsKnowAnswers → RepeatsRedraw → HoldsInRuns show_replies → HoldsInRuns end_fittingly → HoldsInRuns store_alone → RunsRanLast → RunsEntriesDraw
runs_draw keeps verify know redraw shows fits alone last document events notes items seen t right reached clash =
    let whole = keeps document events notes items seen t right reached in
    let ran = last document events notes items seen t right reached in
    let verified = verify document events notes items seen t right reached in
    let answered = know document events notes items seen t right reached clash in
    let redrew = redraw document events notes items seen t right reached in
    let shown = shows document events notes items seen t right reached in
    let fit = fits document events notes items seen t right reached in
    let stored = alone document events notes items seen t right reached in
    (all_drew t whole ran (granted_by document) verified answered redrew shown fit stored, all_answered t whole ran (granted_by document) verified answered redrew shown fit stored)

pub whole_runs_draw : RunsEntriesDraw → WholeRunsEntriesDraw
whole_runs_draw draw document notes items seen t right run clash = let so = finishing_reached document run.place notes items seen t run.finishing in draw document so.0 notes items seen t right so.1 clash

pub runs_start : RunsKeepInvariant → RunsVerify → RunsKnowAnswers → RepeatsRedraw → FollowsInvariant transactions_begin → HoldsInRuns commit_fittingly → RunsRanLast → RunsEntriesStart
runs_start keeps verify know redraw begin fits last document events notes items seen t right reached clash =
    let whole = keeps document events notes items seen t right reached in
    all_start t whole (last document events notes items seen t right reached) (granted_by document) (verify document events notes items seen t right reached) (know document events notes items seen t right reached clash) (redraw document events notes items seen t right reached) (begin t whole)
    (fits document events notes items seen t right reached)

pub whole_runs_start : RunsEntriesStart → WholeRunsEntriesStart
whole_runs_start start document notes items seen t right run clash = let so = finishing_reached document run.place notes items seen t run.finishing in start document so.0 notes items seen t right so.1 clash

pub runs_know_entries : RunsFollowScripts → RunsEntriesGoOn → RunsEntriesDraw → RunsEntriesStart → PartsMakeEntries → RunsKnowEntries
runs_know_entries scripts goes draws starts parts document events notes items seen t right reached clash =
    let inside = goes document events notes items seen t right reached clash in
    let drew = draws document events notes items seen t right reached clash in
    parts (granted_by document) t (scripts document events notes items seen t right reached) (starts document events notes items seen t right reached clash) inside.0 inside.1 drew.1 drew.0

pub whole_runs_know_entries : RunsKnowEntries → WholeRunsKnowEntries
whole_runs_know_entries know document notes items seen t right run clash = let so = finishing_reached document run.place notes items seen t run.finishing in know document so.0 notes items seen t right so.1 clash
