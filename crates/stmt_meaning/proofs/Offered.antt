-- Lemmas on this crate's words that the crates above cite.

-- a scan that was shown rows one after the other
pub use Rattle.stmt_meaning.proofs.ScanLaws.{scanned-append, last_answer-scanned}
-- one statement that ran, from what reading its operands came to; and with more draws behind those
-- that it takes
pub use Rattle.stmt_meaning.proofs.OneRun.{ran_plan, ran_refused, ended_plan, lacks_work, lacks_behind, mean1-more}
-- statements that ran one after the other
pub use Rattle.stmt_meaning.proofs.Running.{RanSoFar, left_is, ran_none, ran_ended, ran_on, ran_refusal, ran_all, ran_drew}
-- the same draws are asked for
pub use Rattle.stmt_meaning.proofs.Drawn.{ends_as}
-- a commit behind statements is answered last
pub use Rattle.stmt_meaning.proofs.Commits.{commits_last}
-- a statement and a call do the same where the rows at their places are the same
pub use Rattle.stmt_meaning.proofs.MeanLocal.{mean1-same, mean-same}
-- a call takes the draws that its operands ask for, in order
pub use Rattle.stmt_meaning.proofs.DrawOrder.{mean-uses, sequences-counted, sequences-few}
-- exactly those of its answered statements, in its settings; so its answers tell which
pub use Rattle.stmt_meaning.proofs.AskedExactly.{mean-exact}
pub use Rattle.stmt_meaning.proofs.AnswersTell.{answers_tell}
-- a call leaves its tables with its writes, which fit what is declared
pub use Rattle.stmt_meaning.proofs.MeanLocal.{mean-tables}
pub use Rattle.stmt_meaning.proofs.TablesFit.{mean-fits}
-- a transaction goes on by one call, and where its reads stand it is one of a serial run now
pub use Rattle.stmt_meaning.proofs.Reruns.{RanAt-more, reads-more, rerun-transaction}
-- a piece means one thing, and a serial run goes on by one entry
pub use Rattle.stmt_meaning.proofs.SerialSteps.{Replays-once, Serial-next}
