use Rattle.std.proofs.Common.{length, take}
use Rattle.result_digest.specs.Digests.{HasTaken}
use Rattle.result_digest.proofs.digest.digest_of.Given as goal

abbrev pub invariant-loop-answer : goal.invariant-loop-answer
invariant-loop-answer l = HasTaken l.digesting (length l.answers) (take l.answer-index l.answers)
