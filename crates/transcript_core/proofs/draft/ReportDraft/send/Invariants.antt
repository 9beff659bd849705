use Rattle.std.proofs.Common.{◌≡◌, drop, fold}
use Rattle.transcript_core.specs.Drafts.{sends}
use Rattle.transcript_core.proofs.draft.ReportDraft.send.Given as goal

abbrev pub invariant-loop-frame : goal.invariant-loop-frame
invariant-loop-frame l = fold sends l.self (drop l.frame-index l.frames) ≡ fold sends l.initial.self l.frames
