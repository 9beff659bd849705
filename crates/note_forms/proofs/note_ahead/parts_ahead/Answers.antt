use Rattle.std.proofs.Common.{ℕ}
use Rattle.note_forms.specs.meaning.Notes.{tick_in}
use Rattle.note_forms.specs.NotesAhead.{Ends}
use Rattle.call_forms.proofs.Offered.{of_each}
use Rattle.note_forms.proofs.note_ahead.parts_ahead.Goals as goal

pub returns-in-Go-clause-ends : goal.returns-in-Go-clause-ends
returns-in-Go-clause-ends c = rw c.in-Go.is c.go_ahead.ensures.ends

pub returns-in-Serve-clause-ends : goal.returns-in-Serve-clause-ends
returns-in-Serve-clause-ends c = rw c.in-Serve.is c.serve_ahead.ensures.ends

pub returns-in-Cut-clause-ends : goal.returns-in-Cut-clause-ends
returns-in-Cut-clause-ends c = rw c.in-Cut.is c.cut_ahead.ensures.ends

pub returns-in-Reap-clause-ends : goal.returns-in-Reap-clause-ends
returns-in-Reap-clause-ends c = rw c.in-Reap.is c.reap_ahead.ensures.ends

pub returns-in-Crash-clause-ends : goal.returns-in-Crash-clause-ends
returns-in-Crash-clause-ends c = rw c.in-Crash.is c.crash_ahead.ensures.ends

pub returns-in-Up-clause-ends : goal.returns-in-Up-clause-ends
returns-in-Up-clause-ends c = rw c.in-Up.is c.up_ahead.ensures.ends

pub returns-in-UpCrash-clause-ends : goal.returns-in-UpCrash-clause-ends
returns-in-UpCrash-clause-ends c = rw c.in-UpCrash.is c.upcrash_ahead.ensures.ends

pub returns-in-Outside-clause-ends : goal.returns-in-Outside-clause-ends
returns-in-Outside-clause-ends c = rw c.in-Outside.is c.outside_ahead.ensures.ends

pub returns-in-Ask-clause-ends : goal.returns-in-Ask-clause-ends
returns-in-Ask-clause-ends c = rw c.in-Ask.is c.ask_ahead.ensures.ends

pub returns-in-Drain-clause-ends : goal.returns-in-Drain-clause-ends
returns-in-Drain-clause-ends c = rw c.in-Drain.is c.drain_ahead.ensures.ends

pub returns-in-Tick-clause-ends : goal.returns-in-Tick-clause-ends
returns-in-Tick-clause-ends c = rw c.in-Tick.is (of_each (λ one. (depth : ℕ) → Ends tick_in depth c.args.tokens.now one c.tick_ahead.new.tokens) (λ one. Ends tick_in c.args.depth c.args.tokens.now one c.tick_ahead.new.tokens) c.tick_ahead.result (λ one ends. ends c.args.depth) c.tick_ahead.ensures.ends)
