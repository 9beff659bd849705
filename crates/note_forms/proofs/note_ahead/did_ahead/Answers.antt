use Rattle.std.proofs.Common.{rules, refl}
use Rattle.outage_schedule.specs.declared.note.GoNote.TheVariants as did
use Rattle.note_forms.specs.declared.go.GoWord.TheVariants as go
use Rattle.note_forms.proofs.NotesAhead.{bare_ends, open_ends, lent_ends, lost_ends}
use Rattle.note_forms.proofs.note_ahead.did_ahead.Goals as goal

pub returns-in-Idle-clause-ends : goal.returns-in-Idle-clause-ends
returns-in-Idle-clause-ends c = rw c.in-Idle.is (bare_ends go.Idle did.Idle (λ w d e. refl) c.args.depth c.args.tokens.now c.bare_ahead.new.tokens c.bare_ahead.result c.bare_ahead.ensures.same c.bare_ahead.ensures.ends)

pub returns-in-Wait-clause-ends : goal.returns-in-Wait-clause-ends
returns-in-Wait-clause-ends c = rw c.in-Wait.is (bare_ends go.Wait did.Wait (λ w d e. refl) c.args.depth c.args.tokens.now c.bare_ahead-in-Wait.new.tokens c.bare_ahead-in-Wait.result c.bare_ahead-in-Wait.ensures.same c.bare_ahead-in-Wait.ensures.ends)

pub returns-in-NoFrame-clause-ends : goal.returns-in-NoFrame-clause-ends
returns-in-NoFrame-clause-ends c = rw c.in-NoFrame.is (bare_ends go.NoFrame did.NoFrame (λ w d e. refl) c.args.depth c.args.tokens.now c.bare_ahead-in-NoFrame.new.tokens c.bare_ahead-in-NoFrame.result c.bare_ahead-in-NoFrame.ensures.same c.bare_ahead-in-NoFrame.ensures.ends)

pub returns-in-Early-clause-ends : goal.returns-in-Early-clause-ends
returns-in-Early-clause-ends c = rw c.in-Early.is (bare_ends go.Early did.Early (λ w d e. refl) c.args.depth c.args.tokens.now c.bare_ahead-in-Early.new.tokens c.bare_ahead-in-Early.result c.bare_ahead-in-Early.ensures.same c.bare_ahead-in-Early.ensures.ends)

pub returns-in-Down-clause-ends : goal.returns-in-Down-clause-ends
returns-in-Down-clause-ends c = rw c.in-Down.is (bare_ends go.Down did.Down (λ w d e. refl) c.args.depth c.args.tokens.now c.bare_ahead-in-Down.new.tokens c.bare_ahead-in-Down.result c.bare_ahead-in-Down.ensures.same c.bare_ahead-in-Down.ensures.ends)

pub returns-in_ok-connection-in-Open-clause-ends : goal.returns-in_ok-connection-in-Open-clause-ends
returns-in_ok-connection-in-Open-clause-ends c = rw c.in-Open.is (open_ends c.args.depth c.args.tokens.now c.sent_ahead.new.tokens c.in_ok-connection-in-Open.connection c.in_ok-connection-in-Open.ensures.ends)

pub returns-in_ok-connection-in-Lent-clause-ends : goal.returns-in_ok-connection-in-Lent-clause-ends
returns-in_ok-connection-in-Lent-clause-ends c = rw c.in-Lent.is (lent_ends c.args.depth c.args.tokens.now c.sent_ahead-in-Lent.new.tokens c.in_ok-connection-in-Lent.connection c.in_ok-connection-in-Lent.ensures.ends)

pub returns-in-Took-clause-ends : goal.returns-in-Took-clause-ends
returns-in-Took-clause-ends c = rw c.in-Took.is c.took_ahead.ensures.ends

pub returns-in_ok-connection-in-Lost-clause-ends : goal.returns-in_ok-connection-in-Lost-clause-ends
returns-in_ok-connection-in-Lost-clause-ends c = rw c.in-Lost.is (lost_ends c.args.depth c.args.tokens.now c.last_ahead.new.tokens c.in_ok-connection-in-Lost.connection (search rules))
