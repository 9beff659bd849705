use Rattle.std.proofs.Common.{rules, refl}
use Rattle.serde_json.specs.Data.{no_items}
use Rattle.note_forms.proofs.NotesAhead.{committed_ends, server_ends, client_ends, forgotten_ends}
use Rattle.note_forms.proofs.note_ahead.result_ahead.Goals as goal

pub returns-in_ok-array_ends-in-Uncommitted-clause-ends : goal.returns-in_ok-array_ends-in-Uncommitted-clause-ends
returns-in_ok-array_ends-in-Uncommitted-clause-ends c = rw c.in-Uncommitted.is (no_items, c.in_ok-array_ends-in-Uncommitted.ensures.ends c.args.depth, λ w d e. refl)

pub returns-in_ok-completed-in-Committed-clause-ends : goal.returns-in_ok-completed-in-Committed-clause-ends
returns-in_ok-completed-in-Committed-clause-ends c = rw c.in-Committed.is (committed_ends c.args.depth c.args.tokens.now c.last_ahead.new.tokens c.in_ok-completed-in-Committed.completed (search rules))

pub returns-in_ok-next-in-ServerAhead-clause-ends : goal.returns-in_ok-next-in-ServerAhead-clause-ends
returns-in_ok-next-in-ServerAhead-clause-ends c = rw c.in-ServerAhead.is (server_ends c.args.depth c.args.tokens.now c.last_ahead-in-ServerAhead.new.tokens c.in_ok-next-in-ServerAhead.next (search rules))

pub returns-in_ok-next-in-ClientAhead-clause-ends : goal.returns-in_ok-next-in-ClientAhead-clause-ends
returns-in_ok-next-in-ClientAhead-clause-ends c = rw c.in-ClientAhead.is (client_ends c.args.depth c.args.tokens.now c.last_ahead-in-ClientAhead.new.tokens c.in_ok-next-in-ClientAhead.next (search rules))

pub returns-in_ok-horizon-in-Forgotten-clause-ends : goal.returns-in_ok-horizon-in-Forgotten-clause-ends
returns-in_ok-horizon-in-Forgotten-clause-ends c = rw c.in-Forgotten.is (forgotten_ends c.args.depth c.args.tokens.now c.last_ahead-in-Forgotten.new.tokens c.in_ok-horizon-in-Forgotten.horizon (search rules))
