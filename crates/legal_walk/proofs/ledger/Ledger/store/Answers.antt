use Rattle.std.proofs.Common.{arith, sym, ap, ◌∙◌}
use Rattle.svc_values.specs.meaning.Identifiers.{session_of}
use Rattle.legal_walk.specs.Stored.{with_first}
use Rattle.legal_walk.proofs.Counting.{number_of-taken, ledger_more, stored_more, stored_none}
use Rattle.legal_walk.proofs.ledger.Ledger.store.Goals as goal

pub count_one-requires : goal.count_one-requires
count_one-requires c =
    let inside = c.self.inside in
    let session = session_of c.in-Some.entry.now.ltxid in
    omega (arith, c.self.invariant.are_counted session, number_of-taken inside.before.now inside.entries.now inside.taken session)

pub invariant_of-self-2 : goal.invariant_of-self-2
invariant_of-self-2 c =
    let inside = c.self.inside in
    let there = c.in-Some.ensures.lookup.3 in
    ledger_more inside.before.now inside.entries.now inside.taken inside.counts c.count_one.new.counts c.in-Some.entry.now there.0 (there.1 c.in-Some.entry.now) c.self.invariant c.in_ok-count_one.ensures.ok

pub returns-in_default : goal.returns-in_default
returns-in_default c =
    let inside = c.self.inside in
    sym c.self.view_is ∙ stored_none inside.before.now inside.entries.now inside.taken c.in_default.ensures.lookup.3 ∙ ap with_first c.self.view_is

pub returns : goal.returns
returns c =
    let inside = c.self.inside in
    let there = c.in-Some.ensures.lookup.3 in
    stored_more inside.before.now inside.entries.now inside.taken c.in-Some.entry.now there.0 (there.1 c.in-Some.entry.now) ∙ ap with_first c.self.view_is
