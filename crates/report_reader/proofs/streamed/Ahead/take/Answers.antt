use Rattle.std.proofs.Common.{◌≡◌, codes, rules}
use Rattle.call_forms.proofs.Offered.{of_each}
use Rattle.report_reader.proofs.streamed.Ahead.take.Goals as goal

pub returns-then-eq-clause-read : goal.returns-then-eq-clause-read
returns-then-eq-clause-read c =
    let same : c.args.name.now ≡ codes "clients" = search rules in
    of_each _ _ c.take_clients.result (λ _ passes. rw same (passes c.args.print)) c.take_clients.ensures.read

pub returns-then-eq-2-clause-read : goal.returns-then-eq-2-clause-read
returns-then-eq-2-clause-read c =
    let same : c.args.name.now ≡ codes "entries" = search rules in
    of_each _ _ c.take_entries.result (λ _ passes. rw same (passes c.args.print)) c.take_entries.ensures.read

pub returns-then-eq-3-clause-read : goal.returns-then-eq-3-clause-read
returns-then-eq-3-clause-read c =
    let same : c.args.name.now ≡ codes "notes" = search rules in
    of_each _ _ c.take_notes.result (λ _ passes. rw same (passes c.args.print)) c.take_notes.ensures.read

pub returns-then-eq-4-clause-read : goal.returns-then-eq-4-clause-read
returns-then-eq-4-clause-read c =
    let same : c.args.name.now ≡ codes "served" = search rules in
    of_each _ _ c.take_served.result (λ _ passes. rw same (passes c.args.print)) c.take_served.ensures.read

pub returns-then-eq-5-clause-read : goal.returns-then-eq-5-clause-read
returns-then-eq-5-clause-read c =
    let same : c.args.name.now ≡ codes "tables" = search rules in
    of_each _ _ c.take_tables.result (λ _ passes. rw same (passes c.args.print)) c.take_tables.ensures.read
