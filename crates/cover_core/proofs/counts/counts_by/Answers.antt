use Rattle.std.proofs.Common.{◌≡◌, ◌∙◌, ℕ, List, length, ap}
use Rattle.svc_values.specs.declared.call.Call.{Call}
use Rattle.outage_schedule.specs.declared.request.ShownCall.{ShownCall}
use Rattle.request_bounds.specs.meaning.Rules.{Rules}
use Rattle.shown_clauses.specs.meaning.Cover.{Counts, counts_of}
use Rattle.shown_clauses.specs.meaning.Submissions.{Submission}
use Rattle.auto_bounds.specs.Covered.{nothing_covered}
use Rattle.cover_core.specs.Coverings.{covered}
use Rattle.cover_core.proofs.counts.counts_by.Goals as goal

pub returns : goal.returns
returns g c =
    let rules : Rules = g.R.BoundRule.rules c.args.rule in
    let calls : List Call = c.args.request.now.calls in
    let shown : List ShownCall = c.as_slice-shown.result.now in
    let guarded : List Call → List ShownCall → ℕ = λ calls shown. (covered rules (nothing_covered c.args.rule c.args.of.now.record_limit) calls shown).guarded in
    let submission : Submission = record { request = c.args.request.now; copy = c.args.report.now } in
    let told : ℕ = (counts_of c.args.of.now submission).protected in
    let law : guarded c.args.request.now.calls c.args.report.now.calls ≡ told = (c.coverage_is_cover.ensures c.args.rule c.args.of.now submission c.requires.rule).protected in
    let counts : List ShownCall → ℕ → Counts = λ all n. record { calls = length all; protected = n } in
    let same : c.protected_by.result ≡ told = c.protected_by.ensures ∙ (ap (λ all. guarded all shown) c.as_slice.ensures ∙ (ap (guarded calls) c.as_slice-shown.ensures ∙ law)) in
    ap (counts shown) same ∙ ap (λ all. counts all told) c.as_slice-shown.ensures
