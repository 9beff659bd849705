use Rattle.std.proofs.Common.{◌≡◌, ◌∙◌, Bool, List, sym, ap, subst}
use Rattle.std.specs.Prelude.{is_none, IfOk}
use Rattle.svc_values.specs.declared.entry.Entry.{Entry}
use Rattle.outage_schedule.specs.declared.note.Note.{Note}
use Rattle.run_clauses.specs.meaning.Sessions.{outside_sessions, is_foreign}
use Rattle.run_clauses.specs.meaning.Tried.{holds}
use Rattle.entry_check.specs.Ids.{ids_in}
use Rattle.entry_check.specs.Once.{ids_of}
use Rattle.entry_check.proofs.OnceLaw.{entries_right_from, none_of}
use Rattle.entry_check.proofs.once.wrong_entry.Goals as goal

pub returns : goal.returns
returns c =
    let untried = none_of c.first_untried-untried.result (sym c.is_some.ensures ∙ c.if-is_some.false) in
    let twice = none_of c.in_ok-stored.stored.twice (sym c.is_some-2.ensures ∙ c.if-is_some-2.false) in
    let all = sym c.first_untried-untried.ensures ∙ ap is_none untried in
    let differ = sym c.in_ok-stored.ensures.twice ∙ ap is_none twice in
    let own = c.in_ok-entries.ensures ∙ ap (λ (entries : List Entry). ids_of entries) c.as_slice-2.ensures in
    let first = ap ids_in c.as_slice-3.ensures.value ∙ own in
    let second = ap ids_in c.as_slice-4.ensures.value ∙ own in
    let same = entries_right_from (holds c.args.tried.now) c.args.document.now c.args.report.now _ c.in_ok-stored.stored.ids (ids_in c.as_slice-3.result.now) (ids_in c.as_slice-4.result.now) first second
    (λ x. c.in_ok-outside.ensures x ∙ ap (λ (notes : List Note). is_foreign (outside_sessions notes) x) c.as_slice.ensures) all differ (c.in_ok-stored.ensures.all twice) in
    subst (λ (b : Bool). IfOk c.wrong_list.result (λ place. is_none place ≡ b)) same c.wrong_list.ensures
