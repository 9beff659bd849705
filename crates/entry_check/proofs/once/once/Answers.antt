use Rattle.std.proofs.Common.{◌≡◌, ◌∙◌, Bool, List, sym, ap, subst}
use Rattle.std.specs.Prelude.{is_none, IfOk, flat_map}
use Rattle.std.specs.List.{list_all}
use Rattle.outage_schedule.specs.declared.request.RequestReport.{RequestReport}
use Rattle.run_clauses.specs.meaning.Tried.{ids_tried, has_its_lists}
use Rattle.entry_check.specs.Ids.{ids_in}
use Rattle.entry_check.proofs.OnceLaw.{once_from, once_not, none_of, some_of}
use Rattle.entry_check.proofs.once.once.Goals as goal

pub returns-then-is_some-2 : goal.returns-then-is_some-2
returns-then-is_some-2 c =
    let lists = none_of c.fault_of_requests-lists.result (sym c.is_some.ensures ∙ c.if-is_some.false) in
    let all = ap (λ (clients : List (List RequestReport)). list_all (list_all has_its_lists) clients) (sym c.as_slice-clients.ensures) ∙ sym c.fault_of_requests-lists.ensures ∙ ap is_none lists in
    let are = ap ids_in c.as_slice.ensures.value ∙ c.in_ok-listed.ensures ∙ ap (λ (clients : List (List RequestReport)). flat_map (λ requests. flat_map ids_tried requests) clients) c.as_slice-clients.ensures in
    let some = some_of c.in_ok-tried.tried.twice (sym c.is_some-2.ensures ∙ c.if-is_some-2.true) in
    some ∙ sym (once_not c.args.document.now c.args.report.now (ids_in c.as_slice.result.now) are all (sym c.in_ok-tried.ensures.twice ∙ some))

pub returns : goal.returns
returns c =
    let lists = none_of c.fault_of_requests-lists.result (sym c.is_some.ensures ∙ c.if-is_some.false) in
    let all = ap (λ (clients : List (List RequestReport)). list_all (list_all has_its_lists) clients) (sym c.as_slice-clients.ensures) ∙ sym c.fault_of_requests-lists.ensures ∙ ap is_none lists in
    let are = ap ids_in c.as_slice.ensures.value ∙ c.in_ok-listed.ensures ∙ ap (λ (clients : List (List RequestReport)). flat_map (λ requests. flat_map ids_tried requests) clients) c.as_slice-clients.ensures in
    let twice = none_of c.in_ok-tried.tried.twice (sym c.is_some-2.ensures ∙ c.if-is_some-2.false) in
    let same = once_from c.args.document.now c.args.report.now c.in_ok-tried.tried.ids (ids_in c.as_slice.result.now) are all (sym c.in_ok-tried.ensures.twice ∙ ap is_none twice) (c.in_ok-tried.ensures.all twice) in
    subst (λ (b : Bool). IfOk c.wrong_entry.result (λ place. is_none place ≡ b)) same c.wrong_entry.ensures
