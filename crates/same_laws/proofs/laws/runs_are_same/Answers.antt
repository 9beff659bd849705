use Rattle.same_laws.proofs.laws.runs_are_same.Goals as goal

pub returns : goal.returns
returns c = λ document report seen t server right reported clash.
    c.entries_make_same.ensures.report document report seen t server right reported
    (c.entries_are_as_known.ensures.run document report.notes report.served seen t right reported.run (c.reports_clash_nowhere.ensures document report seen t server right reported clash))
