use Rattle.std.proofs.Common.{◌≡◌, option_map, Ok, List, codes, sym, ap, ◌∙◌, rules}
use Rattle.json_form.specs.meaning.Objects.{has}
use Rattle.json_form.specs.Objects.{members_at}
use Rattle.outage_schedule.specs.declared.document.DocTable.{DocTable}
use Rattle.doc_reader.specs.meaning.Documents.{begin_of}
use Rattle.json_form.proofs.Offered.{given}
use Rattle.doc_reader.proofs.OneByOne.{of_given}
use Rattle.doc_reader.proofs.Joined.{begin_without, begin_with_tables}
use Rattle.doc_reader.proofs.streamed.begin_with.Goals as goal

pub returns-in_ok-begin-in-Some : goal.returns-in_ok-begin-in-Some
returns-in_ok-begin-in-Some c = λ ms others told.
    let gave : begin_of (members_at c.args.others.now) ≡ Ok c.in_ok-begin-in-Some.begin = search rules in
    begin_with_tables ms c.in-Some.tables c.in_ok-begin-in-Some.begin (told ∙ ap (option_map (given {A = List DocTable})) c.in-Some.is)
    (ap (has (codes "image")) (sym others) ∙ sym c.if-has.ensures) (ap begin_of (sym others) ∙ gave)

pub returns-in-None : goal.returns-in-None
returns-in-None c =
    of_given _ c.begin_from-in-None.result c.ok-in-None.result (begin_of (members_at c.args.others.now)) c.ok-in-None.ensures.value c.begin_from-in-None.ensures.read
    (λ begin gave ms others told. begin_without ms begin (told ∙ ap (option_map (given {A = List DocTable})) c.in-None.is) (ap begin_of (sym others) ∙ gave))
