-- The clauses on a serial run and on fresh values see no writes.
use Rattle.std.proofs.Common.{◌≡◌, List, [], ◌∷◌, ◌++◌, map, flat_map, refl, ap}
use Rattle.std.proofs.Math.Path.{fun_ext}
use Rattle.svc_values.specs.declared.draw.Draw.{Draw}
use Rattle.svc_values.specs.declared.schema.Shape.{Shape}
use Rattle.svc_values.specs.declared.tables.PlainRow.{PlainRow}
use Rattle.svc_values.specs.declared.entry.Entry.{Entry}
use Rattle.stmt_meaning.specs.meaning.SerialTest.{transaction_after, and_then, serial_after}
use Rattle.server_model.specs.meaning.Fresh.{none_twice, draws_of}
use Rattle.run_clauses.specs.meaning.Before.{journal_before, shape, start}
use Rattle.run_clauses.specs.meaning.Serial.{are_printed}
use Rattle.report_text.specs.Laws.{shown_entry}
use Rattle.printed_laws.specs.Laws.{SerialSeesNoWrites, FreshSeesNoWrites}

after_shown : (made : Shape) (before : List PlainRow) (es : List Entry) → serial_after made before (map shown_entry es) ≡ serial_after made before es
after_shown made before [] = refl
after_shown made before (e ∷ es) = ap (and_then (transaction_after made before e.settings e.pieces)) (fun_ext (λ between. after_shown made between es))

pub serial_shown : SerialSeesNoWrites
serial_shown document r = ap (are_printed (journal_before document).base r.tables) (after_shown (shape document) (start document) r.entries)

draws_shown : (es : List Entry) → flat_map draws_of (map shown_entry es) ≡ flat_map draws_of es
draws_shown [] = refl
draws_shown (e ∷ es) = ap (λ (draws : List Draw). draws_of e ++ draws) (draws_shown es)

pub fresh_shown : FreshSeesNoWrites
fresh_shown r = ap none_twice (draws_shown r.entries)
