use Rattle.std.proofs.Common.{◌≡◌, ◌++◌, ◌∷◌, [], ◌∙◌, ap, arith, Ok}
use Rattle.disk_model.specs.Moment.{with_bytes}
use Rattle.redo_store.specs.meaning.Records.{magic, records_of}
use Rattle.redo_store.proofs.Grammar.{read_image}
use Rattle.redo_store.proofs.redo.Redo.create.Goals as goal

no_records : records_of (magic ++ 0 ∷ []) ≡ Ok []
no_records = read_image [] 0 [] (λ k d lt. absurd (omega (arith, lt))) (λ e. omega (arith, e))

pub returns-clause-empty : goal.returns-clause-empty
returns-clause-empty g c = ap records_of (c.in_ok-write_durably.ensures.written ∙ ap (with_bytes 0 (magic ++ 0 ∷ [])) c.requires) ∙ no_records
