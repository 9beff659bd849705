-- Rows that are shown to a scan.
use Rattle.std.specs.Prelude.{◌≡◌, List, ◌++◌, fold}
use Rattle.svc_values.specs.declared.value.Value.{Value}
use Rattle.stmt_meaning.specs.declared.scan.Scan.{Scan}
use Rattle.stmt_meaning.specs.InnerScans.{next_scan, last_answer}

-- A scan answers as another one that was shown these rows, whatever rows follow.
abbrev pub AnswersAs : Scan → Scan → List (List Value) → Type 0
AnswersAs after before rows = (more : List (List Value))
    → last_answer (fold next_scan after more) ≡ last_answer (fold next_scan before (rows ++ more))
