-- How many reports are copies of one request.
use Rattle.std.specs.Prelude.{ℕ, suc, ◌-◌, List, [], ◌∷◌, if◌then◌else◌}
use Rattle.outage_schedule.specs.declared.request.RequestReport.{RequestReport}
use Rattle.run_clauses.specs.meaning.Copies.{is_repeated}

-- the first report, and the further copies behind it
abbrev pub copies_len : ℕ → List RequestReport → ℕ
copies_len allowed [] = 0
copies_len allowed (copy ∷ copies) = if is_repeated allowed copy then
    suc (copies_len (allowed - 1) copies) else 1
