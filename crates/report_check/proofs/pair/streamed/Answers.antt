use Rattle.std.proofs.Common.{◌≡◌, ◌≤◌, ℕ, List, length, Some, Result, Ok, sym, ap, ◌∙◌, arith, rules}
use Rattle.std.proofs.lemmas.Bool.{le-ltb}
use Rattle.std.specs.Str.{IsUtf8}
use Rattle.serde_json.specs.Data.{Data}
use Rattle.serde_json.specs.Read.{read}
use Rattle.json_form.specs.meaning.Faults.{Fault, ◌>>=◌}
use Rattle.json_form.specs.meaning.Texts.{json_of, json_at}
use Rattle.json_form.proofs.Offered.{is_json}
use Rattle.outage_schedule.specs.declared.document.Document.{Document}
use Rattle.outage_schedule.specs.declared.report.Report.{Report}
use Rattle.report_check.specs.meaning.Pairs.{check_limit, pair_of, pair_at}
use Rattle.report_check.proofs.Passed.{if_there}
use Rattle.report_check.proofs.pair.streamed.Goals as goal

within_limit : (bytes : List ℕ) (d : Data) → length bytes ≤ check_limit → json_of bytes ≡ Ok d → json_at check_limit bytes ≡ Ok d
within_limit bytes d fits e = rw (le-ltb check_limit (length bytes) fits) e

spelt : (bytes text : List ℕ) (d : Data) (pair : Document × Report) → length bytes ≤ check_limit → (text ≡ bytes) × IsUtf8 bytes → read text ≡ Some d → pair_of d ≡ Ok pair → pair_at bytes ≡ Ok pair
spelt bytes text d pair fits same e told =
    let json = is_json bytes d same.1 (ap read (sym same.0) ∙ e) in ap (λ (r : Result Data Fault). r >>= pair_of) (within_limit bytes d fits json) ∙ told

pub returns-clause-read : goal.returns-clause-read
returns-clause-read c =
    let text : (c.in_ok-text.text.now ≡ c.args.bytes.now) × IsUtf8 c.args.bytes.now = search rules in
    if_there _ _ c.text_ahead.result (λ pair told. spelt c.args.bytes.now c.in_ok-text.text.now told.0 pair (omega arith) text told.1 told.2) c.text_ahead.ensures.read
