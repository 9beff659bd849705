use Rattle.std.proofs.Common.{◌≡◌, ◌==◌, ℕ, get_or, drop, ap, sym, ◌∙◌, arith, take_all, length-drop, false, Option, Some}
use Rattle.fast_float.specs.Text.{scan}
use Rattle.serde_json.specs.Find.{of_integer}
use Rattle.serde_json.specs.Data.{unsigned}
use Rattle.serde_json.specs.Read.{number_from}
use Rattle.json_form.proofs.SignedTexts.{behind_minus, without_minus, small_enough}
use Rattle.json_form.proofs.number.integer_in.Goals as goal

abbrev whole : ℕ → Option ℕ
whole n = Some n

pub returns-then-has_minus : goal.returns-then-has_minus
returns-then-has_minus c =
    let s = c.args.text.now in
    let cut = take_all _ (drop 1 c.as_bytes-bytes.result.now) (omega (arith, length-drop 1 c.as_bytes-bytes.result.now)) in
    let scanned = c.scan.ensures.parts ∙ ap scan (cut ∙ ap (drop 1) c.as_bytes-bytes.ensures.value) in
    behind_minus of_integer s c.negative.result (ap (λ t. get_or t 0 0 == 45) (sym c.as_bytes-bytes.ensures.value) ∙ sym c.if-has_minus.ensures.value) (rw (← scanned) c.negative.ensures)

pub returns-in_ok-whole : goal.returns-in_ok-whole
returns-in_ok-whole c =
    let s = c.args.text.now in
    let n = c.in_ok-whole.whole in
    let scanned = c.scan-else-has_minus.ensures.parts ∙ ap scan c.as_bytes-bytes.ensures.value in
    let told : number_from false (scan s) ≡ Some (unsigned n) = rw (← scanned) c.in_ok-whole.ensures in
    let read = without_minus unsigned s (whole n) (ap (λ t. get_or t 0 0 == 45) (sym c.as_bytes-bytes.ensures.value) ∙ sym c.if-has_minus.ensures.value) told in
    rw c.ok.ensures.value (small_enough _ s n c.try_from.result read c.try_from.ensures)
