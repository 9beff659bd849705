use Rattle.std.proofs.Common.{◌==◌, get_or, ap, sym, ◌∙◌}
use Rattle.fast_float.specs.Text.{scan}
use Rattle.serde_json.specs.Data.{unsigned}
use Rattle.json_form.proofs.SignedTexts.{without_minus}
use Rattle.json_form.proofs.number.whole_in.Goals as goal

pub returns : goal.returns
returns c =
    let scanned = c.scan.ensures.parts ∙ ap scan c.as_bytes-bytes.ensures.value in
    without_minus unsigned c.args.text.now c.unsigned.result (ap (λ s. get_or s 0 0 == 45) (sym c.as_bytes-bytes.ensures.value) ∙ sym c.if-has_minus.ensures.value) (rw (← scanned) c.unsigned.ensures)
