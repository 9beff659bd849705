use Rattle.std.proofs.Common.{◌≡◌, ◌==◌, length, sym, ap, ◌∙◌, arith}
use Rattle.serde_json.proofs.Views.{items_len-items_view}
use Rattle.json_form.proofs.parts.Parts.has_count.Goals as goal

pub returns : goal.returns
returns c =
    let many : c.len.result ≡ length c.args.self.now.items.items = omega (arith, c.len.ensures) in
    ap (λ n. n == c.args.count) (many ∙ sym (items_len-items_view c.args.self.now.items.items))
