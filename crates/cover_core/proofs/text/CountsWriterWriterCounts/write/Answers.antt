use Rattle.std.proofs.Common.{◌∙◌, ℕ, List, [], ◌∷◌, ◌++◌, codes, ap}
use Rattle.json.specs.Token.{Token, end_object, key}
use Rattle.json_form.specs.Tokens.{tokens_of}
use Rattle.json_form.specs.meaning.Writing.{whole}
use Rattle.cover_core.specs.meaning.Text.{counts_value}
use Rattle.cover_core.proofs.Written.{ahead, on_ok}
use Rattle.cover_core.proofs.text.CountsWriterWriterCounts.write.Goals as goal

pub returns : goal.returns
unfolding counts_value
returns c =
    let end : List Token = end_object ∷ [] in
    let protected : List Token = key (codes "protected") ∷ (tokens_of (whole c.protected.result) ++ end) in
    let calls : List Token = key (codes "calls") ∷ (tokens_of (whole c.calls.result) ++ protected) in
    let value : ℕ → ℕ → List Token = λ calls protected. c.args.out.now ++ tokens_of (counts_value (record { calls = calls; protected = protected })) in
    on_ok c.end_object.result (λ last. last ∙ ahead _ _ end c.in_ok-number_member-2.ensures ∙ ahead _ _ protected c.in_ok-number_member.ensures ∙ ahead _ _ calls c.in_ok-begin_object.ensures
    ∙ ap (λ n. value n c.protected.result) c.calls.ensures ∙ ap (value c.args.item.now.calls) c.protected.ensures) c.end_object.ensures
