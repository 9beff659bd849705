use Rattle.std.proofs.Common.{List, ℕ, sym, subst, ap, ◌∙◌, ◌++◌}
use Rattle.std.specs.Str.{IsUtf8}
use Rattle.json.specs.Lex.{tokens}
use Rattle.json.specs.Print.{print}
use Rattle.serde_json.proofs.Texts.{print-outline}
use Rattle.json_form.proofs.FormsBack.{form_back}
use Rattle.json_form.proofs.text.TextWriter.into_bytes.Goals as goal

pub returns-clause-text : goal.returns-clause-text
returns-clause-text c d same =
    let writer = c.self.inside.writer in
    c.into_inner.ensures.items ∙ ap (λ (before : List ℕ). before ++ print writer.tokens) c.self.invariant.0 ∙ ap print (c.self.view_is ∙ same) ∙ print-outline d

pub returns-clause-reads : goal.returns-clause-reads
returns-clause-reads c d form same =
    let writer = c.self.inside.writer in
    let bytes = c.into_inner.ensures.items ∙ ap (λ (before : List ℕ). before ++ print writer.tokens) c.self.invariant.0 in
    form_back d writer.tokens _ form c.self.invariant.1 (c.self.view_is ∙ same) (ap tokens bytes ∙ c.into_inner.ensures.reads_back)

pub returns-clause-utf8 : goal.returns-clause-utf8
returns-clause-utf8 c =
    let writer = c.self.inside.writer in
    let bytes = c.into_inner.ensures.items ∙ ap (λ (before : List ℕ). before ++ print writer.tokens) c.self.invariant.0 in
    subst IsUtf8 (sym bytes) c.into_inner.ensures.utf8
