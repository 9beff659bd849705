use Rattle.std.proofs.Common.{◌∙◌, ℕ, List, [], ◌∷◌, ◌++◌, codes}
use Rattle.json.specs.Token.{Token, end_object, key}
use Rattle.json_form.specs.Tokens.{tokens_of}
use Rattle.json_form.specs.meaning.Writing.{whole, integer}
use Rattle.load_document.specs.meaning.Lines.{line_value}
use Rattle.load_document.proofs.Written.{ahead, on_ok}
use Rattle.load_document.proofs.text.line_written.Goals as goal

pub returns : goal.returns
unfolding line_value
returns c =
    let line = c.args.line.now in
    let member : List ℕ → ℕ → List Token → List Token = λ name n rest. key name ∷ (tokens_of (whole n) ++ rest) in
    let end : List Token = end_object ∷ [] in
    let total : List Token = key (codes "total") ∷ (tokens_of (integer line.total) ++ end) in
    let failed : List Token = member (codes "failed") line.failed total in
    let events : List Token = member (codes "events") line.events failed in
    let entries : List Token = member (codes "entries") line.entries events in
    let conflict : List Token = member (codes "conflict") line.conflict entries in
    let committed : List Token = member (codes "committed") line.committed conflict in
    on_ok c.end_object.result (λ last. last ∙ ahead _ _ end c.in_ok-total_member.ensures ∙ ahead _ _ total c.in_ok-count_member-5.ensures
    ∙ ahead _ _ failed c.in_ok-count_member-4.ensures ∙ ahead _ _ events c.in_ok-count_member-3.ensures ∙ ahead _ _ entries c.in_ok-count_member-2.ensures
    ∙ ahead _ _ conflict c.in_ok-count_member.ensures ∙ ahead _ _ committed c.in_ok-begin_object.ensures) c.end_object.ensures
