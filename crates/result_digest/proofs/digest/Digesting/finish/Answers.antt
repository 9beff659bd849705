use Rattle.std.proofs.Common.{◌++◌, sym, ap, ◌∙◌}
use Rattle.std.specs.List.{flat_map}
use Rattle.sha2.specs.Sha256.{sha256}
use Rattle.canon_bytes.specs.meaning.Numbers.{spell_u64}
use Rattle.canon_bytes.specs.meaning.Lists.{spell_list}
use Rattle.canon_bytes.specs.meaning.AnswerBytes.{spell_answer}
use Rattle.result_digest.proofs.digest.Digesting.finish.Goals as goal

-- all were taken in, so the count that was hashed first is the list's
pub returns : goal.returns
unfolding spell_list
returns c count answers taken =
    c.finalize.ensures (spell_u64 count ++ flat_map spell_answer answers) taken.message
    ∙ ap (λ n. sha256 (spell_u64 n ++ flat_map spell_answer answers)) (sym taken.begun ∙ sym c.requires ∙ taken.taken)
