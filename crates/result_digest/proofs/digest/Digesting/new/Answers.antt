use Rattle.std.proofs.Common.{[], refl, subst, sym, ◌∙◌, append-nil}
use Rattle.sha2.specs.Hashers.{Holds256}
use Rattle.canon_bytes.specs.meaning.Numbers.{spell_u64}
use Rattle.result_digest.proofs.digest.Digesting.new.Goals as goal

pub returns : goal.returns
unfolding spell_u64
returns c = record {
  begun = refl;
  taken = refl;
  message = subst (Holds256 c.update.new.self) (c.to_be_bytes.ensures ∙ sym (append-nil (spell_u64 c.args.count))) (c.update.ensures [] c.new-hasher.ensures);
}
