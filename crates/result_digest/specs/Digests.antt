-- What a digest in the making has taken in.
use Rattle.std.specs.Prelude.{◌≡◌, ℕ, ◌<◌, List, ◌++◌, length}
use Rattle.std.specs.List.{flat_map}
use Rattle.sha2.specs.Hashers.{Holds256}
use Rattle.svc_values.specs.declared.answer.Answer.{Answer}
use Rattle.canon_bytes.specs.meaning.Numbers.{spell_u64}
use Rattle.canon_bytes.specs.meaning.AnswerBytes.{spell_answer}
use Rattle.result_digest.specs.declared.digest.Digesting.{Digesting}

-- It was begun for so many answers, and has taken in these: the hasher holds the count and their
-- bytes, one after the other.
pub record HasTaken (digesting : Digesting) (count : ℕ) (answers : List Answer) : Type 0 where
  pub begun : digesting.count ≡ count
  pub taken : digesting.added ≡ length answers
  pub message : Holds256 digesting.hasher (spell_u64 count ++ flat_map spell_answer answers)

-- fewer answers were taken in than it was begun for
abbrev pub HasRoom : Digesting → Type 0
HasRoom digesting = digesting.added < digesting.count

-- all that it was begun for were taken in
abbrev pub IsFull : Digesting → Type 0
IsFull digesting = digesting.added ≡ digesting.count
