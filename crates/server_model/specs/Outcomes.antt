-- What is told of an identifier, by the outcome table.
-- Here is what contracts and proofs say of it besides.
use Rattle.std.specs.Prelude.{◌≡◌, ◌⊎◌, true, false, [], ◌∷◌, ◌++◌}
use Rattle.svc_values.specs.declared.entry.Ltxid.{Ltxid}
use Rattle.svc_values.specs.declared.frame.Down.{Down}
use Rattle.svc_values.specs.declared.frame.Down.TheVariants as down
use Rattle.svc_values.specs.declared.frame.Ahead.TheVariants as ahead
use Rattle.ltxid_book.specs.declared.verdict.Verdict.{Verdict}
use Rattle.ltxid_book.specs.declared.verdict.Verdict.TheVariants as verdict
use Rattle.ltxid_book.specs.meaning.Outcomes.{verdict_of}
use Rattle.server_model.specs.Core.{Core, book}
use Rattle.server_model.specs.meaning.Outcomes.{Says, Stopped, Telling}

-- the frame that tells a verdict. An identifier that is to be blocked is so before it is told
abbrev pub down_of : Verdict → Down
down_of (verdict.Committed completed) = down.OutcomeIs true completed
down_of verdict.BlockIt = down.OutcomeIs false false
down_of verdict.AlreadyBlocked = down.OutcomeIs false false
down_of (verdict.ServerAhead next) = down.OutcomeRefused ahead.Server next
down_of (verdict.ClientAhead next) = down.OutcomeRefused ahead.Client next
down_of (verdict.Forgotten horizon) = down.OutcomeRefused ahead.Forgotten horizon

-- the verdict where the store is as it is
abbrev pub verdict_on : Core → Ltxid → Verdict
verdict_on core x = verdict_of (book core) x

-- the block of the identifier is stored
abbrev pub with_block : Core → Ltxid → Core
with_block core x = record core { blocked = core.blocked ++ x ∷ [] }

-- what the store holds once the verdict is told
abbrev pub if_blocks : Verdict → Core → Ltxid → Core
if_blocks verdict.BlockIt core x = with_block core x
if_blocks verdict.AlreadyBlocked core x = core
if_blocks (verdict.Committed completed) core x = core
if_blocks (verdict.ServerAhead next) core x = core
if_blocks (verdict.ClientAhead next) core x = core
if_blocks (verdict.Forgotten horizon) core x = core

-- The outcome of an identifier is told, and before it is told uncommitted it is blocked. At a stop
-- the block stands or not.
pub data Outcomes (core : Core) (x : Ltxid) : Core → Telling → Type 0 where
  IsTold : (judged : Verdict) → verdict_on core x ≡ judged
      → Outcomes core x (if_blocks judged core x) (Says (down_of judged))
  BlockStops : (after : Core) → verdict_on core x ≡ verdict.BlockIt
      → (after ≡ core) ⊎ (after ≡ with_block core x) → Outcomes core x after Stopped
