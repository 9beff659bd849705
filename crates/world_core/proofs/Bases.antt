-- The base of a store's journal, over several calls of its service.
use Rattle.std.proofs.Common.{◌≡◌, ◌∙◌, ap, subst, ℕ, List, Err}
use Rattle.commit_log.specs.declared.journal.Journal.{Journal}
use Rattle.server_model.specs.Seen.{Store}
use Rattle.server_model.specs.declared.fault.ServeFault.{ServeFault}
use Rattle.server_model.specs.declared.fault.ServeFault.TheVariants as fault
use Rattle.service_calls.specs.Answers.{NotMemory}
use Rattle.service_calls.specs.Kept.{Pictures, HaveOneBase}

-- bytes that nothing wrote
pub one_base_kept : (bytes : List ℕ) → HaveOneBase bytes bytes
one_base_kept bytes journal other is is_other = let same : other ≡ journal = cc in ap (λ (one : Journal). one.base) same

-- bytes in between that say what the store holds
pub one_base_on : (old mid new : List ℕ) (store : Store) → Pictures store mid → HaveOneBase old mid → HaveOneBase mid new → HaveOneBase old new
one_base_on old mid new store between first second journal other is is_other = second between.journal other between.reads is_other ∙ first journal between.journal is between.reads

-- at a stop
pub one_base_stopped : (A : Type 0) (old new : List ℕ) (e : ServeFault) → e ≡ fault.Stopped → NotMemory {A = A} (Err e) (HaveOneBase old new) → HaveOneBase old new
one_base_stopped A old new e is kept = subst (λ (e : ServeFault). NotMemory {A = A} (Err e) (HaveOneBase old new)) is kept
