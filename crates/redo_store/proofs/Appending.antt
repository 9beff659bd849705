-- The two writes of an append, as what a crash meanwhile leaves of the records.
use Rattle.std.proofs.Common.{◌≡◌, ◌⊎◌, ℕ, ◌+◌, ◌^◌, ◌<◌, List, [], ◌∷◌, ◌++◌, length, inl, inr, refl, sym, subst}
use Rattle.disk_model.specs.Moment.{Torn, with_bytes}
use Rattle.disk_model.specs.Disk.{DiskState, Meanwhile}
use Rattle.disk_model.specs.declared.disk.DiskFault.{DiskFault}
use Rattle.disk_model.specs.declared.disk.DiskFault.TheVariants.{Failed, NoMemory}
use Rattle.disk_model.proofs.Offered.{then, weaker, torn_with_bytes}
use Rattle.redo_store.specs.meaning.Records.{records_of}
use Rattle.redo_store.specs.Records.{length_bytes}
use Rattle.redo_store.specs.Store.{IsStore, IsOldOrNew}
use Rattle.redo_store.specs.Walk.{KeepsFront}
use Rattle.redo_store.proofs.Standing.{keeps_behind, keeps_gate}
use Rattle.redo_store.proofs.Gates.{tail_within, same_records, behind_gate, old_or_new}

pub fault_cases : (fault : DiskFault) → (fault ≡ Failed) ⊎ (fault ≡ NoMemory)
fault_cases Failed = inl refl
fault_cases NoMemory = inr refl

module _ (s t : DiskState) (tail : ℕ) (store : IsStore tail s.now.seen) (payload body : List ℕ) where
  -- the first leaves the records as they were
  pub body_written : Meanwhile s t (Torn (tail + 1) (length body) s.now.seen) → Meanwhile s t (IsOldOrNew s.now.seen payload)
  body_written run = weaker s t (Torn (tail + 1) (length body) s.now.seen) (IsOldOrNew s.now.seen payload) run (λ image torn. inl (same_records tail s.now.seen store (length body) image torn))

  pub body_keeps : Meanwhile s t (Torn (tail + 1) (length body) s.now.seen) → Meanwhile s t (KeepsFront tail s.now.seen)
  body_keeps run = weaker s t (Torn (tail + 1) (length body) s.now.seen) (KeepsFront tail s.now.seen) run (λ image torn. keeps_behind tail s.now.seen store (length body) image torn)

  module _ (staged : t.now.seen ≡ with_bytes (tail + 1) body s.now.seen) where
    torn : Torn (tail + 1) (length body) s.now.seen t.now.seen
    torn = subst (λ (l : List ℕ). Torn (tail + 1) (length body) s.now.seen l) (sym staged) (torn_with_bytes (tail + 1) body s.now.seen (tail_within tail s.now.seen store))

    pub kept : records_of t.now.seen ≡ records_of s.now.seen
    kept = same_records tail s.now.seen store (length body) t.now.seen torn

    pub still_store : IsStore tail t.now.seen
    still_store = behind_gate tail s.now.seen store (length body) t.now.seen torn

    -- the second leaves them with the payload or without
    pub gate_written : (u : DiskState) → length payload < 2 ^ 64 → body ≡ length_bytes (length payload) ++ payload ++ 0 ∷ [] → Meanwhile s t (Torn (tail + 1) (length body) s.now.seen) → Meanwhile t u (Torn tail 1 t.now.seen) → Meanwhile s u (IsOldOrNew s.now.seen payload)
    gate_written u short spells first second =
        then s t u (IsOldOrNew s.now.seen payload) (body_written first)
        (weaker t u (Torn tail 1 t.now.seen) (IsOldOrNew s.now.seen payload) second
        (λ image at_gate. old_or_new tail s.now.seen store payload body short spells image (subst (λ (l : List ℕ). Torn tail 1 l image) staged at_gate)))

    pub gate_keeps : (u : DiskState) → length payload < 2 ^ 64 → body ≡ length_bytes (length payload) ++ payload ++ 0 ∷ [] → Meanwhile s t (Torn (tail + 1) (length body) s.now.seen) → Meanwhile t u (Torn tail 1 t.now.seen) → Meanwhile s u (KeepsFront tail s.now.seen)
    gate_keeps u short spells first second =
        then s t u (KeepsFront tail s.now.seen) (body_keeps first)
        (weaker t u (Torn tail 1 t.now.seen) (KeepsFront tail s.now.seen) second
        (λ image at_gate. keeps_gate tail s.now.seen store payload body short spells image (subst (λ (l : List ℕ). Torn tail 1 l image) staged at_gate)))
