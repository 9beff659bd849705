-- Items one after the other, as a loop writes and reads them.
use Rattle.std.proofs.Common.{◌≡◌, ℕ, suc, List, [], ◌∷◌, ◌++◌, Result, Ok, Err, refl, sym, ap, ◌∙◌, append_assoc}
use Rattle.std.specs.List.{flat_map, AllByRecursion}
use Rattle.std.proofs.lemmas.List.{append-nil, flat_map_more}
use Rattle.canon_bytes.specs.declared.fault.Fault.{Fault}
use Rattle.canon_bytes.specs.declared.fault.ReadFault.{ReadFault}
use Rattle.canon_bytes.specs.declared.fault.ReadFault.TheVariants as errors
use Rattle.canon_bytes.specs.meaning.Reading.{◌>>=◌}
use Rattle.canon_bytes.specs.Reading.{IsReading}
use Rattle.canon_bytes.specs.meaning.Lists.{items_at}

-- what is read, behind these items
abbrev pub behind : {X : Type 0} → List X → Result (List X × List ℕ) Fault → Result (List X × List ℕ) Fault
behind items read = read >>= λ others. Ok (items ++ others.0, others.1)

pub moved : {X : Type 0} (items : List X) (x : X) (read : Result (List X × List ℕ) Fault) → behind items (read >>= λ others. Ok (x ∷ others.0, others.1)) ≡ behind (items ++ x ∷ []) read
moved items x (Err fault) = refl
moved items x (Ok others) = simp append_assoc

module _ {X : Type 0} (item_at : List ℕ → Result (X × List ℕ) Fault) where
  -- these items, and then that many more from the bytes
  abbrev pub continued : List X → ℕ → List ℕ → Result (List X × List ℕ) Fault
  continued items more bytes = behind items (items_at item_at more bytes)

  pub continued-next : (items : List X) (more : ℕ) (bytes : List ℕ) (x : X) (rest : List ℕ) → item_at bytes ≡ Ok (x, rest) → continued items (suc more) bytes ≡ continued (items ++ x ∷ []) more rest
  unfolding items_at
  continued-next items more bytes x rest first = rw first (moved items x (items_at item_at more rest))

  pub continued-fault : (e : ReadFault) (items : List X) (more : ℕ) (bytes : List ℕ) → IsReading (λ (x : X × List ℕ). x) (Err e) (item_at bytes) → IsReading (λ (x : List X × List ℕ). x) (Err e) (continued items (suc more) bytes)
  unfolding items_at
  continued-fault errors.NoMemory items more bytes first = tt
  continued-fault (errors.Fault fault) items more bytes first = rw first refl

  pub continued-last : (items : List X) (bytes : List ℕ) → continued items 0 bytes ≡ Ok (items, bytes)
  unfolding items_at
  continued-last items bytes = ap (λ (all : List X). Ok (all, bytes)) (append-nil items)

pub AllByRecursion-push : {X : Type 0} (P : X → Type 0) (xs : List X) (x : X) → AllByRecursion P xs → P x → AllByRecursion P (xs ++ x ∷ [])
AllByRecursion-push P [] x all here = (here, tt)
AllByRecursion-push P (y ∷ xs) x all here = (all.0, AllByRecursion-push P xs x all.1 here)

pub spelled-push : {X : Type 0} (spell : X → List ℕ) (bytes : List ℕ) (xs : List X) (x : X) (rest after : List ℕ) → bytes ≡ flat_map spell xs ++ rest → rest ≡ spell x ++ after → bytes ≡ flat_map spell (xs ++ x ∷ []) ++ after
spelled-push spell bytes xs x rest after e f =
    e ∙ ap (λ (r : List ℕ). flat_map spell xs ++ r) f ∙ sym (append_assoc (flat_map spell xs) (spell x) after) ∙ ap (λ (r : List ℕ). r ++ after) (flat_map_more spell [] xs x)
