-- The openings of a store, one after the other, with what is done in each.
use Rattle.std.specs.Prelude.{pos, ◌≡◌, ◌+ℤ◌, ◌<◌, ◌≤◌, ◌^◌, IsTrue, int_le, List, [], ◌∷◌, ◌++◌}
use Rattle.svc_values.specs.declared.draw.Draw.{Draw}
use Rattle.mutable_values.specs.declared.source.SeqState.{SeqState}
use Rattle.mutable_values.specs.Sources.{Opening, are_sequences}
use Rattle.mutable_values.specs.History.{Did, after_all, all_anew, MayDoAll}

-- an opening as it begins, and what is done to its source
pub record Epoch : Type 0 where
  pub opening : Opening
  pub history : List Did

abbrev pub last_of : Epoch → Opening
last_of epoch = after_all epoch.opening epoch.history

-- Its sequences are such, and are told of reservations that may be made alone. The numbers of
-- incarnations have eight bytes, and so many new identifiers may be drawn as there is room for.
pub record IsEpoch (epoch : Epoch) : Type 0 where
  pub sequences : IsTrue (are_sequences epoch.opening.sequences)
  pub history : MayDoAll epoch.opening epoch.history
  pub incarnation : epoch.opening.incarnation < 2 ^ 64
  pub identifiers : (last_of epoch).identifiers ≤ 2 ^ 60

-- the same sequences, each going on behind what was reserved for it
abbrev pub GoOn : List SeqState → List SeqState → Type 0
GoOn [] [] = Unit {0}
GoOn (before ∷ befores) (after ∷ afters) =
    (after.name ≡ before.name) × IsTrue (int_le (before.upto +ℤ pos 1) after.next)
    × GoOn befores afters
GoOn _ _ = ⊥

-- A later opening has a later incarnation, and goes on behind the reservations of the one before. A
-- reservation may have been stored of which that one was not told.
pub record Follows (before after : Opening) : Type 0 where
  pub incarnation : before.incarnation < after.incarnation
  pub sequences : GoOn before.sequences after.sequences

abbrev pub FollowsIf : Opening → List Epoch → Type 0
FollowsIf before [] = Unit {0}
FollowsIf before (next ∷ later) = Follows before next.opening

abbrev pub AreEpochs : List Epoch → Type 0
AreEpochs [] = Unit {0}
AreEpochs (epoch ∷ later) = IsEpoch epoch × FollowsIf (last_of epoch) later × AreEpochs later

-- what was drawn anew over all of them, in order
abbrev pub anew_over : List Epoch → List Draw
anew_over [] = []
anew_over (epoch ∷ later) = all_anew epoch.opening epoch.history ++ anew_over later
