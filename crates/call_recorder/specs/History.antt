-- What a recorder holds after a list of notes and purges.
use Rattle.std.specs.Prelude.{◌≡◌, ℕ, Bool, true, false, List, [], ◌∷◌, if◌then◌else◌, fold}
use Rattle.std.specs.List.{list_any}
use Rattle.call_recorder.specs.declared.recorded.Recorded.{Recorded}
use Rattle.call_recorder.specs.meaning.Recording.{Recording, noted, purged}

-- what is done to a recorder; a note that was refused changes nothing and is left out
pub data Did : Type 0 where
  Noted : Recorded → Did
  Purged : Did

abbrev pub after_one : Recording → Did → Recording
after_one recording (Noted call) = noted recording call
after_one recording Purged = purged recording

abbrev pub is_purge : Did → Bool
is_purge (Noted call) = false
is_purge Purged = true

-- the calls that no purge comes after, in order
abbrev pub noted_since_purge : List Did → List Recorded
noted_since_purge [] = []
noted_since_purge (Noted call ∷ later) =
    if list_any is_purge later then noted_since_purge later else call ∷ noted_since_purge later
noted_since_purge (Purged ∷ later) = noted_since_purge later

-- a recorder holds the calls noted since the last purge, in order
abbrev pub HoldsNotedCalls : Type 0
HoldsNotedCalls = (limit : ℕ) (history : List Did) → fold after_one (record {
  limit = limit;
  calls = [];
}) history ≡ record { limit = limit; calls = noted_since_purge history }
