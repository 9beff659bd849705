-- What is seen of a pair, by what is seen of the first store's service.
use Rattle.std.proofs.Common.{◌≡◌, refl, sym, subst, List, false}
use Rattle.server_model.specs.meaning.Base.{Base}
use Rattle.server_model.specs.Runs.{Happened}
use Rattle.server_model.specs.Seen.{ServiceState, Seen}
use Rattle.service_calls.specs.Kept.{Goes}
use Rattle.service_core.specs.Seeing.{SeesIn, StandsIn, state_in as state_of_one}
use Rattle.service_core.specs.Within.{Within}
use Rattle.standby_ship.specs.Seeing.{SecondStands, SeesPair}
use Rattle.standby_ship.specs.Sound.{IsSoundPair}
use Rattle.standby_ship.specs.Twins.{Twin, state_in}

abbrev pub seen_with : Base → List Happened → ServiceState → Seen
seen_with start history state = record { start = start; history = history; state = state }

-- with the state of a service
abbrev pub seen_of : Within → Base → List Happened → Seen
seen_of service start history = seen_with start history (state_of_one service)

-- with that of a pair
abbrev pub seen_in : Twin → Base → List Happened → Seen
seen_in pair start history = seen_with start history (state_in pair)

-- the first store's service is seen with the same past
pub sees_one : (pair : Twin) (seen : Seen) → SeesPair pair seen → SeesIn pair.primary (seen_of pair.primary seen.start seen.history)
sees_one pair seen sees = record { live = sees.sound.live; sound = sees.sound.primary; sees = record { state_is = refl; stands = sees.stands } }

-- What a pair comes to with the service of its first store.
pub record ComesWith (old new : Twin) (Does : Seen → Seen → Type 0) (start : Base) (history : List Happened) (begun : Base) (later : List Happened) : Type 0 where
  pub second : SecondStands new new.second begun later
  pub does : Does (seen_in old start history) (seen_in new begun later)

-- What is done to the first store's service is done to the pair.
pub goes_with : (old new : Twin) (One Does : Seen → Seen → Type 0) → new.is_spent ≡ false → IsSoundPair new → Goes (SeesIn old.primary) (SeesIn new.primary) One
    → ((start : Base) (history : List Happened) (begun : Base) (later : List Happened) → StandsIn old.primary start history → SecondStands old old.second start history → StandsIn new.primary begun later
    → One (seen_of old.primary start history) (seen_of new.primary begun later) → ComesWith old new Does start history begun later)
    → Goes (SeesPair old) (SeesPair new) Does
goes_with old new One Does live sound goes comes before sees =
    let first = seen_of old.primary before.start before.history in
    let gone = goes first (sees_one old before sees) in
    let after = gone.0 in
    let one = subst (λ (state : ServiceState). One first (seen_with after.start after.history state)) gone.1.0.sees.state_is gone.1.1 in
    let c = comes before.start before.history after.start after.history sees.stands sees.second gone.1.0.sees.stands one in
    subst (λ (state : ServiceState). (seen : Seen) × (SeesPair new seen × Does (seen_with before.start before.history state) seen)) (sym sees.state_is)
    (seen_in new after.start after.history, (record { live = live; sound = sound; state_is = refl; stands = gone.1.0.sees.stands; second = c.second }, c.does))
