-- What is seen of a pair is honest: its history is one of the plain server and ends with the first
-- store, and its bytes say what that store holds.
use Rattle.std.proofs.Common.{refl, sym, subst}
use Rattle.server_model.specs.Seen.{ServiceState, Seen}
use Rattle.service_calls.specs.Kept.{IsHonest}
use Rattle.service_core.specs.InnerHonest.{honest as honest_one}
use Rattle.service_core.specs.Seeing.{state_in as state_of_one}
use Rattle.standby_ship.specs.Seeing.{SeesPair, bytes_in}
use Rattle.standby_ship.specs.Twins.{Twin, state_in}

pub honest : (pair : Twin) (seen : Seen) → SeesPair pair seen
    → IsHonest (state_in pair) (bytes_in pair) seen
honest pair seen sees =
    let one = honest_one pair.primary (record seen { state = state_of_one pair.primary }) (record {
      live = sees.sound.live;
      sound = sees.sound.primary;
      sees = record { state_is = refl; stands = sees.stands };
    }) in
    subst (λ (state : ServiceState). IsHonest (state_in pair) (bytes_in pair) (record {
      start = seen.start;
      history = seen.history;
      state = state;
    })) (sym sees.state_is)
    (record {
      state_is = refl;
      history = record {
        server = one.history.server;
        runs = one.history.runs;
        entries = one.history.entries;
        blocked = one.history.blocked;
        alerts = one.history.alerts;
        incarnation = one.history.incarnation;
        horizon = one.history.horizon;
        count = one.history.count;
        power = one.history.power;
      };
      pictures = one.pictures;
    })
