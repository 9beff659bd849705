use Rattle.std.proofs.Common.{◌≡◌, subst}
use Rattle.std.specs.Prelude.{◌≢◌, None, IfOk, true}
use Rattle.service_calls.specs.Ended.{IsEndOf}
use Rattle.standby_ship.specs.Seeing.{bytes_in}
use Rattle.standby_ship.specs.Twins.{Twin, state_in}
use Rattle.standby_ship.proofs.Staying.{first_quiet}
use Rattle.standby_ship.proofs.pair.Pair.read_at_end.Goals as goal

pub returns-clause-told : goal.returns-clause-told
returns-clause-told g c =
    subst (λ (t : Twin). IfOk c.read_at_end-read.result.0 (IsEndOf (bytes_in t))) c.self.view_is c.read_at_end-read.ensures.told

pub returns-clause-cause : goal.returns-clause-cause
returns-clause-cause g c told =
    subst (λ (t : Twin). (state_in t).is_quiet ≡ true → (state_in t).stop ≢ None) c.self.view_is (λ quiet. c.read_at_end-read.ensures.cause told (first_quiet c.self.inside.primary.disk.quiet _ quiet))
