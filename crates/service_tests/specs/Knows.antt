-- That what is known of a service holds of it.
use Rattle.std.specs.Prelude.{◌≡◌, ◌≤◌, ℕ, true, false, is_some}
use Rattle.server_model.specs.Seen.{ServiceState, Seen}
use Rattle.service_tests.specs.Facts.{Facts, lives_at}

-- of its state
pub record Tells (facts : Facts) (state : ServiceState) : Type 0 where
  pub live : state.is_spent ≡ false
  pub calls : state.calls ≡ facts.calls
  pub settled : facts.is_settled ≡ true → state.is_settled ≡ true
  pub opened : facts.is_opened ≡ true → state.is_opened ≡ true
  pub incarnation : facts.incarnation ≤ state.store.incarnation
  pub living : (connection : ℕ) → is_some (state.living connection) ≡ lives_at facts connection

-- and something is seen of it
pub record Knows (facts : Facts) (state : ServiceState) (Sees : Seen → Type 0) : Type 0 where
  pub tells : Tells facts state
  pub seen : Seen
  pub sees : Sees seen
