-- In a state that is as the invariant says, Begins carry the settings of their requests, and so
-- sessions have them, and transactions start with them.
use Rattle.std.proofs.Common.{◌≡◌, true}
use Rattle.invariant_laws.specs.Begins.{carry_settings, sessions_stand, transactions_start}
use Rattle.invariant_laws.specs.Invariant.{Invariant}
use Rattle.world_model.specs.Traced.{Traced}
use Rattle.once_laws.proofs.Offered.{sessions_known, starts_known}

pub settings_carried : (t : Traced) → Invariant t → carry_settings t ≡ true
settings_carried t whole = whole.settings

pub transactions_started : (t : Traced) → Invariant t → transactions_start t ≡ true
transactions_started t whole = starts_known t whole.orderly whole.shown.rows whole.settings whole.followed

pub sessions_set : (t : Traced) → Invariant t → sessions_stand t ≡ true
sessions_set t whole = sessions_known t whole.orderly whole.shown.rows whole.settings whole.followed
