-- What each rule has to keep, so that a replay never repeats what was committed.
use Rattle.std.specs.Prelude.{◌≡◌, ◌≢◌, ◌⊎◌, ℕ, IsTrue, IsSome, List}
use Rattle.svc_values.specs.declared.answer.Answer.{Answer}
use Rattle.svc_values.specs.declared.value.Value.{Value}
use Rattle.svc_values.specs.declared.call.Call.{Call}
use Rattle.svc_values.specs.declared.call.Call.TheVariants as call
use Rattle.request_bounds.specs.declared.rule.After.TheVariants as after
use Rattle.request_bounds.specs.meaning.Replies.{ends_decided}
use Rattle.request_bounds.specs.meaning.Rules.{Rules}

-- the rule stops at each set, or keeps the settings
abbrev pub HoldsSettings : Rules → Type 0
HoldsSettings rules = ((name : List ℕ) (value : Value) (index : ℕ)
    → IsSome (rules.submit (call.Set name value) index)) ⊎ IsTrue rules.keeps

-- a purge comes only where the answers end with Committed or Conflict, and then the settings are
-- held
abbrev pub PurgesDecided : Rules → Type 0
PurgesDecided rules = (answers : List Answer) → rules.reply answers ≡ after.Purge
    → IsTrue (ends_decided answers) × HoldsSettings rules

-- the rule stops at every first call
abbrev pub StopsAtOnce : Rules → Type 0
StopsAtOnce rules = (call : Call) → IsSome (rules.submit call 0)

-- the rule stops at each alter, and after Committed or Conflict it does not record
abbrev pub StopsInTime : Rules → Type 0
StopsInTime rules =
    ((line : List ℕ) (index : ℕ) → IsSome (rules.submit (call.Alter line) index))
    × ((answers : List Answer) → IsTrue (ends_decided answers) → rules.reply answers ≢ after.Record)

-- a rule that keeps the settings purges after Committed and Conflict
abbrev pub KeepsByPurge : Rules → Type 0
KeepsByPurge rules = IsTrue rules.keeps → (answers : List Answer) → IsTrue (ends_decided answers)
    → rules.reply answers ≡ after.Purge

pub record IsLawful (rules : Rules) : Type 0 where
  pub purges : PurgesDecided rules
  pub stops : StopsAtOnce rules ⊎ StopsInTime rules
  pub keeps : KeepsByPurge rules
