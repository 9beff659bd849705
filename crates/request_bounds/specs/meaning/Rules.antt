-- What each rule decides: a row of functions for each.
use Rattle.std.specs.Prelude.{ℕ, Bool, true, false, List, Option, Some, None, if◌then◌else◌}
use Rattle.svc_values.specs.declared.answer.Answer.{Answer}
use Rattle.svc_values.specs.declared.call.Call.{Call}
use Rattle.svc_values.specs.declared.call.Call.TheVariants as call
use Rattle.request_bounds.specs.declared.rule.Why.{Why}
use Rattle.request_bounds.specs.declared.rule.Why.TheVariants as why
use Rattle.request_bounds.specs.declared.rule.After.{After}
use Rattle.request_bounds.specs.declared.rule.After.TheVariants as after
use Rattle.request_bounds.specs.meaning.Replies.{ends_decided}

-- what a rule does: the reason that a submitted call gives at its index, what a reply does to the
-- recorder, and whether the settings that were shown last are kept for the next session
pub record Rules : Type 0 where
  pub submit : Call → ℕ → Option Why
  pub reply : List Answer → After
  pub keeps : Bool

-- what alters the service is not repeated, and whoever asks not to be replayed is not
abbrev pub stopped_at : Call → ℕ → Option Why
stopped_at (call.Alter line) index = Some (why.Restricted index)
stopped_at call.Disable index = Some (why.Asked index)
stopped_at _ index = None

-- besides, settings are not to change
abbrev pub stopped_static : Call → ℕ → Option Why
stopped_static (call.Set name value) index = Some (why.Settings index)
stopped_static call index = stopped_at call index

-- no replay: each submitted call says so
abbrev pub off_rules : Rules
off_rules = record {
  submit = λ call index. Some why.Off;
  reply = λ answers. after.Record;
  keeps = false;
}

-- static session state: recording begins anew after each transaction
abbrev pub static_rules : Rules
static_rules = record {
  submit = stopped_static;
  reply = λ answers. if ends_decided answers then after.Purge else after.Record;
  keeps = false;
}

-- dynamic session state: no replay after the first transaction
abbrev pub dynamic_rules : Rules
dynamic_rules = record {
  submit = stopped_at;
  reply = λ answers. if ends_decided answers then after.Stop why.AfterCommit else after.Record;
  keeps = false;
}

-- settings that are kept: recording begins anew after each transaction, and a later session begins
-- with the settings that were shown
abbrev pub auto_rules : Rules
auto_rules = record {
  submit = stopped_at;
  reply = λ answers. if ends_decided answers then after.Purge else after.Record;
  keeps = true;
}
