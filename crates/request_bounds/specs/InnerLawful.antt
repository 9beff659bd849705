-- Each row of the table keeps the law.
use Rattle.std.proofs.Common.{◌≡◌, Bool, true, false, if◌then◌else◌, refl, inl, inr}
use Rattle.request_bounds.specs.declared.rule.Why.TheVariants as why
use Rattle.request_bounds.specs.declared.rule.After.TheVariants as after
use Rattle.request_bounds.specs.meaning.Replies.{ends_decided}
use Rattle.request_bounds.specs.meaning.Rules.{off_rules, static_rules, dynamic_rules}
use Rattle.request_bounds.specs.Law.{IsLawful}

pub off_lawful : IsLawful off_rules
off_lawful = record {
  purges = λ answers purge. absurd (let none : ⊥ = cc in none);
  stops = inl (λ call. refl);
  keeps = λ never answers ends. absurd (let none : ⊥ = cc in none);
}

-- after answers that are decided the recorder is purged, and after others not
purges_ended : (ends : Bool) → (if ends then after.Purge else after.Record) ≡ after.Purge
    → ends ≡ true
purges_ended true is = refl
purges_ended false is = absurd (let none : ⊥ = cc in none)

purged_not_recorded : (ends : Bool) → ends ≡ true
    → (if ends then after.Purge else after.Record) ≡ after.Record → ⊥
purged_not_recorded true e is = let none : ⊥ = cc in none
purged_not_recorded false e is = let none : ⊥ = cc in none

pub static_lawful : IsLawful static_rules
static_lawful = record {
  purges = λ answers purge. (
    purges_ended (ends_decided answers) purge,
    inl (λ name value index. refl),
  );
  stops = inr (λ line index. refl, λ answers ends. purged_not_recorded (ends_decided answers) ends);
  keeps = λ never answers ends. absurd (let none : ⊥ = cc in none);
}

dynamic_purge : (ends : Bool) → (if ends then after.Stop why.AfterCommit else after.Record)
    ≡ after.Purge → ⊥
dynamic_purge true is = let none : ⊥ = cc in none
dynamic_purge false is = let none : ⊥ = cc in none

dynamic_record : (ends : Bool) → ends ≡ true
    → (if ends then after.Stop why.AfterCommit else after.Record) ≡ after.Record → ⊥
dynamic_record true e is = let none : ⊥ = cc in none
dynamic_record false e is = let none : ⊥ = cc in none

pub dynamic_lawful : IsLawful dynamic_rules
dynamic_lawful = record {
  purges = λ answers purge. absurd (dynamic_purge (ends_decided answers) purge);
  stops = inr (λ line index. refl, λ answers ends. dynamic_record (ends_decided answers) ends);
  keeps = λ never answers ends. absurd (let none : ⊥ = cc in none);
}
