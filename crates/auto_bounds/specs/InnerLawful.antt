-- The row of a service that keeps settings is lawful.
use Rattle.std.proofs.Common.{◌≡◌, List, if◌then◌else◌, refl, ap, inr}
use Rattle.std.specs.Prelude.{IsTrue}
use Rattle.svc_values.specs.declared.answer.Answer.{Answer}
use Rattle.request_bounds.specs.declared.rule.After.TheVariants as after
use Rattle.request_bounds.specs.meaning.Replies.{ends_decided}
use Rattle.request_bounds.specs.meaning.Rules.{auto_rules}
use Rattle.request_bounds.specs.Law.{IsLawful}
use Rattle.request_bounds.specs.InnerLawful.{static_lawful}

purges_decided : (answers : List Answer) → IsTrue (ends_decided answers)
    → auto_rules.reply answers ≡ after.Purge
purges_decided answers ends = ap (λ t. if t then after.Purge else after.Record) ends

-- its replies are those of static settings
pub auto_lawful : IsLawful auto_rules
auto_lawful = record {
  purges = λ answers purge. ((static_lawful.purges answers purge).0, inr refl);
  stops = inr (
    λ line index. refl,
    λ answers ends recorded. let purged : auto_rules.reply answers
        ≡ after.Purge = purges_decided answers ends in let none : ⊥ = cc in none,
  );
  keeps = λ always answers ends. purges_decided answers ends;
}
