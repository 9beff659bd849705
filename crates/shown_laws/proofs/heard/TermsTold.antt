-- The terms by which the clients of a run go are those of its service.
use Rattle.std.proofs.Common.{◌≡◌, refl}
use Rattle.client_model.specs.Reasons.{rules_of as rules_by}
use Rattle.outage_schedule.specs.declared.document.Consistency.{Consistency}
use Rattle.outage_schedule.specs.declared.document.Consistency.TheVariants as consistency
use Rattle.outage_schedule.specs.declared.document.Failover.{Failover}
use Rattle.outage_schedule.specs.declared.document.Failover.TheVariants as failover
use Rattle.outage_schedule.specs.declared.document.ServiceOf.{ServiceOf}
use Rattle.world_model.specs.meaning.Settings.{rules_of, terms_of}
use Rattle.caused_laws.specs.ServiceTerms.{kind_of, AreTermsOf}

-- by its failover and its consistency
rules_are : (way : Failover) (state : Consistency) → rules_of way state ≡ rules_by (kind_of way state)
rules_are failover.Transaction consistency.Dynamic = refl
rules_are failover.Transaction consistency.Static = refl
rules_are failover.Off state = refl
rules_are failover.Auto state = refl

pub terms_are : (service : ServiceOf) → AreTermsOf service (terms_of service)
terms_are service = record { rules = rules_are service.failover service.consistency; limits = refl; recorded = refl; digest_is = refl }
