-- What the clients of a service go by.
use Rattle.std.specs.Prelude.{◌≡◌}
use Rattle.request_bounds.specs.declared.clocked.Clocked.{Clocked}
use Rattle.outage_schedule.specs.declared.document.Failover.{Failover}
use Rattle.outage_schedule.specs.declared.document.Failover.TheVariants as failover
use Rattle.outage_schedule.specs.declared.document.Consistency.{Consistency}
use Rattle.outage_schedule.specs.declared.document.Consistency.TheVariants as consistency
use Rattle.outage_schedule.specs.declared.document.ServiceOf.{ServiceOf}
use Rattle.client_model.specs.meaning.Terms.{Terms}
use Rattle.client_model.specs.Reasons.{Kind, NoReplay, Dynamic, Static, Auto, rules_of}
use Rattle.run_clauses.specs.meaning.NoClash.{digest}

-- which of the kinds of rules a service has
abbrev pub kind_of : Failover → Consistency → Kind
kind_of failover.Transaction consistency.Dynamic = Dynamic
kind_of failover.Transaction consistency.Static = Static
kind_of failover.Off consistent = NoReplay
kind_of failover.Auto consistent = Auto

-- its limits, as its clients keep to them
abbrev pub limits_of : ServiceOf → Clocked
limits_of service = record {
  retries = service.retries;
  delay = service.delay;
  timeout = service.timeout;
  replays = service.replays;
  wait = service.pool.wait;
}

-- the terms are those of the service
pub record AreTermsOf (service : ServiceOf) (terms : Terms) : Type 0 where
  pub rules : terms.rules ≡ rules_of (kind_of service.failover service.consistency)
  pub limits : terms.limits ≡ limits_of service
  pub recorded : terms.recorded ≡ service.record_limit
  pub digest_is : terms.digest ≡ digest
