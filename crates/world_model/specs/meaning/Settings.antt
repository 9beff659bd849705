-- What a run goes by, as its document says.
use Rattle.std.specs.Prelude.{List, map}
use Rattle.request_bounds.specs.declared.clocked.Clocked.{Clocked}
use Rattle.request_bounds.specs.meaning.Rules.{Rules, off_rules, static_rules, dynamic_rules, auto_rules}
use Rattle.client_model.specs.meaning.Terms.{Terms}
use Rattle.outage_schedule.specs.declared.document.Failover.{Failover}
use Rattle.outage_schedule.specs.declared.document.Failover.TheVariants as failover
use Rattle.outage_schedule.specs.declared.document.Consistency.{Consistency}
use Rattle.outage_schedule.specs.declared.document.Consistency.TheVariants as consistency
use Rattle.outage_schedule.specs.declared.document.ServiceOf.{ServiceOf}
use Rattle.outage_schedule.specs.declared.document.Request.{Request}
use Rattle.outage_schedule.specs.declared.document.Document.{Document}
use Rattle.run_clauses.specs.meaning.NoClash.{digest}

abbrev pub boundary_rules : Consistency → Rules
boundary_rules consistency.Dynamic = dynamic_rules
boundary_rules consistency.Static = static_rules

abbrev pub rules_of : Failover → Consistency → Rules
rules_of failover.Transaction consistent = boundary_rules consistent
rules_of failover.Off consistent = off_rules
rules_of failover.Auto consistent = auto_rules

abbrev pub limits_of : ServiceOf → Clocked
limits_of service = record {
  retries = service.retries;
  delay = service.delay;
  timeout = service.timeout;
  replays = service.replays;
  wait = service.pool.wait;
}

abbrev pub terms_of : ServiceOf → Terms
terms_of service = record {
  rules = rules_of service.failover service.consistency;
  limits = limits_of service;
  recorded = service.record_limit;
  digest = digest;
}

-- the script of each client, and the terms of all
pub record Setting : Type 0 where
  pub scripts : List (List Request)
  pub terms : Terms

abbrev pub setting_of : Document → Setting
setting_of document = record {
  scripts = map (λ client. client.requests) document.clients;
  terms = terms_of document.service;
}
