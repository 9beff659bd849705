-- How the service and its drivers are described in a document. Each member may be missing.
use Rattle.std.specs.Prelude.{ℕ, List, [], ◌∷◌, false, Result, Ok, codes}
use Rattle.serde_json.specs.Data.{Data}
use Rattle.json_form.specs.meaning.Faults.{Fault, ◌>>=◌}
use Rattle.json_form.specs.meaning.Values.{whole_of, bool_of}
use Rattle.json_form.specs.meaning.Objects.{Named, object_with, optional}
use Rattle.json_form.specs.meaning.Texts.{word_of}
use Rattle.outage_schedule.specs.declared.document.Failover.{Failover}
use Rattle.outage_schedule.specs.declared.document.Failover.TheVariants as failover
use Rattle.outage_schedule.specs.declared.document.Consistency.{Consistency}
use Rattle.outage_schedule.specs.declared.document.Consistency.TheVariants as consistency
use Rattle.outage_schedule.specs.declared.document.PoolOf.{PoolOf}
use Rattle.outage_schedule.specs.declared.document.KeepOf.{KeepOf}
use Rattle.outage_schedule.specs.declared.document.ServiceOf.{ServiceOf}
use Rattle.document_forms.specs.declared.service.Words.{Words}
use Rattle.document_forms.specs.declared.service.Limits.{Limits}
use Rattle.document_forms.specs.declared.service.Shares.{Shares}
use Rattle.document_forms.specs.declared.service.Stores.{Stores}

abbrev pub failover_words : List (List ℕ × Failover)
failover_words = (codes "transaction", failover.Transaction) ∷ (codes "none", failover.Off)
    ∷ (codes "auto", failover.Auto) ∷ []

abbrev pub consistency_words : List (List ℕ × Consistency)
consistency_words = (codes "dynamic", consistency.Dynamic) ∷ (codes "static", consistency.Static)
    ∷ []

-- without a word of it the pool has 4 slots, and a request waits for 1,000 ticks
abbrev pub usual_pool : PoolOf
usual_pool = record { max = 4; wait = 1000 }

unfoldable pub pool_of : Data → Result PoolOf Fault
pool_of d =
    object_with (codes "max" ∷ codes "wait" ∷ []) d >>= λ ms. optional (codes "max") 4
    (whole_of 1 64) ms >>= λ most.
    optional (codes "wait") 1000 (whole_of 1 1000000) ms >>= λ wait. Ok (record {
      max = most;
      wait = wait;
    })

-- no draw's value is kept
abbrev pub usual_keep : KeepOf
usual_keep = record { seq = false; clock = false; id = false }

unfoldable pub keep_of : Data → Result KeepOf Fault
keep_of d =
    object_with (codes "seq" ∷ codes "clock" ∷ codes "id" ∷ []) d >>= λ ms. optional (codes "seq")
    false bool_of ms >>= λ seq.
    optional (codes "clock") false bool_of ms >>= λ clock. optional (codes "id") false bool_of
    ms >>= λ id. Ok (record {
      seq = seq;
      clock = clock;
      id = id;
    })

-- what the drivers do at an outage, among the members of the service
unfoldable pub words_of : Named → Result Words Fault
words_of ms =
    optional (codes "failover") failover.Transaction (word_of failover_words) ms >>= λ at_outage.
    optional (codes "consistency") consistency.Dynamic (word_of consistency_words) ms >>= λ by.
    Ok (record { failover = at_outage; consistency = by })

abbrev pub usual_limits : Limits
usual_limits = record { retries = 30; delay = 10; timeout = 300; replays = 4; record_limit = 256 }

-- the limits on tries, time and replays, among the members of the service
unfoldable pub limits_of : Named → Result Limits Fault
limits_of ms =
    optional (codes "retries") 30 (whole_of 1 1000) ms >>= λ retries. optional (codes "delay") 10
    (whole_of 0 1000) ms >>= λ delay.
    optional (codes "timeout") 300 (whole_of 0 1000000) ms >>= λ timeout. optional (codes "replays")
    4 (whole_of 0 4) ms >>= λ replays.
    optional (codes "record") 256 (whole_of 1 256) ms >>= λ most. Ok (record {
      retries = retries;
      delay = delay;
      timeout = timeout;
      replays = replays;
      record_limit = most;
    })

-- the pool and the draws that are kept, among them
unfoldable pub shares_of : Named → Result Shares Fault
shares_of ms = optional (codes "pool") usual_pool pool_of ms >>= λ pool. optional (codes "keep")
    usual_keep keep_of ms >>= λ keep. Ok (record {
      pool = pool;
      keep = keep;
    })

-- how long outcomes are kept, and whether there is a second store, among them
unfoldable pub stores_of : Named → Result Stores Fault
stores_of ms = optional (codes "retention") 86400 (whole_of 0 1000000) ms >>= λ retention.
    optional (codes "standby") false bool_of ms >>= λ standby. Ok (record {
      retention = retention;
      standby = standby;
    })

abbrev pub service_with : Words → Limits → Shares → Stores → ServiceOf
service_with words limits shares stores = record {
  failover = words.failover;
  consistency = words.consistency;
  retries = limits.retries;
  delay = limits.delay;
  timeout = limits.timeout;
  replays = limits.replays;
  record_limit = limits.record_limit;
  pool = shares.pool;
  keep = shares.keep;
  retention = stores.retention;
  standby = stores.standby;
}

-- without a word of it
abbrev pub usual_service : ServiceOf
usual_service =
    service_with (record {
      failover = failover.Transaction;
      consistency = consistency.Dynamic;
    }) usual_limits (record { pool = usual_pool; keep = usual_keep })
    (record { retention = 86400; standby = false })

abbrev pub service_members : List (List ℕ)
service_members =
    codes "failover" ∷ codes "consistency" ∷ codes "retries" ∷ codes "delay" ∷ codes "timeout"
    ∷ codes "replays" ∷ codes "record" ∷ codes "pool" ∷ codes "keep" ∷ codes "retention"
    ∷ codes "standby" ∷ []

-- the faults of its members come in this order
unfoldable pub service_of : Data → Result ServiceOf Fault
service_of d =
    object_with service_members d >>= λ ms. words_of ms >>= λ words. limits_of ms >>= λ limits.
    shares_of ms >>= λ shares. stores_of ms >>= λ stores.
    Ok (service_with words limits shares stores)
