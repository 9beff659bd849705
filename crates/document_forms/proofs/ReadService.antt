-- What a service that was read keeps to.
use Rattle.std.proofs.Common.{◌≡◌, ℕ, [], ◌∷◌, ◌&&◌, Bool, true, false, Result, Ok, codes, refl, sym, ap, subst, ◌∙◌}
use Rattle.serde_json.specs.Data.{Data}
use Rattle.json_form.specs.meaning.Faults.{Fault, ◌>>=◌}
use Rattle.json_form.specs.meaning.Values.{whole_of, bool_of}
use Rattle.json_form.specs.meaning.Objects.{Named, object_with, optional}
use Rattle.outage_schedule.specs.declared.document.PoolOf.{PoolOf}
use Rattle.outage_schedule.specs.declared.document.ServiceOf.{ServiceOf}
use Rattle.document_forms.specs.declared.service.Words.{Words}
use Rattle.document_forms.specs.declared.service.Limits.{Limits}
use Rattle.document_forms.specs.declared.service.Shares.{Shares}
use Rattle.document_forms.specs.declared.service.Stores.{Stores}
use Rattle.document_forms.specs.meaning.Service.{usual_pool, usual_keep, pool_of, keep_of, words_of, limits_of, shares_of, stores_of, service_with, service_members, service_of, usual_service}
use Rattle.document_forms.specs.Numbers.{is_between}
use Rattle.document_forms.specs.Keeping.{is_service}
use Rattle.json_form.proofs.Offered.{after, ok_is, both_true, optional_keeps}
use Rattle.document_forms.proofs.ReadNumbers.{member_whole}

record IsPool (pool : PoolOf) : Type 0 where
  slots : is_between 1 64 pool.max ≡ true
  ticks : is_between 1 1000000 pool.wait ≡ true

abbrev with_wait : Named → ℕ → Result PoolOf Fault
with_wait ms most = optional (codes "wait") 1000 (whole_of 1 1000000) ms >>= λ wait. Ok (record { max = most; wait = wait })

pool_read : (d : Data) (pool : PoolOf) → pool_of d ≡ Ok pool → IsPool pool
unfolding pool_of
pool_read d pool h =
    let a = after (object_with (codes "max" ∷ codes "wait" ∷ []) d) (λ ms. optional (codes "max") 4 (whole_of 1 64) ms >>= with_wait ms) pool h in
    let b = after (optional (codes "max") 4 (whole_of 1 64) a.0) (with_wait a.0) pool a.2 in
    let c = after (optional (codes "wait") 1000 (whole_of 1 1000000) a.0) (λ wait. Ok (record { max = b.0; wait = wait })) pool b.2 in
    let made : PoolOf = record { max = b.0; wait = c.0 } in
    let same : made ≡ pool = ok_is made pool c.2 in record {
      slots = ap (λ (p : PoolOf). is_between 1 64 p.max) (sym same) ∙ member_whole (codes "max") 1 64 4 a.0 b.0 refl b.1;
      ticks = ap (λ (p : PoolOf). is_between 1 1000000 p.wait) (sym same) ∙ member_whole (codes "wait") 1 1000000 1000 a.0 c.0 refl c.1;
    }

abbrev are_limits : Limits → Bool
are_limits limits =
    is_between 1 1000 limits.retries && (is_between 0 1000 limits.delay && (is_between 0 1000000 limits.timeout && (is_between 0 4 limits.replays && is_between 1 256 limits.record_limit)))

abbrev with_record : Named → ℕ → ℕ → ℕ → ℕ → Result Limits Fault
with_record ms retries delay timeout replays =
    optional (codes "record") 256 (whole_of 1 256) ms >>= λ most. Ok (record { retries = retries; delay = delay; timeout = timeout; replays = replays; record_limit = most })

abbrev with_replays : Named → ℕ → ℕ → ℕ → Result Limits Fault
with_replays ms retries delay timeout = optional (codes "replays") 4 (whole_of 0 4) ms >>= with_record ms retries delay timeout

abbrev with_timeout : Named → ℕ → ℕ → Result Limits Fault
with_timeout ms retries delay = optional (codes "timeout") 300 (whole_of 0 1000000) ms >>= with_replays ms retries delay

abbrev with_delay : Named → ℕ → Result Limits Fault
with_delay ms retries = optional (codes "delay") 10 (whole_of 0 1000) ms >>= with_timeout ms retries

limits_read : (ms : Named) (limits : Limits) → limits_of ms ≡ Ok limits → are_limits limits ≡ true
unfolding limits_of
limits_read ms limits h =
    let a = after (optional (codes "retries") 30 (whole_of 1 1000) ms) (with_delay ms) limits h in
    let b = after (optional (codes "delay") 10 (whole_of 0 1000) ms) (with_timeout ms a.0) limits a.2 in
    let c = after (optional (codes "timeout") 300 (whole_of 0 1000000) ms) (with_replays ms a.0 b.0) limits b.2 in
    let e = after (optional (codes "replays") 4 (whole_of 0 4) ms) (with_record ms a.0 b.0 c.0) limits c.2 in
    let f = after (optional (codes "record") 256 (whole_of 1 256) ms) (λ most. Ok (record { retries = a.0; delay = b.0; timeout = c.0; replays = e.0; record_limit = most })) limits e.2 in
    let made : Limits = record { retries = a.0; delay = b.0; timeout = c.0; replays = e.0; record_limit = f.0 } in
    ap are_limits (sym (ok_is made limits f.2)) ∙ both_true _ _ (member_whole (codes "retries") 1 1000 30 ms a.0 refl a.1)
    (both_true _ _ (member_whole (codes "delay") 0 1000 10 ms b.0 refl b.1) (both_true _ _ (member_whole (codes "timeout") 0 1000000 300 ms c.0 refl c.1)
    (both_true _ _ (member_whole (codes "replays") 0 4 4 ms e.0 refl e.1) (member_whole (codes "record") 1 256 256 ms f.0 refl f.1))))

record AreShares (shares : Shares) : Type 0 where
  pool : IsPool shares.pool

shares_read : (ms : Named) (shares : Shares) → shares_of ms ≡ Ok shares → AreShares shares
unfolding shares_of
shares_read ms shares h =
    let p = after (optional (codes "pool") usual_pool pool_of ms) (λ pool. optional (codes "keep") usual_keep keep_of ms >>= λ keep. Ok (record { pool = pool; keep = keep })) shares h in
    let k = after (optional (codes "keep") usual_keep keep_of ms) (λ keep. Ok (record { pool = p.0; keep = keep })) shares p.2 in
    let usual : IsPool usual_pool = record { slots = refl; ticks = refl } in
    let made : Shares = record { pool = p.0; keep = k.0 } in
    subst AreShares {x = made} (ok_is made shares k.2) (record { pool = optional_keeps IsPool (codes "pool") usual_pool pool_of ms p.0 usual pool_read p.1 })

stores_read : (ms : Named) (stores : Stores) → stores_of ms ≡ Ok stores → is_between 0 1000000 stores.retention ≡ true
unfolding stores_of
stores_read ms stores h =
    let r = after (optional (codes "retention") 86400 (whole_of 0 1000000) ms) (λ retention. optional (codes "standby") false bool_of ms >>= λ standby. Ok (record { retention = retention; standby = standby })) stores h in
    let s = after (optional (codes "standby") false bool_of ms) (λ standby. Ok (record { retention = r.0; standby = standby })) stores r.2 in
    let made : Stores = record { retention = r.0; standby = s.0 } in
    ap (λ (kept : Stores). is_between 0 1000000 kept.retention) (sym (ok_is made stores s.2)) ∙ member_whole (codes "retention") 0 1000000 86400 ms r.0 refl r.1

abbrev with_stores : Named → Words → Limits → Shares → Result ServiceOf Fault
with_stores ms words limits shares = stores_of ms >>= λ stores. Ok (service_with words limits shares stores)

abbrev with_shares : Named → Words → Limits → Result ServiceOf Fault
with_shares ms words limits = shares_of ms >>= with_stores ms words limits

abbrev with_limits : Named → Words → Result ServiceOf Fault
with_limits ms words = limits_of ms >>= with_shares ms words

first_of : (a b c d e r : Bool) → (a && (b && (c && (d && e)))) ≡ true → r ≡ true → (a && (b && (c && (d && (e && r))))) ≡ true
first_of true true true true true r all last = last
first_of true true true true false r all last = absurd (cc)
first_of true true true false e r all last = absurd (cc)
first_of true true false d e r all last = absurd (cc)
first_of true false c d e r all last = absurd (cc)
first_of false b c d e r all last = absurd (cc)

made_service : (words : Words) (limits : Limits) (shares : Shares) (stores : Stores) → are_limits limits ≡ true → AreShares shares → is_between 0 1000000 stores.retention ≡ true → is_service (service_with words limits shares stores) ≡ true
unfolding is_service
made_service words limits shares stores are is kept =
    first_of (is_between 1 1000 limits.retries) (is_between 0 1000 limits.delay) (is_between 0 1000000 limits.timeout) (is_between 0 4 limits.replays) (is_between 1 256 limits.record_limit)
    (is_between 1 64 shares.pool.max && (is_between 1 1000000 shares.pool.wait && is_between 0 1000000 stores.retention)) are (both_true _ _ is.pool.slots (both_true _ _ is.pool.ticks kept))

pub service_read : (d : Data) (service : ServiceOf) → service_of d ≡ Ok service → is_service service ≡ true
unfolding service_of
service_read d service h =
    let a = after (object_with service_members d) (λ ms. words_of ms >>= with_limits ms) service h in
    let ms = a.0 in
    let w = after (words_of ms) (with_limits ms) service a.2 in
    let l = after (limits_of ms) (with_shares ms w.0) service w.2 in
    let s = after (shares_of ms) (with_stores ms w.0 l.0) service l.2 in
    let t = after (stores_of ms) (λ stores. Ok (service_with w.0 l.0 s.0 stores)) service s.2 in
    let made : ServiceOf = service_with w.0 l.0 s.0 t.0 in
    ap is_service (sym (ok_is made service t.2)) ∙ made_service w.0 l.0 s.0 t.0 (limits_read ms l.0 l.1) (shares_read ms s.0 s.1) (stores_read ms t.0 t.1)

pub usual_is : is_service usual_service ≡ true
unfolding is_service
usual_is = refl
