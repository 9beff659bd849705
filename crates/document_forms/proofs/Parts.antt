-- What is read of the service in a part of its own changes nothing for the others.
use Rattle.std.proofs.Common.{◌≡◌, ℕ, List, false, Result, Ok, codes, refl, sym, ap, subst, ◌∙◌, rules}
use Rattle.std.specs.Str.{bytes_eq}
use Rattle.json_form.specs.declared.fault.DocFault.{DocFault}
use Rattle.json_form.specs.meaning.Faults.{Fault, ◌>>=◌}
use Rattle.json_form.specs.Faults.{Fails}
use Rattle.json_form.specs.meaning.Objects.{Named, optional}
use Rattle.json_form.specs.Objects.{without}
use Rattle.json_form.specs.meaning.Texts.{word_of}
use Rattle.outage_schedule.specs.declared.document.Failover.{Failover}
use Rattle.outage_schedule.specs.declared.document.Failover.TheVariants as failover
use Rattle.outage_schedule.specs.declared.document.Consistency.{Consistency}
use Rattle.outage_schedule.specs.declared.document.Consistency.TheVariants as consistency
use Rattle.document_forms.specs.declared.service.Words.{Words}
use Rattle.document_forms.specs.meaning.Service.{failover_words, consistency_words, words_of, limits_of, shares_of, stores_of}
use Rattle.document_forms.proofs.Steps.{fails_first, fails_after, optional_apart}
use Rattle.json_form.proofs.Offered.{others_stay}

-- the limits, once another member was taken out
pub limits_after : (other : List ℕ) (ms : Named) → bytes_eq (codes "retries") other ≡ false → bytes_eq (codes "delay") other ≡ false → bytes_eq (codes "timeout") other ≡ false → bytes_eq (codes "replays") other ≡ false → bytes_eq (codes "record") other ≡ false
    → limits_of (without other ms) ≡ limits_of ms
unfolding limits_of
limits_after other ms a b c d e = search (rules, others_stay, a, b, c, d, e)

pub shares_after : (other : List ℕ) (ms : Named) → bytes_eq (codes "pool") other ≡ false → bytes_eq (codes "keep") other ≡ false → shares_of (without other ms) ≡ shares_of ms
unfolding shares_of
shares_after other ms a b = search (rules, others_stay, a, b)

pub stores_after : (other : List ℕ) (ms : Named) → bytes_eq (codes "retention") other ≡ false → bytes_eq (codes "standby") other ≡ false → stores_of (without other ms) ≡ stores_of ms
unfolding stores_of
stores_after other ms a b = search (rules, others_stay, a, b)

pub ruleset parts_stay = (limits_after, shares_after, stores_after)

-- ---- the words of a service

abbrev by_of : Named → Result Consistency Fault
by_of ms = optional (codes "consistency") consistency.Dynamic (word_of consistency_words) ms

abbrev outage_of : Named → Result Failover Fault
outage_of ms = optional (codes "failover") failover.Transaction (word_of failover_words) ms

by_stays : (ms one : Named) → one ≡ without (codes "failover") ms → by_of one ≡ by_of ms
by_stays ms one left = ap by_of left ∙ optional_apart (codes "consistency") (codes "failover") consistency.Dynamic (word_of consistency_words) ms refl

abbrev made_words : Failover → Consistency → Result Words Fault
made_words f c = Ok (record { failover = f; consistency = c })

pub words_given : (ms one : Named) (f : Failover) (c : Consistency) → one ≡ without (codes "failover") ms → outage_of ms ≡ Ok f → by_of one ≡ Ok c → words_of ms ≡ made_words f c
unfolding words_of
words_given ms one f c left hf hc = ap (λ (q : Result Failover Fault). q >>= λ at_outage. by_of ms >>= made_words at_outage) hf ∙ ap (λ (q : Result Consistency Fault). q >>= made_words f) (sym (by_stays ms one left) ∙ hc)

pub words_fail : (ms one : Named) (f : Failover) (e : DocFault) → one ≡ without (codes "failover") ms → outage_of ms ≡ Ok f → Fails e (by_of one) → Fails e (words_of ms)
unfolding words_of
words_fail ms one f e left hf hc =
    fails_after e (outage_of ms) f (λ at_outage. by_of ms >>= made_words at_outage) hf (fails_first e (by_of ms) (made_words f) (subst (λ (q : Result Consistency Fault). Fails e q) (by_stays ms one left) hc))
