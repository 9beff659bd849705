-- Calm documents, and what their reports have: every request was shown all its answers, or waited
-- too long for a connection.
use Rattle.std.specs.Prelude.{◌==◌, ◌&&◌, ◌||◌, Bool, true, false, nat_le, is_none, length, Option, Some}
use Rattle.std.specs.List.{list_all}
use Rattle.commit_log.specs.declared.journal.Journal.{Journal}
use Rattle.outage_schedule.specs.declared.document.Document.{Document}
use Rattle.outage_schedule.specs.declared.document.Request.{Request}
use Rattle.outage_schedule.specs.declared.event.Event.{Event}
use Rattle.outage_schedule.specs.declared.event.Event.TheVariants as event
use Rattle.outage_schedule.specs.declared.failure.Failure.{Failure}
use Rattle.outage_schedule.specs.declared.failure.Failure.TheVariants as failure
use Rattle.outage_schedule.specs.declared.report.Report.{Report}
use Rattle.outage_schedule.specs.declared.request.RequestReport.{RequestReport}
use Rattle.run_clauses.specs.meaning.Before.{journal_before}
use Rattle.run_clauses.specs.meaning.Copies.{Copies, are_in_script_order, each_copies}

-- ---- calm documents

-- The event cuts no connection, takes no service down and asks for no outcome: it is no `cut`,
-- `crash`, `failover`, `upcrash` or `ask`.
abbrev pub is_calm_event : Event → Bool
is_calm_event (event.Cut connection up down) = false
is_calm_event (event.Crash connection after pick) = false
is_calm_event (event.UpCrash after pick) = false
is_calm_event (event.Ask ltxid) = false
is_calm_event _ = true

-- Each identifier that is blocked before event 1 is of an incarnation up to the last one, so of no
-- session of the run.
abbrev pub blocks_past : Journal → Bool
blocks_past before = list_all (λ x. nat_le x.incarnation before.incarnation) before.blocked

abbrev pub is_calm : Document → Bool
is_calm document = list_all is_calm_event document.schedule && blocks_past (journal_before document)

-- ---- their reports

-- it failed with PoolWait
abbrev pub has_waited : Option Failure → Bool
has_waited (Some (failure.PoolWait first now)) = true
has_waited _ = false

-- without an error, as many calls were shown as the script has
abbrev pub is_answered : Request → RequestReport → Bool
is_answered request copy = is_none copy.failed && (length copy.calls == length request.calls)

abbrev pub answered_or_waited : Request → RequestReport → Bool
answered_or_waited request copy = is_answered request copy || has_waited copy.failed

abbrev pub copies_answered : Copies → Bool
copies_answered copies = list_all (answered_or_waited copies.request) copies.reports

-- each request of each script has its report, and was answered or waited too long
abbrev pub all_answered_or_waited : Document → Report → Bool
all_answered_or_waited document report =
    are_in_script_order document.clients report.clients
    && each_copies copies_answered document report
