-- A work call, by what the code makes of it.
use Rattle.std.proofs.Common.{◌≡◌, ◌+◌, ℕ, Bool, true, false, List, refl, sym, ◌∙◌, ap, subst}
use Rattle.std.specs.Prelude.{Option, Some, Result, Ok, Err}
use Rattle.disk_model.specs.Disk.{DiskState}
use Rattle.svc_values.specs.declared.answer.Answer.{Answer}
use Rattle.svc_values.specs.declared.call.Call.{Call}
use Rattle.svc_values.specs.declared.call.Call.TheVariants as call
use Rattle.svc_values.specs.declared.draw.Draw.{Draw}
use Rattle.svc_values.specs.declared.frame.Down.{Down}
use Rattle.svc_values.specs.declared.frame.Down.TheVariants as down
use Rattle.svc_values.specs.declared.frame.Up.TheVariants as up
use Rattle.svc_values.specs.declared.statement.Statement.{Statement}
use Rattle.svc_values.specs.meaning.Calls.{sequences_in}
use Rattle.svc_values.specs.Calls.{IsMade}
use Rattle.svc_values.specs.meaning.Endings.{ends_committed}
use Rattle.table_txn.specs.declared.txn.Ran.{Ran}
use Rattle.table_txn.specs.Transactions.{Transaction}
use Rattle.stmt_meaning.specs.Laws.{closed_by}
use Rattle.server_model.specs.declared.fault.ServeFault.{ServeFault}
use Rattle.server_model.specs.declared.fault.ServeFault.TheVariants as fault
use Rattle.server_model.specs.Draws.{brought}
use Rattle.server_model.specs.Sessions.{piece_of}
use Rattle.server_session.specs.declared.shared.Core.{Core}
use Rattle.table_txn.specs.Changes.{begun_at}
use Rattle.server_session.specs.Dealing.{AtDesk}
use Rattle.server_session.specs.Fits.{Fits, Belongs}
use Rattle.server_session.specs.Running.{Ground, HasRunOver, RunsOver}
use Rattle.server_session.specs.SeenSession.{SeenSession}
use Rattle.server_session.specs.Serving.{Serves, called_as, commits_as}
use Rattle.server_session.proofs.Quiet.{noting}
use Rattle.server_session.proofs.Working.{answered, belongs_then, committed_on, ended_on, fits_then, lacked_on}

-- an error, by what it is
pub err_is : {A : Type 0} (result : Result A ServeFault) (error other : ServeFault) → result ≡ Err error → error ≡ other → result ≡ Err other
err_is {A} result error other told is = subst (λ (e : ServeFault). result ≡ Err e) is told

-- where the run begins, what it runs on, and what it leaves
abbrev pub start_at : Core → List Draw → DiskState → AtDesk
start_at core left disk = record { opening = core.source; left = left; log = core.log; disk = disk }

abbrev pub ground_of : Core → SeenSession → List Statement → Ground
ground_of core old statements = record { tables = core.tables; settings = old.settings; txn = old.txn; statements = statements }

abbrev pub core_after : Core → AtDesk → Core
core_after core desk = record core { source = desk.opening; log = desk.log }

abbrev pub seen_after : Core → SeenSession → Transaction → SeenSession
seen_after core old txn = record old { txn = txn; since = begun_at old.since core.changes.commits }

-- as it stands in the code
pub seen_is : (core : Core) (inside old : SeenSession) (txn : Transaction) (since : Option ℕ) → inside ≡ old → since ≡ begun_at inside.since core.changes.commits
    → ◌≡◌ {A = SeenSession} (record inside { txn = txn; since = since }) (seen_after core old txn)
seen_is core inside old txn since same is = λ i. record (same i) { txn = txn; since = (is ∙ ap (λ (s : SeenSession). begun_at s.since core.changes.commits) same) i }

module _ (statements : List Statement) (commit replay : Bool) (marks : List Draw) (now : ℕ) (old : SeenSession) (core : Core) (disk : DiskState) (fits : Fits core disk) (belongs : Belongs core old)
    (one : Call) (is : one ≡ call.Work statements commit) (left : List Draw) (left_is : left ≡ brought core.grants core.source replay marks) where
  abbrev pub Serving : Result (Option Down) ServeFault → SeenSession → Core → DiskState → Type 0
  Serving result new later end = Serves (called_as replay marks one now) (1 + sequences_in (up.Call replay marks one)) result old core disk new later end

  by_name : (result : Result (Option Down) ServeFault) (new : SeenSession) (later : Core) (end : DiskState)
      → Serves (called_as replay marks (call.Work statements commit) now) (1 + sequences_in (up.Call replay marks (call.Work statements commit))) result old core disk new later end → Serving result new later end
  by_name result new later end served = subst (λ (k : Call). Serves (called_as replay marks k now) (1 + sequences_in (up.Call replay marks k)) result old core disk new later end) (sym is) served

  -- the run was ended
  pub work_ended : (error : ServeFault) (txn : Transaction) (after : AtDesk) (result : Result (Option Down) ServeFault) (new : SeenSession) → result ≡ Err error
      → RunsOver now (ground_of core old statements) (1 + sequences_in (up.Call replay marks (call.Work statements commit))) (start_at core left disk) (Err error) txn after → Serving result new (core_after core after) after.disk
  work_ended error txn after result new told over =
      subst (λ (r : Result (Option Down) ServeFault). Serving r new (core_after core after) after.disk) (sym told)
      (by_name (Err error) new (core_after core after) after.disk (ended_on statements commit replay marks now old core disk fits belongs error txn after new
      (subst (λ (l : List Draw). RunsOver now (ground_of core old statements) (1 + sequences_in (up.Call replay marks (call.Work statements commit))) (start_at core l disk) (Err error) txn after) left_is over)))

  module _ (ran : Ran) (txn : Transaction) (desk : AtDesk) (over : HasRunOver now (ground_of core old statements) (start_at core left disk) ran txn desk) where
    over_here : HasRunOver now (ground_of core old statements) (start_at core (brought core.grants core.source replay marks) disk) ran txn desk
    over_here = subst (λ (l : List Draw). HasRunOver now (ground_of core old statements) (start_at core l disk) ran txn desk) left_is over

    -- no memory behind it
    pub work_lacked : (result : Result (Option Down) ServeFault) (new : SeenSession) (later : Core) → result ≡ Err fault.NoMemory → Serving result new later desk.disk
    work_lacked result new later told =
        subst (λ (r : Result (Option Down) ServeFault). Serving r new later desk.disk) (sym told)
        (by_name (Err fault.NoMemory) new later desk.disk (lacked_on statements commit replay marks now old core disk fits belongs ran txn desk over_here (closed_by commit ran.answers) refl))

    module _ (answers : List Answer) (closed : answers ≡ closed_by commit ran.answers) where
      pub work_fits : Fits (core_after core desk) desk.disk
      work_fits = fits_then statements commit replay marks now old core disk fits belongs ran txn desk over_here answers closed

      pub work_belongs : Belongs (core_after core desk) (seen_after core old txn)
      work_belongs = belongs_then statements commit replay marks now old core disk fits belongs ran txn desk over_here answers closed

      -- a commit is reached
      pub work_committed : (result : Result (Option Down) ServeFault) (new : SeenSession) (later : Core) (end : DiskState) → ends_committed answers ≡ true
          → Serves (commits_as replay one answers ran.draws) 1 result (seen_after core old txn) (core_after core desk) desk.disk new later end → Serving result new later end
      work_committed result new later end ends served =
          by_name result new later end (committed_on statements commit replay marks now old core disk fits belongs ran txn desk over_here answers closed result new later end ends
          (subst (λ (k : Call). Serves (commits_as replay k answers ran.draws) 1 result (seen_after core old txn) (core_after core desk) desk.disk new later end) is served))

      -- or the transaction goes on
      pub work_answered : (told : Down) (new : SeenSession) → ends_committed answers ≡ false → IsMade one → told ≡ down.Reply answers ran.draws old.ltxid → new ≡ noting (seen_after core old txn) (piece_of one answers ran.draws)
          → Serving (Ok (Some told)) new (core_after core desk) desk.disk
      work_answered told new open_still made said seen =
          by_name (Ok (Some told)) new (core_after core desk) desk.disk
          (answered statements commit replay marks now old core disk fits belongs ran txn desk over_here answers closed told new open_still (subst IsMade is made) said
          (seen ∙ ap (λ (k : Call). noting (seen_after core old txn) (piece_of k answers ran.draws)) is))
