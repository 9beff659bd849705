-- A call that is tried.
use Rattle.std.specs.Prelude.{ℕ, Bool, List}
use Rattle.svc_values.specs.declared.call.Call.{Call}
use Rattle.svc_values.specs.declared.draw.Draw.{Draw}
use Rattle.svc_values.specs.meaning.Tables.{with_writes}
use Rattle.stmt_meaning.specs.meaning.Meaning.{mean}
use Rattle.table_store.specs.Stored.{Stored}
use Rattle.table_txn.specs.Transactions.{shape_of}
use Rattle.server_model.specs.meaning.Legal.{means_commit}
use Rattle.calls_again.specs.OnWay.{OnWay}

-- with these draws the call uses all of them and reaches its commit
abbrev pub commits_with : Stored → List (List ℕ) → OnWay → Call → List Draw → Bool
commits_with tables names going called draws =
    means_commit (mean (shape_of tables names) (with_writes tables.rows going.writes) going.settings
    called draws)
