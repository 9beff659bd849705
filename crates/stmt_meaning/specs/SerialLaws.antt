-- What serial runs keep to, and transactions that ran on other tables.
use Rattle.std.specs.Prelude.{◌≡◌, List, [], ◌∷◌, ◌++◌, Some, ◌↔◌}
use Rattle.svc_values.specs.declared.schema.Shape.{Shape}
use Rattle.svc_values.specs.declared.entry.Entry.{Entry}
use Rattle.svc_values.specs.declared.entry.Write.{Write}
use Rattle.svc_values.specs.declared.tables.PlainRow.{PlainRow}
use Rattle.svc_values.specs.meaning.SettingsList.{NamedValues}
use Rattle.svc_values.specs.meaning.Tables.{with_writes}
use Rattle.svc_values.specs.Tables.{AreTables}
use Rattle.stmt_meaning.specs.meaning.Meaning.{Meant}
use Rattle.stmt_meaning.specs.meaning.Reads.{reads_at}
use Rattle.stmt_meaning.specs.Reads.{ReadsStand}
use Rattle.stmt_meaning.specs.Rerun.{CallAt, RanAt, AreOrdered, at_once, pieces_of, reads_of}
use Rattle.stmt_meaning.specs.meaning.Serial.{Replays, Transaction, Serial}
use Rattle.stmt_meaning.specs.Serial.{RunWhole, CommitLast}
use Rattle.stmt_meaning.specs.meaning.SerialTest.{serial_after}

-- a serial run goes on by one entry
abbrev pub SerialGoesOn : Type 0
SerialGoesOn =
    (shape : Shape) (start : List PlainRow) (entries : List Entry) (between : List PlainRow)
    (entry : Entry) (after : List PlainRow)
    → Serial shape start entries between
    → Transaction shape between entry.settings entry.pieces after
    → Serial shape start (entries ++ entry ∷ []) after

-- and leaves one list of tables
abbrev pub SerialLeavesOne : Type 0
SerialLeavesOne = (shape : Shape) (start : List PlainRow) (entries : List Entry)
    (one other : List PlainRow) → Serial shape start entries one → Serial shape start entries other
    → one ≡ other

-- the test of a serial run is true exactly of serial runs
abbrev pub SerialIsTested : Type 0
SerialIsTested = (shape : Shape) (start : List PlainRow) (entries : List Entry)
    (after : List PlainRow) → (serial_after shape start entries ≡ Some after)
    ↔ Serial shape start entries after

-- A transaction goes on by one call: its writes come behind those before, and what it read behind
-- what was read.
abbrev pub RunsGoOn : Type 0
RunsGoOn =
    (shape : Shape) (settings settings_after : NamedValues) (own own_after : List Write)
    (moments : List CallAt) (last : CallAt) (meant : Meant)
    → RanAt shape settings own moments settings_after own_after
    → Replays shape (with_writes last.committed own_after) settings_after last.piece meant
    → RanAt shape settings own (moments ++ last ∷ []) meant.settings (own_after ++ meant.writes)
    × (reads_of shape settings own (moments ++ last ∷ []) ≡ reads_of shape settings own moments
    ++ reads_at last.committed meant.reads)

-- Where each place that its calls read has the rows now that were found there, a transaction runs
-- the same on the tables of now: with the same answers, draws and writes.
abbrev pub UnchangedRunSame : Type 0
UnchangedRunSame =
    (shape : Shape) (now : List PlainRow) (settings settings_after : NamedValues)
    (own own_after : List Write) (moments : List CallAt) → AreTables now → AreOrdered moments
    → RanAt shape settings own moments settings_after own_after
    → ReadsStand (reads_of shape settings own moments) now
    → RanAt shape settings own (at_once now moments) settings_after own_after

-- Its pieces then run whole, and leave those tables with its writes.
abbrev pub UnchangedRunWhole : Type 0
UnchangedRunWhole =
    (shape : Shape) (now : List PlainRow) (settings settings_after : NamedValues)
    (own_after : List Write) (moments : List CallAt) → AreTables now → AreOrdered moments
    → RanAt shape settings [] moments settings_after own_after
    → ReadsStand (reads_of shape settings [] moments) now
    → RunWhole shape now settings (pieces_of moments) settings_after (with_writes now own_after)

-- And they are a transaction of a serial run, if the last one commits and none before it does.
abbrev pub UnchangedIsSerial : Type 0
UnchangedIsSerial =
    (shape : Shape) (now : List PlainRow) (settings settings_after : NamedValues)
    (own_after : List Write) (moments : List CallAt) → AreTables now → AreOrdered moments
    → RanAt shape settings [] moments settings_after own_after
    → ReadsStand (reads_of shape settings [] moments) now → CommitLast (pieces_of moments)
    → Transaction shape now settings (pieces_of moments) (with_writes now own_after)
