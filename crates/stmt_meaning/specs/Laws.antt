-- What statements and calls keep to.
use Rattle.std.specs.Prelude.{◌≡◌, ◌≤◌, Bool, true, false, List, [], ◌∷◌, ◌++◌, Some, option_map, ◌&&◌, not, filter, length, if◌then◌else◌}
use Rattle.svc_values.specs.declared.schema.Shape.{Shape}
use Rattle.svc_values.specs.declared.draw.Draw.{Draw}
use Rattle.svc_values.specs.declared.statement.Statement.{Statement}
use Rattle.svc_values.specs.declared.call.Call.{Call}
use Rattle.svc_values.specs.declared.call.Call.TheVariants as call
use Rattle.svc_values.specs.declared.answer.Answer.{Answer}
use Rattle.svc_values.specs.declared.answer.Answer.TheVariants as answer
use Rattle.svc_values.specs.declared.frame.Up.TheVariants as up
use Rattle.svc_values.specs.declared.tables.PlainRow.{PlainRow}
use Rattle.svc_values.specs.meaning.Calls.{sequences_in}
use Rattle.svc_values.specs.meaning.Fitting.{writes_fit}
use Rattle.svc_values.specs.Fitting.{IsBase}
use Rattle.svc_values.specs.meaning.SettingsList.{NamedValues}
use Rattle.svc_values.specs.meaning.Tables.{with_writes}
use Rattle.svc_values.specs.Tables.{AreTables, AgreeAt}
use Rattle.stmt_meaning.specs.meaning.Asked.{asked_by_call}
use Rattle.stmt_meaning.specs.Asked.{is_of_sequence, UsesInOrder, sequences_drawn}
use Rattle.stmt_meaning.specs.meaning.Meaning.{OneDone, Meant, mean1, mean}
use Rattle.stmt_meaning.specs.Refused.{ends_refused}

-- the draws that are left by a statement, and whether there are enough, depend on no row
abbrev pub DrawsLookAtNoRow : Type 0
DrawsLookAtNoRow =
    (shape : Shape) (a b : List PlainRow) (settings : NamedValues) (asked : Statement)
    (draws : List Draw)
    → option_map (λ one. one.rest) (mean1 shape a settings asked draws)
    ≡ option_map (λ one. one.rest) (mean1 shape b settings asked draws)

-- the place that a statement reads depends on no row either
abbrev pub PlacesLookAtNoRow : Type 0
PlacesLookAtNoRow =
    (shape : Shape) (a b : List PlainRow) (settings : NamedValues) (asked : Statement)
    (draws : List Draw)
    → option_map (λ one. one.reads) (mean1 shape a settings asked draws)
    ≡ option_map (λ one. one.reads) (mean1 shape b settings asked draws)

-- and it is one, or none
abbrev pub StatementsReadOnePlace : Type 0
StatementsReadOnePlace =
    (shape : Shape) (tables : List PlainRow) (settings : NamedValues) (asked : Statement)
    (draws : List Draw) (one : OneDone) → mean1 shape tables settings asked draws ≡ Some one
    → length one.reads ≤ 1

-- What a statement answers, writes, reads and draws depends on the rows at that place alone: where
-- other tables have the same rows there, it does the same.
abbrev pub StatementsAreLocal : Type 0
StatementsAreLocal =
    (shape : Shape) (a b : List PlainRow) (settings : NamedValues) (asked : Statement)
    (draws : List Draw) (one : OneDone) → mean1 shape a settings asked draws ≡ Some one
    → AgreeAt a b one.reads
    → mean1 shape b settings asked draws ≡ Some one

-- And so does a call, by the places that its statements read: it leaves the other tables with the
-- same writes.
abbrev pub CallsAreLocal : Type 0
CallsAreLocal =
    (shape : Shape) (a b : List PlainRow) (settings : NamedValues) (asked : Call)
    (draws : List Draw) (meant : Meant) → AreTables a → AreTables b
    → mean shape a settings asked draws ≡ Some meant → AgreeAt a b meant.reads
    → mean shape b settings asked draws ≡ Some (record meant {
      tables =
          with_writes b meant.writes;
    })

-- A call takes the draws that its operands ask for, in order, up to the statement that is refused,
-- if one is.
abbrev pub CallsDrawInOrder : Type 0
CallsDrawInOrder =
    (shape : Shape) (tables : List PlainRow) (settings : NamedValues) (asked : Call)
    (draws : List Draw) (meant : Meant) → mean shape tables settings asked draws ≡ Some meant
    → UsesInOrder (asked_by_call asked) draws meant.rest (ends_refused meant.answers)

-- The sequences among these are those that are counted in its frame,
abbrev pub SequencesAreCounted : Type 0
SequencesAreCounted = (replay : Bool) (kept : List Draw) (asked : Call)
    → length (filter is_of_sequence (asked_by_call asked))
    ≡ sequences_in (up.Call replay kept asked)

-- and it takes no more values of sequences.
abbrev pub CallsDrawFewSequences : Type 0
CallsDrawFewSequences =
    (shape : Shape) (tables : List PlainRow) (settings : NamedValues) (asked : Call)
    (draws : List Draw) (meant : Meant) → mean shape tables settings asked draws ≡ Some meant
    → meant.rest ≡ []
    → (replay : Bool) (kept : List Draw)
    → sequences_drawn draws ≤ sequences_in (up.Call replay kept asked)

-- a call leaves the tables with its writes
abbrev pub CallsLeaveWrites : Type 0
CallsLeaveWrites =
    (shape : Shape) (tables : List PlainRow) (settings : NamedValues) (asked : Call)
    (draws : List Draw) (meant : Meant) → mean shape tables settings asked draws ≡ Some meant
    → meant.tables ≡ with_writes tables meant.writes

-- The tables after a call are in order and fit what is declared, where those before it do, and its
-- writes fit as well.
abbrev pub CallsKeepTables : Type 0
CallsKeepTables =
    (shape : Shape) (tables : List PlainRow) (settings : NamedValues) (asked : Call)
    (draws : List Draw) (meant : Meant) → mean shape tables settings asked draws ≡ Some meant
    → IsBase shape tables
    → IsBase shape meant.tables × (writes_fit shape.schemas meant.writes ≡ true)

-- the answers of statements, and that of a commit behind them where one is asked for and none of
-- them was refused
abbrev pub closed_by : Bool → List Answer → List Answer
closed_by commit answers = if commit && not (ends_refused answers) then answers ++ answer.Committed
    ∷ [] else answers

-- a commit behind statements is answered last, and changes nothing else
abbrev pub CommitsComeLast : Type 0
CommitsComeLast =
    (shape : Shape) (tables : List PlainRow) (settings : NamedValues) (statements : List Statement)
    (draws : List Draw) (meant : Meant)
    → mean shape tables settings (call.Work statements false) draws ≡ Some meant
    → (commit : Bool) → mean shape tables settings (call.Work statements commit) draws
    ≡ Some (record meant { answers = closed_by commit meant.answers })
