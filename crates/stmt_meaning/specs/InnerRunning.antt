-- Statements that ran, their draws taken from a source.
use Rattle.std.specs.Prelude.{◌≡◌, List, [], ◌∷◌, ◌++◌, Option, Some, option_map, option_to_list}
use Rattle.svc_values.specs.declared.draw.Draw.{Draw}
use Rattle.svc_values.specs.declared.schema.Shape.{Shape}
use Rattle.svc_values.specs.declared.statement.Statement.{Statement}
use Rattle.svc_values.specs.declared.tables.PlainRow.{PlainRow}
use Rattle.svc_values.specs.declared.tables.Place.{Place}
use Rattle.svc_values.specs.meaning.SettingsList.{NamedValues}
use Rattle.svc_values.specs.meaning.Tables.{with_writes}
use Rattle.stmt_meaning.specs.declared.effect.Effect.{Effect}
use Rattle.stmt_meaning.specs.declared.rows.Worked.{Worked}
use Rattle.stmt_meaning.specs.Drawing.{Drew, DrewAll}
use Rattle.stmt_meaning.specs.Listed.{Listing, TakesFirst}
use Rattle.stmt_meaning.specs.meaning.Meaning.{OneDone, mean1, statements_done, is_refusal}

-- One statement that ran: it used exactly the draws that it was given, which are put behind those
-- before.
pub record RanOne {S : Type 0} (drew : S → Drew → S → Type 0) (shape : Shape) (rows : List PlainRow)
    (settings : NamedValues) (statement : Statement) (old : S) (before : List Draw) (one : OneDone)
    (new : S) (after : List Draw) : Type 0 where
  pub given : List Draw
  pub drew_all : DrewAll drew old given new
  pub behind : after ≡ before ++ given
  pub means : mean1 shape rows settings statement given ≡ Some one
  pub used : one.rest ≡ []

-- the draws that a statement leaves of given ones
abbrev pub one_left : Shape → List PlainRow → NamedValues → Statement → List Draw
    → Option (List Draw)
one_left shape rows settings statement draws =
    option_map (λ one. one.rest) (mean1 shape rows settings statement draws)

-- the draws that statements leave of given ones
abbrev pub all_left : Shape → List PlainRow → NamedValues → List Statement → List Draw
    → Option (List Draw)
all_left shape rows settings statements draws =
    option_map (λ done. done.rest) (statements_done shape rows settings statements draws)

-- what a statement did that had this effect
abbrev pub one_of : Effect → List Place → OneDone
one_of effect reads = record {
  answer = effect.answer;
  writes = option_to_list effect.write;
  reads = reads;
  rest = [];
}

-- a statement on plain rows had this effect
abbrev pub HadEffect : Shape → List PlainRow → NamedValues → Statement → Listing → List Draw
    → Effect → Listing → List Draw → Type 0
HadEffect shape rows settings statement old before effect new after = (reads : List Place)
    × RanOne TakesFirst shape rows settings statement old before (one_of effect reads) new after

-- One statement more on plain rows.
pub record RanNext (shape : Shape) (settings : NamedValues) (statement : Statement)
    (old_source : Listing) (old : Worked) (new_source : Listing) (new : Worked) : Type 0 where
  pub one : OneDone
  pub ran : RanOne TakesFirst shape old.rows.items settings statement old_source old.drawn.items one
      new_source new.drawn.items
  pub answered : new.answers.items ≡ old.answers.items ++ one.answer ∷ []
  pub written : new.rows.items ≡ with_writes old.rows.items one.writes
  pub refusal : new.is_refused ≡ is_refusal one.answer
