-- Which draws a call takes, told by its answers.
use Rattle.std.specs.Prelude.{◌≡◌, ◌⊎◌, false, List, [], map, length, Some}
use Rattle.svc_values.specs.declared.call.Call.{Call}
use Rattle.svc_values.specs.declared.draw.Draw.{Draw}
use Rattle.svc_values.specs.declared.schema.Shape.{Shape}
use Rattle.svc_values.specs.declared.tables.PlainRow.{PlainRow}
use Rattle.svc_values.specs.meaning.SettingsList.{NamedValues}
use Rattle.stmt_meaning.specs.Asked.{kind_drawn, UsesInOrder}
use Rattle.stmt_meaning.specs.AskedIn.{asked_while, ends_unset}
use Rattle.stmt_meaning.specs.meaning.Meaning.{Meant, mean}

-- A call takes exactly the draws that its statements ask for in its settings, up to the last that
-- has an answer.
abbrev pub CallsDrawAsAnswered : Type 0
CallsDrawAsAnswered =
    (shape : Shape) (tables : List PlainRow) (settings : NamedValues) (asked : Call)
    (draws : List Draw) (meant : Meant) → mean shape tables settings asked draws ≡ Some meant
    → UsesInOrder (asked_while shape settings asked (length meant.answers)) draws meant.rest false

-- the settings are the same, or no statement was refused for want of one
abbrev pub SettingsAgree : NamedValues → NamedValues → Meant → Meant → Type 0
SettingsAgree settings others meant other =
    (settings ≡ others) ⊎ ((ends_unset meant.answers ≡ false) × (ends_unset other.answers ≡ false))

-- So where a call has as many answers on other tables, it takes draws of the same kinds and names,
-- in order. (With other settings a statement may be refused for want of a setting before or behind
-- one of its draws, and both times with the same answer.)
abbrev pub AnswersTellDraws : Type 0
AnswersTellDraws =
    (shape : Shape) (tables other_tables : List PlainRow) (settings others : NamedValues)
    (asked : Call) (draws again : List Draw) (meant other : Meant)
    → mean shape tables settings asked draws ≡ Some meant
    → mean shape other_tables others asked again ≡ Some other → meant.rest ≡ []
    → other.rest ≡ []
    → length meant.answers ≡ length other.answers → SettingsAgree settings others meant other
    → map kind_drawn draws ≡ map kind_drawn again
