-- What statements and calls mean on plain tables.
use Rattle.std.specs.Prelude.{Bool, true, false, List, [], ◌∷◌, ◌++◌, Option, Some, None, Ok, Err, map, option_to_list, if◌then◌else◌}
use Rattle.svc_values.specs.declared.value.Value.{Value}
use Rattle.svc_values.specs.declared.schema.Shape.{Shape}
use Rattle.svc_values.specs.declared.draw.Draw.{Draw}
use Rattle.svc_values.specs.declared.statement.Statement.{Statement}
use Rattle.svc_values.specs.declared.call.Call.{Call}
use Rattle.svc_values.specs.declared.call.Call.TheVariants as call
use Rattle.svc_values.specs.declared.answer.Answer.{Answer}
use Rattle.svc_values.specs.declared.answer.Answer.TheVariants as answer
use Rattle.svc_values.specs.declared.entry.Write.{Write}
use Rattle.svc_values.specs.meaning.SettingsList.{NamedValues, put_setting}
use Rattle.stmt_meaning.specs.declared.plan.Plan.{Plan}
use Rattle.svc_values.specs.declared.tables.PlainRow.{PlainRow}
use Rattle.svc_values.specs.declared.tables.Place.{Place}
use Rattle.svc_values.specs.meaning.Tables.{rows_at, with_writes}
use Rattle.stmt_meaning.specs.meaning.Operands.{Reading}
use Rattle.stmt_meaning.specs.meaning.Plans.{plan_of, place_of}
use Rattle.stmt_meaning.specs.meaning.Effects.{effect}

-- the rows at the place that a plan reads
abbrev pub seen_at : List PlainRow → Option Place → List (List Value)
seen_at tables None = []
seen_at tables (Some at) = map (λ one. one.row) (rows_at tables at)

-- what a statement does: its answer, its writes, the place that it read, if any, and the draws that
-- are left
pub record OneDone : Type 0 where
  pub answer : Answer
  pub writes : List Write
  pub reads : List Place
  pub rest : List Draw

abbrev pub done_at : List PlainRow → Reading Plan → Option OneDone
done_at tables None = None
done_at tables (Some (Err refusal, left)) = Some (record {
  answer = answer.Refused refusal;
  writes = [];
  reads = [];
  rest = left;
})
done_at tables (Some (Ok asked, left)) =
    let done = effect asked (seen_at tables (place_of asked)) in
    Some (record {
      answer = done.answer;
      writes = option_to_list done.write;
      reads = option_to_list (place_of asked);
      rest = left;
    })

-- One statement: what its text and operands ask for, done on the rows at its place. None where the
-- draws differ from those asked for.
abbrev pub mean1 : Shape → List PlainRow → NamedValues → Statement → List Draw → Option OneDone
mean1 shape tables settings asked draws = done_at tables (plan_of shape settings asked draws)

abbrev pub is_refusal : Answer → Bool
is_refusal (answer.Refused refusal) = true
is_refusal _ = false

-- what statements did, one after the other
pub record AllDone : Type 0 where
  pub answers : List Answer
  pub writes : List Write
  pub reads : List Place
  pub rest : List Draw
  pub refused : Bool

abbrev pub after_first : OneDone → Option AllDone → Option AllDone
after_first one None = None
after_first one (Some more) = Some (record {
  answers = one.answer ∷ more.answers;
  writes = one.writes ++ more.writes;
  reads = one.reads ++ more.reads;
  rest = more.rest;
  refused = more.refused;
})

abbrev pub ended_by : OneDone → Option AllDone
ended_by one = Some (record {
  answers = one.answer ∷ [];
  writes = [];
  reads = one.reads;
  rest = one.rest;
  refused = true;
})

abbrev pub and_on : Option OneDone → (OneDone → Option AllDone) → Option AllDone
and_on None next = None
and_on (Some one) next = if is_refusal one.answer then ended_by one else after_first one (next one)

-- The statements in order, each on the tables with the writes of those before it. The first refusal
-- ends them.
abbrev pub statements_done : Shape → List PlainRow → NamedValues → List Statement → List Draw
    → Option AllDone
statements_done shape tables settings [] draws = Some (record {
  answers = [];
  writes = [];
  reads = [];
  rest = draws;
  refused = false;
})
statements_done shape tables settings (first ∷ rest) draws =
    and_on (mean1 shape tables settings first draws)
    (λ one. statements_done shape (with_writes tables one.writes) settings rest one.rest)

-- what a call does: its answers, the tables and settings after it, its writes, the places that it
-- read, and the draws that are left
pub record Meant : Type 0 where
  pub answers : List Answer
  pub tables : List PlainRow
  pub settings : NamedValues
  pub writes : List Write
  pub reads : List Place
  pub rest : List Draw

abbrev pub alone : List PlainRow → NamedValues → List Draw → Answer → Option Meant
alone tables settings draws a = Some (record {
  answers = a ∷ [];
  tables = tables;
  settings = settings;
  writes = [];
  reads = [];
  rest = draws;
})

abbrev pub commit_answer : Bool → List Answer
commit_answer commit = if commit then answer.Committed ∷ [] else []

-- a refusal takes the writes back, and what was read and drawn stays so
abbrev pub worked : List PlainRow → NamedValues → Bool → Option AllDone → Option Meant
worked tables settings commit None = None
worked tables settings commit (Some done) =
    if done.refused
    then Some (record {
      answers = done.answers;
      tables = tables;
      settings = settings;
      writes = [];
      reads = done.reads;
      rest = done.rest;
    })
    else Some (record {
      answers = done.answers ++ commit_answer commit;
      tables = with_writes tables done.writes;
      settings = settings;
      writes = done.writes;
      reads = done.reads;
      rest = done.rest;
    })

-- One call. None where the draws don't begin with those that it asks for.
abbrev pub mean : Shape → List PlainRow → NamedValues → Call → List Draw → Option Meant
mean shape tables settings (call.Work statements commit) draws =
    worked tables settings commit (statements_done shape tables settings statements draws)
mean shape tables settings (call.Set name x) draws =
    alone tables (put_setting settings name x) draws (answer.Done 1)
mean shape tables settings (call.Alter line) draws = alone tables settings draws (answer.Done 1)
mean shape tables settings call.Disable draws = alone tables settings draws (answer.Done 0)
mean shape tables settings call.Rollback draws = alone tables settings draws answer.RolledBack
