-- A call means the same on tables that agree at the places that it reads.
use Rattle.std.proofs.Common.{◌≡◌, Bool, true, false, cond, List, [], ◌∷◌, ◌++◌, map, length, ◌≤◌, arith, refl, sym, ap, ◌∙◌, subst}
use Rattle.std.specs.Prelude.{Option, Some, None, Ok, Err, option_map, option_to_list}
use Rattle.svc_values.specs.declared.value.Value.{Value}
use Rattle.svc_values.specs.declared.schema.Shape.{Shape}
use Rattle.svc_values.specs.declared.draw.Draw.{Draw}
use Rattle.svc_values.specs.declared.statement.Statement.{Statement}
use Rattle.svc_values.specs.declared.call.Call.{Call}
use Rattle.svc_values.specs.declared.call.Call.TheVariants as call
use Rattle.svc_values.specs.declared.answer.Answer.{Answer}
use Rattle.svc_values.specs.declared.entry.Write.{Write}
use Rattle.stmt_meaning.specs.declared.plan.Plan.{Plan}
use Rattle.svc_values.specs.declared.tables.PlainRow.{PlainRow}
use Rattle.svc_values.specs.declared.tables.Place.{Place}
use Rattle.svc_values.specs.meaning.Tables.{with_writes}
use Rattle.svc_values.specs.Tables.{AreTables, AgreeAt}
use Rattle.stmt_meaning.specs.meaning.Operands.{Reading}
use Rattle.stmt_meaning.specs.meaning.Plans.{plan_of, place_of}
use Rattle.stmt_meaning.specs.meaning.Effects.{effect}
use Rattle.stmt_meaning.specs.meaning.Meaning.{OneDone, AllDone, Meant, seen_at, done_at, mean1, statements_done, and_on, after_first, ended_by, is_refusal, worked, alone, mean, commit_answer}
use Rattle.svc_values.proofs.Offered.{rows_at-with_writes, AreTables-with_writes}
use Rattle.svc_values.specs.meaning.SettingsList.{NamedValues}

-- ---- places

pub AgreeAt-front : (a b : List PlainRow) (places more : List Place) → AgreeAt a b (places ++ more) → AgreeAt a b places
AgreeAt-front a b [] more all = tt
AgreeAt-front a b (at ∷ places) more all = (all.0, AgreeAt-front a b places more all.1)

pub AgreeAt-back : (a b : List PlainRow) (places more : List Place) → AgreeAt a b (places ++ more) → AgreeAt a b more
AgreeAt-back a b [] more all = all
AgreeAt-back a b (at ∷ places) more all = AgreeAt-back a b places more all.1

-- they still agree with the same writes over both
pub AgreeAt-with_writes : (a b : List PlainRow) (writes : List Write) → AreTables a → AreTables b → (places : List Place) → AgreeAt a b places → AgreeAt (with_writes a writes) (with_writes b writes) places
AgreeAt-with_writes a b writes in_a in_b [] all = tt
AgreeAt-with_writes a b writes in_a in_b (at ∷ places) all = (rows_at-with_writes a b at writes in_a in_b all.0, AgreeAt-with_writes a b writes in_a in_b places all.1)

-- ---- one statement

seen_same : (a b : List PlainRow) (at : Option Place) → AgreeAt a b (option_to_list at) → seen_at a at ≡ seen_at b at
seen_same a b None all = refl
seen_same a b (Some at) all = ap (map (λ one. one.row)) all.0

done_same : (a b : List PlainRow) (read : Reading Plan) (one : OneDone) → done_at a read ≡ Some one → AgreeAt a b one.reads → done_at b read ≡ Some one
done_same a b None one is all = cc
done_same a b (Some (Err refusal, left)) one is all = is
done_same a b (Some (Ok asked, left)) one is all =
    let of_rows : List (List Value) → OneDone = λ rows. record { answer = (effect asked rows).answer; writes = option_to_list (effect asked rows).write; reads = option_to_list (place_of asked); rest = left } in
    let reads : one.reads ≡ option_to_list (place_of asked) = cc in
    let seen = seen_same a b (place_of asked) (subst (AgreeAt a b) reads all) in
    ap (λ rows. Some (of_rows rows)) (sym seen) ∙ is

pub mean1-same : (shape : Shape) (a b : List PlainRow) (settings : NamedValues) (asked : Statement) (draws : List Draw) (one : OneDone) → mean1 shape a settings asked draws ≡ Some one → AgreeAt a b one.reads → mean1 shape b settings asked draws ≡ Some one
mean1-same shape a b settings asked draws one is all = done_same a b (plan_of shape settings asked draws) one is all

drawn_same : (a b : List PlainRow) (read : Reading Plan) → option_map (λ one. one.rest) (done_at a read) ≡ option_map (λ one. one.rest) (done_at b read)
drawn_same a b None = refl
drawn_same a b (Some (Err refusal, left)) = refl
drawn_same a b (Some (Ok asked, left)) = refl

-- the draws that a statement takes depend on no row
pub mean1-draws : (shape : Shape) (a b : List PlainRow) (settings : NamedValues) (asked : Statement) (draws : List Draw) → option_map (λ one. one.rest) (mean1 shape a settings asked draws) ≡ option_map (λ one. one.rest) (mean1 shape b settings asked draws)
mean1-draws shape a b settings asked draws = drawn_same a b (plan_of shape settings asked draws)

-- nor does the place that it reads
placed_same : (a b : List PlainRow) (read : Reading Plan) → option_map (λ one. one.reads) (done_at a read) ≡ option_map (λ one. one.reads) (done_at b read)
placed_same a b None = refl
placed_same a b (Some (Err refusal, left)) = refl
placed_same a b (Some (Ok asked, left)) = refl

pub mean1-places : (shape : Shape) (a b : List PlainRow) (settings : NamedValues) (asked : Statement) (draws : List Draw) → option_map (λ one. one.reads) (mean1 shape a settings asked draws) ≡ option_map (λ one. one.reads) (mean1 shape b settings asked draws)
mean1-places shape a b settings asked draws = placed_same a b (plan_of shape settings asked draws)

at_most_one : (at : Option Place) → length (option_to_list at) ≤ 1
at_most_one None = omega arith
at_most_one (Some at) = omega arith

reads_few : (tables : List PlainRow) (read : Reading Plan) (one : OneDone) → done_at tables read ≡ Some one → length one.reads ≤ 1
reads_few tables None one is = cc
reads_few tables (Some (Err refusal, left)) one is = let reads : one.reads ≡ [] = cc in subst (λ places. length places ≤ 1) (sym reads) (omega arith)
reads_few tables (Some (Ok asked, left)) one is = let reads : one.reads ≡ option_to_list (place_of asked) = cc in subst (λ places. length places ≤ 1) (sym reads) (at_most_one (place_of asked))

-- a statement reads one place, or none
pub mean1-place : (shape : Shape) (tables : List PlainRow) (settings : NamedValues) (asked : Statement) (draws : List Draw) (one : OneDone) → mean1 shape tables settings asked draws ≡ Some one → length one.reads ≤ 1
mean1-place shape tables settings asked draws one is = reads_few tables (plan_of shape settings asked draws) one is

-- ---- statements

module _ (shape : Shape) (settings : NamedValues) where
  abbrev onward : List PlainRow → List Statement → OneDone → Option AllDone
  onward tables rest one = statements_done shape (with_writes tables one.writes) settings rest one.rest

  step_same : (a b : List PlainRow) (first : Statement) (rest : List Statement) (draws : List Draw) (done : AllDone)
      → ((one : OneDone) (more : AllDone) → onward a rest one ≡ Some more → AgreeAt (with_writes a one.writes) (with_writes b one.writes) more.reads → onward b rest one ≡ Some more) → AreTables a → AreTables b
      → (here : Option OneDone) → mean1 shape a settings first draws ≡ here → and_on here (onward a rest) ≡ Some done → AgreeAt a b done.reads → and_on (mean1 shape b settings first draws) (onward b rest) ≡ Some done
  step_same a b first rest draws done ih in_a in_b None means is all = cc
  step_same a b first rest draws done ih in_a in_b (Some one) means is all = at (is_refusal one.answer) refl (onward a rest one) refl
    where
      at : (refused : Bool) → is_refusal one.answer ≡ refused → (more : Option AllDone) → onward a rest one ≡ more → and_on (mean1 shape b settings first draws) (onward b rest) ≡ Some done
      at true gone more goes =
          let ends : ended_by one ≡ Some done = ap (λ r. cond r (ended_by one) (after_first one (onward a rest one))) (sym gone) ∙ is in
          let reads : done.reads ≡ one.reads = cc in
          let same = mean1-same shape a b settings first draws one means (subst (AgreeAt a b) reads all) in
          ap (λ o. and_on o (onward b rest)) same ∙ ap (λ r. cond r (ended_by one) (after_first one (onward b rest one))) gone ∙ ends
      at false kept None goes =
          let none : after_first one (onward a rest one) ≡ Some done = ap (λ r. cond r (ended_by one) (after_first one (onward a rest one))) (sym kept) ∙ is in
          let none' : after_first one None ≡ Some done = ap (after_first one) (sym goes) ∙ none in
          cc
      at false kept (Some more) goes =
          let joined : after_first one (onward a rest one) ≡ Some done = ap (λ r. cond r (ended_by one) (after_first one (onward a rest one))) (sym kept) ∙ is in
          let joined' : after_first one (Some more) ≡ Some done = ap (after_first one) (sym goes) ∙ joined in
          let reads : done.reads ≡ one.reads ++ more.reads = cc in
          let agree : AgreeAt a b (one.reads ++ more.reads) = subst (AgreeAt a b) reads all in
          let same = mean1-same shape a b settings first draws one means (AgreeAt-front a b one.reads more.reads agree) in
          let on = ih one more goes (AgreeAt-with_writes a b one.writes in_a in_b more.reads (AgreeAt-back a b one.reads more.reads agree)) in
          ap (λ o. and_on o (onward b rest)) same ∙ ap (λ r. cond r (ended_by one) (after_first one (onward b rest one))) kept ∙ ap (after_first one) on ∙ joined'

  pub statements-same : (a b : List PlainRow) (asked : List Statement) (draws : List Draw) (done : AllDone) → AreTables a → AreTables b → statements_done shape a settings asked draws ≡ Some done → AgreeAt a b done.reads → statements_done shape b settings asked draws ≡ Some done
  statements-same a b [] draws done in_a in_b is all = is
  statements-same a b (first ∷ rest) draws done in_a in_b is all =
      step_same a b first rest draws done (λ one more goes agree. statements-same (with_writes a one.writes) (with_writes b one.writes) rest one.rest more (AreTables-with_writes a one.writes in_a) (AreTables-with_writes b one.writes in_b) goes agree) in_a in_b
      (mean1 shape a settings first draws) refl is all

-- ---- calls

-- what a call left, on other tables
abbrev pub meant_on : List PlainRow → Meant → Meant
meant_on tables meant = record meant { tables = with_writes tables meant.writes }

some_same : (a b : Meant) → Some a ≡ Some b → a ≡ b
some_same a b e = cc

-- a meaning is the same on other tables, and leaves its own with its writes
abbrev IsSame : Option Meant → List PlainRow → List PlainRow → List Place → Meant → Type 0
IsSame there a b reads meant = (meant.reads ≡ reads) × ((there ≡ Some (meant_on b meant)) × (meant.tables ≡ with_writes a meant.writes))

work_same : (a b : List PlainRow) (settings : NamedValues) (commit : Bool) (done : AllDone) (meant : Meant) → worked a settings commit (Some done) ≡ Some meant → (refused : Bool) → done.refused ≡ refused → IsSame (worked b settings commit (Some done)) a b done.reads meant
work_same a b settings commit done meant is true gone =
    let here : Meant = record { answers = done.answers; tables = a; settings = settings; writes = []; reads = done.reads; rest = done.rest } in
    let means : worked a settings commit (Some done) ≡ Some here = rw gone refl in
    let there : worked b settings commit (Some done) ≡ Some (meant_on b here) = rw gone refl in
    subst (λ m. IsSame (worked b settings commit (Some done)) a b done.reads m) (some_same here meant (sym means ∙ is)) (refl, (there, refl))
work_same a b settings commit done meant is false kept =
    let here : Meant = record { answers = done.answers ++ commit_answer commit; tables = with_writes a done.writes; settings = settings; writes = done.writes; reads = done.reads; rest = done.rest } in
    let means : worked a settings commit (Some done) ≡ Some here = rw kept refl in
    let there : worked b settings commit (Some done) ≡ Some (meant_on b here) = rw kept refl in
    subst (λ m. IsSame (worked b settings commit (Some done)) a b done.reads m) (some_same here meant (sym means ∙ is)) (refl, (there, refl))

all_same : (shape : Shape) (a b : List PlainRow) (settings : NamedValues) (asked : List Statement) (commit : Bool) (draws : List Draw) (meant : Meant) → AreTables a → AreTables b → (all : Option AllDone) → statements_done shape a settings asked draws ≡ all
    → worked a settings commit all ≡ Some meant → AgreeAt a b meant.reads → worked b settings commit (statements_done shape b settings asked draws) ≡ Some (meant_on b meant)
all_same shape a b settings asked commit draws meant in_a in_b None goes is all = cc
all_same shape a b settings asked commit draws meant in_a in_b (Some done) goes is all =
    let same = work_same a b settings commit done meant is done.refused refl in
    ap (worked b settings commit) (statements-same shape settings a b asked draws done in_a in_b goes (subst (AgreeAt a b) same.0 all)) ∙ same.1.0

alone_same : (a b : List PlainRow) (settings : NamedValues) (draws : List Draw) (answer : Answer) (meant : Meant) → alone a settings draws answer ≡ Some meant → IsSame (alone b settings draws answer) a b [] meant
alone_same a b settings draws answer meant is =
    let here : Meant = record { answers = answer ∷ []; tables = a; settings = settings; writes = []; reads = []; rest = draws } in
    subst (λ m. IsSame (alone b settings draws answer) a b [] m) (some_same here meant is) (refl, (refl, refl))

-- a call means the same on tables that agree where it reads
pub mean-same : (shape : Shape) (a b : List PlainRow) (settings : NamedValues) (asked : Call) (draws : List Draw) (meant : Meant) → AreTables a → AreTables b → mean shape a settings asked draws ≡ Some meant → AgreeAt a b meant.reads
    → mean shape b settings asked draws ≡ Some (meant_on b meant)
mean-same shape a b settings (call.Work statements commit) draws meant in_a in_b is all = all_same shape a b settings statements commit draws meant in_a in_b (statements_done shape a settings statements draws) refl is all
mean-same shape a b settings (call.Set name x) draws meant in_a in_b is all = (alone_same a b _ draws _ meant is).1.0
mean-same shape a b settings (call.Alter line) draws meant in_a in_b is all = (alone_same a b _ draws _ meant is).1.0
mean-same shape a b settings call.Disable draws meant in_a in_b is all = (alone_same a b _ draws _ meant is).1.0
mean-same shape a b settings call.Rollback draws meant in_a in_b is all = (alone_same a b _ draws _ meant is).1.0

work_tables : (a : List PlainRow) (settings : NamedValues) (commit : Bool) (all : Option AllDone) (meant : Meant) → worked a settings commit all ≡ Some meant → meant.tables ≡ with_writes a meant.writes
work_tables a settings commit None meant is = cc
work_tables a settings commit (Some done) meant is = (work_same a a settings commit done meant is done.refused refl).1.1

-- a call leaves its tables with its writes
pub mean-tables : (shape : Shape) (tables : List PlainRow) (settings : NamedValues) (asked : Call) (draws : List Draw) (meant : Meant) → mean shape tables settings asked draws ≡ Some meant → meant.tables ≡ with_writes tables meant.writes
mean-tables shape tables settings (call.Work statements commit) draws meant is = work_tables tables settings commit (statements_done shape tables settings statements draws) meant is
mean-tables shape tables settings (call.Set name x) draws meant is = (alone_same tables tables _ draws _ meant is).1.1
mean-tables shape tables settings (call.Alter line) draws meant is = (alone_same tables tables _ draws _ meant is).1.1
mean-tables shape tables settings call.Disable draws meant is = (alone_same tables tables _ draws _ meant is).1.1
mean-tables shape tables settings call.Rollback draws meant is = (alone_same tables tables _ draws _ meant is).1.1
