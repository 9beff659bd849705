-- A commit behind statements is answered last, where none of them was refused.
use Rattle.std.proofs.Common.{◌≡◌, Bool, true, false, List, [], ◌∷◌, ◌++◌, refl, sym, ap, ◌∙◌, subst, append-nil}
use Rattle.std.specs.Prelude.{Option, Some, None, if◌then◌else◌}
use Rattle.svc_values.specs.declared.schema.Shape.{Shape}
use Rattle.svc_values.specs.declared.draw.Draw.{Draw}
use Rattle.svc_values.specs.declared.statement.Statement.{Statement}
use Rattle.svc_values.specs.declared.call.Call.TheVariants as call
use Rattle.svc_values.specs.declared.answer.Answer.{Answer}
use Rattle.svc_values.specs.declared.answer.Answer.TheVariants as answer
use Rattle.svc_values.specs.declared.tables.PlainRow.{PlainRow}
use Rattle.svc_values.specs.meaning.Tables.{with_writes}
use Rattle.stmt_meaning.specs.meaning.Meaning.{OneDone, AllDone, Meant, mean1, is_refusal, ended_by, after_first, and_on, statements_done, worked, mean, commit_answer}
use Rattle.stmt_meaning.specs.Refused.{ends_refused}
use Rattle.stmt_meaning.specs.Laws.{closed_by}
use Rattle.svc_values.specs.meaning.SettingsList.{NamedValues}

-- the answers tell whether a statement was refused
abbrev pub Tells : Option AllDone → Type 0
Tells None = Unit {0}
Tells (Some done) = done.refused ≡ ends_refused done.answers

first_refused : (a : Answer) (more : List Answer) → is_refusal a ≡ false → ends_refused (a ∷ more) ≡ ends_refused more
first_refused a [] h = h
first_refused a (b ∷ more) h = refl

tells_after : (one : OneDone) (more : Option AllDone) → is_refusal one.answer ≡ false → Tells more → Tells (after_first one more)
tells_after one None h t = tt
tells_after one (Some more) h t = t ∙ sym (first_refused one.answer more.answers h)

tells_by : (one : OneDone) (b : Bool) → is_refusal one.answer ≡ b → (more : Option AllDone) → Tells more → Tells (if b then ended_by one else after_first one more)
tells_by one true h more t = sym h
tells_by one false h more t = tells_after one more h t

tells_on : (first : Option OneDone) (next : OneDone → Option AllDone) → ((one : OneDone) → Tells (next one)) → Tells (and_on first next)
tells_on None next k = tt
tells_on (Some one) next k = tells_by one (is_refusal one.answer) refl (next one) (k one)

pub tells : (shape : Shape) (tables : List PlainRow) (settings : NamedValues) (statements : List Statement) (draws : List Draw) → Tells (statements_done shape tables settings statements draws)
tells shape tables settings [] draws = refl
tells shape tables settings (first ∷ rest) draws =
    tells_on (mean1 shape tables settings first draws) (λ one. statements_done shape (with_writes tables one.writes) settings rest one.rest)
    (λ one. tells shape (with_writes tables one.writes) settings rest one.rest)

-- what a call of statements means, by whether one was refused
abbrev worked_by : List PlainRow → NamedValues → AllDone → Bool → Bool → Option Meant
worked_by tables settings done commit refused =
    if refused
    then Some (record { answers = done.answers; tables = tables; settings = settings; writes = []; reads = done.reads; rest = done.rest })
    else Some (record { answers = done.answers ++ commit_answer commit; tables = with_writes tables done.writes; settings = settings; writes = done.writes; reads = done.reads; rest = done.rest })

last_by : (tables : List PlainRow) (settings : NamedValues) (done : AllDone) (refused : Bool) → refused ≡ ends_refused done.answers → (meant : Meant)
    → worked_by tables settings done false refused ≡ Some meant → (commit : Bool) → worked_by tables settings done commit refused ≡ Some (record meant { answers = closed_by commit meant.answers })
last_by tables settings done refused is meant e false = e
last_by tables settings done true is meant e true =
    let bare : Meant = record { answers = done.answers; tables = tables; settings = settings; writes = []; reads = done.reads; rest = done.rest } in
    let same : bare ≡ meant = let x : ◌≡◌ {A = Option Meant} (Some bare) (Some meant) = e in cc in
    subst (λ (m : Meant). Some bare ≡ Some (record m { answers = closed_by true m.answers })) same (rw (sym is) refl)
last_by tables settings done false is meant e true =
    let bare : Meant = record { answers = done.answers ++ []; tables = with_writes tables done.writes; settings = settings; writes = done.writes; reads = done.reads; rest = done.rest } in
    let same : bare ≡ meant = let x : ◌≡◌ {A = Option Meant} (Some bare) (Some meant) = e in cc in
    let plain : ends_refused (done.answers ++ []) ≡ false = ap ends_refused (append-nil done.answers) ∙ sym is in
    subst (λ (m : Meant). worked_by tables settings done true false ≡ Some (record m { answers = closed_by true m.answers })) same
    (rw plain (ap (λ (answers : List Answer). Some (record bare { answers = answers ++ answer.Committed ∷ [] })) (sym (append-nil done.answers))))

last_worked : (tables : List PlainRow) (settings : NamedValues) (all : Option AllDone) → Tells all → (meant : Meant)
    → worked tables settings false all ≡ Some meant → (commit : Bool) → worked tables settings commit all ≡ Some (record meant { answers = closed_by commit meant.answers })
last_worked tables settings None t meant e commit = absurd (let x : ◌≡◌ {A = Option Meant} None (Some meant) = e in cc)
last_worked tables settings (Some done) t meant e commit = last_by tables settings done done.refused t meant e commit

pub commits_last : (shape : Shape) (tables : List PlainRow) (settings : NamedValues) (statements : List Statement) (draws : List Draw) (meant : Meant)
    → mean shape tables settings (call.Work statements false) draws ≡ Some meant
    → (commit : Bool) → mean shape tables settings (call.Work statements commit) draws ≡ Some (record meant { answers = closed_by commit meant.answers })
commits_last shape tables settings statements draws meant e commit = last_worked tables settings (statements_done shape tables settings statements draws) (tells shape tables settings statements draws) meant e commit
