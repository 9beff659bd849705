-- A run of the server, computed: two sessions get and update one row. The first one's commit is
-- stored, and that of the second is answered Conflict.
use Rattle.std.specs.Prelude.{◌≡◌, ℕ, ℤ, pos, true, false, IsTrue, List, [], ◌∷◌, ◌++◌, Option, Some, None}
use Rattle.std.proofs.Common.{refl, arith}
use Rattle.svc_values.specs.declared.value.Value.TheVariants as value
use Rattle.svc_values.specs.declared.value.Kind.TheVariants as kind
use Rattle.svc_values.specs.declared.statement.Operand.TheVariants as operand
use Rattle.svc_values.specs.declared.statement.Change.TheVariants as change
use Rattle.svc_values.specs.declared.statement.Statement.TheVariants as statement
use Rattle.svc_values.specs.declared.call.Call.{Call}
use Rattle.svc_values.specs.declared.call.Call.TheVariants as call
use Rattle.svc_values.specs.declared.answer.Answer.{Answer}
use Rattle.svc_values.specs.declared.answer.Answer.TheVariants as answer
use Rattle.svc_values.specs.declared.entry.Entry.{Entry}
use Rattle.svc_values.specs.declared.entry.Piece.{Piece}
use Rattle.svc_values.specs.declared.entry.SessionId.{SessionId}
use Rattle.svc_values.specs.declared.frame.Up.{Up}
use Rattle.svc_values.specs.declared.frame.Up.TheVariants as up
use Rattle.svc_values.specs.declared.frame.Down.TheVariants as down
use Rattle.svc_values.specs.declared.tables.PlainRow.{PlainRow}
use Rattle.svc_values.specs.meaning.Identifiers.{session_of, ltxid_of}
use Rattle.server_model.specs.meaning.Base.{Base}
use Rattle.server_model.specs.Core.{Core, core_of}
use Rattle.server_model.specs.Sessions.{Sess, made}
use Rattle.server_model.specs.meaning.Outcomes.{Silent, Says}
use Rattle.server_model.specs.Runs.{Happened, Served, Server, On, is_answered, Makes, Answers, Opens, Runs, Start, Then, reopened_core, forgetting}
use Rattle.server_model.specs.Items.{items_of}
use Rattle.server_model.specs.meaning.Legal.{legal}
use Rattle.server_model.specs.ToldRight.{told_right}
use Rattle.server_model.proofs.Interpreter.{Done, done, interpret, interpret-is}

-- ---- a table acc of id and bal, with the row 1, 100

unfoldable acc : List ℕ
acc = 97 ∷ 99 ∷ 99 ∷ []

unfoldable id : List ℕ
id = 105 ∷ 100 ∷ []

unfoldable bal : List ℕ
bal = 98 ∷ 97 ∷ 108 ∷ []

unfoldable row : ℤ → PlainRow
row balance = record { table = acc; key = value.Int (pos 1); row = value.Int (pos 1) ∷ value.Int balance ∷ [] }

unfoldable bank : Base
bank = record {
  shape = record { schemas = (record { name = acc; columns = (record { name = id; kind = kind.Int }) ∷ (record { name = bal; kind = kind.Int }) ∷ [] }) ∷ []; sequences = [] };
  sequences = [];
  grants = record { seq = false; clock = false; id = false };
  tables = row (pos 100) ∷ [];
  entries = [];
  blocked = [];
  alerts = [];
  incarnation = 0;
  horizon = 0;
}

-- ---- what is asked of the sessions

unfoldable session : ℕ → SessionId
session number = record { incarnation = 1; session = number }

unfoldable get : Call
get = call.Work (statement.Get acc (operand.Lit (value.Int (pos 1))) ∷ []) false

unfoldable add : ℤ → Call
add n = call.Work (statement.Update acc (operand.Lit (value.Int (pos 1))) bal (change.Plus (operand.Lit (value.Int n))) ∷ []) false

unfoldable commit : Call
commit = call.Work [] true

unfoldable asks : Call → Up
asks called = up.Call false [] called

-- ---- what is told

unfoldable connect : ℕ → Happened
connect number = Served (session number) 0 up.Connect (Says (down.Hello (ltxid_of (session number) 0)))

unfoldable begin : ℕ → Happened
begin number = Served (session number) 0 (up.Begin []) Silent

unfoldable replies : ℕ → Call → List Answer → ℕ → Happened
replies number called answers commits = Served (session number) 0 (asks called) (Says (down.Reply answers [] (ltxid_of (session number) commits)))

unfoldable rows : List Answer
rows = answer.Rows ((value.Int (pos 1) ∷ value.Int (pos 100) ∷ []) ∷ []) ∷ []

unfoldable both : List Answer → List Happened
both second =
    connect 1 ∷ connect 2 ∷ begin 1 ∷ begin 2 ∷ replies 1 get rows 0 ∷ replies 2 get rows 0 ∷ replies 1 (add (pos 5)) (answer.Done 1 ∷ []) 0 ∷ replies 2 (add (pos 7)) (answer.Done 1 ∷ []) 0
    ∷ replies 1 commit (answer.Committed ∷ []) 1 ∷ replies 2 commit second 0 ∷ []

-- ---- the run

or_stay : Core → Sess → Option Done → Done
or_stay core sess None = done core sess Silent
or_stay core sess (Some d) = d

-- what a frame does
does : Core → Sess → Up → Done
does core sess frame = or_stay core sess (interpret core sess 0 frame)

serves : (history : List Happened) (server : Server) (front back : List Sess) (old : Sess) (frame : Up) (d : Done) → Runs bank history server → server.power ≡ On → server.sessions ≡ front ++ old ∷ back → interpret server.core old 0 frame ≡ Some d → IsTrue (is_answered d.told)
    → Runs bank (history ++ Served (session_of old.ltxid) 0 frame d.told ∷ []) (record { power = On; core = d.core; sessions = front ++ d.sess ∷ back; count = server.count })
serves history server front back old frame d runs on split is answered =
    Then history _ server _ runs (Answers old d.sess 0 frame d.core d.told _ on (interpret-is server.core old 0 frame d is) answered (record { front = front; back = back; split = split; turned = refl }))

opened : Core
opened = reopened_core (forgetting (core_of bank) 0)

fresh : ℕ → Sess
fresh number = made (session number)

idle : ℕ → Sess
idle number = (does opened (fresh number) up.Connect).sess

begun : ℕ → Sess
begun number = (does opened (idle number) (up.Begin [])).sess

got : ℕ → Sess
got number = (does opened (begun number) (asks get)).sess

added : ℕ → ℤ → Sess
added number n = (does opened (got number) (asks (add n))).sess

first : Done
first = does opened (added 1 (pos 5)) (asks commit)

second : Done
second = does first.core (added 2 (pos 7)) (asks commit)

both-runs : Runs bank (both (answer.Conflict ∷ [])) (record { power = On; core = second.core; sessions = first.sess ∷ second.sess ∷ []; count = 2 })
unfolding acc id bal row bank session get add commit asks connect begin replies rows both or_stay does opened fresh idle begun got added first second
both-runs =
    let on : Runs bank [] (record { power = On; core = opened; sessions = []; count = 0 }) = Then [] [] _ _ Start (Opens 0 refl (record { spelled = omega arith; forgets = omega arith })) in
    let one : Runs bank [] (record { power = On; core = opened; sessions = fresh 1 ∷ []; count = 1 }) = Then [] [] _ _ on (Makes refl) in
    let two : Runs bank [] (record { power = On; core = opened; sessions = fresh 1 ∷ fresh 2 ∷ []; count = 2 }) = Then [] [] _ _ one (Makes refl) in
    let r1 = serves [] _ [] (fresh 2 ∷ []) (fresh 1) up.Connect (does opened (fresh 1) up.Connect) two refl refl refl refl in
    let r2 = serves _ _ (idle 1 ∷ []) [] (fresh 2) up.Connect (does opened (fresh 2) up.Connect) r1 refl refl refl refl in
    let r3 = serves _ _ [] (idle 2 ∷ []) (idle 1) (up.Begin []) (does opened (idle 1) (up.Begin [])) r2 refl refl refl refl in
    let r4 = serves _ _ (begun 1 ∷ []) [] (idle 2) (up.Begin []) (does opened (idle 2) (up.Begin [])) r3 refl refl refl refl in
    let r5 = serves _ _ [] (begun 2 ∷ []) (begun 1) (asks get) (does opened (begun 1) (asks get)) r4 refl refl refl refl in
    let r6 = serves _ _ (got 1 ∷ []) [] (begun 2) (asks get) (does opened (begun 2) (asks get)) r5 refl refl refl refl in
    let r7 = serves _ _ [] (got 2 ∷ []) (got 1) (asks (add (pos 5))) (does opened (got 1) (asks (add (pos 5)))) r6 refl refl refl refl in
    let r8 = serves _ _ (added 1 (pos 5) ∷ []) [] (got 2) (asks (add (pos 7))) (does opened (got 2) (asks (add (pos 7)))) r7 refl refl refl refl in
    let r9 = serves _ _ [] (added 2 (pos 7) ∷ []) (added 1 (pos 5)) (asks commit) first r8 refl refl refl refl in
    serves _ _ (first.sess ∷ []) [] (added 2 (pos 7)) (asks commit) second r9 refl refl refl refl

-- ---- what is asked of its history

piece : Call → List Answer → Piece
piece called answers = record { call = called; answers = answers; draws = [] }

entry : ℕ → ℤ → Entry
entry number n = record {
  ltxid = ltxid_of (session number) 0;
  completed = true;
  settings = [];
  pieces = piece get rows ∷ piece (add n) (answer.Done 1 ∷ []) ∷ piece commit (answer.Committed ∷ []) ∷ [];
  writes = [];
}

both-legal : legal bank (items_of (both (answer.Conflict ∷ []))) (entry 1 (pos 5) ∷ []) [] ≡ true
unfolding acc id bal row bank session get add commit asks connect begin replies rows both piece entry
both-legal = refl

both-told : told_right bank (both (answer.Conflict ∷ [])) (entry 1 (pos 5) ∷ []) ≡ true
unfolding acc id bal row bank session get add commit asks connect begin replies rows both piece entry
both-told = refl

-- the entry is missing
both-lost : legal bank (items_of (both (answer.Conflict ∷ []))) [] [] ≡ false
unfolding acc id bal row bank session get add commit asks connect begin replies rows both piece entry
both-lost = refl

-- the conflict is missing
both-committed : legal bank (items_of (both (answer.Committed ∷ []))) (entry 1 (pos 5) ∷ entry 2 (pos 7) ∷ []) [] ≡ false
unfolding acc id bal row bank session get add commit asks connect begin replies rows both piece entry
both-committed = refl
