-- A call takes exactly the draws that its answered statements ask for in its settings.
use Rattle.std.proofs.Common.{◌≡◌, ℕ, Bool, true, false, cond, List, [], ◌∷◌, ◌++◌, length, refl, sym, ap, ◌∙◌, subst, arith, take, length-append}
use Rattle.std.proofs.lemmas.List.{take_all}
use Rattle.std.specs.Prelude.{Option, Some, None, Result, Ok, Err, flat_map}
use Rattle.svc_values.specs.declared.answer.Answer.{Answer}
use Rattle.svc_values.specs.declared.answer.StatementFault.{StatementFault}
use Rattle.svc_values.specs.declared.call.Call.{Call}
use Rattle.svc_values.specs.declared.call.Call.TheVariants as call
use Rattle.svc_values.specs.declared.draw.Draw.{Draw}
use Rattle.svc_values.specs.declared.draw.DrawKind.{DrawKind}
use Rattle.svc_values.specs.declared.schema.Shape.{Shape}
use Rattle.svc_values.specs.declared.statement.Operand.{Operand}
use Rattle.svc_values.specs.declared.statement.Statement.{Statement}
use Rattle.svc_values.specs.declared.tables.PlainRow.{PlainRow}
use Rattle.svc_values.specs.declared.value.Value.{Value}
use Rattle.svc_values.specs.meaning.Calls.{operands_of}
use Rattle.svc_values.specs.meaning.Draws.{is_of_kind}
use Rattle.svc_values.specs.meaning.SettingsList.{NamedValues}
use Rattle.svc_values.specs.meaning.Tables.{with_writes}
use Rattle.stmt_meaning.specs.declared.plan.Plan.{Plan}
use Rattle.stmt_meaning.specs.Asked.{UsesInOrder}
use Rattle.stmt_meaning.specs.AskedIn.{asked_before, asked_by_operands, asked_at, asked_in, asked_while}
use Rattle.stmt_meaning.specs.meaning.Meaning.{OneDone, AllDone, Meant, done_at, mean1, is_refusal, ended_by, after_first, and_on, statements_done, worked, mean, commit_answer}
use Rattle.stmt_meaning.specs.meaning.Operands.{Reading, ◌>>=◌, drawn_value, take_draw, Wanted, Known, Drawn, wanted, taken, values_of}
use Rattle.stmt_meaning.specs.meaning.Plans.{Aim, aim_of, plan_for, plan_at, plan_of}
use Rattle.stmt_meaning.proofs.DrawOrder.{kind_is, no_need, onward}

-- ---- operands

-- reading these draws uses exactly those that are asked for, whether it comes to a value or a
-- refusal
abbrev Exact : {A : Type 0} → List DrawKind → List Draw → Reading A → Type 0
Exact asked draws None = Unit {0}
Exact asked draws (Some (come, rest)) = UsesInOrder asked draws rest false

-- what is made of what was read
made_exact : {A B : Type 0} (asked : List DrawKind) (draws : List Draw) (make : A → Result B StatementFault) (read : Reading A) → Exact asked draws read → Exact asked draws (read >>= λ x left. Some (make x, left))
made_exact asked draws make None u = tt
made_exact asked draws make (Some (Err refusal, rest)) u = u
made_exact asked draws make (Some (Ok x, rest)) u = u

-- one draw, and what is read behind it
drawn_exact : {B : Type 0} (asked : DrawKind) (more : List DrawKind) (draws : List Draw) (next : Value → List Draw → Reading B) → ((x : Value) (left : List Draw) → Exact more left (next x left)) → Exact (asked ∷ more) draws (take_draw asked draws >>= next)
drawn_exact asked more [] next k = tt
drawn_exact {B} asked more (first ∷ rest) next k = by_kind (is_of_kind asked first) refl
  where
    by_next : (n : Reading B) → is_of_kind asked first ≡ true → Exact more rest n → Exact (asked ∷ more) (first ∷ rest) n
    by_next None h v = tt
    by_next (Some (come, left)) h v =
        onward (asked ∷ []) more (first ∷ rest) rest left false (record { used = first ∷ []; unused = []; first = refl; in_order = ap (λ kind. kind ∷ []) (kind_is asked first h); whole = λ kept. refl }) v

    by_kind : (b : Bool) → is_of_kind asked first ≡ b → Exact (asked ∷ more) (first ∷ rest) (cond {A = Reading Value} b (Some (Ok (drawn_value first), rest)) None >>= next)
    by_kind true h = by_next (next (drawn_value first) rest) h (k (drawn_value first) rest)
    by_kind false h = tt

before_exact : {B : Type 0} (w : Result Wanted StatementFault) (more : List DrawKind) (draws : List Draw) (next : Value → List Draw → Reading B) → ((x : Value) (left : List Draw) → Exact more left (next x left)) → Exact (asked_before w more) draws (taken w draws >>= next)
before_exact (Err refusal) more draws next k = no_need draws false
before_exact (Ok (Known x)) more draws next k = k x draws
before_exact (Ok (Drawn asked)) more draws next k = drawn_exact asked more draws next k

values_exact : (names : List (List ℕ)) (settings : NamedValues) (operands : List Operand) (draws : List Draw) → Exact (asked_by_operands names settings operands) draws (values_of names settings operands draws)
values_exact names settings [] draws = no_need draws false
values_exact names settings (first ∷ rest) draws =
    before_exact (wanted names settings first) (asked_by_operands names settings rest) draws (λ x left. values_of names settings rest left >>= λ xs over. Some (Ok (x ∷ xs), over))
    (λ x left. made_exact (asked_by_operands names settings rest) left (λ (xs : List Value). Ok (x ∷ xs)) (values_of names settings rest left) (values_exact names settings rest left))

-- ---- statements

abbrev ExactOne : List DrawKind → List Draw → Option OneDone → Type 0
ExactOne asked draws None = Unit {0}
ExactOne asked draws (Some one) = UsesInOrder asked draws one.rest false

plan_exact : (shape : Shape) (settings : NamedValues) (asked : Statement) (draws : List Draw) (aim : Result Aim StatementFault) → Exact (asked_at shape settings asked aim) draws (plan_at shape settings asked draws aim)
plan_exact shape settings asked draws (Err refusal) = no_need draws false
plan_exact shape settings asked draws (Ok aim) =
    made_exact (asked_by_operands shape.sequences settings (operands_of asked)) draws (plan_for aim asked) (values_of shape.sequences settings (operands_of asked) draws) (values_exact shape.sequences settings (operands_of asked) draws)

done_exact : (tables : List PlainRow) (asked : List DrawKind) (draws : List Draw) (read : Reading Plan) → Exact asked draws read → ExactOne asked draws (done_at tables read)
done_exact tables asked draws None u = tt
done_exact tables asked draws (Some (Err refusal, rest)) u = u
done_exact tables asked draws (Some (Ok plan, rest)) u = u

one_exact : (shape : Shape) (tables : List PlainRow) (settings : NamedValues) (asked : Statement) (draws : List Draw) → ExactOne (asked_in shape settings asked) draws (mean1 shape tables settings asked draws)
one_exact shape tables settings asked draws = done_exact tables (asked_in shape settings asked) draws (plan_of shape settings asked draws) (plan_exact shape settings asked draws (aim_of shape.schemas asked))

-- The draws of the answered statements were used. Where none is refused all are answered.
pub record AllExact (asked : Statement → List DrawKind) (statements : List Statement) (draws : List Draw) (done : AllDone) : Type 0 where
  pub uses : UsesInOrder (flat_map asked (take (length done.answers) statements)) draws done.rest false
  pub all : done.refused ≡ false → length done.answers ≡ length statements

abbrev pub ExactAll : (Statement → List DrawKind) → List Statement → List Draw → Option AllDone → Type 0
ExactAll asked statements draws None = Unit {0}
ExactAll asked statements draws (Some done) = AllExact asked statements draws done

on_exact : (asked : Statement → List DrawKind) (statement : Statement) (rest : List Statement) (draws : List Draw) (first : Option OneDone) (next : OneDone → Option AllDone) → ExactOne (asked statement) draws first
    → ((one : OneDone) → ExactAll asked rest one.rest (next one)) → ExactAll asked (statement ∷ rest) draws (and_on first next)
on_exact asked statement rest draws None next u k = tt
on_exact asked statement rest draws (Some one) next u k = by_refusal (is_refusal one.answer) (next one) (k one)
  where
    by_refusal : (b : Bool) (behind : Option AllDone) → ExactAll asked rest one.rest behind → ExactAll asked (statement ∷ rest) draws (cond b (ended_by one) (after_first one behind))
    by_refusal true behind v = record { uses = onward (asked statement) [] draws one.rest one.rest false u (no_need one.rest false); all = λ h. cc }
    by_refusal false None v = tt
    by_refusal false (Some done) v = record { uses = onward (asked statement) (flat_map asked (take (length done.answers) rest)) draws one.rest done.rest false u v.uses; all = λ h. let same = v.all h in omega arith }

pub statements_exact : (shape : Shape) (tables : List PlainRow) (settings : NamedValues) (statements : List Statement) (draws : List Draw) → ExactAll (asked_in shape settings) statements draws (statements_done shape tables settings statements draws)
statements_exact shape tables settings [] draws = record { uses = no_need draws false; all = λ h. refl }
statements_exact shape tables settings (first ∷ rest) draws =
    on_exact (asked_in shape settings) first rest draws (mean1 shape tables settings first draws) (λ one. statements_done shape (with_writes tables one.writes) settings rest one.rest)
    (one_exact shape tables settings first draws)
    (λ one. statements_exact shape (with_writes tables one.writes) settings rest one.rest)

-- ---- calls

abbrev ExactCall : (ℕ → List DrawKind) → List Draw → Option Meant → Type 0
ExactCall asked draws None = Unit {0}
ExactCall asked draws (Some meant) = UsesInOrder (asked (length meant.answers)) draws meant.rest false

-- an answer behind all statements asks for no more
pub all_taken : (asked : Statement → List DrawKind) (statements : List Statement) (answers more : List Answer) → length answers ≡ length statements
    → flat_map asked (take (length answers) statements) ≡ flat_map asked (take (length (answers ++ more)) statements)
all_taken asked statements answers more same =
    let longer = length-append answers more in
    ap (flat_map asked) (take_all (length answers) statements (omega arith) ∙ sym (take_all (length (answers ++ more)) statements (omega arith)))

worked_exact : (tables : List PlainRow) (settings : NamedValues) (commit : Bool) (asked : Statement → List DrawKind) (statements : List Statement) (draws : List Draw) (all : Option AllDone) → ExactAll asked statements draws all
    → ExactCall (λ count. flat_map asked (take count statements)) draws (worked tables settings commit all)
worked_exact tables settings commit asked statements draws None u = tt
worked_exact tables settings commit asked statements draws (Some done) u = by_refusal done.refused refl
  where
    by_refusal : (b : Bool) → done.refused ≡ b
        → ExactCall (λ count. flat_map asked (take count statements)) draws (cond b (Some (record { answers = done.answers; tables = tables; settings = settings; writes = []; reads = done.reads; rest = done.rest }))
        (Some (record { answers = done.answers ++ commit_answer commit; tables = with_writes tables done.writes; settings = settings; writes = done.writes; reads = done.reads; rest = done.rest })))
    by_refusal true gone = u.uses
    by_refusal false kept = subst (λ kinds. UsesInOrder kinds draws done.rest false) (all_taken asked statements done.answers (commit_answer commit) (u.all kept)) u.uses

call_exact : (shape : Shape) (tables : List PlainRow) (settings : NamedValues) (asked : Call) (draws : List Draw) → ExactCall (asked_while shape settings asked) draws (mean shape tables settings asked draws)
call_exact shape tables settings (call.Work statements commit) draws =
    worked_exact tables settings commit (asked_in shape settings) statements draws (statements_done shape tables settings statements draws) (statements_exact shape tables settings statements draws)
call_exact shape tables settings (call.Set name x) draws = no_need draws false
call_exact shape tables settings (call.Alter line) draws = no_need draws false
call_exact shape tables settings call.Disable draws = no_need draws false
call_exact shape tables settings call.Rollback draws = no_need draws false

pub mean-exact : (shape : Shape) (tables : List PlainRow) (settings : NamedValues) (asked : Call) (draws : List Draw) (meant : Meant) → mean shape tables settings asked draws ≡ Some meant
    → UsesInOrder (asked_while shape settings asked (length meant.answers)) draws meant.rest false
mean-exact shape tables settings asked draws meant is = subst (ExactCall (asked_while shape settings asked) draws) is (call_exact shape tables settings asked draws)
