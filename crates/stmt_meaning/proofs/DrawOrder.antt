-- A call takes the draws that its operands ask for, in order.
use Rattle.std.proofs.Common.{◌≡◌, ℕ, ◌+◌, ◌≤◌, Bool, true, false, cond, List, [], ◌∷◌, ◌++◌, map, length, refl, sym, ap, ◌∙◌, subst, append-nil, append_assoc, length-append, arith}
use Rattle.std.specs.Prelude.{Option, Some, None, Result, Ok, Err, filter, flat_map, sum_by}
use Rattle.std.proofs.lemmas.List.{map-append}
use Rattle.std.proofs.lemmas.List.Elements.{filter-append}
use Rattle.std.proofs.lemmas.List.Sums.{sum_by-cons}
use Rattle.svc_values.specs.declared.value.Value.{Value}
use Rattle.svc_values.specs.declared.schema.Shape.{Shape}
use Rattle.svc_values.specs.declared.draw.Draw.{Draw}
use Rattle.svc_values.specs.declared.draw.Draw.TheVariants as draw
use Rattle.svc_values.specs.declared.draw.DrawKind.{DrawKind}
use Rattle.svc_values.specs.declared.draw.DrawKind.TheVariants as kind
use Rattle.svc_values.specs.declared.statement.Operand.{Operand}
use Rattle.svc_values.specs.declared.statement.Operand.TheVariants as operand
use Rattle.svc_values.specs.declared.statement.Statement.{Statement}
use Rattle.svc_values.specs.declared.call.Call.{Call}
use Rattle.svc_values.specs.declared.call.Call.TheVariants as call
use Rattle.svc_values.specs.declared.frame.Up.TheVariants as up
use Rattle.svc_values.specs.declared.answer.StatementFault.{StatementFault}
use Rattle.svc_values.specs.declared.answer.StatementFault.TheVariants as fault
use Rattle.svc_values.specs.declared.tables.PlainRow.{PlainRow}
use Rattle.svc_values.specs.meaning.Calls.{operands_of, from_sequence, from_sequences, sequences_in}
use Rattle.svc_values.specs.meaning.Draws.{is_of_kind}
use Rattle.svc_values.specs.meaning.Names.{is_name_of}
use Rattle.svc_values.specs.SameLaws.{bytes_decide}
use Rattle.svc_values.specs.meaning.SettingsList.{NamedValues, setting_of}
use Rattle.svc_values.specs.meaning.Tables.{with_writes}
use Rattle.stmt_meaning.specs.declared.plan.Plan.{Plan}
use Rattle.stmt_meaning.specs.meaning.Asked.{asked_by_operand, asked_by_statement, asked_by_call}
use Rattle.stmt_meaning.specs.Asked.{kind_drawn, UsesInOrder, is_of_sequence, sequences_drawn}
use Rattle.stmt_meaning.specs.meaning.Meaning.{OneDone, AllDone, Meant, done_at, mean1, is_refusal, ended_by, after_first, and_on, statements_done, worked, mean, commit_answer}
use Rattle.stmt_meaning.specs.Refused.{ends_refused}
use Rattle.stmt_meaning.specs.meaning.Operands.{Reading, ◌>>=◌, drawn_value, take_draw, Drawn, wanted_setting, wanted_draw, taken, value_of, values_of}
use Rattle.stmt_meaning.specs.meaning.Plans.{Aim, aim_of, plan_for, plan_at, plan_of}
use Rattle.stmt_meaning.proofs.Commits.{Tells, tells}

-- ---- parts

-- nothing is asked for
pub no_need : (draws : List Draw) (is_refused : Bool) → UsesInOrder [] draws draws is_refused
no_need draws is_refused = record { used = []; unused = []; first = refl; in_order = refl; whole = λ kept. refl }

-- a refusal before anything was drawn
none_used : (asked : List DrawKind) (draws : List Draw) → UsesInOrder asked draws draws true
none_used asked draws = record { used = []; unused = asked; first = refl; in_order = refl; whole = λ no. cc }

-- all was drawn, and perhaps it is refused
all_used : (asked : List DrawKind) (draws rest : List Draw) (is_refused : Bool) → UsesInOrder asked draws rest false → UsesInOrder asked draws rest is_refused
all_used asked draws rest is_refused u = record { used = u.used; unused = u.unused; first = u.first; in_order = u.in_order; whole = λ kept. u.whole refl }

-- more would have been asked for
cut : (asked more : List DrawKind) (draws rest : List Draw) (is_refused : Bool) → UsesInOrder asked draws rest is_refused → UsesInOrder (asked ++ more) draws rest true
cut asked more draws rest is_refused u = record {
  used = u.used;
  unused = u.unused ++ more;
  first = u.first;
  in_order = sym (append_assoc (map kind_drawn u.used) u.unused more) ∙ ap (λ kinds. kinds ++ more) u.in_order;
  whole = λ no. cc;
}

-- and more was drawn
pub onward : (asked more : List DrawKind) (draws between rest : List Draw) (is_refused : Bool) → UsesInOrder asked draws between false → UsesInOrder more between rest is_refused → UsesInOrder (asked ++ more) draws rest is_refused
onward asked more draws between rest is_refused u v =
    let here : List DrawKind = map kind_drawn u.used in
    let all : here ≡ asked = sym (append-nil here) ∙ ap (λ kinds. here ++ kinds) (sym (u.whole refl)) ∙ u.in_order in
    record {
      used = u.used ++ v.used;
      unused = v.unused;
      first = u.first ∙ ap (λ left. u.used ++ left) v.first ∙ sym (append_assoc u.used v.used rest);
      in_order =
          ap (λ kinds. kinds ++ v.unused) (map-append kind_drawn u.used v.used)
          ∙ append_assoc here (map kind_drawn v.used) v.unused
          ∙ ap (λ kinds. here ++ kinds) v.in_order
          ∙ ap (λ kinds. kinds ++ more) all;
      whole = v.whole;
    }

-- ---- operands

abbrev refuses : {A : Type 0} → Result A StatementFault → Bool
refuses (Ok x) = false
refuses (Err refusal) = true

-- reading these draws uses those that are asked for
abbrev Uses : {A : Type 0} → List DrawKind → List Draw → Reading A → Type 0
Uses asked draws None = Unit {0}
Uses asked draws (Some (come, rest)) = UsesInOrder asked draws rest (refuses come)

pub kind_is : (asked : DrawKind) (given : Draw) → is_of_kind asked given ≡ true → kind_drawn given ≡ asked
kind_is (kind.Seq asked) (draw.Seq name n) h = ap kind.Seq ((bytes_decide name asked).0 h)
kind_is (kind.Seq asked) (draw.Clock tick) h = cc
kind_is (kind.Seq asked) (draw.Id id) h = cc
kind_is kind.Clock (draw.Seq name n) h = cc
kind_is kind.Clock (draw.Clock tick) h = refl
kind_is kind.Clock (draw.Id id) h = cc
kind_is kind.Id (draw.Seq name n) h = cc
kind_is kind.Id (draw.Clock tick) h = cc
kind_is kind.Id (draw.Id id) h = refl

take_uses : (asked : DrawKind) (draws : List Draw) → Uses (asked ∷ []) draws (take_draw asked draws)
take_uses asked [] = tt
take_uses asked (first ∷ rest) = by_kind (is_of_kind asked first) refl
  where
    by_kind : (b : Bool) → is_of_kind asked first ≡ b → Uses (asked ∷ []) (first ∷ rest) (cond {A = Reading Value} b (Some (Ok (drawn_value first), rest)) None)
    by_kind true h = record { used = first ∷ []; unused = []; first = refl; in_order = ap (λ kind. kind ∷ []) (kind_is asked first h); whole = λ kept. refl }
    by_kind false h = tt

setting_uses : (found : Option Value) (draws : List Draw) → Uses [] draws (taken (wanted_setting found) draws)
setting_uses None draws = none_used [] draws
setting_uses (Some x) draws = no_need draws false

draw_uses : (names : List (List ℕ)) (asked : DrawKind) (draws : List Draw) → Uses (asked ∷ []) draws (taken (wanted_draw names asked) draws)
draw_uses names (kind.Seq name) draws = by_name (is_name_of names name)
  where
    by_name : (b : Bool) → Uses (kind.Seq name ∷ []) draws (taken (cond b (Ok (Drawn (kind.Seq name))) (Err fault.NoSequence)) draws)
    by_name true = take_uses (kind.Seq name) draws
    by_name false = none_used (kind.Seq name ∷ []) draws
draw_uses names kind.Clock draws = take_uses kind.Clock draws
draw_uses names kind.Id draws = take_uses kind.Id draws

-- what is made of what was read
made_uses : {A B : Type 0} (asked : List DrawKind) (draws : List Draw) (make : A → Result B StatementFault) (read : Reading A) → Uses asked draws read → Uses asked draws (read >>= λ x left. Some (make x, left))
made_uses asked draws make None u = tt
made_uses asked draws make (Some (Err refusal, rest)) u = u
made_uses asked draws make (Some (Ok x, rest)) u = all_used asked draws rest (refuses (make x)) u

then_uses : {A B : Type 0} (asked more : List DrawKind) (draws : List Draw) (read : Reading A) (next : A → List Draw → Reading B) → Uses asked draws read → ((x : A) (left : List Draw) → Uses more left (next x left)) → Uses (asked ++ more) draws (read >>= next)
then_uses asked more draws None next u k = tt
then_uses asked more draws (Some (Err refusal, rest)) next u k = cut asked more draws rest true u
then_uses {A} {B} asked more draws (Some (Ok x, rest)) next u k = by_next (next x rest) (k x rest)
  where
    by_next : (n : Reading B) → Uses more rest n → Uses (asked ++ more) draws n
    by_next None v = tt
    by_next (Some (come, left)) v = onward asked more draws rest left (refuses come) u v

module _ (names : List (List ℕ)) (settings : NamedValues) where
  value_uses : (asked : Operand) (draws : List Draw) → Uses (asked_by_operand asked) draws (value_of names settings asked draws)
  value_uses (operand.Lit x) draws = no_need draws false
  value_uses (operand.Var name) draws = setting_uses (setting_of settings name) draws
  value_uses (operand.Draw asked) draws = draw_uses names asked draws

  values_uses : (operands : List Operand) (draws : List Draw) → Uses (flat_map asked_by_operand operands) draws (values_of names settings operands draws)
  values_uses [] draws = no_need draws false
  values_uses (first ∷ rest) draws =
      then_uses (asked_by_operand first) (flat_map asked_by_operand rest) draws (value_of names settings first draws) (λ x left. values_of names settings rest left >>= λ xs over. Some (Ok (x ∷ xs), over)) (value_uses first draws)
      (λ x left. made_uses (flat_map asked_by_operand rest) left (λ (xs : List Value). Ok (x ∷ xs)) (values_of names settings rest left) (values_uses rest left))

-- ---- statements

abbrev UsesOne : List DrawKind → List Draw → Option OneDone → Type 0
UsesOne asked draws None = Unit {0}
UsesOne asked draws (Some one) = UsesInOrder asked draws one.rest (is_refusal one.answer)

abbrev UsesAll : List DrawKind → List Draw → Option AllDone → Type 0
UsesAll asked draws None = Unit {0}
UsesAll asked draws (Some done) = UsesInOrder asked draws done.rest done.refused

plan_uses : (shape : Shape) (settings : NamedValues) (asked : Statement) (draws : List Draw) (aim : Result Aim StatementFault) → Uses (asked_by_statement asked) draws (plan_at shape settings asked draws aim)
plan_uses shape settings asked draws (Err refusal) = none_used (asked_by_statement asked) draws
plan_uses shape settings asked draws (Ok aim) =
    made_uses (asked_by_statement asked) draws (plan_for aim asked) (values_of shape.sequences settings (operands_of asked) draws) (values_uses shape.sequences settings (operands_of asked) draws)

done_uses : (tables : List PlainRow) (asked : List DrawKind) (draws : List Draw) (read : Reading Plan) → Uses asked draws read → UsesOne asked draws (done_at tables read)
done_uses tables asked draws None u = tt
done_uses tables asked draws (Some (Err refusal, rest)) u = u
done_uses tables asked draws (Some (Ok plan, rest)) u = all_used asked draws rest _ u

on_uses : (asked more : List DrawKind) (draws : List Draw) (first : Option OneDone) (next : OneDone → Option AllDone) → UsesOne asked draws first → ((one : OneDone) → UsesAll more one.rest (next one)) → UsesAll (asked ++ more) draws (and_on first next)
on_uses asked more draws None next u k = tt
on_uses asked more draws (Some one) next u k = by_refusal (is_refusal one.answer) refl (next one) (k one)
  where
    by_refusal : (b : Bool) → is_refusal one.answer ≡ b → (behind : Option AllDone) → UsesAll more one.rest behind → UsesAll (asked ++ more) draws (cond b (ended_by one) (after_first one behind))
    by_refusal true h behind v = cut asked more draws one.rest (is_refusal one.answer) u
    by_refusal false h None v = tt
    by_refusal false h (Some done) v = onward asked more draws one.rest done.rest done.refused (subst (UsesInOrder asked draws one.rest) h u) v

statements_use : (shape : Shape) (tables : List PlainRow) (settings : NamedValues) (statements : List Statement) (draws : List Draw) → UsesAll (flat_map asked_by_statement statements) draws (statements_done shape tables settings statements draws)
statements_use shape tables settings [] draws = no_need draws false
statements_use shape tables settings (first ∷ rest) draws =
    on_uses (asked_by_statement first) (flat_map asked_by_statement rest) draws (mean1 shape tables settings first draws) (λ one. statements_done shape (with_writes tables one.writes) settings rest one.rest)
    (done_uses tables (asked_by_statement first) draws (plan_of shape settings first draws) (plan_uses shape settings first draws (aim_of shape.schemas first)))
    (λ one. statements_use shape (with_writes tables one.writes) settings rest one.rest)

-- ---- calls

abbrev UsesCall : List DrawKind → List Draw → Option Meant → Type 0
UsesCall asked draws None = Unit {0}
UsesCall asked draws (Some meant) = UsesInOrder asked draws meant.rest (ends_refused meant.answers)

worked_uses : (tables : List PlainRow) (settings : NamedValues) (commit : Bool) (asked : List DrawKind) (draws : List Draw) (all : Option AllDone) → Tells all → UsesAll asked draws all → UsesCall asked draws (worked tables settings commit all)
worked_uses tables settings commit asked draws None t u = tt
worked_uses tables settings commit asked draws (Some done) t u = by_refusal done.refused refl
  where
    by_refusal : (b : Bool) → done.refused ≡ b
        → UsesCall asked draws (cond b (Some (record { answers = done.answers; tables = tables; settings = settings; writes = []; reads = done.reads; rest = done.rest }))
        (Some (record { answers = done.answers ++ commit_answer commit; tables = with_writes tables done.writes; settings = settings; writes = done.writes; reads = done.reads; rest = done.rest })))
    by_refusal true gone = subst (UsesInOrder asked draws done.rest) t u
    by_refusal false kept = all_used asked draws done.rest _ (subst (UsesInOrder asked draws done.rest) kept u)

call_uses : (shape : Shape) (tables : List PlainRow) (settings : NamedValues) (asked : Call) (draws : List Draw) → UsesCall (asked_by_call asked) draws (mean shape tables settings asked draws)
call_uses shape tables settings (call.Work statements commit) draws =
    worked_uses tables settings commit (flat_map asked_by_statement statements) draws (statements_done shape tables settings statements draws) (tells shape tables settings statements draws) (statements_use shape tables settings statements draws)
call_uses shape tables settings (call.Set name x) draws = no_need draws _
call_uses shape tables settings (call.Alter line) draws = no_need draws _
call_uses shape tables settings call.Disable draws = no_need draws _
call_uses shape tables settings call.Rollback draws = no_need draws _

pub mean-uses : (shape : Shape) (tables : List PlainRow) (settings : NamedValues) (asked : Call) (draws : List Draw) (meant : Meant) → mean shape tables settings asked draws ≡ Some meant → UsesInOrder (asked_by_call asked) draws meant.rest (ends_refused meant.answers)
mean-uses shape tables settings asked draws meant is = subst (UsesCall (asked_by_call asked) draws) is (call_uses shape tables settings asked draws)

-- ---- values of sequences

abbrev sequences : List DrawKind → ℕ
sequences kinds = length (filter is_of_sequence kinds)

sequences-append : (kinds more : List DrawKind) → sequences (kinds ++ more) ≡ sequences kinds + sequences more
sequences-append kinds more = ap length (filter-append is_of_sequence kinds more) ∙ length-append (filter is_of_sequence kinds) (filter is_of_sequence more)

counted_by : {X : Type 0} (kinds : X → List DrawKind) (count : X → ℕ) → ((x : X) → sequences (kinds x) ≡ count x) → (xs : List X) → sequences (flat_map kinds xs) ≡ sum_by count xs
counted_by kinds count each [] = refl
counted_by kinds count each (x ∷ xs) =
    let here = each x in
    let rest = counted_by kinds count each xs in
    let sum = sum_by-cons count x xs in
    sequences-append (kinds x) (flat_map kinds xs) ∙ ap (λ n. n + sequences (flat_map kinds xs)) here ∙ ap (λ n. count x + n) rest ∙ sym sum

operand_counted : (one : Operand) → sequences (asked_by_operand one) ≡ from_sequence one
operand_counted (operand.Lit x) = refl
operand_counted (operand.Var name) = refl
operand_counted (operand.Draw (kind.Seq name)) = refl
operand_counted (operand.Draw kind.Clock) = refl
operand_counted (operand.Draw kind.Id) = refl

pub sequences-counted : (replay : Bool) (kept : List Draw) (asked : Call) → sequences (asked_by_call asked) ≡ sequences_in (up.Call replay kept asked)
sequences-counted replay kept (call.Work statements commit) =
    counted_by asked_by_statement (λ one. from_sequences (operands_of one)) (λ one. counted_by asked_by_operand from_sequence operand_counted (operands_of one)) statements
sequences-counted replay kept (call.Set name x) = refl
sequences-counted replay kept (call.Alter line) = refl
sequences-counted replay kept call.Disable = refl
sequences-counted replay kept call.Rollback = refl

pub sequences-few : (shape : Shape) (tables : List PlainRow) (settings : NamedValues) (asked : Call) (draws : List Draw) (meant : Meant) → mean shape tables settings asked draws ≡ Some meant → meant.rest ≡ []
    → (replay : Bool) (kept : List Draw) → sequences_drawn draws ≤ sequences_in (up.Call replay kept asked)
sequences-few shape tables settings asked draws meant is all replay kept =
    let uses = mean-uses shape tables settings asked draws meant is in
    let same : draws ≡ uses.used = uses.first ∙ ap (λ rest. uses.used ++ rest) all ∙ append-nil uses.used in
    let drawn : sequences_drawn draws ≡ sequences_drawn uses.used = ap sequences_drawn same in
    let sum = sym (sequences-append (map kind_drawn uses.used) uses.unused) ∙ ap sequences uses.in_order ∙ sequences-counted replay kept asked in
    omega arith
