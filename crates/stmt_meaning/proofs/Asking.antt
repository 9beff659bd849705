-- Which draws reading asks for, and how it goes on with more of them.
use Rattle.std.proofs.Common.{◌≡◌, ℕ, pos, Bool, true, false, cond, List, [], ◌∷◌, ◌++◌, refl, ap, ◌∙◌, append-nil}
use Rattle.std.specs.Prelude.{Some, None, Result, Ok, Err}
use Rattle.svc_values.specs.declared.value.Value.{Value}
use Rattle.svc_values.specs.declared.draw.Draw.{Draw}
use Rattle.svc_values.specs.declared.draw.Draw.TheVariants as draw
use Rattle.svc_values.specs.declared.draw.DrawKind.{DrawKind}
use Rattle.svc_values.specs.declared.draw.DrawKind.TheVariants as kind
use Rattle.svc_values.specs.declared.schema.Shape.{Shape}
use Rattle.svc_values.specs.declared.statement.Operand.{Operand}
use Rattle.svc_values.specs.declared.statement.Statement.{Statement}
use Rattle.svc_values.specs.declared.answer.StatementFault.{StatementFault}
use Rattle.svc_values.specs.declared.answer.StatementFault.TheVariants as fault
use Rattle.svc_values.specs.SameLaws.{bytes_decide}
use Rattle.stmt_meaning.specs.declared.plan.Plan.{Plan}
use Rattle.stmt_meaning.specs.meaning.Operands.{Reading, ◌>>=◌, drawn_value, take_draw, Wanted, Known, Drawn, wanted, wanted_draw, taken, value_of, values_of}
use Rattle.svc_values.specs.meaning.Draws.{is_of_kind}
use Rattle.svc_values.specs.Draws.{is_there}
use Rattle.stmt_meaning.specs.Drawing.{is_first}
use Rattle.stmt_meaning.specs.meaning.Plans.{Aim, aim_of, plan_for, plan_at, plan_of}
use Rattle.svc_values.specs.meaning.Calls.{operands_of}
use Rattle.svc_values.specs.meaning.SettingsList.{NamedValues}

-- more draws behind those that are left
abbrev pub behind : {A : Type 0} → List Draw → Reading A → Reading A
behind more None = None
behind more (Some (come, left)) = Some (come, left ++ more)

take_draw-more : (asked : DrawKind) (ds more left : List Draw) (r : Result Value StatementFault) → take_draw asked ds ≡ Some (r, left) → take_draw asked (ds ++ more) ≡ Some (r, left ++ more)
take_draw-more asked [] more left r e = cc
take_draw-more asked (first ∷ rest) more left r e = by_kind (is_of_kind asked first) e
  where
    by_kind : (b : Bool) → cond {A = Reading Value} b (Some (Ok (drawn_value first), rest)) None ≡ Some (r, left) → cond {A = Reading Value} b (Some (Ok (drawn_value first), rest ++ more)) None ≡ Some (r, left ++ more)
    by_kind true e = ap (behind more) e
    by_kind false e = cc

-- what was read stays so with more draws behind
pub taken-more : (w : Result Wanted StatementFault) (ds more left : List Draw) (r : Result Value StatementFault) → taken w ds ≡ Some (r, left) → taken w (ds ++ more) ≡ Some (r, left ++ more)
taken-more (Err refusal) ds more left r e = ap (behind more) e
taken-more (Ok (Known x)) ds more left r e = ap (behind more) e
taken-more (Ok (Drawn asked)) ds more left r e = take_draw-more asked ds more left r e

bind-more : {A B : Type 0} (more : List Draw) (m n : Reading A) (next : A → List Draw → Reading B)
    → ((r : Result A StatementFault) (left : List Draw) → m ≡ Some (r, left) → n ≡ Some (r, left ++ more))
    → ((x : A) (ds left : List Draw) (r : Result B StatementFault) → next x ds ≡ Some (r, left) → next x (ds ++ more) ≡ Some (r, left ++ more))
    → (left : List Draw) (r : Result B StatementFault) → (m >>= next) ≡ Some (r, left) → (n >>= next) ≡ Some (r, left ++ more)
bind-more more None n next goes on left r e = cc
bind-more more (Some (Err refusal, over)) n next goes on left r e = ap (λ k. k >>= next) (goes (Err refusal) over refl) ∙ ap (behind more) e
bind-more more (Some (Ok x, over)) n next goes on left r e = ap (λ k. k >>= next) (goes (Ok x) over refl) ∙ on x over left r e

pub values_of-more : (names : List (List ℕ)) (settings : NamedValues) (operands : List Operand) (ds more left : List Draw) (r : Result (List Value) StatementFault)
    → values_of names settings operands ds ≡ Some (r, left) → values_of names settings operands (ds ++ more) ≡ Some (r, left ++ more)
values_of-more names settings [] ds more left r e = ap (behind more) e
values_of-more names settings (first ∷ rest) ds more left r e =
    bind-more more (value_of names settings first ds) (value_of names settings first (ds ++ more)) (λ x over. values_of names settings rest over >>= λ xs last. Some (Ok (x ∷ xs), last))
    (λ s over h. taken-more (wanted names settings first) ds more over s h)
    (λ x over last s h. bind-more more (values_of names settings rest over) (values_of names settings rest (over ++ more)) (λ xs end. Some (Ok (x ∷ xs), end))
    (λ t end k. values_of-more names settings rest over more end t k)
    (λ xs end final t k. ap (behind more) k)
    last s h)
    left r e

plan_at-more : (shape : Shape) (settings : NamedValues) (asked : Statement) (aim : Result Aim StatementFault) (ds more left : List Draw) (r : Result Plan StatementFault)
    → plan_at shape settings asked ds aim ≡ Some (r, left) → plan_at shape settings asked (ds ++ more) aim ≡ Some (r, left ++ more)
plan_at-more shape settings asked (Err refusal) ds more left r e = ap (behind more) e
plan_at-more shape settings asked (Ok aim) ds more left r e =
    bind-more more (values_of shape.sequences settings (operands_of asked) ds) (values_of shape.sequences settings (operands_of asked) (ds ++ more)) (λ values over. Some (plan_for aim asked values, over))
    (λ s over h. values_of-more shape.sequences settings (operands_of asked) ds more over s h)
    (λ values over last s h. ap (behind more) h)
    left r e

pub plan_of-more : (shape : Shape) (settings : NamedValues) (asked : Statement) (ds more left : List Draw) (r : Result Plan StatementFault)
    → plan_of shape settings asked ds ≡ Some (r, left) → plan_of shape settings asked (ds ++ more) ≡ Some (r, left ++ more)
plan_of-more shape settings asked = plan_at-more shape settings asked (aim_of shape.schemas asked)

-- ---- draws that are asked for

-- a draw of each kind
abbrev pub one_draw : DrawKind → Draw
one_draw (kind.Seq name) = draw.Seq name (pos 0)
one_draw kind.Clock = draw.Clock 0
one_draw kind.Id = draw.Id []

pub one_draw-kind : (asked : DrawKind) → is_of_kind asked (one_draw asked) ≡ true
one_draw-kind (kind.Seq name) = (bytes_decide name name).1 refl
one_draw-kind kind.Clock = refl
one_draw-kind kind.Id = refl

pub take_one : (asked : DrawKind) (one : Draw) → is_of_kind asked one ≡ true → take_draw asked (one ∷ []) ≡ Some (Ok (drawn_value one), [])
take_one asked one h = ap (λ b. let come : Reading Value = Some (Ok (drawn_value one), []) in cond b come None) h

-- Draws with which reading comes to something, all of which it asks for.
abbrev pub Enough : {A : Type 0} → (List Draw → Reading A) → Type 0
Enough {A} read = (ds : List Draw) × ((r : Result A StatementFault) × (read ds ≡ Some (r, [])))

pub enough_taken : (w : Result Wanted StatementFault) → Enough (taken w)
enough_taken (Err refusal) = ([], (Err refusal, refl))
enough_taken (Ok (Known x)) = ([], (Ok x, refl))
enough_taken (Ok (Drawn asked)) = (one_draw asked ∷ [], (Ok (drawn_value (one_draw asked)), take_one asked (one_draw asked) (one_draw-kind asked)))

-- what goes on after some draws
abbrev pub EnoughAfter : {A : Type 0} → List Draw → (List Draw → Reading A) → Type 0
EnoughAfter {A} ds read = (more : List Draw) × ((r : Result A StatementFault) × (read (ds ++ more) ≡ Some (r, [])))

module _ (names : List (List ℕ)) (settings : NamedValues) where
  enough_behind : (first : Operand) (rest : List Operand) (x : Value) (ds more : List Draw) (s : Result (List Value) StatementFault) → value_of names settings first ds ≡ Some (Ok x, []) → values_of names settings rest more ≡ Some (s, [])
      → (r : Result (List Value) StatementFault) × (values_of names settings (first ∷ rest) (ds ++ more) ≡ Some (r, []))
  enough_behind first rest x ds more s e f = by_outcome s f
    where
      here : values_of names settings (first ∷ rest) (ds ++ more) ≡ values_of names settings rest more >>= λ xs over. Some (Ok (x ∷ xs), over)
      here = ap (λ m. m >>= λ y left. values_of names settings rest left >>= λ xs over. Some (Ok (y ∷ xs), over)) (taken-more (wanted names settings first) ds more [] (Ok x) e)

      by_outcome : (s : Result (List Value) StatementFault) → values_of names settings rest more ≡ Some (s, []) → (r : Result (List Value) StatementFault) × (values_of names settings (first ∷ rest) (ds ++ more) ≡ Some (r, []))
      by_outcome (Ok xs) f = (Ok (x ∷ xs), here ∙ ap (λ m. m >>= λ ys over. Some (Ok (x ∷ ys), over)) f)
      by_outcome (Err refusal) f = (Err refusal, here ∙ ap (λ m. m >>= λ ys over. Some (Ok (x ∷ ys), over)) f)

  -- the first operand's draws are some, and the others' come behind
  asks_on : (first : Operand) (rest : List Operand) (ds : List Draw) (r : Result Value StatementFault) → value_of names settings first ds ≡ Some (r, []) → Enough (values_of names settings rest) → EnoughAfter ds (values_of names settings (first ∷ rest))
  asks_on first rest ds (Ok x) e others = let found = enough_behind first rest x ds others.0 others.1.0 e others.1.1 in (others.0, found)
  asks_on first rest ds (Err refusal) e others =
      ([], (Err refusal, ap (values_of names settings (first ∷ rest)) (append-nil ds) ∙ ap (λ m. m >>= λ y left. values_of names settings rest left >>= λ xs over. Some (Ok (y ∷ xs), over)) e))

  pub enough_values : (operands : List Operand) → Enough (values_of names settings operands)
  enough_values [] = ([], (Ok [], refl))
  enough_values (first ∷ rest) =
      let one = enough_taken (wanted names settings first) in
      let all = asks_on first rest one.0 one.1.0 one.1.1 (enough_values rest) in
      (one.0 ++ all.0, all.1)

  pub enough_after : (first : Operand) (rest : List Operand) (ds : List Draw) (r : Result Value StatementFault) → value_of names settings first ds ≡ Some (r, []) → EnoughAfter ds (values_of names settings (first ∷ rest))
  enough_after first rest ds r e = asks_on first rest ds r e (enough_values rest)

-- what is there is to be drawn
pub wanted_there : (names : List (List ℕ)) (asked : DrawKind) → is_there names asked ≡ true → wanted_draw names asked ≡ Ok (Drawn asked)
wanted_there names (kind.Seq name) h = ap (λ b. cond b (Ok (Drawn (kind.Seq name))) (Err fault.NoSequence)) h
wanted_there names kind.Clock h = refl
wanted_there names kind.Id h = refl

pub wanted_away : (names : List (List ℕ)) (asked : DrawKind) → is_there names asked ≡ false → wanted_draw names asked ≡ Err fault.NoSequence
wanted_away names (kind.Seq name) h = ap (λ b. cond b (Ok (Drawn (kind.Seq name))) (Err fault.NoSequence)) h
wanted_away names kind.Clock h = cc
wanted_away names kind.Id h = cc

pub taken_there : (names : List (List ℕ)) (asked : DrawKind) (one : Draw) → is_there names asked ≡ true → is_of_kind asked one ≡ true → taken (wanted_draw names asked) (one ∷ []) ≡ Some (Ok (drawn_value one), [])
taken_there names asked one there h = ap (λ w. taken w (one ∷ [])) (wanted_there names asked there) ∙ take_one asked one h

-- another draw, or none, is none where one is asked for
pub taken_other : (names : List (List ℕ)) (asked : DrawKind) (rest : List Draw) → is_there names asked ≡ true → is_first asked rest ≡ false → taken (wanted_draw names asked) rest ≡ None
taken_other names asked [] there other = ap (λ w. taken w []) (wanted_there names asked there)
taken_other names asked (first ∷ rest) there other =
    ap (λ w. taken w (first ∷ rest)) (wanted_there names asked there) ∙ ap (λ b. let come : Reading Value = Some (Ok (drawn_value first), rest) in cond b come None) other
