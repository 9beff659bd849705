-- Equal answers tell the same draws: with the same settings, and with others where no statement was
-- refused for want of one.
use Rattle.std.proofs.Common.{◌≡◌, inl, inr, ℕ, Bool, true, false, cond, List, [], ◌∷◌, ◌++◌, length, map, refl, sym, ap, ◌∙◌, subst, take, append-nil}
use Rattle.std.specs.Option.{option_map_or}
use Rattle.std.specs.Prelude.{Option, Some, None, Result, Ok, Err, flat_map}
use Rattle.svc_values.specs.declared.answer.Answer.{Answer}
use Rattle.svc_values.specs.declared.answer.Answer.TheVariants as answer
use Rattle.svc_values.specs.declared.answer.StatementFault.{StatementFault}
use Rattle.svc_values.specs.declared.answer.StatementFault.TheVariants as fault
use Rattle.svc_values.specs.declared.call.Call.{Call}
use Rattle.svc_values.specs.declared.call.Call.TheVariants as call
use Rattle.svc_values.specs.declared.draw.Draw.{Draw}
use Rattle.svc_values.specs.declared.draw.DrawKind.{DrawKind}
use Rattle.svc_values.specs.declared.schema.Shape.{Shape}
use Rattle.svc_values.specs.declared.statement.Operand.{Operand}
use Rattle.svc_values.specs.declared.statement.Operand.TheVariants as operand
use Rattle.svc_values.specs.declared.statement.Statement.{Statement}
use Rattle.svc_values.specs.declared.tables.PlainRow.{PlainRow}
use Rattle.svc_values.specs.declared.value.Value.{Value}
use Rattle.svc_values.specs.meaning.Calls.{operands_of}
use Rattle.svc_values.specs.meaning.Draws.{is_of_kind}
use Rattle.svc_values.specs.meaning.Endings.{last_answer}
use Rattle.svc_values.specs.meaning.SettingsList.{NamedValues, setting_of}
use Rattle.svc_values.specs.meaning.Tables.{with_writes}
use Rattle.stmt_meaning.specs.declared.plan.Plan.{Plan}
use Rattle.stmt_meaning.specs.Asked.{UsesInOrder, kind_drawn}
use Rattle.stmt_meaning.specs.AskedIn.{asked_before, asked_by_operands, asked_at, asked_in, asked_while, is_unset, ends_unset}
use Rattle.stmt_meaning.specs.DrawLaws.{SettingsAgree}
use Rattle.stmt_meaning.specs.meaning.Meaning.{OneDone, AllDone, Meant, done_at, mean1, is_refusal, ended_by, after_first, and_on, statements_done, worked, mean, commit_answer}
use Rattle.stmt_meaning.specs.meaning.Operands.{Reading, ◌>>=◌, drawn_value, take_draw, Wanted, Known, Drawn, wanted, wanted_setting, wanted_draw, taken, values_of}
use Rattle.stmt_meaning.specs.meaning.Plans.{Aim, aim_of, plan_for, plan_at}
use Rattle.stmt_meaning.proofs.AskedExactly.{ExactAll, all_taken, mean-exact, statements_exact}
use Rattle.stmt_meaning.proofs.Commits.{tells, Tells as TellsRefused}

-- ---- what is asked for where each setting is there

abbrev set_before : List (List ℕ) → Operand → List DrawKind → List DrawKind
set_before names (operand.Lit x) more = more
set_before names (operand.Var name) more = more
set_before names (operand.Draw asked) more = asked_before (wanted_draw names asked) more

abbrev set_operands : List (List ℕ) → List Operand → List DrawKind
set_operands names [] = []
set_operands names (first ∷ rest) = set_before names first (set_operands names rest)

abbrev set_at : Shape → Statement → Result Aim StatementFault → List DrawKind
set_at shape asked (Err refusal) = []
set_at shape asked (Ok aim) = set_operands shape.sequences (operands_of asked)

abbrev set_in : Shape → Statement → List DrawKind
set_in shape asked = set_at shape asked (aim_of shape.schemas asked)

abbrev set_while : Shape → Call → ℕ → List DrawKind
set_while shape (call.Work statements commit) count = flat_map (set_in shape) (take count statements)
set_while shape _ count = []

-- ---- operands

abbrev wants_setting : {A : Type 0} → Result A StatementFault → Bool
wants_setting (Err fault.NoVar) = true
wants_setting _ = false

-- reading came to this only where no setting was wanted in vain
abbrev Tells : {A : Type 0} → Type 0 → Reading A → Type 0
Tells same None = Unit {0}
Tells same (Some (come, rest)) = wants_setting come ≡ false → same

made_tells : {A B : Type 0} (same : Type 0) (make : A → B) (read : Reading A) → Tells same read → Tells same (read >>= λ x left. Some (Ok (make x), left))
made_tells same make None t = tt
made_tells same make (Some (Ok x, rest)) t = t
made_tells same make (Some (Err refusal, rest)) t = t

-- what is told behind is told of all
behind_tells : {B : Type 0} (one all : Type 0) → (one → all) → (read : Reading B) → Tells one read → Tells all read
behind_tells one all goes None t = tt
behind_tells one all goes (Some (come, rest)) t = λ h. goes (t h)

drawn_tells : {B : Type 0} (same : Type 0) (asked : DrawKind) (draws : List Draw) (next : Value → List Draw → Reading B) → ((x : Value) (left : List Draw) → Tells same (next x left)) → Tells same (take_draw asked draws >>= next)
drawn_tells same asked [] next k = tt
drawn_tells {B} same asked (first ∷ rest) next k = by_kind (is_of_kind asked first)
  where
    by_kind : (b : Bool) → Tells same (cond {A = Reading Value} b (Some (Ok (drawn_value first), rest)) None >>= next)
    by_kind true = k (drawn_value first) rest
    by_kind false = tt

module _ (names : List (List ℕ)) (settings : NamedValues) where
  -- an operand, and what is read behind it
  first_tells : {B : Type 0} (first : Operand) (more others : List DrawKind) (draws : List Draw) (next : Value → List Draw → Reading B) → ((x : Value) (left : List Draw) → Tells (more ≡ others) (next x left))
      → Tells (asked_before (wanted names settings first) more ≡ set_before names first others) (taken (wanted names settings first) draws >>= next)
  first_tells (operand.Lit x) more others draws next k = k x draws
  first_tells (operand.Var name) more others draws next k = by_setting (setting_of settings name)
    where
      by_setting : (found : Option Value) → Tells (asked_before (wanted_setting found) more ≡ others) (taken (wanted_setting found) draws >>= next)
      by_setting None = λ h. absurd (let none : ⊥ = cc in none)
      by_setting (Some x) = k x draws
  first_tells {B} (operand.Draw asked) more others draws next k = by_wanted (wanted_draw names asked)
    where
      by_wanted : (w : Result Wanted StatementFault) → Tells (asked_before w more ≡ asked_before w others) (taken w draws >>= next)
      by_wanted (Err refusal) = λ h. refl
      by_wanted (Ok (Known x)) = k x draws
      by_wanted (Ok (Drawn kind)) =
          drawn_tells (kind ∷ more ≡ kind ∷ others) kind draws next (λ x left. behind_tells (more ≡ others) (kind ∷ more ≡ kind ∷ others) (λ same. ap (λ kinds. kind ∷ kinds) same) (next x left) (k x left))

  values_tell : (operands : List Operand) (draws : List Draw) → Tells (asked_by_operands names settings operands ≡ set_operands names operands) (values_of names settings operands draws)
  values_tell [] draws = λ h. refl
  values_tell (first ∷ rest) draws =
      first_tells first (asked_by_operands names settings rest) (set_operands names rest) draws (λ x left. values_of names settings rest left >>= λ xs over. Some (Ok (x ∷ xs), over))
      (λ x left. made_tells (asked_by_operands names settings rest ≡ set_operands names rest) (λ (xs : List Value). x ∷ xs) (values_of names settings rest left) (values_tell rest left))

-- ---- statements

abbrev TellsOne : Type 0 → Option OneDone → Type 0
TellsOne same None = Unit {0}
TellsOne same (Some one) = is_unset one.answer ≡ false → same

-- a refusal of the operands is the statement's
values_one : (same : Type 0) (tables : List PlainRow) (make : List Value → Result Plan StatementFault) (read : Reading (List Value)) → Tells same read → TellsOne same (done_at tables (read >>= λ values left. Some (make values, left)))
values_one same tables make None t = tt
values_one same tables make (Some (Err refusal, rest)) t = by refusal t
  where
    by : (refusal : StatementFault) → (wants_setting {A = List Value} (Err refusal) ≡ false → same) → is_unset (answer.Refused refusal) ≡ false → same
    by fault.NoVar t h = absurd (let none : ⊥ = cc in none)
    by other t h = t refl
values_one same tables make (Some (Ok values, rest)) t = by (make values)
  where
    by : (made : Result Plan StatementFault) → TellsOne same (done_at tables (Some (made, rest)))
    by (Err refusal) = λ h. t refl
    by (Ok plan) = λ h. t refl

one_tells : (shape : Shape) (tables : List PlainRow) (settings : NamedValues) (asked : Statement) (draws : List Draw) → TellsOne (asked_in shape settings asked ≡ set_in shape asked) (mean1 shape tables settings asked draws)
one_tells shape tables settings asked draws = by (aim_of shape.schemas asked)
  where
    by : (aim : Result Aim StatementFault) → TellsOne (asked_at shape settings asked aim ≡ set_at shape asked aim) (done_at tables (plan_at shape settings asked draws aim))
    by (Err refusal) = λ h. refl
    by (Ok aim) =
        values_one (asked_by_operands shape.sequences settings (operands_of asked) ≡ set_operands shape.sequences (operands_of asked)) tables (plan_for aim asked) (values_of shape.sequences settings (operands_of asked) draws)
        (values_tell shape.sequences settings (operands_of asked) draws)

abbrev Same : (Statement → List DrawKind) → (Statement → List DrawKind) → List Statement → List Answer → Type 0
Same asked others statements answers = flat_map asked (take (length answers) statements) ≡ flat_map others (take (length answers) statements)

abbrev TellsAll : (Statement → List DrawKind) → (Statement → List DrawKind) → List Statement → Option AllDone → Type 0
TellsAll asked others statements None = Unit {0}
TellsAll asked others statements (Some done) = ends_unset done.answers ≡ false → Same asked others statements done.answers

not_unset : (a : Answer) → is_refusal a ≡ false → is_unset a ≡ false
not_unset (answer.Refused refusal) h = absurd (let none : ⊥ = cc in none)
not_unset other h = refl

behind_unset : (a : Answer) (answers : List Answer) → ends_unset (a ∷ answers) ≡ false → ends_unset answers ≡ false
behind_unset a [] h = refl
behind_unset a (next ∷ more) h = h

on_tells : (asked others : Statement → List DrawKind) (statement : Statement) (rest : List Statement) (first : Option OneDone) (next : OneDone → Option AllDone) → TellsOne (asked statement ≡ others statement) first
    → ((one : OneDone) → TellsAll asked others rest (next one)) → TellsAll asked others (statement ∷ rest) (and_on first next)
on_tells asked others statement rest None next t k = tt
on_tells asked others statement rest (Some one) next t k = by_refusal (is_refusal one.answer) refl (next one) (k one)
  where
    by_refusal : (b : Bool) → is_refusal one.answer ≡ b → (behind : Option AllDone) → TellsAll asked others rest behind → TellsAll asked others (statement ∷ rest) (cond b (ended_by one) (after_first one behind))
    by_refusal true is behind v = λ h. ap (λ kinds. kinds ++ []) (t h)
    by_refusal false is None v = tt
    by_refusal false is (Some done) v = λ h.
        let here : asked statement ≡ others statement = t (not_unset one.answer is) in
        let more : Same asked others rest done.answers = v (behind_unset one.answer done.answers h) in
        ap (λ kinds. kinds ++ flat_map asked (take (length done.answers) rest)) here ∙ ap (λ kinds. others statement ++ kinds) more

statements_tell : (shape : Shape) (tables : List PlainRow) (settings : NamedValues) (statements : List Statement) (draws : List Draw) → TellsAll (asked_in shape settings) (set_in shape) statements (statements_done shape tables settings statements draws)
statements_tell shape tables settings [] draws = λ h. refl
statements_tell shape tables settings (first ∷ rest) draws =
    on_tells (asked_in shape settings) (set_in shape) first rest (mean1 shape tables settings first draws) (λ one. statements_done shape (with_writes tables one.writes) settings rest one.rest)
    (one_tells shape tables settings first draws)
    (λ one. statements_tell shape (with_writes tables one.writes) settings rest one.rest)

-- ---- calls

abbrev TellsCall : (ℕ → List DrawKind) → (ℕ → List DrawKind) → Option Meant → Type 0
TellsCall asked others None = Unit {0}
TellsCall asked others (Some meant) = ends_unset meant.answers ≡ false → asked (length meant.answers) ≡ others (length meant.answers)

last_unset : (last : Option Answer) → option_map_or is_refusal last false ≡ false → option_map_or is_unset last false ≡ false
last_unset None h = refl
last_unset (Some a) h = not_unset a h

worked_tells : (tables : List PlainRow) (settings : NamedValues) (commit : Bool) (asked others : Statement → List DrawKind) (statements : List Statement) (draws : List Draw) (all : Option AllDone)
    → TellsRefused all → ExactAll asked statements draws all → TellsAll asked others statements all
    → TellsCall (λ count. flat_map asked (take count statements)) (λ count. flat_map others (take count statements)) (worked tables settings commit all)
worked_tells tables settings commit asked others statements draws None r u t = tt
worked_tells tables settings commit asked others statements draws (Some done) r u t = by_refusal done.refused refl
  where
    whole : (each : Statement → List DrawKind) → done.refused ≡ false → flat_map each (take (length done.answers) statements) ≡ flat_map each (take (length (done.answers ++ commit_answer commit)) statements)
    whole each kept = all_taken each statements done.answers (commit_answer commit) (u.all kept)

    by_refusal : (b : Bool) → done.refused ≡ b
        → TellsCall (λ count. flat_map asked (take count statements)) (λ count. flat_map others (take count statements)) (cond b (Some (record { answers = done.answers; tables = tables; settings = settings; writes = []; reads = done.reads; rest = done.rest }))
        (Some (record { answers = done.answers ++ commit_answer commit; tables = with_writes tables done.writes; settings = settings; writes = done.writes; reads = done.reads; rest = done.rest })))
    by_refusal true gone = t
    by_refusal false kept = λ h. sym (whole asked kept) ∙ t (last_unset (last_answer done.answers) (sym r ∙ kept)) ∙ whole others kept

call_tells : (shape : Shape) (tables : List PlainRow) (settings : NamedValues) (asked : Call) (draws : List Draw) → TellsCall (asked_while shape settings asked) (set_while shape asked) (mean shape tables settings asked draws)
call_tells shape tables settings (call.Work statements commit) draws =
    worked_tells tables settings commit (asked_in shape settings) (set_in shape) statements draws (statements_done shape tables settings statements draws)
    (tells shape tables settings statements draws) (statements_exact shape tables settings statements draws) (statements_tell shape tables settings statements draws)
call_tells shape tables settings (call.Set name x) draws = λ h. refl
call_tells shape tables settings (call.Alter line) draws = λ h. refl
call_tells shape tables settings call.Disable draws = λ h. refl
call_tells shape tables settings call.Rollback draws = λ h. refl

mean-set : (shape : Shape) (tables : List PlainRow) (settings : NamedValues) (asked : Call) (draws : List Draw) (meant : Meant) → mean shape tables settings asked draws ≡ Some meant → ends_unset meant.answers ≡ false
    → asked_while shape settings asked (length meant.answers) ≡ set_while shape asked (length meant.answers)
mean-set shape tables settings asked draws meant is = subst (TellsCall (asked_while shape settings asked) (set_while shape asked)) is (call_tells shape tables settings asked draws)

-- the kinds of draws that were all used
pub kinds_used : (asked : List DrawKind) (draws rest : List Draw) → UsesInOrder asked draws rest false → rest ≡ [] → map kind_drawn draws ≡ asked
kinds_used asked draws rest u none =
    let same : draws ≡ u.used = u.first ∙ ap (λ left. u.used ++ left) none ∙ append-nil u.used in
    ap (map kind_drawn) same ∙ sym (append-nil (map kind_drawn u.used)) ∙ ap (λ left. map kind_drawn u.used ++ left) (sym (u.whole refl)) ∙ u.in_order

pub answers_tell : (shape : Shape) (tables other_tables : List PlainRow) (settings others : NamedValues) (asked : Call) (draws again : List Draw) (meant other : Meant)
    → mean shape tables settings asked draws ≡ Some meant → mean shape other_tables others asked again ≡ Some other → meant.rest ≡ [] → other.rest ≡ []
    → length meant.answers ≡ length other.answers → SettingsAgree settings others meant other → map kind_drawn draws ≡ map kind_drawn again
answers_tell shape tables other_tables settings others asked draws again meant other is is_again none none_again same agree =
    let first = kinds_used (asked_while shape settings asked (length meant.answers)) draws meant.rest (mean-exact shape tables settings asked draws meant is) none in
    let second = kinds_used (asked_while shape others asked (length other.answers)) again other.rest (mean-exact shape other_tables others asked again other is_again) none_again in
    first ∙ by agree ∙ sym second
  where
    by : SettingsAgree settings others meant other → asked_while shape settings asked (length meant.answers) ≡ asked_while shape others asked (length other.answers)
    by (inl alike) = ap (λ s. asked_while shape s asked (length meant.answers)) alike ∙ ap (asked_while shape others asked) same
    by (inr (set, set_again)) =
        mean-set shape tables settings asked draws meant is set ∙ ap (set_while shape asked) same ∙ sym (mean-set shape other_tables others asked again other is_again set_again)
