-- The tests of equality are exact, and so are the comparisons of values and settings.
use Rattle.std.specs.Prelude.{ℕ, ◌≡◌, ◌==◌, ◌&&◌, Bool, true, false, nat_eq, List, if◌then◌else◌}
use Rattle.std.proofs.Common.{sym, ap, refl, ◌∙◌}
use Rattle.std.specs.Bool.{Decides, one_answer}
use Rattle.std.specs.Cmp.{IsEquivalence, signed_Decides, unsigned_Decides, on_equiv, and_equiv}
use Rattle.std.specs.Cmp.Lexicographic.{pointwise, pointwise_decides, lists_equiv, on_texts_equal}
use Rattle.svc_values.specs.declared.value.Value.{Value}
use Rattle.svc_values.specs.declared.value.Value.TheVariants as value
use Rattle.svc_values.specs.declared.draw.Draw.{Draw}
use Rattle.svc_values.specs.declared.draw.Draw.TheVariants as draw
use Rattle.svc_values.specs.declared.draw.DrawKind.{DrawKind}
use Rattle.svc_values.specs.declared.draw.DrawKind.TheVariants as kind
use Rattle.svc_values.specs.declared.statement.Operand.{Operand}
use Rattle.svc_values.specs.declared.statement.Operand.TheVariants as operand
use Rattle.svc_values.specs.declared.statement.Change.{Change}
use Rattle.svc_values.specs.declared.statement.Change.TheVariants as change
use Rattle.svc_values.specs.declared.statement.Test.{Test}
use Rattle.svc_values.specs.declared.statement.Test.TheVariants as test
use Rattle.svc_values.specs.declared.statement.Statement.{Statement}
use Rattle.svc_values.specs.declared.statement.Statement.TheVariants as statement
use Rattle.svc_values.specs.declared.call.Call.{Call}
use Rattle.svc_values.specs.declared.call.Call.TheVariants as call
use Rattle.svc_values.specs.declared.answer.Answer.{Answer}
use Rattle.svc_values.specs.declared.answer.Answer.TheVariants as answer
use Rattle.svc_values.specs.declared.answer.StatementFault.{StatementFault}
use Rattle.svc_values.specs.declared.answer.StatementFault.TheVariants as fault
use Rattle.svc_values.specs.declared.entry.Piece.{Piece}
use Rattle.svc_values.specs.declared.tables.PlainRow.{PlainRow}
use Rattle.svc_values.specs.declared.tables.Place.{Place}
use Rattle.svc_values.specs.declared.tables.Place.TheVariants as place
use Rattle.svc_values.specs.declared.entry.Ltxid.{Ltxid}
use Rattle.svc_values.specs.declared.entry.SessionId.{SessionId}
use Rattle.svc_values.specs.meaning.Identifiers.{same_ltxid, same_session}
use Rattle.svc_values.specs.meaning.Same.{same_value, fault_code, same_answer, same_answers, same_bool, same_draw_kind, same_draw, same_draws, same_operand, same_change, same_test, same_statement, same_call, same_calls, same_piece, same_row, same_rows}
use Rattle.svc_values.specs.Same.{same_place}
use Rattle.svc_values.specs.meaning.SettingsList.{same_settings}

-- bytes that are compared as equal are the same bytes
pub bytes_decide : (a b : List ℕ) → Decides (pointwise nat_eq a b) (a ≡ b)
bytes_decide = pointwise_decides unsigned_Decides

-- values that are compared as equal are the same value
pub same_value_decides : (a b : Value) → Decides (same_value a b) (a ≡ b)
same_value_decides (value.Int a) (value.Int b) = let d =
    signed_Decides a b in (λ h. ap value.Int (d.0 h), λ e. d.1 (cc))
same_value_decides (value.Int a) (value.Text b) = (λ h. cc, λ e. cc)
same_value_decides (value.Int a) (value.Bytes b) = (λ h. cc, λ e. cc)
same_value_decides (value.Text a) (value.Int b) = (λ h. cc, λ e. cc)
same_value_decides (value.Text a) (value.Text b) = let d =
    bytes_decide a b in (λ h. ap value.Text (d.0 h), λ e. d.1 (cc))
same_value_decides (value.Text a) (value.Bytes b) = (λ h. cc, λ e. cc)
same_value_decides (value.Bytes a) (value.Int b) = (λ h. cc, λ e. cc)
same_value_decides (value.Bytes a) (value.Text b) = (λ h. cc, λ e. cc)
same_value_decides (value.Bytes a) (value.Bytes b) = let d =
    bytes_decide a b in (λ h. ap value.Bytes (d.0 h), λ e. d.1 (cc))

pub same_value_equiv : IsEquivalence same_value
same_value_equiv = record {
  refl = λ x. (same_value_decides x x).1 refl;
  symm = λ x y. one_answer (same_value x y) (same_value y x) (same_value_decides x y) (flipped x y);
  congr = λ x y z h. ap (λ v. same_value v z) ((same_value_decides x y).0 h);
}
  where
    flipped : (x y : Value) → Decides (same_value y x) (x ≡ y)
    flipped x y = let d = same_value_decides y x in (λ h. sym (d.0 h), λ e. d.1 (sym e))

pub same_settings_equiv : IsEquivalence same_settings
same_settings_equiv = lists_equiv (and_equiv (on_texts_equal (λ e. e.0))
    (on_equiv (λ e. e.1) same_value_equiv))

-- ---- answers

fault_of : ℕ → StatementFault
fault_of n = if n == 1 then fault.NoTable else if n == 2 then fault.NoColumn else if n == 3 then
    fault.KindDiffers else if n == 4 then fault.DuplicateKey else if n == 5 then
    fault.NoSequence else if n == 6 then fault.NoVar else if n == 7 then fault.TooManyRows else
    if n == 8 then fault.SumRange else fault.KeyColumn

fault_of-code : (a : StatementFault) → fault_of (fault_code a) ≡ a
unfolding fault_of
fault_of-code fault.NoTable = refl
fault_of-code fault.NoColumn = refl
fault_of-code fault.KindDiffers = refl
fault_of-code fault.DuplicateKey = refl
fault_of-code fault.NoSequence = refl
fault_of-code fault.NoVar = refl
fault_of-code fault.TooManyRows = refl
fault_of-code fault.SumRange = refl
fault_of-code fault.KeyColumn = refl

same_fault_decides : (a b : StatementFault) → Decides (fault_code a == fault_code b) (a ≡ b)
same_fault_decides a b =
    let d = unsigned_Decides (fault_code a) (fault_code b) in
    (λ h. sym (fault_of-code a) ∙ ap fault_of (d.0 h) ∙ fault_of-code b, λ e. d.1 (ap fault_code e))

pub same_answer_decides : (a b : Answer) → Decides (same_answer a b) (a ≡ b)
same_answer_decides (answer.Done a) (answer.Done b) = let d =
    unsigned_Decides a b in (λ h. ap answer.Done (d.0 h), λ e. d.1 (cc))
same_answer_decides (answer.Rows a) (answer.Rows b) = let d =
    pointwise_decides (pointwise_decides same_value_decides) a b in (
      λ h. ap answer.Rows (d.0 h),
      λ e. d.1 (cc),
    )
same_answer_decides (answer.Number a) (answer.Number b) = let d =
    signed_Decides a b in (λ h. ap answer.Number (d.0 h), λ e. d.1 (cc))
same_answer_decides answer.Committed answer.Committed = (λ h. refl, λ e. refl)
same_answer_decides answer.Conflict answer.Conflict = (λ h. refl, λ e. refl)
same_answer_decides answer.RolledBack answer.RolledBack = (λ h. refl, λ e. refl)
same_answer_decides answer.CommitInReplay answer.CommitInReplay = (λ h. refl, λ e. refl)
same_answer_decides (answer.Refused a) (answer.Refused b) = let d =
    same_fault_decides a b in (λ h. ap answer.Refused (d.0 h), λ e. d.1 (cc))
same_answer_decides a b = (λ h. cc, λ e. cc)

pub same_answers_decide : (a b : List Answer) → Decides (same_answers a b) (a ≡ b)
same_answers_decide = pointwise_decides same_answer_decides

-- ---- calls, draws and what is made of them

left : (a b : Bool) → (a && b) ≡ true → a ≡ true
left true b is = refl
left false b is = cc

right : (a b : Bool) → (a && b) ≡ true → b ≡ true
right true b is = is
right false b is = let none : ⊥ = cc in absurd none

both : (a b : Bool) → a ≡ true → b ≡ true → (a && b) ≡ true
both true b one other = other
both false b one other = let none : ⊥ = cc in absurd none

-- two tests decide two facts
pub and_decides : {P Q : Type 0} (a b : Bool) → Decides a P → Decides b Q → Decides (a && b) (P × Q)
and_decides a b p q = (
  λ h. (p.0 (left a b h), q.0 (right a b h)),
  λ e. both a b (p.1 e.0) (q.1 e.1),
)

pub same_bool_decides : (a b : Bool) → Decides (same_bool a b) (a ≡ b)
same_bool_decides true true = (λ h. refl, λ e. refl)
same_bool_decides false false = (λ h. refl, λ e. refl)
same_bool_decides a b = (λ h. cc, λ e. cc)

pub same_draw_kind_decides : (a b : DrawKind) → Decides (same_draw_kind a b) (a ≡ b)
same_draw_kind_decides (kind.Seq a) (kind.Seq b) = let d =
    bytes_decide a b in (λ h. ap kind.Seq (d.0 h), λ e. d.1 (cc))
same_draw_kind_decides kind.Clock kind.Clock = (λ h. refl, λ e. refl)
same_draw_kind_decides kind.Id kind.Id = (λ h. refl, λ e. refl)
same_draw_kind_decides a b = (λ h. cc, λ e. cc)

pub same_draw_decides : (a b : Draw) → Decides (same_draw a b) (a ≡ b)
same_draw_decides (draw.Seq a m) (draw.Seq b n) = let d =
    and_decides _ _ (bytes_decide a b) (signed_Decides m n) in
    (λ h. (λ i. draw.Seq ((d.0 h).0 i) ((d.0 h).1 i)), λ e. d.1 (cc, cc))
same_draw_decides (draw.Clock a) (draw.Clock b) = let d =
    unsigned_Decides a b in (λ h. ap draw.Clock (d.0 h), λ e. d.1 (cc))
same_draw_decides (draw.Id a) (draw.Id b) = let d =
    bytes_decide a b in (λ h. ap draw.Id (d.0 h), λ e. d.1 (cc))
same_draw_decides a b = (λ h. cc, λ e. cc)

pub same_operand_decides : (a b : Operand) → Decides (same_operand a b) (a ≡ b)
same_operand_decides (operand.Lit a) (operand.Lit b) = let d =
    same_value_decides a b in (λ h. ap operand.Lit (d.0 h), λ e. d.1 (cc))
same_operand_decides (operand.Var a) (operand.Var b) = let d =
    bytes_decide a b in (λ h. ap operand.Var (d.0 h), λ e. d.1 (cc))
same_operand_decides (operand.Draw a) (operand.Draw b) = let d =
    same_draw_kind_decides a b in (λ h. ap operand.Draw (d.0 h), λ e. d.1 (cc))
same_operand_decides a b = (λ h. cc, λ e. cc)

pub same_change_decides : (a b : Change) → Decides (same_change a b) (a ≡ b)
same_change_decides (change.To a) (change.To b) = let d =
    same_operand_decides a b in (λ h. ap change.To (d.0 h), λ e. d.1 (cc))
same_change_decides (change.Plus a) (change.Plus b) = let d =
    same_operand_decides a b in (λ h. ap change.Plus (d.0 h), λ e. d.1 (cc))
same_change_decides a b = (λ h. cc, λ e. cc)

pub same_test_decides : (a b : Test) → Decides (same_test a b) (a ≡ b)
same_test_decides test.Eq test.Eq = (λ h. refl, λ e. refl)
same_test_decides test.Lt test.Lt = (λ h. refl, λ e. refl)
same_test_decides test.Ge test.Ge = (λ h. refl, λ e. refl)
same_test_decides a b = (λ h. cc, λ e. cc)

pub same_statement_decides : (a b : Statement) → Decides (same_statement a b) (a ≡ b)
same_statement_decides (statement.Insert t a) (statement.Insert u b) = let d =
    and_decides _ _ (bytes_decide t u) (pointwise_decides same_operand_decides a b) in
    (λ h. (λ i. statement.Insert ((d.0 h).0 i) ((d.0 h).1 i)), λ e. d.1 (cc, cc))
same_statement_decides (statement.Update t k c a) (statement.Update u l d b) =
    let one = bytes_decide t u in
    let two = same_operand_decides k l in
    let three = bytes_decide c d in
    let four = same_change_decides a b in
    let all = and_decides _ _ (and_decides _ _ (and_decides _ _ one two) three) four in (
      λ h. (λ i. statement.Update ((all.0 h).0.0.0 i) ((all.0 h).0.0.1 i) ((all.0 h).0.1 i)
          ((all.0 h).1 i)),
      λ e. all.1 (((cc, cc), cc), cc),
    )
same_statement_decides (statement.Delete t k) (statement.Delete u l) = let d =
    and_decides _ _ (bytes_decide t u) (same_operand_decides k l) in
    (λ h. (λ i. statement.Delete ((d.0 h).0 i) ((d.0 h).1 i)), λ e. d.1 (cc, cc))
same_statement_decides (statement.Get t k) (statement.Get u l) = let d =
    and_decides _ _ (bytes_decide t u) (same_operand_decides k l) in
    (λ h. (λ i. statement.Get ((d.0 h).0 i) ((d.0 h).1 i)), λ e. d.1 (cc, cc))
same_statement_decides (statement.Select t c p a) (statement.Select u d q b) =
    let one = bytes_decide t u in
    let two = bytes_decide c d in
    let three = same_test_decides p q in
    let four = same_operand_decides a b in
    let all = and_decides _ _ (and_decides _ _ (and_decides _ _ one two) three) four in (
      λ h. (λ i. statement.Select ((all.0 h).0.0.0 i) ((all.0 h).0.0.1 i) ((all.0 h).0.1 i)
          ((all.0 h).1 i)),
      λ e. all.1 (((cc, cc), cc), cc),
    )
same_statement_decides (statement.Count t) (statement.Count u) = let d =
    bytes_decide t u in (λ h. ap statement.Count (d.0 h), λ e. d.1 (cc))
same_statement_decides (statement.Sum t c) (statement.Sum u d) = let both =
    and_decides _ _ (bytes_decide t u) (bytes_decide c d) in
    (λ h. (λ i. statement.Sum ((both.0 h).0 i) ((both.0 h).1 i)), λ e. both.1 (cc, cc))
same_statement_decides (statement.Show a) (statement.Show b) = let d =
    same_operand_decides a b in (λ h. ap statement.Show (d.0 h), λ e. d.1 (cc))
same_statement_decides a b = (λ h. cc, λ e. cc)

pub same_call_decides : (a b : Call) → Decides (same_call a b) (a ≡ b)
same_call_decides (call.Work a p) (call.Work b q) = let d =
    and_decides _ _ (pointwise_decides same_statement_decides a b) (same_bool_decides p q) in
    (λ h. (λ i. call.Work ((d.0 h).0 i) ((d.0 h).1 i)), λ e. d.1 (cc, cc))
same_call_decides (call.Set m a) (call.Set n b) = let d =
    and_decides _ _ (bytes_decide m n) (same_value_decides a b) in
    (λ h. (λ i. call.Set ((d.0 h).0 i) ((d.0 h).1 i)), λ e. d.1 (cc, cc))
same_call_decides (call.Alter a) (call.Alter b) = let d =
    bytes_decide a b in (λ h. ap call.Alter (d.0 h), λ e. d.1 (cc))
same_call_decides call.Disable call.Disable = (λ h. refl, λ e. refl)
same_call_decides call.Rollback call.Rollback = (λ h. refl, λ e. refl)
same_call_decides a b = (λ h. cc, λ e. cc)

pub same_calls_decide : (a b : List Call) → Decides (same_calls a b) (a ≡ b)
same_calls_decide = pointwise_decides same_call_decides

pub same_draws_decide : (a b : List Draw) → Decides (same_draws a b) (a ≡ b)
same_draws_decide = pointwise_decides same_draw_decides

pub same_piece_decides : (a b : Piece) → Decides (same_piece a b) (a ≡ b)
same_piece_decides a b =
    let d = and_decides _ _ (and_decides _ _ (same_call_decides a.call b.call)
    (same_answers_decide a.answers b.answers)) (same_draws_decide a.draws b.draws) in (
      λ h. (λ i. record {
        call = (d.0 h).0.0 i;
        answers = (d.0 h).0.1 i;
        draws = (d.0 h).1 i;
      }),
      λ e. d.1 (
        (ap (λ (p : Piece). p.call) e, ap (λ (p : Piece). p.answers) e),
        ap (λ (p : Piece). p.draws) e,
      ),
    )

pub same_row_decides : (a b : PlainRow) → Decides (same_row a b) (a ≡ b)
same_row_decides a b =
    let d = and_decides _ _ (bytes_decide a.table b.table)
    (and_decides _ _ (same_value_decides a.key b.key)
    (pointwise_decides same_value_decides a.row b.row)) in (
      λ h. (λ i. record {
        table = (d.0 h).0 i;
        key = (d.0 h).1.0 i;
        row = (d.0 h).1.1 i;
      }),
      λ e. d.1 (
        ap (λ (r : PlainRow). r.table) e,
        (ap (λ (r : PlainRow). r.key) e, ap (λ (r : PlainRow). r.row) e),
      ),
    )

pub same_rows_decide : (a b : List PlainRow) → Decides (same_rows a b) (a ≡ b)
same_rows_decide = pointwise_decides same_row_decides

pub same_place_decides : (a b : Place) → Decides (same_place a b) (a ≡ b)
same_place_decides (place.Row t k) (place.Row u l) = let d =
    and_decides _ _ (bytes_decide t u) (same_value_decides k l) in
    (λ h. (λ i. place.Row ((d.0 h).0 i) ((d.0 h).1 i)), λ e. d.1 (cc, cc))
same_place_decides (place.Table t) (place.Table u) = let d =
    bytes_decide t u in (λ h. ap place.Table (d.0 h), λ e. d.1 (cc))
same_place_decides a b = (λ h. cc, λ e. cc)

pub same_ltxid_decides : (a b : Ltxid) → Decides (same_ltxid a b) (a ≡ b)
same_ltxid_decides a b =
    let d = and_decides _ _ (and_decides _ _ (unsigned_Decides a.incarnation b.incarnation)
    (unsigned_Decides a.session b.session)) (unsigned_Decides a.number b.number) in (
      λ h. (λ i. record {
        incarnation = (d.0 h).0.0 i;
        session = (d.0 h).0.1 i;
        number = (d.0 h).1 i;
      }),
      λ e. d.1 (
        (ap (λ (x : Ltxid). x.incarnation) e, ap (λ (x : Ltxid). x.session) e),
        ap (λ (x : Ltxid). x.number) e,
      ),
    )

pub same_session_decides : (a b : SessionId) → Decides (same_session a b) (a ≡ b)
same_session_decides a b =
    let d = and_decides _ _ (unsigned_Decides a.incarnation b.incarnation)
    (unsigned_Decides a.session b.session) in (
      λ h. (λ i. record {
        incarnation = (d.0 h).0 i;
        session = (d.0 h).1 i;
      }),
      λ e. d.1 (ap (λ (x : SessionId). x.incarnation) e, ap (λ (x : SessionId). x.session) e),
    )
