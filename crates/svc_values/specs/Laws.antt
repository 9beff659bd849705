-- What the tests of equality keep to.
use Rattle.std.specs.Prelude.{◌≡◌, ◌↔◌, true, List}
use Rattle.svc_values.specs.declared.value.Value.{Value}
use Rattle.svc_values.specs.declared.answer.Answer.{Answer}
use Rattle.svc_values.specs.declared.call.Call.{Call}
use Rattle.svc_values.specs.declared.draw.Draw.{Draw}
use Rattle.svc_values.specs.declared.entry.Piece.{Piece}
use Rattle.svc_values.specs.declared.entry.Ltxid.{Ltxid}
use Rattle.svc_values.specs.declared.entry.SessionId.{SessionId}
use Rattle.svc_values.specs.declared.tables.PlainRow.{PlainRow}
use Rattle.svc_values.specs.declared.tables.Place.{Place}
use Rattle.svc_values.specs.meaning.Identifiers.{same_ltxid, same_session}
use Rattle.svc_values.specs.meaning.Same.{same_value, same_answers, same_call, same_draw, same_piece, same_rows}
use Rattle.svc_values.specs.Same.{same_place}

-- each test is true exactly of a value and itself
pub record AreExact : Type 0 where
  pub values : (a b : Value) → (same_value a b ≡ true) ↔ (a ≡ b)
  pub answers : (a b : List Answer) → (same_answers a b ≡ true) ↔ (a ≡ b)
  pub calls : (a b : Call) → (same_call a b ≡ true) ↔ (a ≡ b)
  pub draws : (a b : Draw) → (same_draw a b ≡ true) ↔ (a ≡ b)
  pub pieces : (a b : Piece) → (same_piece a b ≡ true) ↔ (a ≡ b)
  pub rows : (a b : List PlainRow) → (same_rows a b ≡ true) ↔ (a ≡ b)
  pub places : (a b : Place) → (same_place a b ≡ true) ↔ (a ≡ b)
  pub identifiers : (a b : Ltxid) → (same_ltxid a b ≡ true) ↔ (a ≡ b)
  pub sessions : (a b : SessionId) → (same_session a b ≡ true) ↔ (a ≡ b)
