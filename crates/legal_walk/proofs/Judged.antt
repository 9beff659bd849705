-- The test of a call, beside a walk.
use Rattle.std.proofs.Common.{◌≡◌, Bool, true, false, ◌&&◌, ◌||◌, cond, List, [], ◌∷◌, refl, sym, ap, ◌∙◌}
use Rattle.std.specs.Prelude.{not}
use Rattle.std.specs.Cmp.Lexicographic.{pointwise}
use Rattle.svc_values.specs.declared.answer.Answer.{Answer}
use Rattle.svc_values.specs.declared.entry.Entry.{Entry}
use Rattle.svc_values.specs.declared.entry.Ltxid.{Ltxid}
use Rattle.svc_values.specs.declared.entry.Piece.{Piece}
use Rattle.svc_values.specs.declared.tables.PlainRow.{PlainRow}
use Rattle.svc_values.specs.meaning.Calls.{is_lone_commit}
use Rattle.svc_values.specs.meaning.Endings.{ends_committed, ends_conflict}
use Rattle.svc_values.specs.meaning.Same.{same_answers, same_bool, same_piece}
use Rattle.svc_values.specs.meaning.Identifiers.{same_ltxid}
use Rattle.svc_values.specs.meaning.SettingsList.{NamedValues, same_settings}
use Rattle.stmt_meaning.specs.meaning.Meaning.{Meant}
use Rattle.stmt_meaning.specs.meaning.Reads.{Read}
use Rattle.table_txn.specs.Readings.{AreReadings}
use Rattle.server_model.specs.meaning.Base.{Base}
use Rattle.server_model.specs.meaning.Legal.{answers_hold, differs, is_entry_of, is_first_entry, is_free, stores}
use Rattle.server_model.specs.meaning.Walk.{Walk, Performed, next_of, with_call}
use Rattle.legal_walk.specs.declared.ongoing.Ongoing.{Ongoing}
use Rattle.legal_walk.specs.declared.service.Service.{Service}
use Rattle.legal_walk.specs.Beside.{Beside}
use Rattle.legal_walk.specs.Going.{Goes}
use Rattle.legal_walk.specs.Judging.{answered_by, is_entry_with, is_first_with, is_free_at, stores_with}

module _ (service : Service) (p : Performed) (one : Ongoing) (answers : List Answer) (base : Base) (walk : Walk) (meant : Meant) (beside : Beside base walk service) (is : answers ≡ meant.answers)
    (goes : Goes service.tables.schemas (with_call walk p meant) one) where
  pub told_is : (so : Bool) → ((reads : List Read) → AreReadings one.going.readings reads → so ≡ same_answers p.answers (answered_by answers p.replay (differs service.tables.rows reads)))
      → so ≡ answers_hold walk p meant
  told_is so told =
      let reads = (with_call walk p meant).reads in
      told reads goes.reads
      ∙ ap (λ (a : List Answer). same_answers p.answers (answered_by a p.replay (differs service.tables.rows reads))) is
      ∙ ap (λ (rows : List PlainRow). same_answers p.answers (answered_by meant.answers p.replay (differs rows reads))) (sym beside.committed)

  module _ (next : Ltxid) (comes : next ≡ next_of walk p.session) where
    pub free_is : is_free_at service.blocked next p.answers ≡ is_free walk p
    free_is =
        ap (λ (x : Ltxid). is_free_at service.blocked x p.answers) comes
        ∙ ap (λ b. cond (ends_committed p.answers || ends_conflict p.answers) (not b) true) (sym (beside.blocked (next_of walk p.session)))

    entry_is : (entry : Entry) → is_entry_with next one.going (is_lone_commit p.called) entry ≡ is_entry_of walk p (with_call walk p meant) entry
    entry_is entry =
        let t = with_call walk p meant in
        ap (λ (x : Ltxid). is_entry_with x one.going (is_lone_commit p.called) entry) comes
        ∙ ap (λ (pieces : List Piece). same_ltxid entry.ltxid (next_of walk p.session) && (pointwise same_piece entry.pieces pieces && (same_settings entry.settings one.going.at_start && same_bool entry.completed (is_lone_commit p.called)))) goes.pieces
        ∙ ap (λ (settings : NamedValues). same_ltxid entry.ltxid (next_of walk p.session) && (pointwise same_piece entry.pieces t.pieces && (same_settings entry.settings settings && same_bool entry.completed (is_lone_commit p.called)))) goes.at_start

    first_is : (left : List Entry) → is_first_with next one.going (is_lone_commit p.called) left ≡ is_first_entry walk p (with_call walk p meant) left
    first_is [] = refl
    first_is (entry ∷ left) = entry_is entry

    pub stores_is : stores_with next one.going p.answers p.called service.ledger.left ≡ stores walk p meant
    stores_is = ap (λ b. cond (ends_committed p.answers) b true) (first_is service.ledger.left ∙ ap (is_first_entry walk p (with_call walk p meant)) (sym beside.left))

and_false : (a b : Bool) → (a && (false && b)) ≡ false
and_false true b = refl
and_false false b = refl

-- two parts of the test, where the second is false
pub second_false : (a f s : Bool) → false ≡ f → false ≡ (a && (f && s))
second_false a f s is = sym (ap (λ (b : Bool). a && (b && s)) (sym is) ∙ and_false a s)

-- and where the third is left
pub third_left : (a f s third : Bool) → true ≡ a → true ≡ f → third ≡ s → third ≡ (a && (f && s))
third_left a f s third one two is = is ∙ sym (ap (λ b. b && (f && s)) (sym one) ∙ ap (λ b. b && s) (sym two))
