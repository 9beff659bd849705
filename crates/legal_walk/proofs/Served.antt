-- A call that is served again, beside a walk.
use Rattle.std.proofs.Common.{◌≡◌, ℕ, Bool, true, false, ◌&&◌, cond, List, refl, sym, ap, ◌∙◌, subst}
use Rattle.std.proofs.lemmas.Bool.{false≢true}
use Rattle.std.specs.Prelude.{Option, Some, None, IsTrue}
use Rattle.svc_values.specs.declared.answer.Answer.{Answer}
use Rattle.svc_values.specs.declared.call.Call.{Call}
use Rattle.svc_values.specs.declared.draw.Draw.{Draw}
use Rattle.svc_values.specs.declared.entry.SessionId.{SessionId}
use Rattle.svc_values.specs.declared.entry.Write.{Write}
use Rattle.svc_values.specs.declared.schema.Shape.{Shape}
use Rattle.svc_values.specs.declared.tables.PlainRow.{PlainRow}
use Rattle.svc_values.specs.meaning.Endings.{ends_committed}
use Rattle.svc_values.specs.meaning.Identifiers.{same_session}
use Rattle.svc_values.specs.meaning.SettingsList.{NamedValues}
use Rattle.svc_values.specs.meaning.Tables.{with_writes}
use Rattle.stmt_meaning.specs.meaning.Meaning.{Meant, mean}
use Rattle.stmt_meaning.specs.meaning.SerialTest.{is_nil}
use Rattle.table_store.specs.Stored.{Stored}
use Rattle.table_txn.specs.Transactions.{shape_of}
use Rattle.server_model.specs.meaning.Base.{Base}
use Rattle.server_model.specs.meaning.Legal.{answers_hold, deed_holds, draws_hold, is_free, stores}
use Rattle.server_model.specs.meaning.Walk.{Deed, Ran, Performed, Transaction, Walk, after_deed, deed, ends, if_commits, if_ended, meaning, transaction_in, with_call, with_meaning, with_numbers, with_transaction}
use Rattle.calls_again.specs.OnWay.{OnWay, GoesBy, HasGone, if_used, taken_with}
use Rattle.legal_walk.specs.declared.ongoing.Ongoing.{Ongoing}
use Rattle.legal_walk.specs.declared.service.Service.{Service}
use Rattle.legal_walk.specs.declared.walker.Walker.{Walker}
use Rattle.table_txn.specs.Changes.{begun_at}
use Rattle.legal_walk.specs.Beside.{Beside, Moves}
use Rattle.legal_walk.specs.Going.{AllGo, Goes, GoesAt, ongoing_in, with_piece}
use Rattle.legal_walk.specs.Judging.{ended_if}
use Rattle.legal_walk.specs.Walks.{Walks}
use Rattle.legal_walk.proofs.Goings.{all_go, goes_ended, goes_grown}
use Rattle.legal_walk.proofs.Holding.{goes_later, moves_none}

-- ---- what a call means

-- it means this, and uses its draws
pub record IsGone (tables : Stored) (old : OnWay) (m : Option Meant) (answers : List Answer) (new : OnWay) : Type 0 where
  pub meant : Meant
  pub means : m ≡ Some meant
  pub used : is_nil meant.rest ≡ true
  pub answered : answers ≡ meant.answers
  pub gone : HasGone tables old meant new

pub gone_of : (tables : Stored) (old : OnWay) (m : Option Meant) (answers : List Answer) (new : OnWay) → GoesBy tables old (if_used m) (Some answers) new → IsGone tables old m answers new
gone_of tables old None answers new goes = absurd goes
gone_of tables old (Some meant) answers new goes = by (is_nil meant.rest) refl goes
  where
    by : (b : Bool) → is_nil meant.rest ≡ b → GoesBy tables old (cond b (Some meant) None) (Some answers) new → IsGone tables old (Some meant) answers new
    by true used goes = record { meant = meant; means = refl; used = used; answered = goes.0; gone = goes.1 }
    by false used goes = absurd goes

pub meaning_is : (base : Base) (walk : Walk) (service : Service) (session : SessionId) (one : Ongoing) (called : Call) (draws : List Draw) → Beside base walk service → Goes service.tables.schemas (transaction_in walk.sessions session) one
    → meaning base walk session called draws ≡ mean (shape_of service.tables service.names) (with_writes service.tables.rows one.going.writes) one.going.settings called draws
meaning_is base walk service session one called draws beside goes =
    let t = transaction_in walk.sessions session in
    let made = shape_of service.tables service.names in
    ap (λ (shape : Shape). mean shape (with_writes walk.committed t.writes) t.settings called draws) beside.shape
    ∙ ap (λ (rows : List PlainRow). mean made (with_writes rows t.writes) t.settings called draws) beside.committed
    ∙ ap (λ (writes : List Write). mean made (with_writes service.tables.rows writes) t.settings called draws) (sym goes.writes)
    ∙ ap (λ (settings : NamedValues). mean made (with_writes service.tables.rows one.going.writes) settings called draws) (sym goes.settings)

-- ---- the walk with other sessions

pub beside_sessions : (base : Base) (walk : Walk) (service : Service) (sessions : List (SessionId × Transaction)) → Beside base walk service → Beside base (record walk { sessions = sessions }) service
beside_sessions base walk service sessions beside = record {
  shape = beside.shape;
  sequences = beside.sequences;
  grants = beside.grants;
  committed = beside.committed;
  stored = beside.stored;
  left = beside.left;
  blocked = beside.blocked;
  perhaps = beside.perhaps;
  numbers = beside.numbers;
  over = beside.over;
}

four_apart : (a f s d : Bool) → (a && (f && (s && d))) ≡ ((a && (f && s)) && d)
four_apart true true s d = refl
four_apart true false s d = refl
four_apart false f s d = refl

-- ---- a call that means something with its draws

module _ (old : Walker) (p : Performed) (one ran noted : Ongoing) (answers : List Answer) (found : one ≡ ongoing_in old.sessions p.session)
    (goes_by : GoesBy old.service.tables one.going (taken_with old.service.tables old.service.names one.going p.called p.draws) (Some answers) ran.going)
    (since : ran.since ≡ begun_at one.since old.service.changes.commits)
    (is_noted : noted ≡ with_piece ran (record { call = p.called; answers = p.answers; draws = p.draws }))
    (base : Base) (walk : Walk) (walks : Walks base walk old) where
  abbrev pub tables : Stored
  tables = old.service.tables

  abbrev pub here : IsGone tables one.going (mean (shape_of tables old.service.names) (with_writes tables.rows one.going.writes) one.going.settings p.called p.draws) answers ran.going
  here = gone_of tables one.going (mean (shape_of tables old.service.names) (with_writes tables.rows one.going.writes) one.going.settings p.called p.draws) answers ran.going goes_by

  abbrev pub meant : Meant
  meant = here.meant

  pub answered : answers ≡ meant.answers
  answered = here.answered

  goes_before : GoesAt old.service (transaction_in walk.sessions p.session) one
  goes_before = subst (GoesAt old.service (transaction_in walk.sessions p.session)) (sym found) (walks.sessions p.session)

  -- the transaction with the call
  pub goes_after : GoesAt old.service (with_call walk p meant) noted
  goes_after =
      subst (GoesAt old.service (with_call walk p meant)) (sym is_noted)
      (goes_grown old.service walk.committed (transaction_in walk.sessions p.session) p meant one ran walks.beside.committed goes_before here.gone since)

  deed_is : deed base walk (Some p) ≡ Ran p meant
  deed_is = ap (with_meaning p) (meaning_is base walk old.service p.session one p.called p.draws walks.beside goes_before.goes ∙ here.means)

  abbrev pub is_right : Bool
  is_right = answers_hold walk p meant && (is_free walk p && stores walk p meant)

  holds_is : deed_holds base walk (deed base walk (Some p)) ≡ (is_right && draws_hold base walk p)
  holds_is =
      ap (deed_holds base walk) deed_is
      ∙ ap (λ b. b && (answers_hold walk p meant && (is_free walk p && (stores walk p meant && draws_hold base walk p)))) here.used
      ∙ four_apart (answers_hold walk p meant) (is_free walk p) (stores walk p meant) (draws_hold base walk p)

  -- it is not right
  pub serves_wrong : (new : Walker) → false ≡ is_right → (false ≡ deed_holds base walk (deed base walk (Some p))) × (IsTrue false → Walks base (after_deed base walk (deed base walk (Some p))) new)
  serves_wrong new wrong = (sym (holds_is ∙ ap (λ b. b && draws_hold base walk p) (sym wrong)), λ is. absurd (false≢true is))

  module _ (right : true ≡ is_right) where
    -- its draws are not
    pub serves_undrawn : (new : Walker) → false ≡ draws_hold base walk p → (false ≡ deed_holds base walk (deed base walk (Some p))) × (IsTrue false → Walks base (after_deed base walk (deed base walk (Some p))) new)
    serves_undrawn new undrawn = (sym (holds_is ∙ (ap (λ b. b && draws_hold base walk p) (sym right) ∙ sym undrawn)), λ is. absurd (false≢true is))

    module _ (drawn : true ≡ draws_hold base walk p) (taken put : List ((ℕ × ℕ) × Ongoing)) (after settled : Service) (closed : Ongoing)
        (others : (other : SessionId) → same_session p.session other ≡ false → ongoing_in taken other ≡ ongoing_in old.sessions other)
        (moved : Beside base (with_numbers base walk p) after) (same : after.tables ≡ tables) (changes : after.changes ≡ old.service.changes)
        (settles : Moves after (λ w. if_commits (ends_committed p.answers) w noted.going.writes) settled) (is_closed : closed ≡ ended_if (ends p.answers) noted)
        (is_put : (other : SessionId) → ongoing_in put other ≡ cond (same_session p.session other) closed (ongoing_in taken other)) where
      -- a transaction goes on beside what comes of the call
      goes_on : (transaction : Transaction) (going : Ongoing) → GoesAt old.service transaction going → GoesAt settled transaction going
      goes_on transaction going at =
          goes_later after settled transaction going settles.schemas settles.on
          (goes_later old.service after transaction going (ap (λ (t : Stored). t.schemas) same) (moves_none old.service after changes (ap (λ (t : Stored). t.rows) same)) at)

      abbrev ended : Transaction
      ended = if_ended (ends p.answers) (with_call walk p meant)

      all_after : AllGo settled (with_transaction walk.sessions p.session ended) put
      all_after =
          all_go settled walk.sessions p.session ended taken put closed
          (λ other apart. subst (GoesAt settled (transaction_in walk.sessions other)) (sym (others other apart)) (goes_on (transaction_in walk.sessions other) (ongoing_in old.sessions other) (walks.sessions other)))
          (subst (GoesAt settled ended) (sym is_closed) (goes_on ended (ended_if (ends p.answers) noted) (goes_ended old.service (with_call walk p meant) noted (ends p.answers) goes_after)))
          is_put

      beside_after : Beside base (if_commits (ends_committed p.answers) (with_numbers base walk p) (with_call walk p meant).writes) settled
      beside_after =
          subst (λ (writes : List Write). Beside base (if_commits (ends_committed p.answers) (with_numbers base walk p) writes) settled) goes_after.goes.writes (settles.beside base (with_numbers base walk p) moved)

      -- it is served
      pub serves : (true ≡ deed_holds base walk (deed base walk (Some p))) × (IsTrue true → Walks base (after_deed base walk (deed base walk (Some p))) (record old { service = settled; sessions = put }))
      serves = (
        sym (holds_is ∙ (ap (λ b. b && draws_hold base walk p) (sym right) ∙ sym drawn)),
        λ is.
            let stored = if_commits (ends_committed p.answers) (with_numbers base walk p) (with_call walk p meant).writes in
            let sessions = with_transaction walk.sessions p.session (if_ended (ends p.answers) (with_call walk p meant)) in
            subst (λ (d : Deed). Walks base (after_deed base walk d) (record old { service = settled; sessions = put })) (sym deed_is)
            (record { beside = beside_sessions base stored settled sessions beside_after; sessions = all_after }),
      )
