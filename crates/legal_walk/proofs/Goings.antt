-- The transactions of sessions, one of which changes.
use Rattle.std.proofs.Common.{◌≡◌, ℕ, Bool, true, false, cond, List, [], ◌∷◌, ◌++◌, refl, sym, ap, ◌∙◌, subst}
use Rattle.std.specs.Prelude.{Option}
use Rattle.svc_values.specs.declared.entry.Piece.{Piece}
use Rattle.svc_values.specs.declared.entry.SessionId.{SessionId}
use Rattle.svc_values.specs.declared.entry.Write.{Write}
use Rattle.svc_values.specs.declared.tables.PlainRow.{PlainRow}
use Rattle.svc_values.specs.meaning.Identifiers.{same_session}
use Rattle.svc_values.specs.meaning.SettingsList.{NamedValues}
use Rattle.svc_values.specs.SameLaws.{same_session_decides}
use Rattle.stmt_meaning.specs.meaning.Meaning.{Meant}
use Rattle.stmt_meaning.specs.meaning.Reads.{reads_at}
use Rattle.table_txn.specs.Readings.{AreReadings}
use Rattle.server_model.specs.meaning.Walk.{Performed, Transaction, begun, grown, if_ended, transaction_in, with_transaction}
use Rattle.calls_again.specs.OnWay.{HasGone}
use Rattle.legal_walk.specs.declared.ongoing.Ongoing.{Ongoing}
use Rattle.legal_walk.specs.declared.service.Service.{Service}
use Rattle.table_txn.specs.Changes.{begun_at}
use Rattle.table_txn.proofs.Offered.{holds_then}
use Rattle.legal_walk.specs.Holds.{HoldsSince}
use Rattle.legal_walk.specs.Going.{AllGo, GoesAt, begins_with, ongoing_in, with_piece}
use Rattle.legal_walk.specs.Judging.{ended_if}
use Rattle.legal_walk.proofs.Keyed.{same_is}

-- ---- one transaction

no_reads : AreReadings [] []
no_reads at = tt

-- it begins
pub goes_begun : (service : Service) (transaction : Transaction) (settings : NamedValues) → settings ≡ transaction.settings → GoesAt service (begun transaction.settings) (begins_with settings)
goes_begun service transaction settings is = record {
  goes = record { settings = is; at_start = is; pieces = refl; writes = refl; reads = no_reads; fits = refl };
  holds = refl;
}

-- it goes on by one call
pub goes_grown : (service : Service) (committed : List PlainRow) (transaction : Transaction) (p : Performed) (meant : Meant) (old ran : Ongoing) → committed ≡ service.tables.rows → GoesAt service transaction old
    → HasGone service.tables old.going meant ran.going → ran.since ≡ begun_at old.since service.changes.commits → GoesAt service (grown committed transaction p meant) (with_piece ran (record { call = p.called; answers = p.answers; draws = p.draws }))
goes_grown service committed transaction p meant old ran stands at gone since = record {
  goes = record {
    settings = gone.settings;
    at_start = gone.at_start ∙ at.goes.at_start;
    pieces = ap (λ (l : List Piece). l ++ record { call = p.called; answers = p.answers; draws = p.draws } ∷ []) (gone.pieces ∙ at.goes.pieces);
    writes = gone.wrote ∙ ap (λ (l : List Write). l ++ meant.writes) at.goes.writes;
    reads = subst (λ (rows : List PlainRow). AreReadings ran.going.readings (transaction.reads ++ reads_at rows meant.reads)) (sym stands) (gone.was_read transaction.reads at.goes.reads);
    fits = gone.fits;
  };
  holds = subst (λ (s : Option ℕ). HoldsSince service s ran.going.readings) (sym since) (holds_then service.changes service.tables.rows old.since old.going.readings ran.going.readings at.holds gone.unchanged);
}

-- and may end
pub goes_ended : (service : Service) (transaction : Transaction) (one : Ongoing) (ends : Bool) → GoesAt service transaction one → GoesAt service (if_ended ends transaction) (ended_if ends one)
goes_ended service transaction one true at = goes_begun service transaction one.going.settings at.goes.settings
goes_ended service transaction one false at = at

-- ---- all of them

same_self : (a : SessionId) → same_session a a ≡ true
same_self a = (same_session_decides a a).1 refl

found_here : (b : Bool) (here : Transaction) (there : Transaction) → b ≡ true → cond b here there ≡ here
found_here b here there is = ap (λ t. cond t here there) is

pub transaction_in-same : (sessions : List (SessionId × Transaction)) (session : SessionId) (transaction : Transaction) → transaction_in (with_transaction sessions session transaction) session ≡ transaction
transaction_in-same [] session transaction = found_here (same_session session session) transaction (begun []) (same_self session)
transaction_in-same (first ∷ rest) session transaction = by (transaction_in-same rest session transaction) (same_session first.0 session) refl
  where
    by : transaction_in (with_transaction rest session transaction) session ≡ transaction → (b : Bool) → same_session first.0 session ≡ b
        → transaction_in (cond b ((session, transaction) ∷ rest) (first ∷ with_transaction rest session transaction)) session ≡ transaction
    by on true is = found_here (same_session session session) transaction (transaction_in rest session) (same_self session)
    by on false is = ap (λ t. cond t first.1 (transaction_in (with_transaction rest session transaction) session)) is ∙ on

pub transaction_in-other : (sessions : List (SessionId × Transaction)) (session other : SessionId) (transaction : Transaction) → same_session session other ≡ false
    → transaction_in (with_transaction sessions session transaction) other ≡ transaction_in sessions other
transaction_in-other [] session other transaction apart = ap (λ t. cond t transaction (begun [])) apart
transaction_in-other (first ∷ rest) session other transaction apart = by (transaction_in-other rest session other transaction apart) (same_session first.0 session) refl
  where
    by : transaction_in (with_transaction rest session transaction) other ≡ transaction_in rest other → (b : Bool) → same_session first.0 session ≡ b
        → transaction_in (cond b ((session, transaction) ∷ rest) (first ∷ with_transaction rest session transaction)) other ≡ transaction_in (first ∷ rest) other
    by on true is =
        ap (λ t. cond t transaction (transaction_in rest other)) apart
        ∙ sym (ap (λ (s : SessionId). cond (same_session s other) first.1 (transaction_in rest other)) (same_is first.0 session is) ∙ ap (λ t. cond t first.1 (transaction_in rest other)) apart)
    by on false is = ap (cond (same_session first.0 other) first.1) on

-- one session has another transaction
pub all_go : (service : Service) (sessions : List (SessionId × Transaction)) (session : SessionId) (transaction : Transaction) (old new : List ((ℕ × ℕ) × Ongoing)) (one : Ongoing)
    → ((other : SessionId) → same_session session other ≡ false → GoesAt service (transaction_in sessions other) (ongoing_in old other)) → GoesAt service transaction one
    → ((other : SessionId) → ongoing_in new other ≡ cond (same_session session other) one (ongoing_in old other)) → AllGo service (with_transaction sessions session transaction) new
all_go service sessions session transaction old new one others goes put other = by (same_session session other) refl
  where
    by : (b : Bool) → same_session session other ≡ b → GoesAt service (transaction_in (with_transaction sessions session transaction) other) (ongoing_in new other)
    by true is =
        let here : ongoing_in new other ≡ one = put other ∙ ap (λ t. cond t one (ongoing_in old other)) is in
        let there : transaction_in (with_transaction sessions session transaction) other ≡ transaction =
        ap (transaction_in (with_transaction sessions session transaction)) (sym (same_is session other is)) ∙ transaction_in-same sessions session transaction in
        subst (λ (t : Transaction). GoesAt service t (ongoing_in new other)) (sym there) (subst (GoesAt service transaction) (sym here) goes)
    by false is =
        let here : ongoing_in new other ≡ ongoing_in old other = put other ∙ ap (λ t. cond t one (ongoing_in old other)) is in
        let there : transaction_in (with_transaction sessions session transaction) other ≡ transaction_in sessions other = transaction_in-other sessions session other transaction is in
        subst (λ (t : Transaction). GoesAt service t (ongoing_in new other)) (sym there) (subst (GoesAt service (transaction_in sessions other)) (sym here) (others other is))
