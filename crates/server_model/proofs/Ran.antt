-- A session's open transaction, as calls that ran each on what was committed at its moment.
use Rattle.std.specs.Prelude.{◌≡◌, true, false, List, [], ◌∷◌, ◌++◌}
use Rattle.std.proofs.Common.{refl, sym, ◌∙◌, ap, subst}
use Rattle.svc_values.specs.declared.schema.Shape.{Shape}
use Rattle.svc_values.specs.declared.entry.Piece.{Piece}
use Rattle.svc_values.specs.meaning.Endings.{ends_committed}
use Rattle.svc_values.specs.declared.tables.PlainRow.{PlainRow}
use Rattle.svc_values.specs.meaning.Tables.{with_writes}
use Rattle.svc_values.specs.Tables.{AreTables}
use Rattle.stmt_meaning.specs.meaning.Meaning.{Meant}
use Rattle.stmt_meaning.specs.meaning.Reads.{reads_at}
use Rattle.stmt_meaning.specs.meaning.Serial.{Replays}
use Rattle.stmt_meaning.specs.Serial.{CommitLast}
use Rattle.stmt_meaning.specs.Rerun.{CallAt, RanAt, AreOrdered, pieces_of, reads_of}
use Rattle.stmt_meaning.proofs.Offered.{RanAt-more, reads-more}
use Rattle.server_model.specs.Sessions.{Sess}

-- no call of the transaction commits
abbrev pub NoneCommits : List Piece → Type 0
NoneCommits [] = Unit {0}
NoneCommits (piece ∷ pieces) = (ends_committed piece.answers ≡ false) × NoneCommits pieces

pub record Ran (shape : Shape) (sess : Sess) : Type 0 where
  pub moments : List CallAt
  pub ordered : AreOrdered moments
  pub ran : RanAt shape sess.at_start [] moments sess.settings sess.writes
  pub pieces : pieces_of moments ≡ sess.pieces
  pub reads : reads_of shape sess.at_start [] moments ≡ sess.reads
  pub none : NoneCommits sess.pieces

-- ---- one call more

one_more : List CallAt → CallAt → List CallAt
one_more moments last = moments ++ last ∷ []

pub AreOrdered-more : (moments : List CallAt) (last : CallAt) → AreOrdered moments → AreTables last.committed → AreOrdered (moments ++ last ∷ [])
AreOrdered-more [] last ordered here = (here, tt)
AreOrdered-more (first ∷ moments) last ordered here = (ordered.0, AreOrdered-more moments last ordered.1 here)

pub pieces-more : (moments : List CallAt) (last : CallAt) → pieces_of (moments ++ last ∷ []) ≡ pieces_of moments ++ last.piece ∷ []
pieces-more [] last = refl
pieces-more (first ∷ moments) last = ap (λ pieces. first.piece ∷ pieces) (pieces-more moments last)

-- ---- a transaction with one call more

pub NoneCommits-more : (pieces : List Piece) (last : Piece) → NoneCommits pieces → ends_committed last.answers ≡ false → NoneCommits (pieces ++ last ∷ [])
NoneCommits-more [] last none not = (not, tt)
NoneCommits-more (piece ∷ pieces) last none not = (none.0, NoneCommits-more pieces last none.1 not)

pub CommitLast-more : (pieces : List Piece) (last : Piece) → NoneCommits pieces → ends_committed last.answers ≡ true → CommitLast (pieces ++ last ∷ [])
CommitLast-more [] last none commits = commits
CommitLast-more (piece ∷ []) last none commits = (none.0, commits)
CommitLast-more (piece ∷ next ∷ pieces) last none commits = (none.0, CommitLast-more (next ∷ pieces) last none.1 commits)

-- the session comes to be one with this call more, which does not commit
pub Ran-more : (shape : Shape) (sess t : Sess) (committed : List PlainRow) (piece : Piece) (meant : Meant) → Ran shape sess → AreTables committed
    → Replays shape (with_writes committed sess.writes) sess.settings piece meant → ends_committed piece.answers ≡ false
    → t.at_start ≡ sess.at_start → t.settings ≡ meant.settings → t.pieces ≡ sess.pieces ++ piece ∷ [] → t.writes ≡ sess.writes ++ meant.writes → t.reads ≡ sess.reads ++ reads_at committed meant.reads
    → Ran shape t
Ran-more shape sess t committed piece meant ran ordered replays open_ at_start settings pieces writes reads =
    let last : CallAt = record { committed = committed; piece = piece } in
    let ran_at = RanAt-more shape last meant ran.moments sess.at_start sess.settings [] sess.writes ran.ran replays in
    let read = reads-more shape last meant ran.moments sess.at_start sess.settings [] sess.writes ran.ran replays ∙ ap (λ r. r ++ reads_at committed meant.reads) ran.reads ∙ sym reads in
    record {
      moments = ran.moments ++ last ∷ [];
      ordered = AreOrdered-more ran.moments last ran.ordered ordered;
      ran = subst (λ s. RanAt shape s [] (ran.moments ++ last ∷ []) t.settings t.writes) (sym at_start) (subst (λ s. RanAt shape sess.at_start [] (ran.moments ++ last ∷ []) s t.writes) (sym settings) (subst (λ w. RanAt shape sess.at_start [] (ran.moments ++ last ∷ []) meant.settings w) (sym writes) ran_at));
      pieces = pieces-more ran.moments last ∙ ap (λ p. p ++ piece ∷ []) ran.pieces ∙ sym pieces;
      reads = subst (λ s. reads_of shape s [] (ran.moments ++ last ∷ []) ≡ t.reads) (sym at_start) read;
      none = subst NoneCommits (sym pieces) (NoneCommits-more sess.pieces piece ran.none open_);
    }

-- a session without a transaction
pub Ran-none : (shape : Shape) (sess : Sess) → sess.settings ≡ sess.at_start → sess.pieces ≡ [] → sess.writes ≡ [] → sess.reads ≡ [] → Ran shape sess
Ran-none shape sess settings pieces writes reads = record {
  moments = [];
  ordered = tt;
  ran = (settings, writes);
  pieces = sym pieces;
  reads = sym reads;
  none = subst NoneCommits (sym pieces) tt;
}
