-- A piece that was run again, and whether it stands as it is.
use Rattle.std.proofs.Common.{◌≡◌, ℕ, Bool, true, false, ◌&&◌, cond, List, refl, sym, ap, ◌∙◌}
use Rattle.std.specs.Prelude.{Option, Some, None}
use Rattle.svc_values.specs.declared.answer.Answer.{Answer}
use Rattle.svc_values.specs.declared.entry.Piece.{Piece}
use Rattle.svc_values.specs.declared.entry.Write.{Write}
use Rattle.svc_values.specs.meaning.Same.{same_answers}
use Rattle.svc_values.specs.meaning.Tables.{with_writes}
use Rattle.svc_values.proofs.Offered.{with_writes-append}
use Rattle.stmt_meaning.specs.meaning.Meaning.{Meant, mean}
use Rattle.stmt_meaning.specs.meaning.SerialTest.{is_nil, if_replayed}
use Rattle.stmt_meaning.proofs.Offered.{mean-tables}
use Rattle.table_store.specs.Stored.{Stored}
use Rattle.table_txn.specs.Transactions.{shape_of}
use Rattle.calls_again.specs.OnWay.{OnWay, GoesBy, HasGone, if_used}
use Rattle.serial_check.specs.Replaying.{HasReplayed}

module _ (tables : Stored) (names : List (List ℕ)) (old new : OnWay) (piece : Piece) where
  abbrev pub means : Option Meant
  means = mean (shape_of tables names) (with_writes tables.rows old.writes) old.settings piece.call piece.draws

  abbrev Stands : Option Meant → Bool → Type 0
  Stands m replays = HasReplayed tables.rows new.writes new.settings (if_replayed piece m) replays

  -- the tables that it leaves
  leaves : (meant : Meant) → means ≡ Some meant → HasGone tables old meant new → meant.tables ≡ with_writes tables.rows new.writes
  leaves meant is gone =
      mean-tables (shape_of tables names) (with_writes tables.rows old.writes) old.settings piece.call piece.draws meant is
      ∙ (sym (with_writes-append tables.rows old.writes meant.writes) ∙ ap (λ (l : List Write). with_writes tables.rows l) (sym gone.wrote))

  -- by whether its answers are those
  by_answers : (meant : Meant) (same replays : Bool) → meant.tables ≡ with_writes tables.rows new.writes → meant.settings ≡ new.settings → replays ≡ same → HasReplayed tables.rows new.writes new.settings (cond same (Some meant) None) replays
  by_answers meant true replays left kept told = (told, (left, kept))
  by_answers meant false replays left kept told = told

  by_draws : (meant : Meant) (answers : List Answer) (replays used : Bool) → is_nil meant.rest ≡ used → means ≡ Some meant → GoesBy tables old (cond used (Some meant) None) (Some answers) new → replays ≡ same_answers answers piece.answers
      → Stands (Some meant) replays
  by_draws meant answers replays false is means_so goes told = absurd goes
  by_draws meant answers replays true is means_so goes told =
      let same : replays ≡ (is_nil meant.rest && same_answers meant.answers piece.answers) =
      told ∙ ap (λ (l : List Answer). same_answers l piece.answers) goes.0 ∙ ap (λ b. b && same_answers meant.answers piece.answers) (sym is) in
      by_answers meant (is_nil meant.rest && same_answers meant.answers piece.answers) replays (leaves meant means_so goes.1) (sym goes.1.settings) same

  by_meaning : (m : Option Meant) (answers : List Answer) (replays : Bool) → means ≡ m → GoesBy tables old (if_used m) (Some answers) new → replays ≡ same_answers answers piece.answers → Stands m replays
  by_meaning None answers replays is goes told = absurd goes
  by_meaning (Some meant) answers replays is goes told = by_draws meant answers replays (is_nil meant.rest) refl is goes told

  -- it took its draws, and was answered so
  pub ran_again : (answers : List Answer) (replays : Bool) → GoesBy tables old (if_used means) (Some answers) new → replays ≡ same_answers answers piece.answers → Stands means replays
  ran_again answers replays goes told = by_meaning means answers replays refl goes told
