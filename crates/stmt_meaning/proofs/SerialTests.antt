-- The test of a serial run is exact.
use Rattle.std.proofs.Common.{◌≡◌, Bool, true, false, not, List, [], ◌∷◌, refl, sym, ap, ◌∙◌, subst}
use Rattle.std.specs.Prelude.{Option, Some, None, ◌&&◌}
use Rattle.svc_values.specs.declared.schema.Shape.{Shape}
use Rattle.svc_values.specs.declared.draw.Draw.{Draw}
use Rattle.svc_values.specs.declared.entry.Piece.{Piece}
use Rattle.svc_values.specs.declared.entry.Entry.{Entry}
use Rattle.svc_values.specs.meaning.Endings.{ends_committed}
use Rattle.svc_values.specs.SameLaws.{same_answers_decide}
use Rattle.svc_values.specs.declared.tables.PlainRow.{PlainRow}
use Rattle.stmt_meaning.specs.meaning.Meaning.{Meant, mean}
use Rattle.stmt_meaning.specs.meaning.Serial.{Replays, Transaction, Serial}
use Rattle.svc_values.specs.meaning.Same.{same_answers}
use Rattle.stmt_meaning.specs.meaning.SerialTest.{is_nil, if_replayed, replayed, if_commits, transaction_after, and_then, serial_after}
use Rattle.svc_values.specs.meaning.SettingsList.{NamedValues}

nil_is : (draws : List Draw) → is_nil draws ≡ true → draws ≡ []
nil_is [] h = refl
nil_is (draw ∷ draws) h = cc

-- ---- pieces

both : (a b : Bool) → a && b ≡ true → (a ≡ true) × (b ≡ true)
both true b h = (refl, h)
both false b h = cc

test_passed : (piece : Piece) (m meant : Meant) (b : Bool) → is_nil m.rest && same_answers m.answers piece.answers ≡ b → if_replayed piece (Some m) ≡ Some meant → (b ≡ true) × (m ≡ meant)
test_passed piece m meant true e is = let is' : Some m ≡ Some meant = rw e at is in (refl, cc)
test_passed piece m meant false e is = let is' : None ≡ Some meant = rw e at is in cc

module _ (shape : Shape) where
  replayed_is : (tables : List PlainRow) (settings : NamedValues) (piece : Piece) (meant : Meant) (means : Option Meant) → mean shape tables settings piece.call piece.draws ≡ means → if_replayed piece means ≡ Some meant → Replays shape tables settings piece meant
  replayed_is tables settings piece meant None run is = cc
  replayed_is tables settings piece meant (Some m) run is =
      let p = test_passed piece m meant (is_nil m.rest && same_answers m.answers piece.answers) refl is in
      let parts = both (is_nil m.rest) (same_answers m.answers piece.answers) p.0 in
      let mine : Replays shape tables settings piece m = record { run = run; draws = nil_is m.rest parts.0; answers = (same_answers_decide m.answers piece.answers).0 parts.1 } in
      subst (Replays shape tables settings piece) p.1 mine

  Replays-replayed : (tables : List PlainRow) (settings : NamedValues) (piece : Piece) (meant : Meant) → replayed shape tables settings piece ≡ Some meant → Replays shape tables settings piece meant
  Replays-replayed tables settings piece meant is = replayed_is tables settings piece meant (mean shape tables settings piece.call piece.draws) refl is

  replayed-Replays : (tables : List PlainRow) (settings : NamedValues) (piece : Piece) (meant : Meant) → Replays shape tables settings piece meant → replayed shape tables settings piece ≡ Some meant
  replayed-Replays tables settings piece meant replays =
      let same : same_answers meant.answers piece.answers ≡ true = (same_answers_decide meant.answers piece.answers).1 replays.answers in
      let none : is_nil meant.rest ≡ true = ap is_nil replays.draws in
      ap (if_replayed piece) replays.run ∙ rw (none, same) refl

  -- ---- transactions

  commits_with : (commits : Bool) (means : Option Meant) (next : Meant → Option (List PlainRow)) (after : List PlainRow) → if_commits commits means next ≡ Some after → (meant : Meant) × ((means ≡ Some meant) × ((commits ≡ true) × (next meant ≡ Some after)))
  commits_with commits None next after is = cc
  commits_with true (Some meant) next after is = (meant, (refl, (refl, is)))
  commits_with false (Some meant) next after is = cc

  not_true : (b : Bool) → not b ≡ true → b ≡ false
  not_true true h = cc
  not_true false h = refl

  pub Transaction-after : (before : List PlainRow) (settings : NamedValues) (pieces : List Piece) (after : List PlainRow) → transaction_after shape before settings pieces ≡ Some after → Transaction shape before settings pieces after
  Transaction-after before settings [] after is = cc
  Transaction-after before settings (piece ∷ []) after is =
      let p = commits_with (ends_committed piece.answers) (replayed shape before settings piece) (λ meant. Some meant.tables) after is in
      let last : Some after ≡ Some p.0.tables = sym p.1.1.1 in
      let same : after ≡ p.0.tables = cc in
      (p.0, (Replays-replayed before settings piece p.0 p.1.0, (p.1.1.0, same)))
  Transaction-after before settings (piece ∷ next ∷ more) after is =
      let p = commits_with (not (ends_committed piece.answers)) (replayed shape before settings piece) (λ meant. transaction_after shape meant.tables meant.settings (next ∷ more)) after is in
      (p.0, (Replays-replayed before settings piece p.0 p.1.0, (not_true (ends_committed piece.answers) p.1.1.0, Transaction-after p.0.tables p.0.settings (next ∷ more) after p.1.1.1)))

  pub transaction_after-is : (before : List PlainRow) (settings : NamedValues) (pieces : List Piece) (after : List PlainRow) → Transaction shape before settings pieces after → transaction_after shape before settings pieces ≡ Some after
  transaction_after-is before settings [] after t = absurd t
  transaction_after-is before settings (piece ∷ []) after (meant, (replays, (commits, is))) =
      ap (λ m. if_commits (ends_committed piece.answers) m (λ meant. Some meant.tables)) (replayed-Replays before settings piece meant replays) ∙ ap (λ b. if_commits b (Some meant) (λ meant. Some meant.tables)) commits ∙ ap (λ t. Some t) (sym is)
  transaction_after-is before settings (piece ∷ next ∷ more) after (meant, (replays, (goes_on, rest))) =
      ap (λ m. if_commits (not (ends_committed piece.answers)) m (λ meant. transaction_after shape meant.tables meant.settings (next ∷ more))) (replayed-Replays before settings piece meant replays)
      ∙ ap (λ b. if_commits (not b) (Some meant) (λ meant. transaction_after shape meant.tables meant.settings (next ∷ more))) goes_on ∙ transaction_after-is meant.tables meant.settings (next ∷ more) after rest

  -- ---- entries

  serial_with : (start : List PlainRow) (entry : Entry) (entries : List Entry) (after : List PlainRow) → ((between : List PlainRow) → serial_after shape between entries ≡ Some after → Serial shape between entries after) → (between : Option (List PlainRow)) → transaction_after shape start entry.settings entry.pieces ≡ between
      → and_then between (λ between. serial_after shape between entries) ≡ Some after → Serial shape start (entry ∷ entries) after
  serial_with start entry entries after ih None t is = cc
  serial_with start entry entries after ih (Some between) t is = (between, (Transaction-after start entry.settings entry.pieces between t, ih between is))

  pub Serial-after : (start : List PlainRow) (entries : List Entry) (after : List PlainRow) → serial_after shape start entries ≡ Some after → Serial shape start entries after
  Serial-after start [] after is = cc
  Serial-after start (entry ∷ entries) after is = serial_with start entry entries after (λ between. Serial-after between entries after) (transaction_after shape start entry.settings entry.pieces) refl is

  pub serial_after-is : (start : List PlainRow) (entries : List Entry) (after : List PlainRow) → Serial shape start entries after → serial_after shape start entries ≡ Some after
  serial_after-is start [] after is = ap (λ t. Some t) (sym is)
  serial_after-is start (entry ∷ entries) after (between, (t, rest)) =
      ap (λ o. and_then o (λ between. serial_after shape between entries)) (transaction_after-is start entry.settings entry.pieces between t) ∙ serial_after-is between entries after rest
