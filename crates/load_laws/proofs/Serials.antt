-- A serial run of transfers keeps the accounts.
use Rattle.std.proofs.Common.{List, [], ◌∷◌, sym, subst}
use Rattle.std.specs.Prelude.{ℤ}
use Rattle.svc_values.specs.declared.entry.Entry.{Entry}
use Rattle.svc_values.specs.declared.entry.Piece.{Piece}
use Rattle.svc_values.specs.declared.tables.PlainRow.{PlainRow}
use Rattle.svc_values.specs.meaning.SettingsList.{NamedValues}
use Rattle.stmt_meaning.specs.meaning.Serial.{Serial, Transaction}
use Rattle.load_laws.specs.Accounts.{AreAccounts, AreTransferEntries, AreTransferPieces, SerialRunsKeepAccounts, TransfersKeepAccounts, account_shape}

module _ (call_keeps : TransfersKeepAccounts) (total : ℤ) where
  transaction_keeps : (before : List PlainRow) (settings : NamedValues) (pieces : List Piece) (after : List PlainRow)
      → AreTransferPieces pieces → AreAccounts total before → Transaction account_shape before settings pieces after → AreAccounts total after
  transaction_keeps before settings [] after calls are ran = absurd ran
  transaction_keeps before settings (piece ∷ []) after calls are ran =
      subst (AreAccounts total) (sym ran.1.1.1) (call_keeps piece.call total before settings piece.draws ran.0 calls.0 are ran.1.0.run)
  transaction_keeps before settings (piece ∷ next ∷ more) after calls are ran =
      transaction_keeps ran.0.tables ran.0.settings (next ∷ more) after calls.1 (call_keeps piece.call total before settings piece.draws ran.0 calls.0 are ran.1.0.run) ran.1.1.1

  serial_keeps : (before : List PlainRow) (entries : List Entry) (after : List PlainRow) → AreTransferEntries entries → AreAccounts total before → Serial account_shape before entries after → AreAccounts total after
  serial_keeps before [] after calls are ran = subst (AreAccounts total) (sym ran) are
  serial_keeps before (entry ∷ entries) after calls are ran =
      serial_keeps ran.0 entries after calls.1 (transaction_keeps before entry.settings entry.pieces ran.0 calls.0 are ran.1.0) ran.1.1

pub runs_keep : TransfersKeepAccounts → SerialRunsKeepAccounts
runs_keep call_keeps total before entries after calls are ran = serial_keeps call_keeps total before entries after calls are ran
