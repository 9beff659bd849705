-- The accounts of a load, as plain rows, and what transfers keep of them.
use Rattle.std.specs.Prelude.{◌≡◌, ◌<◌, ℕ, suc, ℤ, pos, ◌+ℤ◌, List, [], ◌∷◌, Some, length, codes}
use Rattle.svc_values.specs.declared.value.Kind.TheVariants as kind
use Rattle.svc_values.specs.declared.value.Value.TheVariants as value
use Rattle.svc_values.specs.declared.call.Call.{Call}
use Rattle.svc_values.specs.declared.draw.Draw.{Draw}
use Rattle.svc_values.specs.declared.entry.Entry.{Entry}
use Rattle.svc_values.specs.declared.entry.Piece.{Piece}
use Rattle.svc_values.specs.declared.schema.Shape.{Shape}
use Rattle.svc_values.specs.declared.tables.PlainRow.{PlainRow}
use Rattle.svc_values.specs.meaning.SettingsList.{NamedValues}
use Rattle.stmt_meaning.specs.meaning.Meaning.{Meant, mean}
use Rattle.stmt_meaning.specs.meaning.Serial.{Serial}
use Rattle.load_document.specs.meaning.Loads.{commit, look, pay}

-- the account of a key with a balance
abbrev pub account_at : ℕ → ℤ → PlainRow
account_at key balance = record {
  table = codes "acc";
  key = value.Int (pos key);
  row = value.Int (pos key) ∷ value.Int balance ∷ [];
}

-- the accounts of the keys from this one on, with these balances
abbrev pub accounts_with : ℕ → List ℤ → List PlainRow
accounts_with key [] = []
accounts_with key (balance ∷ balances) = account_at key balance ∷ accounts_with (suc key) balances

abbrev pub sum_of : List ℤ → ℤ
sum_of [] = pos 0
sum_of (balance ∷ balances) = balance +ℤ sum_of balances

-- Sixteen accounts, of the keys 0 to 15 in order, and nothing else; with this total.
pub record AreAccounts (total : ℤ) (tables : List PlainRow) : Type 0 where
  pub balances : List ℤ
  pub rows : tables ≡ accounts_with 0 balances
  pub sixteen : length balances ≡ 16
  pub sum : sum_of balances ≡ total

-- the one table with its two columns, and no sequence
abbrev pub account_shape : Shape
account_shape = record {
  schemas = record {
    name = codes "acc";
    columns = record { name = codes "id"; kind = kind.Int } ∷ record {
      name = codes "bal";
      kind =
          kind.Int;
    } ∷ [];
  } ∷ [];
  sequences = [];
}

-- one of the calls of a transfer between two of the sixteen accounts
pub data IsTransferCall : Call → Type 0 where
  IsLook : (a : ℕ) → a < 16 → IsTransferCall (look a)
  IsMove : (a b : ℕ) → a < 16 → b < 16 → IsTransferCall (pay a b)
  IsCommit : IsTransferCall commit

-- such a call leaves accounts with the total that they had
abbrev pub TransfersKeepAccounts : Type 0
TransfersKeepAccounts =
    (asked : Call) (total : ℤ) (tables : List PlainRow) (settings : NamedValues) (draws : List Draw)
    (meant : Meant)
    → IsTransferCall asked → AreAccounts total tables
    → mean account_shape tables settings asked draws ≡ Some meant
    → AreAccounts total meant.tables

abbrev pub AreTransferCalls : List Call → Type 0
AreTransferCalls [] = Unit {0}
AreTransferCalls (call ∷ calls) = IsTransferCall call × AreTransferCalls calls

abbrev pub AreTransferPieces : List Piece → Type 0
AreTransferPieces [] = Unit {0}
AreTransferPieces (piece ∷ pieces) = IsTransferCall piece.call × AreTransferPieces pieces

-- each piece of each entry is such a call
abbrev pub AreTransferEntries : List Entry → Type 0
AreTransferEntries [] = Unit {0}
AreTransferEntries (entry ∷ entries) = AreTransferPieces entry.pieces × AreTransferEntries entries

-- and so does a serial run of entries of such calls
abbrev pub SerialRunsKeepAccounts : Type 0
SerialRunsKeepAccounts =
    (total : ℤ) (before : List PlainRow) (entries : List Entry) (after : List PlainRow)
    → AreTransferEntries entries → AreAccounts total before
    → Serial account_shape before entries after → AreAccounts total after
