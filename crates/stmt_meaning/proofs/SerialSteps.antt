-- A serial run goes on by one entry, and leaves one list of tables.
use Rattle.std.proofs.Common.{◌≡◌, List, [], ◌∷◌, ◌++◌, refl, sym, ap, ◌∙◌, subst}
use Rattle.std.specs.Prelude.{Some}
use Rattle.svc_values.specs.declared.schema.Shape.{Shape}
use Rattle.svc_values.specs.declared.entry.Piece.{Piece}
use Rattle.svc_values.specs.declared.entry.Entry.{Entry}
use Rattle.svc_values.specs.declared.tables.PlainRow.{PlainRow}
use Rattle.stmt_meaning.specs.meaning.Meaning.{Meant}
use Rattle.stmt_meaning.specs.meaning.Serial.{Replays, Transaction, Serial}
use Rattle.stmt_meaning.specs.Serial.{RunWhole, CommitLast}
use Rattle.svc_values.specs.meaning.SettingsList.{NamedValues}

some_same : (a b : Meant) → Some a ≡ Some b → a ≡ b
some_same a b e = cc

-- a piece means one thing
pub Replays-once : (shape : Shape) (tables : List PlainRow) (settings : NamedValues) (piece : Piece) (m n : Meant) → Replays shape tables settings piece m → Replays shape tables settings piece n → m ≡ n
Replays-once shape tables settings piece m n a b = some_same m n (sym a.run ∙ b.run)

pub Transaction-once : (shape : Shape) (before : List PlainRow) (settings : NamedValues) (pieces : List Piece) (one other : List PlainRow) → Transaction shape before settings pieces one → Transaction shape before settings pieces other → one ≡ other
Transaction-once shape before settings [] one other a b = absurd a
Transaction-once shape before settings (piece ∷ []) one other (m, (r, (e, is))) (n, (s, (f, is'))) = is ∙ ap (λ (x : Meant). x.tables) (Replays-once shape before settings piece m n r s) ∙ sym is'
Transaction-once shape before settings (piece ∷ next ∷ more) one other (m, (r, (e, on))) (n, (s, (f, on'))) =
    let same : n ≡ m = Replays-once shape before settings piece n m s r in
    Transaction-once shape m.tables m.settings (next ∷ more) one other on (subst (λ (x : Meant). Transaction shape x.tables x.settings (next ∷ more) other) same on')

-- a serial run leaves one list of tables
pub Serial-once : (shape : Shape) (start : List PlainRow) (entries : List Entry) (one other : List PlainRow) → Serial shape start entries one → Serial shape start entries other → one ≡ other
Serial-once shape start [] one other a b = a ∙ sym b
Serial-once shape start (entry ∷ entries) one other (between, (t, on)) (between', (t', on')) =
    let same : between' ≡ between = Transaction-once shape start entry.settings entry.pieces between' between t' t in
    Serial-once shape between entries one other on (subst (λ (x : List PlainRow). Serial shape x entries other) same on')

-- a serial run goes on by one entry
pub Serial-next : (shape : Shape) (start : List PlainRow) (entries : List Entry) (between : List PlainRow) (entry : Entry) (after : List PlainRow) → Serial shape start entries between → Transaction shape between entry.settings entry.pieces after → Serial shape start (entries ++ entry ∷ []) after
Serial-next shape start [] between entry after run next = (after, (subst (λ (x : List PlainRow). Transaction shape x entry.settings entry.pieces after) run next, refl))
Serial-next shape start (first ∷ entries) between entry after (here, (t, on)) next = (here, (t, Serial-next shape here entries between entry after on next))

-- pieces that run whole are a transaction where the last one commits and no other
pub Transaction-whole : (shape : Shape) (before : List PlainRow) (settings : NamedValues) (pieces : List Piece) (settings_after : NamedValues) (after : List PlainRow) → RunWhole shape before settings pieces settings_after after → CommitLast pieces → Transaction shape before settings pieces after
Transaction-whole shape before settings [] settings_after after run last = absurd last
Transaction-whole shape before settings (piece ∷ []) settings_after after (m, (r, (s, is))) last = (m, (r, (last, is)))
Transaction-whole shape before settings (piece ∷ next ∷ more) settings_after after (m, (r, on)) last = (m, (r, (last.0, Transaction-whole shape m.tables m.settings (next ∷ more) settings_after after on last.1)))
