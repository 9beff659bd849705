-- Steps that touch no store, by what they make of the session.
use Rattle.std.proofs.Common.{◌≡◌, ◌++◌, ◌∷◌, [], ℕ, Bool, List, refl}
use Rattle.std.specs.Prelude.{IsTrue}
use Rattle.std.specs.List.{AllByRecursion}
use Rattle.svc_values.specs.declared.answer.Answer.TheVariants as answer
use Rattle.svc_values.specs.declared.call.Call.TheVariants as call
use Rattle.svc_values.specs.declared.draw.Draw.{Draw}
use Rattle.svc_values.specs.declared.entry.Piece.{Piece}
use Rattle.svc_values.specs.declared.frame.Up.{Up}
use Rattle.svc_values.specs.declared.frame.Up.TheVariants as up
use Rattle.svc_values.specs.declared.frame.Down.TheVariants as down
use Rattle.svc_values.specs.declared.value.Value.{Value}
use Rattle.svc_values.specs.Calls.{IsMade}
use Rattle.svc_values.specs.meaning.SettingsList.{NamedValues, put_setting}
use Rattle.canon_bytes.specs.Entries.{IsMadePiece}
use Rattle.table_txn.specs.Readings.{AreReadings}
use Rattle.table_txn.specs.Transactions.{empty}
use Rattle.server_model.specs.meaning.Outcomes.{Silent, Says}
use Rattle.server_model.specs.Sessions.{New, Idle, Begun, piece_of}
use Rattle.server_model.specs.Serve.{IsSet, AlterMarked, IsDisable, IsRollback, Connects, Begins, Ends, Closes, Refuses, is_out_of_order, is_serving}
use Rattle.server_session.specs.SeenSession.{SeenSession, begun_so, ended_so}
use Rattle.server_session.specs.Serving.{Quietly, served_as, called_as}

-- an empty transaction has read nothing
pub no_reads : AreReadings empty.readings []
no_reads = λ at. tt

-- one call more, which is made
pub made_more : (pieces : List Piece) (piece : Piece) → AllByRecursion IsMadePiece pieces → IsMade piece.call → AllByRecursion IsMadePiece (pieces ++ piece ∷ [])
made_more [] piece made here = (here, tt)
made_more (first ∷ pieces) piece made here = (made.0, made_more pieces piece made.1 here)

pub connects : (seen : SeenSession) (now : ℕ) → seen.life ≡ New → Quietly (served_as up.Connect now) (Says (down.Hello seen.ltxid)) seen (record seen { life = Idle })
connects seen now is = record { steps = λ plain reads noted. record { reads = reads; noted = noted; steps = Connects is }; ltxid = refl; fitting = λ schemas fits. fits; made = λ made. made; holds = λ core holds. holds }

pub begins : (seen : SeenSession) (now : ℕ) (settings : NamedValues) → IsTrue (is_serving seen.life) → Quietly (served_as (up.Begin settings) now) Silent seen (begun_so seen Begun settings)
begins seen now settings serving = record { steps = λ plain reads noted. record { reads = []; noted = no_reads; steps = Begins settings serving }; ltxid = refl; fitting = λ schemas fits. refl; made = λ made. tt; holds = λ core holds. refl }

pub ends : (seen : SeenSession) (now : ℕ) → IsTrue (is_serving seen.life) → Quietly (served_as up.End now) Silent seen (begun_so seen Idle [])
ends seen now serving = record { steps = λ plain reads noted. record { reads = []; noted = no_reads; steps = Ends serving }; ltxid = refl; fitting = λ schemas fits. refl; made = λ made. tt; holds = λ core holds. refl }

pub closes : (seen : SeenSession) (now : ℕ) → IsTrue (is_serving seen.life) → Quietly (served_as up.Close now) Silent seen (ended_so seen)
closes seen now serving = record { steps = λ plain reads noted. record { reads = []; noted = no_reads; steps = Closes serving }; ltxid = refl; fitting = λ schemas fits. refl; made = λ made. tt; holds = λ core holds. refl }

pub refuses : (seen : SeenSession) (now : ℕ) (frame : Up) → IsTrue (is_out_of_order seen.life frame) → Quietly (served_as frame now) (Says (down.Refused 2)) seen (ended_so seen)
refuses seen now frame out = record { steps = λ plain reads noted. record { reads = []; noted = no_reads; steps = Refuses frame out }; ltxid = refl; fitting = λ schemas fits. refl; made = λ made. tt; holds = λ core holds. refl }

-- ---- calls

-- the session with a piece more
abbrev pub noting : SeenSession → Piece → SeenSession
noting seen piece = record seen { txn = record seen.txn { pieces = seen.txn.pieces ++ piece ∷ [] } }

pub sets : (seen : SeenSession) (replay : Bool) (kept : List Draw) (now : ℕ) (name : List ℕ) (value : Value)
    → Quietly (called_as replay kept (call.Set name value) now) (Says (down.Reply (answer.Done 1 ∷ []) [] seen.ltxid)) seen
    (record (noting seen (piece_of (call.Set name value) (answer.Done 1 ∷ []) [])) { settings = put_setting seen.settings name value })
sets seen replay kept now name value = record {
  steps = λ plain reads noted. record { reads = reads; noted = noted; steps = IsSet name value };
  ltxid = refl;
  fitting = λ schemas fits. fits;
  made = λ made. made_more seen.txn.pieces _ made refl;
  holds = λ core holds. holds;
}

pub disables : (seen : SeenSession) (replay : Bool) (kept : List Draw) (now : ℕ)
    → Quietly (called_as replay kept call.Disable now) (Says (down.Reply (answer.Done 0 ∷ []) [] seen.ltxid)) seen (noting seen (piece_of call.Disable (answer.Done 0 ∷ []) []))
disables seen replay kept now = record {
  steps = λ plain reads noted. record { reads = reads; noted = noted; steps = IsDisable };
  ltxid = refl;
  fitting = λ schemas fits. fits;
  made = λ made. made_more seen.txn.pieces _ made refl;
  holds = λ core holds. holds;
}

pub rolls_back : (seen : SeenSession) (replay : Bool) (kept : List Draw) (now : ℕ)
    → Quietly (called_as replay kept call.Rollback now) (Says (down.Reply (answer.RolledBack ∷ []) [] seen.ltxid)) seen (begun_so seen seen.life seen.settings)
rolls_back seen replay kept now = record { steps = λ plain reads noted. record { reads = []; noted = no_reads; steps = IsRollback }; ltxid = refl; fitting = λ schemas fits. refl; made = λ made. tt; holds = λ core holds. refl }

pub refuses_alter : (seen : SeenSession) (replay : Bool) (kept : List Draw) (now : ℕ) (line : List ℕ) → IsTrue replay
    → Quietly (called_as replay kept (call.Alter line) now) (Says (down.Refused 2)) seen (ended_so seen)
refuses_alter seen replay kept now line marked = record { steps = λ plain reads noted. record { reads = []; noted = no_reads; steps = AlterMarked line marked }; ltxid = refl; fitting = λ schemas fits. refl; made = λ made. tt; holds = λ core holds. refl }
