-- A call that is a commit with no statement means Committed and asks for no draws. So each entry
-- that a run added and that such a call stored has these answers for it.
use Rattle.std.proofs.Common.{◌≡◌, refl, sym, ap, ◌∙◌, Bool, true, false, ℕ, List, [], ◌∷◌, Some, None}
use Rattle.std.specs.Prelude.{◌==◌, ◌&&◌, length, drop}
use Rattle.std.specs.List.{list_all, last_or}
use Rattle.std.specs.Option.{option_map_or}
use Rattle.std.proofs.Math.Seq.{drop-append_seam}
use Rattle.std.proofs.lemmas.Bool.{and_from}
use Rattle.svc_values.specs.declared.answer.Answer.TheVariants as answer
use Rattle.svc_values.specs.declared.call.Call.{Call}
use Rattle.svc_values.specs.declared.call.Call.TheVariants as call
use Rattle.svc_values.specs.declared.draw.Draw.{Draw}
use Rattle.svc_values.specs.declared.entry.Entry.{Entry}
use Rattle.svc_values.specs.declared.entry.Piece.{Piece}
use Rattle.svc_values.specs.declared.schema.Shape.{Shape}
use Rattle.svc_values.specs.declared.tables.PlainRow.{PlainRow}
use Rattle.svc_values.specs.meaning.Calls.{is_lone_commit}
use Rattle.svc_values.specs.meaning.Same.{same_answers}
use Rattle.svc_values.specs.SameLaws.{same_answers_decide}
use Rattle.svc_values.specs.meaning.SettingsList.{NamedValues}
use Rattle.svc_values.specs.meaning.Tables.{with_writes}
use Rattle.stmt_meaning.specs.meaning.Meaning.{Meant, mean}
use Rattle.stmt_meaning.specs.meaning.Serial.{Replays, Serial, Transaction}
use Rattle.server_model.specs.Core.{committed}
use Rattle.server_model.specs.Laws.{RunsSerial}
use Rattle.once_laws.specs.CommitAnswers.{commits_alone, stores_alone, store_alone}
use Rattle.world_model.specs.Parts.{implies}
use Rattle.invariant_laws.specs.SameLaws.{HoldsAtEnds, HoldsInRuns}
use Rattle.world_model.proofs.Offered.{reached_coupled, finishing_reached, eq_to}

-- A CALL ------------------------------------------------------------------------------------------

pub record MeansCommit (draws : List Draw) (meant : Meant) : Type 0 where
  pub answers : meant.answers ≡ answer.Committed ∷ []
  pub rest : meant.rest ≡ draws

lone_done : (tables : List PlainRow) (settings : NamedValues) (draws : List Draw) (meant : Meant)
    → Some (record { answers = answer.Committed ∷ []; tables = with_writes tables []; settings = settings; writes = []; reads = []; rest = draws }) ≡ Some meant → MeansCommit draws meant
lone_done tables settings draws meant is =
    let same : record { answers = answer.Committed ∷ []; tables = with_writes tables []; settings = settings; writes = []; reads = []; rest = draws } ≡ meant = cc in
    record { answers = ap (λ (m : Meant). m.answers) (sym same); rest = ap (λ (m : Meant). m.rest) (sym same) }

pub lone_means : (shape : Shape) (tables : List PlainRow) (settings : NamedValues) (called : Call) (draws : List Draw) (meant : Meant) → mean shape tables settings called draws ≡ Some meant → is_lone_commit called ≡ true → MeansCommit draws meant
lone_means shape tables settings (call.Work [] true) draws meant is lone = lone_done tables settings draws meant is
lone_means shape tables settings (call.Work [] false) draws meant is lone = absurd (let none : ⊥ = cc in none)
lone_means shape tables settings (call.Work (first ∷ statements) commit) draws meant is lone = absurd (let none : ⊥ = cc in none)
lone_means shape tables settings called draws meant is lone = absurd (let none : ⊥ = cc in none)

-- AN ENTRY ----------------------------------------------------------------------------------------

piece_alone : (shape : Shape) (tables : List PlainRow) (settings : NamedValues) (piece : Piece) (meant : Meant) → Replays shape tables settings piece meant → commits_alone piece ≡ true
piece_alone shape tables settings piece meant replays = by (is_lone_commit piece.call) refl
  where
    by : (lone : Bool) → is_lone_commit piece.call ≡ lone → implies lone (same_answers piece.answers (answer.Committed ∷ []) && (length piece.draws == 0)) ≡ true
    by false is = refl
    by true is =
        let means = lone_means shape tables settings piece.call piece.draws meant replays.run is in
        and_from (same_answers piece.answers (answer.Committed ∷ [])) (length piece.draws == 0) ((same_answers_decide piece.answers (answer.Committed ∷ [])).1 (sym replays.answers ∙ means.answers))
        (eq_to (length piece.draws) 0 (ap length (sym means.rest ∙ replays.draws)))

last_alone : (shape : Shape) (tables : List PlainRow) (settings : NamedValues) (pieces : List Piece) (after : List PlainRow) → Transaction shape tables settings pieces after → option_map_or commits_alone (last_or None pieces) true ≡ true
last_alone shape tables settings [] after runs = absurd runs
last_alone shape tables settings (piece ∷ []) after runs = piece_alone shape tables settings piece runs.0 runs.1.0
last_alone shape tables settings (piece ∷ next ∷ more) after runs = last_alone shape runs.0.tables runs.0.settings (next ∷ more) after runs.1.1.1

serial_alone : (shape : Shape) (start : List PlainRow) (entries : List Entry) (after : List PlainRow) → Serial shape start entries after → list_all stores_alone entries ≡ true
serial_alone shape start [] after serial = refl
serial_alone shape start (entry ∷ entries) after serial =
    and_from (stores_alone entry) (list_all stores_alone entries) (last_alone shape start entry.settings entry.pieces serial.0 serial.1.0) (serial_alone shape serial.0 entries after serial.1.1)

-- RUNS --------------------------------------------------------------------------------------------

pub runs_store_alone : RunsSerial → HoldsInRuns store_alone
runs_store_alone serial document events notes items seen t calls reached =
    let coupled = reached_coupled document events notes items seen t reached in
    let gained : List Entry = coupled.history.server.core.entries in
    let behind : drop t.image t.entries ≡ gained =
    ap (λ (n : ℕ). drop n t.entries) coupled.image ∙ (ap (drop (length seen.start.entries)) (coupled.entries ∙ coupled.history.entries) ∙ drop-append_seam seen.start.entries gained) in
    ap (list_all stores_alone) behind
    ∙ serial_alone seen.start.shape seen.start.tables gained (committed coupled.history.server.core) (serial seen.start seen.history coupled.history.server coupled.sound coupled.history.runs)

pub whole_runs_store_alone : RunsSerial → HoldsAtEnds store_alone
whole_runs_store_alone serial document notes items seen t calls run =
    let so = finishing_reached document run.place notes items seen t run.finishing in runs_store_alone serial document so.0 notes items seen t calls so.1
