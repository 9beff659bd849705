-- A transaction stands in the journal with the calls, answers, granted draws and settings that its
-- client knows.
use Rattle.std.specs.Prelude.{ℕ, ◌+◌, ◌&&◌, Bool, true, false, cond, List, [], ◌∷◌, length, map, filter, take, drop, is_some, None}
use Rattle.std.specs.List.{list_all, last_or}
use Rattle.std.specs.Option.{option_map_or}
use Rattle.svc_values.specs.declared.draw.Draw.{Draw}
use Rattle.svc_values.specs.declared.call.Call.{Call}
use Rattle.svc_values.specs.declared.entry.Ltxid.{Ltxid}
use Rattle.svc_values.specs.declared.entry.Piece.{Piece}
use Rattle.svc_values.specs.declared.entry.Entry.{Entry}
use Rattle.svc_values.specs.meaning.SettingsList.{NamedValues, same_settings, with_sets}
use Rattle.svc_values.specs.meaning.Same.{same_answers, same_calls, same_draws}
use Rattle.outage_schedule.specs.declared.document.Request.{Request}
use Rattle.outage_schedule.specs.declared.document.Document.{Document}
use Rattle.outage_schedule.specs.declared.request.ShownCall.{ShownCall}
use Rattle.outage_schedule.specs.declared.request.RequestReport.{RequestReport}
use Rattle.outage_schedule.specs.declared.report.Report.{Report}
use Rattle.run_clauses.specs.meaning.ServiceBase.{service_base}
use Rattle.server_model.specs.meaning.NewValues.{grants}
use Rattle.run_clauses.specs.meaning.Transactions.{Txn, txns_of}
use Rattle.run_clauses.specs.meaning.Once.{entries_in}
use Rattle.run_clauses.specs.meaning.Copies.{Copies, each_copies}

-- The entry's calls are these, from the first to the last.
abbrev pub has_calls : Entry → List Call → Bool
has_calls entry calls = same_calls (map (λ piece. piece.call) entry.pieces) calls

-- For each call that was shown, the entry's answers are the shown ones.
abbrev pub has_answers : List Piece → List ShownCall → Bool
has_answers pieces [] = true
has_answers [] (shown ∷ more) = false
has_answers (piece ∷ pieces) (shown ∷ more) =
    same_answers piece.answers shown.answers && has_answers pieces more

-- For each call that was shown, the entry's granted draws, in order, are the granted ones that it
-- was shown with.
abbrev pub has_draws : (Draw → Bool) → List Piece → List ShownCall → Bool
has_draws granted pieces [] = true
has_draws granted [] (shown ∷ more) = false
has_draws granted (piece ∷ pieces) (shown ∷ more) =
    same_draws (filter granted piece.draws) (filter granted shown.draws)
    && has_draws granted pieces more

-- `Same(t, entry)` of a transaction that begins with these settings, has these calls of the script,
-- and was shown these
abbrev pub is_same : (Draw → Bool) → NamedValues → List Call → List ShownCall → Entry → Bool
is_same granted settings calls shown entry =
    has_calls entry calls && (has_answers entry.pieces shown
    && (has_draws granted entry.pieces shown && same_settings entry.settings settings))

-- of the entry whose identifier is in `tried(t)`
abbrev pub is_same_txn : (Draw → Bool) → List Entry → NamedValues → List Call → Txn → Bool
is_same_txn granted entries settings calls txn =
    list_all (is_same granted settings calls txn.shown) (entries_in entries txn.tried)

-- The transactions of a request one after the other, with the settings before the first call and
-- the script's calls from there on. The last one has so many calls more than were shown: those that
-- were submitted and not shown.
abbrev pub are_same : (Draw → Bool) → List Entry → NamedValues → List Call → ℕ → List Txn → Bool
are_same granted entries settings script more [] = true
are_same granted entries settings script more (txn ∷ []) =
    is_same_txn granted entries settings (take (length txn.shown + more) script) txn
are_same granted entries settings script more (txn ∷ next ∷ txns) =
    is_same_txn granted entries settings (take (length txn.shown) script) txn
    && are_same granted entries (with_sets settings (take (length txn.shown) script))
    (drop (length txn.shown) script) more (next ∷ txns)

abbrev pub is_any : List Ltxid → Bool
is_any [] = false
is_any (x ∷ ids) = true

-- How many calls count as submitted and not shown: one, the first that was not shown, where the
-- request failed and the last list has an identifier. (Where this is an entry's, that call was
-- submitted: none that was shown in the last transaction committed.)
abbrev pub unshown : RequestReport → ℕ
unshown request = cond (is_some request.failed
    && option_map_or is_any (last_or None request.tried) false) 1 0

abbrev pub is_same_request : (Draw → Bool) → List Entry → Request → RequestReport → Bool
is_same_request granted entries request copy =
    are_same granted entries request.settings request.calls (unshown copy) (txns_of copy)

abbrev pub are_same_copies : (Draw → Bool) → List Entry → Copies → Bool
are_same_copies granted entries copies =
    list_all (is_same_request granted entries copies.request) copies.reports

-- `Same`
abbrev pub same : Document → Report → Bool
same document report = each_copies (are_same_copies (grants (service_base document)) report.entries)
    document report
