-- The entries of a request are stretches of its script, whatever digests there are.
use Rattle.std.specs.Prelude.{◌&&◌, ◌||◌, Bool, true, false, List, [], ◌∷◌}
use Rattle.std.specs.List.{list_all}
use Rattle.svc_values.specs.declared.call.Call.{Call}
use Rattle.svc_values.specs.declared.entry.Entry.{Entry}
use Rattle.svc_values.specs.declared.entry.Ltxid.{Ltxid}
use Rattle.svc_values.specs.declared.entry.Piece.{Piece}
use Rattle.svc_values.specs.meaning.Same.{same_call}
use Rattle.svc_values.specs.meaning.SettingsList.{NamedValues, same_settings, with_set}
use Rattle.outage_schedule.specs.declared.document.Document.{Document}
use Rattle.outage_schedule.specs.declared.document.Request.{Request}
use Rattle.outage_schedule.specs.declared.report.Report.{Report}
use Rattle.outage_schedule.specs.declared.request.RequestReport.{RequestReport}
use Rattle.run_clauses.specs.meaning.Copies.{Copies, each_copies}
use Rattle.run_clauses.specs.meaning.Once.{entries_in}

-- the calls of these pieces are the first ones of the script
abbrev pub begins_with : List Call → List Piece → Bool
begins_with script [] = true
begins_with [] (piece ∷ pieces) = false
begins_with (call ∷ script) (piece ∷ pieces) =
    same_call piece.call call && begins_with script pieces

-- So are the entry's calls, and its settings are these.
abbrev pub stands_first : NamedValues → List Call → Entry → Bool
stands_first settings script entry = begins_with script entry.pieces
    && same_settings entry.settings settings

-- The entry's calls are a stretch of the script, the calls from some place on, and its settings are
-- those that the request has there: it has these before the script's first call, and each `set`
-- changes one.
abbrev pub is_stretch : NamedValues → List Call → Entry → Bool
is_stretch settings [] entry = stands_first settings [] entry
is_stretch settings (call ∷ script) entry =
    stands_first settings (call ∷ script) entry || is_stretch (with_set settings call) script entry

-- each entry whose identifier is in this list is one of the request's script
abbrev pub has_stretches : List Entry → Request → List Ltxid → Bool
has_stretches entries request ids = list_all (is_stretch request.settings request.calls)
    (entries_in entries ids)

abbrev pub is_scripted_request : List Entry → Request → RequestReport → Bool
is_scripted_request entries request copy = list_all (has_stretches entries request) copy.tried

abbrev pub are_scripted_copies : List Entry → Copies → Bool
are_scripted_copies entries copies = list_all (is_scripted_request entries copies.request)
    copies.reports

-- each entry whose identifier is in a list of a request, of each request of each client
abbrev pub scripted : Document → Report → Bool
scripted document report = each_copies (are_scripted_copies report.entries) document report
