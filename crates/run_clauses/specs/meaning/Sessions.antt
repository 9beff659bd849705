-- Identifiers that are of no client: those of `outside` runs.
use Rattle.std.specs.Prelude.{Bool, List, [], ◌∷◌, ◌++◌, Some}
use Rattle.std.specs.List.{list_any}
use Rattle.svc_values.specs.declared.entry.Ltxid.{Ltxid}
use Rattle.svc_values.specs.declared.entry.SessionId.{SessionId}
use Rattle.svc_values.specs.meaning.Identifiers.{session_of, is_of_session}
use Rattle.outage_schedule.specs.declared.note.Note.{Note}
use Rattle.outage_schedule.specs.declared.note.Note.TheVariants as note

-- the session of a note, where it is that of an `outside`
abbrev pub outside_session : Note → List SessionId
outside_session (note.Outside (Some ran)) = session_of ran.ltxid ∷ []
outside_session _ = []

abbrev pub outside_sessions : List Note → List SessionId
outside_sessions [] = []
outside_sessions (first ∷ notes) = outside_session first ++ outside_sessions notes

-- An identifier is foreign where its session is that of an `outside` note, one of these.
abbrev pub is_foreign : List SessionId → Ltxid → Bool
is_foreign outside x = list_any (λ session. is_of_session session x) outside
