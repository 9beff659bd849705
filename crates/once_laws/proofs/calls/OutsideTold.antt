-- The sessions that were made outside in a run are those of its notes.
use Rattle.std.proofs.Common.{◌≡◌, refl, sym, ap, ◌∙◌, Bool, ◌&&◌, List, [], ◌∷◌, ◌++◌, append_assoc, append-nil, Some}
use Rattle.std.proofs.lemmas.Bool.{and_parts}
use Rattle.svc_values.specs.declared.entry.Ltxid.{Ltxid}
use Rattle.svc_values.specs.declared.entry.SessionId.{SessionId}
use Rattle.svc_values.specs.meaning.Identifiers.{same_ltxid, session_of}
use Rattle.svc_values.specs.SameLaws.{same_ltxid_decides}
use Rattle.outage_schedule.specs.declared.document.Document.{Document}
use Rattle.outage_schedule.specs.declared.event.Event.{Event}
use Rattle.outage_schedule.specs.declared.event.Event.TheVariants as event
use Rattle.outage_schedule.specs.declared.item.Served.{Served}
use Rattle.outage_schedule.specs.declared.note.Note.{Note}
use Rattle.outage_schedule.specs.declared.note.Note.TheVariants as note
use Rattle.run_clauses.specs.meaning.Sessions.{outside_session, outside_sessions}
use Rattle.server_model.specs.Seen.{Seen}
use Rattle.world_model.specs.meaning.Finishing.{Place}
use Rattle.world_model.specs.meaning.Machines.{Machine, next_session}
use Rattle.world_model.specs.OneEvent.{OneEvent, session_outside}
use Rattle.world_model.specs.Reached.{Reached, Begins, GoesOn, IsFinishing, Scheduled, Finishes}
use Rattle.world_model.specs.meaning.Serving.{identifier}
use Rattle.world_model.specs.Traced.{Traced}
use Rattle.world_model.specs.meaning.Walking.{follow}
use Rattle.world_model.proofs.Offered.{leaves_is, only_met}

-- the session that a note tells of is the one that the event made
note_tells : (t : Traced) (event : Event) (one : Note) (items left : List Served) (n : Machine) → follow t.setting t.machine event one items ≡ Some (n, left) → outside_session one ≡ session_outside t one
note_tells t (event.Outside calls) (note.Outside (Some ran)) items left n is =
    let test : Bool = t.machine.server.is_up && same_ltxid ran.ltxid (identifier (next_session t.machine.server) 0) in
    ap (λ (x : Ltxid). session_of x ∷ [])
    ((same_ltxid_decides ran.ltxid (identifier (next_session t.machine.server) 0)).0 (and_parts t.machine.server.is_up (same_ltxid ran.ltxid (identifier (next_session t.machine.server) 0)) (only_met test _ n (leaves_is items left _ n is))).1)
note_tells t event (note.Outside (Some ran)) items left n is = absurd (let none : ⊥ = cc in none)
note_tells t event one items left n is = refl

more_notes : (notes : List Note) (one : Note) → outside_sessions (notes ++ one ∷ []) ≡ outside_sessions notes ++ outside_session one
more_notes [] one = append-nil (outside_session one)
more_notes (first ∷ notes) one = ap (λ (rest : List SessionId). outside_session first ++ rest) (more_notes notes one) ∙ sym (append_assoc (outside_session first) (outside_sessions notes) (outside_session one))

module _ (before after : Seen) (old new : Traced) (event : Event) (note : Note) (notes : List Note) (more left : List Served) (one : OneEvent before old event note more left after new) where
  now_told : old.outside ≡ outside_sessions notes → new.outside ≡ outside_sessions (notes ++ note ∷ [])
  now_told same =
      one.outside ∙ (ap (λ (front : List SessionId). front ++ session_outside old note) same
      ∙ (ap (λ (made : List SessionId). outside_sessions notes ++ made) (sym (note_tells old event note more left new.machine one.follows)) ∙ sym (more_notes notes note)))

reached_told : (document : Document) (events : List Event) (notes : List Note) (items : List Served) (seen : Seen) (t : Traced) → Reached document events notes items seen t → t.outside ≡ outside_sessions notes
reached_told document _ _ _ _ _ (Begins seen start history horizon coupled) = refl
reached_told document _ _ _ _ _ (GoesOn events notes items more before after old new event note reached one forgets) =
    now_told before after old new event note notes more [] one (reached_told document events notes items before old reached)

pub outside_told : (document : Document) (place : Place) (notes : List Note) (items : List Served) (seen : Seen) (t : Traced) → IsFinishing document place notes items seen t → t.outside ≡ outside_sessions notes
outside_told document _ _ _ _ _ (Scheduled notes items seen t reached) = reached_told document document.schedule notes items seen t reached
outside_told document _ _ _ _ _ (Finishes place later notes items more before after old new event note finishing next one forgets) =
    now_told before after old new event note notes more [] one (outside_told document place notes items before old finishing)
