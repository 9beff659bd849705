-- Calls that touch no store, by what the code makes of the session.
use Rattle.std.proofs.Common.{◌≡◌, ◌+◌, ℕ, Bool, List, [], ◌∷◌, ◌∙◌, ap}
use Rattle.disk_model.specs.Disk.{DiskState}
use Rattle.svc_values.specs.declared.answer.Answer.TheVariants as answer
use Rattle.svc_values.specs.declared.call.Call.{Call}
use Rattle.svc_values.specs.declared.call.Call.TheVariants as call
use Rattle.svc_values.specs.declared.draw.Draw.{Draw}
use Rattle.svc_values.specs.declared.frame.Down.{Down}
use Rattle.svc_values.specs.declared.frame.Down.TheVariants as down
use Rattle.svc_values.specs.declared.frame.Up.TheVariants as up
use Rattle.svc_values.specs.declared.value.Value.{Value}
use Rattle.svc_values.specs.meaning.Calls.{sequences_in}
use Rattle.svc_values.specs.meaning.SettingsList.{put_setting}
use Rattle.server_model.specs.meaning.Outcomes.{Says}
use Rattle.server_model.specs.Sessions.{piece_of}
use Rattle.server_session.specs.declared.shared.Core.{Core}
use Rattle.server_session.specs.Fits.{Fits, Belongs}
use Rattle.server_session.specs.SeenSession.{SeenSession, begun_so}
use Rattle.server_session.specs.Serving.{HasServed, called_as}
use Rattle.server_session.proofs.Lifting.{serves_quietly}
use Rattle.server_session.proofs.Quiet.{disables, noting, rolls_back, sets}

module _ (called : Call) (replay : Bool) (marks : List Draw) (now : ℕ) (told : Down) (old new : SeenSession) (core : Core) (disk : DiskState) (fits : Fits core disk) (belongs : Belongs core old) where
  abbrev pub set_to : List ℕ → Value → Call → SeenSession
  set_to name value one = record (noting old (piece_of one (answer.Done 1 ∷ []) [])) { settings = put_setting old.settings name value }

  pub set_told : (name : List ℕ) (value : Value) → called ≡ call.Set name value → told ≡ down.Reply (answer.Done 1 ∷ []) [] old.ltxid
      → new ≡ record (noting old (piece_of called (answer.Done 1 ∷ []) [])) { settings = put_setting old.settings name value }
      → HasServed (called_as replay marks called now) (1 + sequences_in (up.Call replay marks called)) (Says told) old core disk new core disk
  set_told name value is said seen =
      let after : new ≡ set_to name value (call.Set name value) = seen ∙ ap (set_to name value) is in
      rw (is, said, after) (serves_quietly (called_as replay marks (call.Set name value) now) (1 + sequences_in (up.Call replay marks (call.Set name value)))
      (Says (down.Reply (answer.Done 1 ∷ []) [] old.ltxid)) old (set_to name value (call.Set name value)) core disk (sets old replay marks now name value) fits belongs)

  abbrev pub noted_as : Call → SeenSession
  noted_as one = noting old (piece_of one (answer.Done 0 ∷ []) [])

  pub disable_told : called ≡ call.Disable → told ≡ down.Reply (answer.Done 0 ∷ []) [] old.ltxid → new ≡ noting old (piece_of called (answer.Done 0 ∷ []) [])
      → HasServed (called_as replay marks called now) (1 + sequences_in (up.Call replay marks called)) (Says told) old core disk new core disk
  disable_told is said seen =
      let after : new ≡ noted_as call.Disable = seen ∙ ap noted_as is in
      rw (is, said, after) (serves_quietly (called_as replay marks call.Disable now) (1 + sequences_in (up.Call replay marks call.Disable))
      (Says (down.Reply (answer.Done 0 ∷ []) [] old.ltxid)) old (noted_as call.Disable) core disk (disables old replay marks now) fits belongs)

  pub rollback_told : called ≡ call.Rollback → told ≡ down.Reply (answer.RolledBack ∷ []) [] old.ltxid → new ≡ begun_so old old.life old.settings
      → HasServed (called_as replay marks called now) (1 + sequences_in (up.Call replay marks called)) (Says told) old core disk new core disk
  rollback_told is said after =
      rw (is, said, after) (serves_quietly (called_as replay marks call.Rollback now) (1 + sequences_in (up.Call replay marks call.Rollback))
      (Says (down.Reply (answer.RolledBack ∷ []) [] old.ltxid)) old (begun_so old old.life old.settings) core disk (rolls_back old replay marks now) fits belongs)
