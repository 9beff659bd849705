-- Frames, by their kinds.
use Rattle.std.proofs.Common.{◌≡◌, ◌+◌, ℕ, Bool, true, false, not, List, [], refl, sym, ◌∙◌, ap, subst}
use Rattle.std.proofs.lemmas.Bool.{false≢true}
use Rattle.std.specs.Prelude.{IsTrue, Option, Result}
use Rattle.disk_model.specs.Disk.{DiskState}
use Rattle.svc_values.specs.declared.call.Call.{Call}
use Rattle.svc_values.specs.declared.draw.Draw.{Draw}
use Rattle.svc_values.specs.declared.frame.Down.{Down}
use Rattle.svc_values.specs.declared.frame.Down.TheVariants as down
use Rattle.svc_values.specs.declared.frame.Up.{Up}
use Rattle.svc_values.specs.declared.frame.Up.TheVariants as up
use Rattle.svc_values.specs.meaning.Calls.{sequences_in}
use Rattle.svc_values.specs.meaning.SettingsList.{NamedValues}
use Rattle.server_model.specs.meaning.Outcomes.{Telling, Silent, Says}
use Rattle.server_model.specs.Serve.{Runs, is_connect, is_out_of_order, is_serving}
use Rattle.server_model.specs.Sessions.{Life, New, Idle, Begun, Ended}
use Rattle.server_model.specs.declared.fault.ServeFault.{ServeFault}
use Rattle.server_session.specs.declared.shared.Core.{Core}
use Rattle.server_session.specs.Fits.{Fits, Belongs}
use Rattle.server_session.specs.SeenSession.{SeenSession, begun_so, ended_so, is_alive}
use Rattle.server_session.specs.Serving.{Quietly, HasServed, Serves, called_as, served_as}
use Rattle.server_session.proofs.Lifting.{serves_as, serves_quietly}
use Rattle.server_session.proofs.Quiet.{connects, begins, ends, closes, refuses}

-- ---- where a living session is that a frame in order comes to

pub new_at : (life : Life) → is_alive life ≡ true → is_out_of_order life up.Connect ≡ false → life ≡ New
new_at New alive fine = refl
new_at Idle alive fine = absurd (false≢true (sym fine))
new_at Begun alive fine = absurd (false≢true (sym fine))
new_at Ended alive fine = absurd (false≢true alive)

pub serving_at : (life : Life) (frame : Up) → is_alive life ≡ true → is_out_of_order life frame ≡ false → is_connect frame ≡ false → IsTrue (is_serving life)
serving_at New frame alive fine other = absurd (false≢true (sym fine ∙ ap not other))
serving_at Idle frame alive fine other = refl
serving_at Begun frame alive fine other = refl
serving_at Ended frame alive fine other = absurd (false≢true alive)

pub begun_at : (life : Life) (replay : Bool) (kept : List Draw) (called : Call) → is_alive life ≡ true → is_out_of_order life (up.Call replay kept called) ≡ false → life ≡ Begun
begun_at New replay kept called alive fine = absurd (false≢true (sym fine))
begun_at Idle replay kept called alive fine = absurd (false≢true (sym fine))
begun_at Begun replay kept called alive fine = refl
begun_at Ended replay kept called alive fine = absurd (false≢true alive)

-- ---- what each frame comes to

module _ (frame : Up) (now : ℕ) (old new : SeenSession) (core : Core) (disk : DiskState) (fits : Fits core disk) (belongs : Belongs core old) (alive : is_alive old.life ≡ true) where
  quietly : (kind : Up) (told : Telling) → frame ≡ kind → Quietly (served_as kind now) told old new → HasServed (served_as frame now) (1 + sequences_in frame) told old core disk new core disk
  quietly kind told is quiet =
      subst (λ (f : Up). HasServed (served_as f now) (1 + sequences_in f) told old core disk new core disk) (sym is)
      (serves_quietly (served_as kind now) (1 + sequences_in kind) told old new core disk quiet fits belongs)

  pub refused : is_out_of_order old.life frame ≡ true → new ≡ ended_so old → HasServed (served_as frame now) (1 + sequences_in frame) (Says (down.Refused 2)) old core disk new core disk
  refused out seen = quietly frame (Says (down.Refused 2)) refl (rw seen (refuses old now frame out))

  pub connected : (told : Down) → is_out_of_order old.life frame ≡ false → frame ≡ up.Connect → told ≡ down.Hello old.ltxid → new ≡ record old { life = Idle }
      → HasServed (served_as frame now) (1 + sequences_in frame) (Says told) old core disk new core disk
  connected told fine is said seen =
      quietly up.Connect (Says told) is (rw (said, seen) (connects old now (new_at old.life alive (ap (is_out_of_order old.life) (sym is) ∙ fine))))

  pub serving : (kind : Up) → is_out_of_order old.life frame ≡ false → frame ≡ kind → is_connect kind ≡ false → IsTrue (is_serving old.life)
  serving kind fine is other = serving_at old.life kind alive (ap (is_out_of_order old.life) (sym is) ∙ fine) other

  pub began : (settings : NamedValues) → is_out_of_order old.life frame ≡ false → frame ≡ up.Begin settings → new ≡ begun_so old Begun settings
      → HasServed (served_as frame now) (1 + sequences_in frame) Silent old core disk new core disk
  began settings fine is seen = quietly (up.Begin settings) Silent is (rw seen (begins old now settings (serving (up.Begin settings) fine is refl)))

  pub came_to_end : is_out_of_order old.life frame ≡ false → frame ≡ up.End → new ≡ begun_so old Idle [] → HasServed (served_as frame now) (1 + sequences_in frame) Silent old core disk new core disk
  came_to_end fine is seen = quietly up.End Silent is (rw seen (ends old now (serving up.End fine is refl)))

  pub was_closed : is_out_of_order old.life frame ≡ false → frame ≡ up.Close → new ≡ ended_so old → HasServed (served_as frame now) (1 + sequences_in frame) Silent old core disk new core disk
  was_closed fine is seen = quietly up.Close Silent is (rw seen (closes old now (serving up.Close fine is refl)))

-- a call, served in a request
pub ran : (frame : Up) (replay : Bool) (kept : List Draw) (called : Call) (now : ℕ) (result : Result (Option Down) ServeFault) (old : SeenSession) (core : Core) (disk : DiskState) (new : SeenSession) (later : Core) (end : DiskState)
    → is_alive old.life ≡ true → is_out_of_order old.life frame ≡ false → frame ≡ up.Call replay kept called
    → Serves (called_as replay kept called now) (1 + sequences_in (up.Call replay kept called)) result old core disk new later end → Serves (served_as frame now) (1 + sequences_in frame) result old core disk new later end
ran frame replay kept called now result old core disk new later end alive fine is served =
    let begun : old.life ≡ Begun = begun_at old.life replay kept called alive (ap (is_out_of_order old.life) (sym is) ∙ fine) in
    subst (λ (f : Up). Serves (served_as f now) (1 + sequences_in f) result old core disk new later end) (sym is)
    (serves_as (called_as replay kept called now) (served_as (up.Call replay kept called) now) (1 + sequences_in (up.Call replay kept called)) result old core disk new later end
    (λ plain reads stands noted after t told step. Runs replay kept called after t told begun step) served)
