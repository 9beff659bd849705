-- What was written is read again, whatever follows: the payloads of frames.
use Rattle.std.proofs.Common.{◌≡◌, ℕ, List, ◌++◌, Ok, refl, append_assoc}
use Rattle.svc_values.specs.declared.frame.Ahead.{Ahead}
use Rattle.svc_values.specs.declared.frame.Ahead.TheVariants as ahead
use Rattle.svc_values.specs.declared.frame.Up.{Up}
use Rattle.svc_values.specs.declared.frame.Up.TheVariants as up
use Rattle.svc_values.specs.declared.frame.Down.{Down}
use Rattle.svc_values.specs.declared.frame.Down.TheVariants as down
use Rattle.canon_bytes.specs.meaning.Draws.{spell_draw, draw_at}
use Rattle.canon_bytes.specs.Draws.{FitsDraw}
use Rattle.canon_bytes.specs.meaning.AnswerBytes.{spell_answer, answer_at}
use Rattle.canon_bytes.specs.AnswerBytes.{FitsAnswer}
use Rattle.canon_bytes.specs.Again.{u64_again, bool_again, listed_again}
use Rattle.canon_bytes.specs.ValuesAgain.{draw_again, answer_again}
use Rattle.canon_bytes.specs.SettingsAgain.{settings_again}
use Rattle.canon_bytes.specs.EntriesAgain.{call_again, ltxid_again}
use Rattle.canon_bytes.specs.meaning.UpBytes.{spell_up}
use Rattle.canon_bytes.specs.UpBytes.{FitsUp, up_call_at, up_at}
use Rattle.canon_bytes.specs.meaning.DownBytes.{spell_ahead, spell_down}
use Rattle.canon_bytes.specs.DownBytes.{FitsDown, ahead_at, cause_at, reply_at, outcome_is_at, outcome_refused_at, down_at}

pub up_again : (frame : Up) (rest : List ℕ) → FitsUp frame
    → up_at (spell_up frame ++ rest) ≡ Ok (frame, rest)
unfolding up_at up_call_at
up_again up.Connect rest fits = refl
up_again (up.Begin settings) rest fits = rw (settings_again settings rest fits) refl
up_again (up.Call replay kept call) rest fits =
    simp append_assoc (rw (
      bool_again replay _ tt,
      listed_again spell_draw FitsDraw draw_at draw_again kept _ fits.0,
      call_again call rest fits.1,
    )
    refl)
up_again (up.Outcome ltxid) rest fits = rw (ltxid_again ltxid rest fits) refl
up_again up.End rest fits = refl
up_again up.Close rest fits = refl

ahead_again : (who : Ahead) (rest : List ℕ) → ahead_at (spell_ahead who ++ rest) ≡ Ok (who, rest)
unfolding ahead_at
ahead_again ahead.Server rest = refl
ahead_again ahead.Client rest = refl
ahead_again ahead.Forgotten rest = refl

pub down_again : (frame : Down) (rest : List ℕ) → FitsDown frame
    → down_at (spell_down frame ++ rest) ≡ Ok (frame, rest)
unfolding down_at cause_at reply_at outcome_is_at outcome_refused_at
down_again (down.Hello ltxid) rest fits = rw (ltxid_again ltxid rest fits) refl
down_again (down.Reply answers draws ltxid) rest fits =
    simp append_assoc (rw (
      listed_again spell_answer FitsAnswer answer_at answer_again
          answers _ fits.0,
      listed_again spell_draw FitsDraw draw_at draw_again draws _ fits.1,
      ltxid_again ltxid rest fits.2,
    ) refl)
down_again (down.OutcomeIs committed completed) rest fits =
    simp append_assoc (rw (bool_again committed _ tt, bool_again completed rest tt) refl)
down_again (down.OutcomeRefused who next) rest fits =
    simp append_assoc (rw (ahead_again who _, u64_again next rest fits) refl)
down_again down.Blocked rest fits = refl
down_again (down.Refused cause) rest fits = rw fits refl
