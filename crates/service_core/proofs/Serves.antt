-- What a service is seen as after a frame.
use Rattle.std.proofs.Common.{◌≡◌, ◌+◌, ◌<◌, ◌^◌, ℕ, false, refl, sym, subst, [], ◌∷◌, ◌++◌}
use Rattle.std.specs.Prelude.{IsTrue, IfSome, Option, Some, None}
use Rattle.disk_model.specs.Moment.{MayLeave}
use Rattle.disk_model.specs.Disk.{DiskState}
use Rattle.svc_values.specs.declared.frame.Down.{Down}
use Rattle.svc_values.specs.declared.frame.Up.{Up}
use Rattle.svc_values.specs.meaning.Calls.{sequences_in}
use Rattle.svc_values.specs.meaning.Identifiers.{session_of}
use Rattle.canon_bytes.specs.DownBytes.{IsMadeDown}
use Rattle.server_model.specs.meaning.Outcomes.{Telling, Stopped, telling_of}
use Rattle.server_model.specs.Runs.{Served, is_answered}
use Rattle.server_model.specs.ServiceCalls.{ServedOne, may_store}
use Rattle.server_session.specs.declared.shared.Core.{Core}
use Rattle.server_session.specs.SeenSession.{SeenSession as Session}
use Rattle.server_session.specs.Serving.{HasServed, HasStopped, served_as, told_of}
use Rattle.service_calls.specs.Kept.{Goes, HaveOneBase}
use Rattle.service_core.specs.Held.{Held, Holds}
use Rattle.service_core.specs.Seeing.{LeavesIn, SeesIn, Stands, state_of}
use Rattle.service_core.specs.Sound.{IsSound, IsSoundWithin, IsUp}
use Rattle.service_core.specs.Taking.{IsTaken, kept_of}
use Rattle.service_core.specs.Within.{Within}
use Rattle.service_core.proofs.Limits.{told_made}
use Rattle.service_core.proofs.Served.{served_base, served_came, served_does, served_made, served_up}
use Rattle.service_core.proofs.Standing.{goes_from, seen_with}
use Rattle.service_core.proofs.halts.StoppedOne.{one_base, one_came, one_does, one_down}

told_same : (told : Option Down) → told_of told ≡ telling_of told
told_same None = refl
told_same (Some frame) = refl

told_answered : (told : Option Down) → IsTrue (is_answered (telling_of told))
told_answered None = refl
told_answered (Some frame) = refl

module _ (old : Within) (core : Core) (is_up : old.core ≡ Some core) (sound : IsSoundWithin old) (rest : Held) (made connection now : ℕ) (frame : Up) (session : Session) (kept : Option ℕ) (kept_is : kept ≡ old.disk.stop) (taken : IsTaken core old.held old.notes.sessions connection session rest made) (end : DiskState) where
  up : IsUp old.grants old.disk core old.held old.notes
  up = subst (λ (c : Option Core). IsSound old.grants old.disk c old.held old.notes) is_up sound

  -- ---- answered

  module _ (later : Core) (after : Held) (told : Option Down) (new : Session) (put : Holds connection (kept_of new) rest after) (served : HasServed (served_as frame now) (1 + sequences_in frame) (told_of told) session core old.disk new later end) where
    served_so : HasServed (served_as frame now) (1 + sequences_in frame) (telling_of told) session core old.disk new later end
    served_so = subst (λ (t : Telling). HasServed (served_as frame now) (1 + sequences_in frame) t session core old.disk new later end) (told_same told) served

    abbrev pub with_served : Within
    with_served = record { grants = old.grants; disk = end; core = Some later; held = after; notes = record old.notes { sessions = made; kept = kept; calls = old.notes.calls + 1 } }

    pub serves_soundly : IsSoundWithin with_served
    serves_soundly = served_up old.grants old.disk end core later old.held rest after old.notes made connection now frame (telling_of told) session new kept kept_is up taken put served_so

    pub serves_made : old.notes.calls < 2 ^ 48 → IfSome told IsMadeDown
    serves_made few = told_made told (served_made old.grants old.disk end core later old.held rest after old.notes made connection now frame (telling_of told) session new kept kept_is up taken put served_so few)

    pub serves_on_base : HaveOneBase old.disk.now.seen end.now.seen
    serves_on_base = served_base old.grants old.disk end core later old.held rest after old.notes made connection now frame (telling_of told) session new kept kept_is up taken put served_so

    pub serves : old.notes.is_spent ≡ false → (may_store frame ≡ false → end ≡ old.disk) → Goes (SeesIn old) (SeesIn with_served) (λ before behind. ServedOne before connection now frame (telling_of told) (LeavesIn with_served) behind)
    serves live silent =
        goes_from old with_served (λ before behind. ServedOne before connection now frame (telling_of told) (LeavesIn with_served) behind) live serves_soundly
        (λ start history stands.
        let came = subst (λ (c : Option Core). Stands old.grants old.disk c old.held old.notes start history) is_up stands in
        record {
          later = history ++ Served (session_of session.ltxid) now frame (telling_of told) ∷ [];
          stands = served_came old.grants old.disk end core later old.held rest after old.notes made connection now frame (telling_of told) session new kept kept_is up taken put served_so start history (told_answered told) came;
          does =
              subst (λ (c : Option Core). ServedOne (seen_with start history (state_of old.disk c old.held old.notes)) connection now frame (telling_of told) (LeavesIn with_served) (seen_with start (history ++ Served (session_of session.ltxid) now frame (telling_of told) ∷ []) (state_of end (Some later) after with_served.notes))) (sym is_up)
              (served_does old.grants old.disk end core later old.held rest after old.notes made connection now frame (telling_of told) session new kept kept_is up taken put served_so start history (told_answered told) came (LeavesIn with_served) live silent);
        })

  -- ---- stopped

  module _ (stopped : HasStopped (served_as frame now) (1 + sequences_in frame) session core old.disk end) (reads_now : MayLeave end.now end.now.seen) (gone : Option Core) (gone_is : gone ≡ None) (empty : Held) (empty_is : empty ≡ []) where
    abbrev pub with_stopped : Option Core → Held → Within
    with_stopped none held = record { grants = old.grants; disk = end; core = none; held = held; notes = record old.notes { is_settled = false; sessions = made; kept = kept; calls = old.notes.calls + 1 } }

    -- said of what it has then
    abbrev Of : (Within → Type 0) → Type 0
    Of P = P (with_stopped None []) → P (with_stopped gone empty)

    of_both : (P : Within → Type 0) → Of P
    of_both P is = subst (λ (c : Option Core). P (with_stopped c empty)) (sym gone_is) (subst (λ (h : Held). P (with_stopped None h)) (sym empty_is) is)

    soundly : IsSoundWithin (with_stopped None [])
    soundly = one_down old.grants old.disk end core old.held rest old.notes made connection now frame session kept kept_is up taken stopped reads_now

    pub stops_soundly : IsSoundWithin (with_stopped gone empty)
    stops_soundly = of_both IsSoundWithin soundly

    pub stops_on_base : HaveOneBase old.disk.now.seen end.now.seen
    stops_on_base = one_base old.grants old.disk end core old.held rest old.notes made connection now frame session kept kept_is up taken stopped reads_now

    pub stops : old.notes.is_spent ≡ false → old.notes.calls < 2 ^ 48 → (may_store frame ≡ false → ⊥)
        → Goes (SeesIn old) (SeesIn (with_stopped gone empty)) (λ before behind. ServedOne before connection now frame Stopped (LeavesIn (with_stopped gone empty)) behind)
    stops live few stores =
        of_both (λ (w : Within). Goes (SeesIn old) (SeesIn w) (λ before behind. ServedOne before connection now frame Stopped (LeavesIn w) behind))
        (goes_from old (with_stopped None []) (λ before behind. ServedOne before connection now frame Stopped (LeavesIn (with_stopped None [])) behind) live soundly
        (λ start history stands.
        let came = subst (λ (c : Option Core). Stands old.grants old.disk c old.held old.notes start history) is_up stands in
        record {
          later = history ++ Served (session_of session.ltxid) now frame Stopped ∷ [];
          stands = one_came old.grants old.disk end core old.held rest old.notes made connection now frame session kept kept_is up taken stopped reads_now start history came;
          does =
              subst (λ (c : Option Core). ServedOne (seen_with start history (state_of old.disk c old.held old.notes)) connection now frame Stopped (LeavesIn (with_stopped None [])) (seen_with start (history ++ Served (session_of session.ltxid) now frame Stopped ∷ []) (state_of end None [] (with_stopped None []).notes))) (sym is_up)
              (one_does old.grants old.disk end core old.held rest old.notes made connection now frame session kept kept_is up taken stopped reads_now start history came live few stores);
        }))
