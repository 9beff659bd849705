-- How frames that are served one after the other go on.
use Rattle.std.proofs.Common.{◌≡◌, ◌∙◌, ◌+◌, ◌<◌, ℕ, refl, sym, ap, subst, List, [], ◌∷◌, ◌++◌, map, length, drop, get_or, append_assoc, append-nil}
use Rattle.std.proofs.lemmas.List.{map-append, drop_more}
use Rattle.std.specs.Prelude.{Option, Some, None, Result, Ok, Err, IsErrOf}
use Rattle.std.specs.List.{AllByRecursion}
use Rattle.disk_model.specs.Disk.{DiskState}
use Rattle.svc_values.specs.declared.answer.Answer.{Answer}
use Rattle.svc_values.specs.declared.call.Call.{Call}
use Rattle.svc_values.specs.declared.draw.Draw.{Draw}
use Rattle.svc_values.specs.declared.entry.SessionId.{SessionId}
use Rattle.svc_values.specs.declared.frame.Down.{Down}
use Rattle.svc_values.specs.declared.frame.Down.TheVariants as down
use Rattle.svc_values.specs.declared.frame.Up.{Up}
use Rattle.svc_values.specs.declared.frame.Up.TheVariants as up
use Rattle.svc_values.specs.meaning.Calls.{sequences_in}
use Rattle.svc_values.specs.Calls.{IsMade}
use Rattle.svc_values.specs.meaning.Identifiers.{session_of}
use Rattle.outage_schedule.specs.declared.note.NoteRun.{NoteRun}
use Rattle.stmt_meaning.specs.meaning.Reads.{Read}
use Rattle.server_model.specs.declared.fault.ServeFault.{ServeFault}
use Rattle.server_model.specs.declared.fault.ServeFault.TheVariants as fault
use Rattle.server_model.specs.Core.{Core as Plain}
use Rattle.server_model.specs.meaning.Outcomes.{Telling, Silent, Says}
use Rattle.server_model.specs.Runs.{Happened, Served}
use Rattle.server_model.specs.Serve.{Serve}
use Rattle.server_model.specs.ServiceCalls.{RunsAre}
use Rattle.server_model.specs.Sessions.{New, Idle, Begun}
use Rattle.server_model.proofs.Offered.{serve_stays}
use Rattle.server_session.specs.declared.shared.Core.{Core}
use Rattle.server_session.specs.SeenSession.{SeenSession as Session, sess_of}
use Rattle.server_session.specs.Serving.{HasServed, HasStopped, Serves, served_as, told_of}
use Rattle.service_calls.specs.Answers.{run_of}
use Rattle.service_core.specs.Through.{Item, item, Through, Still, Then, IsGoing, Begins, HasBegun, HasHaltedIn, HasRunAll, HasRunOne, RunsAll, RunsFrom, RunsOne, call_frame, happened_in, run_in}
use Rattle.service_core.proofs.Answered.{went}
use Rattle.service_core.proofs.Replied.{CallTold, Replies, begin_tells, call_tells, may_tell, connect_tells}
use Rattle.service_core.proofs.Taken.{has_plain, stays_so}

-- ---- one frame

-- what a plain server did, beside whatever core
pub record Did (frame : Up) (now : ℕ) (told : Telling) (session new : Session) : Type 0 where
  pub plain : Plain
  pub after : Plain
  pub reads : List Read
  pub found : List Read
  pub step : Serve plain (sess_of session reads) now frame after (sess_of new found) told

module _ (frame : Up) (now most : ℕ) (told : Telling) (core later : Core) (disk end : DiskState) (session new : Session) (going : IsGoing core disk session) (served : HasServed (served_as frame now) most told session core disk new later end) where
  pub did : Did frame now told session new
  did =
      let beside = has_plain core disk going.fits in
      let steps = served.steps beside.plain going.reads beside.stands going.noted in
      record { plain = beside.plain; after = steps.0; reads = going.reads; found = steps.1.1.reads; step = steps.1.1.steps }

  pub going_on : IsGoing later end new
  going_on =
      let stay = stays_so frame now most told core later disk end session new going.reads going.noted going.fits served in
      record { fits = served.fits; belongs = served.belongs; reads = stay.reads; noted = stay.noted }

  pub same_session : session_of new.ltxid ≡ session_of session.ltxid
  same_session = let one = did in (serve_stays one.plain (sess_of session one.reads) now frame one.after (sess_of new one.found) told one.step).session

  pub same_grants : later.grants ≡ core.grants
  same_grants = let stay = stays_so frame now most told core later disk end session new going.reads going.noted going.fits served in stay.grants

-- ---- a request begins

pub is_idle : (now most : ℕ) (told : Telling) (core later : Core) (disk end : DiskState) (session new : Session) → IsGoing core disk session → HasServed (served_as up.Connect now) most told session core disk new later end → session.life ≡ New → new.life ≡ Idle
is_idle now most told core later disk end session new going served is =
    let one = did up.Connect now most told core later disk end session new going served in
    (connect_tells one.plain (sess_of session one.reads) now one.after (sess_of new one.found) told one.step is).1

pub has_begun : (now : ℕ) (first second : Telling) (core between later : Core) (disk at end : DiskState) (old mid new : Session) → IsGoing core disk old → old.life ≡ New
    → HasServed (served_as up.Connect now) (1 + sequences_in up.Connect) first old core disk mid between at → at ≡ disk
    → HasServed (served_as (up.Begin []) now) (1 + sequences_in (up.Begin [])) second mid between at new later end → end ≡ at → HasBegun now old core disk new later end
has_begun now first second core between later disk at end old mid new going is served same served' same' =
    let one = did up.Connect now 1 first core between disk at old mid going served in
    let told = connect_tells one.plain (sess_of old one.reads) now one.after (sess_of mid one.found) first one.step is in
    let going' = going_on up.Connect now 1 first core between disk at old mid going served in
    let two = did (up.Begin []) now 1 second between later at end mid new going' served' in
    let told' = begin_tells two.plain (sess_of mid two.reads) now [] two.after (sess_of new two.found) second two.step told.1 in
    record {
      through =
          Then (item up.Connect (Says (down.Hello old.ltxid)) ∷ []) mid between at (up.Begin []) Silent new later end
          (Then [] old core disk up.Connect (Says (down.Hello old.ltxid)) mid between at Still (subst (λ (t : Telling). HasServed (served_as up.Connect now) 1 t old core disk mid between at) told.0 served) refl)
          (subst (λ (t : Telling). HasServed (served_as (up.Begin []) now) 1 t mid between at new later end) told'.0 served') refl;
      going = going_on (up.Begin []) now 1 second between later at end mid new going' served';
      begun = told'.1;
      same = same' ∙ same;
      session = same_session (up.Begin []) now 1 second between later at end mid new going' served' ∙ same_session up.Connect now 1 first core between disk at old mid going served;
      grants = same_grants (up.Begin []) now 1 second between later at end mid new going' served' ∙ same_grants up.Connect now 1 first core between disk at old mid going served;
    }

-- it could not begin: a frame that touches no store is not stopped
pub begins_lacked : (error : ServeFault) (frame : Up) (now most : ℕ) (mid : Session) (between : Core) (at : DiskState) (old : Session) (core : Core) (disk : DiskState) (new : Session) (later : Core) (end : DiskState)
    → Serves (served_as frame now) most (Err error) mid between at new later end → at ≡ disk → (IsErrOf {T = Option Down} {E = ServeFault} (Err error) fault.Stopped → ⊥) → Begins now (Err error) old core disk new later end
begins_lacked fault.Stopped frame now most mid between at old core disk new later end stopped same never = never refl
begins_lacked fault.NoMemory frame now most mid between at old core disk new later end lacked same never = lacked.faults ∙ ap (λ (d : DiskState). d.faults) same

-- ---- its calls

-- What stands when some were run: whatever the rest is, it goes on behind them.
pub record SoFar (now : ℕ) (id : SessionId) (calls rest : List Call) (runs : List NoteRun) (old : Session) (core : Core) (disk : DiskState) (session : Session) (between : Core) (at : DiskState) : Type 0 where
  pub items : List Item
  pub through : Through now old core disk items session between at
  pub going : IsGoing between at session
  pub begun : session.life ≡ Begun
  pub grants : between.grants ≡ core.grants
  pub made : AllByRecursion IsMade rest
  pub so_far : (more : List (List Answer × List Draw)) (behind : List Happened) → RunsAre id now rest more behind → RunsAre id now calls (map run_of runs ++ more) (happened_in id now items ++ behind)

pub so_far_none : (now : ℕ) (id : SessionId) (calls : List Call) (old : Session) (core : Core) (disk : DiskState) → IsGoing core disk old → old.life ≡ Begun → AllByRecursion IsMade calls → SoFar now id calls calls [] old core disk old core disk
so_far_none now id calls old core disk going begun made = record { items = []; through = Still; going = going; begun = begun; grants = refl; made = made; so_far = λ more behind are. are }

module _ (now : ℕ) (id : SessionId) (calls : List Call) (called : Call) (rest : List Call) (runs : List NoteRun) (old : Session) (core : Core) (disk : DiskState) (session : Session) (between : Core) (at : DiskState)
    (so_far : SoFar now id calls (called ∷ rest) runs old core disk session between at) (new : Session) (later : Core) (end : DiskState) where
  life_told : (told : Telling) → HasServed (served_as (call_frame called) now) (1 + sequences_in (call_frame called)) told session between at new later end → CallTold new.life told
  life_told told served =
      let one = did (call_frame called) now (1 + sequences_in (call_frame called)) told between later at end session new so_far.going served in
      call_tells one.plain (sess_of session one.reads) now [] called one.after (sess_of new one.found) told one.step so_far.begun

  runs_behind : (told : Telling) (all : List (List Answer × List Draw)) (behind : List Happened) → RunsAre id now calls all (happened_in id now so_far.items ++ Served id now (call_frame called) told ∷ behind)
      → RunsAre id now calls all (happened_in id now (so_far.items ++ item (call_frame called) told ∷ []) ++ behind)
  runs_behind told all behind are =
      subst (RunsAre id now calls all)
      (sym (append_assoc (happened_in id now so_far.items) (Served id now (call_frame called) told ∷ []) behind) ∙ ap (λ (l : List Happened). l ++ behind) (sym (map-append (λ (one : Item). Served id now one.frame one.told) so_far.items (item (call_frame called) told ∷ [])))) are

  -- a reply
  with_reply : (run : NoteRun) (told : Option Down) → Some run ≡ run_in told → HasServed (served_as (call_frame called) now) (1 + sequences_in (call_frame called)) (told_of told) session between at new later end → CallTold new.life (told_of told)
      → SoFar now id calls rest (runs ++ run ∷ []) old core disk new later end
  with_reply run (Some (down.Reply answers draws x)) is served (Replies _ _ _ begun) =
      let same : run ≡ record { answers = answers; draws = draws } = cc in
      record {
        items = so_far.items ++ item (call_frame called) (Says (down.Reply answers draws x)) ∷ [];
        through = Then so_far.items session between at (call_frame called) (Says (down.Reply answers draws x)) new later end so_far.through served refl;
        going = going_on (call_frame called) now (1 + sequences_in (call_frame called)) (Says (down.Reply answers draws x)) between later at end session new so_far.going served;
        begun = begun;
        grants = same_grants (call_frame called) now (1 + sequences_in (call_frame called)) (Says (down.Reply answers draws x)) between later at end session new so_far.going served ∙ so_far.grants;
        made = so_far.made.1;
        so_far = λ more behind are.
            runs_behind (Says (down.Reply answers draws x)) (map run_of (runs ++ run ∷ []) ++ more) behind
            (subst (λ (l : List (List Answer × List Draw)). RunsAre id now calls l (happened_in id now so_far.items ++ Served id now (call_frame called) (Says (down.Reply answers draws x)) ∷ behind))
            (sym (append_assoc (map run_of runs) ((answers, draws) ∷ []) more) ∙ ap (λ (r : NoteRun). (map run_of runs ++ run_of r ∷ []) ++ more) (sym same) ∙ ap (λ (l : List (List Answer × List Draw)). l ++ more) (sym (map-append run_of runs (run ∷ []))))
            (so_far.so_far ((answers, draws) ∷ more) (Served id now (call_frame called) (Says (down.Reply answers draws x)) ∷ behind) (x, behind, (refl, are))));
      }
  with_reply run None is served told = absurd (let none : ⊥ = cc in none)
  with_reply run (Some (down.Hello x)) is served told = absurd (let none : ⊥ = cc in none)
  with_reply run (Some (down.OutcomeIs committed completed)) is served told = absurd (let none : ⊥ = cc in none)
  with_reply run (Some (down.OutcomeRefused ahead next)) is served told = absurd (let none : ⊥ = cc in none)
  with_reply run (Some (down.Refused cause)) is served told = absurd (let none : ⊥ = cc in none)
  with_reply run (Some down.Blocked) is served told = absurd (let none : ⊥ = cc in none)

  pub so_far_more : (run : NoteRun) → HasRunOne now called (Some run) session between at new later end → SoFar now id calls rest (runs ++ run ∷ []) old core disk new later end
  so_far_more run one = with_reply run one.told one.run_is one.served (life_told (told_of one.told) one.served)

  -- no reply: it was blocked
  without_reply : (told : Option Down) → None ≡ run_in told → HasServed (served_as (call_frame called) now) (1 + sequences_in (call_frame called)) (told_of told) session between at new later end → CallTold new.life (told_of told)
      → HasRunAll now id calls runs old core disk new later end
  without_reply (Some down.Blocked) is served told = record {
    items = so_far.items ++ item (call_frame called) (Says down.Blocked) ∷ [];
    through = Then so_far.items session between at (call_frame called) (Says down.Blocked) new later end so_far.through served refl;
    are =
        subst (λ (l : List (List Answer × List Draw)). RunsAre id now calls l (happened_in id now (so_far.items ++ item (call_frame called) (Says down.Blocked) ∷ []))) (append-nil (map run_of runs))
        (subst (RunsAre id now calls (map run_of runs ++ [])) (append-nil (happened_in id now (so_far.items ++ item (call_frame called) (Says down.Blocked) ∷ [])))
        (runs_behind (Says down.Blocked) (map run_of runs ++ []) [] (so_far.so_far [] (Served id now (call_frame called) (Says down.Blocked) ∷ []) refl)));
  }
  without_reply (Some (down.Reply answers draws x)) is served told = absurd (let none : ⊥ = cc in none)
  without_reply None is served told = absurd (may_tell new.life _ told)
  without_reply (Some (down.Hello x)) is served told = absurd (may_tell new.life _ told)
  without_reply (Some (down.OutcomeIs committed completed)) is served told = absurd (may_tell new.life _ told)
  without_reply (Some (down.OutcomeRefused ahead next)) is served told = absurd (may_tell new.life _ told)
  without_reply (Some (down.Refused cause)) is served told = absurd (may_tell new.life _ told)

  pub so_far_blocked : HasRunOne now called None session between at new later end → HasRunAll now id calls runs old core disk new later end
  so_far_blocked one = without_reply one.told one.run_is one.served (life_told (told_of one.told) one.served)

pub so_far_all : (now : ℕ) (id : SessionId) (calls : List Call) (runs : List NoteRun) (old : Session) (core : Core) (disk : DiskState) (session : Session) (between : Core) (at : DiskState) → SoFar now id calls [] runs old core disk session between at
    → HasRunAll now id calls runs old core disk session between at
so_far_all now id calls runs old core disk session between at so_far = record {
  items = so_far.items;
  through = so_far.through;
  are =
      subst (λ (l : List (List Answer × List Draw)). RunsAre id now calls l (happened_in id now so_far.items)) (append-nil (map run_of runs))
      (subst (RunsAre id now calls (map run_of runs ++ [])) (append-nil (happened_in id now so_far.items)) (so_far.so_far [] [] refl));
}

pub so_far_halted : (now : ℕ) (id : SessionId) (calls rest : List Call) (called : Call) (runs : List NoteRun) (old : Session) (core : Core) (disk : DiskState) (session : Session) (between : Core) (at end : DiskState) → SoFar now id calls rest runs old core disk session between at
    → HasStopped (served_as (call_frame called) now) (1 + sequences_in (call_frame called)) session between at end → HasHaltedIn now old core disk end
so_far_halted now id calls rest called runs old core disk session between at end so_far stopped = record { items = so_far.items; mid = session; between = between; at = at; through = so_far.through; frame = call_frame called; stopped = stopped }

-- no call so far, nor one that was answered behind them, failed
pub so_far_uncounted : (now : ℕ) (id : SessionId) (calls rest : List Call) (called : Call) (runs : List NoteRun) (run : Option NoteRun) (old : Session) (core : Core) (disk : DiskState) (session : Session) (between : Core) (at : DiskState) (new : Session) (later : Core) (end : DiskState)
    → SoFar now id calls rest runs old core disk session between at → HasRunOne now called run session between at new later end → end.faults ≡ disk.faults
so_far_uncounted now id calls rest called runs run old core disk session between at new later end so_far one = one.served.gained.faults ∙ (went now old core disk so_far.items session between at so_far.through).faults

-- ---- in a loop over them

-- the next one is in front of those that are left
pub at_call : (now : ℕ) (id : SessionId) (calls : List Call) (i : ℕ) (called : Call) (runs : List NoteRun) (old : Session) (core : Core) (disk : DiskState) (session : Session) (between : Core) (at : DiskState) → i < length calls → called ≡ get_or calls i called
    → SoFar now id calls (drop i calls) runs old core disk session between at → SoFar now id calls (called ∷ drop (i + 1) calls) runs old core disk session between at
at_call now id calls i called runs old core disk session between at within is so_far =
    subst (λ (l : List Call). SoFar now id calls l runs old core disk session between at) (drop_more calls i called within ∙ ap (λ (c : Call). c ∷ drop (i + 1) calls) (sym is)) so_far

pub halts_all : (fault : ServeFault) (now : ℕ) (id : SessionId) (calls rest : List Call) (called : Call) (runs : List NoteRun) (old : Session) (core : Core) (disk : DiskState) (session : Session) (between : Core) (at : DiskState) (new : Session) (later : Core) (end : DiskState)
    → SoFar now id calls rest runs old core disk session between at → RunsOne now called (Err fault) session between at new later end → RunsAll now id calls (Err fault) old core disk new later end
halts_all fault.Stopped now id calls rest called runs old core disk session between at new later end so_far stopped =
    (so_far_halted now id calls rest called runs old core disk session between at end so_far stopped.0, record { front = stopped.1.front; grants = stopped.1.grants ∙ so_far.grants })
halts_all fault.NoMemory now id calls rest called runs old core disk session between at new later end so_far lacked = lacked ∙ (went now old core disk so_far.items session between at so_far.through).faults

-- ---- a request, begun and run

pub runs_from : (now : ℕ) (calls : List Call) (result : Result (List NoteRun) ServeFault) (old : Session) (core : Core) (disk : DiskState) (mid : Session) (between : Core) (at : DiskState) (new : Session) (later : Core) (end : DiskState)
    → HasBegun now old core disk mid between at → RunsAll now (session_of mid.ltxid) calls result mid between at new later end → RunsFrom now calls result old core disk new later end
runs_from now calls (Ok runs) old core disk mid between at new later end begun ran = record { mid = mid; between = between; at = at; begun = begun; ran = ran }
runs_from now calls (Err fault.Stopped) old core disk mid between at new later end begun halted =
    (record { mid = mid; between = between; at = at; begun = begun; halted = halted.0 }, record { front = halted.1.front; grants = halted.1.grants ∙ begun.grants })
runs_from now calls (Err fault.NoMemory) old core disk mid between at new later end begun lacked = lacked ∙ ap (λ (d : DiskState). d.faults) begun.same

pub begins_not : (fault : ServeFault) (now : ℕ) (calls : List Call) (old : Session) (core : Core) (disk : DiskState) (new : Session) (later : Core) (end : DiskState) → Begins now (Err fault) old core disk new later end → RunsFrom now calls (Err fault) old core disk new later end
begins_not fault.Stopped now calls old core disk new later end never = absurd never
begins_not fault.NoMemory now calls old core disk new later end lacked = lacked
