-- A frame that was answered.
use Rattle.std.proofs.Common.{◌≡◌, ◌∙◌, ◌+◌, ◌*◌, ◌^◌, ◌<◌, ◌≤◌, ◌==◌, ℕ, Bool, true, false, refl, sym, ap, subst, List, [], ◌∷◌, ◌++◌, length, arith}
use Rattle.std.proofs.lemmas.Bool.Decides.{nat_tests}
use Rattle.std.specs.Prelude.{nat_eq, ◌≢◌, not, IsTrue, Option, Some, None, Result, IfOk, if◌then◌else◌}
use Rattle.disk_model.specs.Disk.{DiskState, Lowered}
use Rattle.svc_values.specs.declared.entry.SessionId.{SessionId}
use Rattle.svc_values.specs.declared.frame.Up.{Up}
use Rattle.svc_values.specs.meaning.Calls.{sequences_in}
use Rattle.svc_values.specs.meaning.Identifiers.{ltxid_of, session_of}
use Rattle.mutable_values.specs.declared.grants.Grants.{Grants}
use Rattle.commit_log.specs.declared.journal.Journal.{Journal}
use Rattle.commit_log.specs.declared.records.Record.{Record}
use Rattle.stmt_meaning.specs.meaning.Reads.{Read}
use Rattle.table_txn.specs.Readings.{AreReadings}
use Rattle.server_model.specs.meaning.Base.{Base}
use Rattle.server_model.specs.Core.{Core as Plain}
use Rattle.server_model.specs.meaning.Outcomes.{Telling, Silent, Says, Stopped}
use Rattle.server_model.specs.Runs.{Happened, Served, Server, On, Then, Answers, Turns, is_answered}
use Rattle.server_model.specs.Seen.{Store, Seen, Connections, Keeps, SameLiving, with_connection, without_connection}
use Rattle.server_model.specs.ServiceCalls.{ServedOne, HoldsBehind, StopCause, ends_session, living_after, is_up_after, may_store}
use Rattle.server_model.specs.Laws.{StaysIn}
use Rattle.server_model.specs.Serve.{Serve}
use Rattle.server_model.specs.Sessions.{Sess}
use Rattle.server_model.proofs.Offered.{AddsBy, answered_adds, serve_stays}
use Rattle.server_session.specs.declared.shared.Core.{Core}
use Rattle.server_session.specs.Fits.{Belongs}
use Rattle.server_session.specs.Plain.{IsStored, IsPlain}
use Rattle.server_session.specs.SeenSession.{SeenSession as Session, begins, sess_of, is_alive}
use Rattle.server_session.specs.Serving.{HasServed, served_as}
use Rattle.service_calls.specs.Kept.{HaveOneBase}
use Rattle.service_core.specs.declared.notes.Notes.{Notes}
use Rattle.service_core.specs.Held.{Held, held_at, Holds, id_of, shown, living_of}
use Rattle.service_core.specs.Seeing.{Attends, Came, StandsUp, store_of, state_of}
use Rattle.service_core.specs.Sound.{IsHeld, IsUp, unmade}
use Rattle.service_core.specs.Taking.{IsTaken, kept_of}
use Rattle.service_core.proofs.Ending.{serve_ends, serve_tells}
use Rattle.service_core.proofs.Faulty.{still_none, still_room}
use Rattle.service_core.proofs.Gained.{added_grew, adds_between, grew_base, book_stored, records_more, stored_between, blocks_between}
use Rattle.service_core.proofs.Limits.{IfMade, Limits, limits_so}
use Rattle.service_core.proofs.Splits.{stays_between}
use Rattle.service_core.proofs.Standing.{later_call, living_is, none_more, seen_with}
use Rattle.service_core.proofs.Taken.{IsReady, StaysSo, made_ready, not_fewer, taken_counted, others_apart, session_shown, stays_so, taken_held}

-- ---- stops

lowered_from : (n left : ℕ) (before after : Option ℕ) → Lowered n before after → before ≡ Some left → n ≤ left
lowered_from n left None after lowered some = absurd (let no : ⊥ = cc in no)
lowered_from n left (Some before) None lowered some = absurd lowered
lowered_from n left (Some before) (Some after) lowered some = let same : before ≡ left = cc in omega (arith, lowered, same)

-- ---- what a connection holds afterwards

data At (connection : ℕ) (new : Session) (rest : Held) (other : ℕ) (another : Session) : Type 0 where
  Own : other ≡ connection → another ≡ new → is_alive new.life ≡ true → At connection new rest other another
  Other : held_at rest other ≡ Some (Some another) → At connection new rest other another

at_after : (connection : ℕ) (new : Session) (rest after : Held) (other : ℕ) (another : Session) → Holds connection (kept_of new) rest after → held_at after other ≡ Some (Some another) → At connection new rest other another
at_after connection new rest after other another put at = by (nat_eq connection other) (same_number connection other) (sym (put other) ∙ at)
  where
    same_number : (a b : ℕ) → nat_eq a b ≡ true → b ≡ a
    same_number a b is = grind (arith, nat_tests)

    own : (alive : Bool) → is_alive new.life ≡ alive → other ≡ connection → (if alive then Some (Some new) else None) ≡ Some (Some another) → At connection new rest other another
    own true alive number same = Own number (let e : ◌≡◌ {A = Option (Option Session)} (Some (Some new)) (Some (Some another)) = same in cc) alive
    own false alive number same = absurd (let e : ◌≡◌ {A = Option (Option Session)} None (Some (Some another)) = same in let no : ⊥ = cc in no)

    by : (is : Bool) → (is ≡ true → other ≡ connection) → (if is then kept_of new else held_at rest other) ≡ Some (Some another) → At connection new rest other another
    by true number same = own (is_alive new.life) refl (number refl) same
    by false number same = Other same

-- what is shown of it
shown_after : (ends alive own : Bool) (new : Session) (session : SessionId) (before : Option (Option SessionId)) → alive ≡ not ends → id_of new ≡ session
    → (if own then shown (if alive then Some (Some new) else None) else (if own then Some None else before)) ≡ (if ends then (if own then None else before) else (if own then Some (Some session) else before))
shown_after true true own new session before is same = absurd (let no : ⊥ = cc in no)
shown_after true false true new session before is same = refl
shown_after true false false new session before is same = refl
shown_after false true true new session before is same = ap (λ (s : SessionId). Some (Some s)) same
shown_after false true false new session before is same = refl
shown_after false false own new session before is same = absurd (let no : ⊥ = cc in no)

-- The plain server did the same.
record Stepped (frame : Up) (now : ℕ) (told : Telling) (core : Plain) (session : Session) (reads : List Read) (new : Session) (later : Core) (end : DiskState) : Type 0 where
  pub after : Plain
  pub plain : IsPlain after later end
  pub found : List Read
  pub noted : AreReadings new.txn.readings found
  pub step : Serve core (sess_of session reads) now frame after (sess_of new found) told

-- ---- the service

module _ (grants : Grants) (disk end : DiskState) (core later : Core) (held rest after : Held) (notes : Notes) (made connection now : ℕ) (frame : Up) (told : Telling) (session new : Session) (kept : Option ℕ) (kept_is : kept ≡ disk.stop) (up : IsUp grants disk core held notes)
    (taken : IsTaken core held notes.sessions connection session rest made) (put : Holds connection (kept_of new) rest after) (served : HasServed (served_as frame now) (1 + sequences_in frame) told session core disk new later end) where
  abbrev pub served_notes : Notes
  served_notes = record notes { sessions = made; kept = kept; calls = notes.calls + 1 }

  own : IsHeld core made session
  own = taken_held grants disk core held notes connection session made up taken.session_is

  stay : StaysSo core later session new
  stay = stays_so frame now (1 + sequences_in frame) told core later disk end session new own.reads own.noted up.fits served

  limits : Limits session new told
  limits = limits_so frame now (1 + sequences_in frame) told core later disk end session new own.reads own.noted up.fits served

  -- what is told keeps within the limits of frames
  pub served_made : notes.calls < 2 ^ 48 → IfMade told
  served_made few =
      let more = not_fewer core held notes.sessions connection session made taken.session_is in
      let number = taken_counted grants disk core held notes connection session made up taken.session_is in
      limits.made (omega (arith, few, up.room, served.belongs.incarnation, stay.incarnation), omega (arith, few, up.few, own.numbered, stay.number, more.1), omega (arith, few, number, limits.number))

  apart_from : (other : ℕ) (another : Session) → held_at rest other ≡ Some (Some another) → another.ltxid.session ≢ session.ltxid.session
  apart_from other another at = others_apart grants disk core held rest notes connection other session another made up taken.session_is taken.left at

  held_after : (other : ℕ) (another : Session) → At connection new rest other another → IsHeld later made another
  held_after other another (Own number is alive) =
      subst (λ (s : Session). IsHeld later made s) (sym is) (record { reads = stay.reads; noted = stay.noted; belongs = served.belongs; lives = alive; numbered = omega (arith, own.numbered, stay.number) })
  held_after other another (Other at) =
      let one = up.each other another (none_more connection held rest taken.left other another at) in
      let more = not_fewer core held notes.sessions connection session made taken.session_is in
      record { reads = one.reads; noted = one.noted; belongs = served.others another (apart_from other another at) one.belongs; lives = one.lives; numbered = omega (arith, one.numbered, more.0) }

  counted_after : (other : ℕ) (another : Session) → At connection new rest other another → another.ltxid.number ≤ notes.calls + 1
  counted_after other another (Own number is alive) =
      let before = taken_counted grants disk core held notes connection session made up taken.session_is in
      let same : another.ltxid.number ≡ new.ltxid.number = ap (λ (s : Session). s.ltxid.number) is in
      omega (arith, before, limits.number, same)
  counted_after other another (Other at) = later_call another.ltxid.number notes.calls (up.counted other another (none_more connection held rest taken.left other another at))

  apart_after : (one other : ℕ) (a b : Session) → At connection new rest one a → At connection new rest other b → b.ltxid.session ≡ a.ltxid.session → other ≡ one
  apart_after one other a b (Own number is alive) (Own number' is' alive') same = number' ∙ sym number
  apart_after one other a b (Own number is alive) (Other at) same = absurd (apart_from other b at (same ∙ ap (λ (s : Session). s.ltxid.session) is ∙ stay.number))
  apart_after one other a b (Other at) (Own number is alive) same = absurd (apart_from one a at (sym same ∙ ap (λ (s : Session). s.ltxid.session) is ∙ stay.number))
  apart_after one other a b (Other at) (Other at') same = up.apart one other a b (none_more connection held rest taken.left one a at) (none_more connection held rest taken.left other b at') same

  unmade_after : (number : ℕ) → made < number → Belongs later (unmade later number)
  unmade_after number above =
      let more = not_fewer core held notes.sessions connection session made taken.session_is in
      let apart : number ≢ session.ltxid.session = (λ same. let no : ⊥ = omega (arith, own.numbered, above, same) in no) in
      subst (λ n. Belongs later (begins (ltxid_of (record { incarnation = n; session = number }) 0))) (sym stay.incarnation)
      (served.others (unmade core number) apart (up.unmade_belong number (omega (arith, more.0, above))))

  pub served_up : IsUp grants end later after served_notes
  served_up =
      let more = not_fewer core held notes.sessions connection session made taken.session_is in
      record {
        fits = served.fits;
        granted = stay.grants ∙ up.granted;
        faults = still_room disk.faults end.faults notes served_notes up.faults served.gained.faults (omega arith) refl;
        settled = up.settled;
        room = omega (arith, up.room, stay.incarnation);
        few = omega (arith, up.few, more.1);
        crashes = omega (arith, up.crashes);
        each = λ other another at. held_after other another (at_after connection new rest after other another put at);
        counted = λ other another at. counted_after other another (at_after connection new rest after other another put at);
        unmade_belong = unmade_after;
        apart = λ one other a b here there same. apart_after one other a b (at_after connection new rest after one a put here) (at_after connection new rest after other b put there) same;
      }

  pub served_base : HaveOneBase disk.now.seen end.now.seen
  served_base = grew_base disk.now.seen served.records up.fits.journal end.now.seen up.fits.reads (added_grew disk.now.seen served.records up.fits.journal end.now.seen up.fits.reads served.gained.added)

  -- ---- the plain server beside it

  module _ (start : Base) (history : List Happened) (answered : IsTrue (is_answered told)) (came : Came start history (StandsUp disk core held notes.sessions)) where
    ready : Came start history (IsReady disk core rest made session)
    ready = made_ready grants disk core held rest notes connection session made start history taken.left taken.session_is came

    one : Happened
    one = Served (session_of session.ltxid) now frame told

    old_sess : Sess
    old_sess = sess_of session ready.stands.own.reads

    stepped : Stepped frame now told ready.server.core session ready.stands.own.reads new later end
    stepped =
        let steps = served.steps ready.server.core ready.stands.own.reads ready.stands.stands.plain ready.stands.own.noted in
        record { after = steps.0; plain = steps.1.0; found = steps.1.1.reads; noted = steps.1.1.noted; step = steps.1.1.steps }

    new_sess : Sess
    new_sess = sess_of new stepped.found

    stays : StaysIn ready.server.core old_sess stepped.after new_sess
    unfolding old_sess new_sess
    stays = serve_stays ready.server.core old_sess now frame stepped.after new_sess told stepped.step

    server_after : Server
    server_after = record { power = On; core = stepped.after; sessions = ready.stands.own.front ++ new_sess ∷ ready.stands.own.back; count = ready.server.count }

    turns : Turns ready.server server_after old_sess new_sess stepped.after On
    unfolding old_sess server_after
    turns = record { front = ready.stands.own.front; back = ready.stands.own.back; split = ready.stands.own.split; turned = refl }

    attends_after : (other : ℕ) (another : Session) → At connection new rest other another → Attends server_after.sessions another
    unfolding old_sess new_sess server_after
    attends_after other another (Own number is alive) = subst (Attends server_after.sessions) (sym is) (record { reads = stepped.found; noted = stepped.noted; front = ready.stands.own.front; back = ready.stands.own.back; split = refl })
    attends_after other another (Other at) =
        let a = ready.stands.stands.attends other another at in
        let between = stays_between ready.stands.own.front ready.stands.own.back a.front a.back old_sess new_sess (sess_of another a.reads) (sym ready.stands.own.split ∙ a.split)
        (λ same. apart_from other another at (sym (ap (λ (s : Sess). s.ltxid.session) same))) in
        record { reads = a.reads; noted = a.noted; front = between.front; back = between.back; split = between.split }

    pub served_came : Came start (history ++ Served (session_of session.ltxid) now frame told ∷ []) (StandsUp end later after made)
    unfolding one old_sess new_sess server_after
    served_came = record {
      server = server_after;
      runs = Then history (one ∷ []) ready.server server_after ready.runs (Answers old_sess new_sess now frame stepped.after told server_after ready.stands.stands.power stepped.step answered turns);
      is_base = stays.base ∙ ready.is_base;
      stands = record { power = refl; plain = stepped.plain; count = ready.stands.stands.count; attends = λ other another at. attends_after other another (at_after connection new rest after other another put at) };
    }

    -- ---- what is done

    abbrev before : Seen
    before = seen_with start history (state_of disk (Some core) held notes)

    abbrev behind : Seen
    behind = seen_with start (history ++ Served (session_of session.ltxid) now frame told ∷ []) (state_of end (Some later) after served_notes)

    keeps : notes.is_spent ≡ false → Keeps before behind
    keeps live = record {
      start = refl;
      is_opened = refl;
      is_quiet = served.gained.quiet;
      per_record = refl;
      crashes = (refl, refl, refl);
      faults = omega (arith, served.gained.faults);
      stop = λ none. still_none (4 * length served.records) disk.stop end.stop served.gained.stop none;
      calls = refl;
      is_spent = live;
    }

    ends_is : is_alive new.life ≡ not (ends_session frame told)
    unfolding old_sess new_sess
    ends_is = serve_ends ready.server.core old_sess now frame stepped.after new_sess told stepped.step answered

    living_so : (other : ℕ) → living_of after other ≡ (if ends_session frame told then without_connection connection (living_of held) else with_connection connection (Some (session_of session.ltxid)) (living_of held)) other
    unfolding old_sess new_sess
    living_so other =
        living_is connection (kept_of new) rest after put other
        ∙ ap (λ (l : Option (Option SessionId)). if other == connection then shown (kept_of new) else l) (living_is connection (Some None) held rest taken.left other)
        ∙ shown_after (ends_session frame told) (is_alive new.life) (other == connection) new (session_of session.ltxid) (living_of held other) ends_is stays.session
        ∙ by (ends_session frame told)
      where
        by : (ends : Bool) → (if ends then (if other == connection then None else living_of held other) else (if other == connection then Some (Some (session_of session.ltxid)) else living_of held other))
            ≡ (if ends then without_connection connection (living_of held) else with_connection connection (Some (session_of session.ltxid)) (living_of held)) other
        by true = refl
        by false = refl

    stored_before : IsStored ready.server.core up.fits.journal
    stored_before = subst (λ (r : Result Journal ℕ). IfOk r (IsStored ready.server.core)) up.fits.reads ready.stands.stands.plain.stored

    stored_behind : IsStored stepped.after served.fits.journal
    stored_behind = subst (λ (r : Result Journal ℕ). IfOk r (IsStored stepped.after)) served.fits.reads stepped.plain.stored

    cause : StopCause before behind (1 + sequences_in frame) told
    cause = record {
      rose = λ stopped. absurd (let no : ⊥ = none_stopped stopped in no);
      quiet = λ quiet changed. absurd (changed served.gained.faults);
      reached = λ left set changed answered. by served.records (records_more disk.now.seen served.records end.now.seen up.fits.journal up.fits.reads served.gained.added) (lowered_from (4 * length served.records) left disk.stop end.stop served.gained.stop set) changed;
    }
      where
        none_stopped : told ≡ Stopped → ⊥
        none_stopped is = let none : false ≡ true = subst (λ (t : Telling). IsTrue (is_answered t)) is answered in let no : ⊥ = cc in no

        by : {left : ℕ} (records : List Record) → (store_of end.now.seen).records ≡ (store_of disk.now.seen).records + length records → 4 * length records ≤ left → (store_of end.now.seen).records ≢ (store_of disk.now.seen).records → 4 ≤ left
        by [] more least changed = absurd (changed (omega (arith, more)))
        by (record_added ∷ records) more least changed = omega (arith, least)

    -- an answer, by its telling
    living_told : (said : Telling) → IsTrue (is_answered said) → (living : Connections)
        → SameLiving living (if ends_session frame said then without_connection connection (living_of held) else with_connection connection (Some (session_of session.ltxid)) (living_of held))
        → SameLiving living (living_after frame said connection (session_of session.ltxid) (living_of held))
    living_told Silent is living same = same
    living_told (Says down) is living same = same
    living_told Stopped is living same = absurd (let no : ⊥ = cc in no)

    up_told : (said : Telling) → IsTrue (is_answered said) → true ≡ is_up_after said
    up_told Silent is = refl
    up_told (Says down) is = refl
    up_told Stopped is = absurd (let no : ⊥ = cc in no)

    behind_told : (said : Telling) → IsTrue (is_answered said) → (leaves Holds : Store → Type 0) → HoldsBehind said leaves Holds
    behind_told Silent is leaves Holds = tt
    behind_told (Says down) is leaves Holds = tt
    behind_told Stopped is leaves Holds = absurd (let no : ⊥ = cc in no)

    not_stopped : (said : Telling) → IsTrue (is_answered said) → said ≢ Stopped
    not_stopped Silent is same = let no : ⊥ = cc in no
    not_stopped (Says down) is same = let no : ⊥ = cc in no
    not_stopped Stopped is same = let no : ⊥ = cc in no

    adds : AddsBy (Served (session_of session.ltxid) now frame told) ready.server.core stepped.after
    unfolding old_sess new_sess
    adds = answered_adds ready.server.core old_sess now frame stepped.after new_sess told stepped.step answered

    pub served_does : (leaves : Store → Type 0) → notes.is_spent ≡ false → (may_store frame ≡ false → end ≡ disk) → ServedOne before connection now frame told leaves behind
    unfolding old_sess new_sess
    served_does leaves live silent = record {
      keeps = keeps live;
      session = session_of session.ltxid;
      of_connection = session_shown grants disk core held notes connection session made start history up taken.session_is;
      history = refl;
      living = living_told told answered (living_of after) living_so;
      is_up = up_told told answered;
      kept = kept_is;
      outcome = serve_tells (store_of disk.now.seen) ready.server.core old_sess now frame stepped.after new_sess told (book_stored ready.server.core disk.now.seen up.fits.journal up.fits.reads stored_before) stepped.step;
      adds =
          adds_between (Served (session_of session.ltxid) now frame told) (1 + sequences_in frame) ready.server.core stepped.after adds disk.now.seen end.now.seen served.records up.fits.journal served.fits.journal up.fits.reads served.fits.reads stored_before stored_behind
          (record { base = stays.base; incarnation = stays.incarnation; horizon = stays.horizon }) served.gained.added served.few;
      left = behind_told told answered leaves _;
      stored = stored_between ready.server.core stepped.after disk.now.seen end.now.seen up.fits.journal served.fits.journal up.fits.reads served.fits.reads stored_before stored_behind old_sess new_sess now frame told stepped.step;
      blocks = blocks_between ready.server.core stepped.after disk.now.seen end.now.seen up.fits.journal served.fits.journal up.fits.reads served.fits.reads stored_before stored_behind old_sess new_sess now frame told stepped.step;
      cause = cause;
      silent = λ quiet. (not_stopped told answered, ap (λ (d : DiskState). d.faults) (silent quiet), ap (λ (d : DiskState). store_of d.now.seen) (silent quiet));
    }
