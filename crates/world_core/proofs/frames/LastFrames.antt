-- The frame that is served under a stop: answered, stopped, or none.
use Rattle.std.proofs.Common.{◌≡◌, ◌≤◌, ◌<◌, ℕ, ◌+◌, ◌==◌, Bool, true, false, List, [], ◌∷◌, ◌++◌, Option, Some, None, length, refl, sym, ap, ◌∙◌, subst, arith, eq-eqb}
use Rattle.std.specs.Prelude.{◌*◌, ◌&&◌, ◌||◌, not, nat_le, if◌then◌else◌}
use Rattle.std.specs.Option.{option_map_or}
use Rattle.std.proofs.lemmas.Bool.{le-leb, lt-ltb}
use Rattle.std.proofs.lemmas.List.{append-nil}
use Rattle.svc_values.specs.declared.entry.SessionId.{SessionId}
use Rattle.svc_values.specs.declared.frame.Up.{Up}
use Rattle.svc_values.specs.declared.frame.Up.TheVariants as up
use Rattle.svc_values.specs.declared.frame.Down.{Down}
use Rattle.svc_values.specs.meaning.Calls.{sequences_in}
use Rattle.svc_values.specs.meaning.Identifiers.{same_session}
use Rattle.svc_values.specs.Laws.{AreExact}
use Rattle.svc_values.specs.meaning.Same.{same_bool, same_call}
use Rattle.outage_schedule.specs.declared.note.AskResult.{AskResult}
use Rattle.outage_schedule.specs.declared.note.AskResult.TheVariants as told
use Rattle.outage_schedule.specs.declared.item.Served.{Served}
use Rattle.server_model.specs.Laws.{stops_last}
use Rattle.server_model.specs.meaning.Outcomes.{Telling, Stopped, telling_of}
use Rattle.server_model.specs.Runs.{Happened, Served as ServedFrame}
use Rattle.server_model.specs.Seen.{Store, Seen, IsHistory}
use Rattle.server_model.specs.ServiceCalls.{Gains, ServedOne, SessionOf, may_store, with_stop}
use Rattle.world_model.specs.records.Basic.{living_now}
use Rattle.world_model.specs.Coupled.{living_of, life_by, SameServer, Coupled}
use Rattle.world_model.specs.meaning.Crashing.{is_crashed_item, is_stopped, is_over, is_alert, is_new_block, has_stored, with_doubt, after_stopped, serves_last}
use Rattle.world_model.specs.records.Hold.{is_connect}
use Rattle.world_model.specs.meaning.Links.{Link}
use Rattle.world_model.specs.meaning.Machines.{Server, Machine}
use Rattle.world_model.specs.meaning.ServiceDid.{item_telling}
use Rattle.world_model.specs.ServiceDid.{front_served}
use Rattle.world_model.specs.meaning.Serving.{Front, front_at, outcome_frame, is_item_of, is_served_by, is_commit, commits_after, after_served, server_after}
use Rattle.world_model.specs.ToldByStore.{AreByStore}
use Rattle.world_model.specs.Traced.{Traced}
use Rattle.world_core.specs.Answering.{session_served, served_item, crashed_item}
use Rattle.world_core.proofs.frames.InOrder.{Answers, Connects, Begins, Replies, Blocks, Tells, Ends, Closes, ServedWith}
use Rattle.world_core.specs.Stopping.{AreKnown, ServedLast}
use Rattle.world_core.proofs.Coupling.{begun, none_came, none_asked}
use Rattle.world_core.proofs.frames.Serving.{item_now, served_so}
use Rattle.world_core.proofs.frames.Sessions.{session_most, which, session_from, answered_last}
use Rattle.world_core.proofs.frames.Fronts.{front_there}
use Rattle.world_core.proofs.frames.Ordered.{ServesInOrder}
use Rattle.world_core.proofs.frames.Added.{one_added, entry_added, others_added}
use Rattle.world_core.proofs.frames.Blocking.{known_blocks, known_served, known_stopped}
use Rattle.world_core.proofs.frames.Living.{life_apart}
use Rattle.world_core.proofs.frames.Recorded.{named_by, recorded}
use Rattle.world_core.proofs.frames.Stops.{stops_behind}
use Rattle.world_core.proofs.frames.Written.{reads, bools_same, same_named, named_session, stays_up}

-- UNDER THE STOP ----------------------------------------------------------------------------------

same_history : (seen : Seen) (stop : Option ℕ) → IsHistory seen → IsHistory (with_stop seen stop)
same_history seen stop h = record { server = h.server; runs = h.runs; entries = h.entries; blocked = h.blocked; alerts = h.alerts; incarnation = h.incarnation; horizon = h.horizon; count = h.count; power = h.power }

same_server : (server : Server) (seen : Seen) (stop : Option ℕ) → SameServer server seen → SameServer server (with_stop seen stop)
same_server server seen stop same = record { is_up = same.is_up; per_record = same.per_record; opened = same.opened; closed = same.closed }

pub stop_coupled : (seen : Seen) (t : Traced) (stop : Option ℕ) → Coupled seen t → Coupled (with_stop seen stop) t
stop_coupled seen t stop coupled = record {
  history = same_history seen stop coupled.history;
  sound = coupled.sound;
  stops = coupled.stops;
  server = same_server t.machine.server seen stop coupled.server;
  living = coupled.living;
  stored = coupled.stored;
  lives = coupled.lives;
  later = coupled.later;
  entries = coupled.entries;
  blocked = coupled.blocked;
  image = coupled.image;
  blocks = coupled.blocks;
}

few_calls : (old new : ℕ) → new ≡ old + 1 + 1 → new ≤ old + 2
few_calls old new is = omega (arith, is)

-- NO FRAME ----------------------------------------------------------------------------------------

gains_none : (happened : List Happened) (store : Store) → Gains happened store store
gains_none happened store = record {
  incarnation = refl;
  horizon = refl;
  more_entries = [];
  more_blocked = [];
  more_alerts = [];
  entries = sym (append-nil store.entries);
  blocked = sym (append-nil store.blocked);
  alerts = sym (append-nil store.alerts);
  own = none_came happened;
  asked = none_asked happened;
}

served_none : (now : ℕ) (found : Option Front) → front_served now found [] ≡ []
served_none now None = refl
served_none now (Some front) = refl

pub last_none : (seen : Seen) (t : Traced) (number after : ℕ) (leaves : Store → Type 0) → Coupled seen t → seen.state.is_up ≡ true → seen.state.is_spent ≡ false → front_at t.machine.links number ≡ None
    → ServedLast seen t number after [] leaves (with_stop seen (Some after)) (begun t.machine)
last_none seen t number after leaves coupled up live there = record {
  follows = ap (serves_last (begun t.machine) number after []) there;
  server = (refl, refl, refl);
  others = (refl, refl, refl);
  start = refl;
  history = sym (append-nil seen.history) ∙ ap (λ h. seen.history ++ h) (sym (served_none t.machine.tick (front_at t.machine.links number)));
  told = subst (AreByStore seen.state.store) (sym (served_none t.machine.tick (front_at t.machine.links number))) tt;
  lasts = coupled.stops;
  later = λ session above. refl;
  per_record = refl;
  crashes = refl;
  kept = λ fallen is. tt;
  ready = (live, refl, refl, omega arith);
  left = λ store leaves_it same. subst (λ s. Gains (front_served t.machine.tick (front_at t.machine.links number) []) seen.state.store s) (sym (same up)) (gains_none (front_served t.machine.tick (front_at t.machine.links number) []) seen.state.store);
  blocks = λ store leaves_it same. subst (λ s. AreKnown t.machine.server s.blocked) (sym (same up)) (known_blocks seen t coupled);
}

-- WHAT IS NOT IN IT -------------------------------------------------------------------------------

other_incarnation : (a b : SessionId) → a.incarnation < b.incarnation → a ≡ b → ⊥
other_incarnation a b less same = let one : a.incarnation ≡ b.incarnation = ap (λ (s : SessionId). s.incarnation) same in omega (arith, less, one)

-- the frame is of this incarnation
later_behind : AreExact → (seen new : Seen) (t : Traced) (number : ℕ) (front : Front) (session : SessionId) (told : Telling) (sessions : ℕ) → Coupled seen t → seen.state.is_up ≡ true → living_now t ≡ true → front_at t.machine.links number ≡ Some front
    → SessionOf seen number session sessions → new.history ≡ seen.history ++ ServedFrame session t.machine.tick front.first.frame told ∷ []
    → (other : SessionId) → t.machine.server.incarnation < other.incarnation → life_by new.history other ≡ life_by seen.history other
later_behind exact seen new t number front session told sessions coupled up now there of added other above =
    let least = session_most seen t number front session sessions coupled up now there of in
    let opened = (coupled.server.opened up).0 in
    let below : session.incarnation < other.incarnation = omega (arith, least, opened, above) in
    ap (λ h. life_by h other) added ∙ life_apart exact seen.history (ServedFrame session t.machine.tick front.first.frame told ∷ []) other (other_incarnation session other below, tt)

-- ANSWERED ----------------------------------------------------------------------------------------

never_crashed : (session : SessionId) (commits : ℕ) (frame : Up) (reply : Option Down) → Answers session commits frame reply → is_crashed_item frame (served_item frame reply) ≡ false
never_crashed session commits _ _ Connects = refl
never_crashed session commits _ _ (Begins settings) = refl
never_crashed session commits _ _ (Replies replay kept call answers draws) = refl
never_crashed session commits _ _ (Blocks replay kept call) = refl
never_crashed session commits _ _ (Tells x result) = outcome result
  where
    outcome : (result : AskResult) → is_crashed_item (up.Outcome x) (served_item (up.Outcome x) (Some (outcome_frame result))) ≡ false
    outcome (told.Committed completed) = refl
    outcome told.Uncommitted = refl
    outcome (told.ServerAhead next) = refl
    outcome (told.ClientAhead next) = refl
    outcome (told.Forgotten horizon) = refl
never_crashed session commits _ _ Ends = refl
never_crashed session commits _ _ Closes = refl

unstopped : (a b c : Bool) → b ≡ false → (a && (b && c)) ≡ false
unstopped true b c p = rw p refl
unstopped false b c p = refl

ordinary : (a b c : Bool) → a ≡ true → b ≡ true → c ≡ true → ((a && b) && c) ≡ true
ordinary a b c p q r = rw (p, q, r) refl

over : (a b c : Bool) → a ≡ true → (b ≡ true → c ≡ true) → (a && (not b || c)) ≡ true
over a true c p reaches = rw (p, reaches refl) refl
over a false c p reaches = rw p refl

not_told : (reply : Option Down) → telling_of reply ≡ Stopped → ⊥
not_told None e = let nothing : ⊥ = cc in nothing
not_told (Some told) e = let nothing : ⊥ = cc in nothing

by_tests : (m : Machine) (number after : ℕ) (front : Front) (served : Served) (stopped passes : Bool) → is_stopped m after front served ≡ stopped → stopped ≡ false → is_over m after front served ≡ passes → passes ≡ true
    → serves_last m number after (served ∷ []) (Some front) ≡ Some (after_served m number front served, [])
by_tests m number after front served stopped passes is_s s is_o o = rw (is_s ∙ s, is_o ∙ o) refl

module _ (seen new : Seen) (t : Traced) (number after : ℕ) (front : Front) (leaves : Store → Type 0) (exact : AreExact) (coupled : Coupled seen t) (up : seen.state.is_up ≡ true) (there : front_at t.machine.links number ≡ Some front)
    (ordered : ServesInOrder (with_stop seen (Some after)) t number front) (history : IsHistory new) where
  abbrev m : Machine
  m = begun t.machine

  abbrev stopped_seen : Seen
  stopped_seen = with_stop seen (Some after)

  abbrev frame : Up
  frame = front.first.frame

  lasts_with : (session : SessionId) (told : Telling) → new.history ≡ seen.history ++ ServedFrame session t.machine.tick frame told ∷ [] → stops_last (ServedFrame session t.machine.tick frame told ∷ []) ≡ true
      → seen.state.store.incarnation ≤ session.incarnation → stops_last new.history ≡ true
  lasts_with session told added lasts from = ap stops_last added ∙ stops_behind seen (ServedFrame session t.machine.tick frame told ∷ []) coupled.sound coupled.history up coupled.stops lasts (from, tt)

  pub last_answered : (reply : Option Down) (did : ServedWith stopped_seen number t.machine.tick frame reply new)
      → ServedLast seen t number after (item_now t.machine front did.session reply ∷ []) leaves new (after_served m number front (item_now t.machine front did.session reply))
  last_answered reply did =
      let coupled_stopped = stop_coupled seen t (Some after) coupled in
      let session = did.session in
      let served = item_now t.machine front session reply in
      let answered = ordered.answered reply new history did in
      let read = reads exact session number front.link.commits frame reply answered in
      let by = served_so exact stopped_seen new t number front reply coupled_stopped there ordered history did in
      let stays = stays_up t.machine.server served.item in
      let happened : ServedFrame session t.machine.tick frame (telling_of reply) ∷ [] ≡ front_served t.machine.tick (front_at t.machine.links number) (served ∷ []) =
      ap (λ (told : Telling). ServedFrame session t.machine.tick frame told ∷ []) (sym read.tells) ∙ ap (λ found. front_served t.machine.tick found (served ∷ [])) (sym there) in
      let item = ordinary (served.event == m.event) (is_served_by m.server front.link frame session) (is_item_of frame served.item) (eq-eqb m.event m.event refl) by.is_served read.is_item in
      let at = front_there t.machine.links number front there in
      let gains = did.adds.gains in
      let known = known_blocks seen t coupled in
      let counted : is_commit served.item ≡ true → 1 ≤ length gains.more_entries = λ commits.
      let one = entry_added session front.link.commits frame reply seen.state.store new.state.store answered did.stored (sym read.commits_so ∙ commits) in
      one_added seen.state.store.entries gains.more_entries new.state.store.entries one.0 gains.entries one.1 in
      let reaches : has_stored m.server served.item ≡ true → nat_le m.server.per_record after ≡ true = λ stored.
      let few = did.cause.reached after refl
      (recorded (is_commit served.item) (is_alert served.item || is_new_block m.server served.item) seen.state.store.records new.state.store.records (length gains.more_entries) (length gains.more_blocked) (length gains.more_alerts) did.adds.stored counted (others_added session front.link.commits frame reply m.server (ServedFrame session t.machine.tick frame (telling_of reply) ∷ []) seen.state.store new.state.store gains answered known did.stored) stored)
      (not_told reply) in
      le-leb m.server.per_record after (subst (λ n. n ≤ after) (sym coupled.server.per_record) few) in
      record {
        follows = ap (serves_last m number after (served ∷ [])) there
            ∙ by_tests m number after front served false true (unstopped _ _ _ (never_crashed session front.link.commits frame reply answered)) refl (over _ _ _ item reaches) refl;
        server = (stays.incarnation, stays.per_record, stays.stopped);
        others = (refl, refl, refl);
        start = did.keeps.start;
        history = did.history ∙ ap (λ h. seen.history ++ h) happened;
        told = subst (AreByStore seen.state.store) happened (did.outcome, tt);
        lasts = lasts_with session (telling_of reply) did.history (answered_last session t.machine.tick frame reply) (session_from stopped_seen t number front session new.state.sessions coupled_stopped up ordered.now there did.of_connection);
        later = later_behind exact seen new t number front session (telling_of reply) new.state.sessions coupled up ordered.now there did.of_connection did.history;
        per_record = did.keeps.per_record;
        crashes = did.keeps.crashes.0;
        kept = λ fallen is. is ∙ did.kept;
        ready = (did.keeps.is_spent, did.keeps.is_quiet, did.keeps.is_opened, few_calls seen.state.calls new.state.calls did.keeps.calls);
        left = λ store leaves_it same. subst (λ s. Gains (front_served t.machine.tick (front_at t.machine.links number) (served ∷ [])) seen.state.store s) (sym (same (did.is_up ∙ read.is_up)))
            (subst (λ h. Gains h seen.state.store new.state.store) happened did.adds.gains);
        blocks = λ store leaves_it same. subst (λ s. AreKnown (server_after t.machine.server served.item) s.blocked) (sym (same (did.is_up ∙ read.is_up)))
            (known_served exact session front.link.commits frame reply t.machine.server t.machine.tick seen.state.store new.state.store answered gains did.blocks known);
      }

-- STOPPED -----------------------------------------------------------------------------------------

-- the item of a frame that may store
record IsCrashed (server : Server) (link : Link) (frame : Up) (session : SessionId) : Type 0 where
  is_item : is_crashed_item frame (crashed_item frame) ≡ true
  tells : (commits : ℕ) → item_telling session commits (crashed_item frame) ≡ Stopped
  first : is_connect frame ≡ false
  by : is_served_by server link frame session ≡ option_map_or (same_session session) link.session false
  stays : ((with_doubt server (crashed_item frame)).incarnation ≡ server.incarnation) × ((with_doubt server (crashed_item frame)).per_record ≡ server.per_record) × ((with_doubt server (crashed_item frame)).stopped ≡ server.stopped)

both_true : (a b : Bool) → a ≡ true → b ≡ true → (a && b) ≡ true
both_true a b p q = rw (p, q) refl

crashed : AreExact → (server : Server) (link : Link) (frame : Up) (session : SessionId) → may_store frame ≡ true → IsCrashed server link frame session
crashed exact server link up.Connect session may = absurd (let nothing : ⊥ = cc in nothing)
crashed exact server link (up.Begin settings) session may = absurd (let nothing : ⊥ = cc in nothing)
crashed exact server link up.End session may = absurd (let nothing : ⊥ = cc in nothing)
crashed exact server link up.Close session may = absurd (let nothing : ⊥ = cc in nothing)
crashed exact server link (up.Call replay kept call) session may = record {
  is_item = both_true (same_bool replay replay) (same_call call call) (bools_same replay) ((exact.calls call call).1 refl);
  tells = λ commits. refl;
  first = refl;
  by = refl;
  stays = (refl, refl, refl);
}
crashed exact server link (up.Outcome x) session may = record { is_item = (exact.identifiers x x).1 refl; tells = λ commits. refl; first = refl; by = refl; stays = (refl, refl, refl) }

may_by : (b : Bool) → (b ≡ false → ⊥) → b ≡ true
may_by true never = refl
may_by false never = absurd (never refl)

-- faults have risen
apart_by : (old new : ℕ) → old < new → new ≡ old → ⊥
apart_by old new rose same = omega (arith, rose, same)

same_stop : (a b : ℕ) → ◌≡◌ {A = Option ℕ} (Some a) (Some b) → b ≡ a
same_stop a b e = let same : a ≡ b = cc in sym same

by_stop : (m : Machine) (number after : ℕ) (front : Front) (served : Served) → is_stopped m after front served ≡ true → serves_last m number after (served ∷ []) (Some front) ≡ Some (after_stopped m number front served, [])
by_stop m number after front served stopped = rw stopped refl

abbrev pub crashed_now : Machine → Front → SessionId → Served
crashed_now machine front session = record { event = machine.event + 1; session = session; item = crashed_item front.first.frame }

pub last_stopped : (seen new : Seen) (t : Traced) (number after : ℕ) (front : Front) (leaves : Store → Type 0) → AreExact → Coupled seen t → seen.state.is_up ≡ true → seen.state.is_quiet ≡ true → front_at t.machine.links number ≡ Some front
    → ServesInOrder (with_stop seen (Some after)) t number front → (did : ServedOne (with_stop seen (Some after)) number t.machine.tick front.first.frame Stopped leaves new)
    → (session_served front.link.session None ≡ did.session)
    × ServedLast seen t number after (crashed_now t.machine front did.session ∷ []) leaves new (after_stopped (begun t.machine) number front (crashed_now t.machine front did.session))
last_stopped seen new t number after front leaves exact coupled up quiet there ordered did =
    let m = begun t.machine in
    let frame = front.first.frame in
    let session = did.session in
    let served = crashed_now t.machine front session in
    let coupled_stopped = stop_coupled seen t (Some after) coupled in
    let at = front_there t.machine.links number front there in
    let may = may_by (may_store frame) (λ none. (did.silent none).0 refl) in
    let is = crashed exact t.machine.server front.link frame session may in
    let living : seen.state.living number ≡ Some front.link.session = coupled.living number ∙ ap living_of at.0 ∙ ap (λ b. if b then Some front.link.session else None) at.1 in
    let known = which t.machine.server (with_stop seen (Some after)) front.link.session session number new.state.sessions coupled_stopped.server up living did.of_connection in
    let named = named_by t.machine.server front.link.session session new.state.sessions known (ordered.is_first ∙ is.first) in
    let rose = did.cause.rose refl in
    let cause = did.cause.quiet quiet (λ same. apart_by seen.state.faults new.state.faults rose same) in
    let fewer : after < t.machine.server.per_record * (1 + sequences_in frame) =
    subst (λ n. after < n * (1 + sequences_in frame)) (sym coupled.server.per_record) (subst (λ n. n < seen.state.per_record * (1 + sequences_in frame)) (same_stop after cause.0 cause.1) cause.2) in
    let stopped : is_stopped m after front served ≡ true =
    both_true _ _ (both_true _ _ (eq-eqb m.event m.event refl) (is.by ∙ same_named exact front.link.session session named)) (both_true _ _ is.is_item (lt-ltb after (t.machine.server.per_record * (1 + sequences_in frame)) fewer)) in
    let happened : ServedFrame session t.machine.tick frame Stopped ∷ [] ≡ front_served t.machine.tick (front_at t.machine.links number) (served ∷ []) =
    ap (λ (told : Telling). ServedFrame session t.machine.tick frame told ∷ []) (sym (is.tells (commits_after front.link served.item))) ∙ ap (λ found. front_served t.machine.tick found (served ∷ [])) (sym there) in
    let from = session_from (with_stop seen (Some after)) t number front session new.state.sessions coupled_stopped up ordered.now there did.of_connection in (
      named_session front.link.session session None named,
      record {
        follows = ap (serves_last m number after (served ∷ [])) there ∙ by_stop m number after front served stopped;
        server = is.stays;
        others = (refl, refl, refl);
        start = did.keeps.start;
        history = did.history ∙ ap (λ h. seen.history ++ h) happened;
        told = subst (AreByStore seen.state.store) happened (did.outcome, tt);
        lasts = ap stops_last did.history ∙ stops_behind seen (ServedFrame session t.machine.tick frame Stopped ∷ []) coupled.sound coupled.history up coupled.stops refl (from, tt);
        later = later_behind exact seen new t number front session Stopped new.state.sessions coupled up ordered.now there did.of_connection did.history;
        per_record = did.keeps.per_record;
        crashes = did.keeps.crashes.0;
        kept = λ fallen is. is ∙ did.kept;
        ready = (did.keeps.is_spent, did.keeps.is_quiet, did.keeps.is_opened, few_calls seen.state.calls new.state.calls did.keeps.calls);
        left = λ store leaves_it same. subst (λ h. Gains h seen.state.store store) happened (did.left store leaves_it).gains;
        blocks = λ store leaves_it same. known_stopped exact session frame t.machine.server t.machine.tick seen.state.store store may (did.left store leaves_it).gains (known_blocks seen t coupled);
      },
    )
