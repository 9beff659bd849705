-- An outcome is asked for from outside.
use Rattle.std.proofs.Common.{◌≡◌, true, false, List, [], ◌∷◌, ◌++◌, Some, None, refl, sym, ap, ◌∙◌, inl, inr, arith}
use Rattle.std.specs.Prelude.{◌⊎◌, All}
use Rattle.std.proofs.lemmas.List.{append-nil}
use Rattle.std.proofs.lemmas.List.Elements.{All-cons, Contains-push}
use Rattle.svc_values.specs.declared.entry.Ltxid.{Ltxid}
use Rattle.svc_values.specs.declared.entry.SessionId.{SessionId}
use Rattle.svc_values.specs.Laws.{AreExact}
use Rattle.ltxid_book.specs.declared.verdict.Verdict.{Verdict}
use Rattle.outage_schedule.specs.declared.event.Event.TheVariants as event
use Rattle.outage_schedule.specs.declared.note.Note.TheVariants as note
use Rattle.outage_schedule.specs.declared.note.AskResult.{AskResult}
use Rattle.outage_schedule.specs.declared.note.AskResult.TheVariants as result
use Rattle.server_model.specs.Laws.{stops_last}
use Rattle.server_model.specs.meaning.Outcomes.{Telling, Says}
use Rattle.server_model.specs.Outcomes.{down_of}
use Rattle.server_model.specs.Runs.{Asked}
use Rattle.server_model.specs.Seen.{Seen, IsHistory}
use Rattle.server_model.specs.ServiceCalls.{WasAsked, AskedOne}
use Rattle.service_calls.specs.Kept.{Goes}
use Rattle.world_model.specs.meaning.Machines.{Server, Machine}
use Rattle.world_model.specs.meaning.Outside.{after_asked}
use Rattle.world_model.specs.Traced.{Traced}
use Rattle.world_model.specs.meaning.Walking.{follow}
use Rattle.world_model.specs.Coupled.{living_of, life_by, life_of, IsLater, SameServer, Coupled}
use Rattle.world_model.specs.OrderlyLaws.{OrderlyIsKept}
use Rattle.world_model.specs.OneEvent.{OneEvent}
use Rattle.world_core.specs.declared.traffic.Traffic.{Traffic}
use Rattle.world_core.specs.Answering.{result_of}
use Rattle.world_core.specs.Underway.{IsUnderway}
use Rattle.world_core.specs.Making.{Makes}
use Rattle.world_core.proofs.Readiness.{stays_ready, up_not_down}
use Rattle.world_core.proofs.frames.Added.{same_frame}
use Rattle.world_core.proofs.frames.Blocking.{known_blocks, known_asked}
use Rattle.world_core.proofs.frames.Living.{life_asked, still_lived}
use Rattle.world_core.proofs.Coupling.{begun, one_alone, one_call, made, made_alone, none_came, none_asked}
use Rattle.world_core.proofs.Opening.{any_server}
use Rattle.world_core.proofs.frames.Stops.{stops_behind}

-- the server is down
pub asks_none : OrderlyIsKept → (sees : Seen → Type 0) (before after : Traffic) (x : Ltxid) → AreExact → ((seen : Seen) → sees seen → seen.state.is_up ≡ false) → ((m : Machine) → IsUnderway before m → IsUnderway after (begun m))
    → Makes sees before sees after (event.Ask x) (note.Ask x None) []
asks_none kept sees before after x exact down goes below seen t is =
    let server_down : t.machine.server.is_up ≡ false = is.coupled.server.is_up ∙ down seen is.seen_so in
    let follows : follow t.setting t.machine (event.Ask x) (note.Ask x None) [] ≡ Some (begun t.machine, []) = rw ((exact.identifiers x x).1 refl, server_down) refl in
    made_alone kept sees before after below (event.Ask x) (note.Ask x None) seen t (begun t.machine) is (one_alone seen t (event.Ask x) (note.Ask x None) (begun t.machine) is.coupled follows refl refl refl refl refl refl) refl (goes t.machine is.underway)

blocked_one : (server : Server) (x : Ltxid) (seen : Seen) → SameServer server seen → SameServer (record server { blocked = x ∷ server.blocked }) seen
blocked_one server x seen same = record { is_up = same.is_up; per_record = same.per_record; opened = same.opened; closed = same.closed }

server_asked : (server : Server) (x : Ltxid) (told : AskResult) (seen : Seen) → SameServer server seen → SameServer (after_asked server x told) seen
server_asked server x (result.Committed completed) seen same = same
server_asked server x result.Uncommitted seen same = blocked_one server x seen same
server_asked server x (result.ServerAhead next) seen same = same
server_asked server x (result.ClientAhead next) seen same = same
server_asked server x (result.Forgotten horizon) seen same = same

server_behind : (server : Server) (old new : Seen) (x : Ltxid) (told : Verdict) → SameServer server old → old.state.is_up ≡ true → AskedOne old x told new → SameServer server new
server_behind server old new x told same up did =
    let opened = same.opened up in
    record {
      is_up = same.is_up ∙ up ∙ sym did.others.1;
      per_record = same.per_record ∙ sym did.keeps.per_record;
      opened = λ is. (opened.0 ∙ sym did.adds.opening.0, (opened.1.0 ∙ sym did.others.3, opened.1.1));
      closed = λ down. absurd (let clash : true ≡ false = sym did.others.1 ∙ down in let nothing : ⊥ = cc in nothing);
    }

-- the block that was added, if one was
abbrev MoreBlocked : List Ltxid → List Ltxid → Ltxid → Telling → Type 0
MoreBlocked old new x told = (more : List Ltxid) × ((new ≡ old ++ more) × All (WasAsked (Asked x told ∷ [])) more)

block_added : (old new : List Ltxid) (x : Ltxid) (told : Telling) → (new ≡ old) ⊎ (new ≡ old ++ x ∷ []) → MoreBlocked old new x told
block_added old new x told (inl same) = ([], (same ∙ sym (append-nil old), none_asked (Asked x told ∷ [])))
block_added old new x told (inr one) =
    let happened = Asked x told ∷ [] in
    (x ∷ [], (one, All-cons (WasAsked happened) x [] (Asked x told, (Contains-push [] (Asked x told), refl)) (none_asked happened)))

abbrev asked_machine : Machine → Ltxid → AskResult → Machine
asked_machine m x result = record (begun m) { server = after_asked m.server x result }

abbrev traced_behind : Traced → Machine → Seen → Traced
traced_behind t m new = record t { machine = m; entries = new.state.store.entries; blocked = new.state.store.blocked }

-- what is made later still is
later_asked : (server : Server) (x : Ltxid) (told : AskResult) (session : SessionId) → IsLater (after_asked server x told) session → IsLater server session
later_asked server x (result.Committed completed) session is = is
later_asked server x result.Uncommitted session is = is
later_asked server x (result.ServerAhead next) session is = is
later_asked server x (result.ClientAhead next) session is = is
later_asked server x (result.Forgotten horizon) session is = is

asked_coupled : AreExact → (old new : Seen) (t : Traced) (x : Ltxid) (told : Verdict) → Coupled old t → old.state.is_up ≡ true → IsHistory new → AskedOne old x told new
    → Coupled new (traced_behind t (asked_machine t.machine x (result_of told)) new)
asked_coupled exact old new t x told coupled up history did = record {
  history = history;
  sound = rw did.keeps.start coupled.sound;
  stops = ap stops_last did.history ∙ stops_behind old (Asked x (Says (down_of told)) ∷ []) coupled.sound coupled.history up coupled.stops refl tt;
  server = server_asked t.machine.server x (result_of told) new (server_behind t.machine.server old new x told coupled.server up did);
  living = λ number. did.others.0 number ∙ coupled.living number;
  stored = λ number link there. rw did.adds.entries.0 (coupled.stored number link there);
  lives = λ number link there.
      still_lived old.history new.history (living_of (Some link)) (life_of link.served) (λ session living. ap (λ h. life_by h session) did.history ∙ life_asked old.history x (Says (down_of told)) session) (coupled.lives number link there);
  later = λ session is. ap (λ h. life_by h session) did.history ∙ life_asked old.history x (Says (down_of told)) session ∙ coupled.later session (later_asked t.machine.server x (result_of told) session is);
  entries = refl;
  blocked = refl;
  image = rw did.keeps.start coupled.image;
  blocks = known_asked exact x told t.machine.server old.state.store new.state.store did.adds did.blocks (known_blocks old t coupled);
}

pub asks_some : OrderlyIsKept → (sees sees_later : Seen → Type 0) (before after : Traffic) (x : Ltxid) (told : Verdict) → AreExact
    → ((seen : Seen) → sees seen → seen.state.is_up ≡ true)
    → ((seen : Seen) → sees_later seen → IsHistory seen)
    → Goes sees sees_later (λ old new. AskedOne old x told new)
    → ((m : Machine) → IsUnderway before m → IsUnderway after (begun m))
    → Makes sees before sees_later after (event.Ask x) (note.Ask x (Some (result_of told))) []
asks_some kept sees sees_later before after x told exact up honest goes leads below seen t is =
    let gone = goes seen is.seen_so in
    let new = gone.0 in
    let did : AskedOne seen x told new = gone.1.1 in
    let is_up = up seen is.seen_so in
    let server_up : t.machine.server.is_up ≡ true = is.coupled.server.is_up ∙ is_up in
    let m = asked_machine t.machine x (result_of told) in
    let follows : follow t.setting t.machine (event.Ask x) (note.Ask x (Some (result_of told))) [] ≡ Some (m, []) = rw ((exact.identifiers x x).1 refl, server_up) refl in
    let coupled : Coupled new (traced_behind t m new) = asked_coupled exact seen new t x told is.coupled is_up (honest new gone.1.0) did in
    let more = block_added seen.state.store.blocked new.state.store.blocked x (Says (down_of told)) did.adds.blocked in
    let one : OneEvent seen t (event.Ask x) (note.Ask x (Some (result_of told))) [] [] new (traced_behind t m new) = record {
      follows = follows;
      happened = Asked x (Says (down_of told)) ∷ [];
      did = ap (λ frame. Asked x (Says frame) ∷ []) (sym (same_frame told));
      told = (did.outcome, tt);
      history = did.history;
      start = did.keeps.start;
      rises = let same_opening = did.adds.opening.0 in omega (arith, same_opening);
      crashes = did.keeps.crashes.0;
      coupled_before = is.coupled;
      coupled_after = coupled;
      more_entries = [];
      entries = did.adds.entries.0 ∙ sym is.coupled.entries ∙ sym (append-nil t.entries);
      own = none_came (Asked x (Says (down_of told)) ∷ []);
      more_blocked = more.0;
      blocked = more.1.0 ∙ ap (λ b. b ++ more.0) (sym is.coupled.blocked);
      asked = more.1.1;
      setting = refl;
      image = refl;
      outside = sym (append-nil t.outside);
      outside_draws = sym (append-nil t.outside_draws);
    } in
    made kept sees sees_later before after below (event.Ask x) (note.Ask x (Some (result_of told))) [] seen new t (traced_behind t m new) is one did.adds.opening.1 gone.1.0 (stays_ready seen new did.keeps is.ready (λ up. is_up) (up_not_down new.state did.others.1))
    (one_call seen.state.calls new.state.calls did.keeps.calls)
    (any_server after (begun t.machine) (after_asked t.machine.server x (result_of told)) (leads t.machine is.underway))
