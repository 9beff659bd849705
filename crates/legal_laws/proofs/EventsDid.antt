-- What the service did at an event, by the note of the event.
use Rattle.std.proofs.Common.{◌≡◌, refl, sym, ap, subst, ℕ, ◌&&◌, Bool, true, false, List, [], ◌∷◌, ◌++◌, Option, Some, None, if◌then◌else◌, arith}
use Rattle.std.specs.Prelude.{◌==◌, option_and_then}
use Rattle.std.proofs.lemmas.Bool.Decides.{nat_tests}
use Rattle.svc_values.specs.declared.call.Call.{Call}
use Rattle.svc_values.specs.declared.entry.Ltxid.{Ltxid}
use Rattle.svc_values.specs.meaning.Identifiers.{same_ltxid, session_of}
use Rattle.svc_values.specs.SameLaws.{same_ltxid_decides}
use Rattle.outage_schedule.specs.declared.event.Event.{Event}
use Rattle.outage_schedule.specs.declared.event.Event.TheVariants as event
use Rattle.outage_schedule.specs.declared.item.Served.{Served}
use Rattle.outage_schedule.specs.declared.note.Note.{Note}
use Rattle.outage_schedule.specs.declared.note.Note.TheVariants as note
use Rattle.outage_schedule.specs.declared.note.OutsideNote.{OutsideNote}
use Rattle.server_model.specs.meaning.Outcomes.{Says}
use Rattle.server_model.specs.Runs.{Happened, Asked}
use Rattle.server_model.specs.meaning.ServiceCalls.{is_failover}
use Rattle.server_model.specs.ServiceCalls.{RunsAre, begins_outside}
use Rattle.service_calls.specs.Answers.{runs_of}
use Rattle.world_model.specs.meaning.Crashing.{crashes}
use Rattle.world_model.specs.meaning.Machines.{Machine, next_session}
use Rattle.world_model.specs.meaning.Matching.{Noted, ServedOn, Crashed, Asked as AskedOf}
use Rattle.world_model.specs.meaning.Noting.{only_if}
use Rattle.world_model.specs.meaning.Outside.{follow_outside}
use Rattle.world_model.specs.ServiceDid.{ServiceDid, front_served}
use Rattle.world_model.specs.meaning.Serving.{front_at, identifier, outcome_frame}
use Rattle.world_model.specs.meaning.Settings.{Setting}
use Rattle.world_model.specs.meaning.Walking.{by_kind, leaving, follow}
use Rattle.shown_laws.proofs.Offered.{at_event}

-- calls were run outside, in the next session
pub record RanCalls (m : Machine) (one : Event) (ran : OutsideNote) (happened : List Happened) : Type 0 where
  pub calls : List Call
  pub is : one ≡ event.Outside calls
  pub session : session_of ran.ltxid ≡ next_session m.server
  pub runs : List Happened
  pub all : happened ≡ begins_outside (next_session m.server) m.tick ++ runs
  pub are : RunsAre (next_session m.server) m.tick calls (runs_of ran) runs

abbrev pub ByNote : Machine → Event → Note → List Served → List Happened → Type 0
ByNote m event (note.Serve connection frame) more happened = happened ≡ front_served m.tick (front_at m.links connection) more
ByNote m event (note.Crash connection false) more happened = happened ≡ front_served m.tick (front_at m.links connection) more
ByNote m event (note.Outside (Some ran)) more happened = RanCalls m event ran happened
ByNote m event (note.Ask x (Some told)) more happened = happened ≡ Asked x (Says (outcome_frame told)) ∷ []
ByNote m event one more happened = happened ≡ []

same_number : (a b : ℕ) → (a == b) ≡ true → a ≡ b
same_number a b is = grind (arith, nat_tests)

module _ (setting : Setting) (m n : Machine) (more : List Served) where
  met : (test : Bool) (kind : Noted) → option_and_then (by_kind setting (at_event m) more) (only_if test kind) ≡ Some (n, []) → (test ≡ true) × (by_kind setting (at_event m) more kind ≡ Some (n, []))
  met true kind is = (refl, is)
  met false kind is = absurd (let none : ⊥ = cc in none)

  crash_note : (connection after : ℕ) (failover down is_up : Bool) (event : Event) (happened : List Happened)
      → (if is_up then (if down then None else crashes (at_event m) connection after failover more) else only_if down (at_event m, more)) ≡ Some (n, [])
      → happened ≡ (if is_up then front_served m.tick (front_at m.links connection) more else []) → ByNote m event (note.Crash connection down) more happened
  crash_note connection after failover true true event happened goes did = absurd (let none : ⊥ = cc in none)
  crash_note connection after failover true false event happened goes did = did
  crash_note connection after failover false true event happened goes did = did
  crash_note connection after failover false false event happened goes did = absurd (let none : ⊥ = cc in none)

  outside_session : (is_up same : Bool) (a : Machine) → leaving more (only_if (is_up && same) a) ≡ Some (n, []) → same ≡ true
  outside_session true true a is = refl
  outside_session true false a is = absurd (let none : ⊥ = cc in none)
  outside_session false same a is = absurd (let none : ⊥ = cc in none)

  outside_note : (calls : List Call) (ran : Option OutsideNote) (happened : List Happened) → leaving more (follow_outside (at_event m) ran) ≡ Some (n, []) → ServiceDid m (event.Outside calls) (note.Outside ran) more happened
      → ByNote m (event.Outside calls) (note.Outside ran) more happened
  outside_note calls None happened goes did = did
  outside_note calls (Some ran) happened goes (runs, (all, are)) = record {
    calls = calls;
    is = refl;
    session = ap session_of ((same_ltxid_decides ran.ltxid (identifier (next_session m.server) 0)).0 (outside_session m.server.is_up (same_ltxid ran.ltxid (identifier (next_session m.server) 0)) _ goes));
    runs = runs;
    all = all;
    are = are;
  }

  pub by_note : (event : Event) (one : Note) (happened : List Happened) → follow setting m event one more ≡ Some (n, []) → ServiceDid m event one more happened → ByNote m event one more happened
  by_note (event.Go client) (note.Go named did) happened goes is = is
  by_note (event.Serve connection) (note.Serve named frame) happened goes is =
      let parts = met (named == connection) (ServedOn connection frame) goes in
      subst (λ (k : ℕ). happened ≡ front_served m.tick (front_at m.links k) more) (sym (same_number named connection parts.0)) is
  by_note (event.Cut connection up down) (note.Cut named reached) happened goes is = is
  by_note (event.Reap connection) (note.Reap named reaped) happened goes is = is
  by_note (event.Crash connection after pick) (note.Crash named down) happened goes is =
      let parts = met (named == connection) (Crashed connection after (is_failover pick) down) goes in
      subst (λ (k : ℕ). ByNote m (event.Crash connection after pick) (note.Crash k down) more happened) (sym (same_number named connection parts.0))
      (crash_note connection after (is_failover pick) down m.server.is_up (event.Crash connection after pick) happened parts.1 is)
  by_note event.Up (note.Up incarnation) happened goes is = is
  by_note (event.UpCrash after pick) (note.UpCrash made) happened goes is = is
  by_note event.Tick note.Tick happened goes is = is
  by_note (event.Outside calls) (note.Outside ran) happened goes is = outside_note calls ran happened goes is
  by_note (event.Ask x) (note.Ask named None) happened goes is = is
  by_note (event.Ask x) (note.Ask named (Some told)) happened goes is =
      let parts = met (same_ltxid named x) (AskedOf x (Some told)) goes in
      subst (λ (y : Ltxid). happened ≡ Asked y (Says (outcome_frame told)) ∷ []) (sym ((same_ltxid_decides named x).0 parts.0)) is
  by_note event.Drain (note.Drain closed) happened goes is = is
  by_note event one happened goes is = absurd (let none : ⊥ = cc in none)
