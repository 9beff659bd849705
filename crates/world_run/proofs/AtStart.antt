-- Where a run stands before its first event.
use Rattle.std.proofs.Common.{◌≡◌, refl, sym, ap, subst, ◌∙◌, arith, ℕ, zero, suc, ◌+◌, ◌≤◌, ◌^◌, Bool, true, false, List, [], length, Option, Some, None}
use Rattle.std.proofs.lemmas.Bool.{or_left}
use Rattle.request_bounds.specs.meaning.Rules.{Rules}
use Rattle.ltxid_book.specs.meaning.Journal.{is_blocked}
use Rattle.outage_schedule.specs.declared.document.Client.{Client as Script}
use Rattle.outage_schedule.specs.declared.document.Document.{Document}
use Rattle.run_clauses.specs.meaning.Before.{journal_before, was_opened}
use Rattle.run_clauses.specs.meaning.Horizons.{ended_before}
use Rattle.run_clauses.specs.meaning.ServiceBase.{service_base}
use Rattle.server_model.specs.meaning.Base.{Base}
use Rattle.server_model.specs.Base.{IsSound}
use Rattle.server_model.specs.Seen.{Store, Seen, IsHistory, IsNew}
use Rattle.server_model.specs.ServiceCalls.{Opened, StoppedOpening}
use Rattle.service_calls.specs.Kept.{Goes}
use Rattle.world_model.specs.Coupled.{Coupled, living_of}
use Rattle.world_model.specs.Forgets.{first_of}
use Rattle.world_model.specs.Orderly.{Orderly}
use Rattle.world_model.specs.meaning.Links.{Link, link_at}
use Rattle.world_model.specs.meaning.Machines.{per_record_of, start_of}
use Rattle.world_model.specs.Reached.{Reached, Begins, traced_start}
use Rattle.world_core.specs.declared.traffic.Traffic.{Traffic}
use Rattle.world_core.specs.Among.{StandEach}
use Rattle.world_core.specs.Forgetting.{Tracks}
use Rattle.world_core.specs.Making.{IsReady, IsAt}
use Rattle.world_core.specs.Underway.{IsUnderway}
use Rattle.world_core.proofs.Offered.{stops_only}
use Rattle.world_run.specs.Running.{AllBy, Parts}
use Rattle.world_run.specs.Starting.{StandsAtStart}

-- no connection has a number
no_link : (number : ℕ) → link_at [] number ≡ None
no_link zero = refl
no_link (suc index) = refl

none_known : (opened : Bool) (last incarnation : ℕ) → last ≤ incarnation → AllBy incarnation (ended_before opened last)
none_known true last incarnation less = (less, tt)
none_known false last incarnation less = tt

-- a new service is ready
ready_new : (old : Seen) → IsNew old → old.state.is_quiet ≡ true → IsReady old.state
ready_new old fresh quiet = record {
  live = fresh.none.5;
  quiet = quiet;
  unstopped = fresh.none.1;
  settled = λ down. fresh.down.1;
  opened = λ up. absurd (let clash : true ≡ false = sym up ∙ fresh.down.0 in let none : ⊥ = cc in none);
}

-- so its opening is not stopped
pub new_stops : (old : Seen) → IsNew old → old.state.is_quiet ≡ true → (sees sees_later : Seen → Type 0) (leaves : Store → Type 0) → sees old → Goes sees sees_later (λ before new. StoppedOpening before 0 leaves new) → ⊥
new_stops old fresh quiet sees sees_later leaves seen_so goes = let gone = goes old seen_so in stops_only old gone.0 (ready_new old fresh quiet) gone.1.1.cause

-- by the scripts of the document, under whichever name
pub by_scripts : (S R : Type 0) (sees : S → Seen → Type 0) (rules : R → Rules) (document : Document) (parts : Parts S R) (scripts : List Script) → document.clients ≡ scripts → StandsAtStart S R sees rules document.clients document parts → StandsAtStart S R sees rules scripts document parts
by_scripts S R sees rules document parts scripts same stands = subst (λ (all : List Script). StandsAtStart S R sees rules all document parts) same stands

-- the service of the document was opened, and nothing was asked of it before
module _ (document : Document) (old new : Seen) (fresh : IsNew old) (quiet : old.state.is_quiet ≡ true) (records : old.state.per_record ≡ per_record_of document.service) (start : old.start ≡ service_base document) (sound : IsSound (service_base document))
    (opened : Opened old 0 new) (history : IsHistory new) where
  no_history : new.history ≡ []
  no_history = opened.keeps.history ∙ fresh.history

  starts : new.start ≡ service_base document
  starts = opened.keeps.start ∙ start

  pub next_incarnation : new.state.store.incarnation ≡ (journal_before document).incarnation + 1
  next_incarnation = opened.incarnation ∙ ap (λ (n : ℕ). n + 1) (fresh.incarnation ∙ ap (λ (base : Base). base.incarnation) start)

  pub coupled_first : Coupled new (traced_start document)
  coupled_first = record {
    history = history;
    sound = subst IsSound (sym starts) sound;
    stops = rw no_history refl;
    server = record {
      is_up = sym opened.is_up.0;
      per_record = sym (opened.keeps.per_record ∙ records);
      opened = λ up. (sym next_incarnation, (sym opened.sessions, refl));
      closed = λ down. absurd (let clash : true ≡ false = sym opened.is_up.0 ∙ down in let none : ⊥ = cc in none);
    };
    living = λ number. opened.keeps.living number ∙ fresh.none.0 number ∙ ap living_of (sym (no_link number));
    stored = λ number link there. absurd (let clash : ◌≡◌ {A = Option Link} None (Some link) = sym (no_link number) ∙ there in let none : ⊥ = cc in none);
    lives = λ number link there. absurd (let clash : ◌≡◌ {A = Option Link} None (Some link) = sym (no_link number) ∙ there in let none : ⊥ = cc in none);
    later = λ session is. rw no_history refl;
    entries = sym (opened.lists.entries ∙ fresh.entries ∙ ap (λ (base : Base). base.entries) start);
    blocked = sym (opened.lists.blocked ∙ fresh.blocked ∙ ap (λ (base : Base). base.blocked) start);
    image = sym (ap (λ (base : Base). length base.entries) starts);
    blocks = λ x is. or_left (is_blocked (journal_before document).blocked x) false is;
  }

  -- it forgets nothing
  horizon_first : new.state.store.horizon ≡ (journal_before document).horizon
  horizon_first =
      let same : old.state.store.horizon ≡ (journal_before document).horizon = fresh.horizon ∙ ap (λ (base : Base). base.horizon) start in
      let is = opened.horizon in
      omega (arith, same, is)

  pub reached_first : Reached document [] [] [] new (traced_start document)
  reached_first = Begins new starts no_history horizon_first coupled_first

  ready_first : IsReady new.state
  ready_first = record {
    live = opened.keeps.is_spent;
    quiet = opened.keeps.is_quiet ∙ quiet;
    unstopped = opened.keeps.stop fresh.none.1;
    settled = λ down. absurd (let clash : true ≡ false = sym opened.is_up.0 ∙ down in let none : ⊥ = cc in none);
    opened = λ up. opened.is_up.1;
  }

  module _ (sees : Seen → Type 0) (traffic : Traffic) (seen_so : sees new) (underway : IsUnderway traffic (start_of document)) (orderly : Orderly (traced_start document)) where
    pub at_first : IsAt sees traffic new (traced_start document)
    at_first = record {
      seen_so = seen_so;
      ready = ready_first;
      coupled = coupled_first;
      underway = underway;
      orderly = orderly;
      calls = let one = opened.keeps.calls in let none = fresh.none.4 in omega (arith, one, none);
      ticks = omega arith;
    }

  module _ (S R : Type 0) (sees : S → Seen → Type 0) (rules : R → Rules) (parts : Parts S R) (seen_so : sees parts.service new) (underway : IsUnderway parts.traffic (start_of document)) (orderly : Orderly (traced_start document))
      (stand : StandEach R rules parts.clients (traced_start document)) (tracks : Tracks document.service.retention parts.openings (first_of document))
      (none : (parts.notes ≡ []) × (parts.served ≡ [])) (room : (journal_before document).incarnation ≤ 2 ^ 62) where
    pub stands_first : StandsAtStart S R sees rules document.clients document parts
    stands_first = record {
      seen = new;
      reached = reached_first;
      stands = record {
        beside = record { place = at_first (sees parts.service) parts.traffic seen_so underway orderly; scripted = refl; stand = stand };
        counted = sym (ap (λ notes. length notes) none.0);
        tracked = rw none.0 tracks;
        known = rw none.0 (record {
          running = λ one is. let last : (journal_before document).incarnation + 1 ≡ one = cc in let now = next_incarnation in omega (arith, last, now);
          ended = none_known (was_opened document) (journal_before document).incarnation new.state.store.incarnation (let now = next_incarnation in omega (arith, now));
        });
        began = refl;
        low = omega (arith, room);
      };
      none = none;
    }
