-- Wherever a run has come to, each session was acquired by a step of the request that sent last
-- there, and each Begin is of that request.
use Rattle.std.proofs.Common.{◌≡◌, sym, ap, subst, ◌∙◌, true, ℕ, zero, suc, ◌+◌, ◌<◌, List, [], ◌∷◌, ◌++◌, map, Option, Some, None, option_map, arith}
use Rattle.std.specs.Option.{option_or, option_map_or}
use Rattle.std.proofs.lemmas.List.Sums.{fold-append}
use Rattle.outage_schedule.specs.declared.event.Event.{Event}
use Rattle.outage_schedule.specs.declared.item.Served.{Served}
use Rattle.outage_schedule.specs.declared.note.Note.{Note}
use Rattle.outage_schedule.specs.declared.note.Note.TheVariants as note
use Rattle.server_model.specs.Seen.{Seen}
use Rattle.shown_clauses.specs.meaning.Links.{Acquired, Link as SeenLink, Seen as AllSeen, Turn, link_of}
use Rattle.shown_clauses.specs.meaning.Steps.{Step as StepTold}
use Rattle.world_model.specs.records.Basic.{is_named}
use Rattle.world_model.specs.meaning.Clients.{Client}
use Rattle.world_model.specs.meaning.Cutting.{cut_link, reaped_link}
use Rattle.world_model.specs.meaning.Crashing.{fallen_link}
use Rattle.invariant_laws.specs.Invariant.{Invariant}
use Rattle.invariant_laws.specs.KeptLaws.{RunsKeepInvariant}
use Rattle.world_model.specs.meaning.Links.{Link, link_at, with_link}
use Rattle.world_model.specs.meaning.Machines.{Machine}
use Rattle.world_model.specs.OneEvent.{OneEvent}
use Rattle.world_model.specs.Reached.{Begins, GoesOn}
use Rattle.invariant_laws.specs.SameLaws.{HoldsInRuns}
use Rattle.world_model.specs.meaning.Serving.{Front, front_at, after_front, handled}
use Rattle.world_model.specs.Traced.{Traced}
use Rattle.invariant_laws.specs.UnservedBegins.{begins_of_last, begin_last}
use Rattle.world_model.specs.records.Wire.{is_fresh, is_sent_front}
use Rattle.shown_laws.specs.AcquiredTold.{acquired_by, acquired_after, last_acquired, StepsAcquire}
use Rattle.shown_laws.specs.Closing.{AllUnclosed}
use Rattle.shown_laws.specs.ConnectionLaws.{AreTold}
use Rattle.shown_laws.specs.Growth.{next_told, GrowsBy}
use Rattle.shown_laws.specs.Telling.{seen_told, steps_told, steps_in}
use Rattle.shown_laws.specs.TurnOwners.{Said, said_at, Tied, Unopened, served_begin, Begun, NotBegun, TurnBegun, TellsOwners, RunsTellOwners}
use Rattle.shown_laws.specs.TurnsOver.{WereTurns, NoneOver}
use Rattle.shown_laws.specs.TurnsServed.{TellsTurns}
use Rattle.shown_laws.proofs.events.Clock.{HasCome, grows_on, reached_come}
use Rattle.shown_laws.proofs.links.EventsTold.{Stands, open_is}
use Rattle.shown_laws.proofs.events.Following.{at_event, Does, Goes, ServesNone, Serves, CutsNone, Cuts, ReapsNone, Reaps, IsDown, Crashes, CrashStops, CrashServes, Ticks, Drains, IsServers, follow_does}
use Rattle.shown_laws.proofs.events.GoNotes.{follow_goes}
use Rattle.shown_laws.proofs.links.ItemsTold.{front_is}
use Rattle.shown_laws.proofs.links.LinksTold.{AllStand, runs_told}
use Rattle.shown_laws.proofs.steps.RequestsGrow.{does_grow}
use Rattle.shown_laws.proofs.links.SaidStays.{SameSaid, cut_said, fallen_said, reaped_said, front_said, handled_said, one_said, with_said, each_said, drained_said}
use Rattle.shown_laws.proofs.links.ServedStays.{all_at}
use Rattle.shown_laws.proofs.links.SessionsApart.{at_link}
use Rattle.shown_laws.proofs.owners.SessionsTied.{goes_tied}
use Rattle.shown_laws.proofs.steps.StepsOwned.{Stay, go_on_stay}
use Rattle.shown_laws.proofs.steps.StepsTold.{step_tells}
use Rattle.shown_laws.proofs.owners.TurnsBegun.{AllBegun, begun_still, IsKnown, does_begun}
use Rattle.shown_laws.proofs.owners.TurnsInRuns.{reached_turns}
use Rattle.shown_laws.proofs.owners.TurnsOver.{does_over}
use Rattle.shown_laws.proofs.links.UnclosedRuns.{reached_unclosed}

abbrev AllTied : List Client → List Link → (ℕ → Option Acquired) → Type 0
AllTied clients links found = (number : ℕ) → Tied clients (said_at number links) (found number)

-- EVENTS ------------------------------------------------------------------------------------------

module _ (t : Traced) (inv : Invariant t) (notes : List Note) (items : List Served) (are : AreTold notes items t) (unclosed : AllUnclosed t.machine) where
  module _ (before : ℕ → Option Acquired) (tied : AllTied t.machine.clients t.machine.links before) where
    abbrev Ties : Note → List Served → Machine → Type 0
    Ties one more n = (number : ℕ) → Tied n.clients (said_at number n.links) (acquired_after number (before number) (steps_in (seen_told notes items) (next_told t.machine one more)))

    rests : (links : List Link) → SameSaid t.machine.links links → AllTied t.machine.clients links before
    rests links same number = subst (λ (said : Option Said). Tied t.machine.clients said (before number)) (sym (same number)) (tied number)

    fallen : (links : List Link) → AllTied t.machine.clients links before → AllTied t.machine.clients (map (fallen_link (t.machine.event + 1)) links) before
    fallen links is number = subst (λ (said : Option Said). Tied t.machine.clients said (before number)) (sym (each_said (fallen_link (t.machine.event + 1)) (fallen_said (t.machine.event + 1)) links number)) (is number)

    front_there : (connection : ℕ) (front : Front) → front_at t.machine.links connection ≡ Some front → link_at t.machine.links connection ≡ Some front.link
    front_there connection front at = (front_is t.machine.links connection front at).there

    does_tied : (one : Note) (more : List Served) (n : Machine) → Does t.setting (at_event t.machine) one more n → Ties one more n
    does_tied _ _ _ (Goes client did n goes) =
        let is = follow_goes t.setting (at_event t.machine) client did n goes in
        goes_tied t inv (seen_told notes items) client before tied did n is (step_tells t inv (seen_told notes items) are.links.at are.sessions unclosed client did n is)
    does_tied _ _ _ (ServesNone connection) = tied
    does_tied _ _ _ (Serves connection name front served at ordinary) =
        rests _ (with_said t.machine.links connection front.link (handled (t.machine.event + 1) front served) (front_there connection front at) (handled_said (t.machine.event + 1) front served))
    does_tied _ _ _ (CutsNone connection) = tied
    does_tied _ _ _ (Cuts connection up down reached link at) =
        rests _ (with_said t.machine.links connection link (cut_link (t.machine.event + 1) up down link) (open_is t.machine.links connection link at).0 (cut_said (t.machine.event + 1) up down link))
    does_tied _ _ _ (ReapsNone connection) = tied
    does_tied _ _ _ (Reaps connection) = rests _ (one_said reaped_link reaped_said t.machine.links connection)
    does_tied _ _ _ (IsDown connection) = tied
    does_tied _ _ _ (Crashes connection failover) = fallen t.machine.links tied
    does_tied _ _ _ (CrashStops connection after failover front served at stopped) =
        fallen (with_link t.machine.links connection (after_front front served None))
        (rests _ (with_said t.machine.links connection front.link (after_front front served None) (front_there connection front at) (front_said front served None)))
    does_tied _ _ _ (CrashServes connection failover front served at ordinary) =
        fallen (with_link t.machine.links connection (handled (t.machine.event + 1) front served))
        (rests _ (with_said t.machine.links connection front.link (handled (t.machine.event + 1) front served) (front_there connection front at) (handled_said (t.machine.event + 1) front served)))
    does_tied _ _ _ Ticks = tied
    does_tied _ _ _ (Drains closed) = rests _ (drained_said (t.machine.event + 1) t.machine.pool.idle t.machine.links)
    does_tied _ _ _ (IsServers (note.Up incarnation) server is) = tied
    does_tied _ _ _ (IsServers (note.UpCrash made) server is) = tied
    does_tied _ _ _ (IsServers (note.Outside ran) server is) = tied
    does_tied _ _ _ (IsServers (note.Ask x told) server is) = tied
    does_tied _ _ _ (IsServers one server is) = absurd (let none : ⊥ = cc in none)

-- what the invariant says of connections
known : (t : Traced) → Invariant t → begin_last t ≡ true → IsKnown t.machine.links
known t inv last = record {
  sent = λ number link there. at_link is_sent_front t.machine.links number link inv.orderly.wire.sent there;
  fresh = λ number link there. at_link is_fresh t.machine.links number link inv.orderly.wire.fresh there;
  named = λ number link there. at_link is_named t.machine.links number link inv.orderly.basic.named there;
  last = λ number link there. at_link begins_of_last t.machine.links number link last there;
}

-- the turn that a connection has was begun so
pub current_begun : (clients : List Client) (links : List Link) (told : List SeenLink) → AllBegun clients links told → (number : ℕ) (one : SeenLink) (turn : Turn) → link_of number told ≡ Some one → one.turn ≡ Some turn → TurnBegun clients turn (all_at number links)
current_begun clients links told begun number one turn is has =
    subst (λ (found : Option (Option Acquired)). Begun clients found (served_begin (all_at number links)))
    (ap (λ (found : Option SeenLink). option_map_or (λ (l : SeenLink). option_map (λ (t : Turn). t.acquired) l.turn) found None) is ∙ ap (option_map (λ (t : Turn). t.acquired)) has) (begun number)

module _ (before after : Seen) (old new : Traced) (event : Event) (note : Note) (notes : List Note) (items more : List Served) (one : OneEvent before old event note more [] after new) (come : HasCome notes items old.machine) (inv : Invariant old) (stands : Stands (at_event old.machine))
    (last : begin_last old ≡ true) (are : AreTold notes items old) (unclosed : AllUnclosed old.machine) (turns : TellsTurns old.machine.links (seen_told notes items).links) (was : TellsOwners old notes items) where
  does : Does old.setting (at_event old.machine) note more new.machine
  does = follow_does old.setting old.machine event note more new.machine one.follows

  grows : GrowsBy notes items old.machine note more
  grows = grows_on before after old new event note notes items more one come

  stay : Stay old.machine.clients new.machine.clients
  stay = go_on_stay old.machine.clients new.machine.clients (does_grow old inv notes items are unclosed note more new.machine does)

  some : 0 < old.machine.event + 1
  some = omega arith

  abbrev found : ℕ → Option Acquired
  found number = last_acquired number (steps_told notes items)

  longer : (number : ℕ) → last_acquired number (steps_told (notes ++ note ∷ []) (items ++ more)) ≡ acquired_after number (last_acquired number (steps_told notes items)) (steps_in (seen_told notes items) (next_told old.machine note more))
  longer number =
      ap (last_acquired number) grows.steps
      ∙ fold-append (λ (found : Option Acquired) (step : StepTold). option_or (acquired_by number step) found) None (steps_told notes items) (steps_in (seen_told notes items) (next_told old.machine note more))

  begun : StepsAcquire → AllBegun old.machine.clients new.machine.links (seen_told (notes ++ note ∷ []) (items ++ more)).links
  begun acquire =
      subst (λ (told : AllSeen). AllBegun old.machine.clients new.machine.links told.links) (sym grows.seen)
      (does_begun old.setting (at_event old.machine) stands some (seen_told notes items) are.links.at (known old inv last)
      (λ number. subst (λ (acquired : Option Acquired). Tied old.machine.clients (said_at number old.machine.links) acquired) (sym (acquire notes items number)) (was.sessions number)) was.current
      old.machine.tick note more new.machine does)

  -- An event more.
  owners_on : StepsAcquire → TellsOwners new (notes ++ note ∷ []) (items ++ more)
  owners_on acquire = record {
    sessions = λ number.
        subst (λ (acquired : Option Acquired). Tied new.machine.clients (said_at number new.machine.links) acquired) (sym (longer number))
        (does_tied old inv notes items are unclosed found was.sessions note more new.machine does number);
    current = λ number. begun_still old.machine.clients new.machine.clients stay _ _ (begun acquire number);
    over =
        subst (λ (told : AllSeen). WereTurns (TurnBegun new.machine.clients) new.machine.links told.over) (sym grows.seen)
        (does_over (TurnBegun old.machine.clients) (TurnBegun new.machine.clients) (λ turn served is. begun_still old.machine.clients new.machine.clients stay _ _ is) old.setting (at_event old.machine) stands some (seen_told notes items)
        are.links.at are.sessions turns (current_begun old.machine.clients old.machine.links (seen_told notes items).links was.current) was.over old.machine.tick note more new.machine does);
  }

-- RUNS --------------------------------------------------------------------------------------------

none_tied : (clients : List Client) → AllTied clients [] (λ number. None)
none_tied clients zero = Unopened
none_tied clients (suc index) = Unopened

none_begun : (clients : List Client) → AllBegun clients [] []
none_begun clients zero = NotBegun
none_begun clients (suc index) = NotBegun

module _ (kept : RunsKeepInvariant) (stand : AllStand) (last : HoldsInRuns begin_last) (acquire : StepsAcquire) where
  pub reached_owners : RunsTellOwners
  reached_owners document _ _ _ _ _ right (Begins seen start history horizon coupled) = record { sessions = none_tied _; current = none_begun _; over = NoneOver }
  reached_owners document _ _ _ _ _ right (GoesOn events notes items more before after old new event note reached one forgets) =
      let inv : Invariant old = kept document events notes items before old right reached in
      owners_on before after old new event note notes items more one (reached_come document events notes items before old reached) inv (stand old inv) (last document events notes items before old right reached)
      (runs_told kept stand document events notes items before old right reached) (reached_unclosed kept stand document right events notes items before old reached) (reached_turns kept stand document events notes items before old right reached)
      (reached_owners document events notes items before old right reached) acquire
