-- Once the finish has opened the server it stays up.
use Rattle.std.proofs.Common.{◌≡◌, refl, sym, ap, subst, ◌∙◌, Bool, true, false, ℕ, List, ◌∷◌, Option, Some, None, if◌then◌else◌}
use Rattle.std.specs.Prelude.{◌==◌, is_some}
use Rattle.std.specs.List.{list_any}
use Rattle.std.specs.Option.{option_map_or}
use Rattle.svc_values.specs.declared.entry.Ltxid.{Ltxid}
use Rattle.svc_values.specs.meaning.Identifiers.{same_ltxid}
use Rattle.commit_log.specs.Keeping.{EachKeeps}
use Rattle.server_model.specs.Laws.{EntryNumbers}
use Rattle.outage_schedule.specs.declared.event.Event.{Event}
use Rattle.outage_schedule.specs.declared.event.Event.TheVariants as event
use Rattle.outage_schedule.specs.declared.note.Note.{Note}
use Rattle.outage_schedule.specs.declared.note.Note.TheVariants as note
use Rattle.outage_schedule.specs.declared.note.AskResult.{AskResult}
use Rattle.outage_schedule.specs.declared.item.Item.{Item}
use Rattle.outage_schedule.specs.declared.item.Item.TheVariants as item
use Rattle.outage_schedule.specs.declared.item.Served.{Served}
use Rattle.run_clauses.specs.meaning.Outcomes.{is_uncommitted}
use Rattle.world_model.specs.meaning.Settings.{Setting}
use Rattle.world_model.specs.meaning.Links.{is_orphan}
use Rattle.world_model.specs.meaning.Clients.{is_unfinished}
use Rattle.world_model.specs.meaning.Machines.{Server, Machine}
use Rattle.world_model.specs.meaning.Noting.{only_if}
use Rattle.world_model.specs.meaning.Matching.{Noted, Went, ServedOn, CutOff, Reaped, Crashed, Asked, matched}
use Rattle.world_model.specs.meaning.Serving.{front_of, server_after}
use Rattle.world_model.specs.meaning.Outside.{after_asked}
use Rattle.world_model.specs.meaning.Walking.{follow}
use Rattle.world_model.specs.meaning.Finishing.{Place, AtServer, AtOrphans, AtRound, AtClients, AtLinks, first_behind, Next, serves_or_ticks, goes_or_serves, next_round, reaps_or_goes, next_finish}
use Rattle.world_model.specs.FinishEnds.{is_at_server, FinishBegins, FinishGoesOn}
use Rattle.world_model.proofs.finish.FinishLinks.{up_is}
use Rattle.world_model.proofs.events.Happened.{at_event, Followed, follow_happens}
use Rattle.world_model.proofs.events.Moves.{Happens, Nothing, IsStep, Serves, Cuts, Reaps, Crashes, OpensUp, StopsOpening, Ticks, RunsOutside, Asks, Drains}
use Rattle.world_model.proofs.basic.Servers.{goes_same}
use Rattle.world_model.proofs.events.WholeOrderly.{orderly_is_kept}

-- WHAT IS NO CRASH --------------------------------------------------------------------------------

abbrev is_crash : Event → Bool
is_crash (event.Crash connection after pick) = true
is_crash _ = false

abbrev crashed : Noted → Bool
crashed (Crashed connection after failover down) = true
crashed _ = false

abbrev found_crash : Option Noted → Bool
found_crash found = option_map_or crashed found false

quiet_if : (test : Bool) (kind : Noted) → crashed kind ≡ false → found_crash (only_if test kind) ≡ false
quiet_if true kind quiet = quiet
quiet_if false kind quiet = refl

quiet_kind : (one : Event) (noted : Note) → is_crash one ≡ false → found_crash (matched one noted) ≡ false
quiet_kind (event.Crash connection after pick) noted quiet = absurd (let none : ⊥ = cc in none)
quiet_kind (event.Go client) (note.Go named did) quiet = quiet_if (named == client) (Went client did) refl
quiet_kind (event.Serve connection) (note.Serve named frame) quiet = quiet_if (named == connection) (ServedOn connection frame) refl
quiet_kind (event.Cut connection up down) (note.Cut named reached) quiet = quiet_if (named == connection) (CutOff connection up down reached) refl
quiet_kind (event.Reap connection) (note.Reap named reaped) quiet = quiet_if (named == connection) (Reaped connection reaped) refl
quiet_kind (event.Ask ltxid) (note.Ask named told) quiet = quiet_if (same_ltxid named ltxid) (Asked ltxid told) refl
quiet_kind event.Up (note.Up incarnation) quiet = refl
quiet_kind (event.UpCrash after pick) (note.UpCrash made) quiet = refl
quiet_kind event.Tick note.Tick quiet = refl
quiet_kind (event.Outside calls) (note.Outside ran) quiet = refl
quiet_kind event.Drain (note.Drain closed) quiet = refl
quiet_kind one noted quiet = refl

-- THE SERVER --------------------------------------------------------------------------------------

abbrev pub up_of : Server → Bool
up_of server = server.is_up

pub served_up : (server : Server) (one : Item) → up_of (server_after server one) ≡ server.is_up
served_up server (item.Outcome asked result) = by (is_uncommitted result)
  where
    by : (test : Bool) → up_of (if test then record server { blocked = asked ∷ server.blocked } else server) ≡ server.is_up
    by true = refl
    by false = refl
served_up server one = refl

pub asked_up : (server : Server) (ltxid : Ltxid) (result : AskResult) → up_of (after_asked server ltxid result) ≡ server.is_up
asked_up server ltxid result = by (is_uncommitted result)
  where
    by : (test : Bool) → up_of (if test then record server { blocked = ltxid ∷ server.blocked } else server) ≡ server.is_up
    by true = refl
    by false = refl

still_up : (setting : Setting) (m : Machine) (items left : List Served) (kind : Noted) (n : Machine) → Happens setting m items left kind n → crashed kind ≡ false → m.server.is_up ≡ true → n.server.is_up ≡ true
still_up setting m items left kind _ (Nothing happened other) quiet up = up
still_up setting m items left _ _ (IsStep number did n moves) quiet up = ap up_of (goes_same setting m number n moves).server ∙ up
still_up setting m items left _ _ (Serves number frame front served is ordinary same) quiet up = served_up m.server served.item ∙ up
still_up setting m items left _ _ (Cuts number one other reached link is) quiet up = up
still_up setting m items left _ _ (Reaps number reaped orphan) quiet up = up
still_up setting m items left _ _ (Crashes number after failover down a runs last) quiet up = absurd (let none : ⊥ = cc in none)
still_up setting m items left _ _ (OpensUp incarnation down may) quiet up = refl
still_up setting m items left _ _ (StopsOpening made down) quiet up = up
still_up setting m items left _ _ Ticks quiet up = up
still_up setting m items left _ _ (RunsOutside ran runs) quiet up = up
still_up setting m items left _ _ (Asks ltxid result runs) quiet up = asked_up m.server ltxid result ∙ up
still_up setting m items left _ _ (Drains closed) quiet up = up

quiet_some : (found : Option Noted) (kind : Noted) → found ≡ Some kind → found_crash found ≡ false → crashed kind ≡ false
quiet_some found kind is quiet = sym (ap found_crash is) ∙ quiet

follows_up : (setting : Setting) (m : Machine) (one : Event) (noted : Note) (items left : List Served) (n : Machine) → follow setting m one noted items ≡ Some (n, left) → is_crash one ≡ false → m.server.is_up ≡ true → n.server.is_up ≡ true
follows_up setting m one noted items left n e quiet up =
    let by : Followed setting m one noted items left n = follow_happens setting m one noted items left n e in
    still_up setting (at_event m) items left by.kind n by.happens (quiet_some (matched one noted) by.kind by.is_kind (quiet_kind one noted quiet)) up

-- THE FINISH --------------------------------------------------------------------------------------

-- none of its events is a crash
abbrev makes_crash : Next → Bool
makes_crash made = option_map_or (λ p. is_crash p.0) made false

serves_quiet : (m : Machine) → makes_crash (serves_or_ticks m) ≡ false
serves_quiet m = by (first_behind (λ link. is_some (front_of link)) 0 m.links)
  where
    by : (found : Option ℕ) → makes_crash (option_map_or (λ number. Some (event.Serve number, AtLinks)) found (Some (event.Tick, AtRound))) ≡ false
    by None = refl
    by (Some number) = refl

goes_quiet : (m : Machine) (last : ℕ) → makes_crash (goes_or_serves m last) ≡ false
goes_quiet m last = by (first_behind is_unfinished last m.clients)
  where
    by : (found : Option ℕ) → makes_crash (option_map_or (λ number. Some (event.Go number, AtClients number)) found (serves_or_ticks m)) ≡ false
    by None = serves_quiet m
    by (Some number) = refl

round_quiet : (m : Machine) → makes_crash (next_round m) ≡ false
round_quiet m = by (list_any is_unfinished m.clients)
  where
    by : (any : Bool) → makes_crash (if any then goes_or_serves m 0 else None) ≡ false
    by true = goes_quiet m 0
    by false = refl

reaps_quiet : (m : Machine) → makes_crash (reaps_or_goes m) ≡ false
reaps_quiet m = by (first_behind is_orphan 0 m.links)
  where
    by : (found : Option ℕ) → makes_crash (option_map_or (λ number. Some (event.Reap number, AtOrphans)) found (next_round m)) ≡ false
    by None = round_quiet m
    by (Some number) = refl

finish_quiet : (m : Machine) (place : Place) → makes_crash (next_finish m place) ≡ false
finish_quiet m AtServer = by m.server.is_up
  where
    by : (up : Bool) → makes_crash (if up then reaps_or_goes m else Some (event.Up, AtOrphans)) ≡ false
    by true = reaps_quiet m
    by false = refl
finish_quiet m AtOrphans = reaps_quiet m
finish_quiet m AtRound = round_quiet m
finish_quiet m (AtClients last) = goes_quiet m last
finish_quiet m AtLinks = serves_quiet m

opened_up : (setting : Setting) (m n : Machine) (items left : List Served) (one : Event) (noted : Note) (next : Place) → m.server.is_up ≡ false → next_finish m AtServer ≡ Some (one, next) → follow setting m one noted items ≡ Some (n, left) → n.server.is_up ≡ true
opened_up setting m n items left one noted next down is e =
    let first : Some (event.Up, AtOrphans) ≡ Some (one, next) = sym (ap (λ (b : Bool). if b then reaps_or_goes m else Some (event.Up, AtOrphans)) down) ∙ is in
    let same : event.Up ≡ one = ap (λ (found : Option (Event × Place)). option_map_or (λ (p : Event × Place). p.0) found event.Up) first in
    let opens = up_is setting m items left n noted down (subst (λ (kind : Event). follow setting m kind noted items ≡ Some (n, left)) (sym same) e) in
    ap (λ (a : Machine). a.server.is_up) (sym opens.1)

-- the server is up behind the next event of the finish, if it was up from the first one on
pub finish_up : (setting : Setting) (m n : Machine) (items left : List Served) (one : Event) (noted : Note) (place next : Place) → (is_at_server place ≡ false → m.server.is_up ≡ true) → next_finish m place ≡ Some (one, next)
    → follow setting m one noted items ≡ Some (n, left) → n.server.is_up ≡ true
finish_up setting m n items left one noted place next up is e = by place up is
  where
    quiet : (at : Place) → next_finish m at ≡ Some (one, next) → is_crash one ≡ false
    quiet at is = sym (ap makes_crash is) ∙ finish_quiet m at

    server : (up : Bool) → m.server.is_up ≡ up → next_finish m AtServer ≡ Some (one, next) → n.server.is_up ≡ true
    server true up is = follows_up setting m one noted items left n e (quiet AtServer is) up
    server false up is = opened_up setting m n items left one noted next up is e

    by : (at : Place) → (is_at_server at ≡ false → m.server.is_up ≡ true) → next_finish m at ≡ Some (one, next) → n.server.is_up ≡ true
    by AtServer up is = server m.server.is_up refl is
    by at up is = follows_up setting m one noted items left n e (quiet at is) (up refl)

-- where no further event is made, it is up
pub over_up : (m : Machine) (place : Place) → (is_at_server place ≡ false → m.server.is_up ≡ true) → next_finish m place ≡ None → m.server.is_up ≡ true
over_up m AtServer up over = by m.server.is_up over
  where
    by : (is : Bool) → (if is then reaps_or_goes m else Some (event.Up, AtOrphans)) ≡ None → is ≡ true
    by true over = refl
    by false over = absurd (let none : ⊥ = cc in none)
over_up m place up over = up refl

pub finish_goes_on : EachKeeps → EntryNumbers → FinishGoesOn
finish_goes_on keeps numbers before after old new one note items left place next event can is = record {
  orderly = (orderly_is_kept keeps numbers).at_event before after old new one note items left event can.orderly;
  up = λ behind. finish_up old.setting old.machine new.machine items left one note place next can.up is event.follows;
}

pub finish_begins : FinishBegins
finish_begins t inv = record { orderly = inv; up = λ never. absurd (let none : ⊥ = cc in none) }
