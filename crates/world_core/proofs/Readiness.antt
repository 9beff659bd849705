-- The service stays ready, and no call of it is stopped.
use Rattle.std.proofs.Common.{◌≡◌, ◌<◌, ◌≤◌, ◌+◌, subst, ℕ, true, false, Option, Some, None, refl, sym, ◌∙◌, arith}
use Rattle.std.specs.Prelude.{◌*◌, ◌^◌}
use Rattle.svc_values.specs.declared.entry.Ltxid.{Ltxid}
use Rattle.server_model.specs.meaning.Outcomes.{Stopped}
use Rattle.server_model.specs.Seen.{ServiceState, Store, Seen, Keeps, KeepsStore}
use Rattle.server_model.specs.ServiceCalls.{ServedOne, KeepsOpening, StopsOnly, StoppedOpening, StoppedOutside, StoppedAsk}
use Rattle.svc_values.specs.declared.frame.Up.{Up}
use Rattle.service_calls.specs.Kept.{Goes}
use Rattle.world_core.specs.declared.traffic.Traffic.{Traffic}
use Rattle.world_core.specs.Making.{IsReady, IsSomewhere}

pub up_not_down : (state : ServiceState) → state.is_up ≡ true → state.is_up ≡ false → state.is_settled ≡ true
up_not_down state up down = absurd (let same : true ≡ false = sym up ∙ down in let nothing : ⊥ = cc in nothing)

pub up_not_opened : (state : ServiceState) → state.is_up ≡ false → state.is_up ≡ true → state.is_opened ≡ true
up_not_opened state down up = absurd (let same : true ≡ false = sym up ∙ down in let nothing : ⊥ = cc in nothing)

-- behind a call that leaves the service where it was
pub stays_ready : (old new : Seen) → Keeps old new → IsReady old.state → (new.state.is_up ≡ true → old.state.is_up ≡ true) → (new.state.is_up ≡ false → new.state.is_settled ≡ true) → IsReady new.state
stays_ready old new keeps ready was_up settled = record {
  live = keeps.is_spent;
  quiet = keeps.is_quiet ∙ ready.quiet;
  unstopped = keeps.stop ready.unstopped;
  opened = λ up. keeps.is_opened ∙ ready.opened (was_up up);
  settled = settled;
}

pub store_ready : (old new : Seen) → Keeps old new → KeepsStore old new → IsReady old.state → IsReady new.state
store_ready old new keeps store ready = stays_ready old new keeps ready (λ up. sym store.is_up ∙ up) (λ down. store.is_settled ∙ ready.settled (sym store.is_up ∙ down))

pub opened_ready : (old new : Seen) → KeepsOpening old new → IsReady old.state → (new.state.is_up ≡ true) × (new.state.is_opened ≡ true) → IsReady new.state
opened_ready old new keeps ready opened = record {
  live = keeps.is_spent;
  quiet = keeps.is_quiet ∙ ready.quiet;
  unstopped = keeps.stop ready.unstopped;
  opened = λ up. opened.1;
  settled = up_not_down new.state opened.0;
}

-- NO CALL IS STOPPED -----------------------------------------------------------------------------

risen : (old new : ℕ) → old < new → new ≡ old → ⊥
risen old new rose same = omega (arith, rose, same)

none_not : (stop : Option ℕ) (n : ℕ) → stop ≡ None → stop ≡ Some n → ⊥
none_not stop n none some = let same : ◌≡◌ {A = Option ℕ} None (Some n) = sym none ∙ some in cc

pub stops_only : (old new : Seen) → IsReady old.state → StopsOnly old new true → ⊥
stops_only old new ready cause = cause.quiet ready.quiet (risen old.state.faults new.state.faults (cause.rose refl)) ready.unstopped

-- no frame of a service that is ready is stopped
pub frame_never_stops : (sees sees_later : Seen → Type 0) (leaves : Store → Type 0) (before : Traffic) (number now : ℕ) (frame : Up) → IsSomewhere sees before
    → Goes sees sees_later (λ old new. ServedOne old number now frame Stopped leaves new) → ⊥
frame_never_stops sees sees_later leaves before number now frame there goes =
    let seen = there.0 in
    let is = there.1.1 in
    let gone = goes seen is.seen_so in
    let cause = gone.1.1.cause in
    let by = cause.quiet is.ready.quiet (risen seen.state.faults gone.0.state.faults (cause.rose refl)) in
    none_not seen.state.stop by.0 is.ready.unstopped by.1

-- nor is an opening, nor calls or a question from outside
pub opening_never_stops : (sees sees_later : Seen → Type 0) (leaves : Store → Type 0) (before : Traffic) (horizon : ℕ) → IsSomewhere sees before → Goes sees sees_later (λ old new. StoppedOpening old horizon leaves new) → ⊥
opening_never_stops sees sees_later leaves before horizon there goes = let gone = goes there.0 there.1.1.seen_so in stops_only there.0 gone.0 there.1.1.ready gone.1.1.cause

pub outside_never_stops : (sees sees_later : Seen → Type 0) (leaves : Store → Type 0) (before : Traffic) → IsSomewhere sees before → Goes sees sees_later (λ old new. StoppedOutside old leaves new) → ⊥
outside_never_stops sees sees_later leaves before there goes = let gone = goes there.0 there.1.1.seen_so in stops_only there.0 gone.0 there.1.1.ready gone.1.1.cause

pub ask_never_stops : (sees sees_later : Seen → Type 0) (leaves : Store → Type 0) (before : Traffic) (x : Ltxid) → IsSomewhere sees before → Goes sees sees_later (λ old new. StoppedAsk old x leaves new) → ⊥
ask_never_stops sees sees_later leaves before x there goes = let gone = goes there.0 there.1.1.seen_so in stops_only there.0 gone.0 there.1.1.ready gone.1.1.cause

-- WHAT THE CALLS ASK FOR --------------------------------------------------------------------------

-- it may be called, and three times more; where it is down it may be opened
pub record MayCall (state : ServiceState) : Type 0 where
  pub live : state.is_spent ≡ false
  pub few : state.calls + 2 < 2 ^ 48
  pub settled : state.is_up ≡ false → state.is_settled ≡ true

few_calls : (calls event held : ℕ) → calls ≤ 4 * event + 4 → event ≡ held → held < 2 ^ 45 → calls + 2 < 2 ^ 48
few_calls calls event held most same below = omega (arith, most, same, below)

pub may_call : (sees : Seen → Type 0) (state : ServiceState) (traffic : Traffic) → IsSomewhere sees traffic → traffic.event < 2 ^ 45 → ((seen : Seen) → sees seen → seen.state ≡ state) → MayCall state
may_call sees state traffic there below state_is =
    let seen = there.0 in
    let t = there.1.0 in
    let is = there.1.1 in
    subst MayCall (state_is seen is.seen_so) (record { live = is.ready.live; few = few_calls seen.state.calls t.machine.event traffic.event is.calls is.underway.event below; settled = is.ready.settled })

one_less : (calls : ℕ) → calls + 2 < 2 ^ 48 → calls < 2 ^ 48
one_less calls few = omega (arith, few)

pub one_more : (state : ServiceState) → MayCall state → state.calls < 2 ^ 48
one_more state may = one_less state.calls may.few

-- the clock is no further than the events
few_ticks : (tick event held now : ℕ) → tick ≤ event → event ≡ held → tick ≡ now → held < 2 ^ 45 → now < 2 ^ 48
few_ticks tick event held now most same is below = omega (arith, most, same, is, below)

pub may_pass : (sees : Seen → Type 0) (traffic : Traffic) → IsSomewhere sees traffic → traffic.event < 2 ^ 45 → traffic.tick < 2 ^ 48
may_pass sees traffic there below = let is = there.1.1 in few_ticks there.1.0.machine.tick there.1.0.machine.event traffic.event traffic.tick is.ticks is.underway.event is.underway.tick below
