use Rattle.std.proofs.Common.{◌≡◌, ℕ, ◌+◌, ◌-◌, Bool, Err, sym, ap, ap₂, subst, ◌∙◌, arith}
use Rattle.request_bounds.specs.declared.clocked.Clocked.{Clocked}
use Rattle.request_bounds.specs.meaning.Rules.{Rules}
use Rattle.driver_core.specs.Driving.{terms_of as terms_by}
use Rattle.outage_schedule.specs.declared.document.ServiceOf.{ServiceOf}
use Rattle.pool_core.specs.meaning.Slots.{unused}
use Rattle.run_clauses.specs.meaning.Before.{journal_before, was_opened}
use Rattle.run_clauses.specs.meaning.Horizons.{first_opening}
use Rattle.server_model.specs.Seen.{ServiceState}
use Rattle.server_model.specs.ServiceCalls.{Opened, StoppedOpening}
use Rattle.server_model.specs.declared.fault.ServeFault.{ServeFault}
use Rattle.service_calls.specs.Answers.{Ends}
use Rattle.service_calls.specs.Kept.{Goes, HaveOneBase}
use Rattle.world_model.specs.meaning.Machines.{per_record_of, start_of}
use Rattle.world_model.specs.meaning.Settings.{terms_of}
use Rattle.world_core.specs.declared.traffic.Traffic.{Traffic}
use Rattle.world_core.specs.Forgetting.{Tracks}
use Rattle.world_core.specs.Underway.{IsUnderway}
use Rattle.world_run.proofs.AtStart.{by_scripts, next_incarnation, new_stops, stands_first}
use Rattle.world_run.proofs.world.World.new.Goals as goal

pub up-requires-clause-live : goal.up-requires-clause-live
up-requires-clause-live g c =
    let is = c.requires.begins.1.1 in
    ap (λ (s : ServiceState). s.is_spent) (sym (g.met.S.Service.honest c.args.service c.requires.begins.1.0 is.seen_so).state_is) ∙ is.new.none.5

pub up-requires-clause-few : goal.up-requires-clause-few
up-requires-clause-few g c =
    let is = c.requires.begins.1.1 in
    let none : (g.S.Service.state c.args.service).calls ≡ 0 = ap (λ (s : ServiceState). s.calls) (sym (g.met.S.Service.honest c.args.service c.requires.begins.1.0 is.seen_so).state_is) ∙ is.new.none.4 in
    omega (arith, none)

pub up-requires-clause-down : goal.up-requires-clause-down
up-requires-clause-down g c =
    let is = c.requires.begins.1.1 in
    let same = sym (g.met.S.Service.honest c.args.service c.requires.begins.1.0 is.seen_so).state_is in
    (ap (λ (s : ServiceState). s.is_up) same ∙ is.new.down.0, ap (λ (s : ServiceState). s.is_settled) same ∙ is.new.down.1)

pub unreachable-requires : goal.unreachable-requires
unreachable-requires g c =
    let is = c.requires.begins.1.1 in
    new_stops c.requires.begins.1.0 is.new is.quiet (g.S.Service.sees c.args.service) (g.S.Service.sees c.up.new.self) (g.S.Service.leaves c.up.new.self) is.seen_so
    (subst (λ (e : ServeFault). Ends (Err e) (λ done. Goes (g.S.Service.sees c.args.service) (g.S.Service.sees c.up.new.self) (λ old new. Opened old 0 new)) (Goes (g.S.Service.sees c.args.service) (g.S.Service.sees c.up.new.self) (λ old new. StoppedOpening old 0 (g.S.Service.leaves c.up.new.self) new)))
    c.in-Err-Stopped.field-0-is c.in-Err-Stopped.ensures.opened)

pub new-requires-3-clause-room : goal.new-requires-3-clause-room
new-requires-3-clause-room g c =
    let document = c.requires.begins.0 in
    let seen = c.requires.begins.1.0 in
    let is = c.requires.begins.1.1 in
    let gone = c.in-Ok.ensures.opened seen is.seen_so in
    let same = (g.met.S.Service.honest c.up.new.self gone.0 gone.1.0).state_is in
    let next : gone.0.state.store.incarnation ≡ (journal_before document).incarnation + 1 = next_incarnation document seen gone.0 is.new is.quiet (is.per_record ∙ ap per_record_of (sym is.service)) is.start is.sound gone.1.1 (g.met.S.Service.honest c.up.new.self gone.0 gone.1.0).history in
    let told = c.incarnation-last.ensures (ap (λ (s : ServiceState). s.is_up) (sym same) ∙ gone.1.1.is_up.0) ∙ ap (λ (s : ServiceState). s.store.incarnation) (sym same) in
    let room = is.room in
    omega (arith, next, told, room)

pub returns-clause-start : goal.returns-clause-start
returns-clause-start g c = λ document seen is.
    let gone = c.in-Ok.ensures.opened seen is.seen_so in
    let new = gone.0 in
    let honest = g.met.S.Service.honest c.up.new.self new gone.1.0 in
    let same = honest.state_is in
    let records = is.per_record ∙ ap per_record_of (sym is.service) in
    let next : new.state.store.incarnation ≡ (journal_before document).incarnation + 1 = next_incarnation document seen new is.new is.quiet records is.start is.sound gone.1.1 honest.history in
    let told : c.incarnation-last.result ≡ new.state.store.incarnation = c.incarnation-last.ensures (ap (λ (s : ServiceState). s.is_up) (sym same) ∙ gone.1.1.is_up.0) ∙ ap (λ (s : ServiceState). s.store.incarnation) (sym same) in
    let last : c.incarnation-last.result - 1 ≡ (journal_before document).incarnation = omega (arith, next, told) in
    let underway : IsUnderway c.new-2.result.traffic (start_of document) =
    subst (λ (traffic : Traffic). IsUnderway traffic (start_of document)) (sym c.new-2.ensures.traffic)
    (subst (λ (of : ServiceOf). IsUnderway c.new.result (record (start_of document) { pool = unused of.pool.max })) (sym is.service) (c.new.ensures (start_of document))) in
    let tracks : Tracks document.service.retention c.new-3.result (first_opening (was_opened document) (journal_before document).incarnation) =
    subst (λ (n : ℕ). Tracks document.service.retention c.new-3.result (first_opening (was_opened document) n)) last
    (subst (λ (b : Bool). Tracks document.service.retention c.new-3.result (first_opening b (c.incarnation-last.result - 1))) is.opened_is
    (subst (λ (of : ServiceOf). Tracks of.retention c.new-3.result (first_opening c.args.opened (c.incarnation-last.result - 1))) (sym is.service) c.new-3.ensures)) in
    let terms = ap₂ (λ (rules : Rules) (limits : Clocked). terms_by rules limits c.args.of.now.record_limit) is.rules_are c.limits_of.ensures ∙ ap terms_of (sym is.service) in
    by_scripts _ _ g.S.Service.sees (λ rule. g.R.BoundRule.rules rule) document _ c.args.scripts.now is.clients
    (stands_first document seen new is.new is.quiet records is.start is.sound gone.1.1 honest.history _ _ g.S.Service.sees (λ rule. g.R.BoundRule.rules rule) _
    (subst (λ service. g.S.Service.sees service new) (sym c.new-2.ensures.service) gone.1.0) underway (c.orderly_is_kept.ensures.at_start document is.calls)
    (c.in_ok-clients.ensures document (sym is.clients) terms) tracks (c.new-4.ensures.items, c.new-5.ensures.items) is.room)

pub returns-clause-base : goal.returns-clause-base
returns-clause-base g c = subst (λ (service : g.row.S.Denot). HaveOneBase (g.S.Service.bytes c.args.service) (g.S.Service.bytes service)) (sym c.new-2.ensures.service) c.in-Ok.ensures.base
