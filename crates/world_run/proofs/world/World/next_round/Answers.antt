use Rattle.std.proofs.Common.{rules, ◌≡◌, sym, ap, ◌∙◌, Some, None}
use Rattle.std.specs.Prelude.{option_map}
use Rattle.world_run.specs.Places.{led_to}
use Rattle.world_run.proofs.Unfinished.{begins_round}
use Rattle.world_run.proofs.world.World.next_round.Goals as goal

pub returns-in_err-client-clause-next : goal.returns-in_err-client-clause-next
returns-in_err-client-clause-next g c = λ seen t is.
    let none : c.from_residual.result ≡ None = search rules in
    ap (option_map led_to) none ∙ begins_round t.machine None (sym c.in_err-client.was ∙ c.next_unfinished.ensures.next seen t is)

pub returns-clause-next : goal.returns-clause-next
returns-clause-next g c = λ seen t is. begins_round t.machine (Some c.in_ok-client.client) (sym c.in_ok-client.was ∙ c.next_unfinished.ensures.next seen t is)
