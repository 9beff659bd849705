use Rattle.std.proofs.Common.{◌≡◌, ◌++◌, map}
use Rattle.world_run.proofs.world.transcripts_of.Given as goal

abbrev pub invariant-loop-client : goal.invariant-loop-client
invariant-loop-client g l = l.transcripts.items ++ map (λ client. client.past) l.client-iterator.rest.items ≡ map (λ client. client.past) l.fn.clients.items
