-- What orderly states tell of a connection, by its number.
use Rattle.std.proofs.Common.{◌≡◌, ℕ, Some}
use Rattle.world_model.specs.Orderly.{Orderly}
use Rattle.world_model.specs.meaning.Links.{Link, link_at}
use Rattle.world_model.specs.records.Number.{is_told, served_near}
use Rattle.world_model.specs.Traced.{Traced}
use Rattle.world_model.specs.records.Wire.{is_sent_front, is_reply_front, handled_from, one_is_out}
use Rattle.world_model.proofs.events.AllLinks.{at_link}
use Rattle.world_model.proofs.number.LinkCounts.{Known}
use Rattle.world_model.proofs.basic.LinkLives.{counts_commits}

pub known_of : (t : Traced) → Orderly t → (number : ℕ) (link : Link) → link_at t.machine.links number ≡ Some link → Known link
known_of t inv number link there = record {
  sent = at_link is_sent_front t.machine.links number link inv.wire.sent there;
  replies = at_link is_reply_front t.machine.links number link inv.wire.replies there;
  handled = at_link (λ l. handled_from 0 l.served) t.machine.links number link inv.wire.handled there;
  out = at_link one_is_out t.machine.links number link inv.wire.out there;
  near = at_link served_near t.machine.links number link inv.number.served there;
  counts = at_link counts_commits t.machine.links number link inv.basic.commits there;
  held = at_link is_told t.machine.links number link inv.number.told there;
}
