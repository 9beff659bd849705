-- What the invariant says of the state in which an event begins.
use Rattle.std.proofs.Common.{◌≡◌, sym, ap, ◌∙◌, true, ℕ, Some, None}
use Rattle.std.proofs.lemmas.Bool.{and_parts}
use Rattle.pool_core.specs.declared.answers.Take.TheVariants as take
use Rattle.pool_core.specs.meaning.Slots.{take_answer, after_take}
use Rattle.world_model.specs.records.Basic.{ends_rightly, is_named}
use Rattle.world_model.specs.records.Hold.{is_connect}
use Rattle.invariant_laws.specs.Invariant.{Invariant}
use Rattle.world_model.specs.meaning.Links.{Link, link_at}
use Rattle.world_model.specs.meaning.Serving.{Front, front_at}
use Rattle.world_model.specs.Traced.{Traced}
use Rattle.world_model.specs.records.Wire.{is_sent_front, stage_of, is_right}
use Rattle.world_model.proofs.Offered.{connect_first, IsLent, is_lent, dead_sends_none, idle_open_once}
use Rattle.shown_laws.proofs.links.EventsTold.{Stands}
use Rattle.shown_laws.proofs.events.Following.{at_event}
use Rattle.shown_laws.proofs.links.ItemsTold.{IsFront, front_is}
use Rattle.shown_laws.proofs.links.SessionsApart.{at_link, are_apart, cut_shut, none_named}

module _ (t : Traced) (inv : Invariant t) where
  lent_open : (client connection : ℕ) (link : Link) → take_answer t.machine.pool client ≡ take.Lent connection → link_at t.machine.links connection ≡ Some link → link.is_open ≡ true
  lent_open client connection link answer there =
      let is : IsLent t connection (after_take t.machine.pool client) = is_lent t inv.orderly client connection answer in
      let both : Some is.link ≡ Some link = sym is.there ∙ there in
      let same : is.link ≡ link = cc in
      ap (λ (l : Link). l.is_open) (sym same) ∙ is.is_open

  -- a Connect that may be served is served before all others
  fresh_front : (number : ℕ) (front : Front) → front_at t.machine.links number ≡ Some front → is_connect front.first.frame ≡ true → front.link.session ≡ None
  fresh_front number front at is =
      let on : IsFront t.machine.links number front = front_is t.machine.links number front at in
      none_named front.link (at_link is_named t.machine.links number front.link inv.orderly.basic.named on.there)
      (connect_first front.link front.first front.later (at_link is_sent_front t.machine.links number front.link inv.orderly.wire.sent on.there)
      (at_link (λ link. is_right (stage_of link)) t.machine.links number front.link inv.orderly.wire.grammar on.there) on.up is)

  pub all_stand : Stands (at_event t.machine)
  all_stand = record {
    speaks = record { lent = lent_open; dead = dead_sends_none };
    apart = are_apart t.machine.links (and_parts _ _ inv.orderly.basic.apart).0;
    idle = idle_open_once t inv.orderly;
    fresh = fresh_front;
    cut = λ number link there. cut_shut t link (at_link (ends_rightly t) t.machine.links number link inv.orderly.basic.ended there);
  }
