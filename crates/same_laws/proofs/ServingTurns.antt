-- What each connection serves in an event: what it had, or one frame more, whose item is the
-- event's.
use Rattle.std.proofs.Common.{◌≡◌, refl, sym, ap, ◌∙◌, ℕ, List, [], ◌∷◌, ◌++◌, Some, None}
use Rattle.svc_values.specs.declared.frame.Up.TheVariants as up
use Rattle.outage_schedule.specs.declared.item.Served.{Served}
use Rattle.client_model.specs.declared.input.Input.TheVariants.{Took}
use Rattle.world_model.specs.meaning.Acting.{sent_by}
use Rattle.world_model.specs.meaning.Crashing.{fallen_link}
use Rattle.world_model.specs.meaning.Frames.{Handled}
use Rattle.world_model.specs.meaning.Links.{Link, new_link, link_at, takes}
use Rattle.world_model.specs.meaning.Machines.{Machine}
use Rattle.world_model.specs.meaning.Matching.{Noted}
use Rattle.world_model.specs.meaning.Serving.{Front, after_front, handled}
use Rattle.world_model.proofs.Offered.{sends_alike, handled_alike, cut_case, fallen_case, Turns, Stays, TurningIsSaid as IsSaid, IsTaken, IsServed, IsCut, IsReaped, HasFallen, WasStopped, WasServed, ComesFrom, IsNew, IsOld}

-- nothing was served, or as much as before, or one frame more with none sent
pub data Serving (links : List Link) (items left : List Served) (number : ℕ) (next : Link) : Type 0 where
  NothingYet : next.served ≡ [] → Serving links items left number next
  AsMuch : (was : Link) → link_at links number ≡ Some was → next.served ≡ was.served → Serving links items left number next
  OneMore : (was : Link) → link_at links number ≡ Some was → (it : Handled) → items ≡ it.served ∷ left → next.served ≡ was.served ++ it ∷ [] → next.sent ≡ was.sent → Serving links items left number next

record HasMore (served : Served) (was next : Link) : Type 0 where
  it : Handled
  is : it.served ≡ served
  served_are : next.served ≡ was.served ++ it ∷ []
  sent : next.sent ≡ was.sent

front_more : (front : Front) (served : Served) → HasMore served front.link (after_front front served None)
front_more front served = record { it = record { sent = front.first; served = served; reply = None }; is = refl; served_are = refl; sent = refl }

handled_more : (event : ℕ) (front : Front) (served : Served) → HasMore served front.link (handled event front served)
handled_more event front served =
    handled_alike (HasMore served front.link) event front served (λ reply. record { it = record { sent = front.first; served = served; reply = reply }; is = refl; served_are = refl; sent = refl })
    (λ reply. record { it = record { sent = front.first; served = served; reply = reply }; is = refl; served_are = refl; sent = refl })

fallen_more : (event : ℕ) (served : Served) (was link : Link) → HasMore served was link → HasMore served was (fallen_link event link)
fallen_more event served was link more =
    fallen_case (HasMore served was) event link (λ opens. record { it = more.it; is = more.is; served_are = more.served_are; sent = more.sent }) (λ closed. record { it = more.it; is = more.is; served_are = more.served_are; sent = more.sent })

module _ (m : Machine) (items left : List Served) (kind : Noted) (number : ℕ) where
  one_more : (front : Front) (served : Served) (next : Link) → link_at m.links number ≡ Some front.link → items ≡ served ∷ left → HasMore served front.link next → Serving m.links items left number next
  one_more front served next there same more = OneMore front.link there more.it (same ∙ ap (λ (one : Served). one ∷ left) (sym more.is)) more.served_are more.sent

  turn_serves : (link next : Link) → link_at m.links number ≡ Some link → Turns m items left kind number link next → Serving m.links items left number next
  turn_serves link _ there (Stays _) = AsMuch link there refl
  turn_serves link _ there (IsSaid frames _ idle) = AsMuch link there (sends_alike (λ l. l.served ≡ link.served) m.event frames link refl refl)
  turn_serves link _ there (IsTaken frames reply later _ out down) = AsMuch link there (sends_alike (λ l. l.served ≡ link.served) m.event frames (takes (Took reply.frame link.is_open) reply later link) refl refl)
  turn_serves link _ there (IsCut ups downs _ opens) = AsMuch link there (cut_case (λ l. l.served ≡ link.served) m.event ups downs link opens refl)
  turn_serves link _ there (IsReaped other reaped _ is) = AsMuch link there refl
  turn_serves link _ there (HasFallen other after failover down _ is apart) = AsMuch link there (fallen_case (λ l. l.served ≡ link.served) m.event link (λ opens. refl) (λ closed. refl))
  turn_serves _ _ there (IsServed frame front served is at ordinary same) = one_more front served (handled m.event front served) there same (handled_more m.event front served)
  turn_serves _ _ there (WasStopped after failover down front served is at stopped same) =
      one_more front served (fallen_link m.event (after_front front served None)) there same (fallen_more m.event served front.link (after_front front served None) (front_more front served))
  turn_serves _ _ there (WasServed after failover down front served is at over same) =
      one_more front served (fallen_link m.event (handled m.event front served)) there same (fallen_more m.event served front.link (handled m.event front served) (handled_more m.event front served))

  pub comes_serving : (next : Link) → ComesFrom m items left kind number next → Serving m.links items left number next
  comes_serving next (IsNew owner same) = NothingYet (ap (λ (l : Link). l.served) same ∙ sends_alike (λ l. l.served ≡ []) m.event (sent_by owner 0 up.Connect ∷ []) new_link refl refl)
  comes_serving next (IsOld link there turn) = turn_serves link next there turn
