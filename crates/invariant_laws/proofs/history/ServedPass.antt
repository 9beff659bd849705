-- A test of what was served on each connection: behind an event it holds where it did before and
-- holds of what the event serves.
use Rattle.std.proofs.Common.{◌≡◌, ap, Bool, true, ℕ, ◌+◌, List, [], ◌∷◌, ◌++◌, Some, None}
use Rattle.std.specs.List.{list_all}
use Rattle.std.proofs.lemmas.Bool.{and_parts}
use Rattle.outage_schedule.specs.declared.item.Item.{Item}
use Rattle.outage_schedule.specs.declared.item.Served.{Served}
use Rattle.client_model.specs.declared.input.Input.TheVariants.{Took}
use Rattle.world_model.specs.meaning.Crashing.{is_stopped}
use Rattle.world_model.specs.meaning.Frames.{Handled}
use Rattle.world_model.specs.Orderly.{Orderly}
use Rattle.world_model.specs.meaning.Links.{Link, link_at, takes}
use Rattle.world_model.specs.meaning.Machines.{Machine}
use Rattle.world_model.specs.meaning.Matching.{Noted}
use Rattle.world_model.specs.meaning.Serving.{Front, front_at, is_ordinary, after_front, handled}
use Rattle.world_model.specs.Traced.{Traced}
use Rattle.world_model.proofs.Offered.{at_link, append_all, one_all, sends_alike, handled_alike, cut_case, fallen_case, serves_at, at_event, held_now, Happens, by_number, Turns, Stays, TurningIsSaid as IsSaid, IsTaken, IsServed, IsCut, IsReaped, HasFallen, WasStopped, WasServed, ComesFrom, IsNew, IsOld, all_turn}

-- each item that was served on it passes
abbrev pub served_pass : (Item → Bool) → Link → Bool
served_pass passes link = list_all (λ one. passes one.served.item) link.served

module _ (passes : Item → Bool) (t : Traced) (inv : Orderly t) (items left : List Served) (kind : Noted) (n : Machine) (happens : Happens t.setting (at_event t.machine) items left kind n) (old : list_all (served_pass passes) t.machine.links ≡ true)
    (goes : (number : ℕ) (front : Front) (served : Served) → front_at t.machine.links number ≡ Some front → items ≡ served ∷ left → serves_at kind ≡ Some number → is_ordinary (at_event t.machine) front served ≡ true → passes served.item ≡ true)
    (stops : (after : ℕ) (front : Front) (served : Served) → items ≡ served ∷ left → is_stopped (at_event t.machine) after front served ≡ true → passes served.item ≡ true) where
  abbrev event : ℕ
  event = t.machine.event + 1

  abbrev HasPassed : Link → Type 0
  HasPassed link = served_pass passes link ≡ true

  stays : (number : ℕ) (link : Link) → link_at t.machine.links number ≡ Some link → HasPassed link
  stays number link there = at_link (served_pass passes) t.machine.links number link old there

  with_one : (number : ℕ) (link : Link) (this : Handled) → link_at t.machine.links number ≡ Some link → passes this.served.item ≡ true → list_all (λ (one : Handled). passes one.served.item) (link.served ++ this ∷ []) ≡ true
  with_one number link this there is =
      append_all (λ (one : Handled). passes one.served.item) link.served (this ∷ []) (stays number link there) (one_all (λ (one : Handled). passes one.served.item) this is)

  turned : (number : ℕ) (link next : Link) → link_at t.machine.links number ≡ Some link → Turns (at_event t.machine) items left kind number link next → HasPassed next
  turned number link _ there (Stays _) = stays number link there
  turned number link _ there (IsSaid frames _ idle) = sends_alike HasPassed event frames link (stays number link there) (stays number link there)
  turned number link _ there (IsTaken frames reply later _ out down) = sends_alike HasPassed event frames (takes (Took reply.frame link.is_open) reply later link) (stays number link there) (stays number link there)
  turned number _ _ there (IsServed frame front served kind_is at ordinary same) =
      let here : passes served.item ≡ true = goes number front served at same (ap serves_at kind_is) ordinary in
      handled_alike HasPassed event front served (λ reply. with_one number front.link _ there here) (λ reply. with_one number front.link _ there here)
  turned number link _ there (IsCut ups downs _ opens) = cut_case HasPassed event ups downs link opens (stays number link there)
  turned number link _ there (IsReaped other reaped _ kind_is) = stays number link there
  turned number link _ there (HasFallen other after failover down _ kind_is apart) = fallen_case HasPassed event link (λ opens. stays number link there) (λ closed. stays number link there)
  turned number _ _ there (WasStopped after failover down front served kind_is at stopped same) =
      let here : passes served.item ≡ true = stops after front served same stopped in
      fallen_case HasPassed event (after_front front served None) (λ opens. with_one number front.link _ there here) (λ closed. with_one number front.link _ there here)
  turned number _ _ there (WasServed after failover down front served kind_is at over same) =
      let here : passes served.item ≡ true = goes number front served at same (ap serves_at kind_is) (and_parts (is_ordinary (at_event t.machine) front served) _ over).0 in
      let alike : HasPassed (handled event front served) = handled_alike HasPassed event front served (λ reply. with_one number front.link _ there here) (λ reply. with_one number front.link _ there here) in
      fallen_case HasPassed event (handled event front served) (λ opens. alike) (λ closed. alike)

  -- behind the event
  pub still_pass : list_all (served_pass passes) n.links ≡ true
  still_pass = by_number (served_pass passes) n.links (λ number next here. cases number next (all_turn t.setting (at_event t.machine) (held_now t inv) items left kind n happens number next here))
    where
      cases : (number : ℕ) (next : Link) → ComesFrom (at_event t.machine) items left kind number next → HasPassed next
      cases number next (IsNew owner same) = ap (served_pass passes) same
      cases number next (IsOld link there turn) = turned number link next there turn
