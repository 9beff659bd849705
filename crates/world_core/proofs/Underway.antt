-- Where the machine goes on, and what stands for it then.
use Rattle.std.proofs.Common.{◌≡◌, ◌≤◌, ℕ, zero, suc, ◌+◌, ◌<◌, Bool, true, false, List, [], ◌∷◌, Option, Some, None, length, length-set, get_or, drop, map, fold, refl, sym, ap, ◌∙◌, subst, eq-eqb, arith}
use Rattle.std.specs.Prelude.{is_some, if◌then◌else◌}
use Rattle.std.specs.Option.{option_map_or}
use Rattle.svc_values.specs.meaning.Same.{same_bool}
use Rattle.svc_values.specs.declared.frame.Up.{Up}
use Rattle.client_model.specs.declared.input.Input.TheVariants.{Took}
use Rattle.world_model.specs.meaning.Serving.{Front}
use Rattle.svc_values.specs.declared.frame.Down.{Down}
use Rattle.pool_core.specs.meaning.Slots.{Slots, after_gone}
use Rattle.outage_schedule.specs.declared.note.Reached.{Reached}
use Rattle.world_model.specs.meaning.Frames.{Reply}
use Rattle.world_model.specs.meaning.Links.{Link, link_at, with_link, changed, takes, open_from}
use Rattle.world_model.specs.meaning.Machines.{Machine}
use Rattle.world_model.specs.meaning.Noting.{same_reached}
use Rattle.world_model.specs.meaning.Cutting.{reached_of, cut_link, after_cut, open_at, follow_cut, has_orphan, reaped_link, follow_reap}
use Rattle.world_model.specs.meaning.Crashing.{fallen_link}
use Rattle.world_core.specs.declared.connection.Connection.{Connection}
use Rattle.world_core.specs.declared.connections.Connections.{Connections}
use Rattle.world_core.specs.declared.traffic.Traffic.{Traffic}
use Rattle.world_core.specs.Linked.{IsLink, AreLinks, Stand, CutsAt, GivesFrontAt, GivesReplyAt}
use Rattle.world_core.specs.Underway.{IsUnderway, Leads, FrontOf, GivesReplyOf}

-- LEAVING -----------------------------------------------------------------------------------------

-- the one at a place, and those behind it
pub rest_at : (all : List Connection) (links : List Link) (at : ℕ) (one : Connection) → AreLinks all links → at < length all → one ≡ get_or all at one → (link : Link) × (drop at links ≡ link ∷ drop (suc at) links) × IsLink one link
rest_at [] links at one are within is = absurd (omega (arith, within))
rest_at (c ∷ all) [] at one are within is = absurd are
rest_at (c ∷ all) (l ∷ links) zero one are within is = (l, refl, subst (λ x. IsLink x l) (sym is) are.0)
rest_at (c ∷ all) (l ∷ links) (suc at) one are within is = rest_at all links at one are.1 (omega (arith, within)) is

pub leave_one : (pool : Slots) (number : ℕ) (b : Bool) (link : Link) (rest : List Link) → link.is_open ≡ b
    → fold after_gone (if b then after_gone pool number else pool) (open_from (number + 1) rest) ≡ fold after_gone pool (open_from number (link ∷ rest))
leave_one pool number true link rest e = rw e refl
leave_one pool number false link rest e = rw e refl

pub none_left : (links : List Link) (n : ℕ) → length links ≤ n → drop n links ≡ []
none_left [] zero within = refl
none_left [] (suc n) within = refl
none_left (l ∷ links) zero within = absurd (omega (arith, within))
none_left (l ∷ links) (suc n) within = none_left links n (omega (arith, within))

-- CUTTING AND REAPING -----------------------------------------------------------------------------

same_numbers : (r : Reached) → same_reached r r ≡ true
same_numbers r = rw (eq-eqb r.up r.up refl, eq-eqb r.down r.down refl) refl

same_bools : (b : Bool) → same_bool b b ≡ true
same_bools true = refl
same_bools false = refl

links_kept : (links : List Link) (number : ℕ) (link : Link) → length (with_link links number link) ≡ length links
links_kept links zero link = refl
links_kept links (suc at) link = length-set links at link

pub changed_kept : (change : Link → Link) (links : List Link) (number : ℕ) (found : Option Link) → length (option_map_or (λ link. with_link links number (change link)) found links) ≡ length links
changed_kept change links number None = refl
changed_kept change links number (Some link) = links_kept links number (change link)

none_some : {A B : Type 0} (x : A) → ◌≡◌ {A = Option A} None (Some x) → B
none_some x e = absurd (let nothing : ⊥ = cc in nothing)

some_none : {A : Type 0} (reached : Option Reached) → reached ≡ None → is_some reached ≡ true → A
some_none reached e some = absurd (let none : false ≡ true = sym (ap (λ (r : Option Reached). is_some r) e) ∙ some in let nothing : ⊥ = cc in nothing)

pub cut_leads : (held : Traffic) (m : Machine) (number up down : ℕ) (connections : Connections) (pool : Slots) (reached : Option Reached) (found : Option Link)
    → IsUnderway held m → open_at m.links number ≡ found → CutsAt m.links number held.event up down found reached connections → is_some reached ≡ true → pool ≡ after_gone held.pool number
    → Leads (follow_cut m number up down reached) (record held { connections = connections; pool = pool })
cut_leads held m number up down connections pool reached None is found cut some gone = some_none reached cut.0 some
cut_leads held m number up down connections pool reached (Some link) is found cut some gone =
    let followed : follow_cut m number up down reached ≡ Some (after_cut m number up down link) = rw (cut.0, found, same_numbers (reached_of link up down)) refl in (
      after_cut m number up down link,
      (
        followed,
        record {
          event = is.event;
          tick = is.tick;
          links = subst (λ e. Stand connections (with_link m.links number (cut_link e up down link))) (sym is.event) cut.1;
          pool = ap (λ p. after_gone p number) is.pool ∙ sym gone;
          opened = rw (links_kept m.links number (cut_link m.event up down link)) is.opened;
        },
      ),
    )

pub reap_leads : (held : Traffic) (m : Machine) (number : ℕ) (connections : Connections) (reaped : Bool) → IsUnderway held m → reaped ≡ has_orphan m.links number
    → Stand connections (if reaped then changed reaped_link m.links number else m.links) → Leads (follow_reap m number reaped) (record held { connections = connections })
reap_leads held m number connections true is told stands =
    let after : Machine = record m { links = changed reaped_link m.links number } in
    let followed : follow_reap m number true ≡ Some after = rw (← told) refl in (
      after,
      (
        followed,
        record {
          event = is.event;
          tick = is.tick;
          links = stands;
          pool = is.pool;
          opened = rw (changed_kept reaped_link m.links number (link_at m.links number)) is.opened;
        },
      ),
    )
reap_leads held m number connections false is told stands =
    let followed : follow_reap m number false ≡ Some m = rw (← told) refl in
    (m, (followed, record { event = is.event; tick = is.tick; links = stands; pool = is.pool; opened = is.opened }))

-- TAKING ------------------------------------------------------------------------------------------

pub reply_underway : (held : Traffic) (m : Machine) (number : ℕ) (link : Link) (replies : List Reply) (reply : Option Down) (connections : Connections) → IsUnderway held m → GivesReplyAt m.links number link replies reply connections
    → GivesReplyOf m number link replies reply (record held { connections = connections })
reply_underway held m number link [] reply connections is gives = (gives.0, record { event = is.event; tick = is.tick; links = gives.1; pool = is.pool; opened = is.opened })
reply_underway held m number link (first ∷ left) reply connections is gives = (
  gives.0,
  record {
    event = is.event;
    tick = is.tick;
    links = gives.1;
    pool = is.pool;
    opened = rw (links_kept m.links number (takes (Took first.frame link.is_open) first left link)) is.opened;
  },
)

pub front_underway : (held : Traffic) (m : Machine) (number : ℕ) (front : Option Front) (frame : Option Up) (connections : Connections) → IsUnderway held m → GivesFrontAt m.links number front frame connections
    → FrontOf m number front frame (record held { connections = connections })
front_underway held m number None frame connections is gives = (gives.0, record { event = is.event; tick = is.tick; links = gives.1; pool = is.pool; opened = is.opened })
front_underway held m number (Some front) frame connections is gives = (
  gives.0,
  record {
    event = is.event;
    tick = is.tick;
    links = gives.1;
    pool = is.pool;
    opened = rw (links_kept m.links number (record front.link { up = front.later })) is.opened;
  },
)

-- FALLING AND OPENING -----------------------------------------------------------------------------

gone_opened : (pool : Slots) (numbers : List ℕ) → (fold after_gone pool numbers).opened ≡ pool.opened
gone_opened pool [] = refl
gone_opened pool (number ∷ numbers) = gone_opened (after_gone pool number) numbers

same_size : (change : Link → Link) (links : List Link) → length (map change links) ≡ length links
same_size change [] = refl
same_size change (link ∷ links) = ap suc (same_size change links)

pub fallen_underway : (held : Traffic) (m : Machine) (connections : Connections) (pool : Slots) → IsUnderway held m → Stand connections (map (fallen_link held.event) m.links) → pool ≡ fold after_gone held.pool (open_from 1 m.links)
    → IsUnderway (record held { connections = connections; pool = pool }) (record m { links = map (fallen_link m.event) m.links; pool = fold after_gone m.pool (open_from 1 m.links) })
fallen_underway held m connections pool is stands left = record {
  event = is.event;
  tick = is.tick;
  links = subst (λ e. Stand connections (map (fallen_link e) m.links)) (sym is.event) stands;
  pool = ap (λ p. fold after_gone p (open_from 1 m.links)) is.pool ∙ sym left;
  opened = rw (gone_opened m.pool (open_from 1 m.links), same_size (fallen_link m.event) m.links) is.opened;
}
