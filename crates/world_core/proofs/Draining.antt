-- A Close is sent on each of some connections, all of them open.
use Rattle.std.proofs.Common.{◌≡◌, ℕ, zero, suc, ◌==◌, Bool, true, false, List, [], ◌∷◌, ◌+◌, Option, Some, None, length, refl, sym, ap, ◌∙◌, subst, eq-eqb, inr}
use Rattle.std.specs.Prelude.{◌||◌, slice_get, is_none}
use Rattle.outage_schedule.specs.declared.event.Event.TheVariants as event
use Rattle.outage_schedule.specs.declared.note.Note.TheVariants as note
use Rattle.server_model.specs.Seen.{Seen}
use Rattle.world_model.specs.meaning.Noting.{only_if}
use Rattle.world_model.specs.meaning.Walking.{follow}
use Rattle.svc_values.specs.declared.frame.Up.{Up}
use Rattle.svc_values.specs.declared.frame.Up.TheVariants as up
use Rattle.pool_core.specs.meaning.Slots.{Slots, is_among, after_drain}
use Rattle.world_model.specs.meaning.Links.{Link, link_at, changed, sends}
use Rattle.world_model.specs.OrderlyLaws.{OrderlyIsKept}
use Rattle.world_model.specs.meaning.Machines.{Machine}
use Rattle.world_model.specs.meaning.Outside.{closed_by_drain, drained, follow_drain}
use Rattle.world_model.proofs.Offered.{AreOpenOnce, idle_open_once}
use Rattle.world_core.specs.declared.connection.Connection.{Connection}
use Rattle.world_core.specs.declared.connections.Connections.{Connections}
use Rattle.world_core.specs.declared.traffic.Traffic.{Traffic}
use Rattle.world_core.specs.Linked.{AreLinks, Stand, MaySend, connection_at}
use Rattle.world_core.specs.Underway.{AreClosable, all_closed, IsUnderway, Leads}
use Rattle.world_core.specs.Making.{Makes, IsSomewhere}
use Rattle.world_core.proofs.Underway.{changed_kept}
use Rattle.world_core.proofs.Coupling.{views, begun, one_alone, made_alone}
use Rattle.world_core.proofs.steps.Unseen.{sent_views}

first_false : (a b : Bool) → (a || b) ≡ false → (a ≡ false) × (b ≡ false)
first_false true b e = absurd (let nothing : ⊥ = cc in nothing)
first_false false b e = (refl, e)

apart_from : (a b : ℕ) → (a == b) ≡ false → a ≡ b → ⊥
apart_from a b told same = let both : true ≡ false = sym (eq-eqb a b same) ∙ told in let nothing : ⊥ = cc in nothing

-- those that are left stay open
pub still_closable : (old new : List Connection) (number : ℕ) (numbers : List ℕ) → ((other : ℕ) → (other ≡ number → ⊥) → connection_at new other ≡ connection_at old other) → is_among number numbers ≡ false → AreClosable old numbers → AreClosable new numbers
still_closable old new number [] same absent are = tt
still_closable old new number (one ∷ numbers) same absent are =
    let both = first_false (one == number) (is_among number numbers) absent in
    (subst (λ c. MaySend c (up.Close ∷ [])) (sym (same one (apart_from one number both.0))) are.0, (are.1.0, still_closable old new number numbers same both.1 are.1.1))

-- one more Close
pub one_closed : (held : Traffic) (m : Machine) (links : List Link) (number : ℕ) (connections : Connections) → IsUnderway held (record m { links = links }) → Stand connections (changed (sends held.event (closed_by_drain ∷ [])) links number)
    → IsUnderway (record held { connections = connections }) (record m { links = changed (sends m.event (closed_by_drain ∷ [])) links number })
one_closed held m links number connections is stands = record {
  event = is.event;
  tick = is.tick;
  links = subst (λ e. Stand connections (changed (sends e (closed_by_drain ∷ [])) links number)) (sym is.event) stands;
  pool = is.pool;
  opened = rw (changed_kept (sends m.event (closed_by_drain ∷ [])) links number (link_at links number)) is.opened;
}

-- the pool drains
pub drain_leads : (held after : Traffic) (m : Machine) (pool : Slots) (idle : List ℕ) (closed : ℕ) → IsUnderway held m → pool ≡ after_drain held.pool → idle ≡ held.pool.idle → closed ≡ length idle
    → ((m : Machine) → IsUnderway (record held { pool = pool }) m → IsUnderway after (record m { links = all_closed m.event m.links idle })) → Leads (follow_drain m closed) after
drain_leads held after m pool idle closed is drains was count closes =
    let among : idle ≡ m.pool.idle = was ∙ ap (λ p. p.idle) (sym is.pool) in
    let counted : closed ≡ length m.pool.idle = count ∙ ap length among in
    let followed : follow_drain m closed ≡ Some (drained m) = rw (eq-eqb closed (length m.pool.idle) counted) refl in
    let begun : IsUnderway (record held { pool = pool }) (record m { pool = after_drain m.pool }) = record { event = is.event; tick = is.tick; links = is.links; pool = ap after_drain is.pool ∙ sym drains; opened = is.opened } in
    (drained m, (followed, subst (λ numbers. IsUnderway after (record m { links = all_closed m.event m.links numbers; pool = after_drain m.pool })) among (closes (record m { pool = after_drain m.pool }) begun)))

-- what a drain asks for is given by what is orderly
none_ended : (ended : Option ℕ) → is_none ended ≡ true → ended ≡ None
none_ended None is = refl
none_ended (Some event) is = absurd (let nothing : ⊥ = cc in nothing)

open_from : (all : List Connection) (links : List Link) (index : ℕ) (frames : List Up) → AreLinks all links → ((link : Link) → slice_get links index ≡ Some link → link.is_open ≡ true) → MaySend (slice_get all index) frames
open_from [] links index frames are opens = tt
open_from (one ∷ all) [] index frames are opens = absurd are
open_from (one ∷ all) (link ∷ links) zero frames are opens = inr (none_ended one.ended (sym are.0.is_open ∙ opens link refl))
open_from (one ∷ all) (link ∷ links) (suc index) frames are opens = open_from all links index frames are.1 opens

open_there : (all : List Connection) (links : List Link) (number : ℕ) (frames : List Up) → AreLinks all links → ((link : Link) → link_at links number ≡ Some link → link.is_open ≡ true) → MaySend (connection_at all number) frames
open_there all links zero frames are opens = tt
open_there all links (suc index) frames are opens = open_from all links index frames are opens

all_closable : (all : List Connection) (links : List Link) (numbers : List ℕ) → AreLinks all links → AreOpenOnce links numbers → AreClosable all numbers
all_closable all links [] are once = tt
all_closable all links (number ∷ numbers) are once = (open_there all links number (up.Close ∷ []) are once.0, (once.1.0, all_closable all links numbers are once.1.1))

pub closable_there : (sees : Seen → Type 0) (traffic : Traffic) → IsSomewhere sees traffic → AreClosable traffic.connections.all.items traffic.pool.idle
closable_there sees traffic there =
    let t = there.1.0 in
    let is = there.1.1 in
    subst (λ (pool : Slots). AreClosable traffic.connections.all.items pool.idle) is.underway.pool (all_closable traffic.connections.all.items t.machine.links t.machine.pool.idle is.underway.links.are (idle_open_once t is.orderly))

-- AT THE SERVICE ----------------------------------------------------------------------------------

-- it looks alike to the service
closed_alike : (event : ℕ) (links : List Link) (numbers : List ℕ) → views (all_closed event links numbers) ≡ views links
closed_alike event links [] = refl
closed_alike event links (number ∷ numbers) =
    closed_alike event (changed (sends event (closed_by_drain ∷ [])) links number) numbers ∙ sent_views event (closed_by_drain ∷ []) links number

some_machine : (test : Bool) (a b : Machine) → only_if test a ≡ Some b → b ≡ a
some_machine true a b e = let same : a ≡ b = cc in sym same
some_machine false a b e = absurd (let nothing : ⊥ = cc in nothing)

pub drains : OrderlyIsKept → (sees : Seen → Type 0) (before after : Traffic) (closed : ℕ) → ((m : Machine) → IsUnderway before m → Leads (follow_drain (begun m) closed) after) → Makes sees before sees after event.Drain (note.Drain closed) []
drains kept sees before after closed goes below seen t is =
    let led = goes t.machine is.underway in
    let same : led.0 ≡ drained (begun t.machine) = some_machine (closed == length t.machine.pool.idle) (drained (begun t.machine)) led.0 led.1.0 in
    let server : led.0.server ≡ t.machine.server = ap (λ m. m.server) same in
    let alike : views led.0.links ≡ views t.machine.links = ap (λ m. views m.links) same ∙ closed_alike (t.machine.event + 1) t.machine.links t.machine.pool.idle in
    let follows : follow t.setting t.machine event.Drain (note.Drain closed) [] ≡ Some (led.0, []) = rw led.1.0 refl in
    made_alone kept sees before after below event.Drain (note.Drain closed) seen t led.0 is (one_alone seen t event.Drain (note.Drain closed) led.0 is.coupled follows refl refl refl refl server alike) refl led.1.1
