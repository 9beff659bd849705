-- A connection that a request has is no other's: it is not idle, and no other client has it.
use Rattle.std.proofs.Common.{◌≡◌, refl, sym, ap, subst, ◌∙◌, Bool, true, false, ℕ, ◌&&◌, length, List, [], ◌∷◌, Option, Some, None, ◌⊎◌, inl, inr, if◌then◌else◌}
use Rattle.std.specs.Prelude.{◌==◌, is_some, not}
use Rattle.std.specs.List.{list_all, last_or}
use Rattle.std.specs.Option.{option_map_or}
use Rattle.std.proofs.lemmas.Bool.{and_parts, or_cases, or_left}
use Rattle.svc_values.specs.declared.frame.Up.{Up}
use Rattle.svc_values.specs.declared.frame.Up.TheVariants as up
use Rattle.svc_values.specs.meaning.Same.{same_bool}
use Rattle.pool_core.specs.declared.answers.Take.TheVariants as take
use Rattle.pool_core.specs.meaning.Slots.{Slots, is_among, has_to_wait, drains, lends, take_answer}
use Rattle.client_model.specs.declared.input.Wants.{Wants}
use Rattle.client_model.specs.declared.input.Wants.TheVariants as wants
use Rattle.client_model.specs.meaning.Talk.{wants_in}
use Rattle.client_model.specs.meaning.Terms.{Terms, Talk, Phase, Idle, Unbegun, Queued, Seeking, Greeting, Asked, Running, Replaying}
use Rattle.world_model.specs.meaning.Clients.{Doing, Client, client_at}
use Rattle.world_model.specs.meaning.Frames.{Owner, Sent}
use Rattle.world_model.specs.records.Hold.{is_end, is_idle, holds_connection, is_awaited, waits_on, is_held}
use Rattle.invariant_laws.specs.Invariant.{Invariant}
use Rattle.world_model.specs.meaning.Links.{Link, link_at}
use Rattle.world_model.specs.Parts.{is_answered, is_out}
use Rattle.world_model.specs.Sames.{is_of, owned_by}
use Rattle.world_model.specs.Traced.{Traced, Course, course_now}
use Rattle.shown_laws.proofs.events.CourseNow.{course_holds}
use Rattle.shown_laws.proofs.events.Lookups.{eq_from, eq_to}

-- what was sent last on it is answered, and is the request's
pub record IsWaiting (t : Traced) (client : ℕ) (own : Client) (doing : Doing) (number : ℕ) : Type 0 where
  pub link : Link
  pub there : link_at t.machine.links number ≡ Some link
  pub sent : Sent
  pub last : last_or None link.sent ≡ Some sent
  pub answered : is_answered sent.frame ≡ true
  pub mine : owned_by (record { client = client; place = length own.past }) sent ≡ true

module _ (t : Traced) (inv : Invariant t) where
  pub is_waiting : (client : ℕ) (own : Client) (doing : Doing) (number : ℕ) → client_at t.machine.clients client ≡ Some own → own.now ≡ Some doing → doing.connection ≡ Some number → IsWaiting t client own doing number
  is_waiting client own doing number here now has = by (link_at t.machine.links number) refl waits
    where
      course : Course
      course = course_now t.setting client (length own.past) doing

      waits : option_map_or (waits_on (course_now t.setting client (length own.past) doing)) (link_at t.machine.links number) false ≡ true
      waits =
          let held : is_held t (course_now t.setting client (length own.past) doing) ≡ true = course_holds (is_held t) t client own doing inv.orderly.hold.held here now in
          subst (λ (c : Option ℕ). option_map_or (λ k. option_map_or (waits_on (course_now t.setting client (length own.past) doing)) (link_at t.machine.links k) false) c true ≡ true) has
          (and_parts (same_bool (is_some doing.connection) (holds_connection doing.talk.phase)) (option_map_or (λ k. option_map_or (waits_on (course_now t.setting client (length own.past) doing)) (link_at t.machine.links k) false) doing.connection true) held).1

      on_last : (link : Link) → link_at t.machine.links number ≡ Some link → (found : Option Sent) → last_or None link.sent ≡ found
          → option_map_or (λ sent. is_answered sent.frame && (owned_by (record { client = client; place = length own.past }) sent && is_awaited doing.talk.phase sent)) found false ≡ true → IsWaiting t client own doing number
      on_last link there None last is = absurd (let none : ⊥ = cc in none)
      on_last link there (Some sent) last is =
          let one = and_parts (is_answered sent.frame) (owned_by (record { client = client; place = length own.past }) sent && is_awaited doing.talk.phase sent) is in
          record { link = link; there = there; sent = sent; last = last; answered = one.0; mine = (and_parts (owned_by (record { client = client; place = length own.past }) sent) (is_awaited doing.talk.phase sent) one.1).0 }

      by : (found : Option Link) → link_at t.machine.links number ≡ found → option_map_or (waits_on (course_now t.setting client (length own.past) doing)) found false ≡ true → IsWaiting t client own doing number
      by None there is = absurd (let none : ⊥ = cc in none)
      by (Some link) there is =
          on_last link there (last_or None link.sent) refl
          (and_parts (is_out link) (option_map_or (λ sent. is_answered sent.frame && (owned_by (record { client = client; place = length own.past }) sent && is_awaited doing.talk.phase sent)) (last_or None link.sent) false) is).1

  -- IDLE ------------------------------------------------------------------------------------------

  among_holds : (test : ℕ → Bool) (number : ℕ) (numbers : List ℕ) → list_all test numbers ≡ true → is_among number numbers ≡ true → test number ≡ true
  among_holds test number [] all among = absurd (let none : ⊥ = cc in none)
  among_holds test number (one ∷ numbers) all among =
      let parts = and_parts (test one) (list_all test numbers) all in
      by parts.0 (or_cases (one == number) (is_among number numbers) among) (among_holds test number numbers parts.1)
    where
      by : test one ≡ true → ((one == number) ≡ true) ⊎ (is_among number numbers ≡ true) → (is_among number numbers ≡ true → test number ≡ true) → test number ≡ true
      by here (inl same) rest = subst (λ (k : ℕ). test k ≡ true) (eq_from one number same) here
      by here (inr there) rest = rest there

  not_both : (frame : Up) → is_answered frame ≡ true → is_end frame ≡ true → ⊥
  not_both up.Connect one other = let none : ⊥ = cc in none
  not_both (up.Begin settings) one other = let none : ⊥ = cc in none
  not_both (up.Call replay kept call) one other = let none : ⊥ = cc in none
  not_both (up.Outcome x) one other = let none : ⊥ = cc in none
  not_both up.End one other = let none : ⊥ = cc in none
  not_both up.Close one other = let none : ⊥ = cc in none

  -- one that a request has is not idle
  pub is_busy : (client : ℕ) (own : Client) (doing : Doing) (number : ℕ) → client_at t.machine.clients client ≡ Some own → own.now ≡ Some doing → doing.connection ≡ Some number → is_among number t.machine.pool.idle ≡ false
  is_busy client own doing number here now has = by (is_among number t.machine.pool.idle) refl
    where
      it : IsWaiting t client own doing number
      it = is_waiting client own doing number here now has

      never : is_among number t.machine.pool.idle ≡ true → ⊥
      never among =
          let test = among_holds (λ k. option_map_or is_idle (link_at t.machine.links k) false && not (drains t.machine.pool k)) number t.machine.pool.idle inv.orderly.hold.idle among in
          let idle : is_idle it.link ≡ true = subst (λ (l : Option Link). option_map_or is_idle l false ≡ true) it.there (and_parts (option_map_or is_idle (link_at t.machine.links number) false) (not (drains t.machine.pool number)) test).0 in
          let one = and_parts it.link.is_open _ idle in
          let two = and_parts (is_some it.link.held) _ one.1 in
          let three = and_parts _ (option_map_or (λ sent. is_end sent.frame) (last_or None it.link.sent) false) two.1 in
          not_both it.sent.frame it.answered (subst (λ (s : Option Sent). option_map_or (λ sent. is_end sent.frame) s false ≡ true) it.last three.1)

      by : (test : Bool) → is_among number t.machine.pool.idle ≡ test → test ≡ false
      by true is = absurd (never is)
      by false is = refl

  -- ALONE -----------------------------------------------------------------------------------------

  same_client : (found : Option Owner) (a b : Owner) → is_of a found ≡ true → is_of b found ≡ true → a.client ≡ b.client
  same_client None a b one other = absurd (let none : ⊥ = cc in none)
  same_client (Some owner) a b one other =
      eq_from a.client owner.client (and_parts (a.client == owner.client) (a.place == owner.place) one).0 ∙ sym (eq_from b.client owner.client (and_parts (b.client == owner.client) (b.place == owner.place) other).0)

  -- no two clients have one connection
  pub is_alone : (client other : ℕ) (own its : Client) (doing done : Doing) (number : ℕ) → client_at t.machine.clients client ≡ Some own → own.now ≡ Some doing → doing.connection ≡ Some number
      → client_at t.machine.clients other ≡ Some its → its.now ≡ Some done → done.connection ≡ Some number → client ≡ other
  is_alone client other own its doing done number here now has there at had =
      let a : IsWaiting t client own doing number = is_waiting client own doing number here now has in
      let b : IsWaiting t other its done number = is_waiting other its done number there at had in
      let links : Some a.link ≡ Some b.link = sym a.there ∙ b.there in
      let link : a.link ≡ b.link = cc in
      let sents : Some a.sent ≡ Some b.sent = sym a.last ∙ (ap (λ (l : Link). last_or None l.sent) link ∙ b.last) in
      let sent : a.sent ≡ b.sent = cc in
      same_client b.sent.owner (record { client = client; place = length own.past }) (record { client = other; place = length its.past })
      (subst (λ (s : Sent). owned_by (record { client = client; place = length own.past }) s ≡ true) sent a.mine) b.mine

-- THE POOL ----------------------------------------------------------------------------------------

-- one that the pool lends is idle
pub lent_idle : (pool : Slots) (client connection : ℕ) → take_answer pool client ≡ take.Lent connection → is_among connection pool.idle ≡ true
lent_idle pool client connection answer = by (has_to_wait pool client) answer
  where
    first : (idle : List ℕ) → lends idle ≡ take.Lent connection → is_among connection idle ≡ true
    first [] is = absurd (let none : ⊥ = cc in none)
    first (one ∷ idle) is =
        let same : one ≡ connection = cc in
        or_left (one == connection) (is_among connection idle) (eq_to one connection same)

    by : (waits : Bool) → (if waits then take.Waiting else lends pool.idle) ≡ take.Lent connection → is_among connection pool.idle ≡ true
    by true is = absurd (let none : ⊥ = cc in none)
    by false is = first pool.idle is

-- PHASES ------------------------------------------------------------------------------------------

-- a request that waits for no frame has no connection
pub holds_none : (terms : Terms) (talk : Talk) (phase : Phase) (now : ℕ) (wanted : Wants) → wants_in terms talk phase now ≡ wanted → (wants.Frame ≡ wanted → ⊥) → holds_connection phase ≡ false
holds_none terms talk Idle now wanted is other = refl
holds_none terms talk Unbegun now wanted is other = refl
holds_none terms talk (Queued from) now wanted is other = refl
holds_none terms talk (Seeking lost) now wanted is other = refl
holds_none terms talk (Greeting lost) now wanted is other = absurd (other is)
holds_none terms talk (Asked asking) now wanted is other = absurd (other is)
holds_none terms talk (Running state) now wanted is other = absurd (other is)
holds_none terms talk (Replaying state) now wanted is other = absurd (other is)
