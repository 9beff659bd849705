-- What a client does at its step, with the cause where it does nothing.
use Rattle.std.proofs.Common.{◌≡◌, refl, subst, Bool, true, false, ℕ, List, [], ◌∷◌, Option, Some, None, if◌then◌else◌}
use Rattle.std.specs.Prelude.{option_and_then}
use Rattle.svc_values.specs.declared.entry.Ltxid.{Ltxid}
use Rattle.pool_core.specs.declared.answers.Take.{Take}
use Rattle.pool_core.specs.declared.answers.Take.TheVariants as take
use Rattle.pool_core.specs.meaning.Slots.{Slots, take_answer, after_take}
use Rattle.client_model.specs.declared.input.Wants.{Wants}
use Rattle.client_model.specs.declared.input.Wants.TheVariants as wants
use Rattle.client_model.specs.meaning.Talk.{wants_of}
use Rattle.outage_schedule.specs.declared.note.GoNote.{GoNote}
use Rattle.outage_schedule.specs.declared.note.GoNote.TheVariants as go
use Rattle.world_model.specs.meaning.Settings.{Setting}
use Rattle.world_model.specs.meaning.Frames.{Reply}
use Rattle.world_model.specs.meaning.Links.{Link, link_at}
use Rattle.world_model.specs.meaning.Clients.{Client, Doing, client_at, doing_of}
use Rattle.world_model.specs.meaning.Machines.{Machine}
use Rattle.world_model.specs.meaning.Going.{noted, tries_while, lends, takes_slot, looks, looks_at, goes_by, goes, follow_go}
use Rattle.world_model.proofs.events.Kept.{only_is}
use Rattle.world_model.specs.meaning.Acting.{steps, loses}
use Rattle.world_model.specs.meaning.Noting.{same_did}
use Rattle.client_model.specs.declared.input.Input.TheVariants.{Waiting, Lent, TryFailed}
use Rattle.world_model.specs.meaning.Going.{unless_open}
use Rattle.world_model.proofs.events.Moves as moves
use Rattle.world_model.proofs.events.Moves.{IsDoing, with_pool, Tries, FromQueue, Again, Goes, IsOn, opens_one, takes_one}

pub data Going (setting : Setting) (m : Machine) (number : ℕ) : Machine → Type 0 where
  -- no request is left
  IsFinished : (client : Client) → client_at m.clients number ≡ Some client → doing_of setting.terms m.event m.tick client ≡ None → Going setting m number m
  -- it may not try again yet
  IsEarly : (doing : Doing) → IsDoing setting m number doing wants.Early → Going setting m number m
  -- no frame is there, and its connection is open
  NoneCame : (doing : Doing) (connection : ℕ) (link : Link) → IsDoing setting m number doing wants.Frame → IsOn m doing connection link → link.down ≡ [] → link.is_open ≡ true → Going setting m number m
  Waits : (doing : Doing) → IsDoing setting m number doing wants.Slot → take_answer m.pool number ≡ take.Waiting
      → Going setting m number (steps setting (with_pool m (after_take m.pool number)) number doing false Waiting)
  Lends : (doing : Doing) (connection : ℕ) (link : Link) (ltxid : Ltxid) → IsDoing setting m number doing wants.Slot → take_answer m.pool number ≡ take.Lent connection
      → link_at m.links connection ≡ Some link → link.held ≡ Some ltxid
      → Going setting m number (steps setting (with_pool m (after_take m.pool number)) number (record doing { connection = Some connection }) true (Lent connection ltxid))
  Opens : (doing : Doing) (wanted : Wants) (pool : Slots) → IsDoing setting m number doing wanted → Tries m number wanted pool → m.server.is_up ≡ true
      → Going setting m number (opens_one setting m number doing pool)
  Fails : (doing : Doing) (wanted : Wants) (pool : Slots) → IsDoing setting m number doing wanted → Tries m number wanted pool → m.server.is_up ≡ false
      → Going setting m number (steps setting (with_pool m pool) number doing true TryFailed)
  Takes : (doing : Doing) (connection : ℕ) (link : Link) (reply : Reply) (left : List Reply) → IsDoing setting m number doing wants.Frame → IsOn m doing connection link
      → link.down ≡ reply ∷ left → Going setting m number (unless_open setting (takes_one setting m number doing connection link reply left) number link)
  Loses : (doing : Doing) (connection : ℕ) (link : Link) → IsDoing setting m number doing wants.Frame → IsOn m doing connection link
      → link.down ≡ [] → link.is_open ≡ false → Going setting m number (loses setting m number doing link.ended)

-- A STEP OF A CLIENT ------------------------------------------------------------------------------

noted_goes : (setting : Setting) (m : Machine) (number : ℕ) (did expected : GoNote) (a n : Machine) → Going setting m number a → noted did expected a ≡ Some n → Going setting m number n
noted_goes setting m number did expected a n moves e = subst (Going setting m number) (only_is (same_did did expected) a n e) moves

tries_goes : (setting : Setting) (m : Machine) (number : ℕ) (did : GoNote) (doing : Doing) (wanted : Wants) (pool : Slots) → IsDoing setting m number doing wanted → Tries m number wanted pool
    → (is_up : Bool) → m.server.is_up ≡ is_up → (n : Machine) → tries_while setting (with_pool m pool) number did doing is_up ≡ Some n → Going setting m number n
tries_goes setting m number did doing wanted pool is_doing tries true is n e = noted_goes setting m number did _ _ n (Opens doing wanted pool is_doing tries is) e
tries_goes setting m number did doing wanted pool is_doing tries false is n e = noted_goes setting m number did _ _ n (Fails doing wanted pool is_doing tries is) e

lends_held : (setting : Setting) (m : Machine) (number : ℕ) (did : GoNote) (doing : Doing) → IsDoing setting m number doing wants.Slot → (connection : ℕ) → take_answer m.pool number ≡ take.Lent connection
    → (link : Link) → link_at m.links connection ≡ Some link → (held : Option Ltxid) → link.held ≡ held → (n : Machine)
    → lends setting (with_pool m (after_take m.pool number)) number did doing connection held ≡ Some n → Going setting m number n
lends_held setting m number did doing is_doing connection answer link there None is n e = absurd (let none : ⊥ = cc in none)
lends_held setting m number did doing is_doing connection answer link there (Some ltxid) is n e = noted_goes setting m number did _ _ n (Lends doing connection link ltxid is_doing answer there is) e

lends_goes : (setting : Setting) (m : Machine) (number : ℕ) (did : GoNote) (doing : Doing) → IsDoing setting m number doing wants.Slot → (connection : ℕ) → take_answer m.pool number ≡ take.Lent connection
    → (found : Option Link) → link_at m.links connection ≡ found → (n : Machine)
    → lends setting (with_pool m (after_take m.pool number)) number did doing connection (option_and_then (λ (link : Link). link.held) found) ≡ Some n → Going setting m number n
lends_goes setting m number did doing is_doing connection answer None there n e = absurd (let none : ⊥ = cc in none)
lends_goes setting m number did doing is_doing connection answer (Some link) there n e = lends_held setting m number did doing is_doing connection answer link there link.held refl n e

slot_goes : (setting : Setting) (m : Machine) (number : ℕ) (did : GoNote) (doing : Doing) → IsDoing setting m number doing wants.Slot → (answer : Take) → take_answer m.pool number ≡ answer → (n : Machine)
    → takes_slot setting (with_pool m (after_take m.pool number)) number did doing answer ≡ Some n → Going setting m number n
slot_goes setting m number did doing is_doing take.Waiting answer n e = noted_goes setting m number did _ _ n (Waits doing is_doing answer) e
slot_goes setting m number did doing is_doing (take.Lent connection) answer n e = lends_goes setting m number did doing is_doing connection answer (link_at m.links connection) refl n e
slot_goes setting m number did doing is_doing take.Open answer n e = tries_goes setting m number did doing wants.Slot (after_take m.pool number) is_doing (FromQueue answer) m.server.is_up refl n e

finds_goes : (setting : Setting) (m : Machine) (number : ℕ) (did : GoNote) (doing : Doing) → IsDoing setting m number doing wants.Frame → (connection : ℕ) (link : Link) → IsOn m doing connection link
    → link.down ≡ [] → (is_open : Bool) → link.is_open ≡ is_open → (n : Machine)
    → (if is_open then noted did go.NoFrame m else noted did (go.Lost connection) (loses setting m number doing link.ended)) ≡ Some n → Going setting m number n
finds_goes setting m number did doing is_doing connection link on none true is n e = noted_goes setting m number did _ m n (NoneCame doing connection link is_doing on none is) e
finds_goes setting m number did doing is_doing connection link on none false is n e = noted_goes setting m number did _ _ n (Loses doing connection link is_doing on none is) e

looks_goes : (setting : Setting) (m : Machine) (number : ℕ) (did : GoNote) (doing : Doing) → IsDoing setting m number doing wants.Frame → (connection : ℕ) (link : Link) → IsOn m doing connection link
    → (down : List Reply) → link.down ≡ down → (n : Machine) → looks setting m number did doing connection link down ≡ Some n → Going setting m number n
looks_goes setting m number did doing is_doing connection link on [] is n e = finds_goes setting m number did doing is_doing connection link on is link.is_open refl n e
looks_goes setting m number did doing is_doing connection link on (reply ∷ left) is n e = noted_goes setting m number did _ _ n (Takes doing connection link reply left is_doing on is) e

found_goes : (setting : Setting) (m : Machine) (number : ℕ) (did : GoNote) (doing : Doing) → IsDoing setting m number doing wants.Frame → (connection : ℕ) → doing.connection ≡ Some connection
    → (found : Option Link) → link_at m.links connection ≡ found → (n : Machine)
    → option_and_then (λ (one : Link). looks setting m number did doing connection one one.down) found ≡ Some n → Going setting m number n
found_goes setting m number did doing is_doing connection has None there n e = absurd (let none : ⊥ = cc in none)
found_goes setting m number did doing is_doing connection has (Some link) there n e =
    looks_goes setting m number did doing is_doing connection link (record { has = has; there = there }) link.down refl n e

connected_goes : (setting : Setting) (m : Machine) (number : ℕ) (did : GoNote) (doing : Doing) → IsDoing setting m number doing wants.Frame → (connection : Option ℕ) → doing.connection ≡ connection
    → (n : Machine) → option_and_then (looks_at setting m number did doing) connection ≡ Some n → Going setting m number n
connected_goes setting m number did doing is_doing None has n e = absurd (let none : ⊥ = cc in none)
connected_goes setting m number did doing is_doing (Some connection) has n e = found_goes setting m number did doing is_doing connection has (link_at m.links connection) refl n e

by_wants : (setting : Setting) (m : Machine) (number : ℕ) (did : GoNote) (doing : Doing) (wanted : Wants) → IsDoing setting m number doing wanted → (n : Machine)
    → goes_by setting m number did doing wanted ≡ Some n → Going setting m number n
by_wants setting m number did doing wants.Idle is_doing n e = absurd (let none : ⊥ = cc in none)
by_wants setting m number did doing wants.Request is_doing n e = absurd (let none : ⊥ = cc in none)
by_wants setting m number did doing wants.Slot is_doing n e = slot_goes setting m number did doing is_doing (take_answer m.pool number) refl n e
by_wants setting m number did doing wants.Try is_doing n e = tries_goes setting m number did doing wants.Try m.pool is_doing Again m.server.is_up refl n e
by_wants setting m number did doing wants.Early is_doing n e = noted_goes setting m number did _ m n (IsEarly doing is_doing) e
by_wants setting m number did doing wants.Frame is_doing n e = connected_goes setting m number did doing is_doing doing.connection refl n e

doing_goes : (setting : Setting) (m : Machine) (number : ℕ) (did : GoNote) (client : Client) → client_at m.clients number ≡ Some client
    → (doing : Option Doing) → doing_of setting.terms m.event m.tick client ≡ doing → (n : Machine) → goes setting m number did doing ≡ Some n → Going setting m number n
doing_goes setting m number did client here None does n e = noted_goes setting m number did _ m n (IsFinished client here does) e
doing_goes setting m number did client here (Some doing) does n e =
    by_wants setting m number did doing (wants_of setting.terms doing.talk m.tick) (record { client = client; here = here; does = does; wants = refl }) n e

client_goes : (setting : Setting) (m : Machine) (number : ℕ) (did : GoNote) (client : Option Client) → client_at m.clients number ≡ client → (n : Machine)
    → option_and_then (λ (one : Client). goes setting m number did (doing_of setting.terms m.event m.tick one)) client ≡ Some n → Going setting m number n
client_goes setting m number did None here n e = absurd (let none : ⊥ = cc in none)
client_goes setting m number did (Some client) here n e = doing_goes setting m number did client here (doing_of setting.terms m.event m.tick client) refl n e

pub going_by : (setting : Setting) (m : Machine) (number : ℕ) (did : GoNote) (n : Machine) → follow_go setting m number did ≡ Some n → Going setting m number n
going_by setting m number did n e = client_goes setting m number did (client_at m.clients number) refl n e

-- so it does what is told of its steps
pub goes_of : (setting : Setting) (m : Machine) (number : ℕ) (n : Machine) → Going setting m number n → Goes setting m number n
goes_of setting m number _ (IsFinished client here none) = moves.Rests
goes_of setting m number _ (IsEarly doing is) = moves.Rests
goes_of setting m number _ (NoneCame doing connection link is on none opens) = moves.Rests
goes_of setting m number _ (Waits doing is answer) = moves.Waits doing is answer
goes_of setting m number _ (Lends doing connection link ltxid is answer there held) = moves.Lends doing connection link ltxid is answer there held
goes_of setting m number _ (Opens doing wanted pool is tries up) = moves.Opens doing wanted pool is tries up
goes_of setting m number _ (Fails doing wanted pool is tries down) = moves.Fails doing wanted pool is tries down
goes_of setting m number _ (Takes doing connection link reply left is on down) = moves.Takes doing connection link reply left is on down
goes_of setting m number _ (Loses doing connection link is on none shut) = moves.Loses doing connection link is on none shut
