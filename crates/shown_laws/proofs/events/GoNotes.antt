-- What a step of a client is, by its note.
use Rattle.std.proofs.Common.{◌≡◌, refl, sym, ap, subst, ◌∙◌, Bool, true, false, ℕ, ◌+◌, length, List, [], ◌∷◌, ◌++◌, Option, Some, None, option_and_then, if◌then◌else◌}
use Rattle.std.specs.Prelude.{◌==◌}
use Rattle.std.proofs.lemmas.Bool.{and_parts}
use Rattle.svc_values.specs.declared.entry.Ltxid.{Ltxid}
use Rattle.pool_core.specs.declared.answers.Take.{Take}
use Rattle.pool_core.specs.declared.answers.Take.TheVariants as take
use Rattle.pool_core.specs.meaning.Slots.{Slots, take_answer, after_take, after_opened}
use Rattle.client_model.specs.declared.input.Input.TheVariants.{Waiting, Lent, Opened, TryFailed, Took}
use Rattle.client_model.specs.declared.input.Wants.{Wants}
use Rattle.client_model.specs.declared.input.Wants.TheVariants as wants
use Rattle.client_model.specs.meaning.Talk.{wants_of}
use Rattle.outage_schedule.specs.declared.note.GoNote.{GoNote}
use Rattle.outage_schedule.specs.declared.note.GoNote.TheVariants as go
use Rattle.world_model.specs.meaning.Acting.{frames_of, act_at, steps, loses}
use Rattle.world_model.specs.meaning.Clients.{Client, Doing, client_at, doing_of}
use Rattle.world_model.specs.meaning.Frames.{Reply}
use Rattle.world_model.specs.meaning.Going.{noted, tries_while, lends, takes_slot, unless_open, looks, looks_at, goes_by, goes, follow_go}
use Rattle.world_model.specs.meaning.Links.{Link, new_link, link_at, with_link, takes}
use Rattle.world_model.specs.meaning.Machines.{Machine}
use Rattle.world_model.specs.meaning.Noting.{same_did}
use Rattle.world_model.specs.meaning.Settings.{Setting}
use Rattle.shown_laws.proofs.events.Following.{only_met, only_is}
use Rattle.shown_laws.proofs.events.Lookups.{eq_from}

-- the client of this number is at this request, new or old, and this is what it wants
pub record IsDoing (setting : Setting) (m : Machine) (number : ℕ) (doing : Doing) (wanted : Wants) : Type 0 where
  pub client : Client
  pub here : client_at m.clients number ≡ Some client
  pub does : doing_of setting.terms m.event m.tick client ≡ Some doing
  pub wants : wants_of setting.terms doing.talk m.tick ≡ wanted

abbrev pub with_pool : Machine → Slots → Machine
with_pool m pool = record m { pool = pool }

-- the pool from which a try is made
pub data Tries (m : Machine) (number : ℕ) : Wants → Slots → Type 0 where
  FromQueue : take_answer m.pool number ≡ take.Open → Tries m number wants.Slot (after_take m.pool number)
  Again : Tries m number wants.Try m.pool

abbrev pub next_number : Machine → ℕ
next_number m = length m.links + 1

abbrev pub with_new : Machine → Slots → Machine
with_new m pool = record m { links = m.links ++ new_link ∷ []; pool = after_opened pool (next_number m) }

abbrev pub taking : Machine → ℕ → Link → Reply → List Reply → Machine
taking m connection link reply left = record m { links = with_link m.links connection (takes (Took reply.frame link.is_open) reply left link) }

-- nothing is done where a request may not try yet, or finds no frame
pub data IsRest : Wants → GoNote → Type 0 where
  TooEarly : IsRest wants.Early go.Early
  NoneFound : IsRest wants.Frame go.NoFrame

pub data GoesAs (setting : Setting) (m : Machine) (client : ℕ) : GoNote → Machine → Type 0 where
  Idles : GoesAs setting m client go.Idle m
  Rests : (doing : Doing) (wanted : Wants) (did : GoNote) → IsDoing setting m client doing wanted → IsRest wanted did → GoesAs setting m client did m
  Waits : (doing : Doing) → IsDoing setting m client doing wants.Slot → take_answer m.pool client ≡ take.Waiting
      → GoesAs setting m client go.Wait (steps setting (with_pool m (after_take m.pool client)) client doing false Waiting)
  Lends : (doing : Doing) (connection : ℕ) (link : Link) (ltxid : Ltxid) → IsDoing setting m client doing wants.Slot → take_answer m.pool client ≡ take.Lent connection
      → link_at m.links connection ≡ Some link → link.held ≡ Some ltxid
      → GoesAs setting m client (go.Lent connection) (steps setting (with_pool m (after_take m.pool client)) client (record doing { connection = Some connection }) true (Lent connection ltxid))
  Opens : (doing : Doing) (wanted : Wants) (pool : Slots) → IsDoing setting m client doing wanted → Tries m client wanted pool
      → GoesAs setting m client (go.Open (next_number m)) (steps setting (with_new m pool) client (record doing { connection = Some (next_number m) }) true (Opened (next_number m)))
  Fails : (doing : Doing) (wanted : Wants) (pool : Slots) → IsDoing setting m client doing wanted → Tries m client wanted pool
      → GoesAs setting m client go.Down (steps setting (with_pool m pool) client doing true TryFailed)
  Takes : (doing : Doing) (connection sent : ℕ) (link : Link) (reply : Reply) (left : List Reply) → IsDoing setting m client doing wants.Frame → doing.connection ≡ Some connection → link_at m.links connection ≡ Some link
      → link.down ≡ reply ∷ left → sent ≡ length (frames_of m.pool connection (act_at setting m doing (Took reply.frame link.is_open)))
      → GoesAs setting m client (go.Took connection sent) (unless_open setting (steps setting (taking m connection link reply left) client doing true (Took reply.frame link.is_open)) client link)
  Loses : (doing : Doing) (connection : ℕ) (link : Link) → IsDoing setting m client doing wants.Frame → doing.connection ≡ Some connection → link_at m.links connection ≡ Some link
      → link.down ≡ [] → link.is_open ≡ false → GoesAs setting m client (go.Lost connection) (loses setting m client doing link.ended)

-- NOTES -------------------------------------------------------------------------------------------

same_did_is : (a b : GoNote) → same_did a b ≡ true → a ≡ b
same_did_is go.Idle go.Idle same = refl
same_did_is go.Wait go.Wait same = refl
same_did_is go.NoFrame go.NoFrame same = refl
same_did_is go.Early go.Early same = refl
same_did_is go.Down go.Down same = refl
same_did_is (go.Open a) (go.Open b) same = ap go.Open (eq_from a b same)
same_did_is (go.Lent a) (go.Lent b) same = ap go.Lent (eq_from a b same)
same_did_is (go.Lost a) (go.Lost b) same = ap go.Lost (eq_from a b same)
same_did_is (go.Took a m) (go.Took b n) same =
    let parts = and_parts (a == b) (m == n) same in
    ap (λ (k : ℕ). go.Took k m) (eq_from a b parts.0) ∙ ap (λ (k : ℕ). go.Took b k) (eq_from m n parts.1)
same_did_is a b same = absurd (let none : ⊥ = cc in none)

module _ (setting : Setting) (m : Machine) (number : ℕ) (did : GoNote) where
  noted_goes : (expected : GoNote) (a n : Machine) → GoesAs setting m number expected a → noted did expected a ≡ Some n → GoesAs setting m number did n
  noted_goes expected a n goes is =
      subst (λ (one : GoNote). GoesAs setting m number one n) (sym (same_did_is did expected (only_met (same_did did expected) a n is)))
      (subst (GoesAs setting m number expected) (only_is (same_did did expected) a n is) goes)

  tries_goes : (doing : Doing) (wanted : Wants) (pool : Slots) → IsDoing setting m number doing wanted → Tries m number wanted pool → (is_up : Bool) (n : Machine)
      → tries_while setting (with_pool m pool) number did doing is_up ≡ Some n → GoesAs setting m number did n
  tries_goes doing wanted pool is tries true n e = noted_goes _ _ n (Opens doing wanted pool is tries) e
  tries_goes doing wanted pool is tries false n e = noted_goes _ _ n (Fails doing wanted pool is tries) e

  lends_goes : (doing : Doing) → IsDoing setting m number doing wants.Slot → (connection : ℕ) → take_answer m.pool number ≡ take.Lent connection → (found : Option Link) → link_at m.links connection ≡ found → (n : Machine)
      → lends setting (with_pool m (after_take m.pool number)) number did doing connection (option_and_then (λ (link : Link). link.held) found) ≡ Some n → GoesAs setting m number did n
  lends_goes doing is connection answer None there n e = absurd (let none : ⊥ = cc in none)
  lends_goes doing is connection answer (Some link) there n e = by link.held refl e
    where
      by : (held : Option Ltxid) → link.held ≡ held → lends setting (with_pool m (after_take m.pool number)) number did doing connection held ≡ Some n → GoesAs setting m number did n
      by None has e = absurd (let none : ⊥ = cc in none)
      by (Some ltxid) has e = noted_goes _ _ n (Lends doing connection link ltxid is answer there has) e

  slot_goes : (doing : Doing) → IsDoing setting m number doing wants.Slot → (answer : Take) → take_answer m.pool number ≡ answer → (n : Machine)
      → takes_slot setting (with_pool m (after_take m.pool number)) number did doing answer ≡ Some n → GoesAs setting m number did n
  slot_goes doing is take.Waiting answer n e = noted_goes _ _ n (Waits doing is answer) e
  slot_goes doing is (take.Lent connection) answer n e = lends_goes doing is connection answer (link_at m.links connection) refl n e
  slot_goes doing is take.Open answer n e = tries_goes doing wants.Slot (after_take m.pool number) is (FromQueue answer) m.server.is_up n e

  looks_goes : (doing : Doing) → IsDoing setting m number doing wants.Frame → (connection : ℕ) (link : Link) → doing.connection ≡ Some connection → link_at m.links connection ≡ Some link → (down : List Reply) → link.down ≡ down → (n : Machine)
      → looks setting m number did doing connection link down ≡ Some n → GoesAs setting m number did n
  looks_goes doing is connection link has there (reply ∷ left) same n e = noted_goes _ _ n (Takes doing connection _ link reply left is has there same refl) e
  looks_goes doing is connection link has there [] same n e = by link.is_open refl e
    where
      by : (opens : Bool) → link.is_open ≡ opens → (if opens then noted did go.NoFrame m else noted did (go.Lost connection) (loses setting m number doing link.ended)) ≡ Some n → GoesAs setting m number did n
      by true opens e = noted_goes _ _ n (Rests doing wants.Frame go.NoFrame is NoneFound) e
      by false opens e = noted_goes _ _ n (Loses doing connection link is has there same opens) e

  found_goes : (doing : Doing) → IsDoing setting m number doing wants.Frame → (connection : ℕ) → doing.connection ≡ Some connection → (found : Option Link) → link_at m.links connection ≡ found → (n : Machine)
      → option_and_then (λ (link : Link). looks setting m number did doing connection link link.down) found ≡ Some n → GoesAs setting m number did n
  found_goes doing is connection has None there n e = absurd (let none : ⊥ = cc in none)
  found_goes doing is connection has (Some link) there n e = looks_goes doing is connection link has there link.down refl n e

  frame_goes : (doing : Doing) → IsDoing setting m number doing wants.Frame → (connection : Option ℕ) → doing.connection ≡ connection → (n : Machine) → option_and_then (looks_at setting m number did doing) connection ≡ Some n → GoesAs setting m number did n
  frame_goes doing is None has n e = absurd (let none : ⊥ = cc in none)
  frame_goes doing is (Some connection) has n e = found_goes doing is connection has (link_at m.links connection) refl n e

  wants_goes : (doing : Doing) (wanted : Wants) → IsDoing setting m number doing wanted → (n : Machine) → goes_by setting m number did doing wanted ≡ Some n → GoesAs setting m number did n
  wants_goes doing wants.Idle is n e = absurd (let none : ⊥ = cc in none)
  wants_goes doing wants.Request is n e = absurd (let none : ⊥ = cc in none)
  wants_goes doing wants.Slot is n e = slot_goes doing is (take_answer m.pool number) refl n e
  wants_goes doing wants.Try is n e = tries_goes doing wants.Try m.pool is Again m.server.is_up n e
  wants_goes doing wants.Early is n e = noted_goes _ _ n (Rests doing wants.Early go.Early is TooEarly) e
  wants_goes doing wants.Frame is n e = frame_goes doing is doing.connection refl n e

  doing_goes : (client : Client) → client_at m.clients number ≡ Some client → (doing : Option Doing) → doing_of setting.terms m.event m.tick client ≡ doing → (n : Machine) → goes setting m number did doing ≡ Some n → GoesAs setting m number did n
  doing_goes client here None does n e = noted_goes _ _ n Idles e
  doing_goes client here (Some doing) does n e =
      wants_goes doing (wants_of setting.terms doing.talk m.tick) (record { client = client; here = here; does = does; wants = refl }) n e

  client_goes : (client : Option Client) → client_at m.clients number ≡ client → (n : Machine) → option_and_then (λ (one : Client). goes setting m number did (doing_of setting.terms m.event m.tick one)) client ≡ Some n → GoesAs setting m number did n
  client_goes None here n e = absurd (let none : ⊥ = cc in none)
  client_goes (Some client) here n e = doing_goes client here (doing_of setting.terms m.event m.tick client) refl n e

  -- Each step that the machine follows is of one of these kinds, and its note says which.
  pub follow_goes : (n : Machine) → follow_go setting m number did ≡ Some n → GoesAs setting m number did n
  follow_goes n e = client_goes (client_at m.clients number) refl n e
