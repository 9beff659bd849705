-- What a step of a client makes of the clients: its request goes on, or it is over, with what it
-- did behind its steps.
use Rattle.std.proofs.Common.{◌≡◌, ◌≢◌, refl, sym, ap, subst, ◌∙◌, Bool, true, false, ℕ, zero, suc, List, [], ◌∷◌, ◌++◌, Option, Some, None, option_and_then, if◌then◌else◌}
use Rattle.std.specs.Prelude.{slice_set, unwrap_or}
use Rattle.std.specs.Option.{option_map_or}
use Rattle.client_model.specs.declared.act.Hold.{Hold}
use Rattle.client_model.specs.declared.act.Hold.TheVariants as hold
use Rattle.client_model.specs.declared.input.Input.{Input}
use Rattle.client_model.specs.declared.input.Input.TheVariants.{Gone}
use Rattle.world_model.specs.meaning.Acting.{steps, loses}
use Rattle.world_model.specs.meaning.Clients.{Doing, Client, resting, client_at, with_client, script_at, step_at, heard, doing_at, past_of, after_hold, after_step}
use Rattle.world_model.specs.meaning.Going.{lost_at_once, unless_open}
use Rattle.world_model.specs.meaning.Links.{Link}
use Rattle.world_model.specs.meaning.Machines.{Machine}
use Rattle.world_model.specs.meaning.Settings.{Setting}
use Rattle.shown_laws.proofs.events.Places.{set_own, set_other}

-- BY NUMBER ---------------------------------------------------------------------------------------

pub client_own : (clients : List Client) (number : ℕ) (old new : Client) → client_at clients number ≡ Some old → client_at (with_client clients number new) number ≡ Some new
client_own clients zero old new is = absurd (let none : ⊥ = cc in none)
client_own clients (suc index) old new is = set_own clients index old new is

pub client_other : (clients : List Client) (number other : ℕ) (new : Client) → other ≢ number → client_at (with_client clients number new) other ≡ client_at clients other
client_other clients zero other new differ = refl
client_other clients (suc index) zero new differ = refl
client_other clients (suc index) (suc other) new differ = set_other clients index other new (λ same. differ (ap suc same))

set_twice : (clients : List Client) (index : ℕ) (one other : Client) → slice_set (slice_set clients index one) index other ≡ slice_set clients index other
set_twice [] index one other = refl
set_twice (first ∷ clients) zero one other = refl
set_twice (first ∷ clients) (suc index) one other = ap (λ (rest : List Client). first ∷ rest) (set_twice clients index one other)

client_twice : (clients : List Client) (number : ℕ) (one other : Client) → with_client (with_client clients number one) number other ≡ with_client clients number other
client_twice clients zero one other = refl
client_twice clients (suc index) one other = set_twice clients index one other

-- WHERE IT LEADS ----------------------------------------------------------------------------------

-- The request goes on so, or it is over so.
pub data Leads (setting : Setting) (number : ℕ) (client : Client) (after : Doing) : Client → Type 0 where
  GoesOn : Leads setting number client after (record client { now = Some after })
  IsOver : Leads setting number client after (resting (script_at setting number) (client.past ++ past_of setting.terms after ∷ []))

-- The client of this number becomes another, by its request that stands so then, and no other
-- client changes.
pub record Moves (setting : Setting) (m n : Machine) (number : ℕ) (client : Client) (after : Doing) : Type 0 where
  pub next : Client
  pub leads : Leads setting number client after next
  pub clients : n.clients ≡ with_client m.clients number next

held_leads : (setting : Setting) (number : ℕ) (client : Client) (after : Doing) (held : Hold) → Leads setting number client after (after_hold setting number client after held)
held_leads setting number client after hold.Keep = GoesOn
held_leads setting number client after hold.GiveBack = IsOver
held_leads setting number client after hold.Drop = IsOver

pub stepped : (setting : Setting) (clients : List Client) (number : ℕ) (client : Client) (after : Doing) (held : Hold) → client_at clients number ≡ Some client
    → after_step setting clients number after held ≡ with_client clients number (after_hold setting number client after held)
stepped setting clients number client after held here = ap (λ (found : Option Client). option_map_or (λ one. with_client clients number (after_hold setting number one after held)) found clients) here

module _ (setting : Setting) (m : Machine) (number : ℕ) (client : Client) (here : client_at m.clients number ≡ Some client) where
  -- at one input
  pub steps_move : (a : Machine) (doing : Doing) (slot : Bool) (input : Input) → a.clients ≡ m.clients → Moves setting m (steps setting a number doing slot input) number client (heard setting.terms a.event a.tick doing input)
  steps_move a doing slot input same =
      let held : Hold = (step_at setting.terms a.event a.tick doing input).done.act.hold in
      record {
        next = after_hold setting number client (heard setting.terms a.event a.tick doing input) (step_at setting.terms a.event a.tick doing input).done.act.hold;
        leads = held_leads setting number client (heard setting.terms a.event a.tick doing input) (step_at setting.terms a.event a.tick doing input).done.act.hold;
        clients =
            ap (λ (clients : List Client). after_step setting clients number (heard setting.terms a.event a.tick doing input) (step_at setting.terms a.event a.tick doing input).done.act.hold) same
            ∙ stepped setting m.clients number client (heard setting.terms a.event a.tick doing input) (step_at setting.terms a.event a.tick doing input).done.act.hold here;
      }

  -- where the connection of a request that goes on is gone at once
  pub gone_moves : (a : Machine) (first : Doing) (ended : Option ℕ) → a.clients ≡ with_client m.clients number (record client { now = Some first })
      → Moves setting m (loses setting a number first ended) number client (heard setting.terms a.event a.tick (record first { connection = None }) (Gone (unwrap_or ended 0)))
  gone_moves a first ended now =
      let gone : Doing = heard setting.terms a.event a.tick (record first { connection = None }) (Gone (unwrap_or ended 0)) in
      let one : Client = record client { now = Some first } in
      record {
        next = record client { now = Some (heard setting.terms a.event a.tick (record first { connection = None }) (Gone (unwrap_or ended 0))) };
        leads = GoesOn;
        clients =
            stepped setting a.clients number (record client { now = Some first }) (heard setting.terms a.event a.tick (record first { connection = None }) (Gone (unwrap_or ended 0))) hold.Keep
            (ap (λ (clients : List Client). client_at clients number) now ∙ client_own m.clients number client (record client { now = Some first }) here)
            ∙ (ap (λ (clients : List Client). with_client clients number (record client { now = Some (heard setting.terms a.event a.tick (record first { connection = None }) (Gone (unwrap_or ended 0))) })) now
            ∙ client_twice m.clients number (record client { now = Some first }) (record client { now = Some (heard setting.terms a.event a.tick (record first { connection = None }) (Gone (unwrap_or ended 0))) }));
      }

  -- what comes of a reply that is taken: it may be over, go on, or lose its connection at once
  pub data TakenSo (a n : Machine) (first : Doing) (link : Link) (held : Hold) : Type 0 where
    Alive : link.is_open ≡ true → n.clients ≡ with_client m.clients number (after_hold setting number client first held) → Moves setting m n number client first → TakenSo a n first link held
    Ended : link.is_open ≡ false → (held ≡ hold.Keep → ⊥) → Moves setting m n number client first → TakenSo a n first link held
    Lost : link.is_open ≡ false → held ≡ hold.Keep → Moves setting m n number client (heard setting.terms a.event a.tick (record first { connection = None }) (Gone (unwrap_or link.ended 0))) → TakenSo a n first link held

  pub unless_moves : (a : Machine) (first : Doing) (link : Link) (held : Hold) → a.clients ≡ with_client m.clients number (after_hold setting number client first held) → TakenSo a (unless_open setting a number link) first link held
  unless_moves a first link held now = by link.is_open refl held now
    where
      found : (one : Client) → a.clients ≡ with_client m.clients number one → doing_at a.clients number ≡ one.now
      found one now = ap (λ (clients : List Client). doing_at clients number) now ∙ ap (option_and_then (λ (c : Client). c.now)) (client_own m.clients number client one here)

      by : (opens : Bool) → link.is_open ≡ opens → (held : Hold) → a.clients ≡ with_client m.clients number (after_hold setting number client first held)
          → TakenSo a (if opens then a else lost_at_once setting a number link.ended (doing_at a.clients number)) first link held
      by true is held now = Alive is now (record { next = after_hold setting number client first held; leads = held_leads setting number client first held; clients = now })
      by false is hold.Keep now =
          Lost is refl
          (subst (λ (doing : Option Doing). Moves setting m (lost_at_once setting a number link.ended doing) number client (heard setting.terms a.event a.tick (record first { connection = None }) (Gone (unwrap_or link.ended 0))))
          (sym (found (record client { now = Some first }) now)) (gone_moves a first link.ended now))
      by false is hold.GiveBack now =
          Ended is (λ never. let none : ⊥ = cc in none)
          (subst (λ (doing : Option Doing). Moves setting m (lost_at_once setting a number link.ended doing) number client first)
          (sym (found (resting (script_at setting number) (client.past ++ past_of setting.terms first ∷ [])) now)) (record { next = resting (script_at setting number) (client.past ++ past_of setting.terms first ∷ []); leads = IsOver; clients = now }))
      by false is hold.Drop now =
          Ended is (λ never. let none : ⊥ = cc in none)
          (subst (λ (doing : Option Doing). Moves setting m (lost_at_once setting a number link.ended doing) number client first)
          (sym (found (resting (script_at setting number) (client.past ++ past_of setting.terms first ∷ [])) now)) (record { next = resting (script_at setting number) (client.past ++ past_of setting.terms first ∷ []); leads = IsOver; clients = now }))
