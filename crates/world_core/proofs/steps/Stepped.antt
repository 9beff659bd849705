-- A step of a client is the machine's.
use Rattle.std.proofs.Common.{◌≡◌, ℕ, Bool, List, [], ◌∷◌, ◌++◌, Option, Some, None, Result, Ok, Err, OnOk, IfOk, length, map, refl, sym, ap, ap₂, subst, ◌∙◌}
use Rattle.std.specs.Prelude.{unwrap_or}
use Rattle.svc_values.specs.declared.frame.Up.{Up}
use Rattle.pool_core.specs.meaning.Slots.{Slots, give_back_answer}
use Rattle.request_bounds.specs.meaning.Rules.{Rules}
use Rattle.client_model.specs.declared.act.Act.{Act}
use Rattle.client_model.specs.declared.act.Hold.{Hold}
use Rattle.client_model.specs.declared.input.Input.{Input}
use Rattle.client_model.specs.Conversation.{is_gone_next}
use Rattle.client_model.specs.meaning.Released.{released}
use Rattle.client_model.specs.meaning.Terms.{Terms, Talk}
use Rattle.world_model.specs.meaning.Acting.{closing, frames_of, act_at, connection_of, call_in, sent_by, owner_at}
use Rattle.world_model.specs.meaning.Clients.{Doing, Client, heard, after_hold}
use Rattle.world_model.specs.meaning.Frames.{Owner, Sent}
use Rattle.world_model.specs.meaning.Links.{changed, sends}
use Rattle.world_model.specs.meaning.Machines.{Machine}
use Rattle.world_model.specs.meaning.Settings.{Setting}
use Rattle.world_core.specs.declared.client.Course.{Course}
use Rattle.world_core.specs.declared.traffic.Traffic.{Traffic}
use Rattle.world_core.specs.Coursing.{Held, IsNow, IsClient, Hears}
use Rattle.world_core.specs.Linked.{up_frames}
use Rattle.world_core.specs.Stepping.{connection_in, Acts}
use Rattle.world_core.specs.Underway.{IsUnderway}

-- two clauses of one call
pub if_ok_with : {A E Q : Type 0} {P S : A → Type 0} (result : Result A E) → IfOk result P → OnOk result Q → ((x : A) → P x → Q → S x) → IfOk result S
if_ok_with (Ok x) p q f = f x p q
if_ok_with (Err e) p q f = p

frames_back : (owner : Owner) (call : ℕ) (frames : List Up) → up_frames (map (sent_by owner call) frames) ≡ frames
frames_back owner call [] = refl
frames_back owner call (frame ∷ frames) = ap (λ (l : List Up). frame ∷ l) (frames_back owner call frames)

-- the connection is the one of the request in course
pub same_connection : (terms : Terms) (talk : Talk) (course : Option Course) (now : Option Doing) (doing : Doing) → now ≡ Some doing → IsNow terms talk course now → connection_in course ≡ connection_of doing
same_connection terms talk None now doing there stands = absurd (subst (λ (d : Option Doing). IsNow terms talk None d) there stands)
same_connection terms talk (Some course) now doing there stands =
    let is = subst (λ (d : Option Doing). IsNow terms talk (Some course) d) there stands in
    ap (λ (c : Option ℕ). unwrap_or c 0) is.connection

-- what the traffic says that was handed these frames
abbrev pub TakesFrames : Traffic → ℕ → ℕ → Bool → List Up → Hold → Traffic → Type 0
TakesFrames before number connection holds_slot frames hold after =
    (m : Machine) (sent : List Sent) → up_frames sent ≡ frames ++ closing hold (give_back_answer before.pool connection) → IsUnderway before m
    → IsUnderway after (record m { links = changed (sends m.event sent) m.links connection; pool = released m.pool number connection holds_slot hold })

module _ (R : Type 0) (rules : R → Rules) (setting : Setting) (number : ℕ) (holds_slot : Bool) (input : Input) (frames : List Up) (hold : Hold) (many connection : ℕ) (before after : Traffic) (held : Held R) where
  pub acts_so : (m : Machine) (client : Client) (doing : Doing) → connection ≡ connection_of doing → IsUnderway before m → Hears R rules setting number m.event m.tick client doing input frames hold held
      → many ≡ length (frames ++ closing hold (give_back_answer before.pool connection)) → TakesFrames before number connection holds_slot frames hold after → Acts R rules setting m number client doing holds_slot input many after held
  acts_so m client doing there is hears count takes =
      let act : Act = act_at setting m doing input in
      let whole : frames ++ closing hold (give_back_answer before.pool connection) ≡ frames_of m.pool (connection_of doing) act =
      ap₂ (λ (f : List Up) (h : Hold). f ++ closing h (give_back_answer before.pool connection)) hears.send hears.hold
      ∙ ap₂ (λ (p : Slots) (n : ℕ). act.send ++ closing act.hold (give_back_answer p n)) (sym is.pool) there
      in
      let sent : List Sent = map (sent_by (owner_at m number) (call_in (heard setting.terms m.event m.tick doing input).talk.phase)) (frames_of m.pool (connection_of doing) act) in
      let written = takes m sent (frames_back (owner_at m number) (call_in (heard setting.terms m.event m.tick doing input).talk.phase) (frames_of m.pool (connection_of doing) act) ∙ sym whole) is in
      let there_then : IsUnderway after (record m { links = changed (sends m.event sent) m.links (connection_of doing); pool = released m.pool number (connection_of doing) holds_slot act.hold }) =
      subst (λ (n : ℕ). IsUnderway after (record m { links = changed (sends m.event sent) m.links n; pool = released m.pool number n holds_slot act.hold })) there
      (subst (λ (h : Hold). IsUnderway after (record m { links = changed (sends m.event sent) m.links connection; pool = released m.pool number connection holds_slot h })) hears.hold written)
      in
      record {
        sent = count ∙ ap (λ (f : List Up). length f) whole;
        underway = record { event = there_then.event; tick = there_then.tick; links = there_then.links; pool = there_then.pool; opened = there_then.opened };
        stands = subst (λ (h : Hold). IsClient R rules setting number m.tick (is_gone_next input h) held (after_hold setting number client (heard setting.terms m.event m.tick doing input) h)) hears.hold hears.stands;
      }
