-- On the connection of each request is out what it waits for, in each event of a run.
use Rattle.std.proofs.Common.{◌≡◌, refl, sym, ap, ◌∙◌, Bool, true, false, ℕ, ◌+◌, ◌-◌, ◌&&◌, ◌||◌, List, [], ◌∷◌, Option, Some, None, if◌then◌else◌}
use Rattle.std.specs.Prelude.{not, nat_le, is_some}
use Rattle.std.specs.Option.{option_map_or}
use Rattle.std.proofs.lemmas.Bool.{and_parts, and_from}
use Rattle.svc_values.specs.declared.entry.Ltxid.{Ltxid}
use Rattle.svc_values.specs.declared.frame.Up.TheVariants as up
use Rattle.svc_values.specs.meaning.Same.{same_bool}
use Rattle.pool_core.specs.meaning.Slots.{Slots, give_back_answer}
use Rattle.client_model.specs.declared.act.Hold.TheVariants as hold
use Rattle.client_model.specs.declared.act.Failed.TheVariants.{Retries, PoolWait}
use Rattle.client_model.specs.declared.input.Input.TheVariants.{Took}
use Rattle.client_model.specs.declared.input.Wants.{Wants}
use Rattle.client_model.specs.declared.input.Wants.TheVariants as wants
use Rattle.client_model.specs.meaning.States.{Losing}
use Rattle.client_model.specs.meaning.Terms.{Terms, Talk, Phase, Queued, Seeking, Greeting, Asked, Running, Replaying}
use Rattle.client_model.specs.meaning.Talk.{Step, stands, quiet, fails, on_hello, on_waiting, with_tried, lost_of, on_try_failed, loses as lost_to, takes as taken_by, wants_in}
use Rattle.world_model.specs.meaning.Settings.{Setting}
use Rattle.world_model.specs.meaning.Frames.{Owner, Reply}
use Rattle.world_model.specs.meaning.Links.{Link, new_link, link_at, sends, takes}
use Rattle.world_model.specs.meaning.Clients.{Doing}
use Rattle.world_model.specs.meaning.Acting.{sent_by}
use Rattle.world_model.specs.meaning.Machines.{Machine}
use Rattle.world_model.specs.records.Hold.{holds_connection, is_idle}
use Rattle.world_model.specs.Sames.{same_owner}
use Rattle.world_model.proofs.wire.SameSelf.{owner_self}
use Rattle.world_model.proofs.wire.SentLinks.{awaits, spoken_by}
use Rattle.world_model.proofs.wire.LinkOut.{idle_none, taken_none, awaits_out}
use Rattle.world_model.proofs.wire.Saying.{has_next, is_hushed, said, said_lent}
use Rattle.world_model.proofs.hold.HeldSaid.{out_by, said_on}

-- THE TEST ----------------------------------------------------------------------------------------

-- the request has a connection exactly in the phases that hold one, and there is out what the phase
-- waits for
abbrev pub holds_rightly : List Link → Owner → Doing → Bool
holds_rightly links owner doing =
    same_bool (is_some doing.connection) (holds_connection doing.talk.phase)
    && option_map_or (λ number. option_map_or (awaits owner doing.talk.phase) (link_at links number) false) doing.connection true

pub same_from : (a b : Bool) → a ≡ b → same_bool a b ≡ true
same_from true true is = refl
same_from false false is = refl
same_from true false is = absurd (let none : ⊥ = cc in none)
same_from false true is = absurd (let none : ⊥ = cc in none)

pub same_none : (found : Option ℕ) (holds : Bool) → same_bool (is_some found) holds ≡ true → holds ≡ false → found ≡ None
same_none None holds same is = refl
same_none (Some number) false same is = absurd (let none : ⊥ = cc in none)
same_none (Some number) true same is = absurd (let none : ⊥ = cc in none)

pub without_one : (links : List Link) (owner : Owner) (doing : Doing) → doing.connection ≡ None → holds_connection doing.talk.phase ≡ false → holds_rightly links owner doing ≡ true
without_one links owner doing none phase =
    and_from (same_bool (is_some doing.connection) (holds_connection doing.talk.phase)) (option_map_or (λ number. option_map_or (awaits owner doing.talk.phase) (link_at links number) false) doing.connection true)
    (same_from (is_some doing.connection) (holds_connection doing.talk.phase) (ap is_some none ∙ sym phase))
    (ap (λ (one : Option ℕ). option_map_or (λ number. option_map_or (awaits owner doing.talk.phase) (link_at links number) false) one true) none)

pub with_one : (links : List Link) (owner : Owner) (doing : Doing) (number : ℕ) (link : Link) → doing.connection ≡ Some number → holds_connection doing.talk.phase ≡ true → link_at links number ≡ Some link
    → awaits owner doing.talk.phase link ≡ true → holds_rightly links owner doing ≡ true
with_one links owner doing number link has phase there out =
    and_from (same_bool (is_some doing.connection) (holds_connection doing.talk.phase)) (option_map_or (λ one. option_map_or (awaits owner doing.talk.phase) (link_at links one) false) doing.connection true)
    (same_from (is_some doing.connection) (holds_connection doing.talk.phase) (ap is_some has ∙ sym phase))
    (ap (λ (one : Option ℕ). option_map_or (λ n. option_map_or (awaits owner doing.talk.phase) (link_at links n) false) one true) has
    ∙ (ap (λ (found : Option Link). option_map_or (awaits owner doing.talk.phase) found false) there ∙ out))

-- the connection of another request, or none
pub data HasIt (links : List Link) (owner : Owner) (doing : Doing) : Type 0 where
  HasNone : doing.connection ≡ None → HasIt links owner doing
  HasOne : (number : ℕ) (link : Link) → doing.connection ≡ Some number → link_at links number ≡ Some link → awaits owner doing.talk.phase link ≡ true → HasIt links owner doing

pub has_it : (links : List Link) (owner : Owner) (doing : Doing) → holds_rightly links owner doing ≡ true → HasIt links owner doing
has_it links owner doing here = by doing.connection refl (and_parts (same_bool (is_some doing.connection) (holds_connection doing.talk.phase)) _ here).1
  where
    at : (number : ℕ) (found : Option Link) → doing.connection ≡ Some number → link_at links number ≡ found → option_map_or (awaits owner doing.talk.phase) found false ≡ true → HasIt links owner doing
    at number None has is out = absurd (let none : ⊥ = cc in none)
    at number (Some link) has is out = HasOne number link has is out

    by : (found : Option ℕ) → doing.connection ≡ found → option_map_or (λ number. option_map_or (awaits owner doing.talk.phase) (link_at links number) false) found true ≡ true → HasIt links owner doing
    by None is out = HasNone is
    by (Some number) is out = at number (link_at links number) is refl out

-- where that connection is as before
pub still_holds : (links later : List Link) (owner : Owner) (doing : Doing) → holds_rightly links owner doing ≡ true
    → ((number : ℕ) (link : Link) → doing.connection ≡ Some number → link_at links number ≡ Some link → awaits owner doing.talk.phase link ≡ true → (next : Link) × (link_at later number ≡ Some next) × (awaits owner doing.talk.phase next ≡ true))
    → holds_rightly later owner doing ≡ true
still_holds links later owner doing here keeps =
    and_from (same_bool (is_some doing.connection) (holds_connection doing.talk.phase)) (option_map_or (λ number. option_map_or (awaits owner doing.talk.phase) (link_at later number) false) doing.connection true)
    (and_parts (same_bool (is_some doing.connection) (holds_connection doing.talk.phase)) _ here).0 (by (has_it links owner doing here))
  where
    by : HasIt links owner doing → option_map_or (λ number. option_map_or (awaits owner doing.talk.phase) (link_at later number) false) doing.connection true ≡ true
    by (HasNone none) = ap (λ (one : Option ℕ). option_map_or (λ number. option_map_or (awaits owner doing.talk.phase) (link_at later number) false) one true) none
    by (HasOne number link has there out) =
        let next = keeps number link has there out in
        ap (λ (one : Option ℕ). option_map_or (λ n. option_map_or (awaits owner doing.talk.phase) (link_at later n) false) one true) has
        ∙ (ap (λ (found : Option Link). option_map_or (awaits owner doing.talk.phase) found false) next.1 ∙ next.2)

-- PHASES ------------------------------------------------------------------------------------------

pub slot_holds_none : (terms : Terms) (talk : Talk) (phase : Phase) (now : ℕ) (wanted : Wants) → wants_in terms talk phase now ≡ wanted → (wanted ≡ wants.Frame → ⊥) → holds_connection phase ≡ false
slot_holds_none terms talk (Greeting lost) now wanted is other = absurd (other (sym is))
slot_holds_none terms talk (Asked asking) now wanted is other = absurd (other (sym is))
slot_holds_none terms talk (Running state) now wanted is other = absurd (other (sym is))
slot_holds_none terms talk (Replaying state) now wanted is other = absurd (other (sym is))
slot_holds_none terms talk phase now wanted is other = refl

pub gone_none : (phase : Phase) (event : ℕ) → holds_connection (lost_to phase event) ≡ false
gone_none (Greeting lost) event = refl
gone_none (Asked asking) event = refl
gone_none (Running state) event = refl
gone_none (Replaying state) event = refl
gone_none phase event = refl

-- THE REQUEST THAT GOES ON ------------------------------------------------------------------------

module _ (setting : Setting) (m : Machine) where
  pub waits_none : (talk : Talk) (from now : ℕ) → (on_waiting setting.terms talk from now).1.hold ≡ hold.Keep → holds_connection (on_waiting setting.terms talk from now).0.phase ≡ false
  waits_none talk from now kept = by (nat_le setting.terms.limits.wait (now - from)) kept
    where
      by : (long : Bool) → (if long then fails talk false None (PoolWait from now) else (stands talk (Queued (Some from)), quiet)).1.hold ≡ hold.Keep
          → holds_connection (if long then fails talk false None (PoolWait from now) else (stands talk (Queued (Some from)), quiet)).0.phase ≡ false
      by true kept = refl
      by false kept = refl

  pub fails_none : (talk : Talk) (now : ℕ) → holds_connection (on_try_failed setting.terms talk now).0.phase ≡ false
  fails_none talk now = by (nat_le setting.terms.limits.retries (talk.tries + 1))
    where
      by : (many : Bool) → holds_connection (if many then fails (with_tried talk now) false None (Retries (talk.tries + 1)) else (stands (with_tried talk now) (Seeking (lost_of talk.phase)), quiet)).0.phase ≡ false
      by true = refl
      by false = refl

  -- on the connection that was lent
  pub lent_out : (owner : Owner) (talk : Talk) (ltxid : Ltxid) (pool : Slots) (number : ℕ) (link : Link) → is_idle link ≡ true → (on_hello setting.terms talk None ltxid true m.tick).1.hold ≡ hold.Keep
      → (holds_connection (on_hello setting.terms talk None ltxid true m.tick).0.phase ≡ true)
      × (awaits owner (on_hello setting.terms talk None ltxid true m.tick).0.phase (sends m.event (spoken_by owner pool number (on_hello setting.terms talk None ltxid true m.tick)) link) ≡ true)
  lent_out owner talk ltxid pool number link idle kept =
      let step : Step = on_hello setting.terms talk None ltxid true m.tick in
      let both = said_on owner (Greeting None) (has_next talk) true false step.0.phase step.1.send step.1.hold (give_back_answer pool number) (said_lent setting.terms talk ltxid m.tick) kept refl in
      (both.0, out_by m.event owner step.0.phase (spoken_by owner pool number step) link both.1 (idle_none link idle))

  -- on one that is open and gave a frame
  pub taken_out : (owner : Owner) (talk : Talk) (pool : Slots) (number : ℕ) (link : Link) (reply : Reply) (left : List Reply) → awaits owner talk.phase link ≡ true → link.is_open ≡ true → is_hushed reply.frame ≡ false
      → (taken_by setting.terms talk talk.phase reply.frame link.is_open m.tick).1.hold ≡ hold.Keep
      → (holds_connection (taken_by setting.terms talk talk.phase reply.frame link.is_open m.tick).0.phase ≡ true)
      × (awaits owner (taken_by setting.terms talk talk.phase reply.frame link.is_open m.tick).0.phase
      (sends m.event (spoken_by owner pool number (taken_by setting.terms talk talk.phase reply.frame link.is_open m.tick)) (takes (Took reply.frame link.is_open) reply left link)) ≡ true)
  taken_out owner talk pool number link reply left out opens loud kept =
      let step : Step = taken_by setting.terms talk talk.phase reply.frame link.is_open m.tick in
      let both = said_on owner talk.phase (has_next talk) link.is_open (is_hushed reply.frame) step.0.phase step.1.send step.1.hold (give_back_answer pool number)
      (said setting.terms talk talk.phase reply.frame link.is_open m.tick refl) kept (ap (λ (test : Bool). test || not link.is_open) loud ∙ ap not opens) in
      (both.0, out_by m.event owner step.0.phase (spoken_by owner pool number step) (takes (Took reply.frame link.is_open) reply left link) both.1 (taken_none link reply (awaits_out owner talk.phase link out)))

  -- on a new one
  pub opened_out : (owner : Owner) (lost : Option Losing) → awaits owner (Greeting lost) (sends m.event (sent_by owner 0 up.Connect ∷ []) new_link) ≡ true
  opened_out owner lost = out_by m.event owner (Greeting lost) (sent_by owner 0 up.Connect ∷ []) new_link (record { one = refl; last = λ first. and_from (same_owner owner owner) true (owner_self owner) refl }) refl
