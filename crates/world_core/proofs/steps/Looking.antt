-- A client looks for a frame on its connection.
use Rattle.std.proofs.Common.{◌≡◌, ℕ, ◌+◌, ◌≤◌, Bool, true, false, List, [], ◌∷◌, Option, Some, None, length, refl, sym, ap, ap₂, subst, ◌∙◌}
use Rattle.std.specs.Prelude.{is_none, option_map, option_and_then, if◌then◌else◌}
use Rattle.std.specs.Option.{option_or}
use Rattle.svc_values.specs.declared.frame.Down.{Down}
use Rattle.pool_core.specs.meaning.Slots.{is_among}
use Rattle.request_bounds.specs.meaning.Rules.{Rules}
use Rattle.outage_schedule.specs.declared.document.Request.{Request}
use Rattle.outage_schedule.specs.declared.note.GoNote.{GoNote}
use Rattle.outage_schedule.specs.declared.note.GoNote.TheVariants as go
use Rattle.client_model.specs.declared.input.Input.TheVariants.{Took}
use Rattle.client_model.specs.declared.input.Wants.{Wants}
use Rattle.client_model.specs.declared.input.Wants.TheVariants as wants
use Rattle.client_model.specs.meaning.Talk.{wants_of}
use Rattle.client_model.specs.meaning.Terms.{Terms}
use Rattle.driver_core.specs.Driving.{HasLtxids}
use Rattle.world_model.specs.meaning.Acting.{act_at, frames_of, steps}
use Rattle.world_model.specs.meaning.Clients.{Doing, Client, begun, doing_at}
use Rattle.world_model.specs.meaning.Frames.{Reply}
use Rattle.world_model.specs.meaning.Going.{noted, lost_at_once, finds_none, looks, looks_at, goes_by}
use Rattle.world_model.specs.meaning.Links.{Link, link_at, with_link, takes}
use Rattle.world_model.specs.meaning.Machines.{Machine}
use Rattle.world_model.specs.meaning.Settings.{Setting}
use Rattle.world_model.specs.Traced.{Traced}
use Rattle.world_model.proofs.Offered.{Awaits, awaits_frame}
use Rattle.world_core.specs.declared.traffic.Traffic.{Traffic}
use Rattle.world_core.specs.Coursing.{Held}
use Rattle.world_core.specs.Stepping.{at_next, connection_in, IsPlaced, IsAwaiting, SomeAwaiting, IsTurn, Goes}
use Rattle.world_core.specs.Underway.{IsUnderway, GivesReplyOf}
use Rattle.world_core.proofs.steps.Placing.{connection_is, moved}
use Rattle.world_core.proofs.Reaping.{link_same}
use Rattle.world_core.proofs.steps.Steps.{first_ltxids}

-- IN COURSE BEFORE --------------------------------------------------------------------------------

pub some_doing : (a b : Doing) → ◌≡◌ {A = Option Doing} (Some a) (Some b) → a ≡ b
some_doing a b e = cc

-- one that begins wants a slot
pub in_course : (terms : Terms) (event tick : ℕ) (doing : Doing) (now : Option Doing) (next : Option Request) (wanted : Wants) → option_or now (option_map (begun terms event tick) next) ≡ Some doing
    → wants_of terms doing.talk tick ≡ wanted → (wants.Slot ≡ wanted → ⊥) → now ≡ Some doing
in_course terms event tick doing (Some one) next wanted does wish apart = does
in_course terms event tick doing None None wanted does wish apart = absurd (let none : ⊥ = cc in none)
in_course terms event tick doing None (Some request) wanted does wish apart =
    absurd (apart (ap (λ (d : Doing). wants_of terms d.talk tick) (some_doing (begun terms event tick request) doing does) ∙ wish))

-- THE REPLY IN FRONT ------------------------------------------------------------------------------

some_down : (a b : Down) → ◌≡◌ {A = Option Down} (Some a) (Some b) → a ≡ b
some_down a b e = cc

-- the machine behind the reply that was taken
abbrev pub taking : Machine → ℕ → Link → Reply → List Reply → Machine
taking m connection link reply left = record m { links = with_link m.links connection (takes (Took reply.frame link.is_open) reply left link) }

none_taken : (m : Machine) (connection : ℕ) (link : Link) (down : List Reply) (after : Traffic) → GivesReplyOf m connection link down None after → (down ≡ []) × IsUnderway after m
none_taken m connection link [] after gives = (refl, gives.1)
none_taken m connection link (reply ∷ left) after gives = absurd (let clash : ◌≡◌ {A = Option Down} None (Some reply.frame) = gives.0 in let none : ⊥ = cc in none)

record TookReply (m : Machine) (connection : ℕ) (link : Link) (down : List Reply) (frame : Down) (after : Traffic) : Type 0 where
  reply : Reply
  left : List Reply
  first : down ≡ reply ∷ left
  same : reply.frame ≡ frame
  underway : IsUnderway after (taking m connection link reply left)

some_taken : (m : Machine) (connection : ℕ) (link : Link) (down : List Reply) (frame : Down) (after : Traffic) → GivesReplyOf m connection link down (Some frame) after → TookReply m connection link down frame after
some_taken m connection link [] frame after gives = absurd (let clash : ◌≡◌ {A = Option Down} (Some frame) None = gives.0 in let none : ⊥ = cc in none)
some_taken m connection link (reply ∷ left) frame after gives = record { reply = reply; left = left; first = refl; same = some_down reply.frame frame (sym gives.0); underway = gives.1 }

-- WHAT FOLLOWS ------------------------------------------------------------------------------------

module _ (setting : Setting) (m : Machine) (number : ℕ) (doing : Doing) (connection : ℕ) (link : Link) where
  looked : (note : GoNote) → doing.connection ≡ Some connection → link_at m.links connection ≡ Some link → goes_by setting m number note doing wants.Frame ≡ looks setting m number note doing connection link link.down
  looked note has there =
      ap (λ (one : Option ℕ). option_and_then (looks_at setting m number note doing) one) has
      ∙ ap (λ (found : Option Link). option_and_then (λ (l : Link). looks setting m number note doing connection l l.down) found) there

  module _ (reply : Reply) (left : List Reply) where
    abbrev behind : Down → Bool → Machine
    behind frame alive = steps setting (taking m connection link reply left) number doing true (Took frame alive)

    abbrev looks_by : GoNote → Down → Bool → Option ℕ → Option Machine
    looks_by note frame alive ended =
        noted note (go.Took connection (length (frames_of m.pool connection (act_at setting m doing (Took frame alive)))))
        (if alive then behind frame alive else lost_at_once setting (behind frame alive) number ended (doing_at (behind frame alive).clients number))

    looks_so : (note : GoNote) (frame : Down) (alive : Bool) (ended : Option ℕ) → doing.connection ≡ Some connection → link_at m.links connection ≡ Some link → link.down ≡ reply ∷ left → reply.frame ≡ frame → link.is_open ≡ alive → link.ended ≡ ended
        → goes_by setting m number note doing wants.Frame ≡ looks_by note frame alive ended
    looks_so note frame alive ended has there first same opens ends =
        looked note has there
        ∙ (ap (λ (down : List Reply). looks setting m number note doing connection link down) first
        ∙ (ap₂ (λ (f : Down) (b : Bool). looks_by note f b link.ended) same opens ∙ ap (λ (e : Option ℕ). looks_by note frame alive e) ends))

-- AT A TURN ---------------------------------------------------------------------------------------

-- what is told of the end of a connection, and of its first reply
abbrev pub TellsEnd : Traffic → ℕ → Option ℕ → Type 0
TellsEnd traffic connection ended = (m : Machine) (link : Link) → link_at m.links connection ≡ Some link → IsUnderway traffic m → (ended ≡ link.ended) × (link.is_open ≡ is_none ended)

abbrev pub GivesReply : Traffic → ℕ → Option Down → Traffic → Type 0
GivesReply traffic connection got after = (m : Machine) (link : Link) → link_at m.links connection ≡ Some link → IsUnderway traffic m → GivesReplyOf m connection link link.down got after

module _ (R : Type 0) (rules : R → Rules) (script : List Request) (number : ℕ) (traffic later : Traffic) (held : Held R) (connection : ℕ) (ended : Option ℕ) (got : Option Down) (mine : connection ≡ connection_in held.course) (tells : TellsEnd traffic connection ended)
    (gives : GivesReply traffic connection got later) (t : Traced) (client : Client) (doing : Doing) (turn : IsTurn R rules script number wants.Frame traffic held t client doing) where
  waits : Awaits t doing
  waits = awaits_frame t turn.orderly number client doing turn.placed.there turn.does turn.placed.wants

  same_number : waits.connection ≡ connection
  same_number = sym (mine ∙ connection_is R rules script number wants.Frame false traffic held t.setting (at_next t) client doing waits.connection turn.placed waits.has)

  there : link_at t.machine.links connection ≡ Some waits.link
  there = subst (λ (n : ℕ). link_at t.machine.links n ≡ Some waits.link) same_number waits.there

  told : (ended ≡ waits.link.ended) × (waits.link.is_open ≡ is_none ended)
  told = tells (at_next t) waits.link there turn.placed.underway

  given : GivesReplyOf (at_next t) connection waits.link waits.link.down got later
  given = gives (at_next t) waits.link there turn.placed.underway

  awaits : (other : Option ℕ) → ended ≡ other → IsAwaiting (at_next t) doing connection other waits.link
  awaits other is = record {
    has = waits.has ∙ ap (λ (n : ℕ). Some n) same_number;
    his = record {
      found = there;
      lent = waits.lent;
      opened = subst (λ (n : ℕ). n ≤ t.machine.pool.opened) same_number waits.opened;
      busy = subst (λ (n : ℕ). is_among n t.machine.pool.idle ≡ false) same_number waits.busy;
    };
    ends = sym told.0 ∙ is;
  }

  -- no whole frame stands there
  none_there : got ≡ None → (waits.link.down ≡ []) × IsUnderway later (at_next t)
  none_there none = none_taken (at_next t) connection waits.link waits.link.down later (subst (λ (one : Option Down). GivesReplyOf (at_next t) connection waits.link waits.link.down one later) none given)

  none_placed : got ≡ None → IsPlaced R rules script number wants.Frame false later held t.setting (at_next t) client doing
  none_placed none = moved R rules script number wants.Frame false traffic later held t.setting (at_next t) (at_next t) client doing refl refl (none_there none).1 turn.placed

  pub none_awaits : got ≡ None → SomeAwaiting R rules script number connection ended later held
  none_awaits none = record { some = record { setting = t.setting; machine = at_next t; client = client; doing = doing; placed = none_placed none }; link = waits.link; awaits = awaits ended refl }

  was_doing : client.now ≡ Some doing
  was_doing = in_course t.setting.terms (t.machine.event + 1) t.machine.tick doing client.now client.next wants.Frame turn.does turn.placed.wants (λ same. let none : ⊥ = cc in none)

  abbrev pub FindsNone : GoNote → Traffic → Held R → Type 0
  FindsNone note after new = (setting : Setting) (m : Machine) (client : Client) (doing : Doing) (link : Link) → IsPlaced R rules script number wants.Frame false later held setting m client doing → client.now ≡ Some doing → IsAwaiting m doing connection ended link
      → Goes R rules setting m number (finds_none setting m number note doing connection link) after new

  pub none_goes : (note : GoNote) (after : Traffic) (new : Held R) → got ≡ None → FindsNone note after new → Goes R rules t.setting (at_next t) number (goes_by t.setting (at_next t) number note doing wants.Frame) after new
  none_goes note after new none finds =
      let goes = finds t.setting (at_next t) client doing waits.link (none_placed none) was_doing (awaits ended refl) in
      let same : goes_by t.setting (at_next t) number note doing wants.Frame ≡ finds_none t.setting (at_next t) number note doing connection waits.link =
      looked t.setting (at_next t) number doing connection waits.link note (awaits ended refl).has there ∙ ap (λ (down : List Reply). looks t.setting (at_next t) number note doing connection waits.link down) (none_there none).0 in
      record { after = goes.after; client = goes.client; followed = same ∙ goes.followed; underway = goes.underway; placed = goes.placed; others = goes.others; same = goes.same; stands = goes.stands; going = goes.going }

  -- one does
  module _ (frame : Down) (some : got ≡ Some frame) where
    took : TookReply (at_next t) connection waits.link waits.link.down frame later
    took = some_taken (at_next t) connection waits.link waits.link.down frame later (subst (λ (one : Option Down). GivesReplyOf (at_next t) connection waits.link waits.link.down one later) some given)

    abbrev behind_it : Machine
    behind_it = taking (at_next t) connection waits.link took.reply took.left

    abbrev link_then : Link
    link_then = takes (Took took.reply.frame waits.link.is_open) took.reply took.left waits.link

    placed_then : IsPlaced R rules script number wants.Frame false later held t.setting behind_it client doing
    placed_then = moved R rules script number wants.Frame false traffic later held t.setting (at_next t) behind_it client doing refl refl took.underway turn.placed

    awaits_then : (other : Option ℕ) → ended ≡ other → IsAwaiting behind_it doing connection other link_then
    awaits_then other is =
        let before = awaits other is in
        record { has = before.has; his = record { found = link_same t.machine.links connection waits.link link_then there; lent = before.his.lent; opened = before.his.opened; busy = before.his.busy }; ends = before.ends }

    pub some_awaits : (other : Option ℕ) → ended ≡ other → SomeAwaiting R rules script number connection other later held
    some_awaits other is = record { some = record { setting = t.setting; machine = behind_it; client = client; doing = doing; placed = placed_then }; link = link_then; awaits = awaits_then other is }

    pub some_ltxids : (alive : Bool) → HasLtxids (Took frame alive)
    some_ltxids alive = subst (λ (f : Down). HasLtxids (Took f alive)) took.same (first_ltxids traffic (at_next t) connection waits.link took.reply took.left alive turn.placed.underway there took.first)

    -- what it goes on to, by whether the connection is open
    abbrev pub Hears : Bool → Option ℕ → GoNote → Traffic → Held R → Type 0
    Hears alive other note after new = (setting : Setting) (m : Machine) (client : Client) (doing : Doing) (link : Link) → IsPlaced R rules script number wants.Frame false later held setting m client doing → IsAwaiting m doing connection other link
        → Goes R rules setting m number
        (noted note (go.Took connection (length (frames_of m.pool connection (act_at setting m doing (Took frame alive)))))
        (if alive then steps setting m number doing true (Took frame alive)
        else lost_at_once setting (steps setting m number doing true (Took frame alive)) number other (doing_at (steps setting m number doing true (Took frame alive)).clients number)))
        after new

    pub some_goes : (alive : Bool) (other : Option ℕ) (note : GoNote) (after : Traffic) (new : Held R) → ended ≡ other → is_none other ≡ alive → Hears alive other note after new
        → Goes R rules t.setting (at_next t) number (goes_by t.setting (at_next t) number note doing wants.Frame) after new
    some_goes alive other note after new is lives hears =
        let goes = hears t.setting behind_it client doing link_then placed_then (awaits_then other is) in
        let same = looks_so t.setting (at_next t) number doing connection waits.link took.reply took.left note frame alive other (awaits other is).has there took.first took.same (told.1 ∙ (ap (λ (e : Option ℕ). is_none e) is ∙ lives)) (sym told.0 ∙ is) in
        record { after = goes.after; client = goes.client; followed = same ∙ goes.followed; underway = goes.underway; placed = goes.placed; others = goes.others; same = goes.same; stands = goes.stands; going = goes.going }
