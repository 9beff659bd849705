-- One step of a client, by what its request wants.
use Rattle.std.proofs.Common.{◌≡◌, ℕ, ◌+◌, ◌≤◌, Bool, true, false, List, [], ◌∷◌, ◌++◌, Option, Some, None, length, refl, sym, ap, subst, ◌∙◌, eq-eqb}
use Rattle.std.specs.Prelude.{is_none, unwrap_or, if◌then◌else◌}
use Rattle.std.specs.List.{AllByRecursion}
use Rattle.svc_values.specs.declared.entry.Ltxid.{Ltxid}
use Rattle.svc_values.specs.declared.frame.Up.{Up}
use Rattle.svc_values.specs.declared.frame.Down.{Down}
use Rattle.svc_values.specs.declared.frame.Down.TheVariants as down
use Rattle.pool_core.specs.declared.answers.Back.{Back}
use Rattle.pool_core.specs.meaning.Slots.{Slots, after_opened}
use Rattle.canon_bytes.specs.DownBytes.{IsMadeDown}
use Rattle.request_bounds.specs.meaning.Rules.{Rules}
use Rattle.outage_schedule.specs.declared.document.Request.{Request}
use Rattle.outage_schedule.specs.declared.note.GoNote.TheVariants as go
use Rattle.client_model.specs.declared.input.Input.{Input}
use Rattle.client_model.specs.declared.input.Input.TheVariants.{TryFailed, Opened, Lent, Took}
use Rattle.client_model.specs.declared.input.Wants.{Wants}
use Rattle.client_model.specs.declared.input.Wants.TheVariants as wants
use Rattle.client_model.specs.Conversation.{may_come, is_wanted}
use Rattle.driver_core.specs.Driving.{HasLtxids}
use Rattle.world_model.specs.meaning.Acting.{closing, loses, steps, act_at, frames_of, connection_of}
use Rattle.world_model.specs.meaning.Clients.{Doing, Client}
use Rattle.world_model.specs.meaning.Frames.{Reply}
use Rattle.world_model.specs.meaning.Going.{tries_while, noted, lends, finds_none}
use Rattle.world_model.specs.meaning.Links.{Link, new_link, link_at}
use Rattle.world_model.specs.meaning.Machines.{Machine}
use Rattle.world_model.specs.meaning.Settings.{Setting}
use Rattle.world_model.proofs.Offered.{dead_sends_none}
use Rattle.world_core.specs.declared.connection.Connection.{Connection}
use Rattle.world_core.specs.declared.traffic.Traffic.{Traffic}
use Rattle.world_core.specs.Coursing.{Held, IsClient, terms_in, step_of}
use Rattle.world_core.specs.Linked.{MaySend, down_frames}
use Rattle.world_core.specs.Stepping.{IsGoing, IsPlaced, IsHis, Goes}
use Rattle.world_core.specs.Underway.{IsUnderway}
use Rattle.world_core.proofs.steps.Placing.{held_at, may_nothing}
use Rattle.world_core.proofs.steps.Silence.{frame_going}
use Rattle.world_core.proofs.Standing.{same_length}

-- TRIES -------------------------------------------------------------------------------------------

-- where a failed try may come, an opened connection may
pub opened_wanted : (want : Wants) (connection : ℕ) → is_wanted want TryFailed ≡ true → may_come false want (Opened connection) ≡ true
opened_wanted wants.Slot connection may = refl
opened_wanted wants.Try connection may = refl
opened_wanted wants.Idle connection may = absurd (let none : ⊥ = cc in none)
opened_wanted wants.Request connection may = absurd (let none : ⊥ = cc in none)
opened_wanted wants.Early connection may = absurd (let none : ⊥ = cc in none)
opened_wanted wants.Frame connection may = absurd (let none : ⊥ = cc in none)

pub failed_wanted : (want : Wants) → is_wanted want TryFailed ≡ true → may_come false want TryFailed ≡ true
failed_wanted wants.Slot may = refl
failed_wanted wants.Try may = refl
failed_wanted wants.Idle may = absurd (let none : ⊥ = cc in none)
failed_wanted wants.Request may = absurd (let none : ⊥ = cc in none)
failed_wanted wants.Early may = absurd (let none : ⊥ = cc in none)
failed_wanted wants.Frame may = absurd (let none : ⊥ = cc in none)

-- the pool knows no connection that was not opened
pub opened_few : (traffic : Traffic) (m : Machine) → IsUnderway traffic m → traffic.pool.opened ≤ length traffic.connections.all.items
opened_few traffic m is =
    subst (λ (pool : Slots). pool.opened ≤ length traffic.connections.all.items) is.pool
    (subst (λ (n : ℕ). m.pool.opened ≤ n) (sym (same_length traffic.connections.all.items m.links is.links.are)) is.opened)

module _ (setting : Setting) (m : Machine) (number : ℕ) (doing : Doing) where
  abbrev pub opening : ℕ → Machine
  opening connection = record m { links = m.links ++ new_link ∷ []; pool = after_opened m.pool connection }

  pub tried_down : (is_up : Bool) → is_up ≡ false → tries_while setting m number go.Down doing is_up ≡ Some (steps setting m number doing true TryFailed)
  tried_down is_up down = ap (tries_while setting m number go.Down doing) down

  pub tried_open : (connection : ℕ) (is_up : Bool) → is_up ≡ true → connection ≡ length m.links + 1
      → tries_while setting m number (go.Open connection) doing is_up ≡ Some (steps setting (opening connection) number (record doing { connection = Some connection }) true (Opened connection))
  tried_open connection is_up up next =
      subst (λ (n : ℕ). tries_while setting m number (go.Open n) doing is_up ≡ Some (steps setting (opening n) number (record doing { connection = Some n }) true (Opened n))) (sym next)
      (ap (tries_while setting m number (go.Open (length m.links + 1)) doing) up ∙ rw (eq-eqb (length m.links + 1) (length m.links + 1) refl) refl)

-- LENDING -----------------------------------------------------------------------------------------

pub none_held : (held : Option Ltxid) (ltxid : Ltxid) → None ≡ held → held ≡ Some ltxid → ⊥
none_held held ltxid none has = let never : ⊥ = cc in never

-- it is lent under the identifier that is held there
pub lent_so : (setting : Setting) (m : Machine) (number : ℕ) (doing : Doing) (connection : ℕ) (ltxid other : Ltxid) → ◌≡◌ {A = Option Ltxid} (Some ltxid) (Some other)
    → lends setting m number (go.Lent connection) doing connection (Some other) ≡ Some (steps setting m number (record doing { connection = Some connection }) true (Lent connection ltxid))
lent_so setting m number doing connection ltxid other same =
    let is : ltxid ≡ other = cc in
    rw (eq-eqb connection connection refl) (ap (λ (x : Ltxid). Some (steps setting m number (record doing { connection = Some connection }) true (Lent connection x))) (sym is))

-- FRAMES ------------------------------------------------------------------------------------------

-- the identifier that comes with a frame is within its bounds
made_ltxids : (frame : Down) (alive : Bool) → IsMadeDown frame → HasLtxids (Took frame alive)
made_ltxids (down.Hello ltxid) alive made = made
made_ltxids (down.Reply answers draws ltxid) alive made = made
made_ltxids (down.OutcomeIs committed completed) alive made = tt
made_ltxids (down.OutcomeRefused who next) alive made = tt
made_ltxids down.Blocked alive made = tt
made_ltxids (down.Refused cause) alive made = tt

pub first_ltxids : (traffic : Traffic) (m : Machine) (connection : ℕ) (link : Link) (reply : Reply) (left : List Reply) (alive : Bool) → IsUnderway traffic m → link_at m.links connection ≡ Some link → link.down ≡ reply ∷ left
    → HasLtxids (Took reply.frame alive)
first_ltxids traffic m connection link reply left alive is there first =
    let found = held_at traffic.connections.all.items m.links connection link is.links.are there in
    let told : AllByRecursion IsMadeDown (down_frames (reply ∷ left)) = subst (λ (replies : List Reply). AllByRecursion IsMadeDown (down_frames replies)) first found.2.told in
    made_ltxids reply.frame alive told.0

-- the note tells how many frames were sent
pub took_noted : (setting : Setting) (m : Machine) (doing : Doing) (connection many : ℕ) (input : Input) (next : Machine) → doing.connection ≡ Some connection → many ≡ length (frames_of m.pool (connection_of doing) (act_at setting m doing input))
    → noted (go.Took connection many) (go.Took connection (length (frames_of m.pool connection (act_at setting m doing input)))) next ≡ Some next
took_noted setting m doing connection many input next has sent =
    let count : ℕ = length (frames_of m.pool connection (act_at setting m doing input)) in
    let same : many ≡ count = sent ∙ ap (λ (one : Option ℕ). length (frames_of m.pool (unwrap_or one 0) (act_at setting m doing input))) has in
    rw (eq-eqb connection connection refl, eq-eqb many count same) refl

-- nothing is sent on a connection that has ended
pub dead_may : (R : Type 0) (rules : R → Rules) (held : Held R) (frame : Down) (tick : ℕ) (back : Back) (found : Option Connection)
    → MaySend found ((step_of R rules held (Took frame false) tick).1.send ++ closing (step_of R rules held (Took frame false) tick).1.hold back)
dead_may R rules held frame tick back found = subst (λ (frames : List Up). MaySend found frames) (sym (dead_sends_none (terms_in R rules held) held.driver.talk frame tick back)) (may_nothing found)

-- WITHOUT A FRAME ---------------------------------------------------------------------------------

module _ (R : Type 0) (rules : R → Rules) (script : List Request) (number : ℕ) (traffic : Traffic) (held : Held R) (setting : Setting) (m : Machine) (client : Client) (doing : Doing) where
  -- nothing is done
  pub stays_there : IsPlaced R rules script number wants.Frame false traffic held setting m client doing → client.now ≡ Some doing → (next : Option Machine) → next ≡ Some m → Goes R rules setting m number next traffic held
  stays_there at now next follows = record {
    after = m;
    client = client;
    followed = follows;
    underway = at.underway;
    placed = at.there;
    others = λ other apart. refl;
    same = (refl, refl, refl);
    stands = subst (λ (one : Option Doing). IsClient R rules setting number m.tick false held (record client { now = one })) (sym now) at.stands;
    going = subst (λ (one : Option Doing). IsGoing one) (sym now) (frame_going setting.terms doing.talk doing.talk.phase m.tick at.wants);
  }

  ended_as : (connection : ℕ) (link : Link) → IsPlaced R rules script number wants.Frame false traffic held setting m client doing → IsHis m connection link → link.is_open ≡ is_none link.ended
  ended_as connection link at his =
      let found = held_at traffic.connections.all.items m.links connection link at.underway.links.are his.found in
      found.2.is_open ∙ ap (λ (ended : Option ℕ). is_none ended) (sym found.2.ended)

  pub found_open : (connection : ℕ) (link : Link) → IsPlaced R rules script number wants.Frame false traffic held setting m client doing → IsHis m connection link → link.ended ≡ None
      → finds_none setting m number go.NoFrame doing connection link ≡ Some m
  found_open connection link at his unended =
      ap (λ (b : Bool). if b then noted go.NoFrame go.NoFrame m else noted go.NoFrame (go.Lost connection) (loses setting m number doing link.ended))
      (ended_as connection link at his ∙ ap (λ (ended : Option ℕ). is_none ended) unended)

  pub found_lost : (connection : ℕ) (link : Link) (event : ℕ) → IsPlaced R rules script number wants.Frame false traffic held setting m client doing → IsHis m connection link → link.ended ≡ Some event
      → finds_none setting m number (go.Lost connection) doing connection link ≡ Some (loses setting m number doing (Some event))
  found_lost connection link event at his ends =
      ap (λ (b : Bool). if b then noted (go.Lost connection) go.NoFrame m else noted (go.Lost connection) (go.Lost connection) (loses setting m number doing link.ended))
      (ended_as connection link at his ∙ ap (λ (ended : Option ℕ). is_none ended) ends)
      ∙ rw (eq-eqb connection connection refl) (ap (λ (ended : Option ℕ). Some (loses setting m number doing ended)) ends)
