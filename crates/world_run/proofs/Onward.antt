-- A run goes on by an event that is noted.
use Rattle.std.proofs.Common.{◌≡◌, refl, sym, ap, subst, ◌∙◌, arith, ℕ, ◌+◌, ◌≤◌, ◌<◌, ◌^◌, false, List, [], ◌∷◌, ◌++◌, length, Option, Some, None, Result, Ok, Err}
use Rattle.std.specs.Prelude.{IfOk, OnOk, option_to_list}
use Rattle.std.proofs.lemmas.List.{length-append}
use Rattle.request_bounds.specs.meaning.Rules.{Rules}
use Rattle.outage_schedule.specs.declared.document.Client.{Client as Script}
use Rattle.outage_schedule.specs.declared.event.Event.{Event}
use Rattle.outage_schedule.specs.declared.event.Event.TheVariants as events
use Rattle.outage_schedule.specs.declared.item.Served.{Served}
use Rattle.outage_schedule.specs.declared.note.Note.{Note}
use Rattle.outage_schedule.specs.declared.note.Note.TheVariants as notes
use Rattle.run_clauses.specs.meaning.Horizons.{Openings, after_note, wanted_horizon}
use Rattle.server_model.specs.Seen.{ServiceState, Seen}
use Rattle.server_model.specs.ServiceCalls.{MayForget}
use Rattle.service_calls.specs.Kept.{HaveOneBase}
use Rattle.world_model.specs.meaning.Settings.{Setting}
use Rattle.world_model.specs.Matching.{is_go}
use Rattle.world_model.specs.Traced.{Traced}
use Rattle.world_model.specs.meaning.Walking.{follow}
use Rattle.world_model.specs.Forgets.{Forgets, openings_of}
use Rattle.world_model.proofs.Offered.{opens_once, opens_noted, openings_more}
use Rattle.world_core.specs.declared.traffic.Traffic.{Traffic}
use Rattle.world_core.specs.Among.{StandEach, StayEach, SomeAmong, MakesAmong}
use Rattle.world_core.specs.Coursing.{Held}
use Rattle.world_core.specs.CutBytes.{CutsFirst}
use Rattle.world_core.specs.Forgetting.{Held as Tracked, Tracks, IsTracked, NotesOpening}
use Rattle.world_core.specs.Making.{IsAt, IsSomewhere, MakesBelow}
use Rattle.world_run.specs.Running.{AreKnown, Parts, Notes, StandBeside, Stands, StandsSomewhere, IsLed, Leads, GoesOn, MakesOne, last_incarnation}
use Rattle.world_run.proofs.Noting.{few_ticks, known_more, known_wants}

-- a fact on the incarnation of an opening that is noted
notes_so : (Holds : ℕ → Type 0) (note : Note) → ((incarnation : ℕ) → note ≡ notes.Up (Some incarnation) → Holds incarnation) → NotesOpening Holds note
notes_so Holds (notes.Up (Some incarnation)) so = so incarnation refl
notes_so Holds (notes.Up None) so = tt
notes_so Holds (notes.Go client did) so = tt
notes_so Holds (notes.Serve connection frame) so = tt
notes_so Holds (notes.Cut connection reached) so = tt
notes_so Holds (notes.Reap connection reaped) so = tt
notes_so Holds (notes.Crash connection down) so = tt
notes_so Holds (notes.UpCrash made) so = tt
notes_so Holds notes.Tick so = tt
notes_so Holds (notes.Outside ran) so = tt
notes_so Holds (notes.Ask ltxid told) so = tt
notes_so Holds (notes.Drain closed) so = tt

-- what was noted beside another view of the same
pub noted_from : {S R : Type 0} (note : Note) (items : List Served) (inside before after : Parts S R) → inside ≡ before → Notes note items inside after → Notes note items before after
noted_from note items inside before after same noted = subst (λ (parts : Parts _ _). Notes note items parts after) same noted

-- the store keeps its base where an event is noted
pub base_noted : {S R A E : Type 0} (bytes : S → List ℕ) (note : Note) (items : List Served) (before led after : Parts S R) (result : Result A E) → HaveOneBase (bytes before.service) (bytes led.service) → OnOk result (Notes note items led after)
    → OnOk result (HaveOneBase (bytes before.service) (bytes after.service))
base_noted bytes note items before led after (Ok done) base noted = subst (λ service. HaveOneBase (bytes before.service) (bytes service)) (sym noted.same.0) base
base_noted bytes note items before led after (Err e) base noted = tt

-- an event that is no step of a client
pub not_go : (event : Event) → ((client : ℕ) → event ≡ events.Go client → ⊥) → is_go event ≡ false
not_go (events.Go client) other = absurd (other client refl)
not_go (events.Serve connection) other = refl
not_go (events.Cut connection up down) other = refl
not_go (events.Reap connection) other = refl
not_go (events.Crash connection after pick) other = refl
not_go events.Up other = refl
not_go (events.UpCrash after pick) other = refl
not_go events.Tick other = refl
not_go (events.Outside calls) other = refl
not_go (events.Ask ltxid) other = refl
not_go events.Drain other = refl

module _ (S R : Type 0) (sees : S → Seen → Type 0) (rules : R → Rules) (scripts : List Script) where
  -- service, traffic and clients alone tell where it stands
  beside_same : (before after : Parts S R) (seen : Seen) (t : Traced) → (after.service ≡ before.service) × (after.traffic ≡ before.traffic) × (after.clients ≡ before.clients)
      → StandBeside S R sees rules scripts before seen t → StandBeside S R sees rules scripts after seen t
  beside_same before after seen t same is = record {
    place = subst (λ (s : S). IsAt (sees s) after.traffic seen t) (sym same.0) (subst (λ (traffic : Traffic). IsAt (sees before.service) traffic seen t) (sym same.1) is.place);
    scripted = is.scripted;
    stand = subst (λ (clients : List (Held R)). StandEach R rules clients t) (sym same.2) is.stand;
  }

  abbrev pub KeepsRest : Parts S R → Parts S R → Type 0
  KeepsRest before after = (after.openings ≡ before.openings) × (after.notes ≡ before.notes) × (after.served ≡ before.served)

  -- a client led it on
  pub led_by_client : (number : ℕ) (note : Note) (before after : Parts S R) → MakesAmong R rules (sees before.service) before.traffic (sees after.service) after.traffic scripts number before.clients after.clients note → KeepsRest before after
      → Leads S R sees rules scripts (events.Go number) note [] before after
  led_by_client number note before after makes same seen t beside =
      let step = makes seen t beside.place beside.scripted beside.stand in
      record {
        seen_later = step.seen_later;
        later = step.later;
        made = step.made;
        forgets = λ retention told tracks. step.forgets (wanted_horizon retention told);
        beside = record { place = step.place; scripted = ap (λ (s : Setting). s.scripts) step.made.setting ∙ beside.scripted; stand = step.stand };
        same = same;
      }

  -- the same of another view of what it was
  pub standing_in : (inside before : Parts S R) → inside ≡ before → StandsSomewhere S R sees rules scripts before → StandsSomewhere S R sees rules scripts inside
  standing_in inside before same is = subst (λ (parts : Parts S R). StandsSomewhere S R sees rules scripts parts) (sym same) is

  pub if_led : {E : Type 0} (inside before after : Parts S R) (number : ℕ) → inside ≡ before → (result : Result Note E)
      → IfOk result (λ note. MakesAmong R rules (sees inside.service) inside.traffic (sees after.service) after.traffic scripts number inside.clients after.clients note) → KeepsRest inside after
      → IfOk result (λ note. Leads S R sees rules scripts (events.Go number) note [] before after)
  if_led inside before after number same (Ok note) makes keeps = subst (λ (parts : Parts S R). Leads S R sees rules scripts (events.Go number) note [] parts after) same (led_by_client number note inside after makes keeps)
  if_led inside before after number same (Err e) makes keeps = tt

  -- the openings so far want this horizon
  abbrev pub Wants : ℕ → Parts S R → Type 0
  Wants below parts = (retention : ℕ) (told : Openings) → Tracks retention parts.openings told → below ≡ wanted_horizon retention told

  -- another event did
  pub led_by_event : StayEach R rules → (event : Event) (note : Note) (items : List Served) (below : ℕ) (before after : Parts S R) → is_go event ≡ false → Wants below before → MakesBelow below (sees before.service) before.traffic (sees after.service) after.traffic event note items
      → after.clients ≡ before.clients → KeepsRest before after → Leads S R sees rules scripts event note items before after
  led_by_event stay event note items below before after other wants makes clients same seen t beside =
      let made = makes seen t beside.place in
      record {
        seen_later = made.seen_later;
        later = made.later;
        made = made.made;
        forgets = λ retention told tracks. subst (λ (horizon : ℕ). Forgets horizon note seen.state.store made.seen_later.state.store) (wants retention told tracks) made.forgets;
        beside = record {
          place = made.place;
          scripted = ap (λ (s : Setting). s.scripts) made.made.setting ∙ beside.scripted;
          stand = subst (λ (held : List (Held R)). StandEach R rules held made.later) (sym clients) (stay seen made.seen_later t made.later event note items [] before.clients made.made other beside.stand);
        };
        same = same;
      }

  -- how it stands
  pub some_among : (parts : Parts S R) → StandsSomewhere S R sees rules scripts parts → SomeAmong R rules (sees parts.service) scripts parts.traffic parts.clients
  some_among parts is = record { seen = is.seen; traced = is.traced; place = is.stands.beside.place; scripted = is.stands.beside.scripted; stand = is.stands.beside.stand }

  pub is_somewhere : (parts : Parts S R) → StandsSomewhere S R sees rules scripts parts → IsSomewhere (sees parts.service) parts.traffic
  is_somewhere parts is = (is.seen, (is.traced, is.stands.beside.place))

  pub few_events : (parts : Parts S R) → StandsSomewhere S R sees rules scripts parts → length parts.notes < 2 ^ 45 → parts.traffic.event < 2 ^ 45
  few_events parts is few = let counted = is.stands.counted in let same = is.stands.beside.place.underway.event in omega (arith, counted, same, few)

  -- what is wanted may be forgotten
  pub may_forget : (parts : Parts S R) (state : ServiceState) (wanted : ℕ) → StandsSomewhere S R sees rules scripts parts → ((seen : Seen) → sees parts.service seen → seen.state ≡ state)
      → Wants wanted parts → MayForget state wanted
  may_forget parts state wanted is honest wants =
      let same = wants is.retention (openings_of is.first parts.notes) is.stands.tracked in
      let known = known_wants is.retention is.seen.state.store.incarnation (openings_of is.first parts.notes) is.stands.known in
      subst (λ (s : ServiceState). MayForget s wanted) (honest is.seen is.stands.beside.place.seen_so) (omega (arith, same, known))

  pub if_made : {E : Type 0} (inside before after : Parts S R) (event : Event) (below : ℕ) → inside ≡ before → StayEach R rules → is_go event ≡ false → Wants below inside → (result : Result (Note × Option Served) E)
      → IfOk result (λ made. MakesBelow below (sees inside.service) inside.traffic (sees after.service) after.traffic event made.0 (option_to_list made.1)) → after.clients ≡ inside.clients → KeepsRest inside after
      → IfOk result (λ made. Leads S R sees rules scripts event made.0 (option_to_list made.1) before after)
  if_made inside before after event below same stay other wants (Ok made) makes clients keeps =
      subst (λ (parts : Parts S R). Leads S R sees rules scripts event made.0 (option_to_list made.1) parts after) same (led_by_event stay event made.0 (option_to_list made.1) below inside after other wants makes clients keeps)
  if_made inside before after event below same stay other wants (Err e) makes clients keeps = tt

  module _ (retention : ℕ) (first : Openings) (event : Event) (note : Note) (items : List Served) (before led : Parts S R) (seen : Seen) (t : Traced) (stands : Stands S R sees rules scripts retention first before seen t)
      (is_led : IsLed S R sees rules scripts event note items before led seen t) (few : length before.notes < 2 ^ 45) where
    once : (is_led.later.machine.event ≡ t.machine.event + 1) × (last_incarnation is_led.later.machine.server ≤ last_incarnation t.machine.server + 1)
    once = opens_once t.setting t.machine is_led.later.machine event note items [] is_led.made.follows

    -- an opening that is noted is the store's
    opened : (incarnation : ℕ) → note ≡ notes.Up (Some incarnation) → (is_led.later.machine.server.incarnation ≡ incarnation) × (is_led.seen_later.state.store.incarnation ≡ incarnation)
    opened incarnation is =
        let noted = opens_noted t.setting t.machine is_led.later.machine event incarnation items [] (subst (λ (n : Note). follow t.setting t.machine event n items ≡ Some (is_led.later.machine, [])) is is_led.made.follows) in
        let server = is_led.made.coupled_after.server in
        let stored = (server.opened (sym server.is_up ∙ noted.0)).0 in
        (noted.1, sym stored ∙ noted.1)

    pub led_room : NotesOpening (λ incarnation. incarnation < 2 ^ 63) note
    led_room = notes_so (λ incarnation. incarnation < 2 ^ 63) note (λ incarnation is. let same = (opened incarnation is).0 in let low = stands.low in let more = once.1 in omega (arith, same, low, more, few))

    pub led_tracked : IsTracked led.openings
    led_tracked = (retention, (openings_of first before.notes, subst (λ (o : Tracked). Tracks retention o (openings_of first before.notes)) (sym is_led.same.0) stands.tracked))

    pub led_ticks : led.openings.tick < 2 ^ 48
    led_ticks =
        let told = few_ticks first before.notes in
        let tick : (openings_of first before.notes).tick ≡ before.openings.tick = stands.tracked.tick in
        let same : led.openings.tick ≡ before.openings.tick = ap (λ (o : Tracked). o.tick) is_led.same.0 in
        let began = stands.began in
        omega (arith, told, tick, same, began, few)

    module _ (after : Parts S R) (noted : Notes note items led after) (rises : seen.state.store.incarnation ≤ is_led.seen_later.state.store.incarnation) where
      notes_are : after.notes ≡ before.notes ++ note ∷ []
      notes_are = noted.notes ∙ ap (λ (told : List Note). told ++ note ∷ []) is_led.same.1

      many : length after.notes ≡ length before.notes + 1
      many = ap (λ (told : List Note). length told) notes_are ∙ length-append before.notes (note ∷ [])

      told_now : openings_of first after.notes ≡ after_note (openings_of first before.notes) note
      told_now = ap (openings_of first) notes_are ∙ openings_more first before.notes note

      pub goes_on : GoesOn S R sees rules scripts retention first event before after seen t
      goes_on = record {
        seen_later = is_led.seen_later;
        later = is_led.later;
        note = note;
        items = items;
        made = is_led.made;
        forgets = is_led.forgets retention (openings_of first before.notes) stands.tracked;
        stands = record {
          beside = beside_same led after is_led.seen_later is_led.later noted.same is_led.beside;
          counted = once.0 ∙ ap (λ (n : ℕ). n + 1) stands.counted ∙ sym many;
          tracked = subst (λ (told : Openings). Tracks retention after.openings told) (sym told_now) (noted.tracked retention (openings_of first before.notes) (subst (λ (o : Tracked). Tracks retention o (openings_of first before.notes)) (sym is_led.same.0) stands.tracked));
          known = subst (λ (told : Openings). AreKnown told is_led.seen_later.state.store.incarnation) (sym told_now)
              (known_more (openings_of first before.notes) note seen.state.store.incarnation is_led.seen_later.state.store.incarnation rises
              (notes_so (λ one. one ≤ is_led.seen_later.state.store.incarnation) note (λ incarnation is. let same = (opened incarnation is).1 in omega (arith, same))) stands.known);
          began = stands.began;
          low = let before_low = stands.low in let more = once.1 in omega (arith, before_low, more, many);
        };
        notes = notes_are;
        served = noted.served ∙ ap (λ (all : List Served). all ++ items) is_led.same.2;
      }

  -- the event is made
  pub if_onward : {A E : Type 0} (event : Event) (note : Note) (items : List Served) (before led after : Parts S R) (result : Result A E) → Leads S R sees rules scripts event note items before led → length before.notes < 2 ^ 45
      → OnOk result (Notes note items led after) → OnOk result (MakesOne S R sees rules scripts event before after)
  if_onward event note items before led after (Ok done) leads few noted = λ retention first seen t stands.
      let is_led = leads seen t stands.beside in
      goes_on retention first event note items before led seen t stands is_led few after noted is_led.made.rises
  if_onward event note items before led after (Err e) leads few noted = tt

  -- what a cut left is so behind its note
  pub if_cut : {A E : Type 0} (event : Event) (note : Note) (items : List Served) (before led after : Parts S R) (result : Result A E) → CutsFirst event before.traffic led.traffic → OnOk result (Notes note items led after)
      → OnOk result (CutsFirst event before.traffic after.traffic)
  if_cut event note items before led after (Ok done) cuts noted = subst (λ (traffic : Traffic). CutsFirst event before.traffic traffic) (sym noted.same.1) cuts
  if_cut event note items before led after (Err e) cuts noted = tt
