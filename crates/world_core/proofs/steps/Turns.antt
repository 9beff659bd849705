-- Which step a client takes, by what its request wants at an event of an orderly machine.
use Rattle.std.proofs.Common.{◌≡◌, ℕ, Bool, true, false, List, Option, Some, None, refl, ap, subst, ◌∙◌}
use Rattle.std.specs.Prelude.{is_some, option_and_then}
use Rattle.svc_values.specs.declared.frame.Down.{Down}
use Rattle.request_bounds.specs.meaning.Rules.{Rules}
use Rattle.outage_schedule.specs.declared.document.Request.{Request}
use Rattle.client_model.specs.declared.act.Hold.{Hold}
use Rattle.client_model.specs.declared.act.Hold.TheVariants.{Keep, GiveBack, Drop}
use Rattle.client_model.specs.declared.input.Input.{Input}
use Rattle.client_model.specs.declared.input.Input.TheVariants.{Took}
use Rattle.client_model.specs.declared.input.Wants.TheVariants as wants
use Rattle.client_model.specs.Conversation.{is_gone_next}
use Rattle.world_model.specs.meaning.Acting.{act_at, steps, loses}
use Rattle.world_model.specs.meaning.Clients.{Doing, Client, client_at, doing_at, heard, after_hold}
use Rattle.world_model.specs.meaning.Going.{lost_at_once}
use Rattle.world_model.specs.meaning.Machines.{Machine}
use Rattle.world_model.specs.meaning.Settings.{Setting}
use Rattle.world_model.proofs.Offered.{awaits_after}
use Rattle.world_core.specs.declared.client.Course.{Course}
use Rattle.world_core.specs.declared.traffic.Traffic.{Traffic}
use Rattle.world_core.specs.Coursing.{Held, IsNow, IsClient}
use Rattle.world_core.specs.Stepping.{IsPlaced, Acts, Goes}
use Rattle.world_core.proofs.steps.Placing.{IsStepped, stepped_so, same_hold, still_going}

-- BEHIND A FRAME FROM A CONNECTION THAT HAS ENDED -------------------------------------------------

module _ (R : Type 0) (rules : R → Rules) (script : List Request) (setting : Setting) (number : ℕ) (frame : Down) (many : ℕ) (traffic : Traffic) (held : Held R) (m : Machine) (client : Client) (doing : Doing) (old : Traffic) (was : Held R)
    (at : IsPlaced R rules script number wants.Frame false old was setting m client doing)
    (acts : Acts R rules setting m number (record client { now = Some doing }) doing true (Took frame false) many traffic held) where
  abbrev input : Input
  input = Took frame false

  abbrev hold_then : Hold
  hold_then = (act_at setting m doing input).hold

  abbrev doing_then : Doing
  doing_then = heard setting.terms m.event m.tick doing input

  abbrev after : Machine
  after = steps setting m number doing true input

  client_then : Client
  client_then = after_hold setting number client doing_then hold_then

  stepped : IsStepped m.clients number after.clients (after_hold setting number client doing_then hold_then)
  stepped = stepped_so setting m.clients number client doing_then hold_then at.there

  stands : IsClient R rules setting number m.tick (is_gone_next input hold_then) held (after_hold setting number client doing_then hold_then)
  stands = subst (λ (c : Client). IsClient R rules setting number m.tick (is_gone_next input hold_then) held c) (same_hold setting number client (Some doing) doing_then hold_then) acts.stands

  course_by : (course : Option Course) (hold : Hold) → IsNow setting.terms held.driver.talk course (after_hold setting number client doing_then hold).now → is_some course ≡ true → hold ≡ Keep
  course_by None hold now busy = absurd (let none : ⊥ = cc in none)
  course_by (Some course) Keep now busy = refl
  course_by (Some course) GiveBack now busy = absurd now
  course_by (Some course) Drop now busy = absurd now

  -- a request is in course still: it goes on, and its loss comes next
  keeps : is_some held.course ≡ true → hold_then ≡ Keep
  keeps busy = course_by held.course hold_then stands.now busy

  pub placed_then : is_some held.course ≡ true → IsPlaced R rules script number wants.Frame true traffic held setting after (record client { now = Some doing_then }) doing_then
  placed_then busy = record {
    scripted = at.scripted;
    there = subst (λ (h : Hold). client_at after.clients number ≡ Some (after_hold setting number client doing_then h)) (keeps busy) stepped.placed;
    underway = acts.underway;
    stands = subst (λ (h : Hold). IsClient R rules setting number m.tick (is_gone_next input h) held (after_hold setting number client doing_then h)) (keeps busy) stands;
    wants = awaits_after setting.terms doing.talk frame false m.tick at.wants (keeps busy);
  }

  pub busy_then : is_some held.course ≡ true → (ended : Option ℕ) → lost_at_once setting after number ended (doing_at after.clients number) ≡ loses setting after number doing_then ended
  busy_then busy ended = ap (λ (found : Option Client). lost_at_once setting after number ended (option_and_then (λ (c : Client). c.now) found)) (placed_then busy).there

  -- none is: it is over
  over_by : (course : Option Course) (hold : Hold) → IsNow setting.terms held.driver.talk course (after_hold setting number client doing_then hold).now → is_some course ≡ false → (after_hold setting number client doing_then hold).now ≡ None
  over_by None Keep now idle = absurd now
  over_by None GiveBack now idle = refl
  over_by None Drop now idle = refl
  over_by (Some course) hold now idle = absurd (let none : ⊥ = cc in none)

  not_next : (course : Option Course) (hold : Hold) → IsNow setting.terms held.driver.talk course (after_hold setting number client doing_then hold).now → is_some course ≡ false → is_gone_next input hold ≡ false
  not_next None Keep now idle = absurd now
  not_next None GiveBack now idle = refl
  not_next None Drop now idle = refl
  not_next (Some course) hold now idle = absurd (let none : ⊥ = cc in none)

  pub over_then : is_some held.course ≡ false → (ended : Option ℕ) → lost_at_once setting after number ended (doing_at after.clients number) ≡ after
  over_then idle ended =
      ap (λ (found : Option Client). lost_at_once setting after number ended (option_and_then (λ (c : Client). c.now) found)) stepped.placed
      ∙ ap (λ (now : Option Doing). lost_at_once setting after number ended now) (over_by held.course hold_then stands.now idle)

  pub goes_over : is_some held.course ≡ false → (next : Option Machine) → next ≡ Some after → Goes R rules setting m number next traffic held
  goes_over idle next follows = record {
    after = after;
    client = after_hold setting number client doing_then hold_then;
    followed = follows;
    underway = acts.underway;
    placed = stepped.placed;
    others = stepped.others;
    same = (refl, refl, refl);
    stands = subst (λ (b : Bool). IsClient R rules setting number m.tick b held (after_hold setting number client doing_then hold_then)) (not_next held.course hold_then stands.now idle) stands;
    going = still_going setting number client doing_then hold_then (λ kept. absurd (never kept));
  }
    where
      never : hold_then ≡ Keep → ⊥
      never kept =
          let over : (after_hold setting number client doing_then Keep).now ≡ None = subst (λ (h : Hold). (after_hold setting number client doing_then h).now ≡ None) kept (over_by held.course hold_then stands.now idle) in
          let none : ⊥ = cc in none

  -- and behind the loss
  pub goes_lost : (later : Traffic) (new : Held R) (next other : Option Machine) → Goes R rules setting after number next later new → other ≡ next → Goes R rules setting m number other later new
  goes_lost later new next other goes same = record {
    after = goes.after;
    client = goes.client;
    followed = same ∙ goes.followed;
    underway = goes.underway;
    placed = goes.placed;
    others = λ one apart. goes.others one apart ∙ stepped.others one apart;
    same = goes.same;
    stands = goes.stands;
    going = goes.going;
  }
