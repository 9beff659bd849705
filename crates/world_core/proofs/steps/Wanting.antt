-- What the request of a client wants at an event of an orderly machine.
use Rattle.std.proofs.Common.{◌≡◌, ℕ, ◌+◌, Bool, true, false, List, Option, Some, None, refl, sym, ap, subst, ◌∙◌}
use Rattle.std.specs.Prelude.{option_map, option_and_then, if◌then◌else◌}
use Rattle.std.specs.Option.{option_or}
use Rattle.request_bounds.specs.meaning.Rules.{Rules}
use Rattle.outage_schedule.specs.declared.document.Request.{Request}
use Rattle.outage_schedule.specs.declared.note.GoNote.{GoNote}
use Rattle.outage_schedule.specs.declared.note.GoNote.TheVariants as go
use Rattle.client_model.specs.declared.input.Wants.{Wants}
use Rattle.client_model.specs.declared.input.Wants.TheVariants as wants
use Rattle.client_model.specs.meaning.Talk.{wants_of, wants_in}
use Rattle.client_model.specs.meaning.Terms.{Terms, Talk, Phase, Idle, Unbegun, Queued, Seeking, Greeting, Asked, Running, Replaying}
use Rattle.driver_core.specs.Driving.{ArePast}
use Rattle.world_model.specs.meaning.Clients.{Doing, Client, begun, doing_of, script_at}
use Rattle.world_model.specs.meaning.Going.{tries_while, goes_by, goes, follow_go}
use Rattle.world_model.specs.meaning.Machines.{Machine}
use Rattle.world_model.specs.meaning.Settings.{Setting}
use Rattle.world_model.specs.Traced.{Traced}
use Rattle.world_model.proofs.Offered.{tries_lent}
use Rattle.world_core.specs.declared.client.Course.{Course}
use Rattle.world_core.specs.declared.traffic.Traffic.{Traffic}
use Rattle.world_core.specs.Coursing.{Held, terms_in, IsNow, IsClient, Begins}
use Rattle.world_core.specs.Stepping.{is_going, IsGoing, at_next, IsPlaced, SomeTrying, IsStanding, IsTurn, SomeTurn, Goes}
use Rattle.world_core.proofs.steps.Looking.{some_doing, in_course}
use Rattle.world_core.proofs.steps.Placing.{wants_are, ticks_past}

-- BEGUN AND NOT OVER ------------------------------------------------------------------------------

abbrev WantsNone : Wants → Type 0
WantsNone wanted = (wanted ≡ wants.Idle → ⊥) × (wanted ≡ wants.Request → ⊥)

either_try : (long : Bool) → WantsNone (if long then wants.Try else wants.Early)
either_try true = ((λ same. let none : ⊥ = cc in none), (λ same. let none : ⊥ = cc in none))
either_try false = ((λ same. let none : ⊥ = cc in none), (λ same. let none : ⊥ = cc in none))

going_wants : (terms : Terms) (talk : Talk) (phase : Phase) (tick : ℕ) → is_going phase ≡ true → WantsNone (wants_in terms talk phase tick)
going_wants terms talk Idle tick going = absurd (let none : ⊥ = cc in none)
going_wants terms talk Unbegun tick going = absurd (let none : ⊥ = cc in none)
going_wants terms talk (Queued from) tick going = ((λ same. let none : ⊥ = cc in none), (λ same. let none : ⊥ = cc in none))
going_wants terms talk (Seeking lost) tick going = either_try _
going_wants terms talk (Greeting lost) tick going = ((λ same. let none : ⊥ = cc in none), (λ same. let none : ⊥ = cc in none))
going_wants terms talk (Asked asking) tick going = ((λ same. let none : ⊥ = cc in none), (λ same. let none : ⊥ = cc in none))
going_wants terms talk (Running state) tick going = ((λ same. let none : ⊥ = cc in none), (λ same. let none : ⊥ = cc in none))
going_wants terms talk (Replaying state) tick going = ((λ same. let none : ⊥ = cc in none), (λ same. let none : ⊥ = cc in none))

is_begun : (terms : Terms) (event tick : ℕ) (doing : Doing) (now : Option Doing) (next : Option Request) → option_or now (option_map (begun terms event tick) next) ≡ Some doing → IsGoing now → is_going doing.talk.phase ≡ true
is_begun terms event tick doing (Some one) next does going = subst (λ (d : Doing). is_going d.talk.phase ≡ true) (some_doing one doing does) going
is_begun terms event tick doing None None does going = absurd (let none : ⊥ = cc in none)
is_begun terms event tick doing None (Some request) does going = subst (λ (d : Doing). is_going d.talk.phase ≡ true) (some_doing (begun terms event tick request) doing does) refl

-- BEGINNING ---------------------------------------------------------------------------------------

-- no request is in course where none is held
rests_by : (terms : Terms) (talk : Talk) (course : Option Course) (now : Option Doing) → IsNow terms talk course now → course ≡ None → talk.phase ≡ Idle
rests_by terms talk None None stands none = stands
rests_by terms talk None (Some doing) stands none = absurd stands
rests_by terms talk (Some course) now stands none = absurd (let nothing : ⊥ = cc in nothing)

module _ (R : Type 0) (rules : R → Rules) (script : List Request) (number : ℕ) (traffic : Traffic) (old held : Held R) (t : Traced) (client : Client) (standing : IsStanding R rules script number traffic old t client) where
  pub rests : old.course ≡ None → old.driver.talk.phase ≡ Idle
  rests none = rests_by t.setting.terms old.driver.talk old.course client.now standing.stands.now none

  abbrev pub BeginsSo : Bool → Type 0
  BeginsSo there = (setting : Setting) (number event : ℕ) (client : Client) → script ≡ script_at setting number → IsClient R rules setting number traffic.tick false old client → Begins R rules setting number traffic.tick client (doing_of setting.terms event traffic.tick client) there held

  abbrev wished : Option Doing
  wished = doing_of t.setting.terms (t.machine.event + 1) t.machine.tick client

  begun_at : (there : Bool) → BeginsSo there → Begins R rules t.setting number t.machine.tick client wished there held
  begun_at there begins =
      subst (λ (tick : ℕ). Begins R rules t.setting number tick client (doing_of t.setting.terms (t.machine.event + 1) tick client) there held) (sym standing.underway.tick)
      (begins t.setting number (t.machine.event + 1) client standing.scripted (subst (λ (tick : ℕ). IsClient R rules t.setting number tick false old client) standing.underway.tick standing.stands))

  -- the client is finished
  idle_by : (d : Option Doing) → wished ≡ d → Begins R rules t.setting number t.machine.tick client d false held → Goes R rules t.setting (at_next t) number (follow_go t.setting (at_next t) number go.Idle) traffic held
  idle_by None is begins = record {
    after = at_next t;
    client = client;
    followed =
        ap (λ (found : Option Client). option_and_then (λ (c : Client). goes t.setting (at_next t) number go.Idle (doing_of t.setting.terms (t.machine.event + 1) t.machine.tick c)) found) standing.there
        ∙ ap (λ (d : Option Doing). goes t.setting (at_next t) number go.Idle d) is;
    underway = standing.underway;
    placed = standing.there;
    others = λ other apart. refl;
    same = (refl, refl, refl);
    stands = begins.1;
    going = standing.going;
  }
  idle_by (Some doing) is begins = absurd (let clash : false ≡ true = begins.0 in let none : ⊥ = cc in none)

  pub goes_idle : (there : Bool) → there ≡ false → BeginsSo there → Goes R rules t.setting (at_next t) number (follow_go t.setting (at_next t) number go.Idle) traffic held
  goes_idle there is begins = idle_by wished refl (subst (λ (b : Bool). Begins R rules t.setting number t.machine.tick client wished b held) is (begun_at there begins))

  -- a request is in course
  pub record Turns : Type 0 where
    pub doing : Doing
    pub does : wished ≡ Some doing
    pub stands : IsClient R rules t.setting number t.machine.tick false held (record client { now = Some doing })

  turned : (d : Option Doing) → wished ≡ d → Begins R rules t.setting number t.machine.tick client d true held → Turns
  turned None is begins = absurd (let clash : true ≡ false = begins.0 in let none : ⊥ = cc in none)
  turned (Some doing) is begins = record { doing = doing; does = is; stands = begins.1 }

  pub turns : (there : Bool) → there ≡ true → BeginsSo there → Turns
  turns there is begins = turned wished refl (subst (λ (b : Bool). Begins R rules t.setting number t.machine.tick client wished b held) is (begun_at there begins))

  -- AT ITS TURN -----------------------------------------------------------------------------------

  module _ (mine : Turns) where
    abbrev wish : Wants
    wish = wants_of t.setting.terms mine.doing.talk t.machine.tick

    placed_as : (wanted : Wants) → wish ≡ wanted → IsPlaced R rules script number wanted false traffic held t.setting (at_next t) client mine.doing
    placed_as wanted is = record { scripted = standing.scripted; there = standing.there; underway = standing.underway; stands = mine.stands; wants = is }

    pub past_at : ArePast held.driver.talk traffic.tick
    past_at = ticks_past R rules script number wish false traffic held t.setting (at_next t) client mine.doing (placed_as wish refl)

    module _ (told wanted : Wants) (tells : told ≡ wants_of (terms_in R rules held) held.driver.talk traffic.tick) (is : told ≡ wanted) where
      wished_so : wish ≡ wanted
      wished_so = sym (wants_are R rules script number wish false traffic held t.setting (at_next t) client mine.doing (placed_as wish refl)) ∙ (sym tells ∙ is)

      pub turn_as : IsTurn R rules script number wanted traffic held t client mine.doing
      turn_as = record { orderly = standing.orderly; does = mine.does; placed = placed_as wanted wished_so }

      pub some_turn : SomeTurn R rules script number wanted traffic held
      some_turn = record { traced = t; client = client; doing = mine.doing; turn = turn_as }

      follow_as : (note : GoNote) → follow_go t.setting (at_next t) number note ≡ goes_by t.setting (at_next t) number note mine.doing wanted
      follow_as note =
          ap (λ (found : Option Client). option_and_then (λ (c : Client). goes t.setting (at_next t) number note (doing_of t.setting.terms (t.machine.event + 1) t.machine.tick c)) found) standing.there
          ∙ (ap (λ (d : Option Doing). goes t.setting (at_next t) number note d) mine.does ∙ ap (λ (w : Wants). goes_by t.setting (at_next t) number note mine.doing w) wished_so)

      pub goes_so : (note : GoNote) (next : Option Machine) (after : Traffic) (new : Held R) → goes_by t.setting (at_next t) number note mine.doing wanted ≡ next → Goes R rules t.setting (at_next t) number next after new
          → Goes R rules t.setting (at_next t) number (follow_go t.setting (at_next t) number note) after new
      goes_so note next after new by went = record {
        after = went.after;
        client = went.client;
        followed = follow_as note ∙ (by ∙ went.followed);
        underway = went.underway;
        placed = went.placed;
        others = went.others;
        same = went.same;
        stands = went.stands;
        going = went.going;
      }

      -- it has begun, and is not over
      pub never_none : WantsNone wanted
      never_none = subst (λ (w : Wants). WantsNone w) wished_so (going_wants t.setting.terms mine.doing.talk mine.doing.talk.phase t.machine.tick (is_begun t.setting.terms (t.machine.event + 1) t.machine.tick mine.doing client.now client.next mine.does standing.going))

    pub some_trying : (told : Wants) → told ≡ wants_of (terms_in R rules held) held.driver.talk traffic.tick → told ≡ wants.Try → SomeTrying R rules script number traffic held
    some_trying told tells is =
        let turn = turn_as told wants.Try tells is in
        record {
          wanted = wants.Try;
          some = record { setting = t.setting; machine = at_next t; client = client; doing = mine.doing; placed = turn.placed };
          tries = refl;
          lent = tries_lent t standing.orderly number client mine.doing standing.there mine.does turn.placed.wants;
        }

    pub goes_try : (told : Wants) (is_up : Bool) (note : GoNote) (after : Traffic) (new : Held R) → told ≡ wants_of (terms_in R rules held) held.driver.talk traffic.tick → told ≡ wants.Try → t.machine.server.is_up ≡ is_up
        → Goes R rules t.setting (at_next t) number (tries_while t.setting (at_next t) number note mine.doing is_up) after new → Goes R rules t.setting (at_next t) number (follow_go t.setting (at_next t) number note) after new
    goes_try told is_up note after new tells is up went =
        goes_so told wants.Try tells is note (tries_while t.setting (at_next t) number note mine.doing is_up) after new (ap (λ (b : Bool). tries_while t.setting (at_next t) number note mine.doing b) up) went

    pub goes_early : (told : Wants) → told ≡ wants_of (terms_in R rules held) held.driver.talk traffic.tick → told ≡ wants.Early → Goes R rules t.setting (at_next t) number (follow_go t.setting (at_next t) number go.Early) traffic held
    goes_early told tells is =
        let now = in_course t.setting.terms (t.machine.event + 1) t.machine.tick mine.doing client.now client.next wants.Early mine.does (wished_so told wants.Early tells is) (λ same. let none : ⊥ = cc in none) in
        record {
          after = at_next t;
          client = client;
          followed = follow_as told wants.Early tells is go.Early;
          underway = standing.underway;
          placed = standing.there;
          others = λ other apart. refl;
          same = (refl, refl, refl);
          stands = subst (λ (one : Option Doing). IsClient R rules t.setting number t.machine.tick false held (record client { now = one })) (sym now) mine.stands;
          going = standing.going;
        }
