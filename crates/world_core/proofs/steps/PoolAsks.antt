-- A client asks the pool: what stands for the machine then, and what it goes on to by the answer.
use Rattle.std.proofs.Common.{◌≡◌, ℕ, Bool, false, List, Option, Some, refl, sym, ap, ◌∙◌}
use Rattle.std.specs.Prelude.{option_and_then}
use Rattle.svc_values.specs.declared.entry.Ltxid.{Ltxid}
use Rattle.pool_core.specs.declared.answers.Take.{Take}
use Rattle.pool_core.specs.declared.answers.Take.TheVariants as take
use Rattle.pool_core.specs.meaning.Slots.{take_answer, after_take}
use Rattle.request_bounds.specs.meaning.Rules.{Rules}
use Rattle.outage_schedule.specs.declared.document.Request.{Request}
use Rattle.outage_schedule.specs.declared.note.GoNote.{GoNote}
use Rattle.outage_schedule.specs.declared.note.GoNote.TheVariants as go
use Rattle.client_model.specs.declared.input.Input.TheVariants.{Waiting}
use Rattle.client_model.specs.declared.input.Wants.TheVariants as wants
use Rattle.world_model.specs.meaning.Acting.{steps}
use Rattle.world_model.specs.meaning.Clients.{Doing, Client}
use Rattle.world_model.specs.meaning.Going.{noted, tries_while, lends, takes_slot, goes_by}
use Rattle.world_model.specs.meaning.Links.{Link}
use Rattle.world_model.specs.meaning.Machines.{Machine}
use Rattle.world_model.specs.meaning.Settings.{Setting}
use Rattle.world_model.specs.Traced.{Traced}
use Rattle.world_model.proofs.Offered.{IsLent, is_lent, open_lent}
use Rattle.world_core.specs.declared.traffic.Traffic.{Traffic}
use Rattle.world_core.specs.Coursing.{Held}
use Rattle.world_core.specs.Stepping.{at_next, IsPlaced, SomePlaced, SomeTrying, IsOffered, SomeOffered, IsTurn, Follows, Goes}
use Rattle.world_core.specs.Underway.{IsUnderway}

-- the machine behind the question
abbrev pub asked : Traced → ℕ → Machine
asked t number = record (at_next t) { pool = after_take t.machine.pool number }

abbrev pub AsksSo : ℕ → Traffic → Take → Traffic → Type 0
AsksSo number traffic one later = (m : Machine) → IsUnderway traffic m → (one ≡ take_answer m.pool number) × IsUnderway later (record m { pool = after_take m.pool number })

module _ (R : Type 0) (rules : R → Rules) (script : List Request) (number : ℕ) (traffic later : Traffic) (held : Held R) (one : Take) (gives : AsksSo number traffic one later) (t : Traced) (client : Client) (doing : Doing)
    (turn : IsTurn R rules script number wants.Slot traffic held t client doing) where
  told : (one ≡ take_answer t.machine.pool number) × IsUnderway later (asked t number)
  told = gives (at_next t) turn.placed.underway

  placed : IsPlaced R rules script number wants.Slot false later held t.setting (asked t number) client doing
  placed = record { scripted = turn.placed.scripted; there = turn.placed.there; underway = told.1; stands = turn.placed.stands; wants = turn.placed.wants }

  pub some_asked : SomePlaced R rules script number wants.Slot false later held
  some_asked = record { setting = t.setting; machine = asked t number; client = client; doing = doing; placed = placed }

  -- by its answer
  goes_asked : (answer : Take) (note : GoNote) (next : Option Machine) (after : Traffic) (new : Held R) → one ≡ answer → takes_slot t.setting (asked t number) number note doing answer ≡ next → Goes R rules t.setting (asked t number) number next after new
      → Goes R rules t.setting (at_next t) number (goes_by t.setting (at_next t) number note doing wants.Slot) after new
  goes_asked answer note next after new is follows goes = record {
    after = goes.after;
    client = goes.client;
    followed = ap (λ (a : Take). takes_slot t.setting (asked t number) number note doing a) (sym told.0 ∙ is) ∙ (follows ∙ goes.followed);
    underway = goes.underway;
    placed = goes.placed;
    others = goes.others;
    same = goes.same;
    stands = goes.stands;
    going = goes.going;
  }

  pub goes_waiting : (note : GoNote) (after : Traffic) (new : Held R) → one ≡ take.Waiting → Follows R rules script number wants.Slot false later held (λ setting m doing. noted note go.Wait (steps setting m number doing false Waiting)) after new
      → Goes R rules t.setting (at_next t) number (goes_by t.setting (at_next t) number note doing wants.Slot) after new
  goes_waiting note after new is follows =
      goes_asked take.Waiting note (noted note go.Wait (steps t.setting (asked t number) number doing false Waiting)) after new is refl (follows t.setting (asked t number) client doing placed)

  -- a connection is lent
  module _ (connection : ℕ) (is : one ≡ take.Lent connection) where
    lent : IsLent t connection (after_take t.machine.pool number)
    lent = is_lent t turn.orderly number connection (sym told.0 ∙ is)

    offered : IsOffered (asked t number) connection lent.link lent.ltxid
    offered = record { his = record { found = lent.there; lent = lent.lent; opened = lent.opened; busy = lent.busy }; is_open = lent.is_open; has = lent.held }

    pub some_offered : SomeOffered R rules script number connection later held
    some_offered = record { some = record { setting = t.setting; machine = asked t number; client = client; doing = doing; placed = placed }; link = lent.link; ltxid = lent.ltxid; offered = offered }

    abbrev pub TakesLent : GoNote → Traffic → Held R → Type 0
    TakesLent note after new = (setting : Setting) (m : Machine) (client : Client) (doing : Doing) (link : Link) (ltxid : Ltxid) → IsPlaced R rules script number wants.Slot false later held setting m client doing → IsOffered m connection link ltxid
        → Goes R rules setting m number (lends setting m number note doing connection (Some ltxid)) after new

    pub goes_lent : (note : GoNote) (after : Traffic) (new : Held R) → TakesLent note after new → Goes R rules t.setting (at_next t) number (goes_by t.setting (at_next t) number note doing wants.Slot) after new
    goes_lent note after new takes =
        goes_asked (take.Lent connection) note (lends t.setting (asked t number) number note doing connection (Some lent.ltxid)) after new is
        (ap (λ (found : Option Link). lends t.setting (asked t number) number note doing connection (option_and_then (λ (l : Link). l.held) found)) lent.there
        ∙ ap (λ (has : Option Ltxid). lends t.setting (asked t number) number note doing connection has) lent.held)
        (takes t.setting (asked t number) client doing lent.link lent.ltxid placed offered)

  -- there is leave to open one
  pub some_opening : one ≡ take.Open → SomeTrying R rules script number later held
  some_opening is = record {
    wanted = wants.Slot;
    some = record { setting = t.setting; machine = asked t number; client = client; doing = doing; placed = placed };
    tries = refl;
    lent = open_lent t.machine.pool number (sym told.0 ∙ is);
  }

  pub goes_opening : (is_up : Bool) (note : GoNote) (after : Traffic) (new : Held R) → one ≡ take.Open → t.machine.server.is_up ≡ is_up
      → Follows R rules script number wants.Slot false later held (λ setting m doing. tries_while setting m number note doing is_up) after new
      → Goes R rules t.setting (at_next t) number (goes_by t.setting (at_next t) number note doing wants.Slot) after new
  goes_opening is_up note after new is up follows =
      goes_asked take.Open note (tries_while t.setting (asked t number) number note doing is_up) after new is (ap (λ (b : Bool). tries_while t.setting (asked t number) number note doing b) up)
      (follows t.setting (asked t number) client doing placed)
