-- What a step that is told adds to what its request was shown, and to the outcomes that it took.
use Rattle.std.proofs.Common.{◌≡◌, refl, sym, ap, subst, ◌∙◌, append-nil, Bool, true, false, ℕ, length, List, [], ◌∷◌, ◌++◌, map, Option, Some, None, option_to_list}
use Rattle.std.specs.Prelude.{fold, slice_get, option_and_then}
use Rattle.std.specs.Option.{option_map_or}
use Rattle.svc_values.specs.declared.call.Call.{Call}
use Rattle.svc_values.specs.declared.entry.Ltxid.{Ltxid}
use Rattle.svc_values.specs.declared.frame.Down.{Down}
use Rattle.svc_values.specs.declared.frame.Down.TheVariants as down
use Rattle.svc_values.specs.declared.frame.Up.{Up}
use Rattle.svc_values.specs.declared.frame.Up.TheVariants as up
use Rattle.client_model.specs.meaning.Account.{Account, Outcome as Heard, after_step}
use Rattle.client_model.specs.meaning.Conversation.{Done, done_at}
use Rattle.client_model.specs.declared.act.Shown.{Shown}
use Rattle.client_model.specs.declared.input.Input.TheVariants.{Waiting, Lent, Opened, TryFailed, Took, Gone}
use Rattle.client_model.specs.meaning.States.{Asking}
use Rattle.client_model.specs.meaning.Talk.{next_call, takes}
use Rattle.client_model.specs.meaning.Terms.{Terms, Talk, Phase, Greeting, Asked, Running, Replaying}
use Rattle.outage_schedule.specs.declared.item.Item.{Item}
use Rattle.outage_schedule.specs.declared.item.Item.TheVariants as item
use Rattle.outage_schedule.specs.declared.item.Served.{Served}
use Rattle.outage_schedule.specs.declared.note.AskResult.{AskResult}
use Rattle.outage_schedule.specs.declared.note.AskResult.TheVariants as told
use Rattle.run_clauses.specs.meaning.Reports.{told_outcome}
use Rattle.shown_clauses.specs.meaning.Showings.{shown_answers, is_showing, showing_of, showing_at, outcome_told, outcome_at}
use Rattle.shown_clauses.specs.meaning.Steps.{Step as StepTold}
use Rattle.world_model.specs.meaning.Clients.{Step, Doing}
use Rattle.world_model.specs.meaning.Links.{Link}
use Rattle.world_model.specs.meaning.Serving.{identifier, outcome_frame}
use Rattle.world_model.specs.Traced.{Traced}
use Rattle.world_model.specs.Words.{dones_of}
use Rattle.shown_laws.specs.ClientSteps.{now_at, after_now, ended_at, GoneBehind, GoesOn, IsOver, IsGone, TellsKind, Rested, FoundNone, Waited, WasLent, HasOpened, HasFailed, HasTaken, HasLost}
use Rattle.shown_laws.specs.ShowingsTold.{ShownBy, ByReply, ByOutcome, AreShownBy, NoneShown, OneShown}
use Rattle.shown_laws.proofs.shown.AccountRead.{told_of_asked, new_outcomes, shown_found, new_shown, step_reads}
use Rattle.shown_laws.proofs.shown.ActsShown.{reply_shown, outcome_shown, takes_hello, takes_reply, takes_repeated, takes_completed, takes_uncommitted, other_shows}
use Rattle.shown_laws.proofs.steps.TakenAs.{Taken, Greets, Answers, Repeats, Blocks, Tells, taken_as}

-- WHAT IS KNOWN -----------------------------------------------------------------------------------

-- the phases in which a call may be shown
abbrev pub may_show : Phase → Bool
may_show (Asked asking) = true
may_show (Running state) = true
may_show _ = false

-- a call that is left, the next one, behind those that were shown
pub record NextCall (calls : List Call) (shown : List Shown) (talk : Talk) : Type 0 where
  pub call : Call
  pub next : next_call talk ≡ Some call
  pub there : slice_get calls (length shown) ≡ Some call

-- what is known of a request where it stands
pub record Known (calls : List Call) (shown : List Shown) (last : Option Up) (talk : Talk) : Type 0 where
  pub left : may_show talk.phase ≡ true → NextCall calls shown talk
  pub asked : (state : Asking) → talk.phase ≡ Asked state → last ≡ Some (up.Outcome state.ltxid)

-- WHAT IS ADDED -----------------------------------------------------------------------------------

-- what is told of a step, and what the account gains
pub record Adds (a b : Account) (step : StepTold) : Type 0 where
  pub shown : List Shown
  pub shown_are : b.shown ≡ a.shown ++ shown
  pub by_them : AreShownBy shown (option_to_list (showing_at step))
  pub outcomes : List Heard
  pub outcomes_are : b.outcomes ≡ a.outcomes ++ outcomes
  pub told : map told_outcome outcomes ≡ option_to_list (outcome_at step)

-- nothing
adds_none : (a : Account) (step : StepTold) → showing_at step ≡ None → outcome_at step ≡ None → Adds a a step
adds_none a step shows tells = record {
  shown = [];
  shown_are = sym (append-nil a.shown);
  by_them = subst (λ (o : Option Served). AreShownBy [] (option_to_list o)) (sym shows) NoneShown;
  outcomes = [];
  outcomes_are = sym (append-nil a.outcomes);
  told = ap option_to_list (sym tells);
}

adds_one : (terms : Terms) (calls : List Call) (a : Account) (done : Done) (step : StepTold) → AreShownBy (new_shown calls a.shown done.act.shown) (option_to_list (showing_at step))
    → map told_outcome (new_outcomes done.input a.last) ≡ option_to_list (outcome_at step) → Adds a (after_step terms calls a done) step
adds_one terms calls a done step shows tells =
    let reads = step_reads terms calls a done in
    record { shown = new_shown calls a.shown done.act.shown; shown_are = reads.shown; by_them = shows; outcomes = new_outcomes done.input a.last; outcomes_are = reads.outcomes; told = tells }

-- and a step behind that shows nothing and takes none
pub adds_behind : (terms : Terms) (calls : List Call) (a b : Account) (done : Done) (step : StepTold) → Adds a b step → done.act.shown ≡ None → new_outcomes done.input b.last ≡ [] → Adds a (after_step terms calls b done) step
adds_behind terms calls a b done step adds none silent =
    let reads = step_reads terms calls b done in
    record {
      shown = adds.shown;
      shown_are = reads.shown ∙ (ap (λ (o : Option Shown). b.shown ++ new_shown calls b.shown o) none ∙ (append-nil b.shown ∙ adds.shown_are));
      by_them = adds.by_them;
      outcomes = adds.outcomes;
      outcomes_are = reads.outcomes ∙ (ap (λ (o : List Heard). b.outcomes ++ o) silent ∙ (append-nil b.outcomes ∙ adds.outcomes_are));
      told = adds.told;
    }

-- a step of which no reply is told
silent_shows : (step : StepTold) → step.taken ≡ None → showing_at step ≡ None
silent_shows step none = ap (option_and_then (λ one. showing_of (is_showing one) one)) none

silent_tells : (step : StepTold) → step.taken ≡ None → outcome_at step ≡ None
silent_tells step none = ap (option_and_then (λ one. outcome_told one.item)) none

adds_silent : (terms : Terms) (calls : List Call) (a : Account) (done : Done) (step : StepTold) → step.taken ≡ None → done.act.shown ≡ None → new_outcomes done.input a.last ≡ [] → Adds a (after_step terms calls a done) step
adds_silent terms calls a done step none shows silent = adds_behind terms calls a a done step (adds_none a step (silent_shows step none) (silent_tells step none)) shows silent

-- A REPLY -----------------------------------------------------------------------------------------

abbrev pub shown_item : Served → Item → Option Served
shown_item served one = showing_of (option_map_or (λ answers. true) (shown_answers one) false) served

-- what the request shows, and what outcome it took, by what it took
pub record TakesSo (calls : List Call) (shown : List Shown) (last : Option Up) (act : Option Shown) (served : Served) (one : Item) (frame : Down) (alive : Bool) : Type 0 where
  pub shows : AreShownBy (new_shown calls shown act) (option_to_list (shown_item served one))
  pub tells : map told_outcome (new_outcomes (Took frame alive) last) ≡ option_to_list (outcome_told one)

module _ (terms : Terms) (talk : Talk) (calls : List Call) (shown : List Shown) (last : Option Up) (known : Known calls shown last talk) (served : Served) (alive : Bool) (now : ℕ) where
  abbrev Act : Phase → Down → Option Shown
  Act phase frame = (takes terms talk phase frame alive now).1.shown

  shows_none : (act : Option Shown) → act ≡ None → AreShownBy (new_shown calls shown act) []
  shows_none act none = subst (λ (o : Option Shown). AreShownBy (new_shown calls shown o) []) (sym none) NoneShown

  shows_one : (act : Option Shown) (one : Shown) → act ≡ Some one → NextCall calls shown talk → ShownBy one served → AreShownBy (new_shown calls shown act) (served ∷ [])
  shows_one act one is next by =
      subst (λ (l : List Shown). AreShownBy l (served ∷ []))
      (sym (ap (new_shown calls shown) is ∙ ap (shown_found one) next.there))
      (OneShown one served [] [] by NoneShown)

  heard_asked : (state : Asking) (x : Ltxid) (committed completed : Bool) → x ≡ state.ltxid → talk.phase ≡ Asked state
      → map told_outcome (told_of_asked committed completed last) ≡ record { ltxid = x; committed = committed; completed = completed } ∷ []
  heard_asked state x committed completed same phase =
      ap (λ (o : Option Up). map told_outcome (told_of_asked committed completed o)) (known.asked state phase)
      ∙ ap (λ (y : Ltxid). record { ltxid = y; committed = committed; completed = completed } ∷ []) (sym same)

  takes_outcome : (state : Asking) (x : Ltxid) (result : AskResult) → x ≡ state.ltxid → talk.phase ≡ Asked state → NextCall calls shown talk → served.item ≡ item.Outcome x result
      → TakesSo calls shown last (Act (Asked state) (outcome_frame result)) served (item.Outcome x result) (outcome_frame result) alive
  takes_outcome state x (told.Committed true) same phase next is = record {
    shows = shows_one (Act (Asked state) (outcome_frame (told.Committed true))) (outcome_shown state.fresh) (takes_completed terms talk alive now state next.call next.next) next (ByOutcome x is refl refl);
    tells = heard_asked state x true true same phase;
  }
  takes_outcome state x (told.Committed false) same phase next is = record { shows = NoneShown; tells = heard_asked state x true false same phase }
  takes_outcome state x told.Uncommitted same phase next is = record {
    shows = shows_none (Act (Asked state) (outcome_frame told.Uncommitted)) (takes_uncommitted terms talk alive now state false);
    tells = heard_asked state x false false same phase;
  }
  takes_outcome state x (told.ServerAhead limit) same phase next is = record { shows = NoneShown; tells = refl }
  takes_outcome state x (told.ClientAhead limit) same phase next is = record { shows = NoneShown; tells = refl }
  takes_outcome state x (told.Forgotten horizon) same phase next is = record { shows = NoneShown; tells = refl }

  pub takes_so : (commits : ℕ) (phase : Phase) (one : Item) (frame : Down) → talk.phase ≡ phase → served.item ≡ one → Taken served.session commits phase one frame → TakesSo calls shown last (Act phase frame) served one frame alive
  takes_so commits _ _ _ phase is (Greets lost) = record { shows = shows_none (Act (Greeting lost) (down.Hello (identifier served.session commits))) (takes_hello terms talk alive now lost (identifier served.session commits)); tells = refl }
  takes_so commits _ _ _ phase is (Answers state call answers draws) =
      let next = known.left (ap may_show phase) in
      record {
        shows = shows_one (Act (Running state) (down.Reply answers draws (identifier served.session commits))) (reply_shown answers draws (identifier served.session commits)) (takes_reply terms talk alive now state answers draws (identifier served.session commits) next.call next.next) next (ByReply call commits is refl);
        tells = refl;
      }
  takes_so commits _ _ _ phase is (Repeats state call answers draws) =
      record { shows = shows_none (Act (Replaying state) (down.Reply answers draws (identifier served.session commits))) (takes_repeated terms talk alive now state answers draws (identifier served.session commits)); tells = refl }
  takes_so commits _ _ _ phase is (Blocks _ call) = record { shows = NoneShown; tells = refl }
  takes_so commits _ _ _ phase is (Tells state x result same) = takes_outcome state x result same phase (known.left (ap may_show phase)) is

-- BY ITS KIND -------------------------------------------------------------------------------------

module _ (t : Traced) (client place : ℕ) (doing : Doing) (step : StepTold) (terms : Terms) (calls : List Call) (a : Account) (known : Known calls a.shown a.last doing.talk) where
  -- the reply is taken, and the connection is gone behind it
  adds_gone : (link : Link) (frame : Down) (more : List Step) (b : Account) → GoneBehind t doing link frame more → Adds a b step → Adds a (fold (after_step terms calls) b (dones_of more)) step
  adds_gone link frame _ b (GoesOn opens) adds = adds
  adds_gone link frame _ b (IsOver ended over) adds = adds
  adds_gone link frame _ b (IsGone ended keeps) adds = adds_behind terms calls a b (now_at t (after_now t doing (Took frame link.is_open)) (Gone (ended_at link))).done step adds refl refl

  pub kind_adds : (acts : List Step) → TellsKind t client place doing step acts → Adds a (fold (after_step terms calls) a (dones_of acts)) step
  kind_adds _ (Rested did early bare) = adds_none a step (silent_shows step bare.taken) (silent_tells step bare.taken)
  kind_adds _ (FoundNone did frame bare) = adds_none a step (silent_shows step bare.taken) (silent_tells step bare.taken)
  kind_adds _ (Waited did begun bare) = adds_silent terms calls a (now_at t doing Waiting).done step bare.taken (other_shows t.setting.terms doing.talk Waiting t.machine.tick refl) refl
  kind_adds _ (WasLent connection link ltxid did begun there held taken session its lost) = adds_silent terms calls a (now_at t doing (Lent connection ltxid)).done step taken (other_shows t.setting.terms doing.talk (Lent connection ltxid) t.machine.tick refl) refl
  kind_adds _ (HasOpened connection did next begun bare) = adds_silent terms calls a (now_at t doing (Opened connection)).done step bare.taken refl refl
  kind_adds _ (HasFailed did begun bare) = adds_silent terms calls a (now_at t doing TryFailed).done step bare.taken (other_shows t.setting.terms doing.talk TryFailed t.machine.tick refl) refl
  kind_adds _ (HasLost connection link did has there ended bare) = adds_silent terms calls a (now_at t doing (Gone (ended_at link))).done step bare.taken refl refl
  kind_adds _ (HasTaken connection sent link frame served more did sends has there taken reply session lost gone) =
      adds_gone link frame more (after_step terms calls a (done_at t.setting.terms doing.talk (Took frame link.is_open, t.machine.tick))) gone
      (adds_one terms calls a (done_at t.setting.terms doing.talk (Took frame link.is_open, t.machine.tick)) step
      (subst (λ (o : Option Served). AreShownBy (new_shown calls a.shown (done_at t.setting.terms doing.talk (Took frame link.is_open, t.machine.tick)).act.shown) (option_to_list (option_and_then (λ one. showing_of (is_showing one) one) o))) (sym taken) so.shows)
      (so.tells ∙ sym (ap (λ (o : Option Served). option_to_list (option_and_then (λ one. outcome_told one.item) o)) taken)))
    where
      so : TakesSo calls a.shown a.last (takes t.setting.terms doing.talk doing.talk.phase frame link.is_open t.machine.tick).1.shown served served.item frame link.is_open
      so = takes_so t.setting.terms doing.talk calls a.shown a.last known served link.is_open t.machine.tick reply.commits doing.talk.phase served.item frame refl refl
          (taken_as served.session reply.commits doing.talk.phase reply.one.sent reply.sent served.item frame reply.awaited reply.same reply.is_its reply.says)
