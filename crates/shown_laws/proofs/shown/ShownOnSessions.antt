-- The replies that showed the calls of a request are of sessions that it reached.
use Rattle.std.proofs.Common.{◌≡◌, refl, sym, ap, subst, ◌∙◌, append-nil, Bool, true, false, ℕ, List, [], ◌∷◌, ◌++◌, Option, Some, None, option_to_list}
use Rattle.std.specs.Prelude.{fold, option_and_then}
use Rattle.std.specs.List.{list_all, list_any}
use Rattle.std.specs.Option.{option_map_or}
use Rattle.std.proofs.lemmas.Bool.{and_from}
use Rattle.svc_values.specs.declared.answer.Answer.{Answer}
use Rattle.svc_values.specs.declared.call.Call.{Call}
use Rattle.svc_values.specs.declared.draw.Draw.{Draw}
use Rattle.svc_values.specs.declared.entry.Ltxid.{Ltxid}
use Rattle.svc_values.specs.declared.entry.SessionId.{SessionId}
use Rattle.svc_values.specs.declared.frame.Down.{Down}
use Rattle.svc_values.specs.declared.frame.Down.TheVariants as down
use Rattle.svc_values.specs.meaning.Identifiers.{same_session, session_of}
use Rattle.svc_values.specs.SameLaws.{same_ltxid_decides}
use Rattle.client_model.proofs.Offered.{Fits}
use Rattle.client_model.specs.meaning.Account.{Account, after_step, account_of}
use Rattle.client_model.specs.meaning.Terms.{Terms, Phase, Asked, Running, Replaying}
use Rattle.client_model.specs.declared.input.Input.{Input}
use Rattle.client_model.specs.declared.input.Input.TheVariants.{Waiting, Lent, Opened, TryFailed, Took, Gone}
use Rattle.outage_schedule.specs.declared.item.Item.{Item}
use Rattle.outage_schedule.specs.declared.item.Served.{Served}
use Rattle.outage_schedule.specs.declared.note.AskResult.{AskResult}
use Rattle.outage_schedule.specs.declared.note.AskResult.TheVariants as told
use Rattle.shown_clauses.specs.meaning.Showings.{is_showing, showing_of, showing_at}
use Rattle.shown_clauses.specs.meaning.Steps.{Step as StepTold}
use Rattle.world_model.specs.records.Basic.{is_named}
use Rattle.world_model.specs.meaning.Clients.{Step, Doing, Client, client_at}
use Rattle.world_model.specs.records.Conversing.{IsTalking}
use Rattle.world_model.specs.records.Hold.{goes_by, same_held, is_by_held}
use Rattle.invariant_laws.specs.Invariant.{Invariant}
use Rattle.world_model.specs.meaning.Links.{Link, link_at}
use Rattle.world_model.specs.meaning.Serving.{identifier, outcome_frame}
use Rattle.world_model.specs.Traced.{Traced}
use Rattle.world_model.specs.Words.{dones_of}
use Rattle.shown_laws.specs.ClientSteps.{now_at, after_now, ended_at, GoneBehind, GoesOn, IsOver, IsGone, TellsKind, Rested, FoundNone, Waited, WasLent, HasOpened, HasFailed, HasTaken, HasLost}
use Rattle.shown_laws.proofs.shown.ActsShown.{takes_none}
use Rattle.shown_laws.proofs.steps.BeforeSession.{talks_at}
use Rattle.shown_laws.proofs.events.CourseNow.{course_holds}
use Rattle.shown_laws.proofs.links.LostTold.{held_session}
use Rattle.shown_laws.proofs.shown.OwnSessions.{Among, Reaches, ReplyReached, done_reaches}
use Rattle.shown_laws.proofs.shown.RequestsAdd.{fits}
use Rattle.shown_laws.proofs.links.SessionsApart.{at_link}
use Rattle.shown_laws.proofs.steps.SessionsReached.{sessions_reached}
use Rattle.shown_laws.proofs.shown.StepsAdd.{shown_item}
use Rattle.shown_laws.proofs.steps.TakenAs.{Taken, Greets, Answers, Repeats, Blocks, Tells, taken_as}
use Rattle.shown_laws.proofs.steps.TookTold.{by_taken}

-- BY WHICH A REQUEST GOES -------------------------------------------------------------------------

goes_reached : (terms : Terms) (calls : List Call) (a : Account) (gone : Bool) (phase : Phase) (sessions : List SessionId) (x : Ltxid) → Fits terms calls a gone phase → Reaches a sessions → goes_by phase ≡ Some x → Among (session_of x) sessions
goes_reached terms calls a gone (Asked state) sessions x fits is goes = is.session x (fits.1.fresh ∙ goes)
goes_reached terms calls a gone (Running state) sessions x fits is goes = is.held x (fits.0.held ∙ goes)
goes_reached terms calls a gone (Replaying state) sessions x fits is goes = is.held x (fits.0.held ∙ goes)
goes_reached terms calls a gone _ sessions x fits is goes = absurd (let none : ⊥ = cc in none)

held_by : (x : Ltxid) (held : Option Ltxid) → same_held (Some x) held ≡ true → held ≡ Some x
held_by x None is = absurd (let none : ⊥ = cc in none)
held_by x (Some y) is = ap Some (sym ((same_ltxid_decides x y).0 is))

-- A STEP ------------------------------------------------------------------------------------------

module _ (t : Traced) (inv : Invariant t) (client : ℕ) (own : Client) (here : client_at t.machine.clients client ≡ Some own) (doing : Doing) (now : own.now ≡ Some doing) (reaches : Reaches (account_of t.setting.terms doing.request.calls (dones_of doing.steps)) (sessions_reached doing.steps)) where
  -- what it takes on its connection, while it goes by an identifier, is of a session that it
  -- reached
  pub reply_own : (connection : ℕ) (link : Link) (x : Ltxid) (session : SessionId) → doing.connection ≡ Some connection → link_at t.machine.links connection ≡ Some link → link.session ≡ Some session → goes_by doing.talk.phase ≡ Some x
      → Among session (sessions_reached doing.steps)
  reply_own connection link x session has there its goes =
      subst (λ (s : SessionId). Among s (sessions_reached doing.steps)) same
      (goes_reached t.setting.terms doing.request.calls (account_of t.setting.terms doing.request.calls (dones_of doing.steps)) known.0 doing.talk.phase (sessions_reached doing.steps) x known.1 reaches goes)
    where
      known : (gone : Bool) × Fits t.setting.terms doing.request.calls (account_of t.setting.terms doing.request.calls (dones_of doing.steps)) gone doing.talk.phase
      known = fits t.setting.terms false doing (subst (IsTalking t.setting.terms) now (talks_at t.setting.terms t.machine.clients client own inv.orderly.script.talks here).1)

      goes_held : same_held (goes_by doing.talk.phase) link.held ≡ true
      goes_held =
          subst (λ (found : Option Link). option_map_or (λ one. same_held (goes_by doing.talk.phase) one.held) found false ≡ true) there
          (subst (λ (found : Option ℕ). option_map_or (λ number. option_map_or (λ one. same_held (goes_by doing.talk.phase) one.held) (link_at t.machine.links number) false) found true ≡ true) has
          (course_holds (is_by_held t) t client own doing inv.orderly.hold.by_held here now))

      named : link.session ≡ Some (session_of x)
      named = held_session link x (at_link is_named t.machine.links connection link inv.orderly.basic.named there)
          (held_by x link.held (subst (λ (found : Option Ltxid). same_held found link.held ≡ true) goes goes_held))

      same : session_of x ≡ session
      same = let both : Some (session_of x) ≡ Some session = sym named ∙ its in cc

-- OTHER INPUTS ------------------------------------------------------------------------------------

pub other_reached : (sessions : List SessionId) (input : Input) → takes_none input ≡ true → ReplyReached sessions input
other_reached sessions input none answers draws x alive is = let no : takes_none (Took (down.Reply answers draws x) alive) ≡ true = ap takes_none (sym is) ∙ none in absurd (let never : ⊥ = cc in never)

same_reply : (answers other : List Answer) (draws kept : List Draw) (x y : Ltxid) (alive still : Bool) → Took (down.Reply answers draws x) alive ≡ Took (down.Reply other kept y) still → x ≡ y
same_reply answers other draws kept x y alive still is = cc

-- it is of one of these
abbrev pub is_own : List SessionId → Served → Bool
is_own sessions one = list_any (same_session one.session) sessions

-- what is taken in these phases
module _ (sessions : List SessionId) (served : Served) (commits : ℕ) (alive : Bool) where
  abbrev OwnIn : Phase → Type 0
  OwnIn phase = (x : Ltxid) → goes_by phase ≡ Some x → Among served.session sessions

  outcome_replies : (result : AskResult) → ReplyReached sessions (Took (outcome_frame result) alive)
  outcome_replies (told.Committed completed) answers draws x still is = absurd (let none : ⊥ = cc in none)
  outcome_replies told.Uncommitted answers draws x still is = absurd (let none : ⊥ = cc in none)
  outcome_replies (told.ServerAhead next) answers draws x still is = absurd (let none : ⊥ = cc in none)
  outcome_replies (told.ClientAhead next) answers draws x still is = absurd (let none : ⊥ = cc in none)
  outcome_replies (told.Forgotten horizon) answers draws x still is = absurd (let none : ⊥ = cc in none)

  taken_replies : (phase : Phase) (one : Item) (frame : Down) → Taken served.session commits phase one frame → OwnIn phase → ReplyReached sessions (Took frame alive)
  taken_replies _ _ _ (Greets lost) own answers draws x still is = absurd (let none : ⊥ = cc in none)
  taken_replies _ _ _ (Answers state call others kept) own answers draws x still is =
      subst (λ (y : Ltxid). Among (session_of y) sessions) (same_reply others answers kept draws (identifier served.session commits) x alive still is) (own state.ltxid refl)
  taken_replies _ _ _ (Repeats state call others kept) own answers draws x still is =
      subst (λ (y : Ltxid). Among (session_of y) sessions) (same_reply others answers kept draws (identifier served.session commits) x alive still is) (own state.ltxid refl)
  taken_replies _ _ _ (Blocks phase call) own answers draws x still is = absurd (let none : ⊥ = cc in none)
  taken_replies _ _ _ (Tells state asked result same) own answers draws x still is = outcome_replies result answers draws x still is

  -- and what it shows
  shown_if : (test : Bool) → Among served.session sessions → list_all (is_own sessions) (option_to_list (showing_of test served)) ≡ true
  shown_if true is = and_from (is_own sessions served) true is refl
  shown_if false is = refl

  taken_shows : (phase : Phase) (one : Item) (frame : Down) → Taken served.session commits phase one frame → OwnIn phase → list_all (is_own sessions) (option_to_list (shown_item served one)) ≡ true
  taken_shows _ _ _ (Greets lost) own = refl
  taken_shows _ _ _ (Answers state call answers draws) own = shown_if true (own state.ltxid refl)
  taken_shows _ _ _ (Repeats state call answers draws) own = refl
  taken_shows _ _ _ (Blocks phase call) own = refl
  taken_shows _ _ _ (Tells state asked result same) own = shown_if _ (own state.fresh refl)

-- BY ITS KIND -------------------------------------------------------------------------------------

module _ (t : Traced) (client place : ℕ) (doing : Doing) (step : StepTold) (sessions : List SessionId) (goes : (connection : ℕ) (link : Link) (x : Ltxid) (session : SessionId) → doing.connection ≡ Some connection → link_at t.machine.links connection ≡ Some link → link.session ≡ Some session → goes_by doing.talk.phase ≡ Some x → Among session sessions) where
  nothing_more : (a : Account) → Reaches a sessions → Reaches a (sessions ++ [])
  nothing_more a is = subst (Reaches a) (sym (append-nil sessions)) is

  gone_reaches : (terms : Terms) (calls : List Call) (link : Link) (frame : Down) (more : List Step) (b : Account) (own : List SessionId) → GoneBehind t doing link frame more → Reaches b own → Reaches (fold (after_step terms calls) b (dones_of more)) own
  gone_reaches terms calls link frame _ b own (GoesOn opens) is = is
  gone_reaches terms calls link frame _ b own (IsOver ended over) is = is
  gone_reaches terms calls link frame _ b own (IsGone ended keeps) is =
      subst (Reaches (after_step terms calls b (now_at t (after_now t doing (Took frame link.is_open)) (Gone (ended_at link))).done)) (append-nil own)
      (done_reaches terms calls b own (now_at t (after_now t doing (Took frame link.is_open)) (Gone (ended_at link))).done (other_reached own (Gone (ended_at link)) refl) is)

  none_behind : (link : Link) (frame : Down) (first : Step) (more : List Step) → GoneBehind t doing link frame more → sessions_reached (first ∷ more) ≡ sessions_reached (first ∷ [])
  none_behind link frame first _ (GoesOn opens) = refl
  none_behind link frame first _ (IsOver ended over) = refl
  none_behind link frame first _ (IsGone ended keeps) = refl

  pub kind_reaches : (terms : Terms) (calls : List Call) (a : Account) (acts : List Step) → TellsKind t client place doing step acts → Reaches a sessions → Reaches (fold (after_step terms calls) a (dones_of acts)) (sessions ++ sessions_reached acts)
  kind_reaches terms calls a _ (Rested did early bare) is = nothing_more a is
  kind_reaches terms calls a _ (FoundNone did frame bare) is = nothing_more a is
  kind_reaches terms calls a _ (Waited did begun bare) is = done_reaches terms calls a sessions (now_at t doing Waiting).done (other_reached sessions Waiting refl) is
  kind_reaches terms calls a _ (WasLent connection link ltxid did begun there held taken session its lost) is = done_reaches terms calls a sessions (now_at t doing (Lent connection ltxid)).done (other_reached sessions (Lent connection ltxid) refl) is
  kind_reaches terms calls a _ (HasOpened connection did next begun bare) is = done_reaches terms calls a sessions (now_at t doing (Opened connection)).done (other_reached sessions (Opened connection) refl) is
  kind_reaches terms calls a _ (HasFailed did begun bare) is = done_reaches terms calls a sessions (now_at t doing TryFailed).done (other_reached sessions TryFailed refl) is
  kind_reaches terms calls a _ (HasLost connection link did has there ended bare) is = done_reaches terms calls a sessions (now_at t doing (Gone (ended_at link))).done (other_reached sessions (Gone (ended_at link)) refl) is
  kind_reaches terms calls a _ (HasTaken connection sent link frame served more did sends has there taken reply session lost gone) is =
      subst (Reaches (fold (after_step terms calls) (after_step terms calls a (now_at t doing (Took frame link.is_open)).done) (dones_of more))) (ap (λ (l : List SessionId). sessions ++ l) (sym (none_behind link frame (now_at t doing (Took frame link.is_open)) more gone)))
      (gone_reaches terms calls link frame more (after_step terms calls a (now_at t doing (Took frame link.is_open)).done) (sessions ++ sessions_reached (now_at t doing (Took frame link.is_open) ∷ [])) gone
      (done_reaches terms calls a sessions (now_at t doing (Took frame link.is_open)).done
      (taken_replies sessions served reply.commits link.is_open doing.talk.phase served.item frame
      (taken_as served.session reply.commits doing.talk.phase reply.one.sent reply.sent served.item frame reply.awaited reply.same reply.is_its reply.says)
      (λ x by. goes connection link x served.session has there reply.session by)) is))

  pub kind_own : (acts : List Step) → TellsKind t client place doing step acts → list_all (is_own sessions) (option_to_list (showing_at step)) ≡ true
  kind_own =
      by_taken t client place doing step (λ took. list_all (is_own sessions) (option_to_list (option_and_then (λ one. showing_of (is_showing one) one) took)) ≡ true) refl
      (λ connection link frame served has there reply.
      taken_shows sessions served reply.commits link.is_open doing.talk.phase served.item frame
      (taken_as served.session reply.commits doing.talk.phase reply.one.sent reply.sent served.item frame reply.awaited reply.same reply.is_its reply.says)
      (λ x by. goes connection link x served.session has there reply.session by))
