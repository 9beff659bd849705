-- Each frame that a request may take, in each phase.
use Rattle.std.proofs.Common.{◌≡◌, ◌≢◌, ℕ, Bool, true, false, List, [], ◌∷◌, length, Option, Some, None, refl, sym, ap, subst, ◌∙◌}
use Rattle.std.specs.Prelude.{slice_get}
use Rattle.svc_values.specs.declared.answer.Answer.{Answer}
use Rattle.svc_values.specs.declared.call.Call.{Call}
use Rattle.svc_values.specs.declared.draw.Draw.{Draw}
use Rattle.svc_values.specs.declared.entry.Ltxid.{Ltxid}
use Rattle.svc_values.specs.declared.frame.Ahead.TheVariants as ahead
use Rattle.svc_values.specs.declared.frame.Down.{Down}
use Rattle.svc_values.specs.declared.frame.Down.TheVariants as down
use Rattle.svc_values.specs.declared.frame.Up.TheVariants as up
use Rattle.request_bounds.specs.meaning.Rules.{Rules}
use Rattle.outage_schedule.specs.declared.document.Request.{Request}
use Rattle.outage_schedule.specs.declared.document.ServiceOf.{ServiceOf}
use Rattle.outage_schedule.specs.declared.item.Item.{Item}
use Rattle.outage_schedule.specs.declared.item.Item.TheVariants as item
use Rattle.outage_schedule.specs.declared.item.Served.{Served}
use Rattle.outage_schedule.specs.declared.note.AskResult.{AskResult}
use Rattle.outage_schedule.specs.declared.note.AskResult.TheVariants as result
use Rattle.outage_schedule.specs.declared.request.RequestReport.{RequestReport}
use Rattle.client_model.specs.meaning.States.{Losing, Living, Asking, Repeating, next_of}
use Rattle.client_model.specs.declared.act.Hold.TheVariants.{Keep}
use Rattle.client_model.specs.declared.input.Input.TheVariants.{Took}
use Rattle.client_model.specs.meaning.Terms.{Terms, Talk, Phase, Greeting, Asked, Running, Replaying}
use Rattle.client_model.specs.meaning.Talk.{next_call, takes}
use Rattle.client_model.specs.Conversation.{is_gone_next}
use Rattle.client_model.specs.meaning.Account.{Account}
use Rattle.client_model.specs.Laws.{is_expected}
use Rattle.client_model.specs.Reasons.{rules_of}
use Rattle.client_model.proofs.Offered.{Fits, IsTalk}
use Rattle.run_clauses.specs.meaning.NoClash.{digest}
use Rattle.shown_clauses.specs.meaning.Steps.{Step}
use Rattle.caused_laws.specs.Replies.{reply_to, Answers}
use Rattle.caused_laws.specs.ServiceTerms.{kind_of}
use Rattle.caused_laws.specs.Telling.{LostBy}
use Rattle.caused_laws.proofs.Committed.{completed_comes, forgotten_comes, incomplete_comes}
use Rattle.caused_laws.proofs.Comparing.{repeated_comes}
use Rattle.caused_laws.proofs.FactsKnown.{terms_by}
use Rattle.caused_laws.proofs.Losing.{is_connected}
use Rattle.caused_laws.proofs.OutcomesTold.{ended_is}
use Rattle.caused_laws.proofs.Replying.{slice-drop, reply_comes}
use Rattle.caused_laws.proofs.Standing.{SoFar, Stands, Comes}
use Rattle.caused_laws.proofs.Taking.{took, TakesBy, blocked_passes, refused_passes, hello_first, hello_again}
use Rattle.caused_laws.proofs.Uncommitted.{uncommitted_comes}

-- the first of some calls
pub first_of : (calls : List Call) → calls ≢ [] → (one : Call) × (slice_get calls 0 ≡ Some one)
first_of [] some = absurd (some refl)
first_of (one ∷ calls) some = (one, refl)

module _ (service : ServiceOf) (rules : Rules) (told : List Answer → List ℕ) (ruled : rules ≡ rules_of (kind_of service.failover service.consistency)) (digested : told ≡ digest) (request : Request) (copy : RequestReport) (some : request.calls ≢ []) where
  abbrev terms : Terms
  terms = terms_by service rules told

  module _ (s : SoFar) (step : Step) (connection sent : ℕ) (served : Served) (a : Account) (talk : Talk) (alive : Bool) (talks : IsTalk terms request.settings request.calls a talk) where
    -- what the judge makes of it
    abbrev Judged : Phase → Item → Down → Type 0
    Judged phase what frame = TakesBy service rules told ruled request copy a (Took frame alive) s (took step connection sent served what) sent (takes terms talk phase frame alive step.tick)

    -- the reply to an item is this frame
    by_frame : (phase : Phase) (what : Item) (frame other : Down) → Some frame ≡ Some other → Judged phase what frame → Judged phase what other
    by_frame phase what frame other is judged = subst (λ f. Judged phase what f) (let same : frame ≡ other = cc in same) judged

    next_is : (one : Call) → slice_get request.calls (length a.shown) ≡ Some one → next_call talk ≡ Some one
    next_is one is = ap (λ l. slice_get l 0) talks.left_are ∙ slice-drop request.calls (length a.shown) ∙ is

    module _ (phase : Phase) (is : talk.phase ≡ phase) (stands : Stands service rules told ruled request copy a phase false s) where
      refused : (connected : is_connected phase ≡ true) (cause : ℕ) → Judged phase (item.Refused cause) (down.Refused cause)
      refused connected cause sends answered =
          subst (λ p. Comes service rules told ruled request copy a p (is_gone_next (Took (down.Refused cause) alive) Keep) s (took step connection sent served (item.Refused cause))) (sym is)
          (refused_passes service rules told ruled request copy s step connection sent served a talk phase connected stands cause alive)

      blocked : (connected : is_connected phase ≡ true) (one : Call) → Judged phase (item.Blocked one) down.Blocked
      blocked connected one sends answered =
          subst (λ p. Comes service rules told ruled request copy a p (is_gone_next (Took down.Blocked alive) Keep) s (took step connection sent served (item.Blocked one))) (sym is)
          (blocked_passes service rules told ruled request copy s step connection sent served a talk phase connected stands one alive)

    -- GREETING
    greeting_by : (g : Bool) (lost : Option Losing) (x : Ltxid) → Fits terms request.calls a g (Greeting lost) → Stands service rules told ruled request copy a (Greeting lost) false s → Judged (Greeting lost) item.Connect (down.Hello x)
    greeting_by g None x fits stands =
        let first : (one : Call) × (slice_get request.calls 0 ≡ Some one) = first_of request.calls some in
        let there : slice_get request.calls (length a.shown) ≡ Some first.0 = ap (slice_get request.calls) (ap length fits.0.shown) ∙ first.1 in
        hello_first service rules told ruled request copy s step connection sent served a talk x first.0 alive stands fits.0.shown (next_is first.0 there) there
    greeting_by g (Some lost) x fits stands = hello_again service rules told ruled request copy s step connection sent served a talk x lost alive stands

    greeting : (g : Bool) (lost : Option Losing) (what : Item) (x : Ltxid) (frame : Down) → talk.phase ≡ Greeting lost → Fits terms request.calls a g (Greeting lost) → Stands service rules told ruled request copy a (Greeting lost) false s
        → reply_to x what ≡ Some frame → Answers (Some up.Connect) what → Judged (Greeting lost) what frame
    greeting g lost item.Connect x frame is fits stands replies answers = by_frame (Greeting lost) item.Connect (down.Hello x) frame replies (greeting_by g lost x fits stands)
    greeting g lost (item.Refused cause) x frame is fits stands replies answers = by_frame (Greeting lost) (item.Refused cause) (down.Refused cause) frame replies (refused (Greeting lost) is stands refl cause)
    greeting g lost (item.Begin settings) x frame is fits stands replies answers = absurd answers
    greeting g lost (item.Call mark named answer draws) x frame is fits stands replies answers = absurd answers
    greeting g lost (item.Blocked named) x frame is fits stands replies answers = absurd answers
    greeting g lost (item.Outcome asked told_so) x frame is fits stands replies answers = absurd answers
    greeting g lost item.End x frame is fits stands replies answers = absurd answers
    greeting g lost item.Close x frame is fits stands replies answers = absurd answers
    greeting g lost (item.CrashedCall mark named) x frame is fits stands replies answers = absurd answers
    greeting g lost (item.CrashedOutcome asked) x frame is fits stands replies answers = absurd answers

    -- RUNNING
    running : (g : Bool) (state : Living) (what : Item) (x : Ltxid) (frame : Down) → talk.phase ≡ Running state → Fits terms request.calls a g (Running state) → Stands service rules told ruled request copy a (Running state) false s
        → (kept : List Draw) (last : Call) → reply_to x what ≡ Some frame → Answers (Some (up.Call false kept last)) what → Judged (Running state) what frame
    running g state (item.Call false named answer draws) x frame is fits stands kept last replies answers =
        let there : slice_get request.calls (length a.shown) ≡ Some fits.0.left.one = ap (slice_get request.calls) (sym fits.0.tracked.call) ∙ fits.0.left.is in
        by_frame (Running state) (item.Call false named answer draws) (down.Reply answer draws x) frame replies
        (reply_comes service rules told ruled request copy s step connection sent served a talk state named fits.0.left.one answer draws x alive stands.knows stands.at.0 stands.at.1 talks.left_are there (next_call talk) (next_is fits.0.left.one there))
    running g state (item.Call true named answer draws) x frame is fits stands kept last replies answers = absurd (let no : true ≡ false = answers.0 in let none : ⊥ = cc in none)
    running g state (item.Blocked named) x frame is fits stands kept last replies answers = by_frame (Running state) (item.Blocked named) down.Blocked frame replies (blocked (Running state) is stands refl named)
    running g state (item.Refused cause) x frame is fits stands kept last replies answers = by_frame (Running state) (item.Refused cause) (down.Refused cause) frame replies (refused (Running state) is stands refl cause)
    running g state item.Connect x frame is fits stands kept last replies answers = absurd answers
    running g state (item.Begin settings) x frame is fits stands kept last replies answers = absurd answers
    running g state (item.Outcome asked told_so) x frame is fits stands kept last replies answers = absurd answers
    running g state item.End x frame is fits stands kept last replies answers = absurd answers
    running g state item.Close x frame is fits stands kept last replies answers = absurd answers
    running g state (item.CrashedCall mark named) x frame is fits stands kept last replies answers = absurd answers
    running g state (item.CrashedOutcome asked) x frame is fits stands kept last replies answers = absurd answers

    -- REPLAYING
    replaying : (g : Bool) (state : Repeating) (what : Item) (x : Ltxid) (frame : Down) → talk.phase ≡ Replaying state → Fits terms request.calls a g (Replaying state) → Stands service rules told ruled request copy a (Replaying state) false s
        → (kept : List Draw) (last : Call) → reply_to x what ≡ Some frame → Answers (Some (up.Call true kept last)) what → Judged (Replaying state) what frame
    replaying g state (item.Call true named answer draws) x frame is fits stands kept last replies answers =
        let there : slice_get request.calls (length a.shown) ≡ Some fits.0.left.one = ap (slice_get request.calls) (sym fits.0.tracked.call) ∙ fits.0.left.is in
        by_frame (Replaying state) (item.Call true named answer draws) (down.Reply answer draws x) frame replies
        (repeated_comes service rules told ruled digested request copy s step connection sent served a talk state named answer draws x stands.knows stands.at.0 stands.at.1 stands.at.2 fits.0.tracked fits.1
        alive fits.0.left.one there (next_is fits.0.left.one there) fits.2.one fits.2.is (next_of state) fits.2.is)
    replaying g state (item.Call false named answer draws) x frame is fits stands kept last replies answers = absurd (let no : false ≡ true = answers.0 in let none : ⊥ = cc in none)
    replaying g state (item.Blocked named) x frame is fits stands kept last replies answers = by_frame (Replaying state) (item.Blocked named) down.Blocked frame replies (blocked (Replaying state) is stands refl named)
    replaying g state (item.Refused cause) x frame is fits stands kept last replies answers = by_frame (Replaying state) (item.Refused cause) (down.Refused cause) frame replies (refused (Replaying state) is stands refl cause)
    replaying g state item.Connect x frame is fits stands kept last replies answers = absurd answers
    replaying g state (item.Begin settings) x frame is fits stands kept last replies answers = absurd answers
    replaying g state (item.Outcome asked told_so) x frame is fits stands kept last replies answers = absurd answers
    replaying g state item.End x frame is fits stands kept last replies answers = absurd answers
    replaying g state item.Close x frame is fits stands kept last replies answers = absurd answers
    replaying g state (item.CrashedCall mark named) x frame is fits stands kept last replies answers = absurd answers
    replaying g state (item.CrashedOutcome asked) x frame is fits stands kept last replies answers = absurd answers

    -- ASKED
    module _ (g : Bool) (state : Asking) (is : talk.phase ≡ Asked state) (fits : Fits terms request.calls a g (Asked state)) (stands : Stands service rules told ruled request copy a (Asked state) false s) where
      asked_there : slice_get request.calls (length a.shown) ≡ Some fits.0.left.one
      asked_there = ap (slice_get request.calls) (sym fits.0.tracked.call) ∙ fits.0.left.is

      outcome_by : (what : AskResult) (x : Ltxid) (frame : Down) → reply_to x (item.Outcome state.ltxid what) ≡ Some frame → is_expected (Some (up.Outcome state.ltxid)) frame ≡ true
          → LostBy a s.steps step.lost (item.Outcome state.ltxid what) → Judged (Asked state) (item.Outcome state.ltxid what) frame
      outcome_by (result.Committed true) x frame replies expected lost =
          let ended = ended_is a s.steps (took step connection sent served (item.Outcome state.ltxid (result.Committed true)) ∷ s.steps) step.lost state.event (λ link. refl) lost fits.0.ended in
          by_frame (Asked state) (item.Outcome state.ltxid (result.Committed true)) (down.OutcomeIs true true) frame replies
          (completed_comes service rules told ruled request copy s step connection sent served a talk state stands.knows stands.at.0 stands.at.1 fits.1.last alive fits.0.left.one asked_there talks.left_are fits.0.tracked ended.0 ended.1
          (next_call talk) (next_is fits.0.left.one asked_there))
      outcome_by (result.Committed false) x frame replies expected lost =
          by_frame (Asked state) (item.Outcome state.ltxid (result.Committed false)) (down.OutcomeIs true false) frame replies
          (incomplete_comes service rules told ruled request copy s step connection sent served a talk state stands.knows stands.at.0 stands.at.1 fits.1.last alive)
      outcome_by result.Uncommitted x frame replies expected lost =
          let ended = ended_is a s.steps (took step connection sent served (item.Outcome state.ltxid result.Uncommitted) ∷ s.steps) step.lost state.event (λ link. refl) lost fits.0.ended in
          by_frame (Asked state) (item.Outcome state.ltxid result.Uncommitted) (down.OutcomeIs false false) frame replies
          (uncommitted_comes service rules told ruled request copy s step connection sent served a talk state stands.knows stands.at.0 stands.at.1 fits.1.last fits.0.tracked alive ended.0 ended.1
          fits.0.left.one asked_there (next_is fits.0.left.one asked_there) state.track.why refl)
      outcome_by (result.Forgotten horizon) x frame replies expected lost =
          by_frame (Asked state) (item.Outcome state.ltxid (result.Forgotten horizon)) (down.OutcomeRefused ahead.Forgotten horizon) frame replies
          (forgotten_comes service rules told ruled request copy s step connection sent served a talk state stands.knows stands.at.0 stands.at.1 fits.1.last horizon alive)
      outcome_by (result.ServerAhead next) x frame replies expected lost =
          absurd (let same : down.OutcomeRefused ahead.Server next ≡ frame = cc in let no : false ≡ true = ap (is_expected (Some (up.Outcome state.ltxid))) same ∙ expected in let none : ⊥ = cc in none)
      outcome_by (result.ClientAhead next) x frame replies expected lost =
          absurd (let same : down.OutcomeRefused ahead.Client next ≡ frame = cc in let no : false ≡ true = ap (is_expected (Some (up.Outcome state.ltxid))) same ∙ expected in let none : ⊥ = cc in none)

      asked : (what : Item) (x : Ltxid) (frame : Down) → reply_to x what ≡ Some frame → Answers (Some (up.Outcome state.ltxid)) what → is_expected (Some (up.Outcome state.ltxid)) frame ≡ true
          → LostBy a s.steps step.lost what → Judged (Asked state) what frame
      asked (item.Outcome named what) x frame replies answers expected lost =
          subst (λ y. reply_to x (item.Outcome y what) ≡ Some frame → LostBy a s.steps step.lost (item.Outcome y what) → Judged (Asked state) (item.Outcome y what) frame) (sym answers)
          (λ replied lost_so. outcome_by what x frame replied expected lost_so) replies lost
      asked (item.Refused cause) x frame replies answers expected lost = by_frame (Asked state) (item.Refused cause) (down.Refused cause) frame replies (refused (Asked state) is stands refl cause)
      asked item.Connect x frame replies answers expected lost = absurd answers
      asked (item.Begin settings) x frame replies answers expected lost = absurd answers
      asked (item.Call mark named answer draws) x frame replies answers expected lost = absurd answers
      asked (item.Blocked named) x frame replies answers expected lost = absurd answers
      asked item.End x frame replies answers expected lost = absurd answers
      asked item.Close x frame replies answers expected lost = absurd answers
      asked (item.CrashedCall mark named) x frame replies answers expected lost = absurd answers
      asked (item.CrashedOutcome named) x frame replies answers expected lost = absurd answers

    -- EACH PHASE
    pub taken_comes : (g : Bool) (phase : Phase) (what : Item) (x : Ltxid) (frame : Down) → is_connected phase ≡ true → talk.phase ≡ phase → Fits terms request.calls a g phase → Stands service rules told ruled request copy a phase false s
        → reply_to x what ≡ Some frame → Answers a.last what → is_expected a.last frame ≡ true → LostBy a s.steps step.lost what → Judged phase what frame
    taken_comes g (Greeting lost) what x frame connected is fits stands replies answers expected lost_so =
        greeting g lost what x frame is fits stands replies (subst (λ l. Answers l what) (stands.last refl) answers)
    taken_comes g (Asked state) what x frame connected is fits stands replies answers expected lost_so =
        asked g state is fits stands what x frame replies (subst (λ l. Answers l what) fits.1.last answers) (ap (λ l. is_expected l frame) (sym fits.1.last) ∙ expected) lost_so
    taken_comes g (Running state) what x frame connected is fits stands replies answers expected lost_so =
        running g state what x frame is fits stands (stands.last refl).kept (stands.last refl).one replies (subst (λ l. Answers l what) (stands.last refl).is answers)
    taken_comes g (Replaying state) what x frame connected is fits stands replies answers expected lost_so =
        replaying g state what x frame is fits stands (stands.last refl).kept (stands.last refl).one replies (subst (λ l. Answers l what) (stands.last refl).is answers)
    taken_comes g _ what x frame connected is fits stands replies answers expected lost_so = absurd (let none : ⊥ = cc in none)
