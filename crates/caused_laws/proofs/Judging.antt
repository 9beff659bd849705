-- The judge over a whole conversation, over all of a client, and over all clients.
use Rattle.std.proofs.Common.{◌≡◌, ◌≢◌, ℕ, ◌+◌, ◌≤◌, Bool, true, false, List, [], ◌∷◌, ◌++◌, refl, sym, ap, subst, ◌∙◌}
use Rattle.std.specs.Prelude.{fold, flat_map}
use Rattle.std.proofs.lemmas.List.{append-nil, append_assoc}
use Rattle.std.proofs.lemmas.List.Sums.{fold-append}
use Rattle.svc_values.specs.declared.answer.Answer.{Answer}
use Rattle.request_bounds.specs.meaning.Rules.{Rules}
use Rattle.outage_schedule.specs.declared.document.Request.{Request}
use Rattle.outage_schedule.specs.declared.document.ServiceOf.{ServiceOf}
use Rattle.outage_schedule.specs.declared.note.GoNote.{GoNote}
use Rattle.outage_schedule.specs.declared.note.GoNote.TheVariants as go
use Rattle.outage_schedule.specs.declared.request.RequestReport.{RequestReport}
use Rattle.client_model.specs.declared.input.Input.{Input}
use Rattle.client_model.specs.declared.input.Input.TheVariants.{Start, Waiting, Lent, Opened, TryFailed, Took, Gone}
use Rattle.client_model.specs.declared.input.Wants.TheVariants as wants
use Rattle.client_model.specs.meaning.Terms.{Terms, Talk, Phase, Idle}
use Rattle.client_model.specs.meaning.Talk.{wants_in}
use Rattle.client_model.specs.meaning.Conversation.{Timed}
use Rattle.client_model.specs.Conversation.{MayCome}
use Rattle.client_model.specs.Reasons.{rules_of}
use Rattle.run_clauses.specs.meaning.NoClash.{digest}
use Rattle.run_clauses.specs.meaning.Reports.{report_of}
use Rattle.shown_clauses.specs.meaning.Steps.{Step, steps, steps_of}
use Rattle.shown_clauses.specs.meaning.Submissions.{Submission, submissions_by_client}
use Rattle.shown_clauses.specs.meaning.Caused.{Judged, judged_from, judge_step, are_clients_caused, is_client_caused, is_judged_right}
use Rattle.caused_laws.specs.ServiceTerms.{AreTermsOf, kind_of, limits_of}
use Rattle.caused_laws.specs.Telling.{ToldStep, Before, first_talk, dones_of, talk_of, begun_with, TellsBy, AllTell, behind, inputs_of, nothing_before, IsConversation}
use Rattle.caused_laws.specs.Laws.{shown_steps, submission_of, JudgesConversation, IsHeard, AreHeard, JudgesClient, ClientsAreHeard, JudgesReport}
use Rattle.caused_laws.proofs.FactsKnown.{terms_by}
use Rattle.caused_laws.proofs.Reporting.{may-front, none_behind}
use Rattle.caused_laws.proofs.Standing.{SoFar, nothing_yet, behind_it, judged_at, IsBegun, judge_goes, judge_ends, GoesOn, IsOver, submission, is_over}
use Rattle.caused_laws.proofs.Submitting.{and_both}
use Rattle.caused_laws.proofs.Telling.{Situation, Result, told_result}

module _ (service : ServiceOf) (rules : Rules) (told : List Answer → List ℕ) (ruled : rules ≡ rules_of (kind_of service.failover service.consistency)) (digested : told ≡ digest) (request : Request) (copy : RequestReport) (some : request.calls ≢ []) (tried : 1 ≤ service.retries) where
  abbrev terms : Terms
  terms = terms_by service rules told

  abbrev mine : Submission
  mine = submission service rules told ruled request copy

  -- NOTHING BEHIND THE END
  slots_tell : (before : List Timed) (tick : ℕ) (input : Input) (inputs rest : List Timed) → inputs ≡ begun_with before tick input → inputs ++ rest ≡ [] → ⊥
  slots_tell [] tick input inputs rest is none = let no : (Start, tick) ∷ (input, tick) ∷ rest ≡ [] = ap (λ l. l ++ rest) (sym is) ∙ none in let empty : ⊥ = cc in empty
  slots_tell (one ∷ before) tick input inputs rest is none = let no : (input, tick) ∷ rest ≡ [] = ap (λ l. l ++ rest) (sym is) ∙ none in let empty : ⊥ = cc in empty

  -- a request that is over awaits nothing
  idle_wants : (talk : Talk) (now : ℕ) (phase : Phase) → is_over service rules told ruled request copy phase ≡ true → wants_in terms talk phase now ≡ wants.Idle
  idle_wants talk now Idle is = refl
  idle_wants talk now _ is = absurd (let none : ⊥ = cc in none)

  none_tells : (before : Before) (one : ToldStep) (rest : List Timed) (did : GoNote) → is_over service rules told ruled request copy (talk_of terms request before.inputs).phase ≡ true
      → TellsBy terms request before one did → one.inputs ++ rest ≡ [] → ⊥
  none_tells before one rest go.Idle over tells none = tells
  none_tells before one rest go.Wait over tells none = slots_tell before.inputs one.step.tick Waiting one.inputs rest tells.inputs_are none
  none_tells before one rest go.Down over tells none = slots_tell before.inputs one.step.tick TryFailed one.inputs rest tells.inputs_are none
  none_tells before one rest (go.Open connection) over tells none = slots_tell before.inputs one.step.tick (Opened connection) one.inputs rest tells.inputs_are none
  none_tells before one rest (go.Lent connection) over tells none = slots_tell before.inputs one.step.tick (Lent connection tells.0) one.inputs rest tells.1.inputs_are none
  none_tells before one rest go.NoFrame over tells none =
      let idle : wants.Idle ≡ wants.Frame = sym (idle_wants (talk_of terms request before.inputs) one.step.tick (talk_of terms request before.inputs).phase over) ∙ tells.1 in let empty : ⊥ = cc in empty
  none_tells before one rest go.Early over tells none =
      let idle : wants.Idle ≡ wants.Early = sym (idle_wants (talk_of terms request before.inputs) one.step.tick (talk_of terms request before.inputs).phase over) ∙ tells.1 in let empty : ⊥ = cc in empty
  none_tells before one rest (go.Lost connection) over tells none =
      let no : (Gone tells.0, one.step.tick) ∷ rest ≡ [] = ap (λ l. l ++ rest) (sym tells.1.inputs_are) ∙ none in let empty : ⊥ = cc in empty
  none_tells before one rest (go.Took connection sent) over k none =
      let no : (Took k.frame k.alive, one.step.tick) ∷ (_ ++ rest) ≡ [] = ap (λ l. l ++ rest) (sym k.inputs_are) ∙ none in let empty : ⊥ = cc in empty

  -- THE WHOLE CONVERSATION
  module _ (total : List Timed) (copied : copy ≡ report_of terms request (dones_of terms request total)) (may_all : MayCome terms (first_talk request) false total)
      (ends : is_over service rules told ruled request copy (talk_of terms request total).phase ≡ true) (more : List Submission) (right : Bool) where
    -- nothing is shown behind the end
    over_last : (before : Before) (due : Bool) (all : List ToldStep) → is_over service rules told ruled request copy (talk_of terms request before.inputs).phase ≡ true → AllTell terms request before all
        → MayCome terms (talk_of terms request before.inputs) due (inputs_of all) → all ≡ []
    over_last before due [] over tell may = refl
    over_last before due (one ∷ all) over tell may =
        absurd (none_tells before one (inputs_of all) one.step.did over tell.0 (none_behind service rules told ruled request copy (talk_of terms request before.inputs) due (one.inputs ++ inputs_of all) may over))

    -- what is to be shown of these steps, from where the judge stands behind what came before
    abbrev Walks : List ToldStep → Before → Type 0
    Walks all before =
        (due : Bool) (s : SoFar) → Situation service rules told ruled digested request copy some tried before.inputs due s → s.steps ≡ before.steps → IsBegun mine s
        → total ≡ before.inputs ++ inputs_of all → MayCome terms (talk_of terms request before.inputs) due (inputs_of all)
        → fold (judge_step service) (judged_at right (mine ∷ more) s) (shown_steps all) ≡ judged_from right more

    walk_on : (one : ToldStep) (all : List ToldStep) (before : Before) → AllTell terms request (behind before one) all → Walks all (behind before one)
        → (s : SoFar) → s.steps ≡ before.steps → IsBegun mine s → total ≡ before.inputs ++ (one.inputs ++ inputs_of all)
        → Result service rules told ruled digested request copy some tried total copied before.inputs one.inputs (inputs_of all) s one.step
        → fold (judge_step service) (judge_step service (judged_at right (mine ∷ more) s) one.step) (shown_steps all) ≡ judged_from right more
    walk_on one all before tell rest s steps begun whole (due, IsOver failed over ended is, may) =
        ap (λ (j : Judged). fold (judge_step service) j (shown_steps all)) (judge_ends service mine more right s one.step failed begun ended is)
        ∙ ap (λ (l : List ToldStep). fold (judge_step service) (judged_from right more) (shown_steps l)) (over_last (behind before one) due all over tell may)
    walk_on one all before tell rest s steps begun whole (due, GoesOn facts course on goes adds stands, may) =
        let whole_next : total ≡ (before.inputs ++ one.inputs) ++ inputs_of all = whole ∙ sym (append_assoc before.inputs one.inputs (inputs_of all)) in
        ap (λ (j : Judged). fold (judge_step service) j (shown_steps all)) (judge_goes service mine more right s one.step facts course begun adds goes)
        ∙ rest due (behind_it s one.step facts course)
        (record {
          stands = stands;
          may = may-front terms (before.inputs ++ one.inputs) (inputs_of all) (first_talk request) false (subst (λ (l : List Timed). MayCome terms (first_talk request) false l) whole_next may_all);
          on = on;
        })
        (ap (λ l. one.step ∷ l) steps) (λ none. absurd (let no : ⊥ = cc in no)) whole_next may

    walk : (all : List ToldStep) (before : Before) → AllTell terms request before all → Walks all before
    walk [] before tell due s here steps begun whole may =
        absurd (let on : is_over service rules told ruled request copy (talk_of terms request before.inputs).phase ≡ false = here.on in
        let over : is_over service rules told ruled request copy (talk_of terms request before.inputs).phase ≡ true = ap (λ l. is_over service rules told ruled request copy (talk_of terms request l).phase) (sym (whole ∙ append-nil before.inputs)) ∙ ends in
        let none : ⊥ = cc in none)
    walk (one ∷ all) before tell due s here steps begun whole may =
        walk_on one all before tell.1 (walk all (behind before one) tell.1) s steps begun whole
        (told_result service rules told ruled digested request copy some tried total copied before one (inputs_of all) due s steps here whole may tell.0)

    pub walks : (all : List ToldStep) → AllTell terms request nothing_before all → total ≡ inputs_of all → fold (judge_step service) (judged_from right (mine ∷ more)) (shown_steps all) ≡ judged_from right more
    walks all tell whole =
        walk all nothing_before tell false (nothing_yet mine)
        (record {
          stands = record {
            knows = record {
              agrees = record {
                unshown = refl;
                index = refl;
                ahead = refl;
                many = refl;
                reason = refl;
                recorded = λ none. refl;
                tick = refl;
                sets = refl;
                known_tick = λ never. absurd (let none : ⊥ = cc in none);
                known_reason = λ never. absurd (let none : ⊥ = cc in none);
              };
              count = refl;
              downs = refl;
            };
            at = (refl, refl, refl, refl);
            last = λ still. tt;
          };
          may = tt;
          on = refl;
        })
        refl (λ none. refl) whole (subst (λ (l : List Timed). MayCome terms (first_talk request) false l) whole may_all)

-- THE LAWS
-- the terms of a service, written out
terms_are : (service : ServiceOf) (terms : Terms) → AreTermsOf service terms → terms ≡ terms_by service terms.rules terms.digest
terms_are service terms are =
    ap (λ l. record terms { limits = l }) are.limits
    ∙ ap (λ n. record terms { limits = limits_of service; recorded = n }) are.recorded

pub judges_conversation : JudgesConversation
judges_conversation service terms request all more right are tried some conversation =
    subst (λ (t : Terms). IsConversation t request all → fold (judge_step service) (judged_from right (submission_of t request all ∷ more)) (shown_steps all) ≡ judged_from right more)
    (sym (terms_are service terms are))
    (λ c. walks service terms.rules terms.digest are.rules are.digest_is request (submission_of (terms_by service terms.rules terms.digest) request all).copy some tried (inputs_of all) refl c.may
    (ap (is_over service terms.rules terms.digest are.rules request (submission_of (terms_by service terms.rules terms.digest) request all).copy) c.over) more right all c.tell refl)
    conversation

-- a client's submissions, one after the other
module _ (service : ServiceOf) (terms : Terms) (are : AreTermsOf service terms) (tried : 1 ≤ service.retries) where
  one_heard : (one : Submission) (all : List ToldStep) (more : List Submission) (right : Bool) → IsHeard terms one all
      → fold (judge_step service) (judged_from right (one ∷ more)) (shown_steps all) ≡ judged_from right more
  one_heard one all more right heard =
      ap (λ (c : RequestReport). fold (judge_step service) (judged_from right (record { request = one.request; copy = c } ∷ more)) (shown_steps all)) heard.reported
      ∙ judges_conversation service terms one.request all more right are tried heard.has_calls heard.conversation

  all_heard : (submissions : List Submission) (conversations : List (List ToldStep)) → AreHeard terms submissions conversations
      → fold (judge_step service) (judged_from true submissions) (flat_map shown_steps conversations) ≡ judged_from true []
  all_heard [] [] heard = refl
  all_heard (one ∷ submissions) [] heard = absurd heard
  all_heard [] (all ∷ conversations) heard = absurd heard
  all_heard (one ∷ submissions) (all ∷ conversations) heard =
      fold-append (judge_step service) (judged_from true (one ∷ submissions)) (shown_steps all) (flat_map shown_steps conversations)
      ∙ ap (λ (j : Judged). fold (judge_step service) j (flat_map shown_steps conversations)) (one_heard one all submissions true heard.0)
      ∙ all_heard submissions conversations heard.1

pub judges_client : JudgesClient
judges_client service terms submissions conversations are tried heard = ap is_judged_right (all_heard service terms are tried submissions conversations heard)

-- each client, one after the other
judges_clients : (service : ServiceOf) (terms : Terms) (are : AreTermsOf service terms) (tried : 1 ≤ service.retries) (clients : List (List Submission)) (client : ℕ) (all : List Step) → ClientsAreHeard terms client all clients
    → are_clients_caused service client all clients ≡ true
judges_clients service terms are tried [] client all heard = refl
judges_clients service terms are tried (submissions ∷ clients) client all heard =
    and_both (is_client_caused service submissions (steps_of client all)) (are_clients_caused service (client + 1) all clients)
    (ap (is_client_caused service submissions) heard.0.2 ∙ judges_client service terms submissions heard.0.0 are tried heard.0.1)
    (judges_clients service terms are tried clients (client + 1) all heard.1)

pub judges_report : JudgesReport
judges_report document report terms are tried heard = judges_clients document.service terms are tried (submissions_by_client document report) 1 (steps report) heard
