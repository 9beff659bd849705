-- A request that repeats calls opened the connection that it has, and was shown no call since.
use Rattle.std.proofs.Common.{◌≡◌, refl, sym, ap, subst, ◌∙◌, append_assoc, append-nil, ℕ, true, List, [], ◌∷◌, ◌++◌, map, Option, Some, None}
use Rattle.std.proofs.lemmas.List.{map-append}
use Rattle.std.proofs.lemmas.List.Sums.{fold-append}
use Rattle.outage_schedule.specs.declared.document.Request.{Request}
use Rattle.client_model.specs.meaning.Account.{Account, account_of, unheard, hears, shows, after_step}
use Rattle.client_model.specs.meaning.Conversation.{Done, done_at, talk_at}
use Rattle.client_model.specs.Conversation.{steps_of, talk_after}
use Rattle.client_model.specs.declared.act.Shown.{Shown}
use Rattle.client_model.specs.declared.input.Input.{Input}
use Rattle.client_model.specs.declared.input.Input.TheVariants.{Opened}
use Rattle.client_model.specs.meaning.Talk.{talk_step}
use Rattle.client_model.specs.meaning.Terms.{Terms, Talk}
use Rattle.run_clauses.specs.meaning.Reports.{shown_call}
use Rattle.world_model.specs.meaning.Clients.{Step, Doing}
use Rattle.world_model.specs.records.Conversing.{Talks, connected, connection_after, first_talk, inputs_of, timed}
use Rattle.invariant_laws.specs.Replayed.{shown_at}
use Rattle.world_model.specs.Words.{dones_of}
use Rattle.world_model.proofs.Offered.{hears_same, all_more}
use Rattle.replay_laws.proofs.ReplayPhases.{is_replay_phase, Comes, ComesAway, ByOpening, ByFrame, step_comes}

pub record OpenedAt (terms : Terms) (request : Request) (steps : List Step) : Type 0 where
  pub before : List Step
  pub opening : Step
  pub behind : List Step
  pub all : steps ≡ before ++ opening ∷ behind
  pub number : ℕ
  pub is : opening.done.input ≡ Opened number
  pub has : connection_after steps ≡ Some number
  pub same : shown_at terms request steps ≡ shown_at terms request before

-- a step at which nothing is shown
shown_still : (terms : Terms) (request : Request) (before : List Step) (step : Step) → step.done.act.shown ≡ None → shown_at terms request (before ++ step ∷ []) ≡ shown_at terms request before
shown_still terms request before step none =
    let account : Account = account_of terms request.calls (dones_of before) in
    let heard : Account = hears terms account step.done.input step.done.now step.done.act.shown in
    ap (λ (shown : List Shown). map shown_call shown)
    (ap (λ (d : List Done). (account_of terms request.calls d).shown) (map-append (λ (s : Step). s.done) before (step ∷ []))
    ∙ ap (λ (a : Account). a.shown) (fold-append (after_step terms request.calls) unheard (dones_of before) (step.done ∷ []))
    ∙ all_more terms request.calls step.done.now step.done.act.send (shows terms request.calls heard step.done.act.shown)
    ∙ ap (λ (s : Option Shown). (shows terms request.calls heard s).shown) none
    ∙ (hears_same terms account step.done.input step.done.now step.done.act.shown).shown)

connects : (before : List Step) (step : Step) (input : Input) → step.done.input ≡ input → connection_after (before ++ step ∷ []) ≡ connected (connection_after before) input
connects before step input is = fold-append (λ had (s : Step). connected had s.done.input) None before (step ∷ []) ∙ ap (connected (connection_after before)) is

module _ (terms : Terms) (request : Request) where
  -- one step more
  opened_more : (before : List Step) (step : Step) (talk : Talk) → (is_replay_phase talk.phase ≡ true → OpenedAt terms request before) → step.done ≡ done_at terms talk (timed step)
      → is_replay_phase (talk_at terms talk (timed step)).phase ≡ true → OpenedAt terms request (before ++ step ∷ [])
  opened_more before step talk have did phase = by step.done.input refl (step_comes terms talk step.done.input step.done.now)
    where
      by : (input : Input) → step.done.input ≡ input → Comes talk (talk_step terms talk step.done.input step.done.now) input → OpenedAt terms request (before ++ step ∷ [])
      by _ is (ComesAway input away) = absurd (let none : ⊥ = cc in none)
      by _ is (ByOpening connection none) = record {
        before = before;
        opening = step;
        behind = [];
        all = refl;
        number = connection;
        is = is;
        has = connects before step (Opened connection) is;
        same = shown_still terms request before step (ap (λ (d : Done). d.act.shown) did ∙ none);
      }
      by _ is (ByFrame frame alive was none) =
          let old : OpenedAt terms request before = have was in
          record {
            before = old.before;
            opening = old.opening;
            behind = old.behind ++ step ∷ [];
            all = ap (λ (steps : List Step). steps ++ step ∷ []) old.all ∙ append_assoc old.before (old.opening ∷ old.behind) (step ∷ []);
            number = old.number;
            is = old.is;
            has = connects before step _ is ∙ old.has;
            same = shown_still terms request before step (ap (λ (d : Done). d.act.shown) did ∙ none) ∙ old.same;
          }

  opened_in : (before rest : List Step) (talk : Talk) → (is_replay_phase talk.phase ≡ true → OpenedAt terms request before) → dones_of rest ≡ steps_of terms talk (inputs_of rest)
      → is_replay_phase (talk_after terms talk (inputs_of rest)).phase ≡ true → OpenedAt terms request (before ++ rest)
  opened_in before [] talk have acts phase = subst (OpenedAt terms request) (sym (append-nil before)) (have phase)
  opened_in before (step ∷ rest) talk have acts phase =
      let did : step.done ≡ done_at terms talk (timed step) = cc in
      let others : dones_of rest ≡ steps_of terms (talk_at terms talk (timed step)) (inputs_of rest) = cc in
      subst (OpenedAt terms request) (append_assoc before (step ∷ []) rest)
      (opened_in (before ++ step ∷ []) rest (talk_at terms talk (timed step)) (λ is. opened_more before step talk have did is) others phase)

pub doing_opened : (terms : Terms) (due : _) (doing : Doing) → Talks terms due doing → is_replay_phase doing.talk.phase ≡ true → OpenedAt terms doing.request doing.steps
doing_opened terms due doing talks phase =
    opened_in terms doing.request [] doing.steps (first_talk doing.request) (λ is. absurd (let none : ⊥ = cc in none)) talks.converses.acts
    (ap (λ (talk : Talk). is_replay_phase talk.phase) talks.stands ∙ phase)
