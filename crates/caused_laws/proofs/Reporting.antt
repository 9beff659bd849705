-- What the report of a whole conversation has, at each input of it.
use Rattle.std.proofs.Common.{◌≡◌, ℕ, ◌&&◌, Bool, true, false, not, ◌||◌, List, [], ◌∷◌, ◌++◌, length, map, Option, Some, None, refl, sym, ap, ◌∙◌}
use Rattle.std.specs.Prelude.{IsTrue, fold, option_and_then, slice_get}
use Rattle.std.proofs.lemmas.List.{append-nil, append_assoc, map-append}
use Rattle.std.proofs.lemmas.List.Sums.{fold-append}
use Rattle.svc_values.specs.declared.answer.Answer.{Answer}
use Rattle.svc_values.specs.declared.call.Call.{Call}
use Rattle.svc_values.specs.declared.entry.Ltxid.{Ltxid}
use Rattle.svc_values.specs.declared.frame.Down.TheVariants as down
use Rattle.svc_values.specs.declared.frame.Up.{Up}
use Rattle.svc_values.specs.declared.frame.Up.TheVariants as up
use Rattle.request_bounds.specs.meaning.Rules.{Rules}
use Rattle.outage_schedule.specs.declared.document.Request.{Request}
use Rattle.outage_schedule.specs.declared.document.ServiceOf.{ServiceOf}
use Rattle.outage_schedule.specs.declared.request.RequestReport.{RequestReport}
use Rattle.client_model.specs.declared.act.Shown.{Shown}
use Rattle.client_model.specs.declared.input.Input.{Input}
use Rattle.client_model.specs.declared.input.Input.TheVariants.{Start, Waiting, Lent, Opened, TryFailed, Took, Gone}
use Rattle.client_model.specs.declared.input.Wants.TheVariants as wants
use Rattle.client_model.specs.meaning.Terms.{Terms, Talk, Phase, Idle, Unbegun, Queued, Seeking, Greeting, Asked, Running, Replaying}
use Rattle.client_model.specs.meaning.Talk.{Step as Pace, talk_step, wants_in}
use Rattle.client_model.specs.meaning.Conversation.{Timed, Done, done_at, talk_at}
use Rattle.client_model.specs.Conversation.{steps_of, talk_after, is_gone, is_gone_next, is_wanted, may_come, MayCome}
use Rattle.client_model.specs.meaning.Account.{Account, unheard, hears, hears_outcome, hears_reply, shows, shows_found, after_step}
use Rattle.client_model.specs.Reasons.{rules_of}
use Rattle.run_clauses.specs.meaning.Reports.{failed_in, failure_of, report_of, shown_call, told_outcome}
use Rattle.caused_laws.specs.ServiceTerms.{kind_of}
use Rattle.caused_laws.specs.Telling.{account_at, dones_of, first_talk, talk_of}
use Rattle.caused_laws.proofs.FactsKnown.{terms_by}
use Rattle.caused_laws.proofs.OutcomesTold.{last-last}
use Rattle.caused_laws.proofs.Replying.{sent_shown}
use Rattle.caused_laws.proofs.Standing.{Foretold, IsReported, is_over}

-- PARTS OF A CONVERSATION -------------------------------------------------------------------------

pub steps-append : (terms : Terms) (xs ys : List Timed) (talk : Talk) → steps_of terms talk (xs ++ ys) ≡ steps_of terms talk xs ++ steps_of terms (talk_after terms talk xs) ys
steps-append terms [] ys talk = refl
steps-append terms (one ∷ xs) ys talk = ap (λ l. done_at terms talk one ∷ l) (steps-append terms xs ys (talk_at terms talk one))

pub talk-append : (terms : Terms) (xs ys : List Timed) (talk : Talk) → talk_after terms talk (xs ++ ys) ≡ talk_after terms (talk_after terms talk xs) ys
talk-append terms [] ys talk = refl
talk-append terms (one ∷ xs) ys talk = talk-append terms xs ys (talk_at terms talk one)

pub may-front : (terms : Terms) (xs ys : List Timed) (talk : Talk) (due : Bool) → MayCome terms talk due (xs ++ ys) → MayCome terms talk due xs
may-front terms [] ys talk due may = tt
may-front terms (one ∷ xs) ys talk due may = (may.0, may-front terms xs ys (talk_at terms talk one) (is_gone_next one.0 (done_at terms talk one).act.hold) may.1)

pub and_left : (a b : Bool) → (a && b) ≡ true → a ≡ true
and_left true b e = refl
and_left false b e = e

-- nothing comes behind the end
module _ (terms : Terms) (talk : Talk) (due : Bool) (now : ℕ) (input : Input) where
  never_at : (phase : Phase) → phase ≡ Idle → IsTrue (may_come due (wants_in terms talk phase now) input) → ⊥
  never_at phase is may = let no : (is_wanted wants.Idle input && (is_gone input || not due)) ≡ true = ap (λ p. may_come due (wants_in terms talk p now) input) (sym is) ∙ may in let none : ⊥ = cc in none

module _ (service : ServiceOf) (rules : Rules) (told : List Answer → List ℕ) (ruled : rules ≡ rules_of (kind_of service.failover service.consistency)) (request : Request) (copy : RequestReport) where
  abbrev terms : Terms
  terms = terms_by service rules told

  idle_is : (phase : Phase) → is_over service rules told ruled request copy phase ≡ true → phase ≡ Idle
  idle_is Idle is = refl
  idle_is Unbegun is = absurd (let none : ⊥ = cc in none)
  idle_is (Queued from) is = absurd (let none : ⊥ = cc in none)
  idle_is (Seeking lost) is = absurd (let none : ⊥ = cc in none)
  idle_is (Greeting lost) is = absurd (let none : ⊥ = cc in none)
  idle_is (Asked state) is = absurd (let none : ⊥ = cc in none)
  idle_is (Running state) is = absurd (let none : ⊥ = cc in none)
  idle_is (Replaying state) is = absurd (let none : ⊥ = cc in none)

  pub none_behind : (talk : Talk) (due : Bool) (rest : List Timed) → MayCome terms talk due rest → is_over service rules told ruled request copy talk.phase ≡ true → rest ≡ []
  none_behind talk due [] may over = refl
  none_behind talk due (one ∷ rest) may over = absurd (never_at terms talk due one.1 one.0 talk.phase (idle_is talk.phase over) may.0)

  -- SHOWN CALLS
  outcome_shown : (a : Account) (committed completed : Bool) (last : Option Up) → (hears_outcome a committed completed last).shown ≡ a.shown
  outcome_shown a committed completed None = refl
  outcome_shown a committed completed (Some up.Connect) = refl
  outcome_shown a committed completed (Some (up.Begin settings)) = refl
  outcome_shown a committed completed (Some (up.Call mark kept one)) = refl
  outcome_shown a committed completed (Some (up.Outcome x)) = refl
  outcome_shown a committed completed (Some up.End) = refl
  outcome_shown a committed completed (Some up.Close) = refl

  reply_shown : (a : Account) (answers : List Answer) (x : Ltxid) (shown : Option Shown) → (hears_reply terms a answers x shown).shown ≡ a.shown
  reply_shown a answers x None = refl
  reply_shown a answers x (Some one) = refl

  hears_shown : (a : Account) (input : Input) (now : ℕ) (shown : Option Shown) → (hears terms a input now shown).shown ≡ a.shown
  hears_shown a Start now shown = refl
  hears_shown a Waiting now shown = refl
  hears_shown a (Lent connection x) now shown = refl
  hears_shown a (Opened connection) now shown = refl
  hears_shown a TryFailed now shown = refl
  hears_shown a (Gone event) now shown = refl
  hears_shown a (Took (down.Hello x) alive) now shown = refl
  hears_shown a (Took (down.Reply answers draws x) alive) now shown = reply_shown a answers x shown
  hears_shown a (Took (down.OutcomeIs committed completed) alive) now shown = outcome_shown a committed completed a.last
  hears_shown a (Took (down.OutcomeRefused ahead next) alive) now shown = refl
  hears_shown a (Took down.Blocked alive) now shown = refl
  hears_shown a (Took (down.Refused cause) alive) now shown = refl

  found_grows : (a : Account) (one : Shown) (found : Option Call) → (more : List Shown) × ((shows_found terms a one found).shown ≡ a.shown ++ more)
  found_grows a one None = ([], sym (append-nil a.shown))
  found_grows a one (Some call) = (one ∷ [], refl)

  shows_grow : (a : Account) (shown : Option Shown) → (more : List Shown) × ((shows terms request.calls a shown).shown ≡ a.shown ++ more)
  shows_grow a None = ([], sym (append-nil a.shown))
  shows_grow a (Some one) = found_grows a one (slice_get request.calls (length a.shown))

  -- more calls are shown with each step
  grows : (dones : List Done) (a : Account) → (more : List Shown) × ((fold (after_step terms request.calls) a dones).shown ≡ a.shown ++ more)
  grows [] a = ([], sym (append-nil a.shown))
  grows (done ∷ dones) a =
      let h : Account = hears terms a done.input done.now done.act.shown in
      let b : Account = after_step terms request.calls a done in
      let first : (more : List Shown) × ((shows terms request.calls h done.act.shown).shown ≡ h.shown ++ more) = shows_grow h done.act.shown in
      let rest : (more : List Shown) × ((fold (after_step terms request.calls) b dones).shown ≡ b.shown ++ more) = grows dones b in (
        first.0 ++ rest.0,
        rest.1
            ∙ ap (λ l. l ++ rest.0) (sent_shown service rules told ruled request copy done.now done.act.send (shows terms request.calls h done.act.shown) ∙ first.1 ∙ ap (λ l. l ++ first.0) (hears_shown a done.input done.now done.act.shown))
            ∙ append_assoc a.shown first.0 rest.0,
      )

  -- THE WHOLE
  module _ (total : List Timed) (copied : copy ≡ report_of terms request (dones_of terms request total)) where
    module _ (before : List Timed) (one : Timed) where
      abbrev here : Account
      here = account_at terms request before

      abbrev next : Pace
      next = talk_step terms (talk_of terms request before) one.0 one.1

      abbrev later : Account
      later = after_step terms request.calls here (record { input = one.0; now = one.1; act = next.1 })

      pub account_next : account_at terms request (before ++ one ∷ []) ≡ later
      account_next =
          ap (fold (after_step terms request.calls) unheard) (steps-append terms before (one ∷ []) (first_talk request))
          ∙ fold-append (after_step terms request.calls) unheard (dones_of terms request before) (done_at terms (talk_of terms request before) one ∷ [])

      pub talk_next : talk_of terms request (before ++ one ∷ []) ≡ next.0
      talk_next = talk-append terms before (one ∷ []) (first_talk request)

      module _ (rest : List Timed) (whole : total ≡ before ++ one ∷ rest) where
        dones_are : dones_of terms request total ≡ dones_of terms request before ++ done_at terms (talk_of terms request before) one ∷ steps_of terms next.0 rest
        dones_are = ap (dones_of terms request) whole ∙ steps-append terms before (one ∷ rest) (first_talk request)

        account_is : account_at terms request total ≡ fold (after_step terms request.calls) later (steps_of terms next.0 rest)
        account_is =
            ap (fold (after_step terms request.calls) unheard) dones_are
            ∙ fold-append (after_step terms request.calls) unheard (dones_of terms request before) (done_at terms (talk_of terms request before) one ∷ steps_of terms next.0 rest)

        reported_at : rest ≡ [] → IsReported service rules told ruled request copy later next.1
        reported_at none = record {
          failed = ap (λ r. r.failed) copied
              ∙ ap (λ dones. option_and_then failure_of (failed_in dones)) (dones_are ∙ ap (λ r. dones_of terms request before ++ done_at terms (talk_of terms request before) one ∷ steps_of terms next.0 r) none)
              ∙ ap (λ o. option_and_then failure_of (option_and_then (λ done. done.act.failed) o)) (last-last None (dones_of terms request before) (done_at terms (talk_of terms request before) one));
          outcomes = ap (λ r. r.outcomes) copied ∙ ap (λ (a : Account). map told_outcome a.outcomes) (account_is ∙ ap (λ r. fold (after_step terms request.calls) later (steps_of terms next.0 r)) none);
        }

        -- what the report has at this input
        pub answered_at : (is_over service rules told ruled request copy next.0.phase ≡ true → rest ≡ []) → Foretold service rules told ruled request copy here one.0 one.1 next
        answered_at last =
            let more : (more : List Shown) × ((fold (after_step terms request.calls) later (steps_of terms next.0 rest)).shown ≡ later.shown ++ more) = grows (steps_of terms next.0 rest) later in
            record {
              rest = map shown_call more.0;
              extends = ap (λ r. r.calls) copied ∙ ap (λ (a : Account). map shown_call a.shown) account_is ∙ ap (map shown_call) more.1 ∙ map-append shown_call later.shown more.0;
              final = λ over. reported_at (last over);
            }
