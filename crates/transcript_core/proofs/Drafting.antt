-- A draft that is kept is the report of its steps.
use Rattle.std.proofs.Common.{◌≡◌, ℕ, ◌<◌, ◌≤◌, Bool, true, false, List, [], ◌∷◌, ◌++◌, Option, Some, None, length, map, fold, refl, sym, ap, ap₂, subst, ◌∙◌, arith}
use Rattle.std.specs.Prelude.{slice_get, nat_lt, filter_map, option_and_then, if◌then◌else◌}
use Rattle.std.specs.List.{last_or}
use Rattle.std.proofs.lemmas.Bool.{ltb-true, ltb-false}
use Rattle.std.proofs.lemmas.List.{append-nil, map-append, length-map}
use Rattle.std.proofs.lemmas.List.Elements.{filter_map-append}
use Rattle.std.proofs.lemmas.List.Sums.{fold_push}
use Rattle.std.proofs.lemmas.Option.{slice_get-get_or, slice_get_past}
use Rattle.svc_values.specs.declared.call.Call.{Call}
use Rattle.svc_values.specs.declared.call.Call.TheVariants as call
use Rattle.svc_values.specs.declared.entry.Ltxid.{Ltxid}
use Rattle.svc_values.specs.declared.frame.Up.{Up}
use Rattle.svc_values.specs.declared.frame.Up.TheVariants as up
use Rattle.svc_values.specs.declared.frame.Down.{Down}
use Rattle.svc_values.specs.declared.frame.Down.TheVariants as down
use Rattle.outage_schedule.specs.declared.document.Request.{Request}
use Rattle.outage_schedule.specs.declared.request.Outcome.{Outcome}
use Rattle.client_model.specs.declared.act.Shown.{Shown}
use Rattle.client_model.specs.declared.input.Input.{Input}
use Rattle.client_model.specs.declared.input.Input.TheVariants.{Start, Waiting, Lent, Opened, TryFailed, Took, Gone}
use Rattle.client_model.specs.meaning.Account.{Account, account_of, after_step, begins, before_sends}
use Rattle.client_model.specs.meaning.Account as telling
use Rattle.client_model.specs.meaning.Conversation.{Done}
use Rattle.client_model.specs.meaning.Terms.{Terms}
use Rattle.client_model.specs.meaning.Tried.{Trying, trying_of, tries_on, sent_under}
use Rattle.run_clauses.specs.meaning.Reports.{shown_call, told_outcome, reached, report_of, failure_of}
use Rattle.transcript_core.specs.Attempts as attempts
use Rattle.transcript_core.specs.Attempts.{AreAttempts}
use Rattle.transcript_core.specs.Hearing.{heard_of}
use Rattle.transcript_core.specs.Drafts.{Draft, one_more, told_of, reached as reached_by, hears, shows, asked_in, sends, notes, drafted, IsOf, IsDraft}
use Rattle.transcript_core.proofs.OnceEach.{Within}
use Rattle.transcript_core.proofs.Trying.{heard, frame_sent, sent_within, trying_within, tried_all, before_sends as before_frames}

-- WHAT COMES IN -----------------------------------------------------------------------------------

outcomes_more : (account : Account) (draft : Draft) (one : telling.Outcome) → IsOf account draft → draft.outcomes ++ told_outcome one ∷ [] ≡ map told_outcome (account.outcomes ++ one ∷ [])
outcomes_more account draft one is = ap (λ (l : List Outcome). l ++ told_outcome one ∷ []) is.outcomes ∙ sym (map-append told_outcome account.outcomes (one ∷ []))

-- an outcome is of the identifier that the last frame asked for
outcome_heard : (account : Account) (draft : Draft) (committed completed alive : Bool) (last : Option Up) → account.last ≡ last → IsOf account draft
    → IsOf (telling.hears_outcome account committed completed last) (hears draft (heard_of (Took (down.OutcomeIs committed completed) alive)))
outcome_heard account draft committed completed alive last same is = by last same (is.asked ∙ ap asked_in same)
  where
    more : Option Ltxid → List Outcome
    more asked = one_more draft.outcomes (told_of (heard_of (Took (down.OutcomeIs committed completed) alive)) asked)

    other : draft.asked ≡ None → IsOf account (hears draft (heard_of (Took (down.OutcomeIs committed completed) alive)))
    other none = record { calls = is.calls; outcomes = ap more none ∙ is.outcomes; asked = is.asked }

    by : (last : Option Up) → account.last ≡ last → draft.asked ≡ asked_in last → IsOf (telling.hears_outcome account committed completed last) (hears draft (heard_of (Took (down.OutcomeIs committed completed) alive)))
    by None e none = other none
    by (Some up.Connect) e none = other none
    by (Some (up.Begin settings)) e none = other none
    by (Some (up.Call replay draws call)) e none = other none
    by (Some (up.Outcome asked)) e some = record {
      calls = is.calls;
      outcomes = ap more some ∙ outcomes_more account draft (record { ltxid = asked; committed = committed; completed = completed }) is;
      asked = is.asked;
    }
    by (Some up.End) e none = other none
    by (Some up.Close) e none = other none

module _ (terms : Terms) (now : ℕ) where
  frame_heard : (account : Account) (draft : Draft) (frame : Down) (alive : Bool) (shown : Option Shown) → IsOf account draft → IsOf (telling.hears terms account (Took frame alive) now shown) (hears draft (heard_of (Took frame alive)))
  frame_heard account draft (down.Hello ltxid) alive shown is = record { calls = is.calls; outcomes = is.outcomes; asked = is.asked }
  frame_heard account draft (down.Reply answers draws ltxid) alive None is = record { calls = is.calls; outcomes = is.outcomes; asked = is.asked }
  frame_heard account draft (down.Reply answers draws ltxid) alive (Some shown) is = record { calls = is.calls; outcomes = is.outcomes; asked = is.asked }
  frame_heard account draft (down.OutcomeIs committed completed) alive shown is = outcome_heard account draft committed completed alive account.last refl is
  frame_heard account draft (down.OutcomeRefused ahead next) alive shown is = record { calls = is.calls; outcomes = is.outcomes; asked = is.asked }
  frame_heard account draft down.Blocked alive shown is = record { calls = is.calls; outcomes = is.outcomes; asked = is.asked }
  frame_heard account draft (down.Refused cause) alive shown is = record { calls = is.calls; outcomes = is.outcomes; asked = is.asked }

  input_heard : (account : Account) (draft : Draft) (input : Input) (shown : Option Shown) → IsOf account draft → IsOf (telling.hears terms account input now shown) (hears draft (heard_of input))
  input_heard account draft Start shown is = record { calls = is.calls; outcomes = is.outcomes; asked = is.asked }
  input_heard account draft Waiting shown is = record { calls = is.calls; outcomes = is.outcomes; asked = is.asked }
  input_heard account draft (Lent connection ltxid) shown is = record { calls = is.calls; outcomes = is.outcomes; asked = is.asked }
  input_heard account draft (Opened connection) shown is = record { calls = is.calls; outcomes = is.outcomes; asked = is.asked }
  input_heard account draft TryFailed shown is = record { calls = is.calls; outcomes = is.outcomes; asked = is.asked }
  input_heard account draft (Took frame alive) shown is = frame_heard account draft frame alive shown is
  input_heard account draft (Gone event) shown is = record { calls = is.calls; outcomes = is.outcomes; asked = is.asked }

  -- FRAMES ----------------------------------------------------------------------------------------

  frame_told : (account : Account) (draft : Draft) (frame : Up) → IsOf account draft → IsOf (telling.sends terms now account frame) (sends draft frame)
  frame_told account draft up.Connect is = record { calls = is.calls; outcomes = is.outcomes; asked = refl }
  frame_told account draft (up.Begin settings) is = by account.begun
    where
      by : (b : Bool) → IsOf (record (begins account b) { last = Some (up.Begin settings) }) (sends draft (up.Begin settings))
      by true = record { calls = is.calls; outcomes = is.outcomes; asked = refl }
      by false = record { calls = is.calls; outcomes = is.outcomes; asked = refl }
  frame_told account draft (up.Call true draws call) is = record { calls = is.calls; outcomes = is.outcomes; asked = refl }
  frame_told account draft (up.Call false draws call) is = record { calls = is.calls; outcomes = is.outcomes; asked = refl }
  frame_told account draft (up.Outcome asked) is = record { calls = is.calls; outcomes = is.outcomes; asked = refl }
  frame_told account draft up.End is = record { calls = is.calls; outcomes = is.outcomes; asked = refl }
  frame_told account draft up.Close is = record { calls = is.calls; outcomes = is.outcomes; asked = refl }

  abbrev AllSent : Account → Trying → Draft → List Up → Type 0
  AllSent account trying draft frames =
      IsOf (fold (telling.sends terms now) account frames) (fold sends draft frames)
      × AreAttempts (record trying { sendings = fold (sent_under trying.held trying.over) trying.sendings frames }) (fold sends draft frames).attempts

  all_sent : (account : Account) (trying : Trying) (draft : Draft) (frames : List Up) → IsOf account draft → AreAttempts trying draft.attempts → Within trying.over trying.sendings → AllSent account trying draft frames
  all_sent account trying draft [] is are w = (is, are)
  all_sent account trying draft (frame ∷ frames) is are w =
      all_sent (telling.sends terms now account frame) (record trying { sendings = sent_under trying.held trying.over trying.sendings frame }) (sends draft frame) frames
      (frame_told account draft frame is) (frame_sent trying draft.attempts frame are w) (sent_within trying.held trying.over trying.sendings frame w)

-- SHOWN CALLS -------------------------------------------------------------------------------------

module _ (terms : Terms) (calls : List Call) (account : Account) (draft : Draft) (is : IsOf account draft) (limit : draft.limit ≡ length calls) where
  same_many : length draft.calls ≡ length account.shown
  same_many = ap length is.calls ∙ length-map account.shown shown_call

  call_shown : (shown : Shown) (b : Bool) → nat_lt (length draft.calls) draft.limit ≡ b
      → IsOf (telling.shows_found terms account shown (slice_get calls (length account.shown))) (if b then record draft { calls = draft.calls ++ shown_call shown ∷ [] } else draft)
  call_shown shown true within =
      let there : length account.shown < length calls = omega (arith, ltb-true (length draft.calls) draft.limit within, same_many, limit) in
      subst (λ (found : Option Call). IsOf (telling.shows_found terms account shown found) (record draft { calls = draft.calls ++ shown_call shown ∷ [] })) (sym (slice_get-get_or calls (length account.shown) call.Disable there))
      (record { calls = ap (λ l. l ++ shown_call shown ∷ []) is.calls ∙ sym (map-append shown_call account.shown (shown ∷ [])); outcomes = is.outcomes; asked = is.asked })
  call_shown shown false beyond =
      let none : length calls ≤ length account.shown = omega (arith, ltb-false (length draft.calls) draft.limit beyond, same_many, limit) in
      subst (λ (found : Option Call). IsOf (telling.shows_found terms account shown found) draft) (sym (slice_get_past calls (length account.shown) none)) is

  shown_so : (shown : Option Shown) → IsOf (telling.shows terms calls account shown) (shows draft shown)
  shown_so None = is
  shown_so (Some shown) = call_shown shown (nat_lt (length draft.calls) draft.limit) refl

-- WHAT STAYS --------------------------------------------------------------------------------------

record SameRest (before after : Draft) : Type 0 where
  limit : after.limit ≡ before.limit
  failed : after.failed ≡ before.failed
  sessions : after.sessions ≡ before.sessions

shown_rest : (draft : Draft) (shown : Option Shown) → SameRest draft (shows draft shown) × ((shows draft shown).attempts ≡ draft.attempts)
shown_rest draft None = (record { limit = refl; failed = refl; sessions = refl }, refl)
shown_rest draft (Some shown) = by (nat_lt (length draft.calls) draft.limit)
  where
    by : (b : Bool) → SameRest draft (if b then record draft { calls = draft.calls ++ shown_call shown ∷ [] } else draft) × ((if b then record draft { calls = draft.calls ++ shown_call shown ∷ [] } else draft).attempts ≡ draft.attempts)
    by true = (record { limit = refl; failed = refl; sessions = refl }, refl)
    by false = (record { limit = refl; failed = refl; sessions = refl }, refl)

sent_rest : (draft : Draft) (frames : List Up) → SameRest draft (fold sends draft frames)
sent_rest draft [] = record { limit = refl; failed = refl; sessions = refl }
sent_rest draft (frame ∷ frames) = let later = sent_rest (sends draft frame) frames in record { limit = later.limit; failed = later.failed; sessions = later.sessions }

-- ONE STEP ----------------------------------------------------------------------------------------

last_next : {A : Type 0} (items : List A) (before : Option A) (a : A) → last_or before (items ++ a ∷ []) ≡ Some a
last_next [] before a = refl
last_next (b ∷ items) before a = last_next items (Some b) a

one_reached : {A B : Type 0} (f : A → Option B) (a : A) (list : List B) → one_more list (f a) ≡ list ++ filter_map f (a ∷ [])
one_reached f a list = by (f a) refl
  where
    by : (o : Option _) → f a ≡ o → one_more list o ≡ list ++ filter_map f (a ∷ [])
    by None e = rw e (sym (append-nil list))
    by (Some b) e = rw e refl

-- a session is told by the same inputs
frame_session : (frame : Down) (alive : Bool) → reached_by (heard_of (Took frame alive)) ≡ reached (Took frame alive)
frame_session (down.Hello ltxid) alive = refl
frame_session (down.Reply answers draws ltxid) alive = refl
frame_session (down.OutcomeIs committed completed) alive = refl
frame_session (down.OutcomeRefused ahead next) alive = refl
frame_session down.Blocked alive = refl
frame_session (down.Refused cause) alive = refl

session_heard : (input : Input) → reached_by (heard_of input) ≡ reached input
session_heard Start = refl
session_heard Waiting = refl
session_heard (Lent connection ltxid) = refl
session_heard (Opened connection) = refl
session_heard TryFailed = refl
session_heard (Took frame alive) = frame_session frame alive
session_heard (Gone event) = refl

pub noted_so : (terms : Terms) (request : Request) (steps : List Done) (draft : Draft) (done : Done) → IsDraft terms request steps draft
    → IsDraft terms request (steps ++ done ∷ []) (notes draft (heard_of done.input) done.act.send done.act.shown done.act.failed)
noted_so terms request steps draft done is =
    let so_far : Account = account_of terms request.calls steps in
    let input = done.input in
    let shown = done.act.shown in
    let heard_draft : Draft = record (hears draft (heard_of input)) { failed = option_and_then failure_of done.act.failed; attempts = attempts.hears draft.attempts (heard_of input) shown } in
    let before : Draft = shows heard_draft shown in
    let rest = shown_rest heard_draft shown in
    let sent = sent_rest before done.act.send in
    let was = input_heard terms done.now so_far draft input shown is.told in
    let told = shown_so terms request.calls (telling.hears terms so_far input done.now shown) heard_draft (record { calls = was.calls; outcomes = was.outcomes; asked = was.asked }) is.limit shown in
    let tries = heard (trying_of steps) draft.attempts input shown is.attempts (trying_within steps) in
    let all = all_sent terms done.now (before_sends terms request.calls so_far done) (before_frames (trying_of steps) input shown) before done.act.send told (subst (AreAttempts (before_frames (trying_of steps) input shown)) (sym rest.1) tries.0) tries.1 in
    record {
      limit = sent.limit ∙ rest.0.limit ∙ is.limit;
      told = subst (λ (a : Account). IsOf a (fold sends before done.act.send)) (sym (fold_push (after_step terms request.calls) telling.unheard steps done)) all.0;
      failed = sent.failed ∙ rest.0.failed ∙ sym (ap (λ (o : Option Done). option_and_then failure_of (option_and_then (λ d. d.act.failed) o)) (last_next steps None done));
      sessions = sent.sessions ∙ rest.0.sessions ∙ ap₂ one_more is.sessions (session_heard input) ∙ one_reached (λ (d : Done). reached d.input) done (filter_map (λ d. reached d.input) steps) ∙ sym (filter_map-append (λ (d : Done). reached d.input) steps (done ∷ []));
      attempts = subst (λ (t : Trying). AreAttempts t (fold sends before done.act.send).attempts) (sym (fold_push tries_on (record { held = None; over = 0; sendings = [] }) steps done)) all.1;
    }

pub drafted_so : (terms : Terms) (request : Request) (steps : List Done) (draft : Draft) → IsDraft terms request steps draft → drafted draft ≡ report_of terms request steps
drafted_so terms request steps draft is =
    let tried = tried_all steps draft.attempts is.attempts in
    λ i. record { calls = is.told.calls i; failed = is.failed i; outcomes = is.told.outcomes i; sessions = is.sessions i; tried = tried i }
