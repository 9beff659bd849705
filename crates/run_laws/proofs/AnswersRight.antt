-- Each answer that a report tells of is by the outcome table, with as many entries of the session
-- as were stored before its event, as far as it is rightly forgotten or not.
use Rattle.std.proofs.Common.{◌≡◌, refl, sym, ap, subst, ◌∙◌, append-nil, append_assoc, Bool, true, false, ℕ, ◌+◌, ◌<◌, ◌≤◌, ◌&&◌, ◌||◌, List, [], ◌∷◌, ◌++◌, Option, Some, None, ◌⊎◌, inl, inr, arith}
use Rattle.std.specs.Prelude.{◌==◌, Contains, not, nat_lt, find, option_map}
use Rattle.std.specs.List.{list_all}
use Rattle.std.specs.Option.{option_or}
use Rattle.std.proofs.lemmas.Bool.{and_parts, and_from}
use Rattle.std.proofs.lemmas.Bool.Decides.{nat_tests}
use Rattle.std.proofs.lemmas.List.Elements.{All-weaker, Contains-append_left, Contains-append_right, Contains-push}
use Rattle.std.proofs.lemmas.List.Folds.{find-append, list_all-append}
use Rattle.svc_values.specs.declared.entry.Entry.{Entry}
use Rattle.svc_values.specs.declared.entry.Ltxid.{Ltxid}
use Rattle.svc_values.specs.declared.entry.SessionId.{SessionId}
use Rattle.svc_values.specs.declared.frame.Down.{Down}
use Rattle.svc_values.specs.declared.frame.Up.{Up}
use Rattle.svc_values.specs.declared.frame.Up.TheVariants as up
use Rattle.svc_values.specs.meaning.Identifiers.{same_ltxid, session_of}
use Rattle.svc_values.specs.meaning.Same.{same_bool}
use Rattle.svc_values.specs.SameLaws.{same_ltxid_decides, same_bool_decides}
use Rattle.ltxid_book.specs.meaning.Journal.{is_blocked}
use Rattle.commit_log.specs.Keeping.{EachKeeps}
use Rattle.outage_schedule.specs.declared.document.Document.{Document}
use Rattle.outage_schedule.specs.declared.item.Item.{Item}
use Rattle.outage_schedule.specs.declared.item.Item.TheVariants as item
use Rattle.outage_schedule.specs.declared.note.AskResult.{AskResult}
use Rattle.outage_schedule.specs.declared.note.AskResult.TheVariants as told
use Rattle.outage_schedule.specs.declared.report.Report.{Report}
use Rattle.run_clauses.specs.meaning.Before.{journal_before}
use Rattle.run_clauses.specs.meaning.EntryEvents.{commits, commits_from, stored_at, stored_before, entries_of}
use Rattle.run_clauses.specs.meaning.Moments.{HappenedAt, Happened as ToldThen, ServedItem, Asked, moments}
use Rattle.run_clauses.specs.meaning.Outcomes.{completed_of, outcome_of, is_told, is_uncommitted, is_forgotten, says_forgotten}
use Rattle.run_clauses.specs.meaning.ServiceBase.{service_base}
use Rattle.run_clauses.specs.meaning.Stored.{Kept, kept_by, next_at, horizon_before, is_answer, is_rightly_forgotten, is_right_at, answers_right}
use Rattle.server_model.specs.meaning.Base.{Base}
use Rattle.server_model.specs.Base.{IsSound}
use Rattle.server_model.specs.Core.{all_entries, all_blocked}
use Rattle.server_model.specs.Laws.{EntryNumbers, LastOf, TellsUncommitted, stops_last}
use Rattle.server_model.specs.meaning.Outcomes.{Says}
use Rattle.server_model.specs.Outcomes.{down_of, verdict_on}
use Rattle.server_model.specs.Runs.{Happened, Served as ServedFrame, Asked as WasAsked, Server, Moves, Makes, Answers, Halts, Loses, AnswersAsk, HaltsInAsk, Reaps, Falls, Opens, StopsOpening, Runs}
use Rattle.server_model.specs.Seen.{Seen}
use Rattle.server_model.specs.ServiceCalls.{CameFrom}
use Rattle.server_model.proofs.Offered.{blocks_are_stored, runs_keep_base}
use Rattle.world_model.specs.meaning.Crashing.{is_crashed_item}
use Rattle.world_model.specs.meaning.Machines.{Machine}
use Rattle.world_model.specs.records.Number.{numbered_after}
use Rattle.world_model.specs.Reported.{IsReported}
use Rattle.world_model.specs.meaning.ServiceDid.{item_telling}
use Rattle.world_model.specs.meaning.Serving.{is_item_of, commits_after, outcome_frame}
use Rattle.world_model.specs.Traced.{Traced}
use Rattle.world_model.proofs.Offered.{append_all, weaker_all, IsAnswer, move_answer, outcomes_answer, not_refused, at_event, event_of_item, finishing_coupled, finishing_sound, eq_from, eq_to, lt_from, lt_to}
use Rattle.run_laws.proofs.BlockedApart.{report_numbered}
use Rattle.run_laws.proofs.CommitsAligned.{Gains, last, gains_since, came_right}
use Rattle.run_laws.proofs.CommitsGrow.{AreOf, commits_behind, commits_more, commits_pass, before_counts}
use Rattle.run_laws.proofs.CommitsRun.{aligned}
use Rattle.run_laws.proofs.CommitsStored.{run_numbered}
use Rattle.run_laws.proofs.EventsTell.{EventTells, TellsNothing, TellsItem, TellsRun, TellsAnswer}
use Rattle.run_laws.proofs.MomentsGrow.{is_before}
use Rattle.run_laws.proofs.RunTells.{RunTells, NothingYet, TellsMore, run_tells}
use Rattle.run_laws.proofs.TableTold.{told_by_count}

-- EVENTS ------------------------------------------------------------------------------------------

abbrev pub is_from : ℕ → HappenedAt → Bool
is_from event moment = not (nat_lt moment.event event)

event_now : (m : Machine) (more : List HappenedAt) (happened : List Happened) → EventTells m more happened → list_all (λ moment. moment.event == m.event + 1) more ≡ true
event_now m _ _ TellsNothing = refl
event_now m _ _ (TellsItem number front served at_front of_front its) = and_from (served.event == m.event + 1) true (eq_to served.event (m.event + 1) (event_of_item (at_event m) front served of_front)) refl
event_now m _ _ (TellsRun ran calls runs named are) = and_from (m.event + 1 == m.event + 1) true (eq_to (m.event + 1) (m.event + 1) refl) refl
event_now m _ _ (TellsAnswer x told up) = and_from (m.event + 1 == m.event + 1) true (eq_to (m.event + 1) (m.event + 1) refl) refl

not_under : (event at : ℕ) → at ≤ event → not (nat_lt event at) ≡ true
not_under event at most = grind (arith, nat_tests, most)

from_later : (at event other : ℕ) → at ≤ event → not (nat_lt other event) ≡ true → not (nat_lt other at) ≡ true
from_later at event other most is = grind (arith, nat_tests, most, is)

pub told_before : (events : ℕ) (moments : List HappenedAt) (history : List Happened) → RunTells events moments history → list_all (is_before (events + 1)) moments ≡ true
told_before _ _ _ NothingYet = refl
told_before _ _ _ (TellsMore m moments more history happened tells one) =
    append_all (is_before (m.event + 1 + 1)) moments more
    (weaker_all (is_before (m.event + 1)) (is_before (m.event + 1 + 1)) moments
    (λ moment below. let under : moment.event < m.event + 1 = lt_from moment.event (m.event + 1) below in lt_to moment.event (m.event + 1 + 1) (omega (arith, under))) (told_before m.event moments history tells))
    (weaker_all (λ (moment : HappenedAt). moment.event == m.event + 1) (is_before (m.event + 1 + 1)) more
    (λ moment is. let at : moment.event ≡ m.event + 1 = eq_from moment.event (m.event + 1) is in lt_to moment.event (m.event + 1 + 1) (omega (arith, at))) (event_now m more happened one))

-- this event's and later ones
pub from_event_on : (m : Machine) (more rest : List HappenedAt) (happened : List Happened) → EventTells m more happened → list_all (is_from (m.event + 1 + 1)) rest ≡ true → list_all (is_from (m.event + 1)) (more ++ rest) ≡ true
from_event_on m more rest happened one later =
    append_all (is_from (m.event + 1)) more rest
    (weaker_all (λ (moment : HappenedAt). moment.event == m.event + 1) (is_from (m.event + 1)) more
    (λ moment is. let at : moment.event ≡ m.event + 1 = eq_from moment.event (m.event + 1) is in not_under moment.event (m.event + 1) (omega (arith, at))) (event_now m more happened one))
    (weaker_all (is_from (m.event + 1 + 1)) (is_from (m.event + 1)) rest (λ moment is. from_later (m.event + 1) (m.event + 1 + 1) moment.event (omega arith) is) later)

-- QUESTIONS ---------------------------------------------------------------------------------------

-- it was asked, in a frame or from outside, and told so
data IsQuestion (x : Ltxid) (told : AskResult) : Happened → Type 0 where
  ByFrame : (session : SessionId) (now : ℕ) → IsQuestion x told (ServedFrame session now (up.Outcome x) (Says (outcome_frame told)))
  ByAsk : IsQuestion x told (WasAsked x (Says (outcome_frame told)))

move_asked : (server after : Server) (more : List Happened) → Moves server more after → (x : Ltxid) (frame : Down) → more ≡ WasAsked x (Says frame) ∷ [] → IsAnswer server.core after.core x frame
move_asked server _ _ (AnswersAsk y core said on asks) x frame is = outcomes_answer server.core y core (Says said) asks x frame (let same : y ≡ x = cc in same) (let same : Says said ≡ Says frame = cc in same)
move_asked server _ _ (HaltsInAsk y core said running asks) x frame is = absurd (let none : ⊥ = cc in none)
move_asked server _ _ (Makes on) x frame is = absurd (let none : ⊥ = cc in none)
move_asked server _ _ (Answers old new at one core said after on serve answered turns) x frame is = absurd (let none : ⊥ = cc in none)
move_asked server _ _ (Halts old new at one core said after running serve turns) x frame is = absurd (let none : ⊥ = cc in none)
move_asked server _ _ (Loses old at one after halted turns) x frame is = absurd (let none : ⊥ = cc in none)
move_asked server _ _ (Reaps front back sess split) x frame is = absurd (let none : ⊥ = cc in none)
move_asked server _ _ Falls x frame is = absurd (let none : ⊥ = cc in none)
move_asked server _ _ (Opens below off may) x frame is = absurd (let none : ⊥ = cc in none)
move_asked server _ _ (StopsOpening below core off may same) x frame is = absurd (let none : ⊥ = cc in none)

unrefused : (x : Ltxid) (told : AskResult) (before behind : Server) → IsAnswer before.core behind.core x (outcome_frame told)
    → (outcome_frame told ≡ down_of (verdict_on before.core x)) × (behind.core.entries ≡ before.core.entries)
unrefused x told before behind (inl refused) = absurd (not_refused told refused)
unrefused x told before behind (inr answer) = answer

-- by the table on the store before, which gained no entry
question_answer : (x : Ltxid) (told : AskResult) (one : Happened) → IsQuestion x told one → (before behind : Server) → Moves before (one ∷ []) behind
    → (outcome_frame told ≡ down_of (verdict_on before.core x)) × (behind.core.entries ≡ before.core.entries)
question_answer x told _ (ByFrame session now) before behind moves = unrefused x told before behind (move_answer before behind _ moves session now x (outcome_frame told) refl)
question_answer x told _ ByAsk before behind moves = unrefused x told before behind (move_asked before behind _ moves x (outcome_frame told) refl)

tells_uncommitted : (x : Ltxid) (one : Happened) → IsQuestion x told.Uncommitted one → TellsUncommitted x one
tells_uncommitted x _ (ByFrame session now) = refl
tells_uncommitted x _ ByAsk = refl

unless_uncommitted : (result : AskResult) (blocked : Bool) → (result ≡ told.Uncommitted → blocked ≡ true) → (not (is_uncommitted result) || blocked) ≡ true
unless_uncommitted told.Uncommitted blocked is = is refl
unless_uncommitted (told.Committed completed) blocked is = refl
unless_uncommitted (told.ServerAhead next) blocked is = refl
unless_uncommitted (told.ClientAhead next) blocked is = refl
unless_uncommitted (told.Forgotten horizon) blocked is = refl

completed_kept : (entries more : List Entry) (x : Ltxid) (completed : Bool) → completed_of entries x ≡ Some completed → completed_of (entries ++ more) x ≡ Some completed
completed_kept entries more x completed is =
    ap (option_map (λ (e : Entry). e.completed)) (find-append (λ (e : Entry). same_ltxid e.ltxid x) entries more) ∙ by (find (λ (e : Entry). same_ltxid e.ltxid x) entries) is
  where
    by : (found : Option Entry) → option_map (λ (e : Entry). e.completed) found ≡ Some completed → option_map (λ (e : Entry). e.completed) (option_or found (find (λ (e : Entry). same_ltxid e.ltxid x) more)) ≡ Some completed
    by None is = absurd (let none : ⊥ = cc in none)
    by (Some entry) is = is

forgotten_parts : (result : AskResult) (old : Bool) (horizon : ℕ) → (same_bool (is_forgotten result) old && (not (is_forgotten result) || says_forgotten result horizon)) ≡ true
    → (is_forgotten result ≡ old) × (is_forgotten result ≡ true → says_forgotten result horizon ≡ true)
forgotten_parts result old horizon is =
    let parts = and_parts (same_bool (is_forgotten result) old) (not (is_forgotten result) || says_forgotten result horizon) is in
    ((same_bool_decides (is_forgotten result) old).0 parts.0, by (is_forgotten result) parts.1)
  where
    by : (lost : Bool) → (not lost || says_forgotten result horizon) ≡ true → lost ≡ true → says_forgotten result horizon ≡ true
    by true is same = is
    by false is same = absurd (let none : ⊥ = cc in none)

-- THE REPORT --------------------------------------------------------------------------------------

-- an answer says forgotten exactly below the horizon at its event, and with that horizon
abbrev pub forgets_at : Kept → ℕ → ToldThen → Bool
forgets_at k event (Asked x result) = is_rightly_forgotten k event x result
forgets_at k event (ServedItem session (item.Outcome x result)) = is_rightly_forgotten k event x result
forgets_at k event _ = true

module _ (keeps : EachKeeps) (numbers : EntryNumbers) (document : Document) (report : Report) (seen : Seen) (t : Traced) (server : Server) (is : IsReported document report seen t server) where
  abbrev base : Base
  base = service_base document

  abbrev k : Kept
  k = kept_by document report

  abbrev final : List Entry
  final = report.entries

  sound : IsSound (service_base document)
  sound = finishing_sound document is.run.place report.notes report.served seen t is.run.finishing

  numbered : numbered_after [] ((service_base document).entries ++ report.entries) ≡ true
  numbered = report_numbered keeps numbers document report seen t server is

  abbrev right : HappenedAt → Bool
  right moment = is_right_at k moment.event moment.happened

  abbrev forgets : HappenedAt → Bool
  forgets moment = forgets_at k moment.event moment.happened

  -- AN ANSWER -------------------------------------------------------------------------------------

  module _ (before_event : ℕ) (told_so_far rest : List HappenedAt) (history later : List Happened) (tells : RunTells before_event told_so_far history) (one : Happened) (x : Ltxid) (result : AskResult) (question : IsQuestion x result one)
      (whole : seen.history ≡ history ++ one ∷ later) (all : moments report ≡ told_so_far ++ rest) (event : ℕ) (earlier : list_all (λ (moment : HappenedAt). nat_lt moment.event event) told_so_far ≡ true)
      (behind : list_all (λ (moment : HappenedAt). not (nat_lt moment.event event)) rest ≡ true) where
    gains : Gains base (history ++ one ∷ []) later server
    gains = gains_since base (history ++ one ∷ []) later server (subst (λ (h : List Happened). Runs base h server) (whole ∙ sym (append_assoc history (one ∷ []) later)) is.runs)

    moved : LastOf base history one gains.before
    moved = last base history one gains.before gains.runs

    abbrev store : Server
    store = moved.before

    answer : (outcome_frame result ≡ down_of (verdict_on store.core x)) × (moved.behind.core.entries ≡ store.core.entries)
    answer = question_answer x result one question store moved.behind moved.moves

    split : final ≡ store.core.entries ++ gains.few
    split = is.entries ∙ (gains.entries ∙ ap (λ (l : List Entry). l ++ gains.few) (moved.same.entries ∙ answer.1))

    -- the entries that were stored before are those of the commits before
    are : AreOf store.core.entries (commits_from final [] told_so_far)
    are =
        aligned base sound numbers final numbered before_event told_so_far history tells (one ∷ later) store moved.runs
        (subst (λ (h : List Happened). stops_last h ≡ true) whole (finishing_coupled document is.run.place report.notes report.served seen t is.run.finishing).stops) gains.few split
        (All-weaker (CameFrom later) (CameFrom (one ∷ later)) (came_right (one ∷ []) later) gains.few gains.came)

    commits_split : commits report ≡ commits_from final [] told_so_far ++ commits_from final (commits_behind final [] told_so_far) rest
    commits_split = ap (commits_from final []) all ∙ commits_more final [] told_so_far rest

    -- so many entries its session had
    count : next_at k event x ≡ entries_of ((journal_before document).entries ++ store.core.entries) (session_of x)
    count =
        (λ i. stored_before (journal_before document).entries (stored_at (split i) (commits_split i)) (session_of x) event)
        ∙ before_counts (session_of x) event (journal_before document).entries store.core.entries gains.few (commits_from final [] told_so_far) (commits_from final (commits_behind final [] told_so_far) rest) are
        (commits_pass (λ (n : ℕ). nat_lt n event) final [] told_so_far earlier)
        (commits_pass (λ (n : ℕ). not (nat_lt n event)) final (commits_behind final [] told_so_far) rest behind)

    entries_then : all_entries store.core ≡ (journal_before document).entries ++ store.core.entries
    entries_then = ap (λ (b : Base). b.entries ++ store.core.entries) (runs_keep_base base history store moved.runs)

    numbered_then : numbered_after [] (all_entries store.core) ≡ true
    numbered_then = subst (λ (l : List Entry). numbered_after [] l ≡ true) (sym entries_then) (run_numbered base sound numbers final numbered history store moved.runs)

    completed_then : (completed : Bool) → completed_of (all_entries store.core) x ≡ Some completed → completed_of k.entries x ≡ Some completed
    completed_then completed found =
        ap (λ (l : List Entry). completed_of l x) (ap (λ (l : List Entry). (journal_before document).entries ++ l) split ∙ sym (append_assoc (journal_before document).entries store.core.entries gains.few))
        ∙ completed_kept ((journal_before document).entries ++ store.core.entries) gains.few x completed (ap (λ (l : List Entry). completed_of l x) (sym entries_then) ∙ found)

    blocked_now : result ≡ told.Uncommitted → is_blocked k.blocked x ≡ true
    blocked_now same =
        let contains : Contains seen.history one = subst (λ (h : List Happened). Contains h one) (sym whole) (Contains-append_right history (one ∷ later) one (Contains-append_left (one ∷ []) later one (Contains-push [] one))) in
        ap (λ (l : List Ltxid). is_blocked ((journal_before document).blocked ++ l) x) is.blocked
        ∙ (ap (λ (b : Base). is_blocked (b.blocked ++ server.core.blocked) x) (sym (runs_keep_base base seen.history server is.runs))
        ∙ blocks_are_stored base seen.history server is.runs x one contains (tells_uncommitted x one (subst (λ (r : AskResult). IsQuestion x r one) same question)))

    one_right : is_rightly_forgotten k event x result ≡ true → is_answer k event x result ≡ true
    one_right forgotten =
        let parts = forgotten_parts result (nat_lt x.incarnation (horizon_before k event)) (horizon_before k event) forgotten in
        and_from (is_told (outcome_of (horizon_before k event) (next_at k event x) (completed_of k.entries x) x) result) (not (is_uncommitted result) || is_blocked k.blocked x)
        (told_by_count result store.core.horizon (all_entries store.core) (all_blocked store.core) x numbered_then answer.0 (completed_of k.entries x) (next_at k event x) (horizon_before k event)
        (count ∙ ap (λ (l : List Entry). entries_of l (session_of x)) (sym entries_then)) completed_then parts.0 parts.1)
        (unless_uncommitted result (is_blocked k.blocked x) blocked_now)

  -- AN EVENT --------------------------------------------------------------------------------------

  item_right : (before_event : ℕ) (told_so_far rest : List HappenedAt) (history later : List Happened) → RunTells before_event told_so_far history → (session : SessionId) (now : ℕ) (frame : Up) (one : Item) (count : ℕ)
      → (is_item_of frame one ≡ true) ⊎ (is_crashed_item frame one ≡ true) → seen.history ≡ history ++ ServedFrame session now frame (item_telling session count one) ∷ later → moments report ≡ told_so_far ++ rest → (event : ℕ)
      → list_all (λ (moment : HappenedAt). nat_lt moment.event event) told_so_far ≡ true → list_all (λ (moment : HappenedAt). not (nat_lt moment.event event)) rest ≡ true
      → forgets_at k event (ServedItem session one) ≡ true → is_right_at k event (ServedItem session one) ≡ true
  item_right before_event told_so_far rest history later tells session now (up.Outcome x) (item.Outcome asked result) count (inl its) whole all event earlier behind forgotten =
      let named : asked ≡ x = (same_ltxid_decides asked x).0 its in
      let what : Happened = ServedFrame session now (up.Outcome x) (Says (outcome_frame result)) in
      and_from (is_answer k event asked result) (is_rightly_forgotten k event asked result)
      (one_right before_event told_so_far rest history later tells what asked result (subst (λ (y : Ltxid). IsQuestion asked result (ServedFrame session now (up.Outcome y) (Says (outcome_frame result)))) named (ByFrame session now)) whole all event earlier behind forgotten)
      forgotten
  item_right before_event told_so_far rest history later tells session now frame (item.Outcome asked result) count (inl its) whole all event earlier behind forgotten = absurd (let none : ⊥ = cc in none)
  item_right before_event told_so_far rest history later tells session now frame (item.Outcome asked result) count (inr its) whole all event earlier behind forgotten = absurd (let none : ⊥ = cc in none)
  item_right before_event told_so_far rest history later tells session now frame one count its whole all event earlier behind forgotten = refl

  event_right : (m : Machine) (told_so_far more rest : List HappenedAt) (history happened later : List Happened) → RunTells m.event told_so_far history → EventTells m more happened
      → seen.history ≡ history ++ (happened ++ later) → moments report ≡ told_so_far ++ (more ++ rest) → list_all (is_from (m.event + 1)) (more ++ rest) ≡ true → list_all forgets more ≡ true → list_all right more ≡ true
  event_right m told_so_far _ rest history _ later tells TellsNothing whole all behind forgotten = refl
  event_right m told_so_far _ rest history _ later tells (TellsItem number front served at_front of_front its) whole all behind forgotten =
      let at : m.event + 1 ≡ served.event = sym (event_of_item (at_event m) front served of_front) in
      and_from (is_right_at k served.event (ServedItem served.session served.item)) true
      (item_right m.event told_so_far (record { event = served.event; happened = ServedItem served.session served.item } ∷ rest) history later tells served.session m.tick front.first.frame served.item (commits_after front.link served.item) its whole all served.event
      (subst (λ (n : ℕ). list_all (λ (moment : HappenedAt). nat_lt moment.event n) told_so_far ≡ true) at (told_before m.event told_so_far history tells))
      (subst (λ (n : ℕ). list_all (λ (moment : HappenedAt). not (nat_lt moment.event n)) (record { event = served.event; happened = ServedItem served.session served.item } ∷ rest) ≡ true) at behind)
      (and_parts (forgets_at k served.event (ServedItem served.session served.item)) true forgotten).0)
      refl
  event_right m told_so_far _ rest history _ later tells (TellsRun ran calls runs named ran_so) whole all behind forgotten = refl
  event_right m told_so_far _ rest history _ later tells (TellsAnswer x result up) whole all behind forgotten =
      and_from (is_answer k (m.event + 1) x result) true
      (one_right m.event told_so_far (record { event = m.event + 1; happened = Asked x result } ∷ rest) history later tells (WasAsked x (Says (outcome_frame result))) x result ByAsk whole all (m.event + 1)
      (told_before m.event told_so_far history tells) behind (and_parts (is_rightly_forgotten k (m.event + 1) x result) true forgotten).0)
      refl

  -- ALL EVENTS ------------------------------------------------------------------------------------

  run_right : (events : ℕ) (told_so_far : List HappenedAt) (history : List Happened) → RunTells events told_so_far history → (rest : List HappenedAt) (later : List Happened) → moments report ≡ told_so_far ++ rest
      → list_all (is_from (events + 1)) rest ≡ true → seen.history ≡ history ++ later → list_all forgets told_so_far ≡ true → list_all right told_so_far ≡ true
  run_right _ _ _ NothingYet rest later all behind whole forgotten = refl
  run_right _ _ _ (TellsMore m told_so_far more history happened tells one) rest later all behind whole forgotten =
      let parts = and_parts (list_all forgets told_so_far) (list_all forgets more) (sym (list_all-append forgets told_so_far more) ∙ forgotten) in
      let all_then : moments report ≡ told_so_far ++ (more ++ rest) = all ∙ append_assoc told_so_far more rest in
      let whole_then : seen.history ≡ history ++ (happened ++ later) = whole ∙ append_assoc history happened later in
      let behind_then : list_all (is_from (m.event + 1)) (more ++ rest) ≡ true = from_event_on m more rest happened one behind in
      append_all right told_so_far more (run_right m.event told_so_far history tells (more ++ rest) (happened ++ later) all_then behind_then whole_then parts.0)
      (event_right m told_so_far more rest history happened later tells one whole_then all_then behind_then parts.1)

  -- All answers of the report are right, where each is rightly forgotten or not.
  pub answers_by_count : list_all forgets (moments report) ≡ true → answers_right (kept_by document report) report ≡ true
  answers_by_count forgotten =
      run_right t.machine.event (moments report) seen.history (run_tells document is.run.place report.notes report.served seen t is.run.finishing) [] [] (sym (append-nil (moments report))) refl (sym (append-nil seen.history)) forgotten
