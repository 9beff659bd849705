-- A run's items are legal but for their draws and for what is answered Blocked, and `RunsLegal`
-- follows from these two.
use Rattle.std.specs.Prelude.{◌≡◌, ◌+◌, ◌==◌, ◌&&◌, ℕ, Bool, true, not, IsTrue, List, [], ◌∷◌, ◌++◌, map}
use Rattle.std.proofs.Common.{refl, sym, ◌∙◌, ap, arith, append-nil, append_assoc}
use Rattle.std.proofs.lemmas.Bool.Decides.{nat_tests}
use Rattle.svc_values.specs.declared.entry.Entry.{Entry}
use Rattle.svc_values.specs.declared.frame.Up.{Up}
use Rattle.svc_values.specs.declared.frame.Down.TheVariants as down
use Rattle.stmt_meaning.specs.meaning.SerialTest.{is_nil}
use Rattle.ltxid_book.specs.meaning.Journal.{is_blocked, committed_of}
use Rattle.server_model.specs.meaning.Base.{Base}
use Rattle.server_model.specs.Base.{IsSound}
use Rattle.server_model.specs.Core.{Core}
use Rattle.svc_values.specs.declared.entry.SessionId.{SessionId}
use Rattle.svc_values.specs.meaning.Identifiers.{session_of}
use Rattle.server_model.specs.Sessions.{Life, Ended, Sess, ended}
use Rattle.server_model.specs.meaning.Outcomes.{Telling, Silent, Says, Stopped}
use Rattle.server_model.specs.Runs.{Happened, Served, Asked, Server, Turns, Moves, Makes, Answers, Halts, Loses, AnswersAsk, HaltsInAsk, Reaps, Falls, Opens, StopsOpening, Runs, Start, Then, On, Halted, Power, is_running}
use Rattle.server_model.specs.meaning.Items.{thing_of}
use Rattle.server_model.specs.Items.{item_of, items_from, items_of}
use Rattle.server_model.specs.meaning.Walk.{Walk, walk_of, Deed, Nothing, Meaningless, Ran, entered, deed_of, next_of}
use Rattle.server_model.specs.meaning.Legal.{legal, items_hold, all_stored, deed_holds, thing_holds, is_of_now, answers_hold, is_free, stores}
use Rattle.server_model.specs.Laws.{stops_last}
use Rattle.server_model.proofs.Steps.{serve_alive}
use Rattle.server_model.proofs.Counts.{count}
use Rattle.server_model.proofs.Numbers.{Numbered}
use Rattle.server_model.proofs.NumberRuns.{runs_number}
use Rattle.server_model.proofs.Fronts.{moves_front}
use Rattle.server_model.proofs.Alerts.{runs_alerts}
use Rattle.server_model.proofs.walks.Following.{walk_behind, walked, next-same}
use Rattle.server_model.proofs.walks.FollowedStops.{serve-gains}
use Rattle.server_model.proofs.draws.DrawnFrames.{deed_draws}
use Rattle.server_model.proofs.walks.LegalFrames.{deed_but}
use Rattle.server_model.proofs.walks.LegalServed.{BlocksIn, serve-right, stopped-right, lost-right}
use Rattle.server_model.proofs.walks.WalkBlocks.{blocks-in, enter-blocked}
use Rattle.server_model.proofs.StoppedHistories.{Later, later-left, later-right, later-none, stops-left, and-left, and-right, and-both}
use Rattle.server_model.proofs.walks.WalkFrames.{Walks, mine, enters, at, left}
use Rattle.server_model.proofs.walks.WalkMoves.{lives_walked, and-true}
use Rattle.server_model.proofs.walks.WalkRuns.{moves-later, runs-walk}

-- each item is of the opening that is, and its deed meets what it has to, but for the draws
abbrev pub served_but : Base → Walk → List Happened → Bool
served_but base walk [] = true
served_but base walk (Served session now frame told ∷ more) =
    let here = entered walk (item_of 0 (Served session now frame told)) in
    (is_of_now here session && deed_but here (deed_of base here (item_of 0 (Served session now frame told)))) && served_but base (walk_behind base walk (Served session now frame told)) more
served_but base walk (Asked x told ∷ more) = served_but base (walk_behind base walk (Asked x told)) more

-- the draws of each deed are as they have to be, and each call that was answered Blocked may be so
abbrev pub drawn_but : Base → Walk → List Happened → Bool
drawn_but base walk [] = true
drawn_but base walk (Served session now frame told ∷ more) =
    let here = entered walk (item_of 0 (Served session now frame told)) in
    (deed_draws base here (deed_of base here (item_of 0 (Served session now frame told))) && thing_holds base here now session (thing_of frame told)) && drawn_but base (walk_behind base walk (Served session now frame told)) more
drawn_but base walk (Asked x told ∷ more) = drawn_but base (walk_behind base walk (Asked x told)) more

-- ---- each move

same-number : (m n : ℕ) → m ≡ n → (n == m) ≡ true
same-number m n same = grind (arith, nat_tests)

module _ (base : Base) (history : List Happened) (server : Server) (rest gained : List Entry) (walk : Walk) (lives : List (SessionId × Life)) (numbered : Numbered base server) (walks : Walks history server (gained ++ rest) walk lives) (blocks : BlocksIn walk server.core)
    (after : Server) (old new : Sess) (now : ℕ) (frame : Up) (core : Core) (power : Power) (running : IsTrue (is_running server.power)) (turns : Turns server after old new core power) (told : Telling)
    (stops : stops_last (history ++ Served (session_of old.ltxid) now frame told ∷ []) ≡ true) (grew : core.entries ≡ server.core.entries ++ gained) where
  of-now : is_of_now (entered walk (item_of 0 (Served (session_of old.ltxid) now frame told))) (session_of old.ltxid) ≡ true
  of-now =
      let in_it = enters base history server rest gained walk lives numbered walks after old new now frame core power running turns told stops grew in
      and-both (not (entered walk (item_of 0 (Served (session_of old.ltxid) now frame told))).is_over) _ (ap not in_it.over) (same-number _ old.ltxid.incarnation in_it.incarnation)

  number-here : (old.life ≡ Ended → ⊥) → next_of (entered walk (item_of 0 (Served (session_of old.ltxid) now frame told))) (session_of old.ltxid) ≡ old.ltxid
  number-here alive =
      let own = mine base history server rest gained walk lives numbered walks after old new now frame core power running turns told stops grew in
      let here_at = at base history server rest gained walk lives numbered walks after old new now frame core power running turns told stops grew in
      next-same (entered walk (item_of 0 (Served (session_of old.ltxid) now frame told))).stored old (own.number alive ∙ ap (λ s. count (map committed_of s) old.ltxid.incarnation old.ltxid.session) (sym here_at.stored))

  blocks-here : BlocksIn (entered walk (item_of 0 (Served (session_of old.ltxid) now frame told))) server.core
  blocks-here x is = blocks x (ap (λ b. is_blocked b x) (sym (enter-blocked walk (session_of old.ltxid) now (thing_of frame told))) ∙ is)

step-right : (base : Base) (history more : List Happened) (server after : Server) (rest gained : List Entry) (walk : Walk) (lives : List (SessionId × Life)) → Numbered base server → Moves server more after
    → stops_last (history ++ more) ≡ true → Later rest (history ++ more) → after.core.entries ≡ server.core.entries ++ gained → Walks history server (gained ++ rest) walk lives → BlocksIn walk server.core → served_but base walk more ≡ true
step-right base history _ server _ rest gained walk lives numbered (Makes on) stops later grew walks blocks = refl
step-right base history _ server _ rest gained walk lives numbered (Answers old new now frame core told after on serve answered turns) stops later grew walks blocks =
    let grew_here : core.entries ≡ server.core.entries ++ gained = sym (ap (λ (s : Server). s.core.entries) turns.turned) ∙ grew in
    and-true _ (and-both _ _ (of-now base history server rest gained walk lives numbered walks blocks after old new now frame core On (ap is_running on) turns told stops grew_here)
    (serve-right base server.core (entered walk (item_of 0 (Served (session_of old.ltxid) now frame told))) old
    (at base history server rest gained walk lives numbered walks after old new now frame core On (ap is_running on) turns told stops grew_here) rest
    (number-here base history server rest gained walk lives numbered walks blocks after old new now frame core On (ap is_running on) turns told stops grew_here (serve_alive server.core old now frame core new told serve))
    (blocks-here base history server rest gained walk lives numbered walks blocks after old new now frame core On (ap is_running on) turns told stops grew_here)
    now frame core new told (left base history server rest gained walk lives numbered walks after old new now frame core On (ap is_running on) turns told stops grew_here) serve answered))
step-right base history _ server _ rest gained walk lives numbered (Halts old new now frame core told after running serve turns) stops later grew walks blocks =
    let grew_here : core.entries ≡ server.core.entries ++ gained = sym (ap (λ (s : Server). s.core.entries) turns.turned) ∙ grew in
    and-true _ (and-both _ _ (of-now base history server rest gained walk lives numbered walks blocks after old new now frame core Halted running turns Stopped stops grew_here)
    (stopped-right base server.core (entered walk (item_of 0 (Served (session_of old.ltxid) now frame Stopped))) old
    (at base history server rest gained walk lives numbered walks after old new now frame core Halted running turns Stopped stops grew_here) rest
    (number-here base history server rest gained walk lives numbered walks blocks after old new now frame core Halted running turns Stopped stops grew_here (serve_alive server.core old now frame core new told serve))
    (blocks-here base history server rest gained walk lives numbered walks blocks after old new now frame core Halted running turns Stopped stops grew_here)
    now frame core (left base history server rest gained walk lives numbered walks after old new now frame core Halted running turns Stopped stops grew_here)
    (later-right rest history (Served (session_of old.ltxid) now frame Stopped ∷ []) later).0 (serve-gains server.core old now frame core new told serve)))
step-right base history _ server _ rest gained walk lives numbered (Loses old now frame after halt turns) stops later grew walks blocks =
    let grew_here : server.core.entries ≡ server.core.entries ++ gained = sym (ap (λ (s : Server). s.core.entries) turns.turned) ∙ grew in
    and-true _ (and-both _ _ (of-now base history server rest gained walk lives numbered walks blocks after old (ended old) now frame server.core Halted (ap is_running halt) turns Stopped stops grew_here)
    (lost-right base server.core (entered walk (item_of 0 (Served (session_of old.ltxid) now frame Stopped))) old
    (at base history server rest gained walk lives numbered walks after old (ended old) now frame server.core Halted (ap is_running halt) turns Stopped stops grew_here) rest
    now frame (left base history server rest gained walk lives numbered walks after old (ended old) now frame server.core Halted (ap is_running halt) turns Stopped stops grew_here [] (sym (append-nil server.core.entries)))
    (later-right rest history (Served (session_of old.ltxid) now frame Stopped ∷ []) later).0))
step-right base history _ server _ rest gained walk lives numbered (AnswersAsk x core frame on asked) stops later grew walks blocks = refl
step-right base history _ server _ rest gained walk lives numbered (HaltsInAsk x core told running asked) stops later grew walks blocks = refl
step-right base history _ server _ rest gained walk lives numbered (Reaps front back sess split) stops later grew walks blocks = refl
step-right base history _ server _ rest gained walk lives numbered Falls stops later grew walks blocks = refl
step-right base history _ server _ rest gained walk lives numbered (Opens below off may) stops later grew walks blocks = refl
step-right base history _ server _ rest gained walk lives numbered (StopsOpening below core off may same) stops later grew walks blocks = refl

-- ---- a whole run

but-more : (base : Base) (walk : Walk) (history more : List Happened) → served_but base walk history ≡ true → served_but base (walked base walk history) more ≡ true → served_but base walk (history ++ more) ≡ true
unfolding walked
but-more base walk [] more one other = other
but-more base walk (Served session now frame told ∷ history) more one other =
    let b = is_of_now (entered walk (item_of 0 (Served session now frame told))) session && deed_but (entered walk (item_of 0 (Served session now frame told))) (deed_of base (entered walk (item_of 0 (Served session now frame told))) (item_of 0 (Served session now frame told))) in
    and-both b _ (and-left b _ one) (but-more base (walk_behind base walk (Served session now frame told)) history more (and-right b _ one) other)
but-more base walk (Asked x told ∷ history) more one other = but-more base (walk_behind base walk (Asked x told)) history more one other

-- The items of a run are legal, but for draws and for what is answered Blocked.
pub runs-served : (base : Base) (history : List Happened) (server : Server) → IsSound base → Runs base history server → stops_last history ≡ true → (rest final : List Entry) → Later rest history → final ≡ server.core.entries ++ rest → served_but base (walk_of base final) history ≡ true
runs-served base _ _ sound Start stops rest final later is = refl
runs-served base _ _ sound (Then history more server after runs moves) stops rest final later is =
    let front = moves_front server after more moves in
    let gained = front.more_entries in
    let before = stops-left history more stops in
    let numbered = runs_number base history server sound runs in
    let later_here = moves-later history more server after rest gained moves front.entries stops (later-left rest history more later) in
    let is_here = is ∙ ap (λ e. e ++ rest) front.entries ∙ append_assoc server.core.entries gained rest in
    let whole = runs-walk base history server sound runs before (gained ++ rest) final later_here is_here in
    but-more base (walk_of base final) history more (runs-served base history server sound runs before (gained ++ rest) final later_here is_here)
    (step-right base history more server after rest gained (walked base (walk_of base final) history) (lives_walked [] history) numbered moves stops later front.entries whole.walks
    (λ x blocked. blocks-in base history server runs numbered.is final x blocked))

-- ---- what is left of RunsLegal

deed-both : (base : Base) (here : Walk) (did : Deed) → deed_but here did ≡ true → deed_draws base here did ≡ true → deed_holds base here did ≡ true
deed-both base here Nothing but draws = refl
deed-both base here Meaningless but draws = but
deed-both base here (Ran performed meant) but draws =
    let used = is_nil meant.rest in
    let answers = answers_hold here performed meant in
    let free = is_free here performed in
    let stored = stores here performed meant in
    let one = and-right used (answers && (free && stored)) but in
    let two = and-right answers (free && stored) one in
    and-both used _ (and-left used _ but) (and-both answers _ (and-left answers _ one) (and-both free _ (and-left free stored two) (and-both stored _ (and-right free stored two) draws)))

items-hold : (base : Base) (walk : Walk) (history : List Happened) (event : ℕ) → served_but base walk history ≡ true → drawn_but base walk history ≡ true → all_stored (walked base walk history).left ≡ true → items_hold base walk (items_from event history) ≡ true
unfolding walked
items-hold base walk [] event served drawn stored = stored
items-hold base walk (Served session now frame told ∷ history) event served drawn stored =
    let item = item_of 0 (Served session now frame told) in
    let here = entered walk item in
    let did = deed_of base here item in
    let of_now = is_of_now here session in
    let but = deed_but here did in
    let draws = deed_draws base here did in
    let thing = thing_holds base here now session (thing_of frame told) in
    let first = and-left (of_now && but) _ served in
    let own = and-left (draws && thing) _ drawn in
    and-both _ _ (and-both of_now _ (and-left of_now but first) (and-both _ _ (deed-both base here did (and-right of_now but first) (and-left draws thing own)) (and-right draws thing own)))
    (items-hold base (walk_behind base walk (Served session now frame told)) history (event + 1) (and-right (of_now && but) _ served) (and-right (draws && thing) _ drawn) stored)
items-hold base walk (Asked x Silent ∷ history) event served drawn stored = items-hold base _ history (event + 1) served drawn stored
items-hold base walk (Asked x Stopped ∷ history) event served drawn stored = items-hold base _ history (event + 1) served drawn stored
items-hold base walk (Asked x (Says (down.Hello y)) ∷ history) event served drawn stored = items-hold base _ history (event + 1) served drawn stored
items-hold base walk (Asked x (Says (down.Reply answers draws y)) ∷ history) event served drawn stored = items-hold base _ history (event + 1) served drawn stored
items-hold base walk (Asked x (Says (down.OutcomeIs committed completed)) ∷ history) event served drawn stored = items-hold base _ history (event + 1) served drawn stored
items-hold base walk (Asked x (Says (down.OutcomeRefused ahead next)) ∷ history) event served drawn stored = items-hold base _ history (event + 1) served drawn stored
items-hold base walk (Asked x (Says down.Blocked) ∷ history) event served drawn stored = items-hold base _ history (event + 1) served drawn stored
items-hold base walk (Asked x (Says (down.Refused cause)) ∷ history) event served drawn stored = items-hold base _ history (event + 1) served drawn stored

-- A run whose draws are as they have to be, and whose Blocked ones may be so, is legal.
pub legal-drawn : (base : Base) (history : List Happened) (server : Server) → IsSound base → Runs base history server → stops_last history ≡ true → drawn_but base (walk_of base server.core.entries) history ≡ true
    → legal base (items_of history) server.core.entries server.core.alerts ≡ true
legal-drawn base history server sound runs stops drawn =
    let whole = runs-walk base history server sound runs stops [] server.core.entries (later-none history) (sym (append-nil server.core.entries)) in
    and-both (items_hold base (walk_of base server.core.entries) (items_of history)) _
    (items-hold base (walk_of base server.core.entries) history 0 (runs-served base history server sound runs stops [] server.core.entries (later-none history) (sym (append-nil server.core.entries))) drawn (ap all_stored whole.walks.left))
    (runs_alerts base history server runs)
