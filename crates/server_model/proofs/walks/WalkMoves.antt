-- The walk keeps to the server at each of its moves.
use Rattle.std.specs.Prelude.{◌≡◌, ◌+◌, ◌&&◌, ◌<◌, ◌≤◌, ℕ, Bool, true, false, IsTrue, List, [], ◌∷◌, ◌++◌, map}
use Rattle.std.proofs.Common.{refl, inl, inr, sym, ◌∙◌, ap, subst, arith, append-nil}
use Rattle.svc_values.specs.declared.entry.Ltxid.{Ltxid}
use Rattle.svc_values.specs.declared.entry.Entry.{Entry}
use Rattle.svc_values.specs.declared.frame.Up.{Up}
use Rattle.svc_values.specs.declared.frame.Up.TheVariants as up
use Rattle.ltxid_book.specs.declared.verdict.Verdict.{Verdict}
use Rattle.ltxid_book.specs.declared.verdict.Verdict.TheVariants as verdict
use Rattle.mutable_values.specs.Sources.{Opening}
use Rattle.ltxid_book.specs.meaning.Journal.{committed_of}
use Rattle.server_model.specs.meaning.Base.{Base}
use Rattle.server_model.specs.Core.{Core, committed, tables_with}
use Rattle.svc_values.specs.declared.entry.SessionId.{SessionId}
use Rattle.svc_values.specs.meaning.Identifiers.{session_of}
use Rattle.server_model.specs.Sessions.{Life, New, Begun, Ended, Sess, ended, with_work, entry_of}
use Rattle.server_model.specs.meaning.Outcomes.{Telling, Says, Stopped}
use Rattle.server_model.specs.Outcomes.{Outcomes, IsTold, down_of, if_blocks}
use Rattle.server_model.specs.Runs.{Happened, Served, Asked, Server, Turns, Moves, Makes, Answers, Halts, Loses, AnswersAsk, HaltsInAsk, Reaps, Falls, Opens, StopsOpening, Off, On, Halted, Power, is_running, reopened_core, forgetting, next_session}
use Rattle.server_model.specs.Items.{item_of}
use Rattle.server_model.specs.meaning.Walk.{Walk, transaction_in, entered}
use Rattle.server_model.specs.ToldRight.{ask_holds, life_in, with_life, life_after, lives_after, told_from}
use Rattle.server_model.specs.Laws.{stops_last}
use Rattle.server_model.proofs.Stays.{serve_stays, outcomes_stay}
use Rattle.server_model.proofs.Steps.{serve_alive}
use Rattle.server_model.proofs.Growth.{outcomes-entries}
use Rattle.server_model.proofs.Counts.{count}
use Rattle.server_model.proofs.Numbers.{AllMine, mine-at, Numbered}
use Rattle.server_model.proofs.walks.Following.{walk_behind, walked, next-same}
use Rattle.server_model.proofs.walks.Deeds.{Stands}
use Rattle.server_model.proofs.walks.FollowedStops.{Gains, GainsNone, GainsOne, serve-gains, AllLater, none-stops, one-stops}
use Rattle.server_model.proofs.ToldFrames.{ask-right}
use Rattle.server_model.proofs.StoppedHistories.{NoStop, no_stop-left, Later, later-right}
use Rattle.server_model.proofs.walks.WalkFrames.{AllHeld, Unseen, Walks, held-without, held-more, cancel, same-within, above-one, at, left, answers, halted}

-- ---- each move

abbrev pub lives_walked : List (SessionId × Life) → List Happened → List (SessionId × Life)
lives_walked lives [] = lives
lives_walked lives (happened ∷ more) = lives_walked (lives_after lives happened) more

pub off-running : {A : Type 0} → IsTrue (is_running Off) → A
off-running on = let none : ⊥ = cc in absurd none

pub and-true : (b : Bool) → b ≡ true → (b && true) ≡ true
and-true true is = refl
and-true false is = is

pub no-gain : (before gained : List Entry) → before ≡ before ++ gained → gained ≡ []
no-gain before gained same = cancel before gained [] (sym same ∙ sym (append-nil before))

-- what a walk has that an ask leaves
record AskSame (walk behind : Walk) : Type 0 where
  committed : behind.committed ≡ walk.committed
  stored : behind.stored ≡ walk.stored
  left : behind.left ≡ walk.left
  sessions : behind.sessions ≡ walk.sessions
  incarnation : behind.numbers.incarnation ≡ walk.numbers.incarnation
  over : behind.is_over ≡ walk.is_over

asked-same : (base : Base) (walk : Walk) (x : Ltxid) (judged : Verdict) → AskSame walk (walk_behind base walk (Asked x (Says (down_of judged))))
asked-same base walk x verdict.BlockIt = record { committed = refl; stored = refl; left = refl; sessions = refl; incarnation = refl; over = refl }
asked-same base walk x verdict.AlreadyBlocked = record { committed = refl; stored = refl; left = refl; sessions = refl; incarnation = refl; over = refl }
asked-same base walk x (verdict.Committed completed) = record { committed = refl; stored = refl; left = refl; sessions = refl; incarnation = refl; over = refl }
asked-same base walk x (verdict.ServerAhead next) = record { committed = refl; stored = refl; left = refl; sessions = refl; incarnation = refl; over = refl }
asked-same base walk x (verdict.ClientAhead next) = record { committed = refl; stored = refl; left = refl; sessions = refl; incarnation = refl; over = refl }
asked-same base walk x (verdict.Forgotten horizon) = record { committed = refl; stored = refl; left = refl; sessions = refl; incarnation = refl; over = refl }

asked-told : (base : Base) (lives : List (SessionId × Life)) (walk : Walk) (x : Ltxid) (judged : Verdict) → ask_holds walk x (Says (down_of judged)) ≡ true → told_from base lives walk (Asked x (Says (down_of judged)) ∷ []) ≡ true
asked-told base lives walk x verdict.BlockIt is = and-true _ is
asked-told base lives walk x verdict.AlreadyBlocked is = and-true _ is
asked-told base lives walk x (verdict.Committed completed) is = and-true _ is
asked-told base lives walk x (verdict.ServerAhead next) is = and-true _ is
asked-told base lives walk x (verdict.ClientAhead next) is = and-true _ is
asked-told base lives walk x (verdict.Forgotten horizon) is = and-true _ is

held-same : (walk behind : Walk) (lives : List (SessionId × Life)) (sessions : List Sess) → behind.sessions ≡ walk.sessions → AllHeld walk lives sessions → AllHeld behind lives sessions
held-same walk behind lives [] same all = tt
held-same walk behind lives (sess ∷ sessions) same all = ((λ begun. ap (λ l. transaction_in l (session_of sess.ltxid)) same ∙ all.0.0 begun, all.0.1), held-same walk behind lives sessions same all.1)

module _ (base : Base) (history : List Happened) (server : Server) (rest gained : List Entry) (walk : Walk) (lives : List (SessionId × Life)) (numbered : Numbered base server) (walks : Walks history server (gained ++ rest) walk lives) where
  -- a move of which the history has nothing
  same-left : (entries : List Entry) → entries ≡ server.core.entries → entries ≡ server.core.entries ++ gained → walk.left ≡ rest
  same-left entries same grew = walks.left ∙ ap (λ l. l ++ rest) (no-gain server.core.entries gained (sym same ∙ grew))

  -- the server is down
  is-down : (core : Core) → core.base ≡ server.core.base → core.entries ≡ server.core.entries → server.core.opening.incarnation ≤ core.opening.incarnation → core.entries ≡ server.core.entries ++ gained
      → Walks (history ++ []) (record { power = Off; core = core; sessions = []; count = 0 }) rest walk lives
  is-down core same entries later grew = record {
    committed = walks.committed ∙ (λ i. tables_with (sym same i).tables (sym entries i));
    stored = walks.stored ∙ (λ i. (sym same i).entries ++ sym entries i);
    left = same-left core.entries entries grew;
    within = both walk.numbers.incarnation server.core.opening.incarnation core.opening.incarnation walks.within later;
    held = λ ok. tt;
    opens = λ on ok is. off-running on;
    unseen = not-yet;
  }
    where
      both : (m n k : ℕ) → m ≤ n → n ≤ k → m ≤ k
      both m n k one other = omega arith

      above : (m n k : ℕ) → m ≤ n → n < k → m < k
      above m n k one other = omega arith

      not-yet : (s : SessionId) → Unseen (record { power = Off; core = core; sessions = []; count = 0 }) s → life_in lives s ≡ New
      not-yet s (inl far) = walks.unseen s (inl (above server.core.opening.incarnation core.opening.incarnation s.incarnation later far))
      not-yet s (inr (on, more)) = off-running on

  opens-up : (below : ℕ) → server.core.entries ≡ server.core.entries ++ gained → Walks (history ++ []) (record { power = On; core = reopened_core (forgetting server.core below); sessions = []; count = 0 }) rest walk lives
  opens-up below grew = record {
    committed = walks.committed;
    stored = walks.stored;
    left = same-left server.core.entries refl grew;
    within = wider walk.numbers.incarnation server.core.opening.incarnation walks.within;
    held = λ ok. tt;
    opens = λ on ok is. absurd (past walk.numbers.incarnation server.core.opening.incarnation walks.within is);
    unseen = not-yet;
  }
    where
      wider : (m n : ℕ) → m ≤ n → m ≤ n + 1
      wider m n within = omega arith

      past : (m n : ℕ) → m ≤ n → m ≡ n + 1 → ⊥
      past m n within same = omega arith

      over : (n k : ℕ) → n + 1 < k → n < k
      over n k above = omega arith

      at-one : (n k : ℕ) → k ≡ n + 1 → n < k
      at-one n k same = omega arith

      not-yet : (s : SessionId) → Unseen (record { power = On; core = reopened_core server.core; sessions = []; count = 0 }) s → life_in lives s ≡ New
      not-yet s (inl far) = walks.unseen s (inl (over server.core.opening.incarnation s.incarnation far))
      not-yet s (inr (on, (here, more))) = walks.unseen s (inl (at-one server.core.opening.incarnation s.incarnation here))

  makes : server.power ≡ On → server.core.entries ≡ server.core.entries ++ gained → Walks (history ++ []) (record server { sessions = server.sessions ++ next_session server ∷ []; count = server.count + 1 }) rest walk lives
  makes on grew = record {
    committed = walks.committed;
    stored = walks.stored;
    left = same-left server.core.entries refl grew;
    within = walks.within;
    held = λ ok. held-more walk lives server.sessions (next_session server) (walks.held (no_stop-left server.core.opening.incarnation history [] ok))
        ((λ begun. absurd (new-begun begun)), walks.unseen _ (inr (ap is_running on, (refl, next server.count))));
    opens = λ running ok is. walks.opens running (no_stop-left server.core.opening.incarnation history [] ok) is;
    unseen = not-yet;
  }
    where
      new-begun : New ≡ Begun → ⊥
      new-begun e = let none : ⊥ = cc in none

      next : (n : ℕ) → n < n + 1
      next n = omega arith

      over : (n k : ℕ) → n + 1 < k → n < k
      over n k above = omega arith

      not-yet : (s : SessionId) → Unseen (record server { sessions = server.sessions ++ next_session server ∷ []; count = server.count + 1 }) s → life_in lives s ≡ New
      not-yet s (inl far) = walks.unseen s (inl far)
      not-yet s (inr (running, (here, above))) = walks.unseen s (inr (running, (here, over server.count s.session above)))

  reaps : (front back : List Sess) (sess : Sess) → server.sessions ≡ front ++ sess ∷ back → server.core.entries ≡ server.core.entries ++ gained → Walks (history ++ []) (record server { sessions = front ++ back }) rest walk lives
  reaps front back sess split grew = record {
    committed = walks.committed;
    stored = walks.stored;
    left = same-left server.core.entries refl grew;
    within = walks.within;
    held = λ ok. held-without walk lives front back sess (subst (AllHeld walk lives) split (walks.held (no_stop-left server.core.opening.incarnation history [] ok)));
    opens = λ running ok is. walks.opens running (no_stop-left server.core.opening.incarnation history [] ok) is;
    unseen = walks.unseen;
  }

  asks : (x : Ltxid) (core : Core) (told : Telling) (power : Power) (said : Telling) (behind : Walk) → IsTrue (is_running server.power) → Outcomes server.core x core told → AskSame walk behind → core.entries ≡ server.core.entries ++ gained
      → Walks (history ++ Asked x said ∷ []) (record server { power = power; core = core }) rest behind lives
  asks x core told power said behind running asked same grew =
      let stay = outcomes_stay server.core x core told asked in
      let entries = outcomes-entries server.core x core told asked in
      let incarnation : core.opening.incarnation ≡ server.core.opening.incarnation = ap (λ (o : Opening). o.incarnation) stay.1 in
      let before : NoStop core.opening.incarnation (history ++ Asked x said ∷ []) → NoStop server.core.opening.incarnation history =
      λ ok. subst (λ n. NoStop n history) incarnation (no_stop-left core.opening.incarnation history (Asked x said ∷ []) ok) in
      record {
        committed = same.committed ∙ walks.committed ∙ (λ i. tables_with (sym stay.0 i).tables (sym entries i));
        stored = same.stored ∙ walks.stored ∙ (λ i. (sym stay.0 i).entries ++ sym entries i);
        left = same.left ∙ same-left core.entries entries grew;
        within = subst (λ n. behind.numbers.incarnation ≤ n) (sym incarnation) (subst (λ n. n ≤ server.core.opening.incarnation) (sym same.incarnation) walks.within);
        held = λ ok. held-same walk behind lives server.sessions same.sessions (walks.held (before ok));
        opens = λ on ok is. same.over ∙ walks.opens running (before ok) (sym same.incarnation ∙ is ∙ incarnation);
        unseen = not-yet incarnation;
      }
    where
      not-yet : core.opening.incarnation ≡ server.core.opening.incarnation → (s : SessionId) → Unseen (record server { power = power; core = core }) s → life_in lives s ≡ New
      not-yet same_place s (inl far) = walks.unseen s (inl (subst (λ n. n < s.incarnation) same_place far))
      not-yet same_place s (inr (on, (here, above))) = walks.unseen s (inr (running, (here ∙ same_place, above)))

pub record Step (base : Base) (history more : List Happened) (after : Server) (rest : List Entry) (walk : Walk) (lives : List (SessionId × Life)) : Type 0 where
  pub walks : Walks (history ++ more) after rest (walked base walk more) (lives_walked lives more)
  pub told : told_from base lives walk more ≡ true

halts-stand : (base : Base) (history : List Happened) (server : Server) (rest gained : List Entry) (walk : Walk) (lives : List (SessionId × Life)) (numbered : Numbered base server) (walks : Walks history server (gained ++ rest) walk lives)
    (after : Server) (old new : Sess) (now : ℕ) (frame : Up) (core : Core) (power : Power) (running : IsTrue (is_running server.power)) (turns : Turns server after old new core power)
    (stops : stops_last (history ++ Served (session_of old.ltxid) now frame Stopped ∷ []) ≡ true) (grew : core.entries ≡ server.core.entries ++ gained) → (old.life ≡ Ended → ⊥) → AllLater old.ltxid.incarnation rest → Gains server.core old frame core
    → Stands (entered walk (item_of 0 (Served (session_of old.ltxid) now frame Stopped))) core rest (walk_behind base walk (Served (session_of old.ltxid) now frame Stopped))
halts-stand base history server rest gained walk lives numbered walks after old new now frame core power running turns stops grew alive later (GainsNone _ _ same entries) =
    none-stops base server.core (entered walk (item_of 0 (Served (session_of old.ltxid) now frame Stopped))) old (at base history server rest gained walk lives numbered walks after old new now frame core power running turns Stopped stops grew) rest now frame core same entries
    (left base history server rest gained walk lives numbered walks after old new now frame core power running turns Stopped stops grew [] (entries ∙ sym (append-nil server.core.entries))) later
halts-stand base history server rest gained walk lives numbered walks after old new now _ core power running turns stops grew alive later (GainsOne replay kept called draws meant _ unmarked commit begun means used is same entries free stand) =
    let frame = up.Call replay kept called in
    let stands_at = at base history server rest gained walk lives numbered walks after old new now frame core power running turns Stopped stops grew in
    let own = mine-at server.core server.count turns.front turns.back old (subst (AllMine server.core server.count) turns.split numbered.mine) in
    one-stops base server.core (entered walk (item_of 0 (Served (session_of old.ltxid) now frame Stopped))) old stands_at rest now replay called draws meant core
    (next-same _ old (own.number alive ∙ ap (λ s. count (map committed_of s) old.ltxid.incarnation old.ltxid.session) (sym stands_at.stored))) unmarked commit begun means is same entries
    (left base history server rest gained walk lives numbered walks after old new now frame core power running turns Stopped stops grew (entry_of (with_work old (committed server.core) meant) called meant.answers draws ∷ []) entries)

pub step : (base : Base) (history more : List Happened) (server after : Server) (rest gained : List Entry) (walk : Walk) (lives : List (SessionId × Life)) → Numbered base server → Numbered base after → Moves server more after
    → stops_last (history ++ more) ≡ true → Later rest (history ++ more) → after.core.entries ≡ server.core.entries ++ gained → Walks history server (gained ++ rest) walk lives → Step base history more after rest walk lives
unfolding walked
step base history _ server _ rest gained walk lives numbered after_numbered (Makes on) stops later grew walks = record { walks = makes base history server rest gained walk lives numbered walks on grew; told = refl }
step base history _ server _ rest gained walk lives numbered after_numbered (Answers old new now frame core told after on serve answered turns) stops later grew walks =
    let made : Server = record { power = On; core = core; sessions = turns.front ++ new ∷ turns.back; count = server.count } in
    let grew_here : core.entries ≡ server.core.entries ++ gained = sym (ap (λ (s : Server). s.core.entries) turns.turned) ∙ grew in
    let both = answers base history server rest gained walk lives numbered walks after old new now frame core On (ap is_running on) turns told stops grew_here serve answered (subst (Numbered base) turns.turned after_numbered) in
    record {
      walks = subst (λ (s : Server). Walks (history ++ Served (session_of old.ltxid) now frame told ∷ []) s rest (walk_behind base walk (Served (session_of old.ltxid) now frame told)) (with_life lives (session_of old.ltxid) (life_after frame told (life_in lives (session_of old.ltxid))))) (sym turns.turned) both.0;
      told = and-true _ both.1;
    }
step base history _ server _ rest gained walk lives numbered after_numbered (Halts old new now frame core told after running serve turns) stops later grew walks =
    let grew_here : core.entries ≡ server.core.entries ++ gained = sym (ap (λ (s : Server). s.core.entries) turns.turned) ∙ grew in
    let stays = serve_stays server.core old now frame core new told serve in
    let stand = halts-stand base history server rest gained walk lives numbered walks after old new now frame core Halted running turns stops grew_here (serve_alive server.core old now frame core new told serve)
    (later-right rest history (Served (session_of old.ltxid) now frame Stopped ∷ []) later).0 (serve-gains server.core old now frame core new told serve) in
    record {
      walks = subst (λ (s : Server). Walks (history ++ Served (session_of old.ltxid) now frame Stopped ∷ []) s rest (walk_behind base walk (Served (session_of old.ltxid) now frame Stopped)) (with_life lives (session_of old.ltxid) (life_after frame Stopped (life_in lives (session_of old.ltxid))))) (sym turns.turned)
          (halted base history server rest gained walk lives numbered walks after old new now frame core Halted running turns Stopped stops grew_here refl stays.incarnation stand);
      told = refl;
    }
step base history _ server _ rest gained walk lives numbered after_numbered (Loses old now frame after halt turns) stops later grew walks =
    let grew_here : server.core.entries ≡ server.core.entries ++ gained = sym (ap (λ (s : Server). s.core.entries) turns.turned) ∙ grew in
    let stand = none-stops base server.core (entered walk (item_of 0 (Served (session_of old.ltxid) now frame Stopped))) old
    (at base history server rest gained walk lives numbered walks after old (ended old) now frame server.core Halted (ap is_running halt) turns Stopped stops grew_here) rest now frame server.core refl refl
    (left base history server rest gained walk lives numbered walks after old (ended old) now frame server.core Halted (ap is_running halt) turns Stopped stops grew_here [] (sym (append-nil server.core.entries)))
    (later-right rest history (Served (session_of old.ltxid) now frame Stopped ∷ []) later).0 in
    record {
      walks = subst (λ (s : Server). Walks (history ++ Served (session_of old.ltxid) now frame Stopped ∷ []) s rest (walk_behind base walk (Served (session_of old.ltxid) now frame Stopped)) (with_life lives (session_of old.ltxid) (life_after frame Stopped (life_in lives (session_of old.ltxid))))) (sym turns.turned)
          (halted base history server rest gained walk lives numbered walks after old (ended old) now frame server.core Halted (ap is_running halt) turns Stopped stops grew_here refl refl stand);
      told = refl;
    }
step base history _ server _ rest gained walk lives numbered after_numbered (AnswersAsk x core _ on (IsTold judged by)) stops later grew walks = record {
  walks = asks base history server rest gained walk lives numbered walks x (if_blocks judged server.core x) (Says (down_of judged)) server.power (Says (down_of judged)) _ (ap is_running on) (IsTold judged by) (asked-same base walk x judged) grew;
  told = asked-told base lives walk x judged (ask-right server.core walk x _ _ walks.stored (IsTold judged by));
}
step base history _ server _ rest gained walk lives numbered after_numbered (HaltsInAsk x core told running asked) stops later grew walks = record {
  walks = asks base history server rest gained walk lives numbered walks x core told Halted Stopped (walk_behind base walk (Asked x Stopped)) running asked (record { committed = refl; stored = refl; left = refl; sessions = refl; incarnation = refl; over = refl }) grew;
  told = refl;
}
step base history _ server _ rest gained walk lives numbered after_numbered (Reaps front back sess split) stops later grew walks = record { walks = reaps base history server rest gained walk lives numbered walks front back sess split grew; told = refl }
step base history _ server _ rest gained walk lives numbered after_numbered Falls stops later grew walks =
    record { walks = is-down base history server rest gained walk lives numbered walks server.core refl refl (same-within server.core.opening.incarnation server.core.opening.incarnation refl) grew; told = refl }
step base history _ server _ rest gained walk lives numbered after_numbered (Opens below off may) stops later grew walks = record { walks = opens-up base history server rest gained walk lives numbered walks below grew; told = refl }
step base history _ server _ rest gained walk lives numbered after_numbered (StopsOpening below core off may (inl same)) stops later grew walks = record {
  walks = is-down base history server rest gained walk lives numbered walks core (ap (λ (c : Core). c.base) same) (ap (λ (c : Core). c.entries) same) (same-within server.core.opening.incarnation core.opening.incarnation (sym (ap (λ (c : Core). c.opening.incarnation) same))) grew;
  told = refl;
}
step base history _ server _ rest gained walk lives numbered after_numbered (StopsOpening below core off may (inr (inl same))) stops later grew walks = record {
  walks = is-down base history server rest gained walk lives numbered walks core (ap (λ (c : Core). c.base) same) (ap (λ (c : Core). c.entries) same) (same-within server.core.opening.incarnation core.opening.incarnation (sym (ap (λ (c : Core). c.opening.incarnation) same))) grew;
  told = refl;
}
step base history _ server _ rest gained walk lives numbered after_numbered (StopsOpening below core off may (inr (inr same))) stops later grew walks = record {
  walks = is-down base history server rest gained walk lives numbered walks core (ap (λ (c : Core). c.base) same) (ap (λ (c : Core). c.entries) same) (above-one server.core.opening.incarnation core.opening.incarnation (ap (λ (c : Core). c.opening.incarnation) same)) grew;
  told = refl;
}
