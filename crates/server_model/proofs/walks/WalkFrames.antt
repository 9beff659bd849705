-- The walk behind a frame stands where the server does.
use Rattle.std.specs.Prelude.{◌≡◌, ◌⊎◌, ◌+◌, ◌==◌, ◌<◌, ◌≤◌, nat_lt, ℕ, Bool, true, false, not, IsTrue, List, [], ◌∷◌, ◌++◌, map, if◌then◌else◌}
use Rattle.std.proofs.Common.{refl, inl, inr, sym, ◌∙◌, ap, subst, arith}
use Rattle.std.proofs.lemmas.Bool.Decides.{nat_tests}
use Rattle.svc_values.specs.declared.entry.Entry.{Entry}
use Rattle.svc_values.specs.declared.frame.Up.{Up}
use Rattle.ltxid_book.specs.meaning.Journal.{committed_of}
use Rattle.server_model.specs.meaning.Base.{Base}
use Rattle.server_model.specs.Core.{Core, committed, all_entries}
use Rattle.svc_values.specs.declared.entry.SessionId.{SessionId}
use Rattle.svc_values.specs.meaning.Identifiers.{session_of, same_session}
use Rattle.server_model.specs.Sessions.{Life, New, Begun, Ended, Sess}
use Rattle.server_model.specs.meaning.Outcomes.{Telling, Stopped}
use Rattle.server_model.specs.Serve.{Serve}
use Rattle.server_model.specs.Runs.{Happened, Served, Server, Turns, Power, is_running, is_answered}
use Rattle.server_model.specs.Items.{item_of}
use Rattle.server_model.specs.meaning.NewValues.{opened}
use Rattle.server_model.specs.meaning.Walk.{Walk, transaction_in, entered, next_of}
use Rattle.server_model.specs.ToldRight.{life_in, with_life, life_after, told_holds}
use Rattle.server_model.specs.Laws.{stops_last}
use Rattle.server_model.proofs.Stays.{serve_stays}
use Rattle.server_model.proofs.Counts.{count}
use Rattle.server_model.proofs.Numbers.{Mine, AllMine, Apart, AllOther, mine-at, Numbered}
use Rattle.server_model.proofs.walks.Following.{walk_behind, other-number, other-incarnation, above-number, life-same, life-other, next-same}
use Rattle.server_model.proofs.walks.Deeds.{transaction_of, At, Stands}
use Rattle.server_model.proofs.walks.Followed.{Goes, Left, serve-goes}
use Rattle.server_model.proofs.ToldFrames.{serve-life, serve-tells}
use Rattle.server_model.proofs.StoppedHistories.{NoStop, no_stop-right, none-stopped}

-- ---- the relation

-- the walk and the lives have a session as the server does
abbrev pub Held : Walk → List (SessionId × Life) → Sess → Type 0
Held walk lives sess = (sess.life ≡ Begun → transaction_in walk.sessions (session_of sess.ltxid) ≡ transaction_of sess) × (life_in lives (session_of sess.ltxid) ≡ sess.life)

abbrev pub AllHeld : Walk → List (SessionId × Life) → List Sess → Type 0
AllHeld walk lives [] = Unit {0}
AllHeld walk lives (sess ∷ sessions) = Held walk lives sess × AllHeld walk lives sessions

-- a session that was not made yet
abbrev pub Unseen : Server → SessionId → Type 0
Unseen server s = (server.core.opening.incarnation < s.incarnation) ⊎ (IsTrue (is_running server.power) × ((s.incarnation ≡ server.core.opening.incarnation) × (server.count < s.session)))

pub record Walks (history : List Happened) (server : Server) (rest : List Entry) (walk : Walk) (lives : List (SessionId × Life)) : Type 0 where
  pub committed : walk.committed ≡ committed server.core
  pub stored : walk.stored ≡ all_entries server.core
  pub left : walk.left ≡ rest
  pub within : walk.numbers.incarnation ≤ server.core.opening.incarnation
  pub held : NoStop server.core.opening.incarnation history → AllHeld walk lives server.sessions
  pub opens : IsTrue (is_running server.power) → NoStop server.core.opening.incarnation history → walk.numbers.incarnation ≡ server.core.opening.incarnation → walk.is_over ≡ false
  pub unseen : (s : SessionId) → Unseen server s → life_in lives s ≡ New

held-at : (walk : Walk) (lives : List (SessionId × Life)) (front back : List Sess) (sess : Sess) → AllHeld walk lives (front ++ sess ∷ back) → Held walk lives sess
held-at walk lives [] back sess held = held.0
held-at walk lives (first ∷ front) back sess held = held-at walk lives front back sess held.1

pub held-without : (walk : Walk) (lives : List (SessionId × Life)) (front back : List Sess) (sess : Sess) → AllHeld walk lives (front ++ sess ∷ back) → AllHeld walk lives (front ++ back)
held-without walk lives [] back sess held = held.1
held-without walk lives (first ∷ front) back sess held = (held.0, held-without walk lives front back sess held.1)

pub held-more : (walk : Walk) (lives : List (SessionId × Life)) (sessions : List Sess) (new : Sess) → AllHeld walk lives sessions → Held walk lives new → AllHeld walk lives (sessions ++ new ∷ [])
held-more walk lives [] new held here = (here, tt)
held-more walk lives (first ∷ sessions) new held here = (held.0, held-more walk lives sessions new held.1 here)

held-as : (walk behind : Walk) (lives later : List (SessionId × Life)) (number : ℕ) (sessions : List Sess) → ((sess : Sess) → (sess.ltxid.session == number) ≡ false → Held walk lives sess → Held behind later sess) → AllOther number sessions → AllHeld walk lives sessions → AllHeld behind later sessions
held-as walk behind lives later number [] goes other held = tt
held-as walk behind lives later number (sess ∷ sessions) goes other held = (goes sess other.0 held.0, held-as walk behind lives later number sessions goes other.1 held.1)

flip : (m n : ℕ) → (m == n) ≡ false → (n == m) ≡ false
flip m n other = grind (arith, nat_tests)

other-at : (session : ℕ) (front back : List Sess) (sess : Sess) → AllOther session (front ++ sess ∷ back) → (sess.ltxid.session == session) ≡ false
other-at session [] back sess other = other.0
other-at session (first ∷ front) back sess other = other-at session front back sess other.1

held-turned : (walk behind : Walk) (lives later : List (SessionId × Life)) (front back : List Sess) (old new : Sess) → ((sess : Sess) → (sess.ltxid.session == old.ltxid.session) ≡ false → Held walk lives sess → Held behind later sess)
    → Apart (front ++ old ∷ back) → AllHeld walk lives (front ++ old ∷ back) → Held behind later new → AllHeld behind later (front ++ new ∷ back)
held-turned walk behind lives later [] back old new goes apart held here = (here, held-as walk behind lives later old.ltxid.session back goes apart.0 held.1)
held-turned walk behind lives later (first ∷ front) back old new goes apart held here = (
  goes first (flip old.ltxid.session first.ltxid.session (other-at first.ltxid.session front back old apart.0)) held.0,
  held-turned walk behind lives later front back old new goes apart.1 held.1 here,
)

-- ---- an item of a session

pub record Entered (walk here : Walk) (n : ℕ) : Type 0 where
  pub committed : here.committed ≡ walk.committed
  pub stored : here.stored ≡ walk.stored
  pub left : here.left ≡ walk.left
  pub sessions : here.sessions ≡ walk.sessions
  pub incarnation : here.numbers.incarnation ≡ n
  pub over : here.is_over ≡ false

at-most : (m n : ℕ) → nat_lt m n ≡ false → m ≤ n → m ≡ n
at-most m n not within = grind (arith, nat_tests)

pub entered-is : (walk : Walk) (session : SessionId) → walk.numbers.incarnation ≤ session.incarnation → (walk.numbers.incarnation ≡ session.incarnation → walk.is_over ≡ false)
    → (now : ℕ) (frame : Up) (told : Telling) → Entered walk (entered walk (item_of 0 (Served session now frame told))) session.incarnation
entered-is walk session within opens now frame told = by (nat_lt walk.numbers.incarnation session.incarnation) refl
  where
    by : (b : Bool) → nat_lt walk.numbers.incarnation session.incarnation ≡ b → Entered walk (if b then record walk { numbers = opened walk.numbers session.incarnation; is_over = false } else walk) session.incarnation
    by true is = record { committed = refl; stored = refl; left = refl; sessions = refl; incarnation = refl; over = refl }
    by false is =
        let same = at-most walk.numbers.incarnation session.incarnation is within in
        record { committed = refl; stored = refl; left = refl; sessions = refl; incarnation = same; over = opens same }

rest-of : List Entry → List Entry
rest-of [] = []
rest-of (entry ∷ entries) = entries

pub cancel : (before one other : List Entry) → before ++ one ≡ before ++ other → one ≡ other
unfolding rest-of
cancel [] one other same = same
cancel (entry ∷ before) one other same = cancel before one other (ap rest-of same)

pub same-within : (m n : ℕ) → m ≡ n → m ≤ n
same-within m n same = omega arith

pub above-one : (m n : ℕ) → n ≡ m + 1 → m ≤ n
above-one m n same = omega arith

at-or-below : (m n k : ℕ) → m ≤ n → k ≡ n → m ≤ k
at-or-below m n k within same = omega arith

module _ (base : Base) (history : List Happened) (server : Server) (rest gained : List Entry) (walk : Walk) (lives : List (SessionId × Life)) (numbered : Numbered base server) (walks : Walks history server (gained ++ rest) walk lives) where
  module _ (after : Server) (old new : Sess) (now : ℕ) (frame : Up) (core : Core) (power : Power) (running : IsTrue (is_running server.power)) (turns : Turns server after old new core power) (told : Telling) (stops : stops_last (history ++ Served (session_of old.ltxid) now frame told ∷ []) ≡ true) (grew : core.entries ≡ server.core.entries ++ gained) where
    session : SessionId
    session = session_of old.ltxid

    here : Walk
    here = entered walk (item_of 0 (Served (session_of old.ltxid) now frame told))

    pub mine : Mine server.core server.count old
    mine = mine-at server.core server.count turns.front turns.back old (subst (AllMine server.core server.count) turns.split numbered.mine)

    none : NoStop server.core.opening.incarnation history
    none = subst (λ n. NoStop n history) mine.incarnation (none-stopped history (session_of old.ltxid) now frame told stops)

    pub enters : Entered walk (entered walk (item_of 0 (Served (session_of old.ltxid) now frame told))) old.ltxid.incarnation
    enters = entered-is walk (session_of old.ltxid) (at-or-below walk.numbers.incarnation server.core.opening.incarnation old.ltxid.incarnation walks.within mine.incarnation)
        (λ same. walks.opens running none (same ∙ mine.incarnation)) now frame told

    held : AllHeld walk lives (turns.front ++ old ∷ turns.back)
    held = subst (AllHeld walk lives) turns.split (walks.held none)

    held-old : Held walk lives old
    held-old = held-at walk lives turns.front turns.back old held

    pub at : At base server.core (entered walk (item_of 0 (Served (session_of old.ltxid) now frame told))) old
    at = record {
      is = numbered.is;
      committed = enters.committed ∙ walks.committed;
      stored = enters.stored ∙ walks.stored;
      transaction = λ begun. ap (λ l. transaction_in l (session_of old.ltxid)) enters.sessions ∙ held-old.0 begun;
    }

    pub left : Left (entered walk (item_of 0 (Served (session_of old.ltxid) now frame told))) server.core rest core
    left g e = enters.left ∙ walks.left ∙ ap (λ l. l ++ rest) (cancel server.core.entries gained g (sym grew ∙ e))

    apart-from : (s : SessionId) → Unseen server s → same_session (session_of old.ltxid) s ≡ false
    apart-from s (inl later) = other-incarnation (session_of old.ltxid) s (subst (λ n. n < s.incarnation) (sym mine.incarnation) later)
    apart-from s (inr (on, (same, above))) = above-number (session_of old.ltxid) s (below old.ltxid.session server.count s.session mine.within above)
      where
        below : (m n k : ℕ) → m ≤ n → n < k → m < k
        below m n k one other = omega arith

    made : Server
    made = record { power = power; core = core; sessions = turns.front ++ new ∷ turns.back; count = server.count }

    seen-before : core.opening.incarnation ≡ server.core.opening.incarnation → (s : SessionId) → Unseen (record { power = power; core = core; sessions = turns.front ++ new ∷ turns.back; count = server.count }) s → Unseen server s
    seen-before same s (inl later) = inl (subst (λ n. n < s.incarnation) same later)
    seen-before same s (inr (on, (there, above))) = inr (running, (there ∙ same, above))

    abbrev lives_then : List (SessionId × Life)
    lives_then = with_life lives (session_of old.ltxid) (life_after frame told (life_in lives (session_of old.ltxid)))

    unseen-then : core.opening.incarnation ≡ server.core.opening.incarnation → (s : SessionId) → Unseen (record { power = power; core = core; sessions = turns.front ++ new ∷ turns.back; count = server.count }) s
        → life_in (with_life lives (session_of old.ltxid) (life_after frame told (life_in lives (session_of old.ltxid)))) s ≡ New
    unseen-then same s unseen =
        let before = seen-before same s unseen in
        life-other lives (session_of old.ltxid) s (life_after frame told (life_in lives (session_of old.ltxid))) (apart-from s before) ∙ walks.unseen s before

    -- a frame that was answered
    pub answers : Serve server.core old now frame core new told → IsTrue (is_answered told) → Numbered base (record { power = power; core = core; sessions = turns.front ++ new ∷ turns.back; count = server.count })
        → Walks (history ++ Served (session_of old.ltxid) now frame told ∷ []) (record { power = power; core = core; sessions = turns.front ++ new ∷ turns.back; count = server.count }) rest
        (walk_behind base walk (Served (session_of old.ltxid) now frame told)) (with_life lives (session_of old.ltxid) (life_after frame told (life_in lives (session_of old.ltxid))))
        × (told_holds (life_in lives (session_of old.ltxid)) (entered walk (item_of 0 (Served (session_of old.ltxid) now frame told))) (walk_behind base walk (Served (session_of old.ltxid) now frame told)) (session_of old.ltxid) frame told ≡ true)
    answers serve answered after_numbered =
        let hereW : Walk = entered walk (item_of 0 (Served (session_of old.ltxid) now frame told)) in
        let behindW : Walk = walk_behind base walk (Served (session_of old.ltxid) now frame told) in
        let stays = serve_stays server.core old now frame core new told serve in
        let goes : Goes hereW (session_of old.ltxid) core new rest behindW = serve-goes base server.core hereW old at rest now frame core new told left serve answered in
        let life : life_after frame told (life_in lives (session_of old.ltxid)) ≡ new.life = ap (life_after frame told) held-old.1 ∙ serve-life server.core old now frame core new told serve answered in
        let incarnation : behindW.numbers.incarnation ≡ core.opening.incarnation = goes.stands.incarnation ∙ enters.incarnation ∙ mine.incarnation ∙ sym stays.incarnation in
        let new-held : Held behindW lives_then new = (
          (λ begun. ap (transaction_in behindW.sessions) stays.session ∙ goes.holds.mine begun),
          ap (life_in lives_then) stays.session ∙ life-same lives (session_of old.ltxid) (life_after frame told (life_in lives (session_of old.ltxid))) ∙ life,
        ) in
        let new-mine : Mine core server.count new = mine-at core server.count turns.front turns.back new after_numbered.mine in
        let next : (new.life ≡ Ended → ⊥) → next_of behindW (session_of old.ltxid) ≡ new.ltxid =
        λ alive. ap (next_of behindW) (sym stays.session) ∙ next-same behindW.stored new (new-mine.number alive ∙ ap (λ s. count (map committed_of s) new.ltxid.incarnation new.ltxid.session) (sym goes.stands.stored)) in (
          record {
            committed = goes.stands.committed;
            stored = goes.stands.stored;
            left = goes.stands.left;
            within = same-within behindW.numbers.incarnation core.opening.incarnation incarnation;
            held = λ ok. held-turned walk behindW lives lives_then turns.front turns.back old new
                (λ sess other h. let apart = other-number (session_of old.ltxid) (session_of sess.ltxid) other in (
                  (λ begun. goes.holds.others (session_of sess.ltxid) apart ∙ ap (λ l. transaction_in l (session_of sess.ltxid)) enters.sessions ∙ h.0 begun),
                  life-other lives (session_of old.ltxid) (session_of sess.ltxid) (life_after frame told (life_in lives (session_of old.ltxid))) apart ∙ h.1,
                ))
                (subst Apart turns.split numbered.apart) held new-held;
            opens = λ on ok same. goes.holds.over ∙ enters.over;
            unseen = unseen-then stays.incarnation;
          },
          ap (λ l. told_holds l hereW behindW (session_of old.ltxid) frame told) held-old.1 ∙ serve-tells hereW behindW (session_of old.ltxid) server.core old now frame core new told serve answered at.stored next,
        )

    -- a frame that was stopped
    pub halted : told ≡ Stopped → core.opening.incarnation ≡ server.core.opening.incarnation → Stands (entered walk (item_of 0 (Served (session_of old.ltxid) now frame told))) core rest (walk_behind base walk (Served (session_of old.ltxid) now frame told))
        → Walks (history ++ Served (session_of old.ltxid) now frame told ∷ []) (record { power = power; core = core; sessions = turns.front ++ new ∷ turns.back; count = server.count }) rest
        (walk_behind base walk (Served (session_of old.ltxid) now frame told)) (with_life lives (session_of old.ltxid) (life_after frame told (life_in lives (session_of old.ltxid))))
    halted stopped same stands =
        let never : NoStop core.opening.incarnation (history ++ Served (session_of old.ltxid) now frame told ∷ []) → ⊥ =
        λ ok. (subst (λ t. NoStop core.opening.incarnation (Served (session_of old.ltxid) now frame t ∷ [])) stopped (no_stop-right core.opening.incarnation history (Served (session_of old.ltxid) now frame told ∷ []) ok)).0 (mine.incarnation ∙ sym same) in
        record {
          committed = stands.committed;
          stored = stands.stored;
          left = stands.left;
          within = same-within _ core.opening.incarnation (stands.incarnation ∙ enters.incarnation ∙ mine.incarnation ∙ sym same);
          held = λ ok. absurd (never ok);
          opens = λ on ok is. absurd (never ok);
          unseen = unseen-then same;
        }
