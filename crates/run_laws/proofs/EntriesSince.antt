-- What one thing that happened on the plain server added to its entries: an entry of its call's
-- session at most, and one where it says Committed. No session of a run has entries from before it.
use Rattle.std.proofs.Common.{◌≡◌, refl, sym, ap, subst, ◌∙◌, append-nil, true, false, ℕ, ◌+◌, ◌<◌, ◌≤◌, length, List, [], ◌∷◌, ◌++◌, inl, inr, arith}
use Rattle.std.specs.Prelude.{All, IsTrue}
use Rattle.std.proofs.lemmas.List.{append_cancel_left}
use Rattle.std.proofs.lemmas.List.Elements.{All-nil}
use Rattle.svc_values.specs.declared.entry.Entry.{Entry}
use Rattle.svc_values.specs.declared.entry.Ltxid.{Ltxid}
use Rattle.svc_values.specs.declared.entry.SessionId.{SessionId}
use Rattle.svc_values.specs.declared.frame.Up.{Up}
use Rattle.svc_values.specs.declared.frame.Up.TheVariants as up
use Rattle.svc_values.specs.declared.frame.Down.TheVariants as down
use Rattle.svc_values.specs.meaning.Calls.{has_commit}
use Rattle.svc_values.specs.meaning.Endings.{ends_committed}
use Rattle.svc_values.specs.meaning.Identifiers.{session_of}
use Rattle.server_model.specs.meaning.Base.{Base}
use Rattle.server_model.specs.Base.{IsSound}
use Rattle.server_model.specs.Core.{Core}
use Rattle.server_model.specs.Laws.{CommitsAs}
use Rattle.server_model.specs.meaning.Outcomes.{Telling, Says, Stopped}
use Rattle.server_model.specs.Outcomes.{Outcomes, IsTold, BlockStops}
use Rattle.server_model.specs.Runs.{Happened, Served, Asked, Server, Power, Off, On, Halted, Turns, Moves, Makes, Answers, Halts, Loses, AnswersAsk, HaltsInAsk, Reaps, Falls, Opens, StopsOpening, Runs, Start, Then, is_running}
use Rattle.server_model.specs.Serve.{Serve}
use Rattle.server_model.specs.Sessions.{Sess}
use Rattle.server_model.proofs.Offered.{AddsBy, answered_adds, stopped_adds, IfCommitted, serve_stored, serve_stays, stores_by_commit, runs_number, AllMine, mine-at, outcomes_stay}
use Rattle.world_model.proofs.Offered.{blocks_none}

-- ONE THING ---------------------------------------------------------------------------------------

-- a call that says Committed added its entry
abbrev pub StoresCommit : Happened → List Entry → Type 0
StoresCommit (Served session now (up.Call replay kept called) (Says (down.Reply answers draws x))) few = ends_committed answers ≡ true → length few ≡ 1
StoresCommit one few = Unit {0}

-- a call without a commit added none
abbrev pub NeedsCommit : Happened → List Entry → Type 0
NeedsCommit (Served session now (up.Call replay kept called) told) few = has_commit called ≡ false → few ≡ []
NeedsCommit one few = Unit {0}

pub record AddsFew (one : Happened) (before after : Server) : Type 0 where
  pub few : List Entry
  pub entries : after.core.entries ≡ before.core.entries ++ few
  pub short : length few ≤ 1
  pub own : All (λ entry. CommitsAs entry one) few
  pub stored : StoresCommit one few
  pub called : NeedsCommit one few

-- what the things of a list added, of which there is one at most
abbrev pub AddsOf : List Happened → Server → Server → Type 0
AddsOf [] before after = Unit {0}
AddsOf (one ∷ more) before after = AddsFew one before after

none_more : (before few : List Entry) → before ++ few ≡ before → few ≡ []
none_more before few same = append_cancel_left before few [] (same ∙ sym (append-nil before))

one_more : (before few : List Entry) (entry : Entry) → before ++ few ≡ before ++ entry ∷ [] → length few ≡ 1
one_more before few entry same = ap length (append_cancel_left before few (entry ∷ []) same)

module _ (core after : Core) (sess : Sess) (session : SessionId) (now : ℕ) (few : List Entry) (entries : after.entries ≡ core.entries ++ few) where
  told_stored : (frame : Up) (told : Telling) → IfCommitted told core sess after → StoresCommit (Served session now frame told) few
  told_stored (up.Call replay kept called) (Says (down.Reply answers draws x)) stored = λ ends. let one = stored ends in one_more core.entries few one.entry (sym entries ∙ one.entries)
  told_stored frame told stored = tt

  called_none : (t : Sess) (frame : Up) (told said : Telling) → Serve core sess now frame after t told → NeedsCommit (Served session now frame said) few
  called_none t (up.Call replay kept called) told said serve = λ none. none_more core.entries few (sym entries ∙ stores_by_commit core sess now replay kept called after t told serve none)
  called_none t up.Connect told said serve = tt
  called_none t (up.Begin settings) told said serve = tt
  called_none t (up.Outcome x) told said serve = tt
  called_none t up.End told said serve = tt
  called_none t up.Close told said serve = tt

-- a stop says nothing
stopped_stored : (session : SessionId) (now : ℕ) (frame : Up) (few : List Entry) → StoresCommit (Served session now frame Stopped) few
stopped_stored session now (up.Call replay kept called) few = tt
stopped_stored session now frame few = tt

lost_none : (session : SessionId) (now : ℕ) (frame : Up) (told : Telling) → NeedsCommit (Served session now frame told) []
lost_none session now (up.Call replay kept called) told = λ none. refl
lost_none session now frame told = tt

turned : (server after : Server) (old new : Sess) (core : Core) (power : Power) (few : List Entry) → Turns server after old new core power → core.entries ≡ server.core.entries ++ few → after.core.entries ≡ server.core.entries ++ few
turned server after old new core power few turns entries = ap (λ (s : Server). s.core.entries) turns.turned ∙ entries

few_of : (e b a : ℕ) → e + b + a ≤ 1 → e ≤ 1
few_of e b a most = omega (arith, most)

outcomes_none : (core : Core) (x : Ltxid) (after : Core) (told : Telling) → Outcomes core x after told → after.entries ≡ core.entries
outcomes_none core x _ _ (IsTold judged is) = blocks_none judged core x
outcomes_none core x _ _ (BlockStops after is (inl same)) = ap (λ (c : Core). c.entries) same
outcomes_none core x _ _ (BlockStops after is (inr same)) = ap (λ (c : Core). c.entries) same

asked_few : (server after : Server) (x : Ltxid) (told : Telling) → after.core.entries ≡ server.core.entries → AddsFew (Asked x told) server after
asked_few server after x told same = record {
  few = [];
  entries = same ∙ sym (append-nil server.core.entries);
  short = omega arith;
  own = All-nil (λ (entry : Entry). CommitsAs entry (Asked x told));
  stored = tt;
  called = tt;
}

pub move_adds : (server after : Server) (more : List Happened) → Moves server more after → AddsOf more server after
move_adds server _ _ (Makes on) = tt
move_adds server _ _ (Answers old new now frame core told after on serve answered turns) =
    let by : AddsBy (Served (session_of old.ltxid) now frame told) server.core core = answered_adds server.core old now frame core new told serve answered in
    record {
      few = by.adds.more_entries;
      entries = turned server after old new core On by.adds.more_entries turns by.adds.entries;
      short = few_of (length by.adds.more_entries) (length by.adds.more_blocked) (length by.adds.more_alerts) by.adds.few;
      own = by.own;
      stored = told_stored server.core core old (session_of old.ltxid) now by.adds.more_entries by.adds.entries frame told (serve_stored server.core old now frame core new told serve);
      called = called_none server.core core old (session_of old.ltxid) now by.adds.more_entries by.adds.entries new frame told told serve;
    }
move_adds server _ _ (Halts old new now frame core told after running serve turns) =
    let by : AddsBy (Served (session_of old.ltxid) now frame Stopped) server.core core = stopped_adds server.core old now frame core new told serve in
    record {
      few = by.adds.more_entries;
      entries = turned server after old new core Halted by.adds.more_entries turns by.adds.entries;
      short = few_of (length by.adds.more_entries) (length by.adds.more_blocked) (length by.adds.more_alerts) by.adds.few;
      own = by.own;
      stored = stopped_stored (session_of old.ltxid) now frame by.adds.more_entries;
      called = called_none server.core core old (session_of old.ltxid) now by.adds.more_entries by.adds.entries new frame told Stopped serve;
    }
move_adds server _ _ (Loses old now frame after halted turns) = record {
  few = [];
  entries = ap (λ (s : Server). s.core.entries) turns.turned ∙ sym (append-nil server.core.entries);
  short = omega arith;
  own = All-nil (λ (entry : Entry). CommitsAs entry (Served (session_of old.ltxid) now frame Stopped));
  stored = stopped_stored (session_of old.ltxid) now frame [];
  called = lost_none (session_of old.ltxid) now frame Stopped;
}
move_adds server _ _ (AnswersAsk x core frame on asks) = asked_few server (record server { core = core }) x (Says frame) (outcomes_none server.core x core (Says frame) asks)
move_adds server _ _ (HaltsInAsk x core told running asks) = asked_few server (record server { power = Halted; core = core }) x Stopped (outcomes_none server.core x core told asks)
move_adds server _ _ (Reaps front back sess split) = tt
move_adds server _ _ Falls = tt
move_adds server _ _ (Opens below off may) = tt
move_adds server _ _ (StopsOpening below core off may same) = tt

-- OPENINGS ----------------------------------------------------------------------------------------

-- a server that runs is of an incarnation behind those from before it
abbrev least : Base → Power → ℕ
least base Off = base.incarnation
least base On = base.incarnation + 1
least base Halted = base.incarnation + 1

abbrev IsLater : Base → Server → Type 0
IsLater base server = least base server.power ≤ server.core.opening.incarnation

least_running : (base : Base) (power : Power) (incarnation : ℕ) → IsTrue (is_running power) → least base power ≤ incarnation → base.incarnation + 1 ≤ incarnation
least_running base Off incarnation running later = absurd (let none : ⊥ = cc in none)
least_running base On incarnation running later = later
least_running base Halted incarnation running later = later

least_off : (base : Base) (power : Power) (incarnation : ℕ) → least base power ≤ incarnation → base.incarnation ≤ incarnation
least_off base Off incarnation later = later
least_off base On incarnation later = omega (arith, later)
least_off base Halted incarnation later = omega (arith, later)

on_runs : (power : Power) → power ≡ On → IsTrue (is_running power)
on_runs power on = ap is_running on

halted_runs : (power : Power) → power ≡ Halted → IsTrue (is_running power)
halted_runs power halted = ap is_running halted

still_later : (base : Base) (server after : Server) → after.power ≡ server.power → after.core.opening.incarnation ≡ server.core.opening.incarnation → IsLater base server → IsLater base after
still_later base server after power same later = subst (λ (p : Power). least base p ≤ after.core.opening.incarnation) (sym power) (subst (λ (n : ℕ). least base server.power ≤ n) (sym same) later)

served_later : (base : Base) (server after : Server) (old new : Sess) (core : Core) (power : Power) → Turns server after old new core power → core.opening.incarnation ≡ server.core.opening.incarnation → IsTrue (is_running server.power)
    → least base power ≡ base.incarnation + 1 → IsLater base server → IsLater base after
served_later base server after old new core power turns same running is later =
    let least_now : base.incarnation + 1 ≤ server.core.opening.incarnation = least_running base server.power server.core.opening.incarnation running later in
    let here : least base power ≤ core.opening.incarnation = omega (arith, least_now, same, is) in
    subst (IsLater base) (sym turns.turned) here

move_later : (base : Base) (server after : Server) (more : List Happened) → Moves server more after → IsLater base server → IsLater base after
move_later base server _ _ (Makes on) later = later
move_later base server _ _ (Answers old new now frame core told after on serve answered turns) later =
    served_later base server after old new core On turns (serve_stays server.core old now frame core new told serve).incarnation (on_runs server.power on) refl later
move_later base server _ _ (Halts old new now frame core told after running serve turns) later =
    served_later base server after old new core Halted turns (serve_stays server.core old now frame core new told serve).incarnation running refl later
move_later base server _ _ (Loses old now frame after halted turns) later = served_later base server after old _ server.core Halted turns refl (halted_runs server.power halted) refl later
move_later base server _ _ (AnswersAsk x core frame on asks) later =
    still_later base server (record server { core = core }) refl (λ i. ((outcomes_stay server.core x core (Says frame) asks).1 i).incarnation) later
move_later base server _ _ (HaltsInAsk x core told running asks) later =
    let same : core.opening.incarnation ≡ server.core.opening.incarnation = (λ i. ((outcomes_stay server.core x core told asks).1 i).incarnation) in
    let least_now : base.incarnation + 1 ≤ server.core.opening.incarnation = least_running base server.power server.core.opening.incarnation running later in
    let here : base.incarnation + 1 ≤ core.opening.incarnation = omega (arith, least_now, same) in
    here
move_later base server _ _ (Reaps front back sess split) later = later
move_later base server _ _ Falls later = least_off base server.power server.core.opening.incarnation later
move_later base server _ _ (Opens below off may) later =
    let before : base.incarnation ≤ server.core.opening.incarnation = least_off base server.power server.core.opening.incarnation later in
    let here : base.incarnation + 1 ≤ server.core.opening.incarnation + 1 = omega (arith, before) in
    here
move_later base server _ _ (StopsOpening below core off may (inl same)) later =
    subst (λ (c : Core). base.incarnation ≤ c.opening.incarnation) (sym same) (least_off base server.power server.core.opening.incarnation later)
move_later base server _ _ (StopsOpening below core off may (inr (inl same))) later =
    subst (λ (c : Core). base.incarnation ≤ c.opening.incarnation) (sym same) (least_off base server.power server.core.opening.incarnation later)
move_later base server _ _ (StopsOpening below core off may (inr (inr same))) later =
    let before : base.incarnation ≤ server.core.opening.incarnation = least_off base server.power server.core.opening.incarnation later in
    let here : base.incarnation ≤ server.core.opening.incarnation + 1 = omega (arith, before) in
    subst (λ (c : Core). base.incarnation ≤ c.opening.incarnation) (sym same) here

runs_later : (base : Base) (history : List Happened) (server : Server) → Runs base history server → IsLater base server
runs_later base _ _ Start = let same : base.incarnation ≤ base.incarnation = omega arith in same
runs_later base _ _ (Then history more server after runs moves) = move_later base server after more moves (runs_later base history server runs)

-- SESSIONS ----------------------------------------------------------------------------------------

-- the sessions of frames that were served are of a later incarnation than the base's
abbrev pub OfLater : Base → List Happened → Type 0
OfLater base [] = Unit {0}
OfLater base (Served session now frame told ∷ more) = base.incarnation < session.incarnation
OfLater base (Asked x told ∷ more) = Unit {0}

turned_later : (base : Base) (history : List Happened) (server after : Server) (old new : Sess) (core : Core) (power : Power) → IsSound base → Runs base history server → IsTrue (is_running server.power) → Turns server after old new core power
    → base.incarnation < old.ltxid.incarnation
turned_later base history server after old new core power sound runs running turns =
    let numbered = runs_number base history server sound runs in
    let mine = mine-at server.core server.count turns.front turns.back old (subst (AllMine server.core server.count) turns.split numbered.mine) in
    let least_now : base.incarnation + 1 ≤ server.core.opening.incarnation = least_running base server.power server.core.opening.incarnation running (runs_later base history server runs) in
    let same : old.ltxid.incarnation ≡ server.core.opening.incarnation = mine.incarnation in
    omega (arith, least_now, same)

pub move_of_later : (base : Base) (history : List Happened) (server after : Server) (more : List Happened) → IsSound base → Runs base history server → Moves server more after → OfLater base more
move_of_later base history server _ _ sound runs (Makes on) = tt
move_of_later base history server _ _ sound runs (Answers old new now frame core told after on serve answered turns) = turned_later base history server after old new core On sound runs (on_runs server.power on) turns
move_of_later base history server _ _ sound runs (Halts old new now frame core told after running serve turns) = turned_later base history server after old new core Halted sound runs running turns
move_of_later base history server _ _ sound runs (Loses old now frame after halted turns) = turned_later base history server after old _ server.core Halted sound runs (halted_runs server.power halted) turns
move_of_later base history server _ _ sound runs (AnswersAsk x core frame on asks) = tt
move_of_later base history server _ _ sound runs (HaltsInAsk x core told running asks) = tt
move_of_later base history server _ _ sound runs (Reaps front back sess split) = tt
move_of_later base history server _ _ sound runs Falls = tt
move_of_later base history server _ _ sound runs (Opens below off may) = tt
move_of_later base history server _ _ sound runs (StopsOpening below core off may same) = tt
