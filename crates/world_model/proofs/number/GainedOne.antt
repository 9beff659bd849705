-- A session that lives gains one entry at most in a frame that is served: one for a call that was
-- answered Committed, and none for a call without a commit.
use Rattle.std.proofs.Common.{◌≡◌, refl, sym, ap, subst, ◌∙◌, Bool, true, false, ℕ, ◌+◌, ◌<◌, ◌≤◌, cond, List, [], ◌∷◌, ◌++◌, ◌⊎◌, inl, inr, arith}
use Rattle.std.specs.Prelude.{Contains}
use Rattle.std.specs.List.{list_all}
use Rattle.std.proofs.lemmas.Bool.{and_parts}
use Rattle.std.proofs.lemmas.List.Elements.{Contains-append_cases, Contains-append_left, Contains-append_right, Contains-push}
use Rattle.svc_values.specs.declared.call.Call.{Call}
use Rattle.svc_values.specs.declared.draw.Draw.{Draw}
use Rattle.svc_values.specs.declared.entry.Ltxid.{Ltxid}
use Rattle.svc_values.specs.declared.entry.Entry.{Entry}
use Rattle.svc_values.specs.declared.entry.SessionId.{SessionId}
use Rattle.svc_values.specs.declared.frame.Up.{Up}
use Rattle.svc_values.specs.declared.frame.Up.TheVariants as up
use Rattle.svc_values.specs.declared.frame.Down.TheVariants as down
use Rattle.svc_values.specs.meaning.Calls.{has_commit}
use Rattle.svc_values.specs.meaning.Identifiers.{is_of_session, session_of}
use Rattle.run_clauses.specs.meaning.EntryEvents.{entries_of}
use Rattle.server_model.specs.meaning.Base.{Base}
use Rattle.server_model.specs.Base.{IsSound}
use Rattle.server_model.specs.Core.{Core}
use Rattle.server_model.specs.Sessions.{Sess}
use Rattle.server_model.specs.meaning.Outcomes.{Telling, Silent, Says, Stopped}
use Rattle.server_model.specs.Serve.{Serve}
use Rattle.server_model.specs.Runs.{Happened, Served, Asked, Server, Power, On, Turns, Moves, Makes, Answers, Halts, Loses, AnswersAsk, HaltsInAsk, Reaps, Falls, Opens, StopsOpening, Runs}
use Rattle.server_model.specs.Laws.{Grows, Same, One, CommitsAs, EntryNumbers, AreStoppedBefore}
use Rattle.server_model.proofs.Offered.{serve_grows, entry_from_item, answers_stand, stores_by_commit, runs_last, runs_stopped}
use Rattle.world_model.specs.records.Number.{numbered_after}
use Rattle.world_model.proofs.number.Gaining.{one_of, none_in}
use Rattle.world_model.proofs.number.GainedQuiet.{entries_more}
use Rattle.world_model.proofs.number.Numbered.{entries_cons, numbered_on, numbered_parts}
use Rattle.world_model.proofs.events.Tests.{same_session_is}

-- LISTS -------------------------------------------------------------------------------------------

first_or : {A : Type 0} (first one : A) (rest : List A) → Contains (first ∷ rest) one → (first ≡ one) ⊎ Contains rest one
first_or {A} first one rest contains = by (Contains-append_cases (first ∷ []) rest one contains)
  where
    by : Contains (first ∷ []) one ⊎ Contains rest one → (first ≡ one) ⊎ Contains rest one
    by (inl here) = inl (one_of first one here)
    by (inr later) = inr later

pub all_contains : {A : Type 0} (test : A → Bool) (xs : List A) (x : A) → list_all test xs ≡ true → Contains xs x → test x ≡ true
all_contains test [] x all contains = absurd (none_in x contains)
all_contains test (first ∷ rest) x all contains = by (first_or first x rest contains) (all_contains test rest x parts.1)
  where
    parts : (test first ≡ true) × (list_all test rest ≡ true)
    parts = and_parts (test first) (list_all test rest) all

    by : (first ≡ x) ⊎ Contains rest x → (Contains rest x → test x ≡ true) → test x ≡ true
    by (inl same) again = subst (λ y. test y ≡ true) same parts.0
    by (inr later) again = again later

-- entries whose numbers are below this one are so few
few_below : (before entries : List Entry) (session : SessionId) (n : ℕ) → numbered_after before entries ≡ true → ((entry : Entry) → Contains entries entry → session_of entry.ltxid ≡ session → entry.ltxid.number < n) → entries_of before session ≤ n
    → entries_of before session + entries_of entries session ≤ n
few_below before [] session n numbered below few = let same : entries_of before session + 0 ≤ n = omega arith in same
few_below before (entry ∷ entries) session n numbered below few =
    let parts = numbered_parts before entries entry numbered in
    let rest : entries_of (entry ∷ before) session ≤ n → entries_of (entry ∷ before) session + entries_of entries session ≤ n =
    few_below (entry ∷ before) entries session n parts.1 (λ one contains same. below one (Contains-append_right (entry ∷ []) entries one contains) same) in
    let first : entries_of (entry ∷ before) session ≡ cond (is_of_session session entry.ltxid) 1 0 + entries_of before session = entries_cons entry before session in
    let whole : entries_of (entry ∷ entries) session ≡ cond (is_of_session session entry.ltxid) 1 0 + entries_of entries session = entries_cons entry entries session in
    by (is_of_session session entry.ltxid) refl rest first whole parts.0
  where
    here : Contains (entry ∷ entries) entry
    here = Contains-append_left (entry ∷ []) entries entry (Contains-push [] entry)

    by : (test : Bool) → is_of_session session entry.ltxid ≡ test → (entries_of (entry ∷ before) session ≤ n → entries_of (entry ∷ before) session + entries_of entries session ≤ n)
        → entries_of (entry ∷ before) session ≡ cond test 1 0 + entries_of before session → entries_of (entry ∷ entries) session ≡ cond test 1 0 + entries_of entries session
        → entry.ltxid.number ≡ entries_of before (session_of entry.ltxid) → entries_of before session + entries_of (entry ∷ entries) session ≤ n
    by true is rest first whole number =
        let same : session_of entry.ltxid ≡ session = same_session_is (session_of entry.ltxid) session is in
        let under : entry.ltxid.number < n = below entry here same in
        let at : entry.ltxid.number ≡ entries_of before session = number ∙ ap (entries_of before) same in
        let most : entries_of (entry ∷ before) session ≤ n = omega arith in
        let all : entries_of (entry ∷ before) session + entries_of entries session ≤ n = rest most in
        omega arith
    by false is rest first whole number =
        let most : entries_of (entry ∷ before) session ≤ n = omega (arith, first, few) in
        let all : entries_of (entry ∷ before) session + entries_of entries session ≤ n = rest most in
        omega arith

-- ONE MOVE ----------------------------------------------------------------------------------------

one_more : (entries : List Entry) (entry : Entry) (session : SessionId) → entries_of (entries ++ entry ∷ []) session ≤ entries_of entries session + 1
one_more entries entry session =
    let split : entries_of (entries ++ entry ∷ []) session ≡ entries_of entries session + entries_of (entry ∷ []) session = entries_more entries (entry ∷ []) session in
    let last : entries_of (entry ∷ []) session ≡ cond (is_of_session session entry.ltxid) 1 0 + 0 = entries_cons entry [] session in
    by (is_of_session session entry.ltxid) split last
  where
    by : (test : Bool) → entries_of (entries ++ entry ∷ []) session ≡ entries_of entries session + entries_of (entry ∷ []) session → entries_of (entry ∷ []) session ≡ cond test 1 0 + 0 → entries_of (entries ++ entry ∷ []) session ≤ entries_of entries session + 1
    by true split last = omega arith
    by false split last = omega arith

grown_few : (a b : List Entry) (session : SessionId) → (b ≡ a) ⊎ ((entry : Entry) × (b ≡ a ++ entry ∷ [])) → entries_of b session ≤ entries_of a session + 1
grown_few a b session (inl same) = let equal : entries_of b session ≡ entries_of a session = ap (λ (e : List Entry). entries_of e session) same in omega arith
grown_few a b session (inr grown) =
    let equal : entries_of b session ≡ entries_of (a ++ grown.0 ∷ []) session = ap (λ (e : List Entry). entries_of e session) grown.1 in
    let more : entries_of (a ++ grown.0 ∷ []) session ≤ entries_of a session + 1 = one_more a grown.0 session in
    omega arith

-- a move adds an entry, or none
abbrev Grown : Server → Server → Type 0
Grown server after = (after.core.entries ≡ server.core.entries) ⊎ ((entry : Entry) × (after.core.entries ≡ server.core.entries ++ entry ∷ []))

turned_grown : (server after : Server) (old new : Sess) (now : ℕ) (frame : Up) (core : Core) (told : Telling) (power : Power) → Turns server after old new core power → Serve server.core old now frame core new told → Grown server after
turned_grown server after old new now frame core told power turns serve = by (serve_grows server.core old now frame core new told serve)
  where
    is : after.core.entries ≡ core.entries
    is = ap (λ (s : Server). s.core.entries) turns.turned

    by : Grows server.core old core → Grown server after
    by (Same same) = inl (is ∙ same)
    by (One entry more named free) = inr (entry, is ∙ more)

-- a frame alone
frame_grown : (server after : Server) (more : List Happened) → Moves server more after → (session : SessionId) (now : ℕ) (frame : Up) (told : Telling) → more ≡ Served session now frame told ∷ [] → Grown server after
frame_grown server _ _ (Makes on) session now frame told is = absurd (let none : ⊥ = cc in none)
frame_grown server _ _ (Answers old new at one core said after on serve answered turns) session now frame told is = turned_grown server after old new at one core said _ turns serve
frame_grown server _ _ (Halts old new at one core said after running serve turns) session now frame told is = turned_grown server after old new at one core said _ turns serve
frame_grown server _ _ (Loses old at one after halted turns) session now frame told is = inl (ap (λ (s : Server). s.core.entries) turns.turned)
frame_grown server _ _ (AnswersAsk x core said on asks) session now frame told is = absurd (let none : ⊥ = cc in none)
frame_grown server _ _ (HaltsInAsk x core said running asks) session now frame told is = absurd (let none : ⊥ = cc in none)
frame_grown server _ _ (Reaps front back sess split) session now frame told is = absurd (let none : ⊥ = cc in none)
frame_grown server _ _ Falls session now frame told is = absurd (let none : ⊥ = cc in none)
frame_grown server _ _ (Opens below off may) session now frame told is = absurd (let none : ⊥ = cc in none)
frame_grown server _ _ (StopsOpening below core off may same) session now frame told is = absurd (let none : ⊥ = cc in none)

abbrev pub frame_in : Happened → Up → Up
frame_in (Served session now frame told) other = frame
frame_in (Asked x told) other = other

abbrev pub first_frame : List Happened → Up → Up
first_frame [] other = other
first_frame (one ∷ rest) other = frame_in one other

turned_none : (server after : Server) (old new : Sess) (now : ℕ) (frame : Up) (core : Core) (told : Telling) (power : Power) → Turns server after old new core power → Serve server.core old now frame core new told
    → (replay : Bool) (kept : List Draw) (called : Call) → frame ≡ up.Call replay kept called → has_commit called ≡ false → after.core.entries ≡ server.core.entries
turned_none server after old new now frame core told power turns serve replay kept called is none =
    ap (λ (s : Server). s.core.entries) turns.turned ∙ stores_by_commit server.core old now replay kept called core new told (subst (λ (f : Up). Serve server.core old now f core new told) is serve) none

-- a call without a commit stores none
call_none : (server after : Server) (more : List Happened) → Moves server more after → (session : SessionId) (now : ℕ) (replay : Bool) (kept : List Draw) (called : Call) (told : Telling) → more ≡ Served session now (up.Call replay kept called) told ∷ []
    → has_commit called ≡ false → after.core.entries ≡ server.core.entries
call_none server _ _ (Makes on) session now replay kept called told is none = absurd (let never : ⊥ = cc in never)
call_none server _ _ (Answers old new at one core said after on serve answered turns) session now replay kept called told is none =
    turned_none server after old new at one core said _ turns serve replay kept called (ap (λ (list : List Happened). first_frame list one) is) none
call_none server _ _ (Halts old new at one core said after running serve turns) session now replay kept called told is none =
    turned_none server after old new at one core said _ turns serve replay kept called (ap (λ (list : List Happened). first_frame list one) is) none
call_none server _ _ (Loses old at one after halted turns) session now replay kept called told is none = ap (λ (s : Server). s.core.entries) turns.turned
call_none server _ _ (AnswersAsk x core said on asks) session now replay kept called told is none = absurd (let never : ⊥ = cc in never)
call_none server _ _ (HaltsInAsk x core said running asks) session now replay kept called told is none = absurd (let never : ⊥ = cc in never)
call_none server _ _ (Reaps front back sess split) session now replay kept called told is none = absurd (let never : ⊥ = cc in never)
call_none server _ _ Falls session now replay kept called told is none = absurd (let never : ⊥ = cc in never)
call_none server _ _ (Opens below off may) session now replay kept called told is none = absurd (let never : ⊥ = cc in never)
call_none server _ _ (StopsOpening below core off may same) session now replay kept called told is none = absurd (let never : ⊥ = cc in never)

-- STOPS -------------------------------------------------------------------------------------------

stopped_in : (incarnation : ℕ) (history : List Happened) (session : SessionId) (now : ℕ) (frame : Up) → AreStoppedBefore incarnation history → Contains history (Served session now frame Stopped) → session.incarnation < incarnation
stopped_in incarnation [] session now frame before contains = absurd (none_in (Served session now frame Stopped) contains)
stopped_in incarnation (first ∷ more) session now frame before contains = by (first_or first (Served session now frame Stopped) more contains) (stopped_in incarnation more session now frame (later first before))
  where
    later : (one : Happened) → AreStoppedBefore incarnation (one ∷ more) → AreStoppedBefore incarnation more
    later (Served other at said Stopped) before = before.1
    later (Served other at said Silent) before = before
    later (Served other at said (Says told)) before = before
    later (Asked x told) before = before

    by : (first ≡ Served session now frame Stopped) ⊎ Contains more (Served session now frame Stopped) → (Contains more (Served session now frame Stopped) → session.incarnation < incarnation) → session.incarnation < incarnation
    by (inl same) again = (subst (λ (one : Happened). AreStoppedBefore incarnation (one ∷ more)) same before).0
    by (inr behind) again = again behind

-- A LIVING SESSION --------------------------------------------------------------------------------

-- The runs before the frame, of this store. The session lives in the present opening.
module _ (base : Base) (sound : IsSound base) (history : List Happened) (server : Server) (runs : Runs base history server) (power : server.power ≡ On) (session : SessionId) (present : session.incarnation ≡ server.core.opening.incarnation) (n : ℕ)
    (below : (entry : Entry) → Contains (base.entries ++ server.core.entries) entry → session_of entry.ltxid ≡ session → entry.ltxid.number < n) where
  -- in any other such run
  other_below : (other : Server) → Runs base history other → (entry : Entry) → Contains (base.entries ++ other.core.entries) entry → session_of entry.ltxid ≡ session → entry.ltxid.number < n
  other_below other also entry contains its = by (Contains-append_cases base.entries other.core.entries entry contains)
    where
      called : (one : Happened) → Contains history one → CommitsAs entry one → entry.ltxid.number < n
      called (Served whose now (up.Call replay kept call) (Says (down.Reply answers draws x))) here commits =
          let plain : Contains history (Served whose now (up.Call false kept call) (Says (down.Reply answers draws x))) =
          subst (λ (mark : Bool). Contains history (Served whose now (up.Call mark kept call) (Says (down.Reply answers draws x)))) commits.1 here in
          let stored = answers_stand base history server runs whose now kept call answers draws x plain commits.2 in
          let under : stored.0.ltxid.number < n = below stored.0 (Contains-append_right base.entries server.core.entries stored.0 stored.1.0) (sym stored.1.1.0 ∙ (commits.0 ∙ its)) in
          let number : stored.0.ltxid.number + 1 ≡ x.number = stored.1.1.1 in
          let mine : x.number ≡ entry.ltxid.number + 1 = ap (λ (y : Ltxid). y.number) commits.3 in
          omega arith
      called (Served whose now (up.Call replay kept call) Stopped) here commits =
          let early : whose.incarnation < server.core.opening.incarnation = stopped_in server.core.opening.incarnation history whose now (up.Call replay kept call) (runs_stopped base history server sound runs power) here in
          let same : whose.incarnation ≡ session.incarnation = ap (λ (s : SessionId). s.incarnation) (commits.0 ∙ its) in
          absurd (let never : ⊥ = omega (arith, early, same, present) in never)
      called one here commits = absurd commits

      by : Contains base.entries entry ⊎ Contains other.core.entries entry → entry.ltxid.number < n
      by (inl old) = below entry (Contains-append_left base.entries server.core.entries entry old) its
      by (inr new) = let from = entry_from_item base history other also entry new in called from.0 from.1.0 from.1.1

  module _ (numbers : EntryNumbers) (numbered : numbered_after [] (base.entries ++ server.core.entries) ≡ true) where
    other_few : (other : Server) → Runs base history other → entries_of (base.entries ++ other.core.entries) session ≤ n
    other_few other also =
        let are : numbered_after [] (base.entries ++ other.core.entries) ≡ true = numbered_on base.entries server.core.entries other.core.entries numbered (numbers base history other sound also) in
        let all : 0 + entries_of (base.entries ++ other.core.entries) session ≤ n = few_below [] (base.entries ++ other.core.entries) session n are (other_below other also) (omega arith) in
        omega arith

    same_count : (a b : List Entry) → a ≡ b → entries_of (base.entries ++ a) session ≡ entries_of (base.entries ++ b) session
    same_count a b same = ap (λ (e : List Entry). entries_of (base.entries ++ e) session) same

    -- behind the frame
    pub after_few : (whose : SessionId) (now : ℕ) (frame : Up) (told : Telling) (after : Server) → Runs base (history ++ Served whose now frame told ∷ []) after → entries_of (base.entries ++ after.core.entries) session ≤ n + 1
    after_few whose now frame told after later =
        let last = runs_last base history (Served whose now frame told) after later in
        let first : entries_of (base.entries ++ last.before.core.entries) session ≤ n = other_few last.before last.runs in
        let grown : entries_of last.behind.core.entries session ≤ entries_of last.before.core.entries session + 1 =
        grown_few last.before.core.entries last.behind.core.entries session (frame_grown last.before last.behind (Served whose now frame told ∷ []) last.moves whose now frame told refl) in
        let a : entries_of (base.entries ++ last.before.core.entries) session ≡ entries_of base.entries session + entries_of last.before.core.entries session = entries_more base.entries last.before.core.entries session in
        let b : entries_of (base.entries ++ last.behind.core.entries) session ≡ entries_of base.entries session + entries_of last.behind.core.entries session = entries_more base.entries last.behind.core.entries session in
        let c : entries_of (base.entries ++ after.core.entries) session ≡ entries_of (base.entries ++ last.behind.core.entries) session = same_count after.core.entries last.behind.core.entries last.same.entries in
        omega arith

    pub after_none : (whose : SessionId) (now : ℕ) (replay : Bool) (kept : List Draw) (called : Call) (told : Telling) (after : Server) → Runs base (history ++ Served whose now (up.Call replay kept called) told ∷ []) after → has_commit called ≡ false
        → entries_of (base.entries ++ after.core.entries) session ≤ n
    after_none whose now replay kept called told after later none =
        let last = runs_last base history (Served whose now (up.Call replay kept called) told) after later in
        let first : entries_of (base.entries ++ last.before.core.entries) session ≤ n = other_few last.before last.runs in
        let same : last.behind.core.entries ≡ last.before.core.entries =
        call_none last.before last.behind (Served whose now (up.Call replay kept called) told ∷ []) last.moves whose now replay kept called told refl none in
        let c : entries_of (base.entries ++ after.core.entries) session ≡ entries_of (base.entries ++ last.before.core.entries) session = same_count after.core.entries last.before.core.entries (last.same.entries ∙ same) in
        omega arith
