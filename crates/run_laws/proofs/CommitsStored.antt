-- Frame by frame, the entries that a run of the plain server gains are of the commits that its
-- report tells of.
use Rattle.std.proofs.Common.{◌≡◌, refl, sym, ap, subst, ◌∙◌, append-nil, append_assoc, Bool, true, false, ℕ, ◌+◌, ◌<◌, ◌≤◌, ◌&&◌, ◌||◌, cond, length, List, [], ◌∷◌, ◌++◌, map, arith}
use Rattle.std.specs.Prelude.{All, not, nat_lt}
use Rattle.std.specs.List.{list_all, list_any}
use Rattle.std.proofs.lemmas.Bool.{and_parts, or_left, or_right}
use Rattle.std.proofs.lemmas.Bool.Decides.{nat_tests}
use Rattle.std.proofs.lemmas.List.Folds.{list_any-append, list_all-append}
use Rattle.std.proofs.lemmas.List.Elements.{All-nil, All-cons, All-head, All-tail, All-weaker, All-contains}
use Rattle.svc_values.specs.declared.answer.Answer.{Answer}
use Rattle.svc_values.specs.declared.call.Call.{Call}
use Rattle.svc_values.specs.declared.draw.Draw.{Draw}
use Rattle.svc_values.specs.declared.entry.Entry.{Entry}
use Rattle.svc_values.specs.declared.entry.Ltxid.{Ltxid}
use Rattle.svc_values.specs.declared.entry.SessionId.{SessionId}
use Rattle.svc_values.specs.declared.frame.Up.TheVariants as up
use Rattle.svc_values.specs.declared.frame.Down.TheVariants as down
use Rattle.svc_values.specs.meaning.Calls.{has_commit}
use Rattle.svc_values.specs.meaning.Endings.{ends_committed}
use Rattle.svc_values.specs.meaning.Identifiers.{same_ltxid, session_of, is_of_session}
use Rattle.svc_values.specs.SameLaws.{same_ltxid_decides}
use Rattle.run_clauses.specs.meaning.EntryEvents.{Commit, commits_by, commit_if, has_crashed_commit, next_of_session, entries_of}
use Rattle.server_model.specs.meaning.Base.{Base}
use Rattle.server_model.specs.Base.{IsSound}
use Rattle.server_model.specs.Laws.{CommitsAs, EntryNumbers, is_behind, stops_last}
use Rattle.server_model.specs.meaning.Outcomes.{Silent, Says, Stopped}
use Rattle.server_model.specs.Runs.{Happened, Served as ServedFrame, Asked as WasAsked, Server, Runs}
use Rattle.server_model.specs.ServiceCalls.{CameFrom}
use Rattle.world_model.specs.records.Number.{numbered_after}
use Rattle.run_laws.proofs.BlockedApart.{none_alike}
use Rattle.run_laws.proofs.CommitsGrow.{session_in, session_at, AreOf}
use Rattle.run_laws.proofs.EntriesSince.{StoresCommit}
use Rattle.world_model.proofs.Offered.{entries_more, commits_session, gains_none, entries_cons, numbered_on, numbered_parts, all_below, lt_from, session_self}

-- STOPS -------------------------------------------------------------------------------------------

-- of a later incarnation than this
abbrev IsAbove : ℕ → Happened → Type 0
IsAbove incarnation (ServedFrame session now frame told) = incarnation < session.incarnation
IsAbove incarnation (WasAsked x told) = Unit {0}

all_above : (incarnation : ℕ) (later : List Happened) → is_behind incarnation later ≡ true → All (IsAbove incarnation) later
all_above incarnation [] is = All-nil (IsAbove incarnation)
all_above incarnation (ServedFrame session now frame told ∷ later) is =
    let parts = and_parts (nat_lt incarnation session.incarnation) (is_behind incarnation later) is in
    All-cons (IsAbove incarnation) (ServedFrame session now frame told) later (lt_from incarnation session.incarnation parts.0) (all_above incarnation later parts.1)
all_above incarnation (WasAsked x told ∷ later) is = All-cons (IsAbove incarnation) (WasAsked x told) later tt (all_above incarnation later is)

above_other : (session : SessionId) (one : Happened) (entry : Entry) → IsAbove session.incarnation one → CommitsAs entry one → session_of entry.ltxid ≡ session → ⊥
above_other session (ServedFrame other now frame told) entry above commits same =
    let its : other ≡ session = commits_session entry other now frame told commits ∙ same in
    let number : other.incarnation ≡ session.incarnation = ap (λ (s : SessionId). s.incarnation) its in
    let never : ⊥ = omega (arith, above, number) in never
above_other session (WasAsked x told) entry above commits same = commits

-- no entry of a session that was stopped comes later
pub none_later : (session : SessionId) (later : List Happened) (gained : List Entry) → is_behind session.incarnation later ≡ true → All (CameFrom later) gained → entries_of gained session ≡ 0
none_later session later gained behind came =
    gains_none later session gained came
    (λ one contains entry commits same. above_other session one entry (All-contains (IsAbove session.incarnation) later one (all_above session.incarnation later behind) contains) commits same)

pub stops_rest : (history more : List Happened) → stops_last (history ++ more) ≡ true → stops_last more ≡ true
stops_rest [] more is = is
stops_rest (ServedFrame session now frame Silent ∷ history) more is = stops_rest history more is
stops_rest (ServedFrame session now frame (Says told) ∷ history) more is = stops_rest history more is
stops_rest (ServedFrame session now frame Stopped ∷ history) more is = stops_rest history more (and_parts (stops_last (history ++ more)) (is_behind session.incarnation (history ++ more)) is).0
stops_rest (WasAsked x told ∷ history) more is = stops_rest history more is

-- ANSWERED CALLS ----------------------------------------------------------------------------------

pub no_entries : (few : List Entry) (P : Entry → Type 0) → All P few → ((entry : Entry) → P entry → ⊥) → few ≡ []
no_entries [] P all never = refl
no_entries (entry ∷ few) P all never = absurd (never entry (All-head P entry few all))

one_entry : (few : List Entry) (session : SessionId) → length few ≡ 1 → All (λ entry. session ≡ session_of entry.ltxid) few → map session_in few ≡ session ∷ []
one_entry [] session one all = absurd (let never : ⊥ = cc in never)
one_entry (entry ∷ []) session one all = ap (λ (s : SessionId). s ∷ []) (sym (All-head (λ (e : Entry). session ≡ session_of e.ltxid) entry [] all))
one_entry (entry ∷ other ∷ few) session one all = absurd (let never : ⊥ = omega (arith, one) in never)

pub reply_are : (session : SessionId) (now : ℕ) (replay : Bool) (kept : List Draw) (called : Call) (answers : List Answer) (draws : List Draw) (x : Ltxid) (event : ℕ) (few : List Entry)
    → All (λ entry. CommitsAs entry (ServedFrame session now (up.Call replay kept called) (Says (down.Reply answers draws x)))) few
    → StoresCommit (ServedFrame session now (up.Call replay kept called) (Says (down.Reply answers draws x))) few → AreOf few (commit_if (ends_committed answers) session event)
reply_are session now replay kept called answers draws x event few own stored = by (ends_committed answers) refl
  where
    P : Entry → Type 0
    P entry = CommitsAs entry (ServedFrame session now (up.Call replay kept called) (Says (down.Reply answers draws x)))

    by : (ends : Bool) → ends_committed answers ≡ ends → AreOf few (commit_if ends session event)
    by true is = one_entry few session (stored is) (All-weaker P (λ (entry : Entry). session ≡ session_of entry.ltxid) (λ entry commits. commits.0) few own)
    by false is = ap (map session_in) (no_entries few P own (λ entry commits. let ends : ends_committed answers ≡ true = commits.2 in let never : ⊥ = cc in never))

-- STOPPED CALLS -----------------------------------------------------------------------------------

numbered_push : (before entries : List Entry) (entry : Entry) → numbered_after before (entries ++ entry ∷ []) ≡ true → entry.ltxid.number ≡ entries_of before (session_of entry.ltxid) + entries_of entries (session_of entry.ltxid)
numbered_push before [] entry is =
    let here = (numbered_parts before [] entry is).0 in
    let same : entries_of before (session_of entry.ltxid) ≡ entries_of before (session_of entry.ltxid) + 0 = omega arith in
    here ∙ same
numbered_push before (one ∷ entries) entry is =
    let later : entry.ltxid.number ≡ entries_of (one ∷ before) (session_of entry.ltxid) + entries_of entries (session_of entry.ltxid) = numbered_push (one ∷ before) entries entry (numbered_parts before (entries ++ entry ∷ []) one is).1 in
    let first = entries_cons one before (session_of entry.ltxid) in
    let second = entries_cons one entries (session_of entry.ltxid) in
    omega (arith, later, first, second)

-- none of a session that none of them is of
none_of_session : (entries : List Entry) (x : Ltxid) → entries_of entries (session_of x) ≡ 0 → list_any (λ entry. same_ltxid entry.ltxid x) entries ≡ false
none_of_session [] x none = refl
none_of_session (entry ∷ entries) x none = by (same_ltxid entry.ltxid x) refl (entries_cons entry entries (session_of x)) (none_of_session entries x)
  where
    by : (same : Bool) → same_ltxid entry.ltxid x ≡ same → entries_of (entry ∷ entries) (session_of x) ≡ cond (is_of_session (session_of x) entry.ltxid) 1 0 + entries_of entries (session_of x)
        → (entries_of entries (session_of x) ≡ 0 → list_any (λ (one : Entry). same_ltxid one.ltxid x) entries ≡ false) → (same || list_any (λ (one : Entry). same_ltxid one.ltxid x) entries) ≡ false
    by true is sum again =
        let own : is_of_session (session_of x) entry.ltxid ≡ true = ap (λ (y : Ltxid). is_of_session (session_of x) y) ((same_ltxid_decides entry.ltxid x).0 is) ∙ session_self (session_of x) in
        let one : ◌≡◌ {A = ℕ} (cond (is_of_session (session_of x) entry.ltxid) 1 0) 1 = ap (λ (b : Bool). cond b 1 0) own in
        absurd (let never : ⊥ = omega (arith, none, sum, one) in never)
    by false is sum again =
        let rest : entries_of entries (session_of x) ≡ 0 = omega (arith, none, sum) in
        again rest

not_of_session : (session : SessionId) (x : Ltxid) → x.incarnation < session.incarnation → is_of_session session x ≡ false
not_of_session session x below = grind (arith, nat_tests, below)

module _ (base : Base) (sound : IsSound base) (numbers : EntryNumbers) (final : List Entry) (numbered : numbered_after [] (base.entries ++ final) ≡ true) where
  -- the entries of a run are numbered behind the base's
  pub run_numbered : (history : List Happened) (server : Server) → Runs base history server → numbered_after [] (base.entries ++ server.core.entries) ≡ true
  run_numbered history server runs = numbered_on base.entries final server.core.entries numbered (numbers base history server sound runs)

  -- a session of the run has none of the base's
  none_before : (session : SessionId) → base.incarnation < session.incarnation → entries_of base.entries session ≡ 0
  none_before session later = by base.entries sound.earlier
    where
      by : (entries : List Entry) → All (λ entry. entry.ltxid.incarnation ≤ base.incarnation) entries → entries_of entries session ≡ 0
      by [] all = refl
      by (entry ∷ entries) all =
          let below : entry.ltxid.incarnation ≤ base.incarnation = All-head (λ (e : Entry). e.ltxid.incarnation ≤ base.incarnation) entry entries all in
          let other : is_of_session session entry.ltxid ≡ false = not_of_session session entry.ltxid (omega (arith, below, later)) in
          entries_cons entry entries session
          ∙ (ap (λ (b : Bool). cond b 1 0 + entries_of entries session) other ∙ by_rest (by entries (All-tail (λ (e : Entry). e.ltxid.incarnation ≤ base.incarnation) entry entries all)))
        where
          by_rest : entries_of entries session ≡ 0 → 0 + entries_of entries session ≡ 0
          by_rest none = omega (arith, none)

  module _ (session : SessionId) (before : List Entry) (commits : List Commit) (later : base.incarnation < session.incarnation) (before_numbered : numbered_after [] (base.entries ++ before) ≡ true)
      (counts : entries_of before session ≡ commits_by session commits) where
    -- the identifier that the session commits under next
    abbrev next : Ltxid
    next = next_of_session session commits

    next_number : entries_of (base.entries ++ before) session ≡ commits_by session commits
    next_number =
        let none : entries_of base.entries session ≡ 0 = none_before session later in
        let both : entries_of (base.entries ++ before) session ≡ entries_of base.entries session + entries_of before session = entries_more base.entries before session in
        omega (arith, none, both, counts)

    -- no entry has it so far
    not_yet : list_any (λ entry. same_ltxid entry.ltxid next) before ≡ false
    not_yet =
        none_alike (base.entries ++ before) before next (sym next_number)
        (and_parts (list_all below base.entries) (list_all below before) (sym (list_all-append below base.entries before) ∙ all_below (base.entries ++ before) before_numbered)).1
      where
        below : Entry → Bool
        below entry = nat_lt entry.ltxid.number (entries_of (base.entries ++ before) (session_of entry.ltxid))

    -- nor later, where nothing of the session is
    never_yet : (gained : List Entry) → final ≡ before ++ gained → entries_of gained session ≡ 0 → list_any (λ entry. same_ltxid entry.ltxid next) final ≡ false
    never_yet gained split none =
        ap (list_any (λ (entry : Entry). same_ltxid entry.ltxid next)) split
        ∙ (list_any-append (λ (entry : Entry). same_ltxid entry.ltxid next) before gained
        ∙ (λ i. not_yet i || none_of_session gained next none i))

    -- an entry that the session stores has it
    stored_next : (entry : Entry) → session_of entry.ltxid ≡ session → numbered_after [] ((base.entries ++ before) ++ entry ∷ []) ≡ true → entry.ltxid ≡ next
    stored_next entry own is = λ i. record { incarnation = (own i).incarnation; session = (own i).session; number = number i }
      where
        number : entry.ltxid.number ≡ commits_by session commits
        number =
            let here : entry.ltxid.number ≡ entries_of [] (session_of entry.ltxid) + entries_of (base.entries ++ before) (session_of entry.ltxid) = numbered_push [] (base.entries ++ before) entry is in
            let same : entries_of (base.entries ++ before) (session_of entry.ltxid) ≡ commits_by session commits = ap (entries_of (base.entries ++ before)) own ∙ next_number in
            omega (arith, here, same)

    found : (entry : Entry) (gained : List Entry) → final ≡ (before ++ entry ∷ []) ++ gained → entry.ltxid ≡ next → list_any (λ one. same_ltxid one.ltxid next) final ≡ true
    found entry gained split own =
        ap (list_any test) split
        ∙ (list_any-append test (before ++ entry ∷ []) gained
        ∙ or_left (list_any test (before ++ entry ∷ [])) (list_any test gained)
        (list_any-append test before (entry ∷ []) ∙ or_right (list_any test before) (list_any test (entry ∷ [])) (or_left (test entry) false ((same_ltxid_decides entry.ltxid next).1 own))))
      where
        test : Entry → Bool
        test one = same_ltxid one.ltxid next

    -- A call that was stopped stored its entry exactly where an entry has the session's next
    -- identifier.
    pub stopped_are : (now : ℕ) (replay : Bool) (kept : List Draw) (called : Call) (event : ℕ) (few gained : List Entry) → final ≡ (before ++ few) ++ gained → numbered_after [] (base.entries ++ (before ++ few)) ≡ true → length few ≤ 1
        → All (λ entry. CommitsAs entry (ServedFrame session now (up.Call replay kept called) Stopped)) few → (has_commit called ≡ false → few ≡ []) → entries_of gained session ≡ 0
        → AreOf few (commit_if (has_crashed_commit final commits session replay called) session event)
    stopped_are now replay kept called event [] gained split few_numbered short own needs none =
        ap (λ (b : Bool). map session_at (commit_if b session event)) (sym (by replay (has_commit called)))
      where
        none_there : list_any (λ (entry : Entry). same_ltxid entry.ltxid next) final ≡ false
        none_there = never_yet gained (split ∙ ap (λ (l : List Entry). l ++ gained) (append-nil before)) none

        by : (marked commits_now : Bool) → (not marked && (commits_now && list_any (λ (entry : Entry). same_ltxid entry.ltxid next) final)) ≡ false
        by true commits_now = refl
        by false true = none_there
        by false false = refl
    stopped_are now replay kept called event (entry ∷ []) gained split few_numbered short own needs none =
        ap (λ (s : SessionId). s ∷ []) (sym commits_as.0) ∙ ap (λ (b : Bool). map session_at (commit_if b session event)) (sym (by (has_commit called) refl))
      where
        commits_as : (session ≡ session_of entry.ltxid) × (replay ≡ false)
        commits_as = All-head (λ (e : Entry). CommitsAs e (ServedFrame session now (up.Call replay kept called) Stopped)) entry [] own

        there : list_any (λ (one : Entry). same_ltxid one.ltxid next) final ≡ true
        there =
            found entry gained split
            (stored_next entry (sym commits_as.0) (subst (λ (all : List Entry). numbered_after [] all ≡ true) (sym (append_assoc base.entries before (entry ∷ []))) few_numbered))

        by : (commits_now : Bool) → has_commit called ≡ commits_now → has_crashed_commit final commits session replay called ≡ true
        by true is = (λ i. not (commits_as.1 i) && (is i && there i))
        by false is = absurd (let never : entry ∷ [] ≡ [] = needs is in let no : ⊥ = cc in no)
    stopped_are now replay kept called event (entry ∷ other ∷ few) gained split few_numbered short own needs none = absurd (let never : ⊥ = omega (arith, short) in never)
