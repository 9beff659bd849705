-- What the table says of an identifier: committed, its entry is there and is its session's last;
-- and where it says ahead, its session is not near it.
use Rattle.std.proofs.Common.{◌≡◌, refl, sym, ap, ◌∙◌, Bool, true, false, ℕ, zero, suc, ◌+◌, ◌<◌, ◌≤◌, ◌&&◌, cond, length, List, [], ◌∷◌, map, Option, Some, arith, if◌then◌else◌}
use Rattle.std.specs.Prelude.{◌==◌, not, nat_lt, find, option_map}
use Rattle.std.proofs.lemmas.Bool.Decides.{nat_tests}
use Rattle.svc_values.specs.declared.entry.Entry.{Entry}
use Rattle.svc_values.specs.declared.entry.Ltxid.{Ltxid}
use Rattle.svc_values.specs.declared.frame.Down.TheVariants as down
use Rattle.svc_values.specs.declared.frame.Ahead.TheVariants as ahead
use Rattle.svc_values.specs.meaning.Identifiers.{is_of_session, same_ltxid, session_of}
use Rattle.ltxid_book.specs.declared.State.{State}
use Rattle.ltxid_book.specs.declared.verdict.Verdict.{Verdict}
use Rattle.ltxid_book.specs.declared.verdict.Verdict.TheVariants as verdict
use Rattle.ltxid_book.specs.meaning.Journal.{Committed, committed_of, commits_of, last_completed, state_of, book_of}
use Rattle.ltxid_book.specs.meaning.Outcomes.{outcome_in, verdict_of}
use Rattle.ltxid_book.specs.meaning.Sessions.{untouched}
use Rattle.run_clauses.specs.meaning.EntryEvents.{entries_of}
use Rattle.run_clauses.specs.meaning.Outcomes.{completed_of}
use Rattle.server_model.specs.Outcomes.{down_of}
use Rattle.world_model.specs.records.Number.{numbered_after}
use Rattle.world_model.proofs.number.Blocks.{commits_count}
use Rattle.world_model.proofs.events.Lists.{none_of}
use Rattle.world_model.proofs.number.Numbered.{entries_cons, numbered_parts}
use Rattle.world_model.proofs.events.Tests.{eq_from, eq_to, ne_to, same_session_is}

-- THE LAST ENTRY ----------------------------------------------------------------------------------

last_behind : (first : Committed) (rest : List Committed) → 1 ≤ length rest → last_completed (first ∷ rest) ≡ last_completed rest
last_behind first [] some = absurd (let never : ⊥ = omega arith in never)
last_behind first (one ∷ rest) some = refl

-- an entry is passed over, or found
skipped : (entry : Entry) (later : Option Entry) (test : Bool) → test ≡ false → cond test (Some entry) later ≡ later
skipped entry later true is = absurd (let none : ⊥ = cc in none)
skipped entry later false is = refl

taken : (entry : Entry) (later : Option Entry) (test : Bool) → test ≡ true → cond test (Some entry) later ≡ Some entry
taken entry later true is = refl
taken entry later false is = absurd (let none : ⊥ = cc in none)

-- the commits of the session of an identifier
abbrev commits_in : List Entry → Ltxid → List Committed
commits_in entries x = commits_of (map committed_of entries) x.incarnation x.session

-- the entry of the number below the count is the last one of its session
pub found_last : (before entries : List Entry) (x : Ltxid) → numbered_after before entries ≡ true → x.number + 1 ≡ entries_of before (session_of x) + entries_of entries (session_of x) → 1 ≤ entries_of entries (session_of x)
    → completed_of entries x ≡ Some (last_completed (commits_of (map committed_of entries) x.incarnation x.session))
found_last before [] x numbered sum some = absurd (let never : ⊥ = omega arith in never)
found_last before (entry ∷ rest) x numbered sum some =
    by (is_of_session (session_of x) entry.ltxid) refl (λ sum more. found_last (entry ∷ before) rest x (numbered_parts before rest entry numbered).1 sum more)
    (entries_cons entry rest (session_of x)) (entries_cons entry before (session_of x))
  where
    long : length (commits_in rest x) ≡ entries_of rest (session_of x)
    long = commits_count x rest

    number : entry.ltxid.number ≡ entries_of before (session_of entry.ltxid)
    number = (numbered_parts before rest entry numbered).0

    by : (test : Bool) → is_of_session (session_of x) entry.ltxid ≡ test
        → (x.number + 1 ≡ entries_of (entry ∷ before) (session_of x) + entries_of rest (session_of x) → 1 ≤ entries_of rest (session_of x) → completed_of rest x ≡ Some (last_completed (commits_in rest x)))
        → entries_of (entry ∷ rest) (session_of x) ≡ cond test 1 0 + entries_of rest (session_of x) → entries_of (entry ∷ before) (session_of x) ≡ cond test 1 0 + entries_of before (session_of x)
        → option_map (λ (e : Entry). e.completed) (cond (test && (entry.ltxid.number == x.number)) (Some entry) (find (λ e. same_ltxid e.ltxid x) rest)) ≡ Some (last_completed (cond test (committed_of entry ∷ (commits_in rest x)) (commits_in rest x)))
    by true is again whole part = cases (entries_of rest (session_of x)) refl
      where
        at : entry.ltxid.number ≡ entries_of before (session_of x)
        at = number ∙ ap (entries_of before) (same_session_is (session_of entry.ltxid) (session_of x) is)

        cases : (n : ℕ) → entries_of rest (session_of x) ≡ n → option_map (λ (e : Entry). e.completed) (cond (entry.ltxid.number == x.number) (Some entry) (find (λ e. same_ltxid e.ltxid x) rest)) ≡ Some (last_completed (committed_of entry ∷ (commits_in rest x)))
        cases zero none =
            let same : entry.ltxid.number ≡ x.number = omega (arith, at, sum, whole, none) in
            ap (option_map (λ (e : Entry). e.completed)) (taken entry (find (λ e. same_ltxid e.ltxid x) rest) (entry.ltxid.number == x.number) (eq_to entry.ltxid.number x.number same))
            ∙ ap (λ (list : List Committed). Some (last_completed (committed_of entry ∷ list))) (sym (none_of (commits_in rest x) (long ∙ none)))
        cases (suc n) more =
            let least : 1 ≤ entries_of rest (session_of x) = omega (arith, more) in
            let below : entry.ltxid.number < x.number = omega (arith, at, sum, whole, more) in
            let longs : 1 ≤ length (commits_in rest x) = omega (arith, long, least) in
            ap (option_map (λ (e : Entry). e.completed)) (skipped entry (find (λ e. same_ltxid e.ltxid x) rest) (entry.ltxid.number == x.number) (ne_to entry.ltxid.number x.number below))
            ∙ (again (omega (arith, sum, whole, part)) least ∙ ap Some (sym (last_behind (committed_of entry) (commits_in rest x) longs)))
    by false is again whole part = again (omega (arith, sum, whole, part)) (omega (arith, some, whole))

-- THE TABLE ---------------------------------------------------------------------------------------

abbrev outcome_by : (next : ℕ) (completed : Bool) → (a b c d : Bool) → Verdict
outcome_by next completed a b c d = if a then verdict.BlockIt else (if b then verdict.AlreadyBlocked else (if c then verdict.Committed completed else (if d then verdict.ServerAhead next else verdict.ClientAhead next)))

committed_in : (state : State) (number : ℕ) (completed : Bool) → outcome_in state number ≡ verdict.Committed completed → (number + 1 ≡ state.next) × (state.completed ≡ completed)
committed_in state number completed is = by ((number == state.next) && not state.blocked) ((number == state.next) && state.blocked) (number + 1 == state.next) (nat_lt (number + 1) state.next) refl is
  where
    by : (a b c d : Bool) → (number + 1 == state.next) ≡ c → outcome_by state.next state.completed a b c d ≡ verdict.Committed completed → (number + 1 ≡ state.next) × (state.completed ≡ completed)
    by true b c d at is = absurd (let none : ⊥ = cc in none)
    by false true c d at is = absurd (let none : ⊥ = cc in none)
    by false false true d at is = (eq_from (number + 1) state.next at, (let same : state.completed ≡ completed = cc in same))
    by false false false true at is = absurd (let none : ⊥ = cc in none)
    by false false false false at is = absurd (let none : ⊥ = cc in none)

abbrev pub is_ahead_of : Verdict → Bool
is_ahead_of (verdict.ServerAhead next) = true
is_ahead_of (verdict.ClientAhead next) = true
is_ahead_of _ = false

ahead_in : (state : State) (number : ℕ) → is_ahead_of (outcome_in state number) ≡ true → number ≤ state.next → state.next ≤ number + 1 → ⊥
ahead_in state number is least most = by (number == state.next) state.blocked (number + 1 == state.next) (nat_lt (number + 1) state.next) refl refl is
  where
    by : (a b c d : Bool) → (number == state.next) ≡ a → (number + 1 == state.next) ≡ c → is_ahead_of (outcome_by state.next state.completed (a && not b) (a && b) c d) ≡ true → ⊥
    by true true c d one other is = let none : ⊥ = cc in none
    by true false c d one other is = let none : ⊥ = cc in none
    by false b true d one other is = let none : ⊥ = cc in none
    by false b false d one other is = neither one other
      where
        neither : (number == state.next) ≡ false → (number + 1 == state.next) ≡ false → ⊥
        neither one other = grind (arith, nat_tests, least, most)

module _ (horizon : ℕ) (entries : List Entry) (blocked : List Ltxid) (x : Ltxid) where
  abbrev state_now : State
  state_now = state_of (map committed_of entries) blocked x.incarnation x.session

  next_is : state_now.next ≡ entries_of entries (session_of x)
  next_is = commits_count x entries

  -- committed: the entry is there
  pub verdict_committed : (completed : Bool) → verdict_of (book_of horizon (map committed_of entries) blocked) x ≡ verdict.Committed completed → numbered_after [] entries ≡ true → completed_of entries x ≡ Some completed
  verdict_committed completed is numbered = by (nat_lt x.incarnation horizon) is
    where
      by : (old : Bool) → (if old then verdict.Forgotten horizon else outcome_in (if old then untouched else state_now) x.number) ≡ verdict.Committed completed → completed_of entries x ≡ Some completed
      by true is = absurd (let none : ⊥ = cc in none)
      by false is =
          let here = committed_in state_now x.number completed is in
          let count : x.number + 1 ≡ entries_of entries (session_of x) = here.0 ∙ next_is in
          let sum : x.number + 1 ≡ 0 + entries_of entries (session_of x) = omega (arith, count) in
          let some : 1 ≤ entries_of entries (session_of x) = omega (arith, count) in
          found_last [] entries x numbered sum some ∙ ap Some here.1

  -- ahead of it no session is that is near
  pub verdict_near : is_ahead_of (verdict_of (book_of horizon (map committed_of entries) blocked) x) ≡ true → x.number ≤ entries_of entries (session_of x) → entries_of entries (session_of x) ≤ x.number + 1 → ⊥
  verdict_near is least most = by (nat_lt x.incarnation horizon) is
    where
      by : (old : Bool) → is_ahead_of (if old then verdict.Forgotten horizon else outcome_in (if old then untouched else state_now) x.number) ≡ true → ⊥
      by true is = let none : ⊥ = cc in none
      by false is = ahead_in state_now x.number is (omega (arith, next_is, least)) (omega (arith, next_is, most))

-- WHAT IS TOLD ------------------------------------------------------------------------------------

pub told_committed : (completed : Bool) (judged : Verdict) → down.OutcomeIs true completed ≡ down_of judged → judged ≡ verdict.Committed completed
told_committed completed (verdict.Committed other) is = let same : completed ≡ other = cc in ap verdict.Committed (sym same)
told_committed completed verdict.BlockIt is = absurd (let none : ⊥ = cc in none)
told_committed completed verdict.AlreadyBlocked is = absurd (let none : ⊥ = cc in none)
told_committed completed (verdict.ServerAhead next) is = absurd (let none : ⊥ = cc in none)
told_committed completed (verdict.ClientAhead next) is = absurd (let none : ⊥ = cc in none)
told_committed completed (verdict.Forgotten horizon) is = absurd (let none : ⊥ = cc in none)

pub told_server : (next : ℕ) (judged : Verdict) → down.OutcomeRefused ahead.Server next ≡ down_of judged → is_ahead_of judged ≡ true
told_server next (verdict.ServerAhead other) is = refl
told_server next (verdict.ClientAhead other) is = refl
told_server next verdict.BlockIt is = absurd (let none : ⊥ = cc in none)
told_server next verdict.AlreadyBlocked is = absurd (let none : ⊥ = cc in none)
told_server next (verdict.Committed other) is = absurd (let none : ⊥ = cc in none)
told_server next (verdict.Forgotten horizon) is = absurd (let none : ⊥ = cc in none)

pub told_client : (next : ℕ) (judged : Verdict) → down.OutcomeRefused ahead.Client next ≡ down_of judged → is_ahead_of judged ≡ true
told_client next (verdict.ServerAhead other) is = refl
told_client next (verdict.ClientAhead other) is = refl
told_client next verdict.BlockIt is = absurd (let none : ⊥ = cc in none)
told_client next verdict.AlreadyBlocked is = absurd (let none : ⊥ = cc in none)
told_client next (verdict.Committed other) is = absurd (let none : ⊥ = cc in none)
told_client next (verdict.Forgotten horizon) is = absurd (let none : ⊥ = cc in none)
