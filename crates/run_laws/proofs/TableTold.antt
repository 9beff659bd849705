-- What was told by the outcome table on a store is the outcome by the number of the session's
-- entries there, as far as it is rightly forgotten or not.
use Rattle.std.proofs.Common.{◌≡◌, refl, sym, ap, subst, ◌∙◌, Bool, true, false, ℕ, ◌+◌, ◌&&◌, ◌||◌, List, [], map, Option, Some, if◌then◌else◌}
use Rattle.std.specs.Prelude.{◌==◌, not, nat_lt}
use Rattle.svc_values.specs.declared.entry.Entry.{Entry}
use Rattle.svc_values.specs.declared.entry.Ltxid.{Ltxid}
use Rattle.svc_values.specs.declared.frame.Ahead.TheVariants as ahead
use Rattle.svc_values.specs.declared.frame.Down.TheVariants as down
use Rattle.svc_values.specs.meaning.Identifiers.{session_of}
use Rattle.svc_values.specs.meaning.Same.{same_bool}
use Rattle.ltxid_book.specs.declared.State.{State}
use Rattle.ltxid_book.specs.declared.verdict.Verdict.{Verdict}
use Rattle.ltxid_book.specs.declared.verdict.Verdict.TheVariants as verdict
use Rattle.ltxid_book.specs.meaning.Journal.{committed_of, state_of, book_of}
use Rattle.ltxid_book.specs.meaning.Outcomes.{outcome_in, verdict_of}
use Rattle.ltxid_book.specs.meaning.Sessions.{untouched}
use Rattle.outage_schedule.specs.declared.note.AskResult.{AskResult}
use Rattle.outage_schedule.specs.declared.note.AskResult.TheVariants as told
use Rattle.run_clauses.specs.meaning.EntryEvents.{entries_of}
use Rattle.run_clauses.specs.meaning.Outcomes.{completed_of, has_committed, told_of, outcome_of, same_told, is_told, is_forgotten, says_forgotten}
use Rattle.server_model.specs.Outcomes.{down_of}
use Rattle.world_model.specs.records.Number.{numbered_after}
use Rattle.world_model.specs.meaning.Serving.{outcome_frame}
use Rattle.world_model.proofs.Offered.{commits_count, verdict_committed, bool_self, eq_from, eq_to}

-- answers with one frame are the same
same_frames : (a b : AskResult) → outcome_frame b ≡ outcome_frame a → same_told a b ≡ true
same_frames (told.Committed a) (told.Committed b) is = let same : b ≡ a = cc in ap (λ (c : Bool). same_bool a c) same ∙ bool_self a
same_frames told.Uncommitted told.Uncommitted is = refl
same_frames (told.ServerAhead a) (told.ServerAhead b) is = eq_to a b (let same : a ≡ b = cc in same)
same_frames (told.ClientAhead a) (told.ClientAhead b) is = eq_to a b (let same : a ≡ b = cc in same)
same_frames (told.Forgotten a) (told.Forgotten b) is = eq_to a b (let same : a ≡ b = cc in same)
same_frames a b is = absurd (let none : ⊥ = cc in none)

-- the tests of the table, in its order
abbrev by_tests : Bool → Bool → Bool → Bool → Bool → ℕ → Verdict
by_tests next blocked last earlier completed count =
    if next && not blocked then verdict.BlockIt
    else (if next && blocked then verdict.AlreadyBlocked
    else (if last then verdict.Committed completed
    else (if earlier then verdict.ServerAhead count
    else verdict.ClientAhead count)))

-- Whether the identifier is blocked makes no other answer, and of a commit the entry says whether
-- it is completed.
same_tests : (next blocked last earlier completed : Bool) (count : ℕ) (entry : Option Bool) (answer : AskResult) → outcome_frame answer ≡ down_of (by_tests next blocked last earlier completed count)
    → (next ≡ false → last ≡ true → entry ≡ Some completed) → is_told (told_of (by_tests next false last earlier false count) entry) answer ≡ true
same_tests true true last earlier completed count entry answer is there = same_frames told.Uncommitted answer is
same_tests true false last earlier completed count entry answer is there = same_frames told.Uncommitted answer is
same_tests false blocked true earlier completed count entry answer is there =
    ap (λ (found : Option Bool). is_told (told_of (verdict.Committed false) found) answer) (there refl refl) ∙ same_frames (told.Committed completed) answer is
same_tests false blocked false true completed count entry answer is there = same_frames (told.ServerAhead count) answer is
same_tests false blocked false false completed count entry answer is there = same_frames (told.ClientAhead count) answer is

never_forgotten : (answer : AskResult) (horizon : ℕ) → outcome_frame answer ≡ down.OutcomeRefused ahead.Forgotten horizon → is_forgotten answer ≡ true
never_forgotten (told.Forgotten a) horizon is = refl
never_forgotten (told.Committed completed) horizon is = absurd (let none : ⊥ = cc in none)
never_forgotten told.Uncommitted horizon is = absurd (let none : ⊥ = cc in none)
never_forgotten (told.ServerAhead next) horizon is = absurd (let none : ⊥ = cc in none)
never_forgotten (told.ClientAhead next) horizon is = absurd (let none : ⊥ = cc in none)

forgotten_told : (answer : AskResult) (horizon : ℕ) → is_forgotten answer ≡ true → says_forgotten answer horizon ≡ true → same_told (told.Forgotten horizon) answer ≡ true
forgotten_told (told.Forgotten a) horizon is says = eq_to horizon a (sym (eq_from a horizon says))
forgotten_told (told.Committed completed) horizon is says = absurd (let none : ⊥ = cc in none)
forgotten_told told.Uncommitted horizon is says = absurd (let none : ⊥ = cc in none)
forgotten_told (told.ServerAhead next) horizon is says = absurd (let none : ⊥ = cc in none)
forgotten_told (told.ClientAhead next) horizon is says = absurd (let none : ⊥ = cc in none)

module _ (answer : AskResult) (horizon : ℕ) (entries : List Entry) (blocked : List Ltxid) (x : Ltxid) (numbered : numbered_after [] entries ≡ true)
    (tells : outcome_frame answer ≡ down_of (verdict_of (book_of horizon (map committed_of entries) blocked) x)) where
  abbrev state : State
  state = state_of (map committed_of entries) blocked x.incarnation x.session

  abbrev told_if : Bool → Verdict
  told_if old = if old then verdict.Forgotten horizon else outcome_in (if old then untouched else state) x.number

  -- by this number, and what is known of the entry
  pub told_by_count : (entry : Option Bool) (next wanted : ℕ) → next ≡ entries_of entries (session_of x) → ((completed : Bool) → completed_of entries x ≡ Some completed → entry ≡ Some completed)
      → is_forgotten answer ≡ nat_lt x.incarnation wanted → (is_forgotten answer ≡ true → says_forgotten answer wanted ≡ true) → is_told (outcome_of wanted next entry x) answer ≡ true
  told_by_count entry next wanted count there forgotten says = by (nat_lt x.incarnation wanted) forgotten
    where
      same_next : state.next ≡ next
      same_next = commits_count x entries ∙ sym count

      committed : nat_lt x.incarnation horizon ≡ false → (x.number == state.next) ≡ false → (x.number + 1 == state.next) ≡ true → entry ≡ Some state.completed
      committed known other last =
          there state.completed
          (verdict_committed horizon entries blocked x state.completed
          (ap told_if known ∙ (λ i. by_tests (other i) state.blocked (last i) (nat_lt (x.number + 1) state.next) state.completed state.next)) numbered)

      known_told : (old : Bool) → nat_lt x.incarnation horizon ≡ old → outcome_frame answer ≡ down_of (told_if old) → is_forgotten answer ≡ false → is_told (told_of (outcome_in (has_committed next) x.number) entry) answer ≡ true
      known_told true known is not_so = absurd (let never : true ≡ false = sym (never_forgotten answer horizon is) ∙ not_so in let none : ⊥ = cc in none)
      known_told false known is not_so =
          subst (λ (n : ℕ). is_told (told_of (outcome_in (has_committed n) x.number) entry) answer ≡ true) same_next
          (same_tests (x.number == state.next) state.blocked (x.number + 1 == state.next) (nat_lt (x.number + 1) state.next) state.completed state.next entry answer is (committed known))

      by : (old : Bool) → is_forgotten answer ≡ old → is_told (told_of (if old then verdict.Forgotten wanted else outcome_in (if old then untouched else has_committed next) x.number) entry) answer ≡ true
      by true is = forgotten_told answer wanted is (says is)
      by false is = known_told (nat_lt x.incarnation horizon) refl tells is

-- WHERE IT IS RIGHTLY FORGOTTEN -------------------------------------------------------------------

-- what is told by the table on a store is forgotten exactly below the store's horizon
pub forgotten_by_table : (answer : AskResult) (horizon : ℕ) (entries : List Entry) (blocked : List Ltxid) (x : Ltxid) → outcome_frame answer ≡ down_of (verdict_of (book_of horizon (map committed_of entries) blocked) x)
    → (same_bool (is_forgotten answer) (nat_lt x.incarnation horizon) && (not (is_forgotten answer) || says_forgotten answer horizon)) ≡ true
forgotten_by_table answer horizon entries blocked x tells = by answer (nat_lt x.incarnation horizon) tells
  where
    known : (answer : AskResult) (next stopped last earlier completed : Bool) (count : ℕ) → outcome_frame answer ≡ down_of (by_tests next stopped last earlier completed count) → is_forgotten answer ≡ false
    known (told.Committed completed) next stopped last earlier done count is = refl
    known told.Uncommitted next stopped last earlier done count is = refl
    known (told.ServerAhead a) next stopped last earlier done count is = refl
    known (told.ClientAhead a) next stopped last earlier done count is = refl
    known (told.Forgotten a) true true last earlier done count is = absurd (let none : ⊥ = cc in none)
    known (told.Forgotten a) true false last earlier done count is = absurd (let none : ⊥ = cc in none)
    known (told.Forgotten a) false stopped true earlier done count is = absurd (let none : ⊥ = cc in none)
    known (told.Forgotten a) false stopped false true done count is = absurd (let none : ⊥ = cc in none)
    known (told.Forgotten a) false stopped false false done count is = absurd (let none : ⊥ = cc in none)

    says : (answer : AskResult) → outcome_frame answer ≡ down.OutcomeRefused ahead.Forgotten horizon → (same_bool (is_forgotten answer) true && (not (is_forgotten answer) || says_forgotten answer horizon)) ≡ true
    says (told.Forgotten a) is = eq_to a horizon (let same : a ≡ horizon = cc in same)
    says (told.Committed completed) is = absurd (let none : ⊥ = cc in none)
    says told.Uncommitted is = absurd (let none : ⊥ = cc in none)
    says (told.ServerAhead next) is = absurd (let none : ⊥ = cc in none)
    says (told.ClientAhead next) is = absurd (let none : ⊥ = cc in none)

    by : (answer : AskResult) (old : Bool)
        → outcome_frame answer ≡ down_of (if old then verdict.Forgotten horizon else outcome_in (if old then untouched else state_of (map committed_of entries) blocked x.incarnation x.session) x.number)
        → (same_bool (is_forgotten answer) old && (not (is_forgotten answer) || says_forgotten answer horizon)) ≡ true
    by answer true is = says answer is
    by answer false is =
        ap (λ (b : Bool). same_bool b false && (not b || says_forgotten answer horizon))
        (let state : State = state_of (map committed_of entries) blocked x.incarnation x.session in
        known answer (x.number == state.next) state.blocked (x.number + 1 == state.next) (nat_lt (x.number + 1) state.next) state.completed state.next is)
