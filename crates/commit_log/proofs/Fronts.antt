-- Records judged one after the other: what each was, and what the journal was after the first of
-- them.
use Rattle.std.proofs.Common.{◌≡◌, ℕ, ◌+◌, ◌^◌, ◌≤◌, ◌&&◌, ◌||◌, Bool, true, false, List, [], ◌∷◌, ◌++◌, length, map, Option, Some, None, refl, sym, ◌∙◌, ap, subst, arith, fold}
use Rattle.std.specs.Prelude.{nat_le, nat_lt, Result, Ok, Err, option_and_then, if◌then◌else◌}
use Rattle.std.proofs.lemmas.Bool.Decides.{nat_tests}
use Rattle.redo_store.specs.meaning.Records.{records_of}
use Rattle.commit_log.specs.declared.base.Base.{Base}
use Rattle.commit_log.specs.declared.journal.Journal.{Journal}
use Rattle.commit_log.specs.declared.records.Record.{Record}
use Rattle.commit_log.specs.declared.records.Record.TheVariants as kept
use Rattle.commit_log.specs.meaning.Bases.{is_base}
use Rattle.commit_log.specs.meaning.Rules.{SoFar, Empty, Begun, new_journal, may_open, may_come, with_record, is_opening, is_horizon, after}
use Rattle.commit_log.specs.meaning.Journals.{whole_record, after_payload, if_next, judged, journal_in, journal_of, so_far_of}
use Rattle.commit_log.specs.Keeping.{FrontsAreJournals}
use Rattle.commit_log.proofs.Steps.{so_far_by_records}

-- ---- one record

-- it came next, and the others behind it
pub next_of : (o : Option SoFar) (place : ℕ) (on : SoFar → Result SoFar ℕ) (last : SoFar) → if_next o place on ≡ Ok last → (next : SoFar) × (o ≡ Some next) × (on next ≡ Ok last)
next_of None place on last e = absurd (let none : ⊥ = cc in none)
next_of (Some next) place on last e = (next, refl, e)

-- its bytes spell it
pub one_of : (so_far : SoFar) (o : Option Record) (next : SoFar) → option_and_then (after so_far) o ≡ Some next → (one : Record) × (o ≡ Some one) × (after so_far one ≡ Some next)
one_of so_far None next e = absurd (let none : ⊥ = cc in none)
one_of so_far (Some one) next e = (one, refl, e)

-- a journal that was read has begun
pub begun_of : (r : Result SoFar ℕ) (journal : Journal) → journal_in r ≡ Ok journal → (is_opened : Bool) × (has_horizon : Bool) × (r ≡ Ok (Begun journal is_opened has_horizon))
begun_of (Err place) journal e = absurd (let none : ⊥ = cc in none)
begun_of (Ok Empty) journal e = absurd (let none : ⊥ = cc in none)
begun_of (Ok (Begun other is_opened has_horizon)) journal e = (is_opened, has_horizon, ap (λ (j : Journal). Ok (Begun j is_opened has_horizon)) (let same : other ≡ journal = cc in same))

pub comes : (b : Bool) (one next : SoFar) → (if b then Some one else None) ≡ Some next → one ≡ next
comes true one next e = cc
comes false one next e = absurd (let none : ⊥ = cc in none)

pub comes_true : (b : Bool) (one next : SoFar) → (if b then Some one else None) ≡ Some next → b ≡ true
comes_true true one next e = refl
comes_true false one next e = absurd (let none : ⊥ = cc in none)

-- a store that was never opened has the incarnation 0
abbrev IsUnopened : Bool → Journal → Type 0
IsUnopened is_opened journal = is_opened ≡ false → journal.incarnation ≡ 0

-- what a record leaves of the base and of the incarnation
record Later (is_opened : Bool) (journal : Journal) (one : Record) : Type 0 where
  base : (with_record journal one).base ≡ journal.base
  lower : journal.incarnation ≤ (with_record journal one).incarnation
  unopened : IsUnopened (is_opened || is_opening one) (with_record journal one)

left_false : (a b : Bool) → (a || b) ≡ false → a ≡ false
left_false false b e = refl
left_false true b e = e

-- one that is no opening
same_later : (journal : Journal) (is_opened : Bool) (one : Record) → (with_record journal one).base ≡ journal.base → (with_record journal one).incarnation ≡ journal.incarnation → IsUnopened is_opened journal
    → Later is_opened journal one
same_later journal is_opened one base same none = record { base = base; lower = omega (arith, same); unopened = λ e. same ∙ none (left_false is_opened (is_opening one) e) }

-- an opening
both_true : (a b : Bool) → (a && b) ≡ true → b ≡ true
both_true true b e = e
both_true false b e = absurd (let none : ⊥ = cc in none)

opens_later : (journal : Journal) (is_opened : Bool) (incarnation : ℕ) → IsUnopened is_opened journal → may_open journal is_opened incarnation ≡ true → journal.incarnation ≤ incarnation
opens_later journal false incarnation none may = let zero = none refl in omega (arith, zero)
opens_later journal true incarnation none may =
    let lower : nat_lt journal.incarnation incarnation ≡ true = both_true (nat_le incarnation (2 ^ 63)) (nat_lt journal.incarnation incarnation) may in
    grind (arith, nat_tests)

opened_now : (is_opened : Bool) → (is_opened || true) ≡ false → ⊥
opened_now true e = cc
opened_now false e = cc

later_by : (journal : Journal) (is_opened has_horizon : Bool) (one : Record) → IsUnopened is_opened journal → may_come journal is_opened has_horizon one ≡ true → Later is_opened journal one
later_by journal is_opened has_horizon (kept.Base base) none may = absurd (let no : ⊥ = cc in no)
later_by journal is_opened has_horizon (kept.Opened incarnation) none may =
    record { base = refl; lower = opens_later journal is_opened incarnation none may; unopened = λ e. absurd (opened_now is_opened e) }
later_by journal is_opened has_horizon (kept.Commit entry) none may = same_later journal is_opened (kept.Commit entry) refl refl none
later_by journal is_opened has_horizon (kept.Blocked x) none may = same_later journal is_opened (kept.Blocked x) refl refl none
later_by journal is_opened has_horizon (kept.Reserved reservation) none may = same_later journal is_opened (kept.Reserved reservation) refl refl none
later_by journal is_opened has_horizon (kept.Alert line) none may = same_later journal is_opened (kept.Alert line) refl refl none
later_by journal is_opened has_horizon (kept.Horizon horizon) none may = same_later journal is_opened (kept.Horizon horizon) refl refl none

-- the first one is a base
pub base_first : (one : Record) (next : SoFar) → after Empty one ≡ Some next → (base : Base) × (Begun (new_journal base) false false ≡ next)
base_first (kept.Base base) next e = (base, comes (is_base base) (Begun (new_journal base) false false) next e)
base_first one next e = absurd (let none : ⊥ = cc in none)

-- ---- records behind a journal

record Grown (journal : Journal) (payloads : List (List ℕ)) (last : SoFar) : Type 0 where
  later : Journal
  is_opened : Bool
  has_horizon : Bool
  is : last ≡ Begun later is_opened has_horizon
  since : List Record
  spelled : map whole_record payloads ≡ map (λ (one : Record). Some one) since
  grown : fold with_record journal since ≡ later
  base : later.base ≡ journal.base
  lower : journal.incarnation ≤ later.incarnation
  unopened : IsUnopened is_opened later

spelled_more : (payload : List ℕ) (payloads : List (List ℕ)) (one : Record) (since : List Record) → whole_record payload ≡ Some one → map whole_record payloads ≡ map (λ (r : Record). Some r) since
    → map whole_record (payload ∷ payloads) ≡ map (λ (r : Record). Some r) (one ∷ since)
spelled_more payload payloads one since is same = ap (λ (o : Option Record). o ∷ map whole_record payloads) is ∙ ap (λ (l : List (Option Record)). Some one ∷ l) same

same_base : (one two three : Journal) → two.base ≡ one.base → three.base ≡ two.base → three.base ≡ one.base
same_base one two three first second = second ∙ first

no_lower : (one two three : Journal) → one.incarnation ≤ two.incarnation → two.incarnation ≤ three.incarnation → one.incarnation ≤ three.incarnation
no_lower one two three first second = omega (arith, first, second)

grown_by : (journal : Journal) (is_opened has_horizon : Bool) (place : ℕ) (payloads : List (List ℕ)) (last : SoFar) → IsUnopened is_opened journal → judged (Begun journal is_opened has_horizon) place payloads ≡ Ok last
    → Grown journal payloads last
grown_by journal is_opened has_horizon place [] last none e =
    record {
      later = journal;
      is_opened = is_opened;
      has_horizon = has_horizon;
      is = (let same : last ≡ Begun journal is_opened has_horizon = cc in same);
      since = [];
      spelled = refl;
      grown = refl;
      base = refl;
      lower = omega arith;
      unopened = none;
    }
grown_by journal is_opened has_horizon place (payload ∷ payloads) last none e =
    let behind = place + 9 + length payload in
    let here = next_of (after_payload (Begun journal is_opened has_horizon) payload) place (λ next. judged next behind payloads) last e in
    let one = one_of (Begun journal is_opened has_horizon) (whole_record payload) here.0 here.1 in
    let came = comes (may_come journal is_opened has_horizon one.0) (Begun (with_record journal one.0) (is_opened || is_opening one.0) (has_horizon || is_horizon one.0)) here.0 one.2 in
    let step = later_by journal is_opened has_horizon one.0 none (comes_true (may_come journal is_opened has_horizon one.0) (Begun (with_record journal one.0) (is_opened || is_opening one.0) (has_horizon || is_horizon one.0)) here.0 one.2) in
    let more = grown_by (with_record journal one.0) (is_opened || is_opening one.0) (has_horizon || is_horizon one.0) behind payloads last step.unopened (subst (λ (s : SoFar). judged s behind payloads ≡ Ok last) (sym came) here.2) in
    record {
      later = more.later;
      is_opened = more.is_opened;
      has_horizon = more.has_horizon;
      is = more.is;
      since = one.0 ∷ more.since;
      spelled = spelled_more payload payloads one.0 more.since one.1 more.spelled;
      grown = more.grown;
      base = same_base journal (with_record journal one.0) more.later step.base more.base;
      lower = no_lower journal (with_record journal one.0) more.later step.lower more.lower;
      unopened = more.unopened;
    }

-- all records of a store, of which there is one at least
grown_first : (payload : List ℕ) (payloads : List (List ℕ)) (last : SoFar) → judged Empty 8 (payload ∷ payloads) ≡ Ok last → (base : Base) × Grown (new_journal base) payloads last
grown_first payload payloads last e =
    let behind = 8 + 9 + length payload in
    let here = next_of (after_payload Empty payload) 8 (λ next. judged next behind payloads) last e in
    let one = one_of Empty (whole_record payload) here.0 here.1 in
    let begins = base_first one.0 here.0 one.2 in
    (begins.0, grown_by (new_journal begins.0) false false behind payloads last (λ e. refl) (subst (λ (s : SoFar). judged s behind payloads ≡ Ok last) (sym begins.1) here.2))

-- ---- the first records

pub halves : (so_far last : SoFar) (place : ℕ) (first rest : List (List ℕ)) → judged so_far place (first ++ rest) ≡ Ok last → (between : SoFar) × (behind : ℕ) × (judged so_far place first ≡ Ok between) × (judged between behind rest ≡ Ok last)
halves so_far last place [] rest e = (so_far, place, refl, e)
halves so_far last place (payload ∷ first) rest e =
    let behind = place + 9 + length payload in
    let here = next_of (after_payload so_far payload) place (λ next. judged next behind (first ++ rest)) last e in
    let more = halves here.0 last behind first rest here.2 in
    (more.0, more.1, ap (λ (o : Option SoFar). if_next o place (λ next. judged next behind first)) here.1 ∙ more.2, more.3)

-- the journal of a store, by its records
reads_as : (image : List ℕ) (records : List (List ℕ)) (so_far : SoFar) (journal : Journal) (is_opened has_horizon : Bool) → records_of image ≡ Ok records → judged Empty 8 records ≡ Ok so_far → so_far ≡ Begun journal is_opened has_horizon
    → journal_of image ≡ Ok journal
reads_as image records so_far journal is_opened has_horizon are judges begun = ap journal_in (so_far_by_records image records are ∙ judges ∙ ap (λ (s : SoFar). Ok s) begun)

same_begun : (a b : Journal) (o p h i : Bool) → Begun a o h ≡ Begun b p i → a ≡ b
same_begun a b o p h i same = cc

grows_to : (earlier later journal : Journal) (since : List Record) (o p h i : Bool) → fold with_record earlier since ≡ later → Begun journal o h ≡ Begun later p i → fold with_record earlier since ≡ journal
grows_to earlier later journal since o p h i grown same = grown ∙ sym (same_begun journal later o p h i same)

pub fronts_are_journals : FrontsAreJournals
fronts_are_journals image front journal first more rest e records front_records =
    let begun = begun_of (so_far_of image) journal e in
    let all = Begun journal begun.0 begun.1 in
    let judges : judged Empty 8 (first ∷ more ++ rest) ≡ Ok all = sym (so_far_by_records image (first ∷ more ++ rest) records) ∙ begun.2 in
    let parts = halves Empty all 8 (first ∷ more) rest judges in
    let before = (grown_first first more parts.0 parts.2).1 in
    let behind = grown_by before.later before.is_opened before.has_horizon parts.1 rest all before.unopened (subst (λ (s : SoFar). judged s parts.1 rest ≡ Ok all) before.is parts.3) in
    let same : journal ≡ behind.later = same_begun journal behind.later begun.0 behind.is_opened begun.1 behind.has_horizon behind.is in
    record {
      earlier = before.later;
      read = reads_as front (first ∷ more) parts.0 before.later before.is_opened before.has_horizon front_records parts.2 before.is;
      since = behind.since;
      spelled = behind.spelled;
      grown = grows_to before.later behind.later journal behind.since begun.0 behind.is_opened begun.1 behind.has_horizon behind.grown behind.is;
      base = subst (λ (j : Journal). before.later.base ≡ j.base) {x = behind.later} (sym same) (sym behind.base);
      lower = subst (λ (j : Journal). before.later.incarnation ≤ j.incarnation) {x = behind.later} (sym same) behind.lower;
    }
