-- The lines of `Stored` by what code keeps of a journal.
use Rattle.std.proofs.Common.{◌≡◌, ℕ, List, [], ◌∷◌, ◌++◌, Bool, true, false, ◌&&◌, refl, ap, ◌∙◌}
use Rattle.std.proofs.Math.Path.{fun_ext}
use Rattle.std.specs.Prelude.{Option, Some, None, is_none, is_some}
use Rattle.std.proofs.lemmas.Bool.{eqb-true}
use Rattle.std.specs.List.{list_all}
use Rattle.svc_values.specs.declared.entry.Ltxid.{Ltxid}
use Rattle.svc_values.specs.declared.entry.SessionId.{SessionId}
use Rattle.svc_values.specs.meaning.Identifiers.{session_of}
use Rattle.ltxid_book.specs.meaning.Journal.{is_blocked}
use Rattle.outage_schedule.specs.declared.item.Item.{Item}
use Rattle.outage_schedule.specs.declared.item.Item.TheVariants as item
use Rattle.outage_schedule.specs.declared.document.Document.{Document}
use Rattle.outage_schedule.specs.declared.report.Report.{Report}
use Rattle.run_clauses.specs.meaning.Before.{journal_before}
use Rattle.run_clauses.specs.meaning.Moments.{Happened, HappenedAt, ServedItem, RanOutside, Asked, moments}
use Rattle.run_clauses.specs.meaning.Horizons.{Wanted, raised, last_horizon}
use Rattle.run_clauses.specs.meaning.Outcomes.{completed_of}
use Rattle.run_clauses.specs.meaning.Images.{image_fits}
use Rattle.run_clauses.specs.meaning.Stored.{Kept, kept_by, outcomes_stored, answers_right, forgotten_fits, blocked_or_entry, blocks_fit, is_item_right as item_right_def, is_right_at as right_at_def, stored}
use Rattle.stored_check.specs.Keys.{mark_of}
use Rattle.stored_check.specs.Facts.{Marks, Timing, marks_in, marks_of, timing_of, is_item_right, is_right_at, is_right, has_no_entry}
use Rattle.stored_check.specs.declared.known.Known.{Known}
use Rattle.stored_check.specs.Judging.{is_told_right, are_blocks, is_stored_right}

-- ---- what is kept

pub marks_same : (known : Known) (k : Kept) → ((x : Ltxid) → mark_of known.completed x ≡ completed_of k.entries x) → ((x : Ltxid) → is_blocked known.blocked x ≡ is_blocked k.blocked x) → marks_in known ≡ marks_of k
marks_same known k completed blocked =
    let one : (λ x. mark_of known.completed x) ≡ (λ x. completed_of k.entries x) = fun_ext completed in
    let two : (λ x. is_blocked known.blocked x) ≡ (λ x. is_blocked k.blocked x) = fun_ext blocked in
    (λ i. record { completed = one i; blocked = two i })

-- how far sessions and the horizon have come, by these numbers
abbrev pub timing_by : (SessionId → ℕ → ℕ) → ℕ → List Wanted → Timing
timing_by numbers horizon openings = record { next = λ event x. numbers (session_of x) event; horizon = λ event. raised horizon openings event }

pub timing_same : (numbers numbers' : SessionId → ℕ → ℕ) (horizon horizon' : ℕ) (openings openings' : List Wanted)
    → ((session : SessionId) (event : ℕ) → numbers session event ≡ numbers' session event) → horizon ≡ horizon' → openings ≡ openings' → timing_by numbers horizon openings ≡ timing_by numbers' horizon' openings'
timing_same numbers numbers' horizon horizon' openings openings' one two three = (λ i. timing_by (λ session event. one session event i) (two i) (three i))

-- ---- answers

item_is : (k : Kept) (event : ℕ) (one : Item) → is_item_right (marks_of k) (timing_of k) event one ≡ item_right_def k event one
item_is k event (item.Outcome x answer) = refl
item_is k event _ = refl

right_is : (k : Kept) (event : ℕ) (happened : Happened) → is_right_at (marks_of k) (timing_of k) event happened ≡ right_at_def k event happened
right_is k event (Asked x answer) = refl
right_is k event (ServedItem session one) = item_is k event one
right_is k event (RanOutside ran) = refl

pub answers_are : (k : Kept) (all : List HappenedAt) → list_all (is_right (marks_of k) (timing_of k)) all ≡ list_all (λ moment. right_at_def k moment.event moment.happened) all
answers_are k [] = refl
answers_are k (moment ∷ all) = ap (λ b. b && list_all (is_right (marks_of k) (timing_of k)) all) (right_is k moment.event moment.happened) ∙ ap (λ b. right_at_def k moment.event moment.happened && b) (answers_are k all)

-- ---- all lines

three_apart : (a b c d : Bool) → ((a && (b && c)) && d) ≡ (a && (b && (c && d)))
three_apart true true c d = refl
three_apart true false c d = refl
three_apart false b c d = refl

-- what was told, and the blocks
pub lines_are : (document : Document) (report : Report) (marks : Marks) (timing : Timing) (all : List HappenedAt) → marks ≡ marks_of (kept_by document report) → timing ≡ timing_of (kept_by document report) → all ≡ moments report
    → (is_told_right marks timing report all
    && (list_all (has_no_entry marks) ((journal_before document).blocked ++ report.blocked) && are_blocks (journal_before document).blocked report.blocked all))
    ≡ is_stored_right document report
lines_are document report marks timing all one two three =
    let k = kept_by document report in
    let blocks = (journal_before document).blocked in
    ap (λ (m : Marks). is_told_right m timing report all && (list_all (has_no_entry m) (blocks ++ report.blocked) && are_blocks blocks report.blocked all)) one
    ∙ ap (λ (t : Timing). is_told_right (marks_of k) t report all && (list_all (has_no_entry (marks_of k)) (blocks ++ report.blocked) && are_blocks blocks report.blocked all)) two
    ∙ ap (λ (l : List HappenedAt). is_told_right (marks_of k) (timing_of k) report l && (list_all (has_no_entry (marks_of k)) (blocks ++ report.blocked) && are_blocks blocks report.blocked l)) three
    ∙ three_apart (outcomes_stored k report) (list_all (is_right (marks_of k) (timing_of k)) (moments report)) (forgotten_fits document report) (blocked_or_entry k && blocks_fit document report)
    ∙ ap (λ b. outcomes_stored k report && (b && (forgotten_fits document report && (blocked_or_entry k && blocks_fit document report)))) (answers_are k (moments report))

-- and the image
six_apart : (a b c d e f : Bool) → ((a && (b && (c && (d && e)))) && f) ≡ (a && (b && (c && (d && (e && f)))))
six_apart true true true true e f = refl
six_apart true true true false e f = refl
six_apart true true false d e f = refl
six_apart true false c d e f = refl
six_apart false b c d e f = refl

pub all_lines : (document : Document) (report : Report) → (is_stored_right document report && image_fits document report) ≡ stored document report
all_lines document report =
    let k = kept_by document report in
    six_apart (outcomes_stored k report) (answers_right k report) (forgotten_fits document report) (blocked_or_entry k) (blocks_fit document report) (image_fits document report)

-- ---- from one line to the next

pub none_of : {A : Type 0} (o : Option A) → is_some o ≡ false → is_none o ≡ true
none_of None some = refl
none_of (Some a) some = let clash : ◌≡◌ {A = Bool} true false = some in cc

pub some_of : {A : Type 0} (o : Option A) → is_some o ≡ true → is_none o ≡ false
some_of None some = let clash : ◌≡◌ {A = Bool} false true = some in cc
some_of (Some a) some = refl

and_second : (a b : Bool) → (a && b) ≡ true → b ≡ true
and_second true b is = is
and_second false b is = let clash : ◌≡◌ {A = Bool} false true = is in cc

and_first : (a b : Bool) → (a && b) ≡ true → a ≡ true
and_first true b is = refl
and_first false b is = is

-- where all lines but that of the image hold, the horizon is told
pub horizon_is : (document : Document) (report : Report) → is_stored_right document report ≡ true → report.forgotten ≡ last_horizon document report
horizon_is document report holds =
    let k = kept_by document report in
    let behind = and_second (outcomes_stored k report) _ holds in
    let third = and_second (answers_right k report) _ behind in
    eqb-true report.forgotten (last_horizon document report) (and_first (forgotten_fits document report) _ third)
