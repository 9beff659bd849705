-- What served items that were read keep to.
use Rattle.std.proofs.Common.{◌≡◌, ℕ, ◌+◌, ◌==◌, nat_lt, List, [], ◌∷◌, ◌++◌, Bool, true, false, cond, decimal, Option, Some, None, Result, Ok, Err, refl, sym, subst, ap, ◌∙◌}
use Rattle.std.specs.List.{list_all, last_or}
use Rattle.std.specs.Option.{option_map_or}
use Rattle.serde_json.specs.Data.{Data, Items}
use Rattle.serde_json.specs.Events.{items_len}
use Rattle.json_form.specs.declared.fault.DocCode.TheVariants.{Rule}
use Rattle.json_form.specs.meaning.Faults.{Fault, ◌>>=◌, here, within_item}
use Rattle.json_form.specs.meaning.Values.{expected, items_of, bool_of, whole_of}
use Rattle.json_form.specs.meaning.Texts.{head_of, word_of}
use Rattle.json_form.specs.meaning.Arrays.{Placed, placed, each_after, fixed, part}
use Rattle.svc_values.specs.declared.call.Call.{Call}
use Rattle.outage_schedule.specs.declared.item.Item.{Item}
use Rattle.outage_schedule.specs.declared.item.Item.TheVariants as item
use Rattle.outage_schedule.specs.declared.item.Served.{Served}
use Rattle.outage_schedule.specs.declared.note.Note.{Note}
use Rattle.json_form.proofs.Offered.{after, ok_is, given, within_ok, passed, part_read, each_keeps, all_push, first_true, second_true, both_true}
use Rattle.note_forms.specs.declared.item.ServedAt.{ServedAt}
use Rattle.told_reports.specs.declared.place.ServedWord.{ServedWord}
use Rattle.told_reports.specs.declared.place.ServedWord.TheVariants as word
use Rattle.svc_values.specs.declared.entry.Ltxid.{Ltxid}
use Rattle.note_forms.specs.declared.told.ToldWord.{ToldWord}
use Rattle.answer_forms.specs.meaning.Parts.{if_count, number_in, identifier_in, session_in, settings_in, call_in}
use Rattle.answer_forms.specs.meaning.Answers.{answers_in}
use Rattle.answer_forms.specs.meaning.Draws.{draws_in}
use Rattle.note_forms.specs.meaning.Told.{told_words, behind_of, told_by}
use Rattle.note_forms.specs.meaning.Notes.{count_in}
use Rattle.told_reports.specs.meaning.Places.{fits_event}
use Rattle.note_forms.specs.meaning.Items.{item_words, last_event, event_in, place_in, served_at, bare_in, begin_in, answered_in, blocked_in, told_in, refused_in, stopped_outcome_in, stopped_call_in, crashed_in, served_by, one_served, served_in}
use Rattle.told_reports.specs.Keeping.{word_of_item, events_fit, is_item}
use Rattle.answer_forms.proofs.Offered.{settings_read, call_at}

-- the item may stand at its event behind the last one, keeps to what items do, and is read alike
-- behind each other event that it is behind
record Stands (notes : List Note) (read : ℕ → Result Served Fault) (last : ℕ) (one : Served) : Type 0 where
  fits : fits_event notes (word_of_item one.item) last one.event ≡ true
  keeps : is_item one.item ≡ true
  moves : (later : ℕ) → nat_lt later one.event ≡ true → read later ≡ Ok one

-- what comes behind a reading that gave a value
follows : {A B : Type 0} (r : Result A Fault) (x : A) (next : A → Result B Fault) → r ≡ Ok x → (r >>= next) ≡ next x
follows r x next h = ap (λ (q : Result _ Fault). q >>= next) h

abbrev with_event : ℕ → Placed → Result ServedAt Fault
with_event event ds = part 2 session_in ds >>= λ session. Ok (record { event = event; session = session })

place_read : (notes : List Note) (w : ServedWord) (last : ℕ) (ds : Placed) (place : ServedAt)
    → place_in notes w last ds ≡ Ok place → fits_event notes w last place.event ≡ true
unfolding place_in
place_read notes w last ds place h =
    let a = after (part 1 (event_in notes w last) ds) (λ event. with_event event ds) place h in
    let b = after (part 2 session_in ds) (λ session. Ok (record { event = a.0; session = session })) place a.2 in
    let c = part_read 1 (event_in notes w last) ds a.0 a.1 in
    let e = after (number_in c.0) (λ event. cond (fits_event notes w last event) (Ok event) (Err (here Rule))) a.0 c.1 in
    let p = passed (fits_event notes w last e.0) (Ok e.0) (here Rule) a.0 e.2 in
    let event = ok_is e.0 a.0 p.1 in
    let placed = ok_is (record { event = a.0; session = b.0 }) place b.2 in
    ap (fits_event notes w last) (sym (event ∙ ap (λ (s : ServedAt). s.event) placed)) ∙ p.0

event_moves : (notes : List Note) (w : ServedWord) (last later : ℕ) (d : Data) (event : ℕ) → nat_lt later event ≡ true
    → event_in notes w last d ≡ Ok event → event_in notes w later d ≡ Ok event
event_moves notes w last later d event behind h =
    let a = after (number_in d) (λ e. cond (fits_event notes w last e) (Ok e) (Err (here Rule))) event h in
    let p = passed (fits_event notes w last a.0) (Ok a.0) (here Rule) event a.2 in
    let same = ok_is a.0 event p.1 in
    let fits = both_true (nat_lt later a.0) _ (ap (nat_lt later) same ∙ behind) (second_true (nat_lt last a.0) _ p.0) in
    follows (number_in d) a.0 (λ e. cond (fits_event notes w later e) (Ok e) (Err (here Rule))) a.1 ∙ ap (λ b. cond b (given a.0) (Err (here Rule))) fits ∙ p.1

part_moves : {A : Type 0} (i : ℕ) (read other : Data → Result A Fault) (ds : Placed) (x : A) → ((d : Data) → read d ≡ Ok x → other d ≡ Ok x)
    → part i read ds ≡ Ok x → part i other ds ≡ Ok x
unfolding part
part_moves i read other ds x same h =
    let a = after (expected (ds i)) (λ d. within_item i (read d)) x h in
    follows (expected (ds i)) a.0 (λ d. within_item i (other d)) a.1 ∙ ap (within_item i) (same a.0 (within_ok (decimal i) (read a.0) x a.2))

place_moves : (notes : List Note) (w : ServedWord) (last later : ℕ) (ds : Placed) (place : ServedAt) → nat_lt later place.event ≡ true
    → place_in notes w last ds ≡ Ok place → place_in notes w later ds ≡ Ok place
unfolding place_in
place_moves notes w last later ds place behind h =
    let a = after (part 1 (event_in notes w last) ds) (λ event. with_event event ds) place h in
    let b = after (part 2 session_in ds) (λ session. Ok (record { event = a.0; session = session })) place a.2 in
    let event = ap (λ (s : ServedAt). s.event) (ok_is (record { event = a.0; session = b.0 }) place b.2) in
    let moved = part_moves 1 (event_in notes w last) (event_in notes w later) ds a.0 (λ d. event_moves notes w last later d a.0 (ap (nat_lt later) event ∙ behind)) a.1 in
    follows (part 1 (event_in notes w later) ds) a.0 (λ event. with_event event ds) moved ∙ a.2

-- what was read, at a place that was read
stands : (notes : List Note) (read : ℕ → Result Served Fault) (last : ℕ) (place : ServedAt) (made : Item) (one : Served)
    → fits_event notes (word_of_item made) last place.event ≡ true → is_item made ≡ true
    → ((later : ℕ) → nat_lt later place.event ≡ true → read later ≡ Ok one)
    → given (served_at place made) ≡ given one → Stands notes read last one
stands notes read last place made one fits keeps moves h =
    let same = ok_is (served_at place made) one h in record {
      fits = subst (λ (s : Served). fits_event notes (word_of_item s.item) last s.event ≡ true) same fits;
      keeps = subst (λ (s : Served). is_item s.item ≡ true) same keeps;
      moves = λ later behind. moves later (ap (λ (s : Served). nat_lt later s.event) same ∙ behind);
    }

-- the place was read, and then the rest; so it is behind each other event
record Located {A : Type 0} (notes : List Note) (w : ServedWord) (last : ℕ) (first : Result A Fault) (at : A → Placed) (rest : A → ServedAt → Result Served Fault) (one : Served) : Type 0 where
  ds : A
  place : ServedAt
  fits : fits_event notes w last place.event ≡ true
  gave : rest ds place ≡ Ok one
  moves : (later : ℕ) → nat_lt later place.event ≡ true → (first >>= λ ds. place_in notes w later (at ds) >>= rest ds) ≡ Ok one

located_in : {A : Type 0} (notes : List Note) (w : ServedWord) (last : ℕ) (first : Result A Fault) (at : A → Placed) (rest : A → ServedAt → Result Served Fault) (one : Served)
    → (first >>= λ ds. place_in notes w last (at ds) >>= rest ds) ≡ Ok one → Located notes w last first at rest one
located_in notes w last first at rest one h =
    let a = after first (λ ds. place_in notes w last (at ds) >>= rest ds) one h in
    let b = after (place_in notes w last (at a.0)) (rest a.0) one a.2 in
    record {
      ds = a.0;
      place = b.0;
      fits = place_read notes w last (at a.0) b.0 b.1;
      gave = b.2;
      moves = λ later behind.
          follows first a.0 (λ ds. place_in notes w later (at ds) >>= rest ds) a.1
          ∙ follows (place_in notes w later (at a.0)) b.0 (rest a.0) (place_moves notes w last later (at a.0) b.0 behind b.1) ∙ b.2;
    }

located : (count : ℕ) (notes : List Note) (w : ServedWord) (last : ℕ) (rest : Placed → ServedAt → Result Served Fault) (d : Data) (one : Served)
    → (fixed count d >>= λ ds. place_in notes w last ds >>= rest ds) ≡ Ok one → Located notes w last (fixed count d) (λ ds. ds) rest one
located count notes w last rest d one h = located_in notes w last (fixed count d) (λ ds. ds) rest one h

-- ---- each form

bare_read : (notes : List Note) (last : ℕ) (w : ServedWord) (made : Item) (d : Data) (one : Served) → word_of_item made ≡ w → is_item made ≡ true
    → bare_in notes last w made d ≡ Ok one → Stands notes (λ l. bare_in notes l w made d) last one
unfolding bare_in
bare_read notes last w made d one of keeps h =
    let b = located 3 notes w last (λ ds place. Ok (served_at place made)) d one h in
    stands notes (λ l. bare_in notes l w made d) last b.place made one (ap (λ v. fits_event notes v last b.place.event) of ∙ b.fits) keeps b.moves b.gave

begin_read : (notes : List Note) (last : ℕ) (d : Data) (one : Served) → begin_in notes last d ≡ Ok one → Stands notes (λ l. begin_in notes l d) last one
unfolding begin_in
begin_read notes last d one h =
    let b = located 4 notes word.Begin last (λ ds place. part 3 settings_in ds >>= λ settings. Ok (served_at place (item.Begin settings))) d one h in
    let s = after (part 3 settings_in b.ds) (λ settings. Ok (served_at b.place (item.Begin settings))) one b.gave in
    let inner = part_read 3 settings_in b.ds s.0 s.1 in
    stands notes (λ l. begin_in notes l d) last b.place (item.Begin s.0) one b.fits (settings_read inner.0 s.0 inner.1) b.moves s.2

abbrev answered_rest : Placed → ServedAt → Bool → Call → Result Served Fault
answered_rest ds place replay call =
    part 5 answers_in ds >>= λ answers. part 6 draws_in ds >>= λ draws. Ok (served_at place (item.Call replay call answers draws))

answered_read : (notes : List Note) (last : ℕ) (d : Data) (one : Served) → answered_in notes last d ≡ Ok one → Stands notes (λ l. answered_in notes l d) last one
unfolding answered_in
answered_read notes last d one h =
    let b = located 7 notes word.Call last (λ ds place. part 3 bool_of ds >>= λ replay. part 4 call_in ds >>= answered_rest ds place replay) d one h in
    let r = after (part 3 bool_of b.ds) (λ replay. part 4 call_in b.ds >>= answered_rest b.ds b.place replay) one b.gave in
    let c = after (part 4 call_in b.ds) (answered_rest b.ds b.place r.0) one r.2 in
    let a = after (part 5 answers_in b.ds) (λ answers. part 6 draws_in b.ds >>= λ draws. Ok (served_at b.place (item.Call r.0 c.0 answers draws))) one c.2 in
    let e = after (part 6 draws_in b.ds) (λ draws. Ok (served_at b.place (item.Call r.0 c.0 a.0 draws))) one a.2 in
    stands notes (λ l. answered_in notes l d) last b.place (item.Call r.0 c.0 a.0 e.0) one b.fits (call_at 4 b.ds c.0 c.1) b.moves e.2

blocked_read : (notes : List Note) (last : ℕ) (d : Data) (one : Served) → blocked_in notes last d ≡ Ok one → Stands notes (λ l. blocked_in notes l d) last one
unfolding blocked_in
blocked_read notes last d one h =
    let b = located 4 notes word.Blocked last (λ ds place. part 3 call_in ds >>= λ call. Ok (served_at place (item.Blocked call))) d one h in
    let c = after (part 3 call_in b.ds) (λ call. Ok (served_at b.place (item.Blocked call))) one b.gave in
    stands notes (λ l. blocked_in notes l d) last b.place (item.Blocked c.0) one b.fits (call_at 3 b.ds c.0 c.1) b.moves c.2

abbrev told_end : Placed → ServedAt → Ltxid → ToldWord → Result Served Fault
told_end ds place x w = told_by w 5 ds >>= λ result. Ok (served_at place (item.Outcome x result))

abbrev told_rest : Items → ServedAt → Ltxid → Result Served Fault
told_rest is place x =
    part 4 (word_of told_words) (placed is) >>= λ w. if_count (5 + behind_of w) (items_len is) >>= λ _. told_end (placed is) place x w

told_read : (notes : List Note) (last : ℕ) (d : Data) (one : Served) → told_in notes last d ≡ Ok one → Stands notes (λ l. told_in notes l d) last one
unfolding told_in
told_read notes last d one h =
    let b = located_in notes word.Outcome last (items_of d) placed (λ is place. part 3 identifier_in (placed is) >>= told_rest is place) one h in
    let is = b.ds in
    let x = after (part 3 identifier_in (placed is)) (told_rest is b.place) one b.gave in
    let w = after (part 4 (word_of told_words) (placed is)) (λ w. if_count (5 + behind_of w) (items_len is) >>= λ _. told_end (placed is) b.place x.0 w) one x.2 in
    let n = after (if_count (5 + behind_of w.0) (items_len is)) (λ _. told_end (placed is) b.place x.0 w.0) one w.2 in
    let t = after (told_by w.0 5 (placed is)) (λ result. Ok (served_at b.place (item.Outcome x.0 result))) one n.2 in
    stands notes (λ l. told_in notes l d) last b.place (item.Outcome x.0 t.0) one b.fits refl b.moves t.2

refused_read : (notes : List Note) (last : ℕ) (d : Data) (one : Served) → refused_in notes last d ≡ Ok one → Stands notes (λ l. refused_in notes l d) last one
unfolding refused_in
refused_read notes last d one h =
    let b = located 4 notes word.Refused last (λ ds place. part 3 (whole_of 1 2) ds >>= λ cause. Ok (served_at place (item.Refused cause))) d one h in
    let c = after (part 3 (whole_of 1 2) b.ds) (λ cause. Ok (served_at b.place (item.Refused cause))) one b.gave in
    stands notes (λ l. refused_in notes l d) last b.place (item.Refused c.0) one b.fits refl b.moves c.2

stopped_outcome_read : (notes : List Note) (last : ℕ) (d : Data) (one : Served) → stopped_outcome_in notes last d ≡ Ok one → Stands notes (λ l. stopped_outcome_in notes l d) last one
unfolding stopped_outcome_in
stopped_outcome_read notes last d one h =
    let b = located 4 notes word.Crashed last (λ ds place. part 3 identifier_in ds >>= λ x. Ok (served_at place (item.CrashedOutcome x))) d one h in
    let x = after (part 3 identifier_in b.ds) (λ x. Ok (served_at b.place (item.CrashedOutcome x))) one b.gave in
    stands notes (λ l. stopped_outcome_in notes l d) last b.place (item.CrashedOutcome x.0) one b.fits refl b.moves x.2

stopped_call_read : (notes : List Note) (last : ℕ) (d : Data) (one : Served) → stopped_call_in notes last d ≡ Ok one → Stands notes (λ l. stopped_call_in notes l d) last one
unfolding stopped_call_in
stopped_call_read notes last d one h =
    let b = located 5 notes word.Crashed last (λ ds place. part 3 bool_of ds >>= λ replay. part 4 call_in ds >>= λ call. Ok (served_at place (item.CrashedCall replay call))) d one h in
    let r = after (part 3 bool_of b.ds) (λ replay. part 4 call_in b.ds >>= λ call. Ok (served_at b.place (item.CrashedCall replay call))) one b.gave in
    let c = after (part 4 call_in b.ds) (λ call. Ok (served_at b.place (item.CrashedCall r.0 call))) one r.2 in
    stands notes (λ l. stopped_call_in notes l d) last b.place (item.CrashedCall r.0 c.0) one b.fits (call_at 4 b.ds c.0 c.1) b.moves c.2

crashed_read : (notes : List Note) (last : ℕ) (d : Data) (one : Served) → crashed_in notes last d ≡ Ok one → Stands notes (λ l. crashed_in notes l d) last one
crashed_read notes last d one h =
    let a = after (count_in d) (λ n. cond (n == 4) (stopped_outcome_in notes last d) (stopped_call_in notes last d)) one h in
    let s = by (a.0 == 4) a.2 in record {
      fits = s.fits;
      keeps = s.keeps;
      moves = λ later behind. follows (count_in d) a.0 (λ n. cond (n == 4) (stopped_outcome_in notes later d) (stopped_call_in notes later d)) a.1 ∙ s.moves later behind;
    }
  where
    by : (b : Bool) → cond b (stopped_outcome_in notes last d) (stopped_call_in notes last d) ≡ Ok one
        → Stands notes (λ l. cond b (stopped_outcome_in notes l d) (stopped_call_in notes l d)) last one
    by true is = stopped_outcome_read notes last d one is
    by false is = stopped_call_read notes last d one is

-- ---- all of them

by_word : (notes : List Note) (last : ℕ) (w : ServedWord) (d : Data) (one : Served) → served_by notes last w d ≡ Ok one → Stands notes (λ l. served_by notes l w d) last one
by_word notes last word.Connect d one h = bare_read notes last word.Connect item.Connect d one refl refl h
by_word notes last word.Begin d one h = begin_read notes last d one h
by_word notes last word.Call d one h = answered_read notes last d one h
by_word notes last word.Blocked d one h = blocked_read notes last d one h
by_word notes last word.Outcome d one h = told_read notes last d one h
by_word notes last word.End d one h = bare_read notes last word.End item.End d one refl refl h
by_word notes last word.Close d one h = bare_read notes last word.Close item.Close d one refl refl h
by_word notes last word.Refused d one h = refused_read notes last d one h
by_word notes last word.Crashed d one h = crashed_read notes last d one h

one_read : (notes : List Note) (last : ℕ) (d : Data) (one : Served) → one_served notes last d ≡ Ok one → Stands notes (λ l. one_served notes l d) last one
unfolding one_served
one_read notes last d one h =
    let a = after (head_of item_words d) (λ w. served_by notes last w d) one h in
    let s = by_word notes last a.0 d one a.2 in record {
      fits = s.fits;
      keeps = s.keeps;
      moves = λ later behind. follows (head_of item_words d) a.0 (λ w. served_by notes later w d) a.1 ∙ s.moves later behind;
    }

-- an item that was read behind another event is read alike behind each one that its event is behind
pub read_behind : (notes : List Note) (last later : ℕ) (d : Data) (one : Served) → nat_lt later one.event ≡ true → one_served notes last d ≡ Ok one → one_served notes later d ≡ Ok one
read_behind notes last later d one behind h = (one_read notes last d one h).moves later behind

-- the event of the last of these items, or that of the item before them
abbrev event_after : Option Served → ℕ
event_after o = option_map_or (λ one. one.event) o 0

events_push : (notes : List Note) (o : Option Served) (before : List Served) (one : Served) → events_fit notes (event_after o) before ≡ true
    → fits_event notes (word_of_item one.item) (event_after (last_or o before)) one.event ≡ true → events_fit notes (event_after o) (before ++ one ∷ []) ≡ true
events_push notes o [] one fit last = both_true _ true last refl
events_push notes o (first ∷ before) one fit last =
    both_true _ _ (first_true _ _ fit) (events_push notes (Some first) before one (second_true _ _ fit) last)

-- the items so far stand where they may, and keep to what items do
pub record Good (notes : List Note) (items : List Served) : Type 0 where
  pub events : events_fit notes 0 items ≡ true
  pub kept : list_all (λ one. is_item one.item) items ≡ true

good_push : (notes : List Note) (before : List Served) (d : Data) (one : Served) → Good notes before → one_served notes (last_event before) d ≡ Ok one → Good notes (before ++ one ∷ [])
good_push notes before d one good h =
    let s = one_read notes (last_event before) d one h in record {
      events = events_push notes None before one good.events s.fits;
      kept = all_push (λ one. is_item one.item) before one good.kept s.keeps;
    }

pub served_read : (notes : List Note) (d : Data) (items : List Served) → served_in notes d ≡ Ok items → Good notes items
served_read notes d items h =
    let a = after (items_of d) (each_after (λ before. one_served notes (last_event before)) []) items h in
    each_keeps (Good notes) (λ before. one_served notes (last_event before)) (good_push notes) [] a.0 items (record { events = refl; kept = refl }) a.2
