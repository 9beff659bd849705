-- A note whose parts were read one after the other.
use Rattle.std.proofs.Common.{◌≡◌, ℕ, ◌+◌, List, Bool, true, false, not, Option, Some, None, Result, Ok, Err, codes, refl, sym, ap, ◌∙◌}
use Rattle.std.specs.Prelude.{⊤, IfSome}
use Rattle.json.specs.Token.{Token}
use Rattle.json.specs.Json.{parse_map, after_end_array}
use Rattle.serde_json.specs.Data.{Data, array, Items, no_items, item}
use Rattle.serde_json.specs.Events.{items_len}
use Rattle.json_form.specs.meaning.Faults.{Fault, ◌>>=◌, within_item}
use Rattle.json_form.specs.meaning.Values.{bool_of, whole_of}
use Rattle.json_form.specs.meaning.Arrays.{placed, part}
use Rattle.json_form.specs.meaning.Texts.{word_of}
use Rattle.json_form.specs.Streams.{value_ahead, items_ahead, Begins, IsLastItem}
use Rattle.json_form.proofs.Offered.{bracket_ahead, begins_with, read_ahead}
use Rattle.call_forms.proofs.Offered.{head_is}
use Rattle.svc_values.specs.declared.entry.Ltxid.{Ltxid}
use Rattle.outage_schedule.specs.declared.note.AskResult.{AskResult}
use Rattle.outage_schedule.specs.declared.note.FrameName.{FrameName}
use Rattle.outage_schedule.specs.declared.note.GoNote.{GoNote}
use Rattle.outage_schedule.specs.declared.note.GoNote.TheVariants as did
use Rattle.outage_schedule.specs.declared.note.Note.{Note}
use Rattle.outage_schedule.specs.declared.note.Note.TheVariants as note
use Rattle.outage_schedule.specs.declared.note.NoteRun.{NoteRun}
use Rattle.note_forms.specs.declared.go.GoWord.{GoWord}
use Rattle.note_forms.specs.declared.go.GoWord.TheVariants as go
use Rattle.note_forms.specs.declared.note.NoteWord.{NoteWord}
use Rattle.note_forms.specs.declared.told.ToldWord.{ToldWord}
use Rattle.note_forms.specs.declared.told.ToldWord.TheVariants as told
use Rattle.outage_schedule.specs.declared.note.AskResult.TheVariants as result
use Rattle.answer_forms.specs.meaning.Parts.{if_count, number_in, identifier_in}
use Rattle.note_forms.specs.meaning.Notes.{go_words, go_count, go_by, go_in, serve_words, serve_in, just, cut_in, reap_in, crash_in, incarnation_in, up_in, upcrash_in, runs_in, ran_in, outside_in, ask_in, drain_in, note_words, note_by, note_in}
use Rattle.note_forms.specs.meaning.Told.{behind_of, told_by, asked_words, asked_behind, asked_by}
use Rattle.note_forms.specs.NotesAhead.{AreLeft, Ends, EndsBehind, did_in, result_in, told_in, AreSent}

-- ---- the items that are left, one after the other

-- the last item alone
pub last_one : {A : Type 0} (Such : Items → Type 0) (reads : Data → Result A Fault) (depth : ℕ) (ts rest : List Token) (x : A) → ((d : Data) → reads d ≡ Ok x → Such (item d no_items)) → IsLastItem reads depth ts x rest → AreLeft Such depth ts rest
last_one Such reads depth ts rest x such l = (item l.0 no_items, l.1, such l.0 l.2)

-- ---- each kind of note

sure : {A B : Type 0} (c : Result ⊤ Fault) (x : Result A Fault) (y : A) (next : A → Result B Fault) → (c >>= λ _. x) ≡ Ok y → (c >>= λ _. x >>= next) ≡ next y
sure (Ok t) x y next h = ap (λ (r : Result _ Fault). r >>= next) h
sure (Err f) x y next h = absurd (cc)

go_read : (w d e : Data) (ds : Items) (k : ℕ) (g : GoWord) (one : GoNote) → number_in d ≡ Ok k → word_of go_words e ≡ Ok g → did_in g (item w (item d (item e ds))) ≡ Ok one → go_in (array (item w (item d (item e ds)))) ≡ Ok (note.Go k one)
unfolding go_in part
go_read w d e ds k g one h i j =
    let all = item w (item d (item e ds)) in
    ap (λ (r : Result ℕ Fault). within_item 1 r >>= λ client. within_item 2 (word_of go_words e) >>= λ v. if_count (go_count v) (items_len all) >>= λ _. go_by v (placed all) >>= λ step. Ok (note.Go client step)) h
    ∙ ap (λ (r : Result GoWord Fault). within_item 2 r >>= λ v. if_count (go_count v) (items_len all) >>= λ _. go_by v (placed all) >>= λ step. Ok (note.Go k step)) i
    ∙ sure (if_count (go_count g) (items_len all)) (go_by g (placed all)) one (λ step. Ok (note.Go k step)) j

pub go_ends : (depth : ℕ) (ts r s rest : List Token) (k : ℕ) (g : GoWord) (one : GoNote) → Begins number_in depth ts k r → Begins (word_of go_words) depth r g s → EndsBehind (did_in g) depth s one rest → Ends go_in depth ts (note.Go k one) rest
go_ends depth ts r s rest k g one begins goes_on left =
    let e = read_ahead (word_of go_words) depth r s rest g left.0 goes_on left.1 in
    let d = read_ahead number_in depth ts r rest k (item e.0 left.0) begins e.1 in
    (item d.0 (item e.0 left.0), d.1, λ w. go_read w d.0 e.0 left.0 k g one d.2 e.2 (left.2 w d.0 e.0))

serve_read : (w d e : Data) (k : ℕ) (f : Option FrameName) → number_in d ≡ Ok k → word_of serve_words e ≡ Ok f → serve_in (array (item w (item d (item e no_items)))) ≡ Ok (note.Serve k f)
unfolding serve_in part
serve_read w d e k f h i =
    ap (λ (r : Result ℕ Fault). within_item 1 r >>= λ c. within_item 2 (word_of serve_words e) >>= λ v. Ok (note.Serve c v)) h
    ∙ ap (λ (r : Result (Option FrameName) Fault). within_item 2 r >>= λ v. Ok (note.Serve k v)) i

pub serve_ends : (depth : ℕ) (ts r rest : List Token) (k : ℕ) (f : Option FrameName) → Begins number_in depth ts k r → IsLastItem (word_of serve_words) depth r f rest → Ends serve_in depth ts (note.Serve k f) rest
serve_ends depth ts r rest k f begins l =
    let e = read_ahead number_in depth ts r rest k (item l.0 no_items) begins l.1 in (item e.0 (item l.0 no_items), e.1, λ w. serve_read w e.0 l.0 k f e.2 l.2)

cut_none : (w d e : Data) (k : ℕ) (b : Bool) → number_in d ≡ Ok k → word_of (just (codes "none")) e ≡ Ok b → cut_in (array (item w (item d (item e no_items)))) ≡ Ok (note.Cut k None)
unfolding cut_in part
cut_none w d e k b h i =
    ap (λ (r : Result ℕ Fault). within_item 1 r >>= λ c. (within_item 2 (word_of (just (codes "none")) e) >>= λ _. Ok None) >>= λ reached. Ok (note.Cut c reached)) h
    ∙ ap (λ (r : Result Bool Fault). (within_item 2 r >>= λ _. Ok None) >>= λ reached. Ok (note.Cut k reached)) i

cut_some : (w d e f : Data) (k up down : ℕ) → number_in d ≡ Ok k → number_in e ≡ Ok up → number_in f ≡ Ok down → cut_in (array (item w (item d (item e (item f no_items))))) ≡ Ok (note.Cut k (Some (record { up = up; down = down })))
unfolding cut_in part
cut_some w d e f k up down h i j =
    ap (λ (r : Result ℕ Fault). within_item 1 r >>= λ c. (within_item 2 (number_in e) >>= λ m. within_item 3 (number_in f) >>= λ n. Ok (Some (record { up = m; down = n }))) >>= λ reached. Ok (note.Cut c reached)) h
    ∙ ap (λ (r : Result ℕ Fault). (within_item 2 r >>= λ m. within_item 3 (number_in f) >>= λ n. Ok (Some (record { up = m; down = n }))) >>= λ reached. Ok (note.Cut k reached)) i
    ∙ ap (λ (r : Result ℕ Fault). (within_item 3 r >>= λ n. Ok (Some (record { up = up; down = n }))) >>= λ reached. Ok (note.Cut k reached)) j

pub cut_ends : (depth : ℕ) (ts r s rest : List Token) (k : ℕ) (b : Bool) (e : Data) → Begins number_in depth ts k r → value_ahead depth r ≡ Some (e, s) → after_end_array s ≡ Some rest → word_of (just (codes "none")) e ≡ Ok b → Ends cut_in depth ts (note.Cut k None) rest
cut_ends depth ts r s rest k b e begins seen closed none =
    let f = read_ahead (word_of (just (codes "none"))) depth r s rest b no_items (begins_with (word_of (just (codes "none"))) depth r s e b seen none) (bracket_ahead depth s rest closed) in
    let d = read_ahead number_in depth ts r rest k (item f.0 no_items) begins f.1 in
    (item d.0 (item f.0 no_items), d.1, λ w. cut_none w d.0 f.0 k b d.2 f.2)

pub cut_reached : (depth : ℕ) (ts r s rest : List Token) (k up down : ℕ) (e : Data) → Begins number_in depth ts k r → value_ahead depth r ≡ Some (e, s) → number_in e ≡ Ok up → IsLastItem number_in depth s down rest
    → Ends cut_in depth ts (note.Cut k (Some (record { up = up; down = down }))) rest
cut_reached depth ts r s rest k up down e begins seen gives l =
    let f = read_ahead number_in depth r s rest up (item l.0 no_items) (begins_with number_in depth r s e up seen gives) l.1 in
    let d = read_ahead number_in depth ts r rest k (item f.0 (item l.0 no_items)) begins f.1 in
    (item d.0 (item f.0 (item l.0 no_items)), d.1, λ w. cut_some w d.0 f.0 l.0 k up down d.2 f.2 l.2)

reap_bare : (w d : Data) (k : ℕ) → number_in d ≡ Ok k → reap_in (array (item w (item d no_items))) ≡ Ok (note.Reap k true)
unfolding reap_in part
reap_bare w d k h = ap (λ (r : Result ℕ Fault). within_item 1 r >>= λ c. Ok (note.Reap c true)) h

reap_word : (w d e : Data) (k : ℕ) (b : Bool) → number_in d ≡ Ok k → word_of (just (codes "none")) e ≡ Ok b → reap_in (array (item w (item d (item e no_items)))) ≡ Ok (note.Reap k (not b))
unfolding reap_in part
reap_word w d e k b h i =
    ap (λ (r : Result ℕ Fault). within_item 1 r >>= λ c. within_item 2 (word_of (just (codes "none")) e) >>= λ none. Ok (note.Reap c (not none))) h
    ∙ ap (λ (r : Result Bool Fault). within_item 2 r >>= λ none. Ok (note.Reap k (not none))) i

pub reap_ends : (depth : ℕ) (ts r rest : List Token) (k : ℕ) → Begins number_in depth ts k r → after_end_array r ≡ Some rest → Ends reap_in depth ts (note.Reap k true) rest
reap_ends depth ts r rest k begins closed =
    let d = read_ahead number_in depth ts r rest k no_items begins (bracket_ahead depth r rest closed) in (item d.0 no_items, d.1, λ w. reap_bare w d.0 k d.2)

pub reap_none : (depth : ℕ) (ts r rest : List Token) (k : ℕ) (b : Bool) → Begins number_in depth ts k r → IsLastItem (word_of (just (codes "none"))) depth r b rest → Ends reap_in depth ts (note.Reap k (not b)) rest
reap_none depth ts r rest k b begins l =
    let d = read_ahead number_in depth ts r rest k (item l.0 no_items) begins l.1 in (item d.0 (item l.0 no_items), d.1, λ w. reap_word w d.0 l.0 k b d.2 l.2)

crash_bare : (w d : Data) (k : ℕ) → number_in d ≡ Ok k → crash_in (array (item w (item d no_items))) ≡ Ok (note.Crash k false)
unfolding crash_in part
crash_bare w d k h = ap (λ (r : Result ℕ Fault). within_item 1 r >>= λ c. Ok (note.Crash c false)) h

crash_word : (w d e : Data) (k : ℕ) (b : Bool) → number_in d ≡ Ok k → word_of (just (codes "down")) e ≡ Ok b → crash_in (array (item w (item d (item e no_items)))) ≡ Ok (note.Crash k b)
unfolding crash_in part
crash_word w d e k b h i =
    ap (λ (r : Result ℕ Fault). within_item 1 r >>= λ c. within_item 2 (word_of (just (codes "down")) e) >>= λ down. Ok (note.Crash c down)) h
    ∙ ap (λ (r : Result Bool Fault). within_item 2 r >>= λ down. Ok (note.Crash k down)) i

pub crash_ends : (depth : ℕ) (ts r rest : List Token) (k : ℕ) → Begins number_in depth ts k r → after_end_array r ≡ Some rest → Ends crash_in depth ts (note.Crash k false) rest
crash_ends depth ts r rest k begins closed =
    let d = read_ahead number_in depth ts r rest k no_items begins (bracket_ahead depth r rest closed) in (item d.0 no_items, d.1, λ w. crash_bare w d.0 k d.2)

pub crash_down : (depth : ℕ) (ts r rest : List Token) (k : ℕ) (b : Bool) → Begins number_in depth ts k r → IsLastItem (word_of (just (codes "down"))) depth r b rest → Ends crash_in depth ts (note.Crash k b) rest
crash_down depth ts r rest k b begins l =
    let d = read_ahead number_in depth ts r rest k (item l.0 no_items) begins l.1 in (item d.0 (item l.0 no_items), d.1, λ w. crash_word w d.0 l.0 k b d.2 l.2)

pub up_read : (w d : Data) (n : Option ℕ) → incarnation_in d ≡ Ok n → up_in (array (item w (item d no_items))) ≡ Ok (note.Up n)
unfolding up_in part
up_read w d n h = ap (λ (r : Result (Option ℕ) Fault). within_item 1 r >>= λ incarnation. Ok (note.Up incarnation)) h

pub upcrash_bare : (w : Data) → upcrash_in (array (item w no_items)) ≡ Ok (note.UpCrash true)
unfolding upcrash_in part
upcrash_bare w = refl

pub upcrash_none : (w d : Data) (b : Bool) → word_of (just (codes "none")) d ≡ Ok b → upcrash_in (array (item w (item d no_items))) ≡ Ok (note.UpCrash false)
unfolding upcrash_in part
upcrash_none w d b h = ap (λ (r : Result Bool Fault). within_item 1 r >>= λ _. Ok (note.UpCrash false)) h

pub drain_read : (w d : Data) (n : ℕ) → number_in d ≡ Ok n → drain_in (array (item w (item d no_items))) ≡ Ok (note.Drain n)
unfolding drain_in part
drain_read w d n h = ap (λ (r : Result ℕ Fault). within_item 1 r >>= λ closed. Ok (note.Drain closed)) h

outside_down : (w d : Data) (b : Bool) → word_of (just (codes "down")) d ≡ Ok b → outside_in (array (item w (item d no_items))) ≡ Ok (note.Outside None)
unfolding outside_in part
outside_down w d b h = ap (λ (r : Result Bool Fault). within_item 1 r >>= λ _. Ok (note.Outside None)) h

outside_ran : (w d e : Data) (x : Ltxid) (runs : List NoteRun) → identifier_in d ≡ Ok x → runs_in e ≡ Ok runs → outside_in (array (item w (item d (item e no_items)))) ≡ Ok (note.Outside (Some (record { ltxid = x; runs = runs })))
unfolding outside_in ran_in part
outside_ran w d e x runs h i =
    ap (λ (r : Result Ltxid Fault). (within_item 1 r >>= λ y. within_item 2 (runs_in e) >>= λ all. Ok (record { ltxid = y; runs = all })) >>= λ ran. Ok (note.Outside (Some ran))) h
    ∙ ap (λ (r : Result (List NoteRun) Fault). (within_item 2 r >>= λ all. Ok (record { ltxid = x; runs = all })) >>= λ ran. Ok (note.Outside (Some ran))) i

pub outside_ends : (depth : ℕ) (ts s rest : List Token) (b : Bool) (d : Data) → value_ahead depth ts ≡ Some (d, s) → after_end_array s ≡ Some rest → word_of (just (codes "down")) d ≡ Ok b → Ends outside_in depth ts (note.Outside None) rest
outside_ends depth ts s rest b d seen closed down =
    let f = read_ahead (word_of (just (codes "down"))) depth ts s rest b no_items (begins_with (word_of (just (codes "down"))) depth ts s d b seen down) (bracket_ahead depth s rest closed) in
    (item f.0 no_items, f.1, λ w. outside_down w f.0 b f.2)

pub outside_runs : (depth : ℕ) (ts s rest : List Token) (x : Ltxid) (runs : List NoteRun) (d : Data) → value_ahead depth ts ≡ Some (d, s) → identifier_in d ≡ Ok x → IsLastItem runs_in depth s runs rest
    → Ends outside_in depth ts (note.Outside (Some (record { ltxid = x; runs = runs }))) rest
outside_runs depth ts s rest x runs d seen gives l =
    let f = read_ahead identifier_in depth ts s rest x (item l.0 no_items) (begins_with identifier_in depth ts s d x seen gives) l.1 in
    (item f.0 (item l.0 no_items), f.1, λ w. outside_ran w f.0 l.0 x runs f.2 l.2)

ask_read : (w d e : Data) (ds : Items) (x : Ltxid) (g : Option ToldWord) (one : Option AskResult) → identifier_in d ≡ Ok x → word_of asked_words e ≡ Ok g → told_in g (item w (item d (item e ds))) ≡ Ok one
    → ask_in (array (item w (item d (item e ds)))) ≡ Ok (note.Ask x one)
unfolding ask_in part
ask_read w d e ds x g one h i j =
    let all = item w (item d (item e ds)) in
    ap (λ (r : Result Ltxid Fault). within_item 1 r >>= λ y. within_item 2 (word_of asked_words e) >>= λ v. if_count (3 + asked_behind v) (items_len all) >>= λ _. asked_by v 3 (placed all) >>= λ heard. Ok (note.Ask y heard)) h
    ∙ ap (λ (r : Result (Option ToldWord) Fault). within_item 2 r >>= λ v. if_count (3 + asked_behind v) (items_len all) >>= λ _. asked_by v 3 (placed all) >>= λ heard. Ok (note.Ask x heard)) i
    ∙ sure (if_count (3 + asked_behind g) (items_len all)) (asked_by g 3 (placed all)) one (λ heard. Ok (note.Ask x heard)) j

pub ask_ends : (depth : ℕ) (ts r s rest : List Token) (x : Ltxid) (g : Option ToldWord) (one : Option AskResult) → Begins identifier_in depth ts x r → Begins (word_of asked_words) depth r g s → EndsBehind (told_in g) depth s one rest → Ends ask_in depth ts (note.Ask x one) rest
ask_ends depth ts r s rest x g one begins goes_on left =
    let e = read_ahead (word_of asked_words) depth r s rest g left.0 goes_on left.1 in
    let d = read_ahead identifier_in depth ts r rest x (item e.0 left.0) begins e.1 in
    (item d.0 (item e.0 left.0), d.1, λ w. ask_read w d.0 e.0 left.0 x g one d.2 e.2 (left.2 w d.0 e.0))

-- ---- what stands behind the third item of a step

did_lost : (w d e f : Data) (k : ℕ) → number_in f ≡ Ok k → did_in go.Lost (item w (item d (item e (item f no_items)))) ≡ Ok (did.Lost k)
unfolding part
did_lost w d e f k h = ap (λ (r : Result ℕ Fault). within_item 3 r >>= λ c. Ok (did.Lost c)) h

did_took : (w d e f g : Data) (k sent : ℕ) → number_in f ≡ Ok k → number_in g ≡ Ok sent → did_in go.Took (item w (item d (item e (item f (item g no_items))))) ≡ Ok (did.Took k sent)
unfolding part
did_took w d e f g k sent h i =
    ap (λ (r : Result ℕ Fault). within_item 3 r >>= λ c. within_item 4 (number_in g) >>= λ n. Ok (did.Took c n)) h
    ∙ ap (λ (r : Result ℕ Fault). within_item 4 r >>= λ n. Ok (did.Took k n)) i

did_open : (w d e f g : Data) (k x : ℕ) → number_in f ≡ Ok k → whole_of 1 1 g ≡ Ok x → did_in go.Open (item w (item d (item e (item f (item g no_items))))) ≡ Ok (did.Open k)
unfolding part
did_open w d e f g k x h i =
    ap (λ (r : Result ℕ Fault). (within_item 3 r >>= λ c. within_item 4 (whole_of 1 1 g) >>= λ _. Ok c) >>= λ c. Ok (did.Open c)) h
    ∙ ap (λ (r : Result ℕ Fault). (within_item 4 r >>= λ _. Ok k) >>= λ c. Ok (did.Open c)) i

did_lent : (w d e f g : Data) (k x : ℕ) → number_in f ≡ Ok k → whole_of 2 2 g ≡ Ok x → did_in go.Lent (item w (item d (item e (item f (item g no_items))))) ≡ Ok (did.Lent k)
unfolding part
did_lent w d e f g k x h i =
    ap (λ (r : Result ℕ Fault). (within_item 3 r >>= λ c. within_item 4 (whole_of 2 2 g) >>= λ _. Ok c) >>= λ c. Ok (did.Lent c)) h
    ∙ ap (λ (r : Result ℕ Fault). (within_item 4 r >>= λ _. Ok k) >>= λ c. Ok (did.Lent c)) i

pub lost_ends : (depth : ℕ) (ts rest : List Token) (k : ℕ) → IsLastItem number_in depth ts k rest → EndsBehind (did_in go.Lost) depth ts (did.Lost k) rest
lost_ends depth ts rest k l = (item l.0 no_items, l.1, λ w d e. did_lost w d e l.0 k l.2)

pub took_ends : (depth : ℕ) (ts r rest : List Token) (k sent : ℕ) → Begins number_in depth ts k r → IsLastItem number_in depth r sent rest → EndsBehind (did_in go.Took) depth ts (did.Took k sent) rest
took_ends depth ts r rest k sent begins l =
    let f = read_ahead number_in depth ts r rest k (item l.0 no_items) begins l.1 in (item f.0 (item l.0 no_items), f.1, λ w d e. did_took w d e f.0 l.0 k sent f.2 l.2)

pub sent_ends : (sent : ℕ) (depth : ℕ) (ts r rest : List Token) (k x : ℕ) → Begins number_in depth ts k r → IsLastItem (whole_of sent sent) depth r x rest → AreSent sent k depth ts rest
sent_ends sent depth ts r rest k x begins l =
    let f = read_ahead number_in depth ts r rest k (item l.0 no_items) begins l.1 in (f.0, l.0, f.1, f.2, x, l.2)

pub open_ends : (depth : ℕ) (ts rest : List Token) (k : ℕ) → AreSent 1 k depth ts rest → EndsBehind (did_in go.Open) depth ts (did.Open k) rest
open_ends depth ts rest k s = (item s.0 (item s.1 no_items), s.2, λ w d e. did_open w d e s.0 s.1 k s.4 s.3 s.5)

pub lent_ends : (depth : ℕ) (ts rest : List Token) (k : ℕ) → AreSent 2 k depth ts rest → EndsBehind (did_in go.Lent) depth ts (did.Lent k) rest
lent_ends depth ts rest k s = (item s.0 (item s.1 no_items), s.2, λ w d e. did_lent w d e s.0 s.1 k s.4 s.3 s.5)

-- nothing behind the word
pub bare_ends : (g : GoWord) (one : GoNote) → ((w d e : Data) → did_in g (item w (item d (item e no_items))) ≡ Ok one) → (depth : ℕ) (ts rest : List Token) (o : Option GoNote) → IfSome o (λ x. x ≡ one) → IfSome o (λ _. (n : ℕ) → items_ahead n ts ≡ Some (no_items, rest))
    → IfSome o (λ x. EndsBehind (did_in g) depth ts x rest)
bare_ends g one reads depth ts rest None same ends = tt
bare_ends g one reads depth ts rest (Some x) same ends = (no_items, ends depth, λ w d e. reads w d e ∙ ap Ok (sym same))

-- ---- what stands behind the third item of an answer

told_committed : (w d e f : Data) (x : Bool) → bool_of f ≡ Ok x → result_in told.Committed (item w (item d (item e (item f no_items)))) ≡ Ok (result.Committed x)
unfolding part
told_committed w d e f x h = ap (λ (r : Result Bool Fault). within_item 3 r >>= λ y. Ok (result.Committed y)) h

pub committed_ends : (depth : ℕ) (ts rest : List Token) (x : Bool) → IsLastItem bool_of depth ts x rest → EndsBehind (result_in told.Committed) depth ts (result.Committed x) rest
committed_ends depth ts rest x l = (item l.0 no_items, l.1, λ w d e. told_committed w d e l.0 x l.2)

told_server : (w d e f : Data) (x : ℕ) → number_in f ≡ Ok x → result_in told.ServerAhead (item w (item d (item e (item f no_items)))) ≡ Ok (result.ServerAhead x)
unfolding part
told_server w d e f x h = ap (λ (r : Result ℕ Fault). within_item 3 r >>= λ y. Ok (result.ServerAhead y)) h

pub server_ends : (depth : ℕ) (ts rest : List Token) (x : ℕ) → IsLastItem number_in depth ts x rest → EndsBehind (result_in told.ServerAhead) depth ts (result.ServerAhead x) rest
server_ends depth ts rest x l = (item l.0 no_items, l.1, λ w d e. told_server w d e l.0 x l.2)

told_client : (w d e f : Data) (x : ℕ) → number_in f ≡ Ok x → result_in told.ClientAhead (item w (item d (item e (item f no_items)))) ≡ Ok (result.ClientAhead x)
unfolding part
told_client w d e f x h = ap (λ (r : Result ℕ Fault). within_item 3 r >>= λ y. Ok (result.ClientAhead y)) h

pub client_ends : (depth : ℕ) (ts rest : List Token) (x : ℕ) → IsLastItem number_in depth ts x rest → EndsBehind (result_in told.ClientAhead) depth ts (result.ClientAhead x) rest
client_ends depth ts rest x l = (item l.0 no_items, l.1, λ w d e. told_client w d e l.0 x l.2)

told_forgotten : (w d e f : Data) (x : ℕ) → number_in f ≡ Ok x → result_in told.Forgotten (item w (item d (item e (item f no_items)))) ≡ Ok (result.Forgotten x)
unfolding part
told_forgotten w d e f x h = ap (λ (r : Result ℕ Fault). within_item 3 r >>= λ y. Ok (result.Forgotten y)) h

pub forgotten_ends : (depth : ℕ) (ts rest : List Token) (x : ℕ) → IsLastItem number_in depth ts x rest → EndsBehind (result_in told.Forgotten) depth ts (result.Forgotten x) rest
forgotten_ends depth ts rest x l = (item l.0 no_items, l.1, λ w d e. told_forgotten w d e l.0 x l.2)

pub told_ends : (w : ToldWord) (depth : ℕ) (ts rest : List Token) (one : AskResult) → EndsBehind (result_in w) depth ts one rest → EndsBehind (told_in (Some w)) depth ts (Some one) rest
told_ends w depth ts rest one l =
    (l.0, l.1, λ a d e. let all = item a (item d (item e l.0)) in sure (if_count (3 + behind_of w) (items_len all)) (told_by w 3 (placed all)) one (λ x. Ok (Some x)) (l.2 a d e))

-- ---- the whole note

pub note_joined : (w : NoteWord) (depth inside : ℕ) (ts begin behind rest : List Token) (one : Note) → value_ahead depth ts ≡ parse_map array (items_ahead inside begin)
    → Begins (word_of note_words) inside begin w behind → Ends (note_by w) inside behind one rest → Begins note_in depth ts one rest
unfolding note_in
note_joined w depth inside ts begin behind rest one opens begins ends =
    let d = read_ahead (word_of note_words) inside begin behind rest w ends.0 begins ends.1 in
    let whole = array (item d.0 ends.0) in
    let read = ap (λ (r : Result NoteWord Fault). r >>= λ v. note_by v whole) (head_is note_words d.0 ends.0 w d.2) ∙ ends.2 d.0 in
    ap (parse_map note_in) (opens ∙ ap (parse_map array) d.1) ∙ ap (λ q. Some (q, rest)) read
