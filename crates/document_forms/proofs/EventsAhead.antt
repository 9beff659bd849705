-- An event whose parts were read one after the other.
use Rattle.std.proofs.Common.{◌≡◌, ℕ, List, Bool, true, Some, Result, Ok, ap, ◌∙◌}
use Rattle.json.specs.Token.{Token}
use Rattle.json.specs.Json.{parse_map}
use Rattle.serde_json.specs.Data.{Data, array, no_items, item}
use Rattle.json_form.specs.declared.hexadecimal.Digits.TheVariants as digits
use Rattle.json_form.specs.meaning.Faults.{Fault, ◌>>=◌, within_item}
use Rattle.json_form.specs.meaning.Values.{whole_of}
use Rattle.json_form.specs.meaning.Arrays.{array_of, each_of, part}
use Rattle.json_form.specs.meaning.Texts.{word_of, head_of}
use Rattle.json_form.specs.Streams.{value_ahead, items_ahead, Begins, IsLastItem}
use Rattle.svc_values.specs.declared.call.Call.{Call}
use Rattle.svc_values.specs.declared.entry.Ltxid.{Ltxid}
use Rattle.outage_schedule.specs.declared.event.Event.{Event}
use Rattle.outage_schedule.specs.declared.event.Event.TheVariants as event
use Rattle.document_forms.specs.declared.event.EventWord.{EventWord}
use Rattle.call_forms.specs.meaning.Calls.{call_of}
use Rattle.document_forms.specs.meaning.Events.{count_of, pick_of, lost_pick_of, go_of, serve_of, reap_of, cut_of, crash_of, upcrash_of, outside_of, ltxid_of, ask_of, if_second, failover_of, event_words, event_by, event_of}
use Rattle.document_forms.specs.EventsAhead.{Ends}
use Rattle.json_form.proofs.Offered.{read_ahead}
use Rattle.call_forms.proofs.Offered.{head_is}
use Rattle.document_forms.proofs.Steps.{gives_after}

-- ---- the parts behind the word

module _ {A : Type 0} (reads : Data → Result A Fault) (read : Data → Result Event Fault) (depth : ℕ) (ts : List Token) (one : Event) (rest : List Token) where
  pub one_part : (x : A) → ((word d : Data) → reads d ≡ Ok x → read (array (item word (item d no_items))) ≡ Ok one) → IsLastItem reads depth ts x rest → Ends read depth ts one rest
  one_part x gives l = (item l.0 no_items, l.1, λ word. gives word l.0 l.2)

  pub two_parts : (r : List Token) (a : ℕ) (x : A) → ((word d e : Data) → count_of d ≡ Ok a → reads e ≡ Ok x → read (array (item word (item d (item e no_items)))) ≡ Ok one) → Begins count_of depth ts a r → IsLastItem reads depth r x rest → Ends read depth ts one rest
  two_parts r a x gives begins l =
      let d = read_ahead count_of depth ts r rest a (item l.0 no_items) begins l.1 in
      (item d.0 (item l.0 no_items), d.1, λ word. gives word d.0 l.0 d.2 l.2)

  pub three_parts : (r s : List Token) (a b : ℕ) (x : A) → ((word d e f : Data) → count_of d ≡ Ok a → count_of e ≡ Ok b → reads f ≡ Ok x → read (array (item word (item d (item e (item f no_items))))) ≡ Ok one)
      → Begins count_of depth ts a r → Begins count_of depth r b s → IsLastItem reads depth s x rest → Ends read depth ts one rest
  three_parts r s a b x gives begins goes_on l =
      let e = read_ahead count_of depth r s rest b (item l.0 no_items) goes_on l.1 in
      let d = read_ahead count_of depth ts r rest a (item e.0 (item l.0 no_items)) begins e.1 in
      (item d.0 (item e.0 (item l.0 no_items)), d.1, λ word. gives word d.0 e.0 l.0 d.2 e.2 l.2)

-- ---- each kind of event

pub go_read : (clients : ℕ) (word d : Data) (x : ℕ) → whole_of 1 clients d ≡ Ok x → go_of clients (array (item word (item d no_items))) ≡ Ok (event.Go x)
unfolding go_of part
go_read clients word d x h = ap (λ (r : Result _ Fault). within_item 1 r >>= λ client. Ok (event.Go client)) h

pub serve_read : (word d : Data) (x : ℕ) → count_of d ≡ Ok x → serve_of (array (item word (item d no_items))) ≡ Ok (event.Serve x)
unfolding serve_of part
serve_read word d x h = ap (λ (r : Result _ Fault). within_item 1 r >>= λ connection. Ok (event.Serve connection)) h

pub reap_read : (word d : Data) (x : ℕ) → count_of d ≡ Ok x → reap_of (array (item word (item d no_items))) ≡ Ok (event.Reap x)
unfolding reap_of part
reap_read word d x h = ap (λ (r : Result _ Fault). within_item 1 r >>= λ connection. Ok (event.Reap connection)) h

pub outside_read : (word d : Data) (x : List Call) → array_of 1 1024 (each_of (call_of digits.Any)) d ≡ Ok x → outside_of (array (item word (item d no_items))) ≡ Ok (event.Outside x)
unfolding outside_of part
outside_read word d x h = ap (λ (r : Result _ Fault). within_item 1 r >>= λ calls. Ok (event.Outside calls)) h

pub ask_read : (word d : Data) (x : Ltxid) → ltxid_of d ≡ Ok x → ask_of (array (item word (item d no_items))) ≡ Ok (event.Ask x)
unfolding ask_of part
ask_read word d x h = ap (λ (r : Result _ Fault). within_item 1 r >>= λ ltxid. Ok (event.Ask ltxid)) h

pub cut_read : (word d e f : Data) (a b x : ℕ) → count_of d ≡ Ok a → count_of e ≡ Ok b → count_of f ≡ Ok x → cut_of (array (item word (item d (item e (item f no_items))))) ≡ Ok (event.Cut a b x)
unfolding cut_of part
cut_read word d e f a b x h k l =
    ap (λ (r : Result ℕ Fault). within_item 1 r >>= λ m. within_item 2 (count_of e) >>= λ n. within_item 3 (count_of f) >>= λ o. Ok (event.Cut m n o)) h
    ∙ ap (λ (r : Result ℕ Fault). within_item 2 r >>= λ n. within_item 3 (count_of f) >>= λ o. Ok (event.Cut a n o)) k
    ∙ ap (λ (r : Result ℕ Fault). within_item 3 r >>= λ o. Ok (event.Cut a b o)) l

pub crash_read : (word d e f : Data) (a b x : ℕ) → count_of d ≡ Ok a → count_of e ≡ Ok b → pick_of f ≡ Ok x → crash_of (array (item word (item d (item e (item f no_items))))) ≡ Ok (event.Crash a b x)
unfolding crash_of part
crash_read word d e f a b x h k l =
    ap (λ (r : Result ℕ Fault). within_item 1 r >>= λ m. within_item 2 (count_of e) >>= λ n. within_item 3 (pick_of f) >>= λ o. Ok (event.Crash m n o)) h
    ∙ ap (λ (r : Result ℕ Fault). within_item 2 r >>= λ n. within_item 3 (pick_of f) >>= λ o. Ok (event.Crash a n o)) k
    ∙ ap (λ (r : Result ℕ Fault). within_item 3 r >>= λ o. Ok (event.Crash a b o)) l

pub failover_read : (standby : Bool) (word d e f : Data) (a b x : ℕ) → count_of d ≡ Ok a → count_of e ≡ Ok b → lost_pick_of f ≡ Ok x → standby ≡ true → failover_of standby (array (item word (item d (item e (item f no_items))))) ≡ Ok (event.Crash a b x)
unfolding failover_of part
failover_read standby word d e f a b x h k l second =
    ap (λ (r : Result ℕ Fault). within_item 1 r >>= λ m. within_item 2 (count_of e) >>= λ n. within_item 3 (lost_pick_of f) >>= λ o. if_second standby (event.Crash m n o)) h
    ∙ ap (λ (r : Result ℕ Fault). within_item 2 r >>= λ n. within_item 3 (lost_pick_of f) >>= λ o. if_second standby (event.Crash a n o)) k
    ∙ ap (λ (r : Result ℕ Fault). within_item 3 r >>= λ o. if_second standby (event.Crash a b o)) l
    ∙ ap (λ c. if_second c (event.Crash a b x)) second

pub upcrash_read : (word d e : Data) (a x : ℕ) → count_of d ≡ Ok a → pick_of e ≡ Ok x → upcrash_of (array (item word (item d (item e no_items)))) ≡ Ok (event.UpCrash a x)
unfolding upcrash_of part
upcrash_read word d e a x h k =
    ap (λ (r : Result ℕ Fault). within_item 1 r >>= λ m. within_item 2 (pick_of e) >>= λ n. Ok (event.UpCrash m n)) h
    ∙ ap (λ (r : Result ℕ Fault). within_item 2 r >>= λ n. Ok (event.UpCrash a n)) k

-- ---- the whole event

pub event_joined : (clients : ℕ) (standby : Bool) (w : EventWord) (depth inside : ℕ) (ts begin behind rest : List Token) (one : Event) → value_ahead depth ts ≡ parse_map array (items_ahead inside begin)
    → Begins (word_of event_words) inside begin w behind → Ends (event_by clients standby w) inside behind one rest → Begins (event_of clients standby) depth ts one rest
unfolding event_of
event_joined clients standby w depth inside ts begin behind rest one opens begins ends =
    let d = read_ahead (word_of event_words) inside begin behind rest w ends.0 begins ends.1 in
    let whole = array (item d.0 ends.0) in
    let read = gives_after (head_of event_words whole) w (λ v. event_by clients standby v whole) one (head_is event_words d.0 ends.0 w d.2) (ends.2 d.0) in
    ap (parse_map (event_of clients standby)) (opens ∙ ap (parse_map array) d.1) ∙ ap (λ q. Some (q, rest)) read

-- ---- an identifier

abbrev made : ℕ → ℕ → ℕ → Ltxid
made incarnation session number = record { incarnation = incarnation; session = session; number = number }

ltxid_read : (d e f : Data) (a b x : ℕ) → count_of d ≡ Ok a → count_of e ≡ Ok b → count_of f ≡ Ok x → ltxid_of (array (item d (item e (item f no_items)))) ≡ Ok (made a b x)
unfolding ltxid_of part
ltxid_read d e f a b x h k l =
    ap (λ (r : Result ℕ Fault). within_item 0 r >>= λ m. within_item 1 (count_of e) >>= λ n. within_item 2 (count_of f) >>= λ o. Ok (made m n o)) h
    ∙ ap (λ (r : Result ℕ Fault). within_item 1 r >>= λ n. within_item 2 (count_of f) >>= λ o. Ok (made a n o)) k
    ∙ ap (λ (r : Result ℕ Fault). within_item 2 r >>= λ o. Ok (made a b o)) l

pub ltxid_joined : (depth inside : ℕ) (ts begin r s rest : List Token) (a b x : ℕ) → value_ahead depth ts ≡ parse_map array (items_ahead inside begin)
    → Begins count_of inside begin a r → Begins count_of inside r b s → IsLastItem count_of inside s x rest → Begins ltxid_of depth ts (made a b x) rest
ltxid_joined depth inside ts begin r s rest a b x opens begins goes_on l =
    let e = read_ahead count_of inside r s rest b (item l.0 no_items) goes_on l.1 in
    let d = read_ahead count_of inside begin r rest a (item e.0 (item l.0 no_items)) begins e.1 in
    ap (parse_map ltxid_of) (opens ∙ ap (parse_map array) d.1) ∙ ap (λ q. Some (q, rest)) (ltxid_read d.0 e.0 l.0 a b x d.2 e.2 l.2)
