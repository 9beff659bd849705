-- Events that fit a document are read alike in it and in one with more clients and a second store.
use Rattle.std.proofs.Common.{◌≡◌, ◌<◌, ℕ, ◌+◌, ℤ, pos, negsuc, nat_le, List, [], ◌∷◌, ◌++◌, length, Bool, true, false, cond, Option, Some, None, option_map, Result, Ok, Err, codes, refl, sym, ap, decimal, ◌∙◌, arith}
use Rattle.std.specs.Prelude.{◌&&◌}
use Rattle.std.specs.List.{list_all}
use Rattle.std.specs.Option.{unwrap_or}
use Rattle.std.proofs.lemmas.Bool.{lt-leb}
use Rattle.std.proofs.lemmas.List.Folds.{list_all-append}
use Rattle.serde_json.specs.Data.{Data, Items, no_items, item}
use Rattle.json_form.specs.declared.fault.DocCode.TheVariants.{Limit}
use Rattle.json_form.specs.meaning.Faults.{Fault, ◌>>=◌, here, within_item}
use Rattle.json_form.specs.meaning.Values.{expected, number_of, in_limits, whole_of}
use Rattle.json_form.specs.meaning.Arrays.{Placed, each_after, each_of, counted_of, fixed, part}
use Rattle.json_form.specs.meaning.Objects.{read_or}
use Rattle.json_form.specs.meaning.Texts.{head_of}
use Rattle.outage_schedule.specs.declared.event.Event.{Event}
use Rattle.outage_schedule.specs.declared.event.Event.TheVariants as event
use Rattle.document_forms.specs.declared.event.EventWord.{EventWord}
use Rattle.document_forms.specs.declared.event.EventWord.TheVariants as word
use Rattle.document_forms.specs.meaning.Events.{count_of, pick_of, lost_pick_of, if_second, go_of, failover_of, event_words, event_by, event_of, schedule_of}
use Rattle.document_forms.specs.Keeping.{fits}
use Rattle.json_form.proofs.Offered.{after, given, ok_is, within_ok, passed, part_read, first_true, both_true, each_keeps}
use Rattle.document_forms.proofs.Steps.{gives_after}
use Rattle.document_forms.proofs.OneByOne.{may_be_there}
use Rattle.document_forms.proofs.ReadEvents.{with_lost, with_lost_after, with_lost_connection}

-- ---- a client that is there

limits_alike : (low most high : ℕ) (z : ℤ) (n : ℕ) → in_limits low most z ≡ Ok n → nat_le n high ≡ true → in_limits low high z ≡ Ok n
limits_alike low most high (pos m) n h fit =
    let a = passed (nat_le low m && nat_le m most) (Ok m) (here Limit) n h in
    let lies : (nat_le low m && nat_le m high) ≡ true = both_true _ _ (first_true (nat_le low m) (nat_le m most) a.0) (ap (λ k. nat_le k high) (ok_is m n a.1) ∙ fit) in
    ap (λ b. cond b (given m) (Err (here Limit))) lies ∙ a.1
limits_alike low most high (negsuc m) n h fit = absurd (cc)

whole_alike : (low most high : ℕ) (d : Data) (n : ℕ) → whole_of low most d ≡ Ok n → nat_le n high ≡ true → whole_of low high d ≡ Ok n
unfolding whole_of
whole_alike low most high d n h fit =
    let a = after (number_of d) (in_limits low most) n h in gives_after (number_of d) a.0 (in_limits low high) n a.1 (limits_alike low most high a.0 n a.2 fit)

part_alike : {A : Type 0} (at : ℕ) (f g : Data → Result A Fault) (ds : Placed) (x : A) → ((d : Data) → f d ≡ Ok x → g d ≡ Ok x) → part at f ds ≡ Ok x → part at g ds ≡ Ok x
unfolding part
part_alike at f g ds x alike h =
    let a = after (expected (ds at)) (λ d. within_item at (f d)) x h in
    gives_after (expected (ds at)) a.0 (λ d. within_item at (g d)) x a.1 (ap (within_item at) (alike a.0 (within_ok (decimal at) (f a.0) x a.2)))

abbrev with_client : ℕ → Placed → Result Event Fault
with_client clients ds = part 1 (whole_of 1 clients) ds >>= λ client. Ok (event.Go client)

go_alike : (most clients : ℕ) (standby : Bool) (d : Data) (one : Event) → go_of most d ≡ Ok one → fits clients standby one ≡ true → go_of clients d ≡ Ok one
unfolding go_of
go_alike most clients standby d one h fit =
    let a = after (fixed 2 d) (with_client most) one h in
    let b = after (part 1 (whole_of 1 most) a.0) (λ client. Ok (event.Go client)) one a.2 in
    let there : nat_le b.0 clients ≡ true = ap (fits clients standby) (ok_is (event.Go b.0) one b.2) ∙ fit in
    let read = part_alike 1 (whole_of 1 most) (whole_of 1 clients) a.0 b.0 (λ e gave. whole_alike 1 most clients e b.0 gave there) b.1 in
    gives_after (fixed 2 d) a.0 (with_client clients) one a.1 (gives_after (part 1 (whole_of 1 clients) a.0) b.0 (λ client. Ok (event.Go client)) one read b.2)

-- ---- a first store that is not lost for good

lost_above : (d : Data) (n : ℕ) → lost_pick_of d ≡ Ok n → nat_le n 3 ≡ false
lost_above d n h =
    let a = after (pick_of d) (λ pick. Ok (pick + 4)) n h in
    let above : 3 < a.0 + 4 = omega arith in
    ap (λ m. nat_le m 3) (sym (ok_is (a.0 + 4) n a.2)) ∙ lt-leb (a.0 + 4) 3 above

-- what a failover is read as fits no document without a second store
lost_apart : (clients : ℕ) (d : Data) (one : Event) → failover_of true d ≡ Ok one → fits clients false one ≡ false
unfolding failover_of
lost_apart clients d one h =
    let a = after (fixed 4 d) (with_lost_connection true) one h in
    let b = after (part 1 count_of a.0) (with_lost_after true a.0) one a.2 in
    let c = after (part 2 count_of a.0) (with_lost true a.0 b.0) one b.2 in
    let e = after (part 3 lost_pick_of a.0) (λ pick. if_second true (event.Crash b.0 c.0 pick)) one c.2 in
    let p = part_read 3 lost_pick_of a.0 e.0 e.1 in
    ap (fits clients false) (sym (ok_is (event.Crash b.0 c.0 e.0) one e.2)) ∙ lost_above p.0 e.0 p.1

failover_alike : (clients : ℕ) (standby : Bool) (d : Data) (one : Event) → failover_of true d ≡ Ok one → fits clients standby one ≡ true → failover_of standby d ≡ Ok one
failover_alike clients true d one h fit = h
failover_alike clients false d one h fit = absurd (let apart = lost_apart clients d one h in let both : true ≡ false = sym fit ∙ apart in cc)

-- ---- an event, and a schedule

by_alike : (most clients : ℕ) (standby : Bool) (w : EventWord) (d : Data) (one : Event) → event_by most true w d ≡ Ok one → fits clients standby one ≡ true → event_by clients standby w d ≡ Ok one
by_alike most clients standby word.Go d one h fit = go_alike most clients standby d one h fit
by_alike most clients standby word.Serve d one h fit = h
by_alike most clients standby word.Cut d one h fit = h
by_alike most clients standby word.Reap d one h fit = h
by_alike most clients standby word.Crash d one h fit = h
by_alike most clients standby word.Up d one h fit = h
by_alike most clients standby word.UpCrash d one h fit = h
by_alike most clients standby word.Tick d one h fit = h
by_alike most clients standby word.Outside d one h fit = h
by_alike most clients standby word.Ask d one h fit = h
by_alike most clients standby word.Drain d one h fit = h
by_alike most clients standby word.Failover d one h fit = failover_alike clients standby d one h fit

event_alike : (most clients : ℕ) (standby : Bool) (d : Data) (one : Event) → event_of most true d ≡ Ok one → fits clients standby one ≡ true → event_of clients standby d ≡ Ok one
unfolding event_of
event_alike most clients standby d one h fit =
    let a = after (head_of event_words d) (λ w. event_by most true w d) one h in
    gives_after (head_of event_words d) a.0 (λ w. event_by clients standby w d) one a.1 (by_alike most clients standby a.0 d one a.2 fit)

and_first : (a b : Bool) → a ≡ false → (a && b) ≡ false
and_first true b h = absurd (cc)
and_first false b h = refl

and_last : (a b : Bool) → b ≡ false → (a && (b && true)) ≡ false
and_last true true h = absurd (cc)
and_last true false h = refl
and_last false b h = refl

module _ {A : Type 0} (test : A → Bool) (f g : Data → Result A Fault) where
  -- what was read before is among what was read in the end
  among : (before : List A) (ds : Items) (xs : List A) → list_all test before ≡ false → each_after (λ _. f) before ds ≡ Ok xs → list_all test xs ≡ false
  among before ds xs apart h =
      each_keeps (λ (ys : List A). list_all test ys ≡ false) (λ _. f) (λ first d x some read. list_all-append test first (x ∷ []) ∙ and_first _ _ some) before ds xs apart h

  fits_one : (before : List A) (one : A) (ds : Items) (xs : List A) (b : Bool) → test one ≡ b → each_after (λ _. f) (before ++ one ∷ []) ds ≡ Ok xs → list_all test xs ≡ true → b ≡ true
  fits_one before one ds xs true is h fit = refl
  fits_one before one ds xs false is h fit = absurd (
      let apart = among (before ++ one ∷ []) ds xs (list_all-append test before (one ∷ []) ∙ and_last (list_all test before) (test one) is) h in
      let both : true ≡ false = sym fit ∙ apart in cc)

  each_alike : ((d : Data) (x : A) → f d ≡ Ok x → test x ≡ true → g d ≡ Ok x) → (before : List A) (ds : Items) (xs : List A) → each_after (λ _. f) before ds ≡ Ok xs → list_all test xs ≡ true → each_after (λ _. g) before ds ≡ Ok xs
  each_alike alike before no_items xs h fit = h
  each_alike alike before (item d ds) xs h fit =
      let a = after (within_item (length before) (f d)) (λ x. each_after (λ _. f) (before ++ x ∷ []) ds) xs h in
      let kept = fits_one before a.0 ds xs (test a.0) refl a.2 fit in
      let read = alike d a.0 (within_ok (decimal (length before)) (f d) a.0 a.1) kept in
      gives_after (within_item (length before) (g d)) a.0 (λ x. each_after (λ _. g) (before ++ x ∷ []) ds) xs (ap (within_item (length before)) read) (each_alike alike (before ++ a.0 ∷ []) ds xs a.2 fit)

schedule_alike : (most clients : ℕ) (standby : Bool) (d : Data) (events : List Event) → schedule_of most true d ≡ Ok events → list_all (fits clients standby) events ≡ true → schedule_of clients standby d ≡ Ok events
schedule_alike most clients standby d events h fit =
    let a = after (counted_of 0 100000 d) (each_of (event_of most true)) events h in
    gives_after (counted_of 0 100000 d) a.0 (each_of (event_of clients standby)) events a.1 (each_alike (fits clients standby) (event_of most true) (event_of clients standby) (event_alike most clients standby) [] a.0 events a.2 fit)

read_alike : (most clients : ℕ) (standby : Bool) (o : Option Data) (events : Option (List Event)) → option_map (schedule_of most true) o ≡ option_map given events → list_all (fits clients standby) (unwrap_or events []) ≡ true
    → option_map (schedule_of clients standby) o ≡ option_map given events
read_alike most clients standby None None e fit = refl
read_alike most clients standby None (Some es) e fit = absurd (cc)
read_alike most clients standby (Some d) None e fit = absurd (cc)
read_alike most clients standby (Some d) (Some es) e fit =
    let read : schedule_of most true d ≡ Ok es = cc in ap (λ r. Some r) (schedule_alike most clients standby d es read fit)

-- Events that were read as those of a document with more clients and a second store are those of
-- this document, where all of them fit it.
pub as_they_fit : (most clients : ℕ) (standby : Bool) (o : Option Data) (events : Option (List Event)) → option_map (schedule_of most true) o ≡ option_map given events → list_all (fits clients standby) (unwrap_or events []) ≡ true
    → read_or (codes "schedule") [] (schedule_of clients standby) o ≡ Ok (unwrap_or events [])
as_they_fit most clients standby o events e fit = may_be_there (codes "schedule") [] (schedule_of clients standby) o events (read_alike most clients standby o events e fit)
