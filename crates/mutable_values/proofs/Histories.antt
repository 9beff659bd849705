-- What a source gives anew over a list of calls, by one induction each.
use Rattle.std.proofs.Common.{◌≡◌, ℕ, ℤ, pos, ◌+ℤ◌, ◌+◌, Bool, true, false, cond, List, [], ◌∷◌, ◌++◌, length, if◌then◌else◌, refl, sym, ap, ◌∙◌, append_assoc}
use Rattle.std.proofs.lemmas.Slice.Eq.{bytes_eq-Decides}
use Rattle.std.specs.Prelude.{Option, Some, None, int_le}
use Rattle.std.specs.Option.{option_map}
use Rattle.std.specs.Str.{bytes_eq}
use Rattle.svc_values.specs.declared.draw.Draw.{Draw}
use Rattle.svc_values.specs.declared.draw.Draw.TheVariants as draw
use Rattle.svc_values.specs.declared.draw.DrawKind.{DrawKind}
use Rattle.svc_values.specs.declared.draw.DrawKind.TheVariants as kind
use Rattle.svc_values.specs.Draws.{is_there}
use Rattle.mutable_values.specs.declared.source.SeqState.{SeqState}
use Rattle.mutable_values.specs.meaning.Sources.{identifier}
use Rattle.mutable_values.specs.Sources.{Opening, DrawnFrom, changed, draw_from, draw_of, first_kept, names_of, new_draw, new_value, next_value, reserved_to, sequence_of}
use Rattle.mutable_values.specs.History.{Did, Drew, Reserved, after_one, all_anew, anew, counted, drawn_anew, identified, identifiers_of, identifier_of, opening_after, value_of, values_of}
use Rattle.mutable_values.specs.Laws.{CountsIdentifiers, CountsValues}
use Rattle.mutable_values.proofs.Places.{change_of, same_bytes}

-- what one call gave anew, and the opening after it
pub data Did1 (opening : Opening) (gave : List Draw) (after : Opening) : Type 0 where
  quiet : gave ≡ [] → after ≡ opening → Did1 opening gave after
  set_aside : (name : List ℕ) (upto : ℤ) → gave ≡ [] → after ≡ reserved_to opening name upto → Did1 opening gave after
  ticked : (now : ℕ) → gave ≡ draw.Clock now ∷ [] → after ≡ opening → Did1 opening gave after
  named : gave ≡ draw.Id (identifier opening.incarnation (opening.identifiers + 1)) ∷ [] → after ≡ record opening { identifiers = opening.identifiers + 1 } → Did1 opening gave after
  valued : (sequence : SeqState) → sequence_of opening.sequences sequence.name ≡ Some sequence → gave ≡ draw.Seq sequence.name sequence.next ∷ []
      → after ≡ record opening { sequences = changed next_value sequence.name opening.sequences } → Did1 opening gave after

abbrev Calls : Opening → Option Draw → Option DrawnFrom → Type 0
Calls opening kept told = Did1 opening (anew kept told) (opening_after opening told)

found_by : (one : SeqState) (rest : List SeqState) (name : List ℕ) (sequence : SeqState) (t : Bool) → bytes_eq one.name name ≡ t → (sequence_of rest name ≡ Some sequence → sequence.name ≡ name) → sequence_of (one ∷ rest) name ≡ Some sequence → sequence.name ≡ name
found_by one rest name sequence true e more found =
    let same : Some one ≡ Some sequence = ap (λ t. cond t (Some one) (sequence_of rest name)) (sym e) ∙ found in
    let is : one ≡ sequence = cc in
    sym (ap (λ (s : SeqState). s.name) is) ∙ (bytes_eq-Decides one.name name).0 e
found_by one rest name sequence false e more found = more (ap (λ t. cond t (Some one) (sequence_of rest name)) (sym e) ∙ found)

-- the sequence that is found has the name
pub found_name : (sequences : List SeqState) (name : List ℕ) (sequence : SeqState) → sequence_of sequences name ≡ Some sequence → sequence.name ≡ name
found_name [] name sequence found = absurd (let none : ◌≡◌ {A = Option SeqState} None (Some sequence) = found in cc)
found_name (one ∷ rest) name sequence found = found_by one rest name sequence (bytes_eq one.name name) refl (found_name rest name sequence) found

values_call : (opening : Opening) (kept : List Draw) (sequence : SeqState) → sequence_of opening.sequences sequence.name ≡ Some sequence → (t : Bool) → int_le sequence.next sequence.upto ≡ t → Calls opening None (Some (new_value opening kept sequence))
values_call opening kept sequence found true e = rw e (valued sequence found refl refl)
values_call opening kept sequence found false e = rw e (quiet refl refl)

sequence_call : (opening : Opening) (kept : List Draw) (name : List ℕ) (sequence : Option SeqState) → sequence_of opening.sequences name ≡ sequence → Calls opening None (option_map (new_value opening kept) sequence)
sequence_call opening kept name None e = quiet refl refl
sequence_call opening kept name (Some sequence) e =
    values_call opening kept sequence (ap (sequence_of opening.sequences) (found_name opening.sequences name sequence e) ∙ e) (int_le sequence.next sequence.upto) refl

new_call : (opening : Opening) (kept : List Draw) (asked : DrawKind) (now : ℕ) → Calls opening None (new_draw opening kept asked now)
new_call opening kept (kind.Seq name) now = sequence_call opening kept name (sequence_of opening.sequences name) refl
new_call opening kept kind.Clock now = ticked now refl refl
new_call opening kept kind.Id now = named refl refl

from_call : (opening : Opening) (kept : List Draw) (asked : DrawKind) (now : ℕ) (first : Option Draw) → Calls opening first (draw_from first opening kept asked now)
from_call opening kept asked now (Some one) = quiet refl refl
from_call opening kept asked now None = new_call opening kept asked now

no_call : (opening : Opening) (first : Option Draw) → Calls opening first None
no_call opening (Some one) = quiet refl refl
no_call opening None = quiet refl refl

there_call : (opening : Opening) (kept : List Draw) (asked : DrawKind) (now : ℕ) (t : Bool) → Calls opening (first_kept asked kept) (if t then draw_from (first_kept asked kept) opening kept asked now else None)
there_call opening kept asked now true = from_call opening kept asked now (first_kept asked kept)
there_call opening kept asked now false = no_call opening (first_kept asked kept)

pub one_call : (opening : Opening) (did : Did) → Did1 opening (drawn_anew opening did) (after_one opening did)
unfolding draw_of
one_call opening (Drew kept asked now) = there_call opening kept asked now (is_there (names_of opening.sequences) asked)
one_call opening (Reserved name upto) = set_aside name upto refl refl

-- where the next value of a sequence stands
abbrev pub next_of : List SeqState → List ℕ → Option ℤ
next_of sequences name = option_map (λ sequence. sequence.next) (sequence_of sequences name)

changed_by : (change : SeqState → SeqState) (other name : List ℕ) (one : SeqState) (rest : List SeqState) (same : (change_of change other one).name ≡ one.name) (t : Bool) → bytes_eq one.name name ≡ t
    → sequence_of (changed change other rest) name ≡ option_map (change_of change other) (sequence_of rest name)
    → sequence_of (changed change other (one ∷ rest)) name ≡ option_map (change_of change other) (sequence_of (one ∷ rest) name)
changed_by change other name one rest same true e more =
    ap (λ n. if bytes_eq n name then Some (change_of change other one) else sequence_of (changed change other rest) name) same
    ∙ rw e refl
changed_by change other name one rest same false e more =
    ap (λ n. if bytes_eq n name then Some (change_of change other one) else sequence_of (changed change other rest) name) same
    ∙ rw e more

name_by : (change : SeqState → SeqState) → ((sequence : SeqState) → (change sequence).name ≡ sequence.name) → (sequence : SeqState) (t : Bool) → (if t then change sequence else sequence).name ≡ sequence.name
name_by change keeps sequence true = keeps sequence
name_by change keeps sequence false = refl

-- the sequence of a name after a change is the one before, changed
pub sequence_changed : (change : SeqState → SeqState) → ((sequence : SeqState) → (change sequence).name ≡ sequence.name) → (other name : List ℕ) (sequences : List SeqState)
    → sequence_of (changed change other sequences) name ≡ option_map (change_of change other) (sequence_of sequences name)
sequence_changed change keeps other name [] = refl
sequence_changed change keeps other name (one ∷ rest) =
    changed_by change other name one rest (name_by change keeps one (bytes_eq one.name other)) (bytes_eq one.name name) refl (sequence_changed change keeps other name rest)

pub values_of-append : (name : List ℕ) (a b : List Draw) → values_of name (a ++ b) ≡ values_of name a ++ values_of name b
values_of-append name [] b = refl
values_of-append name (one ∷ a) b = ap (λ l. value_of name one ++ l) (values_of-append name a b) ∙ sym (append_assoc (value_of name one) (values_of name a) (values_of name b))

pub identifiers_of-append : (a b : List Draw) → identifiers_of (a ++ b) ≡ identifiers_of a ++ identifiers_of b
identifiers_of-append [] b = refl
identifiers_of-append (one ∷ a) b = ap (λ l. identifier_of one ++ l) (identifiers_of-append a b) ∙ sym (append_assoc (identifier_of one) (identifiers_of a) (identifiers_of b))

-- the next value of a sequence stays, or is given and goes on by one
pub data Counts (name : List ℕ) (next : ℤ) (gave : List Draw) (after : List SeqState) : Type 0 where
  stays : values_of name gave ≡ [] → next_of after name ≡ Some next → Counts name next gave after
  goes_on : values_of name gave ≡ next ∷ [] → next_of after name ≡ Some (next +ℤ pos 1) → Counts name next gave after

-- a change that leaves the next value leaves it everywhere
next_by : (upto : ℤ) (sequence : SeqState) (t : Bool) → (if t then record sequence { upto = upto } else sequence).next ≡ sequence.next
next_by upto sequence true = refl
next_by upto sequence false = refl

next_through : (other name : List ℕ) (upto : ℤ) (sequences : List SeqState) (sequence : Option SeqState) → sequence_of sequences name ≡ sequence → next_of (changed (λ s. record s { upto = upto }) other sequences) name ≡ option_map (λ s. s.next) sequence
next_through other name upto sequences None e =
    ap (option_map (λ s. s.next)) (sequence_changed (λ s. record s { upto = upto }) (λ s. refl) other name sequences ∙ ap (option_map (change_of (λ s. record s { upto = upto }) other)) e)
next_through other name upto sequences (Some sequence) e =
    ap (option_map (λ s. s.next)) (sequence_changed (λ s. record s { upto = upto }) (λ s. refl) other name sequences ∙ ap (option_map (change_of (λ s. record s { upto = upto }) other)) e)
    ∙ ap Some (next_by upto sequence (bytes_eq sequence.name other))

-- a value is of this sequence, or of another
value_step : (name : List ℕ) (next : ℤ) (sequences : List SeqState) (sequence own : SeqState) → sequence_of sequences sequence.name ≡ Some sequence → sequence_of sequences name ≡ Some own → own.next ≡ next
    → (t : Bool) → bytes_eq sequence.name name ≡ t → Counts name next (draw.Seq sequence.name sequence.next ∷ []) (changed next_value sequence.name sequences)
value_step name next sequences sequence own found stands at true e =
    let names : sequence.name ≡ name = (bytes_eq-Decides sequence.name name).0 e in
    let both : Some sequence ≡ Some own = sym found ∙ ap (sequence_of sequences) names ∙ stands in
    let same : sequence ≡ own = cc in
    let nexts : sequence.next ≡ next = ap (λ (s : SeqState). s.next) same ∙ at in
    let own_name : bytes_eq own.name sequence.name ≡ true = ap (λ (s : SeqState). bytes_eq s.name sequence.name) (sym same) ∙ same_bytes sequence.name in
    goes_on
    (ap (λ t. (if t then sequence.next ∷ [] else []) ++ []) e ∙ ap (λ n. n ∷ []) nexts)
    (ap (option_map (λ s. s.next)) (sequence_changed next_value (λ s. refl) sequence.name name sequences ∙ ap (option_map (change_of next_value sequence.name)) stands)
    ∙ ap (λ t. Some (if t then next_value own else own).next) own_name ∙ ap (λ n. Some (n +ℤ pos 1)) at)
value_step name next sequences sequence own found stands at false e =
    let names = found_name sequences name own stands in
    let other : bytes_eq own.name sequence.name ≡ false = differ (bytes_eq own.name sequence.name) refl in
    stays
    (ap (λ t. (if t then sequence.next ∷ [] else []) ++ []) e)
    (ap (option_map (λ s. s.next)) (sequence_changed next_value (λ s. refl) sequence.name name sequences ∙ ap (option_map (change_of next_value sequence.name)) stands)
    ∙ ap (λ t. Some (if t then next_value own else own).next) other ∙ ap Some at)
  where
    differ : (t : Bool) → bytes_eq own.name sequence.name ≡ t → t ≡ false
    differ false h = refl
    differ true h =
        let back : bytes_eq sequence.name name ≡ true = (bytes_eq-Decides sequence.name name).1 (sym ((bytes_eq-Decides own.name sequence.name).0 h) ∙ found_name sequences name own stands) in
        absurd (let clash : ◌≡◌ {A = Bool} true false = sym back ∙ e in cc)

pub next_some : (sequences : List SeqState) (name : List ℕ) (next : ℤ) (own : Option SeqState) → sequence_of sequences name ≡ own → next_of sequences name ≡ Some next → (s : SeqState) × (sequence_of sequences name ≡ Some s) × (s.next ≡ next)
next_some sequences name next None e at = absurd (let none : ◌≡◌ {A = Option ℤ} None (Some next) = ap (option_map (λ s. s.next)) (sym e) ∙ at in cc)
next_some sequences name next (Some own) e at = let same : Some own.next ≡ Some next = ap (option_map (λ s. s.next)) (sym e) ∙ at in (own, e, (cc))

pub counts_by : (opening : Opening) (name : List ℕ) (next : ℤ) → next_of opening.sequences name ≡ Some next → (gave : List Draw) (after : Opening) → Did1 opening gave after → Counts name next gave after.sequences
counts_by opening name next at gave after (quiet gives is) = stays (ap (values_of name) gives) (ap (λ (o : Opening). next_of o.sequences name) is ∙ at)
counts_by opening name next at gave after (set_aside other upto gives is) =
    stays (ap (values_of name) gives) (ap (λ (o : Opening). next_of o.sequences name) is ∙ next_through other name upto opening.sequences (sequence_of opening.sequences name) refl ∙ at)
counts_by opening name next at gave after (ticked now gives is) = stays (ap (values_of name) gives) (ap (λ (o : Opening). next_of o.sequences name) is ∙ at)
counts_by opening name next at gave after (named gives is) = stays (ap (values_of name) gives) (ap (λ (o : Opening). next_of o.sequences name) is ∙ at)
counts_by opening name next at gave after (valued sequence found gives is) =
    let own = next_some opening.sequences name next (sequence_of opening.sequences name) refl at in
    let step = value_step name next opening.sequences sequence own.0 found own.1 own.2 (bytes_eq sequence.name name) refl in
    carry step
  where
    carry : Counts name next (draw.Seq sequence.name sequence.next ∷ []) (changed next_value sequence.name opening.sequences) → Counts name next gave after.sequences
    carry (stays none stands) = stays (ap (values_of name) gives ∙ none) (ap (λ (o : Opening). next_of o.sequences name) is ∙ stands)
    carry (goes_on one stands) = goes_on (ap (values_of name) gives ∙ one) (ap (λ (o : Opening). next_of o.sequences name) is ∙ stands)

-- a list of one more value, and one of none more
join_stays : (next : ℤ) (now later : List ℤ) → now ≡ [] → later ≡ counted next (length later) → now ++ later ≡ counted next (length (now ++ later))
join_stays next now later none is = rw none is

join_goes_on : (next : ℤ) (now later : List ℤ) → now ≡ next ∷ [] → later ≡ counted (next +ℤ pos 1) (length later) → now ++ later ≡ counted next (length (now ++ later))
join_goes_on next now later one is = rw one (ap (λ l. next ∷ l) is)

counts_more : (name : List ℕ) (next : ℤ) (now later : List Draw) (after : List SeqState) → Counts name next now after
    → ((from : ℤ) → next_of after name ≡ Some from → values_of name later ≡ counted from (length (values_of name later)))
    → values_of name (now ++ later) ≡ counted next (length (values_of name (now ++ later)))
counts_more name next now later after (stays none stands) counts = rw (values_of-append name now later) (join_stays next _ _ none (counts next stands))
counts_more name next now later after (goes_on one stands) counts = rw (values_of-append name now later) (join_goes_on next _ _ one (counts (next +ℤ pos 1) stands))

counts_from : (history : List Did) (opening : Opening) (name : List ℕ) (next : ℤ) → next_of opening.sequences name ≡ Some next
    → values_of name (all_anew opening history) ≡ counted next (length (values_of name (all_anew opening history)))
counts_from [] opening name next at = refl
counts_from (did ∷ more) opening name next at =
    counts_more name next (drawn_anew opening did) (all_anew (after_one opening did) more) (after_one opening did).sequences
    (counts_by opening name next at (drawn_anew opening did) (after_one opening did) (one_call opening did))
    (λ from stands. counts_from more (after_one opening did) name from stands)

pub counts_values : CountsValues
counts_values opening history sequence found = counts_from history opening sequence.name sequence.next (ap (option_map (λ s. s.next)) found)

-- the identifiers stay, or one is given and the counter goes on by one
pub data Names (opening : Opening) (gave : List Draw) (after : Opening) : Type 0 where
  no_name : identifiers_of gave ≡ [] → after.incarnation ≡ opening.incarnation → after.identifiers ≡ opening.identifiers → Names opening gave after
  one_name : identifiers_of gave ≡ identifier opening.incarnation (opening.identifiers + 1) ∷ [] → after.incarnation ≡ opening.incarnation → after.identifiers ≡ opening.identifiers + 1 → Names opening gave after

pub names_by : (opening : Opening) (gave : List Draw) (after : Opening) → Did1 opening gave after → Names opening gave after
names_by opening gave after (quiet gives is) = no_name (ap identifiers_of gives) (ap (λ (o : Opening). o.incarnation) is) (ap (λ (o : Opening). o.identifiers) is)
names_by opening gave after (set_aside other upto gives is) = no_name (ap identifiers_of gives) (ap (λ (o : Opening). o.incarnation) is) (ap (λ (o : Opening). o.identifiers) is)
names_by opening gave after (ticked now gives is) = no_name (ap identifiers_of gives) (ap (λ (o : Opening). o.incarnation) is) (ap (λ (o : Opening). o.identifiers) is)
names_by opening gave after (named gives is) = one_name (ap identifiers_of gives) (ap (λ (o : Opening). o.incarnation) is) (ap (λ (o : Opening). o.identifiers) is)
names_by opening gave after (valued sequence found gives is) = no_name (ap identifiers_of gives) (ap (λ (o : Opening). o.incarnation) is) (ap (λ (o : Opening). o.identifiers) is)

join_no_name : (incarnation before : ℕ) (now later : List (List ℕ)) → now ≡ [] → later ≡ identified incarnation before (length later) → now ++ later ≡ identified incarnation before (length (now ++ later))
join_no_name incarnation before now later none is = rw none is

join_one_name : (incarnation before : ℕ) (now later : List (List ℕ)) → now ≡ identifier incarnation (before + 1) ∷ [] → later ≡ identified incarnation (before + 1) (length later)
    → now ++ later ≡ identified incarnation before (length (now ++ later))
join_one_name incarnation before now later one is = rw one (ap (λ l. identifier incarnation (before + 1) ∷ l) is)

names_more : (opening : Opening) (now later : List Draw) (after : Opening) → Names opening now after
    → ((incarnation before : ℕ) → after.incarnation ≡ incarnation → after.identifiers ≡ before → identifiers_of later ≡ identified incarnation before (length (identifiers_of later)))
    → identifiers_of (now ++ later) ≡ identified opening.incarnation opening.identifiers (length (identifiers_of (now ++ later)))
names_more opening now later after (no_name none same stands) names =
    rw (identifiers_of-append now later) (join_no_name opening.incarnation opening.identifiers _ _ none (names opening.incarnation opening.identifiers same stands))
names_more opening now later after (one_name one same stands) names =
    rw (identifiers_of-append now later) (join_one_name opening.incarnation opening.identifiers _ _ one (names opening.incarnation (opening.identifiers + 1) same stands))

names_from : (history : List Did) (opening : Opening) (incarnation before : ℕ) → opening.incarnation ≡ incarnation → opening.identifiers ≡ before
    → identifiers_of (all_anew opening history) ≡ identified incarnation before (length (identifiers_of (all_anew opening history)))
names_from [] opening incarnation before own at = refl
names_from (did ∷ more) opening incarnation before own at =
    rw (← own, ← at) (names_more opening (drawn_anew opening did) (all_anew (after_one opening did) more) (after_one opening did)
    (names_by opening (drawn_anew opening did) (after_one opening did) (one_call opening did))
    (λ incarnation before same stands. names_from more (after_one opening did) incarnation before same stands))

pub counts_identifiers : CountsIdentifiers
counts_identifiers opening history = names_from history opening opening.incarnation opening.identifiers refl refl
