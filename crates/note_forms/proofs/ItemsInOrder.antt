-- Items that were read one by one are read so each behind the one before.
use Rattle.std.proofs.Common.{◌≡◌, List, [], ◌∷◌, ◌++◌, length, true, nat_lt, Option, Some, None, Result, Ok, decimal, append_assoc, sym, ap, ◌∙◌}
use Rattle.std.specs.List.{last_or}
use Rattle.std.specs.Option.{option_map_or}
use Rattle.std.proofs.lemmas.List.{append-nil}
use Rattle.serde_json.specs.Data.{Data, Items, no_items, item}
use Rattle.json_form.specs.meaning.Faults.{Fault, ◌>>=◌, within_item}
use Rattle.json_form.specs.meaning.Values.{items_of}
use Rattle.json_form.specs.meaning.Arrays.{each_after, each_of, list_of}
use Rattle.outage_schedule.specs.declared.item.Served.{Served}
use Rattle.outage_schedule.specs.declared.note.Note.{Note}
use Rattle.json_form.proofs.Offered.{after, within_ok, each_keeps, first_true, second_true}
use Rattle.note_forms.specs.meaning.Items.{last_event, one_served, served_in}
use Rattle.note_forms.specs.ItemsAhead.{events_rise}
use Rattle.note_forms.proofs.ReadItems.{read_behind}

-- an item is behind the one before
rises_at : (o : Option Served) (before : List Served) (one : Served) (more : List Served) → events_rise (option_map_or (λ s. s.event) o 0) ((before ++ one ∷ []) ++ more) ≡ true
    → nat_lt (option_map_or (λ s. s.event) (last_or o before) 0) one.event ≡ true
rises_at o [] one more h = first_true _ _ h
rises_at o (first ∷ before) one more h = rises_at (Some first) before one more (second_true _ _ h)

-- what was read before stands before the others
keeps_front : {A : Type 0} (read : List A → Data → Result A Fault) (before : List A) (ds : Items) (xs : List A) → each_after read before ds ≡ Ok xs → (more : List A) × (xs ≡ before ++ more)
keeps_front read before ds xs h =
    each_keeps (λ (ys : List _). (more : List _) × (ys ≡ before ++ more)) read
    (λ ys d x front one. (front.0 ++ x ∷ [], ap (λ (zs : List _). zs ++ x ∷ []) front.1 ∙ append_assoc before front.0 (x ∷ []))) before ds xs ([], sym (append-nil before)) h

-- items that were read one by one, whose events rise, are read so each behind the one before
each_behind : (notes : List Note) (before : List Served) (ds : Items) (xs : List Served) → events_rise 0 xs ≡ true → each_after (λ _. one_served notes 0) before ds ≡ Ok xs
    → each_after (λ ys. one_served notes (last_event ys)) before ds ≡ Ok xs
each_behind notes before no_items xs rise h = h
each_behind notes before (item d ds) xs rise h =
    let a = after (within_item (length before) (one_served notes 0 d)) (λ x. each_after (λ _. one_served notes 0) (before ++ x ∷ []) ds) xs h in
    let front = keeps_front (λ _. one_served notes 0) (before ++ a.0 ∷ []) ds xs a.2 in
    let behind = rises_at None before a.0 front.0 (ap (events_rise 0) (sym front.1) ∙ rise) in
    let one = read_behind notes 0 (last_event before) d a.0 behind (within_ok (decimal (length before)) (one_served notes 0 d) a.0 a.1) in
    ap (λ (r : Result Served Fault). within_item (length before) r >>= λ x. each_after (λ ys. one_served notes (last_event ys)) (before ++ x ∷ []) ds) one
    ∙ each_behind notes (before ++ a.0 ∷ []) ds xs rise a.2

pub items_alike : (notes : List Note) (d : Data) (xs : List Served) → events_rise 0 xs ≡ true → list_of (each_of (one_served notes 0)) d ≡ Ok xs → served_in notes d ≡ Ok xs
items_alike notes d xs rise h =
    let a = after (items_of d) (each_of (one_served notes 0)) xs h in
    ap (λ (r : Result Items Fault). r >>= each_after (λ ys. one_served notes (last_event ys)) []) a.1 ∙ each_behind notes [] a.0 xs rise a.2
