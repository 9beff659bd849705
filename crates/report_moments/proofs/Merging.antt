-- Items and notes in the order of events.
use Rattle.std.proofs.Common.{◌≡◌, ℕ, ◌+◌, List, [], ◌∷◌, ◌++◌, true, false, append_assoc, ap, ◌∙◌}
use Rattle.std.specs.Prelude.{nat_lt, if◌then◌else◌}
use Rattle.std.specs.Prelude.{Option}
use Rattle.std.specs.Option.{option_to_list}
use Rattle.std.proofs.lemmas.List.{map-append}
use Rattle.outage_schedule.specs.declared.note.Note.{Note}
use Rattle.outage_schedule.specs.declared.item.Served.{Served}
use Rattle.run_clauses.specs.meaning.Moments.{HappenedAt, moment_of_note, moments_of_notes, moment_of_item, before_event, from_event, in_order}
use Rattle.report_moments.specs.declared.moments.Moment.{Moment}
use Rattle.report_moments.specs.Views.{moment_as, moments_as}

pub before_on : (event : ℕ) (moment : HappenedAt) (moments : List HappenedAt) → nat_lt moment.event event ≡ true → before_event event (moment ∷ moments) ≡ moment ∷ before_event event moments
before_on event moment moments is = ap (λ b. if b then moment ∷ before_event event moments else []) is

pub from_on : (event : ℕ) (moment : HappenedAt) (moments : List HappenedAt) → nat_lt moment.event event ≡ true → from_event event (moment ∷ moments) ≡ from_event event moments
from_on event moment moments is = ap (λ b. if b then from_event event moments else moment ∷ moments) is

pub before_end : (event : ℕ) (moment : HappenedAt) (moments : List HappenedAt) → nat_lt moment.event event ≡ false → before_event event (moment ∷ moments) ≡ []
before_end event moment moments is = ap (λ b. if b then moment ∷ before_event event moments else []) is

pub from_end : (event : ℕ) (moment : HappenedAt) (moments : List HappenedAt) → nat_lt moment.event event ≡ false → from_event event (moment ∷ moments) ≡ moment ∷ moments
from_end event moment moments is = ap (λ b. if b then from_event event moments else moment ∷ moments) is

-- one item more, with the notes before it
pub order_on : (front all : List HappenedAt) (one : Served) (items : List Served) (notes rest : List HappenedAt)
    → all ≡ (front ++ before_event one.event notes) ++ moment_of_item one ∷ [] → rest ≡ from_event one.event notes → all ++ in_order items rest ≡ front ++ in_order (one ∷ items) notes
order_on front all one items notes rest is left =
    ap (λ l. l ++ in_order items rest) is
    ∙ append_assoc (front ++ before_event one.event notes) (moment_of_item one ∷ []) (in_order items rest)
    ∙ append_assoc front (before_event one.event notes) (moment_of_item one ∷ in_order items rest)
    ∙ ap (λ l. front ++ (before_event one.event notes ++ moment_of_item one ∷ in_order items l)) left

-- one note more
pub notes_on : (all : List Moment) (told : Option Moment) (event : ℕ) (note : Note) (notes : List Note)
    → moments_as (option_to_list told) ≡ moment_of_note event note → moments_as (all ++ option_to_list told) ++ moments_of_notes (event + 1) notes ≡ moments_as all ++ moments_of_notes event (note ∷ notes)
notes_on all told event note notes is =
    ap (λ (l : List HappenedAt). l ++ moments_of_notes (event + 1) notes) (map-append moment_as all (option_to_list told))
    ∙ append_assoc (moments_as all) (moments_as (option_to_list told)) (moments_of_notes (event + 1) notes)
    ∙ ap (λ (l : List HappenedAt). moments_as all ++ (l ++ moments_of_notes (event + 1) notes)) is

-- the notes before an item, and the item
pub put_on : (all before : List Moment) (moment : Moment) (one : Served) (notes : List HappenedAt) → moments_as before ≡ before_event one.event notes → moment_as moment ≡ moment_of_item one
    → moments_as ((all ++ before) ++ moment ∷ []) ≡ (moments_as all ++ before_event one.event notes) ++ moment_of_item one ∷ []
put_on all before moment one notes is at =
    map-append moment_as (all ++ before) (moment ∷ [])
    ∙ ap (λ (l : List HappenedAt). l ++ moment_as moment ∷ []) (map-append moment_as all before)
    ∙ ap (λ (l : List HappenedAt). (moments_as all ++ l) ++ moment_as moment ∷ []) is
    ∙ ap (λ (m : HappenedAt). (moments_as all ++ before_event one.event notes) ++ m ∷ []) at
