-- The sequences of a run's opening are those of its base, with their names and whether they are
-- kept.
use Rattle.std.specs.Prelude.{◌≡◌, ◌+ℤ◌, ◌&&◌, ◌||◌, ℕ, ℤ, Bool, true, false, int_le, List, [], ◌∷◌, map, Option, Some, None, if◌then◌else◌}
use Rattle.std.specs.Option.{option_map}
use Rattle.std.specs.Str.{bytes_eq}
use Rattle.std.proofs.Common.{refl, sym, ◌∙◌, ap}
use Rattle.svc_values.specs.declared.draw.Draw.{Draw}
use Rattle.svc_values.specs.declared.draw.Draw.TheVariants as draw
use Rattle.svc_values.specs.declared.draw.DrawKind.{DrawKind}
use Rattle.svc_values.specs.declared.draw.DrawKind.TheVariants as kind
use Rattle.svc_values.specs.Draws.{is_there}
use Rattle.mutable_values.specs.declared.source.SeqState.{SeqState}
use Rattle.mutable_values.specs.declared.source.Drawn.TheVariants as drawn
use Rattle.mutable_values.specs.Sources.{Opening, DrawnFrom as Drew, draw_of, draw_from, new_draw, new_value, first_kept, sequence_of, names_of, changed, next_value, reservation_size, reserved_to}
use Rattle.mutable_values.specs.meaning.Granting.{is_kept_sequence}
use Rattle.server_model.specs.meaning.Base.{Base}
use Rattle.server_model.specs.meaning.Core.{sequence_at}
use Rattle.server_model.specs.Core.{reopened}
use Rattle.stmt_meaning.specs.Asked.{kind_drawn}
use Rattle.server_model.specs.Draws.{Draws, Gives, Reserves, DrawsAll, HaltsAt, BlockLost, BlockStands}

-- what never changes of a sequence
abbrev pub tag_of : SeqState → List ℕ × Bool
tag_of sequence = (sequence.name, sequence.keep)

abbrev pub tags : Opening → List (List ℕ × Bool)
tags opening = map tag_of opening.sequences

-- ---- changes

changed-tags : (change : SeqState → SeqState) → ((s : SeqState) → tag_of (change s) ≡ tag_of s) → (name : List ℕ) (sequences : List SeqState) → map tag_of (changed change name sequences) ≡ map tag_of sequences
changed-tags change same name [] = refl
changed-tags change same name (sequence ∷ sequences) = λ i. by (bytes_eq sequence.name name) i ∷ changed-tags change same name sequences i
  where
    by : (b : Bool) → tag_of (if b then change sequence else sequence) ≡ tag_of sequence
    by true = same sequence
    by false = refl

pub reopened-tags : (sequences : List SeqState) → map tag_of (map reopened sequences) ≡ map tag_of sequences
reopened-tags [] = refl
reopened-tags (sequence ∷ sequences) = ap (λ l. tag_of sequence ∷ l) (reopened-tags sequences)

if-some : {A : Type 0} (b : Bool) (x : Option A) (y : A) → (if b then x else None) ≡ Some y → x ≡ Some y
if-some true x y is = is
if-some false x y is = cc

some_is : {A : Type 0} (a b : A) → Some a ≡ Some b → a ≡ b
some_is a b same = cc

new_value-tags : (opening : Opening) (kept : List Draw) (sequence : SeqState) → tags (new_value opening kept sequence).opening ≡ tags opening
new_value-tags opening kept sequence = by (int_le sequence.next sequence.upto)
  where
    given : Drew
    given = record { answer = drawn.Value (draw.Seq sequence.name sequence.next); opening = record opening { sequences = changed next_value sequence.name opening.sequences }; kept = kept }

    wanted : Drew
    wanted = record { answer = drawn.Reserve sequence.name (sequence.upto +ℤ reservation_size); opening = opening; kept = kept }

    by : (b : Bool) → tags (if b then given else wanted).opening ≡ tags opening
    by true = changed-tags next_value (λ s. refl) sequence.name opening.sequences
    by false = refl

sequence-tags : (opening : Opening) (kept : List Draw) (found : Option SeqState) (told : Drew) → option_map (new_value opening kept) found ≡ Some told → tags told.opening ≡ tags opening
sequence-tags opening kept None told is = cc
sequence-tags opening kept (Some sequence) told is = sym (ap (λ (t : Drew). tags t.opening) (some_is (new_value opening kept sequence) told is)) ∙ new_value-tags opening kept sequence

new-tags : (opening : Opening) (kept : List Draw) (asked : DrawKind) (now : ℕ) (told : Drew) → new_draw opening kept asked now ≡ Some told → tags told.opening ≡ tags opening
new-tags opening kept (kind.Seq name) now told is = sequence-tags opening kept (sequence_of opening.sequences name) told is
new-tags opening kept kind.Clock now told is = sym (ap (λ (t : Drew). tags t.opening) (some_is _ told is))
new-tags opening kept kind.Id now told is = sym (ap (λ (t : Drew). tags t.opening) (some_is _ told is))

from-tags : (first : Option Draw) (opening : Opening) (kept : List Draw) (asked : DrawKind) (now : ℕ) (told : Drew) → draw_from first opening kept asked now ≡ Some told → tags told.opening ≡ tags opening
from-tags (Some one) opening kept asked now told is = sym (ap (λ (t : Drew). tags t.opening) (some_is _ told is))
from-tags None opening kept asked now told is = new-tags opening kept asked now told is

draw-tags : (opening : Opening) (kept : List Draw) (asked : DrawKind) (now : ℕ) (told : Drew) → draw_of opening kept asked now ≡ Some told → tags told.opening ≡ tags opening
unfolding draw_of
draw-tags opening kept asked now told is = from-tags (first_kept asked kept) opening kept asked now told (if-some (is_there (names_of opening.sequences) asked) _ told is)

reserved-tags : (opening : Opening) (name : List ℕ) (upto : ℤ) → tags (reserved_to opening name upto) ≡ tags opening
reserved-tags opening name upto = changed-tags (λ sequence. record sequence { upto = upto }) (λ s. refl) name opening.sequences

one-tags : (kept : List Draw) (asked : DrawKind) (now : ℕ) (before : Opening) (given : Draw) (after : Opening) (left : List Draw) → Draws kept asked now before given after left → tags after ≡ tags before
one-tags kept asked now _ _ _ _ (Gives before after given left room is) = draw-tags before kept asked now _ is
one-tags kept asked now _ _ _ _ (Reserves before between after name upto same given left room wants is) =
    draw-tags (reserved_to between name upto) kept asked now _ is ∙ reserved-tags between name upto ∙ draw-tags before kept asked now _ wants

-- the draws of a call leave them,
pub all-tags : (now : ℕ) (draws : List Draw) (before : Opening) (kept : List Draw) (after : Opening) (left : List Draw) → DrawsAll now before kept draws after left → tags after ≡ tags before
all-tags now [] before kept after left drew = ap tags drew.0
all-tags now (given ∷ more) before kept after left drew = all-tags now more drew.0 drew.1 after left drew.2.1 ∙ one-tags kept (kind_drawn given) now before given drew.0 drew.1 drew.2.0

-- and so does a stop in them
pub halt-tags : (now : ℕ) (kept : List Draw) (asked : DrawKind) (before after : Opening) → HaltsAt now kept asked before after → tags after ≡ tags before
halt-tags now kept asked before _ (BlockLost name upto is) = refl
halt-tags now kept asked before _ (BlockStands name upto is) = reserved-tags before name upto

-- ---- what is kept

kept-in : List (List ℕ × Bool) → List ℕ → Bool
kept-in [] name = false
kept-in (tag ∷ more) name = (bytes_eq tag.0 name && tag.1) || kept-in more name

kept-tags : (sequences : List SeqState) (name : List ℕ) → is_kept_sequence sequences name ≡ kept-in (map tag_of sequences) name
unfolding kept-in
kept-tags [] name = refl
kept-tags (sequence ∷ sequences) name = ap (λ b. (bytes_eq sequence.name name && sequence.keep) || b) (kept-tags sequences name)

-- An opening with the tags of the base keeps what the base keeps.
pub tags-kept : (base : Base) (opening : Opening) → tags opening ≡ map tag_of (map sequence_at base.sequences) → (name : List ℕ) → is_kept_sequence (map sequence_at base.sequences) name ≡ is_kept_sequence opening.sequences name
tags-kept base opening same name = kept-tags (map sequence_at base.sequences) name ∙ sym (ap (λ t. kept-in t name) same) ∙ sym (kept-tags opening.sequences name)
