-- The identifiers that a run blocked, and what was answered of them.
use Rattle.std.specs.Prelude.{◌&&◌, Bool, true, false, nat_eq, cond, List, [], ◌∷◌, fold, length, flat_map}
use Rattle.std.specs.List.{list_all, list_any}
use Rattle.svc_values.specs.declared.entry.Ltxid.{Ltxid}
use Rattle.svc_values.specs.meaning.Identifiers.{same_ltxid}
use Rattle.ltxid_book.specs.meaning.Journal.{is_blocked}
use Rattle.outage_schedule.specs.declared.item.Item.{Item}
use Rattle.outage_schedule.specs.declared.item.Item.TheVariants as item
use Rattle.run_clauses.specs.meaning.Moments.{HappenedAt, Happened, ServedItem, RanOutside, Asked}
use Rattle.run_clauses.specs.meaning.Outcomes.{is_uncommitted}

-- An identifier that was answered uncommitted, or that a crashed item carries: then it may have
-- been blocked or not.
pub record Answered : Type 0 where
  pub ltxid : Ltxid
  pub may_be : Bool

abbrev pub answered_if : Bool → Ltxid → List Answered
answered_if uncommitted x = cond uncommitted (record { ltxid = x; may_be = false } ∷ []) []

abbrev pub answered_by_item : Item → List Answered
answered_by_item (item.Outcome x result) = answered_if (is_uncommitted result) x
answered_by_item (item.CrashedOutcome x) = record { ltxid = x; may_be = true } ∷ []
answered_by_item _ = []

abbrev pub answered_at : Happened → List Answered
answered_at (ServedItem session served) = answered_by_item served
answered_at (Asked x result) = answered_if (is_uncommitted result) x
answered_at (RanOutside ran) = []

-- in the order of events
abbrev pub answered_in : List HappenedAt → List Answered
answered_in moments = flat_map (λ moment. answered_at moment.happened) moments

-- Each identifier of `blocked` was answered uncommitted to an `outcome` item or `ask` note, or a
-- `crashed` item that carries it stands in `served`.
abbrev pub blocks_answered : List Answered → List Ltxid → Bool
blocks_answered answered blocked = list_all (λ x. list_any (λ one. same_ltxid one.ltxid x) answered)
    blocked

-- The blocks of a run on the way over the answers: the identifiers that are blocked, and those of
-- `blocked` that come next. `fits` is false once an identifier was answered uncommitted that is
-- neither blocked nor the next.
pub record Blocks : Type 0 where
  pub done : List Ltxid
  pub coming : List Ltxid
  pub fits : Bool

-- the identifier is blocked now, where it is the next one; and else it was one that may have been
-- blocked and was not
abbrev pub block_next : Answered → Blocks → List Ltxid → Blocks
block_next one blocks [] = record blocks { fits = blocks.fits && one.may_be }
block_next one blocks (next ∷ coming) =
    cond (same_ltxid next one.ltxid) (record blocks { done = next ∷ blocks.done; coming = coming })
    (record blocks { fits = blocks.fits && one.may_be })

abbrev pub after_answer : Blocks → Answered → Blocks
after_answer blocks one = cond (is_blocked blocks.done one.ltxid) blocks
    (block_next one blocks blocks.coming)

abbrev pub is_done : Blocks → Bool
is_done blocks = blocks.fits && nat_eq (length blocks.coming) 0

-- An identifier stands in `blocked` at most once, in the order in which the blocks were stored.
-- (`before` are those of the image.)
abbrev pub blocks_in_order : List Ltxid → List Answered → List Ltxid → Bool
blocks_in_order before answered blocked = is_done (fold after_answer (record {
  done = before;
  coming = blocked;
  fits = true;
}) answered)
