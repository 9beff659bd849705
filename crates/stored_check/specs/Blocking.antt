-- Blocks on the way, as code keeps them.
use Rattle.std.specs.Prelude.{◌≡◌, Bool, false, is_none, List, [], ◌∷◌, map}
use Rattle.svc_values.specs.declared.entry.Ltxid.{Ltxid}
use Rattle.svc_values.specs.meaning.Identifiers.{same_ltxid}
use Rattle.ltxid_book.specs.meaning.Journal.{is_blocked}
use Rattle.run_clauses.specs.meaning.Blocks.{Answered, Blocks}
use Rattle.stored_check.specs.declared.blocks.AnsweredAt.{AnsweredAt}
use Rattle.stored_check.specs.declared.blocks.Blocking.{Blocking}

abbrev pub answered_as : AnsweredAt → Answered
answered_as one = record { ltxid = one.ltxid; may_be = one.may_be }

abbrev pub all_answered : List AnsweredAt → List Answered
all_answered all = map answered_as all

-- the identifier is the first of these
abbrev pub is_first : List Ltxid → Ltxid → Bool
is_first [] x = false
is_first (next ∷ coming) x = same_ltxid next x

-- the same identifiers are blocked, the same come next, and it fits alike
pub record IsAt (blocking : Blocking) (blocks : Blocks) : Type 0 where
  pub done : (x : Ltxid) → is_blocked blocking.done x ≡ is_blocked blocks.done x
  pub coming : blocking.coming.now ≡ blocks.coming
  pub fits : is_none blocking.wrong ≡ blocks.fits
