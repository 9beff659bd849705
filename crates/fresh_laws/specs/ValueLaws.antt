-- To whom a run's values are given: each that stands once alone is given to one call of one
-- request, and none of these is drawn outside.
use Rattle.std.specs.Prelude.{Bool, IsTrue, List, drop}
use Rattle.outage_schedule.specs.declared.document.Document.{Document}
use Rattle.outage_schedule.specs.declared.event.Event.{Event}
use Rattle.outage_schedule.specs.declared.item.Served.{Served}
use Rattle.outage_schedule.specs.declared.note.Note.{Note}
use Rattle.server_model.specs.meaning.Fresh.{fresh}
use Rattle.server_model.specs.Seen.{Seen}
use Rattle.invariant_laws.specs.Once.{owned, none_foreign}
use Rattle.world_model.specs.Parts.{implies}
use Rattle.world_model.specs.Reached.{Reached, IsRun}
use Rattle.world_model.specs.records.Ready.{all_requests_right}
use Rattle.once_laws.specs.StoredOnce.{are_stored_once}
use Rattle.world_model.specs.Traced.{Traced}

-- a test of each state that a run comes to
abbrev pub HoldsOnTheWay : (Traced → Bool) → Type 0
HoldsOnTheWay test =
    (document : Document) (events : List Event) (notes : List Note) (items : List Served)
    (seen : Seen) (t : Traced)
    → IsTrue (all_requests_right document) → Reached document events notes items seen t
    → IsTrue (test t)

-- and of the state at the end of a whole run
abbrev pub HoldsAtTheEnd : (Traced → Bool) → Type 0
HoldsAtTheEnd test =
    (document : Document) (notes : List Note) (items : List Served) (seen : Seen) (t : Traced)
    → IsTrue (all_requests_right document) → IsRun document notes items seen t → IsTrue (test t)

-- Of two that are the same value, the later one is given to a marked call, and both to one call of
-- one request.
abbrev pub ValuesHaveOneOwner : Type 0
ValuesHaveOneOwner = HoldsOnTheWay owned

abbrev pub ValuesEndWithOneOwner : Type 0
ValuesEndWithOneOwner = HoldsAtTheEnd owned

-- None is one that was drawn outside.
abbrev pub ValuesAreOwn : Type 0
ValuesAreOwn = HoldsOnTheWay none_foreign

abbrev pub ValuesEndOwn : Type 0
ValuesEndOwn = HoldsAtTheEnd none_foreign

-- Where no call of a request is stored twice, no value stands twice among what the entries drew
-- that the run added.
abbrev pub StoredValuesAreFresh : Type 0
StoredValuesAreFresh = HoldsOnTheWay (λ t. implies (are_stored_once t)
    (fresh (drop t.image t.entries)))

abbrev pub StoredValuesEndFresh : Type 0
StoredValuesEndFresh = HoldsAtTheEnd (λ t. implies (are_stored_once t)
    (fresh (drop t.image t.entries)))
