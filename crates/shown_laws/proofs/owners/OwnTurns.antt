-- A turn of a connection is right for the request whose calls it served.
use Rattle.std.proofs.Common.{◌≡◌, refl, sym, ap, subst, ◌∙◌, Bool, true, false, ◌&&◌, List, [], ◌∷◌, ◌++◌, filter, fold, reverse, Option, Some, None, if◌then◌else◌}
use Rattle.std.specs.List.{list_all}
use Rattle.std.proofs.lemmas.Bool.{and_parts, and_from}
use Rattle.std.proofs.lemmas.List.{append-nil}
use Rattle.shown_clauses.specs.meaning.Fronts.{front_of, rest_of}
use Rattle.shown_clauses.specs.meaning.Links.{Marked, Turn}
use Rattle.shown_clauses.specs.meaning.Turns.{is_marked, begins_with, is_turn_right}
use Rattle.invariant_laws.specs.FirstBegins.{begin_new, begins_new, is_call_by}
use Rattle.world_model.specs.meaning.Frames.{Owner, Sent, Handled}
use Rattle.world_model.specs.meaning.Links.{Link}
use Rattle.invariant_laws.specs.NearCalls.{is_shown_or_next}
use Rattle.world_model.specs.Sames.{is_of, owned_by, same_owners}
use Rattle.invariant_laws.specs.Shown.{calls_on, is_call, is_row}
use Rattle.world_model.specs.Traced.{Course}
use Rattle.world_model.specs.records.Wire.{Stage, New, Greeted, Told, Repeated, Begun, Rested, Shut, Wrong, next_stage, is_right}
use Rattle.shown_laws.specs.OwnTurns.{IsOwnTurn, OwnTurnsAreRight}
use Rattle.shown_laws.specs.ServedSent.{ServesFront}
use Rattle.shown_laws.specs.TurnOwner.{AreAll, calls_by}
use Rattle.shown_laws.specs.Submitted.{submission_so_far}
use Rattle.shown_laws.specs.TurnRows.{ServedOf, NoneServed, OneServed, marks_stand_first}
use Rattle.shown_laws.specs.TurnSent.{IsTurn, sent_since}
use Rattle.shown_laws.proofs.owners.RowTurns.{marks_told, rows_make_right}
use Rattle.shown_laws.proofs.owners.ServedFront.{serves_a_front}
use Rattle.shown_laws.proofs.owners.TurnOwner.{has_all_calls}
use Rattle.shown_laws.proofs.owners.TurnSent.{owners_are, sents_turn}

-- FRONTS ------------------------------------------------------------------------------------------

abbrev pub walk : Stage → List Sent → Stage
walk stage sents = fold (λ stage sent. next_stage stage sent.owner sent.frame) stage sents

wrong_stays : (sents : List Sent) → is_right (walk Wrong sents) ≡ true → is_right Wrong ≡ true
wrong_stays [] right = right
wrong_stays (sent ∷ sents) right = wrong_stays sents right

right_before : (sents : List Sent) (stage : Stage) → is_right (walk stage sents) ≡ true → is_right stage ≡ true
right_before sents Wrong right = wrong_stays sents right
right_before sents New right = refl
right_before sents (Greeted one) right = refl
right_before sents (Told one) right = refl
right_before sents (Repeated one) right = refl
right_before sents (Begun one) right = refl
right_before sents (Rested one) right = refl
right_before sents Shut right = refl

pub right_front : (front rest : List Sent) (stage : Stage) → is_right (walk stage (front ++ rest)) ≡ true → is_right (walk stage front) ≡ true
right_front [] rest stage right = right_before rest stage right
right_front (sent ∷ front) rest stage right = right_front front rest (next_stage stage sent.owner sent.frame) right

begin_front : (before front rest : List Sent) → begin_new before (front ++ rest) ≡ true → begin_new before front ≡ true
begin_front before [] rest new = refl
begin_front before (sent ∷ front) rest new =
    let parts = and_parts (begins_new before sent sent.frame) (begin_new (before ++ sent ∷ []) (front ++ rest)) new in
    and_from (begins_new before sent sent.frame) (begin_new (before ++ sent ∷ []) front) parts.0 (begin_front (before ++ sent ∷ []) front rest parts.1)

-- CALLS OF A REQUEST ------------------------------------------------------------------------------

calls_join : (owner : Option Owner) (front rest : List Sent) → calls_by owner (front ++ rest) ≡ calls_by owner front ++ calls_by owner rest
calls_join owner [] rest = refl
calls_join owner (sent ∷ front) rest = by (is_call_by owner sent) (calls_join owner front rest)
  where
    by : (test : Bool) → calls_by owner (front ++ rest) ≡ calls_by owner front ++ calls_by owner rest
        → (if test then sent ∷ calls_by owner (front ++ rest) else calls_by owner (front ++ rest)) ≡ (if test then sent ∷ calls_by owner front else calls_by owner front) ++ calls_by owner rest
    by true same = ap (λ (calls : List Sent). sent ∷ calls) same
    by false same = same

pub same_test : (owner : Owner) (one : Option Owner) → same_owners (Some owner) one ≡ is_of owner one
same_test owner None = refl
same_test owner (Some other) = refl

same_calls : (owner : Owner) (sents : List Sent) → calls_by (Some owner) sents ≡ filter (λ sent. owned_by owner sent && is_call sent.frame) sents
same_calls owner [] = refl
same_calls owner (sent ∷ sents) =
    ap (λ (test : Bool). if test && is_call sent.frame then sent ∷ calls_by (Some owner) sents else calls_by (Some owner) sents) (same_test owner sent.owner)
    ∙ ap (λ (calls : List Sent). if owned_by owner sent && is_call sent.frame then sent ∷ calls else calls) (same_calls owner sents)

all_by : (owner : Option Owner) (sents : List Sent) → list_all (is_call_by owner) (calls_by owner sents) ≡ true
all_by owner [] = refl
all_by owner (sent ∷ sents) = by (is_call_by owner sent) refl (all_by owner sents)
  where
    by : (test : Bool) → is_call_by owner sent ≡ test → list_all (is_call_by owner) (calls_by owner sents) ≡ true → list_all (is_call_by owner) (if test then sent ∷ calls_by owner sents else calls_by owner sents) ≡ true
    by true is rest = and_from (is_call_by owner sent) (list_all (is_call_by owner) (calls_by owner sents)) is rest
    by false is rest = rest

pub none_served : (served : List Marked) (sents : List Sent) → sents ≡ [] → ServedOf served sents → served ≡ []
none_served _ _ none (NoneServed sents) = refl
none_served _ _ none (OneServed first replay kept call served sents frame goes) = absurd (let never : ⊥ = cc in never)

-- TURNS -------------------------------------------------------------------------------------------

module _ (course : Course) (current : Bool) (link : Link) (served : List Handled) (turn : Turn) (is : IsOwnTurn course link served turn) (row : is_row course current (calls_on course link) ≡ true)
    (near : list_all (is_shown_or_next course.report.calls) (calls_on course link) ≡ true) (front : ServesFront served turn.calls link.sent) where
  right : is_right (walk New front.taken) ≡ true
  right = right_front front.taken front.rest New (subst (λ (sents : List Sent). is_right (walk New sents) ≡ true) front.sent is.grammar)

  once : begin_new [] front.taken ≡ true
  once = begin_front [] front.taken front.rest (subst (λ (sents : List Sent). begin_new [] sents ≡ true) front.sent is.once)

  marks : marks_stand_first (reverse turn.calls) ≡ true
  marks =
      let whole : IsTurn (sent_since front.taken) = sents_turn front.taken right in
      marks_told (reverse turn.calls) (sent_since front.taken) (subst (λ (sents : List Sent). ServedOf (reverse turn.calls) sents) (append-nil (sent_since front.taken)) (front.are [])) whole.marked

  with_none : sent_since front.taken ≡ [] → is_turn_right (submission_so_far course) turn ≡ true
  with_none none =
      let empty : reverse turn.calls ≡ [] = none_served (reverse turn.calls) (sent_since front.taken ++ []) (append-nil (sent_since front.taken) ∙ none) (front.are []) in
      ap (λ (list : List Marked). begins_with (submission_so_far course) (front_of is_marked list) (rest_of is_marked list)) empty

  with_own : calls_by (Some course.owner) front.taken ≡ sent_since front.taken → is_turn_right (submission_so_far course) turn ≡ true
  with_own all =
      let sents : calls_on course link ≡ sent_since front.taken ++ calls_by (Some course.owner) front.rest =
      sym (same_calls course.owner link.sent)
      ∙ (ap (calls_by (Some course.owner)) front.sent
      ∙ (calls_join (Some course.owner) front.taken front.rest ∙ ap (λ (calls : List Sent). calls ++ calls_by (Some course.owner) front.rest) all)) in
      rows_make_right course current (calls_on course link) turn row near marks (subst (λ (list : List Sent). ServedOf (reverse turn.calls) list) (sym sents) (front.are (calls_by (Some course.owner) front.rest)))

  by_calls : (calls : List Sent) → sent_since front.taken ≡ calls → AreAll front.taken (sent_since front.taken) → is_turn_right (submission_so_far course) turn ≡ true
  by_calls [] same all = with_none same
  by_calls (first ∷ more) same all =
      let mine : list_all (owned_by course.owner) (first ∷ more) ≡ true = subst (λ (calls : List Sent). list_all (owned_by course.owner) calls ≡ true) (front.same ∙ same) is.own in
      let its : list_all (is_call_by all.owner) (first ∷ more) ≡ true = subst (λ (calls : List Sent). list_all (is_call_by all.owner) calls ≡ true) (all.all ∙ same) (all_by all.owner front.taken) in
      let first_mine : is_of course.owner first.owner ≡ true = (and_parts (owned_by course.owner first) (list_all (owned_by course.owner) more) mine).0 in
      let first_its : is_call_by all.owner first ≡ true = (and_parts (is_call_by all.owner first) (list_all (is_call_by all.owner) more) its).0 in
      let one : Some course.owner ≡ first.owner = owners_are (Some course.owner) first.owner (same_test course.owner first.owner ∙ first_mine) in
      let other : all.owner ≡ first.owner = owners_are all.owner first.owner (and_parts (same_owners all.owner first.owner) (is_call first.frame) first_its).0 in
      with_own (ap (λ (owner : Option Owner). calls_by owner front.taken) (one ∙ sym other) ∙ all.all)

  turn_right : is_turn_right (submission_so_far course) turn ≡ true
  turn_right = by_calls (sent_since front.taken) refl (has_all_calls front.taken right once)

pub own_right : OwnTurnsAreRight
own_right course current link served turn is row near =
    turn_right course current link served turn is row near (serves_a_front served turn.calls link.sent is.handled is.unblocked is.calls is.front)
