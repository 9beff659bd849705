-- Each turn that is told is right for a request that held its connection: the calls that it served
-- are of one request, which held it.
use Rattle.std.proofs.Common.{◌≡◌, refl, sym, ap, subst, ◌∙◌, arith, Bool, true, false, ℕ, zero, suc, ◌+◌, ◌&&◌, ◌||◌, append-nil, List, [], ◌∷◌, ◌++◌, map, fold, reverse, Option, Some, None, ◌⊎◌, inl, inr}
use Rattle.std.specs.Prelude.{◌==◌, not, is_none, is_some, slice_get}
use Rattle.std.specs.List.{list_all, list_any}
use Rattle.std.specs.Option.{option_map_or}
use Rattle.std.proofs.lemmas.Bool.{and_parts, and_from, or_cases}
use Rattle.std.proofs.lemmas.List.Folds.{list_all-append}
use Rattle.svc_values.specs.declared.frame.Up.{Up}
use Rattle.svc_values.specs.declared.frame.Up.TheVariants as up
use Rattle.shown_clauses.specs.meaning.Links.{Link as SeenLink, Turn, link_of}
use Rattle.shown_clauses.specs.meaning.Turns.{is_turn_right}
use Rattle.invariant_laws.specs.FirstBegins.{begin_once}
use Rattle.world_model.specs.meaning.Frames.{Owner, Sent, Handled}
use Rattle.invariant_laws.specs.Invariant.{Invariant}
use Rattle.world_model.specs.meaning.Links.{Link, link_at}
use Rattle.invariant_laws.specs.NearCalls.{send_near}
use Rattle.world_model.specs.Sames.{is_of, owned_by, same_owner, same_owners}
use Rattle.world_model.specs.records.Script.{is_held_by, owned_rightly}
use Rattle.world_model.specs.Traced.{Traced, Course, courses_of}
use Rattle.world_model.specs.records.Wire.{Stage, New, Greeted, Told, Repeated, Begun, Rested, Shut, Wrong, stage_if, is_alter, next_stage, is_right}
use Rattle.world_model.specs.Words.{held_in}
use Rattle.shown_laws.specs.OwnTurns.{OnWire}
use Rattle.shown_laws.specs.ServedSent.{ServesFront, none_blocked}
use Rattle.shown_laws.specs.Submitted.{submission_so_far}
use Rattle.shown_laws.specs.TurnSent.{IsTurn, calls_with, sent_since}
use Rattle.shown_laws.specs.TurnsOver.{WereTurns, NoneOver, OneOver, NothingBeside}
use Rattle.shown_laws.specs.TurnsRight.{RightFor, ServesNone, ServesOwn, AreRight, NoTurns, OneTurn}
use Rattle.shown_laws.specs.TurnsServed.{calls_served, calls_told, served_in, TellsTurns}
use Rattle.shown_laws.specs.Unblocked.{serves_unblocked, serve_unblocked}
use Rattle.shown_laws.proofs.owners.HeldTurns.{right_turns, unblocked_before}
use Rattle.shown_laws.proofs.owners.OwnTurns.{none_served, right_front, walk}
use Rattle.shown_laws.proofs.owners.ServedFront.{serves_a_front}
use Rattle.shown_laws.proofs.owners.ServedSent.{serves_its_frames}
use Rattle.shown_laws.proofs.links.SessionsApart.{at_link}
use Rattle.shown_laws.proofs.owners.TurnSent.{all_push, owners_are, sents_turn}
use Rattle.shown_laws.proofs.links.WireFronts.{on_wire}

-- OWNERS ------------------------------------------------------------------------------------------

abbrev has_owner : Sent → Bool
has_owner sent = is_some sent.owner

-- each stage of a connection is some request's
abbrev Owns : List Sent → Stage → Type 0
Owns calls Wrong = Unit {0}
Owns calls (Greeted one) = (list_all has_owner calls ≡ true) × (is_some one ≡ true)
Owns calls (Told one) = (list_all has_owner calls ≡ true) × (is_some one ≡ true)
Owns calls (Repeated one) = (list_all has_owner calls ≡ true) × (is_some one ≡ true)
Owns calls (Begun one) = (list_all has_owner calls ≡ true) × (is_some one ≡ true)
Owns calls stage = list_all has_owner calls ≡ true

if_owns : (calls : List Sent) (test : Bool) (stage : Stage) → (test ≡ true → Owns calls stage) → Owns calls (stage_if test stage)
if_owns calls true stage is = is refl
if_owns calls false stage is = tt

passes : (one owner : Option Owner) → is_some one ≡ true → same_owners one owner ≡ true → is_some owner ≡ true
passes one owner some same = ap is_some (sym (owners_are one owner same)) ∙ some

moved : (calls : List Sent) (stage : Stage) (owner : Option Owner) (index : ℕ) (frame : Up) → Owns calls stage → Owns (calls_with calls (record { owner = owner; call = index; frame = frame }) frame) (next_stage stage owner frame)
moved calls New owner index up.Connect is = if_owns calls (is_some owner) (Greeted owner) (λ met. (is, met))
moved calls (Greeted one) owner index (up.Outcome x) is = if_owns calls (same_owners one owner) (Told owner) (λ met. (is.0, passes one owner is.1 met))
moved calls (Greeted one) owner index (up.Begin settings) is = if_owns [] (same_owners one owner) (Begun owner) (λ met. (refl, passes one owner is.1 met))
moved calls (Told one) owner index (up.Begin settings) is = if_owns [] (same_owners one owner) (Repeated owner) (λ met. (refl, passes one owner is.1 met))
moved calls (Repeated one) owner index (up.Call true kept call) is =
    let sent : Sent = record { owner = owner; call = index; frame = up.Call true kept call } in
    if_owns (calls ++ sent ∷ []) (same_owners one owner && not (is_alter call)) (Repeated owner)
    (λ met. let some = passes one owner is.1 (and_parts (same_owners one owner) (not (is_alter call)) met).0 in (all_push has_owner calls sent is.0 some, some))
moved calls (Repeated one) owner index (up.Call false kept call) is =
    let sent : Sent = record { owner = owner; call = index; frame = up.Call false kept call } in
    if_owns (calls ++ sent ∷ []) (same_owners one owner) (Begun owner) (λ met. let some = passes one owner is.1 met in (all_push has_owner calls sent is.0 some, some))
moved calls (Begun one) owner index (up.Call false kept call) is =
    let sent : Sent = record { owner = owner; call = index; frame = up.Call false kept call } in
    if_owns (calls ++ sent ∷ []) (same_owners one owner) (Begun owner) (λ met. let some = passes one owner is.1 met in (all_push has_owner calls sent is.0 some, some))
moved calls (Begun one) owner index up.End is = if_owns calls (same_owners one owner) (Rested owner) (λ met. is.0)
moved calls (Told one) owner index up.End is = if_owns calls (same_owners one owner) (Rested owner) (λ met. is.0)
moved calls (Repeated one) owner index up.End is = if_owns calls (same_owners one owner) (Rested owner) (λ met. is.0)
moved calls (Rested one) owner index (up.Begin settings) is =
    if_owns [] (is_some owner && not (same_owners one owner)) (Begun owner) (λ met. (refl, (and_parts (is_some owner) (not (same_owners one owner)) met).0))
moved calls (Rested one) owner index up.Close is = if_owns calls (is_none owner || same_owners one owner) Shut (λ met. is)
moved calls (Greeted one) owner index up.Close is = if_owns calls (same_owners one owner) Shut (λ met. is.0)
moved calls (Told one) owner index up.Close is = if_owns calls (same_owners one owner) Shut (λ met. is.0)
moved calls (Repeated one) owner index up.Close is = if_owns calls (same_owners one owner) Shut (λ met. is.0)
moved calls (Begun one) owner index up.Close is = if_owns calls (same_owners one owner) Shut (λ met. is.0)
moved calls stage owner index frame is = tt

walked : (sents : List Sent) (calls : List Sent) (stage : Stage) → Owns calls stage → Owns (fold (λ calls one. calls_with calls one one.frame) calls sents) (walk stage sents)
walked [] calls stage is = is
walked (sent ∷ sents) calls stage is = walked sents (calls_with calls sent sent.frame) (next_stage stage sent.owner sent.frame) (moved calls stage sent.owner sent.call sent.frame is)

owned_at : (calls : List Sent) (stage : Stage) → Owns calls stage → is_right stage ≡ true → list_all has_owner calls ≡ true
owned_at calls Wrong is right = absurd (let none : ⊥ = cc in none)
owned_at calls New is right = is
owned_at calls (Greeted one) is right = is.0
owned_at calls (Told one) is right = is.0
owned_at calls (Repeated one) is right = is.0
owned_at calls (Begun one) is right = is.0
owned_at calls (Rested one) is right = is
owned_at calls Shut is right = is

-- what holds of all frames holds of these calls
since_all : (test : Sent → Bool) (sents calls : List Sent) → list_all test calls ≡ true → list_all test sents ≡ true → list_all test (fold (λ calls one. calls_with calls one one.frame) calls sents) ≡ true
since_all test [] calls so all = so
since_all test (sent ∷ sents) calls so all =
    let parts = and_parts (test sent) (list_all test sents) all in
    since_all test sents (calls_with calls sent sent.frame) (by sent.frame parts.0) parts.1
  where
    by : (frame : Up) → test sent ≡ true → list_all test (calls_with calls sent frame) ≡ true
    by (up.Begin settings) is = refl
    by (up.Call replay kept call) is = all_push test calls sent so is
    by up.Connect is = so
    by (up.Outcome x) is = so
    by up.End is = so
    by up.Close is = so

-- REQUESTS ----------------------------------------------------------------------------------------

record Found (courses : List Course) (test : Course → Bool) : Type 0 where
  place : ℕ
  course : Course
  at : slice_get courses place ≡ Some course
  passes_it : test course ≡ true

found_any : (courses : List Course) (test : Course → Bool) → list_any test courses ≡ true → Found courses test
found_any [] test any = absurd (let none : ⊥ = cc in none)
found_any (first ∷ courses) test any = by (λ later. found_any courses test later) (or_cases (test first) (list_any test courses) any)
  where
    by : (list_any test courses ≡ true → Found courses test) → (test first ≡ true) ⊎ (list_any test courses ≡ true) → Found (first ∷ courses) test
    by later (inl is) = record { place = 0; course = first; at = refl; passes_it = is }
    by later (inr is) = let rest : Found courses test = later is in record { place = suc rest.place; course = rest.course; at = rest.at; passes_it = rest.passes_it }

abbrev held_by : List Course → ℕ → Sent → Bool
held_by courses number sent = option_map_or (is_held_by courses number) sent.owner true

held_from : (courses : List Course) (start : ℕ) (links : List Link) (index number : ℕ) (link : Link) → number ≡ start + index → owned_rightly courses start links ≡ true → slice_get links index ≡ Some link → list_all (held_by courses number) link.sent ≡ true
held_from courses start [] index number link same owned is = absurd (let none : ⊥ = cc in none)
held_from courses start (first ∷ links) zero number link same owned is =
    let here : first ≡ link = cc in
    let now : start ≡ number = omega (arith, same) in
    subst (λ (one : Link). list_all (held_by courses number) one.sent ≡ true) here
    (subst (λ (n : ℕ). list_all (held_by courses n) first.sent ≡ true) now (and_parts (list_all (held_by courses start) first.sent) (owned_rightly courses (start + 1) links) owned).0)
held_from courses start (first ∷ links) (suc index) number link same owned is =
    let now : number ≡ (start + 1) + index = omega (arith, same) in
    held_from courses (start + 1) links index number link now (and_parts (list_all (held_by courses start) first.sent) (owned_rightly courses (start + 1) links) owned).1 is

held_at : (courses : List Course) (links : List Link) (number : ℕ) (link : Link) → owned_rightly courses 1 links ≡ true → link_at links number ≡ Some link → list_all (held_by courses number) link.sent ≡ true
held_at courses links zero link owned is = absurd (let none : ⊥ = cc in none)
held_at courses links (suc index) link owned is = let one : suc index ≡ 1 + index = omega arith in held_from courses 1 links index (suc index) link one owned is

-- TURNS -------------------------------------------------------------------------------------------

module _ (t : Traced) (inv : Invariant t) (unblocked : serve_unblocked t ≡ true) (once : begin_once t ≡ true) (near : send_near t ≡ true) where
  module _ (number : ℕ) (link : Link) (there : link_at t.machine.links number ≡ Some link) (served later : List Handled) (all_served : link.served ≡ served ++ later) (turn : Turn) (calls : calls_served served ≡ Some turn.calls) where
    pub wire : OnWire link served
    wire = on_wire t number link served later inv.orderly.wire there all_served

    quiet : none_blocked served ≡ true
    quiet = unblocked_before served later (subst (λ (whole : List Handled). none_blocked whole ≡ true) all_served (at_link serves_unblocked t.machine.links number link unblocked there))

    front : ServesFront served turn.calls link.sent
    front = serves_a_front served turn.calls link.sent wire.handled quiet calls wire.front

    right : is_right (walk New front.taken) ≡ true
    right = right_front front.taken front.rest New (subst (λ (sents : List Sent). is_right (walk New sents) ≡ true) front.sent wire.grammar)

    abbrev pub mine : List Sent
    mine = sent_since (map (λ one. one.sent) served)

    its_turn : IsTurn mine
    its_turn = subst IsTurn (sym front.same) (sents_turn front.taken right)

    all_owned : list_all has_owner mine ≡ true
    all_owned = subst (λ (sents : List Sent). list_all has_owner sents ≡ true) (sym front.same) (owned_at (sent_since front.taken) (walk New front.taken) (walked front.taken [] New refl) right)

    all_held : list_all (held_by (courses_of t) number) mine ≡ true
    all_held =
        subst (λ (sents : List Sent). list_all (held_by (courses_of t) number) sents ≡ true) (sym front.same)
        (since_all (held_by (courses_of t) number) front.taken [] refl
        (and_parts (list_all (held_by (courses_of t) number) front.taken) (list_all (held_by (courses_of t) number) front.rest)
        (sym (list_all-append (held_by (courses_of t) number) front.taken front.rest)
        ∙ (ap (list_all (held_by (courses_of t) number)) (sym front.sent) ∙ held_at (courses_of t) t.machine.links number link inv.orderly.script.owned there))).0)

    own_all : (own : Option Owner) (course : Course) (owner : Owner) (sents : List Sent) → own ≡ Some owner → same_owner course.owner owner ≡ true → list_all (λ sent. same_owners own sent.owner) sents ≡ true → list_all (owned_by course.owner) sents ≡ true
    own_all own course owner [] is same owned = refl
    own_all own course owner (sent ∷ sents) is same owned =
        let parts = and_parts (same_owners own sent.owner) (list_all (λ s. same_owners own s.owner) sents) owned in
        and_from (owned_by course.owner sent) (list_all (owned_by course.owner) sents) (ap (is_of course.owner) (sym (owners_are own sent.owner parts.0) ∙ is) ∙ same) (own_all own course owner sents is same parts.1)

    -- right for a request with this owner, which held the connection
    pub record OwnRight (owner : Owner) : Type 0 where
      pub course : Course
      pub place : ℕ
      pub at : slice_get (courses_of t) place ≡ Some course
      pub same : same_owner course.owner owner ≡ true
      pub held : list_any (λ other. other == number) (held_in course.steps) ≡ true
      pub right : is_turn_right (submission_so_far course) turn ≡ true

    -- the owner of the first of its calls
    pub own_right : (first : Sent) (more : List Sent) → mine ≡ first ∷ more → (owner : Owner) → first.owner ≡ Some owner → OwnRight owner
    own_right first more is owner same =
        let all : list_all (held_by (courses_of t) number) (first ∷ more) ≡ true = subst (λ (sents : List Sent). list_all (held_by (courses_of t) number) sents ≡ true) is all_held in
        let held : option_map_or (is_held_by (courses_of t) number) (Some owner) true ≡ true =
        subst (λ (found : Option Owner). option_map_or (is_held_by (courses_of t) number) found true ≡ true) same (and_parts (held_by (courses_of t) number first) (list_all (held_by (courses_of t) number) more) all).0 in
        let found : Found (courses_of t) (λ course. same_owner course.owner owner && list_any (λ other. other == number) (held_in course.steps)) = found_any (courses_of t) _ held in
        let parts = and_parts (same_owner found.course.owner owner) (list_any (λ other. other == number) (held_in found.course.steps)) found.passes_it in
        let owned : list_all (λ sent. same_owners its_turn.owner sent.owner) (first ∷ more) ≡ true = subst (λ (sents : List Sent). list_all (λ sent. same_owners its_turn.owner sent.owner) sents ≡ true) is its_turn.owned in
        let mine_is : its_turn.owner ≡ Some owner = owners_are its_turn.owner first.owner (and_parts (same_owners its_turn.owner first.owner) (list_all (λ sent. same_owners its_turn.owner sent.owner) more) owned).0 ∙ same in
        record {
          course = found.course;
          place = found.place;
          at = found.at;
          same = parts.0;
          held = parts.1;
          right =
              right_turns t inv unblocked once near number found.course served turn
              (record { link = link; there = there; later = later; all = all_served; calls = calls; place = found.place; of_run = found.at; held = parts.1; own = own_all its_turn.owner found.course owner mine mine_is parts.0 its_turn.owned });
        }

    -- where there is none
    pub none_right : mine ≡ [] → reverse turn.calls ≡ []
    none_right is = none_served (reverse turn.calls) (mine ++ []) (append-nil mine ∙ is) (serves_its_frames served turn.calls [] wire.handled quiet calls)

    by_owner : (first : Sent) (more : List Sent) → mine ≡ first ∷ more → (found : Option Owner) → first.owner ≡ found → is_some found ≡ true → RightFor t number turn
    by_owner first more is None same some = absurd (let none : ⊥ = cc in none)
    by_owner first more is (Some owner) same some = let own : OwnRight owner = own_right first more is owner same in ServesOwn own.course own.place own.at own.held own.right

    by_calls : (sents : List Sent) → mine ≡ sents → RightFor t number turn
    by_calls [] is = ServesNone (none_right is)
    by_calls (first ∷ more) is = by_owner first more is first.owner refl (and_parts (has_owner first) (list_all has_owner more) (subst (λ (sents : List Sent). list_all has_owner sents ≡ true) is all_owned)).0

    right_for : RightFor t number turn
    right_for = by_calls mine refl

  -- those that are over
  pub over_right : (over : List Turn) → WereTurns NothingBeside t.machine.links over → AreRight t over
  over_right _ NoneOver = NoTurns
  over_right _ (OneOver turn more was beside rest) = OneTurn turn more was.number (by (link_at t.machine.links was.number) refl was.served) (over_right more rest)
    where
      by : (found : Option Link) → link_at t.machine.links was.number ≡ found → served_in found ≡ was.before ++ was.later → RightFor t was.number turn
      by (Some link) there same = right_for was.number link there was.before was.later same turn was.calls
      by None there same = absurd (never was.before same was.calls)
        where
          never : (before : List Handled) → [] ≡ before ++ was.later → calls_served before ≡ Some turn.calls → ⊥
          never [] same calls = let none : ⊥ = cc in none
          never (one ∷ before) same calls = let none : ⊥ = cc in none

  -- and the one that a connection has
  pub open_right : (told : List SeenLink) → TellsTurns t.machine.links told → (number : ℕ) (one : SeenLink) (turn : Turn) → link_of number told ≡ Some one → one.turn ≡ Some turn → RightFor t number turn
  open_right told tells number one turn is has = by (link_at t.machine.links number) refl
    where
      calls : calls_served (served_in (link_at t.machine.links number)) ≡ Some turn.calls
      calls =
          sym (tells number)
          ∙ (ap (λ (found : Option SeenLink). option_map_or calls_told found None) is ∙ ap (λ (found : Option Turn). calls_told (record one { turn = found })) has)

      by : (found : Option Link) → link_at t.machine.links number ≡ found → RightFor t number turn
      by None there = absurd (let both : None ≡ Some turn.calls = ap (λ (found : Option Link). calls_served (served_in found)) (sym there) ∙ calls in let none : ⊥ = cc in none)
      by (Some link) there = right_for number link there link.served [] (sym (append-nil link.served)) turn (ap (λ (found : Option Link). calls_served (served_in found)) (sym there) ∙ calls)
