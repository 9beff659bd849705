-- What a request knows of the calls inside a transaction that its connection ran: each but the last
-- was answered as it was shown, and ended none.
use Rattle.std.proofs.Common.{◌≡◌, refl, ap, subst, ◌∙◌, Bool, true, false, ℕ, ◌&&◌, fold, List, [], ◌∷◌, ◌++◌, Option, Some, None}
use Rattle.std.specs.Prelude.{not, slice_get}
use Rattle.std.specs.List.{list_all, list_any}
use Rattle.std.specs.Option.{option_map_or}
use Rattle.std.proofs.lemmas.Bool.{and_parts, and_from, not-true, or_parts}
use Rattle.svc_values.specs.declared.answer.Answer.{Answer}
use Rattle.svc_values.specs.declared.draw.Draw.{Draw}
use Rattle.svc_values.specs.meaning.Endings.{ends_committed, ends_transaction, ends_with}
use Rattle.svc_values.specs.meaning.Same.{same_answers}
use Rattle.svc_values.specs.SameLaws.{same_answers_decide}
use Rattle.outage_schedule.specs.declared.item.Item.{Item}
use Rattle.outage_schedule.specs.declared.item.Item.TheVariants as item
use Rattle.outage_schedule.specs.declared.request.ShownCall.{ShownCall}
use Rattle.world_model.specs.meaning.Frames.{Sent, Handled}
use Rattle.invariant_laws.specs.Invariant.{Invariant}
use Rattle.world_model.specs.meaning.Links.{Link, link_at}
use Rattle.world_model.specs.Parts.{implies}
use Rattle.invariant_laws.specs.Same.{Ran, ServedCall, did_all, ends_on_server, first_call, has_script_calls, is_no_commit, ran_by, ran_item, runs_script_calls, scripts_from, test_at, with_call}
use Rattle.world_model.specs.Sames.{owned_by}
use Rattle.invariant_laws.specs.Shown.{calls_on, first_of, in_row, is_current, is_row, rows_on}
use Rattle.world_model.specs.Traced.{Traced, Course, courses_of}
use Rattle.invariant_laws.specs.Verified.{all_but_last, gone_behind, answers_as, answers_known, insides_known, is_answered_so, is_inside, knows_answers, knows_inside, on_held, ran_knowing}
use Rattle.world_model.specs.Words.{held_in}
use Rattle.world_model.proofs.Offered.{append_all, one_all, weaker_all, known_of, Known}
use Rattle.invariant_laws.proofs.Offered.{both_all, over_same}
use Rattle.once_laws.proofs.calls.RanAgrees.{did_so, did_stands, inner_so, is_told_so, last, link_came, of_did, shown_so, told_so}
use Rattle.once_laws.proofs.calls.RanScripts.{scripts_ran}

-- A SESSION'S CALLS -------------------------------------------------------------------------------

pub last_dropped : {A : Type 0} (xs : List A) (x : A) → all_but_last (xs ++ x ∷ []) ≡ xs
last_dropped [] x = refl
last_dropped (y ∷ []) x = refl
last_dropped (y ∷ z ∷ xs) x = ap (λ rest. y ∷ rest) (last_dropped (z ∷ xs) x)

-- its transaction goes on behind it
abbrev goes_on : ServedCall → Bool
goes_on did = not (ends_on_server did.piece.answers)

abbrev is_inner : List ServedCall → Bool
is_inner dids = list_all goes_on (all_but_last dids)

abbrev step : Ran → Handled → Ran
step ran one = ran_item ran one.sent one.served.item

-- Each call of the open transaction goes on, and each but the last of one that is over.
abbrev AllInner : Ran → Type 0
AllInner ran = (list_all goes_on ran.pieces ≡ true) × (list_all is_inner ran.over ≡ true)

did_inner : (ran : Ran) (committed ended : Bool) (dids : List ServedCall) → list_all is_inner ran.over ≡ true → is_inner dids ≡ true → (ended ≡ false → list_all goes_on dids ≡ true) → AllInner (did_all ran committed ended dids)
did_inner ran true ended dids over inner opens = (refl, append_all is_inner ran.over (dids ∷ []) over (one_all is_inner dids inner))
did_inner ran false true dids over inner opens = (refl, over)
did_inner ran false false dids over inner opens = (opens refl, over)

more_inner : (pieces : List ServedCall) (did : ServedCall) → list_all goes_on pieces ≡ true → is_inner (pieces ++ did ∷ []) ≡ true
more_inner pieces did all = ap (list_all goes_on) (last_dropped pieces did) ∙ all

item_inner : (ran : Ran) (sent : Sent) (one : Item) → AllInner ran → AllInner (ran_item ran sent one)
item_inner ran sent (item.Begin settings) all = (refl, all.1)
item_inner ran sent item.End all = (refl, all.1)
item_inner ran sent (item.Call mark called answers draws) all =
    did_inner (with_call ran called) (ends_committed answers) (ends_on_server answers) (ran.pieces ++ did ∷ []) (ap (list_all is_inner) (over_same ran called) ∙ all.1) (more_inner ran.pieces did all.0)
    (λ opens. append_all goes_on ran.pieces (did ∷ []) all.0 (one_all goes_on did (ap not opens)))
  where
    did : ServedCall
    did = record { sent = sent; mark = mark; piece = record { call = called; answers = answers; draws = draws } }
item_inner ran sent (item.CrashedCall mark called) all =
    let did : ServedCall = record { sent = sent; mark = mark; piece = record { call = called; answers = []; draws = [] } } in
    (all.0, append_all is_inner ran.over ((ran.pieces ++ did ∷ []) ∷ []) all.1 (one_all is_inner (ran.pieces ++ did ∷ []) (more_inner ran.pieces did all.0)))
item_inner ran sent one all = all

all_inner : (served : List Handled) (ran : Ran) → AllInner ran → AllInner (fold step ran served)
all_inner [] ran all = all
all_inner (one ∷ others) ran all = all_inner others (step ran one) (item_inner ran one.sent one.served.item all)

module _ (course : Course) where
  abbrev agrees : ShownCall → List Answer → List Draw → Bool
  agrees shown answers draws = same_answers answers shown.answers

  abbrev stands : ℕ → Sent → List Answer → List Draw → Bool
  stands = did_stands course agrees

  answered_so : (one : Handled) → is_answered_so course one ≡ true → is_told_so course agrees one ≡ true
  answered_so one is = by (slice_get course.report.calls one.sent.call) is
    where
      item_so : (shown : ShownCall) (it : Item) → answers_as shown it ≡ true → told_so course agrees shown it ≡ true
      item_so shown (item.Call marked called answers draws) is = is
      item_so shown it is = absurd (let none : ⊥ = cc in none)

      by : (found : Option ShownCall) → option_map_or (λ shown. answers_as shown one.served.item) found false ≡ true → option_map_or (λ shown. told_so course agrees shown one.served.item) found false ≡ true
      by None is = absurd (let none : ⊥ = cc in none)
      by (Some shown) is = item_so shown one.served.item is

  -- A TRANSACTION ---------------------------------------------------------------------------------

  inside_by : (did : ServedCall) → goes_on did ≡ true → shown_so course agrees did.sent did.piece.answers did.piece.draws ≡ true → is_inside course did ≡ true
  inside_by did opens known = by (slice_get course.report.calls did.sent.call) known
    where
      not_ended : (answers : List Answer) → not (ends_on_server answers) ≡ true → not (ends_transaction answers) ≡ true
      not_ended answers open_so = ap not (or_parts (ends_transaction answers) (ends_with is_no_commit answers) (not-true (ends_on_server answers) open_so)).0

      by : (found : Option ShownCall) → option_map_or (λ shown. same_answers did.piece.answers shown.answers) found false ≡ true → option_map_or (λ shown. same_answers did.piece.answers shown.answers && not (ends_transaction shown.answers)) found false ≡ true
      by None known = known
      by (Some shown) known =
          and_from (same_answers did.piece.answers shown.answers) (not (ends_transaction shown.answers)) known
          (subst (λ (answers : List Answer). not (ends_transaction answers) ≡ true) ((same_answers_decide did.piece.answers shown.answers).0 known) (not_ended did.piece.answers opens))

  inside_all : (last index : ℕ) (dids : List ServedCall) → scripts_from course index dids ≡ true → is_inner dids ≡ true → list_all (of_did (stands last)) dids ≡ true → list_all (is_inside course) (all_but_last dids) ≡ true
  inside_all last index dids scripts inner told =
      weaker_all (λ did. goes_on did && did_so course agrees did) (is_inside course) (all_but_last dids)
      (λ did both. let parts = and_parts (goes_on did) (did_so course agrees did) both in inside_by did parts.0 parts.1)
      (both_all goes_on (did_so course agrees) (all_but_last dids) inner (inner_so course agrees last index dids scripts told))

  knows_by : (last : ℕ) (dids : List ServedCall) → has_script_calls course dids ≡ true → is_inner dids ≡ true → list_all (of_did (stands last)) dids ≡ true → knows_inside course dids ≡ true
  knows_by last dids scripts inner told_all = by (list_any (λ did. owned_by course.owner did.sent) dids) scripts
    where
      by : (any : Bool) → implies any (scripts_from course (first_call dids 0) dids) ≡ true → implies any (list_all (is_inside course) (all_but_last dids)) ≡ true
      by true scripts = inside_all last (first_call dids 0) dids scripts inner told_all
      by false scripts = refl

  -- A CONNECTION ----------------------------------------------------------------------------------

  module _ (link : Link) (known : Known link) (row : in_row (option_map_or (λ s. s.call) (first_of (calls_on course link)) 0) (calls_on course link) ≡ true) (scripts : runs_script_calls course link ≡ true) (answers : knows_answers course link ≡ true) where
    told : list_all (is_told_so course agrees) (gone_behind course link) ≡ true
    told = weaker_all (is_answered_so course) (is_told_so course agrees) (gone_behind course link) answered_so answers

    abbrev last_one : ℕ
    last_one = last course agrees link known row told

    pub link_knows : ran_knowing course link ≡ true
    link_knows =
        let nothing : Ran = record { settings = []; at_start = []; pieces = []; over = []; starts = [] } in
        let inner = all_inner link.served nothing (refl, refl) in
        let came = link_came course agrees link known row told in
        let both = and_parts (list_all (has_script_calls course) (ran_by link).over) (has_script_calls course (ran_by link).pieces) scripts in
        and_from (list_all (knows_inside course) (ran_by link).over) (knows_inside course (ran_by link).pieces)
        (weaker_all (λ dids. has_script_calls course dids && (is_inner dids && list_all (of_did (stands last_one)) dids)) (knows_inside course) (ran_by link).over
        (λ dids all.
        let one = and_parts (has_script_calls course dids) (is_inner dids && list_all (of_did (stands last_one)) dids) all in
        let two = and_parts (is_inner dids) (list_all (of_did (stands last_one)) dids) one.1 in
        knows_by last_one dids one.0 two.0 two.1)
        (both_all (has_script_calls course) (λ dids. is_inner dids && list_all (of_did (stands last_one)) dids) (ran_by link).over both.0 (both_all is_inner (list_all (of_did (stands last_one))) (ran_by link).over inner.1 came.1)))
        (knows_by last_one (ran_by link).pieces both.1 (inner_open (ran_by link).pieces inner.0) came.0)
      where
        inner_open : (dids : List ServedCall) → list_all goes_on dids ≡ true → is_inner dids ≡ true
        inner_open [] all = refl
        inner_open (did ∷ []) all = refl
        inner_open (did ∷ next ∷ others) all =
            let parts = and_parts (goes_on did) (list_all goes_on (next ∷ others)) all in and_from (goes_on did) (is_inner (next ∷ others)) parts.0 (inner_open (next ∷ others) parts.1)

-- ALL REQUESTS ------------------------------------------------------------------------------------

module _ (t : Traced) (whole : Invariant t) where
  course_knows : (course : Course) → (rows_on t course && (list_all (test_at t (runs_script_calls course)) (held_in course.steps) && on_held t course (knows_answers course))) ≡ true → on_held t course (ran_knowing course) ≡ true
  course_knows course all =
      weaker_all (λ number. row_at number && (test_at t (runs_script_calls course) number && answers_at number)) (λ number. option_map_or (ran_knowing course) (link_at t.machine.links number) true) (held_in course.steps)
      (λ number here.
      let one = and_parts (row_at number) (test_at t (runs_script_calls course) number && answers_at number) here in
      let two = and_parts (test_at t (runs_script_calls course) number) (answers_at number) one.1 in
      by number (link_at t.machine.links number) refl one.0 two.0 two.1)
      (both_all row_at (λ number. test_at t (runs_script_calls course) number && answers_at number) (held_in course.steps) parts.0 (both_all (test_at t (runs_script_calls course)) answers_at (held_in course.steps) rest.0 rest.1))
    where
      row_at : ℕ → Bool
      row_at number = option_map_or (λ link. is_row course (is_current course number) (calls_on course link)) (link_at t.machine.links number) false

      answers_at : ℕ → Bool
      answers_at number = option_map_or (knows_answers course) (link_at t.machine.links number) true

      parts : (rows_on t course ≡ true) × ((list_all (test_at t (runs_script_calls course)) (held_in course.steps) && on_held t course (knows_answers course)) ≡ true)
      parts = and_parts (rows_on t course) (list_all (test_at t (runs_script_calls course)) (held_in course.steps) && on_held t course (knows_answers course)) all

      rest : (list_all (test_at t (runs_script_calls course)) (held_in course.steps) ≡ true) × (on_held t course (knows_answers course) ≡ true)
      rest = and_parts (list_all (test_at t (runs_script_calls course)) (held_in course.steps)) (on_held t course (knows_answers course)) parts.1

      by : (number : ℕ) (found : Option Link) → link_at t.machine.links number ≡ found → option_map_or (λ link. is_row course (is_current course number) (calls_on course link)) found false ≡ true → option_map_or (runs_script_calls course) found false ≡ true
          → option_map_or (knows_answers course) found true ≡ true → option_map_or (ran_knowing course) found true ≡ true
      by number None there row scripts answers = refl
      by number (Some link) there row scripts answers =
          link_knows course link (known_of t whole.orderly number link there) (and_parts (in_row (option_map_or (λ s. s.call) (first_of (calls_on course link)) 0) (calls_on course link)) _ row).0 scripts answers

  pub inside_known : answers_known t ≡ true → insides_known t ≡ true
  inside_known answers =
      weaker_all (λ course. rows_on t course && (list_all (test_at t (runs_script_calls course)) (held_in course.steps) && on_held t course (knows_answers course))) (λ course. on_held t course (ran_knowing course)) (courses_of t) course_knows
      (both_all (rows_on t) (λ course. list_all (test_at t (runs_script_calls course)) (held_in course.steps) && on_held t course (knows_answers course)) (courses_of t) whole.shown.rows
      (both_all (λ course. list_all (test_at t (runs_script_calls course)) (held_in course.steps)) (λ course. on_held t course (knows_answers course)) (courses_of t) (scripts_ran t whole) answers))
