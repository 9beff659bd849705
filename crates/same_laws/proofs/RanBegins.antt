-- A transaction that a connection ran and that has a call of a request begins with its first call,
-- with one behind a decided commit that was shown, or with one behind a call that ended a
-- transaction there.
use Rattle.std.proofs.Common.{◌≡◌, refl, sym, ap, subst, ◌∙◌, Bool, true, false, ℕ, ◌+◌, ◌&&◌, ◌||◌, List, [], ◌∷◌, ◌++◌, map, filter, fold, Option, Some, None, if◌then◌else◌}
use Rattle.std.specs.Prelude.{◌==◌, not}
use Rattle.std.specs.List.{list_all, list_any}
use Rattle.std.specs.Option.{option_map_or}
use Rattle.std.proofs.lemmas.Bool.{and_parts, and_from, or_from, or_left, or_right}
use Rattle.std.proofs.lemmas.List.Folds.{list_any-append}
use Rattle.svc_values.specs.declared.answer.Answer.{Answer}
use Rattle.svc_values.specs.declared.answer.Answer.TheVariants as answer
use Rattle.svc_values.specs.declared.frame.Up.{Up}
use Rattle.svc_values.specs.declared.frame.Up.TheVariants as up
use Rattle.svc_values.specs.declared.value.Value.{Value}
use Rattle.svc_values.specs.meaning.Endings.{ends_committed, is_committed, is_conflict, is_rolled_back, last_answer}
use Rattle.outage_schedule.specs.declared.item.Item.{Item}
use Rattle.outage_schedule.specs.declared.item.Item.TheVariants as item
use Rattle.world_model.specs.records.Basic.{is_stopped, none_behind}
use Rattle.invariant_laws.specs.Begins.{begin_in, is_begin_frame}
use Rattle.invariant_laws.specs.FirstCalls.{begins_behind, begins_there, ends_before, is_behind_decided, may_begin}
use Rattle.world_model.specs.meaning.Frames.{Owner, Sent, Handled}
use Rattle.world_model.specs.Parts.{implies}
use Rattle.invariant_laws.specs.Same.{ServedCall, Ran, did_all, ends_on_server, first_call, is_no_commit, ran_item, with_call}
use Rattle.world_model.specs.Sames.{is_of, owned_by}
use Rattle.world_model.specs.meaning.Serving.{is_last}
use Rattle.invariant_laws.specs.Shown.{in_row, is_call}
use Rattle.world_model.specs.Traced.{Course}
use Rattle.world_model.specs.records.Wire.{Stage, counted_with, handled_from, is_handled, next_stage, is_right}
use Rattle.world_model.proofs.Offered.{append_all, one_all, moved, lone_later, link_lives_none_later as none_later, eq_from}
use Rattle.invariant_laws.proofs.Offered.{kept_decided_carries as carries, set_beside}
use Rattle.once_laws.proofs.Offered.{is_mine, was_right, Deal, Greets, Asks, Begins, Ends, Calls, Stops, IsLast, handled_deal, first_more, owns, plain_left, follows_so, row_from, StageStandsStandsAt as stands_at, greeted_stands, asked_stands, end_stands, begin_stands, was_within, now_within}

module _ (course : Course) (whole : List Handled) where
  abbrev pub may : ℕ → Bool
  may n = may_begin course whole n

  -- where the request's next call is of this index
  pub record IsFirst (n : ℕ) (owner : Option Owner) (dids : List ServedCall) : Type 0 where
    pub mine : is_of course.owner owner ≡ true → may (first_call dids n) ≡ true
    pub others : is_of course.owner owner ≡ false → list_any (owns course) dids ≡ false

  abbrev IsFree : List ServedCall → Type 0
  IsFree dids = dids ≡ []

  abbrev pub StandsAt : Stage → ℕ → List ServedCall → Type 0
  StandsAt = stands_at IsFirst IsFree

  -- A CALL ----------------------------------------------------------------------------------------

  record Opened (dids : List ServedCall) (did : ServedCall) (rests : List Sent) : Type 0 where
    next : ℕ
    is_next : is_of course.owner did.sent.owner ≡ true → next ≡ did.sent.call + 1
    first : IsFirst next did.sent.owner (dids ++ did ∷ [])
    row : in_row next (filter (is_mine course) rests) ≡ true
    begins : begins_there course whole (dids ++ did ∷ []) ≡ true

  call_opens : (n : ℕ) (dids : List ServedCall) (did : ServedCall) (rests : List Sent) → IsFirst n did.sent.owner dids
      → in_row n (if owned_by course.owner did.sent && true then did.sent ∷ filter (is_mine course) rests else filter (is_mine course) rests) ≡ true → Opened dids did rests
  call_opens n dids did rests first row = by (owned_by course.owner did.sent) refl row
    where
      other : {A : Type 0} → owned_by course.owner did.sent ≡ true → owned_by course.owner did.sent ≡ false → A
      other own not_own = absurd (let same : true ≡ false = sym own ∙ not_own in let none : ⊥ = cc in none)

      by : (own : Bool) → owned_by course.owner did.sent ≡ own → in_row n (if own && true then did.sent ∷ filter (is_mine course) rests else filter (is_mine course) rests) ≡ true → Opened dids did rests
      by true own row =
          let parts = and_parts (did.sent.call == n) (in_row (n + 1) (filter (is_mine course) rests)) row in
          let at : did.sent.call ≡ n = eq_from did.sent.call n parts.0 in
          record {
            next = n + 1;
            is_next = λ same. ap (λ (k : ℕ). k + 1) (sym at);
            first = record { mine = λ same. ap may (first_more course dids did n (n + 1) at) ∙ first.mine own; others = λ differs. other own differs };
            row = parts.1;
            begins = or_right (not (list_any (owns course) (dids ++ did ∷ []))) (may (first_call (dids ++ did ∷ []) 0)) (ap may (first_more course dids did n 0 at) ∙ first.mine own);
          }
      by false own row =
          let none : list_any (owns course) (dids ++ did ∷ []) ≡ false =
          list_any-append (owns course) dids (did ∷ []) ∙ or_from (list_any (owns course) dids) (list_any (owns course) (did ∷ [])) (first.others own) (or_from (owned_by course.owner did.sent) false own refl) in
          record {
            next = n;
            is_next = λ same. other same own;
            first = record { mine = λ same. other same own; others = λ differs. none };
            row = row;
            begins = ap (λ (any : Bool). implies any (may (first_call (dids ++ did ∷ []) 0))) none;
          }

  -- WHAT A SESSION DID ----------------------------------------------------------------------------

  abbrev pub knows : Ran → Bool
  knows ran = list_all (begins_there course whole) ran.over && begins_there course whole ran.pieces

  -- an item of the whole list that ended a transaction
  abbrev pub MayEnd : Sent → Item → Type 0
  MayEnd sent (item.Call marked call answers draws) = owned_by course.owner sent ≡ true → ends_on_server answers ≡ true → may (sent.call + 1) ≡ true
  MayEnd sent _ = Unit {0}

  data Next (rests : List Sent) (stage : Stage) (later : Ran) (one : Item) : Type 0 where
    GoesOn : (n : ℕ) → StandsAt stage n later.pieces → in_row n (filter (is_mine course) rests) ≡ true → knows later ≡ true → Next rests stage later one
    IsDone : (is_last one || is_stopped one) ≡ true → knows later ≡ true → Next rests stage later one

  did_next : (rests : List Sent) (stage : Stage) (owner : Option Owner) (ran : Ran) (committed ended : Bool) (dids : List ServedCall) (one : Item) (n : ℕ) → list_all (begins_there course whole) ran.over ≡ true → begins_there course whole dids ≡ true
      → ((pieces : List ServedCall) → IsFirst n owner pieces → StandsAt stage n pieces) → IsFirst n owner dids → ((committed || ended) ≡ true → is_of course.owner owner ≡ true → may n ≡ true) → in_row n (filter (is_mine course) rests) ≡ true
      → Next rests stage (did_all ran committed ended dids) one
  did_next rests stage owner ran true ended dids one n over begins stands first ends row =
      GoesOn n (stands [] (record { mine = ends refl; others = λ differs. refl })) row
      (and_from (list_all (begins_there course whole) (ran.over ++ dids ∷ [])) true (append_all (begins_there course whole) ran.over (dids ∷ []) over (one_all (begins_there course whole) dids begins)) refl)
  did_next rests stage owner ran false true dids one n over begins stands first ends row =
      GoesOn n (stands [] (record { mine = ends refl; others = λ differs. refl })) row (and_from (list_all (begins_there course whole) ran.over) true over refl)
  did_next rests stage owner ran false false dids one n over begins stands first ends row = GoesOn n (stands dids first) row (and_from (list_all (begins_there course whole) ran.over) (begins_there course whole dids) over begins)

  begun_next : (rests : List Sent) (stage : Stage) (n : ℕ) (ran : Ran) (sent : Sent) (settings : List (List ℕ × Value)) → is_right (next_stage stage sent.owner (up.Begin settings)) ≡ true → in_row n (filter (is_mine course) rests) ≡ true
      → implies (owned_by course.owner sent) (is_behind_decided course.report.calls sent.call) ≡ true → follows_so (Some sent) rests ≡ true → list_all (begins_there course whole) ran.over ≡ true
      → Next rests (next_stage stage sent.owner (up.Begin settings)) (ran_item ran sent (item.Begin settings)) (item.Begin settings)
  begun_next rests stage n ran sent settings right row carry follow over = by (owned_by course.owner sent) refl carry
    where
      known : (list_all (begins_there course whole) ran.over && true) ≡ true
      known = and_from (list_all (begins_there course whole) ran.over) true over refl

      by : (own : Bool) → owned_by course.owner sent ≡ own → implies own (is_behind_decided course.report.calls sent.call) ≡ true → Next rests (next_stage stage sent.owner (up.Begin settings)) (ran_item ran sent (item.Begin settings)) (item.Begin settings)
      by true own carry =
          GoesOn sent.call
          (begin_stands IsFirst IsFree stage sent.owner settings sent.call [] right (record { mine = λ is. or_left (is_behind_decided course.report.calls sent.call) (list_any (ends_before course sent.call) whole) carry; others = λ differs. refl }))
          (row_from course n sent rests own follow row) known
      by false own carry =
          GoesOn n
          (begin_stands IsFirst IsFree stage sent.owner settings n [] right (record { mine = λ is. absurd (let both : true ≡ false = sym is ∙ own in let none : ⊥ = cc in none); others = λ differs. refl })) row known

  -- a commit ends the server's transaction
  ends_server : (last : Option Answer) → option_map_or is_committed last false ≡ true → (option_map_or (λ a. is_committed a || (is_conflict a || is_rolled_back a)) last false || option_map_or is_no_commit last false) ≡ true
  ends_server None is = absurd (let none : ⊥ = cc in none)
  ends_server (Some answer.Committed) is = refl
  ends_server (Some other) is = absurd (let none : ⊥ = cc in none)

  either_ends : (answers : List Answer) → (ends_committed answers || ends_on_server answers) ≡ true → ends_on_server answers ≡ true
  either_ends answers is = by (ends_committed answers) (ends_on_server answers) (ends_server (last_answer answers)) is
    where
      by : (committed ended : Bool) → (committed ≡ true → ended ≡ true) → (committed || ended) ≡ true → ended ≡ true
      by true ended also is = also refl
      by false ended also is = is

  one_next : (rests : List Sent) (stage : Stage) (n : ℕ) (ran : Ran) (sent : Sent) (frame : Up) (one : Item) → Deal frame one → is_right (next_stage stage sent.owner frame) ≡ true
      → in_row n (if owned_by course.owner sent && is_call frame then sent ∷ filter (is_mine course) rests else filter (is_mine course) rests) ≡ true
      → implies (owned_by course.owner sent) (begins_behind course.report.calls sent.call frame) ≡ true → follows_so (if is_begin_frame frame then Some sent else None) rests ≡ true → MayEnd sent one → StandsAt stage n ran.pieces → knows ran ≡ true
      → Next rests (next_stage stage sent.owner frame) (ran_item ran sent one) one
  one_next rests stage n ran sent _ _ Greets right row carry follow ends stands known =
      GoesOn n (greeted_stands IsFirst IsFree stage sent.owner n ran.pieces right stands) (plain_left (in_row n) (owned_by course.owner sent) (sent ∷ filter (is_mine course) rests) (filter (is_mine course) rests) row) known
  one_next rests stage n ran sent _ _ (Asks x asked result) right row carry follow ends stands known =
      GoesOn n (asked_stands IsFirst IsFree stage sent.owner x n ran.pieces right stands) (plain_left (in_row n) (owned_by course.owner sent) (sent ∷ filter (is_mine course) rests) (filter (is_mine course) rests) row) known
  one_next rests stage n ran sent _ _ (Begins settings) right row carry follow ends stands known =
      begun_next rests stage n ran sent settings right (plain_left (in_row n) (owned_by course.owner sent) (sent ∷ filter (is_mine course) rests) (filter (is_mine course) rests) row) carry follow
      (and_parts (list_all (begins_there course whole) ran.over) (begins_there course whole ran.pieces) known).0
  one_next rests stage n ran sent _ _ Ends right row carry follow ends stands known =
      GoesOn n (end_stands IsFirst IsFree stage sent.owner n [] right refl) (plain_left (in_row n) (owned_by course.owner sent) (sent ∷ filter (is_mine course) rests) (filter (is_mine course) rests) row)
      (and_from (list_all (begins_there course whole) ran.over) true (and_parts (list_all (begins_there course whole) ran.over) (begins_there course whole ran.pieces) known).0 refl)
  one_next rests stage n ran sent _ _ (Calls replay marked kept call answers draws) right row carry follow ends stands known =
      let did : ServedCall = record { sent = sent; mark = marked; piece = record { call = call; answers = answers; draws = draws } } in
      let opened : Opened ran.pieces did rests = call_opens n ran.pieces did rests (was_within IsFirst IsFree stage sent.owner replay kept call n ran.pieces right stands) row in
      did_next rests (next_stage stage sent.owner (up.Call replay kept call)) sent.owner (with_call ran call) (ends_committed answers) (ends_on_server answers) (ran.pieces ++ did ∷ []) (item.Call marked call answers draws) opened.next
      (ap (list_all (begins_there course whole)) (set_beside ran call).over ∙ (and_parts (list_all (begins_there course whole) ran.over) (begins_there course whole ran.pieces) known).0) opened.begins
      (λ pieces. now_within IsFirst IsFree stage sent.owner replay kept call opened.next pieces right) opened.first (λ ended own. ap may (opened.is_next own) ∙ ends own (either_ends answers ended)) opened.row
  one_next rests stage n ran sent _ _ (Stops replay marked kept call) right row carry follow ends stands known =
      let did : ServedCall = record { sent = sent; mark = marked; piece = record { call = call; answers = []; draws = [] } } in
      let parts = and_parts (list_all (begins_there course whole) ran.over) (begins_there course whole ran.pieces) known in
      let opened : Opened ran.pieces did rests = call_opens n ran.pieces did rests (was_within IsFirst IsFree stage sent.owner replay kept call n ran.pieces right stands) row in
      IsDone refl
      (and_from (list_all (begins_there course whole) (ran.over ++ (ran.pieces ++ did ∷ []) ∷ [])) (begins_there course whole ran.pieces)
      (append_all (begins_there course whole) ran.over ((ran.pieces ++ did ∷ []) ∷ []) parts.0 (one_all (begins_there course whole) (ran.pieces ++ did ∷ []) opened.begins)) parts.1)
  one_next rests stage n ran sent _ _ (IsLast frame one is_end same) right row carry follow ends stands known = IsDone is_end (ap knows (same ran sent) ∙ known)

  -- ALL THAT IT SERVED ----------------------------------------------------------------------------

  abbrev pub step : Ran → Handled → Ran
  step ran one = ran_item ran one.sent one.served.item

  abbrev pub sents_of : List Handled → List Sent
  sents_of served = map (λ one. one.sent) served

  abbrev pub AllMayEnd : List Handled → Type 0
  AllMayEnd [] = Unit {0}
  AllMayEnd (one ∷ served) = MayEnd one.sent one.served.item × AllMayEnd served

  pub all_known : (served : List Handled) (stage : Stage) (n : ℕ) (ran : Ran) (commits : ℕ) (begin : Option Sent) → handled_from commits served ≡ true → none_behind served ≡ true → is_right (fold moved stage (sents_of served)) ≡ true
      → in_row n (filter (is_mine course) (sents_of served)) ≡ true → list_all (carries course) (sents_of served) ≡ true → follows_so begin (sents_of served) ≡ true → AllMayEnd served → StandsAt stage n ran.pieces → knows ran ≡ true
      → knows (fold step ran served) ≡ true
  all_known [] stage n ran commits begin handled lone right row carry follow ends stands known = known
  all_known (one ∷ others) stage n ran commits begin handled lone right row carry follow ends stands known =
      by (one_next (sents_of others) stage n ran one.sent one.sent.frame one.served.item (handled_deal now one parts.0) (was_right (moved stage one.sent) (sents_of others) right) row carried.0 followed ends.0 stands known)
      (λ m stands_now row_now known_now. all_known others (moved stage one.sent) m (step ran one) now (begin_in one.sent) parts.1 (lone_later one others lone) right row_now carried.1 followed ends.1 stands_now known_now)
    where
      now : ℕ
      now = counted_with commits one.served.item

      parts : (is_handled now one ≡ true) × (handled_from now others ≡ true)
      parts = and_parts (is_handled now one) (handled_from now others) handled

      carried : (carries course one.sent ≡ true) × (list_all (carries course) (sents_of others) ≡ true)
      carried = and_parts (carries course one.sent) (list_all (carries course) (sents_of others)) carry

      followed : follows_so (begin_in one.sent) (sents_of others) ≡ true
      followed = (and_parts _ (follows_so (begin_in one.sent) (sents_of others)) follow).1

      by : Next (sents_of others) (moved stage one.sent) (step ran one) one.served.item
          → ((m : ℕ) → StandsAt (moved stage one.sent) m (step ran one).pieces → in_row m (filter (is_mine course) (sents_of others)) ≡ true → knows (step ran one) ≡ true → knows (fold step (step ran one) others) ≡ true)
          → knows (fold step (step ran one) others) ≡ true
      by (GoesOn m stands row known) again = again m stands row known
      by (IsDone ends known) again = subst (λ (more : List Handled). knows (fold step (step ran one) more) ≡ true) (sym (none_later one others lone ends)) known
