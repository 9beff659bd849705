-- A transaction that a connection ran and that has a call of a request has all its calls from the
-- request's script, in a row from the first one.
use Rattle.std.proofs.Common.{◌≡◌, refl, sym, ap, subst, ◌∙◌, Bool, true, false, ℕ, ◌+◌, ◌&&◌, ◌||◌, length, List, [], ◌∷◌, ◌++◌, map, filter, fold, Option, if◌then◌else◌, arith}
use Rattle.std.specs.Prelude.{◌==◌, not, slice_get}
use Rattle.std.specs.List.{list_all, list_any}
use Rattle.std.specs.Option.{option_map_or}
use Rattle.std.proofs.lemmas.Bool.{and_parts, and_from, or_from, or_right}
use Rattle.std.proofs.lemmas.List.{length_push}
use Rattle.std.proofs.lemmas.List.Folds.{list_any-append}
use Rattle.svc_values.specs.declared.answer.Answer.{Answer}
use Rattle.svc_values.specs.declared.call.Call.{Call}
use Rattle.svc_values.specs.declared.draw.Draw.{Draw}
use Rattle.svc_values.specs.declared.entry.Ltxid.{Ltxid}
use Rattle.svc_values.specs.declared.frame.Up.{Up}
use Rattle.svc_values.specs.declared.frame.Up.TheVariants as up
use Rattle.svc_values.specs.declared.value.Value.{Value}
use Rattle.svc_values.specs.meaning.Endings.{ends_committed}
use Rattle.svc_values.specs.meaning.Same.{same_bool, same_call}
use Rattle.svc_values.specs.SameLaws.{same_call_decides}
use Rattle.outage_schedule.specs.declared.item.Item.{Item}
use Rattle.outage_schedule.specs.declared.item.Item.TheVariants as item
use Rattle.outage_schedule.specs.declared.note.AskResult.{AskResult}
use Rattle.world_model.specs.records.Basic.{is_stopped, none_behind}
use Rattle.world_model.specs.meaning.Crashing.{is_crashed_item}
use Rattle.world_model.specs.meaning.Frames.{Owner, Sent, Handled}
use Rattle.invariant_laws.specs.Invariant.{Invariant}
use Rattle.world_model.specs.meaning.Links.{Link}
use Rattle.world_model.specs.Parts.{implies}
use Rattle.invariant_laws.specs.Same.{ServedCall, Ran, did_all, ends_on_server, first_call, has_script_calls, ran_item, run_script_calls, runs_script_calls, is_scripts, scripts_from, with_call}
use Rattle.world_model.specs.Sames.{is_of, owned_by}
use Rattle.world_model.specs.meaning.Serving.{is_item_of, is_last}
use Rattle.invariant_laws.specs.Shown.{in_row, is_call, is_scripts as is_script_frame}
use Rattle.world_model.specs.Traced.{Traced, Course}
use Rattle.world_model.specs.records.Wire.{Stage, New, Greeted, Told, Repeated, Begun, Rested, Shut, Wrong, counted_with, handled_from, is_handled, next_stage, is_right}
use Rattle.world_model.proofs.Offered.{append_all, one_all, moved, lone_later, link_lives_none_later as none_later, Was, Ordinary, Halted, was_so, eq_from}
use Rattle.once_laws.proofs.calls.RanCalls.{follows, is_mine, was_right}
use Rattle.invariant_laws.proofs.Offered.{none_ran, over_same, settings_decide}
use Rattle.once_laws.proofs.calls.ServedRows.{InRow, held_so}
use Rattle.once_laws.proofs.calls.StageStands.{StandsAt as stands_at, greeted_stands, asked_stands, was_within, now_within}

-- WHAT WAS DONE WITH A FRAME ----------------------------------------------------------------------

-- A session served the frame with this item: behind the others that are told here it serves none.
pub data Deal : Up → Item → Type 0 where
  Greets : Deal up.Connect item.Connect
  Asks : (x asked : Ltxid) (result : AskResult) → Deal (up.Outcome x) (item.Outcome asked result)
  Begins : (settings : List (List ℕ × Value)) → Deal (up.Begin settings) (item.Begin settings)
  Ends : Deal up.End item.End
  Calls : (replay marked : Bool) (kept : List Draw) (call : Call) (answers : List Answer) (draws : List Draw) → Deal (up.Call replay kept call) (item.Call marked call answers draws)
  Stops : (replay marked : Bool) (kept : List Draw) (call : Call) → Deal (up.Call replay kept call) (item.CrashedCall marked call)
  IsLast : (frame : Up) (one : Item) → (is_last one || is_stopped one) ≡ true → ((ran : Ran) (sent : Sent) → ran_item ran sent one ≡ ran) → Deal frame one

item_deal : (frame : Up) (one : Item) → is_item_of frame one ≡ true → Deal frame one
item_deal up.Connect item.Connect is = Greets
item_deal (up.Begin settings) (item.Begin begun) is = subst (λ (one : List (List ℕ × Value)). Deal (up.Begin settings) (item.Begin one)) (sym ((settings_decide begun settings).0 is)) (Begins settings)
item_deal (up.Call replay kept call) (item.Call marked served answers draws) is =
    subst (λ (c : Call). Deal (up.Call replay kept call) (item.Call marked c answers draws)) (sym ((same_call_decides served call).0 (and_parts (same_bool marked replay) (same_call served call) is).1))
    (Calls replay marked kept call answers draws)
item_deal (up.Call replay kept call) (item.Blocked served) is = IsLast (up.Call replay kept call) (item.Blocked served) refl (λ ran sent. refl)
item_deal (up.Outcome x) (item.Outcome asked result) is = Asks x asked result
item_deal up.End item.End is = Ends
item_deal up.Close item.Close is = IsLast up.Close item.Close refl (λ ran sent. refl)
item_deal frame one is = absurd (let never : ⊥ = cc in never)

crashed_deal : (frame : Up) (one : Item) → is_crashed_item frame one ≡ true → Deal frame one
crashed_deal (up.Call replay kept call) (item.CrashedCall marked served) is =
    subst (λ (c : Call). Deal (up.Call replay kept call) (item.CrashedCall marked c)) (sym ((same_call_decides served call).0 (and_parts (same_bool marked replay) (same_call served call) is).1)) (Stops replay marked kept call)
crashed_deal (up.Outcome x) (item.CrashedOutcome asked) is = IsLast (up.Outcome x) (item.CrashedOutcome asked) refl (λ ran sent. refl)
crashed_deal frame one is = absurd (let never : ⊥ = cc in never)

pub handled_deal : (commits : ℕ) (one : Handled) → is_handled commits one ≡ true → Deal one.sent.frame one.served.item
handled_deal commits one is = by (was_so commits one is)
  where
    by : Was commits one → Deal one.sent.frame one.served.item
    by (Ordinary item_is same) = item_deal one.sent.frame one.served.item item_is
    by (Halted crashed none) = crashed_deal one.sent.frame one.served.item crashed

-- LISTS OF CALLS ----------------------------------------------------------------------------------

pub plain_left : {A : Type 0} (test : List A → Bool) (own : Bool) (xs ys : List A) → test (if own && false then xs else ys) ≡ true → test ys ≡ true
plain_left test true xs ys is = is
plain_left test false xs ys is = is

module _ (course : Course) where
  abbrev pub owns : ServedCall → Bool
  owns did = owned_by course.owner did.sent

  pub first_more : (dids : List ServedCall) (did : ServedCall) (n m : ℕ) → did.sent.call ≡ n → first_call (dids ++ did ∷ []) m ≡ first_call dids n
  first_more [] did n m at = at
  first_more (first ∷ dids) did n m at = refl

  scripts_more : (index : ℕ) (dids : List ServedCall) (did : ServedCall) (n : ℕ) → scripts_from course index dids ≡ true → index + length dids ≡ n → is_scripts course n did ≡ true → scripts_from course index (dids ++ did ∷ []) ≡ true
  scripts_more index [] did n all at is =
      let same : n ≡ index = omega arith in and_from (is_scripts course index did) true (subst (λ (k : ℕ). is_scripts course k did ≡ true) same is) refl
  scripts_more index (first ∷ dids) did n all at is =
      let parts = and_parts (is_scripts course index first) (scripts_from course (index + 1) dids) all in
      let rest : (index + 1) + length dids ≡ n = omega arith in
      and_from (is_scripts course index first) (scripts_from course (index + 1) (dids ++ did ∷ [])) parts.0 (scripts_more (index + 1) dids did n parts.1 rest is)

  -- the open transaction of this owner, where the request's next call is of this index
  record IsOpen (n : ℕ) (owner : Option Owner) (dids : List ServedCall) : Type 0 where
    mine : is_of course.owner owner ≡ true → (scripts_from course (first_call dids n) dids ≡ true) × (first_call dids n + length dids ≡ n)
    others : is_of course.owner owner ≡ false → list_any owns dids ≡ false

  open_none : (n : ℕ) (owner : Option Owner) → IsOpen n owner []
  open_none n owner = record { mine = λ is. (refl, let same : n + 0 ≡ n = omega arith in same); others = λ is. refl }

  abbrev IsFree : List ServedCall → Type 0
  IsFree dids = dids ≡ []

  abbrev StandsAt : Stage → ℕ → List ServedCall → Type 0
  StandsAt = stands_at IsOpen IsFree

  none_stands : (stage : Stage) (n : ℕ) → StandsAt stage n []
  none_stands (Repeated owner) n = open_none n owner
  none_stands (Begun owner) n = open_none n owner
  none_stands New n = refl
  none_stands (Greeted owner) n = refl
  none_stands (Told owner) n = refl
  none_stands (Rested owner) n = refl
  none_stands Shut n = refl
  none_stands Wrong n = refl

  -- A CALL ----------------------------------------------------------------------------------------

  record Opened (dids : List ServedCall) (did : ServedCall) (rests : List Sent) : Type 0 where
    next : ℕ
    opens : IsOpen next did.sent.owner (dids ++ did ∷ [])
    row : in_row next (filter (is_mine course) rests) ≡ true
    calls : has_script_calls course (dids ++ did ∷ []) ≡ true

  call_opens : (n : ℕ) (dids : List ServedCall) (did : ServedCall) (rests : List Sent) → IsOpen n did.sent.owner dids
      → in_row n (if owned_by course.owner did.sent && true then did.sent ∷ filter (is_mine course) rests else filter (is_mine course) rests) ≡ true
      → implies (owned_by course.owner did.sent && true) (option_map_or (same_call did.piece.call) (slice_get course.request.calls did.sent.call) false) ≡ true → Opened dids did rests
  call_opens n dids did rests opens row script = by (owned_by course.owner did.sent) refl row script
    where
      script_at : Bool
      script_at = option_map_or (same_call did.piece.call) (slice_get course.request.calls did.sent.call) false

      other : {A : Type 0} → owned_by course.owner did.sent ≡ true → owned_by course.owner did.sent ≡ false → A
      other own not_own = absurd (let same : true ≡ false = sym own ∙ not_own in let none : ⊥ = cc in none)

      by : (own : Bool) → owned_by course.owner did.sent ≡ own → in_row n (if own && true then did.sent ∷ filter (is_mine course) rests else filter (is_mine course) rests) ≡ true → implies (own && true) script_at ≡ true → Opened dids did rests
      by true own row script =
          let parts = and_parts (did.sent.call == n) (in_row (n + 1) (filter (is_mine course) rests)) row in
          let at : did.sent.call ≡ n = eq_from did.sent.call n parts.0 in
          let here = opens.mine own in
          let is : is_scripts course n did ≡ true =
          and_from (owned_by course.owner did.sent) ((did.sent.call == n) && option_map_or (same_call did.piece.call) (slice_get course.request.calls n) false) own
          (and_from (did.sent.call == n) (option_map_or (same_call did.piece.call) (slice_get course.request.calls n) false) parts.0
          (subst (λ (k : ℕ). option_map_or (same_call did.piece.call) (slice_get course.request.calls k) false ≡ true) at script)) in
          let all : scripts_from course (first_call dids n) (dids ++ did ∷ []) ≡ true = scripts_more (first_call dids n) dids did n here.0 here.1 is in
          let now : scripts_from course (first_call (dids ++ did ∷ []) (n + 1)) (dids ++ did ∷ []) ≡ true =
          subst (λ (k : ℕ). scripts_from course k (dids ++ did ∷ []) ≡ true) (sym (first_more dids did n (n + 1) at)) all in
          let start : scripts_from course (first_call (dids ++ did ∷ []) 0) (dids ++ did ∷ []) ≡ true = subst (λ (k : ℕ). scripts_from course k (dids ++ did ∷ []) ≡ true) (sym (first_more dids did n 0 at)) all in
          let long : length (dids ++ did ∷ []) ≡ length dids + 1 = length_push dids did in
          let first : first_call (dids ++ did ∷ []) (n + 1) ≡ first_call dids n = first_more dids did n (n + 1) at in
          let before : first_call dids n + length dids ≡ n = here.1 in
          let whole : first_call (dids ++ did ∷ []) (n + 1) + length (dids ++ did ∷ []) ≡ n + 1 = omega (arith, long, first, before) in
          record {
            next = n + 1;
            opens = record { mine = λ same. (now, whole); others = λ differs. other own differs };
            row = parts.1;
            calls = or_right (not (list_any owns (dids ++ did ∷ []))) (scripts_from course (first_call (dids ++ did ∷ []) 0) (dids ++ did ∷ [])) start;
          }
      by false own row script =
          let none : list_any owns (dids ++ did ∷ []) ≡ false =
          list_any-append owns dids (did ∷ []) ∙ or_from (list_any owns dids) (list_any owns (did ∷ [])) (opens.others own) (or_from (owned_by course.owner did.sent) false own refl) in
          record {
            next = n;
            opens = record { mine = λ same. other same own; others = λ differs. none };
            row = row;
            calls = ap (λ (any : Bool). implies any (scripts_from course (first_call (dids ++ did ∷ []) 0) (dids ++ did ∷ []))) none;
          }

  -- WHAT A SESSION DID ----------------------------------------------------------------------------

  abbrev knows : Ran → Bool
  knows ran = list_all (has_script_calls course) ran.over && has_script_calls course ran.pieces

  -- Behind an item: where it stands, or that it is the last one.
  data Next (rests : List Sent) (stage : Stage) (later : Ran) (one : Item) : Type 0 where
    GoesOn : (n : ℕ) → StandsAt stage n later.pieces → in_row n (filter (is_mine course) rests) ≡ true → knows later ≡ true → Next rests stage later one
    IsDone : (is_last one || is_stopped one) ≡ true → knows later ≡ true → Next rests stage later one

  did_next : (rests : List Sent) (stage : Stage) (ran : Ran) (committed ended : Bool) (dids : List ServedCall) (one : Item) (n : ℕ) → list_all (has_script_calls course) ran.over ≡ true → has_script_calls course dids ≡ true
      → StandsAt stage n dids → in_row n (filter (is_mine course) rests) ≡ true → Next rests stage (did_all ran committed ended dids) one
  did_next rests stage ran true ended dids one n over calls stands row =
      GoesOn n (none_stands stage n) row
      (and_from (list_all (has_script_calls course) (ran.over ++ dids ∷ [])) true (append_all (has_script_calls course) ran.over (dids ∷ []) over (one_all (has_script_calls course) dids calls)) refl)
  did_next rests stage ran false true dids one n over calls stands row = GoesOn n (none_stands stage n) row (and_from (list_all (has_script_calls course) ran.over) true over refl)
  did_next rests stage ran false false dids one n over calls stands row = GoesOn n stands row (and_from (list_all (has_script_calls course) ran.over) (has_script_calls course dids) over calls)

  one_next : (rests : List Sent) (stage : Stage) (n : ℕ) (ran : Ran) (sent : Sent) (frame : Up) (one : Item) → Deal frame one → is_right (next_stage stage sent.owner frame) ≡ true
      → in_row n (if owned_by course.owner sent && is_call frame then sent ∷ filter (is_mine course) rests else filter (is_mine course) rests) ≡ true
      → implies (owned_by course.owner sent && is_call frame) (is_script_frame course sent frame) ≡ true → StandsAt stage n ran.pieces → knows ran ≡ true → Next rests (next_stage stage sent.owner frame) (ran_item ran sent one) one
  one_next rests stage n ran sent _ _ Greets right row script stands known =
      GoesOn n (greeted_stands IsOpen IsFree stage sent.owner n ran.pieces right stands) (plain_left (in_row n) (owned_by course.owner sent) (sent ∷ filter (is_mine course) rests) (filter (is_mine course) rests) row) known
  one_next rests stage n ran sent _ _ (Asks x asked result) right row script stands known =
      GoesOn n (asked_stands IsOpen IsFree stage sent.owner x n ran.pieces right stands) (plain_left (in_row n) (owned_by course.owner sent) (sent ∷ filter (is_mine course) rests) (filter (is_mine course) rests) row) known
  one_next rests stage n ran sent _ _ (Begins settings) right row script stands known =
      GoesOn n (none_stands (next_stage stage sent.owner (up.Begin settings)) n) (plain_left (in_row n) (owned_by course.owner sent) (sent ∷ filter (is_mine course) rests) (filter (is_mine course) rests) row)
      (and_from (list_all (has_script_calls course) ran.over) true (and_parts (list_all (has_script_calls course) ran.over) (has_script_calls course ran.pieces) known).0 refl)
  one_next rests stage n ran sent _ _ Ends right row script stands known =
      GoesOn n (none_stands (next_stage stage sent.owner up.End) n) (plain_left (in_row n) (owned_by course.owner sent) (sent ∷ filter (is_mine course) rests) (filter (is_mine course) rests) row)
      (and_from (list_all (has_script_calls course) ran.over) true (and_parts (list_all (has_script_calls course) ran.over) (has_script_calls course ran.pieces) known).0 refl)
  one_next rests stage n ran sent _ _ (Calls replay marked kept call answers draws) right row script stands known =
      let did : ServedCall = record { sent = sent; mark = marked; piece = record { call = call; answers = answers; draws = draws } } in
      let parts = and_parts (list_all (has_script_calls course) ran.over) (has_script_calls course ran.pieces) known in
      let opened : Opened ran.pieces did rests = call_opens n ran.pieces did rests (was_within IsOpen IsFree stage sent.owner replay kept call n ran.pieces right stands) row script in
      did_next rests (next_stage stage sent.owner (up.Call replay kept call)) (with_call ran call) (ends_committed answers) (ends_on_server answers) (ran.pieces ++ did ∷ []) (item.Call marked call answers draws) opened.next
      (ap (list_all (has_script_calls course)) (over_same ran call) ∙ parts.0) opened.calls
      (now_within IsOpen IsFree stage sent.owner replay kept call opened.next (ran.pieces ++ did ∷ []) right opened.opens) opened.row
  one_next rests stage n ran sent _ _ (Stops replay marked kept call) right row script stands known =
      let did : ServedCall = record { sent = sent; mark = marked; piece = record { call = call; answers = []; draws = [] } } in
      let parts = and_parts (list_all (has_script_calls course) ran.over) (has_script_calls course ran.pieces) known in
      let opened : Opened ran.pieces did rests = call_opens n ran.pieces did rests (was_within IsOpen IsFree stage sent.owner replay kept call n ran.pieces right stands) row script in
      IsDone refl
      (and_from (list_all (has_script_calls course) (ran.over ++ (ran.pieces ++ did ∷ []) ∷ [])) (has_script_calls course ran.pieces)
      (append_all (has_script_calls course) ran.over ((ran.pieces ++ did ∷ []) ∷ []) parts.0 (one_all (has_script_calls course) (ran.pieces ++ did ∷ []) opened.calls)) parts.1)
  one_next rests stage n ran sent _ _ (IsLast frame one ends same) right row script stands known = IsDone ends (ap knows (same ran sent) ∙ known)

  -- all that it served
  abbrev step : Ran → Handled → Ran
  step ran one = ran_item ran one.sent one.served.item

  abbrev sents_of : List Handled → List Sent
  sents_of served = map (λ one. one.sent) served

  all_known : (served : List Handled) (stage : Stage) (n : ℕ) (ran : Ran) (commits : ℕ) → handled_from commits served ≡ true → none_behind served ≡ true → is_right (fold moved stage (sents_of served)) ≡ true
      → in_row n (filter (is_mine course) (sents_of served)) ≡ true → list_all (follows course) (sents_of served) ≡ true → StandsAt stage n ran.pieces → knows ran ≡ true → knows (fold step ran served) ≡ true
  all_known [] stage n ran commits handled lone right row scripts stands known = known
  all_known (one ∷ others) stage n ran commits handled lone right row scripts stands known =
      by (one_next (sents_of others) stage n ran one.sent one.sent.frame one.served.item (handled_deal now one parts.0) (was_right (moved stage one.sent) (sents_of others) right) row script.0 stands known)
      (λ m stands_now row_now known_now. all_known others (moved stage one.sent) m (step ran one) now parts.1 (lone_later one others lone) right row_now script.1 stands_now known_now)
    where
      now : ℕ
      now = counted_with commits one.served.item

      parts : (is_handled now one ≡ true) × (handled_from now others ≡ true)
      parts = and_parts (is_handled now one) (handled_from now others) handled

      script : (follows course one.sent ≡ true) × (list_all (follows course) (sents_of others) ≡ true)
      script = and_parts (follows course one.sent) (list_all (follows course) (sents_of others)) scripts

      by : Next (sents_of others) (moved stage one.sent) (step ran one) one.served.item
          → ((m : ℕ) → StandsAt (moved stage one.sent) m (step ran one).pieces → in_row m (filter (is_mine course) (sents_of others)) ≡ true → knows (step ran one) ≡ true → knows (fold step (step ran one) others) ≡ true)
          → knows (fold step (step ran one) others) ≡ true
      by (GoesOn m stands row known) again = again m stands row known
      by (IsDone ends known) again = subst (λ (more : List Handled). knows (fold step (step ran one) more) ≡ true) (sym (none_later one others lone ends)) known

-- A CONNECTION ------------------------------------------------------------------------------------

link_scripts : (course : Course) (link : Link) → InRow course link.served → runs_script_calls course link ≡ true
link_scripts course link row = all_known course link.served New row.start none_ran 0 row.handled row.lone row.right row.row row.scripts refl refl

pub scripts_ran : (t : Traced) → Invariant t → run_script_calls t ≡ true
scripts_ran t whole = held_so t whole.orderly whole.shown.rows runs_script_calls (λ index course number link at there row. link_scripts course link row)
