-- A transaction that a connection ran and that has a call of a request starts with the request's
-- settings, changed by each `set` before its first call; and its session has them, changed by each
-- `set` that it served too.
use Rattle.std.proofs.Common.{◌≡◌, refl, sym, ap, subst, ◌∙◌, Bool, true, false, ℕ, zero, suc, ◌+◌, ◌&&◌, ◌||◌, List, [], ◌∷◌, ◌++◌, map, filter, fold, take, Option, Some, None, if◌then◌else◌, arith}
use Rattle.std.specs.Prelude.{◌==◌, not, slice_get}
use Rattle.std.specs.List.{list_all, list_any}
use Rattle.std.specs.Option.{option_map_or}
use Rattle.std.proofs.lemmas.Bool.{and_parts, and_from, or_from, or_right}
use Rattle.std.proofs.lemmas.List.Folds.{list_any-append}
use Rattle.std.proofs.lemmas.List.Sums.{fold-append}
use Rattle.svc_values.specs.declared.call.Call.{Call}
use Rattle.svc_values.specs.declared.draw.Draw.{Draw}
use Rattle.svc_values.specs.declared.frame.Up.{Up}
use Rattle.svc_values.specs.declared.frame.Up.TheVariants as up
use Rattle.svc_values.specs.declared.value.Value.{Value}
use Rattle.svc_values.specs.meaning.Endings.{ends_committed}
use Rattle.svc_values.specs.meaning.Same.{same_call}
use Rattle.svc_values.specs.SameLaws.{same_call_decides}
use Rattle.svc_values.specs.meaning.SettingsList.{NamedValues, same_settings, with_set, with_sets}
use Rattle.outage_schedule.specs.declared.document.Request.{Request}
use Rattle.outage_schedule.specs.declared.item.Item.{Item}
use Rattle.outage_schedule.specs.declared.item.Item.TheVariants as item
use Rattle.world_model.specs.records.Basic.{is_stopped, none_behind}
use Rattle.invariant_laws.specs.Begins.{begin_in, carries_settings, follows_begin, has_start, have_starts, is_begin_frame, next_behind, settings_before, stands_before}
use Rattle.world_model.specs.meaning.Frames.{Owner, Sent, Handled}
use Rattle.world_model.specs.Parts.{implies}
use Rattle.invariant_laws.specs.Same.{ServedCall, Ran, begins, did_all, ends_on_server, first_call, ran_item, with_call}
use Rattle.world_model.specs.Sames.{is_of, owned_by, same_owners}
use Rattle.world_model.specs.meaning.Serving.{is_last}
use Rattle.invariant_laws.specs.Shown.{in_row, is_call, is_scripts as is_script_frame}
use Rattle.world_model.specs.Traced.{Course}
use Rattle.world_model.specs.records.Wire.{Stage, New, Greeted, Told, Repeated, Begun, Rested, Shut, Wrong, counted_with, handled_from, is_handled, next_stage, is_right}
use Rattle.invariant_laws.proofs.Offered.{owners_are, kept_settings_carries as carries, IsBeside, set_beside, set_settings, settings_decide}
use Rattle.world_model.proofs.Offered.{moved, lone_later, link_lives_none_later as none_later, eq_from}
use Rattle.once_laws.proofs.calls.RanCalls.{follows, is_mine, was_right}
use Rattle.once_laws.proofs.calls.RanScripts.{Deal, Greets, Asks, Begins, Ends, Calls, Stops, IsLast, handled_deal, first_more, owns, plain_left}
use Rattle.once_laws.proofs.calls.StageStands.{StandsAt as stands_at, greeted_stands, asked_stands, end_stands, begin_stands, was_within, now_within}

-- SETTINGS ----------------------------------------------------------------------------------------

take_next : (calls : List Call) (n : ℕ) (call : Call) → slice_get calls n ≡ Some call → take (n + 1) calls ≡ take n calls ++ call ∷ []
take_next [] n call is = absurd (let none : ⊥ = cc in none)
take_next (first ∷ calls) zero call is = let same : first ≡ call = cc in ap (λ (c : Call). c ∷ []) same
take_next (first ∷ calls) (suc n) call is =
    let next : suc n + 1 ≡ suc (n + 1) = omega arith in ap (λ (k : ℕ). take k (first ∷ calls)) next ∙ ap (λ (rest : List Call). first ∷ rest) (take_next calls n call is)

next_settings : (request : Request) (n : ℕ) (call : Call) → slice_get request.calls n ≡ Some call → settings_before request (n + 1) ≡ with_set (settings_before request n) call
next_settings request n call is = ap (with_sets request.settings) (take_next request.calls n call is) ∙ fold-append with_set request.settings (take n request.calls) (call ∷ [])

-- FRAMES IN A ROW ---------------------------------------------------------------------------------

-- of a front of what was sent
abbrev pub follows_so : Option Sent → List Sent → Bool
follows_so begin [] = true
follows_so begin (sent ∷ sents) = option_map_or (λ one. follows_begin one sent) begin true && follows_so (begin_in sent) sents

module _ (course : Course) where
  abbrev pub since : ℕ → NamedValues
  since n = settings_before course.request n

  -- the call behind a Begin is of its index
  pub row_from : (n : ℕ) (begin : Sent) (rests : List Sent) → owned_by course.owner begin ≡ true → follows_so (Some begin) rests ≡ true → in_row n (filter (is_mine course) rests) ≡ true → in_row begin.call (filter (is_mine course) rests) ≡ true
  row_from n begin [] own follow row = refl
  row_from n begin (next ∷ rests) own follow row = subst (λ (k : ℕ). in_row k (filter (is_mine course) (next ∷ rests)) ≡ true) at row
    where
      one : (is_call next.frame ≡ true) × (((next.call == begin.call) && same_owners begin.owner next.owner) ≡ true)
      one = and_parts (is_call next.frame) ((next.call == begin.call) && same_owners begin.owner next.owner) (and_parts (follows_begin begin next) (follows_so (begin_in next) rests) follow).0

      two : ((next.call == begin.call) ≡ true) × (same_owners begin.owner next.owner ≡ true)
      two = and_parts (next.call == begin.call) (same_owners begin.owner next.owner) one.1

      mine : is_mine course next ≡ true
      mine = and_from (owned_by course.owner next) (is_call next.frame) (ap (is_of course.owner) (sym (owners_are begin.owner next.owner two.1)) ∙ own) one.0

      first : in_row n (if is_mine course next then next ∷ filter (is_mine course) rests else filter (is_mine course) rests) ≡ true
      first = row

      here : (next.call == n) ≡ true
      here = (and_parts (next.call == n) (in_row (n + 1) (filter (is_mine course) rests)) (sym (ap (λ (test : Bool). in_row n (if test then next ∷ filter (is_mine course) rests else filter (is_mine course) rests)) mine) ∙ first)).0

      at : n ≡ begin.call
      at = sym (eq_from next.call n here) ∙ eq_from next.call begin.call two.0

  -- WHERE A SESSION STANDS ------------------------------------------------------------------------

  -- where the request's next call is of this index, if it has begun
  pub record IsSet (n : ℕ) (owner : Option Owner) (ran : Ran) (next : Option ℕ) : Type 0 where
    pub mine : is_of course.owner owner ≡ true → (ran.settings ≡ since n) × (ran.at_start ≡ since (first_call ran.pieces n)) × (next ≡ Some n)
    pub others : is_of course.owner owner ≡ false → (list_any (owns course) ran.pieces ≡ false) × (next ≡ None)

  -- it has not, or is over
  pub record IsNone (ran : Ran) (next : Option ℕ) : Type 0 where
    pub pieces : ran.pieces ≡ []
    pub next_is : next ≡ None

  abbrev SetAt : ℕ → Option Owner → Ran × Option ℕ → Type 0
  SetAt n owner at = IsSet n owner at.0 at.1

  abbrev NoneAt : Ran × Option ℕ → Type 0
  NoneAt at = IsNone at.0 at.1

  abbrev pub StandsAt : Stage → ℕ → Ran → Option ℕ → Type 0
  StandsAt stage n ran next = stands_at SetAt NoneAt stage n (ran, next)

  pub was_set : (stage : Stage) (owner : Option Owner) (replay : Bool) (kept : List Draw) (call : Call) (n : ℕ) (ran : Ran) (next : Option ℕ) → is_right (next_stage stage owner (up.Call replay kept call)) ≡ true → StandsAt stage n ran next → IsSet n owner ran next
  was_set stage owner replay kept call n ran next right stands = was_within SetAt NoneAt stage owner replay kept call n (ran, next) right stands

  -- a session that has begun the request has the settings before its next call
  set_known : (n : ℕ) (owner : Option Owner) (ran : Ran) (next : Option ℕ) → IsSet n owner ran next → option_map_or (stands_before course ran) next true ≡ true
  set_known n owner ran next set = by (is_of course.owner owner) refl
    where
      by : (own : Bool) → is_of course.owner owner ≡ own → option_map_or (stands_before course ran) next true ≡ true
      by true own =
          let so = set.mine own in
          ap (λ (found : Option ℕ). option_map_or (stands_before course ran) found true) so.2
          ∙ and_from (same_settings ran.settings (since n)) (same_settings ran.at_start (since (first_call ran.pieces n))) ((settings_decide ran.settings (since n)).1 so.0) ((settings_decide ran.at_start (since (first_call ran.pieces n))).1 so.1)
      by false own = ap (λ (found : Option ℕ). option_map_or (stands_before course ran) found true) (set.others own).1

  none_known : (ran : Ran) (next : Option ℕ) → IsNone ran next → option_map_or (stands_before course ran) next true ≡ true
  none_known ran next none = ap (λ (found : Option ℕ). option_map_or (stands_before course ran) found true) none.next_is

  stage_known : (stage : Stage) (n : ℕ) (ran : Ran) (next : Option ℕ) → StandsAt stage n ran next → option_map_or (stands_before course ran) next true ≡ true
  stage_known (Repeated owner) n ran next set = set_known n owner ran next set
  stage_known (Begun owner) n ran next set = set_known n owner ran next set
  stage_known New n ran next none = none_known ran next none
  stage_known (Greeted owner) n ran next none = none_known ran next none
  stage_known (Told owner) n ran next none = none_known ran next none
  stage_known (Rested owner) n ran next none = none_known ran next none
  stage_known Shut n ran next none = none_known ran next none
  stage_known Wrong n ran next none = none_known ran next none

  -- A CALL ----------------------------------------------------------------------------------------

  -- which call comes next behind one that was served
  abbrev pub next_called : Option ℕ → Sent → Option ℕ
  next_called next sent = if owned_by course.owner sent then Some (sent.call + 1) else next

  record Opened (ran : Ran) (did : ServedCall) (rests : List Sent) (next : Option ℕ) : Type 0 where
    at : ℕ
    set : IsSet at did.sent.owner (record (with_call ran did.piece.call) { pieces = ran.pieces ++ did ∷ [] }) (next_called next did.sent)
    row : in_row at (filter (is_mine course) rests) ≡ true
    starts : has_start course (ran.pieces ++ did ∷ []) ran.at_start ≡ true

  call_opens : (n : ℕ) (ran : Ran) (did : ServedCall) (rests : List Sent) (next : Option ℕ) → IsSet n did.sent.owner ran next
      → in_row n (if owned_by course.owner did.sent && true then did.sent ∷ filter (is_mine course) rests else filter (is_mine course) rests) ≡ true
      → implies (owned_by course.owner did.sent && true) (option_map_or (same_call did.piece.call) (slice_get course.request.calls did.sent.call) false) ≡ true → Opened ran did rests next
  call_opens n ran did rests next set row script = by (owned_by course.owner did.sent) refl row script
    where
      dids : List ServedCall
      dids = ran.pieces ++ did ∷ []

      beside : IsBeside ran did.piece.call
      beside = set_beside ran did.piece.call

      script_at : Bool
      script_at = option_map_or (same_call did.piece.call) (slice_get course.request.calls did.sent.call) false

      found : (call : Option Call) → slice_get course.request.calls did.sent.call ≡ call → option_map_or (same_call did.piece.call) call false ≡ true → slice_get course.request.calls did.sent.call ≡ Some did.piece.call
      found None is same = absurd (let none : ⊥ = cc in none)
      found (Some call) is same = is ∙ ap Some (sym ((same_call_decides did.piece.call call).0 same))

      other : {A : Type 0} → owned_by course.owner did.sent ≡ true → owned_by course.owner did.sent ≡ false → A
      other own not_own = absurd (let same : true ≡ false = sym own ∙ not_own in let none : ⊥ = cc in none)

      by : (own : Bool) → owned_by course.owner did.sent ≡ own → in_row n (if own && true then did.sent ∷ filter (is_mine course) rests else filter (is_mine course) rests) ≡ true → implies (own && true) script_at ≡ true → Opened ran did rests next
      by true own row script =
          let parts = and_parts (did.sent.call == n) (in_row (n + 1) (filter (is_mine course) rests)) row in
          let at : did.sent.call ≡ n = eq_from did.sent.call n parts.0 in
          let here = set.mine own in
          let call : slice_get course.request.calls n ≡ Some did.piece.call = subst (λ (k : ℕ). slice_get course.request.calls k ≡ Some did.piece.call) at (found (slice_get course.request.calls did.sent.call) refl script) in
          let settings : (with_call ran did.piece.call).settings ≡ since (n + 1) =
          set_settings ran did.piece.call ∙ (ap (λ (now : NamedValues). with_set now did.piece.call) here.0 ∙ sym (next_settings course.request n did.piece.call call)) in
          record {
            at = n + 1;
            set = record {
              mine = λ same. (settings, beside.at_start ∙ (here.1 ∙ ap since (sym (first_more course ran.pieces did n (n + 1) at))), ap (λ (test : Bool). if test then Some (did.sent.call + 1) else next) own ∙ ap (λ (k : ℕ). Some (k + 1)) at);
              others = λ differs. other own differs;
            };
            row = parts.1;
            starts = or_right (not (list_any (owns course) dids)) (same_settings ran.at_start (since (first_call dids 0)))
                ((settings_decide ran.at_start (since (first_call dids 0))).1 (here.1 ∙ ap since (sym (first_more course ran.pieces did n 0 at))));
          }
      by false own row script =
          let none : list_any (owns course) dids ≡ false =
          list_any-append (owns course) ran.pieces (did ∷ []) ∙ or_from (list_any (owns course) ran.pieces) (list_any (owns course) (did ∷ [])) (set.others own).0 (or_from (owned_by course.owner did.sent) false own refl) in
          record {
            at = n;
            set = record { mine = λ same. other same own; others = λ differs. (none, ap (λ (test : Bool). if test then Some (did.sent.call + 1) else next) own ∙ (set.others own).1) };
            row = row;
            starts = ap (λ (any : Bool). implies any (same_settings ran.at_start (since (first_call dids 0)))) none;
          }

  -- WHAT A SESSION DID ----------------------------------------------------------------------------

  abbrev pub knows : Ran → Bool
  knows ran = have_starts course ran.over ran.starts && has_start course ran.pieces ran.at_start

  more_starts : (over : List (List ServedCall)) (starts : List NamedValues) (dids : List ServedCall) (start : NamedValues) → have_starts course over starts ≡ true → has_start course dids start ≡ true → have_starts course (over ++ dids ∷ []) (starts ++ start ∷ []) ≡ true
  more_starts [] [] dids start have has = and_from (has_start course dids start) true has refl
  more_starts [] (first ∷ starts) dids start have has = absurd (let none : ⊥ = cc in none)
  more_starts (one ∷ over) [] dids start have has = absurd (let none : ⊥ = cc in none)
  more_starts (one ∷ over) (first ∷ starts) dids start have has =
      let parts = and_parts (has_start course one first) (have_starts course over starts) have in
      and_from (has_start course one first) (have_starts course (over ++ dids ∷ []) (starts ++ start ∷ [])) parts.0 (more_starts over starts dids start parts.1 has)

  -- Behind an item: where it stands, or that it is the last one.
  pub data Next (rests : List Sent) (stage : Stage) (later : Ran) (next : Option ℕ) (one : Item) : Type 0 where
    GoesOn : (n : ℕ) → StandsAt stage n later next → in_row n (filter (is_mine course) rests) ≡ true → knows later ≡ true → Next rests stage later next one
    IsDone : (is_last one || is_stopped one) ≡ true → knows later ≡ true → option_map_or (stands_before course later) next true ≡ true → Next rests stage later next one

  did_next : (rests : List Sent) (stage : Stage) (owner : Option Owner) (ran : Ran) (next : Option ℕ) (committed ended : Bool) (dids : List ServedCall) (one : Item) (n : ℕ) → have_starts course ran.over ran.starts ≡ true → has_start course dids ran.at_start ≡ true
      → ((later : Ran) → IsSet n owner later next → StandsAt stage n later next) → IsSet n owner (record ran { pieces = dids }) next → in_row n (filter (is_mine course) rests) ≡ true → Next rests stage (did_all ran committed ended dids) next one
  did_next rests stage owner ran next true ended dids one n have has stands set row =
      GoesOn n (stands (did_all ran true ended dids) (record { mine = λ own. ((set.mine own).0, (set.mine own).0, (set.mine own).2); others = λ differs. (refl, (set.others differs).1) })) row
      (and_from (have_starts course (ran.over ++ dids ∷ []) (ran.starts ++ ran.at_start ∷ [])) true (more_starts ran.over ran.starts dids ran.at_start have has) refl)
  did_next rests stage owner ran next false true dids one n have has stands set row =
      GoesOn n (stands (begins ran) (record { mine = λ own. ((set.mine own).0, (set.mine own).0, (set.mine own).2); others = λ differs. (refl, (set.others differs).1) })) row (and_from (have_starts course ran.over ran.starts) true have refl)
  did_next rests stage owner ran next false false dids one n have has stands set row =
      GoesOn n (stands (record ran { pieces = dids }) set) row (and_from (have_starts course ran.over ran.starts) (has_start course dids ran.at_start) have has)

  -- a Begin, of the request or of another one
  begun_next : (rests : List Sent) (stage : Stage) (n : ℕ) (ran : Ran) (sent : Sent) (settings : List (List ℕ × Value)) → is_right (next_stage stage sent.owner (up.Begin settings)) ≡ true → in_row n (filter (is_mine course) rests) ≡ true
      → implies (owned_by course.owner sent) (same_settings settings (since sent.call)) ≡ true → follows_so (Some sent) rests ≡ true → have_starts course ran.over ran.starts ≡ true
      → Next rests (next_stage stage sent.owner (up.Begin settings)) (begins (record ran { settings = settings })) (if owned_by course.owner sent then Some sent.call else None) (item.Begin settings)
  begun_next rests stage n ran sent settings right row carry follow have = by (owned_by course.owner sent) refl carry
    where
      later : Ran
      later = begins (record ran { settings = settings })

      known : knows later ≡ true
      known = and_from (have_starts course ran.over ran.starts) true have refl

      next : Option ℕ
      next = if owned_by course.owner sent then Some sent.call else None

      by : (own : Bool) → owned_by course.owner sent ≡ own → implies own (same_settings settings (since sent.call)) ≡ true → Next rests (next_stage stage sent.owner (up.Begin settings)) later next (item.Begin settings)
      by true own carry =
          let same : settings ≡ since sent.call = (settings_decide settings (since sent.call)).0 carry in
          GoesOn sent.call
          (begin_stands SetAt NoneAt stage sent.owner settings sent.call (later, next) right
          (record { mine = λ is. (same, same, ap (λ (test : Bool). if test then Some sent.call else None) own); others = λ differs. absurd (let both : true ≡ false = sym own ∙ differs in let none : ⊥ = cc in none) }))
          (row_from n sent rests own follow row) known
      by false own carry =
          GoesOn n
          (begin_stands SetAt NoneAt stage sent.owner settings n (later, next) right
          (record { mine = λ is. absurd (let both : true ≡ false = sym is ∙ own in let none : ⊥ = cc in none); others = λ differs. (refl, ap (λ (test : Bool). if test then Some sent.call else None) own) })) row known

  -- an item behind which none is served leaves it
  last_next : (next : Option ℕ) (sent : Sent) (one : Item) → (is_last one || is_stopped one) ≡ true → next_behind course next sent one ≡ next
  last_next next sent (item.Begin settings) ends = absurd (let none : ⊥ = cc in none)
  last_next next sent item.End ends = absurd (let none : ⊥ = cc in none)
  last_next next sent (item.Call marked call answers draws) ends = absurd (let none : ⊥ = cc in none)
  last_next next sent one ends = refl

  pub one_next : (rests : List Sent) (stage : Stage) (n : ℕ) (ran : Ran) (next : Option ℕ) (sent : Sent) (frame : Up) (one : Item) → Deal frame one → is_right (next_stage stage sent.owner frame) ≡ true
      → in_row n (if owned_by course.owner sent && is_call frame then sent ∷ filter (is_mine course) rests else filter (is_mine course) rests) ≡ true
      → implies (owned_by course.owner sent && is_call frame) (is_script_frame course sent frame) ≡ true → implies (owned_by course.owner sent) (carries_settings course.request sent.call frame) ≡ true
      → follows_so (if is_begin_frame frame then Some sent else None) rests ≡ true → StandsAt stage n ran next → knows ran ≡ true → Next rests (next_stage stage sent.owner frame) (ran_item ran sent one) (next_behind course next sent one) one
  one_next rests stage n ran next sent _ _ Greets right row script carry follow stands known =
      GoesOn n (greeted_stands SetAt NoneAt stage sent.owner n (ran, next) right stands) (plain_left (in_row n) (owned_by course.owner sent) (sent ∷ filter (is_mine course) rests) (filter (is_mine course) rests) row) known
  one_next rests stage n ran next sent _ _ (Asks x asked result) right row script carry follow stands known =
      GoesOn n (asked_stands SetAt NoneAt stage sent.owner x n (ran, next) right stands) (plain_left (in_row n) (owned_by course.owner sent) (sent ∷ filter (is_mine course) rests) (filter (is_mine course) rests) row) known
  one_next rests stage n ran next sent _ _ (Begins settings) right row script carry follow stands known =
      begun_next rests stage n ran sent settings right (plain_left (in_row n) (owned_by course.owner sent) (sent ∷ filter (is_mine course) rests) (filter (is_mine course) rests) row) carry follow
      (and_parts (have_starts course ran.over ran.starts) (has_start course ran.pieces ran.at_start) known).0
  one_next rests stage n ran next sent _ _ Ends right row script carry follow stands known =
      GoesOn n (end_stands SetAt NoneAt stage sent.owner n (ran_item ran sent item.End, None) right (record { pieces = refl; next_is = refl })) (plain_left (in_row n) (owned_by course.owner sent) (sent ∷ filter (is_mine course) rests) (filter (is_mine course) rests) row)
      (and_from (have_starts course ran.over ran.starts) true (and_parts (have_starts course ran.over ran.starts) (has_start course ran.pieces ran.at_start) known).0 refl)
  one_next rests stage n ran next sent _ _ (Calls replay marked kept call answers draws) right row script carry follow stands known =
      let did : ServedCall = record { sent = sent; mark = marked; piece = record { call = call; answers = answers; draws = draws } } in
      let beside : IsBeside ran call = set_beside ran call in
      let opened : Opened ran did rests next = call_opens n ran did rests next (was_set stage sent.owner replay kept call n ran next right stands) row script in
      did_next rests (next_stage stage sent.owner (up.Call replay kept call)) sent.owner (with_call ran call) (next_called next sent) (ends_committed answers) (ends_on_server answers) (ran.pieces ++ did ∷ []) (item.Call marked call answers draws) opened.at
      (ap (λ (over : List (List ServedCall)). have_starts course over (with_call ran call).starts) beside.over
      ∙ (ap (have_starts course ran.over) beside.starts ∙ (and_parts (have_starts course ran.over ran.starts) (has_start course ran.pieces ran.at_start) known).0))
      (ap (has_start course (ran.pieces ++ did ∷ [])) beside.at_start ∙ opened.starts)
      (λ later. now_within SetAt NoneAt stage sent.owner replay kept call opened.at (later, next_called next sent) right) opened.set opened.row
  one_next rests stage n ran next sent _ _ (Stops replay marked kept call) right row script carry follow stands known =
      let did : ServedCall = record { sent = sent; mark = marked; piece = record { call = call; answers = []; draws = [] } } in
      let parts = and_parts (have_starts course ran.over ran.starts) (has_start course ran.pieces ran.at_start) known in
      let opened : Opened ran did rests next = call_opens n ran did rests next (was_set stage sent.owner replay kept call n ran next right stands) row script in
      IsDone refl
      (and_from (have_starts course (ran.over ++ (ran.pieces ++ did ∷ []) ∷ []) (ran.starts ++ ran.at_start ∷ [])) (has_start course ran.pieces ran.at_start)
      (more_starts ran.over ran.starts (ran.pieces ++ did ∷ []) ran.at_start parts.0 opened.starts) parts.1) (stage_known stage n ran next stands)
  one_next rests stage n ran next sent _ _ (IsLast frame one ends same) right row script carry follow stands known =
      IsDone ends (ap knows (same ran sent) ∙ known)
      (ap (λ (later : Ran). option_map_or (stands_before course later) (next_behind course next sent one) true) (same ran sent)
      ∙ (ap (λ (found : Option ℕ). option_map_or (stands_before course ran) found true) (last_next next sent one ends) ∙ stage_known stage n ran next stands))

  -- ALL THAT IT SERVED ----------------------------------------------------------------------------

  abbrev pub step : Ran → Handled → Ran
  step ran one = ran_item ran one.sent one.served.item

  abbrev pub next_step : Option ℕ → Handled → Option ℕ
  next_step next one = next_behind course next one.sent one.served.item

  abbrev pub sents_of : List Handled → List Sent
  sents_of served = map (λ one. one.sent) served

  -- its transactions start rightly, and it stands where they lead
  pub record IsKnown (ran : Ran) (next : Option ℕ) : Type 0 where
    pub known : knows ran ≡ true
    pub stands : option_map_or (stands_before course ran) next true ≡ true

  pub all_known : (served : List Handled) (stage : Stage) (n : ℕ) (ran : Ran) (next : Option ℕ) (commits : ℕ) (begin : Option Sent) → handled_from commits served ≡ true → none_behind served ≡ true → is_right (fold moved stage (sents_of served)) ≡ true
      → in_row n (filter (is_mine course) (sents_of served)) ≡ true → list_all (follows course) (sents_of served) ≡ true → list_all (carries course) (sents_of served) ≡ true → follows_so begin (sents_of served) ≡ true
      → StandsAt stage n ran next → knows ran ≡ true → IsKnown (fold step ran served) (fold next_step next served)
  all_known [] stage n ran next commits begin handled lone right row scripts carry follow stands known = record { known = known; stands = stage_known stage n ran next stands }
  all_known (one ∷ others) stage n ran next commits begin handled lone right row scripts carry follow stands known =
      by (one_next (sents_of others) stage n ran next one.sent one.sent.frame one.served.item (handled_deal now one parts.0) (was_right (moved stage one.sent) (sents_of others) right) row script.0 carried.0 followed stands known)
      (λ m stands_now row_now known_now. all_known others (moved stage one.sent) m (step ran one) (next_step next one) now (begin_in one.sent) parts.1 (lone_later one others lone) right row_now script.1 carried.1 followed stands_now known_now)
    where
      now : ℕ
      now = counted_with commits one.served.item

      parts : (is_handled now one ≡ true) × (handled_from now others ≡ true)
      parts = and_parts (is_handled now one) (handled_from now others) handled

      script : (follows course one.sent ≡ true) × (list_all (follows course) (sents_of others) ≡ true)
      script = and_parts (follows course one.sent) (list_all (follows course) (sents_of others)) scripts

      carried : (carries course one.sent ≡ true) × (list_all (carries course) (sents_of others) ≡ true)
      carried = and_parts (carries course one.sent) (list_all (carries course) (sents_of others)) carry

      followed : follows_so (begin_in one.sent) (sents_of others) ≡ true
      followed = (and_parts (option_map_or (λ b. follows_begin b one.sent) begin true) (follows_so (begin_in one.sent) (sents_of others)) follow).1

      by : Next (sents_of others) (moved stage one.sent) (step ran one) (next_step next one) one.served.item
          → ((m : ℕ) → StandsAt (moved stage one.sent) m (step ran one) (next_step next one) → in_row m (filter (is_mine course) (sents_of others)) ≡ true → knows (step ran one) ≡ true
          → IsKnown (fold step (step ran one) others) (fold next_step (next_step next one) others))
          → IsKnown (fold step (step ran one) others) (fold next_step (next_step next one) others)
      by (GoesOn m stands row known) again = again m stands row known
      by (IsDone ends known stands) again =
          subst (λ (more : List Handled). IsKnown (fold step (step ran one) more) (fold next_step (next_step next one) more)) (sym (none_later one others lone ends)) (record { known = known; stands = stands })
