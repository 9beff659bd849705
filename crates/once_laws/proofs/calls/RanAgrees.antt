-- What a request knows of the calls that a connection served for it, and of the pieces of
-- transactions there: no call is behind the last one that was sent, and what holds of each call
-- behind which it sent a further one holds of each piece before the last.
use Rattle.std.proofs.Common.{◌≡◌, refl, ap, subst, ◌∙◌, Bool, true, false, ℕ, zero, suc, ◌+◌, ◌-◌, ◌<◌, ◌≤◌, ◌&&◌, filter, fold, length, map, take, List, [], ◌∷◌, ◌++◌, Option, Some, None, ◌⊎◌, inl, inr, if◌then◌else◌, arith}
use Rattle.std.specs.Prelude.{◌==◌, is_none, nat_le, nat_lt, slice_get}
use Rattle.std.specs.List.{list_all}
use Rattle.std.specs.Option.{option_map_or}
use Rattle.std.proofs.lemmas.Bool.{and_parts, and_from, or_cases}
use Rattle.svc_values.specs.declared.answer.Answer.{Answer}
use Rattle.svc_values.specs.declared.draw.Draw.{Draw}
use Rattle.svc_values.specs.declared.frame.Up.{Up}
use Rattle.svc_values.specs.declared.frame.Up.TheVariants as up
use Rattle.svc_values.specs.meaning.Endings.{ends_committed}
use Rattle.outage_schedule.specs.declared.item.Item.{Item}
use Rattle.outage_schedule.specs.declared.item.Item.TheVariants as item
use Rattle.outage_schedule.specs.declared.request.ShownCall.{ShownCall}
use Rattle.world_model.specs.meaning.Crashing.{is_crashed_item}
use Rattle.world_model.specs.meaning.Frames.{Sent, Handled}
use Rattle.world_model.specs.meaning.Links.{Link}
use Rattle.world_model.specs.Parts.{implies}
use Rattle.invariant_laws.specs.Same.{Ran, ServedCall, did_all, ends_on_server, is_scripts, ran_by, ran_item, scripts_from, with_call}
use Rattle.world_model.specs.Sames.{is_front, owned_by, same_sent}
use Rattle.world_model.specs.meaning.Serving.{is_item_of, reply_of}
use Rattle.invariant_laws.specs.Shown.{calls_on, first_of, in_row, is_call}
use Rattle.world_model.specs.Traced.{Course}
use Rattle.invariant_laws.specs.Verified.{all_but_last, gone_behind}
use Rattle.world_model.specs.records.Wire.{counted_with, handled_from, is_handled, same_replies, up_of}
use Rattle.world_model.proofs.Offered.{append_all, one_all, weaker_all, front_begun, Known, implied, eq_from, le_from, le_to, lt_from, lt_to}
use Rattle.invariant_laws.proofs.Offered.{unfiltered, both_all, over_same}
use Rattle.once_laws.proofs.calls.RanCalls.{front_row, is_mine}
use Rattle.once_laws.proofs.calls.VerifiedLists.{calls_few, mine_in}

-- WHERE THEY COME FROM ----------------------------------------------------------------------------

-- a test of a frame with what was answered and drawn: of an item, and of a call
module _ (test : Sent → List Answer → List Draw → Bool) where
  abbrev pub of_did : ServedCall → Bool
  of_did did = test did.sent did.piece.answers did.piece.draws

  abbrev pub of_item : Sent → Item → Bool
  of_item sent (item.Call mark called answers draws) = test sent answers draws
  of_item sent (item.CrashedCall mark called) = test sent [] []
  of_item sent _ = true

  abbrev pub AllDid : Ran → Type 0
  AllDid ran = (list_all of_did ran.pieces ≡ true) × (list_all (list_all of_did) ran.over ≡ true)

  did_came : (ran : Ran) (committed ended : Bool) (dids : List ServedCall) → list_all (list_all of_did) ran.over ≡ true → list_all of_did dids ≡ true → AllDid (did_all ran committed ended dids)
  did_came ran true ended dids over all = (refl, append_all (list_all of_did) ran.over (dids ∷ []) over (one_all (list_all of_did) dids all))
  did_came ran false true dids over all = (refl, over)
  did_came ran false false dids over all = (all, over)

  item_came : (ran : Ran) (sent : Sent) (one : Item) → of_item sent one ≡ true → AllDid ran → AllDid (ran_item ran sent one)
  item_came ran sent (item.Begin settings) here all = (refl, all.1)
  item_came ran sent item.End here all = (refl, all.1)
  item_came ran sent (item.Call mark called answers draws) here all =
      did_came (with_call ran called) (ends_committed answers) (ends_on_server answers) (ran.pieces ++ did ∷ []) (ap (list_all (list_all of_did)) (over_same ran called) ∙ all.1)
      (append_all of_did ran.pieces (did ∷ []) all.0 (one_all of_did did here))
    where
      did : ServedCall
      did = record { sent = sent; mark = mark; piece = record { call = called; answers = answers; draws = draws } }
  item_came ran sent (item.CrashedCall mark called) here all =
      let did : ServedCall = record { sent = sent; mark = mark; piece = record { call = called; answers = []; draws = [] } } in
      (all.0, append_all (list_all of_did) ran.over ((ran.pieces ++ did ∷ []) ∷ []) all.1 (one_all (list_all of_did) (ran.pieces ++ did ∷ []) (append_all of_did ran.pieces (did ∷ []) all.0 (one_all of_did did here))))
  item_came ran sent one here all = all

  pub all_came : (served : List Handled) (ran : Ran) → list_all (λ one. of_item one.sent one.served.item) served ≡ true → AllDid ran → AllDid (fold (λ all one. ran_item all one.sent one.served.item) ran served)
  all_came [] ran here all = all
  all_came (one ∷ others) ran here all =
      let parts = and_parts (of_item one.sent one.served.item) (list_all (λ h. of_item h.sent h.served.item) others) here in all_came others (ran_item ran one.sent one.served.item) parts.1 (item_came ran one.sent one.served.item parts.0 all)

-- CALLS IN A ROW ----------------------------------------------------------------------------------

-- the item of a call, or of one that was stopped, is of a call
abbrev pub of_call : Up → Item → Bool
of_call frame (item.Call mark called answers draws) = is_call frame
of_call frame (item.CrashedCall mark called) = is_call frame
of_call frame one = true

ordinary_of : (frame : Up) (one : Item) → is_item_of frame one ≡ true → of_call frame one ≡ true
ordinary_of (up.Call replay kept called) (item.Call marked served answers draws) is = refl
ordinary_of (up.Call replay kept called) (item.CrashedCall marked served) is = refl
ordinary_of frame (item.Call marked served answers draws) is = absurd (let none : ⊥ = cc in none)
ordinary_of frame (item.CrashedCall marked served) is = absurd (let none : ⊥ = cc in none)
ordinary_of frame one is = refl

crashed_of : (frame : Up) (one : Item) → is_crashed_item frame one ≡ true → of_call frame one ≡ true
crashed_of (up.Call replay kept called) (item.CrashedCall marked served) is = refl
crashed_of (up.Call replay kept called) (item.Call marked served answers draws) is = refl
crashed_of (up.Outcome x) (item.Call marked served answers draws) is = absurd (let none : ⊥ = cc in none)
crashed_of (up.Outcome x) (item.CrashedCall marked served) is = absurd (let none : ⊥ = cc in none)
crashed_of frame (item.Call marked served answers draws) is = absurd (let none : ⊥ = cc in none)
crashed_of frame (item.CrashedCall marked served) is = absurd (let none : ⊥ = cc in none)
crashed_of frame one is = refl

pub all_of_calls : (commits : ℕ) (served : List Handled) → handled_from commits served ≡ true → list_all (λ one. of_call one.sent.frame one.served.item) served ≡ true
all_of_calls commits [] all = refl
all_of_calls commits (one ∷ others) all =
    let now : ℕ = counted_with commits one.served.item in
    let parts = and_parts (is_handled now one) (handled_from now others) all in
    and_from (of_call one.sent.frame one.served.item) (list_all (λ h. of_call h.sent.frame h.served.item) others)
    (by (or_cases (is_item_of one.sent.frame one.served.item && same_replies one.reply (reply_of one.served.session now one.served.item)) (is_crashed_item one.sent.frame one.served.item && is_none one.reply) parts.0)) (all_of_calls now others parts.1)
  where
    by : ((is_item_of one.sent.frame one.served.item && same_replies one.reply (reply_of one.served.session (counted_with commits one.served.item) one.served.item)) ≡ true) ⊎ ((is_crashed_item one.sent.frame one.served.item && is_none one.reply) ≡ true)
        → of_call one.sent.frame one.served.item ≡ true
    by (inl ordinary) = ordinary_of one.sent.frame one.served.item (and_parts (is_item_of one.sent.frame one.served.item) _ ordinary).0
    by (inr crashed) = crashed_of one.sent.frame one.served.item (and_parts (is_crashed_item one.sent.frame one.served.item) _ crashed).0

-- of a request, and what the answers and draws of a call have of it as it was shown
module _ (course : Course) (agrees : ShownCall → List Answer → List Draw → Bool) where
  abbrev pub told_so : ShownCall → Item → Bool
  told_so shown (item.Call marked called answers draws) = agrees shown answers draws
  told_so shown _ = false

  abbrev pub is_told_so : Handled → Bool
  is_told_so one = option_map_or (λ shown. told_so shown one.served.item) (slice_get course.report.calls one.sent.call) false

  -- the calls of the request that were served, as they were sent
  sents_filtered : (served : List Handled) → map (λ (one : Handled). one.sent) (filter (mine_in course) served) ≡ filter (is_mine course) (map (λ (one : Handled). one.sent) served)
  sents_filtered [] = refl
  sents_filtered (one ∷ others) = by (is_mine course one.sent) (sents_filtered others)
    where
      by : (mine : Bool) → map (λ (h : Handled). h.sent) (filter (mine_in course) others) ≡ filter (is_mine course) (map (λ (h : Handled). h.sent) others)
          → map (λ (h : Handled). h.sent) (if mine then one ∷ filter (mine_in course) others else filter (mine_in course) others) ≡ (if mine then one.sent ∷ filter (is_mine course) (map (λ (h : Handled). h.sent) others) else filter (is_mine course) (map (λ (h : Handled). h.sent) others))
      by true rest = ap (λ (sents : List Sent). one.sent ∷ sents) rest
      by false rest = rest

  -- no call is behind the last one that was sent, and each before that one was told as it was shown
  abbrev stands_by : ℕ → Handled → Bool
  stands_by last one = nat_le one.sent.call last && implies (nat_lt one.sent.call last) (is_told_so one)

  row_stands : (n k last : ℕ) (xs : List Handled) → in_row n (map (λ (one : Handled). one.sent) xs) ≡ true → list_all is_told_so (take k xs) ≡ true → last ≡ n + k → length xs ≤ k + 1 → list_all (stands_by last) xs ≡ true
  row_stands n k last [] row all bound long = refl
  row_stands n zero last (one ∷ xs) row all bound long =
      let parts = and_parts (one.sent.call == n) (in_row (n + 1) (map (λ (h : Handled). h.sent) xs)) row in
      let at : one.sent.call ≡ n = eq_from one.sent.call n parts.0 in
      let none : xs ≡ [] = no_more xs (omega (arith, long)) in
      and_from (stands_by last one) (list_all (stands_by last) xs)
      (and_from (nat_le one.sent.call last) (implies (nat_lt one.sent.call last) (is_told_so one)) (le_to one.sent.call last (omega (arith, at, bound)))
      (not_before (nat_lt one.sent.call last) (is_told_so one) (λ less. let below : one.sent.call < last = lt_from one.sent.call last less in let never : ⊥ = omega (arith, at, bound, below) in never)))
      (ap (list_all (stands_by last)) none)
    where
      no_more : (ys : List Handled) → length ys ≤ 0 → ys ≡ []
      no_more [] few = refl
      no_more (y ∷ ys) few = absurd (let never : ⊥ = omega (arith, few) in never)

      not_before : (a b : Bool) → (a ≡ true → ⊥) → implies a b ≡ true
      not_before true b never = absurd (never refl)
      not_before false b never = refl
  row_stands n (suc k) last (one ∷ xs) row all bound long =
      let parts = and_parts (one.sent.call == n) (in_row (n + 1) (map (λ (h : Handled). h.sent) xs)) row in
      let at : one.sent.call ≡ n = eq_from one.sent.call n parts.0 in
      let known = and_parts (is_told_so one) (list_all is_told_so (take k xs)) all in
      let next : last ≡ (n + 1) + k = omega (arith, bound) in
      let less : length xs ≤ k + 1 = omega (arith, long) in
      and_from (stands_by last one) (list_all (stands_by last) xs)
      (and_from (nat_le one.sent.call last) (implies (nat_lt one.sent.call last) (is_told_so one)) (le_to one.sent.call last (omega (arith, at, bound))) (known_so (nat_lt one.sent.call last) (is_told_so one) known.0))
      (row_stands (n + 1) k last xs parts.1 known.1 next less)
    where
      known_so : (a b : Bool) → b ≡ true → implies a b ≡ true
      known_so true b is = is
      known_so false b is = refl

  -- A CALL OF A TRANSACTION -----------------------------------------------------------------------

  abbrev pub shown_so : Sent → List Answer → List Draw → Bool
  shown_so sent answers draws = option_map_or (λ shown. agrees shown answers draws) (slice_get course.report.calls sent.call) false

  abbrev pub did_stands : ℕ → Sent → List Answer → List Draw → Bool
  did_stands last sent answers draws = implies (owned_by course.owner sent) (nat_le sent.call last && implies (nat_lt sent.call last) (shown_so sent answers draws))

  item_stands : (last : ℕ) (one : Handled) → (of_call one.sent.frame one.served.item && implies (mine_in course one) (stands_by last one)) ≡ true → of_item (did_stands last) one.sent one.served.item ≡ true
  item_stands last one both = by (owned_by course.owner one.sent) one.served.item refl parts.0 parts.1
    where
      parts : (of_call one.sent.frame one.served.item ≡ true) × (implies (mine_in course one) (stands_by last one) ≡ true)
      parts = and_parts (of_call one.sent.frame one.served.item) (implies (mine_in course one) (stands_by last one)) both

      called : (own : Bool) (answers : List Answer) (draws : List Draw) → (call : Bool) → call ≡ true → (answered : Bool) → (answered ≡ true → shown_so one.sent answers draws ≡ true) → implies (own && call) (nat_le one.sent.call last && implies (nat_lt one.sent.call last) answered) ≡ true
          → implies own (nat_le one.sent.call last && implies (nat_lt one.sent.call last) (shown_so one.sent answers draws)) ≡ true
      called false answers draws call is answered gives here = refl
      called true answers draws false is answered gives here = absurd (let none : ⊥ = cc in none)
      called true answers draws true is answered gives here =
          let two = and_parts (nat_le one.sent.call last) (implies (nat_lt one.sent.call last) answered) here in
          and_from (nat_le one.sent.call last) (implies (nat_lt one.sent.call last) (shown_so one.sent answers draws)) two.0 (weaker (nat_lt one.sent.call last) answered (shown_so one.sent answers draws) gives two.1)
        where
          weaker : (a b c : Bool) → (b ≡ true → c ≡ true) → implies a b ≡ true → implies a c ≡ true
          weaker true b c keeps is = keeps is
          weaker false b c keeps is = refl

      never_so : (found : Option ShownCall) → option_map_or (λ (shown : ShownCall). false) found false ≡ true → ⊥
      never_so None here = let none : ⊥ = cc in none
      never_so (Some shown) here = let none : ⊥ = cc in none

      by : (own : Bool) (it : Item) → one.served.item ≡ it → of_call one.sent.frame it ≡ true → implies (owned_by course.owner one.sent && is_call one.sent.frame) (nat_le one.sent.call last && implies (nat_lt one.sent.call last) (option_map_or (λ shown. told_so shown one.served.item) (slice_get course.report.calls one.sent.call) false)) ≡ true
          → of_item (did_stands last) one.sent it ≡ true
      by own (item.Call mark called_so answers draws) is call here =
          called (owned_by course.owner one.sent) answers draws (is_call one.sent.frame) call (option_map_or (λ shown. told_so shown one.served.item) (slice_get course.report.calls one.sent.call) false)
          (λ so. subst (λ (i : Item). option_map_or (λ shown. told_so shown i) (slice_get course.report.calls one.sent.call) false ≡ true) is so) here
      by own (item.CrashedCall mark called_so) is call here =
          called (owned_by course.owner one.sent) [] [] (is_call one.sent.frame) call (option_map_or (λ shown. told_so shown one.served.item) (slice_get course.report.calls one.sent.call) false)
          (λ so. absurd (never_so (slice_get course.report.calls one.sent.call) (subst (λ (i : Item). option_map_or (λ shown. told_so shown i) (slice_get course.report.calls one.sent.call) false ≡ true) is so))) here
      by own it is call here = refl

  -- A TRANSACTION ---------------------------------------------------------------------------------

  abbrev pub did_so : ServedCall → Bool
  did_so did = shown_so did.sent did.piece.answers did.piece.draws

  -- a call of it is at most the last one that was sent
  pub at_most : (last index : ℕ) (did : ServedCall) → is_scripts course index did ≡ true → of_did (did_stands last) did ≡ true → (did.sent.call ≡ index) × (index ≤ last)
  at_most last index did is stands =
      let parts = and_parts (owned_by course.owner did.sent) _ is in
      let at : did.sent.call ≡ index = eq_from did.sent.call index (and_parts (did.sent.call == index) _ parts.1).0 in
      let most : did.sent.call ≤ last =
      le_from did.sent.call last (and_parts (nat_le did.sent.call last) _ (implied (owned_by course.owner did.sent) (nat_le did.sent.call last && implies (nat_lt did.sent.call last) (did_so did)) parts.0 stands)).0 in
      (at, omega (arith, at, most))

  -- each but the last has what was shown
  pub inner_so : (last index : ℕ) (dids : List ServedCall) → scripts_from course index dids ≡ true → list_all (of_did (did_stands last)) dids ≡ true → list_all did_so (all_but_last dids) ≡ true
  inner_so last index [] scripts stands = refl
  inner_so last index (did ∷ []) scripts stands = refl
  inner_so last index (did ∷ next ∷ others) scripts stands =
      let one = and_parts (is_scripts course index did) (scripts_from course (index + 1) (next ∷ others)) scripts in
      let two = and_parts (is_scripts course (index + 1) next) (scripts_from course ((index + 1) + 1) others) one.1 in
      let mine = and_parts (owned_by course.owner did.sent) _ one.0 in
      let so = and_parts (of_did (did_stands last) did) (list_all (of_did (did_stands last)) (next ∷ others)) stands in
      let next_so = and_parts (of_did (did_stands last) next) (list_all (of_did (did_stands last)) others) so.1 in
      let at = at_most last index did one.0 so.0 in
      let after = at_most last (index + 1) next two.0 next_so.0 in
      let here = at.0 in
      let most = after.1 in
      let below : did.sent.call < last = omega (arith, here, most) in
      let known =
      implied (nat_lt did.sent.call last) (did_so did) (lt_to did.sent.call last below)
      (and_parts (nat_le did.sent.call last) _ (implied (owned_by course.owner did.sent) (nat_le did.sent.call last && implies (nat_lt did.sent.call last) (did_so did)) mine.0 so.0)).1 in
      and_from (did_so did) (list_all did_so (all_but_last (next ∷ others))) known (inner_so last (index + 1) (next ∷ others) one.1 so.1)

  -- A CONNECTION ----------------------------------------------------------------------------------

  module _ (link : Link) (known : Known link) (row : in_row (option_map_or (λ s. s.call) (first_of (calls_on course link)) 0) (calls_on course link) ≡ true) (answers : list_all is_told_so (gone_behind course link) ≡ true) where
    abbrev start : ℕ
    start = option_map_or (λ s. s.call) (first_of (calls_on course link)) 0

    -- the last call that was sent
    abbrev pub last : ℕ
    last = start + (length (calls_on course link) - 1)

    front : is_front same_sent (map (λ one. one.sent) link.served) link.sent ≡ true
    front = front_begun same_sent (map (λ one. one.sent) link.served) (up_of link) link.sent (record { rest = link.up; whole = refl }) (and_parts (is_front same_sent (up_of link) link.sent) _ known.sent).0

    served_row : in_row start (map (λ (one : Handled). one.sent) (filter (mine_in course) link.served)) ≡ true
    served_row = ap (in_row start) (sents_filtered link.served) ∙ front_row course start (map (λ one. one.sent) link.served) link.sent front row

    calls_stand : list_all (stands_by last) (filter (mine_in course) link.served) ≡ true
    calls_stand =
        let few : length (filter (mine_in course) link.served) ≤ length (calls_on course link) = calls_few course link known in
        row_stands start (length (calls_on course link) - 1) last (filter (mine_in course) link.served) served_row answers refl (omega (arith, few))

    pub items_stand : list_all (λ one. of_item (did_stands last) one.sent one.served.item) link.served ≡ true
    items_stand =
        weaker_all (λ one. of_call one.sent.frame one.served.item && implies (mine_in course one) (stands_by last one)) (λ one. of_item (did_stands last) one.sent one.served.item) link.served (item_stands last)
        (both_all (λ one. of_call one.sent.frame one.served.item) (λ one. implies (mine_in course one) (stands_by last one)) link.served (all_of_calls 0 link.served known.handled) (unfiltered (stands_by last) (mine_in course) link.served calls_stand))

    pub link_came : AllDid (did_stands last) (ran_by link)
    link_came = all_came (did_stands last) link.served (record { settings = []; at_start = []; pieces = []; over = []; starts = [] }) items_stand (refl, refl)
