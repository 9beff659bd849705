-- No value stands twice among what the entries of a run drew, where no call of a request is stored
-- twice.
use Rattle.std.proofs.Common.{◌≡◌, refl, sym, ap, subst, ◌∙◌, arith, ℕ, suc, zero, ◌+◌, ◌≤◌, ◌||◌, not, Bool, true, false, List, [], ◌∷◌, ◌++◌, Option, Some, None, ◌⊎◌, inl, inr}
use Rattle.std.specs.Prelude.{◌==◌, flat_map, filter_map, slice_get, drop}
use Rattle.std.specs.List.{list_all, list_any, cons_option}
use Rattle.std.specs.Option.{option_map_or}
use Rattle.std.proofs.lemmas.Bool.{and_parts, or_left, or_right}
use Rattle.std.proofs.lemmas.List.Folds.{list_any-append}
use Rattle.svc_values.specs.declared.draw.Draw.{Draw}
use Rattle.svc_values.specs.declared.entry.Entry.{Entry}
use Rattle.svc_values.specs.declared.entry.SessionId.{SessionId}
use Rattle.svc_values.specs.declared.frame.Up.{Up}
use Rattle.svc_values.specs.declared.frame.Up.TheVariants as up
use Rattle.svc_values.specs.meaning.Identifiers.{same_session, session_of}
use Rattle.svc_values.specs.SameLaws.{same_draw_decides, same_draws_decide}
use Rattle.outage_schedule.specs.declared.document.Document.{Document}
use Rattle.outage_schedule.specs.declared.event.Event.{Event}
use Rattle.outage_schedule.specs.declared.item.Item.{Item}
use Rattle.outage_schedule.specs.declared.item.Item.TheVariants as item
use Rattle.outage_schedule.specs.declared.item.Served.{Served}
use Rattle.outage_schedule.specs.declared.note.Note.{Note}
use Rattle.server_model.specs.meaning.Fresh.{is_single, draws_of, fresh}
use Rattle.server_model.specs.Items.{items_of}
use Rattle.server_model.specs.Laws.{RunsLegal, RunsFreshNew}
use Rattle.server_model.specs.meaning.NewValues.{grants, kept_by, new_among}
use Rattle.server_model.specs.Seen.{Seen}
use Rattle.server_model.specs.meaning.Walk.{walk_of}
use Rattle.world_model.specs.records.Basic.{sessions_of}
use Rattle.world_model.specs.meaning.Crashing.{is_crashed_item}
use Rattle.world_model.specs.meaning.Frames.{Owner, Handled}
use Rattle.world_model.specs.meaning.Links.{Link}
use Rattle.world_model.specs.records.Number.{is_of_run, is_known}
use Rattle.invariant_laws.specs.Once.{stopped_draws, given}
use Rattle.world_model.specs.Reached.{Reached}
use Rattle.world_model.specs.records.Ready.{all_requests_right}
use Rattle.world_model.specs.RunLaws.{RunsAreOrderly}
use Rattle.invariant_laws.specs.SameLaws.{RunsServe}
use Rattle.world_model.specs.Sames.{all_with, each_pair, owned_by}
use Rattle.world_model.specs.meaning.Serving.{is_item_of}
use Rattle.world_model.specs.Traced.{Traced}
use Rattle.world_model.specs.records.Wire.{handled_from}
use Rattle.world_model.specs.Parts.{implies}
use Rattle.fresh_laws.specs.ValueLaws.{StoredValuesAreFresh}
use Rattle.world_model.proofs.Offered.{at_link, at_all, weaker_all, any_links, session_self}
use Rattle.fresh_laws.proofs.DrawnFor.{drawn_for, drawn_apart, drawn_within, drawn_more, first_apart, is_session, among}
use Rattle.once_laws.proofs.Offered.{times, each_once, total, total_at, total_any, total_both, total_flat, drawn as stored_drawn, Each, each_flat, each_stored, Fits, one_time, given_so, some_given, firsts, gave_before, kept_given, repeats_given, gives_draws, gives_to, is_nothing, any_served, handled_at}
use Rattle.fresh_laws.proofs.FrameDraws.{anew, is_drawn}
use Rattle.fresh_laws.proofs.OutsideEntries.{history_counts}
use Rattle.fresh_laws.proofs.OutsidePlain.{reached_plain}
use Rattle.fresh_laws.proofs.OwnValues.{new, so_far, legal_so_far, never_both, given_drawn}
use Rattle.fresh_laws.proofs.OwnedValues.{link_drew, links_within, has_drawn, all_firsts, gained_is, once, reached_given}
use Rattle.fresh_laws.proofs.StoredCalls.{count_if}
use Rattle.once_laws.specs.StoredOnce.{is_stored_next, stored_of, given_to, given_in, stood_in, stored_on, stored_calls, are_stored_once}
use Rattle.fresh_laws.proofs.FreshLists.{both_anew, covered, distinct, distinct_among, distinct_apart, fewer_kept, flat_drawn, mapped_drawn, of_marked, of_plain, of_session, split_times, total_append}

-- A RUN -------------------------------------------------------------------------------------------

module _ (orderly : RunsAreOrderly) (serve : RunsServe) (legal : RunsLegal) (fresh_new : RunsFreshNew) (document : Document) (events : List Event) (notes : List Note) (items : List Served) (seen : Seen) (t : Traced) (calls : all_requests_right document ≡ true)
    (reached : Reached document events notes items seen t) (value : Draw) (single : is_single value ≡ true) where
  abbrev gained : List Entry
  gained = new orderly serve legal fresh_new document events notes items seen t calls reached

  abbrev drew : (SessionId → Bool) → List Draw
  drew some = drawn_for some seen.start (walk_of seen.start gained) (items_of seen.history)

  abbrev links : List Link
  links = t.machine.links

  names_once : times value (drew (among (sessions_of t))) ≤ 1
  names_once =
      let within = drawn_within value (among (sessions_of t)) seen.start (walk_of seen.start gained) (items_of seen.history) in
      let most = once orderly serve legal fresh_new document events notes items seen t calls reached value single in
      omega (arith, within, most)

  few : firsts (given t) value (given t) ≤ 1
  few = let first = all_firsts orderly serve legal fresh_new document events notes items seen t calls reached value in let most = names_once in omega (arith, first, most)

  -- WHAT IS DRAWN ANEW ----------------------------------------------------------------------------

  abbrev all_weight : Link → ℕ
  all_weight link = total (λ one. times value (anew seen.start (stopped_draws t link.held) one.sent.frame one.served.item)) link.served

  abbrev marked_weight : Link → ℕ
  marked_weight link = total (λ one. times value (of_marked seen.start (stopped_draws t link.held) one.sent.frame one.served.item)) link.served

  abbrev plain_weight : Link → ℕ
  plain_weight link = total (λ one. times value (of_plain one.served.item)) link.served

  abbrev names : List Link → List SessionId
  names all = filter_map (λ link. link.session) all

  all_once : total all_weight links ≤ 1
  all_once =
      let all = links_within t seen.start (walk_of seen.start gained) (items_of seen.history) value all_weight links (and_parts (each_pair (λ a b. not (same_session a b)) (sessions_of t)) _ (so_far orderly serve legal fresh_new document events notes items seen t calls reached).basic.apart).0 (λ index link at. (
        (λ none. ap (λ (served : List Handled). total (λ one. times value (anew seen.start (stopped_draws t link.held) one.sent.frame one.served.item)) served) ((has_drawn orderly serve legal fresh_new document events notes items seen t calls reached value (suc index) link at).unnamed none)),
        λ session its.
            let told = link_drew orderly serve legal fresh_new document events notes items seen t calls reached (suc index) link session at its in
            let same : all_weight link ≡ times value (drew (is_session session)) = sym (total_flat value (λ one. anew seen.start (stopped_draws t link.held) one.sent.frame one.served.item) link.served) ∙ ap (times value) (sym told.new) in
            omega (arith, same),
      )) in
      let most = names_once in
      omega (arith, all, most)

  handled : (index : ℕ) (link : Link) → slice_get links index ≡ Some link → handled_from 0 link.served ≡ true
  handled index link at = at_link (λ l. handled_from 0 l.served) links (suc index) link (so_far orderly serve legal fresh_new document events notes items seen t calls reached).wire.handled at

  both_once : total marked_weight links + total plain_weight links ≤ 1
  both_once =
      let both = total_both marked_weight plain_weight all_weight links (λ index link at.
      total_both (λ one. times value (of_marked seen.start (stopped_draws t link.held) one.sent.frame one.served.item)) (λ one. times value (of_plain one.served.item)) (λ one. times value (anew seen.start (stopped_draws t link.held) one.sent.frame one.served.item)) link.served
      (λ place one there. both_anew value seen.start (stopped_draws t link.held) one.sent.frame one.served.item (handled_at 0 link.served place one (handled index link at) there))) in
      let most = all_once in
      omega (arith, both, most)

  -- ONE CALL --------------------------------------------------------------------------------------

  module _ (index : ℕ) (link : Link) (at : slice_get links index ≡ Some link) (place : ℕ) (one : Handled) (there : slice_get link.served place ≡ Some one) where
    abbrev stopped : List Draw
    stopped = stopped_draws t link.held

    -- what it carries was given before
    kept_times_few : (kept : List Draw) → option_map_or (λ o. is_nothing kept || any_served (gave_before o one.sent.call one.served.event kept) links) one.sent.owner false ≡ true → times value kept ≤ total plain_weight links
    kept_times_few kept is = by one.sent.owner is
      where
        gave : (owner : Owner) → any_served (gave_before owner one.sent.call one.served.event kept) links ≡ true → times value kept ≤ total plain_weight links
        gave owner any =
            total_any plain_weight (λ l. list_any (gave_before owner one.sent.call one.served.event kept) l.served) (times value kept) links
            (λ l any_of. total_any (λ h. times value (of_plain h.served.item)) (gave_before owner one.sent.call one.served.event kept) (times value kept) l.served (λ h gives. of h.served.item (plain_of h gives)) any_of) any
          where
            plain_of : (h : Handled) → gave_before owner one.sent.call one.served.event kept h ≡ true → gives_draws kept h.served.item ≡ true
            plain_of h gives =
                let first = and_parts (gives_to owner one.sent.call kept h) _ gives in
                let second = and_parts (owned_by owner h.sent) _ first.0 in
                (and_parts (h.sent.call == one.sent.call) (gives_draws kept h.served.item) second.1).1

            of : (it : Item) → gives_draws kept it ≡ true → times value kept ≤ times value (of_plain it)
            of (item.Call false called answers draws) same = let equal : times value draws ≡ times value kept = ap (times value) ((same_draws_decide draws kept).0 same) in omega (arith, equal)
            of it same = absurd (let none : ⊥ = cc in none)

        or_gave : (draws : List Draw) → kept ≡ draws → (owner : Owner) → (is_nothing draws || any_served (gave_before owner one.sent.call one.served.event draws) links) ≡ true → times value kept ≤ total plain_weight links
        or_gave [] same owner is = let none : times value kept ≡ 0 = ap (times value) same in omega (arith, none)
        or_gave (draw ∷ draws) same owner is = gave owner (subst (λ (all : List Draw). any_served (gave_before owner one.sent.call one.served.event all) links ≡ true) (sym same) is)

        by : (owner : Option Owner) → option_map_or (λ o. is_nothing kept || any_served (gave_before o one.sent.call one.served.event kept) links) owner false ≡ true → times value kept ≤ total plain_weight links
        by None is = absurd (let none : ⊥ = cc in none)
        by (Some owner) is = or_gave kept refl owner is

    item_once : (frame : Up) (it : Item) → one.sent.frame ≡ frame → one.served.item ≡ it → (is_item_of frame it ≡ true) ⊎ (is_crashed_item frame it ≡ true) → is_drawn seen.start frame it ≡ true → kept_given links one frame ≡ true → times value (given_in stopped it) ≤ 1
    item_once (up.Call true kept called) (item.Call true asked answers draws) frame_is item_is is right repeated =
        let split = split_times value (kept_by seen.start true kept) draws right in
        let fewer = fewer_kept value (grants seen.start) kept in
        let here : times value (of_marked seen.start stopped one.sent.frame one.served.item) ≡ times value (new_among (kept_by seen.start true kept) draws) =
        ap (λ (f : Up). times value (of_marked seen.start stopped f one.served.item)) frame_is ∙ ap (λ (i : Item). times value (of_marked seen.start stopped (up.Call true kept called) i)) item_is in
        let in_link = total_at (λ h. times value (of_marked seen.start stopped h.sent.frame h.served.item)) link.served place one there in
        let in_all = total_at marked_weight links index link at in
        let kept_few = kept_times_few kept repeated in
        let most = both_once in
        omega (arith, split, fewer, here, in_link, in_all, kept_few, most)
    item_once frame (item.Call true asked answers draws) frame_is item_is (inl is) right repeated = absurd (let none : ⊥ = cc in none)
    item_once frame (item.Call true asked answers draws) frame_is item_is (inr is) right repeated = absurd (let none : ⊥ = cc in none)
    item_once frame (item.Call false asked answers draws) frame_is item_is is right repeated =
        let here : times value (of_plain one.served.item) ≡ times value draws = ap (λ (i : Item). times value (of_plain i)) item_is in
        let in_link = total_at (λ h. times value (of_plain h.served.item)) link.served place one there in
        let in_all = total_at plain_weight links index link at in
        let most = both_once in
        omega (arith, here, in_link, in_all, most)
    item_once frame (item.CrashedCall marked asked) frame_is item_is is right repeated =
        let here : times value (anew seen.start stopped one.sent.frame one.served.item) ≡ times value stopped = ap (λ (i : Item). times value (anew seen.start stopped one.sent.frame i)) item_is in
        let in_link = total_at (λ h. times value (anew seen.start stopped h.sent.frame h.served.item)) link.served place one there in
        let in_all = total_at all_weight links index link at in
        let most = all_once in
        omega (arith, here, in_link, in_all, most)
    item_once frame it frame_is item_is is right repeated = omega arith

    right_at : is_drawn seen.start one.sent.frame one.served.item ≡ true
    right_at = by link.session refl
      where
        by : (session : Option SessionId) → link.session ≡ session → is_drawn seen.start one.sent.frame one.served.item ≡ true
        by None none = absurd (let empty : slice_get [] place ≡ Some one = ap (λ (served : List Handled). slice_get served place) (sym ((has_drawn orderly serve legal fresh_new document events notes items seen t calls reached value (suc index) link at).unnamed none)) ∙ there in let never : ⊥ = cc in never)
        by (Some session) its = at_all (λ h. is_drawn seen.start h.sent.frame h.served.item) link.served place one (link_drew orderly serve legal fresh_new document events notes items seen t calls reached (suc index) link session at its).right there

    call_once : times value (given_to stopped one) ≤ 1
    call_once =
        let repeated = at_all (repeats_given links) link.served place one (at_link (λ l. list_all (repeats_given links) l.served) links (suc index) link (reached_given orderly document events notes items seen t calls reached).repeated at) there in
        item_once one.sent.frame one.served.item refl refl (handled_at 0 link.served place one (handled index link at) there) right_at repeated

  all_fit : Each (Fits t value few) (stored_calls t)
  all_fit =
      each_flat (Fits t value few) (stored_on t) links
      (λ index link at. each_stored (Fits t value few) (stopped_draws t link.held) (stood_in t link.held) link.served
      (λ place one there. record { once = call_once index link at place one there; from = given_so t value few index link at place one there }))

  -- ENTRIES ---------------------------------------------------------------------------------------

  stored_few : (all : List Link) → ((index : ℕ) (link : Link) → slice_get all index ≡ Some link → (session : SessionId) → link.session ≡ Some session → of_session value gained session ≤ times value (stored_drawn (stored_on t link)))
      → total (of_session value gained) (names all) ≤ total (λ link. times value (stored_drawn (stored_on t link))) all
  stored_few [] has = omega arith
  stored_few (link ∷ all) has = by link.session refl (stored_few all (λ index one at. has (suc index) one at))
    where
      by : (session : Option SessionId) → link.session ≡ session → total (of_session value gained) (names all) ≤ total (λ l. times value (stored_drawn (stored_on t l))) all
          → total (of_session value gained) (cons_option session (names all)) ≤ times value (stored_drawn (stored_on t link)) + total (λ l. times value (stored_drawn (stored_on t l))) all
      by None is rest = omega (arith, rest)
      by (Some session) is rest = let own = has 0 link refl session is in omega (arith, rest, own)

  named_few : total (of_session value gained) (sessions_of t) ≤ times value (stored_drawn (stored_calls t))
  named_few =
      let all = stored_few links (λ index link at session its.
      let told = link_drew orderly serve legal fresh_new document events notes items seen t calls reached (suc index) link session at its in
      let spent = told.spent value in
      let nothing = none_open (is_stored_next (stood_in t link.held) link.served) in
      let same : times value (stored_drawn (stored_on t link)) ≡ times value (flat_map (given_to (stopped_draws t link.held)) (stored_of (stood_in t link.held) link.served)) = ap (times value) (mapped_drawn (stopped_draws t link.held) (stored_of (stood_in t link.held) link.served)) in
      omega (arith, spent, nothing, same)) in
      let flat = flat_drawn value (stored_on t) links in
      omega (arith, all, flat)
    where
      none_open : (test : Bool) → count_if test 0 ≡ 0
      none_open true = refl
      none_open false = refl

  outside_few : (sessions : List SessionId) → each_pair (λ a b. not (same_session a b)) sessions ≡ true → ((session : SessionId) → among sessions session ≡ true → among t.outside session ≡ true) → total (of_session value gained) sessions ≤ times value (drew (among sessions))
  outside_few [] apart outside = omega arith
  outside_few (session ∷ sessions) apart outside =
      let parts = and_parts (all_with (λ other. not (same_session session other)) sessions) (each_pair (λ a b. not (same_session a b)) sessions) apart in
      let rest = outside_few sessions parts.1 (λ other is. outside other (or_right (same_session other session) (among sessions other) is)) in
      let own = history_counts seen.start session value seen.history (walk_of seen.start gained) 0 (legal_so_far orderly serve legal fresh_new document events notes items seen t calls reached) (reached_plain orderly document events notes items seen t calls reached session (outside session (or_left (same_session session session) (among sessions session) (session_self session)))) in
      let both = drawn_apart value (is_session session) (among sessions) (among (session ∷ sessions)) (first_apart session sessions parts.0) seen.start (walk_of seen.start gained) (items_of seen.history) in
      omega (arith, rest, own, both)

  all_covered : list_all (λ entry. among (sessions_of t ++ distinct t.outside) (session_of entry.ltxid)) gained ≡ true
  all_covered =
      weaker_all (is_of_run t) (λ entry. among (sessions_of t ++ distinct t.outside) (session_of entry.ltxid)) gained
      (λ entry is. list_any-append (same_session (session_of entry.ltxid)) (sessions_of t) (distinct t.outside)
      ∙ ap (λ (test : Bool). among (sessions_of t) (session_of entry.ltxid) || test) (distinct_among t.outside (session_of entry.ltxid))
      ∙ (ap (λ (test : Bool). test || among t.outside (session_of entry.ltxid)) (sym (any_links (session_of entry.ltxid) links)) ∙ is))
      (sym (ap (list_all (is_of_run t)) (gained_is orderly serve legal fresh_new document events notes items seen t calls reached)) ∙ (and_parts (list_all (λ one. is_known t (session_of one.ltxid)) t.entries) (list_all (is_of_run t) (drop t.image t.entries)) (so_far orderly serve legal fresh_new document events notes items seen t calls reached).number.known).1)

  pub value_once : are_stored_once t ≡ true → times value (flat_map draws_of gained) ≤ 1
  value_once stored = by (times value (drew (among t.outside))) (times value (stored_drawn (stored_calls t))) refl refl
    where
      most : times value (flat_map draws_of gained) ≤ times value (stored_drawn (stored_calls t)) + times value (drew (among t.outside))
      most =
          let all = covered value (sessions_of t ++ distinct t.outside) gained all_covered in
          let sum = total_append (of_session value gained) (sessions_of t) (distinct t.outside) in
          let first = named_few in
          let second = outside_few (distinct t.outside) (distinct_apart t.outside) (λ session is. sym (distinct_among t.outside session) ∙ is) in
          let more = drawn_more value (among (distinct t.outside)) (among t.outside) (λ session is. sym (distinct_among t.outside session) ∙ is) seen.start (walk_of seen.start gained) (items_of seen.history) in
          omega (arith, all, sum, first, second, more)

      calls_once : times value (stored_drawn (stored_calls t)) ≤ 1
      calls_once = one_time t value few (stored_calls t) all_fit stored

      outside_once : times value (drew (among t.outside)) ≤ 1
      outside_once =
          let within = drawn_within value (among t.outside) seen.start (walk_of seen.start gained) (items_of seen.history) in
          let limit = once orderly serve legal fresh_new document events notes items seen t calls reached value single in
          omega (arith, within, limit)

      by : (outside stored_so : ℕ) → times value (drew (among t.outside)) ≡ outside → times value (stored_drawn (stored_calls t)) ≡ stored_so → times value (flat_map draws_of gained) ≤ 1
      by zero stored_so none is = omega (arith, most, calls_once, none)
      by (suc outside) zero some none = omega (arith, most, outside_once, none)
      by (suc outside) (suc stored_so) some more =
          let found = some_given t value few (stored_calls t) all_fit (omega (arith, more)) in
          let equal : value ≡ found.0.value = (same_draw_decides value found.0.value).0 found.1.1 in
          let here : 1 ≤ times value (drew (among (sessions_of t))) = subst (λ (v : Draw). 1 ≤ times v (drew (among (sessions_of t)))) (sym equal) (given_drawn orderly serve legal fresh_new document events notes items seen t calls reached found.0 found.1.0) in
          absurd (never_both orderly serve legal fresh_new document events notes items seen t calls reached value single here (omega (arith, some)))

-- No value stands twice among what the entries drew that a run added.
runs_fresh_by_calls : RunsAreOrderly → RunsServe → RunsLegal → RunsFreshNew → (document : Document) (events : List Event) (notes : List Note) (items : List Served) (seen : Seen) (t : Traced) → all_requests_right document ≡ true → Reached document events notes items seen t
    → are_stored_once t ≡ true → fresh (drop t.image t.entries) ≡ true
runs_fresh_by_calls orderly serve legal fresh_new document events notes items seen t calls reached stored =
    ap fresh (gained_is orderly serve legal fresh_new document events notes items seen t calls reached)
    ∙ each_once (flat_map draws_of (new orderly serve legal fresh_new document events notes items seen t calls reached)) (λ value single. value_once orderly serve legal fresh_new document events notes items seen t calls reached value single stored)

pub stored_fresh : RunsAreOrderly → RunsServe → RunsLegal → RunsFreshNew → StoredValuesAreFresh
stored_fresh orderly serve legal fresh_new document events notes items seen t calls reached = by (are_stored_once t) refl
  where
    by : (test : Bool) → are_stored_once t ≡ test → implies test (fresh (drop t.image t.entries)) ≡ true
    by true stored = runs_fresh_by_calls orderly serve legal fresh_new document events notes items seen t calls reached stored
    by false stored = refl
