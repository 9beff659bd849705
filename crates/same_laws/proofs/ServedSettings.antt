-- Each call of a request that a connection served ran in the settings of its request, changed by
-- each `set` before it.
use Rattle.std.proofs.Common.{◌≡◌, refl, sym, ap, subst, ◌∙◌, ℕ, ◌+◌, ◌&&◌, Bool, true, false, List, [], ◌∷◌, ◌++◌, map, filter, fold, Option, None, if◌then◌else◌}
use Rattle.std.specs.Prelude.{◌==◌}
use Rattle.std.specs.List.{list_all}
use Rattle.std.specs.Option.{option_map_or}
use Rattle.std.proofs.lemmas.Bool.{and_parts}
use Rattle.svc_values.specs.declared.call.Call.{Call}
use Rattle.svc_values.specs.declared.draw.Draw.{Draw}
use Rattle.svc_values.specs.declared.frame.Up.{Up}
use Rattle.svc_values.specs.declared.frame.Up.TheVariants as up
use Rattle.world_model.specs.records.Basic.{none_behind}
use Rattle.invariant_laws.specs.Begins.{begin_in, begins_followed, carries_on, follows_begin}
use Rattle.world_model.specs.meaning.Frames.{Sent, Handled}
use Rattle.world_model.specs.meaning.Links.{Link}
use Rattle.invariant_laws.specs.Same.{Ran}
use Rattle.world_model.specs.Sames.{owned_by}
use Rattle.invariant_laws.specs.Shown.{in_row, is_call}
use Rattle.world_model.specs.Traced.{Course}
use Rattle.world_model.specs.records.Wire.{Stage, New, counted_with, handled_from, is_handled, is_right, is_sent_front, next_stage, stage_of}
use Rattle.world_model.proofs.Offered.{moved, lone_later, link_lives_none_later as none_later, eq_from}
use Rattle.invariant_laws.proofs.Offered.{kept_settings_carries as carries, link_rests, rests_rightly, none_ran}
use Rattle.once_laws.proofs.Offered.{carried_on, followed_on, follows, is_mine, was_right, handled_deal, Next, GoesOn, IsDone, RanStartsStandsAt as StandsAt, follows_so, knows, next_step, one_next, sents_of, since, step, was_set, InRow}
use Rattle.same_laws.proofs.ToldSettings.{set_handled, settings_ran}

not_none : (front : List Handled) (last : Handled) (rest : List Handled) → front ++ last ∷ rest ≡ [] → ⊥
not_none [] last rest is = let none : ⊥ = cc in none
not_none (one ∷ front) last rest is = let none : ⊥ = cc in none

module _ (course : Course) where
  -- the first one of those that are left is the request's next call
  first_at : (n : ℕ) (sent : Sent) (rests : List Sent) → is_mine course sent ≡ true → in_row n (filter (is_mine course) (sent ∷ rests)) ≡ true → sent.call ≡ n
  first_at n sent rests mine row =
      let here : in_row n (sent ∷ filter (is_mine course) rests) ≡ true = subst (λ (test : Bool). in_row n (if test then sent ∷ filter (is_mine course) rests else filter (is_mine course) rests) ≡ true) mine row in
      eq_from sent.call n (and_parts (sent.call == n) (in_row (n + 1) (filter (is_mine course) rests)) here).0

  -- where it is served, its session has the settings before it
  call_at : (front : List Handled) (last : Handled) (rest : List Handled) (stage : Stage) (n : ℕ) (ran : Ran) (next : Option ℕ) (commits : ℕ) (begin : Option Sent) (replay : Bool) (kept : List Draw) (call : Call) → last.sent.frame ≡ up.Call replay kept call → owned_by course.owner last.sent ≡ true
      → handled_from commits (front ++ last ∷ rest) ≡ true → none_behind (front ++ last ∷ rest) ≡ true → is_right (fold moved stage (sents_of course (front ++ last ∷ rest))) ≡ true → in_row n (filter (is_mine course) (sents_of course (front ++ last ∷ rest))) ≡ true
      → list_all (follows course) (sents_of course (front ++ last ∷ rest)) ≡ true → list_all (carries course) (sents_of course (front ++ last ∷ rest)) ≡ true → follows_so begin (sents_of course (front ++ last ∷ rest)) ≡ true → StandsAt course stage n ran next → knows course ran ≡ true
      → (fold (step course) ran front).settings ≡ since course last.sent.call
  call_at [] last rest stage n ran next commits begin replay kept call frame own handled lone right row scripts carry follow stands known =
      let now_right : is_right (next_stage stage last.sent.owner (up.Call replay kept call)) ≡ true =
      subst (λ (f : Up). is_right (next_stage stage last.sent.owner f) ≡ true) frame (was_right (moved stage last.sent) (sents_of course rest) right) in
      let mine : is_mine course last.sent ≡ true = (λ i. own i && is_call (frame i)) in
      let set = was_set course stage last.sent.owner replay kept call n ran next now_right stands in
      (set.mine own).0 ∙ ap (since course) (sym (first_at n last.sent (sents_of course rest) mine row))
  call_at (one ∷ front) last rest stage n ran next commits begin replay kept call frame own handled lone right row scripts carry follow stands known =
      by (one_next course (sents_of course others) stage n ran next one.sent one.sent.frame one.served.item (handled_deal now one parts.0) (was_right (moved stage one.sent) (sents_of course others) right) row script.0 carried.0 followed stands known)
      (λ m stands_now row_now known_now.
      call_at front last rest (moved stage one.sent) m (step course ran one) (next_step course next one) now (begin_in one.sent) replay kept call frame own parts.1 (lone_later one others lone) right row_now script.1 carried.1 followed stands_now known_now)
    where
      others : List Handled
      others = front ++ last ∷ rest

      now : ℕ
      now = counted_with commits one.served.item

      parts : (is_handled now one ≡ true) × (handled_from now others ≡ true)
      parts = and_parts (is_handled now one) (handled_from now others) handled

      script : (follows course one.sent ≡ true) × (list_all (follows course) (sents_of course others) ≡ true)
      script = and_parts (follows course one.sent) (list_all (follows course) (sents_of course others)) scripts

      carried : (carries course one.sent ≡ true) × (list_all (carries course) (sents_of course others) ≡ true)
      carried = and_parts (carries course one.sent) (list_all (carries course) (sents_of course others)) carry

      followed : follows_so (begin_in one.sent) (sents_of course others) ≡ true
      followed = (and_parts (option_map_or (λ b. follows_begin b one.sent) begin true) (follows_so (begin_in one.sent) (sents_of course others)) follow).1

      by : Next course (sents_of course others) (moved stage one.sent) (step course ran one) (next_step course next one) one.served.item
          → ((m : ℕ) → StandsAt course (moved stage one.sent) m (step course ran one) (next_step course next one) → in_row m (filter (is_mine course) (sents_of course others)) ≡ true → knows course (step course ran one) ≡ true
          → (fold (step course) (step course ran one) front).settings ≡ since course last.sent.call)
          → (fold (step course) (step course ran one) front).settings ≡ since course last.sent.call
      by (GoesOn m stands_now row_now known_now) again = again m stands_now row_now known_now
      by (IsDone ends known_now stands_now) again = absurd (not_none front last rest (none_later one others lone ends))

  -- so the history tells
  pub call_settings : (link : Link) → is_sent_front link ≡ true → is_right (stage_of link) ≡ true → InRow course link.served → carries_on course link ≡ true → begins_followed link ≡ true → (front : List Handled) (one : Handled) (rest : List Handled) → link.served ≡ front ++ one ∷ rest
      → (replay : Bool) (kept : List Draw) (call : Call) → one.sent.frame ≡ up.Call replay kept call → owned_by course.owner one.sent ≡ true → fold set_handled [] front ≡ since course one.sent.call
  call_settings link sent right served carry follow front one rest is replay kept call frame own =
      settings_ran front one rest 0 false [] none_ran row.handled (subst (λ (all : List Handled). rests_rightly false (map (λ h. h.sent.frame) all) ≡ true) is (link_rests link sent right)) (ap is_call frame) (λ awake. refl)
      ∙ call_at front one rest New row.start none_ran None 0 None replay kept call frame own row.handled row.lone row.right row.row row.scripts
      (subst (λ (all : List Handled). list_all (carries course) (sents_of course all) ≡ true) is (carried_on course link sent carry))
      (subst (λ (all : List Handled). follows_so None (sents_of course all) ≡ true) is (followed_on course link sent follow)) (record { pieces = refl; next_is = refl }) refl
    where
      row : InRow course (front ++ one ∷ rest)
      row = subst (InRow course) is served
