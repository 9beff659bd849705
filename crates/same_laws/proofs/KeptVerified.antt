-- What a request knows of the calls that its connections served is so at the start and behind each
-- event.
use Rattle.std.proofs.Common.{◌≡◌, ◌≢◌, refl, sym, ap, subst, ◌∙◌, append-nil, Bool, true, false, ℕ, suc, zero, ◌+◌, ◌-◌, ◌≤◌, ◌&&◌, ◌||◌, filter, length, take, List, [], ◌∷◌, ◌++◌, map, Option, Some, None, if◌then◌else◌, arith}
use Rattle.std.specs.Prelude.{not, option_map, unwrap_or}
use Rattle.std.specs.List.{list_all, cons_option}
use Rattle.std.specs.Option.{option_map_or}
use Rattle.std.proofs.lemmas.Bool.{and_parts, and_from}
use Rattle.std.proofs.lemmas.List.Elements.{filter-append}
use Rattle.std.proofs.lemmas.Option.{slice_get_within}
use Rattle.svc_values.specs.declared.answer.Answer.{Answer}
use Rattle.svc_values.specs.declared.entry.Ltxid.{Ltxid}
use Rattle.outage_schedule.specs.declared.document.Document.{Document}
use Rattle.outage_schedule.specs.declared.item.Served.{Served}
use Rattle.client_model.specs.declared.input.Input.{Input}
use Rattle.client_model.specs.declared.input.Input.TheVariants.{Lent}
use Rattle.client_model.specs.Conversation.{is_wanted, is_gone, may_come}
use Rattle.client_model.specs.meaning.Talk.{wants_of}
use Rattle.run_clauses.specs.meaning.Reports.{shown_call}
use Rattle.world_model.specs.meaning.Acting.{call_in, frames_of, owner_at, sent_by}
use Rattle.world_model.specs.meaning.Clients.{Client, past_of}
use Rattle.world_model.specs.meaning.Frames.{Owner, Sent, Handled}
use Rattle.world_model.specs.Orderly.{Orderly}
use Rattle.invariant_laws.specs.KeptLaws.{StaysTrue}
use Rattle.world_model.specs.meaning.Links.{Link, link_at}
use Rattle.world_model.specs.meaning.Machines.{Machine}
use Rattle.world_model.specs.meaning.Matching.{Noted}
use Rattle.world_model.specs.meaning.Outside.{closed_by_drain}
use Rattle.world_model.specs.Reached.{traced_start}
use Rattle.world_model.specs.Sames.{owned_by}
use Rattle.world_model.specs.meaning.Settings.{Setting, setting_of}
use Rattle.invariant_laws.specs.Shown.{is_call}
use Rattle.world_model.specs.Traced.{Traced, Course, course_now, course_over, courses_of, courses_of_clients}
use Rattle.invariant_laws.specs.Verified.{are_verified, is_verified, on_held, verifies}
use Rattle.world_model.specs.Words.{brought, held_in}
use Rattle.world_model.proofs.Offered.{append_all, weaker_all, HasStepped, Brings, NoneNew, IdleOne, NewOne, MayStep, Still, Closed, Stepped, happens_step, all_step, Followed, follow_happens, at_event, held_now, each_passes, resting_none, spoken_passes, known_of, Known, Happens, IsDoing, moves_next_number as next_number, after_held, slot_wanted, grown_at, link_sents, passes_from, passes_to, sents_at, sents_pass, is_strange, sent_lists, account_now, first_doing, first_step, step_owner, slot_strange, other_owner, all_turn}
use Rattle.invariant_laws.proofs.Offered.{before_on, before_so, OnIt, others_row, row_append, strange_row, row_of}
use Rattle.same_laws.proofs.ServingTurns.{Serving, NothingYet, AsMuch, OneMore, comes_serving}
use Rattle.once_laws.proofs.Offered.{calls_few, calls_many, take_all, take_before}
use Rattle.same_laws.proofs.VerifiedSteps.{no_one, step_verifies, still}

-- ONE CONNECTION ----------------------------------------------------------------------------------

abbrev calls_by : Owner → List Handled → List Handled
calls_by owner served = filter (λ one. owned_by owner one.sent && is_call one.sent.frame) served

if_either : {A : Type 0} (P : List A → Type 0) (test : Bool) (x : A) → P (x ∷ []) → P [] → P (if test then x ∷ [] else [])
if_either P true x one none = one
if_either P false x one none = none

module _ (digest : List Answer → List ℕ) (c d : Course) (same : d.owner ≡ c.owner) (keeps : (one : Handled) → is_verified digest c one ≡ true → is_verified digest d one ≡ true) (links later : List Link) (items left : List Served)
    (known : (at : ℕ) (link : Link) → link_at links at ≡ Some link → Known link) (serving : (number : ℕ) (next : Link) → link_at later number ≡ Some next → Serving links items left number next)
    (rows : (number : ℕ) (was : Link) → link_at links number ≡ Some was → list_all (is_verified digest c) (take (length (row_of c.owner was.sent) - 1) (calls_by c.owner was.served)) ≡ true
    → (sents : List Sent) → sents_at (sent_lists later) number ≡ Some sents → list_all (is_verified digest d) (take (length (row_of c.owner sents) - 1) (calls_by c.owner was.served)) ≡ true) where
  abbrev seen : Handled → Bool
  seen = is_verified digest d

  next_sents : (number : ℕ) (next : Link) → link_at later number ≡ Some next → sents_at (sent_lists later) number ≡ Some next.sent
  next_sents number next here = link_sents later number ∙ ap (λ (found : Option Link). option_map (λ (l : Link). l.sent) found) here

  by_serving : (number : ℕ) (next : Link) → link_at later number ≡ Some next
      → ((was : Link) → link_at links number ≡ Some was → list_all (is_verified digest c) (take (length (row_of c.owner was.sent) - 1) (calls_by c.owner was.served)) ≡ true)
      → Serving links items left number next → list_all seen (take (length (row_of c.owner next.sent) - 1) (calls_by c.owner next.served)) ≡ true
  by_serving number next here old (NothingYet none) =
      take_all seen (length (row_of c.owner next.sent) - 1) (calls_by c.owner next.served) (ap (λ (served : List Handled). list_all seen (calls_by c.owner served)) none)
  by_serving number next here old (AsMuch was there served) =
      ap (λ (all : List Handled). list_all seen (take (length (row_of c.owner next.sent) - 1) (calls_by c.owner all))) served ∙ rows number was there (old was there) next.sent (next_sents number next here)
  by_serving number next here old (OneMore was there it item served sent) =
      ap (λ (all : List Handled). list_all seen (take (length (row_of c.owner next.sent) - 1) (calls_by c.owner all))) served
      ∙ (ap (λ (sents : List Sent). list_all seen (take (length (row_of c.owner sents) - 1) (calls_by c.owner (was.served ++ it ∷ [])))) sent
      ∙ (ap (λ (all : List Handled). list_all seen (take (length (row_of c.owner was.sent) - 1) all)) (filter-append (λ (one : Handled). owned_by c.owner one.sent && is_call one.sent.frame) was.served (it ∷ []))
      ∙ if_either (λ more. list_all seen (take (length (row_of c.owner was.sent) - 1) (calls_by c.owner was.served ++ more)) ≡ true) (owned_by c.owner it.sent && is_call it.sent.frame) it
      (ap (list_all seen) (take_before (length (row_of c.owner was.sent) - 1) (calls_by c.owner was.served) it few) ∙ before)
      (ap (λ (all : List Handled). list_all seen (take (length (row_of c.owner was.sent) - 1) all)) (append-nil (calls_by c.owner was.served)) ∙ before)))
    where
      many : length (row_of c.owner was.sent) ≤ length (calls_by c.owner was.served) + 1
      many = calls_many c was (known number was there)

      few : length (row_of c.owner was.sent) - 1 ≤ length (calls_by c.owner was.served)
      few = omega (arith, many)

      before : list_all seen (take (length (row_of c.owner was.sent) - 1) (calls_by c.owner was.served)) ≡ true
      before = weaker_all (is_verified digest c) seen (take (length (row_of c.owner was.sent) - 1) (calls_by c.owner was.served)) keeps (old was there)

  pub number_now : (number : ℕ) → ((was : Link) → link_at links number ≡ Some was → list_all (is_verified digest c) (take (length (row_of c.owner was.sent) - 1) (calls_by c.owner was.served)) ≡ true)
      → option_map_or (verifies digest d) (link_at later number) true ≡ true
  number_now number old = by (link_at later number) refl
    where
      by : (found : Option Link) → link_at later number ≡ found → option_map_or (verifies digest d) found true ≡ true
      by None is = refl
      by (Some next) is =
          subst (λ (owner : Owner). list_all seen (take (length (row_of owner next.sent) - 1) (calls_by owner next.served)) ≡ true) (sym same) (by_serving number next is old (serving number next is))

-- where it held the connection before
found_old : (digest : List Answer → List ℕ) (c : Course) (links : List Link) (number : ℕ) → option_map_or (verifies digest c) (link_at links number) true ≡ true → (was : Link) → link_at links number ≡ Some was
    → list_all (is_verified digest c) (take (length (row_of c.owner was.sent) - 1) (calls_by c.owner was.served)) ≡ true
found_old digest c links number here was there = sym (ap (λ (found : Option Link). option_map_or (verifies digest c) found true) there) ∙ here

-- EVENTS ------------------------------------------------------------------------------------------

module _ (t : Traced) (inv : Orderly t) (new : Traced) (items left : List Served) (kind : Noted) (happens : Happens t.setting (at_event t.machine) items left kind new.machine) (old : are_verified t ≡ true) where
  abbrev m : Machine
  m = at_event t.machine

  abbrev digest : List Answer → List ℕ
  digest = t.setting.terms.digest

  abbrev verified_on : List Link → Course → Bool
  verified_on links course = list_all (λ number. option_map_or (verifies digest course) (link_at links number) true) (held_in course.steps)

  serves : (number : ℕ) (next : Link) → link_at new.machine.links number ≡ Some next → Serving m.links items left number next
  serves number next here = comes_serving m items left kind number next (all_turn t.setting m (held_now t inv) items left kind new.machine happens number next here)

  knows : (at : ℕ) (link : Link) → link_at t.machine.links at ≡ Some link → Known link
  knows at link there = known_of t inv at link there

  -- of a request that does not step: frames of others are no calls of it
  alike : (course : Course) → ((number : ℕ) (test : List Sent → Bool) → ((sents : List Sent) → ((more : List Sent) → row_of course.owner more ≡ [] → test sents ≡ true → test (sents ++ more) ≡ true)) → sents_pass test (sent_lists m.links) number ≡ true → sents_pass test (sent_lists new.machine.links) number ≡ true)
      → verified_on t.machine.links course ≡ true → verified_on new.machine.links course ≡ true
  alike course goes here =
      weaker_all (λ number. option_map_or (verifies digest course) (link_at t.machine.links number) true) (λ number. option_map_or (verifies digest course) (link_at new.machine.links number) true) (held_in course.steps)
      (λ number so. number_now digest course course refl (λ one is. is) t.machine.links new.machine.links items left knows serves rows number (found_old digest course t.machine.links number so)) here
    where
      rows : (number : ℕ) (was : Link) → link_at t.machine.links number ≡ Some was → list_all (is_verified digest course) (take (length (row_of course.owner was.sent) - 1) (calls_by course.owner was.served)) ≡ true
          → (sents : List Sent) → sents_at (sent_lists new.machine.links) number ≡ Some sents → list_all (is_verified digest course) (take (length (row_of course.owner sents) - 1) (calls_by course.owner was.served)) ≡ true
      rows number was there so sents is =
          let test : List Sent → Bool = λ all. list_all (is_verified digest course) (take (length (row_of course.owner all) - 1) (calls_by course.owner was.served)) in
          let now = passes_from test (sent_lists new.machine.links) number
          (goes number test
          (λ all more none passes. ap (λ (row : List Sent). list_all (is_verified digest course) (take (length row - 1) (calls_by course.owner was.served)))
          (row_append course.owner all more ∙ (ap (λ (rest : List Sent). row_of course.owner all ++ rest) none ∙ append-nil (row_of course.owner all))) ∙ passes)
          (passes_to test (sent_lists m.links) number was.sent (link_sents m.links number ∙ ap (λ (found : Option Link). option_map (λ (l : Link). l.sent) found) there) so)) in
          let e : Some now.sents ≡ Some sents = sym now.there ∙ is in
          let same : now.sents ≡ sents = cc in
          subst (λ (all : List Sent). test all ≡ true) same now.passes

  -- of the one that steps
  module _ (number : ℕ) (step : HasStepped t.setting m number new.machine) where
    abbrev mine : Owner
    mine = record { client = number; place = length step.client.past }

    abbrev before : Course
    before = course_now t.setting number (length step.client.past) step.before

    strange : (connection : ℕ) (link : Link) (ltxid : Ltxid) → step.input ≡ Lent connection ltxid → link_at m.links connection ≡ Some link → row_of mine link.sent ≡ []
    strange connection link ltxid is there =
        let may : may_come false (wants_of t.setting.terms step.before.talk m.tick) (Lent connection ltxid) ≡ true = subst (λ (i : Input). may_come false (wants_of t.setting.terms step.before.talk m.tick) i ≡ true) is step.may in
        let wanted = (and_parts (is_wanted (wants_of t.setting.terms step.before.talk m.tick) (Lent connection ltxid)) (is_gone (Lent connection ltxid) || not false) may).0 in
        let doing : IsDoing t.setting m number step.before _ = record { client = step.client; here = step.here; does = step.does; wants = slot_wanted (wants_of t.setting.terms step.before.talk m.tick) connection ltxid wanted } in
        strange_row mine link.sent
        (subst (λ (owner : Owner). is_strange owner link ≡ true) (step_owner t.setting m inv.script.talks number new.machine step) (slot_strange t m number step.before connection link refl refl inv.script.ready inv.script.owned doing there))

    module _ (d : Course) (owner : d.owner ≡ mine) (steps : d.steps ≡ step.after.steps) (report : d.report.calls ≡ map shown_call (account_now t.setting.terms step.after).shown) where
      at_number : (at : ℕ) → ((was : Link) → link_at t.machine.links at ≡ Some was → list_all (is_verified digest before) (take (length (row_of mine was.sent) - 1) (calls_by mine was.served)) ≡ true)
          → option_map_or (verifies digest d) (link_at new.machine.links at) true ≡ true
      at_number =
          number_now digest before d owner (still t.setting m inv.script.talks number new.machine step on strange knows d owner report) t.machine.links new.machine.links items left knows serves
          (λ at was there so sents is. step_verifies t.setting m inv.script.talks number new.machine step on strange knows d owner report at was there so sents is)
        where
          on : (at : ℕ) → step.before.connection ≡ Some at → OnIt m.links mine step.before.connection step.before.talk.phase
          on at has = before_on t m number new.machine step step.here inv.hold.held inv.wire.grammar at has

      -- on one that is brought it sent no call
      none_sent : (at : ℕ) (was : Link) → link_at t.machine.links at ≡ Some was → row_of mine was.sent ≡ [] → list_all (is_verified digest before) (take (length (row_of mine was.sent) - 1) (calls_by mine was.served)) ≡ true
      none_sent at was there none =
          let few : length (calls_by mine was.served) ≤ length (row_of mine was.sent) = calls_few before was (knows at was there) in
          let zero : length (row_of mine was.sent) ≡ 0 = ap (λ (all : List Sent). length all) none in
          take_all (is_verified digest before) (length (row_of mine was.sent) - 1) (calls_by mine was.served) (ap (list_all (is_verified digest before)) (no_one (calls_by mine was.served) (omega (arith, few, zero))))

      too_far : (links : List Link) (at : ℕ) (was : Link) → at ≡ length links + 1 → link_at links at ≡ Some was → ⊥
      too_far links zero was at there = let never : ⊥ = omega (arith, at) in never
      too_far links (suc index) was at there = let within = slice_get_within links index was there in let never : ⊥ = omega (arith, at, within) in never

      brought_at : (input : Input) → step.input ≡ input → Brings m step.lists input → list_all (λ at. option_map_or (verifies digest d) (link_at new.machine.links at) true) (cons_option (brought input) []) ≡ true
      brought_at _ is (NoneNew input none) = ap (λ (found : Option ℕ). list_all (λ at. option_map_or (verifies digest d) (link_at new.machine.links at) true) (cons_option found [])) none
      brought_at _ is (IdleOne connection ltxid link there) =
          and_from (option_map_or (verifies digest d) (link_at new.machine.links connection) true) true
          (at_number connection (λ was found. none_sent connection was found (strange connection was ltxid is found))) refl
      brought_at _ is (NewOne more) =
          and_from (option_map_or (verifies digest d) (link_at new.machine.links (next_number m)) true) true
          (at_number (next_number m) (λ was found. absurd (too_far t.machine.links (next_number m) was refl found))) refl

      mine_now : verified_on new.machine.links d ≡ true
      mine_now =
          ap (λ (all : List ℕ). list_all (λ at. option_map_or (verifies digest d) (link_at new.machine.links at) true) all) (ap held_in steps ∙ after_held t.setting m inv.script.talks number new.machine step)
          ∙ append_all (λ at. option_map_or (verifies digest d) (link_at new.machine.links at) true) (held_in step.before.steps) (cons_option (brought step.input) [])
          (weaker_all (λ at. option_map_or (verifies digest before) (link_at t.machine.links at) true) (λ at. option_map_or (verifies digest d) (link_at new.machine.links at) true) (held_in step.before.steps)
          (λ at so. at_number at (found_old digest before t.machine.links at so))
          (before_so t inv number new.machine step (verified_on t.machine.links) old (λ request. refl)))
          (brought_at step.input refl step.brings)

    others_now : (course : Course) → course.owner ≢ mine → verified_on t.machine.links course ≡ true → verified_on new.machine.links course ≡ true
    others_now course differs = alike course goes
      where
        said : List Sent
        said = map (sent_by (owner_at m number) (call_in (first_doing t.setting m inv.script.talks number new.machine step).talk.phase)) (frames_of step.pool (unwrap_or step.connection 0) (first_step t.setting m inv.script.talks number new.machine step).done.act)

        none : row_of course.owner said ≡ []
        none =
            others_row course.owner (owner_at m number) (call_in (first_doing t.setting m inv.script.talks number new.machine step).talk.phase) (frames_of step.pool (unwrap_or step.connection 0) (first_step t.setting m inv.script.talks number new.machine step).done.act)
            (other_owner course.owner (owner_at m number) (λ same. differs (same ∙ step_owner t.setting m inv.script.talks number new.machine step)))

        goes : (at : ℕ) (test : List Sent → Bool) → ((sents : List Sent) → ((more : List Sent) → row_of course.owner more ≡ [] → test sents ≡ true → test (sents ++ more) ≡ true)) → sents_pass test (sent_lists m.links) at ≡ true → sents_pass test (sent_lists new.machine.links) at ≡ true
        goes at test more here =
            let is = passes_from test (sent_lists m.links) at here in
            subst (λ (lists : List (List Sent)). sents_pass test lists at ≡ true) (sym step.sent_are)
            (spoken_passes test said (λ sents so. more sents said none so) step.lists (unwrap_or step.connection 0) at (passes_to test step.lists at is.sents (grown_at (sent_lists m.links) step.lists at is.sents step.grows is.there) is.passes))

  may_verify : MayStep t.setting m new.machine → list_all (verified_on new.machine.links) (courses_of_clients t.setting 1 new.machine.clients) ≡ true
  may_verify (Still same sents) =
      subst (λ (c : List Client). list_all (verified_on new.machine.links) (courses_of_clients t.setting 1 c) ≡ true) (sym same)
      (weaker_all (verified_on t.machine.links) (verified_on new.machine.links) (courses_of t) (λ course. alike course (λ at test more here. subst (λ (lists : List (List Sent)). sents_pass test lists at ≡ true) (sym sents) here)) old)
  may_verify (Closed same sents) =
      subst (λ (c : List Client). list_all (verified_on new.machine.links) (courses_of_clients t.setting 1 c) ≡ true) (sym same)
      (weaker_all (verified_on t.machine.links) (verified_on new.machine.links) (courses_of t)
      (λ course. alike course
      (λ at test more here. subst (λ (lists : List (List Sent)). sents_pass test lists at ≡ true) (sym sents)
      (each_passes test (closed_by_drain ∷ []) (λ all so. more all (closed_by_drain ∷ []) refl so) (sent_lists m.links) m.pool.idle at here))) old)
  may_verify (Stepped number step) =
      all_step t.setting (verified_on t.machine.links) (verified_on new.machine.links) (record { client = number; place = length step.client.past }) (others_now number step) m number new.machine step refl
      (λ keep. mine_now number step (course_now t.setting number (length step.client.past) step.after) refl refl refl)
      (λ over. mine_now number step (course_over number (length step.client.past) (past_of t.setting.terms step.after)) refl refl refl) old

pub verified_law : StaysTrue are_verified
verified_law = record {
  at_start = λ document. resting_none (setting_of document) 1 (verified_on_start document) document.clients;
  at_event = λ before after old new event note items left one inv was.
      let by : Followed old.setting old.machine event note items left new.machine = follow_happens old.setting old.machine event note items left new.machine one.follows in
      subst (λ (setting : Setting). list_all (λ course. on_held new course (verifies setting.terms.digest course)) (courses_of_clients setting 1 new.machine.clients) ≡ true) (sym one.setting)
      (may_verify old inv new items left by.kind by.happens was (happens_step old.setting (at_event old.machine) items left by.kind new.machine by.happens));
}
  where
    verified_on_start : Document → Course → Bool
    verified_on_start document course = on_held (traced_start document) course (verifies (setting_of document).terms.digest course)
