-- Of Lost: a request that is over, and did not lose its last connection, left no call there that
-- may still be served, at the start and behind each event.
use Rattle.std.proofs.Common.{◌≡◌, refl, sym, ap, subst, ◌∙◌, Bool, true, false, ℕ, suc, zero, ◌+◌, ◌≤◌, ◌&&◌, ◌||◌, cond, length, List, [], ◌∷◌, ◌++◌, map, filter, Option, Some, None, arith}
use Rattle.std.specs.Prelude.{not, is_some, slice_get, unwrap_or}
use Rattle.std.specs.List.{list_all, list_any, last_or}
use Rattle.std.specs.Option.{option_map_or}
use Rattle.std.proofs.lemmas.Bool.{and_parts, and_from, or_right, or_from, not-true}
use Rattle.std.proofs.lemmas.List.{length-append}
use Rattle.std.proofs.lemmas.List.Elements.{filter-append}
use Rattle.std.proofs.lemmas.List.Folds.{list_any-append}
use Rattle.std.proofs.lemmas.List.Sums.{length-filter}
use Rattle.svc_values.specs.declared.frame.Up.{Up}
use Rattle.svc_values.specs.declared.frame.Up.TheVariants as up
use Rattle.outage_schedule.specs.declared.item.Served.{Served}
use Rattle.pool_core.specs.declared.answers.Back.{Back}
use Rattle.pool_core.specs.declared.answers.Back.TheVariants as back
use Rattle.pool_core.specs.meaning.Slots.{give_back_answer}
use Rattle.client_model.specs.declared.act.Hold.{Hold}
use Rattle.client_model.specs.declared.act.Hold.TheVariants as hold
use Rattle.client_model.specs.declared.input.Input.{Input}
use Rattle.client_model.specs.declared.input.Input.TheVariants.{Start, Waiting, Lent, Opened, TryFailed, Took, Gone}
use Rattle.client_model.specs.meaning.Terms.{Phase}
use Rattle.world_model.specs.meaning.Acting.{closing, frames_of, sent_by, call_in, owner_at}
use Rattle.world_model.specs.meaning.Clients.{Client, Doing, Past, client_at}
use Rattle.world_model.specs.meaning.Frames.{Owner, Sent, Reply}
use Rattle.world_model.specs.Orderly.{Orderly}
use Rattle.invariant_laws.specs.KeptLaws.{IsKeptOfAll}
use Rattle.world_model.specs.meaning.Links.{Link, link_at, takes}
use Rattle.invariant_laws.specs.Lost.{has_last, is_its_call, left_none, leave_none}
use Rattle.world_model.specs.meaning.Machines.{Machine}
use Rattle.world_model.specs.meaning.Matching.{Noted}
use Rattle.world_model.specs.Parts.{is_rep, is_out, is_unmarked, is_unmarked_frame, count_reps}
use Rattle.world_model.specs.Reached.{traced_start}
use Rattle.world_model.specs.Sames.{same_sent, same_reply, same_owner, owned_by, is_front}
use Rattle.world_model.specs.meaning.Settings.{Setting, setting_of}
use Rattle.world_model.specs.Traced.{Traced, Course, course_over, courses_from, courses_of, courses_of_clients}
use Rattle.world_model.specs.records.Wire.{up_of, is_sent_front, replies_of, is_reply_front, handled_from}
use Rattle.world_model.specs.Words.{brought, held_in}
use Rattle.world_model.proofs.Offered.{at_link, append_all, HasStepped, HeardOn, OfNone, OfIdle, OfNew, OfReply, OfEnded, is_frame, MayStep, Still, Closed, Stepped, happens_step, all_step, front_filter, Followed, follow_happens, at_event, held_now, resting_none, Happens, Spoken, Quiet, SayingFails as Fails, Ends, SayingAsks as Asks, Calls, Marks, has_next, is_hushed, said, same_reps, few_replies, front_long, reps_sent, awaits, first_step, first_doing, other_owner, eq_from}
use Rattle.invariant_laws.proofs.losses.KeptUnasked.{each_among}
use Rattle.invariant_laws.proofs.losses.LostKept.{course_ended}
use Rattle.invariant_laws.proofs.losses.LostSteps.{in_course, has_one, held_none, same_held, last_is, over_lets, tried_has, lent_keeps, act_on}
use Rattle.invariant_laws.proofs.losses.UpsLess.{HasLess, sends_less, happens_less}

-- LISTS -------------------------------------------------------------------------------------------

pub none_kept : {A : Type 0} (test : A → Bool) (xs : List A) → length (filter test xs) ≡ 0 → list_any test xs ≡ false
none_kept test [] none = refl
none_kept {A} test (x ∷ xs) none = by (test x) (λ rest. none_kept test xs rest) none
  where
    by : (found : Bool) → (length (filter test xs) ≡ 0 → list_any test xs ≡ false) → length (cond found (x ∷ filter test xs) (filter test xs)) ≡ 0 → (found || list_any test xs) ≡ false
    by true later none = absurd (let never : ⊥ = omega arith in never)
    by false later none = later none

pub none_weaker : {A : Type 0} (test next : A → Bool) (xs : List A) → ((x : A) → next x ≡ true → test x ≡ true) → list_any test xs ≡ false → list_any next xs ≡ false
none_weaker test next [] implies none = refl
none_weaker {A} test next (x ∷ xs) implies none = by (test x) (next x) (implies x) (λ rest. none_weaker test next xs implies rest) none
  where
    by : (one other : Bool) → (other ≡ true → one ≡ true) → (list_any test xs ≡ false → list_any next xs ≡ false) → (one || list_any test xs) ≡ false → (other || list_any next xs) ≡ false
    by true other so later none = absurd (let never : ⊥ = cc in never)
    by false true so later none = absurd (let never : false ≡ true = so refl in let nothing : ⊥ = cc in nothing)
    by false false so later none = later none

-- ALL WERE SERVED ---------------------------------------------------------------------------------

-- where the reply to what is out is taken, each answered frame was served
all_served : (link : Link) (reply : Reply) (left : List Reply) → is_out link ≡ true → link.down ≡ reply ∷ left → is_sent_front link ≡ true → is_reply_front link ≡ true → handled_from 0 link.served ≡ true → list_any is_rep link.up ≡ false
all_served link reply left out down sent replies handled =
    let got : length (link.taken ++ link.down) ≤ length (replies_of link) = front_long same_reply (link.taken ++ link.down) (replies_of link) (and_parts (is_front same_reply (link.taken ++ link.down) (replies_of link)) _ replies).0 in
    let both : length (link.taken ++ link.down) ≡ length link.taken + length link.down = length-append link.taken link.down in
    let some : length link.down ≡ length (reply ∷ left) = ap length down in
    let few : length (replies_of link) ≤ length (filter (λ one. is_rep one.sent) link.served) = few_replies 0 link.served handled in
    let frames : List Sent = map (λ one. one.sent) link.served in
    let same : length (filter (λ one. is_rep one.sent) link.served) ≡ length (filter is_rep frames) = reps_sent link.served in
    let front : is_front same_sent (filter is_rep (up_of link)) (filter is_rep link.sent) ≡ true = front_filter same_sent is_rep same_reps (up_of link) link.sent (and_parts (is_front same_sent (up_of link) link.sent) _ sent).0 in
    let long : length (filter is_rep (up_of link)) ≤ length (filter is_rep link.sent) = front_long same_sent (filter is_rep (up_of link)) (filter is_rep link.sent) front in
    let split : length (filter is_rep (up_of link)) ≡ length (filter is_rep frames) + length (filter is_rep link.up) = ap length (filter-append is_rep frames link.up) ∙ length-append (filter is_rep frames) (filter is_rep link.up) in
    let count : count_reps link.sent ≡ length (filter is_rep link.sent) = sym (length-filter is_rep link.sent) in
    let is : count_reps link.sent ≡ length link.taken + 1 = eq_from (count_reps link.sent) (length link.taken + 1) out in
    none_kept is_rep link.up (omega arith)

unmarked_rep : (sent : Sent) (frame : Up) → sent.frame ≡ frame → is_unmarked_frame frame ≡ true → is_rep sent ≡ true
unmarked_rep sent (up.Call false kept call) is unmarked = ap (λ (one : Up). is_rep (record sent { frame = one })) is
unmarked_rep sent (up.Call true kept call) is unmarked = absurd (let none : ⊥ = cc in none)
unmarked_rep sent up.Connect is unmarked = absurd (let none : ⊥ = cc in none)
unmarked_rep sent (up.Begin settings) is unmarked = absurd (let none : ⊥ = cc in none)
unmarked_rep sent (up.Outcome x) is unmarked = absurd (let none : ⊥ = cc in none)
unmarked_rep sent up.End is unmarked = absurd (let none : ⊥ = cc in none)
unmarked_rep sent up.Close is unmarked = absurd (let none : ⊥ = cc in none)

its_rep : (course : Course) (sent : Sent) → is_its_call course sent ≡ true → is_rep sent ≡ true
its_rep course sent its = unmarked_rep sent sent.frame refl (and_parts (owned_by course.owner sent) (is_unmarked sent) its).1

-- WHAT IS SENT LAST -------------------------------------------------------------------------------

-- a request that ends sends no call
spoken_over : (before : Phase) (left alive hushed : Bool) (phase : Phase) (send : List Up) (held : Hold) → (held ≡ hold.Keep → ⊥) → Spoken before left alive hushed phase send held → list_any is_unmarked_frame send ≡ false
spoken_over before left alive hushed phase _ _ lets (Quiet _ hush stays) = absurd (lets refl)
spoken_over before left true hushed _ _ _ lets Fails = refl
spoken_over before left false hushed _ _ _ lets Fails = refl
spoken_over before left true hushed _ _ _ lets (Ends may) = refl
spoken_over before left false hushed _ _ _ lets (Ends may) = refl
spoken_over before left alive hushed _ _ _ lets (Asks opens may asking) = absurd (lets refl)
spoken_over before left alive hushed _ _ _ lets (Calls opens settings call state) = absurd (lets refl)
spoken_over before left alive hushed _ _ _ lets (Marks opens may settings one state next plain) = absurd (lets refl)

closing_none : (held : Hold) (how : Back) → list_any is_unmarked_frame (closing held how) ≡ false
closing_none hold.Keep how = refl
closing_none hold.Drop how = refl
closing_none hold.GiveBack back.Closed = refl
closing_none hold.GiveBack back.Idle = refl

-- none of the frames is a call of the request
frames_none : (course : Course) (owner : Owner) (call : ℕ) (frames : List Up) → list_any is_unmarked_frame frames ≡ false → list_any (is_its_call course) (map (sent_by owner call) frames) ≡ false
frames_none course owner call [] none = refl
frames_none course owner call (frame ∷ frames) none = by (same_owner course.owner owner) (is_unmarked_frame frame) (λ rest. frames_none course owner call frames rest) none
  where
    by : (mine unmarked : Bool) → (list_any is_unmarked_frame frames ≡ false → list_any (is_its_call course) (map (sent_by owner call) frames) ≡ false) → (unmarked || list_any is_unmarked_frame frames) ≡ false
        → ((mine && unmarked) || list_any (is_its_call course) (map (sent_by owner call) frames)) ≡ false
    by mine true later none = absurd (let never : ⊥ = cc in never)
    by true false later none = later none
    by false false later none = later none

-- REQUESTS THAT ARE OVER --------------------------------------------------------------------------

-- a request that is over is not this one
abbrev not_owner : Owner → Course → Bool
not_owner owner course = not course.is_over || not (same_owner course.owner owner)

over_not : (owner one : Owner) → (one ≡ owner → ⊥) → not (same_owner one owner) ≡ true
over_not owner one differs = ap not (other_owner one owner differs)

over_from : (setting : Setting) (owner : Owner) (client place : ℕ) (past : List Past) (now : Option Doing) → (owner.client ≡ client → owner.place ≡ place + length past) → list_all (not_owner owner) (courses_from setting client place past now) ≡ true
over_from setting owner client place [] None at = refl
over_from setting owner client place [] (Some doing) at = refl
over_from setting owner client place (one ∷ past) now at =
    and_from (not_owner owner (course_over client place one)) (list_all (not_owner owner) (courses_from setting client (place + 1) past now))
    (over_not owner (record { client = client; place = place })
    (λ same. let here : owner.place ≡ place + length (one ∷ past) = at (sym (ap (λ (o : Owner). o.client) same)) in let there : place ≡ owner.place = ap (λ (o : Owner). o.place) same in let never : ⊥ = omega arith in never))
    (over_from setting owner client (place + 1) past now (λ same. let here : owner.place ≡ place + length (one ∷ past) = at same in omega arith))

over_clients : (setting : Setting) (owner : Owner) (start : ℕ) (clients : List Client) → ((index : ℕ) (client : Client) → slice_get clients index ≡ Some client → owner.client ≡ start + index → owner.place ≡ length client.past)
    → list_all (not_owner owner) (courses_of_clients setting start clients) ≡ true
over_clients setting owner start [] at = refl
over_clients setting owner start (client ∷ clients) at =
    append_all (not_owner owner) (courses_from setting start 0 client.past client.now) (courses_of_clients setting (start + 1) clients)
    (over_from setting owner start 0 client.past client.now (λ same. let first : owner.client ≡ start + 0 = omega arith in let place : owner.place ≡ length client.past = at zero client refl first in omega arith))
    (over_clients setting owner (start + 1) clients (λ index one is same. let next : owner.client ≡ start + suc index = omega arith in at (suc index) one is next))

-- no client goes on with a request that is over
all_over : (t : Traced) (who : ℕ) → list_all (not_owner (owner_at (at_event t.machine) who)) (courses_of t) ≡ true
all_over t who = over_clients t.setting (owner_at (at_event t.machine) who) 1 t.machine.clients place
  where
    place : (index : ℕ) (client : Client) → slice_get t.machine.clients index ≡ Some client → who ≡ 1 + index → option_map_or (λ (one : Client). length one.past) (client_at t.machine.clients who) 0 ≡ length client.past
    place index client is same =
        let number : who ≡ suc index = omega arith in
        ap (λ (n : ℕ). option_map_or (λ (one : Client). length one.past) (client_at t.machine.clients n) 0) number ∙ ap (λ (found : Option Client). option_map_or (λ (one : Client). length one.past) found 0) is

-- EVENTS ------------------------------------------------------------------------------------------

-- the last connection of a request, on these
abbrev last_none : List Link → Course → Option ℕ → Bool
last_none links course last = option_map_or (λ number. option_map_or (λ link. not (list_any (is_its_call course) link.up)) (link_at links number) false) last true

abbrev left_on : List Link → Course → Bool
left_on links course = not (course.is_over && has_last course) || last_none links course (last_or None (held_in course.steps))

module _ (t : Traced) (inv : Orderly t) (new : Traced) (setting : new.setting ≡ t.setting) (items left : List Served) (kind : Noted) (happens : Happens t.setting (at_event t.machine) items left kind new.machine) where
  abbrev now : Machine
  now = at_event t.machine

  -- one that is over
  last_still : (course : Course) → ((who : ℕ) → same_owner course.owner (owner_at now who) ≡ false) → (last : Option ℕ) → last_none t.machine.links course last ≡ true → last_none new.machine.links course last ≡ true
  last_still course apart None here = refl
  last_still course apart (Some number) here = by (link_at t.machine.links number) refl here
    where
      quiet : (who call : ℕ) (frame : Up) → is_its_call course (sent_by (owner_at now who) call frame) ≡ false
      quiet who call frame = ap (λ (mine : Bool). mine && is_unmarked_frame frame) (apart who)

      by : (found : Option Link) → link_at t.machine.links number ≡ found → option_map_or (λ link. not (list_any (is_its_call course) link.up)) found false ≡ true → option_map_or (λ link. not (list_any (is_its_call course) link.up)) (link_at new.machine.links number) false ≡ true
      by None there none = absurd (let never : ⊥ = cc in never)
      by (Some link) there none =
          let less : HasLess (is_its_call course) new.machine.links number link = happens_less (is_its_call course) t.setting now refl quiet items left kind new.machine happens number link there in
          ap (λ (found : Option Link). option_map_or (λ (one : Link). not (list_any (is_its_call course) one.up)) found false) less.there
          ∙ ap not (less.same.less (not-true (list_any (is_its_call course) link.up) none))

  over_still : (course : Course) → ((all : Course → Bool) → list_all all (courses_of t) ≡ true → all course ≡ true) → left_on t.machine.links course ≡ true → left_on new.machine.links course ≡ true
  over_still course among here = by course.is_over (has_last course) (λ who. among (not_owner (owner_at now who)) (all_over t who)) here
    where
      by : (over last : Bool) → ((who : ℕ) → (not over || not (same_owner course.owner (owner_at now who))) ≡ true) → (not (over && last) || last_none t.machine.links course (last_or None (held_in course.steps))) ≡ true
          → (not (over && last) || last_none new.machine.links course (last_or None (held_in course.steps))) ≡ true
      by false last apart here = refl
      by true false apart here = refl
      by true true apart here = last_still course (λ who. not-true (same_owner course.owner (owner_at now who)) (apart who)) (last_or None (held_in course.steps)) here

  module _ (who : ℕ) (step : HasStepped t.setting now who new.machine) (lets : step.held ≡ hold.Keep → ⊥) where
    abbrev ended : Course
    ended = course_ended t inv new setting items left kind happens who step

    -- on the connection of the last reply
    reply_left : {kept : Hold} {frames : List Sent} (had : Option ℕ) (input : Input) (after : Doing) → HeardOn t.setting now new.machine who (first_doing t.setting now inv.script.talks who new.machine step) kept frames after had input
        → step.before.connection ≡ had → (number : ℕ) → step.before.connection ≡ Some number → list_any (is_its_call ended) frames ≡ false → (frame : _) (alive : Bool) → input ≡ Took frame alive → last_none new.machine.links ended (Some number) ≡ true
    reply_left _ _ after (OfNone had input none frame same) is number has said_none answer alive took = absurd (let never : false ≡ true = sym frame ∙ ap is_frame took in let nothing : ⊥ = cc in nothing)
    reply_left _ _ after (OfIdle had connection x answered same) is number has said_none answer alive took = absurd (let never : ⊥ = cc in never)
    reply_left _ _ after (OfNew had same) is number has said_none answer alive took = absurd (let never : ⊥ = cc in never)
    reply_left _ _ after (OfEnded had connection link some there shut next same) is number has said_none answer alive took = absurd (let never : ⊥ = cc in never)
    reply_left {kept} {frames} _ _ after (OfReply had connection link reply later some there down next behind) is number has said_none answer alive took =
        let links : List Link = t.machine.links in
        let found : Some number ≡ Some connection = sym has ∙ (is ∙ some) in
        let equal : number ≡ connection = cc in
        let its : step.before.connection ≡ Some connection = is ∙ some in
        let out : awaits (record { client = who; place = length step.client.past }) step.before.talk.phase link ≡ true =
        (held_now t inv).out who step.client step.before connection link step.here (in_course t inv who new.machine step connection its) its there in
        let none : list_any is_rep link.up ≡ false =
        all_served link reply later (and_parts (is_out link) _ out).0 down (at_link is_sent_front links connection link inv.wire.sent there) (at_link is_reply_front links connection link inv.wire.replies there)
        (at_link (λ l. handled_from 0 l.served) links connection link inv.wire.handled there) in
        let before : list_any (is_its_call ended) link.up ≡ false = none_weaker is_rep (is_its_call ended) link.up (its_rep ended) none in
        ap (λ (one : Option Link). option_map_or (λ (l : Link). not (list_any (is_its_call ended) l.up)) one false) (ap (link_at new.machine.links) equal ∙ next)
        ∙ ap not ((sends_less (is_its_call ended) now.event frames said_none (takes (Took reply.frame link.is_open) reply later link)).less before)

    ends_left : left_on new.machine.links ended ≡ true
    ends_left = by step.input refl
      where
        kept : (input : Input) → step.input ≡ input → (act_on t inv who new.machine step input).hold ≡ hold.Keep → left_on new.machine.links ended ≡ true
        kept input is keep = absurd (over_lets t inv who new.machine step lets (ap (λ (i : Input). (act_on t inv who new.machine step i).hold) is ∙ keep))

        last_at : (last : Option ℕ) → last_or None (held_in step.after.steps) ≡ last → last_none new.machine.links ended last ≡ true → left_on new.machine.links ended ≡ true
        last_at last is here =
            or_right (not (true && has_last ended)) (last_none new.machine.links ended (last_or None (held_in step.after.steps))) (ap (last_none new.machine.links ended) is ∙ here)

        by : (input : Input) → step.input ≡ input → left_on new.machine.links ended ≡ true
        by Start is = kept Start is refl
        by Waiting is = last_at None (ap (last_or None) (same_held t inv who new.machine step (ap brought is) ∙ held_none t inv who new.machine step is)) refl
        by (Lent connection x) is = absurd (over_lets t inv who new.machine step lets (lent_keeps t inv who new.machine step connection x is))
        by (Opened connection) is = kept (Opened connection) is refl
        by TryFailed is = ap (λ (has : Bool). not (true && has) || last_none new.machine.links ended (last_or None (held_in step.after.steps))) (tried_has t inv who new.machine step is lets)
        by (Gone event) is = kept (Gone event) is refl
        by (Took frame alive) is = taken step.before.connection refl
          where
            act_none : list_any is_unmarked_frame (first_step t.setting now inv.script.talks who new.machine step).done.act.send ≡ false
            act_none =
                ap (λ (i : Input). list_any is_unmarked_frame (act_on t inv who new.machine step i).send) is
                ∙ spoken_over step.before.talk.phase (has_next step.before.talk) alive (is_hushed frame) _ (act_on t inv who new.machine step (Took frame alive)).send (act_on t inv who new.machine step (Took frame alive)).hold
                (λ keep. over_lets t inv who new.machine step lets (ap (λ (i : Input). (act_on t inv who new.machine step i).hold) is ∙ keep))
                (said t.setting.terms step.before.talk step.before.talk.phase frame alive now.tick refl)

            said_none : list_any (is_its_call ended) (map (sent_by (owner_at now who) (call_in (first_doing t.setting now inv.script.talks who new.machine step).talk.phase))
                (frames_of step.pool (unwrap_or step.connection 0) (first_step t.setting now inv.script.talks who new.machine step).done.act)) ≡ false
            said_none =
                frames_none ended (owner_at now who) (call_in (first_doing t.setting now inv.script.talks who new.machine step).talk.phase) (frames_of step.pool (unwrap_or step.connection 0) (first_step t.setting now inv.script.talks who new.machine step).done.act)
                (list_any-append is_unmarked_frame (first_step t.setting now inv.script.talks who new.machine step).done.act.send (closing (first_step t.setting now inv.script.talks who new.machine step).done.act.hold (give_back_answer step.pool (unwrap_or step.connection 0)))
                ∙ or_from (list_any is_unmarked_frame (first_step t.setting now inv.script.talks who new.machine step).done.act.send) (list_any is_unmarked_frame (closing (first_step t.setting now inv.script.talks who new.machine step).done.act.hold (give_back_answer step.pool (unwrap_or step.connection 0)))) act_none (closing_none (first_step t.setting now inv.script.talks who new.machine step).done.act.hold (give_back_answer step.pool (unwrap_or step.connection 0))))

            taken : (found : Option ℕ) → step.before.connection ≡ found → left_on new.machine.links ended ≡ true
            taken None none = absurd (let never : false ≡ true = sym (ap is_some none) ∙ has_one t inv who new.machine step (ap is_frame is) in let nothing : ⊥ = cc in nothing)
            taken (Some number) has =
                last_at (Some number) (ap (last_or None) (same_held t inv who new.machine step (ap brought is)) ∙ last_is t inv who new.machine step number has)
                (reply_left step.before.connection step.input step.after step.heard_on refl number has said_none frame alive is)

  all_left : MayStep t.setting now new.machine → leave_none t ≡ true → list_all (left_on new.machine.links) (courses_of_clients t.setting 1 new.machine.clients) ≡ true
  all_left may old = by may (each_among (left_on t.machine.links) (left_on new.machine.links) (courses_of t) over_still old)
    where
      by : MayStep t.setting now new.machine → list_all (left_on new.machine.links) (courses_of t) ≡ true → list_all (left_on new.machine.links) (courses_of_clients t.setting 1 new.machine.clients) ≡ true
      by (Still same sent) all = subst (λ (clients : List Client). list_all (left_on new.machine.links) (courses_of_clients t.setting 1 clients) ≡ true) (sym same) all
      by (Closed same sent) all = subst (λ (clients : List Client). list_all (left_on new.machine.links) (courses_of_clients t.setting 1 clients) ≡ true) (sym same) all
      by (Stepped who step) all =
          all_step t.setting (left_on new.machine.links) (left_on new.machine.links) (record { client = who; place = length step.client.past }) (λ course differs here. here) now who new.machine step refl
          (λ keep. refl) (λ over. ends_left who step over) all

pub left_law : IsKeptOfAll leave_none
left_law = record {
  at_start = λ document. resting_none (setting_of document) 1 (left_none (traced_start document)) document.clients;
  at_event = λ before after old new event note items left one inv.
      let by : Followed old.setting old.machine event note items left new.machine = follow_happens old.setting old.machine event note items left new.machine one.follows in
      subst (λ (setting : Setting). list_all (left_on new.machine.links) (courses_of_clients setting 1 new.machine.clients) ≡ true) (sym one.setting)
      (all_left old inv.orderly new one.setting items left by.kind by.happens (happens_step old.setting (at_event old.machine) items left by.kind new.machine by.happens) inv.lost.left);
}
