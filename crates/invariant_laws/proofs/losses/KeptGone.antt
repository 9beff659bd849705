-- Of Lost: a connection that a request lost is no longer open, and no request has it, at the start
-- and behind each event.
use Rattle.std.proofs.Common.{◌≡◌, ◌≢◌, refl, sym, ap, subst, ◌∙◌, Bool, true, false, ℕ, suc, zero, ◌+◌, ◌&&◌, length, List, [], ◌∷◌, Option, Some, None, ◌⊎◌, inl, inr, if◌then◌else◌, arith}
use Rattle.std.specs.Prelude.{◌==◌, not, nat_le}
use Rattle.std.specs.List.{list_all}
use Rattle.std.specs.Option.{option_map_or}
use Rattle.std.proofs.lemmas.Bool.{and_parts, and_from, not-true}
use Rattle.std.proofs.lemmas.Option.{slice_get_within}
use Rattle.outage_schedule.specs.declared.item.Served.{Served}
use Rattle.client_model.specs.declared.act.Hold.{Hold}
use Rattle.client_model.specs.declared.act.Hold.TheVariants as hold
use Rattle.client_model.specs.declared.input.Input.{Input}
use Rattle.client_model.specs.declared.input.Input.TheVariants.{Start, Waiting, Lent, Opened, TryFailed, Took, Gone}
use Rattle.world_model.specs.meaning.Clients.{Doing, Client, client_at, after_hold}
use Rattle.world_model.specs.records.Conversing.{connected}
use Rattle.world_model.specs.records.Hold.{idle_of, is_idle, is_had, are_had, holders_of, is_held}
use Rattle.world_model.specs.meaning.Frames.{Sent}
use Rattle.world_model.specs.Orderly.{Orderly}
use Rattle.invariant_laws.specs.KeptLaws.{IsKeptOfAll}
use Rattle.world_model.specs.meaning.Links.{Link, link_at}
use Rattle.invariant_laws.specs.Lost.{lost_links, is_without, is_gone, stay_gone}
use Rattle.world_model.specs.meaning.Machines.{Machine}
use Rattle.world_model.specs.meaning.Matching.{Noted}
use Rattle.world_model.specs.meaning.Settings.{Setting, setting_of}
use Rattle.world_model.specs.Reached.{traced_start}
use Rattle.world_model.specs.Traced.{Traced, Course, course_now, courses_of, courses_of_clients}
use Rattle.world_model.specs.Words.{brought}
use Rattle.world_model.proofs.Offered.{client_set, client_others, append_all, one_all, weaker_all, HasStepped, GoesOn, AtOnce, LostToo, HeardOn, OfNone, OfIdle, OfNew, OfReply, OfEnded, MayStep, Still, Closed, Stepped, happens_step, all_courses_by, clients_apart, all_step, Followed, follow_happens, at_event, doing_course, held_now, numbered_at, HasIt, HasNone, HasOne, has_it, resting_none, Happens, moves_next_number as next_number, lent_idle, first_step, first_doing, eq_from, eq_to, not_both, either}
use Rattle.invariant_laws.proofs.losses.LostLists.{LostMore, NoneLost, OneLost}
use Rattle.invariant_laws.proofs.losses.LostSteps.{before_so, in_course, kept_lost, over_lost, IsLeft}
use Rattle.invariant_laws.proofs.losses.ShutStays.{StaysShut, IsFree, happens_shut}

-- ONE CONNECTION ----------------------------------------------------------------------------------

-- it was lost: it is not open, and no request has it
pub record GoneAt (links : List Link) (courses : List Course) (number : ℕ) : Type 0 where
  pub link : Link
  pub there : link_at links number ≡ Some link
  pub shut : link.is_open ≡ false
  pub free : list_all (is_without number) courses ≡ true

pub gone_at : (links : List Link) (courses : List Course) (number : ℕ) → is_gone links courses number ≡ true → GoneAt links courses number
gone_at links courses number is = by (link_at links number) refl (and_parts (option_map_or (λ link. not link.is_open) (link_at links number) false) (list_all (is_without number) courses) is)
  where
    by : (found : Option Link) → link_at links number ≡ found → (option_map_or (λ link. not link.is_open) found false ≡ true) × (list_all (is_without number) courses ≡ true) → GoneAt links courses number
    by None there parts = absurd (let never : false ≡ true = parts.0 in let none : ⊥ = cc in none)
    by (Some link) there parts = record { link = link; there = there; shut = not-true link.is_open parts.0; free = parts.1 }

gone_by : (links : List Link) (courses : List Course) (number : ℕ) (link : Link) → link_at links number ≡ Some link → link.is_open ≡ false → list_all (is_without number) courses ≡ true → is_gone links courses number ≡ true
gone_by links courses number link there shut free =
    and_from (option_map_or (λ link. not link.is_open) (link_at links number) false) (list_all (is_without number) courses)
    (ap (λ (found : Option Link). option_map_or (λ (one : Link). not one.is_open) found false) there ∙ ap not shut) free

-- no request has it
pub without_not : (number : ℕ) (found : Option ℕ) → option_map_or (λ other. not (other == number)) found true ≡ true → found ≡ Some number → ⊥
without_not number None is same = let none : ⊥ = cc in none
without_not number (Some other) is same =
    let equal : other ≡ number = cc in
    let self : (other == number) ≡ true = eq_to other number equal in
    not_both (other == number) self (not-true (other == number) is)

without_by : (number : ℕ) (found : Option ℕ) → (found ≡ Some number → ⊥) → option_map_or (λ other. not (other == number)) found true ≡ true
without_by number None free = refl
without_by number (Some other) free = by (other == number) refl
  where
    by : (test : Bool) → (other == number) ≡ test → not test ≡ true
    by true is = absurd (free (ap Some (eq_from other number is)))
    by false is = refl

shut_count : (opens : Bool) (holders idle : ℕ) → opens ≡ false → (if opens then holders + idle == 1 else ((idle == 0) && nat_le holders 1)) ≡ true → idle ≡ 0
shut_count true holders idle shut had = absurd (let none : ⊥ = cc in none)
shut_count false holders idle shut had = eq_from idle 0 (and_parts (idle == 0) (nat_le holders 1) had).0

-- one that is not open is not idle
shut_idle : (t : Traced) (number : ℕ) (link : Link) → are_had t ≡ true → link_at t.machine.links number ≡ Some link → link.is_open ≡ false → idle_of t number ≡ 0
shut_idle t zero link had there shut = absurd (let none : ⊥ = cc in none)
shut_idle t (suc index) link had there shut =
    let same : suc index ≡ 1 + index = omega arith in
    shut_count link.is_open (holders_of (courses_of t) (suc index)) (idle_of t (suc index)) shut (numbered_at (is_had t (courses_of t)) 1 t.machine.links index (suc index) link same had there)

-- a new connection is none of those that are there
pub new_apart : (links : List Link) (number : ℕ) (link : Link) → link_at links number ≡ Some link → number ≢ length links + 1
new_apart links zero link there same = let none : ⊥ = cc in none
new_apart links (suc index) link there same = let within = slice_get_within links index link there in let never : ⊥ = omega arith in never

had_or_brought : (had : Option ℕ) (input : Input) (number : ℕ) → connected had input ≡ Some number → (had ≡ Some number) ⊎ (brought input ≡ Some number)
had_or_brought had Start number is = inl is
had_or_brought had Waiting number is = inl is
had_or_brought had (Lent connection ltxid) number is = inr is
had_or_brought had (Opened connection) number is = inr is
had_or_brought had TryFailed number is = inl is
had_or_brought had (Took frame alive) number is = inl is
had_or_brought had (Gone event) number is = absurd (let none : ⊥ = cc in none)

-- EVENTS ------------------------------------------------------------------------------------------

module _ (t : Traced) (inv : Orderly t) (new : Traced) (setting : new.setting ≡ t.setting) (items left : List Served) (kind : Noted) (happens : Happens t.setting (at_event t.machine) items left kind new.machine) where
  abbrev now : Machine
  now = at_event t.machine

  -- of one that no request has
  free_is : (number : ℕ) → list_all (is_without number) (courses_of t) ≡ true → IsFree t.setting now (held_now t inv).idle number
  free_is number all who client doing here is has = without_not number doing.connection (doing_course (is_without number) t who client doing all here is) has

  -- it stays as it is
  pub gone_stays : (number : ℕ) (gone : GoneAt t.machine.links (courses_of t) number) → StaysShut new.machine.links number gone.link
  gone_stays number gone =
      happens_shut t.setting now (held_now t inv).idle items left kind new.machine happens number gone.link gone.there gone.shut (shut_idle t number gone.link inv.hold.had gone.there gone.shut) (free_is number gone.free)

  without_new : (number : ℕ) → ((who : ℕ) (client : Client) (doing : Doing) → client_at new.machine.clients who ≡ Some client → client.now ≡ Some doing → doing.connection ≡ Some number → ⊥) → list_all (is_without number) (courses_of new) ≡ true
  without_new number each = all_courses_by (is_without number) new (λ client place past. refl) (λ who client doing here is. without_by number doing.connection (each who client doing here is))

  -- WHERE A CLIENT STEPS --------------------------------------------------------------------------

  module _ (who : ℕ) (step : HasStepped t.setting now who new.machine) where
    -- another client is as before, and this one's request stands behind its step
    data IsOf (number : ℕ) (client : Client) (doing : Doing) : Type 0 where
      Its : number ≡ who → doing ≡ step.after → IsOf number client doing
      Another : number ≢ who → client_at t.machine.clients number ≡ Some client → IsOf number client doing

    its_doing : (kept : Hold) (client : Client) (doing : Doing) → after_hold t.setting who step.client step.after kept ≡ client → client.now ≡ Some doing → doing ≡ step.after
    its_doing hold.Keep client doing same is =
        let found : Some step.after ≡ Some doing = ap (λ (one : Client). one.now) same ∙ is in let equal : doing ≡ step.after = cc in equal
    its_doing hold.GiveBack client doing same is = absurd (let found : None ≡ Some doing = ap (λ (one : Client). one.now) same ∙ is in let none : ⊥ = cc in none)
    its_doing hold.Drop client doing same is = absurd (let found : None ≡ Some doing = ap (λ (one : Client). one.now) same ∙ is in let none : ⊥ = cc in none)

    is_of : (number : ℕ) (client : Client) (doing : Doing) → client_at new.machine.clients number ≡ Some client → client.now ≡ Some doing → IsOf number client doing
    is_of number client doing here is = by (either number who)
      where
        next : Client
        next = after_hold t.setting who step.client step.after step.held

        by : (number ≡ who) ⊎ (number ≢ who) → IsOf number client doing
        by (inl same) =
            let mine : client_at new.machine.clients who ≡ Some next = ap (λ (all : List Client). client_at all who) step.clients_are ∙ client_set t.machine.clients who step.client next step.here in
            let found : Some next ≡ Some client = sym mine ∙ (ap (client_at new.machine.clients) (sym same) ∙ here) in
            let equal : next ≡ client = cc in
            Its same (its_doing step.held client doing equal is)
        by (inr apart) = Another apart (sym (ap (λ (all : List Client). client_at all number) step.clients_are ∙ client_others t.machine.clients who number next apart) ∙ here)

    after_connection : (first : Hold) (after : Doing) (kept : Hold) (number : ℕ) → GoesOn t.setting (first_doing t.setting now inv.script.talks who new.machine step) first after kept → after.connection ≡ Some number
        → step.connection ≡ Some number
    after_connection first _ _ number AtOnce has = has
    after_connection first _ _ number (LostToo event tick ended is) has = absurd (let none : ⊥ = cc in none)

    -- what is brought is open, or new
    not_brought : (number : ℕ) (link : Link) → link_at t.machine.links number ≡ Some link → link.is_open ≡ false → brought step.input ≡ Some number → ⊥
    not_brought number link there shut = by step.before.connection step.input step.after step.heard_on
      where
        by : {kept : Hold} {said : List Sent} (had : Option ℕ) (input : Input) (after : Doing) → HeardOn t.setting now new.machine who (first_doing t.setting now inv.script.talks who new.machine step) kept said after had input → brought input ≡ Some number → ⊥
        by _ _ after (OfNone had input none frame same) is = let never : ⊥ = cc in never
        by _ _ after (OfIdle had connection ltxid answer same) is =
            let equal : connection ≡ number = cc in
            let rests : is_idle link ≡ true = lent_idle t.machine.pool who connection t.machine.links link answer (held_now t inv).idle (ap (link_at t.machine.links) equal ∙ there) in
            not_both link.is_open (and_parts link.is_open _ rests).0 shut
        by _ _ after (OfNew had same) is = let equal : next_number now ≡ number = cc in new_apart t.machine.links number link there (sym equal)
        by _ _ after (OfReply had connection one reply later has at down next back) is = let never : ⊥ = cc in never
        by _ _ after (OfEnded had connection one has at closed next same) is = let never : ⊥ = cc in never

    -- the request that steps has no connection that is gone
    its_free : (number : ℕ) (gone : GoneAt t.machine.links (courses_of t) number) → step.after.connection ≡ Some number → ⊥
    its_free number gone has = by (had_or_brought step.before.connection step.input number (step.connects ∙ after_connection (first_step t.setting now inv.script.talks who new.machine step).done.act.hold step.after step.held number step.goes_on has))
      where
        by : (step.before.connection ≡ Some number) ⊎ (brought step.input ≡ Some number) → ⊥
        by (inl is) = without_not number step.before.connection (before_so t inv who new.machine step (is_without number) gone.free (λ request. refl)) is
        by (inr is) = not_brought number gone.link gone.there gone.shut is

    -- nor has any the one that it lost
    left_free : (number : ℕ) → step.before.connection ≡ Some number → IsLeft t inv who new.machine step number → list_all (is_without number) (courses_of new) ≡ true
    left_free number has left_so = without_new number each
      where
        now_is : step.client.now ≡ Some step.before
        now_is = in_course t inv who new.machine step number has

        apart_from : (one : ℕ) (client : Client) (doing : Doing) → one ≢ who → client_at t.machine.clients one ≡ Some client → client.now ≡ Some doing → doing.connection ≡ Some number
            → HasIt t.machine.links (record { client = who; place = length step.client.past }) step.before → ⊥
        apart_from one client doing apart here is holds (HasNone none) = let never : None ≡ Some number = sym none ∙ has in let nothing : ⊥ = cc in nothing
        apart_from one client doing apart here is holds (HasOne other link at there out) =
            let found : Some other ≡ Some number = sym at ∙ has in
            let equal : other ≡ number = cc in
            clients_apart t number link one who client step.client doing step.before inv.hold.had (ap (link_at t.machine.links) (sym equal) ∙ there) apart here step.here is now_is holds has

        each : (one : ℕ) (client : Client) (doing : Doing) → client_at new.machine.clients one ≡ Some client → client.now ≡ Some doing → doing.connection ≡ Some number → ⊥
        each one client doing here is holds = by (is_of one client doing here is)
          where
            by : IsOf one client doing → ⊥
            by (Its same equal) = let never : None ≡ Some number = sym left_so.none ∙ (ap (λ (d : Doing). d.connection) (sym equal) ∙ holds) in let none : ⊥ = cc in none
            by (Another apart before) =
                apart_from one client doing apart before is holds
                (has_it t.machine.links (record { client = who; place = length step.client.past }) step.before (doing_course (is_held t) t who step.client step.before inv.hold.held step.here now_is))

  -- ALL REQUESTS ----------------------------------------------------------------------------------

  abbrev gone_before : ℕ → Bool
  gone_before = is_gone t.machine.links (courses_of t)

  abbrev gone_now : ℕ → Bool
  gone_now = is_gone new.machine.links (courses_of new)

  still_free : (number : ℕ) (gone : GoneAt t.machine.links (courses_of t) number) → MayStep t.setting now new.machine
      → (who : ℕ) (client : Client) (doing : Doing) → client_at new.machine.clients who ≡ Some client → client.now ≡ Some doing → doing.connection ≡ Some number → ⊥
  still_free number gone (Still same sent) who client doing here is has = free_is number gone.free who client doing (ap (λ (all : List Client). client_at all who) (sym same) ∙ here) is has
  still_free number gone (Closed same sent) who client doing here is has = free_is number gone.free who client doing (ap (λ (all : List Client). client_at all who) (sym same) ∙ here) is has
  still_free number gone (Stepped one step) who client doing here is has = by (is_of one step who client doing here is)
    where
      by : IsOf one step who client doing → ⊥
      by (Its same equal) = its_free one step number gone (ap (λ (d : Doing). d.connection) (sym equal) ∙ has)
      by (Another apart before) = free_is number gone.free who client doing before is has

  pub gone_still : MayStep t.setting now new.machine → (number : ℕ) → gone_before number ≡ true → gone_now number ≡ true
  gone_still may number is =
      let gone : GoneAt t.machine.links (courses_of t) number = gone_at t.machine.links (courses_of t) number is in
      let stays : StaysShut new.machine.links number gone.link = gone_stays number gone in
      gone_by new.machine.links (courses_of new) number stays.now stays.there stays.same.shut (without_new number (still_free number gone may))

  more_gone : MayStep t.setting now new.machine → (left_so : ℕ → Type 0) (had : Option ℕ) (before after : List ℕ) → LostMore left_so had before after → ((number : ℕ) → had ≡ Some number → left_so number → gone_now number ≡ true)
      → list_all gone_before before ≡ true → list_all gone_now after ≡ true
  more_gone may left_so had before _ NoneLost lost all = weaker_all gone_before gone_now before (gone_still may) all
  more_gone may left_so had before _ (OneLost number is gone) lost all =
      append_all gone_now before (number ∷ []) (weaker_all gone_before gone_now before (gone_still may) all) (one_all gone_now number (lost number is gone))

  all_gone : MayStep t.setting now new.machine → stay_gone t ≡ true → list_all (λ course. list_all gone_now (lost_links course)) (courses_of_clients t.setting 1 new.machine.clients) ≡ true
  all_gone (Still same sent) old =
      subst (λ (clients : List Client). list_all (λ course. list_all gone_now (lost_links course)) (courses_of_clients t.setting 1 clients) ≡ true) (sym same)
      (weaker_all (λ course. list_all gone_before (lost_links course)) (λ course. list_all gone_now (lost_links course)) (courses_of t)
      (λ course here. weaker_all gone_before gone_now (lost_links course) (gone_still (Still same sent)) here) old)
  all_gone (Closed same sent) old =
      subst (λ (clients : List Client). list_all (λ course. list_all gone_now (lost_links course)) (courses_of_clients t.setting 1 clients) ≡ true) (sym same)
      (weaker_all (λ course. list_all gone_before (lost_links course)) (λ course. list_all gone_now (lost_links course)) (courses_of t)
      (λ course here. weaker_all gone_before gone_now (lost_links course) (gone_still (Closed same sent)) here) old)
  all_gone (Stepped who step) old =
      all_step t.setting (λ course. list_all gone_before (lost_links course)) (λ course. list_all gone_now (lost_links course)) (record { client = who; place = length step.client.past })
      (λ course differs here. weaker_all gone_before gone_now (lost_links course) (gone_still (Stepped who step)) here) now who new.machine step refl
      (λ keep. more_gone (Stepped who step) (IsLeft t inv who new.machine step) step.before.connection (lost_links before) _ (kept_lost t inv who new.machine step)
      (λ number has lost. gone_by new.machine.links (courses_of new) number lost.next lost.there lost.shut (left_free who step number has lost)) mine)
      (λ over. more_gone (Stepped who step) (λ number. ⊥) step.before.connection (lost_links before) _ (over_lost t inv who new.machine step over) (λ number has never. absurd never) mine) old
    where
      before : Course
      before = course_now t.setting who (length step.client.past) step.before

      mine : list_all gone_before (lost_links before) ≡ true
      mine = before_so t inv who new.machine step (λ course. list_all gone_before (lost_links course)) old (λ request. refl)

pub gone_law : IsKeptOfAll stay_gone
gone_law = record {
  at_start = λ document. resting_none (setting_of document) 1 (λ course. list_all (is_gone [] (courses_of (traced_start document))) (lost_links course)) document.clients;
  at_event = λ before after old new event note items left one inv.
      let by : Followed old.setting old.machine event note items left new.machine = follow_happens old.setting old.machine event note items left new.machine one.follows in
      subst (λ (setting : Setting). list_all (λ course. list_all (is_gone new.machine.links (courses_of new)) (lost_links course)) (courses_of_clients setting 1 new.machine.clients) ≡ true) (sym one.setting)
      (all_gone old inv.orderly new one.setting items left by.kind by.happens (happens_step old.setting (at_event old.machine) items left by.kind new.machine by.happens) inv.lost.gone);
}
