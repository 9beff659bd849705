-- A request opens each connection once, at the start and behind each event.
use Rattle.std.proofs.Common.{◌≡◌, refl, sym, ap, subst, ◌∙◌, Bool, true, ℕ, suc, zero, ◌+◌, ◌<◌, ◌≤◌, ◌&&◌, fold, length, length-append, List, [], ◌∷◌, ◌++◌, Option, Some, None, arith}
use Rattle.std.specs.Prelude.{nat_le, nat_lt, option_map, unwrap_or}
use Rattle.std.specs.List.{list_all}
use Rattle.std.specs.Option.{option_or}
use Rattle.std.proofs.lemmas.Bool.{and_parts, and_from}
use Rattle.std.proofs.lemmas.Bool.Decides.{nat_tests}
use Rattle.std.proofs.lemmas.List.{length-map}
use Rattle.outage_schedule.specs.declared.document.Request.{Request}
use Rattle.outage_schedule.specs.declared.event.Event.{Event}
use Rattle.outage_schedule.specs.declared.item.Served.{Served}
use Rattle.outage_schedule.specs.declared.note.Note.{Note}
use Rattle.server_model.specs.Seen.{Seen}
use Rattle.client_model.specs.declared.act.Hold.{Hold}
use Rattle.client_model.specs.declared.input.Input.{Input}
use Rattle.client_model.specs.declared.input.Input.TheVariants.{Start, Waiting, Lent, Opened, TryFailed, Took, Gone}
use Rattle.world_model.specs.meaning.Clients.{Step, Doing, Client, begun, client_at}
use Rattle.world_model.specs.records.Conversing.{AllTalk}
use Rattle.world_model.specs.meaning.Frames.{Sent}
use Rattle.world_model.specs.Orderly.{Orderly}
use Rattle.world_model.specs.meaning.Links.{Link}
use Rattle.world_model.specs.meaning.Machines.{Machine}
use Rattle.world_model.specs.OneEvent.{OneEvent}
use Rattle.replay_laws.specs.OpenedOnce.{opens_above, last_opened, rise_within, opened_once}
use Rattle.world_model.specs.meaning.Outside.{closed_by_drain}
use Rattle.world_model.specs.Reached.{Begins, GoesOn}
use Rattle.world_model.specs.RunLaws.{RunsAreOrderly}
use Rattle.invariant_laws.specs.SameLaws.{HoldsAtEnds, HoldsInRuns}
use Rattle.world_model.specs.meaning.Settings.{Setting, setting_of}
use Rattle.world_model.specs.Traced.{Traced, Course, courses_of_clients}
use Rattle.world_model.specs.Words.{brought}
use Rattle.world_model.proofs.Offered.{HasStepped, GoesOn as StepGoesOn, AtOnce, LostToo, ClientStepsGrows as Grows, ClientStepsAsBefore as AsBefore, ClientStepsOneMore as OneMore, Brings, NoneNew, IdleOne, NewOne, MayStep, Still, Closed, Stepped, happens_step, all_step, Followed, follow_happens, at_event, doing_course, resting_none, moves_next_number as next_number, sent_lists, spoken_at, spoken, first_step, first_doing, finishing_reached}

-- STEPS -------------------------------------------------------------------------------------------

le_to : (a b : ℕ) → a ≤ b → nat_le a b ≡ true
le_to a b is = grind (arith, nat_tests)

le_from : (a b : ℕ) → nat_le a b ≡ true → a ≤ b
le_from a b is = grind (arith, nat_tests)

lt_to : (a b : ℕ) → a < b → nat_lt a b ≡ true
lt_to a b is = grind (arith, nat_tests)

wider : (last a b : ℕ) (steps : List Step) → a ≤ b → rise_within last a steps ≡ true → rise_within last b steps ≡ true
wider last a b [] more is = let least : last ≤ a = le_from last a is in let so : last ≤ b = omega (arith, least, more) in le_to last b so
wider last a b (step ∷ steps) more is =
    let parts = and_parts (opens_above last step.done.input) (rise_within (last_opened last step.done.input) a steps) is in
    and_from (opens_above last step.done.input) (rise_within (last_opened last step.done.input) b steps) parts.0 (wider (last_opened last step.done.input) a b steps more parts.1)

-- with one step more, which opens a connection beyond the others, or none
abbrev one_step : (limit next : ℕ) (input : Input) → Type 0
one_step limit next (Opened connection) = (limit < connection) × (connection ≤ next)
one_step limit next _ = limit ≤ next

last_step : (last limit next : ℕ) (step : Step) → last ≤ limit → one_step limit next step.done.input → (opens_above last step.done.input && nat_le (last_opened last step.done.input) next) ≡ true
last_step last limit next step least opens = by step.done.input opens
  where
    by : (input : Input) → one_step limit next input → (opens_above last input && nat_le (last_opened last input) next) ≡ true
    by (Opened connection) both = let above : last < connection = omega (arith, least, both.0) in and_from (nat_lt last connection) (nat_le connection next) (lt_to last connection above) (le_to connection next both.1)
    by Start more = let so : last ≤ next = omega (arith, least, more) in le_to last next so
    by Waiting more = let so : last ≤ next = omega (arith, least, more) in le_to last next so
    by (Lent connection ltxid) more = let so : last ≤ next = omega (arith, least, more) in le_to last next so
    by TryFailed more = let so : last ≤ next = omega (arith, least, more) in le_to last next so
    by (Took frame alive) more = let so : last ≤ next = omega (arith, least, more) in le_to last next so
    by (Gone event) more = let so : last ≤ next = omega (arith, least, more) in le_to last next so

rise_more : (last limit next : ℕ) (steps : List Step) (step : Step) → rise_within last limit steps ≡ true → one_step limit next step.done.input → rise_within last next (steps ++ step ∷ []) ≡ true
rise_more last limit next [] step is opens = last_step last limit next step (le_from last limit is) opens
rise_more last limit next (first ∷ steps) step is opens =
    let parts = and_parts (opens_above last first.done.input) (rise_within (last_opened last first.done.input) limit steps) is in
    and_from (opens_above last first.done.input) (rise_within (last_opened last first.done.input) next (steps ++ step ∷ [])) parts.0 (rise_more (last_opened last first.done.input) limit next steps step parts.1 opens)

-- CONNECTIONS -------------------------------------------------------------------------------------

long_at : (lists : List (List Sent)) (index : ℕ) (frames : List Sent) → length (spoken_at lists index frames) ≡ length lists
long_at [] index frames = refl
long_at (sents ∷ lists) zero frames = refl
long_at (sents ∷ lists) (suc index) frames = ap suc (long_at lists index frames)

spoken_long : (lists : List (List Sent)) (number : ℕ) (frames : List Sent) → length (spoken lists number frames) ≡ length lists
spoken_long lists zero frames = refl
spoken_long lists (suc index) frames = long_at lists index frames

each_long : (frames : List Sent) (lists : List (List Sent)) (numbers : List ℕ) → length (fold (λ (all : List (List Sent)) (number : ℕ). spoken all number frames) lists numbers) ≡ length lists
each_long frames lists [] = refl
each_long frames lists (number ∷ numbers) = each_long frames (spoken lists number frames) numbers ∙ spoken_long lists number frames

links_long : (links : List Link) → length (sent_lists links) ≡ length links
links_long links = length-map links (λ (link : Link). link.sent)

grown_long : (lists later : List (List Sent)) → Grows lists later → length lists ≤ length later
grown_long lists _ AsBefore = omega arith
grown_long lists _ OneMore = let more : length (lists ++ [] ∷ []) ≡ length lists + 1 = length-append lists ([] ∷ []) in omega (arith, more)

-- A STEP ------------------------------------------------------------------------------------------

module _ (setting : Setting) (m : Machine) (talks : AllTalk setting.terms m.clients) (number : ℕ) (n : Machine) (step : HasStepped setting m number n) where
  lists_long : length n.links ≡ length step.lists
  lists_long = sym (links_long n.links) ∙ (ap (λ (lists : List (List Sent)). length lists) step.sent_are ∙ spoken_long step.lists (unwrap_or step.connection 0) _)

  links_more : length m.links ≤ length n.links
  links_more = let grown : length (sent_lists m.links) ≤ length step.lists = grown_long (sent_lists m.links) step.lists step.grows in let old : length (sent_lists m.links) ≡ length m.links = links_long m.links in omega (arith, grown, old, lists_long)

  opens_so : (input : Input) → Brings m step.lists input → one_step (length m.links) (length n.links) input
  opens_so _ (NoneNew input none) = by input none
    where
      by : (input : Input) → brought input ≡ None → one_step (length m.links) (length n.links) input
      by (Opened connection) none = absurd (let never : ⊥ = cc in never)
      by Start none = links_more
      by Waiting none = links_more
      by (Lent connection ltxid) none = links_more
      by TryFailed none = links_more
      by (Took frame alive) none = links_more
      by (Gone event) none = links_more
  opens_so _ (IdleOne connection ltxid link there) = links_more
  opens_so _ (NewOne more) =
      let long : length step.lists ≡ length (sent_lists m.links) + 1 = ap (λ (lists : List (List Sent)). length lists) more ∙ length-append (sent_lists m.links) ([] ∷ []) in
      let old : length (sent_lists m.links) ≡ length m.links = links_long m.links in
      let above : length m.links < next_number m = omega arith in
      let below : next_number m ≤ length n.links = omega (arith, long, old, lists_long) in (above, below)

  mine_rise : (steps : List Step) → steps ≡ step.after.steps → rise_within 0 (length m.links) step.before.steps ≡ true → rise_within 0 (length n.links) steps ≡ true
  mine_rise steps is old =
      ap (rise_within 0 (length n.links)) is
      ∙ behind step.goes_on (rise_more 0 (length m.links) (length n.links) step.before.steps (first_step setting m talks number n step) old (opens_so step.input step.brings))
    where
      behind : {after : Doing} {kept : Hold} → StepGoesOn setting (first_doing setting m talks number n step) (first_step setting m talks number n step).done.act.hold after kept
          → rise_within 0 (length n.links) (first_doing setting m talks number n step).steps ≡ true → rise_within 0 (length n.links) after.steps ≡ true
      behind AtOnce so = so
      behind (LostToo event tick ended is) so = let same : length n.links ≤ length n.links = omega arith in rise_more 0 (length n.links) (length n.links) (first_doing setting m talks number n step).steps _ so same

-- EVENTS ------------------------------------------------------------------------------------------

-- the request that steps, before it does
before_rise : (t : Traced) (m : Machine) (number : ℕ) (n : Machine) (step : HasStepped t.setting m number n) → m.clients ≡ t.machine.clients → opened_once t ≡ true → rise_within 0 (length t.machine.links) step.before.steps ≡ true
before_rise t m number n step clients old = by step.client.now refl step.client.next step.does
  where
    here : client_at t.machine.clients number ≡ Some step.client
    here = subst (λ (all : List Client). client_at all number ≡ Some step.client) clients step.here

    by : (now : Option Doing) → step.client.now ≡ now → (next : Option Request) → option_or now (option_map (begun t.setting.terms m.event m.tick) next) ≡ Some step.before → rise_within 0 (length t.machine.links) step.before.steps ≡ true
    by (Some one) is next does =
        let same : one ≡ step.before = cc in
        doing_course (λ (course : Course). rise_within 0 (length t.machine.links) course.steps) t number step.client step.before old here (is ∙ ap Some same)
    by None is (Some request) does =
        let same : begun t.setting.terms m.event m.tick request ≡ step.before = cc in
        let least : 0 ≤ length t.machine.links = omega arith in
        subst (λ (d : Doing). rise_within 0 (length t.machine.links) d.steps ≡ true) same (le_to 0 (length t.machine.links) least)
    by None is None does = absurd (let none : ⊥ = cc in none)

module _ (t : Traced) (m n : Machine) (clients : m.clients ≡ t.machine.clients) (links : m.links ≡ t.machine.links) (talks : AllTalk t.setting.terms m.clients) (old : opened_once t ≡ true) where
  abbrev test_on : List Link → Course → Bool
  test_on all course = rise_within 0 (length all) course.steps

  as_long : length n.links ≡ length t.machine.links → n.clients ≡ m.clients → list_all (test_on n.links) (courses_of_clients t.setting 1 n.clients) ≡ true
  as_long long same =
      ap (λ (limit : ℕ). list_all (λ (course : Course). rise_within 0 limit course.steps) (courses_of_clients t.setting 1 n.clients)) long
      ∙ (ap (λ (c : List Client). list_all (test_on t.machine.links) (courses_of_clients t.setting 1 c)) (same ∙ clients) ∙ old)

  may_open : MayStep t.setting m n → list_all (test_on n.links) (courses_of_clients t.setting 1 n.clients) ≡ true
  may_open (Still same sents) = as_long (sym (links_long n.links) ∙ (ap (λ (lists : List (List Sent)). length lists) sents ∙ (links_long m.links ∙ ap (λ (all : List Link). length all) links))) same
  may_open (Closed same sents) =
      as_long
      (sym (links_long n.links) ∙ (ap (λ (lists : List (List Sent)). length lists) sents ∙ (each_long (closed_by_drain ∷ []) (sent_lists m.links) m.pool.idle ∙ (links_long m.links ∙ ap (λ (all : List Link). length all) links)))) same
  may_open (Stepped number step) =
      let before : rise_within 0 (length m.links) step.before.steps ≡ true = ap (λ (all : List Link). rise_within 0 (length all) step.before.steps) links ∙ before_rise t m number n step clients old in
      all_step t.setting (test_on m.links) (test_on n.links) (record { client = number; place = length step.client.past })
      (λ course differs here. wider 0 (length m.links) (length n.links) course.steps (links_more t.setting m talks number n step) here) m number n step refl
      (λ keep. mine_rise t.setting m talks number n step step.after.steps refl before) (λ over. mine_rise t.setting m talks number n step step.after.steps refl before)
      (subst (λ (all : List Link). list_all (test_on all) (courses_of_clients t.setting 1 m.clients) ≡ true) (sym links)
      (subst (λ (c : List Client). list_all (test_on t.machine.links) (courses_of_clients t.setting 1 c) ≡ true) (sym clients) old))

event_opens : (before after : Seen) (old new : Traced) (event : Event) (note : Note) (items left : List Served) → OneEvent before old event note items left after new → Orderly old → opened_once old ≡ true → opened_once new ≡ true
event_opens before after old new event note items left one inv was =
    let by : Followed old.setting old.machine event note items left new.machine = follow_happens old.setting old.machine event note items left new.machine one.follows in
    subst (λ (setting : Setting). list_all (λ (course : Course). rise_within 0 (length new.machine.links) course.steps) (courses_of_clients setting 1 new.machine.clients) ≡ true) (sym one.setting)
    (may_open old (at_event old.machine) new.machine refl refl inv.script.talks was (happens_step old.setting (at_event old.machine) items left by.kind new.machine by.happens))

pub runs_open_once : RunsAreOrderly → HoldsInRuns opened_once
runs_open_once orderly document _ _ _ _ _ calls (Begins seen start history horizon coupled) = resting_none (setting_of document) 1 (λ (course : Course). rise_within 0 0 course.steps) document.clients
runs_open_once orderly document _ _ _ _ _ calls (GoesOn events notes items more before after old new event note reached one forgets) =
    event_opens before after old new event note more [] one (orderly document events notes items before old calls reached) (runs_open_once orderly document events notes items before old calls reached)

pub whole_runs_open_once : RunsAreOrderly → HoldsAtEnds opened_once
whole_runs_open_once orderly document notes items seen t calls run =
    let so = finishing_reached document run.place notes items seen t run.finishing in runs_open_once orderly document so.0 notes items seen t calls so.1
