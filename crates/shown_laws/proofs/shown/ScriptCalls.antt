-- The call whose reply a request is shown is the next one of its script.
use Rattle.std.proofs.Common.{◌≡◌, refl, sym, ap, subst, ◌∙◌, Bool, true, false, ℕ, ◌&&◌, ◌||◌, length, List, [], ◌∷◌, cond, Option, Some, None, ◌⊎◌, inl, inr}
use Rattle.std.specs.Prelude.{◌==◌, fold, filter, slice_get}
use Rattle.std.specs.List.{list_all, last_or, cons_option}
use Rattle.std.specs.Option.{option_map_or}
use Rattle.std.proofs.lemmas.Bool.{and_parts, and_from}
use Rattle.svc_values.specs.declared.answer.Answer.{Answer}
use Rattle.svc_values.specs.declared.call.Call.{Call}
use Rattle.svc_values.specs.declared.draw.Draw.{Draw}
use Rattle.svc_values.specs.declared.frame.Down.{Down}
use Rattle.svc_values.specs.declared.frame.Up.{Up}
use Rattle.svc_values.specs.declared.frame.Up.TheVariants as up
use Rattle.svc_values.specs.meaning.Same.{same_bool, same_call, same_draws}
use Rattle.svc_values.specs.SameLaws.{same_call_decides}
use Rattle.client_model.specs.meaning.States.{Living}
use Rattle.client_model.specs.meaning.Terms.{Running}
use Rattle.client_model.specs.declared.input.Input.{Input}
use Rattle.client_model.specs.declared.input.Input.TheVariants.{Start, Waiting, Lent, Opened, TryFailed, Took, Gone}
use Rattle.outage_schedule.specs.declared.item.Item.{Item}
use Rattle.outage_schedule.specs.declared.item.Item.TheVariants as item
use Rattle.outage_schedule.specs.declared.item.Served.{Served}
use Rattle.world_model.specs.meaning.Clients.{Step, Doing, Client, client_at}
use Rattle.world_model.specs.records.Conversing.{Talks, connected}
use Rattle.world_model.specs.meaning.Frames.{Sent}
use Rattle.world_model.specs.records.Hold.{is_call as awaits_call}
use Rattle.invariant_laws.specs.Invariant.{Invariant}
use Rattle.world_model.specs.meaning.Links.{Link, link_at}
use Rattle.world_model.specs.Parts.{implies}
use Rattle.world_model.specs.Sames.{owned_by, same_owners, same_up}
use Rattle.world_model.specs.meaning.Serving.{is_item_of}
use Rattle.invariant_laws.specs.Shown.{is_call, is_scripts, calls_on, is_row, is_current, rows_on, in_row, first_of, has_unmarked, marked_from, first_unmarked, unmarked_first}
use Rattle.world_model.specs.Traced.{Traced, Course, course_now}
use Rattle.world_model.specs.Words.{brought, held_in}
use Rattle.shown_laws.specs.ClientSteps.{TellsReply}
use Rattle.shown_laws.proofs.events.CourseNow.{course_holds}
use Rattle.shown_laws.proofs.events.Lookups.{eq_from}

-- THE CONNECTION OF A REQUEST ---------------------------------------------------------------------

-- it is one that its steps brought
connected_by : (had : Option ℕ) (input : Input) (number : ℕ) → connected had input ≡ Some number → (had ≡ Some number) ⊎ (brought input ≡ Some number)
connected_by had (Lent connection ltxid) number is = inr is
connected_by had (Opened connection) number is = inr is
connected_by had (Gone event) number is = absurd (let none : ⊥ = cc in none)
connected_by had Start number is = inl is
connected_by had Waiting number is = inl is
connected_by had TryFailed number is = inl is
connected_by had (Took frame alive) number is = inl is

-- a test of all that were held is met by it
held_meets : (test : ℕ → Bool) (steps : List Step) (had : Option ℕ) (number : ℕ) → fold (λ had step. connected had step.done.input) had steps ≡ Some number → (had ≡ Some number → test number ≡ true)
    → list_all test (held_in steps) ≡ true → test number ≡ true
held_meets test [] had number is before all = before is
held_meets test (step ∷ steps) had number is before all =
    held_meets test steps (connected had step.done.input) number is (λ now. by (connected_by had step.done.input number now)) (rest (brought step.done.input) all)
  where
    first : (found : Option ℕ) → found ≡ Some number → list_all test (cons_option found (held_in steps)) ≡ true → test number ≡ true
    first None is all = absurd (let none : ⊥ = cc in none)
    first (Some one) is all = let same : one ≡ number = cc in subst (λ (n : ℕ). test n ≡ true) same (and_parts (test one) (list_all test (held_in steps)) all).0

    rest : (found : Option ℕ) → list_all test (cons_option found (held_in steps)) ≡ true → list_all test (held_in steps) ≡ true
    rest None all = all
    rest (Some one) all = (and_parts (test one) (list_all test (held_in steps)) all).1

    by : (had ≡ Some number) ⊎ (brought step.done.input ≡ Some number) → test number ≡ true
    by (inl was) = before was
    by (inr now) = first (brought step.done.input) now all

-- WHAT IT SENT LAST -------------------------------------------------------------------------------

-- a test of all that are kept is met by the last one, where it is kept
last_meets : (keep test : Sent → Bool) (all : List Sent) (found : Option Sent) (sent : Sent) → last_or found all ≡ Some sent → keep sent ≡ true → (found ≡ Some sent → test sent ≡ true) → list_all test (filter keep all) ≡ true → test sent ≡ true
last_meets keep test [] found sent last kept before is = before last
last_meets keep test (one ∷ all) found sent last kept before is =
    last_meets keep test all (Some one) sent last kept
    (λ same. (let equal : one ≡ sent = cc in subst (λ (s : Sent). test s ≡ true) equal (first (keep one) (ap keep equal ∙ kept) is))) (rest (keep one) is)
  where
    first : (test_kept : Bool) → test_kept ≡ true → list_all test (cond test_kept (one ∷ filter keep all) (filter keep all)) ≡ true → test one ≡ true
    first true keeps is = (and_parts (test one) (list_all test (filter keep all)) is).0
    first false keeps is = absurd (let none : ⊥ = cc in none)

    rest : (test_kept : Bool) → list_all test (cond test_kept (one ∷ filter keep all) (filter keep all)) ≡ true → list_all test (filter keep all) ≡ true
    rest true is = (and_parts (test one) (list_all test (filter keep all)) is).1
    rest false is = is

-- of the request that a client is at, on its connection: the call that it sent last is the script's
-- of its index
pub sent_scripts : (t : Traced) → Invariant t → (client : ℕ) (own : Client) (doing : Doing) → client_at t.machine.clients client ≡ Some own → own.now ≡ Some doing → Talks t.setting.terms false doing
    → (connection : ℕ) (link : Link) (sent : Sent) → doing.connection ≡ Some connection → link_at t.machine.links connection ≡ Some link → last_or None link.sent ≡ Some sent
    → owned_by (record { client = client; place = length own.past }) sent ≡ true → is_call sent.frame ≡ true → is_scripts (course_now t.setting client (length own.past) doing) sent sent.frame ≡ true
sent_scripts t inv client own doing here now talks connection link sent has there last mine called =
    last_meets (λ one. owned_by course.owner one && is_call one.frame) (λ one. is_scripts course one one.frame) link.sent None sent last
    (and_from (owned_by course.owner sent) (is_call sent.frame) mine called) (λ none. absurd (let never : ⊥ = cc in never)) scripts
  where
    course : Course
    course = course_now t.setting client (length own.past) doing

    ends : Bool
    ends = implies (is_current course connection || has_unmarked (calls_on course link)) (marked_from course (calls_on course link) (first_unmarked course (calls_on course link))) && unmarked_first course (calls_on course link)

    row : is_row course (is_current course connection) (calls_on course link) ≡ true
    row =
        subst (λ (found : Option Link). option_map_or (λ one. is_row course (is_current course connection) (calls_on course one)) found false ≡ true) there
        (held_meets (λ number. option_map_or (λ one. is_row course (is_current course number) (calls_on course one)) (link_at t.machine.links number) false) doing.steps None connection (talks.has ∙ has)
        (λ none. absurd (let never : ⊥ = cc in never)) (course_holds (rows_on t) t client own doing inv.shown.rows here now))

    scripts : list_all (λ one. is_scripts course one one.frame) (calls_on course link) ≡ true
    scripts =
        let behind = and_parts (in_row (option_map_or (λ one. one.call) (first_of (calls_on course link)) 0) (calls_on course link)) (list_all (λ one. is_scripts course one one.frame) (calls_on course link) && ends) row in
        (and_parts (list_all (λ one. is_scripts course one one.frame) (calls_on course link)) ends behind.1).0

-- THE ITEM ----------------------------------------------------------------------------------------

-- The item that it takes is of the call of this index of its script.
item_of_script : (course : Course) (sent : Sent) (mark : Bool) (index : ℕ) (answered frame : Up) (call : Call) (marked : Bool) (answers : List Answer) (draws : List Draw) → same_up answered frame ≡ true
    → is_item_of answered (item.Call marked call answers draws) ≡ true → is_scripts course sent frame ≡ true → awaits_call mark index sent frame ≡ true → option_map_or (same_call call) (slice_get course.request.calls index) false ≡ true
item_of_script course sent mark index (up.Call r k c) (up.Call s l d) call marked answers draws same its script awaited =
    let one = and_parts (same_bool r s) (same_draws k l && same_call c d) same in
    let two : c ≡ d = (same_call_decides c d).0 (and_parts (same_draws k l) (same_call c d) one.1).1 in
    let three : call ≡ c = (same_call_decides call c).0 (and_parts (same_bool marked r) (same_call call c) its).1 in
    let four : sent.call ≡ index = eq_from sent.call index (and_parts (same_bool mark s) (sent.call == index) awaited).1 in
    subst (λ (one : Call). option_map_or (same_call one) (slice_get course.request.calls index) false ≡ true) (sym (three ∙ two))
    (subst (λ (at : ℕ). option_map_or (same_call d) (slice_get course.request.calls at) false ≡ true) four script)
item_of_script course sent mark index answered (up.Call s l d) call marked answers draws same its script awaited = absurd (let none : ⊥ = cc in none)
item_of_script course sent mark index answered _ call marked answers draws same its script awaited = absurd (let none : ⊥ = cc in none)

is_sent_call : (mark : Bool) (index : ℕ) (sent : Sent) (frame : Up) → awaits_call mark index sent frame ≡ true → is_call frame ≡ true
is_sent_call mark index sent (up.Call replay kept call) is = refl
is_sent_call mark index sent _ is = absurd (let none : ⊥ = cc in none)

-- of a reply that shows a call
pub shown_script : (t : Traced) → Invariant t → (client : ℕ) (own : Client) (doing : Doing) → client_at t.machine.clients client ≡ Some own → own.now ≡ Some doing → Talks t.setting.terms false doing
    → (connection : ℕ) (link : Link) (frame : Down) (served : Served) (state : Living) (marked : Bool) (call : Call) (answers : List Answer) (draws : List Draw) → doing.connection ≡ Some connection → link_at t.machine.links connection ≡ Some link
    → TellsReply (record { client = client; place = length own.past }) (Running state) link frame served → served.item ≡ item.Call marked call answers draws
    → option_map_or (same_call call) (slice_get doing.request.calls state.track.call) false ≡ true
shown_script t inv client own doing here now talks connection link frame served state marked call answers draws has there reply is =
    item_of_script (course_now t.setting client (length own.past) doing) reply.sent false state.track.call reply.one.sent.frame reply.sent.frame call marked answers draws
    (and_parts (reply.one.sent.call == reply.sent.call) (same_up reply.one.sent.frame reply.sent.frame) (and_parts (same_owners reply.one.sent.owner reply.sent.owner) ((reply.one.sent.call == reply.sent.call) && same_up reply.one.sent.frame reply.sent.frame) reply.same).1).1
    (subst (λ (one : Item). is_item_of reply.one.sent.frame one ≡ true) is reply.is_its)
    (sent_scripts t inv client own doing here now talks connection link reply.sent has there reply.last reply.own (is_sent_call false state.track.call reply.sent reply.sent.frame reply.awaited)) reply.awaited
