-- What a request knows of the calls that its connections served: where it sent a further one
-- behind, a call without the mark was shown with what was answered, and of a repeated one the
-- digest is that of the answers that were shown.
use Rattle.std.specs.Prelude.{ℕ, ◌-◌, ◌==◌, ◌&&◌, ◌||◌, Bool, true, false, not, List, [], ◌∷◌, length, filter, take, slice_get, None}
use Rattle.std.specs.List.{list_all, list_any, last_or}
use Rattle.std.specs.Option.{option_map_or}
use Rattle.std.specs.Str.{bytes_eq}
use Rattle.svc_values.specs.declared.answer.Answer.{Answer}
use Rattle.svc_values.specs.meaning.Endings.{ends_committed, ends_transaction}
use Rattle.svc_values.specs.meaning.Same.{same_answers, same_draws}
use Rattle.outage_schedule.specs.declared.item.Item.{Item}
use Rattle.outage_schedule.specs.declared.item.Item.TheVariants as item
use Rattle.outage_schedule.specs.declared.request.ShownCall.{ShownCall}
use Rattle.world_model.specs.meaning.Frames.{Handled}
use Rattle.world_model.specs.meaning.Links.{Link, link_at}
use Rattle.world_model.specs.Parts.{Sending, commit_sendings, implies}
use Rattle.invariant_laws.specs.Same.{ServedCall, ran_by}
use Rattle.world_model.specs.Sames.{owned_by}
use Rattle.invariant_laws.specs.Shown.{calls_on, is_call}
use Rattle.world_model.specs.Traced.{Traced, Course, courses_of}
use Rattle.world_model.specs.Words.{held_in}

-- the calls of a request that were served on a connection
abbrev pub served_calls : Course → Link → List Handled
served_calls course link = filter (λ one. owned_by course.owner one.sent && is_call one.sent.frame)
    link.served

-- those behind which it sent a further one
abbrev pub gone_behind : Course → Link → List Handled
gone_behind course link = take (length (calls_on course link) - 1) (served_calls course link)

-- BY DIGESTS --------------------------------------------------------------------------------------

abbrev pub is_verified_item : (List Answer → List ℕ) → ShownCall → Item → Bool
is_verified_item digest shown (item.Call false call answers draws) =
    same_answers answers shown.answers && same_draws draws shown.draws
is_verified_item digest shown (item.Call true call answers draws) =
    bytes_eq (digest shown.answers) (digest answers)
is_verified_item digest shown _ = false

abbrev pub is_verified : (List Answer → List ℕ) → Course → Handled → Bool
is_verified digest course one = option_map_or
    (λ shown. is_verified_item digest shown one.served.item)
    (slice_get course.report.calls one.sent.call) false

abbrev pub verifies : (List Answer → List ℕ) → Course → Link → Bool
verifies digest course link = list_all (is_verified digest course) (gone_behind course link)

-- on each connection that the request held
abbrev pub on_held : Traced → Course → (Link → Bool) → Bool
on_held t course test = list_all (λ number. option_map_or test (link_at t.machine.links number)
    true) (held_in course.steps)

abbrev pub are_verified : Traced → Bool
are_verified t = list_all (λ course. on_held t course (verifies t.setting.terms.digest course))
    (courses_of t)

-- BY ANSWERS --------------------------------------------------------------------------------------

-- A call that is repeated: where the digests are equal, the answers are.
abbrev pub clashes_not : (List Answer → List ℕ) → ShownCall → Item → Bool
clashes_not digest shown (item.Call true call answers draws) =
    not (bytes_eq (digest shown.answers) (digest answers)) || same_answers shown.answers answers
clashes_not digest shown _ = true

abbrev pub is_no_clash : (List Answer → List ℕ) → Course → Handled → Bool
is_no_clash digest course one = implies (owned_by course.owner one.sent)
    (option_map_or (λ shown. clashes_not digest shown one.served.item)
    (slice_get course.report.calls one.sent.call) true)

abbrev pub none_clash : Traced → Bool
none_clash t = list_all (λ course. on_held t course
    (λ link. list_all (is_no_clash t.setting.terms.digest course) link.served)) (courses_of t)

-- it was answered as the call of its index was shown
abbrev pub answers_as : ShownCall → Item → Bool
answers_as shown (item.Call marked call answers draws) = same_answers answers shown.answers
answers_as shown _ = false

abbrev pub is_answered_so : Course → Handled → Bool
is_answered_so course one = option_map_or (λ shown. answers_as shown one.served.item)
    (slice_get course.report.calls one.sent.call) false

abbrev pub knows_answers : Course → Link → Bool
knows_answers course link = list_all (is_answered_so course) (gone_behind course link)

-- on each connection that a request held it knows the answers to each call behind which it went on
abbrev pub answers_known : Traced → Bool
answers_known t = list_all (λ course. on_held t course (knows_answers course)) (courses_of t)

-- IN A TRANSACTION --------------------------------------------------------------------------------

abbrev pub all_but_last : {A : Type 0} → List A → List A
all_but_last [] = []
all_but_last (x ∷ []) = []
all_but_last (x ∷ y ∷ others) = x ∷ all_but_last (y ∷ others)

-- a call inside a transaction: it was answered as it was shown, and ended no transaction
abbrev pub is_inside : Course → ServedCall → Bool
is_inside course did = option_map_or (λ shown. same_answers did.piece.answers shown.answers
    && not (ends_transaction shown.answers)) (slice_get course.report.calls did.sent.call) false

-- a transaction with a call of the request: each call but its last one
abbrev pub knows_inside : Course → List ServedCall → Bool
knows_inside course dids = implies (list_any (λ did. owned_by course.owner did.sent) dids)
    (list_all (is_inside course) (all_but_last dids))

abbrev pub ran_knowing : Course → Link → Bool
ran_knowing course link = list_all (knows_inside course) (ran_by link).over
    && knows_inside course (ran_by link).pieces

-- each that was run on a connection that the request held
abbrev pub insides_known : Traced → Bool
insides_known t = list_all (λ course. on_held t course (ran_knowing course)) (courses_of t)

-- OF A SENDING ------------------------------------------------------------------------------------

-- the transaction of its identifier's number on its connection ends with it
abbrev pub ran_last : Course → Sending → Link → Bool
ran_last course sending link =
    option_map_or (λ dids. option_map_or (λ did. owned_by course.owner did.sent
    && (did.sent.call == sending.at)) (last_or None dids) false)
    (slice_get (ran_by link).over sending.ltxid.number) false

-- where it was answered Committed
abbrev pub is_committed_ran : List Link → Course → Sending → Bool
is_committed_ran links course sending = implies (option_map_or ends_committed sending.taken false)
    (option_map_or (ran_last course sending) (link_at links sending.connection) false)

abbrev pub commits_ran : Traced → Bool
commits_ran t = list_all (λ course. list_all (is_committed_ran t.machine.links course)
    (commit_sendings course)) (courses_of t)
