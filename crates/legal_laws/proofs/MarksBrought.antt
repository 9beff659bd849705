-- Where replays are told as they are, what is told of a call with the mark is what its frame
-- brought.
use Rattle.std.proofs.Common.{◌≡◌, refl, sym, ap, subst, ◌∙◌, Bool, true, false, ℕ, zero, suc, ◌+◌, ◌<◌, length, List, [], ◌∷◌, ◌++◌, Option, Some, None, arith}
use Rattle.std.specs.Prelude.{slice_get}
use Rattle.std.specs.List.{list_all}
use Rattle.std.specs.Option.{option_map_or}
use Rattle.std.proofs.lemmas.Bool.{and_parts}
use Rattle.svc_values.specs.declared.draw.Draw.{Draw}
use Rattle.svc_values.specs.declared.frame.Up.TheVariants as up
use Rattle.svc_values.specs.meaning.Same.{same_draws}
use Rattle.svc_values.specs.SameLaws.{same_draws_decide}
use Rattle.outage_schedule.specs.declared.request.ShownCall.{ShownCall}
use Rattle.shown_clauses.specs.meaning.KeptDraws.{parts, shown_since, shown_before, place_in, draws_shown, kept_since, kept_in_turn, kept_on_link, kept_at}
use Rattle.shown_clauses.specs.meaning.Links.{Acquired, Link as SeenLink, Turn}
use Rattle.shown_clauses.specs.meaning.Parts.{Part}
use Rattle.world_model.specs.meaning.Clients.{Step}
use Rattle.world_model.specs.meaning.Frames.{Sent}
use Rattle.invariant_laws.specs.Invariant.{Invariant}
use Rattle.invariant_laws.specs.KeptLaws.{RunsKeepInvariant}
use Rattle.world_model.specs.Parts.{implies}
use Rattle.invariant_laws.specs.Replayed.{shown_at, IsRepeat, RunsRepeatInOrder}
use Rattle.world_model.specs.Sames.{owned_by}
use Rattle.world_model.specs.records.Script.{has_shown_draws, carries_draws, recorded_from}
use Rattle.invariant_laws.specs.Shown.{is_marked}
use Rattle.world_model.specs.Traced.{Course, courses_of}
use Rattle.shown_laws.specs.Telling.{seen_told}
use Rattle.shown_laws.proofs.Offered.{at_link}
use Rattle.legal_laws.specs.MarksTold.{ReportsTellMarked}
use Rattle.legal_laws.specs.ReplaysTold.{IsSentBy, TellsReplay, ReplayTold, ReportsTellReplays}
use Rattle.legal_laws.proofs.CallsSince.{since_place}

-- LISTS -------------------------------------------------------------------------------------------

pub one_of : {A : Type 0} (test : A → Bool) (xs : List A) (index : ℕ) (x : A) → list_all test xs ≡ true → slice_get xs index ≡ Some x → test x ≡ true
one_of test [] index x all is = absurd (let none : ⊥ = cc in none)
one_of test (first ∷ xs) zero x all is = let same : first ≡ x = cc in subst (λ y. test y ≡ true) same (and_parts (test first) (list_all test xs) all).0
one_of test (first ∷ xs) (suc index) x all is = one_of test xs index x (and_parts (test first) (list_all test xs) all).1 is

pub there_in : (front : List Sent) (sent : Sent) (rest : List Sent) → slice_get (front ++ sent ∷ rest) (length front) ≡ Some sent
there_in [] sent rest = refl
there_in (first ∷ front) sent rest = there_in front sent rest

in_first : {A : Type 0} (xs more : List A) (index : ℕ) → index < length xs → slice_get (xs ++ more) index ≡ slice_get xs index
in_first [] more index below = absurd (let none : ⊥ = omega (arith, below) in none)
in_first (x ∷ xs) more zero below = refl
in_first (x ∷ xs) more (suc index) below = let less : index < length xs = omega (arith, below) in in_first xs more index less

-- it has these draws
drew : (kept : List Draw) (found : Option ShownCall) → option_map_or (λ (shown : ShownCall). same_draws kept shown.draws) found false ≡ true → option_map_or (λ (shown : ShownCall). shown.draws) found [] ≡ kept
drew kept None is = absurd (let none : ⊥ = cc in none)
drew kept (Some shown) is = sym ((same_draws_decide kept shown.draws).0 is)

-- A REPORT ----------------------------------------------------------------------------------------

pub marks_told : RunsKeepInvariant → RunsRepeatInOrder → ReportsTellReplays → ReportsTellMarked
marks_told keeps repeats told document report seen t server events calls is p served kept here serves =
    brought (keeps document p.events p.notes p.items p.seen p.t calls here) (told document report seen t server events calls is p served kept here serves)
    (λ by marked. repeats document p.events p.notes p.items p.seen p.t calls here by.place by.course by.at serves.number by.link by.there by.held by.front by.sent by.rest by.among by.owned marked)
  where
    brought : Invariant p.t → (replay : ReplayTold (parts document report) p served serves.number serves.front.first)
        → ((by : IsSentBy p serves.number serves.front.first) → is_marked by.sent.frame ≡ true → IsRepeat p.t.setting.terms by.course serves.number by.front by.sent) → kept_at (parts document report) (seen_told p.notes p.items) served.session ≡ kept
    brought inv replay order =
        let by : IsSentBy p serves.number serves.front.first = replay.by in
        let tells : TellsReplay (parts document report) p served serves.number by.course by.front = replay.tells in
        let frame : by.sent.frame ≡ up.Call true kept serves.call = by.same ∙ serves.brings in
        let repeat : IsRepeat p.t.setting.terms by.course serves.number by.front by.sent = order by (ap is_marked frame) in
        let shown : List ShownCall = shown_at p.t.setting.terms by.course.request tells.shows.before in
        let opening : Some repeat.before ≡ Some tells.shows.before = sym repeat.opened ∙ tells.shows.opened in
        let same : repeat.before ≡ tells.shows.before = cc in
        let place : repeat.place ≡ place_in tells.place.turn = let long = repeat.long in let many = tells.place.as_many in omega (arith, long, many) in
        let index : by.sent.call ≡ recorded_from shown + place_in tells.place.turn =
        repeat.index ∙ (ap (λ (b : List Step). recorded_from (shown_at p.t.setting.terms by.course.request b) + repeat.place) same ∙ ap (λ (n : ℕ). recorded_from shown + n) place) in
        let within : by.sent.call < length shown = subst (λ (b : List Step). by.sent.call < length (shown_at p.t.setting.terms by.course.request b)) same repeat.within in
        let carried : implies (owned_by by.course.owner by.sent) (has_shown_draws by.course by.sent.call by.sent.frame) ≡ true =
        one_of (λ (s : Sent). implies (owned_by by.course.owner s) (has_shown_draws by.course s.call s.frame)) by.link.sent (length by.front) by.sent
        (at_link (carries_draws by.course) p.t.machine.links serves.number by.link (one_of (λ (c : Course). list_all (carries_draws c) p.t.machine.links) (courses_of p.t) by.place by.course inv.orderly.script.marks by.at) by.there)
        (ap (λ (sents : List Sent). slice_get sents (length by.front)) by.among ∙ there_in by.front by.sent by.rest) in
        let carries : has_shown_draws by.course by.sent.call (up.Call true kept serves.call) ≡ true =
        ap (has_shown_draws by.course by.sent.call) (sym frame) ∙ subst (λ (mine : Bool). implies mine (has_shown_draws by.course by.sent.call by.sent.frame) ≡ true) by.owned carried in
        let draws : option_map_or (λ (s : ShownCall). s.draws) (slice_get shown (recorded_from shown + place_in tells.place.turn)) [] ≡ kept =
        ap (λ (n : ℕ). option_map_or (λ (s : ShownCall). s.draws) (slice_get shown n) []) (sym index)
        ∙ (ap (λ (found : Option ShownCall). option_map_or (λ (s : ShownCall). s.draws) found []) (sym (ap (λ (all : List ShownCall). slice_get all by.sent.call) tells.shows.so_far ∙ in_first shown tells.shows.more by.sent.call within))
        ∙ drew kept (slice_get by.course.report.calls by.sent.call) carries) in
        ap (λ (found : Option SeenLink). option_map_or (kept_on_link (parts document report)) found []) tells.place.found
        ∙ ap (λ (found : Option Turn). option_map_or (kept_in_turn (parts document report)) found []) tells.place.has
        ∙ ap (λ (found : Option Acquired). option_map_or (kept_since (parts document report) (place_in tells.place.turn)) found []) tells.shows.acquires
        ∙ ap (λ (found : Option Part). option_map_or (draws_shown tells.shows.acquired.event (place_in tells.place.turn)) found []) tells.shows.its
        ∙ ap (λ (all : List ShownCall). option_map_or (λ (s : ShownCall). s.draws) (slice_get (shown_since (shown_before tells.shows.part.steps tells.shows.acquired.event) [] all) (place_in tells.place.turn)) []) tells.shows.report
        ∙ ap (λ (n : ℕ). option_map_or (λ (s : ShownCall). s.draws) (slice_get (shown_since n [] (shown ++ tells.shows.later)) (place_in tells.place.turn)) []) tells.shows.shown
        ∙ ap (λ (found : Option ShownCall). option_map_or (λ (s : ShownCall). s.draws) found []) (since_place shown tells.shows.later (place_in tells.place.turn))
        ∙ draws
