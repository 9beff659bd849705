-- Where no two answers that a report's clients compared have one digest by chance, none do in the
-- state at the end of its run.
use Rattle.std.proofs.Common.{◌≡◌, refl, sym, ap, subst, ◌∙◌, Bool, true, false, ℕ, suc, zero, ◌&&◌, ◌||◌, filter, filter_map, map, List, [], ◌∷◌, ◌++◌, Option, Some, None, ◌⊎◌, inl, inr, if◌then◌else◌}
use Rattle.std.specs.Prelude.{is_none, not, slice_get}
use Rattle.std.specs.List.{list_all, list_any, cons_option}
use Rattle.std.specs.Option.{option_map_or}
use Rattle.std.specs.Str.{bytes_eq}
use Rattle.std.specs.Cmp.Lexicographic.{pointwise}
use Rattle.std.proofs.lemmas.Bool.{and_parts, and_from, or_cases, or_left, or_right}
use Rattle.std.proofs.lemmas.List.Elements.{filter-append}
use Rattle.std.proofs.lemmas.List.Folds.{list_all-append}
use Rattle.svc_values.specs.declared.answer.Answer.{Answer}
use Rattle.svc_values.specs.declared.call.Call.{Call}
use Rattle.svc_values.specs.declared.draw.Draw.{Draw}
use Rattle.svc_values.specs.declared.entry.SessionId.{SessionId}
use Rattle.svc_values.specs.declared.frame.Up.{Up}
use Rattle.svc_values.specs.declared.frame.Up.TheVariants as up
use Rattle.svc_values.specs.meaning.Identifiers.{same_session}
use Rattle.svc_values.specs.meaning.Same.{same_answers, same_bool, same_call}
use Rattle.svc_values.specs.SameLaws.{same_call_decides}
use Rattle.outage_schedule.specs.declared.document.Request.{Request}
use Rattle.outage_schedule.specs.declared.item.Item.{Item}
use Rattle.outage_schedule.specs.declared.item.Item.TheVariants as item
use Rattle.outage_schedule.specs.declared.item.Served.{Served}
use Rattle.outage_schedule.specs.declared.request.RequestReport.{RequestReport}
use Rattle.outage_schedule.specs.declared.request.ShownCall.{ShownCall}
use Rattle.client_model.specs.meaning.Conversation.{Done}
use Rattle.run_clauses.specs.meaning.NoClash.{Replayed, answers_do_not_clash, calls_do_not_clash, do_not_clash, replayed_by, replayed_in, request_does_not_clash, served_by}
use Rattle.run_clauses.specs.meaning.Reports.{reached}
use Rattle.world_model.specs.records.Basic.{is_named}
use Rattle.world_model.specs.meaning.Clients.{Step}
use Rattle.world_model.specs.meaning.Crashing.{is_crashed_item}
use Rattle.world_model.specs.meaning.Frames.{Sent, Handled}
use Rattle.world_model.specs.meaning.Links.{Link}
use Rattle.world_model.specs.Parts.{implies}
use Rattle.world_model.specs.Sames.{owned_by, same_sent, is_front}
use Rattle.world_model.specs.meaning.Serving.{is_item_of, reply_of}
use Rattle.invariant_laws.specs.Shown.{calls_on, is_call, is_scripts}
use Rattle.world_model.specs.Traced.{Course}
use Rattle.invariant_laws.specs.Verified.{clashes_not, is_no_clash}
use Rattle.world_model.specs.records.Wire.{counted_with, handled_from, is_handled, is_sent_front, same_replies, up_of}
use Rattle.world_model.proofs.Offered.{weaker_all, front_begun, implied, same_session_is}
use Rattle.invariant_laws.proofs.Offered.{front_all, unfiltered, both_all}
use Rattle.once_laws.proofs.Offered.{follows, follows_alike, is_mine, mine_alike}
use Rattle.same_laws.proofs.SessionsTold.{has_spoken, is_talk, reaches, talks_of}

-- THE CLAUSE, ITEM BY ITEM ------------------------------------------------------------------------

abbrev alone : Served → List Replayed
alone one = replayed_by one.session one.item

-- of one repeated call alone, where it is one of these sessions'
abbrev pub does_not_clash : Request → RequestReport → Served → Bool
does_not_clash request report one = calls_do_not_clash (served_by report.sessions (alone one)) request.calls report.calls

both_clash_not : (a b : List Replayed) (calls : List Call) (shown : List ShownCall) → calls_do_not_clash (a ++ b) calls shown ≡ true → (calls_do_not_clash a calls shown ≡ true) × (calls_do_not_clash b calls shown ≡ true)
both_clash_not a b [] shown all = (refl, refl)
both_clash_not a b (call ∷ calls) [] all = (refl, refl)
both_clash_not a b (call ∷ calls) (first ∷ shown) all =
    let test : Replayed → Bool = λ one. not (same_call one.call call) || do_not_clash first.answers one.answers in
    let parts = and_parts (answers_do_not_clash (a ++ b) call first.answers) (calls_do_not_clash (a ++ b) calls shown) all in
    let here = and_parts (list_all test a) (list_all test b) (sym (list_all-append test a b) ∙ parts.0) in
    let rest = both_clash_not a b calls shown parts.1 in
    (and_from (answers_do_not_clash a call first.answers) (calls_do_not_clash a calls shown) here.0 rest.0, and_from (answers_do_not_clash b call first.answers) (calls_do_not_clash b calls shown) here.1 rest.1)

pub each_clash_not : (request : Request) (report : RequestReport) (served : List Served) → request_does_not_clash (replayed_in served) request report ≡ true → list_all (does_not_clash request report) served ≡ true
each_clash_not request report [] all = refl
each_clash_not request report (one ∷ served) all =
    let its : Replayed → Bool = λ r. list_any (same_session r.session) report.sessions in
    let split = both_clash_not (filter its (alone one)) (filter its (replayed_in served)) request.calls report.calls
    (subst (λ (list : List Replayed). calls_do_not_clash list request.calls report.calls ≡ true) (filter-append its (alone one) (replayed_in served)) all) in
    and_from (does_not_clash request report one) (list_all (does_not_clash request report) served) split.0 (each_clash_not request report served split.1)

-- the call of an index, as it was shown
at_index : (one : Replayed) (calls : List Call) (shown : List ShownCall) (index : ℕ) (call : Call) (seen : ShownCall) → calls_do_not_clash (one ∷ []) calls shown ≡ true → slice_get calls index ≡ Some call → slice_get shown index ≡ Some seen
    → same_call one.call call ≡ true → do_not_clash seen.answers one.answers ≡ true
at_index one [] shown index call seen all at is same = absurd (let none : ⊥ = cc in none)
at_index one (first ∷ calls) [] index call seen all at is same = absurd (let none : ⊥ = cc in none)
at_index one (first ∷ calls) (other ∷ shown) zero call seen all at is same =
    let a : first ≡ call = cc in
    let b : other ≡ seen = cc in
    let parts = and_parts (answers_do_not_clash (one ∷ []) first other.answers) (calls_do_not_clash (one ∷ []) calls shown) all in
    let here = (and_parts (not (same_call one.call first) || do_not_clash other.answers one.answers) true parts.0).0 in
    subst (λ (s : ShownCall). do_not_clash s.answers one.answers ≡ true) b (implied (same_call one.call first) (do_not_clash other.answers one.answers) (ap (same_call one.call) a ∙ same) here)
at_index one (first ∷ calls) (other ∷ shown) (suc index) call seen all at is same =
    at_index one calls shown index call seen (and_parts (answers_do_not_clash (one ∷ []) first other.answers) (calls_do_not_clash (one ∷ []) calls shown) all).1 at is same

-- ITEMS AND FRAMES --------------------------------------------------------------------------------

-- the item of a call has the call of its frame
abbrev calls_alike : Up → Item → Bool
calls_alike (up.Call replay kept call) (item.Call marked served answers draws) = same_call served call
calls_alike frame (item.Call marked served answers draws) = false
calls_alike frame one = true

item_alike : (frame : Up) (one : Item) → is_item_of frame one ≡ true → calls_alike frame one ≡ true
item_alike (up.Call replay kept call) (item.Call marked served answers draws) is = (and_parts (same_bool marked replay) (same_call served call) is).1
item_alike frame (item.Call marked served answers draws) is = absurd (let none : ⊥ = cc in none)
item_alike frame one is = refl

crashed_alike : (frame : Up) (one : Item) → is_crashed_item frame one ≡ true → calls_alike frame one ≡ true
crashed_alike (up.Call replay kept call) (item.Call marked served answers draws) is = absurd (let none : ⊥ = cc in none)
crashed_alike (up.Outcome x) (item.Call marked served answers draws) is = absurd (let none : ⊥ = cc in none)
crashed_alike frame (item.Call marked served answers draws) is = absurd (let none : ⊥ = cc in none)
crashed_alike frame one is = refl

abbrev handled_alike : Handled → Bool
handled_alike one = calls_alike one.sent.frame one.served.item

all_alike : (commits : ℕ) (served : List Handled) → handled_from commits served ≡ true → list_all handled_alike served ≡ true
all_alike commits [] all = refl
all_alike commits (one ∷ others) all =
    let now : ℕ = counted_with commits one.served.item in
    let parts = and_parts (is_handled now one) (handled_from now others) all in
    and_from (handled_alike one) (list_all handled_alike others) (by (or_cases (is_item_of one.sent.frame one.served.item && same_replies one.reply (reply_of one.served.session now one.served.item)) (is_crashed_item one.sent.frame one.served.item && is_none one.reply) parts.0)) (all_alike now others parts.1)
  where
    by : ((is_item_of one.sent.frame one.served.item && same_replies one.reply (reply_of one.served.session (counted_with commits one.served.item) one.served.item)) ≡ true) ⊎ ((is_crashed_item one.sent.frame one.served.item && is_none one.reply) ≡ true) → handled_alike one ≡ true
    by (inl ordinary) = item_alike one.sent.frame one.served.item (and_parts (is_item_of one.sent.frame one.served.item) _ ordinary).0
    by (inr crashed) = crashed_alike one.sent.frame one.served.item (and_parts (is_crashed_item one.sent.frame one.served.item) _ crashed).0

-- SESSIONS ----------------------------------------------------------------------------------------

pub told_sessions : (steps : List Step) (session : SessionId) → reaches steps session ≡ true → list_any (same_session session) (filter_map (λ (done : Done). reached done.input) (map (λ (step : Step). step.done) steps)) ≡ true
told_sessions [] session any = absurd (let none : ⊥ = cc in none)
told_sessions (step ∷ steps) session any = by (reached step.done.input) any (told_sessions steps session)
  where
    rest : List SessionId
    rest = filter_map (λ (done : Done). reached done.input) (map (λ (s : Step). s.done) steps)

    by : (found : Option SessionId) → (option_map_or (same_session session) found false || reaches steps session) ≡ true → (reaches steps session ≡ true → list_any (same_session session) rest ≡ true) → list_any (same_session session) (cons_option found rest) ≡ true
    by None any later = later any
    by (Some one) any later = of (or_cases (same_session session one) (reaches steps session) any)
      where
        of : (same_session session one ≡ true) ⊎ (reaches steps session ≡ true) → (same_session session one || list_any (same_session session) rest) ≡ true
        of (inl here) = or_left (same_session session one) (list_any (same_session session) rest) here
        of (inr more) = or_right (same_session session one) (list_any (same_session session) rest) (later more)

pub pointwise_any : (session : SessionId) (told reported : List SessionId) → pointwise same_session told reported ≡ true → list_any (same_session session) told ≡ true → list_any (same_session session) reported ≡ true
pointwise_any session [] reported same any = absurd (let none : ⊥ = cc in none)
pointwise_any session (a ∷ told) [] same any = absurd (let none : ⊥ = cc in none)
pointwise_any session (a ∷ told) (b ∷ reported) same any = by (or_cases (same_session session a) (list_any (same_session session) told) any) (λ more. pointwise_any session told reported parts.1 more)
  where
    parts : (same_session a b ≡ true) × (pointwise same_session told reported ≡ true)
    parts = and_parts (same_session a b) (pointwise same_session told reported) same

    by : (same_session session a ≡ true) ⊎ (list_any (same_session session) told ≡ true) → (list_any (same_session session) told ≡ true → list_any (same_session session) reported ≡ true) → (same_session session b || list_any (same_session session) reported) ≡ true
    by (inl here) later = or_left (same_session session b) (list_any (same_session session) reported) (ap (same_session session) (sym (same_session_is a b parts.0)) ∙ here)
    by (inr more) later = or_right (same_session session b) (list_any (same_session session) reported) (later more)

-- ONE CONNECTION ----------------------------------------------------------------------------------

none_all : {A : Type 0} (test : A → Bool) (xs : List A) → list_any test xs ≡ false → list_all (λ x. not (test x)) xs ≡ true
none_all test [] none = refl
none_all test (x ∷ xs) none = by (test x) none (none_all test xs)
  where
    by : (b : Bool) → (b || list_any test xs) ≡ false → (list_any test xs ≡ false → list_all (λ y. not (test y)) xs ≡ true) → (not b && list_all (λ y. not (test y)) xs) ≡ true
    by true none rest = absurd (let never : ⊥ = cc in never)
    by false none rest = rest none

pub mine_talks : (course : Course) (sents : List Sent) → list_any (is_mine course) sents ≡ true → has_spoken course.owner sents ≡ true
mine_talks course [] any = absurd (let none : ⊥ = cc in none)
mine_talks course (sent ∷ sents) any = by (or_cases (is_mine course sent) (list_any (is_mine course) sents) any) (λ later. mine_talks course sents later)
  where
    call_talks : (frame : Up) → is_call frame ≡ true → (talks : Up → Bool) → ((replay : Bool) (kept : List Draw) (call : Call) → talks (up.Call replay kept call) ≡ true) → talks frame ≡ true
    call_talks (up.Call replay kept call) is talks so = so replay kept call
    call_talks frame is talks so = absurd (let none : ⊥ = cc in none)

    by : (is_mine course sent ≡ true) ⊎ (list_any (is_mine course) sents ≡ true) → (list_any (is_mine course) sents ≡ true → has_spoken course.owner sents ≡ true) → (talks_of course.owner sent || has_spoken course.owner sents) ≡ true
    by (inl here) again =
        let parts = and_parts (owned_by course.owner sent) (is_call sent.frame) here in
        or_left (talks_of course.owner sent) (has_spoken course.owner sents) (and_from (owned_by course.owner sent) (is_talk sent.frame) parts.0 (call_talks sent.frame parts.1 is_talk (λ replay kept call. refl)))
    by (inr later) again = or_right (talks_of course.owner sent) (has_spoken course.owner sents) (again later)

module _ (digest : List Answer → List ℕ) (course : Course) (digests : (seen now : List Answer) → do_not_clash seen now ≡ (not (bytes_eq (digest seen) (digest now)) || same_answers seen now)) where
  -- what is known of one call that was served
  abbrev known : Link → Handled → Bool
  known link one = does_not_clash course.request course.report one.served && (option_map_or (same_session one.served.session) link.session false && (follows course one.sent && handled_alike one))

  module _ (link : Link) (told : list_any (is_mine course) link.sent ≡ true → (session : SessionId) → link.session ≡ Some session → list_any (same_session session) course.report.sessions ≡ true) (spoken : list_any (is_mine course) link.sent ≡ true) where
    one_clash_not : (one : Handled) → known link one ≡ true → is_no_clash digest course one ≡ true
    one_clash_not one all = of (owned_by course.owner one.sent) refl
      where
        first : (does_not_clash course.request course.report one.served ≡ true) × ((option_map_or (same_session one.served.session) link.session false && (follows course one.sent && handled_alike one)) ≡ true)
        first = and_parts (does_not_clash course.request course.report one.served) (option_map_or (same_session one.served.session) link.session false && (follows course one.sent && handled_alike one)) all

        second : (option_map_or (same_session one.served.session) link.session false ≡ true) × ((follows course one.sent && handled_alike one) ≡ true)
        second = and_parts (option_map_or (same_session one.served.session) link.session false) (follows course one.sent && handled_alike one) first.1

        third : (follows course one.sent ≡ true) × (handled_alike one ≡ true)
        third = and_parts (follows course one.sent) (handled_alike one) second.1

        its_session : list_any (same_session one.served.session) course.report.sessions ≡ true
        its_session = by link.session refl second.0
          where
            by : (found : Option SessionId) → link.session ≡ found → option_map_or (same_session one.served.session) found false ≡ true → list_any (same_session one.served.session) course.report.sessions ≡ true
            by None is same = absurd (let none : ⊥ = cc in none)
            by (Some session) is same =
                subst (λ (s : SessionId). list_any (same_session s) course.report.sessions ≡ true) (sym (same_session_is one.served.session session same)) (told spoken session is)

        scripts_call : (own : owned_by course.owner one.sent ≡ true) (frame : Up) (call : Call) → is_call frame ≡ true → implies (owned_by course.owner one.sent && is_call frame) (is_scripts course one.sent frame) ≡ true → is_scripts course one.sent frame ≡ true
        scripts_call own frame call is so = implied (owned_by course.owner one.sent && is_call frame) (is_scripts course one.sent frame) (and_from (owned_by course.owner one.sent) (is_call frame) own is) so

        replayed_so : (served : Call) (answers : List Answer) → calls_do_not_clash (filter (λ (r : Replayed). list_any (same_session r.session) course.report.sessions) (record { session = one.served.session; call = served; answers = answers } ∷ [])) course.request.calls course.report.calls ≡ true
            → calls_do_not_clash (record { session = one.served.session; call = served; answers = answers } ∷ []) course.request.calls course.report.calls ≡ true
        replayed_so served answers so = by (list_any (same_session one.served.session) course.report.sessions) its_session so
          where
            it : Replayed
            it = record { session = one.served.session; call = served; answers = answers }

            by : (test : Bool) → test ≡ true → calls_do_not_clash (if test then it ∷ [] else []) course.request.calls course.report.calls ≡ true → calls_do_not_clash (it ∷ []) course.request.calls course.report.calls ≡ true
            by true is so = so
            by false is so = absurd (let none : ⊥ = cc in none)

        by_item : owned_by course.owner one.sent ≡ true → (frame : Up) (it : Item) → one.served.item ≡ it → calls_alike frame it ≡ true → implies (owned_by course.owner one.sent && is_call frame) (is_scripts course one.sent frame) ≡ true
            → calls_do_not_clash (served_by course.report.sessions (replayed_by one.served.session it)) course.request.calls course.report.calls ≡ true → (seen : ShownCall) → slice_get course.report.calls one.sent.call ≡ Some seen → clashes_not digest seen it ≡ true
        by_item own (up.Call replay kept call) (item.Call true served answers draws) is alike script so seen at =
            script_at (slice_get course.request.calls one.sent.call) refl (scripts_call own (up.Call replay kept call) call refl script)
          where
            script_at : (found : Option Call) → slice_get course.request.calls one.sent.call ≡ found → option_map_or (same_call call) found false ≡ true → clashes_not digest seen (item.Call true served answers draws) ≡ true
            script_at None found same = absurd (let none : ⊥ = cc in none)
            script_at (Some script_call) found same =
                let one_call : served ≡ call = (same_call_decides served call).0 alike in
                let other : same_call served script_call ≡ true = ap (λ (c : Call). same_call c script_call) one_call ∙ same in
                sym (digests seen.answers answers)
                ∙ at_index (record { session = one.served.session; call = served; answers = answers }) course.request.calls course.report.calls one.sent.call script_call seen (replayed_so served answers so) found at other
        by_item own frame (item.Call true served answers draws) is alike script so seen at = absurd (let none : ⊥ = cc in none)
        by_item own frame it is alike script so seen at = refl

        shown_at : owned_by course.owner one.sent ≡ true → (found : Option ShownCall) → slice_get course.report.calls one.sent.call ≡ found → option_map_or (λ shown. clashes_not digest shown one.served.item) found true ≡ true
        shown_at own None at = refl
        shown_at own (Some seen) at = by_item own one.sent.frame one.served.item refl third.1 third.0 first.0 seen at

        of : (own : Bool) → owned_by course.owner one.sent ≡ own → implies own (option_map_or (λ shown. clashes_not digest shown one.served.item) (slice_get course.report.calls one.sent.call) true) ≡ true
        of false is = refl
        of true is = shown_at is (slice_get course.report.calls one.sent.call) refl

  -- a connection on which the request sent no call served none of it
  silent_clash_not : (one : Handled) → (not (is_mine course one.sent) && handled_alike one) ≡ true → is_no_clash digest course one ≡ true
  silent_clash_not one both = of (owned_by course.owner one.sent) refl parts.0
    where
      parts : (not (is_mine course one.sent) ≡ true) × (handled_alike one ≡ true)
      parts = and_parts (not (is_mine course one.sent)) (handled_alike one) both

      by_item : (frame : Up) (it : Item) → calls_alike frame it ≡ true → not (true && is_call frame) ≡ true → (found : Option ShownCall) → option_map_or (λ shown. clashes_not digest shown it) found true ≡ true
      by_item (up.Call replay kept call) (item.Call true served answers draws) alike silent found = absurd (let none : ⊥ = cc in none)
      by_item frame (item.Call true served answers draws) alike silent found = absurd (let none : ⊥ = cc in none)
      by_item frame it alike silent None = refl
      by_item frame it alike silent (Some seen) = refl

      of : (own : Bool) → owned_by course.owner one.sent ≡ own → not (own && is_call one.sent.frame) ≡ true → implies own (option_map_or (λ shown. clashes_not digest shown one.served.item) (slice_get course.report.calls one.sent.call) true) ≡ true
      of false is silent = refl
      of true is silent = by_item one.sent.frame one.served.item parts.1 silent (slice_get course.report.calls one.sent.call)

  module _ (link : Link) (sent : is_sent_front link ≡ true) (handled : handled_from 0 link.served ≡ true) (named : is_named link ≡ true) (scripts : list_all (λ (s : Sent). is_scripts course s s.frame) (calls_on course link) ≡ true)
      (items : list_all (λ (one : Handled). does_not_clash course.request course.report one.served) link.served ≡ true)
      (told : list_any (is_mine course) link.sent ≡ true → (session : SessionId) → link.session ≡ Some session → list_any (same_session session) course.report.sessions ≡ true) where
    sents : List Sent
    sents = map (λ one. one.sent) link.served

    front : is_front same_sent (map (λ one. one.sent) link.served) link.sent ≡ true
    front = front_begun same_sent (map (λ one. one.sent) link.served) (up_of link) link.sent (record { rest = link.up; whole = refl }) (and_parts (is_front same_sent (up_of link) link.sent) _ sent).0

    of_sents : (test : Sent → Bool) (served : List Handled) → list_all test (map (λ (one : Handled). one.sent) served) ≡ true → list_all (λ (one : Handled). test one.sent) served ≡ true
    of_sents test [] all = refl
    of_sents test (one ∷ others) all = let both = and_parts (test one.sent) (list_all test (map (λ (h : Handled). h.sent) others)) all in and_from (test one.sent) (list_all (λ (h : Handled). test h.sent) others) both.0 (of_sents test others both.1)

    all_follow : list_all (λ (one : Handled). follows course one.sent) link.served ≡ true
    all_follow =
        of_sents (follows course) link.served
        (front_all (follows course) (follows_alike course) (map (λ one. one.sent) link.served) link.sent front (unfiltered (λ (s : Sent). is_scripts course s s.frame) (is_mine course) link.sent scripts))

    all_named : list_all (λ (one : Handled). option_map_or (same_session one.served.session) link.session false) link.served ≡ true
    all_named = (and_parts (list_all (λ (one : Handled). option_map_or (same_session one.served.session) link.session false) link.served) _ (and_parts _ _ (and_parts _ _ named).1).1).0

    pub link_clash_not : list_all (is_no_clash digest course) link.served ≡ true
    link_clash_not = by (list_any (is_mine course) link.sent) refl
      where
        by : (spoken : Bool) → list_any (is_mine course) link.sent ≡ spoken → list_all (is_no_clash digest course) link.served ≡ true
        by true spoken =
            weaker_all (known link) (is_no_clash digest course) link.served (one_clash_not link told spoken)
            (both_all (λ (one : Handled). does_not_clash course.request course.report one.served) (λ (one : Handled). option_map_or (same_session one.served.session) link.session false && (follows course one.sent && handled_alike one)) link.served items
            (both_all (λ (one : Handled). option_map_or (same_session one.served.session) link.session false) (λ (one : Handled). follows course one.sent && handled_alike one) link.served all_named
            (both_all (λ (one : Handled). follows course one.sent) handled_alike link.served all_follow (all_alike 0 link.served handled))))
        by false silent =
            weaker_all (λ (one : Handled). not (is_mine course one.sent) && handled_alike one) (is_no_clash digest course) link.served silent_clash_not
            (both_all (λ (one : Handled). not (is_mine course one.sent)) handled_alike link.served
            (of_sents (λ s. not (is_mine course s)) link.served
            (front_all (λ s. not (is_mine course s)) (λ a b same none. ap not (mine_alike course a b same) ∙ none) (map (λ one. one.sent) link.served) link.sent front (none_all (is_mine course) link.sent silent))) (all_alike 0 link.served handled))
