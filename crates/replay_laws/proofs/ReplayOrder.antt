-- Each call with the mark on a connection repeats, in its place, one of the calls that were shown
-- before the connection was opened.
use Rattle.std.proofs.Common.{◌≡◌, refl, sym, ap, subst, ◌∙◌, Bool, true, false, ℕ, ◌+◌, ◌<◌, ◌≤◌, ◌&&◌, filter, length, List, [], ◌∷◌, ◌++◌, Option, Some, None, ◌⊎◌, inl, inr, if◌then◌else◌, arith}
use Rattle.std.specs.Prelude.{◌==◌, nat_le, nat_lt, slice_get}
use Rattle.std.specs.List.{list_all, list_any}
use Rattle.std.specs.Option.{option_map_or}
use Rattle.std.proofs.lemmas.Bool.{and_parts, or_cases}
use Rattle.std.proofs.lemmas.Bool.Decides.{nat_tests}
use Rattle.svc_values.specs.declared.frame.Up.{Up}
use Rattle.svc_values.specs.declared.frame.Up.TheVariants as up
use Rattle.svc_values.specs.meaning.Same.{same_bool}
use Rattle.svc_values.specs.SameLaws.{same_bool_decides}
use Rattle.outage_schedule.specs.declared.request.RequestReport.{RequestReport}
use Rattle.outage_schedule.specs.declared.request.ShownCall.{ShownCall}
use Rattle.invariant_laws.specs.Begins.{is_begin_frame, begin_in, follows_begin, followed_at_once, begins_followed}
use Rattle.world_model.specs.meaning.Clients.{Step}
use Rattle.invariant_laws.specs.FirstCalls.{is_behind_decided, begins_behind, begins_on}
use Rattle.world_model.specs.meaning.Frames.{Sent}
use Rattle.invariant_laws.specs.Invariant.{Invariant}
use Rattle.invariant_laws.specs.KeptLaws.{RunsKeepInvariant}
use Rattle.world_model.specs.meaning.Links.{Link, link_at}
use Rattle.world_model.specs.Parts.{implies}
use Rattle.invariant_laws.specs.Replayed.{shown_at, is_repeated, before_opening, is_from_opening, RunsReplayShown, IsRepeat, RunsRepeatInOrder}
use Rattle.world_model.specs.Sames.{is_of, owned_by, same_owners}
use Rattle.world_model.specs.records.Script.{recorded_from}
use Rattle.invariant_laws.specs.Shown.{calls_on, first_of, in_row, is_call, is_current, is_marked, is_row, rows_on}
use Rattle.world_model.specs.Traced.{Traced, Course, courses_of}
use Rattle.world_model.specs.records.Wire.{New, stage_of, is_right}
use Rattle.world_model.specs.Words.{held_in}
use Rattle.world_model.proofs.Offered.{at_link, courses_talk}
use Rattle.replay_laws.proofs.MarkedFronts.{walks, AllMarks, OneMark, MarkedFront, marked_front}
use Rattle.replay_laws.proofs.ReplayFirsts.{one_of}
use Rattle.replay_laws.proofs.ReplayRows.{is_behind, Before, opening_before, shown_behind, marks_owned, filtered, row_place, number_is}

-- LISTS -------------------------------------------------------------------------------------------

abbrev head_of : List Sent → Sent → Sent
head_of [] sent = sent
head_of (first ∷ marks) sent = first

head_first : (marks : List Sent) (sent : Sent) (more : List Sent) → first_of (marks ++ sent ∷ more) ≡ Some (head_of marks sent)
head_first [] sent more = refl
head_first (first ∷ marks) sent more = refl

-- what follows the first
record Splits (xs : List Sent) (first : Sent) : Type 0 where
  more : List Sent
  is : xs ≡ first ∷ more

head_splits : (marks : List Sent) (sent : Sent) (rest : List Sent) → Splits (marks ++ sent ∷ rest) (head_of marks sent)
head_splits [] sent rest = record { more = rest; is = refl }
head_splits (first ∷ marks) sent rest = record { more = marks ++ sent ∷ rest; is = refl }

head_marked : (one : Option _) (marks : List Sent) (sent : Sent) → AllMarks one (marks ++ sent ∷ []) → is_marked (head_of marks sent).frame ≡ true
head_marked _ [] sent (OneMark one _ _ marked same more) = marked
head_marked _ (first ∷ marks) sent (OneMark one _ _ marked same more) = marked

get_there : (front : List Sent) (sent : Sent) (rest : List Sent) → slice_get (front ++ sent ∷ rest) (length front) ≡ Some sent
get_there [] sent rest = refl
get_there (first ∷ front) sent rest = get_there front sent rest

held_there : (test : ℕ → Bool) (numbers : List ℕ) (number : ℕ) → list_all test numbers ≡ true → list_any (λ other. other == number) numbers ≡ true → test number ≡ true
held_there test [] number all any = absurd (let none : ⊥ = cc in none)
held_there test (first ∷ numbers) number all any =
    let parts = and_parts (test first) (list_all test numbers) all in by parts.0 (λ later. held_there test numbers number parts.1 later) (or_cases (first == number) (list_any (λ other. other == number) numbers) any)
  where
    by : test first ≡ true → (list_any (λ other. other == number) numbers ≡ true → test number ≡ true) → ((first == number) ≡ true) ⊎ (list_any (λ other. other == number) numbers ≡ true) → test number ≡ true
    by here later (inl is) = subst (λ (n : ℕ). test n ≡ true) (number_is first number is) here
    by here later (inr is) = later is

-- the call right behind a Begin
follows : (c o g f : Sent) (more : List Sent) → is_begin_frame c.frame ≡ false → is_begin_frame o.frame ≡ false → is_begin_frame g.frame ≡ true → followed_at_once None (c ∷ o ∷ g ∷ f ∷ more) ≡ true → follows_begin g f ≡ true
follows c o g f more one two three is =
    let first : followed_at_once None (o ∷ g ∷ f ∷ more) ≡ true = ap (λ (test : Bool). followed_at_once (if test then Some c else None) (o ∷ g ∷ f ∷ more)) (sym one) ∙ is in
    let second : followed_at_once None (g ∷ f ∷ more) ≡ true = ap (λ (test : Bool). followed_at_once (if test then Some o else None) (g ∷ f ∷ more)) (sym two) ∙ first in
    let third : (follows_begin g f && followed_at_once (begin_in f) more) ≡ true = ap (λ (test : Bool). followed_at_once (if test then Some g else None) (f ∷ more)) (sym three) ∙ second in
    (and_parts (follows_begin g f) (followed_at_once (begin_in f) more) third).0

and_false : (test : Bool) → (test && false) ≡ false
and_false true = refl
and_false false = refl

dropped : (keep : Sent → Bool) (x : Sent) (xs : List Sent) → keep x ≡ false → filter keep (x ∷ xs) ≡ filter keep xs
dropped keep x xs not = ap (λ (test : Bool). if test then x ∷ filter keep xs else filter keep xs) not

kept_one : (keep : Sent → Bool) (x : Sent) (xs : List Sent) → keep x ≡ true → filter keep (x ∷ xs) ≡ x ∷ filter keep xs
kept_one keep x xs is = ap (λ (test : Bool). if test then x ∷ filter keep xs else filter keep xs) is

marked_call : (frame : Up) → is_marked frame ≡ true → is_call frame ≡ true
marked_call (up.Call replay kept call) is = refl
marked_call up.Connect is = absurd (let none : ⊥ = cc in none)
marked_call (up.Begin settings) is = absurd (let none : ⊥ = cc in none)
marked_call (up.Outcome x) is = absurd (let none : ⊥ = cc in none)
marked_call up.End is = absurd (let none : ⊥ = cc in none)
marked_call up.Close is = absurd (let none : ⊥ = cc in none)

-- of a request: what it was shown is what its report has
behind_same : (t : Traced) (inv : Invariant t) (call place : ℕ) (course : Course) → slice_get (courses_of t) place ≡ Some course → is_behind_decided course.report.calls call ≡ is_behind_decided (shown_at t.setting.terms course.request course.steps) call
behind_same t inv call place course at =
    (same_bool_decides (is_behind_decided course.report.calls call) (is_behind_decided (shown_at t.setting.terms course.request course.steps) call)).0
    (one_of (λ (c : Course). same_bool (is_behind_decided c.report.calls call) (is_behind_decided (shown_at t.setting.terms c.request c.steps) call)) (courses_of t) place course
    (courses_talk (λ (c : Course). same_bool (is_behind_decided c.report.calls call) (is_behind_decided (shown_at t.setting.terms c.request c.steps) call)) t
    (λ client k past through. self (is_behind_decided past.report.calls call) _ (ap (λ (r : RequestReport). is_behind_decided r.calls call) (sym through.reported)))
    (λ client k doing talks. self (is_behind_decided (shown_at t.setting.terms doing.request doing.steps) call) (is_behind_decided (shown_at t.setting.terms doing.request doing.steps) call) refl) inv.orderly.script.talks) at)
  where
    self : (a b : Bool) → a ≡ b → same_bool a b ≡ true
    self a b same = (same_bool_decides a b).1 same

module _ (t : Traced) (inv : Invariant t) (place : ℕ) (course : Course) (at : slice_get (courses_of t) place ≡ Some course) (number : ℕ) (link : Link) (there : link_at t.machine.links number ≡ Some link)
    (held : list_any (λ other. other == number) (held_in course.steps) ≡ true) (front : List Sent) (sent : Sent) (rest : List Sent) (all : link.sent ≡ front ++ sent ∷ rest) (owned : owned_by course.owner sent ≡ true) (marked : is_marked sent.frame ≡ true)
    (each : (index : ℕ) (s : Sent) → slice_get link.sent index ≡ Some s → owned_by course.owner s ≡ true → is_marked s.frame ≡ true → is_from_opening t.setting.terms course number s.call ≡ true) where
  stands : MarkedFront front sent
  stands = marked_front sent rest marked front (ap (λ (sents : List Sent). is_right (walks New sents)) (sym all) ∙ at_link (λ (l : Link). is_right (stage_of l)) t.machine.links number link inv.orderly.wire.grammar there)

  owners : (is_of course.owner stands.begin.owner ≡ true) × (list_all (λ (s : Sent). owned_by course.owner s && is_call s.frame) stands.marks ≡ true)
  owners = marks_owned course.owner stands.begin.owner stands.marks sent stands.are owned

  abbrev first : Sent
  first = head_of stands.marks sent

  splits : Splits (stands.marks ++ sent ∷ rest) first
  splits = head_splits stands.marks sent rest

  in_front : link.sent ≡ stands.connect ∷ stands.outcome ∷ stands.begin ∷ (stands.marks ++ sent ∷ rest)
  in_front = all ∙ ap (λ (f : List Sent). f ++ sent ∷ rest) stands.all

  whole : link.sent ≡ stands.connect ∷ stands.outcome ∷ stands.begin ∷ first ∷ splits.more
  whole = in_front ∙ ap (λ (xs : List Sent). stands.connect ∷ stands.outcome ∷ stands.begin ∷ xs) splits.is

  first_owned : owned_by course.owner first ≡ true
  first_owned = by stands.marks owners.1
    where
      by : (marks : List Sent) → list_all (λ (s : Sent). owned_by course.owner s && is_call s.frame) marks ≡ true → owned_by course.owner (head_of marks sent) ≡ true
      by [] so = owned
      by (one ∷ marks) so = (and_parts (owned_by course.owner one) (is_call one.frame) (and_parts (owned_by course.owner one && is_call one.frame) (list_all (λ (s : Sent). owned_by course.owner s && is_call s.frame) marks) so).0).0

  -- the first call has the index of its Begin, which is behind a decided call
  with_begin : first.call ≡ stands.begin.call
  with_begin =
      let so : follows_begin stands.begin first ≡ true =
      follows stands.connect stands.outcome stands.begin first splits.more (ap is_begin_frame stands.connects) (ap is_begin_frame stands.asks) (ap is_begin_frame stands.begins)
      (ap (followed_at_once None) (sym whole) ∙ at_link begins_followed t.machine.links number link inv.followed there) in
      number_is first.call stands.begin.call (and_parts (first.call == stands.begin.call) (same_owners stands.begin.owner first.owner) (and_parts (is_call first.frame) ((first.call == stands.begin.call) && same_owners stands.begin.owner first.owner) so).1).0

  decided : is_behind_decided course.report.calls first.call ≡ true
  decided =
      let on : begins_on course link ≡ true =
      at_link (begins_on course) t.machine.links number link (one_of (λ (c : Course). list_all (begins_on c) t.machine.links) (courses_of t) place course inv.decided at) there in
      let here : implies (owned_by course.owner stands.begin) (begins_behind course.report.calls stands.begin.call stands.begin.frame) ≡ true =
      one_of (λ (s : Sent). implies (owned_by course.owner s) (begins_behind course.report.calls s.call s.frame)) link.sent 2 stands.begin on (ap (λ (xs : List Sent). slice_get xs 2) whole) in
      ap (is_behind_decided course.report.calls) with_begin
      ∙ (ap (λ (f : Up). begins_behind course.report.calls stands.begin.call f) (sym stands.begins)
      ∙ subst (λ (mine : Bool). implies mine (begins_behind course.report.calls stands.begin.call stands.begin.frame) ≡ true) owners.0 here)

  -- its calls there
  abbrev keep : Sent → Bool
  keep s = owned_by course.owner s && is_call s.frame

  calls_are : calls_on course link ≡ stands.marks ++ sent ∷ filter keep rest
  calls_are =
      ap (filter keep) in_front
      ∙ dropped keep stands.connect (stands.outcome ∷ stands.begin ∷ (stands.marks ++ sent ∷ rest)) (ap (λ (f : Up). owned_by course.owner stands.connect && is_call f) stands.connects ∙ and_false (owned_by course.owner stands.connect))
      ∙ dropped keep stands.outcome (stands.begin ∷ (stands.marks ++ sent ∷ rest)) (ap (λ (f : Up). owned_by course.owner stands.outcome && is_call f) stands.asks ∙ and_false (owned_by course.owner stands.outcome))
      ∙ dropped keep stands.begin (stands.marks ++ sent ∷ rest) (ap (λ (f : Up). owned_by course.owner stands.begin && is_call f) stands.begins ∙ and_false (owned_by course.owner stands.begin))
      ∙ filtered keep stands.marks (sent ∷ rest) owners.1
      ∙ ap (λ (xs : List Sent). stands.marks ++ xs) (kept_one keep sent rest (ap (λ (mine : Bool). mine && is_call sent.frame) owned ∙ marked_call sent.frame marked))

  row : in_row first.call (stands.marks ++ sent ∷ filter keep rest) ≡ true
  row =
      let on : is_row course (is_current course number) (calls_on course link) ≡ true =
      subst (λ (found : Option Link). option_map_or (λ (l : Link). is_row course (is_current course number) (calls_on course l)) found false ≡ true) there
      (held_there (λ n. option_map_or (λ (l : Link). is_row course (is_current course n) (calls_on course l)) (link_at t.machine.links n) false) (held_in course.steps) number
      (one_of (rows_on t) (courses_of t) place course inv.shown.rows at) held) in
      let so : in_row (option_map_or (λ (s : Sent). s.call) (first_of (calls_on course link)) 0) (calls_on course link) ≡ true = (and_parts (in_row (option_map_or (λ (s : Sent). s.call) (first_of (calls_on course link)) 0) (calls_on course link)) _ on).0 in
      ap (λ (found : Option Sent). in_row (option_map_or (λ (s : Sent). s.call) found 0) (stands.marks ++ sent ∷ filter keep rest)) (sym (head_first stands.marks sent (filter keep rest)))
      ∙ ap (λ (calls : List Sent). in_row (option_map_or (λ (s : Sent). s.call) (first_of calls) 0) calls) (sym calls_are) ∙ so

  le_from : (a b : ℕ) → nat_le a b ≡ true → a ≤ b
  le_from a b is = grind (arith, nat_tests)

  lt_from : (a b : ℕ) → nat_lt a b ≡ true → a < b
  lt_from a b is = grind (arith, nat_tests)

  pub in_order : IsRepeat t.setting.terms course number front sent
  in_order =
      by (before_opening number [] course.steps) refl (each 3 first (ap (λ (xs : List Sent). slice_get xs 3) whole) first_owned (head_marked stands.begin.owner stands.marks sent stands.are))
      (each (length front) sent (ap (λ (xs : List Sent). slice_get xs (length front)) all ∙ get_there front sent rest) owned marked)
    where
      by : (found : Option (List Step)) → before_opening number [] course.steps ≡ found → option_map_or (λ (before : List Step). is_repeated (shown_at t.setting.terms course.request before) first.call) found false ≡ true
          → option_map_or (λ (before : List Step). is_repeated (shown_at t.setting.terms course.request before) sent.call) found false ≡ true → IsRepeat t.setting.terms course number front sent
      by None is one other = absurd (let none : ⊥ = cc in none)
      by (Some before) is one other =
          let shown : List ShownCall = shown_at t.setting.terms course.request before in
          let opening : Before course.steps before = opening_before number [] course.steps before is in
          let more = shown_behind t.setting.terms course.request before opening.rest in
          let its = and_parts (nat_le (recorded_from shown) first.call) (nat_lt first.call (length shown)) one in
          let own = and_parts (nat_le (recorded_from shown) sent.call) (nat_lt sent.call (length shown)) other in
          let behind : is_behind_decided (shown ++ more.0) first.call ≡ true =
          ap (λ (calls : List ShownCall). is_behind_decided calls first.call) (sym (ap (shown_at t.setting.terms course.request) opening.all ∙ more.1)) ∙ (sym (behind_same t inv first.call place course at) ∙ decided) in
          let start : first.call ≡ recorded_from shown = is_behind shown more.0 first.call behind (lt_from first.call (length shown) its.1) (le_from (recorded_from shown) first.call its.0) in
          let placed : sent.call ≡ first.call + length stands.marks = row_place first.call stands.marks sent (filter keep rest) row in
          let three : length front ≡ length stands.marks + 3 = ap (λ (f : List Sent). length f) stands.all ∙ (let so : length (stands.connect ∷ stands.outcome ∷ stands.begin ∷ stands.marks) ≡ length stands.marks + 3 = omega arith in so) in
          record {
            before = before;
            opened = is;
            place = length stands.marks;
            long = three;
            index = placed ∙ ap (λ (n : ℕ). n + length stands.marks) start;
            within = lt_from sent.call (length shown) own.1;
          }

pub runs_repeat_in_order : RunsKeepInvariant → RunsReplayShown → RunsRepeatInOrder
runs_repeat_in_order keeps replays document events notes items seen t calls reached place course at number link there held front sent rest all owned marked =
    in_order t (keeps document events notes items seen t calls reached) place course at number link there held front sent rest all owned marked
    (λ index s among mine mark. replays document events notes items seen t calls reached place course at number link there index s among mine mark)
