-- Each frame with an owner was sent by that request, on a connection that it held, in each event of
-- a run.
use Rattle.std.proofs.Common.{◌≡◌, refl, sym, ap, subst, ◌∙◌, Bool, true, false, ℕ, suc, zero, ◌+◌, ◌&&◌, fold, length, List, [], ◌∷◌, ◌++◌, map, Option, Some, None, arith}
use Rattle.std.specs.Prelude.{◌==◌, unwrap_or}
use Rattle.std.specs.List.{list_all, list_any, cons_option}
use Rattle.std.specs.Option.{option_map_or}
use Rattle.std.proofs.lemmas.Bool.{and_parts, and_from, or_right, or_left}
use Rattle.std.proofs.lemmas.List.Folds.{list_any-append}
use Rattle.std.proofs.lemmas.List.Elements.{filter_map-append}
use Rattle.std.proofs.lemmas.List.Sums.{fold-append}
use Rattle.svc_values.specs.declared.frame.Up.{Up}
use Rattle.client_model.specs.declared.input.Input.{Input}
use Rattle.client_model.specs.declared.input.Input.TheVariants.{Start, Waiting, Lent, Opened, TryFailed, Took, Gone}
use Rattle.world_model.specs.meaning.Settings.{Setting}
use Rattle.world_model.specs.meaning.Acting.{sent_by, owner_at}
use Rattle.world_model.specs.meaning.Clients.{Step, Client}
use Rattle.world_model.specs.records.Conversing.{AllTalk, connected, connection_after}
use Rattle.world_model.specs.meaning.Frames.{Owner, Sent}
use Rattle.world_model.specs.OrderlyLaws.{IsKept}
use Rattle.world_model.specs.meaning.Links.{Link}
use Rattle.world_model.specs.meaning.Machines.{Machine}
use Rattle.world_model.specs.meaning.Outside.{closed_by_drain}
use Rattle.world_model.specs.Sames.{same_owner}
use Rattle.world_model.specs.records.Script.{is_held_by, owned_rightly, are_owned}
use Rattle.world_model.specs.Traced.{Course, courses_of_clients}
use Rattle.world_model.specs.Words.{brought, held_in}
use Rattle.world_model.proofs.events.AllLists.{append_all, weaker_all}
use Rattle.world_model.proofs.events.ClientSteps.{HasStepped, Grows, AsBefore, OneMore, MayStep, Still, Closed, Stepped, happens_step}
use Rattle.world_model.proofs.events.CoursesGrow.{HasMore, some_step, some_mine}
use Rattle.world_model.proofs.events.Happened.{Followed, follow_happens, at_event}
use Rattle.world_model.proofs.wire.SameSelf.{owner_self}
use Rattle.world_model.proofs.wire.SentLists.{sent_lists, spoken_at, spoken}
use Rattle.world_model.proofs.events.StepFacts.{first_step, step_owner, before_talks, behind_first}
use Rattle.world_model.proofs.events.Tests.{eq_to}

-- HELD --------------------------------------------------------------------------------------------

-- it is among those that the request held
abbrev pub was_held : ℕ → List Step → Bool
was_held number steps = list_any (λ other. other == number) (held_in steps)

pub held_more : (number : ℕ) (steps later : List Step) → was_held number steps ≡ true → was_held number (steps ++ later) ≡ true
held_more number steps later is =
    ap (λ (numbers : List ℕ). list_any (λ other. other == number) numbers) (filter_map-append (λ (step : Step). brought step.done.input) steps later)
    ∙ (list_any-append (λ other. other == number) (held_in steps) (held_in later) ∙ or_left (list_any (λ other. other == number) (held_in steps)) (list_any (λ other. other == number) (held_in later)) is)

abbrev left_by : Option ℕ → List Step → Option ℕ
left_by had steps = fold (λ (had : Option ℕ) (step : Step). connected had step.done.input) had steps

abbrev IsOther : Option ℕ → ℕ → Type 0
IsOther had number = (one : ℕ) → had ≡ Some one → one ≡ number → ⊥

step_held : (had : Option ℕ) (number : ℕ) (step : Step) (steps : List Step) → IsOther had number → left_by (connected had step.done.input) steps ≡ Some number
    → ((next : Option ℕ) → IsOther next number → left_by next steps ≡ Some number → was_held number steps ≡ true) → was_held number (step ∷ steps) ≡ true
step_held had number step steps none is later = by step.done.input refl
  where
    rest : (found : Option ℕ) → brought step.done.input ≡ found → was_held number (step ∷ steps) ≡ list_any (λ other. other == number) (cons_option found (held_in steps))
    rest found same = ap (λ (found : Option ℕ). list_any (λ other. other == number) (cons_option found (held_in steps))) same

    led : (next : Option ℕ) → connected had step.done.input ≡ next → left_by next steps ≡ Some number
    led next same = ap (λ (had : Option ℕ). left_by had steps) (sym same) ∙ is

    other : (connection : ℕ) → (connection == number) ≡ false → IsOther (Some connection) number
    other connection differs one is_it same =
        let first : connection ≡ one = cc in
        let yes_is : (connection == number) ≡ true = eq_to connection number (first ∙ same) in
        let never : ⊥ = cc in never

    here : (connection : ℕ) → brought step.done.input ≡ Some connection → connected had step.done.input ≡ Some connection → was_held number (step ∷ steps) ≡ true
    here connection brings leads = one (connection == number) refl
      where
        one : (test : Bool) → (connection == number) ≡ test → was_held number (step ∷ steps) ≡ true
        one true same = rest (Some connection) brings ∙ or_left (connection == number) (was_held number steps) same
        one false differs = rest (Some connection) brings ∙ or_right (connection == number) (was_held number steps) (later (Some connection) (other connection differs) (led (Some connection) leads))

    stays : brought step.done.input ≡ None → (next : Option ℕ) → connected had step.done.input ≡ next → IsOther next number → was_held number (step ∷ steps) ≡ true
    stays brings next leads none = rest None brings ∙ later next none (led next leads)

    by : (input : Input) → step.done.input ≡ input → was_held number (step ∷ steps) ≡ true
    by Start is = stays (ap brought is) had (ap (connected had) is) none
    by Waiting is = stays (ap brought is) had (ap (connected had) is) none
    by (Lent connection ltxid) is = here connection (ap brought is) (ap (connected had) is)
    by (Opened connection) is = here connection (ap brought is) (ap (connected had) is)
    by TryFailed is = stays (ap brought is) had (ap (connected had) is) none
    by (Took frame alive) is = stays (ap brought is) had (ap (connected had) is) none
    by (Gone event) is = stays (ap brought is) None (ap (connected had) is) (λ one never. absurd (let none : ⊥ = cc in none))

-- the connection that is left by the inputs was brought by one
pub left_held : (had : Option ℕ) (number : ℕ) (steps : List Step) → IsOther had number → left_by had steps ≡ Some number → was_held number steps ≡ true
left_held had number [] none is = absurd (none number is refl)
left_held had number (step ∷ steps) none is = step_held had number step steps none is (λ next none is. left_held next number steps none is)

-- FRAMES ------------------------------------------------------------------------------------------

module _ (courses : List Course) where
  abbrev owns : ℕ → Sent → Bool
  owns number sent = option_map_or (is_held_by courses number) sent.owner true

  abbrev pub owned_lists : ℕ → List (List Sent) → Bool
  owned_lists number [] = true
  owned_lists number (sent ∷ lists) = list_all (owns number) sent && owned_lists (number + 1) lists

  by_lists : (number : ℕ) (links : List Link) → owned_rightly courses number links ≡ owned_lists number (sent_lists links)
  by_lists number [] = refl
  by_lists number (link ∷ links) = ap (λ (rest : Bool). list_all (owns number) link.sent && rest) (by_lists (number + 1) links)

  owned_more : (number : ℕ) (lists : List (List Sent)) → owned_lists number lists ≡ true → owned_lists number (lists ++ [] ∷ []) ≡ true
  owned_more number [] all = refl
  owned_more number (sent ∷ lists) all =
      let parts = and_parts (list_all (owns number) sent) (owned_lists (number + 1) lists) all in
      and_from (list_all (owns number) sent) (owned_lists (number + 1) (lists ++ [] ∷ [])) parts.0 (owned_more (number + 1) lists parts.1)

  spoken_owned_at : (start : ℕ) (lists : List (List Sent)) (index number : ℕ) (frames : List Sent) → number ≡ start + index → owned_lists start lists ≡ true → list_all (owns number) frames ≡ true → owned_lists start (spoken_at lists index frames) ≡ true
  spoken_owned_at start [] index number frames same all said = all
  spoken_owned_at start (sent ∷ lists) zero number frames same all said =
      let here : number ≡ start = omega arith in
      let parts = and_parts (list_all (owns start) sent) (owned_lists (start + 1) lists) all in
      and_from (list_all (owns start) (sent ++ frames)) (owned_lists (start + 1) lists) (append_all (owns start) sent frames parts.0 (subst (λ (k : ℕ). list_all (owns k) frames ≡ true) here said)) parts.1
  spoken_owned_at start (sent ∷ lists) (suc index) number frames same all said =
      let next : number ≡ (start + 1) + index = omega arith in
      let parts = and_parts (list_all (owns start) sent) (owned_lists (start + 1) lists) all in
      and_from (list_all (owns start) sent) (owned_lists (start + 1) (spoken_at lists index frames)) parts.0 (spoken_owned_at (start + 1) lists index number frames next parts.1 said)

  spoken_owned : (lists : List (List Sent)) (number : ℕ) (frames : List Sent) → owned_lists 1 lists ≡ true → list_all (owns number) frames ≡ true → owned_lists 1 (spoken lists number frames) ≡ true
  spoken_owned lists zero frames all said = all
  spoken_owned lists (suc index) frames all said = let same : suc index ≡ 1 + index = omega arith in spoken_owned_at 1 lists index (suc index) frames same all said

  each_owned : (frames : List Sent) (lists : List (List Sent)) (numbers : List ℕ) → ((number : ℕ) → list_all (owns number) frames ≡ true) → owned_lists 1 lists ≡ true
      → owned_lists 1 (fold (λ (all : List (List Sent)) (number : ℕ). spoken all number frames) lists numbers) ≡ true
  each_owned frames lists [] said all = all
  each_owned frames lists (number ∷ numbers) said all = each_owned frames (spoken lists number frames) numbers said (spoken_owned lists number frames all (said number))

  grown_owned : (lists later : List (List Sent)) → Grows lists later → owned_lists 1 lists ≡ true → owned_lists 1 later ≡ true
  grown_owned lists _ AsBefore all = all
  grown_owned lists _ OneMore all = owned_more 1 lists all

  said_owned : (number : ℕ) (owner : Owner) (call : ℕ) (frames : List Up) → is_held_by courses number owner ≡ true → list_all (owns number) (map (sent_by owner call) frames) ≡ true
  said_owned number owner call [] here = refl
  said_owned number owner call (frame ∷ frames) here = and_from (is_held_by courses number owner) (list_all (owns number) (map (sent_by owner call) frames)) here (said_owned number owner call frames here)

-- held by a request before, and so now
still_owned : (courses later : List Course) → ((number : ℕ) (owner : Owner) → is_held_by courses number owner ≡ true → is_held_by later number owner ≡ true) → (number : ℕ) (lists : List (List Sent)) → owned_lists courses number lists ≡ true
    → owned_lists later number lists ≡ true
still_owned courses later keeps number [] all = refl
still_owned courses later keeps number (sent ∷ lists) all =
    let parts = and_parts (list_all (owns courses number) sent) (owned_lists courses (number + 1) lists) all in
    and_from (list_all (owns later number) sent) (owned_lists later (number + 1) lists) (weaker_all (owns courses number) (owns later number) sent (λ one here. by one.owner here) parts.0) (still_owned courses later keeps (number + 1) lists parts.1)
  where
    by : (owner : Option Owner) → option_map_or (is_held_by courses number) owner true ≡ true → option_map_or (is_held_by later number) owner true ≡ true
    by None here = refl
    by (Some owner) here = keeps number owner here

-- EVENTS ------------------------------------------------------------------------------------------

-- it is this request, and held the connection
abbrev holds_it : ℕ → Owner → Owner → List Step → Bool
holds_it number owner own steps = same_owner own owner && was_held number steps

holds_more : (number : ℕ) (owner own : Owner) (steps later : List Step) → holds_it number owner own steps ≡ true → holds_it number owner own (steps ++ later) ≡ true
holds_more number owner own steps later is =
    let parts = and_parts (same_owner own owner) (was_held number steps) is in and_from (same_owner own owner) (was_held number (steps ++ later)) parts.0 (held_more number steps later parts.1)

module _ (setting : Setting) (m : Machine) (talks : AllTalk setting.terms m.clients) (number : ℕ) (n : Machine) (step : HasStepped setting m number n) where
  abbrev old_courses : List Course
  old_courses = courses_of_clients setting 1 m.clients

  abbrev new_courses : List Course
  new_courses = courses_of_clients setting 1 n.clients

  -- the connection on which it speaks was held
  speaks_held : (connection : ℕ) → step.connection ≡ Some connection → was_held connection step.after.steps ≡ true
  speaks_held connection is =
      let last : Step = first_step setting m talks number n step in
      let first : List Step = step.before.steps ++ last ∷ [] in
      let first_more : HasMore first step.after.steps = behind_first setting m talks number n step in
      let left : connection_after first ≡ Some connection =
      fold-append (λ (had : Option ℕ) (one : Step). connected had one.done.input) None step.before.steps (last ∷ [])
      ∙ (ap (λ (had : Option ℕ). connected had step.input) (before_talks setting m talks number n step).has ∙ (step.connects ∙ is)) in
      subst (λ (steps : List Step). was_held connection steps ≡ true) (sym first_more.are)
      (held_more connection first first_more.more (left_held None connection first (λ one never same. let none : ⊥ = cc in none) left))

  still_held : (connection : ℕ) (owner : Owner) → is_held_by old_courses connection owner ≡ true → is_held_by new_courses connection owner ≡ true
  still_held connection owner here = some_step setting (holds_it connection owner) (holds_more connection owner) m number n step here

  now_held : (connection : ℕ) → step.connection ≡ Some connection → is_held_by new_courses connection (owner_at m number) ≡ true
  now_held connection is =
      let own : Owner = record { client = number; place = length step.client.past } in
      subst (λ (owner : Owner). is_held_by new_courses connection owner ≡ true) (sym (step_owner setting m talks number n step))
      (some_mine setting (holds_it connection own) (holds_more connection own) m number n step (and_from (same_owner own own) (was_held connection step.after.steps) (owner_self own) (speaks_held connection is)))

  stepped_owned : owned_rightly old_courses 1 m.links ≡ true → owned_rightly new_courses 1 n.links ≡ true
  stepped_owned all =
      by_lists new_courses 1 n.links
      ∙ subst (λ (lists : List (List Sent)). owned_lists new_courses 1 lists ≡ true) (sym step.sent_are) (by step.connection refl _ _)
    where
      so_far : owned_lists new_courses 1 step.lists ≡ true
      so_far = grown_owned new_courses (sent_lists m.links) step.lists step.grows (still_owned old_courses new_courses still_held 1 (sent_lists m.links) (sym (by_lists old_courses 1 m.links) ∙ all))

      by : (connection : Option ℕ) → step.connection ≡ connection → (call : ℕ) (frames : List Up) → owned_lists new_courses 1 (spoken step.lists (unwrap_or connection 0) (map (sent_by (owner_at m number) call) frames)) ≡ true
      by None is call frames = so_far
      by (Some connection) is call frames =
          spoken_owned new_courses step.lists connection (map (sent_by (owner_at m number) call) frames) so_far (said_owned new_courses connection (owner_at m number) call frames (now_held connection is))

may_own : (setting : Setting) (m n : Machine) → AllTalk setting.terms m.clients → MayStep setting m n → owned_rightly (courses_of_clients setting 1 m.clients) 1 m.links ≡ true → owned_rightly (courses_of_clients setting 1 n.clients) 1 n.links ≡ true
may_own setting m n talks (Still clients sent) all =
    subst (λ (c : List Client). owned_rightly (courses_of_clients setting 1 c) 1 n.links ≡ true) (sym clients)
    (by_lists (courses_of_clients setting 1 m.clients) 1 n.links
    ∙ (ap (λ (lists : List (List Sent)). owned_lists (courses_of_clients setting 1 m.clients) 1 lists) sent ∙ (sym (by_lists (courses_of_clients setting 1 m.clients) 1 m.links) ∙ all)))
may_own setting m n talks (Closed clients sent) all =
    let courses : List Course = courses_of_clients setting 1 m.clients in
    subst (λ (c : List Client). owned_rightly (courses_of_clients setting 1 c) 1 n.links ≡ true) (sym clients)
    (by_lists courses 1 n.links
    ∙ (ap (λ (lists : List (List Sent)). owned_lists courses 1 lists) sent
    ∙ each_owned courses (closed_by_drain ∷ []) (sent_lists m.links) m.pool.idle (λ number. refl) (sym (by_lists courses 1 m.links) ∙ all)))
may_own setting m n talks (Stepped number step) all = stepped_owned setting m talks number n step all

pub owned_law : IsKept are_owned
owned_law = record {
  at_start = λ document. refl;
  at_event = λ before after old new event note items left one inv.
      let by : Followed old.setting old.machine event note items left new.machine = follow_happens old.setting old.machine event note items left new.machine one.follows in
      subst (λ (setting : Setting). owned_rightly (courses_of_clients setting 1 new.machine.clients) 1 new.machine.links ≡ true) (sym one.setting)
      (may_own old.setting (at_event old.machine) new.machine inv.script.talks (happens_step old.setting (at_event old.machine) items left by.kind new.machine by.happens) inv.script.owned);
}
