-- What holds of some request that was submitted holds still when a client steps, if further steps
-- keep it.
use Rattle.std.proofs.Common.{◌≡◌, refl, sym, subst, ◌∙◌, Bool, true, false, ℕ, suc, zero, ◌+◌, ◌||◌, length, append_assoc, List, [], ◌∷◌, ◌++◌, Option, Some, None, ◌⊎◌, inl, inr, ⊎_elim, arith}
use Rattle.std.specs.Prelude.{slice_get, slice_set, option_map}
use Rattle.std.specs.List.{list_any}
use Rattle.std.specs.Option.{option_or}
use Rattle.std.proofs.lemmas.Bool.{or_right, or_left}
use Rattle.std.proofs.lemmas.List.{append-nil}
use Rattle.std.proofs.lemmas.List.Folds.{list_any-append}
use Rattle.outage_schedule.specs.declared.document.Request.{Request}
use Rattle.client_model.specs.declared.act.Hold.{Hold}
use Rattle.client_model.specs.declared.act.Hold.TheVariants as hold
use Rattle.client_model.specs.meaning.Terms.{Terms}
use Rattle.world_model.specs.meaning.Settings.{Setting}
use Rattle.world_model.specs.meaning.Frames.{Owner}
use Rattle.world_model.specs.meaning.Clients.{Step, Doing, Past, Client, client_at, with_client, begun, after_hold, past_of}
use Rattle.world_model.specs.Traced.{Course, course_over, courses_from, courses_of_clients}
use Rattle.world_model.proofs.events.AllClients.{client_set}
use Rattle.world_model.proofs.events.ClientSteps.{GoesOn, AtOnce, LostToo, HasStepped}
use Rattle.world_model.specs.meaning.Machines.{Machine}

-- STEPS -------------------------------------------------------------------------------------------

-- the steps so far, and more
pub record HasMore (steps later : List Step) : Type 0 where
  pub more : List Step
  pub are : later ≡ steps ++ more

pub more_after : (setting : Setting) (first after : Doing) (held kept : Hold) → GoesOn setting first held after kept → HasMore first.steps after.steps
more_after setting first _ held _ AtOnce = record { more = []; are = sym (append-nil first.steps) }
more_after setting first _ held _ (LostToo event tick ended is) = record { more = _; are = refl }

pub or_either : (a b : Bool) → (a || b) ≡ true → (a ≡ true) ⊎ (b ≡ true)
or_either true b is = inl refl
or_either false b is = inr is

module _ (setting : Setting) (Q : Owner → List Step → Bool) where
  abbrev pub is_one : Course → Bool
  is_one course = Q course.owner course.steps

  abbrev pub some_of : ℕ → ℕ → List Past → Option Doing → Bool
  some_of client place past now = list_any is_one (courses_from setting client place past now)

  abbrev pub some_one : ℕ → List Client → Bool
  some_one start clients = list_any is_one (courses_of_clients setting start clients)

  -- ONE CLIENT ------------------------------------------------------------------------------------

  still_now : (client place at : ℕ) (past : List Past) (now : Option Doing) (after : Doing) → at ≡ place + length past
      → ((doing : Doing) → now ≡ Some doing → Q (record { client = client; place = at }) doing.steps ≡ true → Q (record { client = client; place = at }) after.steps ≡ true)
      → some_of client place past now ≡ true → some_of client place past (Some after) ≡ true
  still_now client place at [] None after same keeps is = absurd (let none : ⊥ = cc in none)
  still_now client place at [] (Some doing) after same keeps is =
      let here : at ≡ place = omega arith in
      or_left (Q (record { client = client; place = place }) after.steps) false
      (subst (λ (n : ℕ). Q (record { client = client; place = n }) after.steps ≡ true) here
      (keeps doing refl (subst (λ (n : ℕ). Q (record { client = client; place = n }) doing.steps ≡ true) (sym here) (⊎_elim (λ one. one) (λ none. absurd (let never : ⊥ = cc in never)) (or_either (Q (record { client = client; place = place }) doing.steps) false is)))))
  still_now client place at (one ∷ past) now after same keeps is =
      let next : at ≡ (place + 1) + length past = omega arith in
      ⊎_elim (λ first. or_left (is_one (course_over client place one)) (some_of client (place + 1) past (Some after)) first)
      (λ later. or_right (is_one (course_over client place one)) (some_of client (place + 1) past (Some after)) (still_now client (place + 1) at past now after next keeps later))
      (or_either (is_one (course_over client place one)) (some_of client (place + 1) past now) is)

  -- a request in course, and the same as one that is over
  over_now : (client place : ℕ) (past : List Past) (after : Doing) → some_of client place past (Some after) ≡ true → some_of client place (past ++ past_of setting.terms after ∷ []) None ≡ true
  over_now client place [] after is = is
  over_now client place (one ∷ past) after is =
      ⊎_elim (λ first. or_left (is_one (course_over client place one)) (some_of client (place + 1) (past ++ past_of setting.terms after ∷ []) None) first)
      (λ later. or_right (is_one (course_over client place one)) (some_of client (place + 1) (past ++ past_of setting.terms after ∷ []) None) (over_now client (place + 1) past after later))
      (or_either (is_one (course_over client place one)) (some_of client (place + 1) past (Some after)) is)

  own_now : (client place at : ℕ) (past : List Past) (after : Doing) → at ≡ place + length past → Q (record { client = client; place = at }) after.steps ≡ true → some_of client place past (Some after) ≡ true
  own_now client place at [] after same is =
      let here : at ≡ place = omega arith in or_left (Q (record { client = client; place = place }) after.steps) false (subst (λ (n : ℕ). Q (record { client = client; place = n }) after.steps ≡ true) here is)
  own_now client place at (one ∷ past) after same is =
      let next : at ≡ (place + 1) + length past = omega arith in
      or_right (is_one (course_over client place one)) (some_of client (place + 1) past (Some after)) (own_now client (place + 1) at past after next is)

  held_some : (number client : ℕ) (one : Client) (after : Doing) (held : Hold) → some_of client 0 one.past (Some after) ≡ true
      → some_of client 0 (after_hold setting number one after held).past (after_hold setting number one after held).now ≡ true
  held_some number client one after hold.Keep is = is
  held_some number client one after hold.GiveBack is = over_now client 0 one.past after is
  held_some number client one after hold.Drop is = over_now client 0 one.past after is

  -- ALL CLIENTS -----------------------------------------------------------------------------------

  some_set : (start : ℕ) (clients : List Client) (index number : ℕ) (client next : Client) → number ≡ start + index → slice_get clients index ≡ Some client
      → (some_of number 0 client.past client.now ≡ true → some_of number 0 next.past next.now ≡ true) → some_one start clients ≡ true → some_one start (slice_set clients index next) ≡ true
  some_set start [] index number client next same is keeps all = absurd (let none : ⊥ = cc in none)
  some_set start (first ∷ clients) zero number client next same is keeps all =
      let here : first ≡ client = cc in
      let at : number ≡ start = omega arith in
      list_any-append is_one (courses_from setting start 0 next.past next.now) (courses_of_clients setting (start + 1) clients)
      ∙ ⊎_elim (λ mine. or_left (some_of start 0 next.past next.now) (some_one (start + 1) clients)
      (subst (λ (n : ℕ). some_of n 0 next.past next.now ≡ true) at (keeps (subst (λ (n : ℕ). some_of n 0 client.past client.now ≡ true) (sym at) (subst (λ (c : Client). some_of start 0 c.past c.now ≡ true) here mine)))))
      (λ later. or_right (some_of start 0 next.past next.now) (some_one (start + 1) clients) later)
      (or_either (some_of start 0 first.past first.now) (some_one (start + 1) clients) (sym (list_any-append is_one (courses_from setting start 0 first.past first.now) (courses_of_clients setting (start + 1) clients)) ∙ all))
  some_set start (first ∷ clients) (suc index) number client next same is keeps all =
      let further : number ≡ (start + 1) + index = omega arith in
      list_any-append is_one (courses_from setting start 0 first.past first.now) (courses_of_clients setting (start + 1) (slice_set clients index next))
      ∙ ⊎_elim (λ mine. or_left (some_of start 0 first.past first.now) (some_one (start + 1) (slice_set clients index next)) mine)
      (λ later. or_right (some_of start 0 first.past first.now) (some_one (start + 1) (slice_set clients index next)) (some_set (start + 1) clients index number client next further is keeps later))
      (or_either (some_of start 0 first.past first.now) (some_one (start + 1) clients) (sym (list_any-append is_one (courses_from setting start 0 first.past first.now) (courses_of_clients setting (start + 1) clients)) ∙ all))

  some_own : (start : ℕ) (clients : List Client) (index number : ℕ) (client : Client) → number ≡ start + index → slice_get clients index ≡ Some client → some_of number 0 client.past client.now ≡ true → some_one start clients ≡ true
  some_own start [] index number client same is mine = absurd (let none : ⊥ = cc in none)
  some_own start (first ∷ clients) zero number client same is mine =
      let here : first ≡ client = cc in
      let at : number ≡ start = omega arith in
      list_any-append is_one (courses_from setting start 0 first.past first.now) (courses_of_clients setting (start + 1) clients)
      ∙ or_left (some_of start 0 first.past first.now) (some_one (start + 1) clients)
      (subst (λ (c : Client). some_of start 0 c.past c.now ≡ true) (sym here) (subst (λ (n : ℕ). some_of n 0 client.past client.now ≡ true) at mine))
  some_own start (first ∷ clients) (suc index) number client same is mine =
      let further : number ≡ (start + 1) + index = omega arith in
      list_any-append is_one (courses_from setting start 0 first.past first.now) (courses_of_clients setting (start + 1) clients)
      ∙ or_right (some_of start 0 first.past first.now) (some_one (start + 1) clients) (some_own (start + 1) clients index number client further is mine)

  -- A CLIENT STEPS --------------------------------------------------------------------------------

  does_same : (terms : Terms) (event tick : ℕ) (now : Option Doing) (next : Option Request) (before doing : Doing) → option_or now (option_map (begun terms event tick) next) ≡ Some before → now ≡ Some doing → doing ≡ before
  does_same terms event tick (Some one) next before doing does is = let same : doing ≡ before = cc in same
  does_same terms event tick None next before doing does is = absurd (let none : ⊥ = cc in none)

  module _ (more : (owner : Owner) (steps later : List Step) → Q owner steps ≡ true → Q owner (steps ++ later) ≡ true) (m : Machine) (number : ℕ) (n : Machine) (step : HasStepped setting m number n) where
    abbrev owner_now : Owner
    owner_now = record { client = number; place = length step.client.past }

    pub later_steps : HasMore step.before.steps step.after.steps
    later_steps =
        let behind = more_after setting _ step.after _ step.held step.goes_on in
        record { more = _; are = behind.are ∙ append_assoc step.before.steps (_ ∷ []) behind.more }

    keeps_one : (doing : Doing) → step.client.now ≡ Some doing → Q owner_now doing.steps ≡ true → Q owner_now step.after.steps ≡ true
    keeps_one doing is here =
        let same : doing ≡ step.before = does_same setting.terms m.event m.tick step.client.now step.client.next step.before doing step.does is in
        subst (λ (steps : List Step). Q owner_now steps ≡ true) (sym later_steps.are)
        (more owner_now step.before.steps later_steps.more (subst (λ (d : Doing). Q owner_now d.steps ≡ true) same here))

    -- it holds of some request still
    pub some_step : some_one 1 m.clients ≡ true → some_one 1 n.clients ≡ true
    some_step all = subst (λ (clients : List Client). some_one 1 clients ≡ true) (sym step.clients_are) (by number refl)
      where
        next : Client
        next = after_hold setting number step.client step.after step.held

        by : (at : ℕ) → at ≡ number → some_one 1 (with_client m.clients at next) ≡ true
        by zero is = all
        by (suc index) is =
            let same : number ≡ 1 + index = omega arith in
            let here : slice_get m.clients index ≡ Some step.client = subst (λ (k : ℕ). client_at m.clients k ≡ Some step.client) (sym is) step.here in
            let place : length step.client.past ≡ 0 + length step.client.past = omega arith in
            some_set 1 m.clients index number step.client next same here
            (λ mine. held_some number number step.client step.after step.held (still_now number 0 (length step.client.past) step.client.past step.client.now step.after place keeps_one mine)) all

    -- and of the one that stepped
    pub some_mine : Q owner_now step.after.steps ≡ true → some_one 1 n.clients ≡ true
    some_mine mine = subst (λ (clients : List Client). some_one 1 clients ≡ true) (sym step.clients_are) (by number refl)
      where
        next : Client
        next = after_hold setting number step.client step.after step.held

        by : (at : ℕ) → at ≡ number → some_one 1 (with_client m.clients at next) ≡ true
        by zero is = absurd (let here : client_at m.clients 0 ≡ Some step.client = subst (λ (k : ℕ). client_at m.clients k ≡ Some step.client) (sym is) step.here in let none : ⊥ = cc in none)
        by (suc index) is =
            let same : number ≡ 1 + index = omega arith in
            let place : length step.client.past ≡ 0 + length step.client.past = omega arith in
            let set : client_at (with_client m.clients (suc index) next) (suc index) ≡ Some next =
            client_set m.clients (suc index) step.client next (subst (λ (k : ℕ). client_at m.clients k ≡ Some step.client) (sym is) step.here) in
            some_own 1 (with_client m.clients (suc index) next) index number next same set (held_some number number step.client step.after step.held (own_now number 0 (length step.client.past) step.client.past step.after place mine))
