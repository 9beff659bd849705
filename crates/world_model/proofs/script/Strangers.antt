-- A request that has no slot sent nothing on any connection; and each request in course is ready.
use Rattle.std.proofs.Common.{◌≡◌, ◌≢◌, refl, sym, ap, subst, ◌∙◌, Bool, true, false, ℕ, suc, zero, ◌+◌, ◌<◌, ◌&&◌, length, List, [], ◌∷◌, Option, Some, None, arith}
use Rattle.std.specs.Prelude.{◌==◌, not, option_map, slice_get}
use Rattle.std.specs.List.{list_all, list_any}
use Rattle.std.specs.Option.{option_or, option_map_or}
use Rattle.std.proofs.lemmas.Bool.{and_parts, and_from, or_from}
use Rattle.std.proofs.lemmas.List.{nil_from_length}
use Rattle.std.proofs.lemmas.List.Folds.{list_any-append}
use Rattle.client_model.specs.declared.input.Wants.{Wants}
use Rattle.client_model.specs.declared.input.Wants.TheVariants as wants
use Rattle.client_model.specs.meaning.Talk.{wants_of}
use Rattle.client_model.specs.meaning.Terms.{Terms}
use Rattle.outage_schedule.specs.declared.document.Request.{Request}
use Rattle.world_model.specs.meaning.Settings.{Setting}
use Rattle.world_model.specs.meaning.Frames.{Owner, Sent}
use Rattle.world_model.specs.meaning.Links.{Link, link_at}
use Rattle.world_model.specs.meaning.Clients.{Past, Doing, Client, client_at, begun}
use Rattle.world_model.specs.meaning.Machines.{Machine}
use Rattle.world_model.specs.meaning.Acting.{owner_at}
use Rattle.world_model.specs.Words.{held_in}
use Rattle.world_model.specs.Traced.{Traced, Course, course_now, course_over, courses_from, courses_of_clients, courses_of}
use Rattle.world_model.specs.records.Script.{is_held_by, owned_rightly}
use Rattle.world_model.specs.Parts.{implies}
use Rattle.world_model.specs.records.Ready.{has_calls, is_waiting, is_unbegun, records_rightly, is_ready, is_ready_client}
use Rattle.world_model.specs.Sames.{same_owner, owned_by, is_of}
use Rattle.world_model.proofs.events.Tests.{eq_from, ne_to, ne_back}
use Rattle.world_model.proofs.events.AllLists.{weaker_all}
use Rattle.world_model.proofs.events.AllClients.{at_client}
use Rattle.world_model.proofs.basic.LinkLives.{implied}
use Rattle.world_model.proofs.events.Moves.{IsDoing}
use Rattle.world_model.proofs.wire.SentLinks.{is_strange, slot_waits}

-- READY -------------------------------------------------------------------------------------------

begun_ready : (setting : Setting) (event tick : ℕ) (request : Request) → has_calls request ≡ true → is_ready setting.terms (begun setting.terms event tick request) ≡ true
begun_ready setting event tick request calls = and_from (not (length request.calls == 0)) true calls refl

does_ready : (setting : Setting) (event tick : ℕ) (now : Option Doing) (next : Option Request) (doing : Doing) → option_or now (option_map (begun setting.terms event tick) next) ≡ Some doing
    → option_map_or (is_ready setting.terms) now true ≡ true → option_map_or has_calls next true ≡ true → is_ready setting.terms doing ≡ true
does_ready setting event tick (Some one) next doing is ready calls = let same : one ≡ doing = cc in subst (λ (d : Doing). is_ready setting.terms d ≡ true) same ready
does_ready setting event tick None (Some request) doing is ready calls =
    let same : begun setting.terms event tick request ≡ doing = cc in subst (λ (d : Doing). is_ready setting.terms d ≡ true) same (begun_ready setting event tick request calls)
does_ready setting event tick None None doing is ready calls = absurd (let none : ⊥ = cc in none)

pub doing_ready : (setting : Setting) (m : Machine) (number : ℕ) (doing : Doing) (wanted : Wants) → list_all (is_ready_client setting.terms) m.clients ≡ true → IsDoing setting m number doing wanted → is_ready setting.terms doing ≡ true
doing_ready setting m number doing wanted all is =
    let parts = and_parts (option_map_or (is_ready setting.terms) is.client.now true) (option_map_or has_calls is.client.next true) (at_client (is_ready_client setting.terms) m.clients number is.client all is.here) in
    does_ready setting m.event m.tick is.client.now is.client.next doing is.does parts.0 parts.1

-- one that awaits a frame is in course already
now_by : (setting : Setting) (m : Machine) (doing : Doing) (now : Option Doing) (next : Option Request) → option_or now (option_map (begun setting.terms m.event m.tick) next) ≡ Some doing
    → wants_of setting.terms doing.talk m.tick ≡ wants.Frame → now ≡ Some doing
now_by setting m doing (Some one) next does wanted = does
now_by setting m doing None (Some request) does wanted =
    let same : begun setting.terms m.event m.tick request ≡ doing = cc in
    absurd (let slot : wants.Slot ≡ wants.Frame = ap (λ (one : Doing). wants_of setting.terms one.talk m.tick) same ∙ wanted in let none : ⊥ = cc in none)
now_by setting m doing None None does wanted = absurd (let none : ⊥ = cc in none)

pub frame_now : (setting : Setting) (m : Machine) (number : ℕ) (doing : Doing) (is : IsDoing setting m number doing wants.Frame) → is.client.now ≡ Some doing
frame_now setting m number doing is = now_by setting m doing is.client.now is.client.next is.does is.wants

-- without a slot it had no connection
pub waiting_none : (terms : Terms) (doing : Doing) → is_ready terms doing ≡ true → is_waiting doing.talk.phase ≡ true → held_in doing.steps ≡ []
waiting_none terms doing ready waits =
    let one = and_parts (implies (is_unbegun doing.talk.phase) (not (length doing.talk.left == 0))) (implies (is_waiting doing.talk.phase) (length (held_in doing.steps) == 0) && records_rightly terms doing.talk doing.talk.phase) ready in
    let two = and_parts (implies (is_waiting doing.talk.phase) (length (held_in doing.steps) == 0)) (records_rightly terms doing.talk doing.talk.phase) one.1 in
    nil_from_length (held_in doing.steps) (eq_from (length (held_in doing.steps)) 0 (implied (is_waiting doing.talk.phase) (length (held_in doing.steps) == 0) waits two.0))

-- the one in course, if one is, had none
abbrev had_none : Option Doing → Bool
had_none now = option_map_or (λ doing. length (held_in doing.steps) == 0) now true

no_length : {A : Type 0} (xs : List A) → xs ≡ [] → (length xs == 0) ≡ true
no_length xs none = ap (λ (l : List _). length l == 0) none

does_none : (setting : Setting) (event tick : ℕ) (now : Option Doing) (next : Option Request) (doing : Doing) → option_or now (option_map (begun setting.terms event tick) next) ≡ Some doing → held_in doing.steps ≡ []
    → had_none now ≡ true
does_none setting event tick (Some one) next doing is none =
    let same : one ≡ doing = cc in no_length (held_in one.steps) (ap (λ (d : Doing). held_in d.steps) same ∙ none)
does_none setting event tick None next doing is none = refl

-- STRANGE -----------------------------------------------------------------------------------------

module _ (setting : Setting) (owner : Owner) (connection : ℕ) where
  -- it is of this request, which held the connection
  abbrev holds : Course → Bool
  holds course = same_owner course.owner owner && list_any (λ other. other == connection) (held_in course.steps)

  other_client : (a b c : Bool) → a ≡ false → ((a && b) && c) ≡ false
  other_client true b c is = absurd (let none : ⊥ = cc in none)
  other_client false b c is = refl

  other_place : (a b c : Bool) → b ≡ false → ((a && b) && c) ≡ false
  other_place true true c is = absurd (let none : ⊥ = cc in none)
  other_place true false c is = refl
  other_place false b c is = refl

  held_none : (a c : Bool) → c ≡ false → (a && c) ≡ false
  held_none true c is = is
  held_none false c is = refl

  others_none : (client place : ℕ) (past : List Past) (now : Option Doing) → (client == owner.client) ≡ false → list_any holds (courses_from setting client place past now) ≡ false
  others_none client place [] None differs = refl
  others_none client place [] (Some doing) differs =
      or_from (holds (course_now setting client place doing)) false
      (other_client (client == owner.client) (place == owner.place) (list_any (λ other. other == connection) (held_in doing.steps)) differs) refl
  others_none client place (one ∷ past) now differs =
      or_from (holds (course_over client place one)) (list_any holds (courses_from setting client (place + 1) past now))
      (other_client (client == owner.client) (place == owner.place) (list_any (λ other. other == connection) (held_in one.steps)) differs) (others_none client (place + 1) past now differs)

  none_any : (steps : List ℕ) → (length steps == 0) ≡ true → list_any (λ other. other == connection) steps ≡ false
  none_any [] none = refl
  none_any (one ∷ steps) none = absurd (let zero : length (one ∷ steps) ≡ 0 = eq_from (length (one ∷ steps)) 0 none in let never : ⊥ = omega arith in never)

  mine_none : (client place : ℕ) (past : List Past) (now : Option Doing) → place + length past ≡ owner.place → had_none now ≡ true → list_any holds (courses_from setting client place past now) ≡ false
  mine_none client place [] None last none = refl
  mine_none client place [] (Some doing) last none =
      or_from (holds (course_now setting client place doing)) false
      (held_none ((client == owner.client) && (place == owner.place)) (list_any (λ other. other == connection) (held_in doing.steps)) (none_any (held_in doing.steps) none)) refl
  mine_none client place (one ∷ past) now last none =
      let below : place < owner.place = omega arith in
      let next : (place + 1) + length past ≡ owner.place = omega arith in
      or_from (holds (course_over client place one)) (list_any holds (courses_from setting client (place + 1) past now))
      (other_place (client == owner.client) (place == owner.place) (list_any (λ other. other == connection) (held_in one.steps)) (ne_to place owner.place below)) (mine_none client (place + 1) past now next none)

  later_none : (start : ℕ) (clients : List Client) → owner.client < start → list_any holds (courses_of_clients setting start clients) ≡ false
  later_none start [] below = refl
  later_none start (client ∷ clients) below =
      let next : owner.client < start + 1 = omega arith in
      list_any-append holds (courses_from setting start 0 client.past client.now) (courses_of_clients setting (start + 1) clients)
      ∙ or_from (list_any holds (courses_from setting start 0 client.past client.now)) (list_any holds (courses_of_clients setting (start + 1) clients))
      (others_none start 0 client.past client.now (ne_back start owner.client below)) (later_none (start + 1) clients next)

  all_none : (start : ℕ) (clients : List Client) (index : ℕ) (client : Client) → owner.client ≡ start + index → slice_get clients index ≡ Some client → length client.past ≡ owner.place → had_none client.now ≡ true
      → list_any holds (courses_of_clients setting start clients) ≡ false
  all_none start [] index client at is place none = absurd (let never : ⊥ = cc in never)
  all_none start (first ∷ clients) zero client at is place none =
      let same : first ≡ client = cc in
      let below : owner.client < start + 1 = omega arith in
      let last : 0 + length first.past ≡ owner.place = ap (λ (c : Client). 0 + length c.past) same ∙ (zero_plus (length client.past) ∙ place) in
      list_any-append holds (courses_from setting start 0 first.past first.now) (courses_of_clients setting (start + 1) clients)
      ∙ or_from (list_any holds (courses_from setting start 0 first.past first.now)) (list_any holds (courses_of_clients setting (start + 1) clients))
      (mine_none start 0 first.past first.now last (ap (λ (c : Client). had_none c.now) same ∙ none)) (later_none (start + 1) clients below)
    where
      zero_plus : (n : ℕ) → 0 + n ≡ n
      zero_plus n = omega arith
  all_none start (first ∷ clients) (suc index) client at is place none =
      let below : start < owner.client = omega arith in
      let next : owner.client ≡ (start + 1) + index = omega arith in
      list_any-append holds (courses_from setting start 0 first.past first.now) (courses_of_clients setting (start + 1) clients)
      ∙ or_from (list_any holds (courses_from setting start 0 first.past first.now)) (list_any holds (courses_of_clients setting (start + 1) clients))
      (others_none start 0 first.past first.now (ne_to start owner.client below)) (all_none (start + 1) clients index client next is place none)

-- FRAMES ------------------------------------------------------------------------------------------

-- the owners of the frames on a connection held it
pub owned_from : (courses : List Course) (start : ℕ) (links : List Link) (index number : ℕ) (link : Link) → number ≡ start + index → owned_rightly courses start links ≡ true → slice_get links index ≡ Some link
    → list_all (λ sent. option_map_or (is_held_by courses number) sent.owner true) link.sent ≡ true
owned_from courses start [] index number link same owned is = absurd (let none : ⊥ = cc in none)
owned_from courses start (first ∷ links) zero number link same owned is =
    let here : first ≡ link = cc in
    let now : start ≡ number = omega arith in
    subst (λ (one : Link). list_all (λ sent. option_map_or (is_held_by courses number) sent.owner true) one.sent ≡ true) here
    (subst (λ (n : ℕ). list_all (λ sent. option_map_or (is_held_by courses n) sent.owner true) first.sent ≡ true) now
    (and_parts (list_all (λ sent. option_map_or (is_held_by courses start) sent.owner true) first.sent) (owned_rightly courses (start + 1) links) owned).0)
owned_from courses start (first ∷ links) (suc index) number link same owned is =
    let now : number ≡ (start + 1) + index = omega arith in
    owned_from courses (start + 1) links index number link now (and_parts (list_all (λ sent. option_map_or (is_held_by courses start) sent.owner true) first.sent) (owned_rightly courses (start + 1) links) owned).1 is

pub same_owner_is : (a b : Owner) → same_owner a b ≡ true → a ≡ b
same_owner_is a b same = λ i. record { client = one i; place = other i }
  where
    parts : ((a.client == b.client) ≡ true) × ((a.place == b.place) ≡ true)
    parts = and_parts (a.client == b.client) (a.place == b.place) same

    one : a.client ≡ b.client
    one = eq_from a.client b.client parts.0

    other : a.place ≡ b.place
    other = eq_from a.place b.place parts.1

pub other_owner : (a b : Owner) → a ≢ b → same_owner a b ≡ false
other_owner a b differs = by (same_owner a b) refl
  where
    by : (test : Bool) → same_owner a b ≡ test → test ≡ false
    by true is = absurd (differs (same_owner_is a b is))
    by false is = refl

pub owned_is : (owner : Owner) (sent : Sent) → owned_by owner sent ≡ true → sent.owner ≡ Some owner
owned_is owner sent is = by sent.owner is
  where
    by : (found : Option Owner) → is_of owner found ≡ true → found ≡ Some owner
    by None is = absurd (let none : ⊥ = cc in none)
    by (Some other) is = ap Some (sym (same_owner_is owner other is))

not_mine : (courses : List Course) (connection : ℕ) (owner : Owner) (sent : Sent) → is_held_by courses connection owner ≡ false → option_map_or (is_held_by courses connection) sent.owner true ≡ true → not (owned_by owner sent) ≡ true
not_mine courses connection owner sent never held = by (owned_by owner sent) refl
  where
    by : (mine : Bool) → owned_by owner sent ≡ mine → not mine ≡ true
    by false is = refl
    by true is =
        let here : is_held_by courses connection owner ≡ true = subst (λ (one : Option Owner). option_map_or (is_held_by courses connection) one true ≡ true) (owned_is owner sent is) held in
        absurd (let none : ⊥ = cc in none)

strange_at : (t : Traced) (index : ℕ) (client : Client) (connection : ℕ) (link : Link) → owned_rightly (courses_of t) 1 t.machine.links ≡ true → slice_get t.machine.clients index ≡ Some client → had_none client.now ≡ true
    → link_at t.machine.links connection ≡ Some link → is_strange (record { client = suc index; place = length client.past }) link ≡ true
strange_at t index client zero link owned is none there = absurd (let never : ⊥ = cc in never)
strange_at t index client (suc at) link owned is none there =
    let owner : Owner = record { client = suc index; place = length client.past } in
    let first : suc index ≡ 1 + index = omega arith in
    let second : suc at ≡ 1 + at = omega arith in
    let never : is_held_by (courses_of t) (suc at) owner ≡ false = all_none t.setting owner (suc at) 1 t.machine.clients index client first is refl none in
    weaker_all (λ (sent : Sent). option_map_or (is_held_by (courses_of t) (suc at)) sent.owner true) (λ (sent : Sent). not (owned_by owner sent)) link.sent
    (λ sent held. not_mine (courses_of t) (suc at) owner sent never held) (owned_from (courses_of t) 1 t.machine.links at (suc at) link second owned there)

pub doing_strange : (t : Traced) (number : ℕ) (client : Client) (connection : ℕ) (link : Link) → owned_rightly (courses_of t) 1 t.machine.links ≡ true → client_at t.machine.clients number ≡ Some client → had_none client.now ≡ true
    → link_at t.machine.links connection ≡ Some link → is_strange (record { client = number; place = length client.past }) link ≡ true
doing_strange t zero client connection link owned is none there = absurd (let never : ⊥ = cc in never)
doing_strange t (suc index) client connection link owned is none there = strange_at t index client connection link owned is none there

-- of the request that wants a slot
pub slot_strange : (t : Traced) (m : Machine) (number : ℕ) (doing : Doing) (connection : ℕ) (link : Link) → m.clients ≡ t.machine.clients → m.links ≡ t.machine.links → list_all (is_ready_client t.setting.terms) m.clients ≡ true
    → owned_rightly (courses_of t) 1 t.machine.links ≡ true → IsDoing t.setting m number doing wants.Slot → link_at m.links connection ≡ Some link → is_strange (owner_at m number) link ≡ true
slot_strange t m number doing connection link clients links ready owned is there =
    let none : held_in doing.steps ≡ [] = waiting_none t.setting.terms doing (doing_ready t.setting m number doing wants.Slot ready is) (slot_waits t.setting.terms doing.talk doing.talk.phase m.tick is.wants) in
    let mine : owner_at m number ≡ record { client = number; place = length is.client.past } = ap (λ (found : Option Client). record { client = number; place = option_map_or (λ (one : Client). length one.past) found 0 }) is.here in
    subst (λ (owner : Owner). is_strange owner link ≡ true) (sym mine)
    (doing_strange t number is.client connection link owned (subst (λ (all : List Client). client_at all number ≡ Some is.client) clients is.here)
    (does_none t.setting m.event m.tick is.client.now is.client.next doing is.does none) (subst (λ (all : List Link). link_at all connection ≡ Some link) links there))
