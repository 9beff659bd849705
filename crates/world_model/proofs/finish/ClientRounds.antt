-- The rounds of one client: where it stays as it is, where its frame is served, and behind a tick.
use Rattle.std.proofs.Common.{◌≡◌, refl, sym, ap, subst, ◌∙◌, Bool, true, false, ℕ, ◌+◌, ◌≤◌, ◌<◌, ◌&&◌, ◌||◌, List, Option, Some, None, arith}
use Rattle.std.specs.Prelude.{not, nat_lt, is_some, option_and_then}
use Rattle.std.specs.Option.{option_map_or}
use Rattle.std.proofs.lemmas.Bool.{or_left, or_right}
use Rattle.std.proofs.lemmas.Bool.Decides.{nat_tests}
use Rattle.outage_schedule.specs.declared.document.Request.{Request}
use Rattle.client_model.specs.meaning.Terms.{Terms, Talk, Phase, Idle, Unbegun, Queued, Seeking, Greeting, Asked, Running, Replaying}
use Rattle.world_model.specs.meaning.Settings.{Setting}
use Rattle.world_model.specs.meaning.Frames.{Owner}
use Rattle.world_model.specs.meaning.Links.{Link, link_at}
use Rattle.world_model.specs.meaning.Clients.{Doing}
use Rattle.world_model.specs.meaning.Machines.{Machine}
use Rattle.world_model.specs.meaning.Serving.{front_of}
use Rattle.world_model.proofs.hold.HeldKept.{HasIt, HasNone, HasOne}
use Rattle.world_model.specs.records.Basic.{at_most, waits_from}
use Rattle.world_model.specs.RoundsLeft.{slot_wait, try_wait, awaits_tick, rounds_in, talk_rounds}
use Rattle.world_model.specs.Remaining.{once_if, on_open, may_serve, doing_rounds, rounds_with}
use Rattle.world_model.proofs.events.Tests.{le_from}
use Rattle.world_model.proofs.number.LinkSettled.{awaits_no_call}

-- TESTS -------------------------------------------------------------------------------------------

pub once_less : (a b : Bool) → (a ≡ true → b ≡ true) → once_if a ≤ once_if b
once_less false b so = omega arith
once_less true true so = omega arith
once_less true false so = absurd (let is : false ≡ true = so refl in let none : ⊥ = cc in none)

pub once_most : (a : Bool) → once_if a ≤ 1
once_most true = omega arith
once_most false = omega arith

or_less : (a b g h : Bool) → (a ≡ true → b ≡ true) → (g ≡ true → h ≡ true) → (a || g) ≡ true → (b || h) ≡ true
or_less true b g h so is any = or_left b h (so refl)
or_less false b g h so is any = or_right b h (is any)

due_less : (w a b g h : Bool) → (a ≡ true → b ≡ true) → (g ≡ true → h ≡ true) → once_if (not w && (a || g)) ≤ once_if (not w && (b || h))
due_less true a b g h so is = omega arith
due_less false a b g h so is = once_less (a || g) (b || h) (or_less a b g h so is)

-- AS IT IS ----------------------------------------------------------------------------------------

-- where a connection stands so, as far as the rounds of its request go
pub record IsLike (links : List Link) (number : ℕ) (link : Link) : Type 0 where
  pub now : Link
  pub there : link_at links number ≡ Some now
  pub opens : now.is_open ≡ link.is_open
  pub serves : is_some (front_of now) ≡ true → is_some (front_of link) ≡ true

pub like_itself : (links : List Link) (number : ℕ) (link : Link) → link_at links number ≡ Some link → IsLike links number link
like_itself links number link there = record { now = link; there = there; opens = refl; serves = λ is. is }

module _ (setting : Setting) (m n : Machine) (same : n.tick ≡ m.tick) where
  doing_same : (stepped later : Bool) (doing : Doing) → (later ≡ true → stepped ≡ true) → on_open n.links doing.connection ≡ on_open m.links doing.connection
      → (may_serve n.links doing.connection ≡ true → may_serve m.links doing.connection ≡ true) → doing_rounds setting n later doing ≤ doing_rounds setting m stepped doing
  doing_same stepped later doing so opens serves =
      subst (λ (now : ℕ). talk_rounds setting.terms now (on_open n.links doing.connection) doing.talk + once_if (not (awaits_tick setting.terms now doing.talk doing.talk.phase) && (later || may_serve n.links doing.connection)) ≤ doing_rounds setting m stepped doing) (sym same)
      (subst (λ (open_now : Bool). talk_rounds setting.terms m.tick open_now doing.talk + once_if (not (awaits_tick setting.terms m.tick doing.talk doing.talk.phase) && (later || may_serve n.links doing.connection)) ≤ doing_rounds setting m stepped doing) (sym opens)
      (let due : once_if (not (awaits_tick setting.terms m.tick doing.talk doing.talk.phase) && (later || may_serve n.links doing.connection)) ≤ once_if (not (awaits_tick setting.terms m.tick doing.talk doing.talk.phase) && (stepped || may_serve m.links doing.connection)) =
      due_less (awaits_tick setting.terms m.tick doing.talk doing.talk.phase) later stepped (may_serve n.links doing.connection) (may_serve m.links doing.connection) so serves in
      omega arith))

  pub doing_like : (stepped later : Bool) (owner : Owner) (doing : Doing) → (later ≡ true → stepped ≡ true) → HasIt m.links owner doing
      → ((number : ℕ) (link : Link) → doing.connection ≡ Some number → link_at m.links number ≡ Some link → IsLike n.links number link) → doing_rounds setting n later doing ≤ doing_rounds setting m stepped doing
  doing_like stepped later owner doing so (HasNone none) like =
      doing_same stepped later doing so (ap (on_open n.links) none ∙ sym (ap (on_open m.links) none)) (λ is. absurd (let never : false ≡ true = sym (ap (may_serve n.links) none) ∙ is in let no : ⊥ = cc in no))
  doing_like stepped later owner doing so (HasOne number link has there out) like =
      let next = like number link has there in
      doing_same stepped later doing so (open_at n.links number next.now has next.there ∙ (next.opens ∙ sym (open_at m.links number link has there)))
      (λ is. serve_at m.links number link has there ∙ next.serves (sym (serve_at n.links number next.now has next.there) ∙ is))
    where
      open_at : (links : List Link) (k : ℕ) (l : Link) → doing.connection ≡ Some k → link_at links k ≡ Some l → on_open links doing.connection ≡ l.is_open
      open_at links k l has there = ap (on_open links) has ∙ ap (λ (found : Option Link). option_map_or (λ one. one.is_open) found true) there

      serve_at : (links : List Link) (k : ℕ) (l : Link) → doing.connection ≡ Some k → link_at links k ≡ Some l → may_serve links doing.connection ≡ is_some (front_of l)
      serve_at links k l has there = ap (may_serve links) has ∙ ap (λ (found : Option Link). is_some (option_and_then front_of found)) there

  -- its rounds are no more, where those of its request are not
  pub with_less : (script : List Request) (left : ℕ) (stepped later : Bool) (now : Option Doing) (next : Option Request) → ((doing : Doing) → now ≡ Some doing → doing_rounds setting n later doing ≤ doing_rounds setting m stepped doing)
      → ((is_some now || is_some next) ≡ true → later ≡ true → stepped ≡ true) → rounds_with setting n later script left now next ≤ rounds_with setting m stepped script left now next
  with_less script left stepped later None None each so = omega arith
  with_less script left stepped later None (Some request) each so = let due : once_if later ≤ once_if stepped = once_less later stepped (so refl) in omega arith
  with_less script left stepped later (Some doing) next each so = let less : doing_rounds setting n later doing ≤ doing_rounds setting m stepped doing = each doing refl in omega arith

-- WHERE A CONNECTION ENDS -------------------------------------------------------------------------

opens_free : (terms : Terms) (now : ℕ) (a b : Bool) (last : Option ℕ) (phase : Phase) → awaits_no_call phase ≡ false → rounds_in terms now a last phase ≡ rounds_in terms now b last phase
opens_free terms now a b last (Greeting lost) free = absurd (let none : ⊥ = cc in none)
opens_free terms now a b last (Asked asking) free = absurd (let none : ⊥ = cc in none)
opens_free terms now a b last Idle free = refl
opens_free terms now a b last Unbegun free = refl
opens_free terms now a b last (Queued from) free = refl
opens_free terms now a b last (Seeking None) free = refl
opens_free terms now a b last (Seeking (Some lost)) free = refl
opens_free terms now a b last (Running state) free = refl
opens_free terms now a b last (Replaying state) free = refl

pub ends_same : (terms : Terms) (now : ℕ) (a b : Bool) (talk : Talk) → (awaits_no_call talk.phase ≡ true → a ≡ b) → talk_rounds terms now a talk ≤ talk_rounds terms now b talk
ends_same terms now a b talk same = by (awaits_no_call talk.phase) refl
  where
    by : (none : Bool) → awaits_no_call talk.phase ≡ none → talk_rounds terms now a talk ≤ talk_rounds terms now b talk
    by true is =
        let equal : rounds_in terms now a talk.last_try talk.phase ≡ rounds_in terms now b talk.last_try talk.phase = ap (λ (o : Bool). rounds_in terms now o talk.last_try talk.phase) (same is) in
        omega arith
    by false is =
        let equal : rounds_in terms now a talk.last_try talk.phase ≡ rounds_in terms now b talk.last_try talk.phase = opens_free terms now a b talk.last_try talk.phase is in
        omega arith

-- A TICK ------------------------------------------------------------------------------------------

zero_lt : (n : ℕ) → nat_lt 0 n ≡ true → 0 < n
zero_lt n is = grind (arith, nat_tests)

-- so much of a wait is over
slot_tick : (terms : Terms) (now : ℕ) (from : ℕ) → from ≤ now → (awaits : Bool) → nat_lt 0 (slot_wait terms now (Some from)) ≡ awaits → slot_wait terms (now + 1) (Some from) + once_if awaits ≤ slot_wait terms now (Some from)
slot_tick terms now from past true is = let some : 0 < slot_wait terms now (Some from) = zero_lt (slot_wait terms now (Some from)) is in omega arith
slot_tick terms now from past false is = omega arith

try_tick : (terms : Terms) (now : ℕ) (last : Option ℕ) → at_most now last ≡ true → (awaits : Bool) → nat_lt 0 (try_wait terms now last) ≡ awaits → try_wait terms (now + 1) last + once_if awaits ≤ try_wait terms now last
try_tick terms now None past true is = let some : 0 < try_wait terms now None = zero_lt (try_wait terms now None) is in omega arith
try_tick terms now None past false is = omega arith
try_tick terms now (Some tick) past true is =
    let some : 0 < try_wait terms now (Some tick) = zero_lt (try_wait terms now (Some tick)) is in
    let before : tick ≤ now = le_from tick now past in
    omega arith
try_tick terms now (Some tick) past false is = omega arith

in_tick : (terms : Terms) (now : ℕ) (opens : Bool) (talk : Talk) (phase : Phase) → at_most now talk.last_try ≡ true → at_most now (waits_from phase) ≡ true
    → rounds_in terms (now + 1) opens talk.last_try phase + once_if (awaits_tick terms now talk phase) ≤ rounds_in terms now opens talk.last_try phase
in_tick terms now opens talk Idle last from = omega arith
in_tick terms now opens talk Unbegun last from = omega arith
in_tick terms now opens talk (Queued None) last from = omega arith
in_tick terms now opens talk (Queued (Some tick)) last from =
    let less : slot_wait terms (now + 1) (Some tick) + once_if (awaits_tick terms now talk (Queued (Some tick))) ≤ slot_wait terms now (Some tick) = slot_tick terms now tick (le_from tick now from) (nat_lt 0 (slot_wait terms now (Some tick))) refl in
    omega arith
in_tick terms now opens talk (Seeking None) last from =
    let less : try_wait terms (now + 1) talk.last_try + once_if (awaits_tick terms now talk (Seeking None)) ≤ try_wait terms now talk.last_try = try_tick terms now talk.last_try last (nat_lt 0 (try_wait terms now talk.last_try)) refl in
    omega arith
in_tick terms now opens talk (Seeking (Some lost)) last from =
    let less : try_wait terms (now + 1) talk.last_try + once_if (awaits_tick terms now talk (Seeking (Some lost))) ≤ try_wait terms now talk.last_try = try_tick terms now talk.last_try last (nat_lt 0 (try_wait terms now talk.last_try)) refl in
    omega arith
in_tick terms now opens talk (Greeting None) last from = omega arith
in_tick terms now opens talk (Greeting (Some lost)) last from = omega arith
in_tick terms now opens talk (Asked asking) last from = omega arith
in_tick terms now opens talk (Running state) last from = omega arith
in_tick terms now opens talk (Replaying state) last from = omega arith

-- A request whose step of the round is done takes a round less behind the tick, where no frame is
-- left to be served.
pub doing_tick : (setting : Setting) (m n : Machine) (doing : Doing) → n.tick ≡ m.tick + 1 → n.links ≡ m.links → may_serve m.links doing.connection ≡ false → at_most m.tick doing.talk.last_try ≡ true → at_most m.tick (waits_from doing.talk.phase) ≡ true
    → doing_rounds setting n false doing + 1 ≤ doing_rounds setting m true doing
doing_tick setting m n doing tick links none last from =
    subst (λ (now : ℕ). talk_rounds setting.terms now (on_open n.links doing.connection) doing.talk + once_if (not (awaits_tick setting.terms now doing.talk doing.talk.phase) && may_serve n.links doing.connection) + 1 ≤ doing_rounds setting m true doing) (sym tick)
    (subst (λ (all : List Link). talk_rounds setting.terms (m.tick + 1) (on_open all doing.connection) doing.talk + once_if (not (awaits_tick setting.terms (m.tick + 1) doing.talk doing.talk.phase) && may_serve all doing.connection) + 1 ≤ doing_rounds setting m true doing) (sym links)
    (subst (λ (front : Bool). talk_rounds setting.terms (m.tick + 1) (on_open m.links doing.connection) doing.talk + once_if (not (awaits_tick setting.terms (m.tick + 1) doing.talk doing.talk.phase) && front) + 1 ≤ doing_rounds setting m true doing) (sym none)
    (let less : rounds_in setting.terms (m.tick + 1) (on_open m.links doing.connection) doing.talk.last_try doing.talk.phase + once_if (awaits_tick setting.terms m.tick doing.talk doing.talk.phase)
    ≤ rounds_in setting.terms m.tick (on_open m.links doing.connection) doing.talk.last_try doing.talk.phase = in_tick setting.terms m.tick (on_open m.links doing.connection) doing.talk doing.talk.phase last from in
    let zero : once_if (not (awaits_tick setting.terms (m.tick + 1) doing.talk doing.talk.phase) && false) ≡ 0 = never (awaits_tick setting.terms (m.tick + 1) doing.talk doing.talk.phase) in
    let one : once_if (awaits_tick setting.terms m.tick doing.talk doing.talk.phase) + once_if (not (awaits_tick setting.terms m.tick doing.talk doing.talk.phase) && true) ≡ 1 = either (awaits_tick setting.terms m.tick doing.talk doing.talk.phase) in
    omega arith)))
  where
    never : (a : Bool) → once_if (not a && false) ≡ 0
    never true = refl
    never false = refl

    either : (a : Bool) → once_if a + once_if (not a && true) ≡ 1
    either true = omega arith
    either false = omega arith
