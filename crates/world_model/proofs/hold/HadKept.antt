-- An open connection is one request's or idle: the counts before an event, and behind it.
use Rattle.std.proofs.Common.{◌≡◌, refl, sym, ap, subst, ◌∙◌, Bool, true, false, ℕ, suc, zero, ◌+◌, ◌≤◌, ◌&&◌, cond, List, [], ◌∷◌, count_by, Option, Some, if◌then◌else◌, arith}
use Rattle.std.specs.Prelude.{◌==◌, not, nat_le, slice_get}
use Rattle.std.specs.List.{list_all}
use Rattle.std.specs.Option.{option_map_or}
use Rattle.std.proofs.lemmas.Bool.{and_parts, and_from}
use Rattle.pool_core.specs.meaning.Slots.{Slots, drains}
use Rattle.world_model.specs.meaning.Links.{Link, link_at}
use Rattle.world_model.specs.meaning.Clients.{Doing, Client, client_at, with_client}
use Rattle.world_model.specs.meaning.Machines.{Machine}
use Rattle.world_model.specs.Traced.{Traced, Course, courses_of}
use Rattle.world_model.specs.records.Hold.{holders_of, is_had, are_had, is_idle}
use Rattle.world_model.specs.Parts.{Numbered, numbered_from}
use Rattle.world_model.proofs.events.Tests.{eq_from, eq_to, le_to, one_if, none_if}
use Rattle.world_model.proofs.events.AllLists.{at_all}
use Rattle.world_model.proofs.finish.Counts.{goes_so, clients_count, with_count, count_none}
use Rattle.world_model.proofs.hold.Held.{numbered_at}
use Rattle.world_model.proofs.events.Courses.{had_by}
use Rattle.world_model.proofs.hold.IdleKept.{is_rest, all_rest}

-- THE TEST ----------------------------------------------------------------------------------------

-- the request has the connection of this number
abbrev pub has_connection : ℕ → Doing → Bool
has_connection number doing = option_map_or (λ other. other == number) doing.connection false

abbrev pub holders : List Client → ℕ → ℕ
holders clients number = count_by (goes_so (has_connection number)) clients

abbrev pub idle_in : Slots → ℕ → ℕ
idle_in pool number = count_by (λ other. other == number) pool.idle

abbrev pub had_test : Bool → ℕ → ℕ → Bool
had_test opens holders idle = if opens then holders + idle == 1 else ((idle == 0) && nat_le holders 1)

-- of each connection
abbrev pub AllHad : Machine → Type 0
AllHad m = (number : ℕ) (link : Link) → link_at m.links number ≡ Some link → had_test link.is_open (holders m.clients number) (idle_in m.pool number) ≡ true

holders_are : (t : Traced) (number : ℕ) → holders_of (courses_of t) number ≡ holders t.machine.clients number
holders_are t number =
    clients_count (λ (course : Course). option_map_or (λ other. other == number) course.connection false) (has_connection number) (λ client place past. refl) (λ setting client place doing. refl) t.setting 1 t.machine.clients

pub all_had : (t : Traced) → are_had t ≡ true → AllHad t.machine
all_had t had zero link is = absurd (let none : ⊥ = cc in none)
all_had t had (suc index) link is =
    let same : suc index ≡ 1 + index = omega arith in
    subst (λ (n : ℕ). had_test link.is_open n (idle_in t.machine.pool (suc index)) ≡ true) (holders_are t (suc index))
    (numbered_at (is_had t (courses_of t)) 1 t.machine.links index (suc index) link same had is)

pub all_numbered : (test : Numbered → Bool) (start : ℕ) (links : List Link) → ((index number : ℕ) (link : Link) → number ≡ start + index → slice_get links index ≡ Some link → test (record { number = number; link = link }) ≡ true)
    → list_all test (numbered_from start links) ≡ true
all_numbered test start [] each = refl
all_numbered test start (link ∷ links) each =
    let here : start ≡ start + 0 = omega arith in
    and_from (test (record { number = start; link = link })) (list_all test (numbered_from (start + 1) links)) (each zero start link here refl)
    (all_numbered test (start + 1) links (λ index number one same is. let next : number ≡ start + suc index = omega arith in each (suc index) number one next is))

pub had_all : (t : Traced) → AllHad t.machine → are_had t ≡ true
had_all t each =
    all_numbered (is_had t (courses_of t)) 1 t.machine.links
    (λ index number link same is.
    let at : suc index ≡ number = omega arith in
    subst (λ (n : ℕ). had_test link.is_open n (idle_in t.machine.pool number) ≡ true) (sym (holders_are t number)) (each number link (subst (λ (n : ℕ). link_at t.machine.links n ≡ Some link) at is)))

-- ONE CONNECTION ----------------------------------------------------------------------------------

-- What becomes of a connection: it stays with who has it, it closes, it is given back, or it is
-- lent. `had` and `has`: the one client that goes on has it, before and then.
pub data HadMove (opens : Bool) (idle : ℕ) (had has now : Bool) (idle_now : ℕ) : Type 0 where
  Stays : has ≡ had → now ≡ opens → idle_now ≡ idle → HadMove opens idle had has now idle_now
  Closes : now ≡ false → (has ≡ true → had ≡ true) → HadMove opens idle had has now idle_now
  GivesBack : had ≡ true → has ≡ false → opens ≡ true → now ≡ true → idle_now ≡ idle + 1 → HadMove opens idle had has now idle_now
  IsLent : had ≡ false → has ≡ true → opens ≡ true → now ≡ true → idle ≡ idle_now + 1 → HadMove opens idle had has now idle_now

fewer : (has had : Bool) → (has ≡ true → had ≡ true) → cond has 1 0 ≤ cond had 1 0
fewer true true follows = omega arith
fewer true false follows = absurd (let never : false ≡ true = follows refl in let none : ⊥ = cc in none)
fewer false true follows = omega arith
fewer false false follows = omega arith

open_sum : (opens : Bool) (count idle : ℕ) → opens ≡ true → had_test opens count idle ≡ true → count + idle ≡ 1
open_sum true count idle is had = eq_from (count + idle) 1 had
open_sum false count idle is had = absurd (let none : ⊥ = cc in none)

pub as_open : (now : Bool) (count idle : ℕ) → now ≡ true → count + idle ≡ 1 → had_test now count idle ≡ true
as_open true count idle is sum = eq_to (count + idle) 1 sum
as_open false count idle is sum = absurd (let none : ⊥ = cc in none)

as_closed : (now : Bool) (count idle : ℕ) → now ≡ false → idle ≡ 0 → count ≤ 1 → had_test now count idle ≡ true
as_closed true count idle is none few = absurd (let never : ⊥ = cc in never)
as_closed false count idle is none few = and_from (idle == 0) (nat_le count 1) (eq_to idle 0 none) (le_to count 1 few)

had_moves : (opens : Bool) (idle : ℕ) (had has now : Bool) (idle_now before after : ℕ) → HadMove opens idle had has now idle_now → after + cond had 1 0 ≡ before + cond has 1 0
    → (now ≡ false → idle_now ≡ 0) → had_test opens before idle ≡ true → had_test now after idle_now ≡ true
had_moves opens idle had has now idle_now before after (Stays has_is now_is idle_is) count none old =
    let same : ◌≡◌ {A = ℕ} (cond has 1 0) (cond had 1 0) = ap (λ (b : Bool). cond b 1 0) has_is in
    let after_is : after ≡ before = omega arith in
    ap (λ (b : Bool). had_test b after idle_now) now_is ∙ (ap (λ (n : ℕ). had_test opens n idle_now) after_is ∙ (ap (λ (n : ℕ). had_test opens before n) idle_is ∙ old))
had_moves opens idle had has now idle_now before after (Closes now_is follows) count none old =
    let most : before + idle ≤ 1 = had_by opens before idle old in
    let few : cond has 1 0 ≤ cond had 1 0 = fewer has had follows in
    as_closed now after idle_now now_is (none now_is) (omega arith)
had_moves opens idle had has now idle_now before after (GivesBack had_is has_is opens_is now_is idle_is) count none old =
    let sum : before + idle ≡ 1 = open_sum opens before idle opens_is old in
    let one : ◌≡◌ {A = ℕ} (cond had 1 0) 1 = one_if had had_is in
    let zero_is : ◌≡◌ {A = ℕ} (cond has 1 0) 0 = none_if has has_is in
    as_open now after idle_now now_is (omega arith)
had_moves opens idle had has now idle_now before after (IsLent had_is has_is opens_is now_is idle_is) count none old =
    let sum : before + idle ≡ 1 = open_sum opens before idle opens_is old in
    let one : ◌≡◌ {A = ℕ} (cond has 1 0) 1 = one_if has has_is in
    let zero_is : ◌≡◌ {A = ℕ} (cond had 1 0) 0 = none_if had had_is in
    as_open now after idle_now now_is (omega arith)

-- ALL CONNECTIONS ---------------------------------------------------------------------------------

-- one that is not open is not idle
pub closed_none : (links : List Link) (pool : Slots) (number : ℕ) (link : Link) → all_rest links pool ≡ true → link_at links number ≡ Some link → link.is_open ≡ false → idle_in pool number ≡ 0
closed_none links pool number link rest there closed = count_none (λ (other : ℕ). other == number) pool.idle (λ index one is. by one (at_all (is_rest links pool) pool.idle index one rest is) (one == number) refl)
  where
    by : (one : ℕ) → is_rest links pool one ≡ true → (same : Bool) → (one == number) ≡ same → (one == number) ≡ false
    by one rests false same = same
    by one rests true same =
        let number_is : one ≡ number = eq_from one number same in
        let idle : option_map_or is_idle (link_at links one) false ≡ true = (and_parts (option_map_or is_idle (link_at links one) false) (not (drains pool one)) rests).0 in
        let found : link_at links one ≡ Some link = ap (link_at links) number_is ∙ there in
        let is : is_idle link ≡ true = subst (λ (l : Option Link). option_map_or is_idle l false ≡ true) found idle in
        let opens : link.is_open ≡ true = (and_parts link.is_open _ is).0 in
        absurd (let never : ⊥ = cc in never)

pub record Moved (m n : Machine) (number : ℕ) (link : Link) (had has : Bool) : Type 0 where
  pub now : Link
  pub there : link_at n.links number ≡ Some now
  pub move : HadMove link.is_open (idle_in m.pool number) had has now.is_open (idle_in n.pool number)

-- a client took a step, and each connection that was there went on so
pub record HadStep (m : Machine) (who : ℕ) (client : Client) (n : Machine) : Type 0 where
  pub next : Client
  pub clients : n.clients ≡ with_client m.clients who next
  pub moves : (number : ℕ) (link : Link) → link_at m.links number ≡ Some link → Moved m n number link (goes_so (has_connection number) client) (goes_so (has_connection number) next)

moved_had : (m n : Machine) (number : ℕ) (link one : Link) (had has : Bool) → AllHad m → all_rest n.links n.pool ≡ true → link_at m.links number ≡ Some link → Moved m n number link had has
    → holders n.clients number + cond had 1 0 ≡ holders m.clients number + cond has 1 0 → link_at n.links number ≡ Some one → had_test one.is_open (holders n.clients number) (idle_in n.pool number) ≡ true
moved_had m n number link one had has old rest at moved count is =
    let found : Some moved.now ≡ Some one = sym moved.there ∙ is in
    let same : moved.now ≡ one = cc in
    subst (λ (l : Link). had_test l.is_open (holders n.clients number) (idle_in n.pool number) ≡ true) same
    (had_moves link.is_open (idle_in m.pool number) had has moved.now.is_open (idle_in n.pool number) (holders m.clients number) (holders n.clients number) moved.move count
    (λ closed. closed_none n.links n.pool number moved.now rest moved.there closed) (old number link at))

pub step_had : (m n : Machine) (who : ℕ) (client : Client) → AllHad m → all_rest n.links n.pool ≡ true → client_at m.clients who ≡ Some client → HadStep m who client n
    → (number : ℕ) (link one : Link) → link_at m.links number ≡ Some link → link_at n.links number ≡ Some one → had_test one.is_open (holders n.clients number) (idle_in n.pool number) ≡ true
step_had m n who client old rest here step number link one at is =
    moved_had m n number link one (goes_so (has_connection number) client) (goes_so (has_connection number) step.next) old rest at (step.moves number link at)
    (ap (λ (all : List Client). holders all number + cond (goes_so (has_connection number) client) 1 0) step.clients ∙ with_count (goes_so (has_connection number)) m.clients who client step.next here) is

pub kept_had : (m n : Machine) → AllHad m → all_rest n.links n.pool ≡ true → n.clients ≡ m.clients → (number : ℕ) (link one : Link) → link_at m.links number ≡ Some link → Moved m n number link false false → link_at n.links number ≡ Some one
    → had_test one.is_open (holders n.clients number) (idle_in n.pool number) ≡ true
kept_had m n old rest clients number link one at moved is =
    moved_had m n number link one false false old rest at moved (ap (λ (all : List Client). holders all number + cond false 1 0) clients) is
