-- Idle connections are idle, event by event.
use Rattle.std.proofs.Common.{◌≡◌, ◌≢◌, refl, ap, subst, ◌∙◌, Bool, true, false, ℕ, ◌+◌, ◌≤◌, ◌&&◌, length, List, [], ◌∷◌, ◌++◌, count_by, Option, Some, None, if◌then◌else◌, arith}
use Rattle.std.specs.Prelude.{◌==◌, not, nat_le, is_some, drop}
use Rattle.std.specs.List.{list_all, last_or}
use Rattle.std.specs.Option.{option_map_or}
use Rattle.std.proofs.lemmas.Bool.{and_parts, and_from, not_from_false, not-true}
use Rattle.svc_values.specs.declared.frame.Up.{Up}
use Rattle.svc_values.specs.declared.frame.Up.TheVariants as up
use Rattle.pool_core.specs.declared.answers.Take.TheVariants as take
use Rattle.pool_core.specs.meaning.Slots.{Slots, joined, without, has_to_wait, lends, take_answer, after_take, drains, after_gone}
use Rattle.client_model.specs.declared.act.Hold.{Hold}
use Rattle.client_model.specs.declared.act.Hold.TheVariants as hold
use Rattle.client_model.specs.meaning.Released.{released}
use Rattle.client_model.specs.meaning.Terms.{Phase}
use Rattle.outage_schedule.specs.declared.item.Served.{Served}
use Rattle.world_model.specs.meaning.Frames.{Owner, Sent}
use Rattle.world_model.specs.meaning.Links.{Link, link_at, with_link, ends, sends}
use Rattle.world_model.specs.meaning.Acting.{sent_by}
use Rattle.world_model.specs.meaning.Serving.{Front, is_blocked, after_front, handled, reply_of, commits_after, pool_after}
use Rattle.world_model.specs.records.Hold.{is_end, is_idle}
use Rattle.world_model.specs.Parts.{count_reps}
use Rattle.world_model.proofs.events.Tests.{eq_from, eq_to}
use Rattle.world_model.proofs.events.AllLists.{weaker_all, append_all, one_all}
use Rattle.world_model.proofs.wire.LinkOut.{reps_more}
use Rattle.world_model.proofs.wire.Saying.{Spoken, Quiet, Fails, Ends, Asks, Calls, Marks}
use Rattle.world_model.proofs.hold.HeldSaid.{last_behind}
use Rattle.world_model.proofs.events.Lookups.{with_others, with_own}
use Rattle.world_model.proofs.hold.IdleKept.{is_rest, all_rest, each_rest, without_rest}

-- THE SAME CONNECTIONS ----------------------------------------------------------------------------

-- another pool with the same idle connections
pub record IsSameRest (a b : Slots) : Type 0 where
  pub idle : b.idle ≡ a.idle
  pub drained : b.drained ≡ a.drained

pub rest_same : (links : List Link) (a b : Slots) → IsSameRest a b → all_rest links a ≡ true → all_rest links b ≡ true
rest_same links a b same here = ap (λ (idle : List ℕ). test idle b.drained) same.idle ∙ (ap (λ (drained : ℕ). test a.idle drained) same.drained ∙ here)
  where
    test : List ℕ → ℕ → Bool
    test idle drained = list_all (λ number. option_map_or is_idle (link_at links number) false && not (nat_le number drained)) idle

-- where each of them passes as before
pub rest_links : (links later : List Link) (pool : Slots)
    → ((number : ℕ) → 1 ≤ count_by (λ one. one == number) pool.idle → option_map_or is_idle (link_at links number) false ≡ true → option_map_or is_idle (link_at later number) false ≡ true)
    → all_rest links pool ≡ true → all_rest later pool ≡ true
rest_links links later pool keeps all =
    each_rest (is_rest links pool) (is_rest later pool) pool.idle all
    (λ number some is.
    let parts = and_parts (option_map_or is_idle (link_at links number) false) (not (drains pool number)) is in
    and_from (option_map_or is_idle (link_at later number) false) (not (drains pool number)) (keeps number some parts.0) parts.1)

-- SLOTS -------------------------------------------------------------------------------------------

pub never_waits : (idle : List ℕ) → lends idle ≡ take.Waiting → ⊥
never_waits [] is = let none : ⊥ = cc in none
never_waits (first ∷ later) is = let none : ⊥ = cc in none

pub waiting_rest : (pool : Slots) (client : ℕ) → take_answer pool client ≡ take.Waiting → IsSameRest pool (after_take pool client)
waiting_rest pool client answer = by (has_to_wait pool client) answer
  where
    by : (waits : Bool) → (if waits then take.Waiting else lends pool.idle) ≡ take.Waiting
        → IsSameRest pool (if waits then record pool { queue = joined pool.queue client } else record pool { lent = pool.lent + 1; queue = without pool.queue client; idle = drop 1 pool.idle })
    by true is = record { idle = refl; drained = refl }
    by false is = absurd (never_waits pool.idle is)

open_none : (idle : List ℕ) → lends idle ≡ take.Open → drop 1 idle ≡ idle
open_none [] is = refl
open_none (first ∷ later) is = absurd (let none : ⊥ = cc in none)

pub opening_rest : (pool : Slots) (client : ℕ) → take_answer pool client ≡ take.Open → IsSameRest pool (after_take pool client)
opening_rest pool client answer = by (has_to_wait pool client) answer
  where
    by : (waits : Bool) → (if waits then take.Waiting else lends pool.idle) ≡ take.Open
        → IsSameRest pool (if waits then record pool { queue = joined pool.queue client } else record pool { lent = pool.lent + 1; queue = without pool.queue client; idle = drop 1 pool.idle })
    by true is = absurd (let none : ⊥ = cc in none)
    by false is = record { idle = open_none pool.idle is; drained = refl }

-- the first is lent, and the later ones are left
pub record IsLent (pool after : Slots) (connection : ℕ) : Type 0 where
  pub later : List ℕ
  pub idle : pool.idle ≡ connection ∷ later
  pub left : after.idle ≡ later
  pub drained : after.drained ≡ pool.drained

first_lent : (pool : Slots) (client connection : ℕ) (idle : List ℕ) → pool.idle ≡ idle → lends idle ≡ take.Lent connection
    → IsLent pool (record pool { lent = pool.lent + 1; queue = without pool.queue client; idle = drop 1 pool.idle }) connection
first_lent pool client connection [] is answer = absurd (let none : ⊥ = cc in none)
first_lent pool client connection (first ∷ later) is answer =
    let same : first ≡ connection = cc in
    record { later = later; idle = is ∙ ap (λ (n : ℕ). n ∷ later) same; left = ap (drop 1) is; drained = refl }

pub lent_rest : (pool : Slots) (client connection : ℕ) → take_answer pool client ≡ take.Lent connection → IsLent pool (after_take pool client) connection
lent_rest pool client connection answer = by (has_to_wait pool client) answer
  where
    by : (waits : Bool) → (if waits then take.Waiting else lends pool.idle) ≡ take.Lent connection
        → IsLent pool (if waits then record pool { queue = joined pool.queue client } else record pool { lent = pool.lent + 1; queue = without pool.queue client; idle = drop 1 pool.idle }) connection
    by true is = absurd (let none : ⊥ = cc in none)
    by false is = first_lent pool client connection pool.idle refl is

-- unless a connection is given back
pub released_rest : (pool : Slots) (client connection : ℕ) (holds_slot : Bool) (held : Hold) → (held ≡ hold.GiveBack → ⊥) → IsSameRest pool (released pool client connection holds_slot held)
released_rest pool client connection holds_slot hold.Keep other = record { idle = refl; drained = refl }
released_rest pool client connection holds_slot hold.GiveBack other = absurd (other refl)
released_rest pool client connection true hold.Drop other = record { idle = refl; drained = refl }
released_rest pool client connection false hold.Drop other = record { idle = refl; drained = refl }

-- GIVEN BACK --------------------------------------------------------------------------------------

-- an End is sent on a connection that is open
pub ended_by : (before : Phase) (left alive hushed : Bool) (phase : Phase) (send : List Up) (held : Hold) → Spoken before left alive hushed phase send held → held ≡ hold.GiveBack → (alive ≡ true) × (send ≡ up.End ∷ [])
ended_by before left alive hushed phase _ _ (Quiet _ hush stays) is = absurd (let none : ⊥ = cc in none)
ended_by before left alive hushed _ _ _ Fails is = absurd (let none : ⊥ = cc in none)
ended_by before left true hushed _ _ _ (Ends may) is = (refl, refl)
ended_by before left false hushed _ _ _ (Ends may) is = absurd (let none : ⊥ = cc in none)
ended_by before left alive hushed _ _ _ (Asks opens may asking) is = absurd (let none : ⊥ = cc in none)
ended_by before left alive hushed _ _ _ (Calls opens settings one state) is = absurd (let none : ⊥ = cc in none)
ended_by before left alive hushed _ _ _ (Marks opens may settings one state next plain) is = absurd (let none : ⊥ = cc in none)

-- the connection is idle then
pub ended_idle : (event : ℕ) (owner : Owner) (call : ℕ) (link : Link) → link.is_open ≡ true → is_some link.held ≡ true → count_reps link.sent ≡ length link.taken → is_idle (sends event (sent_by owner call up.End ∷ []) link) ≡ true
ended_idle event owner call link opens held none =
    let end : Sent = sent_by owner call up.End in
    let more : count_reps (link.sent ++ end ∷ []) ≡ count_reps link.sent + count_reps (end ∷ []) = reps_more link.sent (end ∷ []) in
    let zero_is : count_reps (end ∷ []) ≡ 0 = refl in
    let count : (count_reps (link.sent ++ end ∷ []) == length link.taken) ≡ true = eq_to (count_reps (link.sent ++ end ∷ [])) (length link.taken) (omega arith) in
    let last : option_map_or (λ sent. is_end sent.frame) (last_or None (link.sent ++ end ∷ [])) false ≡ true = ap (λ (found : Option Sent). option_map_or (λ sent. is_end sent.frame) found false) (last_behind None link.sent (end ∷ [])) in
    and_from link.is_open (is_some link.held && ((count_reps (link.sent ++ end ∷ []) == length link.taken) && option_map_or (λ sent. is_end sent.frame) (last_or None (link.sent ++ end ∷ [])) false)) opens
    (and_from (is_some link.held) ((count_reps (link.sent ++ end ∷ []) == length link.taken) && option_map_or (λ sent. is_end sent.frame) (last_or None (link.sent ++ end ∷ [])) false) held
    (and_from (count_reps (link.sent ++ end ∷ []) == length link.taken) (option_map_or (λ sent. is_end sent.frame) (last_or None (link.sent ++ end ∷ [])) false) count last))

-- it is given back, or it drains
pub given_rest : (links : List Link) (pool : Slots) (client connection : ℕ) (holds_slot : Bool) → all_rest links pool ≡ true → (drains pool connection ≡ false → option_map_or is_idle (link_at links connection) false ≡ true)
    → all_rest links (released pool client connection holds_slot hold.GiveBack) ≡ true
given_rest links pool client connection holds_slot all idle = by (drains pool connection) refl
  where
    by : (test : Bool) → drains pool connection ≡ test → list_all (is_rest links pool) (if test then pool.idle else pool.idle ++ connection ∷ []) ≡ true
    by true is = all
    by false is =
        append_all (is_rest links pool) pool.idle (connection ∷ []) all
        (one_all (is_rest links pool) connection (and_from (option_map_or is_idle (link_at links connection) false) (not (drains pool connection)) (idle is) (not_from_false (drains pool connection) is)))

-- SERVED, CUT -------------------------------------------------------------------------------------

-- the connection is as idle as before
pub with_rest : (links : List Link) (number : ℕ) (old new : Link) (pool : Slots) → link_at links number ≡ Some old → is_idle new ≡ is_idle old → all_rest links pool ≡ true → all_rest (with_link links number new) pool ≡ true
with_rest links number old new pool there same all = rest_links links (with_link links number new) pool (λ other some is. by other is (other == number) refl) all
  where
    by : (other : ℕ) → option_map_or is_idle (link_at links other) false ≡ true → (at : Bool) → (other == number) ≡ at → option_map_or is_idle (link_at (with_link links number new) other) false ≡ true
    by other is true at =
        let number_is : other ≡ number = eq_from other number at in
        let was : option_map_or is_idle (link_at links number) false ≡ true = subst (λ (n : ℕ). option_map_or is_idle (link_at links n) false ≡ true) number_is is in
        ap (λ (n : ℕ). option_map_or is_idle (link_at (with_link links number new) n) false) number_is
        ∙ (ap (λ (found : Option Link). option_map_or is_idle found false) (with_own links number old new there) ∙ (same ∙ subst (λ (found : Option Link). option_map_or is_idle found false ≡ true) there was))
    by other is false at =
        let differ : other ≢ number = λ e. let yes_is : (other == number) ≡ true = eq_to other number e in let never : ⊥ = cc in never in
        ap (λ (found : Option Link). option_map_or is_idle found false) (with_others links number other new differ) ∙ is

-- the connection has left the pool
pub gone_one : (links : List Link) (number : ℕ) (new : Link) (pool : Slots) → all_rest links pool ≡ true → all_rest (with_link links number new) (after_gone pool number) ≡ true
gone_one links number new pool all =
    weaker_all (λ other. is_rest links pool other && not (other == number)) (is_rest (with_link links number new) pool) (without pool.idle number)
    (λ other is.
    let parts = and_parts (is_rest links pool other) (not (other == number)) is in
    let both = and_parts (option_map_or is_idle (link_at links other) false) (not (drains pool other)) parts.0 in
    let differ : other ≢ number = λ e. let yes_is : (other == number) ≡ true = eq_to other number e in let no_is : (other == number) ≡ false = not-true (other == number) parts.1 in let never : ⊥ = cc in never in
    and_from (option_map_or is_idle (link_at (with_link links number new) other) false) (not (drains pool other)) (ap (λ (found : Option Link). option_map_or is_idle found false) (with_others links number other new differ) ∙ both.0) both.1)
    (without_rest (is_rest links pool) pool.idle number all)

-- a frame is served
pub served_rest : (event : ℕ) (links : List Link) (number : ℕ) (front : Front) (served : Served) (pool : Slots) → link_at links number ≡ Some front.link → all_rest links pool ≡ true
    → all_rest (with_link links number (handled event front served)) (pool_after pool number served.item) ≡ true
served_rest event links number front served pool there all = by (is_blocked served.item)
  where
    after : Link
    after = after_front front served (reply_of served.session (commits_after front.link served.item) served.item)

    by : (blocked : Bool) → all_rest (with_link links number (if blocked then ends event after else after)) (if blocked then after_gone pool number else pool) ≡ true
    by true = gone_one links number (ends event after) pool all
    by false = with_rest links number front.link after pool there refl all
