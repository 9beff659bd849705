-- Small facts of the items and frames of an event, for the count of entries behind it.
use Rattle.std.proofs.Common.{◌≡◌, refl, sym, ap, ◌∙◌, Bool, true, false, ℕ, suc, zero, ◌+◌, ◌≤◌, cond, length, List, ◌∷◌, Some, ◌⊎◌, inl, inr, arith}
use Rattle.std.specs.Prelude.{◌==◌, not, nat_le}
use Rattle.std.proofs.lemmas.Bool.{and_parts, not-true}
use Rattle.svc_values.specs.declared.entry.Ltxid.{Ltxid}
use Rattle.svc_values.specs.declared.entry.SessionId.{SessionId}
use Rattle.svc_values.specs.declared.frame.Up.{Up}
use Rattle.svc_values.specs.declared.frame.Up.TheVariants as up
use Rattle.outage_schedule.specs.declared.item.Item.{Item}
use Rattle.outage_schedule.specs.declared.item.Item.TheVariants as item
use Rattle.outage_schedule.specs.declared.item.Served.{Served}
use Rattle.outage_schedule.specs.declared.note.AskResult.{AskResult}
use Rattle.outage_schedule.specs.declared.note.AskResult.TheVariants as told
use Rattle.server_model.specs.meaning.Outcomes.{Stopped}
use Rattle.world_model.specs.records.Hold.{is_connect}
use Rattle.world_model.specs.meaning.Links.{Link, link_at}
use Rattle.world_model.specs.records.Number.{is_near, is_counted, ahead_rightly, is_stopped_call}
use Rattle.world_model.specs.Parts.{number_of, held_number, is_answered, is_commit_frame, is_unmarked_frame, is_out}
use Rattle.world_model.specs.meaning.Serving.{Front, front_at, is_item_of, is_commit, is_last}
use Rattle.world_model.specs.meaning.Crashing.{is_crashed_item}
use Rattle.world_model.specs.meaning.ServiceDid.{item_telling}
use Rattle.world_model.specs.Traced.{Traced}
use Rattle.world_model.proofs.events.AllLinks.{front_is}
use Rattle.world_model.proofs.number.LinkCounts.{Right}
use Rattle.world_model.proofs.basic.LinkLives.{implied}
use Rattle.world_model.proofs.events.Tests.{eq_to, le_from}

-- THE TESTS ---------------------------------------------------------------------------------------

pub right_from : (t : Traced) (link : Link) → is_near t link ≡ true → is_counted t link ≡ true → ahead_rightly t link ≡ true → Right (number_of t.entries link) link
right_from t link near counted ahead =
    let parts = and_parts (nat_le (held_number link) (number_of t.entries link)) _ near in
    record {
      least = le_from (held_number link) (number_of t.entries link) parts.0;
      most = le_from (number_of t.entries link) _ parts.1;
      counted = counted;
      ahead = λ over.
          let all = implied (number_of t.entries link == held_number link + 1) _ (eq_to (number_of t.entries link) (held_number link + 1) over) ahead in
          let one = and_parts (is_out link) _ all in
          let two = and_parts _ (not _) one.1 in
          (one.0, two.0, not-true _ two.1);
    }

-- SMALL FACTS -------------------------------------------------------------------------------------

pub same_some : {A : Type 0} (a b : A) → Some a ≡ Some b → a ≡ b
same_some a b same = cc

pub is_front_link : (links : List Link) (number : ℕ) (front : Front) (link : Link) → front_at links number ≡ Some front → link_at links number ≡ Some link → (front.link ≡ link) × (link.is_living ≡ true)
is_front_link links number front link at there =
    let is = front_is links number front at in
    let same : front.link ≡ link = same_some front.link link (sym is.there ∙ there) in
    (same, ap (λ (l : Link). l.is_living) (sym same) ∙ is.living)

pub too_short : (served : Served) (left : List Served) → left ≡ served ∷ left → ⊥
too_short served left same =
    let long : length left ≡ length (served ∷ left) = ap length same in
    let more : length (served ∷ left) ≡ length left + 1 = omega arith in
    let never : ⊥ = omega arith in never

pub not_connect_last : (frame : Up) (one : Item) → is_item_of frame one ≡ true → is_last one ≡ true → is_connect frame ≡ false
not_connect_last up.Connect item.Close is last = absurd (let none : ⊥ = cc in none)
not_connect_last up.Connect (item.Blocked call) is last = absurd (let none : ⊥ = cc in none)
not_connect_last up.Connect one is last = absurd (let none : ⊥ = cc in none)
not_connect_last frame one is last = refl

pub not_last_committed : (one : Item) → is_last one ≡ true → is_commit one ≡ false
not_last_committed (item.Call marked call answers draws) last = absurd (let none : ⊥ = cc in none)
not_last_committed one last = refl

pub says_so : (session : SessionId) (commits : ℕ) (asked : Ltxid) (result : AskResult) → item_telling session commits (item.Outcome asked result) ≡ Stopped → ⊥
says_so session commits asked (told.Committed completed) is = let none : ⊥ = cc in none
says_so session commits asked told.Uncommitted is = let none : ⊥ = cc in none
says_so session commits asked (told.ServerAhead next) is = let none : ⊥ = cc in none
says_so session commits asked (told.ClientAhead next) is = let none : ⊥ = cc in none
says_so session commits asked (told.Forgotten horizon) is = let none : ⊥ = cc in none

-- an item that was not stopped is told
abbrev pub is_halted : Item → Bool
is_halted (item.CrashedCall marked call) = true
is_halted (item.CrashedOutcome asked) = true
is_halted one = false

pub told_item : (session : SessionId) (commits : ℕ) (one : Item) → is_halted one ≡ false → item_telling session commits one ≡ Stopped → ⊥
told_item session commits (item.CrashedCall marked call) going is = let none : ⊥ = cc in none
told_item session commits (item.CrashedOutcome asked) going is = let none : ⊥ = cc in none
told_item session commits (item.Outcome asked result) going is = says_so session commits asked result is
told_item session commits one going is = let none : ⊥ = cc in none

pub ordinary_going : (frame : Up) (one : Item) → is_item_of frame one ≡ true → is_halted one ≡ false
ordinary_going up.Connect (item.CrashedCall marked call) is = absurd (let none : ⊥ = cc in none)
ordinary_going (up.Begin settings) (item.CrashedCall marked call) is = absurd (let none : ⊥ = cc in none)
ordinary_going (up.Call replay kept called) (item.CrashedCall marked call) is = absurd (let none : ⊥ = cc in none)
ordinary_going (up.Outcome x) (item.CrashedCall marked call) is = absurd (let none : ⊥ = cc in none)
ordinary_going up.End (item.CrashedCall marked call) is = absurd (let none : ⊥ = cc in none)
ordinary_going up.Close (item.CrashedCall marked call) is = absurd (let none : ⊥ = cc in none)
ordinary_going up.Connect (item.CrashedOutcome asked) is = absurd (let none : ⊥ = cc in none)
ordinary_going (up.Begin settings) (item.CrashedOutcome asked) is = absurd (let none : ⊥ = cc in none)
ordinary_going (up.Call replay kept called) (item.CrashedOutcome asked) is = absurd (let none : ⊥ = cc in none)
ordinary_going (up.Outcome x) (item.CrashedOutcome asked) is = absurd (let none : ⊥ = cc in none)
ordinary_going up.End (item.CrashedOutcome asked) is = absurd (let none : ⊥ = cc in none)
ordinary_going up.Close (item.CrashedOutcome asked) is = absurd (let none : ⊥ = cc in none)
ordinary_going frame one is = refl

pub commit_connects : (frame : Up) (one : Item) → is_item_of frame one ≡ true → is_commit one ≡ true → is_connect frame ≡ false
commit_connects up.Connect (item.Call marked call answers draws) is commit = absurd (let none : ⊥ = cc in none)
commit_connects up.Connect one is commit = absurd (let none : ⊥ = cc in none)
commit_connects frame one is commit = refl

-- a frame that was stopped is a call, or an outcome was asked
pub crashed_rep : (frame : Up) (one : Item) → is_crashed_item frame one ≡ true → (is_answered frame ≡ true) × (is_connect frame ≡ false) × (is_commit one ≡ false)
crashed_rep (up.Call replay kept called) (item.CrashedCall marked call) is = (refl, refl, refl)
crashed_rep (up.Outcome x) (item.CrashedOutcome asked) is = (refl, refl, refl)
crashed_rep up.Connect one is = absurd (let none : ⊥ = cc in none)
crashed_rep (up.Begin settings) one is = absurd (let none : ⊥ = cc in none)
crashed_rep up.End one is = absurd (let none : ⊥ = cc in none)
crashed_rep up.Close one is = absurd (let none : ⊥ = cc in none)
crashed_rep (up.Call replay kept called) one is = absurd (let none : ⊥ = cc in none)
crashed_rep (up.Outcome x) one is = absurd (let none : ⊥ = cc in none)

pub crashed_commit : (frame : Up) (one : Item) → is_crashed_item frame one ≡ true → is_commit_frame frame ≡ true → is_stopped_call one ≡ true
crashed_commit (up.Call replay kept called) (item.CrashedCall marked call) is commit = refl
crashed_commit (up.Outcome x) (item.CrashedOutcome asked) is commit = absurd (let none : ⊥ = cc in none)
crashed_commit up.Connect one is commit = absurd (let none : ⊥ = cc in none)
crashed_commit (up.Begin settings) one is commit = absurd (let none : ⊥ = cc in none)
crashed_commit up.End one is commit = absurd (let none : ⊥ = cc in none)
crashed_commit up.Close one is commit = absurd (let none : ⊥ = cc in none)
crashed_commit (up.Call replay kept called) one is commit = absurd (let none : ⊥ = cc in none)
crashed_commit (up.Outcome x) one is commit = absurd (let none : ⊥ = cc in none)

pub connect_marked : (frame : Up) → is_connect frame ≡ true → is_unmarked_frame frame ≡ false
connect_marked up.Connect is = refl
connect_marked (up.Call replay kept called) is = absurd (let none : ⊥ = cc in none)
connect_marked (up.Begin settings) is = refl
connect_marked (up.Outcome x) is = refl
connect_marked up.End is = refl
connect_marked up.Close is = refl

pub one_or_none : (n e next : ℕ) → next ≡ n + e → next ≤ n + 1 → (next ≡ n) ⊎ (next ≡ n + 1)
one_or_none n zero next sum few = inl (let same : next ≡ n = omega arith in same)
one_or_none n (suc e) next sum few = inr (let same : next ≡ n + 1 = omega arith in same)

pub plus_cond : (n : ℕ) (test : Bool) → test ≡ false → n + cond test 1 0 ≡ n
plus_cond n true is = absurd (let none : ⊥ = cc in none)
plus_cond n false is = omega arith

pub plus_cond_one : (n : ℕ) (test : Bool) → test ≡ true → n + cond test 1 0 ≡ n + 1
plus_cond_one n true is = refl
plus_cond_one n false is = absurd (let none : ⊥ = cc in none)
