-- Where a session is one ahead of what is held, the transaction of the number held is its last one,
-- and it ends with the call that is out.
use Rattle.std.proofs.Common.{◌≡◌, refl, sym, ap, subst, ◌∙◌, Bool, true, false, ℕ, ◌+◌, ◌≤◌, ◌&&◌, ◌||◌, cond, length, length-append, List, [], ◌∷◌, ◌++◌, filter, filter_map, fold, Option, Some, None, arith, if◌then◌else◌}
use Rattle.std.specs.Prelude.{◌==◌, not, nat_le, is_some, is_none, option_map, slice_get}
use Rattle.std.specs.List.{last_or, cons_option}
use Rattle.std.specs.Option.{option_map_or}
use Rattle.std.proofs.lemmas.Bool.{and_parts, not-true}
use Rattle.std.proofs.lemmas.List.{length_push}
use Rattle.svc_values.specs.declared.call.Call.{Call}
use Rattle.svc_values.specs.declared.frame.Up.{Up}
use Rattle.svc_values.specs.declared.frame.Up.TheVariants as up
use Rattle.svc_values.specs.declared.frame.Down.{Down}
use Rattle.svc_values.specs.meaning.Endings.{ends_committed}
use Rattle.svc_values.specs.meaning.Same.{same_bool, same_call, same_draws}
use Rattle.svc_values.specs.SameLaws.{same_call_decides}
use Rattle.outage_schedule.specs.declared.item.Item.{Item}
use Rattle.outage_schedule.specs.declared.item.Item.TheVariants as item
use Rattle.world_model.specs.records.Basic.{ends_life, is_stopped, none_behind}
use Rattle.world_model.specs.meaning.Crashing.{is_crashed_item}
use Rattle.world_model.specs.meaning.Frames.{Sent, Reply, Handled}
use Rattle.world_model.specs.meaning.Links.{Link}
use Rattle.world_model.specs.records.Number.{is_stopped_call, last_is_stopped_commit, last_served_made, made_entry}
use Rattle.world_model.specs.Parts.{is_answered, is_commit_call, is_rep, held_number, out_frame, served_reps}
use Rattle.invariant_laws.specs.Same.{ServedCall, Ran, did_all, ends_on_server, ran_by, ran_item, with_call}
use Rattle.world_model.specs.Sames.{is_front, same_owners, same_reply, same_sent, same_up}
use Rattle.world_model.specs.meaning.Serving.{is_commit, is_item_of, is_last}
use Rattle.world_model.specs.records.Wire.{counted_with, handled_from, is_handled, replies_of, reply_to}
use Rattle.world_model.proofs.Offered.{Known, commits_all, commits_behind, Was, Ordinary, Halted, counted_same, last_handled, plain_commits, rep_of, stopped_item, stopped_silent, was_so, all_level, get_last, front_long, reply_rep, eq_from, le_from}
use Rattle.invariant_laws.proofs.history.RanSessions.{over_same}

-- ONE ITEM ----------------------------------------------------------------------------------------

-- the call of an item, and of a frame
abbrev called_in : Item → Option Call
called_in (item.Call marked call answers draws) = Some call
called_in (item.CrashedCall marked call) = Some call
called_in _ = None

abbrev pub is_call_in : Call → Up → Bool
is_call_in call (up.Call replay kept other) = same_call call other
is_call_in call _ = false

abbrev step : Ran → Handled → Ran
step ran one = ran_item ran one.sent one.served.item

-- a transaction more is over, and ends with the item's call
record Made (ran later : Ran) (sent : Sent) (one : Item) : Type 0 where
  did : ServedCall
  from : did.sent ≡ sent
  over : later.over ≡ ran.over ++ (ran.pieces ++ did ∷ []) ∷ []
  called : called_in one ≡ Some did.piece.call

did_over : (ran : Ran) (committed ended : Bool) (dids : List ServedCall) → (did_all ran committed ended dids).over ≡ cond committed (ran.over ++ dids ∷ []) ran.over
did_over ran true ended dids = refl
did_over ran false true dids = refl
did_over ran false false dids = refl

made_over : (ran : Ran) (sent : Sent) (one : Item) → made_entry one ≡ true → Made ran (ran_item ran sent one) sent one
made_over ran sent (item.Call marked call answers draws) made =
    record { did = did; from = refl; over = did_over (with_call ran call) (ends_committed answers) (ends_on_server answers) dids ∙ by (ends_committed answers) made; called = refl }
  where
    did : ServedCall
    did = record { sent = sent; mark = marked; piece = record { call = call; answers = answers; draws = draws } }

    dids : List ServedCall
    dids = ran.pieces ++ did ∷ []

    by : (committed : Bool) → (committed || false) ≡ true → cond committed ((with_call ran call).over ++ dids ∷ []) (with_call ran call).over ≡ ran.over ++ dids ∷ []
    by true so = ap (λ (over : List (List ServedCall)). over ++ dids ∷ []) (over_same ran call)
    by false so = absurd (let none : ⊥ = cc in none)
made_over ran sent (item.CrashedCall marked call) made =
    record { did = record { sent = sent; mark = marked; piece = record { call = call; answers = []; draws = [] } }; from = refl; over = refl; called = refl }
made_over ran sent one made = absurd (let none : ⊥ = cc in none)

-- no more are
others_over : (ran : Ran) (sent : Sent) (one : Item) → made_entry one ≡ false → (ran_item ran sent one).over ≡ ran.over
others_over ran sent (item.Call marked call answers draws) none =
    did_over (with_call ran call) (ends_committed answers) (ends_on_server answers) (ran.pieces ++ record { sent = sent; mark = marked; piece = record { call = call; answers = answers; draws = draws } } ∷ [])
    ∙ by (ends_committed answers) _ none
  where
    by : (committed : Bool) (more : List (List ServedCall)) → (committed || false) ≡ false → cond committed more (with_call ran call).over ≡ ran.over
    by true more so = absurd (let never : ⊥ = cc in never)
    by false more so = over_same ran call
others_over ran sent (item.CrashedCall marked call) none = absurd (let never : ⊥ = cc in never)
others_over ran sent one none = refl

-- an item of a frame without an answer makes none
crashed_answered : (frame : Up) (one : Item) → is_crashed_item frame one ≡ true → is_answered frame ≡ true
crashed_answered (up.Call replay kept call) one is = refl
crashed_answered (up.Outcome x) one is = refl
crashed_answered frame one is = absurd (let none : ⊥ = cc in none)

stopped_rep : (commits : ℕ) (one : Handled) → is_handled commits one ≡ true → is_stopped_call one.served.item ≡ true → is_rep one.sent ≡ true
stopped_rep commits one is stopped = by (was_so commits one is)
  where
    by : Was commits one → is_rep one.sent ≡ true
    by (Ordinary item_is same) = let never : is_stopped_call one.served.item ≡ false = stopped_item one.sent.frame one.served.item item_is in absurd (let no : ⊥ = cc in no)
    by (Halted crashed none) = crashed_answered one.sent.frame one.served.item crashed

plain_made : (commits : ℕ) (one : Handled) → is_handled commits one ≡ true → is_rep one.sent ≡ false → made_entry one.served.item ≡ false
plain_made commits one is plain = by (is_commit one.served.item) (is_stopped_call one.served.item) (plain_commits commits one is plain) refl
  where
    by : (commit stopped : Bool) → commit ≡ false → is_stopped_call one.served.item ≡ stopped → (commit || stopped) ≡ false
    by true stopped none so = absurd (let never : ⊥ = cc in never)
    by false true none so = let rep : is_rep one.sent ≡ true = stopped_rep commits one is so in absurd (let never : ⊥ = cc in never)
    by false false none so = refl

stopped_commits : (one : Item) → is_stopped_call one ≡ true → is_commit one ≡ false
stopped_commits (item.CrashedCall marked call) is = refl
stopped_commits one is = absurd (let none : ⊥ = cc in none)

stopped_ends : (one : Item) → (is_last one || is_stopped one) ≡ false → is_stopped_call one ≡ false
stopped_ends (item.CrashedCall marked call) is = absurd (let none : ⊥ = cc in none)
stopped_ends one is = refl

-- THE LAST TRANSACTION ----------------------------------------------------------------------------

record EndsWith (ran : Ran) (sent : Sent) (one : Item) : Type 0 where
  earlier : List (List ServedCall)
  before : List ServedCall
  did : ServedCall
  from : did.sent ≡ sent
  over : ran.over ≡ earlier ++ (before ++ did ∷ []) ∷ []
  called : called_in one ≡ Some did.piece.call

made_ends : (ran : Ran) (sent : Sent) (one : Item) → made_entry one ≡ true → EndsWith (ran_item ran sent one) sent one
made_ends ran sent one made = let so = made_over ran sent one made in record { earlier = ran.over; before = ran.pieces; did = so.did; from = so.from; over = so.over; called = so.called }

still_ends : (ran later : Ran) (sent : Sent) (one : Item) → later.over ≡ ran.over → EndsWith ran sent one → EndsWith later sent one
still_ends ran later sent one same ends = record { earlier = ends.earlier; before = ends.before; did = ends.did; from = ends.from; over = same ∙ ends.over; called = ends.called }

-- where the answered frame that was served last made an entry, the last transaction ends with its
-- call
ends_last : (commits : ℕ) (served : List Handled) (ran : Ran) (found : Option Handled) (last : Handled) → handled_from commits served ≡ true
    → ((one : Handled) → found ≡ Some one → made_entry one.served.item ≡ true → EndsWith ran one.sent one.served.item) → last_or found (filter rep_of served) ≡ Some last → made_entry last.served.item ≡ true → EndsWith (fold step ran served) last.sent last.served.item
ends_last commits [] ran found last handled known is made = known last is made
ends_last commits (one ∷ others) ran found last handled known is made = by (rep_of one) refl is (λ f k e. ends_last now others (step ran one) f last parts.1 k e made)
  where
    now : ℕ
    now = counted_with commits one.served.item

    parts : (is_handled now one ≡ true) × (handled_from now others ≡ true)
    parts = and_parts (is_handled now one) (handled_from now others) handled

    by : (rep : Bool) → rep_of one ≡ rep → last_or found (cond rep (one ∷ filter rep_of others) (filter rep_of others)) ≡ Some last
        → ((f : Option Handled) → ((h : Handled) → f ≡ Some h → made_entry h.served.item ≡ true → EndsWith (step ran one) h.sent h.served.item) → last_or f (filter rep_of others) ≡ Some last → EndsWith (fold step (step ran one) others) last.sent last.served.item)
        → EndsWith (fold step (step ran one) others) last.sent last.served.item
    by true rep is again =
        again (Some one)
        (λ h same made_so. let equal : one ≡ h = cc in
        subst (λ (x : Handled). EndsWith (step ran one) x.sent x.served.item) equal (made_ends ran one.sent one.served.item (subst (λ (x : Handled). made_entry x.served.item ≡ true) (sym equal) made_so))) is
    by false rep is again =
        again found (λ h same made_so. still_ends ran (step ran one) h.sent h.served.item (others_over ran one.sent one.served.item (plain_made now one parts.0 rep)) (known h same made_so)) is

-- HOW MANY ----------------------------------------------------------------------------------------

abbrev last_stopped : List Handled → Bool
last_stopped served = option_map_or (λ one. is_stopped_call one.served.item) (last_or None served) false

count_commit : (commits : ℕ) (one : Item) → is_commit one ≡ true → counted_with commits one ≡ commits + 1
count_commit commits one is = ap (λ (test : Bool). if test then commits + 1 else commits) is

made_count : (ran : Ran) (sent : Sent) (one : Item) → made_entry one ≡ true → length (ran_item ran sent one).over ≡ length ran.over + 1
made_count ran sent one made = let so = made_over ran sent one made in ap length so.over ∙ length_push ran.over (ran.pieces ++ so.did ∷ [])

-- one for each that was answered Committed
one_count : (commits : ℕ) (ran : Ran) (sent : Sent) (one : Item) → length ran.over ≡ commits → is_stopped_call one ≡ false → length (ran_item ran sent one).over ≡ counted_with commits one
one_count commits ran sent one same none = by (is_commit one) refl
  where
    by : (commit : Bool) → is_commit one ≡ commit → length (ran_item ran sent one).over ≡ counted_with commits one
    by true is = made_count ran sent one (ap (λ (test : Bool). test || is_stopped_call one) is) ∙ (ap (λ (n : ℕ). n + 1) same ∙ sym (count_commit commits one is))
    by false is =
        ap length (others_over ran sent one (ap (λ (test : Bool). test || is_stopped_call one) is ∙ none)) ∙ (same ∙ sym (counted_same commits one is))

-- and one for the call that was stopped, behind which nothing is served
over_count : (commits : ℕ) (served : List Handled) (ran : Ran) → length ran.over ≡ commits → none_behind served ≡ true → length (fold step ran served).over ≡ commits_behind commits served + cond (last_stopped served) 1 0
over_count commits [] ran same alone = omega (arith, same)
over_count commits (one ∷ []) ran same alone = by (is_stopped_call one.served.item) refl
  where
    by : (stopped : Bool) → is_stopped_call one.served.item ≡ stopped → length (step ran one).over ≡ counted_with commits one.served.item + cond stopped 1 0
    by true is =
        let more : length (step ran one).over ≡ length ran.over + 1 = made_count ran one.sent one.served.item (made_of (is_commit one.served.item) (is_stopped_call one.served.item) is) in
        let count : counted_with commits one.served.item ≡ commits = counted_same commits one.served.item (stopped_commits one.served.item is) in
        omega (arith, more, count, same)
      where
        made_of : (commit stopped : Bool) → stopped ≡ true → (commit || stopped) ≡ true
        made_of true stopped is = refl
        made_of false stopped is = is
    by false is = let count : length (step ran one).over ≡ counted_with commits one.served.item = one_count commits ran one.sent one.served.item same is in omega (arith, count)
over_count commits (one ∷ next ∷ others) ran same alone =
    let parts = and_parts (not (ends_life one)) (none_behind (next ∷ others)) alone in
    over_count (counted_with commits one.served.item) (next ∷ others) (step ran one)
    (one_count commits ran one.sent one.served.item same (stopped_ends one.served.item (not-true (is_last one.served.item || is_stopped one.served.item) parts.0))) parts.1

abbrev replies_as : Handled → Down → Reply
replies_as one frame = record { to = one.sent; frame = frame }

-- what was stopped has no reply
silent_few : (commits : ℕ) (served : List Handled) → handled_from commits served ≡ true → last_stopped served ≡ true → length (filter_map reply_to served) + 1 ≤ length (filter rep_of served)
silent_few commits [] handled stopped = absurd (let none : ⊥ = cc in none)
silent_few commits (one ∷ []) handled stopped = by one.reply (rep_of one) (stopped_silent now one parts.0 stopped) (stopped_rep now one parts.0 stopped)
  where
    now : ℕ
    now = counted_with commits one.served.item

    parts : (is_handled now one ≡ true) × (true ≡ true)
    parts = and_parts (is_handled now one) true handled

    by : (reply : Option Down) (rep : Bool) → is_none reply ≡ true → rep ≡ true → length (cons_option (option_map (λ frame. replies_as one frame) reply) []) + 1 ≤ length (cond rep (one ∷ []) [])
    by None true none is = let less : 0 + 1 ≤ 1 = omega arith in less
    by (Some frame) rep none is = absurd (let never : ⊥ = cc in never)
    by None false none is = absurd (let never : ⊥ = cc in never)
silent_few commits (one ∷ next ∷ others) handled stopped = by one.reply (rep_of one) (reply_rep now one parts.0) (silent_few now (next ∷ others) parts.1 stopped)
  where
    now : ℕ
    now = counted_with commits one.served.item

    parts : (is_handled now one ≡ true) × (handled_from now (next ∷ others) ≡ true)
    parts = and_parts (is_handled now one) (handled_from now (next ∷ others)) handled

    by : (reply : Option Down) (rep : Bool) → (is_some reply ≡ true → rep ≡ true) → length (filter_map reply_to (next ∷ others)) + 1 ≤ length (filter rep_of (next ∷ others))
        → length (cons_option (option_map (λ frame. record { to = one.sent; frame = frame }) reply) (filter_map reply_to (next ∷ others))) + 1 ≤ length (cond rep (one ∷ filter rep_of (next ∷ others)) (filter rep_of (next ∷ others)))
    by None true follows few = omega (arith, few)
    by None false follows few = few
    by (Some frame) true follows few = omega (arith, few)
    by (Some frame) false follows few = absurd (let never : false ≡ true = follows refl in let none : ⊥ = cc in none)

-- THE CALL ----------------------------------------------------------------------------------------

ordinary_call : (frame : Up) (one : Item) (call : Call) → is_item_of frame one ≡ true → called_in one ≡ Some call → is_call_in call frame ≡ true
ordinary_call frame (item.Call marked served answers draws) call is called = by frame is
  where
    by : (other : Up) → is_item_of other (item.Call marked served answers draws) ≡ true → is_call_in call other ≡ true
    by (up.Call replay kept sent) is = let same : served ≡ call = cc in subst (λ (c : Call). same_call c sent ≡ true) same (and_parts (same_bool marked replay) (same_call served sent) is).1
    by up.Connect is = absurd (let none : ⊥ = cc in none)
    by (up.Begin settings) is = absurd (let none : ⊥ = cc in none)
    by (up.Outcome x) is = absurd (let none : ⊥ = cc in none)
    by up.End is = absurd (let none : ⊥ = cc in none)
    by up.Close is = absurd (let none : ⊥ = cc in none)
ordinary_call frame (item.CrashedCall marked served) call is called = let never : true ≡ false = stopped_item frame (item.CrashedCall marked served) is in absurd (let none : ⊥ = cc in none)
ordinary_call frame one call is called = absurd (let none : ⊥ = cc in none)

crashed_call : (frame : Up) (one : Item) (call : Call) → is_crashed_item frame one ≡ true → called_in one ≡ Some call → is_call_in call frame ≡ true
crashed_call frame (item.CrashedCall marked served) call is called = by frame is
  where
    by : (other : Up) → is_crashed_item other (item.CrashedCall marked served) ≡ true → is_call_in call other ≡ true
    by (up.Call replay kept sent) is = let same : served ≡ call = cc in subst (λ (c : Call). same_call c sent ≡ true) same (and_parts (same_bool marked replay) (same_call served sent) is).1
    by (up.Outcome x) is = absurd (let none : ⊥ = cc in none)
    by other is = absurd (let none : ⊥ = cc in none)
crashed_call frame (item.Call marked served answers draws) call is called = by frame is
  where
    by : (other : Up) → is_crashed_item other (item.Call marked served answers draws) ≡ true → is_call_in call frame ≡ true
    by (up.Call replay kept sent) is = absurd (let none : ⊥ = cc in none)
    by (up.Outcome x) is = absurd (let none : ⊥ = cc in none)
    by other is = absurd (let none : ⊥ = cc in none)
crashed_call frame one call is called = absurd (let none : ⊥ = cc in none)

call_alike : (call : Call) (a b : Up) → same_up a b ≡ true → is_call_in call a ≡ true → is_call_in call b ≡ true
call_alike call (up.Call r k c) (up.Call s l d) same is =
    subst (λ (x : Call). same_call call x ≡ true) ((same_call_decides c d).0 (and_parts (same_draws k l) (same_call c d) (and_parts (same_bool r s) (same_draws k l && same_call c d) same).1).1) is
call_alike call a b same is = absurd (let none : ⊥ = cc in none)

-- ONE CONNECTION ----------------------------------------------------------------------------------

-- the transaction of the number held, and its last call: that of the frame that is out
pub record OutRan (link : Link) : Type 0 where
  pub before : List ServedCall
  pub did : ServedCall
  pub over : slice_get (ran_by link).over (held_number link) ≡ Some (before ++ did ∷ [])
  pub sent : option_map_or (same_sent did.sent) (out_frame link) false ≡ true
  pub called : option_map_or (λ (sent : Sent). is_call_in did.piece.call sent.frame) (out_frame link) false ≡ true

module _ (link : Link) (known : Known link) (alone : none_behind link.served ≡ true) (n : ℕ) (ahead : n ≡ held_number link + 1) (counted : ((n == link.commits) || ((n == link.commits + 1) && last_is_stopped_commit link)) ≡ true) where
  abbrev start : Ran
  start = record { settings = []; at_start = []; pieces = []; over = []; starts = [] }

  -- there are as many as the number held, and one more
  held_count : length (ran_by link).over ≡ held_number link + 1
  held_count = by (last_stopped link.served) refl
    where
      all : length (ran_by link).over ≡ commits_behind 0 link.served + cond (last_stopped link.served) 1 0
      all = over_count 0 link.served start refl alone

      told : commits_behind 0 link.served ≡ link.commits
      told = commits_all link known

      unstopped : (found : Option Handled) → option_map_or (λ one. is_stopped_call one.served.item) found false ≡ false → option_map_or (λ one. is_stopped_call one.served.item && is_commit_call one.sent) found false ≡ false
      unstopped None none = refl
      unstopped (Some one) none = ap (λ (test : Bool). test && is_commit_call one.sent) none

      exactly : (stopped : Bool) → stopped ≡ false → ((n == link.commits) || ((n == link.commits + 1) && stopped)) ≡ true → n ≡ link.commits
      exactly stopped none so = eq_from n link.commits (first (n == link.commits) (n == link.commits + 1) (subst (λ (s : Bool). ((n == link.commits) || ((n == link.commits + 1) && s)) ≡ true) none so))
        where
          first : (a b : Bool) → (a || (b && false)) ≡ true → a ≡ true
          first true b so = refl
          first false true so = absurd (let none : ⊥ = cc in none)
          first false false so = absurd (let none : ⊥ = cc in none)

      by : (stopped : Bool) → last_stopped link.served ≡ stopped → length (ran_by link).over ≡ held_number link + 1
      by false is =
          let same : n ≡ link.commits = exactly (last_is_stopped_commit link) (unstopped (last_or None link.served) is) counted in
          let none : ◌≡◌ {A = ℕ} (cond (last_stopped link.served) 1 0) 0 = ap (λ (test : Bool). cond test 1 0) is in
          omega (arith, all, told, same, ahead, none)
      by true is =
          let few : length (replies_of link) + 1 ≤ length (served_reps link) = silent_few 0 link.served known.handled is in
          let most : length (served_reps link) ≤ length link.taken + 1 = le_from (length (served_reps link)) (length link.taken + 1) (and_parts (nat_le (length link.taken) (length (served_reps link))) (nat_le (length (served_reps link)) (length link.taken + 1)) known.near).1 in
          let got : length (link.taken ++ link.down) ≤ length (replies_of link) = front_long same_reply (link.taken ++ link.down) (replies_of link) (and_parts (is_front same_reply (link.taken ++ link.down) (replies_of link)) _ known.replies).0 in
          let sum : length (link.taken ++ link.down) ≡ length link.taken + length link.down = length-append link.taken link.down in
          let level : held_number link ≡ link.commits = all_level link known (omega (arith, few, most, got, sum)) in
          let one : ◌≡◌ {A = ℕ} (cond (last_stopped link.served) 1 0) 1 = ap (λ (test : Bool). cond test 1 0) is in
          omega (arith, all, told, level, one)

  pub out_ran : last_served_made link ≡ true → OutRan link
  out_ran made = by (last_or None (served_reps link)) refl (out_frame link) refl made
    where
      called : (one : Handled) (call : Call) → (k : ℕ) × (is_handled k one ≡ true) → called_in one.served.item ≡ Some call → is_call_in call one.sent.frame ≡ true
      called one call handled is = cases (was_so handled.0 one handled.1)
        where
          cases : Was handled.0 one → is_call_in call one.sent.frame ≡ true
          cases (Ordinary item_is same) = ordinary_call one.sent.frame one.served.item call item_is is
          cases (Halted crashed none) = crashed_call one.sent.frame one.served.item call crashed is

      by : (last : Option Handled) → last_or None (served_reps link) ≡ last → (out : Option Sent) → out_frame link ≡ out
          → option_map_or (λ one. made_entry one.served.item && (is_commit_call one.sent && option_map_or (same_sent one.sent) out false)) last false ≡ true → OutRan link
      by None last out is made = absurd (let none : ⊥ = cc in none)
      by (Some one) last None is made =
          absurd (let never : false ≡ true = (and_parts (is_commit_call one.sent) false (and_parts (made_entry one.served.item) (is_commit_call one.sent && false) made).1).1 in let none : ⊥ = cc in none)
      by (Some one) last (Some sent) is made =
          let two = and_parts (made_entry one.served.item) (is_commit_call one.sent && same_sent one.sent sent) made in
          let three = and_parts (is_commit_call one.sent) (same_sent one.sent sent) two.1 in
          let four = and_parts (same_owners one.sent.owner sent.owner) ((one.sent.call == sent.call) && same_up one.sent.frame sent.frame) three.1 in
          let alike : same_up one.sent.frame sent.frame ≡ true = (and_parts (one.sent.call == sent.call) (same_up one.sent.frame sent.frame) four.1).1 in
          let ends : EndsWith (ran_by link) one.sent one.served.item = ends_last 0 link.served start None one known.handled (λ h never. absurd (let no : ⊥ = cc in no)) last two.0 in
          let handled = last_handled 0 link.served None one known.handled (λ h never. absurd (let no : ⊥ = cc in no)) last in
          let count : length (ran_by link).over ≡ length ends.earlier + 1 = ap length ends.over ∙ length_push ends.earlier (ends.before ++ ends.did ∷ []) in
          let number : held_number link ≡ length ends.earlier = omega (arith, count, held_count) in
          record {
            before = ends.before;
            did = ends.did;
            over = ap (λ (over : List (List ServedCall)). slice_get over (held_number link)) ends.over ∙ (ap (slice_get (ends.earlier ++ (ends.before ++ ends.did ∷ []) ∷ [])) number ∙ get_last ends.earlier (ends.before ++ ends.did ∷ []));
            sent = ap (λ (found : Option Sent). option_map_or (same_sent ends.did.sent) found false) is ∙ (ap (λ (s : Sent). same_sent s sent) ends.from ∙ three.1);
            called = ap (λ (found : Option Sent). option_map_or (λ (s : Sent). is_call_in ends.did.piece.call s.frame) found false) is ∙ call_alike ends.did.piece.call one.sent.frame sent.frame alike (called one ends.did.piece.call handled ends.called);
          }
