-- Along a legal history the entries of a session whose calls have no mark, and of which none was
-- stopped, drew no value more often than the session drew it anew.
use Rattle.std.proofs.Common.{◌≡◌, refl, sym, ap, subst, ◌∙◌, ℕ, ◌+◌, ◌&&◌, Bool, true, false, not, List, [], ◌∷◌, ◌++◌, Some, if◌then◌else◌, arith, ◌≤◌}
use Rattle.std.specs.Prelude.{flat_map, filter}
use Rattle.std.specs.List.{list_all}
use Rattle.std.proofs.lemmas.Bool.{and_parts}
use Rattle.svc_values.specs.declared.draw.Draw.{Draw}
use Rattle.svc_values.specs.declared.entry.Entry.{Entry}
use Rattle.svc_values.specs.declared.entry.Ltxid.{Ltxid}
use Rattle.svc_values.specs.declared.entry.SessionId.{SessionId}
use Rattle.svc_values.specs.declared.frame.Down.TheVariants as down
use Rattle.svc_values.specs.declared.frame.Up.{Up}
use Rattle.svc_values.specs.declared.frame.Up.TheVariants as up
use Rattle.svc_values.specs.meaning.Endings.{ends_committed}
use Rattle.svc_values.specs.meaning.Identifiers.{same_session}
use Rattle.server_model.specs.meaning.Base.{Base}
use Rattle.server_model.specs.meaning.Fresh.{draws_in, draws_of, new_in}
use Rattle.server_model.specs.meaning.Items.{Thing, Connected, Began, Called, MetBlock, TellsOutcome, EndedRequest, Closed, Refused, CallStopped, OutcomeStopped, Item, Did, thing_of, asked_of}
use Rattle.server_model.specs.Items.{items_from}
use Rattle.server_model.specs.meaning.Legal.{deed_holds, is_of_now, item_holds, items_hold}
use Rattle.server_model.specs.meaning.Outcomes.{Telling, Silent, Says, Stopped}
use Rattle.server_model.specs.Runs.{Happened, Served, Asked}
use Rattle.server_model.specs.meaning.Walk.{Transaction, begun, Walk, transaction_in, Performed, deed, deed_of, ends, entered, after}
use Rattle.invariant_laws.specs.SessionHistory.{served_in}
use Rattle.once_laws.proofs.Offered.{times, times_both, all_new}
use Rattle.invariant_laws.proofs.Offered.{is_its, asked_same, both_hold, none_left, transaction_own, IsSameWalk, Moved, enters, thing_moved}
use Rattle.fresh_laws.proofs.SessionEntries.{its, open_in, same_its, same_open, other_its, other_open, Spent, Commits, Ends, Stays, call_spent}
use Rattle.fresh_laws.proofs.DrawnFor.{is_by, new_by, drawn_for, is_session}
use Rattle.fresh_laws.proofs.FrameDraws.{performed_drew}
use Rattle.world_model.proofs.Offered.{same_session_is, session_self}

-- PLAIN FRAMES ------------------------------------------------------------------------------------

abbrev is_said : Telling → Bool
is_said (Says frame) = true
is_said _ = false

-- a call has no mark, and was answered
abbrev pub plain_told : Up → Telling → Bool
plain_told (up.Call replay kept called) told = not replay && is_said told
plain_told _ told = true

abbrev pub is_plain : Up × Telling → Bool
is_plain pair = plain_told pair.0 pair.1

abbrev plain_thing : Thing → Bool
plain_thing (Called replay kept called answers draws) = not replay
plain_thing (CallStopped replay called) = false
plain_thing _ = true

thing_plain : (frame : Up) (told : Telling) → plain_told frame told ≡ true → plain_thing (thing_of frame told) ≡ true
thing_plain (up.Call replay kept called) (Says (down.Reply answers draws x)) is = (and_parts (not replay) true is).0
thing_plain (up.Call replay kept called) (Says down.Blocked) is = refl
thing_plain (up.Call replay kept called) (Says frame) is = refl
thing_plain (up.Call replay kept called) Silent is = absurd (let none : ⊥ = false_of (not replay) is in none)
  where
    false_of : (test : Bool) → (test && false) ≡ true → ⊥
    false_of true is = let none : ⊥ = cc in none
    false_of false is = let none : ⊥ = cc in none
thing_plain (up.Call replay kept called) Stopped is = absurd (let none : ⊥ = false_of (not replay) is in none)
  where
    false_of : (test : Bool) → (test && false) ≡ true → ⊥
    false_of true is = let none : ⊥ = cc in none
    false_of false is = let none : ⊥ = cc in none
thing_plain up.Connect Silent is = refl
thing_plain up.Connect (Says (down.Hello x)) is = refl
thing_plain up.Connect (Says frame) is = refl
thing_plain up.Connect Stopped is = refl
thing_plain (up.Begin settings) Silent is = refl
thing_plain (up.Begin settings) (Says frame) is = refl
thing_plain (up.Begin settings) Stopped is = refl
thing_plain (up.Outcome x) Silent is = refl
thing_plain (up.Outcome x) (Says (down.OutcomeIs committed completed)) is = refl
thing_plain (up.Outcome x) (Says (down.OutcomeRefused ahead next)) is = refl
thing_plain (up.Outcome x) (Says frame) is = refl
thing_plain (up.Outcome x) Stopped is = refl
thing_plain up.End Silent is = refl
thing_plain up.End (Says frame) is = refl
thing_plain up.End Stopped is = refl
thing_plain up.Close Silent is = refl
thing_plain up.Close (Says frame) is = refl
thing_plain up.Close Stopped is = refl

module _ (base : Base) (session : SessionId) (value : Draw) where
  abbrev later_of : Walk → Item → Walk
  later_of walk it = after base (entered walk it) it (deed_of base (entered walk it) it)

  abbrev left_times : Walk → ℕ
  left_times walk = times value (flat_map draws_of (its session walk))

  abbrev open_times : Walk → ℕ
  open_times walk = times value (open_in session walk)

  same_count : (walk later : Walk) → IsSameWalk walk later → (left_times later ≡ left_times walk) × (open_times later ≡ open_times walk)
  same_count walk later same = (ap (λ (all : List Entry). times value (flat_map draws_of all)) (same_its session walk later same), ap (times value) (same_open session walk later same))

  quiet_count : (walk later : Walk) → IsSameWalk walk later → (new rest : ℕ) → left_times later ≤ open_times later + rest → left_times walk ≤ open_times walk + (new + rest)
  quiet_count walk later same new rest most = let so = same_count walk later same in let left = so.0 in let opens = so.1 in omega (arith, most, left, opens)

  -- its own item
  own_count : (walk later : Walk) (n now : ℕ) (thing : Thing) → plain_thing thing ≡ true → item_holds base walk (Did n now session thing) (deed_of base walk (Did n now session thing)) ≡ true → Moved walk later session thing → (rest : ℕ)
      → left_times later ≤ open_times later + rest → left_times walk ≤ open_times walk + (times value (new_in base (deed_of base walk (Did n now session thing))) + rest)
  own_count walk later n now (Began settings) plain holds moved rest most =
      let left : left_times later ≡ left_times walk = ap (λ (all : List Entry). times value (flat_map draws_of (filter (is_its session) all))) moved.left in
      let opens : open_times later ≡ 0 = ap (λ sessions. times value (flat_map draws_in (transaction_in sessions session).pieces)) moved.sessions ∙ ap (λ (made : Transaction). times value (flat_map draws_in made.pieces)) (transaction_own walk.sessions session (begun settings)) in
      omega (arith, most, left, opens)
  own_count walk later n now (Called true kept called answers draws) plain holds moved rest most = absurd (let none : ⊥ = cc in none)
  own_count walk later n now (Called false kept called answers draws) plain holds moved rest most =
      by (ends_committed answers) (ends answers) (call_spent session value walk later called answers draws moved)
    where
      drew : times value (new_in base (deed_of base walk (Did n now session (Called false kept called answers draws)))) ≡ times value draws
      drew =
          let performed : Performed = record { session = session; now = now; replay = false; kept = kept; called = called; answers = answers; draws = draws } in
          let parts = and_parts (is_of_now walk session) _ holds in
          ap (times value) ((performed_drew base walk performed (and_parts (deed_holds base walk (deed base walk (Some performed))) _ parts.1).0).0 ∙ all_new draws)

      by : (committed ended : Bool) → Spent session value walk later called answers draws moved committed ended
          → left_times walk ≤ open_times walk + (times value (new_in base (deed_of base walk (Did n now session (Called false kept called answers draws)))) + rest)
      by true _ (Commits ended all opens) = omega (arith, drew, most, all, opens)
      by false true (Ends same opens) = omega (arith, drew, most, same, opens)
      by false false (Stays same opens) = omega (arith, drew, most, same, opens)
  own_count walk later n now (CallStopped replay called) plain holds moved rest most = absurd (let none : ⊥ = cc in none)
  own_count walk later n now Connected plain holds moved rest most = quiet_count walk later moved _ rest most
  own_count walk later n now (MetBlock replay called) plain holds moved rest most = quiet_count walk later moved _ rest most
  own_count walk later n now (TellsOutcome x outcome) plain holds moved rest most = quiet_count walk later moved _ rest most
  own_count walk later n now EndedRequest plain holds moved rest most = quiet_count walk later moved _ rest most
  own_count walk later n now Closed plain holds moved rest most = quiet_count walk later moved _ rest most
  own_count walk later n now Refused plain holds moved rest most = quiet_count walk later moved _ rest most
  own_count walk later n now (OutcomeStopped x) plain holds moved rest most = quiet_count walk later moved _ rest most

  -- A HISTORY -------------------------------------------------------------------------------------

  abbrev Counts : List Happened → Type 0
  Counts history = (walk : Walk) (n : ℕ) → items_hold base walk (items_from n history) ≡ true → list_all is_plain (served_in history session) ≡ true
      → left_times walk ≤ open_times walk + times value (drawn_for (is_session session) base walk (items_from n history))

  own_served : (now : ℕ) (frame : Up) (told : Telling) (history : List Happened) → Counts history → (walk : Walk) (n : ℕ) → items_hold base walk (Did n now session (thing_of frame told) ∷ items_from (n + 1) history) ≡ true
      → (plain_told frame told && list_all is_plain (served_in history session)) ≡ true
      → left_times walk ≤ open_times walk + times value (drawn_for (is_session session) base walk (Did n now session (thing_of frame told) ∷ items_from (n + 1) history))
  own_served now frame told history again walk n held plain =
      let it : Item = Did n now session (thing_of frame told) in
      let here : Walk = entered walk it in
      let later : Walk = later_of walk it in
      let both = both_hold base [] session walk it (items_from (n + 1) history) held in
      let parts = and_parts (plain_told frame told) (list_all is_plain (served_in history session)) plain in
      let moved = thing_moved base here n now session (thing_of frame told) both.0 in
      let rest = again later (n + 1) both.1 parts.1 in
      let most = own_count here later n now (thing_of frame told) (thing_plain frame told parts.0) both.0 moved (times value (drawn_for (is_session session) base later (items_from (n + 1) history))) rest in
      let so = same_count walk here (enters walk it) in
      let left = so.0 in
      let opens = so.1 in
      let sum = times_both value (new_in base (deed_of base here it)) (drawn_for (is_session session) base later (items_from (n + 1) history)) in
      let all : times value (drawn_for (is_session session) base walk (it ∷ items_from (n + 1) history)) ≡ times value (new_in base (deed_of base here it) ++ drawn_for (is_session session) base later (items_from (n + 1) history)) =
      ap (λ (test : Bool). times value (new_by test (new_in base (deed_of base here it)) ++ drawn_for (is_session session) base later (items_from (n + 1) history))) (session_self session) in
      omega (arith, most, left, opens, sum, all)

  served_count : (other : SessionId) (now : ℕ) (frame : Up) (told : Telling) (history : List Happened) → Counts history → Counts (Served other now frame told ∷ history)
  served_count other now frame told history again walk n held plain = by (same_session other session) refl plain
    where
      own : other ≡ session → (plain_told frame told && list_all is_plain (served_in history session)) ≡ true → left_times walk ≤ open_times walk + times value (drawn_for (is_session session) base walk (Did n now other (thing_of frame told) ∷ items_from (n + 1) history))
      own same plain =
          subst (λ (s : SessionId). left_times walk ≤ open_times walk + times value (drawn_for (is_session session) base walk (Did n now s (thing_of frame told) ∷ items_from (n + 1) history))) (sym same)
          (own_served now frame told history again walk n (subst (λ (s : SessionId). items_hold base walk (Did n now s (thing_of frame told) ∷ items_from (n + 1) history) ≡ true) same held) plain)

      by : (test : Bool) → same_session other session ≡ test → list_all is_plain (if test then (frame, told) ∷ served_in history session else served_in history session) ≡ true
          → left_times walk ≤ open_times walk + times value (drawn_for (is_session session) base walk (Did n now other (thing_of frame told) ∷ items_from (n + 1) history))
      by true is plain = own (same_session_is other session is) plain
      by false apart plain =
          let it : Item = Did n now other (thing_of frame told) in
          let here : Walk = entered walk it in
          let later : Walk = later_of walk it in
          let both = both_hold base [] session walk it (items_from (n + 1) history) held in
          let moved = thing_moved base here n now other (thing_of frame told) both.0 in
          let rest = again later (n + 1) both.1 plain in
          let so = same_count walk here (enters walk it) in
          let left = so.0 in
          let opens = so.1 in
          let left_later : left_times later ≡ left_times here = ap (λ (all : List Entry). times value (flat_map draws_of all)) (other_its session here later other (thing_of frame told) apart moved) in
          let opens_later : open_times later ≡ open_times here = ap (times value) (other_open session here later other (thing_of frame told) apart moved) in
          let all : times value (drawn_for (is_session session) base walk (it ∷ items_from (n + 1) history)) ≡ times value (drawn_for (is_session session) base later (items_from (n + 1) history)) =
          ap (λ (test : Bool). times value (new_by test (new_in base (deed_of base here it)) ++ drawn_for (is_session session) base later (items_from (n + 1) history))) apart in
          omega (arith, rest, left, opens, left_later, opens_later, all)

  asked_count : (x : Ltxid) (told : Telling) (history : List Happened) → Counts history → Counts (Asked x told ∷ history)
  asked_count x told history again walk n held plain =
      let it : Item = asked_of n x told in
      let rest = again (later_of walk it) (n + 1) (both_hold base [] session walk it (items_from (n + 1) history) held).1 plain in
      let so = same_count walk (later_of walk it) (asked_same base walk n x told) in
      let left = so.0 in
      let opens = so.1 in
      let sum = times_both value (new_by (is_by (is_session session) it) (new_in base (deed_of base (entered walk it) it))) (drawn_for (is_session session) base (later_of walk it) (items_from (n + 1) history)) in
      omega (arith, rest, left, opens, sum)

  pub history_counts : (history : List Happened) → Counts history
  history_counts [] = λ walk n held plain. let zero : left_times walk ≡ 0 = ap (λ (all : List Entry). times value (flat_map draws_of (filter (is_its session) all))) (none_left walk.left held) in omega (arith, zero)
  history_counts (Asked x told ∷ history) = asked_count x told history (history_counts history)
  history_counts (Served other now frame told ∷ history) = served_count other now frame told history (history_counts history)
