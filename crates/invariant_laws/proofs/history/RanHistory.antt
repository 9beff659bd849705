-- Along a legal history each entry of a session has the pieces of what its connection ran.
use Rattle.std.proofs.Common.{◌≡◌, refl, sym, ap, subst, ◌∙◌, append_assoc, append-nil, ℕ, ◌+◌, ◌&&◌, ◌||◌, Bool, true, false, not, List, [], ◌∷◌, ◌++◌, map, fold, if◌then◌else◌}
use Rattle.std.specs.List.{list_all}
use Rattle.std.proofs.lemmas.Bool.{and_parts}
use Rattle.svc_values.specs.declared.entry.Entry.{Entry}
use Rattle.svc_values.specs.declared.entry.Ltxid.{Ltxid}
use Rattle.svc_values.specs.declared.entry.SessionId.{SessionId}
use Rattle.svc_values.specs.declared.frame.Down.TheVariants as down
use Rattle.svc_values.specs.declared.frame.Up.{Up}
use Rattle.svc_values.specs.meaning.Identifiers.{same_session}
use Rattle.server_model.specs.meaning.Base.{Base}
use Rattle.server_model.specs.meaning.Items.{Thing, Began, Called, CallStopped, Item, Did, thing_of, asked_of}
use Rattle.server_model.specs.Items.{items_from}
use Rattle.server_model.specs.meaning.Legal.{item_holds, items_hold, all_stored}
use Rattle.server_model.specs.meaning.Outcomes.{Telling, Silent, Says, Stopped}
use Rattle.server_model.specs.Runs.{Happened, Served, Asked}
use Rattle.server_model.specs.meaning.Walk.{Transaction, Walk, deed_of, entered, after}
use Rattle.world_model.specs.records.Basic.{is_stopped, none_behind}
use Rattle.world_model.specs.meaning.Serving.{is_last}
use Rattle.world_model.specs.meaning.Frames.{Handled}
use Rattle.invariant_laws.specs.Same.{Ran, ran_item}
use Rattle.invariant_laws.specs.SessionHistory.{served_in, told_with, told_of}
use Rattle.invariant_laws.specs.Shown.{is_call}
use Rattle.world_model.specs.records.Wire.{is_handled, counted_with, handled_from}
use Rattle.world_model.proofs.Offered.{lone_later, link_lives_none_later as none_later, same_session_is}
use Rattle.invariant_laws.proofs.history.RanFrames.{handled_deals, rests_behind, rests_rightly}
use Rattle.invariant_laws.proofs.history.RanLists.{has_ran}
use Rattle.invariant_laws.proofs.history.RanSessions.{StoredRight, Stands, GoesTo, GoesOn, IsDone, same_stands, same_stored, others_stored, others_stand, own_stands}
use Rattle.invariant_laws.proofs.history.RanWalks.{IsSameWalk, Stores, Takes, Keeps, IsStored, IsNothing, Moved, enters, tells_same, thing_moved}

-- ALL ENTRIES -------------------------------------------------------------------------------------

abbrev pub whole_of : Walk → List Entry
whole_of walk = walk.stored ++ walk.left

pub same_whole : (walk later : Walk) → IsSameWalk walk later → whole_of later ≡ whole_of walk
same_whole walk later same = ap (λ (stored : List Entry). stored ++ later.left) same.stored ∙ ap (λ (left : List Entry). walk.stored ++ left) same.left

stores_whole : (walk later : Walk) (session : SessionId) (made : Transaction) (test : Bool) → Stores walk later session made test → whole_of later ≡ whole_of walk
stores_whole walk later session made _ (Keeps stored left) = ap (λ (all : List Entry). all ++ later.left) stored ∙ ap (λ (all : List Entry). walk.stored ++ all) left
stores_whole walk later session made _ (Takes entry rest left stored gone named pieces start) =
    ap (λ (all : List Entry). all ++ later.left) stored ∙ ap (λ (all : List Entry). (walk.stored ++ entry ∷ []) ++ all) gone ∙ append_assoc walk.stored (entry ∷ []) rest ∙ ap (λ (all : List Entry). walk.stored ++ all) (sym left)

pub moved_whole : (walk later : Walk) (session : SessionId) (thing : Thing) → Moved walk later session thing → whole_of later ≡ whole_of walk
moved_whole walk later session (Began settings) moved = ap (λ (all : List Entry). all ++ later.left) moved.stored ∙ ap (λ (all : List Entry). walk.stored ++ all) moved.left
moved_whole walk later session (Called replay kept call answers draws) moved = stores_whole walk later session moved.made _ moved.stores
moved_whole walk later session (CallStopped replay call) (IsStored answers draws calls) = stores_whole walk later session calls.made _ calls.stores
moved_whole walk later session (CallStopped replay call) (IsNothing same) = same_whole walk later same
moved_whole walk later session thing moved = same_whole walk later moved

pub none_left : (left : List Entry) → all_stored left ≡ true → left ≡ []
none_left [] is = refl
none_left (entry ∷ left) is = absurd (let never : ⊥ = cc in never)

-- A QUESTION --------------------------------------------------------------------------------------

pub asked_same : (base : Base) (walk : Walk) (n : ℕ) (x : Ltxid) (told : Telling) → IsSameWalk walk (after base (entered walk (asked_of n x told)) (asked_of n x told) (deed_of base (entered walk (asked_of n x told)) (asked_of n x told)))
asked_same base walk n x Silent = record { stored = refl; left = refl; sessions = refl }
asked_same base walk n x (Says (down.OutcomeIs committed completed)) = tells_same walk x _
asked_same base walk n x (Says (down.OutcomeRefused ahead next)) = tells_same walk x _
asked_same base walk n x (Says frame) = record { stored = refl; left = refl; sessions = refl }
asked_same base walk n x Stopped = record { stored = refl; left = refl; sessions = refl }

-- A SESSION THAT SERVES NOTHING MORE --------------------------------------------------------------

module _ (base : Base) (all : List Entry) (session : SessionId) where
  -- where the session's transactions are these, and the history has nothing more of it
  abbrev pub Done : Ran → List Happened → Type 0
  Done ran history = (walk : Walk) (n : ℕ) → items_hold base walk (items_from n history) ≡ true → whole_of walk ≡ all → served_in history session ≡ [] → StoredRight walk session ran → list_all (has_ran session ran) all ≡ true

  abbrev item_at : ℕ → SessionId → ℕ → Up → Telling → Item
  item_at n other now frame told = Did n now other (thing_of frame told)

  abbrev pub behind : Walk → Item → Walk
  behind walk one = after base (entered walk one) one (deed_of base (entered walk one) one)

  -- it holds, and so does the rest
  pub both_hold : (walk : Walk) (one : Item) (items : List Item) → items_hold base walk (one ∷ items) ≡ true → (item_holds base (entered walk one) one (deed_of base (entered walk one) one) ≡ true) × (items_hold base (behind walk one) items ≡ true)
  both_hold walk one items held = and_parts (item_holds base (entered walk one) one (deed_of base (entered walk one) one)) (items_hold base (behind walk one) items) held

  all_right : (ran : Ran) (walk : Walk) → all_stored walk.left ≡ true → whole_of walk ≡ all → StoredRight walk session ran → list_all (has_ran session ran) all ≡ true
  all_right ran walk stored whole right =
      ap (list_all (has_ran session ran)) (sym whole ∙ ap (λ (left : List Entry). walk.stored ++ left) (none_left walk.left stored) ∙ append-nil walk.stored) ∙ right

  done_asked : (ran : Ran) (x : Ltxid) (told : Telling) (history : List Happened) → Done ran history → Done ran (Asked x told ∷ history)
  done_asked ran x told history again walk n held whole none right =
      let one : Item = asked_of n x told in
      let same : IsSameWalk walk (behind walk one) = asked_same base walk n x told in
      again (behind walk one) (n + 1) (both_hold walk one (items_from (n + 1) history) held).1 (same_whole walk (behind walk one) same ∙ whole) none (same_stored walk (behind walk one) session ran same.stored right)

  done_served : (ran : Ran) (other : SessionId) (now : ℕ) (frame : Up) (told : Telling) (history : List Happened) → Done ran history → Done ran (Served other now frame told ∷ history)
  done_served ran other now frame told history again walk n held whole none right = by (same_session other session) refl none
    where
      by : (test : Bool) → same_session other session ≡ test → (if test then (frame, told) ∷ served_in history session else served_in history session) ≡ [] → list_all (has_ran session ran) all ≡ true
      by true is none = absurd (let never : ⊥ = cc in never)
      by false apart none =
          let one : Item = item_at n other now frame told in
          let here : Walk = entered walk one in
          let parts = both_hold walk one (items_from (n + 1) history) held in
          let moved = thing_moved base here n now other (thing_of frame told) parts.0 in
          again (behind walk one) (n + 1) parts.1 (moved_whole here (behind walk one) other (thing_of frame told) moved ∙ same_whole walk here (enters walk one) ∙ whole) none
          (others_stored here (behind walk one) other session (thing_of frame told) ran apart moved (same_stored walk here session ran (enters walk one).stored right))

  pub done_all : (ran : Ran) (history : List Happened) → Done ran history
  done_all ran [] = λ walk n held whole none right. all_right ran walk held whole right
  done_all ran (Asked x told ∷ history) = done_asked ran x told history (done_all ran history)
  done_all ran (Served other now frame told ∷ history) = done_served ran other now frame told history (done_all ran history)

  -- A SESSION THAT GOES ON ------------------------------------------------------------------------

  abbrev step : Ran → Handled → Ran
  step ran one = ran_item ran one.sent one.served.item

  -- what is still to be served
  pub record Rest (history : List Happened) (served : List Handled) (resting : Bool) (commits : ℕ) : Type 0 where
    pub has : served_in history session ≡ map told_of served
    pub handled : handled_from commits served ≡ true
    pub lone : none_behind served ≡ true
    pub rests : rests_rightly resting (map (λ one. one.sent.frame) served) ≡ true

  abbrev Runs : List Happened → Type 0
  Runs history = (walk : Walk) (n : ℕ) (served : List Handled) (ran : Ran) (resting : Bool) (commits : ℕ) → items_hold base walk (items_from n history) ≡ true → whole_of walk ≡ all → Rest history served resting commits → Stands walk session ran resting
      → list_all (has_ran session (fold step ran served)) all ≡ true

  runs_asked : (x : Ltxid) (told : Telling) (history : List Happened) → Runs history → Runs (Asked x told ∷ history)
  runs_asked x told history again walk n served ran resting commits held whole rest stands =
      let one : Item = asked_of n x told in
      let same : IsSameWalk walk (behind walk one) = asked_same base walk n x told in
      again (behind walk one) (n + 1) served ran resting commits (both_hold walk one (items_from (n + 1) history) held).1 (same_whole walk (behind walk one) same ∙ whole)
      (record { has = rest.has; handled = rest.handled; lone = rest.lone; rests = rest.rests }) (same_stands walk (behind walk one) session ran resting same stands)

  -- its own frame
  runs_own : (now : ℕ) (frame : Up) (told : Telling) (history : List Happened) → Runs history → (walk : Walk) (n : ℕ) (one : Handled) (others : List Handled) (ran : Ran) (resting : Bool) (commits : ℕ)
      → items_hold base walk (item_at n session now frame told ∷ items_from (n + 1) history) ≡ true → whole_of walk ≡ all → (frame, told) ≡ told_of one → served_in history session ≡ map told_of others
      → handled_from commits (one ∷ others) ≡ true → none_behind (one ∷ others) ≡ true → rests_rightly resting (map (λ h. h.sent.frame) (one ∷ others)) ≡ true → Stands walk session ran resting
      → list_all (has_ran session (fold step ran (one ∷ others))) all ≡ true
  runs_own now frame told history again walk n one others ran resting commits held whole is has handled lone rests stands =
      by (own_stands (entered walk (item_at n session now frame told)) (behind walk (item_at n session now frame told)) session ran resting one.sent one.sent.frame (thing_of one.sent.frame (told_with one.served.item one.reply)) one.served.item
      (handled_deals (counted_with commits one.served.item) one parts.0) frames.0
      (subst (λ (pair : Up × Telling). Moved (entered walk (item_at n session now frame told)) (behind walk (item_at n session now frame told)) session (thing_of pair.0 pair.1)) is moved)
      (same_stands walk (entered walk (item_at n session now frame told)) session ran resting (enters walk (item_at n session now frame told)) stands))
    where
      both : (item_holds base (entered walk (item_at n session now frame told)) (item_at n session now frame told) (deed_of base (entered walk (item_at n session now frame told)) (item_at n session now frame told)) ≡ true) × (items_hold base (behind walk (item_at n session now frame told)) (items_from (n + 1) history) ≡ true)
      both = both_hold walk (item_at n session now frame told) (items_from (n + 1) history) held

      moved : Moved (entered walk (item_at n session now frame told)) (behind walk (item_at n session now frame told)) session (thing_of frame told)
      moved = thing_moved base (entered walk (item_at n session now frame told)) n now session (thing_of frame told) both.0

      parts : (is_handled (counted_with commits one.served.item) one ≡ true) × (handled_from (counted_with commits one.served.item) others ≡ true)
      parts = and_parts (is_handled (counted_with commits one.served.item) one) (handled_from (counted_with commits one.served.item) others) handled

      frames : (not (resting && is_call one.sent.frame) ≡ true) × (rests_rightly (rests_behind resting one.sent.frame) (map (λ h. h.sent.frame) others) ≡ true)
      frames = and_parts (not (resting && is_call one.sent.frame)) (rests_rightly (rests_behind resting one.sent.frame) (map (λ h. h.sent.frame) others)) rests

      whole_later : whole_of (behind walk (item_at n session now frame told)) ≡ all
      whole_later = moved_whole (entered walk (item_at n session now frame told)) (behind walk (item_at n session now frame told)) session (thing_of frame told) moved ∙ same_whole walk (entered walk (item_at n session now frame told)) (enters walk (item_at n session now frame told)) ∙ whole

      by : GoesTo (behind walk (item_at n session now frame told)) session (step ran one) (rests_behind resting one.sent.frame) one.served.item → list_all (has_ran session (fold step (step ran one) others)) all ≡ true
      by (GoesOn goes) =
          again (behind walk (item_at n session now frame told)) (n + 1) others (step ran one) (rests_behind resting one.sent.frame) (counted_with commits one.served.item) both.1 whole_later
          (record { has = has; handled = parts.1; lone = lone_later one others lone; rests = frames.1 }) goes
      by (IsDone marked called crashed right) =
          let none : others ≡ [] = none_later one others lone (ap (λ i. is_last i || is_stopped i) crashed) in
          subst (λ (more : List Handled). list_all (has_ran session (fold step (step ran one) more)) all ≡ true) (sym none)
          (done_all (step ran one) history (behind walk (item_at n session now frame told)) (n + 1) both.1 whole_later (has ∙ ap (map told_of) none) right)

  runs_served : (other : SessionId) (now : ℕ) (frame : Up) (told : Telling) (history : List Happened) → Runs history → Runs (Served other now frame told ∷ history)
  runs_served other now frame told history again walk n served ran resting commits held whole rest stands = by (same_session other session) refl rest.has
    where
      of_list : (served : List Handled) → (frame, told) ∷ served_in history session ≡ map told_of served → handled_from commits served ≡ true → none_behind served ≡ true → rests_rightly resting (map (λ h. h.sent.frame) served) ≡ true
          → items_hold base walk (item_at n session now frame told ∷ items_from (n + 1) history) ≡ true → list_all (has_ran session (fold step ran served)) all ≡ true
      of_list [] has handled lone rests held = absurd (let never : ⊥ = cc in never)
      of_list (first ∷ others) has handled lone rests held =
          runs_own now frame told history again walk n first others ran resting commits held whole (head_same has) (tail_same has) handled lone rests stands
        where
          head_same : {A : Type 0} {x y : A} {xs ys : List A} → x ∷ xs ≡ y ∷ ys → x ≡ y
          head_same same = cc

          tail_same : {A : Type 0} {x y : A} {xs ys : List A} → x ∷ xs ≡ y ∷ ys → xs ≡ ys
          tail_same same = cc

      by : (test : Bool) → same_session other session ≡ test → (if test then (frame, told) ∷ served_in history session else served_in history session) ≡ map told_of served → list_all (has_ran session (fold step ran served)) all ≡ true
      by true is has =
          of_list served has rest.handled rest.lone rest.rests
          (subst (λ (s : SessionId). items_hold base walk (item_at n s now frame told ∷ items_from (n + 1) history) ≡ true) (same_session_is other session is) held)
      by false apart has =
          let one : Item = item_at n other now frame told in
          let here : Walk = entered walk one in
          let parts = both_hold walk one (items_from (n + 1) history) held in
          let moved = thing_moved base here n now other (thing_of frame told) parts.0 in
          again (behind walk one) (n + 1) served ran resting commits parts.1 (moved_whole here (behind walk one) other (thing_of frame told) moved ∙ same_whole walk here (enters walk one) ∙ whole)
          (record { has = has; handled = rest.handled; lone = rest.lone; rests = rest.rests })
          (others_stand here (behind walk one) other session (thing_of frame told) ran resting apart moved (same_stands walk here session ran resting (enters walk one) stands))

  runs_none : Runs []
  runs_none walk n [] ran resting commits held whole rest stands = all_right ran walk held whole stands.all
  runs_none walk n (one ∷ served) ran resting commits held whole rest stands = absurd (let has = rest.has in let never : ⊥ = cc in never)

  runs_all : (history : List Happened) → Runs history
  runs_all [] = runs_none
  runs_all (Asked x told ∷ history) = runs_asked x told history (runs_all history)
  runs_all (Served other now frame told ∷ history) = runs_served other now frame told history (runs_all history)

  -- from the start, where no entry of the time before is the session's
  pub history_ran : (history : List Happened) (walk : Walk) (served : List Handled) (ran : Ran) → items_hold base walk (items_from 0 history) ≡ true → whole_of walk ≡ all → served_in history session ≡ map told_of served → handled_from 0 served ≡ true
      → none_behind served ≡ true → rests_rightly false (map (λ one. one.sent.frame) served) ≡ true → Stands walk session ran false → list_all (has_ran session (fold step ran served)) all ≡ true
  history_ran history walk served ran held whole has handled lone rests stands =
      runs_all history walk 0 served ran false 0 held whole (record { has = has; handled = handled; lone = lone; rests = rests }) stands
