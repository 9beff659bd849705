-- Along a legal history a session draws anew what its connection's calls were given anew, and each
-- other value of a marked call is a kept one.
use Rattle.std.proofs.Common.{◌≡◌, refl, sym, ap, subst, ◌∙◌, ℕ, ◌+◌, ◌&&◌, ◌||◌, Bool, true, false, not, List, [], ◌∷◌, ◌++◌, length, map, Option, Some, None, if◌then◌else◌, arith}
use Rattle.std.specs.Prelude.{flat_map}
use Rattle.std.specs.List.{list_all, list_any, last_or}
use Rattle.std.proofs.lemmas.Bool.{and_parts, and_from, or_left, or_right}
use Rattle.svc_values.specs.declared.call.Call.{Call}
use Rattle.svc_values.specs.declared.draw.Draw.{Draw}
use Rattle.svc_values.specs.declared.entry.Entry.{Entry}
use Rattle.svc_values.specs.declared.entry.Ltxid.{Ltxid}
use Rattle.svc_values.specs.declared.entry.Piece.{Piece}
use Rattle.svc_values.specs.declared.entry.SessionId.{SessionId}
use Rattle.svc_values.specs.declared.frame.Down.TheVariants as down
use Rattle.svc_values.specs.declared.frame.Up.{Up}
use Rattle.svc_values.specs.meaning.Calls.{has_commit}
use Rattle.svc_values.specs.meaning.Identifiers.{same_ltxid, same_session, ltxid_of}
use Rattle.outage_schedule.specs.declared.item.Item.{Item as ItemTold}
use Rattle.outage_schedule.specs.declared.item.Item.TheVariants as item
use Rattle.server_model.specs.meaning.Base.{Base}
use Rattle.server_model.specs.meaning.Fresh.{new_in}
use Rattle.server_model.specs.meaning.Items.{Thing, CallStopped, Item, Did, thing_of, asked_of}
use Rattle.server_model.specs.Items.{items_from}
use Rattle.server_model.specs.meaning.Legal.{deed_holds, is_of_now, item_holds, items_hold}
use Rattle.server_model.specs.meaning.Outcomes.{Telling, Silent, Says, Stopped}
use Rattle.server_model.specs.Runs.{Happened, Served, Asked}
use Rattle.server_model.specs.meaning.Walk.{Walk, next_of, number_of, Performed, stands, if_stands, performed_by, deed, deed_of, after_deed, after_thing, entered, after}
use Rattle.world_model.specs.records.Basic.{is_stopped, none_behind}
use Rattle.world_model.specs.meaning.Frames.{Handled}
use Rattle.world_model.specs.records.Number.{is_stopped_call, numbered_after}
use Rattle.invariant_laws.specs.Same.{Ran as RanBy, ran_item}
use Rattle.world_model.specs.meaning.Serving.{is_last}
use Rattle.invariant_laws.specs.SessionHistory.{served_in, told_with, told_of}
use Rattle.invariant_laws.specs.Shown.{is_call}
use Rattle.world_model.specs.records.Wire.{is_handled, counted_with, handled_from}
use Rattle.fresh_laws.proofs.DrawnFor.{is_by, new_by, drawn_for, is_session}
use Rattle.fresh_laws.proofs.HeldAtStop.{is_stop}
use Rattle.world_model.proofs.Offered.{commits_behind, lone_later, link_lives_none_later as none_later, same_session_is, session_self, not_both}
use Rattle.invariant_laws.proofs.Offered.{Deals, DealsBegin, DealsEnd, DealsCall, DealsStop, DealsQuietly, is_quiet_item, handled_deals, rests_behind, rests_rightly, whole_of, same_whole, moved_whole, asked_same, Rest, both_hold, done_all, Stands, GoesTo, GoesOn, IsDone, same_stands, same_stored, others_stand, own_stands, IsSameWalk, Moved, enters, thing_moved}
use Rattle.fresh_laws.proofs.StoppedDraws.{stopped_in, last_drawn, found_in, none_in}
use Rattle.fresh_laws.proofs.FrameDraws.{anew, is_drawn, performed_drew, own_drew, over_counts, is_crashed}
use Rattle.once_laws.proofs.Offered.{times, all_new}
use Rattle.fresh_laws.proofs.SessionEntries.{its, open_in, same_its, same_open, other_its, other_open, none_stored}
use Rattle.once_laws.specs.StoredOnce.{is_stored_next}
use Rattle.fresh_laws.proofs.StoredCalls.{count_if, stored_times, IsSpent, Behind, going_spent, stop_spent, behind_spent}
use Rattle.world_model.specs.Parts.{has_entry}
use Rattle.server_model.specs.meaning.Fresh.{draws_of}

-- A HISTORY ---------------------------------------------------------------------------------------

asked_by : (session : SessionId) (n : ℕ) (x : Ltxid) (told : Telling) → is_by (is_session session) (asked_of n x told) ≡ false
asked_by session n x Silent = refl
asked_by session n x (Says (down.OutcomeIs committed completed)) = refl
asked_by session n x (Says (down.OutcomeRefused ahead next)) = refl
asked_by session n x (Says frame) = refl
asked_by session n x Stopped = refl

module _ (base : Base) (all : List Entry) (session : SessionId) (stopped : List Draw) (stood : Bool) (numbered : numbered_after [] all ≡ true) where
  abbrev new_of : Handled → List Draw
  new_of one = anew base stopped one.sent.frame one.served.item

  abbrev is_right : Handled → Bool
  is_right one = is_drawn base one.sent.frame one.served.item

  abbrev mine : SessionId → Bool
  mine = is_session session

  abbrev later_of : Walk → Item → Walk
  later_of walk it = after base (entered walk it) it (deed_of base (entered walk it) it)

  abbrev new_at : Walk → Item → List Draw
  new_at walk it = new_in base (deed_of base (entered walk it) it)

  -- a session that serves nothing draws nothing
  none_drawn : (history : List Happened) (walk : Walk) (n : ℕ) → served_in history session ≡ [] → drawn_for mine base walk (items_from n history) ≡ []
  none_drawn [] walk n none = refl
  none_drawn (Asked x told ∷ history) walk n none =
      let it : Item = asked_of n x told in
      ap (λ (test : Bool). new_by test (new_at walk it) ++ drawn_for mine base (later_of walk it) (items_from (n + 1) history)) (asked_by session n x told) ∙ none_drawn history (later_of walk it) (n + 1) none
  none_drawn (Served other now frame told ∷ history) walk n none = by (same_session other session) none (λ less. none_drawn history (later_of walk (Did n now other (thing_of frame told))) (n + 1) less)
    where
      by : (test : Bool) → (if test then (frame, told) ∷ served_in history session else served_in history session) ≡ [] → (served_in history session ≡ [] → drawn_for mine base (later_of walk (Did n now other (thing_of frame told))) (items_from (n + 1) history) ≡ [])
          → new_by test (new_at walk (Did n now other (thing_of frame told))) ++ drawn_for mine base (later_of walk (Did n now other (thing_of frame told))) (items_from (n + 1) history) ≡ []
      by true none again = absurd (let never : ⊥ = cc in never)
      by false none again = again none

  -- what the session drew with these items, by what its connection served
  pub record Told (walk : Walk) (items : List Item) (served : List Handled) : Type 0 where
    pub new : drawn_for mine base walk items ≡ flat_map new_of served
    pub right : list_all is_right served ≡ true
    -- and what its entries drew was given to calls of transactions that were stored
    pub spent : (value : Draw) → IsSpent session stopped stood value walk served

  alike_spent : (value : Draw) (walk later : Walk) (served : List Handled) → its session later ≡ its session walk → open_in session later ≡ open_in session walk → IsSpent session stopped stood value later served → IsSpent session stopped stood value walk served
  alike_spent value walk later served entries opens most =
      let left : times value (flat_map draws_of (its session later)) ≡ times value (flat_map draws_of (its session walk)) = ap (λ (all : List Entry). times value (flat_map draws_of all)) entries in
      let same : count_if (is_stored_next stood served) (times value (open_in session later)) ≡ count_if (is_stored_next stood served) (times value (open_in session walk)) = ap (λ (draws : List Draw). count_if (is_stored_next stood served) (times value draws)) opens in
      omega (arith, most, left, same)

  -- a call that was stopped is of the identifier that the session has then
  abbrev StopIs : ℕ → List Handled → Type 0
  StopIs count served = list_any is_stop served ≡ true → (stopped ≡ stopped_in all (ltxid_of session (commits_behind count served))) × (stood ≡ has_entry all (ltxid_of session (commits_behind count served)))

  -- THE STOP --------------------------------------------------------------------------------------

  module _ (walk : Walk) (n now : ℕ) (replay : Bool) (called : Call) (whole : whole_of walk ≡ all) (x : Ltxid) (next : next_of walk session ≡ x) (are : stopped ≡ stopped_in all x) where
    abbrev stop_item : Item
    stop_item = Did n now session (CallStopped replay called)

    abbrev performs : Option Performed
    performs = performed_by walk now session (CallStopped replay called)

    -- no entry stands
    lost : performs ≡ None → ((after base walk stop_item (deed_of base walk stop_item)).stored ≡ walk.stored → stopped_in all x ≡ []) → new_in base (deed_of base walk stop_item) ≡ stopped
    lost is none =
        ap (λ (performed : Option Performed). new_in base (deed base walk performed)) is
        ∙ sym (are ∙ none (ap (λ (performed : Option Performed). (after_thing (after_deed base walk (deed base walk performed)) session (deed base walk performed) (CallStopped replay called)).stored) is))

    found : (left : List Entry) → walk.left ≡ left → (piece : Piece) → stands x left ≡ Some piece → stopped_in all x ≡ piece.draws
    found [] is piece stood = absurd (let never : ⊥ = cc in never)
    found (entry ∷ left) is piece stood = by (same_ltxid entry.ltxid x) refl stood
      where
        split : all ≡ walk.stored ++ entry ∷ left
        split = sym whole ∙ ap (λ (more : List Entry). walk.stored ++ more) is

        by : (test : Bool) → same_ltxid entry.ltxid x ≡ test → (if test then last_or None entry.pieces else None) ≡ Some piece → stopped_in all x ≡ piece.draws
        by true same last =
            ap (λ (entries : List Entry). stopped_in entries x) split
            ∙ (found_in walk.stored entry left x (subst (λ (entries : List Entry). numbered_after [] entries ≡ true) split numbered) same ∙ last_drawn entry.pieces piece last)
        by false same last = absurd (let never : ⊥ = cc in never)

    stood_drew : (piece : Piece) → performs ≡ Some (record { session = session; now = now; replay = false; kept = []; called = called; answers = piece.answers; draws = piece.draws }) → stopped_in all x ≡ piece.draws
        → deed_holds base walk (deed base walk performs) ≡ true → new_in base (deed_of base walk stop_item) ≡ stopped
    stood_drew piece is draws holds =
        let performed : Performed = record { session = session; now = now; replay = false; kept = []; called = called; answers = piece.answers; draws = piece.draws } in
        let drew = performed_drew base walk performed (subst (λ (p : Option Performed). deed_holds base walk (deed base walk p) ≡ true) is holds) in
        ap (λ (p : Option Performed). new_in base (deed base walk p)) is ∙ (drew.0 ∙ (all_new piece.draws ∙ sym (are ∙ draws)))

    stop_drew : deed_holds base walk (deed base walk performs) ≡ true → ((after base walk stop_item (deed_of base walk stop_item)).stored ≡ walk.stored → stopped_in all x ≡ []) → new_in base (deed_of base walk stop_item) ≡ stopped
    stop_drew holds none = by (has_commit called && not replay) refl
      where
        entry : (test : Bool) → (has_commit called && not replay) ≡ test → test ≡ true → (piece : Option Piece) → stands (next_of walk session) walk.left ≡ piece → new_in base (deed_of base walk stop_item) ≡ stopped
        entry test is commits None stood = lost (ap (λ (b : Bool). if b then if_stands now session called (stands (next_of walk session) walk.left) else None) (is ∙ commits) ∙ ap (if_stands now session called) stood) none
        entry test is commits (Some piece) stood =
            stood_drew piece (ap (λ (b : Bool). if b then if_stands now session called (stands (next_of walk session) walk.left) else None) (is ∙ commits) ∙ ap (if_stands now session called) stood)
            (found walk.left refl piece (ap (λ (y : Ltxid). stands y walk.left) (sym next) ∙ stood)) holds

        by : (test : Bool) → (has_commit called && not replay) ≡ test → new_in base (deed_of base walk stop_item) ≡ stopped
        by false is = lost (ap (λ (b : Bool). if b then if_stands now session called (stands (next_of walk session) walk.left) else None) is) none
        by true is = entry true is refl (stands (next_of walk session) walk.left) refl

  stop_gives : (walk : Walk) (n now : ℕ) (frame : Up) (thing : Thing) (one : ItemTold) → Deals frame thing one → is_stopped_call one ≡ true → item_holds base walk (Did n now session thing) (deed_of base walk (Did n now session thing)) ≡ true
      → whole_of walk ≡ all → (x : Ltxid) → next_of walk session ≡ x → stopped ≡ stopped_in all x → ((after base walk (Did n now session thing) (deed_of base walk (Did n now session thing))).stored ≡ walk.stored → stopped_in all x ≡ [])
      → (new_in base (deed_of base walk (Did n now session thing)) ≡ anew base stopped frame one) × (is_drawn base frame one ≡ true)
  stop_gives walk n now _ _ _ (DealsBegin settings) is holds whole x next are none = absurd (let never : ⊥ = cc in never)
  stop_gives walk n now _ _ _ DealsEnd is holds whole x next are none = absurd (let never : ⊥ = cc in never)
  stop_gives walk n now _ _ _ (DealsCall replay marked kept called answers draws) is holds whole x next are none = absurd (let never : ⊥ = cc in never)
  stop_gives walk n now _ _ _ (DealsStop replay marked kept called) is holds whole x next are none =
      let parts = and_parts (is_of_now walk session) _ holds in
      (stop_drew walk n now replay called whole x next are (and_parts (deed_holds base walk (deed base walk (performed_by walk now session (CallStopped replay called)))) _ parts.1).0 none, refl)
  stop_gives walk n now _ _ _ (DealsQuietly frame thing one rests quiet plain) is holds whole x next are none = absurd (quiet_stop one plain is)
    where
      quiet_stop : (it : ItemTold) → is_quiet_item it ≡ true → is_stopped_call it ≡ true → ⊥
      quiet_stop (item.CrashedCall marked called) plain is = let never : ⊥ = cc in never
      quiet_stop it plain is = let never : ⊥ = cc in never

  -- ALL ITS FRAMES --------------------------------------------------------------------------------

  abbrev Tells : List Happened → Type 0
  Tells history = (walk : Walk) (n : ℕ) (served : List Handled) (ran : RanBy) (resting : Bool) → items_hold base walk (items_from n history) ≡ true → whole_of walk ≡ all → Rest base all session history served resting (length ran.over)
      → Stands walk session ran resting → StopIs (length ran.over) served → Told walk (items_from n history) served

  module _ (history : List Happened) (again : Tells history) (walk : Walk) (n now : ℕ) (one : Handled) (others : List Handled) (ran : RanBy) (resting : Bool) where
    abbrev thing : Thing
    thing = thing_of one.sent.frame (told_with one.served.item one.reply)

    abbrev it : Item
    it = Did n now session thing

    abbrev here : Walk
    here = entered walk it

    abbrev later : Walk
    later = after base here it (deed_of base here it)

    abbrev rest : List Item
    rest = items_from (n + 1) history

    abbrev count : ℕ
    count = counted_with (length ran.over) one.served.item

    module _ (held : items_hold base walk (it ∷ rest) ≡ true) (whole : whole_of walk ≡ all) (has : served_in history session ≡ map told_of others) (handled : handled_from (length ran.over) (one ∷ others) ≡ true)
        (lone : none_behind (one ∷ others) ≡ true) (rests : rests_rightly resting (map (λ h. h.sent.frame) (one ∷ others)) ≡ true) (stand : Stands walk session ran resting) (stop : StopIs (length ran.over) (one ∷ others)) where
      both : (item_holds base here it (deed_of base here it) ≡ true) × (items_hold base later rest ≡ true)
      both = both_hold base all session walk it rest held

      parts : (is_handled count one ≡ true) × (handled_from count others ≡ true)
      parts = and_parts (is_handled count one) (handled_from count others) handled

      frames : (not (resting && is_call one.sent.frame) ≡ true) × (rests_rightly (rests_behind resting one.sent.frame) (map (λ h. h.sent.frame) others) ≡ true)
      frames = and_parts (not (resting && is_call one.sent.frame)) (rests_rightly (rests_behind resting one.sent.frame) (map (λ h. h.sent.frame) others)) rests

      deals : Deals one.sent.frame thing one.served.item
      deals = handled_deals count one parts.0

      moved : Moved here later session thing
      moved = thing_moved base here n now session thing both.0

      whole_here : whole_of here ≡ all
      whole_here = same_whole walk here (enters walk it) ∙ whole

      whole_later : whole_of later ≡ all
      whole_later = moved_whole here later session thing moved ∙ whole_here

      first_told : new_in base (deed_of base here it) ≡ new_of one → is_right one ≡ true → Told later rest others
          → ((value : Draw) → Behind session stopped stood value here one.served.item (is_stored_next stood others) (stored_times session stopped stood value others)) → Told walk (it ∷ rest) (one ∷ others)
      first_told same right more most = record {
        new =
            ap (λ (test : Bool). new_by test (new_in base (deed_of base here it)) ++ drawn_for mine base later rest) (session_self session)
            ∙ (ap (λ (new : List Draw). new ++ drawn_for mine base later rest) same ∙ ap (λ (new : List Draw). new_of one ++ new) more.new);
        right = and_from (is_right one) (list_all is_right others) right more.right;
        spent = λ value. behind_spent session stopped stood value walk here one others (enters walk it) (most value);
      }

      going : is_stop one ≡ false → Told walk (it ∷ rest) (one ∷ others)
      going is =
          let drew = own_drew base stopped here n now session one.sent.frame thing one.served.item deals is both.0 in
          let more = by (own_stands here later session ran resting one.sent one.sent.frame thing one.served.item deals frames.0 moved (same_stands walk here session ran resting (enters walk it) stand)) in
          first_told drew.0 drew.1 more
          (λ value. going_spent session stopped stood value here later one.sent.frame thing one.served.item deals is moved (is_stored_next stood others) (stored_times session stopped stood value others) (more.spent value))
        where
          counts : length (ran_item ran one.sent one.served.item).over ≡ count
          counts = over_counts ran one.sent one.served.item is

          by : GoesTo later session (ran_item ran one.sent one.served.item) (rests_behind resting one.sent.frame) one.served.item → Told later rest others
          by (GoesOn goes) =
              again later (n + 1) others (ran_item ran one.sent one.served.item) (rests_behind resting one.sent.frame) both.1 whole_later
              (record { has = has; handled = subst (λ (k : ℕ). handled_from k others ≡ true) (sym counts) parts.1; lone = lone_later one others lone; rests = frames.1 }) goes
              (λ any. subst (λ (k : ℕ). (stopped ≡ stopped_in all (ltxid_of session (commits_behind k others))) × (stood ≡ has_entry all (ltxid_of session (commits_behind k others)))) (sym counts) (stop (or_right (is_stop one) (list_any is_stop others) any)))
          by (IsDone marked called crashed right) = absurd (not_both (is_stop one) (ap is_stopped_call crashed) is)

      halting : is_stop one ≡ true → Told walk (it ∷ rest) (one ∷ others)
      halting is =
          let drew = stop_gives here n now one.sent.frame thing one.served.item deals is both.0 whole_here (ltxid_of session (length ran.over)) next are none_stored_here in
          first_told drew.0 drew.1
          (record {
            new = none_drawn history later (n + 1) empty ∙ sym (ap (flat_map new_of) none);
            right = ap (list_all is_right) none;
            spent = λ value. let zero : times value (flat_map draws_of (its session later)) ≡ 0 = ap (λ (entries : List Entry). times value (flat_map draws_of entries)) none_later in omega (arith, zero);
          })
          (λ value.
          subst (λ (more : List Handled). Behind session stopped stood value here one.served.item (is_stored_next stood more) (stored_times session stopped stood value more)) (sym none)
          (stop_spent session stopped stood value all numbered (ltxid_of session (length ran.over)) are stands_so here later whole_here next none_later one.sent.frame thing one.served.item deals is moved))
        where
          crashed : (marked : Bool) × (called : Call) × (one.served.item ≡ item.CrashedCall marked called)
          crashed = is_crashed one.served.item is

          none : others ≡ []
          none = none_later one others lone (ap (λ i. is_last i || is_stopped i) crashed.2)

          empty : served_in history session ≡ []
          empty = has ∙ ap (map told_of) none

          x : Ltxid
          x = ltxid_of session (length ran.over)

          same_here : IsSameWalk walk here
          same_here = enters walk it

          next : next_of here session ≡ ltxid_of session (length ran.over)
          next = ap (λ (stored : List Entry). ltxid_of session (number_of stored session)) same_here.stored ∙ ap (ltxid_of session) stand.count

          at_stop : (stopped ≡ stopped_in all (ltxid_of session (commits_behind (length ran.over) (one ∷ others)))) × (stood ≡ has_entry all (ltxid_of session (commits_behind (length ran.over) (one ∷ others))))
          at_stop = stop (or_left (is_stop one) (list_any is_stop others) is)

          number : commits_behind (length ran.over) (one ∷ others) ≡ length ran.over
          number = ap (commits_behind count) none ∙ ap (counted_with (length ran.over)) crashed.2

          are : stopped ≡ stopped_in all (ltxid_of session (length ran.over))
          are = at_stop.0 ∙ ap (λ (k : ℕ). stopped_in all (ltxid_of session k)) number

          stands_so : stood ≡ has_entry all (ltxid_of session (length ran.over))
          stands_so = at_stop.1 ∙ ap (λ (k : ℕ). has_entry all (ltxid_of session k)) number

          none_later : its session later ≡ []
          none_later = none_stored session base history later (n + 1) both.1 empty

          none_stored_here : later.stored ≡ here.stored → stopped_in all (ltxid_of session (length ran.over)) ≡ []
          none_stored_here same =
              none_in session ran all (done_all base all session ran history later (n + 1) both.1 whole_later empty (same_stored walk later session ran (same ∙ same_here.stored) stand.all))

      own_tells : Told walk (it ∷ rest) (one ∷ others)
      own_tells = by (is_stop one) refl
        where
          by : (test : Bool) → is_stop one ≡ test → Told walk (it ∷ rest) (one ∷ others)
          by true is = halting is
          by false is = going is

  served_tells : (other : SessionId) (now : ℕ) (frame : Up) (told : Telling) (history : List Happened) → Tells history → Tells (Served other now frame told ∷ history)
  served_tells other now frame told history again walk n served ran resting held whole left stand stop = by (same_session other session) refl left.has
    where
      own : (served : List Handled) → other ≡ session → (frame, told) ∷ served_in history session ≡ map told_of served → handled_from (length ran.over) served ≡ true → none_behind served ≡ true
          → rests_rightly resting (map (λ h. h.sent.frame) served) ≡ true → StopIs (length ran.over) served → Told walk ((Did n now other (thing_of frame told)) ∷ items_from (n + 1) history) served
      own [] same has handled lone rests stop = absurd (let never : ⊥ = cc in never)
      own (first ∷ others) same has handled lone rests stop =
          let head : (frame, told) ≡ told_of first = head_same has in
          let tail : served_in history session ≡ map told_of others = tail_same has in
          subst (λ (s : SessionId). Told walk (Did n now s (thing_of frame told) ∷ items_from (n + 1) history) (first ∷ others)) (sym same)
          (subst (λ (pair : Up × Telling). Told walk (Did n now session (thing_of pair.0 pair.1) ∷ items_from (n + 1) history) (first ∷ others)) (sym head)
          (own_tells history again walk n now first others ran resting
          (subst (λ (pair : Up × Telling). items_hold base walk (Did n now session (thing_of pair.0 pair.1) ∷ items_from (n + 1) history) ≡ true) head
          (subst (λ (s : SessionId). items_hold base walk (Did n now s (thing_of frame told) ∷ items_from (n + 1) history) ≡ true) same held)) whole tail handled lone rests stand stop))
        where
          head_same : {A : Type 0} {x y : A} {xs ys : List A} → x ∷ xs ≡ y ∷ ys → x ≡ y
          head_same same = cc

          tail_same : {A : Type 0} {x y : A} {xs ys : List A} → x ∷ xs ≡ y ∷ ys → xs ≡ ys
          tail_same same = cc

      others_tell : same_session other session ≡ false → served_in history session ≡ map told_of served → Told walk ((Did n now other (thing_of frame told)) ∷ items_from (n + 1) history) served
      others_tell apart has =
          let here : Walk = entered walk (Did n now other (thing_of frame told)) in
          let parts = both_hold base all session walk (Did n now other (thing_of frame told)) (items_from (n + 1) history) held in
          let moved = thing_moved base here n now other (thing_of frame told) parts.0 in
          let more = again (later_of walk (Did n now other (thing_of frame told))) (n + 1) served ran resting parts.1 (moved_whole here (later_of walk (Did n now other (thing_of frame told))) other (thing_of frame told) moved ∙ (same_whole walk here (enters walk (Did n now other (thing_of frame told))) ∙ whole))
          (record { has = has; handled = left.handled; lone = left.lone; rests = left.rests })
          (others_stand here (later_of walk (Did n now other (thing_of frame told))) other session (thing_of frame told) ran resting apart moved (same_stands walk here session ran resting (enters walk (Did n now other (thing_of frame told))) stand)) stop in
          record {
            new = ap (λ (test : Bool). new_by test (new_at walk (Did n now other (thing_of frame told))) ++ drawn_for mine base (later_of walk (Did n now other (thing_of frame told))) (items_from (n + 1) history)) apart ∙ more.new;
            right = more.right;
            spent = λ value. alike_spent value walk (later_of walk (Did n now other (thing_of frame told))) served (other_its session here (later_of walk (Did n now other (thing_of frame told))) other (thing_of frame told) apart moved ∙ same_its session walk here (enters walk (Did n now other (thing_of frame told))))
                (other_open session here (later_of walk (Did n now other (thing_of frame told))) other (thing_of frame told) apart moved ∙ same_open session walk here (enters walk (Did n now other (thing_of frame told)))) (more.spent value);
          }

      by : (test : Bool) → same_session other session ≡ test → (if test then (frame, told) ∷ served_in history session else served_in history session) ≡ map told_of served → Told walk ((Did n now other (thing_of frame told)) ∷ items_from (n + 1) history) served
      by true is has = own served (same_session_is other session is) has left.handled left.lone left.rests stop
      by false is has = others_tell is has

  asked_tells : (x : Ltxid) (told : Telling) (history : List Happened) → Tells history → Tells (Asked x told ∷ history)
  asked_tells x told history again walk n served ran resting held whole left stand stop =
      let it : Item = asked_of n x told in
      let same : IsSameWalk walk (later_of walk it) = asked_same base walk n x told in
      let more = again (later_of walk it) (n + 1) served ran resting (both_hold base all session walk it (items_from (n + 1) history) held).1 (same_whole walk (later_of walk it) same ∙ whole)
      (record { has = left.has; handled = left.handled; lone = left.lone; rests = left.rests }) (same_stands walk (later_of walk it) session ran resting same stand) stop in
      record {
        new = ap (λ (test : Bool). new_by test (new_at walk it) ++ drawn_for mine base (later_of walk it) (items_from (n + 1) history)) (asked_by session n x told) ∙ more.new;
        right = more.right;
        spent = λ value. alike_spent value walk (later_of walk it) served (same_its session walk (later_of walk it) same) (same_open session walk (later_of walk it) same) (more.spent value);
      }

  none_tells : Tells []
  none_tells walk n [] ran resting held whole left stand stop = record {
    new = refl;
    right = refl;
    spent = λ value. let zero : times value (flat_map draws_of (its session walk)) ≡ 0 = ap (λ (entries : List Entry). times value (flat_map draws_of entries)) (none_stored session base [] walk n held refl) in omega (arith, zero);
  }
  none_tells walk n (one ∷ served) ran resting held whole left stand stop = absurd (let has = left.has in let never : ⊥ = cc in never)

  pub history_draws : (history : List Happened) → Tells history
  history_draws [] = none_tells
  history_draws (Asked x told ∷ history) = asked_tells x told history (history_draws history)
  history_draws (Served other now frame told ∷ history) = served_tells other now frame told history (history_draws history)
