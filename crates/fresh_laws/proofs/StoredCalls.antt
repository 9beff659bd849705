-- Along a legal history the entries of a connection's session drew what its calls were given that
-- were of transactions that were stored.
use Rattle.std.proofs.Common.{◌≡◌, refl, sym, ap, subst, ◌∙◌, arith, ℕ, ◌+◌, ◌≤◌, ◌&&◌, Bool, true, false, List, [], ◌∷◌, ◌++◌, Some, None, if◌then◌else◌}
use Rattle.std.specs.Prelude.{flat_map, filter}
use Rattle.std.specs.List.{last_or}
use Rattle.std.proofs.lemmas.Bool.{or_left, or_right}
use Rattle.std.proofs.lemmas.List.Folds.{list_any-append}
use Rattle.svc_values.specs.declared.answer.Answer.{Answer}
use Rattle.svc_values.specs.declared.call.Call.{Call}
use Rattle.svc_values.specs.declared.draw.Draw.{Draw}
use Rattle.svc_values.specs.declared.entry.Entry.{Entry}
use Rattle.svc_values.specs.declared.entry.Ltxid.{Ltxid}
use Rattle.svc_values.specs.declared.entry.Piece.{Piece}
use Rattle.svc_values.specs.declared.entry.SessionId.{SessionId}
use Rattle.svc_values.specs.declared.frame.Up.{Up}
use Rattle.svc_values.specs.meaning.Endings.{ends_committed}
use Rattle.svc_values.specs.meaning.Identifiers.{same_ltxid}
use Rattle.svc_values.specs.SameLaws.{same_ltxid_decides}
use Rattle.outage_schedule.specs.declared.item.Item.{Item as ItemTold}
use Rattle.outage_schedule.specs.declared.item.Item.TheVariants as item
use Rattle.server_model.specs.meaning.Fresh.{draws_in, draws_of}
use Rattle.server_model.specs.meaning.Items.{Thing}
use Rattle.server_model.specs.meaning.Walk.{Transaction, begun, Walk, transaction_in, next_of, ends}
use Rattle.world_model.specs.meaning.Frames.{Handled}
use Rattle.world_model.specs.records.Number.{is_stopped_call, numbered_after}
use Rattle.world_model.specs.Parts.{has_entry}
use Rattle.once_laws.specs.StoredOnce.{goes, is_stored_next, is_call, stored_of, given_in, given_to}
use Rattle.once_laws.proofs.Offered.{times, times_both}
use Rattle.world_model.proofs.Offered.{last_pushed}
use Rattle.invariant_laws.proofs.Offered.{Deals, DealsBegin, DealsEnd, DealsCall, DealsStop, DealsQuietly, is_quiet_item, whole_of, is_its, IsSameWalk, Stores, Takes, Keeps, Calls, IsStored, IsNothing, Moved, quiet_same, transaction_own}
use Rattle.fresh_laws.proofs.SessionEntries.{its, open_in, same_its, same_open, Spent, Commits, Ends, Stays, call_spent}
use Rattle.fresh_laws.proofs.StoppedDraws.{stopped_in, last_drawn, found_in}

-- HOW OFTEN ---------------------------------------------------------------------------------------

abbrev pub count_if : Bool → ℕ → ℕ
count_if test count = if test then count else 0

module _ (session : SessionId) (stopped : List Draw) (stood : Bool) (value : Draw) where
  abbrev pub stored_times : List Handled → ℕ
  stored_times served = times value (flat_map (given_to stopped) (stored_of stood served))

  abbrev pub left_times : Walk → ℕ
  left_times walk = times value (flat_map draws_of (its session walk))

  abbrev pub open_times : Walk → ℕ
  open_times walk = times value (open_in session walk)

  -- what the entries to come drew was drawn by the open transaction, if it is stored, or is given
  -- to calls that are stored
  abbrev pub IsSpent : Walk → List Handled → Type 0
  IsSpent walk served = left_times walk ≤ count_if (is_stored_next stood served) (open_times walk) + stored_times served

  one_more : (one : Handled) (others : List Handled) (test : Bool)
      → times value (flat_map (given_to stopped) (if test then one ∷ stored_of stood others else stored_of stood others)) ≡ count_if test (times value (given_to stopped one)) + stored_times others
  one_more one others true = times_both value (given_to stopped one) (flat_map (given_to stopped) (stored_of stood others))
  one_more one others false = omega arith

  quiet_goes : (one : ItemTold) (later : Bool) → is_quiet_item one ≡ true → (goes stood one later ≡ later) × (is_call one ≡ false)
  quiet_goes (item.Begin settings) later quiet = absurd (let never : ⊥ = cc in never)
  quiet_goes (item.Call marked called answers draws) later quiet = absurd (let never : ⊥ = cc in never)
  quiet_goes (item.CrashedCall marked called) later quiet = absurd (let never : ⊥ = cc in never)
  quiet_goes one later quiet = (refl, refl)

  abbrev pub Behind : Walk → ItemTold → Bool → ℕ → Type 0
  Behind walk one next rest = left_times walk ≤ count_if (goes stood one next) (open_times walk) + (count_if (is_call one && goes stood one next) (times value (given_in stopped one)) + rest)

  same_behind : (walk later : Walk) (one : ItemTold) (next : Bool) (rest : ℕ) → IsSameWalk walk later → goes stood one next ≡ next → is_call one ≡ false → left_times later ≤ count_if next (open_times later) + rest → Behind walk one next rest
  same_behind walk later one next rest same goes_on plain most =
      let left : left_times later ≡ left_times walk = ap (λ (all : List Entry). times value (flat_map draws_of all)) (same_its session walk later same) in
      let opens : count_if next (open_times later) ≡ count_if next (open_times walk) = ap (λ (draws : List Draw). count_if next (times value draws)) (same_open session walk later same) in
      let first : count_if (goes stood one next) (open_times walk) ≡ count_if next (open_times walk) = ap (λ (test : Bool). count_if test (open_times walk)) goes_on in
      let none : count_if (is_call one && goes stood one next) (times value (given_in stopped one)) ≡ 0 = ap (λ (test : Bool). count_if (test && goes stood one next) (times value (given_in stopped one))) plain in
      omega (arith, most, left, opens, first, none)

  -- an item that was not stopped
  pub going_spent : (walk later : Walk) (frame : Up) (thing : Thing) (one : ItemTold) → Deals frame thing one → is_stopped_call one ≡ false → Moved walk later session thing → (next : Bool) (rest : ℕ) → left_times later ≤ count_if next (open_times later) + rest → Behind walk one next rest
  going_spent walk later _ _ _ (DealsBegin settings) going moved next rest most =
      let left : left_times later ≡ left_times walk = ap (λ (all : List Entry). times value (flat_map draws_of (filter (is_its session) all))) moved.left in
      let opens : open_times later ≡ 0 = ap (λ sessions. times value (flat_map draws_in (transaction_in sessions session).pieces)) moved.sessions ∙ ap (λ (made : Transaction). times value (flat_map draws_in made.pieces)) (transaction_own walk.sessions session (begun settings)) in
      by next opens most left
    where
      by : (test : Bool) → open_times later ≡ 0 → left_times later ≤ count_if test (open_times later) + rest → left_times later ≡ left_times walk → left_times walk ≤ 0 + (0 + rest)
      by true opens most left = omega (arith, opens, most, left)
      by false opens most left = omega (arith, most, left)
  going_spent walk later _ _ _ DealsEnd going moved next rest most = same_behind walk later item.End next rest moved refl refl most
  going_spent walk later _ _ _ (DealsCall replay marked kept called answers draws) going moved next rest most =
      by (ends_committed answers) (ends answers) (call_spent session value walk later called answers draws moved)
    where
      by : (committed ended : Bool) → Spent session value walk later called answers draws moved committed ended
          → left_times walk ≤ count_if (if committed then true else (if ended then false else next)) (open_times walk) + (count_if (if committed then true else (if ended then false else next)) (times value draws) + rest)
      by true _ (Commits ended all opens) = of next most
        where
          of : (test : Bool) → left_times later ≤ count_if test (open_times later) + rest → left_times walk ≤ open_times walk + (times value draws + rest)
          of true most = omega (arith, all, opens, most)
          of false most = omega (arith, all, most)
      by false true (Ends same opens) = of next most
        where
          of : (test : Bool) → left_times later ≤ count_if test (open_times later) + rest → left_times walk ≤ 0 + (0 + rest)
          of true most = omega (arith, same, opens, most)
          of false most = omega (arith, same, most)
      by false false (Stays same opens) = of next most
        where
          of : (test : Bool) → left_times later ≤ count_if test (open_times later) + rest → left_times walk ≤ count_if test (open_times walk) + (count_if test (times value draws) + rest)
          of true most = omega (arith, same, opens, most)
          of false most = omega (arith, same, most)
  going_spent walk later _ _ _ (DealsStop replay marked kept called) going moved next rest most = absurd (let never : ⊥ = cc in never)
  going_spent walk later _ _ _ (DealsQuietly frame thing one rests quiet plain) going moved next rest most =
      let so = quiet_goes one next plain in same_behind walk later one next rest (quiet_same walk later session thing quiet moved) so.0 so.1 most

  -- A CALL THAT WAS STOPPED -----------------------------------------------------------------------

  module _ (all : List Entry) (numbered : numbered_after [] all ≡ true) (x : Ltxid) (are : stopped ≡ stopped_in all x) (stands : stood ≡ has_entry all x) (walk later : Walk) (whole : whole_of walk ≡ all) (next_is : next_of walk session ≡ x)
      (none : its session later ≡ []) where
    nothing : its session later ≡ its session walk → left_times walk ≡ 0
    nothing same = ap (λ (entries : List Entry). times value (flat_map draws_of entries)) (sym same ∙ none)

    stored : (called : Call) (answers : List Answer) (draws : List Draw) (calls : Calls walk later session called answers draws) (test ended : Bool) → Stores walk later session calls.made test → Spent session value walk later called answers draws calls test ended
        → left_times walk ≤ count_if stood (open_times walk) + (count_if stood (times value stopped) + 0)
    stored called answers draws calls _ _ (Keeps kept left) spent = let zero = nothing (ap (filter (is_its session)) left) in omega (arith, zero)
    stored called answers draws calls _ _ (Takes entry rest left kept gone named pieces start) (Commits ended spent opens) =
        let split : all ≡ walk.stored ++ entry ∷ rest = sym whole ∙ ap (λ (more : List Entry). walk.stored ++ more) left in
        let mine : entry.ltxid ≡ x = named ∙ next_is in
        let same : same_ltxid entry.ltxid x ≡ true = (same_ltxid_decides entry.ltxid x).1 mine in
        let back : same_ltxid x entry.ltxid ≡ true = (same_ltxid_decides x entry.ltxid).1 (sym mine) in
        let there : stood ≡ true =
        stands ∙ (ap (λ (entries : List Entry). has_entry entries x) split
        ∙ (list_any-append (λ (one : Entry). same_ltxid x one.ltxid) walk.stored (entry ∷ rest) ∙ or_right (has_entry walk.stored x) (has_entry (entry ∷ rest) x) (or_left (same_ltxid x entry.ltxid) (has_entry rest x) back))) in
        let piece : Piece = record { call = called; answers = answers; draws = draws } in
        let last : last_or None entry.pieces ≡ Some piece = ap (last_or None) (pieces ∙ calls.pieces) ∙ last_pushed None (transaction_in walk.sessions session).pieces piece in
        let drew : times value stopped ≡ times value draws =
        ap (times value) (are ∙ (ap (λ (entries : List Entry). stopped_in entries x) split ∙ (found_in walk.stored entry rest x (subst (λ (entries : List Entry). numbered_after [] entries ≡ true) split numbered) same ∙ last_drawn entry.pieces piece last))) in
        let zero : times value (flat_map draws_of (its session later)) ≡ 0 = ap (λ (entries : List Entry). times value (flat_map draws_of entries)) none in
        let first : count_if stood (open_times walk) ≡ open_times walk = ap (λ (test : Bool). count_if test (open_times walk)) there in
        let second : count_if stood (times value stopped) ≡ times value stopped = ap (λ (test : Bool). count_if test (times value stopped)) there in
        omega (arith, spent, drew, zero, first, second)

    pub stop_spent : (frame : Up) (thing : Thing) (one : ItemTold) → Deals frame thing one → is_stopped_call one ≡ true → Moved walk later session thing → Behind walk one false 0
    stop_spent _ _ _ (DealsBegin settings) is moved = absurd (let never : ⊥ = cc in never)
    stop_spent _ _ _ DealsEnd is moved = absurd (let never : ⊥ = cc in never)
    stop_spent _ _ _ (DealsCall replay marked kept called answers draws) is moved = absurd (let never : ⊥ = cc in never)
    stop_spent _ _ _ (DealsStop replay marked kept called) is (IsNothing same) = let zero = nothing (same_its session walk later same) in omega (arith, zero)
    stop_spent _ _ _ (DealsStop replay marked kept called) is (IsStored answers draws calls) = stored called answers draws calls (ends_committed answers) (ends answers) calls.stores (call_spent session value walk later called answers draws calls)
    stop_spent _ _ _ (DealsQuietly frame thing one rests quiet plain) is moved = absurd (quiet_stop one plain is)
      where
        quiet_stop : (it : ItemTold) → is_quiet_item it ≡ true → is_stopped_call it ≡ true → ⊥
        quiet_stop (item.CrashedCall marked called) plain is = let never : ⊥ = cc in never
        quiet_stop it plain is = let never : ⊥ = cc in never

  -- ITS FRAME -------------------------------------------------------------------------------------

  pub behind_spent : (walk here : Walk) (one : Handled) (others : List Handled) → IsSameWalk walk here → Behind here one.served.item (is_stored_next stood others) (stored_times others) → IsSpent walk (one ∷ others)
  behind_spent walk here one others same most =
      let left : left_times here ≡ left_times walk = ap (λ (all : List Entry). times value (flat_map draws_of all)) (same_its session walk here same) in
      let opens : count_if (is_stored_next stood (one ∷ others)) (open_times here) ≡ count_if (is_stored_next stood (one ∷ others)) (open_times walk) =
      ap (λ (draws : List Draw). count_if (is_stored_next stood (one ∷ others)) (times value draws)) (same_open session walk here same) in
      let more = one_more one others (is_call one.served.item && is_stored_next stood (one ∷ others)) in
      omega (arith, most, left, opens, more)
