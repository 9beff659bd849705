-- Along a legal history, how often a value stands among what the entries of one session drew: an
-- item spends what its transaction drew.
use Rattle.std.proofs.Common.{◌≡◌, refl, sym, ap, ◌∙◌, arith, ℕ, ◌+◌, cond, Bool, true, false, List, [], ◌∷◌, ◌++◌, if◌then◌else◌}
use Rattle.std.specs.Prelude.{flat_map, filter}
use Rattle.std.proofs.lemmas.List.Concat.{flat_map-append}
use Rattle.svc_values.specs.declared.answer.Answer.{Answer}
use Rattle.svc_values.specs.declared.call.Call.{Call}
use Rattle.svc_values.specs.declared.draw.Draw.{Draw}
use Rattle.svc_values.specs.declared.entry.Entry.{Entry}
use Rattle.svc_values.specs.declared.entry.Ltxid.{Ltxid}
use Rattle.svc_values.specs.declared.entry.Piece.{Piece}
use Rattle.svc_values.specs.declared.entry.SessionId.{SessionId}
use Rattle.svc_values.specs.meaning.Endings.{ends_committed, last_answer}
use Rattle.svc_values.specs.meaning.Identifiers.{is_of, same_session}
use Rattle.server_model.specs.meaning.Base.{Base}
use Rattle.server_model.specs.meaning.Fresh.{draws_in, draws_of}
use Rattle.server_model.specs.meaning.Items.{Thing, Began, Called, CallStopped, Item, Did, thing_of, asked_of}
use Rattle.server_model.specs.Items.{items_from}
use Rattle.server_model.specs.meaning.Legal.{items_hold}
use Rattle.server_model.specs.Runs.{Happened, Served, Asked}
use Rattle.server_model.specs.meaning.Walk.{Transaction, Walk, transaction_in, deed_of, ends, if_ended, entered, after}
use Rattle.invariant_laws.specs.SessionHistory.{served_in}
use Rattle.once_laws.proofs.Offered.{times, times_both}
use Rattle.invariant_laws.proofs.Offered.{asked_same, both_hold, none_left, moved_others, transaction_own, IsSameWalk, Stores, Takes, Keeps, Calls, IsStored, IsNothing, Moved, enters, thing_moved, ran_walks_committed_ends as committed_ends, is_its}
use Rattle.world_model.proofs.Offered.{session_self}

module _ (session : SessionId) where
  -- the entries of the session that are still to come
  abbrev pub its : Walk → List Entry
  its walk = filter (is_its session) walk.left

  -- what its open transaction drew
  abbrev pub open_in : Walk → List Draw
  open_in walk = flat_map draws_in (transaction_in walk.sessions session).pieces

  pub same_its : (walk later : Walk) → IsSameWalk walk later → its later ≡ its walk
  same_its walk later same = ap (filter (is_its session)) same.left

  pub same_open : (walk later : Walk) → IsSameWalk walk later → open_in later ≡ open_in walk
  same_open walk later same = ap (λ sessions. flat_map draws_in (transaction_in sessions session).pieces) same.sessions

  -- ANOTHER SESSION'S ITEM ------------------------------------------------------------------------

  other_stores : (walk later : Walk) (other : SessionId) (made : Transaction) (test : Bool) → same_session other session ≡ false → Stores walk later other made test → its later ≡ its walk
  other_stores walk later other made _ apart (Keeps stored left) = ap (filter (is_its session)) left
  other_stores walk later other made _ apart (Takes entry rest left stored gone named pieces start) =
      let foreign : is_its session entry ≡ false = ap (λ (x : Ltxid). is_of x session.incarnation session.session) named ∙ apart in
      ap (filter (is_its session)) gone ∙ sym (ap (filter (is_its session)) left ∙ ap (λ (own : Bool). cond own (entry ∷ filter (is_its session) rest) (filter (is_its session) rest)) foreign)

  pub other_its : (walk later : Walk) (other : SessionId) (thing : Thing) → same_session other session ≡ false → Moved walk later other thing → its later ≡ its walk
  other_its walk later other (Began settings) apart moved = ap (filter (is_its session)) moved.left
  other_its walk later other (Called replay kept called answers draws) apart moved = other_stores walk later other moved.made _ apart moved.stores
  other_its walk later other (CallStopped replay called) apart (IsStored answers draws calls) = other_stores walk later other calls.made _ apart calls.stores
  other_its walk later other (CallStopped replay called) apart (IsNothing same) = same_its walk later same
  other_its walk later other thing apart moved = same_its walk later moved

  pub other_open : (walk later : Walk) (other : SessionId) (thing : Thing) → same_session other session ≡ false → Moved walk later other thing → open_in later ≡ open_in walk
  other_open walk later other thing apart moved = ap (λ (made : Transaction). flat_map draws_in made.pieces) (moved_others walk later other session thing apart moved).transaction

  -- a session that serves nothing stores nothing
  pub none_stored : (base : Base) (history : List Happened) (walk : Walk) (n : ℕ) → items_hold base walk (items_from n history) ≡ true → served_in history session ≡ [] → its walk ≡ []
  none_stored base [] walk n held none = ap (filter (is_its session)) (none_left walk.left held)
  none_stored base (Asked x told ∷ history) walk n held none =
      let it : Item = asked_of n x told in
      let later : Walk = after base (entered walk it) it (deed_of base (entered walk it) it) in
      let same : IsSameWalk walk later = asked_same base walk n x told in
      sym (same_its walk later same) ∙ none_stored base history later (n + 1) (both_hold base [] session walk it (items_from (n + 1) history) held).1 none
  none_stored base (Served other now frame told ∷ history) walk n held none =
      by (same_session other session) refl none (λ less. none_stored base history (after base (entered walk (Did n now other (thing_of frame told))) (Did n now other (thing_of frame told)) (deed_of base (entered walk (Did n now other (thing_of frame told))) (Did n now other (thing_of frame told)))) (n + 1) (both_hold base [] session walk (Did n now other (thing_of frame told)) (items_from (n + 1) history) held).1 less)
    where
      by : (test : Bool) → same_session other session ≡ test → (if test then (frame, told) ∷ served_in history session else served_in history session) ≡ []
          → (served_in history session ≡ [] → its (after base (entered walk (Did n now other (thing_of frame told))) (Did n now other (thing_of frame told)) (deed_of base (entered walk (Did n now other (thing_of frame told))) (Did n now other (thing_of frame told)))) ≡ []) → its walk ≡ []
      by true is none again = absurd (let never : ⊥ = cc in never)
      by false apart none again =
          let it : Item = Did n now other (thing_of frame told) in
          let here : Walk = entered walk it in
          let later : Walk = after base here it (deed_of base here it) in
          let moved = thing_moved base here n now other (thing_of frame told) (both_hold base [] session walk it (items_from (n + 1) history) held).0 in
          sym (same_its walk here (enters walk it)) ∙ (sym (other_its here later other (thing_of frame told) apart moved) ∙ again none)

  -- ITS OWN CALL ----------------------------------------------------------------------------------

  module _ (value : Draw) (walk later : Walk) (called : Call) (answers : List Answer) (draws : List Draw) (calls : Calls walk later session called answers draws) where
    -- what the transaction has drawn with the call
    made_drew : times value (flat_map draws_in calls.made.pieces) ≡ times value (open_in walk) + times value draws
    made_drew =
        let parts = times_both value (open_in walk) (draws ++ []) in
        let own = times_both value draws [] in
        ap (times value) (ap (flat_map draws_in) calls.pieces ∙ flat_map-append draws_in (transaction_in walk.sessions session).pieces (record { call = called; answers = answers; draws = draws } ∷ [])) ∙ omega (arith, parts, own)

    open_is : open_in later ≡ flat_map draws_in (if_ended (ends answers) calls.made).pieces
    open_is = ap (λ sessions. flat_map draws_in (transaction_in sessions session).pieces) calls.sessions ∙ ap (λ (made : Transaction). flat_map draws_in made.pieces) (transaction_own walk.sessions session (if_ended (ends answers) calls.made))

    -- the call commits, and the entry has all of it; or none is stored
    pub data Spent : Bool → Bool → Type 0 where
      Commits : (ended : Bool) → times value (flat_map draws_of (its walk)) ≡ times value (open_in walk) + times value draws + times value (flat_map draws_of (its later)) → times value (open_in later) ≡ 0 → Spent true ended
      Ends : times value (flat_map draws_of (its walk)) ≡ times value (flat_map draws_of (its later)) → times value (open_in later) ≡ 0 → Spent false true
      Stays : times value (flat_map draws_of (its walk)) ≡ times value (flat_map draws_of (its later)) → times value (open_in later) ≡ times value (open_in walk) + times value draws → Spent false false

    pub call_spent : Spent (ends_committed answers) (ends answers)
    call_spent = by (ends_committed answers) (ends answers) (committed_ends (last_answer answers)) calls.stores (ap (times value) open_is)
      where
        by : (committed ended : Bool) → (committed ≡ true → ended ≡ true) → Stores walk later session calls.made committed → times value (open_in later) ≡ times value (flat_map draws_in (if_ended ended calls.made).pieces) → Spent committed ended
        by true false also stores opens = absurd (let never : false ≡ true = also refl in let none : ⊥ = cc in none)
        by true true also (Takes entry rest left stored gone named pieces start) opens =
            let own : is_its session entry ≡ true = ap (λ (x : Ltxid). is_of x session.incarnation session.session) named ∙ own_session in
            let first : its walk ≡ entry ∷ filter (is_its session) rest = ap (filter (is_its session)) left ∙ ap (λ (test : Bool). cond test (entry ∷ filter (is_its session) rest) (filter (is_its session) rest)) own in
            let more : filter (is_its session) rest ≡ its later = sym (ap (filter (is_its session)) gone) in
            let both = times_both value (draws_of entry) (flat_map draws_of (its later)) in
            let drew : times value (draws_of entry) ≡ times value (open_in walk) + times value draws = ap (λ (all : List Piece). times value (flat_map draws_in all)) pieces ∙ made_drew in
            let whole : times value (flat_map draws_of (its walk)) ≡ times value (draws_of entry ++ flat_map draws_of (its later)) = ap (λ (all : List Entry). times value (flat_map draws_of all)) (first ∙ ap (λ (all : List Entry). entry ∷ all) more) in
            Commits true (omega (arith, both, drew, whole)) opens
          where
            own_session : same_session session session ≡ true
            own_session = session_self session
        by false true also (Keeps stored left) opens = Ends (ap (λ (all : List Entry). times value (flat_map draws_of (filter (is_its session) all))) (sym left)) opens
        by false false also (Keeps stored left) opens = Stays (ap (λ (all : List Entry). times value (flat_map draws_of (filter (is_its session) all))) (sym left)) (opens ∙ made_drew)
