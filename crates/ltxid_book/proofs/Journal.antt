-- The book of a journal with one record more.
use Rattle.std.proofs.Common.{◌≡◌, ℕ, ◌+◌, ◌==◌, ◌&&◌, ◌||◌, Bool, true, false, List, [], ◌∷◌, ◌++◌, length, if◌then◌else◌, refl, sym, ap, ◌∙◌, arith, length-append, append-nil}
use Rattle.std.proofs.lemmas.List.Elements.{filter-append}
use Rattle.std.proofs.lemmas.List.Folds.{list_any-append}
use Rattle.std.proofs.lemmas.Bool.Decides.{nat_tests}
use Rattle.std.proofs.Math.Bool.{or-true, or-false}
use Rattle.std.specs.Prelude.{nat_lt}
use Rattle.svc_values.specs.declared.entry.Ltxid.{Ltxid}
use Rattle.ltxid_book.specs.declared.State.{State}
use Rattle.svc_values.specs.meaning.Identifiers.{is_of, same_ltxid}
use Rattle.ltxid_book.specs.meaning.Sessions.{untouched}
use Rattle.ltxid_book.specs.Sessions.{with_state}
use Rattle.ltxid_book.specs.meaning.Journal.{Committed, commits_of, last_completed, is_blocked, next_ltxid, state_of, book_of}
use Rattle.ltxid_book.specs.Journal.{BlocksStand}
use Rattle.ltxid_book.specs.Laws.{BeginsUntouched, FollowsCommits, FollowsBlocks, FollowsForgetting, TellsBlocks}
use Rattle.ltxid_book.proofs.Known.{May, may_known, known_with, known_again, never_below}

is_of-self : (x : Ltxid) → is_of x x.incarnation x.session ≡ true
is_of-self x = grind (arith, nat_tests)

-- the parts of an identifier of a session
pub record Parts (x : Ltxid) (incarnation session : ℕ) : Type 0 where
  pub incarnation_is : x.incarnation ≡ incarnation
  pub session_is : x.session ≡ session

pub parts_of : (x : Ltxid) (incarnation session : ℕ) → is_of x incarnation session ≡ true → Parts x incarnation session
parts_of x incarnation session own = record { incarnation_is = grind (arith, nat_tests); session_is = grind (arith, nat_tests) }

pub state_parts : (a b : State) → a.next ≡ b.next → a.blocked ≡ b.blocked → a.completed ≡ b.completed → a ≡ b
state_parts a b p q r = λ i. record { next = p i; blocked = q i; completed = r i }

ltxid_parts : (x y : Ltxid) → x.incarnation ≡ y.incarnation → x.session ≡ y.session → x.number ≡ y.number → x ≡ y
ltxid_parts x y p q r = λ i. record { incarnation = p i; session = q i; number = r i }

pub last_completed-push : (commits : List Committed) (c : Committed) → last_completed (commits ++ c ∷ []) ≡ c.completed
last_completed-push [] c = refl
last_completed-push (a ∷ []) c = refl
last_completed-push (a ∷ b ∷ commits) c = last_completed-push (b ∷ commits) c

-- a commit more counts for its own session alone
pub commits_of-push : (commits : List Committed) (c : Committed) (incarnation session : ℕ) (own : Bool) → is_of c.ltxid incarnation session ≡ own
    → commits_of (commits ++ c ∷ []) incarnation session ≡ (if own then commits_of commits incarnation session ++ c ∷ [] else commits_of commits incarnation session)
commits_of-push commits c incarnation session own is =
    filter-append (λ d. is_of d.ltxid incarnation session) commits (c ∷ [])
    ∙ ap (λ b. commits_of commits incarnation session ++ (if b then c ∷ [] else [])) is
    ∙ tail own
  where
    tail : (b : Bool) → commits_of commits incarnation session ++ (if b then c ∷ [] else []) ≡ (if b then commits_of commits incarnation session ++ c ∷ [] else commits_of commits incarnation session)
    tail true = refl
    tail false = append-nil _

-- the commits that stand for the same session
pub commits_of-same : (commits : List Committed) (x : Ltxid) (incarnation session : ℕ) → Parts x incarnation session → commits_of commits x.incarnation x.session ≡ commits_of commits incarnation session
commits_of-same commits x incarnation session parts = λ i. commits_of commits (parts.incarnation_is i) (parts.session_is i)

is_blocked-false : (blocks : List Ltxid) (x : Ltxid) → ((is_blocked blocks x ≡ true) → ⊥) → is_blocked blocks x ≡ false
is_blocked-false blocks x never = by (is_blocked blocks x) refl
  where
    by : (b : Bool) → is_blocked blocks x ≡ b → is_blocked blocks x ≡ false
    by false e = e
    by true e = absurd (never e)

-- a commit that may come stands for its session's next number, and no later identifier is blocked
module _ (commits : List Committed) (blocks : List Ltxid) (c : Committed) (stand : BlocksStand commits blocks) (may : May c.ltxid (state_of commits blocks c.ltxid.incarnation c.ltxid.session)) where
  own_commits : (incarnation session : ℕ) → is_of c.ltxid incarnation session ≡ true → commits_of (commits ++ c ∷ []) incarnation session ≡ commits_of commits incarnation session ++ c ∷ []
  own_commits incarnation session own = commits_of-push commits c incarnation session true own

  own_count : (incarnation session : ℕ) → is_of c.ltxid incarnation session ≡ true → length (commits_of (commits ++ c ∷ []) incarnation session) ≡ c.ltxid.number + 1
  own_count incarnation session own =
      ap length (own_commits incarnation session own)
      ∙ length-append (commits_of commits incarnation session) (c ∷ [])
      ∙ ap (λ n. n + 1) (sym (ap length (commits_of-same commits c.ltxid incarnation session (parts_of c.ltxid incarnation session own))) ∙ sym may.number_is)

  later_is_free : (incarnation session : ℕ) → is_of c.ltxid incarnation session ≡ true → is_blocked blocks (next_ltxid (commits ++ c ∷ []) incarnation session) ≡ false
  later_is_free incarnation session own = is_blocked-false blocks (next_ltxid (commits ++ c ∷ []) incarnation session) (λ blocked.
      let at = stand (next_ltxid (commits ++ c ∷ []) incarnation session) blocked in
      let more = ap length (own_commits incarnation session own) ∙ length-append (commits_of commits incarnation session) (c ∷ []) in
      omega arith)

  follows : (incarnation session : ℕ) (own : Bool) → is_of c.ltxid incarnation session ≡ own
      → state_of (commits ++ c ∷ []) blocks incarnation session ≡ (if own then record { next = c.ltxid.number + 1; blocked = false; completed = c.completed } else state_of commits blocks incarnation session)
  follows incarnation session true own =
      state_parts (state_of (commits ++ c ∷ []) blocks incarnation session) (record { next = c.ltxid.number + 1; blocked = false; completed = c.completed })
      (own_count incarnation session own) (later_is_free incarnation session own)
      (ap last_completed (own_commits incarnation session own) ∙ last_completed-push (commits_of commits incarnation session) c)
  follows incarnation session false other =
      ap (λ (l : List Committed). let state : State = record { next = length l; blocked = is_blocked blocks (record { incarnation = incarnation; session = session; number = length l }); completed = last_completed l } in state)
      (commits_of-push commits c incarnation session false other)

  -- a blocked identifier of this session would be the one that commits
  stands : (x : Ltxid) (own : Bool) → is_of c.ltxid x.incarnation x.session ≡ own → is_blocked blocks x ≡ true → x.number ≡ length (commits_of (commits ++ c ∷ []) x.incarnation x.session)
  stands x false other blocked = stand x blocked ∙ sym (ap length (commits_of-push commits c x.incarnation x.session false other))
  stands x true own blocked =
      let parts = parts_of c.ltxid x.incarnation x.session own in
      let counts = ap length (commits_of-same commits c.ltxid x.incarnation x.session parts) in
      let one : x ≡ next_ltxid commits c.ltxid.incarnation c.ltxid.session = ltxid_parts x (next_ltxid commits c.ltxid.incarnation c.ltxid.session) (sym parts.incarnation_is) (sym parts.session_is) (stand x blocked ∙ sym counts) in
      let no : true ≡ false = sym blocked ∙ ap (is_blocked blocks) one ∙ may.free in
      absurd (let none : ⊥ = cc in none)

-- the states of sessions after one more commit
pub commit_states : (commits : List Committed) (blocks : List Ltxid) (c : Committed) → BlocksStand commits blocks → May c.ltxid (state_of commits blocks c.ltxid.incarnation c.ltxid.session)
    → (incarnation session : ℕ) → state_of (commits ++ c ∷ []) blocks incarnation session ≡ (if is_of c.ltxid incarnation session then record { next = c.ltxid.number + 1; blocked = false; completed = c.completed } else state_of commits blocks incarnation session)
commit_states commits blocks c stand may incarnation session = follows commits blocks c stand may incarnation session (is_of c.ltxid incarnation session) refl

pub commit_stands : (commits : List Committed) (blocks : List Ltxid) (c : Committed) → BlocksStand commits blocks → May c.ltxid (state_of commits blocks c.ltxid.incarnation c.ltxid.session) → BlocksStand (commits ++ c ∷ []) blocks
commit_stands commits blocks c stand may x blocked = stands commits blocks c stand may x (is_of c.ltxid x.incarnation x.session) refl blocked

-- a block more blocks the one identifier
pub is_blocked-push : (blocks : List Ltxid) (x y : Ltxid) (same : Bool) → same_ltxid x y ≡ same → is_blocked (blocks ++ x ∷ []) y ≡ (is_blocked blocks y || same)
is_blocked-push blocks x y same is = list_any-append (λ block. same_ltxid block y) blocks (x ∷ []) ∙ ap (λ b. is_blocked blocks y || b) (tail (same_ltxid x y) ∙ is)
  where
    tail : (b : Bool) → (b || false) ≡ b
    tail true = refl
    tail false = refl

module _ (commits : List Committed) (blocks : List Ltxid) (x : Ltxid) (stand : BlocksStand commits blocks) (may : May x (state_of commits blocks x.incarnation x.session)) where
  is_next : (incarnation session : ℕ) → is_of x incarnation session ≡ true → same_ltxid x (next_ltxid commits incarnation session) ≡ true
  is_next incarnation session own =
      let counts = ap length (commits_of-same commits x incarnation session (parts_of x incarnation session own)) in
      let number : x.number ≡ length (commits_of commits incarnation session) = may.number_is ∙ counts in
      grind (arith, nat_tests)

  follows_block : (incarnation session : ℕ) (own : Bool) → is_of x incarnation session ≡ own
      → state_of commits (blocks ++ x ∷ []) incarnation session ≡ (if own then record (state_of commits blocks x.incarnation x.session) { blocked = true } else state_of commits blocks incarnation session)
  follows_block incarnation session true own =
      let same = commits_of-same commits x incarnation session (parts_of x incarnation session own) in
      state_parts (state_of commits (blocks ++ x ∷ []) incarnation session) (record (state_of commits blocks x.incarnation x.session) { blocked = true })
      (sym (ap length same))
      (is_blocked-push blocks x (next_ltxid commits incarnation session) true (is_next incarnation session own) ∙ or-true _)
      (sym (ap last_completed same))
  follows_block incarnation session false other =
      state_parts (state_of commits (blocks ++ x ∷ []) incarnation session) (state_of commits blocks incarnation session) refl
      (is_blocked-push blocks x (next_ltxid commits incarnation session) false (ap (λ b. b && (x.number == length (commits_of commits incarnation session))) other) ∙ or-false _)
      refl

  stands_block : (y : Ltxid) (same : Bool) → same_ltxid x y ≡ same → is_blocked (blocks ++ x ∷ []) y ≡ true → y.number ≡ length (commits_of commits y.incarnation y.session)
  stands_block y false other blocked = stand y (sym (or-false _) ∙ sym (is_blocked-push blocks x y false other) ∙ blocked)
  stands_block y true one blocked =
      let own : is_of x y.incarnation y.session ≡ true = grind (arith, nat_tests) in
      let number : x.number ≡ y.number = grind (arith, nat_tests) in
      sym number ∙ may.number_is ∙ ap length (commits_of-same commits x y.incarnation y.session (parts_of x y.incarnation y.session own))

-- the states of sessions after one more block
pub block_states : (commits : List Committed) (blocks : List Ltxid) (x : Ltxid) → BlocksStand commits blocks → May x (state_of commits blocks x.incarnation x.session)
    → (incarnation session : ℕ) → state_of commits (blocks ++ x ∷ []) incarnation session ≡ (if is_of x incarnation session then record (state_of commits blocks x.incarnation x.session) { blocked = true } else state_of commits blocks incarnation session)
block_states commits blocks x stand may incarnation session = follows_block commits blocks x stand may incarnation session (is_of x incarnation session) refl

pub block_stands : (commits : List Committed) (blocks : List Ltxid) (x : Ltxid) → BlocksStand commits blocks → May x (state_of commits blocks x.incarnation x.session) → BlocksStand commits (blocks ++ x ∷ [])
block_stands commits blocks x stand may y blocked = stands_block commits blocks x stand may y (same_ltxid x y) refl blocked

-- ---- the laws

pub begins_untouched : BeginsUntouched
begins_untouched = (never_below (state_of [] []) (λ incarnation session. refl), λ x blocked. absurd (let none : ⊥ = cc in none))

pub follows_commits : FollowsCommits
follows_commits horizon commits blocks c stand may =
    let at = may_known horizon (state_of commits blocks) c.ltxid may in (
      sym (known_with horizon (state_of commits blocks) (state_of (commits ++ c ∷ []) blocks) c.ltxid _ at.0 (commit_states commits blocks c stand at.1)),
      commit_stands commits blocks c stand at.1,
    )

pub follows_blocks : FollowsBlocks
follows_blocks horizon commits blocks x stand may =
    let at = may_known horizon (state_of commits blocks) x may in
    let own = state_of commits blocks x.incarnation x.session in
    let blocked = λ (state : State). let one : State = record state { blocked = true } in one in (
      ap (λ b. with_state (book_of horizon commits blocks) x (blocked (if b then untouched else own))) at.0
          ∙ sym (known_with horizon (state_of commits blocks) (state_of commits (blocks ++ x ∷ [])) x (blocked own) at.0 (block_states commits blocks x stand at.1)),
      block_stands commits blocks x stand at.1,
    )

pub follows_forgetting : FollowsForgetting
follows_forgetting horizon below commits blocks = known_again horizon below (state_of commits blocks)

told : (blocks : List Ltxid) (x : Ltxid) (below : Bool) (state : State) → below ≡ false → (x.number ≡ state.next → state.blocked ≡ is_blocked blocks x) → x.number ≡ (if below then untouched else state).next → (if below then untouched else state).blocked ≡ is_blocked blocks x
told blocks x true state known tells next = absurd (let none : ⊥ = cc in none)
told blocks x false state known tells next = tells next

pub tells_blocks : TellsBlocks
tells_blocks horizon commits blocks x known next =
    told blocks x (nat_lt x.incarnation horizon) (state_of commits blocks x.incarnation x.session) known
    (λ is. ap (λ n. is_blocked blocks (record { incarnation = x.incarnation; session = x.session; number = n })) (sym is))
    next
