-- Blocks on the way over the answers.
use Rattle.std.proofs.Common.{◌≡◌, ℕ, ◌≤◌, List, [], ◌∷◌, length, drop, Bool, true, false, ◌&&◌, ◌||◌, ◌==◌, cond, refl, sym, ap, subst, ◌∙◌, arith}
use Rattle.std.specs.Prelude.{fold, is_none, is_some, Option, Some, None, nat_eq}
use Rattle.svc_values.specs.declared.entry.Ltxid.{Ltxid}
use Rattle.svc_values.specs.meaning.Identifiers.{same_ltxid}
use Rattle.svc_values.specs.SameLaws.{same_ltxid_decides}
use Rattle.ltxid_book.specs.meaning.Journal.{is_blocked}
use Rattle.run_clauses.specs.meaning.Blocks.{Answered, Blocks, after_answer, block_next, is_done}
use Rattle.stored_check.specs.Blocking.{is_first, IsAt}
use Rattle.stored_check.specs.declared.blocks.Blocking.{Blocking}

-- the identifier is blocked already
pub stays : (one : Answered) (blocks : Blocks) → is_blocked blocks.done one.ltxid ≡ true → after_answer blocks one ≡ blocks
stays one blocks is = ap (λ b. cond b blocks (block_next one blocks blocks.coming)) is

-- it is another than the next one
pub left_out : (one : Answered) (blocks : Blocks) → is_blocked blocks.done one.ltxid ≡ false → is_first blocks.coming one.ltxid ≡ false
    → after_answer blocks one ≡ record blocks { fits = blocks.fits && one.may_be }
left_out one blocks is other = ap (λ b. cond b blocks (block_next one blocks blocks.coming)) is ∙ by blocks.coming other
  where
    by : (coming : List Ltxid) → is_first coming one.ltxid ≡ false → block_next one blocks coming ≡ record blocks { fits = blocks.fits && one.may_be }
    by [] none = refl
    by (next ∷ coming) none = ap (λ b. cond b (record blocks { done = next ∷ blocks.done; coming = coming }) (record blocks { fits = blocks.fits && one.may_be })) none

-- it is the next one
pub comes : (one : Answered) (blocks : Blocks) (next : Ltxid) (coming : List Ltxid) → is_blocked blocks.done one.ltxid ≡ false → blocks.coming ≡ next ∷ coming → same_ltxid next one.ltxid ≡ true
    → after_answer blocks one ≡ record blocks { done = one.ltxid ∷ blocks.done; coming = coming }
comes one blocks next coming is here same =
    ap (λ b. cond b blocks (block_next one blocks blocks.coming)) is
    ∙ ap (block_next one blocks) here
    ∙ ap (λ b. cond b (record blocks { done = next ∷ blocks.done; coming = coming }) (record blocks { fits = blocks.fits && one.may_be })) same
    ∙ ap (λ (x : Ltxid). record blocks { done = x ∷ blocks.done; coming = coming }) ((same_ltxid_decides next one.ltxid).0 same)

-- at first
abbrev pub first_blocks : List Ltxid → List Ltxid → Blocks
first_blocks before blocked = record { done = before; coming = blocked; fits = true }

-- the blocks that code stands at, with these answers left
pub record HasCome (blocking : Blocking) (before blocked : List Ltxid) (all left : List Answered) : Type 0 where
  pub blocks : Blocks
  pub is_at : IsAt blocking blocks
  pub goes_on : fold after_answer blocks left ≡ fold after_answer (first_blocks before blocked) all

pub has_first : (coming : List Ltxid) (x : Ltxid) → is_first coming x ≡ true → 1 ≤ length coming
has_first [] x is = let none : ◌≡◌ {A = Bool} false true = is in cc
has_first (next ∷ coming) x is = omega arith

pub stays_at : (blocking : Blocking) (blocks : Blocks) (one : Answered) → IsAt blocking blocks → is_blocked blocking.done one.ltxid ≡ true → IsAt blocking (after_answer blocks one)
stays_at blocking blocks one is has = subst (λ (b : Blocks). IsAt blocking b) (sym (stays one blocks (sym (is.done one.ltxid) ∙ has))) is

-- what code holds, part by part
pub left_at : (blocking new : Blocking) (blocks : Blocks) (one : Answered) → IsAt blocking blocks → is_blocked blocking.done one.ltxid ≡ false → is_first blocking.coming.now one.ltxid ≡ false
    → new.done ≡ blocking.done → new.coming.now ≡ blocking.coming.now → is_none new.wrong ≡ (is_none blocking.wrong && one.may_be) → IsAt new (after_answer blocks one)
left_at blocking new blocks one is has other done coming fits =
    subst (λ (b : Blocks). IsAt new b) (sym (left_out one blocks (sym (is.done one.ltxid) ∙ has) (sym (ap (λ (l : List Ltxid). is_first l one.ltxid) is.coming) ∙ other)))
    (record {
      done = λ x. ap (λ (l : List Ltxid). is_blocked l x) done ∙ is.done x;
      coming = coming ∙ is.coming;
      fits = fits ∙ ap (λ b. b && one.may_be) is.fits;
    })

first_comes : (one : Answered) (blocks : Blocks) (coming : List Ltxid) → blocks.coming ≡ coming → is_blocked blocks.done one.ltxid ≡ false → is_first coming one.ltxid ≡ true
    → after_answer blocks one ≡ record blocks { done = one.ltxid ∷ blocks.done; coming = drop 1 coming }
first_comes one blocks [] here has is = let none : ◌≡◌ {A = Bool} false true = is in cc
first_comes one blocks (next ∷ coming) here has is = comes one blocks next coming has here is

or_turned : (a b : Bool) → (a || b) ≡ (b || a)
or_turned true true = refl
or_turned true false = refl
or_turned false true = refl
or_turned false false = refl

pub comes_at : (blocking new : Blocking) (blocks : Blocks) (one : Answered) → IsAt blocking blocks → is_blocked blocking.done one.ltxid ≡ false → is_first blocking.coming.now one.ltxid ≡ true
    → ((x : Ltxid) → is_blocked new.done x ≡ (is_blocked blocking.done x || same_ltxid one.ltxid x)) → new.coming.now ≡ drop 1 blocking.coming.now → new.wrong ≡ blocking.wrong
    → IsAt new (after_answer blocks one)
comes_at blocking new blocks one is has next done coming fits =
    subst (λ (b : Blocks). IsAt new b) (sym (first_comes one blocks blocking.coming.now (sym is.coming) (sym (is.done one.ltxid) ∙ has) next))
    (record {
      done = λ x. done x ∙ or_turned (is_blocked blocking.done x) (same_ltxid one.ltxid x) ∙ ap (λ b. same_ltxid one.ltxid x || b) (is.done x);
      coming = coming;
      fits = ap is_none fits ∙ is.fits;
    })

-- ---- at the end

pub wrong_not : (wrong : Option ℕ) (blocking : Blocking) (blocks : Blocks) → IsAt blocking blocks → wrong ≡ blocking.wrong → is_some wrong ≡ true → is_none wrong ≡ is_done blocks
wrong_not None blocking blocks is same some = let none : ◌≡◌ {A = Bool} false true = some in cc
wrong_not (Some at) blocking blocks is same some = ap (λ b. b && nat_eq (length blocks.coming) 0) (ap is_none same ∙ is.fits)

pub done_if : (blocking : Blocking) (blocks : Blocks) → IsAt blocking blocks → is_some blocking.wrong ≡ false → (left : Bool) → (length blocking.coming.now == 0) ≡ left → left ≡ is_done blocks
done_if blocking blocks is some left none =
    sym none
    ∙ (ap (λ (l : List Ltxid). length l == 0) is.coming
    ∙ ap (λ b. b && nat_eq (length blocks.coming) 0) (sym (none_of blocking.wrong some) ∙ is.fits))
  where
    none_of : (o : Option ℕ) → is_some o ≡ false → is_none o ≡ true
    none_of None gone = refl
    none_of (Some at) gone = let clash : ◌≡◌ {A = Bool} true false = gone in cc
