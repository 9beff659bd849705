-- The blocks of a run are those of its answers, in order.
use Rattle.std.proofs.Common.{◌≡◌, refl, sym, ap, subst, ◌∙◌, append-nil, append_assoc, Bool, true, false, ◌||◌, cond, List, [], ◌∷◌, ◌++◌, ◌⊎◌, inl, inr}
use Rattle.std.specs.Prelude.{fold}
use Rattle.std.specs.List.{list_any}
use Rattle.std.proofs.lemmas.Bool.{or_left, or_right}
use Rattle.std.proofs.lemmas.List.Folds.{list_any-append}
use Rattle.std.proofs.lemmas.List.Sums.{fold-append}
use Rattle.svc_values.specs.declared.entry.Ltxid.{Ltxid}
use Rattle.svc_values.specs.meaning.Identifiers.{same_ltxid}
use Rattle.svc_values.specs.SameLaws.{same_ltxid_decides}
use Rattle.ltxid_book.specs.meaning.Journal.{is_blocked}
use Rattle.run_clauses.specs.meaning.Blocks.{Answered, Blocks as Walk, block_next, after_answer, is_done, blocks_answered, blocks_in_order}
use Rattle.world_model.proofs.Offered.{append_all, one_all, weaker_all, or_false}
use Rattle.run_laws.proofs.BlockRuns.{Blocks, BlocksNone, LeavesOne, BlocksOne, HasBlocked, NoneYet, OneMore}

-- EACH BLOCK WAS ANSWERED -------------------------------------------------------------------------

abbrev is_answered : List Answered → Ltxid → Bool
is_answered answers x = list_any (λ one. same_ltxid one.ltxid x) answers

answered_more : (answers more : List Answered) (blocked : List Ltxid) → blocks_answered answers blocked ≡ true → blocks_answered (answers ++ more) blocked ≡ true
answered_more answers more blocked all =
    weaker_all (is_answered answers) (is_answered (answers ++ more)) blocked
    (λ x here. list_any-append (λ (one : Answered). same_ltxid one.ltxid x) answers more ∙ or_left (is_answered answers x) (is_answered more x) here) all

answered_last : (answers : List Answered) (one : Answered) → blocks_answered (answers ++ one ∷ []) (one.ltxid ∷ []) ≡ true
answered_last answers one =
    one_all (is_answered (answers ++ one ∷ [])) one.ltxid
    (list_any-append (λ (other : Answered). same_ltxid other.ltxid one.ltxid) answers (one ∷ [])
    ∙ or_right (is_answered answers one.ltxid) (is_answered (one ∷ []) one.ltxid) (or_left (same_ltxid one.ltxid one.ltxid) false ((same_ltxid_decides one.ltxid one.ltxid).1 refl)))

step_answered : (before now after : List Ltxid) (answers more : List Answered) → Blocks before now after more → blocks_answered answers now ≡ true → blocks_answered (answers ++ more) after ≡ true
step_answered before now _ answers _ (BlocksNone after same) all = subst (λ (blocked : List Ltxid). blocks_answered (answers ++ []) blocked ≡ true) (sym same) (answered_more answers [] now all)
step_answered before now _ answers _ (LeavesOne after one same either) all = subst (λ (blocked : List Ltxid). blocks_answered (answers ++ one ∷ []) blocked ≡ true) (sym same) (answered_more answers (one ∷ []) now all)
step_answered before now _ answers _ (BlocksOne after one same free) all =
    subst (λ (blocked : List Ltxid). blocks_answered (answers ++ one ∷ []) blocked ≡ true) (sym same)
    (append_all (is_answered (answers ++ one ∷ [])) now (one.ltxid ∷ []) (answered_more answers (one ∷ []) now all) (answered_last answers one))

pub all_answered : (before blocked : List Ltxid) (answers : List Answered) → HasBlocked before blocked answers → blocks_answered answers blocked ≡ true
all_answered before _ _ NoneYet = refl
all_answered before _ _ (OneMore now after answers more has blocks) = step_answered before now after answers more blocks (all_answered before now answers has)

-- IN ORDER ----------------------------------------------------------------------------------------

abbrev walk : List Ltxid → List Ltxid → Walk
walk done coming = record { done = done; coming = coming; fits = true }

-- Where blocks are still to come, the walk has perhaps taken the first of them early: at a crashed
-- item, which did not block them.
record Walked (before now later : List Ltxid) (answers : List Answered) : Type 0 where
  early : List Ltxid
  rest : List Ltxid
  done : List Ltxid
  split : later ≡ early ++ rest
  walks : fold after_answer (walk before (now ++ later)) answers ≡ walk done rest
  same : (x : Ltxid) → is_blocked done x ≡ is_blocked ((before ++ now) ++ early) x

abbrev AllWalked : List Ltxid → List Ltxid → List Answered → Type 0
AllWalked before now answers = (later : List Ltxid) → Walked before now later answers

-- one more block, where the walk took none early
blocked_push : (done blocked : List Ltxid) (next x : Ltxid) → is_blocked done x ≡ is_blocked blocked x → is_blocked (next ∷ done) x ≡ is_blocked (blocked ++ next ∷ []) x
blocked_push done blocked next x same =
    ap (λ (b : Bool). same_ltxid next x || b) same
    ∙ (turn (same_ltxid next x) (is_blocked blocked x) ∙ sym (list_any-append (λ (block : Ltxid). same_ltxid block x) blocked (next ∷ []) ∙ ap (λ (b : Bool). is_blocked blocked x || b) (or_false (same_ltxid next x))))
  where
    turn : (a b : Bool) → (a || b) ≡ (b || a)
    turn true true = refl
    turn true false = refl
    turn false true = refl
    turn false false = refl

-- what an answer may leave unblocked
module _ (before now later : List Ltxid) (answers : List Answered) (one : Answered) (was : Walked before now later answers) where
  abbrev State : Walk
  State = walk was.done was.rest

  walks_on : (next : Walk) → after_answer State one ≡ next → fold after_answer (walk before (now ++ later)) (answers ++ one ∷ []) ≡ next
  walks_on next is = fold-append after_answer (walk before (now ++ later)) answers (one ∷ []) ∙ (ap (λ (w : Walk). after_answer w one) was.walks ∙ is)

  stays : after_answer State one ≡ State → Walked before now later (answers ++ one ∷ [])
  stays is = record { early = was.early; rest = was.rest; done = was.done; split = was.split; walks = walks_on State is; same = was.same }

  -- the walk takes the next one early
  takes : (next : Ltxid) (coming : List Ltxid) → was.rest ≡ next ∷ coming → after_answer State one ≡ walk (next ∷ was.done) coming → Walked before now later (answers ++ one ∷ [])
  takes next coming rest is = record {
    early = was.early ++ next ∷ [];
    rest = coming;
    done = next ∷ was.done;
    split = was.split ∙ (ap (λ (l : List Ltxid). was.early ++ l) rest ∙ sym (append_assoc was.early (next ∷ []) coming));
    walks = walks_on (walk (next ∷ was.done) coming) is;
    same = λ x. blocked_push was.done ((before ++ now) ++ was.early) next x (was.same x) ∙ ap (λ (l : List Ltxid). is_blocked l x) (append_assoc (before ++ now) was.early (next ∷ []));
  }

  passes : (coming : List Ltxid) → was.rest ≡ coming → is_blocked was.done one.ltxid ≡ false → one.may_be ≡ true → Walked before now later (answers ++ one ∷ [])
  passes [] rest free may =
      stays
      (ap (λ (test : Bool). cond test State (block_next one State was.rest)) free
      ∙ (ap (λ (l : List Ltxid). block_next one State l) rest ∙ ap (λ (b : Bool). record State { fits = b }) may))
  passes (next ∷ coming) rest free may = by (same_ltxid next one.ltxid) refl
    where
      here : after_answer State one ≡ block_next one State (next ∷ coming)
      here = ap (λ (test : Bool). cond test State (block_next one State was.rest)) free ∙ ap (λ (l : List Ltxid). block_next one State l) rest

      by : (own : Bool) → same_ltxid next one.ltxid ≡ own → Walked before now later (answers ++ one ∷ [])
      by true is = takes next coming rest (here ∙ ap (λ (test : Bool). cond test (record State { done = next ∷ was.done; coming = coming }) (record State { fits = one.may_be })) is)
      by false is =
          stays
          (here ∙ (ap (λ (test : Bool). cond test (record State { done = next ∷ was.done; coming = coming }) (record State { fits = one.may_be })) is ∙ ap (λ (b : Bool). record State { fits = b }) may))

  blocked_already : is_blocked was.done one.ltxid ≡ true → Walked before now later (answers ++ one ∷ [])
  blocked_already is = stays (ap (λ (test : Bool). cond test State (block_next one State was.rest)) is)

  leaves : (is_blocked (before ++ now) one.ltxid ≡ true) ⊎ (one.may_be ≡ true) → Walked before now later (answers ++ one ∷ [])
  leaves (inl is) =
      blocked_already
      (was.same one.ltxid ∙ (list_any-append (λ (block : Ltxid). same_ltxid block one.ltxid) (before ++ now) was.early ∙ or_left (is_blocked (before ++ now) one.ltxid) (is_blocked was.early one.ltxid) is))
  leaves (inr may) = by (is_blocked was.done one.ltxid) refl
    where
      by : (done : Bool) → is_blocked was.done one.ltxid ≡ done → Walked before now later (answers ++ one ∷ [])
      by true is = blocked_already is
      by false is = passes was.rest refl is may

-- an answer that blocks
module _ (before now later : List Ltxid) (answers : List Answered) (one : Answered) (free : is_blocked (before ++ now) one.ltxid ≡ false) (was : Walked before now (one.ltxid ∷ later) answers) where
  abbrev x : Ltxid
  x = one.ltxid

  abbrev Begun : Walk
  Begun = walk was.done was.rest

  abbrev Wanted : Type 0
  Wanted = Walked before (now ++ x ∷ []) later (answers ++ one ∷ [])

  walks_to : (next : Walk) → after_answer Begun one ≡ next → fold after_answer (walk before ((now ++ x ∷ []) ++ later)) (answers ++ one ∷ []) ≡ next
  walks_to next is =
      fold-append after_answer (walk before ((now ++ x ∷ []) ++ later)) answers (one ∷ [])
      ∙ (ap (λ (l : List Ltxid). after_answer (fold after_answer (walk before l) answers) one) (append_assoc now (x ∷ []) later) ∙ (ap (λ (w : Walk). after_answer w one) was.walks ∙ is))

  by_early : (early : List Ltxid) → was.early ≡ early → Wanted
  by_early [] none = record {
    early = [];
    rest = later;
    done = x ∷ was.done;
    split = refl;
    walks = walks_to (walk (x ∷ was.done) later)
        (ap (λ (test : Bool). cond test Begun (block_next one Begun was.rest)) (is_same x ∙ (ap (λ (l : List Ltxid). is_blocked l x) (append-nil (before ++ now)) ∙ free))
        ∙ (ap (λ (l : List Ltxid). block_next one Begun l) rest
        ∙ ap (λ (test : Bool). cond test (record Begun { done = x ∷ was.done; coming = later }) (record Begun { fits = one.may_be })) ((same_ltxid_decides x x).1 refl)));
    same = λ y.
        blocked_push was.done ((before ++ now) ++ []) x y (is_same y)
        ∙ ap (λ (l : List Ltxid). is_blocked l y) (ap (λ (l : List Ltxid). l ++ x ∷ []) (append-nil (before ++ now)) ∙ (append_assoc before now (x ∷ []) ∙ sym (append-nil (before ++ (now ++ x ∷ [])))));
  }
    where
      is_same : (y : Ltxid) → is_blocked was.done y ≡ is_blocked ((before ++ now) ++ []) y
      is_same y = was.same y ∙ ap (λ (early : List Ltxid). is_blocked ((before ++ now) ++ early) y) none

      rest : was.rest ≡ x ∷ later
      rest = sym (was.split ∙ ap (λ (early : List Ltxid). early ++ was.rest) none)
  by_early (first ∷ early) some = record {
    early = early;
    rest = was.rest;
    done = was.done;
    split = behind;
    walks = walks_to Begun
        (ap (λ (test : Bool). cond test Begun (block_next one Begun was.rest))
        (is_same x
        ∙ (list_any-append (λ (block : Ltxid). same_ltxid block x) (before ++ now) (x ∷ early)
        ∙ or_right (is_blocked (before ++ now) x) (is_blocked (x ∷ early) x) (or_left (same_ltxid x x) (is_blocked early x) ((same_ltxid_decides x x).1 refl)))));
    same = λ y. is_same y ∙ ap (λ (l : List Ltxid). is_blocked l y) (sym (append_assoc (before ++ now) (x ∷ []) early) ∙ ap (λ (l : List Ltxid). l ++ early) (append_assoc before now (x ∷ [])));
  }
    where
      whole : x ∷ later ≡ first ∷ (early ++ was.rest)
      whole = was.split ∙ ap (λ (l : List Ltxid). l ++ was.rest) some

      own : first ≡ x
      own = cc

      behind : later ≡ early ++ was.rest
      behind = cc

      is_same : (y : Ltxid) → is_blocked was.done y ≡ is_blocked ((before ++ now) ++ x ∷ early) y
      is_same y = was.same y ∙ ap (λ (l : List Ltxid). is_blocked ((before ++ now) ++ l) y) (some ∙ ap (λ (z : Ltxid). z ∷ early) own)

  blocks_now : Wanted
  blocks_now = by_early was.early refl

step_walked : (before now after : List Ltxid) (answers more : List Answered) → Blocks before now after more → AllWalked before now answers → AllWalked before after (answers ++ more)
step_walked before now _ answers _ (BlocksNone after same) all later =
    subst (Walked before after later) (sym (append-nil answers)) (subst (λ (blocked : List Ltxid). Walked before blocked later answers) (sym same) (all later))
step_walked before now _ answers _ (LeavesOne after one same either) all later =
    subst (λ (blocked : List Ltxid). Walked before blocked later (answers ++ one ∷ [])) (sym same) (leaves before now later answers one (all later) either)
step_walked before now _ answers _ (BlocksOne after one same free) all later =
    subst (λ (blocked : List Ltxid). Walked before blocked later (answers ++ one ∷ [])) (sym same) (blocks_now before now later answers one free (all (one.ltxid ∷ later)))

all_walked : (before blocked : List Ltxid) (answers : List Answered) → HasBlocked before blocked answers → AllWalked before blocked answers
all_walked before _ _ NoneYet later = record {
  early = [];
  rest = later;
  done = before;
  split = refl;
  walks = refl;
  same = λ x. ap (λ (l : List Ltxid). is_blocked l x) (sym (append-nil before ∙ refl) ∙ sym (append-nil (before ++ [])));
}
all_walked before _ _ (OneMore now after answers more has blocks) later = step_walked before now after answers more blocks (all_walked before now answers has) later

none_left : (early rest : List Ltxid) → [] ≡ early ++ rest → rest ≡ []
none_left [] rest is = sym is
none_left (x ∷ early) rest is = absurd (let none : ⊥ = cc in none)

pub all_in_order : (before blocked : List Ltxid) (answers : List Answered) → HasBlocked before blocked answers → blocks_in_order before answers blocked ≡ true
all_in_order before blocked answers has =
    let walked : Walked before blocked [] answers = all_walked before blocked answers has [] in
    ap is_done
    (ap (λ (l : List Ltxid). fold after_answer (walk before l) answers) (sym (append-nil blocked)) ∙ (walked.walks ∙ ap (walk walked.done) (none_left walked.early walked.rest walked.split)))
