-- What each call of a pool keeps.
use Rattle.std.proofs.Common.{◌≡◌, ℕ, ◌+◌, ◌-◌, ◌≤◌, ◌<◌, ◌==◌, ◌||◌, Bool, true, false, not, cond, List, [], ◌∷◌, ◌++◌, drop, if◌then◌else◌, refl, sym, ap, subst, ◌∙◌, arith, append-nil, nat_le}
use Rattle.std.proofs.lemmas.Bool.Decides.{nat_tests}
use Rattle.std.proofs.Math.Bool.{or-true}
use Rattle.pool_core.specs.declared.answers.Take.TheVariants as take
use Rattle.pool_core.specs.declared.answers.Back.TheVariants as back
use Rattle.pool_core.specs.meaning.Slots.{Slots, is_among, without, joined, has_to_wait, lends, take_answer, after_take, drains, give_back_answer, after_give_back}
use Rattle.pool_core.specs.History.{Did, Took, Opened, GaveBack, Lost, Gone, Left, Drained, is_grant, is_return, queue_step}
use Rattle.pool_core.specs.Runs.{Step}
use Rattle.pool_core.proofs.Lists.{all_differ, is_among-last, is_among-without, is_among-without_itself, without-absent, among_none, differ_first, differ_later, all_differ-without, all_differ-last}
use Rattle.pool_core.proofs.Facts.{Facts, next_facts}

-- what is kept of slots and waiters
pub record Counted (max : ℕ) (f : Facts) (s : Slots) : Type 0 where
  pub slots_are : s.max ≡ max
  pub held : s.lent + f.returns ≡ f.grants
  pub waiters : s.queue ≡ f.waiters

-- what is kept of the idle connections
pub record Kept (idle told_idle out : List ℕ) (drained opened : ℕ) : Type 0 where
  pub idle_is : idle ≡ told_idle
  pub differ : all_differ idle ≡ true
  pub above : (k : ℕ) → is_among k idle ≡ true → drained < k
  pub within : (k : ℕ) → is_among k idle ≡ true → k ≤ opened
  pub apart : (k : ℕ) → is_among k idle ≡ true → is_among k out ≡ false

-- what is kept of the marks
pub record Marked (connections draining : List ℕ) (drained opened : ℕ) : Type 0 where
  pub drained_within : drained ≤ opened
  pub opened_within : (k : ℕ) → is_among k connections ≡ true → k ≤ opened
  pub marks : (k : ℕ) → is_among k connections ≡ true → is_among k draining ≡ nat_le k drained
  pub were_opened : (k : ℕ) → is_among k draining ≡ true → is_among k connections ≡ true

pub record Holds (max : ℕ) (f : Facts) (s : Slots) : Type 0 where
  pub counted : Counted max f s
  pub kept : Kept s.idle f.idle f.out s.drained s.opened
  pub marked : Marked f.opened f.draining s.drained s.opened

-- only what was among them before is among them after one is taken out
pub kept-without : (x : ℕ) (idle told_idle out : List ℕ) (drained opened : ℕ) → Kept idle told_idle out drained opened → Kept (without idle x) (without told_idle x) out drained opened
kept-without x idle told_idle out drained opened p = record {
  idle_is = ap (λ l. without l x) p.idle_is;
  differ = all_differ-without x idle p.differ;
  above = λ k is. p.above k (is_among-without k x idle is);
  within = λ k is. p.within k (is_among-without k x idle is);
  apart = λ k is. p.apart k (is_among-without k x idle is);
}

-- a number is among a list with one more
pub last_cases : (k : ℕ) (xs : List ℕ) (x : ℕ) (P : Type 0) → (is_among k xs ≡ true → P) → (x ≡ k → P) → is_among k (xs ++ x ∷ []) ≡ true → P
last_cases k xs x P old new is = by (is_among k xs) refl (sym (is_among-last k xs x) ∙ is)
  where
    by : (b : Bool) → is_among k xs ≡ b → (b || (x == k)) ≡ true → P
    by true e h = old e
    by false e h = new (let same : x ≡ k = grind (arith, nat_tests) in same)

pub not_same : (k x : ℕ) → (x ≡ k → ⊥) → (x == k) ≡ false
not_same k x differ = by (x == k) refl
  where
    by : (b : Bool) → (x == k) ≡ b → b ≡ false
    by false e = refl
    by true e = absurd (differ (let same : x ≡ k = grind (arith, nat_tests) in same))

-- a number that is neither the last nor among the others
pub apart_last : (k : ℕ) (xs : List ℕ) (x : ℕ) → is_among k xs ≡ false → (x ≡ k → ⊥) → is_among k (xs ++ x ∷ []) ≡ false
apart_last k xs x others differ = is_among-last k xs x ∙ ap (λ b. b || (x == k)) others ∙ not_same k x differ

pub contrary : (b : Bool) → b ≡ true → b ≡ false → ⊥
contrary b t f = let clash : true ≡ false = sym t ∙ f in let none : ⊥ = cc in none

-- a connection that is opened is above all that were
pub kept-opened : (x : ℕ) (idle told_idle out : List ℕ) (drained opened : ℕ) → opened < x → Kept idle told_idle out drained opened → Kept idle told_idle (out ++ x ∷ []) drained x
kept-opened x idle told_idle out drained opened more p = record {
  idle_is = p.idle_is;
  differ = p.differ;
  above = p.above;
  within = λ k is. let old = p.within k is in omega arith;
  apart = λ k is. apart_last k out x (p.apart k is) (λ same. let old = p.within k is in omega arith);
}

pub marked-opened : (x : ℕ) (connections draining : List ℕ) (drained opened : ℕ) → opened < x → Marked connections draining drained opened → Marked (connections ++ x ∷ []) draining drained x
marked-opened x connections draining drained opened more p = record {
  drained_within = let old = p.drained_within in omega arith;
  opened_within = λ k is. last_cases k connections x (k ≤ x) (λ old. let bound = p.opened_within k old in omega arith) (λ same. omega arith) is;
  marks = λ k is. last_cases k connections x (is_among k draining ≡ nat_le k drained) (p.marks k) (new k) is;
  were_opened = λ k is. is_among-last k connections x ∙ ap (λ b. b || (x == k)) (p.were_opened k is);
}
  where
    none_new : (k : ℕ) → x ≡ k → is_among k draining ≡ true → ⊥
    none_new k same is = let bound = p.opened_within k (p.were_opened k is) in omega arith

    absent : (k : ℕ) → x ≡ k → (b : Bool) → is_among k draining ≡ b → is_among k draining ≡ false
    absent k same false e = e
    absent k same true e = absurd (none_new k same e)

    new : (k : ℕ) → x ≡ k → is_among k draining ≡ nat_le k drained
    new k same = let old = p.drained_within in let late : nat_le k drained ≡ false = grind (arith, nat_tests) in absent k same (is_among k draining) refl ∙ sym late

-- the first idle one is lent
pub kept-lent : (k : ℕ) (idle told_idle out : List ℕ) (drained opened : ℕ) → Kept (k ∷ idle) told_idle out drained opened → Kept idle (without told_idle k) (out ++ k ∷ []) drained opened
kept-lent k idle told_idle out drained opened p =
    record {
      idle_is = cut ∙ ap (λ l. without l k) p.idle_is;
      differ = differ_later k idle p.differ;
      above = λ j is. p.above j (later j is);
      within = λ j is. p.within j (later j is);
      apart = λ j is. apart_last j out k (p.apart j (later j is)) (λ same. contrary (is_among k idle) (subst (λ n. is_among n idle ≡ true) (sym same) is) (differ_first k idle p.differ));
    }
  where
    later : (j : ℕ) → is_among j idle ≡ true → is_among j (k ∷ idle) ≡ true
    later j is = ap (λ b. (k == j) || b) is ∙ or-true (k == j)

    cut : idle ≡ without (k ∷ idle) k
    cut = by (k == k) (let same : (k == k) ≡ true = grind (arith, nat_tests) in same)
      where
        by : (b : Bool) → b ≡ true → idle ≡ cond (not b) (k ∷ without idle k) (without idle k)
        by true e = sym (without-absent k idle (differ_first k idle p.differ))
        by false e = absurd (let none : ⊥ = cc in none)

-- a connection that is given back and does not drain is idle last
pub kept-given_back : (x : ℕ) (idle told_idle out : List ℕ) (drained opened : ℕ) → drained < x → x ≤ opened → is_among x idle ≡ false
    → Kept idle told_idle out drained opened → Kept (idle ++ x ∷ []) (told_idle ++ x ∷ []) (without out x) drained opened
kept-given_back x idle told_idle out drained opened more bound not_idle p = record {
  idle_is = ap (λ l. l ++ x ∷ []) p.idle_is;
  differ = all_differ-last idle x p.differ not_idle;
  above = λ k is. last_cases k idle x (drained < k) (p.above k) (λ same. omega arith) is;
  within = λ k is. last_cases k idle x (k ≤ opened) (p.within k) (λ same. omega arith) is;
  apart = λ k is. last_cases k idle x (is_among k (without out x) ≡ false) (λ old. among_none k x out (p.apart k old)) (λ same. subst (λ n. is_among n (without out x) ≡ false) same (is_among-without_itself x out)) is;
}

-- what was given back is not out, and the others are as they were
pub kept-closed : (x : ℕ) (idle told_idle out : List ℕ) (drained opened : ℕ) → Kept idle told_idle out drained opened → Kept idle told_idle (without out x) drained opened
kept-closed x idle told_idle out drained opened p = record {
  idle_is = p.idle_is;
  differ = p.differ;
  above = p.above;
  within = p.within;
  apart = λ k is. among_none k x out (p.apart k is);
}

pub kept-drained : (out : List ℕ) (opened : ℕ) → Kept [] [] out opened opened
kept-drained out opened = record {
  idle_is = refl;
  differ = refl;
  above = λ k is. absurd (let none : ⊥ = cc in none);
  within = λ k is. absurd (let none : ⊥ = cc in none);
  apart = λ k is. absurd (let none : ⊥ = cc in none);
}

pub marked-drained : (connections draining : List ℕ) (drained opened : ℕ) → Marked connections draining drained opened → Marked connections connections opened opened
marked-drained connections draining drained opened p = record {
  drained_within = omega arith;
  opened_within = p.opened_within;
  marks = λ k is. let bound = p.opened_within k is in is ∙ sym (let below : nat_le k opened ≡ true = grind (arith, nat_tests) in below);
  were_opened = λ k is. is;
}

-- a list with nothing put last is the list
pub marked-same : (connections draining : List ℕ) (drained opened : ℕ) → Marked connections draining drained opened → Marked (connections ++ []) draining drained opened
marked-same connections draining drained opened p = subst (λ l. Marked l draining drained opened) (sym (append-nil connections)) p

pub counted-same : (max : ℕ) (f : Facts) (s t : Slots) (did : Did) → t.max ≡ s.max → t.lent ≡ s.lent → t.queue ≡ queue_step s.queue did → is_grant did ≡ false → is_return did ≡ false
    → Counted max f s → Counted max (next_facts f did) t
counted-same max f s t did slots lent queue grant return p = record {
  slots_are = slots ∙ p.slots_are;
  held = ap (λ n. t.lent + (f.returns + cond n 1 0)) return ∙ (let sum = p.held in let same : t.lent + (f.returns + 0) ≡ f.grants + 0 = omega arith in same) ∙ sym (ap (λ n. f.grants + cond n 1 0) grant);
  waiters = queue ∙ ap (λ q. queue_step q did) p.waiters;
}

pub counted-grant : (max : ℕ) (f : Facts) (s t : Slots) (did : Did) → t.max ≡ s.max → t.lent ≡ s.lent + 1 → t.queue ≡ queue_step s.queue did → is_grant did ≡ true → is_return did ≡ false
    → Counted max f s → Counted max (next_facts f did) t
counted-grant max f s t did slots lent queue grant return p = record {
  slots_are = slots ∙ p.slots_are;
  held = ap (λ n. t.lent + (f.returns + cond n 1 0)) return ∙ (let sum = p.held in let same : t.lent + (f.returns + 0) ≡ f.grants + 1 = omega arith in same) ∙ sym (ap (λ n. f.grants + cond n 1 0) grant);
  waiters = queue ∙ ap (λ q. queue_step q did) p.waiters;
}

pub counted-return : (max : ℕ) (f : Facts) (s t : Slots) (did : Did) → 0 < s.lent → t.max ≡ s.max → t.lent ≡ s.lent - 1 → t.queue ≡ queue_step s.queue did → is_grant did ≡ false → is_return did ≡ true
    → Counted max f s → Counted max (next_facts f did) t
counted-return max f s t did some slots lent queue grant return p = record {
  slots_are = slots ∙ p.slots_are;
  held = ap (λ n. t.lent + (f.returns + cond n 1 0)) return ∙ (let sum = p.held in let same : t.lent + (f.returns + 1) ≡ f.grants + 0 = omega arith in same) ∙ sym (ap (λ n. f.grants + cond n 1 0) grant);
  waiters = queue ∙ ap (λ q. queue_step q did) p.waiters;
}

-- a take: the client waits, opens a connection or is lent one
pub holds-took : (max : ℕ) (f : Facts) (s : Slots) (client : ℕ) → Holds max f s → Holds max (next_facts f (Took client (take_answer s client))) (after_take s client)
holds-took max f s client p = by (has_to_wait s client) s.idle p.kept
  where
    by : (wait : Bool) (idle : List ℕ) → Kept idle f.idle f.out s.drained s.opened
        → Holds max (next_facts f (Took client (if wait then take.Waiting else lends idle)))
        (if wait then record s { queue = joined s.queue client; idle = idle } else record s { lent = s.lent + 1; queue = without s.queue client; idle = drop 1 idle })
    by true idle kept = record {
      counted = counted-same max f s (record s { queue = joined s.queue client; idle = idle }) (Took client take.Waiting) refl refl refl refl refl p.counted;
      kept = kept;
      marked = marked-same f.opened f.draining s.drained s.opened p.marked;
    }
    by false [] kept = record {
      counted = counted-grant max f s (record s { lent = s.lent + 1; queue = without s.queue client; idle = [] }) (Took client take.Open) refl refl refl refl refl p.counted;
      kept = kept;
      marked = marked-same f.opened f.draining s.drained s.opened p.marked;
    }
    by false (k ∷ idle) kept = record {
      counted = counted-grant max f s (record s { lent = s.lent + 1; queue = without s.queue client; idle = idle }) (Took client (take.Lent k)) refl refl refl refl refl p.counted;
      kept = kept-lent k idle f.idle f.out s.drained s.opened kept;
      marked = marked-same f.opened f.draining s.drained s.opened p.marked;
    }

pub holds-given_back : (max : ℕ) (f : Facts) (s : Slots) (x : ℕ) → 0 < s.lent → x ≤ s.opened → is_among x s.idle ≡ false → Holds max f s
    → Holds max (next_facts f (GaveBack x (give_back_answer s x))) (after_give_back s x)
holds-given_back max f s x some bound not_idle p = by (drains s x) refl
  where
    by : (closed : Bool) → drains s x ≡ closed
        → Holds max (next_facts f (GaveBack x (if closed then back.Closed else back.Idle))) (record s { lent = s.lent - 1; idle = if closed then s.idle else s.idle ++ x ∷ [] })
    by true is = record {
      counted = counted-return max f s (record s { lent = s.lent - 1; idle = s.idle }) (GaveBack x back.Closed) some refl refl refl refl refl p.counted;
      kept = kept-closed x s.idle f.idle f.out s.drained s.opened p.kept;
      marked = marked-same f.opened f.draining s.drained s.opened p.marked;
    }
    by false is = record {
      counted = counted-return max f s (record s { lent = s.lent - 1; idle = s.idle ++ x ∷ [] }) (GaveBack x back.Idle) some refl refl refl refl refl p.counted;
      kept = kept-given_back x s.idle f.idle f.out s.drained s.opened (let later : s.drained < x = grind (arith, nat_tests) in later) bound not_idle p.kept;
      marked = marked-same f.opened f.draining s.drained s.opened p.marked;
    }

-- each call keeps what holds
pub holds-step : (max : ℕ) (f : Facts) (s t : Slots) (did : Did) → Holds max f s → Step s did t → Holds max (next_facts f did) t
holds-step max f s t (Took client answer) p (is, next) =
    let answered : Holds max (next_facts f (Took client answer)) (after_take s client) = subst (λ a. Holds max (next_facts f (Took client a)) (after_take s client)) (sym is) (holds-took max f s client p) in
    subst (Holds max (next_facts f (Took client answer))) (sym next) answered
holds-step max f s t (Opened x) p (more, next) = subst (Holds max (next_facts f (Opened x))) (sym next) (record {
  counted = counted-same max f s (record s { opened = x }) (Opened x) refl refl refl refl refl p.counted;
  kept = kept-opened x s.idle f.idle f.out s.drained s.opened more p.kept;
  marked = marked-opened x f.opened f.draining s.drained s.opened more p.marked;
})
holds-step max f s t (GaveBack x answer) p (some, bound, not_idle, is, next) =
    let answered : Holds max (next_facts f (GaveBack x answer)) (after_give_back s x) = subst (λ a. Holds max (next_facts f (GaveBack x a)) (after_give_back s x)) (sym is) (holds-given_back max f s x some bound not_idle p) in
    subst (Holds max (next_facts f (GaveBack x answer))) (sym next) answered
holds-step max f s t Lost p (some, next) = subst (Holds max (next_facts f Lost)) (sym next) (record {
  counted = counted-return max f s (record s { lent = s.lent - 1 }) Lost some refl refl refl refl refl p.counted;
  kept = p.kept;
  marked = marked-same f.opened f.draining s.drained s.opened p.marked;
})
holds-step max f s t (Gone x) p next = subst (Holds max (next_facts f (Gone x))) (sym next) (record {
  counted = counted-same max f s (record s { idle = without s.idle x }) (Gone x) refl refl refl refl refl p.counted;
  kept = kept-without x s.idle f.idle f.out s.drained s.opened p.kept;
  marked = marked-same f.opened f.draining s.drained s.opened p.marked;
})
holds-step max f s t (Left client) p next = subst (Holds max (next_facts f (Left client))) (sym next) (record {
  counted = counted-same max f s (record s { queue = without s.queue client }) (Left client) refl refl refl refl refl p.counted;
  kept = p.kept;
  marked = marked-same f.opened f.draining s.drained s.opened p.marked;
})
holds-step max f s t (Drained closed) p (is, next) = subst (Holds max (next_facts f (Drained closed))) (sym next) (record {
  counted = counted-same max f s (record s { idle = []; drained = s.opened }) (Drained closed) refl refl refl refl refl p.counted;
  kept = kept-drained f.out s.opened;
  marked = marked-same f.opened f.opened s.opened s.opened (marked-drained f.opened f.draining s.drained s.opened p.marked);
})
