-- What holds of a pool over every list of calls.
use Rattle.std.proofs.Common.{◌≡◌, ℕ, ◌+◌, ◌≤◌, ◌==◌, ◌||◌, ◌↔◌, Bool, true, false, List, [], ◌∷◌, ◌++◌, if◌then◌else◌, refl, sym, ap, subst, ◌∙◌, arith, append_assoc, append-nil, nat_le}
use Rattle.std.proofs.lemmas.Bool.Decides.{nat_tests}
use Rattle.pool_core.specs.declared.answers.Take.{Take}
use Rattle.pool_core.specs.declared.answers.Take.TheVariants as take
use Rattle.pool_core.specs.declared.answers.Back.TheVariants as back
use Rattle.pool_core.specs.meaning.Slots.{Slots, is_among, ahead_of, has_to_wait, lends, take_answer, drains, unused}
use Rattle.pool_core.specs.History.{Did, Took, GaveBack, held_after, waiters_after, draining_in}
use Rattle.pool_core.specs.Runs.{Step, Run}
use Rattle.pool_core.specs.Laws.{IsFairTake, TakesFairly, ClosesDraining, HoldsWhatIsTold}
use Rattle.pool_core.proofs.Facts.{told, told-last}
use Rattle.pool_core.proofs.Kept.{Holds, holds-step}

holds-unused : (max : ℕ) → Holds max (told []) (unused max)
unfolding told
holds-unused max = record {
  counted = record { slots_are = refl; held = refl; waiters = refl };
  kept = record { idle_is = refl; differ = refl; above = λ k is. absurd (let none : ⊥ = cc in none); within = λ k is. absurd (let none : ⊥ = cc in none); apart = λ k is. absurd (let none : ⊥ = cc in none) };
  marked = record { drained_within = omega arith; opened_within = λ k is. absurd (let none : ⊥ = cc in none); marks = λ k is. absurd (let none : ⊥ = cc in none); were_opened = λ k is. absurd (let none : ⊥ = cc in none) };
}

-- after the calls so far and more
holds-run : (max : ℕ) (history later : List Did) (s last : Slots) → Holds max (told history) s → Run s later last → Holds max (told (history ++ later)) last
holds-run max history [] s last p run = subst (λ l. Holds max (told l) last) (sym (append-nil history)) (subst (Holds max (told history)) (sym run) p)
holds-run max history (did ∷ later) s last p (next, one, rest) =
    let here : Holds max (told (history ++ did ∷ [])) next = subst (λ f. Holds max f next) (sym (told-last history did)) (holds-step max (told history) s next did p one) in
    subst (λ l. Holds max (told l) last) (append_assoc history (did ∷ []) later) (holds-run max (history ++ did ∷ []) later next last here rest)

holds : (max : ℕ) (history : List Did) (last : Slots) → Run (unused max) history last → Holds max (told history) last
holds max history last run = holds-run max [] history (unused max) last (holds-unused max) run

-- a run up to one of its calls
split : (before after : List Did) (did : Did) (first last : Slots) → Run first (before ++ did ∷ after) last → (mid next : Slots) × Run first before mid × Step mid did next
split [] after did first last (next, one, rest) = (first, next, refl, one)
split (earlier ∷ before) after did first last (second, one, rest) =
    let later = split before after did second last rest in
    (later.0, later.1, (second, one, later.2), later.3)

-- an answer of take in a state where these facts hold
module _ (max : ℕ) (before : List Did) (client : ℕ) (answer : Take) (s : Slots) (p : Holds max (told before) s) (is : answer ≡ take_answer s client) where
  full_is : (s.max ≤ s.lent + ahead_of s.queue client) ↔ (max ≤ held_after before + ahead_of (waiters_after before) client)
  unfolding told
  full_is =
      let counted = p.counted.held in
      let slots = p.counted.slots_are in
      let count : s.lent ≡ held_after before = omega arith in
      let queue = ap (λ q. ahead_of q client) p.counted.waiters in (
        λ full. subst (λ n. n ≤ held_after before + ahead_of (waiters_after before) client) slots (subst (λ n. s.max ≤ held_after before + n) queue (subst (λ n. s.max ≤ n + ahead_of s.queue client) count full)),
        λ full. subst (λ n. s.max ≤ n + ahead_of s.queue client) (sym count) (subst (λ n. s.max ≤ held_after before + n) (sym queue) (subst (λ n. n ≤ held_after before + ahead_of (waiters_after before) client) (sym slots) full)),
      )

  waits_exactly : (answer ≡ take.Waiting) ↔ (s.max ≤ s.lent + ahead_of s.queue client)
  waits_exactly = by (has_to_wait s client) s.idle refl is
    where
      by : (wait : Bool) (idle : List ℕ) → has_to_wait s client ≡ wait → answer ≡ (if wait then take.Waiting else lends idle) → (answer ≡ take.Waiting) ↔ (s.max ≤ s.lent + ahead_of s.queue client)
      by true idle w a = (λ _. let full : s.max ≤ s.lent + ahead_of s.queue client = grind (arith, nat_tests) in full, λ _. a)
      by false [] w a = (λ waits. absurd (let none : ⊥ = cc in none), λ full. absurd (let none : ⊥ = grind (arith, nat_tests) in none))
      by false (k ∷ idle) w a = (λ waits. absurd (let none : ⊥ = cc in none), λ full. absurd (let none : ⊥ = grind (arith, nat_tests) in none))

  lent_first : (k : ℕ) → answer ≡ take.Lent k → (later : List ℕ) × (s.idle ≡ k ∷ later)
  lent_first k lent = by (has_to_wait s client) s.idle refl is
    where
      by : (wait : Bool) (idle : List ℕ) → s.idle ≡ idle → answer ≡ (if wait then take.Waiting else lends idle) → (later : List ℕ) × (s.idle ≡ k ∷ later)
      by true idle e a = absurd (let none : ⊥ = cc in none)
      by false [] e a = absurd (let none : ⊥ = cc in none)
      by false (j ∷ idle) e a = (idle, e ∙ ap (λ n. n ∷ idle) (let same : j ≡ k = cc in same))

  lent_among : (k : ℕ) → answer ≡ take.Lent k → is_among k s.idle ≡ true
  lent_among k lent =
      let first = lent_first k lent in
      ap (is_among k) first.1 ∙ (let same : (k == k) ≡ true = grind (arith, nat_tests) in ap (λ b. b || is_among k first.0) same)

  opens_idle : answer ≡ take.Open → s.idle ≡ []
  opens_idle opens = by (has_to_wait s client) s.idle refl is
    where
      by : (wait : Bool) (idle : List ℕ) → s.idle ≡ idle → answer ≡ (if wait then take.Waiting else lends idle) → s.idle ≡ []
      by true idle e a = absurd (let none : ⊥ = cc in none)
      by false [] e a = e
      by false (j ∷ idle) e a = absurd (let none : ⊥ = cc in none)

  undrained : (k : ℕ) → answer ≡ take.Lent k → is_among k (draining_in before) ≡ false
  unfolding told
  undrained k lent = by (is_among k (draining_in before)) refl
    where
      by : (b : Bool) → is_among k (draining_in before) ≡ b → is_among k (draining_in before) ≡ false
      by false e = e
      by true e =
          let above = p.kept.above k (lent_among k lent) in
          let mark : nat_le k s.drained ≡ true = sym (p.marked.marks k (p.marked.were_opened k e)) ∙ e in
          absurd (let none : ⊥ = grind (arith, nat_tests) in none)

  fair_take : IsFairTake max before client answer
  unfolding told
  fair_take = record {
    waits = (λ waits. full_is.0 (waits_exactly.0 waits), λ full. waits_exactly.1 (full_is.1 full));
    lent_once = λ k lent. p.kept.apart k (lent_among k lent);
    idle_longest = λ k lent. ((lent_first k lent).0, sym p.kept.idle_is ∙ (lent_first k lent).1);
    not_draining = undrained;
    none_idle = λ opens. sym p.kept.idle_is ∙ opens_idle opens;
  }

pub takes_fairly : TakesFairly
takes_fairly max before after client answer last run =
    let parts = split before after (Took client answer) (unused max) last run in
    fair_take max before client answer parts.0 (holds max before parts.0 parts.2) parts.3.0

pub closes_draining : ClosesDraining
unfolding told
closes_draining max before after x answer last run opened =
    let parts = split before after (GaveBack x answer) (unused max) last run in
    let marked = (holds max before parts.0 parts.2).marked.marks x opened in
    by parts.0 (drains parts.0 x) refl parts.3.3 marked
  where
    by : (s : Slots) (closed : Bool) → drains s x ≡ closed → answer ≡ (if closed then back.Closed else back.Idle) → is_among x (draining_in before) ≡ drains s x → (answer ≡ back.Closed) ↔ (is_among x (draining_in before) ≡ true)
    by s true d a m = (λ _. m ∙ d, λ _. a)
    by s false d a m = (λ closed. absurd (let none : ⊥ = cc in none), λ draining. absurd (let none : ⊥ = cc in none))

pub holds_what_is_told : HoldsWhatIsTold
unfolding told
holds_what_is_told max history last run =
    let p = holds max history last run in
    record {
      slots_are = p.counted.slots_are;
      held = (let sum = p.counted.held in let count : last.lent ≡ held_after history = omega arith in count);
      waiters = p.counted.waiters;
      idle = p.kept.idle_is;
    }
