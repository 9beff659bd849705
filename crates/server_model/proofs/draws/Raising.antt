-- What the draws of a call leave of each sequence and of identifiers.
use Rattle.std.specs.Prelude.{◌≡◌, ◌+◌, ◌≤◌, ℕ, suc, Bool, true, false, List, [], ◌∷◌, ◌++◌, map, filter, length, Option, Some, None, if◌then◌else◌}
use Rattle.std.specs.Option.{option_map}
use Rattle.std.specs.Str.{bytes_eq}
use Rattle.std.proofs.Common.{refl, sym, ◌∙◌, ap, subst, arith, length-append}
use Rattle.std.proofs.lemmas.List.Elements.{filter-append}
use Rattle.svc_values.specs.declared.draw.Draw.{Draw}
use Rattle.svc_values.specs.declared.draw.Draw.TheVariants as draw
use Rattle.svc_values.specs.declared.draw.DrawKind.{DrawKind}
use Rattle.svc_values.specs.declared.draw.DrawKind.TheVariants as kind
use Rattle.mutable_values.specs.declared.source.SeqState.{SeqState}
use Rattle.mutable_values.specs.Sources.{Opening, first_kept, sequence_of}
use Rattle.mutable_values.proofs.Offered.{found_name}
use Rattle.stmt_meaning.specs.Asked.{kind_drawn}
use Rattle.server_model.specs.meaning.NewValues.{is_of_sequence, is_identifier}
use Rattle.server_model.specs.Draws.{DrawsAll}
use Rattle.server_model.proofs.draws.CountedBlocks.{raised, raise_often}
use Rattle.server_model.proofs.draws.Takings.{same_name, names_are, yes_no, raise, Takes, TakesKept, TakesTick, TakesName, TakesNext, takes}

-- how many values of a sequence, and how many identifiers, are asked for
abbrev pub asks_in : List DrawKind → List ℕ → ℕ
asks_in asked name = length (filter (is_of_sequence name) asked)

abbrev pub names_in : List DrawKind → ℕ
names_in asked = length (filter is_identifier asked)

pub asks-append : (asked more : List DrawKind) (name : List ℕ) → asks_in (asked ++ more) name ≡ asks_in asked name + asks_in more name
asks-append asked more name = ap length (filter-append (is_of_sequence name) asked more) ∙ length-append (filter (is_of_sequence name) asked) (filter (is_of_sequence name) more)

-- one kind more
asks-one : (one : DrawKind) (asked : List DrawKind) (name : List ℕ) → asks_in asked name ≤ asks_in (one ∷ asked) name
asks-one one asked name = by (is_of_sequence name one)
  where
    by : (b : Bool) → asks_in asked name ≤ length (if b then one ∷ filter (is_of_sequence name) asked else filter (is_of_sequence name) asked)
    by true = omega arith
    by false = omega arith

-- ---- a sequence

-- So many values of the sequence were new: at most those that are asked for, and all of them where
-- none is kept.
pub record Raises (asked : List DrawKind) (kept : List Draw) (name : List ℕ) (before after : Option SeqState) : Type 0 where
  pub often : ℕ
  pub few : often ≤ asks_in asked name
  pub all : kept ≡ [] → often ≡ asks_in asked name
  pub is : after ≡ option_map (raise_often often) before

raised-none : (found : Option SeqState) → option_map (raise_often 0) found ≡ found
raised-none None = refl
raised-none (Some sequence) = refl

raised-once : (often : ℕ) (own name : List ℕ) → bytes_eq own name ≡ true → (found : Option SeqState) → ((one : SeqState) → found ≡ Some one → one.name ≡ name) → option_map (raise_often often) (option_map (raise own) found) ≡ option_map (raise_often (suc often)) found
raised-once often own name e None named = refl
raised-once often own name e (Some one) named =
    let same : bytes_eq one.name own ≡ true = ap (λ n. bytes_eq n own) (named one refl ∙ sym (names_are own name e)) ∙ same_name own in
    ap (λ b. Some (raise_often often (if b then raised one else one))) same

raised-other : (own name : List ℕ) → bytes_eq own name ≡ false → (found : Option SeqState) → ((one : SeqState) → found ≡ Some one → one.name ≡ name) → option_map (raise own) found ≡ found
raised-other own name e None named = refl
raised-other own name e (Some one) named = ap (λ b. Some (if b then raised one else one)) (other (bytes_eq one.name own) refl)
  where
    other : (b : Bool) → bytes_eq one.name own ≡ b → b ≡ false
    other false at = refl
    other true at = absurd (yes_no (bytes_eq own name) (ap (λ n. bytes_eq n name) (sym (names_are one.name own at) ∙ named one refl) ∙ same_name name) e)

pub none-kept : (given : Draw) (kept : List Draw) → first_kept (kind_drawn given) kept ≡ Some given → kept ≡ [] → ⊥
none-kept given kept found none =
    let clash : ◌≡◌ {A = Option Draw} None (Some given) = sym (ap (first_kept (kind_drawn given)) none) ∙ found in
    let no : ⊥ = cc in no

module _ (now : ℕ) (given : Draw) (more : List Draw) (before between : Opening) (kept rest : List Draw) (name : List ℕ) (after : Option SeqState)
    (inner : Raises (map kind_drawn more) rest name (sequence_of between.sequences name) after) where
  same-so : sequence_of between.sequences name ≡ sequence_of before.sequences name → (kept ≡ [] → inner.often ≡ asks_in (kind_drawn given ∷ map kind_drawn more) name)
      → Raises (kind_drawn given ∷ map kind_drawn more) kept name (sequence_of before.sequences name) after
  same-so same all = record {
    often = inner.often;
    few = below inner.often _ _ inner.few (asks-one (kind_drawn given) (map kind_drawn more) name);
    all = all;
    is = inner.is ∙ ap (option_map (raise_often inner.often)) same;
  }
    where
      below : (m n k : ℕ) → m ≤ n → n ≤ k → m ≤ k
      below m n k one other = omega arith

  next-so : (sequence : SeqState) → given ≡ draw.Seq sequence.name sequence.next → sequence_of between.sequences name ≡ option_map (raise sequence.name) (sequence_of before.sequences name) → rest ≡ kept
      → (b : Bool) → bytes_eq sequence.name name ≡ b → Raises (kind_drawn given ∷ map kind_drawn more) kept name (sequence_of before.sequences name) after
  next-so sequence is_next each left true e =
      let asks : asks_in (kind_drawn given ∷ map kind_drawn more) name ≡ suc (asks_in (map kind_drawn more) name) =
      ap (λ d. asks_in (kind_drawn d ∷ map kind_drawn more) name) is_next ∙ ap (λ b. length (if b then kind.Seq sequence.name ∷ filter (is_of_sequence name) (map kind_drawn more) else filter (is_of_sequence name) (map kind_drawn more))) e in
      record {
        often = suc inner.often;
        few = subst (λ n. suc inner.often ≤ n) (sym asks) (one-up inner.often _ inner.few);
        all = λ none. ap suc (inner.all (left ∙ none)) ∙ sym asks;
        is = inner.is ∙ ap (option_map (raise_often inner.often)) each ∙ raised-once inner.often sequence.name name e (sequence_of before.sequences name) (λ one at. found_name before.sequences name one at);
      }
    where
      one-up : (m n : ℕ) → m ≤ n → suc m ≤ suc n
      one-up m n few = omega arith
  next-so sequence is_next each left false e =
      same-so (each ∙ raised-other sequence.name name e (sequence_of before.sequences name) (λ one at. found_name before.sequences name one at))
      (λ none. inner.all (left ∙ none)
      ∙ sym (ap (λ d. asks_in (kind_drawn d ∷ map kind_drawn more) name) is_next ∙ ap (λ b. length (if b then kind.Seq sequence.name ∷ filter (is_of_sequence name) (map kind_drawn more) else filter (is_of_sequence name) (map kind_drawn more))) e))

  raises-one : Takes kept now before given between rest → Raises (kind_drawn given ∷ map kind_drawn more) kept name (sequence_of before.sequences name) after
  raises-one (TakesKept found same left) = same-so (ap (λ (o : Opening). sequence_of o.sequences name) same) (λ none. absurd (none-kept given kept found none))
  raises-one (TakesTick new is_tick same left) =
      same-so (ap (λ (o : Opening). sequence_of o.sequences name) same) (λ none. inner.all (left ∙ none) ∙ sym (ap (λ d. asks_in (kind_drawn d ∷ map kind_drawn more) name) is_tick))
  raises-one (TakesName new is_name same left) =
      same-so (ap (λ (o : Opening). sequence_of o.sequences name) same) (λ none. inner.all (left ∙ none) ∙ sym (ap (λ d. asks_in (kind_drawn d ∷ map kind_drawn more) name) is_name))
  raises-one (TakesNext sequence new there is_next incarnation identifiers each left) = next-so sequence is_next (each name) left (bytes_eq sequence.name name) refl

pub raises : (now : ℕ) (draws : List Draw) (before : Opening) (kept : List Draw) (after : Opening) (left : List Draw) → DrawsAll now before kept draws after left → (name : List ℕ)
    → Raises (map kind_drawn draws) kept name (sequence_of before.sequences name) (sequence_of after.sequences name)
raises now [] before kept after left drew name = record {
  often = 0;
  few = omega arith;
  all = λ none. refl;
  is = ap (λ (o : Opening). sequence_of o.sequences name) drew.0 ∙ sym (raised-none (sequence_of before.sequences name));
}
raises now (given ∷ more) before kept after left drew name =
    raises-one now given more before drew.0 kept drew.1 name (sequence_of after.sequences name) (raises now more drew.0 drew.1 after left drew.2.1 name) (takes kept given now before drew.0 drew.1 drew.2.0)

-- ---- identifiers

-- where none is kept, as many identifiers were given as are asked for
pub record Names (asked : List DrawKind) (before after : Opening) : Type 0 where
  pub incarnation : after.incarnation ≡ before.incarnation
  pub given : after.identifiers ≡ before.identifiers + names_in asked

module _ (now : ℕ) (given : Draw) (more : List Draw) (before between after : Opening) (rest : List Draw) (inner : Names (map kind_drawn more) between after) where
  unnamed : between.incarnation ≡ before.incarnation → between.identifiers ≡ before.identifiers → names_in (kind_drawn given ∷ map kind_drawn more) ≡ names_in (map kind_drawn more) → Names (kind_drawn given ∷ map kind_drawn more) before after
  unnamed incarnation identifiers same = record { incarnation = inner.incarnation ∙ incarnation; given = inner.given ∙ (λ i. identifiers i + sym same i) }

  names-one : Takes [] now before given between rest → Names (kind_drawn given ∷ map kind_drawn more) before after
  names-one (TakesKept found same left) = absurd (none-kept given [] found refl)
  names-one (TakesTick new is_tick same left) =
      unnamed (ap (λ (o : Opening). o.incarnation) same) (ap (λ (o : Opening). o.identifiers) same) (ap (λ d. names_in (kind_drawn d ∷ map kind_drawn more)) is_tick)
  names-one (TakesName new is_name same left) = record {
    incarnation = inner.incarnation ∙ ap (λ (o : Opening). o.incarnation) same;
    given = inner.given ∙ ap (λ (o : Opening). o.identifiers + names_in (map kind_drawn more)) same ∙ onward before.identifiers (names_in (map kind_drawn more))
        ∙ ap (λ n. before.identifiers + n) (sym (ap (λ d. names_in (kind_drawn d ∷ map kind_drawn more)) is_name));
  }
    where
      onward : (m n : ℕ) → (m + 1) + n ≡ m + suc n
      onward m n = omega arith
  names-one (TakesNext sequence new there is_next incarnation identifiers each left) = unnamed incarnation identifiers (ap (λ d. names_in (kind_drawn d ∷ map kind_drawn more)) is_next)

pub rest-none : (given : Draw) (now : ℕ) (before between : Opening) (rest : List Draw) → Takes [] now before given between rest → rest ≡ []
rest-none given now before between rest (TakesKept found same left) = absurd (none-kept given [] found refl)
rest-none given now before between rest (TakesTick new is_tick same left) = left
rest-none given now before between rest (TakesName new is_name same left) = left
rest-none given now before between rest (TakesNext sequence new there is_next incarnation identifiers each left) = left

pub names : (now : ℕ) (draws : List Draw) (before after : Opening) (left : List Draw) → DrawsAll now before [] draws after left → Names (map kind_drawn draws) before after
names now [] before after left drew = record { incarnation = ap (λ (o : Opening). o.incarnation) drew.0; given = ap (λ (o : Opening). o.identifiers) drew.0 ∙ plus-zero before.identifiers }
  where
    plus-zero : (n : ℕ) → n ≡ n + 0
    plus-zero n = omega arith
names now (given ∷ more) before after left drew =
    let one = takes [] given now before drew.0 drew.1 drew.2.0 in
    names-one now given more before drew.0 after drew.1
    (names now more drew.0 after left (subst (λ k. DrawsAll now drew.0 k more after left) (rest-none given now before drew.0 drew.1 one) drew.2.1)) one
