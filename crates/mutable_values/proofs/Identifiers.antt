-- Over all openings of a store no new identifier is given twice.
use Rattle.std.proofs.Common.{◌≡◌, ◌≢◌, ◌+◌, ◌<◌, ◌≤◌, ◌^◌, ℕ, zero, suc, List, [], ◌∷◌, ◌++◌, length, take, drop, refl, sym, ap, ap₂, subst, ◌∙◌, arith}
use Rattle.std.proofs.Math.Seq.{take-append_seam, drop-append_seam}
use Rattle.std.proofs.lemmas.Nat.{from_be_bytes-to_be_bytes_8}
use Rattle.std.proofs.lemmas.List.Elements.{All-cons, All-nil, All-append}
use Rattle.std.proofs.lemmas.List.Kept.{AllPairs-cons}
use Rattle.std.specs.Int.{from_be_bytes, to_be_bytes, w64}
use Rattle.std.specs.List.{All, AllPairs}
use Rattle.svc_values.specs.declared.draw.Draw.{Draw}
use Rattle.mutable_values.specs.meaning.Sources.{identifier}
use Rattle.mutable_values.specs.Sources.{Opening}
use Rattle.mutable_values.specs.History.{Did, after_one, after_all, all_anew, drawn_anew, identified, identifiers_of}
use Rattle.mutable_values.specs.Epochs.{Epoch, last_of, IsEpoch, FollowsIf, AreEpochs, anew_over}
use Rattle.mutable_values.specs.Laws.{IdentifiersDiffer}
use Rattle.mutable_values.proofs.Histories.{Names, no_name, one_name, names_by, one_call, identifiers_of-append}

-- ---- the bytes tell the numbers apart

front_is : (a b c d : List ℕ) → length a ≡ length c → a ++ b ≡ c ++ d → a ≡ c
front_is a b c d long e = sym (take-append_seam a b) ∙ ap₂ take long e ∙ take-append_seam c d

back_is : (a b c d : List ℕ) → length a ≡ length c → a ++ b ≡ c ++ d → b ≡ d
back_is a b c d long e = sym (drop-append_seam a b) ∙ ap₂ drop long e ∙ drop-append_seam c d

number_is : (n m : ℕ) → n < 2 ^ 64 → m < 2 ^ 64 → to_be_bytes w64 n ≡ to_be_bytes w64 m → n ≡ m
number_is n m p q e = sym (from_be_bytes-to_be_bytes_8 n p) ∙ ap (from_be_bytes w64) e ∙ from_be_bytes-to_be_bytes_8 m q

pub same_incarnation : (i j n m : ℕ) → i < 2 ^ 64 → j < 2 ^ 64 → identifier i n ≡ identifier j m → i ≡ j
same_incarnation i j n m p q e = number_is i j p q (front_is (to_be_bytes w64 i) (to_be_bytes w64 n) (to_be_bytes w64 j) (to_be_bytes w64 m) refl e)

pub same_counter : (i j n m : ℕ) → n < 2 ^ 64 → m < 2 ^ 64 → identifier i n ≡ identifier j m → n ≡ m
same_counter i j n m p q e = number_is n m p q (back_is (to_be_bytes w64 i) (to_be_bytes w64 n) (to_be_bytes w64 j) (to_be_bytes w64 m) refl e)

-- ---- identifiers that differ from all of later incarnations

-- an identifier of an incarnation behind this one
record IsLater (incarnation : ℕ) (id : List ℕ) : Type 0 where
  own : ℕ
  counter : ℕ
  is : id ≡ identifier own counter
  behind : incarnation < own
  small : own < 2 ^ 64

later_than : (before after : ℕ) (ids : List (List ℕ)) → before ≤ after → All (IsLater after) ids → All (IsLater before) ids
later_than before after ids below all = λ k d within.
    let one : IsLater after _ = all k d within in
    let b : after < one.own = one.behind in
    record { own = one.own; counter = one.counter; is = one.is; behind = omega arith; small = one.small }

module _ (incarnation : ℕ) (small : incarnation < 2 ^ 64) where
  not_later : (counter : ℕ) (ids : List (List ℕ)) → All (IsLater incarnation) ids → All (λ other. identifier incarnation counter ≢ other) ids
  not_later counter ids all = λ k d within. λ same.
      let one : IsLater incarnation _ = all k d within in
      let b : incarnation < one.own = one.behind in
      let e : incarnation ≡ one.own = same_incarnation incarnation one.own counter one.counter small one.small (same ∙ one.is) in
      omega arith

  -- so many behind a counter are none of those up to it
  not_counted : (counter : ℕ) (many before : ℕ) → counter ≤ before → before + many < 2 ^ 64 → All (λ other. identifier incarnation counter ≢ other) (identified incarnation before many)
  not_counted counter zero before below room = All-nil (λ other. identifier incarnation counter ≢ other)
  not_counted counter (suc many) before below room =
      All-cons (λ other. identifier incarnation counter ≢ other) (identifier incarnation (before + 1)) (identified incarnation (before + 1) many)
      (λ same. let e : counter ≡ before + 1 = same_counter incarnation incarnation counter (before + 1) (omega arith) (omega arith) same in omega arith)
      (not_counted counter many (before + 1) (omega arith) (omega arith))

  differ_behind : (many before : ℕ) (later : List (List ℕ)) → before + many < 2 ^ 64 → All (IsLater incarnation) later → AllPairs (λ one other. one ≢ other) later
      → AllPairs (λ one other. one ≢ other) (identified incarnation before many ++ later)
  differ_behind zero before later room all pairs = pairs
  differ_behind (suc many) before later room all pairs =
      AllPairs-cons (λ one other. one ≢ other) (identifier incarnation (before + 1)) (identified incarnation (before + 1) many ++ later)
      (All-append (λ other. identifier incarnation (before + 1) ≢ other) (identified incarnation (before + 1) many) later
      (not_counted (before + 1) many (before + 1) (omega arith) (omega arith)) (not_later (before + 1) later all))
      (differ_behind many (before + 1) later (omega arith) all pairs)

  own_later : (least many before : ℕ) → least < incarnation → All (IsLater least) (identified incarnation before many)
  own_later least zero before below = All-nil (IsLater least)
  own_later least (suc many) before below =
      All-cons (IsLater least) (identifier incarnation (before + 1)) (identified incarnation (before + 1) many)
      (record { own = incarnation; counter = before + 1; is = refl; behind = below; small = small }) (own_later least many (before + 1) below)

-- ---- what a history draws

-- the identifiers of a history, and what it leaves of the opening
record Draws (opening : Opening) (ids : List (List ℕ)) (last : Opening) : Type 0 where
  many : ℕ
  are : ids ≡ identified opening.incarnation opening.identifiers many
  incarnation : last.incarnation ≡ opening.incarnation
  counted : last.identifiers ≡ opening.identifiers + many

draws_more : (opening : Opening) (gave more : List Draw) (after last : Opening) → Names opening gave after → Draws after (identifiers_of more) last → Draws opening (identifiers_of (gave ++ more)) last
draws_more opening gave more after last (no_name none same stands) d = record {
  many = d.many;
  are = identifiers_of-append gave more ∙ ap (λ l. l ++ identifiers_of more) none ∙ d.are ∙ ap₂ (λ i n. identified i n d.many) same stands;
  incarnation = d.incarnation ∙ same;
  counted = d.counted ∙ ap (λ n. n + d.many) stands;
}
draws_more opening gave more after last (one_name one same stands) d = record {
  many = suc d.many;
  are = identifiers_of-append gave more ∙ ap (λ l. l ++ identifiers_of more) one
      ∙ ap (λ l. identifier opening.incarnation (opening.identifiers + 1) ∷ l) (d.are ∙ ap₂ (λ i n. identified i n d.many) same stands);
  incarnation = d.incarnation ∙ same;
  counted = let e : last.identifiers ≡ after.identifiers + d.many = d.counted in let f : after.identifiers ≡ opening.identifiers + 1 = stands in omega arith;
}

draws_all : (history : List Did) (opening : Opening) → Draws opening (identifiers_of (all_anew opening history)) (after_all opening history)
draws_all [] opening = record { many = 0; are = refl; incarnation = refl; counted = omega arith }
draws_all (did ∷ more) opening =
    draws_more opening (drawn_anew opening did) (all_anew (after_one opening did) more) (after_one opening did) (after_all (after_one opening did) more)
    (names_by opening (drawn_anew opening did) (after_one opening did) (one_call opening did)) (draws_all more (after_one opening did))

-- ---- all openings

-- the identifiers of these differ, and those of the first are of this incarnation or a later one
record Differ (least : ℕ) (ids : List (List ℕ)) : Type 0 where
  later : All (IsLater least) ids
  pairs : AllPairs (λ one other. one ≢ other) ids

no_pairs : AllPairs (λ (one other : List ℕ). one ≢ other) []
no_pairs = λ i j d below within. absurd (omega arith)

epoch_differs : (least : ℕ) (epoch : Epoch) (later : List Epoch) → least < epoch.opening.incarnation → IsEpoch epoch → Differ epoch.opening.incarnation (identifiers_of (anew_over later))
    → Differ least (identifiers_of (anew_over (epoch ∷ later)))
epoch_differs least epoch later below is rest =
    let d = draws_all epoch.history epoch.opening in
    let room : (last_of epoch).identifiers ≤ 2 ^ 60 = is.identifiers in
    let counted : (last_of epoch).identifiers ≡ epoch.opening.identifiers + d.many = d.counted in
    let fits : epoch.opening.identifiers + d.many < 2 ^ 64 = omega arith in
    let ids : identifiers_of (anew_over (epoch ∷ later)) ≡ identified epoch.opening.incarnation epoch.opening.identifiers d.many ++ identifiers_of (anew_over later) =
    identifiers_of-append (all_anew epoch.opening epoch.history) (anew_over later) ∙ ap (λ l. l ++ identifiers_of (anew_over later)) d.are in
    record {
      later = subst (All (IsLater least)) (sym ids) (All-append (IsLater least) (identified epoch.opening.incarnation epoch.opening.identifiers d.many) (identifiers_of (anew_over later))
          (own_later epoch.opening.incarnation is.incarnation least d.many epoch.opening.identifiers below)
          (later_than least epoch.opening.incarnation (identifiers_of (anew_over later)) (omega arith) rest.later));
      pairs = subst (AllPairs (λ one other. one ≢ other)) (sym ids)
          (differ_behind epoch.opening.incarnation is.incarnation d.many epoch.opening.identifiers (identifiers_of (anew_over later)) fits rest.later rest.pairs);
    }

epochs_differ : (later : List Epoch) (last : Opening) (least : ℕ) → least ≡ last.incarnation → FollowsIf last later → AreEpochs later → Differ least (identifiers_of (anew_over later))
epochs_differ [] last least is follows are = record { later = All-nil (IsLater least); pairs = no_pairs }
epochs_differ (epoch ∷ later) last least is follows are =
    let d = draws_all epoch.history epoch.opening in
    let b : last.incarnation < epoch.opening.incarnation = follows.incarnation in
    epoch_differs least epoch later (omega arith) are.0 (epochs_differ later (last_of epoch) epoch.opening.incarnation (sym d.incarnation) are.1 are.2)

pub identifiers_differ : IdentifiersDiffer
identifiers_differ [] are = no_pairs
identifiers_differ (epoch ∷ later) are = by later are.0 are.1 are.2
  where
    by : (later : List Epoch) → IsEpoch epoch → FollowsIf (last_of epoch) later → AreEpochs later → AllPairs (λ one other. one ≢ other) (identifiers_of (anew_over (epoch ∷ later)))
    by later is follows are =
        let d = draws_all epoch.history epoch.opening in
        let rest : Differ epoch.opening.incarnation (identifiers_of (anew_over later)) = epochs_differ later (last_of epoch) epoch.opening.incarnation (sym d.incarnation) follows are in
        let room : (last_of epoch).identifiers ≤ 2 ^ 60 = is.identifiers in
        let counted : (last_of epoch).identifiers ≡ epoch.opening.identifiers + d.many = d.counted in
        let ids : identifiers_of (anew_over (epoch ∷ later)) ≡ identified epoch.opening.incarnation epoch.opening.identifiers d.many ++ identifiers_of (anew_over later) =
        identifiers_of-append (all_anew epoch.opening epoch.history) (anew_over later) ∙ ap (λ l. l ++ identifiers_of (anew_over later)) d.are in
        subst (AllPairs (λ one other. one ≢ other)) (sym ids)
        (differ_behind epoch.opening.incarnation is.incarnation d.many epoch.opening.identifiers (identifiers_of (anew_over later)) (omega arith) rest.later rest.pairs)
