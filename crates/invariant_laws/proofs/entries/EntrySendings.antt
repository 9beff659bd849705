-- Of the sendings under one identifier exactly one is open or committed, where there is one and no
-- two of them are.
use Rattle.std.proofs.Common.{◌≡◌, refl, sym, ap, ◌∙◌, Bool, true, false, ℕ, ◌+◌, ◌&&◌, ◌||◌, cond, List, [], ◌∷◌, count_by, if◌then◌else◌, arith}
use Rattle.std.specs.List.{list_all, list_any}
use Rattle.std.proofs.lemmas.Bool.{and_parts}
use Rattle.std.proofs.lemmas.List.Sums.{sum_by-cons}
use Rattle.svc_values.specs.declared.entry.Entry.{Entry}
use Rattle.svc_values.specs.declared.entry.Ltxid.{Ltxid}
use Rattle.svc_values.specs.meaning.Identifiers.{same_ltxid}
use Rattle.svc_values.specs.SameLaws.{same_ltxid_decides}
use Rattle.invariant_laws.specs.Once.{all_sendings, are_apart, entries_sent, has_sending, is_of_link, is_open_or_committed, share, under}
use Rattle.world_model.specs.Parts.{Sending, implies}
use Rattle.world_model.specs.Sames.{all_with, each_pair}
use Rattle.world_model.specs.Traced.{Traced}
use Rattle.world_model.proofs.Offered.{weaker_all, eq_from, eq_to, not_both}
use Rattle.invariant_laws.proofs.losses.AskedNear.{any_all}
use Rattle.invariant_laws.proofs.sendings.FateTops.{all_with_is}
use Rattle.invariant_laws.proofs.entries.TriedApart.{is_under, share_not}

counted : (x : Ltxid) (s : Sending) (list : List Sending) → count_by is_open_or_committed (under x (s ∷ list)) ≡ cond (is_under x s) 1 0 + count_by is_open_or_committed (under x list)
counted x s list = by (same_ltxid s.ltxid x) (same_ltxid x s.ltxid) (λ is. (same_ltxid_decides x s.ltxid).1 (sym ((same_ltxid_decides s.ltxid x).0 is))) (λ is. (same_ltxid_decides s.ltxid x).1 (sym ((same_ltxid_decides x s.ltxid).0 is)))
  where
    rest : ℕ
    rest = count_by is_open_or_committed (under x list)

    and_true : (a : Bool) → (a && true) ≡ a
    and_true true = refl
    and_true false = refl

    and_false : (a : Bool) → (a && false) ≡ false
    and_false true = refl
    and_false false = refl

    none : (n : ℕ) → n ≡ 0 + n
    none n = omega arith

    by : (here there : Bool) → (here ≡ true → there ≡ true) → (there ≡ true → here ≡ true) → count_by is_open_or_committed (if here then s ∷ under x list else under x list) ≡ cond (is_open_or_committed s && there) 1 0 + count_by is_open_or_committed (under x list)
    by true true to of = sum_by-cons (λ (one : Sending). cond (is_open_or_committed one) 1 0) s (under x list) ∙ ap (λ (test : Bool). cond test 1 0 + count_by is_open_or_committed (under x list)) (sym (and_true (is_open_or_committed s)))
    by false false to of = none (count_by is_open_or_committed (under x list)) ∙ ap (λ (test : Bool). cond test 1 0 + count_by is_open_or_committed (under x list)) (sym (and_false (is_open_or_committed s)))
    by true false to of = absurd (let never : false ≡ true = to refl in let nothing : ⊥ = cc in nothing)
    by false true to of = absurd (let never : false ≡ true = of refl in let nothing : ⊥ = cc in nothing)

none_counted : (x : Ltxid) (list : List Sending) → (list_any (is_under x) list ≡ true → ⊥) → count_by is_open_or_committed (under x list) ≡ 0
none_counted x [] never = refl
none_counted x (s ∷ list) never = counted x s list ∙ by (is_under x s) refl (none_counted x list)
  where
    by : (test : Bool) → is_under x s ≡ test → ((list_any (is_under x) list ≡ true → ⊥) → count_by is_open_or_committed (under x list) ≡ 0) → cond test 1 0 + count_by is_open_or_committed (under x list) ≡ 0
    by true is again = absurd (never (ap (λ (test : Bool). test || list_any (is_under x) list) is))
    by false is again =
        let zero_rest : count_by is_open_or_committed (under x list) ≡ 0 = again (λ any. never (ap (λ (test : Bool). test || list_any (is_under x) list) is ∙ any)) in
        omega (arith, zero_rest)

one_counted : (x : Ltxid) (list : List Sending) → each_pair share list ≡ true → list_any (is_under x) list ≡ true → count_by is_open_or_committed (under x list) ≡ 1
one_counted x [] pairs any = absurd (let none : ⊥ = cc in none)
one_counted x (s ∷ list) pairs any = counted x s list ∙ by (is_under x s) refl any (one_counted x list parts.1)
  where
    parts : (all_with (share s) list ≡ true) × (each_pair share list ≡ true)
    parts = and_parts (all_with (share s) list) (each_pair share list) pairs

    by : (test : Bool) → is_under x s ≡ test → (test || list_any (is_under x) list) ≡ true → (list_any (is_under x) list ≡ true → count_by is_open_or_committed (under x list) ≡ 1) → cond test 1 0 + count_by is_open_or_committed (under x list) ≡ 1
    by false is later again = let rest : count_by is_open_or_committed (under x list) ≡ 1 = again later in omega (arith, rest)
    by true is here again =
        let rest : count_by is_open_or_committed (under x list) ≡ 0 =
        none_counted x list (λ later. let found = any_all (is_under x) (share s) list later (sym (all_with_is (share s) list) ∙ parts.0) in share_not x s found.0 is found.1.0 found.1.1) in
        omega (arith, rest)

-- an entry of a connection's session has a sending that is open or committed
abbrev pub is_sent : Traced → Entry → Bool
is_sent t entry = implies (is_of_link t entry) (list_any (is_under entry.ltxid) (all_sendings t))

pub sent_by_one : (t : Traced) → are_apart t ≡ true → list_all (is_sent t) t.entries ≡ true → entries_sent t ≡ true
sent_by_one t apart all = weaker_all (is_sent t) (λ entry. implies (is_of_link t entry) (has_sending t entry)) t.entries one all
  where
    one : (entry : Entry) → is_sent t entry ≡ true → implies (is_of_link t entry) (has_sending t entry) ≡ true
    one entry here = by (is_of_link t entry) here
      where
        by : (test : Bool) → implies test (list_any (is_under entry.ltxid) (all_sendings t)) ≡ true → implies test (has_sending t entry) ≡ true
        by false is = refl
        by true any = eq_to (count_by is_open_or_committed (under entry.ltxid (all_sendings t))) 1 (one_counted entry.ltxid (all_sendings t) apart any)

-- and where there is one such, there is one
pub any_sent : (t : Traced) (entry : Entry) → has_sending t entry ≡ true → list_any (is_under entry.ltxid) (all_sendings t) ≡ true
any_sent t entry has = by (list_any (is_under entry.ltxid) (all_sendings t)) refl
  where
    by : (any : Bool) → list_any (is_under entry.ltxid) (all_sendings t) ≡ any → any ≡ true
    by true is = refl
    by false is =
        let none : count_by is_open_or_committed (under entry.ltxid (all_sendings t)) ≡ 0 = none_counted entry.ltxid (all_sendings t) (λ any. not_both (list_any (is_under entry.ltxid) (all_sendings t)) any is) in
        let one : count_by is_open_or_committed (under entry.ltxid (all_sendings t)) ≡ 1 = eq_from (count_by is_open_or_committed (under entry.ltxid (all_sendings t))) 1 has in
        absurd (let never : ⊥ = omega (arith, none, one) in never)
