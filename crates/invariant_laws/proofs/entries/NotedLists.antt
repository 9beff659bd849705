-- Where a request notes its sendings as they are, what it tells of them as tried is what the report
-- has to tell.
use Rattle.std.proofs.Common.{◌≡◌, refl, sym, ap, ap₂, ◌∙◌, Bool, true, false, ℕ, ◌&&◌, ◌||◌, filter, fold, map, List, [], ◌∷◌, ◌++◌, Option, Some, None, if◌then◌else◌}
use Rattle.std.specs.Prelude.{◌==◌, not}
use Rattle.std.specs.Cmp.Lexicographic.{pointwise}
use Rattle.std.specs.Option.{option_map_or}
use Rattle.std.proofs.lemmas.Bool.{and_parts}
use Rattle.std.proofs.lemmas.List.Elements.{filter-append}
use Rattle.svc_values.specs.declared.answer.Answer.{Answer}
use Rattle.svc_values.specs.declared.call.Call.{Call}
use Rattle.svc_values.specs.declared.entry.Ltxid.{Ltxid}
use Rattle.svc_values.specs.meaning.Calls.{has_commit}
use Rattle.svc_values.specs.meaning.Endings.{ends_committed}
use Rattle.svc_values.specs.meaning.Identifiers.{same_ltxid}
use Rattle.svc_values.specs.meaning.Same.{same_call}
use Rattle.svc_values.specs.SameLaws.{same_answers_decide, same_call_decides, same_ltxid_decides}
use Rattle.outage_schedule.specs.declared.request.ShownCall.{ShownCall}
use Rattle.client_model.specs.meaning.Tried.{Sending as Noted, each_once, is_try, tried_in}
use Rattle.run_clauses.specs.meaning.Tried.{holds}
use Rattle.run_clauses.specs.Tried.{Sending as Tried, may_have_committed, tried_among, with_new}
use Rattle.invariant_laws.specs.Once.{is_noted, same_taken, reverse_onto, transaction_at, tried_one}
use Rattle.world_model.specs.Parts.{Sending}
use Rattle.world_model.proofs.Offered.{eq_from}

-- EACH IDENTIFIER ONCE ----------------------------------------------------------------------------

abbrev without : Ltxid → List Ltxid → List Ltxid
without x ids = filter (λ other. not (same_ltxid other x)) ids

abbrev back : List Ltxid → List Ltxid → List Ltxid
back [] done = done
back (x ∷ ids) done = back ids (x ∷ done)

-- another identifier is held as before
held_without : (x z : Ltxid) (ids : List Ltxid) → same_ltxid z x ≡ false → holds (without x ids) z ≡ holds ids z
held_without x z [] differs = refl
held_without x z (y ∷ ids) differs = by (same_ltxid y x) refl (held_without x z ids differs)
  where
    by : (same : Bool) → same_ltxid y x ≡ same → holds (without x ids) z ≡ holds ids z → holds (if not same then y ∷ without x ids else without x ids) z ≡ (same_ltxid z y || holds ids z)
    by false is rest = ap (λ (test : Bool). same_ltxid z y || test) rest
    by true is rest = rest ∙ sym (ap (λ (test : Bool). test || holds ids z) (ap (same_ltxid z) ((same_ltxid_decides y x).0 is) ∙ differs))

one_new : (x z : Ltxid) (ids : List Ltxid) → with_new (x ∷ without x ids) z ≡ x ∷ without x (with_new ids z)
one_new x z ids = by (same_ltxid z x) refl
  where
    more : (held : Bool) → holds (without x ids) z ≡ holds ids z → same_ltxid z x ≡ false → holds ids z ≡ held
        → (if holds (without x ids) z then x ∷ without x ids else (x ∷ without x ids) ++ z ∷ []) ≡ x ∷ without x (if held then ids else ids ++ z ∷ [])
    more true same differs is = ap (λ (test : Bool). if test then x ∷ without x ids else (x ∷ without x ids) ++ z ∷ []) (same ∙ is)
    more false same differs is =
        ap (λ (test : Bool). if test then x ∷ without x ids else (x ∷ without x ids) ++ z ∷ []) (same ∙ is)
        ∙ ap (λ (rest : List Ltxid). x ∷ rest) (sym (filter-append (λ other. not (same_ltxid other x)) ids (z ∷ [])
        ∙ ap (λ (test : Bool). without x ids ++ (if not test then z ∷ [] else [])) differs))

    gone : (held : Bool) → same_ltxid z x ≡ true → x ∷ without x ids ≡ x ∷ without x (if held then ids else ids ++ z ∷ [])
    gone true is = refl
    gone false is =
        ap (λ (rest : List Ltxid). x ∷ rest) (sym (filter-append (λ other. not (same_ltxid other x)) ids (z ∷ [])
        ∙ (ap (λ (test : Bool). without x ids ++ (if not test then z ∷ [] else [])) is ∙ append_none (without x ids))))
      where
        append_none : (list : List Ltxid) → list ++ [] ≡ list
        append_none [] = refl
        append_none (one ∷ list) = ap (λ (rest : List Ltxid). one ∷ rest) (append_none list)

    by : (same : Bool) → same_ltxid z x ≡ same → (if same || holds (without x ids) z then x ∷ without x ids else (x ∷ without x ids) ++ z ∷ []) ≡ x ∷ without x (if holds ids z then ids else ids ++ z ∷ [])
    by true is = gone (holds ids z) is
    by false is = more (holds ids z) (held_without x z ids is) is refl

all_new : (x : Ltxid) (ids more : List Ltxid) → fold with_new (x ∷ without x ids) more ≡ x ∷ without x (fold with_new ids more)
all_new x ids [] = refl
all_new x ids (z ∷ more) = ap (λ (found : List Ltxid). fold with_new found more) (one_new x z ids) ∙ all_new x (with_new ids z) more

-- the last one first, or the first one first
each_new : (ids done : List Ltxid) → fold each_once (fold with_new [] done) ids ≡ fold with_new [] (back ids done)
each_new [] done = refl
each_new (x ∷ ids) done = ap (λ (found : List Ltxid). fold each_once found ids) (sym (all_new x [] done)) ∙ each_new ids (x ∷ done)

-- ONE TRANSACTION ---------------------------------------------------------------------------------

taken_same : (a b : Option (List Answer)) → same_taken a b ≡ true → a ≡ b
taken_same None None same = refl
taken_same (Some a) (Some b) same = ap Some ((same_answers_decide a b).0 same)
taken_same None (Some b) same = absurd (let none : ⊥ = cc in none)
taken_same (Some a) None same = absurd (let none : ⊥ = cc in none)

-- what the two have in common
pub record IsNoted (shown : List ShownCall) (noted : Noted) (sending : Sending) : Type 0 where
  pub ltxid : noted.ltxid ≡ sending.ltxid
  pub call : noted.call ≡ sending.call
  pub reply : noted.reply ≡ sending.taken
  pub transaction : noted.transaction ≡ transaction_at shown sending.at

pub noted_from : (shown : List ShownCall) (noted : Noted) (sending : Sending) → is_noted shown noted sending ≡ true → IsNoted shown noted sending
noted_from shown noted sending here =
    let one = and_parts (same_ltxid noted.ltxid sending.ltxid) (same_call noted.call sending.call && (same_taken noted.reply sending.taken && (noted.transaction == transaction_at shown sending.at))) here in
    let two = and_parts (same_call noted.call sending.call) (same_taken noted.reply sending.taken && (noted.transaction == transaction_at shown sending.at)) one.1 in
    let three = and_parts (same_taken noted.reply sending.taken) (noted.transaction == transaction_at shown sending.at) two.1 in
    record {
      ltxid = (same_ltxid_decides noted.ltxid sending.ltxid).0 one.0;
      call = (same_call_decides noted.call sending.call).0 two.0;
      reply = taken_same noted.reply sending.taken three.0;
      transaction = eq_from noted.transaction (transaction_at shown sending.at) three.1;
    }

pub bool_same : (a b : Bool) → (a ≡ true → b ≡ true) → (b ≡ true → a ≡ true) → a ≡ b
bool_same true true one other = refl
bool_same false false one other = refl
bool_same true false one other = sym (one refl)
bool_same false true one other = other refl

and_turned : (a b : Bool) → (a && b) ≡ (b && a)
and_turned true true = refl
and_turned true false = refl
and_turned false true = refl
and_turned false false = refl

module _ (shown : List ShownCall) (noted : List Noted) (sendings : List Sending) (agree : pointwise (is_noted shown) noted sendings ≡ true) where
  abbrev pub place : ℕ → ℕ
  place at = transaction_at shown at

  abbrev pub told : List Tried
  told = map tried_one (reverse_onto sendings [])

  chosen : (p : Noted → Bool) (q : Sending → Bool) → ((one : Noted) (other : Sending) → IsNoted shown one other → p one ≡ q other) → (xs : List Noted) (ys : List Sending) → pointwise (is_noted shown) xs ys ≡ true
      → map (λ (one : Noted). one.ltxid) (filter p xs) ≡ map (λ (other : Sending). other.ltxid) (filter q ys)
  chosen p q same [] [] pairs = refl
  chosen p q same [] (y ∷ ys) pairs = absurd (let none : ⊥ = cc in none)
  chosen p q same (x ∷ xs) [] pairs = absurd (let none : ⊥ = cc in none)
  chosen p q same (x ∷ xs) (y ∷ ys) pairs =
      let parts = and_parts (is_noted shown x y) (pointwise (is_noted shown) xs ys) pairs in
      let both : IsNoted shown x y = noted_from shown x y parts.0 in
      by (p x) (q y) (same x y both) both.ltxid (chosen p q same xs ys parts.1)
    where
      by : (a b : Bool) → a ≡ b → x.ltxid ≡ y.ltxid → map (λ (one : Noted). one.ltxid) (filter p xs) ≡ map (λ (other : Sending). other.ltxid) (filter q ys)
          → map (λ (one : Noted). one.ltxid) (if a then x ∷ filter p xs else filter p xs) ≡ map (λ (other : Sending). other.ltxid) (if b then y ∷ filter q ys else filter q ys)
      by true true is ids rest = ap₂ (λ (id : Ltxid) (more : List Ltxid). id ∷ more) ids rest
      by false false is ids rest = rest
      by true false is ids rest = absurd (let none : ⊥ = cc in none)
      by false true is ids rest = absurd (let none : ⊥ = cc in none)

  turned : (q : Tried → Bool) (ys done : List Sending)
      → map (λ (one : Tried). one.ltxid) (filter q (map tried_one (reverse_onto ys done))) ≡ back (map (λ (other : Sending). other.ltxid) (filter (λ other. q (tried_one other)) ys)) (map (λ (one : Tried). one.ltxid) (filter q (map tried_one done)))
  turned q [] done = refl
  turned q (y ∷ ys) done = by (q (tried_one y)) refl (turned q ys (y ∷ done))
    where
      by : (test : Bool) → q (tried_one y) ≡ test
          → map (λ (one : Tried). one.ltxid) (filter q (map tried_one (reverse_onto ys (y ∷ done)))) ≡ back (map (λ (other : Sending). other.ltxid) (filter (λ other. q (tried_one other)) ys)) (map (λ (one : Tried). one.ltxid) (if q (tried_one y) then tried_one y ∷ filter q (map tried_one done) else filter q (map tried_one done)))
          → map (λ (one : Tried). one.ltxid) (filter q (map tried_one (reverse_onto ys (y ∷ done)))) ≡ back (map (λ (other : Sending). other.ltxid) (if test then y ∷ filter (λ other. q (tried_one other)) ys else filter (λ other. q (tried_one other)) ys)) (map (λ (one : Tried). one.ltxid) (filter q (map tried_one done)))
      by true is rest = rest ∙ ap (λ (t : Bool). back (map (λ (other : Sending). other.ltxid) (filter (λ other. q (tried_one other)) ys)) (map (λ (one : Tried). one.ltxid) (if t then tried_one y ∷ filter q (map tried_one done) else filter q (map tried_one done)))) is
      by false is rest = rest ∙ ap (λ (t : Bool). back (map (λ (other : Sending). other.ltxid) (filter (λ other. q (tried_one other)) ys)) (map (λ (one : Tried). one.ltxid) (if t then tried_one y ∷ filter q (map tried_one done) else filter q (map tried_one done)))) is

  -- the sendings of the transaction are those of these places
  pub one_part : (k : ℕ) (is_of : ℕ → Bool) → ((at : ℕ) → (place at == k) ≡ is_of at) → tried_in k noted ≡ tried_among is_of told
  one_part k is_of same =
      ap (fold each_once []) (chosen (λ one. is_try one && (one.transaction == k)) (λ other. is_of other.at && may_have_committed (tried_one other)) tests noted sendings agree)
      ∙ (each_new (map (λ (other : Sending). other.ltxid) (filter (λ other. is_of other.at && may_have_committed (tried_one other)) sendings)) []
      ∙ ap (fold with_new []) (sym (turned (λ one. is_of one.at && may_have_committed one) sendings [])))
    where
      tests : (one : Noted) (other : Sending) → IsNoted shown one other → (is_try one && (one.transaction == k)) ≡ (is_of other.at && may_have_committed (tried_one other))
      tests one other both =
          let first : is_try one ≡ may_have_committed (tried_one other) = ap₂ (λ (call : Call) (reply : Option (List Answer)). has_commit call && option_map_or ends_committed reply true) both.call both.reply in
          let second : (one.transaction == k) ≡ is_of other.at = ap (λ (n : ℕ). n == k) both.transaction ∙ same other.at in
          ap₂ (λ (a b : Bool). a && b) first second ∙ and_turned (may_have_committed (tried_one other)) (is_of other.at)
