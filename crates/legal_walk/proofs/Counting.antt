-- How many entries a session has, counted one after the other.
use Rattle.std.proofs.Common.{◌≡◌, ℕ, ◌+◌, ◌<◌, ◌≤◌, Bool, true, false, cond, List, [], ◌∷◌, ◌++◌, length, filter, take, drop, get_or, refl, sym, ap, ◌∙◌, subst, arith, Bor, add-zero, length-append, append_assoc}
use Rattle.std.proofs.lemmas.List.{length-take, take_more, drop_more, drop_all}
use Rattle.std.specs.Prelude.{Option, Some, None, is_some, not, unwrap_or}
use Rattle.std.specs.Option.{option_copied}
use Rattle.svc_values.specs.Keys.{value_of}
use Rattle.svc_values.specs.declared.entry.Entry.{Entry}
use Rattle.svc_values.specs.declared.entry.Ltxid.{Ltxid}
use Rattle.svc_values.specs.declared.entry.SessionId.{SessionId}
use Rattle.svc_values.specs.meaning.Identifiers.{is_of, same_session, session_of}
use Rattle.server_model.specs.meaning.Walk.{number_of}
use Rattle.legal_walk.specs.Counts.{counted, key_of, same_key}
use Rattle.server_model.specs.meaning.Legal.{all_stored}
use Rattle.legal_walk.specs.Stored.{Stored, stored_so_far, IsLedger, first_of, with_first}
use Rattle.legal_walk.proofs.Keyed.{same_is, same_symm}

-- one entry more
pub counted_one : (old new : List ((ℕ × ℕ) × ℕ)) (x : Ltxid) (count : ℕ) → count ≡ counted old (session_of x)
    → ((k : ℕ × ℕ) → value_of same_key new k ≡ cond (same_key k (x.incarnation, x.session)) (Some (count + 1)) (value_of same_key old k))
    → (session : SessionId) → counted new session ≡ counted old session + cond (is_of x session.incarnation session.session) 1 0
counted_one old new x count is put session =
    ap (λ (o : Option ℕ). unwrap_or o 0) (put (key_of session) ∙ ap (λ (t : Bool). cond t (Some (count + 1)) (value_of same_key old (key_of session))) (same_symm session (session_of x)))
    ∙ by (same_session (session_of x) session) refl
  where
    by : (b : Bool) → same_session (session_of x) session ≡ b → unwrap_or (cond b (Some (count + 1)) (value_of same_key old (key_of session))) 0 ≡ counted old session + cond b 1 0
    by true same = ap (λ n. n + 1) (is ∙ ap (counted old) (same_is (session_of x) session same))
    by false same = sym (add-zero (counted old session))

one_more : (b : Bool) (entry : Entry) (rest more : List Entry) (n : ℕ) → length more ≡ length rest + n → length (cond b (entry ∷ more) more) ≡ length (cond b (entry ∷ rest) rest) + n
one_more true entry rest more n is = omega (arith, is)
one_more false entry rest more n is = is

pub number_of-more : (entries : List Entry) (entry : Entry) (session : SessionId) → number_of (entries ++ entry ∷ []) session ≡ number_of entries session + cond (is_of entry.ltxid session.incarnation session.session) 1 0
number_of-more [] entry session = by (is_of entry.ltxid session.incarnation session.session)
  where
    by : (b : Bool) → length (cond b (entry ∷ []) []) ≡ 0 + cond b 1 0
    by true = refl
    by false = refl
number_of-more (first ∷ entries) entry session =
    one_more (is_of first.ltxid session.incarnation session.session) first (filter (λ e. is_of e.ltxid session.incarnation session.session) entries)
    (filter (λ e. is_of e.ltxid session.incarnation session.session) (entries ++ entry ∷ []))
    (cond (is_of entry.ltxid session.incarnation session.session) 1 0) (number_of-more entries entry session)

filtered : (b : Bool) (entry : Entry) (rest more : List Entry) → length rest ≤ length more → length (cond b (entry ∷ rest) rest) ≤ length (entry ∷ more)
filtered true entry rest more is = omega (arith, is)
filtered false entry rest more is = omega (arith, is)

pub number_of-within : (entries : List Entry) (session : SessionId) → number_of entries session ≤ length entries
number_of-within [] session = omega arith
number_of-within (first ∷ entries) session =
    filtered (is_of first.ltxid session.incarnation session.session) first (filter (λ e. is_of e.ltxid session.incarnation session.session) entries) entries (number_of-within entries session)

-- of the first few entries at most as many are a session's
pub number_of-taken : (before entries : List Entry) (taken : ℕ) (session : SessionId) → number_of (before ++ take taken entries) session ≤ length before + taken
number_of-taken before entries taken session = omega (arith, number_of-within (before ++ take taken entries) session, length-append before (take taken entries), length-take taken entries)

pub one_taken : (before entries : List Entry) (taken : ℕ) (entry : Entry) → taken < length entries → entry ≡ get_or entries taken entry → before ++ take (taken + 1) entries ≡ (before ++ take taken entries) ++ entry ∷ []
one_taken before entries taken entry within is =
    ap (λ l. before ++ l) (take_more entries taken entry within ∙ ap (λ e. take taken entries ++ e ∷ []) (sym is)) ∙ sym (append_assoc before (take taken entries) (entry ∷ []))

-- ---- a ledger

module _ (before entries : List Entry) (taken : ℕ) (old new : List ((ℕ × ℕ) × ℕ)) (entry : Entry) (within : taken < length entries) (is : entry ≡ get_or entries taken entry) where
  pub counted_more : ((session : SessionId) → counted old session ≡ number_of (before ++ take taken entries) session)
      → ((session : SessionId) → counted new session ≡ counted old session + cond (is_of entry.ltxid session.incarnation session.session) 1 0)
      → (session : SessionId) → counted new session ≡ number_of (before ++ take (taken + 1) entries) session
  counted_more counts more session =
      more session ∙ ap (λ n. n + cond (is_of entry.ltxid session.incarnation session.session) 1 0) (counts session)
      ∙ sym (ap (λ l. number_of l session) (one_taken before entries taken entry within is) ∙ number_of-more (before ++ take taken entries) entry session)

  pub ledger_more : IsLedger before entries taken old
      → ((session : SessionId) → counted new session ≡ counted old session + cond (is_of entry.ltxid session.incarnation session.session) 1 0) → IsLedger before entries (taken + 1) new
  ledger_more ledger more = record { within = omega (arith, within); are_counted = counted_more ledger.are_counted more }

pub stored_more : (before entries : List Entry) (taken : ℕ) (entry : Entry) → taken < length entries → entry ≡ get_or entries taken entry → stored_so_far before entries (taken + 1) ≡ with_first (stored_so_far before entries taken)
stored_more before entries taken entry within is =
    let here : drop taken entries ≡ entry ∷ drop (taken + 1) entries = drop_more entries taken entry within ∙ ap (λ e. e ∷ drop (taken + 1) entries) (sym is) in
    ap (λ l. record { stored = l; left = drop (taken + 1) entries }) (one_taken before entries taken entry within is)
    ∙ sym (ap (λ (l : List Entry). with_first (record { stored = before ++ take taken entries; left = l })) here)

pub stored_none : (before entries : List Entry) (taken : ℕ) → length entries ≤ taken → stored_so_far before entries taken ≡ with_first (stored_so_far before entries taken)
stored_none before entries taken over =
    let here : drop taken entries ≡ [] = drop_all taken entries over in
    subst (λ (l : List Entry). ◌≡◌ {A = Stored} (record { stored = before ++ take taken entries; left = l }) (with_first (record { stored = before ++ take taken entries; left = l }))) (sym here) refl

-- none is left where there is no first one
pub no_first : (first : Option (Bor Entry)) (left : List Entry) (none : Bool) → option_copied first ≡ first_of left → is_some first ≡ not none → none ≡ all_stored left
no_first None [] none is said = by none said
  where
    by : (b : Bool) → false ≡ not b → b ≡ true
    by true e = refl
    by false e = e
no_first None (entry ∷ left) none is said = absurd (let clash : ◌≡◌ {A = Option Entry} None (Some entry) = is in cc)
no_first (Some first) [] none is said = absurd (let clash : ◌≡◌ {A = Option Entry} (Some first.now) None = is in cc)
no_first (Some first) (entry ∷ left) none is said = by none said
  where
    by : (b : Bool) → true ≡ not b → b ≡ false
    by true e = e
    by false e = refl
