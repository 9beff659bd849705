-- The connection of an entry's session is the only one with it, so the entry has the pieces of the
-- transaction of its number there, and its settings.
use Rattle.std.proofs.Common.{◌≡◌, ◌≢◌, refl, sym, ap, ◌∙◌, Bool, true, false, ℕ, zero, suc, ◌&&◌, List, [], ◌∷◌, filter, cond, Option, Some, None, ◌⊎◌, inl, inr}
use Rattle.std.specs.Prelude.{◌==◌, is_some, option_and_then, slice_get}
use Rattle.std.specs.List.{last_or, list_all}
use Rattle.std.specs.Option.{option_map_or}
use Rattle.std.proofs.lemmas.Bool.{and_parts}
use Rattle.svc_values.specs.declared.entry.Entry.{Entry}
use Rattle.svc_values.specs.declared.entry.SessionId.{SessionId}
use Rattle.svc_values.specs.meaning.Identifiers.{session_of}
use Rattle.svc_values.specs.meaning.SettingsList.{same_settings}
use Rattle.world_model.specs.records.Basic.{sessions_differ, sessions_of}
use Rattle.world_model.specs.meaning.Links.{Link, link_at}
use Rattle.world_model.specs.Parts.{implies}
use Rattle.invariant_laws.specs.Same.{are_pieces, is_ran, is_session_of, is_started, link_of, ran_by}
use Rattle.world_model.specs.Traced.{Traced}
use Rattle.world_model.proofs.Offered.{links_apart, same_session_is, session_self, either, some_same}

-- LISTS -------------------------------------------------------------------------------------------

-- the last one that a filter leaves in, if one is there, is one of the list
data Lasts {A : Type 0} (keep : A → Bool) (xs : List A) (found last : Option A) : Type 0 where
  Before : last ≡ found → Lasts keep xs found last
  Within : (index : ℕ) (x : A) → slice_get xs index ≡ Some x → keep x ≡ true → last ≡ Some x → Lasts keep xs found last

lasts : {A : Type 0} (keep : A → Bool) (found : Option A) (xs : List A) → Lasts keep xs found (last_or found (filter keep xs))
lasts keep found [] = Before refl
lasts {A} keep found (x ∷ xs) = by (keep x) refl (lasts keep (Some x) xs) (lasts keep found xs)
  where
    by : (kept : Bool) → keep x ≡ kept → Lasts keep xs (Some x) (last_or (Some x) (filter keep xs)) → Lasts keep xs found (last_or found (filter keep xs)) → Lasts keep (x ∷ xs) found (last_or found (cond kept (x ∷ filter keep xs) (filter keep xs)))
    by true is (Before same) without = Within 0 x refl is same
    by true is (Within index y at passes same) without = Within (suc index) y at passes same
    by false is with_it (Before same) = Before same
    by false is with_it (Within index y at passes same) = Within (suc index) y at passes same

-- where one passes, one is left in
stays_some : {A : Type 0} (keep : A → Bool) (found : Option A) (xs : List A) → is_some found ≡ true → is_some (last_or found (filter keep xs)) ≡ true
stays_some keep found [] some = some
stays_some keep found (x ∷ xs) some = by (keep x) (stays_some keep (Some x) xs refl) (stays_some keep found xs some)
  where
    by : (kept : Bool) → is_some (last_or (Some x) (filter keep xs)) ≡ true → is_some (last_or found (filter keep xs)) ≡ true → is_some (last_or found (cond kept (x ∷ filter keep xs) (filter keep xs))) ≡ true
    by true with_it without = with_it
    by false with_it without = without

one_left : {A : Type 0} (keep : A → Bool) (found : Option A) (xs : List A) (index : ℕ) (y : A) → slice_get xs index ≡ Some y → keep y ≡ true → is_some (last_or found (filter keep xs)) ≡ true
one_left keep found [] index y at passes = absurd (let none : ⊥ = cc in none)
one_left keep found (x ∷ xs) zero y at passes = by (keep x) (let same : x ≡ y = cc in ap keep same ∙ passes) (stays_some keep (Some x) xs refl)
  where
    by : (kept : Bool) → kept ≡ true → is_some (last_or (Some x) (filter keep xs)) ≡ true → is_some (last_or found (cond kept (x ∷ filter keep xs) (filter keep xs))) ≡ true
    by true is with_it = with_it
    by false is with_it = absurd (let none : ⊥ = cc in none)
one_left keep found (x ∷ xs) (suc index) y at passes = by (keep x) (one_left keep (Some x) xs index y at passes) (one_left keep found xs index y at passes)
  where
    by : (kept : Bool) → is_some (last_or (Some x) (filter keep xs)) ≡ true → is_some (last_or found (filter keep xs)) ≡ true → is_some (last_or found (cond kept (x ∷ filter keep xs) (filter keep xs))) ≡ true
    by true with_it without = with_it
    by false with_it without = without

-- ONE ENTRY ---------------------------------------------------------------------------------------

named_by : (entry : Entry) (found : Option SessionId) → option_map_or (λ session. (session.incarnation == entry.ltxid.incarnation) && (session.session == entry.ltxid.session)) found false ≡ true → found ≡ Some (session_of entry.ltxid)
named_by entry None is = absurd (let none : ⊥ = cc in none)
named_by entry (Some session) is = ap Some (same_session_is session (session_of entry.ltxid) is)

module _ (t : Traced) (apart : sessions_differ t ≡ true) (entry : Entry) (number : ℕ) (link : Link) (there : link_at t.machine.links number ≡ Some link) (has : link.session ≡ Some (session_of entry.ltxid)) where
  link_is : link_of t entry ≡ Some link
  link_is = at number there (lasts (is_session_of entry) None t.machine.links)
    where
      mine : is_session_of entry link ≡ true
      mine = ap (λ (found : Option SessionId). option_map_or (λ session. (session.incarnation == entry.ltxid.incarnation) && (session.session == entry.ltxid.session)) found false) has ∙ session_self (session_of entry.ltxid)

      none : (index : ℕ) → slice_get t.machine.links index ≡ Some link → link_of t entry ≡ None → ⊥
      none index here is = let some : is_some (link_of t entry) ≡ true = one_left (is_session_of entry) None t.machine.links index link here mine in let never : ⊥ = cc in never

      same : (index : ℕ) (other : Link) → slice_get t.machine.links index ≡ Some other → is_session_of entry other ≡ true → other ≡ link
      same index other here passes = by (either (suc index) number)
        where
          by : (suc index ≡ number) ⊎ (suc index ≢ number) → other ≡ link
          by (inl equal) = some_same (link_at t.machine.links number) other link (ap (link_at t.machine.links) (sym equal) ∙ here) there
          by (inr differ) =
              absurd (links_apart t.machine.links (suc index) number other link (session_of entry.ltxid) (session_of entry.ltxid) differ here there (named_by entry other.session passes) has (and_parts _ (list_all _ (sessions_of t)) apart).0 refl)

      at : (k : ℕ) → link_at t.machine.links k ≡ Some link → Lasts (is_session_of entry) t.machine.links None (link_of t entry) → link_of t entry ≡ Some link
      at zero here last = absurd (let never : ⊥ = cc in never)
      at (suc index) here (Before is) = absurd (none index here is)
      at (suc index) here (Within k other found passes is) = is ∙ ap Some (same k other found passes)

  pub link_ran : is_ran t entry ≡ true → option_map_or (λ dids. are_pieces dids entry.pieces) (slice_get (ran_by link).over entry.ltxid.number) false ≡ true
  link_ran is =
      sym (ap (λ (found : Option Link). implies (is_some found) (option_map_or (λ dids. are_pieces dids entry.pieces) (option_and_then (λ one. slice_get (ran_by one).over entry.ltxid.number) found) false)) link_is) ∙ is

  pub link_started : is_started t entry ≡ true → option_map_or (same_settings entry.settings) (slice_get (ran_by link).starts entry.ltxid.number) false ≡ true
  link_started is =
      sym (ap (λ (found : Option Link). implies (is_some found) (option_map_or (same_settings entry.settings) (option_and_then (λ one. slice_get (ran_by one).starts entry.ltxid.number) found) false)) link_is) ∙ is
