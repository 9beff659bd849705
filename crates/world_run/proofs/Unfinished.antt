-- Which clients of a run are not finished.
use Rattle.std.proofs.Common.{◌≡◌, refl, sym, ap, ◌∙◌, arith, Bool, true, false, ℕ, suc, zero, ◌+◌, ◌≤◌, ◌<◌, List, [], ◌∷◌, length, Option, Some, None}
use Rattle.std.proofs.lemmas.Bool.{or_left}
use Rattle.std.proofs.lemmas.Bool.Decides.{nat_tests}
use Rattle.std.proofs.lemmas.Option.{slice_get_past, slice_get_read}
use Rattle.std.specs.Prelude.{nat_lt, slice_get, get_or, position, is_some, option_map, if◌then◌else◌, ◌||◌}
use Rattle.std.specs.Option.{option_map_or}
use Rattle.std.specs.List.{list_any}
use Rattle.request_bounds.specs.meaning.Rules.{Rules}
use Rattle.outage_schedule.specs.declared.document.Client.{Client as Script}
use Rattle.outage_schedule.specs.declared.document.Request.{Request}
use Rattle.outage_schedule.specs.declared.event.Event.TheVariants as event
use Rattle.world_model.specs.meaning.Clients.{Client, script_at, is_unfinished}
use Rattle.world_model.specs.meaning.Finishing.{AtClients, first_behind, serves_or_ticks, goes_or_serves, next_round}
use Rattle.world_model.specs.meaning.Machines.{Machine}
use Rattle.world_model.specs.meaning.Settings.{Setting}
use Rattle.world_model.specs.Traced.{Traced}
use Rattle.world_model.proofs.Offered.{counted, position_cons, first_there, none_there}
use Rattle.world_core.specs.Among.{StandEach, scripts_of}
use Rattle.world_core.specs.Coursing.{Held, IsClient}

-- ONE ---------------------------------------------------------------------------------------------

-- the requests of the script at a place
requests_read : (scripts : List Script) (index : ℕ) (script : Script) → index < length scripts → get_or (scripts_of scripts) index [] ≡ (get_or scripts index script).requests
requests_read [] index script within = absurd (let none : ⊥ = omega (arith, within) in none)
requests_read (one ∷ scripts) zero script within = refl
requests_read (one ∷ scripts) (suc index) script within = requests_read scripts index script (let less : index < length scripts = omega (arith, within) in less)

module _ (R : Type 0) (rules : R → Rules) (scripts : List Script) (held : List (Held R)) (t : Traced) (scripted : t.setting.scripts ≡ scripts_of scripts) (stand : StandEach R rules held t) where
  -- what a client that is held tells, if it is asked with its script
  pub told_unfinished : (index : ℕ) (script : Script) (requests : List Request) (one : Held R) (told : Bool) → index < length scripts → index < length held → requests ≡ (get_or scripts index script).requests → one ≡ get_or held index one
      → ((setting : Setting) (number tick : ℕ) (is_lost : Bool) (client : Client) → requests ≡ script_at setting number → IsClient R rules setting number tick is_lost one client → told ≡ is_unfinished client)
      → told ≡ option_map_or is_unfinished (slice_get t.machine.clients index) false
  told_unfinished index script requests one told within held_within own read tells =
      let each = stand.each index one (slice_get_read held (length held) index one refl held_within read) in
      let same : requests ≡ script_at t.setting (suc index) = own ∙ (sym (requests_read scripts index script within) ∙ ap (λ (all : List (List Request)). get_or all index []) (sym scripted)) in
      tells t.setting (suc index) t.machine.tick false each.0 same each.1.stands ∙ sym (ap (λ (found : Option Client). option_map_or is_unfinished found false) each.1.there)

-- THE FIRST ---------------------------------------------------------------------------------------

-- no client from this place up to that one is unfinished
abbrev pub NoneUpTo : Traced → ℕ → ℕ → Type 0
NoneUpTo t passed at = (other : ℕ) → passed ≤ other → other < at → option_map_or is_unfinished (slice_get t.machine.clients other) false ≡ false

-- then one that is unfinished is the first
pub found_unfinished : (t : Traced) (passed at : ℕ) → passed ≤ at → NoneUpTo t passed at → option_map_or is_unfinished (slice_get t.machine.clients at) false ≡ true → Some (at + 1) ≡ first_behind is_unfinished passed t.machine.clients
found_unfinished t passed at least none meets = by (slice_get t.machine.clients at) refl meets
  where
    by : (found : Option Client) → slice_get t.machine.clients at ≡ found → option_map_or is_unfinished found false ≡ true → Some (at + 1) ≡ first_behind is_unfinished passed t.machine.clients
    by None there meets = absurd (let never : ⊥ = cc in never)
    by (Some client) there meets = sym (first_there is_unfinished passed t.machine.clients (at + 1) (record {
      index = at;
      is_number = omega arith;
      behind = least;
      item = client;
      there = there;
      meets = meets;
      before = λ other one from below is. sym (ap (λ (found : Option Client). option_map_or is_unfinished found false) is) ∙ none other from below;
    }))

-- and behind the last client that is held there is none
pub none_unfinished : (R : Type 0) (rules : R → Rules) (held : List (Held R)) (t : Traced) → StandEach R rules held t → (passed at : ℕ) → length held ≤ at → NoneUpTo t passed at → None ≡ first_behind is_unfinished passed t.machine.clients
none_unfinished R rules held t stand passed at all none = sym (none_there is_unfinished passed t.machine.clients (λ other one from is. by other one from is (nat_lt other at) refl))
  where
    by : (other : ℕ) (one : Client) → passed ≤ other → slice_get t.machine.clients other ≡ Some one → (below : Bool) → nat_lt other at ≡ below → is_unfinished one ≡ false
    by other one from is true test =
        let below : other < at = grind (arith, nat_tests) in
        sym (ap (λ (found : Option Client). option_map_or is_unfinished found false) is) ∙ none other from below
    by other one from is false test =
        let past : length held ≤ other = grind (arith, nat_tests) in
        let clash : ◌≡◌ {A = Option Client} (Some one) None = sym is ∙ stand.none other (slice_get_past held other past) in
        absurd (let never : ⊥ = cc in never)

-- ROUNDS ------------------------------------------------------------------------------------------

-- one meets the test where one is found
any_position : {A : Type 0} (test : A → Bool) (all : List A) → list_any test all ≡ is_some (position test all)
any_position test [] = refl
any_position {A} test (x ∷ xs) = by (test x) refl (any_position test xs)
  where
    counted_some : (found : Option ℕ) → is_some found ≡ is_some (counted found)
    counted_some None = refl
    counted_some (Some index) = refl

    by : (here : Bool) → test x ≡ here → list_any test xs ≡ is_some (position test xs) → list_any test (x ∷ xs) ≡ is_some (position test (x ∷ xs))
    by true is rest = or_left (test x) (list_any test xs) is ∙ sym (ap (λ (found : Option ℕ). is_some found) (position_cons test x xs true is))
    by false is rest =
        ap (λ (here : Bool). here || list_any test xs) is
        ∙ (rest ∙ (counted_some (position test xs) ∙ sym (ap (λ (found : Option ℕ). is_some found) (position_cons test x xs false is))))

-- and so where a first one is
any_first : {A : Type 0} (test : A → Bool) (all : List A) → list_any test all ≡ is_some (first_behind test 0 all)
any_first test all = any_position test all ∙ some_counted (position test all)
  where
    some_counted : (found : Option ℕ) → is_some found ≡ is_some (option_map (λ index. 0 + index + 1) found)
    some_counted None = refl
    some_counted (Some index) = refl

-- a round begins with its first client that is not finished
pub begins_round : (m : Machine) (found : Option ℕ) → found ≡ first_behind is_unfinished 0 m.clients → option_map (λ client. (event.Go client, AtClients client)) found ≡ next_round m
begins_round m None is = sym (ap (λ (any : Bool). if any then goes_or_serves m 0 else None) (any_first is_unfinished m.clients ∙ sym (ap (λ (f : Option ℕ). is_some f) is)))
begins_round m (Some client) is =
    sym (ap (λ (any : Bool). if any then goes_or_serves m 0 else None) (any_first is_unfinished m.clients ∙ sym (ap (λ (f : Option ℕ). is_some f) is))
    ∙ ap (λ (f : Option ℕ). option_map_or (λ number. Some (event.Go number, AtClients number)) f (serves_or_ticks m)) (sym is))
