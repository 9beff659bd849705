-- All clients stand for the machine's, from the start on and behind each event.
use Rattle.std.proofs.Common.{◌≡◌, ℕ, zero, suc, ◌+◌, ◌-◌, ◌<◌, ◌≤◌, false, List, [], ◌∷◌, ◌++◌, Option, Some, None, length, map, get_or, refl, sym, ap, subst, ◌∙◌, inl, inr, arith}
use Rattle.std.proofs.lemmas.List.{length-append, length-map}
use Rattle.std.proofs.lemmas.Option.{slice_get_past, slice_get_read, slice_get_within}
use Rattle.std.specs.Prelude.{◌⊎◌, slice_get, slice_set}
use Rattle.request_bounds.specs.meaning.Rules.{Rules}
use Rattle.client_model.specs.meaning.Terms.{Terms}
use Rattle.driver_core.specs.Driving.{StaysPast}
use Rattle.outage_schedule.specs.declared.document.Client.{Client as Script}
use Rattle.outage_schedule.specs.declared.document.Request.{Request}
use Rattle.outage_schedule.specs.declared.note.Note.{Note}
use Rattle.server_model.specs.Seen.{Seen}
use Rattle.world_model.specs.meaning.Clients.{Client, client_at, script_at, resting}
use Rattle.world_model.specs.meaning.Settings.{Setting, setting_of}
use Rattle.world_model.specs.Traced.{Traced}
use Rattle.world_model.proofs.Offered.{Rest, others_rest}
use Rattle.world_core.specs.declared.traffic.Traffic.{Traffic}
use Rattle.world_core.specs.Coursing.{Held, IsClient}
use Rattle.world_core.specs.Beside.{StandsFor, SomeBeside, StepMade, MakesStep}
use Rattle.world_core.specs.Among.{StandEach, StayEach, BeginEach, scripts_of, SomeAmong, StepAmong, MakesAmong}
use Rattle.world_core.proofs.Places.{set_length, slice_added, slice_changed, slice_other, slice_past, slice_same}

requests_at : (scripts : List Script) (index : ℕ) (script : Script) → slice_get scripts index ≡ Some script → get_or (scripts_of scripts) index [] ≡ script.requests
requests_at [] index script there = absurd (let none : ⊥ = cc in none)
requests_at (one ∷ scripts) zero script there = ap (λ (s : Script). s.requests) (let same : one ≡ script = cc in same)
requests_at (one ∷ scripts) (suc index) script there = requests_at scripts index script there

module _ (R : Type 0) (rules : R → Rules) where
  -- AN EVENT THAT NO CLIENT MAKES -----------------------------------------------------------------

  -- at a later tick
  later_client : StaysPast → (setting : Setting) (number tick later : ℕ) (held : Held R) (client : Client) → tick ≤ later → IsClient R rules setting number tick false held client → IsClient R rules setting number later false held client
  later_client past setting number tick later held client less is = record {
    beside = record {
      terms = is.beside.terms;
      past = is.beside.past;
      following = is.beside.following;
      next = is.beside.next;
      ticks = past held.driver.talk tick later is.beside.ticks less;
      gone = is.beside.gone;
    };
    now = is.now;
  }

  stands_later : StaysPast → (t next : Traced) (number : ℕ) (held : Held R) (client : Client) → next.setting ≡ t.setting → Rest t.machine next.machine → StandsFor R rules (script_at t.setting number) number held t client
      → StandsFor R rules (script_at next.setting number) number held next client
  stands_later past t next number held client setting rest is = record {
    scripted = refl;
    there = ap (λ (clients : List Client). client_at clients number) rest.0 ∙ is.there;
    stands = subst (λ (s : Setting). IsClient R rules s number next.machine.tick false held client) (sym setting) (later_client past t.setting number t.machine.tick next.machine.tick held client rest.1 is.stands);
    going = is.going;
  }

  pub stay_each : StaysPast → StayEach R rules
  stay_each past seen later t next event note items left held one other stand =
      let rest : Rest t.machine next.machine = others_rest t.setting t.machine next.machine event note items left other one.follows in
      record {
        many = stand.many ∙ ap (λ (s : Setting). length s.scripts) (sym one.setting);
        each = λ index kept is. let of = stand.each index kept is in (of.0, stands_later past t next (suc index) kept of.0 one.setting rest of.1);
        none = λ index is. ap (λ (clients : List Client). client_at clients (suc index)) rest.0 ∙ stand.none index is;
      }

  -- A STEP OF ONE ---------------------------------------------------------------------------------

  module _ (seen : Seen) (t : Traced) (note : Note) (sees_later : Seen → Type 0) (after : Traffic) (held : List (Held R)) (index : ℕ) (old new : Held R) (stand : StandEach R rules held t) (there : slice_get held index ≡ Some old)
      (step : StepMade R rules sees_later (script_at t.setting (suc index)) (suc index) after new seen t note) where
    -- by the same script
    resettled : (number : ℕ) (one : Held R) (client : Client) → StandsFor R rules (script_at t.setting number) number one step.later client → StandsFor R rules (script_at step.later.setting number) number one step.later client
    resettled number one client is = record { scripted = refl; there = is.there; stands = is.stands; going = is.going }

    each_then : (other : ℕ) (one : Held R) → slice_get (slice_set held index new) other ≡ Some one → (client : Client) × StandsFor R rules (script_at step.later.setting (suc other)) (suc other) one step.later client
    each_then other one is = by (slice_changed held index other old new one there is)
      where
        by : ((other ≡ index) × (new ≡ one)) ⊎ ((other ≡ index → ⊥) × (slice_get held other ≡ Some one)) → (client : Client) × StandsFor R rules (script_at step.later.setting (suc other)) (suc other) one step.later client
        by (inl (same, is)) = (
          step.client,
          subst (λ (place : ℕ). StandsFor R rules (script_at step.later.setting (suc place)) (suc place) one step.later step.client) (sym same)
              (subst (λ (kept : Held R). StandsFor R rules (script_at step.later.setting (suc index)) (suc index) kept step.later step.client) is (resettled (suc index) new step.client step.stands)),
        )
        by (inr (apart, before)) =
            let of = stand.each other one before in
            (of.0, resettled (suc other) one of.0 (step.others (suc other) (script_at t.setting (suc other)) one of.0 (λ same. apart (let less : other ≡ index = omega (arith, same) in less)) of.1))

    none_then : (other : ℕ) → slice_get (slice_set held index new) other ≡ None → client_at step.later.machine.clients (suc other) ≡ None
    none_then other is = step.same (suc other) (λ same. apart (let less : other ≡ index = omega (arith, same) in less)) ∙ stand.none other (sym (slice_other held index other new apart) ∙ is)
      where
        apart : other ≡ index → ⊥
        apart same =
            let clash : ◌≡◌ {A = Option (Held R)} (Some new) None = sym (slice_same held index old new there) ∙ ap (slice_get (slice_set held index new)) (sym same) ∙ is in
            let none : ⊥ = cc in
            none

    step_among : StepAmong R rules sees_later (suc index) after (slice_set held index new) seen t note
    step_among = record {
      seen_later = step.seen_later;
      later = step.later;
      made = step.made;
      forgets = step.forgets;
      place = step.place;
      stand = record {
        many = set_length held index new ∙ stand.many ∙ ap (λ (s : Setting). length s.scripts) (sym step.made.setting);
        each = each_then;
        none = none_then;
      };
    }

  -- AMONG ALL -------------------------------------------------------------------------------------

  -- by the script of its place
  script_is : (t : Traced) (scripts : List Script) (index : ℕ) (script : Script) → t.setting.scripts ≡ scripts_of scripts → slice_get scripts index ≡ Some script → script.requests ≡ script_at t.setting (suc index)
  script_is t scripts index script same there = sym (ap (λ (all : List (List Request)). get_or all index []) same ∙ requests_at scripts index script there)

  module _ (sees : Seen → Type 0) (scripts : List Script) (before : Traffic) (held : List (Held R)) (index : ℕ) (old : Held R) (script : Script) (there : slice_get held index ≡ Some old) (own : slice_get scripts index ≡ Some script) where
    -- it stands beside the others
    pub some_beside : SomeAmong R rules sees scripts before held → SomeBeside R rules sees script.requests (suc index) before old
    some_beside some =
        let of = some.stand.each index old there in
        record {
          seen = some.seen;
          traced = some.traced;
          client = of.0;
          place = some.place;
          stands = record { scripted = script_is some.traced scripts index script some.scripted own; there = of.1.there; stands = of.1.stands; going = of.1.going };
        }

    pub makes_among : (sees_later : Seen → Type 0) (after : Traffic) (new : Held R) (note : Note) → MakesStep R rules sees before sees_later after script.requests (suc index) old new note → MakesAmong R rules sees before sees_later after scripts (suc index) held (slice_set held index new) note
    makes_among sees_later after new note makes seen t is scripted stand =
        let of = stand.each index old there in
        let same : script.requests ≡ script_at t.setting (suc index) = script_is t scripts index script scripted own in
        step_among seen t note sees_later after held index old new stand there
        (subst (λ (one : List Request). StepMade R rules sees_later one (suc index) after new seen t note) same
        (makes seen t of.0 is (record { scripted = same; there = of.1.there; stands = of.1.stands; going = of.1.going })))

  module _ (sees : Seen → Type 0) (scripts : List Script) (before : Traffic) (held : List (Held R)) (number : ℕ) (old : Held R) (script : Script) (requests : List Request) (some : 0 < number) (within : number ≤ length scripts)
      (there : old ≡ get_or held (number - 1) old) (own : script ≡ get_or scripts (number - 1) script) (same : requests ≡ script.requests) where
    numbered : suc (number - 1) ≡ number
    numbered = omega (arith, some)

    held_there : (t : Traced) → t.setting.scripts ≡ scripts_of scripts → StandEach R rules held t → slice_get held (number - 1) ≡ Some old
    held_there t scripted stand =
        let many : length held ≡ length scripts = stand.many ∙ ap (λ (all : List (List Request)). length all) scripted ∙ length-map scripts (λ (one : Script). one.requests) in
        let less : number - 1 < length held = omega (arith, some, within, many) in
        slice_get_read held (length held) (number - 1) old refl less there

    script_there : slice_get scripts (number - 1) ≡ Some script
    script_there = let less : number - 1 < length scripts = omega (arith, some, within) in slice_get_read scripts (length scripts) (number - 1) script refl less own

    pub beside_number : SomeAmong R rules sees scripts before held → SomeBeside R rules sees requests number before old
    beside_number among =
        subst (λ (n : ℕ). SomeBeside R rules sees requests n before old) numbered
        (subst (λ (all : List Request). SomeBeside R rules sees all (suc (number - 1)) before old) (sym same)
        (some_beside sees scripts before held (number - 1) old script (held_there among.traced among.scripted among.stand) script_there among))

    pub makes_number : (sees_later : Seen → Type 0) (after : Traffic) (new : Held R) (note : Note) → MakesStep R rules sees before sees_later after requests number old new note
        → MakesAmong R rules sees before sees_later after scripts number held (slice_set held (number - 1) new) note
    makes_number sees_later after new note makes seen t is scripted stand =
        subst (λ (n : ℕ). StepAmong R rules sees_later n after (slice_set held (number - 1) new) seen t note) numbered
        (makes_among sees scripts before held (number - 1) old script (held_there t scripted stand) script_there sees_later after new note
        (subst (λ (n : ℕ). MakesStep R rules sees before sees_later after script.requests n old new note) (sym numbered)
        (subst (λ (all : List Request). MakesStep R rules sees before sees_later after all number old new note) same makes)) seen t is scripted stand)

  -- THE START -------------------------------------------------------------------------------------

  -- it submitted nothing yet
  abbrev pub IsFirst : Terms → List Request → Held R → Type 0
  IsFirst terms script held = (setting : Setting) (number tick : ℕ) → script ≡ script_at setting number → terms ≡ setting.terms → IsClient R rules setting number tick false held (resting (script_at setting number) [])

  -- the first so many of them
  pub record FirstFew (terms : Terms) (scripts : List Script) (many : ℕ) (held : List (Held R)) : Type 0 where
    pub count : length held ≡ many
    pub each : (index : ℕ) (one : Held R) → slice_get held index ≡ Some one → IsFirst terms (get_or (scripts_of scripts) index []) one

  pub one_first : (terms : Terms) (scripts : List Script) (many : ℕ) (held : List (Held R)) (next : Held R) → FirstFew terms scripts many held → IsFirst terms (get_or (scripts_of scripts) many []) next → FirstFew terms scripts (many + 1) (held ++ next ∷ [])
  one_first terms scripts many held next few first = record { count = length-append held (next ∷ []) ∙ ap (λ (n : ℕ). n + 1) few.count; each = λ index one is. by index one (slice_added held next index one is) }
    where
      by : (index : ℕ) (one : Held R) → (slice_get held index ≡ Some one) ⊎ ((index ≡ length held) × (next ≡ one)) → IsFirst terms (get_or (scripts_of scripts) index []) one
      by index one (inl before) = few.each index one before
      by index one (inr last) =
          subst (λ (place : ℕ). IsFirst terms (get_or (scripts_of scripts) place []) one) (sym (last.0 ∙ few.count))
          (subst (λ (kept : Held R). IsFirst terms (get_or (scripts_of scripts) many []) kept) last.1 first)

  pub first_read : (terms : Terms) (scripts : List Script) (index : ℕ) (script : Script) (requests : List Request) (one : Held R) → index < length scripts → script ≡ get_or scripts index script → requests ≡ script.requests → IsFirst terms requests one
      → IsFirst terms (get_or (scripts_of scripts) index []) one
  first_read terms scripts index script requests one within there same = subst (λ (all : List Request). IsFirst terms all one) (same ∙ sym (requests_at scripts index script (slice_get_read scripts (length scripts) index script refl within there)))

  resting_at : (clients : List Script) (index : ℕ) → index < length clients → slice_get (map (λ (client : Script). resting client.requests []) clients) index ≡ Some (resting (get_or (scripts_of clients) index []) [])
  resting_at [] index within = absurd (let none : ⊥ = omega (arith, within) in none)
  resting_at (one ∷ clients) zero within = refl
  resting_at (one ∷ clients) (suc index) within = resting_at clients index (let less : index < length clients = omega (arith, within) in less)

  pub begin_each : (terms : Terms) (scripts : List Script) (held : List (Held R)) → FirstFew terms scripts (length scripts) held → BeginEach R rules terms scripts held
  begin_each terms scripts held few document same goes = record {
    many = few.count ∙ ap (λ (all : List Script). length all) same ∙ sym (length-map document.clients (λ (client : Script). client.requests));
    each = λ index one is.
        let within : index < length document.clients = subst (λ (n : ℕ). index < n) (few.count ∙ ap (λ (all : List Script). length all) same) (slice_get_within held index one is) in (
          resting (get_or (scripts_of document.clients) index []) [],
          record {
            scripted = refl;
            there = resting_at document.clients index within;
            stands = few.each index one is (setting_of document) (suc index) 0 (ap (λ (all : List Script). get_or (scripts_of all) index []) same) goes;
            going = refl;
          },
        );
    none = λ index is.
        let past : length document.clients ≤ index = subst (λ (n : ℕ). n ≤ index) (few.count ∙ ap (λ (all : List Script). length all) same) (slice_past held index is) in
        slice_get_past (map (λ (client : Script). resting client.requests []) document.clients) index (subst (λ (n : ℕ). n ≤ index) (sym (length-map document.clients (λ (client : Script). resting client.requests []))) past);
  }
