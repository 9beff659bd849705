-- No value that a run gives to calls is one that was drawn outside: a run from outside draws anew,
-- in a session of its own.
use Rattle.std.proofs.Common.{◌≡◌, refl, sym, ap, ◌∙◌, arith, ℕ, ◌≤◌, ◌&&◌, ◌||◌, not, Bool, true, false, List, [], ◌∷◌, ◌⊎◌, inl, inr, if◌then◌else◌, zero, suc, subst, ◌++◌}
use Rattle.std.specs.Prelude.{flat_map, filter, slice_get, drop, Some}
use Rattle.std.specs.List.{list_all, list_any}
use Rattle.std.proofs.lemmas.Bool.{and_parts, and_from, or_cases, not-true, or_left, or_right}
use Rattle.std.proofs.lemmas.List.Folds.{list_any-append}
use Rattle.svc_values.specs.declared.draw.Draw.{Draw}
use Rattle.svc_values.specs.declared.entry.Entry.{Entry}
use Rattle.svc_values.specs.declared.entry.SessionId.{SessionId}
use Rattle.svc_values.specs.meaning.Identifiers.{same_session, session_of}
use Rattle.svc_values.specs.meaning.Same.{same_draw}
use Rattle.svc_values.specs.SameLaws.{same_draw_decides}
use Rattle.outage_schedule.specs.declared.document.Document.{Document}
use Rattle.outage_schedule.specs.declared.event.Event.{Event}
use Rattle.outage_schedule.specs.declared.item.Served.{Served}
use Rattle.outage_schedule.specs.declared.note.Note.{Note}
use Rattle.run_clauses.specs.Fresh.{is_given_again}
use Rattle.server_model.specs.meaning.Fresh.{is_single, draws_of}
use Rattle.server_model.specs.Items.{items_of}
use Rattle.server_model.specs.Laws.{RunsLegal, RunsFreshNew}
use Rattle.server_model.specs.meaning.Legal.{items_hold}
use Rattle.server_model.specs.Seen.{Seen}
use Rattle.server_model.specs.meaning.Walk.{walk_of}
use Rattle.world_model.specs.records.Basic.{sessions_of}
use Rattle.world_model.specs.Orderly.{Orderly}
use Rattle.world_model.specs.records.Number.{is_of_run, is_known}
use Rattle.invariant_laws.specs.Once.{Given, given, is_of_link, is_foreign, foreign_draws, none_foreign}
use Rattle.world_model.specs.Parts.{implies}
use Rattle.world_model.specs.Reached.{Reached}
use Rattle.world_model.specs.records.Ready.{all_requests_right}
use Rattle.world_model.specs.RunLaws.{RunsAreOrderly}
use Rattle.invariant_laws.specs.SameLaws.{RunsServe}
use Rattle.world_model.specs.Sames.{each_pair}
use Rattle.world_model.specs.Traced.{Traced}
use Rattle.fresh_laws.specs.ValueLaws.{ValuesAreOwn}
use Rattle.world_model.proofs.Offered.{at_all, by_index, same_session_is, session_self}
use Rattle.invariant_laws.proofs.Offered.{any_all, is_its}
use Rattle.fresh_laws.proofs.DrawnFor.{AreApart, drawn_for, drawn_apart, drawn_within, drawn_more, is_session, among}
use Rattle.once_laws.proofs.Offered.{times, times_both, some_time, time_some, Stands, Here, Later, From, from_one, some_first}
use Rattle.fresh_laws.proofs.OutsideEntries.{history_counts}
use Rattle.fresh_laws.proofs.OutsideGiven.{outside_told, answers_drawn}
use Rattle.fresh_laws.proofs.OutsidePlain.{reached_plain}
use Rattle.fresh_laws.proofs.OwnedValues.{inv, gained, entries, held, gained_is, once, all_firsts}

-- LISTS -------------------------------------------------------------------------------------------

all_stand : {A : Type 0} (test : A → Bool) (xs : List A) → ((x : A) → Stands x xs → test x ≡ true) → list_all test xs ≡ true
all_stand test [] each = refl
all_stand test (x ∷ xs) each = and_from (test x) (list_all test xs) (each x (Here xs)) (all_stand test xs (λ y at. each y (Later x xs at)))

any_again : (value : Draw) (draws : List Draw) → list_any (is_given_again value) draws ≡ true → (is_single value ≡ true) × (list_any (same_draw value) draws ≡ true)
any_again value [] any = absurd (let none : ⊥ = cc in none)
any_again value (draw ∷ draws) any = by (is_single value) (same_draw value draw) refl (or_cases (is_given_again value draw) (list_any (is_given_again value) draws) any) (any_again value draws)
  where
    by : (single same : Bool) → is_single value ≡ single → ((single && same) ≡ true) ⊎ (list_any (is_given_again value) draws ≡ true) → (list_any (is_given_again value) draws ≡ true → (is_single value ≡ true) × (list_any (same_draw value) draws ≡ true))
        → (single ≡ true) × ((same || list_any (same_draw value) draws) ≡ true)
    by true true is either again = (refl, refl)
    by true false is (inl here) again = absurd (let none : ⊥ = cc in none)
    by true false is (inr later) again = (refl, (again later).1)
    by false same is (inl here) again = absurd (let none : ⊥ = cc in none)
    by false same is (inr later) again = (sym is ∙ (again later).0, absurd (let never : false ≡ true = sym is ∙ (again later).0 in let none : ⊥ = cc in none))

-- what is among the draws of entries of this kind is known, if theirs are
any_entries : (known : Draw → Bool) (keep : Entry → Bool) (value : Draw) (entries : List Entry) → list_all (λ entry. implies (keep entry) (list_all known (draws_of entry))) entries ≡ true
    → list_any (same_draw value) (flat_map draws_of (filter keep entries)) ≡ true → known value ≡ true
any_entries known keep value [] all any = absurd (let none : ⊥ = cc in none)
any_entries known keep value (entry ∷ entries) all any = by (keep entry) parts.0 any (any_entries known keep value entries parts.1)
  where
    parts : (implies (keep entry) (list_all known (draws_of entry)) ≡ true) × (list_all (λ one. implies (keep one) (list_all known (draws_of one))) entries ≡ true)
    parts = and_parts (implies (keep entry) (list_all known (draws_of entry))) (list_all (λ one. implies (keep one) (list_all known (draws_of one))) entries) all

    here : (draws : List Draw) → list_all known draws ≡ true → list_any (same_draw value) draws ≡ true → known value ≡ true
    here draws all any = let found = any_all (same_draw value) known draws any all in ap known ((same_draw_decides value found.0).0 found.1.0) ∙ found.1.1

    by : (kept : Bool) → implies kept (list_all known (draws_of entry)) ≡ true → list_any (same_draw value) (flat_map draws_of (if kept then entry ∷ filter keep entries else filter keep entries)) ≡ true
        → (list_any (same_draw value) (flat_map draws_of (filter keep entries)) ≡ true → known value ≡ true) → known value ≡ true
    by false own any again = again any
    by true own any again =
        of (or_cases (list_any (same_draw value) (draws_of entry)) (list_any (same_draw value) (flat_map draws_of (filter keep entries))) (sym (list_any-append (same_draw value) (draws_of entry) (flat_map draws_of (filter keep entries))) ∙ any))
      where
        of : (list_any (same_draw value) (draws_of entry) ≡ true) ⊎ (list_any (same_draw value) (flat_map draws_of (filter keep entries)) ≡ true) → known value ≡ true
        of (inl first) = here (draws_of entry) own first
        of (inr later) = again later

-- each is known that is among them
all_known : (known : Draw → Bool) (draws : List Draw) → ((value : Draw) → list_any (same_draw value) draws ≡ true → known value ≡ true) → list_all known draws ≡ true
all_known known [] each = refl
all_known known (draw ∷ draws) each =
    and_from (known draw) (list_all known draws) (each draw (or_left (same_draw draw draw) (list_any (same_draw draw) draws) ((same_draw_decides draw draw).1 refl)))
    (all_known known draws (λ value any. each value (or_right (same_draw value draw) (list_any (same_draw value) draws) any)))

-- an entry of the session drew no more than all of its entries
entry_times : (session : SessionId) (value : Draw) (entries : List Entry) (index : ℕ) (entry : Entry) → slice_get entries index ≡ Some entry → is_its session entry ≡ true
    → times value (draws_of entry) ≤ times value (flat_map draws_of (filter (is_its session) entries))
entry_times session value [] index entry at own = absurd (let none : ⊥ = cc in none)
entry_times session value (first ∷ entries) zero entry at own =
    let equal : first ≡ entry = cc in
    let both = times_both value (draws_of first) (flat_map draws_of (filter (is_its session) entries)) in
    let test : is_its session first ≡ true = subst (λ (e : Entry). is_its session e ≡ true) (sym equal) own in
    let whole : times value (flat_map draws_of (filter (is_its session) (first ∷ entries))) ≡ times value (draws_of first ++ flat_map draws_of (filter (is_its session) entries)) =
    ap (λ (b : Bool). times value (flat_map draws_of (if b then first ∷ filter (is_its session) entries else filter (is_its session) entries))) test in
    let same : times value (draws_of entry) ≡ times value (draws_of first) = ap (λ (e : Entry). times value (draws_of e)) (sym equal) in
    omega (arith, both, whole, same)
entry_times session value (first ∷ entries) (suc index) entry at own = by (is_its session first) (entry_times session value entries index entry at own)
  where
    by : (test : Bool) → times value (draws_of entry) ≤ times value (flat_map draws_of (filter (is_its session) entries)) → times value (draws_of entry) ≤ times value (flat_map draws_of (if test then first ∷ filter (is_its session) entries else filter (is_its session) entries))
    by true most = let both = times_both value (draws_of first) (flat_map draws_of (filter (is_its session) entries)) in omega (arith, both, most)
    by false most = most

-- A RUN -------------------------------------------------------------------------------------------

module _ (orderly : RunsAreOrderly) (serve : RunsServe) (legal : RunsLegal) (fresh : RunsFreshNew) (document : Document) (events : List Event) (notes : List Note) (items : List Served) (seen : Seen) (t : Traced) (calls : all_requests_right document ≡ true)
    (reached : Reached document events notes items seen t) where
  abbrev pub new : List Entry
  new = gained orderly serve legal fresh document events notes items seen t calls reached

  abbrev pub drawn : (SessionId → Bool) → List Draw
  drawn some = drawn_for some seen.start (walk_of seen.start new) (items_of seen.history)

  abbrev pub so_far : Orderly t
  so_far = inv orderly serve legal fresh document events notes items seen t calls reached

  pub legal_so_far : items_hold seen.start (walk_of seen.start new) (items_of seen.history) ≡ true
  legal_so_far = held orderly serve legal fresh document events notes items seen t calls reached

  -- the sessions of connections are none of those outside
  kinds : AreApart (among (sessions_of t)) (among t.outside) (λ session. true)
  kinds = record {
    apart = λ session is.
        let none = (and_parts (each_pair (λ a b. not (same_session a b)) (sessions_of t)) _ so_far.basic.apart).1 in
        let found = any_all (same_session session) (λ s. not (list_any (same_session s) t.outside)) (sessions_of t) is none in
        ap (λ (s : SessionId). list_any (same_session s) t.outside) (same_session_is session found.0 found.1.0) ∙ not-true (list_any (same_session found.0) t.outside) found.1.1;
    one = λ session is. refl;
    other = λ session is. refl;
  }

  pub never_both : (value : Draw) → is_single value ≡ true → 1 ≤ times value (drawn (among (sessions_of t))) → 1 ≤ times value (drawn (among t.outside)) → ⊥
  never_both value single here there =
      let all = drawn_apart value (among (sessions_of t)) (among t.outside) (λ session. true) kinds seen.start (walk_of seen.start new) (items_of seen.history) in
      let within = drawn_within value (λ session. true) seen.start (walk_of seen.start new) (items_of seen.history) in
      let most = once orderly serve legal fresh document events notes items seen t calls reached value single in
      let never : ⊥ = omega (arith, here, there, all, within, most) in
      never

  -- a value that was given was drawn by a connection's session
  pub given_drawn : (one : Given) → Stands one (given t) → 1 ≤ times one.value (drawn (among (sessions_of t)))
  given_drawn one stands =
      let came : From (given t) one.value one = from_one (given t) one.value one stands ((same_draw_decides one.value one.value).1 refl) in
      let some = some_first (given t) one.value came.one (given t) came.stands came.first in
      let most = all_firsts orderly serve legal fresh document events notes items seen t calls reached one.value in
      omega (arith, some, most)

  -- what was drawn outside was drawn by a session there
  outside_drawn : (value : Draw) → list_any (same_draw value) t.outside_draws ≡ true → 1 ≤ times value (drawn (among t.outside))
  outside_drawn value any =
      let some = some_time value t.outside_draws any in
      let told = outside_told value document events notes items seen t reached in
      let drew = answers_drawn value seen.start (among t.outside) seen.history (walk_of seen.start new) 0 legal_so_far in
      omega (arith, some, told, drew)

  abbrev known : Draw → Bool
  known value = list_any (same_draw value) (drawn (among t.outside))

  -- so was what an entry of such a session drew
  entry_drawn : (index : ℕ) (entry : Entry) → slice_get new index ≡ Some entry → implies (is_foreign t entry) (list_all known (draws_of entry)) ≡ true
  entry_drawn index entry at = by (is_of_link t entry) refl
    where
      session : SessionId
      session = session_of entry.ltxid

      of_run : is_of_run t entry ≡ true
      of_run =
          at_all (is_of_run t) new index entry
          (sym (ap (list_all (is_of_run t)) (gained_is orderly serve legal fresh document events notes items seen t calls reached))
          ∙ (and_parts (list_all (λ one. is_known t (session_of one.ltxid)) t.entries) (list_all (is_of_run t) (drop t.image t.entries)) so_far.number.known).1) at

      own : among t.outside (session_of entry.ltxid) ≡ true → list_all known (draws_of entry) ≡ true
      own outside =
          all_known known (draws_of entry) (λ value any.
          let some = some_time value (draws_of entry) any in
          let stored = entry_times (session_of entry.ltxid) value new index entry at (session_self (session_of entry.ltxid)) in
          let most = history_counts seen.start (session_of entry.ltxid) value seen.history (walk_of seen.start new) 0 legal_so_far (reached_plain orderly document events notes items seen t calls reached (session_of entry.ltxid) outside) in
          let more = drawn_more value (is_session (session_of entry.ltxid)) (among t.outside) (λ other is. ap (among t.outside) (same_session_is other (session_of entry.ltxid) is) ∙ outside) seen.start (walk_of seen.start new) (items_of seen.history) in
          time_some value (drawn (among t.outside)) (omega (arith, some, stored, most, more)))

      by : (link : Bool) → is_of_link t entry ≡ link → implies (not link) (list_all known (draws_of entry)) ≡ true
      by true is = refl
      by false is = own (sym (ap (λ (test : Bool). test || among t.outside (session_of entry.ltxid)) is) ∙ of_run)

  entries_drawn : (value : Draw) → list_any (same_draw value) (flat_map draws_of (filter (is_foreign t) (drop t.image t.entries))) ≡ true → 1 ≤ times value (drawn (among t.outside))
  entries_drawn value any =
      some_time value (drawn (among t.outside))
      (any_entries known (is_foreign t) value new (by_index (λ entry. implies (is_foreign t entry) (list_all known (draws_of entry))) new entry_drawn)
      (sym (ap (λ (list : List Entry). list_any (same_draw value) (flat_map draws_of (filter (is_foreign t) list))) (gained_is orderly serve legal fresh document events notes items seen t calls reached)) ∙ any))

  foreign_drawn : (value : Draw) → list_any (same_draw value) (foreign_draws t) ≡ true → 1 ≤ times value (drawn (among t.outside))
  foreign_drawn value any =
      by (or_cases (list_any (same_draw value) t.outside_draws) (list_any (same_draw value) (flat_map draws_of (filter (is_foreign t) (drop t.image t.entries))))
      (sym (list_any-append (same_draw value) t.outside_draws (flat_map draws_of (filter (is_foreign t) (drop t.image t.entries)))) ∙ any))
    where
      by : (list_any (same_draw value) t.outside_draws ≡ true) ⊎ (list_any (same_draw value) (flat_map draws_of (filter (is_foreign t) (drop t.image t.entries))) ≡ true) → 1 ≤ times value (drawn (among t.outside))
      by (inl outside) = outside_drawn value outside
      by (inr stored) = entries_drawn value stored

  none_is_foreign : none_foreign t ≡ true
  none_is_foreign = all_stand (λ one. not (list_any (is_given_again one.value) (foreign_draws t))) (given t) (λ one stands. each one stands (list_any (is_given_again one.value) (foreign_draws t)) refl)
    where
      each : (one : Given) → Stands one (given t) → (any : Bool) → list_any (is_given_again one.value) (foreign_draws t) ≡ any → not any ≡ true
      each one stands false is = refl
      each one stands true is = let again = any_again one.value (foreign_draws t) is in absurd (never_both one.value again.0 (given_drawn one stands) (foreign_drawn one.value again.1))

pub values_own : RunsAreOrderly → RunsServe → RunsLegal → RunsFreshNew → ValuesAreOwn
values_own orderly serve legal fresh document events notes items seen t calls reached = none_is_foreign orderly serve legal fresh document events notes items seen t calls reached
