-- No two entries have one identifier, and those of one transaction of a request are at most one.
use Rattle.std.proofs.Common.{◌≡◌, refl, sym, ap, subst, ◌∙◌, Bool, true, false, ℕ, suc, zero, ◌+◌, ◌≤◌, ◌&&◌, ◌||◌, cond, length, List, [], ◌∷◌, ◌⊎◌, inl, inr, if◌then◌else◌, arith}
use Rattle.std.specs.Prelude.{◌==◌, not, nat_le, flat_map}
use Rattle.std.specs.Cmp.Lexicographic.{pointwise}
use Rattle.std.specs.List.{list_all, list_any}
use Rattle.std.proofs.lemmas.Bool.{and_parts, and_from, or_cases, or_left, or_right, not-true, not_from_false}
use Rattle.commit_log.specs.Keeping.{EachKeeps}
use Rattle.svc_values.specs.declared.entry.Entry.{Entry}
use Rattle.svc_values.specs.declared.entry.Ltxid.{Ltxid}
use Rattle.svc_values.specs.meaning.Identifiers.{is_of_session, same_ltxid, session_of}
use Rattle.svc_values.specs.SameLaws.{same_ltxid_decides}
use Rattle.outage_schedule.specs.declared.request.ShownCall.{ShownCall}
use Rattle.client_model.specs.meaning.Tried.{Trying, trying_of, tried_in, tried_upto}
use Rattle.run_clauses.specs.meaning.EntryEvents.{entries_of}
use Rattle.run_clauses.specs.meaning.Once.{entries_differ, entries_in}
use Rattle.run_clauses.specs.meaning.Tried.{holds, ids_tried}
use Rattle.server_model.specs.Laws.{EntryNumbers}
use Rattle.invariant_laws.specs.KeptLaws.{IsKeptOfAll}
use Rattle.world_model.specs.records.Number.{entries_numbered, none_blocked, numbered_after}
use Rattle.invariant_laws.specs.Once.{all_but_last, earlier_settled, is_noted, is_open_or_committed, is_settled, later_settled, note_sendings, notes_sendings, tell_tried, tells_tried, transaction_at, transactions_have_one}
use Rattle.world_model.specs.Parts.{Sending, commit_sendings, scan_of, sendings_of}
use Rattle.world_model.specs.Reached.{traced_start}
use Rattle.world_model.specs.meaning.Settings.{setting_of}
use Rattle.world_model.specs.Traced.{Traced, Course, courses_of}
use Rattle.world_model.specs.Words.{dones_of}
use Rattle.world_model.proofs.Offered.{weaker_all, entries_law, unblocked_law, resting_none, implied, entries_cons, numbered_parts, eq_from, le_to, not_both, session_self}
use Rattle.invariant_laws.proofs.losses.AskedNear.{any_all}
use Rattle.invariant_laws.proofs.entries.KeptNoted.{noted_law}
use Rattle.invariant_laws.proofs.sendings.KeptSettled.{settled_law}
use Rattle.invariant_laws.proofs.entries.KeptTried.{tried_law}
use Rattle.invariant_laws.proofs.losses.LostKept.{both_all}
use Rattle.invariant_laws.proofs.entries.NotedLists.{one_part}
use Rattle.invariant_laws.proofs.entries.NotedParts.{lists_told}
use Rattle.invariant_laws.proofs.entries.OverLists.{sent_tried}
use Rattle.invariant_laws.proofs.sendings.SettledLists.{is_later, later_all}
use Rattle.invariant_laws.proofs.entries.TriedApart.{false_by, is_under, lists_of, tried_sent, under_at, holds_append}

not_to : (test : Bool) → (test ≡ true → ⊥) → not test ≡ true
not_to test never = not_from_false test (false_by test never)

-- IDENTIFIERS -------------------------------------------------------------------------------------

-- what is there behind these has a number from theirs on
least_number : (before entries : List Entry) (x : Ltxid) → numbered_after before entries ≡ true → list_any (λ other. same_ltxid x other.ltxid) entries ≡ true → entries_of before (session_of x) ≤ x.number
least_number before [] x numbered any = absurd (let none : ⊥ = cc in none)
least_number before (entry ∷ rest) x numbered any = by (or_cases (same_ltxid x entry.ltxid) (list_any (λ other. same_ltxid x other.ltxid) rest) any) (least_number (entry ∷ before) rest x parts.1)
  where
    parts : (entry.ltxid.number ≡ entries_of before (session_of entry.ltxid)) × (numbered_after (entry ∷ before) rest ≡ true)
    parts = numbered_parts before rest entry numbered

    by : (same_ltxid x entry.ltxid ≡ true) ⊎ (list_any (λ other. same_ltxid x other.ltxid) rest ≡ true) → (list_any (λ other. same_ltxid x other.ltxid) rest ≡ true → entries_of (entry ∷ before) (session_of x) ≤ x.number) → entries_of before (session_of x) ≤ x.number
    by (inl same) again =
        let here : entry.ltxid.number ≡ entries_of before (session_of entry.ltxid) = parts.0 in
        let is : x ≡ entry.ltxid = (same_ltxid_decides x entry.ltxid).0 same in
        let count : entries_of before (session_of x) ≡ entries_of before (session_of entry.ltxid) = ap (λ (y : Ltxid). entries_of before (session_of y)) is in
        let number : x.number ≡ entry.ltxid.number = ap (λ (y : Ltxid). y.number) is in
        omega (arith, here, count, number)
    by (inr later) again =
        let most : entries_of (entry ∷ before) (session_of x) ≤ x.number = again later in
        let count : entries_of (entry ∷ before) (session_of x) ≡ cond (is_of_session (session_of x) entry.ltxid) 1 0 + entries_of before (session_of x) = entries_cons entry before (session_of x) in
        omega (arith, most, count)

pub numbered_differ : (before entries : List Entry) → numbered_after before entries ≡ true → entries_differ entries ≡ true
numbered_differ before [] numbered = refl
numbered_differ before (entry ∷ rest) numbered =
    let parts = numbered_parts before rest entry numbered in
    and_from (not (list_any (λ other. same_ltxid entry.ltxid other.ltxid) rest)) (entries_differ rest)
    (not_to (list_any (λ other. same_ltxid entry.ltxid other.ltxid) rest) (λ again.
    let most : entries_of (entry ∷ before) (session_of entry.ltxid) ≤ entry.ltxid.number = least_number (entry ∷ before) rest entry.ltxid parts.1 again in
    let count : entries_of (entry ∷ before) (session_of entry.ltxid) ≡ cond (is_of_session (session_of entry.ltxid) entry.ltxid) 1 0 + entries_of before (session_of entry.ltxid) = entries_cons entry before (session_of entry.ltxid) in
    let own : ◌≡◌ {A = ℕ} (cond (is_of_session (session_of entry.ltxid) entry.ltxid) 1 0) 1 = ap (λ (test : Bool). cond test 1 0) (session_self (session_of entry.ltxid)) in
    let number : entry.ltxid.number ≡ entries_of before (session_of entry.ltxid) = parts.0 in
    let never : ⊥ = omega (arith, most, count, own, number) in
    never)) (numbered_differ (entry ∷ before) rest parts.1)

-- ONE TRANSACTION ---------------------------------------------------------------------------------

module _ (t : Traced) (shown : List ShownCall) (k : ℕ) where
  abbrev pub in_this : ℕ → Bool
  in_this at = transaction_at shown at == k

  -- one that is later is settled: it is not open, or it is blocked
  never_later : (x : Ltxid) (list : List Sending) → holds t.blocked x ≡ false → later_settled t shown k list ≡ true → list_any (under_at in_this x) list ≡ true → ⊥
  never_later x list free later any =
      let found = any_all (under_at in_this x) (is_later t shown k) list any (sym (later_all t shown k list) ∙ later) in
      let one = and_parts (in_this found.0.at) (is_under x found.0) found.1.0 in
      let two = and_parts (is_open_or_committed found.0) (same_ltxid x found.0.ltxid) one.1 in
      by found.0 (is_open_or_committed found.0) (holds t.blocked found.0.ltxid) two.0 (ap (holds t.blocked) (sym ((same_ltxid_decides x found.0.ltxid).0 two.1)) ∙ free) (implied (in_this found.0.at) (is_settled t found.0) one.0 found.1.1)
    where
      by : (s : Sending) (is_open held : Bool) → is_open ≡ true → held ≡ false → (not is_open || held) ≡ true → ⊥
      by s true true is free here = let none : ⊥ = cc in none
      by s true false is free here = let none : ⊥ = cc in none
      by s false held is free here = let none : ⊥ = cc in none

  -- so those that are not are under one identifier
  pub one_id : (x y : Ltxid) (list : List Sending) → holds t.blocked x ≡ false → holds t.blocked y ≡ false → all_but_last t shown list ≡ true → list_any (under_at in_this x) list ≡ true → list_any (under_at in_this y) list ≡ true → x ≡ y
  one_id x y [] free_x free_y settled any_x any_y = absurd (let none : ⊥ = cc in none)
  one_id x y (s ∷ list) free_x free_y settled any_x any_y =
      by (or_cases (under_at in_this x s) (list_any (under_at in_this x) list) any_x) (or_cases (under_at in_this y s) (list_any (under_at in_this y) list) any_y) (one_id x y list free_x free_y parts.1)
    where
      parts : (later_settled t shown (transaction_at shown s.at) list ≡ true) × (all_but_last t shown list ≡ true)
      parts = and_parts (later_settled t shown (transaction_at shown s.at) list) (all_but_last t shown list) settled

      later : (z : Ltxid) → under_at in_this z s ≡ true → later_settled t shown k list ≡ true
      later z here = subst (λ (n : ℕ). later_settled t shown n list ≡ true) (eq_from (transaction_at shown s.at) k (and_parts (in_this s.at) (is_under z s) here).0) parts.0

      named : (z : Ltxid) → under_at in_this z s ≡ true → z ≡ s.ltxid
      named z here = (same_ltxid_decides z s.ltxid).0 (and_parts (is_open_or_committed s) (same_ltxid z s.ltxid) (and_parts (in_this s.at) (is_under z s) here).1).1

      by : (under_at in_this x s ≡ true) ⊎ (list_any (under_at in_this x) list ≡ true) → (under_at in_this y s ≡ true) ⊎ (list_any (under_at in_this y) list ≡ true)
          → (list_any (under_at in_this x) list ≡ true → list_any (under_at in_this y) list ≡ true → x ≡ y) → x ≡ y
      by (inl one) (inl other) again = named x one ∙ sym (named y other)
      by (inl one) (inr other) again = absurd (never_later y list free_y (later x one) other)
      by (inr one) (inl other) again = absurd (never_later x list free_x (later y other) one)
      by (inr one) (inr other) again = again one other

  module _ (list : List Sending) (settled : all_but_last t shown list ≡ true) (ids : List Ltxid) (sent : (x : Ltxid) → holds ids x ≡ true → list_any (under_at in_this x) list ≡ true) where
    abbrev is_free : Entry → Bool
    is_free entry = not (holds t.blocked entry.ltxid)

    free_is : (entry : Entry) → is_free entry ≡ true → holds t.blocked entry.ltxid ≡ false
    free_is entry free = not-true (holds t.blocked entry.ltxid) free

    none_more : (entry : Entry) (rest : List Entry) → is_free entry ≡ true → holds ids entry.ltxid ≡ true → not (list_any (λ other. same_ltxid entry.ltxid other.ltxid) rest) ≡ true → list_all is_free rest ≡ true → entries_in rest ids ≡ []
    none_more entry [] free here differ all = refl
    none_more entry (other ∷ rest) free here differ all =
        by (holds ids other.ltxid) refl
        (none_more entry rest free here (not_to (list_any (λ one. same_ltxid entry.ltxid one.ltxid) rest) (λ any. not_both (same_ltxid entry.ltxid other.ltxid || list_any (λ one. same_ltxid entry.ltxid one.ltxid) rest) (or_right (same_ltxid entry.ltxid other.ltxid) (list_any (λ one. same_ltxid entry.ltxid one.ltxid) rest) any) (not-true (same_ltxid entry.ltxid other.ltxid || list_any (λ one. same_ltxid entry.ltxid one.ltxid) rest) differ))) parts.1)
      where
        parts : (is_free other ≡ true) × (list_all is_free rest ≡ true)
        parts = and_parts (is_free other) (list_all is_free rest) all

        by : (test : Bool) → holds ids other.ltxid ≡ test → entries_in rest ids ≡ [] → (if test then other ∷ entries_in rest ids else entries_in rest ids) ≡ []
        by false is none = none
        by true is none =
            let same : entry.ltxid ≡ other.ltxid = one_id entry.ltxid other.ltxid list (free_is entry free) (free_is other parts.0) settled (sent entry.ltxid here) (sent other.ltxid is) in
            absurd (not_both (same_ltxid entry.ltxid other.ltxid || list_any (λ one. same_ltxid entry.ltxid one.ltxid) rest)
            (or_left (same_ltxid entry.ltxid other.ltxid) (list_any (λ one. same_ltxid entry.ltxid one.ltxid) rest) ((same_ltxid_decides entry.ltxid other.ltxid).1 same))
            (not-true (same_ltxid entry.ltxid other.ltxid || list_any (λ one. same_ltxid entry.ltxid one.ltxid) rest) differ))

    pub few_in : (entries : List Entry) → entries_differ entries ≡ true → list_all is_free entries ≡ true → length (entries_in entries ids) ≤ 1
    few_in [] differ all = omega arith
    few_in (entry ∷ rest) differ all = by (holds ids entry.ltxid) refl (few_in rest differ_so.1 parts.1)
      where
        parts : (is_free entry ≡ true) × (list_all is_free rest ≡ true)
        parts = and_parts (is_free entry) (list_all is_free rest) all

        differ_so : (not (list_any (λ other. same_ltxid entry.ltxid other.ltxid) rest) ≡ true) × (entries_differ rest ≡ true)
        differ_so = and_parts (not (list_any (λ other. same_ltxid entry.ltxid other.ltxid) rest)) (entries_differ rest) differ

        by : (test : Bool) → holds ids entry.ltxid ≡ test → length (entries_in rest ids) ≤ 1 → length (if test then entry ∷ entries_in rest ids else entries_in rest ids) ≤ 1
        by false is most = most
        by true is most = let none : length (entries_in rest ids) ≡ 0 = ap length (none_more entry rest parts.0 is differ_so.0 parts.1) in omega (arith, none)

-- A REQUEST ---------------------------------------------------------------------------------------

module _ (course : Course) (tells : tells_tried course ≡ true) (notes : notes_sendings course ≡ true) where
  abbrev trying : Trying
  trying = trying_of (dones_of course.steps)

  abbrev calls : List ShownCall
  calls = course.report.calls

  agrees : ((trying.over == transaction_at calls (length calls)) ≡ true) × (pointwise (is_noted calls) trying.sendings (sendings_of course) ≡ true)
  agrees = and_parts (trying.over == transaction_at calls (length calls)) _ (and_parts ((scan_of course).shown == length calls) _ notes).1

  -- its lists are those that it noted, transaction by transaction
  pub lists_are : course.report.tried ≡ tried_upto (suc trying.over) 0 trying.sendings
  lists_are =
      lists_of course tells
      ∙ sym (lists_told calls trying.sendings (sendings_of course) agrees.1 trying.over (eq_from trying.over (transaction_at calls (length calls)) agrees.0))

  -- what stands in one is of its sendings
  pub list_sent : (k : ℕ) (x : Ltxid) → holds (tried_in k trying.sendings) x ≡ true → list_any (under_at (λ at. transaction_at calls at == k) x) (commit_sendings course) ≡ true
  list_sent k x here =
      tried_sent x (λ at. transaction_at calls at == k) (sendings_of course)
      (subst (λ (ids : List Ltxid). holds ids x ≡ true) (one_part calls trying.sendings (sendings_of course) agrees.1 k (λ at. transaction_at calls at == k) (λ at. refl)) here)

  -- and what is of these stands there
  pub sent_list : (k : ℕ) (x : Ltxid) → list_any (under_at (λ at. transaction_at calls at == k) x) (commit_sendings course) ≡ true → holds (tried_in k trying.sendings) x ≡ true
  sent_list k x any =
      subst (λ (ids : List Ltxid). holds ids x ≡ true) (sym (one_part calls trying.sendings (sendings_of course) agrees.1 k (λ at. transaction_at calls at == k) (λ at. refl)))
      (sent_tried x (λ at. transaction_at calls at == k) (sendings_of course) any)

  -- what stands in any of them
  pub ids_sent : (x : Ltxid) → holds (ids_tried course.report) x ≡ true → (k : ℕ) × (list_any (under_at (λ at. transaction_at calls at == k) x) (commit_sendings course) ≡ true)
  ids_sent x here = upto (suc trying.over) 0 (ap (λ (lists : List (List Ltxid)). holds (flat_map (λ ids. ids) lists) x) (sym lists_are) ∙ here)
    where
      upto : (left from : ℕ) → holds (flat_map (λ ids. ids) (tried_upto left from trying.sendings)) x ≡ true → (k : ℕ) × (list_any (under_at (λ at. transaction_at calls at == k) x) (commit_sendings course) ≡ true)
      upto zero from held = absurd (let none : ⊥ = cc in none)
      upto (suc left) from held =
          by (or_cases (holds (tried_in from trying.sendings) x) (holds (flat_map (λ ids. ids) (tried_upto left (suc from) trying.sendings)) x) (sym (holds_append (tried_in from trying.sendings) (flat_map (λ ids. ids) (tried_upto left (suc from) trying.sendings)) x) ∙ held))
          (upto left (suc from))
        where
          by : (holds (tried_in from trying.sendings) x ≡ true) ⊎ (holds (flat_map (λ ids. ids) (tried_upto left (suc from) trying.sendings)) x ≡ true)
              → (holds (flat_map (λ ids. ids) (tried_upto left (suc from) trying.sendings)) x ≡ true → (k : ℕ) × (list_any (under_at (λ at. transaction_at calls at == k) x) (commit_sendings course) ≡ true))
              → (k : ℕ) × (list_any (under_at (λ at. transaction_at calls at == k) x) (commit_sendings course) ≡ true)
          by (inl mine) again = (from, list_sent from x mine)
          by (inr later) again = again later

  pub over_is : trying.over ≡ transaction_at calls (length calls)
  over_is = eq_from trying.over (transaction_at calls (length calls)) agrees.0

  pub each_list : (test : List Ltxid → Bool) → ((k : ℕ) → test (tried_in k trying.sendings) ≡ true) → list_all test course.report.tried ≡ true
  each_list test one = ap (list_all test) lists_are ∙ upto (suc trying.over) 0
    where
      upto : (left from : ℕ) → list_all test (tried_upto left from trying.sendings) ≡ true
      upto zero from = refl
      upto (suc left) from = and_from (test (tried_in from trying.sendings)) (list_all test (tried_upto left (suc from) trying.sendings)) (one from) (upto left (suc from))

pub have_one : (t : Traced) → earlier_settled t ≡ true → tell_tried t ≡ true → note_sendings t ≡ true → none_blocked t ≡ true → entries_numbered t ≡ true → transactions_have_one t ≡ true
have_one t settled tells notes unblocked numbered =
    weaker_all (λ course. all_but_last t course.report.calls (commit_sendings course) && (tells_tried course && notes_sendings course)) (λ course. list_all (λ ids. nat_le (length (entries_in t.entries ids)) 1) course.report.tried) (courses_of t) one
    (both_all (λ course. all_but_last t course.report.calls (commit_sendings course)) (λ course. tells_tried course && notes_sendings course) (courses_of t) settled (both_all tells_tried notes_sendings (courses_of t) tells notes))
  where
    one : (course : Course) → (all_but_last t course.report.calls (commit_sendings course) && (tells_tried course && notes_sendings course)) ≡ true → list_all (λ ids. nat_le (length (entries_in t.entries ids)) 1) course.report.tried ≡ true
    one course here =
        let parts = and_parts (all_but_last t course.report.calls (commit_sendings course)) (tells_tried course && notes_sendings course) here in
        let two = and_parts (tells_tried course) (notes_sendings course) parts.1 in
        each_list course two.0 two.1 (λ ids. nat_le (length (entries_in t.entries ids)) 1)
        (λ k.
        let ids : List Ltxid = tried_in k (trying_of (dones_of course.steps)).sendings in
        le_to (length (entries_in t.entries ids)) 1
        (few_in t course.report.calls k (commit_sendings course) parts.0 ids (list_sent course two.0 two.1 k) t.entries (numbered_differ [] t.entries numbered) unblocked))

pub one_law : EachKeeps → EntryNumbers → IsKeptOfAll transactions_have_one
one_law keeps numbers = record {
  at_start = λ document. resting_none (setting_of document) 1 (λ course. list_all (λ ids. nat_le (length (entries_in (traced_start document).entries ids)) 1) course.report.tried) document.clients;
  at_event = λ before after old new event note items left one inv.
      have_one new ((settled_law keeps numbers).at_event before after old new event note items left one inv) (tried_law.at_event before after old new event note items left one inv)
      (noted_law.at_event before after old new event note items left one inv.orderly inv.once.noted) ((unblocked_law keeps).at_event before after old new event note items left one inv.orderly)
      ((entries_law keeps).at_event before after old new event note items left one inv.orderly);
}
