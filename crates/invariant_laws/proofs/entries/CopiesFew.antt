-- The entries of a request that is one transaction: it has one at most, and none where it ended in
-- an error with which it is submitted again.
use Rattle.std.proofs.Common.{◌≡◌, refl, sym, ap, subst, ◌∙◌, Bool, true, false, ℕ, suc, zero, ◌+◌, ◌-◌, ◌≤◌, ◌<◌, ◌&&◌, ◌||◌, length, List, [], ◌∷◌, count_by, Option, Some, None, if◌then◌else◌, arith}
use Rattle.std.specs.Prelude.{◌==◌, not, slice_get, is_some}
use Rattle.std.specs.List.{list_all, list_any}
use Rattle.std.specs.Option.{option_map_or}
use Rattle.std.proofs.lemmas.Bool.{and_parts, and_from}
use Rattle.std.proofs.lemmas.List.{take_all}
use Rattle.std.proofs.lemmas.Option.{slice_get_within}
use Rattle.svc_values.specs.declared.call.Call.{Call}
use Rattle.svc_values.specs.declared.call.Call.TheVariants as call
use Rattle.svc_values.specs.declared.entry.Entry.{Entry}
use Rattle.svc_values.specs.declared.entry.Ltxid.{Ltxid}
use Rattle.svc_values.specs.meaning.Calls.{has_commit}
use Rattle.svc_values.specs.meaning.Endings.{ends_transaction}
use Rattle.svc_values.specs.meaning.Same.{same_call}
use Rattle.svc_values.specs.SameLaws.{same_call_decides}
use Rattle.outage_schedule.specs.declared.failure.Failure.{Failure}
use Rattle.outage_schedule.specs.declared.failure.Failure.TheVariants as failure
use Rattle.outage_schedule.specs.declared.request.ShownCall.{ShownCall}
use Rattle.client_model.specs.meaning.Tried.{Trying, trying_of, tried_in}
use Rattle.run_clauses.specs.meaning.Copies.{may_be_repeated}
use Rattle.run_clauses.specs.meaning.Once.{committed_has_one, count_in, dropped_has_none, entries_differ, entries_in, last_ends, may_end, request_ends}
use Rattle.run_clauses.specs.meaning.Transactions.{Txn, txns, with_tried}
use Rattle.run_clauses.specs.meaning.Tried.{holds, ids_tried}
use Rattle.invariant_laws.specs.Once.{all_but_last, ends_so, is_placed, notes_sendings, tells_tried, transaction_at}
use Rattle.world_model.specs.Parts.{Sending, commit_sendings, sendings_of}
use Rattle.world_model.specs.records.Ready.{is_inside, is_one_transaction}
use Rattle.world_model.specs.Traced.{Traced, Course}
use Rattle.world_model.specs.Words.{dones_of, held_in}
use Rattle.world_model.proofs.Offered.{filter_passes, any_with, eq_from, eq_to}
use Rattle.invariant_laws.proofs.sendings.ApartSteps.{commits}
use Rattle.invariant_laws.proofs.entries.EntriesFew.{few_in, ids_sent, lists_are, over_is, sent_list}
use Rattle.invariant_laws.proofs.losses.LostKept.{both_all}
use Rattle.invariant_laws.proofs.entries.TransactionParts.{last_txn}
use Rattle.invariant_laws.proofs.entries.TriedApart.{is_under, under_at}

-- LISTS -------------------------------------------------------------------------------------------

-- under fewer identifiers there are no more entries
fewer_in : (ids more : List Ltxid) → ((x : Ltxid) → holds ids x ≡ true → holds more x ≡ true) → (entries : List Entry) → length (entries_in entries ids) ≤ length (entries_in entries more)
fewer_in ids more among [] = omega arith
fewer_in ids more among (entry ∷ entries) = by (holds ids entry.ltxid) (holds more entry.ltxid) refl refl (fewer_in ids more among entries)
  where
    by : (one other : Bool) → holds ids entry.ltxid ≡ one → holds more entry.ltxid ≡ other → length (entries_in entries ids) ≤ length (entries_in entries more)
        → length (if one then entry ∷ entries_in entries ids else entries_in entries ids) ≤ length (if other then entry ∷ entries_in entries more else entries_in entries more)
    by true true is so few = omega (arith, few)
    by false true is so few = omega (arith, few)
    by false false is so few = few
    by true false is so few = absurd (let never : true ≡ false = sym (among entry.ltxid is) ∙ so in let none : ⊥ = cc in none)

-- ONE TRANSACTION ---------------------------------------------------------------------------------

inside_not : (one : Call) → is_inside one ≡ true → has_commit one ≡ true → ⊥
inside_not (call.Work statements true) inside commit = let none : ⊥ = cc in none
inside_not (call.Work statements false) inside commit = let none : ⊥ = cc in none
inside_not one inside commit = let none : ⊥ = cc in none

-- its call with a commit is the last one
commit_last : (calls : List Call) (at : ℕ) (one : Call) → is_one_transaction calls ≡ true → slice_get calls at ≡ Some one → has_commit one ≡ true → length calls ≡ at + 1
commit_last [] at one whole is commit = absurd (let none : ⊥ = cc in none)
commit_last (first ∷ []) zero one whole is commit = omega arith
commit_last (first ∷ []) (suc at) one whole is commit = absurd (let none : ⊥ = cc in none)
commit_last (first ∷ next ∷ calls) zero one whole is commit =
    let same : first ≡ one = cc in
    absurd (inside_not first (and_parts (is_inside first) (is_one_transaction (next ∷ calls)) whole).0 (ap has_commit same ∙ commit))
commit_last (first ∷ next ∷ calls) (suc at) one whole is commit =
    let rest : length (next ∷ calls) ≡ at + 1 = commit_last (next ∷ calls) at one (and_parts (is_inside first) (is_one_transaction (next ∷ calls)) whole).1 is commit in
    omega (arith, rest)

-- what is known of a request that is one transaction
pub record IsWhole (t : Traced) (course : Course) : Type 0 where
  pub whole : is_one_transaction course.request.calls ≡ true
  pub tells : tells_tried course ≡ true
  pub notes : notes_sendings course ≡ true
  pub settled : all_but_last t course.report.calls (commit_sendings course) ≡ true
  pub placed : list_all (is_placed course.request.calls (held_in course.steps)) (commit_sendings course) ≡ true

module _ (t : Traced) (course : Course) (facts : IsWhole t course) where
  abbrev calls : List ShownCall
  calls = course.report.calls

  abbrev trying : Trying
  trying = trying_of (dones_of course.steps)

  abbrev last : ℕ
  last = length course.request.calls - 1

  -- each sending with a commit is of the last call
  sent_at : (s : Sending) → (is_placed course.request.calls (held_in course.steps) s && commits s) ≡ true → s.at ≡ last
  sent_at s here = by (slice_get course.request.calls s.at) refl (and_parts (option_map_or (same_call s.call) (slice_get course.request.calls s.at) false) _ parts.0).0
    where
      parts : (is_placed course.request.calls (held_in course.steps) s ≡ true) × (commits s ≡ true)
      parts = and_parts (is_placed course.request.calls (held_in course.steps) s) (commits s) here

      by : (found : Option Call) → slice_get course.request.calls s.at ≡ found → option_map_or (same_call s.call) found false ≡ true → s.at ≡ last
      by None is same = absurd (let none : ⊥ = cc in none)
      by (Some one) is same =
          let equal : s.call ≡ one = (same_call_decides s.call one).0 same in
          let long : length course.request.calls ≡ s.at + 1 = commit_last course.request.calls s.at one facts.whole is (ap has_commit (sym equal) ∙ parts.1) in
          omega (arith, long)

  abbrev in_last : ℕ → Bool
  in_last at = transaction_at calls at == transaction_at calls last

  -- so what was tried is all of one transaction
  last_sent : (x : Ltxid) → holds (ids_tried course.report) x ≡ true → list_any (under_at in_last x) (commit_sendings course) ≡ true
  last_sent x held =
      let found = ids_sent course facts.tells facts.notes x held in
      any_with (under_at (λ at. transaction_at calls at == found.0) x) (λ s. is_placed course.request.calls (held_in course.steps) s && commits s) (under_at in_last x) (commit_sendings course)
      (λ s here so. and_from (in_last s.at) (is_under x s) (eq_to (transaction_at calls s.at) (transaction_at calls last) (ap (transaction_at calls) (sent_at s so))) (and_parts (transaction_at calls s.at == found.0) (is_under x s) here).1)
      found.1
      (both_all (is_placed course.request.calls (held_in course.steps)) commits (commit_sendings course) facts.placed (filter_passes commits (sendings_of course)))

  pub has_few : entries_differ t.entries ≡ true → list_all (λ entry. not (holds t.blocked entry.ltxid)) t.entries ≡ true → length (entries_in t.entries (ids_tried course.report)) ≤ 1
  has_few differ unblocked = few_in t calls (transaction_at calls last) (commit_sendings course) facts.settled (ids_tried course.report) last_sent t.entries differ unblocked

  -- WITH AN ERROR ---------------------------------------------------------------------------------

  -- the last call was not shown, so this transaction is the one that no call ended
  last_is : is_some (slice_get course.request.calls (length calls)) ≡ true → transaction_at calls last ≡ trying.over
  last_is some = by (slice_get course.request.calls (length calls)) refl some
    where
      by : (found : Option Call) → slice_get course.request.calls (length calls) ≡ found → is_some found ≡ true → transaction_at calls last ≡ trying.over
      by None is some = absurd (let none : ⊥ = cc in none)
      by (Some one) is some =
          let less : length calls < length course.request.calls = slice_get_within course.request.calls (length calls) one is in
          let most : length calls ≤ last = omega (arith, less) in
          ap (count_by (λ (call : ShownCall). ends_transaction call.answers)) (take_all last calls most ∙ sym (take_all (length calls) calls (omega arith))) ∙ sym (over_is course facts.tells facts.notes)

  abbrev test : Txn → Bool
  test txn = committed_has_one t.entries txn && (dropped_has_none t.entries txn && last_ends t.entries course.report.failed txn)

  ends_last : request_ends t.entries course.report ≡ true → may_end t.entries course.report.failed (tried_in trying.over trying.sendings) ≡ true
  ends_last ends =
      let found = last_txn calls test trying.sendings trying.over (over_is course facts.tells facts.notes) (ap (λ (lists : List (List Ltxid)). list_all test (with_tried (txns calls) lists)) (sym (lists_are course facts.tells facts.notes)) ∙ ends) in
      let txn : Txn = record { shown = found.0; tried = tried_in trying.over trying.sendings } in
      let one = and_parts (committed_has_one t.entries txn) (dropped_has_none t.entries txn && last_ends t.entries course.report.failed txn) found.1.1 in
      let two = and_parts (dropped_has_none t.entries txn) (last_ends t.entries course.report.failed txn) one.1 in
      ap (λ (ended : Bool). not (not ended) || may_end t.entries course.report.failed (tried_in trying.over trying.sendings)) (sym found.1.0) ∙ two.1

  none_ends : (fault : Option Failure) (ids : List Ltxid) → may_be_repeated fault ≡ true → may_end t.entries fault ids ≡ true → count_in t.entries ids ≡ 0
  none_ends (Some (failure.Disabled reason event)) ids may ends = eq_from (count_in t.entries ids) 0 ends
  none_ends (Some (failure.Mismatch at seen now)) ids may ends = eq_from (count_in t.entries ids) 0 ends
  none_ends (Some (failure.Replays limit event)) ids may ends = eq_from (count_in t.entries ids) 0 ends
  none_ends (Some (failure.ReplayTimeout first ready)) ids may ends = eq_from (count_in t.entries ids) 0 ends
  none_ends fault ids may ends = absurd (let none : ⊥ = cc in none)

  some_call : (fault : Option Failure) → may_be_repeated fault ≡ true → ends_so t.entries course fault ≡ true → is_some (slice_get course.request.calls (length calls)) ≡ true
  some_call (Some (failure.Disabled reason event)) may ends = ends
  some_call (Some (failure.Mismatch at seen now)) may ends = ends
  some_call (Some (failure.Replays limit event)) may ends = ends
  some_call (Some (failure.ReplayTimeout first ready)) may ends = ends
  some_call fault may ends = absurd (let none : ⊥ = cc in none)

  pub has_none : may_be_repeated course.report.failed ≡ true → ends_so t.entries course course.report.failed ≡ true → request_ends t.entries course.report ≡ true → length (entries_in t.entries (ids_tried course.report)) ≡ 0
  has_none may so ends =
      let none : count_in t.entries (tried_in trying.over trying.sendings) ≡ 0 = none_ends course.report.failed (tried_in trying.over trying.sendings) may (ends_last ends) in
      let few : length (entries_in t.entries (ids_tried course.report)) ≤ count_in t.entries (tried_in trying.over trying.sendings) =
      fewer_in (ids_tried course.report) (tried_in trying.over trying.sendings)
      (λ x held. subst (λ (k : ℕ). holds (tried_in k trying.sendings) x ≡ true) (last_is (some_call course.report.failed may so)) (sent_list course facts.tells facts.notes (transaction_at calls last) x (last_sent x held))) t.entries in
      omega (arith, none, few)
