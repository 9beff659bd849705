-- Wherever a run has come to, each entry under the identifier of a sending that is open or was
-- answered Committed has the calls of the script that end with the one that was sent, and the
-- settings before them: no other entry has the identifier.
use Rattle.std.proofs.Common.{◌≡◌, refl, sym, ◌∙◌, Bool, true, false, ◌&&◌, ◌||◌, List, [], ◌∷◌, Option, Some, None, ◌⊎◌, inl, inr}
use Rattle.std.specs.Prelude.{not, is_some}
use Rattle.std.specs.List.{list_all, list_any}
use Rattle.std.specs.Option.{option_map_or}
use Rattle.std.proofs.lemmas.Bool.{and_parts, and_from, or_cases, or_parts, or_right, not-true}
use Rattle.svc_values.specs.declared.answer.Answer.{Answer}
use Rattle.svc_values.specs.declared.entry.Entry.{Entry}
use Rattle.svc_values.specs.declared.entry.Ltxid.{Ltxid}
use Rattle.svc_values.specs.meaning.Endings.{ends_committed}
use Rattle.svc_values.specs.meaning.Identifiers.{same_ltxid}
use Rattle.svc_values.specs.SameLaws.{same_ltxid_decides}
use Rattle.run_clauses.specs.meaning.Once.{entries_differ}
use Rattle.invariant_laws.specs.Invariant.{Invariant}
use Rattle.invariant_laws.specs.KeptLaws.{RunsKeepInvariant, WholeRunsKeepInvariant}
use Rattle.world_model.specs.Parts.{Sending, commit_sendings, implies}
use Rattle.invariant_laws.specs.Same.{committed_entries_known, ends_with_sent, entries_follow_scripts, has_script_entry, is_committed_stored, is_open_stored, follows_script}
use Rattle.invariant_laws.specs.SameLaws.{RunsFollowScripts, RunsStoreScripts, WholeRunsFollowScripts, WholeRunsStoreScripts}
use Rattle.world_model.specs.Traced.{Traced, Course, courses_of}
use Rattle.world_model.proofs.Offered.{weaker_all, any_goes, not_both}
use Rattle.invariant_laws.proofs.Offered.{numbered_differ, both_all}
use Rattle.once_laws.proofs.Offered.{open_known}

-- ONE ENTRY OF AN IDENTIFIER ----------------------------------------------------------------------

module _ (good : Entry → Bool) (x : Ltxid) where
  abbrev may_be : Entry → Bool
  may_be entry = not (same_ltxid entry.ltxid x) || good entry

  -- another identifier
  other_one : (entry : Entry) → (same_ltxid entry.ltxid x ≡ true → ⊥) → may_be entry ≡ true
  other_one entry never = by (same_ltxid entry.ltxid x) refl
    where
      by : (test : Bool) → same_ltxid entry.ltxid x ≡ test → (not test || good entry) ≡ true
      by false is = refl
      by true is = absurd (never is)

  same_there : (entry other : Entry) → same_ltxid x entry.ltxid ≡ true → same_ltxid other.ltxid x ≡ true → same_ltxid entry.ltxid other.ltxid ≡ true
  same_there entry other same is = (same_ltxid_decides entry.ltxid other.ltxid).1 (sym ((same_ltxid_decides x entry.ltxid).0 same) ∙ sym ((same_ltxid_decides other.ltxid x).0 is))

  none_other : (entry : Entry) → same_ltxid x entry.ltxid ≡ true → (entries : List Entry) → list_any (λ other. same_ltxid entry.ltxid other.ltxid) entries ≡ false → list_all may_be entries ≡ true
  none_other entry same [] none = refl
  none_other entry same (other ∷ entries) none =
      let parts = or_parts (same_ltxid entry.ltxid other.ltxid) (list_any (λ one. same_ltxid entry.ltxid one.ltxid) entries) none in
      and_from (may_be other) (list_all may_be entries) (other_one other (λ is. not_both (same_ltxid entry.ltxid other.ltxid) (same_there entry other same is) parts.0)) (none_other entry same entries parts.1)

  any_same : (entry : Entry) → same_ltxid entry.ltxid x ≡ true → (entries : List Entry) → list_any (λ other. same_ltxid x other.ltxid && good other) entries ≡ true → list_any (λ other. same_ltxid entry.ltxid other.ltxid) entries ≡ true
  any_same entry same entries any =
      any_goes (λ other. same_ltxid x other.ltxid && good other) (λ other. same_ltxid entry.ltxid other.ltxid)
      (λ other here. (same_ltxid_decides entry.ltxid other.ltxid).1 ((same_ltxid_decides entry.ltxid x).0 same ∙ (same_ltxid_decides x other.ltxid).0 (and_parts (same_ltxid x other.ltxid) (good other) here).0)) entries any

  one_only : (entries : List Entry) → entries_differ entries ≡ true → list_any (λ entry. same_ltxid x entry.ltxid && good entry) entries ≡ true → list_all may_be entries ≡ true
  one_only [] differ any = refl
  one_only (entry ∷ entries) differ any = by (or_cases (same_ltxid x entry.ltxid && good entry) (list_any (λ other. same_ltxid x other.ltxid && good other) entries) any) (one_only entries parts.1)
    where
      parts : (not (list_any (λ other. same_ltxid entry.ltxid other.ltxid) entries) ≡ true) × (entries_differ entries ≡ true)
      parts = and_parts (not (list_any (λ other. same_ltxid entry.ltxid other.ltxid) entries)) (entries_differ entries) differ

      none : list_any (λ other. same_ltxid entry.ltxid other.ltxid) entries ≡ false
      none = not-true (list_any (λ other. same_ltxid entry.ltxid other.ltxid) entries) parts.0

      by : ((same_ltxid x entry.ltxid && good entry) ≡ true) ⊎ (list_any (λ other. same_ltxid x other.ltxid && good other) entries ≡ true)
          → (list_any (λ other. same_ltxid x other.ltxid && good other) entries ≡ true → list_all may_be entries ≡ true) → (may_be entry && list_all may_be entries) ≡ true
      by (inl here) again =
          let both = and_parts (same_ltxid x entry.ltxid) (good entry) here in
          and_from (may_be entry) (list_all may_be entries) (or_right (not (same_ltxid entry.ltxid x)) (good entry) both.1) (none_other entry both.0 entries none)
      by (inr later) again =
          and_from (may_be entry) (list_all may_be entries) (other_one entry (λ same. not_both (list_any (λ other. same_ltxid entry.ltxid other.ltxid) entries) (any_same entry same entries later) none)) (again later)

-- ALL SENDINGS ------------------------------------------------------------------------------------

module _ (t : Traced) (whole : Invariant t) (committed : committed_entries_known t ≡ true) where
  one_follows : (course : Course) (sending : Sending) → (is_open_stored t course sending && is_committed_stored t.entries course sending) ≡ true → follows_script t course sending ≡ true
  one_follows course sending both = by sending.taken refl parts.0 parts.1
    where
      all : Bool
      all = list_all (λ entry. not (same_ltxid entry.ltxid sending.ltxid) || ends_with_sent course sending entry) t.entries

      parts : (is_open_stored t course sending ≡ true) × (is_committed_stored t.entries course sending ≡ true)
      parts = and_parts (is_open_stored t course sending) (is_committed_stored t.entries course sending) both

      has : has_script_entry t.entries course sending ≡ true → all ≡ true
      has found = one_only (ends_with_sent course sending) sending.ltxid t.entries (numbered_differ [] t.entries whole.orderly.number.entries) found

      answered : (ends : Bool) → implies ends (has_script_entry t.entries course sending) ≡ true → (not ends || all) ≡ true
      answered false stored = refl
      answered true stored = has stored

      by : (taken : Option (List Answer)) → sending.taken ≡ taken → (is_some taken || all) ≡ true → implies (option_map_or ends_committed taken false) (has_script_entry t.entries course sending) ≡ true
          → (not (option_map_or ends_committed taken true) || all) ≡ true
      by None is opens stored = opens
      by (Some answers) is opens stored = answered (ends_committed answers) stored

  all_follow : entries_follow_scripts t ≡ true
  all_follow =
      weaker_all (λ course. list_all (is_open_stored t course) (commit_sendings course) && list_all (is_committed_stored t.entries course) (commit_sendings course)) (λ course. list_all (follows_script t course) (commit_sendings course)) (courses_of t)
      (λ course both.
      let parts = and_parts (list_all (is_open_stored t course) (commit_sendings course)) (list_all (is_committed_stored t.entries course) (commit_sendings course)) both in
      weaker_all (λ sending. is_open_stored t course sending && is_committed_stored t.entries course sending) (follows_script t course) (commit_sendings course) (one_follows course)
      (both_all (is_open_stored t course) (is_committed_stored t.entries course) (commit_sendings course) parts.0 parts.1))
      (both_all (λ course. list_all (is_open_stored t course) (commit_sendings course)) (λ course. list_all (is_committed_stored t.entries course) (commit_sendings course)) (courses_of t) (open_known t whole) committed)

pub runs_follow : RunsKeepInvariant → RunsStoreScripts → RunsFollowScripts
runs_follow keeps store document events notes items seen t calls reached = all_follow t (keeps document events notes items seen t calls reached) (store document events notes items seen t calls reached)

pub whole_runs_follow : WholeRunsKeepInvariant → WholeRunsStoreScripts → WholeRunsFollowScripts
whole_runs_follow keeps store document notes items seen t calls run = all_follow t (keeps document notes items seen t calls run) (store document notes items seen t calls run)
