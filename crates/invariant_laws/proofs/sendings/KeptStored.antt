-- Of Once: a sending that was answered Committed has its entry, at the start and behind each event.
use Rattle.std.proofs.Common.{◌≡◌, refl, sym, ap, subst, ◌∙◌, Bool, true, false, ℕ, ◌+◌, ◌≤◌, ◌<◌, ◌&&◌, cond, List, [], ◌∷◌, Option, Some, None, arith}
use Rattle.std.specs.Prelude.{◌==◌, nat_le}
use Rattle.std.specs.List.{list_all}
use Rattle.std.specs.Option.{option_map_or}
use Rattle.std.proofs.lemmas.Bool.{and_parts, or_left, or_right}
use Rattle.std.proofs.lemmas.Bool.Decides.{nat_tests}
use Rattle.svc_values.specs.declared.answer.Answer.{Answer}
use Rattle.svc_values.specs.declared.entry.Entry.{Entry}
use Rattle.svc_values.specs.declared.entry.Ltxid.{Ltxid}
use Rattle.svc_values.specs.declared.entry.SessionId.{SessionId}
use Rattle.svc_values.specs.meaning.Endings.{ends_committed}
use Rattle.svc_values.specs.meaning.Identifiers.{same_ltxid, is_of_session, session_of}
use Rattle.run_clauses.specs.meaning.EntryEvents.{entries_of}
use Rattle.server_model.specs.Laws.{EntryNumbers}
use Rattle.invariant_laws.specs.KeptLaws.{IsKeptOfAll}
use Rattle.world_model.specs.meaning.Links.{Link, link_at}
use Rattle.world_model.specs.records.Number.{cond_held, numbered_after, is_near, are_near}
use Rattle.invariant_laws.specs.Once.{is_on_link, all_sendings, committed_stored}
use Rattle.world_model.specs.Parts.{Sending, commit_sendings, has_entry, implies, held_number, number_of}
use Rattle.world_model.specs.Reached.{traced_start}
use Rattle.world_model.specs.meaning.Settings.{setting_of}
use Rattle.world_model.specs.Traced.{Traced, courses_of}
use Rattle.world_model.proofs.Offered.{at_link, weaker_all, number_named, near_law, numbered_now, resting_none, some_same, entries_cons, numbered_parts, ltxid_self, eq_from, eq_to, le_from, not_both, same_session_is}
use Rattle.invariant_laws.proofs.sendings.FateSteps.{fated, fated_from}
use Rattle.invariant_laws.proofs.sendings.KeptFates.{fates_law}
use Rattle.invariant_laws.proofs.sendings.KeptOnLinks.{on_from, links_law}
use Rattle.invariant_laws.proofs.losses.LostKept.{both_all}
use Rattle.invariant_laws.proofs.sendings.SendingsMade.{flat_all}

strictly : (a b : ℕ) → a ≤ b → (b ≡ a → ⊥) → a < b
strictly a b most other = by (b == a) refl
  where
    by : (test : Bool) → (b == a) ≡ test → a < b
    by true is = absurd (other (eq_from b a is))
    by false is = grind (arith, nat_tests)

-- the entry of each number below the count is there
pub entry_there : (before entries : List Entry) (x : Ltxid) → numbered_after before entries ≡ true → entries_of before (session_of x) ≤ x.number → x.number < entries_of before (session_of x) + entries_of entries (session_of x) → has_entry entries x ≡ true
entry_there before [] x numbered low below = absurd (let never : ⊥ = omega (arith, low, below) in never)
entry_there before (entry ∷ rest) x numbered low below =
    by (is_of_session (session_of x) entry.ltxid) refl (entries_cons entry rest (session_of x)) (entries_cons entry before (session_of x)) (λ first later. entry_there (entry ∷ before) rest x parts.1 first later)
  where
    parts : (entry.ltxid.number ≡ entries_of before (session_of entry.ltxid)) × (numbered_after (entry ∷ before) rest ≡ true)
    parts = numbered_parts before rest entry numbered

    this_one : is_of_session (session_of x) entry.ltxid ≡ true → x.number ≡ entry.ltxid.number → same_ltxid x entry.ltxid ≡ true
    this_one own number =
        let session : session_of entry.ltxid ≡ session_of x = same_session_is (session_of entry.ltxid) (session_of x) own in
        let same : x ≡ entry.ltxid = λ i. record { incarnation = sym (ap (λ (s : SessionId). s.incarnation) session) i; session = sym (ap (λ (s : SessionId). s.session) session) i; number = number i } in
        subst (λ (y : Ltxid). same_ltxid x y ≡ true) same (ltxid_self x)

    by : (own : Bool) → is_of_session (session_of x) entry.ltxid ≡ own → entries_of (entry ∷ rest) (session_of x) ≡ cond own 1 0 + entries_of rest (session_of x) → entries_of (entry ∷ before) (session_of x) ≡ cond own 1 0 + entries_of before (session_of x)
        → (entries_of (entry ∷ before) (session_of x) ≤ x.number → x.number < entries_of (entry ∷ before) (session_of x) + entries_of rest (session_of x) → has_entry rest x ≡ true) → has_entry (entry ∷ rest) x ≡ true
    by false is behind front again = or_right (same_ltxid x entry.ltxid) (has_entry rest x) (again (omega (arith, low, front)) (omega (arith, below, behind, front)))
    by true is behind front again = cases (x.number == entry.ltxid.number) refl
      where
        at : entry.ltxid.number ≡ entries_of before (session_of x)
        at = parts.0 ∙ ap (entries_of before) (same_session_is (session_of entry.ltxid) (session_of x) is)

        cases : (here : Bool) → (x.number == entry.ltxid.number) ≡ here → has_entry (entry ∷ rest) x ≡ true
        cases true same = or_left (same_ltxid x entry.ltxid) (has_entry rest x) (this_one is (eq_from x.number entry.ltxid.number same))
        cases false differs =
            let other : (x.number ≡ entries_of before (session_of x)) → ⊥ = λ same. not_both (x.number == entry.ltxid.number) (eq_to x.number entry.ltxid.number (same ∙ sym at)) differs in
            let above : entries_of before (session_of x) < x.number = strictly (entries_of before (session_of x)) x.number low other in
            or_right (same_ltxid x entry.ltxid) (has_entry rest x) (again (omega (arith, above, front)) (omega (arith, below, behind, front)))

implies_so : (taken : Option (List Answer)) (there : Bool) → ((answers : List Answer) → taken ≡ Some answers → ends_committed answers ≡ true → there ≡ true) → implies (option_map_or ends_committed taken false) there ≡ true
implies_so None there here = refl
implies_so (Some answers) there here = by (ends_committed answers) (here answers refl)
  where
    by : (commits : Bool) → (commits ≡ true → there ≡ true) → implies commits there ≡ true
    by true so = so refl
    by false so = refl

module _ (t : Traced) (near : are_near t ≡ true) (numbered : numbered_after [] t.entries ≡ true) where
  abbrev is_stored : Sending → Bool
  is_stored sending = implies (option_map_or ends_committed sending.taken false) (has_entry t.entries sending.ltxid)

  stored_one : (sending : Sending) → fated t.machine.links sending ≡ true → is_on_link t sending ≡ true → is_stored sending ≡ true
  stored_one sending fated_so on_so = implies_so sending.taken (has_entry t.entries sending.ltxid) entry
    where
      entry : (answers : List Answer) → sending.taken ≡ Some answers → ends_committed answers ≡ true → has_entry t.entries sending.ltxid ≡ true
      entry answers taken commits =
          let at = fated_from t.machine.links sending fated_so in
          let on = on_from t sending on_so in
          let same : at.link ≡ on.link = some_same (link_at t.machine.links sending.connection) at.link on.link at.there on.there in
          let below : sending.ltxid.number < held_number at.link = at.fate.told answers taken commits in
          let least : held_number at.link ≤ number_of t.entries at.link =
          le_from (held_number at.link) (number_of t.entries at.link) (and_parts (nat_le (held_number at.link) (number_of t.entries at.link)) (nat_le (number_of t.entries at.link) (held_number at.link + cond_held at.link)) (at_link (is_near t) t.machine.links sending.connection at.link near at.there)).0 in
          let session : session_of sending.ltxid ≡ on.session = same_session_is (session_of sending.ltxid) on.session on.of in
          let count : number_of t.entries at.link ≡ entries_of t.entries (session_of sending.ltxid) = number_named t.entries at.link (session_of sending.ltxid) (ap (λ (l : Link). l.session) same ∙ (on.has ∙ ap Some (sym session))) in
          entry_there [] t.entries sending.ltxid numbered (omega arith) (omega (arith, below, least, count))

  pub all_stored : list_all (fated t.machine.links) (all_sendings t) ≡ true → list_all (is_on_link t) (all_sendings t) ≡ true → committed_stored t ≡ true
  all_stored fates on =
      weaker_all (λ sending. fated t.machine.links sending && is_on_link t sending) is_stored (all_sendings t)
      (λ sending both. let parts = and_parts (fated t.machine.links sending) (is_on_link t sending) both in stored_one sending parts.0 parts.1) (both_all (fated t.machine.links) (is_on_link t) (all_sendings t) fates on)

pub stored_law : EntryNumbers → IsKeptOfAll committed_stored
stored_law numbers = record {
  at_start = λ document.
      let t : Traced = traced_start document in
      flat_all (λ sending. implies (option_map_or ends_committed sending.taken false) (has_entry t.entries sending.ltxid)) commit_sendings (courses_of t)
      ∙ resting_none (setting_of document) 1 (λ course. list_all (λ sending. implies (option_map_or ends_committed sending.taken false) (has_entry t.entries sending.ltxid)) (commit_sendings course)) document.clients;
  at_event = λ before after old new event note items left one inv.
      all_stored new ((near_law numbers).at_event before after old new event note items left one inv.orderly) (numbered_now before after old new one.coupled_before one.coupled_after one.start inv.orderly.number.entries)
      (fates_law.at_event before after old new event note items left one inv) (links_law.at_event before after old new event note items left one inv.orderly inv.once.links);
}
