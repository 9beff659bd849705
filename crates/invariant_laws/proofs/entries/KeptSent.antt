-- Of Once: each entry of a connection's session has one sending that is open or committed, at the
-- start and behind each event.
use Rattle.std.proofs.Common.{◌≡◌, refl, sym, ap, subst, ◌∙◌, Bool, true, false, ℕ, suc, zero, ◌+◌, ◌≤◌, ◌<◌, ◌&&◌, cond, flat_map, List, [], ◌∷◌, ◌++◌, Option, Some, None, ◌⊎◌, inl, inr, arith}
use Rattle.std.specs.Prelude.{◌==◌, nat_le, nat_lt, is_none, is_some, All, Contains, if◌then◌else◌}
use Rattle.std.specs.List.{list_all, list_any}
use Rattle.std.specs.Option.{option_map_or}
use Rattle.std.proofs.lemmas.Bool.{and_parts, and_from, or_cases, not_from_false, not-true}
use Rattle.std.proofs.lemmas.List.Elements.{All-head}
use Rattle.std.proofs.lemmas.List.Folds.{list_all-append}
use Rattle.svc_values.specs.declared.entry.Entry.{Entry}
use Rattle.svc_values.specs.declared.entry.Ltxid.{Ltxid}
use Rattle.svc_values.specs.declared.entry.SessionId.{SessionId}
use Rattle.svc_values.specs.meaning.Endings.{ends_committed}
use Rattle.svc_values.specs.meaning.Identifiers.{is_of_session, same_ltxid, session_of}
use Rattle.svc_values.specs.SameLaws.{same_ltxid_decides}
use Rattle.outage_schedule.specs.declared.event.Event.{Event}
use Rattle.outage_schedule.specs.declared.item.Served.{Served}
use Rattle.outage_schedule.specs.declared.note.Note.{Note}
use Rattle.run_clauses.specs.meaning.EntryEvents.{entries_of}
use Rattle.server_model.specs.Laws.{EntryNumbers}
use Rattle.server_model.specs.Runs.{Happened}
use Rattle.server_model.specs.Seen.{Seen}
use Rattle.server_model.specs.ServiceCalls.{CameFrom}
use Rattle.svc_values.specs.declared.frame.Up.TheVariants as up
use Rattle.world_model.specs.meaning.Acting.{sent_by}
use Rattle.world_model.specs.meaning.Clients.{Client}
use Rattle.world_model.specs.records.Basic.{are_named, sessions_differ}
use Rattle.world_model.specs.meaning.Frames.{Sent}
use Rattle.world_model.specs.Orderly.{Orderly}
use Rattle.invariant_laws.specs.KeptLaws.{IsKeptOfAll}
use Rattle.world_model.specs.meaning.Links.{Link, new_link, link_at}
use Rattle.world_model.specs.meaning.Machines.{Machine}
use Rattle.world_model.specs.meaning.Matching.{Noted, Went}
use Rattle.world_model.specs.records.Number.{cond_held, numbered_after, is_known, is_ahead, ahead_rightly, are_ahead}
use Rattle.invariant_laws.specs.Once.{all_sendings, are_apart, entries_sent, has_commit_out, has_sending, have_fates, is_foreign, is_of_link, is_open_or_committed, is_waiting_on, outs_wait}
use Rattle.world_model.specs.OneEvent.{OneEvent}
use Rattle.world_model.specs.Parts.{Sending, Numbered, commit_sendings, held_number, implies, is_commit_call, is_out, number_of, out_frame}
use Rattle.world_model.specs.Reached.{traced_start}
use Rattle.world_model.specs.meaning.Settings.{Setting}
use Rattle.world_model.specs.Traced.{Traced, courses_of_clients}
use Rattle.world_model.proofs.Offered.{at_link, append_all, every_all, weaker_all, sends_alike, number_named, none_in, DidOf, Followed, follow_happens, at_event, held_now, ahead_law, basic_is_kept, numbered_now, Right, extra_few, implied, any_goes, all_below, entries_cons, numbered_parts, did, right_now, eq_to, le_from, le_to, lt_from, same_session_is, not_both, none_is, ComesFrom, IsNew, IsOld, all_turn, some_same}
use Rattle.invariant_laws.proofs.sendings.CommittedSendings.{commit_out}
use Rattle.invariant_laws.proofs.entries.EntriesStay.{right_of, still_sent}
use Rattle.invariant_laws.proofs.entries.EntrySendings.{any_sent, is_sent, sent_by_one}
use Rattle.invariant_laws.proofs.sendings.KeptApart.{apart_law}
use Rattle.invariant_laws.proofs.entries.KeptCompleted.{still_foreign}
use Rattle.invariant_laws.proofs.sendings.KeptOuts.{outs_from, outs_law}
use Rattle.invariant_laws.proofs.losses.KeptUnasked.{held_session}
use Rattle.invariant_laws.proofs.talks.LinksStay.{Becomes, is_went}
use Rattle.invariant_laws.proofs.losses.LostKept.{both_all}
use Rattle.invariant_laws.proofs.talks.Placing.{SameOut, Moving, Quietly, Stepping, moving, quiet_stay}
use Rattle.invariant_laws.proofs.entries.TriedApart.{is_under}

-- ENTRIES -----------------------------------------------------------------------------------------

-- what stands behind others has no number below how many those are
gained_high : (count : SessionId → ℕ) (before old more : List Entry) → numbered_after before (old ++ more) ≡ true → ((session : SessionId) → count session ≤ entries_of before session + entries_of old session)
    → list_all (λ entry. nat_le (count (session_of entry.ltxid)) entry.ltxid.number) more ≡ true
gained_high count before [] [] numbered most = refl
gained_high count before [] (entry ∷ more) numbered most =
    let parts = numbered_parts before more entry numbered in
    let least : count (session_of entry.ltxid) ≤ entries_of before (session_of entry.ltxid) + entries_of [] (session_of entry.ltxid) = most (session_of entry.ltxid) in
    let none : entries_of [] (session_of entry.ltxid) ≡ 0 = refl in
    let number : entry.ltxid.number ≡ entries_of before (session_of entry.ltxid) = parts.0 in
    and_from (nat_le (count (session_of entry.ltxid)) entry.ltxid.number) (list_all (λ one. nat_le (count (session_of one.ltxid)) one.ltxid.number) more) (le_to (count (session_of entry.ltxid)) entry.ltxid.number (omega (arith, least, none, number)))
    (gained_high count (entry ∷ before) [] more parts.1
    (λ session.
    let first : entries_of (entry ∷ before) session ≡ cond (is_of_session session entry.ltxid) 1 0 + entries_of before session = entries_cons entry before session in
    let low : count session ≤ entries_of before session + entries_of [] session = most session in
    omega (arith, first, low)))
gained_high count before (entry ∷ old) more numbered most =
    gained_high count (entry ∷ before) old more (numbered_parts before (old ++ more) entry numbered).1
    (λ session.
    let first : entries_of (entry ∷ before) session ≡ cond (is_of_session session entry.ltxid) 1 0 + entries_of before session = entries_cons entry before session in
    let second : entries_of (entry ∷ old) session ≡ cond (is_of_session session entry.ltxid) 1 0 + entries_of old session = entries_cons entry old session in
    let low : count session ≤ entries_of before session + entries_of (entry ∷ old) session = most session in
    omega (arith, first, second, low))

no_more : {A : Type 0} (happened : List Happened) (entry : Entry) (more : List Entry) → All (CameFrom happened) (entry ∷ more) → happened ≡ [] → A
no_more happened entry more came is = absurd (let from = All-head (CameFrom happened) entry more came in none_in from.0 (subst (λ (list : List Happened). Contains list from.0) is from.1.0))

-- the connection whose session an entry is of
record IsOf (links : List Link) (x : Ltxid) : Type 0 where
  number : ℕ
  link : Link
  there : link_at links number ≡ Some link
  session : link.session ≡ Some (session_of x)

of_one : (x : Ltxid) (link : Link) → option_map_or (λ session. is_of_session session x) link.session false ≡ true → link.session ≡ Some (session_of x)
of_one x link is = by link.session refl is
  where
    by : (found : Option SessionId) → link.session ≡ found → option_map_or (λ session. is_of_session session x) found false ≡ true → link.session ≡ Some (session_of x)
    by None has is = absurd (let none : ⊥ = cc in none)
    by (Some session) has is = has ∙ ap Some (sym (same_session_is (session_of x) session is))

of_link : (x : Ltxid) (links : List Link) → list_any (λ link. option_map_or (λ session. is_of_session session x) link.session false) links ≡ true → IsOf links x
of_link x [] any = absurd (let none : ⊥ = cc in none)
of_link x (link ∷ links) any = by (or_cases (option_map_or (λ session. is_of_session session x) link.session false) (list_any (λ one. option_map_or (λ session. is_of_session session x) one.session false) links) any) (of_link x links)
  where
    later : IsOf links x → IsOf (link ∷ links) x
    later rest = at rest.number rest.there
      where
        at : (number : ℕ) → link_at links number ≡ Some rest.link → IsOf (link ∷ links) x
        at zero there = absurd (let none : ⊥ = cc in none)
        at (suc index) there = record { number = suc (suc index); link = rest.link; there = there; session = rest.session }

    by : (option_map_or (λ session. is_of_session session x) link.session false ≡ true) ⊎ (list_any (λ one. option_map_or (λ session. is_of_session session x) one.session false) links ≡ true)
        → (list_any (λ one. option_map_or (λ session. is_of_session session x) one.session false) links ≡ true → IsOf links x) → IsOf (link ∷ links) x
    by (inl here) again = record { number = 1; link = link; there = refl; session = of_one x link here }
    by (inr rest) again = later (again rest)

-- one that waits under the identifier held is open under it
waiting_under : (at : Numbered) (x : Ltxid) → at.link.held ≡ Some x → (sending : Sending) → is_waiting_on at sending ≡ true → is_under x sending ≡ true
waiting_under at x held sending waits =
    let one = and_parts (sending.connection == at.number) (is_none sending.taken && option_map_or (same_ltxid sending.ltxid) at.link.held false) waits in
    let two = and_parts (is_none sending.taken) (option_map_or (same_ltxid sending.ltxid) at.link.held false) one.1 in
    let same : same_ltxid sending.ltxid x ≡ true = subst (λ (found : Option Ltxid). option_map_or (same_ltxid sending.ltxid) found false ≡ true) held two.1 in
    and_from (is_open_or_committed sending) (same_ltxid x sending.ltxid) (ap (λ (taken : Option (List _)). option_map_or ends_committed taken true) (none_is sending.taken two.0)) ((same_ltxid_decides x sending.ltxid).1 (sym ((same_ltxid_decides sending.ltxid x).0 same)))

-- THE EVENT ---------------------------------------------------------------------------------------

module _ (numbers : EntryNumbers) (before after : Seen) (old new : Traced) (event : Event) (note : Note) (items left : List Served) (one : OneEvent before old event note items left after new) (inv : Orderly old) (apart : are_apart old ≡ true) (fates : have_fates old ≡ true) where
  abbrev m : Machine
  m = at_event old.machine

  abbrev by : Followed old.setting old.machine event note items left new.machine
  by = follow_happens old.setting old.machine event note items left new.machine one.follows

  still : numbered_after [] new.entries ≡ true
  still = numbered_now before after old new one.coupled_before one.coupled_after one.start inv.number.entries

  -- THOSE OF BEFORE -------------------------------------------------------------------------------

  -- all sendings, with what they were
  any_new : (x : Ltxid) → x.number < entries_of old.entries (session_of x) → Moving old.setting m new.machine → list_any (is_under x) (all_sendings old) ≡ true → list_any (is_under x) (flat_map commit_sendings (courses_of_clients old.setting 1 new.machine.clients)) ≡ true
  any_new x below (Quietly same stays) any = subst (λ (clients : List Client). list_any (is_under x) (flat_map commit_sendings (courses_of_clients old.setting 1 clients)) ≡ true) (sym same) any
  any_new x below (Stepping who step) any = still_sent old inv apart fates new who step x below any

  abbrev was_so : Entry → Bool
  was_so entry = is_known old (session_of entry.ltxid) && (implies (is_of_link old entry) (has_sending old entry) && nat_lt entry.ltxid.number (entries_of old.entries (session_of entry.ltxid)))

  old_one : (entry : Entry) → was_so entry ≡ true → is_sent new entry ≡ true
  old_one entry so = cases (is_of_link new entry) refl
    where
      first : (is_known old (session_of entry.ltxid) ≡ true) × ((implies (is_of_link old entry) (has_sending old entry) && nat_lt entry.ltxid.number (entries_of old.entries (session_of entry.ltxid))) ≡ true)
      first = and_parts (is_known old (session_of entry.ltxid)) (implies (is_of_link old entry) (has_sending old entry) && nat_lt entry.ltxid.number (entries_of old.entries (session_of entry.ltxid))) so

      second : (implies (is_of_link old entry) (has_sending old entry) ≡ true) × (nat_lt entry.ltxid.number (entries_of old.entries (session_of entry.ltxid)) ≡ true)
      second = and_parts (implies (is_of_link old entry) (has_sending old entry)) (nat_lt entry.ltxid.number (entries_of old.entries (session_of entry.ltxid))) first.1

      was_of : is_of_link new entry ≡ true → (test : Bool) → is_of_link old entry ≡ test → test ≡ true
      was_of is true was = refl
      was_of is false was =
          let foreign : is_foreign new entry ≡ true = still_foreign before after old new event note items left one inv entry (and_from (is_known old (session_of entry.ltxid)) (is_foreign old entry) first.0 (not_from_false (is_of_link old entry) was)) in
          absurd (not_both (is_of_link new entry) is (not-true (is_of_link new entry) foreign))

      cases : (test : Bool) → is_of_link new entry ≡ test → implies test (list_any (is_under entry.ltxid) (all_sendings new)) ≡ true
      cases false is = refl
      cases true is =
          subst (λ (setting : Setting). list_any (is_under entry.ltxid) (flat_map commit_sendings (courses_of_clients setting 1 new.machine.clients)) ≡ true) (sym one.setting)
          (any_new entry.ltxid (lt_from entry.ltxid.number (entries_of old.entries (session_of entry.ltxid)) second.1) (moving old.setting m items left by.kind new.machine by.happens)
          (any_sent old entry (implied (is_of_link old entry) (has_sending old entry) (was_of is (is_of_link old entry) refl) second.0)))

  old_all : entries_sent old ≡ true → list_all (is_sent new) old.entries ≡ true
  old_all sent =
      let known = (and_parts (list_all (λ entry. is_known old (session_of entry.ltxid)) old.entries) _ inv.number.known).0 in
      weaker_all was_so (is_sent new) old.entries old_one
      (both_all (λ entry. is_known old (session_of entry.ltxid)) (λ entry. implies (is_of_link old entry) (has_sending old entry) && nat_lt entry.ltxid.number (entries_of old.entries (session_of entry.ltxid))) old.entries known
      (both_all (λ entry. implies (is_of_link old entry) (has_sending old entry)) (λ entry. nat_lt entry.ltxid.number (entries_of old.entries (session_of entry.ltxid))) old.entries sent (all_below old.entries inv.number.entries)))

  -- THOSE THAT WERE GAINED ------------------------------------------------------------------------

  module _ (named : are_named new ≡ true) (differ : sessions_differ new ≡ true) (outs : outs_wait new ≡ true) (ahead : are_ahead new ≡ true) (other : is_went by.kind ≡ false) where
    -- what is held is as before
    held_before : (number : ℕ) (next : Link) (y : Ltxid) → link_at new.machine.links number ≡ Some next → next.held ≡ Some y → y.number ≤ entries_of old.entries (session_of y)
    held_before number next y there held = cases (all_turn old.setting m (held_now old inv) items left by.kind new.machine by.happens number next there)
      where
        cases : ComesFrom m items left by.kind number next → y.number ≤ entries_of old.entries (session_of y)
        cases (IsNew owner same) =
            absurd (let none : next.held ≡ None = ap (λ (l : Link). l.held) same ∙ sends_alike (λ (l : Link). l.held ≡ None) m.event (sent_by owner 0 up.Connect ∷ []) new_link refl refl in
            let never : None ≡ Some y = sym none ∙ held in let nothing : ⊥ = cc in nothing)
        cases (IsOld link was turn) =
            let becomes : Becomes SameOut new.machine.links number link = quiet_stay old.setting m items left by.kind new.machine other by.happens number link was in
            let same : becomes.next ≡ next = some_same (link_at new.machine.links number) becomes.next next becomes.there there in
            let before_held : link.held ≡ Some y = sym becomes.so.held ∙ (ap (λ (l : Link). l.held) same ∙ held) in
            let count : number_of old.entries link ≡ entries_of old.entries (session_of y) = number_named old.entries link (session_of y) (held_session old inv.basic.named inv.basic.apart number link y was before_held) in
            let number_is : held_number link ≡ y.number = ap (λ (h : Option Ltxid). option_map_or (λ (z : Ltxid). z.number) h 0) before_held in
            let least : held_number link ≤ number_of old.entries link = (right_of old inv number link was).least in
            omega (arith, count, number_is, least)

    abbrev gained_so : Entry → Bool
    gained_so entry = nat_le (entries_of old.entries (session_of entry.ltxid)) entry.ltxid.number && nat_lt entry.ltxid.number (entries_of new.entries (session_of entry.ltxid))

    -- its session is ahead by it, so it is that of the call that is out
    is_out_now : (x : Ltxid) → entries_of old.entries (session_of x) ≤ x.number → x.number < entries_of new.entries (session_of x) → IsOf new.machine.links x → list_any (is_under x) (all_sendings new) ≡ true
    is_out_now x high below of = cases of.link.held refl
      where
        right : Right (number_of new.entries of.link) of.link
        right = right_now before after old new event note items left one inv numbers of.number of.link of.there

        count : number_of new.entries of.link ≡ entries_of new.entries (session_of x)
        count = number_named new.entries of.link (session_of x) of.session

        cases : (held : Option Ltxid) → of.link.held ≡ held → list_any (is_under x) (all_sendings new) ≡ true
        cases None none =
            let most : number_of new.entries of.link ≤ held_number of.link + cond_held of.link = right.most in
            let low : held_number of.link ≡ 0 = ap (λ (h : Option Ltxid). option_map_or (λ (z : Ltxid). z.number) h 0) none in
            let few : ◌≡◌ {A = ℕ} (cond_held of.link) 0 = ap (λ (h : Option Ltxid). if is_some h then 1 else 0) none in
            absurd (let never : ⊥ = omega (arith, below, count, most, low, few) in never)
        cases (Some y) held =
            let session : session_of y ≡ session_of x = same_one (sym (held_session new named differ of.number of.link y of.there held) ∙ of.session) in
            let number_is : held_number of.link ≡ y.number = ap (λ (h : Option Ltxid). option_map_or (λ (z : Ltxid). z.number) h 0) held in
            let most : number_of new.entries of.link ≤ held_number of.link + cond_held of.link = right.most in
            let few : cond_held of.link ≤ 1 = extra_few _ in
            let low : y.number ≤ entries_of old.entries (session_of y) = held_before of.number of.link y of.there held in
            let same_count : entries_of old.entries (session_of y) ≡ entries_of old.entries (session_of x) = ap (entries_of old.entries) session in
            let number : y.number ≡ x.number = omega (arith, high, below, count, number_is, most, few, low, same_count) in
            let over : number_of new.entries of.link ≡ held_number of.link + 1 = omega (arith, high, below, count, number_is, most, few, low, same_count) in
            let same : y ≡ x = λ i. record { incarnation = ap (λ (s : SessionId). s.incarnation) session i; session = ap (λ (s : SessionId). s.session) session i; number = number i } in
            let is : is_ahead new of.link ≡ true = eq_to (number_of new.entries of.link) (held_number of.link + 1) over in
            let out = commit_out new of.link is (at_link (ahead_rightly new) new.machine.links of.number of.link ahead of.there) in
            let commit : has_commit_out of.link ≡ true =
            and_from (is_out of.link) (option_map_or is_commit_call (out_frame of.link) false) (right.ahead over).0 (ap (λ (found : Option Sent). option_map_or is_commit_call found false) out.is ∙ out.commits) in
            any_goes (is_waiting_on (record { number = of.number; link = of.link })) (is_under x) (waiting_under (record { number = of.number; link = of.link }) x (held ∙ ap Some same)) (all_sendings new)
            (outs_from new outs of.number of.link of.there commit)
          where
            same_one : Some (session_of y) ≡ Some (session_of x) → session_of y ≡ session_of x
            same_one is = let same : session_of y ≡ session_of x = cc in same

    gained_one : (entry : Entry) → gained_so entry ≡ true → is_sent new entry ≡ true
    gained_one entry so = cases (is_of_link new entry) refl
      where
        parts : (nat_le (entries_of old.entries (session_of entry.ltxid)) entry.ltxid.number ≡ true) × (nat_lt entry.ltxid.number (entries_of new.entries (session_of entry.ltxid)) ≡ true)
        parts = and_parts (nat_le (entries_of old.entries (session_of entry.ltxid)) entry.ltxid.number) (nat_lt entry.ltxid.number (entries_of new.entries (session_of entry.ltxid))) so

        cases : (test : Bool) → is_of_link new entry ≡ test → implies test (list_any (is_under entry.ltxid) (all_sendings new)) ≡ true
        cases false is = refl
        cases true is =
            is_out_now entry.ltxid (le_from (entries_of old.entries (session_of entry.ltxid)) entry.ltxid.number parts.0) (lt_from entry.ltxid.number (entries_of new.entries (session_of entry.ltxid)) parts.1) (of_link entry.ltxid new.machine.links is)

    gained_all : list_all (is_sent new) one.more_entries ≡ true
    gained_all =
        weaker_all gained_so (is_sent new) one.more_entries gained_one
        (both_all (λ entry. nat_le (entries_of old.entries (session_of entry.ltxid)) entry.ltxid.number) (λ entry. nat_lt entry.ltxid.number (entries_of new.entries (session_of entry.ltxid))) one.more_entries
        (gained_high (entries_of old.entries) [] old.entries one.more_entries (subst (λ (all : List Entry). numbered_after [] all ≡ true) one.entries still) (λ session. let whole : entries_of old.entries session ≤ entries_of [] session + entries_of old.entries session = omega arith in whole))
        (and_parts (list_all (λ entry. nat_lt entry.ltxid.number (entries_of new.entries (session_of entry.ltxid))) old.entries) (list_all (λ entry. nat_lt entry.ltxid.number (entries_of new.entries (session_of entry.ltxid))) one.more_entries)
        (sym (list_all-append (λ (entry : Entry). nat_lt entry.ltxid.number (entries_of new.entries (session_of entry.ltxid))) old.entries one.more_entries)
        ∙ (ap (list_all (λ entry. nat_lt entry.ltxid.number (entries_of new.entries (session_of entry.ltxid)))) (sym one.entries) ∙ all_below new.entries still))).1)

  -- a step of a client gains none
  none_gained : is_went by.kind ≡ true → (more : List Entry) → All (CameFrom one.happened) more → list_all (is_sent new) more ≡ true
  none_gained went [] came = refl
  none_gained went (entry ∷ more) came = no_more one.happened entry more came (cases by.kind went (did before after old new event note items left one inv))
    where
      cases : (kind : Noted) → is_went kind ≡ true → DidOf old.machine items kind one.happened → one.happened ≡ []
      cases (Went client did_so) went is = is
      cases kind went is = absurd (let none : ⊥ = cc in none)

  pub all_sent_now : entries_sent old ≡ true → are_named new ≡ true → sessions_differ new ≡ true → outs_wait new ≡ true → are_ahead new ≡ true → list_all (is_sent new) new.entries ≡ true
  all_sent_now sent named differ outs ahead = ap (list_all (is_sent new)) one.entries ∙ append_all (is_sent new) old.entries one.more_entries (old_all sent) (cases (is_went by.kind) refl)
    where
      cases : (went : Bool) → is_went by.kind ≡ went → list_all (is_sent new) one.more_entries ≡ true
      cases true went = none_gained went one.more_entries one.own
      cases false other = gained_all named differ outs ahead other

pub sent_law : EntryNumbers → IsKeptOfAll entries_sent
sent_law numbers = record {
  at_start = λ document. every_all (λ entry. implies (is_of_link (traced_start document) entry) (has_sending (traced_start document) entry)) (traced_start document).entries (λ entry. refl);
  at_event = λ before after old new event note items left one inv.
      let basic = basic_is_kept before after old new event note items left one inv.orderly in
      sent_by_one new (apart_law.at_event before after old new event note items left one inv)
      (all_sent_now numbers before after old new event note items left one inv.orderly inv.once.apart inv.once.fates inv.once.entries basic.named basic.apart (outs_law.at_event before after old new event note items left one inv)
      ((ahead_law numbers).at_event before after old new event note items left one inv.orderly));
}
