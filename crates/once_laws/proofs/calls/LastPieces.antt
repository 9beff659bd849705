-- The last piece of an entry has the answers and the granted draws with which its call was shown,
-- where it was shown: by the reply on its own connection, since no call is stored twice; or by an
-- outcome, where it is a commit with no statement, which has one answer.
use Rattle.std.proofs.Common.{◌≡◌, refl, sym, ap, subst, ◌∙◌, arith, Bool, true, false, ℕ, zero, suc, ◌<◌, ◌&&◌, ◌||◌, drop, filter, length, take, List, [], ◌∷◌, ◌++◌, Option, Some, None, ◌⊎◌, inl, inr}
use Rattle.std.specs.Prelude.{◌==◌, not, slice_get}
use Rattle.std.specs.List.{list_all, list_any, last_or}
use Rattle.std.specs.Option.{option_map_or}
use Rattle.std.proofs.lemmas.Bool.{and_parts, and_from, not-true, or_cases}
use Rattle.std.proofs.lemmas.List.{nil_from_length, take-append-drop}
use Rattle.std.proofs.lemmas.List.Folds.{list_all-append}
use Rattle.std.proofs.lemmas.Option.{slice_get_within}
use Rattle.svc_values.specs.declared.answer.Answer.{Answer}
use Rattle.svc_values.specs.declared.answer.Answer.TheVariants as answer
use Rattle.svc_values.specs.declared.call.Call.{Call}
use Rattle.svc_values.specs.declared.draw.Draw.{Draw}
use Rattle.svc_values.specs.declared.entry.Entry.{Entry}
use Rattle.svc_values.specs.declared.entry.Ltxid.{Ltxid}
use Rattle.svc_values.specs.declared.entry.Piece.{Piece}
use Rattle.svc_values.specs.meaning.Calls.{is_lone_commit}
use Rattle.svc_values.specs.meaning.Endings.{ends_committed}
use Rattle.svc_values.specs.meaning.Identifiers.{is_of_session, same_ltxid, session_of}
use Rattle.svc_values.specs.meaning.Same.{same_answers, same_call, same_draws, same_piece}
use Rattle.svc_values.specs.SameLaws.{same_answers_decide, same_draws_decide, same_ltxid_decides, same_piece_decides}
use Rattle.outage_schedule.specs.declared.item.Item.{Item}
use Rattle.outage_schedule.specs.declared.item.Item.TheVariants as item
use Rattle.outage_schedule.specs.declared.request.ShownCall.{ShownCall}
use Rattle.run_clauses.specs.meaning.Tried.{holds}
use Rattle.world_model.specs.records.Basic.{sessions_of}
use Rattle.once_laws.specs.CallEndings.{end_fittingly}
use Rattle.once_laws.specs.CommitAnswers.{commits_alone, store_alone, stores_alone}
use Rattle.world_model.specs.meaning.Frames.{Handled, Sent}
use Rattle.invariant_laws.specs.Invariant.{Invariant}
use Rattle.world_model.specs.meaning.Links.{Link, link_at}
use Rattle.invariant_laws.specs.Once.{all_but_last, are_known, is_foreign, is_known, is_of_link, is_open_or_committed, is_untold, shows_at, tells_completed, transaction_at}
use Rattle.world_model.specs.Parts.{commit_sendings, has_entry, implies}
use Rattle.invariant_laws.specs.Same.{ServedCall, are_pieces, is_piece_of, is_stopped_piece, ran_by}
use Rattle.world_model.specs.Sames.{is_of, owned_by}
use Rattle.once_laws.specs.Showing.{show_replies}
use Rattle.invariant_laws.specs.Shown.{is_call, shows_commit}
use Rattle.once_laws.specs.StoredOnce.{stood_in}
use Rattle.world_model.specs.Traced.{Traced, courses_of}
use Rattle.invariant_laws.specs.Verified.{commits_ran}
use Rattle.world_model.specs.Words.{held_in}
use Rattle.world_model.proofs.Offered.{at_all, weaker_all, links_apart, implied, any_goes, at_any, by_index, eq_from, eq_to, not_both}
use Rattle.invariant_laws.proofs.Offered.{calls_same, same_piece_call, is_under, under_at}
use Rattle.once_laws.proofs.calls.CallRows.{same_place}
use Rattle.once_laws.proofs.calls.CallsAgree.{same_granted, tells_as}
use Rattle.once_laws.proofs.calls.CallsApart.{WasSent}
use Rattle.once_laws.proofs.calls.CallsBefore.{handled, in_a_row, start}
use Rattle.once_laws.proofs.calls.EntryInsides.{EntryRan}
use Rattle.once_laws.proofs.calls.EntryPlaces.{EntryAt, entry_ran, last_script, on_link}
use Rattle.once_laws.proofs.calls.OneEntry.{entry_free, one_stored}
use Rattle.once_laws.proofs.calls.OpenEntries.{script_call}
use Rattle.once_laws.proofs.calls.RanAgrees.{all_came, all_of_calls, of_call, of_did, of_item}
use Rattle.once_laws.proofs.calls.ShownSources.{ByCommit, ByItem, IsTold, ShownBy, shown_by}
use Rattle.once_laws.proofs.values.StoredCommits.{stores_item}
use Rattle.once_laws.proofs.values.StoredSendings.{StoredSending, stored_sending}
use Rattle.once_laws.proofs.values.Storing.{OfSession, of_session}
use Rattle.once_laws.proofs.calls.ToldCalls.{sent_at}

-- LISTS -------------------------------------------------------------------------------------------

one_found : {A : Type 0} (found : Option A) (a b : A) → found ≡ Some a → found ≡ Some b → a ≡ b
one_found found a b one other = let same : Some a ≡ Some b = sym one ∙ other in let is : a ≡ b = cc in is

-- the last piece is of the last call
pub last_piece : (before : List ServedCall) (did : ServedCall) (pieces : List Piece) (found : Option Piece) (piece : Piece) → are_pieces (before ++ did ∷ []) pieces ≡ true → last_or found pieces ≡ Some piece → is_piece_of did piece ≡ true
last_piece [] did [] found piece are is = absurd (let none : ⊥ = cc in none)
last_piece [] did (one ∷ []) found piece are is = let same : one ≡ piece = cc in ap (is_piece_of did) (sym same) ∙ are
last_piece [] did (one ∷ next ∷ pieces) found piece are is = absurd (let none : ⊥ = cc in none)
last_piece (first ∷ []) did [] found piece are is = absurd (let none : ⊥ = cc in none)
last_piece (first ∷ []) did (one ∷ pieces) found piece are is = last_piece [] did pieces (Some one) piece (and_parts (same_piece first.piece one) (are_pieces (did ∷ []) pieces) are).1 is
last_piece (first ∷ next ∷ before) did [] found piece are is = absurd (let none : ⊥ = cc in none)
last_piece (first ∷ next ∷ before) did (one ∷ pieces) found piece are is = last_piece (next ∷ before) did pieces (Some one) piece (and_parts (same_piece first.piece one) (are_pieces (next ∷ (before ++ did ∷ [])) pieces) are).1 is

last_all : (test : ServedCall → Bool) (before : List ServedCall) (did : ServedCall) → list_all test (before ++ did ∷ []) ≡ true → test did ≡ true
last_all test before did all = (and_parts (test did) true (and_parts (list_all test before) (list_all test (did ∷ [])) (sym (list_all-append test before (did ∷ [])) ∙ all)).1).0

-- none is answered so where nothing was answered
stopped_not : {A : Type 0} (answers : List Answer) → ends_committed answers ≡ true → (length answers == 0) ≡ true → A
stopped_not [] ends none = absurd (let never : ⊥ = cc in never)
stopped_not (one ∷ answers) ends none = let zero_is : suc (length answers) ≡ 0 = eq_from (suc (length answers)) 0 none in absurd (let never : ⊥ = omega (arith, zero_is) in never)

-- AN ENTRY ----------------------------------------------------------------------------------------

pub any_link : (test : Link → Bool) (links : List Link) (number : ℕ) → option_map_or test (link_at links number) false ≡ true → list_any test links ≡ true
any_link test links zero is = absurd (let none : ⊥ = cc in none)
any_link test links (suc index) is = by (slice_get links index) refl is
  where
    by : (found : Option Link) → slice_get links index ≡ found → option_map_or test found false ≡ true → list_any test links ≡ true
    by None at is = absurd (let none : ⊥ = cc in none)
    by (Some link) at is = at_any test links index link at is

module _ (t : Traced) (whole : Invariant t) (shows : show_replies t ≡ true) (fit : end_fittingly t ≡ true) (alone : store_alone t ≡ true) (ran : commits_ran t ≡ true) (granted : Draw → Bool) (e : EntryAt t whole ran) (shown : ShownCall)
    (at_shown : slice_get e.course.report.calls e.sending.at ≡ Some shown) where
  abbrev x : Ltxid
  x = e.sending.ltxid

  abbrev run : EntryRan t e.course e.sending e.entry
  run = entry_ran t whole ran e

  equal : e.entry.ltxid ≡ x
  equal = (same_ltxid_decides e.entry.ltxid x).0 e.same

  here : has_entry t.entries x ≡ true
  here = at_any (λ entry. same_ltxid x entry.ltxid) t.entries e.index e.entry e.at_entry ((same_ltxid_decides x e.entry.ltxid).1 (sym equal))

  -- its call was shown as committed
  ends : ends_committed shown.answers ≡ true
  ends =
      by e.sending.taken refl
      (at_all (is_known t.blocked e.course.report.calls e.course.report.outcomes) (commit_sendings e.course) e.place e.sending (at_all (are_known t) (courses_of t) e.number e.course whole.once.known e.at_course) e.at_sending)
    where
      untold : Bool
      untold = is_untold t.blocked e.course.report.calls e.course.report.outcomes e.sending

      shown_as : (test : List Answer → Bool) → shows_at test e.course.report.calls e.sending.at ≡ true → test shown.answers ≡ true
      shown_as test is = sym (ap (λ (found : Option ShownCall). option_map_or (λ call. test call.answers) found false) at_shown) ∙ is

      open_so : untold ≡ true → ends_committed shown.answers ≡ true
      open_so is =
          cases
          (or_cases ((e.sending.at == length e.course.report.calls) && not (list_any (tells_completed x) e.course.report.outcomes)) (holds t.blocked x || shows_at ends_committed e.course.report.calls e.sending.at) is)
        where
          cases : (((e.sending.at == length e.course.report.calls) && not (list_any (tells_completed x) e.course.report.outcomes)) ≡ true) ⊎ ((holds t.blocked x || shows_at ends_committed e.course.report.calls e.sending.at) ≡ true) → ends_committed shown.answers ≡ true
          cases (inl next) =
              let at : e.sending.at ≡ length e.course.report.calls = eq_from e.sending.at (length e.course.report.calls) (and_parts (e.sending.at == length e.course.report.calls) _ next).0 in
              let within : e.sending.at < length e.course.report.calls = slice_get_within e.course.report.calls e.sending.at shown at_shown in
              absurd (let never : ⊥ = omega (arith, at, within) in never)
          cases (inr other) = pick (or_cases (holds t.blocked x) (shows_at ends_committed e.course.report.calls e.sending.at) other)
            where
              pick : (holds t.blocked x ≡ true) ⊎ (shows_at ends_committed e.course.report.calls e.sending.at ≡ true) → ends_committed shown.answers ≡ true
              pick (inl blocked) = absurd (not_both (holds t.blocked x) blocked (entry_free t whole x here))
              pick (inr committed) = shown_as ends_committed committed

      by : (taken : Option (List Answer)) → e.sending.taken ≡ taken → option_map_or (λ answers. shows_at (same_answers answers) e.course.report.calls e.sending.at) taken untold ≡ true → ends_committed shown.answers ≡ true
      by None is known = open_so known
      by (Some answers) is known =
          ap ends_committed (sym ((same_answers_decide answers shown.answers).0 (shown_as (same_answers answers) known))) ∙ (sym (ap (λ (taken : Option (List Answer)). option_map_or ends_committed taken true) is) ∙ e.may)

  -- BY AN OUTCOME ---------------------------------------------------------------------------------

  -- it is an entry of this run
  stores : stores_alone e.entry ≡ true
  stores = implied (same_ltxid e.entry.ltxid x) (stores_alone e.entry) e.same (at_all (λ entry. implies (same_ltxid entry.ltxid x) (stores_alone entry)) t.entries e.index e.entry all e.at_entry)
    where
      outside : (entry : Entry) → is_foreign t entry ≡ true → implies (same_ltxid entry.ltxid x) (stores_alone entry) ≡ true
      outside entry foreign = by (same_ltxid entry.ltxid x) refl
        where
          by : (same : Bool) → same_ltxid entry.ltxid x ≡ same → implies same (stores_alone entry) ≡ true
          by false is = refl
          by true is =
              let there : is_of_link t entry ≡ true =
              ap (λ (y : Ltxid). list_any (λ link. option_map_or (λ session. is_of_session session y) link.session false) t.machine.links) ((same_ltxid_decides entry.ltxid x).0 is)
              ∙ any_link (λ link. option_map_or (λ session. is_of_session session x) link.session false) t.machine.links e.sending.connection (on_link t whole ran e) in
              absurd (not_both (is_of_link t entry) there (not-true (is_of_link t entry) foreign))

      inside : (entry : Entry) → stores_alone entry ≡ true → implies (same_ltxid entry.ltxid x) (stores_alone entry) ≡ true
      inside entry is = by (same_ltxid entry.ltxid x)
        where
          by : (same : Bool) → implies same (stores_alone entry) ≡ true
          by false = refl
          by true = is

      all : list_all (λ entry. implies (same_ltxid entry.ltxid x) (stores_alone entry)) t.entries ≡ true
      all =
          ap (list_all (λ entry. implies (same_ltxid entry.ltxid x) (stores_alone entry))) (sym (take-append-drop t.image t.entries))
          ∙ (list_all-append (λ (entry : Entry). implies (same_ltxid entry.ltxid x) (stores_alone entry)) (take t.image t.entries) (drop t.image t.entries)
          ∙ and_from (list_all (λ entry. implies (same_ltxid entry.ltxid x) (stores_alone entry)) (take t.image t.entries)) (list_all (λ entry. implies (same_ltxid entry.ltxid x) (stores_alone entry)) (drop t.image t.entries))
          (weaker_all (is_foreign t) (λ entry. implies (same_ltxid entry.ltxid x) (stores_alone entry)) (take t.image t.entries) outside (and_parts (list_all (is_foreign t) (take t.image t.entries)) _ whole.once.completed).0)
          (weaker_all stores_alone (λ entry. implies (same_ltxid entry.ltxid x) (stores_alone entry)) (drop t.image t.entries) inside alone))

  by_commit : (call : Call) → slice_get e.course.request.calls e.sending.at ≡ Some call → is_lone_commit call ≡ true → shows_commit shown ≡ true → (piece : Piece) → last_or None e.entry.pieces ≡ Some piece → tells_as granted shown piece.answers piece.draws ≡ true
  by_commit call script lone plain piece last =
      and_from (same_answers piece.answers shown.answers) (same_draws (filter granted piece.draws) (filter granted shown.draws))
      ((same_answers_decide piece.answers shown.answers).1 ((same_answers_decide piece.answers (answer.Committed ∷ [])).0 stored.0 ∙ sym ((same_answers_decide shown.answers (answer.Committed ∷ [])).0 told.0)))
      ((same_draws_decide (filter granted piece.draws) (filter granted shown.draws)).1 (ap (filter granted) (none piece.draws stored.1 ∙ sym (none shown.draws told.1))))
    where
      none : (draws : List Draw) → (length draws == 0) ≡ true → draws ≡ []
      none draws is = nil_from_length draws (eq_from (length draws) 0 is)

      same_call_so : call ≡ piece.call
      same_call_so =
          one_found (slice_get e.course.request.calls e.sending.at) call run.did.piece.call script (script_call e.course e.sending.at run.did (last_script t whole ran e))
          ∙ same_piece_call run.did piece (last_piece run.before run.did e.entry.pieces None piece run.pieces last)

      alone_so : commits_alone piece ≡ true
      alone_so = sym (ap (λ (found : Option Piece). option_map_or commits_alone found true) last) ∙ stores

      stored : (same_answers piece.answers (answer.Committed ∷ []) ≡ true) × ((length piece.draws == 0) ≡ true)
      stored =
          and_parts (same_answers piece.answers (answer.Committed ∷ [])) (length piece.draws == 0)
          (implied (is_lone_commit piece.call) (same_answers piece.answers (answer.Committed ∷ []) && (length piece.draws == 0)) (ap is_lone_commit (sym same_call_so) ∙ lone) alone_so)

      told : (same_answers shown.answers (answer.Committed ∷ []) ≡ true) × ((length shown.draws == 0) ≡ true)
      told = and_parts (same_answers shown.answers (answer.Committed ∷ [])) (length shown.draws == 0) plain

  -- BY AN ITEM ------------------------------------------------------------------------------------

  module _ (index : ℕ) (link : Link) (there : slice_get t.machine.links index ≡ Some link) (held : list_any (λ other. other == suc index) (held_in e.course.steps) ≡ true) (place : ℕ) (one : Handled) (at : slice_get link.served place ≡ Some one) (own : owned_by e.course.owner one.sent ≡ true)
      (call : one.sent.call ≡ e.sending.at) (told : IsTold shown one.served.item) where
    all_calls : list_all (λ h. of_call h.sent.frame h.served.item) link.served ≡ true
    all_calls = all_of_calls 0 link.served (handled t whole shows fit index link there e.number e.course e.at_course held)

    called : is_call one.sent.frame ≡ true
    called = sym (ap (of_call one.sent.frame) told.is) ∙ at_all (λ h. of_call h.sent.frame h.served.item) link.served place one all_calls at

    sending : StoredSending t whole shows fit index link there e.number e.course e.at_course held place one at own called
    sending =
        stored_sending t whole shows fit index link there e.number e.course e.at_course held place one at own called
        (ap (stores_item (stood_in t link.held)) told.is ∙ (ap ends_committed ((same_answers_decide told.answers shown.answers).0 told.answered) ∙ ends))

    same_id : x ≡ sending.x
    same_id = one_stored t whole e.course settled (transaction_at calls e.sending.at) x sending.x here sending.entry mine its
      where
        calls : List ShownCall
        calls = e.course.report.calls

        of_this : ℕ → Bool
        of_this n = transaction_at calls n == transaction_at calls e.sending.at

        settled : all_but_last t calls (commit_sendings e.course) ≡ true
        settled = at_all (λ c. all_but_last t c.report.calls (commit_sendings c)) (courses_of t) e.number e.course whole.once.settled e.at_course

        mine : list_any (under_at of_this x) (commit_sendings e.course) ≡ true
        mine =
            at_any (under_at of_this x) (commit_sendings e.course) e.place e.sending e.at_sending
            (and_from (of_this e.sending.at) (is_under x e.sending) (eq_to (transaction_at calls e.sending.at) (transaction_at calls e.sending.at) refl)
            (and_from (is_open_or_committed e.sending) (same_ltxid x x) e.may ((same_ltxid_decides x x).1 refl)))

        its : list_any (under_at of_this sending.x) (commit_sendings e.course) ≡ true
        its =
            any_goes (under_at (λ n. n == one.sent.call) sending.x) (under_at of_this sending.x)
            (λ s is.
            let parts = and_parts (s.at == one.sent.call) (is_under sending.x s) is in
            and_from (of_this s.at) (is_under sending.x s) (eq_to (transaction_at calls s.at) (transaction_at calls e.sending.at) (ap (transaction_at calls) (eq_from s.at one.sent.call parts.0 ∙ call))) parts.1)
            (commit_sendings e.course) sending.sent

    -- it is the entry's own connection
    on_it : suc index ≡ e.sending.connection
    on_it = by (suc index == e.sending.connection) refl
      where
        mine : OfSession x run.link.session
        mine = of_session x run.link.session (sym (ap (λ (found : Option Link). option_map_or (λ l. option_map_or (λ session. is_of_session session x) l.session false) found false) run.there) ∙ on_link t whole ran e)

        its : OfSession sending.x link.session
        its = of_session sending.x link.session sending.own

        by : (same : Bool) → (suc index == e.sending.connection) ≡ same → suc index ≡ e.sending.connection
        by true is = eq_from (suc index) e.sending.connection is
        by false is =
            absurd (links_apart t.machine.links (suc index) e.sending.connection link run.link its.one mine.one (λ equal. not_both (suc index == e.sending.connection) (eq_to (suc index) e.sending.connection equal) is) there run.there its.is mine.is
            (and_parts _ (list_all _ (sessions_of t)) whole.orderly.basic.apart).0 (sym its.same ∙ (ap session_of (sym same_id) ∙ mine.same)))

    link_is : link ≡ run.link
    link_is = one_found (slice_get t.machine.links index) link run.link there (ap (link_at t.machine.links) on_it ∙ run.there)

    -- a call of this index was served there once
    abbrev tells : Sent → List Answer → List Draw → Bool
    tells sent answers draws = implies (owned_by e.course.owner sent && (sent.call == e.sending.at)) (tells_as granted shown answers draws)

    was : WasSent link place one
    was = sent_at t whole index link there place one at

    module _ (p : ℕ) (h : Handled) (at_h : slice_get link.served p ≡ Some h) where
      its : WasSent link p h
      its = sent_at t whole index link there p h at_h

      same_one : is_call h.sent.frame ≡ true → (owned_by e.course.owner h.sent && (h.sent.call == e.sending.at)) ≡ true → h ≡ one
      same_one called_h is =
          let parts = and_parts (owned_by e.course.owner h.sent) (h.sent.call == e.sending.at) is in
          let places : p ≡ place =
          same_place (λ sent. owned_by e.course.owner sent && is_call sent.frame) (start t whole shows fit index link there e.number e.course e.at_course held) link.sent
          (in_a_row t whole shows fit index link there e.number e.course e.at_course held) p place its.sent was.sent its.at
          (and_from (owned_by e.course.owner its.sent) (is_call its.sent.frame) (ap (is_of e.course.owner) (sym its.owner) ∙ parts.0) (sym (calls_same h.sent.frame its.sent.frame its.frame) ∙ called_h)) was.at
          (and_from (owned_by e.course.owner was.sent) (is_call was.sent.frame) (ap (is_of e.course.owner) (sym was.owner) ∙ own) (sym (calls_same one.sent.frame was.sent.frame was.frame) ∙ called))
          (sym its.call ∙ (eq_from h.sent.call e.sending.at parts.1 ∙ (sym call ∙ was.call))) in
          one_found (slice_get link.served p) h one at_h (ap (slice_get link.served) places ∙ at)

      item_is : (it : Item) → h.served.item ≡ it → of_call h.sent.frame it ≡ true → of_item tells h.sent it ≡ true
      item_is (item.Call marked called_so answers draws) is call_h = by (owned_by e.course.owner h.sent && (h.sent.call == e.sending.at)) refl
        where
          by : (test : Bool) → (owned_by e.course.owner h.sent && (h.sent.call == e.sending.at)) ≡ test → implies test (tells_as granted shown answers draws) ≡ true
          by false so = refl
          by true so =
              let items : item.Call marked called_so answers draws ≡ item.Call false told.called told.answers told.draws = sym is ∙ (ap (λ (a : Handled). a.served.item) (same_one call_h so) ∙ told.is) in
              let answers_are : answers ≡ told.answers = cc in
              let draws_are : draws ≡ told.draws = cc in
              and_from (same_answers answers shown.answers) (same_draws (filter granted draws) (filter granted shown.draws)) (ap (λ (a : List Answer). same_answers a shown.answers) answers_are ∙ told.answered)
              (ap (λ (d : List Draw). same_draws (filter granted d) (filter granted shown.draws)) draws_are ∙ same_granted granted told.draws shown.draws told.drew)
      item_is (item.CrashedCall marked called_so) is call_h = by (owned_by e.course.owner h.sent && (h.sent.call == e.sending.at)) refl
        where
          by : (test : Bool) → (owned_by e.course.owner h.sent && (h.sent.call == e.sending.at)) ≡ test → implies test (tells_as granted shown [] []) ≡ true
          by false so = refl
          by true so =
              absurd (let items : item.CrashedCall marked called_so ≡ item.Call false told.called told.answers told.draws = sym is ∙ (ap (λ (a : Handled). a.served.item) (same_one call_h so) ∙ told.is) in let never : ⊥ = cc in never)
      item_is it is call_h = refl

    did_told : of_did tells run.did ≡ true
    did_told =
        last_all (of_did tells) run.before run.did
        (at_all (list_all (of_did tells)) (ran_by run.link).over e.entry.ltxid.number (run.before ++ run.did ∷ []) (subst (λ (l : Link). list_all (list_all (of_did tells)) (ran_by l).over ≡ true) link_is came) run.over)
      where
        items : list_all (λ h. of_item tells h.sent h.served.item) link.served ≡ true
        items =
            by_index (λ h. of_item tells h.sent h.served.item) link.served
            (λ p h at_h. item_is p h at_h h.served.item refl (at_all (λ a. of_call a.sent.frame a.served.item) link.served p h all_calls at_h))

        came : list_all (list_all (of_did tells)) (ran_by link).over ≡ true
        came = (all_came tells link.served (record { settings = []; at_start = []; pieces = []; over = []; starts = [] }) items (refl, refl)).1

    did_agrees : (same_answers run.did.piece.answers shown.answers ≡ true) × (same_draws (filter granted run.did.piece.draws) (filter granted shown.draws) ≡ true)
    did_agrees =
        and_parts (same_answers run.did.piece.answers shown.answers) (same_draws (filter granted run.did.piece.draws) (filter granted shown.draws))
        (implied (owned_by e.course.owner run.did.sent && (run.did.sent.call == e.sending.at)) (tells_as granted shown run.did.piece.answers run.did.piece.draws)
        (and_from (owned_by e.course.owner run.did.sent) (run.did.sent.call == e.sending.at) run.own (eq_to run.did.sent.call e.sending.at run.index)) did_told)

    by_item : (piece : Piece) → last_or None e.entry.pieces ≡ Some piece → tells_as granted shown piece.answers piece.draws ≡ true
    by_item piece last =
        cases (or_cases (same_piece run.did.piece piece) (is_stopped_piece run.did && same_call run.did.piece.call piece.call) (last_piece run.before run.did e.entry.pieces None piece run.pieces last))
      where
        cases : (same_piece run.did.piece piece ≡ true) ⊎ ((is_stopped_piece run.did && same_call run.did.piece.call piece.call) ≡ true) → tells_as granted shown piece.answers piece.draws ≡ true
        cases (inl same) =
            ap (λ (p : Piece). tells_as granted shown p.answers p.draws) (sym ((same_piece_decides run.did.piece piece).0 same))
            ∙ and_from (same_answers run.did.piece.answers shown.answers) (same_draws (filter granted run.did.piece.draws) (filter granted shown.draws)) did_agrees.0 did_agrees.1
        cases (inr stopped) =
            stopped_not run.did.piece.answers (ap ends_committed ((same_answers_decide run.did.piece.answers shown.answers).0 did_agrees.0) ∙ ends) (and_parts (is_stopped_piece run.did) (same_call run.did.piece.call piece.call) stopped).0

  -- its last piece is as its call was shown
  pub last_told : (piece : Piece) → last_or None e.entry.pieces ≡ Some piece → tells_as granted shown piece.answers piece.draws ≡ true
  last_told piece last = by (shown_by t whole e.number e.course e.at_course e.sending.at shown at_shown)
    where
      on : (number : ℕ) (link : Link) → link_at t.machine.links number ≡ Some link → list_any (λ other. other == number) (held_in e.course.steps) ≡ true → (place : ℕ) (one : Handled) → slice_get link.served place ≡ Some one → owned_by e.course.owner one.sent ≡ true
          → one.sent.call ≡ e.sending.at → IsTold shown one.served.item → tells_as granted shown piece.answers piece.draws ≡ true
      on zero link there held place one at own call told = absurd (let none : ⊥ = cc in none)
      on (suc index) link there held place one at own call told = by_item index link there held place one at own call told piece last

      by : ShownBy t e.course e.sending.at shown → tells_as granted shown piece.answers piece.draws ≡ true
      by (ByItem found) = on found.number found.link found.there found.had found.place found.one found.at found.own found.call found.told
      by (ByCommit call script lone plain) = by_commit call script lone plain piece last
