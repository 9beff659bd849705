-- Each piece of an entry drew the granted values with which its call was shown, and the last one
-- has the shown answers, where it was shown.
use Rattle.std.proofs.Common.{◌≡◌, refl, sym, ap, ◌∙◌, arith, Bool, true, false, ℕ, zero, suc, ◌+◌, drop, filter, length, List, [], ◌∷◌, ◌++◌, Option, Some, None}
use Rattle.std.specs.Prelude.{◌==◌, slice_get}
use Rattle.std.specs.List.{list_all, last_or}
use Rattle.std.specs.Option.{option_map_or}
use Rattle.std.proofs.lemmas.Bool.{and_parts, and_from}
use Rattle.svc_values.specs.declared.draw.Draw.{Draw}
use Rattle.svc_values.specs.declared.entry.Piece.{Piece}
use Rattle.svc_values.specs.meaning.Same.{same_answers, same_draws, same_piece}
use Rattle.svc_values.specs.SameLaws.{same_piece_decides}
use Rattle.outage_schedule.specs.declared.request.ShownCall.{ShownCall}
use Rattle.once_laws.specs.CallEndings.{end_fittingly}
use Rattle.once_laws.specs.CommitAnswers.{store_alone}
use Rattle.invariant_laws.specs.EntryParts.{drew_from, drew_so, ends_answered, of_entries}
use Rattle.invariant_laws.specs.Invariant.{Invariant}
use Rattle.once_laws.specs.Redrawn.{repeats_redraw}
use Rattle.invariant_laws.specs.Same.{ServedCall, are_pieces, is_scripts, scripts_from}
use Rattle.world_model.specs.Sames.{owned_by}
use Rattle.once_laws.specs.Showing.{show_replies}
use Rattle.world_model.specs.Traced.{Traced, Course}
use Rattle.invariant_laws.specs.Verified.{answers_known, are_verified, commits_ran}
use Rattle.once_laws.proofs.Offered.{tells_as, EntryRan, drop_got, more_pieces, no_pieces, EntryAt, begins, ends, entry_places_entry_ran as entry_ran, first, of_each, row, last_told, did_so}
use Rattle.same_laws.proofs.entries.EntryTold.{inside_told, scripts_front}
use Rattle.world_model.proofs.Offered.{eq_from}

drop_none : (shown : List ShownCall) (index : ℕ) → slice_get shown index ≡ None → drop index shown ≡ []
drop_none [] zero at = refl
drop_none [] (suc index) at = refl
drop_none (call ∷ shown) zero at = absurd (let none : ⊥ = cc in none)
drop_none (call ∷ shown) (suc index) at = drop_none shown index at

-- piece by piece: the draws of those before the last, and of the last one
drew_all : (granted : Draw → Bool) (course : Course) (index : ℕ) (before : List ServedCall) (did : ServedCall) (pieces : List Piece) → scripts_from course index before ≡ true → list_all (did_so course (tells_as granted)) before ≡ true → are_pieces (before ++ did ∷ []) pieces ≡ true
    → ((piece : Piece) → last_or None pieces ≡ Some piece → (call : ShownCall) → slice_get course.report.calls (index + length before) ≡ Some call → same_draws (filter granted piece.draws) (filter granted call.draws) ≡ true)
    → drew_from granted pieces (drop index course.report.calls) ≡ true
drew_all granted course index before did [] scripts all are last = refl
drew_all granted course index [] did (piece ∷ []) scripts all are last = by (slice_get course.report.calls index) refl
  where
    by : (found : Option ShownCall) → slice_get course.report.calls index ≡ found → drew_from granted (piece ∷ []) (drop index course.report.calls) ≡ true
    by None at = ap (drew_from granted (piece ∷ [])) (drop_none course.report.calls index at)
    by (Some call) at =
        let same : index + 0 ≡ index = omega arith in
        ap (drew_from granted (piece ∷ [])) (drop_got course.report.calls index call at)
        ∙ and_from (same_draws (filter granted piece.draws) (filter granted call.draws)) true (last piece refl call (ap (slice_get course.report.calls) same ∙ at)) refl
drew_all granted course index [] did (piece ∷ next ∷ pieces) scripts all are last = absurd (let none : ⊥ = cc in none)
drew_all granted course index (one ∷ before) did (piece ∷ []) scripts all are last = no_pieces before did (more_pieces one before did piece [] are).1
drew_all granted course index (one ∷ before) did (piece ∷ next ∷ pieces) scripts all are last =
    by (slice_get course.report.calls one.sent.call) refl parts.0 (drew_all granted course (index + 1) before did (next ∷ pieces) row_so.1 parts.1 two.1 later)
  where
    parts : (did_so course (tells_as granted) one ≡ true) × (list_all (did_so course (tells_as granted)) before ≡ true)
    parts = and_parts (did_so course (tells_as granted) one) (list_all (did_so course (tells_as granted)) before) all

    row_so : (is_scripts course index one ≡ true) × (scripts_from course (index + 1) before ≡ true)
    row_so = and_parts (is_scripts course index one) (scripts_from course (index + 1) before) scripts

    two : (same_piece one.piece piece ≡ true) × (are_pieces (before ++ did ∷ []) (next ∷ pieces) ≡ true)
    two = more_pieces one before did piece (next ∷ pieces) are

    at : one.sent.call ≡ index
    at = eq_from one.sent.call index (and_parts (one.sent.call == index) _ (and_parts (owned_by course.owner one.sent) _ row_so.0).1).0

    later : (last_one : Piece) → last_or None (next ∷ pieces) ≡ Some last_one → (call : ShownCall) → slice_get course.report.calls ((index + 1) + length before) ≡ Some call → same_draws (filter granted last_one.draws) (filter granted call.draws) ≡ true
    later last_one is call got = let same : index + suc (length before) ≡ (index + 1) + length before = omega arith in last last_one is call (ap (slice_get course.report.calls) same ∙ got)

    by : (found : Option ShownCall) → slice_get course.report.calls one.sent.call ≡ found → option_map_or (λ shown. tells_as granted shown one.piece.answers one.piece.draws) found false ≡ true
        → drew_from granted (next ∷ pieces) (drop (index + 1) course.report.calls) ≡ true → drew_from granted (piece ∷ next ∷ pieces) (drop index course.report.calls) ≡ true
    by None is told rest = absurd (let none : ⊥ = cc in none)
    by (Some shown) is told rest =
        ap (drew_from granted (piece ∷ next ∷ pieces)) (drop_got course.report.calls index shown (ap (slice_get course.report.calls) (sym at) ∙ is))
        ∙ and_from (same_draws (filter granted piece.draws) (filter granted shown.draws)) (drew_from granted (next ∷ pieces) (drop (index + 1) course.report.calls))
        (ap (λ (p : Piece). same_draws (filter granted p.draws) (filter granted shown.draws)) (sym ((same_piece_decides one.piece piece).0 two.0))
        ∙ (and_parts (same_answers one.piece.answers shown.answers) (same_draws (filter granted one.piece.draws) (filter granted shown.draws)) told).1) rest

module _ (t : Traced) (whole : Invariant t) (ran : commits_ran t ≡ true) (granted : Draw → Bool) (verified : are_verified t ≡ true) (answered : answers_known t ≡ true) (redrew : repeats_redraw granted t ≡ true) (shows : show_replies t ≡ true) (fit : end_fittingly t ≡ true)
    (alone : store_alone t ≡ true) where
  entry_drew : (e : EntryAt t whole ran) → drew_so granted e.course e.sending e.entry ≡ true
  entry_drew e =
      ap (λ (n : ℕ). drew_from granted e.entry.pieces (drop n e.course.report.calls)) (begins t whole ran e)
      ∙ drew_all granted e.course (first t whole ran e) run.before run.did e.entry.pieces (scripts_front e.course run.before run.did (first t whole ran e) (row t whole ran e)) (inside_told t whole ran granted verified answered redrew e) run.pieces
      (λ piece is call at.
      (and_parts (same_answers piece.answers call.answers) (same_draws (filter granted piece.draws) (filter granted call.draws)) (last_told t whole shows fit alone ran granted e call (ap (slice_get e.course.report.calls) (ends t whole ran e) ∙ at) piece is)).1)
    where
      run : EntryRan t e.course e.sending e.entry
      run = entry_ran t whole ran e

  entry_answered : (e : EntryAt t whole ran) → ends_answered e.course e.sending e.entry ≡ true
  entry_answered e = by (slice_get e.course.report.calls e.sending.at) refl
    where
      on : (call : ShownCall) → slice_get e.course.report.calls e.sending.at ≡ Some call → (found : Option Piece) → last_or None e.entry.pieces ≡ found → option_map_or (λ piece. same_answers piece.answers call.answers) found true ≡ true
      on call at None is = refl
      on call at (Some piece) is = (and_parts (same_answers piece.answers call.answers) (same_draws (filter granted piece.draws) (filter granted call.draws)) (last_told t whole shows fit alone ran granted e call at piece is)).0

      by : (found : Option ShownCall) → slice_get e.course.report.calls e.sending.at ≡ found → option_map_or (λ call. option_map_or (λ piece. same_answers piece.answers call.answers) (last_or None e.entry.pieces) true) found true ≡ true
      by None at = refl
      by (Some call) at = on call at (last_or None e.entry.pieces) refl

  pub all_drew : of_entries (drew_so granted) t ≡ true
  all_drew = of_each t whole ran (drew_so granted) entry_drew

  pub all_answered : of_entries ends_answered t ≡ true
  all_answered = of_each t whole ran ends_answered entry_answered
