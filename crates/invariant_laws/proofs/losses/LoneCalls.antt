-- A call that an outcome shows is a lone commit: its entry is completed, and ends with the call
-- that was sent under its identifier.
use Rattle.std.proofs.Common.{◌≡◌, refl, sym, ap, ◌∙◌, Bool, true, false, ℕ, ◌+◌, ◌&&◌, length, drop, take, List, [], ◌∷◌, ◌++◌, filter, Option, Some, None, ◌⊎◌, inl, inr}
use Rattle.std.specs.Prelude.{◌==◌, not, slice_get, find, option_map}
use Rattle.std.specs.List.{list_all, list_any}
use Rattle.std.specs.Option.{option_map_or}
use Rattle.std.proofs.lemmas.Bool.{and_parts, and_from, or_cases, or_left, or_right, not-true}
use Rattle.std.proofs.lemmas.List.{take-append-drop}
use Rattle.std.proofs.lemmas.List.Folds.{list_all-append}
use Rattle.svc_values.specs.declared.call.Call.{Call}
use Rattle.svc_values.specs.declared.entry.Entry.{Entry}
use Rattle.svc_values.specs.declared.entry.Ltxid.{Ltxid}
use Rattle.svc_values.specs.declared.entry.Piece.{Piece}
use Rattle.svc_values.specs.declared.frame.Down.TheVariants as down
use Rattle.svc_values.specs.declared.frame.Up.{Up}
use Rattle.svc_values.specs.declared.frame.Up.TheVariants as up
use Rattle.svc_values.specs.meaning.Calls.{is_lone_commit}
use Rattle.svc_values.specs.meaning.Identifiers.{same_ltxid, session_of}
use Rattle.svc_values.specs.meaning.Same.{same_bool, same_call, same_piece}
use Rattle.svc_values.specs.SameLaws.{same_bool_decides, same_call_decides, same_ltxid_decides, same_piece_decides}
use Rattle.run_clauses.specs.meaning.Outcomes.{completed_of}
use Rattle.client_model.specs.declared.input.Input.TheVariants.{Took}
use Rattle.client_model.specs.meaning.States.{Asking}
use Rattle.client_model.specs.meaning.Terms.{Asked}
use Rattle.world_model.specs.records.Basic.{lives_rightly, none_behind}
use Rattle.world_model.specs.meaning.Clients.{Client, Doing, client_at}
use Rattle.world_model.specs.meaning.Frames.{Sent}
use Rattle.invariant_laws.specs.Invariant.{Invariant}
use Rattle.world_model.specs.meaning.Machines.{Machine}
use Rattle.world_model.specs.records.Number.{ahead_rightly, is_ahead, is_counted, last_served_made}
use Rattle.invariant_laws.specs.Once.{last_lone, is_of_link, is_foreign, is_completed_rightly}
use Rattle.world_model.specs.Parts.{held_number, implies, is_commit_call, is_commit_frame, is_out, is_rep, is_unmarked, number_of, out_frame}
use Rattle.invariant_laws.specs.Same.{ServedCall, are_pieces, is_piece_of, is_ran, is_stopped_piece, ran_by}
use Rattle.world_model.specs.Sames.{owned_by}
use Rattle.invariant_laws.specs.Shown.{calls_on, in_row, is_call, is_scripts}
use Rattle.world_model.specs.Traced.{Traced, Course, course_now}
use Rattle.world_model.proofs.Offered.{at_link, filter_all, weaker_all, HasStepped, at_event, known_of, any_links, number_among, implied, last_all, eq_from, not_both}
use Rattle.invariant_laws.proofs.losses.AskedAnswers.{told_now}
use Rattle.invariant_laws.proofs.losses.AskedSendings.{AskedOn, asked_on, asks_before, unfiltered}
use Rattle.invariant_laws.proofs.sendings.CommittedSendings.{CommitOut, commit_out, commit_unmarked}
use Rattle.invariant_laws.proofs.entries.EntryLinks.{link_ran}
use Rattle.invariant_laws.proofs.losses.KeptLost.{found_passes}
use Rattle.invariant_laws.proofs.losses.KeptUnasked.{held_session}
use Rattle.invariant_laws.proofs.history.LastRan.{OutRan, is_call_in, out_ran}
use Rattle.invariant_laws.proofs.losses.LostKept.{both_all}

-- LISTS -------------------------------------------------------------------------------------------

-- the last piece is of the call that ran last
pub same_piece_call : (did : ServedCall) (piece : Piece) → is_piece_of did piece ≡ true → did.piece.call ≡ piece.call
same_piece_call did piece is = by (or_cases (same_piece did.piece piece) (is_stopped_piece did && same_call did.piece.call piece.call) is)
  where
    by : (same_piece did.piece piece ≡ true) ⊎ ((is_stopped_piece did && same_call did.piece.call piece.call) ≡ true) → did.piece.call ≡ piece.call
    by (inl whole) = ap (λ (one : Piece). one.call) ((same_piece_decides did.piece piece).0 whole)
    by (inr stopped) = (same_call_decides did.piece.call piece.call).0 (and_parts (is_stopped_piece did) (same_call did.piece.call piece.call) stopped).1

-- piece by piece
pub parts_of : (did : ServedCall) (dids : List ServedCall) (piece : Piece) (pieces : List Piece) → are_pieces (did ∷ dids) (piece ∷ pieces) ≡ true → (is_piece_of did piece ≡ true) × (are_pieces dids pieces ≡ true)
parts_of did [] piece [] are = (are, refl)
parts_of did [] piece (next ∷ pieces) are = absurd (let none : ⊥ = cc in none)
parts_of did (next ∷ dids) piece pieces are = let parts = and_parts (same_piece did.piece piece) (are_pieces (next ∷ dids) pieces) are in (or_left (same_piece did.piece piece) _ parts.0, parts.1)

pub none_of : {A : Type 0} (did : ServedCall) (dids : List ServedCall) → are_pieces (did ∷ dids) [] ≡ true → A
none_of did [] are = absurd (let none : ⊥ = cc in none)
none_of did (next ∷ dids) are = absurd (let none : ⊥ = cc in none)

lone_last : (before : List ServedCall) (did : ServedCall) (pieces : List Piece) → are_pieces (before ++ did ∷ []) pieces ≡ true → last_lone pieces ≡ true → is_lone_commit did.piece.call ≡ true
lone_last before did [] are lone = absurd (let none : ⊥ = cc in none)
lone_last [] did (piece ∷ []) are lone = ap is_lone_commit (same_piece_call did piece are) ∙ lone
lone_last [] did (piece ∷ next ∷ pieces) are lone = absurd (let none : ⊥ = cc in none)
lone_last (first ∷ before) did (piece ∷ []) are lone = left before (parts_of first (before ++ did ∷ []) piece [] are).1
  where
    left : {A : Type 0} (some : List ServedCall) → are_pieces (some ++ did ∷ []) [] ≡ true → A
    left [] are = none_of did [] are
    left (one ∷ some) are = none_of one (some ++ did ∷ []) are
lone_last (first ∷ before) did (piece ∷ next ∷ pieces) are lone = lone_last before did (next ∷ pieces) (parts_of first (before ++ did ∷ []) piece (next ∷ pieces) are).1 lone

-- of an entry that is there, completed
module _ (test : Entry → Bool) where
  completed_passes : (entries : List Entry) (x : Ltxid) → list_all test entries ≡ true → option_map_or (same_bool true) (completed_of entries x) false ≡ true → (entry : Entry) × ((test entry ≡ true) × ((same_ltxid entry.ltxid x ≡ true) × (entry.completed ≡ true)))
  completed_passes entries x all here = by (find (λ entry. same_ltxid entry.ltxid x) entries) refl here
    where
      by : (found : Option Entry) → find (λ entry. same_ltxid entry.ltxid x) entries ≡ found → option_map_or (same_bool true) (option_map (λ entry. entry.completed) found) false ≡ true
          → (entry : Entry) × ((test entry ≡ true) × ((same_ltxid entry.ltxid x ≡ true) × (entry.completed ≡ true)))
      by None is here = absurd (let none : ⊥ = cc in none)
      by (Some entry) is here =
          let both = found_passes test (λ one. same_ltxid one.ltxid x) entries entry is all in
          (entry, (both.0, (both.1, sym ((same_bool_decides true entry.completed).0 here))))

-- a commit is a call
commit_call : (frame : Up) → is_commit_frame frame ≡ true → is_call frame ≡ true
commit_call (up.Call replay kept call) is = refl
commit_call frame is = absurd (let none : ⊥ = cc in none)

-- A STATE -----------------------------------------------------------------------------------------

module _ (t : Traced) (whole : Invariant t) (who : ℕ) (client : Client) (here : client_at t.machine.clients who ≡ Some client) (doing : Doing) (now : client.now ≡ Some doing) (asking : Asking)
    (stands : option_map_or (same_bool true) (completed_of t.entries asking.ltxid) false ≡ true) (phase : doing.talk.phase ≡ Asked asking) where
  abbrev before : Course
  before = course_now t.setting who (length client.past) doing

  abbrev count : ℕ
  count = length before.report.calls

  abbrev x : Ltxid
  x = asking.ltxid

  on : AskedOn t whole who client here doing now asking true stands phase
  on = asked_on t whole who client here doing now asking true stands phase

  named : on.link.session ≡ Some (session_of x)
  named = held_session t whole.orderly.basic.named whole.orderly.basic.apart on.number on.link x on.there on.held

  ahead : ahead_rightly t on.link ≡ true
  ahead = at_link (ahead_rightly t) t.machine.links on.number on.link whole.orderly.number.ahead on.there

  -- an entry of the connection's session is one of this run
  run_entry : list_all (λ entry. implies (same_ltxid entry.ltxid x) (is_completed_rightly entry)) t.entries ≡ true
  run_entry =
      ap (list_all (λ entry. implies (same_ltxid entry.ltxid x) (is_completed_rightly entry))) (sym (take-append-drop t.image t.entries))
      ∙ (list_all-append (λ (entry : Entry). implies (same_ltxid entry.ltxid x) (is_completed_rightly entry)) (take t.image t.entries) (drop t.image t.entries)
      ∙ and_from (list_all (λ entry. implies (same_ltxid entry.ltxid x) (is_completed_rightly entry)) (take t.image t.entries)) (list_all (λ entry. implies (same_ltxid entry.ltxid x) (is_completed_rightly entry)) (drop t.image t.entries))
      (weaker_all (is_foreign t) (λ entry. implies (same_ltxid entry.ltxid x) (is_completed_rightly entry)) (take t.image t.entries) outside parts.0)
      (weaker_all is_completed_rightly (λ entry. implies (same_ltxid entry.ltxid x) (is_completed_rightly entry)) (drop t.image t.entries)
      (λ entry here. or_right (not (same_ltxid entry.ltxid x)) (is_completed_rightly entry) here) parts.1))
    where
      parts : (list_all (is_foreign t) (take t.image t.entries) ≡ true) × (list_all is_completed_rightly (drop t.image t.entries) ≡ true)
      parts = and_parts (list_all (is_foreign t) (take t.image t.entries)) (list_all is_completed_rightly (drop t.image t.entries)) whole.once.completed

      outside : (entry : Entry) → is_foreign t entry ≡ true → implies (same_ltxid entry.ltxid x) (is_completed_rightly entry) ≡ true
      outside entry foreign = by (same_ltxid entry.ltxid x) refl
        where
          by : (same : Bool) → same_ltxid entry.ltxid x ≡ same → implies same (is_completed_rightly entry) ≡ true
          by false is = refl
          by true is =
              let session : session_of entry.ltxid ≡ session_of x = ap session_of ((same_ltxid_decides entry.ltxid x).0 is) in
              let here : is_of_link t entry ≡ true =
              any_links (session_of entry.ltxid) t.machine.links ∙ number_among t.machine.links on.number on.link (session_of entry.ltxid) on.there (named ∙ ap Some (sym session)) in
              absurd (not_both (is_of_link t entry) here (not-true (is_of_link t entry) foreign))

  -- what ran last under the identifier is what is out
  ran : OutRan on.link
  ran =
      out_ran on.link (known_of t whole.orderly on.number on.link on.there)
      (and_parts (none_behind on.link.served) _ (at_link lives_rightly t.machine.links on.number on.link whole.orderly.basic.life on.there)).0 (number_of t.entries on.link)
      (eq_from (number_of t.entries on.link) (held_number on.link + 1) on.ahead) (at_link (is_counted t) t.machine.links on.number on.link whole.orderly.number.counted on.there)
      (and_parts (last_served_made on.link) (not (list_any is_commit_call on.link.up))
      (and_parts (is_out on.link) _ (implied (is_ahead t on.link) (is_out on.link && (last_served_made on.link && not (list_any is_commit_call on.link.up))) on.ahead ahead)).1).0

  -- and is a lone commit
  ran_lone : is_lone_commit ran.did.piece.call ≡ true
  ran_lone =
      let found = completed_passes (λ entry. is_ran t entry && implies (same_ltxid entry.ltxid x) (is_completed_rightly entry)) t.entries x
      (both_all (is_ran t) (λ entry. implies (same_ltxid entry.ltxid x) (is_completed_rightly entry)) t.entries whole.ran run_entry) stands in
      let parts = and_parts (is_ran t found.0) (implies (same_ltxid found.0.ltxid x) (is_completed_rightly found.0)) found.1.0 in
      let its : found.0.ltxid ≡ x = (same_ltxid_decides found.0.ltxid x).0 found.1.1.0 in
      let rightly : is_completed_rightly found.0 ≡ true = implied (same_ltxid found.0.ltxid x) (is_completed_rightly found.0) found.1.1.0 parts.1 in
      let pieces = link_ran t whole.orderly.basic.apart found.0 on.number on.link on.there (named ∙ ap (λ (y : Ltxid). Some (session_of y)) (sym its)) parts.0 in
      let number : found.0.ltxid.number ≡ held_number on.link = ap (λ (y : Ltxid). y.number) its ∙ sym (ap (λ (held : Option Ltxid). option_map_or (λ (y : Ltxid). y.number) held 0) on.held) in
      let over : slice_get (ran_by on.link).over found.0.ltxid.number ≡ Some (ran.before ++ ran.did ∷ []) = ap (slice_get (ran_by on.link).over) number ∙ ran.over in
      lone_last ran.before ran.did found.0.pieces (sym (ap (λ (some : Option (List ServedCall)). option_map_or (λ dids. are_pieces dids found.0.pieces) some false) over) ∙ pieces)
      (sym ((same_bool_decides found.0.completed (last_lone found.0.pieces)).0 rightly) ∙ found.1.1.1)

  pub asked_lone : (call : Call) → slice_get doing.request.calls count ≡ Some call → is_lone_commit call ≡ true
  asked_lone call is = ap is_lone_commit (sym same) ∙ ran_lone
    where
      out : CommitOut on.link
      out = commit_out t on.link on.ahead ahead

      at : out.sent.call ≡ count
      at =
          eq_from out.sent.call count
          (implied (is_unmarked out.sent) (out.sent.call == count) (commit_unmarked out.sent.frame out.commits)
          (sym (ap (λ (found : Option Sent). option_map_or (λ sent. implies (is_unmarked sent) (sent.call == count)) found true) out.is)
          ∙ implied (is_out on.link) (option_map_or (λ sent. implies (is_unmarked sent) (sent.call == count)) (out_frame on.link) true)
          (and_parts (is_out on.link) _ (implied (is_ahead t on.link) (is_out on.link && (last_served_made on.link && not (list_any is_commit_call on.link.up))) on.ahead ahead)).0 on.next))

      mine : owned_by before.owner out.sent ≡ true
      mine = sym (ap (λ (found : Option Sent). option_map_or (owned_by before.owner) found false) out.is) ∙ on.own

      -- it is of the script's call
      scripts : list_all (λ (sent : Sent). is_scripts before sent sent.frame) (calls_on before on.link) ≡ true
      scripts = (and_parts (list_all (λ (sent : Sent). is_scripts before sent sent.frame) (calls_on before on.link)) _ (and_parts (in_row _ (calls_on before on.link)) _ on.row).1).0

      script : is_scripts before out.sent out.sent.frame ≡ true
      script =
          implied (owned_by before.owner out.sent && is_call out.sent.frame) (is_scripts before out.sent out.sent.frame)
          (and_from (owned_by before.owner out.sent) (is_call out.sent.frame) mine (commit_call out.sent.frame out.commits))
          (last_all (λ (sent : Sent). implies (owned_by before.owner sent && is_call sent.frame) (is_scripts before sent sent.frame)) (filter is_rep on.link.sent) out.sent out.is
          (filter_all (λ (sent : Sent). implies (owned_by before.owner sent && is_call sent.frame) (is_scripts before sent sent.frame)) is_rep on.link.sent
          (unfiltered (λ (sent : Sent). is_scripts before sent sent.frame) (λ (sent : Sent). owned_by before.owner sent && is_call sent.frame) on.link.sent scripts)))

      -- and so is what ran
      called : is_call_in ran.did.piece.call out.sent.frame ≡ true
      called = sym (ap (λ (found : Option Sent). option_map_or (λ (sent : Sent). is_call_in ran.did.piece.call sent.frame) found false) out.is) ∙ ran.called

      same : ran.did.piece.call ≡ call
      same = by out.sent.frame called script
        where
          by : (frame : Up) → is_call_in ran.did.piece.call frame ≡ true → is_scripts before out.sent frame ≡ true → ran.did.piece.call ≡ call
          by (up.Call replay kept sent) called script =
              let here : slice_get before.request.calls out.sent.call ≡ Some call = ap (slice_get before.request.calls) at ∙ is in
              (same_call_decides ran.did.piece.call sent).0 called ∙ (same_call_decides sent call).0 (sym (ap (λ (found : Option Call). option_map_or (same_call sent) found false) here) ∙ script)
          by frame called script = absurd (let none : ⊥ = cc in none)

-- A STEP ------------------------------------------------------------------------------------------

pub lone_now : (t : Traced) (whole : Invariant t) (who : ℕ) (n : Machine) (step : HasStepped t.setting (at_event t.machine) who n) (asking : Asking) (alive : Bool) → step.input ≡ Took (down.OutcomeIs true true) alive → step.before.talk.phase ≡ Asked asking
    → (call : Call) → slice_get step.before.request.calls (length (course_now t.setting who (length step.client.past) step.before).report.calls) ≡ Some call → is_lone_commit call ≡ true
lone_now t whole who n step asking alive input phase call is =
    asked_lone t whole who step.client step.here step.before (asks_before t who n step asking phase) asking (told_now t whole.orderly whole.shown.answers who n step asking true true alive input phase) phase call is
