-- The unmarked calls that a request sent on a connection agree with what the scan of its steps
-- says, and go on to.
use Rattle.std.proofs.Common.{◌≡◌, refl, sym, ap, subst, ◌∙◌, Bool, true, false, ℕ, ◌&&◌, fold, filter, append_assoc, List, [], ◌∷◌, ◌++◌, map, Option, Some, None}
use Rattle.std.specs.Prelude.{◌==◌, is_some, if◌then◌else◌}
use Rattle.std.specs.List.{list_all}
use Rattle.std.specs.Option.{option_map_or}
use Rattle.std.specs.Cmp.Lexicographic.{pointwise}
use Rattle.std.proofs.lemmas.Bool.{and_parts, and_from}
use Rattle.std.proofs.lemmas.List.{append-nil}
use Rattle.std.proofs.lemmas.List.Elements.{filter-append}
use Rattle.svc_values.specs.declared.answer.Answer.{Answer}
use Rattle.svc_values.specs.declared.entry.Ltxid.{Ltxid}
use Rattle.svc_values.specs.declared.frame.Up.{Up}
use Rattle.svc_values.specs.declared.frame.Up.TheVariants as up
use Rattle.svc_values.specs.declared.frame.Down.TheVariants as down
use Rattle.svc_values.specs.meaning.Same.{same_call}
use Rattle.svc_values.specs.SameLaws.{same_call_decides}
use Rattle.pool_core.specs.declared.answers.Back.{Back}
use Rattle.pool_core.specs.declared.answers.Back.TheVariants as back
use Rattle.client_model.specs.declared.act.Hold.{Hold}
use Rattle.client_model.specs.declared.act.Hold.TheVariants as hold
use Rattle.client_model.specs.declared.act.Shown.{Shown}
use Rattle.client_model.specs.declared.input.Input.{Input}
use Rattle.client_model.specs.declared.input.Input.TheVariants.{Start, Waiting, Lent, Opened, TryFailed, Took, Gone}
use Rattle.world_model.specs.meaning.Acting.{closing, sent_by}
use Rattle.world_model.specs.meaning.Frames.{Owner, Sent}
use Rattle.world_model.specs.Parts.{Sending, Scan, is_unmarked_frame, is_unmarked, with_taken, answered, sent_on, implies}
use Rattle.world_model.specs.Sames.{same_owner, owned_by}
use Rattle.world_model.specs.records.Script.{is_sending_of, reverse_onto}
use Rattle.world_model.proofs.wire.SameSelf.{owner_self}

-- the unmarked calls of this request
abbrev pub calls_of : Owner → List Sent → List Sent
calls_of owner sents = filter (λ sent. owned_by owner sent && is_unmarked sent) sents

-- the sendings on this connection, the first one first
abbrev pub on_of : ℕ → List Sending → List Sending
on_of number sendings = reverse_onto (filter (λ sending. sending.connection == number) sendings) []

abbrev pub agrees : Owner → ℕ → List Sent → List Sending → Bool
agrees owner number sents sendings = pointwise is_sending_of (calls_of owner sents) (on_of number sendings)

-- LISTS -------------------------------------------------------------------------------------------

pub onto_append : (xs done : List Sending) → reverse_onto xs done ≡ reverse_onto xs [] ++ done
onto_append [] done = refl
onto_append (x ∷ xs) done =
    onto_append xs (x ∷ done) ∙ (sym (append_assoc (reverse_onto xs []) (x ∷ []) done) ∙ ap (λ (first : List Sending). first ++ done) (sym (onto_append xs (x ∷ []))))

pair_last : (xs : List Sent) (ys : List Sending) (x : Sent) (y : Sending) → pointwise is_sending_of xs ys ≡ true → is_sending_of x y ≡ true → pointwise is_sending_of (xs ++ x ∷ []) (ys ++ y ∷ []) ≡ true
pair_last [] [] x y all here = and_from (is_sending_of x y) true here refl
pair_last [] (b ∷ ys) x y all here = absurd (let none : ⊥ = cc in none)
pair_last (a ∷ xs) [] x y all here = absurd (let none : ⊥ = cc in none)
pair_last (a ∷ xs) (b ∷ ys) x y all here =
    let parts = and_parts (is_sending_of a b) (pointwise is_sending_of xs ys) all in
    and_from (is_sending_of a b) (pointwise is_sending_of (xs ++ x ∷ []) (ys ++ y ∷ [])) parts.0 (pair_last xs ys x y parts.1 here)

-- the last of the sendings is told its answers
last_taken : (answers : List Answer) (xs : List Sent) (ys : List Sending) (y : Sending) → pointwise is_sending_of xs (ys ++ y ∷ []) ≡ true → pointwise is_sending_of xs (ys ++ record y { taken = Some answers } ∷ []) ≡ true
last_taken answers [] [] y all = absurd (let none : ⊥ = cc in none)
last_taken answers [] (b ∷ ys) y all = absurd (let none : ⊥ = cc in none)
last_taken answers (a ∷ xs) [] y all = all
last_taken answers (a ∷ xs) (b ∷ ys) y all =
    let parts = and_parts (is_sending_of a b) (pointwise is_sending_of xs (ys ++ y ∷ [])) all in
    and_from (is_sending_of a b) (pointwise is_sending_of xs (ys ++ record y { taken = Some answers } ∷ [])) parts.0 (last_taken answers xs ys y parts.1)

-- ANSWERS -----------------------------------------------------------------------------------------

module _ (owner : Owner) (number : ℕ) (sents : List Sent) where
  taken_agrees : (answers : List Answer) (sendings : List Sending) → agrees owner number sents sendings ≡ true → agrees owner number sents (with_taken answers sendings) ≡ true
  taken_agrees answers [] all = all
  taken_agrees answers (sending ∷ earlier) all = by (sending.connection == number) all
    where
      earlier_on : List Sending
      earlier_on = filter (λ (s : Sending). s.connection == number) earlier

      by : (here : Bool) → pointwise is_sending_of (calls_of owner sents) (reverse_onto (if here then sending ∷ earlier_on else earlier_on) []) ≡ true
          → pointwise is_sending_of (calls_of owner sents) (reverse_onto (if here then record sending { taken = Some answers } ∷ earlier_on else earlier_on) []) ≡ true
      by false all = all
      by true all =
          subst (λ (on : List Sending). pointwise is_sending_of (calls_of owner sents) on ≡ true) (sym (onto_append earlier_on (record sending { taken = Some answers } ∷ [])))
          (last_taken answers (calls_of owner sents) (reverse_onto earlier_on []) sending
          (subst (λ (on : List Sending). pointwise is_sending_of (calls_of owner sents) on ≡ true) (onto_append earlier_on (sending ∷ [])) all))

  pub answered_agrees : (input : Input) (shown : Option Shown) (sendings : List Sending) → agrees owner number sents sendings ≡ true → agrees owner number sents (answered input shown sendings) ≡ true
  answered_agrees (Took (down.Reply answers draws x) alive) (Some shown) sendings all = taken_agrees answers sendings all
  answered_agrees (Took (down.Reply answers draws x) alive) None sendings all = all
  answered_agrees (Took (down.Hello x) alive) shown sendings all = all
  answered_agrees (Took (down.OutcomeIs committed completed) alive) shown sendings all = all
  answered_agrees (Took (down.OutcomeRefused ahead horizon) alive) shown sendings all = all
  answered_agrees (Took down.Blocked alive) shown sendings all = all
  answered_agrees (Took (down.Refused cause) alive) shown sendings all = all
  answered_agrees Start shown sendings all = all
  answered_agrees Waiting shown sendings all = all
  answered_agrees (Lent connection ltxid) shown sendings all = all
  answered_agrees (Opened connection) shown sendings all = all
  answered_agrees TryFailed shown sendings all = all
  answered_agrees (Gone event) shown sendings all = all

-- FRAMES ------------------------------------------------------------------------------------------

-- an unmarked call is sent under an identifier, at the place of the next call
abbrev pub sends_at : Scan → ℕ → Up → Bool
sends_at scan call frame = implies (is_unmarked_frame frame) (is_some scan.held && (call == scan.shown))

module _ (owner : Owner) (number call : ℕ) (scan : Scan) where
  -- another frame
  other_agrees : (sents : List Sent) (sendings : List Sending) (frame : Up) → is_unmarked_frame frame ≡ false → agrees owner number sents sendings ≡ true → agrees owner number (sents ++ sent_by owner call frame ∷ []) sendings ≡ true
  other_agrees sents sendings frame other all =
      subst (λ (calls : List Sent). pointwise is_sending_of calls (on_of number sendings) ≡ true) (sym (filter-append (λ (sent : Sent). owned_by owner sent && is_unmarked sent) sents (sent_by owner call frame ∷ [])))
      (subst (λ (calls : List Sent). pointwise is_sending_of calls (on_of number sendings) ≡ true) (sym (ap (λ (more : List Sent). calls_of owner sents ++ more) none ∙ append-nil (calls_of owner sents))) all)
    where
      both : (mine unmarked : Bool) → unmarked ≡ false → (mine && unmarked) ≡ false
      both true unmarked is = is
      both false unmarked is = refl

      none : calls_of owner (sent_by owner call frame ∷ []) ≡ []
      none = ap (λ (test : Bool). if test then sent_by owner call frame ∷ [] else []) (both (owned_by owner (sent_by owner call frame)) (is_unmarked_frame frame) other)

  call_agrees : (sents : List Sent) (sendings : List Sending) (kept : _) (one : _) (x : Ltxid) → (scan.connection == number) ≡ true → (call == scan.shown) ≡ true → agrees owner number sents sendings ≡ true
      → agrees owner number (sents ++ sent_by owner call (up.Call false kept one) ∷ [])
      (record { owner = scan.owner; connection = scan.connection; ltxid = x; at = scan.shown; call = one; taken = None } ∷ sendings) ≡ true
  call_agrees sents sendings kept one x here place all =
      subst (λ (calls : List Sent). pointwise is_sending_of calls (on_of number (next ∷ sendings)) ≡ true) (sym (filter-append (λ (sent : Sent). owned_by owner sent && is_unmarked sent) sents (sent ∷ [])))
      (subst (λ (more : List Sent). pointwise is_sending_of (calls_of owner sents ++ more) (on_of number (next ∷ sendings)) ≡ true) (sym mine)
      (subst (λ (on : List Sending). pointwise is_sending_of (calls_of owner sents ++ sent ∷ []) on ≡ true) (sym on_is)
      (pair_last (calls_of owner sents) (on_of number sendings) sent next all (and_from (call == scan.shown) (same_call one one) place ((same_call_decides one one).1 refl)))))
    where
      sent : Sent
      sent = sent_by owner call (up.Call false kept one)

      next : Sending
      next = record { owner = scan.owner; connection = scan.connection; ltxid = x; at = scan.shown; call = one; taken = None }

      mine : calls_of owner (sent ∷ []) ≡ sent ∷ []
      mine = ap (λ (test : Bool). if test then sent ∷ [] else []) (and_from (owned_by owner sent) true (owner_self owner) refl)

      on_is : on_of number (next ∷ sendings) ≡ on_of number sendings ++ next ∷ []
      on_is =
          ap (λ (test : Bool). reverse_onto (if test then next ∷ filter (λ (s : Sending). s.connection == number) sendings else filter (λ (s : Sending). s.connection == number) sendings) []) here
          ∙ onto_append (filter (λ (s : Sending). s.connection == number) sendings) (next ∷ [])

  frame_agrees : (sents : List Sent) (sendings : List Sending) (frame : Up) → (scan.connection == number) ≡ true → sends_at scan call frame ≡ true → agrees owner number sents sendings ≡ true
      → agrees owner number (sents ++ sent_by owner call frame ∷ []) (sent_on scan sendings frame) ≡ true
  frame_agrees sents sendings (up.Call false kept one) here sends all = by scan.held (and_parts (is_some scan.held) (call == scan.shown) sends).0
    where
      by : (held : Option Ltxid) → is_some held ≡ true
          → agrees owner number (sents ++ sent_by owner call (up.Call false kept one) ∷ [])
          (option_map_or (λ x. record { owner = scan.owner; connection = scan.connection; ltxid = x; at = scan.shown; call = one; taken = None } ∷ sendings) held sendings) ≡ true
      by None is = absurd (let none : ⊥ = cc in none)
      by (Some x) is = call_agrees sents sendings kept one x here (and_parts (is_some scan.held) (call == scan.shown) sends).1 all
  frame_agrees sents sendings (up.Call true kept one) here sends all = other_agrees sents sendings (up.Call true kept one) refl all
  frame_agrees sents sendings up.Connect here sends all = other_agrees sents sendings up.Connect refl all
  frame_agrees sents sendings (up.Begin settings) here sends all = other_agrees sents sendings (up.Begin settings) refl all
  frame_agrees sents sendings (up.Outcome x) here sends all = other_agrees sents sendings (up.Outcome x) refl all
  frame_agrees sents sendings up.End here sends all = other_agrees sents sendings up.End refl all
  frame_agrees sents sendings up.Close here sends all = other_agrees sents sendings up.Close refl all

  pub frames_agree : (frames : List Up) (sents : List Sent) (sendings : List Sending) → (scan.connection == number) ≡ true → list_all (sends_at scan call) frames ≡ true → agrees owner number sents sendings ≡ true
      → agrees owner number (sents ++ map (sent_by owner call) frames) (fold (sent_on scan) sendings frames) ≡ true
  frames_agree [] sents sendings here sends all = subst (λ (s : List Sent). agrees owner number s sendings ≡ true) (sym (append-nil sents)) all
  frames_agree (frame ∷ frames) sents sendings here sends all =
      let parts = and_parts (sends_at scan call frame) (list_all (sends_at scan call) frames) sends in
      subst (λ (s : List Sent). agrees owner number s (fold (sent_on scan) sendings (frame ∷ frames)) ≡ true) (append_assoc sents (sent_by owner call frame ∷ []) (map (sent_by owner call) frames))
      (frames_agree frames (sents ++ sent_by owner call frame ∷ []) (sent_on scan sendings frame) here parts.1 (frame_agrees sents sendings frame here parts.0 all))

  -- a Close besides
  pub closing_agrees : (held : Hold) (how : Back) (sents : List Sent) (sendings : List Sending) → agrees owner number sents sendings ≡ true → agrees owner number (sents ++ map (sent_by owner call) (closing held how)) sendings ≡ true
  closing_agrees hold.Keep how sents sendings all = subst (λ (s : List Sent). agrees owner number s sendings ≡ true) (sym (append-nil sents)) all
  closing_agrees hold.Drop how sents sendings all = subst (λ (s : List Sent). agrees owner number s sendings ≡ true) (sym (append-nil sents)) all
  closing_agrees hold.GiveBack back.Closed sents sendings all = other_agrees sents sendings up.Close refl all
  closing_agrees hold.GiveBack back.Idle sents sendings all = subst (λ (s : List Sent). agrees owner number s sendings ≡ true) (sym (append-nil sents)) all

  -- sendings on another connection
  elsewhere : (sendings : List Sending) (frame : Up) → (scan.connection == number) ≡ false → on_of number (sent_on scan sendings frame) ≡ on_of number sendings
  elsewhere sendings (up.Call false kept one) there = by scan.held
    where
      by : (held : Option Ltxid) → on_of number (option_map_or (λ x. record { owner = scan.owner; connection = scan.connection; ltxid = x; at = scan.shown; call = one; taken = None } ∷ sendings) held sendings) ≡ on_of number sendings
      by None = refl
      by (Some x) =
          let next : Sending = record { owner = scan.owner; connection = scan.connection; ltxid = x; at = scan.shown; call = one; taken = None } in
          ap (λ (test : Bool). reverse_onto (if test then next ∷ filter (λ (s : Sending). s.connection == number) sendings else filter (λ (s : Sending). s.connection == number) sendings) []) there
  elsewhere sendings (up.Call true kept one) there = refl
  elsewhere sendings up.Connect there = refl
  elsewhere sendings (up.Begin settings) there = refl
  elsewhere sendings (up.Outcome x) there = refl
  elsewhere sendings up.End there = refl
  elsewhere sendings up.Close there = refl

  pub all_elsewhere : (frames : List Up) (sendings : List Sending) → (scan.connection == number) ≡ false → on_of number (fold (sent_on scan) sendings frames) ≡ on_of number sendings
  all_elsewhere [] sendings there = refl
  all_elsewhere (frame ∷ frames) sendings there = all_elsewhere frames (sent_on scan sendings frame) there ∙ elsewhere sendings frame there

-- frames of another request
pub strangers_agree : (owner other : Owner) (number call : ℕ) (frames : List Up) (sents : List Sent) (sendings : List Sending) → same_owner owner other ≡ false → agrees owner number sents sendings ≡ true
    → agrees owner number (sents ++ map (sent_by other call) frames) sendings ≡ true
strangers_agree owner other number call frames sents sendings differs all =
    subst (λ (calls : List Sent). pointwise is_sending_of calls (on_of number sendings) ≡ true)
    (sym (filter-append (λ (sent : Sent). owned_by owner sent && is_unmarked sent) sents (map (sent_by other call) frames) ∙ (ap (λ (more : List Sent). calls_of owner sents ++ more) (none frames) ∙ append-nil (calls_of owner sents)))) all
  where
    none : (frames : List Up) → calls_of owner (map (sent_by other call) frames) ≡ []
    none [] = refl
    none (frame ∷ frames) =
        ap (λ (test : Bool). if test && is_unmarked_frame frame then sent_by other call frame ∷ calls_of owner (map (sent_by other call) frames) else calls_of owner (map (sent_by other call) frames)) differs ∙ none frames
