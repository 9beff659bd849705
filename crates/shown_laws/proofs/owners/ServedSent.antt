-- The calls that a session served since a Begin are those of the frames that it served.
use Rattle.std.proofs.Common.{◌≡◌, refl, sym, ap, subst, ◌∙◌, Bool, true, false, ℕ, ◌&&◌, ◌||◌, List, [], ◌∷◌, ◌++◌, map, fold, reverse, Option, Some, None}
use Rattle.std.specs.Prelude.{not, is_none}
use Rattle.std.proofs.lemmas.Bool.{and_parts}
use Rattle.std.proofs.lemmas.List.{append-nil, append_assoc, reverse-append}
use Rattle.svc_values.specs.declared.call.Call.{Call}
use Rattle.svc_values.specs.declared.draw.Draw.{Draw}
use Rattle.svc_values.specs.declared.frame.Up.{Up}
use Rattle.svc_values.specs.declared.frame.Up.TheVariants as up
use Rattle.svc_values.specs.meaning.Same.{same_bool, same_call}
use Rattle.svc_values.specs.SameLaws.{same_call_decides}
use Rattle.outage_schedule.specs.declared.item.Item.{Item}
use Rattle.outage_schedule.specs.declared.item.Item.TheVariants as item
use Rattle.shown_clauses.specs.meaning.Links.{Marked}
use Rattle.world_model.specs.meaning.Crashing.{is_crashed_item}
use Rattle.world_model.specs.meaning.Frames.{Sent, Handled}
use Rattle.world_model.specs.meaning.Serving.{is_blocked, is_item_of, reply_of}
use Rattle.invariant_laws.specs.Shown.{is_marked}
use Rattle.world_model.specs.records.Wire.{counted_with, handled_from, is_handled, same_replies}
use Rattle.shown_laws.specs.ServedSent.{none_blocked, ServesItsFrames}
use Rattle.shown_laws.specs.TurnRows.{ServedOf, NoneServed, OneServed}
use Rattle.shown_laws.specs.TurnSent.{calls_with, sent_since}
use Rattle.shown_laws.specs.TurnsServed.{calls_after, calls_served}

-- the calls, the newest first, and their frames in order
data SameCalls : List Marked → List Sent → Type 0 where
  NoCalls : SameCalls [] []
  CallMore : (first : Sent) (replay : Bool) (kept : List Draw) (call : Call) (calls : List Marked) (sent : List Sent) → first.frame ≡ up.Call replay kept call → SameCalls calls sent
      → SameCalls (record { replay = replay; call = call } ∷ calls) (sent ++ first ∷ [])

in_order : (calls tail : List Marked) (sent rest : List Sent) → SameCalls calls sent → ServedOf tail rest → ServedOf (reverse calls ++ tail) (sent ++ rest)
in_order _ tail _ rest NoCalls last = last
in_order _ tail _ rest (CallMore first replay kept call calls sent frame same) last =
    let one : Marked = record { replay = replay; call = call } in
    subst (λ (served : List Marked). ServedOf served ((sent ++ first ∷ []) ++ rest)) (sym (ap (λ (list : List Marked). list ++ tail) (reverse-append (one ∷ []) calls) ∙ append_assoc (reverse calls) (one ∷ []) tail))
    (subst (λ (frames : List Sent). ServedOf (reverse calls ++ one ∷ tail) frames) (sym (append_assoc sent (first ∷ []) rest))
    (in_order calls (one ∷ tail) sent (first ∷ rest) same (OneServed first replay kept call tail rest frame last)))

abbrev Paired : Option (List Marked) → List Sent → Type 0
Paired None sent = Unit {0}
Paired (Some calls) sent = SameCalls calls sent

-- ONE FRAME ---------------------------------------------------------------------------------------

abbrev fits : Up → Item → Bool
fits frame one = is_item_of frame one || is_crashed_item frame one

only_left : (test : Bool) → (test || false) ≡ true → test ≡ true
only_left true is = refl
only_left false is = is

bools_are : (a b : Bool) → same_bool a b ≡ true → a ≡ b
bools_are true true same = refl
bools_are false false same = refl
bools_are true false same = absurd (let none : ⊥ = cc in none)
bools_are false true same = absurd (let none : ⊥ = cc in none)

-- a call more, of a frame with this mark
more : (calls : Option (List Marked)) (sent : List Sent) (first : Sent) (replay : Bool) (kept : List Draw) (call : Call) (marked : Bool) (served : Call) → first.frame ≡ up.Call replay kept call → marked ≡ replay → served ≡ call → Paired calls sent
    → Paired (calls_after calls (item.CrashedCall marked served)) (sent ++ first ∷ [])
more None sent first replay kept call marked served frame mark same is = tt
more (Some calls) sent first replay kept call marked served frame mark same is =
    CallMore first marked kept served calls sent (frame ∙ (ap (λ (m : Bool). up.Call m kept call) (sym mark) ∙ ap (λ (c : Call). up.Call marked kept c) (sym same))) is

paired_step : (calls : Option (List Marked)) (sent : List Sent) (first : Sent) (frame : Up) (one : Item) → first.frame ≡ frame → fits frame one ≡ true → not (is_blocked one && is_marked frame) ≡ true → Paired calls sent
    → Paired (calls_after calls one) (calls_with sent first frame)
paired_step calls sent first up.Connect item.Connect frame its unblocked is = is
paired_step calls sent first (up.Begin settings) (item.Begin begun) frame its unblocked is = NoCalls
paired_step calls sent first (up.Call replay kept call) (item.Call marked served answers draws) frame its unblocked is =
    let parts = and_parts (same_bool marked replay) (same_call served call) (only_left (same_bool marked replay && same_call served call) its) in
    more calls sent first replay kept call marked served frame (bools_are marked replay parts.0) ((same_call_decides served call).0 parts.1) is
paired_step calls sent first (up.Call true kept call) (item.Blocked served) frame its unblocked is = absurd (let none : ⊥ = cc in none)
paired_step calls sent first (up.Call false kept call) (item.Blocked served) frame its unblocked is =
    more calls sent first false kept call false served frame refl ((same_call_decides served call).0 (only_left (same_call served call) its)) is
paired_step calls sent first (up.Call replay kept call) (item.CrashedCall marked served) frame its unblocked is =
    let parts = and_parts (same_bool marked replay) (same_call served call) its in
    more calls sent first replay kept call marked served frame (bools_are marked replay parts.0) ((same_call_decides served call).0 parts.1) is
paired_step calls sent first (up.Outcome x) (item.Outcome asked result) frame its unblocked is = is
paired_step calls sent first (up.Outcome x) (item.CrashedOutcome asked) frame its unblocked is = is
paired_step calls sent first up.End item.End frame its unblocked is = is
paired_step calls sent first up.Close item.Close frame its unblocked is = is
paired_step calls sent first frame one same its unblocked is = absurd (let none : ⊥ = cc in none)

handled_fits : (commits : ℕ) (one : Handled) → is_handled commits one ≡ true → fits one.sent.frame one.served.item ≡ true
handled_fits commits one is =
    by (is_item_of one.sent.frame one.served.item) (is_crashed_item one.sent.frame one.served.item) (same_replies one.reply (reply_of one.served.session commits one.served.item)) (is_none one.reply) is
  where
    by : (a b c d : Bool) → ((a && c) || (b && d)) ≡ true → (a || b) ≡ true
    by true b c d is = refl
    by false true c d is = refl
    by false false c d is = is

-- ALL FRAMES --------------------------------------------------------------------------------------

walked : (served : List Handled) (commits : ℕ) (calls : Option (List Marked)) (sent : List Sent) → handled_from commits served ≡ true → none_blocked served ≡ true → Paired calls sent
    → Paired (fold (λ c one. calls_after c one.served.item) calls served) (fold (λ c one. calls_with c one one.frame) sent (map (λ one. one.sent) served))
walked [] commits calls sent handled unblocked is = is
walked (one ∷ served) commits calls sent handled unblocked is =
    let now : ℕ = counted_with commits one.served.item in
    let here = and_parts (is_handled now one) (handled_from now served) handled in
    let free = and_parts (not (is_blocked one.served.item && is_marked one.sent.frame)) (none_blocked served) unblocked in
    walked served now (calls_after calls one.served.item) (calls_with sent one.sent one.sent.frame) here.1 free.1
    (paired_step calls sent one.sent one.sent.frame one.served.item refl (handled_fits now one here.0) free.0 is)

pub serves_its_frames : ServesItsFrames
serves_its_frames served calls behind handled unblocked since =
    let paired : Paired (calls_served served) (sent_since (map (λ one. one.sent) served)) = walked served 0 None [] handled unblocked tt in
    let same : SameCalls calls (sent_since (map (λ one. one.sent) served)) = subst (λ (c : Option (List Marked)). Paired c (sent_since (map (λ one. one.sent) served))) since paired in
    subst (λ (list : List Marked). ServedOf list (sent_since (map (λ one. one.sent) served) ++ behind)) (append-nil (reverse calls))
    (in_order calls [] (sent_since (map (λ one. one.sent) served)) behind same (NoneServed behind))
