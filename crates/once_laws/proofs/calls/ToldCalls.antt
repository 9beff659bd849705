-- A call without the mark that was served, and the reply to which was taken, was shown to its
-- request with the answers of its item.
use Rattle.std.proofs.Common.{◌≡◌, refl, sym, ap, subst, ◌∙◌, arith, Bool, true, false, ℕ, suc, zero, ◌<◌, ◌&&◌, length, List, [], ◌∷◌, ◌++◌, map, Option, Some, None, ◌⊎◌, inl, inr}
use Rattle.std.specs.Prelude.{is_none, filter_map, option_map, slice_get}
use Rattle.std.specs.List.{cons_option}
use Rattle.std.specs.Option.{option_map_or}
use Rattle.std.proofs.lemmas.Bool.{and_parts, and_from, or_cases}
use Rattle.svc_values.specs.declared.answer.Answer.{Answer}
use Rattle.svc_values.specs.declared.call.Call.{Call}
use Rattle.svc_values.specs.declared.draw.Draw.{Draw}
use Rattle.svc_values.specs.declared.entry.Ltxid.{Ltxid}
use Rattle.svc_values.specs.declared.frame.Up.{Up}
use Rattle.svc_values.specs.declared.frame.Up.TheVariants as up
use Rattle.svc_values.specs.declared.frame.Down.{Down}
use Rattle.svc_values.specs.declared.frame.Down.TheVariants as down
use Rattle.svc_values.specs.meaning.Identifiers.{same_ltxid}
use Rattle.svc_values.specs.meaning.Same.{same_answers, same_draws}
use Rattle.svc_values.specs.SameLaws.{same_answers_decide}
use Rattle.outage_schedule.specs.declared.item.Item.{Item}
use Rattle.outage_schedule.specs.declared.item.Item.TheVariants as item
use Rattle.outage_schedule.specs.declared.request.ShownCall.{ShownCall}
use Rattle.world_model.specs.meaning.Crashing.{is_crashed_item}
use Rattle.world_model.specs.meaning.Frames.{Sent, Reply, Handled}
use Rattle.invariant_laws.specs.Invariant.{Invariant}
use Rattle.world_model.specs.meaning.Links.{Link}
use Rattle.world_model.specs.Parts.{is_rep, is_unmarked_frame}
use Rattle.world_model.specs.Sames.{is_front, is_of, owned_by, same_down, same_reply, same_sent, same_up}
use Rattle.world_model.specs.meaning.Serving.{is_item_of, reply_of, identifier}
use Rattle.invariant_laws.specs.Shown.{calls_on, in_row, is_call}
use Rattle.once_laws.specs.Showing.{is_as_told, shows_reply, is_shown_reply, shows_taken}
use Rattle.world_model.specs.Traced.{Traced, Course}
use Rattle.world_model.specs.records.Wire.{up_of, is_sent_front, reply_to, replies_of, is_reply_front, same_replies, is_handled, counted_with, handled_from, reps_of, is_answered_in_order}
use Rattle.world_model.proofs.Offered.{at_link, at_all, implied, get_mapped, get_further}
use Rattle.invariant_laws.proofs.Offered.{call_answered, calls_same, sent_parts, unmarked_same}
use Rattle.once_laws.proofs.calls.CallRows.{rank, ranked, same_place}
use Rattle.once_laws.proofs.calls.CallsApart.{WasSent, front_got, was_sent}

-- FRAMES ------------------------------------------------------------------------------------------

-- it is a reply with these answers
abbrev pub says : Down → List Answer → Bool
says (down.Reply given draws x) answers = same_answers given answers
says _ answers = false

says_reply : (frame : Down) (answers : List Answer) (draws : List Draw) (x : Ltxid) → same_down frame (down.Reply answers draws x) ≡ true → says frame answers ≡ true
says_reply (down.Reply given d y) answers draws x same = (and_parts (same_answers given answers) (same_draws d draws && same_ltxid y x) same).0
says_reply frame answers draws x same = absurd (let none : ⊥ = cc in none)

says_alike : (a b : Down) (answers : List Answer) → same_down a b ≡ true → says b answers ≡ true → says a answers ≡ true
says_alike (down.Reply given d y) (down.Reply other e z) answers same is =
    subst (λ (l : List Answer). same_answers l answers ≡ true) (sym ((same_answers_decide given other).0 (and_parts (same_answers given other) (same_draws d e && same_ltxid y z) same).0)) is
says_alike a (down.Reply other e z) answers same is = absurd (let none : ⊥ = cc in none)
says_alike a b answers same is = absurd (let none : ⊥ = cc in none)

-- what was shown at a place
pub record ShownAt (calls : List ShownCall) (place : ℕ) (answers : List Answer) : Type 0 where
  pub shown : ShownCall
  pub at : slice_get calls place ≡ Some shown
  pub same : shown.answers ≡ answers

shown_at : (calls : List ShownCall) (place : ℕ) (frame : Up) (reply : Down) (answers : List Answer) → is_unmarked_frame frame ≡ true → says reply answers ≡ true → shows_reply calls place frame reply ≡ true → ShownAt calls place answers
shown_at calls place (up.Call false kept call) (down.Reply given draws x) answers plain said is = by (slice_get calls place) refl is
  where
    by : (found : Option ShownCall) → slice_get calls place ≡ found → option_map_or (is_as_told given draws x) found false ≡ true → ShownAt calls place answers
    by None at is = absurd (let none : ⊥ = cc in none)
    by (Some shown) at is = record {
      shown = shown;
      at = at;
      same = sym ((same_answers_decide given shown.answers).0 (and_parts (same_answers given shown.answers) (same_draws draws shown.draws && same_ltxid x shown.ltxid) is).0) ∙ (same_answers_decide given answers).0 said;
    }
shown_at calls place (up.Call false kept call) reply answers plain said is = absurd (let none : ⊥ = cc in none)
shown_at calls place frame reply answers plain said is = absurd (let none : ⊥ = cc in none)

-- LISTS -------------------------------------------------------------------------------------------

pub got_within : {A : Type 0} (xs : List A) (place : ℕ) → place < length xs → (x : A) × (slice_get xs place ≡ Some x)
got_within [] place less = absurd (let none : ⊥ = omega (arith, less) in none)
got_within (x ∷ xs) zero less = (x, refl)
got_within (x ∷ xs) (suc place) less = got_within xs place (omega (arith, less))

pub handled_is : (commits : ℕ) (served : List Handled) (place : ℕ) (one : Handled) → handled_from commits served ≡ true → slice_get served place ≡ Some one → (n : ℕ) × (is_handled n one ≡ true)
handled_is commits [] place one handled at = absurd (let none : ⊥ = cc in none)
handled_is commits (first ∷ served) zero one handled at =
    let now : ℕ = counted_with commits first.served.item in
    let same : first ≡ one = cc in
    (now, ap (is_handled now) (sym same) ∙ (and_parts (is_handled now first) (handled_from now served) handled).0)
handled_is commits (first ∷ served) (suc place) one handled at =
    let now : ℕ = counted_with commits first.served.item in handled_is now served place one (and_parts (is_handled now first) (handled_from now served) handled).1 at

-- a reply is that of a frame that was served
record IsReplyOf (served : List Handled) (reply : Reply) : Type 0 where
  place : ℕ
  one : Handled
  at : slice_get served place ≡ Some one
  frame : Down
  replied : one.reply ≡ Some frame
  is : record { to = one.sent; frame = frame } ≡ reply

reply_of_one : (served : List Handled) (number : ℕ) (reply : Reply) → slice_get (filter_map reply_to served) number ≡ Some reply → IsReplyOf served reply
reply_of_one [] number reply at = absurd (let none : ⊥ = cc in none)
reply_of_one (one ∷ served) number reply at = by one.reply refl (λ n later. reply_of_one served n reply later) at
  where
    further : IsReplyOf served reply → IsReplyOf (one ∷ served) reply
    further found = record { place = suc found.place; one = found.one; at = found.at; frame = found.frame; replied = found.replied; is = found.is }

    here : (frame : Down) → one.reply ≡ Some frame → ((n : ℕ) → slice_get (filter_map reply_to served) n ≡ Some reply → IsReplyOf served reply) → (n : ℕ) → slice_get (record { to = one.sent; frame = frame } ∷ filter_map reply_to served) n ≡ Some reply → IsReplyOf (one ∷ served) reply
    here frame given later zero found = record { place = zero; one = one; at = refl; frame = frame; replied = given; is = let same : record { to = one.sent; frame = frame } ≡ reply = cc in same }
    here frame given later (suc n) found = further (later n found)

    by : (found : Option Down) → one.reply ≡ found → ((n : ℕ) → slice_get (filter_map reply_to served) n ≡ Some reply → IsReplyOf served reply) → slice_get (cons_option (option_map (λ frame. record { to = one.sent; frame = frame }) found) (filter_map reply_to served)) number ≡ Some reply → IsReplyOf (one ∷ served) reply
    by None given later at = further (later number at)
    by (Some frame) given later at = here frame given later number at

-- ONE CONNECTION ----------------------------------------------------------------------------------

module _ (t : Traced) (inv : Invariant t) (index : ℕ) (link : Link) (there : slice_get t.machine.links index ≡ Some link) where
  front : is_front same_sent (up_of link) link.sent ≡ true
  front = (and_parts (is_front same_sent (up_of link) link.sent) _ (at_link is_sent_front t.machine.links (suc index) link inv.orderly.wire.sent there)).0

  pub sent_at : (place : ℕ) (one : Handled) → slice_get link.served place ≡ Some one → WasSent link place one
  sent_at place one at = was_sent link place one front at

  -- the reply to an answered frame, where it was taken
  pub record TookReply (sent : Sent) (number : ℕ) : Type 0 where
    pub reply : Reply
    pub at : slice_get link.taken number ≡ Some reply
    pub to : same_sent reply.to sent ≡ true

  pub took_reply : (place : ℕ) (sent : Sent) → slice_get link.sent place ≡ Some sent → is_rep sent ≡ true → rank is_rep link.sent place < length link.taken → TookReply sent (rank is_rep link.sent place)
  took_reply place sent at rep less =
      let number : ℕ = rank is_rep link.sent place in
      let got = got_within link.taken number less in
      let found = front_got same_sent (map (λ (reply : Reply). reply.to) (link.taken ++ link.down)) (reps_of link) number got.0.to (at_link is_answered_in_order t.machine.links (suc index) link inv.orderly.wire.in_order there)
      (get_mapped (λ (reply : Reply). reply.to) (link.taken ++ link.down) number got.0 (get_further link.taken link.down number got.0 got.1)) in
      let both : Some found.0 ≡ Some sent = sym found.1.0 ∙ ranked is_rep link.sent place sent at rep in
      let equal : found.0 ≡ sent = cc in
      record { reply = got.0; at = got.1; to = subst (λ (s : Sent). same_sent got.0.to s ≡ true) equal found.1.1 }

  module _ (course : Course) (start : ℕ) (row : in_row start (calls_on course link) ≡ true) where
    -- it is the one that was given to the frame
    pub record Replied (one : Handled) (reply : Reply) : Type 0 where
      pub frame : Down
      pub is : one.reply ≡ Some frame
      pub same : same_down reply.frame frame ≡ true

    pub replied : (place : ℕ) (one : Handled) (at : slice_get link.served place ≡ Some one) → owned_by course.owner one.sent ≡ true → is_call one.sent.frame ≡ true → (number : ℕ) (reply : Reply) → slice_get link.taken number ≡ Some reply → same_sent reply.to (sent_at place one at).sent ≡ true → Replied one reply
    replied place one at mine call number reply taken to = record { frame = found.frame; is = ap (λ (h : Handled). h.reply) (sym same_one) ∙ found.replied; same = alike.1 }
      where
        handled : handled_from 0 link.served ≡ true
        handled = at_link (λ l. handled_from 0 l.served) t.machine.links (suc index) link inv.orderly.wire.handled there

        got : (z : Reply) × ((slice_get (replies_of link) number ≡ Some z) × (same_reply reply z ≡ true))
        got = front_got same_reply (link.taken ++ link.down) (replies_of link) number reply (and_parts (is_front same_reply (link.taken ++ link.down) (replies_of link)) _ (at_link is_reply_front t.machine.links (suc index) link inv.orderly.wire.replies there)).0
            (get_further link.taken link.down number reply taken)

        found : IsReplyOf link.served got.0
        found = reply_of_one link.served number got.0 got.1.0

        alike : (same_sent reply.to found.one.sent ≡ true) × (same_down reply.frame found.frame ≡ true)
        alike = and_parts (same_sent reply.to found.one.sent) (same_down reply.frame found.frame) (subst (λ (r : Reply). same_reply reply r ≡ true) (sym found.is) got.1.1)

        was : WasSent link place one
        was = sent_at place one at

        its : WasSent link found.place found.one
        its = sent_at found.place found.one found.at

        first : (reply.to.owner ≡ was.sent.owner) × ((reply.to.call ≡ was.sent.call) × (same_up reply.to.frame was.sent.frame ≡ true))
        first = sent_parts reply.to was.sent to

        second : (reply.to.owner ≡ found.one.sent.owner) × ((reply.to.call ≡ found.one.sent.call) × (same_up reply.to.frame found.one.sent.frame ≡ true))
        second = sent_parts reply.to found.one.sent alike.0

        keep : Sent → Bool
        keep sent = owned_by course.owner sent && is_call sent.frame

        kept_was : keep was.sent ≡ true
        kept_was = and_from (owned_by course.owner was.sent) (is_call was.sent.frame) (ap (is_of course.owner) (sym was.owner) ∙ mine) (sym (calls_same one.sent.frame was.sent.frame was.frame) ∙ call)

        kept_its : keep its.sent ≡ true
        kept_its =
            and_from (owned_by course.owner its.sent) (is_call its.sent.frame) (ap (is_of course.owner) (sym its.owner ∙ (sym second.0 ∙ (first.0 ∙ sym was.owner))) ∙ mine)
            (sym (calls_same found.one.sent.frame its.sent.frame its.frame) ∙ (sym (calls_same reply.to.frame found.one.sent.frame second.1.1) ∙ (calls_same reply.to.frame was.sent.frame first.1.1 ∙ (sym (calls_same one.sent.frame was.sent.frame was.frame) ∙ call))))

        same_at : found.place ≡ place
        same_at = same_place keep start link.sent row found.place place its.sent was.sent its.at kept_its was.at kept_was (sym its.call ∙ (sym second.1.0 ∙ first.1.0))

        same_one : found.one ≡ one
        same_one = let both : Some found.one ≡ Some one = sym found.at ∙ (ap (slice_get link.served) same_at ∙ at) in let equal : found.one ≡ one = cc in equal

    -- so it says what the item does
    pub reply_says : (place : ℕ) (one : Handled) (marked : Bool) (called : Call) (answers : List Answer) (draws : List Draw) (at : slice_get link.served place ≡ Some one) → one.served.item ≡ item.Call marked called answers draws → owned_by course.owner one.sent ≡ true → is_call one.sent.frame ≡ true
        → (number : ℕ) (reply : Reply) → slice_get link.taken number ≡ Some reply → same_sent reply.to (sent_at place one at).sent ≡ true → says reply.frame answers ≡ true
    reply_says place one marked called answers draws at is mine call number reply taken to =
        says_alike reply.frame got.frame answers got.same (by (handled_is 0 link.served place one (at_link (λ l. handled_from 0 l.served) t.machine.links (suc index) link inv.orderly.wire.handled there) at))
      where
        got : Replied one reply
        got = replied place one at mine call number reply taken to

        cases : (n : ℕ) → ((is_item_of one.sent.frame one.served.item && same_replies one.reply (reply_of one.served.session n one.served.item)) ≡ true) ⊎ ((is_crashed_item one.sent.frame one.served.item && is_none one.reply) ≡ true) → says got.frame answers ≡ true
        cases n (inl so) =
            let replies : same_replies one.reply (reply_of one.served.session n one.served.item) ≡ true = (and_parts (is_item_of one.sent.frame one.served.item) (same_replies one.reply (reply_of one.served.session n one.served.item)) so).1 in
            let given : same_replies (Some got.frame) (Some (down.Reply answers draws (identifier one.served.session n))) ≡ true =
            subst (λ (r : Option Down). same_replies r (Some (down.Reply answers draws (identifier one.served.session n))) ≡ true) got.is (subst (λ (it : Item). same_replies one.reply (reply_of one.served.session n it) ≡ true) is replies) in
            says_reply got.frame answers draws (identifier one.served.session n) given
        cases n (inr so) =
            let none : is_none one.reply ≡ true = (and_parts (is_crashed_item one.sent.frame one.served.item) (is_none one.reply) so).1 in
            absurd (let never : false ≡ true = ap is_none (sym got.is) ∙ none in let nothing : ⊥ = cc in nothing)

        by : (n : ℕ) × (is_handled n one ≡ true) → says got.frame answers ≡ true
        by so = cases so.0 (or_cases (is_item_of one.sent.frame one.served.item && same_replies one.reply (reply_of one.served.session so.0 one.served.item)) (is_crashed_item one.sent.frame one.served.item && is_none one.reply) so.1)

    -- so it was shown
    pub told_call : shows_taken course link ≡ true → (place : ℕ) (one : Handled) (marked : Bool) (called : Call) (answers : List Answer) (draws : List Draw) → slice_get link.served place ≡ Some one → one.served.item ≡ item.Call marked called answers draws
        → owned_by course.owner one.sent ≡ true → is_unmarked_frame one.sent.frame ≡ true → is_call one.sent.frame ≡ true → rank is_rep link.sent place < length link.taken → ShownAt course.report.calls one.sent.call answers
    told_call shown place one marked called answers draws at is mine plain call less =
        subst (λ (n : ℕ). ShownAt course.report.calls n answers) (first.1.0 ∙ sym was.call)
        (shown_at course.report.calls took.reply.to.call took.reply.to.frame took.reply.frame answers
        (unmarked_same took.reply.to.frame was.sent.frame first.1.1 ∙ (sym (unmarked_same one.sent.frame was.sent.frame was.frame) ∙ plain))
        (reply_says place one marked called answers draws at is mine call (rank is_rep link.sent place) took.reply took.at took.to)
        (implied (owned_by course.owner took.reply.to) (shows_reply course.report.calls took.reply.to.call took.reply.to.frame took.reply.frame) (ap (is_of course.owner) (first.0 ∙ sym was.owner) ∙ mine)
        (at_all (is_shown_reply course) link.taken (rank is_rep link.sent place) took.reply shown took.at)))
      where
        was : WasSent link place one
        was = sent_at place one at

        took : TookReply was.sent (rank is_rep link.sent place)
        took = took_reply place was.sent was.at (call_answered was.sent.frame (sym (calls_same one.sent.frame was.sent.frame was.frame) ∙ call)) less

        first : (took.reply.to.owner ≡ was.sent.owner) × ((took.reply.to.call ≡ was.sent.call) × (same_up took.reply.to.frame was.sent.frame ≡ true))
        first = sent_parts took.reply.to was.sent took.to
