-- The reply that a request takes answers what was sent last, and says what the item of that frame
-- does.
use Rattle.std.proofs.Common.{◌≡◌, refl, sym, ap, subst, ◌∙◌, Bool, true, false, ℕ, ◌+◌, ◌≤◌, ◌&&◌, ◌||◌, filter, length, length-append, List, [], ◌∷◌, ◌++◌, map, Option, Some, None, ◌⊎◌, inl, inr, if◌then◌else◌, arith}
use Rattle.std.specs.Prelude.{◌==◌, nat_le, is_none, option_map}
use Rattle.std.specs.List.{list_any, last_or}
use Rattle.std.specs.Option.{option_map_or}
use Rattle.std.proofs.lemmas.Bool.{and_parts, and_from, or_right, or_left}
use Rattle.std.proofs.lemmas.List.Sums.{length-filter}
use Rattle.svc_values.specs.declared.answer.Answer.{Answer}
use Rattle.svc_values.specs.declared.call.Call.{Call}
use Rattle.svc_values.specs.declared.draw.Draw.{Draw}
use Rattle.svc_values.specs.declared.entry.Ltxid.{Ltxid}
use Rattle.svc_values.specs.declared.entry.SessionId.{SessionId}
use Rattle.svc_values.specs.declared.frame.Up.{Up}
use Rattle.svc_values.specs.declared.frame.Up.TheVariants as up
use Rattle.svc_values.specs.declared.frame.Down.{Down}
use Rattle.svc_values.specs.declared.frame.Down.TheVariants as down
use Rattle.svc_values.specs.meaning.Endings.{ends_committed}
use Rattle.svc_values.specs.meaning.Same.{same_answers, same_bool, same_call, same_draws}
use Rattle.svc_values.specs.SameLaws.{same_answers_decide, same_bool_decides, same_draws_decide, same_call_decides}
use Rattle.outage_schedule.specs.declared.item.Item.{Item}
use Rattle.outage_schedule.specs.declared.item.Item.TheVariants as item
use Rattle.world_model.specs.meaning.Crashing.{is_crashed_item}
use Rattle.world_model.specs.meaning.Frames.{Sent, Reply, Handled}
use Rattle.world_model.specs.records.Hold.{is_call as is_awaited_call}
use Rattle.world_model.specs.meaning.Links.{Link}
use Rattle.world_model.specs.Parts.{is_rep, count_reps, served_reps}
use Rattle.world_model.specs.Sames.{same_up, same_down, same_sent, same_reply, is_front}
use Rattle.world_model.specs.meaning.Serving.{is_item_of, is_commit, reply_of}
use Rattle.invariant_laws.specs.Shown.{is_shown_item}
use Rattle.world_model.specs.records.Wire.{up_of, replies_of, same_replies}
use Rattle.world_model.proofs.Offered.{front_filter, front_begun, last_kept, last_alike, Known, IsLast, taken_last, last_was, rep_of, same_reps, few_replies, front_long, reps_sent, le_from, none_first}

abbrev frame_of : Handled → Sent
frame_of one = one.sent

mapped_last : (found : Option Handled) (served : List Handled) → last_or (option_map frame_of found) (filter is_rep (map frame_of served)) ≡ option_map frame_of (last_or found (filter rep_of served))
mapped_last found [] = refl
mapped_last found (one ∷ others) = by (rep_of one) (mapped_last (Some one) others) (mapped_last found others)
  where
    by : (rep : Bool) → last_or (Some one.sent) (filter is_rep (map frame_of others)) ≡ option_map frame_of (last_or (Some one) (filter rep_of others))
        → last_or (option_map frame_of found) (filter is_rep (map frame_of others)) ≡ option_map frame_of (last_or found (filter rep_of others))
        → last_or (option_map frame_of found) (if rep then one.sent ∷ filter is_rep (map frame_of others) else filter is_rep (map frame_of others)) ≡ option_map frame_of (last_or found (if rep then one ∷ filter rep_of others else filter rep_of others))
    by true with_it without = with_it
    by false with_it without = without

last_among : (test : Handled → Bool) (found : Option Handled) (served : List Handled) (one : Handled) → last_or found (filter rep_of served) ≡ Some one → test one ≡ true → (found ≡ Some one) ⊎ (list_any test served ≡ true)
last_among test found [] one is here = inl is
last_among test found (first ∷ others) one is here = by (rep_of first) is (λ now. last_among test (Some first) others one now here) (λ now. last_among test found others one now here)
  where
    later : (Some first ≡ Some one) ⊎ (list_any test others ≡ true) → list_any test (first ∷ others) ≡ true
    later (inl same) = let e : first ≡ one = cc in or_left (test first) (list_any test others) (ap test e ∙ here)
    later (inr rest) = or_right (test first) (list_any test others) rest

    still : (found ≡ Some one) ⊎ (list_any test others ≡ true) → (found ≡ Some one) ⊎ (list_any test (first ∷ others) ≡ true)
    still (inl same) = inl same
    still (inr rest) = inr (or_right (test first) (list_any test others) rest)

    by : (rep : Bool) → last_or found (if rep then first ∷ filter rep_of others else filter rep_of others) ≡ Some one → (last_or (Some first) (filter rep_of others) ≡ Some one → (Some first ≡ Some one) ⊎ (list_any test others ≡ true))
        → (last_or found (filter rep_of others) ≡ Some one → (found ≡ Some one) ⊎ (list_any test others ≡ true)) → (found ≡ Some one) ⊎ (list_any test (first ∷ others) ≡ true)
    by true is with_it without = inr (later (with_it is))
    by false is with_it without = still (without is)

module _ (link : Link) (known : Known link) (reply : Reply) (later : List Reply) (down : link.down ≡ reply ∷ later) (last : Sent) (is : last_or None link.sent ≡ Some last) (rep : is_rep last ≡ true) where
  pub answering : IsLast link reply
  answering = taken_last link reply later known down

  abbrev reps : List Sent
  reps = filter is_rep (map frame_of link.served)

  front : is_front same_sent reps (filter is_rep link.sent) ≡ true
  front =
      front_filter same_sent is_rep same_reps (map frame_of link.served) link.sent
      (front_begun same_sent (map frame_of link.served) (up_of link) link.sent (record { rest = link.up; whole = refl }) (and_parts (is_front same_sent (up_of link) link.sent) _ known.sent).0)

  long : length reps ≡ length (filter is_rep link.sent)
  long =
      let count : length (filter is_rep link.sent) ≡ count_reps link.sent = length-filter is_rep link.sent in
      let sent : count_reps link.sent ≤ length link.taken + 1 =
      le_from (count_reps link.sent) (length link.taken + 1) (and_parts (nat_le (length link.taken) (count_reps link.sent)) (nat_le (count_reps link.sent) (length link.taken + 1)) known.out).1 in
      let served : length (served_reps link) ≡ length reps = reps_sent link.served in
      let most : length reps ≤ length (filter is_rep link.sent) = front_long same_sent reps (filter is_rep link.sent) front in
      let replies : is_front same_reply (link.taken ++ reply ∷ later) (replies_of link) ≡ true =
      subst (λ (d : List Reply). is_front same_reply (link.taken ++ d) (replies_of link) ≡ true) down (and_parts (is_front same_reply (link.taken ++ link.down) (replies_of link)) _ known.replies).0 in
      let got : length (link.taken ++ reply ∷ later) ≤ length (replies_of link) = front_long same_reply (link.taken ++ reply ∷ later) (replies_of link) replies in
      let split : length (link.taken ++ reply ∷ later) ≡ length link.taken + length (reply ∷ later) = length-append link.taken (reply ∷ later) in
      let more : length (reply ∷ later) ≡ length later + 1 = omega arith in
      let few : length (replies_of link) ≤ length (served_reps link) = few_replies 0 link.served known.handled in
      omega (arith, count, sent, served, most, got, split, more, few)

  -- it is to what was sent last
  pub answers_last : same_sent answering.one.sent last ≡ true
  answers_last =
      let mine : last_or None reps ≡ Some answering.one.sent = mapped_last None link.served ∙ ap (option_map frame_of) answering.last in
      let z = last_alike same_sent None None reps (filter is_rep link.sent) answering.one.sent front long (λ y never. none_first y never) mine in
      let own : last_or None (filter is_rep link.sent) ≡ Some last = last_kept is_rep None None link.sent (λ never. refl) (ap (λ (f : Option Sent). option_map_or is_rep f false) is ∙ rep) ∙ is in
      let e : Some z.0 ≡ Some last = sym z.1.0 ∙ own in
      let same : z.0 ≡ last = cc in
      subst (λ (s : Sent). same_sent answering.one.sent s ≡ true) same z.1.1

  -- and its item is there
  pub among_served : (test : Handled → Bool) → test answering.one ≡ true → list_any test link.served ≡ true
  among_served test here = by (last_among test None link.served answering.one answering.last here)
    where
      by : (None ≡ Some answering.one) ⊎ (list_any test link.served ≡ true) → list_any test link.served ≡ true
      by (inl never) = none_first answering.one never
      by (inr found) = found

-- WHAT THE ITEM SAYS ------------------------------------------------------------------------------

-- an item of an ordinary frame with its reply, where it has one
pub record IsSaidBy (frame : Up) (one : Item) (said : Down) : Type 0 where
  pub session : SessionId
  pub commits : ℕ
  pub is : is_item_of frame one ≡ true
  pub replies : same_replies (Some said) (reply_of session commits one) ≡ true

either_so : (a b : Bool) → (a || (b && false)) ≡ true → a ≡ true
either_so true b is = refl
either_so false true is = absurd (let none : ⊥ = cc in none)
either_so false false is = absurd (let none : ⊥ = cc in none)

pub said_by : (link : Link) (known : Known link) (reply : Reply) (it : IsLast link reply) → IsSaidBy it.one.sent.frame it.one.served.item it.frame
said_by link known reply it =
    let was = last_was link reply known it in
    let handled : ((is_item_of it.one.sent.frame it.one.served.item && same_replies (Some it.frame) (reply_of it.one.served.session was.0 it.one.served.item)) || (is_crashed_item it.one.sent.frame it.one.served.item && false)) ≡ true =
    subst (λ (r : Option Down). ((is_item_of it.one.sent.frame it.one.served.item && same_replies r (reply_of it.one.served.session was.0 it.one.served.item)) || (is_crashed_item it.one.sent.frame it.one.served.item && is_none r)) ≡ true) it.replied was.1 in
    let parts = and_parts (is_item_of it.one.sent.frame it.one.served.item) (same_replies (Some it.frame) (reply_of it.one.served.session was.0 it.one.served.item))
    (either_so (is_item_of it.one.sent.frame it.one.served.item && same_replies (Some it.frame) (reply_of it.one.served.session was.0 it.one.served.item)) (is_crashed_item it.one.sent.frame it.one.served.item) handled) in
    record { session = it.one.served.session; commits = was.0; is = parts.0; replies = parts.1 }

-- what was said is the reply that was taken
replied_as : (answers a : List Answer) (draws d : List Draw) (x y : Ltxid) (said : Down) → same_down (down.Reply answers draws x) said ≡ true → same_replies (Some said) (Some (down.Reply a d y)) ≡ true → (a ≡ answers) × (d ≡ draws)
replied_as answers a draws d x y (down.Reply b e z) same replies =
    let one = and_parts (same_answers answers b) _ same in
    let two = and_parts (same_draws draws e) _ one.1 in
    let three = and_parts (same_answers b a) _ replies in
    let four = and_parts (same_draws e d) _ three.1 in
    (sym ((same_answers_decide answers b).0 one.0 ∙ (same_answers_decide b a).0 three.0), sym ((same_draws_decide draws e).0 two.0 ∙ (same_draws_decide e d).0 four.0))
replied_as answers a draws d x y said same replies = absurd (let none : ⊥ = cc in none)

blocked_not : {A : Type 0} (answers : List Answer) (draws : List Draw) (x : Ltxid) (said : Down) → same_down (down.Reply answers draws x) said ≡ true → same_replies (Some said) (Some down.Blocked) ≡ true → A
blocked_not answers draws x (down.Reply b e y) same replies = absurd (let none : ⊥ = cc in none)
blocked_not answers draws x said same replies = absurd (let none : ⊥ = cc in none)

-- to a call without the mark
module _ (answers : List Answer) (draws : List Draw) (ltxid : Ltxid) (kept : List Draw) (call : Call) where
  pub call_says : (frame : Up) (one : Item) (said : Down) → same_up frame (up.Call false kept call) ≡ true → IsSaidBy frame one said → same_down (down.Reply answers draws ltxid) said ≡ true
      → is_shown_item call (record { answers = answers; draws = draws; ltxid = ltxid }) one ≡ true
  call_says (up.Call false k c) (item.Call false served a d) said sent by same =
      let calls : c ≡ call = (same_call_decides c call).0 (and_parts (same_draws k kept) (same_call c call) sent).1 in
      let are = replied_as answers a draws d ltxid _ said same by.replies in
      and_from (same_call served call) (same_answers a answers && same_draws d draws) (subst (λ (x : Call). same_call served x ≡ true) calls by.is)
      (and_from (same_answers a answers) (same_draws d draws) ((same_answers_decide a answers).1 are.0) ((same_draws_decide d draws).1 are.1))
  call_says (up.Call false k c) (item.Blocked served) said sent by same = blocked_not answers draws ltxid said same by.replies
  call_says (up.Call false k c) (item.Call true served a d) said sent by same = absurd (let e : false ≡ true = by.is in let none : ⊥ = cc in none)
  call_says (up.Call false k c) (item.Refused x) said sent by same = absurd (let e : false ≡ true = by.is in let none : ⊥ = cc in none)
  call_says (up.Call false k c) item.Connect said sent by same = absurd (let e : false ≡ true = by.is in let none : ⊥ = cc in none)
  call_says (up.Call false k c) (item.Begin x) said sent by same = absurd (let e : false ≡ true = by.is in let none : ⊥ = cc in none)
  call_says (up.Call false k c) (item.Outcome x y) said sent by same = absurd (let e : false ≡ true = by.is in let none : ⊥ = cc in none)
  call_says (up.Call false k c) item.End said sent by same = absurd (let e : false ≡ true = by.is in let none : ⊥ = cc in none)
  call_says (up.Call false k c) item.Close said sent by same = absurd (let e : false ≡ true = by.is in let none : ⊥ = cc in none)
  call_says (up.Call false k c) (item.CrashedCall x y) said sent by same = absurd (let e : false ≡ true = by.is in let none : ⊥ = cc in none)
  call_says (up.Call false k c) (item.CrashedOutcome x) said sent by same = absurd (let e : false ≡ true = by.is in let none : ⊥ = cc in none)
  call_says (up.Call true k c) one said sent by same = absurd (let none : ⊥ = cc in none)
  call_says up.Connect one said sent by same = absurd (let none : ⊥ = cc in none)
  call_says (up.Begin x) one said sent by same = absurd (let none : ⊥ = cc in none)
  call_says (up.Outcome x) one said sent by same = absurd (let none : ⊥ = cc in none)
  call_says up.End one said sent by same = absurd (let none : ⊥ = cc in none)
  call_says up.Close one said sent by same = absurd (let none : ⊥ = cc in none)

-- the reply of a commit says Committed
pub commit_says : (answers : List Answer) (draws : List Draw) (ltxid : Ltxid) (frame : Up) (one : Item) (said : Down) → IsSaidBy frame one said → same_down (down.Reply answers draws ltxid) said ≡ true → is_commit one ≡ true → ends_committed answers ≡ true
commit_says answers draws ltxid frame (item.Call marked call a d) (down.Reply b e y) by same commit =
    let one = and_parts (same_answers answers b) _ same in
    let two = and_parts (same_answers b a) _ by.replies in
    ap ends_committed ((same_answers_decide answers b).0 one.0 ∙ (same_answers_decide b a).0 two.0) ∙ commit
commit_says answers draws ltxid frame (item.Call marked call a d) said by same commit = absurd (let none : ⊥ = cc in none)
commit_says answers draws ltxid frame one said by same commit = absurd (let none : ⊥ = cc in none)

-- OF EITHER MARK ----------------------------------------------------------------------------------

-- the item is a call of this mark, with what the reply says
pub record SaysCall (mark : Bool) (answers : List Answer) (draws : List Draw) (one : Item) : Type 0 where
  pub call : Call
  pub is : one ≡ item.Call mark call answers draws

abbrev has_mark : Bool → Up → Bool
has_mark mark (up.Call replay kept call) = same_bool mark replay
has_mark mark _ = false

pub says_call : (mark : Bool) (answers : List Answer) (draws : List Draw) (x : Ltxid) (frame : Up) (one : Item) (said : Down) → has_mark mark frame ≡ true → IsSaidBy frame one said → same_down (down.Reply answers draws x) said ≡ true → SaysCall mark answers draws one
says_call mark answers draws x (up.Call replay kept call) (item.Call marked served a d) said of by same =
    let mark_is : marked ≡ mark = (same_bool_decides marked replay).0 (and_parts (same_bool marked replay) (same_call served call) by.is).0 ∙ sym ((same_bool_decides mark replay).0 of) in
    let are = replied_as answers a draws d x _ said same by.replies in
    record { call = served; is = λ i. item.Call (mark_is i) served (are.0 i) (are.1 i) }
says_call mark answers draws x (up.Call replay kept call) (item.Blocked served) said of by same = blocked_not answers draws x said same by.replies
says_call mark answers draws x (up.Call replay kept call) one said of by same = absurd (let e : is_item_of (up.Call replay kept call) one ≡ true = by.is in let none : ⊥ = cc in none)
says_call mark answers draws x frame one said of by same = absurd (let none : ⊥ = cc in none)

pub mark_alike : (mark : Bool) (a b : Up) → same_up a b ≡ true → has_mark mark b ≡ true → has_mark mark a ≡ true
mark_alike mark (up.Call r k c) (up.Call s l d) same is =
    let mark_is : r ≡ s = (same_bool_decides r s).0 (and_parts (same_bool r s) (same_draws k l && same_call c d) same).0 in subst (λ (m : Bool). same_bool mark m ≡ true) (sym mark_is) is
mark_alike mark a (up.Call s l d) same is = absurd (let none : ⊥ = cc in none)
mark_alike mark a b same is = absurd (let none : ⊥ = cc in none)

pub awaited_mark : (mark : Bool) (index : ℕ) (sent : Sent) (frame : Up) → is_awaited_call mark index sent frame ≡ true → has_mark mark frame ≡ true
awaited_mark mark index sent (up.Call replay kept call) is = (and_parts (same_bool mark replay) (sent.call == index) is).0
awaited_mark mark index sent frame is = absurd (let none : ⊥ = cc in none)
