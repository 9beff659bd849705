-- A reply that is taken answers the frame that the request waits for: it fits its phase.
use Rattle.std.proofs.Common.{◌≡◌, refl, sym, ap, subst, ◌∙◌, Bool, true, false, ℕ, suc, zero, ◌+◌, ◌&&◌, length, List, [], ◌∷◌, ◌++◌, map, filter, Option, Some, None, ◌⊎◌, inl, inr, arith}
use Rattle.std.specs.Prelude.{is_none, slice_get, filter_map, option_map}
use Rattle.std.specs.List.{last_or, cons_option}
use Rattle.std.specs.Option.{option_map_or}
use Rattle.std.proofs.lemmas.Bool.{and_parts, or_cases}
use Rattle.std.proofs.lemmas.List.{map-append, length-map}
use Rattle.std.proofs.lemmas.List.Sums.{length-filter}
use Rattle.svc_values.specs.declared.entry.SessionId.{SessionId}
use Rattle.svc_values.specs.declared.frame.Up.{Up}
use Rattle.svc_values.specs.declared.frame.Up.TheVariants as up
use Rattle.svc_values.specs.declared.frame.Down.{Down}
use Rattle.svc_values.specs.declared.frame.Down.TheVariants as down
use Rattle.outage_schedule.specs.declared.item.Item.{Item}
use Rattle.outage_schedule.specs.declared.item.Item.TheVariants as item
use Rattle.outage_schedule.specs.declared.note.AskResult.{AskResult}
use Rattle.outage_schedule.specs.declared.note.AskResult.TheVariants as told
use Rattle.client_model.specs.meaning.Verifying.{index_of}
use Rattle.client_model.specs.meaning.Terms.{Phase, Greeting, Asked, Running, Replaying}
use Rattle.world_model.specs.meaning.Crashing.{is_crashed_item}
use Rattle.world_model.specs.meaning.Frames.{Owner, Sent, Reply, Handled}
use Rattle.world_model.specs.records.Hold.{is_awaited, is_ask, is_call, is_connect}
use Rattle.world_model.specs.meaning.Links.{Link}
use Rattle.world_model.specs.Parts.{is_answered, is_rep, is_out, count_reps}
use Rattle.world_model.specs.Sames.{same_up, same_down, same_sent, same_reply, is_front, owned_by}
use Rattle.world_model.specs.meaning.Serving.{is_item_of, reply_of, outcome_frame}
use Rattle.world_model.specs.records.Wire.{reply_to, replies_of, is_reply_front, same_replies, is_handled, counted_with, handled_from, reps_of, is_answered_in_order}
use Rattle.world_model.proofs.Offered.{last_kept, same_frames, awaits, eq_from}

-- KINDS -------------------------------------------------------------------------------------------

abbrev is_called : Up → Bool
is_called (up.Call replay kept call) = true
is_called _ = false

abbrev is_asked : Up → Bool
is_asked (up.Outcome x) = true
is_asked _ = false

-- which frame a reply answers, by its kind
abbrev answers : Down → Up → Bool
answers (down.Hello x) frame = is_connect frame
answers (down.Reply given draws x) frame = is_called frame
answers down.Blocked frame = is_called frame
answers (down.OutcomeIs committed completed) frame = is_asked frame
answers (down.OutcomeRefused ahead horizon) frame = is_asked frame
answers (down.Refused cause) frame = false

-- in which phase it is awaited
abbrev pub is_expected : Phase → Down → Bool
is_expected (Greeting lost) (down.Hello x) = true
is_expected (Asked asking) (down.OutcomeIs committed completed) = true
is_expected (Asked asking) (down.OutcomeRefused ahead horizon) = true
is_expected (Running state) (down.Reply given draws x) = true
is_expected (Running state) down.Blocked = true
is_expected (Replaying state) (down.Reply given draws x) = true
is_expected (Replaying state) down.Blocked = true
is_expected _ _ = false

same_kind : (a b : Down) → same_down a b ≡ true → (frame : Up) → answers b frame ≡ true → answers a frame ≡ true
same_kind (down.Hello x) (down.Hello y) same frame is = is
same_kind (down.Reply given draws x) (down.Reply other drawn y) same frame is = is
same_kind down.Blocked down.Blocked same frame is = is
same_kind (down.OutcomeIs a b) (down.OutcomeIs c d) same frame is = is
same_kind (down.OutcomeRefused a b) (down.OutcomeRefused c d) same frame is = is
same_kind (down.Refused a) (down.Refused b) same frame is = is
same_kind a b same frame is = absurd (let none : ⊥ = cc in none)

same_connect : (a b : Up) → same_up a b ≡ true → is_connect a ≡ is_connect b
same_connect up.Connect up.Connect same = refl
same_connect (up.Begin settings) (up.Begin others) same = refl
same_connect (up.Call r k c) (up.Call s l d) same = refl
same_connect (up.Outcome x) (up.Outcome y) same = refl
same_connect up.End up.End same = refl
same_connect up.Close up.Close same = refl
same_connect a b same = absurd (let none : ⊥ = cc in none)

same_called : (a b : Up) → same_up a b ≡ true → is_called a ≡ is_called b
same_called up.Connect up.Connect same = refl
same_called (up.Begin settings) (up.Begin others) same = refl
same_called (up.Call r k c) (up.Call s l d) same = refl
same_called (up.Outcome x) (up.Outcome y) same = refl
same_called up.End up.End same = refl
same_called up.Close up.Close same = refl
same_called a b same = absurd (let none : ⊥ = cc in none)

same_asked : (a b : Up) → same_up a b ≡ true → is_asked a ≡ is_asked b
same_asked up.Connect up.Connect same = refl
same_asked (up.Begin settings) (up.Begin others) same = refl
same_asked (up.Call r k c) (up.Call s l d) same = refl
same_asked (up.Outcome x) (up.Outcome y) same = refl
same_asked up.End up.End same = refl
same_asked up.Close up.Close same = refl
same_asked a b same = absurd (let none : ⊥ = cc in none)

answers_same : (reply : Down) (a b : Up) → same_up a b ≡ true → answers reply a ≡ answers reply b
answers_same (down.Hello x) a b same = same_connect a b same
answers_same (down.Reply given draws x) a b same = same_called a b same
answers_same down.Blocked a b same = same_called a b same
answers_same (down.OutcomeIs committed completed) a b same = same_asked a b same
answers_same (down.OutcomeRefused ahead horizon) a b same = same_asked a b same
answers_same (down.Refused cause) a b same = refl

-- ITEMS -------------------------------------------------------------------------------------------

of_connect : (frame : Up) → is_item_of frame item.Connect ≡ true → is_connect frame ≡ true
of_connect up.Connect is = refl
of_connect frame is = absurd (let none : ⊥ = cc in none)

of_call : (frame : Up) (marked : Bool) (call : _) (given : _) (draws : _) → is_item_of frame (item.Call marked call given draws) ≡ true → is_called frame ≡ true
of_call (up.Call replay kept called) marked call given draws is = refl
of_call frame marked call given draws is = absurd (let none : ⊥ = cc in none)

of_blocked : (frame : Up) (call : _) → is_item_of frame (item.Blocked call) ≡ true → is_called frame ≡ true
of_blocked (up.Call replay kept called) call is = refl
of_blocked frame call is = absurd (let none : ⊥ = cc in none)

of_outcome : (frame : Up) (x : _) (result : AskResult) → is_item_of frame (item.Outcome x result) ≡ true → is_asked frame ≡ true
of_outcome (up.Outcome y) x result is = refl
of_outcome frame x result is = absurd (let none : ⊥ = cc in none)

outcome_asked : (result : AskResult) (frame : Up) → is_asked frame ≡ true → answers (outcome_frame result) frame ≡ true
outcome_asked (told.Committed completed) frame is = is
outcome_asked told.Uncommitted frame is = is
outcome_asked (told.ServerAhead next) frame is = is
outcome_asked (told.ClientAhead next) frame is = is
outcome_asked (told.Forgotten horizon) frame is = is

-- the reply to a frame's item answers it
item_answers : (session : SessionId) (commits : ℕ) (frame : Up) (one : Item) (reply : Down) → is_item_of frame one ≡ true → same_replies (Some reply) (reply_of session commits one) ≡ true → answers reply frame ≡ true
item_answers session commits frame item.Connect reply is same = same_kind reply (down.Hello _) same frame (of_connect frame is)
item_answers session commits frame (item.Call marked call given draws) reply is same = same_kind reply (down.Reply given draws _) same frame (of_call frame marked call given draws is)
item_answers session commits frame (item.Blocked call) reply is same = same_kind reply down.Blocked same frame (of_blocked frame call is)
item_answers session commits frame (item.Outcome x result) reply is same = same_kind reply (outcome_frame result) same frame (outcome_asked result frame (of_outcome frame x result is))
item_answers session commits frame one reply is same = absurd (let none : ⊥ = cc in none)

handled_answers : (commits : ℕ) (one : Handled) (reply : Down) → one.reply ≡ Some reply → is_handled commits one ≡ true → answers reply one.sent.frame ≡ true
handled_answers commits one reply is here =
    by (or_cases (is_item_of one.sent.frame one.served.item && same_replies one.reply (reply_of one.served.session commits one.served.item)) (is_crashed_item one.sent.frame one.served.item && is_none one.reply) here)
  where
    by : ((is_item_of one.sent.frame one.served.item && same_replies one.reply (reply_of one.served.session commits one.served.item)) ≡ true) ⊎ ((is_crashed_item one.sent.frame one.served.item && is_none one.reply) ≡ true)
        → answers reply one.sent.frame ≡ true
    by (inl so) =
        let parts = and_parts (is_item_of one.sent.frame one.served.item) (same_replies one.reply (reply_of one.served.session commits one.served.item)) so in
        item_answers one.served.session commits one.sent.frame one.served.item reply parts.0 (subst (λ (found : Option Down). same_replies found (reply_of one.served.session commits one.served.item) ≡ true) is parts.1)
    by (inr so) =
        absurd (let none : is_none (Some reply) ≡ true = subst (λ (found : Option Down). is_none found ≡ true) is (and_parts (is_crashed_item one.sent.frame one.served.item) (is_none one.reply) so).1 in let never : ⊥ = cc in never)

-- LISTS -------------------------------------------------------------------------------------------

-- what stands at the place of the next one
pub front_at : {A : Type 0} (same : A → A → Bool) (xs ys zs : List A) (x : A) → is_front same (xs ++ x ∷ ys) zs ≡ true → (z : A) × ((slice_get zs (length xs) ≡ Some z) × (same x z ≡ true))
front_at same [] ys [] x front = absurd (let none : ⊥ = cc in none)
front_at same [] ys (z ∷ zs) x front = (z, (refl, (and_parts (same x z) (is_front same ys zs) front).0))
front_at same (w ∷ xs) ys [] x front = absurd (let none : ⊥ = cc in none)
front_at same (w ∷ xs) ys (z ∷ zs) x front = front_at same xs ys zs x (and_parts (same w z) (is_front same (xs ++ x ∷ ys) zs) front).1

pub last_at : {A : Type 0} (xs : List A) (index : ℕ) (x : A) (found : Option A) → slice_get xs index ≡ Some x → length xs ≡ index + 1 → last_or found xs ≡ Some x
last_at [] index x found is long = absurd (let none : ⊥ = cc in none)
last_at (y ∷ []) zero x found is long = is
last_at (y ∷ z ∷ ys) zero x found is long = absurd (let none : ⊥ = omega arith in none)
last_at (y ∷ ys) (suc index) x found is long = let less : length ys ≡ index + 1 = omega arith in last_at ys index x (Some y) is less

-- the replies that were given are of handled frames
given_at : (commits : ℕ) (served : List Handled) (index : ℕ) (reply : Reply) → handled_from commits served ≡ true → slice_get (filter_map reply_to served) index ≡ Some reply → answers reply.frame reply.to.frame ≡ true
given_at commits [] index reply handled is = absurd (let none : ⊥ = cc in none)
given_at commits (one ∷ served) index reply handled is = by one.reply refl (λ at found. given_at (counted_with commits one.served.item) served at reply (and_parts (is_handled (counted_with commits one.served.item) one) (handled_from (counted_with commits one.served.item) served) handled).1 found) is
  where
    now : ℕ
    now = counted_with commits one.served.item

    parts : (is_handled now one ≡ true) × (handled_from now served ≡ true)
    parts = and_parts (is_handled now one) (handled_from now served) handled

    here : (frame : Down) → one.reply ≡ Some frame → ((at : ℕ) → slice_get (filter_map reply_to served) at ≡ Some reply → answers reply.frame reply.to.frame ≡ true) → (at : ℕ) → slice_get (record { to = one.sent; frame = frame } ∷ filter_map reply_to served) at ≡ Some reply → answers reply.frame reply.to.frame ≡ true
    here frame given later zero found =
        let same : record { to = one.sent; frame = frame } ≡ reply = cc in
        subst (λ (r : Reply). answers r.frame r.to.frame ≡ true) same (handled_answers now one frame given parts.0)
    here frame given later (suc at) found = later at found

    by : (found : Option Down) → one.reply ≡ found → ((at : ℕ) → slice_get (filter_map reply_to served) at ≡ Some reply → answers reply.frame reply.to.frame ≡ true) → slice_get (cons_option (option_map (λ frame. record { to = one.sent; frame = frame }) found) (filter_map reply_to served)) index ≡ Some reply → answers reply.frame reply.to.frame ≡ true
    by None given later at = later index at
    by (Some frame) given later at = here frame given later index at

-- THE PHASE ---------------------------------------------------------------------------------------

awaited_fits : (phase : Phase) (sent : Sent) (reply : Down) → is_awaited phase sent ≡ true → answers reply sent.frame ≡ true → is_expected phase reply ≡ true
awaited_fits phase sent reply awaited is = by phase sent.frame reply awaited is
  where
    asks : (asking : _) (frame : Up) (reply : Down) → is_ask asking frame ≡ true → answers reply frame ≡ true → (is_asked frame ≡ true)
    asks asking (up.Outcome x) reply awaited is = refl
    asks asking frame reply awaited is = absurd (let none : ⊥ = cc in none)

    calls : (mark : Bool) (index : ℕ) (one : Sent) (frame : Up) → is_call mark index one frame ≡ true → is_called frame ≡ true
    calls mark index one (up.Call replay kept call) awaited = refl
    calls mark index one frame awaited = absurd (let none : ⊥ = cc in none)

    greets : (lost : _) (frame : Up) (reply : Down) → is_connect frame ≡ true → answers reply frame ≡ true → is_expected (Greeting lost) reply ≡ true
    greets lost up.Connect (down.Hello x) awaited is = refl
    greets lost up.Connect reply awaited is = absurd (let none : ⊥ = cc in none)
    greets lost frame reply awaited is = absurd (let none : ⊥ = cc in none)

    tells : (asking : _) (frame : Up) (reply : Down) → is_asked frame ≡ true → answers reply frame ≡ true → is_expected (Asked asking) reply ≡ true
    tells asking (up.Outcome x) (down.OutcomeIs committed completed) awaited is = refl
    tells asking (up.Outcome x) (down.OutcomeRefused ahead horizon) awaited is = refl
    tells asking (up.Outcome x) reply awaited is = absurd (let none : ⊥ = cc in none)
    tells asking frame reply awaited is = absurd (let none : ⊥ = cc in none)

    runs : (state : _) (frame : Up) (reply : Down) → is_called frame ≡ true → answers reply frame ≡ true → is_expected (Running state) reply ≡ true
    runs state (up.Call replay kept call) (down.Reply given draws x) awaited is = refl
    runs state (up.Call replay kept call) down.Blocked awaited is = refl
    runs state (up.Call replay kept call) reply awaited is = absurd (let none : ⊥ = cc in none)
    runs state frame reply awaited is = absurd (let none : ⊥ = cc in none)

    repeats : (state : _) (frame : Up) (reply : Down) → is_called frame ≡ true → answers reply frame ≡ true → is_expected (Replaying state) reply ≡ true
    repeats state (up.Call replay kept call) (down.Reply given draws x) awaited is = refl
    repeats state (up.Call replay kept call) down.Blocked awaited is = refl
    repeats state (up.Call replay kept call) reply awaited is = absurd (let none : ⊥ = cc in none)
    repeats state frame reply awaited is = absurd (let none : ⊥ = cc in none)

    by : (phase : Phase) (frame : Up) (reply : Down) → is_awaited phase (record sent { frame = frame }) ≡ true → answers reply frame ≡ true → is_expected phase reply ≡ true
    by (Greeting lost) frame reply awaited is = greets lost frame reply awaited is
    by (Asked asking) frame reply awaited is = tells asking frame reply (asks asking.ltxid frame reply awaited is) is
    by (Running state) frame reply awaited is = runs state frame reply (calls false state.track.call (record sent { frame = frame }) frame awaited) is
    by (Replaying state) frame reply awaited is = repeats state frame reply (calls true (index_of state) (record sent { frame = frame }) frame awaited) is
    by phase frame reply awaited is = absurd (let none : ⊥ = cc in none)

-- the reply that is taken next
pub reply_fits : (owner : Owner) (phase : Phase) (link : Link) (reply : Reply) (left : List Reply) → awaits owner phase link ≡ true → link.down ≡ reply ∷ left → is_reply_front link ≡ true → handled_from 0 link.served ≡ true
    → is_answered_in_order link ≡ true → is_expected phase reply.frame ≡ true
reply_fits owner phase link reply left out down wire handled order = by (last_or None link.sent) refl parts.1
  where
    parts : (is_out link ≡ true) × (option_map_or (λ sent. is_answered sent.frame && (owned_by owner sent && is_awaited phase sent)) (last_or None link.sent) false ≡ true)
    parts = and_parts (is_out link) (option_map_or (λ sent. is_answered sent.frame && (owned_by owner sent && is_awaited phase sent)) (last_or None link.sent) false) out

    given : (one : Reply) × ((slice_get (replies_of link) (length link.taken) ≡ Some one) × (same_reply reply one ≡ true))
    given = front_at same_reply link.taken left (replies_of link) reply
        (subst (λ (later : List Reply). is_front same_reply (link.taken ++ later) (replies_of link) ≡ true) down (and_parts (is_front same_reply (link.taken ++ link.down) (replies_of link)) _ wire).0)

    alike : (same_sent reply.to given.0.to ≡ true) × (same_down reply.frame given.0.frame ≡ true)
    alike = and_parts (same_sent reply.to given.0.to) (same_down reply.frame given.0.frame) given.1.1

    tos : List Sent
    tos = map (λ (one : Reply). one.to) link.taken

    rep : (sent : Sent) × ((slice_get (reps_of link) (length tos) ≡ Some sent) × (same_sent reply.to sent ≡ true))
    rep = front_at same_sent tos (map (λ (one : Reply). one.to) left) (reps_of link) reply.to
        (subst (λ (sents : List Sent). is_front same_sent sents (reps_of link) ≡ true) (map-append (λ (one : Reply). one.to) link.taken (reply ∷ left))
        (subst (λ (later : List Reply). is_front same_sent (map (λ (one : Reply). one.to) (link.taken ++ later)) (reps_of link) ≡ true) down order))

    long : length (reps_of link) ≡ length tos + 1
    long =
        let count : length (filter is_rep link.sent) ≡ count_reps link.sent = length-filter is_rep link.sent in
        let one : count_reps link.sent ≡ length link.taken + 1 = eq_from (count_reps link.sent) (length link.taken + 1) parts.0 in
        let same : length tos ≡ length link.taken = length-map link.taken (λ (r : Reply). r.to) in
        omega (arith, count, one, same)

    by : (found : Option Sent) → last_or None link.sent ≡ found → option_map_or (λ sent. is_answered sent.frame && (owned_by owner sent && is_awaited phase sent)) found false ≡ true → is_expected phase reply.frame ≡ true
    by None is here = absurd (let none : ⊥ = cc in none)
    by (Some sent) is here =
        let one = and_parts (is_answered sent.frame) (owned_by owner sent && is_awaited phase sent) here in
        let two = and_parts (owned_by owner sent) (is_awaited phase sent) one.1 in
        let last : last_or None (filter is_rep link.sent) ≡ Some sent = last_kept is_rep None None link.sent (λ never. refl) (ap (λ (found : Option Sent). option_map_or is_rep found false) is ∙ one.0) ∙ is in
        let found : Some rep.0 ≡ Some sent = sym (last_at (reps_of link) (length tos) rep.0 None rep.1.0 long) ∙ last in
        let equal : rep.0 ≡ sent = cc in
        let back : answers reply.frame given.0.to.frame ≡ true = same_kind reply.frame given.0.frame alike.1 given.0.to.frame (given_at 0 link.served (length link.taken) given.0 handled given.1.0) in
        let its : answers reply.frame reply.to.frame ≡ true = answers_same reply.frame reply.to.frame given.0.to.frame (same_frames reply.to given.0.to alike.0) ∙ back in
        let same : same_sent reply.to sent ≡ true = subst (λ (s : Sent). same_sent reply.to s ≡ true) equal rep.1.1 in
        awaited_fits phase sent reply.frame two.1 (sym (answers_same reply.frame reply.to.frame sent.frame (same_frames reply.to sent same)) ∙ its)
