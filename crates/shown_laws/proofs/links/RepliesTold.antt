-- What is told of the replies of a connection, where it changes.
use Rattle.std.proofs.Common.{◌≡◌, refl, sym, ap, ◌∙◌, append-nil, append_assoc, Bool, true, false, ℕ, ◌-◌, List, [], ◌∷◌, ◌++◌, Option, Some, None, option_map, option_to_list, if◌then◌else◌}
use Rattle.std.specs.Prelude.{nat_le}
use Rattle.std.specs.List.{list_any}
use Rattle.std.proofs.lemmas.List.{map-append}
use Rattle.std.proofs.lemmas.List.Elements.{filter_map-append}
use Rattle.svc_values.specs.declared.frame.Down.{Down}
use Rattle.client_model.specs.declared.input.Input.{Input}
use Rattle.outage_schedule.specs.declared.item.Served.{Served}
use Rattle.shown_clauses.specs.meaning.Fronts.{first_item, rest_items}
use Rattle.world_model.specs.meaning.Cutting.{cut_link}
use Rattle.world_model.specs.meaning.Crashing.{fallen_link}
use Rattle.world_model.specs.meaning.Frames.{Sent, Reply, Handled, down_size, whole_front}
use Rattle.world_model.specs.meaning.Links.{Link, is_close, ends, sends, takes}
use Rattle.world_model.specs.meaning.Serving.{Front, after_front}
use Rattle.shown_laws.specs.Connections.{Answer, answer_of, answers_of, replies_in, items_in, TellsReplies}

-- WHERE A CONNECTION ENDS -------------------------------------------------------------------------

-- it is ended if it was open
pub ends_case : (P : Link → Type 0) (event : ℕ) (link : Link) → (link.is_open ≡ true → P (record link { is_open = false; ended = Some event })) → (link.is_open ≡ false → P link) → P (ends event link)
ends_case P event link now before = by link.is_open now before
  where
    by : (test : Bool) → (test ≡ true → P (record link { is_open = false; ended = Some event })) → (test ≡ false → P link) → P (if test then record link { is_open = false; ended = Some event } else link)
    by true now before = now refl
    by false now before = before refl

-- what is told stays told
pub ended_replies : (event : ℕ) (link : Link) (told : List Served) → TellsReplies link told → TellsReplies (ends event link) told
ended_replies event link told is =
    ends_case (λ one. TellsReplies one told) event link
    (λ opens. record {
      gone = is.gone;
      waiting = is.waiting;
      stopped = is.stopped;
      lost = is.lost;
      given = is.given;
      taken = is.taken;
      items = is.items;
      down = is.down;
      all_down = λ never. absurd (let none : ⊥ = cc in none);
      none_stopped = is.none_stopped;
    })
    (λ closed. is)

abbrev pub with_frames : List Sent → Link → Link
with_frames frames link = record link { sent = link.sent ++ frames; up = link.up ++ frames }

pub sent_replies : (event : ℕ) (frames : List Sent) (link : Link) (told : List Served) → TellsReplies link told → TellsReplies (sends event frames link) told
sent_replies event frames link told is = by (list_any (λ (sent : Sent). is_close sent.frame) frames)
  where
    same : TellsReplies (with_frames frames link) told
    same = record { gone = is.gone; waiting = is.waiting; stopped = is.stopped; lost = is.lost; given = is.given; taken = is.taken; items = is.items; down = is.down; all_down = is.all_down; none_stopped = is.none_stopped }

    by : (test : Bool) → TellsReplies (if test then ends event (with_frames frames link) else with_frames frames link) told
    by true = ended_replies event (with_frames frames link) told same
    by false = same

-- TAKING ------------------------------------------------------------------------------------------

-- The reply that is taken next is told as the next one: its item is that of an answer which the
-- session gave.
pub record NextReply (input : Input) (link : Link) (reply : Reply) (left : List Reply) (told : List Served) : Type 0 where
  pub one : Answer
  pub before : List Answer
  pub later : List Answer
  pub given : answers_of link.served ≡ before ++ one ∷ later
  pub is : one.reply ≡ reply
  pub first : first_item told ≡ Some one.served
  pub behind : TellsReplies (takes input reply left link) (rest_items told)

pub next_reply : (input : Input) (link : Link) (reply : Reply) (left : List Reply) (told : List Served) → TellsReplies link told → link.down ≡ reply ∷ left → NextReply input link reply left told
next_reply input link reply left told is down = by is.waiting is.given is.items (is.down ∙ ap (λ (d : List Reply). d ++ is.lost) down)
  where
    by : (waiting : List Answer) → answers_of link.served ≡ is.gone ++ (waiting ++ is.stopped) → items_in waiting ≡ told → replies_in waiting ≡ reply ∷ (left ++ is.lost) → NextReply input link reply left told
    by [] given items same = absurd (let none : ⊥ = cc in none)
    by (one ∷ waiting) given items same =
        let first : one.reply ≡ reply = cc in
        let rest : replies_in waiting ≡ left ++ is.lost = cc in
        record {
          one = one;
          before = is.gone;
          later = waiting ++ is.stopped;
          given = given;
          is = first;
          first = sym (ap first_item items);
          behind = record {
            gone = is.gone ++ one ∷ [];
            waiting = waiting;
            stopped = is.stopped;
            lost = is.lost;
            given = given ∙ sym (append_assoc is.gone (one ∷ []) (waiting ++ is.stopped));
            taken = map-append (λ (a : Answer). a.reply) is.gone (one ∷ []) ∙ (ap (λ (t : List Reply). t ++ one.reply ∷ []) is.taken ∙ ap (λ (r : Reply). link.taken ++ r ∷ []) first);
            items = ap rest_items items;
            down = rest;
            all_down = is.all_down;
            none_stopped = is.none_stopped;
          };
        }

-- CUTS AND CRASHES --------------------------------------------------------------------------------

-- what arrives whole is a front of what was on its way
front_whole : {A : Type 0} (size : A → ℕ) (bytes : ℕ) (all : List A) → (rest : List A) × (all ≡ whole_front size bytes all ++ rest)
front_whole {A = A} size bytes [] = ([], refl)
front_whole {A = A} size bytes (first ∷ later) = by (nat_le (size first) bytes) (front_whole size (bytes - size first) later)
  where
    by : (test : Bool) → (rest : List A) × (later ≡ whole_front size (bytes - size first) later ++ rest) → (rest : List A) × (first ∷ later ≡ (if test then first ∷ whole_front size (bytes - size first) later else []) ++ rest)
    by true rest = (rest.0, ap (λ all. first ∷ all) rest.1)
    by false rest = (first ∷ later, refl)

pub cut_replies : (event up down : ℕ) (link : Link) (told : List Served) → TellsReplies link told → link.is_open ≡ true → TellsReplies (cut_link event up down link) told
cut_replies event up down link told is opens =
    ends_case (λ one. TellsReplies (record one { is_cut = true; up = (cut_link event up down link).up; down = whole_front down_size down link.down }) told) event link
    (λ now. record {
      gone = is.gone;
      waiting = is.waiting;
      stopped = is.stopped;
      lost = whole.0 ++ is.lost;
      given = is.given;
      taken = is.taken;
      items = is.items;
      down = is.down ∙ (ap (λ (d : List Reply). d ++ is.lost) whole.1 ∙ append_assoc (whole_front down_size down link.down) whole.0 is.lost);
      all_down = λ never. absurd (let none : ⊥ = cc in none);
      none_stopped = is.none_stopped;
    })
    (λ closed. absurd (let none : ⊥ = cc in none))
  where
    whole : (rest : List Reply) × (link.down ≡ whole_front down_size down link.down ++ rest)
    whole = front_whole down_size down link.down

-- what a crash leaves on its way
abbrev left_down : Bool → List Reply → List Reply
left_down cut down = if cut then down else []

abbrev lost_down : Bool → List Reply → List Reply → List Reply
lost_down cut down lost = if cut then lost else down ++ lost

split_down : (cut : Bool) (down lost : List Reply) → down ++ lost ≡ left_down cut down ++ lost_down cut down lost
split_down true down lost = refl
split_down false down lost = refl

pub fallen_replies : (event : ℕ) (link : Link) (told : List Served) → TellsReplies link told → TellsReplies (fallen_link event link) told
fallen_replies event link told is =
    by (ends_case (λ one. (one.served ≡ link.served) × ((one.taken ≡ link.taken) × (one.is_open ≡ false))) event link (λ opens. (refl, (refl, refl))) (λ closed. (refl, (refl, closed))))
  where
    by : ((ends event link).served ≡ link.served) × (((ends event link).taken ≡ link.taken) × ((ends event link).is_open ≡ false)) → TellsReplies (fallen_link event link) told
    by same = record {
      gone = is.gone;
      waiting = is.waiting;
      stopped = is.stopped;
      lost = lost_down link.is_cut link.down is.lost;
      given = ap answers_of same.0 ∙ is.given;
      taken = is.taken ∙ sym same.1.0;
      items = is.items;
      down = is.down ∙ split_down link.is_cut link.down is.lost;
      all_down = λ opens. let shut : (ends event link).is_open ≡ false = same.1.1 in absurd (let none : ⊥ = cc in none);
      none_stopped = λ never. absurd (let none : ⊥ = cc in none);
    }

-- SERVING -----------------------------------------------------------------------------------------

abbrev pub handled_so : Front → Served → Option Down → Handled
handled_so front served reply = record { sent = front.first; served = served; reply = reply }

abbrev pub answer_so : Front → Served → Down → Answer
answer_so front served frame = record { reply = record { to = front.first; frame = frame }; served = served }

given_more : (served : List Handled) (front : Front) (one : Served) (frame : Down) → answers_of (served ++ handled_so front one (Some frame) ∷ []) ≡ answers_of served ++ answer_so front one frame ∷ []
given_more served front one frame = filter_map-append answer_of served (handled_so front one (Some frame) ∷ [])

given_none : (served : List Handled) (front : Front) (one : Served) → answers_of (served ++ handled_so front one None ∷ []) ≡ answers_of served
given_none served front one = filter_map-append answer_of served (handled_so front one None ∷ []) ∙ append-nil (answers_of served)

-- A frame that is not answered is told as no reply.
pub quiet_replies : (front : Front) (served : Served) (told : List Served) → TellsReplies front.link told → front.link.is_living ≡ true → TellsReplies (after_front front served None) told
quiet_replies front served told is living = record {
  gone = is.gone;
  waiting = is.waiting;
  stopped = is.stopped;
  lost = is.lost;
  given = given_none front.link.served front served ∙ is.given;
  taken = is.taken;
  items = is.items;
  down = is.down ∙ ap (λ (d : List Reply). d ++ is.lost) (sym (by front.link.is_open));
  all_down = is.all_down;
  none_stopped = λ lives. is.none_stopped living;
}
  where
    by : (test : Bool) → front.link.down ++ (if test then option_to_list (option_map (λ frame. record { to = front.first; frame = frame }) None) else []) ≡ front.link.down
    by true = append-nil front.link.down
    by false = append-nil front.link.down

-- The reply to one that is answered is told behind all others, and is lost where the connection has
-- ended.
pub answered_replies : (front : Front) (served : Served) (frame : Down) (told : List Served) → TellsReplies front.link told → front.link.is_living ≡ true → TellsReplies (after_front front served (Some frame)) (told ++ served ∷ [])
answered_replies front served frame told is living = by front.link.is_open is.all_down
  where
    one : Answer
    one = answer_so front served frame

    none : is.stopped ≡ []
    none = is.none_stopped living

    given : answers_of (front.link.served ++ handled_so front served (Some frame) ∷ []) ≡ is.gone ++ ((is.waiting ++ one ∷ []) ++ [])
    given =
        given_more front.link.served front served frame
        ∙ (ap (λ (a : List Answer). a ++ one ∷ []) (is.given ∙ ap (λ (s : List Answer). is.gone ++ (is.waiting ++ s)) none ∙ ap (λ (w : List Answer). is.gone ++ w) (append-nil is.waiting))
        ∙ (append_assoc is.gone is.waiting (one ∷ []) ∙ ap (λ (w : List Answer). is.gone ++ w) (sym (append-nil (is.waiting ++ one ∷ [])))))

    items : items_in (is.waiting ++ one ∷ []) ≡ told ++ served ∷ []
    items = map-append (λ (a : Answer). a.served) is.waiting (one ∷ []) ∙ ap (λ (t : List Served). t ++ served ∷ []) is.items

    replies : replies_in (is.waiting ++ one ∷ []) ≡ (front.link.down ++ is.lost) ++ one.reply ∷ []
    replies = map-append (λ (a : Answer). a.reply) is.waiting (one ∷ []) ∙ ap (λ (t : List Reply). t ++ one.reply ∷ []) is.down

    by : (test : Bool) → (test ≡ true → is.lost ≡ [])
        → TellsReplies (record (after_front front served (Some frame)) { is_open = test; down = front.link.down ++ (if test then one.reply ∷ [] else []) }) (told ++ served ∷ [])
    by true all = record {
      gone = is.gone;
      waiting = is.waiting ++ one ∷ [];
      stopped = [];
      lost = [];
      given = given;
      taken = is.taken;
      items = items;
      down = replies ∙ (ap (λ (l : List Reply). (front.link.down ++ l) ++ one.reply ∷ []) (all refl) ∙ (ap (λ (d : List Reply). d ++ one.reply ∷ []) (append-nil front.link.down) ∙ sym (append-nil (front.link.down ++ one.reply ∷ []))));
      all_down = λ opens. refl;
      none_stopped = λ lives. refl;
    }
    by false all = record {
      gone = is.gone;
      waiting = is.waiting ++ one ∷ [];
      stopped = [];
      lost = is.lost ++ one.reply ∷ [];
      given = given;
      taken = is.taken;
      items = items;
      down = replies ∙ (append_assoc front.link.down is.lost (one.reply ∷ []) ∙ ap (λ (d : List Reply). d ++ (is.lost ++ one.reply ∷ [])) (sym (append-nil front.link.down)));
      all_down = λ never. absurd (let no : ⊥ = cc in no);
      none_stopped = λ lives. refl;
    }

-- The reply to a frame that is served before a crash is told as none: it does not arrive.
pub crashed_replies : (event : ℕ) (front : Front) (served : Served) (frame : Down) (told : List Served) → TellsReplies front.link told → front.link.is_living ≡ true → (front.link.is_cut ≡ true → front.link.is_open ≡ false)
    → TellsReplies (fallen_link event (after_front front served (Some frame))) told
crashed_replies event front served frame told is living shut =
    ends_case (λ (end : Link). TellsReplies (record end { is_living = false; up = []; down = left_down front.link.is_cut (after_front front served (Some frame)).down }) told) event (after_front front served (Some frame))
    (λ opens. made (record (after_front front served (Some frame)) { is_open = false; ended = Some event }) refl refl refl)
    (λ closed. made (after_front front served (Some frame)) refl refl closed)
  where
    one : Answer
    one = answer_so front served frame

    given : answers_of (front.link.served ++ handled_so front served (Some frame) ∷ []) ≡ is.gone ++ (is.waiting ++ one ∷ [])
    given =
        given_more front.link.served front served frame
        ∙ (ap (λ (a : List Answer). a ++ one ∷ []) (is.given ∙ ap (λ (s : List Answer). is.gone ++ (is.waiting ++ s)) (is.none_stopped living) ∙ ap (λ (w : List Answer). is.gone ++ w) (append-nil is.waiting))
        ∙ append_assoc is.gone is.waiting (one ∷ []))

    -- where the connection was cut the reply was not on its way
    left : (cut opens : Bool) → (cut ≡ true → opens ≡ false) → left_down cut (front.link.down ++ (if opens then one.reply ∷ [] else [])) ≡ left_down cut front.link.down
    left true true cuts = absurd (let same : true ≡ false = cuts refl in let never : ⊥ = cc in never)
    left true false cuts = append-nil front.link.down
    left false opens cuts = refl

    made : (end : Link) → end.served ≡ (after_front front served (Some frame)).served → end.taken ≡ front.link.taken → end.is_open ≡ false
        → TellsReplies (record end { is_living = false; up = []; down = left_down front.link.is_cut (after_front front served (Some frame)).down }) told
    made end same taken closed = record {
      gone = is.gone;
      waiting = is.waiting;
      stopped = one ∷ [];
      lost = lost_down front.link.is_cut front.link.down is.lost;
      given = ap answers_of same ∙ given;
      taken = is.taken ∙ sym taken;
      items = is.items;
      down = is.down ∙ (split_down front.link.is_cut front.link.down is.lost ∙ ap (λ (d : List Reply). d ++ lost_down front.link.is_cut front.link.down is.lost) (sym (left front.link.is_cut front.link.is_open shut)));
      all_down = λ opens. absurd (let never : ⊥ = cc in never);
      none_stopped = λ never. absurd (let none : ⊥ = cc in none);
    }
