-- What is kept of attempts is what the steps told.
use Rattle.std.proofs.Common.{◌≡◌, ℕ, suc, ◌+◌, ◌<◌, ◌≤◌, Bool, true, false, ◌&&◌, List, [], ◌∷◌, ◌++◌, Option, Some, None, length, drop, get_or, fold, refl, sym, ap, ap₂, subst, ◌∙◌, arith, add-one}
use Rattle.std.specs.Prelude.{slice_get, slice_set, nat_lt, option_map, if◌then◌else◌}
use Rattle.std.specs.Option.{option_or}
use Rattle.std.proofs.lemmas.Bool.{ltb-true, ltb-false}
use Rattle.svc_values.specs.declared.answer.Answer.{Answer}
use Rattle.svc_values.specs.declared.entry.Ltxid.{Ltxid}
use Rattle.svc_values.specs.declared.frame.Up.{Up}
use Rattle.svc_values.specs.declared.frame.Up.TheVariants as up
use Rattle.svc_values.specs.declared.frame.Down.{Down}
use Rattle.svc_values.specs.declared.frame.Down.TheVariants as down
use Rattle.svc_values.specs.meaning.Calls.{has_commit}
use Rattle.svc_values.specs.meaning.Endings.{ends_committed, ends_transaction}
use Rattle.client_model.specs.declared.input.Input.{Input}
use Rattle.client_model.specs.declared.input.Input.TheVariants.{Start, Waiting, Lent, Opened, TryFailed, Took, Gone}
use Rattle.client_model.specs.declared.act.Shown.{Shown}
use Rattle.client_model.specs.meaning.Conversation.{Done}
use Rattle.client_model.specs.meaning.Tried.{Sending, Trying, is_try, told_ltxid, with_answer, replied, over_after, sent_under, tries_on, trying_of, tried_in, tried_upto, tried_of}
use Rattle.transcript_core.specs.declared.attempts.Attempt.{Attempt}
use Rattle.transcript_core.specs.Attempts.{Attempts, none_yet, put_once, put_in, settled_with, settled, answered, told_by, next_transaction, ended_by, hears, sends, lists_of, attempt_of, AreAttempts}
use Rattle.transcript_core.specs.Attempts as kept
use Rattle.transcript_core.specs.Hearing.{heard_of}
use Rattle.transcript_core.proofs.OnceEach.{more_in, past_one, no_try, here, length_upto, upto_first, upto_untried, upto_put, upto_beyond, Within, within_more, none_beyond}

-- SETTLING ----------------------------------------------------------------------------------------

-- with the last call settled, they are what all calls tried
record AreSettled (transaction : ℕ) (sendings : List Sending) (lists : Attempts) : Type 0 where
  over : lists.over ≡ tried_upto transaction 0 sendings
  now : lists.now ≡ tried_in transaction sendings

module _ (trying : Trying) (lists : Attempts) (are : AreAttempts trying lists) where
  put_settled : (sending : Sending) (earlier : List Sending) → trying.sendings ≡ sending ∷ earlier → is_try sending ≡ true → (within : Bool) → nat_lt sending.transaction (length lists.over) ≡ within → sending.transaction ≤ trying.over
      → AreSettled trying.over (sending ∷ earlier) (if within then record lists { over = slice_set lists.over sending.transaction (put_once (get_or lists.over sending.transaction []) sending.ltxid) } else record lists { now = put_once lists.now sending.ltxid })
  put_settled sending earlier is tries true e up =
      let before : lists.over ≡ tried_upto trying.over 0 earlier = are.over ∙ ap (λ (s : List Sending). tried_upto trying.over 0 (drop 1 s)) is in
      let many : length lists.over ≡ trying.over = ap length before ∙ length_upto trying.over 0 earlier in
      let below : sending.transaction < trying.over = omega (arith, ltb-true sending.transaction (length lists.over) e, many) in
      record {
        over = ap (λ (l : List (List Ltxid)). slice_set l sending.transaction (put_once (get_or l sending.transaction []) sending.ltxid)) before ∙ sym (upto_put trying.over 0 sending.transaction sending earlier tries (omega arith) below);
        now = are.now ∙ ap (λ (s : List Sending). tried_in trying.over (drop 1 s)) is ∙ sym (more_in trying.over sending earlier false (past_one trying.over sending (λ same. omega (arith, below))));
      }
  put_settled sending earlier is tries false e up =
      let before : lists.over ≡ tried_upto trying.over 0 earlier = are.over ∙ ap (λ (s : List Sending). tried_upto trying.over 0 (drop 1 s)) is in
      let many : length lists.over ≡ trying.over = ap length before ∙ length_upto trying.over 0 earlier in
      let last : sending.transaction ≡ trying.over = omega (arith, ltb-false sending.transaction (length lists.over) e, many, up) in
      record {
        over = before ∙ sym (upto_beyond trying.over 0 sending earlier (omega (arith, last)));
        now = ap (λ (l : List Ltxid). put_once l sending.ltxid) (are.now ∙ ap (λ (s : List Sending). tried_in trying.over (drop 1 s)) is) ∙ sym (more_in trying.over sending earlier true (here trying.over sending tries last));
      }

  try_settled : (sending : Sending) (earlier : List Sending) → trying.sendings ≡ sending ∷ earlier → (tries : Bool) → is_try sending ≡ tries → sending.transaction ≤ trying.over
      → AreSettled trying.over (sending ∷ earlier) (if tries then put_in lists sending.transaction sending.ltxid else lists)
  try_settled sending earlier is true e up = put_settled sending earlier is e (nat_lt sending.transaction (length lists.over)) refl up
  try_settled sending earlier is false e up = record {
    over = are.over ∙ ap (λ (s : List Sending). tried_upto trying.over 0 (drop 1 s)) is ∙ sym (upto_untried trying.over 0 sending earlier e);
    now = are.now ∙ ap (λ (s : List Sending). tried_in trying.over (drop 1 s)) is ∙ sym (more_in trying.over sending earlier false (no_try trying.over sending e));
  }

  settled_by : (sendings : List Sending) → trying.sendings ≡ sendings → Within trying.over sendings → AreSettled trying.over sendings (settled_with lists (option_map attempt_of (slice_get sendings 0)))
  settled_by [] is w = record {
    over = are.over ∙ ap (λ (s : List Sending). tried_upto trying.over 0 (drop 1 s)) is;
    now = are.now ∙ ap (λ (s : List Sending). tried_in trying.over (drop 1 s)) is;
  }
  settled_by (sending ∷ earlier) is w = try_settled sending earlier is (is_try sending) refl w.0

  all_settled : Within trying.over trying.sendings → AreSettled trying.over trying.sendings (settled lists)
  all_settled w = subst (λ (last : Option Attempt). AreSettled trying.over trying.sendings (settled_with lists last)) (sym are.last) (settled_by trying.sendings refl w)

  pub tried_lists : Within trying.over trying.sendings → lists_of (settled lists) ≡ tried_upto (suc trying.over) 0 trying.sendings
  tried_lists w =
      let settled_so = all_settled w in
      ap₂ (λ (a : List (List Ltxid)) (b : List Ltxid). a ++ b ∷ []) settled_so.over settled_so.now ∙ sym (upto_first trying.over trying.sendings)

  settled_held : (last : Option Attempt) → (settled_with lists last).held ≡ lists.held
  settled_held None = refl
  settled_held (Some attempt) = by attempt.tried (nat_lt attempt.transaction (length lists.over))
    where
      by : (tries within : Bool) → (if tries then (if within then record lists { over = slice_set lists.over attempt.transaction (put_once (get_or lists.over attempt.transaction []) attempt.ltxid) } else record lists { now = put_once lists.now attempt.ltxid }) else lists).held ≡ lists.held
      by true true = refl
      by true false = refl
      by false within = refl

  -- A frame goes out.
  frame_by : (held : Option Ltxid) (frame : Up) → Within trying.over trying.sendings → AreAttempts (record trying { sendings = sent_under held trying.over trying.sendings frame }) (kept.sent_under lists held frame)
  frame_by None frame w = are
  frame_by (Some ltxid) up.Connect w = are
  frame_by (Some ltxid) (up.Begin settings) w = are
  frame_by (Some ltxid) (up.Call true draws call) w = are
  frame_by (Some ltxid) (up.Call false draws call) w =
      let settled_so = all_settled w in
      let many : length lists.over ≡ trying.over = ap length are.over ∙ length_upto trying.over 0 (drop 1 trying.sendings) in
      record {
        over = settled_so.over;
        now = settled_so.now;
        held = settled_held lists.last ∙ are.held;
        last = ap₂ (λ (t : ℕ) (b : Bool). Some (record { transaction = t; ltxid = ltxid; commits = has_commit call; tried = b })) many (sym (and_true (has_commit call)));
      }
    where
      and_true : (b : Bool) → (b && true) ≡ b
      and_true true = refl
      and_true false = refl
  frame_by (Some ltxid) (up.Outcome asked) w = are
  frame_by (Some ltxid) up.End w = are
  frame_by (Some ltxid) up.Close w = are

pub sent_within : (held : Option Ltxid) (over : ℕ) (sendings : List Sending) (frame : Up) → Within over sendings → Within over (sent_under held over sendings frame)
sent_within None over sendings frame w = w
sent_within (Some ltxid) over sendings up.Connect w = w
sent_within (Some ltxid) over sendings (up.Begin settings) w = w
sent_within (Some ltxid) over sendings (up.Call true draws call) w = w
sent_within (Some ltxid) over sendings (up.Call false draws call) w = (omega arith, w)
sent_within (Some ltxid) over sendings (up.Outcome asked) w = w
sent_within (Some ltxid) over sendings up.End w = w
sent_within (Some ltxid) over sendings up.Close w = w

all_within : (held : Option Ltxid) (over : ℕ) (sendings : List Sending) (frames : List Up) → Within over sendings → Within over (fold (sent_under held over) sendings frames)
all_within held over sendings [] w = w
all_within held over sendings (frame ∷ frames) w = all_within held over (sent_under held over sendings frame) frames (sent_within held over sendings frame w)

pub frame_sent : (trying : Trying) (lists : Attempts) (frame : Up) → AreAttempts trying lists → Within trying.over trying.sendings
    → AreAttempts (record trying { sendings = sent_under trying.held trying.over trying.sendings frame }) (sends lists frame)
frame_sent trying lists frame are w =
    subst (λ (held : Option Ltxid). AreAttempts (record trying { sendings = sent_under trying.held trying.over trying.sendings frame }) (kept.sent_under lists held frame)) (sym are.held)
    (frame_by trying lists are trying.held frame w)

-- HEARING -----------------------------------------------------------------------------------------

with_answer_drop : (answers : List Answer) (sendings : List Sending) → drop 1 (with_answer answers sendings) ≡ drop 1 sendings
with_answer_drop answers [] = refl
with_answer_drop answers (sending ∷ earlier) = refl

with_answer_last : (answers : List Answer) (sendings : List Sending) → option_map (answered (ends_committed answers)) (option_map attempt_of (slice_get sendings 0)) ≡ option_map attempt_of (slice_get (with_answer answers sendings) 0)
with_answer_last answers [] = refl
with_answer_last answers (sending ∷ earlier) = refl

with_answer_within : (over : ℕ) (answers : List Answer) (sendings : List Sending) → Within over sendings → Within over (with_answer answers sendings)
with_answer_within over answers [] w = w
with_answer_within over answers (sending ∷ earlier) w = w

-- what comes in, before a transaction may end
record AreTold (trying : Trying) (lists : Attempts) (input : Input) (shown : Option Shown) : Type 0 where
  told : AreAttempts (record { held = option_or (told_ltxid input shown) trying.held; over = trying.over; sendings = replied input shown trying.sendings }) (told_by lists (heard_of input) shown)
  within : Within trying.over (replied input shown trying.sendings)

module _ (trying : Trying) (lists : Attempts) (are : AreAttempts trying lists) (w : Within trying.over trying.sendings) where
  same_calls : (told : Option Ltxid) → AreAttempts (record trying { held = option_or told trying.held }) (record lists { held = option_or told lists.held })
  same_calls told = record { over = are.over; now = are.now; held = ap (option_or told) are.held; last = are.last }

  frame_told : (frame : Down) (alive : Bool) (shown : Option Shown) → AreTold trying lists (Took frame alive) shown
  frame_told (down.Hello ltxid) alive shown = record { told = same_calls (Some ltxid); within = w }
  frame_told (down.Reply answers draws ltxid) alive None = record { told = same_calls None; within = w }
  frame_told (down.Reply answers draws ltxid) alive (Some shown) = record {
    told = record {
      over = are.over ∙ ap (tried_upto trying.over 0) (sym (with_answer_drop answers trying.sendings));
      now = are.now ∙ ap (tried_in trying.over) (sym (with_answer_drop answers trying.sendings));
      held = refl;
      last = ap (option_map (answered (ends_committed answers))) are.last ∙ with_answer_last answers trying.sendings;
    };
    within = with_answer_within trying.over answers trying.sendings w;
  }
  frame_told (down.OutcomeIs committed completed) alive shown = record { told = same_calls None; within = w }
  frame_told (down.OutcomeRefused ahead next) alive shown = record { told = same_calls None; within = w }
  frame_told down.Blocked alive shown = record { told = same_calls None; within = w }
  frame_told (down.Refused cause) alive shown = record { told = same_calls None; within = w }

  input_told : (input : Input) (shown : Option Shown) → AreTold trying lists input shown
  input_told Start shown = record { told = same_calls None; within = w }
  input_told Waiting shown = record { told = same_calls None; within = w }
  input_told (Lent connection ltxid) shown = record { told = same_calls (Some ltxid); within = w }
  input_told (Opened connection) shown = record { told = same_calls None; within = w }
  input_told TryFailed shown = record { told = same_calls None; within = w }
  input_told (Took frame alive) shown = frame_told frame alive shown
  input_told (Gone event) shown = record { told = same_calls None; within = w }

  -- the transaction is over, or goes on
  ended : (b : Bool) → AreAttempts (record trying { over = if b then trying.over + 1 else trying.over }) (if b then next_transaction lists else lists) × Within (if b then trying.over + 1 else trying.over) trying.sendings
  ended false = (are, w)
  ended true =
      let one : trying.over + 1 ≡ suc trying.over = add-one trying.over in (
        record {
          over = ap₂ (λ (a : List (List Ltxid)) (b : List Ltxid). a ++ b ∷ []) are.over are.now ∙ sym (upto_first trying.over (drop 1 trying.sendings)) ∙ ap (λ (n : ℕ). tried_upto n 0 (drop 1 trying.sendings)) (sym one);
          now = sym (none_beyond trying.over (drop 1 trying.sendings) (behind trying.sendings w)) ∙ ap (λ (n : ℕ). tried_in n (drop 1 trying.sendings)) (sym one);
          held = are.held;
          last = are.last;
        },
        within_more trying.over (trying.over + 1) trying.sendings (omega arith) w,
      )
    where
      behind : (sendings : List Sending) → Within trying.over sendings → Within trying.over (drop 1 sendings)
      behind [] h = tt
      behind (sending ∷ earlier) h = h.1

  ended_so : (shown : Option Shown) → AreAttempts (record trying { over = over_after trying.over shown }) (ended_by lists shown) × Within (over_after trying.over shown) trying.sendings
  ended_so None = (are, w)
  ended_so (Some shown) = ended (ends_transaction shown.answers)

-- what a step tells before frames go out
abbrev pub before_sends : Trying → Input → Option Shown → Trying
before_sends trying input shown = record { held = option_or (told_ltxid input shown) trying.held; over = over_after trying.over shown; sendings = replied input shown trying.sendings }

pub heard : (trying : Trying) (lists : Attempts) (input : Input) (shown : Option Shown) → AreAttempts trying lists → Within trying.over trying.sendings
    → AreAttempts (before_sends trying input shown) (hears lists (heard_of input) shown) × Within (over_after trying.over shown) (replied input shown trying.sendings)
heard trying lists input shown are w =
    let told = input_told trying lists are w input shown in
    ended_so (record { held = option_or (told_ltxid input shown) trying.held; over = trying.over; sendings = replied input shown trying.sendings }) (told_by lists (heard_of input) shown) told.told told.within shown

-- ALL STEPS ---------------------------------------------------------------------------------------

steps_within : (trying : Trying) (steps : List Done) → Within trying.over trying.sendings → Within (fold tries_on trying steps).over (fold tries_on trying steps).sendings
steps_within trying [] w = w
steps_within trying (done ∷ steps) w = steps_within (tries_on trying done) steps (step_within (told_within trying.over trying.sendings done.input done.act.shown w))
  where
    reply_within : (over : ℕ) (sendings : List Sending) (frame : Down) (alive : Bool) (shown : Option Shown) → Within over sendings → Within over (replied (Took frame alive) shown sendings)
    reply_within over sendings (down.Hello ltxid) alive shown h = h
    reply_within over sendings (down.Reply answers draws ltxid) alive None h = h
    reply_within over sendings (down.Reply answers draws ltxid) alive (Some shown) h = with_answer_within over answers sendings h
    reply_within over sendings (down.OutcomeIs committed completed) alive shown h = h
    reply_within over sendings (down.OutcomeRefused ahead next) alive shown h = h
    reply_within over sendings down.Blocked alive shown h = h
    reply_within over sendings (down.Refused cause) alive shown h = h

    told_within : (over : ℕ) (sendings : List Sending) (input : Input) (shown : Option Shown) → Within over sendings → Within over (replied input shown sendings)
    told_within over sendings Start shown h = h
    told_within over sendings Waiting shown h = h
    told_within over sendings (Lent connection ltxid) shown h = h
    told_within over sendings (Opened connection) shown h = h
    told_within over sendings TryFailed shown h = h
    told_within over sendings (Took frame alive) shown h = reply_within over sendings frame alive shown h
    told_within over sendings (Gone event) shown h = h

    later : (over : ℕ) (shown : Option Shown) → over ≤ over_after over shown
    later over None = omega arith
    later over (Some shown) = by (ends_transaction shown.answers)
      where
        by : (b : Bool) → over ≤ (if b then over + 1 else over)
        by true = omega arith
        by false = omega arith

    step_within : Within trying.over (replied done.input done.act.shown trying.sendings) → Within (tries_on trying done).over (tries_on trying done).sendings
    step_within h =
        let now : ℕ = over_after trying.over done.act.shown in
        all_within (option_or (told_ltxid done.input done.act.shown) trying.held) now (replied done.input done.act.shown trying.sendings) done.act.send
        (within_more trying.over now (replied done.input done.act.shown trying.sendings) (later trying.over done.act.shown) h)

pub trying_within : (steps : List Done) → Within (trying_of steps).over (trying_of steps).sendings
trying_within steps = steps_within (record { held = None; over = 0; sendings = [] }) steps tt

pub none_tried : AreAttempts (trying_of []) none_yet
none_tried = record { over = refl; now = refl; held = refl; last = refl }

pub tried_all : (steps : List Done) (lists : Attempts) → AreAttempts (trying_of steps) lists → lists_of (settled lists) ≡ tried_of steps
tried_all steps lists are = tried_lists (trying_of steps) lists are (trying_within steps)
