-- A call that a connection served is in the service's history, behind what its session served
-- before it.
use Rattle.std.proofs.Common.{◌≡◌, refl, sym, ap, subst, ◌∙◌, ℕ, ◌&&◌, ◌||◌, Bool, true, false, List, [], ◌∷◌, ◌++◌, Option, Some, ◌⊎◌, inl, inr, if◌then◌else◌}
use Rattle.std.specs.Prelude.{Contains, is_none}
use Rattle.std.specs.List.{list_all, list_any}
use Rattle.std.proofs.lemmas.Bool.{and_parts, and_from, or_cases}
use Rattle.std.proofs.lemmas.List.Elements.{Contains-append_left, Contains-append_right, Contains-push}
use Rattle.svc_values.specs.declared.answer.Answer.{Answer}
use Rattle.svc_values.specs.declared.call.Call.{Call}
use Rattle.svc_values.specs.declared.draw.Draw.{Draw}
use Rattle.svc_values.specs.declared.entry.Ltxid.{Ltxid}
use Rattle.svc_values.specs.declared.entry.SessionId.{SessionId}
use Rattle.svc_values.specs.declared.frame.Down.{Down}
use Rattle.svc_values.specs.declared.frame.Down.TheVariants as down
use Rattle.svc_values.specs.declared.frame.Up.{Up}
use Rattle.svc_values.specs.declared.frame.Up.TheVariants as up
use Rattle.svc_values.specs.meaning.Identifiers.{same_ltxid, same_session}
use Rattle.svc_values.specs.meaning.Same.{same_answers, same_bool, same_call, same_draws}
use Rattle.svc_values.specs.SameLaws.{same_answers_decide, same_bool_decides, same_call_decides, same_draws_decide}
use Rattle.outage_schedule.specs.declared.item.Item.{Item}
use Rattle.outage_schedule.specs.declared.item.Item.TheVariants as item
use Rattle.server_model.specs.meaning.Outcomes.{Telling, Says, telling_of}
use Rattle.server_model.specs.Runs.{Happened, Served, Asked}
use Rattle.world_model.specs.meaning.Crashing.{is_crashed_item}
use Rattle.world_model.specs.meaning.Frames.{Handled}
use Rattle.world_model.specs.meaning.Serving.{identifier, is_item_of, reply_of}
use Rattle.invariant_laws.specs.SessionHistory.{served_in, told_with}
use Rattle.world_model.specs.records.Wire.{same_replies, is_handled, counted_with, handled_from}
use Rattle.world_model.proofs.Offered.{same_session_is}

-- LISTS -------------------------------------------------------------------------------------------

-- one of a list, with those before and behind it
pub all_split : {A : Type 0} (test : A → Bool) (xs : List A) → ((front : List A) (x : A) (rest : List A) → xs ≡ front ++ x ∷ rest → test x ≡ true) → list_all test xs ≡ true
all_split test [] each = refl
all_split test (x ∷ xs) each = and_from (test x) (list_all test xs) (each [] x xs refl) (all_split test xs (λ front y rest is. each (x ∷ front) y rest (ap (λ more. x ∷ more) is)))

pub record Among {A : Type 0} (test : A → Bool) (xs : List A) : Type 0 where
  pub front : List A
  pub one : A
  pub rest : List A
  pub is : xs ≡ front ++ one ∷ rest
  pub passes : test one ≡ true

pub any_split : {A : Type 0} (test : A → Bool) (xs : List A) → list_any test xs ≡ true → Among test xs
any_split test [] any = absurd (let never : ⊥ = cc in never)
any_split {A} test (x ∷ xs) any = by (test x) refl any (λ later. any_split test xs later)
  where
    by : (here : Bool) → test x ≡ here → (here || list_any test xs) ≡ true → (list_any test xs ≡ true → Among test xs) → Among test (x ∷ xs)
    by true is any later = record { front = []; one = x; rest = xs; is = refl; passes = is }
    by false is any later = let more = later any in record { front = x ∷ more.front; one = more.one; rest = more.rest; is = ap (λ others. x ∷ others) more.is; passes = more.passes }

pub contains_split : {A : Type 0} (front : List A) (one : A) (rest : List A) → Contains (front ++ one ∷ rest) one
contains_split front one rest = Contains-append_right front (one ∷ rest) one (Contains-append_left (one ∷ []) rest one (Contains-push [] one))

-- A CALL ------------------------------------------------------------------------------------------

-- a call that was answered: its frame, and what was told
pub record IsCall (one : Handled) (mark : Bool) (call : Call) (answers : List Answer) (draws : List Draw) : Type 0 where
  pub kept : List Draw
  pub next : Ltxid
  pub frame : one.sent.frame ≡ up.Call mark kept call
  pub told : told_with one.served.item one.reply ≡ Says (down.Reply answers draws next)

reply_is : (reply : Option Down) (answers : List Answer) (draws : List Draw) (x : Ltxid) → same_replies reply (Some (down.Reply answers draws x)) ≡ true → (next : Ltxid) × (telling_of reply ≡ Says (down.Reply answers draws next))
reply_is (Some (down.Reply given drawn y)) answers draws x is =
    let parts = and_parts (same_answers given answers) _ is in
    let drawn_is = (same_draws_decide drawn draws).0 (and_parts (same_draws drawn draws) (same_ltxid y x) parts.1).0 in
    (y, ap (λ (a : List Answer). Says (down.Reply a drawn y)) ((same_answers_decide given answers).0 parts.0) ∙ ap (λ (d : List Draw). Says (down.Reply answers d y)) drawn_is)
reply_is reply answers draws x is = absurd (let none : ⊥ = cc in none)

frame_is : (frame : Up) (mark : Bool) (call : Call) (answers : List Answer) (draws : List Draw) → is_item_of frame (item.Call mark call answers draws) ≡ true → (kept : List Draw) × (frame ≡ up.Call mark kept call)
frame_is (up.Call replay kept other) mark call answers draws is =
    let parts = and_parts (same_bool mark replay) (same_call call other) is in
    (kept, ap (λ (b : Bool). up.Call b kept other) (sym ((same_bool_decides mark replay).0 parts.0)) ∙ ap (λ (c : Call). up.Call mark kept c) (sym ((same_call_decides call other).0 parts.1)))
frame_is frame mark call answers draws is = absurd (let none : ⊥ = cc in none)

none_crashed : (frame : Up) (mark : Bool) (call : Call) (answers : List Answer) (draws : List Draw) → is_crashed_item frame (item.Call mark call answers draws) ≡ true → ⊥
none_crashed (up.Call replay kept other) mark call answers draws is = let none : ⊥ = cc in none
none_crashed frame mark call answers draws is = let none : ⊥ = cc in none

pub call_is : (commits : ℕ) (one : Handled) (mark : Bool) (call : Call) (answers : List Answer) (draws : List Draw) → one.served.item ≡ item.Call mark call answers draws → is_handled commits one ≡ true → IsCall one mark call answers draws
call_is commits one mark call answers draws item_is handled =
    by (or_cases (is_item_of one.sent.frame (item.Call mark call answers draws) && same_replies one.reply (reply_of one.served.session commits (item.Call mark call answers draws))) (is_crashed_item one.sent.frame (item.Call mark call answers draws) && is_none one.reply)
    (subst (λ (i : Item). ((is_item_of one.sent.frame i && same_replies one.reply (reply_of one.served.session commits i)) || (is_crashed_item one.sent.frame i && is_none one.reply)) ≡ true) item_is handled))
  where
    by : ((is_item_of one.sent.frame (item.Call mark call answers draws) && same_replies one.reply (reply_of one.served.session commits (item.Call mark call answers draws))) ≡ true) ⊎ ((is_crashed_item one.sent.frame (item.Call mark call answers draws) && is_none one.reply) ≡ true)
        → IsCall one mark call answers draws
    by (inl ordinary) =
        let parts = and_parts (is_item_of one.sent.frame (item.Call mark call answers draws)) _ ordinary in
        let frame = frame_is one.sent.frame mark call answers draws parts.0 in
        let told = reply_is one.reply answers draws (identifier one.served.session commits) parts.1 in
        record { kept = frame.0; next = told.0; frame = frame.1; told = ap (λ (i : Item). told_with i one.reply) item_is ∙ told.1 }
    by (inr crashed) = absurd (none_crashed one.sent.frame mark call answers draws (and_parts (is_crashed_item one.sent.frame (item.Call mark call answers draws)) (is_none one.reply) crashed).0)

pub handled_split : (commits : ℕ) (front : List Handled) (one : Handled) (rest : List Handled) → handled_from commits (front ++ one ∷ rest) ≡ true → (n : ℕ) × (is_handled n one ≡ true)
handled_split commits [] one rest handled = (counted_with commits one.served.item, (and_parts (is_handled (counted_with commits one.served.item) one) _ handled).0)
handled_split commits (first ∷ front) one rest handled =
    handled_split (counted_with commits first.served.item) front one rest (and_parts (is_handled (counted_with commits first.served.item) first) _ handled).1

-- THE HISTORY -------------------------------------------------------------------------------------

-- a frame of a session in a history, behind what the session served before it
pub record ServedAt (history : List Happened) (session : SessionId) (front : List (Up × Telling)) (frame : Up) (told : Telling) : Type 0 where
  pub before : List Happened
  pub now : ℕ
  pub behind : List Happened
  pub is : history ≡ before ++ Served session now frame told ∷ behind
  pub served_before : served_in before session ≡ front

head_is : {A : Type 0} (x y : A) (xs ys : List A) → x ∷ xs ≡ y ∷ ys → x ≡ y
head_is x y xs ys same = cc

tail_is : {A : Type 0} (x y : A) (xs ys : List A) → x ∷ xs ≡ y ∷ ys → xs ≡ ys
tail_is x y xs ys same = cc

pub served_at : (history : List Happened) (session : SessionId) (front : List (Up × Telling)) (frame : Up) (told : Telling) (rest : List (Up × Telling)) → served_in history session ≡ front ++ (frame, told) ∷ rest
    → ServedAt history session front frame told
served_at [] session [] frame told rest is = absurd (let none : ⊥ = cc in none)
served_at [] session (first ∷ front) frame told rest is = absurd (let none : ⊥ = cc in none)
served_at (Asked x said ∷ history) session front frame told rest is =
    let more = served_at history session front frame told rest is in
    record { before = Asked x said ∷ more.before; now = more.now; behind = more.behind; is = ap (λ others. Asked x said ∷ others) more.is; served_before = more.served_before }
served_at (Served other now up_frame said ∷ history) session front frame told rest is = by (λ earlier so. served_at history session earlier frame told rest so) (same_session other session) refl is
  where
    own : ((earlier : List (Up × Telling)) → served_in history session ≡ earlier ++ (frame, told) ∷ rest → ServedAt history session earlier frame told) → other ≡ session → same_session other session ≡ true → (front : List (Up × Telling))
        → (up_frame, said) ∷ served_in history session ≡ front ++ (frame, told) ∷ rest → ServedAt (Served other now up_frame said ∷ history) session front frame told
    own again mine so [] is =
        let pair : (up_frame, said) ≡ (frame, told) = head_is (up_frame, said) (frame, told) (served_in history session) rest is in
        record {
          before = [];
          now = now;
          behind = history;
          is = ap (λ (s : SessionId). Served s now up_frame said ∷ history) mine ∙ ap (λ (p : Up × Telling). Served session now p.0 p.1 ∷ history) pair;
          served_before = refl;
        }
    own again mine so (first ∷ front) is =
        let pair : (up_frame, said) ≡ first = head_is (up_frame, said) first (served_in history session) (front ++ (frame, told) ∷ rest) is in
        let more = again front (tail_is (up_frame, said) first (served_in history session) (front ++ (frame, told) ∷ rest) is) in
        record {
          before = Served other now up_frame said ∷ more.before;
          now = more.now;
          behind = more.behind;
          is = ap (λ others. Served other now up_frame said ∷ others) more.is;
          served_before =
              ap (λ (b : Bool). if b then (up_frame, said) ∷ served_in more.before session else served_in more.before session) so
              ∙ ap (λ (p : Up × Telling). p ∷ served_in more.before session) pair ∙ ap (λ others. first ∷ others) more.served_before;
        }

    by : ((earlier : List (Up × Telling)) → served_in history session ≡ earlier ++ (frame, told) ∷ rest → ServedAt history session earlier frame told) → (test : Bool) → same_session other session ≡ test
        → (if test then (up_frame, said) ∷ served_in history session else served_in history session) ≡ front ++ (frame, told) ∷ rest
        → ServedAt (Served other now up_frame said ∷ history) session front frame told
    by again true so is = own again (same_session_is other session so) so front is
    by again false so is =
        let more = again front is in
        record {
          before = Served other now up_frame said ∷ more.before;
          now = more.now;
          behind = more.behind;
          is = ap (λ others. Served other now up_frame said ∷ others) more.is;
          served_before = ap (λ (b : Bool). if b then (up_frame, said) ∷ served_in more.before session else served_in more.before session) so ∙ more.served_before;
        }
