-- Of a connection: which item the next reply is of, and that what was answered counts what its
-- session committed.
use Rattle.std.proofs.Common.{◌≡◌, refl, sym, ap, subst, ◌∙◌, Bool, true, false, ℕ, ◌+◌, ◌≤◌, ◌&&◌, cond, length, List, [], ◌∷◌, filter, filter_map, fold, Option, Some, None, ◌⊎◌, inl, inr, arith, if◌then◌else◌}
use Rattle.std.specs.Prelude.{◌==◌, is_some, is_none, option_map, option_and_then}
use Rattle.std.specs.List.{last_or, cons_option}
use Rattle.std.specs.Option.{option_or, option_map_or}
use Rattle.std.proofs.lemmas.Bool.{and_parts, or_cases}
use Rattle.svc_values.specs.declared.entry.Ltxid.{Ltxid}
use Rattle.svc_values.specs.declared.entry.SessionId.{SessionId}
use Rattle.svc_values.specs.declared.frame.Up.{Up}
use Rattle.svc_values.specs.declared.frame.Up.TheVariants as up
use Rattle.svc_values.specs.declared.frame.Down.{Down}
use Rattle.svc_values.specs.declared.frame.Down.TheVariants as down
use Rattle.client_model.specs.declared.input.Input.TheVariants.{Took}
use Rattle.outage_schedule.specs.declared.item.Item.{Item}
use Rattle.outage_schedule.specs.declared.item.Item.TheVariants as item
use Rattle.world_model.specs.meaning.Frames.{Reply, Handled}
use Rattle.world_model.specs.meaning.Links.{told_by}
use Rattle.world_model.specs.meaning.Serving.{is_commit, is_item_of, reply_of}
use Rattle.world_model.specs.meaning.Crashing.{is_crashed_item}
use Rattle.world_model.specs.Sames.{same_sent, same_down, same_reply, is_front}
use Rattle.world_model.specs.records.Wire.{reply_to, same_replies, is_handled, counted_with, handled_from}
use Rattle.world_model.specs.records.Number.{told_in, is_stopped_call}
use Rattle.world_model.specs.Parts.{is_rep, is_answered}
use Rattle.world_model.proofs.events.Tests.{eq_from}
use Rattle.world_model.proofs.wire.LinkHandled.{commits_behind}
use Rattle.world_model.proofs.number.RepliesRise.{number_in, number_by, by_same, told_number, opt_number, handled_number}
use Rattle.world_model.proofs.number.ServedNear.{reply_rep, few_replies}

-- ONE ITEM ----------------------------------------------------------------------------------------

-- by cases: the item is that of the frame, with its reply, or the frame was stopped
pub data Was (commits : ℕ) (one : Handled) : Type 0 where
  Ordinary : is_item_of one.sent.frame one.served.item ≡ true → same_replies one.reply (reply_of one.served.session commits one.served.item) ≡ true → Was commits one
  Halted : is_crashed_item one.sent.frame one.served.item ≡ true → is_none one.reply ≡ true → Was commits one

pub was_so : (commits : ℕ) (one : Handled) → is_handled commits one ≡ true → Was commits one
was_so commits one is =
    by (or_cases (is_item_of one.sent.frame one.served.item && same_replies one.reply (reply_of one.served.session commits one.served.item)) (is_crashed_item one.sent.frame one.served.item && is_none one.reply) is)
  where
    by : ((is_item_of one.sent.frame one.served.item && same_replies one.reply (reply_of one.served.session commits one.served.item)) ≡ true) ⊎ ((is_crashed_item one.sent.frame one.served.item && is_none one.reply) ≡ true) → Was commits one
    by (inl here) = let parts = and_parts (is_item_of one.sent.frame one.served.item) (same_replies one.reply (reply_of one.served.session commits one.served.item)) here in Ordinary parts.0 parts.1
    by (inr here) = let parts = and_parts (is_crashed_item one.sent.frame one.served.item) (is_none one.reply) here in Halted parts.0 parts.1

pub crashed_commits : (frame : Up) (one : Item) → is_crashed_item frame one ≡ true → is_commit one ≡ false
crashed_commits frame (item.Call marked call answers draws) is = by frame is
  where
    by : (other : Up) → is_crashed_item other (item.Call marked call answers draws) ≡ true → is_commit (item.Call marked call answers draws) ≡ false
    by (up.Call replay kept called) is = absurd (let none : ⊥ = cc in none)
    by (up.Outcome x) is = absurd (let none : ⊥ = cc in none)
    by other is = absurd (let none : ⊥ = cc in none)
crashed_commits frame one is = refl

-- an answer with an identifier
abbrev pub is_told : Option Down → Bool
is_told reply = option_map_or (λ frame. is_some (told_by (Took frame true))) reply false

pub told_same : (a b : Down) → same_down a b ≡ true → is_some (told_by (Took b true)) ≡ true → is_some (told_by (Took a true)) ≡ true
told_same (down.Hello x) (down.Hello y) same is = refl
told_same (down.Reply a d x) (down.Reply b e y) same is = refl
told_same (down.OutcomeIs a b) (down.OutcomeIs c d) same is = is
told_same (down.OutcomeRefused a b) (down.OutcomeRefused c d) same is = is
told_same down.Blocked down.Blocked same is = is
told_same (down.Refused a) (down.Refused b) same is = is
told_same a b same is = absurd (let none : ⊥ = cc in none)

opt_told : (a b : Option Down) → same_replies a b ≡ true → is_told b ≡ true → is_told a ≡ true
opt_told (Some a) (Some b) same is = told_same a b same is
opt_told None None same is = is
opt_told None (Some b) same is = absurd (let none : ⊥ = cc in none)
opt_told (Some a) None same is = absurd (let none : ⊥ = cc in none)

reply_told : (session : SessionId) (commits : ℕ) (one : Item) → is_commit one ≡ true → is_told (reply_of session commits one) ≡ true
reply_told session commits (item.Call marked call answers draws) is = refl
reply_told session commits one is = absurd (let none : ⊥ = cc in none)

-- what says Committed is answered with an identifier
pub commit_told : (commits : ℕ) (one : Handled) → is_handled commits one ≡ true → is_commit one.served.item ≡ true → is_told one.reply ≡ true
commit_told commits one is commit = by (was_so commits one is)
  where
    by : Was commits one → is_told one.reply ≡ true
    by (Ordinary item_is same) = opt_told one.reply (reply_of one.served.session commits one.served.item) same (reply_told one.served.session commits one.served.item commit)
    by (Halted crashed none) = let never : is_commit one.served.item ≡ false = crashed_commits one.sent.frame one.served.item crashed in absurd (let no : ⊥ = cc in no)

-- the item of a frame is none of a call that was stopped
pub stopped_item : (frame : Up) (one : Item) → is_item_of frame one ≡ true → is_stopped_call one ≡ false
stopped_item frame (item.CrashedCall replay call) is = by frame is
  where
    by : (other : Up) → is_item_of other (item.CrashedCall replay call) ≡ true → is_stopped_call (item.CrashedCall replay call) ≡ false
    by (up.Call mark kept called) is = absurd (let none : ⊥ = cc in none)
    by up.Connect is = absurd (let none : ⊥ = cc in none)
    by (up.Begin settings) is = absurd (let none : ⊥ = cc in none)
    by (up.Outcome x) is = absurd (let none : ⊥ = cc in none)
    by up.End is = absurd (let none : ⊥ = cc in none)
    by up.Close is = absurd (let none : ⊥ = cc in none)
stopped_item frame one is = refl

-- a call that was stopped has no reply
pub stopped_silent : (commits : ℕ) (one : Handled) → is_handled commits one ≡ true → is_stopped_call one.served.item ≡ true → is_none one.reply ≡ true
stopped_silent commits one is stopped = by (was_so commits one is)
  where
    by : Was commits one → is_none one.reply ≡ true
    by (Ordinary item_is same) = let never : is_stopped_call one.served.item ≡ false = stopped_item one.sent.frame one.served.item item_is in absurd (let no : ⊥ = cc in no)
    by (Halted crashed none) = none

plain_item : (frame : Up) (one : Item) → is_item_of frame one ≡ true → is_answered frame ≡ false → is_commit one ≡ false
plain_item up.Connect one is plain = absurd (let none : ⊥ = cc in none)
plain_item (up.Call replay kept called) one is plain = absurd (let none : ⊥ = cc in none)
plain_item (up.Outcome x) one is plain = absurd (let none : ⊥ = cc in none)
plain_item (up.Begin settings) (item.Call marked call answers draws) is plain = absurd (let none : ⊥ = cc in none)
plain_item up.End (item.Call marked call answers draws) is plain = absurd (let none : ⊥ = cc in none)
plain_item up.Close (item.Call marked call answers draws) is plain = absurd (let none : ⊥ = cc in none)
plain_item frame one is plain = refl

-- a frame without an answer commits nothing
pub plain_commits : (commits : ℕ) (one : Handled) → is_handled commits one ≡ true → is_rep one.sent ≡ false → is_commit one.served.item ≡ false
plain_commits commits one is plain = by (was_so commits one is)
  where
    by : Was commits one → is_commit one.served.item ≡ false
    by (Ordinary item_is same) = plain_item one.sent.frame one.served.item item_is plain
    by (Halted crashed none) = crashed_commits one.sent.frame one.served.item crashed

pub counted_same : (commits : ℕ) (one : Item) → is_commit one ≡ false → counted_with commits one ≡ commits
counted_same commits one none = by (is_commit one) none
  where
    by : (test : Bool) → test ≡ false → (if test then commits + 1 else commits) ≡ commits
    by true is = absurd (let no : ⊥ = cc in no)
    by false is = refl

-- THE LAST REPLY ----------------------------------------------------------------------------------

abbrev pub rep_of : Handled → Bool
rep_of one = is_rep one.sent

abbrev pub given_by : Option Handled → Option Reply
given_by found = option_and_then reply_to found

-- where each answered frame has a reply, the last reply is that of the last one
pub last_given : (commits : ℕ) (served : List Handled) (a : Option Reply) (b : Option Handled) → handled_from commits served ≡ true → length (filter_map reply_to served) ≡ length (filter rep_of served) → a ≡ given_by b
    → last_or a (filter_map reply_to served) ≡ given_by (last_or b (filter rep_of served))
last_given commits [] a b handled long same = same
last_given commits (one ∷ others) a b handled long same =
    let now : ℕ = counted_with commits one.served.item in
    let parts = and_parts (is_handled now one) (handled_from now others) handled in
    let few : length (filter_map reply_to others) ≤ length (filter rep_of others) = few_replies now others parts.1 in
    by one.reply (rep_of one) refl refl (reply_rep now one parts.0) few long (λ x y tail begin. last_given now others x y parts.1 tail begin)
  where
    by : (reply : Option Down) (rep : Bool) → one.reply ≡ reply → rep_of one ≡ rep → (is_some one.reply ≡ true → is_rep one.sent ≡ true) → length (filter_map reply_to others) ≤ length (filter rep_of others)
        → length (cons_option (option_map (λ frame. record { to = one.sent; frame = frame }) reply) (filter_map reply_to others)) ≡ length (cond rep (one ∷ filter rep_of others) (filter rep_of others))
        → ((x : Option Reply) (y : Option Handled) → length (filter_map reply_to others) ≡ length (filter rep_of others) → x ≡ given_by y → last_or x (filter_map reply_to others) ≡ given_by (last_or y (filter rep_of others)))
        → last_or a (cons_option (option_map (λ frame. record { to = one.sent; frame = frame }) reply) (filter_map reply_to others)) ≡ given_by (last_or b (cond rep (one ∷ filter rep_of others) (filter rep_of others)))
    by None true is rep follows few long again = absurd (let never : ⊥ = omega arith in never)
    by None false is rep follows few long again = again a b long same
    by (Some frame) true is rep follows few long again =
        let tail : length (filter_map reply_to others) ≡ length (filter rep_of others) = cc in
        again (Some (record { to = one.sent; frame = frame })) (Some one) tail (sym (ap (λ (r : Option Down). option_map (λ f. record { to = one.sent; frame = f }) r) is))
    by (Some frame) false is rep follows few long again = absurd (let yes_is : is_rep one.sent ≡ true = follows (ap is_some is) in let never : ⊥ = cc in never)

-- the number behind all is that of the last answered frame
pub last_numbered : (commits : ℕ) (served : List Handled) (found : Option Handled) (last : Handled) → handled_from commits served ≡ true → ((one : Handled) → found ≡ Some one → opt_number commits one.reply ≡ true) → last_or found (filter rep_of served) ≡ Some last
    → opt_number (commits_behind commits served) last.reply ≡ true
last_numbered commits [] found last handled known is = known last is
last_numbered commits (one ∷ others) found last handled known is = by (rep_of one) refl is (λ f k e. last_numbered now others f last parts.1 k e)
  where
    now : ℕ
    now = counted_with commits one.served.item

    parts : (is_handled now one ≡ true) × (handled_from now others ≡ true)
    parts = and_parts (is_handled now one) (handled_from now others) handled

    by : (rep : Bool) → rep_of one ≡ rep → last_or found (cond rep (one ∷ filter rep_of others) (filter rep_of others)) ≡ Some last
        → ((f : Option Handled) → ((h : Handled) → f ≡ Some h → opt_number now h.reply ≡ true) → last_or f (filter rep_of others) ≡ Some last → opt_number (commits_behind now others) last.reply ≡ true)
        → opt_number (commits_behind now others) last.reply ≡ true
    by true rep is again = again (Some one) (λ h same. let equal : one ≡ h = cc in subst (λ (x : Handled). opt_number now x.reply ≡ true) equal (handled_number now one parts.0)) is
    by false rep is again =
        let same_now : now ≡ commits = counted_same commits one.served.item (plain_commits now one parts.0 rep) in
        again found (λ h same. subst (λ (n : ℕ). opt_number n h.reply ≡ true) (sym same_now) (known h same)) is

-- the last answered frame that was served
pub last_handled : (commits : ℕ) (served : List Handled) (found : Option Handled) (last : Handled) → handled_from commits served ≡ true → ((one : Handled) → found ≡ Some one → (n : ℕ) × (is_handled n one ≡ true)) → last_or found (filter rep_of served) ≡ Some last
    → (n : ℕ) × (is_handled n last ≡ true)
last_handled commits [] found last handled known is = known last is
last_handled commits (one ∷ others) found last handled known is =
    let now : ℕ = counted_with commits one.served.item in
    let parts = and_parts (is_handled now one) (handled_from now others) handled in
    by (rep_of one) now parts.0 is (λ f k e. last_handled now others f last parts.1 k e)
  where
    by : (rep : Bool) (now : ℕ) → is_handled now one ≡ true → last_or found (cond rep (one ∷ filter rep_of others) (filter rep_of others)) ≡ Some last
        → ((f : Option Handled) → ((h : Handled) → f ≡ Some h → (n : ℕ) × (is_handled n h ≡ true)) → last_or f (filter rep_of others) ≡ Some last → (n : ℕ) × (is_handled n last ≡ true)) → (n : ℕ) × (is_handled n last ≡ true)
    by true now here is again = again (Some one) (λ h same. let equal : one ≡ h = cc in (now, subst (λ (x : Handled). is_handled now x ≡ true) equal here)) is
    by false now here is again = again found known is

-- ALL THAT WAS TOLD -------------------------------------------------------------------------------

untold : (commits : ℕ) (one : Handled) → is_handled commits one ≡ true → is_told one.reply ≡ false → is_commit one.served.item ≡ false
untold commits one is none = by (is_commit one.served.item) refl
  where
    by : (test : Bool) → is_commit one.served.item ≡ test → test ≡ false
    by true commit = let yes_is : is_told one.reply ≡ true = commit_told commits one is commit in absurd (let never : ⊥ = cc in never)
    by false commit = refl

-- with all replies told, what is held counts what was committed
pub all_told : (commits : ℕ) (held : Option Ltxid) (served : List Handled) → handled_from commits served ≡ true → number_in held ≡ commits → number_in (fold told_in held (filter_map reply_to served)) ≡ commits_behind commits served
all_told commits held [] handled same = same
all_told commits held (one ∷ others) handled same = by one.reply refl (λ h e. all_told now h others parts.1 e)
  where
    now : ℕ
    now = counted_with commits one.served.item

    parts : (is_handled now one ≡ true) × (handled_from now others ≡ true)
    parts = and_parts (is_handled now one) (handled_from now others) handled

    silent : is_told one.reply ≡ false → now ≡ commits
    silent none = counted_same commits one.served.item (untold now one parts.0 none)

    told : (frame : Down) (found : Option Ltxid) → told_by (Took frame true) ≡ found → one.reply ≡ Some frame → number_in (option_or found held) ≡ now
    told frame None none is = same ∙ sym (silent (ap is_told is ∙ ap is_some none))
    told frame (Some x) tells is =
        eq_from x.number now (subst (λ (f : Option Ltxid). option_map_or (λ y. y.number == now) f true ≡ true) tells (subst (λ (r : Option Down). opt_number now r ≡ true) is (handled_number now one parts.0)))

    by : (reply : Option Down) → one.reply ≡ reply → ((h : Option Ltxid) → number_in h ≡ now → number_in (fold told_in h (filter_map reply_to others)) ≡ commits_behind now others)
        → number_in (fold told_in held (cons_option (option_map (λ frame. record { to = one.sent; frame = frame }) reply) (filter_map reply_to others))) ≡ commits_behind now others
    by None is again = again held (same ∙ sym (silent (ap is_told is)))
    by (Some frame) is again = again (option_or (told_by (Took frame true)) held) (told frame (told_by (Took frame true)) refl is)

pub alike_told : (a b : Option Ltxid) (xs ys : List Reply) → is_front same_reply xs ys ≡ true → length xs ≡ length ys → number_in a ≡ number_in b → number_in (fold told_in a xs) ≡ number_in (fold told_in b ys)
alike_told a b [] [] front long same = same
alike_told a b [] (y ∷ ys) front long same = absurd (let none : ⊥ = cc in none)
alike_told a b (x ∷ xs) [] front long same = absurd (let none : ⊥ = cc in none)
alike_told a b (x ∷ xs) (y ∷ ys) front long same =
    let parts = and_parts (same_reply x y) (is_front same_reply xs ys) front in
    let rest : length xs ≡ length ys = cc in
    alike_told (told_in a x) (told_in b y) xs ys parts.1 rest
    (sym (told_number a x) ∙ (by_same (number_in a) x.frame y.frame (and_parts (same_sent x.to y.to) (same_down x.frame y.frame) parts.0).1 ∙ (ap (λ (n : ℕ). number_by n y.frame) same ∙ told_number b y)))
