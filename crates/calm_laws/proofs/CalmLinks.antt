-- Each connection is open or closed by a Close, and asks for no outcome: this is kept where a
-- connection is opened, sent on, served on, or a reply of it is taken.
use Rattle.std.proofs.Common.{◌≡◌, refl, sym, ap, subst, ◌∙◌, Bool, true, false, ℕ, suc, zero, ◌&&◌, ◌||◌, List, [], ◌∷◌, ◌++◌, fold, Option, Some, None, if◌then◌else◌}
use Rattle.std.specs.Prelude.{slice_set}
use Rattle.std.specs.List.{list_all, list_any}
use Rattle.std.specs.Option.{option_map_or}
use Rattle.std.proofs.lemmas.Bool.{and_parts, and_from, or_left, or_right}
use Rattle.std.proofs.lemmas.List.Folds.{list_all-append, list_any-append}
use Rattle.outage_schedule.specs.declared.item.Served.{Served}
use Rattle.client_model.specs.declared.input.Input.{Input}
use Rattle.world_model.specs.meaning.Frames.{Sent, Reply}
use Rattle.world_model.specs.meaning.Links.{Link, link_at, with_link, changed, ends, sends, takes, is_close}
use Rattle.world_model.specs.Parts.{is_closed}
use Rattle.world_model.specs.meaning.Serving.{Front, after_front, handled, is_blocked, reply_of, commits_after}
use Rattle.world_model.proofs.Offered.{at_link}
use Rattle.calm_laws.proofs.Quiet.{sends_quietly, is_quiet_link}

-- no event has ended it but one at which Close was sent
abbrev pub is_kept_link : Link → Bool
is_kept_link link = link.is_open || is_closed link

abbrev pub is_calm_link : Link → Bool
is_calm_link link = is_kept_link link && is_quiet_link link

-- LISTS -------------------------------------------------------------------------------------------

pub set_all : {A : Type 0} (test : A → Bool) (all : List A) (index : ℕ) (one : A) → list_all test all ≡ true → test one ≡ true → list_all test (slice_set all index one) ≡ true
set_all test [] index one before here = refl
set_all test (first ∷ all) zero one before here = and_from (test one) (list_all test all) here (and_parts (test first) (list_all test all) before).1
set_all test (first ∷ all) (suc index) one before here =
    let parts = and_parts (test first) (list_all test all) before in and_from (test first) (list_all test (slice_set all index one)) parts.0 (set_all test all index one parts.1 here)

pub with_calm : (links : List Link) (number : ℕ) (link : Link) → list_all is_calm_link links ≡ true → is_calm_link link ≡ true → list_all is_calm_link (with_link links number link) ≡ true
with_calm links zero link before here = before
with_calm links (suc index) link before here = set_all is_calm_link links index link before here

pub changed_calm : (change : Link → Link) (links : List Link) (number : ℕ) → list_all is_calm_link links ≡ true → ((link : Link) → link_at links number ≡ Some link → is_calm_link link ≡ true → is_calm_link (change link) ≡ true)
    → list_all is_calm_link (changed change links number) ≡ true
changed_calm change links number before keeps = by (link_at links number) refl
  where
    by : (found : Option Link) → link_at links number ≡ found → list_all is_calm_link (option_map_or (λ link. with_link links number (change link)) found links) ≡ true
    by None there = before
    by (Some link) there = with_calm links number (change link) before (keeps link there (at_link is_calm_link links number link before there))

pub each_calm : (change : Link → Link) (links : List Link) (numbers : List ℕ) → list_all is_calm_link links ≡ true → ((link : Link) → is_calm_link link ≡ true → is_calm_link (change link) ≡ true)
    → list_all is_calm_link (fold (changed change) links numbers) ≡ true
each_calm change links [] before keeps = before
each_calm change links (number ∷ numbers) before keeps = each_calm change (changed change links number) numbers (changed_calm change links number before (λ link there here. keeps link here)) keeps

-- ONE CONNECTION ----------------------------------------------------------------------------------

calm_from : (link : Link) → is_kept_link link ≡ true → is_quiet_link link ≡ true → is_calm_link link ≡ true
calm_from link kept quiet = and_from (is_kept_link link) (is_quiet_link link) kept quiet

-- Frames that ask for no outcome are sent: where there is a Close among them it is closed, and else
-- it is as open as before.
pub sends_calm : (event : ℕ) (frames : List Sent) (link : Link) → list_all sends_quietly frames ≡ true → is_calm_link link ≡ true → is_calm_link (sends event frames link) ≡ true
sends_calm event frames link quiet calm = by (list_any (λ sent. is_close sent.frame) frames) refl
  where
    parts : (is_kept_link link ≡ true) × (is_quiet_link link ≡ true)
    parts = and_parts (is_kept_link link) (is_quiet_link link) calm

    sending : Link
    sending = record link { sent = link.sent ++ frames; up = link.up ++ frames }

    goes : list_all sends_quietly (link.up ++ frames) ≡ true
    goes = list_all-append sends_quietly link.up frames ∙ and_from (list_all sends_quietly link.up) (list_all sends_quietly frames) parts.1 quiet

    closed : (test : Bool) → list_any (λ (sent : Sent). is_close sent.frame) frames ≡ test → is_closed sending ≡ (is_closed link || test)
    closed test is = list_any-append (λ (sent : Sent). is_close sent.frame) link.sent frames ∙ ap (λ (t : Bool). is_closed link || t) is

    ended : is_closed sending ≡ true → is_calm_link (ends event sending) ≡ true
    ended is = opened link.is_open
      where
        opened : (opens : Bool) → is_calm_link (if opens then record sending { is_open = false; ended = Some event } else sending) ≡ true
        opened true = and_from (is_closed sending) (list_all sends_quietly (link.up ++ frames)) is goes
        opened false = and_from (link.is_open || is_closed sending) (list_all sends_quietly (link.up ++ frames)) (or_right link.is_open (is_closed sending) is) goes

    kept : (opens : Bool) → (opens || is_closed link) ≡ true → (opens || (is_closed link || false)) ≡ true
    kept true is = refl
    kept false is = or_left (is_closed link) false is

    by : (test : Bool) → list_any (λ (sent : Sent). is_close sent.frame) frames ≡ test → is_calm_link (if test then ends event sending else sending) ≡ true
    by true is = ended (closed true is ∙ or_right (is_closed link) true refl)
    by false is = and_from (link.is_open || is_closed sending) (list_all sends_quietly (link.up ++ frames)) (ap (λ (t : Bool). link.is_open || t) (closed false is) ∙ kept link.is_open parts.0) goes

-- A reply of it is taken.
pub takes_calm : (input : Input) (reply : Reply) (left : List Reply) (link : Link) → is_calm_link link ≡ true → is_calm_link (takes input reply left link) ≡ true
takes_calm input reply left link calm = calm

-- Its first frame is served, and meets no block.
pub handled_calm : (event : ℕ) (front : Front) (served : Served) → front.link.up ≡ front.first ∷ front.later → is_blocked served.item ≡ false → is_calm_link front.link ≡ true → is_calm_link (handled event front served) ≡ true
handled_calm event front served up free calm =
    subst (λ (test : Bool). is_calm_link (if test then ends event after else after) ≡ true) (sym free) (and_from (is_kept_link front.link) (list_all sends_quietly front.later) parts.0 later)
  where
    after : Link
    after = after_front front served (reply_of served.session (commits_after front.link served.item) served.item)

    parts : (is_kept_link front.link ≡ true) × (is_quiet_link front.link ≡ true)
    parts = and_parts (is_kept_link front.link) (is_quiet_link front.link) calm

    later : list_all sends_quietly front.later ≡ true
    later = (and_parts (sends_quietly front.first) (list_all sends_quietly front.later) (ap (list_all sends_quietly) (sym up) ∙ parts.1)).1
