-- Of each connection: each item is that of its frame, or the frame was stopped, and each reply is
-- that of the item.
use Rattle.std.proofs.Common.{◌≡◌, refl, sym, ap, subst, ◌∙◌, Bool, true, false, ℕ, ◌+◌, ◌&&◌, cond, List, [], ◌∷◌, ◌++◌, count_by, Option, None, if◌then◌else◌, arith}
use Rattle.std.specs.Prelude.{is_none}
use Rattle.std.proofs.lemmas.Bool.{and_parts, and_from, or_left, or_right}
use Rattle.std.proofs.lemmas.List.Sums.{sum_by-cons}
use Rattle.svc_values.specs.declared.frame.Down.{Down}
use Rattle.outage_schedule.specs.declared.item.Item.{Item}
use Rattle.outage_schedule.specs.declared.item.Served.{Served}
use Rattle.world_model.specs.meaning.Frames.{Handled}
use Rattle.world_model.specs.meaning.Links.{Link, ends}
use Rattle.world_model.specs.meaning.Machines.{Machine}
use Rattle.world_model.specs.meaning.Serving.{Front, is_ordinary, is_of_front, is_item_of, is_commit, is_blocked, reply_of, commits_after, after_front, handled}
use Rattle.world_model.specs.meaning.Crashing.{is_crashed_item}
use Rattle.world_model.specs.records.Wire.{same_replies, is_handled, counted_with, handled_from}
use Rattle.world_model.proofs.events.Tests.{eq_from}
use Rattle.world_model.proofs.wire.SameSelf.{reply_self}
use Rattle.world_model.proofs.basic.Ends.{ends_case, sends_alike, cut_case, fallen_case}
use Rattle.world_model.proofs.basic.LinkLives.{counts_commits}
use Rattle.world_model.proofs.events.AllLinks.{Keeps}

abbrev pub is_all_handled : Link → Bool
is_all_handled link = handled_from 0 link.served

abbrev pub commits_behind : ℕ → List Handled → ℕ
commits_behind commits [] = commits
commits_behind commits (one ∷ others) = commits_behind (counted_with commits one.served.item) others

abbrev pub is_commit_of : Handled → Bool
is_commit_of one = is_commit one.served.item

counted_is : (commits : ℕ) (one : Item) → counted_with commits one ≡ commits + cond (is_commit one) 1 0
counted_is commits one = by (is_commit one)
  where
    by : (test : Bool) → (if test then commits + 1 else commits) ≡ commits + cond test 1 0
    by true = refl
    by false = omega arith

pub behind_is : (commits : ℕ) (served : List Handled) → commits_behind commits served ≡ commits + count_by is_commit_of served
behind_is commits [] = omega arith
behind_is commits (one ∷ others) =
    behind_is (counted_with commits one.served.item) others
    ∙ (ap (λ (n : ℕ). n + count_by is_commit_of others) (counted_is commits one.served.item)
    ∙ (turned commits (cond (is_commit_of one) 1 0) (count_by is_commit_of others) ∙ ap (λ (n : ℕ). commits + n) (sym (sum_by-cons (λ h. cond (is_commit_of h) 1 0) one others))))
  where
    turned : (a b c : ℕ) → (a + b) + c ≡ a + (b + c)
    turned a b c = omega arith

handled_more : (commits : ℕ) (served : List Handled) (one : Handled) → handled_from commits served ≡ true → is_handled (counted_with (commits_behind commits served) one.served.item) one ≡ true
    → handled_from commits (served ++ one ∷ []) ≡ true
handled_more commits [] one old here = and_from (is_handled (counted_with commits one.served.item) one) true here refl
handled_more commits (first ∷ others) one old here =
    let now : ℕ = counted_with commits first.served.item in
    let parts = and_parts (is_handled now first) (handled_from now others) old in
    and_from (is_handled now first) (handled_from now (others ++ one ∷ [])) parts.0 (handled_more now others one parts.1 here)

-- the number behind the item is that of the session
commits_now : (link : Link) (one : Item) → counts_commits link ≡ true → counted_with (commits_behind 0 link.served) one ≡ commits_after link one
commits_now link one counts =
    let number : link.commits ≡ count_by is_commit_of link.served = eq_from link.commits (count_by is_commit_of link.served) counts in
    let behind : commits_behind 0 link.served ≡ 0 + count_by is_commit_of link.served = behind_is 0 link.served in
    let same : commits_behind 0 link.served ≡ link.commits = omega arith in
    ap (λ (n : ℕ). counted_with n one) same ∙ counted_is link.commits one

ordinary_handled : (link : Link) (one : Handled) → counts_commits link ≡ true → is_all_handled link ≡ true → is_item_of one.sent.frame one.served.item ≡ true
    → one.reply ≡ reply_of one.served.session (commits_after link one.served.item) one.served.item → handled_from 0 (link.served ++ one ∷ []) ≡ true
ordinary_handled link one counts old is reply =
    let now : ℕ = counted_with (commits_behind 0 link.served) one.served.item in
    let same : one.reply ≡ reply_of one.served.session now one.served.item = reply ∙ ap (λ (n : ℕ). reply_of one.served.session n one.served.item) (sym (commits_now link one.served.item counts)) in
    handled_more 0 link.served one old
    (or_left (is_item_of one.sent.frame one.served.item && same_replies one.reply (reply_of one.served.session now one.served.item)) (is_crashed_item one.sent.frame one.served.item && is_none one.reply)
    (and_from (is_item_of one.sent.frame one.served.item) (same_replies one.reply (reply_of one.served.session now one.served.item)) is
    (subst (λ (told : Option Down). same_replies one.reply told ≡ true) same (reply_self one.reply))))

stopped_handled : (front : Front) (served : Served) → is_all_handled front.link ≡ true → is_crashed_item front.first.frame served.item ≡ true → is_all_handled (after_front front served None) ≡ true
stopped_handled front served old crashed =
    let one : Handled = record { sent = front.first; served = served; reply = None } in
    let now : ℕ = counted_with (commits_behind 0 front.link.served) served.item in
    handled_more 0 front.link.served one old
    (or_right (is_item_of front.first.frame served.item && same_replies None (reply_of served.session now served.item)) (is_crashed_item front.first.frame served.item && true) (and_from (is_crashed_item front.first.frame served.item) true crashed refl))

served_of : (event : ℕ) (after : Link) (blocked : Bool) → (if blocked then ends event after else after).served ≡ after.served
served_of event after true = ends_case (λ (one : Link). one.served ≡ after.served) event after (λ is. refl) (λ is. refl)
served_of event after false = refl

served_handled : (m : Machine) (front : Front) (served : Served) → counts_commits front.link ≡ true → is_all_handled front.link ≡ true → is_ordinary m front served ≡ true → is_all_handled (handled m.event front served) ≡ true
served_handled m front served counts old ordinary =
    let reply : Option Down = reply_of served.session (commits_after front.link served.item) served.item in
    let one : Handled = record { sent = front.first; served = served; reply = reply } in
    subst (λ (all : List Handled). handled_from 0 all ≡ true) (sym (served_of m.event (after_front front served reply) (is_blocked served.item)))
    (ordinary_handled front.link one counts old (and_parts (is_of_front m front served) (is_item_of front.first.frame served.item) ordinary).1 refl)

pub handled_keep : (m : Machine) → Keeps m counts_commits is_all_handled
handled_keep m = record {
  at_new = λ up. refl;
  at_sends = λ frames link here. sends_alike (λ one. is_all_handled one ≡ true) m.event frames link here here;
  at_takes = λ reply left link old here down. here;
  at_serves = λ number front served at ordinary old here. served_handled m front served old here ordinary;
  at_stops = λ number after front served at stopped old here.
      let crashed = (and_parts (is_crashed_item front.first.frame served.item) _ (and_parts (is_of_front m front served) _ stopped).1).0 in
      fallen_case (λ one. is_all_handled one ≡ true) m.event (after_front front served None) (λ is. stopped_handled front served here crashed) (λ is. stopped_handled front served here crashed);
  at_cuts = λ up down link opens here. cut_case (λ one. is_all_handled one ≡ true) m.event up down link opens here;
  at_reaps = λ link orphan here. here;
  at_falls = λ link here. fallen_case (λ one. is_all_handled one ≡ true) m.event link (λ is. here) (λ is. here);
}
