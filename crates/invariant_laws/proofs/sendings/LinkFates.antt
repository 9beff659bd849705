-- Of a connection: what is held rises with each reply that is taken, and above what it was where
-- the reply says Committed.
use Rattle.std.proofs.Common.{◌≡◌, refl, sym, ap, subst, ◌∙◌, Bool, true, false, ℕ, suc, ◌+◌, ◌≤◌, ◌<◌, ◌&&◌, cond, count_by, filter, filter_map, length, length-append, List, [], ◌∷◌, ◌++◌, Option, Some, None, ◌⊎◌, inl, inr, arith, le_refl}
use Rattle.std.specs.Prelude.{nat_le}
use Rattle.std.specs.List.{last_or}
use Rattle.std.specs.Option.{option_or}
use Rattle.std.proofs.lemmas.Bool.{and_parts, and_from}
use Rattle.std.proofs.lemmas.List.Elements.{filter-append, filter_map-append}
use Rattle.std.proofs.lemmas.List.Sums.{sum_by-append, sum_by-cons}
use Rattle.svc_values.specs.declared.call.Call.{Call}
use Rattle.svc_values.specs.declared.entry.Ltxid.{Ltxid}
use Rattle.svc_values.specs.meaning.Endings.{ends_committed}
use Rattle.svc_values.specs.meaning.Same.{same_answers, same_call, same_draws}
use Rattle.svc_values.specs.SameLaws.{same_answers_decide}
use Rattle.outage_schedule.specs.declared.item.Item.{Item}
use Rattle.outage_schedule.specs.declared.item.Item.TheVariants as item
use Rattle.outage_schedule.specs.declared.request.ShownCall.{ShownCall}
use Rattle.client_model.specs.declared.input.Input.TheVariants.{Took}
use Rattle.world_model.specs.meaning.Frames.{Reply, Handled}
use Rattle.world_model.specs.meaning.Links.{Link, told_by}
use Rattle.world_model.specs.records.Number.{last_told}
use Rattle.world_model.specs.Parts.{held_number, served_reps}
use Rattle.world_model.specs.Sames.{same_reply, is_front}
use Rattle.world_model.specs.meaning.Serving.{is_commit}
use Rattle.invariant_laws.specs.Shown.{is_shown_item}
use Rattle.world_model.specs.records.Wire.{reply_to, replies_of, is_handled, counted_with, handled_from}
use Rattle.world_model.proofs.Offered.{front_begun, told_same, Known, IsLast, commits_all, commits_behind, is_commit_of, behind_is, rep_of, all_told, alike_told, number_in, replies_rise_next_number as next_number, few_replies, front_long, le_from}

-- THE LAST OF SOME --------------------------------------------------------------------------------

-- the last one that is answered, with those before and behind it
record Parted (served : List Handled) (one : Handled) : Type 0 where
  before : List Handled
  behind : List Handled
  are : served ≡ before ++ one ∷ behind
  none : filter rep_of behind ≡ []
  rep : rep_of one ≡ true

parted_by : (found : Option Handled) (served : List Handled) (one : Handled) → last_or found (filter rep_of served) ≡ Some one → ((found ≡ Some one) × (filter rep_of served ≡ [])) ⊎ Parted served one
parted_by found [] one is = inl (is, refl)
parted_by found (first ∷ others) one is = by (rep_of first) refl is (parted_by (Some first) others one) (parted_by found others one)
  where
    further : Parted others one → Parted (first ∷ others) one
    further rest = record { before = first ∷ rest.before; behind = rest.behind; are = ap (λ (list : List Handled). first ∷ list) rest.are; none = rest.none; rep = rest.rep }

    here : rep_of first ≡ true → ((Some first ≡ Some one) × (filter rep_of others ≡ [])) ⊎ Parted others one → Parted (first ∷ others) one
    here plain (inl last) = let same : first ≡ one = cc in record { before = []; behind = others; are = ap (λ (h : Handled). h ∷ others) same; none = last.1; rep = ap rep_of (sym same) ∙ plain }
    here plain (inr rest) = further rest

    passed : rep_of first ≡ false → ((found ≡ Some one) × (filter rep_of others ≡ [])) ⊎ Parted others one → ((found ≡ Some one) × (filter rep_of (first ∷ others) ≡ [])) ⊎ Parted (first ∷ others) one
    passed plain (inl last) = inl (last.0, ap (λ (rep : Bool). cond rep (first ∷ filter rep_of others) (filter rep_of others)) plain ∙ last.1)
    passed plain (inr rest) = inr (further rest)

    by : (rep : Bool) → rep_of first ≡ rep → last_or found (cond rep (first ∷ filter rep_of others) (filter rep_of others)) ≡ Some one
        → (last_or (Some first) (filter rep_of others) ≡ Some one → ((Some first ≡ Some one) × (filter rep_of others ≡ [])) ⊎ Parted others one)
        → (last_or found (filter rep_of others) ≡ Some one → ((found ≡ Some one) × (filter rep_of others ≡ [])) ⊎ Parted others one) → ((found ≡ Some one) × (filter rep_of (first ∷ others) ≡ [])) ⊎ Parted (first ∷ others) one
    by true plain is with_it without = inr (here plain (with_it is))
    by false plain is with_it without = passed plain (without is)

parted : (served : List Handled) (one : Handled) → last_or None (filter rep_of served) ≡ Some one → Parted served one
parted served one is = by (parted_by None served one is)
  where
    by : ((None ≡ Some one) × (filter rep_of served ≡ [])) ⊎ Parted served one → Parted served one
    by (inl none) = absurd (let same : None ≡ Some one = none.0 in let never : ⊥ = cc in never)
    by (inr parts) = parts

pub handled_parts : (commits : ℕ) (xs ys : List Handled) → handled_from commits (xs ++ ys) ≡ true → (handled_from commits xs ≡ true) × ((between : ℕ) × (handled_from between ys ≡ true))
handled_parts commits [] ys here = (refl, (commits, here))
handled_parts commits (x ∷ xs) ys here =
    let now : ℕ = counted_with commits x.served.item in
    let parts = and_parts (is_handled now x) (handled_from now (xs ++ ys)) here in
    let rest = handled_parts now xs ys parts.1 in
    (and_from (is_handled now x) (handled_from now xs) parts.0 rest.0, rest.1)

pub front_cut : {A : Type 0} (same : A → A → Bool) (xs ys zs : List A) → is_front same xs (ys ++ zs) ≡ true → length xs ≤ length ys → is_front same xs ys ≡ true
front_cut same [] ys zs here most = refl
front_cut same (x ∷ xs) [] zs here most = absurd (let never : ⊥ = omega arith in never)
front_cut same (x ∷ xs) (y ∷ ys) zs here most =
    let parts = and_parts (same x y) (is_front same xs (ys ++ zs)) here in
    let fewer : length xs ≤ length ys = omega arith in
    and_from (same x y) (is_front same xs ys) parts.0 (front_cut same xs ys zs parts.1 fewer)

-- A REPLY THAT IS TAKEN ---------------------------------------------------------------------------

module _ (link : Link) (reply : Reply) (left : List Reply) (known : Known link) (down : link.down ≡ reply ∷ left) where
  abbrev taken_number : ℕ
  taken_number = number_in (last_told link.taken)

  held_is : taken_number ≡ held_number link
  held_is = told_same (last_told link.taken) link.held known.held

  -- what is held behind it is not less
  pub held_rises : held_number link ≤ number_in (option_or (told_by (Took reply.frame true)) link.held)
  held_rises = by (told_by (Took reply.frame true)) refl
    where
      by : (told : Option Ltxid) → told_by (Took reply.frame true) ≡ told → held_number link ≤ number_in (option_or told link.held)
      by None is = le_refl (held_number link)
      by (Some x) is = let low = (next_number link reply left x known.counts known.handled known.replies down is).0 in omega (arith, low, held_is)

  -- and where the session committed it is less than what the session has committed then
  pub commit_above : (last : IsLast link reply) → is_commit last.one.served.item ≡ true → held_number link < link.commits
  commit_above last commits =
      let counted : count_by is_commit_of link.served ≡ count_by is_commit_of at.before + count_by is_commit_of (last.one ∷ at.behind) =
      ap (count_by is_commit_of) at.are ∙ sum_by-append (λ (h : Handled). cond (is_commit_of h) 1 0) at.before (last.one ∷ at.behind) in
      let own : count_by is_commit_of (last.one ∷ at.behind) ≡ cond (is_commit_of last.one) 1 0 + count_by is_commit_of at.behind = sum_by-cons (λ (h : Handled). cond (is_commit_of h) 1 0) last.one at.behind in
      let one : ◌≡◌ {A = ℕ} (cond (is_commit_of last.one) 1 0) 1 = ap (λ (b : Bool). cond b 1 0) commits in
      let all : commits_behind 0 link.served ≡ link.commits = commits_all link known in
      let whole : commits_behind 0 link.served ≡ 0 + count_by is_commit_of link.served = behind_is 0 link.served in
      let first : commits_behind 0 at.before ≡ 0 + count_by is_commit_of at.before = behind_is 0 at.before in
      omega (arith, counted, own, one, all, whole, first, held_before, held_is)
    where
      at : Parted link.served last.one
      at = parted link.served last.one last.last

      handled : (handled_from 0 at.before ≡ true) × ((between : ℕ) × (handled_from between (last.one ∷ at.behind) ≡ true))
      handled = handled_parts 0 at.before (last.one ∷ at.behind) (subst (λ (list : List Handled). handled_from 0 list ≡ true) at.are known.handled)

      replies : is_front same_reply (link.taken ++ reply ∷ left) (filter_map reply_to at.before ++ filter_map reply_to (last.one ∷ at.behind)) ≡ true
      replies =
          subst (λ (all : List Reply). is_front same_reply (link.taken ++ reply ∷ left) all ≡ true) (ap (filter_map reply_to) at.are ∙ filter_map-append reply_to at.before (last.one ∷ at.behind))
          (subst (λ (d : List Reply). is_front same_reply (link.taken ++ d) (replies_of link) ≡ true) down (and_parts (is_front same_reply (link.taken ++ link.down) (replies_of link)) _ known.replies).0)

      -- the replies before it are those that were taken
      long : length link.taken ≡ length (filter_map reply_to at.before)
      long =
          let most : length (filter rep_of link.served) ≤ length link.taken + 1 =
          le_from (length (served_reps link)) (length link.taken + 1) (and_parts (nat_le (length link.taken) (length (served_reps link))) (nat_le (length (served_reps link)) (length link.taken + 1)) known.near).1 in
          let split : filter rep_of link.served ≡ filter rep_of at.before ++ filter rep_of (last.one ∷ at.behind) = ap (filter rep_of) at.are ∙ filter-append rep_of at.before (last.one ∷ at.behind) in
          let sum : length (filter rep_of link.served) ≡ length (filter rep_of at.before) + length (filter rep_of (last.one ∷ at.behind)) = ap length split ∙ length-append (filter rep_of at.before) (filter rep_of (last.one ∷ at.behind)) in
          let few : length (filter_map reply_to at.before) ≤ length (filter rep_of at.before) = few_replies 0 at.before handled.0 in
          let few_last : length (filter_map reply_to (last.one ∷ at.behind)) ≤ length (filter rep_of (last.one ∷ at.behind)) = few_replies handled.1.0 (last.one ∷ at.behind) handled.1.1 in
          let one : length (filter rep_of (last.one ∷ at.behind)) ≤ 1 = last_few (rep_of last.one) in
          let some : 1 ≤ length (filter rep_of (last.one ∷ at.behind)) = last_some in
          let got : length (link.taken ++ reply ∷ left) ≤ length (filter_map reply_to at.before ++ filter_map reply_to (last.one ∷ at.behind)) =
          front_long same_reply (link.taken ++ reply ∷ left) (filter_map reply_to at.before ++ filter_map reply_to (last.one ∷ at.behind)) replies in
          let got_sum : length (link.taken ++ reply ∷ left) ≡ length link.taken + length (reply ∷ left) = length-append link.taken (reply ∷ left) in
          let more : length (reply ∷ left) ≡ length left + 1 = omega arith in
          let all_sum : length (filter_map reply_to at.before ++ filter_map reply_to (last.one ∷ at.behind)) ≡ length (filter_map reply_to at.before) + length (filter_map reply_to (last.one ∷ at.behind)) =
          length-append (filter_map reply_to at.before) (filter_map reply_to (last.one ∷ at.behind)) in
          omega (arith, most, sum, few, few_last, one, some, got, got_sum, more, all_sum)
        where
          add_one : (n : ℕ) → suc n ≡ n + 1
          add_one n = omega arith

          last_few : (rep : Bool) → length (cond rep (last.one ∷ filter rep_of at.behind) (filter rep_of at.behind)) ≤ 1
          last_few true = let none : length (filter rep_of at.behind) ≡ 0 = ap length at.none in omega (arith, none)
          last_few false = let none : length (filter rep_of at.behind) ≡ 0 = ap length at.none in omega (arith, none)

          last_some : 1 ≤ length (filter rep_of (last.one ∷ at.behind))
          last_some =
              let same : length (filter rep_of (last.one ∷ at.behind)) ≡ length (filter rep_of at.behind) + 1 = ap (λ (rep : Bool). length (cond rep (last.one ∷ filter rep_of at.behind) (filter rep_of at.behind))) at.rep ∙ add_one (length (filter rep_of at.behind)) in
              omega (arith, same)

      held_before : taken_number ≡ commits_behind 0 at.before
      held_before =
          alike_told None None link.taken (filter_map reply_to at.before)
          (front_cut same_reply link.taken (filter_map reply_to at.before) (filter_map reply_to (last.one ∷ at.behind))
          (front_begun same_reply link.taken (link.taken ++ reply ∷ left) (filter_map reply_to at.before ++ filter_map reply_to (last.one ∷ at.behind)) (record { rest = reply ∷ left; whole = refl }) replies) (omega (arith, long))) long refl
          ∙ all_told 0 None at.before handled.0 refl

-- what shows a call that committed is a commit
pub shown_commits : (call : Call) (shown : ShownCall) (one : Item) → is_shown_item call shown one ≡ true → ends_committed shown.answers ≡ true → is_commit one ≡ true
shown_commits call shown (item.Call false served answers draws) is ends =
    let parts = and_parts (same_answers answers shown.answers) (same_draws draws shown.draws) (and_parts (same_call served call) (same_answers answers shown.answers && same_draws draws shown.draws) is).1 in
    ap ends_committed ((same_answers_decide answers shown.answers).0 parts.0) ∙ ends
shown_commits call shown (item.Call true served answers draws) is ends = absurd (let none : ⊥ = cc in none)
shown_commits call shown one is ends = absurd (let none : ⊥ = cc in none)
