-- Where a commit was served on a connection and no reply to it was taken: what is held there counts
-- the commits before it, so the entry of what is held is there.
use Rattle.std.proofs.Common.{◌≡◌, refl, sym, ap, subst, ◌∙◌, arith, Bool, true, false, ℕ, suc, zero, ◌+◌, ◌<◌, ◌≤◌, ◌||◌, cond, count_by, filter, filter_map, length, List, [], ◌∷◌, ◌++◌, map, Option, Some, None}
use Rattle.std.specs.Prelude.{is_some, not, option_map, slice_get}
use Rattle.std.specs.List.{cons_option, list_all}
use Rattle.std.proofs.lemmas.Bool.{and_from, and_parts, not-true}
use Rattle.std.proofs.lemmas.List.Elements.{filter_map-append}
use Rattle.std.proofs.lemmas.List.Sums.{sum_by-append, sum_by-cons}
use Rattle.svc_values.specs.declared.frame.Down.{Down}
use Rattle.world_model.specs.records.Basic.{is_stopped, ends_life, none_behind}
use Rattle.world_model.specs.meaning.Frames.{Sent, Reply, Handled}
use Rattle.world_model.specs.meaning.Links.{Link}
use Rattle.world_model.specs.records.Number.{last_told}
use Rattle.world_model.specs.Parts.{is_rep, held_number}
use Rattle.world_model.specs.Sames.{same_reply, same_sent, is_front}
use Rattle.world_model.specs.meaning.Serving.{is_last}
use Rattle.world_model.specs.records.Wire.{up_of, reply_to, replies_of, is_handled, counted_with, handled_from}
use Rattle.once_laws.proofs.calls.CallRows.{more_if, rank}
use Rattle.world_model.proofs.Offered.{front_begun, told_same, Known, commits_all, commits_behind, is_commit_of, behind_is, rep_of, all_told, alike_told, handled_replied, same_reps, number_in, few_replies}
use Rattle.invariant_laws.proofs.Offered.{front_cut, handled_parts}

-- PARTS -------------------------------------------------------------------------------------------

-- what was served before a place, and behind it
record PartedAt (served : List Handled) (last : ℕ) (end : Handled) : Type 0 where
  before : List Handled
  behind : List Handled
  are : served ≡ before ++ end ∷ behind
  ranks : rank rep_of served last ≡ length (filter rep_of before)

parted_at : (served : List Handled) (last : ℕ) (end : Handled) → slice_get served last ≡ Some end → PartedAt served last end
parted_at [] last end at = absurd (let none : ⊥ = cc in none)
parted_at (one ∷ others) zero end at = let same : one ≡ end = cc in record { before = []; behind = others; are = ap (λ (h : Handled). h ∷ others) same; ranks = refl }
parted_at (one ∷ others) (suc last) end at =
    let rest = parted_at others last end at in record { before = one ∷ rest.before; behind = rest.behind; are = ap (λ (all : List Handled). one ∷ all) rest.are; ranks = by (rep_of one) rest.before rest.ranks }
  where
    by : (rep : Bool) (before : List Handled) → rank rep_of others last ≡ length (filter rep_of before) → more_if rep (rank rep_of others last) ≡ length (cond rep (one ∷ filter rep_of before) (filter rep_of before))
    by true before same = ap suc same
    by false before same = same

abbrev goes_on : Handled → Bool
goes_on one = not (is_stopped one.served.item)

going : (last stopped : Bool) → not (last || stopped) ≡ true → not stopped ≡ true
going true stopped is = absurd (let none : ⊥ = cc in none)
going false stopped is = is

-- nothing was stopped before another frame
none_stopped : (before behind : List Handled) (end : Handled) → none_behind (before ++ end ∷ behind) ≡ true → list_all goes_on before ≡ true
none_stopped [] behind end alone = refl
none_stopped (one ∷ []) behind end alone = and_from (goes_on one) true (going (is_last one.served.item) (is_stopped one.served.item) (and_parts (not (ends_life one)) (none_behind (end ∷ behind)) alone).0) refl
none_stopped (one ∷ next ∷ before) behind end alone =
    let parts = and_parts (not (ends_life one)) (none_behind (next ∷ before ++ end ∷ behind)) alone in
    and_from (goes_on one) (list_all goes_on (next ∷ before)) (going (is_last one.served.item) (is_stopped one.served.item) parts.0) (none_stopped (next ∷ before) behind end parts.1)

-- so each answered frame was replied to
full_replies : (commits : ℕ) (served : List Handled) → handled_from commits served ≡ true → list_all goes_on served ≡ true → length (filter rep_of served) ≤ length (filter_map reply_to served)
full_replies commits [] handled goes = omega arith
full_replies commits (one ∷ others) handled goes = by one.reply (rep_of one) (handled_replied now one (not-true (is_stopped one.served.item) both.0) parts.0) (full_replies now others parts.1 both.1)
  where
    now : ℕ
    now = counted_with commits one.served.item

    parts : (is_handled now one ≡ true) × (handled_from now others ≡ true)
    parts = and_parts (is_handled now one) (handled_from now others) handled

    both : (goes_on one ≡ true) × (list_all goes_on others ≡ true)
    both = and_parts (goes_on one) (list_all goes_on others) goes

    by : (reply : Option Down) (rep : Bool) → is_some reply ≡ rep → length (filter rep_of others) ≤ length (filter_map reply_to others)
        → length (cond rep (one ∷ filter rep_of others) (filter rep_of others)) ≤ length (cons_option (option_map (λ frame. record { to = one.sent; frame = frame }) reply) (filter_map reply_to others))
    by None false same rest = rest
    by (Some frame) true same rest = omega (arith, rest)
    by None true same rest = absurd (let none : ⊥ = cc in none)
    by (Some frame) false same rest = absurd (let none : ⊥ = cc in none)

pub rank_served : (served : List Handled) (ups sents : List Sent) → is_front same_sent (map (λ (one : Handled). one.sent) served ++ ups) sents ≡ true → (last : ℕ) (end : Handled) → slice_get served last ≡ Some end → rank is_rep sents last ≡ rank rep_of served last
rank_served [] ups sents front last end at = absurd (let none : ⊥ = cc in none)
rank_served (one ∷ served) ups [] front last end at = absurd (let none : ⊥ = cc in none)
rank_served (one ∷ served) ups (sent ∷ sents) front zero end at = refl
rank_served (one ∷ served) ups (sent ∷ sents) front (suc last) end at =
    let parts = and_parts (same_sent one.sent sent) (is_front same_sent (map (λ (h : Handled). h.sent) served ++ ups) sents) front in
    ap (λ (rep : Bool). more_if rep (rank is_rep sents last)) (sym (same_reps one.sent sent parts.0)) ∙ ap (more_if (rep_of one)) (rank_served served ups sents parts.1 last end at)

-- WHAT IS HELD ------------------------------------------------------------------------------------

pub held_below : (link : Link) → Known link → none_behind link.served ≡ true → (last : ℕ) (end : Handled) → slice_get link.served last ≡ Some end → is_commit_of end ≡ true → length link.taken ≡ rank is_rep link.sent last → held_number link < link.commits
held_below link known alone last end at_end commits long =
    let counted : count_by is_commit_of link.served ≡ count_by is_commit_of at.before + count_by is_commit_of (end ∷ at.behind) =
    ap (count_by is_commit_of) at.are ∙ sum_by-append (λ (h : Handled). cond (is_commit_of h) 1 0) at.before (end ∷ at.behind) in
    let own : count_by is_commit_of (end ∷ at.behind) ≡ cond (is_commit_of end) 1 0 + count_by is_commit_of at.behind = sum_by-cons (λ (h : Handled). cond (is_commit_of h) 1 0) end at.behind in
    let one : ◌≡◌ {A = ℕ} (cond (is_commit_of end) 1 0) 1 = ap (λ (b : Bool). cond b 1 0) commits in
    let all : commits_behind 0 link.served ≡ link.commits = commits_all link known in
    let whole : commits_behind 0 link.served ≡ 0 + count_by is_commit_of link.served = behind_is 0 link.served in
    let first : commits_behind 0 at.before ≡ 0 + count_by is_commit_of at.before = behind_is 0 at.before in
    let held_is : number_in (last_told link.taken) ≡ held_number link = told_same (last_told link.taken) link.held known.held in
    omega (arith, counted, own, one, all, whole, first, held_before, held_is)
  where
    at : PartedAt link.served last end
    at = parted_at link.served last end at_end

    handled : (handled_from 0 at.before ≡ true) × ((between : ℕ) × (handled_from between (end ∷ at.behind) ≡ true))
    handled = handled_parts 0 at.before (end ∷ at.behind) (subst (λ (list : List Handled). handled_from 0 list ≡ true) at.are known.handled)

    replies : is_front same_reply (link.taken ++ link.down) (filter_map reply_to at.before ++ filter_map reply_to (end ∷ at.behind)) ≡ true
    replies =
        subst (λ (all : List Reply). is_front same_reply (link.taken ++ link.down) all ≡ true) (ap (filter_map reply_to) at.are ∙ filter_map-append reply_to at.before (end ∷ at.behind))
        (and_parts (is_front same_reply (link.taken ++ link.down) (replies_of link)) _ known.replies).0

    same : length link.taken ≡ length (filter_map reply_to at.before)
    same =
        let few = few_replies 0 at.before handled.0 in
        let full = full_replies 0 at.before handled.0 (none_stopped at.before at.behind end (subst (λ (list : List Handled). none_behind list ≡ true) at.are alone)) in
        let ranks = at.ranks in
        let served = rank_served link.served link.up link.sent (and_parts (is_front same_sent (up_of link) link.sent) _ known.sent).0 last end at_end in
        omega (arith, few, full, ranks, served, long)

    held_before : number_in (last_told link.taken) ≡ commits_behind 0 at.before
    held_before =
        alike_told None None link.taken (filter_map reply_to at.before)
        (front_cut same_reply link.taken (filter_map reply_to at.before) (filter_map reply_to (end ∷ at.behind))
        (front_begun same_reply link.taken (link.taken ++ link.down) (filter_map reply_to at.before ++ filter_map reply_to (end ∷ at.behind)) (record { rest = link.down; whole = refl }) replies) (omega (arith, same))) same refl
        ∙ all_told 0 None at.before handled.0 refl
