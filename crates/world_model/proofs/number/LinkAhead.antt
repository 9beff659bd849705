-- Of a connection whose first frame is served or stopped: how far its session is ahead then.
use Rattle.std.proofs.Common.{◌≡◌, refl, sym, ap, subst, ◌∙◌, Bool, true, false, ℕ, ◌+◌, ◌≤◌, ◌&&◌, [], ◌∷◌, ◌++◌, filter, Option, None, ◌⊎◌, inl, inr, arith, if◌then◌else◌}
use Rattle.std.specs.Prelude.{◌==◌, ◌||◌, is_some}
use Rattle.std.specs.List.{list_any, last_or}
use Rattle.std.specs.Option.{option_map_or}
use Rattle.std.proofs.lemmas.Bool.{and_from, or_left, or_right, or_parts}
use Rattle.svc_values.specs.declared.frame.Down.{Down}
use Rattle.outage_schedule.specs.declared.item.Served.{Served}
use Rattle.world_model.specs.meaning.Frames.{Handled}
use Rattle.world_model.specs.meaning.Links.{Link}
use Rattle.world_model.specs.records.Number.{cond_held, is_stopped_call, last_is_stopped_commit}
use Rattle.world_model.specs.Parts.{is_rep, is_out, out_frame, is_commit_call, held_number}
use Rattle.world_model.specs.meaning.Serving.{Front, is_commit, commits_after, after_front, handled}
use Rattle.world_model.specs.meaning.Crashing.{fallen_link}
use Rattle.world_model.proofs.number.NumbersItems.{plus_cond_one, plus_cond}
use Rattle.world_model.proofs.events.Tests.{eq_to}
use Rattle.world_model.proofs.basic.Ends.{handled_alike, fallen_case}
use Rattle.world_model.proofs.wire.FrontLists.{last_pushed}
use Rattle.world_model.proofs.number.LinkCounts.{Known, Right, commit_rep}
use Rattle.world_model.proofs.number.LinkServed.{IsNext, is_next, none_commits, made_test, made_now, last_before}

extra_one : (held : Bool) → held ≡ true → ◌≡◌ {A = ℕ} (if held then 1 else 0) 1
extra_one true is = refl
extra_one false is = absurd (let none : ⊥ = cc in none)

-- how far it is ahead, with the frame served
record Ahead (front : Front) (served : Served) (reply : Option Down) (n : ℕ) : Type 0 where
  least : held_number front.link ≤ n
  most : n ≤ held_number front.link + cond_held front.link
  counted : n ≡ commits_after front.link served.item
  ahead : n ≡ held_number front.link + 1 → (is_out front.link ≡ true)
      × (made_test (out_frame front.link) (last_or None (filter (λ one. is_rep one.sent) (front.link.served ++ record { sent = front.first; served = served; reply = reply } ∷ []))) ≡ true) × (list_any is_commit_call front.later ≡ false)

module _ (front : Front) (served : Served) (n : ℕ) (known : Known front.link) (right : Right n front.link) (ups : front.link.up ≡ front.first ∷ front.later) (count : n ≡ front.link.commits) where
  module _ (next : ℕ) (is : next ≡ commits_after front.link served.item) (commit : is_commit served.item ≡ true → (is_commit_call front.first ≡ true) × (is_some front.link.held ≡ true)) where
    ahead_now : (reply : Option Down) → Ahead front served reply next
    ahead_now reply = by (is_commit served.item) refl
      where
        one : Handled
        one = record { sent = front.first; served = served; reply = reply }

        more : is_commit served.item ≡ true → Ahead front served reply next
        more commits =
            let both = commit commits in
            let rep : is_rep front.first ≡ true = commit_rep front.first both.0 in
            let follows = is_next front.link front.first front.later known ups rep in
            let level : held_number front.link ≡ front.link.commits = follows.level in
            let sum : next ≡ front.link.commits + 1 = is ∙ plus_cond_one front.link.commits (is_commit served.item) commits in
            let extra : cond_held front.link ≡ 1 = extra_one (is_some front.link.held) both.1 in
            record {
              least = omega (arith, level, sum);
              most = omega (arith, level, sum, extra);
              counted = is;
              ahead = λ over. (follows.out, made_now (out_frame front.link) front.link.served one rep (or_left (is_commit served.item) (is_stopped_call served.item) commits) both.0 follows.same, none_commits front.later follows.none);
            }

        plain : is_commit served.item ≡ false → (rep : Bool) → is_rep front.first ≡ rep → Ahead front served reply next
        plain none rep answered =
            let same : next ≡ n = is ∙ (plus_cond front.link.commits (is_commit served.item) none ∙ sym count) in
            record {
              least = subst (λ (k : ℕ). held_number front.link ≤ k) (sym same) right.least;
              most = subst (λ (k : ℕ). k ≤ held_number front.link + cond_held front.link) (sym same) right.most;
              counted = is;
              ahead = λ over. still rep answered (sym same ∙ over);
            }
          where
            still : (rep : Bool) → is_rep front.first ≡ rep → n ≡ held_number front.link + 1
                → (is_out front.link ≡ true) × (made_test (out_frame front.link) (last_or None (filter (λ h. is_rep h.sent) (front.link.served ++ one ∷ []))) ≡ true) × (list_any is_commit_call front.later ≡ false)
            still true answered over =
                let level : held_number front.link ≡ front.link.commits = (is_next front.link front.first front.later known ups answered).level in
                absurd (let never : ⊥ = omega (arith, level, count, over) in never)
            still false answered over =
                let old = right.ahead over in
                (old.0, ap (made_test (out_frame front.link)) (last_before front.link.served one answered) ∙ old.1, (or_parts (is_commit_call front.first) (list_any is_commit_call front.later) (ap (list_any is_commit_call) (sym ups) ∙ old.2)).1)

        by : (commits : Bool) → is_commit served.item ≡ commits → Ahead front served reply next
        by true commits = more commits
        by false none = plain none (is_rep front.first) refl

    counted_by : (reply : Option Down) → ((next == commits_after front.link served.item) || ((next == commits_after front.link served.item + 1) && last_is_stopped_commit (after_front front served reply))) ≡ true
    counted_by reply = or_left (next == commits_after front.link served.item) ((next == commits_after front.link served.item + 1) && last_is_stopped_commit (after_front front served reply)) (eq_to next (commits_after front.link served.item) is)

    pub served_right : (event : ℕ) → Right next (handled event front served)
    served_right event =
        handled_alike (Right next) event front served (λ reply. let a = ahead_now reply in record { least = a.least; most = a.most; counted = counted_by reply; ahead = a.ahead })
        (λ reply. let a = ahead_now reply in record { least = a.least; most = a.most; counted = counted_by reply; ahead = a.ahead })

  -- stopped, behind its entry or before it
  module _ (next : ℕ) (few : (next ≡ n) ⊎ (next ≡ n + 1)) (rep : is_rep front.first ≡ true) (none : is_commit served.item ≡ false)
      (commit : next ≡ n + 1 → (is_commit_call front.first ≡ true) × (is_stopped_call served.item ≡ true) × (is_some front.link.held ≡ true)) where
    abbrev stopped : Link
    stopped = after_front front served None

    abbrev last_one : Handled
    last_one = record { sent = front.first; served = served; reply = None }

    follows_now : IsNext front.link front.first front.later
    follows_now = is_next front.link front.first front.later known ups rep

    commits_same : commits_after front.link served.item ≡ n
    commits_same = plus_cond front.link.commits (is_commit served.item) none ∙ sym count

    level_same : held_number front.link ≡ n
    level_same = follows_now.level ∙ sym count

    stopped_counted : (next ≡ n) ⊎ (next ≡ n + 1) → ((next == commits_after front.link served.item) || ((next == commits_after front.link served.item + 1) && last_is_stopped_commit stopped)) ≡ true
    stopped_counted (inl same) =
        or_left (next == commits_after front.link served.item) ((next == commits_after front.link served.item + 1) && last_is_stopped_commit stopped) (eq_to next (commits_after front.link served.item) (same ∙ sym commits_same))
    stopped_counted (inr more) =
        let all = commit more in
        let last : last_is_stopped_commit stopped ≡ true =
        ap (λ (f : Option Handled). option_map_or (λ h. is_stopped_call h.served.item && is_commit_call h.sent) f false) (last_pushed None front.link.served last_one) ∙ and_from (is_stopped_call served.item) (is_commit_call front.first) all.1 all.0 in
        or_right (next == commits_after front.link served.item) ((next == commits_after front.link served.item + 1) && last_is_stopped_commit stopped)
        (and_from (next == commits_after front.link served.item + 1) (last_is_stopped_commit stopped) (eq_to next (commits_after front.link served.item + 1) (more ∙ ap (λ (k : ℕ). k + 1) (sym commits_same))) last)

    stopped_most : (next ≡ n) ⊎ (next ≡ n + 1) → next ≤ held_number front.link + cond_held front.link
    stopped_most (inl same) = omega (arith, same, level_same)
    stopped_most (inr more) = let extra : cond_held front.link ≡ 1 = extra_one (is_some front.link.held) (commit more).2 in omega (arith, more, level_same, extra)

    stopped_least : (next ≡ n) ⊎ (next ≡ n + 1) → held_number front.link ≤ next
    stopped_least (inl same) = omega (arith, same, level_same)
    stopped_least (inr more) = omega (arith, more, level_same)

    stopped_ahead : (next ≡ n) ⊎ (next ≡ n + 1) → next ≡ held_number front.link + 1
        → (is_out front.link ≡ true) × (made_test (out_frame front.link) (last_or None (filter (λ h. is_rep h.sent) (front.link.served ++ last_one ∷ []))) ≡ true)
    stopped_ahead (inl same) over = absurd (let never : ⊥ = omega (arith, same, level_same, over) in never)
    stopped_ahead (inr more) over =
        let all = commit more in
        (follows_now.out, made_now (out_frame front.link) front.link.served last_one rep (or_right (is_commit served.item) (is_stopped_call served.item) all.1) all.0 follows_now.same)

    pub stopped_right : (event : ℕ) → Right next (fallen_link event stopped)
    stopped_right event =
        fallen_case (Right next) event stopped
        (λ opens. record { least = stopped_least few; most = stopped_most few; counted = stopped_counted few; ahead = λ over. let a = stopped_ahead few over in (a.0, a.1, refl) })
        (λ closed. record { least = stopped_least few; most = stopped_most few; counted = stopped_counted few; ahead = λ over. let a = stopped_ahead few over in (a.0, a.1, refl) })
