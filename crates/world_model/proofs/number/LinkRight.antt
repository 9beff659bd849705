-- Of a connection: by whatever happens to it, its session stays as far ahead of what is held as
-- what is out explains.
use Rattle.std.proofs.Common.{◌≡◌, refl, sym, ap, subst, ◌∙◌, Bool, true, false, ℕ, ◌+◌, ◌≤◌, ◌&&◌, length, List, ◌∷◌, Option, Some, None, ◌⊎◌, inl, inr, arith, if◌then◌else◌}
use Rattle.std.specs.Prelude.{◌==◌, ◌||◌, is_some}
use Rattle.std.specs.List.{list_any}
use Rattle.std.specs.Option.{option_or, option_map_or}
use Rattle.std.proofs.lemmas.Bool.{and_parts, or_cases, or_parts}
use Rattle.std.proofs.lemmas.List.Folds.{list_any-append}
use Rattle.svc_values.specs.declared.entry.Ltxid.{Ltxid}
use Rattle.svc_values.specs.declared.frame.Down.{Down}
use Rattle.client_model.specs.declared.input.Input.TheVariants.{Took}
use Rattle.world_model.specs.meaning.Frames.{Sent, Reply, Handled}
use Rattle.world_model.specs.records.Hold.{is_idle}
use Rattle.world_model.specs.meaning.Links.{Link, told_by, sends, takes}
use Rattle.world_model.specs.Sames.{same_sent}
use Rattle.world_model.specs.records.Number.{is_stopped_call, last_is_stopped_commit, made_entry, last_served_made}
use Rattle.world_model.specs.Parts.{count_reps, out_frame, is_commit_call, held_number}
use Rattle.world_model.specs.meaning.Serving.{is_commit}
use Rattle.world_model.specs.meaning.Cutting.{cut_link, reaped_link}
use Rattle.world_model.specs.meaning.Crashing.{fallen_link}
use Rattle.world_model.proofs.events.Tests.{eq_from}
use Rattle.world_model.proofs.basic.Ends.{sends_alike, cut_case, fallen_case}
use Rattle.world_model.proofs.wire.FrontLists.{Begins, whole_begins}
use Rattle.world_model.proofs.number.LinkHeld.{told_alive}
use Rattle.world_model.proofs.number.LinkNumbers.{is_told, commit_told, stopped_silent, told_same as down_told}
use Rattle.world_model.proofs.number.LinkCounts.{Known, Right, IsLast, taken_last, taken_number, some_not, last_was, not_stopped}
use Rattle.world_model.proofs.wire.LinkOut.{idle_none}

true_false : {A : Type 0} (test : Bool) → test ≡ true → test ≡ false → A
true_false true is other = absurd (let none : ⊥ = cc in none)
true_false false is other = absurd (let none : ⊥ = cc in none)

-- IDLE, TAKEN -------------------------------------------------------------------------------------

-- on one that is idle nothing is out, so it is not ahead
idle_behind : (n : ℕ) (link : Link) → is_idle link ≡ true → Right n link → n ≡ held_number link + 1 → ⊥
idle_behind n link idle right ahead =
    let out : count_reps link.sent ≡ length link.taken + 1 = eq_from (count_reps link.sent) (length link.taken + 1) (right.ahead ahead).0 in
    let none : count_reps link.sent ≡ length link.taken = idle_none link idle in
    let never : ⊥ = omega arith in never

pub idle_right : (n event : ℕ) (frames : List Sent) (link : Link) → is_idle link ≡ true → Right n link → Right n (sends event frames link)
idle_right n event frames link idle right =
    sends_alike (Right n) event frames link (record { least = right.least; most = right.most; counted = right.counted; ahead = λ more. absurd (idle_behind n link idle right more) })
    (record { least = right.least; most = right.most; counted = right.counted; ahead = λ more. absurd (idle_behind n link idle right more) })

-- what was served last made an entry and was answered: it is a commit
pub made_commit : (link : Link) (reply : Reply) → Known link → (last : IsLast link reply) → last_served_made link ≡ true → is_commit last.one.served.item ≡ true
made_commit link reply known last made =
    let here : (made_entry last.one.served.item && (is_commit_call last.one.sent && option_map_or (same_sent last.one.sent) (out_frame link) false)) ≡ true =
    subst (λ (f : Option Handled). option_map_or (λ one. made_entry one.served.item && (is_commit_call one.sent && option_map_or (same_sent one.sent) (out_frame link) false)) f false ≡ true) last.last made in
    by (or_cases (is_commit last.one.served.item) (is_stopped_call last.one.served.item) (and_parts (made_entry last.one.served.item) _ here).0)
  where
    by : (is_commit last.one.served.item ≡ true) ⊎ (is_stopped_call last.one.served.item ≡ true) → is_commit last.one.served.item ≡ true
    by (inl commit) = commit
    by (inr stopped) =
        let was = last_was link reply known last in
        absurd (some_not last.one.reply last.frame last.replied (stopped_silent was.0 last.one was.1 stopped))

-- so it was answered with an identifier
made_told : (link : Link) (reply : Reply) → Known link → IsLast link reply → last_served_made link ≡ true → is_some (told_by (Took reply.frame true)) ≡ true
made_told link reply known last made =
    let was = last_was link reply known last in
    let told : is_told last.one.reply ≡ true = commit_told was.0 last.one was.1 (made_commit link reply known last made) in
    down_told reply.frame last.frame last.same (subst (λ (r : Option Down). is_told r ≡ true) last.replied told)

counted_most : (n commits : ℕ) (stopped : Bool) → ((n == commits) || ((n == commits + 1) && stopped)) ≡ true → stopped ≡ false → n ≡ commits
counted_most n commits stopped is none = by (or_cases (n == commits) ((n == commits + 1) && stopped) is)
  where
    by : ((n == commits) ≡ true) ⊎ (((n == commits + 1) && stopped) ≡ true) → n ≡ commits
    by (inl same) = eq_from n commits same
    by (inr more) = true_false stopped (and_parts (n == commits + 1) stopped more).1 none

-- behind a reply the session is not ahead
record Behind (n : ℕ) (held : Option Ltxid) : Type 0 where
  least : option_map_or (λ x. x.number) held 0 ≤ n
  most : n ≤ option_map_or (λ x. x.number) held 0 + (if is_some held then 1 else 0)
  level : n ≡ option_map_or (λ x. x.number) held 0 + 1 → ⊥

taken_behind : (n : ℕ) (link : Link) (reply : Reply) (left : List Reply) (alive : Bool) (tells : Option Ltxid) → told_by (Took reply.frame true) ≡ tells → Known link → Right n link → link.down ≡ reply ∷ left → Behind n (option_or tells link.held)
taken_behind n link reply left alive (Some x) tell known right down =
    let last = taken_last link reply left known down in
    let number : x.number ≡ link.commits = taken_number link reply x known last tell in
    let count : n ≡ link.commits = counted_most n link.commits (last_is_stopped_commit link) right.counted (not_stopped link reply known last) in
    record { least = omega arith; most = omega arith; level = λ more. let never : ⊥ = omega (arith, number, count, more) in never }
taken_behind n link reply left alive None tell known right down = record {
  least = right.least;
  most = right.most;
  level = λ more.
      let last = taken_last link reply left known down in
      let told : is_some (told_by (Took reply.frame true)) ≡ true = made_told link reply known last (right.ahead more).1 in
      true_false (is_some (told_by (Took reply.frame true))) told (ap is_some tell);
}

pub taken_right : (n event : ℕ) (frames : List Sent) (link : Link) (reply : Reply) (left : List Reply) → Known link → Right n link → link.down ≡ reply ∷ left → Right n (sends event frames (takes (Took reply.frame link.is_open) reply left link))
taken_right n event frames link reply left known right down =
    sends_alike (Right n) event frames (takes (Took reply.frame link.is_open) reply left link)
    (record { least = behind.least; most = behind.most; counted = right.counted; ahead = λ more. absurd (behind.level more) })
    (record { least = behind.least; most = behind.most; counted = right.counted; ahead = λ more. absurd (behind.level more) })
  where
    behind : Behind n (option_or (told_by (Took reply.frame link.is_open)) link.held)
    behind = subst (λ (tells : Option Ltxid). Behind n (option_or tells link.held)) (sym (told_alive reply.frame link.is_open)) (taken_behind n link reply left link.is_open (told_by (Took reply.frame true)) refl known right down)

-- WITHOUT A FRAME SERVED --------------------------------------------------------------------------

any_front : (xs zs : List Sent) → Begins xs zs → list_any is_commit_call zs ≡ false → list_any is_commit_call xs ≡ false
any_front xs zs begins none =
    (or_parts (list_any is_commit_call xs) (list_any is_commit_call begins.rest) (sym (list_any-append is_commit_call xs begins.rest) ∙ (ap (list_any is_commit_call) begins.whole ∙ none))).0

pub cut_right : (n event up down : ℕ) (link : Link) → link.is_open ≡ true → Right n link → Right n (cut_link event up down link)
cut_right n event up down link opens right =
    cut_case (Right n) event up down link opens
    (record { least = right.least; most = right.most; counted = right.counted; ahead = λ more. let old = right.ahead more in (old.0, old.1, any_front _ link.up (whole_begins _ up link.up) old.2) })

pub reaped_right : (n : ℕ) (link : Link) → Right n link → Right n (reaped_link link)
reaped_right n link right = record { least = right.least; most = right.most; counted = right.counted; ahead = right.ahead }

pub fallen_right : (n event : ℕ) (link : Link) → Right n link → Right n (fallen_link event link)
fallen_right n event link right =
    fallen_case (Right n) event link (λ opens. record { least = right.least; most = right.most; counted = right.counted; ahead = λ more. let old = right.ahead more in (old.0, old.1, refl) })
    (λ closed. record { least = right.least; most = right.most; counted = right.counted; ahead = λ more. let old = right.ahead more in (old.0, old.1, refl) })
