-- Of a connection, by how many entries its session has: what is held, what is counted, and what is
-- out where the session is ahead of what is held.
use Rattle.std.proofs.Common.{◌≡◌, refl, sym, ap, subst, ◌∙◌, Bool, true, false, ℕ, ◌+◌, ◌≤◌, ◌&&◌, length, length-append, List, [], ◌∷◌, ◌++◌, count_by, Option, Some, None, arith, if◌then◌else◌}
use Rattle.std.specs.Prelude.{◌==◌, ◌||◌, nat_le, is_none, option_map}
use Rattle.std.specs.List.{list_any, last_or}
use Rattle.std.specs.Option.{option_map_or}
use Rattle.std.proofs.lemmas.Bool.{and_parts}
use Rattle.svc_values.specs.declared.entry.Ltxid.{Ltxid}
use Rattle.svc_values.specs.declared.frame.Up.{Up}
use Rattle.svc_values.specs.declared.frame.Up.TheVariants as up
use Rattle.svc_values.specs.declared.frame.Down.{Down}
use Rattle.client_model.specs.declared.input.Input.TheVariants.{Took}
use Rattle.world_model.specs.meaning.Frames.{Sent, Reply, Handled}
use Rattle.world_model.specs.meaning.Links.{Link, told_by}
use Rattle.world_model.specs.records.Wire.{replies_of, is_sent_front, is_reply_front, handled_from, is_handled, one_is_out}
use Rattle.world_model.specs.Sames.{same_sent, same_down, same_reply, is_front}
use Rattle.world_model.specs.records.Number.{cond_held, is_told as tells_held, is_stopped_call, last_is_stopped_commit, last_served_made, served_near}
use Rattle.world_model.specs.Parts.{is_rep, is_answered, is_out, is_commit_frame, is_commit_call, served_reps, held_number}
use Rattle.world_model.proofs.events.Lists.{none_of}
use Rattle.world_model.proofs.events.Tests.{eq_from, le_from, none_first}
use Rattle.world_model.proofs.wire.FrontLists.{last_kept, last_pushed, last_alike}
use Rattle.world_model.proofs.wire.LinkHandled.{commits_behind, is_commit_of, behind_is}
use Rattle.world_model.proofs.basic.LinkLives.{counts_commits}
use Rattle.world_model.proofs.number.LinkNumbers.{rep_of, given_by, stopped_silent, last_given, last_numbered, last_handled}
use Rattle.world_model.proofs.number.RepliesRise.{has_number, opt_number, same_number}
use Rattle.world_model.proofs.number.ServedNear.{few_replies, front_long}

-- WHAT IS KNOWN -----------------------------------------------------------------------------------

pub record Known (link : Link) : Type 0 where
  pub sent : is_sent_front link ≡ true
  pub replies : is_reply_front link ≡ true
  pub handled : handled_from 0 link.served ≡ true
  pub out : one_is_out link ≡ true
  pub near : served_near link ≡ true
  pub counts : counts_commits link ≡ true
  pub held : tells_held link ≡ true

-- the session has so many entries: as many as what is held says, or one more, which is that of what
-- is out
pub record Right (n : ℕ) (link : Link) : Type 0 where
  pub least : held_number link ≤ n
  pub most : n ≤ held_number link + cond_held link
  pub counted : ((n == link.commits) || ((n == link.commits + 1) && last_is_stopped_commit link)) ≡ true
  pub ahead : n ≡ held_number link + 1 → (is_out link ≡ true) × (last_served_made link ≡ true) × (list_any is_commit_call link.up ≡ false)

pub commits_all : (link : Link) → Known link → commits_behind 0 link.served ≡ link.commits
commits_all link known =
    let commits : link.commits ≡ count_by is_commit_of link.served = eq_from link.commits (count_by is_commit_of link.served) known.counts in
    let behind : commits_behind 0 link.served ≡ 0 + count_by is_commit_of link.served = behind_is 0 link.served in
    omega arith

pub extra_few : (held : Bool) → (if held then 1 else 0) ≤ 1
extra_few true = omega arith
extra_few false = omega arith

-- A REPLY THAT IS TAKEN ---------------------------------------------------------------------------

-- it is that of the answered frame that was served last
pub record IsLast (link : Link) (reply : Reply) : Type 0 where
  pub one : Handled
  pub last : last_or None (served_reps link) ≡ Some one
  pub frame : Down
  pub replied : one.reply ≡ Some frame
  pub same : same_down reply.frame frame ≡ true

given_some : (link : Link) (reply z : Reply) (found : Option Handled) → last_or None (served_reps link) ≡ found → given_by found ≡ Some z → same_reply reply z ≡ true → IsLast link reply
given_some link reply z None is given same = absurd (let none : ⊥ = cc in none)
given_some link reply z (Some one) is given same = by one.reply refl given
  where
    by : (found : Option Down) → one.reply ≡ found → option_map (λ frame. record { to = one.sent; frame = frame }) found ≡ Some z → IsLast link reply
    by None none given = absurd (let never : ⊥ = cc in never)
    by (Some frame) some given =
        let equal : record { to = one.sent; frame = frame } ≡ z = cc in
        let down : same_down reply.frame z.frame ≡ true = (and_parts (same_sent reply.to z.to) (same_down reply.frame z.frame) same).1 in
        record { one = one; last = is; frame = frame; replied = some; same = subst (λ (r : Reply). same_down reply.frame r.frame ≡ true) (sym equal) down }

pub taken_last : (link : Link) (reply : Reply) (left : List Reply) → Known link → link.down ≡ reply ∷ left → IsLast link reply
taken_last link reply left known down =
    let front : is_front same_reply (link.taken ++ reply ∷ left) (replies_of link) ≡ true =
    subst (λ (d : List Reply). is_front same_reply (link.taken ++ d) (replies_of link) ≡ true) down (and_parts (is_front same_reply (link.taken ++ link.down) (replies_of link)) _ known.replies).0 in
    let got : length (link.taken ++ reply ∷ left) ≤ length (replies_of link) = front_long same_reply (link.taken ++ reply ∷ left) (replies_of link) front in
    let split : length (link.taken ++ reply ∷ left) ≡ length link.taken + length (reply ∷ left) = length-append link.taken (reply ∷ left) in
    let few : length (replies_of link) ≤ length (served_reps link) = few_replies 0 link.served known.handled in
    let most : length (served_reps link) ≤ length link.taken + 1 = le_from (length (served_reps link)) (length link.taken + 1) (and_parts (nat_le (length link.taken) (length (served_reps link))) (nat_le (length (served_reps link)) (length link.taken + 1)) known.near).1 in
    let more : length (reply ∷ left) ≡ length left + 1 = omega arith in
    let none : left ≡ [] = none_of left (omega arith) in
    let all : length (replies_of link) ≡ length (served_reps link) = omega arith in
    let alone : is_front same_reply (link.taken ++ reply ∷ []) (replies_of link) ≡ true = subst (λ (d : List Reply). is_front same_reply (link.taken ++ reply ∷ d) (replies_of link) ≡ true) none front in
    let short : length (link.taken ++ reply ∷ []) ≡ length link.taken + 1 = length-append link.taken (reply ∷ []) in
    let long : length (link.taken ++ reply ∷ []) ≡ length (replies_of link) = omega arith in
    let z = last_alike same_reply None None (link.taken ++ reply ∷ []) (replies_of link) reply alone long (λ y never. none_first y never) (last_pushed None link.taken reply) in
    let given : last_or None (replies_of link) ≡ given_by (last_or None (served_reps link)) = last_given 0 link.served None None known.handled all refl in
    let so : given_by (last_or None (served_reps link)) ≡ Some z.0 = sym given ∙ z.1.0 in
    given_some link reply z.0 (last_or None (served_reps link)) refl so z.1.1

-- it has the number of what the session committed
pub taken_number : (link : Link) (reply : Reply) (x : Ltxid) → Known link → IsLast link reply → told_by (Took reply.frame true) ≡ Some x → x.number ≡ link.commits
taken_number link reply x known last tells =
    let number : opt_number (commits_behind 0 link.served) last.one.reply ≡ true = last_numbered 0 link.served None last.one known.handled (λ h never. absurd (let no : ⊥ = cc in no)) last.last in
    let framed : has_number (commits_behind 0 link.served) last.frame ≡ true = subst (λ (r : Option Down). opt_number (commits_behind 0 link.served) r ≡ true) last.replied number in
    let mine : has_number (commits_behind 0 link.served) reply.frame ≡ true = same_number (commits_behind 0 link.served) reply.frame last.frame last.same framed in
    eq_from x.number (commits_behind 0 link.served) (subst (λ (f : Option Ltxid). option_map_or (λ y. y.number == commits_behind 0 link.served) f true ≡ true) tells mine) ∙ commits_all link known

pub some_not : (reply : Option Down) (frame : Down) → reply ≡ Some frame → is_none reply ≡ true → ⊥
some_not None frame is none = let no : ⊥ = cc in no
some_not (Some one) frame is none = let no : ⊥ = cc in no

pub last_was : (link : Link) (reply : Reply) → Known link → (last : IsLast link reply) → (n : ℕ) × (is_handled n last.one ≡ true)
last_was link reply known last = last_handled 0 link.served None last.one known.handled (λ h never. absurd (let no : ⊥ = cc in no)) last.last

-- a commit call is answered
pub commit_rep : (sent : Sent) → is_commit_call sent ≡ true → is_rep sent ≡ true
commit_rep sent is = by sent.frame is
  where
    by : (frame : Up) → is_commit_frame frame ≡ true → is_answered frame ≡ true
    by up.Connect is = refl
    by (up.Call replay kept called) is = refl
    by (up.Outcome x) is = refl
    by (up.Begin settings) is = absurd (let none : ⊥ = cc in none)
    by up.End is = absurd (let none : ⊥ = cc in none)
    by up.Close is = absurd (let none : ⊥ = cc in none)

-- what has a reply was not stopped
pub not_stopped : (link : Link) (reply : Reply) → Known link → IsLast link reply → last_is_stopped_commit link ≡ false
not_stopped link reply known last = by (last_or None link.served) refl
  where
    by : (found : Option Handled) → last_or None link.served ≡ found → option_map_or (λ one. is_stopped_call one.served.item && is_commit_call one.sent) found false ≡ false
    by None is = refl
    by (Some one) is = test (is_stopped_call one.served.item) (is_commit_call one.sent) refl refl
      where
        test : (stopped commit : Bool) → is_stopped_call one.served.item ≡ stopped → is_commit_call one.sent ≡ commit → (stopped && commit) ≡ false
        test false commit a b = refl
        test true false a b = refl
        test true true a b =
            let rep : is_rep one.sent ≡ true = commit_rep one.sent b in
            let kept : last_or None (served_reps link) ≡ last_or None link.served = last_kept rep_of None None link.served (λ never. refl) (ap (λ (f : Option Handled). option_map_or rep_of f false) is ∙ rep) in
            let equal : Some last.one ≡ Some one = sym last.last ∙ (kept ∙ is) in
            let same : last.one ≡ one = cc in
            let was = last_was link reply known last in
            absurd (some_not last.one.reply last.frame last.replied (stopped_silent was.0 last.one was.1 (ap (λ (h : Handled). is_stopped_call h.served.item) same ∙ a)))
