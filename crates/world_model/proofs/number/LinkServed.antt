-- Of a connection whose first frame is served: its session stays as far ahead of what is held as
-- what is out explains.
use Rattle.std.proofs.Common.{◌≡◌, refl, sym, ap, subst, ◌∙◌, Bool, true, false, ◌+◌, ◌≤◌, ◌&&◌, cond, length, length-append, List, [], ◌∷◌, ◌++◌, map, filter, Option, Some, None, arith}
use Rattle.std.specs.Prelude.{◌==◌, ◌||◌, nat_le, is_some, is_none}
use Rattle.std.specs.List.{list_any, last_or}
use Rattle.std.specs.Option.{option_map_or}
use Rattle.std.proofs.lemmas.Bool.{and_parts, and_from}
use Rattle.std.proofs.lemmas.List.{append-nil, length-map}
use Rattle.std.proofs.lemmas.List.Elements.{filter-append}
use Rattle.std.proofs.lemmas.List.Sums.{length-filter}
use Rattle.svc_values.specs.declared.entry.Ltxid.{Ltxid}
use Rattle.svc_values.specs.declared.entry.SessionId.{SessionId}
use Rattle.svc_values.specs.meaning.Same.{same_bool}
use Rattle.world_model.specs.records.Basic.{is_named, first_is_connect}
use Rattle.world_model.specs.meaning.Frames.{Sent, Reply, Handled}
use Rattle.world_model.specs.meaning.Links.{Link}
use Rattle.world_model.specs.records.Wire.{up_of, replies_of, is_sent_front, is_fresh}
use Rattle.world_model.specs.Sames.{same_sent, same_reply, is_front}
use Rattle.world_model.specs.records.Number.{last_told, made_entry}
use Rattle.world_model.specs.Parts.{is_rep, count_reps, is_out, out_frame, is_commit_call, served_reps, held_number, implies}
use Rattle.world_model.proofs.events.Lists.{none_of}
use Rattle.world_model.proofs.events.Tests.{eq_from, eq_to, le_from, none_first}
use Rattle.world_model.proofs.wire.FrontLists.{front_filter, last_pushed, last_alike}
use Rattle.world_model.proofs.hold.HeldAgain.{told_same}
use Rattle.world_model.proofs.number.LinkNumbers.{rep_of, all_told, alike_told}
use Rattle.world_model.proofs.number.LinkCounts.{Known, commits_all, commit_rep}
use Rattle.world_model.proofs.wire.LinkOrder.{same_reps}
use Rattle.world_model.proofs.number.ServedNear.{few_replies, front_long, reps_sent}

-- AN ANSWERED FRAME -------------------------------------------------------------------------------

-- the answered frame that is served next is what is out, and all before it were answered
pub record IsNext (link : Link) (first : Sent) (later : List Sent) : Type 0 where
  pub level : held_number link ≡ link.commits
  pub out : is_out link ≡ true
  pub same : option_map_or (same_sent first) (out_frame link) false ≡ true
  pub none : filter is_rep later ≡ []

found_same : (first : Sent) (found : Option Sent) (z : Sent) → found ≡ Some z → same_sent first z ≡ true → option_map_or (same_sent first) found false ≡ true
found_same first found z is same = ap (λ (f : Option Sent). option_map_or (same_sent first) f false) is ∙ same

kept_one : (first : Sent) (rest : List Sent) (test : Bool) → test ≡ true → cond test (first ∷ rest) rest ≡ first ∷ rest
kept_one first rest true is = refl
kept_one first rest false is = absurd (let none : ⊥ = cc in none)

-- the answered frames among what was served and may be served
split_reps : (link : Link) (first : Sent) (later : List Sent) → link.up ≡ first ∷ later → is_rep first ≡ true → filter is_rep (up_of link) ≡ filter is_rep (map (λ one. one.sent) link.served) ++ first ∷ filter is_rep later
split_reps link first later ups rep =
    filter-append is_rep (map (λ (one : Handled). one.sent) link.served) link.up
    ∙ ap (λ (rest : List Sent). filter is_rep (map (λ (one : Handled). one.sent) link.served) ++ rest) (ap (filter is_rep) ups ∙ kept_one first (filter is_rep later) (is_rep first) rep)

-- where each reply was taken, what is held counts what was committed
pub all_level : (link : Link) → Known link → length link.taken ≡ length (replies_of link) → held_number link ≡ link.commits
all_level link known all =
    let front : is_front same_reply (link.taken ++ link.down) (replies_of link) ≡ true = (and_parts (is_front same_reply (link.taken ++ link.down) (replies_of link)) _ known.replies).0 in
    let got : length (link.taken ++ link.down) ≤ length (replies_of link) = front_long same_reply (link.taken ++ link.down) (replies_of link) front in
    let sum : length (link.taken ++ link.down) ≡ length link.taken + length link.down = length-append link.taken link.down in
    let none : link.down ≡ [] = none_of link.down (omega (arith, all, got, sum)) in
    let alone : is_front same_reply link.taken (replies_of link) ≡ true =
    subst (λ (replies : List Reply). is_front same_reply replies (replies_of link) ≡ true) (ap (λ (d : List Reply). link.taken ++ d) none ∙ append-nil link.taken) front in
    sym (told_same (last_told link.taken) link.held known.held) ∙ (alike_told None None link.taken (replies_of link) alone all refl ∙ (all_told 0 None link.served known.handled refl ∙ commits_all link known))

module _ (link : Link) (first : Sent) (later : List Sent) (known : Known link) (ups : link.up ≡ first ∷ later) (rep : is_rep first ≡ true) where
  abbrev before : List Sent
  before = filter is_rep (map (λ (one : Handled). one.sent) link.served)

  abbrev sents : List Sent
  sents = before ++ first ∷ filter is_rep later

  front_sents : is_front same_sent sents (filter is_rep link.sent) ≡ true
  front_sents =
      subst (λ (all : List Sent). is_front same_sent all (filter is_rep link.sent) ≡ true) (split_reps link first later ups rep)
      (front_filter same_sent is_rep same_reps (up_of link) link.sent (and_parts (is_front same_sent (up_of link) link.sent) _ known.sent).0)

  -- lengths
  long_sents : length sents ≤ length (filter is_rep link.sent)
  long_sents = front_long same_sent sents (filter is_rep link.sent) front_sents

  sum_sents : length sents ≡ length before + (length (filter is_rep later) + 1)
  sum_sents =
      let split : length sents ≡ length before + length (first ∷ filter is_rep later) = length-append before (first ∷ filter is_rep later) in
      let more : length (first ∷ filter is_rep later) ≡ length (filter is_rep later) + 1 = omega arith in
      omega arith

  same_served : length (served_reps link) ≡ length before
  same_served = reps_sent link.served

  count_sent : length (filter is_rep link.sent) ≡ count_reps link.sent
  count_sent = length-filter is_rep link.sent

  most_sent : count_reps link.sent ≤ length link.taken + 1
  most_sent = le_from (count_reps link.sent) (length link.taken + 1) (and_parts (nat_le (length link.taken) (count_reps link.sent)) (nat_le (count_reps link.sent) (length link.taken + 1)) known.out).1

  front_taken : is_front same_reply (link.taken ++ link.down) (replies_of link) ≡ true
  front_taken = (and_parts (is_front same_reply (link.taken ++ link.down) (replies_of link)) _ known.replies).0

  got_taken : length (link.taken ++ link.down) ≤ length (replies_of link)
  got_taken = front_long same_reply (link.taken ++ link.down) (replies_of link) front_taken

  sum_taken : length (link.taken ++ link.down) ≡ length link.taken + length link.down
  sum_taken = length-append link.taken link.down

  few_taken : length (replies_of link) ≤ length (served_reps link)
  few_taken = few_replies 0 link.served known.handled

  all_taken : length link.taken ≡ length (replies_of link)
  all_taken = omega (arith, long_sents, sum_sents, same_served, count_sent, most_sent, got_taken, sum_taken, few_taken)

  none_later : filter is_rep later ≡ []
  none_later = let zero : length (filter is_rep later) ≡ 0 = omega (arith, long_sents, sum_sents, same_served, count_sent, most_sent, got_taken, sum_taken, few_taken) in none_of (filter is_rep later) zero

  pub is_next : IsNext link first later
  is_next =
      let out : count_reps link.sent ≡ length link.taken + 1 = omega (arith, long_sents, sum_sents, same_served, count_sent, most_sent, got_taken, sum_taken, few_taken) in
      let long : length sents ≡ length (filter is_rep link.sent) = omega (arith, long_sents, sum_sents, same_served, count_sent, most_sent, got_taken, sum_taken, few_taken) in
      let last : last_or None sents ≡ Some first = ap (λ (rest : List Sent). last_or None (before ++ first ∷ rest)) none_later ∙ last_pushed None before first in
      let z = last_alike same_sent None None sents (filter is_rep link.sent) first front_sents long (λ y never. none_first y never) last in
      record { level = all_level link known all_taken; out = eq_to (count_reps link.sent) (length link.taken + 1) out; same = found_same first (out_frame link) z.0 z.1.0 z.1.1; none = none_later }

-- no commit call is among frames without an answer
pub none_commits : (later : List Sent) → filter is_rep later ≡ [] → list_any is_commit_call later ≡ false
none_commits [] none = refl
none_commits (sent ∷ later) none = by (is_commit_call sent) (is_rep sent) refl refl none (λ rest. none_commits later rest)
  where
    by : (commit rep : Bool) → is_commit_call sent ≡ commit → is_rep sent ≡ rep → cond rep (sent ∷ filter is_rep later) (filter is_rep later) ≡ [] → (filter is_rep later ≡ [] → list_any is_commit_call later ≡ false) → (commit || list_any is_commit_call later) ≡ false
    by commit true a b none again = absurd (let never : ⊥ = cc in never)
    by true false a b none again = absurd (let yes_is : is_rep sent ≡ true = commit_rep sent a in let never : ⊥ = cc in never)
    by false false a b none again = again none

-- ONE ITEM MORE -----------------------------------------------------------------------------------

served_more : (served : List Handled) (one : Handled) → filter rep_of (served ++ one ∷ []) ≡ filter rep_of served ++ cond (rep_of one) (one ∷ []) []
served_more served one = filter-append rep_of served (one ∷ [])

last_more : (served : List Handled) (one : Handled) → rep_of one ≡ true → last_or None (filter rep_of (served ++ one ∷ [])) ≡ Some one
last_more served one rep = ap (last_or None) (served_more served one ∙ ap (λ (test : Bool). filter rep_of served ++ cond test (one ∷ []) []) rep) ∙ last_pushed None (filter rep_of served) one

pub last_before : (served : List Handled) (one : Handled) → rep_of one ≡ false → last_or None (filter rep_of (served ++ one ∷ [])) ≡ last_or None (filter rep_of served)
last_before served one rep = ap (last_or None) (served_more served one ∙ (ap (λ (test : Bool). filter rep_of served ++ cond test (one ∷ []) []) rep ∙ append-nil (filter rep_of served)))

-- the test on what was served last
abbrev pub made_test : Option Sent → Option Handled → Bool
made_test out found = option_map_or (λ one. made_entry one.served.item && (is_commit_call one.sent && option_map_or (same_sent one.sent) out false)) found false

pub made_now : (out : Option Sent) (served : List Handled) (one : Handled) → rep_of one ≡ true → made_entry one.served.item ≡ true → is_commit_call one.sent ≡ true → option_map_or (same_sent one.sent) out false ≡ true → made_test out (last_or None (filter rep_of (served ++ one ∷ []))) ≡ true
made_now out served one rep made commit same =
    ap (made_test out) (last_more served one rep) ∙ and_from (made_entry one.served.item) (is_commit_call one.sent && option_map_or (same_sent one.sent) out false) made (and_from (is_commit_call one.sent) (option_map_or (same_sent one.sent) out false) commit same)

-- where nothing was held nothing but Connect is served
pub held_some : (link : Link) (session : SessionId) (first : Sent) (later : List Sent) → is_named link ≡ true → link.session ≡ Some session → link.up ≡ first ∷ later → is_sent_front link ≡ true → is_fresh link ≡ true → is_some link.held ≡ true
held_some link session first later named has ups sent fresh = by link.held refl
  where
    some_served : (found : Option SessionId) (served : List Handled) → found ≡ Some session → same_bool (is_some found) (first_is_connect served) ≡ true → 1 ≤ length served
    some_served None served is same = absurd (let none : ⊥ = cc in none)
    some_served (Some one) [] is same = absurd (let none : ⊥ = cc in none)
    some_served (Some one) (h ∷ served) is same = let more : 1 ≤ length (h ∷ served) = omega arith in more

    by : (held : Option Ltxid) → link.held ≡ held → is_some link.held ≡ true
    by (Some x) is = ap is_some is
    by None is =
        let one : length link.sent ≡ 1 = eq_from (length link.sent) 1 (subst (λ (h : Option Ltxid). implies (is_none h) (length link.sent == 1) ≡ true) is fresh) in
        let served : 1 ≤ length link.served = some_served link.session link.served has (and_parts (same_bool (is_some link.session) (first_is_connect link.served)) _ named).0 in
        let front : length (up_of link) ≤ length link.sent = front_long same_sent (up_of link) link.sent (and_parts (is_front same_sent (up_of link) link.sent) _ sent).0 in
        let sum : length (up_of link) ≡ length (map (λ (h : Handled). h.sent) link.served) + length link.up = length-append (map (λ (h : Handled). h.sent) link.served) link.up in
        let mapped : length (map (λ (h : Handled). h.sent) link.served) ≡ length link.served = length-map link.served (λ (h : Handled). h.sent) in
        let some : length link.up ≡ length later + 1 = ap length ups ∙ (let more : length (first ∷ later) ≡ length later + 1 = omega arith in more) in
        absurd (let never : ⊥ = omega arith in never)
