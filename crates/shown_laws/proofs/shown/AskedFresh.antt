-- Where a connection was opened last, or an outcome asked, its session has committed nothing: so
-- says the identifier that is held on it.
use Rattle.std.proofs.Common.{◌≡◌, refl, sym, ap, subst, ◌∙◌, Bool, true, false, ℕ, ◌+◌, ◌≤◌, ◌&&◌, List, [], ◌∷◌, ◌++◌, append-nil, map, count_by, Option, Some, None, ◌⊎◌, inl, inr, arith, if◌then◌else◌}
use Rattle.std.specs.Prelude.{◌==◌, not, nat_le, is_none}
use Rattle.std.specs.List.{list_all, last_or}
use Rattle.std.specs.Option.{option_map_or}
use Rattle.std.proofs.lemmas.Bool.{and_parts, and_from, or_cases}
use Rattle.std.proofs.lemmas.List.Folds.{list_all-append}
use Rattle.svc_values.specs.declared.frame.Up.{Up}
use Rattle.svc_values.specs.declared.frame.Up.TheVariants as up
use Rattle.outage_schedule.specs.declared.item.Item.{Item}
use Rattle.outage_schedule.specs.declared.item.Item.TheVariants as item
use Rattle.world_model.specs.meaning.Crashing.{is_crashed_item}
use Rattle.world_model.specs.meaning.Frames.{Sent, Handled}
use Rattle.world_model.specs.Orderly.{Orderly}
use Rattle.world_model.specs.meaning.Links.{Link, link_at}
use Rattle.world_model.specs.records.Number.{is_near, is_counted, is_stopped_call, last_is_stopped_commit, cond_held}
use Rattle.world_model.specs.Parts.{number_of, held_number, is_commit_frame, is_commit_call}
use Rattle.world_model.specs.Sames.{same_owners, same_up, same_sent, is_front}
use Rattle.world_model.specs.meaning.Serving.{is_item_of, is_commit, reply_of}
use Rattle.invariant_laws.specs.Shown.{is_call}
use Rattle.world_model.specs.Traced.{Traced}
use Rattle.world_model.specs.records.Wire.{up_of, is_sent_front, same_replies, is_handled, counted_with, handled_from, stage_of, is_right}
use Rattle.world_model.proofs.Offered.{at_link, commits_behind, is_commit_of, behind_is, counts_commits, crashed_commits, last_all, eq_from, le_from}
use Rattle.invariant_laws.proofs.Offered.{front_all, is_opening, opening_calls}

-- FRAMES WITHOUT A CALL ---------------------------------------------------------------------------

abbrev no_call : Sent → Bool
no_call sent = not (is_call sent.frame)

same_call_up : (a b : Up) → same_up a b ≡ true → not (is_call b) ≡ true → not (is_call a) ≡ true
same_call_up (up.Call mark kept call) (up.Call other some_kept called) same is = is
same_call_up (up.Call mark kept call) _ same is = absurd (let none : ⊥ = cc in none)
same_call_up _ _ same is = refl

alike : (a b : Sent) → same_sent a b ≡ true → no_call b ≡ true → no_call a ≡ true
alike a b same is = same_call_up a.frame b.frame (and_parts (a.call == b.call) (same_up a.frame b.frame) (and_parts (same_owners a.owner b.owner) ((a.call == b.call) && same_up a.frame b.frame) same).1).1 is

all_mapped : (served : List Handled) → list_all no_call (map (λ (one : Handled). one.sent) served) ≡ true → list_all (λ one. no_call one.sent) served ≡ true
all_mapped [] all = refl
all_mapped (one ∷ served) all =
    let parts = and_parts (no_call one.sent) (list_all no_call (map (λ (h : Handled). h.sent) served)) all in
    and_from (no_call one.sent) (list_all (λ (h : Handled). no_call h.sent) served) parts.0 (all_mapped served parts.1)

-- what was served is of what was sent
served_none : (link : Link) → is_sent_front link ≡ true → list_all no_call link.sent ≡ true → list_all (λ one. no_call one.sent) link.served ≡ true
served_none link front none =
    let all : list_all no_call (map (λ (one : Handled). one.sent) link.served ++ link.up) ≡ true = front_all no_call alike (up_of link) link.sent (and_parts (is_front same_sent (up_of link) link.sent) _ front).0 none in
    all_mapped link.served (and_parts (list_all no_call (map (λ (one : Handled). one.sent) link.served)) (list_all no_call link.up) (sym (list_all-append no_call (map (λ (one : Handled). one.sent) link.served) link.up) ∙ all)).0

-- only a call commits
item_plain : (frame : Up) (one : Item) → is_item_of frame one ≡ true → not (is_call frame) ≡ true → is_commit one ≡ false
item_plain (up.Call mark kept called) one its plain = absurd (let none : ⊥ = cc in none)
item_plain up.Connect item.Connect its plain = refl
item_plain (up.Begin settings) (item.Begin begun) its plain = refl
item_plain (up.Outcome x) (item.Outcome asked result) its plain = refl
item_plain up.End item.End its plain = refl
item_plain up.Close item.Close its plain = refl
item_plain frame one its plain = absurd (let none : ⊥ = cc in none)

plain_item : (commits : ℕ) (one : Handled) → is_handled commits one ≡ true → no_call one.sent ≡ true → is_commit one.served.item ≡ false
plain_item commits one handled plain =
    by (or_cases (is_item_of one.sent.frame one.served.item && same_replies one.reply (reply_of one.served.session commits one.served.item)) (is_crashed_item one.sent.frame one.served.item && is_none one.reply) handled)
  where
    by : ((is_item_of one.sent.frame one.served.item && same_replies one.reply (reply_of one.served.session commits one.served.item)) ≡ true) ⊎ ((is_crashed_item one.sent.frame one.served.item && is_none one.reply) ≡ true)
        → is_commit one.served.item ≡ false
    by (inl so) = item_plain one.sent.frame one.served.item (and_parts (is_item_of one.sent.frame one.served.item) (same_replies one.reply (reply_of one.served.session commits one.served.item)) so).0 plain
    by (inr so) = crashed_commits one.sent.frame one.served.item (and_parts (is_crashed_item one.sent.frame one.served.item) (is_none one.reply) so).0

-- so nothing is committed by them
behind_none : (commits : ℕ) (before rest : List Handled) → handled_from commits (before ++ rest) ≡ true → list_all (λ one. no_call one.sent) (before ++ rest) ≡ true → commits_behind commits before ≡ commits
behind_none commits [] rest handled plain = refl
behind_none commits (one ∷ before) rest handled plain =
    let now : ℕ = counted_with commits one.served.item in
    let first = and_parts (is_handled now one) (handled_from now (before ++ rest)) handled in
    let second = and_parts (no_call one.sent) (list_all (λ (h : Handled). no_call h.sent) (before ++ rest)) plain in
    let same : now ≡ commits = ap (λ (test : Bool). if test then commits + 1 else commits) (plain_item now one first.0 second.0) in
    behind_none now before rest first.1 second.1 ∙ same

-- THE CONNECTION ----------------------------------------------------------------------------------

-- nothing was committed by what was served, and the identifier held says so
pub record IsFresh (link : Link) : Type 0 where
  pub held : held_number link ≡ 0
  pub none : (before rest : List Handled) → link.served ≡ before ++ rest → commits_behind 0 before ≡ 0

never_commits : (frame : Up) → not (is_call frame) ≡ true → is_commit_frame frame ≡ true → ⊥
never_commits (up.Call mark kept call) plain is = let none : ⊥ = cc in none
never_commits up.Connect plain is = let none : ⊥ = cc in none
never_commits (up.Begin settings) plain is = let none : ⊥ = cc in none
never_commits (up.Outcome x) plain is = let none : ⊥ = cc in none
never_commits up.End plain is = let none : ⊥ = cc in none
never_commits up.Close plain is = let none : ⊥ = cc in none

no_stopped : (found : Option Handled) → ((one : Handled) → found ≡ Some one → no_call one.sent ≡ true) → option_map_or (λ one. is_stopped_call one.served.item && is_commit_call one.sent) found false ≡ true → ⊥
no_stopped None plain is = let none : ⊥ = cc in none
no_stopped (Some one) plain is = never_commits one.sent.frame (plain one refl) (and_parts (is_stopped_call one.served.item) (is_commit_call one.sent) is).1

pub opening_fresh : (t : Traced) → Orderly t → (number : ℕ) (link : Link) (last : Sent) → link_at t.machine.links number ≡ Some link → last_or None link.sent ≡ Some last → is_opening last.frame ≡ true → IsFresh link
opening_fresh t inv number link last there is opens = record { held = held_none; none = none }
  where
    plain : list_all (λ one. no_call one.sent) link.served ≡ true
    plain =
        served_none link (at_link is_sent_front t.machine.links number link inv.wire.sent there)
        (opening_calls link last is opens (at_link (λ l. is_right (stage_of l)) t.machine.links number link inv.wire.grammar there))

    handled : handled_from 0 link.served ≡ true
    handled = at_link (λ l. handled_from 0 l.served) t.machine.links number link inv.wire.handled there

    none : (before rest : List Handled) → link.served ≡ before ++ rest → commits_behind 0 before ≡ 0
    none before rest same =
        behind_none 0 before rest (subst (λ (l : List Handled). handled_from 0 l ≡ true) same handled) (subst (λ (l : List Handled). list_all (λ (one : Handled). no_call one.sent) l ≡ true) same plain)

    commits : link.commits ≡ 0
    commits =
        let counts : link.commits ≡ count_by is_commit_of link.served = eq_from link.commits (count_by is_commit_of link.served) (at_link counts_commits t.machine.links number link inv.basic.commits there) in
        let behind : commits_behind 0 link.served ≡ 0 + count_by is_commit_of link.served = behind_is 0 link.served in
        let all : commits_behind 0 link.served ≡ 0 = none link.served [] (sym (append-nil link.served)) in
        omega (arith, counts, behind, all)

    counted : ((number_of t.entries link == link.commits) ≡ true) ⊎ (((number_of t.entries link == link.commits + 1) && last_is_stopped_commit link) ≡ true) → number_of t.entries link ≡ 0
    counted (inl same) = eq_from (number_of t.entries link) link.commits same ∙ commits
    counted (inr stopped) =
        absurd
        (no_stopped (last_or None link.served) (λ one found. last_all (λ (h : Handled). no_call h.sent) link.served one found plain)
        (and_parts (number_of t.entries link == link.commits + 1) (last_is_stopped_commit link) stopped).1)

    held_none : held_number link ≡ 0
    held_none =
        let entries : number_of t.entries link ≡ 0 =
        counted (or_cases (number_of t.entries link == link.commits) ((number_of t.entries link == link.commits + 1) && last_is_stopped_commit link) (at_link (is_counted t) t.machine.links number link inv.number.counted there)) in
        let near : is_near t link ≡ true = at_link (is_near t) t.machine.links number link inv.number.near there in
        let least : held_number link ≤ number_of t.entries link = le_from (held_number link) (number_of t.entries link) (and_parts (nat_le (held_number link) (number_of t.entries link)) (nat_le (number_of t.entries link) (held_number link + cond_held link)) near).0 in
        omega (arith, entries, least)
