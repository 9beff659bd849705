-- A sending whose reply was taken is of a call that was shown; and what is told of one by its
-- identifier and place stays so.
use Rattle.std.proofs.Common.{◌≡◌, refl, Bool, true, false, ℕ, ◌+◌, ◌≤◌, ◌<◌, ◌&&◌, ◌||◌, cond, List, [], ◌∷◌, fold, Option, Some, None, ◌⊎◌, inl, inr, arith}
use Rattle.std.specs.Prelude.{is_some, nat_le, nat_lt}
use Rattle.std.specs.List.{list_all, list_any}
use Rattle.std.specs.Option.{option_or, option_map_or}
use Rattle.std.proofs.lemmas.Bool.{and_parts, and_from, or_cases, or_right, or_left}
use Rattle.svc_values.specs.declared.answer.Answer.{Answer}
use Rattle.svc_values.specs.declared.entry.Ltxid.{Ltxid}
use Rattle.svc_values.specs.declared.frame.Up.{Up}
use Rattle.svc_values.specs.declared.frame.Up.TheVariants as up
use Rattle.svc_values.specs.declared.frame.Down.TheVariants as down
use Rattle.client_model.specs.declared.act.Shown.{Shown}
use Rattle.client_model.specs.declared.input.Input.{Input}
use Rattle.client_model.specs.declared.input.Input.TheVariants.{Start, Waiting, Lent, Opened, TryFailed, Took, Gone}
use Rattle.world_model.specs.meaning.Clients.{Step}
use Rattle.world_model.specs.meaning.Links.{told_by}
use Rattle.world_model.specs.Parts.{Sending, Scan, with_taken, answered, sent_on, scanned, implies}
use Rattle.world_model.specs.Words.{brought}
use Rattle.world_model.proofs.Offered.{weaker_all, le_from, le_to, lt_from, lt_to, implies_more}

-- REPLIES -----------------------------------------------------------------------------------------

-- it is of a call up to these, and of one of these where its reply was taken
abbrev pub taken_among : ℕ → Sending → Bool
taken_among shown sending = nat_le sending.at shown && implies (is_some sending.taken) (nat_lt sending.at shown)

among_more : (a b : ℕ) → a ≤ b → (sending : Sending) → taken_among a sending ≡ true → taken_among b sending ≡ true
among_more a b least sending here =
    let parts = and_parts (nat_le sending.at a) (implies (is_some sending.taken) (nat_lt sending.at a)) here in
    and_from (nat_le sending.at b) (implies (is_some sending.taken) (nat_lt sending.at b)) (le_to sending.at b (let is : sending.at ≤ a = le_from sending.at a parts.0 in omega (arith, is, least)))
    (implies_more (is_some sending.taken) (nat_lt sending.at a) (nat_lt sending.at b) (λ less. lt_to sending.at b (let is : sending.at < a = lt_from sending.at a less in omega (arith, is, least))) parts.1)

all_more : (a b : ℕ) → a ≤ b → (sendings : List Sending) → list_all (taken_among a) sendings ≡ true → list_all (taken_among b) sendings ≡ true
all_more a b least sendings all = weaker_all (taken_among a) (taken_among b) sendings (among_more a b least) all

taken_more : (n : ℕ) (answers : List Answer) (sendings : List Sending) → list_all (taken_among n) sendings ≡ true → list_all (taken_among (n + 1)) (with_taken answers sendings) ≡ true
taken_more n answers [] all = refl
taken_more n answers (sending ∷ earlier) all =
    let parts = and_parts (taken_among n sending) (list_all (taken_among n) earlier) all in
    let at : sending.at ≤ n = le_from sending.at n (and_parts (nat_le sending.at n) _ parts.0).0 in
    and_from (taken_among (n + 1) (record sending { taken = Some answers })) (list_all (taken_among (n + 1)) earlier)
    (and_from (nat_le sending.at (n + 1)) (nat_lt sending.at (n + 1)) (le_to sending.at (n + 1) (omega (arith, at))) (lt_to sending.at (n + 1) (omega (arith, at)))) (all_more n (n + 1) (omega arith) earlier parts.1)

answered_among : (n m : ℕ) (input : Input) (shown : Option Shown) (sendings : List Sending) → n ≤ m → (is_some shown ≡ true → n + 1 ≤ m) → list_all (taken_among n) sendings ≡ true → list_all (taken_among m) (answered input shown sendings) ≡ true
answered_among n m (Took (down.Reply answers draws x) alive) (Some shown) sendings least more all = all_more (n + 1) m (more refl) (with_taken answers sendings) (taken_more n answers sendings all)
answered_among n m (Took (down.Reply answers draws x) alive) None sendings least more all = all_more n m least sendings all
answered_among n m (Took (down.Hello x) alive) shown sendings least more all = all_more n m least sendings all
answered_among n m (Took (down.OutcomeIs committed completed) alive) shown sendings least more all = all_more n m least sendings all
answered_among n m (Took (down.OutcomeRefused ahead horizon) alive) shown sendings least more all = all_more n m least sendings all
answered_among n m (Took down.Blocked alive) shown sendings least more all = all_more n m least sendings all
answered_among n m (Took (down.Refused cause) alive) shown sendings least more all = all_more n m least sendings all
answered_among n m Start shown sendings least more all = all_more n m least sendings all
answered_among n m Waiting shown sendings least more all = all_more n m least sendings all
answered_among n m (Lent connection ltxid) shown sendings least more all = all_more n m least sendings all
answered_among n m (Opened connection) shown sendings least more all = all_more n m least sendings all
answered_among n m TryFailed shown sendings least more all = all_more n m least sendings all
answered_among n m (Gone event) shown sendings least more all = all_more n m least sendings all

sent_among : (scan : Scan) (sendings : List Sending) (frame : Up) → list_all (taken_among scan.shown) sendings ≡ true → list_all (taken_among scan.shown) (sent_on scan sendings frame) ≡ true
sent_among scan sendings (up.Call false kept call) all = by scan.held
  where
    by : (held : Option Ltxid) → list_all (taken_among scan.shown) (option_map_or (λ x. record { owner = scan.owner; connection = scan.connection; ltxid = x; at = scan.shown; call = call; taken = None } ∷ sendings) held sendings) ≡ true
    by None = all
    by (Some x) = and_from (nat_le scan.shown scan.shown && true) (list_all (taken_among scan.shown) sendings) (and_from (nat_le scan.shown scan.shown) true (le_to scan.shown scan.shown (omega arith)) refl) all
sent_among scan sendings (up.Call true kept call) all = all
sent_among scan sendings up.Connect all = all
sent_among scan sendings (up.Begin settings) all = all
sent_among scan sendings (up.Outcome x) all = all
sent_among scan sendings up.End all = all
sent_among scan sendings up.Close all = all

frames_among : (scan : Scan) (frames : List Up) (sendings : List Sending) → list_all (taken_among scan.shown) sendings ≡ true → list_all (taken_among scan.shown) (fold (sent_on scan) sendings frames) ≡ true
frames_among scan [] sendings all = all
frames_among scan (frame ∷ frames) sendings all = frames_among scan frames (sent_on scan sendings frame) (sent_among scan sendings frame all)

counted_shown : (n : ℕ) (shown : Option Shown) → is_some shown ≡ true → n + 1 ≤ n + cond (is_some shown) 1 0
counted_shown n (Some shown) some = omega arith
counted_shown n None some = absurd (let none : ⊥ = cc in none)

pub scan_among : (scan : Scan) (steps : List Step) → list_all (taken_among scan.shown) scan.sendings ≡ true → list_all (taken_among (fold scanned scan steps).shown) (fold scanned scan steps).sendings ≡ true
scan_among scan [] all = all
scan_among scan (step ∷ steps) all =
    let more : ℕ = scan.shown + cond (is_some step.done.act.shown) 1 0 in
    let now : Scan = record {
      owner = scan.owner;
      connection = option_map_or (λ one. one) (brought step.done.input) scan.connection;
      held = option_or (told_by step.done.input) scan.held;
      shown = more;
      sendings = answered step.done.input step.done.act.shown scan.sendings;
    } in
    let least : scan.shown ≤ more = omega arith in
    scan_among (scanned scan step) steps
    (frames_among now step.done.act.send now.sendings (answered_among scan.shown more step.done.input step.done.act.shown scan.sendings least (counted_shown scan.shown step.done.act.shown) all))

-- WHAT STAYS --------------------------------------------------------------------------------------

module _ (test : Sending → Bool) (stays : (sending : Sending) (answers : List Answer) → test sending ≡ true → test (record sending { taken = Some answers }) ≡ true) where
  taken_any : (answers : List Answer) (sendings : List Sending) → list_any test sendings ≡ true → list_any test (with_taken answers sendings) ≡ true
  taken_any answers [] any = any
  taken_any answers (sending ∷ earlier) any = by (or_cases (test sending) (list_any test earlier) any)
    where
      by : (test sending ≡ true) ⊎ (list_any test earlier ≡ true) → (test (record sending { taken = Some answers }) || list_any test earlier) ≡ true
      by (inl here) = or_left (test (record sending { taken = Some answers })) (list_any test earlier) (stays sending answers here)
      by (inr later) = or_right (test (record sending { taken = Some answers })) (list_any test earlier) later

  pub answered_any : (input : Input) (shown : Option Shown) (sendings : List Sending) → list_any test sendings ≡ true → list_any test (answered input shown sendings) ≡ true
  answered_any (Took (down.Reply answers draws x) alive) (Some shown) sendings any = taken_any answers sendings any
  answered_any (Took (down.Reply answers draws x) alive) None sendings any = any
  answered_any (Took (down.Hello x) alive) shown sendings any = any
  answered_any (Took (down.OutcomeIs committed completed) alive) shown sendings any = any
  answered_any (Took (down.OutcomeRefused ahead horizon) alive) shown sendings any = any
  answered_any (Took down.Blocked alive) shown sendings any = any
  answered_any (Took (down.Refused cause) alive) shown sendings any = any
  answered_any Start shown sendings any = any
  answered_any Waiting shown sendings any = any
  answered_any (Lent connection ltxid) shown sendings any = any
  answered_any (Opened connection) shown sendings any = any
  answered_any TryFailed shown sendings any = any
  answered_any (Gone event) shown sendings any = any

  sent_any : (scan : Scan) (sendings : List Sending) (frame : Up) → list_any test sendings ≡ true → list_any test (sent_on scan sendings frame) ≡ true
  sent_any scan sendings (up.Call false kept call) any = by scan.held
    where
      by : (held : Option Ltxid) → list_any test (option_map_or (λ x. record { owner = scan.owner; connection = scan.connection; ltxid = x; at = scan.shown; call = call; taken = None } ∷ sendings) held sendings) ≡ true
      by None = any
      by (Some x) = or_right (test (record { owner = scan.owner; connection = scan.connection; ltxid = x; at = scan.shown; call = call; taken = None })) (list_any test sendings) any
  sent_any scan sendings (up.Call true kept call) any = any
  sent_any scan sendings up.Connect any = any
  sent_any scan sendings (up.Begin settings) any = any
  sent_any scan sendings (up.Outcome x) any = any
  sent_any scan sendings up.End any = any
  sent_any scan sendings up.Close any = any

  pub frames_any : (scan : Scan) (frames : List Up) (sendings : List Sending) → list_any test sendings ≡ true → list_any test (fold (sent_on scan) sendings frames) ≡ true
  frames_any scan [] sendings any = any
  frames_any scan (frame ∷ frames) sendings any = frames_any scan frames (sent_on scan sendings frame) (sent_any scan sendings frame any)
