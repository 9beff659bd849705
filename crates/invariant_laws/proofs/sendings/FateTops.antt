-- Of a request that runs: its last sending is what is out on its connection, and no other sending
-- of it is open under the identifier held there.
use Rattle.std.proofs.Common.{◌≡◌, refl, sym, ap, subst, ◌∙◌, Bool, true, false, ℕ, ◌&&◌, ◌||◌, filter, flat_map, fold, length, List, [], ◌∷◌, ◌++◌, Option, Some, None, ◌⊎◌, inl, inr, if◌then◌else◌}
use Rattle.std.specs.Prelude.{◌==◌, option_map}
use Rattle.std.specs.List.{list_all, list_any, last_or}
use Rattle.std.specs.Cmp.Lexicographic.{pointwise}
use Rattle.std.proofs.lemmas.Bool.{and_parts, and_from, or_left, or_right}
use Rattle.std.proofs.lemmas.List.Elements.{filter-append}
use Rattle.std.proofs.lemmas.List.Folds.{list_any-append}
use Rattle.svc_values.specs.declared.call.Call.{Call}
use Rattle.svc_values.specs.declared.frame.Up.{Up}
use Rattle.svc_values.specs.declared.frame.Up.TheVariants as up
use Rattle.svc_values.specs.meaning.Calls.{has_commit}
use Rattle.svc_values.specs.SameLaws.{same_call_decides}
use Rattle.client_model.specs.meaning.States.{Living}
use Rattle.client_model.specs.meaning.Talk.{next_call}
use Rattle.client_model.specs.meaning.Terms.{Talk, Phase, Idle, Running}
use Rattle.client_model.specs.meaning.Account.{unheard, after_step}
use Rattle.client_model.specs.meaning.Conversation.{Done}
use Rattle.client_model.specs.Conversation.{talk_after, steps_of}
use Rattle.client_model.proofs.Offered.{Fits, IsTalk, first_talks, last_talks, next_left}
use Rattle.world_model.specs.records.Conversing.{Talks, first_talk, inputs_of}
use Rattle.world_model.specs.Words.{held_in}
use Rattle.world_model.specs.meaning.Frames.{Owner, Sent}
use Rattle.world_model.specs.Orderly.{Orderly}
use Rattle.world_model.specs.meaning.Links.{Link, link_at}
use Rattle.world_model.specs.meaning.Machines.{Machine}
use Rattle.world_model.specs.Parts.{Sending, Scan, is_unmarked, is_commit_frame, is_commit_call}
use Rattle.world_model.specs.Sames.{all_with, each_pair, owned_by}
use Rattle.world_model.specs.records.Script.{is_sending_of, is_call_of, reverse_onto}
use Rattle.world_model.specs.Traced.{Traced}
use Rattle.world_model.proofs.Offered.{HasStepped, at_event, any_of_all, before_sent, calls_of, on_of, agrees, onto_append, scan_by, sent_so, PassesAt, passes_from, link_sents, sent_lists, account_now, before_talks, is_running, scan_leads, eq_to}
use Rattle.invariant_laws.proofs.losses.LostSteps.{last_is}
use Rattle.invariant_laws.proofs.rows.RowSteps.{before_fits}
use Rattle.invariant_laws.proofs.talks.TalkTop.{TopSo, top_open, scan_top}

-- LISTS -------------------------------------------------------------------------------------------

pub all_with_is : {A : Type 0} (test : A → Bool) (xs : List A) → all_with test xs ≡ list_all test xs
all_with_is test [] = refl
all_with_is test (x ∷ xs) = ap (λ (rest : Bool). test x && rest) (all_with_is test xs)

with_parts : {A : Type 0} (test : A → Bool) (xs ys : List A) → all_with test (xs ++ ys) ≡ true → all_with test xs ≡ true
with_parts test [] ys all = refl
with_parts test (x ∷ xs) ys all = let parts = and_parts (test x) (all_with test (xs ++ ys)) all in and_from (test x) (all_with test xs) parts.0 (with_parts test xs ys parts.1)

pair_parts : {A : Type 0} (test : A → A → Bool) (xs ys : List A) → each_pair test (xs ++ ys) ≡ true → (each_pair test xs ≡ true) × (each_pair test ys ≡ true)
pair_parts test [] ys pairs = (refl, pairs)
pair_parts test (x ∷ xs) ys pairs =
    let parts = and_parts (all_with (test x) (xs ++ ys)) (each_pair test (xs ++ ys)) pairs in
    let rest = pair_parts test xs ys parts.1 in
    (and_from (all_with (test x) xs) (each_pair test xs) (with_parts (test x) xs ys parts.0) rest.0, rest.1)

pub pairs_each : {A B : Type 0} (test : B → B → Bool) (parts : A → List B) (xs : List A) → each_pair test (flat_map parts xs) ≡ true → list_all (λ x. each_pair test (parts x)) xs ≡ true
pairs_each test parts [] pairs = refl
pairs_each test parts (x ∷ xs) pairs =
    let both = pair_parts test (parts x) (flat_map parts xs) pairs in and_from (each_pair test (parts x)) (list_all (λ y. each_pair test (parts y)) xs) both.0 (pairs_each test parts xs both.1)

record Ends {A : Type 0} (xs : List A) (x : A) : Type 0 where
  before : List A
  are : xs ≡ before ++ x ∷ []

ends_by : {A : Type 0} (found : Option A) (xs : List A) (x : A) → last_or found xs ≡ Some x → ((found ≡ Some x) × (xs ≡ [])) ⊎ Ends xs x
ends_by found [] x is = inl (is, refl)
ends_by found (y ∷ xs) x is = by (ends_by (Some y) xs x is)
  where
    by : ((Some y ≡ Some x) × (xs ≡ [])) ⊎ Ends xs x → ((found ≡ Some x) × (y ∷ xs ≡ [])) ⊎ Ends (y ∷ xs) x
    by (inl last) = let same : y ≡ x = cc in inr (record { before = []; are = ap (λ rest. y ∷ rest) last.1 ∙ ap (λ z. z ∷ []) same })
    by (inr rest) = inr (record { before = y ∷ rest.before; are = ap (λ later. y ∷ later) rest.are })

ends_at : {A : Type 0} (xs : List A) (x : A) → last_or None xs ≡ Some x → Ends xs x
ends_at xs x is = by (ends_by None xs x is)
  where
    by : ((None ≡ Some x) × (xs ≡ [])) ⊎ Ends xs x → Ends xs x
    by (inl none) = absurd (let same : None ≡ Some x = none.0 in let never : ⊥ = cc in never)
    by (inr ends) = ends

pairs_last : (xs : List Sent) (ys : List Sending) (x : Sent) (y : Sending) → pointwise is_sending_of (xs ++ x ∷ []) (ys ++ y ∷ []) ≡ true → is_sending_of x y ≡ true
pairs_last [] [] x y all = (and_parts (is_sending_of x y) true all).0
pairs_last [] (b ∷ []) x y all = absurd (let parts = and_parts (is_sending_of x b) false all in let none : ⊥ = cc in none)
pairs_last [] (b ∷ c ∷ ys) x y all = absurd (let parts = and_parts (is_sending_of x b) false all in let none : ⊥ = cc in none)
pairs_last (a ∷ []) [] x y all = absurd (let parts = and_parts (is_sending_of a y) false all in let none : ⊥ = cc in none)
pairs_last (a ∷ c ∷ xs) [] x y all = absurd (let parts = and_parts (is_sending_of a y) false all in let none : ⊥ = cc in none)
pairs_last (a ∷ xs) (b ∷ ys) x y all = pairs_last xs ys x y (and_parts (is_sending_of a b) (pointwise is_sending_of (xs ++ x ∷ []) (ys ++ y ∷ [])) all).1

pub last_any : (numbers : List ℕ) (number : ℕ) → last_or None numbers ≡ Some number → list_any (λ other. other == number) numbers ≡ true
last_any numbers number is =
    let ends = ends_at numbers number is in
    ap (list_any (λ other. other == number)) ends.are
    ∙ (list_any-append (λ other. other == number) ends.before (number ∷ []) ∙ or_right (list_any (λ other. other == number) ends.before) ((number == number) || false) (or_left (number == number) false (eq_to number number refl)))

abbrev is_idle : Phase → Bool
is_idle Idle = true
is_idle _ = false

fails_too : {A : Type 0} (test : A → Bool) (a b : A) → a ≡ b → test b ≡ false → test a ≡ false
fails_too test a b same fails = ap test same ∙ fails

-- THE REQUEST -------------------------------------------------------------------------------------

module _ (t : Traced) (inv : Orderly t) (who : ℕ) (n : Machine) (step : HasStepped t.setting (at_event t.machine) who n) (state : Living) (runs : step.before.talk.phase ≡ Running state) where
  abbrev m : Machine
  m = at_event t.machine

  abbrev mine : Owner
  mine = record { client = who; place = length step.client.past }

  abbrev scan : Scan
  scan = scan_by mine step.before.steps

  talks : Talks t.setting.terms false step.before
  talks = before_talks t.setting m inv.script.talks who n step

  -- the call that was sent last is one of its script
  pub call_left : (call : Call) × (next_call step.before.talk ≡ Some call)
  call_left =
      let terms = t.setting.terms in
      let calls : List Call = step.before.request.calls in
      let talk : Talk = first_talk step.before.request in
      let phase : (talk_after terms talk (inputs_of step.before.steps)).phase ≡ Running state = ap (λ (one : Talk). one.phase) talks.stands ∙ runs in
      let there : IsTalk terms step.before.request.settings calls (fold (after_step terms calls) unheard (steps_of terms talk (inputs_of step.before.steps))) (talk_after terms talk (inputs_of step.before.steps)) =
      last_talks terms step.before.request.settings calls (inputs_of step.before.steps) unheard false talk (λ e. first_talks terms step.before.request.settings calls) refl talks.converses.may (fails_too is_idle (talk_after terms talk (inputs_of step.before.steps)).phase (Running state) phase refl) in
      let so : IsTalk terms step.before.request.settings calls (account_now terms step.before) step.before.talk =
      subst (λ (one : Talk). IsTalk terms step.before.request.settings calls (account_now terms step.before) one) talks.stands
      (subst (λ (dones : List Done). IsTalk terms step.before.request.settings calls (fold (after_step terms calls) unheard dones) (talk_after terms talk (inputs_of step.before.steps))) (sym talks.converses.acts) there) in
      let fits = subst (λ (p : Phase). Fits terms calls (account_now terms step.before) (before_fits t.setting m inv.script.talks who n step).gone p) runs (before_fits t.setting m inv.script.talks who n step).fits in
      (fits.0.left.one, sym (next_left terms step.before.request.settings calls (account_now terms step.before) step.before.talk state.track so fits.0.tracked) ∙ fits.0.left.is)

  -- its last sending is on its connection, and was not answered
  pub last_open : top_open scan.connection scan.sendings ≡ true
  last_open =
      let top : TopSo false scan step.before.talk.phase =
      subst (λ (p : Phase). TopSo false scan p) (ap (λ (one : Talk). one.phase) talks.stands)
      (subst (λ (due : Bool). TopSo due scan (talk_after t.setting.terms (first_talk step.before.request) (inputs_of step.before.steps)).phase) talks.loss
      (scan_top t.setting.terms (first_talk step.before.request) false (scan_by mine []) step.before.steps talks.converses.acts talks.converses.may (record { shown = refl; held = refl }) (λ due never. absurd (let none : ⊥ = cc in none)))) in
      top refl (ap is_running runs)

  module _ (connection : ℕ) (has : step.before.connection ≡ Some connection) (link : Link) (there : link_at m.links connection ≡ Some link) where
    pub scan_on : scan.connection ≡ connection
    scan_on = scan_leads None (scan_by mine []) step.before.steps (λ other never. absurd (let none : ⊥ = cc in none)) connection (talks.has ∙ has)

    agreed : agrees mine connection link.sent scan.sendings ≡ true
    agreed =
        let all = before_sent t m who n step step.here inv.script.sent in
        let here : sent_so mine step.before.steps (sent_lists t.machine.links) connection ≡ true =
        any_of_all (sent_so mine step.before.steps (sent_lists t.machine.links)) (held_in step.before.steps) connection all (last_any (held_in step.before.steps) connection (last_is t inv who n step connection has)) in
        let at : PassesAt (λ sents. agrees mine connection sents scan.sendings) (sent_lists t.machine.links) connection = passes_from (λ sents. agrees mine connection sents scan.sendings) (sent_lists t.machine.links) connection here in
        let both : Some at.sents ≡ Some link.sent = sym at.there ∙ (link_sents t.machine.links connection ∙ ap (λ (found : Option Link). option_map (λ (l : Link). l.sent) found) there) in
        let same : at.sents ≡ link.sent = cc in
        subst (λ (sents : List Sent). agrees mine connection sents scan.sendings ≡ true) same at.passes

    -- what was sent last there is its last sending
    pub last_pair : (top : Sending) (rest : List Sending) → scan.sendings ≡ top ∷ rest → (top.connection == connection) ≡ true → (last : Sent) → last_or None link.sent ≡ Some last → owned_by mine last ≡ true → is_unmarked last ≡ true → is_sending_of last top ≡ true
    last_pair top rest are on last is own unmarked =
        let ends = ends_at link.sent last is in
        let sents : calls_of mine link.sent ≡ calls_of mine ends.before ++ last ∷ [] =
        ap (calls_of mine) ends.are
        ∙ (filter-append (λ (sent : Sent). owned_by mine sent && is_unmarked sent) ends.before (last ∷ [])
        ∙ ap (λ (test : Bool). calls_of mine ends.before ++ (if test then last ∷ [] else [])) (and_from (owned_by mine last) (is_unmarked last) own unmarked)) in
        let sendings : on_of connection scan.sendings ≡ on_of connection rest ++ top ∷ [] =
        ap (on_of connection) are
        ∙ (ap (λ (test : Bool). reverse_onto (if test then top ∷ filter (λ (s : Sending). s.connection == connection) rest else filter (λ (s : Sending). s.connection == connection) rest) []) on
        ∙ onto_append (filter (λ (s : Sending). s.connection == connection) rest) (top ∷ [])) in
        pairs_last (calls_of mine ends.before) (on_of connection rest) last top
        (subst (λ (on : List Sending). pointwise is_sending_of (calls_of mine ends.before ++ last ∷ []) on ≡ true) sendings (subst (λ (all : List Sent). pointwise is_sending_of all (on_of connection scan.sendings) ≡ true) sents agreed))

    -- and the call of it
    pub last_call : (top : Sending) (rest : List Sending) → scan.sendings ≡ top ∷ rest → (top.connection == connection) ≡ true → (last : Sent) → last_or None link.sent ≡ Some last → owned_by mine last ≡ true → is_unmarked last ≡ true
        → is_commit_call last ≡ true → has_commit top.call ≡ true
    last_call top rest are on last is own unmarked commits = by last.frame (and_parts (last.call == top.at) (is_call_of top.call last.frame) (last_pair top rest are on last is own unmarked)).1 commits
      where
        by : (frame : Up) → is_call_of top.call frame ≡ true → is_commit_frame frame ≡ true → has_commit top.call ≡ true
        by (up.Call false kept call) same commits_so = ap has_commit ((same_call_decides top.call call).0 same) ∙ commits_so
        by frame same commits_so = absurd (let none : ⊥ = cc in none)
