-- What was sent on the connection of a number, and what a request sends on one that it never held:
-- nothing.
use Rattle.std.proofs.Common.{◌≡◌, ◌≢◌, refl, sym, ap, subst, ◌∙◌, Bool, true, false, ℕ, suc, zero, ◌+◌, ◌||◌, cond, fold, filter, length, List, [], ◌∷◌, ◌++◌, Option, Some, None, arith}
use Rattle.std.specs.Prelude.{◌==◌, not, slice_get, option_map, is_some, if◌then◌else◌}
use Rattle.std.specs.List.{list_all, list_any, cons_option}
use Rattle.std.specs.Option.{option_or, option_map_or}
use Rattle.std.proofs.lemmas.Bool.{and_parts, and_from}
use Rattle.std.proofs.lemmas.List.{length-map}
use Rattle.svc_values.specs.declared.answer.Answer.{Answer}
use Rattle.svc_values.specs.declared.frame.Up.{Up}
use Rattle.svc_values.specs.declared.frame.Up.TheVariants as up
use Rattle.svc_values.specs.declared.frame.Down.TheVariants as down
use Rattle.client_model.specs.declared.act.Shown.{Shown}
use Rattle.client_model.specs.declared.input.Input.{Input}
use Rattle.client_model.specs.declared.input.Input.TheVariants.{Start, Waiting, Lent, Opened, TryFailed, Took, Gone}
use Rattle.world_model.specs.meaning.Clients.{Step}
use Rattle.world_model.specs.meaning.Frames.{Sent}
use Rattle.world_model.specs.meaning.Links.{Link, link_at, told_by}
use Rattle.world_model.specs.Parts.{Sending, Scan, scanned, with_taken, answered, sent_on}
use Rattle.world_model.specs.records.Script.{reverse_onto}
use Rattle.world_model.specs.Words.{brought, held_in}
use Rattle.world_model.proofs.events.ClientSteps.{Grows, AsBefore, OneMore}
use Rattle.world_model.proofs.script.Recalling.{get_further}
use Rattle.world_model.proofs.script.Sendings.{on_of}
use Rattle.world_model.proofs.wire.SentLists.{sent_lists, spoken_at, spoken}

abbrev pub sents_at : List (List Sent) → ℕ → Option (List Sent)
sents_at lists zero = None
sents_at lists (suc index) = slice_get lists index

got_mapped : (links : List Link) (index : ℕ) → slice_get (sent_lists links) index ≡ option_map (λ (link : Link). link.sent) (slice_get links index)
got_mapped [] index = refl
got_mapped (link ∷ links) zero = refl
got_mapped (link ∷ links) (suc index) = got_mapped links index

pub link_sents : (links : List Link) (number : ℕ) → sents_at (sent_lists links) number ≡ option_map (λ (link : Link). link.sent) (link_at links number)
link_sents links zero = refl
link_sents links (suc index) = got_mapped links index

-- a test of what was sent on the connection of this number
abbrev pub sents_pass : (List Sent → Bool) → List (List Sent) → ℕ → Bool
sents_pass test lists number = option_map_or test (sents_at lists number) false

pub link_passes : (test : List Sent → Bool) (links : List Link) (number : ℕ) → option_map_or (λ (link : Link). test link.sent) (link_at links number) false ≡ sents_pass test (sent_lists links) number
link_passes test links number = by (link_at links number) refl
  where
    by : (found : Option Link) → link_at links number ≡ found → option_map_or (λ (link : Link). test link.sent) found false ≡ sents_pass test (sent_lists links) number
    by None is = sym (ap (λ (one : Option (List Sent)). option_map_or test one false) (link_sents links number ∙ ap (λ (one : Option Link). option_map (λ (link : Link). link.sent) one) is))
    by (Some link) is = sym (ap (λ (one : Option (List Sent)). option_map_or test one false) (link_sents links number ∙ ap (λ (one : Option Link). option_map (λ (link : Link). link.sent) one) is))

-- it is there, and passes
pub record PassesAt (test : List Sent → Bool) (lists : List (List Sent)) (number : ℕ) : Type 0 where
  pub sents : List Sent
  pub there : sents_at lists number ≡ Some sents
  pub passes : test sents ≡ true

pub passes_from : (test : List Sent → Bool) (lists : List (List Sent)) (number : ℕ) → sents_pass test lists number ≡ true → PassesAt test lists number
passes_from test lists number here = by (sents_at lists number) refl here
  where
    by : (found : Option (List Sent)) → sents_at lists number ≡ found → option_map_or test found false ≡ true → PassesAt test lists number
    by None is here = absurd (let none : ⊥ = cc in none)
    by (Some sents) is here = record { sents = sents; there = is; passes = here }

pub passes_to : (test : List Sent → Bool) (lists : List (List Sent)) (number : ℕ) (sents : List Sent) → sents_at lists number ≡ Some sents → test sents ≡ true → sents_pass test lists number ≡ true
passes_to test lists number sents there here = subst (λ (found : Option (List Sent)). option_map_or test found false ≡ true) (sym there) here

-- FRAMES MORE -------------------------------------------------------------------------------------

own_at : (lists : List (List Sent)) (index : ℕ) (frames sents : List Sent) → slice_get lists index ≡ Some sents → slice_get (spoken_at lists index frames) index ≡ Some (sents ++ frames)
own_at [] index frames sents is = absurd (let none : ⊥ = cc in none)
own_at (first ∷ lists) zero frames sents is = let same : first ≡ sents = cc in ap (λ (s : List Sent). Some (s ++ frames)) same
own_at (first ∷ lists) (suc index) frames sents is = own_at lists index frames sents is

pub spoken_own : (lists : List (List Sent)) (number : ℕ) (frames sents : List Sent) → sents_at lists number ≡ Some sents → sents_at (spoken lists number frames) number ≡ Some (sents ++ frames)
spoken_own lists zero frames sents is = absurd (let none : ⊥ = cc in none)
spoken_own lists (suc index) frames sents is = own_at lists index frames sents is

others_at : (lists : List (List Sent)) (index other : ℕ) (frames : List Sent) → other ≢ index → slice_get (spoken_at lists index frames) other ≡ slice_get lists other
others_at [] index other frames differ = refl
others_at (first ∷ lists) zero zero frames differ = absurd (differ refl)
others_at (first ∷ lists) zero (suc other) frames differ = refl
others_at (first ∷ lists) (suc index) zero frames differ = refl
others_at (first ∷ lists) (suc index) (suc other) frames differ = others_at lists index other frames (λ same. differ (ap suc same))

pub spoken_others : (lists : List (List Sent)) (number other : ℕ) (frames : List Sent) → other ≢ number → sents_at (spoken lists number frames) other ≡ sents_at lists other
spoken_others lists zero other frames differ = refl
spoken_others lists (suc index) zero frames differ = refl
spoken_others lists (suc index) (suc other) frames differ = others_at lists index other frames (λ same. differ (ap suc same))

pub grown_at : (lists later : List (List Sent)) (number : ℕ) (sents : List Sent) → Grows lists later → sents_at lists number ≡ Some sents → sents_at later number ≡ Some sents
grown_at lists _ number sents AsBefore is = is
grown_at lists _ zero sents OneMore is = absurd (let none : ⊥ = cc in none)
grown_at lists _ (suc index) sents OneMore is = get_further lists ([] ∷ []) index sents is

last_at : (lists : List (List Sent)) (index : ℕ) → index ≡ length lists → slice_get (lists ++ [] ∷ []) index ≡ Some []
last_at [] zero is = refl
last_at [] (suc index) is = absurd (let none : ⊥ = omega arith in none)
last_at (first ∷ lists) zero is = absurd (let none : ⊥ = omega arith in none)
last_at (first ∷ lists) (suc index) is = let same : index ≡ length lists = omega arith in last_at lists index same

pub new_at : (links : List Link) (number : ℕ) → number ≡ length links + 1 → sents_at (sent_lists links ++ [] ∷ []) number ≡ Some []
new_at links zero is = absurd (let none : ⊥ = omega arith in none)
new_at links (suc index) is = let long : length (sent_lists links) ≡ length links = length-map links (λ (link : Link). link.sent) in last_at (sent_lists links) index (omega arith)

-- NEVER HELD --------------------------------------------------------------------------------------

abbrev elsewhere : ℕ → List Sending → Bool
elsewhere number sendings = list_all (λ (sending : Sending). not (sending.connection == number)) sendings

not_so : (test : Bool) → test ≡ false → not test ≡ true
not_so true is = absurd (let none : ⊥ = cc in none)
not_so false is = refl

none_on : (number : ℕ) (sendings : List Sending) → elsewhere number sendings ≡ true → filter (λ (sending : Sending). sending.connection == number) sendings ≡ []
none_on number [] all = refl
none_on number (sending ∷ sendings) all =
    let parts = and_parts (not (sending.connection == number)) (elsewhere number sendings) all in by (sending.connection == number) parts.0 (none_on number sendings parts.1)
  where
    by : (test : Bool) → not test ≡ true → filter (λ (s : Sending). s.connection == number) sendings ≡ []
        → (if test then sending ∷ filter (λ (s : Sending). s.connection == number) sendings else filter (λ (s : Sending). s.connection == number) sendings) ≡ []
    by true is later = absurd (let none : ⊥ = cc in none)
    by false is later = later

taken_elsewhere : (number : ℕ) (answers : List Answer) (sendings : List Sending) → elsewhere number sendings ≡ true → elsewhere number (with_taken answers sendings) ≡ true
taken_elsewhere number answers [] all = all
taken_elsewhere number answers (sending ∷ earlier) all = all

answered_elsewhere : (number : ℕ) (input : Input) (shown : Option Shown) (sendings : List Sending) → elsewhere number sendings ≡ true → elsewhere number (answered input shown sendings) ≡ true
answered_elsewhere number (Took (down.Reply answers draws x) alive) (Some shown) sendings all = taken_elsewhere number answers sendings all
answered_elsewhere number (Took (down.Reply answers draws x) alive) None sendings all = all
answered_elsewhere number (Took (down.Hello x) alive) shown sendings all = all
answered_elsewhere number (Took (down.OutcomeIs committed completed) alive) shown sendings all = all
answered_elsewhere number (Took (down.OutcomeRefused ahead horizon) alive) shown sendings all = all
answered_elsewhere number (Took down.Blocked alive) shown sendings all = all
answered_elsewhere number (Took (down.Refused cause) alive) shown sendings all = all
answered_elsewhere number Start shown sendings all = all
answered_elsewhere number Waiting shown sendings all = all
answered_elsewhere number (Lent connection ltxid) shown sendings all = all
answered_elsewhere number (Opened connection) shown sendings all = all
answered_elsewhere number TryFailed shown sendings all = all
answered_elsewhere number (Gone event) shown sendings all = all

sent_elsewhere : (number : ℕ) (scan : Scan) (sendings : List Sending) (frame : Up) → (scan.connection == number) ≡ false → elsewhere number sendings ≡ true → elsewhere number (sent_on scan sendings frame) ≡ true
sent_elsewhere number scan sendings (up.Call false kept call) there all = by scan.held
  where
    by : (held : Option _) → elsewhere number (option_map_or (λ x. record { owner = scan.owner; connection = scan.connection; ltxid = x; at = scan.shown; call = call; taken = None } ∷ sendings) held sendings) ≡ true
    by None = all
    by (Some x) = and_from (not (scan.connection == number)) (elsewhere number sendings) (not_so (scan.connection == number) there) all
sent_elsewhere number scan sendings (up.Call true kept call) there all = all
sent_elsewhere number scan sendings up.Connect there all = all
sent_elsewhere number scan sendings (up.Begin settings) there all = all
sent_elsewhere number scan sendings (up.Outcome x) there all = all
sent_elsewhere number scan sendings up.End there all = all
sent_elsewhere number scan sendings up.Close there all = all

frames_elsewhere : (number : ℕ) (scan : Scan) (frames : List Up) (sendings : List Sending) → (scan.connection == number) ≡ false → elsewhere number sendings ≡ true → elsewhere number (fold (sent_on scan) sendings frames) ≡ true
frames_elsewhere number scan [] sendings there all = all
frames_elsewhere number scan (frame ∷ frames) sendings there all = frames_elsewhere number scan frames (sent_on scan sendings frame) there (sent_elsewhere number scan sendings frame there all)

-- what is brought is another connection
brought_other : (number connection : ℕ) (found : Option ℕ) (held : List ℕ) → list_any (λ other. other == number) (cons_option found held) ≡ false → (connection == number) ≡ false
    → ((option_map_or (λ one. one) found connection == number) ≡ false) × (list_any (λ other. other == number) held ≡ false)
brought_other number connection None held never there = (there, never)
brought_other number connection (Some one) held never there = by (one == number) never
  where
    by : (test : Bool) → (test || list_any (λ other. other == number) held) ≡ false → (test ≡ false) × (list_any (λ other. other == number) held ≡ false)
    by true is = absurd (let none : ⊥ = cc in none)
    by false is = (refl, is)

scan_elsewhere : (number : ℕ) (scan : Scan) (steps : List Step) → list_any (λ other. other == number) (held_in steps) ≡ false → (scan.connection == number) ≡ false → elsewhere number scan.sendings ≡ true
    → elsewhere number (fold scanned scan steps).sendings ≡ true
scan_elsewhere number scan [] never there all = all
scan_elsewhere number scan (step ∷ steps) never there all =
    let parts = brought_other number scan.connection (brought step.done.input) (held_in steps) never there in
    let now : Scan = record {
      owner = scan.owner;
      connection = option_map_or (λ one. one) (brought step.done.input) scan.connection;
      held = option_or (told_by step.done.input) scan.held;
      shown = scan.shown + cond (is_some step.done.act.shown) 1 0;
      sendings = answered step.done.input step.done.act.shown scan.sendings;
    } in
    scan_elsewhere number (scanned scan step) steps parts.1 parts.0
    (frames_elsewhere number now step.done.act.send now.sendings parts.0 (answered_elsewhere number step.done.input step.done.act.shown scan.sendings all))

-- nothing was sent on a connection that was never held
pub never_sent : (number : ℕ) (scan : Scan) (steps : List Step) → list_any (λ other. other == number) (held_in steps) ≡ false → (scan.connection == number) ≡ false → scan.sendings ≡ [] → on_of number (fold scanned scan steps).sendings ≡ []
never_sent number scan steps never there none =
    ap (λ (on : List Sending). reverse_onto on []) (none_on number (fold scanned scan steps).sendings (scan_elsewhere number scan steps never there (ap (λ (s : List Sending). elsewhere number s) none)))
