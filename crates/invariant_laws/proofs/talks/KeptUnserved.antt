-- Each Begin that was not served yet is of the request that sent the last frame on its connection:
-- at the start and behind each event. A connection is lent only where all that was sent on it was
-- answered, so that no Begin is left there.
use Rattle.std.proofs.Common.{◌≡◌, refl, sym, ap, subst, ◌∙◌, arith, Bool, true, false, ℕ, ◌+◌, ◌≤◌, ◌&&◌, filter, fold, length, length-append, List, [], ◌∷◌, ◌++◌, map, Option, Some, None, ◌⊎◌, inl, inr, if◌then◌else◌}
use Rattle.std.specs.Prelude.{◌==◌, nat_le, not}
use Rattle.std.specs.List.{list_all, last_or}
use Rattle.std.specs.Option.{option_or, option_map_or}
use Rattle.std.proofs.lemmas.Bool.{and_parts, and_from, or_left, or_right}
use Rattle.std.proofs.lemmas.List.Elements.{filter-append}
use Rattle.std.proofs.lemmas.List.Folds.{list_all-append}
use Rattle.std.proofs.lemmas.List.Sums.{fold-append, length-filter}
use Rattle.svc_values.specs.declared.frame.Up.{Up}
use Rattle.svc_values.specs.declared.frame.Up.TheVariants as up
use Rattle.client_model.specs.declared.input.Input.TheVariants.{Took}
use Rattle.client_model.specs.meaning.Talk.{Step, on_hello, takes as taken_by}
use Rattle.client_model.specs.meaning.Terms.{Phase}
use Rattle.outage_schedule.specs.declared.event.Event.{Event}
use Rattle.outage_schedule.specs.declared.item.Served.{Served}
use Rattle.outage_schedule.specs.declared.note.Note.{Note}
use Rattle.server_model.specs.Seen.{Seen}
use Rattle.world_model.specs.meaning.Acting.{call_in, frames_of, sent_by}
use Rattle.invariant_laws.specs.Begins.{begin_in, begins_followed, followed_at_once, follows_begin, is_begin_frame}
use Rattle.world_model.specs.meaning.Frames.{Owner, Sent, Handled, up_size, whole_front}
use Rattle.world_model.specs.records.Hold.{is_awaited, is_idle}
use Rattle.invariant_laws.specs.Invariant.{Invariant}
use Rattle.invariant_laws.specs.KeptLaws.{RunsKeepInvariant}
use Rattle.world_model.specs.meaning.Links.{Link, new_link, sends, takes}
use Rattle.world_model.specs.meaning.Machines.{Machine}
use Rattle.world_model.specs.records.Number.{served_near}
use Rattle.world_model.specs.OneEvent.{OneEvent}
use Rattle.world_model.specs.meaning.Outside.{closed_by_drain}
use Rattle.world_model.specs.Parts.{count_reps, implies, is_answered, is_closed, is_out, is_rep, served_reps}
use Rattle.world_model.specs.Reached.{Begins as BeginsRun, GoesOn}
use Rattle.invariant_laws.specs.SameLaws.{HoldsAtEnds, HoldsInRuns}
use Rattle.world_model.specs.Sames.{is_front, owned_by, same_owners, same_sent, same_up}
use Rattle.world_model.specs.meaning.Serving.{Front, after_front}
use Rattle.world_model.specs.meaning.Settings.{Setting}
use Rattle.invariant_laws.specs.Shown.{is_call}
use Rattle.world_model.specs.Traced.{Traced}
use Rattle.invariant_laws.specs.UnservedBegins.{last_owner, is_of_last, begins_of_last, begin_last}
use Rattle.world_model.specs.records.Wire.{is_sent_front, nothing_cut, up_of}
use Rattle.world_model.proofs.Offered.{IsFront, KeepsServed, weaker_all, sends_alike, handled_alike, cut_case, fallen_case, Begins, front_filter, whole_begins, same_frames, Followed, follow_happens, at_event, held_now, implied, same_reps, idle_none, idle_open, finishing_reached, owner_self, awaits, sends_none, KeepsSent, sent_keep, front_long, reps_sent, owned_is, eq_from, le_from}
use Rattle.invariant_laws.proofs.rows.CallFrames.{call_answered, calls_same}
use Rattle.invariant_laws.proofs.rows.CallFrames.{begin_alike}
use Rattle.invariant_laws.proofs.losses.LostKept.{both_all}

-- WHAT IS NOT SERVED YET --------------------------------------------------------------------------

abbrev plain : Sent → Bool
plain sent = not (is_begin_frame sent.frame)

less_none : (sent : Sent) (sents : List Sent) → filter is_rep (sent ∷ sents) ≡ [] → (is_rep sent ≡ false) × (filter is_rep sents ≡ [])
less_none sent sents none = by (is_rep sent) refl none
  where
    by : (test : Bool) → is_rep sent ≡ test → (if test then sent ∷ filter is_rep sents else filter is_rep sents) ≡ [] → (is_rep sent ≡ false) × (filter is_rep sents ≡ [])
    by true is none = absurd (let never : ⊥ = cc in never)
    by false is none = (is, none)

-- A call follows each Begin, and it is answered.
begin_called : (begin : Sent) (ups ys : List Sent) → is_front same_sent ups ys ≡ true → length ups ≡ length ys → followed_at_once (Some begin) ys ≡ true → filter is_rep ups ≡ [] → ⊥
begin_called begin ups [] front long follow none = let never : ⊥ = cc in never
begin_called begin [] (y ∷ ys) front long follow none = let never : ⊥ = omega (arith, long) in never
begin_called begin (u ∷ ups) (y ∷ ys) front long follow none =
    let call : is_call y.frame ≡ true = (and_parts (is_call y.frame) ((y.call == begin.call) && same_owners begin.owner y.owner) (and_parts (follows_begin begin y) (followed_at_once (begin_in y) ys) follow).0).0 in
    let same : same_up u.frame y.frame ≡ true = same_frames u y (and_parts (same_sent u y) (is_front same_sent ups ys) front).0 in
    let answered : is_rep u ≡ true = call_answered u.frame (calls_same u.frame y.frame same ∙ call) in
    let other : is_rep u ≡ false = (less_none u ups none).0 in
    let never : ⊥ = cc in
    never

none_begin : (begin : Option Sent) (ups ys : List Sent) → is_front same_sent ups ys ≡ true → length ups ≡ length ys → followed_at_once begin ys ≡ true → filter is_rep ups ≡ [] → list_all plain ups ≡ true
none_begin begin [] ys front long follow none = refl
none_begin begin (u ∷ ups) [] front long follow none = absurd (let never : ⊥ = cc in never)
none_begin begin (u ∷ ups) (y ∷ ys) front long follow none =
    let parts = and_parts (same_sent u y) (is_front same_sent ups ys) front in
    let later : length ups ≡ length ys = omega (arith, long) in
    let rest = less_none u ups none in
    let follows : followed_at_once (begin_in y) ys ≡ true = (and_parts (option_map_or (λ one. follows_begin one y) begin true) (followed_at_once (begin_in y) ys) follow).1 in
    and_from (plain u) (list_all plain ups)
    (by (is_begin_frame u.frame) (is_begin_frame y.frame) (begin_alike u.frame y.frame (same_frames u y parts.0)) follows (λ told. begin_called y ups ys parts.1 later told rest.1))
    (none_begin (begin_in y) ups ys parts.1 later follows rest.1)
  where
    by : (mine its : Bool) → mine ≡ its → followed_at_once (if its then Some y else None) ys ≡ true → (followed_at_once (Some y) ys ≡ true → ⊥) → not mine ≡ true
    by false its same follows never = refl
    by true true same follows never = absurd (never follows)
    by true false same follows never = absurd (let none : ⊥ = cc in none)

none_behind : (begin : Option Sent) (served ups ys : List Sent) → is_front same_sent (served ++ ups) ys ≡ true → length (served ++ ups) ≡ length ys → followed_at_once begin ys ≡ true → filter is_rep ups ≡ [] → list_all plain ups ≡ true
none_behind begin [] ups ys front long follow none = none_begin begin ups ys front long follow none
none_behind begin (one ∷ served) ups [] front long follow none = absurd (let never : ⊥ = cc in never)
none_behind begin (one ∷ served) ups (y ∷ ys) front long follow none =
    none_behind (begin_in y) served ups ys (and_parts (same_sent one y) (is_front same_sent (served ++ ups) ys) front).1 (omega (arith, long))
    (and_parts (option_map_or (λ b. follows_begin b y) begin true) (followed_at_once (begin_in y) ys) follow).1 none

no_length : (sents : List Sent) → length sents ≤ 0 → sents ≡ []
no_length [] least = refl
no_length (sent ∷ sents) least = absurd (let never : ⊥ = omega (arith, least) in never)

-- what is known of each connection
abbrev known : Link → Bool
known link = is_sent_front link && (served_near link && begins_followed link)

-- on one that is idle all was answered
idle_plain : (link : Link) → known link ≡ true → is_idle link ≡ true → list_all plain link.up ≡ true
idle_plain link is idle = none_behind None served link.up link.sent fronts.0 whole two.1 none
  where
    served : List Sent
    served = map (λ (one : Handled). one.sent) link.served

    one : (is_sent_front link ≡ true) × ((served_near link && begins_followed link) ≡ true)
    one = and_parts (is_sent_front link) (served_near link && begins_followed link) is

    two : (served_near link ≡ true) × (begins_followed link ≡ true)
    two = and_parts (served_near link) (begins_followed link) one.1

    fronts : (is_front same_sent (up_of link) link.sent ≡ true) × (implies (nothing_cut link) (length (up_of link) == length link.sent) ≡ true)
    fronts = and_parts (is_front same_sent (up_of link) link.sent) (implies (nothing_cut link) (length (up_of link) == length link.sent)) one.0

    whole : length (up_of link) ≡ length link.sent
    whole =
        eq_from (length (up_of link)) (length link.sent)
        (implied (nothing_cut link) (length (up_of link) == length link.sent) (or_left link.is_open (is_closed link && (link.is_living && not link.is_cut)) (idle_open link idle)) fronts.1)

    none : filter is_rep link.up ≡ []
    none =
        let most : length (filter is_rep (up_of link)) ≤ length (filter is_rep link.sent) = front_long same_sent (filter is_rep (up_of link)) (filter is_rep link.sent) (front_filter same_sent is_rep same_reps (up_of link) link.sent fronts.0) in
        let both : length (filter is_rep (up_of link)) ≡ length (filter is_rep served) + length (filter is_rep link.up) =
        ap length (filter-append is_rep served link.up) ∙ length-append (filter is_rep served) (filter is_rep link.up) in
        let sents : length (filter is_rep link.sent) ≡ count_reps link.sent = length-filter is_rep link.sent in
        let taken : count_reps link.sent ≡ length link.taken = idle_none link idle in
        let least : length link.taken ≤ length (served_reps link) = le_from (length link.taken) (length (served_reps link)) (and_parts (nat_le (length link.taken) (length (served_reps link))) (nat_le (length (served_reps link)) (length link.taken + 1)) two.0).0 in
        let same : length (served_reps link) ≡ length (filter is_rep served) = reps_sent link.served in
        no_length (filter is_rep link.up) (omega (arith, most, both, sents, taken, least, same))

-- WHO SENT LAST -----------------------------------------------------------------------------------

abbrev pub moves : Option Owner → Sent → Option Owner
moves found sent = option_or sent.owner found

pub last_more : (sents frames : List Sent) → last_owner (sents ++ frames) ≡ fold moves (last_owner sents) frames
last_more sents frames = fold-append moves None sents frames

pub stays_own : (owner : Owner) (call : ℕ) (frames : List Up) → fold moves (Some owner) (map (sent_by owner call) frames) ≡ Some owner
stays_own owner call [] = refl
stays_own owner call (frame ∷ frames) = stays_own owner call frames

after_said : (owner : Owner) (call : ℕ) (found : Option Owner) (frames : List Up) → (fold moves found (map (sent_by owner call) frames) ≡ Some owner) ⊎ (frames ≡ [])
after_said owner call found [] = inr refl
after_said owner call found (frame ∷ frames) = inl (stays_own owner call frames)

all_own : (owner : Owner) (call : ℕ) (frames : List Up) → list_all (is_of_last (Some owner)) (map (sent_by owner call) frames) ≡ true
all_own owner call [] = refl
all_own owner call (frame ∷ frames) =
    and_from (is_of_last (Some owner) (sent_by owner call frame)) (list_all (is_of_last (Some owner)) (map (sent_by owner call) frames))
    (or_right (not (is_begin_frame frame)) (same_owners (Some owner) (Some owner)) (owner_self owner)) (all_own owner call frames)

pub last_is : (found : Option Owner) (sents : List Sent) (last : Sent) (owner : Owner) → last_or None sents ≡ Some last → last.owner ≡ Some owner → fold moves found sents ≡ Some owner
last_is found [] last owner is mine = absurd (let none : ⊥ = cc in none)
last_is found (one ∷ []) last owner is mine = let same : one ≡ last = cc in ap (λ (sent : Sent). option_or sent.owner found) same ∙ ap (λ (o : Option Owner). option_or o found) mine
last_is found (one ∷ two ∷ rest) last owner is mine = last_is (moves found one) (two ∷ rest) last owner is mine

-- what a request says where each Begin that is left is its own
said_last : (event : ℕ) (owner : Owner) (call : ℕ) (frames : List Up) (link : Link) → list_all (is_of_last (Some owner)) link.up ≡ true → begins_of_last link ≡ true → begins_of_last (sends event (map (sent_by owner call) frames) link) ≡ true
said_last event owner call frames link ups here = by (after_said owner call (last_owner link.sent) frames)
  where
    said : List Sent
    said = map (sent_by owner call) frames

    by : (fold moves (last_owner link.sent) (map (sent_by owner call) frames) ≡ Some owner) ⊎ (frames ≡ []) → begins_of_last (sends event (map (sent_by owner call) frames) link) ≡ true
    by (inl is) =
        let all : list_all (is_of_last (last_owner (link.sent ++ said))) (link.up ++ said) ≡ true =
        ap (λ (last : Option Owner). list_all (is_of_last last) (link.up ++ said)) (last_more link.sent said ∙ is)
        ∙ (list_all-append (is_of_last (Some owner)) link.up said ∙ and_from (list_all (is_of_last (Some owner)) link.up) (list_all (is_of_last (Some owner)) said) ups (all_own owner call frames)) in
        sends_alike (λ one. begins_of_last one ≡ true) event said link all all
    by (inr none) = subst (λ (one : Link). begins_of_last one ≡ true) (sym (ap (λ (f : List Up). sends event (map (sent_by owner call) f) link) none ∙ sends_none event link)) here

plain_own : (owner : Owner) (ups : List Sent) → list_all plain ups ≡ true → list_all (is_of_last (Some owner)) ups ≡ true
plain_own owner ups all = weaker_all plain (is_of_last (Some owner)) ups (λ sent is. or_left (plain sent) (same_owners sent.owner (Some owner)) is) all

awaits_own : (owner : Owner) (phase : Phase) (link : Link) → awaits owner phase link ≡ true → begins_of_last link ≡ true → list_all (is_of_last (Some owner)) link.up ≡ true
awaits_own owner phase link out here = by (last_or None link.sent) refl (and_parts (is_out link) (option_map_or (λ sent. is_answered sent.frame && (owned_by owner sent && is_awaited phase sent)) (last_or None link.sent) false) out).1
  where
    by : (found : Option Sent) → last_or None link.sent ≡ found → option_map_or (λ sent. is_answered sent.frame && (owned_by owner sent && is_awaited phase sent)) found false ≡ true → list_all (is_of_last (Some owner)) link.up ≡ true
    by None is passes = absurd (let none : ⊥ = cc in none)
    by (Some last) is passes =
        let one = and_parts (is_answered last.frame) (owned_by owner last && is_awaited phase last) passes in
        let mine : last.owner ≡ Some owner = owned_is owner last (and_parts (owned_by owner last) (is_awaited phase last) one.1).0 in
        subst (λ (found : Option Owner). list_all (is_of_last found) link.up ≡ true) (last_is None link.sent last owner is mine) here

drained_last : (event : ℕ) (link : Link) → begins_of_last link ≡ true → begins_of_last (sends event (closed_by_drain ∷ []) link) ≡ true
drained_last event link here =
    let all : list_all (is_of_last (last_owner (link.sent ++ closed_by_drain ∷ []))) (link.up ++ closed_by_drain ∷ []) ≡ true =
    ap (λ (last : Option Owner). list_all (is_of_last last) (link.up ++ closed_by_drain ∷ [])) (last_more link.sent (closed_by_drain ∷ []))
    ∙ (list_all-append (is_of_last (last_owner link.sent)) link.up (closed_by_drain ∷ []) ∙ and_from (list_all (is_of_last (last_owner link.sent)) link.up) true here refl) in
    sends_alike (λ one. begins_of_last one ≡ true) event (closed_by_drain ∷ []) link all all

-- EVENTS ------------------------------------------------------------------------------------------

later_last : (links : List Link) (number : ℕ) (front : Front) → IsFront links number front → begins_of_last front.link ≡ true → list_all (is_of_last (last_owner front.link.sent)) front.later ≡ true
later_last links number front at here =
    let last : Option Owner = last_owner front.link.sent in
    (and_parts (is_of_last last front.first) (list_all (is_of_last last) front.later) (subst (λ (ups : List Sent). list_all (is_of_last last) ups ≡ true) at.up here)).1

cut_last : (up : ℕ) (link : Link) → begins_of_last link ≡ true → list_all (is_of_last (last_owner link.sent)) (whole_front up_size up link.up) ≡ true
cut_last up link here =
    let last : Option Owner = last_owner link.sent in
    let front : Begins (whole_front up_size up link.up) link.up = whole_begins up_size up link.up in
    (and_parts (list_all (is_of_last last) (whole_front up_size up link.up)) (list_all (is_of_last last) front.rest)
    (sym (list_all-append (is_of_last last) (whole_front up_size up link.up) front.rest) ∙ (ap (list_all (is_of_last last)) front.whole ∙ here))).0

last_served : (m : Machine) → KeepsServed m known begins_of_last
last_served m = record {
  at_serves = λ number front served at ordinary old here.
      handled_alike (λ one. begins_of_last one ≡ true) m.event front served (λ reply. later_last m.links number front at here) (λ reply. later_last m.links number front at here);
  at_stops = λ number after front served at stopped old here. fallen_case (λ one. begins_of_last one ≡ true) m.event (after_front front served None) (λ opens. refl) (λ closed. refl);
  at_cuts = λ up down link opens here. cut_case (λ one. begins_of_last one ≡ true) m.event up down link opens (cut_last up link here);
  at_reaps = λ link orphan here. here;
  at_falls = λ link here. fallen_case (λ one. begins_of_last one ≡ true) m.event link (λ opens. refl) (λ closed. refl);
}

last_keeps : (setting : Setting) (m : Machine) → KeepsSent setting m known begins_of_last
last_keeps setting m = record {
  at_opens = λ owner runs. said_last m.event owner 0 (up.Connect ∷ []) new_link refl refl;
  at_lends = λ owner doing ltxid pool number link ready waits strange idle old here.
      let step : Step = on_hello setting.terms doing.talk None ltxid true m.tick in
      said_last m.event owner (call_in step.0.phase) (frames_of pool number step.1) link (plain_own owner link.up (idle_plain link old idle)) here;
  at_takes = λ owner doing pool number link reply left ready out down old here.
      let step : Step = taken_by setting.terms doing.talk doing.talk.phase reply.frame link.is_open m.tick in
      said_last m.event owner (call_in step.0.phase) (frames_of pool number step.1) (takes (Took reply.frame link.is_open) reply left link) (awaits_own owner doing.talk.phase link out here) here;
  at_drains = λ link idle old here. drained_last m.event link here;
  served = last_served m;
}

event_last : (before after : Seen) (old new : Traced) (event : Event) (note : Note) (items left : List Served) → OneEvent before old event note items left after new → Invariant old → begin_last old ≡ true → begin_last new ≡ true
event_last before after old new event note items left one inv was =
    let by : Followed old.setting old.machine event note items left new.machine = follow_happens old.setting old.machine event note items left new.machine one.follows in
    sent_keep old.setting (at_event old.machine) known begins_of_last (last_keeps old.setting (at_event old.machine)) (held_now old inv.orderly)
    (both_all is_sent_front (λ link. served_near link && begins_followed link) old.machine.links inv.orderly.wire.sent (both_all served_near begins_followed old.machine.links inv.orderly.number.served inv.followed)) was
    items left by.kind new.machine by.happens

pub runs_begin_last : RunsKeepInvariant → HoldsInRuns begin_last
runs_begin_last keeps document _ _ _ _ _ calls (BeginsRun seen start history horizon coupled) = refl
runs_begin_last keeps document _ _ _ _ _ calls (GoesOn events notes items more before after old new event note reached one forgets) =
    event_last before after old new event note more [] one (keeps document events notes items before old calls reached) (runs_begin_last keeps document events notes items before old calls reached)

pub whole_runs_begin_last : RunsKeepInvariant → HoldsAtEnds begin_last
whole_runs_begin_last keeps document notes items seen t calls run =
    let so = finishing_reached document run.place notes items seen t run.finishing in runs_begin_last keeps document so.0 notes items seen t calls so.1
