-- Of each connection: what was served and may be served is a front of what was sent; where frames
-- are left to be served, its session lives, or it was cut.
use Rattle.std.proofs.Common.{◌≡◌, refl, sym, ap, subst, ◌∙◌, Bool, true, false, ℕ, ◌+◌, ◌&&◌, ◌||◌, length, append_assoc, length-append, List, [], ◌∷◌, ◌++◌, map, Option, None, ◌⊎◌, inl, inr}
use Rattle.std.specs.Prelude.{◌==◌, not, is_none}
use Rattle.std.specs.List.{list_any}
use Rattle.std.proofs.lemmas.Bool.{and_parts, and_from, or_cases, or_left, or_right}
use Rattle.std.proofs.lemmas.List.{map-append}
use Rattle.std.proofs.lemmas.List.Folds.{list_any-append}
use Rattle.svc_values.specs.declared.frame.Up.TheVariants as up
use Rattle.svc_values.specs.declared.frame.Down.{Down}
use Rattle.svc_values.specs.meaning.Same.{same_bool}
use Rattle.pool_core.specs.meaning.Slots.{Slots, give_back_answer}
use Rattle.client_model.specs.declared.input.Input.TheVariants.{Took}
use Rattle.client_model.specs.meaning.Terms.{Terms, Talk}
use Rattle.client_model.specs.meaning.Talk.{Step, on_hello, takes as taken_by}
use Rattle.outage_schedule.specs.declared.item.Served.{Served}
use Rattle.world_model.specs.meaning.Settings.{Setting}
use Rattle.world_model.specs.meaning.Frames.{Owner, Sent, Reply, Handled, up_size, whole_front}
use Rattle.world_model.specs.meaning.Links.{Link, new_link, sends, takes, is_orphan}
use Rattle.world_model.specs.meaning.Acting.{sent_by, call_in}
use Rattle.world_model.specs.meaning.Machines.{Machine}
use Rattle.world_model.specs.meaning.Serving.{Front, after_front, handled, is_last}
use Rattle.world_model.specs.meaning.Crashing.{fallen_link}
use Rattle.world_model.specs.meaning.Outside.{closed_by_drain}
use Rattle.world_model.specs.records.Basic.{at_most}
use Rattle.world_model.specs.records.Hold.{is_idle}
use Rattle.world_model.specs.Parts.{is_closed, implies}
use Rattle.world_model.specs.Sames.{same_sent, is_front}
use Rattle.world_model.specs.records.Wire.{up_of, nothing_cut, is_sent_front}
use Rattle.world_model.proofs.events.Tests.{eq_from, eq_to}
use Rattle.world_model.proofs.wire.SameSelf.{sent_self}
use Rattle.world_model.proofs.wire.FrontLists.{Begins, begins_behind, whole_begins, front_self, front_join, front_begun}
use Rattle.world_model.proofs.basic.Ends.{sends_alike, handled_alike, cut_case, fallen_case}
use Rattle.world_model.proofs.basic.LinkLives.{no_test, implied}
use Rattle.world_model.proofs.basic.LinkEnds.{ends_at}
use Rattle.world_model.proofs.wire.Saying.{has_next, said, dead_silent, is_hushed}
use Rattle.world_model.proofs.events.AllLinks.{IsFront, KeepsServed}
use Rattle.world_model.proofs.wire.SentLinks.{spoken_by, sends_none, KeepsSent}

-- SENDING -----------------------------------------------------------------------------------------

-- where a frame is taken, frames go out on an open connection alone
pub open_or_silent : (terms : Terms) (owner : Owner) (talk : Talk) (pool : Slots) (number : ℕ) (frame : Down) (alive : Bool) (now : ℕ)
    → (alive ≡ true) ⊎ (spoken_by owner pool number (taken_by terms talk talk.phase frame alive now) ≡ [])
open_or_silent terms owner talk pool number frame true now = inl refl
open_or_silent terms owner talk pool number frame false now =
    let step : Step = taken_by terms talk talk.phase frame false now in
    inr (ap (map (sent_by owner (call_in step.0.phase))) (dead_silent talk.phase (has_next talk) false (is_hushed frame) step.0.phase step.1.send step.1.hold (give_back_answer pool number) (said terms talk talk.phase frame false now refl) refl))

pub idle_open : (link : Link) → is_idle link ≡ true → link.is_open ≡ true
idle_open link idle = (and_parts link.is_open _ idle).0

module _ (test : Link → Bool) (event : ℕ) (sends_open : (frames : List Sent) (link : Link) → link.is_open ≡ true → test link ≡ true → test (sends event frames link) ≡ true) where
  -- a test that frames on an open connection keep
  pub said_open : (frames : List Sent) (link : Link) → (link.is_open ≡ true) ⊎ (frames ≡ []) → test link ≡ true → test (sends event frames link) ≡ true
  said_open frames link (inl opens) here = sends_open frames link opens here
  said_open frames link (inr none) here = subst (λ (one : Link). test one ≡ true) (sym (ap (λ (sent : List Sent). sends event sent link) none ∙ sends_none event link)) here

-- A FRONT OF WHAT WAS SENT ------------------------------------------------------------------------

abbrev sent_test : Bool → List Sent → List Sent → Bool
sent_test whole front sent = is_front same_sent front sent && implies whole (length front == length sent)

in_front : (whole : Bool) (front sent : List Sent) → sent_test whole front sent ≡ true → is_front same_sent front sent ≡ true
in_front whole front sent here = (and_parts (is_front same_sent front sent) (implies whole (length front == length sent)) here).0

-- it is asked of no more connections to be whole
fewer_whole : (whole fewer : Bool) (front sent : List Sent) → (fewer ≡ true → whole ≡ true) → sent_test whole front sent ≡ true → sent_test fewer front sent ≡ true
fewer_whole whole false front sent weaker here = and_from (is_front same_sent front sent) true (in_front whole front sent here) refl
fewer_whole whole true front sent weaker here =
    and_from (is_front same_sent front sent) (length front == length sent) (in_front whole front sent here)
    (implied whole (length front == length sent) (weaker refl) (and_parts (is_front same_sent front sent) (implies whole (length front == length sent)) here).1)

-- some of it is lost
less_front : (whole fewer : Bool) (less front sent : List Sent) → fewer ≡ false → Begins less front → sent_test whole front sent ≡ true → sent_test fewer less sent ≡ true
less_front whole true less front sent none b here = absurd (let never : ⊥ = cc in never)
less_front whole false less front sent none b here = and_from (is_front same_sent less sent) true (front_begun same_sent less front sent b (in_front whole front sent here)) refl

whole_more : (whole : Bool) (front sent frames : List Sent) → sent_test true front sent ≡ true → sent_test whole (front ++ frames) (sent ++ frames) ≡ true
whole_more whole front sent frames here =
    let parts = and_parts (is_front same_sent front sent) (length front == length sent) here in
    let same : length front ≡ length sent = eq_from (length front) (length sent) parts.1 in
    and_from (is_front same_sent (front ++ frames) (sent ++ frames)) (implies whole (length (front ++ frames) == length (sent ++ frames)))
    (front_join same_sent front sent frames frames parts.0 same (front_self same_sent sent_self frames))
    (or_right (not whole) (length (front ++ frames) == length (sent ++ frames))
    (eq_to (length (front ++ frames)) (length (sent ++ frames)) (length-append front frames ∙ (ap (λ (n : ℕ). n + length frames) same ∙ sym (length-append sent frames)))))

sent_more : (whole : Bool) (link : Link) (frames : List Sent) → link.is_open ≡ true → is_sent_front link ≡ true → sent_test whole (map (λ (one : Handled). one.sent) link.served ++ (link.up ++ frames)) (link.sent ++ frames) ≡ true
sent_more whole link frames opens here =
    let served : List Sent = map (λ (one : Handled). one.sent) link.served in
    subst (λ (front : List Sent). sent_test whole front (link.sent ++ frames) ≡ true) (append_assoc served link.up frames)
    (whole_more whole (served ++ link.up) link.sent frames
    (fewer_whole (nothing_cut link) true (up_of link) link.sent (λ is. or_left link.is_open (is_closed link && (link.is_living && not link.is_cut)) opens) here))

sends_sent : (event : ℕ) (frames : List Sent) (link : Link) → link.is_open ≡ true → is_sent_front link ≡ true → is_sent_front (sends event frames link) ≡ true
sends_sent event frames link opens here = sends_alike (λ one. is_sent_front one ≡ true) event frames link (sent_more _ link frames opens here) (sent_more _ link frames opens here)

-- which connections have lost nothing
still_whole : (o p closed l k cut : Bool) → (p ≡ true → o ≡ true) → (k ≡ true → l ≡ true) → (p || (closed && (k && not cut))) ≡ true → (o || (closed && (l && not cut))) ≡ true
still_whole o p closed l k cut opens lives is = by (or_cases p (closed && (k && not cut)) is)
  where
    by : (p ≡ true) ⊎ ((closed && (k && not cut)) ≡ true) → (o || (closed && (l && not cut))) ≡ true
    by (inl here) = or_left o (closed && (l && not cut)) (opens here)
    by (inr here) =
        let one = and_parts closed (k && not cut) here in
        let two = and_parts k (not cut) one.1 in
        or_right o (closed && (l && not cut)) (and_from closed (l && not cut) one.0 (and_from l (not cut) (lives two.0) two.1))

not_whole : (opens closed living cut : Bool) → opens ≡ false → (living && not cut) ≡ false → (opens || (closed && (living && not cut))) ≡ false
not_whole true closed living cut shut gone = absurd (let never : ⊥ = cc in never)
not_whole false true living cut shut gone = gone
not_whole false false living cut shut gone = refl

cut_off : (living : Bool) → (living && false) ≡ false
cut_off true = refl
cut_off false = refl

-- the frame that is served stands first of those that may be
moved_up : (front : Front) (one : Handled) → one.sent ≡ front.first → front.link.up ≡ front.first ∷ front.later → up_of front.link ≡ map (λ (h : Handled). h.sent) (front.link.served ++ one ∷ []) ++ front.later
moved_up front one is ups =
    let served : List Sent = map (λ (h : Handled). h.sent) front.link.served in
    let split : map (λ (h : Handled). h.sent) (front.link.served ++ one ∷ []) ≡ served ++ one.sent ∷ [] = map-append (λ (h : Handled). h.sent) front.link.served (one ∷ []) in
    ap (λ (ups : List Sent). served ++ ups) ups
    ∙ (ap (λ (first : Sent). served ++ first ∷ front.later) (sym is) ∙ (sym (append_assoc served (one.sent ∷ []) front.later) ∙ ap (λ (all : List Sent). all ++ front.later) (sym split)))

served_sent : (links : List Link) (number : ℕ) (front : Front) (served : Served) (reply : Option Down) (opens : Bool) → (opens ≡ true → front.link.is_open ≡ true) → IsFront links number front → is_sent_front front.link ≡ true
    → sent_test (opens || (is_closed front.link && (not (is_last served.item) && not front.link.is_cut))) (up_of (after_front front served reply)) front.link.sent ≡ true
served_sent links number front served reply opens weaker at here =
    let link : Link = front.link in
    let whole : Bool = opens || (is_closed link && (not (is_last served.item) && not link.is_cut)) in
    subst (λ (all : List Sent). sent_test whole all link.sent ≡ true) (moved_up front (record { sent = front.first; served = served; reply = reply }) refl at.up)
    (fewer_whole (nothing_cut link) whole (up_of link) link.sent (still_whole link.is_open opens (is_closed link) link.is_living (not (is_last served.item)) link.is_cut weaker (λ is. at.living)) here)

after_sent : (links : List Link) (number : ℕ) (front : Front) (served : Served) (reply : Option Down) → IsFront links number front → is_sent_front front.link ≡ true → is_sent_front (after_front front served reply) ≡ true
after_sent links number front served reply at here = served_sent links number front served reply front.link.is_open (λ is. is) at here

none_up : (link : Link) → Begins (map (λ (one : Handled). one.sent) link.served ++ []) (up_of link)
none_up link = begins_behind (map (λ (one : Handled). one.sent) link.served) [] link.up (record { rest = link.up; whole = refl })

fallen_sent : (event : ℕ) (link : Link) → is_sent_front link ≡ true → is_sent_front (fallen_link event link) ≡ true
fallen_sent event link here =
    fallen_case (λ one. is_sent_front one ≡ true) event link
    (λ opens. less_front (nothing_cut link) _ _ (up_of link) link.sent (not_whole false (is_closed link) false link.is_cut refl refl) (none_up link) here)
    (λ closed. less_front (nothing_cut link) _ _ (up_of link) link.sent (not_whole link.is_open (is_closed link) false link.is_cut closed refl) (none_up link) here)

cut_sent : (event up down : ℕ) (link : Link) → link.is_open ≡ true → is_sent_front link ≡ true
    → sent_test (false || (is_closed link && (link.is_living && not true))) (map (λ (one : Handled). one.sent) link.served ++ whole_front up_size up link.up) link.sent ≡ true
cut_sent event up down link opens here =
    less_front (nothing_cut link) _ _ (up_of link) link.sent (not_whole false (is_closed link) link.is_living true refl (cut_off link.is_living))
    (begins_behind (map (λ (one : Handled). one.sent) link.served) (whole_front up_size up link.up) link.up (whole_begins up_size up link.up)) here

reaped_sent : (link : Link) → is_sent_front link ≡ true → sent_test (link.is_open || (is_closed link && (false && not link.is_cut))) (up_of link) link.sent ≡ true
reaped_sent link here =
    fewer_whole (nothing_cut link) _ (up_of link) link.sent (still_whole link.is_open link.is_open (is_closed link) link.is_living false link.is_cut (λ is. is) (λ is. absurd (let never : ⊥ = cc in never))) here

sent_served : (m : Machine) → KeepsServed m no_test is_sent_front
sent_served m = record {
  at_serves = λ number front served at ordinary old here.
      handled_alike (λ one. is_sent_front one ≡ true) m.event front served (λ reply. served_sent m.links number front served reply false (λ is. absurd (let never : ⊥ = cc in never)) at here)
      (λ reply. after_sent m.links number front served reply at here);
  at_stops = λ number after front served at stopped old here. fallen_sent m.event (after_front front served None) (after_sent m.links number front served None at here);
  at_cuts = λ up down link opens here. cut_case (λ one. is_sent_front one ≡ true) m.event up down link opens (cut_sent m.event up down link opens here);
  at_reaps = λ link orphan here. reaped_sent link here;
  at_falls = λ link here. fallen_sent m.event link here;
}

pub sent_keeps : (setting : Setting) (m : Machine) → KeepsSent setting m no_test is_sent_front
sent_keeps setting m = record {
  at_opens = λ owner runs. sends_sent m.event (sent_by owner 0 up.Connect ∷ []) new_link refl refl;
  at_lends = λ owner doing ltxid pool number link ready waits strange idle old here. sends_sent m.event (spoken_by owner pool number (on_hello setting.terms doing.talk None ltxid true m.tick)) link (idle_open link idle) here;
  at_takes = λ owner doing pool number link reply left ready out down old here.
      said_open is_sent_front m.event (sends_sent m.event) (spoken_by owner pool number (taken_by setting.terms doing.talk doing.talk.phase reply.frame link.is_open m.tick)) (takes (Took reply.frame link.is_open) reply left link) (open_or_silent setting.terms owner doing.talk pool number reply.frame link.is_open m.tick) here;
  at_drains = λ link idle old here. sends_sent m.event (closed_by_drain ∷ []) link (idle_open link idle) here;
  served = sent_served m;
}

-- WHO MAY SERVE -----------------------------------------------------------------------------------

abbrev pub up_lives_on : Link → Bool
up_lives_on link = link.is_living || (list_any (λ one. is_last one.served.item) link.served || ((length link.up == 0) || link.is_cut))

-- the session of a connection that is open lives
pub open_living : (event : ℕ) (link : Link) → ends_at event link ≡ true → link.is_open ≡ true → link.is_living ≡ true
open_living event link here opens =
    let one = and_parts (same_bool link.is_open (is_none link.ended)) (at_most event link.ended && (implies (is_closed link || link.is_cut) (not link.is_open) && implies link.is_open link.is_living)) here in
    let two = and_parts (at_most event link.ended) (implies (is_closed link || link.is_cut) (not link.is_open) && implies link.is_open link.is_living) one.1 in
    implied link.is_open link.is_living opens (and_parts (implies (is_closed link || link.is_cut) (not link.is_open)) (implies link.is_open link.is_living) two.1).1

sends_lives : (event : ℕ) (frames : List Sent) (link : Link) → link.is_living ≡ true → up_lives_on (sends event frames link) ≡ true
sends_lives event frames link living =
    let lives : (link.is_living || (list_any (λ one. is_last one.served.item) link.served || ((length (link.up ++ frames) == 0) || link.is_cut))) ≡ true =
    or_left link.is_living (list_any (λ one. is_last one.served.item) link.served || ((length (link.up ++ frames) == 0) || link.is_cut)) living in
    sends_alike (λ one. up_lives_on one ≡ true) event frames link lives lives

served_lives : (front : Front) (served : Served) (reply : Option Down) → up_lives_on (after_front front served reply) ≡ true
served_lives front served reply = by (is_last served.item) refl
  where
    one : Handled
    one = record { sent = front.first; served = served; reply = reply }

    last : Handled → Bool
    last handled = is_last handled.served.item

    rest : Bool
    rest = (length front.later == 0) || front.link.is_cut

    by : (test : Bool) → is_last served.item ≡ test → (not (is_last served.item) || (list_any last (front.link.served ++ one ∷ []) || rest)) ≡ true
    by false is = or_left (not (is_last served.item)) (list_any last (front.link.served ++ one ∷ []) || rest) (ap not is)
    by true is =
        or_right (not (is_last served.item)) (list_any last (front.link.served ++ one ∷ []) || rest)
        (or_left (list_any last (front.link.served ++ one ∷ [])) rest
        (list_any-append last front.link.served (one ∷ []) ∙ or_right (list_any last front.link.served) (is_last served.item || false) (or_left (is_last served.item) false is)))

fallen_lives : (event : ℕ) (link : Link) → up_lives_on (fallen_link event link) ≡ true
fallen_lives event link =
    let lives : (list_any (λ one. is_last one.served.item) link.served || true) ≡ true = or_right (list_any (λ one. is_last one.served.item) link.served) true refl in
    fallen_case (λ one. up_lives_on one ≡ true) event link (λ opens. lives) (λ closed. lives)

cut_lives : (link : Link) (living : Bool) (ups : List Sent) → (living || (list_any (λ one. is_last one.served.item) link.served || ((length ups == 0) || true))) ≡ true
cut_lives link living ups =
    let any : Bool = list_any (λ one. is_last one.served.item) link.served in
    or_right living (any || ((length ups == 0) || true)) (or_right any ((length ups == 0) || true) (or_right (length ups == 0) true refl))

reaped_lives : (link : Link) → is_orphan link ≡ true → (list_any (λ one. is_last one.served.item) link.served || ((length link.up == 0) || link.is_cut)) ≡ true
reaped_lives link orphan =
    let any : Bool = list_any (λ one. is_last one.served.item) link.served in
    or_right any ((length link.up == 0) || link.is_cut) (or_right (length link.up == 0) link.is_cut (and_parts link.is_living link.is_cut orphan).1)

taken_lives : (setting : Setting) (m : Machine) (last : ℕ) (owner : Owner) (talk : Talk) (pool : Slots) (number : ℕ) (link : Link) (reply : Reply) (left : List Reply) → ends_at last link ≡ true → up_lives_on link ≡ true
    → up_lives_on (sends m.event (spoken_by owner pool number (taken_by setting.terms talk talk.phase reply.frame link.is_open m.tick)) (takes (Took reply.frame link.is_open) reply left link)) ≡ true
taken_lives setting m last owner talk pool number link reply left old here = by (open_or_silent setting.terms owner talk pool number reply.frame link.is_open m.tick)
  where
    taken : Link
    taken = takes (Took reply.frame link.is_open) reply left link

    frames : List Sent
    frames = spoken_by owner pool number (taken_by setting.terms talk talk.phase reply.frame link.is_open m.tick)

    by : (link.is_open ≡ true) ⊎ (frames ≡ []) → up_lives_on (sends m.event frames taken) ≡ true
    by (inl opens) = sends_lives m.event frames taken (open_living last link old opens)
    by (inr none) = subst (λ (one : Link). up_lives_on one ≡ true) (sym (ap (λ (sent : List Sent). sends m.event sent taken) none ∙ sends_none m.event taken)) here

lives_served : (m : Machine) (last : ℕ) → KeepsServed m (ends_at last) up_lives_on
lives_served m last = record {
  at_serves = λ number front served at ordinary old here. handled_alike (λ one. up_lives_on one ≡ true) m.event front served (λ reply. served_lives front served reply) (λ reply. served_lives front served reply);
  at_stops = λ number after front served at stopped old here. fallen_lives m.event (after_front front served None);
  at_cuts = λ up down link opens here. cut_case (λ one. up_lives_on one ≡ true) m.event up down link opens (cut_lives link link.is_living (whole_front up_size up link.up));
  at_reaps = λ link orphan here. reaped_lives link orphan;
  at_falls = λ link here. fallen_lives m.event link;
}

pub lives_keep : (setting : Setting) (m : Machine) (last : ℕ) → KeepsSent setting m (ends_at last) up_lives_on
lives_keep setting m last = record {
  at_opens = λ owner runs. sends_lives m.event (sent_by owner 0 up.Connect ∷ []) new_link refl;
  at_lends = λ owner doing ltxid pool number link ready waits strange idle old here. sends_lives m.event (spoken_by owner pool number (on_hello setting.terms doing.talk None ltxid true m.tick)) link (open_living last link old (idle_open link idle));
  at_takes = λ owner doing pool number link reply left ready out down old here. taken_lives setting m last owner doing.talk pool number link reply left old here;
  at_drains = λ link idle old here. sends_lives m.event (closed_by_drain ∷ []) link (open_living last link old (idle_open link idle));
  served = lives_served m last;
}
