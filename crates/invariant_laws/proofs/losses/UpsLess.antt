-- What may still be served on a connection: frames come to it from a request that speaks on it
-- alone, and so nothing of another request does.
use Rattle.std.proofs.Common.{◌≡◌, ◌≢◌, refl, sym, ap, subst, ◌∙◌, Bool, true, false, ℕ, ◌-◌, List, [], ◌∷◌, ◌++◌, map, fold, Option, Some, None, ◌⊎◌, inl, inr, if◌then◌else◌}
use Rattle.std.specs.Prelude.{nat_le}
use Rattle.std.specs.List.{list_any}
use Rattle.std.proofs.lemmas.List.Folds.{list_any-append}
use Rattle.std.proofs.lemmas.Bool.{or_from, or_parts}
use Rattle.svc_values.specs.declared.frame.Up.{Up}
use Rattle.outage_schedule.specs.declared.item.Served.{Served}
use Rattle.pool_core.specs.meaning.Slots.{Slots, after_take}
use Rattle.client_model.specs.declared.input.Input.{Input}
use Rattle.client_model.specs.declared.input.Input.TheVariants.{Waiting, Lent, TryFailed, Took}
use Rattle.world_model.specs.meaning.Settings.{Setting}
use Rattle.world_model.specs.meaning.Frames.{Sent, whole_front, up_size}
use Rattle.world_model.specs.meaning.Links.{Link, link_at, with_link, changed, sends, takes}
use Rattle.world_model.specs.meaning.Clients.{Doing, doing_at, heard, step_at}
use Rattle.world_model.specs.meaning.Acting.{frames_of, call_in, sent_by, owner_at, connection_of, steps}
use Rattle.world_model.specs.meaning.Machines.{Machine}
use Rattle.world_model.specs.meaning.Matching.{Noted}
use Rattle.world_model.specs.meaning.Going.{lost_at_once}
use Rattle.world_model.specs.meaning.Serving.{Front, after_front, handled}
use Rattle.world_model.specs.meaning.Cutting.{cut_link, reaped_link}
use Rattle.world_model.specs.meaning.Crashing.{fallen_link, falls}
use Rattle.world_model.specs.meaning.Outside.{closed_by_drain}
use Rattle.world_model.proofs.Offered.{front_is, open_is, sends_alike, ends_case, handled_case, cut_case, fallen_case, with_others, with_own, changed_own, new_others, Goes, Rests, Waits, Lends, Opens, MovesFails as Fails, Takes, Loses, takes_one, ServesLast, LastNone, LastStopped, LastServed, Happens, Nothing, IsStep, Serves, Cuts, Reaps, Crashes, OpensUp, StopsOpening, Ticks, RunsOutside, MovesAsks as Asks, Drains, changed_others, either, some_same}
use Rattle.invariant_laws.proofs.losses.ShutStays.{mapped_at}

module _ (test : Sent → Bool) where
  pub none_both : (xs ys : List Sent) → list_any test xs ≡ false → list_any test ys ≡ false → list_any test (xs ++ ys) ≡ false
  none_both xs ys one other = list_any-append test xs ys ∙ or_from (list_any test xs) (list_any test ys) one other

  none_front : (bytes : ℕ) (sents : List Sent) → list_any test sents ≡ false → list_any test (whole_front up_size bytes sents) ≡ false
  none_front bytes [] none = refl
  none_front bytes (first ∷ later) none = by (nat_le (up_size first) bytes) (or_parts (test first) (list_any test later) none) (λ less rest. none_front less later rest)
    where
      by : (fits : Bool) → (test first ≡ false) × (list_any test later ≡ false) → ((less : ℕ) → list_any test later ≡ false → list_any test (whole_front up_size less later) ≡ false)
          → list_any test (if fits then first ∷ whole_front up_size (bytes - up_size first) later else []) ≡ false
      by true parts rest = or_from (test first) (list_any test (whole_front up_size (bytes - up_size first) later)) parts.0 (rest (bytes - up_size first) parts.1)
      by false parts rest = refl

  -- nothing that passes the test may be served, where nothing did before
  pub record IsLess (a b : Link) : Type 0 where
    pub less : list_any test a.up ≡ false → list_any test b.up ≡ false

  -- the connection of this number is there, and so is this
  pub record HasLess (links : List Link) (number : ℕ) (link : Link) : Type 0 where
    pub now : Link
    pub there : link_at links number ≡ Some now
    pub same : IsLess link now

  self_less : (link : Link) → IsLess link link
  self_less link = record { less = λ none. none }

  as_before : (links : List Link) (number : ℕ) (link : Link) → link_at links number ≡ Some link → HasLess links number link
  as_before links number link there = record { now = link; there = there; same = self_less link }

  -- LISTS -----------------------------------------------------------------------------------------

  set_less : (links : List Link) (at : ℕ) (old new : Link) → link_at links at ≡ Some old → IsLess old new → (number : ℕ) (link : Link) → link_at links number ≡ Some link → HasLess (with_link links at new) number link
  set_less links at old new is less number link there = by (either number at)
    where
      by : (number ≡ at) ⊎ (number ≢ at) → HasLess (with_link links at new) number link
      by (inr apart) = record { now = link; there = with_others links at number new apart ∙ there; same = self_less link }
      by (inl same) =
          let equal : old ≡ link = some_same (link_at links at) old link is (ap (link_at links) (sym same) ∙ there) in
          record { now = new; there = ap (link_at (with_link links at new)) same ∙ with_own links at old new is; same = subst (λ (one : Link). IsLess one new) equal less }

  changed_less : (change : Link → Link) (links : List Link) (at : ℕ) → ((link : Link) → IsLess link (change link)) → (number : ℕ) (link : Link) → link_at links number ≡ Some link → HasLess (changed change links at) number link
  changed_less change links at less number link there = by (either number at)
    where
      by : (number ≡ at) ⊎ (number ≢ at) → HasLess (changed change links at) number link
      by (inr apart) = record { now = link; there = changed_others change links at number apart ∙ there; same = self_less link }
      by (inl same) = record { now = change link; there = ap (link_at (changed change links at)) same ∙ changed_own change links at link (ap (link_at links) (sym same) ∙ there); same = less link }

  then_less : (links later : List Link) (number : ℕ) (link : Link) (first : HasLess links number link) → HasLess later number first.now → HasLess later number link
  then_less links later number link first second = record { now = second.now; there = second.there; same = record { less = λ none. second.same.less (first.same.less none) } }

  mapped_less : (change : Link → Link) (links : List Link) → ((link : Link) → IsLess link (change link)) → (number : ℕ) (link : Link) → HasLess links number link → HasLess (map change links) number link
  mapped_less change links less number link has =
      then_less links (map change links) number link has (record { now = change has.now; there = mapped_at change links number has.now has.there; same = less has.now })

  -- CHANGES ---------------------------------------------------------------------------------------

  pub sends_less : (event : ℕ) (frames : List Sent) → list_any test frames ≡ false → (link : Link) → IsLess link (sends event frames link)
  sends_less event frames none link =
      sends_alike (IsLess link) event frames link (record { less = λ before. none_both link.up frames before none }) (record { less = λ before. none_both link.up frames before none })

  fallen_less : (event : ℕ) (link : Link) → IsLess link (fallen_link event link)
  fallen_less event link = fallen_case (IsLess link) event link (λ opens. record { less = λ before. refl }) (λ closed. record { less = λ before. refl })

  later_less : (front : Front) (next : Link) → front.link.up ≡ front.first ∷ front.later → next.up ≡ front.later → IsLess front.link next
  later_less front next up is =
      record { less = λ before. ap (list_any test) is ∙ (or_parts (test front.first) (list_any test front.later) (sym (ap (list_any test) up) ∙ before)).1 }

  handled_less : (event : ℕ) (front : Front) (served : Served) → front.link.up ≡ front.first ∷ front.later → IsLess front.link (handled event front served)
  handled_less event front served up =
      handled_case (IsLess front.link) event front served
      (λ reply blocked. ends_case (IsLess front.link) event (after_front front served reply) (λ opens. later_less front _ up refl) (λ closed. later_less front _ up refl)) (λ reply blocked. later_less front _ up refl)

  each_less : (change : Link → Link) → ((link : Link) → IsLess link (change link)) → (links : List Link) (numbers : List ℕ) (number : ℕ) (link : Link) → link_at links number ≡ Some link → HasLess (fold (changed change) links numbers) number link
  each_less change less links [] number link there = as_before links number link there
  each_less change less links (other ∷ numbers) number link there =
      let first : HasLess (changed change links other) number link = changed_less change links other less number link there in
      then_less (changed change links other) (fold (changed change) (changed change links other) numbers) number link first (each_less change less (changed change links other) numbers number first.now first.there)

  -- EVENTS ----------------------------------------------------------------------------------------

  module _ (setting : Setting) (m : Machine) (closes : test closed_by_drain ≡ false) (quiet : (who call : ℕ) (frame : Up) → test (sent_by (owner_at m who) call frame) ≡ false) where
    said_none : (who call : ℕ) (frames : List Up) → list_any test (map (sent_by (owner_at m who) call) frames) ≡ false
    said_none who call [] = refl
    said_none who call (frame ∷ frames) = or_from (test (sent_by (owner_at m who) call frame)) (list_any test (map (sent_by (owner_at m who) call) frames)) (quiet who call frame) (said_none who call frames)

    unless_same : (a : Machine) (who : ℕ) (ended : Option ℕ) (doing : Option Doing) (opens : Bool) → (if opens then a else lost_at_once setting a who ended doing).links ≡ a.links
    unless_same a who ended doing true = refl
    unless_same a who ended None false = refl
    unless_same a who ended (Some doing) false = refl

    -- where a client hears an input, over these connections and this pool
    steps_less : (links : List Link) (pool : Slots) (who : ℕ) (doing : Doing) (slot : Bool) (input : Input) (number : ℕ) (link : Link) → link_at links number ≡ Some link
        → HasLess (steps setting (record m { links = links; pool = pool }) who doing slot input).links number link
    steps_less links pool who doing slot input number link there =
        let next : Doing = heard setting.terms m.event m.tick doing input in
        let call : ℕ = call_in next.talk.phase in
        let frames : List Up = frames_of pool (connection_of next) (step_at setting.terms m.event m.tick doing input).done.act in
        changed_less (sends m.event (map (sent_by (owner_at m who) call) frames)) links (connection_of doing) (sends_less m.event (map (sent_by (owner_at m who) call) frames) (said_none who call frames)) number link there

    goes_less : (who : ℕ) (n : Machine) → Goes setting m who n → (number : ℕ) (link : Link) → link_at m.links number ≡ Some link → HasLess n.links number link
    goes_less who _ Rests number link there = as_before m.links number link there
    goes_less who _ (Waits doing is answer) number link there = steps_less m.links (after_take m.pool who) who doing false Waiting number link there
    goes_less who _ (Lends doing connection other ltxid is answer at held) number link there = steps_less m.links (after_take m.pool who) who (record doing { connection = Some connection }) true (Lent connection ltxid) number link there
    goes_less who _ (Opens doing wanted pool is tries runs) number link there = record { now = link; there = new_others _ m.links number link there; same = self_less link }
    goes_less who _ (Fails doing wanted pool is tries down) number link there = steps_less m.links pool who doing true TryFailed number link there
    goes_less who _ (Takes doing connection other reply left is on down) number link there =
        let a : Machine = takes_one setting m who doing connection other reply left in
        let taken : Link = takes (Took reply.frame other.is_open) reply left other in
        let first : HasLess (with_link m.links connection taken) number link = set_less m.links connection other taken on.there (record { less = λ before. before }) number link there in
        let second : HasLess a.links number first.now = steps_less (with_link m.links connection taken) m.pool who doing true (Took reply.frame other.is_open) number first.now first.there in
        let both : HasLess a.links number link = then_less (with_link m.links connection taken) a.links number link first second in
        subst (λ (links : List Link). HasLess links number link) (sym (unless_same a who other.ended (doing_at a.clients who) other.is_open)) both
    goes_less who _ (Loses doing connection other is on none closed) number link there = as_before m.links number link there

    last_less : (at after : ℕ) (failover : Bool) (items left : List Served) (a : Machine) → ServesLast m at after items left a → (number : ℕ) (link : Link) → link_at m.links number ≡ Some link → HasLess (falls failover a).links number link
    last_less at after failover items left _ (LastNone same) number link there = mapped_less (fallen_link m.event) m.links (fallen_less m.event) number link (as_before m.links number link there)
    last_less at after failover items left _ (LastStopped front served is stopped same) number link there =
        let new : Link = after_front front served None in
        mapped_less (fallen_link m.event) (with_link m.links at new) (fallen_less m.event) number link
        (set_less m.links at front.link new (front_is m.links at front is).there (later_less front new (front_is m.links at front is).up refl) number link there)
    last_less at after failover items left _ (LastServed front served is over same) number link there =
        let new : Link = handled m.event front served in
        mapped_less (fallen_link m.event) (with_link m.links at new) (fallen_less m.event) number link
        (set_less m.links at front.link new (front_is m.links at front is).there (handled_less m.event front served (front_is m.links at front is).up) number link there)

    pub happens_less : (items left : List Served) (happened : Noted) (n : Machine) → Happens setting m items left happened n → (number : ℕ) (link : Link) → link_at m.links number ≡ Some link → HasLess n.links number link
    happens_less items left happened _ (Nothing kind other) number link there = as_before m.links number link there
    happens_less items left happened n (IsStep who did _ moves) number link there = goes_less who n moves number link there
    happens_less items left happened _ (Serves at frame front served is ordinary same) number link there =
        set_less m.links at front.link (handled m.event front served) (front_is m.links at front is).there (handled_less m.event front served (front_is m.links at front is).up) number link there
    happens_less items left happened _ (Cuts at up down reached other is) number link there =
        let opens = open_is m.links at other is in
        set_less m.links at other (cut_link m.event up down other) opens.there
        (cut_case (IsLess other) m.event up down other opens.open_now (record { less = λ before. none_front up other.up before })) number link there
    happens_less items left happened _ (Reaps at reaped orphan) number link there = changed_less reaped_link m.links at (λ one. record { less = λ before. before }) number link there
    happens_less items left happened _ (Crashes at after failover down a runs last) number link there = last_less at after failover items left a last number link there
    happens_less items left happened _ (OpensUp incarnation down may) number link there = as_before m.links number link there
    happens_less items left happened _ (StopsOpening made down) number link there = as_before m.links number link there
    happens_less items left happened _ Ticks number link there = as_before m.links number link there
    happens_less items left happened _ (RunsOutside ran runs) number link there = as_before m.links number link there
    happens_less items left happened _ (Asks ltxid result runs) number link there = as_before m.links number link there
    happens_less items left happened n (Drains closed) number link there =
        each_less (sends m.event (closed_by_drain ∷ [])) (sends_less m.event (closed_by_drain ∷ []) (or_from (test closed_by_drain) false closes refl)) m.links m.pool.idle number link there
