-- What each connection becomes in an event.
use Rattle.std.proofs.Common.{◌≡◌, ◌≢◌, refl, sym, ap, subst, ◌∙◌, Bool, true, false, ℕ, suc, zero, ◌+◌, length, List, [], ◌∷◌, ◌++◌, map, fold, Option, Some, None, ◌⊎◌, inl, inr, add-one, if◌then◌else◌}
use Rattle.std.specs.Prelude.{◌==◌, slice_get, unwrap_or}
use Rattle.std.specs.List.{list_all}
use Rattle.std.specs.Option.{option_map_or}
use Rattle.std.proofs.lemmas.Bool.{and_parts}
use Rattle.svc_values.specs.declared.frame.Up.TheVariants as up
use Rattle.client_model.specs.declared.input.Input.TheVariants.{Took}
use Rattle.client_model.specs.meaning.Talk.{on_hello, waits_from, takes as taken_by}
use Rattle.pool_core.specs.meaning.Slots.{after_take}
use Rattle.outage_schedule.specs.declared.note.FrameName.{FrameName}
use Rattle.outage_schedule.specs.declared.item.Served.{Served}
use Rattle.world_model.specs.meaning.Settings.{Setting}
use Rattle.world_model.specs.meaning.Frames.{Owner, Sent, Reply}
use Rattle.world_model.specs.meaning.Links.{Link, new_link, link_at, with_link, changed, sends, takes}
use Rattle.world_model.specs.meaning.Clients.{Doing, doing_at}
use Rattle.world_model.specs.meaning.Acting.{sent_by, owner_at, connection_of}
use Rattle.world_model.specs.meaning.Machines.{Machine}
use Rattle.world_model.specs.meaning.Matching.{Noted, ServedOn, Reaped, Crashed}
use Rattle.world_model.specs.meaning.Going.{lost_at_once}
use Rattle.world_model.specs.meaning.Serving.{Front, front_at, is_ordinary, after_front, handled}
use Rattle.world_model.specs.meaning.Cutting.{cut_link, reaped_link}
use Rattle.world_model.specs.meaning.Crashing.{is_stopped, is_over, fallen_link, falls}
use Rattle.world_model.specs.meaning.Outside.{closed_by_drain}
use Rattle.world_model.specs.records.Hold.{is_idle}
use Rattle.world_model.specs.Parts.{is_out}
use Rattle.world_model.specs.Sames.{all_with, each_pair}
use Rattle.world_model.proofs.script.Recalling.{get_last}
use Rattle.world_model.proofs.events.Tests.{eq_from, eq_to}
use Rattle.world_model.proofs.events.AllLinks.{front_is, open_is}
use Rattle.world_model.proofs.wire.LinkOut.{awaits_out}
use Rattle.world_model.proofs.events.Lookups.{with_others, with_own, changed_own}
use Rattle.world_model.proofs.events.Others.{changed_others}
use Rattle.world_model.proofs.events.Moves.{next_number, Goes, Rests, Waits, Lends, Opens, Fails, Takes, Loses, takes_one, ServesLast, LastNone, LastStopped, LastServed, Happens, Nothing, IsStep, Serves, Cuts, Reaps, Crashes, OpensUp, StopsOpening, Ticks, RunsOutside, Asks, Drains}
use Rattle.world_model.proofs.wire.SentLinks.{IsHeld, spoken_by, sends_none, lent_idle, waiting_silent, failed_silent, differ, passes_at, still_pass, differs_from}
use Rattle.world_model.proofs.script.Strangers.{frame_now}

-- THE CASES ---------------------------------------------------------------------------------------

-- The connection of this number becomes another, and by what.
pub data Turns (m : Machine) (items left : List Served) (kind : Noted) (number : ℕ) : Link → Link → Type 0 where
  Stays : (link : Link) → Turns m items left kind number link link
  -- lent, or closed by a drain
  IsSaid : (frames : List Sent) (link : Link) → is_idle link ≡ true → Turns m items left kind number link (sends m.event frames link)
  IsTaken : (frames : List Sent) (reply : Reply) (later : List Reply) (link : Link) → is_out link ≡ true → link.down ≡ reply ∷ later → Turns m items left kind number link (sends m.event frames (takes (Took reply.frame link.is_open) reply later link))
  IsServed : (frame : Option FrameName) (front : Front) (served : Served) → kind ≡ ServedOn number frame → front_at m.links number ≡ Some front → is_ordinary m front served ≡ true → items ≡ served ∷ left
      → Turns m items left kind number front.link (handled m.event front served)
  IsCut : (up down : ℕ) (link : Link) → link.is_open ≡ true → Turns m items left kind number link (cut_link m.event up down link)
  IsReaped : (other : ℕ) (reaped : Bool) (link : Link) → kind ≡ Reaped other reaped → Turns m items left kind number link (reaped_link link)
  HasFallen : (other after : ℕ) (failover down : Bool) (link : Link) → kind ≡ Crashed other after failover down → (number ≢ other) ⊎ (items ≡ left) → Turns m items left kind number link (fallen_link m.event link)
  WasStopped : (after : ℕ) (failover down : Bool) (front : Front) (served : Served) → kind ≡ Crashed number after failover down → front_at m.links number ≡ Some front → is_stopped m after front served ≡ true → items ≡ served ∷ left
      → Turns m items left kind number front.link (fallen_link m.event (after_front front served None))
  WasServed : (after : ℕ) (failover down : Bool) (front : Front) (served : Served) → kind ≡ Crashed number after failover down → front_at m.links number ≡ Some front → is_over m after front served ≡ true → items ≡ served ∷ left
      → Turns m items left kind number front.link (fallen_link m.event (handled m.event front served))

-- It is a new one, or comes from that of its number.
pub data ComesFrom (m : Machine) (items left : List Served) (kind : Noted) (number : ℕ) (next : Link) : Type 0 where
  IsNew : (owner : Owner) → next ≡ sends m.event (sent_by owner 0 up.Connect ∷ []) new_link → ComesFrom m items left kind number next
  IsOld : (link : Link) → link_at m.links number ≡ Some link → Turns m items left kind number link next → ComesFrom m items left kind number next

-- LOOKUPS -----------------------------------------------------------------------------------------

same_or_not : (a b : ℕ) → (test : Bool) → (a == b) ≡ test → (a ≡ b) ⊎ (a ≢ b)
same_or_not a b true is = inl (eq_from a b is)
same_or_not a b false is = inr (λ same. let yes_is : (a == b) ≡ true = eq_to a b same in let none : ⊥ = cc in none)

pub either : (a b : ℕ) → (a ≡ b) ⊎ (a ≢ b)
either a b = same_or_not a b (a == b) refl

pub some_same : (found : Option Link) (a b : Link) → found ≡ Some a → found ≡ Some b → a ≡ b
some_same found a b one other = let same : Some a ≡ Some b = sym one ∙ other in let is : a ≡ b = cc in is

mapped_back : (change : Link → Link) (links : List Link) (index : ℕ) (next : Link) → slice_get (map change links) index ≡ Some next → (link : Link) × ((slice_get links index ≡ Some link) × (next ≡ change link))
mapped_back change [] index next is = absurd (let none : ⊥ = cc in none)
mapped_back change (first ∷ links) zero next is = (first, (refl, (let same : next ≡ change first = cc in same)))
mapped_back change (first ∷ links) (suc index) next is = mapped_back change links index next is

pub fallen_at : (change : Link → Link) (links : List Link) (number : ℕ) (next : Link) → link_at (map change links) number ≡ Some next → (link : Link) × ((link_at links number ≡ Some link) × (next ≡ change link))
fallen_at change links zero next is = absurd (let none : ⊥ = cc in none)
fallen_at change links (suc index) next is = mapped_back change links index next is

not_last : (links : List Link) (new next : Link) (index : ℕ) → slice_get (links ++ new ∷ []) index ≡ Some next → index ≢ length links → slice_get links index ≡ Some next
not_last [] new next zero is differ = absurd (differ refl)
not_last [] new next (suc index) is differ = absurd (let none : ⊥ = cc in none)
not_last (first ∷ links) new next zero is differ = is
not_last (first ∷ links) new next (suc index) is differ = not_last links new next index is (λ same. differ (ap suc same))

older : (links : List Link) (new next : Link) (number : ℕ) → link_at (links ++ new ∷ []) number ≡ Some next → number ≢ length links + 1 → link_at links number ≡ Some next
older links new next zero is differ = absurd (let none : ⊥ = cc in none)
older links new next (suc index) is differ = not_last links new next index is (λ same. differ (ap suc same ∙ sym (add-one (length links))))

module _ (m : Machine) (items left : List Served) (kind : Noted) where
  stays : (number : ℕ) (next : Link) → link_at m.links number ≡ Some next → ComesFrom m items left kind number next
  stays number next is = IsOld next is (Stays next)

  -- one is changed
  by_change : (change : Link → Link) (at : ℕ) (number : ℕ) (next : Link) → link_at (changed change m.links at) number ≡ Some next
      → ((link : Link) → link_at m.links at ≡ Some link → Turns m items left kind at link (change link)) → ComesFrom m items left kind number next
  by_change change at number next is turn = by (either number at) (link_at m.links at) refl
    where
      by : (number ≡ at) ⊎ (number ≢ at) → (found : Option Link) → link_at m.links at ≡ found → ComesFrom m items left kind number next
      by (inr apart) found there = stays number next (sym (changed_others change m.links at number apart) ∙ is)
      by (inl same) None there =
          absurd (let gone : link_at m.links at ≡ Some next = sym (ap (λ (f : Option Link). link_at (option_map_or (λ one. with_link m.links at (change one)) f m.links) at) there) ∙ (ap (λ (n : ℕ). link_at (changed change m.links at) n) (sym same) ∙ is) in
          let never : None ≡ Some next = sym there ∙ gone in let none : ⊥ = cc in none)
      by (inl same) (Some link) there =
          let own : link_at (changed change m.links at) number ≡ Some (change link) = ap (λ (n : ℕ). link_at (changed change m.links at) n) same ∙ changed_own change m.links at link there in
          let equal : change link ≡ next = some_same (link_at (changed change m.links at) number) (change link) next own is in
          IsOld link (ap (link_at m.links) same ∙ there) (subst (λ (n : ℕ). Turns m items left kind n link next) (sym same) (subst (Turns m items left kind at link) equal (turn link there)))

  -- one is set
  by_set : (at : ℕ) (old new : Link) (number : ℕ) (next : Link) → link_at m.links at ≡ Some old → link_at (with_link m.links at new) number ≡ Some next → Turns m items left kind at old new → ComesFrom m items left kind number next
  by_set at old new number next there is turn = by (either number at)
    where
      by : (number ≡ at) ⊎ (number ≢ at) → ComesFrom m items left kind number next
      by (inr apart) = stays number next (sym (with_others m.links at number new apart) ∙ is)
      by (inl same) =
          let own : link_at (with_link m.links at new) number ≡ Some new = ap (λ (n : ℕ). link_at (with_link m.links at new) n) same ∙ with_own m.links at old new there in
          let equal : new ≡ next = some_same (link_at (with_link m.links at new) number) new next own is in
          IsOld old (ap (link_at m.links) same ∙ there) (subst (λ (n : ℕ). Turns m items left kind n old next) (sym same) (subst (Turns m items left kind at old) equal turn))

  -- nothing is said
  silent : (frames : List Sent) (at number : ℕ) (next : Link) → frames ≡ [] → link_at (changed (sends m.event frames) m.links at) number ≡ Some next → ComesFrom m items left kind number next
  silent frames at number next none is =
      by_change (sends m.event frames) at number next is (λ link there. subst (Turns m items left kind at link) (sym (ap (λ (sent : List Sent). sends m.event sent link) none ∙ sends_none m.event link)) (Stays link))

  -- a new one is opened
  opens : (owner : Owner) (number : ℕ) (next : Link) → link_at (changed (sends m.event (sent_by owner 0 up.Connect ∷ [])) (m.links ++ new_link ∷ []) (next_number m)) number ≡ Some next → ComesFrom m items left kind number next
  opens owner number next is = by (either number (next_number m))
    where
      change : Link → Link
      change = sends m.event (sent_by owner 0 up.Connect ∷ [])

      new : link_at (m.links ++ new_link ∷ []) (next_number m) ≡ Some new_link
      new = ap (λ (n : ℕ). link_at (m.links ++ new_link ∷ []) n) (add-one (length m.links)) ∙ get_last m.links new_link

      by : (number ≡ next_number m) ⊎ (number ≢ next_number m) → ComesFrom m items left kind number next
      by (inr apart) = stays number next (older m.links new_link next number (sym (changed_others change (m.links ++ new_link ∷ []) (next_number m) number apart) ∙ is) apart)
      by (inl same) =
          let own : link_at (changed change (m.links ++ new_link ∷ []) (next_number m)) number ≡ Some (change new_link) =
          ap (λ (n : ℕ). link_at (changed change (m.links ++ new_link ∷ []) (next_number m)) n) same ∙ changed_own change (m.links ++ new_link ∷ []) (next_number m) new_link new in
          IsNew owner (sym (some_same (link_at (changed change (m.links ++ new_link ∷ []) (next_number m)) number) (change new_link) next own is))

  -- a reply is taken, and then frames are sent
  by_taken : (frames : List Sent) (reply : Reply) (later : List Reply) (at now : ℕ) (link : Link) (number : ℕ) (next : Link) → now ≡ at → link_at m.links at ≡ Some link → is_out link ≡ true → link.down ≡ reply ∷ later
      → link_at (changed (sends m.event frames) (with_link m.links at (takes (Took reply.frame link.is_open) reply later link)) now) number ≡ Some next → ComesFrom m items left kind number next
  by_taken frames reply later at now link number next equal there out down is = by (either number at)
    where
      taken : Link
      taken = takes (Took reply.frame link.is_open) reply later link

      here : link_at (changed (sends m.event frames) (with_link m.links at taken) at) number ≡ Some next
      here = ap (λ (n : ℕ). link_at (changed (sends m.event frames) (with_link m.links at taken) n) number) (sym equal) ∙ is

      by : (number ≡ at) ⊎ (number ≢ at) → ComesFrom m items left kind number next
      by (inr apart) = stays number next (sym (changed_others (sends m.event frames) (with_link m.links at taken) at number apart ∙ with_others m.links at number taken apart) ∙ here)
      by (inl same) =
          let own : link_at (changed (sends m.event frames) (with_link m.links at taken) at) number ≡ Some (sends m.event frames taken) =
          ap (λ (n : ℕ). link_at (changed (sends m.event frames) (with_link m.links at taken) at) n) same ∙ changed_own (sends m.event frames) (with_link m.links at taken) at taken (with_own m.links at link taken there) in
          let equals : sends m.event frames taken ≡ next = some_same (link_at (changed (sends m.event frames) (with_link m.links at taken) at) number) (sends m.event frames taken) next own here in
          IsOld link (ap (link_at m.links) same ∙ there) (subst (Turns m items left kind number link) equals (IsTaken frames reply later link out down))

  -- each of these is changed once
  all_apart : (number : ℕ) (numbers : List ℕ) → all_with (differ number) numbers ≡ true → (change : Link → Link) (links : List Link) → link_at (fold (changed change) links numbers) number ≡ link_at links number
  all_apart number [] apart change links = refl
  all_apart number (other ∷ numbers) apart change links =
      let parts = and_parts (differ number other) (all_with (differ number) numbers) apart in
      all_apart number numbers parts.1 change (changed change links other) ∙ changed_others change links other number (λ same. differs_from number other parts.0 (sym same))

  each_once : (change : Link → Link) (links : List Link) (numbers : List ℕ) (number : ℕ) (next : Link) → each_pair differ numbers ≡ true → list_all (passes_at is_idle links) numbers ≡ true
      → link_at (fold (changed change) links numbers) number ≡ Some next → (link_at links number ≡ Some next) ⊎ ((link : Link) × ((link_at links number ≡ Some link) × ((is_idle link ≡ true) × (next ≡ change link))))
  each_once change links [] number next apart idle is = inl is
  each_once change links (other ∷ numbers) number next apart idle is =
      let one = and_parts (all_with (differ other) numbers) (each_pair differ numbers) apart in
      let two = and_parts (passes_at is_idle links other) (list_all (passes_at is_idle links) numbers) idle in
      by (either number other) one.0 two.0 (each_once change (changed change links other) numbers number next one.1 (still_pass is_idle change links other numbers one.0 two.1) is)
    where
      found : (there : Option Link) → link_at links other ≡ there → option_map_or is_idle there false ≡ true → number ≡ other → all_with (differ other) numbers ≡ true → (link : Link) × ((link_at links number ≡ Some link) × ((is_idle link ≡ true) × (next ≡ change link)))
      found None at rests same apart = absurd (let none : ⊥ = cc in none)
      found (Some link) at rests same apart =
          let own : link_at (fold (changed change) (changed change links other) numbers) number ≡ Some (change link) =
          ap (λ (n : ℕ). link_at (fold (changed change) (changed change links other) numbers) n) same ∙ (all_apart other numbers apart change (changed change links other) ∙ changed_own change links other link at) in
          (link, (ap (link_at links) same ∙ at, (rests, sym (some_same (link_at (fold (changed change) (changed change links other) numbers) number) (change link) next own is))))

      by : (number ≡ other) ⊎ (number ≢ other) → all_with (differ other) numbers ≡ true → passes_at is_idle links other ≡ true
          → (link_at (changed change links other) number ≡ Some next) ⊎ ((link : Link) × ((link_at (changed change links other) number ≡ Some link) × ((is_idle link ≡ true) × (next ≡ change link))))
          → (link_at links number ≡ Some next) ⊎ ((link : Link) × ((link_at links number ≡ Some link) × ((is_idle link ≡ true) × (next ≡ change link))))
      by (inl same) apart rests before = inr (found (link_at links other) refl rests same apart)
      by (inr differs) apart rests (inl at) = inl (sym (changed_others change links other number differs) ∙ at)
      by (inr differs) apart rests (inr at) = inr (at.0, (sym (changed_others change links other number differs) ∙ at.1.0, at.1.1))

-- EVENTS ------------------------------------------------------------------------------------------

module _ (setting : Setting) (m : Machine) (known : IsHeld setting m) (items left : List Served) where
  unless_turn : (kind : Noted) (a : Machine) (who : ℕ) (ended : Option ℕ) (doing : Option Doing) (is_open : Bool) (number : ℕ) (next : Link) → link_at (if is_open then a else lost_at_once setting a who ended doing).links number ≡ Some next
      → (link_at a.links number ≡ Some next → ComesFrom m items left kind number next) → ComesFrom m items left kind number next
  unless_turn kind a who ended doing true number next is turn = turn is
  unless_turn kind a who ended None false number next is turn = turn is
  unless_turn kind a who ended (Some doing) false number next is turn = turn is

  goes_turn : (kind : Noted) (who : ℕ) (n : Machine) → Goes setting m who n → (number : ℕ) (next : Link) → link_at n.links number ≡ Some next → ComesFrom m items left kind number next
  goes_turn kind who _ Rests number next is = stays m items left kind number next is
  goes_turn kind who _ (Waits doing is_doing answer) number next is =
      silent m items left kind _ (connection_of doing) number next (ap (map (sent_by (owner_at m who) _)) (waiting_silent setting.terms doing.talk (waits_from doing.talk.phase m.tick) m.tick (after_take m.pool who) (connection_of doing))) is
  goes_turn kind who _ (Lends doing connection link ltxid is_doing answer there held) number next is =
      let said : List Sent = spoken_by (owner_at m who) (after_take m.pool who) connection (on_hello setting.terms doing.talk None ltxid true m.tick) in
      by_change m items left kind (sends m.event said) connection number next is (λ one at. IsSaid said one (lent_idle m.pool who connection m.links one answer known.idle at))
  goes_turn kind who _ (Opens doing wanted pool is_doing tries runs) number next is = opens m items left kind (owner_at m who) number next is
  goes_turn kind who _ (Fails doing wanted pool is_doing tries down) number next is =
      silent m items left kind _ (connection_of doing) number next (ap (map (sent_by (owner_at m who) _)) (failed_silent setting.terms doing.talk m.tick pool (connection_of doing))) is
  goes_turn kind who _ (Takes doing connection link reply later is_doing on down) number next is =
      let a : Machine = takes_one setting m who doing connection link reply later in
      let said : List Sent = spoken_by (owner_at m who) m.pool (connection_of doing) (taken_by setting.terms doing.talk doing.talk.phase reply.frame link.is_open m.tick) in
      unless_turn kind a who link.ended (doing_at a.clients who) link.is_open number next is
      (λ here. by_taken m items left kind said reply later connection (connection_of doing) link number next (ap (λ (one : Option ℕ). unwrap_or one 0) on.has) on.there
      (awaits_out (record { client = who; place = length is_doing.client.past }) doing.talk.phase link (known.out who is_doing.client doing connection link is_doing.here (frame_now setting m who doing is_doing) on.has on.there)) down here)
  goes_turn kind who _ (Loses doing connection link is_doing on none closed) number next is = stays m items left kind number next is

  -- behind a crash
  falls_turn : (at after : ℕ) (failover down : Bool) (a : Machine) → ServesLast m at after items left a → (number : ℕ) (next : Link) → link_at (falls failover a).links number ≡ Some next → ComesFrom m items left (Crashed at after failover down) number next
  falls_turn at after failover down _ (LastNone same) number next is =
      let back = fallen_at (fallen_link m.event) m.links number next is in
      IsOld back.0 back.1.0 (subst (Turns m items left (Crashed at after failover down) number back.0) (sym back.1.1) (HasFallen at after failover down back.0 refl (inr same)))
  falls_turn at after failover down _ (LastStopped front served is_front stopped same) number next is =
      let new : Link = after_front front served None in
      let back = fallen_at (fallen_link m.event) (with_link m.links at new) number next is in
      by (either number at) back
    where
      by : (number ≡ at) ⊎ (number ≢ at) → (link : Link) × ((link_at (with_link m.links at (after_front front served None)) number ≡ Some link) × (next ≡ fallen_link m.event link)) → ComesFrom m items left (Crashed at after failover down) number next
      by (inr apart) back =
          IsOld back.0 (sym (with_others m.links at number (after_front front served None) apart) ∙ back.1.0)
          (subst (Turns m items left (Crashed at after failover down) number back.0) (sym back.1.1) (HasFallen at after failover down back.0 refl (inl apart)))
      by (inl equal) back =
          let there = (front_is m.links at front is_front).there in
          let own : link_at (with_link m.links at (after_front front served None)) number ≡ Some (after_front front served None) =
          ap (λ (n : ℕ). link_at (with_link m.links at (after_front front served None)) n) equal ∙ with_own m.links at front.link (after_front front served None) there in
          let found : after_front front served None ≡ back.0 = some_same (link_at (with_link m.links at (after_front front served None)) number) (after_front front served None) back.0 own back.1.0 in
          IsOld front.link (ap (link_at m.links) equal ∙ there)
          (subst (λ (n : ℕ). Turns m items left (Crashed at after failover down) n front.link next) (sym equal)
          (subst (Turns m items left (Crashed at after failover down) at front.link) (sym (back.1.1 ∙ ap (fallen_link m.event) (sym found))) (WasStopped after failover down front served refl is_front stopped same)))
  falls_turn at after failover down _ (LastServed front served is_front over same) number next is =
      let new : Link = handled m.event front served in
      let back = fallen_at (fallen_link m.event) (with_link m.links at new) number next is in
      by (either number at) back
    where
      by : (number ≡ at) ⊎ (number ≢ at) → (link : Link) × ((link_at (with_link m.links at (handled m.event front served)) number ≡ Some link) × (next ≡ fallen_link m.event link)) → ComesFrom m items left (Crashed at after failover down) number next
      by (inr apart) back =
          IsOld back.0 (sym (with_others m.links at number (handled m.event front served) apart) ∙ back.1.0)
          (subst (Turns m items left (Crashed at after failover down) number back.0) (sym back.1.1) (HasFallen at after failover down back.0 refl (inl apart)))
      by (inl equal) back =
          let there = (front_is m.links at front is_front).there in
          let own : link_at (with_link m.links at (handled m.event front served)) number ≡ Some (handled m.event front served) =
          ap (λ (n : ℕ). link_at (with_link m.links at (handled m.event front served)) n) equal ∙ with_own m.links at front.link (handled m.event front served) there in
          let found : handled m.event front served ≡ back.0 = some_same (link_at (with_link m.links at (handled m.event front served)) number) (handled m.event front served) back.0 own back.1.0 in
          IsOld front.link (ap (link_at m.links) equal ∙ there)
          (subst (λ (n : ℕ). Turns m items left (Crashed at after failover down) n front.link next) (sym equal)
          (subst (Turns m items left (Crashed at after failover down) at front.link) (sym (back.1.1 ∙ ap (fallen_link m.event) (sym found))) (WasServed after failover down front served refl is_front over same)))

  drained_turn : (kind : Noted) (number : ℕ) (next : Link) → link_at (fold (changed (sends m.event (closed_by_drain ∷ []))) m.links m.pool.idle) number ≡ Some next → ComesFrom m items left kind number next
  drained_turn kind number next is = by (each_once m items left kind (sends m.event (closed_by_drain ∷ [])) m.links m.pool.idle number next known.apart known.idle is)
    where
      by : (link_at m.links number ≡ Some next) ⊎ ((link : Link) × ((link_at m.links number ≡ Some link) × ((is_idle link ≡ true) × (next ≡ sends m.event (closed_by_drain ∷ []) link)))) → ComesFrom m items left kind number next
      by (inl here) = stays m items left kind number next here
      by (inr at) = IsOld at.0 at.1.0 (subst (Turns m items left kind number at.0) (sym at.1.1.1) (IsSaid (closed_by_drain ∷ []) at.0 at.1.1.0))

  pub all_turn : (kind : Noted) (n : Machine) → Happens setting m items left kind n → (number : ℕ) (next : Link) → link_at n.links number ≡ Some next → ComesFrom m items left kind number next
  all_turn kind _ (Nothing _ other) number next is = stays m items left kind number next is
  all_turn kind n (IsStep who did _ moves) number next is = goes_turn kind who n moves number next is
  all_turn kind n (Serves at frame front served is_front ordinary same) number next is =
      by_set m items left kind at front.link (handled m.event front served) number next (front_is m.links at front is_front).there is (IsServed frame front served refl is_front ordinary same)
  all_turn kind n (Cuts at up down reached link is_link) number next is =
      let open_at = open_is m.links at link is_link in by_set m items left kind at link (cut_link m.event up down link) number next open_at.there is (IsCut up down link open_at.open_now)
  all_turn kind n (Reaps at reaped orphan) number next is = by_change m items left kind reaped_link at number next is (λ link there. IsReaped at reaped link refl)
  all_turn kind n (Crashes at after failover down a runs last) number next is = falls_turn at after failover down a last number next is
  all_turn kind n (OpensUp incarnation down may) number next is = stays m items left kind number next is
  all_turn kind n (StopsOpening made down) number next is = stays m items left kind number next is
  all_turn kind n Ticks number next is = stays m items left kind number next is
  all_turn kind n (RunsOutside ran runs) number next is = stays m items left kind number next is
  all_turn kind n (Asks ltxid result runs) number next is = stays m items left kind number next is
  all_turn kind n (Drains closed) number next is = drained_turn kind number next is
