-- What an event does to clients and connections: one client steps, and every other connection stays
-- as it is; or what was taken, is held and is out stays on each.
use Rattle.std.proofs.Common.{◌≡◌, refl, sym, ap, subst, ◌∙◌, Bool, true, false, ℕ, ◌+◌, cond, filter, List, [], ◌∷◌, ◌++◌, map, Option, Some, None, ◌⊎◌, inl, inr, arith, append-nil}
use Rattle.std.specs.Prelude.{unwrap_or}
use Rattle.std.specs.List.{last_or}
use Rattle.std.proofs.lemmas.List.Elements.{filter-append}
use Rattle.std.proofs.lemmas.List.Sums.{sum_by_push}
use Rattle.svc_values.specs.declared.entry.Ltxid.{Ltxid}
use Rattle.outage_schedule.specs.declared.item.Served.{Served}
use Rattle.client_model.specs.declared.input.Input.TheVariants.{Lent}
use Rattle.world_model.specs.meaning.Acting.{sent_by, owner_at, call_in, frames_of}
use Rattle.world_model.specs.meaning.Clients.{heard, step_at}
use Rattle.world_model.specs.records.Conversing.{connected}
use Rattle.world_model.specs.meaning.Crashing.{fallen_link, falls}
use Rattle.world_model.specs.meaning.Cutting.{cut_link}
use Rattle.world_model.specs.meaning.Frames.{Sent}
use Rattle.world_model.specs.meaning.Links.{Link, link_at, changed, sends}
use Rattle.world_model.specs.meaning.Machines.{Machine}
use Rattle.world_model.specs.meaning.Matching.{Noted, Went}
use Rattle.world_model.specs.meaning.Outside.{closed_by_drain}
use Rattle.world_model.specs.Parts.{is_rep, count_reps, out_frame}
use Rattle.world_model.specs.meaning.Settings.{Setting}
use Rattle.world_model.specs.meaning.Serving.{handled}
use Rattle.world_model.proofs.Offered.{HasStepped, goes_steps, sends_alike, LookupsIsSaid as IsSaid, handled_said, fallen_said, cut_said, changed_own, changed_others, ServesLast, LastNone, LastStopped, LastServed, Happens, Nothing, IsStep, Serves, Cuts, Reaps, Crashes, OpensUp, StopsOpening, Ticks, RunsOutside, MovesAsks as Asks, Drains}
use Rattle.invariant_laws.proofs.talks.LinksStay.{Stays, is_went, stay_same, others_stay, each_stay}

-- WHAT IS OUT -------------------------------------------------------------------------------------

-- the same was taken, is held and is out
pub record SameOut (a b : Link) : Type 0 where
  pub taken : b.taken ≡ a.taken
  pub held : b.held ≡ a.held
  pub count : count_reps b.sent ≡ count_reps a.sent
  pub out : out_frame b ≡ out_frame a

pub self_out : (link : Link) → SameOut link link
self_out link = record { taken = refl; held = refl; count = refl; out = refl }

pub joined_out : (a b c : Link) → SameOut a b → SameOut b c → SameOut a c
joined_out a b c one other = record { taken = other.taken ∙ one.taken; held = other.held ∙ one.held; count = other.count ∙ one.count; out = other.out ∙ one.out }

said_out : (a b : Link) → IsSaid a b → SameOut a b
said_out a b said = record { taken = said.taken; held = said.held; count = ap count_reps said.sent; out = ap (λ (sent : List Sent). last_or None (filter is_rep sent)) said.sent }

closed_out : (event : ℕ) (link : Link) → SameOut link (sends event (closed_by_drain ∷ []) link)
closed_out event link = sends_alike (SameOut link) event (closed_by_drain ∷ []) link (record { taken = refl; held = refl; count = count; out = out }) (record { taken = refl; held = refl; count = count; out = out })
  where
    count : count_reps (link.sent ++ closed_by_drain ∷ []) ≡ count_reps link.sent
    count =
        let more : count_reps (link.sent ++ closed_by_drain ∷ []) ≡ count_reps link.sent + 0 = sum_by_push (λ (sent : Sent). cond (is_rep sent) 1 0) link.sent closed_by_drain in
        omega arith

    out : last_or None (filter is_rep (link.sent ++ closed_by_drain ∷ [])) ≡ last_or None (filter is_rep link.sent)
    out = ap (last_or None) (filter-append is_rep link.sent (closed_by_drain ∷ []) ∙ append-nil (filter is_rep link.sent))

-- A STEP ------------------------------------------------------------------------------------------

module _ (setting : Setting) (m : Machine) (who : ℕ) (n : Machine) (step : HasStepped setting m who n) where
  abbrev pub said : List Sent
  said = map (sent_by (owner_at m who) (call_in (heard setting.terms m.event m.tick (record step.before { connection = step.connection }) step.input).talk.phase))
      (frames_of step.pool (unwrap_or step.connection 0) (step_at setting.terms m.event m.tick (record step.before { connection = step.connection }) step.input).done.act)

  other_links : (links : List Link) (had : Option ℕ) (number : ℕ) → (had ≡ Some number → ⊥) → link_at (changed (sends m.event said) links (unwrap_or had 0)) number ≡ link_at links number
  other_links links None number apart = refl
  other_links links (Some at) number apart = changed_others (sends m.event said) links at number (λ same. apart (ap Some (sym same)))

  -- a connection on which it does not speak
  pub others_at : (number : ℕ) (link : Link) → link_at m.links number ≡ Some link → (step.connection ≡ Some number → ⊥) → link_at n.links number ≡ Some link
  others_at number link there apart =
      ap (λ (all : List Link). link_at all number) step.links_are ∙ (other_links step.links step.connection number apart ∙ step.alone.others number link there apart)

  -- one that is lent
  pub record IsLent (number : ℕ) (ltxid : Ltxid) : Type 0 where
    pub link : Link
    pub there : link_at m.links number ≡ Some link
    pub held : link.held ≡ Some ltxid
    pub next : link_at n.links number ≡ Some (sends m.event said link)

  pub lent_at : (number : ℕ) (ltxid : Ltxid) → step.input ≡ Lent number ltxid → IsLent number ltxid
  lent_at number ltxid heard_so =
      let is = step.alone.lent number ltxid heard_so in
      let on : step.connection ≡ Some number = sym step.connects ∙ ap (connected step.before.connection) heard_so in
      record {
        link = is.0;
        there = is.1.0;
        held = is.1.1.1;
        next = ap (λ (all : List Link). link_at all number) step.links_are
            ∙ (ap (λ (had : Option ℕ). link_at (changed (sends m.event said) step.links (unwrap_or had 0)) number) on ∙ changed_own (sends m.event said) step.links number is.0 is.1.1.0);
      }

-- EVENTS ------------------------------------------------------------------------------------------

pub data Moving (setting : Setting) (m : Machine) (n : Machine) : Type 0 where
  Quietly : n.clients ≡ m.clients → Stays SameOut self_out joined_out m.links n.links → Moving setting m n
  Stepping : (who : ℕ) → HasStepped setting m who n → Moving setting m n

module _ (setting : Setting) (m : Machine) (items left : List Served) where
  pub quiet_stay : (kind : Noted) (n : Machine) → is_went kind ≡ false → Happens setting m items left kind n → Stays SameOut self_out joined_out m.links n.links
  quiet_stay kind n other happens =
      others_stay SameOut self_out joined_out setting m (λ number front served at of. said_out front.link (handled m.event front served) (handled_said m.event front served))
      (λ number front served at of. record { taken = refl; held = refl; count = refl; out = refl }) (λ up down link opens. said_out link (cut_link m.event up down link) (cut_said m.event up down link opens))
      (λ link. record { taken = refl; held = refl; count = refl; out = refl }) (λ link. said_out link (fallen_link m.event link) (fallen_said m.event link)) items left kind n
      (each_stay SameOut self_out joined_out (sends m.event (closed_by_drain ∷ [])) m.links m.pool.idle (closed_out m.event)) other happens

  last_clients : (at after : ℕ) (failover : Bool) (a : Machine) → ServesLast m at after items left a → (falls failover a).clients ≡ m.clients
  last_clients at after failover _ (LastNone same) = refl
  last_clients at after failover _ (LastStopped front served is stopped same) = refl
  last_clients at after failover _ (LastServed front served is over same) = refl

  pub quiet_clients : (kind : Noted) (n : Machine) → is_went kind ≡ false → Happens setting m items left kind n → n.clients ≡ m.clients
  quiet_clients kind _ other (Nothing _ quiet) = refl
  quiet_clients kind n other (IsStep who did _ moves) = absurd (let none : ⊥ = cc in none)
  quiet_clients kind _ other (Serves at frame front served is ordinary same) = refl
  quiet_clients kind _ other (Cuts at up down reached link is) = refl
  quiet_clients kind _ other (Reaps at reaped orphan) = refl
  quiet_clients kind _ other (Crashes at after failover down a runs last) = last_clients at after failover a last
  quiet_clients kind _ other (OpensUp incarnation down may) = refl
  quiet_clients kind _ other (StopsOpening made down) = refl
  quiet_clients kind _ other Ticks = refl
  quiet_clients kind _ other (RunsOutside ran runs) = refl
  quiet_clients kind _ other (Asks ltxid result runs) = refl
  quiet_clients kind _ other (Drains closed) = refl

  went_moving : (kind : Noted) (n : Machine) → is_went kind ≡ true → Happens setting m items left kind n → Moving setting m n
  went_moving (Went who did) _ is (Nothing _ quiet) = Quietly refl (stay_same SameOut self_out joined_out m.links)
  went_moving _ n is (IsStep who did _ moves) = by (goes_steps setting m who n moves)
    where
      by : (n ≡ m) ⊎ HasStepped setting m who n → Moving setting m n
      by (inl same) = Quietly (ap (λ (one : Machine). one.clients) same) (subst (λ (one : Machine). Stays SameOut self_out joined_out m.links one.links) (sym same) (stay_same SameOut self_out joined_out m.links))
      by (inr step) = Stepping who step
  went_moving kind n is happens = absurd (let none : ⊥ = cc in none)

  pub moving : (kind : Noted) (n : Machine) → Happens setting m items left kind n → Moving setting m n
  moving kind n happens = by (is_went kind) refl
    where
      by : (went : Bool) → is_went kind ≡ went → Moving setting m n
      by true is = went_moving kind n is happens
      by false is = Quietly (quiet_clients kind n is happens) (quiet_stay kind n is happens)
