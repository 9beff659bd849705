-- No step of a client closes a connection that a request in course held, but that of a request that
-- is over then.
use Rattle.std.proofs.Common.{◌≡◌, ◌≢◌, refl, sym, ap, subst, ◌∙◌, Bool, true, false, ℕ, ◌+◌, length, List, [], ◌∷◌, ◌++◌, map, Some, None, ◌⊎◌, inl, inr}
use Rattle.std.specs.Prelude.{◌==◌, unwrap_or}
use Rattle.std.specs.List.{list_any}
use Rattle.svc_values.specs.declared.entry.Ltxid.{Ltxid}
use Rattle.svc_values.specs.declared.frame.Up.{Up}
use Rattle.pool_core.specs.declared.answers.Take.TheVariants as take
use Rattle.pool_core.specs.meaning.Slots.{Slots, is_among, take_answer, after_take, give_back_answer}
use Rattle.client_model.specs.declared.act.Hold.{Hold}
use Rattle.client_model.specs.declared.act.Hold.TheVariants as hold
use Rattle.client_model.specs.declared.input.Input.{Input}
use Rattle.client_model.specs.declared.input.Input.TheVariants.{Lent, Opened, Gone}
use Rattle.client_model.specs.declared.input.Wants.{Wants}
use Rattle.client_model.specs.declared.input.Wants.TheVariants as wants
use Rattle.world_model.specs.meaning.Acting.{sent_by, owner_at, call_in, act_at, connection_of, steps, loses}
use Rattle.world_model.specs.records.Basic.{ends_rightly}
use Rattle.world_model.specs.meaning.Clients.{Doing, Client, client_at, with_client, after_hold, heard, step_at}
use Rattle.world_model.specs.meaning.Frames.{Sent}
use Rattle.invariant_laws.specs.Invariant.{Invariant}
use Rattle.world_model.specs.meaning.Links.{Link, new_link, link_at, is_close, sends}
use Rattle.world_model.specs.meaning.Machines.{Machine}
use Rattle.world_model.specs.Traced.{Traced}
use Rattle.world_model.specs.Words.{brought, held_in}
use Rattle.shown_laws.specs.Closing.{IsUnclosed, HeldUnclosed, AllUnclosed}
use Rattle.shown_laws.proofs.events.ClientsMove.{Leads, GoesOn, IsOver, client_own, client_other, stepped}
use Rattle.shown_laws.proofs.events.Following.{at_event}
use Rattle.shown_laws.proofs.links.GoesTold.{Speaks, frames_by}
use Rattle.shown_laws.proofs.events.GoNotes.{IsDoing, with_pool, with_new, next_number}
use Rattle.shown_laws.proofs.links.LinksStay.{StaysAt, AllStay, sends_stays, same_stay, then_stay, changed_stay}
use Rattle.shown_laws.proofs.events.Lookups.{either, changed_other, new_own, new_other, none_new}
use Rattle.shown_laws.proofs.links.SessionsApart.{at_link}
use Rattle.shown_laws.proofs.links.Single.{is_busy, lent_idle}
use Rattle.shown_laws.proofs.links.Unclosed.{still_unclosed, held_more, acting, no_connection, none_closes, open_unclosed}

-- the request has the same connection, or one that is no longer open
pub same_had : (links : List Link) (doing after : Doing) (number : ℕ) → after.connection ≡ doing.connection → IsUnclosed links doing number → IsUnclosed links after number
same_had links doing after number same is = record { link = is.link; there = is.there; never = is.never; had = by is.had }
  where
    by : (doing.connection ≡ Some number) ⊎ (is.link.is_open ≡ false) → (after.connection ≡ Some number) ⊎ (is.link.is_open ≡ false)
    by (inl has) = inl (same ∙ has)
    by (inr shut) = inr shut

-- it lost it
pub lost_had : (links : List Link) (doing after : Doing) (number connection : ℕ) (link : Link) → doing.connection ≡ Some connection → link_at links connection ≡ Some link → link.is_open ≡ false → IsUnclosed links doing number → IsUnclosed links after number
lost_had links doing after number connection link has there shut is = record { link = is.link; there = is.there; never = is.never; had = inr (by is.had) }
  where
    by : (doing.connection ≡ Some number) ⊎ (is.link.is_open ≡ false) → is.link.is_open ≡ false
    by (inr closed) = closed
    by (inl mine) =
        let both : Some connection ≡ Some number = sym has ∙ mine in
        let same : connection ≡ number = cc in
        let links_same : Some link ≡ Some is.link = sym there ∙ (ap (link_at links) same ∙ is.there) in
        let it : link ≡ is.link = cc in
        ap (λ (l : Link). l.is_open) (sym it) ∙ shut

-- one that it never had as its own now
pub never_had : (links : List Link) (doing after : Doing) (number : ℕ) → doing.connection ≡ None → IsUnclosed links doing number → IsUnclosed links after number
never_had links doing after number none is = record { link = is.link; there = is.there; never = is.never; had = inr (by is.had) }
  where
    by : (doing.connection ≡ Some number) ⊎ (is.link.is_open ≡ false) → is.link.is_open ≡ false
    by (inl mine) = absurd (let both : None ≡ Some number = sym none ∙ mine in let never : ⊥ = cc in never)
    by (inr shut) = shut

module _ (t : Traced) (inv : Invariant t) (speaks : Speaks (at_event t.machine)) (before : AllUnclosed t.machine) (client : ℕ) where
  -- what other clients' requests held stays so
  abbrev pub OthersStay : Machine → Type 0
  OthersStay n = (other : ℕ) (its : Client) (done : Doing) (number : ℕ) → other ≢ client → client_at t.machine.clients other ≡ Some its → its.now ≡ Some done → IsUnclosed t.machine.links done number → AllStay t.machine.links n.links number

  pub all_from : (own : Client) → client_at t.machine.clients client ≡ Some own → (n : Machine) (next : Client) → n.clients ≡ with_client t.machine.clients client next → ((doing : Doing) → next.now ≡ Some doing → HeldUnclosed n.links doing) → OthersStay n → AllUnclosed n
  all_from own at n next clients mine others other its done here now number among = by (either other client)
    where
      by : (other ≡ client) ⊎ (other ≢ client) → IsUnclosed n.links done number
      by (inl same) =
          let next_at : client_at n.clients client ≡ Some next = ap (λ (c : List Client). client_at c client) clients ∙ client_own t.machine.clients client own next at in
          let both : Some next ≡ Some its = sym next_at ∙ (ap (client_at n.clients) (sym same) ∙ here) in
          let is : next ≡ its = cc in
          mine done (ap (λ (c : Client). c.now) is ∙ now) number among
      by (inr differ) =
          let there : client_at t.machine.clients other ≡ Some its = sym (client_other t.machine.clients client other next differ) ∙ (ap (λ (c : List Client). client_at c other) (sym clients) ∙ here) in
          let is : IsUnclosed t.machine.links done number = before other its done there now number among in
          still_unclosed t.machine.links n.links done number (others other its done number differ there now is) is

  -- by what is held then
  pub after_held : (own : Client) (links : List Link) (after : Doing) (held : Hold) → (held ≡ hold.Keep → HeldUnclosed links after) → (doing : Doing) → (after_hold t.setting client own after held).now ≡ Some doing → HeldUnclosed links doing
  after_held own links after hold.Keep mine doing now = let same : after ≡ doing = cc in subst (HeldUnclosed links) same (mine refl)
  after_held own links after hold.GiveBack mine doing now = absurd (let none : ⊥ = cc in none)
  after_held own links after hold.Drop mine doing now = absurd (let none : ⊥ = cc in none)

  pub leads_held : (own : Client) (links : List Link) (after : Doing) (next : Client) → Leads t.setting client own after next → HeldUnclosed links after → (doing : Doing) → next.now ≡ Some doing → HeldUnclosed links doing
  leads_held own links after _ GoesOn mine doing now = let same : after ≡ doing = cc in subst (HeldUnclosed links) same mine
  leads_held own links after _ IsOver mine doing now = absurd (let none : ⊥ = cc in none)

  -- the frames of a step
  abbrev make : Machine → Doing → Input → Up → Sent
  make a doing input frame = sent_by (owner_at a client) (call_in (heard t.setting.terms a.event a.tick doing input).talk.phase) frame

  abbrev frames : Machine → Doing → Input → List Sent
  frames a doing input = map (make a doing input) (frames_by (give_back_answer a.pool (connection_of doing)) (act_at t.setting a doing input))

  -- where a request goes on, all connections stay
  pub keep_stay : (a : Machine) (doing : Doing) (slot : Bool) (input : Input) → (step_at t.setting.terms a.event a.tick doing input).done.act.hold ≡ hold.Keep → (number : ℕ) → AllStay a.links (steps t.setting a client doing slot input).links number
  keep_stay a doing slot input keep number =
      changed_stay (sends a.event (frames a doing input)) a.links (connection_of doing)
      (λ link there. sends_stays a.event (frames a doing input) link (none_closes t.setting a.event a.tick doing input (give_back_answer a.pool (connection_of doing)) (make a doing input) (λ frame. refl) keep)) number

  -- and where nothing is sent
  pub quiet_stay : (a : Machine) (doing : Doing) (slot : Bool) (input : Input) → frames_by (give_back_answer a.pool (connection_of doing)) (act_at t.setting a doing input) ≡ [] → (number : ℕ) → AllStay a.links (steps t.setting a client doing slot input).links number
  quiet_stay a doing slot input none number =
      changed_stay (sends a.event (frames a doing input)) a.links (connection_of doing)
      (λ link there. sends_stays a.event (frames a doing input) link (ap (λ (f : List Up). list_any (λ (sent : Sent). is_close sent.frame) (map (make a doing input) f)) none)) number

  pub other_stay : (a : Machine) (doing : Doing) (slot : Bool) (input : Input) (number : ℕ) → number ≢ connection_of doing → AllStay a.links (steps t.setting a client doing slot input).links number
  other_stay a doing slot input number differ = same_stay a.links (steps t.setting a client doing slot input).links number (changed_other (sends a.event (frames a doing input)) a.links (connection_of doing) number differ)

  -- NO CONNECTION ---------------------------------------------------------------------------------

  -- a request that sends nothing and brings no connection
  pub quiet_all : (doing : Doing) (wanted : Wants) (is : IsDoing t.setting (at_event t.machine) client doing wanted) (pool : Slots) (slot : Bool) (input : Input) → brought input ≡ None
      → frames_by (give_back_answer pool (connection_of doing)) (act_at t.setting (with_pool (at_event t.machine) pool) doing input) ≡ [] → AllUnclosed (steps t.setting (with_pool (at_event t.machine) pool) client doing slot input)
  quiet_all doing wanted is pool slot input none silent =
      let a : Machine = with_pool (at_event t.machine) pool in
      all_from is.client is.here (steps t.setting (with_pool (at_event t.machine) pool) client doing slot input) _
      (stepped t.setting t.machine.clients client is.client (heard t.setting.terms (t.machine.event + 1) t.machine.tick doing input) (step_at t.setting.terms (t.machine.event + 1) t.machine.tick doing input).done.act.hold is.here)
      (after_held is.client (steps t.setting (with_pool (at_event t.machine) pool) client doing slot input).links (heard t.setting.terms (t.machine.event + 1) t.machine.tick doing input) (step_at t.setting.terms (t.machine.event + 1) t.machine.tick doing input).done.act.hold
      (λ keep number among. by number (held_more doing.steps (step_at t.setting.terms (t.machine.event + 1) t.machine.tick doing input) number among)))
      (λ other its done number differ here now its_is. quiet_stay (with_pool (at_event t.machine) pool) doing slot input silent number)
    where
      by : (number : ℕ) → (list_any (λ other. other == number) (held_in doing.steps) ≡ true) ⊎ (brought input ≡ Some number) → IsUnclosed (steps t.setting (with_pool (at_event t.machine) pool) client doing slot input).links (heard t.setting.terms (t.machine.event + 1) t.machine.tick doing input) number
      by number (inl among) =
          same_had (steps t.setting (with_pool (at_event t.machine) pool) client doing slot input).links doing (heard t.setting.terms (t.machine.event + 1) t.machine.tick doing input) number refl
          (still_unclosed t.machine.links (steps t.setting (with_pool (at_event t.machine) pool) client doing slot input).links doing number (quiet_stay (with_pool (at_event t.machine) pool) doing slot input silent number)
          (acting t is.client client doing before is.here is.does number among))
      by number (inr some) = absurd (let both : None ≡ Some number = sym none ∙ some in let never : ⊥ = cc in never)

  -- A CONNECTION THAT IS LENT ---------------------------------------------------------------------

  pub lends_all : (doing : Doing) (connection : ℕ) (link : Link) (ltxid : Ltxid) (is : IsDoing t.setting (at_event t.machine) client doing wants.Slot) → take_answer t.machine.pool client ≡ take.Lent connection → link_at t.machine.links connection ≡ Some link
      → AllUnclosed (steps t.setting (with_pool (at_event t.machine) (after_take t.machine.pool client)) client (record doing { connection = Some connection }) true (Lent connection ltxid))
  lends_all doing connection link ltxid is answer there =
      all_from is.client is.here n _
      (stepped t.setting t.machine.clients client is.client (heard t.setting.terms (t.machine.event + 1) t.machine.tick lent (Lent connection ltxid)) (step_at t.setting.terms (t.machine.event + 1) t.machine.tick lent (Lent connection ltxid)).done.act.hold is.here)
      (after_held is.client n.links (heard t.setting.terms (t.machine.event + 1) t.machine.tick lent (Lent connection ltxid)) (step_at t.setting.terms (t.machine.event + 1) t.machine.tick lent (Lent connection ltxid)).done.act.hold
      (λ keep number among. mine keep number (held_more doing.steps (step_at t.setting.terms (t.machine.event + 1) t.machine.tick lent (Lent connection ltxid)) number among)))
      others
    where
      lent : Doing
      lent = record doing { connection = Some connection }

      n : Machine
      n = steps t.setting (with_pool (at_event t.machine) (after_take t.machine.pool client)) client (record doing { connection = Some connection }) true (Lent connection ltxid)

      opens : link.is_open ≡ true
      opens = speaks.lent client connection link answer there

      others : OthersStay (steps t.setting (with_pool (at_event t.machine) (after_take t.machine.pool client)) client (record doing { connection = Some connection }) true (Lent connection ltxid))
      others other its done number differ here now one = by (either number connection) one.had
        where
          by : (number ≡ connection) ⊎ (number ≢ connection) → (done.connection ≡ Some number) ⊎ (one.link.is_open ≡ false)
              → AllStay t.machine.links (steps t.setting (with_pool (at_event t.machine) (after_take t.machine.pool client)) client (record doing { connection = Some connection }) true (Lent connection ltxid)).links number
          by (inl same) (inl has) =
              let busy : is_among number t.machine.pool.idle ≡ false = is_busy t inv other its done number here now has in
              let idle : is_among number t.machine.pool.idle ≡ true = ap (λ (k : ℕ). is_among k t.machine.pool.idle) same ∙ lent_idle t.machine.pool client connection answer in
              absurd (let never : ⊥ = cc in never)
          by (inl same) (inr shut) =
              let both : Some link ≡ Some one.link = sym there ∙ (ap (link_at t.machine.links) (sym same) ∙ one.there) in
              let it : link ≡ one.link = cc in
              let open_too : one.link.is_open ≡ true = ap (λ (l : Link). l.is_open) (sym it) ∙ opens in
              absurd (let never : ⊥ = cc in never)
          by (inr apart) had = other_stay (with_pool (at_event t.machine) (after_take t.machine.pool client)) (record doing { connection = Some connection }) true (Lent connection ltxid) number apart

      mine : (step_at t.setting.terms (t.machine.event + 1) t.machine.tick (record doing { connection = Some connection }) (Lent connection ltxid)).done.act.hold ≡ hold.Keep → (number : ℕ) → (list_any (λ other. other == number) (held_in doing.steps) ≡ true) ⊎ (Some connection ≡ Some number)
          → IsUnclosed (steps t.setting (with_pool (at_event t.machine) (after_take t.machine.pool client)) client (record doing { connection = Some connection }) true (Lent connection ltxid)).links (heard t.setting.terms (t.machine.event + 1) t.machine.tick (record doing { connection = Some connection }) (Lent connection ltxid)) number
      mine keep number (inl among) =
          never_had (steps t.setting (with_pool (at_event t.machine) (after_take t.machine.pool client)) client (record doing { connection = Some connection }) true (Lent connection ltxid)).links doing (heard t.setting.terms (t.machine.event + 1) t.machine.tick (record doing { connection = Some connection }) (Lent connection ltxid)) number
          (no_connection t inv is.client client doing wants.Slot is.here is.does is.wants (λ same. let never : ⊥ = cc in never))
          (still_unclosed t.machine.links (steps t.setting (with_pool (at_event t.machine) (after_take t.machine.pool client)) client (record doing { connection = Some connection }) true (Lent connection ltxid)).links doing number
          (keep_stay (with_pool (at_event t.machine) (after_take t.machine.pool client)) (record doing { connection = Some connection }) true (Lent connection ltxid) keep number) (acting t is.client client doing before is.here is.does number among))
      mine keep number (inr same) =
          let equal : connection ≡ number = cc in
          let at : StaysAt t.machine.links (steps t.setting (with_pool (at_event t.machine) (after_take t.machine.pool client)) client (record doing { connection = Some connection }) true (Lent connection ltxid)).links number link =
          keep_stay (with_pool (at_event t.machine) (after_take t.machine.pool client)) (record doing { connection = Some connection }) true (Lent connection ltxid) keep number link (ap (link_at t.machine.links) (sym equal) ∙ there) in
          record {
            link = at.next;
            there = at.there;
            never = at.stays.closed ∙ open_unclosed t link (at_link (ends_rightly t) t.machine.links connection link inv.orderly.basic.ended there) opens;
            had = inl same;
          }

  -- A NEW CONNECTION ------------------------------------------------------------------------------

  pub opens_all : (doing : Doing) (wanted : Wants) (pool : Slots) (is : IsDoing t.setting (at_event t.machine) client doing wanted) → (wants.Frame ≡ wanted → ⊥)
      → AllUnclosed (steps t.setting (with_new (at_event t.machine) pool) client (record doing { connection = Some (next_number (at_event t.machine)) }) true (Opened (next_number (at_event t.machine))))
  opens_all doing wanted pool is other_want =
      all_from is.client is.here (steps t.setting (with_new (at_event t.machine) pool) client (record doing { connection = Some (next_number (at_event t.machine)) }) true (Opened (next_number (at_event t.machine)))) _
      (stepped t.setting t.machine.clients client is.client (heard t.setting.terms (t.machine.event + 1) t.machine.tick (record doing { connection = Some (next_number (at_event t.machine)) }) (Opened (next_number (at_event t.machine)))) hold.Keep is.here)
      (after_held is.client (steps t.setting (with_new (at_event t.machine) pool) client (record doing { connection = Some (next_number (at_event t.machine)) }) true (Opened (next_number (at_event t.machine)))).links
      (heard t.setting.terms (t.machine.event + 1) t.machine.tick (record doing { connection = Some (next_number (at_event t.machine)) }) (Opened (next_number (at_event t.machine)))) hold.Keep
      (λ keep number among. mine number (held_more doing.steps (step_at t.setting.terms (t.machine.event + 1) t.machine.tick (record doing { connection = Some (next_number (at_event t.machine)) }) (Opened (next_number (at_event t.machine)))) number among)))
      (λ other its done number differ here now one. old_stay done number one)
    where
      news : List Link
      news = (steps t.setting (with_new (at_event t.machine) pool) client (record doing { connection = Some (next_number (at_event t.machine)) }) true (Opened (next_number (at_event t.machine)))).links

      old_stay : (done : Doing) (number : ℕ) → IsUnclosed t.machine.links done number → AllStay t.machine.links (steps t.setting (with_new (at_event t.machine) pool) client (record doing { connection = Some (next_number (at_event t.machine)) }) true (Opened (next_number (at_event t.machine)))).links number
      old_stay done number one =
          then_stay t.machine.links (t.machine.links ++ new_link ∷ []) _ number (same_stay t.machine.links (t.machine.links ++ new_link ∷ []) number (new_other t.machine.links new_link number apart))
          (other_stay (with_new (at_event t.machine) pool) (record doing { connection = Some (next_number (at_event t.machine)) }) true (Opened (next_number (at_event t.machine))) number apart)
        where
          apart : number ≢ length t.machine.links + 1
          apart same =
              let both : None ≡ Some one.link = sym (none_new t.machine.links) ∙ (ap (link_at t.machine.links) (sym same) ∙ one.there) in
              let never : ⊥ = cc in
              never

      mine : (number : ℕ) → (list_any (λ other. other == number) (held_in doing.steps) ≡ true) ⊎ (Some (next_number (at_event t.machine)) ≡ Some number)
          → IsUnclosed (steps t.setting (with_new (at_event t.machine) pool) client (record doing { connection = Some (next_number (at_event t.machine)) }) true (Opened (next_number (at_event t.machine)))).links
          (heard t.setting.terms (t.machine.event + 1) t.machine.tick (record doing { connection = Some (next_number (at_event t.machine)) }) (Opened (next_number (at_event t.machine)))) number
      mine number (inl among) =
          let one : IsUnclosed t.machine.links doing number = acting t is.client client doing before is.here is.does number among in
          never_had (steps t.setting (with_new (at_event t.machine) pool) client (record doing { connection = Some (next_number (at_event t.machine)) }) true (Opened (next_number (at_event t.machine)))).links doing
          (heard t.setting.terms (t.machine.event + 1) t.machine.tick (record doing { connection = Some (next_number (at_event t.machine)) }) (Opened (next_number (at_event t.machine)))) number
          (no_connection t inv is.client client doing wanted is.here is.does is.wants other_want)
          (still_unclosed t.machine.links (steps t.setting (with_new (at_event t.machine) pool) client (record doing { connection = Some (next_number (at_event t.machine)) }) true (Opened (next_number (at_event t.machine)))).links doing number (old_stay doing number one) one)
      mine number (inr same) =
          let equal : next_number (at_event t.machine) ≡ number = cc in
          let at : StaysAt (t.machine.links ++ new_link ∷ []) (steps t.setting (with_new (at_event t.machine) pool) client (record doing { connection = Some (next_number (at_event t.machine)) }) true (Opened (next_number (at_event t.machine)))).links number new_link =
          keep_stay (with_new (at_event t.machine) pool) (record doing { connection = Some (next_number (at_event t.machine)) }) true (Opened (next_number (at_event t.machine))) refl number new_link
          (ap (link_at (t.machine.links ++ new_link ∷ [])) (sym equal) ∙ new_own t.machine.links new_link) in
          record { link = at.next; there = at.there; never = at.stays.closed; had = inl same }

  -- A CONNECTION THAT IS GONE ---------------------------------------------------------------------

  pub loses_all : (doing : Doing) (connection : ℕ) (link : Link) (is : IsDoing t.setting (at_event t.machine) client doing wants.Frame) → doing.connection ≡ Some connection → link_at t.machine.links connection ≡ Some link → link.is_open ≡ false
      → AllUnclosed (loses t.setting (at_event t.machine) client doing link.ended)
  loses_all doing connection link is has there shut =
      all_from is.client is.here (loses t.setting (at_event t.machine) client doing link.ended) _
      (stepped t.setting t.machine.clients client is.client (heard t.setting.terms (t.machine.event + 1) t.machine.tick (record doing { connection = None }) (Gone (unwrap_or link.ended 0))) hold.Keep is.here)
      (after_held is.client t.machine.links (heard t.setting.terms (t.machine.event + 1) t.machine.tick (record doing { connection = None }) (Gone (unwrap_or link.ended 0))) hold.Keep
      (λ keep number among. mine number (held_more doing.steps (step_at t.setting.terms (t.machine.event + 1) t.machine.tick (record doing { connection = None }) (Gone (unwrap_or link.ended 0))) number among)))
      (λ other its done number differ here now one. same_stay t.machine.links t.machine.links number refl)
    where
      mine : (number : ℕ) → (list_any (λ other. other == number) (held_in doing.steps) ≡ true) ⊎ (None ≡ Some number) → IsUnclosed t.machine.links (heard t.setting.terms (t.machine.event + 1) t.machine.tick (record doing { connection = None }) (Gone (unwrap_or link.ended 0))) number
      mine number (inl among) =
          lost_had t.machine.links doing (heard t.setting.terms (t.machine.event + 1) t.machine.tick (record doing { connection = None }) (Gone (unwrap_or link.ended 0))) number connection link has there shut
          (acting t is.client client doing before is.here is.does number among)
      mine number (inr never) = absurd (let no : ⊥ = cc in no)
