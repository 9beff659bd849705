-- The session of each connection was acquired by a step of the request that sent last there, event
-- by event.
use Rattle.std.proofs.Common.{◌≡◌, ◌≢◌, refl, sym, ap, subst, ◌∙◌, Bool, true, false, ℕ, suc, ◌+◌, ◌&&◌, length, List, [], ◌∷◌, ◌++◌, map, fold, Option, Some, None, option_map, ◌⊎◌, inl, inr, if◌then◌else◌, arith}
use Rattle.std.specs.Prelude.{◌==◌, is_some, is_none, unwrap_or}
use Rattle.std.specs.List.{last_or}
use Rattle.std.specs.Option.{option_or, option_map_or}
use Rattle.std.proofs.lemmas.Bool.{and_parts}
use Rattle.svc_values.specs.declared.call.Call.{Call}
use Rattle.svc_values.specs.declared.entry.Ltxid.{Ltxid}
use Rattle.svc_values.specs.declared.frame.Up.{Up}
use Rattle.svc_values.specs.declared.frame.Up.TheVariants as up
use Rattle.outage_schedule.specs.declared.item.Item.{Item}
use Rattle.outage_schedule.specs.declared.item.Item.TheVariants as item
use Rattle.outage_schedule.specs.declared.note.GoNote.{GoNote}
use Rattle.outage_schedule.specs.declared.note.GoNote.TheVariants as go
use Rattle.pool_core.specs.declared.answers.Back.{Back}
use Rattle.pool_core.specs.meaning.Slots.{Slots, after_take, give_back_answer}
use Rattle.client_model.specs.declared.input.Input.{Input}
use Rattle.client_model.specs.declared.input.Input.TheVariants.{Waiting, Lent, Opened, TryFailed, Took}
use Rattle.client_model.specs.meaning.Talk.{next_call, sends_or_ends, begin_of, talk_step}
use Rattle.client_model.specs.meaning.Terms.{Terms, Talk, unsubmitted}
use Rattle.shown_clauses.specs.meaning.Links.{Acquired, Seen, is_connect}
use Rattle.world_model.specs.meaning.Acting.{sent_by, owner_at, call_in, act_at, connection_of, frames_of, steps, loses}
use Rattle.world_model.specs.meaning.Clients.{Doing, Client, client_at, heard}
use Rattle.world_model.specs.meaning.Frames.{Owner, Sent, Reply}
use Rattle.invariant_laws.specs.Invariant.{Invariant}
use Rattle.world_model.specs.meaning.Links.{Link, new_link, link_at, with_link, changed, sends, takes}
use Rattle.world_model.specs.meaning.Machines.{Machine}
use Rattle.world_model.specs.Parts.{implies}
use Rattle.world_model.specs.Sames.{same_owners, same_up}
use Rattle.world_model.specs.meaning.Serving.{is_item_of}
use Rattle.world_model.specs.Traced.{Traced}
use Rattle.invariant_laws.specs.UnservedBegins.{last_owner}
use Rattle.world_model.specs.records.Wire.{New, next_stage, stage_of, is_right, is_fresh}
use Rattle.invariant_laws.proofs.Offered.{stays_own, last_is}
use Rattle.shown_laws.specs.AcquiredTold.{acquired_after}
use Rattle.shown_laws.specs.TurnOwners.{IsStepOf, Said, said_of, said_at, Tied, Unopened, Unheard, Heard}
use Rattle.shown_laws.proofs.events.Following.{at_event}
use Rattle.shown_laws.proofs.links.GoesTold.{frames_by, waiting_silent, failed_silent}
use Rattle.shown_laws.proofs.events.GoNotes.{with_pool, with_new, next_number, taking, TooEarly, NoneFound, GoesAs, Idles, Rests, Waits, Lends, Opens, Fails, Takes, Loses}
use Rattle.shown_laws.proofs.events.Lookups.{either, eq_from, eq_to, ne_to, with_own, with_other, changed_own, changed_other, new_own, new_other, none_new}
use Rattle.shown_laws.proofs.owners.OwnTurns.{same_test}
use Rattle.shown_laws.proofs.links.SaidStays.{last_after, Speech, last_said, sends_said, silent_said, one_said}
use Rattle.shown_laws.proofs.links.SessionsApart.{at_link}
use Rattle.shown_laws.proofs.steps.StepsOwned.{Stay, acts_own, steps_stay}
use Rattle.shown_laws.proofs.steps.StepsTold.{told_step, told_steps, StepTells, TellsNone, TellsOne, Acts}
use Rattle.shown_laws.proofs.steps.TookTold.{IsLent, lent_kind, IsTaken, taken_kind}
use Rattle.shown_laws.proofs.owners.TurnSent.{owners_are}
use Rattle.shown_laws.proofs.links.UnclosedTakes.{unless_links}

-- WHAT IS SAID ------------------------------------------------------------------------------------

-- a request that is lent a connection begins there, or ends
lent_speaks : (terms : Terms) (talk : Talk) (connection : ℕ) (ltxid : Ltxid) (now : ℕ) (back : Back) → Speech (frames_by back (talk_step terms talk (Lent connection ltxid) now).1)
lent_speaks terms talk connection ltxid now back = by (next_call talk)
  where
    by : (next : Option Call) → Speech (frames_by back (sends_or_ends terms talk (record { track = unsubmitted terms; ltxid = ltxid }) true (begin_of talk ∷ []) None now next).1)
    by None = record { first = up.End; rest = _; is = refl }
    by (Some call) = record { first = begin_of talk; rest = _; is = refl }

-- before Hello was taken a request sent Connect alone, whose reply is Hello
alone : (held : Option Ltxid) (sents : List Sent) (last : Sent) → held ≡ None → implies (is_none held) (length sents == 1) ≡ true → last_or None sents ≡ Some last → sents ≡ last ∷ []
alone None [] last none fresh is = absurd (let never : ⊥ = cc in never)
alone None (one ∷ []) last none fresh is = let same : one ≡ last = cc in ap (λ (sent : Sent). sent ∷ []) same
alone None (one ∷ two ∷ rest) last none fresh is = absurd (let more : suc (suc (length rest)) ≡ 1 = eq_from (suc (suc (length rest))) 1 fresh in let never : ⊥ = omega (arith, more) in never)
alone (Some held) sents last none fresh is = absurd (let never : ⊥ = cc in never)

connects : (owner : Option Owner) (frame : Up) → is_right (next_stage New owner frame) ≡ true → frame ≡ up.Connect
connects owner up.Connect right = refl
connects owner (up.Begin settings) right = absurd (let never : ⊥ = cc in never)
connects owner (up.Call replay kept call) right = absurd (let never : ⊥ = cc in never)
connects owner (up.Outcome x) right = absurd (let never : ⊥ = cc in never)
connects owner up.End right = absurd (let never : ⊥ = cc in never)
connects owner up.Close right = absurd (let never : ⊥ = cc in never)

hello_of : (frame other : Up) (one : Item) → other ≡ up.Connect → same_up frame other ≡ true → is_item_of frame one ≡ true → is_connect one ≡ true
hello_of up.Connect other item.Connect connect same is = refl
hello_of (up.Begin settings) other one connect same is = absurd (let no : same_up (up.Begin settings) up.Connect ≡ true = ap (same_up (up.Begin settings)) (sym connect) ∙ same in let never : ⊥ = cc in never)
hello_of (up.Call replay kept call) other one connect same is = absurd (let no : same_up (up.Call replay kept call) up.Connect ≡ true = ap (same_up (up.Call replay kept call)) (sym connect) ∙ same in let never : ⊥ = cc in never)
hello_of (up.Outcome x) other one connect same is = absurd (let no : same_up (up.Outcome x) up.Connect ≡ true = ap (same_up (up.Outcome x)) (sym connect) ∙ same in let never : ⊥ = cc in never)
hello_of up.End other one connect same is = absurd (let no : same_up up.End up.Connect ≡ true = ap (same_up up.End) (sym connect) ∙ same in let never : ⊥ = cc in never)
hello_of up.Close other one connect same is = absurd (let no : same_up up.Close up.Connect ≡ true = ap (same_up up.Close) (sym connect) ∙ same in let never : ⊥ = cc in never)
hello_of up.Connect other one connect same is = absurd (let never : ⊥ = cc in never)

-- WHAT IS TIED ------------------------------------------------------------------------------------

pub tied_still : (clients news : List Client) → Stay clients news → (said : Option Said) (acquired : Option Acquired) → Tied clients said acquired → Tied news said acquired
tied_still clients news stay _ _ Unopened = Unopened
tied_still clients news stay _ _ (Unheard said none) = Unheard said none
tied_still clients news stay _ _ (Heard said owner acquired last is) = Heard said owner acquired last (stay owner acquired is)

unopened : (clients : List Client) (said : Option Said) (acquired : Option Acquired) → said ≡ None → Tied clients said acquired → acquired ≡ None
unopened clients _ _ none Unopened = refl
unopened clients _ _ none (Unheard said held) = absurd (let never : ⊥ = cc in never)
unopened clients _ _ none (Heard said owner acquired last is) = absurd (let never : ⊥ = cc in never)

-- one more step, that acquires or not
acquires_now : (test some : Bool) (mine : Acquired) (found : Option Acquired) → test ≡ true → some ≡ true → option_or (if test && some then Some mine else None) found ≡ Some mine
acquires_now true true mine found is also = refl
acquires_now true false mine found is also = absurd (let never : ⊥ = cc in never)
acquires_now false some mine found is also = absurd (let never : ⊥ = cc in never)

acquires_off : (test some : Bool) (mine : Acquired) (found : Option Acquired) → test ≡ false → option_or (if test && some then Some mine else None) found ≡ found
acquires_off true some mine found is = absurd (let never : ⊥ = cc in never)
acquires_off false some mine found is = refl

acquires_none : (test some : Bool) (mine : Acquired) (found : Option Acquired) → some ≡ false → option_or (if test && some then Some mine else None) found ≡ found
acquires_none true true mine found is = absurd (let never : ⊥ = cc in never)
acquires_none true false mine found is = refl
acquires_none false some mine found is = refl

-- A STEP ------------------------------------------------------------------------------------------

module _ (t : Traced) (inv : Invariant t) (seen : Seen) (client : ℕ) (before : ℕ → Option Acquired) (tied : (number : ℕ) → Tied t.machine.clients (said_at number t.machine.links) (before number)) where
  abbrev mine : Acquired
  mine = record { client = client; event = t.machine.event + 1 }

  abbrev Ties : GoNote → Machine → ℕ → Type 0
  Ties did n number = Tied n.clients (said_at number n.links) (acquired_after number (before number) (told_steps t seen client did))

  owner_is : (own : Client) → client_at t.machine.clients client ≡ Some own → owner_at (at_event t.machine) client ≡ record { client = client; place = length own.past }
  owner_is own here = ap (λ (found : Option Client). record { client = client; place = option_map_or (λ (one : Client). length one.past) found 0 }) here

  -- where nothing is said, and nothing acquired
  quiet : (n : Machine) → Stay t.machine.clients n.clients → (number : ℕ) → said_at number n.links ≡ said_at number t.machine.links → Tied n.clients (said_at number n.links) (before number)
  quiet n stay number same = subst (λ (said : Option Said). Tied n.clients said (before number)) (sym same) (tied_still t.machine.clients n.clients stay (said_at number t.machine.links) (before number) (tied number))

  -- LENT ------------------------------------------------------------------------------------------

  module _ (doing : Doing) (connection : ℕ) (link : Link) (ltxid : Ltxid) (there : link_at t.machine.links connection ≡ Some link) where
    abbrev lent : Machine
    lent = steps t.setting (with_pool (at_event t.machine) (after_take t.machine.pool client)) client (record doing { connection = Some connection }) true (Lent connection ltxid)

    abbrev frames_lent : List Up
    frames_lent = frames_by (give_back_answer (after_take t.machine.pool client) connection) (talk_step t.setting.terms doing.talk (Lent connection ltxid) t.machine.tick).1

    abbrev call_lent : ℕ
    call_lent = call_in (heard t.setting.terms (t.machine.event + 1) t.machine.tick (record doing { connection = Some connection }) (Lent connection ltxid)).talk.phase

    lent_said : said_at connection lent.links ≡ Some (record { last = last_after (last_owner link.sent) (map (sent_by (owner_at (at_event t.machine) client) call_lent) frames_lent); held = link.held })
    lent_said =
        ap (option_map said_of)
        (changed_own (sends (t.machine.event + 1) (map (sent_by (owner_at (at_event t.machine) client) call_lent) frames_lent)) t.machine.links connection
        ∙ ap (option_map (sends (t.machine.event + 1) (map (sent_by (owner_at (at_event t.machine) client) call_lent) frames_lent))) there)
        ∙ ap Some (sends_said (t.machine.event + 1) (map (sent_by (owner_at (at_event t.machine) client) call_lent) frames_lent) link)

    lends_tied : Acts t seen client (go.Lent connection) lent → Stay t.machine.clients lent.clients → (number : ℕ) → Ties (go.Lent connection) lent number
    lends_tied acts stay number = by (either number connection)
      where
        its : IsLent t client (length acts.own.past) acts.doing (told_step t seen client (go.Lent connection)) acts.acts
        its = lent_kind t client (length acts.own.past) acts.doing (told_step t seen client (go.Lent connection)) acts.acts connection refl acts.tells

        own : IsStepOf lent.clients (owner_at (at_event t.machine) client) mine
        own = subst (λ (owner : Owner). IsStepOf lent.clients owner mine) (sym (owner_is acts.own acts.here)) (acts_own t seen client (go.Lent connection) lent acts (t.machine.event + 1) its.among)

        by : (number ≡ connection) ⊎ (number ≢ connection) → Ties (go.Lent connection) lent number
        by (inl same) =
            subst (λ (found : Option Acquired). Tied lent.clients (said_at number lent.links) found)
            (sym (acquires_now (connection == number) (is_some (told_step t seen client (go.Lent connection)).session) mine (before number) (eq_to connection number (sym same)) its.session))
            (subst (λ (said : Option Said). Tied lent.clients said (Some mine)) (sym (ap (λ (k : ℕ). said_at k lent.links) same ∙ lent_said))
            (Heard _ (owner_at (at_event t.machine) client) mine
            (last_said (owner_at (at_event t.machine) client) call_lent (last_owner link.sent) frames_lent (lent_speaks t.setting.terms doing.talk connection ltxid t.machine.tick (give_back_answer (after_take t.machine.pool client) connection))) own))
        by (inr differ) =
            subst (λ (found : Option Acquired). Tied lent.clients (said_at number lent.links) found)
            (sym (acquires_off (connection == number) (is_some (told_step t seen client (go.Lent connection)).session) mine (before number) (ne_to connection number (λ same. differ (sym same)))))
            (quiet lent stay number
            (ap (option_map said_of) (changed_other (sends (t.machine.event + 1) (map (sent_by (owner_at (at_event t.machine) client) call_lent) frames_lent)) t.machine.links connection number differ)))

  -- TAKEN -----------------------------------------------------------------------------------------

  module _ (doing : Doing) (connection sent : ℕ) (link : Link) (reply : Reply) (left : List Reply) (has : doing.connection ≡ Some connection) (there : link_at t.machine.links connection ≡ Some link) where
    abbrev after : Machine
    after = steps t.setting (taking (at_event t.machine) connection link reply left) client doing true (Took reply.frame link.is_open)

    abbrev call_taken : ℕ
    call_taken = call_in (heard t.setting.terms (t.machine.event + 1) t.machine.tick doing (Took reply.frame link.is_open)).talk.phase

    abbrev frames_taken : List Up
    frames_taken = frames_of t.machine.pool (connection_of doing) (act_at t.setting (taking (at_event t.machine) connection link reply left) doing (Took reply.frame link.is_open))

    abbrev said_taken : List Sent
    said_taken = map (sent_by (owner_at (at_event t.machine) client) call_taken) frames_taken

    mine_is : connection_of doing ≡ connection
    mine_is = ap (λ (found : Option ℕ). unwrap_or found 0) has

    taken_there : link_at after.links connection ≡ Some (sends (t.machine.event + 1) said_taken (takes (Took reply.frame link.is_open) reply left link))
    taken_there =
        ap (λ (k : ℕ). link_at (changed (sends (t.machine.event + 1) said_taken) (with_link t.machine.links connection (takes (Took reply.frame link.is_open) reply left link)) k) connection) mine_is
        ∙ (changed_own (sends (t.machine.event + 1) said_taken) (with_link t.machine.links connection (takes (Took reply.frame link.is_open) reply left link)) connection
        ∙ ap (option_map (sends (t.machine.event + 1) said_taken)) (with_own t.machine.links connection link (takes (Took reply.frame link.is_open) reply left link) there))

    taken_other : (number : ℕ) → number ≢ connection → link_at after.links number ≡ link_at t.machine.links number
    taken_other number differ =
        changed_other (sends (t.machine.event + 1) said_taken) (with_link t.machine.links connection (takes (Took reply.frame link.is_open) reply left link)) (connection_of doing) number (λ same. differ (same ∙ mine_is))
        ∙ with_other t.machine.links connection number (takes (Took reply.frame link.is_open) reply left link) differ

    module _ (n : Machine) (links : n.links ≡ after.links) (acts : Acts t seen client (go.Took connection sent) n) (stay : Stay t.machine.clients n.clients) where
      its : IsTaken t client (length acts.own.past) acts.doing (told_step t seen client (go.Took connection sent)) connection acts.acts
      its = taken_kind t client (length acts.own.past) acts.doing (told_step t seen client (go.Took connection sent)) acts.acts connection sent refl acts.tells

      abbrev me : Owner
      me = record { client = client; place = length acts.own.past }

      same_link : its.link ≡ link
      same_link = let both : Some its.link ≡ Some link = sym its.there ∙ there in let same : its.link ≡ link = cc in same

      last_sent : last_or None link.sent ≡ Some its.reply.sent
      last_sent = ap (λ (l : Link). last_or None l.sent) (sym same_link) ∙ its.reply.last

      last_mine : last_owner link.sent ≡ Some me
      last_mine = last_is None link.sent its.reply.sent me last_sent (sym (owners_are (Some me) its.reply.sent.owner (same_test me its.reply.sent.owner ∙ its.reply.own)))

      said_mine : last_after (last_owner link.sent) said_taken ≡ Some me
      said_mine = ap (λ (found : Option Owner). last_after found said_taken) last_mine ∙ (ap (λ (o : Owner). last_after (Some me) (map (sent_by o call_taken) frames_taken)) (owner_is acts.own acts.here) ∙ stays_own me call_taken frames_taken)

      said_there : said_at connection n.links ≡ Some (record { last = last_after (last_owner link.sent) said_taken; held = (takes (Took reply.frame link.is_open) reply left link).held })
      said_there =
          ap (λ (l : List Link). said_at connection l) links
          ∙ (ap (option_map said_of) taken_there ∙ ap Some (sends_said (t.machine.event + 1) said_taken (takes (Took reply.frame link.is_open) reply left link)))

      -- Where no identifier was taken before, this is Hello.
      greets : link.held ≡ None → is_connect its.served.item ≡ true
      greets none =
          let only : link.sent ≡ its.reply.sent ∷ [] = alone link.held link.sent its.reply.sent none (at_link is_fresh t.machine.links connection link inv.orderly.wire.fresh there) last_sent in
          let right : is_right (fold (λ stage (one : Sent). next_stage stage one.owner one.frame) New (its.reply.sent ∷ [])) ≡ true =
          subst (λ (sents : List Sent). is_right (fold (λ stage (one : Sent). next_stage stage one.owner one.frame) New sents) ≡ true) only (at_link (λ l. is_right (stage_of l)) t.machine.links connection link inv.orderly.wire.grammar there) in
          let same = and_parts (same_owners its.reply.one.sent.owner its.reply.sent.owner) ((its.reply.one.sent.call == its.reply.sent.call) && same_up its.reply.one.sent.frame its.reply.sent.frame) its.reply.same in
          hello_of its.reply.one.sent.frame its.reply.sent.frame its.served.item (connects its.reply.sent.owner its.reply.sent.frame right)
          (and_parts (its.reply.one.sent.call == its.reply.sent.call) (same_up its.reply.one.sent.frame its.reply.sent.frame) same.1).1 its.reply.is_its

      own : IsStepOf n.clients me mine
      own = acts_own t seen client (go.Took connection sent) n acts (t.machine.event + 1) its.among

      heard_now : (acquired : Acquired) → IsStepOf n.clients me acquired → Tied n.clients (said_at connection n.links) (Some acquired)
      heard_now acquired is = subst (λ (said : Option Said). Tied n.clients said (Some acquired)) (sym said_there) (Heard _ me acquired said_mine is)

      -- what was acquired before is this request's
      kept : (said : Option Said) (found : Option Acquired) → said ≡ Some (said_of link) → (link.held ≡ None → ⊥) → Tied t.machine.clients said found → Tied n.clients (said_at connection n.links) found
      kept _ _ is heard Unopened = absurd (let never : ⊥ = cc in never)
      kept _ _ is heard (Unheard said none) = absurd (heard (let same : said ≡ said_of link = cc in ap (λ (s : Said). s.held) (sym same) ∙ none))
      kept _ _ is heard (Heard said owner acquired last did) =
          let same : said ≡ said_of link = cc in
          let both : Some owner ≡ Some me = sym last ∙ (ap (λ (s : Said). s.last) same ∙ last_mine) in
          let it : owner ≡ me = cc in
          heard_now acquired (stay me acquired (subst (λ (o : Owner). IsStepOf t.machine.clients o acquired) it did))

      mine_tied : (hello : Bool) → is_connect its.served.item ≡ hello → Ties (go.Took connection sent) n connection
      mine_tied true is =
          subst (λ (found : Option Acquired). Tied n.clients (said_at connection n.links) found)
          (sym (acquires_now (connection == connection) (is_some (told_step t seen client (go.Took connection sent)).session) mine (before connection) (eq_to connection connection refl)
          (ap is_some (its.session ∙ ap (λ (test : Bool). if test then Some its.served.session else None) is))))
          (heard_now mine own)
      mine_tied false is =
          subst (λ (found : Option Acquired). Tied n.clients (said_at connection n.links) found)
          (sym (acquires_none (connection == connection) (is_some (told_step t seen client (go.Took connection sent)).session) mine (before connection)
          (ap is_some (its.session ∙ ap (λ (test : Bool). if test then Some its.served.session else None) is))))
          (kept (said_at connection t.machine.links) (before connection) (ap (option_map said_of) there) (λ none. let yes : is_connect its.served.item ≡ true = greets none in let never : ⊥ = cc in never) (tied connection))

      takes_tied : (number : ℕ) → Ties (go.Took connection sent) n number
      takes_tied number = by (either number connection)
        where
          by : (number ≡ connection) ⊎ (number ≢ connection) → Ties (go.Took connection sent) n number
          by (inl same) = subst (λ (k : ℕ). Ties (go.Took connection sent) n k) (sym same) (mine_tied (is_connect its.served.item) refl)
          by (inr differ) =
              subst (λ (found : Option Acquired). Tied n.clients (said_at number n.links) found)
              (sym (acquires_off (connection == number) (is_some (told_step t seen client (go.Took connection sent)).session) mine (before number) (ne_to connection number (λ same. differ (sym same)))))
              (quiet n stay number (ap (λ (l : List Link). said_at number l) links ∙ ap (option_map said_of) (taken_other number differ)))

  -- OPENED ----------------------------------------------------------------------------------------

  opens_tied : (doing : Doing) (pool : Slots) (n : Machine) → n ≡ steps t.setting (with_new (at_event t.machine) pool) client (record doing { connection = Some (next_number (at_event t.machine)) }) true (Opened (next_number (at_event t.machine)))
      → Stay t.machine.clients n.clients → (number : ℕ) → Tied n.clients (said_at number n.links) (before number)
  opens_tied doing pool n is stay number = by (either number (next_number (at_event t.machine)))
    where
      links : n.links ≡ changed (sends (t.machine.event + 1) (map (sent_by (owner_at (at_event t.machine) client) 0) (up.Connect ∷ []))) (t.machine.links ++ new_link ∷ []) (length t.machine.links + 1)
      links = ap (λ (m : Machine). m.links) is

      by : (number ≡ next_number (at_event t.machine)) ⊎ (number ≢ next_number (at_event t.machine)) → Tied n.clients (said_at number n.links) (before number)
      by (inl same) =
          subst (λ (found : Option Acquired). Tied n.clients (said_at number n.links) found)
          (sym (unopened t.machine.clients (said_at number t.machine.links) (before number) (ap (λ (k : ℕ). said_at k t.machine.links) same ∙ ap (option_map said_of) (none_new t.machine.links)) (tied number)))
          (subst (λ (said : Option Said). Tied n.clients said None)
          (sym (ap (λ (l : List Link). said_at number l) links
          ∙ (ap (λ (k : ℕ). said_at k (changed (sends (t.machine.event + 1) (map (sent_by (owner_at (at_event t.machine) client) 0) (up.Connect ∷ []))) (t.machine.links ++ new_link ∷ []) (length t.machine.links + 1))) same
          ∙ (ap (option_map said_of)
          (changed_own (sends (t.machine.event + 1) (map (sent_by (owner_at (at_event t.machine) client) 0) (up.Connect ∷ []))) (t.machine.links ++ new_link ∷ []) (length t.machine.links + 1)
          ∙ ap (option_map (sends (t.machine.event + 1) (map (sent_by (owner_at (at_event t.machine) client) 0) (up.Connect ∷ [])))) (new_own t.machine.links new_link))
          ∙ ap Some (sends_said (t.machine.event + 1) (map (sent_by (owner_at (at_event t.machine) client) 0) (up.Connect ∷ [])) new_link)))))
          (Unheard _ refl))
      by (inr differ) =
          quiet n stay number
          (ap (λ (l : List Link). said_at number l) links
          ∙ ap (option_map said_of)
          (changed_other (sends (t.machine.event + 1) (map (sent_by (owner_at (at_event t.machine) client) 0) (up.Connect ∷ []))) (t.machine.links ++ new_link ∷ []) (length t.machine.links + 1) number differ ∙ new_other t.machine.links new_link number differ))

  -- SILENT ----------------------------------------------------------------------------------------

  abbrev said_by : Doing → Input → Up → Sent
  said_by doing input frame = sent_by (owner_at (at_event t.machine) client) (call_in (heard t.setting.terms (t.machine.event + 1) t.machine.tick doing input).talk.phase) frame

  silent_tied : (doing : Doing) (pool : Slots) (slot : Bool) (input : Input) → frames_by (give_back_answer pool (connection_of doing)) (act_at t.setting (with_pool (at_event t.machine) pool) doing input) ≡ []
      → Stay t.machine.clients (steps t.setting (with_pool (at_event t.machine) pool) client doing slot input).clients → (number : ℕ)
      → Tied (steps t.setting (with_pool (at_event t.machine) pool) client doing slot input).clients (said_at number (steps t.setting (with_pool (at_event t.machine) pool) client doing slot input).links) (before number)
  silent_tied doing pool slot input none stay number =
      quiet (steps t.setting (with_pool (at_event t.machine) pool) client doing slot input) stay number
      (one_said (sends (t.machine.event + 1) (map (said_by doing input) (frames_by (give_back_answer pool (connection_of doing)) (act_at t.setting (with_pool (at_event t.machine) pool) doing input))))
      (silent_said (t.machine.event + 1) (map (said_by doing input) (frames_by (give_back_answer pool (connection_of doing)) (act_at t.setting (with_pool (at_event t.machine) pool) doing input))) (ap (map (said_by doing input)) none)) t.machine.links (connection_of doing) number)

  -- ALL STEPS -------------------------------------------------------------------------------------

  one_of : (did : GoNote) (n : Machine) → (told_steps t seen client did ≡ [] → ⊥) → StepTells t seen client did n → Acts t seen client did n
  one_of did n some (TellsNone none same) = absurd (some none)
  one_of did n some (TellsOne acts) = acts

  pub goes_tied : (did : GoNote) (n : Machine) → GoesAs t.setting (at_event t.machine) client did n → StepTells t seen client did n → (number : ℕ) → Ties did n number
  goes_tied _ _ Idles tells number = tied number
  goes_tied _ _ (Rests doing _ _ is TooEarly) tells number = tied number
  goes_tied _ _ (Rests doing _ _ is NoneFound) tells number = tied number
  goes_tied _ _ (Waits doing is answer) tells number =
      silent_tied doing (after_take t.machine.pool client) false Waiting (waiting_silent t.setting.terms doing.talk t.machine.tick (give_back_answer (after_take t.machine.pool client) (connection_of doing))) (steps_stay t seen client go.Wait _ tells) number
  goes_tied _ _ (Fails doing wanted pool is tries) tells number =
      silent_tied doing pool true TryFailed (failed_silent t.setting.terms doing.talk t.machine.tick (give_back_answer pool (connection_of doing))) (steps_stay t seen client go.Down _ tells) number
  goes_tied _ _ (Loses doing connection link is has there down shut) tells number = quiet (loses t.setting (at_event t.machine) client doing link.ended) (steps_stay t seen client (go.Lost connection) _ tells) number refl
  goes_tied _ _ (Opens doing wanted pool is tries) tells number = opens_tied doing pool _ refl (steps_stay t seen client (go.Open (next_number (at_event t.machine))) _ tells) number
  goes_tied _ _ (Lends doing connection link ltxid is answer there held) tells number =
      lends_tied doing connection link ltxid there (one_of (go.Lent connection) _ (λ none. let never : ⊥ = cc in never) tells) (steps_stay t seen client (go.Lent connection) _ tells) number
  goes_tied _ _ (Takes doing connection sent link reply left is has there down frames) tells number =
      takes_tied doing connection sent link reply left has there _
      (unless_links t.setting (steps t.setting (taking (at_event t.machine) connection link reply left) client doing true (Took reply.frame link.is_open)) client link)
      (one_of (go.Took connection sent) _ (λ none. let never : ⊥ = cc in never) tells) (steps_stay t seen client (go.Took connection sent) _ tells) number
