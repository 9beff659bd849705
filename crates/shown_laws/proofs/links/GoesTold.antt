-- What is told of connections at a step of a client.
use Rattle.std.proofs.Common.{◌≡◌, refl, sym, ap, ◌∙◌, Bool, true, false, ℕ, ◌+◌, List, [], ◌++◌, map, Option, Some, None, ◌⊎◌, inl, inr, if◌then◌else◌}
use Rattle.std.specs.Prelude.{nat_le, ◌-◌, unwrap_or}
use Rattle.svc_values.specs.declared.frame.Down.{Down}
use Rattle.svc_values.specs.declared.frame.Up.{Up}
use Rattle.pool_core.specs.declared.answers.Back.{Back}
use Rattle.pool_core.specs.declared.answers.Take.TheVariants as take
use Rattle.pool_core.specs.meaning.Slots.{take_answer, after_take, give_back_answer}
use Rattle.client_model.specs.declared.act.Act.{Act}
use Rattle.client_model.specs.declared.act.Failed.TheVariants.{Retries, PoolWait}
use Rattle.client_model.specs.declared.input.Input.{Input}
use Rattle.client_model.specs.declared.input.Input.TheVariants.{Waiting, Lent, Opened, TryFailed, Took, Gone}
use Rattle.client_model.specs.meaning.Talk.{Step, takes as taken_by, fails, quiet, stands, talk_step, waits_from, with_tried, lost_of}
use Rattle.client_model.specs.meaning.Terms.{Terms, Talk, Queued, Seeking}
use Rattle.outage_schedule.specs.declared.note.GoNote.{GoNote}
use Rattle.shown_clauses.specs.meaning.Links.{Link as Seen, after_go}
use Rattle.world_model.specs.meaning.Acting.{closing, sent_by, owner_at, call_in, act_at, connection_of, steps, loses}
use Rattle.world_model.specs.meaning.Clients.{Doing, heard, doing_at}
use Rattle.world_model.specs.meaning.Frames.{Sent}
use Rattle.world_model.specs.meaning.Going.{lost_at_once, unless_open}
use Rattle.world_model.specs.meaning.Links.{Link, new_link, link_at, takes}
use Rattle.world_model.specs.meaning.Machines.{Machine}
use Rattle.world_model.specs.meaning.Settings.{Setting}
use Rattle.shown_laws.proofs.links.ConnectionsTold.{AllTold, sends_told, opened_told, takes_told, lent_told}
use Rattle.shown_laws.proofs.events.GoNotes.{with_pool, with_new, next_number, taking, TooEarly, NoneFound, GoesAs, Idles, Rests, Waits, Lends, Opens, Fails, Takes, Loses}
use Rattle.shown_laws.proofs.events.Lookups.{with_own, new_own}

-- SILENCE -----------------------------------------------------------------------------------------

abbrev pub frames_by : Back → Act → List Up
frames_by back act = act.send ++ closing act.hold back

either_silent : (back : Back) (test : Bool) (one other : Step) → frames_by back one.1 ≡ [] → frames_by back other.1 ≡ [] → frames_by back (if test then one else other).1 ≡ []
either_silent back true one other first second = first
either_silent back false one other first second = second

-- a request that waits sends nothing, nor one whose try failed
pub waiting_silent : (terms : Terms) (talk : Talk) (now : ℕ) (back : Back) → frames_by back (talk_step terms talk Waiting now).1 ≡ []
waiting_silent terms talk now back =
    let from : ℕ = waits_from talk.phase now in
    either_silent back (nat_le terms.limits.wait (now - from)) (fails talk false None (PoolWait from now)) (stands talk (Queued (Some from)), quiet) refl refl

pub failed_silent : (terms : Terms) (talk : Talk) (now : ℕ) (back : Back) → frames_by back (talk_step terms talk TryFailed now).1 ≡ []
failed_silent terms talk now back =
    either_silent back (nat_le terms.limits.retries (talk.tries + 1)) (fails (with_tried talk now) false None (Retries (talk.tries + 1))) (stands (with_tried talk now) (Seeking (lost_of talk.phase)), quiet) refl refl

-- what a step needs of the connection on which frames go out
pub record Speaks (m : Machine) : Type 0 where
  -- one that the pool lends is open
  pub lent : (client connection : ℕ) (link : Link) → take_answer m.pool client ≡ take.Lent connection → link_at m.links connection ≡ Some link → link.is_open ≡ true
  -- nothing is sent where a frame comes from one that has ended
  pub dead : (terms : Terms) (talk : Talk) (frame : Down) (now : ℕ) (back : Back) → frames_by back (taken_by terms talk talk.phase frame false now).1 ≡ []

-- STEPS -------------------------------------------------------------------------------------------

module _ (setting : Setting) (told : List Seen) where
  -- the frames of a step
  abbrev frames_in : Machine → ℕ → Doing → Input → List Sent
  frames_in a client doing input =
      map (sent_by (owner_at a client) (call_in (heard setting.terms a.event a.tick doing input).talk.phase)) (frames_by (give_back_answer a.pool (connection_of doing)) (act_at setting a doing input))

  steps_told : (a : Machine) (client : ℕ) (doing : Doing) (slot : Bool) (input : Input) → AllTold a.links told
      → ((link : Link) → link_at a.links (connection_of doing) ≡ Some link → (link.is_open ≡ true) ⊎ (frames_by (give_back_answer a.pool (connection_of doing)) (act_at setting a doing input) ≡ []))
      → AllTold (steps setting a client doing slot input).links told
  steps_told a client doing slot input all speaks =
      sends_told a.event (frames_in a client doing input) a.links told (connection_of doing) all (λ link there. by link (speaks link there))
    where
      by : (link : Link) → (link.is_open ≡ true) ⊎ (frames_by (give_back_answer a.pool (connection_of doing)) (act_at setting a doing input) ≡ []) → (link.is_open ≡ true) ⊎ (frames_in a client doing input ≡ [])
      by link (inl opens) = inl opens
      by link (inr none) = inr (ap (map (sent_by (owner_at a client) (call_in (heard setting.terms a.event a.tick doing input).talk.phase))) none)

  lost_told : (a : Machine) (client : ℕ) (doing : Doing) (ended : Option ℕ) → AllTold a.links told → AllTold (loses setting a client doing ended).links told
  lost_told a client doing ended all = steps_told a client (record doing { connection = None }) true (Gone (unwrap_or ended 0)) all (λ link there. absurd (let none : ⊥ = cc in none))

  at_once_told : (a : Machine) (client : ℕ) (ended : Option ℕ) (doing : Option Doing) → AllTold a.links told → AllTold (lost_at_once setting a client ended doing).links told
  at_once_told a client ended None all = all
  at_once_told a client ended (Some doing) all = lost_told a client doing ended all

  unless_told : (a : Machine) (client : ℕ) (link : Link) → AllTold a.links told → AllTold (unless_open setting a client link).links told
  unless_told a client link all = by link.is_open
    where
      by : (opens : Bool) → AllTold (if opens then a else lost_at_once setting a client link.ended (doing_at a.clients client)).links told
      by true = all
      by false = at_once_told a client link.ended (doing_at a.clients client) all

-- What a step of a client does to its connection is told by its note.
pub goes_told : (setting : Setting) (m : Machine) (client : ℕ) (did : GoNote) (n : Machine) (told : List Seen) → Speaks m → AllTold m.links told → GoesAs setting m client did n → AllTold n.links (after_go client m.event did told)
goes_told setting m client _ _ told speaks all Idles = all
goes_told setting m client _ _ told speaks all (Rests doing _ _ is TooEarly) = all
goes_told setting m client _ _ told speaks all (Rests doing _ _ is NoneFound) = all
goes_told setting m client _ _ told speaks all (Waits doing is answer) =
    steps_told setting told (with_pool m (after_take m.pool client)) client doing false Waiting all (λ link there. inr (waiting_silent setting.terms doing.talk m.tick _))
goes_told setting m client _ _ told speaks all (Lends doing connection link ltxid is answer there held) =
    lent_told client m.event connection _ told
    (steps_told setting told (with_pool m (after_take m.pool client)) client (record doing { connection = Some connection }) true (Lent connection ltxid) all (λ other at. inl (speaks.lent client connection other answer at)))
goes_told setting m client _ _ told speaks all (Opens doing wanted pool is tries) =
    steps_told setting told (with_new m pool) client (record doing { connection = Some (next_number m) }) true (Opened (next_number m)) (opened_told m.links told all)
    (λ link there.
    let both : Some new_link ≡ Some link = sym (new_own m.links new_link) ∙ there in
    let same : new_link ≡ link = cc in
    inl (ap (λ (l : Link). l.is_open) (sym same)))
goes_told setting m client _ _ told speaks all (Fails doing wanted pool is tries) =
    steps_told setting told (with_pool m pool) client doing true TryFailed all (λ link there. inr (failed_silent setting.terms doing.talk m.tick _))
goes_told setting m client _ _ told speaks all (Takes doing connection sent link reply left is has there down frames) =
    unless_told setting _ (steps setting (taking m connection link reply left) client doing true (Took reply.frame link.is_open)) client link
    (steps_told setting _ (taking m connection link reply left) client doing true (Took reply.frame link.is_open)
    (takes_told client m.event connection (Took reply.frame link.is_open) m.links told link reply left all there down)
    (λ other at. by link.is_open refl other at))
  where
    taken : Link
    taken = takes (Took reply.frame link.is_open) reply left link

    found : (other : Link) → link_at (taking m connection link reply left).links (connection_of doing) ≡ Some other → takes (Took reply.frame link.is_open) reply left link ≡ other
    found other at =
        let mine : connection_of doing ≡ connection = ap (λ (c : Option ℕ). unwrap_or c 0) has in
        let same : Some (takes (Took reply.frame link.is_open) reply left link) ≡ Some other =
        sym (with_own m.links connection link (takes (Took reply.frame link.is_open) reply left link) there) ∙ (ap (link_at (taking m connection link reply left).links) (sym mine) ∙ at) in
        let it : takes (Took reply.frame link.is_open) reply left link ≡ other = cc in
        it

    by : (opens : Bool) → link.is_open ≡ opens → (other : Link) → link_at (taking m connection link reply left).links (connection_of doing) ≡ Some other
        → (other.is_open ≡ true) ⊎ (frames_by (give_back_answer m.pool (connection_of doing)) (taken_by setting.terms doing.talk doing.talk.phase reply.frame link.is_open m.tick).1 ≡ [])
    by true opens other at = inl (ap (λ (l : Link). l.is_open) (sym (found other at)) ∙ opens)
    by false opens other at =
        inr (ap (λ (alive : Bool). frames_by (give_back_answer m.pool (connection_of doing)) (taken_by setting.terms doing.talk doing.talk.phase reply.frame alive m.tick).1) opens
        ∙ speaks.dead setting.terms doing.talk reply.frame m.tick (give_back_answer m.pool (connection_of doing)))
goes_told setting m client _ _ told speaks all (Loses doing connection link is has there down shut) = lost_told setting told m client doing link.ended all
