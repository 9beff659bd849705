-- Nor does one that takes a reply.
use Rattle.std.proofs.Common.{◌≡◌, ◌≢◌, refl, sym, ap, subst, ◌∙◌, Bool, true, false, ℕ, ◌+◌, List, Option, Some, None, ◌⊎◌, inl, inr, if◌then◌else◌}
use Rattle.std.specs.Prelude.{◌==◌, unwrap_or}
use Rattle.std.specs.List.{list_any}
use Rattle.pool_core.specs.meaning.Slots.{after_take, give_back_answer}
use Rattle.client_model.specs.declared.act.Hold.TheVariants as hold
use Rattle.client_model.specs.declared.input.Input.TheVariants.{Waiting, TryFailed, Took, Gone}
use Rattle.client_model.specs.declared.input.Wants.{Wants}
use Rattle.client_model.specs.declared.input.Wants.TheVariants as wants
use Rattle.client_model.specs.meaning.Talk.{takes as taken_by}
use Rattle.outage_schedule.specs.declared.note.GoNote.{GoNote}
use Rattle.pool_core.specs.meaning.Slots.{Slots}
use Rattle.world_model.specs.meaning.Acting.{connection_of, steps}
use Rattle.world_model.specs.meaning.Clients.{Step, Doing, heard, step_at, doing_at}
use Rattle.world_model.specs.meaning.Frames.{Reply}
use Rattle.world_model.specs.meaning.Going.{lost_at_once, unless_open}
use Rattle.invariant_laws.specs.Invariant.{Invariant}
use Rattle.world_model.specs.meaning.Links.{Link, link_at, takes}
use Rattle.world_model.specs.meaning.Machines.{Machine}
use Rattle.world_model.specs.meaning.Settings.{Setting}
use Rattle.world_model.specs.Traced.{Traced}
use Rattle.world_model.specs.Words.{held_in}
use Rattle.shown_laws.specs.Closing.{IsUnclosed, HeldUnclosed, AllUnclosed}
use Rattle.shown_laws.proofs.events.ClientsMove.{stepped, TakenSo, Alive, Ended, Lost, unless_moves}
use Rattle.shown_laws.proofs.events.CourseNow.{was_there}
use Rattle.shown_laws.proofs.events.Following.{at_event}
use Rattle.shown_laws.proofs.links.GoesTold.{Speaks, frames_by, waiting_silent, failed_silent}
use Rattle.shown_laws.proofs.events.GoNotes.{IsDoing, taking, GoesAs, Idles, Rests, Waits, Lends, Opens, Fails, Takes, Loses, Tries, FromQueue, Again}
use Rattle.shown_laws.proofs.links.LinksStay.{AllStay, takes_stays, then_stay, with_stay}
use Rattle.shown_laws.proofs.events.Lookups.{either}
use Rattle.shown_laws.proofs.links.Single.{is_alone}
use Rattle.shown_laws.proofs.links.Unclosed.{still_unclosed, held_more, acting}
use Rattle.shown_laws.proofs.links.UnclosedGoes.{same_had, lost_had, OthersStay, all_from, after_held, leads_held, keep_stay, quiet_stay, other_stay, quiet_all, lends_all, opens_all, loses_all}

-- what is lost at once leaves the connections
pub unless_links : (setting : Setting) (a : Machine) (client : ℕ) (link : Link) → (unless_open setting a client link).links ≡ a.links
unless_links setting a client link = by link.is_open
  where
    once : (doing : Option Doing) → (lost_at_once setting a client link.ended doing).links ≡ a.links
    once None = refl
    once (Some doing) = refl

    by : (opens : Bool) → (if opens then a else lost_at_once setting a client link.ended (doing_at a.clients client)).links ≡ a.links
    by true = refl
    by false = once (doing_at a.clients client)

module _ (t : Traced) (inv : Invariant t) (speaks : Speaks (at_event t.machine)) (before : AllUnclosed t.machine) (client : ℕ) where
  module _ (doing : Doing) (connection : ℕ) (link : Link) (reply : Reply) (left : List Reply) (is : IsDoing t.setting (at_event t.machine) client doing wants.Frame) (has : doing.connection ≡ Some connection) (there : link_at t.machine.links connection ≡ Some link) where
    abbrev between : Machine
    between = taking (at_event t.machine) connection link reply left

    abbrev first : Doing
    first = heard t.setting.terms (t.machine.event + 1) t.machine.tick doing (Took reply.frame link.is_open)

    abbrev said : Step
    said = step_at t.setting.terms (t.machine.event + 1) t.machine.tick doing (Took reply.frame link.is_open)

    abbrev a : Machine
    a = steps t.setting (taking (at_event t.machine) connection link reply left) client doing true (Took reply.frame link.is_open)

    number_is : connection_of doing ≡ connection
    number_is = ap (λ (c : Option ℕ). unwrap_or c 0) has

    now_is : is.client.now ≡ Some doing
    now_is = was_there t.setting.terms (t.machine.event + 1) t.machine.tick wants.Frame is.client.now is.client.next doing is.does is.wants (λ same. let none : ⊥ = cc in none)

    taken_stay : (number : ℕ) → AllStay t.machine.links (taking (at_event t.machine) connection link reply left).links number
    taken_stay number = with_stay t.machine.links connection link (takes (Took reply.frame link.is_open) reply left link) there (takes_stays (Took reply.frame link.is_open) reply left link) number

    -- where the connection is open the request may be over and close it
    open_others : link.is_open ≡ true → OthersStay t inv speaks before client a
    open_others opens other its done number differ here now one = by (either number connection) one.had
      where
        by : (number ≡ connection) ⊎ (number ≢ connection) → (done.connection ≡ Some number) ⊎ (one.link.is_open ≡ false) → AllStay t.machine.links (steps t.setting (taking (at_event t.machine) connection link reply left) client doing true (Took reply.frame link.is_open)).links number
        by (inl same) (inl had) = absurd (differ (is_alone t inv other client its is.client done doing connection here now (had ∙ ap Some same) is.here now_is has))
        by (inl same) (inr shut) =
            let both : Some link ≡ Some one.link = sym there ∙ (ap (link_at t.machine.links) (sym same) ∙ one.there) in
            let it : link ≡ one.link = cc in
            let open_too : one.link.is_open ≡ true = ap (λ (l : Link). l.is_open) (sym it) ∙ opens in
            absurd (let never : ⊥ = cc in never)
        by (inr apart) had =
            then_stay t.machine.links (taking (at_event t.machine) connection link reply left).links (steps t.setting (taking (at_event t.machine) connection link reply left) client doing true (Took reply.frame link.is_open)).links number (taken_stay number)
            (other_stay t inv speaks before client (taking (at_event t.machine) connection link reply left) doing true (Took reply.frame link.is_open) number (λ same. apart (same ∙ number_is)))

    kept_stay : said.done.act.hold ≡ hold.Keep → (number : ℕ) → AllStay t.machine.links a.links number
    kept_stay keep number =
        then_stay t.machine.links (taking (at_event t.machine) connection link reply left).links (steps t.setting (taking (at_event t.machine) connection link reply left) client doing true (Took reply.frame link.is_open)).links number (taken_stay number)
        (keep_stay t inv speaks before client (taking (at_event t.machine) connection link reply left) doing true (Took reply.frame link.is_open) keep number)

    -- where it has ended nothing is sent
    shut_stay : link.is_open ≡ false → (number : ℕ) → AllStay t.machine.links a.links number
    shut_stay shut number =
        then_stay t.machine.links (taking (at_event t.machine) connection link reply left).links (steps t.setting (taking (at_event t.machine) connection link reply left) client doing true (Took reply.frame link.is_open)).links number (taken_stay number)
        (quiet_stay t inv speaks before client (taking (at_event t.machine) connection link reply left) doing true (Took reply.frame link.is_open)
        (ap (λ (alive : Bool). frames_by (give_back_answer t.machine.pool (connection_of doing)) (taken_by t.setting.terms doing.talk doing.talk.phase reply.frame alive t.machine.tick).1) shut
        ∙ speaks.dead t.setting.terms doing.talk reply.frame t.machine.tick (give_back_answer t.machine.pool (connection_of doing))) number)

    -- what it held, behind the reply
    old_of : (number : ℕ) → (list_any (λ other. other == number) (held_in doing.steps) ≡ true) ⊎ (None ≡ Some number) → list_any (λ other. other == number) (held_in doing.steps) ≡ true
    old_of number (inl among) = among
    old_of number (inr never) = absurd (let no : ⊥ = cc in no)

    first_held : (links : List Link) → ((number : ℕ) → AllStay t.machine.links links number) → HeldUnclosed links first
    first_held links stay number among =
        same_had links doing (heard t.setting.terms (t.machine.event + 1) t.machine.tick doing (Took reply.frame link.is_open)) number refl
        (still_unclosed t.machine.links links doing number (stay number)
        (acting t is.client client doing before is.here is.does number (old_of number (held_more doing.steps (step_at t.setting.terms (t.machine.event + 1) t.machine.tick doing (Took reply.frame link.is_open)) number among))))

    gone_held : link.is_open ≡ false → (links : List Link) → ((number : ℕ) → AllStay t.machine.links links number)
        → HeldUnclosed links (heard t.setting.terms (t.machine.event + 1) t.machine.tick (record first { connection = None }) (Gone (unwrap_or link.ended 0)))
    gone_held shut links stay number among =
        let one : IsUnclosed t.machine.links doing number =
        acting t is.client client doing before is.here is.does number
        (old_of number (held_more doing.steps (step_at t.setting.terms (t.machine.event + 1) t.machine.tick doing (Took reply.frame link.is_open)) number
        (first_of number (held_more first.steps (step_at t.setting.terms (t.machine.event + 1) t.machine.tick (record first { connection = None }) (Gone (unwrap_or link.ended 0))) number among)))) in
        still_unclosed t.machine.links links (heard t.setting.terms (t.machine.event + 1) t.machine.tick (record first { connection = None }) (Gone (unwrap_or link.ended 0))) number (stay number)
        (lost_had t.machine.links doing (heard t.setting.terms (t.machine.event + 1) t.machine.tick (record first { connection = None }) (Gone (unwrap_or link.ended 0))) number connection link has there shut one)
      where
        first_of : (number : ℕ) → (list_any (λ other. other == number) (held_in (heard t.setting.terms (t.machine.event + 1) t.machine.tick doing (Took reply.frame link.is_open)).steps) ≡ true) ⊎ (None ≡ Some number)
            → list_any (λ other. other == number) (held_in (heard t.setting.terms (t.machine.event + 1) t.machine.tick doing (Took reply.frame link.is_open)).steps) ≡ true
        first_of number (inl among) = among
        first_of number (inr never) = absurd (let no : ⊥ = cc in no)

    taken_all : (n : Machine) → n.links ≡ a.links → TakenSo t.setting (at_event t.machine) client is.client is.here a n first link said.done.act.hold → AllUnclosed n
    taken_all n links (Alive opens clients moves) =
        all_from t inv speaks before client is.client is.here n _ clients
        (after_held t inv speaks before client is.client n.links first said.done.act.hold (λ keep. first_held n.links (λ number. subst (λ (l : List Link). AllStay t.machine.links l number) (sym links) (kept_stay keep number))))
        (λ other its done number differ here now one. subst (λ (l : List Link). AllStay t.machine.links l number) (sym links) (open_others opens other its done number differ here now one))
    taken_all n links (Ended shut over moves) =
        all_from t inv speaks before client is.client is.here n moves.next moves.clients
        (leads_held t inv speaks before client is.client n.links first moves.next moves.leads (first_held n.links (λ number. subst (λ (l : List Link). AllStay t.machine.links l number) (sym links) (shut_stay shut number))))
        (λ other its done number differ here now one. subst (λ (l : List Link). AllStay t.machine.links l number) (sym links) (shut_stay shut number))
    taken_all n links (Lost shut keeps moves) =
        all_from t inv speaks before client is.client is.here n moves.next moves.clients
        (leads_held t inv speaks before client is.client n.links _ moves.next moves.leads (gone_held shut n.links (λ number. subst (λ (l : List Link). AllStay t.machine.links l number) (sym links) (shut_stay shut number))))
        (λ other its done number differ here now one. subst (λ (l : List Link). AllStay t.machine.links l number) (sym links) (shut_stay shut number))

    pub takes_all : AllUnclosed (unless_open t.setting a client link)
    takes_all =
        taken_all (unless_open t.setting (steps t.setting (taking (at_event t.machine) connection link reply left) client doing true (Took reply.frame link.is_open)) client link)
        (unless_links t.setting (steps t.setting (taking (at_event t.machine) connection link reply left) client doing true (Took reply.frame link.is_open)) client link)
        (unless_moves t.setting (at_event t.machine) client is.client is.here (steps t.setting (taking (at_event t.machine) connection link reply left) client doing true (Took reply.frame link.is_open))
        (heard t.setting.terms (t.machine.event + 1) t.machine.tick doing (Took reply.frame link.is_open)) link (step_at t.setting.terms (t.machine.event + 1) t.machine.tick doing (Took reply.frame link.is_open)).done.act.hold
        (stepped t.setting t.machine.clients client is.client (heard t.setting.terms (t.machine.event + 1) t.machine.tick doing (Took reply.frame link.is_open)) (step_at t.setting.terms (t.machine.event + 1) t.machine.tick doing (Took reply.frame link.is_open)).done.act.hold is.here))

  tries_other : (wanted : Wants) (pool : Slots) → Tries (at_event t.machine) client wanted pool → wants.Frame ≡ wanted → ⊥
  tries_other _ _ (FromQueue answer) same = let never : ⊥ = cc in never
  tries_other _ _ Again same = let never : ⊥ = cc in never

  -- Each step of a client.
  pub goes_all : (did : GoNote) (n : Machine) → GoesAs t.setting (at_event t.machine) client did n → AllUnclosed n
  goes_all _ _ Idles = before
  goes_all _ _ (Rests doing wanted did is rest) = before
  goes_all _ _ (Waits doing is answer) =
      quiet_all t inv speaks before client doing wants.Slot is (after_take t.machine.pool client) false Waiting refl (waiting_silent t.setting.terms doing.talk t.machine.tick _)
  goes_all _ _ (Lends doing connection link ltxid is answer there held) = lends_all t inv speaks before client doing connection link ltxid is answer there
  goes_all _ _ (Opens doing wanted pool is tries) = opens_all t inv speaks before client doing wanted pool is (tries_other wanted pool tries)
  goes_all _ _ (Fails doing wanted pool is tries) = quiet_all t inv speaks before client doing wanted is pool true TryFailed refl (failed_silent t.setting.terms doing.talk t.machine.tick _)
  goes_all _ _ (Takes doing connection sent link reply left is has there down frames) = takes_all doing connection link reply left is has there
  goes_all _ _ (Loses doing connection link is has there down shut) = loses_all t inv speaks before client doing connection link is has there shut
