-- The reply that a request takes has the number of its session's entries that a report tells to be
-- stored up to the event of its item, and so has the identifier that is held where an outcome is
-- taken.
use Rattle.std.proofs.Common.{◌≡◌, refl, sym, ap, subst, ◌∙◌, Bool, true, false, ℕ, ◌&&◌, length, List, [], ◌∷◌, ◌++◌, Option, Some, None}
use Rattle.std.specs.Prelude.{◌==◌, is_some}
use Rattle.std.specs.Option.{option_map_or}
use Rattle.std.proofs.lemmas.Bool.{and_parts}
use Rattle.svc_values.specs.declared.answer.Answer.{Answer}
use Rattle.svc_values.specs.declared.draw.Draw.{Draw}
use Rattle.svc_values.specs.declared.entry.Ltxid.{Ltxid}
use Rattle.svc_values.specs.declared.entry.SessionId.{SessionId}
use Rattle.svc_values.specs.declared.frame.Down.{Down}
use Rattle.svc_values.specs.declared.frame.Down.TheVariants as down
use Rattle.svc_values.specs.declared.frame.Up.{Up}
use Rattle.svc_values.specs.declared.frame.Up.TheVariants as up
use Rattle.svc_values.specs.meaning.Identifiers.{same_ltxid, session_of}
use Rattle.svc_values.specs.meaning.Same.{same_answers, same_draws}
use Rattle.svc_values.specs.SameLaws.{same_ltxid_decides}
use Rattle.client_model.specs.meaning.States.{Asking}
use Rattle.client_model.specs.meaning.Terms.{Phase, Asked}
use Rattle.outage_schedule.specs.declared.item.Item.{Item}
use Rattle.outage_schedule.specs.declared.item.Item.TheVariants as item
use Rattle.outage_schedule.specs.declared.item.Served.{Served}
use Rattle.outage_schedule.specs.declared.note.AskResult.{AskResult}
use Rattle.outage_schedule.specs.declared.note.AskResult.TheVariants as told
use Rattle.world_model.specs.records.Basic.{is_named}
use Rattle.world_model.specs.meaning.Clients.{Doing, Client, client_at}
use Rattle.run_laws.specs.EntryCounts.{is_counted_by, are_counted_from, are_counted}
use Rattle.world_model.specs.meaning.Frames.{Owner, Handled}
use Rattle.world_model.specs.records.Hold.{is_awaited, is_ask, goes_by, same_held, is_by_held}
use Rattle.invariant_laws.specs.Invariant.{Invariant}
use Rattle.world_model.specs.meaning.Links.{Link, link_at}
use Rattle.world_model.specs.Parts.{implies}
use Rattle.world_model.specs.meaning.Serving.{identifier, outcome_frame, reply_of}
use Rattle.world_model.specs.Traced.{Traced, course_now}
use Rattle.world_model.specs.records.Wire.{same_replies, is_handled, counted_with, handled_from}
use Rattle.shown_laws.proofs.shown.AskedFresh.{IsFresh, opening_fresh}
use Rattle.world_model.proofs.Offered.{commits_behind}
use Rattle.invariant_laws.proofs.Offered.{is_opening}
use Rattle.shown_laws.specs.ClientSteps.{TellsReply}
use Rattle.shown_laws.proofs.events.CourseNow.{course_holds}
use Rattle.shown_laws.proofs.events.Lookups.{eq_from}
use Rattle.shown_laws.proofs.links.LostTold.{held_session}
use Rattle.shown_laws.proofs.steps.ReplyTaken.{said_rightly}
use Rattle.shown_laws.proofs.links.SessionsApart.{at_link}

-- as the report counts the entries of a session up to an event
module _ (count : SessionId → ℕ → ℕ) where
  abbrev pub counted_at : Served → Ltxid
  counted_at served = identifier served.session (count served.session served.event)

  -- WHERE IT WAS SERVED ---------------------------------------------------------------------------

  counted_there : (commits : ℕ) (before later : List Handled) (one : Handled) → handled_from commits (before ++ one ∷ later) ≡ true → are_counted_from count commits (before ++ one ∷ later) ≡ true
      → (is_handled (counted_with (commits_behind commits before) one.served.item) one ≡ true) × (is_counted_by count (counted_with (commits_behind commits before) one.served.item) one ≡ true)
  counted_there commits [] later one handled counted =
      let now : ℕ = counted_with commits one.served.item in
      ((and_parts (is_handled now one) (handled_from now later) handled).0, (and_parts (is_counted_by count now one) (are_counted_from count now later) counted).0)
  counted_there commits (first ∷ before) later one handled counted =
      let now : ℕ = counted_with commits first.served.item in
      counted_there now before later one (and_parts (is_handled now first) (handled_from now (before ++ one ∷ later)) handled).1 (and_parts (is_counted_by count now first) (are_counted_from count now (before ++ one ∷ later)) counted).1

  -- WHAT IT SAYS ----------------------------------------------------------------------------------

  -- the number behind the item is that of the report, and the reply is that of it
  pub record Says (served : Served) (frame : Down) (number : ℕ) : Type 0 where
    pub is : count served.session served.event ≡ number
    pub says : same_replies (Some frame) (reply_of served.session number served.item) ≡ true

  pub reply_says : (owner : Owner) (phase : Phase) (link : Link) (frame : Down) (served : Served) (reply : TellsReply owner phase link frame served) → handled_from 0 link.served ≡ true → are_counted_from count 0 link.served ≡ true
      → Says served frame (counted_with (commits_behind 0 reply.before) served.item)
  reply_says owner phase link frame served reply handled counted =
      subst (λ (s : Served). Says s frame (counted_with (commits_behind 0 reply.before) s.item)) reply.item
      (record {
        is = eq_from (count one.served.session one.served.event) now (subst (λ (r : Option Down). some_counted r ≡ true) reply.reply both.1);
        says = (said_rightly now one frame reply.reply both.0).1;
      })
    where
      one : Handled
      one = reply.one

      now : ℕ
      now = counted_with (commits_behind 0 reply.before) reply.one.served.item

      some_counted : Option Down → Bool
      some_counted found = implies (is_some found) (count reply.one.served.session reply.one.served.event == counted_with (commits_behind 0 reply.before) reply.one.served.item)

      both : (is_handled (counted_with (commits_behind 0 reply.before) reply.one.served.item) reply.one ≡ true) × (is_counted_by count (counted_with (commits_behind 0 reply.before) reply.one.served.item) reply.one ≡ true)
      both =
          counted_there 0 reply.before reply.later reply.one (subst (λ (l : List Handled). handled_from 0 l ≡ true) reply.among handled)
          (subst (λ (l : List Handled). are_counted_from count 0 l ≡ true) reply.among counted)

  -- the reply to an outcome tells no answers
  no_outcome : (answers : List Answer) (draws : List Draw) (y : Ltxid) (result : AskResult) → same_replies (Some (down.Reply answers draws y)) (Some (outcome_frame result)) ≡ true → ⊥
  no_outcome answers draws y (told.Committed completed) says = let none : ⊥ = cc in none
  no_outcome answers draws y told.Uncommitted says = let none : ⊥ = cc in none
  no_outcome answers draws y (told.ServerAhead next) says = let none : ⊥ = cc in none
  no_outcome answers draws y (told.ClientAhead next) says = let none : ⊥ = cc in none
  no_outcome answers draws y (told.Forgotten horizon) says = let none : ⊥ = cc in none

  -- a reply to a call says its session and this number
  said_number : (session : SessionId) (number : ℕ) (answers : List Answer) (draws : List Draw) (y : Ltxid) (one : Item) → same_replies (Some (down.Reply answers draws y)) (reply_of session number one) ≡ true → same_ltxid y (identifier session number) ≡ true
  said_number session number answers draws y (item.Call marked call others drawn) says =
      (and_parts (same_draws draws drawn) (same_ltxid y (identifier session number)) (and_parts (same_answers answers others) (same_draws draws drawn && same_ltxid y (identifier session number)) says).1).1
  said_number session number answers draws y (item.Outcome x result) says = absurd (no_outcome answers draws y result says)
  said_number session number answers draws y one says = absurd (let none : ⊥ = cc in none)

  pub reply_number : (served : Served) (number : ℕ) (answers : List Answer) (draws : List Draw) (y : Ltxid) → Says served (down.Reply answers draws y) number → same_ltxid y (counted_at served) ≡ true
  reply_number served number answers draws y says =
      ap (λ (n : ℕ). same_ltxid y (identifier served.session n)) says.is ∙ said_number served.session number answers draws y served.item says.says

  -- AN OUTCOME ------------------------------------------------------------------------------------

  told_plain : (session : SessionId) (number commits : ℕ) (committed completed : Bool) (one : Item) → same_replies (Some (down.OutcomeIs committed completed)) (reply_of session number one) ≡ true → counted_with commits one ≡ commits
  told_plain session number commits committed completed (item.Outcome x result) says = refl
  told_plain session number commits committed completed one says = absurd (let none : ⊥ = cc in none)

  asked_opens : (x : Ltxid) (frame : Up) → is_ask x frame ≡ true → is_opening frame ≡ true
  asked_opens x (up.Outcome y) is = refl
  asked_opens x _ is = absurd (let none : ⊥ = cc in none)

  same_to : (x : Ltxid) (found : Option Ltxid) → same_held (Some x) found ≡ true → found ≡ Some x
  same_to x None is = absurd (let none : ⊥ = cc in none)
  same_to x (Some y) is = ap Some (sym ((same_ltxid_decides x y).0 is))

  module _ (t : Traced) (inv : Invariant t) (counts : are_counted count t ≡ true) (client : ℕ) (own : Client) (doing : Doing) (here : client_at t.machine.clients client ≡ Some own) (connection : ℕ) (link : Link) (there : link_at t.machine.links connection ≡ Some link)
      (frame : Down) (served : Served) (owner : Owner) (reply : TellsReply owner doing.talk.phase link frame served) where
    pub says : Says served frame (counted_with (commits_behind 0 reply.before) served.item)
    says =
        reply_says owner doing.talk.phase link frame served reply
        (at_link (λ l. handled_from 0 l.served) t.machine.links connection link inv.orderly.wire.handled there)
        (at_link (λ l. are_counted_from count 0 l.served) t.machine.links connection link counts there)

    module _ (now : own.now ≡ Some doing) (has : doing.connection ≡ Some connection) (asking : Asking) (phase : doing.talk.phase ≡ Asked asking) where
      held : link.held ≡ Some asking.fresh
      held =
          let by : is_by_held t (course_now t.setting client (length own.past) doing) ≡ true = course_holds (is_by_held t) t client own doing inv.orderly.hold.by_held here now in
          let one = subst (λ (c : Option ℕ). option_map_or (λ number. option_map_or (λ l. same_held (goes_by doing.talk.phase) l.held) (link_at t.machine.links number) false) c true ≡ true) has by in
          let two = subst (λ (l : Option Link). option_map_or (λ m. same_held (goes_by doing.talk.phase) m.held) l false ≡ true) there one in
          same_to asking.fresh link.held (subst (λ (p : Phase). same_held (goes_by p) link.held ≡ true) phase two)

      fresh : IsFresh link
      fresh =
          opening_fresh t inv.orderly connection link reply.sent there reply.last
          (asked_opens asking.ltxid reply.sent.frame (subst (λ (p : Phase). is_awaited p reply.sent ≡ true) phase reply.awaited))

      pub outcome_number : (committed completed : Bool) → frame ≡ down.OutcomeIs committed completed → same_ltxid asking.fresh (counted_at served) ≡ true
      outcome_number committed completed is = (same_ltxid_decides asking.fresh (counted_at served)).1 (equal asking.fresh sessions numbers)
        where
          sessions : session_of asking.fresh ≡ served.session
          sessions =
              let both : Some (session_of asking.fresh) ≡ Some served.session = sym (held_session link asking.fresh (at_link is_named t.machine.links connection link inv.orderly.basic.named there) held) ∙ reply.session in
              cc

          none : asking.fresh.number ≡ 0
          none = sym (ap (λ (h : Option Ltxid). option_map_or (λ x. x.number) h 0) held) ∙ fresh.held

          numbers : asking.fresh.number ≡ count served.session served.event
          numbers =
              none
              ∙ (sym (fresh.none reply.before (reply.one ∷ reply.later) reply.among)
              ∙ (sym (told_plain served.session (counted_with (commits_behind 0 reply.before) served.item) (commits_behind 0 reply.before) committed completed served.item
              (subst (λ (f : Down). same_replies (Some f) (reply_of served.session (counted_with (commits_behind 0 reply.before) served.item) served.item) ≡ true) is says.says))
              ∙ sym says.is))

          equal : (x : Ltxid) → session_of x ≡ served.session → x.number ≡ count served.session served.event → x ≡ counted_at served
          equal x one other = λ i. identifier (one i) (other i)
