-- An entry of a connection's session that has its sending has it still where a client steps: one
-- that is answered where it has its entry is answered Committed.
use Rattle.std.proofs.Common.{◌≡◌, refl, sym, ap, subst, ◌∙◌, true, ℕ, ◌+◌, ◌≤◌, ◌<◌, ◌||◌, length, List, ◌∷◌, Option, Some, arith}
use Rattle.std.specs.Prelude.{not}
use Rattle.std.specs.List.{list_all, list_any}
use Rattle.std.specs.Option.{option_map_or}
use Rattle.std.proofs.lemmas.Bool.{and_parts, and_from}
use Rattle.svc_values.specs.declared.answer.Answer.{Answer}
use Rattle.svc_values.specs.declared.entry.Ltxid.{Ltxid}
use Rattle.svc_values.specs.declared.frame.Down.{Down}
use Rattle.svc_values.specs.meaning.Calls.{has_commit}
use Rattle.svc_values.specs.meaning.Endings.{ends_committed}
use Rattle.svc_values.specs.meaning.Identifiers.{same_ltxid, session_of}
use Rattle.svc_values.specs.SameLaws.{same_ltxid_decides}
use Rattle.run_clauses.specs.meaning.EntryEvents.{entries_of}
use Rattle.world_model.specs.meaning.Frames.{Owner}
use Rattle.world_model.specs.Orderly.{Orderly}
use Rattle.world_model.specs.meaning.Links.{Link, link_at}
use Rattle.world_model.specs.records.Number.{cond_held, is_near, is_counted, ahead_rightly, last_served_made}
use Rattle.invariant_laws.specs.Once.{all_sendings, are_apart, have_fates, is_open_or_committed}
use Rattle.world_model.specs.Parts.{Sending, commit_sendings, held_number, number_of}
use Rattle.world_model.specs.Sames.{same_down}
use Rattle.world_model.specs.Traced.{Traced, courses_of}
use Rattle.world_model.proofs.Offered.{at_link, HasStepped, number_named, at_event, known_of, Known, Right, IsLast, extra_few, taken_last, made_commit, right_from, scan_by, some_same}
use Rattle.invariant_laws.proofs.losses.Answering.{IsAnswered}
use Rattle.invariant_laws.proofs.sendings.ApartSteps.{commits}
use Rattle.invariant_laws.proofs.sendings.FateSteps.{IsFated, fated, fated_from, committing_from}
use Rattle.invariant_laws.proofs.losses.KeptUnasked.{held_session}
use Rattle.invariant_laws.proofs.losses.LostSteps.{before_so}
use Rattle.invariant_laws.proofs.losses.ReplyItems.{said_by, commit_says}
use Rattle.invariant_laws.proofs.sendings.SendingsMade.{flat_all, chosen_from}
use Rattle.invariant_laws.proofs.sendings.SendingsPlaced.{after_all, any_step}
use Rattle.invariant_laws.proofs.entries.TriedApart.{is_under}

-- as far ahead as what is out explains
pub right_of : (t : Traced) → Orderly t → (number : ℕ) (link : Link) → link_at t.machine.links number ≡ Some link → Right (number_of t.entries link) link
right_of t inv number link there =
    right_from t link (at_link (is_near t) t.machine.links number link inv.number.near there) (at_link (is_counted t) t.machine.links number link inv.number.counted there) (at_link (ahead_rightly t) t.machine.links number link inv.number.ahead there)

module _ (t : Traced) (inv : Orderly t) (apart : are_apart t ≡ true) (fates : have_fates t ≡ true) (new : Traced) (who : ℕ) (step : HasStepped t.setting (at_event t.machine) who new.machine) where
  abbrev mine : Owner
  mine = record { client = who; place = length step.client.past }

  abbrev sendings : List Sending
  sendings = (scan_by mine step.before.steps).sendings

  all_fated : list_all (λ (sending : Sending). not (commits sending) || fated t.machine.links sending) sendings ≡ true
  all_fated =
      chosen_from commits (fated t.machine.links) sendings
      (before_so t inv who new.machine step (λ course. list_all (fated t.machine.links) (commit_sendings course)) (sym (flat_all (fated t.machine.links) commit_sendings (courses_of t)) ∙ fates) (λ request. refl))

  -- the session has an entry of this identifier
  module _ (x : Ltxid) (below : x.number < entries_of t.entries (session_of x)) where
    -- so what is answered under it was a commit
    module _ (top : Sending) (rest : List Sending) (answers : List Answer) (are : sendings ≡ top ∷ rest) (is : IsAnswered t inv apart new who step top answers) (has : has_commit top.call ≡ true) (same : top.ltxid ≡ x) where
      abbrev link : Link
      link = is.taking.link

      at : IsFated t.machine.links top
      at =
          fated_from t.machine.links top
          (committing_from (fated t.machine.links) top
          (and_parts (not (commits top) || fated t.machine.links top) (list_all (λ (sending : Sending). not (commits sending) || fated t.machine.links sending) rest)
          (subst (λ (list : List Sending). list_all (λ (sending : Sending). not (commits sending) || fated t.machine.links sending) list ≡ true) are all_fated)).0 has)

      on_it : at.link ≡ link
      on_it = some_same (link_at t.machine.links is.taking.connection) at.link link (subst (λ (k : ℕ). link_at t.machine.links k ≡ Some at.link) is.on_it at.there) is.taking.there

      held : link.held ≡ Some x
      held = ap (λ (l : Link). l.held) (sym on_it) ∙ ((at.fate.waits is.untaken).held ∙ ap Some same)

      known : Known link
      known = known_of t inv is.taking.connection link is.taking.there

      last : IsLast link is.taking.reply
      last = taken_last link is.taking.reply is.taking.later known is.taking.down_is

      right : Right (number_of t.entries link) link
      right = right_of t inv is.taking.connection link is.taking.there

      made : last_served_made link ≡ true
      made =
          let count : number_of t.entries link ≡ entries_of t.entries (session_of x) = number_named t.entries link (session_of x) (held_session t inv.basic.named inv.basic.apart is.taking.connection link x is.taking.there held) in
          let number : held_number link ≡ x.number = ap (λ (h : Option Ltxid). option_map_or (λ (y : Ltxid). y.number) h 0) held in
          let most : number_of t.entries link ≤ held_number link + cond_held link = right.most in
          let few : cond_held link ≤ 1 = extra_few _ in
          let ahead : number_of t.entries link ≡ held_number link + 1 = omega (arith, below, count, number, most, few) in
          (right.ahead ahead).1

      committed : ends_committed answers ≡ true
      committed =
          commit_says answers is.draws is.ltxid last.one.sent.frame last.one.served.item last.frame (said_by link known is.taking.reply last) (subst (λ (frame : Down). same_down frame last.frame ≡ true) is.says last.same)
          (made_commit link is.taking.reply known last made)

    pub still_sent : list_any (is_under x) (all_sendings t) ≡ true → list_any (is_under x) (after_all t inv new who step) ≡ true
    still_sent any =
        any_step t inv new who step (is_under x) apart
        (λ top rest answers are is has under.
        let parts = and_parts (is_open_or_committed top) (same_ltxid x top.ltxid) under in
        and_from (ends_committed answers) (same_ltxid x top.ltxid) (committed top rest answers are is has (sym ((same_ltxid_decides x top.ltxid).0 parts.1))) parts.1) any
