-- Where a request's step takes the answer Committed to a sending, the entry of the sending was
-- there. So a test of the request's sendings that were answered Committed holds behind the step,
-- where it did before and holds of those whose entry is there.
use Rattle.std.proofs.Common.{◌≡◌, refl, sym, ap, subst, ◌∙◌, Bool, true, false, ℕ, ◌<◌, ◌≤◌, ◌&&◌, cond, filter, fold, length, List, [], ◌∷◌, Some, arith}
use Rattle.std.specs.Prelude.{not}
use Rattle.std.specs.List.{list_all}
use Rattle.std.specs.Option.{option_map_or}
use Rattle.std.proofs.lemmas.Bool.{and_parts, and_from, or_right}
use Rattle.svc_values.specs.declared.answer.Answer.{Answer}
use Rattle.svc_values.specs.declared.entry.Ltxid.{Ltxid}
use Rattle.svc_values.specs.meaning.Calls.{has_commit}
use Rattle.svc_values.specs.meaning.Endings.{ends_committed}
use Rattle.svc_values.specs.meaning.Identifiers.{session_of}
use Rattle.run_clauses.specs.meaning.EntryEvents.{entries_of}
use Rattle.world_model.specs.meaning.Frames.{Owner}
use Rattle.invariant_laws.specs.Invariant.{Invariant}
use Rattle.world_model.specs.meaning.Links.{Link, link_at, takes, sends}
use Rattle.client_model.specs.declared.input.Input.TheVariants.{Took}
use Rattle.world_model.specs.meaning.Machines.{Machine}
use Rattle.world_model.specs.Parts.{Sending, Scan, commit_sendings, has_entry, held_number, implies, number_of, sent_on}
use Rattle.world_model.specs.Traced.{Traced, courses_of}
use Rattle.world_model.proofs.Offered.{weaker_all, HasStepped, number_named, at_event, known_of, Right, implied, taken_right, scan_by, heard_scan, after_sendings, first_step, some_same}
use Rattle.invariant_laws.proofs.Offered.{Answering, AnsweringIsAnswered as IsAnswered, Unanswered, LastAnswered, answering_answering as answering, PushedAs, NoMore, OneMade, apart_steps_commits as commits, pushed_as, each_flat, right_of, IsFated, fated, fated_from, mine_fated, entry_there, held_session, both_all, before_so, said as spoken_frames, made}

-- where it goes on to be fated
if_fated : (fate stored : Bool) → stored ≡ true → implies fate stored ≡ true
if_fated fate stored is = or_right (not fate) stored is

-- `passes` holds of all that were sent before
module _ (t : Traced) (whole : Invariant t) (new : Traced) (who : ℕ) (step : HasStepped t.setting (at_event t.machine) who new.machine) (good passes : Sending → Bool)
    (old_open : list_all passes (filter commits (scan_by (record { client = who; place = length step.client.past }) step.before.steps).sendings) ≡ true)
    (from : (top : Sending) (answers : List Answer) → IsAnswered t whole.orderly whole.once.apart new who step top answers → passes top ≡ true → has_entry t.entries top.ltxid ≡ true → good (record top { taken = Some answers }) ≡ true) where
  abbrev m : Machine
  m = at_event t.machine

  abbrev mine : Owner
  mine = record { client = who; place = length step.client.past }

  abbrev sendings : List Sending
  sendings = (scan_by mine step.before.steps).sendings

  abbrev scan_now : Scan
  scan_now = heard_scan t.setting m whole.orderly.script.talks who new.machine step

  abbrev stored : Sending → Bool
  stored sending = implies (option_map_or ends_committed sending.taken false) (good sending)

  abbrev stored_so : Sending → Bool
  stored_so sending = implies (fated new.machine.links sending) (stored sending)

  -- the one that is answered now
  module _ (top : Sending) (answers : List Answer) (is : IsAnswered t whole.orderly whole.once.apart new who step top answers) (was_fated : fated t.machine.links top ≡ true) (opens : passes top ≡ true) where
    abbrev answered_now : Sending
    answered_now = record top { taken = Some answers }

    abbrev x : Ltxid
    x = top.ltxid

    abbrev link : Link
    link = is.taking.link

    abbrev next : Link
    next = sends m.event (spoken_frames t.setting m who new.machine step) (takes (Took is.taking.reply.frame link.is_open) is.taking.reply is.taking.later link)

    at : IsFated t.machine.links top
    at = fated_from t.machine.links top was_fated

    on_it : at.link ≡ link
    on_it = some_same (link_at t.machine.links is.taking.connection) at.link link (subst (λ (k : ℕ). link_at t.machine.links k ≡ Some at.link) is.on_it at.there) is.taking.there

    held : link.held ≡ Some x
    held = ap (λ (l : Link). l.held) (sym on_it) ∙ (at.fate.waits is.untaken).held

    count : number_of t.entries link ≡ entries_of t.entries (session_of x)
    count = number_named t.entries link (session_of x) (held_session t whole.orderly.basic.named whole.orderly.basic.apart is.taking.connection link x is.taking.there held)

    behind : Right (number_of t.entries link) next
    behind =
        taken_right (number_of t.entries link) m.event (spoken_frames t.setting m who new.machine step) link is.taking.reply is.taking.later (known_of t whole.orderly is.taking.connection link is.taking.there)
        (right_of t whole.orderly is.taking.connection link is.taking.there) is.taking.down_is

    was_there : fated new.machine.links answered_now ≡ true → ends_committed answers ≡ true → has_entry t.entries x ≡ true
    was_there now_fated ends =
        let at_new : IsFated new.machine.links answered_now = fated_from new.machine.links answered_now now_fated in
        let same : at_new.link ≡ next = some_same (link_at new.machine.links is.taking.connection) at_new.link next (subst (λ (k : ℕ). link_at new.machine.links k ≡ Some at_new.link) is.on_it at_new.there) is.taking.after in
        let less : x.number < held_number at_new.link = at_new.fate.told answers refl ends in
        let number : held_number at_new.link ≡ held_number next = ap held_number same in
        let least : held_number next ≤ number_of t.entries link = behind.least in
        let none : entries_of [] (session_of x) ≡ 0 = refl in
        entry_there [] t.entries x whole.orderly.number.entries (omega (arith, none)) (omega (arith, less, number, least, count, none))

    answered_stored : stored_so answered_now ≡ true
    answered_stored = by (fated new.machine.links answered_now) refl
      where
        ends_so : fated new.machine.links answered_now ≡ true → (test : Bool) → ends_committed answers ≡ test → implies test (good answered_now) ≡ true
        ends_so so false ends = refl
        ends_so so true ends = from top answers is opens (was_there so ends)

        by : (fate : Bool) → fated new.machine.links answered_now ≡ fate → implies fate (stored answered_now) ≡ true
        by false so = refl
        by true so = ends_so so (ends_committed answers) refl

  kept_so : (list : List Sending) → list_all stored list ≡ true → list_all stored_so list ≡ true
  kept_so list all = weaker_all stored stored_so list (λ sending here. if_fated (fated new.machine.links sending) (stored sending) here) all

  heard_so : (old now : List Sending) → Answering t whole.orderly whole.once.apart new who step old now → list_all stored (filter commits old) ≡ true → list_all (λ s. fated t.machine.links s && passes s) (filter commits old) ≡ true
      → list_all stored_so (filter commits now) ≡ true
  heard_so _ _ (Unanswered list) all open_so = kept_so (filter commits list) all
  heard_so _ _ (LastAnswered top rest answers are is) all open_so = by (has_commit top.call) all open_so
    where
      by : (test : Bool) → list_all stored (cond test (top ∷ filter commits rest) (filter commits rest)) ≡ true
          → list_all (λ s. fated t.machine.links s && passes s) (cond test (top ∷ filter commits rest) (filter commits rest)) ≡ true
          → list_all stored_so (cond test (record top { taken = Some answers } ∷ filter commits rest) (filter commits rest)) ≡ true
      by false all open_so = kept_so (filter commits rest) all
      by true all open_so =
          let one = and_parts (fated t.machine.links top && passes top) (list_all (λ s. fated t.machine.links s && passes s) (filter commits rest)) open_so in
          let two = and_parts (fated t.machine.links top) (passes top) one.0 in
          and_from (stored_so (record top { taken = Some answers })) (list_all stored_so (filter commits rest)) (answered_stored top answers is two.0 two.1)
          (kept_so (filter commits rest) (and_parts (stored top) (list_all stored (filter commits rest)) all).1)

  pushed_so : (pushed : List Sending) → PushedAs t whole.orderly whole.once.apart new who step scan_now.sendings pushed → list_all stored_so (filter commits scan_now.sendings) ≡ true → list_all stored_so (filter commits pushed) ≡ true
  pushed_so _ NoMore all = all
  pushed_so _ (OneMade begun settings call x sends keeps under) all = by (has_commit call)
    where
      by : (test : Bool) → list_all stored_so (cond test (made scan_now call x ∷ filter commits scan_now.sendings) (filter commits scan_now.sendings)) ≡ true
      by false = all
      by true =
          and_from (stored_so (made scan_now call x)) (list_all stored_so (filter commits scan_now.sendings)) (if_fated (fated new.machine.links (made scan_now call x)) (stored (made scan_now call x)) refl) all

  old_fated : list_all (fated t.machine.links) (filter commits sendings) ≡ true
  old_fated = before_so t whole.orderly who new.machine step (λ course. list_all (fated t.machine.links) (commit_sendings course)) (each_flat (fated t.machine.links) commit_sendings (courses_of t) whole.once.fates) (λ request. refl)

  pub after_so : list_all stored (filter commits sendings) ≡ true → list_all stored (filter commits (scan_by mine step.after.steps).sendings) ≡ true
  after_so all =
      weaker_all (λ s. fated new.machine.links s && stored_so s) stored (filter commits (scan_by mine step.after.steps).sendings)
      (λ s both. let parts = and_parts (fated new.machine.links s) (stored_so s) both in implied (fated new.machine.links s) (stored s) parts.0 parts.1)
      (both_all (fated new.machine.links) stored_so (filter commits (scan_by mine step.after.steps).sendings) (mine_fated t whole.orderly whole.once.apart new who step old_fated)
      (ap (λ (list : List Sending). list_all stored_so (filter commits list)) (after_sendings t.setting m whole.orderly.script.talks who new.machine step)
      ∙ pushed_so (fold (sent_on scan_now) scan_now.sendings (first_step t.setting m whole.orderly.script.talks who new.machine step).done.act.send) (pushed_as t whole.orderly whole.once.apart new who step)
      (heard_so sendings scan_now.sendings (answering t whole.orderly whole.once.apart new who step) all (both_all (fated t.machine.links) passes (filter commits sendings) old_fated old_open))))
