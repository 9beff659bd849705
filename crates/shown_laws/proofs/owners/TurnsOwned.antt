-- At the end of a whole run each turn that is told is of a request that has the step by which its
-- session was acquired, and right for it.
use Rattle.std.proofs.Common.{◌≡◌, refl, sym, ap, subst, ◌∙◌, append-nil, true, ℕ, suc, List, [], ◌∷◌, ◌++◌, map, Option, Some, None, option_map}
use Rattle.std.specs.Prelude.{◌==◌, flat_map, slice_get}
use Rattle.std.specs.List.{list_all}
use Rattle.std.specs.Option.{option_map_or}
use Rattle.std.proofs.lemmas.Bool.{and_parts}
use Rattle.outage_schedule.specs.declared.item.Served.{Served}
use Rattle.outage_schedule.specs.declared.note.Note.{Note}
use Rattle.shown_clauses.specs.meaning.Fronts.{front_of, rest_of}
use Rattle.shown_clauses.specs.meaning.Links.{Acquired, Link as SeenLink, Marked, Turn, link_of, turn_of}
use Rattle.shown_clauses.specs.meaning.Submissions.{Submission}
use Rattle.shown_clauses.specs.meaning.Turns.{is_marked, begins_with, is_turn_right}
use Rattle.world_model.specs.meaning.Clients.{Past, Client, client_at}
use Rattle.invariant_laws.specs.FirstBegins.{begin_once}
use Rattle.world_model.specs.meaning.Frames.{Owner, Sent, Handled}
use Rattle.invariant_laws.specs.Invariant.{Invariant}
use Rattle.invariant_laws.specs.KeptLaws.{RunsKeepInvariant}
use Rattle.world_model.specs.meaning.Links.{Link, link_at}
use Rattle.invariant_laws.specs.NearCalls.{send_near}
use Rattle.invariant_laws.specs.SameLaws.{FollowsInvariant, HoldsInRuns}
use Rattle.world_model.specs.Sames.{same_owners}
use Rattle.world_model.specs.Traced.{Traced}
use Rattle.world_model.specs.records.Wire.{New}
use Rattle.shown_laws.specs.ConnectionLaws.{AreTold}
use Rattle.shown_laws.specs.OwnTurns.{OnWire}
use Rattle.shown_laws.specs.Telling.{seen_told}
use Rattle.shown_laws.specs.TurnOwners.{served_begin, Begun, NotBegun, HasBegun, TurnBegun, TellsOwners, RunsTellOwners, IsOwned, AreOwned, NoneOwned, OneOwned, WholeRunsOwnTurns}
use Rattle.shown_laws.specs.Submitted.{submission_of}
use Rattle.shown_laws.specs.TurnSent.{sent_since}
use Rattle.shown_laws.specs.TurnsOver.{WereTurns, NoneOver, OneOver}
use Rattle.shown_laws.specs.TurnsServed.{calls_served, calls_told, served_in, TellsTurns}
use Rattle.shown_laws.specs.Unblocked.{serve_unblocked}
use Rattle.shown_laws.proofs.owners.AllTurnsRight.{found_in}
use Rattle.shown_laws.proofs.owners.BeginOwner.{front_right, calls_of_begin}
use Rattle.shown_laws.proofs.events.FinishesReached.{finishing_reached}
use Rattle.shown_laws.proofs.links.LinksTold.{AllStand, runs_told}
use Rattle.shown_laws.proofs.events.Lookups.{eq_from}
use Rattle.shown_laws.proofs.owners.OwnersTold.{current_begun}
use Rattle.shown_laws.proofs.steps.RequestCourses.{course_over_is}
use Rattle.shown_laws.proofs.owners.TurnSent.{owners_are}
use Rattle.shown_laws.proofs.owners.TurnsInRuns.{reached_turns}
use Rattle.shown_laws.proofs.owners.TurnsRight.{OwnRight, own_right, none_right, wire}

-- TURNS -------------------------------------------------------------------------------------------

module _ (t : Traced) (inv : Invariant t) (unblocked : serve_unblocked t ≡ true) (once : begin_once t ≡ true) (near : send_near t ≡ true) where
  module _ (number : ℕ) (link : Link) (there : link_at t.machine.links number ≡ Some link) (served later : List Handled) (all : link.served ≡ served ++ later) (turn : Turn) (calls : calls_served served ≡ Some turn.calls) (owner : Owner)
      (begun : served_begin served ≡ Some (Some owner)) where
    abbrev mine : List Sent
    mine = sent_since (map (λ one. one.sent) served)

    on : OnWire link served
    on = wire t inv unblocked once near number link there served later all turn calls

    its : list_all (λ sent. same_owners (Some owner) sent.owner) mine ≡ true
    its = calls_of_begin (map (λ one. one.sent) served) (Some owner) (front_right (map (λ one. one.sent) served) link.sent New on.front on.grammar) begun

    right_over : (own : Client) (one : Past) → client_at t.machine.clients owner.client ≡ Some own → slice_get own.past owner.place ≡ Some one → (sents : List Sent) → mine ≡ sents → is_turn_right (submission_of one) turn ≡ true
    right_over own one here at [] is =
        ap (λ (list : List Marked). begins_with (submission_of one) (front_of is_marked list) (rest_of is_marked list)) (none_right t inv unblocked once near number link there served later all turn calls is)
    right_over own one here at (first ∷ more) is =
        let all_its : list_all (λ sent. same_owners (Some owner) sent.owner) (first ∷ more) ≡ true = subst (λ (sents : List Sent). list_all (λ sent. same_owners (Some owner) sent.owner) sents ≡ true) is its in
        let first_its : Some owner ≡ first.owner = owners_are (Some owner) first.owner (and_parts (same_owners (Some owner) first.owner) (list_all (λ sent. same_owners (Some owner) sent.owner) more) all_its).0 in
        let right : OwnRight t inv unblocked once near number link there served later all turn calls owner = own_right t inv unblocked once near number link there served later all turn calls first more is owner (sym first_its) in
        let same = and_parts (right.course.owner.client == owner.client) (right.course.owner.place == owner.place) right.same in
        let client : right.course.owner.client ≡ owner.client = eq_from right.course.owner.client owner.client same.0 in
        let place : right.course.owner.place ≡ owner.place = eq_from right.course.owner.place owner.place same.1 in
        subst (λ (submission : Submission). is_turn_right submission turn ≡ true)
        (course_over_is t inv right.place right.course own one right.at (ap (client_at t.machine.clients) client ∙ here) (ap (slice_get own.past) place ∙ at)) right.right

  owned_turn : (number : ℕ) (found : Option Link) → link_at t.machine.links number ≡ found → (served later : List Handled) → served_in found ≡ served ++ later → (turn : Turn) → calls_served served ≡ Some turn.calls → TurnBegun t.machine.clients turn served
      → IsOwned t.machine.clients turn
  owned_turn number None there served later same turn calls begun = absurd (never served same calls)
    where
      never : (before : List Handled) → [] ≡ before ++ later → calls_served before ≡ Some turn.calls → ⊥
      never [] same calls = let none : ⊥ = cc in none
      never (one ∷ before) same calls = let none : ⊥ = cc in none
  owned_turn number (Some link) there served later same turn calls begun = by (Some turn.acquired) (served_begin served) refl refl begun
    where
      by : (found : Option (Option Acquired)) (owner : Option (Option Owner)) → found ≡ Some turn.acquired → served_begin served ≡ owner → Begun t.machine.clients found owner → IsOwned t.machine.clients turn
      by _ _ has is NotBegun = absurd (let none : ⊥ = cc in none)
      by _ _ has is (HasBegun owner acquired did) = record {
        acquired = acquired;
        has = let it : Some acquired ≡ turn.acquired = cc in sym it;
        owner = owner;
        did = did;
        right = λ own one here at. right_over number link there served later same turn calls owner is own one here at (sent_since (map (λ one. one.sent) served)) refl;
      }

  both_owned : (turns more : List Turn) → AreOwned t.machine.clients turns → AreOwned t.machine.clients more → AreOwned t.machine.clients (turns ++ more)
  both_owned _ more NoneOwned others = others
  both_owned _ more (OneOwned turn turns owned rest) others = OneOwned turn (turns ++ more) owned (both_owned turns more rest others)

  each_owned : (links : List SeenLink) → ((index : ℕ) (one : SeenLink) (turn : Turn) → slice_get links index ≡ Some one → one.turn ≡ Some turn → IsOwned t.machine.clients turn) → AreOwned t.machine.clients (flat_map turn_of links)
  each_owned [] each = NoneOwned
  each_owned (one ∷ links) each = by one.turn refl (each_owned links (λ index other turn there has. each (suc index) other turn there has))
    where
      by : (turn : Option Turn) → one.turn ≡ turn → AreOwned t.machine.clients (flat_map turn_of links) → AreOwned t.machine.clients (option_map_or (λ turn. turn ∷ []) turn [] ++ flat_map turn_of links)
      by None has rest = rest
      by (Some turn) has rest = OneOwned turn (flat_map turn_of links) (each 0 one turn refl has) rest

  over_owned : (over : List Turn) → WereTurns (TurnBegun t.machine.clients) t.machine.links over → AreOwned t.machine.clients over
  over_owned _ NoneOver = NoneOwned
  over_owned _ (OneOver turn more was begun rest) =
      OneOwned turn more (owned_turn was.number (link_at t.machine.links was.number) refl was.before was.later was.served turn was.calls begun) (over_owned more rest)

  all_owned : (notes : List Note) (items : List Served) → AreTold notes items t → TellsTurns t.machine.links (seen_told notes items).links → TellsOwners t notes items → AreOwned t.machine.clients (flat_map turn_of (seen_told notes items).links ++ (seen_told notes items).over)
  all_owned notes items are turns owners =
      both_owned (flat_map turn_of (seen_told notes items).links) (seen_told notes items).over (each_owned (seen_told notes items).links (λ index one turn there has. now one turn (found_in (seen_told notes items).links are.links.once index one there) has))
      (over_owned (seen_told notes items).over owners.over)
    where
      now : (one : SeenLink) (turn : Turn) → link_of one.connection (seen_told notes items).links ≡ Some one → one.turn ≡ Some turn → IsOwned t.machine.clients turn
      now one turn is has =
          owned_turn one.connection (link_at t.machine.links one.connection) refl (served_in (link_at t.machine.links one.connection)) [] (sym (append-nil (served_in (link_at t.machine.links one.connection)))) turn
          (sym (turns one.connection) ∙ (ap (λ (found : Option SeenLink). option_map_or calls_told found None) is ∙ ap (λ (found : Option Turn). option_map (λ (turn : Turn). turn.calls) found) has))
          (current_begun t.machine.clients t.machine.links (seen_told notes items).links owners.current one.connection one turn is has)

pub whole_runs_own : RunsKeepInvariant → AllStand → HoldsInRuns serve_unblocked → HoldsInRuns begin_once → FollowsInvariant send_near → RunsTellOwners → WholeRunsOwnTurns
whole_runs_own keeps stand unblocked once near owners document notes items seen t right run =
    let so = finishing_reached document run.place notes items seen t run.finishing in
    let inv : Invariant t = keeps document so.0 notes items seen t right so.1 in
    all_owned t inv (unblocked document so.0 notes items seen t right so.1) (once document so.0 notes items seen t right so.1) (near t inv) notes items (runs_told keeps stand document so.0 notes items seen t right so.1)
    (reached_turns keeps stand document so.0 notes items seen t right so.1) (owners document so.0 notes items seen t right so.1)
