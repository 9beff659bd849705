-- An outcome that a request takes and that says committed is that of an entry which is there.
use Rattle.std.proofs.Common.{◌≡◌, sym, ap, subst, ◌∙◌, Bool, true, false, ℕ, List, ◌∷◌, ◌++◌, Some}
use Rattle.std.specs.List.{list_all}
use Rattle.std.specs.Option.{option_map_or}
use Rattle.std.proofs.lemmas.Bool.{and_parts}
use Rattle.std.proofs.lemmas.List.Folds.{list_all-append}
use Rattle.svc_values.specs.declared.entry.Ltxid.{Ltxid}
use Rattle.svc_values.specs.declared.frame.Down.{Down}
use Rattle.svc_values.specs.meaning.Same.{same_bool}
use Rattle.client_model.specs.meaning.Terms.{Phase}
use Rattle.outage_schedule.specs.declared.item.Item.{Item}
use Rattle.outage_schedule.specs.declared.item.Item.TheVariants as item
use Rattle.outage_schedule.specs.declared.item.Served.{Served}
use Rattle.outage_schedule.specs.declared.note.AskResult.TheVariants as told
use Rattle.run_clauses.specs.meaning.Outcomes.{completed_of}
use Rattle.world_model.specs.meaning.Frames.{Owner, Handled}
use Rattle.invariant_laws.specs.Invariant.{Invariant}
use Rattle.world_model.specs.meaning.Links.{Link, link_at}
use Rattle.invariant_laws.specs.Shown.{stands}
use Rattle.world_model.specs.Traced.{Traced}
use Rattle.shown_laws.specs.ClientSteps.{TellsReply}
use Rattle.shown_laws.proofs.links.SessionsApart.{at_link}

all_among : (test : Handled → Bool) (before : List Handled) (one : Handled) (later : List Handled) → list_all test (before ++ one ∷ later) ≡ true → test one ≡ true
all_among test before one later all = (and_parts (test one) (list_all test later) (and_parts (list_all test before) (list_all test (one ∷ later)) (sym (list_all-append test before (one ∷ later)) ∙ all)).1).0

-- completed as the outcome says
pub reply_stands : (t : Traced) → Invariant t → (owner : Owner) (phase : Phase) (connection : ℕ) (link : Link) (frame : Down) (served : Served) → link_at t.machine.links connection ≡ Some link → TellsReply owner phase link frame served
    → (x : Ltxid) (completed : Bool) → served.item ≡ item.Outcome x (told.Committed completed) → option_map_or (same_bool completed) (completed_of t.entries x) false ≡ true
reply_stands t inv owner phase connection link frame served there reply x completed is =
    subst (λ (one : Item). stands t one ≡ true) (ap (λ (s : Served). s.item) reply.item ∙ is)
    (all_among (λ (one : Handled). stands t one.served.item) reply.before reply.one reply.later
    (subst (λ (all : List Handled). list_all (λ (one : Handled). stands t one.served.item) all ≡ true) reply.among
    (at_link (λ (one : Link). list_all (λ (handled : Handled). stands t handled.served.item) one.served) t.machine.links connection link inv.shown.answers there)))
