-- Behind an event what was answered of an identifier stands.
use Rattle.std.proofs.Common.{◌≡◌, refl, ap, ◌∙◌, Bool, true, false, List, ◌++◌, Option, Some, None}
use Rattle.std.specs.Prelude.{find, option_map}
use Rattle.std.specs.List.{list_any}
use Rattle.std.specs.Option.{option_or, option_map_or}
use Rattle.std.proofs.lemmas.Bool.{or_left}
use Rattle.std.proofs.lemmas.List.Folds.{find-append, list_any-append}
use Rattle.svc_values.specs.declared.entry.Entry.{Entry}
use Rattle.svc_values.specs.declared.entry.Ltxid.{Ltxid}
use Rattle.svc_values.specs.meaning.Identifiers.{same_ltxid}
use Rattle.svc_values.specs.meaning.Same.{same_bool}
use Rattle.outage_schedule.specs.declared.item.Item.{Item}
use Rattle.outage_schedule.specs.declared.item.Item.TheVariants as item
use Rattle.outage_schedule.specs.declared.note.AskResult.TheVariants as told
use Rattle.run_clauses.specs.meaning.Outcomes.{completed_of}
use Rattle.run_clauses.specs.meaning.Tried.{holds}
use Rattle.invariant_laws.specs.Shown.{stands}
use Rattle.world_model.specs.Traced.{Traced}

holds_more : (blocked more : List Ltxid) (x : Ltxid) → holds blocked x ≡ true → holds (blocked ++ more) x ≡ true
holds_more blocked more x is = list_any-append (same_ltxid x) blocked more ∙ or_left (list_any (same_ltxid x) blocked) (list_any (same_ltxid x) more) is

completed_more : (entries more : List Entry) (x : Ltxid) (completed : Bool) → option_map_or (same_bool completed) (completed_of entries x) false ≡ true → option_map_or (same_bool completed) (completed_of (entries ++ more) x) false ≡ true
completed_more entries more x completed is =
    ap (λ (found : Option Entry). option_map_or (same_bool completed) (option_map (λ e. e.completed) found) false) (find-append (λ e. same_ltxid e.ltxid x) entries more)
    ∙ by (find (λ e. same_ltxid e.ltxid x) entries) is
  where
    by : (found : Option Entry) → option_map_or (same_bool completed) (option_map (λ e. e.completed) found) false ≡ true → option_map_or (same_bool completed) (option_map (λ e. e.completed) (option_or found (find (λ e. same_ltxid e.ltxid x) more))) false ≡ true
    by None is = absurd (let none : ⊥ = cc in none)
    by (Some entry) is = is

pub stands_still : (old new : Traced) (more : List Entry) (blocks : List Ltxid) → new.entries ≡ old.entries ++ more → new.blocked ≡ old.blocked ++ blocks → (one : Item) → stands old one ≡ true → stands new one ≡ true
stands_still old new more blocks entries blocked (item.Outcome x told.Uncommitted) is = ap (λ (all : List Ltxid). holds all x) blocked ∙ holds_more old.blocked blocks x is
stands_still old new more blocks entries blocked (item.Outcome x (told.Committed completed)) is =
    ap (λ (all : List Entry). option_map_or (same_bool completed) (completed_of all x) false) entries ∙ completed_more old.entries more x completed is
stands_still old new more blocks entries blocked (item.Outcome x (told.ServerAhead next)) is = is
stands_still old new more blocks entries blocked (item.Outcome x (told.ClientAhead next)) is = is
stands_still old new more blocks entries blocked (item.Outcome x (told.Forgotten horizon)) is = refl
stands_still old new more blocks entries blocked one is = refl
