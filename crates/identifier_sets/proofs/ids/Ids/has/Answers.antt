use Rattle.std.proofs.Common.{ap, ◌∙◌, ℕ, List}
use Rattle.svc_values.specs.Keys.{is_key}
use Rattle.svc_values.specs.declared.entry.Ltxid.{Ltxid}
use Rattle.run_clauses.specs.meaning.Tried.{holds}
use Rattle.identifier_sets.specs.Keys.{same_key}
use Rattle.identifier_sets.proofs.Keyed.{key_holds, held_blocked}
use Rattle.identifier_sets.proofs.ids.Ids.has.Goals as goal

pub returns : goal.returns
returns c =
    let x = c.args.ltxid.now in
    let keys = c.self.inside.keys in
    let held =
    c.has.ensures
    ∙ ap (λ (key : ℕ × ℕ × ℕ). is_key same_key keys key) c.key_of.ensures
    ∙ key_holds keys x
    ∙ ap (λ (ids : List Ltxid). holds ids x) c.self.view_is in
    record {
      held = held;
      blocked = held ∙ held_blocked c.args.self.now x;
    }
