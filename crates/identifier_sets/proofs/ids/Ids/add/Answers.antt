use Rattle.std.proofs.Common.{◌≡◌, ◌||◌, ap, sym, ◌∙◌, ℕ, List, map}
use Rattle.svc_values.specs.declared.entry.Ltxid.{Ltxid}
use Rattle.svc_values.specs.meaning.Identifiers.{same_ltxid}
use Rattle.ltxid_book.specs.meaning.Journal.{is_blocked}
use Rattle.run_clauses.specs.meaning.Tried.{holds}
use Rattle.identifier_sets.specs.Keys.{key_of, ltxid_at, same_key}
use Rattle.identifier_sets.proofs.Keyed.{key_holds, held_blocked, same_symm}
use Rattle.identifier_sets.proofs.ids.Ids.add.Goals as goal

pub returns : goal.returns
returns c =
    let y = c.args.ltxid.now in
    let old = c.self.inside.keys in
    let added = c.add.new.self in
    let before = c.args.self.now in
    let held : (x : Ltxid) → holds (map ltxid_at added) x ≡ (holds before x || same_ltxid x y) = λ x.
    sym (key_holds added x)
    ∙ c.in_ok-add.ensures.ok (key_of x)
    ∙ ap (λ b. b || same_key (key_of x) c.key_of.result) (key_holds old x)
    ∙ ap (λ (key : ℕ × ℕ × ℕ). holds (map ltxid_at old) x || same_key (key_of x) key) c.key_of.ensures
    ∙ ap (λ (ids : List Ltxid). holds ids x || same_ltxid x y) c.self.view_is in
    record {
      held = held;
      blocked = λ x.
          sym (held_blocked (map ltxid_at added) x)
          ∙ held x
          ∙ ap (λ b. b || same_ltxid x y) (held_blocked before x)
          ∙ ap (λ b. is_blocked before x || b) (same_symm x y);
    }
