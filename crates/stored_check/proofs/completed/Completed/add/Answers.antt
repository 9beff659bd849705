use Rattle.std.proofs.Common.{◌≡◌, ◌∙◌, true, false, cond, sym, ap, ℕ, List, Bool}
use Rattle.std.specs.Prelude.{is_some, Some}
use Rattle.svc_values.specs.Keys.{value_of}
use Rattle.identifier_sets.specs.Keys.{same_key}
use Rattle.stored_check.specs.Keys.{mark_of, first_of}
use Rattle.stored_check.proofs.Marks.{kept_first, put_first}
use Rattle.stored_check.proofs.completed.Completed.add.Goals as goal

pub returns-then-has : goal.returns-then-has
returns-then-has c =
    let entry = c.args.entry.now in
    let old = c.args.self.now in
    let there : is_some (mark_of old entry.ltxid) ≡ true =
    sym (ap (λ (key : ℕ × ℕ × ℕ). is_some (value_of same_key old key)) c.key_of-key.ensures) ∙ (sym (c.has.ensures ∙ ap (λ (m : List ((ℕ × ℕ × ℕ) × Bool)). is_some (value_of same_key m c.key_of-key.result)) c.self.view_is) ∙ c.if-has.true) in
    λ x. kept_first old entry there x

pub returns : goal.returns
returns c =
    let marks = c.self.inside.marks in
    let entry = c.args.entry.now in
    let none : is_some (mark_of marks entry.ltxid) ≡ false =
    sym (ap (λ (key : ℕ × ℕ × ℕ). is_some (value_of same_key marks key)) c.key_of-key.ensures) ∙ (sym c.has.ensures ∙ c.if-has.false) in
    λ x. put_first marks c.put.new.self entry none (λ k. c.in_ok-put.ensures.ok k ∙ ap (λ (key : ℕ × ℕ × ℕ). cond (same_key k key) (Some entry.completed) (value_of same_key marks k)) c.key_of-key.ensures) x
    ∙ ap (λ (m : List ((ℕ × ℕ × ℕ) × Bool)). first_of (mark_of m x) entry x) c.self.view_is
