-- What a session had served at any time is a front of what was sent, each item that of its frame.
use Rattle.std.proofs.Common.{◌≡◌, refl, ap, subst, ◌∙◌, true, ℕ, List, [], ◌∷◌, ◌++◌, map}
use Rattle.std.specs.Prelude.{◌==◌, length}
use Rattle.std.proofs.lemmas.Bool.{and_parts, and_from}
use Rattle.std.proofs.lemmas.List.{map-append}
use Rattle.world_model.specs.meaning.Frames.{Sent, Handled}
use Rattle.world_model.specs.Parts.{implies}
use Rattle.world_model.specs.Sames.{is_front, same_sent}
use Rattle.world_model.specs.records.Wire.{counted_with, handled_from, is_handled, is_right, is_sent_front, nothing_cut, stage_of, up_of}
use Rattle.shown_laws.specs.OwnTurns.{TurnsAreOnWire}
use Rattle.shown_laws.proofs.links.SessionsApart.{at_link}

handled_before : (before later : List Handled) (commits : ℕ) → handled_from commits (before ++ later) ≡ true → handled_from commits before ≡ true
handled_before [] later commits all = refl
handled_before (one ∷ before) later commits all =
    let now : ℕ = counted_with commits one.served.item in
    let parts = and_parts (is_handled now one) (handled_from now (before ++ later)) all in
    and_from (is_handled now one) (handled_from now before) parts.0 (handled_before before later now parts.1)

front_before : (before later sents : List Sent) → is_front same_sent (before ++ later) sents ≡ true → is_front same_sent before sents ≡ true
front_before [] later sents all = refl
front_before (first ∷ before) later [] all = absurd (let none : ⊥ = cc in none)
front_before (first ∷ before) later (sent ∷ sents) all =
    let parts = and_parts (same_sent first sent) (is_front same_sent (before ++ later) sents) all in
    and_from (same_sent first sent) (is_front same_sent before sents) parts.0 (front_before before later sents parts.1)

pub on_wire : TurnsAreOnWire
on_wire t number link before later wire there is = record {
  handled =
      handled_before before later 0
      (subst (λ (served : List Handled). handled_from 0 served ≡ true) is (at_link (λ l. handled_from 0 l.served) t.machine.links number link wire.handled there));
  front =
      front_before (map (λ one. one.sent) before) (map (λ one. one.sent) later) link.sent
      (subst (λ (sents : List Sent). is_front same_sent sents link.sent ≡ true) (ap (map (λ (one : Handled). one.sent)) is ∙ map-append (λ (one : Handled). one.sent) before later)
      (front_before (map (λ one. one.sent) link.served) link.up link.sent
      (and_parts (is_front same_sent (up_of link) link.sent) (implies (nothing_cut link) (length (up_of link) == length link.sent)) (at_link is_sent_front t.machine.links number link wire.sent there)).0));
  grammar = at_link (λ l. is_right (stage_of l)) t.machine.links number link wire.grammar there;
}
