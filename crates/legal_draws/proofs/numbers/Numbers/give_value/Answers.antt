use Rattle.std.proofs.Common.{◌≡◌, ap, sym, ◌∙◌, get_or, set}
use Rattle.std.proofs.lemmas.Int.{to_z-of_z}
use Rattle.std.specs.Int.{w64}
use Rattle.std.specs.Prelude.{Some}
use Rattle.server_model.specs.meaning.NewValues.{Numbers, if_gave, with_counts}
use Rattle.legal_draws.proofs.Firsts.{after_none, given_at, placed}
use Rattle.legal_draws.proofs.numbers.Numbers.give_value.Goals as goal

pub returns-in_default : goal.returns-in_default
returns-in_default c = ap (with_counts c.args.self.now) (after_none c.args.self.now.counts c.args.name.now c.args.value (sym c.place.ensures.place ∙ c.in_default.is))

pub returns-in-Some-2 : goal.returns-in-Some-2
returns-in-Some-2 c =
    let numbers = c.args.self.now in
    let at = c.in-Some.at in
    let one = c.index.result.now in
    let count = c.in-Some-2.count in
    let counts : c.self.inside.counts.items ≡ numbers.counts = ap (λ (n : Numbers). n.counts) c.self.view_is in
    let after : Numbers → Numbers = λ n. record n { counts = set n.counts at count } in
    given_at numbers c.args.name.now c.args.value at one c.in_ok-count.field-0 (sym c.place.ensures.place ∙ c.in-Some.is) (c.index.ensures ∙ ap (λ l. get_or l at one) counts) (c.in_ok-count.ensures ∙ ap (if_gave one) (to_z-of_z w64 c.args.value c.ranges.value))
    ∙ ap (λ found. with_counts numbers (placed numbers.counts at found)) c.in-Some-2.is
    ∙ sym (ap (λ n. Some (after n)) c.self.view_is)

pub returns-in-None : goal.returns-in-None
returns-in-None c =
    let numbers = c.args.self.now in
    let at = c.in-Some.at in
    let one = c.index.result.now in
    let counts : c.self.inside.counts.items ≡ numbers.counts = ap (λ (n : Numbers). n.counts) c.self.view_is in
    given_at numbers c.args.name.now c.args.value at one c.in_ok-count.field-0 (sym c.place.ensures.place ∙ c.in-Some.is) (c.index.ensures ∙ ap (λ l. get_or l at one) counts) (c.in_ok-count.ensures ∙ ap (if_gave one) (to_z-of_z w64 c.args.value c.ranges.value))
    ∙ ap (λ found. with_counts numbers (placed numbers.counts at found)) c.in-None.is
