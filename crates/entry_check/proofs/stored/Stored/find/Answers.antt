use Rattle.std.proofs.Common.{◌∙◌, ap, sym}
use Rattle.std.specs.Prelude.{None, Some}
use Rattle.std.proofs.lemmas.Option.{slice_get_past, slice_get-get_or}
use Rattle.svc_values.specs.declared.entry.Entry.{Entry}
use Rattle.entry_check.specs.Ids.{as_list}
use Rattle.entry_check.proofs.Placing.{found_as}
use Rattle.entry_check.proofs.stored.Stored.find.Goals as goal

pub returns-in_default : goal.returns-in_default
returns-in_default c =
    let inside = c.self.inside in
    found_as inside.places inside.entries.now c.args.self.now c.self.invariant c.self.view_is c.args.ltxid.now c.key_of.result c.key_of.ensures None c.in_default.ensures

pub returns-in_default-get : goal.returns-in_default-get
returns-in_default-get c =
    let inside = c.self.inside in
    sym (ap as_list (slice_get_past inside.entries.now c.in-Some.place.now c.in_default-get.ensures.lookup.3))
    ∙ found_as inside.places inside.entries.now c.args.self.now c.self.invariant c.self.view_is c.args.ltxid.now c.key_of.result c.key_of.ensures (Some c.in-Some.place.now) c.in-Some.ensures

pub returns : goal.returns
returns c =
    let inside = c.self.inside in
    let entry = c.in-Some-get.entry.now in
    let there = c.in-Some-get.ensures.lookup.3 in
    sym (ap as_list (slice_get-get_or inside.entries.now c.in-Some.place.now entry there.0 ∙ ap (λ (one : Entry). Some one) (sym (there.1 entry))))
    ∙ found_as inside.places inside.entries.now c.args.self.now c.self.invariant c.self.view_is c.args.ltxid.now c.key_of.result c.key_of.ensures (Some c.in-Some.place.now) c.in-Some.ensures
