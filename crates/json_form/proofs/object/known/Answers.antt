use Rattle.std.proofs.Common.{◌≡◌, ◌∙◌, List, [], ℕ, sym, map}
use Rattle.std.specs.Str.{bytes_eq}
use Rattle.serde_json.proofs.Views.{Entry}
use Rattle.json_form.specs.declared.fault.DocCode.TheVariants.{Unknown}
use Rattle.json_form.specs.meaning.Objects.{is_among}
use Rattle.json_form.proofs.Known.{list_any-map, known_step, known_stop}
use Rattle.json_form.proofs.Failures.{Fails-under}
use Rattle.json_form.proofs.object.known.Goals as goal

pub loop-key-preserved : goal.loop-key-preserved
loop-key-preserved c =
    let e : Entry = (c.in-Some.key.now, c.in-Some._member.now) in
    let names : List (List ℕ) = map (λ n. n.now) c.args.names.now in
    let test : c.is_among.result ≡ is_among names c.as_str-name.result.now = c.is_among.ensures ∙ sym (list_any-map (λ n. bytes_eq n c.as_str-name.result.now) (λ n. n.now) c.args.names.now) in
    c.loop-key.invariant ∙ known_step names c.loop-key.key-iterator c.next.new.self e c.as_str-name.result.now c.is_among.result c.in-Some.ensures.steps c.as_str-name.ensures.value test c.if-not-is_among.false

pub returns-then-not-is_among : goal.returns-then-not-is_among
returns-then-not-is_among c =
    let e : Entry = (c.in-Some.key.now, c.in-Some._member.now) in
    let names : List (List ℕ) = map (λ n. n.now) c.args.names.now in
    let test : c.is_among.result ≡ is_among names c.as_str-name.result.now = c.is_among.ensures ∙ sym (list_any-map (λ n. bytes_eq n c.as_str-name.result.now) (λ n. n.now) c.args.names.now) in
    let stop = known_stop names c.loop-key.key-iterator c.next.new.self e c.as_str-name.result.now c.is_among.result c.in-Some.ensures.steps c.as_str-name.ensures.value test c.if-not-is_among.true in
    Fails-under _ Unknown [] c.at_member.result _ c.at_member.ensures (c.loop-key.invariant ∙ stop)
