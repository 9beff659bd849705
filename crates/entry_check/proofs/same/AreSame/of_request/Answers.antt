use Rattle.std.proofs.Common.{◌∙◌, ◌&&◌, ◌+◌, ◌-◌, List, length, take, drop, refl, sym, ap, arith, length-drop}
use Rattle.std.specs.Prelude.{is_none}
use Rattle.std.proofs.lemmas.List.{take_rest}
use Rattle.svc_values.specs.meaning.SettingsList.{with_sets}
use Rattle.outage_schedule.specs.declared.request.ShownCall.{ShownCall}
use Rattle.entry_check.specs.InnerGranting.{keeps}
use Rattle.entry_check.proofs.OnceLaw.{none_of, some_of}
use Rattle.entry_check.proofs.SameTxns.{last_from, next_from, none_from, same_from}
use Rattle.entry_check.proofs.same.AreSame.of_request.Goals as goal

pub returns-in_default : goal.returns-in_default
returns-in_default c =
    let judge = c.args.self.now in
    let all = c.as_slice-all.result.now in
    let from = c.loop-ids.from in
    let shown = take (length all - from) (drop from all) in
    c.of_transaction.ensures
    ∙ last_from (keeps judge.granting.kinds judge.granting.sequences.now) judge.stored c.loop-ids.settings from c.as_slice-script.result.now c.unshown-more.result all
    c.loop-ids.ids-index c.as_slice-ids-items.result.now c.ids-item.result c.as_slice-ids.result.now c.loop-ids-test.true c.ids-item.is c.as_slice-ids.ensures
    c.calls_behind-left.result.now c.calls_behind-left.ensures shown (take_rest all from) (sym c.first_end.ensures.place ∙ c.in_default.is)
    c.first_calls-calls.result.now c.first_calls-calls.ensures
    ∙ c.loop-ids.invariant.rest

pub returns-then-is_some : goal.returns-then-is_some
returns-then-is_some c =
    let judge = c.args.self.now in
    let kept = keeps judge.granting.kinds judge.granting.sequences.now in
    let all = c.as_slice-all.result.now in
    let script = c.as_slice-script.result.now in
    let items = c.as_slice-ids-items.result.now in
    let from = c.loop-ids.from in
    let shown = take (length all - from) (drop from all) in
    let count = c.in-Some.end + 1 in
    let calls = c.first_calls-calls-in-loop-ids.result.now in
    let now = with_sets c.loop-ids.settings calls in
    let some = some_of c.of_transaction-difference.result (sym c.is_some.ensures ∙ c.if-is_some.true) in
    some
    ∙ sym (next_from kept judge.stored c.loop-ids.settings from script c.unshown-more.result all
    c.loop-ids.ids-index items c.ids-item.result c.as_slice-ids.result.now c.loop-ids-test.true c.ids-item.is c.as_slice-ids.ensures
    c.calls_behind-left.result.now c.calls_behind-left.ensures shown (take_rest all from) c.in-Some.end (sym c.first_end.ensures.place ∙ c.in-Some.is)
    calls c.first_calls-calls-in-loop-ids.ensures (take count shown) refl now refl
    ∙ ap (λ b. b && same_from kept judge.stored now (from + count) script c.unshown-more.result all (c.loop-ids.ids-index + 1) items) (sym c.of_transaction-difference.ensures ∙ some))
    ∙ c.loop-ids.invariant.rest

pub loop-ids-preserved : goal.loop-ids-preserved
loop-ids-preserved c =
    let judge = c.args.self.now in
    let kept = keeps judge.granting.kinds judge.granting.sequences.now in
    let all = c.as_slice-all.result.now in
    let script = c.as_slice-script.result.now in
    let items = c.as_slice-ids-items.result.now in
    let from = c.loop-ids.from in
    let shown = take (length all - from) (drop from all) in
    let count = c.in-Some.end + 1 in
    let calls = c.first_calls-calls-in-loop-ids.result.now in
    let now = c.put_sets.new.settings in
    let none = ap is_none (none_of c.of_transaction-difference.result (sym c.is_some.ensures ∙ c.if-is_some.false)) in
    let rest = ap (λ (list : List ShownCall). length list) (take_rest all from) in
    let long = length-drop from all in
    let within = c.in-Some.ensures.within in
    let before = c.loop-ids.invariant.within in
    record {
      rest = sym (next_from kept judge.stored c.loop-ids.settings from script c.unshown-more.result all
          c.loop-ids.ids-index items c.ids-item.result c.as_slice-ids.result.now c.loop-ids-test.true c.ids-item.is c.as_slice-ids.ensures
          c.calls_behind-left.result.now c.calls_behind-left.ensures shown (take_rest all from) c.in-Some.end (sym c.first_end.ensures.place ∙ c.in-Some.is)
          calls c.first_calls-calls-in-loop-ids.ensures (take count shown) refl now c.in_ok-put_sets.ensures
          ∙ ap (λ b. b && same_from kept judge.stored now (from + count) script c.unshown-more.result all (c.loop-ids.ids-index + 1) items) (sym c.of_transaction-difference.ensures ∙ none))
          ∙ c.loop-ids.invariant.rest;
      within = omega (arith, rest, long, within, before);
    }

pub returns : goal.returns
returns c =
    let judge = c.args.self.now in
    sym (none_from (keeps judge.granting.kinds judge.granting.sequences.now) judge.stored c.loop-ids.settings c.loop-ids.from c.as_slice-script.result.now c.unshown-more.result c.as_slice-all.result.now
    c.loop-ids.ids-index c.as_slice-ids-items.result.now c.loop-ids-test.false)
    ∙ c.loop-ids.invariant.rest
