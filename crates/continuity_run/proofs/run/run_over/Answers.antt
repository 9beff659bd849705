use Rattle.std.proofs.Common.{Result, Ok, Err}
use Rattle.std.specs.Prelude.{IfOk}
use Rattle.continuity_run.proofs.Lasting.{may_be_read}
use Rattle.continuity_run.proofs.run.run_over.Goals as goal

pub report_of-requires : goal.report_of-requires
report_of-requires g c =
    let begun = c.requires.begins.1 in
    may_be_read c.finish_goes_on.ensures.start c.finish_falls.ensures c.finish_goes_on.ensures.event c.finish_is_short.ensures c.runs_are_orderly.ensures c.requires.begins.0 begun.kept g.S.Service.sees c.in_ok-ran.ran
    (c.in_ok-ran.ensures.ran c.requires.begins.0 begun)

told : {A E : Type 0} (P Q : A → Type 0) (r : Result A E) → ((one : A) → P one → Q one) → IfOk r P → IfOk r Q
told P Q (Ok one) more is = more one is
told P Q (Err e) more is = tt

pub returns : goal.returns
returns g c =
    told _ _ c.report_of.result (λ report off document begun. record { ran = c.in_ok-ran.ran; has = c.in_ok-ran.ensures.ran document begun; off = off; base = c.in_ok-ran.ensures.base }) c.report_of.ensures
