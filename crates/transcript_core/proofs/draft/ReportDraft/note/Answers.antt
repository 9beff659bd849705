use Rattle.std.proofs.Common.{◌∷◌, [], ◌++◌, fold, subst, sym, ap, ◌∙◌}
use Rattle.std.proofs.lemmas.Result.{on_ok_weaker}
use Rattle.transcript_core.specs.Drafts.{Draft, IsDraft, noted, sends, done_so}
use Rattle.transcript_core.specs.declared.heard.Heard.{Heard}
use Rattle.transcript_core.proofs.Drafting.{noted_so}
use Rattle.transcript_core.proofs.draft.ReportDraft.note.Goals as goal

pub returns : goal.returns
returns c = λ terms request steps input now hold same is.
    let done = done_so input now c.args.send.now c.args.shown c.args.failed hold in
    let all = c.in_ok-hear.ensures ∙ ap (λ (heard : Heard). noted c.args.self.now heard c.args.shown c.args.failed) same in
    on_ok_weaker c.send.result
    (λ sent. subst (λ (d : Draft). IsDraft terms request (steps ++ done ∷ []) d) (sym (sent ∙ ap (λ (d : Draft). fold sends d c.args.send.now) all)) (noted_so terms request steps c.args.self.now done is))
    c.send.ensures
