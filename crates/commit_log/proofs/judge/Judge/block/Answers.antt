use Rattle.std.proofs.Common.{◌≡◌, List, sym, ap, subst, ◌∙◌}
use Rattle.svc_values.specs.declared.entry.Ltxid.{Ltxid}
use Rattle.commit_log.specs.declared.journal.Journal.{Journal}
use Rattle.commit_log.specs.declared.records.Record.TheVariants as kept
use Rattle.commit_log.specs.meaning.Rules.{with_record}
use Rattle.commit_log.specs.Judging.{IsBookFor}
use Rattle.commit_log.proofs.Committing.{block_beside, notes_block}
use Rattle.commit_log.proofs.judge.Judge.block.Goals as goal

pub block-requires : goal.block-requires
block-requires c =
    block_beside c.args.self.now.book c.args.self.now.journal c.args.x c.requires.book_for ∙ sym c.can_block.ensures ∙ c.if-not-can_block.false

pub returns-clause-kept : goal.returns-clause-kept
returns-clause-kept c =
    let judge = c.args.self.now in
    let lets = block_beside judge.book judge.journal c.args.x c.requires.book_for ∙ sym c.can_block.ensures ∙ c.if-not-can_block.false in
    let noted = notes_block judge.book c.block.new.self judge.journal c.args.x c.requires.book_for lets c.in_ok-block.ensures.ok in
    let pushed : Journal = record judge.journal { blocked = c.push.new.self } in
    let more : with_record judge.journal (kept.Blocked c.args.x) ≡ pushed = ap (λ (l : List Ltxid). let journal : Journal = record judge.journal { blocked = l } in journal) (sym c.in_ok-push.ensures.ok) in
    record { book_for = subst (IsBookFor c.block.new.self) more noted; shape = c.requires.shape; ends = c.requires.ends; unset = c.requires.unset }
