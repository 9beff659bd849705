use Rattle.std.proofs.Common.{ℕ}
use Rattle.call_forms.specs.declared.item.Item.TheVariants as item
use Rattle.call_forms.specs.meaning.Items.{alone_of}
use Rattle.call_forms.specs.ItemsAhead.{Ends}
use Rattle.call_forms.proofs.ListsAhead.{of_each}
use Rattle.call_forms.proofs.item_ahead.parts_ahead.Goals as goal

pub returns-in-Insert-clause-ends : goal.returns-in-Insert-clause-ends
returns-in-Insert-clause-ends c = rw c.in-Insert.is c.insert_ahead.ensures.ends

pub returns-in-Update-clause-ends : goal.returns-in-Update-clause-ends
returns-in-Update-clause-ends c = rw c.in-Update.is c.update_ahead.ensures.ends

pub returns-in-Delete-clause-ends : goal.returns-in-Delete-clause-ends
returns-in-Delete-clause-ends c = rw c.in-Delete.is c.delete_ahead.ensures.ends

pub returns-in-Get-clause-ends : goal.returns-in-Get-clause-ends
returns-in-Get-clause-ends c = rw c.in-Get.is c.get_ahead.ensures.ends

pub returns-in-Select-clause-ends : goal.returns-in-Select-clause-ends
returns-in-Select-clause-ends c = rw c.in-Select.is c.select_ahead.ensures.ends

pub returns-in-Count-clause-ends : goal.returns-in-Count-clause-ends
returns-in-Count-clause-ends c = rw c.in-Count.is c.count_ahead.ensures.ends

pub returns-in-Sum-clause-ends : goal.returns-in-Sum-clause-ends
returns-in-Sum-clause-ends c = rw c.in-Sum.is c.sum_ahead.ensures.ends

pub returns-in-Show-clause-ends : goal.returns-in-Show-clause-ends
returns-in-Show-clause-ends c = rw c.in-Show.is c.show_ahead.ensures.ends

pub returns-in-Set-clause-ends : goal.returns-in-Set-clause-ends
returns-in-Set-clause-ends c = rw c.in-Set.is c.set_ahead.ensures.ends

pub returns-in-Alter-clause-ends : goal.returns-in-Alter-clause-ends
returns-in-Alter-clause-ends c = rw c.in-Alter.is c.alter_ahead.ensures.ends

pub returns-in-Disable-clause-ends : goal.returns-in-Disable-clause-ends
returns-in-Disable-clause-ends c = rw c.in-Disable.is (of_each (λ one. (depth : ℕ) → Ends (alone_of item.Disable) depth c.args.tokens.now one c.alone_ahead.new.tokens) (λ one. Ends (alone_of item.Disable) c.args.depth c.args.tokens.now one c.alone_ahead.new.tokens) c.alone_ahead.result (λ one ends. ends c.args.depth) c.alone_ahead.ensures.ends)

pub returns-in-Rollback-clause-ends : goal.returns-in-Rollback-clause-ends
returns-in-Rollback-clause-ends c = rw c.in-Rollback.is (of_each (λ one. (depth : ℕ) → Ends (alone_of item.Rollback) depth c.args.tokens.now one c.alone_ahead-in-Rollback.new.tokens) (λ one. Ends (alone_of item.Rollback) c.args.depth c.args.tokens.now one c.alone_ahead-in-Rollback.new.tokens) c.alone_ahead-in-Rollback.result (λ one ends. ends c.args.depth) c.alone_ahead-in-Rollback.ensures.ends)

pub returns-in-Commit-clause-ends : goal.returns-in-Commit-clause-ends
returns-in-Commit-clause-ends c = rw c.in-Commit.is (of_each (λ one. (depth : ℕ) → Ends (alone_of item.Commit) depth c.args.tokens.now one c.alone_ahead-in-Commit.new.tokens) (λ one. Ends (alone_of item.Commit) c.args.depth c.args.tokens.now one c.alone_ahead-in-Commit.new.tokens) c.alone_ahead-in-Commit.result (λ one ends. ends c.args.depth) c.alone_ahead-in-Commit.ensures.ends)
