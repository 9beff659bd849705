use Rattle.load_document.proofs.Kept.{loaded_kept}
use Rattle.load_document.proofs.document.load_document.Goals as goal

pub returns-in_err-accounts-clause-kept : goal.returns-in_err-accounts-clause-kept
returns-in_err-accounts-clause-kept c = loaded_kept c.args.seed c.args.clients c.args.requests c.requires.some c.requires.few c.requires.few_requests

pub returns-in_err-tables-clause-kept : goal.returns-in_err-tables-clause-kept
returns-in_err-tables-clause-kept c = loaded_kept c.args.seed c.args.clients c.args.requests c.requires.some c.requires.few c.requires.few_requests

pub returns-in_err-scripts-clause-kept : goal.returns-in_err-scripts-clause-kept
returns-in_err-scripts-clause-kept c = loaded_kept c.args.seed c.args.clients c.args.requests c.requires.some c.requires.few c.requires.few_requests

pub returns-in_err-schedule-clause-kept : goal.returns-in_err-schedule-clause-kept
returns-in_err-schedule-clause-kept c = loaded_kept c.args.seed c.args.clients c.args.requests c.requires.some c.requires.few c.requires.few_requests

pub returns-clause-kept : goal.returns-clause-kept
returns-clause-kept c = loaded_kept c.args.seed c.args.clients c.args.requests c.requires.some c.requires.few c.requires.few_requests
