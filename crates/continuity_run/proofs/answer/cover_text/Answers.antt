use Rattle.std.proofs.Common.{◌∙◌, ap}
use Rattle.std.specs.List.{list_all}
use Rattle.cover_core.specs.Made.{has_made_requests}
use Rattle.continuity_run.proofs.Documents.{made_scripts}
use Rattle.continuity_run.proofs.answer.cover_text.Goals as goal

pub counts_of_run-requires : goal.counts_of_run-requires
counts_of_run-requires c = ap (list_all has_made_requests) (c.as_slice.ensures ∙ c.in_ok-clients.ensures.scripts) ∙ made_scripts c.args.document c.requires.document
