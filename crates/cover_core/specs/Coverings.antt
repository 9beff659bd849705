-- What a coverage counts over a report.
use Rattle.std.specs.Prelude.{List, [], ◌∷◌}
use Rattle.svc_values.specs.declared.call.Call.{Call}
use Rattle.outage_schedule.specs.declared.request.ShownCall.{ShownCall}
use Rattle.request_bounds.specs.meaning.Rules.{Rules}
use Rattle.auto_bounds.specs.Covered.{Covered, submitted, showed}

-- each call of a request is submitted, and then shown as it was, one after the other
abbrev pub covered : {R : Type 0} → Rules → Covered R → List Call → List ShownCall → Covered R
covered rules before calls [] = before
covered rules before [] shown = before
covered rules before (call ∷ calls) (one ∷ shown) =
    covered rules (showed rules (submitted rules before call) one.answers) calls shown
