use Rattle.entry_forms.proofs.ObjectsAhead.{request_joined}
use Rattle.entry_forms.proofs.request.RequestReaderReaderRequestReport.ahead.Goals as goal

pub returns-clause-begins : goal.returns-clause-begins
returns-clause-begins c =
    request_joined c.args.depth c.in_ok-inside.inside c.args.tokens.now c.object_begins.new.tokens c.member_next.new.tokens c.member_next-2.new.tokens c.member_next-3.new.tokens c.member_next-4.new.tokens c.member_next-5.new.tokens c.object_ends.new.tokens
    c.in_ok-calls.calls c.in_ok-failed.failed c.in_ok-outcomes.outcomes c.in_ok-sessions.sessions c.in_ok-tried.tried c.in_ok-inside.ensures.object.1
    c.in_ok-calls.ensures.next c.in_ok-failed.ensures.next c.in_ok-outcomes.ensures.next c.in_ok-sessions.ensures.next c.in_ok-tried.ensures.next c.in_ok-object_ends.ensures.ends
