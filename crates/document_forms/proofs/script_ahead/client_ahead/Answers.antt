use Rattle.std.proofs.Common.{◌≡◌, arith, rules}
use Rattle.document_forms.proofs.RequestsAhead.{client_joined}
use Rattle.document_forms.proofs.script_ahead.client_ahead.Goals as goal

pub returns-clause-begins : goal.returns-clause-begins
returns-clause-begins c =
    let same : c.from_vec.result ≡ c.in_ok-requests.requests.items = search rules in
    rw same (client_joined c.args.depth c.in_ok-inside.inside c.args.tokens.now c.object_begins.new.tokens c.member_begins.new.tokens c.list_ahead.new.tokens c.object_ends.new.tokens c.in_ok-requests.requests.items c.in_ok-inside.ensures.object.1 c.in_ok-member_begins.ensures.next (search rules) c.in_ok-requests.ensures.shorter c.in_ok-object_ends.ensures.ends)

pub returns-clause-shorter : goal.returns-clause-shorter
returns-clause-shorter c =
    omega (arith, c.in_ok-inside.ensures.shorter, c.in_ok-member_begins.ensures.shorter, c.in_ok-requests.ensures.shorter, c.in_ok-object_ends.ensures.shorter)
