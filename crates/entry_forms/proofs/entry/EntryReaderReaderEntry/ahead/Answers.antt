use Rattle.std.proofs.Common.{◌≡◌, [], rules}
use Rattle.entry_forms.proofs.ObjectsAhead.{entry_joined}
use Rattle.entry_forms.proofs.entry.EntryReaderReaderEntry.ahead.Goals as goal

pub returns-clause-begins : goal.returns-clause-begins
returns-clause-begins c =
    let none : c.new.result ≡ [] = search rules in
    rw none (entry_joined c.args.depth c.in_ok-inside.inside c.args.tokens.now c.object_begins.new.tokens c.member_next.new.tokens c.member_next-2.new.tokens c.member_next-3.new.tokens c.member_next-4.new.tokens c.object_ends.new.tokens c.in_ok-completed.completed c.in_ok-ltxid.ltxid c.in_ok-pieces.pieces c.in_ok-settings.settings c.in_ok-inside.ensures.object.1
    c.in_ok-completed.ensures.next c.in_ok-ltxid.ensures.next c.in_ok-pieces.ensures.next c.in_ok-settings.ensures.next c.in_ok-object_ends.ensures.ends)
