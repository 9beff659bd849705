use Rattle.std.proofs.Common.{arith, ◌≡◌, ◌<◌, ◌++◌, ◌∷◌, [], length, take, ap, ◌∙◌}
use Rattle.std.specs.Prelude.{slice_get, None, Some}
use Rattle.table_txn.proofs.OwnLaws.{own_kept, own_pushed, own_refused, room_last, at_end}
use Rattle.table_txn.proofs.own.OwnWrites.put.Goals as goal

pub invariant_of-self-in_err-push-2 : goal.invariant_of-self-in_err-push-2
invariant_of-self-in_err-push-2 c =
    let inside = c.self.inside in
    let before : c.push.new.self.items ≡ take c.len-at.result inside.before.items ++ None ∷ [] = c.in_ok-push.ensures.items ∙ ap (λ l. l ++ None ∷ []) c.truncate.ensures.items in
    rw (before, c.in_err-push-2.ensures.err) (own_kept inside.writes inside.before.items inside.latest c.self.invariant c.len-at.result c.len-at.ensures (None ∷ []))

pub index_mut-requires : goal.index_mut-requires
index_mut-requires c =
    let inside = c.self.inside in
    let before : c.push.new.self.items ≡ take c.len-at.result inside.before.items ++ None ∷ [] = c.in_ok-push.ensures.items ∙ ap (λ l. l ++ None ∷ []) c.truncate.ensures.items in
    let room : c.len-at.result < length c.push.new.self.items = rw before (room_last inside.writes inside.before.items inside.latest c.self.invariant c.len-at.result c.len-at.ensures None) in
    omega (arith, room, c.push.new.self.ok.0)

pub invariant_of-self-in-Ok : goal.invariant_of-self-in-Ok
invariant_of-self-in-Ok c =
    let inside = c.self.inside in
    let before : c.push.new.self.items ≡ take c.len-at.result inside.before.items ++ None ∷ [] = c.in_ok-push.ensures.items ∙ ap (λ l. l ++ None ∷ []) c.truncate.ensures.items in
    let put : c.push-2.new.writes ≡ inside.writes ++ c.args.write ∷ [] = c.in_ok-push-2.ensures.ok in
    let last : slice_get c.push-2.new.writes c.len-at.result ≡ Some c.args.write = rw (put, c.len-at.ensures) (at_end inside.writes c.args.write) in
    rw (before, put) (own_pushed inside.writes inside.before.items inside.latest c.self.invariant c.len-at.result c.len-at.ensures c.args.write c.index.new.latest None c.in-Ok.before (c.in-Ok.ensures.before c.args.write last) (c.in-Ok.ensures.ok c.args.write last))

pub invariant_of-self-in-Err : goal.invariant_of-self-in-Err
invariant_of-self-in-Err c =
    let inside = c.self.inside in
    let before : c.push.new.self.items ≡ take c.len-at.result inside.before.items ++ None ∷ [] = c.in_ok-push.ensures.items ∙ ap (λ l. l ++ None ∷ []) c.truncate.ensures.items in
    let put : c.push-2.new.writes ≡ inside.writes ++ c.args.write ∷ [] = c.in_ok-push-2.ensures.ok in
    rw before (own_refused inside.writes inside.before.items inside.latest c.self.invariant c.len-at.result c.len-at.ensures c.args.write c.index.new.latest None c.in-Err.ensures.err c.shorten.new.writes (c.shorten.ensures ∙ ap (take c.len-at.result) put))
