use Rattle.std.proofs.lemmas.List.{take_min}
use Rattle.world_core.proofs.Linking.{cut_is_link, cut_reaches}
use Rattle.world_core.proofs.connection.Connection.cut.Goals as goal

pub returns-clause-link : goal.returns-clause-link
returns-clause-link c = λ link is. (
  rw (c.min-up.ensures, c.min-down.ensures, c.waiting.ensures, c.waiting-2.ensures) (cut_reaches c.args.self.now c.args.up c.args.down c.requires link is),
  rw (c.end.ensures.ended, c.requires, c.keep_first.ensures, c.keep_first-2.ensures, c.min-up.ensures, c.min-down.ensures, c.waiting.ensures, c.waiting-2.ensures)
      (cut_is_link c.cut_leaves_whole_frames.ensures c.cut_leaves_whole_frames-2.ensures c.args.self.now c.args.event c.args.up c.args.down c.requires link is),
)

pub returns-clause-bytes : goal.returns-clause-bytes
returns-clause-bytes c = rw (c.end.ensures.ended, c.keep_first.ensures, c.keep_first-2.ensures, c.min-up.ensures, c.min-down.ensures, c.waiting.ensures, c.waiting-2.ensures)
    (record { up_bytes = take_min c.args.up c.args.self.now.up.bytes; down_bytes = take_min c.args.down c.args.self.now.down.bytes })
