use Rattle.world_core.proofs.Forgetting.{on_ok, tick_note, crash_note, may_tick}
use Rattle.world_core.proofs.openings.Openings.follow.Goals as goal

pub pass-requires : goal.pass-requires
pass-requires c = let some = c.requires.tracked in may_tick _ some.0 some.1.0 c.requires.ticks some.1.1

pub returns-in-Tick : goal.returns-in-Tick
returns-in-Tick c = on_ok c.pass.result (tick_note _ _ c.args.note.now c.in-Tick.is) c.pass.ensures

pub returns-in-Crash : goal.returns-in-Crash
returns-in-Crash c = crash_note _ _ c.args.note.now c.in-Crash.connection c.in-Crash.down c.in-Crash.is c.end_unless.ensures
