use Rattle.std.specs.Prelude.{option_to_list}
use Rattle.world_run.proofs.Onward.{base_noted, if_cut, if_onward, led_room, led_ticks, led_tracked}
use Rattle.world_run.proofs.world.World.step.Goals as goal

pub note-requires-clause-tracked : goal.note-requires-clause-tracked
note-requires-clause-tracked g c = led_tracked _ _ g.S.Service.sees (λ rule. g.R.BoundRule.rules rule) c.args.scripts.now c.requires.there.retention c.requires.there.first c.args.event.now c.in_ok-note.note (option_to_list c.in_ok-note.served) _ _ c.requires.there.seen c.requires.there.traced c.requires.there.stands (c.in_ok-note.ensures.led c.requires.there.seen c.requires.there.traced c.requires.there.stands.beside) c.requires.events

pub note-requires-clause-ticks : goal.note-requires-clause-ticks
note-requires-clause-ticks g c = led_ticks _ _ g.S.Service.sees (λ rule. g.R.BoundRule.rules rule) c.args.scripts.now c.requires.there.retention c.requires.there.first c.args.event.now c.in_ok-note.note (option_to_list c.in_ok-note.served) _ _ c.requires.there.seen c.requires.there.traced c.requires.there.stands (c.in_ok-note.ensures.led c.requires.there.seen c.requires.there.traced c.requires.there.stands.beside) c.requires.events

pub note-requires-clause-room : goal.note-requires-clause-room
note-requires-clause-room g c = led_room _ _ g.S.Service.sees (λ rule. g.R.BoundRule.rules rule) c.args.scripts.now c.requires.there.retention c.requires.there.first c.args.event.now c.in_ok-note.note (option_to_list c.in_ok-note.served) _ _ c.requires.there.seen c.requires.there.traced c.requires.there.stands (c.in_ok-note.ensures.led c.requires.there.seen c.requires.there.traced c.requires.there.stands.beside) c.requires.events

pub returns-clause-made : goal.returns-clause-made
returns-clause-made g c = if_onward _ _ g.S.Service.sees (λ rule. g.R.BoundRule.rules rule) c.args.scripts.now c.args.event.now c.in_ok-note.note (option_to_list c.in_ok-note.served) _ _ _ c.note.result c.in_ok-note.ensures.led c.requires.events c.note.ensures

pub returns-clause-bytes : goal.returns-clause-bytes
returns-clause-bytes g c = if_cut _ _ g.S.Service.sees (λ rule. g.R.BoundRule.rules rule) c.args.scripts.now c.args.event.now c.in_ok-note.note (option_to_list c.in_ok-note.served) c.args.self.now _ _ c.note.result c.in_ok-note.ensures.bytes c.note.ensures

pub returns-clause-base : goal.returns-clause-base
returns-clause-base g c = base_noted g.S.Service.bytes c.in_ok-note.note (option_to_list c.in_ok-note.served) c.args.self.now c.make.new.self c.note.new.self c.note.result c.in_ok-note.ensures.base c.note.ensures
