use Rattle.std.proofs.Common.{◌≡◌, List, [], ◌∷◌, ◌++◌, sym, ap, subst}
use Rattle.svc_values.specs.declared.frame.Up.{Up}
use Rattle.client_model.specs.declared.act.Act.{Act}
use Rattle.transcript_core.specs.Drafts.{IsDraft, done_so}
use Rattle.world_core.specs.Coursing.{Held, done_of, IsCourse, IsBeside, IsSettled, Hears}
use Rattle.world_core.proofs.steps.Coursing.{turns_so}
use Rattle.world_core.proofs.client.Client.hear.Goals as goal

pub returns-clause-heard : goal.returns-clause-heard
returns-clause-heard g c = λ setting number event is_lost client doing same now is.
    let act : Act = c.in_ok-send.field-0 in
    let frames : c.into_vec-send.result.items ≡ act.send = cc in
    let noted : c.deref.result.now ≡ act.send = cc in
    let left = c.in-Some.ensures.left in
    subst (λ (sent : List Up). Hears _ (λ rule. g.R.BoundRule.rules rule) setting number event c.args.tick client doing c.args.input sent act.hold c.settle.new.self) (sym frames)
    (
    turns_so _ (λ rule. g.R.BoundRule.rules rule) setting number event c.args.tick c.args.self.now c.drive.new.self c.settle.new.self client doing c.args.input act c.in-Some.course c.note.new.self
    record {
      acts = c.in_ok-send.ensures.act;
      drives = c.in_ok-send.ensures.after;
      ticks = c.in_ok-send.ensures.past;
      there = sym c.in-Some.ensures.taken;
      notes = λ kept draft.
          subst (λ (s : List Up). IsDraft setting.terms doing.request (done_of doing ++ done_so c.args.input c.args.tick s act.shown act.failed kept ∷ []) c.note.new.self) noted
          (c.in_ok-note.ensures setting.terms doing.request (done_of doing) c.args.input c.args.tick kept c.of-heard.ensures draft);
      settles = λ lost next settled course beside.
          c.in_ok-settle.ensures setting number c.args.tick lost client next same (ap (λ (h : Held _). h.course) left)
          (subst (λ (h : Held _). IsSettled h.driver.talk lost act.hold) (sym left) settled)
          (subst (λ (h : Held _). IsCourse setting.terms h.driver.talk (record { draft = c.note.new.self; connection = c.in-Some.course.connection }) next) (sym left) course)
          (subst (λ (h : Held _). IsBeside _ (λ rule. g.R.BoundRule.rules rule) setting number c.args.tick lost h client) (sym left) beside);
    }
    is_lost now is
    )
