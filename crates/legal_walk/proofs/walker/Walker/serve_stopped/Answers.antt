use Rattle.std.proofs.Common.{refl}
use Rattle.std.proofs.lemmas.Result.{IfOk-weaker}
use Rattle.legal_walk.specs.Moving.{stopped_at}
use Rattle.legal_walk.proofs.Stepping.{moved, stops_none, stops_with}
use Rattle.legal_walk.proofs.walker.Walker.serve_stopped.Goals as goal

pub returns-in_ok-stop_call-in-None : goal.returns-in_ok-stop_call-in-None
returns-in_ok-stop_call-in-None c = λ base walk walks.
    let called = c.args.call.now in
    stops_none base walk c.args.now c.args.session.now c.args.replay called _ (c.in-None.ensures base walk walks.beside)
    (moved base walk c.args.self.now (λ w. stopped_at w called) c.stop_call.new.self c.in_ok-stop_call-in-None.ensures refl walks)

pub returns-in-Some : goal.returns-in-Some
returns-in-Some c =
    IfOk-weaker c.serve.result _ _
    (λ holds served base walk walks.
    stops_with base walk c.args.now c.args.session.now c.args.replay c.args.call.now c.in-Some.piece.now c.as_slice.result.now c.as_slice-in-Some.result.now holds c.serve.new.self
    (c.in-Some.ensures base walk walks.beside) c.as_slice.ensures c.as_slice-in-Some.ensures (served base walk walks))
    c.serve.ensures
