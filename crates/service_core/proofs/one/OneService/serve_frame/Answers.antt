use Rattle.std.proofs.Common.{◌≡◌, ◌∙◌, ◌+◌, ◌<◌, ◌^◌, refl, sym, ap, subst, Bool, true, false}
use Rattle.std.specs.Prelude.{◌≢◌, is_some, Option, Some, Err}
use Rattle.svc_values.specs.meaning.Calls.{sequences_in}
use Rattle.server_model.specs.meaning.Outcomes.{Stopped, telling_of}
use Rattle.server_model.specs.ServiceCalls.{ServedOne}
use Rattle.server_model.specs.declared.fault.ServeFault.{ServeFault}
use Rattle.server_session.specs.Serving.{Serves, served_as, told_of}
use Rattle.server_session.specs.declared.shared.Core.{Core}
use Rattle.service_calls.specs.Kept.{Goes, HaveOneBase}
use Rattle.service_core.specs.Seeing.{LeavesIn, SeesIn, bytes_in}
use Rattle.service_core.specs.Shipping.{Broke, GrewBy, count_in}
use Rattle.service_core.specs.Sound.{IsSound, IsUp}
use Rattle.service_core.specs.Unanswered.{HaltedFrame, IsHaltedAs, StandsBetween}
use Rattle.service_core.specs.Within.{Within}
use Rattle.service_core.proofs.Growths.{frame_broke, frame_grew}
use Rattle.service_core.proofs.Serves.{serves, serves_made, serves_on_base, serves_soundly, stops, stops_on_base, stops_soundly, with_served, with_stopped}
use Rattle.service_core.proofs.Taken.{lives_on, taken_held}
use Rattle.service_core.proofs.halts.Unanswering.{served_halts, stopped_halts}
use Rattle.service_core.proofs.Rested.{rests_behind}
use Rattle.service_core.proofs.one.OneService.serve_frame.Goals as goal
use Rattle.service_core.proofs.Indexing.{still_fit}

pub serve-requires-clause-lives : goal.serve-requires-clause-lives
serve-requires-clause-lives g c =
    let live = ap (λ (w : Within). w.notes.is_spent) c.self.view_is ∙ c.requires.live in
    let sound : IsUp c.self.inside.grants (g.D.Disk.state c.self.inside.disk) c.in-Some.core c.self.inside.held c.self.inside.notes = subst (λ (o : Option Core). IsSound c.self.inside.grants (g.D.Disk.state c.self.inside.disk) o c.self.inside.held c.self.inside.notes) (sym c.in-Some.ensures.value) (c.self.invariant.kept live) in
    let own = taken_held c.self.inside.grants (g.D.Disk.state c.self.inside.disk) c.in-Some.core c.self.inside.held c.self.inside.notes c.args.connection c.take_session-session.result c.take_session-session.new.made sound c.take_session-session.ensures.session_is in
    own.lives

pub serve-requires-clause-belongs : goal.serve-requires-clause-belongs
serve-requires-clause-belongs g c =
    let live = ap (λ (w : Within). w.notes.is_spent) c.self.view_is ∙ c.requires.live in
    let sound : IsUp c.self.inside.grants (g.D.Disk.state c.self.inside.disk) c.in-Some.core c.self.inside.held c.self.inside.notes = subst (λ (o : Option Core). IsSound c.self.inside.grants (g.D.Disk.state c.self.inside.disk) o c.self.inside.held c.self.inside.notes) (sym c.in-Some.ensures.value) (c.self.invariant.kept live) in
    let own = taken_held c.self.inside.grants (g.D.Disk.state c.self.inside.disk) c.in-Some.core c.self.inside.held c.self.inside.notes c.args.connection c.take_session-session.result c.take_session-session.new.made sound c.take_session-session.ensures.session_is in
    own.belongs

pub put_back-requires : goal.put_back-requires
put_back-requires g c = lives_on c.args.connection c.self.inside.held c.take_session-session.new.held c.take_session-session.ensures.left

pub invariant_of-self : goal.invariant_of-self
invariant_of-self g c = record {
  kept = λ live.
      let old : Within = record { grants = c.self.inside.grants; disk = g.D.Disk.state c.self.inside.disk; core = c.self.inside.core; held = c.self.inside.held; notes = c.self.inside.notes } in
      let end = g.D.Disk.state c.serve.new.disk in
      let frame = c.args.frame.now in
      let session = c.take_session-session.result in
      let taken = c.take_session-session.ensures in
      let is_up : old.core ≡ Some c.in-Some.core = sym c.in-Some.ensures.value in
      serves_soundly old c.in-Some.core is_up (c.self.invariant.kept live) c.take_session-session.new.held c.take_session-session.new.made c.args.connection c.args.now frame session c.left-self-inside.result c.left-self-inside.ensures taken end c.serve.new.core c.put_back.new.held c.in-Ok.told c.serve.new.self c.put_back.ensures c.in-Ok.ensures.served;
  at_rest = λ live down. absurd (let clash : ◌≡◌ {A = Bool} true false = down in cc);
}

pub returns-in-Ok-clause-served : goal.returns-in-Ok-clause-served
returns-in-Ok-clause-served g c =
    let old : Within = record { grants = c.self.inside.grants; disk = g.D.Disk.state c.self.inside.disk; core = c.self.inside.core; held = c.self.inside.held; notes = c.self.inside.notes } in
    let end = g.D.Disk.state c.serve.new.disk in
    let frame = c.args.frame.now in
    let session = c.take_session-session.result in
    let taken = c.take_session-session.ensures in
    let is_up : old.core ≡ Some c.in-Some.core = sym c.in-Some.ensures.value in
    let live = ap (λ (w : Within). w.notes.is_spent) c.self.view_is ∙ c.requires.live in
    let new = with_served old c.in-Some.core is_up (c.self.invariant.kept live) c.take_session-session.new.held c.take_session-session.new.made c.args.connection c.args.now frame session c.left-self-inside.result c.left-self-inside.ensures taken end c.serve.new.core c.put_back.new.held c.in-Ok.told c.serve.new.self c.put_back.ensures c.in-Ok.ensures.served in
    subst (λ (w : Within). Goes (SeesIn w) (SeesIn new) (λ before behind. ServedOne before c.args.connection c.args.now frame (telling_of c.in-Ok.told) (LeavesIn new) behind)) {x = old} c.self.view_is
    (serves old c.in-Some.core is_up (c.self.invariant.kept live) c.take_session-session.new.held c.take_session-session.new.made c.args.connection c.args.now frame session c.left-self-inside.result c.left-self-inside.ensures taken end c.serve.new.core c.put_back.new.held c.in-Ok.told c.serve.new.self c.put_back.ensures c.in-Ok.ensures.served live (λ quiet. (c.in-Ok.ensures.silent quiet).0))

pub returns-in-Ok-clause-made : goal.returns-in-Ok-clause-made
returns-in-Ok-clause-made g c =
    let old : Within = record { grants = c.self.inside.grants; disk = g.D.Disk.state c.self.inside.disk; core = c.self.inside.core; held = c.self.inside.held; notes = c.self.inside.notes } in
    let end = g.D.Disk.state c.serve.new.disk in
    let frame = c.args.frame.now in
    let session = c.take_session-session.result in
    let taken = c.take_session-session.ensures in
    let is_up : old.core ≡ Some c.in-Some.core = sym c.in-Some.ensures.value in
    let live = ap (λ (w : Within). w.notes.is_spent) c.self.view_is ∙ c.requires.live in
    let few = subst (λ n. n < 2 ^ 48) (sym (ap (λ (w : Within). w.notes.calls) c.self.view_is)) c.requires.few in
    serves_made old c.in-Some.core is_up (c.self.invariant.kept live) c.take_session-session.new.held c.take_session-session.new.made c.args.connection c.args.now frame session c.left-self-inside.result c.left-self-inside.ensures taken end c.serve.new.core c.put_back.new.held c.in-Ok.told c.serve.new.self c.put_back.ensures c.in-Ok.ensures.served few

pub returns-in-Ok-clause-base : goal.returns-in-Ok-clause-base
returns-in-Ok-clause-base g c =
    let old : Within = record { grants = c.self.inside.grants; disk = g.D.Disk.state c.self.inside.disk; core = c.self.inside.core; held = c.self.inside.held; notes = c.self.inside.notes } in
    let end = g.D.Disk.state c.serve.new.disk in
    let frame = c.args.frame.now in
    let session = c.take_session-session.result in
    let taken = c.take_session-session.ensures in
    let is_up : old.core ≡ Some c.in-Some.core = sym c.in-Some.ensures.value in
    let live = ap (λ (w : Within). w.notes.is_spent) c.self.view_is ∙ c.requires.live in
    subst (λ (w : Within). HaveOneBase (bytes_in w) end.now.seen) {x = old} c.self.view_is (serves_on_base old c.in-Some.core is_up (c.self.invariant.kept live) c.take_session-session.new.held c.take_session-session.new.made c.args.connection c.args.now frame session c.left-self-inside.result c.left-self-inside.ensures taken end c.serve.new.core c.put_back.new.held c.in-Ok.told c.serve.new.self c.put_back.ensures c.in-Ok.ensures.served)

pub invariant_of-self-in-Stopped-1 : goal.invariant_of-self-in-Stopped-1
invariant_of-self-in-Stopped-1 g c = record {
  kept = λ live.
      let old : Within = record { grants = c.self.inside.grants; disk = g.D.Disk.state c.self.inside.disk; core = c.self.inside.core; held = c.self.inside.held; notes = c.self.inside.notes } in
      let end = g.D.Disk.state c.serve.new.disk in
      let frame = c.args.frame.now in
      let session = c.take_session-session.result in
      let taken = c.take_session-session.ensures in
      let stopped = (subst (λ (f : ServeFault). Serves (served_as frame c.args.now) (1 + sequences_in frame) (Err f) session c.in-Some.core old.disk c.serve.new.self c.serve.new.core end) c.in-Err-Stopped.field-0-is c.in-Err-Stopped.ensures.served).0 in
      let is_up : old.core ≡ Some c.in-Some.core = sym c.in-Some.ensures.value in
      stops_soundly old c.in-Some.core is_up (c.self.invariant.kept live) c.take_session-session.new.held c.take_session-session.new.made c.args.connection c.args.now frame session c.left-self-inside.result c.left-self-inside.ensures taken end stopped (g.met.D.Disk.reads_now c.serve.new.disk) c.take.new.self c.take.ensures.after c.clear.new.self c.clear.ensures;
  at_rest = λ live down.
      let old : Within = record { grants = c.self.inside.grants; disk = g.D.Disk.state c.self.inside.disk; core = c.self.inside.core; held = c.self.inside.held; notes = c.self.inside.notes } in
      let end = g.D.Disk.state c.serve.new.disk in
      let frame = c.args.frame.now in
      let session = c.take_session-session.result in
      let stopped = (subst (λ (f : ServeFault). Serves (served_as frame c.args.now) (1 + sequences_in frame) (Err f) session c.in-Some.core old.disk c.serve.new.self c.serve.new.core end) c.in-Err-Stopped.field-0-is c.in-Err-Stopped.ensures.served).1 in
      rests_behind old c.in-Some.core c.serve.new.core end c.of.result (sym c.in-Some.ensures.value) (c.self.invariant.kept live) stopped c.of.ensures;
}

pub returns-in-Err-Stopped-clause-served : goal.returns-in-Err-Stopped-clause-served
returns-in-Err-Stopped-clause-served g c =
    let old : Within = record { grants = c.self.inside.grants; disk = g.D.Disk.state c.self.inside.disk; core = c.self.inside.core; held = c.self.inside.held; notes = c.self.inside.notes } in
    let end = g.D.Disk.state c.serve.new.disk in
    let frame = c.args.frame.now in
    let session = c.take_session-session.result in
    let taken = c.take_session-session.ensures in
    let stopped = (subst (λ (f : ServeFault). Serves (served_as frame c.args.now) (1 + sequences_in frame) (Err f) session c.in-Some.core old.disk c.serve.new.self c.serve.new.core end) c.in-Err-Stopped.field-0-is c.in-Err-Stopped.ensures.served).0 in
    let is_up : old.core ≡ Some c.in-Some.core = sym c.in-Some.ensures.value in
    let live = ap (λ (w : Within). w.notes.is_spent) c.self.view_is ∙ c.requires.live in
    let few = subst (λ n. n < 2 ^ 48) (sym (ap (λ (w : Within). w.notes.calls) c.self.view_is)) c.requires.few in
    let new = with_stopped old c.in-Some.core is_up (c.self.invariant.kept live) c.take_session-session.new.held c.take_session-session.new.made c.args.connection c.args.now frame session c.left-self-inside.result c.left-self-inside.ensures taken end stopped (g.met.D.Disk.reads_now c.serve.new.disk) c.take.new.self c.take.ensures.after c.clear.new.self c.clear.ensures c.take.new.self c.clear.new.self in
    subst (λ (w : Within). Goes (SeesIn w) (SeesIn new) (λ before behind. ServedOne before c.args.connection c.args.now frame Stopped (LeavesIn new) behind)) {x = old} c.self.view_is
    (stops old c.in-Some.core is_up (c.self.invariant.kept live) c.take_session-session.new.held c.take_session-session.new.made c.args.connection c.args.now frame session c.left-self-inside.result c.left-self-inside.ensures taken end stopped (g.met.D.Disk.reads_now c.serve.new.disk) c.take.new.self c.take.ensures.after c.clear.new.self c.clear.ensures live few (λ quiet. (c.in-Err-Stopped.ensures.silent quiet).1 (ap Err c.in-Err-Stopped.field-0-is)))

pub returns-in-Err-Stopped-clause-base : goal.returns-in-Err-Stopped-clause-base
returns-in-Err-Stopped-clause-base g c =
    let old : Within = record { grants = c.self.inside.grants; disk = g.D.Disk.state c.self.inside.disk; core = c.self.inside.core; held = c.self.inside.held; notes = c.self.inside.notes } in
    let end = g.D.Disk.state c.serve.new.disk in
    let frame = c.args.frame.now in
    let session = c.take_session-session.result in
    let taken = c.take_session-session.ensures in
    let stopped = (subst (λ (f : ServeFault). Serves (served_as frame c.args.now) (1 + sequences_in frame) (Err f) session c.in-Some.core old.disk c.serve.new.self c.serve.new.core end) c.in-Err-Stopped.field-0-is c.in-Err-Stopped.ensures.served).0 in
    let is_up : old.core ≡ Some c.in-Some.core = sym c.in-Some.ensures.value in
    let live = ap (λ (w : Within). w.notes.is_spent) c.self.view_is ∙ c.requires.live in
    subst (λ (w : Within). HaveOneBase (bytes_in w) end.now.seen) {x = old} c.self.view_is (stops_on_base old c.in-Some.core is_up (c.self.invariant.kept live) c.take_session-session.new.held c.take_session-session.new.made c.args.connection c.args.now frame session c.left-self-inside.result c.left-self-inside.ensures taken end stopped (g.met.D.Disk.reads_now c.serve.new.disk) c.take.new.self c.take.ensures.after c.clear.new.self c.clear.ensures)

pub returns-in-Ok-clause-halted : goal.returns-in-Ok-clause-halted
returns-in-Ok-clause-halted g c =
    let old : Within = record { grants = c.self.inside.grants; disk = g.D.Disk.state c.self.inside.disk; core = c.self.inside.core; held = c.self.inside.held; notes = c.self.inside.notes } in
    let end = g.D.Disk.state c.serve.new.disk in
    let frame = c.args.frame.now in
    let session = c.take_session-session.result in
    let taken = c.take_session-session.ensures in
    let is_up : old.core ≡ Some c.in-Some.core = sym c.in-Some.ensures.value in
    let live = ap (λ (w : Within). w.notes.is_spent) c.self.view_is ∙ c.requires.live in
    let new = with_served old c.in-Some.core is_up (c.self.invariant.kept live) c.take_session-session.new.held c.take_session-session.new.made c.args.connection c.args.now frame session c.left-self-inside.result c.left-self-inside.ensures taken end c.serve.new.core c.put_back.new.held c.in-Ok.told c.serve.new.self c.put_back.ensures c.in-Ok.ensures.served in
    subst (λ (w : Within). count_in new ≢ count_in w → Goes (SeesIn w) (IsHaltedAs w new) (λ before behind. HaltedFrame before c.args.connection c.args.now frame (StandsBetween w new) behind)) {x = old} c.self.view_is
    (served_halts old c.in-Some.core is_up (c.self.invariant.kept live) c.take_session-session.new.held c.take_session-session.new.made c.args.connection c.args.now frame session taken new live refl refl (told_of c.in-Ok.told) c.serve.new.self c.serve.new.core c.in-Ok.ensures.served)

pub returns-in-Err-Stopped-clause-halted : goal.returns-in-Err-Stopped-clause-halted
returns-in-Err-Stopped-clause-halted g c may =
    let old : Within = record { grants = c.self.inside.grants; disk = g.D.Disk.state c.self.inside.disk; core = c.self.inside.core; held = c.self.inside.held; notes = c.self.inside.notes } in
    let end = g.D.Disk.state c.serve.new.disk in
    let frame = c.args.frame.now in
    let session = c.take_session-session.result in
    let taken = c.take_session-session.ensures in
    let stopped = (subst (λ (f : ServeFault). Serves (served_as frame c.args.now) (1 + sequences_in frame) (Err f) session c.in-Some.core old.disk c.serve.new.self c.serve.new.core end) c.in-Err-Stopped.field-0-is c.in-Err-Stopped.ensures.served).0 in
    let is_up : old.core ≡ Some c.in-Some.core = sym c.in-Some.ensures.value in
    let live = ap (λ (w : Within). w.notes.is_spent) c.self.view_is ∙ c.requires.live in
    let new = with_stopped old c.in-Some.core is_up (c.self.invariant.kept live) c.take_session-session.new.held c.take_session-session.new.made c.args.connection c.args.now frame session c.left-self-inside.result c.left-self-inside.ensures taken end stopped (g.met.D.Disk.reads_now c.serve.new.disk) c.take.new.self c.take.ensures.after c.clear.new.self c.clear.ensures c.take.new.self c.clear.new.self in
    subst (λ (w : Within). Goes (SeesIn w) (IsHaltedAs w new) (λ before behind. HaltedFrame before c.args.connection c.args.now frame (StandsBetween w new) behind)) {x = old} c.self.view_is
    (stopped_halts old c.in-Some.core is_up (c.self.invariant.kept live) c.take_session-session.new.held c.take_session-session.new.made c.args.connection c.args.now frame session taken new live refl refl stopped)

pub returns-in-Ok-clause-grew : goal.returns-in-Ok-clause-grew
returns-in-Ok-clause-grew g c =
    let old : Within = record { grants = c.self.inside.grants; disk = g.D.Disk.state c.self.inside.disk; core = c.self.inside.core; held = c.self.inside.held; notes = c.self.inside.notes } in
    let end = g.D.Disk.state c.serve.new.disk in
    let frame = c.args.frame.now in
    let session = c.take_session-session.result in
    let taken = c.take_session-session.ensures in
    let is_up : old.core ≡ Some c.in-Some.core = sym c.in-Some.ensures.value in
    let live = ap (λ (w : Within). w.notes.is_spent) c.self.view_is ∙ c.requires.live in
    let new = with_served old c.in-Some.core is_up (c.self.invariant.kept live) c.take_session-session.new.held c.take_session-session.new.made c.args.connection c.args.now frame session c.left-self-inside.result c.left-self-inside.ensures taken end c.serve.new.core c.put_back.new.held c.in-Ok.told c.serve.new.self c.put_back.ensures c.in-Ok.ensures.served in
    subst (λ (w : Within). GrewBy w new) {x = old} c.self.view_is
    (frame_grew old new c.in-Some.core is_up (c.self.invariant.kept live) (record { calls = refl; reads = refl; live = live; grants = refl }) c.args.now (1 + sequences_in frame) frame (told_of c.in-Ok.told) session c.serve.new.self c.serve.new.core c.in-Ok.ensures.served refl refl)

pub returns-in-Err-Stopped-clause-broke : goal.returns-in-Err-Stopped-clause-broke
returns-in-Err-Stopped-clause-broke g c none =
    let old : Within = record { grants = c.self.inside.grants; disk = g.D.Disk.state c.self.inside.disk; core = c.self.inside.core; held = c.self.inside.held; notes = c.self.inside.notes } in
    let end = g.D.Disk.state c.serve.new.disk in
    let frame = c.args.frame.now in
    let session = c.take_session-session.result in
    let taken = c.take_session-session.ensures in
    let stopped = (subst (λ (f : ServeFault). Serves (served_as frame c.args.now) (1 + sequences_in frame) (Err f) session c.in-Some.core old.disk c.serve.new.self c.serve.new.core end) c.in-Err-Stopped.field-0-is c.in-Err-Stopped.ensures.served).0 in
    let is_up : old.core ≡ Some c.in-Some.core = sym c.in-Some.ensures.value in
    let live = ap (λ (w : Within). w.notes.is_spent) c.self.view_is ∙ c.requires.live in
    let new = with_stopped old c.in-Some.core is_up (c.self.invariant.kept live) c.take_session-session.new.held c.take_session-session.new.made c.args.connection c.args.now frame session c.left-self-inside.result c.left-self-inside.ensures taken end stopped (g.met.D.Disk.reads_now c.serve.new.disk) c.take.new.self c.take.ensures.after c.clear.new.self c.clear.ensures c.take.new.self c.clear.new.self in
    subst (λ (w : Within). Broke w new) {x = old} c.self.view_is
    (frame_broke old new c.in-Some.core is_up (c.self.invariant.kept live) (record { calls = refl; reads = refl; live = live; grants = refl }) c.args.now (1 + sequences_in frame) frame session stopped (ap is_some c.take.ensures.after) refl)

pub invariant_of-self-inside : goal.invariant_of-self-inside
invariant_of-self-inside g c =
    let old : Within = record { grants = c.self.inside.grants; disk = g.D.Disk.state c.self.inside.disk; core = c.self.inside.core; held = c.self.inside.held; notes = c.self.inside.notes } in
    let end = g.D.Disk.state c.serve.new.disk in
    let frame = c.args.frame.now in
    let session = c.take_session-session.result in
    let taken = c.take_session-session.ensures in
    let is_up : old.core ≡ Some c.in-Some.core = sym c.in-Some.ensures.value in
    let unspent = ap (λ (w : Within). w.notes.is_spent) c.self.view_is ∙ c.requires.live in
    (λ spent. absurd (let clash : ◌≡◌ {A = Bool} true false = sym spent ∙ unspent in cc), (λ live. still_fit old c.self.inside.indexes.items end.now.seen (c.self.invariant.kept live) (serves_on_base old c.in-Some.core is_up (c.self.invariant.kept live) c.take_session-session.new.held c.take_session-session.new.made c.args.connection c.args.now frame session c.left-self-inside.result c.left-self-inside.ensures taken end c.serve.new.core c.put_back.new.held c.in-Ok.told c.serve.new.self c.put_back.ensures c.in-Ok.ensures.served) (c.self.inside.fitting live), tt))

pub invariant_of-self-inside-in-Err-Stopped : goal.invariant_of-self-inside-in-Err-Stopped
invariant_of-self-inside-in-Err-Stopped g c =
    let old : Within = record { grants = c.self.inside.grants; disk = g.D.Disk.state c.self.inside.disk; core = c.self.inside.core; held = c.self.inside.held; notes = c.self.inside.notes } in
    let end = g.D.Disk.state c.serve.new.disk in
    let frame = c.args.frame.now in
    let session = c.take_session-session.result in
    let taken = c.take_session-session.ensures in
    let stopped = (subst (λ (f : ServeFault). Serves (served_as frame c.args.now) (1 + sequences_in frame) (Err f) session c.in-Some.core old.disk c.serve.new.self c.serve.new.core end) c.in-Err-Stopped.field-0-is c.in-Err-Stopped.ensures.served).0 in
    let is_up : old.core ≡ Some c.in-Some.core = sym c.in-Some.ensures.value in
    (λ spent. ap is_some c.take.ensures.after, (λ live. still_fit old c.self.inside.indexes.items end.now.seen (c.self.invariant.kept live) (stops_on_base old c.in-Some.core is_up (c.self.invariant.kept live) c.take_session-session.new.held c.take_session-session.new.made c.args.connection c.args.now frame session c.left-self-inside.result c.left-self-inside.ensures taken end stopped (g.met.D.Disk.reads_now c.serve.new.disk) c.take.new.self c.take.ensures.after c.clear.new.self c.clear.ensures) (c.self.inside.fitting live), tt))
