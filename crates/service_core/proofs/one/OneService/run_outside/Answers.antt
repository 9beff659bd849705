use Rattle.std.proofs.Common.{◌≡◌, ◌∙◌, ◌<◌, ◌^◌, refl, sym, ap, subst, map, Bool, true, false}
use Rattle.std.specs.Prelude.{is_some, Some, Result, Err}
use Rattle.outage_schedule.specs.declared.note.OutsideNote.{OutsideNote}
use Rattle.server_model.specs.declared.fault.ServeFault.{ServeFault}
use Rattle.server_model.specs.declared.fault.ServeFault.TheVariants as fault
use Rattle.server_model.specs.ServiceCalls.{RanOutside, StoppedOutside}
use Rattle.server_session.specs.SeenSession.{SeenSession as Session, begins}
use Rattle.service_calls.specs.Answers.{run_of}
use Rattle.service_calls.specs.Kept.{Goes, HaveOneBase}
use Rattle.service_core.specs.Seeing.{LeavesIn, SeesIn, bytes_in}
use Rattle.service_core.specs.Through.{HasHaltedFrom, HasRunFrom, RunsFrom}
use Rattle.service_core.specs.Shipping.{Broke, GrewBy}
use Rattle.service_core.specs.Unanswered.{HaltedCalls, IsHaltedAs, StandsBetween}
use Rattle.service_core.specs.Within.{Within}
use Rattle.service_core.proofs.Growths.{calls_broke, calls_grew}
use Rattle.service_core.proofs.halts.OutsideHalts.{outside_halts, ran_halts}
use Rattle.service_core.proofs.CallsOutside.{halts, halts_on_base, halts_soundly, runs_on_base, runs_so, runs_soundly, with_halted, with_ran}
use Rattle.service_core.proofs.Went.{made_session}
use Rattle.service_core.proofs.Rested.{rests_behind}
use Rattle.service_core.proofs.one.OneService.run_outside.Goals as goal
use Rattle.service_core.proofs.Indexing.{still_fit}

pub invariant_of-self : goal.invariant_of-self
invariant_of-self g c = record {
  kept = λ live.
      let old : Within = record { grants = c.self.inside.grants; disk = g.D.Disk.state c.self.inside.disk; core = c.self.inside.core; held = c.self.inside.held; notes = c.self.inside.notes } in
      let end = g.D.Disk.state c.begin_and_run.new.disk in
      let is_up : old.core ≡ Some c.in-Some.core = sym c.in-Some.ensures.value in
      let session_is : c.new-session.result ≡ made_session c.in-Some.core old.notes = c.new-session.ensures.seen ∙ ap begins c.next_ltxid-ltxid.ensures.next in
      runs_soundly old c.in-Some.core is_up (c.self.invariant.kept live) c.args.now c.new-session.result session_is c.next_ltxid-ltxid.new.made c.next_ltxid-ltxid.ensures.counted end c.args.calls.now c.in-Ok.runs c.begin_and_run.new.core c.begin_and_run.new.session c.in-Ok.ensures;
  at_rest = λ live down. absurd (let clash : ◌≡◌ {A = Bool} true false = down in cc);
}

pub returns-in-Ok-clause-ran : goal.returns-in-Ok-clause-ran
returns-in-Ok-clause-ran g c =
    let old : Within = record { grants = c.self.inside.grants; disk = g.D.Disk.state c.self.inside.disk; core = c.self.inside.core; held = c.self.inside.held; notes = c.self.inside.notes } in
    let end = g.D.Disk.state c.begin_and_run.new.disk in
    let is_up : old.core ≡ Some c.in-Some.core = sym c.in-Some.ensures.value in
    let session_is : c.new-session.result ≡ made_session c.in-Some.core old.notes = c.new-session.ensures.seen ∙ ap begins c.next_ltxid-ltxid.ensures.next in
    let live = ap (λ (w : Within). w.notes.is_spent) c.self.view_is ∙ c.requires.live in
    let new = with_ran old c.in-Some.core is_up (c.self.invariant.kept live) c.args.now c.new-session.result session_is c.next_ltxid-ltxid.new.made c.next_ltxid-ltxid.ensures.counted end c.args.calls.now c.in-Ok.runs c.begin_and_run.new.core c.begin_and_run.new.session c.in-Ok.ensures c.next_ltxid-ltxid.new.made in
    subst (λ (w : Within). Goes (SeesIn w) (SeesIn new) (λ before behind. RanOutside before c.args.calls.now c.args.now c.next_ltxid-ltxid.result (map run_of c.in-Ok.runs) behind)) {x = old} c.self.view_is
    (runs_so old c.in-Some.core is_up (c.self.invariant.kept live) c.args.now c.new-session.result session_is c.next_ltxid-ltxid.new.made c.next_ltxid-ltxid.ensures.counted end c.args.calls.now c.in-Ok.runs c.begin_and_run.new.core c.begin_and_run.new.session c.in-Ok.ensures c.next_ltxid-ltxid.result c.next_ltxid-ltxid.ensures.next live)

pub returns-in-Ok-clause-base : goal.returns-in-Ok-clause-base
returns-in-Ok-clause-base g c =
    let old : Within = record { grants = c.self.inside.grants; disk = g.D.Disk.state c.self.inside.disk; core = c.self.inside.core; held = c.self.inside.held; notes = c.self.inside.notes } in
    let end = g.D.Disk.state c.begin_and_run.new.disk in
    let is_up : old.core ≡ Some c.in-Some.core = sym c.in-Some.ensures.value in
    let session_is : c.new-session.result ≡ made_session c.in-Some.core old.notes = c.new-session.ensures.seen ∙ ap begins c.next_ltxid-ltxid.ensures.next in
    let live = ap (λ (w : Within). w.notes.is_spent) c.self.view_is ∙ c.requires.live in
    subst (λ (w : Within). HaveOneBase (bytes_in w) end.now.seen) {x = old} c.self.view_is (runs_on_base old c.in-Some.core is_up (c.self.invariant.kept live) c.args.now c.new-session.result session_is c.next_ltxid-ltxid.new.made c.next_ltxid-ltxid.ensures.counted end c.args.calls.now c.in-Ok.runs c.begin_and_run.new.core c.begin_and_run.new.session c.in-Ok.ensures)

pub invariant_of-self-in-Stopped-1 : goal.invariant_of-self-in-Stopped-1
invariant_of-self-in-Stopped-1 g c = record {
  kept = λ live.
      let old : Within = record { grants = c.self.inside.grants; disk = g.D.Disk.state c.self.inside.disk; core = c.self.inside.core; held = c.self.inside.held; notes = c.self.inside.notes } in
      let end = g.D.Disk.state c.begin_and_run.new.disk in
      let is_up : old.core ≡ Some c.in-Some.core = sym c.in-Some.ensures.value in
      let session_is : c.new-session.result ≡ made_session c.in-Some.core old.notes = c.new-session.ensures.seen ∙ ap begins c.next_ltxid-ltxid.ensures.next in
      let halted = (subst (λ (f : ServeFault). RunsFrom c.args.now c.args.calls.now (Err f) c.new-session.result c.in-Some.core old.disk c.begin_and_run.new.session c.begin_and_run.new.core end) c.in-Err-Stopped.field-0-is c.in-Err-Stopped.ensures).0 in
      halts_soundly old c.in-Some.core is_up (c.self.invariant.kept live) c.args.now c.new-session.result session_is c.next_ltxid-ltxid.new.made c.next_ltxid-ltxid.ensures.counted end halted (g.met.D.Disk.reads_now c.begin_and_run.new.disk) c.take.new.self c.take.ensures.after c.clear.new.self c.clear.ensures;
  at_rest = λ live down.
      let old : Within = record { grants = c.self.inside.grants; disk = g.D.Disk.state c.self.inside.disk; core = c.self.inside.core; held = c.self.inside.held; notes = c.self.inside.notes } in
      let end = g.D.Disk.state c.begin_and_run.new.disk in
      let halted = (subst (λ (f : ServeFault). RunsFrom c.args.now c.args.calls.now (Err f) c.new-session.result c.in-Some.core old.disk c.begin_and_run.new.session c.begin_and_run.new.core end) c.in-Err-Stopped.field-0-is c.in-Err-Stopped.ensures).1 in
      rests_behind old c.in-Some.core c.begin_and_run.new.core end c.of.result (sym c.in-Some.ensures.value) (c.self.invariant.kept live) halted c.of.ensures;
}

pub returns-in-Err-Stopped-clause-ran : goal.returns-in-Err-Stopped-clause-ran
returns-in-Err-Stopped-clause-ran g c =
    let old : Within = record { grants = c.self.inside.grants; disk = g.D.Disk.state c.self.inside.disk; core = c.self.inside.core; held = c.self.inside.held; notes = c.self.inside.notes } in
    let end = g.D.Disk.state c.begin_and_run.new.disk in
    let is_up : old.core ≡ Some c.in-Some.core = sym c.in-Some.ensures.value in
    let session_is : c.new-session.result ≡ made_session c.in-Some.core old.notes = c.new-session.ensures.seen ∙ ap begins c.next_ltxid-ltxid.ensures.next in
    let halted = (subst (λ (f : ServeFault). RunsFrom c.args.now c.args.calls.now (Err f) c.new-session.result c.in-Some.core old.disk c.begin_and_run.new.session c.begin_and_run.new.core end) c.in-Err-Stopped.field-0-is c.in-Err-Stopped.ensures).0 in
    let live = ap (λ (w : Within). w.notes.is_spent) c.self.view_is ∙ c.requires.live in
    let few = subst (λ n. n < 2 ^ 48) (sym (ap (λ (w : Within). w.notes.calls) c.self.view_is)) c.requires.few in
    let new = with_halted old c.in-Some.core is_up (c.self.invariant.kept live) c.args.now c.new-session.result session_is c.next_ltxid-ltxid.new.made c.next_ltxid-ltxid.ensures.counted end halted (g.met.D.Disk.reads_now c.begin_and_run.new.disk) c.take.new.self c.take.ensures.after c.clear.new.self c.clear.ensures c.take.new.self c.clear.new.self c.next_ltxid-ltxid.new.made in
    subst (λ (w : Within). Goes (SeesIn w) (SeesIn new) (λ before behind. StoppedOutside before (LeavesIn new) behind)) {x = old} c.self.view_is
    (halts old c.in-Some.core is_up (c.self.invariant.kept live) c.args.now c.new-session.result session_is c.next_ltxid-ltxid.new.made c.next_ltxid-ltxid.ensures.counted end halted (g.met.D.Disk.reads_now c.begin_and_run.new.disk) c.take.new.self c.take.ensures.after c.clear.new.self c.clear.ensures live few)

pub returns-in-Err-Stopped-clause-base : goal.returns-in-Err-Stopped-clause-base
returns-in-Err-Stopped-clause-base g c =
    let old : Within = record { grants = c.self.inside.grants; disk = g.D.Disk.state c.self.inside.disk; core = c.self.inside.core; held = c.self.inside.held; notes = c.self.inside.notes } in
    let end = g.D.Disk.state c.begin_and_run.new.disk in
    let is_up : old.core ≡ Some c.in-Some.core = sym c.in-Some.ensures.value in
    let session_is : c.new-session.result ≡ made_session c.in-Some.core old.notes = c.new-session.ensures.seen ∙ ap begins c.next_ltxid-ltxid.ensures.next in
    let halted = (subst (λ (f : ServeFault). RunsFrom c.args.now c.args.calls.now (Err f) c.new-session.result c.in-Some.core old.disk c.begin_and_run.new.session c.begin_and_run.new.core end) c.in-Err-Stopped.field-0-is c.in-Err-Stopped.ensures).0 in
    let live = ap (λ (w : Within). w.notes.is_spent) c.self.view_is ∙ c.requires.live in
    subst (λ (w : Within). HaveOneBase (bytes_in w) end.now.seen) {x = old} c.self.view_is (halts_on_base old c.in-Some.core is_up (c.self.invariant.kept live) c.args.now c.new-session.result session_is c.next_ltxid-ltxid.new.made c.next_ltxid-ltxid.ensures.counted end halted (g.met.D.Disk.reads_now c.begin_and_run.new.disk) c.take.new.self c.take.ensures.after c.clear.new.self c.clear.ensures)

pub returns-in-Ok-clause-grew : goal.returns-in-Ok-clause-grew
returns-in-Ok-clause-grew g c =
    let old : Within = record { grants = c.self.inside.grants; disk = g.D.Disk.state c.self.inside.disk; core = c.self.inside.core; held = c.self.inside.held; notes = c.self.inside.notes } in
    let end = g.D.Disk.state c.begin_and_run.new.disk in
    let is_up : old.core ≡ Some c.in-Some.core = sym c.in-Some.ensures.value in
    let session_is : c.new-session.result ≡ made_session c.in-Some.core old.notes = c.new-session.ensures.seen ∙ ap begins c.next_ltxid-ltxid.ensures.next in
    let live = ap (λ (w : Within). w.notes.is_spent) c.self.view_is ∙ c.requires.live in
    let new = with_ran old c.in-Some.core is_up (c.self.invariant.kept live) c.args.now c.new-session.result session_is c.next_ltxid-ltxid.new.made c.next_ltxid-ltxid.ensures.counted end c.args.calls.now c.in-Ok.runs c.begin_and_run.new.core c.begin_and_run.new.session c.in-Ok.ensures c.next_ltxid-ltxid.new.made in
    let made = made_session c.in-Some.core old.notes in
    let ran = subst (λ (s : Session). HasRunFrom c.args.now c.args.calls.now c.in-Ok.runs s c.in-Some.core old.disk c.begin_and_run.new.session c.begin_and_run.new.core end) session_is c.in-Ok.ensures in
    subst (λ (w : Within). GrewBy w new) {x = old} c.self.view_is
    (calls_grew old new c.in-Some.core is_up (c.self.invariant.kept live) (record { calls = refl; reads = refl; live = live; grants = refl }) c.args.now made c.args.calls.now c.in-Ok.runs c.begin_and_run.new.session c.begin_and_run.new.core ran refl refl)

pub returns-in-Err-Stopped-clause-broke : goal.returns-in-Err-Stopped-clause-broke
returns-in-Err-Stopped-clause-broke g c none =
    let old : Within = record { grants = c.self.inside.grants; disk = g.D.Disk.state c.self.inside.disk; core = c.self.inside.core; held = c.self.inside.held; notes = c.self.inside.notes } in
    let end = g.D.Disk.state c.begin_and_run.new.disk in
    let is_up : old.core ≡ Some c.in-Some.core = sym c.in-Some.ensures.value in
    let session_is : c.new-session.result ≡ made_session c.in-Some.core old.notes = c.new-session.ensures.seen ∙ ap begins c.next_ltxid-ltxid.ensures.next in
    let halted = (subst (λ (f : ServeFault). RunsFrom c.args.now c.args.calls.now (Err f) c.new-session.result c.in-Some.core old.disk c.begin_and_run.new.session c.begin_and_run.new.core end) c.in-Err-Stopped.field-0-is c.in-Err-Stopped.ensures).0 in
    let live = ap (λ (w : Within). w.notes.is_spent) c.self.view_is ∙ c.requires.live in
    let few = subst (λ n. n < 2 ^ 48) (sym (ap (λ (w : Within). w.notes.calls) c.self.view_is)) c.requires.few in
    let new = with_halted old c.in-Some.core is_up (c.self.invariant.kept live) c.args.now c.new-session.result session_is c.next_ltxid-ltxid.new.made c.next_ltxid-ltxid.ensures.counted end halted (g.met.D.Disk.reads_now c.begin_and_run.new.disk) c.take.new.self c.take.ensures.after c.clear.new.self c.clear.ensures c.take.new.self c.clear.new.self c.next_ltxid-ltxid.new.made in
    let made = made_session c.in-Some.core old.notes in
    let stopped = subst (λ (s : Session). HasHaltedFrom c.args.now s c.in-Some.core old.disk end) session_is halted in
    subst (λ (w : Within). Broke w new) {x = old} c.self.view_is
    (calls_broke old new c.in-Some.core is_up (c.self.invariant.kept live) (record { calls = refl; reads = refl; live = live; grants = refl }) c.args.now made stopped (ap is_some c.take.ensures.after) refl)

pub returns-in-Ok-clause-halted : goal.returns-in-Ok-clause-halted
returns-in-Ok-clause-halted g c grown =
    let old : Within = record { grants = c.self.inside.grants; disk = g.D.Disk.state c.self.inside.disk; core = c.self.inside.core; held = c.self.inside.held; notes = c.self.inside.notes } in
    let end = g.D.Disk.state c.begin_and_run.new.disk in
    let is_up : old.core ≡ Some c.in-Some.core = sym c.in-Some.ensures.value in
    let session_is : c.new-session.result ≡ made_session c.in-Some.core old.notes = c.new-session.ensures.seen ∙ ap begins c.next_ltxid-ltxid.ensures.next in
    let live = ap (λ (w : Within). w.notes.is_spent) c.self.view_is ∙ c.requires.live in
    let new = with_ran old c.in-Some.core is_up (c.self.invariant.kept live) c.args.now c.new-session.result session_is c.next_ltxid-ltxid.new.made c.next_ltxid-ltxid.ensures.counted end c.args.calls.now c.in-Ok.runs c.begin_and_run.new.core c.begin_and_run.new.session c.in-Ok.ensures c.next_ltxid-ltxid.new.made in
    let made = made_session c.in-Some.core old.notes in
    let ran = subst (λ (s : Session). HasRunFrom c.args.now c.args.calls.now c.in-Ok.runs s c.in-Some.core old.disk c.begin_and_run.new.session c.begin_and_run.new.core end) session_is c.in-Ok.ensures in
    subst (λ (w : Within). Goes (SeesIn w) (IsHaltedAs w new) (λ before behind. HaltedCalls before (StandsBetween w new) behind)) {x = old} c.self.view_is
    (ran_halts old c.in-Some.core is_up (c.self.invariant.kept live) c.args.now new live refl c.args.calls.now c.in-Ok.runs c.begin_and_run.new.session c.begin_and_run.new.core ran)

pub returns-in-Err-Stopped-clause-halted : goal.returns-in-Err-Stopped-clause-halted
returns-in-Err-Stopped-clause-halted g c none =
    let old : Within = record { grants = c.self.inside.grants; disk = g.D.Disk.state c.self.inside.disk; core = c.self.inside.core; held = c.self.inside.held; notes = c.self.inside.notes } in
    let end = g.D.Disk.state c.begin_and_run.new.disk in
    let is_up : old.core ≡ Some c.in-Some.core = sym c.in-Some.ensures.value in
    let session_is : c.new-session.result ≡ made_session c.in-Some.core old.notes = c.new-session.ensures.seen ∙ ap begins c.next_ltxid-ltxid.ensures.next in
    let halted = (subst (λ (f : ServeFault). RunsFrom c.args.now c.args.calls.now (Err f) c.new-session.result c.in-Some.core old.disk c.begin_and_run.new.session c.begin_and_run.new.core end) c.in-Err-Stopped.field-0-is c.in-Err-Stopped.ensures).0 in
    let live = ap (λ (w : Within). w.notes.is_spent) c.self.view_is ∙ c.requires.live in
    let few = subst (λ n. n < 2 ^ 48) (sym (ap (λ (w : Within). w.notes.calls) c.self.view_is)) c.requires.few in
    let new = with_halted old c.in-Some.core is_up (c.self.invariant.kept live) c.args.now c.new-session.result session_is c.next_ltxid-ltxid.new.made c.next_ltxid-ltxid.ensures.counted end halted (g.met.D.Disk.reads_now c.begin_and_run.new.disk) c.take.new.self c.take.ensures.after c.clear.new.self c.clear.ensures c.take.new.self c.clear.new.self c.next_ltxid-ltxid.new.made in
    let made = made_session c.in-Some.core old.notes in
    let stopped = subst (λ (s : Session). HasHaltedFrom c.args.now s c.in-Some.core old.disk end) session_is halted in
    subst (λ (w : Within). Goes (SeesIn w) (IsHaltedAs w new) (λ before behind. HaltedCalls before (StandsBetween w new) behind)) {x = old} c.self.view_is
    (outside_halts old c.in-Some.core is_up (c.self.invariant.kept live) c.args.now new live refl stopped)

pub returns-in-Err-Stopped-clause-uncounted : goal.returns-in-Err-Stopped-clause-uncounted
returns-in-Err-Stopped-clause-uncounted g c lacked = absurd (let clash : ◌≡◌ {A = Result OutsideNote ServeFault} (Err fault.Stopped) (Err fault.NoMemory) = lacked in cc)

pub invariant_of-self-inside : goal.invariant_of-self-inside
invariant_of-self-inside g c =
    let old : Within = record { grants = c.self.inside.grants; disk = g.D.Disk.state c.self.inside.disk; core = c.self.inside.core; held = c.self.inside.held; notes = c.self.inside.notes } in
    let end = g.D.Disk.state c.begin_and_run.new.disk in
    let is_up : old.core ≡ Some c.in-Some.core = sym c.in-Some.ensures.value in
    let session_is : c.new-session.result ≡ made_session c.in-Some.core old.notes = c.new-session.ensures.seen ∙ ap begins c.next_ltxid-ltxid.ensures.next in
    let unspent = ap (λ (w : Within). w.notes.is_spent) c.self.view_is ∙ c.requires.live in
    (λ spent. absurd (let clash : ◌≡◌ {A = Bool} true false = sym spent ∙ unspent in cc), (λ live. still_fit old c.self.inside.indexes.items end.now.seen (c.self.invariant.kept live) (runs_on_base old c.in-Some.core is_up (c.self.invariant.kept live) c.args.now c.new-session.result session_is c.next_ltxid-ltxid.new.made c.next_ltxid-ltxid.ensures.counted end c.args.calls.now c.in-Ok.runs c.begin_and_run.new.core c.begin_and_run.new.session c.in-Ok.ensures) (c.self.inside.fitting live), tt))

pub invariant_of-self-inside-in-Err-Stopped : goal.invariant_of-self-inside-in-Err-Stopped
invariant_of-self-inside-in-Err-Stopped g c =
    let old : Within = record { grants = c.self.inside.grants; disk = g.D.Disk.state c.self.inside.disk; core = c.self.inside.core; held = c.self.inside.held; notes = c.self.inside.notes } in
    let end = g.D.Disk.state c.begin_and_run.new.disk in
    let is_up : old.core ≡ Some c.in-Some.core = sym c.in-Some.ensures.value in
    let session_is : c.new-session.result ≡ made_session c.in-Some.core old.notes = c.new-session.ensures.seen ∙ ap begins c.next_ltxid-ltxid.ensures.next in
    let halted = (subst (λ (f : ServeFault). RunsFrom c.args.now c.args.calls.now (Err f) c.new-session.result c.in-Some.core old.disk c.begin_and_run.new.session c.begin_and_run.new.core end) c.in-Err-Stopped.field-0-is c.in-Err-Stopped.ensures).0 in
    (λ spent. ap is_some c.take.ensures.after, (λ live. still_fit old c.self.inside.indexes.items end.now.seen (c.self.invariant.kept live) (halts_on_base old c.in-Some.core is_up (c.self.invariant.kept live) c.args.now c.new-session.result session_is c.next_ltxid-ltxid.new.made c.next_ltxid-ltxid.ensures.counted end halted (g.met.D.Disk.reads_now c.begin_and_run.new.disk) c.take.new.self c.take.ensures.after c.clear.new.self c.clear.ensures) (c.self.inside.fitting live), tt))
