use Rattle.std.proofs.Common.{◌≡◌, ◌∙◌, ◌<◌, ◌^◌, refl, sym, ap, subst, Bool, true, false}
use Rattle.std.specs.Prelude.{◌≢◌, is_some, Some, Err}
use Rattle.server_model.specs.declared.fault.ServeFault.{ServeFault}
use Rattle.server_model.specs.ServiceCalls.{AskedOne, StoppedAsk}
use Rattle.server_session.specs.Storing.{Tells}
use Rattle.service_calls.specs.Kept.{Goes, HaveOneBase}
use Rattle.service_core.specs.Seeing.{LeavesIn, SeesIn, bytes_in}
use Rattle.service_core.specs.Shipping.{Broke, GrewBy, count_in}
use Rattle.service_core.specs.Unanswered.{HaltedAsk, IsHaltedAs, StandsBetween}
use Rattle.service_core.specs.Within.{Within}
use Rattle.service_core.proofs.Growths.{ask_broke, ask_grew}
use Rattle.service_core.proofs.halts.AskHalts.{stopped_telling_halts, told_halts}
use Rattle.service_core.proofs.Asks.{asks, asks_on_base, asks_soundly, halts, halts_on_base, halts_soundly, with_asked, with_halted}
use Rattle.service_core.proofs.Rested.{rests_behind}
use Rattle.service_core.proofs.one.OneService.tell.Goals as goal
use Rattle.service_core.proofs.Indexing.{still_fit, told_as}

pub invariant_of-self : goal.invariant_of-self
invariant_of-self g c = record {
  kept = λ live.
      let old : Within = record { grants = c.self.inside.grants; disk = g.D.Disk.state c.self.inside.disk; core = c.self.inside.core; held = c.self.inside.held; notes = c.self.inside.notes } in
      let end = g.D.Disk.state c.tell_outcome.new.disk in
      let is_up : old.core ≡ Some c.in-Some.core = sym c.in-Some.ensures.value in
      asks_soundly old c.in-Some.core is_up (c.self.invariant.kept live) c.args.x.now end c.tell_outcome.new.core c.in-Ok.verdict c.answer_of.result c.answer_of.ensures.answer c.answer_of.ensures.told c.in-Ok.ensures;
  at_rest = λ live down. absurd (let clash : ◌≡◌ {A = Bool} true false = down in cc);
}

pub returns-in-Ok-clause-asked : goal.returns-in-Ok-clause-asked
returns-in-Ok-clause-asked g c =
    let old : Within = record { grants = c.self.inside.grants; disk = g.D.Disk.state c.self.inside.disk; core = c.self.inside.core; held = c.self.inside.held; notes = c.self.inside.notes } in
    let end = g.D.Disk.state c.tell_outcome.new.disk in
    let is_up : old.core ≡ Some c.in-Some.core = sym c.in-Some.ensures.value in
    let live = ap (λ (w : Within). w.notes.is_spent) c.self.view_is ∙ c.requires.live in
    let new = with_asked old c.in-Some.core is_up (c.self.invariant.kept live) c.args.x.now end c.tell_outcome.new.core c.in-Ok.verdict c.answer_of.result c.answer_of.ensures.answer c.answer_of.ensures.told c.in-Ok.ensures in
    subst (λ (w : Within). Goes (SeesIn w) (SeesIn new) (λ before behind. AskedOne before c.args.x.now c.answer_of.result behind)) {x = old} c.self.view_is
    (asks old c.in-Some.core is_up (c.self.invariant.kept live) c.args.x.now end c.tell_outcome.new.core c.in-Ok.verdict c.answer_of.result c.answer_of.ensures.answer c.answer_of.ensures.told c.in-Ok.ensures live)

pub returns-in-Ok-clause-base : goal.returns-in-Ok-clause-base
returns-in-Ok-clause-base g c =
    let old : Within = record { grants = c.self.inside.grants; disk = g.D.Disk.state c.self.inside.disk; core = c.self.inside.core; held = c.self.inside.held; notes = c.self.inside.notes } in
    let end = g.D.Disk.state c.tell_outcome.new.disk in
    let is_up : old.core ≡ Some c.in-Some.core = sym c.in-Some.ensures.value in
    let live = ap (λ (w : Within). w.notes.is_spent) c.self.view_is ∙ c.requires.live in
    subst (λ (w : Within). HaveOneBase (bytes_in w) end.now.seen) {x = old} c.self.view_is (asks_on_base old c.in-Some.core is_up (c.self.invariant.kept live) c.args.x.now end c.tell_outcome.new.core c.in-Ok.verdict c.answer_of.result c.answer_of.ensures.answer c.answer_of.ensures.told c.in-Ok.ensures)

pub invariant_of-self-in-Err-Stopped : goal.invariant_of-self-in-Err-Stopped
invariant_of-self-in-Err-Stopped g c = record {
  kept = λ live.
      let old : Within = record { grants = c.self.inside.grants; disk = g.D.Disk.state c.self.inside.disk; core = c.self.inside.core; held = c.self.inside.held; notes = c.self.inside.notes } in
      let end = g.D.Disk.state c.tell_outcome.new.disk in
      let is_up : old.core ≡ Some c.in-Some.core = sym c.in-Some.ensures.value in
      let stopped = (subst (λ (f : ServeFault). Tells c.args.x.now (Err f) c.in-Some.core old.disk c.tell_outcome.new.core end) c.in-Err-Stopped.field-0-is c.in-Err-Stopped.ensures).0 in
      halts_soundly old c.in-Some.core is_up (c.self.invariant.kept live) c.args.x.now end stopped (g.met.D.Disk.reads_now c.tell_outcome.new.disk) c.take.new.self c.take.ensures.after c.clear.new.self c.clear.ensures;
  at_rest = λ live down.
      let old : Within = record { grants = c.self.inside.grants; disk = g.D.Disk.state c.self.inside.disk; core = c.self.inside.core; held = c.self.inside.held; notes = c.self.inside.notes } in
      let end = g.D.Disk.state c.tell_outcome.new.disk in
      let stopped = (subst (λ (f : ServeFault). Tells c.args.x.now (Err f) c.in-Some.core old.disk c.tell_outcome.new.core end) c.in-Err-Stopped.field-0-is c.in-Err-Stopped.ensures).1 in
      rests_behind old c.in-Some.core c.tell_outcome.new.core end c.of.result (sym c.in-Some.ensures.value) (c.self.invariant.kept live) stopped c.of.ensures;
}

pub returns-in-Err-Stopped-clause-asked : goal.returns-in-Err-Stopped-clause-asked
returns-in-Err-Stopped-clause-asked g c =
    let old : Within = record { grants = c.self.inside.grants; disk = g.D.Disk.state c.self.inside.disk; core = c.self.inside.core; held = c.self.inside.held; notes = c.self.inside.notes } in
    let end = g.D.Disk.state c.tell_outcome.new.disk in
    let is_up : old.core ≡ Some c.in-Some.core = sym c.in-Some.ensures.value in
    let stopped = (subst (λ (f : ServeFault). Tells c.args.x.now (Err f) c.in-Some.core old.disk c.tell_outcome.new.core end) c.in-Err-Stopped.field-0-is c.in-Err-Stopped.ensures).0 in
    let live = ap (λ (w : Within). w.notes.is_spent) c.self.view_is ∙ c.requires.live in
    let few = subst (λ n. n < 2 ^ 48) (sym (ap (λ (w : Within). w.notes.calls) c.self.view_is)) c.requires.few in
    let new = with_halted old c.in-Some.core is_up (c.self.invariant.kept live) c.args.x.now end stopped (g.met.D.Disk.reads_now c.tell_outcome.new.disk) c.take.new.self c.take.ensures.after c.clear.new.self c.clear.ensures c.take.new.self c.clear.new.self in
    subst (λ (w : Within). Goes (SeesIn w) (SeesIn new) (λ before behind. StoppedAsk before c.args.x.now (LeavesIn new) behind)) {x = old} c.self.view_is
    (halts old c.in-Some.core is_up (c.self.invariant.kept live) c.args.x.now end stopped (g.met.D.Disk.reads_now c.tell_outcome.new.disk) c.take.new.self c.take.ensures.after c.clear.new.self c.clear.ensures live few)

pub returns-in-Err-Stopped-clause-base : goal.returns-in-Err-Stopped-clause-base
returns-in-Err-Stopped-clause-base g c =
    let old : Within = record { grants = c.self.inside.grants; disk = g.D.Disk.state c.self.inside.disk; core = c.self.inside.core; held = c.self.inside.held; notes = c.self.inside.notes } in
    let end = g.D.Disk.state c.tell_outcome.new.disk in
    let is_up : old.core ≡ Some c.in-Some.core = sym c.in-Some.ensures.value in
    let stopped = (subst (λ (f : ServeFault). Tells c.args.x.now (Err f) c.in-Some.core old.disk c.tell_outcome.new.core end) c.in-Err-Stopped.field-0-is c.in-Err-Stopped.ensures).0 in
    let live = ap (λ (w : Within). w.notes.is_spent) c.self.view_is ∙ c.requires.live in
    subst (λ (w : Within). HaveOneBase (bytes_in w) end.now.seen) {x = old} c.self.view_is (halts_on_base old c.in-Some.core is_up (c.self.invariant.kept live) c.args.x.now end stopped (g.met.D.Disk.reads_now c.tell_outcome.new.disk) c.take.new.self c.take.ensures.after c.clear.new.self c.clear.ensures)

pub returns-in-Ok-clause-halted : goal.returns-in-Ok-clause-halted
returns-in-Ok-clause-halted g c =
    let old : Within = record { grants = c.self.inside.grants; disk = g.D.Disk.state c.self.inside.disk; core = c.self.inside.core; held = c.self.inside.held; notes = c.self.inside.notes } in
    let end = g.D.Disk.state c.tell_outcome.new.disk in
    let is_up : old.core ≡ Some c.in-Some.core = sym c.in-Some.ensures.value in
    let live = ap (λ (w : Within). w.notes.is_spent) c.self.view_is ∙ c.requires.live in
    let new = with_asked old c.in-Some.core is_up (c.self.invariant.kept live) c.args.x.now end c.tell_outcome.new.core c.in-Ok.verdict c.answer_of.result c.answer_of.ensures.answer c.answer_of.ensures.told c.in-Ok.ensures in
    subst (λ (w : Within). count_in new ≢ count_in w → Goes (SeesIn w) (IsHaltedAs w new) (λ before behind. HaltedAsk before c.args.x.now (StandsBetween w new) behind)) {x = old} c.self.view_is
    (told_halts old c.in-Some.core is_up (c.self.invariant.kept live) c.args.x.now new live refl c.in-Ok.verdict c.tell_outcome.new.core c.in-Ok.ensures)

pub returns-in-Err-Stopped-clause-halted : goal.returns-in-Err-Stopped-clause-halted
returns-in-Err-Stopped-clause-halted g c may =
    let old : Within = record { grants = c.self.inside.grants; disk = g.D.Disk.state c.self.inside.disk; core = c.self.inside.core; held = c.self.inside.held; notes = c.self.inside.notes } in
    let end = g.D.Disk.state c.tell_outcome.new.disk in
    let is_up : old.core ≡ Some c.in-Some.core = sym c.in-Some.ensures.value in
    let stopped = (subst (λ (f : ServeFault). Tells c.args.x.now (Err f) c.in-Some.core old.disk c.tell_outcome.new.core end) c.in-Err-Stopped.field-0-is c.in-Err-Stopped.ensures).0 in
    let live = ap (λ (w : Within). w.notes.is_spent) c.self.view_is ∙ c.requires.live in
    let new = with_halted old c.in-Some.core is_up (c.self.invariant.kept live) c.args.x.now end stopped (g.met.D.Disk.reads_now c.tell_outcome.new.disk) c.take.new.self c.take.ensures.after c.clear.new.self c.clear.ensures c.take.new.self c.clear.new.self in
    subst (λ (w : Within). Goes (SeesIn w) (IsHaltedAs w new) (λ before behind. HaltedAsk before c.args.x.now (StandsBetween w new) behind)) {x = old} c.self.view_is
    (stopped_telling_halts old c.in-Some.core is_up (c.self.invariant.kept live) c.args.x.now new live refl stopped)

pub returns-in-Ok-clause-grew : goal.returns-in-Ok-clause-grew
returns-in-Ok-clause-grew g c =
    let old : Within = record { grants = c.self.inside.grants; disk = g.D.Disk.state c.self.inside.disk; core = c.self.inside.core; held = c.self.inside.held; notes = c.self.inside.notes } in
    let end = g.D.Disk.state c.tell_outcome.new.disk in
    let is_up : old.core ≡ Some c.in-Some.core = sym c.in-Some.ensures.value in
    let live = ap (λ (w : Within). w.notes.is_spent) c.self.view_is ∙ c.requires.live in
    let new = with_asked old c.in-Some.core is_up (c.self.invariant.kept live) c.args.x.now end c.tell_outcome.new.core c.in-Ok.verdict c.answer_of.result c.answer_of.ensures.answer c.answer_of.ensures.told c.in-Ok.ensures in
    subst (λ (w : Within). GrewBy w new) {x = old} c.self.view_is
    (ask_grew old new c.in-Some.core is_up (c.self.invariant.kept live) (record { calls = refl; reads = refl; live = live; grants = refl }) c.args.x.now c.in-Ok.verdict c.tell_outcome.new.core c.in-Ok.ensures refl refl)

pub returns-in-Err-Stopped-clause-broke : goal.returns-in-Err-Stopped-clause-broke
returns-in-Err-Stopped-clause-broke g c none =
    let old : Within = record { grants = c.self.inside.grants; disk = g.D.Disk.state c.self.inside.disk; core = c.self.inside.core; held = c.self.inside.held; notes = c.self.inside.notes } in
    let end = g.D.Disk.state c.tell_outcome.new.disk in
    let is_up : old.core ≡ Some c.in-Some.core = sym c.in-Some.ensures.value in
    let stopped = (subst (λ (f : ServeFault). Tells c.args.x.now (Err f) c.in-Some.core old.disk c.tell_outcome.new.core end) c.in-Err-Stopped.field-0-is c.in-Err-Stopped.ensures).0 in
    let live = ap (λ (w : Within). w.notes.is_spent) c.self.view_is ∙ c.requires.live in
    let new = with_halted old c.in-Some.core is_up (c.self.invariant.kept live) c.args.x.now end stopped (g.met.D.Disk.reads_now c.tell_outcome.new.disk) c.take.new.self c.take.ensures.after c.clear.new.self c.clear.ensures c.take.new.self c.clear.new.self in
    subst (λ (w : Within). Broke w new) {x = old} c.self.view_is
    (ask_broke old new c.in-Some.core is_up (c.self.invariant.kept live) (record { calls = refl; reads = refl; live = live; grants = refl }) c.args.x.now stopped (ap is_some c.take.ensures.after) refl)

pub invariant_of-self-inside : goal.invariant_of-self-inside
invariant_of-self-inside g c =
    let old : Within = record { grants = c.self.inside.grants; disk = g.D.Disk.state c.self.inside.disk; core = c.self.inside.core; held = c.self.inside.held; notes = c.self.inside.notes } in
    let end = g.D.Disk.state c.tell_outcome.new.disk in
    let is_up : old.core ≡ Some c.in-Some.core = sym c.in-Some.ensures.value in
    let told = told_as c.in-Ok.verdict in
    let unspent = ap (λ (w : Within). w.notes.is_spent) c.self.view_is ∙ c.requires.live in
    (λ spent. absurd (let clash : ◌≡◌ {A = Bool} true false = sym spent ∙ unspent in cc), (λ live. still_fit old c.self.inside.indexes.items end.now.seen (c.self.invariant.kept live) (asks_on_base old c.in-Some.core is_up (c.self.invariant.kept live) c.args.x.now end c.tell_outcome.new.core c.in-Ok.verdict told.0 told.1.0 told.1.1 c.in-Ok.ensures) (c.self.inside.fitting live), tt))

pub invariant_of-self-inside-in-Err-Stopped : goal.invariant_of-self-inside-in-Err-Stopped
invariant_of-self-inside-in-Err-Stopped g c =
    let old : Within = record { grants = c.self.inside.grants; disk = g.D.Disk.state c.self.inside.disk; core = c.self.inside.core; held = c.self.inside.held; notes = c.self.inside.notes } in
    let end = g.D.Disk.state c.tell_outcome.new.disk in
    let is_up : old.core ≡ Some c.in-Some.core = sym c.in-Some.ensures.value in
    let stopped = (subst (λ (f : ServeFault). Tells c.args.x.now (Err f) c.in-Some.core old.disk c.tell_outcome.new.core end) c.in-Err-Stopped.field-0-is c.in-Err-Stopped.ensures).0 in
    (λ spent. ap is_some c.take.ensures.after, (λ live. still_fit old c.self.inside.indexes.items end.now.seen (c.self.invariant.kept live) (halts_on_base old c.in-Some.core is_up (c.self.invariant.kept live) c.args.x.now end stopped (g.met.D.Disk.reads_now c.tell_outcome.new.disk) c.take.new.self c.take.ensures.after c.clear.new.self c.clear.ensures) (c.self.inside.fitting live), tt))
