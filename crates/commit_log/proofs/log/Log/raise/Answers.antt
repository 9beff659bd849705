use Rattle.std.proofs.Common.{◌≡◌, ◌*◌, List, length, true, sym, subst, ◌∙◌, rules}
use Rattle.std.specs.Prelude.{Err}
use Rattle.disk_model.specs.Disk.{Meanwhile, Lowered, LoweredByLess}
use Rattle.redo_store.specs.declared.fault.RedoFault.TheVariants as redo_fault
use Rattle.commit_log.specs.declared.journal.Journal.{Journal}
use Rattle.commit_log.specs.declared.records.Record.{Record}
use Rattle.commit_log.specs.declared.records.Record.TheVariants as kept
use Rattle.commit_log.specs.meaning.Rules.{rises}
use Rattle.commit_log.specs.Growth.{IsGrown, horizon_of}
use Rattle.commit_log.specs.Logs.{HasBegun}
use Rattle.commit_log.specs.InnerOpening.{HasRaised}
use Rattle.commit_log.proofs.Misfits.{begun_after, never_damaged, no_fault_then, lowers_handed, caused_handed}
use Rattle.commit_log.proofs.Opening.{stored, may_raise, was_raised}
use Rattle.commit_log.proofs.log.Log.raise.Goals as goal

pub returns-in_err-extend-clause-refused : goal.returns-in_err-extend-clause-refused
returns-in_err-extend-clause-refused g c is =
    let s = g.D.Disk.state c.args.disk.now in
    let t = g.D.Disk.state c.extend.new.disk in
    let judge = c.args.judge in
    let horizon = c.args.horizon in
    let up : rises judge.journal judge.has_horizon horizon ≡ true = sym c.is_below.ensures ∙ c.if-not-is_below.false in
    let ready : HasBegun judge.is_opened judge.has_horizon c.args.self.now s = record { append = c.requires.ready; journal = judge.journal; so_far = c.requires.judged } in
    let may = may_raise horizon judge s up c.requires.room c.requires.judged in
    let e = c.extend.ensures judge.is_opened judge.has_horizon ready may in
    let no_memory : c.extend.result ≡ Err redo_fault.NoMemory = search rules in
    (e.refused no_memory, (begun_after judge.is_opened judge.has_horizon (kept.Horizon horizon) c.extend.result c.extend.new.self t no_memory e.goes_on).append.settled)

pub returns-in_err-extend-clause-any_moment : goal.returns-in_err-extend-clause-any_moment
returns-in_err-extend-clause-any_moment g c =
    let s = g.D.Disk.state c.args.disk.now in
    let t = g.D.Disk.state c.extend.new.disk in
    let judge = c.args.judge in
    let horizon = c.args.horizon in
    let up : rises judge.journal judge.has_horizon horizon ≡ true = sym c.is_below.ensures ∙ c.if-not-is_below.false in
    let ready : HasBegun judge.is_opened judge.has_horizon c.args.self.now s = record { append = c.requires.ready; journal = judge.journal; so_far = c.requires.judged } in
    let may = may_raise horizon judge s up c.requires.room c.requires.judged in
    subst (λ (l : List Record). Meanwhile s t (IsGrown s.now.seen l)) (sym (stored horizon judge.journal judge.has_horizon up)) (c.extend.ensures judge.is_opened judge.has_horizon ready may).any_moment

pub returns-in_err-extend-clause-stop : goal.returns-in_err-extend-clause-stop
returns-in_err-extend-clause-stop g c =
    let s = g.D.Disk.state c.args.disk.now in
    let t = g.D.Disk.state c.extend.new.disk in
    let judge = c.args.judge in
    let horizon = c.args.horizon in
    let up : rises judge.journal judge.has_horizon horizon ≡ true = sym c.is_below.ensures ∙ c.if-not-is_below.false in
    let ready : HasBegun judge.is_opened judge.has_horizon c.args.self.now s = record { append = c.requires.ready; journal = judge.journal; so_far = c.requires.judged } in
    let may = may_raise horizon judge s up c.requires.room c.requires.judged in
    let handed : c.from_residual.result ≡ Err c.in_err-extend.field-0.0 = search rules in
    lowers_handed (4 * length (horizon_of horizon judge.journal judge.has_horizon)) c.from_residual.result c.in_err-extend.field-0.0 s.stop t.stop handed
    (subst (λ (l : List Record). LoweredByLess (4 * length l) s.stop t.stop) (sym (stored horizon judge.journal judge.has_horizon up)) (c.in_err-extend.ensures judge.is_opened judge.has_horizon ready may).stop)

pub returns-in_err-extend-clause-cause : goal.returns-in_err-extend-clause-cause
returns-in_err-extend-clause-cause g c =
    let s = g.D.Disk.state c.args.disk.now in
    let t = g.D.Disk.state c.extend.new.disk in
    let judge = c.args.judge in
    let horizon = c.args.horizon in
    let up : rises judge.journal judge.has_horizon horizon ≡ true = sym c.is_below.ensures ∙ c.if-not-is_below.false in
    let ready : HasBegun judge.is_opened judge.has_horizon c.args.self.now s = record { append = c.requires.ready; journal = judge.journal; so_far = c.requires.judged } in
    let may = may_raise horizon judge s up c.requires.room c.requires.judged in
    let handed : c.from_residual.result ≡ Err c.in_err-extend.field-0.0 = search rules in
    caused_handed c.from_residual.result c.in_err-extend.field-0.0 s t handed (c.in_err-extend.ensures judge.is_opened judge.has_horizon ready may).cause

pub returns-in_err-extend-clause-whole : goal.returns-in_err-extend-clause-whole
returns-in_err-extend-clause-whole g c place is =
    let s = g.D.Disk.state c.args.disk.now in
    let t = g.D.Disk.state c.extend.new.disk in
    let judge = c.args.judge in
    let horizon = c.args.horizon in
    let up : rises judge.journal judge.has_horizon horizon ≡ true = sym c.is_below.ensures ∙ c.if-not-is_below.false in
    let ready : HasBegun judge.is_opened judge.has_horizon c.args.self.now s = record { append = c.requires.ready; journal = judge.journal; so_far = c.requires.judged } in
    let may = may_raise horizon judge s up c.requires.room c.requires.judged in
    let damaged : c.extend.result ≡ Err (redo_fault.Damaged place) = search rules in
    never_damaged judge.is_opened judge.has_horizon (kept.Horizon horizon) c.extend.result c.extend.new.self t place damaged (c.extend.ensures judge.is_opened judge.has_horizon ready may).goes_on

pub returns-clause-raised : goal.returns-clause-raised
returns-clause-raised g c =
    let s = g.D.Disk.state c.args.disk.now in
    let t = g.D.Disk.state c.extend.new.disk in
    let judge = c.args.judge in
    let horizon = c.args.horizon in
    let up : rises judge.journal judge.has_horizon horizon ≡ true = sym c.is_below.ensures ∙ c.if-not-is_below.false in
    let ready : HasBegun judge.is_opened judge.has_horizon c.args.self.now s = record { append = c.requires.ready; journal = judge.journal; so_far = c.requires.judged } in
    let may = may_raise horizon judge s up c.requires.room c.requires.judged in
    let e = c.in_ok-extend.ensures judge.is_opened judge.has_horizon ready may in
    subst (λ (j : Journal). HasRaised horizon judge (record j { horizon = horizon }) c.extend.new.self s t) (sym c.into_journal-journal.ensures) (was_raised horizon judge c.extend.new.self s t c.requires.kept up c.requires.judged e.added e.goes_on)

pub returns-clause-any_moment : goal.returns-clause-any_moment
returns-clause-any_moment g c =
    let s = g.D.Disk.state c.args.disk.now in
    let t = g.D.Disk.state c.extend.new.disk in
    let judge = c.args.judge in
    let horizon = c.args.horizon in
    let up : rises judge.journal judge.has_horizon horizon ≡ true = sym c.is_below.ensures ∙ c.if-not-is_below.false in
    let ready : HasBegun judge.is_opened judge.has_horizon c.args.self.now s = record { append = c.requires.ready; journal = judge.journal; so_far = c.requires.judged } in
    let may = may_raise horizon judge s up c.requires.room c.requires.judged in
    subst (λ (l : List Record). Meanwhile s t (IsGrown s.now.seen l)) (sym (stored horizon judge.journal judge.has_horizon up)) (c.extend.ensures judge.is_opened judge.has_horizon ready may).any_moment

pub returns-clause-stop : goal.returns-clause-stop
returns-clause-stop g c =
    let s = g.D.Disk.state c.args.disk.now in
    let t = g.D.Disk.state c.extend.new.disk in
    let judge = c.args.judge in
    let horizon = c.args.horizon in
    let up : rises judge.journal judge.has_horizon horizon ≡ true = sym c.is_below.ensures ∙ c.if-not-is_below.false in
    let ready : HasBegun judge.is_opened judge.has_horizon c.args.self.now s = record { append = c.requires.ready; journal = judge.journal; so_far = c.requires.judged } in
    let may = may_raise horizon judge s up c.requires.room c.requires.judged in
    subst (λ (l : List Record). Lowered (4 * length l) s.stop t.stop) (sym (stored horizon judge.journal judge.has_horizon up)) (c.in_ok-extend.ensures judge.is_opened judge.has_horizon ready may).stop

pub returns-clause-cause : goal.returns-clause-cause
returns-clause-cause g c =
    let s = g.D.Disk.state c.args.disk.now in
    let t = g.D.Disk.state c.extend.new.disk in
    let judge = c.args.judge in
    let horizon = c.args.horizon in
    let up : rises judge.journal judge.has_horizon horizon ≡ true = sym c.is_below.ensures ∙ c.if-not-is_below.false in
    let ready : HasBegun judge.is_opened judge.has_horizon c.args.self.now s = record { append = c.requires.ready; journal = judge.journal; so_far = c.requires.judged } in
    let may = may_raise horizon judge s up c.requires.room c.requires.judged in
    no_fault_then _ _ s t (c.in_ok-extend.ensures judge.is_opened judge.has_horizon ready may).cause
