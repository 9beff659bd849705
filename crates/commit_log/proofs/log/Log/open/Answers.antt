use Rattle.std.proofs.Common.{◌≡◌, ◌+◌, ◌*◌, length, ◌^◌, ◌<◌, true, ap, ◌∙◌, rules, arith}
use Rattle.std.specs.Prelude.{Ok, Err}
use Rattle.disk_model.specs.Moment.{DiskMoment}
use Rattle.redo_store.specs.declared.fault.RedoFault.TheVariants as redo_fault
use Rattle.commit_log.specs.declared.records.Record.TheVariants as kept
use Rattle.commit_log.specs.meaning.Journals.{journal_in, so_far_of}
use Rattle.commit_log.specs.Judging.{so_far_in}
use Rattle.commit_log.specs.Growth.{first_of_opening}
use Rattle.commit_log.proofs.Misfits.{begun_after, never_damaged, no_fault_then, cause_then, lowers_handed, caused_handed}
use Rattle.commit_log.proofs.Opening.{ends_first, none_at_first, stops_first, stops_reading, incarnation_is, begun, may_begin, ends_second, none_at_second, has_both, journal_then, opens_with, stops_second, lowers_both, ready_then}
use Rattle.commit_log.proofs.log.Log.open.Goals as goal

pub raise-requires-clause-judged : goal.raise-requires-clause-judged
raise-requires-clause-judged g c =
    let s = g.D.Disk.state c.args.disk.now in
    let t = g.D.Disk.state c.judge_all.new.disk in
    let horizon = c.args.horizon in
    let judge = c.in_ok-redo.judge in
    let judged : so_far_of s.now.seen ≡ Ok (so_far_in judge) = c.in_ok-redo.ensures.judged in
    let same = c.judge_all.ensures.only_reads.same in
    let stop = c.judge_all.ensures.only_reads.stop in
    ap (λ (m : DiskMoment). so_far_of m.seen) same.now ∙ judged

pub raise-requires-clause-room : goal.raise-requires-clause-room
raise-requires-clause-room g c =
    let s = g.D.Disk.state c.args.disk.now in
    let t = g.D.Disk.state c.judge_all.new.disk in
    let horizon = c.args.horizon in
    let judge = c.in_ok-redo.judge in
    let judged : so_far_of s.now.seen ≡ Ok (so_far_in judge) = c.in_ok-redo.ensures.judged in
    let same = c.judge_all.ensures.only_reads.same in
    let stop = c.judge_all.ensures.only_reads.stop in
    (c.requires.room judge.journal (ap journal_in judged)).1

pub overflow_add-incarnation : goal.overflow_add-incarnation
overflow_add-incarnation g c =
    let s = g.D.Disk.state c.args.disk.now in
    let t = g.D.Disk.state c.judge_all.new.disk in
    let horizon = c.args.horizon in
    let judge = c.in_ok-redo.judge in
    let judged : so_far_of s.now.seen ≡ Ok (so_far_in judge) = c.in_ok-redo.ensures.judged in
    let same = c.judge_all.ensures.only_reads.same in
    let stop = c.judge_all.ensures.only_reads.stop in
    let u = g.D.Disk.state c.raise.new.disk in
    let journal = c.in_ok-journal.journal in
    let log = c.raise.new.self in
    let raised = c.in_ok-journal.ensures.raised in
    let room = (c.requires.room judge.journal (ap journal_in judged)).0 in
    let incarnation = incarnation_is horizon judge s t u judged same journal log raised in
    let fits : journal.incarnation < 2 ^ 63 = omega (arith, incarnation, room) in
    omega (arith, fits)

pub returns-in_err-redo-clause-stop : goal.returns-in_err-redo-clause-stop
returns-in_err-redo-clause-stop g c =
    let s = g.D.Disk.state c.args.disk.now in
    let t = g.D.Disk.state c.judge_all.new.disk in
    let handed : c.from_residual.result ≡ Err c.in_err-redo.field-0.0 = search rules in
    lowers_handed (4 * length (first_of_opening c.args.horizon (so_far_of s.now.seen)) + 4) c.from_residual.result c.in_err-redo.field-0.0 s.stop t.stop handed (stops_reading c.args.horizon s t c.judge_all.ensures.only_reads.stop)

pub returns-in_err-journal-clause-refused : goal.returns-in_err-journal-clause-refused
returns-in_err-journal-clause-refused g c is =
    let s = g.D.Disk.state c.args.disk.now in
    let t = g.D.Disk.state c.judge_all.new.disk in
    let horizon = c.args.horizon in
    let judge = c.in_ok-redo.judge in
    let judged : so_far_of s.now.seen ≡ Ok (so_far_in judge) = c.in_ok-redo.ensures.judged in
    let same = c.judge_all.ensures.only_reads.same in
    let stop = c.judge_all.ensures.only_reads.stop in
    let u = g.D.Disk.state c.raise.new.disk in
    let none = c.in_err-journal.ensures.refused (search rules) in
    (none_at_first horizon judge s t u judged same none.0, none.1)

pub returns-in_err-journal-clause-any_moment : goal.returns-in_err-journal-clause-any_moment
returns-in_err-journal-clause-any_moment g c =
    let s = g.D.Disk.state c.args.disk.now in
    let t = g.D.Disk.state c.judge_all.new.disk in
    let horizon = c.args.horizon in
    let judge = c.in_ok-redo.judge in
    let judged : so_far_of s.now.seen ≡ Ok (so_far_in judge) = c.in_ok-redo.ensures.judged in
    let same = c.judge_all.ensures.only_reads.same in
    let stop = c.judge_all.ensures.only_reads.stop in
    let u = g.D.Disk.state c.raise.new.disk in
    ends_first horizon judge s t u judged same c.raise.ensures.any_moment

pub returns-in_err-journal-clause-stop : goal.returns-in_err-journal-clause-stop
returns-in_err-journal-clause-stop g c =
    let s = g.D.Disk.state c.args.disk.now in
    let t = g.D.Disk.state c.judge_all.new.disk in
    let horizon = c.args.horizon in
    let judge = c.in_ok-redo.judge in
    let judged : so_far_of s.now.seen ≡ Ok (so_far_in judge) = c.in_ok-redo.ensures.judged in
    let same = c.judge_all.ensures.only_reads.same in
    let stop = c.judge_all.ensures.only_reads.stop in
    let u = g.D.Disk.state c.raise.new.disk in
    let handed : c.from_residual-in_err-journal.result ≡ Err c.in_err-journal.field-0.0 = search rules in
    lowers_handed (4 * length (first_of_opening horizon (so_far_of s.now.seen)) + 4) c.from_residual-in_err-journal.result c.in_err-journal.field-0.0 s.stop u.stop handed (stops_first horizon judge s t u judged same stop c.in_err-journal.ensures.stop)

pub returns-in_err-extend-clause-refused : goal.returns-in_err-extend-clause-refused
returns-in_err-extend-clause-refused g c is =
    let s = g.D.Disk.state c.args.disk.now in
    let t = g.D.Disk.state c.judge_all.new.disk in
    let horizon = c.args.horizon in
    let judge = c.in_ok-redo.judge in
    let judged : so_far_of s.now.seen ≡ Ok (so_far_in judge) = c.in_ok-redo.ensures.judged in
    let same = c.judge_all.ensures.only_reads.same in
    let stop = c.judge_all.ensures.only_reads.stop in
    let u = g.D.Disk.state c.raise.new.disk in
    let journal = c.in_ok-journal.journal in
    let log = c.raise.new.self in
    let raised = c.in_ok-journal.ensures.raised in
    let room = (c.requires.room judge.journal (ap journal_in judged)).0 in
    let incarnation = incarnation_is horizon judge s t u judged same journal log raised in
    let fits : journal.incarnation < 2 ^ 63 = omega (arith, incarnation, room) in
    let v = g.D.Disk.state c.extend.new.disk in
    let ready = begun horizon judge s t u judged same journal log raised in
    let may = may_begin horizon judge s t u judged same journal log raised fits in
    let e = c.extend.ensures judge.is_opened true ready may in
    let no_memory : c.extend.result ≡ Err redo_fault.NoMemory = search rules in
    (none_at_second horizon judge s t u judged same journal log raised v (e.refused no_memory), (begun_after judge.is_opened true (kept.Opened (journal.incarnation + 1)) c.extend.result c.extend.new.self v no_memory e.goes_on).append.settled)

pub returns-in_err-extend-clause-any_moment : goal.returns-in_err-extend-clause-any_moment
returns-in_err-extend-clause-any_moment g c =
    let s = g.D.Disk.state c.args.disk.now in
    let t = g.D.Disk.state c.judge_all.new.disk in
    let horizon = c.args.horizon in
    let judge = c.in_ok-redo.judge in
    let judged : so_far_of s.now.seen ≡ Ok (so_far_in judge) = c.in_ok-redo.ensures.judged in
    let same = c.judge_all.ensures.only_reads.same in
    let stop = c.judge_all.ensures.only_reads.stop in
    let u = g.D.Disk.state c.raise.new.disk in
    let journal = c.in_ok-journal.journal in
    let log = c.raise.new.self in
    let raised = c.in_ok-journal.ensures.raised in
    let room = (c.requires.room judge.journal (ap journal_in judged)).0 in
    let incarnation = incarnation_is horizon judge s t u judged same journal log raised in
    let fits : journal.incarnation < 2 ^ 63 = omega (arith, incarnation, room) in
    let v = g.D.Disk.state c.extend.new.disk in
    let ready = begun horizon judge s t u judged same journal log raised in
    let may = may_begin horizon judge s t u judged same journal log raised fits in
    ends_second horizon judge s t u judged same journal log raised v c.raise.ensures.any_moment (c.extend.ensures judge.is_opened true ready may).any_moment

pub returns-in_err-extend-clause-stop : goal.returns-in_err-extend-clause-stop
returns-in_err-extend-clause-stop g c =
    let s = g.D.Disk.state c.args.disk.now in
    let t = g.D.Disk.state c.judge_all.new.disk in
    let horizon = c.args.horizon in
    let judge = c.in_ok-redo.judge in
    let judged : so_far_of s.now.seen ≡ Ok (so_far_in judge) = c.in_ok-redo.ensures.judged in
    let same = c.judge_all.ensures.only_reads.same in
    let stop = c.judge_all.ensures.only_reads.stop in
    let u = g.D.Disk.state c.raise.new.disk in
    let journal = c.in_ok-journal.journal in
    let log = c.raise.new.self in
    let raised = c.in_ok-journal.ensures.raised in
    let room = (c.requires.room judge.journal (ap journal_in judged)).0 in
    let incarnation = incarnation_is horizon judge s t u judged same journal log raised in
    let fits : journal.incarnation < 2 ^ 63 = omega (arith, incarnation, room) in
    let v = g.D.Disk.state c.extend.new.disk in
    let ready = begun horizon judge s t u judged same journal log raised in
    let may = may_begin horizon judge s t u judged same journal log raised fits in
    let handed : c.from_residual-in_err-extend.result ≡ Err c.in_err-extend.field-0.0 = search rules in
    lowers_handed (4 * length (first_of_opening horizon (so_far_of s.now.seen)) + 4) c.from_residual-in_err-extend.result c.in_err-extend.field-0.0 s.stop v.stop handed (stops_second horizon judge s t u judged same journal log raised v stop c.in_ok-journal.ensures.stop (c.in_err-extend.ensures judge.is_opened true ready may).stop)

pub returns-in_err-extend-clause-cause : goal.returns-in_err-extend-clause-cause
returns-in_err-extend-clause-cause g c =
    let s = g.D.Disk.state c.args.disk.now in
    let t = g.D.Disk.state c.judge_all.new.disk in
    let horizon = c.args.horizon in
    let judge = c.in_ok-redo.judge in
    let judged : so_far_of s.now.seen ≡ Ok (so_far_in judge) = c.in_ok-redo.ensures.judged in
    let same = c.judge_all.ensures.only_reads.same in
    let stop = c.judge_all.ensures.only_reads.stop in
    let u = g.D.Disk.state c.raise.new.disk in
    let journal = c.in_ok-journal.journal in
    let log = c.raise.new.self in
    let raised = c.in_ok-journal.ensures.raised in
    let room = (c.requires.room judge.journal (ap journal_in judged)).0 in
    let incarnation = incarnation_is horizon judge s t u judged same journal log raised in
    let fits : journal.incarnation < 2 ^ 63 = omega (arith, incarnation, room) in
    let v = g.D.Disk.state c.extend.new.disk in
    let ready = begun horizon judge s t u judged same journal log raised in
    let may = may_begin horizon judge s t u judged same journal log raised fits in
    let handed : c.from_residual-in_err-extend.result ≡ Err c.in_err-extend.field-0.0 = search rules in
    caused_handed c.from_residual-in_err-extend.result c.in_err-extend.field-0.0 s v handed (cause_then _ _ s t v c.in_ok-redo.ensures.only_reads.cause (cause_then journal _ t u v c.in_ok-journal.ensures.cause (c.in_err-extend.ensures judge.is_opened true ready may).cause))

pub returns-in_err-extend-clause-damaged : goal.returns-in_err-extend-clause-damaged
returns-in_err-extend-clause-damaged g c place is =
    let s = g.D.Disk.state c.args.disk.now in
    let t = g.D.Disk.state c.judge_all.new.disk in
    let horizon = c.args.horizon in
    let judge = c.in_ok-redo.judge in
    let judged : so_far_of s.now.seen ≡ Ok (so_far_in judge) = c.in_ok-redo.ensures.judged in
    let same = c.judge_all.ensures.only_reads.same in
    let stop = c.judge_all.ensures.only_reads.stop in
    let u = g.D.Disk.state c.raise.new.disk in
    let journal = c.in_ok-journal.journal in
    let log = c.raise.new.self in
    let raised = c.in_ok-journal.ensures.raised in
    let room = (c.requires.room judge.journal (ap journal_in judged)).0 in
    let incarnation = incarnation_is horizon judge s t u judged same journal log raised in
    let fits : journal.incarnation < 2 ^ 63 = omega (arith, incarnation, room) in
    let v = g.D.Disk.state c.extend.new.disk in
    let ready = begun horizon judge s t u judged same journal log raised in
    let may = may_begin horizon judge s t u judged same journal log raised fits in
    let damaged : c.extend.result ≡ Err (redo_fault.Damaged place) = search rules in
    absurd (never_damaged judge.is_opened true (kept.Opened (journal.incarnation + 1)) c.extend.result c.extend.new.self v place damaged (c.extend.ensures judge.is_opened true ready may).goes_on)

pub returns-clause-added : goal.returns-clause-added
returns-clause-added g c =
    let s = g.D.Disk.state c.args.disk.now in
    let t = g.D.Disk.state c.judge_all.new.disk in
    let horizon = c.args.horizon in
    let judge = c.in_ok-redo.judge in
    let judged : so_far_of s.now.seen ≡ Ok (so_far_in judge) = c.in_ok-redo.ensures.judged in
    let same = c.judge_all.ensures.only_reads.same in
    let stop = c.judge_all.ensures.only_reads.stop in
    let u = g.D.Disk.state c.raise.new.disk in
    let journal = c.in_ok-journal.journal in
    let log = c.raise.new.self in
    let raised = c.in_ok-journal.ensures.raised in
    let room = (c.requires.room judge.journal (ap journal_in judged)).0 in
    let incarnation = incarnation_is horizon judge s t u judged same journal log raised in
    let fits : journal.incarnation < 2 ^ 63 = omega (arith, incarnation, room) in
    let v = g.D.Disk.state c.extend.new.disk in
    let ready = begun horizon judge s t u judged same journal log raised in
    let may = may_begin horizon judge s t u judged same journal log raised fits in
    has_both horizon judge s t u judged same journal log raised v (c.in_ok-extend.ensures judge.is_opened true ready may).added

pub returns-clause-opened : goal.returns-clause-opened
returns-clause-opened g c =
    let s = g.D.Disk.state c.args.disk.now in
    let t = g.D.Disk.state c.judge_all.new.disk in
    let horizon = c.args.horizon in
    let judge = c.in_ok-redo.judge in
    let judged : so_far_of s.now.seen ≡ Ok (so_far_in judge) = c.in_ok-redo.ensures.judged in
    let same = c.judge_all.ensures.only_reads.same in
    let stop = c.judge_all.ensures.only_reads.stop in
    let u = g.D.Disk.state c.raise.new.disk in
    let journal = c.in_ok-journal.journal in
    let log = c.raise.new.self in
    let raised = c.in_ok-journal.ensures.raised in
    let room = (c.requires.room judge.journal (ap journal_in judged)).0 in
    let incarnation = incarnation_is horizon judge s t u judged same journal log raised in
    let fits : journal.incarnation < 2 ^ 63 = omega (arith, incarnation, room) in
    let v = g.D.Disk.state c.extend.new.disk in
    let ready = begun horizon judge s t u judged same journal log raised in
    let may = may_begin horizon judge s t u judged same journal log raised fits in
    opens_with horizon judge s t u judged same journal log raised

pub returns-clause-journal : goal.returns-clause-journal
returns-clause-journal g c =
    let s = g.D.Disk.state c.args.disk.now in
    let t = g.D.Disk.state c.judge_all.new.disk in
    let horizon = c.args.horizon in
    let judge = c.in_ok-redo.judge in
    let judged : so_far_of s.now.seen ≡ Ok (so_far_in judge) = c.in_ok-redo.ensures.judged in
    let same = c.judge_all.ensures.only_reads.same in
    let stop = c.judge_all.ensures.only_reads.stop in
    let u = g.D.Disk.state c.raise.new.disk in
    let journal = c.in_ok-journal.journal in
    let log = c.raise.new.self in
    let raised = c.in_ok-journal.ensures.raised in
    let room = (c.requires.room judge.journal (ap journal_in judged)).0 in
    let incarnation = incarnation_is horizon judge s t u judged same journal log raised in
    let fits : journal.incarnation < 2 ^ 63 = omega (arith, incarnation, room) in
    let v = g.D.Disk.state c.extend.new.disk in
    let ready = begun horizon judge s t u judged same journal log raised in
    let may = may_begin horizon judge s t u judged same journal log raised fits in
    journal_then horizon judge s t u judged same journal log raised v (c.in_ok-extend.ensures judge.is_opened true ready may).added

pub returns-clause-ready : goal.returns-clause-ready
returns-clause-ready g c =
    let s = g.D.Disk.state c.args.disk.now in
    let t = g.D.Disk.state c.judge_all.new.disk in
    let horizon = c.args.horizon in
    let judge = c.in_ok-redo.judge in
    let judged : so_far_of s.now.seen ≡ Ok (so_far_in judge) = c.in_ok-redo.ensures.judged in
    let same = c.judge_all.ensures.only_reads.same in
    let stop = c.judge_all.ensures.only_reads.stop in
    let u = g.D.Disk.state c.raise.new.disk in
    let journal = c.in_ok-journal.journal in
    let log = c.raise.new.self in
    let raised = c.in_ok-journal.ensures.raised in
    let room = (c.requires.room judge.journal (ap journal_in judged)).0 in
    let incarnation = incarnation_is horizon judge s t u judged same journal log raised in
    let fits : journal.incarnation < 2 ^ 63 = omega (arith, incarnation, room) in
    let v = g.D.Disk.state c.extend.new.disk in
    let ready = begun horizon judge s t u judged same journal log raised in
    let may = may_begin horizon judge s t u judged same journal log raised fits in
    ready_then judge.is_opened c.extend.new.self v (c.in_ok-extend.ensures judge.is_opened true ready may).goes_on

pub returns-clause-any_moment : goal.returns-clause-any_moment
returns-clause-any_moment g c =
    let s = g.D.Disk.state c.args.disk.now in
    let t = g.D.Disk.state c.judge_all.new.disk in
    let horizon = c.args.horizon in
    let judge = c.in_ok-redo.judge in
    let judged : so_far_of s.now.seen ≡ Ok (so_far_in judge) = c.in_ok-redo.ensures.judged in
    let same = c.judge_all.ensures.only_reads.same in
    let stop = c.judge_all.ensures.only_reads.stop in
    let u = g.D.Disk.state c.raise.new.disk in
    let journal = c.in_ok-journal.journal in
    let log = c.raise.new.self in
    let raised = c.in_ok-journal.ensures.raised in
    let room = (c.requires.room judge.journal (ap journal_in judged)).0 in
    let incarnation = incarnation_is horizon judge s t u judged same journal log raised in
    let fits : journal.incarnation < 2 ^ 63 = omega (arith, incarnation, room) in
    let v = g.D.Disk.state c.extend.new.disk in
    let ready = begun horizon judge s t u judged same journal log raised in
    let may = may_begin horizon judge s t u judged same journal log raised fits in
    ends_second horizon judge s t u judged same journal log raised v c.raise.ensures.any_moment (c.extend.ensures judge.is_opened true ready may).any_moment

pub returns-clause-stop : goal.returns-clause-stop
returns-clause-stop g c =
    let s = g.D.Disk.state c.args.disk.now in
    let t = g.D.Disk.state c.judge_all.new.disk in
    let horizon = c.args.horizon in
    let judge = c.in_ok-redo.judge in
    let judged : so_far_of s.now.seen ≡ Ok (so_far_in judge) = c.in_ok-redo.ensures.judged in
    let same = c.judge_all.ensures.only_reads.same in
    let stop = c.judge_all.ensures.only_reads.stop in
    let u = g.D.Disk.state c.raise.new.disk in
    let journal = c.in_ok-journal.journal in
    let log = c.raise.new.self in
    let raised = c.in_ok-journal.ensures.raised in
    let room = (c.requires.room judge.journal (ap journal_in judged)).0 in
    let incarnation = incarnation_is horizon judge s t u judged same journal log raised in
    let fits : journal.incarnation < 2 ^ 63 = omega (arith, incarnation, room) in
    let v = g.D.Disk.state c.extend.new.disk in
    let ready = begun horizon judge s t u judged same journal log raised in
    let may = may_begin horizon judge s t u judged same journal log raised fits in
    lowers_both horizon judge s t u judged same journal log raised v stop c.in_ok-journal.ensures.stop (c.in_ok-extend.ensures judge.is_opened true ready may).stop

pub returns-clause-cause : goal.returns-clause-cause
returns-clause-cause g c =
    let s = g.D.Disk.state c.args.disk.now in
    let t = g.D.Disk.state c.judge_all.new.disk in
    let horizon = c.args.horizon in
    let judge = c.in_ok-redo.judge in
    let judged : so_far_of s.now.seen ≡ Ok (so_far_in judge) = c.in_ok-redo.ensures.judged in
    let same = c.judge_all.ensures.only_reads.same in
    let stop = c.judge_all.ensures.only_reads.stop in
    let u = g.D.Disk.state c.raise.new.disk in
    let journal = c.in_ok-journal.journal in
    let log = c.raise.new.self in
    let raised = c.in_ok-journal.ensures.raised in
    let room = (c.requires.room judge.journal (ap journal_in judged)).0 in
    let incarnation = incarnation_is horizon judge s t u judged same journal log raised in
    let fits : journal.incarnation < 2 ^ 63 = omega (arith, incarnation, room) in
    let v = g.D.Disk.state c.extend.new.disk in
    let ready = begun horizon judge s t u judged same journal log raised in
    let may = may_begin horizon judge s t u judged same journal log raised fits in
    no_fault_then _ _ s v (cause_then _ _ s t v c.in_ok-redo.ensures.only_reads.cause (cause_then journal _ t u v c.in_ok-journal.ensures.cause (c.in_ok-extend.ensures judge.is_opened true ready may).cause))
