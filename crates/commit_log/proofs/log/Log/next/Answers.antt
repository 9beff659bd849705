use Rattle.std.proofs.Common.{◌∷◌, ◌++◌, [], ℕ, Vec, Global, sym, ap, ◌∙◌, arith, rules}
use Rattle.redo_store.specs.Walk.{HasRead}
use Rattle.redo_store.proofs.Offered.{few_behind}
use Rattle.commit_log.specs.meaning.Journals.{whole_record}
use Rattle.commit_log.proofs.Misfits.{when_none, when_some}
use Rattle.commit_log.proofs.Steps.{so_far_by_records}
use Rattle.commit_log.proofs.Trailing.{came_of, never_damaged_there, read_on, records_there, walks_from}
use Rattle.commit_log.proofs.log.Log.next.Goals as goal

pub behind-walk-requires : goal.behind-walk-requires
behind-walk-requires g c =
    let trails = c.requires.trails in
    record { few = omega (arith, c.count.ensures, c.tail.ensures, trails.counted, few_behind _ trails.done (g.D.Disk.state c.args.disk.now).now.seen trails.stands) }

pub returns-in_err-payload-clause-whole : goal.returns-in_err-payload-clause-whole
returns-in_err-payload-clause-whole g c place is =
    let image = (g.D.Disk.state c.args.disk.now).now.seen in
    let trails = c.requires.trails in
    let read = walks_from c.tail.result c.count.result c.args.self.now image c.behind-walk.result trails.done c.behind-walk.ensures.read c.tail.ensures c.count.ensures trails.stands trails.counted in
    never_damaged_there image c.requires.last place c.requires.reads (c.next.ensures.damage place (search rules) trails.done read).0

pub known_record-requires : goal.known_record-requires
known_record-requires g c =
    let image = (g.D.Disk.state c.args.disk.now).now.seen in
    let trails = c.requires.trails in
    let read = walks_from c.tail.result c.count.result c.args.self.now image c.behind-walk.result trails.done c.behind-walk.ensures.read c.tail.ensures c.count.ensures trails.stands trails.counted in
    let over = when_some c.in_ok-payload.payload c.in-Some.payload (λ (payload : Vec ℕ Global). HasRead c.next.new.self (trails.done ++ payload.items ∷ []) image) c.in-Some.is (c.in_ok-payload.ensures.record trails.done read) in
    let there = records_there image c.requires.last c.requires.reads in
    let came = came_of c.requires.is_opened c.requires.has_horizon c.requires.journal trails.done c.in-Some.payload.items trails.judges _ image there.0 over.stands there.1 in
    (came.one, ap whole_record c.deref.ensures.value ∙ came.spells)

pub returns-in_ok-known_record-in-Some-clause-next : goal.returns-in_ok-known_record-in-Some-clause-next
returns-in_ok-known_record-in-Some-clause-next g c is_opened has_horizon journal trails =
    let image = (g.D.Disk.state c.args.disk.now).now.seen in
    let read = walks_from c.tail.result c.count.result c.args.self.now image c.behind-walk.result trails.done c.behind-walk.ensures.read c.tail.ensures c.count.ensures trails.stands trails.counted in
    let over = when_some c.in_ok-payload.payload c.in-Some.payload (λ (payload : Vec ℕ Global). HasRead c.next.new.self (trails.done ++ payload.items ∷ []) image) c.in-Some.is (c.in_ok-payload.ensures.record trails.done read) in
    read_on is_opened has_horizon journal c.args.self.now _ image trails c.next.new.self c.in-Some.payload.items c.in_ok-known_record-in-Some.field-0 c.requires.last c.requires.reads over c.finish-self.ensures.place c.finish-self.ensures.count
    (sym (ap whole_record c.deref.ensures.value) ∙ c.in_ok-known_record-in-Some.ensures.exact)

pub returns-in-None-clause-end : goal.returns-in-None-clause-end
returns-in-None-clause-end g c is_opened has_horizon journal trails =
    let image = (g.D.Disk.state c.args.disk.now).now.seen in
    let read = walks_from c.tail.result c.count.result c.args.self.now image c.behind-walk.result trails.done c.behind-walk.ensures.read c.tail.ensures c.count.ensures trails.stands trails.counted in
    let all = when_none c.in_ok-payload.payload _ c.in-None.is (c.in_ok-payload.ensures.end trails.done read) in
    so_far_by_records image trails.done all.0 ∙ trails.judges
