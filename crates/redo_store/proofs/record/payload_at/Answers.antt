use Rattle.std.proofs.Common.{◌≡◌, ◌<◌, ◌+◌, length, take, drop, sym, ◌∙◌, ap, arith, length-drop}
use Rattle.std.proofs.lemmas.List.{length-take-le}
use Rattle.disk_model.specs.Moment.{DiskMoment}
use Rattle.redo_store.specs.meaning.Records.{length_of}
use Rattle.redo_store.specs.Records.{length_bytes}
use Rattle.redo_store.proofs.Walking.{torn_record, torn_record_whole, record_is}
use Rattle.redo_store.proofs.record.payload_at.Goals as goal

pub returns-then-rest-le-HEAD-clause-damaged : goal.returns-then-rest-le-HEAD-clause-damaged
returns-then-rest-le-HEAD-clause-damaged g c at is =
    let same : at ≡ c.args.place = cc in
    let seen = (g.D.Disk.state c.args.disk.now).now.seen in
    let place = c.args.place in
    let within : place < length seen = omega (arith, c.size.ensures, c.if-rest-eq0.false) in
    let short : length (drop (place + 1) seen) < 9 + length_of (take 8 (drop (place + 1) seen)) = omega (arith, c.size.ensures, c.if-rest-le-HEAD.true, length-drop (place + 1) seen) in (
      same,
      torn_record place seen c.read.new.into within c.in_ok-read.ensures.bytes c.if-gate-ne-OPEN.false short,
      torn_record_whole place seen c.read.new.into within c.in_ok-read.ensures.bytes c.if-gate-ne-OPEN.false short,
    )

pub returns-then-count-rest-clause-damaged : goal.returns-then-count-rest-clause-damaged
returns-then-count-rest-clause-damaged g c at is =
    let same : at ≡ c.args.place = cc in
    let seen = (g.D.Disk.state c.args.disk.now).now.seen in
    let place = c.args.place in
    let spelled : c.read-2.new.into ≡ take 8 (drop (place + 1) seen) = c.in_ok-read-2.ensures.bytes ∙ ap (λ (m : DiskMoment). take 8 (drop (place + 1) m.seen)) c.read.ensures.only_reads.same.now in
    let says : c.length_in-count.result ≡ length_of (take 8 (drop (place + 1) seen)) = c.length_in-count.ensures.length ∙ ap length_of spelled in
    let within : place < length seen = omega (arith, c.size.ensures, c.if-rest-eq0.false) in
    let short : length (drop (place + 1) seen) < 9 + length_of (take 8 (drop (place + 1) seen)) = omega (arith, says, c.size.ensures, c.if-rest-le-HEAD.false, c.if-count-rest.true, length-drop (place + 1) seen) in (
      same,
      torn_record place seen c.read.new.into within c.in_ok-read.ensures.bytes c.if-gate-ne-OPEN.false short,
      torn_record_whole place seen c.read.new.into within c.in_ok-read.ensures.bytes c.if-gate-ne-OPEN.false short,
    )

pub returns-clause-found : goal.returns-clause-found
returns-clause-found g c =
    let seen = (g.D.Disk.state c.args.disk.now).now.seen in
    let place = c.args.place in
    let count = c.length_in-count.result in
    let payload = c.in_ok-payload.payload.items in
    let once = c.read.ensures.only_reads.same.now in
    let twice = c.read-2.ensures.only_reads.same.now ∙ once in
    let spelled : c.read-2.new.into ≡ take 8 (drop (place + 1) seen) = c.in_ok-read-2.ensures.bytes ∙ ap (λ (m : DiskMoment). take 8 (drop (place + 1) m.seen)) once in
    let read : payload ≡ take count (drop (place + 9) seen) = c.in_ok-payload.ensures.bytes ∙ ap (λ (m : DiskMoment). take count (drop (place + 9) m.seen)) twice in
    let room : place + 9 + count < length seen = omega (arith, c.size.ensures, c.if-rest-le-HEAD.false, c.if-count-rest.false) in
    let long : length payload ≡ count = ap length read ∙ length-take-le count (drop (place + 9) seen) (omega (arith, room, length-drop (place + 9) seen)) in
    let taken : payload ≡ take (length payload) (drop (place + 9) seen) = read ∙ ap (λ n. take n (drop (place + 9) seen)) (sym long) in
    let spells = ap length_bytes long ∙ c.length_in-count.ensures.spelling in
    record_is place seen c.read.new.into c.read-2.new.into payload c.in_ok-read.ensures.bytes c.if-gate-ne-OPEN.false spelled spells taken (omega (arith, long, room)) (omega (arith, long, room, g.met.D.Disk.bounded c.args.disk.now))
