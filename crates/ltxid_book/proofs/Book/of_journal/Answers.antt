use Rattle.std.proofs.Common.{◌≡◌, ◌+◌, List, [], ◌∷◌, ◌++◌, map, take, get_or, length, sym, ap, ◌∙◌, arith}
use Rattle.std.proofs.lemmas.List.{take_more, map_push, length-map, length-take-le}
use Rattle.svc_values.specs.declared.entry.Entry.{Entry}
use Rattle.svc_values.specs.declared.entry.Ltxid.{Ltxid}
use Rattle.ltxid_book.specs.meaning.Sessions.{Sessions}
use Rattle.ltxid_book.specs.meaning.Journal.{Committed, committed_of, book_of}
use Rattle.ltxid_book.specs.InnerMaking.{counted, marked}
use Rattle.ltxid_book.proofs.Making.{counted_on, marked_on, next_few}
use Rattle.ltxid_book.proofs.Book.of_journal.Goals as goal

abbrev no_ltxid : Ltxid
no_ltxid = record { incarnation = 0; session = 0; number = 0 }

pub count-requires : goal.count-requires
count-requires c =
    let x = c.entry-item.result.ltxid in
    let entries = c.args.entries.now in
    let k = c.loop-entry.entry-index in
    let done : List Committed = map committed_of (take k entries) in
    let few = next_few c.args.horizon done x.incarnation x.session in
    let same = ap (λ (s : Sessions). (s.state x.incarnation x.session).next) c.loop-entry.invariant in
    let long : length done ≡ k = length-map (take k entries) committed_of ∙ length-take-le k entries (omega (arith, c.loop-entry-test.true)) in
    omega (arith, few, same, long, c.loop-entry-test.true)

pub loop-entry-preserved : goal.loop-entry-preserved
loop-entry-preserved c =
    let entries = c.args.entries.now in
    let k = c.loop-entry.entry-index in
    let entry = c.entry-item.result in
    let done : List Committed = map committed_of (take k entries) in
    let more : map committed_of (take (k + 1) entries) ≡ done ++ committed_of entry ∷ [] =
    ap (map committed_of) (take_more entries k entry c.loop-entry-test.true ∙ ap (λ (e : Entry). take k entries ++ e ∷ []) (sym c.entry-item.is)) ∙ map_push committed_of (take k entries) entry in
    c.in_ok-count.ensures
    ∙ ap (λ (s : Sessions). counted s (committed_of entry)) c.loop-entry.invariant
    ∙ counted_on c.args.horizon done (committed_of entry)
    ∙ ap (λ (l : List Committed). book_of c.args.horizon l []) (sym more)

pub loop-x-preserved : goal.loop-x-preserved
loop-x-preserved c =
    let blocked = c.args.blocked.now in
    let commits : List Committed = map committed_of c.args.entries.now in
    let k = c.loop-x.x-index in
    let done = take k blocked in
    c.in_ok-mark.ensures
    ∙ ap (λ (s : Sessions). marked s (get_or blocked k no_ltxid)) c.loop-x.invariant
    ∙ marked_on c.args.horizon commits done (get_or blocked k no_ltxid)
    ∙ ap (λ (l : List Ltxid). book_of c.args.horizon commits l) (sym (take_more blocked k no_ltxid c.loop-x-test.true))
