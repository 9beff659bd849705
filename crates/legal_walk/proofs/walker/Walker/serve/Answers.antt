use Rattle.std.proofs.Common.{List, sym, ◌∙◌, subst}
use Rattle.std.specs.Prelude.{Option, IsTrue}
use Rattle.svc_values.specs.declared.answer.Answer.{Answer}
use Rattle.svc_values.specs.meaning.Fitting.{writes_fit}
use Rattle.table_store.specs.Stored.{Stored}
use Rattle.calls_again.specs.OnWay.{GoesBy, taken_with}
use Rattle.legal_walk.specs.Going.{GoesAt}
use Rattle.legal_walk.specs.declared.ongoing.Ongoing.{Ongoing}
use Rattle.server_model.specs.meaning.Walk.{transaction_in}
use Rattle.legal_walk.specs.Moving.{performed_as}
use Rattle.legal_walk.proofs.Served.{meant, answered, goes_after, serves, serves_undrawn, serves_wrong}
use Rattle.legal_walk.proofs.walker.Walker.serve.Goals as goal

pub run-requires : goal.run-requires
run-requires c =
    let walker = c.args.self.now in
    let session = c.args.performed.now.session in
    let walk = c.requires.1.0 in
    let at = subst (λ (one : Ongoing). GoesAt walker.service (transaction_in walk.sessions session) one) (sym c.take-ongoing.ensures.ongoing) (c.requires.1.1.sessions session) in
    record { fits = at.goes.fits; holds = at.holds }

pub is_right-requires : goal.is_right-requires
is_right-requires c =
    let old = c.args.self.now in
    let p = performed_as c.args.performed.now in
    let one = c.take-ongoing.result in
    let ran = c.run.new.self in
    let goes = subst (λ (told : Option (List Answer)). GoesBy old.service.tables one.going (taken_with old.service.tables old.service.names one.going p.called p.draws) told ran.going) c.in-Some.is c.in_ok-told.ensures.goes in
    (goes_after old p one ran c.note.new.self c.in-Some.answers c.take-ongoing.ensures.ongoing goes c.in_ok-told.ensures.since c.in_ok-note.ensures c.requires.0 c.requires.1.0 c.requires.1.1).holds

pub settle-requires : goal.settle-requires
settle-requires c =
    let old = c.args.self.now in
    let p = performed_as c.args.performed.now in
    let one = c.take-ongoing.result in
    let ran = c.run.new.self in
    let goes = subst (λ (told : Option (List Answer)). GoesBy old.service.tables one.going (taken_with old.service.tables old.service.names one.going p.called p.draws) told ran.going) c.in-Some.is c.in_ok-told.ensures.goes in
    subst (λ (tables : Stored). IsTrue (writes_fit tables.schemas c.note.new.self.going.writes)) (sym c.in_ok-draw.ensures.tables)
    (goes_after old p one ran c.note.new.self c.in-Some.answers c.take-ongoing.ensures.ongoing goes c.in_ok-told.ensures.since c.in_ok-note.ensures c.requires.0 c.requires.1.0 c.requires.1.1).goes.fits

pub returns-then-not-branch : goal.returns-then-not-branch
returns-then-not-branch c = λ base walk walks.
    let old = c.args.self.now in
    let p = performed_as c.args.performed.now in
    let one = c.take-ongoing.result in
    let found = c.take-ongoing.ensures.ongoing in
    let ran = c.run.new.self in
    let noted = c.note.new.self in
    let answers = c.in-Some.answers in
    let goes = subst (λ (told : Option (List Answer)). GoesBy old.service.tables one.going (taken_with old.service.tables old.service.names one.going p.called p.draws) told ran.going) c.in-Some.is c.in_ok-told.ensures.goes in
    let since = c.in_ok-told.ensures.since in
    let is_noted = c.in_ok-note.ensures in
    let right_is = c.in_ok-is_right.ensures base walk (meant old p one ran noted answers found goes since is_noted base walk walks) walks.beside
    (answered old p one ran noted answers found goes since is_noted base walk walks) (goes_after old p one ran noted answers found goes since is_noted base walk walks).goes in
    serves_wrong old p one ran noted answers found goes since is_noted base walk walks (record old { sessions = c.take-ongoing.new.self }) (sym c.if-not-branch.true ∙ right_is)

pub returns-then-not-branch-2 : goal.returns-then-not-branch-2
returns-then-not-branch-2 c = λ base walk walks.
    let old = c.args.self.now in
    let p = performed_as c.args.performed.now in
    let one = c.take-ongoing.result in
    let found = c.take-ongoing.ensures.ongoing in
    let ran = c.run.new.self in
    let noted = c.note.new.self in
    let answers = c.in-Some.answers in
    let goes = subst (λ (told : Option (List Answer)). GoesBy old.service.tables one.going (taken_with old.service.tables old.service.names one.going p.called p.draws) told ran.going) c.in-Some.is c.in_ok-told.ensures.goes in
    let since = c.in_ok-told.ensures.since in
    let is_noted = c.in_ok-note.ensures in
    let right_is = c.in_ok-is_right.ensures base walk (meant old p one ran noted answers found goes since is_noted base walk walks) walks.beside
    (answered old p one ran noted answers found goes since is_noted base walk walks) (goes_after old p one ran noted answers found goes since is_noted base walk walks).goes in
    serves_undrawn old p one ran noted answers found goes since is_noted base walk walks (sym c.if-not-branch.false ∙ right_is) (record old { service = c.draw.new.self; sessions = c.take-ongoing.new.self })
    (sym c.if-not-branch-2.true ∙ c.in_ok-draw.ensures.holds base walk walks.beside)

pub returns : goal.returns
returns c = λ base walk walks.
    let old = c.args.self.now in
    let p = performed_as c.args.performed.now in
    let one = c.take-ongoing.result in
    let found = c.take-ongoing.ensures.ongoing in
    let ran = c.run.new.self in
    let noted = c.note.new.self in
    let answers = c.in-Some.answers in
    let goes = subst (λ (told : Option (List Answer)). GoesBy old.service.tables one.going (taken_with old.service.tables old.service.names one.going p.called p.draws) told ran.going) c.in-Some.is c.in_ok-told.ensures.goes in
    let since = c.in_ok-told.ensures.since in
    let is_noted = c.in_ok-note.ensures in
    let right_is = c.in_ok-is_right.ensures base walk (meant old p one ran noted answers found goes since is_noted base walk walks) walks.beside
    (answered old p one ran noted answers found goes since is_noted base walk walks) (goes_after old p one ran noted answers found goes since is_noted base walk walks).goes in
    serves old p one ran noted answers found goes since is_noted base walk walks (sym c.if-not-branch.false ∙ right_is) (sym c.if-not-branch-2.false ∙ c.in_ok-draw.ensures.holds base walk walks.beside)
    c.take-ongoing.new.self c.put.new.self c.draw.new.self c.settle.new.self c.in_ok-ongoing.ongoing c.take-ongoing.ensures.others (c.in_ok-draw.ensures.moves base walk walks.beside) c.in_ok-draw.ensures.tables
    c.in_ok-draw.ensures.changes c.in_ok-ongoing.ensures.moves c.in_ok-ongoing.ensures.after c.in_ok-put.ensures
