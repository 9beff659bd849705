-- What a served call's deed has to meet, but for its draws: it uses them, its answers are the
-- meaning's with the verdict, it commits only under a free identifier, and a commit stores the
-- entry that comes next.
use Rattle.std.specs.Prelude.{◌≡◌, ◌&&◌, ◌||◌, ℕ, zero, suc, Bool, true, false, not, List, [], ◌∷◌, Option, Some, None, Contains, if◌then◌else◌}
use Rattle.std.specs.List.{last_or}
use Rattle.std.specs.Option.{option_map_or}
use Rattle.std.specs.Cmp.Lexicographic.{pointwise_decides}
use Rattle.std.specs.List.{AllByRecursion}
use Rattle.std.proofs.Common.{refl, sym, ◌∙◌, ap, subst, arith}
use Rattle.std.proofs.lemmas.List.Elements.{recursion_from_All}
use Rattle.svc_values.specs.declared.draw.Draw.{Draw}
use Rattle.svc_values.specs.declared.call.Call.{Call}
use Rattle.svc_values.specs.declared.answer.Answer.{Answer}
use Rattle.svc_values.specs.declared.answer.Answer.TheVariants as answer
use Rattle.svc_values.specs.declared.entry.Entry.{Entry}
use Rattle.svc_values.specs.meaning.Calls.{is_lone_commit}
use Rattle.svc_values.specs.meaning.Endings.{is_committed, is_conflict, ends_committed, ends_conflict}
use Rattle.svc_values.specs.meaning.SettingsList.{same_settings}
use Rattle.svc_values.specs.SameLaws.{same_settings_equiv, same_answers_decide, same_rows_decide, same_piece_decides, same_bool_decides}
use Rattle.svc_values.specs.declared.tables.PlainRow.{PlainRow}
use Rattle.svc_values.specs.meaning.Tables.{rows_at}
use Rattle.stmt_meaning.specs.meaning.Meaning.{Meant}
use Rattle.svc_values.specs.meaning.Same.{same_answers, same_rows}
use Rattle.stmt_meaning.specs.meaning.SerialTest.{is_nil}
use Rattle.svc_values.specs.meaning.Identifiers.{same_ltxid, session_of}
use Rattle.ltxid_book.specs.meaning.Journal.{is_blocked}
use Rattle.server_model.specs.meaning.Base.{Base}
use Rattle.server_model.specs.Core.{Core, committed}
use Rattle.server_model.specs.Sessions.{Begun, Sess, with_work, entry_of}
use Rattle.stmt_meaning.specs.meaning.Reads.{Read}
use Rattle.stmt_meaning.specs.Reads.{HasChanged, ReadsStand}
use Rattle.server_model.specs.Serve.{with_last}
use Rattle.server_model.specs.meaning.Walk.{Walk, Performed, Deed, Nothing, Meaningless, Ran, with_call, next_of, ends, is_ending}
use Rattle.server_model.specs.meaning.Legal.{differs, verdict, ending_with, answers_hold, is_free, is_entry_of, is_first_entry, stores}
use Rattle.server_model.proofs.walks.Following.{ltxid-self}
use Rattle.server_model.proofs.walks.Deeds.{At, performed, next, grows}

abbrev pub deed_but : Walk → Deed → Bool
deed_but here Nothing = true
deed_but here Meaningless = false
deed_but here (Ran performed meant) = is_nil meant.rest && (answers_hold here performed meant && (is_free here performed && stores here performed meant))

-- ---- answers

with-ending : (answers : List Answer) (last : Answer) → with_last answers last ≡ ending_with answers last
with-ending [] last = refl
with-ending (first ∷ []) last = refl
with-ending (first ∷ next ∷ more) last = ap (λ l. first ∷ l) (with-ending (next ∷ more) last)

committed-is : (a : Answer) → is_committed a ≡ true → answer.Committed ≡ a
committed-is (answer.Done n) is = cc
committed-is (answer.Rows rows) is = cc
committed-is (answer.Number n) is = cc
committed-is (answer.Refused fault) is = cc
committed-is answer.Committed is = refl
committed-is answer.Conflict is = cc
committed-is answer.RolledBack is = cc
committed-is answer.CommitInReplay is = cc

ending-same : (answers : List Answer) → ends_committed answers ≡ true → ending_with answers answer.Committed ≡ answers
ending-same [] is = refl
ending-same (first ∷ []) is = ap (λ a. a ∷ []) (committed-is first is)
ending-same (first ∷ next ∷ more) is = ap (λ l. first ∷ l) (ending-same (next ∷ more) is)

answers-self : (a b : List Answer) → a ≡ b → same_answers a b ≡ true
answers-self a b same = (same_answers_decide a b).1 same

-- ---- places that were read

bool-cases : (b : Bool) → (b ≡ true → ⊥) → b ≡ false
bool-cases true never = absurd (never refl)
bool-cases false never = refl

or-first : (a b : Bool) → a ≡ true → (a || b) ≡ true
or-first true b is = refl
or-first false b is = let none : ⊥ = cc in absurd none

or-second : (a b : Bool) → b ≡ true → (a || b) ≡ true
or-second true b is = refl
or-second false b is = is

neither : (a b : Bool) → a ≡ false → b ≡ false → (a || b) ≡ false
neither true b one other = let none : ⊥ = cc in absurd none
neither false b one other = other

pub differs-true : (reads : List Read) (now : List PlainRow) (read : Read) → Contains reads read → HasChanged now read → differs now reads ≡ true
differs-true [] now read (k, lt, e) changed = absurd (omega arith)
differs-true (first ∷ reads) now read (zero, lt, e) changed =
    let other : HasChanged now first = subst (HasChanged now) (sym e) changed in
    or-first (not (same_rows first.found (rows_at now first.at))) _ (ap not (bool-cases (same_rows first.found (rows_at now first.at)) (λ is. other (sym ((same_rows_decide first.found (rows_at now first.at)).0 is)))))
differs-true (first ∷ reads) now read (suc k, lt, e) changed = or-second (not (same_rows first.found (rows_at now first.at))) _ (differs-true reads now read (k, omega arith, e) changed)

differs-none : (reads : List Read) (now : List PlainRow) → AllByRecursion (λ read. rows_at now read.at ≡ read.found) reads → differs now reads ≡ false
differs-none [] now stand = refl
differs-none (read ∷ reads) now stand = neither (not (same_rows read.found (rows_at now read.at))) _ (ap not ((same_rows_decide read.found (rows_at now read.at)).1 (sym stand.0))) (differs-none reads now stand.1)

pub differs-false : (reads : List Read) (now : List PlainRow) → ReadsStand reads now → differs now reads ≡ false
differs-false reads now stand = differs-none reads now (recursion_from_All (λ read. rows_at now read.at ≡ read.found) reads stand)

-- ---- a call

conflict-last : (a : Answer) → is_ending a ≡ false → is_conflict a ≡ false
conflict-last (answer.Done n) is = refl
conflict-last (answer.Rows rows) is = refl
conflict-last (answer.Number n) is = refl
conflict-last (answer.Refused fault) is = refl
conflict-last answer.Committed is = refl
conflict-last answer.Conflict is = cc
conflict-last answer.RolledBack is = refl
conflict-last answer.CommitInReplay is = refl

no-conflict : (last : Option Answer) → option_map_or is_ending last false ≡ false → option_map_or is_conflict last false ≡ false
no-conflict None is = refl
no-conflict (Some a) is = conflict-last a is

both : (a b : Bool) → a ≡ true → b ≡ true → (a && b) ≡ true
both true b one other = other
both false b one other = let none : ⊥ = cc in absurd none

if-same : (b c : Bool) → c ≡ true → (if b then c else true) ≡ true
if-same true c is = is
if-same false c is = refl

module _ (base : Base) (core : Core) (here : Walk) (sess : Sess) (at : At base core here sess) (lives : sess.life ≡ Begun) (now : ℕ) (replay : Bool) (kept : List Draw) (called : Call) (draws : List Draw) (meant : Meant) (used : meant.rest ≡ []) where
  nil : is_nil meant.rest ≡ true
  nil = ap is_nil used

  -- a call that reaches no commit
  pub plain-right : ends_committed meant.answers ≡ false → is_free here (performed base core here sess at lives now replay kept called meant.answers draws meant) ≡ true
      → deed_but here (Ran (performed base core here sess at lives now replay kept called meant.answers draws meant) meant) ≡ true
  plain-right not free =
      let it = performed base core here sess at lives now replay kept called meant.answers draws meant in
      both (is_nil meant.rest) _ nil
      (both (answers_hold here it meant) _
      (answers-self meant.answers _ (sym (ap (λ b. if b then ending_with meant.answers (verdict replay (differs here.committed (with_call here it meant).reads)) else meant.answers) not)))
      (both (is_free here it) _ free (ap (λ b. if b then is_first_entry here it (with_call here it meant) here.left else true) not)))

  -- a commit that is reached and not stored
  pub ended-right : (last : Answer) → ends_committed meant.answers ≡ true → verdict replay (differs (committed core) (with_work sess (committed core) meant).reads) ≡ last → ends_committed (with_last meant.answers last) ≡ false
      → is_free here (performed base core here sess at lives now replay kept called (with_last meant.answers last) draws meant) ≡ true
      → deed_but here (Ran (performed base core here sess at lives now replay kept called (with_last meant.answers last) draws meant) meant) ≡ true
  ended-right last is judged not free =
      let answers = with_last meant.answers last in
      let it = performed base core here sess at lives now replay kept called answers draws meant in
      let reads : differs here.committed (with_call here it meant).reads ≡ differs (committed core) (with_work sess (committed core) meant).reads =
      (λ i. differs (at.committed i) (grows base core here sess at lives now replay kept called answers draws meant i).reads) in
      both (is_nil meant.rest) _ nil
      (both (answers_hold here it meant) _
      (answers-self answers _ (sym (ap (λ b. if b then ending_with meant.answers (verdict replay (differs here.committed (with_call here it meant).reads)) else meant.answers) is ∙ ap (λ d. ending_with meant.answers (verdict replay d)) reads ∙ ap (ending_with meant.answers) judged ∙ sym (with-ending meant.answers last))))
      (both (is_free here it) _ free (ap (λ b. if b then is_first_entry here it (with_call here it meant) here.left else true) not)))

  -- a commit that stores the entry that comes next
  pub stored-right : (rest : List Entry) → ends_committed meant.answers ≡ true → replay ≡ false → ReadsStand (with_work sess (committed core) meant).reads (committed core) → is_blocked here.blocked (next_of here (session_of sess.ltxid)) ≡ false
      → next_of here (session_of sess.ltxid) ≡ sess.ltxid → here.left ≡ entry_of (with_work sess (committed core) meant) called meant.answers draws ∷ rest
      → deed_but here (Ran (performed base core here sess at lives now replay kept called meant.answers draws meant) meant) ≡ true
  stored-right rest is unmarked stand free number left =
      let it = performed base core here sess at lives now replay kept called meant.answers draws meant in
      let entry : Entry = entry_of (with_work sess (committed core) meant) called meant.answers draws in
      let grown_so = grows base core here sess at lives now replay kept called meant.answers draws meant in
      let reads : differs here.committed (with_call here it meant).reads ≡ false =
      (λ i. differs (at.committed i) (grown_so i).reads) ∙ differs-false (with_work sess (committed core) meant).reads (committed core) stand in
      let settings : same_settings entry.settings sess.at_start ≡ true = same_settings_equiv.refl sess.at_start in
      let is_entry : is_entry_of here it (next base core here sess at lives now replay kept called meant.answers draws meant) entry ≡ true =
      both (same_ltxid entry.ltxid (next_of here (session_of sess.ltxid))) _ (ap (same_ltxid sess.ltxid) number ∙ ltxid-self sess.ltxid)
      (both _ _ ((pointwise_decides same_piece_decides entry.pieces entry.pieces).1 refl) (both _ _ settings ((same_bool_decides (is_lone_commit called) (is_lone_commit called)).1 refl))) in
      both (is_nil meant.rest) _ nil
      (both (answers_hold here it meant) _
      (answers-self meant.answers _ (sym (ap (λ b. if b then ending_with meant.answers (verdict replay (differs here.committed (with_call here it meant).reads)) else meant.answers) is ∙ (λ i. ending_with meant.answers (verdict (unmarked i) (reads i))) ∙ ending-same meant.answers is)))
      (both (is_free here it) _ (if-same (ends_committed meant.answers || ends_conflict meant.answers) (not (is_blocked here.blocked (next_of here (session_of sess.ltxid)))) (ap not free))
      (ap (λ b. if b then is_first_entry here it (with_call here it meant) here.left else true) is ∙ (λ i. is_first_entry here it (grown_so i) (left i)) ∙ is_entry)))

-- a call whose answers end no transaction is free
pub plain-free : (here : Walk) (it : Performed) → ends_committed it.answers ≡ false → ends it.answers ≡ false → is_free here it ≡ true
plain-free here it none over =
    ap (λ b. if b then not (is_blocked here.blocked (next_of here it.session)) else true) (neither (ends_committed it.answers) (ends_conflict it.answers) none (no-conflict (last_or None it.answers) over))

pub free-free : (here : Walk) (it : Performed) → is_blocked here.blocked (next_of here it.session) ≡ false → is_free here it ≡ true
free-free here it free = if-same (ends_committed it.answers || ends_conflict it.answers) (not (is_blocked here.blocked (next_of here it.session))) (ap not free)

replay-conflict : (before : Option Answer) (answers : List Answer) (last : Answer) → option_map_or is_conflict before false ≡ false → is_conflict last ≡ false → option_map_or is_conflict (last_or before (with_last answers last)) false ≡ false
replay-conflict before [] last none other = none
replay-conflict before (first ∷ []) last none other = other
replay-conflict before (first ∷ next ∷ more) last none other = replay-first first next more last other
  where
    replay-first : (first next : Answer) (more : List Answer) (last : Answer) → is_conflict last ≡ false → option_map_or is_conflict (last_or before (with_last (first ∷ next ∷ more) last)) false ≡ false
    replay-first first next [] last other = other
    replay-first first next (third ∷ more) last other = replay-first next third more last other

replay-committed : (before : Option Answer) (answers : List Answer) (last : Answer) → option_map_or is_committed before false ≡ false → is_committed last ≡ false → option_map_or is_committed (last_or before (with_last answers last)) false ≡ false
replay-committed before [] last none other = none
replay-committed before (first ∷ []) last none other = other
replay-committed before (first ∷ next ∷ more) last none other = replay-first first next more last other
  where
    replay-first : (first next : Answer) (more : List Answer) (last : Answer) → is_committed last ≡ false → option_map_or is_committed (last_or before (with_last (first ∷ next ∷ more) last)) false ≡ false
    replay-first first next [] last other = other
    replay-first first next (third ∷ more) last other = replay-first next third more last other

-- a commit with the mark may have a blocked identifier
pub conflict-free : (here : Walk) (it : Performed) (answers : List Answer) → it.answers ≡ with_last answers answer.CommitInReplay → is_free here it ≡ true
conflict-free here it answers same =
    ap (λ b. if b then not (is_blocked here.blocked (next_of here it.session)) else true)
    (neither (ends_committed it.answers) (ends_conflict it.answers) (ap ends_committed same ∙ replay-committed None answers answer.CommitInReplay refl refl) (ap ends_conflict same ∙ replay-conflict None answers answer.CommitInReplay refl refl))
