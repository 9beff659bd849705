-- With which reservations the store may have stopped, of draws one behind the other.
use Rattle.std.proofs.Common.{◌≡◌, ◌≢◌, ◌∙◌, ◌⊎◌, inl, inr, ◌+◌, ◌≤◌, ℕ, ℤ, zero, suc, List, [], ◌∷◌, ◌++◌, length, take, refl, sym, ap, subst, arith, append_assoc, append-nil, length-append}
use Rattle.std.specs.Prelude.{Some}
use Rattle.svc_values.specs.declared.draw.Draw.{Draw}
use Rattle.mutable_values.specs.declared.source.Drawn.TheVariants as drawn
use Rattle.mutable_values.specs.Sources.{Opening, draw_of, reserved_to}
use Rattle.commit_log.specs.declared.journal.Journal.{Journal}
use Rattle.commit_log.specs.declared.journal.Reservation.{Reservation}
use Rattle.stmt_meaning.specs.Asked.{kind_drawn}
use Rattle.server_model.specs.Draws.{DrawsAll, BlockLost, BlockStands}
use Rattle.server_session.specs.Dealing.{AtDesk, HaltsAtFront, HasDealt, HasHaltedAt, reservation_of, with_reserved}
use Rattle.server_session.specs.Fits.{IsSourceOf}
use Rattle.server_session.proofs.Reserving.{source_told}

pub some_there : {A : Type 0} (one : A) (more : List A) → one ∷ more ≢ []
some_there one more none = let no : ⊥ = cc in no

-- ---- a source beside a journal with reservations more

-- with none
pub source_none : (opening : Opening) (journal : Journal) → IsSourceOf opening journal → IsSourceOf opening (with_reserved journal [])
source_none opening journal is = subst (λ (l : List Reservation). IsSourceOf opening (record journal { reserved = l })) (sym (append-nil journal.reserved)) is

-- with some, and then others
pub source_behind : (opening : Opening) (journal : Journal) (first more : List Reservation) → IsSourceOf opening (with_reserved (with_reserved journal first) more) → IsSourceOf opening (with_reserved journal (first ++ more))
source_behind opening journal first more is = subst (λ (l : List Reservation). IsSourceOf opening (record journal { reserved = l })) (append_assoc journal.reserved first more) is

-- ---- so many of two lists: some of the first, or all of it and some of the second

abbrev pub TakenOf : {A : Type 0} → List A → List A → ℕ → Type 0
TakenOf a b count = ((a ≢ []) × ((count ≤ length a) × (take count (a ++ b) ≡ take count a))) ⊎ ((n : ℕ) × ((count ≡ length a + n) × (take count (a ++ b) ≡ a ++ take n b)))

pub split_take : {A : Type 0} (a b : List A) (count : ℕ) → TakenOf a b count
split_take [] b count = inr (count, (omega arith, refl))
split_take (one ∷ a) b zero = inl (some_there one a, (omega arith, refl))
split_take {A} (one ∷ a) b (suc count) = by (split_take a b count)
  where
    by : TakenOf a b count → TakenOf (one ∷ a) b (suc count)
    by (inl few) = inl (some_there one a, (omega (arith, few.1.0), ap (λ (l : List A). one ∷ l) few.1.1))
    by (inr more) = inr (more.0, (omega (arith, more.1.0), ap (λ (l : List A). one ∷ l) more.1.1))

-- ---- draws behind it, and draws before it

pub wider : (now : ℕ) (a : AtDesk) (given more : List Draw) (stored : List Reservation) → HaltsAtFront now a given stored → HaltsAtFront now a (given ++ more) stored
wider now a given more stored h = record {
  front = h.front;
  next = h.next;
  back = h.back ++ more;
  split = ap (λ (l : List Draw). l ++ more) h.split ∙ append_assoc h.front (h.next ∷ h.back) more;
  between = h.between;
  left = h.left;
  draws = h.draws;
  opening = h.opening;
  halts = h.halts;
  source = h.source;
}

abbrev pub Moves : AtDesk → List Reservation → AtDesk → Type 0
Moves a first b = (journal : Journal) → IsSourceOf a.opening journal → IsSourceOf b.opening (with_reserved journal first)

draws_behind : (now : ℕ) (given more : List Draw) (before between after : Opening) (kept rest left : List Draw) → DrawsAll now before kept given between rest → DrawsAll now between rest more after left → DrawsAll now before kept (given ++ more) after left
draws_behind now [] more before between after kept rest left none on =
    subst (λ (o : Opening). DrawsAll now o kept more after left) none.0 (subst (λ (l : List Draw). DrawsAll now between l more after left) none.1 on)
draws_behind now (one ∷ given) more before between after kept rest left d on = (d.0, d.1, (d.2.0, draws_behind now given more d.0 between after d.1 rest left d.2.1 on))

pub behind : (now : ℕ) (a b : AtDesk) (given more : List Draw) (first stored : List Reservation) → DrawsAll now a.opening a.left given b.opening b.left → Moves a first b → HaltsAtFront now b more stored
    → HaltsAtFront now a (given ++ more) (first ++ stored)
behind now a b given more first stored drawn moved h = record {
  front = given ++ h.front;
  next = h.next;
  back = h.back;
  split = ap (λ (l : List Draw). given ++ l) h.split ∙ sym (append_assoc given h.front (h.next ∷ h.back));
  between = h.between;
  left = h.left;
  draws = draws_behind now given h.front a.opening b.opening h.between a.left b.left h.left drawn h.draws;
  opening = h.opening;
  halts = h.halts;
  source = λ journal is. source_behind h.opening journal first stored (h.source (with_reserved journal first) (moved journal is));
}

-- ---- one draw, and then others

abbrev pub AtFronts : ℕ → AtDesk → List Draw → List Reservation → Type 0
AtFronts now a given all = (count : ℕ) → count ≤ length all → all ≢ [] → HaltsAtFront now a given (take count all)

pub halts_then : (now : ℕ) (a b : AtDesk) (given : Draw) (more : List Draw) (first second : List Reservation) → DrawsAll now a.opening a.left (given ∷ []) b.opening b.left → Moves a first b
    → AtFronts now a (given ∷ []) first → AtFronts now b more second → AtFronts now a (given ∷ more) (first ++ second)
halts_then now a b given more first [] d moved here there count few some =
    subst (λ (l : List Reservation). HaltsAtFront now a (given ∷ more) (take count l)) (sym (append-nil first))
    (wider now a (given ∷ []) more (take count first) (here count (omega (arith, few, length-append first [])) (subst (λ (l : List Reservation). l ≢ []) (append-nil first) some)))
halts_then now a b given more first (other ∷ second) d moved here there count few some = by (split_take first (other ∷ second) count)
  where
    by : TakenOf first (other ∷ second) count → HaltsAtFront now a (given ∷ more) (take count (first ++ other ∷ second))
    by (inl within) = subst (λ (l : List Reservation). HaltsAtFront now a (given ∷ more) l) (sym within.1.1) (wider now a (given ∷ []) more (take count first) (here count within.1.0 within.0))
    by (inr on) =
        subst (λ (l : List Reservation). HaltsAtFront now a (given ∷ more) l) (sym on.1.1)
        (behind now a b (given ∷ []) more first (take on.0 (other ∷ second)) d moved (there on.0 (omega (arith, few, on.1.0, length-append first (other ∷ second))) (some_there other second)))

-- ---- a draw that asks for a reservation

module _ (now : ℕ) (desk : AtDesk) (next : Draw) (name : List ℕ) (upto : ℤ) (wanted : draw_of desk.opening desk.left (kind_drawn next) now ≡ Some (record { answer = drawn.Reserve name upto; opening = desk.opening; kept = desk.left })) where
  -- it was lost, or it stands
  pub halts_first : (back : List Draw) (count : ℕ) → count ≤ 1 → HaltsAtFront now desk (next ∷ back) (take count (reservation_of name upto ∷ []))
  halts_first back zero few = record {
    front = [];
    next = next;
    back = back;
    split = refl;
    between = desk.opening;
    left = desk.left;
    draws = (refl, refl);
    opening = desk.opening;
    halts = BlockLost name upto wanted;
    source = λ journal is. source_none desk.opening journal is;
  }
  halts_first back (suc zero) few = record {
    front = [];
    next = next;
    back = back;
    split = refl;
    between = desk.opening;
    left = desk.left;
    draws = (refl, refl);
    opening = reserved_to desk.opening name upto;
    halts = BlockStands name upto wanted;
    source = λ journal is. source_told desk.opening name upto journal is;
  }
  halts_first back (suc (suc count)) few = absurd (omega (arith, few))

-- a run of draws that was stopped in the next one
pub halts_last : (now : ℕ) (before between after : AtDesk) (given more : List Draw) (next : Draw) (dealt : HasDealt now before given between) (at : HasHaltedAt now between (kind_drawn next) after) (count : ℕ) → count ≤ length dealt.reservations + 1
    → HaltsAtFront now before (given ++ next ∷ more) (take count (dealt.reservations ++ reservation_of at.name at.upto ∷ []))
halts_last now before between after given more next dealt at count few = by (split_take dealt.reservations (reservation_of at.name at.upto ∷ []) count)
  where
    by : TakenOf dealt.reservations (reservation_of at.name at.upto ∷ []) count → HaltsAtFront now before (given ++ next ∷ more) (take count (dealt.reservations ++ reservation_of at.name at.upto ∷ []))
    by (inl within) =
        subst (λ (l : List Reservation). HaltsAtFront now before (given ++ next ∷ more) l) (sym within.1.1) (wider now before given (next ∷ more) (take count dealt.reservations) (dealt.halts count within.1.0 within.0))
    by (inr on) =
        subst (λ (l : List Reservation). HaltsAtFront now before (given ++ next ∷ more) l) (sym on.1.1)
        (behind now before between given (next ∷ more) dealt.reservations (take on.0 (reservation_of at.name at.upto ∷ [])) dealt.draws dealt.moved (halts_first now between next at.name at.upto at.wanted more on.0 (omega (arith, few, on.1.0))))
