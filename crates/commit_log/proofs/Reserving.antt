-- Where the values of each sequence end.
use Rattle.std.proofs.Common.{◌≡◌, ℕ, ◌+◌, ◌<◌, ◌&&◌, Bool, true, false, ℤ, List, [], ◌∷◌, ◌++◌, length, map, take, drop, get_or, fold, refl, sym, ap, ◌∙◌, arith, append_assoc}
use Rattle.std.proofs.Math.ListN.{set}
use Rattle.std.proofs.Math.Seq.{get_or-append_seam, set-append_seam}
use Rattle.std.proofs.lemmas.List.{drop_more, take_more, map_push, length-map, length-take-le}
use Rattle.std.specs.Prelude.{IsTrue, if◌then◌else◌}
use Rattle.std.specs.List.{list_all}
use Rattle.std.specs.Str.{bytes_eq}
use Rattle.commit_log.specs.declared.base.Base.{Base}
use Rattle.commit_log.specs.declared.base.BaseSequence.{BaseSequence}
use Rattle.commit_log.specs.declared.journal.Reservation.{Reservation}
use Rattle.commit_log.specs.meaning.Bases.{is_base, is_sequence, is_table, table_name, sequence_name}
use Rattle.svc_values.specs.meaning.Names.{names_differ}
use Rattle.commit_log.specs.meaning.Rules.{end_of}

last_of_four : (a b c d : Bool) → (a && (b && (c && d))) ≡ true → d ≡ true
last_of_four true true true d e = e
last_of_four true true false d e = absurd cc
last_of_four true false c d e = absurd cc
last_of_four false b c d e = absurd cc

-- the sequences of a base begin as they may
pub sequences_begin : (base : Base) → is_base base ≡ true → IsTrue (list_all is_sequence base.sequences)
unfolding is_base
sequences_begin base is =
    last_of_four (names_differ (map table_name base.tables)) (names_differ (map sequence_name base.sequences)) (list_all is_table base.tables) (list_all is_sequence base.sequences) is

fold_last : (f : ℤ → Reservation → ℤ) (end : ℤ) (reservations : List Reservation) (reservation : Reservation) → fold f end (reservations ++ reservation ∷ []) ≡ f (fold f end reservations) reservation
fold_last f end [] reservation = refl
fold_last f end (first ∷ reservations) reservation = fold_last f (f end first) reservations reservation

-- after one more reservation
pub end_more : (reservations : List Reservation) (reservation : Reservation) (sequence : BaseSequence) → end_of (reservations ++ reservation ∷ []) sequence ≡ (if bytes_eq reservation.name sequence.name then reservation.upto else end_of reservations sequence)
end_more reservations reservation sequence = fold_last _ _ reservations reservation

-- one more item of a list that is mapped in place, otherwise than before
pub mapped_on : {X Y : Type 0} (old new : X → Y) (xs : List X) (ys : List Y) (i : ℕ) (x : X) (d y : Y)
    → i < length xs → x ≡ get_or xs i x → ys ≡ map new (take i xs) ++ map old (drop i xs) → (get_or ys i d ≡ old x → y ≡ new x)
    → set ys i y ≡ map new (take (i + 1) xs) ++ map old (drop (i + 1) xs)
mapped_on {X} {Y} old new xs ys i x d y within is before value =
    let first : List Y = map new (take i xs) in
    let last : List Y = map old (drop (i + 1) xs) in
    let here : drop i xs ≡ x ∷ drop (i + 1) xs = drop_more xs i x within ∙ ap (λ (r : X). r ∷ drop (i + 1) xs) (sym is) in
    let long : length first ≡ i = length-map (take i xs) new ∙ length-take-le i xs (omega (arith, within)) in
    let whole : ys ≡ first ++ old x ∷ last = before ∙ ap (λ (l : List X). first ++ map old l) here in
    let at : get_or ys i d ≡ old x = ap (λ (l : List Y). get_or l i d) whole ∙ ap (λ n. get_or (first ++ old x ∷ last) n d) (sym long) ∙ get_or-append_seam first (old x) last d in
    let done : set ys i y ≡ first ++ y ∷ last = ap (λ (l : List Y). set l i y) whole ∙ ap (λ n. set (first ++ old x ∷ last) n y) (sym long) ∙ set-append_seam first (old x) last y in
    let more : map new (take (i + 1) xs) ≡ first ++ new x ∷ [] = ap (map new) (take_more xs i x within ∙ ap (λ (r : X). take i xs ++ r ∷ []) (sym is)) ∙ map_push new (take i xs) x in
    done ∙ ap (λ (v : Y). first ++ v ∷ last) (value at) ∙ sym (append_assoc first (new x ∷ []) last) ∙ ap (λ (l : List Y). l ++ last) (sym more)
