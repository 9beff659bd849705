-- The tokens of parts that are written one after the other.
use Rattle.std.proofs.Common.{◌≡◌, ℕ, List, [], ◌∷◌, ◌++◌, Bool, true, false, codes, map, Result, Ok, Err, OnOk, refl, ap, ◌∙◌, append_assoc}
use Rattle.std.specs.Prelude.{⊤, Option, Some, None, if◌then◌else◌}
use Rattle.std.specs.List.{flat_map}
use Rattle.json.specs.Token.{Token, begin_object, end_object, key}
use Rattle.serde_json.specs.Data.{Data}
use Rattle.json_form.specs.Tokens.{tokens_of}
use Rattle.json_form.specs.meaning.Writing.{whole, members}
use Rattle.report_text.specs.meaning.Report.{image_member}
use Rattle.report_text.specs.Tokens.{ending, named}

pub on_ok : {E : Type 0} (result : Result ⊤ E) {P Q : Type 0} → (P → Q) → OnOk result P → OnOk result Q
on_ok (Ok x) f p = f p
on_ok (Err e) f p = tt

-- what follows a part follows what the part was put behind
pub ahead : {now : List Token} (old ts rest : List Token) → now ≡ old ++ ts → now ++ rest ≡ old ++ (ts ++ rest)
ahead old ts rest put = ap (λ (done : List Token). done ++ rest) put ∙ append_assoc old ts rest

-- items, and others behind them
pub items_ending : {A : Type 0} (writes : A → Data) (xs : List A) (ds : List Data) → flat_map (λ x. tokens_of (writes x)) xs ++ ending ds ≡ ending (map writes xs ++ ds)
items_ending writes [] ds = refl
items_ending writes (x ∷ xs) ds = append_assoc (tokens_of (writes x)) (flat_map (λ y. tokens_of (writes y)) xs) (ending ds) ∙ ap (λ (ts : List Token). tokens_of (writes x) ++ ts) (items_ending writes xs ds)

-- the members of a report, with and without those that are not always there
pub all_named : (a b c e n s t : Data) (horizon : ℕ) (none : Bool) (image : Option (List ℕ)) → begin_object ∷ key (codes "alerts") ∷ (tokens_of a ++ key (codes "blocked") ∷ (tokens_of b ++ key (codes "clients") ∷ (tokens_of c ++ key (codes "entries") ∷ (tokens_of e
    ++ (named (if none then [] else (codes "forgotten", whole horizon) ∷ []) ++ (named (image_member image)
    ++ key (codes "notes") ∷ (tokens_of n ++ key (codes "served") ∷ (tokens_of s ++ key (codes "tables") ∷ (tokens_of t ++ end_object ∷ [])))))))))
    ≡ tokens_of (members ((codes "alerts", a) ∷ (codes "blocked", b) ∷ (codes "clients", c) ∷ (codes "entries", e)
    ∷ ((if none then [] else (codes "forgotten", whole horizon) ∷ []) ++ (image_member image ++ ((codes "notes", n) ∷ (codes "served", s) ∷ (codes "tables", t) ∷ [])))))
all_named a b c e n s t horizon true None = refl
all_named a b c e n s t horizon true (Some bytes) = refl
all_named a b c e n s t horizon false None = refl
all_named a b c e n s t horizon false (Some bytes) = refl
