-- The ways in which a value may be drawn, by number.
use Rattle.std.proofs.Common.{◌≡◌, ℕ, zero, suc, ◌+◌, ◌<◌, ◌≤◌, Bool, true, false, Bor, List, [], ◌∷◌, length, map, refl, sym, ap, ◌∙◌, arith, rules}
use Rattle.std.proofs.lemmas.List.{length-map}
use Rattle.std.proofs.lemmas.Option.{slice_get-map}
use Rattle.std.specs.Prelude.{Option, Some, None, slice_get}
use Rattle.std.specs.List.{find}
use Rattle.std.specs.Option.{IsSome, option_copied, option_map}
use Rattle.std.specs.Str.{bytes_eq}
use Rattle.svc_values.specs.declared.draw.Draw.{Draw}
use Rattle.svc_values.specs.declared.draw.Draw.TheVariants as draw
use Rattle.server_model.specs.meaning.NewValues.{Count, Numbers, given_ways, shifted, ways, ways_from, with_way}
use Rattle.legal_draws.specs.Ways.{way_at}
use Rattle.legal_draws.proofs.WaysTaken.{way_more, way_none}

pub ways_length : (maybe : ℕ) (count : Count) → length (ways_from maybe count) ≡ maybe + 1
ways_length zero count = refl
ways_length (suc maybe) count = let more = ways_length maybe (shifted count maybe) in omega (arith, more)

-- the way of a number
pub way_of : (maybe blocks : ℕ) (count : Count) → blocks ≤ maybe → slice_get (ways_from maybe count) blocks ≡ Some (way_at blocks count)
way_of zero zero count within = ap Some (sym (way_none count))
way_of (suc maybe) zero count within = ap Some (sym (way_none count))
way_of zero (suc blocks) count within = absurd (omega (arith, within))
way_of (suc maybe) (suc blocks) count within = way_of maybe blocks (shifted count maybe) (omega (arith, within)) ∙ ap Some (way_more blocks maybe count)

abbrev pub has_name : List ℕ → Count → Bool
has_name name count = bytes_eq count.name name

abbrev pub given_in : Numbers → List ℕ → Count → Draw × Numbers
given_in numbers name way = (draw.Seq name way.next, with_way numbers name way)

abbrev pub ways_found : Numbers → List ℕ → Option Count → List (Draw × Numbers)
ways_found numbers name None = []
ways_found numbers name (Some count) = map (given_in numbers name) (ways count)

found_by : (numbers : Numbers) (name : List ℕ) (count : Count) (counts : List Count) (t : Bool) → bytes_eq count.name name ≡ t → given_ways numbers name counts ≡ ways_found numbers name (find (has_name name) counts)
    → given_ways numbers name (count ∷ counts) ≡ ways_found numbers name (find (has_name name) (count ∷ counts))
found_by numbers name count counts true is more = rw is refl
found_by numbers name count counts false is more = rw is more

-- they are those of the first sequence of the name
pub given_found : (numbers : Numbers) (name : List ℕ) (counts : List Count) → given_ways numbers name counts ≡ ways_found numbers name (find (has_name name) counts)
given_found numbers name [] = refl
given_found numbers name (count ∷ counts) = found_by numbers name count counts (bytes_eq count.name name) refl (given_found numbers name counts)

-- how many there are
pub given_none : (numbers : Numbers) (name : List ℕ) → None ≡ find (has_name name) numbers.counts → length (given_ways numbers name numbers.counts) ≡ 0
given_none numbers name none = ap length (given_found numbers name numbers.counts ∙ ap (ways_found numbers name) (sym none))

pub given_some : (numbers : Numbers) (name : List ℕ) (count : Count) → Some count ≡ find (has_name name) numbers.counts → length (given_ways numbers name numbers.counts) ≡ count.maybe + 1
given_some numbers name count some =
    ap length (given_found numbers name numbers.counts ∙ ap (ways_found numbers name) (sym some))
    ∙ length-map (ways count) (given_in numbers name)
    ∙ ways_length count.maybe count

-- a way is there only with a sequence of the name
pub is_found : (numbers : Numbers) (name : List ℕ) (blocks : ℕ) (found : Option (Bor Count)) → option_copied found ≡ find (has_name name) numbers.counts → blocks < length (given_ways numbers name numbers.counts) → IsSome found
is_found numbers name blocks None is within = absurd (let none = given_none numbers name is in omega (arith, none, within))
is_found numbers name blocks (Some count) is within = search rules

-- what the sequence gives in the way of a number
pub given_way : (numbers : Numbers) (name : List ℕ) (count : Count) (blocks : ℕ) → Some count ≡ find (has_name name) numbers.counts → blocks < length (given_ways numbers name numbers.counts)
    → slice_get (given_ways numbers name numbers.counts) blocks ≡ Some (given_in numbers name (way_at blocks count))
given_way numbers name count blocks some within =
    let many = given_some numbers name count some in
    ap (λ l. slice_get l blocks) (given_found numbers name numbers.counts ∙ ap (ways_found numbers name) (sym some))
    ∙ slice_get-map (given_in numbers name) (ways count) blocks
    ∙ ap (option_map (given_in numbers name)) (way_of count.maybe blocks count (omega (arith, many, within)))
