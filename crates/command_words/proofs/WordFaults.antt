-- Where no word begins with `-`, `clap` finds fault with the words exactly where they are no
-- command's.
use Rattle.std.proofs.Common.{◌≡◌, ◌∙◌, ◌==◌, ◌||◌, inl, inr, Bool, true, false, List, [], ◌∷◌, Option, Some, None, String, codes, string_bytes, map, refl, sym, ap, subst, slice_index}
use Rattle.std.specs.Prelude.{Box, option_and_then, option_map}
use Rattle.std.specs.Box.{box_value}
use Rattle.std.specs.List.{list_any}
use Rattle.std.specs.Str.{bytes_eq}
use Rattle.std.specs.declared.alloc.Global.{Global}
use Rattle.std.proofs.lemmas.Slice.Eq.{bytes_eq-Decides}
use Rattle.clap.specs.Faults.{entered_fault, fault_of, stray_fault, turn_fault, walk_fault}
use Rattle.clap.specs.Kinds.{HasKind, Kinds, or_else}
use Rattle.clap.specs.Matches.{subcommand_name_of}
use Rattle.clap.specs.Simple.{Shape, built, names_of, new_shape, subcommand_of, subcommand_rows, subcommand_rows_of}
use Rattle.clap.specs.Values.{kind_of}
use Rattle.clap.specs.Walk.{Names, Text, idle, nothing_held, subcommand_met, walk_from}
use Rattle.clap.specs.declared.parser.matches.ArgMatches.{ArgMatches}
use Rattle.clap.specs.declared.parser.matches.ArgMatches.TheViews.{out-ArgMatches, out-SubCommand}
use Rattle.clap.specs.declared.parser.matches.SubCommand.{SubCommand}
use Rattle.clap.specs.declared.error.Error.{Error}
use Rattle.clap.specs.declared.error.kind.ErrorKind.{ErrorKind}
use Rattle.clap.specs.declared.error.kind.ErrorKind.TheVariants.{OutOfMemory}
use Rattle.clap.proofs.OnLiterals.{clap_on_literals}
use Rattle.clap.proofs.WalkLemmas.{walk_stopped}
use Rattle.command_words.specs.declared.command.Command.{Command}
use Rattle.command_words.specs.Words.{command_named}
use Rattle.command_words.specs.InnerWords.{begins_with_hyphen, named_in, program}

first : (a b : Kinds) → or_else a b ≡ [] → a ≡ []
first [] b e = refl
first (k ∷ ks) b e = e

second : (a b : Kinds) → or_else a b ≡ [] → b ≡ []
second [] b e = e
second (k ∷ ks) b e = absurd cc

some_kind : {k : ErrorKind} {ks : Kinds} → k ∷ ks ≡ [] → ⊥
some_kind e = cc

-- at a level with no arguments a word is a subcommand or a stray one
stray : (s : Shape) (names : Names) (word : Text) → (slice_index word 0 == 45) ≡ false
    → subcommand_met names idle word ≡ None
    → turn_fault (record s { rules = [] }) names (walk_from nothing_held) word ≡ stray_fault s
stray s names [] hyphen none = rw none refl
stray s names (x ∷ xs) hyphen none = simp (none, hyphen)

-- a first word that is no command's
other_word : (word : Text) (rest : List Text) → (slice_index word 0 == 45) ≡ false
    → bytes_eq (codes "run") word ≡ false → bytes_eq (codes "cover") word ≡ false → bytes_eq (codes "check") word ≡ false
    → fault_of program (word ∷ rest) ≡ [] → ⊥
unfolding walk_fault
other_word word rest hyphen no_run no_cover no_check e =
    let a = built program in
    let none : subcommand_met (names_of a) idle word ≡ None = rw (no_run, no_cover, no_check) refl in
    some_kind (sym (stray a.top (names_of a) word hyphen none) ∙ first _ _ (first _ _ e))

-- a word behind a command
one_more_run : (word : Text) (rest : List Text) → (slice_index word 0 == 45) ≡ false
    → fault_of program (codes "run" ∷ word ∷ rest) ≡ [] → ⊥
unfolding clap_on_literals
one_more_run word rest hyphen e =
    let a = built program in
    let at_run : entered_fault a (Some (codes "run", word ∷ rest)) ≡ []
    = ap (λ w. entered_fault a w.stopped) (walk_stopped [] (names_of a) (walk_from nothing_held) (codes "run") [] (word ∷ rest)) ∙ first _ _ (second _ _ e) in
    some_kind (sym (stray (new_shape (codes "run")) [] word hyphen refl) ∙ first _ _ (first _ _ at_run))

one_more_cover : (word : Text) (rest : List Text) → (slice_index word 0 == 45) ≡ false
    → fault_of program (codes "cover" ∷ word ∷ rest) ≡ [] → ⊥
unfolding clap_on_literals
one_more_cover word rest hyphen e =
    let a = built program in
    let at_cover : entered_fault a (Some (codes "cover", word ∷ rest)) ≡ []
    = ap (λ w. entered_fault a w.stopped) (walk_stopped [] (names_of a) (walk_from nothing_held) (codes "cover") [] (word ∷ rest)) ∙ first _ _ (second _ _ e) in
    some_kind (sym (stray (new_shape (codes "cover")) [] word hyphen refl) ∙ first _ _ (first _ _ at_cover))

one_more_check : (word : Text) (rest : List Text) → (slice_index word 0 == 45) ≡ false
    → fault_of program (codes "check" ∷ word ∷ rest) ≡ [] → ⊥
unfolding clap_on_literals
one_more_check word rest hyphen e =
    let a = built program in
    let at_check : entered_fault a (Some (codes "check", word ∷ rest)) ≡ []
    = ap (λ w. entered_fault a w.stopped) (walk_stopped [] (names_of a) (walk_from nothing_held) (codes "check") [] (word ∷ rest)) ∙ first _ _ (second _ _ e) in
    some_kind (sym (stray (new_shape (codes "check")) [] word hyphen refl) ∙ first _ _ (first _ _ at_check))

no_words : fault_of program [] ≡ [] → ⊥
unfolding clap_on_literals
no_words = some_kind

run_passes : fault_of program (codes "run" ∷ []) ≡ []
unfolding clap_on_literals
run_passes = refl

cover_passes : fault_of program (codes "cover" ∷ []) ≡ []
unfolding clap_on_literals
cover_passes = refl

check_passes : fault_of program (codes "check" ∷ []) ≡ []
unfolding clap_on_literals
check_passes = refl

neither : (b c : Bool) → (b || c) ≡ false → (b ≡ false) × (c ≡ false)
neither false c e = (refl, e)
neither true c e = absurd cc

same_word : (name word : Text) → bytes_eq name word ≡ true → word ≡ name
same_word name word same = sym ((bytes_eq-Decides name word).0 same)

-- Words without a fault are one of the commands' words.
data IsKnown : List Text → Type 0 where
  IsRun : IsKnown (codes "run" ∷ [])
  IsCover : IsKnown (codes "cover" ∷ [])
  IsCheck : IsKnown (codes "check" ∷ [])

by_word : (word : String Global) (rest : List (String Global)) (run cover check : Bool)
    → bytes_eq (codes "run") (string_bytes word) ≡ run
    → bytes_eq (codes "cover") (string_bytes word) ≡ cover
    → bytes_eq (codes "check") (string_bytes word) ≡ check
    → list_any begins_with_hyphen (word ∷ rest) ≡ false → fault_of program (map string_bytes (word ∷ rest)) ≡ [] → IsKnown (map string_bytes (word ∷ rest))
by_word word rest false false false no_run no_cover no_check hyphens e = absurd (other_word (string_bytes word) (map string_bytes rest) (neither _ _ hyphens).0 no_run no_cover no_check e)
by_word word [] true cover check is_run is_cover is_check hyphens e = subst (λ w. IsKnown (w ∷ [])) (sym (same_word (codes "run") (string_bytes word) is_run)) IsRun
by_word word [] false true check is_run is_cover is_check hyphens e = subst (λ w. IsKnown (w ∷ [])) (sym (same_word (codes "cover") (string_bytes word) is_cover)) IsCover
by_word word [] false false true is_run is_cover is_check hyphens e = subst (λ w. IsKnown (w ∷ [])) (sym (same_word (codes "check") (string_bytes word) is_check)) IsCheck
by_word word (other ∷ rest) true cover check is_run is_cover is_check hyphens e =
    absurd (one_more_run (string_bytes other) (map string_bytes rest) (neither _ _ (neither _ _ hyphens).1).0
    (subst (λ w. fault_of program (w ∷ map string_bytes (other ∷ rest)) ≡ []) (same_word (codes "run") (string_bytes word) is_run) e))
by_word word (other ∷ rest) false true check is_run is_cover is_check hyphens e =
    absurd (one_more_cover (string_bytes other) (map string_bytes rest) (neither _ _ (neither _ _ hyphens).1).0
    (subst (λ w. fault_of program (w ∷ map string_bytes (other ∷ rest)) ≡ []) (same_word (codes "cover") (string_bytes word) is_cover) e))
by_word word (other ∷ rest) false false true is_run is_cover is_check hyphens e =
    absurd (one_more_check (string_bytes other) (map string_bytes rest) (neither _ _ (neither _ _ hyphens).1).0
    (subst (λ w. fault_of program (w ∷ map string_bytes (other ∷ rest)) ≡ []) (same_word (codes "check") (string_bytes word) is_check) e))

known : (words : List (String Global)) → list_any begins_with_hyphen words ≡ false
    → fault_of program (map string_bytes words) ≡ [] → IsKnown (map string_bytes words)
known [] hyphens e = absurd (no_words e)
known (word ∷ rest) hyphens e = by_word word rest _ _ _ refl refl refl hyphens e

-- the command by the bytes of its words
abbrev command_in : List Text → Option Command
command_in (word ∷ []) = command_named word
command_in _ = None

same_command : (words : List (String Global))
    → command_in (map string_bytes words) ≡ named_in words
same_command [] = refl
same_command (word ∷ []) = refl
same_command (word ∷ other ∷ rest) = refl

entered_run : option_map (λ met. met.0) (subcommand_of program (codes "run" ∷ []))
    ≡ Some (codes "run")
unfolding clap_on_literals
entered_run = refl

entered_cover : option_map (λ met. met.0) (subcommand_of program (codes "cover" ∷ []))
    ≡ Some (codes "cover")
unfolding clap_on_literals
entered_cover = refl

entered_check : option_map (λ met. met.0) (subcommand_of program (codes "check" ∷ []))
    ≡ Some (codes "check")
unfolding clap_on_literals
entered_check = refl

entered : (words : List Text) → IsKnown words
    → option_and_then command_named (option_map (λ met. met.0) (subcommand_of program words)) ≡ command_in words
entered _ IsRun = ap (option_and_then command_named) entered_run
entered _ IsCover = ap (option_and_then command_named) entered_cover
entered _ IsCheck = ap (option_and_then command_named) entered_check

named_of : {Z : Type 0} (met : Option (Box SubCommand Z))
    → option_map (λ b. (out-SubCommand (box_value b)).name.now) met ≡ option_map (λ one. one.0) (subcommand_rows met)
named_of None = refl
named_of (Some b) = refl

-- the name of what a parse entered
pub name_entered : (m : ArgMatches)
    → subcommand_name_of m ≡ option_map (λ met. met.0) (subcommand_rows_of m)
name_entered m = named_of (out-ArgMatches m).subcommand

-- of words without a fault the subcommand is the command
pub passed : (words : List (String Global)) → list_any begins_with_hyphen words ≡ false
    → fault_of program (map string_bytes words) ≡ []
    → option_and_then command_named (option_map (λ met. met.0) (subcommand_of program (map string_bytes words))) ≡ named_in words
passed words hyphens e = entered (map string_bytes words) (known words hyphens e) ∙ same_command words

-- the words of a command have no fault
named_passes : (name : Text) (run cover check : Bool) → bytes_eq name (codes "run") ≡ run
    → bytes_eq name (codes "cover") ≡ cover → bytes_eq name (codes "check") ≡ check → (one : Command) → command_named name ≡ Some one
    → fault_of program (name ∷ []) ≡ []
named_passes name true cover check is_run is_cover is_check one is = subst (λ w. fault_of program (w ∷ []) ≡ []) (sym ((bytes_eq-Decides name (codes "run")).0 is_run)) run_passes
named_passes name false true check is_run is_cover is_check one is = subst (λ w. fault_of program (w ∷ []) ≡ []) (sym ((bytes_eq-Decides name (codes "cover")).0 is_cover)) cover_passes
named_passes name false false true is_run is_cover is_check one is = subst (λ w. fault_of program (w ∷ []) ≡ []) (sym ((bytes_eq-Decides name (codes "check")).0 is_check)) check_passes
named_passes name false false false is_run is_cover is_check one is = absurd (let none : command_named name ≡ None = rw (is_run, is_cover, is_check) refl in let no : ⊥ = cc in no)

command_passes : (words : List (String Global)) (one : Command) → named_in words ≡ Some one
    → fault_of program (map string_bytes words) ≡ []
command_passes [] one is = absurd (let none : ⊥ = cc in none)
command_passes (word ∷ []) one is = named_passes (string_bytes word) _ _ _ refl refl refl one is
command_passes (word ∷ other ∷ rest) one is = absurd (let none : ⊥ = cc in none)

-- words with a fault, other than want of memory, are no command's
pub refused : (words : List (String Global)) (e : Error) → (kind_of e ≡ OutOfMemory → ⊥)
    → HasKind (fault_of program (map string_bytes words)) e → named_in words ≡ None
refused words e other kind = go (named_in words) refl
  where
    none : HasKind [] e → ⊥
    none (inl memory) = other memory
    none (inr among) = among

    go : (found : Option Command) → named_in words ≡ found → found ≡ None
    go None is = refl
    go (Some one) is = absurd (none (subst (λ kinds. HasKind kinds e) (command_passes words one is) kind))
