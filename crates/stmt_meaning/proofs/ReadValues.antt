-- Values read one after the other.
use Rattle.std.proofs.Common.{◌≡◌, ℕ, ◌+◌, ◌<◌, ◌≤◌, List, [], ◌∷◌, ◌++◌, length, drop, refl, sym, ap, ◌∙◌, append_assoc, append-nil, arith, ◌⊎◌, inl, inr, length-append}
use Rattle.std.specs.Prelude.{Some, None, Ok, Err, slice_get}
use Rattle.std.proofs.lemmas.Option.{slice_get_within, get_or_from_slice_get, slice_get-get_or}
use Rattle.std.proofs.lemmas.Bool.{cases_lt}
use Rattle.std.proofs.Math.ListN.{drop_of_length-le}
use Rattle.std.proofs.lemmas.List.{drop_more}
use Rattle.svc_values.specs.declared.value.Value.{Value}
use Rattle.svc_values.specs.declared.draw.Draw.{Draw}
use Rattle.svc_values.specs.declared.statement.Operand.{Operand}
use Rattle.svc_values.specs.declared.answer.StatementFault.{StatementFault}
use Rattle.stmt_meaning.specs.meaning.Operands.{Reading, ◌>>=◌, value_of, values_of}
use Rattle.svc_values.specs.meaning.SettingsList.{NamedValues}

-- these values before the ones that are read
abbrev pub after_values : List Value → Reading (List Value) → Reading (List Value)
after_values before read = read >>= λ xs left. Some (Ok (before ++ xs), left)

-- the list from the place of an item on
pub drop-slice_get : {A : Type 0} (xs : List A) (i : ℕ) (x : A) → slice_get xs i ≡ Some x → drop i xs ≡ x ∷ drop (i + 1) xs
drop-slice_get xs i x e = drop_more xs i x (slice_get_within xs i x e) ∙ ap (λ y. y ∷ drop (i + 1) xs) (get_or_from_slice_get xs i x x e)

pub drop-past : {A : Type 0} (xs : List A) (i : ℕ) → slice_get xs i ≡ None → drop i xs ≡ []
drop-past [] i e = drop_of_length-le [] {i = i} (omega arith)
drop-past {A} (x ∷ xs) i e = past (cases_lt i (length (x ∷ xs)))
  where
    past : (i < length (x ∷ xs)) ⊎ (length (x ∷ xs) ≤ i) → drop i (x ∷ xs) ≡ []
    past (inl lt) = let there = slice_get-get_or (x ∷ xs) i x lt in cc
    past (inr ge) = drop_of_length-le (x ∷ xs) {i = i} ge

abbrev pub one_more : List (List ℕ) → NamedValues → List Value → List Operand → Reading Value → Reading (List Value)
one_more sequences settings before rest one = after_values before (one >>= λ x left. values_of sequences settings rest left >>= λ xs over. Some (Ok (x ∷ xs), over))

append_one : (before : List Value) (x : Value) (read : Reading (List Value)) → after_values before (read >>= λ xs over. Some (Ok (x ∷ xs), over)) ≡ after_values (before ++ x ∷ []) read
append_one before x None = refl
append_one before x (Some (Err refusal, left)) = refl
append_one before x (Some (Ok xs, left)) = ap (λ l. Some (Ok l, left)) (sym (append_assoc before (x ∷ []) xs))

module _ (sequences : List (List ℕ)) (settings : NamedValues) (operands : List Operand) (before : List Value) where
  -- the values from the next operand on
  first : (here : Operand) → slice_get operands (length before) ≡ Some here → (draws : List Draw) → after_values before (values_of sequences settings (drop (length before) operands) draws)
      ≡ one_more sequences settings before (drop (length before + 1) operands) (value_of sequences settings here draws)
  first here at draws = ap (λ l. after_values before (values_of sequences settings l draws)) (drop-slice_get operands (length before) here at)

  pub reads_on : (here : Operand) → slice_get operands (length before) ≡ Some here → (draws left : List Draw) (x : Value) → value_of sequences settings here draws ≡ Some (Ok x, left)
      → after_values before (values_of sequences settings (drop (length before) operands) draws) ≡ after_values (before ++ x ∷ []) (values_of sequences settings (drop (length (before ++ x ∷ [])) operands) left)
  reads_on here at draws left x e =
      first here at draws ∙ ap (one_more sequences settings before (drop (length before + 1) operands)) e ∙ append_one before x (values_of sequences settings (drop (length before + 1) operands) left)
      ∙ ap (λ n. after_values (before ++ x ∷ []) (values_of sequences settings (drop n operands) left)) (sym (length-append before (x ∷ [])))

  pub reads_stop : (here : Operand) → slice_get operands (length before) ≡ Some here → (draws : List Draw) → value_of sequences settings here draws ≡ None
      → after_values before (values_of sequences settings (drop (length before) operands) draws) ≡ None
  reads_stop here at draws e = first here at draws ∙ ap (one_more sequences settings before (drop (length before + 1) operands)) e

  pub reads_refused : (here : Operand) → slice_get operands (length before) ≡ Some here → (draws left : List Draw) (refusal : StatementFault) → value_of sequences settings here draws ≡ Some (Err refusal, left)
      → after_values before (values_of sequences settings (drop (length before) operands) draws) ≡ Some (Err refusal, left)
  reads_refused here at draws left refusal e = first here at draws ∙ ap (one_more sequences settings before (drop (length before + 1) operands)) e

  pub reads_end : slice_get operands (length before) ≡ None → (draws : List Draw) → after_values before (values_of sequences settings (drop (length before) operands) draws) ≡ Some (Ok before, draws)
  reads_end past draws = ap (λ l. after_values before (values_of sequences settings l draws)) (drop-past operands (length before) past) ∙ ap (λ l. Some (Ok l, draws)) (append-nil before)
