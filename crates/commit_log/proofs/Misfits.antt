-- The fault that a record which was not added gives, and what is known of an option by its case.
use Rattle.std.proofs.Common.{◌≡◌, ℕ, Option, Some, None, refl, sym, ap, subst}
use Rattle.std.specs.Prelude.{◌||◌, Bool, Result, Ok, Err, OnOk, IsErrOf, IfSome, IfNone}
use Rattle.redo_store.specs.declared.fault.RedoFault.{RedoFault}
use Rattle.redo_store.specs.declared.fault.RedoFault.TheVariants as redo_fault
use Rattle.redo_store.specs.declared.redo.Redo.{Redo}
use Rattle.redo_store.specs.Redo.{CanAppend, StoreGoesOn, count_of, tail_of}
use Rattle.disk_model.specs.Disk.{DiskState, LoweredByLess, Lowers, Caused}
use Rattle.disk_model.proofs.Offered.{caused_for, caused_then}
use Rattle.commit_log.specs.declared.log.Log.{Log}
use Rattle.commit_log.specs.declared.records.Record.{Record}
use Rattle.commit_log.specs.meaning.Rules.{is_opening, is_horizon}
use Rattle.commit_log.specs.Logs.{HasBegun, GoesOnFrom}
use Rattle.commit_log.specs.declared.judge.Misfit.{Misfit}
use Rattle.commit_log.specs.declared.judge.Misfit.TheVariants as misfit

-- a damage is told of a record that may not come next, at its place
pub placed : (one : Misfit) (fault : RedoFault) (place at : ℕ) → (one ≡ misfit.NoMemory → fault ≡ redo_fault.NoMemory) → (one ≡ misfit.Misplaced → fault ≡ redo_fault.Damaged place) → fault ≡ redo_fault.Damaged at → (one ≡ misfit.Misplaced) × (place ≡ at)
placed misfit.NoMemory fault place at no_memory misplaced e = absurd (let same = no_memory refl in let none : ⊥ = cc in none)
placed misfit.Misplaced fault place at no_memory misplaced e = let same = misplaced refl in (refl, cc)

pub when_none : {T : Type 0} (o : Option T) (P : Type 0) → o ≡ None → IfNone o P → P
when_none o P is met = subst (λ p. IfNone p P) is met

pub when_some : {T : Type 0} (o : Option T) (x : T) (P : T → Type 0) → o ≡ Some x → IfSome o P → P x
when_some o x P is met = subst (λ p. IfSome p P) is met

pub on_ok : {T E : Type 0} (r : Result T E) (P Q : Type 0) → (P → Q) → OnOk r P → OnOk r Q
on_ok (Ok v) P Q then met = then met
on_ok (Err e) P Q then met = tt

-- what a log says of going on after the adding of a record, by what its store says
pub log_goes_on : (is_opened has_horizon : Bool) (one : Record) (r : Result (Unit {0}) RedoFault) (Also : Type 0) (old : Redo) (log : Log) (disk : DiskState)
    → (Also → CanAppend log.redo disk → HasBegun (is_opened || is_opening one) (has_horizon || is_horizon one) log disk)
    → (IsErrOf r redo_fault.NoMemory → CanAppend log.redo disk → HasBegun is_opened has_horizon log disk)
    → OnOk r Also → StoreGoesOn r old log.redo disk → GoesOnFrom is_opened has_horizon one r log disk
log_goes_on is_opened has_horizon one (Ok done) Also old log disk then stays also met = then also met
log_goes_on is_opened has_horizon one (Err redo_fault.NoMemory) Also old log disk then stays also met = stays refl met
log_goes_on is_opened has_horizon one (Err redo_fault.Stopped) Also old log disk then stays also met = met.0
log_goes_on is_opened has_horizon one (Err (redo_fault.Damaged place)) Also old log disk then stays also met = met

-- and where it was the adding of this record to a log that goes on
pub begun_after : (is_opened has_horizon : Bool) (one : Record) (r : Result (Unit {0}) RedoFault) (log : Log) (disk : DiskState) → r ≡ Err redo_fault.NoMemory → GoesOnFrom is_opened has_horizon one r log disk → HasBegun is_opened has_horizon log disk
begun_after is_opened has_horizon one r log disk is met = subst (λ (a : Result (Unit {0}) RedoFault). GoesOnFrom is_opened has_horizon one a log disk) is met

pub never_damaged : (is_opened has_horizon : Bool) (one : Record) (r : Result (Unit {0}) RedoFault) (log : Log) (disk : DiskState) (place : ℕ) → r ≡ Err (redo_fault.Damaged place) → GoesOnFrom is_opened has_horizon one r log disk → ⊥
never_damaged is_opened has_horizon one r log disk place is met = subst (λ (a : Result (Unit {0}) RedoFault). GoesOnFrom is_opened has_horizon one a log disk) is met

-- of a fault that is handed on, and of an answer that is none
pub fault_handed_on : {T U : Type 0} (fault : RedoFault) (s t : DiskState) → (let r : Result T RedoFault = Err fault in Caused (IsErrOf r redo_fault.Stopped) s t) → (let r : Result U RedoFault = Err fault in Caused (IsErrOf r redo_fault.Stopped) s t)
fault_handed_on {T} {U} fault s t cause =
    let a : Result T RedoFault = Err fault in
    let b : Result U RedoFault = Err fault in
    caused_for (IsErrOf a redo_fault.Stopped) (IsErrOf b redo_fault.Stopped) s t (λ is. let same : fault ≡ redo_fault.Stopped = cc in ap (λ (e : RedoFault). Err e) same) (λ is. let same : fault ≡ redo_fault.Stopped = cc in ap (λ (e : RedoFault). Err e) same) cause

pub no_fault_then : {T U : Type 0} (x : T) (y : U) (s t : DiskState) → (let r : Result T RedoFault = Ok x in Caused (IsErrOf r redo_fault.Stopped) s t) → (let r : Result U RedoFault = Ok y in Caused (IsErrOf r redo_fault.Stopped) s t)
no_fault_then {T} {U} x y s t cause =
    let a : Result T RedoFault = Ok x in
    let b : Result U RedoFault = Ok y in
    caused_for (IsErrOf a redo_fault.Stopped) (IsErrOf b redo_fault.Stopped) s t (λ is. absurd (let none : ⊥ = cc in none)) (λ is. absurd (let none : ⊥ = cc in none)) cause

-- what is said of a fault is said of the answer that hands it on
pub lowers_handed : {T : Type 0} (n : ℕ) (r : Result T RedoFault) (fault : RedoFault) (x y : Option ℕ) → r ≡ Err fault → LoweredByLess n x y → Lowers n r x y
lowers_handed {T} n r fault x y is less = subst (λ (a : Result T RedoFault). Lowers n a x y) (sym is) less

pub caused_handed : {T U : Type 0} (r : Result U RedoFault) (fault : RedoFault) (s t : DiskState) → r ≡ Err fault → (let a : Result T RedoFault = Err fault in Caused (IsErrOf a redo_fault.Stopped) s t) → Caused (IsErrOf r redo_fault.Stopped) s t
caused_handed {T} {U} r fault s t is cause = subst (λ (a : Result U RedoFault). Caused (IsErrOf a redo_fault.Stopped) s t) (sym is) (fault_handed_on {T = T} {U = U} fault s t cause)

-- a part of a call that had no fault, and then another
pub cause_then : {T U : Type 0} (x : T) (r : Result U RedoFault) (s t u : DiskState) → (let first : Result T RedoFault = Ok x in Caused (IsErrOf first redo_fault.Stopped) s t) → Caused (IsErrOf r redo_fault.Stopped) t u → Caused (IsErrOf r redo_fault.Stopped) s u
cause_then {T} {U} x r s t u first second =
    let a : Result T RedoFault = Ok x in
    caused_then (IsErrOf a redo_fault.Stopped) (IsErrOf r redo_fault.Stopped) s t u (λ is. let none : ⊥ = cc in none) first second

pub after_no_memory : (r : Result (Unit {0}) RedoFault) (old new : Redo) (disk : DiskState) → r ≡ Err redo_fault.NoMemory → StoreGoesOn r old new disk → CanAppend new disk
after_no_memory r old new disk is met = subst (λ (a : Result (Unit {0}) RedoFault). StoreGoesOn a old new disk) is met

-- a stop leaves what it knows of its end
pub stops_so : (r : Result (Unit {0}) RedoFault) (old new : Redo) (disk : DiskState) → r ≡ Err redo_fault.Stopped → StoreGoesOn r old new disk → (count_of new ≡ count_of old) × (tail_of new ≡ tail_of old)
stops_so r old new disk is met = let goes = subst (λ (a : Result (Unit {0}) RedoFault). StoreGoesOn a old new disk) is met in (goes.1, goes.2)

pub not_damaged : (r : Result (Unit {0}) RedoFault) (old new : Redo) (disk : DiskState) (place : ℕ) → r ≡ Err (redo_fault.Damaged place) → StoreGoesOn r old new disk → ⊥
not_damaged r old new disk place is met = subst (λ (a : Result (Unit {0}) RedoFault). StoreGoesOn a old new disk) is met

-- what succeeded was no fault
pub no_fault : {T : Type 0} (r : Result T RedoFault) (x : T) (fault : RedoFault) → r ≡ Ok x → r ≡ Err fault → ⊥
no_fault r x fault is failed = cc
