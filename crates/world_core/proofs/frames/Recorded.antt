-- What a frame adds to the store takes a record.
use Rattle.std.proofs.Common.{◌≡◌, ◌≤◌, ℕ, ◌+◌, Bool, true, false, List, Option, Some, None, refl, sym, ap, ◌∙◌, subst, arith, inl, inr}
use Rattle.std.specs.Prelude.{◌||◌, is_none, if◌then◌else◌}
use Rattle.svc_values.specs.declared.entry.Entry.{Entry}
use Rattle.svc_values.specs.declared.entry.SessionId.{SessionId}
use Rattle.world_model.specs.Coupled.{living_of, HasStored, entries_in}
use Rattle.world_model.specs.meaning.Links.{Link}
use Rattle.world_model.specs.meaning.Machines.{Server}
use Rattle.world_core.proofs.frames.Written.{Which}

pub named_by : (server : Server) (known : Option SessionId) (session : SessionId) (sessions : ℕ) → Which server known session sessions → is_none known ≡ false → known ≡ Some session
named_by server known session sessions (inl (named, same)) some = named
named_by server known session sessions (inr (unnamed, next)) some = absurd (let clash : true ≡ false = sym (ap (λ (k : Option SessionId). is_none k) unnamed) ∙ some in let nothing : ⊥ = cc in nothing)

-- a session that lives has as many entries as it answered commits
has_of : (entries : List Entry) (link : Link) (living : Bool) (session : SessionId) → living ≡ true → link.session ≡ Some session → HasStored entries (if living then Some link.session else None) link.commits → entries_in entries session ≡ link.commits
has_of entries link false session lives named has = absurd (let nothing : ⊥ = cc in nothing)
has_of entries link true session lives named has = subst (λ (known : Option SessionId). HasStored entries (Some known) link.commits) named has

pub has_so : (entries : List Entry) (link : Link) (session : SessionId) → link.is_living ≡ true → link.session ≡ Some session → HasStored entries (living_of (Some link)) link.commits → entries_in entries session ≡ link.commits
has_so entries link session lives named has = has_of entries link link.is_living session lives named has

entries_risen : (old new entries blocked alerts : ℕ) → old + entries + blocked + alerts ≤ new → 1 ≤ entries → new ≡ old → ⊥
entries_risen old new entries blocked alerts few more same = omega (arith, few, more, same)

others_risen : (old new entries blocked alerts : ℕ) → old + entries + blocked + alerts ≤ new → 1 ≤ blocked + alerts → new ≡ old → ⊥
others_risen old new entries blocked alerts few more same = omega (arith, few, more, same)

-- what is told as added takes a record
pub recorded : (commits others : Bool) (old new entries blocked alerts : ℕ) → old + entries + blocked + alerts ≤ new → (commits ≡ true → 1 ≤ entries) → (others ≡ true → 1 ≤ blocked + alerts) → (commits || others) ≡ true → new ≡ old → ⊥
recorded true others old new entries blocked alerts few first second is same = entries_risen old new entries blocked alerts few (first refl) same
recorded false others old new entries blocked alerts few first second is same = others_risen old new entries blocked alerts few (second is) same
