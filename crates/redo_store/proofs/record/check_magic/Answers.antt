use Rattle.std.proofs.Common.{◌≡◌, ℕ, List, take, ◌∙◌, ap, arith, true, false, not}
use Rattle.std.specs.Str.{bytes_eq}
use Rattle.redo_store.specs.meaning.Records.{magic}
use Rattle.redo_store.proofs.Walking.{short_image}
use Rattle.redo_store.proofs.record.check_magic.Goals as goal

true_ne_false : true ≡ false → ⊥
true_ne_false e = cc

pub returns-then-size-lt8-clause-damaged : goal.returns-then-size-lt8-clause-damaged
returns-then-size-lt8-clause-damaged g c place is =
    let same : place ≡ 0 = cc in
    let seen = (g.D.Disk.state c.args.disk.now).now.seen in
    (same, short_image seen (omega (arith, c.size.ensures, c.if-size-lt8.true)))

pub returns-then-ne-clause-damaged : goal.returns-then-ne-clause-damaged
returns-then-ne-clause-damaged g c place is =
    let same : place ≡ 0 = cc in
    let seen = (g.D.Disk.state c.args.disk.now).now.seen in
    let read : c.read.new.into ≡ take 8 seen = c.in_ok-read.ensures.bytes in (
      same,
      λ (e : take 8 seen ≡ magic).
          let equal : bytes_eq c.read.new.into magic ≡ true = ap (λ (l : List ℕ). bytes_eq l magic) (read ∙ e) in
          let wrong : true ≡ false = c.if-ne.ensures ∙ ap (λ b. not b) equal in
          true_ne_false wrong,
    )
