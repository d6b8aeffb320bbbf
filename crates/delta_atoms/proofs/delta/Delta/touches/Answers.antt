use Rattle.std.proofs.Common.{◌≡◌, ◌∙◌, refl, sym, ap, true, false, length, nat_lt, arith}
use Rattle.std.proofs.lemmas.Bool.{lt-ltb, le-ltb}
use Rattle.hera_meaning.specs.declared.scalars.Sign.TheVariants.{Plus, Minus}
use Rattle.delta_atoms.specs.Atoms.{atoms_in, part_of}
use Rattle.delta_atoms.proofs.Sides.{touched}
use Rattle.delta_atoms.proofs.delta.Delta.touches.Goals as goal

pub returns-then-len-gt0 : goal.returns-then-len-gt0
returns-then-len-gt0 c =
    let same : c.len.result ≡ length (part_of (atoms_in c.args.self.now) c.args.rel.0 Plus) = c.len.ensures.count ∙ ap length c.part.ensures.rows in
    let some : nat_lt 0 c.len.result ≡ true = lt-ltb 0 c.len.result c.if-len-gt0.true in
    let first : nat_lt 0 (length (part_of (atoms_in c.args.self.now) c.args.rel.0 Plus)) ≡ true = ap (nat_lt 0) (sym same) ∙ some in
    some ∙ sym (rw (touched (atoms_in c.args.self.now) c.args.rel.0, first) refl)

pub returns-else-len-gt0 : goal.returns-else-len-gt0
returns-else-len-gt0 c =
    let same : c.len.result ≡ length (part_of (atoms_in c.args.self.now) c.args.rel.0 Plus) = c.len.ensures.count ∙ ap length c.part.ensures.rows in
    let other : c.len-else-len-gt0.result ≡ length (part_of (atoms_in c.args.self.now) c.args.rel.0 Minus) = c.len-else-len-gt0.ensures.count ∙ ap length c.part-else-len-gt0.ensures.rows in
    let first : nat_lt 0 (length (part_of (atoms_in c.args.self.now) c.args.rel.0 Plus)) ≡ false = le-ltb 0 (length (part_of (atoms_in c.args.self.now) c.args.rel.0 Plus)) (omega arith) in
    rw (touched (atoms_in c.args.self.now) c.args.rel.0, first) (ap (nat_lt 0) other)
