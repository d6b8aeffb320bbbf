use Rattle.std.proofs.Common.{◌≡◌, ◌∙◌, refl, sym, ap, true, false}
use Rattle.hera_sets.specs.Rows.{holds}
use Rattle.hera_meaning.specs.declared.scalars.Sign.TheVariants.{Plus, Minus}
use Rattle.delta_atoms.specs.Atoms.{atoms_in, part_of}
use Rattle.delta_atoms.proofs.Looks.{atoms_up}
use Rattle.delta_atoms.proofs.Sides.{sign_by_parts}
use Rattle.delta_atoms.proofs.delta.Delta.sign.Goals as goal

pub returns-then-has : goal.returns-then-has
returns-then-has c =
    let first : holds (part_of (atoms_in c.args.self.now) c.args.rel.0 Plus) c.args.row.now ≡ true = ap (λ t. holds t c.args.row.now) (sym c.part.ensures.rows) ∙ sym c.has.ensures.found ∙ c.if-has.true in
    rw (sign_by_parts (atoms_in c.args.self.now) c.args.rel.0 c.args.row.now (atoms_up c.args.self.now c.part.ensures.valid), first) refl

pub returns-then-has-2 : goal.returns-then-has-2
returns-then-has-2 c =
    let first : holds (part_of (atoms_in c.args.self.now) c.args.rel.0 Plus) c.args.row.now ≡ false = ap (λ t. holds t c.args.row.now) (sym c.part.ensures.rows) ∙ sym c.has.ensures.found ∙ c.if-has.false in
    let second : holds (part_of (atoms_in c.args.self.now) c.args.rel.0 Minus) c.args.row.now ≡ true = ap (λ t. holds t c.args.row.now) (sym c.part-else-has.ensures.rows) ∙ sym c.has-else-has.ensures.found ∙ c.if-has-2.true in
    rw (sign_by_parts (atoms_in c.args.self.now) c.args.rel.0 c.args.row.now (atoms_up c.args.self.now c.part.ensures.valid), first, second) refl

pub returns-else-has-2 : goal.returns-else-has-2
returns-else-has-2 c =
    let first : holds (part_of (atoms_in c.args.self.now) c.args.rel.0 Plus) c.args.row.now ≡ false = ap (λ t. holds t c.args.row.now) (sym c.part.ensures.rows) ∙ sym c.has.ensures.found ∙ c.if-has.false in
    let second : holds (part_of (atoms_in c.args.self.now) c.args.rel.0 Minus) c.args.row.now ≡ false = ap (λ t. holds t c.args.row.now) (sym c.part-else-has.ensures.rows) ∙ sym c.has-else-has.ensures.found ∙ c.if-has-2.false in
    rw (sign_by_parts (atoms_in c.args.self.now) c.args.rel.0 c.args.row.now (atoms_up c.args.self.now c.part.ensures.valid), first, second) refl
