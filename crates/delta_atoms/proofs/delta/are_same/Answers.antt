use Rattle.std.proofs.Common.{Some, sym, ap, ◌∙◌}
use Rattle.std.proofs.lemmas.Option.{same_Some}
use Rattle.hera_meaning.specs.Values.{same_atom}
use Rattle.delta_atoms.specs.Refs.{atom_in}
use Rattle.delta_atoms.proofs.Looks.{same_atom_true, same_atom_itself}
use Rattle.delta_atoms.proofs.delta.are_same.Goals as goal

pub returns-in-Some-Some : goal.returns-in-Some-Some
returns-in-Some-Some c =
    rw (c.in-Some-Some.is-0, c.in-Some-Some.is-1, c.same_atom.ensures)
    (λ h. ap Some (same_atom_true _ _ h), λ e. ap (same_atom (atom_in c.in-Some-Some.a)) (sym (same_Some _ _ e)) ∙ same_atom_itself (atom_in c.in-Some-Some.a))
