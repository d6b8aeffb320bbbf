-- What holds of the code that is given.
use Rattle.std.proofs.Common.{◌≡◌, length, sym, ap, ◌∙◌, subst}
use Rattle.hera_meaning.specs.Trees.{Program_tree}
use Rattle.hera_meaning.specs.Addresses.{size_of}
use Rattle.hera_meaning.specs.Hosts.{Hosts}
use Rattle.hera_meaning.specs.Sound.{Sound}
use Rattle.hera_code.specs.declared.instrs.Code.{Code}
use Rattle.hera_code.specs.Forward.{Forward}
use Rattle.hera_code.specs.Listing.{IsListable}
use Rattle.hera_code.specs.Scheme.{code_of}
use Rattle.hera_codegen.proofs.Bodies.{code_length}
use Rattle.hera_codegen.proofs.Forwards.{code_forward}
use Rattle.hera_codegen.proofs.Listable.{code_listable}

pub forward_of : (p : Program_tree) (c : Code) → c ≡ code_of p → Forward c
forward_of p c h = subst (λ d. Forward d) (sym h) (code_forward p)

pub size_is : (p : Program_tree) (c : Code) → c ≡ code_of p → length c.instrs ≡ size_of p
size_is p c h = ap (λ d. length d.instrs) h ∙ code_length p.relations p.bodies

pub listable_of : (p : Program_tree) (c : Code) (hosts : Hosts) → Sound p hosts → c ≡ code_of p → IsListable c
listable_of p c hosts s h = subst (λ d. IsListable d) (sym h) (code_listable p hosts s)
