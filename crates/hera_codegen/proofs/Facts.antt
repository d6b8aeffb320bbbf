-- What the simulation rests on: operations, hosts, printed values and deltas of values that have their forms.
use Rattle.std.proofs.Common.{◌≡◌, ℕ, true, List, [], Some}
use Rattle.hera_meaning.specs.declared.schemas.RelDecl.{RelDecl}
use Rattle.hera_meaning.specs.declared.scalars.Scalar.{Scalar}
use Rattle.hera_meaning.specs.declared.hosts.HostSpec.{HostSpec}
use Rattle.hera_meaning.specs.declared.trees.Op.{Op}
use Rattle.hera_meaning.specs.declared.trees.Shape.{Shape}
use Rattle.hera_meaning.specs.Deltas.{Atom, Delta, atoms, State, apply_of, smash_of}
use Rattle.hera_meaning.specs.Values.{Value}
use Rattle.hera_meaning.specs.Hosts.{Hosts, host_at, host_of, host_takes, host_gives, answer_value}
use Rattle.hera_meaning.specs.Primitives.{Answer, gives, refuses, given}
use Rattle.hera_meaning.specs.Fits.{fits_of, has_shape, is_delta_of}
use Rattle.hera_meaning.specs.Forms.{Form, of_scalar, form_of, OpIsOf}
use Rattle.hera_codegen.proofs.Codec.{IsOfKind}
use Rattle.hera_codegen.proofs.HasForm.{HasForm, AllHave, IsDeltaIn, IsChangeIn, IsStateIn}

abbrev pub AnswerHas : List RelDecl → Form → Answer → Type 0
AnswerHas rels f (gives v) = HasForm rels f v
AnswerHas rels f (refuses name) = Unit {0}

pub record Facts (rels : List RelDecl) (hosts : Hosts) : Type 0 where
  pub prims : (op : Op) (fs : List Form) (f : Form) (vs : List Value) → OpIsOf rels op fs f → AllHave rels fs vs → (fits_of op vs ≡ true) × AnswerHas rels f (given op vs)
  pub answers : (h : ℕ) (spec : HostSpec) (s : Scalar) → host_at hosts h ≡ Some spec → IsOfKind (host_takes spec) s → HasForm rels (of_scalar (host_gives spec)) (answer_value (host_of spec s))
  pub shapes : (shape : Shape) (v : Value) → HasForm rels (form_of shape) v → has_shape rels shape v ≡ true
  pub deltas : (d : Delta) → IsDeltaIn rels d → is_delta_of rels d ≡ true
  pub applied : (s : State) (xs : List Atom) → IsStateIn rels s → IsChangeIn rels xs → IsStateIn rels (apply_of s (atoms xs))
  pub joint : (s : State) (xs ys : List Atom) → IsStateIn rels s → IsChangeIn rels xs → IsChangeIn rels ys → apply_of s (smash_of (atoms xs) (atoms ys)) ≡ apply_of (apply_of s (atoms xs)) (atoms ys)
  pub smashed : (xs ys : List Atom) → IsChangeIn rels xs → IsChangeIn rels ys → IsDeltaIn rels (smash_of (atoms xs) (atoms ys))
  pub nothing : (s : State) → IsStateIn rels s → apply_of s (atoms []) ≡ s
