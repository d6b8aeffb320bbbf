-- The row of a group by its first fault.
use Rattle.std.proofs.Common.{◌≡◌, ℕ, List, refl, ap, Bool, true, false, cond}
use Rattle.std.specs.Prelude.{Option, Some, None, Result, Ok, Err, IfOk}
use Rattle.std.specs.List.{list_all}
use Rattle.hera_meaning.specs.declared.schemas.Attr.{Attr}
use Rattle.hera_meaning.specs.declared.trees.Shape.TheVariants.{Rel as rel}
use Rattle.hera_meaning.specs.declared.trees.Op.TheVariants.{Group}
use Rattle.hera_meaning.specs.Trees.{Expr, prim}
use Rattle.hera_rules.specs.declared.words.Word.{Word}
use Rattle.hera_rules.specs.declared.words.Aggregate.{Aggregate}
use Rattle.hera_rules.specs.declared.fault.TypeFault.{TypeFault}
use Rattle.hera_rules.specs.declared.fault.TypeFault.TheVariants.{Mismatch as mismatch}
use Rattle.hera_rules.specs.Rules.{Typing, typing, given, unless, either, stranger_in, measured_words, result_fault, sums_int, group_type, group_attrs, places_in, aggs_in, one_expr}
use Rattle.hera_types_algebra.specs.Tests.{group_fault_in}

abbrev pub group_typing : ℕ → List Word → List Aggregate → Expr → List Attr → Typing
group_typing at by aggs e s = typing (rel (group_attrs s by aggs)) (prim (Group s (places_in s by) (aggs_in s aggs)) (one_expr e) at)

three_then : {A : Type 0} (a b c : Option TypeFault) (l : Bool) (f : TypeFault) (x : A) → unless a (unless b (unless c (given l f x))) ≡ unless (either a (either b (either c (cond l None (Some f))))) (Ok x)
three_then (Some g) b c l f x = refl
three_then None (Some g) c l f x = refl
three_then None None (Some g) l f x = refl
three_then None None None true f x = refl
three_then None None None false f x = refl

pub group_type_is : (at : ℕ) (by : List Word) (aggs : List Aggregate) (e : Expr) (s : List Attr) → group_type at by aggs e (rel s) ≡ unless (group_fault_in at s by aggs) (Ok (group_typing at by aggs e s))
group_type_is at by aggs e s = three_then (stranger_in s by) (stranger_in s (measured_words aggs)) (result_fault at by aggs) (list_all (λ a. sums_int s a.of) aggs) (mismatch at) (group_typing at by aggs e s)

-- what is known of an answer, under a function
pub ok_ap : {A B E : Type 0} (f : A → B) (r : Result A E) (a : A) → IfOk r (λ v. v ≡ a) → IfOk r (λ v. f v ≡ f a)
ok_ap f (Ok v) a h = ap f h
ok_ap f (Err e) a h = tt
