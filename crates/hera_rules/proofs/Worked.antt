-- Worked scripts: what the definitions say of them, with the offsets counted by hand.
use Rattle.std.proofs.Common.{◌≡◌, ℕ, [], ◌∷◌, refl, true}
use Rattle.std.specs.Prelude.{Err, pos}
use Rattle.hera_sets.specs.Rows.{is_same}
use Rattle.hera_meaning.specs.declared.scalars.Kind.TheVariants.{Int as int_kind}
use Rattle.hera_meaning.specs.declared.scalars.Scalar.TheVariants.{Int as int_scalar, Bool as bool_scalar}
use Rattle.hera_meaning.specs.declared.trees.Const.TheVariants.{Scalar as scalar}
use Rattle.hera_meaning.specs.declared.trees.Op.TheVariants.{Add}
use Rattle.hera_rules.specs.declared.words.Word.{Word}
use Rattle.hera_rules.specs.declared.words.Joint.TheVariants.{Arithmetic}
use Rattle.hera_rules.specs.declared.fault.TypeFault.TheVariants.{Unknown as unknown, Repeated as repeated, Mismatch as mismatch, Impure as impure, NoReturn as no_return}
use Rattle.hera_rules.specs.Phrases.{literal, named, operation, uses, no_use, kind_type, declaring, printing, returning_value, Acts, act, no_act, Script}
use Rattle.hera_rules.specs.CheckedScripts.{check_script}

abbrev word : ℕ → ℕ → Word
word c at = record { name = c ∷ []; at = at }

abbrev main_of : Acts → Script
main_of block = record { relations = []; funcs = []; procs = []; main = block }

abbrev func_of : Acts → Script
func_of block = record { relations = []; funcs = record { type = kind_type int_kind; name = word 102 9; params = []; block = block } ∷ []; procs = []; main = no_act }

-- main { print 1 + true; }
pub sum_of_a_bool : check_script [] (main_of (act (printing 7 (operation (literal (scalar (int_scalar (pos 1)))) (uses (Arithmetic Add) 15 (literal (scalar (bool_scalar true))) no_use))) no_act)) ≡ Err (mismatch 15)
sum_of_a_bool = refl

-- main { int a = b; }
pub unknown_name : check_script [] (main_of (act (declaring (kind_type int_kind) (word 97 11) (named (word 98 15))) no_act)) ≡ Err (unknown 15)
unfolding is_same
unknown_name = refl

-- func int f() { print 1; return 2; }
pub effect_in_a_func : check_script [] (func_of (act (printing 15 (literal (scalar (int_scalar (pos 1))))) (act (returning_value 24 (literal (scalar (int_scalar (pos 2))))) no_act))) ≡ Err (impure 15)
effect_in_a_func = refl

-- func int f() { int a = 1; }
pub func_without_return : check_script [] (func_of (act (declaring (kind_type int_kind) (word 97 19) (literal (scalar (int_scalar (pos 1))))) no_act)) ≡ Err (no_return 9)
unfolding is_same
func_without_return = refl

-- relation R(a int, a int);
pub attribute_twice : check_script []
    (record { relations = record { name = word 82 9; attrs = record { name = word 97 11; kind = int_kind } ∷ record { name = word 97 18; kind = int_kind } ∷ [] } ∷ []; funcs = []; procs = []; main = no_act })
    ≡ Err (repeated 18)
unfolding is_same
attribute_twice = refl
