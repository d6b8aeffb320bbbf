-- What operations make of operands that are known by their flat forms.
use Rattle.std.specs.Prelude.{◌≡◌, ℕ, Bool, true, false, ◌&&◌, ◌||◌, List, [], ◌∷◌, map, take, length, Option, Some, None, nat_lt}
use Rattle.std.specs.List.{list_all}
use Rattle.hera_meaning.specs.declared.schemas.RelDecl.{RelDecl}
use Rattle.hera_meaning.specs.declared.trees.Op.{Op}
use Rattle.hera_meaning.specs.declared.trees.Op.TheVariants.{Neg, Not, Add, Sub, Mul, Div, Rem, Eq, Ne, Lt, Le, Gt, Ge, In, Field, MakeRow, MakeRel, Project, Union, Minus, Inter, Join, Group, Count, Empty, Sum, Min, Max, Atom as atom_op, Bulk, Ins, Del, IsFail, Smash, Merge}
use Rattle.hera_meaning.specs.Schemas.{names_of}
use Rattle.hera_meaning.specs.Deltas.{schema_of}
use Rattle.hera_meaning.specs.Forms.{Form, of_scalar, of_tuple, of_table, kinds_of, int_form, bool_form, text_form, kind_at, project_kinds, group_kinds, join_kinds}
use Rattle.hera_typed.specs.Points.{Seen, with, when, Cut, cut, all_agree}
use Rattle.hera_typed.specs.Effects.{is_width, is_apart}
use Rattle.hera_stacks.specs.declared.forms.FlatForm.{FlatForm}
use Rattle.hera_stacks.specs.declared.forms.FlatForm.TheVariants as flat
use Rattle.hera_stacks.specs.declared.forms.FlatSeen.{FlatSeen}
use Rattle.hera_stacks.specs.declared.forms.FlatSeen.TheVariants as flat_seens
use Rattle.hera_stacks.specs.declared.stacks.Node.{Node}
use Rattle.hera_effects.specs.declared.cuts.Cut.{Cut as FlatCut}
use Rattle.hera_stacks.specs.Flat.{flat_form, flat_seen, same_flat}
use Rattle.hera_stacks.specs.Stacked.{AreOperands}

-- so many operands taken, the oldest first, and the number of the others
pub record IsCut (nodes : List Node) (c : FlatCut) (d : Cut) : Type 0 where
  pub args : c.args.items ≡ map flat_seen d.args
  pub rest : AreOperands nodes c.rest d.rest

-- the operands without a body's arguments, of which each agrees with the form of its own slot
abbrev pub called_off : ℕ → List Form → List Seen → Option (List Seen)
called_off n forms ss = with (cut n [] ss) (λ c. when (all_agree c.args (take n forms)) (Some c.rest))

abbrev pub is_flat_table : FlatForm → Bool
is_flat_table (flat.Table ks) = true
is_flat_table _ = false

abbrev pub flat_agrees : FlatSeen → FlatForm → Bool
flat_agrees (flat_seens.Known g) f = same_flat g f
flat_agrees flat_seens.NoRows f = is_flat_table f

abbrev pub flat_all_agree : List FlatSeen → List FlatForm → Bool
flat_all_agree [] [] = true
flat_all_agree (s ∷ ss) (f ∷ fs) = flat_agrees s f && flat_all_agree ss fs
flat_all_agree _ _ = false

abbrev pub flat_alike : FlatSeen → FlatSeen → Bool
flat_alike s (flat_seens.Known f) = flat_agrees s f
flat_alike (flat_seens.Known f) flat_seens.NoRows = is_flat_table f
flat_alike flat_seens.NoRows flat_seens.NoRows = true

-- each agrees with the form
abbrev pub flat_tuples : List FlatSeen → FlatForm → Bool
flat_tuples ss f = list_all (λ s. flat_agrees s f) ss

-- the only one of a list, and the only two
abbrev pub one_of : List FlatSeen → Option FlatSeen
one_of (s ∷ []) = Some s
one_of _ = None

abbrev pub two_of : List FlatSeen → Option (FlatSeen × FlatSeen)
two_of (s ∷ t ∷ []) = Some (s, t)
two_of _ = None

abbrev pub flat_one : FlatForm → FlatForm → List FlatSeen → Option FlatSeen
flat_one f g ss = with (one_of ss) (λ s. when (flat_agrees s f) (Some (flat_seens.Known g)))

abbrev pub flat_two : FlatForm → FlatForm → FlatForm → List FlatSeen → Option FlatSeen
flat_two e f g ss = with (two_of ss) (λ p. when (flat_agrees p.0 e && flat_agrees p.1 f) (Some (flat_seens.Known g)))

abbrev pub flat_int : FlatForm
flat_int = flat_form int_form

abbrev pub flat_bool : FlatForm
flat_bool = flat_form bool_form

abbrev pub flat_text : FlatForm
flat_text = flat_form text_form

abbrev pub flat_compares : List FlatSeen → Option FlatSeen
flat_compares ss = with (two_of ss) (λ p. when (flat_alike p.0 p.1) (Some (flat_seens.Known flat_bool)))

abbrev pub flat_ordered : FlatSeen × FlatSeen → Bool
flat_ordered p = (flat_agrees p.0 flat_int && flat_agrees p.1 flat_int) || (flat_agrees p.0 flat_text && flat_agrees p.1 flat_text)

abbrev pub flat_orders : List FlatSeen → Option FlatSeen
flat_orders ss = with (two_of ss) (λ p. when (flat_ordered p) (Some (flat_seens.Known flat_bool)))

abbrev pub flat_counted : FlatForm → FlatSeen → Option FlatSeen
flat_counted f (flat_seens.Known (flat.Table ks)) = Some (flat_seens.Known f)
flat_counted f flat_seens.NoRows = Some (flat_seens.Known f)
flat_counted f _ = None

abbrev pub flat_found : FlatSeen → FlatSeen → Option FlatSeen
flat_found (flat_seens.Known (flat.Tuple ks)) s = when (flat_agrees s (flat.Table ks)) (Some (flat_seens.Known flat_bool))
flat_found _ s = None

abbrev pub flat_combined : FlatSeen → FlatSeen → Option FlatSeen
flat_combined (flat_seens.Known (flat.Table ks)) s = when (flat_agrees s (flat.Table ks)) (Some (flat_seens.Known (flat.Table ks)))
flat_combined flat_seens.NoRows (flat_seens.Known (flat.Table ks)) = Some (flat_seens.Known (flat.Table ks))
flat_combined flat_seens.NoRows flat_seens.NoRows = Some flat_seens.NoRows
flat_combined _ _ = None

abbrev pub flat_gathered : List FlatSeen → FlatSeen → Option FlatSeen
flat_gathered ss (flat_seens.Known (flat.Tuple ks)) = when (flat_tuples ss (flat.Tuple ks)) (Some (flat_seens.Known (flat.Table ks)))
flat_gathered ss _ = None

abbrev pub flat_gathers : List FlatSeen → Option FlatSeen
flat_gathers [] = Some flat_seens.NoRows
flat_gathers (s ∷ ss) = flat_gathered (s ∷ ss) s

abbrev pub flat_takes : List FlatForm → FlatForm → List FlatSeen → Option FlatSeen
flat_takes fs f ss = when (flat_all_agree ss fs) (Some (flat_seens.Known f))

-- the form of tuples, and of relations, of a schema that is there
abbrev pub flat_tuple : List RelDecl → ℕ → FlatForm
flat_tuple rels r = flat_form (of_tuple (kinds_of (schema_of rels r)))

abbrev pub flat_table : List RelDecl → ℕ → FlatForm
flat_table rels r = flat_form (of_table (kinds_of (schema_of rels r)))

abbrev pub flat_seen_by : List RelDecl → Op → List FlatSeen → Option FlatSeen
flat_seen_by rels Neg ss = flat_one flat_int flat_int ss
flat_seen_by rels Not ss = flat_one flat_bool flat_bool ss
flat_seen_by rels Add ss = flat_two flat_int flat_int flat_int ss
flat_seen_by rels Sub ss = flat_two flat_int flat_int flat_int ss
flat_seen_by rels Mul ss = flat_two flat_int flat_int flat_int ss
flat_seen_by rels Div ss = flat_two flat_int flat_int flat_int ss
flat_seen_by rels Rem ss = flat_two flat_int flat_int flat_int ss
flat_seen_by rels Eq ss = flat_compares ss
flat_seen_by rels Ne ss = flat_compares ss
flat_seen_by rels Lt ss = flat_orders ss
flat_seen_by rels Le ss = flat_orders ss
flat_seen_by rels Gt ss = flat_orders ss
flat_seen_by rels Ge ss = flat_orders ss
flat_seen_by rels In ss = with (two_of ss) (λ p. flat_found p.0 p.1)
flat_seen_by rels (Field schema i) ss = flat_one (flat_form (of_tuple (kinds_of schema))) (flat.Scalar (kind_at schema i)) ss
flat_seen_by rels (MakeRow schema) ss = flat_takes (map flat_form (map of_scalar (kinds_of schema))) (flat_form (of_tuple (kinds_of schema))) ss
flat_seen_by rels (MakeRel n) ss = flat_gathers ss
flat_seen_by rels (Project schema places) ss =
    when (is_width (project_kinds schema places)) (flat_one (flat_form (of_table (kinds_of schema))) (flat_form (of_table (project_kinds schema places))) ss)
flat_seen_by rels Union ss = with (two_of ss) (λ p. flat_combined p.0 p.1)
flat_seen_by rels Minus ss = with (two_of ss) (λ p. flat_combined p.0 p.1)
flat_seen_by rels Inter ss = with (two_of ss) (λ p. flat_combined p.0 p.1)
flat_seen_by rels (Join left right) ss =
    when (is_apart (names_of right)) (flat_two (flat_form (of_table (kinds_of left))) (flat_form (of_table (kinds_of right))) (flat_form (of_table (join_kinds left right))) ss)
flat_seen_by rels (Group schema by aggs) ss =
    when (is_width (group_kinds schema by aggs)) (flat_one (flat_form (of_table (kinds_of schema))) (flat_form (of_table (group_kinds schema by aggs))) ss)
flat_seen_by rels Count ss = with (one_of ss) (flat_counted flat_int)
flat_seen_by rels Empty ss = with (one_of ss) (flat_counted flat_bool)
flat_seen_by rels (Sum schema i) ss = flat_one (flat_form (of_table (kinds_of schema))) flat_int ss
flat_seen_by rels (Min schema i) ss = flat_one (flat_form (of_table (kinds_of schema))) (flat.Scalar (kind_at schema i)) ss
flat_seen_by rels (Max schema i) ss = flat_one (flat_form (of_table (kinds_of schema))) (flat.Scalar (kind_at schema i)) ss
flat_seen_by rels (atom_op sign r) ss = when (nat_lt r.0 (length rels)) (flat_one (flat_tuple rels r.0) flat.Delta ss)
flat_seen_by rels (Bulk sign r) ss = when (nat_lt r.0 (length rels)) (flat_one (flat_table rels r.0) flat.Delta ss)
flat_seen_by rels (Ins r) ss = when (nat_lt r.0 (length rels)) (flat_one flat.Delta (flat_table rels r.0) ss)
flat_seen_by rels (Del r) ss = when (nat_lt r.0 (length rels)) (flat_one flat.Delta (flat_table rels r.0) ss)
flat_seen_by rels IsFail ss = flat_one flat.Delta flat_bool ss
flat_seen_by rels Smash ss = flat_two flat.Delta flat.Delta flat.Delta ss
flat_seen_by rels Merge ss = flat_two flat.Delta flat.Delta flat.Delta ss
