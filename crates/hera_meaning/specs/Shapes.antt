-- Sound programs with given shapes: of the slots, of what the walks gather, and of the results.
use Rattle.std.specs.Prelude.{◌≡◌, ℕ, List, map, Option, Some, slice_get}
use Rattle.std.specs.Option.{option_map}
use Rattle.hera_meaning.specs.declared.scalars.Kind.{Kind}
use Rattle.hera_meaning.specs.declared.schemas.Attr.{Attr}
use Rattle.hera_meaning.specs.declared.trees.Shape.{Shape}
use Rattle.hera_meaning.specs.declared.shapes.BodyShapes.{BodyShapes}
use Rattle.hera_meaning.specs.Forms.{Form, of_tuple, form_of, kinds_of}
use Rattle.hera_meaning.specs.Hosts.{Hosts}
use Rattle.hera_meaning.specs.Trees.{Expr, constant, local, relation, prim, chain, and_all, or_any, when, select, map_each, call, host, Exprs, no_more, then_expr, Links, no_link, link, Hypos, no_hypo, hypo, Command, set_slot, if_arms, while, foreach, print, apply, commit, rollback, assert, return, return_value, call_proc, Block, no_stmt, then_stmt, Arms, no_arm, arm, Body_tree, Program_tree}
use Rattle.hera_meaning.specs.Sound.{Scope, IsSlot, IsOf, Body_forms, scope_of, Shaped}

-- ---- shapes as plain values, with attribute names and without

-- a body's shapes
pub record Body_types : Type 0 where
  pub slots : List Shape
  pub gathers : List (Option (List Attr))
  pub result : Option Shape

abbrev pub body_types : BodyShapes → Body_types
body_types s = record { slots = s.slots.items; gathers = s.gathers.items; result = s.result }

-- the same with attribute names left out
pub record Body_shapes : Type 0 where
  pub slots : List Form
  pub gathers : List (Option (List Kind))
  pub result : Option Form

abbrev pub form_if : Option Shape → Option Form
form_if shape = option_map form_of shape

abbrev pub kinds_if : Option (List Attr) → Option (List Kind)
kinds_if schema = option_map kinds_of schema

abbrev pub without_names : Body_types → Body_shapes
without_names t = record { slots = map form_of t.slots; gathers = map kinds_if t.gathers; result = form_if t.result }

abbrev pub body_shapes : BodyShapes → Body_shapes
body_shapes s = without_names (body_types s)

-- what `Shaped` asks for
abbrev pub forms_of : Body_shapes → Body_forms
forms_of s = record { slots = s.slots; result = s.result }

-- ---- what walks gather

module _ (sc : Scope) (gathers : List (Option (List Kind))) where
  -- the walk into this slot gathers tuples of these kinds
  abbrev pub IsGathered : ℕ → List Kind → Type 0
  IsGathered i ks = slice_get gathers i ≡ Some (Some ks)

  -- it gathers the tuples that it walks
  abbrev pub GathersWalked : ℕ → Type 0
  GathersWalked i = (ks : List Kind) × IsSlot sc i (of_tuple ks) × IsGathered i ks

  -- it gathers the tuples that this gives
  abbrev pub GathersMade : ℕ → Expr → Type 0
  GathersMade i body = (ks : List Kind) × (rs : List ℕ) × IsOf sc rs body (of_tuple ks) × IsGathered i ks

  -- each walk in a phrase gathers what is said of its slot
  abbrev mutual
    pub Gathers : Expr → Type 0
    Gathers (constant c) = Unit {0}
    Gathers (local i) = Unit {0}
    Gathers (relation r) = Unit {0}
    Gathers (prim op args at) = GathersAll args
    Gathers (chain first links) = Gathers first × GathersLinks links
    Gathers (and_all args) = GathersAll args
    Gathers (or_any args) = GathersAll args
    Gathers (when body hypos) = Gathers body × GathersHypos hypos
    Gathers (select i of body) = Gathers of × Gathers body × GathersWalked i
    Gathers (map_each i of body) = Gathers of × Gathers body × GathersMade i body
    Gathers (call k args) = GathersAll args
    Gathers (host h args) = GathersAll args

    pub GathersAll : Exprs → Type 0
    GathersAll no_more = Unit {0}
    GathersAll (then_expr e es) = Gathers e × GathersAll es

    pub GathersLinks : Links → Type 0
    GathersLinks no_link = Unit {0}
    GathersLinks (link op arg at rest) = Gathers arg × GathersLinks rest

    pub GathersHypos : Hypos → Type 0
    GathersHypos no_hypo = Unit {0}
    GathersHypos (hypo d at rest) = Gathers d × GathersHypos rest

  abbrev mutual
    pub CommandGathers : Command → Type 0
    CommandGathers (set_slot i e) = Gathers e
    CommandGathers (if_arms arms other) = ArmsGather arms × BlockGathers other
    CommandGathers (while c block) = Gathers c × BlockGathers block
    CommandGathers (foreach i of block) = Gathers of × BlockGathers block × GathersWalked i
    CommandGathers (print e shape) = Gathers e
    CommandGathers (apply d at) = Gathers d
    CommandGathers (commit label) = Unit {0}
    CommandGathers rollback = Unit {0}
    CommandGathers (assert c at) = Gathers c
    CommandGathers return = Unit {0}
    CommandGathers (return_value e) = Gathers e
    CommandGathers (call_proc k args) = GathersAll args

    pub BlockGathers : Block → Type 0
    BlockGathers no_stmt = Unit {0}
    BlockGathers (then_stmt c rest) = CommandGathers c × BlockGathers rest

    pub ArmsGather : Arms → Type 0
    ArmsGather no_arm = Unit {0}
    ArmsGather (arm c block rest) = Gathers c × BlockGathers block × ArmsGather rest

-- ---- programs

-- the program is sound with these shapes of its bodies
pub record IsShaped (p : Program_tree) (hosts : Hosts) (shapes : List Body_shapes) : Type 0 where
  pub shaped : Shaped p hosts (map forms_of shapes)
  pub gathers : (k : ℕ) (b : Body_tree) (own : Body_shapes) → slice_get p.bodies k ≡ Some b → slice_get shapes k ≡ Some own → BlockGathers (scope_of p hosts (map forms_of shapes) b (forms_of own)) own.gathers b.block
